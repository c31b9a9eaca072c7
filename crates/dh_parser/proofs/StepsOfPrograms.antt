-- Reading of commands and programs takes no more steps than there are tokens and one, part by part
-- and by recursion on the steps.
use Rattle.std.proofs.Common.{ℕ, zero, suc, ◌≤◌, List, [], ◌∷◌, length, ◌<◌, arith}
use Rattle.dh_base.specs.declared.places.Place.{Place}
use Rattle.dh_lexer.specs.declared.tokens.Token.{Token}
use Rattle.dh_lexer.specs.declared.tokens.TokenKind.{TokenKind}
use Rattle.dh_lexer.specs.declared.tokens.TokenKind.TheVariants as kind
use Rattle.dh_parser.specs.declared.parsing.reading.Mark.TheVariants as mark
use Rattle.dh_parser.specs.Marks.{comes}
use Rattle.dh_parser.specs.Grammar.{NameText, ViewText, shrink, split, suffix, shift, ReducerText, adds, subtracts, multiplies, assign, call, PartText, ItemsText, ProgramText}
use Rattle.dh_parser.specs.Reading.{Outcome, good, bad, deep, outcome_bind, the, name_text, the_name, the_number, the_kind, the_type, access_from, operand, read, steps, the_expression, more_arguments, the_arguments, the_factor, the_suffix, the_offset, more_of, brackets, view_from, the_view, the_value, let_from, view_command_from, reduce_from, store_from, after_name_from, after_name, simple_from, the_simple, the_declared, the_unroll, the_head, Blocks, the_if, the_while, the_combine, the_for, the_compound, Beginning, begins_simple, begins_compound, begins_semicolon, begins_nothing, beginning, part_with, the_part, the_parts, read_block, the_block, the_parameter, more_parameters, the_parameters, decl_from, def_from, items_from, the_items, the_program, expression}
use Rattle.dh_parser.specs.Programs.{IsAnswered}
use Rattle.dh_parser.proofs.StepsOfExpressions.{Left, next_left, either_left, mark_left, name_left, number_left, kind_left, type_left, access_left, operand_left, read_left, none_below, le-refl, lt-own, lt-suc, suc-lt}

pub expression_left : (ts : List Token) → Left 1 (length ts) (the_expression ts)
unfolding expression
expression_left ts = read_left (steps ts) 0 ts (lt-own (length ts))

le-suc : (n : ℕ) → n ≤ suc n
le-suc n = omega arith

more_arguments_left : (n : ℕ) (ts : List Token) → length ts < n → Left 1 (length ts) (more_arguments n ts)
more_arguments_left zero ts h = absurd (none_below (length ts) h)
more_arguments_left (suc n) ts h =
    either_left _ _ (comes mark.Comma ts) _ _
    (λ _.
    next_left 1 (length ts) _ _ (the mark.Comma ts) _ (mark_left mark.Comma ts) λ comma r0 l0.
    next_left 1 (length r0) _ _ (the_expression r0) _ (expression_left r0) λ x r1 l1.
    next_left 1 (length r1) _ _ (more_arguments n r1) _ (more_arguments_left n r1 (omega arith)) λ more r2 l2.
    (omega arith))
    (λ _.
    next_left 1 (length ts) _ _ (the mark.CloseParen ts) _ (mark_left mark.CloseParen ts) λ closer r0 l0.
    (omega arith))

arguments_left : (ts : List Token) → Left 1 (length ts) (the_arguments ts)
arguments_left ts =
    either_left _ _ (comes mark.CloseParen ts) _ _
    (λ _.
    next_left 1 (length ts) _ _ (the mark.CloseParen ts) _ (mark_left mark.CloseParen ts) λ closer r0 l0.
    (omega arith))
    (λ _.
    next_left 1 (length ts) _ _ (the_expression ts) _ (expression_left ts) λ x r0 l0.
    next_left 1 (length r0) _ _ (more_arguments (steps r0) r0) _ (more_arguments_left (steps r0) r0 (lt-own (length r0))) λ more r1 l1.
    (omega arith))

factor_left : (ts : List Token) → Left 1 (length ts) (the_factor ts)
factor_left ts =
    next_left 1 (length ts) _ _ (the mark.OpenBracket ts) _ (mark_left mark.OpenBracket ts) λ opener r0 l0.
    next_left 1 (length r0) _ _ (the mark.By r0) _ (mark_left mark.By r0) λ word r1 l1.
    next_left 1 (length r1) _ _ (the_number r1) _ (number_left r1) λ factor r2 l2.
    next_left 1 (length r2) _ _ (the mark.CloseBracket r2) _ (mark_left mark.CloseBracket r2) λ closer r3 l3.
    (omega arith)

suffix_left : (ts : List Token) → Left 1 (length ts) (the_suffix ts)
suffix_left ts =
    next_left 1 (length ts) _ _ (the mark.OpenBracket ts) _ (mark_left mark.OpenBracket ts) λ opener r0 l0.
    next_left 1 (length r0) _ _ (the mark.By r0) _ (mark_left mark.By r0) λ word r1 l1.
    next_left 1 (length r1) _ _ (the_number r1) _ (number_left r1) λ factor r2 l2.
    next_left 1 (length r2) _ _ (the mark.Star r2) _ (mark_left mark.Star r2) λ sign r3 l3.
    next_left 1 (length r3) _ _ (operand (read (steps r3)) r3) _ (operand_left (steps r3) (read (steps r3)) (read_left (steps r3)) r3 (le-suc (length r3))) λ offset r4 l4.
    next_left 1 (length r4) _ _ (the mark.CloseBracket r4) _ (mark_left mark.CloseBracket r4) λ closer r5 l5.
    (omega arith)

offset_left : (ts : List Token) → Left 1 (length ts) (the_offset ts)
offset_left ts =
    next_left 1 (length ts) _ _ (the mark.OpenBracket ts) _ (mark_left mark.OpenBracket ts) λ opener r0 l0.
    next_left 1 (length r0) _ _ (the mark.By r0) _ (mark_left mark.By r0) λ word r1 l1.
    next_left 1 (length r1) _ _ (the_expression r1) _ (expression_left r1) λ offset r2 l2.
    next_left 1 (length r2) _ _ (the mark.CloseBracket r2) _ (mark_left mark.CloseBracket r2) λ closer r3 l3.
    (omega arith)

more_left : {A : Type 0} (one : List Token → Outcome A) → ((ts : List Token) → Left 1 (length ts) (one ts)) → (n : ℕ) (ts : List Token) → length ts < n → Left 0 (length ts) (more_of one n ts)
more_left one g zero ts h = absurd (none_below (length ts) h)
more_left one g (suc n) ts h =
    either_left _ _ (comes mark.OpenBracket ts) _ _
    (λ _.
    next_left 1 (length ts) _ _ (one ts) _ (g ts) λ a r0 l0.
    next_left 0 (length r0) _ _ (more_of one n r0) _ (more_left one g n r0 (omega arith)) λ more r1 l1.
    (omega arith))
    (λ _. le-refl (length ts))

brackets_left : {A : Type 0} (one : List Token → Outcome A) → ((ts : List Token) → Left 1 (length ts) (one ts)) → (make : NameText → A → List A → ViewText) (ts : List Token) → Left 1 (suc (length ts)) (brackets one make ts)
brackets_left one g make ts =
    next_left 1 (length ts) _ _ (the_name ts) _ (name_left ts) λ parent r0 l0.
    next_left 1 (length r0) _ _ (one r0) _ (g r0) λ a r1 l1.
    next_left 0 (length r1) _ _ (more_of one (steps r1) r1) _ (more_left one g (steps r1) r1 (lt-own (length r1))) λ more r2 l2.
    (omega arith)

view_left_from : (k : TokenKind) (t : Token) (ts : List Token) → Left 1 (length (t ∷ ts)) (view_from k t ts)
view_left_from kind.Shrink t ts = brackets_left the_factor factor_left (shrink t.place) ts
view_left_from kind.Split t ts = brackets_left the_factor factor_left (split t.place) ts
view_left_from kind.Suffix t ts = brackets_left the_suffix suffix_left (suffix t.place) ts
view_left_from kind.Shift t ts = brackets_left the_offset offset_left (shift t.place) ts
view_left_from _ t ts = tt

view_left : (ts : List Token) → Left 1 (length ts) (the_view ts)
view_left [] = tt
view_left (t ∷ ts) = view_left_from t.kind t ts

value_left : (ts : List Token) → Left 0 (length ts) (the_value ts)
value_left ts =
    either_left _ _ (comes mark.Assign ts) _ _
    (λ _.
    next_left 1 (length ts) _ _ (the mark.Assign ts) _ (mark_left mark.Assign ts) λ equal r0 l0.
    next_left 1 (length r0) _ _ (the_expression r0) _ (expression_left r0) λ x r1 l1.
    (omega arith))
    (λ _. le-refl (length ts))

let_left : (word : Place) (ts : List Token) → Left 1 (suc (length ts)) (let_from word ts)
let_left word ts =
    next_left 1 (length ts) _ _ (the_name ts) _ (name_left ts) λ n r l.
    either_left _ _ (comes mark.Colon r) _ _
    (λ _.
    next_left 1 (length r) _ _ (the mark.Colon r) _ (mark_left mark.Colon r) λ colon r0 l0.
    next_left 1 (length r0) _ _ (the_type r0) _ (type_left r0) λ t r1 l1.
    next_left 0 (length r1) _ _ (the_value r1) _ (value_left r1) λ value r2 l2.
    (omega arith))
    (λ _.
    next_left 1 (length r) _ _ (the mark.Assign r) _ (mark_left mark.Assign r) λ equal r0 l0.
    next_left 1 (length r0) _ _ (the_expression r0) _ (expression_left r0) λ x r1 l1.
    (omega arith))

view_command_left : (word : Place) (ts : List Token) → Left 1 (suc (length ts)) (view_command_from word ts)
view_command_left word ts =
    next_left 1 (length ts) _ _ (the_name ts) _ (name_left ts) λ n r0 l0.
    next_left 1 (length r0) _ _ (the mark.Assign r0) _ (mark_left mark.Assign r0) λ equal r1 l1.
    next_left 1 (length r1) _ _ (the_view r1) _ (view_left r1) λ v r2 l2.
    (omega arith)

reduce_left : (n : NameText) (sign : ReducerText) (place : Place) (ts : List Token) → Left 1 (suc (length ts)) (reduce_from n sign place ts)
reduce_left n sign place ts =
    next_left 1 (length ts) _ _ (the_expression ts) _ (expression_left ts) λ x r0 l0.
    (omega arith)

assign_left : (n : NameText) (place : Place) (ts : List Token) → Left 1 (suc (length ts)) (outcome_bind (the_expression ts) (λ e r. good (assign n place e) r))
assign_left n place ts =
    next_left 1 (length ts) _ _ (the_expression ts) _ (expression_left ts) λ x r0 l0.
    (omega arith)

call_left : (n : NameText) (place : Place) (ts : List Token) → Left 1 (suc (length ts)) (outcome_bind (the_arguments ts) (λ l r. good (call n place l) r))
call_left n place ts =
    next_left 1 (length ts) _ _ (the_arguments ts) _ (arguments_left ts) λ l r0 l0.
    (omega arith)

store_left : (n : NameText) (ts : List Token) → Left 1 (length ts) (store_from n ts)
store_left n ts =
    next_left 1 (length ts) _ _ (access_from (read (steps ts)) n ts) _ (access_left (steps ts) (read (steps ts)) (read_left (steps ts)) n ts (le-suc (length ts))) λ a r0 l0.
    next_left 1 (length r0) _ _ (the mark.Becomes r0) _ (mark_left mark.Becomes r0) λ becomes r1 l1.
    next_left 1 (length r1) _ _ (the_expression r1) _ (expression_left r1) λ x r2 l2.
    (omega arith)

after_left_from : (n : NameText) (k : TokenKind) (t : Token) (ts : List Token) → Left 1 (length (t ∷ ts)) (after_name_from n k t ts)
after_left_from n kind.Becomes t ts = assign_left n t.place ts
after_left_from n kind.OpenParen t ts = call_left n t.place ts
after_left_from n kind.OpenBracket t ts = store_left n (t ∷ ts)
after_left_from n kind.OpenBrace t ts = store_left n (t ∷ ts)
after_left_from n kind.PlusAssign t ts = reduce_left n adds t.place ts
after_left_from n kind.MinusAssign t ts = reduce_left n subtracts t.place ts
after_left_from n kind.StarAssign t ts = reduce_left n multiplies t.place ts
after_left_from n _ t ts = tt

after_left : (n : NameText) (ts : List Token) → Left 1 (length ts) (after_name n ts)
after_left n [] = tt
after_left n (t ∷ ts) = after_left_from n t.kind t ts

later : {A : Type 0} (n : ℕ) (o : Outcome A) → Left 1 n o → Left 1 (suc n) o
later n (good a r) h = omega arith
later n (bad r) h = tt
later n deep h = h

simple_left_from : (k : TokenKind) (t : Token) (ts : List Token) → Left 1 (length (t ∷ ts)) (simple_from k t ts)
simple_left_from kind.Let t ts = let_left t.place ts
simple_left_from kind.View t ts = view_command_left t.place ts
simple_left_from (kind.Name n) t ts = later (length ts) _ (after_left (name_text n t.place) ts)
simple_left_from _ t ts = tt

pub simple_left : (ts : List Token) → Left 1 (length ts) (the_simple ts)
simple_left [] = tt
simple_left (t ∷ ts) = simple_left_from t.kind t ts

declared_left : (ts : List Token) → Left 0 (length ts) (the_declared ts)
declared_left ts =
    either_left _ _ (comes mark.Colon ts) _ _
    (λ _.
    next_left 1 (length ts) _ _ (the mark.Colon ts) _ (mark_left mark.Colon ts) λ colon r0 l0.
    next_left 1 (length r0) _ _ (the_kind r0) _ (kind_left r0) λ k r1 l1.
    (omega arith))
    (λ _. le-refl (length ts))

unroll_left : (ts : List Token) → Left 0 (length ts) (the_unroll ts)
unroll_left ts =
    either_left _ _ (comes mark.Unroll ts) _ _
    (λ _.
    next_left 1 (length ts) _ _ (the mark.Unroll ts) _ (mark_left mark.Unroll ts) λ word r0 l0.
    next_left 1 (length r0) _ _ (the_number r0) _ (number_left r0) λ factor r1 l1.
    (omega arith))
    (λ _. le-refl (length ts))

pub head_left : (ts : List Token) → Left 1 (length ts) (the_head ts)
head_left ts =
    next_left 1 (length ts) _ _ (the mark.For ts) _ (mark_left mark.For ts) λ word r0 l0.
    next_left 1 (length r0) _ _ (the mark.OpenParen r0) _ (mark_left mark.OpenParen r0) λ opener r1 l1.
    next_left 1 (length r1) _ _ (the mark.Let r1) _ (mark_left mark.Let r1) λ let_word r2 l2.
    next_left 1 (length r2) _ _ (the_name r2) _ (name_left r2) λ iterator r3 l3.
    next_left 0 (length r3) _ _ (the_declared r3) _ (declared_left r3) λ declared r4 l4.
    next_left 1 (length r4) _ _ (the mark.Assign r4) _ (mark_left mark.Assign r4) λ equal r5 l5.
    next_left 1 (length r5) _ _ (the_number r5) _ (number_left r5) λ low r6 l6.
    next_left 1 (length r6) _ _ (the mark.Range r6) _ (mark_left mark.Range r6) λ range r7 l7.
    next_left 1 (length r7) _ _ (the_number r7) _ (number_left r7) λ high r8 l8.
    next_left 1 (length r8) _ _ (the mark.CloseParen r8) _ (mark_left mark.CloseParen r8) λ closer r9 l9.
    next_left 0 (length r9) _ _ (the_unroll r9) _ (unroll_left r9) λ unroll r10 l10.
    (omega arith)

-- a reader of blocks that does not give up on fewer than m tokens
abbrev pub EnoughBlocks : ℕ → Blocks → Type 0
EnoughBlocks m blocks = (ts : List Token) → length ts < m → Left 1 (length ts) (blocks ts)

pub if_left : (m : ℕ) (blocks : Blocks) → EnoughBlocks m blocks → (n : ℕ) (ts : List Token) → length ts ≤ m → length ts < n → Left 1 (length ts) (the_if blocks n ts)
if_left m blocks h zero ts few more = absurd (none_below (length ts) more)
if_left m blocks h (suc n) ts few more =
    next_left 1 (length ts) _ _ (the mark.If ts) _ (mark_left mark.If ts) λ word r0 l0.
    next_left 1 (length r0) _ _ (the mark.OpenParen r0) _ (mark_left mark.OpenParen r0) λ opener r1 l1.
    next_left 1 (length r1) _ _ (the_expression r1) _ (expression_left r1) λ x r2 l2.
    next_left 1 (length r2) _ _ (the mark.CloseParen r2) _ (mark_left mark.CloseParen r2) λ closer r3 l3.
    next_left 1 (length r3) _ _ (blocks r3) _ (h r3 (omega arith)) λ b r4 l4.
    next_left 0 (length r4) _ _ _ _ (either_left _ _ (comes mark.Else r4) _ _
    (λ _. next_left 1 (length r4) _ _ (the mark.Else r4) _ (mark_left mark.Else r4) λ else_word q l.
    either_left _ _ (comes mark.If q) _ _
    (λ _. next_left 1 (length q) _ _ (the_if blocks n q) _ (if_left m blocks h n q (omega arith) (omega arith)) λ i q1 k1. (omega arith))
    (λ _. next_left 1 (length q) _ _ (blocks q) _ (h q (omega arith)) λ c q1 k1. (omega arith)))
    (λ _. le-refl (length r4))) λ other r5 l5.
    (omega arith)

pub while_left : (m : ℕ) (blocks : Blocks) → EnoughBlocks m blocks → (ts : List Token) → length ts ≤ m → Left 1 (length ts) (the_while blocks ts)
while_left m blocks h ts few =
    next_left 1 (length ts) _ _ (the mark.While ts) _ (mark_left mark.While ts) λ word r0 l0.
    next_left 1 (length r0) _ _ (the mark.OpenParen r0) _ (mark_left mark.OpenParen r0) λ opener r1 l1.
    next_left 1 (length r1) _ _ (the_expression r1) _ (expression_left r1) λ x r2 l2.
    next_left 1 (length r2) _ _ (the mark.CloseParen r2) _ (mark_left mark.CloseParen r2) λ closer r3 l3.
    next_left 1 (length r3) _ _ (blocks r3) _ (h r3 (omega arith)) λ b r4 l4.
    (omega arith)

pub combine_left : (m : ℕ) (blocks : Blocks) → EnoughBlocks m blocks → (ts : List Token) → length ts ≤ m → Left 0 (length ts) (the_combine blocks ts)
combine_left m blocks h ts few =
    either_left _ _ (comes mark.Combine ts) _ _
    (λ _.
    next_left 1 (length ts) _ _ (the mark.Combine ts) _ (mark_left mark.Combine ts) λ word r0 l0.
    next_left 1 (length r0) _ _ (blocks r0) _ (h r0 (omega arith)) λ b r1 l1.
    (omega arith))
    (λ _. le-refl (length ts))

pub for_left : (m : ℕ) (blocks : Blocks) → EnoughBlocks m blocks → (ts : List Token) → length ts ≤ m → Left 1 (length ts) (the_for blocks ts)
for_left m blocks h ts few =
    next_left 1 (length ts) _ _ (the_head ts) _ (head_left ts) λ head r0 l0.
    next_left 1 (length r0) _ _ (blocks r0) _ (h r0 (omega arith)) λ b r1 l1.
    next_left 0 (length r1) _ _ (the_combine blocks r1) _ (combine_left m blocks h r1 (omega arith)) λ combined r2 l2.
    (omega arith)

pub compound_left : (m : ℕ) (blocks : Blocks) → EnoughBlocks m blocks → (ts : List Token) → length ts < m → Left 1 (length ts) (the_compound blocks ts)
compound_left m blocks h ts few =
    either_left _ _ (comes mark.If ts) _ _
    (λ _. next_left 1 (length ts) _ _ (the_if blocks (steps ts) ts) _ (if_left m blocks h (steps ts) ts (omega arith) (lt-own (length ts))) λ i r l. l)
    (λ _. either_left _ _ (comes mark.While ts) _ _
    (λ _. while_left m blocks h ts (omega arith))
    (λ _. either_left _ _ (comes mark.For ts) _ _
    (λ _. for_left m blocks h ts (omega arith))
    (λ _. next_left 1 (length ts) _ _ (blocks ts) _ (h ts few) λ b r l. l)))

-- a reader of parts that does not give up on fewer than n tokens
abbrev EnoughParts : ℕ → (List Token → Outcome PartText) → Type 0
EnoughParts n go = (ts : List Token) → length ts < n → Left 0 (length ts) (go ts)

pub part_with_left : (m n : ℕ) (blocks : Blocks) → EnoughBlocks m blocks → (go : List Token → Outcome PartText) → ((ts : List Token) → length ts < m → length ts < n → Left 0 (length ts) (go ts))
    → (ts : List Token) → length ts < m → length ts < suc n → (b : Beginning) → Left 0 (length ts) (part_with blocks go ts b)
part_with_left m n blocks h go g ts few more begins_simple =
    next_left 1 (length ts) _ _ (the_simple ts) _ (simple_left ts) λ s r l.
    either_left _ _ (comes mark.Semicolon r) _ _
    (λ _.
    next_left 1 (length r) _ _ (the mark.Semicolon r) _ (mark_left mark.Semicolon r) λ semicolon r0 l0.
    next_left 0 (length r0) _ _ (go r0) _ (g r0 (omega arith) (omega arith)) λ later_part r1 l1.
    (omega arith))
    (λ _. (omega arith))
part_with_left m n blocks h go g ts few more begins_compound =
    next_left 1 (length ts) _ _ (the_compound blocks ts) _ (compound_left m blocks h ts few) λ c r0 l0.
    next_left 0 (length r0) _ _ (go r0) _ (g r0 (omega arith) (omega arith)) λ later_part r1 l1.
    (omega arith)
part_with_left m n blocks h go g ts few more begins_semicolon =
    next_left 1 (length ts) _ _ (the mark.Semicolon ts) _ (mark_left mark.Semicolon ts) λ semicolon r0 l0.
    next_left 0 (length r0) _ _ (go r0) _ (g r0 (omega arith) (omega arith)) λ later_part r1 l1.
    (omega arith)
part_with_left m n blocks h go g ts few more begins_nothing = le-refl (length ts)

pub part_left : (m : ℕ) (blocks : Blocks) → EnoughBlocks m blocks → (n : ℕ) (ts : List Token) → length ts < m → length ts < n → Left 0 (length ts) (the_part blocks n ts)
part_left m blocks h zero ts few more = absurd (none_below (length ts) more)
part_left m blocks h (suc n) ts few more = part_with_left m n blocks h (the_part blocks n) (part_left m blocks h n) ts few more (beginning ts)

pub parts_left : (m : ℕ) (blocks : Blocks) → EnoughBlocks m blocks → (n : ℕ) (ts : List Token) → length ts < m → length ts < n → Left 0 (length ts) (the_parts blocks n ts)
parts_left m blocks h zero ts few more = absurd (none_below (length ts) more)
parts_left m blocks h (suc n) ts few more =
    next_left 0 (length ts) _ _ (the_part blocks (steps ts) ts) _ (part_left m blocks h (steps ts) ts few (lt-own (length ts))) λ p r l.
    either_left _ _ (comes mark.Dashes r) _ _
    (λ _.
    next_left 1 (length r) _ _ (the mark.Dashes r) _ (mark_left mark.Dashes r) λ dashes r0 l0.
    next_left 0 (length r0) _ _ (the_parts blocks n r0) _ (parts_left m blocks h n r0 (omega arith) (omega arith)) λ later_parts r1 l1.
    (omega arith))
    (λ _. (omega arith))

pub blocks_left : (d : ℕ) → EnoughBlocks d (read_block d)
blocks_left zero ts few = absurd (none_below (length ts) few)
blocks_left (suc d) ts few =
    next_left 1 (length ts) _ _ (the mark.OpenBrace ts) _ (mark_left mark.OpenBrace ts) λ opener r0 l0.
    next_left 0 (length r0) _ _ (the_parts (read_block d) (steps r0) r0) _ (parts_left d (read_block d) (blocks_left d) (steps r0) r0 (omega arith) (lt-own (length r0))) λ parts r1 l1.
    next_left 1 (length r1) _ _ (the mark.CloseBrace r1) _ (mark_left mark.CloseBrace r1) λ closer r2 l2.
    (omega arith)

pub block_left : (ts : List Token) → Left 1 (length ts) (the_block ts)
unfolding the_block
block_left ts = blocks_left (steps ts) ts (lt-own (length ts))

pub parameter_left : (ts : List Token) → Left 1 (length ts) (the_parameter ts)
parameter_left ts =
    next_left 1 (length ts) _ _ (the_name ts) _ (name_left ts) λ n r0 l0.
    next_left 1 (length r0) _ _ (the mark.Colon r0) _ (mark_left mark.Colon r0) λ colon r1 l1.
    next_left 1 (length r1) _ _ (the_type r1) _ (type_left r1) λ t r2 l2.
    (omega arith)

more_parameters_left : (n : ℕ) (ts : List Token) → length ts < n → Left 1 (length ts) (more_parameters n ts)
more_parameters_left zero ts h = absurd (none_below (length ts) h)
more_parameters_left (suc n) ts h =
    either_left _ _ (comes mark.Comma ts) _ _
    (λ _.
    next_left 1 (length ts) _ _ (the mark.Comma ts) _ (mark_left mark.Comma ts) λ comma r0 l0.
    next_left 1 (length r0) _ _ (the_parameter r0) _ (parameter_left r0) λ p r1 l1.
    next_left 1 (length r1) _ _ (more_parameters n r1) _ (more_parameters_left n r1 (omega arith)) λ more r2 l2.
    (omega arith))
    (λ _.
    next_left 1 (length ts) _ _ (the mark.CloseParen ts) _ (mark_left mark.CloseParen ts) λ closer r0 l0.
    (omega arith))

pub parameters_left : (ts : List Token) → Left 1 (length ts) (the_parameters ts)
parameters_left ts =
    either_left _ _ (comes mark.CloseParen ts) _ _
    (λ _.
    next_left 1 (length ts) _ _ (the mark.CloseParen ts) _ (mark_left mark.CloseParen ts) λ closer r0 l0.
    (omega arith))
    (λ _.
    next_left 1 (length ts) _ _ (the_parameter ts) _ (parameter_left ts) λ p r0 l0.
    next_left 1 (length r0) _ _ (more_parameters (steps r0) r0) _ (more_parameters_left (steps r0) r0 (lt-own (length r0))) λ more r1 l1.
    (omega arith))

-- a reader of items that does not give up on fewer than n tokens
abbrev EnoughItems : ℕ → (List Token → Outcome ItemsText) → Type 0
EnoughItems n go = (ts : List Token) → length ts < n → Left 0 (length ts) (go ts)

decl_left : (n : ℕ) (word : Place) (go : List Token → Outcome ItemsText) → EnoughItems n go → (ts : List Token) → length ts < n → Left 0 (suc (length ts)) (decl_from word go ts)
decl_left n word go g ts few =
    next_left 1 (length ts) _ _ (the_name ts) _ (name_left ts) λ name r0 l0.
    next_left 1 (length r0) _ _ (the mark.Colon r0) _ (mark_left mark.Colon r0) λ colon r1 l1.
    next_left 1 (length r1) _ _ (the_type r1) _ (type_left r1) λ t r2 l2.
    next_left 1 (length r2) _ _ (the mark.Semicolon r2) _ (mark_left mark.Semicolon r2) λ semicolon r3 l3.
    next_left 0 (length r3) _ _ (go r3) _ (g r3 (omega arith)) λ more r4 l4.
    (omega arith)

def_left : (n : ℕ) (word : Place) (go : List Token → Outcome ItemsText) → EnoughItems n go → (ts : List Token) → length ts < n → Left 0 (suc (length ts)) (def_from word go ts)
def_left n word go g ts few =
    next_left 1 (length ts) _ _ (the_name ts) _ (name_left ts) λ name r0 l0.
    next_left 1 (length r0) _ _ (the mark.OpenParen r0) _ (mark_left mark.OpenParen r0) λ opener r1 l1.
    next_left 1 (length r1) _ _ (the_parameters r1) _ (parameters_left r1) λ ps r2 l2.
    next_left 1 (length r2) _ _ (the mark.Assign r2) _ (mark_left mark.Assign r2) λ equal r3 l3.
    next_left 1 (length r3) _ _ (the_block r3) _ (block_left r3) λ b r4 l4.
    next_left 0 (length r4) _ _ (go r4) _ (g r4 (omega arith)) λ more r5 l5.
    (omega arith)

items_left_from : (n : ℕ) (go : List Token → Outcome ItemsText) → EnoughItems n go → (k : TokenKind) (t : Token) (ts : List Token) → length ts < n → Left 0 (length (t ∷ ts)) (items_from go k t ts)
items_left_from n go g kind.Decl t ts few = decl_left n t.place go g ts few
items_left_from n go g kind.Def t ts few = def_left n t.place go g ts few
items_left_from n go g _ t ts few = le-refl (length (t ∷ ts))

items_left : (n : ℕ) (ts : List Token) → length ts < n → Left 0 (length ts) (the_items n ts)
items_left zero ts few = absurd (none_below (length ts) few)
items_left (suc n) [] few = le-refl (length {A = Token} [])
items_left (suc n) (t ∷ ts) few = items_left_from n (the_items n) (items_left n) t.kind t ts (suc-lt (length ts) n (lt-suc (length (t ∷ ts)) n few))

program_left : (ts : List Token) → Left 0 (length ts) (the_program ts)
program_left ts =
    next_left 0 (length ts) _ _ (the_items (steps ts) ts) _ (items_left (steps ts) ts (lt-own (length ts))) λ items r0 l0.
    next_left 0 (length r0) _ _ (the_parts (read_block (steps r0)) (steps r0) r0) _ (parts_left (steps r0) (read_block (steps r0)) (blocks_left (steps r0)) (steps r0) r0 (lt-own (length r0)) (lt-own (length r0))) λ parts r1 l1.
    next_left 1 (length r1) _ _ (the mark.End r1) _ (mark_left mark.End r1) λ end r2 l2.
    (omega arith)

answered_from : (n : ℕ) (o : Outcome ProgramText) → Left 0 n o → IsAnswered o
answered_from n (good p rest) h = tt
answered_from n (bad rest) h = tt
answered_from n deep h = h

pub program_answered : (ts : List Token) → IsAnswered (the_program ts)
program_answered ts = answered_from (length ts) (the_program ts) (program_left ts)

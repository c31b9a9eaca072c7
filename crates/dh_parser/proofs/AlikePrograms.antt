-- Commands, blocks and programs are read alike.
use Rattle.std.proofs.Common.{ℕ, zero, suc, List, [], ◌∷◌, length, refl}
use Rattle.dh_base.specs.declared.places.Place.{Place}
use Rattle.dh_lexer.specs.declared.tokens.Token.{Token}
use Rattle.dh_lexer.specs.declared.tokens.TokenKind.{TokenKind}
use Rattle.dh_lexer.specs.declared.tokens.TokenKind.TheVariants as kind
use Rattle.dh_parser.specs.declared.parsing.reading.Mark.TheVariants as mark
use Rattle.dh_parser.specs.Grammar.{NameText, AccessText, ViewText, ReducerText, SimpleText, PartText, ItemsText, no_more_arguments, argument_then, no_arguments, some_arguments, shrink, split, suffix, shift, no_value, some_value, adds, subtracts, multiplies, let_typed, let_value, view, assign, store, reduce, call, no_declared, some_declared, no_unroll, some_unroll, block, last_part, part_then, end_of_part, last_simple, simple_then, compound_then, semicolon_then, block_alone, if_alone, while_loop, for_loop, if_else, no_else, else_block, else_if, no_combine, some_combine, no_more_parameters, parameter_then, no_parameters, some_parameters, no_items, decl_then, def_then}
use Rattle.dh_parser.specs.Reading.{Outcome, outcome_bind, the, name_text, read, steps, the_expression, more_arguments, the_arguments, factor_text, suffix_text, offset_text, the_factor, the_suffix, the_offset, more_of, brackets, view_from, the_view, the_value, let_from, view_command_from, reduce_from, store_from, after_name_from, after_name, simple_from, the_simple, the_declared, the_unroll, head_text, the_head, Blocks, the_if, the_while, the_combine, the_for, the_compound, Beginning, beginning, part_with, the_part, the_parts, read_block, the_block, parameter_text, the_parameter, more_parameters, the_parameters, decl_from, def_from, items_from, the_items, program_text, the_program, good, begins_simple, begins_compound, begins_semicolon, begins_nothing}
use Rattle.dh_parser.proofs.AlikeBasics.{Where, first, second, At, Alikes, next_at, least, ends, no_steps, stepped, by_first, if_comes, Before, takes, stays, passes, by_token, mark_alike, name_alike, number_alike, shared, past}
use Rattle.dh_parser.proofs.AlikeExpressions.{kind_alike, type_alike, access_alike, operand_alike, read_alike, expression_alike}

more_arguments_alike : (n m : ℕ) → Alikes (more_arguments n) (more_arguments m)
more_arguments_alike zero m p q w = no_steps
more_arguments_alike (suc n) m p q w =
    stepped (λ m. more_arguments m (second p q w)) m refl λ m.
    if_comes mark.Comma w (
    next_at _ _ (mark_alike mark.Comma p q w) λ comma w0.
    next_at _ _ (expression_alike p q w0) λ e w1.
    next_at _ _ (more_arguments_alike n m p q w1) λ more w2.
    ends (argument_then comma e more) w2) (
    next_at _ _ (mark_alike mark.CloseParen p q w) λ closer w0.
    ends (no_more_arguments closer) w0)

arguments_alike : Alikes the_arguments the_arguments
arguments_alike p q w =
    if_comes mark.CloseParen w (
    next_at _ _ (mark_alike mark.CloseParen p q w) λ closer w0.
    ends (no_arguments closer) w0) (
    next_at _ _ (expression_alike p q w) λ e w0.
    next_at _ _ (more_arguments_alike (steps (first p w0)) (steps (second p q w0)) p q w0) λ more w1.
    ends (some_arguments e more) w1)

factor_alike : Alikes the_factor the_factor
factor_alike p q w =
    next_at _ _ (mark_alike mark.OpenBracket p q w) λ opener w0.
    next_at _ _ (mark_alike mark.By p q w0) λ word w1.
    next_at _ _ (number_alike p q w1) λ factor w2.
    next_at _ _ (mark_alike mark.CloseBracket p q w2) λ closer w3.
    ends (factor_text opener word factor closer) w3

suffix_alike : Alikes the_suffix the_suffix
suffix_alike p q w =
    next_at _ _ (mark_alike mark.OpenBracket p q w) λ opener w0.
    next_at _ _ (mark_alike mark.By p q w0) λ word w1.
    next_at _ _ (number_alike p q w1) λ factor w2.
    next_at _ _ (mark_alike mark.Star p q w2) λ sign w3.
    next_at _ _ (operand_alike (read (steps (first p w3))) (read (steps (second p q w3))) (read_alike (steps (first p w3)) (steps (second p q w3))) p q w3) λ offset w4.
    next_at _ _ (mark_alike mark.CloseBracket p q w4) λ closer w5.
    ends (suffix_text opener word factor sign offset closer) w5

offset_alike : Alikes the_offset the_offset
offset_alike p q w =
    next_at _ _ (mark_alike mark.OpenBracket p q w) λ opener w0.
    next_at _ _ (mark_alike mark.By p q w0) λ word w1.
    next_at _ _ (expression_alike p q w1) λ offset w2.
    next_at _ _ (mark_alike mark.CloseBracket p q w2) λ closer w3.
    ends (offset_text opener word offset closer) w3

more_alike : {A : Type 0} (one : List Token → Outcome A) → Alikes one one → (n m : ℕ) → Alikes (more_of one n) (more_of one m)
more_alike one h zero m p q w = no_steps
more_alike one h (suc n) m p q w =
    stepped (λ m. more_of one m (second p q w)) m refl λ m.
    if_comes mark.OpenBracket w (
    next_at _ _ (h p q w) λ a w0.
    next_at _ _ (more_alike one h n m p q w0) λ more w1.
    ends (a ∷ more) w1)
    (ends [] w)

brackets_alike : {A : Type 0} (one : List Token → Outcome A) → Alikes one one → (make : NameText → A → List A → ViewText) → Alikes (brackets one make) (brackets one make)
brackets_alike one h make p q w =
    next_at _ _ (name_alike p q w) λ parent w0.
    next_at _ _ (h p q w0) λ a w1.
    next_at _ _ (more_alike one h (steps (first p w1)) (steps (second p q w1)) p q w1) λ more w2.
    ends (make parent a more) w2

view_before : (k : TokenKind) (t : Token) (p q : List Token) (w : Where p) → Before p q w (view_from k t (first p w)) (view_from k t (second p q w))
view_before kind.Shrink t p q w = takes (brackets_alike the_factor factor_alike (shrink t.place) p q w)
view_before kind.Split t p q w = takes (brackets_alike the_factor factor_alike (split t.place) p q w)
view_before kind.Suffix t p q w = takes (brackets_alike the_suffix suffix_alike (suffix t.place) p q w)
view_before kind.Shift t p q w = takes (brackets_alike the_offset offset_alike (shift t.place) p q w)
view_before _ t p q w = stays t w

view_alike : Alikes the_view the_view
view_alike p q w = by_token the_view the_view (least (length p)) (λ t v. view_before t.kind t p q v) w

value_alike : Alikes the_value the_value
value_alike p q w =
    if_comes mark.Assign w (
    next_at _ _ (mark_alike mark.Assign p q w) λ equal w0.
    next_at _ _ (expression_alike p q w0) λ e w1.
    ends (some_value equal e) w1)
    (ends no_value w)

let_alike : (word : Place) → Alikes (let_from word) (let_from word)
let_alike word p q w =
    next_at _ _ (name_alike p q w) λ n w0.
    if_comes mark.Colon w0 (
    next_at _ _ (mark_alike mark.Colon p q w0) λ colon w1.
    next_at _ _ (type_alike p q w1) λ t w2.
    next_at _ _ (value_alike p q w2) λ value w3.
    ends (let_typed word n colon t value) w3) (
    next_at _ _ (mark_alike mark.Assign p q w0) λ equal w1.
    next_at _ _ (expression_alike p q w1) λ e w2.
    ends (let_value word n equal e) w2)

view_command_alike : (word : Place) → Alikes (view_command_from word) (view_command_from word)
view_command_alike word p q w =
    next_at _ _ (name_alike p q w) λ n w0.
    next_at _ _ (mark_alike mark.Assign p q w0) λ equal w1.
    next_at _ _ (view_alike p q w1) λ v w2.
    ends (view word n equal v) w2

reduce_alike : (n : NameText) (sign : ReducerText) (place : Place) → Alikes (reduce_from n sign place) (reduce_from n sign place)
reduce_alike n sign place p q w =
    next_at _ _ (expression_alike p q w) λ e w0.
    ends (reduce n sign place e) w0

-- what follows the access of a store
abbrev stored : AccessText → List Token → Outcome SimpleText
stored a ts =
    outcome_bind (the mark.Becomes ts) λ becomes r.
    outcome_bind (the_expression r) λ e r.
    good (store a becomes e) r

stored_alike : (a : AccessText) → Alikes (stored a) (stored a)
stored_alike a p q w =
    next_at _ _ (mark_alike mark.Becomes p q w) λ becomes w0.
    next_at _ _ (expression_alike p q w0) λ e w1.
    ends (store a becomes e) w1

-- the first token of a store is looked at, and read again with the access
store_alike : (n : NameText) → Alikes (store_from n) (store_from n)
store_alike n p q w =
    next_at _ _ (access_alike (read (steps (first p w))) (read (steps (second p q w))) (read_alike (steps (first p w)) (steps (second p q w))) n p q w) λ a w0.
    stored_alike a p q w0

store_before : (n : NameText) (t : Token) (p q : List Token) (w : Where p) → Before p q w (store_from n (t ∷ first p w)) (store_from n (t ∷ second p q w))
store_before n t p q (shared b) = record { holds = (store_alike n p q (shared (t ∷ b))).holds }
store_before n t p q (past r s l) = record { holds = λ k. (store_alike n p q (past (t ∷ r) (t ∷ s) k)).holds }

after_name_before : (n : NameText) (k : TokenKind) (t : Token) (p q : List Token) (w : Where p) → Before p q w (after_name_from n k t (first p w)) (after_name_from n k t (second p q w))
after_name_before n kind.Becomes t p q w =
    takes (
    next_at _ _ (expression_alike p q w) λ e w0.
    ends (assign n t.place e) w0)
after_name_before n kind.OpenParen t p q w =
    takes (
    next_at _ _ (arguments_alike p q w) λ l w0.
    ends (call n t.place l) w0)
after_name_before n kind.OpenBracket t p q w = store_before n t p q w
after_name_before n kind.OpenBrace t p q w = store_before n t p q w
after_name_before n kind.PlusAssign t p q w = takes (reduce_alike n adds t.place p q w)
after_name_before n kind.MinusAssign t p q w = takes (reduce_alike n subtracts t.place p q w)
after_name_before n kind.StarAssign t p q w = takes (reduce_alike n multiplies t.place p q w)
after_name_before n _ t p q w = stays t w

after_name_alike : (n : NameText) → Alikes (after_name n) (after_name n)
after_name_alike n p q w = by_token (after_name n) (after_name n) (least (length p)) (λ t v. after_name_before n t.kind t p q v) w

simple_before : (k : TokenKind) (t : Token) (p q : List Token) (w : Where p) → Before p q w (simple_from k t (first p w)) (simple_from k t (second p q w))
simple_before kind.Let t p q w = takes (let_alike t.place p q w)
simple_before kind.View t p q w = takes (view_command_alike t.place p q w)
simple_before (kind.Name n) t p q w = takes (after_name_alike (name_text n t.place) p q w)
simple_before _ t p q w = stays t w

simple_alike : Alikes the_simple the_simple
simple_alike p q w = by_token the_simple the_simple (least (length p)) (λ t v. simple_before t.kind t p q v) w

declared_alike : Alikes the_declared the_declared
declared_alike p q w =
    if_comes mark.Colon w (
    next_at _ _ (mark_alike mark.Colon p q w) λ colon w0.
    next_at _ _ (kind_alike p q w0) λ k w1.
    ends (some_declared colon k) w1)
    (ends no_declared w)

unroll_alike : Alikes the_unroll the_unroll
unroll_alike p q w =
    if_comes mark.Unroll w (
    next_at _ _ (mark_alike mark.Unroll p q w) λ word w0.
    next_at _ _ (number_alike p q w0) λ factor w1.
    ends (some_unroll word factor) w1)
    (ends no_unroll w)

head_alike : Alikes the_head the_head
head_alike p q w =
    next_at _ _ (mark_alike mark.For p q w) λ word w0.
    next_at _ _ (mark_alike mark.OpenParen p q w0) λ opener w1.
    next_at _ _ (mark_alike mark.Let p q w1) λ let_word w2.
    next_at _ _ (name_alike p q w2) λ iterator w3.
    next_at _ _ (declared_alike p q w3) λ declared w4.
    next_at _ _ (mark_alike mark.Assign p q w4) λ equal w5.
    next_at _ _ (number_alike p q w5) λ least_value w6.
    next_at _ _ (mark_alike mark.Range p q w6) λ range w7.
    next_at _ _ (number_alike p q w7) λ most_value w8.
    next_at _ _ (mark_alike mark.CloseParen p q w8) λ closer w9.
    next_at _ _ (unroll_alike p q w9) λ unroll w10.
    ends (head_text word opener let_word iterator declared equal least_value range most_value closer unroll) w10

-- two readers of blocks that read alike
abbrev BlocksAlike : Blocks → Blocks → Type 0
BlocksAlike f g = Alikes f g

if_alike : (f g : Blocks) → BlocksAlike f g → (n m : ℕ) → Alikes (the_if f n) (the_if g m)
if_alike f g h zero m p q w = no_steps
if_alike f g h (suc n) m p q w =
    stepped (λ m. the_if g m (second p q w)) m refl λ m.
    next_at _ _ (mark_alike mark.If p q w) λ word w0.
    next_at _ _ (mark_alike mark.OpenParen p q w0) λ opener w1.
    next_at _ _ (expression_alike p q w1) λ e w2.
    next_at _ _ (mark_alike mark.CloseParen p q w2) λ closer w3.
    next_at _ _ (h p q w3) λ k w4.
    next_at _ _ (
    if_comes mark.Else w4 (
    next_at _ _ (mark_alike mark.Else p q w4) λ else_word v.
    if_comes mark.If v (
    next_at _ _ (if_alike f g h n m p q v) λ i v0.
    ends (else_if else_word i) v0) (
    next_at _ _ (h p q v) λ c v0.
    ends (else_block else_word c) v0))
    (ends no_else w4)) λ other w5.
    ends (if_else word opener e closer k other) w5

while_alike : (f g : Blocks) → BlocksAlike f g → Alikes (the_while f) (the_while g)
while_alike f g h p q w =
    next_at _ _ (mark_alike mark.While p q w) λ word w0.
    next_at _ _ (mark_alike mark.OpenParen p q w0) λ opener w1.
    next_at _ _ (expression_alike p q w1) λ e w2.
    next_at _ _ (mark_alike mark.CloseParen p q w2) λ closer w3.
    next_at _ _ (h p q w3) λ k w4.
    ends (while_loop word opener e closer k) w4

combine_alike : (f g : Blocks) → BlocksAlike f g → Alikes (the_combine f) (the_combine g)
combine_alike f g h p q w =
    if_comes mark.Combine w (
    next_at _ _ (mark_alike mark.Combine p q w) λ word w0.
    next_at _ _ (h p q w0) λ k w1.
    ends (some_combine word k) w1)
    (ends no_combine w)

for_alike : (f g : Blocks) → BlocksAlike f g → Alikes (the_for f) (the_for g)
for_alike f g h p q w =
    next_at _ _ (head_alike p q w) λ head w0.
    next_at _ _ (h p q w0) λ k w1.
    next_at _ _ (combine_alike f g h p q w1) λ combined w2.
    ends (for_loop head k combined) w2

compound_alike : (f g : Blocks) → BlocksAlike f g → Alikes (the_compound f) (the_compound g)
compound_alike f g h p q w =
    if_comes mark.If w (
    next_at _ _ (if_alike f g h (steps (first p w)) (steps (second p q w)) p q w) λ i w0.
    ends (if_alone i) w0) (
    if_comes mark.While w (while_alike f g h p q w) (
    if_comes mark.For w (for_alike f g h p q w) (
    next_at _ _ (h p q w) λ k w0.
    ends (block_alone k) w0)))

part_with_alike : (f g : Blocks) → BlocksAlike f g → (go to : List Token → Outcome PartText) → Alikes go to → (x : Beginning) (p q : List Token) (w : Where p)
    → At p q w (part_with f go (first p w) x) (part_with g to (second p q w) x)
part_with_alike f g h go to c begins_simple p q w =
    next_at _ _ (simple_alike p q w) λ s w0.
    if_comes mark.Semicolon w0 (
    next_at _ _ (mark_alike mark.Semicolon p q w0) λ semicolon w1.
    next_at _ _ (c p q w1) λ more w2.
    ends (simple_then s semicolon more) w2)
    (ends (last_simple s) w0)
part_with_alike f g h go to c begins_compound p q w =
    next_at _ _ (compound_alike f g h p q w) λ k w0.
    next_at _ _ (c p q w0) λ more w1.
    ends (compound_then k more) w1
part_with_alike f g h go to c begins_semicolon p q w =
    next_at _ _ (mark_alike mark.Semicolon p q w) λ semicolon w0.
    next_at _ _ (c p q w0) λ more w1.
    ends (semicolon_then semicolon more) w1
part_with_alike f g h go to c begins_nothing p q w = ends end_of_part w

-- a part by how it begins, where the beginning of a list is given apart
part_begun_alike : (f g : Blocks) → BlocksAlike f g → (go to : List Token → Outcome PartText) → Alikes go to → (p q : List Token) (w : Where p)
    → At p q w (part_with f go (first p w) (beginning (first p w))) (part_with g to (second p q w) (beginning (second p q w)))
part_begun_alike f g h go to c p q w =
    by_first w beginning (λ t r s. refl) (λ x. part_with f go (first p w) x) (λ x. part_with g to (second p q w) x) (λ x. part_with_alike f g h go to c x p q w)

part_alike : (f g : Blocks) → BlocksAlike f g → (n m : ℕ) → Alikes (the_part f n) (the_part g m)
part_alike f g h zero m p q w = no_steps
part_alike f g h (suc n) m p q w =
    stepped (λ m. the_part g m (second p q w)) m refl λ m.
    part_begun_alike f g h (the_part f n) (the_part g m) (part_alike f g h n m) p q w

parts_alike : (f g : Blocks) → BlocksAlike f g → (n m : ℕ) → Alikes (the_parts f n) (the_parts g m)
parts_alike f g h zero m p q w = no_steps
parts_alike f g h (suc n) m p q w =
    stepped (λ m. the_parts g m (second p q w)) m refl λ m.
    next_at _ _ (part_alike f g h (steps (first p w)) (steps (second p q w)) p q w) λ x w0.
    if_comes mark.Dashes w0 (
    next_at _ _ (mark_alike mark.Dashes p q w0) λ dashes w1.
    next_at _ _ (parts_alike f g h n m p q w1) λ more w2.
    ends (part_then x dashes more) w2)
    (ends (last_part x) w0)

blocks_alike : (d c : ℕ) → BlocksAlike (read_block d) (read_block c)
blocks_alike zero c p q w = no_steps
blocks_alike (suc d) c p q w =
    stepped (λ c. read_block c (second p q w)) c refl λ c.
    next_at _ _ (mark_alike mark.OpenBrace p q w) λ opener w0.
    next_at _ _ (parts_alike (read_block d) (read_block c) (blocks_alike d c) (steps (first p w0)) (steps (second p q w0)) p q w0) λ parts w1.
    next_at _ _ (mark_alike mark.CloseBrace p q w1) λ closer w2.
    ends (block opener parts closer) w2

the_block_alike : Alikes the_block the_block
unfolding the_block
the_block_alike p q w = blocks_alike (steps (first p w)) (steps (second p q w)) p q w

parameter_alike : Alikes the_parameter the_parameter
parameter_alike p q w =
    next_at _ _ (name_alike p q w) λ n w0.
    next_at _ _ (mark_alike mark.Colon p q w0) λ colon w1.
    next_at _ _ (type_alike p q w1) λ t w2.
    ends (parameter_text n colon t) w2

more_parameters_alike : (n m : ℕ) → Alikes (more_parameters n) (more_parameters m)
more_parameters_alike zero m p q w = no_steps
more_parameters_alike (suc n) m p q w =
    stepped (λ m. more_parameters m (second p q w)) m refl λ m.
    if_comes mark.Comma w (
    next_at _ _ (mark_alike mark.Comma p q w) λ comma w0.
    next_at _ _ (parameter_alike p q w0) λ x w1.
    next_at _ _ (more_parameters_alike n m p q w1) λ more w2.
    ends (parameter_then comma x more) w2) (
    next_at _ _ (mark_alike mark.CloseParen p q w) λ closer w0.
    ends (no_more_parameters closer) w0)

parameters_alike : Alikes the_parameters the_parameters
parameters_alike p q w =
    if_comes mark.CloseParen w (
    next_at _ _ (mark_alike mark.CloseParen p q w) λ closer w0.
    ends (no_parameters closer) w0) (
    next_at _ _ (parameter_alike p q w) λ x w0.
    next_at _ _ (more_parameters_alike (steps (first p w0)) (steps (second p q w0)) p q w0) λ more w1.
    ends (some_parameters x more) w1)

decl_alike : (word : Place) (go to : List Token → Outcome ItemsText) → Alikes go to → Alikes (decl_from word go) (decl_from word to)
decl_alike word go to c p q w =
    next_at _ _ (name_alike p q w) λ n w0.
    next_at _ _ (mark_alike mark.Colon p q w0) λ colon w1.
    next_at _ _ (type_alike p q w1) λ t w2.
    next_at _ _ (mark_alike mark.Semicolon p q w2) λ semicolon w3.
    next_at _ _ (c p q w3) λ more w4.
    ends (decl_then word n colon t semicolon more) w4

def_alike : (word : Place) (go to : List Token → Outcome ItemsText) → Alikes go to → Alikes (def_from word go) (def_from word to)
def_alike word go to c p q w =
    next_at _ _ (name_alike p q w) λ n w0.
    next_at _ _ (mark_alike mark.OpenParen p q w0) λ opener w1.
    next_at _ _ (parameters_alike p q w1) λ l w2.
    next_at _ _ (mark_alike mark.Assign p q w2) λ equal w3.
    next_at _ _ (the_block_alike p q w3) λ k w4.
    next_at _ _ (c p q w4) λ more w5.
    ends (def_then word n opener l equal k more) w5

items_before : (go to : List Token → Outcome ItemsText) → Alikes go to → (k : TokenKind) (t : Token) (p q : List Token) (w : Where p) → Before p q w (items_from go k t (first p w)) (items_from to k t (second p q w))
items_before go to c kind.Decl t p q w = takes (decl_alike t.place go to c p q w)
items_before go to c kind.Def t p q w = takes (def_alike t.place go to c p q w)
items_before go to c _ t p q w = passes no_items t w

items_alike : (n m : ℕ) → Alikes (the_items n) (the_items m)
items_alike zero m p q w = no_steps
items_alike (suc n) m p q w =
    stepped (λ m. the_items m (second p q w)) m refl λ m.
    by_token (the_items (suc n)) (the_items (suc m)) (least (length p)) (λ t v. items_before (the_items n) (the_items m) (items_alike n m) t.kind t p q v) w

pub program_alike : Alikes the_program the_program
program_alike p q w =
    next_at _ _ (items_alike (steps (first p w)) (steps (second p q w)) p q w) λ items w0.
    next_at _ _ (parts_alike (read_block (steps (first p w0))) (read_block (steps (second p q w0))) (blocks_alike (steps (first p w0)) (steps (second p q w0)))
    (steps (first p w0)) (steps (second p q w0)) p q w0) λ parts w1.
    next_at _ _ (mark_alike mark.End p q w1) λ end w2.
    ends (program_text items parts end) w2

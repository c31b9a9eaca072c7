-- What commands, blocks and programs spell is read as they are: a part ends before `---`, `}` or the end,
-- and what follows a command in it begins neither with `else` nor with `combine`.
use Rattle.std.proofs.Common.{◌≡◌, ℕ, zero, suc, ◌≤◌, false, if◌then◌else◌, List, length, refl, ap, ◌∙◌, ◌<◌, ◌+◌, arith, subst}
use Rattle.dh_base.specs.declared.places.Place.{Place}
use Rattle.dh_lexer.specs.declared.tokens.Token.{Token}
use Rattle.dh_lexer.specs.declared.tokens.TokenKind.TheVariants as kind
use Rattle.dh_parser.specs.declared.parsing.reading.Mark.TheVariants as mark
use Rattle.dh_parser.specs.Marks.{comes}
use Rattle.dh_parser.specs.Grammar.{element, physical, SimpleText, let_typed, let_value, view, assign, store, reduce, call, DeclaredText, no_declared, some_declared, UnrollText, no_unroll, some_unroll, HeadText, BlockText, block, PartsText, last_part, part_then, PartText, end_of_part, last_simple, simple_then, compound_then, semicolon_then, CompoundText, block_alone, if_alone, while_loop, for_loop, IfText, if_else, ElseText, no_else, else_block, else_if, CombineText, no_combine, some_combine}
use Rattle.dh_parser.specs.Spelling.{put, put_number, spell_kind, spell, spell_simple, spell_declared, spell_unroll, spell_head, spell_block, spell_parts, spell_part, spell_compound, spell_if, spell_else, spell_combine}
use Rattle.dh_parser.specs.Allowed.{DeclaredFits, BlockFits, AllPartsFit, PartFits, CompoundFits, IfFits, ElseFits, CombineFits}
use Rattle.dh_parser.specs.Reading.{Outcome, good, outcome_bind, the, the_kind, steps, the_expression, the_simple, the_declared, the_unroll, the_head, the_if, the_combine, the_compound, begins_simple, begins_compound, begins_nothing, beginning, part_with, the_part, the_parts, read_block, the_block}
use Rattle.dh_parser.proofs.AgainExpressions.{next_is, unless, kind_again, longer, nothing_below, own, expression_again}
use Rattle.dh_parser.proofs.StepsOfExpressions.{Left}
use Rattle.dh_parser.proofs.StepsOfPrograms.{simple_left, head_left, blocks_left, compound_left, part_left}
use Rattle.dh_parser.proofs.AgainSimple.{Ends, simple_again}

declared_again : (l : DeclaredText) (equal : Place) (x : List Token) → DeclaredFits l → the_declared (spell_declared l (put kind.Assign equal x)) ≡ good l (put kind.Assign equal x)
declared_again no_declared equal x f = refl
declared_again (some_declared colon k) equal x f = next_is (the_kind (spell_kind k (put kind.Assign equal x))) _ k (put kind.Assign equal x) _ (kind_again k (put kind.Assign equal x) f) refl

unroll_again : (u : UnrollText) (x : List Token) → comes mark.Unroll x ≡ false → the_unroll (spell_unroll u x) ≡ good u x
unroll_again no_unroll x g = unless (comes mark.Unroll x) _ _ _ g refl
unroll_again (some_unroll word factor) x g = refl

head_again : (h : HeadText) (x : List Token) → DeclaredFits h.declared → comes mark.Unroll x ≡ false → the_head (spell_head h x) ≡ good h x
head_again h x f g =
    next_is (the_declared (spell_declared h.declared (put kind.Assign h.equal (put_number h.low (put kind.Range h.range (put_number h.high (put kind.CloseParen h.closer (spell_unroll h.unroll x)))))))) _ h.declared
    (put kind.Assign h.equal (put_number h.low (put kind.Range h.range (put_number h.high (put kind.CloseParen h.closer (spell_unroll h.unroll x)))))) _
    (declared_again h.declared h.equal (put_number h.low (put kind.Range h.range (put_number h.high (put kind.CloseParen h.closer (spell_unroll h.unroll x))))) f)
    (next_is (the_unroll (spell_unroll h.unroll x)) _ h.unroll x _ (unroll_again h.unroll x g) refl)

-- what follows a compound command
pub record NoTail (x : List Token) : Type 0 where
  no_else_word : comes mark.Else x ≡ false
  no_combine_word : comes mark.Combine x ≡ false

-- what follows a part
pub record PartEnds (x : List Token) : Type 0 where
  ends : Ends x
  tail : NoTail x
  nothing : beginning x ≡ begins_nothing
  semicolon : comes mark.Semicolon x ≡ false

semicolon_ends : (place : Place) (x : List Token) → Ends (put kind.Semicolon place x)
semicolon_ends place x = record { goes = refl; sign = refl; brace = refl; square = refl; equal = refl }

dashes_end : (place : Place) (x : List Token) → PartEnds (put kind.Dashes place x)
dashes_end place x = record { ends = record { goes = refl; sign = refl; brace = refl; square = refl; equal = refl }; tail = record { no_else_word = refl; no_combine_word = refl }; nothing = refl; semicolon = refl }

brace_end : (place : Place) (x : List Token) → PartEnds (put kind.CloseBrace place x)
brace_end place x = record { ends = record { goes = refl; sign = refl; brace = refl; square = refl; equal = refl }; tail = record { no_else_word = refl; no_combine_word = refl }; nothing = refl; semicolon = refl }

pub text_end : (place : Place) (x : List Token) → PartEnds (put kind.End place x)
text_end place x = record { ends = record { goes = refl; sign = refl; brace = refl; square = refl; equal = refl }; tail = record { no_else_word = refl; no_combine_word = refl }; nothing = refl; semicolon = refl }

simple_begins : (s : SimpleText) (x : List Token) → beginning (spell_simple s x) ≡ begins_simple
simple_begins (let_typed word n colon t value) x = refl
simple_begins (let_value word n equal e) x = refl
simple_begins (view word n equal v) x = refl
simple_begins (assign n becomes e) x = refl
simple_begins (store (element n i more) becomes e) x = refl
simple_begins (store (physical n opener bank closer i) becomes e) x = refl
simple_begins (reduce n r sign e) x = refl
simple_begins (call n opener arguments) x = refl

compound_begins : (c : CompoundText) (x : List Token) → beginning (spell_compound c x) ≡ begins_compound
compound_begins (block_alone (block opener parts closer)) x = refl
compound_begins (if_alone (if_else word opener e closer b other)) x = refl
compound_begins (while_loop word opener e closer b) x = refl
compound_begins (for_loop h b combined) x = refl

simple_tail : (s : SimpleText) (x : List Token) → NoTail (spell_simple s x)
simple_tail (let_typed word n colon t value) x = record { no_else_word = refl; no_combine_word = refl }
simple_tail (let_value word n equal e) x = record { no_else_word = refl; no_combine_word = refl }
simple_tail (view word n equal v) x = record { no_else_word = refl; no_combine_word = refl }
simple_tail (assign n becomes e) x = record { no_else_word = refl; no_combine_word = refl }
simple_tail (store (element n i more) becomes e) x = record { no_else_word = refl; no_combine_word = refl }
simple_tail (store (physical n opener bank closer i) becomes e) x = record { no_else_word = refl; no_combine_word = refl }
simple_tail (reduce n r sign e) x = record { no_else_word = refl; no_combine_word = refl }
simple_tail (call n opener arguments) x = record { no_else_word = refl; no_combine_word = refl }

part_tail : (p : PartText) (x : List Token) → NoTail x → NoTail (spell_part p x)
part_tail end_of_part x h = h
part_tail (last_simple s) x h = simple_tail s x
part_tail (simple_then s semicolon more) x h = simple_tail s (put kind.Semicolon semicolon (spell_part more x))
part_tail (compound_then (block_alone (block opener parts closer)) more) x h = record { no_else_word = refl; no_combine_word = refl }
part_tail (compound_then (if_alone (if_else word opener e closer b other)) more) x h = record { no_else_word = refl; no_combine_word = refl }
part_tail (compound_then (while_loop word opener e closer b) more) x h = record { no_else_word = refl; no_combine_word = refl }
part_tail (compound_then (for_loop head b combined) more) x h = record { no_else_word = refl; no_combine_word = refl }
part_tail (semicolon_then semicolon more) x h = record { no_else_word = refl; no_combine_word = refl }

block_no_unroll : (b : BlockText) (x : List Token) → comes mark.Unroll (spell_block b x) ≡ false
block_no_unroll (block opener parts closer) x = refl

-- what is read again is longer than what is left
pub from_left : {A : Type 0} (c n : ℕ) (o : Outcome A) (a : A) (x : List Token) → Left c n o → o ≡ good a x → c + length x ≤ n
from_left c n o a x h e = subst (λ p. Left c n p) e h

-- numbers of tokens
shorter : (a b d : ℕ) → 1 + a ≤ b → b < suc d → a < d
shorter a b d h k = omega arith

pub keep : (a b d : ℕ) → 1 + a ≤ b → b < d → a < d
keep a b d h k = omega arith

drop_one : (a d : ℕ) → suc a < suc d → a < d
drop_one a d h = omega arith

pub drop_two : (a b d : ℕ) → 1 + suc a ≤ b → suc (suc b) < suc d → a < d
drop_two a b d h k = omega arith

under : (a d : ℕ) → a < d → a ≤ d
under a d h = omega arith

after_one : (a d : ℕ) → suc a < d → a < d
after_one a d h = omega arith

after_two : (a d : ℕ) → suc (suc a) < d → a < d
after_two a d h = omega arith

dashes_few : (a b d : ℕ) → 0 + suc a ≤ b → b < d → a < d
dashes_few a b d h k = omega arith

dashes_steps : (a b n : ℕ) → 0 + suc a ≤ b → b < suc n → a < n
dashes_steps a b n h k = omega arith

simple_few : (a b d : ℕ) → 1 + suc a ≤ b → b < d → a < d
simple_few a b d h k = omega arith

simple_steps : (a b n : ℕ) → 1 + suc a ≤ b → b < suc n → a < n
simple_steps a b n h k = omega arith

pub test_few : (a b d : ℕ) → 1 + suc a ≤ b → suc (suc b) < d → a < d
test_few a b d h k = omega arith

test_steps : (a b n : ℕ) → 1 + suc a ≤ b → suc (suc b) < suc n → a < n
test_steps a b n h k = omega arith

-- a block is read again with more steps than tokens
abbrev BlockAgain : BlockText → Type 0
BlockAgain b = (d : ℕ) (x : List Token) → BlockFits b → length (spell_block b x) < d → read_block d (spell_block b x) ≡ good b x

block_long : (b : BlockText) → BlockAgain b → (d : ℕ) (x : List Token) → BlockFits b → length (spell_block b x) < d → 1 + length x ≤ length (spell_block b x)
block_long b h d x f few = from_left 1 (length (spell_block b x)) (read_block d (spell_block b x)) b x (blocks_left d (spell_block b x) few) (h d x f few)

mutual
  block_again : (b : BlockText) → BlockAgain b
  block_again b zero x f few = absurd (nothing_below (length (spell_block b x)) few)
  block_again (block opener parts closer) (suc d) x f few =
      next_is (the_parts (read_block d) (steps (spell_parts parts (put kind.CloseBrace closer x))) (spell_parts parts (put kind.CloseBrace closer x))) _ parts (put kind.CloseBrace closer x) _
      (parts_again parts d (steps (spell_parts parts (put kind.CloseBrace closer x))) (put kind.CloseBrace closer x) (brace_end closer x) refl f (drop_one (length (spell_parts parts (put kind.CloseBrace closer x))) d few) (own (length (spell_parts parts (put kind.CloseBrace closer x))))) refl

  pub parts_again : (l : PartsText) (d n : ℕ) (x : List Token) → PartEnds x → comes mark.Dashes x ≡ false → AllPartsFit l → length (spell_parts l x) < d → length (spell_parts l x) < n
      → the_parts (read_block d) n (spell_parts l x) ≡ good l x
  parts_again l d zero x h g f few more = absurd (nothing_below (length (spell_parts l x)) more)
  parts_again (last_part p) d (suc n) x h g f few more =
      next_is (the_part (read_block d) (steps (spell_part p x)) (spell_part p x)) _ p x _ (part_again p d (steps (spell_part p x)) x h f few (own (length (spell_part p x))))
      (unless (comes mark.Dashes x) _ _ _ g refl)
  parts_again (part_then p dashes l) d (suc n) x h g f few more =
      let here = part_again p d (steps (spell_part p (put kind.Dashes dashes (spell_parts l x)))) (put kind.Dashes dashes (spell_parts l x)) (dashes_end dashes (spell_parts l x)) f.0 few (own (length (spell_part p (put kind.Dashes dashes (spell_parts l x))))) in
      let long = from_left 0 (length (spell_part p (put kind.Dashes dashes (spell_parts l x)))) _ p (put kind.Dashes dashes (spell_parts l x))
      (part_left d (read_block d) (blocks_left d) (steps (spell_part p (put kind.Dashes dashes (spell_parts l x)))) (spell_part p (put kind.Dashes dashes (spell_parts l x))) few (own (length (spell_part p (put kind.Dashes dashes (spell_parts l x)))))) here in
      next_is (the_part (read_block d) (steps (spell_part p (put kind.Dashes dashes (spell_parts l x)))) (spell_part p (put kind.Dashes dashes (spell_parts l x)))) _ p (put kind.Dashes dashes (spell_parts l x)) _ here
      (next_is (the_parts (read_block d) n (spell_parts l x)) _ l x _
      (parts_again l d n x h g f.1 (dashes_few (length (spell_parts l x)) _ d long few) (dashes_steps (length (spell_parts l x)) _ n long more)) refl)

  part_again : (p : PartText) (d n : ℕ) (x : List Token) → PartEnds x → PartFits p → length (spell_part p x) < d → length (spell_part p x) < n → the_part (read_block d) n (spell_part p x) ≡ good p x
  part_again p d zero x h f few more = absurd (nothing_below (length (spell_part p x)) more)
  part_again end_of_part d (suc n) x h f few more = ap (λ b. part_with (read_block d) (the_part (read_block d) n) x b) h.nothing
  part_again (last_simple s) d (suc n) x h f few more =
      ap (λ b. part_with (read_block d) (the_part (read_block d) n) (spell_simple s x) b) (simple_begins s x)
      ∙ next_is (the_simple (spell_simple s x)) _ s x _ (simple_again s x f h.ends) (unless (comes mark.Semicolon x) _ _ _ h.semicolon refl)
  part_again (simple_then s semicolon p) d (suc n) x h f few more =
      let here = simple_again s (put kind.Semicolon semicolon (spell_part p x)) f.0 (semicolon_ends semicolon (spell_part p x)) in
      let long = from_left 1 (length (spell_simple s (put kind.Semicolon semicolon (spell_part p x)))) _ s (put kind.Semicolon semicolon (spell_part p x)) (simple_left (spell_simple s (put kind.Semicolon semicolon (spell_part p x)))) here in
      ap (λ b. part_with (read_block d) (the_part (read_block d) n) (spell_simple s (put kind.Semicolon semicolon (spell_part p x))) b) (simple_begins s (put kind.Semicolon semicolon (spell_part p x)))
      ∙ next_is (the_simple (spell_simple s (put kind.Semicolon semicolon (spell_part p x)))) _ s (put kind.Semicolon semicolon (spell_part p x)) _ here
      (next_is (the_part (read_block d) n (spell_part p x)) _ p x _ (part_again p d n x h f.1 (simple_few (length (spell_part p x)) _ d long few) (simple_steps (length (spell_part p x)) _ n long more)) refl)
  part_again (compound_then c p) d (suc n) x h f few more =
      let here = compound_again c d (spell_part p x) (part_tail p x h.tail) f.0 few in
      let long = from_left 1 (length (spell_compound c (spell_part p x))) _ c (spell_part p x) (compound_left d (read_block d) (blocks_left d) (spell_compound c (spell_part p x)) few) here in
      ap (λ b. part_with (read_block d) (the_part (read_block d) n) (spell_compound c (spell_part p x)) b) (compound_begins c (spell_part p x))
      ∙ next_is (the_compound (read_block d) (spell_compound c (spell_part p x))) _ c (spell_part p x) _ here
      (next_is (the_part (read_block d) n (spell_part p x)) _ p x _ (part_again p d n x h f.1 (keep (length (spell_part p x)) _ d long few) (shorter (length (spell_part p x)) _ n long more)) refl)
  part_again (semicolon_then semicolon p) d (suc n) x h f few more =
      next_is (the_part (read_block d) n (spell_part p x)) _ p x _ (part_again p d n x h f (after_one (length (spell_part p x)) d few) (drop_one (length (spell_part p x)) n more)) refl

  compound_again : (c : CompoundText) (d : ℕ) (x : List Token) → NoTail x → CompoundFits c → length (spell_compound c x) < d → the_compound (read_block d) (spell_compound c x) ≡ good c x
  compound_again (block_alone (block opener parts closer)) d x h f few =
      next_is (read_block d (spell_block (block opener parts closer) x)) _ (block opener parts closer) x _ (block_again (block opener parts closer) d x f few) refl
  compound_again (if_alone (if_else word opener e closer b other)) d x h f few =
      next_is (the_if (read_block d) (steps (spell_if (if_else word opener e closer b other) x)) (spell_if (if_else word opener e closer b other) x)) _ (if_else word opener e closer b other) x _
      (if_again (if_else word opener e closer b other) d (steps (spell_if (if_else word opener e closer b other) x)) x h f few (own (length (spell_if (if_else word opener e closer b other) x)))) refl
  compound_again (while_loop word opener e closer b) d x h f few =
      next_is (the_expression (spell e (put kind.CloseParen closer (spell_block b x)))) _ e (put kind.CloseParen closer (spell_block b x)) _ (expression_again e (put kind.CloseParen closer (spell_block b x)) f.0 refl refl)
      (next_is (read_block d (spell_block b x)) _ b x _ (block_again b d x f.1 (test_few (length (spell_block b x)) _ d (longer e (put kind.CloseParen closer (spell_block b x))) few)) refl)
  compound_again (for_loop head b combined) d x h f few =
      let first = head_again head (spell_block b (spell_combine combined x)) f.0 (block_no_unroll b (spell_combine combined x)) in
      let long = from_left 1 (length (spell_head head (spell_block b (spell_combine combined x)))) _ head (spell_block b (spell_combine combined x)) (head_left (spell_head head (spell_block b (spell_combine combined x)))) first in
      let small = keep (length (spell_block b (spell_combine combined x))) _ d long few in
      next_is (the_head (spell_head head (spell_block b (spell_combine combined x)))) _ head (spell_block b (spell_combine combined x)) _ first
      (next_is (read_block d (spell_block b (spell_combine combined x))) _ b (spell_combine combined x) _ (block_again b d (spell_combine combined x) f.1.0 small)
      (next_is (the_combine (read_block d) (spell_combine combined x)) _ combined x _
      (combine_again combined d x h f.1.1 (keep (length (spell_combine combined x)) _ d (block_long b (block_again b) d (spell_combine combined x) f.1.0 small) small)) refl))

  combine_again : (c : CombineText) (d : ℕ) (x : List Token) → NoTail x → CombineFits c → length (spell_combine c x) < d → the_combine (read_block d) (spell_combine c x) ≡ good c x
  combine_again no_combine d x h f few = unless (comes mark.Combine x) _ _ _ h.no_combine_word refl
  combine_again (some_combine word b) d x h f few = next_is (read_block d (spell_block b x)) _ b x _ (block_again b d x f (after_one (length (spell_block b x)) d few)) refl

  if_again : (i : IfText) (d n : ℕ) (x : List Token) → NoTail x → IfFits i → length (spell_if i x) < d → length (spell_if i x) < n → the_if (read_block d) n (spell_if i x) ≡ good i x
  if_again i d zero x h f few more = absurd (nothing_below (length (spell_if i x)) more)
  if_again (if_else word opener e closer b other) d (suc n) x h f few more =
      let long = longer e (put kind.CloseParen closer (spell_block b (spell_else other x))) in
      let small = test_few (length (spell_block b (spell_else other x))) _ d long few in
      let after = block_long b (block_again b) d (spell_else other x) f.1.0 small in
      next_is (the_expression (spell e (put kind.CloseParen closer (spell_block b (spell_else other x))))) _ e (put kind.CloseParen closer (spell_block b (spell_else other x))) _ (expression_again e (put kind.CloseParen closer (spell_block b (spell_else other x))) f.0 refl refl)
      (next_is (read_block d (spell_block b (spell_else other x))) _ b (spell_else other x) _ (block_again b d (spell_else other x) f.1.0 small)
      (next_is _ _ other x _ (else_again other d n x h f.1.1 (keep (length (spell_else other x)) _ d after small) (keep (length (spell_else other x)) _ n after (test_steps (length (spell_block b (spell_else other x))) _ n long more))) refl))

  else_again : (l : ElseText) (d n : ℕ) (x : List Token) → NoTail x → ElseFits l → length (spell_else l x) < d → length (spell_else l x) < n
      → (if comes mark.Else (spell_else l x)
      then (outcome_bind (the mark.Else (spell_else l x)) λ else_word q.
      if comes mark.If q
      then (outcome_bind (the_if (read_block d) n q) λ i q. good (else_if else_word i) q)
      else (outcome_bind (read_block d q) λ c q. good (else_block else_word c) q))
      else good no_else (spell_else l x)) ≡ good l x
  else_again no_else d n x h f few more = unless (comes mark.Else x) _ _ _ h.no_else_word refl
  else_again (else_block word (block opener parts closer)) d n x h f few more =
      next_is (read_block d (spell_block (block opener parts closer) x)) _ (block opener parts closer) x _ (block_again (block opener parts closer) d x f (after_one (length (spell_block (block opener parts closer) x)) d few)) refl
  else_again (else_if word (if_else if_word opener e closer b other)) d n x h f few more =
      next_is (the_if (read_block d) n (spell_if (if_else if_word opener e closer b other) x)) _ (if_else if_word opener e closer b other) x _
      (if_again (if_else if_word opener e closer b other) d n x h f (after_one (length (spell_if (if_else if_word opener e closer b other) x)) d few) (after_one (length (spell_if (if_else if_word opener e closer b other) x)) n more)) refl

pub the_block_again : (b : BlockText) (x : List Token) → BlockFits b → the_block (spell_block b x) ≡ good b x
unfolding the_block
the_block_again b x f = block_again b (steps (spell_block b x)) x f (own (length (spell_block b x)))

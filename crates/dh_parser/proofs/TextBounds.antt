-- In the tree of any text loops end at numbers of 64 bits, as the tokens of numbers hold, and reducers are those of texts.
use Rattle.std.proofs.Common.{◌≡◌, ℕ, suc, ◌+◌, ◌<◌, ◌^◌, Bool, true, false, List, refl}
use Rattle.dh_lexer.specs.declared.tokens.Token.{Token}
use Rattle.dh_lexer.specs.declared.tokens.TokenKind.TheVariants as kind
use Rattle.dh_tree.specs.TextNumbers.{Reduces, HasTextNumbers, FormHasTextNumbers, OtherHasTextNumbers, GroupsHaveTextNumbers, PartHasTextNumbers}
use Rattle.dh_parser.specs.Grammar.{NameText, TypeText, ValueText, ReducerText, adds, subtracts, multiplies, SimpleText, let_typed, let_value, view, assign, store, reduce, call, HeadText, BlockText, block, PartsText, last_part, part_then, PartText, end_of_part, last_simple, simple_then, compound_then, semicolon_then, CompoundText, block_alone, if_alone, while_loop, for_loop, IfText, if_else, ElseText, no_else, else_block, else_if, CombineText, no_combine, some_combine}
use Rattle.dh_parser.specs.Spelling.{put, spell, spell_simple, spell_declared, spell_head, spell_block, spell_parts, spell_part, spell_compound, spell_if, spell_else, spell_combine}
use Rattle.dh_parser.specs.TreesOfTexts.{is_memory_type, let_of, reducer_op, simple_form, count_block, count_part, count_compound, block_of_text, parts_of, part_of, compound_of, if_of, else_of, combine_of}
use Rattle.dh_parser.proofs.Fronts.{front_of, expression_front, simple_front, declared_front, head_front, block_front, part_front, compound_front}
use Rattle.dh_parser.proofs.TextNames.{AreSound, behind}

reducer_reduces : (r : ReducerText) → Reduces (reducer_op r)
reducer_reduces adds = tt
reducer_reduces subtracts = tt
reducer_reduces multiplies = tt

let_bounded : (b : Bool) (n : NameText) (t : TypeText) (v : ValueText) → FormHasTextNumbers (let_of b n t v)
let_bounded true n t v = tt
let_bounded false n t v = tt

simple_bounded : (s : SimpleText) → FormHasTextNumbers (simple_form s)
simple_bounded (let_typed word n colon t value) = let_bounded (is_memory_type t.ports t.dims) n t value
simple_bounded (let_value word n equal e) = tt
simple_bounded (view word n equal v) = tt
simple_bounded (assign n becomes e) = tt
simple_bounded (store a becomes e) = tt
simple_bounded (reduce n r sign e) = reducer_reduces r
simple_bounded (call n opener arguments) = tt

-- the upper bound of a loop is a number of the text
head_bounded : (head : HeadText) (x : List Token) → AreSound (spell_head head x) → head.high.value < 2 ^ 64
head_bounded head x h = (behind (front_of spell_declared declared_front head.declared) _ h.1.1.1.1).1.1.1.0

mutual
  block_bounded : (id : ℕ) (b : BlockText) (x : List Token) → AreSound (spell_block b x) → HasTextNumbers (block_of_text id b)
  block_bounded id (block opener parts closer) x h = parts_bounded (suc id) parts (put kind.CloseBrace closer x) h.1

  pub parts_bounded : (id : ℕ) (ps : PartsText) (x : List Token) → AreSound (spell_parts ps x) → GroupsHaveTextNumbers (parts_of id ps)
  parts_bounded id (last_part p) x h = (part_bounded id p x h, tt)
  parts_bounded id (part_then p dashes more) x h = (
    part_bounded id p (put kind.Dashes dashes (spell_parts more x)) h,
    parts_bounded (id + count_part p) more x (behind (front_of spell_part part_front p) _ h).1,
  )

  part_bounded : (id : ℕ) (p : PartText) (x : List Token) → AreSound (spell_part p x) → PartHasTextNumbers (part_of id p)
  part_bounded id end_of_part x h = tt
  part_bounded id (last_simple s) x h = (simple_bounded s, tt)
  part_bounded id (simple_then s semicolon more) x h = (simple_bounded s, part_bounded (suc id) more x (behind (front_of spell_simple simple_front s) _ h).1)
  part_bounded id (compound_then c more) x h = (
    compound_bounded id c (spell_part more x) h,
    part_bounded (id + count_compound c) more x (behind (front_of spell_compound compound_front c) _ h),
  )
  part_bounded id (semicolon_then semicolon more) x h = part_bounded id more x h.1

  compound_bounded : (id : ℕ) (c : CompoundText) (x : List Token) → AreSound (spell_compound c x) → HasTextNumbers (compound_of id c)
  compound_bounded id (block_alone b) x h = block_bounded id b x h
  compound_bounded id (if_alone i) x h = if_bounded id i x h
  compound_bounded id (while_loop word opener e closer b) x h = block_bounded (suc id) b x (behind (front_of spell expression_front e) _ h.1.1).1
  compound_bounded id (for_loop head b combined) x h =
      let after = behind (front_of spell_head head_front head) _ h in (
        head_bounded head (spell_block b (spell_combine combined x)) h,
        (
          block_bounded (suc id) b (spell_combine combined x) after,
          combine_bounded (suc (id + count_block b)) combined x (behind (front_of spell_block block_front b) _ after),
        ),
      )

  if_bounded : (id : ℕ) (i : IfText) (x : List Token) → AreSound (spell_if i x) → HasTextNumbers (if_of id i)
  if_bounded id (if_else word opener e closer b other) x h =
      let after = (behind (front_of spell expression_front e) _ h.1.1).1 in (
        block_bounded (suc id) b (spell_else other x) after,
        else_bounded (suc (id + count_block b)) other x (behind (front_of spell_block block_front b) _ after),
      )

  else_bounded : (id : ℕ) (other : ElseText) (x : List Token) → AreSound (spell_else other x) → OtherHasTextNumbers (else_of id other)
  else_bounded id no_else x h = tt
  else_bounded id (else_block word b) x h = block_bounded id b x h.1
  else_bounded id (else_if word i) x h = ((if_bounded (suc id) i x h.1, tt), tt)

  combine_bounded : (id : ℕ) (c : CombineText) (x : List Token) → AreSound (spell_combine c x) → OtherHasTextNumbers (combine_of id c)
  combine_bounded id no_combine x h = tt
  combine_bounded id (some_combine word b) x h = block_bounded id b x h.1

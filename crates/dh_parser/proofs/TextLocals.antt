-- The names of local memories in the tree of any text are names.
use Rattle.std.proofs.Common.{ℕ, suc, ◌+◌, Bool, true, false, List, [], ◌∷◌, ◌++◌}
use Rattle.std.specs.List.{AllByRecursion}
use Rattle.dh_lexer.specs.declared.tokens.Token.{Token}
use Rattle.dh_lexer.specs.declared.tokens.TokenKind.TheVariants as kind
use Rattle.dh_tree.specs.Memories.{Memory, locals, form_locals, other_locals, groups_locals, part_locals}
use Rattle.dh_tree.specs.Names.{IsName}
use Rattle.dh_parser.specs.Grammar.{NameText, TypeText, ValueText, SimpleText, let_typed, let_value, view, assign, store, reduce, call, BlockText, block, PartsText, last_part, part_then, PartText, end_of_part, last_simple, simple_then, compound_then, semicolon_then, CompoundText, block_alone, if_alone, while_loop, for_loop, IfText, if_else, ElseText, no_else, else_block, else_if, CombineText, no_combine, some_combine}
use Rattle.dh_parser.specs.Spelling.{put, spell, spell_simple, spell_head, spell_block, spell_parts, spell_part, spell_compound, spell_if, spell_else, spell_combine}
use Rattle.dh_parser.specs.TreesOfTexts.{is_memory_type, let_of, simple_form, count_block, count_part, count_compound, block_of_text, parts_of, part_of, compound_of, if_of, else_of, combine_of}
use Rattle.dh_parser.proofs.Fronts.{front_of, expression_front, simple_front, head_front, block_front, part_front, compound_front}
use Rattle.dh_parser.proofs.TextNames.{AreSound, behind}

abbrev AreNamed : List Memory → Type 0
AreNamed ms = AllByRecursion (λ m. IsName m.name.name) ms

both_named : (xs ys : List Memory) → AreNamed xs → AreNamed ys → AreNamed (xs ++ ys)
both_named [] ys h i = i
both_named (x ∷ xs) ys h i = (h.0, both_named xs ys h.1 i)

let_named : (b : Bool) (n : NameText) (t : TypeText) (v : ValueText) → IsName n.name → AreNamed (form_locals (let_of b n t v))
let_named true n t v h = (h, tt)
let_named false n t v h = tt

simple_named : (s : SimpleText) (x : List Token) → AreSound (spell_simple s x) → AreNamed (form_locals (simple_form s))
simple_named (let_typed word n colon t value) x h = let_named (is_memory_type t.ports t.dims) n t value h.1.0
simple_named (let_value word n equal e) x h = tt
simple_named (view word n equal v) x h = tt
simple_named (assign n becomes e) x h = tt
simple_named (store a becomes e) x h = tt
simple_named (reduce n r sign e) x h = tt
simple_named (call n opener arguments) x h = tt

mutual
  pub block_named : (id : ℕ) (b : BlockText) (x : List Token) → AreSound (spell_block b x) → AreNamed (locals (block_of_text id b))
  block_named id (block opener parts closer) x h = parts_named (suc id) parts (put kind.CloseBrace closer x) h.1

  pub parts_named : (id : ℕ) (ps : PartsText) (x : List Token) → AreSound (spell_parts ps x) → AreNamed (groups_locals (parts_of id ps))
  parts_named id (last_part p) x h = both_named (part_locals (part_of id p)) [] (part_named id p x h) tt
  parts_named id (part_then p dashes more) x h =
      both_named (part_locals (part_of id p)) (groups_locals (parts_of (id + count_part p) more))
      (part_named id p (put kind.Dashes dashes (spell_parts more x)) h)
      (parts_named (id + count_part p) more x (behind (front_of spell_part part_front p) _ h).1)

  part_named : (id : ℕ) (p : PartText) (x : List Token) → AreSound (spell_part p x) → AreNamed (part_locals (part_of id p))
  part_named id end_of_part x h = tt
  part_named id (last_simple s) x h = both_named (form_locals (simple_form s)) [] (simple_named s x h) tt
  part_named id (simple_then s semicolon more) x h =
      both_named (form_locals (simple_form s)) (part_locals (part_of (suc id) more))
      (simple_named s (put kind.Semicolon semicolon (spell_part more x)) h)
      (part_named (suc id) more x (behind (front_of spell_simple simple_front s) _ h).1)
  part_named id (compound_then c more) x h =
      both_named (locals (compound_of id c)) (part_locals (part_of (id + count_compound c) more))
      (compound_named id c (spell_part more x) h)
      (part_named (id + count_compound c) more x (behind (front_of spell_compound compound_front c) _ h))
  part_named id (semicolon_then semicolon more) x h = part_named id more x h.1

  compound_named : (id : ℕ) (c : CompoundText) (x : List Token) → AreSound (spell_compound c x) → AreNamed (locals (compound_of id c))
  compound_named id (block_alone b) x h = block_named id b x h
  compound_named id (if_alone i) x h = if_named id i x h
  compound_named id (while_loop word opener e closer b) x h = block_named (suc id) b x (behind (front_of spell expression_front e) _ h.1.1).1
  compound_named id (for_loop head b combined) x h =
      let after = behind (front_of spell_head head_front head) _ h in
      both_named (locals (block_of_text (suc id) b)) (other_locals (combine_of (suc (id + count_block b)) combined))
      (block_named (suc id) b (spell_combine combined x) after)
      (combine_named (suc (id + count_block b)) combined x (behind (front_of spell_block block_front b) _ after))

  if_named : (id : ℕ) (i : IfText) (x : List Token) → AreSound (spell_if i x) → AreNamed (locals (if_of id i))
  if_named id (if_else word opener e closer b other) x h =
      let after = (behind (front_of spell expression_front e) _ h.1.1).1 in
      both_named (locals (block_of_text (suc id) b)) (other_locals (else_of (suc (id + count_block b)) other))
      (block_named (suc id) b (spell_else other x) after)
      (else_named (suc (id + count_block b)) other x (behind (front_of spell_block block_front b) _ after))

  else_named : (id : ℕ) (other : ElseText) (x : List Token) → AreSound (spell_else other x) → AreNamed (other_locals (else_of id other))
  else_named id no_else x h = tt
  else_named id (else_block word b) x h = block_named id b x h.1
  else_named id (else_if word i) x h = both_named _ [] (both_named _ [] (if_named (suc id) i x h.1) tt) tt

  combine_named : (id : ℕ) (c : CombineText) (x : List Token) → AreSound (spell_combine c x) → AreNamed (other_locals (combine_of id c))
  combine_named id no_combine x h = tt
  combine_named id (some_combine word b) x h = block_named id b x h.1

-- In the tree of any text stores go to accesses.
use Rattle.std.proofs.Common.{ℕ, suc, ◌+◌, Bool, true, false}
use Rattle.dh_tree.specs.Targets.{IsAccess, HasTargets, FormHasTargets, OtherHasTargets, GroupsHaveTargets, PartHasTargets}
use Rattle.dh_parser.specs.Grammar.{NameText, TypeText, ValueText, AccessText, element, physical, SimpleText, let_typed, let_value, view, assign, store, reduce, call, BlockText, block, PartsText, last_part, part_then, PartText, end_of_part, last_simple, simple_then, compound_then, semicolon_then, CompoundText, block_alone, if_alone, while_loop, for_loop, IfText, if_else, ElseText, no_else, else_block, else_if, CombineText, no_combine, some_combine}
use Rattle.dh_parser.specs.TreesOfTexts.{access_of_text, is_memory_type, let_of, simple_form, count_block, count_part, count_compound, block_of_text, parts_of, part_of, compound_of, if_of, else_of, combine_of}

access_accesses : (a : AccessText) → IsAccess (access_of_text a)
access_accesses (element n i more) = tt
access_accesses (physical n opener bank closer i) = tt

let_targets : (b : Bool) (n : NameText) (t : TypeText) (v : ValueText) → FormHasTargets (let_of b n t v)
let_targets true n t v = tt
let_targets false n t v = tt

simple_targets : (s : SimpleText) → FormHasTargets (simple_form s)
simple_targets (let_typed word n colon t value) = let_targets (is_memory_type t.ports t.dims) n t value
simple_targets (let_value word n equal e) = tt
simple_targets (view word n equal v) = tt
simple_targets (assign n becomes e) = tt
simple_targets (store a becomes e) = access_accesses a
simple_targets (reduce n r sign e) = tt
simple_targets (call n opener arguments) = tt

mutual
  block_targets : (id : ℕ) (b : BlockText) → HasTargets (block_of_text id b)
  block_targets id (block opener parts closer) = parts_targets (suc id) parts

  pub parts_targets : (id : ℕ) (ps : PartsText) → GroupsHaveTargets (parts_of id ps)
  parts_targets id (last_part p) = (part_targets id p, tt)
  parts_targets id (part_then p dashes more) = (part_targets id p, parts_targets (id + count_part p) more)

  part_targets : (id : ℕ) (p : PartText) → PartHasTargets (part_of id p)
  part_targets id end_of_part = tt
  part_targets id (last_simple s) = (simple_targets s, tt)
  part_targets id (simple_then s semicolon more) = (simple_targets s, part_targets (suc id) more)
  part_targets id (compound_then c more) = (compound_targets id c, part_targets (id + count_compound c) more)
  part_targets id (semicolon_then semicolon more) = part_targets id more

  compound_targets : (id : ℕ) (c : CompoundText) → HasTargets (compound_of id c)
  compound_targets id (block_alone b) = block_targets id b
  compound_targets id (if_alone i) = if_targets id i
  compound_targets id (while_loop word opener e closer b) = block_targets (suc id) b
  compound_targets id (for_loop head b combined) = (block_targets (suc id) b, combine_targets (suc (id + count_block b)) combined)

  if_targets : (id : ℕ) (i : IfText) → HasTargets (if_of id i)
  if_targets id (if_else word opener e closer b other) = (block_targets (suc id) b, else_targets (suc (id + count_block b)) other)

  else_targets : (id : ℕ) (other : ElseText) → OtherHasTargets (else_of id other)
  else_targets id no_else = tt
  else_targets id (else_block word b) = block_targets id b
  else_targets id (else_if word i) = ((if_targets (suc id) i, tt), tt)

  combine_targets : (id : ℕ) (c : CombineText) → OtherHasTargets (combine_of id c)
  combine_targets id no_combine = tt
  combine_targets id (some_combine word b) = block_targets id b

-- The commands in the tree of any text are numbered in text order.
use Rattle.std.proofs.Common.{◌≡◌, ℕ, suc, ◌+◌, Bool, true, false, refl, ap, sym, subst, arith}
use Rattle.dh_tree.specs.Numbers.{commands_in, commands_inside, commands_in_other, commands_in_groups, commands_in_part, IsNumbered, IsNumberedInside, IsNumberedOther, AreNumberedGroups, AreNumbered}
use Rattle.dh_tree.specs.PlainTrees.{MaybeAction}
use Rattle.dh_parser.specs.Grammar.{NameText, TypeText, ValueText, SimpleText, let_typed, let_value, view, assign, store, reduce, call, BlockText, block, PartsText, last_part, part_then, PartText, end_of_part, last_simple, simple_then, compound_then, semicolon_then, CompoundText, block_alone, if_alone, while_loop, for_loop, IfText, if_else, ElseText, no_else, else_block, else_if, CombineText, no_combine, some_combine}
use Rattle.dh_parser.specs.TreesOfTexts.{is_memory_type, let_of, simple_form, count_block, count_parts, count_part, count_compound, count_if, count_else, count_combine, block_of_text, parts_of, part_of, compound_of, if_of, else_of, combine_of}

-- simple commands hold no other
let_holds_none : (b : Bool) (n : NameText) (t : TypeText) (v : ValueText) → commands_inside (let_of b n t v) ≡ 0
let_holds_none true n t v = refl
let_holds_none false n t v = refl

holds_none : (s : SimpleText) → commands_inside (simple_form s) ≡ 0
holds_none (let_typed word n colon t value) = let_holds_none (is_memory_type t.ports t.dims) n t value
holds_none (let_value word n equal e) = refl
holds_none (view word n equal v) = refl
holds_none (assign n becomes e) = refl
holds_none (store a becomes e) = refl
holds_none (reduce n r sign e) = refl
holds_none (call n opener arguments) = refl

let_inside : (b : Bool) (k : ℕ) (n : NameText) (t : TypeText) (v : ValueText) → IsNumberedInside k (let_of b n t v)
let_inside true k n t v = tt
let_inside false k n t v = tt

inside : (k : ℕ) (s : SimpleText) → IsNumberedInside k (simple_form s)
inside k (let_typed word n colon t value) = let_inside (is_memory_type t.ports t.dims) k n t value
inside k (let_value word n equal e) = tt
inside k (view word n equal v) = tt
inside k (assign n becomes e) = tt
inside k (store a becomes e) = tt
inside k (reduce n r sign e) = tt
inside k (call n opener arguments) = tt

-- the commands of a text are as many as the parser counts
mutual
  block_counted : (id : ℕ) (b : BlockText) → commands_in (block_of_text id b) ≡ count_block b
  block_counted id (block opener parts closer) = ap suc (parts_counted (suc id) parts)

  parts_counted : (id : ℕ) (ps : PartsText) → commands_in_groups (parts_of id ps) ≡ count_parts ps
  parts_counted id (last_part p) = let e = part_counted id p in omega (arith, e)
  parts_counted id (part_then p dashes more) = let e = part_counted id p in let f = parts_counted (id + count_part p) more in omega (arith, e, f)

  part_counted : (id : ℕ) (p : PartText) → commands_in_part (part_of id p) ≡ count_part p
  part_counted id end_of_part = refl
  part_counted id (last_simple s) = let e = holds_none s in omega (arith, e)
  part_counted id (simple_then s semicolon more) = let e = holds_none s in let f = part_counted (suc id) more in omega (arith, e, f)
  part_counted id (compound_then c more) = let e = compound_counted id c in let f = part_counted (id + count_compound c) more in omega (arith, e, f)
  part_counted id (semicolon_then semicolon more) = part_counted id more

  compound_counted : (id : ℕ) (c : CompoundText) → commands_in (compound_of id c) ≡ count_compound c
  compound_counted id (block_alone b) = block_counted id b
  compound_counted id (if_alone i) = if_counted id i
  compound_counted id (while_loop word opener e closer b) = ap suc (block_counted (suc id) b)
  compound_counted id (for_loop head b combined) =
      let e = block_counted (suc id) b in let f = combine_counted (suc (id + count_block b)) combined in omega (arith, e, f)

  if_counted : (id : ℕ) (i : IfText) → commands_in (if_of id i) ≡ count_if i
  if_counted id (if_else word opener e closer b other) =
      let g = block_counted (suc id) b in let f = else_counted (suc (id + count_block b)) other in omega (arith, g, f)

  else_counted : (id : ℕ) (other : ElseText) → commands_in_other (else_of id other) ≡ count_else other
  else_counted id no_else = refl
  else_counted id (else_block word b) = block_counted id b
  else_counted id (else_if word i) = let e = if_counted (suc id) i in omega (arith, e)

  combine_counted : (id : ℕ) (c : CombineText) → commands_in_other (combine_of id c) ≡ count_combine c
  combine_counted id no_combine = refl
  combine_counted id (some_combine word b) = block_counted id b

-- and they are numbered
again : (id n : ℕ) (m : MaybeAction) → IsNumberedOther (suc (id + n)) m → IsNumberedOther (suc id + n) m
again id n m h = let e : suc (id + n) ≡ suc id + n = omega arith in subst (λ (k : ℕ). IsNumberedOther k m) e h

mutual
  pub block_numbered : (id : ℕ) (b : BlockText) → IsNumbered id (block_of_text id b)
  block_numbered id (block opener parts closer) = (refl, parts_numbered (suc id) parts)

  pub parts_numbered : (id : ℕ) (ps : PartsText) → AreNumberedGroups id (parts_of id ps)
  parts_numbered id (last_part p) = (part_numbered id p, tt)
  parts_numbered id (part_then p dashes more) =
      (part_numbered id p, subst (λ (k : ℕ). AreNumberedGroups (id + k) (parts_of (id + count_part p) more)) (sym (part_counted id p)) (parts_numbered (id + count_part p) more))

  part_numbered : (id : ℕ) (p : PartText) → AreNumbered id (part_of id p)
  part_numbered id end_of_part = tt
  part_numbered id (last_simple s) = ((refl, inside (suc id) s), tt)
  part_numbered id (simple_then s semicolon more) =
      let e = holds_none s in
      let next : suc id ≡ id + suc (commands_inside (simple_form s)) = omega (arith, e) in
      ((refl, inside (suc id) s), subst (λ (k : ℕ). AreNumbered k (part_of (suc id) more)) next (part_numbered (suc id) more))
  part_numbered id (compound_then c more) =
      (compound_numbered id c, subst (λ (k : ℕ). AreNumbered (id + k) (part_of (id + count_compound c) more)) (sym (compound_counted id c)) (part_numbered (id + count_compound c) more))
  part_numbered id (semicolon_then semicolon more) = part_numbered id more

  compound_numbered : (id : ℕ) (c : CompoundText) → IsNumbered id (compound_of id c)
  compound_numbered id (block_alone b) = block_numbered id b
  compound_numbered id (if_alone i) = if_numbered id i
  compound_numbered id (while_loop word opener e closer b) = (refl, block_numbered (suc id) b)
  compound_numbered id (for_loop head b combined) =
      (refl, (block_numbered (suc id) b, subst (λ (k : ℕ). IsNumberedOther (suc id + k) (combine_of (suc (id + count_block b)) combined)) (sym (block_counted (suc id) b)) (again id (count_block b) _ (combine_numbered (suc (id + count_block b)) combined))))

  if_numbered : (id : ℕ) (i : IfText) → IsNumbered id (if_of id i)
  if_numbered id (if_else word opener e closer b other) =
      (refl, (block_numbered (suc id) b, subst (λ (k : ℕ). IsNumberedOther (suc id + k) (else_of (suc (id + count_block b)) other)) (sym (block_counted (suc id) b)) (again id (count_block b) _ (else_numbered (suc (id + count_block b)) other))))

  else_numbered : (id : ℕ) (other : ElseText) → IsNumberedOther id (else_of id other)
  else_numbered id no_else = tt
  else_numbered id (else_block word b) = block_numbered id b
  else_numbered id (else_if word i) = (refl, ((if_numbered (suc id) i, tt), tt))

  combine_numbered : (id : ℕ) (c : CombineText) → IsNumberedOther id (combine_of id c)
  combine_numbered id no_combine = tt
  combine_numbered id (some_combine word b) = block_numbered id b

-- What a plan sees, sets, reaches and multiplies is told by the images of its operations alone, so of the plan that the
-- pass makes it is as of the old one.
use Rattle.std.proofs.Common.{◌≡◌, ℕ, suc, ◌+◌, ◌==◌, ◌&&◌, ◌⊎◌, ◌↔◌, inl, inr, max, Bool, true, false, List, refl, sym, ap, ◌∙◌, arith, length}
use Rattle.std.specs.Prelude.{Option, Some, None, [], ◌∷◌, ◌++◌, slice_get, if◌then◌else◌}
use Rattle.std.specs.List.{AllByRecursion}
use Rattle.dh_value.specs.declared.operators.Op.{Op}
use Rattle.dh_value.specs.declared.operators.Op.TheVariants as op
use Rattle.dh_plan.specs.declared.operations.Operation.{Operation}
use Rattle.dh_plan.specs.declared.operations.OperationForm.{OperationForm}
use Rattle.dh_plan.specs.declared.operations.OperationForm.TheVariants.{Constant, Old, Compute, Convert, Select, Check, Probe, Read, Write, Set}
use Rattle.dh_plan.specs.declared.operations.PlanBlock.{PlanBlock}
use Rattle.dh_plan.specs.declared.operations.Reach.{Reach}
use Rattle.dh_plan.specs.DoneProgram.{Sees, SetsRegister, block_products}
use Rattle.dh_plan.specs.LegalSchedules.{is_product}
use Rattle.dh_plan.specs.PlainPlans.{PlainPlan, operations_in, block_operations}
use Rattle.dh_plan.specs.SoundPlans.{use_in, use_charge, place_charge, operations_charge, blocks_charge, plan_charge}
use Rattle.dh_rows.specs.Readings.{is_cheap}
use Rattle.dh_address.specs.Images.{IsImage}
use Rattle.dh_address.proofs.PiecesQuiet.{IsQuiet, is_quiet, IsRowOf, SameForm, HasMain, IsMain, AreParts}
use Rattle.dh_address.proofs.PartsSeen.{block_parts, IsImageOf, part_seen, main_seen}

-- Registers.

old_seen : (f : OperationForm) (register : ℕ) → SameForm f (Old register) → f ≡ Old register
old_seen (Constant w) register e = absurd (cc)
old_seen (Old r) register e = sym e
old_seen (Compute o left right) register (m, (n, e)) = absurd (cc)
old_seen (Convert inner to) register (m, e) = absurd (cc)
old_seen (Select test a b) register (m, (n, (l, e))) = absurd (cc)
old_seen (Check ok fault) register (m, e) = absurd (cc)
old_seen (Probe r fault) register h = elim h [ ]
old_seen (Read r) register (t, (e, h)) = absurd (cc)
old_seen (Write r value) register (t, (m, (e, h))) = absurd (cc)
old_seen (Set r value) register (m, e) = absurd (cc)

-- a register is set to some value
pub record SetsOne (f : OperationForm) (register : ℕ) : Type 0 where
  pub value : ℕ
  pub is : f ≡ Set register value

set_seen : (f : OperationForm) (register value : ℕ) → SameForm f (Set register value) → SetsOne f register
set_seen (Constant w) register value e = absurd (cc)
set_seen (Old r) register value e = absurd (cc)
set_seen (Compute o left right) register value (m, (n, e)) = absurd (cc)
set_seen (Convert inner to) register value (m, e) = absurd (cc)
set_seen (Select test a b) register value (m, (n, (l, e))) = absurd (cc)
set_seen (Check ok fault) register value (m, e) = absurd (cc)
set_seen (Probe r fault) register value h = elim h [ ]
set_seen (Read r) register value (t, (e, h)) = absurd (cc)
set_seen (Write r v) register value (t, (m, (e, h))) = absurd (cc)
set_seen (Set r v) register value (m, e) = let same : r ≡ register = cc in record { value = v; is = ap (λ n. Set n v) same }

-- Charges.

module _ (access memory bank : ℕ) where
  charge_append : (xs ys : List Operation) → operations_charge access memory bank (xs ++ ys) ≡ max (operations_charge access memory bank xs) (operations_charge access memory bank ys)
  charge_append [] ys = omega arith
  charge_append (x ∷ xs) ys = let rest = charge_append xs ys in omega (arith, rest)

  quiet_unused : (f : OperationForm) → is_quiet f ≡ true → use_in f ≡ None
  quiet_unused (Constant w) e = refl
  quiet_unused (Old register) e = refl
  quiet_unused (Compute o left right) e = refl
  quiet_unused (Convert inner to) e = refl
  quiet_unused (Select test a b) e = refl
  quiet_unused (Check ok fault) e = refl
  quiet_unused (Probe r fault) e = refl
  quiet_unused (Read r) e = absurd (cc)
  quiet_unused (Write r value) e = absurd (cc)
  quiet_unused (Set register value) e = refl

  quiet_charge : (os : List Operation) → AllByRecursion IsQuiet os → operations_charge access memory bank os ≡ 0
  quiet_charge [] h = refl
  quiet_charge (o ∷ os) h =
      let own : use_charge access memory bank (use_in o.form) ≡ 0 = ap (λ (r : Option Reach). use_charge access memory bank r) (quiet_unused o.form h.0) in
      let rest = quiet_charge os h.1 in
      omega (arith, own, rest)

  row_charge : (r t : Reach) → IsRowOf r t → use_charge access memory bank (Some t) ≡ use_charge access memory bank (Some r)
  row_charge r t h =
      ap (λ n. if (n == access) && (t.memory == memory) then place_charge bank t.banks else 0) h.access
      ∙ (ap (λ n. if (r.access == access) && (n == memory) then place_charge bank t.banks else 0) h.memory
      ∙ ap (λ (bs : List (ℕ × ℕ)). if (r.access == access) && (r.memory == memory) then place_charge bank bs else 0) h.banks)

  abbrev form_charge : OperationForm → ℕ
  form_charge f = use_charge access memory bank (use_in f)

  same_charge : (f x : OperationForm) → SameForm f x → form_charge x ≡ form_charge f
  same_charge (Constant w) x e = ap form_charge e
  same_charge (Old register) x e = ap form_charge e
  same_charge (Compute o left right) x (m, (n, e)) = ap form_charge e
  same_charge (Convert inner to) x (m, e) = ap form_charge e
  same_charge (Select test a b) x (m, (n, (l, e))) = ap form_charge e
  same_charge (Check ok fault) x (m, e) = ap form_charge e
  same_charge (Probe r fault) x h = elim h [ ]
  same_charge (Read r) x (t, (e, h)) = ap form_charge e ∙ row_charge r t h
  same_charge (Write r value) x (t, (m, (e, h))) = ap form_charge e ∙ row_charge r t h
  same_charge (Set register value) x (m, e) = ap form_charge e

  main_charge : (f : OperationForm) (main : List Operation) → IsMain f main → operations_charge access memory bank main ≡ form_charge f
  main_charge f main h = of f h
    where
      one : (f : OperationForm) → HasMain f main → operations_charge access memory bank main ≡ form_charge f
      one f m =
          let only : operations_charge access memory bank main ≡ max (form_charge m.own.form) 0 = ap (λ (os : List Operation). operations_charge access memory bank os) m.only in
          let same = same_charge f m.own.form m.same in
          omega (arith, only, same)

      of : (f : OperationForm) → IsMain f main → operations_charge access memory bank main ≡ form_charge f
      of (Constant word) h = one (Constant word) h
      of (Old register) h = one (Old register) h
      of (Compute o left right) h = one (Compute o left right) h
      of (Convert inner to) h = one (Convert inner to) h
      of (Select test a b) h = one (Select test a b) h
      of (Check ok fault) h = one (Check ok fault) h
      of (Probe r fault) h = ap (λ (os : List Operation). operations_charge access memory bank os) h
      of (Read r) h = one (Read r) h
      of (Write r value) h = one (Write r value) h
      of (Set register value) h = one (Set register value) h

  parts_charge : (os more : List Operation) → AreParts os more → operations_charge access memory bank more ≡ operations_charge access memory bank os
  parts_charge [] more h = ap (λ (l : List Operation). operations_charge access memory bank l) h
  parts_charge (o ∷ os) more h =
      let whole : operations_charge access memory bank more ≡ operations_charge access memory bank (h.first ++ h.rest) = ap (λ (l : List Operation). operations_charge access memory bank l) h.joined in
      let split = charge_append h.first h.rest in
      let own : operations_charge access memory bank h.first ≡ operations_charge access memory bank (h.part.quiet ++ h.part.main) = ap (λ (l : List Operation). operations_charge access memory bank l) h.part.joined in
      let cut = charge_append h.part.quiet h.part.main in
      let none = quiet_charge h.part.quiet h.part.all in
      let main = main_charge o.form h.part.main h.part.image in
      let rest = parts_charge os h.rest h.parts in
      let all : operations_charge access memory bank (o ∷ os) ≡ max (form_charge o.form) (operations_charge access memory bank os) = refl in
      omega (arith, whole, split, own, cut, none, main, rest, all)

  blocks_same : (bs cs : List PlanBlock) → length bs ≡ length cs
      → ((n : ℕ) → operations_charge access memory bank (block_operations (slice_get bs n)) ≡ operations_charge access memory bank (block_operations (slice_get cs n)))
      → blocks_charge access memory bank bs ≡ blocks_charge access memory bank cs
  blocks_same [] [] l h = refl
  blocks_same [] (c ∷ cs) l h = absurd (omega (arith, l))
  blocks_same (b ∷ bs) [] l h = absurd (omega (arith, l))
  blocks_same (b ∷ bs) (c ∷ cs) l h =
      let rest = blocks_same bs cs (omega (arith, l)) (λ n. h (suc n)) in
      let own = h 0 in
      omega (arith, rest, own)

-- Multiplications.

abbrev product_one : OperationForm → ℕ
product_one f = if is_product f then 1 else 0

counted : (b : Bool) (n : ℕ) → (if b then suc n else n) ≡ (if b then 1 else 0) + n
counted true n = omega arith
counted false n = omega arith

products_append : (xs ys : List Operation) → block_products (xs ++ ys) ≡ block_products xs + block_products ys
products_append [] ys = omega arith
products_append (x ∷ xs) ys =
    let rest = products_append xs ys in
    let long = counted (is_product x.form) (block_products (xs ++ ys)) in
    let short = counted (is_product x.form) (block_products xs) in
    omega (arith, rest, long, short)

cheap_none : (o : Op) (m n : ℕ) → is_cheap o ≡ true → is_product (Compute o m n) ≡ false
cheap_none op.Add m n e = refl
cheap_none op.Sub m n e = refl
cheap_none op.Mul m n e = absurd (cc)
cheap_none op.And m n e = refl
cheap_none op.Or m n e = refl
cheap_none op.Xor m n e = refl
cheap_none op.Shl m n e = refl
cheap_none op.Shr m n e = refl
cheap_none op.Lt m n e = refl
cheap_none op.Gt m n e = refl
cheap_none op.Le m n e = refl
cheap_none op.Ge m n e = refl
cheap_none op.Eq m n e = refl
cheap_none op.Ne m n e = refl
cheap_none op.Both m n e = refl
cheap_none op.Either m n e = refl

by_operator : (o : Op) (m n k l : ℕ) → is_product (Compute o m n) ≡ is_product (Compute o k l)
by_operator op.Add m n k l = refl
by_operator op.Sub m n k l = refl
by_operator op.Mul m n k l = refl
by_operator op.And m n k l = refl
by_operator op.Or m n k l = refl
by_operator op.Xor m n k l = refl
by_operator op.Shl m n k l = refl
by_operator op.Shr m n k l = refl
by_operator op.Lt m n k l = refl
by_operator op.Gt m n k l = refl
by_operator op.Le m n k l = refl
by_operator op.Ge m n k l = refl
by_operator op.Eq m n k l = refl
by_operator op.Ne m n k l = refl
by_operator op.Both m n k l = refl
by_operator op.Either m n k l = refl

quiet_none : (f : OperationForm) → is_quiet f ≡ true → is_product f ≡ false
quiet_none (Constant w) e = refl
quiet_none (Old register) e = refl
quiet_none (Compute o left right) e = cheap_none o left right e
quiet_none (Convert inner to) e = refl
quiet_none (Select test a b) e = refl
quiet_none (Check ok fault) e = refl
quiet_none (Probe r fault) e = refl
quiet_none (Read r) e = refl
quiet_none (Write r value) e = refl
quiet_none (Set register value) e = refl

quiet_products : (os : List Operation) → AllByRecursion IsQuiet os → block_products os ≡ 0
quiet_products [] h = refl
quiet_products (o ∷ os) h =
    let own : product_one o.form ≡ 0 = ap (λ b. if b then 1 else 0) (quiet_none o.form h.0) in
    let rest = quiet_products os h.1 in
    let all = counted (is_product o.form) (block_products os) in
    omega (arith, own, rest, all)

same_product : (f x : OperationForm) → SameForm f x → product_one x ≡ product_one f
same_product (Constant w) x e = ap product_one e
same_product (Old register) x e = ap product_one e
same_product (Compute o left right) x (m, (n, e)) = ap product_one e ∙ ap (λ b. if b then 1 else 0) (by_operator o m n left right)
same_product (Convert inner to) x (m, e) = ap product_one e
same_product (Select test a b) x (m, (n, (l, e))) = ap product_one e
same_product (Check ok fault) x (m, e) = ap product_one e
same_product (Probe r fault) x h = elim h [ ]
same_product (Read r) x (t, (e, h)) = ap product_one e
same_product (Write r value) x (t, (m, (e, h))) = ap product_one e
same_product (Set register value) x (m, e) = ap product_one e

main_products : (f : OperationForm) (main : List Operation) → IsMain f main → block_products main ≡ product_one f
main_products f main h = of f h
  where
    one : (f : OperationForm) → HasMain f main → block_products main ≡ product_one f
    one f m =
        let only : block_products main ≡ block_products (m.own ∷ []) = ap block_products m.only in
        let all = counted (is_product m.own.form) 0 in
        let same = same_product f m.own.form m.same in
        omega (arith, only, all, same)

    of : (f : OperationForm) → IsMain f main → block_products main ≡ product_one f
    of (Constant word) h = one (Constant word) h
    of (Old register) h = one (Old register) h
    of (Compute o left right) h = one (Compute o left right) h
    of (Convert inner to) h = one (Convert inner to) h
    of (Select test a b) h = one (Select test a b) h
    of (Check ok fault) h = one (Check ok fault) h
    of (Probe r fault) h = ap block_products h
    of (Read r) h = one (Read r) h
    of (Write r value) h = one (Write r value) h
    of (Set register value) h = one (Set register value) h

parts_products : (os more : List Operation) → AreParts os more → block_products more ≡ block_products os
parts_products [] more h = ap block_products h
parts_products (o ∷ os) more h =
    let whole : block_products more ≡ block_products (h.first ++ h.rest) = ap block_products h.joined in
    let split = products_append h.first h.rest in
    let own : block_products h.first ≡ block_products (h.part.quiet ++ h.part.main) = ap block_products h.part.joined in
    let cut = products_append h.part.quiet h.part.main in
    let none = quiet_products h.part.quiet h.part.all in
    let main = main_products o.form h.part.main h.part.image in
    let rest = parts_products os h.rest h.parts in
    let all = counted (is_product o.form) (block_products os) in
    omega (arith, whole, split, own, cut, none, main, rest, all)

-- The plan.

as_operation : (os : List Operation) (i : ℕ) (o : Operation) (f : OperationForm) → slice_get os i ≡ Some o → o.form ≡ f → slice_get os i ≡ Some (record { guard = o.guard; form = f })
as_operation os i o f at is = at ∙ ap (λ (g : OperationForm). Some (record { guard = o.guard; form = g })) is

module _ (p q : PlainPlan) (h : IsImage p q) where
  pub sees_same : (block register : ℕ) → Sees q block register ↔ Sees p block register
  sees_same block register = (back, on)
    where
      back : Sees q block register → Sees p block register
      back s = of (part_seen (operations_in p block) (operations_in q block) (block_parts p q h block) s.place (record { guard = s.guard; form = Old register }) s.there)
        where
          of : (false ≡ true) ⊎ IsImageOf (operations_in p block) (record { guard = s.guard; form = Old register }) → Sees p block register
          of (inl e) = absurd (cc)
          of (inr o) = record { place = o.place; guard = o.old.guard; there = as_operation (operations_in p block) o.place o.old (Old register) o.there (old_seen o.old.form register o.same) }

      on : Sees p block register → Sees q block register
      on s =
          let m = main_seen (operations_in p block) (operations_in q block) (block_parts p q h block) s.place (record { guard = s.guard; form = Old register }) s.there (λ main e. e) in
          record { place = m.place; guard = m.image.guard; there = as_operation (operations_in q block) m.place m.image (Old register) m.there m.same }

  pub sets_same : (block register : ℕ) → SetsRegister q block register ↔ SetsRegister p block register
  sets_same block register = (back, on)
    where
      back : SetsRegister q block register → SetsRegister p block register
      back s = of (part_seen (operations_in p block) (operations_in q block) (block_parts p q h block) s.place (record { guard = s.guard; form = Set register s.value }) s.there)
        where
          of : (false ≡ true) ⊎ IsImageOf (operations_in p block) (record { guard = s.guard; form = Set register s.value }) → SetsRegister p block register
          of (inl e) = absurd (cc)
          of (inr o) =
              let set = set_seen o.old.form register s.value o.same in
              record { place = o.place; guard = o.old.guard; value = set.value; there = as_operation (operations_in p block) o.place o.old (Set register set.value) o.there set.is }

      on : SetsRegister p block register → SetsRegister q block register
      on s =
          let m = main_seen (operations_in p block) (operations_in q block) (block_parts p q h block) s.place (record { guard = s.guard; form = Set register s.value }) s.there (λ main e. e) in
          record { place = m.place; guard = m.image.guard; value = m.same.0; there = as_operation (operations_in q block) m.place m.image (Set register m.same.0) m.there m.same.1 }

  pub charges_same : (memory bank access : ℕ) → plan_charge q memory bank access ≡ plan_charge p memory bank access
  charges_same memory bank access =
      blocks_same access memory bank q.blocks p.blocks h.as_many
      (λ n. parts_charge access memory bank (operations_in p n) (operations_in q n) (block_parts p q h n))

  pub products_same : (block : ℕ) → block_products (operations_in q block) ≡ block_products (operations_in p block)
  products_same block = parts_products (operations_in p block) (operations_in q block) (block_parts p q h block)

-- Ports that begin where `begin` says are granted ports, and the ports of operations. Those of an access end within
-- the load of its bank; those of a later one that may meet it begin behind them; and a place is below the charge, so
-- that it lies within the ports of its own access and below those of each later one.
use Rattle.std.proofs.Common.{◌≡◌, ℕ, ◌+◌, ◌≤◌, ◌<◌, ◌⊎◌, inl, inr, ap, sym, ◌∙◌, arith, Some}
use Rattle.dh_tree.specs.Elements.{ports_at}
use Rattle.dh_tree.specs.Meets.{In, Apart, Before}
use Rattle.dh_plan.specs.declared.operations.Reach.{Reach}
use Rattle.dh_plan.specs.PlainPlans.{PlainPlan}
use Rattle.dh_plan.specs.SoundPlans.{HasUse, IsListed, plan_charge, KeepsItsPorts, IsFormed}
use Rattle.dh_plan.specs.BoundPorts.{Uses, port_used, BothList, AreGranted, IsLaterUse, ArePorts}
use Rattle.dh_bind.specs.Begins.{begin}
use Rattle.dh_bind.proofs.Begun.{ends_within, begins_behind, are_ordered, apart_decided, apart_turned}
use Rattle.dh_bind.proofs.Charged.{use_access, place_charged, load_fits}

some_is : (a b : ℕ) → Some a ≡ Some b → a ≡ b
some_is a b e = cc

module _ (plan : PlainPlan) (formed : IsFormed plan) (keeps : KeepsItsPorts plan) (memory : ℕ → ℕ)
    (of_memory : (b i : ℕ) (r : Reach) → HasUse plan b i r → memory r.access ≡ r.memory) where
  -- where the ports of an access begin, on a bank of its memory
  abbrev pub first_port : (access bank : ℕ) → ℕ
  first_port access bank = begin (plan_charge plan (memory access) bank) access plan.meets

  pub first_is : (b i : ℕ) (r : Reach) (bank : ℕ) → HasUse plan b i r → first_port r.access bank ≡ begin (plan_charge plan r.memory bank) r.access plan.meets
  first_is b i r bank h = ap (λ (m : ℕ). begin (plan_charge plan m bank) r.access plan.meets) (of_memory b i r h)

  used_in : (b i : ℕ) (r : Reach) → HasUse plan b i r → In r.access plan.meets
  used_in b i r h = formed.met b i r (use_access plan b i r h)

  pub ends_fit : (b i : ℕ) (r : Reach) (bank : ℕ) → HasUse plan b i r → first_port r.access bank + plan_charge plan r.memory bank r.access ≤ ports_at plan.table r.memory
  ends_fit b i r bank h =
      let e = first_is b i r bank h in
      let k = ends_within (plan_charge plan r.memory bank) r.access plan.meets formed.distinct (used_in b i r h) in
      let l = load_fits plan formed keeps r.memory bank in
      omega (arith, e, k, l)

  pub stand_behind : (b i c j bank : ℕ) (r t : Reach) → HasUse plan b i r → HasUse plan c j t → r.memory ≡ t.memory
      → Before plan.meets r.access t.access → (Apart plan.meets r.access t.access → ⊥)
      → first_port r.access bank + plan_charge plan r.memory bank r.access ≤ first_port t.access bank
  stand_behind b i c j bank r t h k same before may =
      let e = first_is b i r bank h in
      let f : first_port t.access bank ≡ begin (plan_charge plan r.memory bank) t.access plan.meets = first_is c j t bank k ∙ ap (λ (m : ℕ). begin (plan_charge plan m bank) t.access plan.meets) (sym same) in
      let g = begins_behind (plan_charge plan r.memory bank) r.access t.access plan.meets formed.distinct before may in
      omega (arith, e, f, g)

  module _ (u : Uses) (placed : (b i : ℕ) (r : Reach) (bank place : ℕ) → HasUse plan b i r → IsListed bank place r.banks → port_used plan u b i bank ≡ Some (first_port r.access bank + place)) where
    pub are_granted : AreGranted plan u first_port
    are_granted = record {
      within = λ b i r bank place h listed. ends_fit b i r bank h;
      placed = placed;
      apart = λ b i c j bank m n r t both before may. stand_behind b i c j bank r t both.first both.second both.memory before may;
    }

    port_is : (b i : ℕ) (r : Reach) (bank place port : ℕ) → HasUse plan b i r → IsListed bank place r.banks → port_used plan u b i bank ≡ Some port → first_port r.access bank + place ≡ port
    port_is b i r bank place port h listed e = some_is _ _ (sym (placed b i r bank place h listed) ∙ e)

    -- an earlier access that may meet a later one has lower ports
    pub lower : (b i c j bank m n p q : ℕ) (r t : Reach) → BothList plan b i c j bank m n r t → port_used plan u b i bank ≡ Some p → port_used plan u c j bank ≡ Some q
        → Before plan.meets r.access t.access → (Apart plan.meets r.access t.access → ⊥) → p < q
    lower b i c j bank m n p q r t both e f before may =
        let x = port_is b i r bank m p both.first both.in_first e in
        let y = port_is c j t bank n q both.second both.in_second f in
        let z = stand_behind b i c j bank r t both.first both.second both.memory before may in
        let w = place_charged plan b i r bank m both.first both.in_first in
        omega (arith, x, y, z, w)

    turned : (b i c j bank m n : ℕ) (r t : Reach) → BothList plan b i c j bank m n r t → BothList plan c j b i bank n m t r
    turned b i c j bank m n r t both = record { first = both.second; second = both.first; memory = sym both.memory; in_first = both.in_second; in_second = both.in_first }

    same_access : (b i c j bank m n port : ℕ) (r t : Reach) → BothList plan b i c j bank m n r t → port_used plan u b i bank ≡ Some port → port_used plan u c j bank ≡ Some port
        → r.access ≡ t.access → m ≡ n
    same_access b i c j bank m n port r t both e f same =
        let x = port_is b i r bank m port both.first both.in_first e in
        let y = port_is c j t bank n port both.second both.in_second f in
        let z : first_port r.access bank ≡ first_port t.access bank = ap (λ (a : ℕ). first_port a bank) same in
        omega (arith, x, y, z)

    pub are_shared : (b i c j bank m n port : ℕ) (r t : Reach) → BothList plan b i c j bank m n r t → port_used plan u b i bank ≡ Some port → port_used plan u c j bank ≡ Some port
        → Apart plan.meets r.access t.access ⊎ ((r.access ≡ t.access) × (m ≡ n))
    are_shared b i c j bank m n port r t both e f =
        elim (apart_decided plan.meets r.access t.access) [
          | inl never ↦ inl never
          | inr may ↦ elim (are_ordered plan.meets r.access t.access (used_in b i r both.first) (used_in c j t both.second)) [
            | inl same ↦ inr (same, same_access b i c j bank m n port r t both e f same)
            | inr (inl before) ↦ absurd (let less = lower b i c j bank m n port port r t both e f before may in omega (arith, less))
            | inr (inr after) ↦ absurd (let less = lower c j b i bank n m port port t r (turned b i c j bank m n r t both) f e after (λ never. may (apart_turned plan.meets t.access r.access never)) in omega (arith, less))
          ]
        ]

    pub rise : (b i c j bank m n p q : ℕ) (r t : Reach) → BothList plan b i c j bank m n r t
        → port_used plan u b i bank ≡ Some p → port_used plan u c j bank ≡ Some q → IsLaterUse plan m n r t → p < q
    rise b i c j bank m n p q r t both e f (inl later) = lower b i c j bank m n p q r t both e f later.0 later.1
    rise b i c j bank m n p q r t both e f (inr later) =
        let x = port_is b i r bank m p both.first both.in_first e in
        let y = port_is c j t bank n q both.second both.in_second f in
        let z : first_port r.access bank ≡ first_port t.access bank = ap (λ (a : ℕ). first_port a bank) later.0 in
        let w = later.1 in
        omega (arith, x, y, z, w)

    pub are_ports : ArePorts plan u
    are_ports = record {
      there = λ b i r bank place h listed. (
        first_port r.access bank + place,
        (
          placed b i r bank place h listed,
          (let x = ends_fit b i r bank h in let y = place_charged plan b i r bank place h listed in omega (arith, x, y)),
        ),
      );
      shared = are_shared;
      rising = λ b i c j bank m n p q r t both w x e f later. rise b i c j bank m n p q r t both e f later;
    }

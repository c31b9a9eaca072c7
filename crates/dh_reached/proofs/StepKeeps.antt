-- A step that does a block keeps the banks: by what its operations use, and their order.
use Rattle.std.proofs.Common.{◌≡◌, ℕ, ◌<◌, ◌≤◌, ◌⊎◌, inl, inr, ⊎_elim, List, Some, sym, ap, ◌∙◌, subst, arith}
use Rattle.std.specs.Prelude.{[], ◌∷◌, slice_get, Option}
use Rattle.std.proofs.lemmas.Bool.{cases_lt}
use Rattle.dh_tree.specs.Elements.{Spot}
use Rattle.dh_tree.specs.Meets.{Before, In}
use Rattle.dh_plan.specs.declared.operations.Operation.{Operation}
use Rattle.dh_plan.specs.declared.operations.Reach.{Reach}
use Rattle.dh_plan.specs.Blocks.{StepStart, spot_of_reach}
use Rattle.dh_plan.specs.PlainPlans.{PlainPlan, operations_in}
use Rattle.dh_plan.specs.PlanRuns.{start_at}
use Rattle.dh_plan.specs.SoundPlans.{InOneBank, IsListed, IsOneOf, KeepsBanks, OperationBefore, Reaches, RisesIn, WritesAt, use_in, writes_memory}
use Rattle.dh_expressions.specs.Drafted.{BlockStep, holds}
use Rattle.dh_expressions.proofs.ListPlaces.{some_same}
use Rattle.dh_formed.specs.Formed.{BlockSite}
use Rattle.dh_blocks.specs.BlockMade.{step_of_block}
use Rattle.dh_reached.specs.Puts.{IsSitedUse, OperationAtPath, is_write, used_reach}
use Rattle.dh_reached.specs.StepBanks.{BlockUses, BlocksKeepBanks, NeverBoth, StandInOrder}
use Rattle.dh_reached.proofs.PutLists.{all_at, goes_at, put_at}

-- The step.

module _ (plan : PlainPlan) (block : ℕ) (registers : List ℕ) (memories : List (List ℕ)) (sites : ℕ → Option BlockSite) (u : BlockUses plan block (step_of_block plan block registers memories) sites) where
  abbrev begun : StepStart
  begun = start_at plan registers memories

  abbrev x : BlockStep
  x = step_of_block plan block registers memories

  only : (b : ℕ) → IsOneOf b (block ∷ []) → b ≡ block
  only b (inl e) = e
  only b (inr none) = absurd none

  -- an operation of the block that reaches an element, as it was put down
  record Found (i : ℕ) (r : Reach) (spot : Spot) : Type 0 where
    put : OperationAtPath
    at : slice_get u.puts i ≡ Some put
    uses : used_reach put ≡ Some r
    is : IsSitedUse x sites put r
    on : holds x put.operation.guard
    leads : spot_of_reach x.start x.first x.words r ≡ Some spot

  find : (b i : ℕ) (r : Reach) (spot : Spot) → Reaches plan begun (block ∷ []) b i r spot → Found i r spot
  find b i r spot h = own (subst (λ (n : ℕ). Reaches plan begun (block ∷ []) n i r spot) (only b h.active) h)
    where
      own : Reaches plan begun (block ∷ []) block i r spot → Found i r spot
      own k =
          let p = put_at u.puts i k.operation (subst (λ (os : List Operation). slice_get os i ≡ Some k.operation) u.all k.there) in
          let uses : used_reach p.0 ≡ Some r = ap (λ (o : Operation). use_in o.form) p.1.1 ∙ k.uses in
          let is : IsSitedUse x sites p.0 r = all_at (λ v. (r : Reach) → used_reach v ≡ Some r → IsSitedUse x sites v r) u.puts i p.0 u.uses p.1.0 r uses in
          record {
            put = p.0;
            at = p.1.0;
            uses = uses;
            is = is;
            on = subst (λ (o : Operation). holds x o.guard) (sym p.1.1) k.on;
            leads = k.leads;
          }

  listed : (b i : ℕ) (r : Reach) (spot : Spot) → Reaches plan begun (block ∷ []) b i r spot → (place : ℕ) × IsListed spot.bank place r.banks
  listed b i r spot h = let f = find b i r spot h in (f.is.site.standing.places f.put.path, f.is.reached spot f.leads)

  -- of two uses of one access the earlier has the smaller place
  rises_in : (i j : ℕ) (r t : Reach) (y z : Spot) (f : Found i r y) (g : Found j t z) → i < j → r.access ≡ t.access → y.bank ≡ z.bank → (bank m n : ℕ) → IsListed bank m r.banks → IsListed bank n t.banks → m < n
  rises_in i j r t y z f g less same one bank m n first second =
      rising _ _ _ _ (f.is.placed bank m first) (g.is.placed bank n second ∙ ap (λ (s : BlockSite). s.standing.places g.put.path) (some_same g.is.site f.is.site (sym g.is.there ∙ (ap sites (sym same) ∙ f.is.there))))
      ((goes_at x sites u.puts i j f.put g.put u.order f.at g.at less r t f.uses g.uses).places same y z f.leads g.leads one f.is.site f.is.there)
    where
      rising : (a b c d : ℕ) → a ≡ c → b ≡ d → c < d → a < b
      rising a b c d e h l = omega (arith, e, h, l)

  placed : (b i c j place : ℕ) (r t : Reach) (y z : Spot) → Reaches plan begun (block ∷ []) b i r y → Reaches plan begun (block ∷ []) c j t z → r.access ≡ t.access → InOneBank y z
      → IsListed y.bank place r.banks → IsListed y.bank place t.banks → (b ≡ c) × (i ≡ j)
  placed b i c j place r t y z h k same one first second =
      let f = find b i r y h in let g = find c j t z k in (
        only b h.active ∙ sym (only c k.active),
        ⊎_elim (λ less. absurd (itself place (rises_in i j r t y z f g less same one.bank y.bank place place first second)))
            (λ rest. ⊎_elim (λ more. absurd (itself place (rises_in j i t r z y g f more (sym same) (sym one.bank) y.bank place place second first))) (λ least. equal i j rest least) (cases_lt j i)) (cases_lt i j),
      )
    where
      itself : (n : ℕ) → n < n → ⊥
      itself n e = omega (arith, e)

      equal : (i j : ℕ) → j ≤ i → i ≤ j → i ≡ j
      equal i j a b = omega (arith, a, b)

  behind : (b i c j : ℕ) → OperationBefore (block ∷ []) b i c j → i < j
  behind b i c j (inl (inl p)) = absurd p.1
  behind b i c j (inl (inr none)) = absurd none
  behind b i c j (inr p) = p.1

  -- a write of the plan is one that was put down
  written : (b i : ℕ) (r : Reach) (spot : Spot) (h : Reaches plan begun (block ∷ []) b i r spot) (f : Found i r spot) → WritesAt plan b i → is_write f.put
  written b i r spot h f w =
      let p = put_at u.puts i w.operation (subst (λ (os : List Operation). slice_get os i ≡ Some w.operation) u.all (subst (λ (n : ℕ). slice_get (operations_in plan n) i ≡ Some w.operation) (only b h.active) w.there)) in
      let same : p.0 ≡ f.put = some_same p.0 f.put (sym p.1.0 ∙ f.at) in
      subst (λ (v : OperationAtPath). is_write v) same (subst (λ (o : Operation). writes_memory o.form) (sym p.1.1) w.writes)

  module _ (order : StandInOrder plan.meets) (known : (number : ℕ) (s : BlockSite) → sites number ≡ Some s → In number plan.meets) (apart : NeverBoth plan.meets x sites) where
    ordered : (b i c j : ℕ) (r t : Reach) (y z : Spot) → Reaches plan begun (block ∷ []) b i r y → Reaches plan begun (block ∷ []) c j t z → InOneBank y z → WritesAt plan b i → WritesAt plan c j
        → OperationBefore (block ∷ []) b i c j → Before plan.meets r.access t.access ⊎ ((r.access ≡ t.access) × RisesIn y.bank r.banks t.banks)
    ordered b i c j r t y z h k one first second before =
        let f = find b i r y h in let g = find c j t z k in
        let less = behind b i c j before in
        by f g less ((goes_at x sites u.puts i j f.put g.put u.order f.at g.at less r t f.uses g.uses).writes (written b i r y h f first) (written c j t z k g second))
      where
        by : (f : Found i r y) (g : Found j t z) → i < j → (r.access < t.access) ⊎ (r.access ≡ t.access)
            → Before plan.meets r.access t.access ⊎ ((r.access ≡ t.access) × RisesIn y.bank r.banks t.banks)
        by f g less (inl lower) = inl (order r.access t.access (known r.access f.is.site f.is.there) (known t.access g.is.site g.is.there) lower)
        by f g less (inr p) = inr (p, λ m n listed_first listed_second. rises_in i j r t y z f g less p one.bank y.bank m n listed_first listed_second)

    step_keeps : KeepsBanks plan begun (block ∷ [])
    step_keeps = record {
      listed = listed;
      never = λ b i c j r t y z h k unmet.
          let f = find b i r y h in let g = find c j t z k in
          apart r.access t.access f.put.path g.put.path f.is.site g.is.site f.is.there g.is.there unmet (f.is.done f.on) (g.is.done g.on);
      placed = placed;
      ordered = ordered;
    }

pub blocks_keep_banks : BlocksKeepBanks
blocks_keep_banks plan block registers memories sites u order known apart = step_keeps plan block registers memories sites u order known apart

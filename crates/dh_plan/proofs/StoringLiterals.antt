-- The stores of the plan of three stores are of an access whose index is a literal: it has that literal in the plan too. So
-- what is stated of such accesses is stated of something.
use Rattle.std.proofs.Common.{◌≡◌, ℕ, zero, suc, Some, None, List, refl, subst}
use Rattle.std.specs.Prelude.{[], ◌∷◌, true, false, Bool, slice_get, Option}
use Rattle.dh_value.specs.declared.kinds.Kind.TheVariants.{Unsigned}
use Rattle.dh_value.specs.Words.{with_bits}
use Rattle.dh_tree.specs.Elements.{spot_of}
use Rattle.dh_meets.specs.SourceEvents.{SourceAccess, accesses_in, trace}
use Rattle.dh_plan.specs.declared.operations.Operation.{Operation}
use Rattle.dh_plan.specs.declared.operations.OperationForm.{OperationForm}
use Rattle.dh_plan.specs.declared.operations.OperationForm.TheVariants.{Check, Probe}
use Rattle.dh_plan.specs.declared.operations.Reach.{Reach}
use Rattle.dh_plan.specs.ExamplePlans.{by_indices, one_bank}
use Rattle.dh_plan.specs.ExamplePrograms.{storing_plan}
use Rattle.dh_plan.specs.ExampleTree.{storing_tree}
use Rattle.dh_plan.specs.LiteralAccesses.{HasLiterals, HasSourceLiterals, IsLiteralSource, IsOfLiterals}
use Rattle.dh_plan.specs.PlainPlans.{operations_in}
use Rattle.dh_plan.specs.SoundPlans.{access_in, HasAccess}
use Rattle.dh_plan.proofs.StoringPlan.{absent}
use Rattle.dh_plan.proofs.StoringSound.{by_place}

-- the one access of its program is literal
pub storing_is_literal : (a : SourceAccess) → slice_get (accesses_in (trace storing_tree)) 0 ≡ Some a → IsLiteralSource storing_tree a
storing_is_literal a e = of_one _ a e (record { element = (tt, tt); way = tt })
  where
    of_one : (x y : SourceAccess) → Some x ≡ Some y → IsLiteralSource storing_tree x → IsLiteralSource storing_tree y
    of_one x y e h =
        let here : x ≡ y = cc in
        subst (λ (z : SourceAccess). IsLiteralSource storing_tree z) here h

-- the index is the second operation, a constant, whatever registers and memories hold
the_literal : (banks : List (ℕ × ℕ)) → HasLiterals storing_plan 0 (by_indices 0 0 (1 ∷ []) banks)
the_literal banks = record {
  constants = ((record { place = 1; own = refl; word = with_bits (Unsigned 32) 1; there = refl }, tt), tt);
  inside = λ registers memories. (spot_of storing_plan.table 0 (1 ∷ []), refl);
}

reach_is : (r t : Reach) → Some r ≡ Some t → HasLiterals storing_plan 0 r → HasLiterals storing_plan 0 t
reach_is r t e h =
    let here : r ≡ t = cc in
    subst (λ (x : Reach). HasLiterals storing_plan 0 x) here h

reach_literal : (b i : ℕ) (r : Reach) → HasAccess storing_plan b i r → HasLiterals storing_plan b r
reach_literal zero i r h =
    by_place (λ (n : ℕ) (x : Operation). access_in x.form ≡ Some r → HasLiterals storing_plan 0 r) _ _ _ _
    (λ u. absurd (let f : None ≡ Some r = u in cc)) (λ u. absurd (let f : None ≡ Some r = u in cc)) (λ u. reach_is _ r u (the_literal [])) (λ u. reach_is _ r u (the_literal one_bank)) i h.operation h.there h.accesses
reach_literal (suc b) i r h = absurd (let f : None ≡ Some h.operation = h.there in cc)

abbrev form_check : OperationForm → Bool
form_check (Check ok fault) = true
form_check _ = false

never_checked : (block i : ℕ) (guard : Option ℕ) (ok fault : ℕ) → slice_get (operations_in storing_plan block) i ≡ Some (record { guard = guard; form = Check ok fault }) → ⊥
never_checked zero i guard ok fault e =
    let f : true ≡ false = absent (λ (o : Operation). form_check o.form) (operations_in storing_plan 0) refl i (record { guard = guard; form = Check ok fault }) e in
    (cc)
never_checked (suc block) i guard ok fault e = absurd (cc)

of_literals : (fault : ℕ) → IsOfLiterals storing_plan fault
of_literals fault = record {
  probes = λ b i guard r at. reach_literal b i r (record { operation = record { guard = guard; form = Probe r fault }; there = at; accesses = refl });
  checks = λ b i ok guard at. never_checked b i guard ok fault at;
}

pub storing_literals : HasSourceLiterals storing_tree storing_plan
storing_literals number a at literal = record { accesses = λ b i r h own. reach_literal b i r h; faults = λ b i fault guard r there own. of_literals fault }

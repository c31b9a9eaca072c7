-- A number with more bits than a wire is never shown there.
use Rattle.std.proofs.Common.{◌≡◌, ◌↔◌, ℕ, ◌<◌, ◌≤◌, ◌^◌, inl, inr, Bool, false, refl, sym, ap, subst, arith}
use Rattle.std.specs.Prelude.{IsTrue, ◌==◌}
use Rattle.std.proofs.lemmas.Bool.{cases_lt}
use Rattle.std.proofs.lemmas.Bool.Decides.{nat_tests}
use Rattle.dh_cells.specs.PlainCircuits.{PlainCircuit}
use Rattle.dh_cells.specs.Settled.{IsWire, Adds, shown}
use Rattle.dh_cells.specs.ShownValues.{bit, number_shown, match_shown}
use Rattle.dh_cells.proofs.WiresMade.{adds_as}

none_same : (a b m : ℕ) → a < m → m ≤ b → (a == b) ≡ false
none_same a b m small more = grind (arith, small, more, nat_tests)

pub beyond : (t : Bool) (number m : ℕ) → (IsTrue t ↔ (number < m)) → t ≡ false → m ≤ number
beyond t number m iff none =
    elim (cases_lt number m) [
      | inl less ↦ absurd (let is = iff.1 less in let false_is : IsTrue false = subst (λ (u : Bool). IsTrue u) none is in cc)
      | inr more ↦ more
    ]

pub never_shown : (d e : PlainCircuit) (wire of width number : ℕ) (t : Bool) → IsWire d of width → (IsTrue t ↔ (number < 2 ^ width)) → t ≡ false
    → Adds d e wire 1 (number_shown 0) → Adds d e wire 1 (match_shown of number)
never_shown d e wire of width number t there iff none added =
    adds_as d e wire 1 1 (number_shown 0) (match_shown of number) refl added
    (λ x settled. sym (ap bit (none_same (shown x of) number (2 ^ width) (there.fits x settled) (beyond t number (2 ^ width) iff none))))

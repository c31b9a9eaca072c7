-- Guards by wires: a guard's wire shows 1 where the word of the guard is true.
use Rattle.std.proofs.Common.{◌≡◌, ℕ, zero, suc, ◌<◌, ◌==◌, ◌&&◌, Bool, true, false, Some, None, List, refl, sym, ap, subst, ◌∙◌, arith}
use Rattle.std.specs.Prelude.{Option, slice_index}
use Rattle.std.specs.List.{AllByRecursion}
use Rattle.dh_value.specs.declared.kinds.Kind.{Kind}
use Rattle.dh_value.specs.declared.words.Word.{Word}
use Rattle.dh_plan.specs.Blocks.{is_on}
use Rattle.dh_plan.specs.Ordered.{one_or_none}
use Rattle.dh_cells.specs.PlainCircuits.{PlainCircuit}
use Rattle.dh_cells.specs.Settled.{Signals, IsSettled, Grows, IsWire, Adds, shown}
use Rattle.dh_cells.specs.ShownValues.{bit, is_one, both_shown}
use Rattle.dh_cells.proofs.CellsAppended.{wire_stays}
use Rattle.dh_cells.proofs.OperatorBits.{bit_tells}
use Rattle.dh_cells.proofs.WiresMade.{adds_as, adds_none}
use Rattle.dh_control.specs.OnWires.{on_shown, on_both_shown}
use Rattle.dh_control.specs.ValuesShown.{HasWire, GuardHasWire, IsShownValue}
use Rattle.dh_control.proofs.ListFacts.{all_same}

pub has_wire_stays : (d e : PlainCircuit) (wires : List ℕ) (width value : ℕ) → Grows d e → HasWire d wires width value → HasWire e wires width value
has_wire_stays d e wires width value g h = (h.0, wire_stays d e (slice_index wires value) width g h.1)

pub guard_stays : (d e : PlainCircuit) (wires : List ℕ) (guard : Option ℕ) → Grows d e → GuardHasWire d wires guard → GuardHasWire e wires guard
guard_stays d e wires guard g h = all_same (HasWire d wires 1) (HasWire e wires 1) (one_or_none guard) (λ v a. has_wire_stays d e wires 1 v g a) h

-- the guard that is there
pub guard_wire : (d : PlainCircuit) (wires : List ℕ) (guard : Option ℕ) (value : ℕ) → guard ≡ Some value → GuardHasWire d wires guard → HasWire d wires 1 value
guard_wire d wires guard value is h = (subst (λ (o : Option ℕ). GuardHasWire d wires o) is h).0

both_true : (b : Bool) → b ≡ (b && true)
both_true true = refl
both_true false = refl

bit_of : (n : ℕ) → n < 2 → n ≡ bit (n == 1)
bit_of zero less = refl
bit_of (suc zero) less = refl
bit_of (suc (suc n)) less = absurd (omega (arith, less))

pub guard_none : (d : PlainCircuit) (test : ℕ) (wires : List ℕ) (guard : Option ℕ) → guard ≡ None → IsWire d test 1 → Adds d d test 1 (on_both_shown test wires guard)
guard_none d test wires guard none h =
    subst (λ (o : Option ℕ). Adds d d test 1 (on_both_shown test wires o)) (sym none)
    (adds_none d test 1 (on_both_shown test wires None) h (λ x s. bit_of (shown x test) (h.fits x s) ∙ ap bit (both_true (is_one x test))))

pub guard_some : (d e : PlainCircuit) (wire test value : ℕ) (wires : List ℕ) (guard : Option ℕ) → guard ≡ Some value → Adds d e wire 1 (both_shown test (slice_index wires value))
    → Adds d e wire 1 (on_both_shown test wires guard)
guard_some d e wire test value wires guard is a =
    subst (λ (o : Option ℕ). Adds d e wire 1 (on_both_shown test wires o)) (sym is) (adds_as d e wire 1 1 _ (on_both_shown test wires (Some value)) refl a (λ x s. refl))

-- what a guard's words tell
pub guard_is : (first : ℕ) (ws : List Word) (kinds : List Kind) (wires : List ℕ) (x : Signals) (guard : Option ℕ)
    → AllByRecursion (IsShownValue first ws kinds wires x) (one_or_none guard) → is_on first ws guard ≡ on_shown x wires guard
guard_is first ws kinds wires x None h = refl
guard_is first ws kinds wires x (Some value) h = ap (λ (w : Word). w.bits == 1) h.0

pub both_tells : (d e : PlainCircuit) (wire test : ℕ) (wires : List ℕ) (guard : Option ℕ) (x : Signals) → Adds d e wire 1 (on_both_shown test wires guard) → IsSettled e x
    → is_one x wire ≡ (is_one x test && on_shown x wires guard)
both_tells d e wire test wires guard x a s = bit_tells (shown x wire) (is_one x test && on_shown x wires guard) (a.shows.is x s)

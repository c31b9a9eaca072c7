-- Shifts by constants of at least the width.
-- To the left nothing is left of a word; to the right a quotient by a number above it, which is 0, or for a negative
-- word -1: that of the shift by all bits but the sign.
use Rattle.std.proofs.Common.{◌≡◌, ℕ, ◌+◌, ◌<◌, ◌≤◌, ◌-◌, ◌^◌, ◌⊎◌, inl, inr, Bool, true, false, if◌then◌else◌, ℤ, pos, negsuc, ◌-ℤ◌, int_lt, nat_lt, refl, sym, ap, subst, ◌∙◌, arith}
use Rattle.std.specs.Prelude.{Option, IfSome}
use Rattle.std.specs.Int.{int_div_euclid}
use Rattle.std.proofs.lemmas.Bool.Decides.{nat_tests}
use Rattle.std.proofs.lemmas.Int.{ints}
use Rattle.std.proofs.Math.Nat.{div-eq_of_lt}
use Rattle.std.proofs.Math.Pow.{pow_mono}
use Rattle.dh_value.specs.declared.kinds.Kind.{Kind}
use Rattle.dh_value.specs.declared.kinds.Kind.TheVariants as kind
use Rattle.dh_value.specs.declared.operators.Op.TheVariants as op
use Rattle.dh_value.specs.Words.{width_of, signed, residue}
use Rattle.dh_value.proofs.Masks.{half}
use Rattle.dh_value.proofs.Values.{shl_nothing, shr_other}
use Rattle.dh_net.specs.Clock.{shifted, shifted_signed}
use Rattle.dh_net.specs.declared.nets.Cell.{Cell}
use Rattle.dh_net.specs.declared.nets.CellForm.TheVariants.{Const, ShrU, ShrS}
use Rattle.dh_cells.specs.NarrowShifts.{IsBelow, cell_bits}
use Rattle.dh_cells.specs.PlainCircuits.{PlainCircuit, IsWireOfForm, IsNext}
use Rattle.dh_cells.specs.Settled.{Signals, shown, IsSettled, IsWire, IsAmount, Adds}
use Rattle.dh_cells.specs.ShownValues.{form_shown, number_shown, operator_shown, signs_shown}
use Rattle.dh_cells.proofs.CellsAppended.{wire_stays}
use Rattle.dh_cells.proofs.WiresMade.{adds_as, adds_behind, wire_before}

wide_right : (w p q : ℕ) → p < 2 ^ w → w ≤ q → shifted op.Shr w p q ≡ 0
wide_right w p q small wide =
    let more : 2 ^ w ≤ 2 ^ q = pow_mono wide in
    let other : int_lt (pos p) (pos 0) ≡ false = grind (arith, ints) in
    sym (shr_other (kind.Unsigned w) p q small other) ∙ div-eq_of_lt (omega (arith, more, small))

-- a quotient by a divisor above the number, or above what a negative one lies below -1
far_quotient : (z : ℤ) (a d e : ℕ) → (z ≡ pos a) ⊎ (z ≡ negsuc a) → a < d → a < e → int_div_euclid z (pos d) ≡ int_div_euclid z (pos e)
far_quotient z a d e (inl is) h g =
    ap (λ (x : ℤ). int_div_euclid x (pos d)) is ∙ (ap (λ (n : ℕ). pos n) (div-eq_of_lt h ∙ sym (div-eq_of_lt g)) ∙ sym (ap (λ (x : ℤ). int_div_euclid x (pos e)) is))
far_quotient z a d e (inr is) h g =
    ap (λ (x : ℤ). int_div_euclid x (pos d)) is ∙ (ap (λ (n : ℕ). negsuc n) (div-eq_of_lt h ∙ sym (div-eq_of_lt g)) ∙ sym (ap (λ (x : ℤ). int_div_euclid x (pos e)) is))

-- a number of w bits in two's complement lies less than half of 2 ^ w from 0 or from -1
near : (w p : ℕ) → 1 ≤ w → p < 2 ^ w → (a : ℕ) × (((signed w p ≡ pos a) ⊎ (signed w p ≡ negsuc a)) × (a < 2 ^ (w - 1)))
near w p least small = by (nat_lt p (2 ^ (w - 1))) refl
  where
    above : (p m h : ℕ) → p < m → m ≡ h + h → h ≤ p → (pos p -ℤ pos m ≡ negsuc (m - 1 - p)) × (m - 1 - p < h)
    above p m h small twice more = (omega (arith, ints), omega arith)

    by : (t : Bool) → nat_lt p (2 ^ (w - 1)) ≡ t → (a : ℕ) × ((((if t then pos p else pos p -ℤ pos (2 ^ w)) ≡ pos a) ⊎ ((if t then pos p else pos p -ℤ pos (2 ^ w)) ≡ negsuc a)) × (a < 2 ^ (w - 1)))
    by true is = (p, (inl refl, grind (arith, nat_tests)))
    by false is =
        let past : 2 ^ (w - 1) ≤ p = grind (arith, nat_tests) in
        let both = above p (2 ^ w) (2 ^ (w - 1)) small (half w least) past in
        (2 ^ w - 1 - p, (inr both.0, both.1))

wide_signed : (w p q : ℕ) → 1 ≤ w → p < 2 ^ w → w ≤ q → shifted_signed op.Shr w p q ≡ shifted_signed op.Shr w p (w - 1)
wide_signed w p q least small wide =
    let found = near w p least small in
    let more : 2 ^ (w - 1) ≤ 2 ^ q = pow_mono (omega (arith, wide)) in
    ap (λ (z : ℤ). residue (2 ^ w) z) (far_quotient (signed w p) found.0 (2 ^ q) (2 ^ (w - 1)) found.1.0 (let inside = found.1.1 in omega (arith, inside, more)) found.1.1)

-- Wires.

-- what a wire always shows at least
abbrev Reaches : PlainCircuit → (least wire : ℕ) → Type 0
Reaches d least wire = (x : Signals) → IsSettled d x → least ≤ shown x wire

pub left_gone : (k l : Kind) (d e : PlainCircuit) (wire w a b : ℕ) → w ≡ width_of k → Reaches d w b → Adds d e wire w (number_shown 0)
    → Adds d e wire (width_of k) (operator_shown op.Shl k l a b)
left_gone k l d e wire w a b same wide made =
    adds_as d e wire w (width_of k) (number_shown 0) (operator_shown op.Shl k l a b) same made λ x s.
    shl_nothing k (shown x a) (shown x b) (subst (λ (n : ℕ). n ≤ shown x b) same (wide x s))

pub right_gone : (d e : PlainCircuit) (wire w a b : ℕ) → IsWire d a w → Reaches d w b → Adds d e wire w (number_shown 0) → Adds d e wire w (form_shown d w (ShrU a b))
right_gone d e wire w a b there wide made =
    adds_as d e wire w w (number_shown 0) (form_shown d w (ShrU a b)) refl made λ x s. sym (wide_right w (shown x a) (shown x b) (there.fits x s) (wide x s))

pub signs_left : (d e : PlainCircuit) (wire w a b : ℕ) → IsWire d a w → Reaches d w b → Adds d e wire w (signs_shown w a) → Adds d e wire w (form_shown d w (ShrS a b))
signs_left d e wire w a b there wide made =
    adds_as d e wire w w (signs_shown w a) (form_shown d w (ShrS a b)) refl made λ x s. sym (wide_signed w (shown x a) (shown x b) there.least (there.fits x s) (wide x s))

-- the amount by which all bits but the sign are shifted out
pub amount_next : (d : PlainCircuit) (a w : ℕ) → IsWire d a w → IsNext d 6 (Const (w - 1))
amount_next d a w there = (let most = there.greatest in record { least = omega arith; greatest = omega arith; fits = omega (arith, most); shifts = tt })

-- a shift by an amount that is there
pub shift_next : (d : PlainCircuit) (a b w : ℕ) → IsWire d a w → IsAmount d b → IsBelow d.cells b w → IsNext d w (ShrS a b)
shift_next d a b w there amount below = record {
  least = there.least;
  greatest = there.greatest;
  fits = (record { earlier = wire_before d a w there; wide = there.wide }, (amount.0, record { earlier = wire_before d b amount.0 amount.1; wide = amount.1.wide }));
  shifts = below;
}

pub signs_next : (d e : PlainCircuit) (a b w : ℕ) (value : Signals → ℕ) → IsWire d a w → Adds d e b 6 value → IsWireOfForm e b 6 (Const (w - 1)) → IsNext e w (ShrS a b)
signs_next d e a b w value there amount made =
    let least = there.least in
    let less : w - 1 < w = omega (arith, least) in
    shift_next e a b w (wire_stays d e a w amount.grows there) (6, amount.shows.there)
    (subst (λ (o : Option Cell). IfSome (cell_bits o) (λ (n : ℕ). n < w)) (sym made) less)

pub signs_made : (d e f : PlainCircuit) (wire w a b : ℕ) → Adds d e b 6 (form_shown d 6 (Const (w - 1))) → Adds e f wire w (form_shown e w (ShrS a b)) → Adds d f wire w (signs_shown w a)
signs_made d e f wire w a b amount made =
    adds_behind d e f wire w (form_shown e w (ShrS a b)) (signs_shown w a) amount.grows made λ x s. ap (λ (n : ℕ). shifted_signed op.Shr w (shown x a) n) (amount.shows.is x s)

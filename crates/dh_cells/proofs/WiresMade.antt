-- What a few cells in a row make.
-- Each call tells its new wire for every way to settle the cells up to it, and what settles all cells settles those.
-- So the value of the last wire follows by putting the values of the wires before it in their places.
use Rattle.std.proofs.Common.{◌≡◌, ℕ, ◌<◌, ◌%◌, ◌^◌, ◌⊎◌, Bool, true, false, not, if◌then◌else◌, bit_and, bit_or, int_lt, length, refl, sym, ap, subst, ◌∙◌, arith}
use Rattle.std.specs.Prelude.{◌==◌}
use Rattle.std.specs.Ordering.{int_eq}
use Rattle.dh_value.specs.declared.kinds.Kind.{Kind}
use Rattle.dh_value.specs.declared.kinds.Kind.TheVariants as kind
use Rattle.dh_value.specs.declared.operators.Op.{Op}
use Rattle.dh_value.specs.declared.operators.Op.TheVariants as op
use Rattle.dh_value.specs.Words.{width_of, value_in}
use Rattle.dh_value.specs.Operations.{AreIntegers, Suits, result_of}
use Rattle.std.proofs.lemmas.Option.{slice_get_within}
use Rattle.dh_net.specs.Clock.{unsigned_result, shifted}
use Rattle.dh_net.specs.declared.nets.CellForm.TheVariants.{Add}
use Rattle.dh_net.proofs.Valuations.{cell_of}
use Rattle.dh_cells.specs.PlainCircuits.{PlainCircuit, IsNext}
use Rattle.dh_cells.specs.Settled.{Signals, shown, IsSettled, Grows, IsWire, Adds}
use Rattle.dh_cells.specs.ShownValues.{bit, is_one, number_shown, not_shown, both_shown, either_shown, match_shown, more_shown, less_shown, at_most_shown, alike_shown, operator_shown, choice_shown, guarded_shown, converted_shown}
use Rattle.dh_cells.proofs.CellsAppended.{settled_fewer, grows_then, grows_none}
use Rattle.dh_cells.proofs.OperatorBits.{both_bits, either_bits, not_bit, bit_tells, at_most, sum_alike, difference_alike, product_alike, shifted_alike, more_is, equal_alike, same_width_bits, low_bits, wider_bits, plain_value, right_kind}

-- a wire by another name of its width, and by another value that is the same
pub adds_as : (d e : PlainCircuit) (wire w v : ℕ) (value other : Signals → ℕ) → w ≡ v → Adds d e wire w value
    → ((x : Signals) → IsSettled d x → value x ≡ other x) → Adds d e wire v other
adds_as d e wire w v value other same a equal =
    subst (λ (n : ℕ). Adds d e wire n other) same
    (record {
      grows = a.grows;
      shows = record { there = a.shows.there; is = λ x s. a.shows.is x s ∙ equal x (settled_fewer d e x a.grows s) };
    })

-- behind cells that were added before
pub adds_behind : (d e f : PlainCircuit) (wire w : ℕ) (value other : Signals → ℕ) → Grows d e → Adds e f wire w value
    → ((x : Signals) → IsSettled e x → value x ≡ other x) → Adds d f wire w other
adds_behind d e f wire w value other g a equal = record {
  grows = grows_then d e f g a.grows;
  shows = (adds_as e f wire w w value other refl a equal).shows;
}

-- a wire that was there
pub adds_none : (d : PlainCircuit) (wire w : ℕ) (value : Signals → ℕ) → IsWire d wire w → ((x : Signals) → IsSettled d x → shown x wire ≡ value x) → Adds d d wire w value
adds_none d wire w value there is = record { grows = grows_none d; shows = record { there = there; is = is } }

-- a wire that is there is one before the next cell
pub wire_before : (d : PlainCircuit) (wire w : ℕ) → IsWire d wire w → wire < length d.cells
wire_before d wire w h = let found = cell_of d.cells wire w h.wide in slice_get_within d.cells wire found.0 found.1.0

pub sum_next : (d : PlainCircuit) (a b w : ℕ) → IsWire d a w → IsWire d b w → IsNext d w (Add a b)
sum_next d a b w p q = record {
  least = p.least;
  greatest = p.greatest;
  fits = record { left = record { earlier = wire_before d a w p; wide = p.wide }; right = record { earlier = wire_before d b w q; wide = q.wide } };
  shifts = tt;
}

-- Truths.

pub both_made : (d e : PlainCircuit) (wire a b : ℕ) → IsWire d a 1 → IsWire d b 1
    → Adds d e wire 1 (λ x. bit_and (shown x a) (shown x b)) → Adds d e wire 1 (both_shown a b)
both_made d e wire a b p q made = adds_as d e wire 1 1 _ (both_shown a b) refl made (λ x s. both_bits (shown x a) (shown x b) (p.fits x s) (q.fits x s))

pub either_made : (d e : PlainCircuit) (wire a b : ℕ) → IsWire d a 1 → IsWire d b 1
    → Adds d e wire 1 (λ x. bit_or (shown x a) (shown x b)) → Adds d e wire 1 (either_shown a b)
either_made d e wire a b p q made = adds_as d e wire 1 1 _ (either_shown a b) refl made (λ x s. either_bits (shown x a) (shown x b) (p.fits x s) (q.fits x s))

pub not_made : (d e f : PlainCircuit) (wire a z : ℕ) → IsWire d a 1 → Adds d e z 1 (number_shown 0)
    → Adds e f wire 1 (λ x. if shown x a == shown x z then 1 else 0) → Adds d f wire 1 (not_shown a)
not_made d e f wire a z p zero made =
    adds_behind d e f wire 1 _ (not_shown a) zero.grows made λ x s.
    not_bit (shown x a) (shown x z) (zero.shows.is x s) (p.fits x (settled_fewer d e x zero.grows s))

pub match_made : (d e f : PlainCircuit) (wire a r number : ℕ) (w : ℕ) → Adds d e r w (number_shown number)
    → Adds e f wire 1 (λ x. if shown x a == shown x r then 1 else 0) → Adds d f wire 1 (match_shown a number)
match_made d e f wire a r number w right made =
    adds_behind d e f wire 1 _ (match_shown a number) right.grows made λ x s. ap (λ (n : ℕ). bit (shown x a == n)) (right.shows.is x s)

pub more_made : (d e f : PlainCircuit) (wire a one w : ℕ) → Adds d e one w (number_shown 1)
    → Adds e f wire w (λ x. unsigned_result op.Add w (shown x a) (shown x one)) → Adds d f wire w (more_shown w a)
more_made d e f wire a one w right made =
    adds_behind d e f wire w _ (more_shown w a) right.grows made λ x s.
    ap (λ (n : ℕ). unsigned_result op.Add w (shown x a) n) (right.shows.is x s) ∙ more_is w (shown x a)

-- Operators.

module _ (k : Kind) (d e : PlainCircuit) (wire w a b : ℕ) (same : w ≡ width_of k) (p : IsWire d a (width_of k)) (q : IsWire d b (width_of k)) where
  pub sum_made : AreIntegers k k → Adds d e wire w (λ x. unsigned_result op.Add w (shown x a) (shown x b)) → Adds d e wire (width_of k) (alike_shown op.Add k a b)
  sum_made alike made =
      adds_as d e wire w (width_of k) _ (alike_shown op.Add k a b) same made λ x s.
      ap (λ (n : ℕ). unsigned_result op.Add n (shown x a) (shown x b)) same ∙ sum_alike k (shown x a) (shown x b) (p.least, p.greatest) alike

  pub difference_made : AreIntegers k k → Adds d e wire w (λ x. unsigned_result op.Sub w (shown x a) (shown x b)) → Adds d e wire (width_of k) (alike_shown op.Sub k a b)
  difference_made alike made =
      adds_as d e wire w (width_of k) _ (alike_shown op.Sub k a b) same made λ x s.
      ap (λ (n : ℕ). unsigned_result op.Sub n (shown x a) (shown x b)) same ∙ difference_alike k (shown x a) (shown x b) (p.least, p.greatest) alike (q.fits x s)

  pub product_made : AreIntegers k k → Adds d e wire w (λ x. unsigned_result op.Mul w (shown x a) (shown x b)) → Adds d e wire (width_of k) (alike_shown op.Mul k a b)
  product_made alike made =
      adds_as d e wire w (width_of k) _ (alike_shown op.Mul k a b) same made λ x s.
      ap (λ (n : ℕ). unsigned_result op.Mul n (shown x a) (shown x b)) same ∙ product_alike k (shown x a) (shown x b) (p.least, p.greatest) alike

pub shifted_made : (k l : Kind) (d e : PlainCircuit) (wire w a b : ℕ) → w ≡ width_of k → IsWire d a (width_of k)
    → Adds d e wire w (λ x. shifted op.Shl w (shown x a) (shown x b)) → Adds d e wire (width_of k) (operator_shown op.Shl k l a b)
shifted_made k l d e wire w a b same p made =
    adds_as d e wire w (width_of k) _ (operator_shown op.Shl k l a b) same made λ x s.
    ap (λ (n : ℕ). shifted op.Shl n (shown x a) (shown x b)) same ∙ shifted_alike k (shown x a) (shown x b) (p.least, p.greatest) l

pub equal_made : (k : Kind) (d e : PlainCircuit) (wire a b : ℕ) → IsWire d a (width_of k) → IsWire d b (width_of k)
    → Adds d e wire 1 (λ x. if shown x a == shown x b then 1 else 0) → Adds d e wire 1 (alike_shown op.Eq k a b)
equal_made k d e wire a b p q made =
    adds_as d e wire 1 1 _ (alike_shown op.Eq k a b) refl made λ x s. ap (λ (t : Bool). bit t) (equal_alike k (shown x a) (shown x b) (p.fits x s) (q.fits x s))

-- what is not so
opposite_made : (d e f : PlainCircuit) (wire m : ℕ) (test : Signals → Bool) → Adds d e m 1 (λ x. bit (test x)) → Adds e f wire 1 (not_shown m)
    → Adds d f wire 1 (λ x. bit (not (test x)))
opposite_made d e f wire m test mid made =
    adds_behind d e f wire 1 _ (λ x. bit (not (test x))) mid.grows made λ x s. ap (λ (t : Bool). bit (not t)) (bit_tells (shown x m) (test x) (mid.shows.is x s))

pub different_made : (k : Kind) (d e f : PlainCircuit) (wire m a b : ℕ) → Adds d e m 1 (alike_shown op.Eq k a b) → Adds e f wire 1 (not_shown m)
    → Adds d f wire 1 (alike_shown op.Ne k a b)
different_made k d e f wire m a b mid made =
    opposite_made d e f wire m (λ x. int_eq (value_in k (shown x a)) (value_in k (shown x b))) mid made

pub at_most_made : (k : Kind) (d e f : PlainCircuit) (wire m a b : ℕ) → Adds d e m 1 (less_shown k b a) → Adds e f wire 1 (not_shown m)
    → Adds d f wire 1 (at_most_shown k a b)
at_most_made k d e f wire m a b mid made =
    let opposite = opposite_made d e f wire m (λ x. int_lt (value_in k (shown x b)) (value_in k (shown x a))) mid made in
    adds_as d f wire 1 1 _ (at_most_shown k a b) refl opposite λ x s. ap (λ (t : Bool). bit t) (at_most (value_in k (shown x a)) (value_in k (shown x b)))

-- Choices.

either_same : (t : Bool) (n m : ℕ) → n ≡ m → n ≡ (if t then n else m)
either_same true n m e = refl
either_same false n m e = e

-- a choice between a wire and itself
pub choice_same : (d : PlainCircuit) (test a b w : ℕ) → a ≡ b → IsWire d a w → Adds d d a w (choice_shown test a b)
choice_same d test a b w e there = adds_none d a w (choice_shown test a b) there λ x s. either_same (is_one x test) (shown x a) (shown x b) (ap (λ (n : ℕ). shown x n) e)

pub guarded_made : (d e f : PlainCircuit) (wire guard a z w : ℕ) → Adds d e z w (number_shown 0) → Adds e f wire w (choice_shown guard a z)
    → Adds d f wire w (guarded_shown guard a)
guarded_made d e f wire guard a z w zero made =
    adds_behind d e f wire w _ (guarded_shown guard a) zero.grows made λ x s.
    ap (λ (n : ℕ). if is_one x guard then shown x a else n) (zero.shows.is x s)

pub same_made : (from to : Kind) (d : PlainCircuit) (wire had wanted : ℕ) → wanted ≡ width_of to → had ≡ width_of from → wanted ≡ had
    → IsWire d wire (width_of from) → Adds d d wire (width_of to) (converted_shown from to wire)
same_made from to d wire had wanted w h same there =
    let equal : width_of from ≡ width_of to = sym h ∙ (sym same ∙ w) in
    adds_none d wire (width_of to) (converted_shown from to wire) (subst (λ (n : ℕ). IsWire d wire n) equal there) λ x s.
    same_width_bits from to (shown x wire) (sym equal) (there.fits x s)

pub low_made : (from to : Kind) (d e : PlainCircuit) (new wire had wanted : ℕ) → wanted ≡ width_of to → had ≡ width_of from → wanted < had
    → Adds d e new wanted (λ x. shown x wire % 2 ^ wanted) → Adds d e new (width_of to) (converted_shown from to wire)
low_made from to d e new wire had wanted w h less made =
    adds_as d e new wanted (width_of to) _ (converted_shown from to wire) w made λ x s.
    ap (λ (n : ℕ). shown x wire % 2 ^ n) w ∙ low_bits from to (shown x wire) (omega (arith, w, h, less))

pub zero_made : (from to : Kind) (d e : PlainCircuit) (new wire wanted : ℕ) → wanted ≡ width_of to → (from ≡ kind.Bool) ⊎ ((w : ℕ) × (from ≡ kind.Unsigned w))
    → width_of from < width_of to → IsWire d wire (width_of from) → Adds d e new wanted (λ x. shown x wire) → Adds d e new (width_of to) (converted_shown from to wire)
zero_made from to d e new wire wanted w plain less there made =
    adds_as d e new wanted (width_of to) _ (converted_shown from to wire) w made λ x s.
    wider_bits from to (shown x wire) (plain_value from (shown x wire) plain) (omega (arith, less)) (there.fits x s)

-- an operator by words of one kind
pub alike_made : (o : Op) (k l : Kind) (d e : PlainCircuit) (wire a b : ℕ) → Suits o k l → Adds d e wire (width_of (result_of o k)) (alike_shown o k a b)
    → Adds d e wire (width_of (result_of o k)) (operator_shown o k l a b)
alike_made o k l d e wire a b suits made =
    adds_as d e wire (width_of (result_of o k)) (width_of (result_of o k)) (alike_shown o k a b) (operator_shown o k l a b) refl made λ x s.
    right_kind o k l (shown x a) (shown x b) suits

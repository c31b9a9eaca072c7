-- The values of iterators are formed: shifts and sums of values of one integer kind.
use Rattle.std.proofs.Common.{◌≡◌, ℕ, zero, suc, ◌<◌, ◌⊎◌, inl, inr, false, Some, None, refl, sym, subst, arith, length}
use Rattle.std.specs.Prelude.{Option}
use Rattle.dh_value.specs.declared.kinds.Kind.{Kind}
use Rattle.dh_value.specs.declared.kinds.Kind.TheVariants as kind
use Rattle.dh_value.specs.declared.operators.Op.TheVariants as op
use Rattle.dh_value.specs.Words.{IsInteger, IsKind}
use Rattle.dh_value.specs.Operations.{Suits}
use Rattle.dh_value.proofs.Values.{integer_width}
use Rattle.dh_code.specs.declared.places.VariableSlots.{VariableSlots}
use Rattle.dh_plan.specs.Blocks.{kind_at}
use Rattle.dh_expressions.specs.declared.drafts.Draft.{Draft}
use Rattle.dh_expressions.specs.Drafted.{Extends}
use Rattle.dh_formed.specs.Formed.{Agrees, FormedBlock, Forms, FormsValue, HasKind, Started}
use Rattle.dh_expressions.specs.MadeValues.{IsThere, MadeAddend, MadeBit, MadeBits, MadeIterator, MadeMultiple, MadeOffset, MadeShift, MadeShifted, MadeSum, MadeTotal, MadeTurns}
use Rattle.dh_expressions.proofs.Pushing.{extends_again, extends_self}
use Rattle.dh_formed.proofs.ValuesFormed.{agrees_before, compute_forms, convert_forms, forms_again, forms_none, forms_then, forms_there, forms_where, kind_later, number_forms, old_forms, started_later}

module _ (k : Kind) where
  shifts : IsInteger k → Suits op.Shl k (kind.Unsigned 6)
  shifts whole = by k whole
    where
      by : (k : Kind) → IsInteger k → Suits op.Shl k (kind.Unsigned 6)
      by kind.Bool h = elim h [ ]
      by (kind.Unsigned w) h = tt
      by (kind.Signed w) h = tt

  adds : IsInteger k → Suits op.Add k k
  adds whole = by k whole
    where
      by : (k : Kind) → IsInteger k → Suits op.Add k k
      by kind.Bool h = elim h [ ]
      by (kind.Unsigned w) h = refl
      by (kind.Signed w) h = refl

  -- an operator on a value of the kind and a number
  abbrev pub OfKind : Draft → (value : ℕ) → FormedBlock → Type 0
  OfKind d value x = IsInteger k × HasKind x d k value

  shift_forms : (value by : ℕ) (old new : Draft) (v : ℕ) → MadeShift value by old new v → FormsValue old new v (OfKind old value) (λ x. k)
  shift_forms value by old new v m = record {
    extends = extends_again old m.middle new n.extends c.extends;
    forms = λ x at s w.
        forms_again x old m.middle new c.extends (n.forms x (agrees_before x m.middle new c.extends at) s sized) (c.forms x at (started_later x old m.middle n.extends s) (operands x at s w));
    gives = λ x at s w. c.gives x at (started_later x old m.middle n.extends s) (operands x at s w);
  }
    where
      sized : IsKind (kind.Unsigned 6)
      sized = (omega arith, omega arith)

      n : FormsValue old m.middle m.amount (λ x. IsKind (kind.Unsigned 6)) (λ x. kind.Unsigned 6)
      n = number_forms (kind.Unsigned 6) false by old m.middle m.amount m.constant

      c : FormsValue m.middle new v (λ x. Suits op.Shl k (kind.Unsigned 6) × (HasKind x m.middle k value × HasKind x m.middle (kind.Unsigned 6) m.amount)) (λ x. k)
      c = compute_forms m.middle new v value m.amount op.Shl k (kind.Unsigned 6) m.pushes

      operands : (x : FormedBlock) → Agrees x new → Started x old → OfKind old value x → Suits op.Shl k (kind.Unsigned 6) × (HasKind x m.middle k value × HasKind x m.middle (kind.Unsigned 6) m.amount)
      operands x at s w = (shifts w.0, (kind_later x old m.middle k value n.extends w.1, n.gives x (agrees_before x m.middle new c.extends at) s sized))

  shifted_forms : (value by : ℕ) (old new : Draft) (v : ℕ) → MadeShifted value by old new v → FormsValue old new v (OfKind old value) (λ x. k)
  shifted_forms value by old new v (inl m) = forms_there old new value v (OfKind old value) (λ x. k) m (λ x w. w.1)
  shifted_forms value by old new v (inr m) = shift_forms value by old new v m

  -- a sum so far
  abbrev pub HasSum : FormedBlock → Draft → Option ℕ → Type 0
  HasSum x d None = Unit {0}
  HasSum x d (Some value) = HasKind x d k value

  sum_later : (x : FormedBlock) (old new : Draft) (sum : Option ℕ) → Extends old new → HasSum x old sum → HasSum x new sum
  sum_later x old new None e h = tt
  sum_later x old new (Some value) e h = kind_later x old new k value e h

  sum_forms : (sum : Option ℕ) (value : ℕ) (old new : Draft) (v : ℕ) → MadeSum sum value old new v → FormsValue old new v (λ x. OfKind old value x × HasSum x old sum) (λ x. k)
  sum_forms None value old new v m = forms_there old new value v _ (λ x. k) m (λ x w. w.0.1)
  sum_forms (Some sum) value old new v m =
      forms_where old new v (λ x. Suits op.Add k k × (HasKind x old k sum × HasKind x old k value)) _ (λ x. k) (λ x. k) (λ x w. (adds w.0.0, (w.1, w.0.1))) (λ x w. refl)
      (compute_forms old new v sum value op.Add k k m)

  -- operations that form a sum
  record FormsSum (old new : Draft) (sum : Option ℕ) (Where : FormedBlock → Type 0) : Type 0 where
    extends : Extends old new
    forms : (x : FormedBlock) → Agrees x new → Started x old → Where x → Forms x old new
    gives : (x : FormedBlock) → Agrees x new → Started x old → Where x → HasSum x new sum

  sum_there : (old new : Draft) (sum more : Option ℕ) (Where : FormedBlock → Type 0) → new ≡ old → more ≡ sum → ((x : FormedBlock) → Where x → HasSum x old sum) → FormsSum old new more Where
  sum_there old new sum more Where same is gives = record {
    extends = subst (λ (d : Draft). Extends old d) (sym same) (extends_self old);
    forms = λ x a s w. forms_none x old new same;
    gives = λ x a s w. subst (λ (o : Option ℕ). HasSum x new o) (sym is) (subst (λ (d : Draft). HasSum x d sum) (sym same) (gives x w));
  }

  addend_forms : (sum : Option ℕ) (value by : ℕ) (old new : Draft) (more : Option ℕ) → MadeAddend sum value by old new more → FormsSum old new more (λ x. OfKind old value x × HasSum x old sum)
  addend_forms sum value by old new more m = record {
    extends = extends_again old m.middle new l.extends c.extends;
    forms = λ x at s w.
        forms_again x old m.middle new c.extends (l.forms x (agrees_before x m.middle new c.extends at) s w.0) (c.forms x at (started_later x old m.middle l.extends s) (operands x at s w));
    gives = λ x at s w. subst (λ (o : Option ℕ). HasSum x new o) (sym m.more_is) (c.gives x at (started_later x old m.middle l.extends s) (operands x at s w));
  }
    where
      l : FormsValue old m.middle m.shifted (OfKind old value) (λ x. k)
      l = shifted_forms value by old m.middle m.shifted m.shifts

      c : FormsValue m.middle new m.total (λ x. OfKind m.middle m.shifted x × HasSum x m.middle sum) (λ x. k)
      c = sum_forms sum m.shifted m.middle new m.total m.sums

      operands : (x : FormedBlock) → Agrees x new → Started x old → OfKind old value x × HasSum x old sum → OfKind m.middle m.shifted x × HasSum x m.middle sum
      operands x at s w = ((w.0.0, l.gives x (agrees_before x m.middle new c.extends at) s w.0), sum_later x old m.middle sum l.extends w.1)

  bit_forms : (sum : Option ℕ) (value by : ℕ) (old new : Draft) (more : Option ℕ) → MadeBit sum value by old new more → FormsSum old new more (λ x. OfKind old value x × HasSum x old sum)
  bit_forms sum value by old new more (inl m) = sum_there old new sum more _ m.0 m.1 (λ x w. w.1)
  bit_forms sum value by old new more (inr m) = addend_forms sum value by old new more m

  bits_more : (value b : ℕ) (old d new : Draft) (s sum : Option ℕ) → FormsSum old d s (OfKind old value) → MadeBit s value b d new sum → FormsSum old new sum (OfKind old value)
  bits_more value b old d new s sum l last = record {
    extends = extends_again old d new l.extends c.extends;
    forms = λ x at st w.
        forms_again x old d new c.extends (l.forms x (agrees_before x d new c.extends at) st w) (c.forms x at (started_later x old d l.extends st) (operands x at st w));
    gives = λ x at st w. c.gives x at (started_later x old d l.extends st) (operands x at st w);
  }
    where
      c : FormsSum d new sum (λ x. OfKind d value x × HasSum x d s)
      c = bit_forms s value b d new sum last

      operands : (x : FormedBlock) → Agrees x new → Started x old → OfKind old value x → OfKind d value x × HasSum x d s
      operands x at st w = ((w.0, kind_later x old d k value l.extends w.1), l.gives x (agrees_before x d new c.extends at) st w)

  bits_forms : (value bits : ℕ) (old new : Draft) (sum : Option ℕ) → MadeBits value bits old new sum → FormsSum old new sum (OfKind old value)
  bits_forms value zero old new sum m = sum_there old new None sum (OfKind old value) m.0 m.1 (λ x w. tt)
  bits_forms value (suc b) old new sum (d, (s, (before, last))) = bits_more value b old d new s sum (bits_forms value b old d s before) last

  total_forms : (sum : Option ℕ) (old new : Draft) (v : ℕ) → MadeTotal k sum old new v → FormsValue old new v (λ x. IsInteger k × HasSum x old sum) (λ x. k)
  total_forms None old new v m = forms_where old new v (λ x. IsKind k) _ (λ x. k) (λ x. k) (λ x w. integer_width k w.0) (λ x w. refl) (number_forms k false 0 old new v m)
  total_forms (Some sum) old new v m = forms_there old new sum v _ (λ x. k) m (λ x w. w.1)

  multiple_forms : (value : ℕ) (old new : Draft) (v : ℕ) → MadeMultiple k value old new v → FormsValue old new v (OfKind old value) (λ x. k)
  multiple_forms value old new v m = record {
    extends = extends_again old m.middle new l.extends c.extends;
    forms = λ x at s w.
        forms_again x old m.middle new c.extends (l.forms x (agrees_before x m.middle new c.extends at) s w)
        (c.forms x at (started_later x old m.middle l.extends s) (w.0, l.gives x (agrees_before x m.middle new c.extends at) s w));
    gives = λ x at s w. c.gives x at (started_later x old m.middle l.extends s) (w.0, l.gives x (agrees_before x m.middle new c.extends at) s w);
  }
    where
      l : FormsSum old m.middle m.sum (OfKind old value)
      l = bits_forms value m.bits old m.middle m.sum m.sums

      c : FormsValue m.middle new v (λ x. IsInteger k × HasSum x m.middle m.sum) (λ x. k)
      c = total_forms m.sum m.middle new v m.total

  offset_forms : (multiple : ℕ) (old new : Draft) (v : ℕ) → MadeOffset k multiple old new v → FormsValue old new v (OfKind old multiple) (λ x. k)
  offset_forms multiple old new v m = record {
    extends = extends_again old m.middle new n.extends c.extends;
    forms = λ x at s w.
        forms_again x old m.middle new c.extends (n.forms x (agrees_before x m.middle new c.extends at) s (integer_width k w.0)) (c.forms x at (started_later x old m.middle n.extends s) (operands x at s w));
    gives = λ x at s w. c.gives x at (started_later x old m.middle n.extends s) (operands x at s w);
  }
    where
      n : FormsValue old m.middle m.amount (λ x. IsKind k) (λ x. k)
      n = number_forms k false m.start old m.middle m.amount m.constant

      c : FormsValue m.middle new v (λ x. Suits op.Add k k × (HasKind x m.middle k multiple × HasKind x m.middle k m.amount)) (λ x. k)
      c = compute_forms m.middle new v multiple m.amount op.Add k k m.pushes

      operands : (x : FormedBlock) → Agrees x new → Started x old → OfKind old multiple x → Suits op.Add k k × (HasKind x m.middle k multiple × HasKind x m.middle k m.amount)
      operands x at s w = (adds w.0, (kind_later x old m.middle k multiple n.extends w.1, n.gives x (agrees_before x m.middle new c.extends at) s (integer_width k w.0)))

  ends_forms : (multiple : ℕ) (old new : Draft) (v : ℕ) → IsThere old new multiple v ⊎ MadeOffset k multiple old new v → FormsValue old new v (OfKind old multiple) (λ x. k)
  ends_forms multiple old new v (inl m) = forms_there old new multiple v _ (λ x. k) m (λ x w. w.1)
  ends_forms multiple old new v (inr m) = offset_forms multiple old new v m

  -- what an iterator holds
  module _ (held : VariableSlots) where
    abbrev pub Counts : FormedBlock → Type 0
    Counts x = IsInteger k × (held.first < length x.plan.registers)

    turns_forms : (old new : Draft) (v : ℕ) → MadeTurns held k old new v → FormsValue old new v Counts (λ x. k)
    turns_forms old new v m =
        forms_then old m.third new m.multiple v Counts (λ x. k) (λ x. k)
        (forms_then old m.second m.third m.turn m.multiple Counts (λ x. k) (λ x. k)
        (forms_then old m.first m.second m.told m.turn Counts (λ x. kind_at x.plan.registers held.first) (λ x. k)
        (forms_where old m.first m.told (λ x. held.first < length x.plan.registers) Counts (λ x. kind_at x.plan.registers held.first) (λ x. kind_at x.plan.registers held.first) (λ x w. w.1) (λ x w. refl)
        (old_forms old m.first m.told held.first m.sees))
        (forms_where m.first m.second m.turn (λ x. IsInteger k × HasKind x m.first (kind_at x.plan.registers held.first) m.told) _ (λ x. k) (λ x. k) (λ x w. (w.0.0, w.1)) (λ x w. refl)
        (convert_forms m.first m.second m.turn m.told k (λ x. kind_at x.plan.registers held.first) m.converts)))
        (forms_where m.second m.third m.multiple (OfKind m.second m.turn) _ (λ x. k) (λ x. k) (λ x w. (w.0.0, w.1)) (λ x w. refl) (multiple_forms m.turn m.second m.third m.multiple m.times)))
        (forms_where m.third new v (OfKind m.third m.multiple) _ (λ x. k) (λ x. k) (λ x w. (w.0.0, w.1)) (λ x w. refl) (ends_forms m.multiple m.third new v m.ends))

    pub iterator_forms : (old new : Draft) (v : ℕ) → MadeIterator held k old new v → FormsValue old new v Counts (λ x. k)
    iterator_forms old new v (inl m) = forms_where old new v (λ x. IsKind k) Counts (λ x. k) (λ x. k) (λ x w. integer_width k w.0) (λ x w. refl) (number_forms k false m.0 old new v m.1)
    iterator_forms old new v (inr m) = turns_forms old new v m

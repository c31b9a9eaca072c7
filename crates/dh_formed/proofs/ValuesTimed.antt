-- When values are there: an operation that is no read is there when all is that it takes.
use Rattle.std.proofs.Common.{◌≡◌, ℕ, zero, suc, ◌<◌, ◌≤◌, ◌⊎◌, inl, inr, true, false, List, Some, None, refl, sym, ap, ◌∙◌, subst, arith, length, map}
use Rattle.std.specs.Prelude.{Bool as Truth, if◌then◌else◌, max, slice_get, Option}
use Rattle.std.proofs.lemmas.Bool.{cases_lt}
use Rattle.dh_value.specs.declared.kinds.Kind.{Kind}
use Rattle.dh_value.specs.declared.kinds.Kind.TheVariants as kind
use Rattle.dh_value.specs.declared.operators.Op.{Op}
use Rattle.dh_value.specs.declared.operators.Op.TheVariants as op
use Rattle.dh_value.specs.declared.words.Word.{Word}
use Rattle.dh_tree.specs.declared.trees.counters.Counter.{Counter}
use Rattle.dh_tree.specs.PlainTrees.{Term}
use Rattle.dh_code.specs.declared.places.VariableSlots.{VariableSlots}
use Rattle.dh_plan.specs.declared.operations.OperationForm.{OperationForm}
use Rattle.dh_plan.specs.declared.operations.OperationForm.TheVariants.{Constant, Old, Compute, Convert}
use Rattle.dh_plan.specs.LegalSchedules.{greatest_number, is_read, there_at}
use Rattle.dh_plan.specs.Ordered.{operation_takes}
use Rattle.dh_expressions.specs.declared.drafts.Draft.{Draft}
use Rattle.dh_expressions.specs.declared.scenes.Lane.{Lane}
use Rattle.dh_expressions.specs.Drafted.{Extends, Pushes}
use Rattle.dh_expressions.specs.MadeValues.{IsThere, MadeAddend, MadeBit, MadeBits, MadeBy, MadeConverted, MadeCurrent, MadeExtended, MadeHeld, MadeIterator, MadeLowestBit, MadeMultiple, MadeNumber, MadeOffset, MadeOperation, MadeShifted, MadeShown, MadeSum, MadeTotal, MadeTruth, MadeTurns}
use Rattle.dh_expressions.specs.Shown.{is_kept, is_read_term, register_at}
use Rattle.dh_formed.specs.Timed.{AgreeInTime, BlockClocks, CurrentAt, HasClock, StartedInTime, TimesValue, VariableAt, Within, clock_of}
use Rattle.dh_expressions.proofs.Pushing.{extends_again, extends_self, pushed_extends, pushed_longer, pushed_there}

-- Facts of operations in front.

pub agree_before : (c : BlockClocks) (old new : Draft) → Extends old new → AgreeInTime c new → AgreeInTime c old
agree_before c old new e a = record { each = λ n o from at. a.each n o from (e.operations n o at) }

pub time_later : (c : BlockClocks) (old new : Draft) → Extends old new → StartedInTime c old → StartedInTime c new
time_later c old new e s = let l = e.longer in omega (arith, s, l)

pub within_none : (c : BlockClocks) (d e : Draft) (k : ℕ) → e ≡ d → Within c d e k
within_none c d e k same = λ n far less. absurd (never n far less)
  where
    never : (n : ℕ) → length d.operations.items ≤ n → n < length e.operations.items → ⊥
    never n far less = let l : length e.operations.items ≡ length d.operations.items = ap (λ (k : Draft). length k.operations.items) same in omega (arith, l, far, less)

pub within_again : (c : BlockClocks) (a b d : Draft) (j k : ℕ) → j ≤ k → Within c a b j → Within c b d k → Within c a d k
within_again c a b d j k few f g = λ n far less. by n far less (cases_lt n (length b.operations.items))
  where
    front : (n j k : ℕ) → n ≤ j → j ≤ k → n ≤ k
    front n j k l m = omega (arith, l, m)

    by : (n : ℕ) → length a.operations.items ≤ n → n < length d.operations.items → (n < length b.operations.items) ⊎ (length b.operations.items ≤ n) → clock_of c n ≤ k
    by n far less (inl near) = front (clock_of c n) j k (f n far near) few
    by n far less (inr behind) = g n behind less

pub within_more : (c : BlockClocks) (a b : Draft) (j k : ℕ) → j ≤ k → Within c a b j → Within c a b k
within_more c a b j k few f = λ n far less. let l = f n far less in omega (arith, l, few)

-- One operation more.
module _ (old new : Draft) (number : ℕ) (guard : Option ℕ) (form : OperationForm) (p : Pushes old new number guard form) (c : BlockClocks) where
  pub pushed_clock : AgreeInTime c new → StartedInTime c old → clock_of c number ≡ there_at form (greatest_number (map (clock_of c) (operation_takes (record { guard = guard; form = form }))))
  pushed_clock a s = a.each number (record { guard = guard; form = form }) (let m = p.number_is in omega (arith, m, s)) (pushed_there old new number guard form p)

  pub pushed_within : (k : ℕ) → clock_of c number ≤ k → Within c old new k
  pushed_within k few = λ n far less. subst (λ (m : ℕ). clock_of c m ≤ k) (own n far less) few
    where
      own : (n : ℕ) → length old.operations.items ≤ n → n < length new.operations.items → number ≡ n
      own n far less = let l = pushed_longer old new number guard form p in let m = p.number_is in omega (arith, far, less, l, m)

-- an operation that is no read
pub timed_pushed : (old new : Draft) (v : ℕ) (form : OperationForm) (Where : BlockClocks → Type 0) (clock : BlockClocks → ℕ) → Pushes old new v None form → is_read form ≡ false
    → ((c : BlockClocks) → Where c → greatest_number (map (clock_of c) (operation_takes (record { guard = None; form = form }))) ≡ clock c) → TimesValue old new v Where clock
timed_pushed old new v form Where clock p still is = record {
  extends = pushed_extends old new v None form p;
  within = λ c a s w. pushed_within old new v None form p c (clock c) (same (clock_of c v) (clock c) (at c a s w));
  at = λ c a s w. at c a s w;
}
  where
    same : (m k : ℕ) → m ≡ k → m ≤ k
    same m k e = omega (arith, e)

    at : (c : BlockClocks) → AgreeInTime c new → StartedInTime c old → Where c → clock_of c v ≡ clock c
    at c a s w = pushed_clock old new v None form p c a s ∙ (ap (λ (b : Truth). if b then suc (greatest_number (map (clock_of c) (operation_takes (record { guard = None; form = form })))) else greatest_number (map (clock_of c) (operation_takes (record { guard = None; form = form })))) still ∙ is c w)

timed_there : (old new : Draft) (value v : ℕ) (Where : BlockClocks → Type 0) (clock : BlockClocks → ℕ) → IsThere old new value v → ((c : BlockClocks) → Where c → HasClock c (clock c) value) → TimesValue old new v Where clock
timed_there old new value v Where clock h at = record {
  extends = subst (λ (d : Draft). Extends old d) (sym h.0) (extends_self old);
  within = λ c a s w. within_none c old new (clock c) h.0;
  at = λ c a s w. ap (λ n. clock_of c n) h.1 ∙ at c w;
}

-- a value made of one that was made before, no earlier
timed_then : (a b d : Draft) (u v : ℕ) (Where : BlockClocks → Type 0) (first second : BlockClocks → ℕ) → ((c : BlockClocks) → Where c → first c ≤ second c) → TimesValue a b u Where first
    → TimesValue b d v (λ c. Where c × HasClock c (first c) u) second → TimesValue a d v Where second
timed_then a b d u v Where first second few f g = record {
  extends = extends_again a b d f.extends g.extends;
  within = λ c at s w.
      let before = agree_before c b d g.extends at in
      within_again c a b d (first c) (second c) (few c w) (f.within c before s w) (g.within c at (time_later c a b f.extends s) (w, f.at c before s w));
  at = λ c at s w. g.at c at (time_later c a b f.extends s) (w, f.at c (agree_before c b d g.extends at) s w);
}

timed_where : (a b : Draft) (v : ℕ) (Where Other : BlockClocks → Type 0) (clock other : BlockClocks → ℕ) → ((c : BlockClocks) → Other c → Where c) → ((c : BlockClocks) → Other c → clock c ≡ other c)
    → TimesValue a b v Where clock → TimesValue a b v Other other
timed_where a b v Where Other clock other more same f = record {
  extends = f.extends;
  within = λ c at s w. subst (λ (k : ℕ). Within c a b k) (same c w) (f.within c at s (more c w));
  at = λ c at s w. f.at c at s (more c w) ∙ same c w;
}

-- Forms one by one.

one_greatest : (n : ℕ) → max n 0 ≡ n
one_greatest n = omega arith

two_greatest : (m n : ℕ) → max m (max n 0) ≡ max m n
two_greatest m n = omega arith

pub number_timed : (k : Kind) (negative : Truth) (n : ℕ) (old new : Draft) (v : ℕ) → MadeNumber k negative n old new v → TimesValue old new v (λ c. Unit {0}) (λ c. 0)
number_timed k negative n old new v m = timed_pushed old new v (Constant m.word) (λ c. Unit {0}) (λ c. 0) m.pushes refl (λ c w. refl)

pub word_timed : (old new : Draft) (v : ℕ) (word : Word) → Pushes old new v None (Constant word) → TimesValue old new v (λ c. Unit {0}) (λ c. 0)
word_timed old new v word p = timed_pushed old new v (Constant word) (λ c. Unit {0}) (λ c. 0) p refl (λ c w. refl)

old_timed : (old new : Draft) (v register : ℕ) → Pushes old new v None (Old register) → TimesValue old new v (λ c. Unit {0}) (λ c. 0)
old_timed old new v register p = timed_pushed old new v (Old register) (λ c. Unit {0}) (λ c. 0) p refl (λ c w. refl)

pub compute_timed : (old new : Draft) (v a b : ℕ) (o : Op) (j k : BlockClocks → ℕ) → Pushes old new v None (Compute o a b) → TimesValue old new v (λ c. HasClock c (j c) a × HasClock c (k c) b) (λ c. max (j c) (k c))
compute_timed old new v a b o j k p =
    timed_pushed old new v (Compute o a b) _ (λ c. max (j c) (k c)) p refl
    (λ c w. two_greatest (clock_of c a) (clock_of c b) ∙ (ap (λ n. max n (clock_of c b)) w.0 ∙ ap (λ n. max (j c) n) w.1))

convert_timed : (old new : Draft) (v a : ℕ) (to : Kind) (k : BlockClocks → ℕ) → Pushes old new v None (Convert a to) → TimesValue old new v (λ c. HasClock c (k c) a) k
convert_timed old new v a to k p = timed_pushed old new v (Convert a to) _ k p refl (λ c w. one_greatest (clock_of c a) ∙ w)

pub converted_timed : (t : Term) (to : Kind) (value : ℕ) (k : BlockClocks → ℕ) (old new : Draft) (v : ℕ) → MadeConverted (is_kept t to) to value old new v → TimesValue old new v (λ c. HasClock c (k c) value) k
converted_timed t to value k old new v m = by (is_kept t to) m
  where
    by : (b : Truth) → MadeConverted b to value old new v → TimesValue old new v (λ c. HasClock c (k c) value) k
    by true m = timed_there old new value v _ k m (λ c w. w)
    by false m = convert_timed old new v value to k m

extended_timed : (t : Term) (to : Kind) (value : ℕ) (k : BlockClocks → ℕ) (old new : Draft) (v : ℕ) → MadeExtended t to value old new v → TimesValue old new v (λ c. HasClock c (k c) value) k
extended_timed t kind.Bool value k old new v m = timed_there old new value v _ k m (λ c w. w)
extended_timed t (kind.Unsigned w) value k old new v m = converted_timed t (kind.Unsigned w) value k old new v m
extended_timed t (kind.Signed w) value k old new v m = converted_timed t (kind.Signed w) value k old new v m

pub operation_timed : (o : Op) (left right : Term) (a b : ℕ) (j k : BlockClocks → ℕ) (old new : Draft) (v : ℕ) → MadeOperation o left right a b old new v
    → TimesValue old new v (λ c. HasClock c (j c) a × HasClock c (k c) b) (λ c. max (j c) (k c))
operation_timed o left right a b j k old new v m = record {
  extends = extends_again old m.first new l.extends (extends_again m.first m.second new r.extends p.extends);
  within = λ c at s w.
      let at2 = agree_before c m.second new p.extends at in
      let at1 = agree_before c m.first m.second r.extends at2 in
      let s1 = time_later c old m.first l.extends s in
      let s2 = time_later c m.first m.second r.extends s1 in
      within_again c old m.first new (j c) (max (j c) (k c)) (left_few (j c) (k c)) (l.within c at1 s w.0)
      (within_again c m.first m.second new (k c) (max (j c) (k c)) (right_few (j c) (k c)) (r.within c at2 s1 w.1) (p.within c at s2 (l.at c at1 s w.0, r.at c at2 s1 w.1)));
  at = λ c at s w.
      let at2 = agree_before c m.second new p.extends at in
      let at1 = agree_before c m.first m.second r.extends at2 in
      let s1 = time_later c old m.first l.extends s in
      p.at c at (time_later c m.first m.second r.extends s1) (l.at c at1 s w.0, r.at c at2 s1 w.1);
}
  where
    l : TimesValue old m.first m.x (λ c. HasClock c (j c) a) j
    l = extended_timed left _ a j old m.first m.x m.left_made

    r : TimesValue m.first m.second m.y (λ c. HasClock c (k c) b) k
    r = extended_timed right _ b k m.first m.second m.y m.right_made

    p : TimesValue m.second new v (λ c. HasClock c (j c) m.x × HasClock c (k c) m.y) (λ c. max (j c) (k c))
    p = compute_timed m.second new v m.x m.y o j k m.pushes

    left_few : (m n : ℕ) → m ≤ max m n
    left_few m n = omega arith

    right_few : (m n : ℕ) → n ≤ max m n
    right_few m n = omega arith

-- an operator on a value and a number put down behind it
with_number : (o : Op) (value amount : ℕ) (kd : Kind) (n : ℕ) (k : BlockClocks → ℕ) (old middle new : Draft) (v : ℕ) → MadeNumber kd false n old middle amount → Pushes middle new v None (Compute o value amount)
    → TimesValue old new v (λ c. HasClock c (k c) value) k
with_number o value amount kd n k old middle new v m p =
    timed_then old middle new amount v (λ c. HasClock c (k c) value) (λ c. 0) k (λ c w. least (k c))
    (timed_where old middle amount (λ c. Unit {0}) (λ c. HasClock c (k c) value) (λ c. 0) (λ c. 0) (λ c w. tt) (λ c w. refl) (number_timed kd false n old middle amount m))
    (timed_where middle new v (λ c. HasClock c (k c) value × HasClock c 0 amount) _ (λ c. max (k c) 0) k (λ c w. w) (λ c w. one_greatest (k c)) (compute_timed middle new v value amount o k (λ c. 0) p))
  where
    least : (n : ℕ) → 0 ≤ n
    least n = omega arith

lowest_timed : (value : ℕ) (k : BlockClocks → ℕ) (old new : Draft) (v : ℕ) → MadeLowestBit value old new v → TimesValue old new v (λ c. HasClock c (k c) value) k
lowest_timed value k old new v m =
    timed_then old m.first new m.bit v (λ c. HasClock c (k c) value) k k (λ c w. self (k c)) (convert_timed old m.first m.bit value (kind.Unsigned 1) k m.converts)
    (timed_where m.first new v (λ c. HasClock c (k c) m.bit) _ k k (λ c w. w.1) (λ c w. refl) (with_number op.Eq m.bit m.one (kind.Unsigned 1) 1 k m.first m.second new v m.constant m.pushes))
  where
    self : (n : ℕ) → n ≤ n
    self n = omega arith

pub held_timed : (t : Term) (to : Kind) (value : ℕ) (k : BlockClocks → ℕ) (old new : Draft) (v : ℕ) → MadeHeld t to value old new v → TimesValue old new v (λ c. HasClock c (k c) value) k
held_timed t kind.Bool value k old new v m = by (is_read_term t) m
  where
    by : (b : Truth) → MadeTruth b value old new v → TimesValue old new v (λ c. HasClock c (k c) value) k
    by true m = lowest_timed value k old new v m
    by false m = timed_there old new value v _ k m (λ c w. w)
held_timed t (kind.Unsigned w) value k old new v m = converted_timed t (kind.Unsigned w) value k old new v m
held_timed t (kind.Signed w) value k old new v m = converted_timed t (kind.Signed w) value k old new v m

-- Iterators are there at the begin.

abbrev AtStart : (value : ℕ) → BlockClocks → Type 0
AtStart value c = HasClock c 0 value

abbrev SumAtStart : Option ℕ → BlockClocks → Type 0
SumAtStart None c = Unit {0}
SumAtStart (Some value) c = HasClock c 0 value

shifted_timed : (value by : ℕ) (old new : Draft) (v : ℕ) → MadeShifted value by old new v → TimesValue old new v (AtStart value) (λ c. 0)
shifted_timed value by old new v (inl m) = timed_there old new value v (AtStart value) (λ c. 0) m (λ c w. w)
shifted_timed value by old new v (inr m) = with_number op.Shl value m.amount (kind.Unsigned 6) by (λ c. 0) old m.middle new v m.constant m.pushes

sum_timed : (sum : Option ℕ) (value : ℕ) (old new : Draft) (v : ℕ) → MadeSum sum value old new v → TimesValue old new v (λ c. AtStart value c × SumAtStart sum c) (λ c. 0)
sum_timed None value old new v m = timed_there old new value v _ (λ c. 0) m (λ c w. w.0)
sum_timed (Some sum) value old new v m =
    timed_where old new v (λ c. HasClock c 0 sum × HasClock c 0 value) _ (λ c. max 0 0) (λ c. 0) (λ c w. (w.1, w.0)) (λ c w. refl) (compute_timed old new v sum value op.Add (λ c. 0) (λ c. 0) m)

record TimesSum (old new : Draft) (sum : Option ℕ) (Where : BlockClocks → Type 0) : Type 0 where
  extends : Extends old new
  within : (c : BlockClocks) → AgreeInTime c new → StartedInTime c old → Where c → Within c old new 0
  at : (c : BlockClocks) → AgreeInTime c new → StartedInTime c old → Where c → SumAtStart sum c

sum_there : (old new : Draft) (sum more : Option ℕ) (Where : BlockClocks → Type 0) → new ≡ old → more ≡ sum → ((c : BlockClocks) → Where c → SumAtStart sum c) → TimesSum old new more Where
sum_there old new sum more Where same is at = record {
  extends = subst (λ (d : Draft). Extends old d) (sym same) (extends_self old);
  within = λ c a s w. within_none c old new 0 same;
  at = λ c a s w. subst (λ (o : Option ℕ). SumAtStart o c) (sym is) (at c w);
}

nil_few : 0 ≤ 0
nil_few = omega arith

addend_timed : (sum : Option ℕ) (value by : ℕ) (old new : Draft) (more : Option ℕ) → MadeAddend sum value by old new more → TimesSum old new more (λ c. AtStart value c × SumAtStart sum c)
addend_timed sum value by old new more m = record {
  extends = whole.extends;
  within = whole.within;
  at = λ c a s w. subst (λ (o : Option ℕ). SumAtStart o c) (sym m.more_is) (whole.at c a s w);
}
  where
    whole : TimesValue old new m.total (λ c. AtStart value c × SumAtStart sum c) (λ c. 0)
    whole =
        timed_then old m.middle new m.shifted m.total (λ c. AtStart value c × SumAtStart sum c) (λ c. 0) (λ c. 0) (λ c w. nil_few)
        (timed_where old m.middle m.shifted (AtStart value) _ (λ c. 0) (λ c. 0) (λ c w. w.0) (λ c w. refl) (shifted_timed value by old m.middle m.shifted m.shifts))
        (timed_where m.middle new m.total (λ c. AtStart m.shifted c × SumAtStart sum c) _ (λ c. 0) (λ c. 0) (λ c w. (w.1, w.0.1)) (λ c w. refl) (sum_timed sum m.shifted m.middle new m.total m.sums))

bit_timed : (sum : Option ℕ) (value by : ℕ) (old new : Draft) (more : Option ℕ) → MadeBit sum value by old new more → TimesSum old new more (λ c. AtStart value c × SumAtStart sum c)
bit_timed sum value by old new more (inl m) = sum_there old new sum more _ m.0 m.1 (λ c w. w.1)
bit_timed sum value by old new more (inr m) = addend_timed sum value by old new more m

bits_more : (value : ℕ) (old d new : Draft) (s sum : Option ℕ) → TimesSum old d s (AtStart value) → TimesSum d new sum (λ c. AtStart value c × SumAtStart s c) → TimesSum old new sum (AtStart value)
bits_more value old d new s sum f g = record {
  extends = extends_again old d new f.extends g.extends;
  within = λ c at st w.
      let before = agree_before c d new g.extends at in
      within_again c old d new 0 0 nil_few (f.within c before st w) (g.within c at (time_later c old d f.extends st) (w, f.at c before st w));
  at = λ c at st w. g.at c at (time_later c old d f.extends st) (w, f.at c (agree_before c d new g.extends at) st w);
}

bits_timed : (value bits : ℕ) (old new : Draft) (sum : Option ℕ) → MadeBits value bits old new sum → TimesSum old new sum (AtStart value)
bits_timed value zero old new sum m = sum_there old new None sum (AtStart value) m.0 m.1 (λ c w. tt)
bits_timed value (suc b) old new sum (d, (s, (before, last))) = bits_more value old d new s sum (bits_timed value b old d s before) (bit_timed s value b d new sum last)

total_timed : (k : Kind) (sum : Option ℕ) (old new : Draft) (v : ℕ) → MadeTotal k sum old new v → TimesValue old new v (SumAtStart sum) (λ c. 0)
total_timed k None old new v m = number_timed k false 0 old new v m
total_timed k (Some sum) old new v m = timed_there old new sum v _ (λ c. 0) m (λ c w. w)

multiple_timed : (k : Kind) (value : ℕ) (old new : Draft) (v : ℕ) → MadeMultiple k value old new v → TimesValue old new v (AtStart value) (λ c. 0)
multiple_timed k value old new v m = record {
  extends = extends_again old m.middle new f.extends g.extends;
  within = λ c at s w.
      let before = agree_before c m.middle new g.extends at in
      within_again c old m.middle new 0 0 nil_few (f.within c before s w) (g.within c at (time_later c old m.middle f.extends s) (f.at c before s w));
  at = λ c at s w. g.at c at (time_later c old m.middle f.extends s) (f.at c (agree_before c m.middle new g.extends at) s w);
}
  where
    f : TimesSum old m.middle m.sum (AtStart value)
    f = bits_timed value m.bits old m.middle m.sum m.sums

    g : TimesValue m.middle new v (SumAtStart m.sum) (λ c. 0)
    g = total_timed k m.sum m.middle new v m.total

ends_timed : (k : Kind) (multiple : ℕ) (old new : Draft) (v : ℕ) → IsThere old new multiple v ⊎ MadeOffset k multiple old new v → TimesValue old new v (AtStart multiple) (λ c. 0)
ends_timed k multiple old new v (inl m) = timed_there old new multiple v _ (λ c. 0) m (λ c w. w)
ends_timed k multiple old new v (inr m) = with_number op.Add multiple m.amount k m.start (λ c. 0) old m.middle new v m.constant m.pushes

turns_timed : (k : Kind) (held : VariableSlots) (old new : Draft) (v : ℕ) → MadeTurns held k old new v → TimesValue old new v (λ c. Unit {0}) (λ c. 0)
turns_timed k held old new v m =
    timed_then old m.third new m.multiple v (λ c. Unit {0}) (λ c. 0) (λ c. 0) (λ c w. nil_few)
    (timed_then old m.second m.third m.turn m.multiple (λ c. Unit {0}) (λ c. 0) (λ c. 0) (λ c w. nil_few)
    (timed_then old m.first m.second m.told m.turn (λ c. Unit {0}) (λ c. 0) (λ c. 0) (λ c w. nil_few) (old_timed old m.first m.told held.first m.sees)
    (timed_where m.first m.second m.turn (AtStart m.told) _ (λ c. 0) (λ c. 0) (λ c w. w.1) (λ c w. refl) (convert_timed m.first m.second m.turn m.told k (λ c. 0) m.converts)))
    (timed_where m.second m.third m.multiple (AtStart m.turn) _ (λ c. 0) (λ c. 0) (λ c w. w.1) (λ c w. refl) (multiple_timed k m.turn m.second m.third m.multiple m.times)))
    (timed_where m.third new v (AtStart m.multiple) _ (λ c. 0) (λ c. 0) (λ c w. w.1) (λ c w. refl) (ends_timed k m.multiple m.third new v m.ends))

iterator_timed : (k : Kind) (held : VariableSlots) (old new : Draft) (v : ℕ) → MadeIterator held k old new v → TimesValue old new v (λ c. Unit {0}) (λ c. 0)
iterator_timed k held old new v (inl m) = number_timed k false m.0 old new v m.1
iterator_timed k held old new v (inr m) = turns_timed k held old new v m

current_timed : (o : Option (Option ℕ)) (register : ℕ) (level : BlockClocks → ℕ) (old new : Draft) (v : ℕ) → MadeCurrent o register old new v → TimesValue old new v (λ c. CurrentAt c o (level c)) level
current_timed None register level old new v m = timed_where old new v (λ c. Unit {0}) _ (λ c. 0) level (λ c w. tt) (λ c w. sym w) (old_timed old new v register m)
current_timed (Some None) register level old new v m = timed_where old new v (λ c. Unit {0}) _ (λ c. 0) level (λ c w. tt) (λ c w. sym w) (old_timed old new v register m)
current_timed (Some (Some value)) register level old new v m = timed_there old new value v _ level m (λ c w. w)

pub shown_timed : (current : List (Option ℕ)) (register : ℕ) (level : BlockClocks → ℕ) (old new : Draft) (v : ℕ) → MadeShown current register old new v
    → TimesValue old new v (λ c. CurrentAt c (slice_get current register) (level c)) level
shown_timed current register level old new v m = current_timed (slice_get current register) register level old new v m

-- a variable at its level
pub variable_timed : (o : Option Counter) (held : VariableSlots) (lane : Lane) (current : List (Option ℕ)) (k : Kind) (level : BlockClocks → ℕ) (old new : Draft) (v : ℕ) → MadeBy o held lane current k old new v
    → TimesValue old new v (λ c. VariableAt c o held lane current (level c)) level
variable_timed None held lane current k level old new v m = shown_timed current (register_at held lane) level old new v m
variable_timed (Some counter) held lane current k level old new v m = timed_where old new v (λ c. Unit {0}) _ (λ c. 0) level (λ c w. tt) (λ c w. sym w) (iterator_timed k held old new v m.0)

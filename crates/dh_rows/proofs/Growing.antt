-- Operations that come behind others. Readings that obey all obey those in front, so what is known of a value stays
-- known; and of the operation at the end its own equation says what it gives. All else is put together of these.
use Rattle.std.proofs.Common.{◌≡◌, ℕ, zero, suc, ◌+◌, ◌<◌, ◌≤◌, ◌⊎◌, inl, inr, true, List, Some, None, refl, sym, ap, ◌∙◌, subst, arith, length}
use Rattle.std.specs.Prelude.{Option, [], ◌∷◌, ◌++◌, take, slice_get}
use Rattle.std.specs.List.{AllByRecursion}
use Rattle.std.proofs.lemmas.Bool.{cases_lt}
use Rattle.std.proofs.lemmas.List.{append_assoc, append-nil, length-append}
use Rattle.std.proofs.lemmas.Option.{slice_get_within}
use Rattle.dh_value.specs.declared.kinds.Kind.{Kind}
use Rattle.dh_plan.specs.declared.operations.Operation.{Operation}
use Rattle.dh_plan.specs.declared.operations.OperationForm.{OperationForm}
use Rattle.dh_plan.specs.Ordered.{form_takes}
use Rattle.dh_plan.proofs.Appends.{there_in_front}
use Rattle.dh_rows.specs.Readings.{Readings, Obeys, HasPlain, IsEarlierValue, IsAdded, OperationsGrow, GrowsPlain, IsPlain, AddsOperations, IsReadingValue, IsValueOrNone, is_plain, plain_kind, plain_word, PlainSuits}
use Rattle.dh_rows.specs.MadeOperations.{pushed}

pub grows_self : (os : List Operation) → OperationsGrow os os
grows_self os = record { more = []; appended = sym (append-nil os) }

pub grows_on : (a b c : List Operation) → OperationsGrow a b → OperationsGrow b c → OperationsGrow a c
grows_on a b c g h = record { more = g.more ++ h.more; appended = h.appended ∙ (ap (λ (os : List Operation). os ++ h.more) g.appended ∙ append_assoc a g.more h.more) }

-- The same of plain operations.

pub plain_grows : (a b : List Operation) → GrowsPlain a b → OperationsGrow a b
plain_grows a b g = record { more = g.more; appended = g.appended }

pub plain_self : (os : List Operation) → GrowsPlain os os
plain_self os = record { more = []; appended = sym (append-nil os); plain = tt }

plain_append : (xs ys : List Operation) → AllByRecursion IsPlain xs → AllByRecursion IsPlain ys → AllByRecursion IsPlain (xs ++ ys)
plain_append [] ys h k = k
plain_append (x ∷ xs) ys h k = (h.0, plain_append xs ys h.1 k)

pub plain_on : (a b c : List Operation) → GrowsPlain a b → GrowsPlain b c → GrowsPlain a c
plain_on a b c g h = record {
  more = g.more ++ h.more;
  appended = h.appended ∙ (ap (λ (os : List Operation). os ++ h.more) g.appended ∙ append_assoc a g.more h.more);
  plain = plain_append g.more h.more g.plain h.plain;
}

pub plain_pushed : (os : List Operation) (f : OperationForm) → is_plain f ≡ true → GrowsPlain os (pushed os None f).operations
plain_pushed os f e = record { more = record { guard = None; form = f } ∷ []; appended = refl; plain = (record { guard = refl; form = e }, tt) }

pub grown_length : (a b : List Operation) → OperationsGrow a b → length a ≤ length b
grown_length a b g = let l : length b ≡ length a + length g.more = ap (λ (os : List Operation). length os) g.appended ∙ length-append a g.more in omega (arith, l)

pub kept_there : (a b : List Operation) → OperationsGrow a b → (n : ℕ) (o : Operation) → slice_get a n ≡ Some o → slice_get b n ≡ Some o
kept_there a b g n o e = subst (λ (os : List Operation). slice_get os n ≡ Some o) (sym g.appended) (there_in_front a g.more n o e)

-- below the end of the first part nothing else stands there
front_there : (a more : List Operation) (n : ℕ) (o : Operation) → n < length a → slice_get (a ++ more) n ≡ Some o → slice_get a n ≡ Some o
front_there [] more n o l e = absurd (omega (arith, l))
front_there (p ∷ a) more zero o l e = e
front_there (p ∷ a) more (suc n) o l e = front_there a more n o (omega (arith, l)) e

pub was_there : (a b : List Operation) → OperationsGrow a b → (n : ℕ) (o : Operation) → n < length a → slice_get b n ≡ Some o → slice_get a n ≡ Some o
was_there a b g n o l e = front_there a g.more n o l (subst (λ (os : List Operation). slice_get os n ≡ Some o) g.appended e)

-- the operations before a place, where others come behind
take_front : (a more : List Operation) (n : ℕ) → n < length a → take n (a ++ more) ≡ take n a
take_front [] more n l = absurd (omega (arith, l))
take_front (p ∷ a) more zero l = refl
take_front (p ∷ a) more (suc n) l = ap (λ (os : List Operation). p ∷ os) (take_front a more n (omega (arith, l)))

taken_front : (a b : List Operation) → OperationsGrow a b → (n : ℕ) → n < length a → take n b ≡ take n a
taken_front a b g n l = ap (λ (os : List Operation). take n os) g.appended ∙ take_front a g.more n l

taken_all : (a more : List Operation) → take (length a) (a ++ more) ≡ a
taken_all [] more = refl
taken_all (p ∷ a) more = ap (λ (os : List Operation). p ∷ os) (taken_all a more)

at_end : (os : List Operation) (o : Operation) → slice_get (os ++ o ∷ []) (length os) ≡ Some o
at_end [] o = refl
at_end (p ∷ os) o = at_end os o

module _ (x : Readings) where
  pub obeys_before : (a b : List Operation) → OperationsGrow a b → Obeys x b → Obeys x a
  obeys_before a b g h = record {
    words = λ n f l p. h.words n f l (later n f p);
    kinds = λ n f l p. h.kinds n f l (later n f p);
    clocks = λ n bound f l p t. h.clocks n bound f l (later n f p) t;
  }
    where
      later : (n : ℕ) (f : OperationForm) → HasPlain a n f → HasPlain b n f
      later n f p = record { there = kept_there a b g n _ p.there; plain = p.plain }

  pub obeys_plain : (a b : List Operation) → GrowsPlain a b → Obeys x b → Obeys x a
  obeys_plain a b g h = obeys_before a b (plain_grows a b g) h

  -- the equations of an operation that was just put down
  module _ (os : List Operation) (f : OperationForm) (plain : is_plain f ≡ true) (begun : x.first ≤ length os) where
    pub pushed_plain : HasPlain (pushed os None f).operations (length os) f
    pushed_plain = record { there = at_end os _; plain = plain }

    pub pushed_word : Obeys x (pushed os None f).operations → x.word (length os) ≡ plain_word x.word f
    pushed_word h = h.words (length os) f begun pushed_plain

    pub pushed_kind : Obeys x (pushed os None f).operations → x.kind (length os) ≡ plain_kind x.kind f
    pushed_kind h = h.kinds (length os) f begun pushed_plain

pub pushed_grows : (os : List Operation) (guard : Option ℕ) (f : OperationForm) → OperationsGrow os (pushed os guard f).operations
pushed_grows os guard f = record { more = _; appended = refl }

module _ (x : Readings) (clock : ℕ) where
  pub earlier_later : (own next v : ℕ) → own ≤ next → IsEarlierValue x clock own v → IsEarlierValue x clock next v
  earlier_later own next v l e = record { begun = e.begun; before = let b = e.before in omega (arith, l, b); there = e.there }

  pub value_later : (a b : List Operation) (k : Kind) (v : ℕ) → OperationsGrow a b → IsReadingValue x clock a k v → IsReadingValue x clock b k v
  value_later a b k v g h o =
      let s = h (obeys_before x a b g o) in
      record { earlier = earlier_later (length a) (length b) v (grown_length a b g) s.earlier; kind_is = s.kind_is }

  pub maybe_later : (a b : List Operation) (k : Kind) (v : Option ℕ) → OperationsGrow a b → IsValueOrNone x clock a k v → IsValueOrNone x clock b k v
  maybe_later a b k None g h = tt
  maybe_later a b k (Some v) g h = value_later a b k v g h

  pub adds_self : (os : List Operation) → AddsOperations x clock os os
  adds_self os = record { grows = grows_self os; each = λ n o l e h. let m = slice_get_within os n o e in absurd (omega (arith, l, m)) }

  pub adds_on : (a b c : List Operation) → AddsOperations x clock a b → AddsOperations x clock b c → AddsOperations x clock a c
  adds_on a b c g h = record { grows = grows_on a b c g.grows h.grows; each = λ n p l e o. either n o p l e (cases_lt n (length b)) }
    where
      either : (n : ℕ) → Obeys x (take n c) → (p : Operation) → length a ≤ n → slice_get c n ≡ Some p → (n < length b) ⊎ (length b ≤ n) → IsAdded x clock n p
      either n o p l e (inl m) = g.each n p l (was_there b c h.grows n p m e) (subst (λ (os : List Operation). Obeys x os) (taken_front b c h.grows n m) o)
      either n o p l e (inr m) = h.each n p m e o

  all_there : (own : ℕ) (vs : List ℕ) → AllByRecursion (λ v. IsEarlierValue x clock own v) vs → AllByRecursion (λ v. x.clock v ≤ clock) vs
  all_there own [] h = tt
  all_there own (v ∷ vs) h = (h.0.there, all_there own vs h.1)

  all_later : (own next : ℕ) (vs : List ℕ) → own ≤ next → AllByRecursion (λ v. IsEarlierValue x clock own v) vs → AllByRecursion (λ v. IsEarlierValue x clock next v) vs
  all_later own next [] l h = tt
  all_later own next (v ∷ vs) l h = (earlier_later own next v l h.0, all_later own next vs l h.1)

  -- One plain operation more, without a guard, of values that are there and suit it.
  module _ (os : List Operation) (f : OperationForm) (plain : is_plain f ≡ true) (begun : x.first ≤ length os)
      (takes : Obeys x os → AllByRecursion (λ v. IsEarlierValue x clock (length os) v) (form_takes f)) (suits : Obeys x os → PlainSuits x.kind f) where
    pub pushed_adds : AddsOperations x clock os (pushed os None f).operations
    pushed_adds = record { grows = pushed_grows os None f; each = λ n o l e h. last n h o l e (slice_get_within _ n o e) }
      where
        ends : length (pushed os None f).operations ≡ length os + 1
        ends = length-append os _

        same : (o : Operation) → slice_get (pushed os None f).operations (length os) ≡ Some o → record { guard = None; form = f } ≡ o
        same o e = let two = sym (at_end os (record { guard = None; form = f })) ∙ e in cc

        last : (n : ℕ) → Obeys x (take n (pushed os None f).operations) → (o : Operation) → length os ≤ n → slice_get (pushed os None f).operations n ≡ Some o
            → n < length (pushed os None f).operations → IsAdded x clock n o
        last n h o l e m =
            let own : length os ≡ n = (let t = ends in omega (arith, l, m, t)) in
            let before = subst (λ (ps : List Operation). Obeys x ps) (taken_all os _) (subst (λ i. Obeys x (take i (pushed os None f).operations)) (sym own) h) in
            subst (λ i. IsAdded x clock i o) own
            (subst (λ (p : Operation). IsAdded x clock (length os) p) (same o (subst (λ i. slice_get (pushed os None f).operations i ≡ Some o) (sym own) e))
            (record { guard = refl; plain = plain; takes = takes before; suits = suits before }))

    pub pushed_value : (k : Kind) → (Obeys x os → plain_kind x.kind f ≡ k) → IsReadingValue x clock (pushed os None f).operations k (length os)
    pushed_value k kinds h =
        let o = obeys_before x os _ (pushed_grows os None f) h in
        let ends : length (pushed os None f).operations ≡ length os + 1 = length-append os _ in
        record {
          earlier = record {
            begun = begun;
            before = omega (arith, ends);
            there = h.clocks (length os) clock f begun (pushed_plain x os f plain begun) (all_there (length os) (form_takes f) (takes o));
          };
          kind_is = pushed_kind x os f plain begun h ∙ kinds o;
        }

-- What a block that the pass makes shows: its values, kinds and clocks obey the plain operations below each place up to
-- which operations take earlier values; so order and kinds follow one operation after the other.
use Rattle.std.proofs.Common.{◌≡◌, ℕ, zero, suc, ◌+◌, ◌-◌, ◌<◌, ◌≤◌, ◌⊎◌, inl, inr, Some, None, List, true, length, map, refl, sym, ap, subst, ◌∙◌, arith}
use Rattle.std.specs.Prelude.{[], ◌∷◌, ◌++◌, take, slice_get, Option}
use Rattle.std.specs.List.{AllByRecursion}
use Rattle.std.proofs.lemmas.Bool.{cases_lt}
use Rattle.dh_value.specs.declared.kinds.Kind.{Kind}
use Rattle.dh_value.specs.declared.kinds.Kind.TheVariants as kind
use Rattle.dh_value.specs.declared.words.Word.{Word}
use Rattle.dh_plan.specs.declared.operations.Operation.{Operation}
use Rattle.dh_plan.specs.declared.operations.OperationForm.{OperationForm}
use Rattle.dh_plan.specs.declared.operations.OperationForm.TheVariants.{Constant, Old, Compute, Convert, Select, Check, Probe, Read, Write, Set}
use Rattle.dh_plan.specs.Blocks.{StepStart, Look, word_at, in_memories, form_word, operation_word}
use Rattle.dh_plan.specs.LegalSchedules.{greatest_number, least_clocks, value_clock, there_at}
use Rattle.dh_plan.specs.Ordered.{form_takes, operation_takes, one_or_none, IsBetween, TakesEarlier}
use Rattle.dh_plan.specs.PlainPlans.{PlainPlan, first_in, operations_in}
use Rattle.dh_plan.specs.PlanKinds.{kind_of_value, form_kind, kinds_of, OperationSuits, FormSuits}
use Rattle.dh_plan.specs.PlanRuns.{block_values}
use Rattle.dh_plan.proofs.BlocksSolved.{below_suc}
use Rattle.dh_plan.proofs.LeastLegal.{length_one_more}
use Rattle.dh_plan.proofs.ValuesAlike.{memories_look_back}
use Rattle.dh_rows.specs.Readings.{Readings, Obeys, HasPlain, IsEarlierValue, IsAdded, OperationsGrow, AddsOperations, is_plain, plain_kind, plain_word, PlainSuits}
use Rattle.dh_rows.specs.MadeOperations.{pushed}
use Rattle.dh_rows.proofs.Growing.{kept_there}
use Rattle.dh_address.proofs.BlockEquations.{word_solved, kind_solved, clock_solved}

-- Lists.

pub behind_front : {A : Type 0} (front xs : List A) (i : ℕ) → slice_get (front ++ xs) (length front + i) ≡ slice_get xs i
behind_front [] xs i = ap (λ (k : ℕ). slice_get xs k) (none i)
  where
    none : (i : ℕ) → 0 + i ≡ i
    none i = omega arith
behind_front (f ∷ front) xs i = ap (λ (k : ℕ). slice_get (f ∷ (front ++ xs)) k) (moved (length front) i) ∙ behind_front front xs i
  where
    moved : (n i : ℕ) → suc n + i ≡ suc (n + i)
    moved n i = omega arith

pub in_taken : {A : Type 0} (xs : List A) (end i : ℕ) (v : A) → slice_get (take end xs) i ≡ Some v → (i < end) × (slice_get xs i ≡ Some v)
in_taken [] zero i v e = absurd (cc)
in_taken [] (suc end) i v e = absurd (cc)
in_taken (x ∷ xs) zero i v e = absurd (cc)
in_taken (x ∷ xs) (suc end) zero v e = (omega arith, e)
in_taken (x ∷ xs) (suc end) (suc i) v e = let so = in_taken xs end i v e in (let l = so.0 in omega (arith, l), so.1)

pub take_front : {A : Type 0} (a more : List A) (n : ℕ) → n < length a → take n (a ++ more) ≡ take n a
take_front [] more n l = absurd (omega (arith, l))
take_front (p ∷ a) more zero l = refl
take_front (p ∷ a) more (suc n) l = ap (λ (xs : List _). p ∷ xs) (take_front a more n (omega (arith, l)))

pub taken_front : (a b : List Operation) → OperationsGrow a b → (n : ℕ) → n < length a → take n b ≡ take n a
taken_front a b g n l = ap (λ (os : List Operation). take n os) g.appended ∙ take_front a g.more n l

pub in_front : {A : Type 0} (a more : List A) (n : ℕ) (v : A) → n < length a → slice_get (a ++ more) n ≡ Some v → slice_get a n ≡ Some v
in_front [] more n v l e = absurd (omega (arith, l))
in_front (p ∷ a) more zero v l e = e
in_front (p ∷ a) more (suc n) v l e = in_front a more n v (omega (arith, l)) e

pub was_in : {all : List Operation} (a : List Operation) → OperationsGrow a all → (n : ℕ) (o : Operation) → n < length a → slice_get all n ≡ Some o → slice_get a n ≡ Some o
was_in a g n o l e = in_front a g.more n o l (subst (λ (os : List Operation). slice_get os n ≡ Some o) g.appended e)

pub at_last : {A : Type 0} (xs : List A) (v : A) → slice_get (xs ++ v ∷ []) (length xs) ≡ Some v
at_last [] v = refl
at_last (x ∷ xs) v = at_last xs v

-- Clocks.

pub greatest_most : (ns : List ℕ) (bound : ℕ) → AllByRecursion (λ (n : ℕ). n ≤ bound) ns → greatest_number ns ≤ bound
greatest_most [] bound h = omega arith
greatest_most (n ∷ ns) bound h = let a = h.0 in let b = greatest_most ns bound h.1 in omega (arith, a, b)

pub all_of_map : {A B : Type 0} (f : A → B) (P : B → Type 0) (xs : List A) → AllByRecursion (λ (a : A). P (f a)) xs → AllByRecursion P (map f xs)
all_of_map f P [] h = tt
all_of_map f P (x ∷ xs) h = (h.0, all_of_map f P xs h.1)

-- Plain forms.

plain_is_word : (s : StepStart) (look : Look) (first : ℕ) (ws : List Word) (n : ℕ) (f : OperationForm) → is_plain f ≡ true
    → form_word s look first ws n f ≡ plain_word (λ (v : ℕ). word_at first ws v) f
plain_is_word s look first ws n (Constant word) p = refl
plain_is_word s look first ws n (Old register) p = absurd (cc)
plain_is_word s look first ws n (Compute op left right) p = refl
plain_is_word s look first ws n (Convert inner to) p = refl
plain_is_word s look first ws n (Select test a b) p = refl
plain_is_word s look first ws n (Check ok fault) p = absurd (cc)
plain_is_word s look first ws n (Probe r fault) p = absurd (cc)
plain_is_word s look first ws n (Read r) p = absurd (cc)
plain_is_word s look first ws n (Write r value) p = absurd (cc)
plain_is_word s look first ws n (Set register value) p = absurd (cc)

plain_is_kind : (plan : PlainPlan) (first : ℕ) (ks : List Kind) (f : OperationForm) → is_plain f ≡ true
    → form_kind plan.table plan.registers first ks f ≡ plain_kind (λ (v : ℕ). kind_of_value first ks v) f
plain_is_kind plan first ks (Constant word) p = refl
plain_is_kind plan first ks (Old register) p = absurd (cc)
plain_is_kind plan first ks (Compute op left right) p = refl
plain_is_kind plan first ks (Convert inner to) p = refl
plain_is_kind plan first ks (Select test a b) p = refl
plain_is_kind plan first ks (Check ok fault) p = refl
plain_is_kind plan first ks (Probe r fault) p = refl
plain_is_kind plan first ks (Read r) p = absurd (cc)
plain_is_kind plan first ks (Write r value) p = refl
plain_is_kind plan first ks (Set register value) p = refl

pub plain_there : (f : OperationForm) (clock : ℕ) → is_plain f ≡ true → there_at f clock ≡ clock
plain_there (Constant word) clock p = refl
plain_there (Old register) clock p = refl
plain_there (Compute op left right) clock p = refl
plain_there (Convert inner to) clock p = refl
plain_there (Select test a b) clock p = refl
plain_there (Check ok fault) clock p = refl
plain_there (Probe r fault) clock p = refl
plain_there (Read r) clock p = absurd (cc)
plain_there (Write r value) clock p = refl
plain_there (Set register value) clock p = refl

pub plain_suits : (plan : PlainPlan) (first : ℕ) (ks : List Kind) (f : OperationForm) → PlainSuits (λ (v : ℕ). kind_of_value first ks v) f → FormSuits plan first ks f
plain_suits plan first ks (Constant word) h = h
plain_suits plan first ks (Old register) h = absurd h
plain_suits plan first ks (Compute op left right) h = h
plain_suits plan first ks (Convert inner to) h = h
plain_suits plan first ks (Select test a b) h = h
plain_suits plan first ks (Check ok fault) h = absurd h
plain_suits plan first ks (Probe r fault) h = absurd h
plain_suits plan first ks (Read r) h = absurd h
plain_suits plan first ks (Write r value) h = absurd h
plain_suits plan first ks (Set register value) h = absurd h

-- What a block shows.

abbrev pub block_readings : PlainPlan → (block : ℕ) → StepStart → Readings
block_readings q block s = record {
  first = first_in q block;
  word = λ n. word_at (first_in q block) (block_values q s block) n;
  kind = λ n. kind_of_value (first_in q block) (kinds_of q block) n;
  clock = λ n. value_clock (first_in q block) (operations_in q block) (least_clocks (first_in q block) [] [] (operations_in q block)) n;
}

-- the same, where no clock counts
abbrev pub timeless : PlainPlan → (block : ℕ) → StepStart → Readings
timeless q block s = record {
  first = first_in q block;
  word = λ n. word_at (first_in q block) (block_values q s block) n;
  kind = λ n. kind_of_value (first_in q block) (kinds_of q block) n;
  clock = λ n. 0;
}

module _ (q : PlainPlan) (block : ℕ) (front : List Operation) (begins : length front ≡ first_in q block) where
  abbrev pub all_operations : List Operation
  all_operations = front ++ operations_in q block

  -- an operation at a place of the block
  pub in_block : (n : ℕ) (o : Operation) → first_in q block ≤ n → slice_get all_operations n ≡ Some o → slice_get (operations_in q block) (n - first_in q block) ≡ Some o
  in_block n o l e =
      sym (behind_front front (operations_in q block) (n - first_in q block))
      ∙ (ap (λ (k : ℕ). slice_get all_operations k) (place (length front) (first_in q block) n begins l) ∙ e)
    where
      place : (m f n : ℕ) → m ≡ f → f ≤ n → m + (n - f) ≡ n
      place m f n e l = omega (arith, e, l)

  pub place_in : (n : ℕ) → first_in q block ≤ n → first_in q block + (n - first_in q block) ≡ n
  place_in n l = of (first_in q block) n l
    where
      of : (f n : ℕ) → f ≤ n → f + (n - f) ≡ n
      of f n l = omega (arith, l)

  -- each operation below a place takes earlier values of suiting kinds
  abbrev pub FormedAt : ℕ → Operation → Type 0
  FormedAt n o = TakesEarlier (first_in q block) n o × OperationSuits q (first_in q block) (kinds_of q block) o

  abbrev pub FormedBelow : ℕ → Type 0
  FormedBelow end = (n : ℕ) (o : Operation) → first_in q block ≤ n → n < end → slice_get all_operations n ≡ Some o → FormedAt n o

  abbrev pub OrderedBelow : ℕ → Type 0
  OrderedBelow end = (n : ℕ) (o : Operation) → first_in q block ≤ n → n < end → slice_get all_operations n ≡ Some o → TakesEarlier (first_in q block) n o

  -- equations at a place
  module _ (n : ℕ) (o : Operation) (l : first_in q block ≤ n) (there : slice_get all_operations n ≡ Some o) (early : TakesEarlier (first_in q block) n o) where
    at_own : TakesEarlier (first_in q block) (first_in q block + (n - first_in q block)) o
    at_own = subst (λ (k : ℕ). TakesEarlier (first_in q block) k o) (sym (place_in n l)) early

    pub kind_given : kind_of_value (first_in q block) (kinds_of q block) n ≡ form_kind q.table q.registers (first_in q block) (kinds_of q block) o.form
    kind_given =
        subst (λ (k : ℕ). kind_of_value (first_in q block) (kinds_of q block) k ≡ form_kind q.table q.registers (first_in q block) (kinds_of q block) o.form) (place_in n l)
        (kind_solved q.table q.registers (first_in q block) (operations_in q block) (n - first_in q block) o (in_block n o l there) at_own)

    pub clock_given : (s : StepStart) → (block_readings q block s).clock n ≡ there_at o.form (greatest_number (map (block_readings q block s).clock (operation_takes o)))
    clock_given s =
        subst (λ (k : ℕ). (block_readings q block s).clock k ≡ there_at o.form (greatest_number (map (block_readings q block s).clock (operation_takes o)))) (place_in n l)
        (clock_solved (first_in q block) (operations_in q block) (n - first_in q block) o (in_block n o l there) at_own)

  module _ (s : StepStart) where
    pub word_given : (n : ℕ) (o : Operation) → first_in q block ≤ n → slice_get all_operations n ≡ Some o → TakesEarlier (first_in q block) n o
        → word_at (first_in q block) (block_values q s block) n
        ≡ operation_word s (in_memories s (first_in q block)) (first_in q block) (block_values q s block) n o
    word_given n o l there early =
        subst (λ (k : ℕ). word_at (first_in q block) (block_values q s block) k ≡ operation_word s (in_memories s (first_in q block)) (first_in q block) (block_values q s block) k o) (place_in n l)
        (word_solved s (in_memories s (first_in q block)) (first_in q block) (memories_look_back s (first_in q block)) (operations_in q block) (n - first_in q block) o (in_block n o l there)
        (subst (λ (k : ℕ). TakesEarlier (first_in q block) k o) (sym (place_in n l)) early))

    -- an operation of a plain form below an end up to which all take earlier values
    module _ (end : ℕ) (ordered : OrderedBelow end) (n : ℕ) (f : OperationForm) (l : first_in q block ≤ n) (h : HasPlain (take end all_operations) n f) where
      abbrev own : Operation
      own = record { guard = None; form = f }

      there : slice_get all_operations n ≡ Some own
      there = (in_taken all_operations end n own h.there).1

      early : TakesEarlier (first_in q block) n own
      early = ordered n own l (in_taken all_operations end n own h.there).0 there

      plain_word_given : (block_readings q block s).word n ≡ plain_word (block_readings q block s).word f
      plain_word_given = word_given n own l there early ∙ plain_is_word s (in_memories s (first_in q block)) (first_in q block) (block_values q s block) n f h.plain

      plain_kind_given : (block_readings q block s).kind n ≡ plain_kind (block_readings q block s).kind f
      plain_kind_given = kind_given n own l there early ∙ plain_is_kind q (first_in q block) (kinds_of q block) f h.plain

      plain_clock_given : (bound : ℕ) → AllByRecursion (λ (v : ℕ). (block_readings q block s).clock v ≤ bound) (form_takes f) → (block_readings q block s).clock n ≤ bound
      plain_clock_given bound all =
          subst (λ (k : ℕ). k ≤ bound) (sym (clock_given n own l there early s ∙ plain_there f (greatest_number (map (block_readings q block s).clock (form_takes f))) h.plain))
          (greatest_most (map (block_readings q block s).clock (form_takes f)) bound (all_of_map (block_readings q block s).clock (λ (k : ℕ). k ≤ bound) (form_takes f) all))

    pub obeys_below : (end : ℕ) → OrderedBelow end → Obeys (block_readings q block s) (take end all_operations)
    obeys_below end ordered = record {
      words = λ n f l h. plain_word_given end ordered n f l h;
      kinds = λ n f l h. plain_kind_given end ordered n f l h;
      clocks = λ n bound f l h all. plain_clock_given end ordered n f l h bound all;
    }

    pub timeless_below : (end : ℕ) → OrderedBelow end → Obeys (timeless q block s) (take end all_operations)
    timeless_below end ordered = record {
      words = λ n f l h. plain_word_given end ordered n f l h;
      kinds = λ n f l h. plain_kind_given end ordered n f l h;
      clocks = λ n bound f l h all. (omega arith);
    }

  -- What is put down is in order.

  ordered_of : (end : ℕ) → FormedBelow end → OrderedBelow end
  ordered_of end formed n o l m there = (formed n o l m there).0

  all_between : (own : ℕ) (s : StepStart) (clock : ℕ) (vs : List ℕ) → AllByRecursion (λ v. IsEarlierValue (timeless q block s) clock own v) vs → AllByRecursion (IsBetween (first_in q block) own) vs
  all_between end s clock [] h = tt
  all_between end s clock (v ∷ vs) h = ((h.0.begun, h.0.before), all_between end s clock vs h.1)

  added_formed : (s : StepStart) (clock n : ℕ) (o : Operation) → IsAdded (timeless q block s) clock n o → FormedAt n o
  added_formed s clock n o h = (
    subst (λ (g : Option ℕ). AllByRecursion (IsBetween (first_in q block) n) (one_or_none g ++ form_takes o.form)) (sym h.guard) (all_between n s clock (form_takes o.form) h.takes),
    record {
      guard = subst (λ (g : Option ℕ). AllByRecursion (λ (v : ℕ). kind_of_value (first_in q block) (kinds_of q block) v ≡ kind.Bool) (one_or_none g)) (sym h.guard) tt;
      form = plain_suits q (first_in q block) (kinds_of q block) o.form h.suits;
    },
  )

  -- of operations that were added behind others in order
  module _ (s : StepStart) (clock : ℕ) (old new : List Operation) (adds : AddsOperations (timeless q block s) clock old new) (grows : OperationsGrow new all_operations) (formed : FormedBelow (length old)) where
    next_formed : (end : ℕ) → end < length new → FormedBelow end → (o : Operation) → first_in q block ≤ end → slice_get all_operations end ≡ Some o
        → (end < length old) ⊎ (length old ≤ end) → FormedAt end o
    next_formed end m before o l there (inl small) = formed end o l small there
    next_formed end m before o l there (inr large) =
        added_formed s clock end o
        (adds.each end o large (was_in new grows end o m there)
        (subst (λ (os : List Operation). Obeys (timeless q block s) os) (taken_front new all_operations grows end m) (timeless_below s end (ordered_of end before))))

    one_more : (end : ℕ) → end < length new → FormedBelow end → FormedBelow (suc end)
    one_more end h before n o l m there = either (below_suc n end m)
      where
        either : (n < end) ⊎ (n ≡ end) → FormedAt n o
        either (inl small) = before n o l small there
        either (inr same) =
            subst (λ (k : ℕ). FormedAt k o) (sym same)
            (next_formed end h before o (subst (λ (k : ℕ). first_in q block ≤ k) same l) (subst (λ (k : ℕ). slice_get all_operations k ≡ Some o) same there) (cases_lt end (length old)))

    upto : (end : ℕ) → end ≤ length new → FormedBelow end
    upto zero h = λ n o l m at. absurd (omega (arith, m))
    upto (suc end) h = one_more end (omega (arith, h)) (upto end (omega (arith, h)))

    pub added_below : FormedBelow (length new)
    added_below = upto (length new) (omega arith)

  -- of one operation at the end
  pub pushed_below : (old : List Operation) (guard : Option ℕ) (f : OperationForm) → OperationsGrow (pushed old guard f).operations all_operations
      → FormedBelow (length old) → FormedAt (length old) (record { guard = guard; form = f }) → FormedBelow (length (pushed old guard f).operations)
  pushed_below old guard f grows formed own n o l m there = either (below_suc n (length old) (subst (λ (k : ℕ). n < k) (length_one_more old _) m))
    where
      either : (n < length old) ⊎ (n ≡ length old) → FormedAt n o
      either (inl small) = formed n o l small there
      either (inr same) =
          let at_end = kept_there (pushed old guard f).operations all_operations grows (length old) _ (at_last old (record { guard = guard; form = f })) in
          let two : Some (record { guard = guard; form = f }) ≡ Some o = sym at_end ∙ subst (λ (k : ℕ). slice_get all_operations k ≡ Some o) same there in
          let one : record { guard = guard; form = f } ≡ o = cc in
          subst (λ (k : ℕ). FormedAt k o) (sym same) (subst (λ (p : Operation). FormedAt (length old) p) one own)

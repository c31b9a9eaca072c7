-- At each clock of a step the wires of a block show the values that are there.
-- By induction on the number of an operation. What it takes is earlier and was there no later, so it is shown as it
-- is meant; then the operation shows the same, since it is one function of what it takes. A read alone looks
-- elsewhere: its value is there one clock after it was made, and from then on its port holds its element.
use Rattle.std.proofs.Common.{◌≡◌, ℕ, zero, suc, ◌+◌, ◌-◌, ◌<◌, ◌≤◌, ◌⊎◌, inl, inr, Some, Bool, true, false, List, length, get_or, map, refl, sym, ap, subst, ◌∙◌, arith}
use Rattle.std.specs.Prelude.{[], ◌∷◌, Option, slice_get, slice_index, max}
use Rattle.std.specs.List.{AllByRecursion}
use Rattle.std.proofs.Math.Nat.{add-sub_cancel_left}
use Rattle.std.proofs.lemmas.Bool.{cases_lt}
use Rattle.std.proofs.lemmas.List.{ext_get_or}
use Rattle.std.proofs.lemmas.Option.{slice_get_cases, slice_get_within}
use Rattle.dh_value.specs.declared.words.Word.{Word}
use Rattle.dh_value.specs.Words.{with_bits}
use Rattle.dh_meaning.specs.Effects.{kind_in}
use Rattle.dh_plan.specs.declared.operations.Operation.{Operation}
use Rattle.dh_plan.specs.declared.operations.OperationForm.{OperationForm}
use Rattle.dh_plan.specs.declared.operations.OperationForm.TheVariants.{Constant, Old, Compute, Convert, Select, Check, Probe, Read, Write, Set}
use Rattle.dh_plan.specs.Blocks.{StepStart, Look, no_word, word_at, is_on, guarded, in_memories, operation_word}
use Rattle.dh_plan.specs.BlockLaws.{SameAt, SameAtAll, LooksBack}
use Rattle.dh_plan.specs.BoundPorts.{Uses}
use Rattle.dh_plan.specs.LegalSchedules.{there_at, there_from, value_clock, greatest_number, last_clock}
use Rattle.dh_plan.specs.Ordered.{operation_takes, offsets_taken, one_or_none, IsBetween}
use Rattle.dh_plan.specs.PlainPlans.{PlainPlan, first_in}
use Rattle.dh_plan.proofs.ValuesAlike.{all_left, all_right, bank_same, word_same}
use Rattle.dh_lower.specs.ShownWords.{bank_or_first, if_listed, in_ports, port_bound, ReadsAreMade, IsAtClock}

-- the greatest of numbers is no less than each
greatest_is : (f : ℕ → ℕ) (ns : List ℕ) (c : ℕ) → greatest_number (map f ns) ≤ c → AllByRecursion (λ (n : ℕ). f n ≤ c) ns
greatest_is f [] c h = tt
greatest_is f (n ∷ ns) c h = (grind arith, greatest_is f ns c (grind arith))

-- what an operation takes is earlier, and was there no later
both_all : {A : Type 0} (P Q R : A → Type 0) (xs : List A) → ((x : A) → P x → Q x → R x) → AllByRecursion P xs → AllByRecursion Q xs → AllByRecursion R xs
both_all P Q R [] f p q = tt
both_all P Q R (x ∷ xs) f p q = (f x p.0 q.0, both_all P Q R xs f p.1 q.1)

-- a word by a look at ports and by memories
look_same : (s : StepStart) (look : Look) (first : ℕ) (os : List Operation) (clocks : List ℕ) (vs : List Word) (clock : ℕ)
    → ReadsAreMade s look first os clocks vs clock → (i : ℕ) (guard : Option ℕ) (f : OperationForm) → slice_get os i ≡ Some (record { guard = guard; form = f })
    → there_at f (slice_index clocks i) ≤ clock
    → operation_word s look first vs (first + i) (record { guard = guard; form = f }) ≡ operation_word s (in_memories s first) first vs (first + i) (record { guard = guard; form = f })
look_same s look first os clocks vs clock made i guard (Constant word) at there = refl
look_same s look first os clocks vs clock made i guard (Old register) at there = refl
look_same s look first os clocks vs clock made i guard (Compute op left right) at there = refl
look_same s look first os clocks vs clock made i guard (Convert inner to) at there = refl
look_same s look first os clocks vs clock made i guard (Select test a b) at there = refl
look_same s look first os clocks vs clock made i guard (Check ok fault) at there = refl
look_same s look first os clocks vs clock made i guard (Probe r fault) at there = refl
look_same s look first os clocks vs clock made i guard (Read r) at there = by (is_on first vs guard) refl
  where
    by : (t : Bool) → is_on first vs guard ≡ t
        → guarded t (with_bits (kind_in s.table r.memory) (look (first + i) r vs)) ≡ guarded t (with_bits (kind_in s.table r.memory) (in_memories s first (first + i) r vs))
    by true e = ap (λ (n : ℕ). with_bits (kind_in s.table r.memory) n) (made.each i guard r at e (omega (arith, there)))
    by false e = refl
look_same s look first os clocks vs clock made i guard (Write r value) at there = refl
look_same s look first os clocks vs clock made i guard (Set register value) at there = refl

-- a value's clock by its operation
clock_of_value : (first : ℕ) (os : List Operation) (clocks : List ℕ) (i : ℕ) (o : Operation) → slice_get os i ≡ Some o
    → value_clock first os clocks (first + i) ≡ there_at o.form (slice_index clocks i)
clock_of_value first os clocks i o at =
    let place : first + i - first ≡ i = add-sub_cancel_left first i in
    ap (λ (k : ℕ). there_from (slice_get os k) (slice_index clocks k)) place ∙ ap (λ (x : Option Operation). there_from x (slice_index clocks i)) at

pub there_later : (f : OperationForm) (clock : ℕ) → clock ≤ there_at f clock
there_later (Constant word) clock = omega arith
there_later (Old register) clock = omega arith
there_later (Compute op left right) clock = omega arith
there_later (Convert inner to) clock = omega arith
there_later (Select test a b) clock = omega arith
there_later (Check ok fault) clock = omega arith
there_later (Probe r fault) clock = omega arith
there_later (Read r) clock = omega arith
there_later (Write r value) clock = omega arith
there_later (Set register value) clock = omega arith

-- the last clock is no less than that of each value
at_most_last : (os : List Operation) (clocks : List ℕ) (i : ℕ) (o : Operation) → slice_get os i ≡ Some o → length clocks ≡ length os
    → there_at o.form (slice_index clocks i) ≤ last_clock os clocks
at_most_last [] clocks i o at long = absurd (cc)
at_most_last (p ∷ os) [] i o at long = absurd (omega (arith, long))
at_most_last (p ∷ os) (c ∷ cs) zero o at long =
    let same : p ≡ o = cc in
    subst (λ (x : Operation). there_at x.form c ≤ max (there_at p.form c) (last_clock os cs)) same (grind arith)
at_most_last (p ∷ os) (c ∷ cs) (suc i) o at long =
    let rest = at_most_last os cs i o at (omega (arith, long)) in
    grind (arith, rest)

module _ (s : StepStart) (look : Look) (first : ℕ) (os : List Operation) (clocks : List ℕ) (us vs : List Word) (clock : ℕ)
    (here : IsAtClock s look first os clocks us vs clock) where
  -- the value of a number, where those of the numbers before it that are there are the same
  abbrev SameBefore : ℕ → Type 0
  SameBefore own = (n : ℕ) → first ≤ n → n < own → value_clock first os clocks n ≤ clock → word_at first us n ≡ word_at first vs n

  same_here : (i : ℕ) (o : Operation) → slice_get os i ≡ Some o → there_at o.form (slice_index clocks i) ≤ clock → SameBefore (first + i)
      → word_at first us (first + i) ≡ word_at first vs (first + i)
  same_here i o at there before =
      let later = there_later o.form (slice_index clocks i) in
      let needs = here.needs i o at in
      let taken : SameAtAll first us vs (operation_takes o) = both_all (IsBetween first (first + i)) (λ (n : ℕ). value_clock first os clocks n ≤ clock) (SameAt first us vs) (operation_takes o)
      (λ n b c. before n b.0 b.1 c) (here.ordered.each i o at) (greatest_is (value_clock first os clocks) (operation_takes o) clock (omega (arith, later, needs, there))) in
      here.shown.solve.each i o at
      ∙ (word_same s look first here.back us vs (first + i) o taken
      ∙ (look_same s look first os clocks vs clock here.made i o.guard o.form at there
      ∙ sym (here.meant.solve.each i o at)))

  same_at : (i : ℕ) → i < length os → value_clock first os clocks (first + i) ≤ clock → SameBefore (first + i) → word_at first us (first + i) ≡ word_at first vs (first + i)
  same_at i inside there before =
      elim (slice_get_cases os i).1 [
        | inl found ↦
            let c = clock_of_value first os clocks i found.0 found.2 in
            same_here i found.0 found.2 (omega (arith, there, c)) before
        | inr past ↦ absurd (let beyond = past.0 in omega (arith, beyond, inside))
      ]

  split : (n i : ℕ) → n < first + suc i → (n < first + i) ⊎ (n ≡ first + i)
  split n i h = elim (cases_lt n (first + i)) [
    | inl less ↦ inl less
    | inr more ↦ inr (omega (arith, h, more))
  ]

  same_below : (i : ℕ) → i ≤ length os → SameBefore (first + i)
  same_below zero inside n least less there = absurd (omega (arith, least, less))
  same_below (suc i) inside n least less there =
      elim (split n i less) [
        | inl before ↦ same_below i (omega (arith, inside)) n least before there
        | inr same ↦
            subst (λ (k : ℕ). word_at first us k ≡ word_at first vs k) (sym same)
            (same_at i (omega (arith, inside)) (subst (λ (k : ℕ). value_clock first os clocks k ≤ clock) same there) (same_below i (omega (arith, inside))))
      ]

  -- what an operation takes whose clock has come
  pub takes_same : (i : ℕ) (o : Operation) → slice_get os i ≡ Some o → slice_index clocks i ≤ clock → SameAtAll first us vs (operation_takes o)
  takes_same i o at come =
      let needs = here.needs i o at in
      let inside = slice_get_within os i o at in
      both_all (IsBetween first (first + i)) (λ (n : ℕ). value_clock first os clocks n ≤ clock) (SameAt first us vs) (operation_takes o)
      (λ n b c. same_below i (omega (arith, inside)) n b.0 b.1 c) (here.ordered.each i o at) (greatest_is (value_clock first os clocks) (operation_takes o) clock (omega (arith, needs, come)))

  pub shows_there : (i : ℕ) → i < length os → value_clock first os clocks (first + i) ≤ clock → word_at first us (first + i) ≡ word_at first vs (first + i)
  shows_there i inside there = same_below (suc i) (omega (arith, inside)) (first + i) (omega arith) (omega arith) there

  pub shows_all : length clocks ≡ length os → last_clock os clocks ≤ clock → us ≡ vs
  shows_all long last = ext_get_or no_word us vs (here.shown.long ∙ sym here.meant.long) λ i inside.
      let small : i < length os = (let l = here.shown.long in omega (arith, l, inside)) in
      elim (slice_get_cases os i).1 [
        | inl found ↦
            let c = clock_of_value first os clocks i found.0 found.2 in
            let most = at_most_last os clocks i found.0 found.2 long in
            let place : first + i - first ≡ i = add-sub_cancel_left first i in
            let same = shows_there i small (omega (arith, c, most, last)) in
            sym (ap (λ (k : ℕ). get_or us k no_word) place) ∙ (same ∙ ap (λ (k : ℕ). get_or vs k no_word) place)
        | inr past ↦ absurd (let beyond = past.0 in omega (arith, beyond, small))
      ]

-- what ports show of a read
pub ports_look_back : (plan : PlainPlan) (u : Uses) (held : List ℕ) (block : ℕ) → LooksBack (in_ports plan u held block) (first_in plan block)
ports_look_back plan u held block = record {
  same = λ number r ws vs h.
      let first = first_in plan block in
      let P = SameAt first ws vs in
      let behind = all_right P r.indices _ h in
      let last = all_right P (offsets_taken r.steps) _ behind in
      ap (λ (bank : ℕ). if_listed r.banks (slice_index held (port_bound plan u block (number - first) (bank_or_first r.banks bank) r))) (bank_same first ws vs r.banks r.select (all_left P (one_or_none r.select) _ last));
}

-- What is put down of an operation besides itself is plain: it has no effect on memories, registers or faults.
use Rattle.std.proofs.Common.{◌≡◌, ℕ, suc, ◌+◌, ◌<◌, ◌≤◌, Some, None, List, Bool, true, false, length, refl, sym, ap, subst, ◌∙◌, arith}
use Rattle.std.specs.Prelude.{[], ◌∷◌, ◌++◌, Option, slice_get, take, if◌then◌else◌}
use Rattle.std.specs.List.{AllByRecursion}
use Rattle.std.proofs.lemmas.List.{append_assoc}
use Rattle.std.proofs.lemmas.Option.{slice_get_within}
use Rattle.dh_value.specs.declared.kinds.Kind.{Kind}
use Rattle.dh_value.specs.declared.kinds.Kind.TheVariants as kind
use Rattle.dh_value.specs.declared.operators.Op.TheVariants as op
use Rattle.dh_value.specs.declared.words.Word.{Word}
use Rattle.dh_value.specs.Words.{IsWord}
use Rattle.dh_tree.specs.Shapes.{IsProgramTable}
use Rattle.dh_plan.specs.declared.operations.Operation.{Operation}
use Rattle.dh_plan.specs.declared.operations.OperationForm.{OperationForm}
use Rattle.dh_plan.specs.declared.operations.OperationForm.TheVariants.{Constant, Old, Compute, Convert, Select, Check, Probe, Read, Write, Set}
use Rattle.dh_plan.specs.declared.operations.PlanBlock.{PlanBlock}
use Rattle.dh_plan.specs.declared.operations.Reach.{Reach}
use Rattle.dh_plan.specs.Blocks.{StepStart, is_on, BlockEvent, operation_form_events, block_events, RegisterSet, form_sets, block_sets}
use Rattle.dh_plan.specs.Ordered.{one_or_none, reach_takes, form_takes, operation_takes, TakesEarlier}
use Rattle.dh_plan.specs.PlainPlans.{PlainPlan, first_in, operations_in}
use Rattle.dh_plan.specs.PlanKinds.{kind_of_value, kinds_of, ReachSuits, PicksBank, IsFormedBlock}
use Rattle.dh_plan.specs.PlanRuns.{start_at}
use Rattle.dh_plan.proofs.ValuesAlike.{all_left, all_right}
use Rattle.dh_rows.specs.Readings.{Readings, Obeys, OperationsGrow, AddsOperations, is_plain}
use Rattle.dh_rows.specs.MadeOperations.{pushed}
use Rattle.dh_rows.proofs.Growing.{grows_on, grown_length, adds_on, pushed_adds, pushed_value}
use Rattle.dh_address.proofs.WaySizes.{HasMaps}
use Rattle.dh_address.specs.Pieces.{RenumberedBlock, new_or_none, IsRangeTested, false_behind_all, false_word, new_takes, IsProbeValue, IsAccessMade}
use Rattle.dh_address.specs.Renumbered.{renumbered}
use Rattle.dh_address.specs.declared.operands.BlockValue.{BlockValue}
use Rattle.dh_address.specs.declared.operands.Ranged.{Ranged}
use Rattle.dh_address.specs.WaysMade.{IsIndexWay, reach_passed}
use Rattle.dh_address.proofs.WaysPut.{PutsPassed, passed_put}
use Rattle.dh_address.proofs.AccessesPut.{IsInputOf}
use Rattle.dh_address.proofs.FalsePut.{many_false_put}
use Rattle.dh_address.proofs.ImageReadings.{timeless, timeless_below, FormedBelow, behind_front, taken_front}
use Rattle.dh_address.proofs.KnownPieces.{IsKnownValue, IsPieceAt}
use Rattle.dh_address.proofs.PieceForms.{image_of, around, use_put, inputs_later, takes_inputs, made_grows}
use Rattle.dh_address.proofs.SuitsKnown.{all_two}
use Rattle.dh_address.proofs.TestedRanges.{IsTestable, tested_put, begun_later}

-- Plain operations.

abbrev pub IsQuiet : Operation → Type 0
IsQuiet o = is_plain o.form ≡ true

-- what comes behind is plain
pub record GrowsQuietly (old new : List Operation) : Type 0 where
  pub more : List Operation
  pub appended : new ≡ old ++ more
  pub quiet : AllByRecursion IsQuiet more

pub all_places : {A : Type 0} (P : A → Type 0) (xs : List A) → ((i : ℕ) (v : A) → slice_get xs i ≡ Some v → P v) → AllByRecursion P xs
all_places P [] h = tt
all_places P (x ∷ xs) h = (h 0 x refl, all_places P xs (λ i v e. h (suc i) v e))

both_quiet : (cs bs : List Operation) → AllByRecursion IsQuiet cs → AllByRecursion IsQuiet bs → AllByRecursion IsQuiet (cs ++ bs)
both_quiet [] bs h k = k
both_quiet (c ∷ cs) bs h k = (h.0, both_quiet cs bs h.1 k)

nothing_more : (os : List Operation) → os ≡ os ++ []
nothing_more [] = refl
nothing_more (o ∷ os) = ap (λ (ps : List Operation). o ∷ ps) (nothing_more os)

pub quietly_same : (old new : List Operation) → new ≡ old → GrowsQuietly old new
quietly_same old new e = record { more = []; appended = e ∙ nothing_more old; quiet = tt }

pub quietly_on : (a b c : List Operation) → GrowsQuietly a b → GrowsQuietly b c → GrowsQuietly a c
quietly_on a b c g h = record {
  more = g.more ++ h.more;
  appended = h.appended ∙ (ap (λ (os : List Operation). os ++ h.more) g.appended ∙ append_assoc a g.more h.more);
  quiet = both_quiet g.more h.more g.quiet h.quiet;
}

pub quietly_pushed : (os : List Operation) (g : Option ℕ) (f : OperationForm) → is_plain f ≡ true → GrowsQuietly os (pushed os g f).operations
quietly_pushed os g f plain = record { more = record { guard = g; form = f } ∷ []; appended = refl; quiet = (plain, tt) }

-- Plain operations do nothing.

either_none : {A : Type 0} (b : Bool) (xs : List A) → xs ≡ [] → (if b then xs else []) ≡ []
either_none true xs e = e
either_none false xs e = refl

form_events_quiet : (s : StepStart) (first : ℕ) (ws : List Word) (f : OperationForm) → is_plain f ≡ true → operation_form_events s first ws f ≡ []
form_events_quiet s first ws (Constant word) p = refl
form_events_quiet s first ws (Old register) p = refl
form_events_quiet s first ws (Compute op left right) p = refl
form_events_quiet s first ws (Convert inner to) p = refl
form_events_quiet s first ws (Select test a b) p = refl
form_events_quiet s first ws (Check ok fault) p = absurd (cc)
form_events_quiet s first ws (Probe r fault) p = absurd (cc)
form_events_quiet s first ws (Read r) p = refl
form_events_quiet s first ws (Write r value) p = absurd (cc)
form_events_quiet s first ws (Set register value) p = refl

form_sets_quiet : (first : ℕ) (ws : List Word) (f : OperationForm) → is_plain f ≡ true → form_sets first ws f ≡ []
form_sets_quiet first ws (Constant word) p = refl
form_sets_quiet first ws (Old register) p = refl
form_sets_quiet first ws (Compute op left right) p = refl
form_sets_quiet first ws (Convert inner to) p = refl
form_sets_quiet first ws (Select test a b) p = refl
form_sets_quiet first ws (Check ok fault) p = refl
form_sets_quiet first ws (Probe r fault) p = refl
form_sets_quiet first ws (Read r) p = refl
form_sets_quiet first ws (Write r value) p = refl
form_sets_quiet first ws (Set register value) p = absurd (cc)

pub events_quiet : (s : StepStart) (first : ℕ) (ws : List Word) (os : List Operation) → AllByRecursion IsQuiet os → block_events s first ws os ≡ []
events_quiet s first ws [] h = refl
events_quiet s first ws (o ∷ os) h =
    ap (λ (es : List BlockEvent). es ++ block_events s first ws os) (either_none (is_on first ws o.guard) (operation_form_events s first ws o.form) (form_events_quiet s first ws o.form h.0)) ∙ events_quiet s first ws os h.1

pub sets_quiet : (first : ℕ) (ws : List Word) (os : List Operation) → AllByRecursion IsQuiet os → block_sets first ws os ≡ []
sets_quiet first ws [] h = refl
sets_quiet first ws (o ∷ os) h =
    ap (λ (ss : List RegisterSet). ss ++ block_sets first ws os) (either_none (is_on first ws o.guard) (form_sets first ws o.form) (form_sets_quiet first ws o.form h.0)) ∙ sets_quiet first ws os h.1

-- Pieces.

module _ (p : PlainPlan) (maps : HasMaps p) (tables : IsProgramTable p.table) (bs : List PlanBlock) (block : ℕ) (front : List Operation) (begins : length front ≡ first_in (image_of p bs) block)
    (formed : IsFormedBlock p block) (all_formed : FormedBelow (image_of p bs) block front begins (length (front ++ operations_in (image_of p bs) block))) where
  abbrev q : PlainPlan
  q = image_of p bs

  abbrev old_first : ℕ
  old_first = first_in p block

  abbrev first : ℕ
  first = first_in q block

  abbrev all : List Operation
  all = front ++ operations_in q block

  abbrev x : Readings
  x = timeless q block (start_at q [] [])

  -- what was added is plain
  pub adds_quietly : (old new : List Operation) → AddsOperations x 0 old new → OperationsGrow new all → GrowsQuietly old new
  adds_quietly old new adds grows = record { more = adds.grows.more; appended = adds.grows.appended; quiet = all_places IsQuiet adds.grows.more each }
    where
      ordered : (n : ℕ) (o : Operation) → first ≤ n → n < length all → slice_get all n ≡ Some o → TakesEarlier first n o
      ordered n o l m there = (all_formed n o l m there).0

      obeys : (n : ℕ) → n < length all → Obeys x (take n all)
      obeys n l = timeless_below q block front begins (start_at q [] []) n (λ m o k b there. ordered m o k (omega (arith, b, l)) there)

      each : (i : ℕ) (o : Operation) → slice_get adds.grows.more i ≡ Some o → IsQuiet o
      each i o e =
          let there = subst (λ (os : List Operation). slice_get os (length old + i) ≡ Some o) (sym adds.grows.appended) (behind_front old adds.grows.more i ∙ e) in
          let within = slice_get_within new (length old + i) o there in
          let far = grown_length new all grows in
          (adds.each (length old + i) o (omega arith) there
          (subst (λ (os : List Operation). Obeys x os) (taken_front new all grows (length old + i) within) (obeys (length old + i) (omega (arith, within, far))))).plain

  formed_at : (os : List Operation) → OperationsGrow os all → FormedBelow q block front begins (length os)
  formed_at os g n o l m there = (let far = grown_length os all g in all_formed n o l (omega (arith, m, far)) there)

  module _ (ns : List ℕ) (ks : List Kind) (i : ℕ) (o : Operation) (old mid : List Operation) (n : ℕ) (at : IsPieceAt p maps tables bs block front begins formed ns ks i o old mid n) where
    abbrev a : RenumberedBlock
    a = around p block ns ks

    pub inputs_at : AllByRecursion (IsInputOf x 0 a (length old)) (operation_takes o)
    inputs_at = all_two (λ v. IsKnownValue p maps tables bs block front begins formed (length old) v (renumbered old_first ns v))
        (λ v. kind_of_value old_first ks v ≡ kind_of_value old_first (kinds_of p block) v) (IsInputOf x 0 a (length old)) (operation_takes o)
        (λ v h e. record { earlier = record { begun = h.begun; before = h.before; there = omega arith }; kind_is = h.kind_is ∙ sym e }) at.known at.kinds_same

    guard_inputs : AllByRecursion (IsInputOf x 0 a (length old)) (one_or_none o.guard)
    guard_inputs = all_left (IsInputOf x 0 a (length old)) (one_or_none o.guard) (form_takes o.form) inputs_at

    form_inputs : AllByRecursion (IsInputOf x 0 a (length old)) (form_takes o.form)
    form_inputs = all_right (IsInputOf x 0 a (length old)) (one_or_none o.guard) (form_takes o.form) inputs_at

    -- of an access
    pub access_quietly : (r : Reach) → ReachSuits p old_first ks r → PicksBank p old_first ks r r.row r.select → AllByRecursion (IsInputOf x 0 a (length old)) (reach_takes r)
        → (last : List Operation) (on : Option ℕ) (u : Reach) → IsAccessMade a (new_or_none a o.guard) r old last on u → OperationsGrow old last → OperationsGrow last all → GrowsQuietly old last
    access_quietly r suits picks taken last on u made grown grows =
        adds_quietly old last
        (use_put p maps tables bs block front begins ns ks o.guard r old last on u made grows at.begun (formed_at old (grows_on old last all grown grows)) at.suits.guard guard_inputs suits picks taken).adds
        grows

    -- of a test
    pub test_quietly : (r : Ranged) (here there : List Operation) (test : Option ℕ) → IsRangeTested r here there test → first ≤ length here → IsTestable x 0 here r → OperationsGrow there all → GrowsQuietly here there
    test_quietly r here there test tested begun testable grows = adds_quietly here there (tested_put x 0 r here there test tested begun testable).adds grows

    -- before the tests
    pub passed_at : (r : Reach) → ReachSuits p old_first ks r → AllByRecursion (IsInputOf x 0 a (length old)) (reach_takes r) → (passed : List Operation) (ranges : List Ranged) (indices : List BlockValue)
        → IsIndexWay passed ranges indices (reach_passed a r old) → PutsPassed x 0 old passed ranges indices
    passed_at r suits taken passed ranges indices e = passed_put x 0 a p maps tables refl r suits old passed ranges indices e at.begun taken

    -- of what a probe gives
    pub value_quietly : (probed : Bool) (r : Reach) (checked : List Operation) → IsProbeValue probed a (new_or_none a o.guard) r checked mid n → first ≤ length checked → OperationsGrow old checked
        → AllByRecursion (IsInputOf x 0 a (length old)) (reach_takes r) → GrowsQuietly checked mid
    value_quietly false r checked h begun grown taken = quietly_same checked mid h
    value_quietly true r checked h begun grown taken =
        let begin = pushed checked None (Constant false_word) in
        let word : IsWord false_word = record { sized = (omega arith, omega arith); fits = omega arith } in
        let first_adds = pushed_adds x 0 checked (Constant false_word) refl begun (λ o. tt) (λ o. word) in
        let first_stands = pushed_value x 0 checked (Constant false_word) refl begun (λ o. tt) (λ o. word) kind.Bool (λ o. refl) in
        let far = grows_on old checked begin.operations grown first_adds.grows in
        let chain = many_false_put x 0 begin (new_takes a r) (begun_later x checked begin.operations first_adds.grows begun) first_stands
        (takes_inputs p maps tables bs block front begins ns ks begin.operations r (inputs_later p maps tables bs block front begins ns ks old begin.operations far (reach_takes r) taken))
        in
        let m = false_behind_all begin (new_takes a r) in
        let to_all = grows_on m.operations mid all (made_grows p maps tables bs block front begins ns ks m.operations mid n (new_or_none a o.guard) (Compute op.Either m.value m.value) h) at.grows in
        quietly_on checked m.operations mid (adds_quietly checked m.operations (adds_on x 0 checked begin.operations m.operations first_adds chain.adds) to_all)
        (subst (λ (os : List Operation). GrowsQuietly m.operations os) (sym h.0) (quietly_pushed m.operations (new_or_none a o.guard) (Compute op.Either m.value m.value) refl))

-- A block that was made of a test does it, and sets its flag.
use Rattle.std.proofs.Common.{◌≡◌, ◌⊎◌, inl, inr, ℕ, zero, suc, ◌+◌, ◌-◌, ◌<◌, ◌≤◌, ◌^◌, ◌==◌, ◌&&◌, Bool, true, false, if◌then◌else◌, List, [], ◌∷◌, ◌++◌, length, drop, Option, Some, None, refl, ap, sym, ◌∙◌, subst, arith, append-nil}
use Rattle.std.specs.Prelude.{nat_lt, slice_get, slice_index, slice_set}
use Rattle.std.proofs.lemmas.Bool.{cases_Bool, eqb-true}
use Rattle.std.proofs.lemmas.Bool.Decides.{nat_tests}
use Rattle.std.proofs.lemmas.List.{length-drop, length-set}
use Rattle.dh_value.specs.declared.operators.Op.TheVariants.{Both}
use Rattle.dh_value.specs.declared.words.Word.{Word}
use Rattle.dh_value.specs.Words.{width_of, with_bits, word_of}
use Rattle.dh_value.specs.Operations.{binary_of, is_true, truth}
use Rattle.dh_tree.specs.PlainTrees.{Term}
use Rattle.dh_meaning.specs.AccessNumbers.{term_accesses}
use Rattle.dh_meaning.specs.Core.{CoreTerm}
use Rattle.dh_meaning.specs.CoreOf.{core_term}
use Rattle.dh_meaning.specs.Effects.{Effect, Variables, at_each, holds_at, tests}
use Rattle.dh_meaning.specs.Paths.{Path}
use Rattle.dh_meaning.specs.Runs.{first_path, goes_on}
use Rattle.dh_plan.specs.declared.operations.Operation.{Operation}
use Rattle.dh_plan.specs.Blocks.{RegisterSet, StepStart, all_set, block_events, block_sets, in_memories, kind_at, operation_word, word_at}
use Rattle.dh_plan.specs.Correspondence.{FitKinds, Holding, Round, StandFor, paths_of_rounds}
use Rattle.dh_plan.specs.PlainPlans.{PlainPlan, operations_in}
use Rattle.dh_plan.specs.PlanPhases.{DoesEffect, source_effect}
use Rattle.dh_plan.specs.PlanRuns.{events_of_block, sets_of_block, start_at}
use Rattle.dh_plan.proofs.Appends.{events_behind, sets_behind}
use Rattle.dh_plan.proofs.BlocksSolved.{has_one_solution}
use Rattle.dh_plan.proofs.ValuesAlike.{memories_look_back}
use Rattle.dh_code.specs.Slots.{slot_of}
use Rattle.dh_code.proofs.SlotsHeld.{slot_below}
use Rattle.dh_expressions.specs.declared.scenes.Around.{Around}
use Rattle.dh_expressions.specs.declared.scenes.Scene.{Scene}
use Rattle.dh_expressions.specs.Copying.{AreNone}
use Rattle.dh_expressions.specs.Drafted.{FitsStep, BlockStep, word_shown, tales_told, told_block, BlockBegun as IsBegun}
use Rattle.dh_expressions.specs.Evaluated.{StepReads, begun_of, known_in}
use Rattle.dh_expressions.specs.Noted.{touched_in}
use Rattle.dh_expressions.specs.Shown.{is_read_term, kind_written}
use Rattle.dh_expressions.proofs.ListPlaces.{place_within}
use Rattle.dh_commands.specs.declared.buildings.Building.{Building}
use Rattle.dh_commands.specs.LanesRun.{is_on_at, lanes_run, path_if, path_in, paths_counted, paths_to, run_if}
use Rattle.dh_commands.specs.Followed.{Along, IsFollowedBy, test_run, value_at}
use Rattle.dh_commands.specs.Done.{Does, StandsBeside}
use Rattle.dh_blocks.specs.FoundAccesses.{Found, found_from, term_found, variables_along}
use Rattle.dh_laid.specs.LaidAccesses.{AreLaid}
use Rattle.dh_blocks.specs.ChosenReads.{AreBare, chosen_reads}
use Rattle.dh_blocks.specs.BlockGround.{AreFoundAt, FoundAreWithin}
use Rattle.dh_blocks.specs.BlockMade.{IsTop, effect_begun, step_of_block}
use Rattle.dh_blocks.specs.NamedVariables.{IsNamedVariable, IsNamedHere}
use Rattle.dh_commands.specs.Setting.{NoVariable}
use Rattle.dh_blocks.specs.SlotsOfScene.{HoldsVariables, IsStartOf, placing_in, slots_in}
use Rattle.dh_blocks.specs.SoundTerms.{IsSound}
use Rattle.dh_blocks.specs.TestMade.{IsSoundTest, IsTestMade, IsTestTraced, MadeTestsDo, flag_made}
use Rattle.dh_blocks.proofs.BlockBegins.{begun_here, fits_here, ground_here, paths_here, placed_here, stands_here}
use Rattle.dh_blocks.proofs.CommandsDone.{own_found}
use Rattle.dh_blocks.proofs.CommandsFollow.{Stage, tested_followed}
use Rattle.dh_blocks.proofs.KindsOfValues.{IsWordOf, value_word}
use Rattle.dh_blocks.proofs.ReadsBegin.{laid_last}
use Rattle.dh_blocks.proofs.RegistersSet.{index_other, index_set, none_set}
use Rattle.dh_blocks.proofs.RoundsTurned.{always_on, named_here, paths_are_rounds}
use Rattle.dh_blocks.proofs.SoundMapped.{term_mapped}
use Rattle.dh_blocks.proofs.TalesTold.{fault_named, writes_told}
use Rattle.dh_blocks.proofs.TermsFollow.{term_long}
use Rattle.dh_blocks.proofs.TestStands.{test_shares}
use Rattle.dh_blocks.proofs.VariablesPlaced.{IsSlot, slot_facts}

-- What is done path by path is what is done along the list of paths.

each_append : (run : Path → Effect → Effect) (xs ys : List Path) (e : Effect) → at_each run (xs ++ ys) e ≡ at_each run ys (at_each run xs e)
each_append run [] ys e = refl
each_append run (p ∷ xs) ys e = each_append run xs ys (run p e)

one_run : (run : Path → Effect → Effect) (b : Bool) (p : Path) (e : Effect) → run_if b run p e ≡ at_each run (path_if b p) e
one_run run true p e = refl
one_run run false p e = refl

lanes_are : (x : BlockStep) (around : Around) (run : Path → Effect → Effect) (n : ℕ) (e : Effect) → lanes_run x around run n e ≡ at_each run (paths_to x around n) e
lanes_are x around run zero e = refl
lanes_are x around run (suc n) e =
    one_run run (is_on_at x around n) (path_in around n) (lanes_run x around run n e)
    ∙ (ap (λ f. at_each run (path_if (is_on_at x around n) (path_in around n)) f) (lanes_are x around run n e)
    ∙ sym (each_append run (paths_to x around n) (path_if (is_on_at x around n) (path_in around n)) e))

-- tests set nothing
tested_keeps : (x : BlockStep) (around : Around) (scene : Scene) (first : ℕ) (t : Term) (n : ℕ) (e : Effect) → (lanes_run x around (test_run scene x first t) n e).variables ≡ e.variables
tested_keeps x around scene first t zero e = refl
tested_keeps x around scene first t (suc n) e = by (is_on_at x around n) ∙ tested_keeps x around scene first t n e
  where
    by : (b : Bool) → (run_if b (test_run scene x first t) (path_in around n) (lanes_run x around (test_run scene x first t) n e)).variables ≡ (lanes_run x around (test_run scene x first t) n e).variables
    by true = refl
    by false = refl

-- the first path of those at which a guard holds, where it does at the first
first_of : (x : BlockStep) (around : Around) → is_on_at x around 0 ≡ true → (n : ℕ) → 0 < n → first_path (paths_to x around n) ≡ path_in around 0
first_of x around on n h = by (begins n h)
  where
    begins : (n : ℕ) → 0 < n → (rest : List Path) × (paths_to x around n ≡ path_in around 0 ∷ rest)
    begins zero h = absurd (omega (arith, h))
    begins (suc zero) h = ([], ap (λ b. path_if b (path_in around 0)) on)
    begins (suc (suc n)) h =
        let (rest, is) = begins (suc n) (some n) in
        (rest ++ path_if (is_on_at x around (suc n)) (path_in around (suc n)), ap (λ l. l ++ path_if (is_on_at x around (suc n)) (path_in around (suc n))) is)
      where
        some : (n : ℕ) → 0 < suc n
        some n = omega arith

    by : (rest : List Path) × (paths_to x around n ≡ path_in around 0 ∷ rest) → first_path (paths_to x around n) ≡ path_in around 0
    by (rest, is) = ap first_path is

get_index : (xs : List ℕ) → 0 < length xs → slice_get xs 0 ≡ Some (slice_index xs 0)
get_index [] h = absurd (none h)
  where
    none : 0 < 0 → ⊥
    none h = omega (arith, h)
get_index (x ∷ xs) h = refl

get_behind : {A : Type 0} (xs ys : List A) (i : ℕ) → slice_get (xs ++ ys) (length xs + i) ≡ slice_get ys i
get_behind [] ys i = ap (λ n. slice_get ys n) (none i)
  where
    none : (i : ℕ) → 0 + i ≡ i
    none i = omega arith
get_behind {A} (x ∷ xs) ys i = ap (λ n. slice_get (x ∷ (xs ++ ys)) n) (one (length xs) i) ∙ get_behind xs ys i
  where
    one : (n i : ℕ) → suc n + i ≡ suc (n + i)
    one n i = omega arith

-- of a word of a truth the bit is 1 or 0
truth_bit : (n : ℕ) → n < 2 → n ≡ (if n == 1 then 1 else 0)
truth_bit zero h = refl
truth_bit (suc zero) h = refl
truth_bit (suc (suc n)) h = absurd (never n h)
  where
    never : (n : ℕ) → suc (suc n) < 2 → ⊥
    never n h = omega (arith, h)

both_bit : (t : Bool) → (truth (t && t)).bits ≡ (if t then 1 else 0)
both_bit true = refl
both_bit false = refl

-- the sets of what makes a flag
abbrev flag_value : (is_read : Bool) → (value next : ℕ) → ℕ
flag_value true value next = next
flag_value false value next = value

flag_sets : (first : ℕ) (ws : List Word) (b : Bool) (flag value next : ℕ) → block_sets first ws (flag_made b flag value next) ≡ record { register = flag; bits = (word_at first ws (flag_value b value next)).bits } ∷ []
flag_sets first ws true flag value next = refl
flag_sets first ws false flag value next = refl

flag_quiet : (s : StepStart) (first : ℕ) (ws : List Word) (b : Bool) (flag value next : ℕ) → block_events s first ws (flag_made b flag value next) ≡ []
flag_quiet s first ws true flag value next = refl
flag_quiet s first ws false flag value next = refl

module _ (scene : Scene) (around : Around) (plan : PlainPlan) (count block flag first : ℕ) (t : Term) (values : List ℕ) (rounds : List Round) (old new : Building)
    (made : IsTestMade scene around plan count block flag first t values old new) (holds : HoldsVariables scene plan count) (top : IsTop rounds around)
    (sound : IsSoundTest scene around plan rounds t) (traced : IsTestTraced scene first t) where
  abbrev more : List Operation
  more = flag_made (is_read_term t) flag (slice_index values 0) (length new.draft.operations.items)

  abbrev front : List Operation
  front = drop (length old.draft.operations.items) new.draft.operations.items

  abbrev core : CoreTerm
  core = core_term (known_in scene) first t

  abbrev none_touched : ℕ → Bool
  none_touched entity = false

  paths : 0 < paths_counted around
  paths = paths_here scene around plan count rounds holds top

  -- In a step.
  module _ (registers : List ℕ) (memories : List (List ℕ)) (variables : Variables) (st : StandFor plan.registers (slots_in scene) rounds registers variables) where
    abbrev x : BlockStep
    x = step_of_block plan block registers memories

    abbrev first_effect : Effect
    first_effect = effect_begun variables

    abbrev V : ℕ → Variables
    V = variables_along scene x around (test_run scene x first t) first_effect

    abbrev find : ℕ → Option Found
    find = found_from first (term_found scene around x V first t)

    start : IsStartOf scene x
    start = record { table = holds.table; ways = holds.views }

    abbrev reads : StepReads
    reads = chosen_reads x find old.accesses

    own : AreFoundAt find first (term_found scene around x V first t)
    own i f is = own_found first (term_found scene around x V first t) i f is

    bare : AreBare find old.accesses
    bare number f is = by (nat_lt number first) refl is
      where
        by : (low : Bool) → nat_lt number first ≡ low → (if low then None else slice_get (term_found scene around x V first t) (number - first)) ≡ Some f
            → (number < length old.accesses.touched.items) × (touched_in old.accesses number ≡ None)
        by true less h = absurd (cc)
        by false less h =
            let l = above number first less in
            let within : number - first < term_accesses t = subst (λ (n : ℕ). number - first < n) (term_long scene around x V first t) (place_within (term_found scene around x V first t) (number - first) f h) in
            let same : first + (number - first) ≡ number = omega (arith, l) in
            subst (λ (m : ℕ). (m < length old.accesses.touched.items) × (touched_in old.accesses m ≡ None)) same (made.bare (number - first) within)
          where
            above : (n m : ℕ) → nat_lt n m ≡ false → m ≤ n
            above n m h = grind (arith, nat_tests)

    within_all : FoundAreWithin find old.accesses
    within_all number f is = (bare number f is).0

    fits : FitsStep x new.draft
    fits = fits_here plan count block old new more made.put registers memories

    begun : IsBegun x old.draft
    begun = begun_here plan count block old new more made.put registers memories

    stands_first : StandsBeside scene around x reads old first_effect
    stands_first = stands_here scene around plan count block rounds old new more made.put holds top registers memories variables st find bare

    stage : Stage scene x find old.accesses variables none_touched within_all start around (λ entity. ⊥)
    stage = record { ground = ground_here scene around plan count rounds holds top; placed = placed_here scene around plan count rounds holds top; folds = λ e none. absurd none }

    sound_now : IsSound (known_in scene) x.start.table (IsNamedVariable scene around.levels.now x variables none_touched) t
    sound_now =
        term_mapped (known_in scene) plan.table (IsNamedHere scene around.levels.now plan.registers rounds none_touched) (IsNamedVariable scene around.levels.now x variables none_touched)
        (named_here scene x rounds around top variables none_touched st.counted) t sound.sound

    along : Along around x reads (IsFollowedBy scene around first t) (test_run scene x first t) first_effect (paths_counted around)
    along =
        tested_followed scene x find old.accesses variables none_touched within_all start around (λ entity. ⊥) first t first_effect stage sound_now (λ i q left. refl)
        (λ i f is. (own i f is, test_shares scene x find around first t traced V own i f is))

    abbrev last_effect : Effect
    last_effect = lanes_run x around (test_run scene x first t) (paths_counted around) first_effect

    abbrev done : Does scene around NoVariable (λ y r e. Along around y r (IsFollowedBy scene around first t) (test_run scene y first t) e (paths_counted around))
        (λ y e. lanes_run y around (test_run scene y first t) (paths_counted around) e) old new
    done = made.tested.does.so made.low

    stands_last : StandsBeside scene around x reads new last_effect
    stands_last = done.so x reads first_effect fits begun along stands_first

    pub laid_behind_test : AreLaid plan.faults new.accesses × AreNone new.accesses.counts.items
    laid_behind_test = (laid_last x reads new.accesses variables (stands_last.knows variables), (stands_last.knows variables).none)

    -- the value of the test at the first path
    test_shown : word_shown x (slice_index values 0) ≡ value_at scene around x variables 0 first t
    test_shown =
        made.tested.are made.low x reads first_effect fits begun along stands_first 0 (slice_index values 0) paths (always_on x rounds around top 0)
        (get_index values (subst (λ (n : ℕ). 0 < n) (sym made.tested.long) paths))

    -- Operations of the flag.
    front_long : x.first + length front ≡ length new.draft.operations.items
    front_long =
        let d = length-drop (length old.draft.operations.items) new.draft.operations.items in
        let f = made.put.first in
        let l = done.extends.longer in
        omega (arith, d, f, l)

    solved : (i : ℕ) (o : Operation) → slice_get more i ≡ Some o
        → word_at x.first x.words (length new.draft.operations.items + i) ≡ operation_word x.start (in_memories x.start x.first) x.first x.words (length new.draft.operations.items + i) o
    solved i o is =
        subst (λ (m : ℕ). word_at x.first x.words m ≡ operation_word x.start (in_memories x.start x.first) x.first x.words m o) (let l = front_long in omega (arith, l))
        ((has_one_solution x.start (in_memories x.start x.first) x.first (memories_look_back x.start x.first) (operations_in plan block) made.put.ordered).solves.solve.each (length front + i) o
        (ap (λ os. slice_get os (length front + i)) made.put.operations ∙ (get_behind front more i ∙ is)))

    abbrev flag_bits : ℕ
    flag_bits = (word_at x.first x.words (flag_value (is_read_term t) (slice_index values 0) (length new.draft.operations.items))).bits

    flag_is : flag_bits ≡ (if is_true (value_at scene around x variables 0 first t) then 1 else 0)
    flag_is = by (is_read_term t) refl solved
      where
        word : Word
        word = value_at scene around x variables 0 first t

        by : (b : Bool) → is_read_term t ≡ b
            → ((i : ℕ) (o : Operation) → slice_get (flag_made b flag (slice_index values 0) (length new.draft.operations.items)) i ≡ Some o
            → word_at x.first x.words (length new.draft.operations.items + i) ≡ operation_word x.start (in_memories x.start x.first) x.first x.words (length new.draft.operations.items + i) o)
            → (word_at x.first x.words (flag_value b (slice_index values 0) (length new.draft.operations.items))).bits ≡ (if is_true word then 1 else 0)
        by true is solve =
            ap (λ m. (word_at x.first x.words m).bits) (none (length new.draft.operations.items))
            ∙ (ap (λ (w : Word). w.bits) (solve 0 _ refl)
            ∙ (ap (λ (w : Word). (binary_of Both w w).bits) test_shown ∙ both_bit (is_true word)))
          where
            none : (n : ℕ) → n ≡ n + 0
            none n = omega arith
        by false is solve =
            ap (λ (w : Word). w.bits) test_shown
            ∙ truth_bit word.bits (subst (λ k. word.bits < 2 ^ width_of k) (truth_kind.kind_is ∙ sound.kind_is) truth_kind.word.fits)
          where
            truth_kind : IsWordOf (kind_written t) word
            truth_kind = value_word (begun_of x) variables (path_in around 0) (known_in scene) (IsNamedVariable scene around.levels.now x variables none_touched) first t sound_now is

    -- At the end.
    abbrev after : List ℕ
    after = all_set (sets_of_block plan x.start block) registers

    events_are : events_of_block plan x.start block ≡ block_events x.start x.first x.words (drop x.first new.draft.operations.items)
    events_are =
        ap (λ os. block_events x.start x.first x.words os) made.put.operations
        ∙ (events_behind x.start x.first x.words front more
        ∙ (ap (λ es. block_events x.start x.first x.words front ++ es) (flag_quiet x.start x.first x.words (is_read_term t) flag (slice_index values 0) (length new.draft.operations.items))
        ∙ (append-nil (block_events x.start x.first x.words front)
        ∙ ap (λ k. block_events x.start x.first x.words (drop k new.draft.operations.items)) (sym made.put.first))))

    told_alike : told_block plan.faults (events_of_block plan x.start block) ≡ tales_told last_effect.events
    told_alike = ap (λ es. told_block plan.faults es) events_are ∙ stands_last.tells

    sets_are : sets_of_block plan x.start block ≡ record { register = flag; bits = flag_bits } ∷ []
    sets_are =
        ap (λ os. block_sets x.first x.words os) made.put.operations
        ∙ (sets_behind x.first x.words front more
        ∙ (ap (λ (ss : List RegisterSet). ss ++ block_sets x.first x.words more) (none_set x.first x.words front made.put.quiet)
        ∙ flag_sets x.first x.words (is_read_term t) flag (slice_index values 0) (length new.draft.operations.items)))

    after_is : after ≡ slice_set registers flag flag_bits
    after_is = ap (λ ss. all_set ss registers) sets_are

    flag_there : flag < length registers
    flag_there = subst (λ (n : ℕ). flag < n) (sym st.fit.long) made.there

    flag_after : slice_index after flag ≡ flag_bits
    flag_after = ap (λ (l : List ℕ). slice_index l flag) after_is ∙ index_set registers flag flag_bits flag_there

    other_after : (r : ℕ) → (r ≡ flag → ⊥) → slice_index after r ≡ slice_index registers r
    other_after r other = ap (λ (l : List ℕ). slice_index l r) after_is ∙ index_other registers flag r flag_bits other

    fit_behind : FitKinds plan.registers after
    fit_behind = record {
      long = ap length after_is ∙ (length-set registers flag flag_bits ∙ st.fit.long);
      small = λ r. by r (cases_Bool (r == flag));
    }
      where
        low : (t : Bool) → (if t then 1 else 0) < 2
        low true = omega arith
        low false = omega arith

        by : (r : ℕ) → ((r == flag) ≡ true) ⊎ ((r == flag) ≡ false) → slice_index after r < 2 ^ width_of (kind_at plan.registers r)
        by r (inl e) =
            subst (λ (n : ℕ). slice_index after n < 2 ^ width_of (kind_at plan.registers n)) (sym (eqb-true r flag e))
            (subst (λ k. slice_index after flag < 2 ^ width_of k) (sym made.kind_is)
            (subst (λ (n : ℕ). n < 2) (sym (flag_after ∙ flag_is)) (low (is_true (value_at scene around x variables 0 first t)))))
        by r (inr e) = subst (λ (n : ℕ). n < 2 ^ width_of (kind_at plan.registers r)) (sym (other_after r (differ r flag e))) (st.fit.small r)
          where
            differ : (a b : ℕ) → (a == b) ≡ false → a ≡ b → ⊥
            differ a b e same = grind (arith, nat_tests, e, same)

    holding_behind : Holding plan.registers (slots_in scene) after last_effect.variables
    holding_behind e p r slot =
        ap (λ n. with_bits (kind_at plan.registers r) n) (other_after r (λ same. never (slot_facts scene e p r slot) same))
        ∙ (st.holding e p r slot ∙ ap (λ (v : Variables). word_of (kind_at plan.registers r) (v e p)) (sym (tested_keeps x around scene first t (paths_counted around) first_effect)))
      where
        never : IsSlot scene e p r → r ≡ flag → ⊥
        never facts same = below (slot_of (placing_in scene) e p) _ (slot_below (placing_in scene) e p facts.path) (holds.placing.within e facts.there) facts.slot same made.apart
          where
            below : (s k : ℕ) → s < k → k ≤ count → r ≡ s → r ≡ flag → count ≤ flag → ⊥
            below s k a l b c d = omega (arith, a, l, b, c, d)

    does_last : DoesEffect plan (slots_in scene) block x.start last_effect
    does_last = record {
      fault = fault_named plan.faults (events_of_block plan x.start block) last_effect.events told_alike;
      writes = λ none. writes_told plan.faults (events_of_block plan x.start block) last_effect.events told_alike none;
      fit = λ none. fit_behind;
      holding = λ none. holding_behind;
    }

    effect_is : last_effect ≡ source_effect plan.table memories rounds (tests core) variables
    effect_is =
        lanes_are x around (test_run scene x first t) (paths_counted around) first_effect
        ∙ ap (λ (ps : List Path). at_each (test_run scene x first t) ps first_effect) (paths_are_rounds x rounds around top)

    pub test_effect : DoesEffect plan (slots_in scene) block (start_at plan registers memories) (source_effect plan.table memories rounds (tests core) variables)
    test_effect = subst (λ (e : Effect). DoesEffect plan (slots_in scene) block (start_at plan registers memories) e) effect_is does_last

    pub flag_set : slice_index (all_set (sets_of_block plan (start_at plan registers memories) block) registers) flag
        ≡ (if goes_on (record { table = plan.table; memories = memories }) variables (paths_of_rounds rounds) core then 1 else 0)
    flag_set =
        flag_after ∙ (flag_is
        ∙ ap (λ (q : Path). if holds_at (begun_of x) variables core q then 1 else 0)
        (sym (first_of x around (always_on x rounds around top 0) (paths_counted around) paths) ∙ ap first_path (paths_are_rounds x rounds around top)))

pub made_tests_do : (scene : Scene) (around : Around) (plan : PlainPlan) (count block flag first : ℕ) (t : Term) (values : List ℕ) (rounds : List Round) (old new : Building)
    → MadeTestsDo scene around plan count block flag first t values rounds old new
made_tests_do scene around plan count block flag first t values rounds old new made holds top sound traced = record {
  does = λ registers memories variables st. test_effect scene around plan count block flag first t values rounds old new made holds top sound traced registers memories variables st;
  sets = λ registers memories variables st none. flag_set scene around plan count block flag first t values rounds old new made holds top sound traced registers memories variables st;
  lays = λ registers variables st. laid_behind_test scene around plan count block flag first t values rounds old new made holds top sound traced registers [] variables st;
}

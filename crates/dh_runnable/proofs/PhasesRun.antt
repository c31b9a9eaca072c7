-- Where the commands of a program can be run, so can its phases. The straight commands of a command can be done in front
-- of others that can, by recursion over commands; joining and folding puts straight commands together and changes
-- nothing else; a loop's phases stand inside its factor, as its commands do.
use Rattle.std.proofs.Common.{ℕ, ◌+◌, ◌==◌, ◌&&◌, Bool, true, false, if◌then◌else◌, List, [], ◌∷◌, ◌++◌}
use Rattle.std.specs.List.{AllByRecursion}
use Rattle.dh_base.specs.declared.places.Place.{Place}
use Rattle.dh_tree.specs.PlainTrees.{Action, action, ActionForm, lets, lets_memory, views, assigns, stores, reduces, calls, blocks, decides, repeats, counts, MaybeAction, no_action, one_action, Actions, no_actions, action_then, Groups, no_groups, group_then}
use Rattle.dh_tree.specs.ViewOffsets.{moves}
use Rattle.dh_meaning.specs.AccessNumbers.{term_accesses, accesses_of, part_accesses}
use Rattle.dh_meaning.specs.Core.{CoreCommands, no_commands}
use Rattle.dh_meaning.specs.CoreOf.{Known, core_action, core_action_form, core_other, core_groups, core_part, core_commands, core_test, action_form_of, turning_of, core_phase, core_phases}
use Rattle.dh_meaning.specs.Phases as source
use Rattle.dh_meaning.specs.Phases.{Located, of_list, one_straight, joined, are_straight, one_command, folded, turn_count, turn_phases, choice_phases, located, phases, form_phases, other_phases, groups_phases, parts_phases}
use Rattle.dh_meaning.specs.Sites.{Around, in_arm, in_loop, loop_of}
use Rattle.dh_runnable.specs.ActionsRun.{table_known, ActionRuns, FormRuns, OtherRuns, GroupsRun, PartRuns}
use Rattle.dh_code.specs.Declarations.{factors_inside}
use Rattle.dh_sem.specs.Runnable.{CanTurn, CanRun, CanRunAll}
use Rattle.dh_code.specs.Slots.{Placing}
use Rattle.dh_code.specs.Suited.{CanTest, CanDoAll}

module _ (known : Known) (p : Placing) where
  -- Straight commands.

  mutual
    action_does : (a : Action) (loops : List ℕ) → ActionRuns known p loops a → (n : ℕ) (rest : CoreCommands) → CanDoAll (table_known known) p loops rest → CanDoAll (table_known known) p loops (core_action known n a rest)
    action_does (action id place form) loops h n rest r = form_does form loops h n rest r

    form_does : (f : ActionForm) (loops : List ℕ) → FormRuns known p loops f → (n : ℕ) (rest : CoreCommands) → CanDoAll (table_known known) p loops rest → CanDoAll (table_known known) p loops (core_action_form known n f rest)
    form_does (lets name declared value) loops h n rest r = (h n, r)
    form_does (assigns target value) loops h n rest r = (h n, r)
    form_does (stores target value) loops h n rest r = (h (n + term_accesses value) n, r)
    form_does (reduces target o value) loops h n rest r = (h n, r)
    form_does (decides test chosen other) loops h n rest r = (
      (h.0 n, (action_does chosen loops h.1.0 (n + term_accesses test) no_commands tt, other_does other loops h.1.1 (n + term_accesses test + accesses_of chosen))),
      r,
    )
    form_does (blocks body) loops h n rest r = groups_do body loops h n rest r
    form_does (lets_memory name shape shape_places value) loops h n rest r = r
    form_does (views name parent form) loops h n rest r = h.1 n rest r
    form_does (calls function arguments) loops h n rest r = r
    form_does (repeats test body) loops h n rest r = r
    form_does (counts iterator declared low high factor body combine combine_place) loops h n rest r = r

    other_does : (m : MaybeAction) (loops : List ℕ) → OtherRuns known p loops m → (n : ℕ) → CanDoAll (table_known known) p loops (core_other known n m)
    other_does no_action loops h n = tt
    other_does (one_action a) loops h n = action_does a loops h n no_commands tt

    groups_do : (gs : Groups) (loops : List ℕ) → GroupsRun known p loops gs → (n : ℕ) (rest : CoreCommands) → CanDoAll (table_known known) p loops rest → CanDoAll (table_known known) p loops (core_groups known n gs rest)
    groups_do no_groups loops h n rest r = r
    groups_do (group_then part behind) loops h n rest r =
        part_does part loops h.0 n (core_groups known (n + part_accesses part) behind rest) (groups_do behind loops h.1 (n + part_accesses part) rest r)

    part_does : (part : Actions) (loops : List ℕ) → PartRuns known p loops part → (n : ℕ) (rest : CoreCommands) → CanDoAll (table_known known) p loops rest → CanDoAll (table_known known) p loops (core_part known n part rest)
    part_does no_actions loops h n rest r = r
    part_does (action_then a behind) loops h n rest r =
        action_does a loops h.0 n (core_part known (n + accesses_of a) behind rest) (part_does behind loops h.1 (n + accesses_of a) rest r)

  -- Phases.

  -- a command can be done in front of others that can
  abbrev Does : (loops : List ℕ) → Located → Type 0
  Does loops c = (rest : CoreCommands) → CanDoAll (table_known known) p loops rest → CanDoAll (table_known known) p loops (core_action known c.first c.command rest)

  -- the test of a loop or an `if` is a condition
  abbrev Tests : (loops : List ℕ) → Located → Type 0
  Tests loops c = CanTest (table_known known) p loops (core_test known c)

  abbrev mutual
    PhaseRuns : (loops : List ℕ) → source.Phase → Type 0
    PhaseRuns loops (source.straight cs) = AllByRecursion (Does loops) cs
    PhaseRuns loops (source.turns loop count body) =
        CanTurn p loops (turning_of known count (action_form_of loop.command)) × PhasesRun (factors_inside loops (turning_of known count (action_form_of loop.command)).factor) body
    PhaseRuns loops (source.repeated loop body) = Tests loops loop × PhasesRun loops body
    PhaseRuns loops (source.decided choice chosen other) = Tests loops choice × (PhasesRun loops chosen × PhasesRun loops other)

    PhasesRun : (loops : List ℕ) → source.Phases → Type 0
    PhasesRun loops source.no_phases = Unit {0}
    PhasesRun loops (source.phase q qs) = PhaseRuns loops q × PhasesRun loops qs

  abbrev ListRuns : (loops : List ℕ) → List source.Phase → Type 0
  ListRuns loops qs = AllByRecursion (PhaseRuns loops) qs

  abbrev PartsRun : (loops : List ℕ) → List (List source.Phase) → Type 0
  PartsRun loops parts = AllByRecursion (ListRuns loops) parts

  appended : {A : Type 0} (P : A → Type 0) (xs ys : List A) → AllByRecursion P xs → AllByRecursion P ys → AllByRecursion P (xs ++ ys)
  appended P [] ys h i = i
  appended P (x ∷ xs) ys h i = (h.0, appended P xs ys h.1 i)

  list_runs : (loops : List ℕ) (qs : List source.Phase) → ListRuns loops qs → PhasesRun loops (of_list qs)
  list_runs loops [] h = tt
  list_runs loops (q ∷ qs) h = (h.0, list_runs loops qs h.1)

  straight_runs : (loops : List ℕ) (cs : List Located) → AllByRecursion (Does loops) cs → ListRuns loops (one_straight cs)
  straight_runs loops [] h = tt
  straight_runs loops (c ∷ cs) h = (h, tt)

  -- an unordered list
  joined_runs : (loops : List ℕ) (cs : List Located) (parts : List (List source.Phase)) → AllByRecursion (Does loops) cs → PartsRun loops parts → ListRuns loops (joined cs parts)
  joined_runs loops cs [] h i = straight_runs loops cs h
  joined_runs loops cs ([] ∷ parts) h i = joined_runs loops cs parts h i.1
  joined_runs loops cs ((source.straight ds ∷ []) ∷ parts) h i = joined_runs loops (cs ++ ds) parts (appended (Does loops) cs ds h i.0.0) i.1
  joined_runs loops cs ((source.turns loop count body ∷ []) ∷ parts) h i =
      appended (PhaseRuns loops) (one_straight cs) _ (straight_runs loops cs h) (i.0.0, joined_runs loops [] parts tt i.1)
  joined_runs loops cs ((source.repeated loop body ∷ []) ∷ parts) h i =
      appended (PhaseRuns loops) (one_straight cs) _ (straight_runs loops cs h) (i.0.0, joined_runs loops [] parts tt i.1)
  joined_runs loops cs ((source.decided choice chosen other ∷ []) ∷ parts) h i =
      appended (PhaseRuns loops) (one_straight cs) _ (straight_runs loops cs h) (i.0.0, joined_runs loops [] parts tt i.1)
  joined_runs loops cs ((q ∷ r ∷ qs) ∷ parts) h i =
      appended (PhaseRuns loops) (one_straight cs) _ (straight_runs loops cs h)
      (appended (PhaseRuns loops) (q ∷ r ∷ qs) _ i.0 (joined_runs loops [] parts tt i.1))

  -- the phases of a turn
  folded_runs : (loops : List ℕ) (body fold : List source.Phase) → ListRuns loops body → ListRuns loops fold → ListRuns loops (folded body fold)
  folded_runs loops [] fold h i = i
  folded_runs loops (source.straight cs ∷ []) fold h i = joined_runs loops cs (fold ∷ []) h.0 (i, tt)
  folded_runs loops (source.turns loop count body ∷ []) fold h i = (h.0, i)
  folded_runs loops (source.repeated loop body ∷ []) fold h i = (h.0, i)
  folded_runs loops (source.decided choice chosen other ∷ []) fold h i = (h.0, i)
  folded_runs loops (q ∷ r ∷ qs) fold h i = (h.0, folded_runs loops (r ∷ qs) fold h.1 i)

  -- a `for`
  turns_run : (loops : List ℕ) (loop : Located) (count : ℕ) (turn : List source.Phase) → CanTurn p loops (turning_of known count (action_form_of loop.command))
      → ListRuns (factors_inside loops (turning_of known count (action_form_of loop.command)).factor) turn → ListRuns loops (turn_phases loop count turn)
  turns_run loops loop count [] t h = tt
  turns_run loops loop count (q ∷ qs) t h = by (count == 0)
    where
      by : (b : Bool) → ListRuns loops (if b then [] else source.turns loop count (of_list (q ∷ qs)) ∷ [])
      by true = tt
      by false = ((t, list_runs (factors_inside loops (turning_of known count (action_form_of loop.command)).factor) (q ∷ qs) h), tt)

  -- a view
  view_runs : (loops : List ℕ) (moving : Bool) (view : Located) → Does loops view → ListRuns loops (if moving then one_command view else [])
  view_runs loops true view d = ((d, tt), tt)
  view_runs loops false view d = tt

  -- an `if`
  choice_runs : (loops : List ℕ) (choice : Located) (chosen other : List source.Phase) → Does loops choice → Tests loops choice → ListRuns loops chosen → ListRuns loops other → ListRuns loops (choice_phases choice chosen other)
  choice_runs loops choice chosen other d t h i = by (are_straight chosen && are_straight other)
    where
      by : (b : Bool) → ListRuns loops (if b then one_command choice else source.decided choice (of_list chosen) (of_list other) ∷ [])
      by true = ((d, tt), tt)
      by false = ((t, (list_runs loops chosen h, list_runs loops other i)), tt)

  mutual
    pub phases_run : (a : Action) (loops : List ℕ) (r : Around) (n : ℕ) → ActionRuns known p loops a → ListRuns loops (phases r n a)
    phases_run (action id place form) loops r n h = form_phases_run form loops r n id place h

    form_phases_run : (f : ActionForm) (loops : List ℕ) (r : Around) (n id : ℕ) (place : Place) → FormRuns known p loops f → ListRuns loops (form_phases r n id place f)
    form_phases_run (lets name declared value) loops r n id place h = (((λ rest q. (h n, q)), tt), tt)
    form_phases_run (assigns target value) loops r n id place h = (((λ rest q. (h n, q)), tt), tt)
    form_phases_run (stores target value) loops r n id place h = (((λ rest q. (h (n + term_accesses value) n, q)), tt), tt)
    form_phases_run (reduces target o value) loops r n id place h = (((λ rest q. (h n, q)), tt), tt)
    form_phases_run (decides test chosen other) loops r n id place h =
        choice_runs loops (located r n (action id place (decides test chosen other))) _ _
        (λ rest q. form_does (decides test chosen other) loops h n rest q) (h.0 n)
        (phases_run chosen loops (in_arm r id true) (n + term_accesses test) h.1.0)
        (other_phases_run other loops (in_arm r id false) (n + term_accesses test + accesses_of chosen) h.1.1)
    form_phases_run (repeats test body) loops r n id place h = ((h.0 n, list_runs loops _ (phases_run body loops r (n + term_accesses test) h.1)), tt)
    form_phases_run (counts iterator declared low high factor body combine combine_place) loops r n id place h =
        turns_run loops (located r n (action id place (counts iterator declared low high factor body combine combine_place))) (turn_count low.value high.value factor.value) _ h.0
        (folded_runs (factors_inside loops factor.value) _ _
        (phases_run body (factors_inside loops factor.value) (in_loop r (loop_of iterator low high factor)) n h.1.0)
        (other_phases_run combine (factors_inside loops factor.value) (in_loop r (loop_of iterator low high factor)) (n + accesses_of body) h.1.1))
    form_phases_run (blocks body) loops r n id place h = groups_phases_run body loops r n h
    form_phases_run (lets_memory name shape shape_places value) loops r n id place h = tt
    form_phases_run (views name parent form) loops r n id place h = view_runs loops (moves form) (located r n (action id place (views name parent form))) (h.1 n)
    form_phases_run (calls function arguments) loops r n id place h = tt

    other_phases_run : (m : MaybeAction) (loops : List ℕ) (r : Around) (n : ℕ) → OtherRuns known p loops m → ListRuns loops (other_phases r n m)
    other_phases_run no_action loops r n h = tt
    other_phases_run (one_action a) loops r n h = phases_run a loops r n h

    groups_phases_run : (gs : Groups) (loops : List ℕ) (r : Around) (n : ℕ) → GroupsRun known p loops gs → ListRuns loops (groups_phases r n gs)
    groups_phases_run no_groups loops r n h = tt
    groups_phases_run (group_then part rest) loops r n h =
        appended (PhaseRuns loops) (joined [] (parts_phases r n part)) _ (joined_runs loops [] (parts_phases r n part) tt (parts_phases_run part loops r n h.0)) (groups_phases_run rest loops r (n + part_accesses part) h.1)

    parts_phases_run : (part : Actions) (loops : List ℕ) (r : Around) (n : ℕ) → PartRuns known p loops part → PartsRun loops (parts_phases r n part)
    parts_phases_run no_actions loops r n h = tt
    parts_phases_run (action_then a rest) loops r n h = (phases_run a loops r n h.0, parts_phases_run rest loops r (n + accesses_of a) h.1)

  -- What is run.

  commands_can : (loops : List ℕ) (cs : List Located) → AllByRecursion (Does loops) cs → CanDoAll (table_known known) p loops (core_commands known cs)
  commands_can loops [] h = tt
  commands_can loops (c ∷ cs) h = h.0 (core_commands known cs) (commands_can loops cs h.1)

  mutual
    phase_can : (q : source.Phase) (loops : List ℕ) → PhaseRuns loops q → CanRun (table_known known) p loops (core_phase known q)
    phase_can (source.straight cs) loops h = commands_can loops cs h
    phase_can (source.turns loop count body) loops h = (h.0, phases_can body (factors_inside loops (turning_of known count (action_form_of loop.command)).factor) h.1)
    phase_can (source.repeated loop body) loops h = (h.0, phases_can body loops h.1)
    phase_can (source.decided choice chosen other) loops h = (h.0, (phases_can chosen loops h.1.0, phases_can other loops h.1.1))

    phases_can : (qs : source.Phases) (loops : List ℕ) → PhasesRun loops qs → CanRunAll (table_known known) p loops (core_phases known qs)
    phases_can source.no_phases loops h = tt
    phases_can (source.phase q qs) loops h = (phase_can q loops h.0, phases_can qs loops h.1)

  -- the phases of a command that can be run
  pub phases_of_command_can : (a : Action) (loops : List ℕ) (r : Around) (n : ℕ) → ActionRuns known p loops a → CanRunAll (table_known known) p loops (core_phases known (of_list (phases r n a)))
  phases_of_command_can a loops r n h = phases_can (of_list (phases r n a)) loops (list_runs loops (phases r n a) (phases_run a loops r n h))

-- Whole commands in time: by recursion on the command and on what was put down for it.
use Rattle.std.proofs.Common.{◌≡◌, ◌⊎◌, inl, inr, ℕ, suc, ◌+◌, ◌^◌, ◌<◌, ◌≤◌, true, false, Some, None, Option, List, length, refl, sym, ap, ◌∙◌, subst, arith, [], ◌∷◌}
use Rattle.std.specs.Prelude.{Bool as Truth, ◌||◌, max}
use Rattle.std.proofs.lemmas.Bool.{cases_lt}
use Rattle.dh_value.specs.declared.operators.Op.{Op}
use Rattle.dh_tree.specs.declared.trees.expressions.Ref.{Ref}
use Rattle.dh_tree.specs.Indices.{form_of}
use Rattle.dh_tree.specs.PlainTrees as plain
use Rattle.dh_tree.specs.PlainTrees.{Term, Action, action, ActionForm, lets, lets_memory, views, assigns, stores, reduces, calls, blocks, decides, repeats, counts, MaybeAction, no_action, one_action, Actions, no_actions, action_then, Groups, no_groups, group_then}
use Rattle.dh_tree.specs.ViewOffsets.{offsets_of}
use Rattle.dh_tree.specs.Seen.{terms}
use Rattle.dh_meaning.specs.AccessNumbers.{accesses_of, groups_accesses, other_accesses, part_accesses, plan_accesses, term_accesses, terms_accesses}
use Rattle.dh_meaning.specs.Core.{no_commands}
use Rattle.dh_meaning.specs.CoreOf.{core_action, core_groups, core_other, core_part, entity_number, core_terms, way_of}
use Rattle.dh_meaning.specs.Levels.{Leveled, Levels, any_assigns, choice_levels, greatest, term_leveled, with_value, with_variables, kept_leveled}
use Rattle.dh_meaning.specs.Ways.{Hidden, hidden_in}
use Rattle.dh_expressions.specs.declared.drafts.Draft.{Draft}
use Rattle.dh_expressions.specs.declared.scenes.Around.{Around}
use Rattle.dh_expressions.specs.declared.scenes.Scene.{Scene}
use Rattle.dh_expressions.specs.Drafted.{Extends}
use Rattle.dh_expressions.specs.Evaluated.{known_in}
use Rattle.dh_formed.specs.Counted.{given_at_paths}
use Rattle.dh_formed.specs.Formed.{Agrees, FormedBlock, TermSuits}
use Rattle.dh_formed.specs.Timed.{AgreeInTime, AreBounded, BlockClocks, LevelsThen, ReadsAgree, leveled, named_leveled}
use Rattle.dh_formed.proofs.LevelsBehind.{levels_behind}
use Rattle.dh_formed.proofs.ValuesFormed.{agrees_before}
use Rattle.dh_formed.proofs.ValuesTimed.{agree_before, time_later, within_again, within_none}
use Rattle.dh_commands.specs.declared.assignments.Values.{Values}
use Rattle.dh_commands.specs.declared.buildings.Building.{Building}
use Rattle.dh_commands.specs.declared.choices.Left.{Left}
use Rattle.dh_commands.specs.LanesRun.{lane_of, paths_counted}
use Rattle.dh_commands.specs.MadeCommands.{AssignedTo, ClearedTo, MadeActions, MadeArm, MadeCommand, MadeGroups, MadeIf, MadeOther, MadeTests, ReducedTo, StoredTo, KeptTo, MadeView}
use Rattle.dh_commands.specs.Undone.{AreReady}
use Rattle.dh_commands.specs.ShownVariables.{register_in}
use Rattle.dh_laid.specs.Laid.{TestsAreTruths, FormsJoined, FormsTested, FormsThere}
use Rattle.dh_laid.specs.LaidCommands.{ActionsSuit, AreFew, AreFewOther, AssignmentSuits, ClearingSuits, CommandSuits, FormsCommand, GroupsSuit, OtherSuits, ReducingSuits, StoreSuits, TestSuits, KeepingSuits}
use Rattle.dh_laid.specs.LaidNumbers.{NumbersLaid, StoresReach, StoresReachGroups, StoresReachOther, StoresReachPart}
use Rattle.dh_laid.proofs.CommandsLaid.{FormsArm, FormsEnded, actions_form, arm_forms, command_forms, groups_form, held_moved, other_forms, tests_extend}
use Rattle.dh_laid.proofs.CommandsNumbered.{actions_reached, command_reached, groups_reached, some_arm, tests_number}
use Rattle.dh_laid.proofs.PathsLaid.{round_later, tests_form}
use Rattle.dh_laid.proofs.ChoicesLaid.{truths_later}
use Rattle.dh_laid.proofs.JoinsLaid.{joins_form}
use Rattle.dh_laid.proofs.ValuesLogged.{logged_ready, tests_same}
use Rattle.dh_commands.proofs.ArmsLeft.{same_again, same_ready}
use Rattle.dh_paced.specs.Assigned.{IsAssignedIn, IsAssignedInOther}
use Rattle.dh_paced.specs.Paced.{IsIn, IsReadGroups, IsReadIn, IsReadOther, IsReadPart, action_levels, between_arms, groups_levels, other_levels, part_levels}
use Rattle.dh_paced.specs.Standing.{AreCurrent, IsGround, IsTarget, OwnsGroups, OwnsIn, OwnsOther, OwnsPart, OwnsTarget, OwnsTerm, Paces, StandsFor, TakesAlone, OwnsView}
use Rattle.dh_paced.proofs.ArmsPaced.{PacesArm, arm_paced, arm_stands, joined_paced}
use Rattle.dh_paced.proofs.AssignedCore.{assigned_true, is_target, or_true, other_target, other_true, true_assigned, true_or, true_other}
use Rattle.dh_paced.proofs.AssignmentsLogged.{HaveRoom, LeavesOf, arm_logged, based, behind_other, command_logged, other_logged, under_arm, values_at}
use Rattle.dh_paced.proofs.CoreAppended.{action_then_levels, part_then_levels}
use Rattle.dh_paced.proofs.LanesPaced.{assigned_paced, cleared_paced, reads_less, reduced_paced}
use Rattle.dh_paced.proofs.LevelsOfCommands.{LevelsGo, action_go, assigned_levels, groups_go, other_go, part_go, reduced_core, reduced_leveled, view_leveled, keeping_levels}
use Rattle.dh_paced.proofs.StoresPaced.{by_indices_paced, by_row_paced}
use Rattle.dh_paced.proofs.TestsPaced.{TestsAt, TestsPaced, tests_paced}
use Rattle.dh_paced.proofs.KeepingPaced.{kept_paced}

module _ (c : BlockClocks) (scene : Scene) (top : Around) (spaces : ℕ) (shared : ℕ → Option ℕ) (Variable Read Own : ℕ → Type 0) (g : IsGround c scene top spaces shared Variable Read Own) where
  abbrev pub Pace : (old new : Building) → Levels → (next : ℕ) → Type 0
  Pace old new l next = Paces c scene top spaces shared Variable Read Own old new l next

  abbrev pub Stand : (around : Around) → (old : Building) → (outer first : ℕ) → Levels → Type 0
  Stand around old outer first l = StandsFor c scene top spaces shared Variable Read Own around old outer first l

  pub paces_to : (old new : Building) (l : Levels) (j k : ℕ) → j ≡ k → Pace old new l j → Pace old new l k
  paces_to old new l j k same h = subst (λ (n : ℕ). Pace old new l n) same h

  pub paces_as : (old new : Building) (l k : Levels) (next : ℕ) → l ≡ k → Pace old new l next → Pace old new k next
  paces_as old new l k next same h = subst (λ (m : Levels). Pace old new m next) same h

  -- nothing is put down; no read is among so many accesses
  still_paced : (around : Around) (old new : Building) (outer n count : ℕ) (l : Levels) → new ≡ old → ((m : ℕ) → IsIn n count m → Read m → ⊥) → Stand around old outer n l → Pace old new l (n + count)
  still_paced around old new outer n count l still none s =
      subst (λ (b : Building). Pace old b l (n + count)) (sym still) (record {
        within = within_none c old.draft old.draft l.most refl;
        in_time = s.in_time;
        current = s.current;
        given = record { done = λ e read less. by e read less (cases_lt e n); rest = λ m is more. s.given.rest m is (omega (arith, more)) };
      })
    where
      by : (e : ℕ) → Read e → e < n + count → (e < n) ⊎ (n ≤ e) → given_at_paths old.accesses e ≡ paths_counted top
      by e read less (inl front) = s.given.done e read front
      by e read less (inr from) = absurd (none e (from, less) read)

  none_in : (n m : ℕ) → IsIn n 0 m → Read m → ⊥
  none_in n m h read = let f = h.0 in let b = h.1 in omega (arith, f, b)

  -- what stands behind a command
  pub stands_then : (around : Around) (old middle : Building) (outer n k : ℕ) (l made : Levels) (Where : FormedBlock → Type 0) → Stand around old outer n l → FormsCommand scene around old middle Where → Agrees c.block middle.draft → Where c.block
      → (AreBounded l → AreBounded made) → l.most ≤ made.most → Pace old middle made k → Stand around middle outer k made
  stands_then around old middle outer n k l made Where s f agrees w bounded more p =
      let there : FormsThere c.block old middle = f.forms c.block agrees s.started s.round s.noted s.held w in
      let logs = f.logs s.held.ready in
      record {
        under = s.under;
        started = time_later c old.draft middle.draft f.extends s.started;
        round = round_later c.block old.draft middle.draft scene around f.extends s.round;
        noted = there.notes;
        held = record { held = there.held; ready = logged_ready old.values middle.values logs s.held.ready; long = subst (λ (i : ℕ). i ≤ length c.block.plan.registers) (sym logs.long) s.held.long };
        long = logs.long ∙ s.long;
        guards = s.guards;
        bounded = bounded s.bounded;
        outer_few = let o = s.outer_few in omega (arith, o, more);
        in_time = p.in_time;
        current = p.current;
        given = p.given;
      }

  pub both_paced : (old middle new : Building) (l made : Levels) (j k : ℕ) → l.most ≤ made.most → Pace old middle l j → Pace middle new made k → Pace old new made k
  both_paced old middle new l made j k more p q = record {
    within = within_again c old.draft middle.draft new.draft l.most made.most more p.within q.within;
    in_time = q.in_time;
    current = q.current;
    given = q.given;
  }

  some_around : (around : Around) (old : Building) (outer n : ℕ) (l : Levels) → Stand around old outer n l → 0 < paths_counted around
  some_around around old outer n l s = subst (λ (i : ℕ). 0 < i) (sym s.under.counted) g.some

  few_first : (first n count : ℕ) → first ≡ n → n + count < 2 ^ 32 → first + count < 2 ^ 32
  few_first first n count same few = omega (arith, same, few)

  -- Commands at all paths.

  module _ (around : Around) (outer n : ℕ) (l : Levels) (old new : Building) (first next : ℕ) (same : first ≡ n) (s : Stand around old outer n l) (agrees : Agrees c.block new.draft) (agree : AgreeInTime c new.draft) where
    within_around : (k : ℕ) → k < paths_counted top → k < paths_counted around
    within_around k within = subst (λ (i : ℕ). k < i) (sym s.under.counted) within

    assigned_here : (e : ℕ) (t : Term) → AssignedTo scene around first e t (paths_counted around) old new next → n + (term_accesses t + 0) < 2 ^ 32 → AssignmentSuits c.block scene around first e t
        → OwnsTerm c scene top spaces shared Variable Read Own outer n t × (IsTarget c scene top spaces shared Variable Read Own e × TakesAlone c scene top spaces shared Variable Read Own e n t)
        → ReadsAgree c (leveled scene shared outer n t l).levels (n + (term_accesses t + 0)) → Pace old new (assigned_levels scene shared e (leveled scene shared outer n t l)) (n + (term_accesses t + 0))
    assigned_here e t m few suits own reads =
        paces_to old new _ (n + term_accesses t) (n + (term_accesses t + 0)) (omega arith)
        (assigned_paced c scene top spaces shared Variable Read Own g around outer n l old s e own.1.0 t (omega (arith, few)) own.0 own.1.1 (reads_less c (leveled scene shared outer n t l).levels (n + term_accesses t) (n + (term_accesses t + 0)) (omega arith) reads) new next
        (subst (λ (i : ℕ). AssignedTo scene around i e t (paths_counted top) old new next) same (subst (λ (i : ℕ). AssignedTo scene around first e t i old new next) s.under.counted m)) agrees agree
        (λ k within. subst (λ (i : ℕ). AssignmentSuits c.block scene around i e t) same suits k (within_around k within)))

    cleared_here : (e : ℕ) → ClearedTo scene around first e (paths_counted around) old new next → ClearingSuits c.block scene around e → IsTarget c scene top spaces shared Variable Read Own e → Pace old new (with_variables l (with_value l.variables e 0)) (n + 0)
    cleared_here e m suits target =
        cleared_paced c scene top spaces shared Variable Read Own g around outer n l old s e target new next
        (subst (λ (i : ℕ). ClearedTo scene around i e (paths_counted top) old new next) same (subst (λ (i : ℕ). ClearedTo scene around first e i old new next) s.under.counted m)) agrees agree
        (λ k within. suits k (within_around k within))

    reduced_here : (r : Ref) (op : Op) (t : Term) → ReducedTo scene around first (entity_number r.entity) op t (paths_counted around) old new next → n + (term_accesses t + 0) < 2 ^ 32 → ReducingSuits c.block scene around first (entity_number r.entity) op t
        → OwnsTerm c scene top spaces shared Variable Read Own outer n t × (IsTarget c scene top spaces shared Variable Read Own (entity_number r.entity) × TakesAlone c scene top spaces shared Variable Read Own (entity_number r.entity) n t)
        → ReadsAgree c (term_leveled shared outer (reduced_core scene n r op t) l).levels (n + (term_accesses t + 0))
        → Pace old new (assigned_levels scene shared (entity_number r.entity) (term_leveled shared outer (reduced_core scene n r op t) l)) (n + (term_accesses t + 0))
    reduced_here r op t m few suits own reads =
        paces_to old new _ (n + term_accesses t) (n + (term_accesses t + 0)) (omega arith)
        (paces_as old new (assigned_levels scene shared (entity_number r.entity) (greatest (l.variables (entity_number r.entity)) (leveled scene shared outer n t l))) _ (n + term_accesses t)
        (ap (λ (w : Leveled). assigned_levels scene shared (entity_number r.entity) w) (reduced_leveled scene shared outer n r op t l))
        (reduced_paced c scene top spaces shared Variable Read Own g around outer n l old s (entity_number r.entity) own.1.0 t (omega (arith, few)) own.0 own.1.1
        (reads_less c (leveled scene shared outer n t l).levels (n + term_accesses t) (n + (term_accesses t + 0)) (omega arith) (subst (λ (w : Leveled). ReadsAgree c w.levels (n + (term_accesses t + 0))) (sym (reduced_leveled scene shared outer n r op t l)) reads)) op new next
        (subst (λ (i : ℕ). ReducedTo scene around i (entity_number r.entity) op t (paths_counted top) old new next) same (subst (λ (i : ℕ). ReducedTo scene around first (entity_number r.entity) op t i old new next) s.under.counted m)) agrees agree
        (λ k within. subst (λ (i : ℕ). ReducingSuits c.block scene around i (entity_number r.entity) op t) same suits k (within_around k within))))

    stored_here : (target t : Term) → StoredTo scene around first target t (paths_counted around) old new next → n + ((term_accesses t + term_accesses target) + 0) < 2 ^ 32 → StoreSuits c.block scene around first target t
        → OwnsTerm c scene top spaces shared Variable Read Own outer n t × OwnsTarget c scene top spaces shared Variable Read Own outer (n + term_accesses t) (form_of target)
        → ReadsAgree c (action_levels (known_in scene) shared outer n (action 0 (record { line = 0; column = 0 }) (stores target t)) l) (n + ((term_accesses t + term_accesses target) + 0))
        → Pace old new (action_levels (known_in scene) shared outer n (action 0 (record { line = 0; column = 0 }) (stores target t)) l) (n + ((term_accesses t + term_accesses target) + 0))
    stored_here (plain.term place k (plain.accessed r ts)) t m few suits own reads =
        paces_to old new _ (n + (term_accesses t + (terms_accesses ts + 1))) (n + ((term_accesses t + suc (terms_accesses ts)) + 0)) (omega arith)
        (by_indices_paced c scene top spaces shared Variable Read Own g around outer n l old s t own.0 place k r ts own.1.0 own.1.1 (omega (arith, few))
        (reads_less c (named_leveled scene shared outer (n + term_accesses t) r ts (leveled scene shared outer n t l).levels).levels (n + term_accesses t + terms_accesses ts) (n + ((term_accesses t + suc (terms_accesses ts)) + 0)) (omega arith) reads) new next
        (subst (λ (i : ℕ). StoredTo scene around i (plain.term place k (plain.accessed r ts)) t (paths_counted top) old new next) same
        (subst (λ (i : ℕ). StoredTo scene around first (plain.term place k (plain.accessed r ts)) t i old new next) s.under.counted m)) agrees agree
        (λ i within. subst (λ (j : ℕ). StoreSuits c.block scene around j (plain.term place k (plain.accessed r ts)) t) same suits i (within_around i within)))
    stored_here (plain.term place k (plain.in_bank r bank at row)) t m few suits own reads =
        paces_to old new _ (n + (term_accesses t + (term_accesses row + 1))) (n + ((term_accesses t + suc (term_accesses row)) + 0)) (omega arith)
        (by_row_paced c scene top spaces shared Variable Read Own g around outer n l old s t own.0 place at k r bank row own.1.0 own.1.1 (omega (arith, few))
        (reads_less c (leveled scene shared outer (n + term_accesses t) row (leveled scene shared outer n t l).levels).levels (n + term_accesses t + term_accesses row) (n + ((term_accesses t + suc (term_accesses row)) + 0)) (omega arith) reads) new next
        (subst (λ (i : ℕ). StoredTo scene around i (plain.term place k (plain.in_bank r bank at row)) t (paths_counted top) old new next) same
        (subst (λ (i : ℕ). StoredTo scene around first (plain.term place k (plain.in_bank r bank at row)) t i old new next) s.under.counted m)) agrees agree
        (λ i within. subst (λ (j : ℕ). StoreSuits c.block scene around j (plain.term place k (plain.in_bank r bank at row)) t) same suits i (within_around i within)))
    stored_here (plain.term place k (plain.number negative z)) t m few suits own reads = absurd own.1
    stored_here (plain.term place k (plain.truth_value b)) t m few suits own reads = absurd own.1
    stored_here (plain.term place k (plain.named r)) t m few suits own reads = absurd own.1
    stored_here (plain.term place k (plain.applied op left right)) t m few suits own reads = absurd own.1
    stored_here (plain.term place k (plain.converted inner to)) t m few suits own reads = absurd own.1

  -- a view, whose variables keep its offsets, or that keeps none
  view_paced : (hs : List Hidden) (form : plain.ViewPlan) (around : Around) (old new : Building) (first next : ℕ) → MadeView scene hs form around old new first next → (n : ℕ) → first ≡ n → n + plan_accesses form < 2 ^ 32
      → KeepingSuits c.block scene around first hs (offsets_of form) → (outer : ℕ) (l : Levels) → Stand around old outer n l → OwnsView c scene top spaces shared Variable Read Own outer n hs form
      → ReadsAgree c (keeping_levels scene shared hs outer n (offsets_of form) l) (n + (plan_accesses form + 0)) → Agrees c.block new.draft → AgreeInTime c new.draft
      → Pace old new (keeping_levels scene shared hs outer n (offsets_of form) l) (n + (plan_accesses form + 0))
  view_paced [] form around old new first next m n same few suits outer l s own reads agrees agree = still_paced around old new outer n (plan_accesses form + 0) l m.still (λ i h read. own i h read) s
  view_paced (h ∷ hs) form around old new first next m n same few suits outer l s own reads agrees agree =
      paces_to old new (kept_leveled shared outer h.entity (core_terms (known_in scene) n (terms (offsets_of form))) l) (n + plan_accesses form) (n + (plan_accesses form + 0)) (omega arith)
      (kept_paced c scene top spaces shared Variable Read Own g around outer n l old s h.entity (offsets_of form) few own.0 own.1
      (reads_less c (kept_leveled shared outer h.entity (core_terms (known_in scene) n (terms (offsets_of form))) l) (n + plan_accesses form) (n + (plan_accesses form + 0)) (omega arith) reads) new next
      (subst (λ (i : ℕ). KeptTo scene around i h.entity (offsets_of form) (paths_counted top) old new next) same (subst (λ (i : ℕ). KeptTo scene around first h.entity (offsets_of form) i old new next) s.under.counted m)) agrees agree
      (λ k within. subst (λ (i : ℕ). KeepingSuits c.block scene around i (h ∷ hs) (offsets_of form)) same suits k (subst (λ (i : ℕ). k < i) (sym s.under.counted) within)))

  -- Parts of a block.

  -- the reads before the second part have their levels
  reads_before : (P : ℕ → Type 0) (n a b : ℕ) (l made : Levels) → LevelsGo P (n + a) b l made → ReadsAgree c made (n + (a + b)) → ReadsAgree c l (n + a)
  reads_before P n a b l made h reads = λ m s at less. sym (h.before_them m less) ∙ reads m s at (omega (arith, less))

  reads_behind : (n a b : ℕ) (made : Levels) → ReadsAgree c made (n + (a + b)) → ReadsAgree c made ((n + a) + b)
  reads_behind n a b made reads = reads_less c made ((n + a) + b) (n + (a + b)) (omega arith) reads

  own_next : (first n count own : ℕ) → first ≡ n → own ≡ first + count → own ≡ n + count
  own_next first n count own same is = omega (arith, same, is)

  few_behind : (n a b : ℕ) → n + (a + b) < 2 ^ 32 → (n + a) + b < 2 ^ 32
  few_behind n a b few = omega (arith, few)

  few_front : (n a b : ℕ) → n + (a + b) < 2 ^ 32 → n + a < 2 ^ 32
  few_front n a b few = omega (arith, few)

  -- An `if`.

  module _ (test : Term) (chosen : Action) (other : MaybeAction) (around : Around) (outer n : ℕ) (l : Levels) (old new : Building) (first next : ℕ) (same : first ≡ n)
      (m : MadeIf scene (λ a ts b d n k ls. MadeArm (MadeCommand scene chosen) a true ts b d n k ls) (MadeOther scene other) test around old new first next) (s : Stand around old outer n l)
      (few : n + (term_accesses test + (accesses_of chosen + other_accesses other)) < 2 ^ 32) (reaches : StoresReach chosen × StoresReachOther other)
      (suits : TestSuits c.block scene around first test
      × (CommandSuits c.block scene chosen m.chosen.arm m.chosen.begin m.chosen.inside m.own m.behind m.chosen.command × OtherSuits c.block scene other around m.tests m.after_chosen m.after_other m.behind next m.other_left m.other))
      (agrees : Agrees c.block new.draft) (agree : AgreeInTime c new.draft) where
    abbrev tested : Leveled
    tested = leveled scene shared outer n test l

    abbrev inner : ℕ
    inner = max outer tested.level

    abbrev n1 : ℕ
    n1 = n + term_accesses test

    abbrev n2 : ℕ
    n2 = n1 + accesses_of chosen

    abbrev behind_chosen : Levels
    behind_chosen = action_levels (known_in scene) shared inner n1 chosen tested.levels

    abbrev between : Levels
    between = between_arms (known_in scene) shared outer n test chosen l

    abbrev behind_other_arm : Levels
    behind_other_arm = other_levels (known_in scene) shared inner n2 other between

    abbrev made : Levels
    made = choice_levels tested (core_action (known_in scene) n1 chosen no_commands) (core_other (known_in scene) n2 other) behind_chosen behind_other_arm

    tested_go : LevelsThen n (term_accesses test) l tested
    tested_go = levels_behind scene shared outer test n l

    chosen_go : LevelsGo (IsReadIn (known_in scene) n1 chosen) n1 (accesses_of chosen) tested.levels behind_chosen
    chosen_go = action_go scene shared inner n1 chosen tested.levels reaches.0

    rest_go : LevelsGo (IsReadOther (known_in scene) n2 other) n2 (other_accesses other) between behind_other_arm
    rest_go = other_go scene shared inner n2 other between reaches.1

    few_test : first + term_accesses test < 2 ^ 32
    few_test = omega (arith, same, few)

    -- numbers
    own_is : m.own ≡ n1
    own_is = own_next first n (term_accesses test) m.own same (tests_number scene around first test few_test (paths_counted around) old m.tested m.own m.tests (some_around around old outer n l s) m.test).next_is

    tests_long : length m.tests ≡ paths_counted top
    tests_long = (tests_same scene around first test (paths_counted around) old m.tested m.own m.tests m.test).1 ∙ s.under.counted

    tested_values : m.tested.values ≡ old.values
    tested_values = (tests_same scene around first test (paths_counted around) old m.tested m.own m.tests m.test).0

    some_tests : 0 < length m.tests
    some_tests = subst (λ (i : ℕ). 0 < i) (sym tests_long) g.some

    chosen_reached : AreFew scene chosen m.chosen.arm m.chosen.begin m.chosen.inside m.own m.behind m.chosen.command × NumbersLaid m.chosen.begin m.chosen.inside m.own (accesses_of chosen) m.behind
    chosen_reached =
        command_reached scene chosen m.chosen.arm m.chosen.begin m.chosen.inside m.own m.behind m.chosen.command reaches.0
        (some_arm (MadeCommand scene chosen) around true m.tests m.tested m.after_chosen m.own m.behind m.chosen_left m.chosen some_tests) (few_first m.own n1 (accesses_of chosen) own_is (omega (arith, few)))

    behind_is : m.behind ≡ n2
    behind_is = own_next m.own n1 (accesses_of chosen) m.behind own_is chosen_reached.1.next_is

    -- what is formed
    abbrev Chosen : FormedBlock → Type 0
    Chosen x = CommandSuits x scene chosen m.chosen.arm m.chosen.begin m.chosen.inside m.own m.behind m.chosen.command

    chosen_formed : FormsCommand scene m.chosen.arm m.chosen.begin m.chosen.inside Chosen
    chosen_formed = command_forms scene chosen m.chosen.arm m.chosen.begin m.chosen.inside m.own m.behind m.chosen.command chosen_reached.0

    chosen_arm : FormsArm scene around m.tests m.tested m.after_chosen m.chosen_left Chosen
    chosen_arm = arm_forms scene (MadeCommand scene chosen) around true m.tests m.tested m.after_chosen m.own m.behind m.chosen_left m.chosen Chosen chosen_formed

    few_other : (o : MaybeAction) (b d : Building) (i j : ℕ) (ls : List Left) (w : MadeOther scene o around m.tests b d i j ls) → StoresReachOther o → i + other_accesses o < 2 ^ 32 → AreFewOther scene o around m.tests b d i j ls w
    few_other no_action b d i j ls w is small = tt
    few_other (one_action a) b d i j ls w is small = (command_reached scene a w.arm w.begin w.inside i j w.command is (some_arm (MadeCommand scene a) around false m.tests b d i j ls w some_tests) small).0

    abbrev Second : FormedBlock → Type 0
    Second x = OtherSuits x scene other around m.tests m.after_chosen m.after_other m.behind next m.other_left m.other

    other_arm : FormsArm scene around m.tests m.after_chosen m.after_other m.other_left Second
    other_arm =
        other_forms scene other around m.tests m.after_chosen m.after_other m.behind next m.other_left m.other
        (few_other other m.after_chosen m.after_other m.behind next m.other_left m.other reaches.1 (few_first m.behind n2 (other_accesses other) behind_is (omega (arith, few))))

    joins : FormsJoined m.tests m.chosen_left m.other_left m.after_other new
    joins = joins_form m.tests m.chosen_left m.other_left m.after_other new m.joined

    agrees_other : Agrees c.block m.after_other.draft
    agrees_other = agrees_before c.block m.after_other.draft new.draft joins.extends agrees

    agree_other : AgreeInTime c m.after_other.draft
    agree_other = agree_before c m.after_other.draft new.draft joins.extends agree

    agrees_chosen : Agrees c.block m.after_chosen.draft
    agrees_chosen = agrees_before c.block m.after_chosen.draft m.after_other.draft other_arm.extends agrees_other

    agree_chosen : AgreeInTime c m.after_chosen.draft
    agree_chosen = agree_before c m.after_chosen.draft m.after_other.draft other_arm.extends agree_other

    agrees_tested : Agrees c.block m.tested.draft
    agrees_tested = agrees_before c.block m.tested.draft m.after_chosen.draft chosen_arm.extends agrees_chosen

    agree_tested : AgreeInTime c m.tested.draft
    agree_tested = agree_before c m.tested.draft m.after_chosen.draft chosen_arm.extends agree_chosen

    tests_there : FormsTested c.block old m.tested m.tests
    tests_there =
        (tests_form scene around first test (paths_counted around) old m.tested m.own m.tests few_test suits.0.0 (omega arith) m.test).forms c.block agrees_tested s.started s.round s.noted s.held.held suits.0.1

    front : Extends old.draft m.tested.draft
    front = tests_extend scene around first test (paths_counted around) old m.tested m.own m.tests few_test m.test

    ready_tested : AreReady m.tested.values
    ready_tested = values_at scene top AreReady old.values m.tested.values tested_values s.held.ready

    long_tested : length m.tested.values.current.items ≡ spaces
    long_tested = ap (λ (v : Values). length v.current.items) tested_values ∙ s.long

    inner_few : inner ≤ tested.levels.most
    inner_few = let o = s.outer_few in let f = tested_go.more in let h = tested_go.level_few s.bounded in omega (arith, o, f, h)

    module _ (own : OwnsTerm c scene top spaces shared Variable Read Own outer n test × (OwnsIn c scene top spaces shared Variable Read Own inner n1 chosen tested.levels × OwnsOther c scene top spaces shared Variable Read Own inner n2 other between))
        (reads : ReadsAgree c made (n + (term_accesses test + (accesses_of chosen + other_accesses other)))) where
      reads_other : ReadsAgree c behind_other_arm (n2 + other_accesses other)
      reads_other = reads_less c behind_other_arm (n2 + other_accesses other) (n + (term_accesses test + (accesses_of chosen + other_accesses other))) (omega arith) reads

      reads_chosen : ReadsAgree c behind_chosen n2
      reads_chosen = λ i site at less. sym (rest_go.before_them i less) ∙ reads_other i site at (omega (arith, less))

      reads_tested : ReadsAgree c tested.levels n1
      reads_tested = λ i site at less. sym (chosen_go.before_them i less) ∙ reads_chosen i site at (omega (arith, less))

      tests_are : TestsPaced c scene top spaces shared Variable Read Own g around outer n l old s test (omega (arith, few)) own.0 reads_tested m.tested m.tests
      tests_are =
          tests_paced c scene top spaces shared Variable Read Own g around outer n l old s test (omega (arith, few)) own.0 reads_tested m.tested m.own m.tests
          (subst (λ (i : ℕ). MadeTests scene around i test (paths_counted top) old m.tested m.own m.tests) same (subst (λ (i : ℕ). MadeTests scene around first test i old m.tested m.own m.tests) s.under.counted m.test)) agrees_tested agree_tested
          (λ k within. subst (λ (i : ℕ). TermSuits c.block scene (lane_of around k) i test) same (suits.0.1 k (subst (λ (i : ℕ). k < i) (sym s.under.counted) within)))

      tested_stands : Stand around m.tested outer n1 tested.levels
      tested_stands = record {
        under = s.under;
        started = time_later c old.draft m.tested.draft front s.started;
        round = round_later c.block old.draft m.tested.draft scene around front s.round;
        noted = tests_there.there.notes;
        held = record {
          held = tests_there.there.held;
          ready = ready_tested;
          long = subst (λ (v : Values). length v.current.items ≤ length c.block.plan.registers) (sym tested_values) s.held.long;
        };
        long = long_tested;
        guards = s.guards;
        bounded = tested_go.bounded s.bounded;
        outer_few = let o = s.outer_few in let f = tested_go.more in omega (arith, o, f);
        in_time = tests_are.paces.in_time;
        current = tests_are.paces.current;
        given = tests_are.paces.given;
      }

      chosen_ended : FormsEnded c.block m.tested m.after_chosen m.chosen_left
      chosen_ended = chosen_arm.forms c.block agrees_chosen tested_stands.started tested_stands.round tests_there.truths tested_stands.noted tested_stands.held (tests_long ∙ sym s.under.counted) suits.1.0

      -- what the arms leave
      room_of : (May : ℕ → Type 0) → ((e : ℕ) → May e → IsTarget c scene top spaces shared Variable Read Own e) → (v : Values) → length v.current.items ≡ spaces → HaveRoom scene top May v
      room_of May targets v long = λ e i may within. let t = targets e may in subst (λ (k : ℕ). register_in scene top e i < k) (sym long) (g.room e i t.is t.no_counter within)

      chosen_targets : (e : ℕ) → IsAssignedIn (known_in scene) chosen e → IsTarget c scene top spaces shared Variable Read Own e
      chosen_targets e is = is_target c scene top spaces shared Variable Read Own inner n1 e chosen tested.levels own.1.0 is

      other_targets : (e : ℕ) → IsAssignedInOther (known_in scene) other e → IsTarget c scene top spaces shared Variable Read Own e
      other_targets e is = other_target c scene top spaces shared Variable Read Own inner n2 e other between own.1.1 is

      chosen_leaves : LeavesOf scene top (IsAssignedIn (known_in scene) chosen) m.tested.values m.after_chosen.values m.chosen.inside.values.current.items m.chosen_left
      chosen_leaves =
          arm_logged scene top (MadeCommand scene chosen) around true m.tests m.tested m.after_chosen m.own m.behind m.chosen_left m.chosen (IsAssignedIn (known_in scene) chosen)
          (command_logged scene top chosen m.chosen.arm m.chosen.begin m.chosen.inside m.own m.behind m.chosen.command
          (under_arm scene top (MadeCommand scene chosen) around true m.tests m.tested m.after_chosen m.own m.behind m.chosen_left m.chosen s.under tests_long)
          (values_at scene top AreReady m.tested.values m.chosen.begin.values m.chosen.begin_values ready_tested)
          (values_at scene top (HaveRoom scene top (IsAssignedIn (known_in scene) chosen)) m.tested.values m.chosen.begin.values m.chosen.begin_values (room_of (IsAssignedIn (known_in scene) chosen) chosen_targets m.tested.values long_tested)))

      ready_chosen : AreReady m.after_chosen.values
      ready_chosen = same_ready m.tested.values m.after_chosen.values chosen_leaves.same ready_tested

      long_chosen : length m.after_chosen.values.current.items ≡ spaces
      long_chosen = ap (λ (os : List (Option ℕ)). length os) chosen_leaves.same.current ∙ long_tested

      abbrev behind_two : List (Option ℕ)
      behind_two = behind_other scene top other around m.tests m.after_chosen m.after_other m.behind next m.other_left m.other

      other_leaves : LeavesOf scene top (IsAssignedInOther (known_in scene) other) m.after_chosen.values m.after_other.values behind_two m.other_left
      other_leaves = other_logged scene top other around m.tests m.after_chosen m.after_other m.behind next m.other_left m.other s.under tests_long ready_chosen (room_of (IsAssignedInOther (known_in scene) other) other_targets m.after_chosen.values long_chosen)

      -- the first arm
      chosen_stands : Agrees c.block m.chosen.begin.draft → AgreeInTime c m.chosen.begin.draft → Stand m.chosen.arm m.chosen.begin inner n1 tested.levels
      chosen_stands at_begin in_time =
          arm_stands c scene top spaces shared Variable Read Own g (MadeCommand scene chosen) around true m.tests m.tested m.after_chosen m.own m.behind m.chosen_left m.chosen Chosen chosen_formed n1 outer tested.level tested.levels tested_stands
          tests_there.truths tests_are.at tests_long (tested_go.level_few s.bounded) at_begin in_time

      agrees_inside : Agrees c.block m.chosen.inside.draft
      agrees_inside = subst (λ (d : Draft). Agrees c.block d) m.chosen.draft agrees_chosen

      agree_inside : AgreeInTime c m.chosen.inside.draft
      agree_inside = subst (λ (d : Draft). AgreeInTime c d) m.chosen.draft agree_chosen

      agrees_begin : Agrees c.block m.chosen.begin.draft
      agrees_begin = agrees_before c.block m.chosen.begin.draft m.chosen.inside.draft chosen_formed.extends agrees_inside

      agree_begin : AgreeInTime c m.chosen.begin.draft
      agree_begin = agree_before c m.chosen.begin.draft m.chosen.inside.draft chosen_formed.extends agree_inside

      chosen_arm_paced : Pace m.chosen.begin m.chosen.inside behind_chosen n2 → PacesArm c scene top spaces shared Variable Read Own m.tested m.after_chosen m.chosen.inside.values.current.items behind_chosen n2
      chosen_arm_paced p =
          arm_paced c scene top spaces shared Variable Read Own g (MadeCommand scene chosen) around true m.tests m.tested m.after_chosen m.own m.behind m.chosen_left m.chosen Chosen chosen_formed n1 outer tested.level tested.levels tested_stands
          tests_there.truths tests_are.at tests_long (tested_go.level_few s.bounded) behind_chosen n2 agree_begin chosen_go.more p

      -- where the second begins
      bounded_between : AreBounded between
      bounded_between =
          let b = chosen_go.bounded (tested_go.bounded s.bounded) in
          let t = tested_go.bounded s.bounded in
          record { variables = λ e. let v = t.variables e in let f = chosen_go.more in omega (arith, v, f); reads = b.reads }

      other_stands : PacesArm c scene top spaces shared Variable Read Own m.tested m.after_chosen m.chosen.inside.values.current.items behind_chosen n2 → Stand around m.after_chosen outer n2 between
      other_stands p = record {
        under = s.under;
        started = time_later c m.tested.draft m.after_chosen.draft chosen_arm.extends tested_stands.started;
        round = round_later c.block m.tested.draft m.after_chosen.draft scene around chosen_arm.extends tested_stands.round;
        noted = chosen_ended.there.notes;
        held = held_moved c.block m.tested.draft m.after_chosen.draft m.tested.values m.after_chosen.values tested_stands.held chosen_ended.there.held (chosen_arm.same ready_tested);
        long = long_chosen;
        guards = s.guards;
        bounded = bounded_between;
        outer_few = let o = tested_stands.outer_few in let f = chosen_go.more in omega (arith, o, f);
        in_time = p.in_time;
        current = subst (λ (os : List (Option ℕ)). AreCurrent c scene top spaces shared Variable Read Own os between) (sym chosen_leaves.same.current) tested_stands.current;
        given = p.given;
      }

      other_truths : TestsAreTruths c.block m.after_chosen.draft m.tests
      other_truths = truths_later c.block m.tested.draft m.after_chosen.draft m.tests chosen_arm.extends tests_there.truths

      pub if_paced : (Stand m.chosen.arm m.chosen.begin inner n1 tested.levels → Agrees c.block m.chosen.inside.draft → AgreeInTime c m.chosen.inside.draft → ReadsAgree c behind_chosen n2 → Pace m.chosen.begin m.chosen.inside behind_chosen n2)
          → (Stand around m.after_chosen outer n2 between → TestsAreTruths c.block m.after_chosen.draft m.tests → TestsAt c tested.level m.tests → length m.tests ≡ paths_counted top → tested.level ≤ between.most → Agrees c.block m.after_other.draft → AgreeInTime c m.after_other.draft
          → ReadsAgree c behind_other_arm (n2 + other_accesses other) → PacesArm c scene top spaces shared Variable Read Own m.after_chosen m.after_other behind_two behind_other_arm (n2 + other_accesses other))
          → Pace old new made (n + (term_accesses test + (accesses_of chosen + other_accesses other)))
      if_paced first_arm second_arm =
          let one = chosen_arm_paced (first_arm (chosen_stands agrees_begin agree_begin) agrees_inside agree_inside reads_chosen) in
          let level_few : tested.level ≤ between.most = let f = tested_go.level_few s.bounded in let h = chosen_go.more in omega (arith, f, h) in
          let two = second_arm (other_stands one) other_truths tests_are.at tests_long level_few agrees_other agree_other reads_other in
          let last =
          joined_paced c scene top spaces shared Variable Read Own g (IsAssignedIn (known_in scene) chosen) (IsAssignedInOther (known_in scene) other) m.tests tests_long m.chosen_left m.other_left m.tested.values m.after_other.values m.chosen.inside.values.current.items behind_two
          (same_ready m.after_chosen.values m.after_other.values other_leaves.same ready_chosen) (same_again m.tested.values m.after_chosen.values m.after_other.values chosen_leaves.same other_leaves.same) chosen_leaves.left
          (based scene top (IsAssignedInOther (known_in scene) other) m.tested.values.current.items m.after_chosen.values.current.items behind_two m.other_left chosen_leaves.same.current other_leaves.left) chosen_leaves.covers other_leaves.covers
          m.after_other new refl m.joined tested.level tests_are.at tested.levels behind_chosen behind_other_arm one.left two.left tested_stands.current (λ e is. by e is) (let h = rest_go.more in omega (arith, level_few, h))
          (λ e. let b = chosen_go.bounded (tested_go.bounded s.bounded) in let v = b.variables e in let h = rest_go.more in omega (arith, v, h)) (λ e. (rest_go.bounded bounded_between).variables e)
          (core_action (known_in scene) n1 chosen no_commands) (core_other (known_in scene) n2 other) (λ e is. assigned_by e is) (λ e isnt is. never e isnt is) (n2 + other_accesses other) agree
          (time_later c m.after_chosen.draft m.after_other.draft other_arm.extends (other_stands one).started) two.in_time two.given in
          paces_to old new made (n2 + other_accesses other) (n + (term_accesses test + (accesses_of chosen + other_accesses other))) (omega arith)
          (record {
            within =
                within_again c old.draft m.tested.draft new.draft tested.levels.most behind_other_arm.most (let f = chosen_go.more in let h = rest_go.more in omega (arith, f, h)) tests_are.paces.within
                (within_again c m.tested.draft m.after_chosen.draft new.draft behind_chosen.most behind_other_arm.most rest_go.more one.within
                (within_again c m.after_chosen.draft m.after_other.draft new.draft behind_other_arm.most behind_other_arm.most (omega arith) two.within last.within));
            in_time = last.in_time;
            current = last.current;
            given = last.given;
          })
        where
          by : (e : ℕ) → IsAssignedIn (known_in scene) chosen e ⊎ IsAssignedInOther (known_in scene) other e → IsTarget c scene top spaces shared Variable Read Own e
          by e (inl is) = chosen_targets e is
          by e (inr is) = other_targets e is

          split : (e : ℕ) → (any_assigns e (core_action (known_in scene) n1 chosen no_commands) ≡ true) ⊎ (any_assigns e (core_other (known_in scene) n2 other) ≡ true) → IsAssignedIn (known_in scene) chosen e ⊎ IsAssignedInOther (known_in scene) other e
          split e (inl is) = inl (true_assigned scene n1 e chosen is)
          split e (inr is) = inr (true_other scene n2 e other is)

          assigned_by : (e : ℕ) → (any_assigns e (core_action (known_in scene) n1 chosen no_commands) || any_assigns e (core_other (known_in scene) n2 other)) ≡ true → IsAssignedIn (known_in scene) chosen e ⊎ IsAssignedInOther (known_in scene) other e
          assigned_by e is = split e (true_or (any_assigns e (core_action (known_in scene) n1 chosen no_commands)) (any_assigns e (core_other (known_in scene) n2 other)) is)

          clash : (b : Truth) → b ≡ false → b ≡ true → ⊥
          clash true p q = absurd (cc)
          clash false p q = cc

          never : (e : ℕ) → (any_assigns e (core_action (known_in scene) n1 chosen no_commands) || any_assigns e (core_other (known_in scene) n2 other)) ≡ false → IsAssignedIn (known_in scene) chosen e ⊎ IsAssignedInOther (known_in scene) other e → ⊥
          never e isnt (inl is) = clash _ isnt (or_true _ _ (inl (assigned_true scene n1 e chosen is)))
          never e isnt (inr is) = clash _ isnt (or_true _ _ (inr (other_true scene n2 e other is)))

  -- All commands.

  -- an arm that has a command
  arm_with : (a : Action) (holds : Truth) (around : Around) (tests : List ℕ) (old new : Building) (first next : ℕ) (lefts : List Left) (m : MadeArm (MadeCommand scene a) around holds tests old new first next lefts) (n : ℕ) → first ≡ n → StoresReach a
      → n + accesses_of a < 2 ^ 32 → (outer level : ℕ) (l : Levels) (s : Stand around old outer n l) → TestsAreTruths c.block old.draft tests → TestsAt c level tests → length tests ≡ paths_counted top → level ≤ l.most
      → Agrees c.block new.draft → AgreeInTime c new.draft
      → (Stand m.arm m.begin (max outer level) n l → Agrees c.block m.inside.draft → AgreeInTime c m.inside.draft
      → Pace m.begin m.inside (action_levels (known_in scene) shared (max outer level) n a l) (n + accesses_of a))
      → PacesArm c scene top spaces shared Variable Read Own old new m.inside.values.current.items (action_levels (known_in scene) shared (max outer level) n a l) (n + accesses_of a)
  arm_with a holds around tests old new first next lefts m n same reaches few outer level l s truths at long level_few agrees agree inner =
      arm_paced c scene top spaces shared Variable Read Own g (MadeCommand scene a) around holds tests old new first next lefts m _ formed n outer level l s truths at long level_few (action_levels (known_in scene) shared (max outer level) n a l) (n + accesses_of a) agree_begin
      (action_go scene shared (max outer level) n a l reaches).more
      (inner (arm_stands c scene top spaces shared Variable Read Own g (MadeCommand scene a) around holds tests old new first next lefts m _ formed n outer level l s truths at long level_few (agrees_before c.block m.begin.draft m.inside.draft formed.extends agrees_inside) agree_begin)
      agrees_inside agree_inside)
    where
      some_paths : 0 < paths_counted m.arm
      some_paths = some_arm (MadeCommand scene a) around holds tests old new first next lefts m (subst (λ (i : ℕ). 0 < i) (sym long) g.some)

      formed : FormsCommand scene m.arm m.begin m.inside (λ x. CommandSuits x scene a m.arm m.begin m.inside first next m.command)
      formed = command_forms scene a m.arm m.begin m.inside first next m.command (command_reached scene a m.arm m.begin m.inside first next m.command reaches some_paths (few_first first n (accesses_of a) same few)).0

      agrees_inside : Agrees c.block m.inside.draft
      agrees_inside = subst (λ (d : Draft). Agrees c.block d) m.draft agrees

      agree_inside : AgreeInTime c m.inside.draft
      agree_inside = subst (λ (d : Draft). AgreeInTime c d) m.draft agree

      agree_begin : AgreeInTime c m.begin.draft
      agree_begin = agree_before c m.begin.draft m.inside.draft formed.extends agree_inside

  mutual
    pub command_paced : (a : Action) (around : Around) (old new : Building) (first next : ℕ) (m : MadeCommand scene a around old new first next) (n : ℕ) → first ≡ n → StoresReach a → n + accesses_of a < 2 ^ 32
        → CommandSuits c.block scene a around old new first next m → (outer : ℕ) (l : Levels) → Stand around old outer n l → OwnsIn c scene top spaces shared Variable Read Own outer n a l
        → ReadsAgree c (action_levels (known_in scene) shared outer n a l) (n + accesses_of a) → Agrees c.block new.draft → AgreeInTime c new.draft
        → Pace old new (action_levels (known_in scene) shared outer n a l) (n + accesses_of a)
    command_paced (action id place (lets name declared (Some value))) around old new first next m n same reaches few suits outer l s own reads agrees agree =
        assigned_here around outer n l old new first next same s agrees agree (entity_number name.entity) value m few suits own reads
    command_paced (action id place (lets name declared None)) around old new first next m n same reaches few suits outer l s own reads agrees agree =
        cleared_here around outer n l old new first next same s agrees agree (entity_number name.entity) m suits own
    command_paced (action id place (assigns target value)) around old new first next m n same reaches few suits outer l s own reads agrees agree =
        assigned_here around outer n l old new first next same s agrees agree (entity_number target.entity) value m few suits own reads
    command_paced (action id place (stores target value)) around old new first next m n same reaches few suits outer l s own reads agrees agree =
        stored_here around outer n l old new first next same s agrees agree target value m few suits own reads
    command_paced (action id place (reduces target op value)) around old new first next m n same reaches few suits outer l s own reads agrees agree =
        reduced_here around outer n l old new first next same s agrees agree target op value m few suits own reads
    command_paced (action id place (decides test chosen other)) around old new first next m n same reaches few suits outer l s own reads agrees agree =
        if_paced test chosen other around outer n l old new first next same m s few reaches suits agrees agree own reads
        (λ stands at in_time told.
        command_paced chosen m.chosen.arm m.chosen.begin m.chosen.inside m.own m.behind m.chosen.command (n + term_accesses test) (own_is test chosen other around outer n l old new first next same m s few reaches suits agrees agree) reaches.0
        (omega (arith, few)) suits.1.0 (max outer (leveled scene shared outer n test l).level) (leveled scene shared outer n test l).levels stands own.1.0 told at in_time)
        (λ stands truths at long level_few here in_time told.
        other_paced other around m.tests m.after_chosen m.after_other m.behind next m.other_left m.other (n + term_accesses test + accesses_of chosen)
        (behind_is test chosen other around outer n l old new first next same m s few reaches suits agrees agree) reaches.1 (omega (arith, few)) suits.1.1 outer (leveled scene shared outer n test l).level
        (between_arms (known_in scene) shared outer n test chosen l) stands truths at long level_few own.1.1 told here in_time)
    command_paced (action id place (blocks body)) around old new first next m n same reaches few suits outer l s own reads agrees agree =
        paces_to old new (groups_levels (known_in scene) shared outer n body l) (n + groups_accesses body) (n + (0 + groups_accesses body)) (omega arith)
        (groups_paced body around old new first next m n same reaches (omega (arith, few)) suits outer l s own
        (reads_less c (groups_levels (known_in scene) shared outer n body l) (n + groups_accesses body) (n + (0 + groups_accesses body)) (omega arith) reads) agrees agree)
    command_paced (action id place (lets_memory name shape shape_places value)) around old new first next m n same reaches few suits outer l s own reads agrees agree = still_paced around old new outer n 0 l m.still (λ i h read. none_in n i h read) s
    command_paced (action id place (views name parent form)) around old new first next m n same reaches few suits outer l s own reads agrees agree =
        let hs : List Hidden = hidden_in (way_of (known_in scene) name) in
        let split : action_levels (known_in scene) shared outer n (action id place (views name parent form)) l ≡ keeping_levels scene shared hs outer n (offsets_of form) l = view_leveled scene shared hs outer n (offsets_of form) l in
        paces_as old new (keeping_levels scene shared hs outer n (offsets_of form) l) (action_levels (known_in scene) shared outer n (action id place (views name parent form)) l) (n + (plan_accesses form + 0)) (sym split)
        (view_paced hs form around old new first next m n same (omega (arith, few)) suits outer l s own (subst (λ (w : Levels). ReadsAgree c w (n + (plan_accesses form + 0))) split reads) agrees agree)
    command_paced (action id place (calls function arguments)) around old new first next m n same reaches few suits outer l s own reads agrees agree = still_paced around old new outer n 0 l m.still (λ i h read. none_in n i h read) s
    command_paced (action id place (repeats test body)) around old new first next m n same reaches few suits outer l s own reads agrees agree =
        still_paced around old new outer n (term_accesses test + accesses_of body) l m.still (λ i h read. own i h read) s
    command_paced (action id place (counts iterator declared low high factor body combine combine_place)) around old new first next m n same reaches few suits outer l s own reads agrees agree =
        still_paced around old new outer n (0 + (accesses_of body + other_accesses combine)) l m.still (λ i h read. own i (h.0, let b = h.1 in omega (arith, b)) read) s

    other_paced : (other : MaybeAction) (around : Around) (tests : List ℕ) (old new : Building) (first next : ℕ) (lefts : List Left) (m : MadeOther scene other around tests old new first next lefts) (n : ℕ) → first ≡ n → StoresReachOther other
        → n + other_accesses other < 2 ^ 32 → OtherSuits c.block scene other around tests old new first next lefts m → (outer level : ℕ) (l : Levels) → Stand around old outer n l → TestsAreTruths c.block old.draft tests → TestsAt c level tests
        → length tests ≡ paths_counted top → level ≤ l.most → OwnsOther c scene top spaces shared Variable Read Own (max outer level) n other l → ReadsAgree c (other_levels (known_in scene) shared (max outer level) n other l) (n + other_accesses other)
        → Agrees c.block new.draft → AgreeInTime c new.draft
        → PacesArm c scene top spaces shared Variable Read Own old new (behind_other scene top other around tests old new first next lefts m) (other_levels (known_in scene) shared (max outer level) n other l) (n + other_accesses other)
    other_paced no_action around tests old new first next lefts m n same reaches few suits outer level l s truths at long level_few own reads agrees agree =
        let p : Pace old new l (n + 0) = still_paced around old new outer n 0 l m.still (λ i h read. none_in n i h read) s in
        record { within = p.within; in_time = p.in_time; given = p.given; left = s.current }
    other_paced (one_action a) around tests old new first next lefts m n same reaches few suits outer level l s truths at long level_few own reads agrees agree =
        arm_with a false around tests old new first next lefts m n same reaches few outer level l s truths at long level_few agrees agree
        (λ stands here in_time. command_paced a m.arm m.begin m.inside first next m.command n same reaches few suits (max outer level) l stands own reads here in_time)

    pub part_paced : (part : Actions) (around : Around) (old new : Building) (first next : ℕ) (m : MadeActions scene part around old new first next) (n : ℕ) → first ≡ n → StoresReachPart part → n + part_accesses part < 2 ^ 32
        → ActionsSuit c.block scene part around old new first next m → (outer : ℕ) (l : Levels) → Stand around old outer n l → OwnsPart c scene top spaces shared Variable Read Own outer n part l
        → ReadsAgree c (part_levels (known_in scene) shared outer n part l) (n + part_accesses part) → Agrees c.block new.draft → AgreeInTime c new.draft
        → Pace old new (part_levels (known_in scene) shared outer n part l) (n + part_accesses part)
    part_paced no_actions around old new first next m n same reaches few suits outer l s own reads agrees agree = still_paced around old new outer n 0 l m.still (λ i h read. none_in n i h read) s
    part_paced (action_then a rest) around old new first next m n same reaches few suits outer l s own reads agrees agree =
        let k : ℕ = n + accesses_of a in
        let la : Levels = action_levels (known_in scene) shared outer n a l in
        let lr : Levels = part_levels (known_in scene) shared outer k rest la in
        let split : part_levels (known_in scene) shared outer n (action_then a rest) l ≡ lr = action_then_levels (known_in scene) n a (core_part (known_in scene) k rest no_commands) shared outer l in
        let told : ReadsAgree c lr (n + (accesses_of a + part_accesses rest)) = subst (λ (w : Levels). ReadsAgree c w (n + (accesses_of a + part_accesses rest))) split reads in
        let rest_go : LevelsGo (IsReadPart (known_in scene) k rest) k (part_accesses rest) la lr = part_go scene shared outer k rest la reaches.1 in
        let one_go : LevelsGo (IsReadIn (known_in scene) n a) n (accesses_of a) l la = action_go scene shared outer n a l reaches.0 in
        let reached = command_reached scene a around old m.middle first m.own m.one reaches.0 (some_around around old outer n l s) (few_first first n (accesses_of a) same (few_front n (accesses_of a) (part_accesses rest) few)) in
        let own_is : m.own ≡ k = own_next first n (accesses_of a) m.own same reached.1.next_is in
        let f : FormsCommand scene around old m.middle (λ x. CommandSuits x scene a around old m.middle first m.own m.one) = command_forms scene a around old m.middle first m.own m.one reached.0 in
        let more : Extends m.middle.draft new.draft =
        (actions_form scene rest around m.middle new m.own next m.rest (actions_reached scene rest around m.middle new m.own next m.rest reaches.1 (some_around around old outer n l s) (few_first m.own k (part_accesses rest) own_is (few_behind n (accesses_of a) (part_accesses rest) few))).0).extends in
        let agrees_middle : Agrees c.block m.middle.draft = agrees_before c.block m.middle.draft new.draft more agrees in
        let p : Pace old m.middle la k =
        command_paced a around old m.middle first m.own m.one n same reaches.0 (few_front n (accesses_of a) (part_accesses rest) few) suits.0 outer l s own.0
        (reads_before (IsReadPart (known_in scene) k rest) n (accesses_of a) (part_accesses rest) la lr rest_go told) agrees_middle (agree_before c m.middle.draft new.draft more agree) in
        let q : Pace m.middle new lr (k + part_accesses rest) =
        part_paced rest around m.middle new m.own next m.rest k own_is reaches.1 (few_behind n (accesses_of a) (part_accesses rest) few) suits.1 outer la
        (stands_then around old m.middle outer n k l la _ s f agrees_middle suits.0 one_go.bounded one_go.more p) own.1 (reads_behind n (accesses_of a) (part_accesses rest) lr told) agrees agree in
        paces_as old new lr _ (n + (accesses_of a + part_accesses rest)) (sym split)
        (paces_to old new lr (k + part_accesses rest) (n + (accesses_of a + part_accesses rest)) (omega arith) (both_paced old m.middle new la lr k (k + part_accesses rest) rest_go.more p q))

    pub groups_paced : (body : Groups) (around : Around) (old new : Building) (first next : ℕ) (m : MadeGroups scene body around old new first next) (n : ℕ) → first ≡ n → StoresReachGroups body → n + groups_accesses body < 2 ^ 32
        → GroupsSuit c.block scene body around old new first next m → (outer : ℕ) (l : Levels) → Stand around old outer n l → OwnsGroups c scene top spaces shared Variable Read Own outer n body l
        → ReadsAgree c (groups_levels (known_in scene) shared outer n body l) (n + groups_accesses body) → Agrees c.block new.draft → AgreeInTime c new.draft
        → Pace old new (groups_levels (known_in scene) shared outer n body l) (n + groups_accesses body)
    groups_paced no_groups around old new first next m n same reaches few suits outer l s own reads agrees agree = still_paced around old new outer n 0 l m.still (λ i h read. none_in n i h read) s
    groups_paced (group_then part rest) around old new first next m n same reaches few suits outer l s own reads agrees agree =
        let k : ℕ = n + part_accesses part in
        let la : Levels = part_levels (known_in scene) shared outer n part l in
        let lr : Levels = groups_levels (known_in scene) shared outer k rest la in
        let split : groups_levels (known_in scene) shared outer n (group_then part rest) l ≡ lr = part_then_levels (known_in scene) n part (core_groups (known_in scene) k rest no_commands) shared outer l in
        let told : ReadsAgree c lr (n + (part_accesses part + groups_accesses rest)) = subst (λ (w : Levels). ReadsAgree c w (n + (part_accesses part + groups_accesses rest))) split reads in
        let rest_go : LevelsGo (IsReadGroups (known_in scene) k rest) k (groups_accesses rest) la lr = groups_go scene shared outer k rest la reaches.1 in
        let one_go : LevelsGo (IsReadPart (known_in scene) n part) n (part_accesses part) l la = part_go scene shared outer n part l reaches.0 in
        let reached = actions_reached scene part around old m.middle first m.own m.one reaches.0 (some_around around old outer n l s) (few_first first n (part_accesses part) same (few_front n (part_accesses part) (groups_accesses rest) few)) in
        let own_is : m.own ≡ k = own_next first n (part_accesses part) m.own same reached.1.next_is in
        let f : FormsCommand scene around old m.middle (λ x. ActionsSuit x scene part around old m.middle first m.own m.one) = actions_form scene part around old m.middle first m.own m.one reached.0 in
        let more : Extends m.middle.draft new.draft =
        (groups_form scene rest around m.middle new m.own next m.rest (groups_reached scene rest around m.middle new m.own next m.rest reaches.1 (some_around around old outer n l s) (few_first m.own k (groups_accesses rest) own_is (few_behind n (part_accesses part) (groups_accesses rest) few))).0).extends in
        let agrees_middle : Agrees c.block m.middle.draft = agrees_before c.block m.middle.draft new.draft more agrees in
        let p : Pace old m.middle la k =
        part_paced part around old m.middle first m.own m.one n same reaches.0 (few_front n (part_accesses part) (groups_accesses rest) few) suits.0 outer l s own.0
        (reads_before (IsReadGroups (known_in scene) k rest) n (part_accesses part) (groups_accesses rest) la lr rest_go told) agrees_middle (agree_before c m.middle.draft new.draft more agree) in
        let q : Pace m.middle new lr (k + groups_accesses rest) =
        groups_paced rest around m.middle new m.own next m.rest k own_is reaches.1 (few_behind n (part_accesses part) (groups_accesses rest) few) suits.1 outer la
        (stands_then around old m.middle outer n k l la _ s f agrees_middle suits.0 one_go.bounded one_go.more p) own.1 (reads_behind n (part_accesses part) (groups_accesses rest) lr told) agrees agree in
        paces_as old new lr _ (n + (part_accesses part + groups_accesses rest)) (sym split)
        (paces_to old new lr (k + groups_accesses rest) (n + (part_accesses part + groups_accesses rest)) (omega arith) (both_paced old m.middle new la lr k (k + groups_accesses rest) rest_go.more p q))

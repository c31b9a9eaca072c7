-- Tests at one path after the other, all there at one level; and the guards of arms, at the greatest of this level and of
-- that of the tests round them.
use Rattle.std.proofs.Common.{◌≡◌, ◌⊎◌, inl, inr, ℕ, zero, suc, ◌+◌, ◌^◌, ◌<◌, ◌≤◌, true, false, Some, None, Option, List, [], ◌∷◌, ◌++◌, length, refl, sym, ap, ◌∙◌, subst, arith}
use Rattle.std.specs.Prelude.{Bool as Truth, max, slice_get}
use Rattle.dh_value.specs.declared.operators.Op.TheVariants.{Both}
use Rattle.dh_value.specs.Operations.{truth}
use Rattle.dh_tree.specs.PlainTrees.{Term}
use Rattle.dh_meaning.specs.AccessNumbers.{term_accesses}
use Rattle.dh_meaning.specs.Levels.{Leveled, Levels}
use Rattle.dh_code.specs.Slots.{held_at}
use Rattle.dh_expressions.specs.declared.drafts.Draft.{Draft}
use Rattle.dh_expressions.specs.declared.scenes.Around.{Around}
use Rattle.dh_expressions.specs.declared.scenes.Scene.{Scene}
use Rattle.dh_expressions.specs.Drafted.{Extends}
use Rattle.dh_expressions.specs.Evaluated.{counter_of}
use Rattle.dh_expressions.specs.Shown.{guard_of, kind_written}
use Rattle.dh_expressions.proofs.ListPlaces.{place_of_more}
use Rattle.dh_expressions.proofs.Pushing.{extends_again}
use Rattle.dh_formed.specs.Formed.{Agrees, FormsTerm, TermSuits}
use Rattle.dh_formed.specs.Timed.{AgreeInTime, BlockClocks, GuardAt, HasClock, LevelsThen, ReadsAgree, StartedInTime, TimesValue, VariableAt, Within, leveled}
use Rattle.dh_formed.proofs.CommandsFormed.{selects_in_time}
use Rattle.dh_formed.proofs.LevelsBehind.{levels_behind}
use Rattle.dh_formed.proofs.ReadsTimed.{guard_there}
use Rattle.dh_formed.proofs.TermsFormed.{formed}
use Rattle.dh_formed.proofs.ValuesFormed.{agrees_before}
use Rattle.dh_formed.proofs.ValuesTimed.{agree_before, compute_timed, time_later, within_again, within_none, word_timed}
use Rattle.dh_commands.specs.declared.assignments.Values.{Values}
use Rattle.dh_commands.specs.declared.buildings.Building.{Building}
use Rattle.dh_commands.specs.LanesRun.{lane_of, paths_counted}
use Rattle.dh_commands.specs.MadeCommands.{MadeArmGuard, MadeArmGuards, MadeGuard, MadeNot, MadeOutcome, MadeTested, MadeTests}
use Rattle.dh_laid.specs.Laid.{AreHeld}
use Rattle.dh_laid.proofs.ArmsLaid.{arm_guards_form}
use Rattle.dh_laid.proofs.ValuesLaid.{held_later}
use Rattle.dh_paced.specs.Standing.{AreCurrent, IsGround, OwnsTerm, Paces, StandsFor}
use Rattle.dh_paced.proofs.AssigningPaced.{entity_under}
use Rattle.dh_paced.proofs.LanesPaced.{AtLane, given_end, given_more, lane_begin, lane_here, lane_next}
use Rattle.dh_paced.proofs.LeavesPaced.{IsHere, TermHere, term_here, value_then, value_there, value_where}

-- Guards of arms.

not_timed : (test level : ℕ) (old new : Draft) (v : ℕ) → MadeNot test old new v → TimesValue old new v (λ c. HasClock c level test) (λ c. level)
not_timed test level old new v m =
    value_then old m.first new m.no_value v (λ c. HasClock c level test) (λ c. 0) (λ c. level) (λ c w. least level)
    (value_where old m.first m.no_value (λ c. Unit {0}) (λ c. HasClock c level test) (λ c. 0) (λ c. 0) (λ c w. tt) (λ c w. refl) (word_timed old m.first m.no_value (truth false) m.no_made))
    (value_then m.first m.second new m.yes_value v (λ c. HasClock c level test × HasClock c 0 m.no_value) (λ c. 0) (λ c. level) (λ c w. least level)
    (value_where m.first m.second m.yes_value (λ c. Unit {0}) (λ c. HasClock c level test × HasClock c 0 m.no_value) (λ c. 0) (λ c. 0) (λ c w. tt) (λ c w. refl) (word_timed m.first m.second m.yes_value (truth true) m.yes_made))
    (value_where m.second new v (λ c. HasClock c level test × (HasClock c 0 m.no_value × HasClock c 0 m.yes_value)) (λ c. (HasClock c level test × HasClock c 0 m.no_value) × HasClock c 0 m.yes_value) (λ c. max level (max 0 0)) (λ c. level)
    (λ c w. (w.0.0, (w.0.1, w.1))) (λ c w. alone level) (selects_in_time m.second new v test m.no_value m.yes_value (λ c. level) (λ c. 0) (λ c. 0) m.pushes)))
  where
    least : (n : ℕ) → 0 ≤ n
    least n = omega arith

    alone : (n : ℕ) → max n (max 0 0) ≡ n
    alone n = omega arith

outcome_timed : (holds : Truth) (test level : ℕ) (old new : Draft) (v : ℕ) → MadeOutcome holds test old new v → TimesValue old new v (λ c. HasClock c level test) (λ c. level)
outcome_timed true test level old new v m = value_there old new test v (λ c. HasClock c level test) (λ c. level) m (λ c w. w)
outcome_timed false test level old new v m = not_timed test level old new v m

joined_timed : (guard : Option ℕ) (t outer level : ℕ) (old new : Draft) (v : ℕ) → MadeGuard guard t old new v → TimesValue old new v (λ c. GuardAt c outer guard × HasClock c level t) (λ c. max outer level)
joined_timed None t outer level old new v m = value_there old new t v (λ c. GuardAt c outer None × HasClock c level t) (λ c. max outer level) m (λ c w. w.1 ∙ none outer level w.0)
  where
    none : (a b : ℕ) → a ≡ 0 → b ≡ max a b
    none a b e = omega (arith, e)
joined_timed (Some g) t outer level old new v m = compute_timed old new v g t Both (λ c. outer) (λ c. level) m

guard_timed : (holds : Truth) (guard : Option ℕ) (test outer level : ℕ) (old new : Draft) (v : ℕ) → MadeArmGuard holds guard test old new v → TimesValue old new v (λ c. GuardAt c outer guard × HasClock c level test) (λ c. max outer level)
guard_timed holds guard test outer level old new v m =
    value_then old m.middle new m.outcome v (λ c. GuardAt c outer guard × HasClock c level test) (λ c. level) (λ c. max outer level) (λ c w. few outer level)
    (value_where old m.middle m.outcome (λ c. HasClock c level test) (λ c. GuardAt c outer guard × HasClock c level test) (λ c. level) (λ c. level) (λ c w. w.1) (λ c w. refl) (outcome_timed holds test level old m.middle m.outcome m.comes_out))
    (value_where m.middle new v (λ c. GuardAt c outer guard × HasClock c level m.outcome) (λ c. (GuardAt c outer guard × HasClock c level test) × HasClock c level m.outcome) (λ c. max outer level) (λ c. max outer level)
    (λ c w. (w.0.0, w.1)) (λ c w. refl) (joined_timed guard m.outcome outer level m.middle new v m.joins))
  where
    few : (a b : ℕ) → b ≤ max a b
    few a b = omega arith

abbrev pub TestsAt : BlockClocks → (level : ℕ) → List ℕ → Type 0
TestsAt c level tests = (path test : ℕ) → slice_get tests path ≡ Some test → HasClock c level test

abbrev pub GuardsAt : BlockClocks → (outer : ℕ) → List (Option ℕ) → Type 0
GuardsAt c outer guards = (path : ℕ) (guard : Option ℕ) → slice_get guards path ≡ Some guard → GuardAt c outer guard

nothing_at : {A : Type 0} (path : ℕ) (x : A) → slice_get [] path ≡ Some x → ⊥
nothing_at path x at = cc

module _ (c : BlockClocks) (outer level : ℕ) where
  pub record GuardsPaced (old new : Draft) (arm : List (Option ℕ)) : Type 0 where
    pub within : Within c old new (max outer level)
    pub at : GuardsAt c (max outer level) arm

  pub guards_paced : (holds : Truth) (guards : List (Option ℕ)) (tests : List ℕ) (count : ℕ) (old new : Draft) (arm : List (Option ℕ)) → MadeArmGuards holds guards tests count old new arm → count ≤ length guards
      → AgreeInTime c new → StartedInTime c old → GuardsAt c outer guards → TestsAt c level tests → GuardsPaced old new arm
  guards_paced holds guards tests zero old new arm m few agree started all at = record {
    within = within_none c old new (max outer level) m.0;
    at = λ path guard here. absurd (nothing_at path guard (subst (λ (gs : List (Option ℕ)). slice_get gs path ≡ Some guard) m.1 here));
  }
  guards_paced holds guards tests (suc n) old new arm m few agree started all at =
      further (guard_timed holds (guard_of guards n) m.1.1.0 outer level m.0 new m.1.1.1.0 m.1.1.1.1.1.1.0)
      (λ before. guards_paced holds guards tests n old m.0 m.1.0 m.1.1.1.1.0 (omega (arith, few)) before started all at)
    where
      further : TimesValue m.0 new m.1.1.1.0 (λ d. GuardAt d outer (guard_of guards n) × HasClock d level m.1.1.0) (λ d. max outer level) → (AgreeInTime c m.0 → GuardsPaced old m.0 m.1.0) → GuardsPaced old new arm
      further one rest =
          let front : Extends old m.0 = (arm_guards_form holds guards tests n old m.0 m.1.0 m.1.1.1.1.0).extends in
          let before : GuardsPaced old m.0 m.1.0 = rest (agree_before c m.0 new one.extends agree) in
          let w : GuardAt c outer (guard_of guards n) × HasClock c level m.1.1.0 = (guard_there c outer guards n (omega (arith, few)) all, at n m.1.1.0 m.1.1.1.1.1.0) in
          record {
            within = within_again c old m.0 new (max outer level) (max outer level) (omega arith) before.within (one.within c agree (time_later c old m.0 front started) w);
            at = λ path guard here.
                by path guard before.at (one.at c agree (time_later c old m.0 front started) w)
                (place_of_more m.1.0 (Some m.1.1.1.0) guard path (subst (λ (gs : List (Option ℕ)). slice_get gs path ≡ Some guard) m.1.1.1.1.1.1.1 here));
          }
        where
          by : (path : ℕ) (guard : Option ℕ) → GuardsAt c (max outer level) m.1.0 → HasClock c (max outer level) m.1.1.1.0 → (slice_get m.1.0 path ≡ Some guard) ⊎ ((path ≡ length m.1.0) × (guard ≡ Some m.1.1.1.0)) → GuardAt c (max outer level) guard
          by path guard before own (inl here) = before path guard here
          by path guard before own (inr last) = subst (λ (o : Option ℕ). GuardAt c (max outer level) o) (sym last.1) own

-- Tests.

module _ (c : BlockClocks) (scene : Scene) (top : Around) (spaces : ℕ) (shared : ℕ → Option ℕ) (Variable Read Own : ℕ → Type 0) (g : IsGround c scene top spaces shared Variable Read Own)
    (around : Around) (outer first : ℕ) (l : Levels) (old : Building) (s : StandsFor c scene top spaces shared Variable Read Own around old outer first l)
    (t : Term) (few : first + term_accesses t < 2 ^ 32) (own : OwnsTerm c scene top spaces shared Variable Read Own outer first t) (reads : ReadsAgree c (leveled scene shared outer first t l).levels (first + term_accesses t)) where
  abbrev tested : Leveled
  tested = leveled scene shared outer first t l

  behind : LevelsThen first (term_accesses t) l tested
  behind = levels_behind scene shared outer t first l

  abbrev Here : (k : ℕ) → Building → Type 0
  Here k b = AtLane c scene top spaces shared Variable Read Own g around outer first l old s tested.levels.most (term_accesses t) (term_accesses t) (λ current. AreCurrent c scene top spaces shared Variable Read Own current l) k b

  record TestsHere (k : ℕ) (b : Building) (tests : List ℕ) : Type 0 where
    here : Here k b
    at : TestsAt c tested.level tests

  tests_here : (count : ℕ) (new : Building) (next : ℕ) (tests : List ℕ) → count ≤ paths_counted top → MadeTests scene around first t count old new next tests → Agrees c.block new.draft → AgreeInTime c new.draft
      → ((k : ℕ) → k < paths_counted top → TermSuits c.block scene (lane_of around k) first t) → TestsHere count new tests
  tests_here zero new next tests within m agrees agree suits = record {
    here = lane_begin c scene top spaces shared Variable Read Own g around outer first l old s tested.levels.most (term_accesses t) (term_accesses t) (λ current. AreCurrent c scene top spaces shared Variable Read Own current l) own.are.own s.current new m.0;
    at = λ path test here. absurd (nothing_at path test (subst (λ (ts : List ℕ). slice_get ts path ≡ Some test) m.1.1 here));
  }
  tests_here (suc n) new next tests within m agrees agree suits = further m.0 m.1.1.0 m.1.1.1.0 m.1.1.1.1.1.0 m.1.1.1.1.1.1 (tests_here n m.0 m.1.0 m.1.1.0 (omega (arith, within)) m.1.1.1.1.0)
    where
      less : n < paths_counted top
      less = omega (arith, within)

      further : (b : Building) (before : List ℕ) (v : ℕ) → MadeTested scene (lane_of around n) first t b new next v → tests ≡ before ++ v ∷ []
          → (Agrees c.block b.draft → AgreeInTime c b.draft → ((k : ℕ) → k < paths_counted top → TermSuits c.block scene (lane_of around k) first t) → TestsHere n b before) → TestsHere (suc n) new tests
      further b before v one is front =
          let part : FormsTerm scene (lane_of around n) b.values.current.items b.draft new.draft b.accesses new.accesses v (λ x. TermSuits x scene (lane_of around n) first t) (kind_written t) =
          formed scene (lane_of around n) b.values.current.items t b.draft new.draft b.accesses new.accesses first next v one.term few in
          let f : TestsHere n b before = front (agrees_before c.block b.draft new.draft part.part.extends agrees) (agree_before c b.draft new.draft part.part.extends agree) suits in
          let h : IsHere c scene top spaces shared Variable Read Own g (lane_of around n) outer b.values.current.items b.draft new.draft b.accesses l =
          lane_here c scene top spaces shared Variable Read Own g around outer first l old s tested.levels.most (term_accesses t) (term_accesses t) (λ current. AreCurrent c scene top spaces shared Variable Read Own current l) n b new.draft less f.here agrees agree in
          let made : TermHere c scene top spaces shared Variable Read Own g (lane_of around n) outer b.values.current.items b.draft new.draft b.accesses new.accesses first next l h t v =
          term_here c scene top spaces shared Variable Read Own g (lane_of around n) outer b.values.current.items b.draft new.draft b.accesses new.accesses first next l h t v one.term few own
          (lane_next c scene top spaces shared Variable Read Own g around outer first l old s (term_accesses t) (term_accesses t) n b.accesses own.are.own less f.here.given) (suits n less)
          (λ e is_variable mentioned. entity_under c scene top spaces shared Variable Read Own g around b.values.current.items l e n s.under (f.here.current e n is_variable less)) reads in
          record {
            here = record {
              extends = extends_again old.draft b.draft new.draft f.here.extends part.part.extends;
              noted = made.noted;
              held = subst (λ (w : Values). AreHeld c.block new.draft w) (sym one.same) (held_later c.block b.draft new.draft b.values part.part.extends f.here.held);
              long = ap (λ (w : Values). length w.current.items) one.same ∙ f.here.long;
              within = within_again c old.draft b.draft new.draft tested.levels.most tested.levels.most (self tested.levels.most) f.here.within made.timed_is.within;
              in_time = made.timed_is.noted;
              given = given_more c scene top spaces shared Variable Read Own g around first (term_accesses t) (term_accesses t) n b.accesses new.accesses (self (term_accesses t)) made.given f.here.given;
              current = subst (λ (w : Values). AreCurrent c scene top spaces shared Variable Read Own w.current.items l) (sym one.same) f.here.current;
            };
            at = λ path test here. by path test f.at made.timed_is.at (place_of_more before v test path (subst (λ (ts : List ℕ). slice_get ts path ≡ Some test) is here));
          }
        where
          self : (i : ℕ) → i ≤ i
          self i = omega arith

          by : (path test : ℕ) → TestsAt c tested.level before → HasClock c tested.level v → (slice_get before path ≡ Some test) ⊎ ((path ≡ length before) × (test ≡ v)) → HasClock c tested.level test
          by path test all last (inl here) = all path test here
          by path test all last (inr here) = subst (λ (i : ℕ). HasClock c tested.level i) (sym here.1) last

  -- at all paths
  pub record TestsPaced (new : Building) (tests : List ℕ) : Type 0 where
    pub paces : Paces c scene top spaces shared Variable Read Own old new tested.levels (first + term_accesses t)
    pub at : TestsAt c tested.level tests

  pub tests_paced : (new : Building) (next : ℕ) (tests : List ℕ) → MadeTests scene around first t (paths_counted top) old new next tests → Agrees c.block new.draft → AgreeInTime c new.draft
      → ((k : ℕ) → k < paths_counted top → TermSuits c.block scene (lane_of around k) first t) → TestsPaced new tests
  tests_paced new next tests m agrees agree suits =
      let h : TestsHere (paths_counted top) new tests = tests_here (paths_counted top) new next tests (omega arith) m agrees agree suits in
      record {
        paces = record {
          within = h.here.within;
          in_time = h.here.in_time;
          current = λ e i is within. subst (λ (n : ℕ). VariableAt c (counter_of scene e) (held_at scene.held.now e) (lane_of top i) new.values.current.items n) (sym (behind.variables e)) (h.here.current e i is within);
          given = given_end c scene top spaces shared Variable Read Own g first (term_accesses t) (term_accesses t) new.accesses (λ e read among. among) h.here.given;
        };
        at = h.at;
      }

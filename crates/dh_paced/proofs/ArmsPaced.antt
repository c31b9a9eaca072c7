-- An arm of an `if` in time, and the variables behind both.
use Rattle.std.proofs.Common.{◌≡◌, ◌⊎◌, ℕ, ◌<◌, ◌≤◌, true, false, Some, None, Option, List, length, refl, sym, ap, ◌∙◌, subst, arith}
use Rattle.std.specs.Prelude.{Bool as Truth, ◌||◌, if◌then◌else◌, max, slice_get}
use Rattle.dh_tree.specs.declared.trees.counters.Counter.{Counter}
use Rattle.dh_meaning.specs.Core.{CoreCommands}
use Rattle.dh_meaning.specs.Levels.{Levels, any_assigns, arms_joined, with_variables}
use Rattle.dh_code.specs.Slots.{held_at}
use Rattle.dh_expressions.specs.declared.accesses.Accesses.{Accesses}
use Rattle.dh_expressions.specs.declared.drafts.Draft.{Draft}
use Rattle.dh_expressions.specs.declared.scenes.Around.{Around}
use Rattle.dh_expressions.specs.declared.scenes.Scene.{Scene}
use Rattle.dh_expressions.specs.Evaluated.{counter_of}
use Rattle.dh_expressions.proofs.ListPlaces.{place_within, some_same, there}
use Rattle.dh_formed.specs.Formed.{Agrees, FormedBlock}
use Rattle.dh_formed.specs.Timed.{AgreeInTime, BlockClocks, CurrentAt, NotedInTime, VariableAt, Within}
use Rattle.dh_formed.proofs.ValuesTimed.{time_later, within_again}
use Rattle.dh_commands.specs.declared.assignments.Values.{Values}
use Rattle.dh_commands.specs.declared.buildings.Building.{Building}
use Rattle.dh_commands.specs.declared.choices.Choice.{Choice}
use Rattle.dh_commands.specs.declared.choices.Left.{Left}
use Rattle.dh_commands.specs.Joined.{AreChoices}
use Rattle.dh_commands.specs.LanesRun.{lane_of, paths_counted}
use Rattle.dh_commands.specs.MadeCommands.{Commanding, MadeArm, MadeJoined}
use Rattle.dh_commands.specs.ShownVariables.{register_in}
use Rattle.dh_commands.specs.Undone.{AreReady, first_left}
use Rattle.dh_commands.proofs.ArmsLeft.{AreSame, ArmLeft, IsSetAt}
use Rattle.dh_laid.specs.Laid.{TestsAreTruths}
use Rattle.dh_laid.specs.LaidCommands.{FormsCommand}
use Rattle.dh_laid.proofs.CommandsLaid.{begun_held, begun_noted, guards_made, round_arm}
use Rattle.dh_paced.specs.Standing.{AreCurrent, HaveGivenTo, IsGround, IsTarget, Paces, StandsFor}
use Rattle.dh_paced.proofs.AssigningPaced.{current_of, variable_of}
use Rattle.dh_paced.proofs.AssignmentsLogged.{are, choice_is, is_chosen, middle_same, one_wide, two_wide, under_arm}
use Rattle.dh_paced.proofs.ChoicesPaced.{choices_paced}
use Rattle.dh_paced.proofs.TestsPaced.{GuardsPaced, TestsAt, guards_paced}

-- an arm that is taken back: what stands behind it, and what variables were given as it ended
pub record PacesArm (c : BlockClocks) (scene : Scene) (top : Around) (spaces : ℕ) (shared : ℕ → Option ℕ) (Variable Read Own : ℕ → Type 0) (old new : Building) (behind : List (Option ℕ)) (l : Levels) (next : ℕ) : Type 0 where
  pub within : Within c old.draft new.draft l.most
  pub in_time : NotedInTime c new.accesses
  pub given : HaveGivenTo c scene top spaces shared Variable Read Own new.accesses next
  pub left : AreCurrent c scene top spaces shared Variable Read Own behind l

module _ (c : BlockClocks) (scene : Scene) (top : Around) (spaces : ℕ) (shared : ℕ → Option ℕ) (Variable Read Own : ℕ → Type 0) (g : IsGround c scene top spaces shared Variable Read Own) where
  module _ (Inner : Commanding) (around : Around) (holds : Truth) (tests : List ℕ) (old new : Building) (first next : ℕ) (lefts : List Left) (m : MadeArm Inner around holds tests old new first next lefts) (Where : FormedBlock → Type 0)
      (inner : FormsCommand scene m.arm m.begin m.inside Where) (n outer level : ℕ) (l : Levels) (s : StandsFor c scene top spaces shared Variable Read Own around old outer n l) (truths : TestsAreTruths c.block old.draft tests) (at : TestsAt c level tests)
      (long : length tests ≡ paths_counted top) (few : level ≤ l.most) where
    begins : m.begin.draft ≡ m.guarded
    begins = m.begin_draft

    many : length tests ≡ paths_counted around
    many = long ∙ sym s.under.counted

    guards : AgreeInTime c m.begin.draft → GuardsPaced c outer level old.draft m.begin.draft m.arm.guards.now
    guards agree =
        subst (λ (d : Draft). GuardsPaced c outer level old.draft d m.arm.guards.now) (sym begins)
        (guards_paced c outer level holds around.guards.now tests (length tests) old.draft m.guarded m.arm.guards.now m.guards (few_tests (length tests) (paths_counted around) many) (subst (λ (d : Draft). AgreeInTime c d) begins agree) s.started s.guards at)
      where
        few_tests : (a b : ℕ) → a ≡ b → a ≤ b
        few_tests a b e = omega (arith, e)

    -- what stands as it begins
    pub arm_stands : Agrees c.block m.begin.draft → AgreeInTime c m.begin.draft → StandsFor c scene top spaces shared Variable Read Own m.arm m.begin (max outer level) n l
    arm_stands agrees agree =
        let made = guards_made scene Inner around holds tests old new first next lefts m Where inner in
        record {
          under = under_arm scene top Inner around holds tests old new first next lefts m s.under long;
          started = time_later c old.draft m.begin.draft made.extends s.started;
          round = round_arm scene Inner around holds tests old new first next lefts m Where inner c.block s.round (made.gives c.block agrees s.started s.round.guards truths) many;
          noted = begun_noted scene Inner around holds tests old new first next lefts m Where inner c.block s.noted;
          held = begun_held scene Inner around holds tests old new first next lefts m Where inner c.block s.held;
          long = ap (λ (v : Values). length v.current.items) m.begin_values ∙ s.long;
          guards = (guards agree).at;
          bounded = s.bounded;
          outer_few = let o = s.outer_few in let f = few in omega (arith, o, f);
          in_time = subst (λ (a : Accesses). NotedInTime c a) (sym m.begin_accesses) s.in_time;
          current = subst (λ (v : Values). AreCurrent c scene top spaces shared Variable Read Own v.current.items l) (sym m.begin_values) s.current;
          given = subst (λ (a : Accesses). HaveGivenTo c scene top spaces shared Variable Read Own a n) (sym m.begin_accesses) s.given;
        }

    -- and behind it
    pub arm_paced : (made : Levels) (behind : ℕ) → AgreeInTime c m.begin.draft → l.most ≤ made.most → Paces c scene top spaces shared Variable Read Own m.begin m.inside made behind
        → PacesArm c scene top spaces shared Variable Read Own old new m.inside.values.current.items made behind
    arm_paced made behind agree more p = record {
      within =
          subst (λ (d : Draft). Within c old.draft d made.most) (sym m.draft)
          (within_again c old.draft m.begin.draft m.inside.draft (max outer level) made.most (let o = s.outer_few in let f = few in omega (arith, o, f, more)) (guards agree).within p.within);
      in_time = subst (λ (a : Accesses). NotedInTime c a) (sym m.accesses) p.in_time;
      given = subst (λ (a : Accesses). HaveGivenTo c scene top spaces shared Variable Read Own a behind) (sym m.accesses) p.given;
      left = p.current;
    }

  -- Behind both arms.
  module _ (A B : ℕ → Type 0) (tests : List ℕ) (long : length tests ≡ paths_counted top) (chosen other : List Left) (begun old : Values) (one two : List (Option ℕ)) (ready : AreReady old) (back : AreSame begun old)
      (left_one : ArmLeft scene top A begun.current.items one chosen) (left_two : ArmLeft scene top B begun.current.items two other)
      (covers_one : (e i : ℕ) → A e → i < paths_counted top → (l : Left) × (first_left chosen (register_in scene top e i) ≡ Some l))
      (covers_two : (e i : ℕ) → B e → i < paths_counted top → (l : Left) × (first_left other (register_in scene top e i) ≡ Some l))
      (a d : Building) (values_are : a.values ≡ old) (m : MadeJoined tests chosen other a d)
      (level : ℕ) (at : TestsAt c level tests) (tl cl ol : Levels) (is_one : AreCurrent c scene top spaces shared Variable Read Own one cl) (is_two : AreCurrent c scene top spaces shared Variable Read Own two ol) (before : AreCurrent c scene top spaces shared Variable Read Own begun.current.items tl)
      (targets : (e : ℕ) → A e ⊎ B e → IsTarget c scene top spaces shared Variable Read Own e) (level_few : level ≤ ol.most) (one_few : (e : ℕ) → cl.variables e ≤ ol.most) (two_few : (e : ℕ) → ol.variables e ≤ ol.most) where
    abbrev choices : List Choice
    choices = m.choices

    choice_at : (k : ℕ) (b : Choice) → slice_get choices k ≡ Some b → IsSetAt scene top (λ e. A e ⊎ B e) old.current.items b.register b.path
    choice_at k b here = choice_is scene top A B tests long chosen other begun old one two ready back left_one left_two covers_one covers_two a d values_are m k b here

    -- the variable of a choice
    entity_by : (k : ℕ) (o : Option Choice) → slice_get choices k ≡ o → ℕ
    entity_by k None e = 0
    entity_by k (Some b) e = (choice_at k b e).entity

    entity : (k : ℕ) → ℕ
    entity k = entity_by k (slice_get choices k) refl

    record IsEntity (b : Choice) (e : ℕ) : Type 0 where
      is : A e ⊎ B e
      within : b.path < paths_counted top
      register_is : b.register ≡ register_in scene top e b.path

    entity_is : (k : ℕ) (b : Choice) → slice_get choices k ≡ Some b → IsEntity b (entity k)
    unfolding entity_by choice_at entity
    entity_is k b here = by (slice_get choices k) refl here
      where
        by : (o : Option Choice) (e : slice_get choices k ≡ o) → o ≡ Some b → IsEntity b (entity_by k o e)
        by None e same = absurd (cc)
        by (Some x) e same =
            subst (λ (y : Choice). IsEntity y (choice_at k x e).entity) (some_same x b same)
            (record { is = (choice_at k x e).may; within = (choice_at k x e).within; register_is = (choice_at k x e).register_is })

    there_at : (os : List (Option ℕ)) (l : Levels) → AreCurrent c scene top spaces shared Variable Read Own os l → (k : ℕ) (b : Choice) → slice_get choices k ≡ Some b → CurrentAt c (slice_get os b.register) (l.variables (entity k))
    there_at os l all k b here =
        let e : IsEntity b (entity k) = entity_is k b here in
        let t : IsTarget c scene top spaces shared Variable Read Own (entity k) = targets (entity k) e.is in
        subst (λ (r : ℕ). CurrentAt c (slice_get os r) (l.variables (entity k))) (sym e.register_is)
        (current_of c scene top spaces shared Variable Read Own g os (entity k) b.path (l.variables (entity k)) t.no_counter (all (entity k) b.path t.is e.within))

    middle_is : m.middle.current.items ≡ old.current.items
    middle_is = (middle_same scene top A B tests long chosen other begun old one two ready back left_one left_two covers_one covers_two a d values_are m).current

    most_few : (k : ℕ) → max level (max (cl.variables (entity k)) (ol.variables (entity k))) ≤ ol.most
    most_few k = let f = one_few (entity k) in let h = two_few (entity k) in let i = level_few in omega (arith, f, h, i)

    -- shorter names of what stands above
    abbrev wide_one : ArmLeft scene top (λ e. A e ⊎ B e) old.current.items one chosen
    wide_one = one_wide scene top A B tests long chosen other begun old one two ready back left_one left_two covers_one covers_two

    abbrev wide_two : ArmLeft scene top (λ e. A e ⊎ B e) old.current.items two other
    wide_two = two_wide scene top A B tests long chosen other begun old one two ready back left_one left_two covers_one covers_two

    abbrev are_choices : AreChoices chosen other choices
    are_choices = are scene top A B tests long chosen other begun old one two ready back left_one left_two covers_one covers_two a d values_are m

    test_there : (k : ℕ) (b : Choice) → slice_get choices k ≡ Some b → (test : ℕ) × (slice_get tests b.path ≡ Some test)
    test_there k b here = there tests b.path (subst (λ (i : ℕ). b.path < i) (sym long) (choice_at k b here).within)

    -- what is told of the choices when all are made
    record Chosen : Type 0 where
      within : Within c a.draft d.draft ol.most
      done : (k : ℕ) (b : Choice) → slice_get choices k ≡ Some b → CurrentAt c (slice_get d.values.current.items b.register) (max level (max (cl.variables (entity k)) (ol.variables (entity k))))
      rest : (r : ℕ) → ((k : ℕ) (b : Choice) → slice_get choices k ≡ Some b → b.register ≡ r → ⊥) → slice_get d.values.current.items r ≡ slice_get begun.current.items r

    chosen_all : AgreeInTime c d.draft → c.block.first ≤ length a.draft.operations.items → Chosen
    chosen_all agree started =
        let t =
        choices_paced scene top (λ e. A e ⊎ B e) (λ e. A e ⊎ B e) old.current.items one two chosen other wide_one wide_two tests choices c level at (λ k. cl.variables (entity k)) (λ k. ol.variables (entity k))
        (λ k b here. there_at one cl is_one k b here) (λ k b here. there_at two ol is_two k b here) (λ k b here. (are_choices.are k b here).chosen_is) (λ k b here. (are_choices.are k b here).other_is)
        (λ k b here. (choice_at k b here).room) test_there are_choices.one ol.most (λ k b here. most_few k) (length choices) a.draft d.draft m.middle d.values middle_is m.choose agree started in
        record {
          within = t.within;
          done = λ k b here. t.done k b (place_within choices k b here) here;
          rest = λ r none. t.rest r (λ k b less here. none k b here) ∙ ap (λ (os : List (Option ℕ)). slice_get os r) back.current;
        }

    -- variables behind both
    module _ (core_one core_two : CoreCommands) (assigned : (e : ℕ) → (any_assigns e core_one || any_assigns e core_two) ≡ true → A e ⊎ B e) (unassigned : (e : ℕ) → (any_assigns e core_one || any_assigns e core_two) ≡ false → A e ⊎ B e → ⊥) where
      abbrev made : Levels
      made = with_variables ol (arms_joined level core_one core_two tl.variables cl.variables ol.variables)

      abbrev Here : (f i : ℕ) → Truth → Type 0
      Here f i b = VariableAt c (counter_of scene f) (held_at scene.held.now f) (lane_of top i) d.values.current.items (if b then max level (max (cl.variables f) (ol.variables f)) else tl.variables f)

      current_joined : Chosen → AreCurrent c scene top spaces shared Variable Read Own d.values.current.items made
      current_joined h f i v within = by (any_assigns f core_one || any_assigns f core_two) refl
        where
          chosen_here : A f ⊎ B f → Here f i true
          chosen_here is = put (is_chosen scene top A B tests long chosen other begun old one two ready back left_one left_two covers_one covers_two a d values_are m f i is within)
            where
              t : IsTarget c scene top spaces shared Variable Read Own f
              t = targets f is

              put : (k : ℕ) × ((b : Choice) × ((slice_get choices k ≡ Some b) × (b.register ≡ register_in scene top f i))) → Here f i true
              put (k, (b, (here, register))) =
                  let e : IsEntity b (entity k) = entity_is k b here in
                  let o : IsTarget c scene top spaces shared Variable Read Own (entity k) = targets (entity k) e.is in
                  let same : entity k ≡ f = g.apart (entity k) f b.path i o.is t.is o.no_counter t.no_counter e.within within (sym e.register_is ∙ register) in
                  variable_of c scene top spaces shared Variable Read Own g d.values.current.items f i (max level (max (cl.variables f) (ol.variables f))) t.no_counter
                  (subst (λ (x : ℕ). CurrentAt c (slice_get d.values.current.items (register_in scene top f i)) (max level (max (cl.variables x) (ol.variables x)))) same
                  (subst (λ (r : ℕ). CurrentAt c (slice_get d.values.current.items r) (max level (max (cl.variables (entity k)) (ol.variables (entity k))))) register (h.done k b here)))

          spared : (A f ⊎ B f → ⊥) → (o : Option Counter) → counter_of scene f ≡ o → VariableAt c o (held_at scene.held.now f) (lane_of top i) begun.current.items (tl.variables f) → VariableAt c o (held_at scene.held.now f) (lane_of top i) d.values.current.items (tl.variables f)
          spared none None is w =
              subst (λ (x : Option (Option ℕ)). CurrentAt c x (tl.variables f)) (sym (h.rest (register_in scene top f i) (λ k b here same. other_one k b here same is))) w
            where
              other_one : (k : ℕ) (b : Choice) → slice_get choices k ≡ Some b → b.register ≡ register_in scene top f i → counter_of scene f ≡ None → ⊥
              other_one k b here same is =
                  let e : IsEntity b (entity k) = entity_is k b here in
                  let o : IsTarget c scene top spaces shared Variable Read Own (entity k) = targets (entity k) e.is in
                  let equal : entity k ≡ f = g.apart (entity k) f b.path i o.is v o.no_counter is e.within within (sym e.register_is ∙ same) in
                  none (subst (λ (x : ℕ). A x ⊎ B x) equal e.is)
          spared none (Some counter) is w = w

          by : (b : Truth) → (any_assigns f core_one || any_assigns f core_two) ≡ b → Here f i (any_assigns f core_one || any_assigns f core_two)
          by true is = subst (λ (t : Truth). Here f i t) (sym is) (chosen_here (assigned f is))
          by false is = subst (λ (t : Truth). Here f i t) (sym is) (spared (unassigned f is) (counter_of scene f) refl (before f i v within))

      pub joined_paced : (next : ℕ) → AgreeInTime c d.draft → c.block.first ≤ length a.draft.operations.items → NotedInTime c a.accesses → HaveGivenTo c scene top spaces shared Variable Read Own a.accesses next → Paces c scene top spaces shared Variable Read Own a d made next
      joined_paced next agree started in_time given =
          let h : Chosen = chosen_all agree started in
          record {
            within = h.within;
            in_time = subst (λ (x : Accesses). NotedInTime c x) (sym m.same) in_time;
            current = current_joined h;
            given = subst (λ (x : Accesses). HaveGivenTo c scene top spaces shared Variable Read Own x next) (sym m.same) given;
          }

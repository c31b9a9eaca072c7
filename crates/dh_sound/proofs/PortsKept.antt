-- The blocks of a program that keeps its ports spend of each bank at most its ports, and so no run of it is ever stuck:
-- those of Straight phases, whose accesses that never meet stand in opposite arms of one `if` outside every unrolled
-- loop, of which one path takes one; and tests, whose accesses may all meet.
use Rattle.std.proofs.Common.{◌≡◌, ◌⊎◌, inl, inr, ℕ, ◌+◌, ◌≤◌, Bool, true, false, List, [], ◌++◌, length, Option, Some, None, refl, sym, ◌∙◌, ap, subst, arith}
use Rattle.std.proofs.lemmas.List.{append-nil}
use Rattle.dh_tree.specs.Elements.{ports_at}
use Rattle.dh_tree.specs.Memories.{memories_of, number_in, table_of}
use Rattle.dh_tree.specs.Meets.{Apart}
use Rattle.dh_tree.specs.Numbers.{IsNumbered}
use Rattle.dh_tree.specs.PlainTrees.{Program, Term}
use Rattle.dh_meaning.specs.Core.{Turning, CoreCommands}
use Rattle.dh_meaning.specs.CoreOf.{Known, known_of, core_of, core_commands, core_test, core_test_of, test_of, action_form_of}
use Rattle.dh_meaning.specs.Effects.{Begun, Variables, Event, Block, tests, block_run, spent, term_events, commands_run}
use Rattle.dh_meaning.specs.Levels.{any_assigns}
use Rattle.dh_meaning.specs.OnePhase.{in_one_phase, any_makes, test_makes}
use Rattle.dh_meaning.specs.Paths.{Path, paths_in, outer_paths}
use Rattle.dh_meaning.specs.Sites.{Around}
use Rattle.dh_meets.specs.Charges.{loop_factors}
use Rattle.dh_meets.specs.MayMeet.{meets_in}
use Rattle.dh_meets.specs.Ports.{KeepsPorts}
use Rattle.dh_meets.specs.SourceEvents.{trace}
use Rattle.dh_sound.specs.Blocks.{factors, paths_inside, StandsIn, AreInTurn}
use Rattle.dh_sound.specs.BlockTold.{AccessesDeclared, IndicesTold}
use Rattle.dh_sound.specs.IndexValues.{IsTypedProgram}
use Rattle.dh_sound.specs.IndexRules.{KeepsIndexRules}
use Rattle.dh_sound.specs.ToldEvents.{access_at}
use Rattle.dh_base.specs.declared.outcomes.Outcome.TheVariants.{Stuck}
use Rattle.dh_base.specs.declared.places.Place.{Place}
use Rattle.dh_tree.specs.Ready.{IsReady}
use Rattle.dh_meaning.specs.AccessNumbers.{term_accesses}
use Rattle.dh_meaning.specs.Runs.{run_state}
use Rattle.dh_sound.specs.Standing.{BlocksKeepPorts}
use Rattle.dh_sound.proofs.ReadyKeeps.{ready_never_stuck}
use Rattle.dh_sound.proofs.Ascending.{number_of, Ascends, read_number, write_number, located_ascend, term_ascends}
use Rattle.dh_sound.proofs.BlockEvents.{block_events, made_at, commands_of, test_made}
use Rattle.dh_sound.proofs.DistinctPaths.{inside_copies}
use Rattle.dh_sound.proofs.Folds.{makes_more, events_still}
use Rattle.dh_sound.proofs.GoodEvents.{phase_good, phase_shares, test_good, test_shares}
use Rattle.dh_sound.proofs.KnownReads.{reach_at}
use Rattle.dh_sound.proofs.Lockstep.{path_of}
use Rattle.dh_sound.proofs.OneArm.{one_arm}
use Rattle.dh_sound.proofs.OnePath.{all_made_by}
use Rattle.dh_sound.proofs.Opposite.{apart_opposite}
use Rattle.dh_carried.proofs.Pigeons.{Has}
use Rattle.dh_sound.proofs.PortsOfBlocks.{bank_covered, block_keeps}
use Rattle.dh_sound.proofs.SourceValues.{source_spot}
use Rattle.dh_sound.proofs.TermWalks.{IsGood, IsMadeOf, as_read, as_write}
use Rattle.dh_sound.proofs.TestsMeet.{test_together}
use Rattle.dh_sound.specs.BlocksOfPhases.{OfStraight, OfTest, StraightTold, TestTold, TellsBlocks}
use Rattle.dh_sound.specs.BlocksCovered.{AreCovered, events_in, BlocksCovered, BlocksKept}
use Rattle.dh_sound.specs.AssignsInside.{AllAssignInside}
use Rattle.dh_sound.specs.Trails.{count}
use Rattle.dh_sound.specs.ViewTrails.{FollowsViews}
use Rattle.dh_sound.specs.Deep.{AreDeep}
use Rattle.dh_sound.specs.ViewsBound.{ViewsBound}
use Rattle.dh_sound.proofs.ViewsBound.{views_bound}
use Rattle.dh_meaning.specs.Ways.{Way, way_to}
use Rattle.dh_ways.specs.Leading.{LeadsTo}
use Rattle.dh_sound.proofs.ShiftsOnWays.{HoldsShifts, ways_shift}
use Rattle.dh_sound.proofs.ViewedWays.{kept_ways_lead}

-- the access of a good event
module _ (p : Program) (b : Begun) (known : Known) (path : Path) (in_block : ℕ → Bool) (share : (j k : ℕ) → in_one_phase p j k ≡ true → in_block k ≡ true → in_block j ≡ true) (v : Variables) (touched : ℕ → Bool)
    (r : Around) (es : List Event) (ev : Event) (g : IsGood p b known path in_block share v touched r es ev) where
  good_number : number_of ev ≡ g.number
  good_number = by g.made
    where
      by : IsMadeOf p b known path in_block share v touched g.of g.number g.variables ev → number_of ev ≡ g.number
      by (as_read w e) = ap number_of e ∙ read_number (reach_at b known path in_block g.number g.of) path (source_spot b known g.variables path g.of.entity g.of.element)
      by (as_write w value e) = ap number_of e ∙ write_number (reach_at b known path in_block g.number g.of) path value (source_spot b known g.variables path g.of.entity g.of.element)

  good_listed : access_at p (number_of ev) ≡ Some g.of
  good_listed = subst (λ (k : ℕ). access_at p k ≡ Some g.of) (sym good_number) g.listed

  good_inside : in_block (number_of ev) ≡ true
  good_inside = subst (λ (k : ℕ). in_block k ≡ true) (sym good_number) g.inside

only_path : (path : Path) → Has path outer_paths → path ≡ []
only_path path (inl e) = e
only_path path (inr none) = elim none [ ]

module _ (p : Program) (typed : IsTypedProgram p) (rules : KeepsIndexRules p) (declared : AccessesDeclared p) (bound : ViewsBound p)
    (lead_all : (entity : Option ℕ) (w : Way) → way_to p entity ≡ Some w → LeadsTo (memories_of p) w) (shift_all : (entity : Option ℕ) (w : Way) → way_to p entity ≡ Some w → HoldsShifts w) (first : ℕ) (numbered : IsNumbered first p.body)
    (b : Begun) (table : b.table ≡ table_of p) (loops : List Turning) (v : Variables) where
  -- The commands of a Straight phase.
  module _ (block : Block) (o : OfStraight p loops block) (deep : AreDeep (length (factors loops)) (core_commands (known_of p) o.done))
      (views : FollowsViews p o.round [] (trace p) o.done) (all : AllAssignInside (known_of p) (length (factors loops)) o.done)
      (indices : IndicesTold p (λ k. any_makes k o.done) (λ e. any_assigns e (core_commands (known_of p) o.done)) (paths_inside loops) v) where
    abbrev phase_commands : CoreCommands
    phase_commands = core_commands (known_of p) o.done

    abbrev phase_events : List Event
    phase_events = block_events b (length (factors loops)) (paths_inside loops) (inside_copies b loops) phase_commands deep v

    straight_good : (path : Path) → Has path (paths_inside loops) → (ev : Event) → Has ev (all_made_by b path phase_commands v)
        → IsGood p b (known_of p) path (λ k. any_makes k o.done) (phase_shares p b path o.done o.folds o.quiet o.has v) v (λ e. any_assigns e phase_commands) o.round (all_made_by b path phase_commands v) ev
    straight_good path h ev m = phase_good p b path o.done o.folds o.quiet o.has v (length (factors loops)) all o.round views ev m

    straight_ascends : (path : Path) → Has path (paths_inside loops) → (low : ℕ) × ((high : ℕ) × Ascends low (all_made_by b path phase_commands v) high)
    straight_ascends path h =
        (count [], (count [] + count (trace p), located_ascend p b (known_of p) path (λ k. any_makes k o.done) (phase_shares p b path o.done o.folds o.quiet o.has v) v (λ e. any_assigns e phase_commands) o.round [] (trace p) v o.done o.follows))

    straight_together : (x y : Event) → Has x phase_events → Has y phase_events → Apart (meets_in p) (number_of x) (number_of y) → ⊥
    straight_together x y hx hy apart =
        let mx = made_at b (length (factors loops)) (paths_inside loops) (inside_copies b loops) phase_commands deep v x hx in
        let my = made_at b (length (factors loops)) (paths_inside loops) (inside_copies b loops) phase_commands deep v y hy in
        both mx.0 mx.1 my.0 my.1 (straight_good (path_of x) mx.0 x mx.1) (straight_good (path_of y) my.0 y my.1)
      where
        both : Has (path_of x) (paths_inside loops) → Has x (all_made_by b (path_of x) phase_commands v) → Has (path_of y) (paths_inside loops) → Has y (all_made_by b (path_of y) phase_commands v)
            → IsGood p b (known_of p) (path_of x) (λ k. any_makes k o.done) (phase_shares p b (path_of x) o.done o.folds o.quiet o.has v) v (λ e. any_assigns e phase_commands) o.round (all_made_by b (path_of x) phase_commands v) x
            → IsGood p b (known_of p) (path_of y) (λ k. any_makes k o.done) (phase_shares p b (path_of y) o.done o.folds o.quiet o.has v) v (λ e. any_assigns e phase_commands) o.round (all_made_by b (path_of y) phase_commands v) y → ⊥
        both px mx py my gx gy =
            let lx = good_listed p b (known_of p) (path_of x) (λ k. any_makes k o.done) (phase_shares p b (path_of x) o.done o.folds o.quiet o.has v) v (λ e. any_assigns e phase_commands) o.round (all_made_by b (path_of x) phase_commands v) x gx in
            let ly = good_listed p b (known_of p) (path_of y) (λ k. any_makes k o.done) (phase_shares p b (path_of y) o.done o.folds o.quiet o.has v) v (λ e. any_assigns e phase_commands) o.round (all_made_by b (path_of y) phase_commands v) y gy in
            let ix = good_inside p b (known_of p) (path_of x) (λ k. any_makes k o.done) (phase_shares p b (path_of x) o.done o.folds o.quiet o.has v) v (λ e. any_assigns e phase_commands) o.round (all_made_by b (path_of x) phase_commands v) x gx in
            let iy = good_inside p b (known_of p) (path_of y) (λ k. any_makes k o.done) (phase_shares p b (path_of y) o.done o.folds o.quiet o.has v) v (λ e. any_assigns e phase_commands) o.round (all_made_by b (path_of y) phase_commands v) y gy in
            let opposite = apart_opposite p (o.done ++ o.folds) (number_of x) (number_of y) o.has (makes_more (number_of x) o.done o.folds ix) (makes_more (number_of y) o.done o.folds iy) apart gx.of gy.of lx ly in
            let none : o.round.loops ≡ [] = sym gx.loops ∙ opposite.single in
            let outer : paths_inside loops ≡ outer_paths = o.paths ∙ ap (λ ls. paths_in (loop_factors ls)) none in
            let one : path_of x ≡ path_of y = only_path (path_of x) (subst (λ (ps : List Path). Has (path_of x) ps) outer px) ∙ sym (only_path (path_of y) (subst (λ (ps : List Path). Has (path_of y) ps) outer py)) in
            one_arm p b (known_of p) (path_of x) v o.round [] (trace p) [] o.done first numbered (sym (append-nil (trace p))) o.follows x y mx
            (subst (λ (q : Path). Has y (all_made_by b q phase_commands v)) (sym one) my) gx.of gy.of lx ly opposite.command opposite.opposite

    pub straight_covered : (entity memory bank : ℕ) → number_in (memories_of p) (Some entity) ≡ Some memory → AreCovered p phase_events entity memory bank
    straight_covered =
        bank_covered p typed rules declared bound lead_all shift_all b table (λ k. any_makes k o.done) (λ path. phase_shares p b path o.done o.folds o.quiet o.has v) (λ e. any_assigns e phase_commands) o.round
        loops phase_commands deep v straight_good straight_ascends indices o.paths straight_together

    pub straight_keeps : KeepsPorts p → (memory bank : ℕ) → spent phase_events memory bank ≤ ports_at (table_of p) memory
    straight_keeps =
        block_keeps p typed rules declared bound lead_all shift_all b table (λ k. any_makes k o.done) (λ path. phase_shares p b path o.done o.folds o.quiet o.has v) (λ e. any_assigns e phase_commands) o.round
        loops phase_commands deep v straight_good straight_ascends indices o.paths straight_together

  -- A test.
  module _ (block : Block) (o : OfTest p loops block)
      (indices : IndicesTold p (λ k. test_makes k o.tested) (λ e. false) (paths_inside loops) v) where
    abbrev test_commands : CoreCommands
    test_commands = commands_of (tests (core_test (known_of p) o.tested))

    pub test_deep : AreDeep (length (factors loops)) test_commands
    test_deep = ((tt, tt), tt)

    abbrev test_made_events : List Event
    test_made_events = block_events b (length (factors loops)) (paths_inside loops) (inside_copies b loops) test_commands test_deep v

    own_good : (path : Path) → Has path (paths_inside loops) → (ev : Event) → Has ev (all_made_by b path test_commands v)
        → IsGood p b (known_of p) path (λ k. test_makes k o.tested) (test_shares p b path o.tested o.has v) v (λ e. false) o.tested.around (all_made_by b path test_commands v) ev
    own_good path h ev m =
        let same = test_made b path (core_test (known_of p) o.tested) v in
        subst (λ (es : List Event). IsGood p b (known_of p) path (λ k. test_makes k o.tested) (test_shares p b path o.tested o.has v) v (λ e. false) o.tested.around es ev) (sym same)
        (test_good p b path o.tested o.has v o.follows ev (subst (λ (es : List Event). Has ev es) same m))

    own_together : (x y : Event) → Has x test_made_events → Has y test_made_events → Apart (meets_in p) (number_of x) (number_of y) → ⊥
    own_together x y hx hy apart =
        let mx = made_at b (length (factors loops)) (paths_inside loops) (inside_copies b loops) test_commands test_deep v x hx in
        let my = made_at b (length (factors loops)) (paths_inside loops) (inside_copies b loops) test_commands test_deep v y hy in
        test_together p o.tested (number_of x) (number_of y) o.has
        (good_inside p b (known_of p) (path_of x) (λ k. test_makes k o.tested) (test_shares p b (path_of x) o.tested o.has v) v (λ e. false) o.tested.around (all_made_by b (path_of x) test_commands v) x (own_good (path_of x) mx.0 x mx.1))
        (good_inside p b (known_of p) (path_of y) (λ k. test_makes k o.tested) (test_shares p b (path_of y) o.tested o.has v) v (λ e. false) o.tested.around (all_made_by b (path_of y) test_commands v) y (own_good (path_of y) my.0 y my.1))
        apart

    own_ascends : (path : Path) → Has path (paths_inside loops) → (low : ℕ) × ((high : ℕ) × Ascends low (all_made_by b path test_commands v) high)
    own_ascends path h =
        let (high, is) = tests_ascend path o.tested.first (test_of (action_form_of o.tested.command)) in
        (o.tested.first, (high, subst (λ (es : List Event). Ascends o.tested.first es high) (sym (test_made b path (core_test (known_of p) o.tested) v)) is))
      where
        tests_ascend : (q : Path) (n : ℕ) (t : Option Term) → (high : ℕ) × Ascends n (term_events b v q (core_test_of (known_of p) n t)) high
        tests_ascend q n None = (n, omega arith)
        tests_ascend q n (Some t) = (n + term_accesses t, term_ascends p b (known_of p) q (λ k. test_makes k o.tested) (test_shares p b q o.tested o.has v) v (λ e. false) v n t)

    pub tested_covered : (entity memory bank : ℕ) → number_in (memories_of p) (Some entity) ≡ Some memory → AreCovered p test_made_events entity memory bank
    tested_covered =
        bank_covered p typed rules declared bound lead_all shift_all b table (λ k. test_makes k o.tested) (λ path. test_shares p b path o.tested o.has v) (λ e. false) o.tested.around
        loops test_commands test_deep v own_good own_ascends indices o.paths own_together

    pub tested_keeps : KeepsPorts p → (memory bank : ℕ) → spent test_made_events memory bank ≤ ports_at (table_of p) memory
    tested_keeps =
        block_keeps p typed rules declared bound lead_all shift_all b table (λ k. test_makes k o.tested) (λ path. test_shares p b path o.tested o.has v) (λ e. false) o.tested.around
        loops test_commands test_deep v own_good own_ascends indices o.paths own_together

pub typed_program : (p : Program) → IsReady p → IsTypedProgram p
typed_program p ready = record { names = ready.names; entities = ready.entities; kinds = ready.kinds; suits = ready.suits; widths = ready.of_text.widths }

-- A program that is ready and keeps its rules: what its blocks spend is covered.
module _ (p : Program) (ready : IsReady p) (rules : KeepsIndexRules p) (declared : AccessesDeclared p) (tells : TellsBlocks p) where
  abbrev begun_with : List (List ℕ) → Begun
  begun_with memories = record { table = (core_of p).table; memories = memories }

  -- the reducers behind straight commands make no events
  own_events : (loops : List Turning) (block : Block) (o : OfStraight p loops block) (memories : List (List ℕ)) (v : Variables)
      → events_in p loops block memories v ≡ (commands_run (begun_with memories) (paths_inside loops) (core_commands (known_of p) o.done) (record { variables = v; events = [] })).events
  own_events loops block o memories v =
      ap (λ (c : Block). events_in p loops c memories v) o.is
      ∙ events_still (begun_with memories) (known_of p) (paths_inside loops) o.done o.folds o.quiet (record { variables = v; events = [] })

  pub blocks_covered : BlocksCovered p
  blocks_covered loops block stands memories v turns entity memory bank n = by (tells loops block stands)
    where
      by : StraightTold p loops block ⊎ TestTold p loops block → AreCovered p (events_in p loops block memories v) entity memory bank
      by (inl o) =
          subst (λ (es : List Event). AreCovered p es entity memory bank) (sym (own_events loops block o.of memories v))
          (straight_covered p (typed_program p ready) rules declared (views_bound p ready) (kept_ways_lead p ready) (ways_shift p ready) ready.of_text.first ready.of_text.numbered (begun_with memories) refl loops v block o.of o.deep o.views o.inside (o.indices v turns) entity memory bank n)
      by (inr o) =
          subst (λ (c : Block). AreCovered p (events_in p loops c memories v) entity memory bank) (sym o.of.is)
          (tested_covered p (typed_program p ready) rules declared (views_bound p ready) (kept_ways_lead p ready) (ways_shift p ready) ready.of_text.first ready.of_text.numbered (begun_with memories) refl loops v block o.of (o.indices v turns) entity memory bank n)

  -- If it keeps its ports, each block keeps the ports of every bank.
  module _ (keeps : KeepsPorts p) where
    block_within : (loops : List Turning) (block : Block) → StandsIn [] (core_of p).phases loops block → (memories : List (List ℕ)) (v : Variables) → AreInTurn [] loops v → (memory bank : ℕ)
        → spent (block_run (begun_with memories) (paths_inside loops) block (record { variables = v; events = [] })).events memory bank ≤ ports_at (core_of p).table memory
    block_within loops block stands memories v turns memory bank = by (tells loops block stands)
      where
        by : StraightTold p loops block ⊎ TestTold p loops block → spent (block_run (begun_with memories) (paths_inside loops) block (record { variables = v; events = [] })).events memory bank ≤ ports_at (core_of p).table memory
        by (inl o) =
            subst (λ (es : List Event). spent es memory bank ≤ ports_at (core_of p).table memory) (sym (own_events loops block o.of memories v))
            (straight_keeps p (typed_program p ready) rules declared (views_bound p ready) (kept_ways_lead p ready) (ways_shift p ready) ready.of_text.first ready.of_text.numbered (begun_with memories) refl loops v block o.of o.deep o.views o.inside (o.indices v turns) keeps memory bank)
        by (inr o) =
            subst (λ (c : Block). spent (block_run (begun_with memories) (paths_inside loops) c (record { variables = v; events = [] })).events memory bank ≤ ports_at (core_of p).table memory) (sym o.of.is)
            (tested_keeps p (typed_program p ready) rules declared (views_bound p ready) (kept_ways_lead p ready) (ways_shift p ready) ready.of_text.first ready.of_text.numbered (begun_with memories) refl loops v block o.of (o.indices v turns) keeps memory bank)

    pub blocks_keep : BlocksKeepPorts (core_of p)
    blocks_keep = record { within = block_within }

    -- and no run of it, from whatever memories, is ever stuck
    pub never_stuck : (memories : List (List ℕ)) (n memory bank : ℕ) (place : Place) → (run_state (core_of p) memories n).outcome ≡ Stuck memory bank place → ⊥
    never_stuck = ready_never_stuck p ready blocks_keep

-- what is covered keeps the ports of a program that keeps its ports
pub covered_keep : (p : Program) → BlocksCovered p → KeepsPorts p → BlocksKept p
covered_keep p covered keeps loops block stands memories v turns entity memory bank n =
    let c = covered loops block stands memories v turns entity memory bank n in
    let l = c.covers in
    let k = keeps c.chosen c.together entity bank in
    omega (arith, l, k)

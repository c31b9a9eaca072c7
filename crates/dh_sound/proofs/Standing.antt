-- Where a run stands. What comes behind a block is made of phases of the program: phases of the loops in which the
-- block stands, then, behind the end of a turn, of the loops round the last of these, and so on. Going into
-- phases keeps this, and begins a turn of each loop on the way; so does going on behind a block that is done.
-- A step leaves the iterators of the loops round its block as they were, so that their turns go on; a step that
-- stops changes no variable. By induction over steps.
use Rattle.std.proofs.Common.{◌≡◌, inl, inr, ℕ, zero, suc, ◌<◌, ◌==◌, nat_lt, Bool, true, false, if◌then◌else◌, List, [], ◌∷◌, ◌++◌, Option, Some, None, refl, ◌∙◌, ap, subst, arith}
use Rattle.std.proofs.lemmas.Bool.Decides.{nat_tests}
use Rattle.dh_base.specs.declared.outcomes.Outcome.{Outcome}
use Rattle.dh_base.specs.declared.outcomes.Outcome.TheVariants.{Going, Ended, Faulted, Stuck}
use Rattle.dh_tree.specs.declared.tables.MemEntry.{MemEntry}
use Rattle.dh_meaning.specs.Paths.{Path, outer_paths}
use Rattle.dh_meaning.specs.Core.{CoreTerm, Turning, CorePhase, straightly, turning, looping, choosing, CorePhases, no_core_phases, phase_and, CoreProgram}
use Rattle.dh_meaning.specs.Effects.{Begun, Variables, unset, Effect, Block, commands, tests, block_run, stop_after}
use Rattle.dh_meaning.specs.Runs.{inner_paths, turn_begun, begins, RunTodo, over, phases_then, turn_then, test_then, again_then, pick_then, RunPlace, ended, at, RunNext, next, enter, enter_phase, goes_on, next_of, place_run, place_after, RunState, step_effect, begun_at, state_after, step_from, next_state, run_state}
use Rattle.dh_sound.specs.Blocks.{StandsIn, StandsInPhase, paths_inside, AreInTurn}
use Rattle.dh_sound.specs.Standing.{IsFresh, PhasesAreApart, IsApart, KeepsIterators, IsPlaceInTurn}
use Rattle.dh_sound.proofs.Entered.{inner_inside, turn_more, outer_turns, test_keeps, commands_keep, turns_kept, Kept}

-- these phases of the program stand in these loops, and are done at these paths
record Within (c : CoreProgram) (loops : List Turning) (paths : List Path) (ps : CorePhases) : Type 0 where
  copies : paths ≡ paths_inside loops
  part : (inner : List Turning) (b : Block) → StandsIn loops ps inner b → StandsIn [] c.phases inner b
  apart : PhasesAreApart loops ps

-- this phase does
record IsWithin (c : CoreProgram) (loops : List Turning) (paths : List Path) (p : CorePhase) : Type 0 where
  copies : paths ≡ paths_inside loops
  part : (inner : List Turning) (b : Block) → StandsInPhase loops p inner b → StandsIn [] c.phases inner b
  apart : IsApart loops p

-- this test does
record IsTest (c : CoreProgram) (loops : List Turning) (paths : List Path) (test : CoreTerm) : Type 0 where
  copies : paths ≡ paths_inside loops
  block : StandsIn [] c.phases loops (tests test)

-- the last of these loops is this one, round whose turns stand these
record IsLast (c : CoreProgram) (loops round : List Turning) (paths : List Path) (loop : Turning) (body : CorePhases) : Type 0 where
  is : loops ≡ round ++ loop ∷ []
  copies : paths ≡ paths_inside round
  fresh : IsFresh loop.iterator round
  inside : Within c (round ++ loop ∷ []) (inner_paths paths loop) body

-- what comes behind a block that stands in these loops
abbrev Behind : CoreProgram → List Turning → RunTodo → Type 0
Behind c loops over = Unit {0}
Behind c loops (phases_then paths ps k) = Within c loops paths ps × Behind c loops k
Behind c loops (turn_then paths loop turn body k) = (round : List Turning) × (IsLast c loops round paths loop body × Behind c round k)
Behind c loops (test_then paths test body k) = IsTest c loops paths test × (Within c loops paths body × Behind c loops k)
Behind c loops (again_then paths test body k) = IsTest c loops paths test × (Within c loops paths body × Behind c loops k)
Behind c loops (pick_then paths test chosen other k) = Within c loops paths chosen × (Within c loops paths other × Behind c loops k)

-- a run stands at a block, with what comes behind it
record StandsBefore (c : CoreProgram) (paths : List Path) (b : Block) (k : RunTodo) (variables : Variables) : Type 0 where
  loops : List Turning
  block : StandsIn [] c.phases loops b
  copies : paths ≡ paths_inside loops
  turns : AreInTurn [] loops variables
  behind : Behind c loops k

abbrev StandsAt : CoreProgram → RunPlace → Variables → Type 0
StandsAt c ended variables = Unit {0}
StandsAt c (at paths b k) variables = StandsBefore c paths b k variables

abbrev Stands : CoreProgram → RunNext → Type 0
Stands c n = StandsAt c n.place n.variables

either_way : (c : CoreProgram) (b : Bool) (m n : RunNext) → (b ≡ true → Stands c m) → (b ≡ false → Stands c n) → Stands c (if b then m else n)
either_way c true m n yes_m else_n = yes_m refl
either_way c false m n yes_m else_n = else_n refl

has_turn : (n : ℕ) → (n == 0) ≡ false → 0 < n
has_turn n e = grind (arith, nat_tests)

is_below : (m n : ℕ) → nat_lt m n ≡ true → m < n
is_below m n e = grind (arith, nat_tests)

-- Into phases.

first_within : (c : CoreProgram) (loops : List Turning) (paths : List Path) (p : CorePhase) (ps : CorePhases) → Within c loops paths (phase_and p ps) → IsWithin c loops paths p
first_within c loops paths p ps w = record { copies = w.copies; part = λ inner b h. w.part inner b (inl h); apart = w.apart.0 }

rest_within : (c : CoreProgram) (loops : List Turning) (paths : List Path) (p : CorePhase) (ps : CorePhases) → Within c loops paths (phase_and p ps) → Within c loops paths ps
rest_within c loops paths p ps w = record { copies = w.copies; part = λ inner b h. w.part inner b (inr h); apart = w.apart.1 }

body_within : (c : CoreProgram) (loops : List Turning) (paths : List Path) (loop : Turning) (body : CorePhases) → IsWithin c loops paths (turning loop body)
    → Within c (loops ++ loop ∷ []) (inner_paths paths loop) body
body_within c loops paths loop body w =
    record { copies = ap (λ ps. inner_paths ps loop) w.copies ∙ inner_inside loops loop; part = w.part; apart = w.apart.1 }

module _ (c : CoreProgram) where
  mutual
    entered : (ps : CorePhases) (loops : List Turning) (paths : List Path) (k : RunTodo) (behind : RunNext) (variables : Variables)
        → Within c loops paths ps → Behind c loops k → Stands c behind → AreInTurn [] loops variables → Stands c (enter paths ps k behind variables)
    entered no_core_phases loops paths k behind variables w kb s t = s
    entered (phase_and p ps) loops paths k behind variables w kb s t =
        let r = rest_within c loops paths p ps w in
        entered_phase p loops paths (phases_then paths ps k) (enter paths ps k behind variables) variables
        (first_within c loops paths p ps w) (r, kb) (entered ps loops paths k behind variables r kb s t) t

    entered_phase : (p : CorePhase) (loops : List Turning) (paths : List Path) (k : RunTodo) (behind : RunNext) (variables : Variables)
        → IsWithin c loops paths p → Behind c loops k → Stands c behind → AreInTurn [] loops variables → Stands c (enter_phase paths p k behind variables)
    entered_phase (straightly cs) loops paths k behind variables w kb s t =
        record { loops = loops; block = w.part loops (commands cs) (refl, refl); copies = w.copies; turns = t; behind = kb }
    entered_phase (turning loop body) loops paths k behind variables w kb s t =
        let inside = body_within c loops paths loop body w in
        either_way c (loop.count == 0) behind (enter (inner_paths paths loop) body (turn_then paths loop 0 body k) behind (begins loop paths variables))
        (λ e. s)
        (λ e. entered body (loops ++ loop ∷ []) (inner_paths paths loop) (turn_then paths loop 0 body k) behind (begins loop paths variables)
        inside
        (loops, (record { is = refl; copies = w.copies; fresh = w.apart.0; inside = inside }, kb))
        s
        (turn_more loops loop 0 paths variables (has_turn loop.count e) w.apart.0 w.copies t))
    entered_phase (looping test body) loops paths k behind variables w kb s t =
        let b = w.part loops (tests test) (inl (refl, refl)) in
        record {
          loops = loops;
          block = b;
          copies = w.copies;
          turns = t;
          behind = (record { copies = w.copies; block = b }, (record { copies = w.copies; part = λ inner i h. w.part inner i (inr h); apart = w.apart }, kb));
        }
    entered_phase (choosing test chosen other) loops paths k behind variables w kb s t =
        record {
          loops = loops;
          block = w.part loops (tests test) (inl (refl, refl));
          copies = w.copies;
          turns = t;
          behind = (
            record { copies = w.copies; part = λ inner i h. w.part inner i (inr (inl h)); apart = w.apart.0 },
            (record { copies = w.copies; part = λ inner i h. w.part inner i (inr (inr h)); apart = w.apart.1 }, kb),
          );
        }

  -- at the test of a `while` again
  at_test : (loops : List Turning) (paths : List Path) (test : CoreTerm) (body : CorePhases) (k : RunTodo) (variables : Variables)
      → IsTest c loops paths test → Within c loops paths body → Behind c loops k → AreInTurn [] loops variables
      → Stands c (next (at paths (tests test) (test_then paths test body k)) variables)
  at_test loops paths test body k variables i w kb t =
      record { loops = loops; block = i.block; copies = i.copies; turns = t; behind = (i, (w, kb)) }

  -- the turns of the loops round a loop
  round_turns : (loops round : List Turning) (loop : Turning) (variables : Variables) → loops ≡ round ++ loop ∷ [] → AreInTurn [] loops variables → AreInTurn [] round variables
  round_turns loops round loop variables e t = outer_turns [] round (loop ∷ []) variables (subst (λ (ls : List Turning). AreInTurn [] ls variables) e t)

  -- behind a block that is done
  went_on : (b : Begun) (k : RunTodo) (loops : List Turning) (variables : Variables) → Behind c loops k → AreInTurn [] loops variables → Stands c (next_of b k variables)
  went_on b over loops variables kb t = tt
  went_on b (phases_then paths ps k) loops variables kb t =
      entered ps loops paths k (next_of b k variables) variables kb.0 kb.1 (went_on b k loops variables kb.1 t) t
  went_on b (turn_then paths loop turn body k) loops variables (round, (last, kb)) t =
      let outer = round_turns loops round loop variables last.is t in
      either_way c (nat_lt (suc turn) loop.count)
      (enter (inner_paths paths loop) body (turn_then paths loop (suc turn) body k) (next ended variables) (turn_begun loop (suc turn) (inner_paths paths loop) variables))
      (next_of b k variables)
      (λ e. entered body (round ++ loop ∷ []) (inner_paths paths loop) (turn_then paths loop (suc turn) body k) (next ended variables)
      (turn_begun loop (suc turn) (inner_paths paths loop) variables)
      last.inside
      (round, (record { is = refl; copies = last.copies; fresh = last.fresh; inside = last.inside }, kb))
      tt
      (turn_more round loop (suc turn) paths variables (is_below (suc turn) loop.count e) last.fresh last.copies outer))
      (λ e. went_on b k round variables kb outer)
  went_on b (test_then paths test body k) loops variables (i, (w, kb)) t =
      either_way c (goes_on b variables paths test)
      (enter paths body (again_then paths test body k) (next (at paths (tests test) (test_then paths test body k)) variables) variables)
      (next_of b k variables)
      (λ e. entered body loops paths (again_then paths test body k) (next (at paths (tests test) (test_then paths test body k)) variables) variables
      w (i, (w, kb)) (at_test loops paths test body k variables i w kb t) t)
      (λ e. went_on b k loops variables kb t)
  went_on b (again_then paths test body k) loops variables (i, (w, kb)) t = at_test loops paths test body k variables i w kb t
  went_on b (pick_then paths test chosen other k) loops variables (w, (v, kb)) t =
      either_way c (goes_on b variables paths test) (enter paths chosen k (next_of b k variables) variables) (enter paths other k (next_of b k variables) variables)
      (λ e. entered chosen loops paths k (next_of b k variables) variables w kb (went_on b k loops variables kb t) t)
      (λ e. entered other loops paths k (next_of b k variables) variables v kb (went_on b k loops variables kb t) t)

  module _ (is : KeepsIterators c) where
    -- a block keeps the iterators of the loops in which it stands
    block_keeps : (b : Begun) (block : Block) (loops : List Turning) → StandsIn [] c.phases loops block → (paths : List Path) (e : Effect)
        → Kept loops e.variables (block_run b paths block e).variables
    block_keeps b (commands cs) loops h paths e = commands_keep b cs loops (is.keeps loops cs h) paths e
    block_keeps b (tests test) loops h paths e = test_keeps b test loops paths e

    -- a step that is done leads to where a run stands so
    placed : (b : Begun) (place : RunPlace) (variables : Variables) → StandsAt c place variables
        → Stands c (place_after b place (place_run b place (record { variables = variables; events = [] })).variables)
    placed b ended variables s = tt
    placed b (at paths block k) variables s =
        went_on b k s.loops _ s.behind
        (turns_kept [] s.loops variables _ (block_keeps b block s.loops s.block paths (record { variables = variables; events = [] })) s.turns)

    abbrev HasPlace : RunState → Type 0
    HasPlace s = StandsAt c s.place s.variables

    first_place : (memories : List (List ℕ)) → HasPlace (run_state c memories 0)
    first_place memories =
        entered c.phases [] outer_paths over (next ended unset) unset (record { copies = refl; part = λ inner b h. h; apart = is.apart }) tt tt tt

    -- a step keeps where a run stands
    next_place : (table : List MemEntry) (s : RunState) → HasPlace s → HasPlace (next_state table s)
    next_place table s h = by s.outcome
      where
        stops : (o : Option Outcome) → HasPlace (state_after table s (step_effect table s) o)
        stops None = placed (begun_at table s) s.place s.variables h
        stops (Some outcome) = h

        by : (o : Outcome) → HasPlace (step_from table s o)
        by Going = stops (stop_after table [] (step_effect table s).events)
        by Ended = h
        by (Faulted kind place) = h
        by (Stuck memory bank place) = h

    every_place : (memories : List (List ℕ)) (n : ℕ) → HasPlace (run_state c memories n)
    every_place memories zero = first_place memories
    every_place memories (suc n) = next_place c.table (run_state c memories n) (every_place memories n)

-- what is told of where a run stands
told : (c : CoreProgram) (place : RunPlace) (variables : Variables) → StandsAt c place variables → IsPlaceInTurn c place variables
told c ended variables s = tt
told c (at paths b k) variables s = record { loops = s.loops; block = s.block; copies = s.copies; turns = s.turns }

-- a run stands at its end, or at a block of the program, at the paths inside the loops round it, each of which is
-- in a turn
pub run_stands : (c : CoreProgram) → KeepsIterators c → (memories : List (List ℕ)) (n : ℕ) → IsPlaceInTurn c (run_state c memories n).place (run_state c memories n).variables
run_stands c is memories n = told c _ _ (every_place c is memories n)

-- A step: the block is done in a state that has spent nothing, and then the run goes on. A test leaves the variables as
-- they are, so that what it came out as is still so where the run goes on.
use Rattle.std.proofs.Common.{◌≡◌, ℕ, zero, suc, ◌+◌, ◌-◌, ◌≤◌, ◌==◌, Bool, false, if◌then◌else◌, List, [], ◌∷◌, Ok, Err, Some, refl, ap, sym, ◌∙◌, subst, arith}
use Rattle.std.specs.Prelude.{Option, Result, slice_get}
use Rattle.std.proofs.lemmas.Bool.Decides.{nat_tests}
use Rattle.dh_tree.specs.declared.tables.MemEntry.{MemEntry}
use Rattle.dh_tree.specs.Elements.{ports_at}
use Rattle.dh_meaning.specs.Core.{CoreTerm, CorePhase, straightly, turning, looping, choosing}
use Rattle.dh_meaning.specs.Effects.{Begun, Block, Effect, Variables, at_each, block_run, holds_at, spent, tested_at}
use Rattle.dh_meaning.specs.Paths.{Path, paths_in}
use Rattle.dh_meaning.specs.Runs.{RunTodo, over, phases_then, turn_then, test_then, again_then, pick_then, first_path, next_of}
use Rattle.dh_code.specs.declared.evaluating.StepContext.{StepContext}
use Rattle.dh_code.specs.declared.evaluating.StepStop.{StepStop}
use Rattle.dh_code.specs.declared.evaluating.StepStop.TheVariants as stop
use Rattle.dh_code.specs.declared.running.StepState.{StepState}
use Rattle.dh_code.specs.declared.spending.Bank.{Bank}
use Rattle.dh_code.specs.Banks.{first_bank}
use Rattle.dh_code.specs.Scenes.{begun_in}
use Rattle.dh_code.specs.Slots.{Holds, Placing}
use Rattle.dh_code.specs.Spent.{AreUsedBy, HaveSpent, has_row}
use Rattle.dh_code.specs.States.{Ends, Keeps}
use Rattle.dh_code.proofs.Ranges.{items_same}
use Rattle.dh_sem.specs.declared.phases.Frame.{Frame}
use Rattle.dh_sem.specs.declared.stepping.Course as code
use Rattle.dh_sem.specs.Frames.{IsBlockOf, IsTestFirst, StandsFirst}
use Rattle.dh_sem.specs.Steps.{Advances, EndsSo, GoesOn, FirstTestHolds, HoldsSo, IsRested, OnlyVariables, RunsBlock, RunsNext, block_effect, course_seen}
use Rattle.dh_sem.proofs.Following.{settled_holds}

tests_stay : (b : Begun) (t : CoreTerm) (paths : List Path) (e : Effect) → (at_each (tested_at b t) paths e).variables ≡ e.variables
tests_stay b t [] e = refl
tests_stay b t (p ∷ ps) e = tests_stay b t ps (tested_at b t p e)

test_first : (b : Begun) (v : Variables) (test : CoreTerm) (paths : List Path) (k : RunTodo) (holds : Bool) → IsTestFirst test paths k → holds_at b v test (first_path paths) ≡ holds → FirstTestHolds b v k holds
test_first b v test paths over holds first h = absurd first
test_first b v test paths (phases_then paths' qs k) holds first h = absurd first
test_first b v test paths (turn_then paths' loop t body k) holds first h = absurd first
test_first b v test paths (test_then paths' test' body k) holds first h = ap (λ t. holds_at b v t (first_path paths')) first.1 ∙ (ap (λ l. holds_at b v test (first_path l)) first.0 ∙ h)
test_first b v test paths (again_then paths' test' body k) holds first h = absurd first
test_first b v test paths (pick_then paths' test' chosen other k) holds first h = ap (λ t. holds_at b v t (first_path paths')) first.1 ∙ (ap (λ l. holds_at b v test (first_path l)) first.0 ∙ h)

-- the test of a phase, where its block was done
pub holds_first : (b : Begun) (q : CorePhase) (block : Block) (paths : List Path) (k : RunTodo) (e : Effect) (holds : Bool) → IsBlockOf q block → StandsFirst q paths k → HoldsSo b paths e.variables q holds → FirstTestHolds b (block_run b paths block e).variables k holds
holds_first b (straightly cs) block paths k e holds is first so = settled_holds b (block_run b paths block e).variables k holds first
holds_first b (turning loop body) block paths k e holds is first so = absurd is
holds_first b (looping test body) block paths k e holds is first so =
    subst (λ (x : Block). FirstTestHolds b (block_run b paths x e).variables k holds) (sym is)
    (subst (λ (v : Variables). FirstTestHolds b v k holds) (sym (tests_stay b test paths e)) (test_first b e.variables test paths k holds first so))
holds_first b (choosing test chosen other) block paths k e holds is first so =
    subst (λ (x : Block). FirstTestHolds b (block_run b paths x e).variables k holds) (sym is)
    (subst (λ (v : Variables). FirstTestHolds b v k holds) (sym (tests_stay b test paths e)) (test_first b e.variables test paths k holds first so))

-- States.

module _ (s : StepContext) (c : code.Course) (old mid : StepState) (number : ℕ) (fs : List Frame) where
  -- the block stops
  pub block_stops : (x : StepStop) (result : Result (Option ℕ) StepStop) (gs : List Frame) → result ≡ Err x → RunsBlock s c old (Err x) mid number → RunsNext s c old result mid number fs gs
  block_stops x result gs stopped runs p v factors q b k keeps stands block come first =
      subst (λ (r : Result (Option ℕ) StepStop). EndsSo p s (course_seen s c) (block_effect s factors b v) (next_of (begun_in s) k (block_effect s factors b v).variables) r mid gs) (sym stopped)
      (by x ((runs p factors q b stands block).0 (record { variables = v; events = [] }) keeps))
    where
      by : (x : StepStop) → Ends {A = Bool} p s.entries.now (block_effect s factors b v) s.step (Err x) mid → EndsSo p s (course_seen s c) (block_effect s factors b v) (next_of (begun_in s) k (block_effect s factors b v).variables) (Err x) mid gs
      by (stop.At o) h = h
      by stop.NoMemory h = tt

  -- it is done, and the run goes on
  pub block_goes : (holds : Bool) (at : Option ℕ) (new : StepState) (gs : List Frame) → RunsBlock s c old (Ok holds) mid number → OnlyVariables mid new → GoesOn c at mid new fs gs holds → RunsNext s c old (Ok at) new number fs gs
  block_goes holds at new gs runs only goes p v factors q b k keeps stands block come first =
      let e : Effect = record { variables = v; events = [] } in
      let done = runs p factors q b stands block in
      let kept = done.0 e keeps in
      let so = holds_first (begun_in s) q b (paths_in factors) k e holds block first (done.1 e keeps) in
      record {
        arrives = goes s.entries.now p s.code.now (begun_in s) (block_effect s factors b v).variables k come kept.variables so;
        clear = kept.spent.clear;
        writes = items_same _ _ only.writes ∙ kept.writes;
      }

-- Banks that no step has used in this one have spent nothing in it.
other_step : (b : Bank) (now : ℕ) → b.step ≤ now - 1 → 1 ≤ now → (b.step == now) ≡ false
other_step b now e some = by b.step e some
  where
    by : (n : ℕ) → n ≤ now - 1 → 1 ≤ now → (n == now) ≡ false
    by n e f = grind (arith, nat_tests)

used_at : (now : ℕ) (banks : List Bank) (i : ℕ) (b : Bank) → AreUsedBy now banks → slice_get banks i ≡ Some b → b.step ≤ now
used_at now [] i b h e = absurd cc
used_at now (x ∷ banks) zero b h e = subst (λ (y : Bank). y.step ≤ now) (same e) h.0
  where
    same : Some x ≡ Some b → x ≡ b
    same e = cc
used_at now (x ∷ banks) (suc i) b h e = used_at now banks i b h.1 e

used_later : (now later : ℕ) (banks : List Bank) → now ≤ later → AreUsedBy now banks → AreUsedBy later banks
used_later now later [] le h = tt
used_later now later (x ∷ banks) le h = (under x.step h.0, used_later now later banks le h.1)
  where
    under : (n : ℕ) → n ≤ now → n ≤ later
    under n e = omega (arith, e, le)

pub begun_spent : (table : List MemEntry) (now : ℕ) (banks : List Bank) → 1 ≤ now → AreUsedBy (now - 1) banks → HaveSpent table [] now banks
begun_spent table now banks some h = record {
  each = λ memory number b there get.
      let other = other_step b now (used_at (now - 1) banks (first_bank table memory + number) b h get) some in
      record {
        rows = λ row. ap (λ t. has_row (if t then b.rows.items else []) row) other;
        left = ap (λ t. (if t then b.left else ports_at table memory) + spent [] memory number) other ∙ none (ports_at table memory);
      };
  clear = refl;
  used = used_later (now - 1) now banks (omega arith) h;
}
  where
    none : (n : ℕ) → n + 0 ≡ n
    none n = omega arith

module _ (s : StepContext) (c : code.Course) (old mid new : StepState) (number : ℕ) (fs gs : List Frame) (rested : IsRested s old) (variables : mid.variables.items ≡ old.variables.items) (banks : mid.banks.items ≡ old.banks.items) (clear : mid.writes.items ≡ []) where
  begun : (p : Placing) (v : Variables) → Holds p old.variables.items v → Keeps p s.entries.now (record { variables = v; events = [] }) s.step mid
  begun p v holds = record {
    variables = subst (λ (l : List ℕ). Holds p l v) (sym variables) holds;
    spent = subst (λ (l : List Bank). HaveSpent s.entries.now [] s.step l) (sym banks) (begun_spent s.entries.now s.step old.banks.items rested.begins rested.unspent);
    writes = clear;
  }

  pub step_goes : (at : Option ℕ) → RunsNext s c mid (Ok at) new number fs gs → Advances s c old (Ok at) new number fs gs
  step_goes at runs p v factors q b k holds = runs p v factors q b k (begun p v holds)

  pub step_stops : (x : StepStop) (back : StepState) (hs : List Frame) → RunsNext s c mid (Err x) new number fs gs → Advances s c old (Err x) back number fs hs
  step_stops (stop.At outcome) back hs runs p v factors q b k holds stands block come first = runs p v factors q b k (begun p v holds) stands block come first
  step_stops stop.NoMemory back hs runs p v factors q b k holds stands block come first = tt

-- banks that have spent nothing at all
pub unused_by : (now : ℕ) (banks : List Bank) → AreUsedBy 0 banks → AreUsedBy now banks
unused_by now banks = used_later 0 now banks (omega arith)

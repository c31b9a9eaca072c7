-- What the operations of commands do: beside the program's effect so far, all stands as it should.
use Rattle.std.specs.Prelude.{◌≡◌, ℕ, ◌+◌, ◌<◌, ◌^◌, length}
use Rattle.dh_tree.specs.PlainTrees.{Action}
use Rattle.dh_meaning.specs.AccessNumbers.{accesses_of}
use Rattle.dh_meaning.specs.Effects.{Effect, Variables}
use Rattle.dh_meaning.specs.Paths.{Path}
use Rattle.dh_expressions.specs.declared.scenes.Around.{Around}
use Rattle.dh_expressions.specs.declared.scenes.Lane.{Lane}
use Rattle.dh_expressions.specs.declared.scenes.Scene.{Scene}
use Rattle.dh_expressions.specs.Drafted.{BlockBegun, Extends, FitsStep, BlockStep, tale, tales_told}
use Rattle.dh_expressions.specs.Evaluated.{Knows, StepReads}
use Rattle.dh_commands.specs.declared.buildings.Building.{Building}
use Rattle.dh_commands.specs.LanesRun.{is_on_at, lanes_run, path_in, paths_counted, paths_on, run_if}
use Rattle.dh_commands.specs.ShownVariables.{IsSeen, ShowsVariables, register_in}
use Rattle.dh_commands.specs.Undone.{AreReady, Changes}
use Rattle.dh_commands.specs.Followed.{Along, Arms, FitArms, Follows, Sets, effect_of, view_at_step}

-- Beside a program that has come so far in this step: what is noted of reads is known, variables show what the
-- program's hold, the tale is that of its events, each copy of a variable has a register, and no choice is marked.
pub record StandsBeside (scene : Scene) (around : Around) (x : BlockStep) (reads : StepReads) (b : Building) (e : Effect) : Type 0 where
  pub knows : (variables : Variables) → Knows (view_at_step x reads variables) b.accesses
  pub shows : ShowsVariables scene around x b.values.current.items e.variables
  pub tells : tale x b.draft ≡ tales_told e.events
  pub room : (entity number : ℕ) → IsSeen scene around.levels.now entity → number < paths_counted around → register_in scene around entity number < length b.values.current.items
  pub ready : AreReady b.values

-- from one building to another what stood beside an effect stands beside what a run makes of it
pub record Does (scene : Scene) (around : Around) (May : ℕ → Type 0) (Premise : BlockStep → StepReads → Effect → Type 0) (run : BlockStep → Effect → Effect) (old new : Building) : Type 0 where
  pub extends : Extends old.draft new.draft
  pub changes : AreReady old.values → Changes scene around May old.values new.values
  pub so : (x : BlockStep) (reads : StepReads) (e : Effect) → FitsStep x new.draft → BlockBegun x old.draft → Premise x reads e
      → StandsBeside scene around x reads old e → StandsBeside scene around x reads new (run x e)

-- at one path, where its guard holds
abbrev pub DoesPath : Scene → Around → (May : ℕ → Type 0) → (Premise : ℕ → BlockStep → StepReads → Variables → Type 0) → (run : BlockStep → Path → Effect → Effect) → (number : ℕ) → (old new : Building) → Type 0
DoesPath scene around May Premise run number old new =
    number < paths_counted around
    → Does scene around May (λ x reads e. Premise number x reads e.variables) (λ x e. run_if (is_on_at x around number) (run x) (path_in around number) e) old new

-- at the first paths, so many
abbrev pub DoesPaths : Scene → Around → (May : ℕ → Type 0) → (Premise : ℕ → BlockStep → StepReads → Variables → Type 0) → (run : BlockStep → Path → Effect → Effect) → (count : ℕ) → (old new : Building) → Type 0
DoesPaths scene around May Premise run count old new =
    Does scene around May (λ x reads e. Along around x reads Premise (run x) e count) (λ x e. lanes_run x around (run x) count e) old new

-- the number of the next access behind so many more, where the numbers are few
abbrev pub IsNextAccess : (first count next : ℕ) → Type 0
IsNextAccess first count next = first + count < 2 ^ 32 → next ≡ first + count

-- a command of which each path makes so many accesses, from a first one on: at one path, and at the first so many
pub record DoesCommandAtPath (scene : Scene) (lane : Lane) (May : ℕ → Type 0) (Premise : ℕ → BlockStep → StepReads → Variables → Type 0) (run : BlockStep → Path → Effect → Effect) (first count next : ℕ) (old new : Building) : Type 0 where
  pub next_is : IsNextAccess first count next
  pub so : first + count < 2 ^ 32 → DoesPath scene lane.around May Premise run lane.number old new

pub record DoesCommandAtPaths (scene : Scene) (around : Around) (May : ℕ → Type 0) (Premise : ℕ → BlockStep → StepReads → Variables → Type 0) (run : BlockStep → Path → Effect → Effect) (first count next paths : ℕ) (old new : Building) : Type 0 where
  pub next_is : 0 < paths → IsNextAccess first count next
  pub so : first + count < 2 ^ 32 → DoesPaths scene around May Premise run paths old new

-- a command at all paths
pub record DoesCommand (scene : Scene) (around : Around) (a : Action) (first next : ℕ) (old new : Building) : Type 0 where
  pub next_is : 0 < paths_counted around → IsNextAccess first (accesses_of a) next
  pub arms : Arms
  pub shaped : FitArms a arms
  pub so : 0 < paths_counted around → first + accesses_of a < 2 ^ 32
      → Does scene around (Sets scene a) (λ x reads e. Follows scene x reads around arms first a e) (λ x e. effect_of scene x (paths_on x around) first a e) old new

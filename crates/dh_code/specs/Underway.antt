-- Lists of commands that are under way.
use Rattle.std.specs.Prelude.{◌≡◌, ℕ, ◌+◌, ◌≤◌, List, Option, Some, None}
use Rattle.dh_meaning.specs.Paths.{Path}
use Rattle.dh_meaning.specs.Core.{CoreCommands}
use Rattle.dh_meaning.specs.Effects.{Effect, commands_run}
use Rattle.dh_code.specs.declared.evaluating.StepContext.{StepContext}
use Rattle.dh_code.specs.declared.running.StepState.{StepState}
use Rattle.dh_code.specs.Coded.{AreCoded}
use Rattle.dh_code.specs.Scenes.{begun_in}
use Rattle.dh_code.specs.Slots.{Placing}
use Rattle.dh_code.specs.States.{AreRows, IsReadyState, Keeps, KeepsBack}
use Rattle.dh_code.specs.Suited.{CanDoAll}

-- how many numbers there are up to the beginning of a list
abbrev pub list_depth : Option ℕ → ℕ
list_depth None = 0
list_depth (Some n) = n + 1

-- commands that were done up to one
pub record RunSoFar (s : StepContext) (old : StepState) (rows : List (List ℕ)) (numbers : List ℕ) (first : Option ℕ) (now : StepState) (list : Option ℕ) : Type 0 where
  pub ready : IsReadyState s now
  pub back : KeepsBack old now
  pub low : list_depth list ≤ list_depth first
  pub ran : (p : Placing) (factors : List ℕ) (paths : List Path) (cs : CoreCommands) → AreRows factors rows numbers paths → AreCoded p.held s.entries.now s.code.now first cs → CanDoAll s.entries.now p factors cs
      → (e : Effect) → Keeps p s.entries.now e s.step old
      → (rest : CoreCommands) × ((so_far : Effect) × ((AreCoded p.held s.entries.now s.code.now list rest × CanDoAll s.entries.now p factors rest)
      × (Keeps p s.entries.now so_far s.step now × (commands_run (begun_in s) paths rest so_far ≡ commands_run (begun_in s) paths cs e))))

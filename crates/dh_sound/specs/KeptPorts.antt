-- What soundness is told of: a program that keeps its rules, and that no run of it is stuck.
use Rattle.std.specs.Prelude.{◌≡◌, ℕ, List}
use Rattle.dh_base.specs.declared.outcomes.Outcome.TheVariants.{Stuck}
use Rattle.dh_base.specs.declared.places.Place.{Place}
use Rattle.dh_tree.specs.PlainTrees.{Program}
use Rattle.dh_meaning.specs.CoreOf.{core_of}
use Rattle.dh_meaning.specs.Runs.{run_state}
use Rattle.dh_meets.specs.Ports.{KeepsPorts}
use Rattle.dh_tree.specs.Ready.{IsReady}
use Rattle.dh_sound.specs.BlockTold.{AccessesDeclared}
use Rattle.dh_sound.specs.BlocksOfPhases.{TellsBlocks}
use Rattle.dh_sound.specs.IndexRules.{KeepsIndexRules}
use Rattle.dh_sound.specs.Standing.{IsPlaceInTurn}

-- A program of which all is told that soundness rests on. That it is told of each program that the passes accept is a
-- law (`Accepted` says what they tell).
pub record HasSoundnessBasis (p : Program) : Type 0 where
  pub ready : IsReady p
  -- it breaks no rule on indices, in reducers either, and keeps its ports
  pub rules : KeepsIndexRules p
  pub keeps : KeepsPorts p
  -- each access is of a memory
  pub declared : AccessesDeclared p
  -- what is assigned in copies has a value for each copy, and the indices of accesses name what is in scope
  pub tells : TellsBlocks p

-- no run of a program, from whatever memories, is ever stuck
abbrev pub IsNeverStuck : Program → Type 0
IsNeverStuck p = (memories : List (List ℕ)) (n memory bank : ℕ) (place : Place) → (run_state (core_of p) memories n).outcome ≡ Stuck memory bank place → ⊥

-- each run of a program stands at a block of it, whose loops are in turns, or is at its end
abbrev pub StandsAlways : Program → Type 0
StandsAlways p = (memories : List (List ℕ)) (n : ℕ) → IsPlaceInTurn (core_of p) (run_state (core_of p) memories n).place (run_state (core_of p) memories n).variables

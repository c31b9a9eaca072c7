-- When the runs of two plans are one: their nodes, registers, memories and faults are the same, and in each step of the
-- first each block of the second does what the same block of the first does. Registers are compared set by set: in one
-- step a block of a later thread sets them behind those of earlier threads, so equal registers would not do.
use Rattle.std.specs.Prelude.{◌≡◌, ℕ, ◌<◌, List, [], ◌∷◌, slice_index, None}
use Rattle.std.specs.List.{AllByRecursion}
use Rattle.dh_tree.specs.Tables.{Fits}
use Rattle.dh_plan.specs.PlainPlans.{PlainPlan}
use Rattle.dh_plan.specs.Blocks.{first_fault, puts_of}
use Rattle.dh_plan.specs.Correspondence.{FitKinds}
use Rattle.dh_plan.specs.DoneProgram.{RunTheSame}
use Rattle.dh_plan.specs.PlanRuns.{start_at, events_of_block, sets_of_block}
use Rattle.dh_plan.specs.SoundPlans.{Counting, IsStepOf, IsFormed}

-- in a step that begins so a block has the same first fault, and without one the same writes and sets
pub record DoesAlike (p q : PlainPlan) (block : ℕ) (registers : List ℕ) (memories : List (List ℕ)) : Type 0 where
  pub fault : first_fault (events_of_block q (start_at q registers memories) block) ≡ first_fault (events_of_block p (start_at p registers memories) block)
  pub puts : first_fault (events_of_block p (start_at p registers memories) block) ≡ None
      → puts_of (events_of_block q (start_at q registers memories) block) ≡ puts_of (events_of_block p (start_at p registers memories) block)
  pub sets : first_fault (events_of_block p (start_at p registers memories) block) ≡ None
      → sets_of_block q (start_at q registers memories) block ≡ sets_of_block p (start_at p registers memories) block

-- so whatever registers and memories hold of their kinds, with each loop round it in a turn
abbrev pub BlocksDoAlike : PlainPlan → PlainPlan → Type 0
BlocksDoAlike p q =
    (block : ℕ) (loops : List Counting) → IsStepOf [] p.body (block ∷ []) loops
    → (registers : List ℕ) (memories : List (List ℕ)) → FitKinds p.registers registers → Fits p.table memories
    → AllByRecursion (λ c. slice_index registers c.counter < c.turns) loops
    → DoesAlike p q block registers memories

abbrev pub PlansRunAlike : Type 0
PlansRunAlike =
    (p q : PlainPlan) → IsFormed p → q.registers ≡ p.registers → q.body ≡ p.body → q.faults ≡ p.faults
    → BlocksDoAlike p q → RunTheSame p q

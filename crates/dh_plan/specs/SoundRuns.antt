-- How a plan that is well formed runs from memories that fit: each value of a block is of its kind, registers and
-- memories keep theirs, and each step that the run makes is one of the plan's steps. So what is stated of a plan's
-- steps, whatever values registers and memories hold, is so in every run.
use Rattle.std.specs.Prelude.{◌≡◌, ℕ, ◌<◌, ◌^◌, List, [], ◌∷◌, slice_index}
use Rattle.std.specs.List.{AllByRecursion}
use Rattle.dh_base.specs.declared.outcomes.Outcome.TheVariants.{Going}
use Rattle.dh_value.specs.declared.kinds.Kind.{Kind}
use Rattle.dh_value.specs.declared.words.Word.{Word}
use Rattle.dh_value.specs.Words.{width_of}
use Rattle.dh_tree.specs.declared.tables.MemEntry.{MemEntry}
use Rattle.dh_tree.specs.Tables.{Fits}
use Rattle.dh_meaning.specs.Effects.{kind_in}
use Rattle.dh_plan.specs.declared.operations.Reach.{Reach}
use Rattle.dh_plan.specs.PlainPlans.{PlainPlan, first_in, operations_in}
use Rattle.dh_plan.specs.Blocks.{Look, word_at, values_of_operations}
use Rattle.dh_plan.specs.Correspondence.{FitKinds}
use Rattle.dh_plan.specs.PlanKinds.{kind_of_value, kinds_of, IsFormedBlock}
use Rattle.dh_plan.specs.PlanRuns.{start_at, blocks_at, block_values, PlanState, plan_state}
use Rattle.dh_plan.specs.SoundPlans.{Counting, IsOneOf, IsStepOf, IsFormed}

-- Values.

-- the word has this kind, and no bit from its width upwards; a kind of a register may have any width
pub record IsInKind (kind : Kind) (w : Word) : Type 0 where
  pub same : w.kind ≡ kind
  pub small : w.bits < 2 ^ width_of kind

-- what a read shows fits the kind of its memory
abbrev pub LooksFit : List MemEntry → Look → Type 0
LooksFit table look = (number : ℕ) (r : Reach) (ws : List Word) → look number r ws < 2 ^ width_of (kind_in table r.memory)

-- the values of a block are of the kinds of their operations, and fit them; a number that names none has false
abbrev pub AreInKinds : PlainPlan → (block : ℕ) → List Word → Type 0
AreInKinds plan block ws = (number : ℕ) → IsInKind (kind_of_value (first_in plan block) (kinds_of plan block) number) (word_at (first_in plan block) ws number)

-- so where registers fit, and whatever reads show that fits
abbrev pub BlockValuesFit : Type 0
BlockValuesFit =
    (plan : PlainPlan) (block : ℕ) (registers : List ℕ) (memories : List (List ℕ)) (look : Look)
    → IsFormedBlock plan block → FitKinds plan.registers registers → LooksFit plan.table look
    → AreInKinds plan block (values_of_operations (start_at plan registers memories) look (first_in plan block) (operations_in plan block))

-- in a plan reads show what is in memories
abbrev pub PlanValuesFit : Type 0
PlanValuesFit =
    (plan : PlainPlan) (block : ℕ) (registers : List ℕ) (memories : List (List ℕ))
    → IsFormedBlock plan block → FitKinds plan.registers registers → Fits plan.table memories
    → AreInKinds plan block (block_values plan (start_at plan registers memories) block)

-- Steps.

-- a step of the plan does these blocks, with each loop round them in a turn of its own
pub record IsStepInTurns (plan : PlainPlan) (registers blocks : List ℕ) : Type 0 where
  pub loops : List Counting
  pub step : IsStepOf [] plan.body blocks loops
  pub turns : AllByRecursion (λ c. slice_index registers c.counter < c.turns) loops

-- each block of such a step is one by itself
abbrev pub BlocksStepAlone : Type 0
BlocksStepAlone =
    (plan : PlainPlan) (registers blocks : List ℕ) → IsStepInTurns plan registers blocks
    → (block : ℕ) → IsOneOf block blocks → IsStepInTurns plan registers (block ∷ [])

-- registers and memories fit, and where the run goes on its next step is one of the plan
pub record StandsInStep (plan : PlainPlan) (s : PlanState) : Type 0 where
  pub fit : FitKinds plan.registers s.registers
  pub memories_fit : Fits plan.table s.memories
  pub step : s.outcome ≡ Going → IsStepInTurns plan s.registers (blocks_at s.place)

abbrev pub RunsMakeSteps : Type 0
RunsMakeSteps =
    (plan : PlainPlan) (memories : List (List ℕ)) → IsFormed plan → Fits plan.table memories
    → (n : ℕ) → StandsInStep plan (plan_state plan memories n)

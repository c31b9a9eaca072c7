-- A block whole: it is what was put down since it began. Its own kinds and its own least clocks agree with it, so that
-- all that is stated for every such list holds of the block.
use Rattle.std.specs.Prelude.{◌≡◌, ℕ, ◌<◌, ◌≤◌, ◌^◌, suc, List, [], ◌∷◌, ◌++◌, length, Option}
use Rattle.dh_plan.specs.declared.operations.Operation.{Operation}
use Rattle.dh_plan.specs.LegalSchedules.{block_clocks, least_clocks, there_at}
use Rattle.dh_plan.specs.Ordered.{IsOrdered}
use Rattle.dh_plan.specs.PlainPlans.{PlainPlan, first_in, operations_in}
use Rattle.dh_plan.specs.PlanKinds.{IsFormedBlock, kinds_of}
use Rattle.dh_expressions.specs.declared.drafts.Draft.{Draft}
use Rattle.dh_formed.specs.Formed.{Agrees, FormedBlock, Forms, BlockSite, Started}
use Rattle.dh_formed.specs.Timed.{AgreeInTime, BlockClocks, StartedInTime, Within, clock_of}

-- the operations of a block are those from one draft to another; the faults then are among those of the plan
pub record IsCut (plan : PlainPlan) (block : ℕ) (old new : Draft) : Type 0 where
  pub first : first_in plan block ≡ length old.operations.items
  pub operations : new.operations.items ≡ old.operations.items ++ operations_in plan block
  pub faults : length new.faults ≤ length plan.faults
  pub few : length plan.faults ≤ 2 ^ 32

-- a block with its own kinds
abbrev pub block_of : PlainPlan → (block : ℕ) → (sites : ℕ → Option BlockSite) → FormedBlock
block_of plan block sites = record { plan = plan; first = first_in plan block; kinds = kinds_of plan block; sites = sites }

abbrev pub BlocksAgree : Type 0
BlocksAgree =
    (plan : PlainPlan) (block : ℕ) (sites : ℕ → Option BlockSite) (old new : Draft) → IsCut plan block old new
    → Agrees (block_of plan block sites) new × Started (block_of plan block sites) old

-- so a block is formed whose operations are
abbrev pub BlocksAreFormed : Type 0
BlocksAreFormed =
    (plan : PlainPlan) (block : ℕ) (sites : ℕ → Option BlockSite) (old new : Draft) → IsCut plan block old new
    → Forms (block_of plan block sites) old new → IsFormedBlock plan block

-- when the values of operations with these clocks are there
abbrev pub there_of : List Operation → (clocks : List ℕ) → List ℕ
there_of [] cs = []
there_of (o ∷ os) [] = []
there_of (o ∷ os) (c ∷ cs) = there_at o.form c ∷ there_of os cs

-- a block with its own least clocks
abbrev pub least_clocks_of : PlainPlan → (block : ℕ) → (sites : ℕ → Option BlockSite) → (reads outer : ℕ → ℕ) → BlockClocks
least_clocks_of plan block sites reads outer = record {
  block = block_of plan block sites;
  there = there_of (operations_in plan block) (least_clocks (first_in plan block) [] [] (operations_in plan block));
  reads = reads;
  outer = outer;
}

abbrev pub BlocksAgreeInTime : Type 0
BlocksAgreeInTime =
    (plan : PlainPlan) (block : ℕ) (sites : ℕ → Option BlockSite) (reads outer : ℕ → ℕ) (old new : Draft) → IsCut plan block old new → IsOrdered (first_in plan block) (operations_in plan block)
    → AgreeInTime (least_clocks_of plan block sites reads outer) new × StartedInTime (least_clocks_of plan block sites reads outer) old

-- a block is as long as the clock of its last value, and one more
pub record HasLength (plan : PlainPlan) (block : ℕ) (sites : ℕ → Option BlockSite) (reads outer : ℕ → ℕ) (old new : Draft) : Type 0 where
  pub most : (k : ℕ) → Within (least_clocks_of plan block sites reads outer) old new k → block_clocks plan block ≤ suc k
  pub least : (n : ℕ) → length old.operations.items ≤ n → n < length new.operations.items → suc (clock_of (least_clocks_of plan block sites reads outer) n) ≤ block_clocks plan block

abbrev pub BlocksHaveLengths : Type 0
BlocksHaveLengths =
    (plan : PlainPlan) (block : ℕ) (sites : ℕ → Option BlockSite) (reads outer : ℕ → ℕ) (old new : Draft) → IsCut plan block old new → HasLength plan block sites reads outer old new

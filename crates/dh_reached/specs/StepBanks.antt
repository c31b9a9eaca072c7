-- In a step that does a block each operation reaches the bank that it lists, and no two reach one with one place; accesses
-- that never meet do not both reach one; and writes stand in order.
use Rattle.std.specs.Prelude.{◌≡◌, ℕ, ◌<◌, List, [], ◌∷◌, length, Option, Some}
use Rattle.dh_tree.specs.Meets.{Apart, Before, In, Meets}
use Rattle.dh_plan.specs.PlainPlans.{PlainPlan, operations_in}
use Rattle.dh_plan.specs.PlanRuns.{start_at}
use Rattle.dh_plan.specs.SoundPlans.{KeepsBanks}
use Rattle.dh_expressions.specs.Copying.{DoneBy}
use Rattle.dh_expressions.specs.Drafted.{BlockStep}
use Rattle.dh_formed.specs.Formed.{BlockSite}
use Rattle.dh_blocks.specs.BlockMade.{step_of_block}
use Rattle.dh_reached.specs.Puts.{AreInOrder, EachUse, IsSitedUse, OperationAtPath, operations_of}

-- What a block reads and writes in a step, whole.
pub record BlockUses (plan : PlainPlan) (block : ℕ) (x : BlockStep) (sites : ℕ → Option BlockSite) : Type 0 where
  pub puts : List OperationAtPath
  pub all : operations_in plan block ≡ operations_of puts
  pub uses : EachUse (IsSitedUse x sites) puts
  pub order : AreInOrder x sites puts

-- accesses in a tree stand in the order of their numbers
abbrev pub StandInOrder : Meets → Type 0
StandInOrder t = (a b : ℕ) → In a t → In b t → a < b → Before t a b

-- of two accesses that never meet one at most is done
abbrev pub NeverBoth : Meets → BlockStep → (sites : ℕ → Option BlockSite) → Type 0
NeverBoth meets x sites =
    (j k m n : ℕ) (s t : BlockSite) → sites j ≡ Some s → sites k ≡ Some t → Apart meets j k
    → DoneBy x s.standing.leader s.standing.guards (length s.standing.guards) m → DoneBy x t.standing.leader t.standing.guards (length t.standing.guards) n → ⊥

-- so such a step keeps the banks; each access of the block is one of those of the plan
abbrev pub BlocksKeepBanks : Type 0
BlocksKeepBanks =
    (plan : PlainPlan) (block : ℕ) (registers : List ℕ) (memories : List (List ℕ)) (sites : ℕ → Option BlockSite)
    → BlockUses plan block (step_of_block plan block registers memories) sites → StandInOrder plan.meets → ((number : ℕ) (s : BlockSite) → sites number ≡ Some s → In number plan.meets)
    → NeverBoth plan.meets (step_of_block plan block registers memories) sites → KeepsBanks plan (start_at plan registers memories) (block ∷ [])

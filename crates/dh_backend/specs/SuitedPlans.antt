-- What a netlist asks of a plan beside its meaning: registers of 1 to 64 bits, and few faults and clocks.
use Rattle.std.specs.Prelude.{ℕ, suc, ◌<◌, ◌≤◌, ◌^◌, ◌%◌, List, length, map}
use Rattle.std.specs.List.{AllByRecursion}
use Rattle.dh_value.specs.Words.{IsKind}
use Rattle.dh_tree.specs.PlainTrees.{Program}
use Rattle.dh_plan.specs.DoneProgram.{IsPlanOf}
use Rattle.dh_plan.specs.LegalSchedules.{Timing, IsLeastSchedule, block_clocks}
use Rattle.dh_plan.specs.Passes.{IsToCompile}
use Rattle.dh_plan.specs.PlainPlans.{PlainPlan, operations_in, operation_count}
use Rattle.dh_plan.specs.ScheduleLaws.{without_limits}

-- What the pass that makes copies into operations states of its plan beside `IsPlanOf`: each register has from 1 to 64
-- bits. It does not follow from that: a register may stand unused.
pub record SuitsNets (plan : PlainPlan) : Type 0 where
  pub registers : AllByRecursion IsKind plan.registers

-- a plan of a program that is to be compiled
pub record IsCompiled (plan : PlainPlan) : Type 0 where
  pub program : Program
  pub asked : IsToCompile program
  pub is_plan : IsPlanOf program plan
  pub suits : SuitsNets plan

-- registers have from 1 to 64 bits, and a fault has a number from 1 of 32 bits
pub record FitsNets (plan : PlainPlan) : Type 0 where
  pub registers : AllByRecursion IsKind plan.registers
  pub faults : length plan.faults < 2 ^ 32

-- numbers of 64 bits
abbrev pub AreWordSized : List ℕ → Type 0
AreWordSized ns = AllByRecursion (λ n. n < 2 ^ 64) ns

-- numbers up to a greatest
abbrev pub AreUpTo : (most : ℕ) → List ℕ → Type 0
AreUpTo most ns = AllByRecursion (λ n. n ≤ most) ns

-- the lowest 64 bits of each
abbrev pub low_words : List ℕ → List ℕ
low_words ns = map (λ n. n % 2 ^ 64) ns

-- without limits a block is no longer than it has operations, and one clock more
abbrev pub BlocksAreShort : PlainPlan → Type 0
BlocksAreShort plan = (block : ℕ) → block_clocks plan block ≤ suc (length (operations_in plan block))

-- without limits no clock of a least schedule is greater than there are operations, and no length but by one
abbrev pub TimesAreSmall : PlainPlan → Type 0
TimesAreSmall plan =
    (t : Timing) → IsLeastSchedule plan without_limits t → AreUpTo (operation_count plan) t.clocks × AreUpTo (suc (operation_count plan)) t.lengths

-- the plan of a program within the limit on plans has few faults
abbrev pub FaultsAreFew : Program → Type 0
FaultsAreFew p = (plan : PlainPlan) → IsToCompile p → IsPlanOf p plan → length plan.faults < 2 ^ 32

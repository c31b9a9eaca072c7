-- Of a program's plan, and of what its net is made of, to the program.
use Rattle.std.proofs.Common.{◌≡◌, ℕ, ◌<◌, ◌≤◌, List, sym, subst, ◌∙◌, arith}
use Rattle.std.specs.Prelude.{[], min}
use Rattle.std.specs.List.{AllByRecursion}
use Rattle.dh_tree.specs.declared.tables.MemEntry.{MemEntry}
use Rattle.dh_tree.specs.Memories.{table_of}
use Rattle.dh_tree.specs.PlainTrees.{Program}
use Rattle.dh_tree.specs.Tables.{Fits}
use Rattle.dh_meaning.specs.CoreOf.{core_of}
use Rattle.dh_net.specs.declared.nets.Net.{Net}
use Rattle.dh_net.specs.Plays.{Run}
use Rattle.dh_plan.specs.DoneProgram.{IsPlanOf, IsAddressingOf}
use Rattle.dh_plan.specs.LegalSchedules.{Timing, IsLeastSchedule}
use Rattle.dh_plan.specs.Passes.{IsToCompile, IsTooLarge, uses_seen}
use Rattle.dh_plan.specs.PlainPlans.{PlainPlan, Nodes}
use Rattle.dh_plan.specs.PlanKinds.{Names}
use Rattle.dh_plan.specs.PlanSizes.{plan_size_of, size_reported, most_plan}
use Rattle.dh_plan.specs.PlayedPlans.{plan_run, program_run, WritesLast, PlaysPlan}
use Rattle.dh_plan.specs.ScheduleLaws.{without_limits}
use Rattle.dh_plan.specs.SeenPlans.{plan_seen}
use Rattle.dh_plan.specs.SoundPlans.{blocks_of}
use Rattle.dh_plan.proofs.Composed.{nodes_timed, plays_before}
use Rattle.dh_plan.proofs.LeastLengths.{has_least_lengths}
use Rattle.dh_plan.proofs.PlayedProgram.{runs_same}
use Rattle.dh_backend.specs.NetParts.{ArePartsOf, times_seen}
use Rattle.dh_backend.specs.SuitedPlans.{IsCompiled}
use Rattle.dh_backend.specs.declared.parts.NetParts.{NetParts}
use Rattle.dh_backend.proofs.Unstuck.{accepted_never_stuck}
use Rattle.dh_backend.proofs.PartsPlay.{parts_play_programs}
use Rattle.dh_build.specs.BuiltPlans.{CanBuild}
use Rattle.dh_compile.specs.JoinedSwept.{IsPlanNet}
use Rattle.dh_unroll.specs.Unrolled.{IsUnrolled}
use Rattle.dh_compile.specs.Compiled.{IsNetOfProgram}

-- a net may be built of the parts
pub parts_may_be_built : (plan : PlainPlan) (parts : NetParts) → ArePartsOf plan parts → CanBuild (plan_seen parts.plan) parts.passed.graph (times_seen parts.passed.times) (uses_seen parts.passed.binding)
parts_may_be_built plan parts h = record { limits = without_limits; may = h.may_build; kinds = h.fits.registers; few_faults = h.fits.faults; alone = h.never_forks.alone }

pub unrolled_is_compiled : (p : Program) (plan : PlainPlan) → IsToCompile p → IsUnrolled p plan → IsCompiled plan
unrolled_is_compiled p plan asked h = record { program = p; asked = asked; is_plan = h.is_plan; suits = record { registers = h.registers } }

-- a driver that writes is active only in the last clock of a step of the program
writes_last : (p : Program) (u q : PlainPlan) (t : Timing) (net : Net) → IsToCompile p → IsPlanOf p u → IsAddressingOf u q → IsLeastSchedule q without_limits t → PlaysPlan q t.lengths net
    → (start : List (List ℕ)) → Fits (table_of p) start → WritesLast net (program_run p start) start
writes_last p u q t net asked plan a schedule plays start fits =
    let within = subst (λ (ns : Nodes). AllByRecursion (λ (b : ℕ). Names q.blocks b) (blocks_of ns)) a.body a.sound.formed.nodes in
    let times = nodes_timed p u q t.lengths (λ block inside. has_least_lengths q t schedule block inside ∙ a.lengths block) [] (core_of p).phases u.body plan.lengths within in
    let same : plan_run u t.lengths start ≡ program_run p start =
    runs_same p u plan.slots t.lengths plan.table plan.sound.formed.counters.wide plan.sound.formed.counters_kept plan.phases times (accepted_never_stuck p asked.ready asked.ports) start in
    subst (λ (r : Run). WritesLast net r start) same ((plays_before u q t.lengths net a plays).writes start (subst (λ (l : List MemEntry). Fits l start) (sym plan.table) fits))

pub net_of_program : (p : Program) (plan : PlainPlan) (parts : NetParts) (net : Net) → IsToCompile p → IsPlanOf p plan → ArePartsOf plan parts → IsPlanNet (plan_seen parts.plan) parts.passed.times.lengths net
    → IsNetOfProgram p net
net_of_program p plan parts net asked of h built = record {
  small = asked.small;
  plays = parts_play_programs p plan parts net asked of h built.plays;
  zero_reads = built.zero_reads;
  shifts = built.shifts;
  needed = built.needed;
  writes = writes_last p plan (plan_seen parts.plan) (times_seen parts.passed.times) net asked of h.addressed h.passed.least built.plays;
}

-- Sizes.

pub too_large : (p : Program) (size : ℕ) → size ≡ size_reported p → most_plan < size → IsTooLarge p size
too_large p size is more = (over (plan_size_of p) size is more, is)
  where
    over : (n m : ℕ) → m ≡ min n 1000000000 → 200000 < m → 200000 < n
    over n m e h = grind arith

pub is_small : (p : Program) (size : ℕ) → size ≡ size_reported p → size ≤ most_plan → plan_size_of p ≤ most_plan
is_small p size is few = under (plan_size_of p) size is few
  where
    under : (n m : ℕ) → m ≡ min n 1000000000 → m ≤ 200000 → n ≤ 200000
    under n m e h = grind arith

-- What the passes promise together.
use Rattle.std.proofs.Common.{List, length, sym, subst, ◌<◌, ◌^◌}
use Rattle.std.specs.List.{AllByRecursion}
use Rattle.dh_base.specs.declared.outcomes.FaultKind.{FaultKind}
use Rattle.dh_base.specs.declared.places.Place.{Place}
use Rattle.dh_value.specs.declared.kinds.Kind.{Kind}
use Rattle.dh_value.specs.Words.{IsKind}
use Rattle.dh_tree.specs.PlainTrees.{Program}
use Rattle.dh_plan.specs.BoundPorts.{IsBinding}
use Rattle.dh_plan.specs.DoneProgram.{IsAddressingOf}
use Rattle.dh_plan.specs.LegalSchedules.{Timing, IsLeastSchedule}
use Rattle.dh_plan.specs.Passes.{MayBind, uses_seen}
use Rattle.dh_plan.specs.PlainPlans.{PlainPlan}
use Rattle.dh_plan.specs.ScheduleLaws.{without_limits}
use Rattle.dh_plan.specs.SeenGraphs.{IsGraphOf}
use Rattle.dh_plan.specs.SeenPlans.{plan_seen}
use Rattle.dh_plan.proofs.Composed.{passes_compose}
use Rattle.dh_backend.specs.NetParts.{times_seen, AreTimesOf, ArePassed, ArePartsOf, PartsPlayPrograms}
use Rattle.dh_flow.specs.StraightGraphs.{IsOneThread, StaysOneThread}
use Rattle.dh_backend.specs.SuitedPlans.{IsCompiled}
use Rattle.dh_backend.specs.declared.parts.NetParts.{NetParts}
use Rattle.dh_backend.specs.declared.parts.Passed.{Passed}
use Rattle.dh_backend.proofs.FaultsFew.{faults_are_few}
use Rattle.dh_backend.proofs.OneThreads.{plans_are_one_thread}
use Rattle.dh_backend.proofs.PortsCarried.{plans_keep_ports, addresses_keep_ports}
use Rattle.dh_backend.proofs.SmallTimes.{some_lengths}
use Rattle.dh_backend.proofs.WaysWithin.{goes_within}
use Rattle.dh_backend.proofs.Unstuck.{accepted_never_stuck}

-- what is told of a schedule is told of its words
pub are_passed : (plan : PlainPlan) (timing : Timing) (m : Passed) → IsLeastSchedule plan without_limits timing → AreTimesOf timing m.times
    → IsBinding plan timing (uses_seen m.binding) → IsGraphOf plan m.graph → StaysOneThread plan m.graph → ArePassed plan m
are_passed plan timing m least times bound graph thread =
    record {
      graph = graph;
      least = subst (IsLeastSchedule plan without_limits) (sym times.same) least;
      bound = subst (λ (t : Timing). IsBinding plan t (uses_seen m.binding)) (sym times.same) bound;
      clocks = times.clocks;
      lengths = times.lengths;
      some = some_lengths plan (times_seen m.times) (subst (IsLeastSchedule plan without_limits) (sym times.same) least);
      thread = thread;
    }

-- the plan with banks and rows may be bound
pub may_bind : (plan q : PlainPlan) → IsCompiled plan → IsAddressingOf plan q → MayBind q
may_bind plan q c a =
    record { sound = a.sound; ports = addresses_keep_ports plan q a (plans_keep_ports c.program plan c.asked.ready c.asked.ports c.is_plan) }

-- all that is asked of the parts
pub are_parts : (plan : PlainPlan) (parts : NetParts) → IsCompiled plan → IsAddressingOf plan (plan_seen parts.plan) → ArePassed (plan_seen parts.plan) parts.passed → ArePartsOf plan parts
are_parts plan parts c a m =
    let one = subst IsOneThread (sym a.body) (plans_are_one_thread c.program plan c.is_plan) in
    record {
      addressed = a;
      passed = m;
      may_build = record { sound = a.sound; addressed = a.addressed; graph = m.graph; legal = m.least.legal; bound = m.bound };
      fits = record {
        registers = subst (λ (ks : List Kind). AllByRecursion IsKind ks) (sym a.registers) c.suits.registers;
        faults = subst (λ (fs : List (FaultKind × Place)). length fs < 2 ^ 32) (sym a.faults) (faults_are_few c.program plan c.asked c.is_plan);
      };
      one_thread = one;
      never_forks = m.thread one;
      goes_within = goes_within (plan_seen parts.plan) parts.passed.graph m.graph (m.thread one);
    }

pub parts_play_programs : (p : Program) → PartsPlayPrograms p
parts_play_programs p plan parts net asked of made plays =
    passes_compose p plan (plan_seen parts.plan) (times_seen parts.passed.times) net (accepted_never_stuck p asked.ready asked.ports) of made.addressed made.passed.least plays

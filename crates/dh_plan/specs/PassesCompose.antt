-- What the passes make together: the theorem of the compiler from the contracts of its passes.
use Rattle.dh_tree.specs.PlainTrees.{Program}
use Rattle.dh_meaning.specs.CoreOf.{core_of}
use Rattle.dh_net.specs.declared.nets.Net.{Net}
use Rattle.dh_plan.specs.DoneProgram.{NeverStuck, IsPlanOf, IsAddressingOf}
use Rattle.dh_plan.specs.LegalSchedules.{Timing, IsLeastSchedule}
use Rattle.dh_plan.specs.PlainPlans.{PlainPlan}
use Rattle.dh_plan.specs.PlayedPlans.{PlaysPlan, PlaysItsProgram}
use Rattle.dh_plan.specs.ScheduleLaws.{without_limits}

-- A net that plays the addressed plan of a program's plan, with the lengths of the least schedule without limits,
-- plays the program.
abbrev pub PassesCompose : Program → Type 0
PassesCompose p =
    (plan addressed : PlainPlan) (t : Timing) (net : Net)
    → NeverStuck (core_of p) → IsPlanOf p plan → IsAddressingOf plan addressed → IsLeastSchedule addressed without_limits t
    → PlaysPlan addressed t.lengths net → PlaysItsProgram p net

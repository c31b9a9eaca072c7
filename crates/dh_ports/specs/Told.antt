-- What is told of a program by the passes before, and what the check of ports tells of it.
use Rattle.std.specs.Prelude.{◌≡◌, List, Option, Some, None, Result, Ok, Err}
use Rattle.dh_base.specs.declared.faults.PassFault.{PassFault}
use Rattle.dh_base.specs.declared.faults.PassFault.TheVariants as fault
use Rattle.dh_base.specs.declared.lists.NoMemory.{NoMemory}
use Rattle.dh_tree.specs.declared.breaches.Breach.{Breach}
use Rattle.dh_tree.specs.declared.trees.programs.Tree.{Tree}
use Rattle.dh_tree.specs.LeastBreach.{breach}
use Rattle.dh_tree.specs.Memories.{table_of}
use Rattle.dh_tree.specs.PlainTrees.{Program}
use Rattle.dh_tree.specs.Ready.{IsReady}
use Rattle.dh_tree.specs.Seen.{program_seen}
use Rattle.dh_tree.specs.Shapes.{IsProgramTable}
use Rattle.dh_meets.specs.FewCopies.{HasFewCopies, NamesBanks}
use Rattle.dh_meets.specs.Ports.{KeepsPortRules, IsFirstPortBreach}
use Rattle.dh_events.specs.declared.events.Event.{Event}
use Rattle.dh_ports.specs.Wholes.{AreEventsOf}

-- A program that is ready, with what is known of its table and of its accesses.
pub record IsToldBefore (p : Program) : Type 0 where
  pub ready : IsReady p
  pub table : IsProgramTable (table_of p)
  pub banks : NamesBanks p
  pub copies : HasFewCopies p

-- it keeps the rules on ports, or this is the first breach of them
abbrev pub TellsPorts : Program → Result Tree PassFault → Type 0
TellsPorts p (Ok a) = (program_seen a ≡ p) × KeepsPortRules p
TellsPorts p (Err (fault.Refused rule place)) = IsFirstPortBreach p (breach rule place)
TellsPorts p (Err fault.NoMemory) = Unit {0}

-- the first breach of the rules on ports, if there is one
abbrev pub TellsFirst : Program → Option Breach → Type 0
TellsFirst p None = KeepsPortRules p
TellsFirst p (Some b) = IsFirstPortBreach p b

-- that is found among events, where they are the program's
abbrev pub TellsFirstAmong : Program → List Event → Option Breach → Type 0
TellsFirstAmong p events first = AreEventsOf p events → TellsFirst p first

-- so it is told by the first breach, if there is one; want of memory is told only where that was not found
-- for want of memory
abbrev pub JudgesPorts : Program → Result (Option Breach) NoMemory → Result Tree PassFault → Type 0
JudgesPorts p (Ok first) (Ok a) = (program_seen a ≡ p) × KeepsPortRules p
JudgesPorts p (Ok first) (Err (fault.Refused rule place)) = IsFirstPortBreach p (breach rule place)
JudgesPorts p (Ok first) (Err fault.NoMemory) = ⊥
JudgesPorts p (Err e) (Ok a) = ⊥
JudgesPorts p (Err e) (Err (fault.Refused rule place)) = ⊥
JudgesPorts p (Err e) (Err fault.NoMemory) = Unit {0}

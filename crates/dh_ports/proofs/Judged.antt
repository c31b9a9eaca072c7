-- What follows where a program is accepted.
use Rattle.std.proofs.Common.{Option, Result, Ok, Err}
use Rattle.dh_base.specs.declared.faults.PassFault.{PassFault}
use Rattle.dh_base.specs.declared.faults.PassFault.TheVariants as fault
use Rattle.dh_base.specs.declared.lists.NoMemory.{NoMemory}
use Rattle.dh_tree.specs.declared.breaches.Breach.{Breach}
use Rattle.dh_tree.specs.declared.trees.programs.Tree.{Tree}
use Rattle.dh_tree.specs.PlainTrees.{Program}
use Rattle.dh_ports.specs.Told.{JudgesPorts, TellsPorts}

absurd : {A : Type 0} → ⊥ → A
absurd e = elim e [ ]

pub judged_told : (p : Program) (first : Result (Option Breach) NoMemory) (r : Result Tree PassFault) → JudgesPorts p first r → TellsPorts p r
judged_told p (Ok first) (Ok a) h = h
judged_told p (Ok first) (Err (fault.Refused rule place)) h = h
judged_told p (Ok first) (Err fault.NoMemory) h = absurd h
judged_told p (Err e) (Ok a) h = absurd h
judged_told p (Err e) (Err (fault.Refused rule place)) h = absurd h
judged_told p (Err e) (Err fault.NoMemory) h = h

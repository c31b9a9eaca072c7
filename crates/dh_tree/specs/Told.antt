-- What a pass over a program tells that changes nothing: the breach of its rules that stands first, or that
-- there is none.
use Rattle.std.specs.Prelude.{◌≡◌, List, [], Result, Ok, Err}
use Rattle.dh_base.specs.declared.faults.PassFault.{PassFault}
use Rattle.dh_base.specs.declared.faults.PassFault.TheVariants as fault
use Rattle.dh_tree.specs.declared.breaches.Breach.{Breach}
use Rattle.dh_tree.specs.LeastBreach.{breach, IsLeast}

-- it takes no memory, so that none is refused
abbrev pub TellsLeast : {A : Type 0} → List Breach → Result A PassFault → Type 0
TellsLeast breaches (Ok a) = breaches ≡ []
TellsLeast breaches (Err (fault.Refused rule place)) = IsLeast breaches (breach rule place)
TellsLeast breaches (Err fault.NoMemory) = ⊥

-- of a pass that takes memory, which can be refused
abbrev pub MayTellLeast : {A : Type 0} → List Breach → Result A PassFault → Type 0
MayTellLeast breaches (Ok a) = breaches ≡ []
MayTellLeast breaches (Err (fault.Refused rule place)) = IsLeast breaches (breach rule place)
MayTellLeast breaches (Err fault.NoMemory) = Unit {0}

-- The name of each fault, as reports and texts have it.
use Rattle.std.specs.Prelude.{ℕ, List, codes}
use Rattle.dh_base.specs.declared.outcomes.FaultKind.{FaultKind}
use Rattle.dh_base.specs.declared.outcomes.FaultKind.TheVariants as fault

abbrev pub fault_name : FaultKind → List ℕ
fault_name fault.OutOfRange = codes "OutOfRange"

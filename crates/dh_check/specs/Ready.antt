-- What the passes before that over ports tell: a fault, or a program that comes to what its ports come
-- to, where these are asked for.
use Rattle.std.specs.Prelude.{◌≡◌, ◌⊎◌, ℕ, List, [], Bool, Some, None, Result, Ok, Err}
use Rattle.dh_base.specs.declared.faults.PassFault.{PassFault}
use Rattle.dh_base.specs.declared.faults.PassFault.TheVariants as pass
use Rattle.dh_events.specs.Stages.{AreStagesOf}
use Rattle.dh_tree.specs.declared.breaches.Breach.{Breach}
use Rattle.dh_tree.specs.LeastBreach.{IsLeast, breach}
use Rattle.dh_tree.specs.PlainTrees.{Program}
use Rattle.dh_tree.specs.Kinds.{typed}
use Rattle.dh_tree.specs.Excesses.{first_excess}
use Rattle.dh_tree.specs.Placements.{placement_breaches}
use Rattle.dh_tree.specs.Ready.{IsReady}
use Rattle.dh_tree.specs.Seen.{program_seen}
use Rattle.dh_tree.specs.ViewBreaches.{shapes_breaches_of}
use Rattle.dh_check.specs.Verdicts.{Verdict, FaultTells, JudgedLast, JudgedTyped, JudgedTree, IsVerdict}
use Rattle.dh_check.specs.declared.checking.CheckFault.{CheckFault}
use Rattle.dh_check.specs.declared.checking.CountedProgram.{CountedProgram}
use Rattle.dh_check.specs.declared.checking.CheckFault.TheVariants as fault

-- a program comes to what the last pass comes to; verdicts are told by whether ports are asked for
abbrev pub CheckGoesOn : (Bool → Verdict → Type 0) → Program → Type 0
CheckGoesOn tells p = (ports : Bool) (v : Verdict) → JudgedLast ports p v → tells ports v

-- a fault that tells the same whether ports are asked for or not
abbrev pub Stops : (Bool → Verdict → Type 0) → CheckFault → Type 0
Stops tells e = (ports : Bool) → FaultTells (tells ports) e

-- how a check ends whose pass ends with this fault
abbrev pub of_pass : PassFault → CheckFault
of_pass (pass.Refused rule place) = fault.Refused rule place
of_pass pass.NoMemory = fault.NoMemory

-- the rules on places, of a program that keeps those on shapes, indices, bounds and views, and the limits on
-- memories, are broken first here
pub record BreaksPlaces (p : Program) (b : Breach) : Type 0 where
  pub shapes : shapes_breaches_of p ≡ []
  pub limits : first_excess p ≡ None
  pub least : IsLeast (placement_breaches p) b

-- the rules on shapes, indices, bounds and views, then the limits on memories, then the rules on places
abbrev pub TellsShapes : {A : Type 0} → Program → Result A CheckFault → Type 0
TellsShapes p (Ok a) = (shapes_breaches_of p ≡ []) × ((first_excess p ≡ None) × (placement_breaches p ≡ []))
TellsShapes p (Err (fault.Refused rule place)) = IsLeast (shapes_breaches_of p) (breach rule place) ⊎ BreaksPlaces p (breach rule place)
TellsShapes p (Err (fault.TooLarge limit count)) = (shapes_breaches_of p ≡ []) × (first_excess p ≡ Some (record { limit = limit; count = count }))
TellsShapes p (Err fault.NoMemory) = Unit {0}

-- of a program whose names are resolved: kinds, shapes, limits and places
abbrev pub TellsNamed : Program → Result CountedProgram CheckFault → Type 0
TellsNamed p (Ok c) = (program_seen c.typed ≡ typed p) × (IsReady (typed p) × CheckGoesOn (λ ports v. JudgedTyped ports (typed p) v) (typed p))
TellsNamed p (Err e) = Stops (λ ports v. JudgedTyped ports (typed p) v) e

-- of a tree: forms, names, and the rest
abbrev pub TellsReady : (Bool → Verdict → Type 0) → Result CountedProgram CheckFault → Type 0
TellsReady tells (Ok c) = IsReady (program_seen c.typed) × CheckGoesOn tells (program_seen c.typed)
TellsReady tells (Err e) = Stops tells e

abbrev pub TellsTree : Program → Result CountedProgram CheckFault → Type 0
TellsTree p result = TellsReady (λ ports v. JudgedTree ports p v) result

-- of a text: its tokens and their limits, its tree, and the rest
abbrev pub TellsText : List ℕ → Result CountedProgram CheckFault → Type 0
TellsText text result = TellsReady (λ ports v. IsVerdict ports text v) result

-- what is counted of a program that is ready are its phases
abbrev pub HasStages : CountedProgram → Type 0
HasStages c = AreStagesOf (program_seen c.typed) c.stages.items

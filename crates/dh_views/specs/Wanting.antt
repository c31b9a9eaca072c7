-- When the pass over shapes wants memory: for a program that declares a view alone.
use Rattle.std.specs.Prelude.{◌≡◌, Option, None, Result, Ok, Err}
use Rattle.dh_base.specs.declared.faults.PassFault.{PassFault}
use Rattle.dh_base.specs.declared.faults.PassFault.TheVariants as fault
use Rattle.dh_base.specs.declared.lists.NoMemory.{NoMemory}
use Rattle.dh_tree.specs.declared.breaches.Breach.{Breach}
use Rattle.dh_tree.specs.LeastBreach.{least_of}
use Rattle.dh_tree.specs.PlainTrees.{Program}
use Rattle.dh_tree.specs.ViewBreaches.{shapes_breaches_of, view_breaches_of}
pub use Rattle.dh_viewing.specs.Judged.{DeclaresViews}

-- memory is refused to a program that declares a view, if to one at all
abbrev pub WantsForViews : {A : Type 0} → Program → Result A PassFault → Type 0
WantsForViews p (Ok a) = Unit {0}
WantsForViews p (Err (fault.Refused rule place)) = Unit {0}
WantsForViews p (Err fault.NoMemory) = DeclaresViews p

-- the breach of the rules on views goes into what is kept, which stays where memory is refused
abbrev pub KeepsViews : Program → (old new : Option Breach) → Result (Unit {0}) NoMemory → Type 0
KeepsViews p old new (Ok a) = new ≡ least_of old (view_breaches_of p)
KeepsViews p old new (Err refused) = DeclaresViews p × (new ≡ old)

-- the first breach of the rules on shapes, if there is one
abbrev pub FindsBreach : Program → Result (Option Breach) NoMemory → Type 0
FindsBreach p (Ok first) = first ≡ least_of None (shapes_breaches_of p)
FindsBreach p (Err refused) = DeclaresViews p

-- The passes over typed programs before that over ports: what they tell of a program that they let through, and of one that they refuse.
use Rattle.std.proofs.Common.{◌≡◌, inl, inr, List, [], Option, Some, None, Result, Ok, Err, refl, sym, ap, ◌∙◌}
use Rattle.dh_base.specs.declared.faults.PassFault.{PassFault}
use Rattle.dh_base.specs.declared.faults.PassFault.TheVariants as pass
use Rattle.dh_base.specs.declared.limits.Excess.{Excess}
use Rattle.dh_shape.specs.Above.{TellsExcess}
use Rattle.dh_tree.specs.declared.breaches.Breach.{Breach}
use Rattle.dh_tree.specs.Excesses.{first_excess}
use Rattle.dh_tree.specs.LeastBreach.{least_of}
use Rattle.dh_tree.specs.Placements.{placement_breaches}
use Rattle.dh_tree.specs.PlainTrees.{Program}
use Rattle.dh_tree.specs.Told.{MayTellLeast}
use Rattle.dh_tree.specs.ViewBreaches.{shapes_breaches_of}
use Rattle.dh_tree.proofs.FirstBreaches.{none_is_kept, least_is_kept}
use Rattle.dh_check.specs.declared.checking.CheckFault.{CheckFault}
use Rattle.dh_check.specs.declared.checking.CheckFault.TheVariants as fault
use Rattle.dh_check.specs.Ready.{of_pass, TellsShapes}

-- a limit that is exceeded, or none
pub excess_told : (o : Option Excess) (x : Excess) → TellsExcess {A = Unit {0}} o (Err x) → o ≡ Some x
excess_told None x h = absurd h
excess_told (Some first) x h = ap Some (sym h)

pub no_excess : (o : Option Excess) → TellsExcess {A = Unit {0}} o (Ok tt) → o ≡ None
no_excess None h = refl
no_excess (Some first) h = absurd h

-- the first of these passes refuses
pub shapes_refused : (A B : Type 0) (p : Program) (e : PassFault) → MayTellLeast {A = A} (shapes_breaches_of p) (Err e) → TellsShapes {A = B} p (Err (of_pass e))
shapes_refused A B p (pass.Refused rule place) h = inl h
shapes_refused A B p pass.NoMemory h = tt

-- the second
pub limits_refused : (A : Type 0) (p : Program) (x : Excess) → shapes_breaches_of p ≡ [] → TellsExcess {A = Unit {0}} (first_excess p) (Err x) → TellsShapes {A = A} p (Err (fault.TooLarge x.limit x.count))
limits_refused A p x shapes h = (shapes, excess_told (first_excess p) x h)

-- the third, whose first breach has been found before
pub place_refused : (A : Type 0) (p : Program) (first : Option Breach) (b : Breach) → shapes_breaches_of p ≡ [] → TellsExcess {A = Unit {0}} (first_excess p) (Ok tt) → first ≡ least_of None (placement_breaches p) → first ≡ Some b
    → TellsShapes {A = A} p (Err (fault.Refused b.rule b.place))
place_refused A p first b shapes limits e is =
    inr (record { shapes = shapes; limits = no_excess (first_excess p) limits; least = least_is_kept (placement_breaches p) b (sym e ∙ is) })

-- none of them
pub all_kept : {A : Type 0} (p : Program) (first : Option Breach) (a : A) → shapes_breaches_of p ≡ [] → TellsExcess {A = Unit {0}} (first_excess p) (Ok tt) → first ≡ least_of None (placement_breaches p) → first ≡ None
    → TellsShapes {A = A} p (Ok a)
all_kept p first a shapes limits e is = (shapes, (no_excess (first_excess p) limits, none_is_kept (placement_breaches p) (sym e ∙ is)))

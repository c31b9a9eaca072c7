-- What a block of the program does in a step, in the words in which a plan's block does it: its first fault, and
-- its writes in order.
use Rattle.std.specs.Prelude.{List, [], ◌∷◌, Option, Some, None}
use Rattle.dh_base.specs.declared.outcomes.FaultKind.{FaultKind}
use Rattle.dh_base.specs.declared.places.Place.{Place}
use Rattle.dh_meaning.specs.Effects.{Event, reads, writes, faults}
use Rattle.dh_plan.specs.Blocks.{Put}

-- the first fault, with its place in the source
abbrev pub failure_of : List Event → Option (FaultKind × Place)
failure_of [] = None
failure_of (reads number place path spot ∷ es) = failure_of es
failure_of (writes number place path spot value ∷ es) = failure_of es
failure_of (faults number place path kind ∷ es) = Some (kind, place)

-- the writes, in order
abbrev pub writes_of : List Event → List Put
writes_of [] = []
writes_of (reads number place path spot ∷ es) = writes_of es
writes_of (writes number place path spot value ∷ es) = record { spot = spot; bits = value } ∷ writes_of es
writes_of (faults number place path kind ∷ es) = writes_of es

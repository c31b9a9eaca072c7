-- Accesses and faults without their numbers and paths: writes, ports and stops depend on neither.
use Rattle.std.specs.Prelude.{List, [], map}
use Rattle.dh_meaning.specs.Effects.{Event, reads, writes, faults}

abbrev pub plain : Event → Event
plain (reads number place path s) = reads 0 place [] s
plain (writes number place path s value) = writes 0 place [] s value
plain (faults number place path kind) = faults 0 place [] kind

abbrev pub all_plain : List Event → List Event
all_plain es = map plain es

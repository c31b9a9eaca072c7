use Rattle.std.proofs.Common.{false}
use Rattle.dh_tree.specs.Elements.{banks_of}
use Rattle.dh_ports.specs.Claims.{source_of}
use Rattle.dh_size.specs.Marks.{AreBankMarks}
use Rattle.dh_size.proofs.banks.reached_banks.Given as goal

abbrev pub invariant-loop-number : goal.invariant-loop-number
invariant-loop-number l = AreBankMarks l.typed l.dims (source_of l.loops false l.access) (banks_of l.dims) l.number l.marks.items

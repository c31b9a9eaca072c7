-- What they have become, and the rest.
use Rattle.std.specs.Prelude.{◌≡◌, ◌++◌, drop, map}
use Rattle.dh_address.specs.SeenAround.{around_seen}
use Rattle.dh_address.specs.WaysMade.{operand_of}
use Rattle.dh_address.proofs.operands.operands_of.Given as goal

abbrev pub invariant-loop-value : goal.invariant-loop-value
invariant-loop-value l = l.new ++ map (operand_of (around_seen l.old l.known)) (drop l.value-index l.values) ≡ map (operand_of (around_seen l.old l.known)) l.values

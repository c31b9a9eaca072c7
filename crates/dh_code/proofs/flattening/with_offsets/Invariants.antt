-- The variables so far stand behind the operands.
use Rattle.std.proofs.Common.{◌≡◌, ◌++◌, map, drop}
use Rattle.dh_ways.specs.Seen.{hidden_seen}
use Rattle.dh_code.specs.Made.{hidden_operand}
use Rattle.dh_code.proofs.flattening.with_offsets.Given as goal

abbrev pub invariant-loop-one : goal.invariant-loop-one
invariant-loop-one l = l.all ++ map (λ h. hidden_operand l.names.places.now (hidden_seen h)) (drop l.one-index l.hidden) ≡ l.fn.operands ++ map (λ h. hidden_operand l.names.places.now (hidden_seen h)) l.hidden

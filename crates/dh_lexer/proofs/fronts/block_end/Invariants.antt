-- The first `*/` of what is left is that of the whole.
use Rattle.std.proofs.Common.{◌≡◌, ◌+◌, drop, option_map}
use Rattle.dh_lexer.specs.FrontPiece.{block_len}
use Rattle.dh_lexer.proofs.fronts.block_end.Given as goal

abbrev pub invariant-loop-i : goal.invariant-loop-i
invariant-loop-i l = option_map (λ n. l.i + n) (block_len (drop l.i l.text)) ≡ option_map (λ n. l.at + n) (block_len (drop l.at l.text))

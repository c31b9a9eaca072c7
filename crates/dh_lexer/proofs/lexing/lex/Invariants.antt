-- The pieces so far are cut off, and their tokens are kept; each piece takes a byte or more.
use Rattle.std.proofs.Common.{length, ◌-◌}
use Rattle.dh_lexer.proofs.LexedSoFar.{LexedSoFar}
use Rattle.dh_lexer.proofs.lexing.lex.Given as goal

abbrev pub invariant-loop-at : goal.invariant-loop-at
invariant-loop-at l = LexedSoFar l.text l.tokens.items l.place l.at

abbrev pub decreases-loop-at : goal.decreases-loop-at
decreases-loop-at l = length l.text - l.at

-- The greatest numbers are those so far, or those of the rest, and the places so far and those of the rest
-- are all; there is at most one a token.
use Rattle.std.proofs.Common.{◌≡◌, ◌+◌, ◌≤◌, drop, false}
use Rattle.dh_lexer.specs.Counted.{most_open, most_operators, else_ifs_after}
use Rattle.dh_lexer.proofs.MostSeen.{Seen}
use Rattle.dh_lexer.proofs.counting.counts.Given as goal

abbrev pub invariant-loop-token : goal.invariant-loop-token
invariant-loop-token l = record {
  opened : Seen l.brackets l.depth (most_open l.depth (drop l.token-index l.tokens)) (most_open 0 l.tokens) l.token-index;
  applied : Seen l.operators l.seen (most_operators l.seen (drop l.token-index l.tokens)) (most_operators 0 l.tokens) l.token-index;
  chained : l.else_ifs + else_ifs_after l.after_else (drop l.token-index l.tokens) ≡ else_ifs_after false l.tokens;
  few : l.else_ifs ≤ l.token-index;
}

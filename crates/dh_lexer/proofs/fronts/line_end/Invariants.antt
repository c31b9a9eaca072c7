-- The part of the line that is passed, and the line from here on, end at one place.
use Rattle.std.proofs.Common.{◌≡◌, ◌+◌, drop}
use Rattle.dh_lexer.specs.FrontPiece.{line_len}
use Rattle.dh_lexer.proofs.fronts.line_end.Given as goal

abbrev pub invariant-loop-i : goal.invariant-loop-i
invariant-loop-i l = l.i + line_len (drop l.i l.text) ≡ l.at + line_len (drop l.at l.text)

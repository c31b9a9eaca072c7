-- The part of the run that is passed, and the run from here on, end at one place.
use Rattle.std.proofs.Common.{◌≡◌, ◌+◌, drop}
use Rattle.dh_lexer.specs.FrontPiece.{run_len}
use Rattle.dh_lexer.proofs.fronts.run_end.Given as goal

abbrev pub invariant-loop-i : goal.invariant-loop-i
invariant-loop-i l = l.i + run_len (drop l.i l.text) ≡ l.at + run_len (drop l.at l.text)

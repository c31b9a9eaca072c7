-- The number so far, and the digits behind it, write what all write.
use Rattle.dh_lexer.proofs.Decimals.{Reading}
use Rattle.dh_lexer.proofs.numbers.decimal.Given as goal

abbrev pub invariant-loop-i : goal.invariant-loop-i
invariant-loop-i l = Reading l.bytes l.i l.number

-- No name is there.
use Rattle.dh_lexer.specs.KnownWords.{AreFree}
use Rattle.dh_lexer.proofs.sharing.no_names.Given as goal

abbrev pub invariant-loop : goal.invariant-loop
invariant-loop l = AreFree l.names.items

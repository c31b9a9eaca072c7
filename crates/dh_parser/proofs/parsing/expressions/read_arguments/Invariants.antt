use Rattle.std.proofs.Common.{◌≡◌, ◌≤◌, ◌++◌, length, map}
use Rattle.dh_tree.specs.Seen.{term_seen}
use Rattle.dh_parser.specs.Grammar.{MoreArgumentsText}
use Rattle.dh_parser.specs.TreesOfTexts.{arguments_of, more_arguments_of}
use Rattle.dh_parser.specs.Reading.{more_arguments, the_arguments}
use Rattle.dh_parser.proofs.Loops.{Loops}
use Rattle.dh_parser.proofs.parsing.expressions.read_arguments.Given as goal

abbrev pub invariant-loop-reader : goal.invariant-loop-reader
invariant-loop-reader l = record {
  loops : Loops more_arguments l.reader.rest.now (the_arguments l.fn.reader.rest.now)
      (λ put. (more : MoreArgumentsText) → arguments_of (put more) ≡ map term_seen l.arguments.items ++ more_arguments_of more);
  commands : l.reader.commands ≡ l.fn.reader.commands;
  shorter : length l.reader.rest.now ≤ length l.fn.reader.rest.now;
}

abbrev pub decreases-loop-reader : goal.decreases-loop-reader
decreases-loop-reader l = length l.reader.rest.now

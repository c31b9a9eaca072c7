use Rattle.std.proofs.Common.{◌≡◌, ◌≤◌, ◌++◌, length, map}
use Rattle.dh_tree.specs.Seen.{formal_seen}
use Rattle.dh_parser.specs.Grammar.{MoreParametersText}
use Rattle.dh_parser.specs.TreesOfTexts.{formals_of, more_formals}
use Rattle.dh_parser.specs.Reading.{more_parameters, the_parameters}
use Rattle.dh_parser.proofs.Loops.{Loops}
use Rattle.dh_parser.proofs.parsing.programs.read_parameters.Given as goal

abbrev pub invariant-loop-reader : goal.invariant-loop-reader
invariant-loop-reader l = record {
  loops : Loops more_parameters l.reader.rest.now (the_parameters l.fn.reader.rest.now)
      (λ put. (more : MoreParametersText) → formals_of (put more) ≡ map formal_seen l.parameters.items ++ more_formals more);
  commands : l.reader.commands ≡ l.fn.reader.commands;
  shorter : length l.reader.rest.now ≤ length l.fn.reader.rest.now;
}

abbrev pub decreases-loop-reader : goal.decreases-loop-reader
decreases-loop-reader l = length l.reader.rest.now

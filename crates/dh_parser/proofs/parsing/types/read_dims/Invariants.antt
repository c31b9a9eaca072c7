use Rattle.std.proofs.Common.{◌≡◌, ◌≤◌, ◌++◌, length}
use Rattle.dh_parser.specs.Grammar.{DimsText}
use Rattle.dh_parser.specs.TreesOfTexts.{dimensions_of_text, dimension_places_of_text}
use Rattle.dh_parser.specs.Reading.{the_dims, steps}
use Rattle.dh_parser.proofs.Loops.{Loops}
use Rattle.dh_parser.proofs.parsing.types.read_dims.Given as goal

abbrev pub invariant-loop-reader : goal.invariant-loop-reader
invariant-loop-reader l = record {
  loops : Loops the_dims l.reader.rest.now (the_dims (steps l.fn.reader.rest.now) l.fn.reader.rest.now)
      (λ put. (more : DimsText) → (dimensions_of_text (put more) ≡ l.dims ++ dimensions_of_text more) × (dimension_places_of_text (put more) ≡ l.places ++ dimension_places_of_text more));
  commands : l.reader.commands ≡ l.fn.reader.commands;
  shorter : length l.reader.rest.now ≤ length l.fn.reader.rest.now;
}

abbrev pub decreases-loop-reader : goal.decreases-loop-reader
decreases-loop-reader l = length l.reader.rest.now

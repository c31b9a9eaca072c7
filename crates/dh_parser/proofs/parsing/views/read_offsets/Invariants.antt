use Rattle.std.proofs.Common.{◌≡◌, ◌≤◌, ◌++◌, ◌∷◌, List, length, map}
use Rattle.dh_tree.specs.Seen.{term_seen}
use Rattle.dh_parser.specs.Grammar.{OffsetText}
use Rattle.dh_parser.specs.TreesOfTexts.{term_of}
use Rattle.dh_parser.specs.Reading.{the_offset, more_of, all_of}
use Rattle.dh_parser.proofs.Loops.{Loops}
use Rattle.dh_parser.proofs.parsing.views.read_offsets.Given as goal

abbrev pub invariant-loop-reader : goal.invariant-loop-reader
invariant-loop-reader l = record {
  loops : Loops (more_of the_offset) l.reader.rest.now (all_of the_offset l.fn.reader.rest.now)
      (λ put. (more : List OffsetText) → (map (λ (p : OffsetText). term_of p.offset) ((put more).0 ∷ (put more).1) ≡ map term_seen l.by.items ++ map (λ (p : OffsetText). term_of p.offset) more));
  commands : l.reader.commands ≡ l.fn.reader.commands;
  shorter : length l.reader.rest.now ≤ length l.fn.reader.rest.now;
}

abbrev pub decreases-loop-reader : goal.decreases-loop-reader
decreases-loop-reader l = length l.reader.rest.now

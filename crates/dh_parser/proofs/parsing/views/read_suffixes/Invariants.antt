use Rattle.std.proofs.Common.{◌≡◌, ◌≤◌, ◌++◌, ◌∷◌, List, length, map}
use Rattle.dh_tree.specs.Seen.{factor_seen}
use Rattle.dh_parser.specs.Grammar.{SuffixText}
use Rattle.dh_parser.specs.TreesOfTexts.{suffix_of}
use Rattle.dh_parser.specs.Reading.{the_suffix, more_of, all_of}
use Rattle.dh_parser.proofs.Loops.{Loops}
use Rattle.dh_parser.proofs.parsing.views.read_suffixes.Given as goal

abbrev pub invariant-loop-reader : goal.invariant-loop-reader
invariant-loop-reader l = record {
  loops : Loops (more_of the_suffix) l.reader.rest.now (all_of the_suffix l.fn.reader.rest.now)
      (λ put. (more : List SuffixText) → (map suffix_of ((put more).0 ∷ (put more).1) ≡ map factor_seen l.by.items ++ map suffix_of more) × (map (λ (g : SuffixText). g.factor.place) ((put more).0 ∷ (put more).1) ≡ l.by_place.items ++ map (λ (g : SuffixText). g.factor.place) more));
  commands : l.reader.commands ≡ l.fn.reader.commands;
  shorter : length l.reader.rest.now ≤ length l.fn.reader.rest.now;
}

abbrev pub decreases-loop-reader : goal.decreases-loop-reader
decreases-loop-reader l = length l.reader.rest.now

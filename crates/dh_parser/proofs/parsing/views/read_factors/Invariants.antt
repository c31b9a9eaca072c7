use Rattle.std.proofs.Common.{◌≡◌, ◌≤◌, ◌++◌, ◌∷◌, List, length, map}
use Rattle.dh_parser.specs.Grammar.{FactorText}
use Rattle.dh_parser.specs.Reading.{the_factor, more_of, all_of}
use Rattle.dh_parser.proofs.Loops.{Loops}
use Rattle.dh_parser.proofs.parsing.views.read_factors.Given as goal

abbrev pub invariant-loop-reader : goal.invariant-loop-reader
invariant-loop-reader l = record {
  loops : Loops (more_of the_factor) l.reader.rest.now (all_of the_factor l.fn.reader.rest.now)
      (λ put. (more : List FactorText) → (map (λ (g : FactorText). g.factor.value) ((put more).0 ∷ (put more).1) ≡ l.by.items ++ map (λ (g : FactorText). g.factor.value) more) × (map (λ (g : FactorText). g.factor.place) ((put more).0 ∷ (put more).1) ≡ l.by_place.items ++ map (λ (g : FactorText). g.factor.place) more));
  commands : l.reader.commands ≡ l.fn.reader.commands;
  shorter : length l.reader.rest.now ≤ length l.fn.reader.rest.now;
}

abbrev pub decreases-loop-reader : goal.decreases-loop-reader
decreases-loop-reader l = length l.reader.rest.now

use Rattle.dh_formed.proofs.ReadsCounted.{write_counts, write_gives}
use Rattle.dh_formed.proofs.TermsCounted.{all_counted, counted, named_counted}
use Rattle.dh_formed.proofs.laws.expressions_are_counted.Goals as goal

pub returns-clause-terms : goal.returns-clause-terms
returns-clause-terms c x scene lane current t old new before after n next v m few s w = counted x scene lane current t old new before after n next v m few s w

pub returns-clause-indices : goal.returns-clause-indices
returns-clause-indices c x scene lane current ts old new before after n aim m few s w = all_counted x scene lane current ts old new before after n aim.number aim.indices m.indices few s w

pub returns-clause-through : goal.returns-clause-through
returns-clause-through c x scene lane current r ts old new before after n aim m few s w = named_counted x scene lane current r ts old new before after n aim m few s w

pub returns-clause-writes : goal.returns-clause-writes
returns-clause-writes c x scene lane current access memory aim old new before after value m agrees started scope noted suits = record {
  counts = write_counts x scene lane current access memory aim (λ register. ⊥) old new before after value m agrees started scope noted suits;
  given = write_gives x scene lane current access memory aim (λ register. ⊥) old new before after value m agrees started scope noted suits;
}

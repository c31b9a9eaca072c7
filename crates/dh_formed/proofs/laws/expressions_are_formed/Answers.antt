use Rattle.dh_formed.proofs.TermsFormed.{formed, indices_formed, numbered, through_formed}
use Rattle.dh_formed.proofs.laws.expressions_are_formed.Goals as goal

pub returns-clause-numbered : goal.returns-clause-numbered
returns-clause-numbered c scene lane current t old new before after n next v m few = numbered scene lane current t old new before after n next v m few

pub returns-clause-terms : goal.returns-clause-terms
returns-clause-terms c scene lane current t old new before after n next v m few = formed scene lane current t old new before after n next v m few

pub returns-clause-indices : goal.returns-clause-indices
returns-clause-indices c scene lane current ts old new before after n aim m few = indices_formed scene lane current ts old new before after n aim m few

pub returns-clause-through : goal.returns-clause-through
returns-clause-through c scene lane current r ts old new before after n aim m few = through_formed scene lane current r ts old new before after n aim m few

use Rattle.dh_formed.proofs.ElementsFormed.{read_forms, write_forms}
use Rattle.dh_formed.proofs.laws.elements_are_formed.Goals as goal

pub returns-clause-reads : goal.returns-clause-reads
returns-clause-reads c scene lane current access memory aim old new before after v k m = read_forms scene lane current access memory aim old new before after v k m

pub returns-clause-writes : goal.returns-clause-writes
returns-clause-writes c scene lane current access memory aim old new before after value m = write_forms scene lane current access memory aim old new before after value m

use Rattle.dh_laid.proofs.StoresLaid.{stores_form}
use Rattle.dh_laid.proofs.ReducersLaid.{reduces_form}
use Rattle.dh_laid.proofs.ValuesLaid.{assignments_form, clearings_form}
use Rattle.dh_laid.proofs.laws.assignments_are_formed.Goals as goal

pub returns-clause-assigned : goal.returns-clause-assigned
returns-clause-assigned c scene lane first entity t old new next m few = assignments_form scene lane first entity t old new next m few

pub returns-clause-cleared : goal.returns-clause-cleared
returns-clause-cleared c scene lane entity old new m = clearings_form scene lane entity old new m

pub returns-clause-reduced : goal.returns-clause-reduced
returns-clause-reduced c scene lane first entity op t old new next m few = reduces_form scene lane first entity op t old new next m few

pub returns-clause-stored : goal.returns-clause-stored
returns-clause-stored c scene lane first target t old new next m few = stores_form scene lane first target t old new next m few

use Rattle.dh_ports.proofs.FirstSpent.{none_spends, first_spends}
use Rattle.dh_ports.proofs.laws.ports_are_spent_at_charges.Goals as goal

pub returns-clause-kept : goal.returns-clause-kept
returns-clause-kept c = none_spends

pub returns-clause-spent : goal.returns-clause-spent
returns-clause-spent c = first_spends

use Rattle.dh_carried.proofs.ChargedBanks.{charged_reaches, reaching_charges}
use Rattle.dh_carried.proofs.laws.charged_banks_are_those_reached.Goals as goal

pub returns-clause-charged : goal.returns-clause-charged
returns-clause-charged c p w a dims bank lead below some = charged_reaches p w a dims bank lead below some

pub returns-clause-reached : goal.returns-clause-reached
returns-clause-reached c p w a dims bank lead inside reached = reaching_charges p w a dims bank lead inside reached

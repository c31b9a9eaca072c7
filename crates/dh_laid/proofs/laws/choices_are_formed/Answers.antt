use Rattle.dh_laid.proofs.ChoicesLaid.{choices_form}
use Rattle.dh_laid.proofs.JoinsLaid.{joins_form}
use Rattle.dh_laid.proofs.laws.choices_are_formed.Goals as goal

pub returns-clause-choices : goal.returns-clause-choices
returns-clause-choices c tests choices count old new before after m = choices_form tests choices count old new before after m

pub returns-clause-joins : goal.returns-clause-joins
returns-clause-joins c tests chosen other old new m = joins_form tests chosen other old new m

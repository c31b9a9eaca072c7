use Rattle.dh_laid.proofs.ArmsLaid.{arm_guards_form}
use Rattle.dh_laid.proofs.JoinsLaid.{arms_leave}
use Rattle.dh_laid.proofs.ValuesLaid.{arms_end}
use Rattle.dh_laid.proofs.laws.arms_are_formed.Goals as goal

pub returns-clause-guards : goal.returns-clause-guards
returns-clause-guards c holds guards tests count old new arm m = arm_guards_form holds guards tests count old new arm m

pub returns-clause-ends : goal.returns-clause-ends
returns-clause-ends c x d old new floor lefts e h = arms_end x d old new floor lefts e h

pub returns-clause-leaves : goal.returns-clause-leaves
returns-clause-leaves c x d old new floor lefts e room h = arms_leave x d old new floor lefts e room h

use Rattle.dh_formed.proofs.CommandsFormed.{constants_form, parts_are_counted, selects_count, selects_form, selects_in_time, sets_count, sets_form, sets_in_time}
use Rattle.dh_formed.proofs.ValuesFormed.{compute_forms}
use Rattle.dh_formed.proofs.laws.commands_are_formed.Goals as goal

pub returns-clause-constants : goal.returns-clause-constants
returns-clause-constants c = constants_form

pub returns-clause-computes : goal.returns-clause-computes
returns-clause-computes c = compute_forms

pub returns-clause-selects : goal.returns-clause-selects
returns-clause-selects c = selects_form

pub returns-clause-sets : goal.returns-clause-sets
returns-clause-sets c = sets_form

pub returns-clause-parts_counted : goal.returns-clause-parts_counted
returns-clause-parts_counted c = parts_are_counted

pub returns-clause-selects_counted : goal.returns-clause-selects_counted
returns-clause-selects_counted c = selects_count

pub returns-clause-sets_counted : goal.returns-clause-sets_counted
returns-clause-sets_counted c = sets_count

pub returns-clause-selects_in_time : goal.returns-clause-selects_in_time
returns-clause-selects_in_time c = selects_in_time

pub returns-clause-sets_in_time : goal.returns-clause-sets_in_time
returns-clause-sets_in_time c = sets_in_time

use Rattle.dh_formed.proofs.ValuesTimed.{converted_timed, held_timed, operation_timed, shown_timed}
use Rattle.dh_formed.proofs.laws.values_are_in_time.Goals as goal

pub returns-clause-operations : goal.returns-clause-operations
returns-clause-operations c = operation_timed

pub returns-clause-conversions : goal.returns-clause-conversions
returns-clause-conversions c = converted_timed

pub returns-clause-held : goal.returns-clause-held
returns-clause-held c = held_timed

pub returns-clause-shown : goal.returns-clause-shown
returns-clause-shown c = shown_timed

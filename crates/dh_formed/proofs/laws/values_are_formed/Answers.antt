use Rattle.dh_formed.proofs.IteratorsFormed.{iterator_forms}
use Rattle.dh_formed.proofs.ValuesFormed.{converted_forms, held_forms, operation_forms, shown_forms}
use Rattle.dh_formed.proofs.laws.values_are_formed.Goals as goal

pub returns-clause-operations : goal.returns-clause-operations
returns-clause-operations c = operation_forms

pub returns-clause-conversions : goal.returns-clause-conversions
returns-clause-conversions c = converted_forms

pub returns-clause-held : goal.returns-clause-held
returns-clause-held c = held_forms

pub returns-clause-shown : goal.returns-clause-shown
returns-clause-shown c = shown_forms

pub returns-clause-iterators : goal.returns-clause-iterators
returns-clause-iterators c k held = iterator_forms k held

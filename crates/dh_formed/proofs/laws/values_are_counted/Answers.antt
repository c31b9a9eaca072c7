use Rattle.dh_formed.proofs.ValuesCounted.{held_counts, operation_counts}
use Rattle.dh_formed.proofs.laws.values_are_counted.Goals as goal

pub returns-clause-operations : goal.returns-clause-operations
returns-clause-operations c = operation_counts (λ register. ⊥) (λ r. ⊥) (λ r. ⊥) (λ r. ⊥)

pub returns-clause-held : goal.returns-clause-held
returns-clause-held c = held_counts (λ register. ⊥) (λ r. ⊥) (λ r. ⊥) (λ r. ⊥)

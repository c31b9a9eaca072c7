use Rattle.std.proofs.Common.{◌≡◌, ◌++◌, drop}
use Rattle.dh_bind.specs.Drafts.{all_pairs}
use Rattle.dh_bind.proofs.pairs.push_pairs.Given as goal

abbrev pub invariant-loop-operation : goal.invariant-loop-operation
invariant-loop-operation l = l.all ++ all_pairs l.wide l.firsts (drop l.operation-index l.operations) ≡ l.initial.all ++ all_pairs l.wide l.firsts l.operations

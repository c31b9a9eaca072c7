use Rattle.std.proofs.Common.{refl, ap, ◌∙◌}
use Rattle.dh_tree.proofs.SeenActions as known
use Rattle.dh_tree.specs.Seen.{action_form_seen}
use Rattle.dh_phases.proofs.PhasesRead.{alone_read}
use Rattle.dh_phases.proofs.gathering.stands_alone.Goals as goal

pub returns-in-Let : goal.returns-in-Let
returns-in-Let c = λ holds. alone_read c.args.command.now _ (ap action_form_seen c.in-Let.is ∙ known.let_is c.in-Let.declared c.in-Let.name c.in-Let.value) (λ first. refl)

pub returns-in-Assign : goal.returns-in-Assign
returns-in-Assign c = λ holds. alone_read c.args.command.now _ (ap action_form_seen c.in-Assign.is ∙ known.assign_is c.in-Assign.target c.in-Assign.value) (λ first. refl)

pub returns-in-Store : goal.returns-in-Store
returns-in-Store c = λ holds. alone_read c.args.command.now _ (ap action_form_seen c.in-Store.is ∙ known.store_is c.in-Store.sides) (λ first. refl)

pub returns-in-Reduce : goal.returns-in-Reduce
returns-in-Reduce c = λ holds. alone_read c.args.command.now _ (ap action_form_seen c.in-Reduce.is ∙ known.reduce_is c.in-Reduce.op c.in-Reduce.target c.in-Reduce.value) (λ first. refl)

use Rattle.std.proofs.Common.{ap, ◌∙◌}
use Rattle.std.specs.Prelude.{Some}
use Rattle.dh_events.specs.Scopes.{scope, scope_at, with_scope}
use Rattle.dh_events.proofs.dependence.declare_iterator.Goals as goal

pub returns-clause-noted : goal.returns-clause-noted
returns-clause-noted c = c.in_ok-declare.ensures ∙ ap (λ n. with_scope (scope_at c.args.scopes.now.items) c.args.iterator.now.entity (scope n (Some c.args.factor))) c.depth_inside-depth.ensures

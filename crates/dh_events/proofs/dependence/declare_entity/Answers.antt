use Rattle.std.proofs.Common.{ap, sym, ◌∙◌}
use Rattle.std.specs.Prelude.{Some}
use Rattle.dh_events.specs.Scopes.{scope_at, with_scope}
use Rattle.dh_events.proofs.dependence.declare_entity.Goals as goal

pub returns-in_ok-grow : goal.returns-in_ok-grow
returns-in_ok-grow c =
    c.put.ensures ∙ (ap (λ f. with_scope f (Some c.in-Some.entity) c.args.scope) c.in_ok-grow.ensures.same ∙ ap (λ e. with_scope (scope_at c.args.scopes.now.items) e c.args.scope) (sym c.in-Some.is))

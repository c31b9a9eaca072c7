use Rattle.std.proofs.Common.{List, Option, ap, ◌∙◌}
use Rattle.dh_tree.specs.Seen.{action_seen}
use Rattle.dh_events.specs.declared.dependence.Scope.{Scope}
use Rattle.dh_events.specs.Scopes.{scope_at, scopes_in}
use Rattle.dh_events.proofs.dependence.scopes_of.Goals as goal

pub returns : goal.returns
returns c =
    c.in_ok-note_ways.ensures (action_seen c.args.body.now) (c.in_ok-note_scopes.ensures ∙ ap (λ (l : List (Option Scope)). scopes_in 0 (action_seen c.args.body.now) (scope_at l)) c.new-scopes.ensures.items)

use Rattle.std.proofs.Common.{refl, ap, sym, ◌∙◌}
use Rattle.std.specs.Prelude.{option_map}
use Rattle.std.proofs.lemmas.Result.{on_ok_weaker}
use Rattle.dh_tree.specs.Seen.{action_form_seen, action_seen, maybe_seen}
use Rattle.dh_tree.proofs.SeenActions.{for_at}
use Rattle.dh_events.specs.Scopes.{form_scopes, scope_at, scopes_in}
use Rattle.dh_events.proofs.ScopeFacts.{loop_noted}
use Rattle.dh_events.proofs.dependence.+scoping.Goals as goal

pub note_scopes-returns-in_ok-note_scopes-in-For : goal.note_scopes-returns-in_ok-note_scopes-in-For
note_scopes-returns-in_ok-note_scopes-in-For t c =
    on_ok_weaker c.note_other-in-For.result
    (λ e. loop_noted c.args.depth c.in_ok-inside-in-For.inside c.as_ref-header.result.now.factor c.as_ref-header.result.now.iterator.entity (action_seen c.in-For.body.value) (maybe_seen (option_map (λ b. action_seen b.value) c.in-For.combine)) (scope_at c.args.scopes.now.items) (scope_at c.declare_iterator.new.scopes.items) (scope_at c.note_scopes-in-For.new.scopes.items) (scope_at c.note_other-in-For.new.scopes.items) c.in_ok-inside-in-For.ensures.inside c.in_ok-inside-in-For.ensures.noted
    (c.in_ok-note_scopes-in-For.ensures ∙ ap (λ x. scopes_in c.in_ok-inside-in-For.inside (action_seen x) (scope_at c.declare_iterator.new.scopes.items)) c.deref-in-For.ensures) e
    ∙ ap (λ x. form_scopes c.args.depth x (scope_at c.args.scopes.now.items)) (sym (ap action_form_seen c.in-For.is ∙ for_at c.in-For.header c.in-For.body c.in-For.combine c.as_ref-header.result.now c.in-For.body.value c.as_ref-header.ensures refl)))
    c.note_other-in-For.ensures

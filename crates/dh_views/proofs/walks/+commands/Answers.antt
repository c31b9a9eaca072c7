use Rattle.std.proofs.Common.{refl, ap, ◌+◌, ◌∙◌}
use Rattle.dh_tree.specs.declared.trees.commands.Command.{Command}
use Rattle.dh_tree.specs.LeastBreach.{least_of}
use Rattle.dh_tree.proofs.SeenActions.{for_is}
use Rattle.dh_views.proofs.Turns.{loop_kept}
use Rattle.dh_tree.specs.Indices.{index_context_of, action_index_breaches, actions_index_breaches, groups_index_breaches}
use Rattle.dh_tree.specs.Seen.{action_form_seen, action_seen, maybe_block_seen, program_seen}
use Rattle.dh_tree.proofs.Leasts.{rest_next}
use Rattle.dh_views.proofs.walks.+commands.Goals as goal

pub keep_groups-loop-command-preserved : goal.keep_groups-loop-command-preserved
keep_groups-loop-command-preserved t c =
    rest_next (action_index_breaches (index_context_of (program_seen c.args.typed.now))) (actions_index_breaches (index_context_of (program_seen c.args.typed.now))) (groups_index_breaches (index_context_of (program_seen c.args.typed.now))) (λ a rest. refl)
    c.loop-command.kept c.keep_command.new.kept c.deref-command-items.result.now c.loop-command.command-index c.command-item.result c.args.parts.now (c.loop-part.part-index + 1)
    c.loop-command-test.true c.command-item.is c.keep_command.ensures
    ∙ c.loop-command.invariant

pub keep_command-returns-in-For : goal.keep_command-returns-in-For
keep_command-returns-in-For t c =
    loop_kept (index_context_of (program_seen c.args.typed.now)) c.in-For.header.value (action_seen c.in-For.body.value) (maybe_block_seen c.in-For.combine) (action_form_seen c.args.command.now.form)
    c.args.kept.now c.keep_own.new.kept c.keep_command-in-For.new.kept c.keep_other-in-For.new.kept
    (ap action_form_seen c.in-For.is ∙ for_is c.in-For.header c.in-For.body c.in-For.combine)
    c.keep_own.ensures
    (c.keep_command-in-For.ensures ∙ ap (λ (x : Command). least_of c.keep_own.new.kept (action_index_breaches (index_context_of (program_seen c.args.typed.now)) (action_seen x))) c.deref-in-For.ensures)
    c.keep_other-in-For.ensures

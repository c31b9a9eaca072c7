use Rattle.std.proofs.Common.{refl, ◌+◌, ◌∙◌}
use Rattle.dh_tree.specs.ViewBreaches.{action_view_breaches, groups_view_breaches, part_view_breaches}
use Rattle.dh_tree.proofs.Leasts.{rest_next}
use Rattle.dh_views.specs.Through.{known_through}
use Rattle.dh_views.proofs.through.+viewed_commands.Goals as goal

pub keep_viewed_parts-loop-command-preserved : goal.keep_viewed_parts-loop-command-preserved
keep_viewed_parts-loop-command-preserved t c =
    rest_next (action_view_breaches (known_through c.args.typed.now c.args.views.now)) (part_view_breaches (known_through c.args.typed.now c.args.views.now)) (groups_view_breaches (known_through c.args.typed.now c.args.views.now)) (λ a rest. refl)
    c.loop-command.kept c.keep_viewed_command.new.kept c.deref-command-items.result.now c.loop-command.command-index c.command-item.result c.args.parts.now (c.loop-part.part-index + 1)
    c.loop-command-test.true c.command-item.is c.keep_viewed_command.ensures
    ∙ c.loop-command.invariant

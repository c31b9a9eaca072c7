use Rattle.std.proofs.Common.{◌≡◌, ◌+◌}
use Rattle.dh_tree.specs.ViewBreaches.{groups_view_breaches, part_view_breaches}
use Rattle.dh_tree.proofs.Leasts.{part_rest, parts_rest}
use Rattle.dh_views.specs.Through.{known_through}
use Rattle.dh_views.proofs.through.+viewed_commands.Given as goal

-- what is left leads to what all leads to
abbrev pub invariant-keep_viewed_parts-loop-part : goal.invariant-keep_viewed_parts-loop-part
invariant-keep_viewed_parts-loop-part l =
    parts_rest (groups_view_breaches (known_through l.typed l.views)) l.kept l.parts l.part-index ≡ parts_rest (groups_view_breaches (known_through l.typed l.views)) l.fn.kept l.parts 0

abbrev pub invariant-keep_viewed_parts-loop-command : goal.invariant-keep_viewed_parts-loop-command
invariant-keep_viewed_parts-loop-command l =
    part_rest (part_view_breaches (known_through l.typed l.views)) (groups_view_breaches (known_through l.typed l.views)) l.kept l.command-items l.command-index l.parts (l.part-index + 1)
    ≡ parts_rest (groups_view_breaches (known_through l.typed l.views)) l.fn.kept l.parts 0

-- Those listed so far, and those of the rest, are all, where they have few copies.
use Rattle.std.proofs.Common.{List, ℕ, map, drop}
use Rattle.dh_tree.specs.Seen.{action_seen, actions, part_seen, groups}
use Rattle.dh_code.specs.Declarations.{groups_declarations, part_declarations}
use Rattle.dh_code.specs.Placed.{AreFew, IsLoopNest}
use Rattle.dh_code.proofs.FewDeclared.{Listing}
use Rattle.dh_code.proofs.places.+declaring.Given as goal

abbrev pub invariant-declare_parts-loop-part : goal.invariant-declare_parts-loop-part
invariant-declare_parts-loop-part l =
    (factors : List ℕ) → IsLoopNest factors l.depth l.copies → AreFew (groups_declarations factors (groups (map part_seen l.parts)))
    → Listing l.fn.list.items l.list.items (groups_declarations factors (groups (map part_seen l.parts))) (groups_declarations factors (groups (map part_seen (drop l.part-index l.parts))))

abbrev pub invariant-declare_parts-loop-command : goal.invariant-declare_parts-loop-command
invariant-declare_parts-loop-command l =
    (factors : List ℕ) → IsLoopNest factors l.depth l.copies → AreFew (part_declarations factors (actions (map action_seen l.command-items)))
    → Listing l.initial.list.items l.list.items (part_declarations factors (actions (map action_seen l.command-items))) (part_declarations factors (actions (map action_seen (drop l.command-index l.command-items))))

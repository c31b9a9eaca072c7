-- The views of the rest behind those so far are all, and so are their variables.
use Rattle.std.proofs.Common.{◌≡◌, ◌++◌, map, drop}
use Rattle.dh_tree.specs.Memories.{memories_of}
use Rattle.dh_tree.specs.Seen.{program_seen}
use Rattle.dh_meaning.specs.Ways.{behind_all, led_behind}
use Rattle.dh_ways.specs.Seen.{led_seen}
use Rattle.dh_ways.specs.Stands.{all_own, stand_seen, standing_seen}
use Rattle.dh_ways.proofs.tracing.push_ways.Given as goal

abbrev pub invariant-loop-view : goal.invariant-loop-view
invariant-loop-view l =
    (led_behind (memories_of (program_seen l.typed)) l.next (map led_seen l.ways) (map standing_seen (drop l.view-index l.stood)) ≡ led_behind (memories_of (program_seen l.typed)) l.fn.first (map led_seen l.fn.ways) (map standing_seen l.stood))
    × ((behind_all l.next (map standing_seen (drop l.view-index l.stood)) ≡ behind_all l.fn.first (map standing_seen l.stood))
    × (l.hidden ++ all_own l.next (map stand_seen (drop l.view-index l.stood)) ≡ l.fn.hidden ++ all_own l.fn.first (map stand_seen l.stood)))

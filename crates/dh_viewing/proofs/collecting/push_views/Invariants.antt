-- Those of the rest behind those so far are all.
use Rattle.std.proofs.Common.{◌≡◌, drop}
use Rattle.dh_tree.specs.Memories.{memories_of}
use Rattle.dh_tree.specs.Seen.{program_seen}
use Rattle.dh_viewing.specs.Finding.{viewings_found}
use Rattle.dh_tree.specs.Views.{viewed_behind}
use Rattle.dh_viewing.proofs.collecting.push_views.Given as goal

abbrev pub invariant-loop-view : goal.invariant-loop-view
invariant-loop-view l =
    viewed_behind (memories_of (program_seen l.typed)) l.views (viewings_found (drop l.view-index l.found)) ≡ viewed_behind (memories_of (program_seen l.typed)) l.fn.views (viewings_found l.found)

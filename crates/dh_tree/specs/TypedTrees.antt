-- What is kept of a tree whose every name has its entity and every expression its kind.
use Rattle.dh_tree.specs.declared.trees.counters.Loops.{Loops}
use Rattle.dh_tree.specs.declared.trees.memories.Collected.{Collected}
use Rattle.dh_tree.specs.declared.trees.programs.Tree.{Tree}
use Rattle.dh_tree.specs.Breaches.{KeepsNames}
use Rattle.dh_tree.specs.Collected.{AreLoopsOf, IsCollected}
use Rattle.dh_tree.specs.KindBreaches.{KeepsKinds}
use Rattle.dh_tree.specs.Kinds.{HasKinds}
use Rattle.dh_tree.specs.Resolved.{HasEntities}
use Rattle.dh_tree.specs.Seen.{program_seen}

-- it breaks no rule on names or kinds, and these are its memories and its loops
abbrev pub IsTypedWith : Tree → Collected → Loops → Type 0
IsTypedWith t memories loops =
    (KeepsNames (program_seen t) × HasEntities (program_seen t))
    × ((HasKinds (program_seen t) × KeepsKinds (program_seen t)) × (IsCollected t memories × AreLoopsOf t loops))

use Rattle.std.proofs.Common.{◌≤◌, map, drop}
use Rattle.dh_tree.specs.Seen.{factor_seen, term_seen}
use Rattle.dh_meaning.specs.CoreOf.{Known}
use Rattle.dh_lengths.specs.HeldLevels.{held_access_count, HasSoundLevels}
use Rattle.dh_lengths.specs.LedBy.{IsLedBy}
use Rattle.dh_lengths.proofs.KeptViews.{EachSo}
use Rattle.dh_lengths.proofs.views.level_suffixes.Given as goal

abbrev pub invariant-loop-pair : goal.invariant-loop-pair
invariant-loop-pair l =
    (known : Known) → IsLedBy l.ways known → HasSoundLevels l.fn.held → l.outer ≤ held_access_count l.fn.held
    → EachSo l.ways known l.fn.held l.held l.outer l.levels.items (map (λ s. s.offset) (map factor_seen (drop l.pair-index l.by))) (map (λ s. s.offset) (map factor_seen (l.by)))

use Rattle.std.proofs.Common.{◌≤◌, drop}
use Rattle.dh_meaning.specs.CoreOf.{Known}
use Rattle.dh_lengths.specs.LedBy.{IsLedBy}
use Rattle.dh_lengths.specs.HeldLevels.{held_access_count, HasSoundLevels}
use Rattle.dh_lengths.proofs.TermLevels.{TermsSo}
use Rattle.dh_lengths.proofs.terms.+leveling.Given as goal

abbrev pub invariant-level_terms-loop-index : goal.invariant-level_terms-loop-index
invariant-level_terms-loop-index l = (known : Known) → IsLedBy l.ways known → HasSoundLevels l.fn.held → l.outer ≤ held_access_count l.fn.held → TermsSo l.ways known l.fn.held l.held l.outer l.most (drop l.index-index l.indices) l.indices

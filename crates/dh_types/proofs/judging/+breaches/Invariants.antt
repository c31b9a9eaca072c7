use Rattle.std.specs.Prelude.{◌≡◌, map, drop}
use Rattle.dh_tree.specs.Seen.{term_seen, terms}
use Rattle.dh_tree.specs.LeastBreach.{least_of}
use Rattle.dh_tree.specs.KindBreaches.{indices_kind_breaches}
use Rattle.dh_types.specs.Facts.{facts_seen}
use Rattle.dh_types.proofs.judging.+breaches.Given as goal

abbrev pub invariant-keep_indices-loop-index : goal.invariant-keep_indices-loop-index
invariant-keep_indices-loop-index l =
    least_of l.kept (indices_kind_breaches (facts_seen l.facts) (terms (map term_seen (drop l.index-index l.indices))))
    ≡ least_of l.initial.kept (indices_kind_breaches (facts_seen l.facts) (terms (map term_seen l.indices)))

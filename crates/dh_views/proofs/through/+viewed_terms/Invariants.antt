use Rattle.std.proofs.Common.{◌≡◌, map, drop}
use Rattle.dh_tree.specs.LeastBreach.{least_of}
use Rattle.dh_tree.specs.Seen.{term_seen, terms}
use Rattle.dh_tree.specs.ViewBreaches.{terms_view_breaches}
use Rattle.dh_views.specs.Through.{known_through}
use Rattle.dh_views.proofs.through.+viewed_terms.Given as goal

-- what is left leads to what all leads to
abbrev pub invariant-keep_all_viewed-loop-index : goal.invariant-keep_all_viewed-loop-index
invariant-keep_all_viewed-loop-index l =
    least_of l.kept (terms_view_breaches (known_through l.typed l.views) (terms (map term_seen (drop l.index-index l.indices))))
    ≡ least_of l.fn.kept (terms_view_breaches (known_through l.typed l.views) (terms (map term_seen l.indices)))

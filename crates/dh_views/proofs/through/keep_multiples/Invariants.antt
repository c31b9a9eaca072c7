use Rattle.std.proofs.Common.{◌≡◌, map, drop}
use Rattle.dh_tree.specs.LeastBreach.{least_of}
use Rattle.dh_tree.specs.Seen.{factor_seen}
use Rattle.dh_views.specs.Through.{offsets_viewed}
use Rattle.dh_views.proofs.through.keep_multiples.Given as goal

-- what is left leads to what all leads to
abbrev pub invariant-loop-pair : goal.invariant-loop-pair
invariant-loop-pair l =
    least_of l.kept (offsets_viewed l.typed l.views (map (λ s. s.offset) (map factor_seen (drop l.pair-index l.by))))
    ≡ least_of l.fn.kept (offsets_viewed l.typed l.views (map (λ s. s.offset) (map factor_seen l.by)))

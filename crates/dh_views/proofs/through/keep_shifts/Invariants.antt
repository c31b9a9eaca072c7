use Rattle.std.proofs.Common.{◌≡◌, map, drop}
use Rattle.dh_tree.specs.LeastBreach.{least_of}
use Rattle.dh_tree.specs.Seen.{term_seen}
use Rattle.dh_views.specs.Through.{offsets_viewed}
use Rattle.dh_views.proofs.through.keep_shifts.Given as goal

-- what is left leads to what all leads to
abbrev pub invariant-loop-offset : goal.invariant-loop-offset
invariant-loop-offset l =
    least_of l.kept (offsets_viewed l.typed l.views (map term_seen (drop l.offset-index l.by))) ≡ least_of l.fn.kept (offsets_viewed l.typed l.views (map term_seen l.by))

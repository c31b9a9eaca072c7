-- The variables so far, and those of the rest, are all.
use Rattle.std.proofs.Common.{◌≡◌, ◌+◌, ◌++◌, map, drop}
use Rattle.dh_tree.specs.Seen.{term_seen}
use Rattle.dh_ways.specs.Stands.{hidden_at}
use Rattle.dh_ways.proofs.hiding.hide_pairs.Given as goal

abbrev pub invariant-loop-i : goal.invariant-loop-i
invariant-loop-i l = l.hidden ++ hidden_at (l.fn.first + l.i) l.fn.depth l.fn.copies (drop l.i (map (λ p. term_seen p.1) l.by)) ≡ hidden_at l.fn.first l.fn.depth l.fn.copies (map (λ p. term_seen p.1) l.by)

use Rattle.std.specs.Prelude.{◌≡◌, map, drop}
use Rattle.dh_tree.specs.Seen.{term_seen, terms}
use Rattle.dh_tree.specs.Kinds as rules
use Rattle.dh_types.proofs.judging.all_found.Given as goal

abbrev pub invariant-loop-index : goal.invariant-loop-index
invariant-loop-index l = rules.all_found (terms (map term_seen (drop l.index-index l.indices))) ≡ rules.all_found (terms (map term_seen l.indices))

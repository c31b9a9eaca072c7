use Rattle.std.proofs.Common.{◌≡◌, ◌++◌, drop}
use Rattle.std.specs.List.{AllByRecursion}
use Rattle.dh_bind.specs.Drafts.{pairs_of, FitsPair}
use Rattle.dh_bind.proofs.pairs.pairs_at.Given as goal

abbrev pub invariant-loop-listed : goal.invariant-loop-listed
invariant-loop-listed l = record {
  so_far : l.pairs ++ pairs_of l.wide l.firsts l.reach.access (drop l.listed-index l.reach.banks) ≡ pairs_of l.wide l.firsts l.reach.access l.reach.banks;
  fit : AllByRecursion (FitsPair l.wide l.firsts l.reach.access) (drop l.listed-index l.reach.banks);
}

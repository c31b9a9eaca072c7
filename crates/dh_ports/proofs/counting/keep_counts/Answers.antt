use Rattle.std.proofs.Common.{ℕ, List, ◌≤◌, sym, subst, arith}
use Rattle.dh_ports.specs.Copies.{AreKeyCounts}
use Rattle.dh_ports.proofs.SumTurns.{counts_again}
use Rattle.dh_ports.proofs.counting.keep_counts.Goals as goal

pub returns-then-are_of-clause-counts : goal.returns-then-are_of-clause-counts
returns-then-are_of-clause-counts c = counts_again c.args.tally.now.direct c.args.reach c.args.reach.paths.count c.args.banks (c.are_of.ensures c.if-are_of.true) c.requires.past.direct

pub count_paths-requires-clause-range : goal.count_paths-requires-clause-range
count_paths-requires-clause-range c =
    let few : c.args.reach.paths.count ≤ 256 = c.requires.range in
    omega (arith, few)

pub returns-clause-counts : goal.returns-clause-counts
returns-clause-counts c = subst (λ (l : List ℕ). AreKeyCounts c.args.reach 0 c.args.reach.paths.count c.args.banks l) (sym c.keep_direct.ensures.counts) c.in_ok-count_paths.ensures.counts

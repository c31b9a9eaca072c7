use Rattle.std.proofs.Common.{ℕ, ◌≤◌, sym, subst}
use Rattle.std.proofs.lemmas.Result.{on_ok_weaker}
use Rattle.dh_ports.proofs.RangeKeys.{counts_are, tells_paths}
use Rattle.dh_ports.proofs.counting.keys_reaching.Goals as goal

pub keep_counts-requires-clause-tells : goal.keep_counts-requires-clause-tells
keep_counts-requires-clause-tells c = λ one. tells_paths c.args.typed.now c.args.scopes.now c.args.copied.loops.now c.args.copied.dims.now c.args.copied.access.now c.args.copied.writes c.in_ok-reach.reach c.in_ok-reach.ensures c.requires.scopes one c.requires.copies

pub keep_counts-requires-clause-range : goal.keep_counts-requires-clause-range
keep_counts-requires-clause-range c = subst (λ (n : ℕ). n ≤ 256) (sym c.in_ok-reach.ensures.paths.count) c.requires.copies

pub keep_counts-requires-clause-few : goal.keep_counts-requires-clause-few
keep_counts-requires-clause-few c = subst (λ (n : ℕ). n ≤ 64) (sym c.requires.banks) c.requires.few

pub returns-clause-counts : goal.returns-clause-counts
returns-clause-counts c =
    on_ok_weaker c.keep_counts.result (λ so. counts_are c.args.typed.now c.args.scopes.now c.args.copied.loops.now c.args.copied.dims.now c.args.copied.access.now c.args.copied.writes c.in_ok-reach.reach c.in_ok-reach.ensures c.requires.scopes c.args.copied.banks c.keep_counts.new.tally.direct.counts.items so) c.keep_counts.ensures.counts

use Rattle.std.proofs.Common.{List, ℕ, subst, sym}
use Rattle.std.proofs.lemmas.Result.{on_ok_weaker}
use Rattle.dh_ports.specs.Carriers.{AreGroupSums}
use Rattle.dh_ports.proofs.SumTurns.{sums_again}
use Rattle.dh_ports.proofs.grouping.keep_sums.Goals as goal

pub returns-then-are_of-clause-sums : goal.returns-then-are_of-clause-sums
returns-then-are_of-clause-sums c = sums_again c.args.tally.now.last c.args.reach c.args.carrier.now c.args.stride c.args.groups (c.are_of.ensures c.if-are_of.true) c.requires.past.kept

pub returns-clause-sums : goal.returns-clause-sums
returns-clause-sums c =
    on_ok_weaker c.keep.result (λ so. subst (λ (l : List ℕ). AreGroupSums c.args.reach c.args.carrier.now c.args.stride c.args.groups l) (sym so) c.in_ok-sums.ensures.sums) c.keep.ensures.sums

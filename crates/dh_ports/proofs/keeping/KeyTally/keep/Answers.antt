use Rattle.dh_ports.proofs.SumTurns.{sums_kept}
use Rattle.dh_ports.proofs.keeping.KeyTally.keep.Goals as goal

pub returns-clause-past : goal.returns-clause-past
returns-clause-past c = record {
  past = c.requires.past;
  direct = c.requires.direct;
  kept = sums_kept c.args.reach c.args.carrier.now c.in_ok-carrier.carrier c.args.stride c.args.groups c.args.sums.items c.in_ok-carrier.ensures c.requires.are;
}

use Rattle.std.proofs.Common.{add-one}
use Rattle.dh_code.proofs.KeptValues.{set_at, set_end, set_first}
use Rattle.dh_code.proofs.running.set_all.Goals as goal

pub loop-i-init : goal.loop-i-init
loop-i-init c = set_first c.args.state.now c.args.ranks.now c.args.depth c.args.values.now c.args.found.now

pub loop-i-preserved : goal.loop-i-preserved
loop-i-preserved c = rw (add-one c.loop-i.i)
    (set_at c.args.state.now c.loop-i.state c.set.new.state c.args.ranks.now c.args.depth c.args.values.now c.args.found.now c.loop-i.i c.slot.result _ c.loop-i-test.true c.requires.long c.slot.ensures
    c.set.ensures.banks c.set.ensures.given c.set.ensures.writes c.set.ensures.kept c.in_ok-set.ensures.set c.set.ensures.back c.loop-i.invariant)

pub returns-clause-set : goal.returns-clause-set
returns-clause-set c = set_end c.args.state.now c.loop-i.state c.args.ranks.now c.args.depth c.args.values.now c.args.found.now c.loop-i.i c.loop-i-test.false c.loop-i.invariant

use Rattle.dh_tree.specs.Seen.{program_seen}
use Rattle.dh_gathering.proofs.KindsOfRegisters.{end_before, end_past, kinds_step}
use Rattle.dh_gathering.proofs.registers.registers_of.Goals.{then-i-held, else-i-held}
use Rattle.dh_gathering.proofs.registers.registers_of.Goals as goal

pub loop-i-preserved : goal.loop-i-preserved
loop-i-preserved c =
    kinds_step (program_seen c.args.program.now) c.args.held.now c.args.count c.loop-i.i c.narrow.result c.if-i-held.end c.saturating_sub.result c.register_kind-kind.result c.loop-i.registers c.push_kinds.new.registers
    c.loop-i-test.true c.narrow.ensures
    (elim c.if-i-held.branch [
      | then-i-held w ↦ end_before c.args.held.now c.args.count c.loop-i.i c.if-i-held.end w.if-i-held.true w.end-is
      | else-i-held w ↦ end_past c.args.held.now c.args.count c.loop-i.i c.if-i-held.end w.if-i-held.false w.end-is
    ])
    c.saturating_sub.ensures c.register_kind-kind.ensures c.in_ok-push_kinds.ensures c.loop-i.invariant

use Rattle.std.proofs.Common.{◌+◌, ap, refl}
use Rattle.dh_cells.proofs.CellsAppended.{grows_then}
use Rattle.dh_datapath.proofs.RegistersMade.{registers_more}
use Rattle.dh_datapath.proofs.registers.push_registers.Goals as goal

pub loop-r-preserved : goal.loop-r-preserved
loop-r-preserved c = record {
  grows = grows_then _ _ _ c.loop-r.invariant.grows c.in_ok-wire.ensures.grows;
  show =
      registers_more c.loop-r.circuit c.push_register.new.self c.args.offset c.args.kinds.now c.loop-r.wires c.push.new.self c.loop-r.r c.in_ok-wire.wire c.width.result (c.from.result + c.loop-r.r) _ c.loop-r.invariant.show
      c.in_ok-push.ensures refl c.width.ensures (ap (λ n. n + c.loop-r.r) c.from.ensures) c.in_ok-wire.ensures;
}

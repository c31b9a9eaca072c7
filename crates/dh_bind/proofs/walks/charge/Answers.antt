use Rattle.std.proofs.Common.{sym, refl}
use Rattle.dh_bind.proofs.RowTurns.{charge_ends}
use Rattle.dh_bind.proofs.walks.charge.Goals as goal

pub returns-in-Ok : goal.returns-in-Ok
returns-in-Ok c =
    charge_ends c.args.access c.in-Some.memory c.args.walker.now c.note.new.self c.charge_row.new.walker c.charge_row.result (sym c.in-Some.ensures.memory) (c.in-Some.ensures.inside c.in-Some.memory refl) c.in-Ok.ensures c.charge_row.ensures

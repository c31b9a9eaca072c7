use Rattle.dh_check.proofs.Checked.{fault_without_ports, without_ports}
use Rattle.dh_check.proofs.checking.check_without_ports.Goals as goal

pub returns-in-Ok : goal.returns-in-Ok
returns-in-Ok c = without_ports c.args.text.now c.in-Ok.counted c.in-Ok.ensures.tells

pub returns-in-Err : goal.returns-in-Err
returns-in-Err c = fault_without_ports c.args.text.now c.in-Err.fault c.in-Err.ensures.tells

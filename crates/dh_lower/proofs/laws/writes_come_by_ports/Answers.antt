use Rattle.dh_lower.proofs.OperationWrites.{step_rises}
use Rattle.dh_lower.proofs.PortWrites.{ports_rise, ports_write}
use Rattle.dh_lower.proofs.PutsByPlace.{puts_commute}
use Rattle.dh_lower.proofs.laws.writes_come_by_ports.Goals as goal

pub returns : goal.returns
returns c = record {
  commute = puts_commute;
  step = λ plan u users registers memories blocks has kept. step_rises plan u users has registers memories blocks kept;
  clock = λ table wires dss ps. record { rise = ports_rise table wires 0 dss ps; are = λ memories rows. ports_write table wires 0 dss ps memories rows };
}

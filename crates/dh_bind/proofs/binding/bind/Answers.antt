use Rattle.dh_plan.specs.Passes.{timing_seen}
use Rattle.dh_plan.specs.SeenPlans.{plan_seen}
use Rattle.dh_bind.proofs.Counted.{are_units}
use Rattle.dh_bind.proofs.PortsBound.{all_granted, all_ports}
use Rattle.dh_bind.proofs.binding.bind.Goals as goal

pub returns : goal.returns
returns c = record {
  all_ports = c.in_ok-ports.ensures.long;
  all_units = c.in_ok-unit.ensures.long;
  granted = all_granted (plan_seen c.args.plan.now) c.requires.plan (record { ports = c.in_ok-ports.ports; units = c.in_ok-unit.unit }) c.in_ok-ports.ensures;
  ports = all_ports (plan_seen c.args.plan.now) c.requires.plan (record { ports = c.in_ok-ports.ports; units = c.in_ok-unit.unit }) c.in_ok-ports.ensures;
  units = are_units (plan_seen c.args.plan.now) (timing_seen c.args.schedule.now) (record { ports = c.in_ok-ports.ports; units = c.in_ok-unit.unit }) c.in_ok-unit.ensures c.requires.clocks;
}

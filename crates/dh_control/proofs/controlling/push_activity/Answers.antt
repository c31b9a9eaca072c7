use Rattle.std.specs.Prelude.{map}
use Rattle.dh_control.proofs.ControlPut.{bits_of_stands, activity_made}
use Rattle.dh_control.proofs.controlling.push_activity.Goals as goal

pub push_active-requires : goal.push_active-requires
push_active-requires c = bits_of_stands _ _ c.args.state (map (λ s. s.block) c.args.states.now) c.in_ok-stands.stands c.as_slice.result.now c.in_ok-stands.ensures c.as_slice.ensures

pub returns : goal.returns
returns c =
    activity_made _ _ _ c.args.state (map (λ s. s.block) c.args.states.now) c.args.count c.in_ok-stands.stands c.as_slice.result.now c.in_ok-active.active c.in_ok-stands.ensures c.as_slice.ensures c.in_ok-active.ensures

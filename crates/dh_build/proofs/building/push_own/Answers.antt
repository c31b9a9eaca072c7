use Rattle.dh_build.proofs.PartsMade.{own_made}
use Rattle.dh_build.proofs.building.push_own.Goals as goal

pub returns : goal.returns
returns c =
    own_made c.args.circuit.now c.push_register.new.self c.push_register-2.new.self c.push_register-3.new.self c.push_register-4.new.self c.args.clock_width c.in_ok-clock.clock c.in_ok-tick.tick c.in_ok-fault.fault c.args.state_width
    c.in_ok-state.state c.in_ok-clock.ensures c.in_ok-tick.ensures c.in_ok-fault.ensures c.in_ok-state.ensures

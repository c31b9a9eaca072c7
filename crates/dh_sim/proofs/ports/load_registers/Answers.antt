use Rattle.std.proofs.Common.{◌<◌, length, arith, ap, ◌∙◌}
use Rattle.dh_sim.proofs.Places.{next_within}
use Rattle.dh_sim.proofs.Loading.{load_on, all_loaded}
use Rattle.dh_sim.proofs.ports.load_registers.Goals as goal

pub offset_bounds-wires-register : goal.offset_bounds-wires-register
offset_bounds-wires-register c =
    let within = next_within c.args.net.now c.requires.valid c.as_slice-register-items.result.now c.loop-i.i _ (record { width = 0; initial = 0; next = 0 }) c.as_slice-register-items.ensures c.loop-i-test.true c.requires.wires in
    omega arith

pub bounds-wires-register : goal.bounds-wires-register
bounds-wires-register c =
    next_within c.args.net.now c.requires.valid _ c.loop-i.i _ _ c.as_slice-register-items.ensures c.loop-i-test.true c.requires.wires

pub loop-i-preserved : goal.loop-i-preserved
loop-i-preserved c =
    let many = ap length c.as_slice-register-items.ensures in
    let inside : c.loop-i.i < length c.loop-i.registers = omega (arith, c.loop-i.auto.registers, c.requires.registers, c.loop-i-test.true) in
    load_on _ c.as_slice-register-items.result.now c.args.wires.now c.loop-i.registers c.loop-i.i _ c.as_slice-register-items.ensures c.loop-i-test.true inside c.loop-i.invariant

pub returns : goal.returns
returns c =
    all_loaded _ c.as_slice-register-items.result.now c.args.wires.now c.loop-i.registers c.loop-i.i c.as_slice-register-items.ensures c.loop-i-test.false
    (c.loop-i.auto.registers ∙ c.requires.registers) c.loop-i.invariant

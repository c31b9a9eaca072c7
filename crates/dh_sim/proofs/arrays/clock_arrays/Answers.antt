use Rattle.std.proofs.Common.{◌∙◌, sym}
use Rattle.std.proofs.lemmas.List.{length-map}
use Rattle.dh_sim.proofs.Keeping.{arrays_stay, fits_long, sound_stays}
use Rattle.dh_sim.proofs.arrays.clock_arrays.Goals as goal

pub read_ports-requires-clause-memories : goal.read_ports-requires-clause-memories
read_ports-requires-clause-memories c = sym (length-map c.args.memories.now (λ b. b.items)) ∙ fits_long _ _ c.requires.sound.memories

pub write_ports-requires-clause-memories : goal.write_ports-requires-clause-memories
write_ports-requires-clause-memories c = sym (length-map c.args.memories.now (λ b. b.items)) ∙ fits_long _ _ c.requires.sound.memories

pub settle-requires-clause-fit : goal.settle-requires-clause-fit
settle-requires-clause-fit c =
    arrays_stay c.args.net.now c.args.registers.now c.args.held.now c.args.wires.now c.args.memories.now c.as_slice-ports.result.now c.requires.sound
    (c.as_slice-ports.ensures.value ∙ c.requires.layout.ports) c.load_registers.new.registers c.read_ports.new.held c.load_registers.ensures c.read_ports.ensures

pub returns-clause-sound : goal.returns-clause-sound
returns-clause-sound c =
    sound_stays c.args.net.now c.args.registers.now c.args.held.now c.args.wires.now c.args.memories.now c.as_slice-ports.result.now c.requires.sound
    (c.as_slice-ports.ensures.value ∙ c.requires.layout.ports) c.load_registers.new.registers c.read_ports.new.held c.load_registers.ensures c.read_ports.ensures
    c.write_ports.new.memories c.settle.new.wires c.write_ports.ensures c.settle.ensures

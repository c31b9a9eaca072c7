-- The tests of the parts together are the test of the whole.
use Rattle.std.proofs.Common.{ℕ, ◌≡◌, Some, sym, ◌∙◌}
use Rattle.std.specs.Prelude.{slice_get}
use Rattle.dh_tree.specs.Shapes.{IsProgramTable}
use Rattle.dh_net.specs.BankPorts.{ports_of}
use Rattle.dh_net.specs.declared.nets.Register.{Register}
use Rattle.dh_net.specs.declared.nets.Cell.{Cell}
use Rattle.dh_net.specs.declared.nets.Net.{Net}
use Rattle.dh_net.specs.Valid.{HasWidth, IsRegister, IsCell, IsValid}
use Rattle.dh_net.specs.Parts.{HasPorts}
use Rattle.dh_net.proofs.PortWalks.{drive_long, each_drives}
use Rattle.dh_net.proofs.validity.valid.Goals.{then-are_registers, else-are_registers, then-are_cells, else-are_cells}
use Rattle.dh_net.proofs.validity.valid.Goals as goal

abbrev Outputs : Net → Type 0
Outputs net = HasWidth net.cells net.tick 1 × (HasWidth net.cells net.done 1 × HasWidth net.cells net.fault 32)

whole : (net : Net) → IsProgramTable net.table → ((i : ℕ) (r : Register) → slice_get net.registers i ≡ Some r → IsRegister net.cells r)
    → ((i : ℕ) (c : Cell) → slice_get net.cells i ≡ Some c → IsCell net.table net.registers net.cells i c) → HasPorts net → Outputs net → IsValid net
whole net table registers cells ports outputs =
    record {
      table = table;
      registers = registers;
      cells = cells;
      ports = drive_long net.cells (ports_of net.table) net.drivers ports;
      drivers = each_drives net.cells (ports_of net.table) net.drivers ports;
      tick = outputs.0;
      done = outputs.1.0;
      fault = outputs.1.1;
    }

outputs_of : (net : Net) → IsValid net → Outputs net
outputs_of net valid = (valid.tick, (valid.done, valid.fault))

pub returns-then-have_ports : goal.returns-then-have_ports
returns-then-have_ports c = (
  λ shown.
      elim c.if-are_cells.branch [
        | then-are_cells w ↦
            elim c.if-are_registers.branch [
              | then-are_registers v ↦
                  whole c.args.net.now (c.is_program_table.ensures.0 c.if-not-is_program_table.false) (c.are_registers.ensures.0 v.if-are_registers.true)
                  (v.are_cells.ensures.0 (sym v.value-is ∙ w.if-are_cells.true)) (w.have_ports.ensures.0 (sym w.value-is ∙ c.if-have_ports.true)) (c.has_outputs.ensures.0 shown)
              | else-are_registers v ↦ absurd (cc)
            ]
        | else-are_cells w ↦ absurd (cc)
      ],
  λ valid. c.has_outputs.ensures.1 (outputs_of c.args.net.now valid),
)

use Rattle.std.proofs.Common.{◌≤◌, ◌++◌, ◌∙◌, ap, sym, subst, List, length}
use Rattle.std.specs.Prelude.{string_bytes}
use Rattle.std.specs.List.{AllByRecursion}
use Rattle.std.proofs.lemmas.Result.{on_ok_weaker}
use Rattle.dh_net.specs.BankPorts.{ports_of}
use Rattle.dh_net.specs.declared.nets.Cell.{Cell}
use Rattle.dh_net.specs.declared.nets.Register.{Register}
use Rattle.dh_net.specs.declared.ports.Port.{Port}
use Rattle.dh_verilog.specs.Listed.{each_numbered}
use Rattle.dh_verilog.specs.Driving.{driving_text}
use Rattle.dh_verilog.specs.Text.{register_line, cell_line, outputs_text, clock_text, netlist_head_text}
use Rattle.dh_verilog.proofs.Appended.{five, two, moved}
use Rattle.dh_verilog.proofs.Walks.{of_each}
use Rattle.dh_verilog.proofs.writing.write_net.Goals as goal

pub write_registers-requires : goal.write_registers-requires
write_registers-requires c =
    subst (λ (l : List Register). AllByRecursion (λ r. 1 ≤ r.width) l) (sym c.as_slice-registers.ensures)
    (of_each (λ (r : Register). 1 ≤ r.width) c.args.net.now.registers (λ i r at. (c.requires.valid.registers i r at).least))

pub write_cells-requires : goal.write_cells-requires
write_cells-requires c =
    subst (λ (l : List Cell). AllByRecursion (λ k. 1 ≤ k.width) l) (sym c.as_slice.ensures)
    (of_each (λ (k : Cell). 1 ≤ k.width) c.args.net.now.cells (λ i k at. (c.requires.valid.cells i k at).least))

pub write_drivers-requires : goal.write_drivers-requires
write_drivers-requires c = ap length c.as_slice-2.ensures ∙ (c.requires.valid.ports ∙ ap (λ (l : List Port). length l) (sym c.requires.ports))

pub returns-clause-text : goal.returns-clause-text
returns-clause-text c =
    let net = c.args.net.now in
    let ports = c.args.ports.now in
    let all = ports_of net.table in
    let o0 = string_bytes c.args.out.now in
    let o1 = string_bytes c.write_head.new.out in
    let o2 = string_bytes c.write_registers.new.out in
    let o3 = string_bytes c.write_cells.new.out in
    let o4 = string_bytes c.write_drivers.new.out in
    let o5 = string_bytes c.write_outputs.new.out in
    let o6 = string_bytes c.write_clock.new.out in
    let head = moved (λ t. netlist_head_text net t) o1 o0 ports all c.requires.ports c.in_ok-write_head.ensures.text in
    let registers = moved (each_numbered register_line 0) o2 o1 c.as_slice-registers.result.now net.registers c.as_slice-registers.ensures c.in_ok-write_registers.ensures.text in
    let cells = moved (λ t. each_numbered (cell_line t) 0 t) o3 o2 c.as_slice.result.now net.cells c.as_slice.ensures c.in_ok-write_cells.ensures.text in
    let drivers = moved (λ t. driving_text all t) o4 o3 c.as_slice-2.result.now net.drivers c.as_slice-2.ensures (moved (λ t. driving_text t c.as_slice-2.result.now) o4 o3 ports all c.requires.ports c.in_ok-write_drivers.ensures) in
    let rest = driving_text all net.drivers ++ (outputs_text net.tick net.done net.fault ++ clock_text net.registers all) in
    on_ok_weaker c.write_clock.result
    (λ last.
    two o0 o1 o6 (netlist_head_text net all) (each_numbered register_line 0 net.registers ++ (each_numbered (cell_line net.cells) 0 net.cells ++ rest)) head
    (five o1 o2 o3 o4 o5 o6 (each_numbered register_line 0 net.registers) (each_numbered (cell_line net.cells) 0 net.cells) (driving_text all net.drivers) (outputs_text net.tick net.done net.fault) (clock_text net.registers all) registers cells drivers c.in_ok-write_outputs.ensures
    (moved (λ t. clock_text net.registers t) o6 o5 ports all c.requires.ports (moved (λ t. clock_text t ports) o6 o5 c.as_slice-registers.result.now net.registers c.as_slice-registers.ensures last))))
    c.write_clock.ensures

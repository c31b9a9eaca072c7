use Rattle.std.specs.Prelude.{codes, string_bytes}
use Rattle.std.proofs.lemmas.Result.{on_ok_weaker}
use Rattle.dh_verilog.specs.Listed.{each_numbered}
use Rattle.dh_verilog.specs.Head.{memory_line, fault_line, module_text}
use Rattle.dh_verilog.specs.Locals.{declared_text}
use Rattle.dh_verilog.proofs.Appended.{five, moved}
use Rattle.dh_verilog.proofs.writing.write_head.Goals as goal

pub returns-clause-text : goal.returns-clause-text
returns-clause-text c =
    let net = c.args.net.now in
    let ports = c.args.ports.now in
    let o0 = string_bytes c.args.out.now in
    let o1 = string_bytes c.push_str.new.self in
    let o2 = string_bytes c.write_memories.new.out in
    let o3 = string_bytes c.write_faults.new.out in
    let o4 = string_bytes c.write_module.new.out in
    let o5 = string_bytes c.write_declared.new.out in
    on_ok_weaker c.write_declared.result
    (five o0 o1 o2 o3 o4 o5 (codes "// dahlia netlist 1\n") (each_numbered memory_line 0 net.table) (each_numbered fault_line 1 net.faults) (module_text ports) (declared_text ports) c.in_ok-push_str.ensures.bytes
    (moved (each_numbered memory_line 0) o2 o1 c.as_slice.result.now net.table c.as_slice.ensures c.in_ok-write_memories.ensures)
    (moved (each_numbered fault_line 1) o3 o2 c.as_slice-2.result.now net.faults c.as_slice-2.ensures c.in_ok-write_faults.ensures.text)
    c.in_ok-write_module.ensures)
    c.write_declared.ensures

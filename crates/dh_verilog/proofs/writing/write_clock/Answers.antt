use Rattle.std.specs.Prelude.{codes, string_bytes}
use Rattle.std.proofs.lemmas.Result.{on_ok_weaker}
use Rattle.dh_verilog.specs.Listed.{each, each_numbered}
use Rattle.dh_verilog.specs.Locals.{local_served}
use Rattle.dh_verilog.specs.Text.{update_line}
use Rattle.dh_verilog.proofs.Appended.{four, pushed}
use Rattle.dh_verilog.proofs.writing.write_clock.Goals as goal

pub returns : goal.returns
returns c =
    on_ok_weaker c.push_str-2.result
    (four (string_bytes c.args.out.now) (string_bytes c.push_str.new.self) (string_bytes c.write_updates.new.out) (string_bytes c.write_served.new.out) (string_bytes c.push_str-2.new.self) (codes "  always @(posedge clk) begin\n") (each_numbered update_line 0 c.args.registers.now) (each local_served c.args.ports.now) (codes "  end\nendmodule\n") c.in_ok-push_str.ensures.bytes c.in_ok-write_updates.ensures c.in_ok-write_served.ensures)
    (pushed c.push_str-2.result (string_bytes c.push_str-2.new.self) (string_bytes c.write_served.new.out) (codes "  end\nendmodule\n") c.push_str-2.ensures.bytes)

use Rattle.std.specs.Prelude.{codes, string_bytes}
use Rattle.std.proofs.lemmas.Result.{on_ok_weaker}
use Rattle.dh_verilog.specs.Listed.{each}
use Rattle.dh_verilog.specs.Head.{outer_pins}
use Rattle.dh_verilog.proofs.Appended.{four, pushed}
use Rattle.dh_verilog.proofs.heads.write_module.Goals as goal

pub returns : goal.returns
returns c =
    on_ok_weaker c.push_str-3.result
    (four (string_bytes c.args.out.now) (string_bytes c.push_str.new.self) (string_bytes c.push_str-2.new.self) (string_bytes c.write_all_pins.new.out) (string_bytes c.push_str-3.new.self) (codes "module kernel(\n  input clk,\n  output tick,\n  output done,\n") (codes "  output [31:0] fault") (each outer_pins c.args.ports.now) (codes "\n);\n") c.in_ok-push_str.ensures.bytes c.in_ok-push_str-2.ensures.bytes c.in_ok-write_all_pins.ensures)
    (pushed c.push_str-3.result (string_bytes c.push_str-3.new.self) (string_bytes c.write_all_pins.new.out) (codes "\n);\n") c.push_str-3.ensures.bytes)

use Rattle.std.specs.Prelude.{codes, string_bytes}
use Rattle.std.proofs.lemmas.Result.{on_ok_weaker}
use Rattle.dh_verilog.specs.Listed.{each}
use Rattle.dh_verilog.specs.Locals.{local_zeros}
use Rattle.dh_verilog.proofs.Appended.{three, pushed}
use Rattle.dh_verilog.proofs.locals.write_zeros_block.Goals as goal

pub returns : goal.returns
returns c =
    on_ok_weaker c.push_str-2.result
    (three (string_bytes c.args.out.now) (string_bytes c.push_str.new.self) (string_bytes c.write_all_zeros.new.out) (string_bytes c.push_str-2.new.self) (codes "  integer k;\n  initial begin\n") (each local_zeros c.args.ports.now) (codes "  end\n") c.in_ok-push_str.ensures.bytes c.in_ok-write_all_zeros.ensures)
    (pushed c.push_str-2.result (string_bytes c.push_str-2.new.self) (string_bytes c.write_all_zeros.new.out) (codes "  end\n") c.push_str-2.ensures.bytes)

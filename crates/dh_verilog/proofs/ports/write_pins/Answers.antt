use Rattle.std.specs.Prelude.{codes, string_bytes}
use Rattle.std.proofs.lemmas.Result.{on_ok_weaker}
use Rattle.dh_verilog.specs.Head.{bit_pin, wide_pin}
use Rattle.dh_verilog.proofs.Appended.{five}
use Rattle.dh_verilog.proofs.ports.write_pins.Goals as goal

pub returns : goal.returns
returns c =
    on_ok_weaker c.write_wide_pin-3.result
    (five (string_bytes c.args.out.now) (string_bytes c.write_bit_pin.new.out) (string_bytes c.write_bit_pin-2.new.out) (string_bytes c.write_wide_pin.new.out) (string_bytes c.write_wide_pin-2.new.out) (string_bytes c.write_wide_pin-3.new.out) (bit_pin c.args.port (codes "_en")) (bit_pin c.args.port (codes "_we")) (wide_pin (codes "output") c.args.port.row_width c.args.port (codes "_row")) (wide_pin (codes "output") c.args.port.width c.args.port (codes "_out")) (wide_pin (codes "input") c.args.port.width c.args.port (codes "_in")) c.in_ok-write_bit_pin.ensures c.in_ok-write_bit_pin-2.ensures c.in_ok-write_wide_pin.ensures c.in_ok-write_wide_pin-2.ensures)
    c.write_wide_pin-3.ensures

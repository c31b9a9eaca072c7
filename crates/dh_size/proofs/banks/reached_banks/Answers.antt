use Rattle.std.proofs.Common.{false, replicate, ap, ◌∙◌}
use Rattle.dh_tree.specs.Elements.{banks_of}
use Rattle.dh_ports.specs.Claims.{source_of}
use Rattle.dh_size.proofs.MarkTurns.{marks_none}
use Rattle.dh_size.proofs.banks.reached_banks.Goals as goal

pub loop-number-init : goal.loop-number-init
loop-number-init c = marks_none c.args.typed.now c.args.dims.now (source_of c.args.loops.now false c.args.access.now) (banks_of c.args.dims.now) c.in_ok-marks.marks.items (c.in_ok-marks.ensures ∙ ap (λ n. replicate n false) c.bank_count-banks.ensures)

use Rattle.std.proofs.Common.{false}
use Rattle.dh_ports.specs.Claims.{source_of}
use Rattle.dh_size.proofs.ChargedBanks.{marks_done, marks_few}
use Rattle.dh_size.proofs.banks.banks_within.Goals as goal

pub count_marks-requires : goal.count_marks-requires
count_marks-requires c = record { few = marks_few c.args.typed.now (source_of c.args.loops.now false c.args.access.now) c.args.dims.now c.in_ok-marks.marks.items c.as_slice.result.now c.args.copies c.requires.few c.in_ok-marks.ensures c.as_slice.ensures.value }

pub returns : goal.returns
returns c = marks_done c.args.typed.now (source_of c.args.loops.now false c.args.access.now) c.args.dims.now c.in_ok-marks.marks.items c.as_slice.result.now c.args.copies c.count_marks.result c.requires.copies c.in_ok-marks.ensures c.as_slice.ensures.value c.count_marks.ensures

use Rattle.std.proofs.Common.{length}
use Rattle.dh_plan.specs.SoundPlans.{use_in}
use Rattle.dh_bind.specs.Costs.{FitsRows}
use Rattle.dh_bind.proofs.Flat.{used_has}
use Rattle.dh_bind.proofs.Noting.{noted_used}
use Rattle.dh_bind.proofs.costs.note_operation.Goals as goal

pub returns-in-Some : goal.returns-in-Some
returns-in-Some c =
    noted_used c.args.wide c.args.operation.now c.in-Some.reach.now c.args.memories.now c.args.counts.now c.note_banks.new.counts c.in-Some.ensures
    (used_has (FitsRows (length c.args.memories.now) c.args.wide) (use_in c.args.operation.now.form) c.in-Some.reach.now c.in-Some.ensures c.requires.fits).access c.note_banks.ensures

use Rattle.std.proofs.Common.{◌∙◌}
use Rattle.std.proofs.lemmas.List.{length-set}
use Rattle.dh_ports.proofs.LogFacts.{undoing_turn}
use Rattle.dh_ports.proofs.marks.undo_slice.Goals as goal

pub loop-i-preserved : goal.loop-i-preserved
loop-i-preserved c =
    (length-set _ _ _ ∙ c.loop-i.invariant.0, λ m. undoing_turn _ c.loop-i.left c.args.log.now c.loop-i.i m _ _ c.requires.inside c.loop-i.invariant.0 c.loop-i-test.true c.loop-i.auto.i (c.loop-i.invariant.1 m))

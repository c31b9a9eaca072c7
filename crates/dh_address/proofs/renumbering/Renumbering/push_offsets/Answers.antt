use Rattle.std.proofs.Common.{ap, ◌∙◌, List, ℕ}
use Rattle.std.specs.Prelude.{◌++◌, map}
use Rattle.dh_address.specs.Renumbered.{renumbered}
use Rattle.dh_address.proofs.WayTurns.{offsets_turn}
use Rattle.dh_address.proofs.renumbering.Renumbering.push_offsets.Goals as goal

pub loop-step-preserved : goal.loop-step-preserved
loop-step-preserved c =
    let f : (ℕ → ℕ) = λ v. renumbered c.args.self.now.first c.args.self.now.numbers v in
    offsets_turn f c.args.steps.now c.loop-step.step-index c.step-item.result c.loop-step.new c.push_each.new.new _ c.loop-step-test.true
    (c.in_ok-push_each.ensures ∙ ap (λ (vs : List ℕ). c.loop-step.new ++ map f vs) (c.as_slice.ensures ∙ ap (λ s. s.offsets) c.step-item.is)) c.loop-step.invariant

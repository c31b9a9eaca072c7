-- What is renumbered, and the rest to be, are all.
use Rattle.std.specs.Prelude.{◌≡◌, ◌++◌, drop, map}
use Rattle.dh_plan.specs.Ordered.{offsets_taken}
use Rattle.dh_address.specs.Renumbered.{renumbered}
use Rattle.dh_address.proofs.renumbering.Renumbering.push_offsets.Given as goal

abbrev pub invariant-loop-step : goal.invariant-loop-step
invariant-loop-step l =
    l.new ++ map (λ v. renumbered l.self.first l.self.numbers v) (offsets_taken (drop l.step-index l.steps))
    ≡ l.fn.new ++ map (λ v. renumbered l.self.first l.self.numbers v) (offsets_taken l.steps)

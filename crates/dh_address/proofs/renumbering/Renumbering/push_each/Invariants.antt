-- What is renumbered, and the rest to be, are all.
use Rattle.std.specs.Prelude.{◌≡◌, ◌++◌, drop, map}
use Rattle.dh_address.specs.Renumbered.{renumbered}
use Rattle.dh_address.proofs.renumbering.Renumbering.push_each.Given as goal

abbrev pub invariant-loop-value : goal.invariant-loop-value
invariant-loop-value l =
    l.new ++ map (λ v. renumbered l.self.first l.self.numbers v) (drop l.value-index l.old)
    ≡ l.fn.new ++ map (λ v. renumbered l.self.first l.self.numbers v) l.old

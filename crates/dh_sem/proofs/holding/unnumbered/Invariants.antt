-- The commands so far, and those of the rest, are all.
use Rattle.std.proofs.Common.{◌≡◌, ◌++◌, drop, map}
use Rattle.dh_phases.specs.declared.gathering.NumberedCommand.{NumberedCommand}
use Rattle.dh_sem.proofs.holding.unnumbered.Given as goal

abbrev pub invariant-loop-each : goal.invariant-loop-each
invariant-loop-each l = l.commands.items ++ map (λ (c : NumberedCommand). c.command) (drop l.each-index l.numbered) ≡ map (λ (c : NumberedCommand). c.command) l.numbered

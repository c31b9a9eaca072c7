-- After so many steps the interpreter stands there.
use Rattle.dh_tree.specs.Seen.{program_seen}
use Rattle.dh_sem.specs.Runs.{StandsAt}
use Rattle.dh_app.proofs.interpreting.run_for.Given as goal

abbrev pub invariant-loop : goal.invariant-loop
invariant-loop l = StandsAt (program_seen l.typed) l.fn.memories l.counter l.interp

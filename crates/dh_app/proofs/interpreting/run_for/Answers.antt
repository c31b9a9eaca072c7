-- Each step leads on by one, and where the run does not go on it stands there for good.
use Rattle.std.proofs.Common.{◌≡◌, ℕ, subst, arith}
use Rattle.dh_tree.specs.Seen.{program_seen}
use Rattle.dh_sem.specs.Runs.{StandsAt}
use Rattle.dh_app.proofs.Interpreted.{steps_below, stepped, stopped}
use Rattle.dh_app.proofs.interpreting.run_for.Goals as goal

pub step-requires : goal.step-requires
step-requires c =
    let fits = c.ranges.steps.fits in
    let below = steps_below (program_seen c.args.typed.now) c.args.memories c.loop.counter c.args.steps c.loop.interp c.loop.invariant c.loop-test.true in
    record { steps = omega (arith, fits, below) }

pub returns-in_default : goal.returns-in_default
returns-in_default c =
    stopped (program_seen c.args.typed.now) c.args.memories c.loop.counter c.args.steps c.loop.interp c.step.new.self c.in_ok-step.field-0 c.in_ok-step.ensures c.in_default.not-Going c.loop-test.true c.loop.invariant

pub loop-preserved : goal.loop-preserved
loop-preserved c = stepped (program_seen c.args.typed.now) c.args.memories c.loop.counter c.loop.interp c.step.new.self c.in_ok-step.field-0 c.in_ok-step.ensures c.loop.invariant

pub new-requires-clause-table : goal.new-requires-clause-table
new-requires-clause-table c = c.ready_programs_have_tables.ensures (program_seen c.args.typed.now) c.requires.ready

pub new-requires-clause-runnable : goal.new-requires-clause-runnable
new-requires-clause-runnable c = c.ready_programs_are_runnable.ensures.ready (program_seen c.args.typed.now) c.requires.ready

pub returns : goal.returns
returns c =
    let past = c.loop-test.false in
    let up = c.loop.auto.counter-end in
    let all : c.loop.counter ≡ c.args.steps = omega (arith, past, up) in
    subst (λ (n : ℕ). StandsAt (program_seen c.args.typed.now) c.args.memories n c.loop.interp) all c.loop.invariant

-- What a step leads to is steady, and stands as the checked semantics says.
use Rattle.std.proofs.Common.{ap, refl, sym, ◌∙◌}
use Rattle.dh_code.specs.States.{memories_written}
use Rattle.dh_sem.specs.Runs.{InterpreterState}
use Rattle.dh_sem.proofs.Stepped.{coursed_as, done_seen, frames_copied, frames_sound, stands_still, steady_back, steady_next, stop_is, stop_seen}
use Rattle.dh_sem.proofs.interp.Interp.step.Goals as goal

pub returns-in_default : goal.returns-in_default
returns-in_default c = stands_still c.args.self.now c.self.inside.outcome (ap (λ (r : InterpreterState). r.outcome) c.self.view_is) c.in_default.not-Going

pub advance-requires-clause-frames : goal.advance-requires-clause-frames
advance-requires-clause-frames c = frames_sound c.as_slice-2.result.now c.self.inside.made.phases.items c.extend_from_slice.new.self.items c.self.inside.frames.items c.as_slice-2.ensures.value
    (frames_copied c.extend_from_slice.new.self.items c.clear.new.self.items c.as_slice-4.result.now c.self.inside.frames.items c.in_ok-extend_from_slice.ensures.items c.clear.ensures.items c.as_slice-4.ensures.value) c.self.invariant.frames

pub invariant_of-self-in-Ok : goal.invariant_of-self-in-Ok
invariant_of-self-in-Ok c =
    let i = c.self.inside in
    steady_next c.in-Ok.ensures.ready (record { code = i.made.code; phases = i.made.phases.items; lanes = i.made.lanes.items }) refl i.outcome c.outcome_at-self-inside.result i.steps i.memories i.state.variables.items i.place i.frames.items
    i.state.given.items i.state.banks.items i.firsts.items c.self.invariant c.as_slice-2.result.now c.advance.new.next c.advance.new.frames.items c.swap.new.x.items c.make_writes.new.memories c.as_slice-2.ensures.value
    (c.make_writes.ensures ∙ ap (λ ws. memories_written ws i.memories) c.as_slice-in-Ok.ensures.value) (ap (λ v. v.items) c.swap.ensures.x_after) c.in-Ok.ensures.frames c.in-Ok.ensures.place refl

pub invariant_of-self-in-Some-stopped_at : goal.invariant_of-self-in-Some-stopped_at
invariant_of-self-in-Some-stopped_at c =
    let i = c.self.inside in
    steady_back c.in-Err.ensures.ready (record { code = i.made.code; phases = i.made.phases.items; lanes = i.made.lanes.items }) refl i.outcome c.in-Some-stopped_at.outcome i.steps i.memories i.state.variables.items i.place i.frames.items
    i.state.given.items i.state.banks.items i.firsts.items c.self.invariant i.state c.in-Err.ensures.back

pub invariant_of-self-in-None : goal.invariant_of-self-in-None
invariant_of-self-in-None c =
    let i = c.self.inside in
    steady_back c.in-Err.ensures.ready (record { code = i.made.code; phases = i.made.phases.items; lanes = i.made.lanes.items }) refl i.outcome i.outcome i.steps i.memories i.state.variables.items i.place i.frames.items
    i.state.given.items i.state.banks.items i.firsts.items c.self.invariant i.state c.in-Err.ensures.back

pub returns-in-Ok : goal.returns-in-Ok
returns-in-Ok c =
    let i = c.self.inside in
    done_seen c.in-Ok.ensures.ready (record { phases = c.as_slice-2.result; lanes = c.as_slice-3.result }) i.state c.in-Some.at c.extend_from_slice.new.self.items i.frames.items c.advance.new.frames.items
    (record { code = i.made.code; phases = i.made.phases.items; lanes = i.made.lanes.items }) i.steps i.memories i.outcome i.place (coursed_as i.made.code c.as_slice-2.result.now i.made.phases.items c.as_slice-3.result.now i.made.lanes.items c.as_slice-2.ensures.value c.as_slice-3.ensures.value) c.lists.ensures
    (frames_copied c.extend_from_slice.new.self.items c.clear.new.self.items c.as_slice-4.result.now i.frames.items c.in_ok-extend_from_slice.ensures.items c.clear.ensures.items c.as_slice-4.ensures.value) c.in-Going.is c.in-Some.is c.args.self.now c.self.view_is
    c.advance.new.next c.swap.new.x.items c.make_writes.new.memories c.outcome_at-self-inside.result c.in-Ok.ensures.advances (c.make_writes.ensures ∙ ap (λ ws. memories_written ws i.memories) c.as_slice-in-Ok.ensures.value) c.outcome_at-self-inside.ensures (ap (λ v. v.items) c.swap.ensures.x_after)

pub returns-in-Some-stopped_at : goal.returns-in-Some-stopped_at
returns-in-Some-stopped_at c =
    let i = c.self.inside in
    stop_seen c.in-Err.ensures.ready (record { phases = c.as_slice-2.result; lanes = c.as_slice-3.result }) i.state c.in-Some.at c.extend_from_slice.new.self.items i.frames.items c.advance.new.frames.items
    (record { code = i.made.code; phases = i.made.phases.items; lanes = i.made.lanes.items }) i.steps i.memories i.outcome i.place (coursed_as i.made.code c.as_slice-2.result.now i.made.phases.items c.as_slice-3.result.now i.made.lanes.items c.as_slice-2.ensures.value c.as_slice-3.ensures.value) c.lists.ensures
    (frames_copied c.extend_from_slice.new.self.items c.clear.new.self.items c.as_slice-4.result.now i.frames.items c.in_ok-extend_from_slice.ensures.items c.clear.ensures.items c.as_slice-4.ensures.value) c.in-Going.is c.in-Some.is c.args.self.now c.self.view_is
    c.in-Err.stop c.in-Some-stopped_at.outcome (stop_is c.in-Err.stop c.in-Some-stopped_at.outcome (sym c.stopped_at.ensures ∙ c.in-Some-stopped_at.is)) c.in-Err.ensures.advances c.in-Err.ensures.back

use Rattle.std.proofs.Common.{length, refl}
use Rattle.std.proofs.lemmas.Result.{IfOk-weaker}
use Rattle.dh_sem.specs.declared.phases.Frame.TheVariants.{Test, Pick}
use Rattle.dh_sem.specs.Steps.{course_of}
use Rattle.dh_sem.proofs.Going.{descends_turns, enters_of, into_choice, into_loop, into_straight}
use Rattle.dh_sem.proofs.LinksFollowed.{number_there}
use Rattle.dh_sem.proofs.stepping.+descend.Goals as goal

pub phase_at-phase-requires : goal.phase_at-phase-requires
phase_at-phase-requires t c = record { there = number_there (length c.args.course.now.phases.now) c.in-Some.at c.args.list c.in-Some.is c.requires.list }

pub returns-in-Straight-clause-descends : goal.returns-in-Straight-clause-descends
returns-in-Straight-clause-descends t c = λ table p made factors qs k behind v are come settled h.
    let x = course_of made c.args.course.now in
    let e = enters_of table p x factors c.args.list c.in-Some.at c.phase_at-phase.result.now qs are c.in-Some.is c.phase_at-phase.ensures in
    into_straight table p x factors c.in-Some.at c.phase_at-phase.result.now c.phase_at-phase.ensures qs e k behind v c.args.state.now c.args.frames.now.items c.push.new.self.items c.in_ok-push.ensures.items settled come h _ c.in-Straight.is

pub returns-in_ok-push-in-Loop-clause-descends : goal.returns-in_ok-push-in-Loop-clause-descends
returns-in_ok-push-in-Loop-clause-descends t c = λ table p made factors qs k behind v are come settled h.
    let x = course_of made c.args.course.now in
    let e = enters_of table p x factors c.args.list c.in-Some.at c.phase_at-phase.result.now qs are c.in-Some.is c.phase_at-phase.ensures in
    into_loop table p x factors c.in-Some.at c.phase_at-phase.result.now c.phase_at-phase.ensures qs e k behind v c.args.state.now c.args.frames.now.items c.push.new.self.items c.push-in-Loop.new.self.items (Test c.in-Some.at) c.in_ok-push.ensures.items c.in_ok-push-in-Loop.ensures.items settled come h _ _ c.in-Loop.is refl

pub returns-in_ok-push-in-Choice-clause-descends : goal.returns-in_ok-push-in-Choice-clause-descends
returns-in_ok-push-in-Choice-clause-descends t c = λ table p made factors qs k behind v are come settled h.
    let x = course_of made c.args.course.now in
    let e = enters_of table p x factors c.args.list c.in-Some.at c.phase_at-phase.result.now qs are c.in-Some.is c.phase_at-phase.ensures in
    into_choice table p x factors c.in-Some.at c.phase_at-phase.result.now c.phase_at-phase.ensures qs e k behind v c.args.state.now c.args.frames.now.items c.push.new.self.items c.push-in-Choice.new.self.items (Pick c.in-Some.at) c.in_ok-push.ensures.items c.in_ok-push-in-Choice.ensures.items settled come h _ _ _ c.in-Choice.is refl

pub returns-in_ok-push-in-Turns-clause-descends : goal.returns-in_ok-push-in-Turns-clause-descends
returns-in_ok-push-in-Turns-clause-descends t c =
    IfOk-weaker c.descend.result _ _ (λ found d.
    descends_turns c.args.course.now c.args.list c.in-Turns.turns.body found c.in-Some.at c.phase_at-phase.result.now c.in-Turns.turns c.lanes_at.result.now c.args.state.now c.begin_turn.new.state c.descend.new.state c.args.frames.now.items c.push.new.self.items c.push-in-Turns.new.self.items c.descend.new.frames.items
    c.in-Some.is c.phase_at-phase.ensures c.in-Turns.is c.lanes_at.ensures c.in_ok-begin_turn-in-Turns.ensures.begins c.in_ok-push.ensures.items c.in_ok-push-in-Turns.ensures.items d) c.descend.ensures.descends

use Rattle.std.proofs.Common.{ℕ, Bool, Some, sym, subst}
use Rattle.std.specs.Prelude.{Option}
use Rattle.std.proofs.lemmas.Result.{IfOk-weaker}
use Rattle.dh_sem.specs.declared.phases.Frame.{Frame}
use Rattle.dh_sem.specs.declared.phases.Frame.TheVariants.{Test}
use Rattle.dh_sem.specs.Steps.{Descends, FollowsFrame, Lightens, NowhereIfNone}
use Rattle.dh_sem.proofs.Following.{again_follows, list_follows, ok_both, pick_follows, test_follows, test_light}
use Rattle.dh_sem.proofs.stepping.follow.Goals as goal

pub returns-in-List-clause-follows : goal.returns-in-List-clause-follows
returns-in-List-clause-follows c =
    IfOk-weaker c.go_into.result _ _ (λ found h. subst (λ (f : Frame). FollowsFrame c.args.course.now f c.args.holds found c.args.state.now c.go_into.new.state c.args.frames.now.items c.go_into.new.frames.items) (sym c.in-List.is)
    (list_follows c.args.course.now c.in-List.list found c.args.holds c.args.state.now c.go_into.new.state c.args.frames.now.items c.go_into.new.frames.items h.0 h.1))
    (ok_both c.go_into.result _ _ c.go_into.ensures.none c.go_into.ensures.descends)

pub returns-in-Turn-clause-follows : goal.returns-in-Turn-clause-follows
returns-in-Turn-clause-follows c =
    IfOk-weaker c.next_turn.result _ _ (λ found h. subst (λ (f : Frame). FollowsFrame c.args.course.now f c.args.holds found c.args.state.now c.next_turn.new.state c.args.frames.now.items c.next_turn.new.frames.items) (sym c.in-Turn.is) h)
    (c.next_turn.ensures.follows c.args.holds)

pub returns-in_ok-push-in-Test-clause-light : goal.returns-in_ok-push-in-Test-clause-light
returns-in_ok-push-in-Test-clause-light c =
    IfOk-weaker c.descend.result _ _ (λ found h. subst (λ (f : Frame). Lightens found f c.args.state.now c.descend.new.state c.args.frames.now.items c.descend.new.frames.items) (sym c.in-Test.is)
    (test_light c.args.course.now c.in-Test.at c.arm.result found c.args.state.now c.descend.new.state c.args.frames.now.items c.push.new.self.items c.descend.new.frames.items c.in_ok-push-in-Test.ensures.items h))
    c.descend.ensures.none

pub returns-in_ok-push-in-Test-clause-follows : goal.returns-in_ok-push-in-Test-clause-follows
returns-in_ok-push-in-Test-clause-follows c =
    IfOk-weaker c.descend.result _ _ (λ found h.
    subst (λ (f : Frame). FollowsFrame c.args.course.now f c.args.holds found c.args.state.now c.descend.new.state c.args.frames.now.items c.descend.new.frames.items) (sym c.in-Test.is)
    (subst (λ (b : Bool). FollowsFrame c.args.course.now (Test c.in-Test.at) b found c.args.state.now c.descend.new.state c.args.frames.now.items c.descend.new.frames.items) (sym c.if-not-holds.false)
    (test_follows c.args.course.now c.in-Test.at c.phase_at-phase.result.now found c.args.state.now c.descend.new.state c.args.frames.now.items c.push.new.self.items c.descend.new.frames.items c.phase_at-phase.ensures c.in_ok-push-in-Test.ensures.items
    (subst (λ (l : Option ℕ). NowhereIfNone l found c.args.state.now c.descend.new.state c.push.new.self.items c.descend.new.frames.items) c.arm.ensures h.0)
    (subst (λ (l : Option ℕ). Descends c.args.course.now l found c.args.state.now c.descend.new.state c.push.new.self.items c.descend.new.frames.items) c.arm.ensures h.1))))
    (ok_both c.descend.result _ _ c.descend.ensures.none c.descend.ensures.descends)

pub returns-in_ok-push-in-Again-clause-follows : goal.returns-in_ok-push-in-Again-clause-follows
returns-in_ok-push-in-Again-clause-follows c =
    subst (λ (f : Frame). FollowsFrame c.args.course.now f c.args.holds (Some c.in-Again.at) c.args.state.now c.args.state.now c.args.frames.now.items c.push-in-Again.new.self.items) (sym c.in-Again.is)
    (again_follows c.args.course.now c.in-Again.at c.args.holds c.args.state.now c.args.frames.now.items c.push-in-Again.new.self.items c.in_ok-push-in-Again.ensures.items)

pub returns-in-Pick-clause-follows : goal.returns-in-Pick-clause-follows
returns-in-Pick-clause-follows c =
    IfOk-weaker c.descend-in-Pick.result _ _ (λ found h.
    subst (λ (f : Frame). FollowsFrame c.args.course.now f c.args.holds found c.args.state.now c.descend-in-Pick.new.state c.args.frames.now.items c.descend-in-Pick.new.frames.items) (sym c.in-Pick.is)
    (pick_follows c.args.course.now c.in-Pick.at c.phase_at-phase-in-Pick.result.now found c.args.holds c.args.state.now c.descend-in-Pick.new.state c.args.frames.now.items c.descend-in-Pick.new.frames.items c.phase_at-phase-in-Pick.ensures
    (subst (λ (l : Option ℕ). NowhereIfNone l found c.args.state.now c.descend-in-Pick.new.state c.args.frames.now.items c.descend-in-Pick.new.frames.items) c.arm-in-Pick.ensures h.0)
    (subst (λ (l : Option ℕ). Descends c.args.course.now l found c.args.state.now c.descend-in-Pick.new.state c.args.frames.now.items c.descend-in-Pick.new.frames.items) c.arm-in-Pick.ensures h.1)))
    (ok_both c.descend-in-Pick.result _ _ c.descend-in-Pick.ensures.none c.descend-in-Pick.ensures.descends)

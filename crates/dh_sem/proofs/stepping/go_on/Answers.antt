use Rattle.std.proofs.Common.{◌<◌, ℕ, ap, sym, ◌∙◌, subst, rules}
use Rattle.std.specs.Prelude.{Option}
use Rattle.dh_sem.specs.Steps.{FollowsFrame, Lightens, weight_of}
use Rattle.dh_sem.proofs.Following.{gone_first, gone_more, gone_over, gone_to, weight_last}
use Rattle.dh_sem.proofs.TurnsBegun.{only_then}
use Rattle.dh_sem.proofs.stepping.go_on.Goals as goal

pub loop-frame-init : goal.loop-frame-init
loop-frame-init c = gone_first c.args.course.now c.args.holds c.args.state.now c.args.frames.now.items c.requires.frames

pub loop-frame-preserved : goal.loop-frame-preserved
loop-frame-preserved c =
    let light = subst (λ (o : Option ℕ). Lightens o c.in-Some.frame c.loop-frame.state c.follow.new.state c.pop.new.self.items c.follow.new.frames.items) c.in-None.is c.in_ok-at.ensures.light in
    gone_more c.args.course.now c.args.holds c.args.state.now c.loop-frame.state c.args.frames.now.items c.loop-frame.frames.items c.loop-frame.invariant
    c.in-Some.frame c.follow.new.state c.pop.new.self.items c.follow.new.frames.items c.in-Some.ensures.items light.0 c.follow.ensures.only c.in_ok-at.ensures.frames
    (subst (λ (o : Option ℕ). FollowsFrame c.args.course.now c.in-Some.frame c.args.holds o c.loop-frame.state c.follow.new.state c.pop.new.self.items c.follow.new.frames.items) c.in-None.is c.in_ok-at.ensures.follows)

pub loop-frame-smaller : goal.loop-frame-smaller
loop-frame-smaller c =
    let light = subst (λ (o : Option ℕ). Lightens o c.in-Some.frame c.loop-frame.state c.follow.new.state c.pop.new.self.items c.follow.new.frames.items) c.in-None.is c.in_ok-at.ensures.light in
    subst (λ (n : ℕ). weight_of c.follow.new.frames.items < n) (sym (weight_last c.pop.new.self.items c.in-Some.frame) ∙ ap weight_of (sym c.in-Some.ensures.items)) light.1

pub returns-in-Some-2-clause-only : goal.returns-in-Some-2-clause-only
returns-in-Some-2-clause-only c = only_then c.args.state.now c.loop-frame.state c.follow.new.state c.loop-frame.invariant.only c.follow.ensures.only

pub returns-in-Some-2-clause-goes : goal.returns-in-Some-2-clause-goes
returns-in-Some-2-clause-goes c =
    gone_to c.args.course.now c.args.holds c.args.state.now c.loop-frame.state c.args.frames.now.items c.loop-frame.frames.items c.loop-frame.invariant
    c.in-Some-2.at c.in-Some.frame c.follow.new.state c.pop.new.self.items c.follow.new.frames.items c.in-Some.ensures.items
    (subst (λ (o : Option ℕ). FollowsFrame c.args.course.now c.in-Some.frame c.args.holds o c.loop-frame.state c.follow.new.state c.pop.new.self.items c.follow.new.frames.items) c.in-Some-2.is c.in_ok-at.ensures.follows)

pub returns-in_err-at-clause-only : goal.returns-in_err-at-clause-only
returns-in_err-at-clause-only c = only_then c.args.state.now c.loop-frame.state c.follow.new.state c.loop-frame.invariant.only c.follow.ensures.only

pub returns-clause-goes : goal.returns-clause-goes
returns-clause-goes c =
    gone_over c.args.course.now c.args.holds c.args.state.now c.loop-frame.state c.args.frames.now.items c.loop-frame.frames.items c.loop-frame.invariant _ (search rules)

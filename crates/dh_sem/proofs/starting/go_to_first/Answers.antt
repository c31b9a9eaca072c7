use Rattle.std.proofs.Common.{List, [], ◌∷◌, ◌++◌, false, refl, ap, subst, ◌∙◌}
use Rattle.dh_sem.specs.declared.phases.Frame.{Frame}
use Rattle.dh_sem.specs.declared.phases.Frame.TheVariants.{List as Rest}
use Rattle.dh_sem.specs.Steps.{GoesOn}
use Rattle.dh_sem.proofs.FirstRun.{framed_as}
use Rattle.dh_sem.proofs.starting.go_to_first.Goals as goal

pub go_on-requires-clause-frames : goal.go_on-requires-clause-frames
go_on-requires-clause-frames c =
    framed_as c.args.course.now.phases.now c.args.course.now.phases.now c.args.first c.push.new.self.items refl (c.in_ok-push.ensures.items ∙ ap (λ l. l ++ Rest c.args.first ∷ []) c.requires.none) c.requires.first

pub returns : goal.returns
returns c = record {
  only = c.go_on.ensures.only;
  sound = c.in_ok-place.ensures.frames;
  earlier = c.in_ok-place.ensures.place;
  goes = subst (λ (l : List Frame). GoesOn c.args.course.now c.in_ok-place.place c.args.state.now c.go_on.new.state l c.go_on.new.frames.items false)
      (c.in_ok-push.ensures.items ∙ ap (λ l. l ++ Rest c.args.first ∷ []) c.requires.none) c.in_ok-place.ensures.goes;
}

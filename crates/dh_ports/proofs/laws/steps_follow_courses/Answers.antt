use Rattle.std.proofs.Common.{◌∙◌, ◌+◌, ap, refl}
use Rattle.std.specs.Prelude.{Some}
use Rattle.dh_ports.specs.declared.levels.Step.TheVariants as step
use Rattle.dh_ports.specs.Expanded.{expand, steps_before}
use Rattle.dh_ports.proofs.ExpandedTies.{left_at, placed}
use Rattle.dh_ports.proofs.laws.steps_follow_courses.Goals as goal

pub returns : goal.returns
returns c = λ f taking slot n levels xs k j takes least most is free.
    let r = placed f taking slot n (levels slot) xs k j (step.Access slot takes) (steps_before f n xs k + j) least most is refl in
    left_at levels (expand f n xs) (steps_before f n xs k + j) (step.Access slot takes) r.stands ∙ ap (λ v. Some v) (r.left free)

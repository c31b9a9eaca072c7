use Rattle.std.proofs.Common.{◌++◌, List, map, ap, ◌∙◌}
use denote.Ref.{Bor}
use Rattle.dh_tree.specs.declared.viewing.ViewMap.{ViewMap}
use Rattle.dh_meaning.specs.Ways.{step_of}
use Rattle.dh_expressions.specs.Evaluated.{steps_told}
use Rattle.dh_plan.specs.declared.operations.ReachStep.{ReachStep}
use Rattle.dh_expressions.proofs.passages.steps_on.Goals as goal

pub returns : goal.returns
returns c =
    c.in_ok-add_views.ensures
    ∙ (ap (λ (ss : List ReachStep). ss ++ steps_told c.args.scene.now.through.now c.args.first (map step_of (map (λ (v : Bor ViewMap). v.now) c.as_slice.result.now)) c.args.values.now) c.new-steps.ensures
    ∙ ap (λ (vs : List ViewMap). steps_told c.args.scene.now.through.now c.args.first (map step_of vs) c.args.values.now) (ap (map (λ (v : Bor ViewMap). v.now)) c.as_slice.ensures.value ∙ c.in_ok-links.ensures))

use Rattle.std.proofs.Common.{List, ap, map, subst, ◌∙◌, ℕ}
use Rattle.std.proofs.lemmas.Result.{IfOk-weaker}
use Rattle.dh_ways.specs.declared.ways.Hidden.{Hidden}
use Rattle.dh_ways.specs.Seen.{hidden_seen, way_seen}
use Rattle.dh_expressions.specs.Evaluated.{ShowsHidden, steps_told}
use Rattle.dh_expressions.specs.MadeTerms.{MadeHidden}
use Rattle.dh_expressions.proofs.passages.push_steps.Goals as goal

pub returns-clause-means : goal.returns-clause-means
returns-clause-means c =
    IfOk-weaker c.steps_on.result _ _ (λ steps made. record {
      values = c.in_ok-values.values;
      shows = subst (λ (hs : List Hidden). ShowsHidden c.args.scene.now c.args.lane.now c.args.current.now c.args.draft.now c.push_offsets.new.draft (map hidden_seen hs) c.in_ok-values.values) (c.as_slice.ensures ∙ c.in_ok-hidden.ensures) c.in_ok-values.ensures.means;
      steps_are = made ∙ ap (λ (vs : List ℕ). steps_told c.args.scene.now.through.now c.args.first (way_seen c.args.way.now).steps vs) c.as_slice-2.ensures;
    }) c.steps_on.ensures

pub returns-clause-made : goal.returns-clause-made
returns-clause-made c =
    IfOk-weaker c.steps_on.result _ _ (λ steps made. record {
      values = c.in_ok-values.values;
      hidden = subst (λ (hs : List Hidden). MadeHidden c.args.scene.now c.args.lane.now c.args.current.now (map hidden_seen hs) c.args.draft.now c.push_offsets.new.draft c.in_ok-values.values) (c.as_slice.ensures ∙ c.in_ok-hidden.ensures) c.in_ok-values.ensures.made;
      steps_are = made ∙ ap (λ (vs : List ℕ). steps_told c.args.scene.now.through.now c.args.first (way_seen c.args.way.now).steps vs) c.as_slice-2.ensures;
    }) c.steps_on.ensures

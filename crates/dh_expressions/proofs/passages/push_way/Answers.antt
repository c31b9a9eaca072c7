use Rattle.std.proofs.Common.{ℕ, ap, sym, refl, subst, ◌∙◌}
use Rattle.std.specs.Prelude.{option_map}
use Rattle.dh_ways.specs.Seen.{way_seen}
use Rattle.dh_expressions.specs.Evaluated.{ShowsSteps}
use Rattle.dh_expressions.specs.MadeTerms.{MadeSteps}
use Rattle.dh_expressions.proofs.WaysShown.{makes_on, makes_still, passes_on, passes_still}
use Rattle.dh_expressions.proofs.passages.push_way.Goals as goal

pub returns-in_ok-steps-in-Some-clause-means : goal.returns-in_ok-steps-in-Some-clause-means
returns-in_ok-steps-in-Some-clause-means c =
    passes_on c.args.scene.now c.args.lane.now c.args.current.now c.args.draft.now c.push_steps.new.draft c.args.of.now c.args.aim.now c.set_steps.new.aim (way_seen c.in-Some.way) c.in_ok-steps-in-Some.steps
    (sym (sym (ap (option_map way_seen) c.in-Some.is) ∙ c.way_in.ensures)) c.set_steps.ensures
    (subst (λ (n : ℕ). ShowsSteps c.args.scene.now c.args.lane.now c.args.current.now c.args.draft.now c.push_steps.new.draft n (way_seen c.in-Some.way) c.in_ok-steps-in-Some.steps) c.view_number-first.ensures c.in_ok-steps-in-Some.ensures.means)

pub returns-in_ok-steps-in-Some-clause-made : goal.returns-in_ok-steps-in-Some-clause-made
returns-in_ok-steps-in-Some-clause-made c =
    makes_on c.args.scene.now c.args.lane.now c.args.current.now c.args.draft.now c.push_steps.new.draft c.args.of.now c.args.aim.now c.set_steps.new.aim (way_seen c.in-Some.way) c.in_ok-steps-in-Some.steps
    (sym (sym (ap (option_map way_seen) c.in-Some.is) ∙ c.way_in.ensures)) c.set_steps.ensures
    (subst (λ (n : ℕ). MadeSteps c.args.scene.now c.args.lane.now c.args.current.now c.args.draft.now c.push_steps.new.draft n (way_seen c.in-Some.way) c.in_ok-steps-in-Some.steps) c.view_number-first.ensures c.in_ok-steps-in-Some.ensures.made)

pub returns-in-None-clause-means : goal.returns-in-None-clause-means
returns-in-None-clause-means c =
    passes_still c.args.scene.now c.args.lane.now c.args.current.now c.args.draft.now c.args.draft.now c.args.of.now c.args.aim.now c.args.aim.now
    (sym (sym (ap (option_map way_seen) c.in-None.is) ∙ c.way_in.ensures)) refl refl

pub returns-in-None-clause-made : goal.returns-in-None-clause-made
returns-in-None-clause-made c =
    makes_still c.args.scene.now c.args.lane.now c.args.current.now c.args.draft.now c.args.draft.now c.args.of.now c.args.aim.now c.args.aim.now
    (sym (sym (ap (option_map way_seen) c.in-None.is) ∙ c.way_in.ensures)) refl refl

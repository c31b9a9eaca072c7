use Rattle.std.proofs.Common.{add-one}
use Rattle.dh_expressions.proofs.Evaluating.{values_then}
use Rattle.dh_expressions.proofs.WaysShown.{offsets_first, offsets_made, offsets_on, offsets_shown}
use Rattle.dh_expressions.proofs.variables.push_offsets.Goals as goal

pub loop-one-init : goal.loop-one-init
loop-one-init c = offsets_first c.args.scene.now c.args.lane.now c.args.current.now c.args.draft.now c.args.hidden.now c.new-values.result c.new-values.ensures

pub loop-one-preserved : goal.loop-one-preserved
loop-one-preserved c = rw (add-one c.loop-one.one-index)
    (offsets_on c.args.scene.now c.args.lane.now c.args.current.now c.args.draft.now c.args.hidden.now c.loop-one.one-index c.loop-one.draft c.push_kept.new.draft c.loop-one.values c.push.new.self c.in_ok-value.value _
    c.loop-one-test.true (values_then c.loop-one.values c.push.new.self c.in_ok-value.value c.push.result c.push.ensures c.in_ok-push.was) c.in_ok-value.ensures.means c.in_ok-value.ensures.made c.loop-one.invariant)

pub returns-clause-means : goal.returns-clause-means
returns-clause-means c =
    offsets_shown c.args.scene.now c.args.lane.now c.args.current.now c.args.draft.now c.loop-one.draft c.args.hidden.now c.loop-one.one-index c.loop-one.values c.loop-one-test.false c.loop-one.invariant

pub returns-clause-made : goal.returns-clause-made
returns-clause-made c =
    offsets_made c.args.scene.now c.args.lane.now c.args.current.now c.args.draft.now c.loop-one.draft c.args.hidden.now c.loop-one.one-index c.loop-one.values c.loop-one-test.false c.loop-one.invariant

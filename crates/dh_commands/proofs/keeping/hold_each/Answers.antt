use Rattle.std.proofs.Common.{add-one}
use Rattle.dh_tree.specs.Seen.{view_plan}
use Rattle.dh_tree.specs.ViewOffsets.{offsets_of}
use Rattle.dh_commands.proofs.KeptWords.{holds_first, holds_last, holds_made, holds_on}
use Rattle.dh_commands.proofs.keeping.hold_each.Goals as goal

pub loop-i-init : goal.loop-i-init
loop-i-init c = holds_first c.args.scene.now c.args.first (offsets_of (view_plan c.args.form.now)) c.args.values.now c.args.draft.now c.new-held.result.items c.new-held.ensures.items

pub loop-i-preserved : goal.loop-i-preserved
loop-i-preserved c = rw (add-one c.loop-i.i)
    (holds_on c.args.scene.now c.args.first (offsets_of (view_plan c.args.form.now)) c.args.values.now c.loop-i.i c.args.draft.now c.loop-i.draft c.hold_behind.new.draft c.loop-i.held.items c.push.new.self.items
    _ c.in_ok-kept.kept c.loop-i-test.true c.in_ok-push.ensures.items c.in_ok-kept.ensures.means c.in_ok-kept.ensures.made c.loop-i.invariant)

pub returns-clause-means : goal.returns-clause-means
returns-clause-means c = holds_last c.args.scene.now c.args.first (offsets_of (view_plan c.args.form.now)) c.args.values.now c.loop-i.i c.args.draft.now c.loop-i.draft c.loop-i.held.items c.loop-i-test.false c.loop-i.invariant

pub returns-clause-made : goal.returns-clause-made
returns-clause-made c = holds_made c.args.scene.now c.args.first (offsets_of (view_plan c.args.form.now)) c.args.values.now c.loop-i.i c.args.draft.now c.loop-i.draft c.loop-i.held.items c.loop-i-test.false c.loop-i.invariant

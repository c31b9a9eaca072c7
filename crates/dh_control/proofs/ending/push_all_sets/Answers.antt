use Rattle.std.proofs.Common.{ap, sym, ◌∙◌, arith}
use Rattle.dh_cells.proofs.CellsAppended.{wire_stays}
use Rattle.dh_control.proofs.BlocksAdded.{sets_suit, blocks_turn}
use Rattle.dh_control.proofs.StandsTell.{wires_at}
use Rattle.dh_control.proofs.ending.push_all_sets.Goals as goal

pub push_sets-requires-clause-commit : goal.push_sets-requires-clause-commit
push_sets-requires-clause-commit c =
    wire_stays _ _ _ 1 c.loop-i.invariant.grows
    (wires_at _ c.args.commits.now 1 _ c.requires.commits (let more = c.loop-i-test.true in let most = c.loop-i.auto.i in let each = c.requires.each in omega (arith, more, most, each)))

pub push_sets-requires-clause-suits : goal.push_sets-requires-clause-suits
push_sets-requires-clause-suits c =
    sets_suit _ _ c.args.widths.now c.args.wires.now c.args.blocks.now _ c.index-blocks-i.result c.as_slice-operations.result.now c.loop-i.invariant.grows c.requires.suit
    (let more = c.loop-i-test.true in let most = c.loop-i.auto.i in omega (arith, more, most)) c.index-blocks-i.is (c.as_slice-operations.ensures ∙ sym (ap (λ b. b.operations) c.index-blocks-i.is))

pub loop-i-preserved : goal.loop-i-preserved
loop-i-preserved c =
    blocks_turn _ _ _ c.args.widths.now c.args.commits.now c.args.wires.now c.loop-i.i c.index-blocks-i.result c.as_slice-operations.result.now c.args.blocks.now _ _ _ c.loop-i-test.true c.loop-i.auto.i
    c.index-blocks-i.is (c.as_slice-operations.ensures ∙ sym (ap (λ b. b.operations) c.index-blocks-i.is)) c.loop-i.invariant c.in_ok-push_sets.ensures

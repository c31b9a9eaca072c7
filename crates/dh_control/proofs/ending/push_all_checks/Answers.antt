use Rattle.std.proofs.Common.{ap, sym, ◌∙◌, arith}
use Rattle.dh_cells.proofs.CellsAppended.{wire_stays}
use Rattle.dh_control.proofs.BlocksAdded.{checks_suit, next_checks, end_checks}
use Rattle.dh_control.proofs.StandsTell.{wires_at}
use Rattle.dh_control.proofs.ending.push_all_checks.Goals as goal

pub push_checks-requires-clause-active : goal.push_checks-requires-clause-active
push_checks-requires-clause-active c =
    wire_stays _ _ _ 1 c.loop-i.invariant.grows
    (wires_at _ c.args.active.now 1 c.loop-i.i c.requires.active (let less = c.loop-i-test.true in let each = c.requires.each in omega (arith, less, each)))

pub push_checks-requires-clause-suits : goal.push_checks-requires-clause-suits
push_checks-requires-clause-suits c =
    checks_suit _ _ c.args.wires.now c.args.blocks.now c.loop-i.i c.index-blocks-i.result c.as_slice-operations.result.now c.loop-i.invariant.grows c.requires.suit c.loop-i-test.true
    c.index-blocks-i.is (c.as_slice-operations.ensures ∙ sym (ap (λ b. b.operations) c.index-blocks-i.is))

pub loop-i-preserved : goal.loop-i-preserved
loop-i-preserved c =
    next_checks _ _ _ c.args.active.now c.args.wires.now c.args.blocks.now c.loop-i.i c.index-blocks-i.result c.as_slice-operations.result.now _ _ _ c.loop-i-test.true c.index-blocks-i.is
    (c.as_slice-operations.ensures ∙ sym (ap (λ b. b.operations) c.index-blocks-i.is)) c.loop-i.invariant c.in_ok-push_checks.ensures

pub returns : goal.returns
returns c = end_checks _ _ c.args.active.now c.args.wires.now c.args.blocks.now c.loop-i.i _ _ c.loop-i-test.false c.loop-i.invariant

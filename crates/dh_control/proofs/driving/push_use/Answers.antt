use Rattle.std.proofs.Common.{refl, ap, sym, ◌∙◌}
use Rattle.dh_plan.specs.declared.operations.OperationForm.TheVariants.{Read, Write}
use Rattle.dh_cells.proofs.CellsAppended.{grows_then}
use Rattle.dh_control.proofs.GuardsShown.{guard_stays}
use Rattle.dh_control.proofs.UsesMade.{read_driven, write_driven, read_suits, write_suits}
use Rattle.dh_control.proofs.driving.push_use.Goals as goal

pub push_guard-requires-clause-guard : goal.push_guard-requires-clause-guard
push_guard-requires-clause-guard c = guard_stays _ _ c.args.wires.now c.args.operation.now.guard c.in_ok-now-in-Read.ensures.grows c.requires.suits.guard

pub push_reach-requires-clause-suits : goal.push_reach-requires-clause-suits
push_reach-requires-clause-suits c =
    read_suits _ _ c.args.kinds.now c.args.wires.now c.args.memories.now c.args.pairs.now c.args.operation.now c.content-access.result.now _ (grows_then _ _ _ c.in_ok-now-in-Read.ensures.grows c.in_ok-test-in-Read.ensures.grows)
    (c.in-Read.is ∙ ap Read (sym c.content-access.ensures)) c.requires.suits refl

pub push_reach-requires-in-Write-clause-suits : goal.push_reach-requires-in-Write-clause-suits
push_reach-requires-in-Write-clause-suits c =
    write_suits _ _ c.args.kinds.now c.args.wires.now c.args.memories.now c.args.pairs.now c.args.operation.now c.content-access-in-Write.result.now c.in-Write.value _ c.in_ok-test-in-Write.ensures.grows
    (c.in-Write.is ∙ ap (λ r. Write r c.in-Write.value) (sym c.content-access-in-Write.ensures)) c.requires.suits refl

pub returns-in_ok-push_reach-in-Read : goal.returns-in_ok-push_reach-in-Read
returns-in_ok-push_reach-in-Read c =
    read_driven _ _ _ _ c.args.kinds.now c.args.wires.now c.args.times c.args.operation.now c.args.memories.now c.args.pairs.now c.content-access.result.now _ c.in_ok-now-in-Read.now c.in_ok-test-in-Read.test _ _
    (c.in-Read.is ∙ ap Read (sym c.content-access.ensures)) refl c.in_ok-now-in-Read.ensures c.in_ok-test-in-Read.ensures c.in_ok-push_reach-in-Read.ensures

pub returns-in_ok-push_reach-in-Write : goal.returns-in_ok-push_reach-in-Write
returns-in_ok-push_reach-in-Write c =
    write_driven _ _ _ c.args.kinds.now c.args.wires.now c.args.times c.args.operation.now c.args.memories.now c.args.pairs.now c.content-access-in-Write.result.now c.in-Write.value _ c.in_ok-test-in-Write.test _ _ _
    (c.in-Write.is ∙ ap (λ r. Write r c.in-Write.value) (sym c.content-access-in-Write.ensures)) refl refl c.in_ok-test-in-Write.ensures c.in_ok-push_reach-in-Write.ensures

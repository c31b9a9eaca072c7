use Rattle.std.proofs.Common.{ℕ, ◌-◌, ◌++◌, ap, length, sym, subst, ◌∙◌}
use Rattle.std.specs.List.{AllByRecursion}
use Rattle.dh_events.specs.Noted.{all_seen}
use Rattle.dh_ports.specs.declared.moves.Move.{Move}
use Rattle.dh_ports.specs.Passing.{beyond_from}
use Rattle.dh_ports.specs.Runs.{moves_of_run, moves_in_row}
use Rattle.dh_ports.specs.Scanned.{IsMoveOf}
use Rattle.dh_ports.proofs.RunTurns.{row_head, row_rest, spent_here, spent_row_done, spent_turn}
use Rattle.dh_ports.proofs.WalkTurns.{move_within, step_more}
use Rattle.dh_ports.proofs.spending.spend_run.Goals as goal

pub loop-slot-init : goal.loop-slot-init
loop-slot-init c = (
  c.requires.kept,
  (
    λ more rest. ap (λ n. beyond_from (all_seen c.args.events.now) (c.args.shared.now ++ more) c.args.levels.now (moves_in_row c.args.run.first n (c.args.run.end - n) ++ rest)) c.slot_of-from.ensures,
    subst (λ (n : ℕ). AllByRecursion (IsMoveOf (length c.args.shared.now)) (moves_in_row c.args.run.first n (c.args.run.end - n))) (sym c.slot_of-from.ensures) c.requires.within,
  ),
)

pub spending_step-step-requires : goal.spending_step-step-requires
spending_step-step-requires c = record {
  within = subst (λ (m : Move). IsMoveOf (length c.args.shared.now) m) (sym c.at_slot-next.ensures) (row_head (IsMoveOf (length c.args.shared.now)) c.args.run.first c.loop-slot.slot c.args.run.end c.loop-slot-test.true c.loop-slot.invariant.1.1);
}

pub place_in-requires : goal.place_in-requires
place_in-requires c = record {
  within = move_within (length c.args.shared.now) (length c.args.events.now) c.requires.few c.at_slot-next.result
      (subst (λ (m : Move). IsMoveOf (length c.args.shared.now) m) (sym c.at_slot-next.ensures) (row_head (IsMoveOf (length c.args.shared.now)) c.args.run.first c.loop-slot.slot c.args.run.end c.loop-slot-test.true c.loop-slot.invariant.1.1));
}

pub returns-then-is_beyond : goal.returns-then-is_beyond
returns-then-is_beyond c = λ more.
    let within = subst (λ (m : Move). IsMoveOf (length c.args.shared.now) m) (sym c.at_slot-next.ensures) (row_head (IsMoveOf (length c.args.shared.now)) c.args.run.first c.loop-slot.slot c.args.run.end c.loop-slot-test.true c.loop-slot.invariant.1.1) in
    spent_here (all_seen c.args.events.now) (c.args.shared.now ++ more) c.args.run.first c.at_slot-next.result c.loop-slot.slot c.args.run.end c.args.levels.now c.loop-slot.levels c.spending_step-step.result c.left_at.result c.is_beyond.result
    c.loop-slot-test.true c.at_slot-next.ensures (c.spending_step-step.ensures ∙ step_more c.args.shared.now more c.at_slot-next.result within) c.left_at.ensures c.is_beyond.ensures (moves_of_run c.args.run) (c.loop-slot.invariant.1.0 more) c.place_in.result c.if-is_beyond.true c.place_in.ensures

pub loop-slot-preserved : goal.loop-slot-preserved
loop-slot-preserved c =
    let within = subst (λ (m : Move). IsMoveOf (length c.args.shared.now) m) (sym c.at_slot-next.ensures) (row_head (IsMoveOf (length c.args.shared.now)) c.args.run.first c.loop-slot.slot c.args.run.end c.loop-slot-test.true c.loop-slot.invariant.1.1) in (
      c.in_ok-step.ensures.kept,
      (
        λ more. spent_turn (all_seen c.args.events.now) (c.args.shared.now ++ more) c.args.run.first c.at_slot-next.result c.loop-slot.slot c.args.run.end c.args.levels.now c.loop-slot.levels c.spending_step-step.result c.left_at.result c.is_beyond.result
            c.loop-slot-test.true c.at_slot-next.ensures (c.spending_step-step.ensures ∙ step_more c.args.shared.now more c.at_slot-next.result within) c.left_at.ensures c.is_beyond.ensures (moves_of_run c.args.run) (c.loop-slot.invariant.1.0 more) c.step.new.self c.if-is_beyond.false c.in_ok-step.ensures.stepped,
        row_rest (IsMoveOf (length c.args.shared.now)) c.args.run.first c.loop-slot.slot c.args.run.end c.loop-slot-test.true c.loop-slot.invariant.1.1,
      ),
    )

pub returns : goal.returns
returns c = λ more. (
  c.loop-slot.invariant.0,
  spent_row_done (all_seen c.args.events.now) (c.args.shared.now ++ more) c.args.run.first c.loop-slot.slot c.args.run.end c.args.levels.now c.loop-slot.levels (moves_of_run c.args.run) c.loop-slot-test.false (c.loop-slot.invariant.1.0 more),
)

use Rattle.std.proofs.Common.{◌++◌, [], ◌∷◌, Some, sym, arith}
use Rattle.dh_tree.specs.Counters.{counter_in}
use Rattle.dh_tree.proofs.Collecting.{counter_more, none_noted, beyond_noted, noted_before, now_noted, no_number, some_number}
use Rattle.dh_tree.proofs.trees.counters.note_loop.Goals.{else-entity-slots-via-then-entity-slots+else-is_none, else-entity-slots-via-else-entity-slots}
use Rattle.dh_tree.proofs.trees.counters.note_loop.Goals as goal

pub returns-then-is_none-clause-counted : goal.returns-then-is_none-clause-counted
returns-then-is_none-clause-counted c cs h =
    let small = c.if-entity-slots.true in
    now_noted (λ k. counter_in cs (Some k)) (λ k. counter_in (cs ++ c.args.counter ∷ []) (Some k)) c.args.counter.entity c.args.counter (λ k. counter_more cs c.args.counter (Some k)) c.args.slots.now c.in-Some.entity (no_number _ c.is_none.result c.is_none.ensures c.if-is_none.true) (omega (arith, small)) (sym c.in-Some.is) h

pub returns-else-entity-slots-clause-counted : goal.returns-else-entity-slots-clause-counted
returns-else-entity-slots-clause-counted c cs h =
    elim c.else-entity-slots.branch [
      | else-entity-slots-via-then-entity-slots+else-is_none w ↦ (let some = some_number _ w.is_none.result w.is_none.ensures w.if-is_none.false in noted_before (λ k. counter_in cs (Some k)) (λ k. counter_in (cs ++ c.args.counter ∷ []) (Some k)) c.args.counter.entity c.args.counter (λ k. counter_more cs c.args.counter (Some k)) c.args.slots.now c.in-Some.entity some.0 some.1 (sym c.in-Some.is) h)
      | else-entity-slots-via-else-entity-slots w ↦ (let past = w.if-entity-slots.false in beyond_noted (λ k. counter_in cs (Some k)) (λ k. counter_in (cs ++ c.args.counter ∷ []) (Some k)) c.args.counter.entity c.args.counter (λ k. counter_more cs c.args.counter (Some k)) c.args.slots.now c.in-Some.entity (sym c.in-Some.is) (omega (arith, past)) h)
    ]

pub returns-in_default-clause-counted : goal.returns-in_default-clause-counted
returns-in_default-clause-counted c cs h = none_noted (λ k. counter_in cs (Some k)) (λ k. counter_in (cs ++ c.args.counter ∷ []) (Some k)) c.args.counter.entity c.args.counter (λ k. counter_more cs c.args.counter (Some k)) c.args.slots.now (sym c.in_default.is) h

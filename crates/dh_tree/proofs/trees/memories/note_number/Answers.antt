use Rattle.std.proofs.Common.{ℕ, ◌++◌, [], ◌∷◌, Some, length, subst, sym, ◌∙◌, arith}
use Rattle.std.specs.Prelude.{slice_set}
use Rattle.dh_tree.specs.Memories.{number_in}
use Rattle.dh_tree.specs.Collected.{AreNumbersByEntity}
use Rattle.dh_tree.proofs.Collecting.{number_more, none_noted, beyond_noted, noted_before, now_noted, no_number, some_number}
use Rattle.dh_tree.proofs.trees.memories.note_number.Goals.{else-entity-numbers-via-then-entity-numbers+else-is_none, else-entity-numbers-via-else-entity-numbers}
use Rattle.dh_tree.proofs.trees.memories.note_number.Goals as goal

pub returns-then-is_none-clause-numbered : goal.returns-then-is_none-clause-numbered
returns-then-is_none-clause-numbered c ms m h n e =
    let small = c.if-entity-numbers.true in
    subst (λ (v : ℕ). AreNumbersByEntity (ms ++ m ∷ []) (slice_set c.args.numbers.now c.in-Some.entity (Some v))) (sym n)
    (now_noted (λ k. number_in ms (Some k)) (λ k. number_in (ms ++ m ∷ []) (Some k)) m.name.entity (length ms) (λ k. number_more ms m (Some k)) c.args.numbers.now c.in-Some.entity (no_number _ c.is_none.result c.is_none.ensures c.if-is_none.true) (omega (arith, small)) (sym c.in-Some.is ∙ e) h)

pub returns-else-entity-numbers-clause-numbered : goal.returns-else-entity-numbers-clause-numbered
returns-else-entity-numbers-clause-numbered c ms m h n e =
    elim c.else-entity-numbers.branch [
      | else-entity-numbers-via-then-entity-numbers+else-is_none w ↦ (let some = some_number _ w.is_none.result w.is_none.ensures w.if-is_none.false in noted_before (λ k. number_in ms (Some k)) (λ k. number_in (ms ++ m ∷ []) (Some k)) m.name.entity (length ms) (λ k. number_more ms m (Some k)) c.args.numbers.now c.in-Some.entity some.0 some.1 (sym c.in-Some.is ∙ e) h)
      | else-entity-numbers-via-else-entity-numbers w ↦ (let past = w.if-entity-numbers.false in beyond_noted (λ k. number_in ms (Some k)) (λ k. number_in (ms ++ m ∷ []) (Some k)) m.name.entity (length ms) (λ k. number_more ms m (Some k)) c.args.numbers.now c.in-Some.entity (sym c.in-Some.is ∙ e) (omega (arith, past)) h)
    ]

pub returns-in_default-clause-numbered : goal.returns-in_default-clause-numbered
returns-in_default-clause-numbered c ms m h n e = none_noted (λ k. number_in ms (Some k)) (λ k. number_in (ms ++ m ∷ []) (Some k)) m.name.entity (length ms) (λ k. number_more ms m (Some k)) c.args.numbers.now (sym c.in_default.is ∙ e) h

use Rattle.std.proofs.Common.{◌+◌, ◌≤◌, ◌^◌, ◌%◌, inl, inr, None, refl, ap, subst, ℕ}
use Rattle.std.proofs.lemmas.Result.{IfOk-weaker}
use Rattle.dh_plan.specs.declared.operations.OperationForm.TheVariants.{Old}
use Rattle.dh_expressions.specs.Drafted.{Computes, Pushes}
use Rattle.dh_expressions.specs.Shown.{register_as_begun}
use Rattle.dh_expressions.proofs.IteratorTurns.{iterator_constant, iterator_multiple, iterator_sum, some_factor}
use Rattle.dh_expressions.proofs.iterators.push_iterator.Goals as goal

pub returns-then-turn_count-le1-clause-means : goal.returns-then-turn_count-le1-clause-means
returns-then-turn_count-le1-clause-means c =
    IfOk-weaker c.push_constant.result _ _ (λ n k. iterator_constant c.args.counter c.args.held c.args.lane.now c.args.kind c.args.draft.now c.push_constant.new.draft n ((c.args.counter.low + c.copy_of.result) % 2 ^ 64) c.literal.result
    (subst (λ (m : ℕ). m ≤ 1) c.turn_count.ensures c.if-turn_count-le1.true) (ap (λ m. (c.args.counter.low + m) % 2 ^ 64) c.copy_of.ensures) c.literal.ensures k) c.push_constant.ensures.means

pub returns-then-start-eq0-clause-means : goal.returns-then-start-eq0-clause-means
returns-then-start-eq0-clause-means c =
    iterator_multiple c.args.counter c.args.held c.args.lane.now c.args.kind c.args.draft.now c.push_old.new.draft c.push_convert.new.draft c.push_multiple.new.draft c.in_ok-old.old c.in_ok-turn.turn c.in_ok-multiple.multiple
    (subst (λ (r : ℕ). Computes c.args.draft.now c.push_old.new.draft c.in_ok-old.old (λ x. register_as_begun x r)) c.from.ensures c.in_ok-old.ensures.means) c.in_ok-turn.ensures.means (c.in_ok-multiple.ensures.means (some_factor c.args.counter c.args.held c.args.lane.now c.args.kind c.turn_count.result c.turn_count.ensures c.if-turn_count-le1.false))
    ((c.args.counter.low + c.copy_of.result) % 2 ^ 64) (ap (λ m. (c.args.counter.low + m) % 2 ^ 64) c.copy_of.ensures) c.if-start-eq0.true

pub returns-clause-means : goal.returns-clause-means
returns-clause-means c =
    IfOk-weaker c.push_compute.result _ _ (λ n s. iterator_sum c.args.counter c.args.held c.args.lane.now c.args.kind c.args.draft.now c.push_old.new.draft c.push_convert.new.draft c.push_multiple.new.draft c.in_ok-old.old c.in_ok-turn.turn c.in_ok-multiple.multiple
    (subst (λ (r : ℕ). Computes c.args.draft.now c.push_old.new.draft c.in_ok-old.old (λ x. register_as_begun x r)) c.from.ensures c.in_ok-old.ensures.means) c.in_ok-turn.ensures.means (c.in_ok-multiple.ensures.means (some_factor c.args.counter c.args.held c.args.lane.now c.args.kind c.turn_count.result c.turn_count.ensures c.if-turn_count-le1.false))
    c.push_constant-2.new.draft c.push_compute.new.draft c.in_ok-start.start n ((c.args.counter.low + c.copy_of.result) % 2 ^ 64) c.literal-2.result
    (ap (λ m. (c.args.counter.low + m) % 2 ^ 64) c.copy_of.ensures) c.literal-2.ensures c.in_ok-start.ensures.means s) c.push_compute.ensures.means

pub returns-then-turn_count-le1-clause-made : goal.returns-then-turn_count-le1-clause-made
returns-then-turn_count-le1-clause-made c =
    IfOk-weaker c.push_constant.result _ _ (λ n p. inl (((c.args.counter.low + c.copy_of.result) % 2 ^ 64), record { word = c.literal.result; is = c.literal.ensures; pushes = p })) c.push_constant.ensures.made

pub returns-then-start-eq0-clause-made : goal.returns-then-start-eq0-clause-made
returns-then-start-eq0-clause-made c = inr (record {
  first = c.push_old.new.draft;
  second = c.push_convert.new.draft;
  third = c.push_multiple.new.draft;
  told = c.in_ok-old.old;
  turn = c.in_ok-turn.turn;
  multiple = c.in_ok-multiple.multiple;
  sees = subst (λ (r : ℕ). Pushes c.args.draft.now c.push_old.new.draft c.in_ok-old.old None (Old r)) c.from.ensures c.in_ok-old.ensures.made;
  converts = c.in_ok-turn.ensures.made;
  times = c.in_ok-multiple.ensures.made;
  ends = inl (refl, refl);
})

pub returns-clause-made : goal.returns-clause-made
returns-clause-made c = IfOk-weaker c.push_compute.result _ _ (λ n p. inr (record {
  first = c.push_old.new.draft;
  second = c.push_convert.new.draft;
  third = c.push_multiple.new.draft;
  told = c.in_ok-old.old;
  turn = c.in_ok-turn.turn;
  multiple = c.in_ok-multiple.multiple;
  sees = subst (λ (r : ℕ). Pushes c.args.draft.now c.push_old.new.draft c.in_ok-old.old None (Old r)) c.from.ensures c.in_ok-old.ensures.made;
  converts = c.in_ok-turn.ensures.made;
  times = c.in_ok-multiple.ensures.made;
  ends = inr (record {
    start = (c.args.counter.low + c.copy_of.result) % 2 ^ 64;
    middle = c.push_constant-2.new.draft;
    amount = c.in_ok-start.start;
    constant = record { word = c.literal-2.result; is = c.literal-2.ensures; pushes = c.in_ok-start.ensures.made };
    pushes = p;
  });
})) c.push_compute.ensures.made

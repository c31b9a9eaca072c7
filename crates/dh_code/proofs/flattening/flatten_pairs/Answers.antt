use Rattle.std.proofs.Common.{ℕ, ◌<◌, ◌≤◌, ap, sym, ◌∙◌, subst, add-one}
use Rattle.std.proofs.lemmas.List.{get_or-map, length-map}
use Rattle.dh_tree.specs.declared.trees.expressions.Expr.{Expr}
use Rattle.dh_code.specs.Flattening.{known_by_names, offsets_by, table_in}
use Rattle.dh_code.proofs.Flattened.{indices_end, indices_turn}
use Rattle.dh_code.proofs.Ranges.{drop_past}
use Rattle.dh_code.proofs.flattening.flatten_pairs.Goals as goal

pub loop-pair-preserved : goal.loop-pair-preserved
loop-pair-preserved c = rw (add-one c.loop-pair.pair-index)
    (indices_turn (known_by_names c.args.names.now) c.args.names.now.places.now (table_in c.args.names.now) c.args.code.now (offsets_by c.args.by.now) c.loop-pair.pair-index c.loop-pair.code c.flatten.new.code c.loop-pair.operands c.push.new.self c.pair-item.result.1 c.in_ok-operand.operand
    (subst (λ (n : ℕ). c.loop-pair.pair-index < n) (sym (length-map c.args.by.now (λ (p : ℕ × Expr). p.1))) c.loop-pair-test.true)
    (ap (λ (p : ℕ × Expr). p.1) c.pair-item.is ∙ sym (get_or-map (λ (p : ℕ × Expr). p.1) c.args.by.now c.loop-pair.pair-index c.pair-item.result c.pair-item.result.1 c.loop-pair-test.true))
    c.in_ok-push.ensures c.in_ok-operand.ensures c.loop-pair.invariant)

pub returns : goal.returns
returns c =
    indices_end (known_by_names c.args.names.now) c.args.names.now.places.now (table_in c.args.names.now) c.args.code.now (offsets_by c.args.by.now) c.loop-pair.pair-index c.loop-pair.code c.loop-pair.operands
    (drop_past (offsets_by c.args.by.now) c.loop-pair.pair-index (subst (λ (n : ℕ). n ≤ c.loop-pair.pair-index) (sym (length-map c.args.by.now (λ (p : ℕ × Expr). p.1))) c.loop-pair-test.false)) c.loop-pair.invariant

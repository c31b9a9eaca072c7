use Rattle.std.proofs.Common.{◌≡◌, length, refl, sym, ◌∙◌, subst, arith, pos, to_z, of_z, to_z-of_z}
use Rattle.std.specs.Int.{w128}
use Rattle.dh_tree.specs.Counters.{counters_of}
use Rattle.dh_tree.specs.Indices.{index_kind}
use Rattle.dh_tree.specs.Seen.{form_seen, program_seen}
use Rattle.dh_expressions.specs.declared.banks.BankSpan.{BankSpan}
use Rattle.dh_expressions.specs.ReachedBanks.{IsSpan}
use Rattle.dh_expressions.proofs.BankSpans.{span_constant, span_dynamic, span_iterator}
use Rattle.dh_expressions.proofs.banks.span_of.Goals as goal

pub returns-in-Constant : goal.returns-in-Constant
returns-in-Constant c =
    let cs = counters_of (program_seen c.args.scene.now.program.now) in
    let k = index_kind cs c.args.index.now.kind (form_seen c.args.index.now.form) in
    let back : to_z w128 (of_z w128 c.in-Constant.value) ≡ c.in-Constant.value = grind (arith, to_z-of_z) in
    subst (λ (s : BankSpan). IsSpan c.args.levels.now k c.args.banks c.args.times s) (sym c.fixed.ensures)
    (span_constant cs c.args.levels.now k c.classify.result c.in-Constant.value (to_z w128 (of_z w128 c.in-Constant.value)) (length c.args.levels.now) c.args.banks c.args.times c.classify.ensures c.in-Constant.is back refl)

pub returns-in-Some : goal.returns-in-Some
returns-in-Some c =
    let cs = counters_of (program_seen c.args.scene.now.program.now) in
    let k = index_kind cs c.args.index.now.kind (form_seen c.args.index.now.form) in
    let back : to_z w128 (of_z w128 c.in-Iterator.offset) ≡ c.in-Iterator.offset = grind (arith, to_z-of_z) in
    subst (λ (s : BankSpan). IsSpan c.args.levels.now k c.args.banks c.args.times s) (sym c.counting.ensures)
    (span_iterator cs c.args.levels.now k c.classify.result c.in-Iterator.entity c.in-Iterator.offset (to_z w128 (of_z w128 c.in-Iterator.offset)) c.in-Some.counter c.level_of-level.result c.args.banks c.args.times c.classify.ensures c.in-Iterator.is
    (sym c.counter.ensures ∙ c.in-Some.is) back c.level_of-level.ensures)

pub returns-in-Dynamic : goal.returns-in-Dynamic
returns-in-Dynamic c =
    let cs = counters_of (program_seen c.args.scene.now.program.now) in
    let k = index_kind cs c.args.index.now.kind (form_seen c.args.index.now.form) in
    subst (λ (s : BankSpan). IsSpan c.args.levels.now k c.args.banks c.args.times s) (sym c.fixed-in-Dynamic.ensures)
    (span_dynamic cs c.args.levels.now k c.classify.result (pos 0) (length c.args.levels.now) c.args.banks c.args.times c.classify.ensures c.in-Dynamic.is refl refl)

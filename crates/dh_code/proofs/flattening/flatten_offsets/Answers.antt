use Rattle.std.proofs.Common.{ℕ, List, ap, ◌∙◌, subst}
use Rattle.std.proofs.lemmas.Result.{IfOk-weaker}
use Rattle.dh_tree.specs.declared.trees.expressions.Expr.{Expr}
use Rattle.dh_tree.specs.Seen.{view_plan}
use Rattle.dh_tree.specs.ViewOffsets.{offsets_of}
use Rattle.dh_code.specs.Flattening.{FlattensAll, offsets_by}
use Rattle.dh_code.proofs.ViewsFlattened.{no_offsets, offsets_as, pairs_seen}
use Rattle.dh_code.proofs.flattening.flatten_offsets.Goals as goal

pub returns-in-Shrink : goal.returns-in-Shrink
returns-in-Shrink c = no_offsets c.args.names.now c.args.code.now c.args.form.now c.new.result (ap (λ f. offsets_of (view_plan f)) c.in-Shrink.is) c.new.ensures

pub returns-in-Split : goal.returns-in-Split
returns-in-Split c = no_offsets c.args.names.now c.args.code.now c.args.form.now c.new-in-Split.result (ap (λ f. offsets_of (view_plan f)) c.in-Split.is) c.new-in-Split.ensures

pub returns-in-Suffix : goal.returns-in-Suffix
returns-in-Suffix c =
    IfOk-weaker c.flatten_pairs.result _ _ (λ os h. offsets_as c.args.names.now c.args.code.now c.flatten_pairs.new.code c.args.form.now (offsets_by c.in-Suffix.by.items) os
    (ap (λ f. offsets_of (view_plan f)) c.in-Suffix.is ∙ pairs_seen c.in-Suffix.by.items)
    (subst (λ (l : List (ℕ × Expr)). FlattensAll c.args.names.now c.args.code.now c.flatten_pairs.new.code (offsets_by l) os) c.as_slice.ensures.value h)) c.flatten_pairs.ensures

pub returns-in-Shift : goal.returns-in-Shift
returns-in-Shift c =
    IfOk-weaker c.flatten_all.result _ _ (λ os h. offsets_as c.args.names.now c.args.code.now c.flatten_all.new.code c.args.form.now c.in-Shift.by.items os (ap (λ f. offsets_of (view_plan f)) c.in-Shift.is)
    (subst (λ (l : List Expr). FlattensAll c.args.names.now c.args.code.now c.flatten_all.new.code l os) c.as_slice-in-Shift.ensures.value h)) c.flatten_all.ensures

use Rattle.std.proofs.Common.{List, ℕ, ◌+◌, ◌<◌, length, map, ap, sym, ◌∙◌, subst}
use Rattle.std.proofs.lemmas.Result.{IfOk-weaker}
use Rattle.dh_tree.specs.declared.trees.expressions.Expr.{Expr}
use Rattle.dh_tree.specs.Seen.{view_plan, term_seen}
use Rattle.dh_tree.specs.ViewOffsets.{offsets_of}
use Rattle.dh_ways.specs.Stands.{hidden_at}
use Rattle.dh_tree.specs.declared.trees.commands.ViewForm.{ViewForm}
use Rattle.dh_ways.proofs.StandsCut.{pairs_few, terms_few}
use Rattle.dh_ways.proofs.StandsFound.{pairs_same}
use Rattle.dh_ways.proofs.hiding.own_hidden.Goals as goal

pub returns-in-Shrink : goal.returns-in-Shrink
returns-in-Shrink c = c.of.ensures ∙ (c.new.ensures ∙ sym (ap (λ f. hidden_at c.args.first c.args.view.now.depth c.args.view.now.copies (offsets_of (view_plan f))) c.in-Shrink.is))

pub returns-in-Split : goal.returns-in-Split
returns-in-Split c = c.of-in-Split.ensures ∙ (c.new-in-Split.ensures ∙ sym (ap (λ f. hidden_at c.args.first c.args.view.now.depth c.args.view.now.copies (offsets_of (view_plan f))) c.in-Split.is))

pub returns-in-Suffix : goal.returns-in-Suffix
returns-in-Suffix c =
    IfOk-weaker c.own_pairs.result _ _ (λ hidden made. made
    ∙ (ap (λ (l : List (ℕ × Expr)). hidden_at c.args.first c.args.view.now.depth c.args.view.now.copies (map (λ p. term_seen p.1) l)) c.as_slice.ensures.value
    ∙ (ap (hidden_at c.args.first c.args.view.now.depth c.args.view.now.copies) (pairs_same c.in-Suffix.by.items)
    ∙ sym (ap (λ f. hidden_at c.args.first c.args.view.now.depth c.args.view.now.copies (offsets_of (view_plan f))) c.in-Suffix.is)))) c.own_pairs.ensures

pub returns-in-Shift : goal.returns-in-Shift
returns-in-Shift c =
    IfOk-weaker c.own_all.result _ _ (λ hidden made. made
    ∙ (ap (λ (l : List Expr). hidden_at c.args.first c.args.view.now.depth c.args.view.now.copies (map term_seen l)) c.as_slice-in-Shift.ensures.value
    ∙ sym (ap (λ f. hidden_at c.args.first c.args.view.now.depth c.args.view.now.copies (offsets_of (view_plan f))) c.in-Shift.is))) c.own_all.ensures

pub own_pairs-requires : goal.own_pairs-requires
own_pairs-requires c = record {
  few = subst (λ (l : List (ℕ × Expr)). c.args.first + length l < 4294967296) (sym c.as_slice.ensures.value)
      (pairs_few c.args.first 4294967296 c.in-Suffix.by.items (subst (λ (f : ViewForm). c.args.first + length (offsets_of (view_plan f)) < 4294967296) c.in-Suffix.is c.requires.few));
}

pub own_all-requires : goal.own_all-requires
own_all-requires c = record {
  few = subst (λ (l : List Expr). c.args.first + length l < 4294967296) (sym c.as_slice-in-Shift.ensures.value)
      (terms_few c.args.first 4294967296 c.in-Shift.by.items (subst (λ (f : ViewForm). c.args.first + length (offsets_of (view_plan f)) < 4294967296) c.in-Shift.is c.requires.few));
}

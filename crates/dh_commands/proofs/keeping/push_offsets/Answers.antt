use Rattle.std.proofs.Common.{ℕ, List, ap, map, ◌∙◌, subst}
use Rattle.std.proofs.lemmas.Result.{IfOk-weaker}
use Rattle.dh_tree.specs.declared.trees.expressions.Expr.{Expr}
use Rattle.dh_tree.specs.Seen.{view_plan, term_seen, terms}
use Rattle.dh_tree.specs.ViewOffsets.{offsets_of}
use Rattle.dh_expressions.specs.MadeTerms.{MadeTerms}
use Rattle.dh_commands.specs.Keeping.{EvaluatesWords, paired}
use Rattle.dh_commands.proofs.KeptWords.{made_as, made_nothing, pairs_are, words_as, words_nothing}
use Rattle.dh_commands.proofs.keeping.push_offsets.Goals as goal

pub returns-in-Shrink-clause-means : goal.returns-in-Shrink-clause-means
returns-in-Shrink-clause-means c =
    words_nothing c.args.scene.now c.args.lane.now c.args.current.now c.args.draft.now c.args.accesses.now c.args.first c.args.form.now c.new.result.items (ap (λ f. offsets_of (view_plan f)) c.in-Shrink.is) c.new.ensures.items

pub returns-in-Shrink-clause-made : goal.returns-in-Shrink-clause-made
returns-in-Shrink-clause-made c =
    made_nothing c.args.scene.now c.args.lane.now c.args.current.now c.args.draft.now c.args.accesses.now c.args.first c.args.form.now c.new.result.items (ap (λ f. offsets_of (view_plan f)) c.in-Shrink.is) c.new.ensures.items

pub returns-in-Split-clause-means : goal.returns-in-Split-clause-means
returns-in-Split-clause-means c =
    words_nothing c.args.scene.now c.args.lane.now c.args.current.now c.args.draft.now c.args.accesses.now c.args.first c.args.form.now c.new-in-Split.result.items (ap (λ f. offsets_of (view_plan f)) c.in-Split.is) c.new-in-Split.ensures.items

pub returns-in-Split-clause-made : goal.returns-in-Split-clause-made
returns-in-Split-clause-made c =
    made_nothing c.args.scene.now c.args.lane.now c.args.current.now c.args.draft.now c.args.accesses.now c.args.first c.args.form.now c.new-in-Split.result.items (ap (λ f. offsets_of (view_plan f)) c.in-Split.is) c.new-in-Split.ensures.items

pub returns-in-Suffix-clause-means : goal.returns-in-Suffix-clause-means
returns-in-Suffix-clause-means c = IfOk-weaker c.push_pairs.result _ _ (λ r h. words_as c.args.scene.now c.args.lane.now c.args.current.now c.args.draft.now c.push_pairs.new.draft c.args.accesses.now c.push_pairs.new.accesses c.args.first
    c.args.form.now (paired c.in-Suffix.by.items) r.0.items r.1 (ap (λ f. offsets_of (view_plan f)) c.in-Suffix.is ∙ pairs_are c.in-Suffix.by.items)
    (subst (λ (l : List (ℕ × Expr)). EvaluatesWords c.args.scene.now c.args.lane.now c.args.current.now c.args.draft.now c.push_pairs.new.draft c.args.accesses.now c.push_pairs.new.accesses c.args.first (paired l) r.0.items r.1) c.as_slice.ensures.value h)) c.push_pairs.ensures.means

pub returns-in-Suffix-clause-made : goal.returns-in-Suffix-clause-made
returns-in-Suffix-clause-made c = IfOk-weaker c.push_pairs.result _ _ (λ r h. made_as c.args.scene.now c.args.lane.now c.args.current.now c.args.draft.now c.push_pairs.new.draft c.args.accesses.now c.push_pairs.new.accesses c.args.first
    c.args.form.now (paired c.in-Suffix.by.items) r.0.items r.1 (ap (λ f. offsets_of (view_plan f)) c.in-Suffix.is ∙ pairs_are c.in-Suffix.by.items)
    (subst (λ (l : List (ℕ × Expr)). MadeTerms c.args.scene.now c.args.lane.now c.args.current.now (terms (paired l)) c.args.draft.now c.push_pairs.new.draft c.args.accesses.now c.push_pairs.new.accesses c.args.first r.1 r.0.items) c.as_slice.ensures.value h)) c.push_pairs.ensures.made

pub returns-in-Shift-clause-means : goal.returns-in-Shift-clause-means
returns-in-Shift-clause-means c = IfOk-weaker c.push_each.result _ _ (λ r h. words_as c.args.scene.now c.args.lane.now c.args.current.now c.args.draft.now c.push_each.new.draft c.args.accesses.now c.push_each.new.accesses c.args.first
    c.args.form.now (map term_seen c.in-Shift.by.items) r.0.items r.1 (ap (λ f. offsets_of (view_plan f)) c.in-Shift.is)
    (subst (λ (l : List Expr). EvaluatesWords c.args.scene.now c.args.lane.now c.args.current.now c.args.draft.now c.push_each.new.draft c.args.accesses.now c.push_each.new.accesses c.args.first (map term_seen l) r.0.items r.1) c.as_slice-in-Shift.ensures.value h)) c.push_each.ensures.means

pub returns-in-Shift-clause-made : goal.returns-in-Shift-clause-made
returns-in-Shift-clause-made c = IfOk-weaker c.push_each.result _ _ (λ r h. made_as c.args.scene.now c.args.lane.now c.args.current.now c.args.draft.now c.push_each.new.draft c.args.accesses.now c.push_each.new.accesses c.args.first
    c.args.form.now (map term_seen c.in-Shift.by.items) r.0.items r.1 (ap (λ f. offsets_of (view_plan f)) c.in-Shift.is)
    (subst (λ (l : List Expr). MadeTerms c.args.scene.now c.args.lane.now c.args.current.now (terms (map term_seen l)) c.args.draft.now c.push_each.new.draft c.args.accesses.now c.push_each.new.accesses c.args.first r.1 r.0.items) c.as_slice-in-Shift.ensures.value h)) c.push_each.ensures.made

use Rattle.std.proofs.Common.{ap, sym, ◌+◌, ◌∙◌}
use Rattle.std.specs.Prelude.{option_map, slice_get}
use Rattle.std.proofs.lemmas.Result.{IfOk-weaker}
use denote.Ref.{Bor}
use Rattle.dh_tree.specs.declared.trees.expressions.Expr.{Expr}
use Rattle.dh_tree.specs.Seen.{view_plan, term_seen}
use Rattle.dh_tree.specs.ViewOffsets.{offsets_of}
use Rattle.dh_commands.proofs.KeptWords.{hold_found, hold_made, hold_nowhere, made_nowhere}
use Rattle.dh_commands.proofs.keeping.hold_behind.Goals as goal

pub returns-in-Some-clause-means : goal.returns-in-Some-clause-means
returns-in-Some-clause-means c =
    IfOk-weaker c.push_held.result _ _
    (λ v g. hold_found c.args.scene.now (c.args.first + c.args.number) (slice_get (offsets_of (view_plan c.args.form.now)) c.args.number) (term_seen c.in-Some.offset.now) c.place_behind-kind.result c.args.value v c.args.draft.now c.push_held.new.draft
    (sym (ap (option_map (λ (t : Bor Expr). term_seen t.now)) c.in-Some.is) ∙ c.offset_at.ensures) c.place_behind-kind.ensures g)
    c.push_held.ensures.means

pub returns-in-Some-clause-made : goal.returns-in-Some-clause-made
returns-in-Some-clause-made c =
    IfOk-weaker c.push_held.result _ _
    (λ v m. hold_made c.args.scene.now (c.args.first + c.args.number) (slice_get (offsets_of (view_plan c.args.form.now)) c.args.number) (term_seen c.in-Some.offset.now) c.place_behind-kind.result c.args.value v c.args.draft.now c.push_held.new.draft
    (sym (ap (option_map (λ (t : Bor Expr). term_seen t.now)) c.in-Some.is) ∙ c.offset_at.ensures) c.place_behind-kind.ensures m)
    c.push_held.ensures.made

pub returns-in-None-clause-means : goal.returns-in-None-clause-means
returns-in-None-clause-means c =
    hold_nowhere c.args.scene.now (c.args.first + c.args.number) (slice_get (offsets_of (view_plan c.args.form.now)) c.args.number) c.args.value c.args.draft.now
    (sym (ap (option_map (λ (t : Bor Expr). term_seen t.now)) c.in-None.is) ∙ c.offset_at.ensures)

pub returns-in-None-clause-made : goal.returns-in-None-clause-made
returns-in-None-clause-made c =
    made_nowhere c.args.scene.now (c.args.first + c.args.number) (slice_get (offsets_of (view_plan c.args.form.now)) c.args.number) c.args.value c.args.draft.now
    (sym (ap (option_map (λ (t : Bor Expr). term_seen t.now)) c.in-None.is) ∙ c.offset_at.ensures)

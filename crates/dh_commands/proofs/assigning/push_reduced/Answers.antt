use Rattle.std.specs.Prelude.{Bool as Truth}
use Rattle.std.proofs.Common.{ap, ◌∙◌, ◌≡◌, ℕ, subst}
use Rattle.std.proofs.lemmas.Result.{IfOk-weaker}
use Rattle.dh_tree.specs.Seen.{term_seen}
use Rattle.dh_meaning.specs.CoreOf.{entity_number}
use Rattle.dh_code.specs.Extended.{extension_of}
use Rattle.dh_commands.proofs.ReducersMade.{reduced_made}
use Rattle.dh_value.specs.declared.kinds.Kind.{Kind}
use Rattle.dh_code.specs.declared.places.VariableSlots.{VariableSlots}
use Rattle.dh_tree.specs.Kinds.{same_kind}
use Rattle.dh_code.specs.Slots.{held_at}
use Rattle.dh_expressions.specs.MadeValues.{MadeConverted, MadeShown}
use Rattle.dh_expressions.specs.Shown.{kind_written}
use Rattle.dh_commands.specs.MadeCommands.{FoldedWith, MadeOldOperand, MadeOperand}
use Rattle.dh_commands.proofs.assigning.push_reduced.Goals as goal

pub returns-clause-means : goal.returns-clause-means
returns-clause-means c =
    IfOk-weaker c.push_own.result _ _
    (λ made h. reduced_made c.args.scene.now c.args.lane.now c.args.current.now c.args.draft.now c.push_shown.new.draft c.push_old_operand.new.draft c.push_operand.new.draft c.push_compute.new.draft c.push_own.new.draft
    c.in_ok-old.old c.in_ok-left.left c.in_ok-right.right c.in_ok-all.all made c.args.own (entity_number c.args.target.now.entity) c.args.op (term_seen c.args.value.now) c.place_of-held.result c.slot_at.result c.extension-to.result c.is_same.result
    c.place_of-held.ensures c.slot_at.ensures (c.extension-to.ensures ∙ ap (λ k. extension_of c.args.op c.place_of-held.result.kind k) c.kind_found.ensures) c.is_same.ensures
    c.in_ok-old.ensures.means c.in_ok-left.ensures.means c.in_ok-right.ensures.means c.in_ok-all.ensures.means h)
    c.push_own.ensures.means

pub returns-clause-made : goal.returns-clause-made
returns-clause-made c =
    let kept : c.place_of-held.result ≡ held_at c.args.scene.now.held.now (entity_number c.args.target.now.entity) = c.place_of-held.ensures in
    let to : c.extension-to.result ≡ extension_of c.args.op c.place_of-held.result.kind (kind_written (term_seen c.args.value.now)) =
    c.extension-to.ensures ∙ ap (λ k. extension_of c.args.op c.place_of-held.result.kind k) c.kind_found.ensures in
    IfOk-weaker c.push_own.result _ _ (λ made h. subst (λ (q : VariableSlots). FoldedWith c.args.lane.now c.args.current.now q c.args.op (term_seen c.args.value.now) c.args.own c.args.draft.now c.push_own.new.draft made) kept (record {
      first = c.push_shown.new.draft;
      second = c.push_old_operand.new.draft;
      third = c.push_operand.new.draft;
      fourth = c.push_compute.new.draft;
      before = c.in_ok-old.old;
      left = c.in_ok-left.left;
      right = c.in_ok-right.right;
      all = c.in_ok-all.all;
      shown = subst (λ (n : ℕ). MadeShown c.args.current.now n c.args.draft.now c.push_shown.new.draft c.in_ok-old.old) c.slot_at.ensures c.in_ok-old.ensures.made;
      left_made = subst (λ (k : Kind). MadeOldOperand c.place_of-held.result.kind k c.in_ok-old.old c.push_shown.new.draft c.push_old_operand.new.draft c.in_ok-left.left) to c.in_ok-left.ensures.made;
      right_made = subst (λ (k : Kind). MadeOperand (term_seen c.args.value.now) k c.args.own c.push_old_operand.new.draft c.push_operand.new.draft c.in_ok-right.right) to c.in_ok-right.ensures.made;
      pushes = c.in_ok-all.ensures.made;
      own =
          subst (λ (k : Kind). MadeConverted (same_kind c.place_of-held.result.kind k) c.place_of-held.result.kind c.in_ok-all.all c.push_compute.new.draft c.push_own.new.draft made) to
          (subst (λ (t : Truth). MadeConverted t c.place_of-held.result.kind c.in_ok-all.all c.push_compute.new.draft c.push_own.new.draft made) c.is_same.ensures h);
    })) c.push_own.ensures.made

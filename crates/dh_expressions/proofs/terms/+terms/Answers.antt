use Rattle.std.proofs.Common.{◌≡◌, ℕ, List, None, ap, sym, refl, ◌∙◌, map, subst, add-one}
use Rattle.std.proofs.lemmas.Result.{IfOk-weaker}
use Rattle.dh_value.specs.declared.kinds.Kind.{Kind}
use Rattle.dh_value.specs.declared.words.Word.{Word}
use Rattle.dh_value.specs.Words.{IsKind, with_bits}
use Rattle.dh_tree.specs.PlainTrees.{accessed}
use Rattle.dh_tree.specs.Seen.{form_seen, term_seen, terms}
use Rattle.dh_tree.proofs.SeenTerms.{access_is, number_is, truth_is, variable_is}
use Rattle.dh_meaning.specs.CoreOf.{entity_number}
use Rattle.dh_meaning.specs.Effects.{bits_of}
use Rattle.dh_code.proofs.FlattenedForms.{bank_form, binary_form, cast_form}
use Rattle.dh_code.proofs.Ranges.{drop_past}
use Rattle.dh_plan.specs.declared.operations.OperationForm.TheVariants.{Constant}
use Rattle.dh_expressions.specs.Drafted.{Pushes}
use Rattle.dh_expressions.specs.Evaluated.{ShowsVariable}
use Rattle.dh_expressions.specs.MadeValues.{MadeVariable}
use Rattle.dh_expressions.proofs.Evaluating.{Leads, access_formed, bank_formed, binary_done, by_form, cast_done, leads_first, leads_last, leads_on, number_done, truth_done, variable_done}
use Rattle.dh_expressions.proofs.Evaluating.{values_then}
use Rattle.dh_expressions.proofs.PartsMade.{Makes, made_access, made_bank, made_form, makes_first, makes_last, makes_on}
use Rattle.dh_expressions.proofs.terms.+terms.Goals as goal

pub push_term-returns-in_ok-value-in-Number-clause-means : goal.push_term-returns-in_ok-value-in-Number-clause-means
push_term-returns-in_ok-value-in-Number-clause-means t c =
    by_form c.args.scene.now c.args.lane.now c.args.current.now c.args.draft.now c.push_constant.new.draft c.args.accesses.now c.args.accesses.now c.args.first c.args.value.now _ _
    (ap form_seen c.in-Number.is ∙ number_is c.in-Number.negative c.in-Number.value)
    (number_done c.args.scene.now c.args.lane.now c.args.current.now c.args.draft.now c.push_constant.new.draft c.args.accesses.now c.args.first c.args.value.now.place c.args.value.now.kind c.in-Number.negative c.in-Number.value c.literal.result c.in_ok-value-in-Number.value
    (subst (λ (j : Kind). IsKind j → c.literal.result ≡ with_bits j (bits_of j c.in-Number.negative c.in-Number.value)) c.kind_found-kind.ensures c.literal.ensures) c.in_ok-value-in-Number.ensures.means)

pub push_term-returns-in_ok-value-in-Truth-clause-means : goal.push_term-returns-in_ok-value-in-Truth-clause-means
push_term-returns-in_ok-value-in-Truth-clause-means t c =
    by_form c.args.scene.now c.args.lane.now c.args.current.now c.args.draft.now c.push_constant-in-Truth.new.draft c.args.accesses.now c.args.accesses.now c.args.first c.args.value.now _ _
    (ap form_seen c.in-Truth.is ∙ truth_is c.in-Truth.value)
    (truth_done c.args.scene.now c.args.lane.now c.args.current.now c.args.draft.now c.push_constant-in-Truth.new.draft c.args.accesses.now c.args.first c.args.value.now.place c.args.value.now.kind c.in-Truth.value c.truth.result c.in_ok-value-in-Truth.value c.truth.ensures c.in_ok-value-in-Truth.ensures.means)

pub push_term-returns-in_ok-value-in-Variable-clause-means : goal.push_term-returns-in_ok-value-in-Variable-clause-means
push_term-returns-in_ok-value-in-Variable-clause-means t c =
    by_form c.args.scene.now c.args.lane.now c.args.current.now c.args.draft.now c.push_variable.new.draft c.args.accesses.now c.args.accesses.now c.args.first c.args.value.now _ _
    (ap form_seen c.in-Variable.is ∙ variable_is c.in-Variable.of)
    (variable_done c.args.scene.now c.args.lane.now c.args.current.now c.args.draft.now c.push_variable.new.draft c.args.accesses.now c.args.first c.args.value.now.place c.args.value.now.kind c.in-Variable.of c.in_ok-value-in-Variable.value
    (subst (λ (j : Kind). ShowsVariable c.args.scene.now c.args.lane.now c.args.current.now c.args.draft.now c.push_variable.new.draft c.in_ok-value-in-Variable.value (entity_number c.in-Variable.of.entity) j) c.kind_found-kind.ensures c.in_ok-value-in-Variable.ensures.means))

pub push_term-returns-in_ok-value-in-Cast-clause-means : goal.push_term-returns-in_ok-value-in-Cast-clause-means
push_term-returns-in_ok-value-in-Cast-clause-means t c =
    by_form c.args.scene.now c.args.lane.now c.args.current.now c.args.draft.now c.push_converted.new.draft c.args.accesses.now c.push_term-in-Cast.new.accesses c.args.first c.args.value.now _ _
    (cast_form c.args.value.now.form c.in-Cast.inner c.in-Cast.to c.in-Cast.is c.deref-inner.result.now c.deref-inner.ensures)
    (cast_done c.args.scene.now c.args.lane.now c.args.current.now c.args.draft.now c.push_term-in-Cast.new.draft c.push_converted.new.draft c.args.accesses.now c.push_term-in-Cast.new.accesses c.args.first c.args.value.now.place c.args.value.now.kind
    (term_seen c.deref-inner.result.now) c.in-Cast.to c.in_ok-a-in-Cast.a c.in_ok-value-in-Cast.value c.in_ok-a-in-Cast.ensures.means c.in_ok-value-in-Cast.ensures.means)

pub push_term-returns-in_ok-push_way-in-Access-clause-means : goal.push_term-returns-in_ok-push_way-in-Access-clause-means
push_term-returns-in_ok-push_way-in-Access-clause-means t c =
    IfOk-weaker c.push_element.result _ _ (λ r h. access_formed c.args.scene.now c.args.lane.now c.args.current.now c.args.draft.now c.push_indices.new.draft c.push_way.new.draft c.push_element.new.draft c.args.accesses.now c.push_indices.new.accesses c.push_element.new.accesses c.args.first
    c.args.value.now c.in-Access.of (terms (map term_seen c.as_slice-indices.result.now)) c.in_ok-aim-in-Access.aim c.push_way.new.aim r
    (ap form_seen c.in-Access.is ∙ (access_is c.in-Access.of c.in-Access.indices ∙ ap (λ l. accessed c.in-Access.of (terms (map term_seen l))) (sym c.as_slice-indices.ensures.value)))
    c.in_ok-aim-in-Access.ensures.means c.in_ok-push_way-in-Access.ensures.means h) c.push_element.ensures.means

pub push_term-returns-in_ok-aim-in-Physical-clause-means : goal.push_term-returns-in_ok-aim-in-Physical-clause-means
push_term-returns-in_ok-aim-in-Physical-clause-means t c =
    IfOk-weaker c.push_element-in-Physical.result _ _ (λ r h. bank_formed c.args.scene.now c.args.lane.now c.args.current.now c.args.draft.now c.push_row.new.draft c.push_element-in-Physical.new.draft c.args.accesses.now c.push_row.new.accesses
    c.push_element-in-Physical.new.accesses c.args.first c.args.value.now c.in-Physical.of c.in-Physical.bank c.in-Physical.bank_place (term_seen c.deref.result.now) c.in_ok-aim-in-Physical.aim r
    (bank_form c.args.value.now.form c.in-Physical.of c.in-Physical.bank c.in-Physical.bank_place c.in-Physical.row c.in-Physical.is c.deref.result.now c.deref.ensures)
    c.in_ok-aim-in-Physical.ensures.means h) c.push_element-in-Physical.ensures.means

pub push_term-returns-in_ok-value-in-Binary-clause-means : goal.push_term-returns-in_ok-value-in-Binary-clause-means
push_term-returns-in_ok-value-in-Binary-clause-means t c =
    by_form c.args.scene.now c.args.lane.now c.args.current.now c.args.draft.now c.push_operation.new.draft c.args.accesses.now c.push_term-in-Binary.new.accesses c.args.first c.args.value.now _ _
    (binary_form c.args.value.now.form c.in-Binary.op c.in-Binary.left c.in-Binary.right c.in-Binary.is c.deref-left.result.now c.deref-right.result.now c.deref-left.ensures c.deref-right.ensures)
    (binary_done c.args.scene.now c.args.lane.now c.args.current.now c.args.draft.now c.push_term.new.draft c.push_term-in-Binary.new.draft c.push_operation.new.draft c.args.accesses.now c.push_term.new.accesses c.push_term-in-Binary.new.accesses c.args.first
    c.args.value.now.place c.args.value.now.kind c.in-Binary.op (term_seen c.deref-left.result.now) (term_seen c.deref-right.result.now) c.in_ok-a-in-Binary.a c.in_ok-b-in-Binary.b c.in_ok-value-in-Binary.value
    c.in_ok-a-in-Binary.ensures.means c.in_ok-b-in-Binary.ensures.means c.in_ok-value-in-Binary.ensures.means)

pub push_indices-loop-index-init : goal.push_indices-loop-index-init
push_indices-loop-index-init t c = record {
  means =
      subst (λ (vs : List ℕ). Leads c.args.scene.now c.args.lane.now c.args.current.now c.args.draft.now c.args.accesses.now c.args.first c.args.indices.now 0 c.args.draft.now c.args.accesses.now vs c.args.first) (sym c.new-values.ensures)
      (leads_first c.args.scene.now c.args.lane.now c.args.current.now c.args.draft.now c.args.accesses.now c.args.first c.args.indices.now);
  made =
      subst (λ (vs : List ℕ). Makes c.args.scene.now c.args.lane.now c.args.current.now c.args.draft.now c.args.accesses.now c.args.first c.args.indices.now 0 c.args.draft.now c.args.accesses.now vs c.args.first) (sym c.new-values.ensures)
      (makes_first c.args.scene.now c.args.lane.now c.args.current.now c.args.draft.now c.args.accesses.now c.args.first c.args.indices.now);
}

pub push_indices-loop-index-preserved : goal.push_indices-loop-index-preserved
push_indices-loop-index-preserved t c = rw (add-one c.loop-index.index-index) (record {
  means =
      leads_on c.args.scene.now c.args.lane.now c.args.current.now c.args.draft.now c.args.accesses.now c.args.first c.args.indices.now c.loop-index.index-index c.loop-index.draft c.push_term.new.draft c.loop-index.accesses c.push_term.new.accesses c.loop-index.values c.push.new.self c.loop-index.number c.index-item.result c.in_ok-valued.valued
      c.loop-index-test.true c.index-item.is (values_then c.loop-index.values c.push.new.self c.in_ok-valued.valued.value c.push.result c.push.ensures c.in_ok-push.was) c.in_ok-valued.ensures.means c.loop-index.invariant.means;
  made =
      makes_on c.args.scene.now c.args.lane.now c.args.current.now c.args.draft.now c.args.accesses.now c.args.first c.args.indices.now c.loop-index.index-index c.loop-index.draft c.push_term.new.draft c.loop-index.accesses c.push_term.new.accesses c.loop-index.values c.push.new.self c.loop-index.number c.index-item.result c.in_ok-valued.valued
      c.loop-index-test.true c.index-item.is (values_then c.loop-index.values c.push.new.self c.in_ok-valued.valued.value c.push.result c.push.ensures c.in_ok-push.was) c.in_ok-valued.ensures.made c.loop-index.invariant.made;
})

pub push_indices-returns-clause-means : goal.push_indices-returns-clause-means
push_indices-returns-clause-means t c = record {
  row = refl;
  steps = c.no_steps-steps.ensures;
  indices =
      leads_last c.args.scene.now c.args.lane.now c.args.current.now c.args.draft.now c.loop-index.draft c.args.accesses.now c.loop-index.accesses c.args.first c.args.indices.now c.loop-index.index-index c.loop-index.values c.loop-index.number
      (drop_past c.args.indices.now c.loop-index.index-index c.loop-index-test.false) c.loop-index.invariant.means;
}

pub push_indices-returns-clause-made : goal.push_indices-returns-clause-made
push_indices-returns-clause-made t c = record {
  row = refl;
  steps = c.no_steps-steps.ensures;
  indices =
      makes_last c.args.scene.now c.args.lane.now c.args.current.now c.args.draft.now c.loop-index.draft c.args.accesses.now c.loop-index.accesses c.args.first c.args.indices.now c.loop-index.index-index c.loop-index.values c.loop-index.number
      (drop_past c.args.indices.now c.loop-index.index-index c.loop-index-test.false) c.loop-index.invariant.made;
}

pub push_term-returns-in_ok-value-in-Number-clause-made : goal.push_term-returns-in_ok-value-in-Number-clause-made
push_term-returns-in_ok-value-in-Number-clause-made t c =
    made_form c.args.scene.now c.args.lane.now c.args.current.now c.args.draft.now c.push_constant.new.draft c.args.accesses.now c.args.accesses.now c.args.first c.args.value.now _ c.args.first c.in_ok-value-in-Number.value
    (ap form_seen c.in-Number.is ∙ number_is c.in-Number.negative c.in-Number.value) (record {
      same = refl;
      next_is = refl;
      part = record {
        word = c.literal.result;
        is = subst (λ (j : Kind). IsKind j → c.literal.result ≡ with_bits j (bits_of j c.in-Number.negative c.in-Number.value)) c.kind_found-kind.ensures c.literal.ensures;
        pushes = c.in_ok-value-in-Number.ensures.made;
      };
    })

pub push_term-returns-in_ok-value-in-Truth-clause-made : goal.push_term-returns-in_ok-value-in-Truth-clause-made
push_term-returns-in_ok-value-in-Truth-clause-made t c =
    made_form c.args.scene.now c.args.lane.now c.args.current.now c.args.draft.now c.push_constant-in-Truth.new.draft c.args.accesses.now c.args.accesses.now c.args.first c.args.value.now _ c.args.first c.in_ok-value-in-Truth.value
    (ap form_seen c.in-Truth.is ∙ truth_is c.in-Truth.value) (record {
      same = refl;
      next_is = refl;
      part = subst (λ (w : Word). Pushes c.args.draft.now c.push_constant-in-Truth.new.draft c.in_ok-value-in-Truth.value None (Constant w)) c.truth.ensures c.in_ok-value-in-Truth.ensures.made;
    })

pub push_term-returns-in_ok-value-in-Variable-clause-made : goal.push_term-returns-in_ok-value-in-Variable-clause-made
push_term-returns-in_ok-value-in-Variable-clause-made t c =
    made_form c.args.scene.now c.args.lane.now c.args.current.now c.args.draft.now c.push_variable.new.draft c.args.accesses.now c.args.accesses.now c.args.first c.args.value.now _ c.args.first c.in_ok-value-in-Variable.value
    (ap form_seen c.in-Variable.is ∙ variable_is c.in-Variable.of) (record {
      same = refl;
      next_is = refl;
      part = subst (λ (j : Kind). MadeVariable c.args.scene.now c.args.lane.now c.args.current.now (entity_number c.in-Variable.of.entity) j c.args.draft.now c.push_variable.new.draft c.in_ok-value-in-Variable.value) c.kind_found-kind.ensures c.in_ok-value-in-Variable.ensures.made;
    })

pub push_term-returns-in_ok-value-in-Cast-clause-made : goal.push_term-returns-in_ok-value-in-Cast-clause-made
push_term-returns-in_ok-value-in-Cast-clause-made t c =
    made_form c.args.scene.now c.args.lane.now c.args.current.now c.args.draft.now c.push_converted.new.draft c.args.accesses.now c.push_term-in-Cast.new.accesses c.args.first c.args.value.now _ c.in_ok-a-in-Cast.a.next c.in_ok-value-in-Cast.value
    (cast_form c.args.value.now.form c.in-Cast.inner c.in-Cast.to c.in-Cast.is c.deref-inner.result.now c.deref-inner.ensures) (record {
      middle = c.push_term-in-Cast.new.draft;
      a = c.in_ok-a-in-Cast.a.value;
      operand = c.in_ok-a-in-Cast.ensures.made;
      converts = c.in_ok-value-in-Cast.ensures.made;
    })

pub push_term-returns-in_ok-value-in-Binary-clause-made : goal.push_term-returns-in_ok-value-in-Binary-clause-made
push_term-returns-in_ok-value-in-Binary-clause-made t c =
    made_form c.args.scene.now c.args.lane.now c.args.current.now c.args.draft.now c.push_operation.new.draft c.args.accesses.now c.push_term-in-Binary.new.accesses c.args.first c.args.value.now _ c.in_ok-b-in-Binary.b.next c.in_ok-value-in-Binary.value
    (binary_form c.args.value.now.form c.in-Binary.op c.in-Binary.left c.in-Binary.right c.in-Binary.is c.deref-left.result.now c.deref-right.result.now c.deref-left.ensures c.deref-right.ensures) (record {
      middle = c.push_term.new.draft;
      end = c.push_term-in-Binary.new.draft;
      between = c.push_term.new.accesses;
      own = c.in_ok-a-in-Binary.a.next;
      a = c.in_ok-a-in-Binary.a.value;
      b = c.in_ok-b-in-Binary.b.value;
      first = c.in_ok-a-in-Binary.ensures.made;
      second = c.in_ok-b-in-Binary.ensures.made;
      operation = c.in_ok-value-in-Binary.ensures.made;
    })

pub push_term-returns-in_ok-push_way-in-Access-clause-made : goal.push_term-returns-in_ok-push_way-in-Access-clause-made
push_term-returns-in_ok-push_way-in-Access-clause-made t c =
    IfOk-weaker c.push_element.result _ _ (λ r h. made_access c.args.scene.now c.args.lane.now c.args.current.now c.args.draft.now c.push_indices.new.draft c.push_way.new.draft c.push_element.new.draft c.args.accesses.now c.push_indices.new.accesses c.push_element.new.accesses c.args.first
    c.args.value.now c.in-Access.of (terms (map term_seen c.as_slice-indices.result.now)) c.in_ok-aim-in-Access.aim c.push_way.new.aim r
    (ap form_seen c.in-Access.is ∙ (access_is c.in-Access.of c.in-Access.indices ∙ ap (λ l. accessed c.in-Access.of (terms (map term_seen l))) (sym c.as_slice-indices.ensures.value)))
    c.in_ok-aim-in-Access.ensures.made c.in_ok-push_way-in-Access.ensures.made h) c.push_element.ensures.made

pub push_term-returns-in_ok-aim-in-Physical-clause-made : goal.push_term-returns-in_ok-aim-in-Physical-clause-made
push_term-returns-in_ok-aim-in-Physical-clause-made t c =
    IfOk-weaker c.push_element-in-Physical.result _ _ (λ r h. made_bank c.args.scene.now c.args.lane.now c.args.current.now c.args.draft.now c.push_row.new.draft c.push_element-in-Physical.new.draft c.args.accesses.now c.push_row.new.accesses
    c.push_element-in-Physical.new.accesses c.args.first c.args.value.now c.in-Physical.of c.in-Physical.bank c.in-Physical.bank_place (term_seen c.deref.result.now) c.in_ok-aim-in-Physical.aim r
    (bank_form c.args.value.now.form c.in-Physical.of c.in-Physical.bank c.in-Physical.bank_place c.in-Physical.row c.in-Physical.is c.deref.result.now c.deref.ensures)
    c.in_ok-aim-in-Physical.ensures.made h) c.push_element-in-Physical.ensures.made

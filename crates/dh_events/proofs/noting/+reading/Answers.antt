use Rattle.std.proofs.Common.{rules, refl, ap, sym, ◌∙◌, ◌≤◌, subst, map, take, length}
use Rattle.std.proofs.lemmas.Result.{IfOk-weaker}
use Rattle.dh_tree.specs.PlainTrees.{TermForm, Terms, term, applied, converted}
use Rattle.dh_meets.specs.SourceEvents.{with_indices, in_row}
use Rattle.dh_tree.specs.Seen.{form_seen, term_seen, terms}
use Rattle.dh_tree.proofs.SeenTerms.{number_is, truth_is, access_is, physical_is, binary_is, cast_is}
use Rattle.dh_events.specs.Accesses.{element_in, entity_in}
use Rattle.dh_events.specs.Elements.{AreKnown, FormIsAccess, IsKnown}
use Rattle.dh_events.specs.Tables.{table_at}
use Rattle.dh_events.proofs.ElementFacts.{extends_same}
use Rattle.dh_events.proofs.Turns.{at_item}
use Rattle.dh_events.proofs.ReadFacts.{if_on, notes_of, stays_more, stays_made, stays_both, element_known, read_stays, read_element, known_still, so_far_still, so_far_taken, none_known, index_noted}
use Rattle.dh_events.proofs.noting.+reading.Goals as goal

pub note_index-returns-in-Number-clause-noted : goal.note_index-returns-in-Number-clause-noted
note_index-returns-in-Number-clause-noted t c = if_on c.number.result _ (λ k m. stays_more c.args.notes.now c.number.new.structures m.extends) c.number.ensures

pub note_index-returns-in-Number-clause-known : goal.note_index-returns-in-Number-clause-known
note_index-returns-in-Number-clause-known t c =
    IfOk-weaker c.number.result _ _
    (λ k m. subst (λ (f : TermForm). IsKnown c.number.new.structures (table_at c.args.notes.now.clocks.items) (term c.args.expr.now.place c.args.expr.now.kind f) k) (sym (ap form_seen c.in-Number.is ∙ number_is c.in-Number.negative c.in-Number.value))
    (m.known (table_at c.args.notes.now.clocks.items) c.args.expr.now.place c.args.expr.now.kind c.sort_found-sort.ensures))
    c.number.ensures

pub note_index-returns-in-Truth-clause-noted : goal.note_index-returns-in-Truth-clause-noted
note_index-returns-in-Truth-clause-noted t c = if_on c.truth.result _ (λ k m. stays_more c.args.notes.now c.truth.new.structures m.extends) c.truth.ensures

pub note_index-returns-in-Truth-clause-known : goal.note_index-returns-in-Truth-clause-known
note_index-returns-in-Truth-clause-known t c =
    IfOk-weaker c.truth.result _ _
    (λ k m. subst (λ (f : TermForm). IsKnown c.truth.new.structures (table_at c.args.notes.now.clocks.items) (term c.args.expr.now.place c.args.expr.now.kind f) k) (sym (ap form_seen c.in-Truth.is ∙ truth_is c.in-Truth.value))
    (m.known (table_at c.args.notes.now.clocks.items) c.args.expr.now.place c.args.expr.now.kind c.sort_found-sort.ensures))
    c.truth.ensures

pub note_index-returns-in-Variable-clause-noted : goal.note_index-returns-in-Variable-clause-noted
note_index-returns-in-Variable-clause-noted t c = if_on c.variable.result _ (λ k m. stays_more c.args.notes.now c.variable.new.structures m.extends) c.variable.ensures

-- an element by its indices
pub note_index-returns-in_ok-read-in-Access-clause-noted : goal.note_index-returns-in_ok-read-in-Access-clause-noted
note_index-returns-in_ok-read-in-Access-clause-noted t c =
    let seen = ap form_seen c.in-Access.is ∙ access_is c.in-Access.of c.in-Access.indices in
    let is = ap element_in seen ∙ ap (λ l. with_indices (terms (map term_seen l))) (sym c.as_slice-in-Access.ensures.value) in
    let element = element_known c.note_indices.new.notes.structures (table_at c.args.notes.now.clocks.items) (terms (map term_seen c.as_slice-in-Access.result.now)) c.in_ok-element-in-Access.element c.in_ok-element-in-Access.ensures.known in
    if_on c.reading.result _
    (λ k m. stays_made c.args.notes.now c.read.new.self c.reading.new.structures
    (read_stays c.args.notes.now c.note_indices.new.notes c.read.new.self (form_seen c.args.expr.now.form) _ _ _ c.in_ok-element-in-Access.ensures.noted is element c.in_ok-read-in-Access.ensures.noted) m.extends)
    c.reading.ensures

pub note_index-returns-in_ok-read-in-Access-clause-known : goal.note_index-returns-in_ok-read-in-Access-clause-known
note_index-returns-in_ok-read-in-Access-clause-known t c =
    let seen = ap form_seen c.in-Access.is ∙ access_is c.in-Access.of c.in-Access.indices in
    let is = ap element_in seen ∙ ap (λ l. with_indices (terms (map term_seen l))) (sym c.as_slice-in-Access.ensures.value) in
    let element = element_known c.note_indices.new.notes.structures (table_at c.args.notes.now.clocks.items) (terms (map term_seen c.as_slice-in-Access.result.now)) c.in_ok-element-in-Access.element c.in_ok-element-in-Access.ensures.known in
    IfOk-weaker c.reading.result _ _
    (λ k m. m.known (table_at c.args.notes.now.clocks.items) c.args.expr.now.place c.args.expr.now.kind (form_seen c.args.expr.now.form) c.sort_found-sort.ensures (ap entity_in seen) (subst (λ (f : TermForm). FormIsAccess f) (sym seen) tt)
    (read_element c.args.notes.now c.note_indices.new.notes c.read.new.self (form_seen c.args.expr.now.form) _ _ _ c.in_ok-element-in-Access.ensures.noted is element c.in_ok-read-in-Access.ensures.noted))
    c.reading.ensures

-- an element by a row
pub note_index-returns-in_ok-read-in-Physical-clause-noted : goal.note_index-returns-in_ok-read-in-Physical-clause-noted
note_index-returns-in_ok-read-in-Physical-clause-noted t c =
    let seen = ap form_seen c.in-Physical.is ∙ physical_is c.in-Physical.of c.in-Physical.bank c.in-Physical.bank_place c.in-Physical.row in
    let is = ap element_in seen ∙ ap (λ x. in_row c.in-Physical.bank (term_seen x)) (sym c.deref.ensures) in
    let first = stays_made c.args.notes.now c.note_index.new.notes c.row.new.structures c.in_ok-row-in-Physical.ensures.noted c.in_ok-element-in-Physical.ensures.extends in
    let element = c.in_ok-element-in-Physical.ensures.known (table_at c.args.notes.now.clocks.items) (term_seen c.deref.result.now) c.in_ok-row-in-Physical.ensures.known in
    if_on c.reading-in-Physical.result _
    (λ k m. stays_made c.args.notes.now c.read-in-Physical.new.self c.reading-in-Physical.new.structures
    (read_stays c.args.notes.now (notes_of c.note_index.new.notes c.row.new.structures) c.read-in-Physical.new.self (form_seen c.args.expr.now.form) _ _ _ first is element c.in_ok-read-in-Physical.ensures.noted) m.extends)
    c.reading-in-Physical.ensures

pub note_index-returns-in_ok-read-in-Physical-clause-known : goal.note_index-returns-in_ok-read-in-Physical-clause-known
note_index-returns-in_ok-read-in-Physical-clause-known t c =
    let seen = ap form_seen c.in-Physical.is ∙ physical_is c.in-Physical.of c.in-Physical.bank c.in-Physical.bank_place c.in-Physical.row in
    let is = ap element_in seen ∙ ap (λ x. in_row c.in-Physical.bank (term_seen x)) (sym c.deref.ensures) in
    let first = stays_made c.args.notes.now c.note_index.new.notes c.row.new.structures c.in_ok-row-in-Physical.ensures.noted c.in_ok-element-in-Physical.ensures.extends in
    let element = c.in_ok-element-in-Physical.ensures.known (table_at c.args.notes.now.clocks.items) (term_seen c.deref.result.now) c.in_ok-row-in-Physical.ensures.known in
    IfOk-weaker c.reading-in-Physical.result _ _
    (λ k m. m.known (table_at c.args.notes.now.clocks.items) c.args.expr.now.place c.args.expr.now.kind (form_seen c.args.expr.now.form) c.sort_found-sort.ensures (ap entity_in seen) (subst (λ (f : TermForm). FormIsAccess f) (sym seen) tt)
    (read_element c.args.notes.now (notes_of c.note_index.new.notes c.row.new.structures) c.read-in-Physical.new.self (form_seen c.args.expr.now.form) _ _ _ first is element c.in_ok-read-in-Physical.ensures.noted))
    c.reading-in-Physical.ensures

pub note_index-returns-in_ok-right-in-Binary-clause-noted : goal.note_index-returns-in_ok-right-in-Binary-clause-noted
note_index-returns-in_ok-right-in-Binary-clause-noted t c =
    if_on c.operation.result _
    (λ k m. stays_made c.args.notes.now c.note_index-in-Binary-2.new.notes c.operation.new.structures
    (stays_both c.args.notes.now c.note_index-in-Binary.new.notes c.note_index-in-Binary-2.new.notes c.in_ok-left-in-Binary.ensures.noted c.in_ok-right-in-Binary.ensures.noted) m.extends)
    c.operation.ensures

pub note_index-returns-in_ok-right-in-Binary-clause-known : goal.note_index-returns-in_ok-right-in-Binary-clause-known
note_index-returns-in_ok-right-in-Binary-clause-known t c =
    IfOk-weaker c.operation.result _ _
    (λ k m. subst (λ (f : TermForm). IsKnown c.operation.new.structures (table_at c.args.notes.now.clocks.items) (term c.args.expr.now.place c.args.expr.now.kind f) k)
    (ap (λ x. applied c.in-Binary.op (term_seen x) (term_seen c.deref-in-Binary-2.result.now)) c.deref-in-Binary.ensures
    ∙ (ap (λ x. applied c.in-Binary.op (term_seen c.in-Binary.left.value) (term_seen x)) c.deref-in-Binary-2.ensures
    ∙ sym (ap form_seen c.in-Binary.is ∙ binary_is c.in-Binary.op c.in-Binary.left c.in-Binary.right)))
    (m.known (table_at c.args.notes.now.clocks.items) c.args.expr.now.place c.args.expr.now.kind (term_seen c.deref-in-Binary.result.now) (term_seen c.deref-in-Binary-2.result.now) c.sort_found-sort.ensures
    (known_still c.note_index-in-Binary.new.notes.structures c.note_index-in-Binary-2.new.notes.structures (table_at c.args.notes.now.clocks.items) (table_at c.args.notes.now.clocks.items) _ _ refl c.in_ok-right-in-Binary.ensures.noted.extends c.in_ok-left-in-Binary.ensures.known)
    (known_still c.note_index-in-Binary-2.new.notes.structures c.note_index-in-Binary-2.new.notes.structures (table_at c.note_index-in-Binary.new.notes.clocks.items) (table_at c.args.notes.now.clocks.items) _ _ c.in_ok-left-in-Binary.ensures.noted.clocks (extends_same _) c.in_ok-right-in-Binary.ensures.known)))
    c.operation.ensures

pub note_index-returns-in_ok-inner-in-Cast-clause-noted : goal.note_index-returns-in_ok-inner-in-Cast-clause-noted
note_index-returns-in_ok-inner-in-Cast-clause-noted t c =
    if_on c.cast.result _ (λ k m. stays_made c.args.notes.now c.note_index-in-Cast.new.notes c.cast.new.structures c.in_ok-inner-in-Cast.ensures.noted m.extends) c.cast.ensures

pub note_index-returns-in_ok-inner-in-Cast-clause-known : goal.note_index-returns-in_ok-inner-in-Cast-clause-known
note_index-returns-in_ok-inner-in-Cast-clause-known t c =
    IfOk-weaker c.cast.result _ _
    (λ k m. subst (λ (f : TermForm). IsKnown c.cast.new.structures (table_at c.args.notes.now.clocks.items) (term c.args.expr.now.place c.args.expr.now.kind f) k)
    (ap (λ x. converted (term_seen x) c.in-Cast.to) c.deref-in-Cast.ensures ∙ sym (ap form_seen c.in-Cast.is ∙ cast_is c.in-Cast.inner c.in-Cast.to))
    (m.known (table_at c.args.notes.now.clocks.items) c.args.expr.now.place c.args.expr.now.kind (term_seen c.deref-in-Cast.result.now) c.sort_found-sort.ensures c.in_ok-inner-in-Cast.ensures.known))
    c.cast.ensures

pub note_indices-loop-expr-preserved : goal.note_indices-loop-expr-preserved
note_indices-loop-expr-preserved t c =
    let is = at_item c.args.indices.now c.loop-expr.expr-index c.expr-item.result c.loop-expr-test.true c.expr-item.is in
    let before = c.loop-expr.invariant.1.0 in (
      index_noted c.args.site _ _ _ _ _ c.expr-item.result is c.in_ok-last.ensures.adds c.loop-expr.invariant.0,
      (
        stays_made c.args.notes.now c.note_index.new.notes c.index.new.structures (stays_both c.args.notes.now c.loop-expr.notes c.note_index.new.notes before c.in_ok-last.ensures.noted) c.in_ok-index.ensures.extends,
        so_far_taken c.index.new.structures (table_at c.args.notes.now.clocks.items) c.args.indices.now c.loop-expr.expr-index c.expr-item.result c.in_ok-index.field-0 c.loop-expr-test.true c.expr-item.is
            (c.in_ok-index.ensures.known (table_at c.args.notes.now.clocks.items) (terms (map term_seen (take c.loop-expr.expr-index c.args.indices.now))) (term_seen c.expr-item.result)
            (so_far_still c.loop-expr.notes.structures c.note_index.new.notes.structures c.in_ok-last.ensures.noted.extends (table_at c.args.notes.now.clocks.items) _ c.loop-expr.known c.loop-expr.invariant.1.1)
            (known_still c.note_index.new.notes.structures c.note_index.new.notes.structures (table_at c.loop-expr.notes.clocks.items) (table_at c.args.notes.now.clocks.items) _ _ before.clocks (extends_same _) c.in_ok-last.ensures.known)),
      ),
    )

pub note_indices-returns-in-None-clause-noted : goal.note_indices-returns-in-None-clause-noted
note_indices-returns-in-None-clause-noted t c = if_on c.no_index.result _ (λ k m. stays_made c.args.notes.now c.loop-expr.notes c.no_index.new.structures c.loop-expr.invariant.1.0 m.extends) c.no_index.ensures

pub note_indices-returns-in-None-clause-known : goal.note_indices-returns-in-None-clause-known
note_indices-returns-in-None-clause-known t c =
    let end : length c.args.indices.now ≤ c.loop-expr.expr-index = search rules in
    IfOk-weaker c.no_index.result _ _
    (λ k m. subst (λ (ts : Terms). AreKnown c.no_index.new.structures (table_at c.args.notes.now.clocks.items) ts k)
    (sym (none_known c.loop-expr.notes.structures (table_at c.args.notes.now.clocks.items) c.args.indices.now c.loop-expr.expr-index c.loop-expr.known end c.in-None.is c.loop-expr.invariant.1.1))
    (m.known (table_at c.args.notes.now.clocks.items)))
    c.no_index.ensures

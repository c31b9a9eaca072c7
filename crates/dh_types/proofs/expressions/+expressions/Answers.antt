use Rattle.std.proofs.Common.{◌∙◌, ap, sym, refl, map, length, arith, None}
use Rattle.dh_types.specs.Facts.{facts_seen}
use Rattle.dh_tree.specs.Seen.{term_seen}
use Rattle.dh_tree.specs.Kinds.{typed_term}
use Rattle.dh_base.proofs.InPlace.{start, turn, finish, written}
use Rattle.dh_types.proofs.Lists.{term_step, term_made, terms_made}
use Rattle.dh_types.proofs.Forms.{settled_access, settled_physical, settled_cast, bare_binary, settled_binary, settled_typed, settled_filled}
use Rattle.dh_tree.specs.contracts.trees.expressions.ExprForm.{enum}
use Rattle.dh_base.proofs.InArms.{holds, holds_some, reading}
use Rattle.dh_types.proofs.expressions.+expressions.Goals as goal

pub settle_form-returns-in-Access-clause-tree : goal.settle_form-returns-in-Access-clause-tree
settle_form-returns-in-Access-clause-tree t c =
    let fs = facts_seen c.args.facts.now in
    let whole = holds_some enum 3 (c.in-Access.of, (c.in-Access.indices, tt)) _ c.in-Access.is in
    rw whole
    (settled_access fs _ _ _ _ c.in-Access.is (c.type_terms.ensures ∙ ap (λ v. map (typed_term fs None) (map term_seen v.items)) c.in-Access.indices-is))

pub settle_form-returns-in-Physical-clause-tree : goal.settle_form-returns-in-Physical-clause-tree
settle_form-returns-in-Physical-clause-tree t c =
    let fs = facts_seen c.args.facts.now in
    let whole = holds_some enum 4 (c.in-Physical.of, (c.in-Physical.bank, (c.in-Physical.bank_place, (c.in-Physical.row, tt)))) _ c.in-Physical.is in
    let held = holds enum 4 (c.in-Physical.of, (c.in-Physical.bank, (c.in-Physical.bank_place, (c.in-Physical.row, tt)))) _ c.in-Physical.is in
    rw (whole, held)
    (settled_physical fs _ _ _ _ _ _ c.in-Physical.is
    (c.type_term.ensures ∙ ap (λ e. typed_term fs None (term_seen e)) (c.deref_mut.ensures.value ∙ ap (λ b. b.value) c.in-Physical.row-is)))

pub settle_form-returns-in-Cast-clause-tree : goal.settle_form-returns-in-Cast-clause-tree
settle_form-returns-in-Cast-clause-tree t c =
    let fs = facts_seen c.args.facts.now in
    let r = reading enum 6 (c.in-Cast.inner, (c.in-Cast.to, tt)) _ c.in-Cast.is in
    settled_cast fs _ r.0.0 _ r.0.1.0 r.1
    (c.type_term-in-Cast.ensures ∙ ap (λ e. typed_term fs c.for_numbers.result (term_seen e)) c.deref_mut-in-Cast.ensures.value
    ∙ ap (λ k. typed_term fs k (term_seen r.0.0.value)) c.for_numbers.ensures)

pub settle_form-returns-then-is_bare-clause-tree : goal.settle_form-returns-then-is_bare-clause-tree
settle_form-returns-then-is_bare-clause-tree t c =
    let r = reading enum 5 (c.in-Binary.op, (c.in-Binary.left, (c.in-Binary.right, tt))) _ c.in-Binary.is in
    bare_binary (facts_seen c.args.facts.now) _ r.0.0 r.0.1.0 r.0.1.1.0 _ _ _ _ _ _ _ r.1 c.deref_mut-in-Binary.ensures.value c.deref_mut-in-Binary-2.ensures.value
    c.settle_part-bare_left.ensures.bare c.settle_part-bare_left.ensures.tree c.settle_part-bare_right.ensures.bare c.settle_part-bare_right.ensures.tree c.is_bare.ensures c.if-is_bare.true

pub settle_form-returns-else-is_bare-clause-tree : goal.settle_form-returns-else-is_bare-clause-tree
settle_form-returns-else-is_bare-clause-tree t c =
    let r = reading enum 5 (c.in-Binary.op, (c.in-Binary.left, (c.in-Binary.right, tt))) _ c.in-Binary.is in
    settled_binary (facts_seen c.args.facts.now) _ r.0.0 r.0.1.0 r.0.1.1.0 _ _ _ _ _ _ _ _ _ _ _ r.1 c.deref_mut-in-Binary.ensures.value c.deref_mut-in-Binary-2.ensures.value
    c.settle_part-bare_left.ensures.bare c.settle_part-bare_left.ensures.tree c.settle_part-bare_right.ensures.bare c.settle_part-bare_right.ensures.tree c.is_bare.ensures c.if-is_bare.false
    c.deref_mut-in-Binary-3.ensures.value c.deref_mut-in-Binary-4.ensures.value c.fill_operands.ensures.left c.fill_operands.ensures.right

pub type_term-returns-then-settle : goal.type_term-returns-then-settle
type_term-returns-then-settle t c = settled_filled (facts_seen c.args.facts.now) c.args.want (term_seen c.args.term.now) _ _ _ c.settle.ensures.bare c.if-settle.true c.settle.ensures.tree c.fill.ensures

pub type_term-returns-else-settle : goal.type_term-returns-else-settle
type_term-returns-else-settle t c = settled_typed (facts_seen c.args.facts.now) c.args.want (term_seen c.args.term.now) _ _ c.settle.ensures.bare c.if-settle.false c.settle.ensures.tree

pub type_terms-loop-term-init : goal.type_terms-loop-term-init
type_terms-loop-term-init t c = ((refl, λ k d past. refl), start term_seen term_step (term_made (facts_seen c.args.facts.now)) _ _)

pub type_terms-loop-term-preserved : goal.type_terms-loop-term-preserved
type_terms-loop-term-preserved t c =
    let fs = facts_seen c.args.facts.now in
    turn term_seen term_step (term_made fs) c.deref_mut-term-items.result.now c.loop-term.term-items c.loop-term.term-index tt tt tt c.term-item.result c.type_term.new.term
    (omega (arith, c.loop-term-test.true, c.loop-term.auto.term-items)) c.loop-term.invariant.0 c.loop-term.invariant.1 c.term-item.is
    (c.type_term.ensures ∙ ap (λ e. typed_term fs None (term_seen e)) (sym c.term-item.is)) refl

pub type_terms-returns : goal.type_terms-returns
type_terms-returns t c =
    let fs = facts_seen c.args.facts.now in
    let v = c.deref_mut-term-items.ensures.value in
    ap (λ l. map term_seen l) (written c.args.terms.now.items c.loop-term.term-items c.args.terms.now.len (c.loop-term.auto.term-items ∙ ap (λ l. length l) v) (sym (ap (λ l. length l) v) ∙ c.deref_mut-term-items.ensures.len))
    ∙ (finish term_seen term_step (term_made fs) c.deref_mut-term-items.result.now c.loop-term.term-items c.loop-term.term-index tt tt
    (omega (arith, c.loop-term-test.false, c.loop-term.auto.term-items)) c.loop-term.invariant.0 c.loop-term.invariant.1).0
    ∙ terms_made fs _
    ∙ ap (λ l. map (typed_term fs None) (map term_seen l)) v

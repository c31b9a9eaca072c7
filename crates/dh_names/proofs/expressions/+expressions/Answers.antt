use Rattle.std.proofs.Common.{◌∙◌, ap, sym, map, refl, length, arith}
use Rattle.dh_tree.specs.Seen.{term_seen}
use Rattle.dh_tree.specs.LeastBreach.{least_of}
use Rattle.dh_tree.specs.Breaches.{unknown, term_breaches, list_breaches}
use Rattle.dh_tree.specs.Resolved.{used, resolved_term}
use Rattle.dh_tree.specs.contracts.trees.expressions.ExprForm.{enum}
use Rattle.dh_base.proofs.InArms.{holds, holds_some}
use Rattle.dh_names.specs.Visible.{visible}
use Rattle.dh_base.proofs.InPlace.{start, turn, finish, written}
use Rattle.dh_names.proofs.TermForms.{access_done, access_least, physical_done, binary_done, cast_done, term_step, term_made, terms_made, terms_run}
use Rattle.dh_names.proofs.expressions.+expressions.Goals as goal

pub resolve_terms-loop-term-init : goal.resolve_terms-loop-term-init
resolve_terms-loop-term-init t c = ((refl, λ k d past. refl), start term_seen (term_step (visible c.args.names.now)) (term_made (visible c.args.names.now)) _ _)

pub resolve_terms-loop-term-preserved : goal.resolve_terms-loop-term-preserved
resolve_terms-loop-term-preserved t c =
    let bs = visible c.args.names.now in
    turn term_seen (term_step bs) (term_made bs) c.deref_mut-term-items.result.now c.loop-term.term-items c.loop-term.term-index c.args.least.now c.loop-term.least c.resolve_term.new.least c.term-item.result c.resolve_term.new.term
    (omega (arith, c.loop-term-test.true, c.loop-term.auto.term-items)) c.loop-term.invariant.0 c.loop-term.invariant.1 c.term-item.is
    (c.resolve_term.ensures.tree ∙ ap (λ e. resolved_term bs (term_seen e)) (sym c.term-item.is))
    (c.resolve_term.ensures.least ∙ ap (λ e. least_of c.loop-term.least (term_breaches bs (term_seen e))) (sym c.term-item.is))

pub resolve_terms-returns-clause-tree : goal.resolve_terms-returns-clause-tree
resolve_terms-returns-clause-tree t c =
    let bs = visible c.args.names.now in
    let v = c.deref_mut-term-items.ensures.value in
    ap (λ l. map term_seen l) (written c.args.terms.now.items c.loop-term.term-items c.args.terms.now.len (c.loop-term.auto.term-items ∙ ap (λ l. length l) v) (sym (ap (λ l. length l) v) ∙ c.deref_mut-term-items.ensures.len))
    ∙ (finish term_seen (term_step bs) (term_made bs) c.deref_mut-term-items.result.now c.loop-term.term-items c.loop-term.term-index c.args.least.now c.loop-term.least
    (omega (arith, c.loop-term-test.false, c.loop-term.auto.term-items)) c.loop-term.invariant.0 c.loop-term.invariant.1).0
    ∙ terms_made bs _ _
    ∙ ap (λ l. map (resolved_term bs) (map term_seen l)) v

pub resolve_terms-returns-clause-least : goal.resolve_terms-returns-clause-least
resolve_terms-returns-clause-least t c =
    let bs = visible c.args.names.now in
    (finish term_seen (term_step bs) (term_made bs) c.deref_mut-term-items.result.now c.loop-term.term-items c.loop-term.term-index c.args.least.now c.loop-term.least
    (omega (arith, c.loop-term-test.false, c.loop-term.auto.term-items)) c.loop-term.invariant.0 c.loop-term.invariant.1).1
    ∙ terms_run bs c.args.least.now (map term_seen c.deref_mut-term-items.result.now)
    ∙ ap (λ l. least_of c.args.least.now (list_breaches bs (map term_seen l))) c.deref_mut-term-items.ensures.value

pub resolve_form-returns-in-Access-clause-tree : goal.resolve_form-returns-in-Access-clause-tree
resolve_form-returns-in-Access-clause-tree t c =
    let bs = visible c.args.names.now in
    access_done bs _ _ _ _ _ c.in-Access.is
    (c.resolve_use-in-Access.ensures.tree ∙ ap (λ r. used bs r) c.in-Access.of-is)
    (c.resolve_terms.ensures.tree ∙ ap (λ v. map (resolved_term bs) (map term_seen v.items)) c.in-Access.indices-is)

pub resolve_form-returns-in-Access-clause-least : goal.resolve_form-returns-in-Access-clause-least
resolve_form-returns-in-Access-clause-least t c =
    let bs = visible c.args.names.now in
    access_least bs _ _ _ _ _ _ c.in-Access.is
    (c.resolve_use-in-Access.ensures.least ∙ ap (λ r. least_of c.args.least.now (unknown bs r)) c.in-Access.of-is)
    (c.resolve_terms.ensures.least ∙ ap (λ v. least_of c.resolve_use-in-Access.new.least (list_breaches bs (map term_seen v.items))) c.in-Access.indices-is)

pub resolve_form-returns-in-Physical-clause-tree : goal.resolve_form-returns-in-Physical-clause-tree
resolve_form-returns-in-Physical-clause-tree t c =
    let bs = visible c.args.names.now in
    let held = holds enum 4 (c.in-Physical.of, (c.in-Physical.bank, (c.in-Physical.bank_place, (c.in-Physical.row, tt)))) _ c.in-Physical.is in
    rw held
    (physical_done bs _ _ _ _ _ _ _ c.in-Physical.is
    (c.resolve_use-in-Physical.ensures.tree ∙ ap (λ r. used bs r) c.in-Physical.of-is)
    (c.resolve_term.ensures.tree ∙ ap (λ e. resolved_term bs (term_seen e)) (c.deref_mut.ensures.value ∙ ap (λ b. b.value) c.in-Physical.row-is)))

pub resolve_form-returns-in-Binary-clause-tree : goal.resolve_form-returns-in-Binary-clause-tree
resolve_form-returns-in-Binary-clause-tree t c =
    let bs = visible c.args.names.now in
    let held = holds enum 5 (c.in-Binary.op, (c.in-Binary.left, (c.in-Binary.right, tt))) _ c.in-Binary.is in
    rw held
    (binary_done bs _ _ _ _ _ _ c.in-Binary.is
    (c.resolve_term-in-Binary.ensures.tree ∙ ap (λ e. resolved_term bs (term_seen e)) (c.deref_mut-in-Binary.ensures.value ∙ ap (λ b. b.value) c.in-Binary.left-is))
    (c.resolve_term-in-Binary-2.ensures.tree ∙ ap (λ e. resolved_term bs (term_seen e)) (c.deref_mut-in-Binary-2.ensures.value ∙ ap (λ b. b.value) c.in-Binary.right-is)))

pub resolve_form-returns-in-Cast-clause-tree : goal.resolve_form-returns-in-Cast-clause-tree
resolve_form-returns-in-Cast-clause-tree t c =
    let bs = visible c.args.names.now in
    let whole = holds_some enum 6 (c.in-Cast.inner, (c.in-Cast.to, tt)) _ c.in-Cast.is in
    let held = holds enum 6 (c.in-Cast.inner, (c.in-Cast.to, tt)) _ c.in-Cast.is in
    rw (whole, held)
    (cast_done bs _ _ _ _ c.in-Cast.is
    (c.resolve_term-in-Cast.ensures.tree ∙ ap (λ e. resolved_term bs (term_seen e)) (c.deref_mut-in-Cast.ensures.value ∙ ap (λ b. b.value) c.in-Cast.inner-is)))

use Rattle.std.proofs.Common.{ap, sym, ◌∙◌, map, refl}
use Rattle.std.proofs.lemmas.Result.{IfOk-weaker}
use Rattle.dh_tree.specs.PlainTrees.{accessed, applied, converted, in_bank}
use Rattle.dh_tree.specs.Seen.{form_seen, term_seen, terms}
use Rattle.dh_tree.proofs.SeenTerms.{access_is, binary_is, cast_is, number_is, physical_is, truth_is, variable_is}
use Rattle.dh_lengths.proofs.TermLevels.{access_level, bank_level, binary_level, cast_level, number_level, terms_begin, terms_end, terms_turn, truth_level, variable_level}
use Rattle.dh_lengths.proofs.Zeros.{drop_past}
use Rattle.dh_lengths.proofs.terms.+leveling.Goals as goal

pub level_term-returns-in-Number : goal.level_term-returns-in-Number
level_term-returns-in-Number t c = number_level c.args.held.now c.args.outer c.args.value.now 0 c.in-Number.negative c.in-Number.value refl (ap form_seen c.in-Number.is ∙ number_is c.in-Number.negative c.in-Number.value)

pub level_term-returns-in-Truth : goal.level_term-returns-in-Truth
level_term-returns-in-Truth t c = truth_level c.args.held.now c.args.outer c.args.value.now 0 c.in-Truth.value refl (ap form_seen c.in-Truth.is ∙ truth_is c.in-Truth.value)

pub level_term-returns-in-Variable : goal.level_term-returns-in-Variable
level_term-returns-in-Variable t c = variable_level c.args.held.now c.args.outer c.args.value.now c.level_of.result c.in-Variable.of c.level_of.ensures (ap form_seen c.in-Variable.is ∙ variable_is c.in-Variable.of)

pub level_term-returns-in_ok-level-in-Access : goal.level_term-returns-in_ok-level-in-Access
level_term-returns-in_ok-level-in-Access t c =
    IfOk-weaker c.read.result _ _ (λ level reads.
    access_level c.args.held.now c.level_terms.new.held c.read.new.self c.args.outer c.in_ok-level-in-Access.level c.level_through-through.result level c.args.value.now c.in-Access.of c.as_slice.result.now
    (ap form_seen c.in-Access.is ∙ (access_is c.in-Access.of c.in-Access.indices ∙ ap (λ l. accessed c.in-Access.of (terms (map term_seen l))) (sym c.as_slice.ensures.value))) c.in_ok-level-in-Access.ensures c.level_through-through.ensures reads) c.read.ensures

pub level_term-returns-in_ok-level-in-Physical : goal.level_term-returns-in_ok-level-in-Physical
level_term-returns-in_ok-level-in-Physical t c =
    IfOk-weaker c.read-in-Physical.result _ _ (λ level reads.
    bank_level c.args.held.now c.level_term.new.held c.read-in-Physical.new.self c.args.outer c.in_ok-level-in-Physical.level level c.args.value.now c.in-Physical.of c.in-Physical.bank c.in-Physical.bank_place c.deref.result.now
    (ap form_seen c.in-Physical.is ∙ (physical_is c.in-Physical.of c.in-Physical.bank c.in-Physical.bank_place c.in-Physical.row ∙ ap (λ x. in_bank c.in-Physical.of c.in-Physical.bank c.in-Physical.bank_place (term_seen x)) (sym c.deref.ensures))) c.in_ok-level-in-Physical.ensures reads) c.read-in-Physical.ensures

pub level_term-returns-in_ok-second-in-Binary : goal.level_term-returns-in_ok-second-in-Binary
level_term-returns-in_ok-second-in-Binary t c =
    binary_level c.args.held.now c.level_term-in-Binary.new.held c.level_term-in-Binary-2.new.held c.args.outer c.in_ok-first-in-Binary.first c.in_ok-second-in-Binary.second c.max.result c.args.value.now c.in-Binary.op c.deref-in-Binary.result.now c.deref-in-Binary-2.result.now
    (ap form_seen c.in-Binary.is ∙ (binary_is c.in-Binary.op c.in-Binary.left c.in-Binary.right ∙ (ap (λ x. applied c.in-Binary.op (term_seen x) (term_seen c.in-Binary.right.value)) (sym c.deref-in-Binary.ensures) ∙ ap (λ x. applied c.in-Binary.op (term_seen c.deref-in-Binary.result.now) (term_seen x)) (sym c.deref-in-Binary-2.ensures))))
    c.max.ensures c.in_ok-first-in-Binary.ensures c.in_ok-second-in-Binary.ensures

pub level_term-returns-in-Cast : goal.level_term-returns-in-Cast
level_term-returns-in-Cast t c =
    IfOk-weaker c.level_term-in-Cast.result _ _ (λ level h.
    cast_level c.args.held.now c.level_term-in-Cast.new.held c.args.outer level c.args.value.now c.deref-in-Cast.result.now c.in-Cast.to
    (ap form_seen c.in-Cast.is ∙ (cast_is c.in-Cast.inner c.in-Cast.to ∙ ap (λ x. converted (term_seen x) c.in-Cast.to) (sym c.deref-in-Cast.ensures))) h) c.level_term-in-Cast.ensures

pub level_terms-loop-index-init : goal.level_terms-loop-index-init
level_terms-loop-index-init t c = λ known u s low. terms_begin known c.args.held.now c.args.outer c.args.indices.now u s low

pub level_terms-loop-index-preserved : goal.level_terms-loop-index-preserved
level_terms-loop-index-preserved t c = λ known u s low.
    terms_turn known c.args.held.now c.loop-index.held c.level_term.new.held c.args.outer c.loop-index.most c.in_ok-level_term.field-0 c.max-most.result c.args.indices.now c.loop-index.index-index c.index-item.result
    c.loop-index-test.true c.index-item.is c.max-most.ensures c.in_ok-level_term.ensures (c.loop-index.invariant known u s low)

pub level_terms-returns : goal.level_terms-returns
level_terms-returns t c = λ known u s low.
    terms_end known c.args.held.now c.loop-index.held c.args.outer c.loop-index.most _ c.args.indices.now (drop_past c.args.indices.now c.loop-index.index-index c.loop-index-test.false) (c.loop-index.invariant known u s low)

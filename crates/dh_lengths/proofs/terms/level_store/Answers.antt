use Rattle.std.proofs.Common.{ap, sym, ◌∙◌, map, refl}
use Rattle.std.proofs.lemmas.Result.{on_ok_weaker}
use Rattle.dh_tree.specs.PlainTrees.{accessed, in_bank}
use Rattle.dh_tree.specs.Seen.{form_seen, term_seen, terms}
use Rattle.dh_tree.proofs.SeenTerms.{access_is, binary_is, cast_is, number_is, physical_is, truth_is, variable_is}
use Rattle.dh_lengths.proofs.TermLevels.{keeps_none, store_access, store_bank, store_none}
use Rattle.dh_lengths.proofs.terms.level_store.Goals as goal

pub returns-in_ok-level_terms-in-Access : goal.returns-in_ok-level_terms-in-Access
returns-in_ok-level_terms-in-Access c = on_ok_weaker c.skip.result (λ adds.
    store_access c.args.held.now c.level_term.new.held c.level_terms.new.held _ c.args.outer c.in_ok-level_term-in-Access.field-0 c.in_ok-level_terms-in-Access.field-0 c.args.target.now c.args.value.now c.in-Access.of c.as_slice.result.now
    (ap form_seen c.in-Access.is ∙ (access_is c.in-Access.of c.in-Access.indices ∙ ap (λ l. accessed c.in-Access.of (terms (map term_seen l))) (sym c.as_slice.ensures.value))) c.in_ok-level_term-in-Access.ensures c.in_ok-level_terms-in-Access.ensures
    (record { reads = adds; most = refl; keeps = record { shares = refl; first = refl; variables = refl; log = refl } })) c.skip.ensures

pub returns-in_ok-level_term-in-Physical-2 : goal.returns-in_ok-level_term-in-Physical-2
returns-in_ok-level_term-in-Physical-2 c = on_ok_weaker c.skip-in-Physical.result (λ adds.
    store_bank c.args.held.now c.level_term-in-Physical.new.held c.level_term-in-Physical-2.new.held _ c.args.outer c.in_ok-level_term-in-Physical.field-0 c.in_ok-level_term-in-Physical-2.field-0 c.args.target.now c.args.value.now c.in-Physical.of c.in-Physical.bank c.in-Physical.bank_place c.deref.result.now
    (ap form_seen c.in-Physical.is ∙ (physical_is c.in-Physical.of c.in-Physical.bank c.in-Physical.bank_place c.in-Physical.row ∙ ap (λ x. in_bank c.in-Physical.of c.in-Physical.bank c.in-Physical.bank_place (term_seen x)) (sym c.deref.ensures))) c.in_ok-level_term-in-Physical.ensures c.in_ok-level_term-in-Physical-2.ensures
    (record { reads = adds; most = refl; keeps = record { shares = refl; first = refl; variables = refl; log = refl } })) c.skip-in-Physical.ensures

pub returns-in-Number : goal.returns-in-Number
returns-in-Number c = on_ok_weaker c.skip_store.result (λ skips. store_none c.args.held.now c.skip_store.new.held c.args.outer c.args.target.now c.args.value.now _ (ap form_seen c.in-Number.is ∙ number_is c.in-Number.negative c.in-Number.value) tt skips) c.skip_store.ensures

pub returns-in-Truth : goal.returns-in-Truth
returns-in-Truth c = on_ok_weaker c.skip_store-in-Truth.result (λ skips. store_none c.args.held.now c.skip_store-in-Truth.new.held c.args.outer c.args.target.now c.args.value.now _ (ap form_seen c.in-Truth.is ∙ truth_is c.in-Truth.value) tt skips) c.skip_store-in-Truth.ensures

pub returns-in-Variable : goal.returns-in-Variable
returns-in-Variable c = on_ok_weaker c.skip_store-in-Variable.result (λ skips. store_none c.args.held.now c.skip_store-in-Variable.new.held c.args.outer c.args.target.now c.args.value.now _ (ap form_seen c.in-Variable.is ∙ variable_is c.in-Variable.of) tt skips) c.skip_store-in-Variable.ensures

pub returns-in-Binary : goal.returns-in-Binary
returns-in-Binary c = on_ok_weaker c.skip_store-in-Binary.result (λ skips. store_none c.args.held.now c.skip_store-in-Binary.new.held c.args.outer c.args.target.now c.args.value.now _ (ap form_seen c.in-Binary.is ∙ binary_is c.in-Binary.op c.in-Binary.left c.in-Binary.right) tt skips) c.skip_store-in-Binary.ensures

pub returns-in-Cast : goal.returns-in-Cast
returns-in-Cast c = on_ok_weaker c.skip_store-in-Cast.result (λ skips. store_none c.args.held.now c.skip_store-in-Cast.new.held c.args.outer c.args.target.now c.args.value.now _ (ap form_seen c.in-Cast.is ∙ cast_is c.in-Cast.inner c.in-Cast.to) tt skips) c.skip_store-in-Cast.ensures

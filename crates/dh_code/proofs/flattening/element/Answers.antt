use Rattle.std.proofs.Common.{ap, sym, refl, ◌∙◌, subst, map, None, Some}
use Rattle.dh_tree.specs.PlainTrees.{TermForm, term, accessed}
use Rattle.dh_tree.specs.Seen.{form_seen, term_seen, terms}
use Rattle.dh_tree.proofs.SeenTerms.{access_is, binary_is, cast_is, number_is, truth_is, variable_is}
use Rattle.dh_code.specs.declared.codes.Target.{Target}
use Rattle.dh_code.specs.Flattening.{IsAimed, aimed_at, known_by_names}
use Rattle.dh_code.proofs.CommandsFlattened.{aimed_by_indices, aimed_by_row}
use Rattle.dh_code.proofs.FlattenedForms.{bank_form}
use Rattle.dh_code.proofs.flattening.element.Goals as goal

pub returns-in_ok-aimed-in-Access : goal.returns-in_ok-aimed-in-Access
returns-in_ok-aimed-in-Access c = λ n.
    aimed_by_indices c.args.names.now c.args.code.now c.flatten_all.new.code n (term_seen c.args.target.now) c.args.target.now.place c.args.target.now.kind c.in-Access.of (map term_seen c.as_slice.result.now) c.memory_of.result c.in_ok-operands-in-Access.operands c.in_ok-aimed-in-Access.aimed
    (ap (λ (f : TermForm). term c.args.target.now.place c.args.target.now.kind f) (ap form_seen c.in-Access.is ∙ (access_is c.in-Access.of c.in-Access.indices ∙ ap (λ l. accessed c.in-Access.of (terms (map term_seen l))) (sym c.as_slice.ensures.value))))
    c.memory_of.ensures c.in_ok-operands-in-Access.ensures c.in_ok-aimed-in-Access.ensures

pub returns-in_ok-aimed-in-Physical : goal.returns-in_ok-aimed-in-Physical
returns-in_ok-aimed-in-Physical c = λ n.
    subst (λ (x : Target). IsAimed c.args.names.now c.args.code.now c.flatten.new.code (aimed_at (known_by_names c.args.names.now) n (term_seen c.args.target.now)) (Some (record { place = c.args.target.now.place; memory = c.memory_of-in-Physical.result; target = x })))
    (sym c.in_ok-aimed-in-Physical.ensures)
    (aimed_by_row c.args.names.now c.args.code.now c.flatten.new.code n (term_seen c.args.target.now) c.args.target.now.place c.args.target.now.kind c.in-Physical.of c.in-Physical.bank c.in-Physical.bank_place (term_seen c.deref.result.now) c.memory_of-in-Physical.result c.in_ok-row-in-Physical.row
    (ap (λ (f : TermForm). term c.args.target.now.place c.args.target.now.kind f) (bank_form c.args.target.now.form c.in-Physical.of c.in-Physical.bank c.in-Physical.bank_place c.in-Physical.row c.in-Physical.is c.deref.result.now c.deref.ensures))
    c.memory_of-in-Physical.ensures c.in_ok-row-in-Physical.ensures)

pub returns-in-Number : goal.returns-in-Number
returns-in-Number c = λ n. subst (λ (f : TermForm). IsAimed c.args.names.now c.args.code.now c.args.code.now (aimed_at (known_by_names c.args.names.now) n (term c.args.target.now.place c.args.target.now.kind f)) None) (sym (ap form_seen c.in-Number.is ∙ number_is _ _)) refl

pub returns-in-Truth : goal.returns-in-Truth
returns-in-Truth c = λ n. subst (λ (f : TermForm). IsAimed c.args.names.now c.args.code.now c.args.code.now (aimed_at (known_by_names c.args.names.now) n (term c.args.target.now.place c.args.target.now.kind f)) None) (sym (ap form_seen c.in-Truth.is ∙ truth_is _)) refl

pub returns-in-Variable : goal.returns-in-Variable
returns-in-Variable c = λ n. subst (λ (f : TermForm). IsAimed c.args.names.now c.args.code.now c.args.code.now (aimed_at (known_by_names c.args.names.now) n (term c.args.target.now.place c.args.target.now.kind f)) None) (sym (ap form_seen c.in-Variable.is ∙ variable_is _)) refl

pub returns-in-Binary : goal.returns-in-Binary
returns-in-Binary c = λ n. subst (λ (f : TermForm). IsAimed c.args.names.now c.args.code.now c.args.code.now (aimed_at (known_by_names c.args.names.now) n (term c.args.target.now.place c.args.target.now.kind f)) None) (sym (ap form_seen c.in-Binary.is ∙ binary_is _ _ _)) refl

pub returns-in-Cast : goal.returns-in-Cast
returns-in-Cast c = λ n. subst (λ (f : TermForm). IsAimed c.args.names.now c.args.code.now c.args.code.now (aimed_at (known_by_names c.args.names.now) n (term c.args.target.now.place c.args.target.now.kind f)) None) (sym (ap form_seen c.in-Cast.is ∙ cast_is _ _)) refl

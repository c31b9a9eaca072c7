use Rattle.std.proofs.Common.{◌≤◌, ap, sym, ◌∙◌, subst, length}
use Rattle.std.specs.Prelude.{ℕ, List}
use Rattle.std.specs.List.{AllByRecursion}
use Rattle.std.proofs.lemmas.List.{length-drop}
use Rattle.dh_code.specs.declared.codes.Operand.{Operand}
use Rattle.dh_code.specs.Operated.{IsValidOperand, view_seen}
use Rattle.dh_code.specs.Passing.{steps_of}
use Rattle.dh_code.proofs.LinksPassed.{indices_few, indices_within, located_none, located_some, offsets_behind, passed_long, taken_long}
use Rattle.dh_code.proofs.Ranges.{all_dropped, all_taken}
use Rattle.dh_code.proofs.passing.locate_through.Goals as goal

pub front-indices-requires : goal.front-indices-requires
front-indices-requires c = indices_within c.args.dims.now (steps_of c.args.links.now) c.args.count (length c.args.operands.now) c.requires.fits

pub behind-offsets-requires : goal.behind-offsets-requires
behind-offsets-requires c = indices_within c.args.dims.now (steps_of c.args.links.now) c.args.count (length c.args.operands.now) c.requires.fits

pub numbers_of-named-requires-clause-operands : goal.numbers_of-named-requires-clause-operands
numbers_of-named-requires-clause-operands c = subst (λ (l : List Operand). AllByRecursion IsValidOperand l) (sym c.front-indices.ensures) (all_taken IsValidOperand c.args.operands.now c.args.count c.requires.operands)

pub numbers_of-named-requires-clause-few : goal.numbers_of-named-requires-clause-few
numbers_of-named-requires-clause-few c =
    subst (λ (n : ℕ). n ≤ 6) (sym (ap (λ (l : List Operand). length l) c.front-indices.ensures ∙ taken_long c.args.operands.now c.args.count (indices_within c.args.dims.now (steps_of c.args.links.now) c.args.count (length c.args.operands.now) c.requires.fits)))
    (indices_few c.args.dims.now (steps_of c.args.links.now) c.args.count (length c.args.operands.now) c.requires.fits c.requires.few)

pub pass-requires-clause-lead : goal.pass-requires-clause-lead
pass-requires-clause-lead c = c.requires.fits.lead

pub pass-requires-clause-named : goal.pass-requires-clause-named
pass-requires-clause-named c =
    c.numbers_of-named.ensures.long
    ∙ (ap (λ (l : List Operand). length l) c.front-indices.ensures ∙ (taken_long c.args.operands.now c.args.count (indices_within c.args.dims.now (steps_of c.args.links.now) c.args.count (length c.args.operands.now) c.requires.fits) ∙ c.requires.fits.named))

pub pass-requires-clause-offsets : goal.pass-requires-clause-offsets
pass-requires-clause-offsets c = offsets_behind c.args.dims.now (steps_of c.args.links.now) c.args.count (length c.args.operands.now) c.requires.fits _ (ap (λ (l : List Operand). length l) c.behind-offsets.ensures ∙ length-drop c.args.count c.args.operands.now)

pub pass-requires-clause-operands : goal.pass-requires-clause-operands
pass-requires-clause-operands c = subst (λ (l : List Operand). AllByRecursion IsValidOperand l) (sym c.behind-offsets.ensures) (all_dropped IsValidOperand c.args.operands.now c.args.count c.requires.operands)

pub locate_index-requires-clause-long : goal.locate_index-requires-clause-long
locate_index-requires-clause-long c =
    passed_long (view_seen c.args.view.now) c.args.dims.now c.args.links.now c.args.count c.args.operands.now c.front-indices.result.now c.behind-offsets.result.now c.numbers_of-named.result c.front-indices.ensures c.behind-offsets.ensures c.numbers_of-named.ensures.values
    c.in-Some.index c.pass.result c.in-Some.is c.pass.ensures

pub returns-in-Some-clause-spreads : goal.returns-in-Some-clause-spreads
returns-in-Some-clause-spreads c =
    located_some (view_seen c.args.view.now) c.args.dims.now c.args.links.now c.args.count c.args.operands.now c.front-indices.result.now c.behind-offsets.result.now c.numbers_of-named.result c.front-indices.ensures c.behind-offsets.ensures c.numbers_of-named.ensures.values
    c.in-Some.index c.pass.result c.locate_index.result c.in-Some.is c.pass.ensures c.locate_index.ensures.spreads

pub returns-in-None-clause-spreads : goal.returns-in-None-clause-spreads
returns-in-None-clause-spreads c =
    located_none (view_seen c.args.view.now) c.args.dims.now c.args.links.now c.args.count c.args.operands.now c.front-indices.result.now c.behind-offsets.result.now c.numbers_of-named.result c.front-indices.ensures c.behind-offsets.ensures c.numbers_of-named.ensures.values
    c.pass.result c.in-None.is c.pass.ensures

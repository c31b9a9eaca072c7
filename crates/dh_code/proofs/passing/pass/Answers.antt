use Rattle.std.proofs.Common.{◌≤◌, ap, sym, ◌∙◌, subst, length, add-one}
use Rattle.std.specs.Prelude.{ℕ, option_map, List}
use Rattle.std.specs.List.{AllByRecursion}
use Rattle.dh_viewing.specs.Numbers.{numbers_in}
use Rattle.dh_code.specs.declared.codes.Operand.{Operand}
use Rattle.dh_code.specs.Operated.{IsValidOperand, view_seen}
use Rattle.dh_code.proofs.LinksPassed.{enough, index_long, link_is, links_end, links_first, links_stop, links_turn, parent_few, taken_long}
use Rattle.dh_code.proofs.Ranges.{all_taken}
use Rattle.dh_code.proofs.passing.pass.Goals as goal

pub loop-link-init : goal.loop-link-init
loop-link-init c = links_first (view_seen c.args.view.now) c.args._dims.now c.args.links.now c.args.offsets.now c.args.named c.requires.lead c.requires.named c.requires.offsets c.requires.operands

pub front-own-requires : goal.front-own-requires
front-own-requires c = enough (view_seen c.args.view.now) c.args._dims.now c.args.links.now (numbers_in c.args.named) c.args.offsets.now c.loop-link.rest.now c.loop-link.link-index c.loop-link.index c.link-item.result c.loop-link-test.true c.link-item.is c.loop-link.invariant
    c.offsets_taken-count.result c.offsets_taken-count.ensures

pub offset_of-offset-requires-clause-map : goal.offset_of-offset-requires-clause-map
offset_of-offset-requires-clause-map c = link_is (view_seen c.args.view.now) c.args._dims.now c.args.links.now (numbers_in c.args.named) c.args.offsets.now c.loop-link.rest.now c.loop-link.link-index c.loop-link.index c.link-item.result c.loop-link-test.true c.link-item.is c.loop-link.invariant

pub offset_of-offset-requires-clause-operands : goal.offset_of-offset-requires-clause-operands
offset_of-offset-requires-clause-operands c =
    subst (λ (l : List Operand). AllByRecursion IsValidOperand l) (sym c.front-own.ensures) (all_taken IsValidOperand c.loop-link.rest.now c.offsets_taken-count.result c.loop-link.invariant.operands)

pub offset_of-offset-requires-clause-own : goal.offset_of-offset-requires-clause-own
offset_of-offset-requires-clause-own c =
    ap (λ (l : List Operand). length l) c.front-own.ensures
    ∙ (taken_long c.loop-link.rest.now c.offsets_taken-count.result
    (enough (view_seen c.args.view.now) c.args._dims.now c.args.links.now (numbers_in c.args.named) c.args.offsets.now c.loop-link.rest.now c.loop-link.link-index c.loop-link.index c.link-item.result c.loop-link-test.true c.link-item.is c.loop-link.invariant
    c.offsets_taken-count.result c.offsets_taken-count.ensures) ∙ c.offsets_taken-count.ensures)

pub through-requires-clause-map : goal.through-requires-clause-map
through-requires-clause-map c = link_is (view_seen c.args.view.now) c.args._dims.now c.args.links.now (numbers_in c.args.named) c.args.offsets.now c.loop-link.rest.now c.loop-link.link-index c.loop-link.index c.link-item.result c.loop-link-test.true c.link-item.is c.loop-link.invariant

pub through-requires-clause-indices : goal.through-requires-clause-indices
through-requires-clause-indices c = index_long (view_seen c.args.view.now) c.args._dims.now c.args.links.now (numbers_in c.args.named) c.args.offsets.now c.loop-link.rest.now c.loop-link.link-index c.loop-link.index c.link-item.result c.loop-link-test.true c.link-item.is c.loop-link.invariant

pub returns-in_default : goal.returns-in_default
returns-in_default c =
    links_stop (view_seen c.args.view.now) c.args._dims.now c.args.links.now (numbers_in c.args.named) c.args.offsets.now c.loop-link.rest.now c.loop-link.link-index c.loop-link.index c.link-item.result c.loop-link-test.true c.link-item.is c.loop-link.invariant
    c.offsets_taken-count.result c.front-own.result.now c.offset_of-offset.result c.offsets_taken-count.ensures c.front-own.ensures c.offset_of-offset.ensures.through
    (sym (ap (option_map numbers_in) c.in_default.is) ∙ c.through.ensures)

pub trimmed-index-requires : goal.trimmed-index-requires
trimmed-index-requires c = subst (λ (n : ℕ). n ≤ 6) (sym c.len-most.ensures) (parent_few (view_seen c.args.view.now) c.args._dims.now c.args.links.now (numbers_in c.args.named) c.args.offsets.now c.loop-link.rest.now c.loop-link.link-index c.loop-link.index c.link-item.result c.loop-link-test.true c.link-item.is c.loop-link.invariant)

pub behind-rest-requires : goal.behind-rest-requires
behind-rest-requires c = enough (view_seen c.args.view.now) c.args._dims.now c.args.links.now (numbers_in c.args.named) c.args.offsets.now c.loop-link.rest.now c.loop-link.link-index c.loop-link.index c.link-item.result c.loop-link-test.true c.link-item.is c.loop-link.invariant
    c.offsets_taken-count.result c.offsets_taken-count.ensures

pub loop-link-preserved : goal.loop-link-preserved
loop-link-preserved c = rw (add-one c.loop-link.link-index)
    (links_turn (view_seen c.args.view.now) c.args._dims.now c.args.links.now (numbers_in c.args.named) c.args.offsets.now c.loop-link.rest.now c.loop-link.link-index c.loop-link.index c.link-item.result c.loop-link-test.true c.link-item.is c.loop-link.invariant
    c.offsets_taken-count.result c.front-own.result.now c.offset_of-offset.result c.offsets_taken-count.ensures c.front-own.ensures c.offset_of-offset.ensures.through
    c.in-Some.next c.trimmed-index.result c.behind-rest.result.now c.behind-rest.ensures (sym (ap (option_map numbers_in) c.in-Some.is) ∙ c.through.ensures) (λ e. c.trimmed-index.ensures.numbers (e ∙ sym c.len-most.ensures)) (c.trimmed-index.ensures.long ∙ c.len-most.ensures))

pub returns : goal.returns
returns c = links_end (view_seen c.args.view.now) c.args._dims.now c.args.links.now (numbers_in c.args.named) c.args.offsets.now c.loop-link.rest.now c.loop-link.link-index c.loop-link.index c.loop-link-test.false c.loop-link.invariant

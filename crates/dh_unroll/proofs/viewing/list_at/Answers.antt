use Rattle.std.proofs.Common.{List, sym, subst}
use Rattle.dh_expressions.specs.declared.scenes.Through.{Through}
use Rattle.dh_unroll.specs.ViewsListed.{HasSets, MakesSets}
use Rattle.dh_unroll.proofs.ViewsListed.{has_sets, lists_more, view_map}
use Rattle.dh_unroll.proofs.viewing.list_at.Goals as goal

pub at-way-requires : goal.at-way-requires
at-way-requires c = c.requires.there

pub parent_at-parent-requires : goal.parent_at-parent-requires
parent_at-parent-requires c = c.requires.there

pub sets_of-requires-clause-map : goal.sets_of-requires-clause-map
sets_of-requires-clause-map c = view_map c.args.ways.now c.args.place c.at-way.result c.requires.there c.at-way.ensures c.requires.leads c.view-named.result.now c.view-named.ensures

pub sets_of-requires-clause-parent : goal.sets_of-requires-clause-parent
sets_of-requires-clause-parent c =
    subst (λ (ts : List Through). HasSets c.view-named.result.now ts c.parent_at-parent.result) (sym c.as_slice.ensures.value)
    (has_sets c.args.ways.now c.args.place c.at-way.result c.requires.there c.at-way.ensures c.requires.leads c.view-named.result.now c.view-named.ensures c.args.views.now c.args.through.now.items c.parent_at-parent.result c.parent_at-parent.ensures c.requires.lists)

pub returns : goal.returns
returns c =
    lists_more c.args.ways.now c.args.place c.at-way.result c.requires.there c.at-way.ensures c.requires.leads c.view-named.result.now c.view-named.ensures c.args.views.now c.args.through.now.items c.parent_at-parent.result c.parent_at-parent.ensures c.requires.lists
    c.in_ok-copy.copy c.push.new.self c.push_through.new.through.items c.parent_number-behind.result c.in_ok-banks.banks
    (subst (λ (ts : List Through). MakesSets c.view-named.result.now ts c.parent_at-parent.result c.in_ok-banks.banks) c.as_slice.ensures.value c.in_ok-banks.ensures)
    c.in_ok-copy.ensures c.in_ok-push.ensures c.parent_number-behind.ensures c.in_ok-push_through.ensures

use Rattle.std.proofs.Common.{length, arith}
use Rattle.std.proofs.lemmas.Result.{IfOk-weaker}
use Rattle.dh_ports.proofs.CarrierMade.{made_behind, made_first, parent_before, view_follows}
use Rattle.dh_ports.proofs.leading.carrier_at.Goals as goal

pub at-way-requires : goal.at-way-requires
at-way-requires c = c.requires.there

pub parent_at-requires : goal.parent_at-requires
parent_at-requires c = c.requires.there

pub bounds-each-parent : goal.bounds-each-parent
bounds-each-parent c = parent_before c.args.ways.now c.args.place c.in-Some.parent c.parent_at.result (length c.args.each.now) c.parent_at.ensures c.in-Some.is c.requires.many

pub offset_bounds-each-parent : goal.offset_bounds-each-parent
offset_bounds-each-parent c =
    let within = parent_before c.args.ways.now c.args.place c.in-Some.parent c.parent_at.result (length c.args.each.now) c.parent_at.ensures c.in-Some.is c.requires.many in
    omega arith

pub carrier_behind-requires : goal.carrier_behind-requires
carrier_behind-requires c = view_follows c.args.ways.now c.args.place c.at-way.result c.view-named.result.now c.requires.follow c.requires.there c.at-way.ensures c.view-named.ensures

pub carrier_first-requires : goal.carrier_first-requires
carrier_first-requires c = view_follows c.args.ways.now c.args.place c.at-way.result c.view-named.result.now c.requires.follow c.requires.there c.at-way.ensures c.view-named.ensures

pub returns-in-Some : goal.returns-in-Some
returns-in-Some c =
    let within = parent_before c.args.ways.now c.args.place c.in-Some.parent c.parent_at.result (length c.args.each.now) c.parent_at.ensures c.in-Some.is c.requires.many in
    IfOk-weaker c.carrier_behind.result _ _ (λ carrier on. made_behind c.args.ways.now c.args.place c.in-Some.parent c.at-way.result c.view-named.result.now c.parent_at.result c.args.each.now c.index-each-parent.result carrier c.requires.made c.at-way.ensures c.view-named.ensures
    c.parent_at.ensures c.in-Some.is c.requires.there within c.index-each-parent.is on) c.carrier_behind.ensures

pub returns-in-None : goal.returns-in-None
returns-in-None c =
    IfOk-weaker c.carrier_first.result _ _ (λ carrier on. made_first c.args.ways.now c.args.place c.at-way.result c.view-named.result.now c.parent_at.result carrier c.at-way.ensures c.view-named.ensures c.parent_at.ensures c.in-None.is on) c.carrier_first.ensures

use Rattle.std.proofs.Common.{false, refl, ap, sym, ◌∙◌, arith}
use Rattle.dh_tree.specs.Memories.{memories_of, number_in}
use Rattle.dh_tree.specs.Seen.{program_seen}
use Rattle.dh_meaning.specs.Ways.{way_to}
use Rattle.dh_ports.specs.Claims.{source_of}
use Rattle.dh_ports.proofs.ThroughClaims.{each_within, led_within, unfound, view_carrier, view_leads, view_named}
use Rattle.dh_size.specs.Sizes.{banks_led}
use Rattle.dh_size.proofs.ChargedBanks.{none_met}
use Rattle.dh_size.proofs.banks.banks_led.Goals as goal

pub returns-in_default-clause-met : goal.returns-in_default-clause-met
returns-in_default-clause-met c =
    let p = program_seen c.args.typed.now in
    let v = c.args.views in
    let other = ap (number_in (memories_of p)) c.entity_of-entity.ensures ∙ c.requires.other in
    let unled = unfound p v.ways.now v.carriers.now c.requires.views.ways c.requires.views.carriers c.requires.views.leads c.entity_of-entity.result other c.place_of.result c.place_of.ensures.finds c.in_default.is in
    sym (none_met p (source_of c.args.loops.now false c.args.access.now) c.requires.other (ap (way_to p) (sym c.entity_of-entity.ensures) ∙ unled))

pub at-way-requires : goal.at-way-requires
at-way-requires c =
    let p = program_seen c.args.typed.now in
    let v = c.args.views in
    let other = ap (number_in (memories_of p)) c.entity_of-entity.ensures ∙ c.requires.other in
    led_within p v.ways.now v.carriers.now c.requires.views.ways c.requires.views.carriers c.requires.views.leads c.entity_of-entity.result other c.place_of.result c.place_of.ensures.finds c.in-Some.place c.in-Some.is

pub offset_bounds-each-place : goal.offset_bounds-each-place
offset_bounds-each-place c =
    let p = program_seen c.args.typed.now in
    let v = c.args.views in
    let other = ap (number_in (memories_of p)) c.entity_of-entity.ensures ∙ c.requires.other in
    let within = each_within p v.ways.now v.carriers.now c.requires.views.ways c.requires.views.carriers c.requires.views.leads c.entity_of-entity.result other c.place_of.result c.place_of.ensures.finds c.in-Some.place c.in-Some.is v.carriers.now refl in
    omega arith

pub bounds-each-place : goal.bounds-each-place
bounds-each-place c =
    let p = program_seen c.args.typed.now in
    let v = c.args.views in
    let other = ap (number_in (memories_of p)) c.entity_of-entity.ensures ∙ c.requires.other in
    each_within p v.ways.now v.carriers.now c.requires.views.ways c.requires.views.carriers c.requires.views.leads c.entity_of-entity.result other c.place_of.result c.place_of.ensures.finds c.in-Some.place c.in-Some.is v.carriers.now refl

pub banks_through-requires : goal.banks_through-requires
banks_through-requires c =
    let p = program_seen c.args.typed.now in
    let v = c.args.views in
    let other = ap (number_in (memories_of p)) c.entity_of-entity.ensures ∙ c.requires.other in
    record {
      table = c.requires.table;
      copies = c.requires.copies;
      leads = view_leads p v.ways.now v.carriers.now c.requires.views.ways c.requires.views.carriers c.requires.views.leads c.entity_of-entity.result other c.place_of.result c.place_of.ensures.finds c.in-Some.place c.in-Some.is c.at-way.result c.at-way.ensures;
      carrier = view_carrier p v.ways.now v.carriers.now c.requires.views.ways c.requires.views.carriers c.requires.views.leads c.entity_of-entity.result other c.place_of.result c.place_of.ensures.finds c.in-Some.place c.in-Some.is c.at-way.result c.at-way.ensures v.carriers.now c.index-each-place.result refl c.index-each-place.is;
    }

pub returns-clause-met : goal.returns-clause-met
returns-clause-met c =
    let p = program_seen c.args.typed.now in
    let v = c.args.views in
    let other = ap (number_in (memories_of p)) c.entity_of-entity.ensures ∙ c.requires.other in
    let named = ap (way_to p) (sym c.entity_of-entity.ensures) ∙ view_named p v.ways.now v.carriers.now c.requires.views.ways c.requires.views.carriers c.requires.views.leads c.entity_of-entity.result other c.place_of.result c.place_of.ensures.finds c.in-Some.place c.in-Some.is c.at-way.result c.at-way.ensures in
    c.in_ok-banks.ensures.met ∙ sym (ap (λ w. banks_led p w (source_of c.args.loops.now false c.args.access.now)) named)

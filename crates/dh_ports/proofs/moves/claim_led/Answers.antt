use Rattle.std.proofs.Common.{ap, sym, ◌∙◌, arith}
use Rattle.dh_tree.specs.Memories.{memories_of, number_in}
use Rattle.dh_tree.specs.Seen.{program_seen}
use Rattle.dh_meaning.specs.Ways.{way_to}
use Rattle.dh_events.specs.Accesses.{loops_listed}
use Rattle.dh_ports.specs.Runs.{moves_in}
use Rattle.dh_ports.proofs.ClaimTurns.{none_claimed}
use Rattle.dh_ports.proofs.MoveTurns.{nothing_added}
use Rattle.dh_ports.proofs.ThroughClaims.{each_within, led_within, unfound, view_carrier, view_leads, view_named}
use Rattle.dh_ports.proofs.moves.claim_led.Goals as goal

pub returns-in_default : goal.returns-in_default
returns-in_default c =
    let p = program_seen c.args.typed.now in
    let unled = unfound (program_seen c.args.typed.now) c.args.layout.now.ways c.args.layout.now.carriers.items c.requires.layout.ways c.requires.layout.carriers c.requires.leads c.args.entity c.requires.other c.place_of.result c.place_of.ensures.finds c.in_default.is in
    record {
      claims = nothing_added (moves_in c.args.moves.now.items) _
          (none_claimed c.args.typed.now c.args.claimant.event (loops_listed c.args.layout.now.rounds.items c.args.claimant.round) c.args.claimant.writes c.args.claimant.access.now (ap (way_to p) (sym c.requires.entity) ∙ unled)
          (number_in (memories_of p) c.args.entity) (ap (number_in (memories_of p)) c.requires.entity) c.requires.other);
      past = c.requires.past;
    }

pub at-way-requires : goal.at-way-requires
at-way-requires c = led_within (program_seen c.args.typed.now) c.args.layout.now.ways c.args.layout.now.carriers.items c.requires.layout.ways c.requires.layout.carriers c.requires.leads c.args.entity c.requires.other c.place_of.result c.place_of.ensures.finds c.in-Some.place c.in-Some.is

pub offset_bounds-each-place : goal.offset_bounds-each-place
offset_bounds-each-place c =
    let within = each_within (program_seen c.args.typed.now) c.args.layout.now.ways c.args.layout.now.carriers.items c.requires.layout.ways c.requires.layout.carriers c.requires.leads c.args.entity c.requires.other c.place_of.result c.place_of.ensures.finds c.in-Some.place c.in-Some.is c.as_slice-each.result.now c.as_slice-each.ensures.value in
    omega arith

pub bounds-each-place : goal.bounds-each-place
bounds-each-place c = each_within (program_seen c.args.typed.now) c.args.layout.now.ways c.args.layout.now.carriers.items c.requires.layout.ways c.requires.layout.carriers c.requires.leads c.args.entity c.requires.other c.place_of.result c.place_of.ensures.finds c.in-Some.place c.in-Some.is c.as_slice-each.result.now c.as_slice-each.ensures.value

pub claim_view-requires : goal.claim_view-requires
claim_view-requires c =
    let p = program_seen c.args.typed.now in
    record {
      table = c.requires.table;
      layout = c.requires.layout;
      copies = c.requires.copies;
      leads = view_leads (program_seen c.args.typed.now) c.args.layout.now.ways c.args.layout.now.carriers.items c.requires.layout.ways c.requires.layout.carriers c.requires.leads c.args.entity c.requires.other c.place_of.result c.place_of.ensures.finds c.in-Some.place c.in-Some.is c.at-way.result c.at-way.ensures;
      named = ap (way_to p) (sym c.requires.entity) ∙ view_named (program_seen c.args.typed.now) c.args.layout.now.ways c.args.layout.now.carriers.items c.requires.layout.ways c.requires.layout.carriers c.requires.leads c.args.entity c.requires.other c.place_of.result c.place_of.ensures.finds c.in-Some.place c.in-Some.is c.at-way.result c.at-way.ensures;
      carrier = view_carrier (program_seen c.args.typed.now) c.args.layout.now.ways c.args.layout.now.carriers.items c.requires.layout.ways c.requires.layout.carriers c.requires.leads c.args.entity c.requires.other c.place_of.result c.place_of.ensures.finds c.in-Some.place c.in-Some.is c.at-way.result c.at-way.ensures c.as_slice-each.result.now c.index-each-place.result c.as_slice-each.ensures.value c.index-each-place.is;
      past = c.requires.past;
    }

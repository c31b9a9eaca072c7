use Rattle.std.proofs.Common.{false, ap, ◌∙◌, arith}
use Rattle.dh_tree.specs.declared.viewing.ViewMap.{ViewMap}
use Rattle.dh_ways.specs.Seen.{way_seen}
use Rattle.dh_ports.specs.Carriers.{is_carried}
use Rattle.dh_ports.specs.Claims.{source_of}
use Rattle.dh_ports.proofs.CarrierTurns.{shaped}
use Rattle.dh_size.specs.Marks.{marked_behind}
use Rattle.dh_size.proofs.ThroughBanks.{marks_told, one_told, sources_marked, through_counted, through_few, through_most}
use Rattle.dh_size.proofs.banks.banks_through.Goals as goal

pub bank_reached-bank-requires : goal.bank_reached-bank-requires
bank_reached-bank-requires c =
    let s = shaped c.args.way.now.view.shape c.as_slice-dims.result.now (c.as_slice-dims.ensures ∙ ap (λ (v : ViewMap). v.shape.dims) c.view-named.ensures) c.requires.leads.own.own in
    let one = c.if-copies-eq1.true in
    record { dims = s.dims; few = s.few; copies = c.requires.copies; some = omega (arith, one) }

pub count_carried-count-requires : goal.count_carried-count-requires
count_carried-count-requires c = record { few = through_few c.args.typed.now (way_seen c.args.way.now) c.requires.leads c.args.carrier.now c.requires.carrier c.requires.table }

pub returns-then-copies-eq1-clause-met : goal.returns-then-copies-eq1-clause-met
returns-then-copies-eq1-clause-met c =
    let a = source_of c.args.loops.now false c.args.access.now in
    through_counted c.args.typed.now (way_seen c.args.way.now) c.requires.leads c.args.carrier.now c.requires.carrier a c.count_carried-count.result (is_carried c.args.carrier.now c.bank_reached-bank.result) c.count_carried-count.ensures
    (one_told c.args.typed.now (way_seen c.args.way.now) c.requires.leads c.args.carrier.now c.requires.carrier a c.as_slice-dims.result.now c.args.copies c.bank_reached-bank.result (c.as_slice-dims.ensures ∙ ap (λ (v : ViewMap). v.shape.dims) c.view-named.ensures) c.requires.copies c.if-copies-eq1.true c.bank_reached-bank.ensures)

pub returns-then-copies-eq1-clause-few : goal.returns-then-copies-eq1-clause-few
returns-then-copies-eq1-clause-few c =
    let a = source_of c.args.loops.now false c.args.access.now in
    through_most c.args.typed.now (way_seen c.args.way.now) c.requires.leads c.args.carrier.now c.requires.carrier a c.count_carried-count.result (is_carried c.args.carrier.now c.bank_reached-bank.result) c.count_carried-count.ensures
    (one_told c.args.typed.now (way_seen c.args.way.now) c.requires.leads c.args.carrier.now c.requires.carrier a c.as_slice-dims.result.now c.args.copies c.bank_reached-bank.result (c.as_slice-dims.ensures ∙ ap (λ (v : ViewMap). v.shape.dims) c.view-named.ensures) c.requires.copies c.if-copies-eq1.true c.bank_reached-bank.ensures)
    c.requires.table

pub reached_banks-requires : goal.reached_banks-requires
reached_banks-requires c =
    let s = shaped c.args.way.now.view.shape c.as_slice-dims.result.now (c.as_slice-dims.ensures ∙ ap (λ (v : ViewMap). v.shape.dims) c.view-named.ensures) c.requires.leads.own.own in
    record { dims = s.dims; few = s.few; copies = c.requires.copies }

pub count_behind-count-requires : goal.count_behind-count-requires
count_behind-count-requires c = record {
  few = through_few c.args.typed.now (way_seen c.args.way.now) c.requires.leads c.args.carrier.now c.requires.carrier c.requires.table;
  within = sources_marked c.args.typed.now (way_seen c.args.way.now) c.requires.leads c.args.carrier.now c.requires.carrier (source_of c.args.loops.now false c.args.access.now) c.as_slice-dims.result.now c.args.copies c.in_ok-marks.marks.items c.as_slice.result.now (c.as_slice-dims.ensures ∙ ap (λ (v : ViewMap). v.shape.dims) c.view-named.ensures) c.in_ok-marks.ensures c.as_slice.ensures.value;
}

pub returns-clause-met : goal.returns-clause-met
returns-clause-met c =
    let a = source_of c.args.loops.now false c.args.access.now in
    through_counted c.args.typed.now (way_seen c.args.way.now) c.requires.leads c.args.carrier.now c.requires.carrier a c.count_behind-count.result (marked_behind c.args.carrier.now c.as_slice.result.now) c.count_behind-count.ensures
    (marks_told c.args.typed.now (way_seen c.args.way.now) c.requires.leads c.args.carrier.now c.requires.carrier a c.as_slice-dims.result.now c.args.copies c.in_ok-marks.marks.items c.as_slice.result.now (c.as_slice-dims.ensures ∙ ap (λ (v : ViewMap). v.shape.dims) c.view-named.ensures) c.requires.copies c.in_ok-marks.ensures c.as_slice.ensures.value)

pub returns-clause-few : goal.returns-clause-few
returns-clause-few c =
    let a = source_of c.args.loops.now false c.args.access.now in
    through_most c.args.typed.now (way_seen c.args.way.now) c.requires.leads c.args.carrier.now c.requires.carrier a c.count_behind-count.result (marked_behind c.args.carrier.now c.as_slice.result.now) c.count_behind-count.ensures
    (marks_told c.args.typed.now (way_seen c.args.way.now) c.requires.leads c.args.carrier.now c.requires.carrier a c.as_slice-dims.result.now c.args.copies c.in_ok-marks.marks.items c.as_slice.result.now (c.as_slice-dims.ensures ∙ ap (λ (v : ViewMap). v.shape.dims) c.view-named.ensures) c.requires.copies c.in_ok-marks.ensures c.as_slice.ensures.value)
    c.requires.table

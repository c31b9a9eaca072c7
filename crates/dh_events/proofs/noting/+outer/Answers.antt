use Rattle.std.proofs.Common.{ap, sym, ◌∙◌}
use Rattle.std.proofs.lemmas.Result.{on_ok_weaker}
use Rattle.dh_tree.specs.Seen.{form_seen, term_seen}
use Rattle.dh_tree.proofs.SeenTerms.{physical_is}
use Rattle.dh_meets.specs.SourceEvents.{in_row}
use Rattle.dh_events.specs.Accesses.{element_in}
use Rattle.dh_events.specs.Tables.{table_at}
use Rattle.dh_events.proofs.ReadFacts.{notes_of, stays_made, read_stays}
use Rattle.dh_events.proofs.noting.+outer.Goals as goal

pub note_reads-returns-in_ok-element-in-Physical-clause-noted : goal.note_reads-returns-in_ok-element-in-Physical-clause-noted
note_reads-returns-in_ok-element-in-Physical-clause-noted t c =
    let seen = ap form_seen c.in-Physical.is ∙ physical_is c.in-Physical.of c.in-Physical.bank c.in-Physical.bank_place c.in-Physical.row in
    let is = ap element_in seen ∙ ap (λ x. in_row c.in-Physical.bank (term_seen x)) (sym c.deref.ensures) in
    let first = stays_made c.args.notes.now c.note_index.new.notes c.row.new.structures c.in_ok-row-in-Physical.ensures.noted c.in_ok-element-in-Physical.ensures.extends in
    let element = c.in_ok-element-in-Physical.ensures.known (table_at c.args.notes.now.clocks.items) (term_seen c.deref.result.now) c.in_ok-row-in-Physical.ensures.known in
    on_ok_weaker c.read-in-Physical.result
    (λ second. read_stays c.args.notes.now (notes_of c.note_index.new.notes c.row.new.structures) c.read-in-Physical.new.self (form_seen c.args.expr.now.form) _ _ _ first is element second)
    c.read-in-Physical.ensures.noted

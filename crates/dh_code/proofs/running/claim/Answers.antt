use Rattle.std.proofs.Common.{true, false, refl}
use Rattle.std.specs.Prelude.{slice_index_or}
use Rattle.dh_code.specs.Rows.{spot_seen}
use Rattle.dh_code.proofs.Entries.{write_on, write_full, few_banks, memory_word}
use Rattle.dh_code.proofs.running.claim.Goals as goal

pub stuck-requires-clause-memory : goal.stuck-requires-clause-memory
stuck-requires-clause-memory c = memory_word c.args.scene.now.entries.now c.args.element.memory c.requires.scene.entries c.requires.scene.few c.requires.there.0

pub stuck-requires-clause-bank : goal.stuck-requires-clause-bank
stuck-requires-clause-bank c = few_banks c.args.scene.now.entries.now c.args.element.memory c.args.element.bank c.requires.scene.entries c.requires.there

pub returns-then-write_row-clause-spends : goal.returns-then-write_row-clause-spends
returns-then-write_row-clause-spends c es value h =
    write_on c.args.scene.now.entries.now es c.args.scene.now.step (spot_seen c.args.element) c.args.banks.now c.index-banks-at.result c.write_row.new.bank c.requires.there c.requires.long h c.if-write_row.ensures.step
    c.bank_at-at.result (slice_index_or c.args.scene.now.entries.now c.args.element.memory c.index-scene-element.result).shape.ports c.bank_at-at.ensures.place c.index-scene-element.result refl c.args.place (Unit {0}) value true tt refl c.if-write_row.ensures.writes

pub returns-else-write_row-clause-spends : goal.returns-else-write_row-clause-spends
returns-else-write_row-clause-spends c es value h =
    write_full c.args.scene.now.entries.now es c.args.scene.now.step (spot_seen c.args.element) c.args.banks.now c.index-banks-at.result c.write_row.new.bank c.requires.there c.requires.long h c.if-write_row.ensures.step
    c.bank_at-at.result (slice_index_or c.args.scene.now.entries.now c.args.element.memory c.index-scene-element.result).shape.ports c.bank_at-at.ensures.place c.index-scene-element.result refl c.args.place (Unit {0}) value false c.stuck.result _ refl c.stuck.ensures c.if-write_row.ensures.writes

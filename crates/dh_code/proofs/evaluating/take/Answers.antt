use Rattle.std.proofs.Common.{refl}
use Rattle.std.specs.Prelude.{slice_index_or}
use Rattle.dh_code.specs.Rows.{spot_seen}
use Rattle.dh_code.proofs.Entries.{read_on, read_stuck, few_banks, memory_word}
use Rattle.dh_code.proofs.evaluating.take.Goals as goal

pub stuck-requires-clause-memory : goal.stuck-requires-clause-memory
stuck-requires-clause-memory c = memory_word c.args.scene.now.entries.now c.args.element.memory c.requires.scene.entries c.requires.scene.few c.requires.there.0

pub stuck-requires-clause-bank : goal.stuck-requires-clause-bank
stuck-requires-clause-bank c = few_banks c.args.scene.now.entries.now c.args.element.memory c.args.element.bank c.requires.scene.entries c.requires.there

pub returns-else-branch-clause-spends : goal.returns-else-branch-clause-spends
returns-else-branch-clause-spends c es h =
    read_stuck c.args.scene.now.entries.now es c.args.scene.now.step (spot_seen c.args.element) c.args.banks.now c.index-banks-at.result c.read_row.new.bank c.requires.there c.requires.long h c.in_ok-read_row.ensures.step
    c.bank_at-at.result (slice_index_or c.args.scene.now.entries.now c.args.element.memory c.index-scene-element.result).shape.ports c.bank_at-at.ensures.place c.index-scene-element.result refl c.args.place (Unit {0}) c.in_ok-read_row.field-0 c.stuck.result _ c.if-branch.false c.stuck.ensures c.in_ok-read_row.ensures.reads

pub returns-then-branch-clause-spends : goal.returns-then-branch-clause-spends
returns-then-branch-clause-spends c es h =
    read_on c.args.scene.now.entries.now es c.args.scene.now.step (spot_seen c.args.element) c.args.banks.now c.index-banks-at.result c.read_row.new.bank c.requires.there c.requires.long h c.in_ok-read_row.ensures.step
    c.bank_at-at.result (slice_index_or c.args.scene.now.entries.now c.args.element.memory c.index-scene-element.result).shape.ports c.bank_at-at.ensures.place c.index-scene-element.result refl c.args.place (Unit {0}) c.in_ok-read_row.field-0 tt c.if-branch.true c.in_ok-read_row.ensures.reads

use Rattle.std.proofs.Common.{refl, sym, ◌∙◌}
use Rattle.dh_tree.specs.Seen.{form_seen}
use Rattle.dh_expressions.specs.Standings.{standing_at}
use Rattle.dh_expressions.proofs.AccessesKept.{bare_within, touched_already, touched_first}
use Rattle.dh_expressions.proofs.accesses.touch.Goals as goal

pub returns-then-not-is_bare_at : goal.returns-then-not-is_bare_at
returns-then-not-is_bare_at c =
    touched_already c.args.scene.now c.args.around (standing_at c.args.scene.now c.args.around c.args.memory c.args.access.now.place (form_seen c.args.access.now.form) c.args.writes) c.args.draft.now c.args.accesses.now c.args.number
    (sym c.is_bare_at.ensures ∙ c.if-not-is_bare_at.true)

pub put_touched-requires : goal.put_touched-requires
put_touched-requires c = record { there = bare_within c.args.accesses.now c.args.number (sym c.is_bare_at.ensures ∙ c.if-not-is_bare_at.false) }

pub returns : goal.returns
returns c =
    touched_first c.args.scene.now c.args.around (standing_at c.args.scene.now c.args.around c.args.memory c.args.access.now.place (form_seen c.args.access.now.form) c.args.writes) c.args.draft.now c.name_fault.new.draft c.copies_of.new.draft
    c.args.accesses.now (record { touched = c.put_touched.new.list; counts = c.copies_of.new.numbers }) c.args.number c.in_ok-fault.fault c.in_ok-copies.copies.items c.copies_of.new.numbers.items
    (record { fault = c.in_ok-fault.fault; copies = c.from_vec.result; given = c.new.result })
    (sym c.is_bare_at.ensures ∙ c.if-not-is_bare_at.false) c.in_ok-fault.ensures c.in_ok-copies.ensures refl c.from_vec.ensures c.new.ensures c.put_touched.ensures refl

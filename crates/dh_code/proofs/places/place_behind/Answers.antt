use Rattle.std.proofs.Common.{◌+◌, arith, sym, ap, ◌∙◌}
use Rattle.dh_code.specs.Slots.{held_at}
use Rattle.dh_code.proofs.SlotsHeld.{held_dropped, held_past}
use Rattle.dh_code.proofs.places.place_behind.Goals as goal

pub returns-then-entity-places : goal.returns-then-entity-places
returns-then-entity-places c = c.place_at.ensures ∙ (ap (λ l. held_at l c.args.number) c.behind.ensures ∙ held_dropped c.args.places.now c.args.entity c.args.number)

pub returns-else-entity-places : goal.returns-else-entity-places
returns-else-entity-places c =
    let past = c.if-entity-places.false in
    c.slots_of.ensures ∙ sym (held_past c.args.places.now (c.args.entity + c.args.number) (omega (arith, past)))

use Rattle.std.proofs.Common.{rules, ◌≤◌, length, sym, ◌∙◌}
use Rattle.dh_code.proofs.SlotsHeld.{held_past}
use Rattle.dh_code.proofs.places.place_at.Goals as goal

pub returns-in-None : goal.returns-in-None
returns-in-None c =
    let past : length c.args.places.now ≤ c.args.entity = search rules in
    c.slots_of.ensures ∙ sym (held_past c.args.places.now c.args.entity past)

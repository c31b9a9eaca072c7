use Rattle.std.proofs.Common.{◌+◌, ap, ◌∙◌}
use Rattle.dh_events.specs.Classes.{all_keys}
use Rattle.dh_events.proofs.PhasedKeys.{numbered_phased, numbers}
use Rattle.dh_events.proofs.classes.number_in.Goals as goal

pub returns-clause-phased : goal.returns-clause-phased
returns-clause-phased c =
    let parts = c.turn_to.new.parts in
    numbered_phased parts.past.items parts.known.keys parts.newest c.args.key c.turn_to.ensures.phased c.in_ok-turn_to.ensures.turned c.insert_full.new.self.keys c.in_ok-found.ensures.keys

pub returns-clause-numbers : goal.returns-clause-numbers
returns-clause-numbers c =
    let parts = c.turn_to.new.parts in
    let before = c.args.parts.now in
    let stored = c.in_ok-found.ensures.stored in
    numbers parts.past.items parts.known.keys parts.newest c.args.key c.turn_to.ensures.phased c.in_ok-turn_to.ensures.turned c.insert_full.new.self.keys c.in_ok-found.ensures.keys (all_keys before.past.items before.known.keys)
    c.turn_to.ensures.same c.in_ok-found.found.0 (c.len-2.result + c.in_ok-found.found.0) stored.0 (ap (λ n. n + c.in_ok-found.found.0) (c.len-2.ensures ∙ parts.past.ok.0)) stored.1 stored.2

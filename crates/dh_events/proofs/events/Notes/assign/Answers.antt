use Rattle.std.proofs.Common.{rules, ◌≡◌, ◌+◌, ap, sym, ◌∙◌, length}
use Rattle.dh_events.specs.Elements.{moment_assigned_at}
use Rattle.dh_events.specs.Tables.{table_at, with_number}
use Rattle.dh_events.proofs.ReadFacts.{assigned_noted}
use Rattle.dh_events.proofs.events.Notes.assign.Goals as goal

pub returns-in_ok-set_at-clause-noted : goal.returns-in_ok-set_at-clause-noted
returns-in_ok-set_at-clause-noted c =
    let long : c.len.result ≡ length c.args.self.now.events.items + 1 = search rules in
    assigned_noted c.args.self.now c.push.new.self c.set_at.new.numbers c.args.entity c.in_ok-push.ensures.items
    (c.in_ok-set_at.ensures ∙ (ap (λ n. with_number (table_at c.args.self.now.clocks.items) c.in-Some.entity n) long
    ∙ ap (λ e. moment_assigned_at (table_at c.args.self.now.clocks.items) (length c.args.self.now.events.items + 1) e) (sym c.in-Some.is)))

pub returns-in_default-clause-noted : goal.returns-in_default-clause-noted
returns-in_default-clause-noted c =
    assigned_noted c.args.self.now c.push.new.self c.args.self.now.clocks c.args.entity c.in_ok-push.ensures.items
    (ap (λ e. moment_assigned_at (table_at c.args.self.now.clocks.items) (length c.args.self.now.events.items + 1) e) (sym c.in_default.is))

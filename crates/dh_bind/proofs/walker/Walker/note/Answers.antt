use Rattle.std.proofs.Common.{◌≡◌, sym, ap, ◌∙◌, get_or}
use Rattle.dh_ledger.specs.Spending.{Spending}
use Rattle.dh_bind.specs.Costs.{costs_in}
use Rattle.dh_bind.proofs.StandingFacts.{logged_is, logged_stands}
use Rattle.dh_bind.proofs.walker.Walker.note.Goals as goal

pub invariant_of-self-2 : goal.invariant_of-self-2
invariant_of-self-2 c =
    let e : c.mark-state.result ≡ c.index.result.now = c.mark-state.ensures.holds in
    logged_stands (record { costs = costs_in c.self.inside.wide c.self.inside.memories.items c.self.inside.counts.items; ledgers = c.self.inside.ledgers.items; log = c.self.inside.log.items; draft = c.self.inside.binder }) c.args.self.now c.self.view_is c.self.invariant c.args.memory c.mark-state.result c.push.new.self.items c.requires
    (e ∙ (c.index.ensures ∙ ap (λ (d : Spending). get_or c.self.inside.ledgers.items c.args.memory d) (sym e))) c.in_ok-push.ensures.items

pub returns : goal.returns
returns c =
    let e : c.mark-state.result ≡ c.index.result.now = c.mark-state.ensures.holds in
    logged_is (record { costs = costs_in c.self.inside.wide c.self.inside.memories.items c.self.inside.counts.items; ledgers = c.self.inside.ledgers.items; log = c.self.inside.log.items; draft = c.self.inside.binder }) c.args.self.now c.self.view_is c.args.memory c.mark-state.result c.push.new.self.items c.requires
    (e ∙ (c.index.ensures ∙ ap (λ (d : Spending). get_or c.self.inside.ledgers.items c.args.memory d) (sym e))) c.in_ok-push.ensures.items

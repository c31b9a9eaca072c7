use Rattle.dh_bind.specs.Costs.{costs_in}
use Rattle.dh_bind.proofs.StandingFacts.{charged, count_read, refused_stands}
use Rattle.dh_bind.proofs.walker.Walker.charge_bank.Goals as goal

pub invariant_of-self-in-Err : goal.invariant_of-self-in-Err
invariant_of-self-in-Err c = refused_stands (record { costs = costs_in c.self.inside.wide c.self.inside.memories.items c.self.inside.counts.items; ledgers = c.self.inside.ledgers.items; log = c.self.inside.log.items; draft = c.self.inside.binder }) c.self.invariant c.grant_in.new.ledgers.items c.in-Err.ensures.0

pub returns-in-Ok : goal.returns-in-Ok
returns-in-Ok c =
    charged (record { costs = costs_in c.self.inside.wide c.self.inside.memories.items c.self.inside.counts.items; ledgers = c.self.inside.ledgers.items; log = c.self.inside.log.items; draft = c.self.inside.binder }) c.args.self.now c.self.view_is c.self.invariant c.args.access c.args.memory c.args.bank _ c.requires.row c.requires.bank c.grant_in.new.ledgers.items c.drive.new.self c.in-Ok.token
    c.in-Ok.ensures.0 c.in-Ok.ensures.1 c.drive.ensures.granted
    (count_read (record { costs = costs_in c.self.inside.wide c.self.inside.memories.items c.self.inside.counts.items; ledgers = c.self.inside.ledgers.items; log = c.self.inside.log.items; draft = c.self.inside.binder }) c.args.self.now c.self.view_is c.self.invariant c.args.access c.args.bank c.requires.row c.requires.bank c.places.result c.places.ensures.number c.index-count.result.now c.index-count.ensures)

-- What a token drives, from what the binder's fields hold.
use Rattle.std.proofs.Common.{ℕ, ap, ◌∙◌}
use Rattle.dh_bind.specs.Drafts.{put_first}
use Rattle.dh_bind.proofs.Driven.{drives_fields, granted_fields, row_inside, row_narrow}
use Rattle.dh_bind.proofs.binder.Binder.drive.Goals as goal

pub returns-clause-drives : goal.returns-clause-drives
returns-clause-drives c =
    drives_fields c.args.self.now (record { plan = c.self.inside.plan.now; firsts = c.self.inside.firsts.items }) c.self.view_is c.self.invariant.draft c.self.inside.wide c.self.invariant.wide
    c.args.access c.args.token.memory c.args.token.bank c.args.token.first c.set_first.new.firsts.items c.requires.access
    (c.set_first.ensures ∙ ap (λ (t : ℕ × ℕ × ℕ × ℕ). put_first c.self.inside.wide c.self.inside.firsts.items c.args.access t.1 t.2) c.end-memory.ensures)

pub returns-clause-granted : goal.returns-clause-granted
returns-clause-granted c =
    granted_fields c.args.self.now (record { plan = c.self.inside.plan.now; firsts = c.self.inside.firsts.items }) c.self.view_is c.self.inside.wide c.self.invariant.wide
    c.args.access c.args.token.bank c.args.token.first c.set_first.new.firsts.items
    (c.set_first.ensures ∙ ap (λ (t : ℕ × ℕ × ℕ × ℕ). put_first c.self.inside.wide c.self.inside.firsts.items c.args.access t.1 t.2) c.end-memory.ensures)

pub set_first-requires-clause-wide : goal.set_first-requires-clause-wide
set_first-requires-clause-wide c = row_narrow (record { plan = c.self.inside.plan.now; firsts = c.self.inside.firsts.items }) c.self.invariant.draft c.self.inside.wide c.self.invariant.wide

pub set_first-requires-clause-row : goal.set_first-requires-clause-row
set_first-requires-clause-row c =
    row_inside c.args.self.now (record { plan = c.self.inside.plan.now; firsts = c.self.inside.firsts.items }) c.self.view_is c.self.invariant.draft c.self.inside.wide c.self.invariant.wide c.args.access c.requires.access

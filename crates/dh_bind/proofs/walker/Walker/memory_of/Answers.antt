use Rattle.std.proofs.Common.{sym, ap, ◌∙◌, arith, ℕ, List, Option}
use Rattle.dh_bind.specs.Costs.{costs_in, memory_of_access}
use Rattle.dh_bind.specs.Standings.{Standing}
use Rattle.dh_bind.proofs.StandingFacts.{memory_read, past_memory, memory_inside}
use Rattle.dh_bind.proofs.walker.Walker.memory_of.Goals as goal

pub returns-then-at-memories-clause-inside : goal.returns-then-at-memories-clause-inside
returns-then-at-memories-clause-inside c =
    λ memory e. memory_inside (record { costs = costs_in c.self.inside.wide c.self.inside.memories.items c.self.inside.counts.items; ledgers = c.self.inside.ledgers.items; log = c.self.inside.log.items; draft = c.self.inside.binder }) c.args.self.now c.self.view_is c.self.invariant c.args.access memory
    (memory_read c.as_slice-memories.result.now c.self.inside.memories.items c.as_slice-memories.ensures.value c.args.access (omega arith) ∙ e)

pub returns-else-at-memories-clause-memory : goal.returns-else-at-memories-clause-memory
returns-else-at-memories-clause-memory c =
    sym (ap (λ (s : Standing). memory_of_access s.costs.memories c.args.access) (sym c.self.view_is)
    ∙ (ap (λ (l : List (Option ℕ)). memory_of_access l c.args.access) (sym c.as_slice-memories.ensures.value) ∙ past_memory c.as_slice-memories.result.now c.args.access (omega arith)))

use Rattle.std.proofs.Common.{List, sym, subst, ◌∙◌}
use Rattle.dh_tree.specs.declared.tables.MemEntry.{MemEntry}
use Rattle.dh_tree.specs.Seen.{program_seen}
use Rattle.dh_sem.specs.Runs.{IsSteady, StandsAt}
use Rattle.dh_sem.specs.Starts.{run_begun}
use Rattle.dh_sem.proofs.interp.Interp.new.Goals as goal

pub invariant_of-result : goal.invariant_of-result
invariant_of-result c =
    subst (λ (t : List MemEntry). IsSteady (run_begun t c.in-Ok.begun c.outcome_at.result c.args.memories) c.in-Ok.begun.state.given.items c.in-Ok.begun.state.banks.items c.in-Ok.begun.firsts.items)
    (sym (c.as_slice-entries.ensures ∙ c.memories.ensures)) (c.in-Ok.ensures.steady c.outcome_at.result c.args.memories c.requires.fits)

pub returns-in-Ok : goal.returns-in-Ok
returns-in-Ok c =
    subst (λ (t : List MemEntry). StandsAt (program_seen c.args.program.now) c.args.memories 0 (run_begun t c.in-Ok.begun c.outcome_at.result c.args.memories))
    (sym (c.as_slice-entries.ensures ∙ c.memories.ensures)) (c.in-Ok.ensures.stands c.outcome_at.result c.args.memories c.outcome_at.ensures)

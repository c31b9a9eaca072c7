use Rattle.std.proofs.Common.{◌∙◌, List, ℕ, ap, subst, replicate}
use Rattle.dh_tree.specs.declared.tables.MemEntry.{MemEntry}
use Rattle.dh_net.specs.Clock.{IsValuation}
use Rattle.dh_sim.specs.Layouts.{IsTableLayout}
use Rattle.dh_sim.proofs.Keeping.{made_sound, starts_fit}
use Rattle.dh_sim.proofs.simulator.Sim.new.Goals as goal

pub settled_wires-requires-clause-fit : goal.settled_wires-requires-clause-fit
settled_wires-requires-clause-fit c =
    starts_fit c.args.net.now c.requires.valid c.deref.result.now c.deref-2.result.now (c.deref.ensures.value ∙ c.in_ok-registers.ensures)
    (c.deref-2.ensures.value ∙ (c.in_ok-held.ensures ∙ ap (λ n. replicate n 0) c.len.ensures))

pub invariant_of-result : goal.invariant_of-result
invariant_of-result c = (
  subst (λ (t : List MemEntry). IsTableLayout t c.in_ok-layout.layout) c.as_slice.ensures c.in_ok-layout.ensures,
  made_sound c.args.net.now c.requires.valid c.args.memories c.requires.fits _ _ _ _ c.in_ok-registers.ensures
      (c.in_ok-held.ensures ∙ ap (λ n. replicate n 0) c.len.ensures) c.into_lists-memories.ensures
      (subst (λ (rs : List ℕ). IsValuation c.args.net.now.table c.args.net.now.cells rs c.in_ok-held.held.items c.in_ok-wires.wires.items) c.deref.ensures.value
      (subst (λ (hs : List ℕ). IsValuation c.args.net.now.table c.args.net.now.cells c.deref.result.now hs c.in_ok-wires.wires.items) c.deref-2.ensures.value c.in_ok-wires.ensures)),
)

use Rattle.std.proofs.Common.{ℕ, subst, length}
use Rattle.std.specs.Prelude.{[], Option, slice_get}
use Rattle.dh_tree.specs.Seen.{form_seen}
use Rattle.dh_plan.specs.declared.operations.OperationForm.TheVariants.{Probe}
use Rattle.dh_expressions.specs.declared.copies.AccessAt.{AccessAt}
use Rattle.dh_expressions.specs.Drafted.{Pushes}
use Rattle.dh_expressions.specs.Evaluated.{lane_guard, source_at}
use Rattle.dh_expressions.specs.Noted.{given_by}
use Rattle.dh_expressions.specs.Reaching.{Finds, reach_told}
use Rattle.dh_expressions.proofs.ElementsReached.{read_made_at}
use Rattle.dh_expressions.proofs.elements.push_read.Goals as goal

pub returns-clause-means : goal.returns-clause-means
returns-clause-means c = λ target has.
    read_made_at c.args.scene.now c.args.lane.now c.args.access.now.place (form_seen c.args.access.now.form) c.args.memory c.args.aim.now target has c.args.draft.now c.touch.new.draft c.push_probe.new.draft c.find_or_read.new.draft
    c.args.accesses.now c.touch.new.accesses c.give.new.accesses c.copy_of-copy.result c.fault_of-fault.result c.in_ok-value.value _ c.made_before-found.result
    c.in_ok-touch.ensures c.copy_of-copy.ensures c.fault_of-fault.ensures c.in_ok-push_probe.ensures c.made_before-found.ensures c.in_ok-value.ensures c.in_ok-give.ensures

pub returns-clause-made : goal.returns-clause-made
returns-clause-made c = record {
  first = c.touch.new.draft;
  second = c.push_probe.new.draft;
  middle = c.touch.new.accesses;
  touches = c.in_ok-touch.ensures;
  probes = subst (λ (f : ℕ). Pushes c.touch.new.draft c.push_probe.new.draft (length c.touch.new.draft.operations.items) (lane_guard c.args.lane.now) (Probe (reach_told c.args.memory c.args.aim.now []) f)) c.fault_of-fault.ensures c.in_ok-push_probe.ensures;
  finds =
      subst (λ (a : AccessAt). Finds c.args.scene.now (form_seen c.args.access.now.form) c.push_probe.new.draft c.find_or_read.new.draft c.args.memory c.args.aim.now a (given_by c.touch.new.accesses (source_at (slice_get c.args.scene.now.shares.now c.args.aim.now.number) c.args.aim.now.number c.args.lane.now.number a.leader)) c.in_ok-value.value) c.copy_of-copy.ensures
      (subst (λ (o : Option ℕ). Finds c.args.scene.now (form_seen c.args.access.now.form) c.push_probe.new.draft c.find_or_read.new.draft c.args.memory c.args.aim.now c.copy_of-copy.result o c.in_ok-value.value) c.made_before-found.ensures c.in_ok-value.ensures);
  notes = c.in_ok-give.ensures;
}

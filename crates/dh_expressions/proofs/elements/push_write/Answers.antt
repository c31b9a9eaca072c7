use Rattle.std.proofs.Common.{ℕ, List, subst, length}
use Rattle.std.specs.Prelude.{[], Option}
use Rattle.dh_tree.specs.Seen.{form_seen}
use Rattle.dh_plan.specs.declared.operations.OperationForm.TheVariants.{Probe, Write}
use Rattle.dh_plan.specs.declared.operations.Reach.{Reach}
use Rattle.dh_expressions.specs.declared.copies.AccessAt.{AccessAt}
use Rattle.dh_expressions.specs.Drafted.{Pushes}
use Rattle.dh_expressions.specs.Evaluated.{lane_guard}
use Rattle.dh_expressions.specs.Reaching.{copy_banks, reach_told}
use Rattle.dh_expressions.proofs.ElementsReached.{write_made_at}
use Rattle.dh_expressions.proofs.elements.push_write.Goals as goal

pub returns-clause-means : goal.returns-clause-means
returns-clause-means c = λ target has.
    write_made_at c.args.scene.now c.args.lane.now c.args.access.now.place (form_seen c.args.access.now.form) c.args.memory c.args.aim.now target has c.args.draft.now c.touch.new.draft c.push_probe.new.draft c.push.new.draft
    c.args.accesses.now c.touch.new.accesses c.copy_of-copy.result c.fault_of-fault.result c.args.value _ c.in_ok-push.field-0
    c.in_ok-touch.ensures c.copy_of-copy.ensures c.fault_of-fault.ensures c.in_ok-push_probe.ensures
    (subst (λ (g : Option ℕ). Pushes c.push_probe.new.draft c.push.new.draft c.in_ok-push.field-0 g (Write (reach_told c.args.memory c.args.aim.now (copy_banks c.args.scene.now (form_seen c.args.access.now.form) c.copy_of-copy.result)) c.args.value)) c.guard_at-guard.ensures
    (subst (λ (bs : List (ℕ × ℕ)). Pushes c.push_probe.new.draft c.push.new.draft c.in_ok-push.field-0 c.guard_at-guard.result (Write (reach_told c.args.memory c.args.aim.now bs) c.args.value)) c.in_ok-banks.ensures
    (subst (λ (r : Reach). Pushes c.push_probe.new.draft c.push.new.draft c.in_ok-push.field-0 c.guard_at-guard.result (Write r c.args.value)) c.in_ok-reach.ensures c.in_ok-push.ensures)))

pub returns-clause-made : goal.returns-clause-made
returns-clause-made c = record {
  first = c.touch.new.draft;
  second = c.push_probe.new.draft;
  number = c.in_ok-push.field-0;
  touches = c.in_ok-touch.ensures;
  probes = subst (λ (f : ℕ). Pushes c.touch.new.draft c.push_probe.new.draft (length c.touch.new.draft.operations.items) (lane_guard c.args.lane.now) (Probe (reach_told c.args.memory c.args.aim.now []) f)) c.fault_of-fault.ensures c.in_ok-push_probe.ensures;
  writes =
      subst (λ (a : AccessAt). Pushes c.push_probe.new.draft c.push.new.draft c.in_ok-push.field-0 (lane_guard c.args.lane.now) (Write (reach_told c.args.memory c.args.aim.now (copy_banks c.args.scene.now (form_seen c.args.access.now.form) a)) c.args.value)) c.copy_of-copy.ensures
      (subst (λ (g : Option ℕ). Pushes c.push_probe.new.draft c.push.new.draft c.in_ok-push.field-0 g (Write (reach_told c.args.memory c.args.aim.now (copy_banks c.args.scene.now (form_seen c.args.access.now.form) c.copy_of-copy.result)) c.args.value)) c.guard_at-guard.ensures
      (subst (λ (bs : List (ℕ × ℕ)). Pushes c.push_probe.new.draft c.push.new.draft c.in_ok-push.field-0 c.guard_at-guard.result (Write (reach_told c.args.memory c.args.aim.now bs) c.args.value)) c.in_ok-banks.ensures
      (subst (λ (r : Reach). Pushes c.push_probe.new.draft c.push.new.draft c.in_ok-push.field-0 c.guard_at-guard.result (Write r c.args.value)) c.in_ok-reach.ensures c.in_ok-push.ensures)));
}

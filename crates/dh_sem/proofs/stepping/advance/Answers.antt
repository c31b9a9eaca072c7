use Rattle.std.proofs.Common.{List, length, ap, refl, sym, ◌∙◌, subst}
use Rattle.std.proofs.lemmas.List.{with_items_is}
use Rattle.dh_code.specs.declared.spending.Bank.{Bank}
use Rattle.dh_code.specs.Spent.{AreUsedBy}
use Rattle.dh_sem.proofs.StepsDone.{step_goes, step_stops, unused_by}
use Rattle.dh_sem.proofs.stepping.advance.Goals as goal

pub returns-in-Ok-clause-advances : goal.returns-in-Ok-clause-advances
returns-in-Ok-clause-advances c = step_goes c.args.scene.now c.args.course.now c.args.state.now (record { variables = c.args.state.now.variables; given = c.args.state.now.given; banks = c.args.state.now.banks; writes = c.clear.new.self; changes = c.clear-2.new.self }) c.run_next.new.state c.args.at c.args.frames.now.items c.run_next.new.frames.items c.requires.rested refl refl c.clear.ensures.items c.run_next.new.next c.in-Ok.ensures.runs

pub returns-in-Err-clause-ready : goal.returns-in-Err-clause-ready
returns-in-Err-clause-ready c = record {
  long = ap (λ l. length l) (with_items_is c.run_next.new.state.banks c.release.new.banks (c.release.ensures.long ∙ c.as_mut_slice-in-Err.ensures.len)) ∙ (c.release.ensures.long ∙ (ap (λ l. length l) c.as_mut_slice-in-Err.ensures.value ∙ c.in-Err.ensures.ready.long));
  room = c.in-Err.ensures.ready.room;
  used = subst (λ (l : List Bank). AreUsedBy c.args.scene.now.step l) (sym (with_items_is c.run_next.new.state.banks c.release.new.banks (c.release.ensures.long ∙ c.as_mut_slice-in-Err.ensures.len)))
      (unused_by c.args.scene.now.step c.release.new.banks c.release.ensures.unspent);
  small = c.in-Err.ensures.ready.small;
}

pub returns-in-Err-clause-advances : goal.returns-in-Err-clause-advances
returns-in-Err-clause-advances c = step_stops c.args.scene.now c.args.course.now c.args.state.now (record { variables = c.args.state.now.variables; given = c.args.state.now.given; banks = c.args.state.now.banks; writes = c.clear.new.self; changes = c.clear-2.new.self }) c.run_next.new.state c.args.at c.args.frames.now.items c.run_next.new.frames.items c.requires.rested refl refl c.clear.ensures.items c.in-Err.stop _ _ c.in-Err.ensures.runs

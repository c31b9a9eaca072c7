use Rattle.std.proofs.Common.{length, sym}
use Rattle.std.proofs.lemmas.Bool.{ltb-true}
use Rattle.dh_code.specs.Rows.{contents_of}
use Rattle.dh_code.proofs.ListsRun.{found_step, run_first}
use Rattle.dh_code.proofs.OnePath.{assigned_turn}
use Rattle.dh_code.proofs.straight.assign_on.Goals as goal

pub loop-list-init : goal.loop-list-init
loop-list-init c = run_first c.args.scene.now c.args.state.now (contents_of c.args.rows.now) c.args.paths.now c.args.list c.requires.ready

pub loop-list-preserved : goal.loop-list-preserved
loop-list-preserved c =
    let within = ltb-true c.in-Some.at (length c.as_slice.result.now) (sym c.in-Some-get.ensures.lookup.0) in
    let get = found_step c.args.scene.now.code.now.steps c.as_slice.result.now c.in-Some.at c.in-Some-get.step.now c.as_slice.ensures within c.in-Some-get.ensures.lookup.1 in
    assigned_turn c.args.scene.now c.requires.scene c.args.state.now c.loop-list.state c.set_slot.new.state (contents_of c.args.rows.now) c.args.paths.now c.ranks_at-ranks.result.now c.args.list c.loop-list.list
    c.in-Some.at c.in-Some-get.step.now c.in-Assign.value c.in-Assign.first c.in-Assign.depth c.slot.result c.whole.result c.in-Some-plain_value.word
    c.loop-list.invariant c.in-Some.is get c.in-Assign.is c.if-paths-ne1.false c.ranks_at-ranks.ensures
    c.in-Some-plain_value.ensures.0 c.in-Some-plain_value.ensures.1.0 c.slot.ensures c.whole.ensures
    c.set_slot.ensures.banks c.set_slot.ensures.given c.set_slot.ensures.writes c.set_slot.ensures.kept c.in-Ok.ensures.set c.set_slot.ensures.back

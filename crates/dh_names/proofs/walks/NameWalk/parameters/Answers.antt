use Rattle.std.proofs.Common.{get_or, ◌^◌, arith}
use Rattle.dh_tree.specs.Seen.{formal_seen}
use Rattle.dh_names.specs.Walks.{state_of}
use Rattle.dh_base.proofs.InPlace.{turn_fits}
use Rattle.dh_names.proofs.ListsDone.{entity_count}
use Rattle.dh_names.proofs.FunctionsDone.{formal_step, formal_made, one_name, formal_grows, formal_turn, formals_done}
use Rattle.dh_names.proofs.walks.NameWalk.parameters.Goals as goal

pub loop-parameter-preserved : goal.loop-parameter-preserved
loop-parameter-preserved c =
    let y = get_or c.loop-parameter.parameter-items c.loop-parameter.parameter-index c.parameter-item.result in
    turn_fits formal_seen formal_step formal_made entity_count one_name formal_grows (2 ^ 32) c.deref_mut-parameter-items.result.now c.loop-parameter.parameter-items c.loop-parameter.parameter-index (state_of c.args.self.now) (state_of c.loop-parameter.self) (state_of c.declare.new.self) c.parameter-item.result
    (record { name = c.declare.new.name; shape = y.shape; shape_places = y.shape_places; kind = y.kind })
    (omega (arith, c.loop-parameter-test.true, c.loop-parameter.auto.parameter-items)) c.loop-parameter.invariant.0 c.loop-parameter.invariant.1 c.parameter-item.is
    (formal_turn (state_of c.loop-parameter.self) (state_of c.declare.new.self) c.parameter-item.result y c.declare.new.name c.sort_of-sort.result c.parameter-item.is c.sort_of-sort.ensures c.in_ok-declare.ensures.tree c.in_ok-declare.ensures.state)

pub returns : goal.returns
returns c =
    formals_done (state_of c.args.self.now) (state_of c.loop-parameter.self) c.args.parameters.now c.deref_mut-parameter-items.result.now c.loop-parameter.parameter-items c.loop-parameter.parameter-index
    c.deref_mut-parameter-items.ensures.value c.deref_mut-parameter-items.ensures.len c.loop-parameter-test.false c.loop-parameter.invariant.0 c.loop-parameter.invariant.1 c.requires

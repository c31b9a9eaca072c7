use Rattle.std.proofs.Common.{get_or}
use Rattle.dh_value.specs.declared.kinds.Kind.TheVariants as kind
use Rattle.dh_ways.specs.declared.ways.Hidden.{Hidden}
use Rattle.dh_events.proofs.ScopeFacts.{hidden_turn}
use Rattle.dh_events.proofs.Turns.{at_place}
use Rattle.dh_events.proofs.dependence.note_hidden.Goals as goal

pub loop-one-preserved : goal.loop-one-preserved
loop-one-preserved c =
    let none : Hidden = record { entity = 0; kind = kind.Bool; depth = 0; copies = 0 } in
    hidden_turn _ _ (get_or c.args.hidden.now c.loop-one.one-index none) _ _ c.told_depth-depth.result _ (at_place c.args.hidden.now c.loop-one.one-index none c.loop-one-test.true) c.told_depth-depth.ensures c.in_ok-declare_entity.ensures c.loop-one.invariant

use Rattle.std.proofs.Common.{map, add-one}
use Rattle.dh_tree.specs.Memories.{memories_of}
use Rattle.dh_tree.specs.Seen.{program_seen}
use Rattle.dh_ways.specs.Seen.{led_seen}
use Rattle.dh_ways.proofs.StandsCut.{behind_more, view_few}
use Rattle.dh_ways.proofs.StandsFound.{all_more, all_end}
use Rattle.dh_ways.proofs.WaysMade.{ways_end, ways_more}
use Rattle.dh_ways.proofs.tracing.push_ways.Goals as goal

pub loop-view-preserved : goal.loop-view-preserved
loop-view-preserved c = rw (add-one c.loop-view.view-index) (
  ways_more (memories_of (program_seen c.args.typed.now)) c.args.stood.now c.args.first c.loop-view.next c.in_ok-next.next c.loop-view.view-index (map led_seen c.args.ways.now) (map led_seen c.loop-view.ways) (map led_seen c.push_way.new.ways) c.view-item.result c.loop-view-test.true c.view-item.is c.in_ok-next.ensures.0 c.loop-view.invariant.0,
  (
    behind_more c.args.stood.now c.args.first c.loop-view.next c.in_ok-next.next c.loop-view.view-index c.view-item.result c.loop-view-test.true c.view-item.is c.in_ok-next.ensures.0.0 c.loop-view.invariant.1.0,
    all_more c.args.stood.now c.args.first c.loop-view.next c.in_ok-next.next c.loop-view.view-index c.args.hidden.now c.loop-view.hidden c.push_way.new.hidden c.view-item.result c.loop-view-test.true c.view-item.is c.in_ok-next.ensures.0.0 c.in_ok-next.ensures.1 c.loop-view.invariant.1.1,
  ),
)

pub returns : goal.returns
returns c = (
  ways_end (memories_of (program_seen c.args.typed.now)) c.args.stood.now c.args.first c.loop-view.next c.loop-view.view-index (map led_seen c.args.ways.now) (map led_seen c.loop-view.ways) c.loop-view-test.false c.loop-view.invariant.0,
  all_end c.args.stood.now c.args.first c.loop-view.next c.loop-view.view-index c.args.hidden.now c.loop-view.hidden c.loop-view-test.false c.loop-view.invariant.1.1,
)

pub push_way-requires : goal.push_way-requires
push_way-requires c = record { few = view_few c.args.stood.now c.args.first c.loop-view.next c.loop-view.view-index 4294967296 c.view-item.result c.loop-view-test.true c.view-item.is c.requires.few c.loop-view.invariant.1.0 }

use Rattle.std.proofs.Common.{refl}
use Rattle.dh_tree.specs.Memories.{memories_of}
use Rattle.dh_tree.specs.Seen.{program_seen}
use Rattle.dh_viewing.proofs.ViewsFound.{breaches_next, viewed_next}
use Rattle.dh_viewing.proofs.factors.keep_all.Goals as goal

pub loop-view-init : goal.loop-view-init
loop-view-init c = record { breaches = refl; views = refl }

pub loop-view-preserved : goal.loop-view-preserved
loop-view-preserved c = record {
  breaches =
      breaches_next (memories_of (program_seen c.args.typed.now)) c.args.found.now c.loop-view.view-index c.view-item.result c.loop-view-test.true c.view-item.is c.args.views.now c.loop-view.views c.keep_behind.new.views c.args.kept.now c.loop-view.kept c.keep_behind.new.kept
      c.in_ok-keep_behind.ensures.breaches c.in_ok-keep_behind.ensures.views c.loop-view.invariant.breaches;
  views =
      viewed_next (memories_of (program_seen c.args.typed.now)) c.args.found.now c.loop-view.view-index c.view-item.result c.loop-view-test.true c.view-item.is c.args.views.now c.loop-view.views c.keep_behind.new.views
      c.in_ok-keep_behind.ensures.views c.loop-view.invariant.views;
}

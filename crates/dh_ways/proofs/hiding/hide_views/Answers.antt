use Rattle.std.proofs.Common.{ℕ, ◌+◌, ◌<◌, ◌++◌, length, map, ap, sym, ◌∙◌, subst, add-one}
use Rattle.dh_tree.specs.ViewOffsets.{offsets_of}
use Rattle.dh_ways.specs.Stands.{all_own, stand_seen}
use Rattle.dh_ways.proofs.StandsCut.{fewer, own_few}
use Rattle.dh_ways.proofs.StandsFound.{own_end, own_first, own_more}
use Rattle.dh_ways.proofs.hiding.hide_views.Goals as goal

pub loop-view-init : goal.loop-view-init
loop-view-init c = ap (λ l. l ++ all_own (c.args.first + length l) (map stand_seen c.args.stood.now)) c.new-hidden.ensures ∙ own_first c.args.first (map stand_seen c.args.stood.now)

pub loop-view-preserved : goal.loop-view-preserved
loop-view-preserved c = rw (add-one c.loop-view.view-index)
    (own_more c.args.stood.now c.args.first c.loop-view.view-index c.entity_behind-next.result c.loop-view.hidden c.in_ok-own.own c.append.new.hidden c.view-item.result c.loop-view-test.true c.view-item.is
    (c.entity_behind-next.ensures ∙ ap (λ n. c.args.first + n) c.len.ensures) c.in_ok-own.ensures (c.in_ok-append.ensures ∙ ap (λ l. c.loop-view.hidden ++ l) c.as_slice.ensures) c.loop-view.invariant)

pub returns : goal.returns
returns c = own_end c.args.stood.now c.args.first c.loop-view.view-index c.loop-view.hidden c.loop-view-test.false c.loop-view.invariant

pub entity_behind-next-requires : goal.entity_behind-next-requires
entity_behind-next-requires c =
    subst (λ (n : ℕ). c.args.first + n < 4294967296) (sym c.len.ensures)
    (fewer c.args.first (length c.loop-view.hidden) (length (offsets_of (stand_seen c.view-item.result).form)) 4294967296
    (own_few c.args.stood.now c.args.first c.loop-view.view-index 4294967296 c.loop-view.hidden c.view-item.result c.loop-view-test.true c.view-item.is c.requires.few c.loop-view.invariant))

pub own_hidden-requires : goal.own_hidden-requires
own_hidden-requires c = record {
  few = subst (λ (n : ℕ). n + length (offsets_of (stand_seen c.view-item.result).form) < 4294967296) (sym (c.entity_behind-next.ensures ∙ ap (λ n. c.args.first + n) c.len.ensures))
      (own_few c.args.stood.now c.args.first c.loop-view.view-index 4294967296 c.loop-view.hidden c.view-item.result c.loop-view-test.true c.view-item.is c.requires.few c.loop-view.invariant);
}

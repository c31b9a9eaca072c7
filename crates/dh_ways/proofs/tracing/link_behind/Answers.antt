use Rattle.std.proofs.Common.{List, ◌++◌, ap, ◌∙◌, max}
use Rattle.std.specs.Prelude.{slice_get}
use Rattle.dh_meaning.specs.Ways.{depth_where}
use Rattle.dh_ways.specs.declared.ways.Hidden.{Hidden}
use Rattle.dh_ways.specs.Stands.{standing_seen}
use Rattle.dh_ways.proofs.WaysMade.{link_further}
use Rattle.dh_ways.proofs.tracing.link_behind.Goals as goal

pub returns : goal.returns
returns c before below there =
    link_further before (standing_seen c.args.view.now) c.args.own c.args.made c.args.place c.args.parent.now c.first_or-first.result c.memory-ends_at.result
    c.deeper-deepest.result c.deeper-shifts.result c.depth_where-own_depth.result c.depth_where-own_shift.result below there
    (c.first_or-first.ensures c.args.parent.now.hidden c.first_hidden.ensures ∙ ap (λ (hs : List Hidden). slice_get (hs ++ c.args.parent.now.hidden) 0) c.as_slice.ensures)
    c.memory-ends_at.ensures
    (c.depth_where-own_depth.ensures ∙ ap (λ b. depth_where b c.args.view.now.depth) c.moves.ensures) (c.depth_where-own_shift.ensures ∙ ap (λ b. depth_where b c.args.view.now.depth) c.is_shift.ensures)
    (c.deeper-deepest.ensures ∙ ap (max c.depth_where-own_depth.result) c.deepest.ensures) (c.deeper-shifts.ensures ∙ ap (max c.depth_where-own_shift.result) c.shifts.ensures)

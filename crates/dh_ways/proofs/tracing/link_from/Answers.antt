use Rattle.std.proofs.Common.{List, ◌++◌, ap, ◌∙◌}
use Rattle.std.specs.Prelude.{slice_get}
use Rattle.dh_meaning.specs.Ways.{depth_where}
use Rattle.dh_ways.specs.declared.ways.Hidden.{Hidden}
use Rattle.dh_ways.specs.Stands.{standing_seen}
use Rattle.dh_ways.proofs.WaysMade.{link_first}
use Rattle.dh_ways.proofs.tracing.link_from.Goals as goal

pub returns : goal.returns
returns c before =
    link_first before (standing_seen c.args.view.now) c.args.own c.args.made c.first_or-first.result c.depth_where-deepest.result c.depth_where-shifts.result
    (λ others e. c.first_or-first.ensures others e ∙ ap (λ (hs : List Hidden). slice_get (hs ++ others) 0) c.as_slice.ensures)
    (c.depth_where-deepest.ensures ∙ ap (λ b. depth_where b c.args.view.now.depth) c.moves.ensures) (c.depth_where-shifts.ensures ∙ ap (λ b. depth_where b c.args.view.now.depth) c.is_shift.ensures)

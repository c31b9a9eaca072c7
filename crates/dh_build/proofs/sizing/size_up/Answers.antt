use Rattle.std.proofs.Common.{rules, List, map, ap, ◌∙◌}
use Rattle.dh_value.specs.declared.kinds.Kind.{Kind}
use Rattle.dh_value.specs.Words.{width_of}
use Rattle.dh_plan.specs.SeenPlans.{plan_seen}
use Rattle.dh_build.proofs.SizesMade.{sizes_made}
use Rattle.dh_build.proofs.sizing.size_up.Goals as goal

pub returns : goal.returns
returns c =
    sizes_made (plan_seen c.args.plan.now) c.args.states c.args.clocks.now c.args.lengths.now c.requires.times c.greatest-longest.result c.row_width.result c.row_width-2.result c.in_ok-clocks.clocks
    c.in_ok-lengths.lengths c.in_ok-widths.widths c.greatest-longest.ensures.all (search rules) c.requires.few c.row_width.ensures c.row_width-2.ensures c.in_ok-clocks.ensures c.in_ok-lengths.ensures
    (c.in_ok-widths.ensures ∙ ap (λ (l : List Kind). map width_of l) c.as_slice.ensures)

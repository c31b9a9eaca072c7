use Rattle.std.proofs.Common.{Some, ap, ◌∙◌}
use Rattle.dh_tree.specs.declared.viewing.ViewMap.{ViewMap}
use Rattle.dh_tree.specs.Seen.{view_plan}
use Rattle.dh_tree.specs.Views.{map_of}
use Rattle.dh_ways.specs.Seen.{way_seen}
use Rattle.dh_ways.specs.Stands.{standing_seen}
use Rattle.dh_ways.proofs.WaysMade.{link_leads}
use Rattle.dh_ways.proofs.tracing.lead_on.Goals as goal

pub returns : goal.returns
returns c before below there =
    link_leads before (standing_seen c.args.view.now) c.args.own c.in_ok-made.made (map_of (view_plan c.args.view.now.form.now) c.args.parent.now.view.shape) (Some (way_seen c.args.parent.now)) c.link_behind.result
    (c.in_ok-made.ensures ∙ ap (λ (v : ViewMap). map_of (view_plan c.args.view.now.form.now) v.shape) c.view-above.ensures) (c.link_behind.ensures before below there)

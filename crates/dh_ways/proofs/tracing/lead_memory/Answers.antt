use Rattle.std.proofs.Common.{None}
use Rattle.dh_tree.specs.Seen.{view_plan}
use Rattle.dh_tree.specs.Views.{map_of}
use Rattle.dh_ways.specs.Stands.{standing_seen}
use Rattle.dh_ways.proofs.WaysMade.{link_leads}
use Rattle.dh_ways.proofs.tracing.lead_memory.Goals as goal

pub returns : goal.returns
returns c before =
    link_leads before (standing_seen c.args.view.now) c.args.own c.in_ok-made.made (map_of (view_plan c.args.view.now.form.now) c.args.shape.now) None c.link_from.result c.in_ok-made.ensures (c.link_from.ensures before)

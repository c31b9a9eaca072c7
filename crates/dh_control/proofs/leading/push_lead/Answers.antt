use Rattle.dh_control.proofs.WaysMoved.{lead_added}
use Rattle.dh_control.proofs.leading.push_lead.Goals as goal

pub returns : goal.returns
returns c = lead_added _ _ c.args.width c.args.active c.args.number c.in_ok-value.value c.args.leads.now _ c.requires.active c.in_ok-value.ensures c.in_ok-push.ensures

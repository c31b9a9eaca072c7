use Rattle.std.proofs.Common.{refl, ap, ◌∙◌}
use Rattle.dh_tree.specs.Seen.{action_form_seen}
use Rattle.dh_tree.proofs.SeenActions.{view_at}
use Rattle.dh_viewing.proofs.ViewsFound.{view_more}
use Rattle.dh_viewing.proofs.collecting.+finding.Goals as goal

pub find_views-returns-in_ok-push-in-View : goal.find_views-returns-in_ok-push-in-View
find_views-returns-in_ok-push-in-View t c =
    view_more c.args.found.now.items c.push.new.self.items _ _ _ c.in_ok-push-in-View.ensures.items
    (ap action_form_seen c.in-View.is ∙ view_at c.in-View.name c.in-View.parent c.in-View.form c.deref.result.now c.deref-in-View.result.now c.deref-in-View-2.result.now c.deref.ensures c.deref-in-View.ensures c.deref-in-View-2.ensures) refl

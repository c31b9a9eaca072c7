use Rattle.std.proofs.Common.{refl, ap, sym, ◌∙◌, ◌++◌, map}
use Rattle.std.proofs.lemmas.Result.{on_ok_weaker}
use Rattle.dh_tree.specs.declared.trees.commands.Command.{Command}
use Rattle.dh_tree.specs.Seen.{action_form_seen, action_seen, maybe_block_seen}
use Rattle.dh_tree.proofs.Collecting.{found_both}
use Rattle.dh_tree.proofs.SeenActions.{for_at, view_at}
use Rattle.dh_ways.specs.CutStands.{copies_cut, cut_stands, form_cut_stands, other_cut_stands}
use Rattle.dh_ways.specs.Stands.{stand_seen}
use Rattle.dh_ways.proofs.StandsFound.{stood_more}
use Rattle.dh_ways.proofs.standing.+standing.Goals as goal

pub find_standing-returns-in_ok-push-in-View : goal.find_standing-returns-in_ok-push-in-View
find_standing-returns-in_ok-push-in-View t c =
    stood_more c.args.found.now.items c.push.new.self.items _ c.args.depth c.args.copies _ _ c.in_ok-push-in-View.ensures.items
    (ap action_form_seen c.in-View.is ∙ view_at c.in-View.name c.in-View.parent c.in-View.form c.deref.result.now c.deref-in-View.result.now c.deref-in-View-2.result.now c.deref.ensures c.deref-in-View.ensures c.deref-in-View-2.ensures) refl

pub find_standing-returns-in_ok-find_standing-in-For : goal.find_standing-returns-in_ok-find_standing-in-For
find_standing-returns-in_ok-find_standing-in-For t c =
    let inner = c.depth_in-inner.result in
    let more = c.copies_in-more.result in
    let body = action_seen c.in-For.body.value in
    let other = maybe_block_seen c.in-For.combine in
    let header = c.as_ref-header.result.now in
    on_ok_weaker c.stand_in_other-in-For.result (λ rest.
    found_both (map stand_seen c.stand_in_other-in-For.new.found.items) (map stand_seen c.find_standing-in-For.new.found.items) (map stand_seen c.args.found.now.items) (cut_stands inner more body) (other_cut_stands inner more other)
    (c.in_ok-find_standing-in-For.ensures ∙ ap (λ (x : Command). map stand_seen c.args.found.now.items ++ cut_stands inner more (action_seen x)) c.deref-in-For.ensures) rest
    ∙ ap (λ l. map stand_seen c.args.found.now.items ++ l)
    (sym (ap (form_cut_stands c.args.depth c.args.copies) (ap action_form_seen c.in-For.is ∙ for_at c.in-For.header c.in-For.body c.in-For.combine header c.in-For.body.value c.as_ref-header.ensures refl)
    ∙ (ap (λ n. cut_stands n (copies_cut c.args.copies header.factor) body ++ other_cut_stands n (copies_cut c.args.copies header.factor) other) (sym c.depth_in-inner.ensures)
    ∙ ap (λ n. cut_stands inner n body ++ other_cut_stands inner n other) (sym c.copies_in-more.ensures)))))
    c.stand_in_other-in-For.ensures

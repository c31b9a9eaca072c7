use Rattle.std.proofs.Common.{sym, ◌∙◌, subst}
use Rattle.dh_tree.specs.Seen.{view_plan}
use Rattle.dh_viewing.specs.Shared.{IsMadeFromParent}
use Rattle.dh_viewing.proofs.SharedMaps.{alike_same}
use Rattle.dh_viewing.proofs.sharing.SharedMap.is_of.Goals as goal

pub returns : goal.returns
returns c t =
    sym c.self.view_is
    ∙ (sym c.as_ref-map.ensures
    ∙ alike_same c.as_ref-map.result.now (view_plan c.args.form.now) c.args.parent.now (subst IsMadeFromParent (sym c.as_ref-map.ensures) c.self.invariant) (c.is_alike.ensures t))

use Rattle.std.proofs.Common.{◌≡◌, [], subst}
use Rattle.dh_tree.specs.declared.trees.programs.Tree.{Tree}
use Rattle.dh_tree.specs.Seen.{program_seen}
use Rattle.dh_tree.specs.Views.{views_of}
use Rattle.dh_tree.proofs.ViewsDeclared.{no_views_in}
use Rattle.dh_tree.proofs.trees.typed.Typed.has_no_view.Goals as goal

pub returns : goal.returns
returns c = λ h. subst (λ (tree : Tree). views_of (program_seen tree) ≡ []) c.self.view_is
    (no_views_in c.self.inside.tree c.as_slice-entities.result.now c.self.invariant.0.1 c.as_slice-entities.ensures.value (c.declare_no_view.ensures.0 h))

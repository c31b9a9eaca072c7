use Rattle.std.proofs.Common.{◌≡◌, None, subst}
use Rattle.dh_tree.specs.declared.trees.programs.Tree.{Tree}
use Rattle.dh_tree.specs.Excesses.{copies_excess}
use Rattle.dh_tree.specs.Seen.{program_seen}
use Rattle.dh_tree.proofs.trees.typed.Typed.has_few_copies.Goals as goal

pub returns : goal.returns
returns c = λ h. subst (λ (tree : Tree). copies_excess 1 (program_seen tree).body ≡ None) c.self.view_is (c.self.invariant.1.1.1.1 h)

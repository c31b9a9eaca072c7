use Rattle.std.proofs.Common.{subst}
use Rattle.dh_tree.specs.declared.trees.programs.Tree.{Tree}
use Rattle.dh_tree.specs.Counters.{counters_of, AreSingle}
use Rattle.dh_tree.specs.Seen.{program_seen}
use Rattle.dh_tree.proofs.trees.typed.Typed.has_single_loops.Goals as goal

pub returns : goal.returns
returns c = λ h. subst (λ (tree : Tree). AreSingle (counters_of (program_seen tree))) c.self.view_is (c.self.invariant.1.1.1.0.1.1 h)

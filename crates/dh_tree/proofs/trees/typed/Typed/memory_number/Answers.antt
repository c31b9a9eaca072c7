use Rattle.std.proofs.Common.{◌≡◌, sym, subst, Some, None, arith}
use Rattle.dh_tree.specs.declared.trees.programs.Tree.{Tree}
use Rattle.dh_tree.specs.Seen.{program_seen}
use Rattle.dh_tree.specs.Memories.{memories_of, number_in}
use Rattle.dh_tree.proofs.EntitiesGrow.{memories_within}
use Rattle.dh_tree.proofs.trees.typed.Typed.memory_number.Goals as goal

pub returns-else-entity-len : goal.returns-else-entity-len
returns-else-entity-len c =
    let long = c.self.invariant.1.1.0.long in
    let size = c.len.ensures in
    let past = c.if-entity-len.false in
    subst (λ (tree : Tree). None ≡ number_in (memories_of (program_seen tree)) (Some c.args.entity)) c.self.view_is (sym (memories_within (program_seen c.self.inside.tree) c.self.invariant.0.1 c.args.entity (omega (arith, long, size, past))))

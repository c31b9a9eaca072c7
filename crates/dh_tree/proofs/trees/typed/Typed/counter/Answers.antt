use Rattle.std.proofs.Common.{◌≡◌, sym, subst, Some, None, arith}
use Rattle.dh_tree.specs.declared.trees.programs.Tree.{Tree}
use Rattle.dh_tree.specs.Seen.{program_seen}
use Rattle.dh_tree.specs.Counters.{counters_of, counter_in}
use Rattle.dh_tree.proofs.LoopsAmong.{loops_behind}
use Rattle.dh_tree.proofs.trees.typed.Typed.counter.Goals as goal

pub returns-else-entity-len : goal.returns-else-entity-len
returns-else-entity-len c =
    let size = c.len.ensures in
    let past = c.if-entity-len.false in
    subst (λ (tree : Tree). None ≡ counter_in (counters_of (program_seen tree)) (Some c.args.entity)) c.self.view_is
    (sym (loops_behind (program_seen c.self.inside.tree) c.self.invariant.0.1 c.self.inside.loops.by_entity.items c.self.invariant.1.1.1.0.0 c.args.entity (omega (arith, size, past))))

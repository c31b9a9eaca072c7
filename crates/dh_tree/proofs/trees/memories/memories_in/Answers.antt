use Rattle.std.proofs.Common.{◌∙◌}
use Rattle.dh_tree.proofs.SortsDeclared.{no_locals_in}
use Rattle.dh_tree.proofs.trees.memories.memories_in.Goals as goal

pub returns-then-declare_few_memories : goal.returns-then-declare_few_memories
returns-then-declare_few_memories c =
    c.in_ok-found.ensures
    ∙ no_locals_in c.args.tree.now c.as_slice-entities.result.now c.as_slice-decls.result.now c.requires c.as_slice-entities.ensures.value c.as_slice-decls.ensures.value
    (c.declare_few_memories.ensures.0 c.if-declare_few_memories.true)

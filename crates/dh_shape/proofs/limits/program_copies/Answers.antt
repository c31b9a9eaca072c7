use Rattle.std.proofs.Common.{sym, ap, ◌∙◌}
use Rattle.dh_tree.specs.declared.trees.programs.Tree.{Tree}
use Rattle.dh_tree.specs.Excesses.{copies_excess}
use Rattle.dh_tree.specs.Seen.{program_seen}
use Rattle.dh_shape.proofs.limits.program_copies.Goals as goal

pub returns-then-has_few_copies : goal.returns-then-has_few_copies
returns-then-has_few_copies c = sym (c.has_few_copies.ensures c.if-has_few_copies.true)

pub returns-else-has_few_copies : goal.returns-else-has_few_copies
returns-else-has_few_copies c = c.copies_above.ensures ∙ ap (λ (t : Tree). copies_excess 1 (program_seen t).body) c.tree.ensures.tree

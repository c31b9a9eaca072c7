use Rattle.std.proofs.Common.{ap, sym, ◌∙◌}
use Rattle.dh_tree.specs.declared.trees.programs.Tree.{Tree}
use Rattle.dh_tree.specs.Seen.{action_seen}
use Rattle.dh_tree.specs.Views.{viewings}
use Rattle.dh_viewing.specs.Judged.{is_any}
use Rattle.dh_viewing.proofs.declaring.declares_view.Goals as goal

pub returns-then-has_no_view : goal.returns-then-has_no_view
returns-then-has_no_view c = sym (ap is_any (c.has_no_view.ensures c.if-has_no_view.true))

pub returns : goal.returns
returns c = c.declares.ensures ∙ ap (λ (t : Tree). is_any (viewings (action_seen t.body))) c.tree-tree.ensures.tree

use Rattle.std.proofs.Common.{◌≡◌, List, [], sym, subst, ◌∙◌, arith}
use Rattle.dh_tree.specs.Counters.{counters, AreSingle}
use Rattle.dh_tree.specs.Seen.{action_seen}
use Rattle.dh_tree.specs.declared.trees.counters.Counter.{Counter}
use Rattle.dh_tree.proofs.SingleCopies.{none_above}
use Rattle.dh_tree.proofs.SortsDeclared.{no_loops_in}
use Rattle.dh_tree.proofs.trees.counters.loops_in.Goals as goal

pub returns-then-declare_no_loop : goal.returns-then-declare_no_loop
returns-then-declare_no_loop c =
    let none : counters (action_seen c.args.tree.now.body) ≡ [] = no_loops_in c.args.tree.now c.as_slice-entities.result.now c.requires c.as_slice-entities.ensures.value (c.declare_no_loop.ensures.0 c.if-declare_no_loop.true) in
    record {
      found = c.new-found.ensures.items ∙ sym none;
      few = λ told. none_above 1 (action_seen c.args.tree.now.body) (omega arith) (subst (λ (cs : List Counter). AreSingle cs) (sym none) tt);
    }

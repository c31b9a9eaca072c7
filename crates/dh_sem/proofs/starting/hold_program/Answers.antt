use Rattle.std.proofs.Common.{ap}
use Rattle.std.proofs.lemmas.Result.{IfOk-weaker}
use Rattle.dh_tree.specs.declared.trees.programs.Tree.{Tree}
use Rattle.dh_tree.specs.Seen.{action_seen}
use Rattle.dh_sem.proofs.FirstMade.{made_first}
use Rattle.dh_sem.proofs.starting.hold_program.Goals as goal

pub returns : goal.returns
returns c =
    IfOk-weaker c.hold_all.result _ _ (λ first holds. made_first (record { alloc = c.args.alloc; program = c.args.program; ways = c.args.ways; places = c.args.places }) c.args.made.now c.hold_all.new.made c.tree-tree.result.now.body first holds
    c.requires.places c.requires.ways (ap (λ (t : Tree). action_seen t.body) c.tree-tree.ensures.tree) c.requires.table c.requires.runnable c.requires.lanes c.requires.sound) c.hold_all.ensures

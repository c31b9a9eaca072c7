use Rattle.std.proofs.Common.{subst}
use Rattle.std.proofs.lemmas.Result.{IfOk-weaker}
use Rattle.dh_plan.specs.SeenPlans.{nodes_seen}
use Rattle.dh_tree.specs.Seen.{action_seen}
use Rattle.dh_meaning.specs.Sites.{nothing_around}
use Rattle.dh_phases.specs.GatheredPhases.{all_gathered, phases_seen}
use Rattle.dh_gathering.specs.Gathered.{MakesNodesIn}
use Rattle.dh_gathering.proofs.NodesMade.{body_made}
use Rattle.dh_gathering.proofs.nodes.nodes_in.Goals as goal

pub returns-clause-made : goal.returns-clause-made
returns-clause-made c =
    IfOk-weaker c.nodes_of.result _ _
    (λ nodes h. body_made c.args.scene.now c.args.paths.now c.args.made.now c.nodes_of.new.made (phases_seen c.in_ok-phases.phases.items) (action_seen c.args.body.now) (nodes_seen nodes.items) (c.in_ok-phases.ensures nothing_around)
    (subst (λ ps. MakesNodesIn c.args.scene.now c.args.paths.now c.args.made.now c.nodes_of.new.made (all_gathered (phases_seen ps)) (nodes_seen nodes.items)) c.as_slice.ensures.value h))
    c.nodes_of.ensures.made

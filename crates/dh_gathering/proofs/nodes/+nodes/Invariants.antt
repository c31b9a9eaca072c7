-- Whatever is made of the phases that are left, all is made from the begin; and each block so far is named once.
use Rattle.std.proofs.Common.{drop}
use Rattle.dh_plan.specs.SeenPlans.{nodes_seen}
use Rattle.dh_plan.specs.SoundPlans.{blocks_of}
use Rattle.dh_gathering.specs.NamedOnce.{NamesOnce}
use Rattle.dh_gathering.proofs.NodesMade.{NodesLead}
use Rattle.dh_gathering.proofs.nodes.+nodes.Given as goal

abbrev pub invariant-nodes_of-loop-phase : goal.invariant-nodes_of-loop-phase
invariant-nodes_of-loop-phase l = NodesLead l.scene l.paths l.phases (drop l.phase-index l.phases) l.nodes.items l.fn.made l.made × NamesOnce l.fn.made l.made (blocks_of (nodes_seen l.nodes.items))

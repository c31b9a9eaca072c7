-- A net that was built of a plan by a graph of one group is wired as its plan asks.
use Rattle.std.specs.Prelude.{◌≡◌, [], ◌∷◌, length}
use Rattle.dh_net.specs.Valid.{IsValid}
use Rattle.dh_net.specs.declared.nets.Net.{Net}
use Rattle.dh_plan.specs.declared.graphs.Graph.{Graph}
use Rattle.dh_plan.specs.declared.graphs.Group.{Group}
use Rattle.dh_plan.specs.BoundPorts.{Uses}
use Rattle.dh_plan.specs.PlainPlans.{PlainPlan}
use Rattle.dh_plan.specs.SeenGraphs.{IsGraphOf}
use Rattle.dh_lower.specs.NetOfPlan.{IsNetOf}
use Rattle.dh_control.specs.ThreadHolds.{holds_thread}
use Rattle.dh_build.specs.declared.building.Sizes.{Sizes}
use Rattle.dh_build.specs.BuiltNets.{IsBuilt, making_of}
use Rattle.dh_build.specs.BuiltParts.{AreSizes, CanMakeNet}

-- where it is valid, it is the net of its plan, so that it plays it
abbrev pub BuiltNetsAreNets : Type 0
BuiltNetsAreNets =
    (plan : PlainPlan) (u : Uses) (g : Graph) (group : Group) (s : Sizes) (net : Net) → (graph : IsGraphOf plan g) → g.groups.items ≡ group ∷ [] → CanMakeNet plan u g.states.items → AreSizes plan (length g.states.items) s
    → (built : IsBuilt plan u g.states.items group.first s net) → IsValid net
    → IsNetOf (making_of plan graph.flow u s built.made_of.shown.wires) net (holds_thread (length graph.flow.states) (length plan.registers))

-- The net that is built of a plan plays it.
use Rattle.std.proofs.Common.{◌≡◌, ℕ, List, [], ◌∷◌, length, get_or, refl, sym, ap, subst, ◌∙◌, arith}
use Rattle.dh_net.specs.declared.nets.Cell.{Cell}
use Rattle.dh_net.specs.declared.nets.Net.{Net}
use Rattle.dh_plan.specs.declared.graphs.Decision.{Decision}
use Rattle.dh_plan.specs.declared.graphs.Graph.{Graph}
use Rattle.dh_plan.specs.declared.graphs.Group.{Group}
use Rattle.dh_plan.specs.declared.graphs.State.{State}
use Rattle.dh_plan.specs.BoundPorts.{Uses}
use Rattle.dh_plan.specs.LegalSchedules.{Timing, IsLegal}
use Rattle.dh_plan.specs.PlainPlans.{PlainPlan}
use Rattle.dh_plan.specs.PlayedPlans.{plan_run, PlaysPlan}
use Rattle.dh_plan.specs.Ways.{GraphWay}
use Rattle.dh_cells.specs.NarrowShifts.{HasNarrowShifts}
use Rattle.dh_lower.proofs.NetSimulates.{net_plays}
use Rattle.dh_control.specs.ThreadHolds.{holds_thread}
use Rattle.dh_control.specs.WayMoves.{way_of_decision}
use Rattle.dh_control.specs.WiredNets.{IsStraight}
use Rattle.dh_build.specs.declared.building.Sizes.{Sizes}
use Rattle.dh_build.specs.BuiltNets.{IsBuilt, making_of}
use Rattle.dh_build.specs.BuiltParts.{CanMakeNet}
use Rattle.dh_build.specs.BuiltPlans.{AreSizesOf, CanBuild, timing_of}
use Rattle.dh_build.proofs.NetValid.{net_valid}
use Rattle.dh_build.proofs.OneGroup.{one_group}
use Rattle.dh_build.proofs.ThreadsBuilt.{net_of_thread}

alone_is : (groups : List Group) (other : Group) → length groups ≡ 1 → groups ≡ get_or groups 0 other ∷ []
alone_is [] other long = absurd (omega (arith, long))
alone_is (g ∷ []) other long = refl
alone_is (g ∷ h ∷ gs) other long = absurd (omega (arith, long))

module _ (plan : PlainPlan) (g : Graph) (t : Timing) (u : Uses) (group : Group) (can : CanBuild plan g t u) (one : g.groups.items ≡ group ∷ []) where
  pub can_make : CanMakeNet plan u g.states.items
  can_make = record {
    formed = can.may.sound.formed;
    addressed = can.may.addressed;
    ports = can.may.bound.ports;
    all_ports = can.may.bound.all_ports;
    kinds = can.kinds;
    few_faults = can.few_faults;
    ways = (one_group plan g group can.may.graph one).fits;
  }

  straight : IsStraight (length g.states.items) (way_of_decision group.first)
  straight =
      let thread = one_group plan g group can.may.graph one in
      subst (λ (w : GraphWay). IsStraight (length g.states.items) w) (sym thread.first_is)
      (subst (λ (n : ℕ). IsStraight n can.may.graph.flow.first) (sym thread.count) thread.one_thread.first)

  module _ (s : Sizes) (sizes : AreSizesOf plan (length g.states.items) t s) (net : Net) (built : IsBuilt plan u g.states.items group.first s net) where
    abbrev own_times : Timing
    own_times = timing_of s.clocks s.lengths

    own_legal : IsLegal plan can.limits own_times
    own_legal = subst (λ (x : Timing). IsLegal plan can.limits x) (sym (λ i. timing_of (sizes.clocks_are i) (sizes.lengths_are i))) can.may.legal

    pub built_plays : PlaysPlan plan t.lengths net
    built_plays =
        subst (λ (l : List ℕ). PlaysPlan plan l net) sizes.lengths_are
        (net_plays (making_of plan can.may.graph.flow u s built.made_of.shown.wires) can.limits net (holds_thread (length can.may.graph.flow.states) (length plan.registers))
        (record { sound = can.may.sound; addressed = can.may.addressed; flows = can.may.graph.does; legal = own_legal; ports = can.may.bound.ports })
        (net_of_thread plan u g group s net can.may.graph one can_make sizes.are built (net_valid plan u g.states.items group.first s net can_make sizes.are straight built)))

-- The same by lists that are those of the graph.

module _ (plan : PlainPlan) (g : Graph) (t : Timing) (u : Uses) (can : CanBuild plan g t u) (groups : List Group) (groups_are : groups ≡ g.groups.items) (other : Group) where
  abbrev group : Group
  group = get_or groups 0 other

  one : g.groups.items ≡ get_or groups 0 other ∷ []
  one = alone_is g.groups.items other can.alone ∙ ap (λ (l : List Group). get_or l 0 other ∷ []) (sym groups_are)

  module _ (states : List State) (states_are : states ≡ g.states.items) where
    pub can_make_as : CanMakeNet plan u states
    can_make_as = subst (λ (l : List State). CanMakeNet plan u l) (sym states_are) (can_make plan g t u group can one)

    module _ (s : Sizes) (sizes : AreSizesOf plan (length states) t s) (net : Net) (built : IsBuilt plan u states (get_or groups 0 other).first s net) where
      sizes_here : AreSizesOf plan (length g.states.items) t s
      sizes_here = subst (λ (l : List State). AreSizesOf plan (length l) t s) states_are sizes

      built_here : IsBuilt plan u g.states.items (get_or groups 0 other).first s net
      built_here = subst (λ (l : List State). IsBuilt plan u l (get_or groups 0 other).first s net) states_are built

      pub plays_as : PlaysPlan plan t.lengths net
      plays_as = built_plays plan g t u group can one s sizes_here net built_here

pub built_shifts : (plan : PlainPlan) (u : Uses) (states : List State) (first : Decision) (s : Sizes) (net : Net) → IsBuilt plan u states first s net → HasNarrowShifts net.cells
built_shifts plan u states first s net built = subst (λ (l : List Cell). HasNarrowShifts l) (sym built.cells_are) built.shifts

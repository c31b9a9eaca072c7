-- What a graph of the code stands for: its ways, where a fork shows the ways of the groups that it begins. And what
-- the pass that makes graphs states of its graph.
use Rattle.std.specs.Prelude.{◌≡◌, ℕ, zero, suc, ◌<◌, List, [], ◌∷◌, length, map, slice_get, Option, Some, None}
use Rattle.dh_ways.specs.HiddenVariables.{numbers_from}
use Rattle.dh_plan.specs.declared.graphs.Decision.{Decision}
use Rattle.dh_plan.specs.declared.graphs.Decision.TheVariants.{Go, Test', Count', Fork, Rest}
use Rattle.dh_plan.specs.declared.graphs.State.{State}
use Rattle.dh_plan.specs.declared.graphs.Group.{Group}
use Rattle.dh_plan.specs.declared.graphs.Graph.{Graph}
use Rattle.dh_plan.specs.PlainPlans.{PlainPlan}
use Rattle.dh_plan.specs.Ways.{GraphWay, to_state, by_flag, by_count, to_fork, to_end, AllWays, no_ways, way_then, GraphStop, Flow, FlowsAs}

-- the first of these is this one
abbrev pub HasFirst : ℕ → List ℕ → Type 0
HasFirst n [] = ⊥
HasFirst n (m ∷ ms) = m ≡ n

-- how a group begins, where there is one
abbrev pub OfFirst : Option Group → (Decision → Type 0) → Type 0
OfFirst None so = ⊥
OfFirst (Some g) so = so g.first

abbrev pub way_count : AllWays → ℕ
way_count no_ways = 0
way_count (way_then w ws) = suc (way_count ws)

unfoldable mutual
  -- a decision of the code, among these groups, is this way; the groups of a fork have one number after the other
  pub IsWay : List Group → Decision → GraphWay → Type 0
  IsWay groups (Go state) (to_state s) = state ≡ s
  IsWay groups (Test' flag at a at' b) (by_flag f w v) = (flag ≡ f) × (IsWay groups a w × IsWay groups b v)
  IsWay groups (Count' counter last at a at' b) (by_count c l w v) = ((counter ≡ c) × (last ≡ l)) × (IsWay groups a w × IsWay groups b v)
  IsWay groups (Fork forked) (to_fork f ws) = HasFirst f forked.items × ((forked.items ≡ numbers_from f (way_count ws)) × AreWays groups forked.items ws)
  IsWay groups Rest to_end = Unit {0}
  IsWay groups d w = ⊥

  -- these groups begin with these ways
  pub AreWays : List Group → (forked : List ℕ) → AllWays → Type 0
  AreWays groups [] no_ways = Unit {0}
  AreWays groups (g ∷ gs) (way_then w ws) = OfFirst (slice_get groups g) (λ d. IsWay groups d w) × AreWays groups gs ws
  AreWays groups gs ws = ⊥

-- a state of the code
pub record IsStop (groups : List Group) (s : State) (stop : GraphStop) : Type 0 where
  pub block : s.block ≡ stop.block
  pub next : IsWay groups s.next stop.way

-- where the parent of a group goes on
abbrev pub IsJoin : List Group → Option Decision → Option GraphWay → Type 0
IsJoin groups None None = Unit {0}
IsJoin groups (Some d) (Some w) = IsWay groups d w
IsJoin groups after join = ⊥

-- a graph of the code stands for this one
pub record IsFlowOf (g : Graph) (f : Flow) : Type 0 where
  pub states : length g.states.items ≡ length f.states
  pub each : (i : ℕ) (s : State) (stop : GraphStop) → slice_get g.states.items i ≡ Some s → slice_get f.states i ≡ Some stop → IsStop g.groups.items s stop
  -- group 0 is the program's own
  pub first : OfFirst (slice_get g.groups.items 0) (λ d. IsWay g.groups.items d f.first)
  pub groups : length g.groups.items ≡ length f.joins
  pub joins : (i : ℕ) (group : Group) (join : Option GraphWay) → slice_get g.groups.items i ≡ Some group → slice_get f.joins i ≡ Some join
      → IsJoin g.groups.items group.after join

abbrev mutual
  -- a way leads to states that are there, by registers that are there
  pub WayWithin : (states registers : ℕ) → GraphWay → Type 0
  WayWithin states registers (to_state state) = state < states
  WayWithin states registers (by_flag flag w v) = (flag < registers) × (WayWithin states registers w × WayWithin states registers v)
  WayWithin states registers (by_count counter last w v) = (counter < registers) × (WayWithin states registers w × WayWithin states registers v)
  WayWithin states registers (to_fork fork ws) = WaysWithin states registers ws
  WayWithin states registers to_end = Unit {0}

  pub WaysWithin : (states registers : ℕ) → AllWays → Type 0
  WaysWithin states registers no_ways = Unit {0}
  WaysWithin states registers (way_then w ws) = WayWithin states registers w × WaysWithin states registers ws

pub record FlowWithin (plan : PlainPlan) (f : Flow) : Type 0 where
  pub blocks : (i : ℕ) (s : GraphStop) → slice_get f.states i ≡ Some s → s.block < length plan.blocks
  pub first : WayWithin (length f.states) (length plan.registers) f.first
  pub states : (i : ℕ) (s : GraphStop) → slice_get f.states i ≡ Some s → WayWithin (length f.states) (length plan.registers) s.way
  pub joins : (i : ℕ) (w : GraphWay) → slice_get f.joins i ≡ Some (Some w) → WayWithin (length f.states) (length plan.registers) w

-- Groups: each state is of the group whose ways reach it, and the parent of a group is the one whose ways begin it.

-- the groups of states, and the parents of groups
abbrev pub homes_of : Graph → List ℕ
homes_of g = map (λ s. s.group) g.states.items

abbrev pub parents_of : Graph → List (Option ℕ)
parents_of g = map (λ h. h.parent) g.groups.items

abbrev mutual
  -- a way of this group leads to states of the group, and begins groups whose parent it is
  pub StaysInGroup : (homes : List ℕ) → (parents : List (Option ℕ)) → (group : ℕ) → GraphWay → Type 0
  StaysInGroup homes parents group (to_state state) = slice_get homes state ≡ Some group
  StaysInGroup homes parents group (by_flag flag w v) = StaysInGroup homes parents group w × StaysInGroup homes parents group v
  StaysInGroup homes parents group (by_count counter last w v) = StaysInGroup homes parents group w × StaysInGroup homes parents group v
  StaysInGroup homes parents group (to_fork fork ws) = BeginsGroups homes parents group fork ws
  StaysInGroup homes parents group to_end = Unit {0}

  -- each thread stays in the group of its own number
  pub BeginsGroups : (homes : List ℕ) → (parents : List (Option ℕ)) → (parent group : ℕ) → AllWays → Type 0
  BeginsGroups homes parents parent group no_ways = Unit {0}
  BeginsGroups homes parents parent group (way_then w ws) =
      (slice_get parents group ≡ Some (Some parent)) × (StaysInGroup homes parents group w × BeginsGroups homes parents parent (suc group) ws)

-- of a graph of the code, and what it stands for
pub record GroupsFit (g : Graph) (f : Flow) : Type 0 where
  -- the program's own group has no parent
  pub own : slice_get (parents_of g) 0 ≡ Some None
  pub first : StaysInGroup (homes_of g) (parents_of g) 0 f.first
  pub states : (i home : ℕ) (s : GraphStop) → slice_get (homes_of g) i ≡ Some home → slice_get f.states i ≡ Some s
      → (home < length g.groups.items) × StaysInGroup (homes_of g) (parents_of g) home s.way
  -- where a fork goes on its parent does
  pub joins : (i : ℕ) (w : GraphWay) → slice_get f.joins i ≡ Some (Some w)
      → (parent : ℕ) × ((slice_get (parents_of g) i ≡ Some (Some parent)) × StaysInGroup (homes_of g) (parents_of g) parent w)
  pub parents : (i parent : ℕ) → slice_get (parents_of g) i ≡ Some (Some parent) → parent < length g.groups.items

-- What the pass that makes graphs states of its graph: it does the phases of the plan.
pub record IsGraphOf (plan : PlainPlan) (g : Graph) : Type 0 where
  pub flow : Flow
  pub shows : IsFlowOf g flow
  pub within : FlowWithin plan flow
  pub groups : GroupsFit g flow
  pub does : FlowsAs flow plan

-- a decision of one thread leads to states that are there, by registers that are there, and does not fork
unfoldable pub FitsThread : (states registers : ℕ) → Decision → Type 0
FitsThread states registers (Go state) = state < states
FitsThread states registers (Test' flag at a at' b) = (flag < registers) × (FitsThread states registers a × FitsThread states registers b)
FitsThread states registers (Count' counter last at a at' b) = (counter < registers) × (FitsThread states registers a × FitsThread states registers b)
FitsThread states registers (Fork groups) = ⊥
FitsThread states registers Rest = Unit {0}

-- What the two walks make of a plan's body is a graph of the plan: marks have room, so states and groups have.
use Rattle.std.proofs.Common.{◌≡◌, ℕ, ◌+◌, ◌*◌, ◌<◌, ◌≤◌, ◌^◌, List, [], ◌∷◌, ◌++◌, length, map, None, refl, ap, sym, ◌∙◌, subst, arith}
use Rattle.std.proofs.lemmas.List.{length-map}
use Rattle.dh_plan.specs.declared.graphs.Graph.{Graph}
use Rattle.dh_plan.specs.PlainPlans.{Nodes, PlainPlan}
use Rattle.dh_plan.specs.PlanRuns.{over}
use Rattle.dh_plan.specs.SeenGraphs.{IsGraphOf}
use Rattle.dh_plan.specs.SoundPlans.{IsFormed}
use Rattle.dh_plan.specs.Ways.{to_end}
use Rattle.dh_flow.specs.declared.measuring.Footprint.{Footprint}
use Rattle.dh_flow.specs.declared.measuring.NodeMark.{NodeMark}
use Rattle.dh_flow.specs.Footprints.{states_in, groups_in}
use Rattle.dh_flow.specs.Measured.{Measures}
use Rattle.dh_flow.specs.PlainFlows.{states, nodes_forked, own_group, plan_states, plan_groups, way_in_nodes}
use Rattle.dh_flow.specs.ToldWays.{ToldWay, graph_way_told, told_rest, told_entry, told_group, states_told, groups_told, group_told, placed_told, forked_told}
use Rattle.dh_flow.specs.GraphWalks.{states_at, groups_at, Room, Starts, Walks}
use Rattle.dh_flow.proofs.GraphShown.{graph_is}
use Rattle.dh_flow.specs.StraightGraphs.{StaysOneThread}
use Rattle.dh_flow.proofs.MarksCover.{marks_cover}
use Rattle.dh_flow.proofs.StraightWays.{never_forks}
use Rattle.dh_flow.proofs.TellsWays.{tells_in}

states_room : (a s t l m : ℕ) → a ≡ 0 → s + t ≤ l → l < m → a + s < m * 2
states_room a s t l m e few less = omega (arith, e, few, less)

groups_room : (b s t l m : ℕ) → b ≡ 1 → s + t ≤ l → l < m → b + t < m * 2
groups_room b s t l m e few less = omega (arith, e, few, less)

no_states : (g : Graph) → g.states.items ≡ [] → states_at g ≡ 0
no_states g e = ap (λ l. length l) e

one_group : (g : Graph) (t : ToldWay) → groups_told g.groups.items ≡ told_group None t None ∷ [] → groups_at g ≡ 1
one_group g t e = sym (length-map g.groups.items group_told) ∙ ap (λ l. length l) e

-- what is told of a graph of the code is told of the plan's
record TellsPlan (plan : PlainPlan) (h : Graph) : Type 0 where
  states_are : states_told h.states.items ≡ map placed_told (plan_states plan.body)
  groups_are : groups_told h.groups.items ≡ map forked_told (plan_groups plan.body)

made : (plan : PlainPlan) (marks rest : List NodeMark) (e : Footprint) (g h : Graph) → length marks < 2 ^ 63 → Measures plan.body [] marks e → Starts e.entry g → Walks plan.body 0 told_rest marks rest g h → TellsPlan plan h
made plan marks rest e g h short measured starts walks =
    let ns = plan.body in
    let cover : states_in ns + groups_in ns ≤ length marks = subst (λ (l : List NodeMark). states_in ns + groups_in ns ≤ length l) (sym measured.marks) (marks_cover ns) in
    let a = no_states g starts.states in
    let b = one_group g (told_entry e.entry 0 1 told_rest) starts.groups in
    let room : Room g (states_in ns) (groups_in ns) = (states_room (states_at g) (states_in ns) (groups_in ns) (length marks) (2 ^ 63) a cover short, groups_room (groups_at g) (states_in ns) (groups_in ns) (length marks) (2 ^ 63) b cover short) in
    let walked = walks.so [] to_end over measured.marks refl room in
    let first : told_entry e.entry 0 1 told_rest ≡ graph_way_told (way_in_nodes ns 0 1 to_end) =
    ap (λ (x : Footprint). told_entry x.entry 0 1 told_rest) measured.footprints ∙ sym (tells_in ns 0 1 to_end (subst (λ (n : ℕ). n + groups_in ns < 2 ^ 64) b room.1)) in
    let states_are : states_told h.states.items ≡ map placed_told (plan_states ns) =
    walked.grows.states ∙ (ap (λ l. states_told l ++ map placed_told (states ns (states_at g) (groups_at g) 0 to_end over)) starts.states
    ∙ (ap (λ x. map placed_told (states ns x (groups_at g) 0 to_end over)) a ∙ ap (λ x. map placed_told (states ns 0 x 0 to_end over)) b)) in
    let groups_are : groups_told h.groups.items ≡ map forked_told (plan_groups ns) =
    walked.grows.groups ∙ (ap (λ l. l ++ map forked_told (nodes_forked ns (states_at g) (groups_at g) 0 to_end over)) (starts.groups ∙ ap (λ t. told_group None t None ∷ []) first)
    ∙ (ap (λ x. forked_told (own_group ns) ∷ map forked_told (nodes_forked ns x (groups_at g) 0 to_end over)) a ∙ ap (λ x. forked_told (own_group ns) ∷ map forked_told (nodes_forked ns 0 x 0 to_end over)) b)) in
    record { states_are = states_are; groups_are = groups_are }

told_by : (plan : PlainPlan) (ns : Nodes) (none marks rest : List NodeMark) (e : Footprint) (g h : Graph) (t : ToldWay) → ns ≡ plan.body → none ≡ [] → t ≡ told_rest → length marks < 2 ^ 63
    → Measures ns none marks e → Starts e.entry g → Walks ns 0 t marks rest g h → TellsPlan plan h
told_by plan ns none marks rest e g h t is empty way short measured starts walks =
    made plan marks rest e g h short
    (subst (λ l. Measures plan.body l marks e) empty (subst (λ n. Measures n none marks e) is measured)) starts
    (subst (λ w. Walks plan.body 0 w marks rest g h) way (subst (λ n. Walks n 0 t marks rest g h) is walks))

pub graph_made : (plan : PlainPlan) (ns : Nodes) (none marks rest : List NodeMark) (e : Footprint) (g h : Graph) (t : ToldWay) → IsFormed plan → ns ≡ plan.body → none ≡ [] → t ≡ told_rest → length marks < 2 ^ 63
    → Measures ns none marks e → Starts e.entry g → Walks ns 0 t marks rest g h → IsGraphOf plan h
graph_made plan ns none marks rest e g h t formed is empty way short measured starts walks =
    let told = told_by plan ns none marks rest e g h t is empty way short measured starts walks in
    graph_is plan h formed told.states_are told.groups_are

pub thread_made : (plan : PlainPlan) (ns : Nodes) (none marks rest : List NodeMark) (e : Footprint) (g h : Graph) (t : ToldWay) → ns ≡ plan.body → none ≡ [] → t ≡ told_rest → length marks < 2 ^ 63
    → Measures ns none marks e → Starts e.entry g → Walks ns 0 t marks rest g h → StaysOneThread plan h
thread_made plan ns none marks rest e g h t is empty way short measured starts walks =
    let told = told_by plan ns none marks rest e g h t is empty way short measured starts walks in
    never_forks plan h told.states_are told.groups_are

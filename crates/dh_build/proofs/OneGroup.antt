-- A graph of one group is of one thread.
use Rattle.std.proofs.Common.{◌≡◌, ℕ, suc, inl, inr, Some, None, List, [], ◌∷◌, length, map, refl, sym, ap, subst, ◌∙◌, arith}
use Rattle.std.specs.Prelude.{Option, slice_get, option_map}
use Rattle.std.specs.List.{AllByRecursion}
use Rattle.std.proofs.lemmas.Option.{slice_get_cases, slice_get_within, slice_get-map}
use Rattle.dh_plan.specs.declared.graphs.Graph.{Graph}
use Rattle.dh_plan.specs.declared.graphs.Group.{Group}
use Rattle.dh_plan.specs.declared.graphs.State.{State}
use Rattle.dh_plan.specs.PlainPlans.{PlainPlan}
use Rattle.dh_plan.specs.SeenGraphs.{IsGraphOf, IsWay, WayWithin, OfFirst, homes_of, parents_of, FitsThread}
use Rattle.dh_plan.specs.Ways.{GraphStop}
use Rattle.dh_control.specs.WiredNets.{IsStraight}
use Rattle.dh_control.proofs.StraightWays.{way_is, way_straight, flow_ways, flow_blocks}
use Rattle.dh_build.specs.GraphFlows.{IsGraphOfThread}

all_at : {A : Type 0} (P : A → Type 0) (xs : List A) → ((i : ℕ) (x : A) → slice_get xs i ≡ Some x → P x) → AllByRecursion P xs
all_at P [] h = tt
all_at P (x ∷ xs) h = (h 0 x refl, all_at P xs (λ i y at. h (suc i) y at))

module _ (plan : PlainPlan) (g : Graph) (group : Group) (h : IsGraphOf plan g) (one : g.groups.items ≡ group ∷ []) where
  parents_are : parents_of g ≡ None ∷ []
  parents_are =
      let all : parents_of g ≡ group.parent ∷ [] = ap (λ (l : List Group). map (λ (k : Group). k.parent) l) one in
      let own : Some group.parent ≡ Some None = ap (λ (l : List (Option ℕ)). slice_get l 0) (sym all) ∙ h.groups.own in
      let none : group.parent ≡ None = cc in
      all ∙ ap (λ (o : Option ℕ). o ∷ []) none

  first_way : IsWay g.groups.items group.first h.flow.first
  first_way = subst (λ (l : List Group). OfFirst (slice_get l 0) (λ d. IsWay g.groups.items d h.flow.first)) one h.shows.first

  first_straight : IsStraight (length h.flow.states) h.flow.first
  first_straight =
      way_straight g.groups.items (homes_of g) (parents_of g) 0 (length h.flow.states) (length plan.registers) group.first h.flow.first parents_are first_way h.groups.first h.within.first

  state_of : (i : ℕ) (s : GraphStop) → slice_get h.flow.states i ≡ Some s → (st : State) × (slice_get g.states.items i ≡ Some st)
  state_of i s at =
      elim (slice_get_cases g.states.items i).1 [
        | inl found ↦ (found.0, found.2)
        | inr past ↦ absurd (let beyond = past.0 in let inside = slice_get_within h.flow.states i s at in let same = h.shows.states in omega (arith, beyond, inside, same))
      ]

  stop_of : (i : ℕ) (st : State) → slice_get g.states.items i ≡ Some st → (s : GraphStop) × (slice_get h.flow.states i ≡ Some s)
  stop_of i st at =
      elim (slice_get_cases h.flow.states i).1 [
        | inl found ↦ (found.0, found.2)
        | inr past ↦ absurd (let beyond = past.0 in let inside = slice_get_within g.states.items i st at in let same = h.shows.states in omega (arith, beyond, inside, same))
      ]

  straight : (i : ℕ) (s : GraphStop) → slice_get h.flow.states i ≡ Some s → IsStraight (length h.flow.states) s.way × WayWithin (length h.flow.states) (length plan.registers) s.way
  straight i s at =
      let st = state_of i s at in
      let home : slice_get (homes_of g) i ≡ Some st.0.group = slice_get-map (λ (y : State). y.group) g.states.items i ∙ ap (λ (o : Option State). option_map (λ (y : State). y.group) o) st.1 in
      let within = h.within.states i s at in (
        way_straight g.groups.items (homes_of g) (parents_of g) st.0.group (length h.flow.states) (length plan.registers) st.0.next s.way parents_are (h.shows.each i st.0 s st.1 at).next (h.groups.states i st.0.group s home at).1 within,
        within,
      )

  pub one_group : IsGraphOfThread plan g h.flow group.first
  one_group = record {
    does = h.does;
    one_thread = record { first = first_straight; states = λ i s at. (straight i s at).0; blocks = h.within.blocks };
    first_is = (way_is g.groups.items (length h.flow.states) (length plan.registers) group.first h.flow.first first_way first_straight h.within.first).0;
    count = h.shows.states;
    blocks_are = flow_blocks g h.flow (length plan.registers) h.shows straight;
    ways_are = flow_ways g h.flow (length plan.registers) h.shows straight;
    fits =
        all_at (λ (st : State). FitsThread (length g.states.items) (length plan.registers) st.next) g.states.items
        (λ i st at.
        let s = stop_of i st at in
        let so = straight i s.0 s.1 in
        subst (λ (n : ℕ). FitsThread n (length plan.registers) st.next) (sym h.shows.states)
        (way_is g.groups.items (length h.flow.states) (length plan.registers) st.next s.0.way (h.shows.each i st s.0 at s.1).next so.0 so.1).1);
  }

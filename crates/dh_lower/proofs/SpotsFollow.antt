-- A graph that does a plan goes on from step to step as the plan does.
-- By recursion on where the graph stands, as both machines recurse: a state by its decision, a fork by its threads in
-- order, each with the registers that the one before it left; when all threads rest their places have ended.
use Rattle.std.proofs.Common.{◌≡◌, ℕ, Bool, true, false, if◌then◌else◌, List, refl, sym, ap, ◌∙◌}
use Rattle.std.specs.Prelude.{slice_get}
use Rattle.dh_plan.specs.PlainPlans.{PlainPlan}
use Rattle.dh_plan.specs.PlanRuns.{PlanPlace, inside, PlanPlaces, PlanNext, plan_next, plan_next_of, has_ended, all_ended, PlanNextPlaces, with_first, threads_joined, plan_place_after, places_after}
use Rattle.dh_plan.specs.Ways.{Flow, GraphSpot, rests, in_state, in_fork, Spots, no_spots, spot_then, GraphLed, led, resolve, way_of_join, place_of_spot, places_of_spots, leads_to, FlowsAs}
use Rattle.dh_lower.specs.SpotsDone.{spot_rests, all_rest, LedAll, with_thread, spots_joined, spot_after, spots_after}

module _ (g : Flow) (plan : PlainPlan) (f : FlowsAs g plan) where
  abbrev place : GraphSpot → PlanPlace
  place spot = place_of_spot g.states f.behind f.after spot

  abbrev places : Spots → PlanPlaces
  places ss = places_of_spots g.states f.behind f.after ss

  rests_as_ended : (spot : GraphSpot) → has_ended (place spot) ≡ spot_rests spot
  rests_as_ended rests = refl
  rests_as_ended (in_state state) = refl
  rests_as_ended (in_fork fork ss) = refl

  all_as_ended : (ss : Spots) → all_ended (places ss) ≡ all_rest ss
  all_as_ended no_spots = refl
  all_as_ended (spot_then s ss) =
      let x = rests_as_ended s in
      let y = all_as_ended ss in
      cc

  -- where threads lead
  abbrev all_lead : LedAll → PlanNextPlaces
  all_lead ls = record { places = places ls.spots; registers = ls.registers }

  joins : (ls : LedAll) (fork : ℕ) → leads_to g.states f.behind f.after (spots_joined plan.registers g ls fork) ≡ threads_joined plan.registers (all_lead ls) (f.after fork)
  joins ls fork = by (all_rest ls.spots) (all_as_ended ls.spots)
    where
      by : (t : Bool) → all_ended (places ls.spots) ≡ t
          → leads_to g.states f.behind f.after (if t then resolve plan.registers (way_of_join (slice_get g.joins fork)) ls.registers else led (in_fork fork ls.spots) ls.registers)
          ≡ (if all_ended (places ls.spots) then plan_next_of plan.registers (f.after fork) ls.registers else plan_next (inside (places ls.spots) (f.after fork)) ls.registers)
      by true e = f.joined fork ls.registers ∙ ap (λ (b : Bool). if b then plan_next_of plan.registers (f.after fork) ls.registers else plan_next (inside (places ls.spots) (f.after fork)) ls.registers) (sym e)
      by false e = ap (λ (b : Bool). if b then plan_next_of plan.registers (f.after fork) ls.registers else plan_next (inside (places ls.spots) (f.after fork)) ls.registers) (sym e)

  thread_then : (l : GraphLed) (n : PlanNext) (ls : LedAll) (ns : PlanNextPlaces) → leads_to g.states f.behind f.after l ≡ n → all_lead ls ≡ ns → all_lead (with_thread l ls) ≡ with_first n ns
  thread_then l n ls ns p q = ap (λ (m : PlanNext). with_first m (all_lead ls)) p ∙ ap (λ (m : PlanNextPlaces). with_first n m) q

  mutual
    pub follows : (spot : GraphSpot) (registers : List ℕ) → leads_to g.states f.behind f.after (spot_after plan.registers g spot registers) ≡ plan_place_after plan.registers (place spot) registers
    follows rests registers = refl
    follows (in_state state) registers = f.each state registers
    follows (in_fork fork ss) registers =
        joins (spots_after plan.registers g ss registers) fork ∙ ap (λ (ns : PlanNextPlaces). threads_joined plan.registers ns (f.after fork)) (all_follow ss registers)

    all_follow : (ss : Spots) (registers : List ℕ) → all_lead (spots_after plan.registers g ss registers) ≡ places_after plan.registers (places ss) registers
    all_follow no_spots registers = refl
    all_follow (spot_then s ss) registers =
        let here = follows s registers in
        thread_then (spot_after plan.registers g s registers) (plan_place_after plan.registers (place s) registers) (spots_after plan.registers g ss (spot_after plan.registers g s registers).registers)
        (places_after plan.registers (places ss) (plan_place_after plan.registers (place s) registers).registers) here
        (all_follow ss (spot_after plan.registers g s registers).registers ∙ ap (λ (n : PlanNext). places_after plan.registers (places ss) n.registers) here)

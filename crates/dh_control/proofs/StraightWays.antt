-- A graph of one group has ways of one thread: its decisions are those ways, and lead where `push_way` can go.
use Rattle.std.proofs.Common.{◌≡◌, ℕ, zero, suc, ◌<◌, inl, inr, Some, None, List, [], ◌∷◌, length, map, refl, sym, ap, subst, ◌∙◌, arith}
use Rattle.std.proofs.lemmas.List.{ext_get_or, length-map}
use Rattle.std.proofs.lemmas.Option.{get_or_from_slice_get, slice_get-map, slice_get_cases}
use Rattle.std.specs.Prelude.{Option, get_or, option_map, slice_get}
use Rattle.dh_plan.specs.declared.graphs.Decision.{Decision}
use Rattle.dh_plan.specs.declared.graphs.Decision.TheVariants.{Go, Test', Count', Fork, Rest}
use Rattle.dh_plan.specs.declared.graphs.Graph.{Graph}
use Rattle.dh_plan.specs.declared.graphs.Group.{Group}
use Rattle.dh_plan.specs.declared.graphs.State.{State}
use Rattle.dh_plan.specs.SeenGraphs.{IsWay, IsFlowOf, WayWithin, StaysInGroup, BeginsGroups, HasFirst, FitsThread}
use Rattle.dh_plan.specs.Ways.{GraphWay, to_state, by_flag, by_count, to_fork, to_end, AllWays, no_ways, way_then, GraphStop, Flow}
use Rattle.dh_control.specs.AllBlocks.{state_ways}
use Rattle.dh_control.specs.WayMoves.{way_of_decision}
use Rattle.dh_control.specs.WiredNets.{IsStraight}

-- A decision is its way.

pub way_is : (groups : List Group) (states registers : ℕ) (d : Decision) (w : GraphWay) → IsWay groups d w → IsStraight states w → WayWithin states registers w
    → (way_of_decision d ≡ w) × FitsThread states registers d
unfolding IsWay way_of_decision FitsThread
way_is groups n r (Go state) (to_state s) h straight within = (ap to_state h, subst (λ (k : ℕ). k < n) (sym h) straight)
way_is groups n r (Go state) (by_flag f w v) h straight within = absurd h
way_is groups n r (Go state) (by_count c l w v) h straight within = absurd h
way_is groups n r (Go state) (to_fork f ws) h straight within = absurd h
way_is groups n r (Go state) to_end h straight within = absurd h
way_is groups n r (Test' flag at a at' b) (to_state s) h straight within = absurd h
way_is groups n r (Test' flag at a at' b) (by_flag f w v) h straight within =
    let p = way_is groups n r a w h.1.0 straight.0 within.1.0 in
    let q = way_is groups n r b v h.1.1 straight.1 within.1.1 in
    ((λ i. by_flag (h.0 i) (p.0 i) (q.0 i)), (subst (λ (k : ℕ). k < r) (sym h.0) within.0, (p.1, q.1)))
way_is groups n r (Test' flag at a at' b) (by_count c l w v) h straight within = absurd h
way_is groups n r (Test' flag at a at' b) (to_fork f ws) h straight within = absurd h
way_is groups n r (Test' flag at a at' b) to_end h straight within = absurd h
way_is groups n r (Count' counter last at a at' b) (to_state s) h straight within = absurd h
way_is groups n r (Count' counter last at a at' b) (by_flag f w v) h straight within = absurd h
way_is groups n r (Count' counter last at a at' b) (by_count c l w v) h straight within =
    let p = way_is groups n r a w h.1.0 straight.0 within.1.0 in
    let q = way_is groups n r b v h.1.1 straight.1 within.1.1 in
    ((λ i. by_count (h.0.0 i) (h.0.1 i) (p.0 i) (q.0 i)), (subst (λ (k : ℕ). k < r) (sym h.0.0) within.0, (p.1, q.1)))
way_is groups n r (Count' counter last at a at' b) (to_fork f ws) h straight within = absurd h
way_is groups n r (Count' counter last at a at' b) to_end h straight within = absurd h
way_is groups n r (Fork forked) (to_state s) h straight within = absurd h
way_is groups n r (Fork forked) (by_flag f w v) h straight within = absurd h
way_is groups n r (Fork forked) (by_count c l w v) h straight within = absurd h
way_is groups n r (Fork forked) (to_fork f ws) h straight within = absurd straight
way_is groups n r (Fork forked) to_end h straight within = absurd h
way_is groups n r Rest (to_state s) h straight within = absurd h
way_is groups n r Rest (by_flag f w v) h straight within = absurd h
way_is groups n r Rest (by_count c l w v) h straight within = absurd h
way_is groups n r Rest (to_fork f ws) h straight within = absurd h
way_is groups n r Rest to_end h straight within = (refl, tt)

-- Where there is one group alone, no way forks.

no_fork : (homes : List ℕ) (parents : List (Option ℕ)) (group f : ℕ) (w : GraphWay) (ws : AllWays) → parents ≡ None ∷ [] → BeginsGroups homes parents group f (way_then w ws) → ⊥
no_fork homes parents group zero w ws one h = let e : Some None ≡ Some (Some group) = subst (λ (l : List (Option ℕ)). slice_get l 0 ≡ Some (Some group)) one h.0 in cc
no_fork homes parents group (suc f) w ws one h = let e : None ≡ Some (Some group) = subst (λ (l : List (Option ℕ)). slice_get l (suc f) ≡ Some (Some group)) one h.0 in cc

none_first : (forked : List ℕ) (f : ℕ) → HasFirst f forked → forked ≡ [] → ⊥
none_first [] f h e = h
none_first (g ∷ gs) f h e = cc

pub way_straight : (groups : List Group) (homes : List ℕ) (parents : List (Option ℕ)) (group states registers : ℕ) (d : Decision) (w : GraphWay) → parents ≡ None ∷ [] → IsWay groups d w
    → StaysInGroup homes parents group w → WayWithin states registers w → IsStraight states w
unfolding IsWay
way_straight groups homes parents group n r d (to_state s) one h stays within = within
way_straight groups homes parents group n r d to_end one h stays within = tt
way_straight groups homes parents group n r (Fork forked) (to_fork f no_ways) one h stays within = absurd (none_first forked.items f h.0 h.1.0)
way_straight groups homes parents group n r (Fork forked) (to_fork f (way_then w ws)) one h stays within = absurd (no_fork homes parents group f w ws one stays)
way_straight groups homes parents group n r (Test' flag at a at' b) (by_flag f w v) one h stays within =
    (way_straight groups homes parents group n r a w one h.1.0 stays.0 within.1.0, way_straight groups homes parents group n r b v one h.1.1 stays.1 within.1.1)
way_straight groups homes parents group n r (Count' counter last at a at' b) (by_count c l w v) one h stays within =
    (way_straight groups homes parents group n r a w one h.1.0 stays.0 within.1.0, way_straight groups homes parents group n r b v one h.1.1 stays.1 within.1.1)
way_straight groups homes parents group n r (Go state) (by_flag f w v) one h stays within = absurd h
way_straight groups homes parents group n r (Go state) (by_count c l w v) one h stays within = absurd h
way_straight groups homes parents group n r (Go state) (to_fork f ws) one h stays within = absurd h
way_straight groups homes parents group n r (Test' flag at a at' b) (by_count c l w v) one h stays within = absurd h
way_straight groups homes parents group n r (Test' flag at a at' b) (to_fork f ws) one h stays within = absurd h
way_straight groups homes parents group n r (Count' counter last at a at' b) (by_flag f w v) one h stays within = absurd h
way_straight groups homes parents group n r (Count' counter last at a at' b) (to_fork f ws) one h stays within = absurd h
way_straight groups homes parents group n r (Fork forked) (by_flag f w v) one h stays within = absurd h
way_straight groups homes parents group n r (Fork forked) (by_count c l w v) one h stays within = absurd h
way_straight groups homes parents group n r Rest (by_flag f w v) one h stays within = absurd h
way_straight groups homes parents group n r Rest (by_count c l w v) one h stays within = absurd h
way_straight groups homes parents group n r Rest (to_fork f ws) one h stays within = absurd h

-- The lists of a graph of one group.

module _ (g : Graph) (f : Flow) (registers : ℕ) (shows : IsFlowOf g f)
    (so : (i : ℕ) (s : GraphStop) → slice_get f.states i ≡ Some s → IsStraight (length f.states) s.way × WayWithin (length f.states) registers s.way) where
  way_at_index : (i : ℕ) → i < length f.states → get_or (state_ways g.states.items) i to_end ≡ get_or (map (λ (s : GraphStop). s.way) f.states) i to_end
  way_at_index i less =
      elim (slice_get_cases g.states.items i).1 [
        | inl found ↦ elim (slice_get_cases f.states i).1 [
          | inl stop ↦
              let each = shows.each i found.0 stop.0 found.2 stop.2 in
              let p = so i stop.0 stop.2 in
              get_or_from_slice_get (state_ways g.states.items) i (way_of_decision found.0.next) to_end
              (slice_get-map (λ (s : State). way_of_decision s.next) g.states.items i ∙ ap (option_map (λ (s : State). way_of_decision s.next)) found.2)
              ∙ ((way_is g.groups.items (length f.states) registers found.0.next stop.0.way each.next p.0 p.1).0
              ∙ sym (get_or_from_slice_get (map (λ (s : GraphStop). s.way) f.states) i stop.0.way to_end
              (slice_get-map (λ (s : GraphStop). s.way) f.states i ∙ ap (option_map (λ (s : GraphStop). s.way)) stop.2)))
          | inr past ↦ absurd (let beyond = past.0 in omega (arith, beyond, less))
        ]
        | inr past ↦ absurd (let beyond = past.0 in let l = shows.states in omega (arith, beyond, less, l))
      ]

  pub flow_ways : state_ways g.states.items ≡ map (λ (s : GraphStop). s.way) f.states
  flow_ways =
      let a = length-map g.states.items (λ (s : State). way_of_decision s.next) in
      let b = length-map f.states (λ (s : GraphStop). s.way) in
      let l = shows.states in
      ext_get_or to_end (state_ways g.states.items) (map (λ (s : GraphStop). s.way) f.states) (omega (arith, a, b, l)) (λ i less. way_at_index i (omega (arith, less, a, l)))

  block_at_index : (i : ℕ) → i < length f.states → get_or (map (λ (s : State). s.block) g.states.items) i 0 ≡ get_or (map (λ (s : GraphStop). s.block) f.states) i 0
  block_at_index i less =
      elim (slice_get_cases g.states.items i).1 [
        | inl found ↦ elim (slice_get_cases f.states i).1 [
          | inl stop ↦
              get_or_from_slice_get (map (λ (s : State). s.block) g.states.items) i found.0.block 0
              (slice_get-map (λ (s : State). s.block) g.states.items i ∙ ap (option_map (λ (s : State). s.block)) found.2)
              ∙ ((shows.each i found.0 stop.0 found.2 stop.2).block
              ∙ sym (get_or_from_slice_get (map (λ (s : GraphStop). s.block) f.states) i stop.0.block 0
              (slice_get-map (λ (s : GraphStop). s.block) f.states i ∙ ap (option_map (λ (s : GraphStop). s.block)) stop.2)))
          | inr past ↦ absurd (let beyond = past.0 in omega (arith, beyond, less))
        ]
        | inr past ↦ absurd (let beyond = past.0 in let l = shows.states in omega (arith, beyond, less, l))
      ]

  pub flow_blocks : map (λ (s : State). s.block) g.states.items ≡ map (λ (s : GraphStop). s.block) f.states
  flow_blocks =
      let a = length-map g.states.items (λ (s : State). s.block) in
      let b = length-map f.states (λ (s : GraphStop). s.block) in
      let l = shows.states in
      ext_get_or 0 (map (λ (s : State). s.block) g.states.items) (map (λ (s : GraphStop). s.block) f.states) (omega (arith, a, b, l)) (λ i less. block_at_index i (omega (arith, less, a, l)))

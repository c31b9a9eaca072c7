-- Of a graph that never forks each way leads to what is there, since it is that of a plain graph whose ways do.
use Rattle.std.proofs.Common.{◌≡◌, ℕ, zero, suc, ◌<◌, List, [], ◌∷◌, length, Some, refl, sym, subst, arith}
use Rattle.std.specs.Prelude.{slice_get}
use Rattle.std.specs.List.{AllByRecursion}
use Rattle.std.proofs.lemmas.Option.{slice_get_within}
use Rattle.dh_plan.specs.declared.graphs.Decision.{Decision}
use Rattle.dh_plan.specs.declared.graphs.Decision.TheVariants.{Go, Test', Count', Fork, Rest}
use Rattle.dh_plan.specs.declared.graphs.Graph.{Graph}
use Rattle.dh_plan.specs.declared.graphs.Group.{Group}
use Rattle.dh_plan.specs.declared.graphs.State.{State}
use Rattle.dh_plan.specs.PlainPlans.{PlainPlan}
use Rattle.dh_plan.specs.SeenGraphs.{IsWay, OfFirst, WayWithin, IsGraphOf, FitsThread}
use Rattle.dh_plan.specs.Ways.{GraphWay, to_state, by_flag, by_count, to_fork, to_end, GraphStop}
use Rattle.dh_flow.specs.StraightGraphs.{DoesNotFork, NeverForks}
use Rattle.dh_backend.specs.OneThread.{GoesWithin}

module _ (groups : List Group) (states registers : ℕ) where
  leads : (d : Decision) (w : GraphWay) → DoesNotFork d → IsWay groups d w → WayWithin states registers w → FitsThread states registers d
  unfolding DoesNotFork IsWay FitsThread
  leads (Go state) (to_state s) f h k = subst (λ (n : ℕ). n < states) (sym h) k
  leads (Go state) (by_flag flag w v) f h k = absurd h
  leads (Go state) (by_count counter last w v) f h k = absurd h
  leads (Go state) (to_fork fork ws) f h k = absurd h
  leads (Go state) to_end f h k = absurd h
  leads (Test' flag at a at' b) (to_state s) f h k = absurd h
  leads (Test' flag at a at' b) (by_flag other w v) f h k =
      (subst (λ (n : ℕ). n < registers) (sym h.0) k.0, (leads a w f.0 h.1.0 k.1.0, leads b v f.1 h.1.1 k.1.1))
  leads (Test' flag at a at' b) (by_count counter last w v) f h k = absurd h
  leads (Test' flag at a at' b) (to_fork fork ws) f h k = absurd h
  leads (Test' flag at a at' b) to_end f h k = absurd h
  leads (Count' counter last at a at' b) (to_state s) f h k = absurd h
  leads (Count' counter last at a at' b) (by_flag flag w v) f h k = absurd h
  leads (Count' counter last at a at' b) (by_count other past w v) f h k =
      (subst (λ (n : ℕ). n < registers) (sym h.0.0) k.0, (leads a w f.0 h.1.0 k.1.0, leads b v f.1 h.1.1 k.1.1))
  leads (Count' counter last at a at' b) (to_fork fork ws) f h k = absurd h
  leads (Count' counter last at a at' b) to_end f h k = absurd h
  leads (Fork forked) w f h k = absurd f
  leads Rest w f h k = tt

-- of each, by its place
all_places : {A : Type 0} (P : A → Type 0) (xs : List A) → ((i : ℕ) (x : A) → slice_get xs i ≡ Some x → P x) → AllByRecursion P xs
all_places P [] h = tt
all_places P (x ∷ xs) h = (h 0 x refl, all_places P xs (λ i y e. h (suc i) y e))

at_place : {A : Type 0} (P : A → Type 0) (xs : List A) → AllByRecursion P xs → (i : ℕ) (x : A) → slice_get xs i ≡ Some x → P x
at_place P [] h i x e = absurd cc
at_place P (y ∷ xs) h zero x e = let same : y ≡ x = cc in subst P same h.0
at_place P (y ∷ xs) h (suc i) x e = at_place P xs h.1 i x e

-- a stop stands for each state
stop_there : (stops : List GraphStop) (i : ℕ) → i < length stops → (s : GraphStop) × (slice_get stops i ≡ Some s)
stop_there [] i h = absurd (omega (arith, h))
stop_there (s ∷ stops) zero h = (s, refl)
stop_there (s ∷ stops) (suc i) h = stop_there stops i (omega (arith, h))

first_leads : (plan : PlainPlan) (states : ℕ) (gs : List Group) (w : GraphWay) → length gs ≡ 1 → OfFirst (slice_get gs 0) (λ d. IsWay gs d w) → WayWithin states (length plan.registers) w
    → AllByRecursion (λ (h : Group). DoesNotFork h.first) gs → AllByRecursion (λ (h : Group). FitsThread states (length plan.registers) h.first) gs
first_leads plan states [] w one h k f = tt
first_leads plan states (g ∷ []) w one h k f = (leads (g ∷ []) states (length plan.registers) g.first w f.0 h k, tt)
first_leads plan states (g ∷ more ∷ gs) w one h k f = absurd (omega (arith, one))

pub goes_within : (plan : PlainPlan) (g : Graph) → IsGraphOf plan g → NeverForks g → GoesWithin plan g
goes_within plan g is never =
    let f = is.flow in
    let long = is.shows.states in
    record {
      blocks = all_places (λ (s : State). s.block < length plan.blocks) g.states.items (λ i s e.
          let r = stop_there f.states i (let w = slice_get_within g.states.items i s e in omega (arith, w, long)) in
          let same = (is.shows.each i s r.0 e r.1).block in
          subst (λ (n : ℕ). n < length plan.blocks) (sym same) (is.within.blocks i r.0 r.1));
      states = all_places (λ (s : State). FitsThread (length g.states.items) (length plan.registers) s.next) g.states.items (λ i s e.
          let r = stop_there f.states i (let w = slice_get_within g.states.items i s e in omega (arith, w, long)) in
          let way = (is.shows.each i s r.0 e r.1).next in
          let straight = at_place (λ (t : State). DoesNotFork t.next) g.states.items never.states i s e in
          leads g.groups.items (length g.states.items) (length plan.registers) s.next r.0.way straight way
          (subst (λ (n : ℕ). WayWithin n (length plan.registers) r.0.way) (sym long) (is.within.states i r.0 r.1)));
      first = first_leads plan (length g.states.items) g.groups.items f.first never.alone is.shows.first
          (subst (λ (n : ℕ). WayWithin n (length plan.registers) f.first) (sym long) is.within.first) never.groups;
    }

-- The ways behind states, one state after the other.
use Rattle.std.proofs.Common.{◌≡◌, ◌⊎◌, ℕ, zero, suc, ◌+◌, ◌<◌, ◌≤◌, ◌==◌, ◌&&◌, inl, inr, true, false, List, [], ◌∷◌, length, refl, sym, ap, subst, ◌∙◌, arith}
use Rattle.std.specs.Prelude.{get_or}
use Rattle.std.proofs.lemmas.Bool.{cases_eq}
use Rattle.std.proofs.lemmas.Bool.Decides.{nat_tests}
use Rattle.std.proofs.lemmas.List.{get_or-map}
use Rattle.dh_plan.specs.declared.graphs.State.{State}
use Rattle.dh_plan.specs.Ways.{GraphWay, to_end, resolve}
use Rattle.dh_cells.specs.PlainCircuits.{PlainCircuit}
use Rattle.dh_cells.specs.Settled.{Signals, IsSettled, Grows, Shows, Adds, shown}
use Rattle.dh_cells.specs.ShownValues.{is_one, both_shown, match_shown}
use Rattle.dh_cells.proofs.CellsAppended.{grows_none, grows_then, settled_fewer}
use Rattle.dh_cells.proofs.OperatorBits.{bit_tells}
use Rattle.dh_control.specs.declared.gathering.Keyed.{Keyed}
use Rattle.dh_control.specs.AllBlocks.{state_ways, graph_way_at, WaysAdded}
use Rattle.dh_control.specs.MovedValues.{Move, moved_values}
use Rattle.dh_control.specs.SizedWires.{shown_all}
use Rattle.dh_control.specs.StateWires.{AreStands}
use Rattle.dh_control.specs.WayMoves.{spot_number, way_of_decision, WayAdded}
use Rattle.dh_control.proofs.MovedLists.{moves_stay}
use Rattle.dh_control.proofs.WaysMoved.{both_true, both_no_test, both_no_first}

same_test : (a b : ℕ) → a ≡ b → (a == b) ≡ true
same_test a b e = grind (arith, e, nat_tests)

other_test : (a b : ℕ) → (a ≡ b → ⊥) → (a == b) ≡ false
other_test a b n = grind (arith, n, nat_tests)

-- the wire of a state
pub stand_at : (d : PlainCircuit) (state first i n : ℕ) (bs : List ℕ) (ks : List (Keyed ℕ)) (k : Keyed ℕ) → AreStands d state first bs ks → i < length ks → n ≡ first + i → Shows d (get_or ks i k).item 1 (match_shown state n)
stand_at d state first i n [] [] k h less is = absurd (omega (arith, less))
stand_at d state first i n [] (l ∷ ks) k h less is = absurd h
stand_at d state first i n (b ∷ bs) [] k h less is = absurd h
stand_at d state first zero n (b ∷ bs) (l ∷ ks) k h less is =
    let here : first ≡ n = omega (arith, is) in
    subst (λ (m : ℕ). Shows d l.item 1 (match_shown state m)) here h.0.1
stand_at d state first (suc i) n (b ∷ bs) (l ∷ ks) k h less is = stand_at d state (suc first) i n bs ks k h.1 (omega (arith, less)) (omega (arith, is))

pub stands_long : (d : PlainCircuit) (state first : ℕ) (bs : List ℕ) (ks : List (Keyed ℕ)) → AreStands d state first bs ks → length ks ≡ length bs
stands_long d state first [] [] h = refl
stands_long d state first [] (k ∷ ks) h = absurd h
stands_long d state first (b ∷ bs) [] h = absurd h
stands_long d state first (b ∷ bs) (k ∷ ks) h = ap suc (stands_long d state (suc first) bs ks h.1)

pub way_of_state : (states : List State) (i : ℕ) (s : State) → i < length states → graph_way_at (state_ways states) i ≡ way_of_decision (get_or states i s).next
way_of_state states i s less = get_or-map (λ s. way_of_decision s.next) states i s to_end less

pub no_ways : (d : PlainCircuit) (widths : List ℕ) (width states state commit : ℕ) (after : List ℕ) (ways : List GraphWay) (moves leads : List Move)
    → WaysAdded d d widths width states state commit after ways 0 moves moves leads leads
no_ways d widths width states state commit after ways moves leads = record {
  grows = grows_none d;
  moves_fit = λ h. h;
  leads_fit = λ h. h;
  turns = λ x kinds n s same on at less. absurd (omega (arith, less));
  goes = λ x kinds n k s same on at less. absurd (omega (arith, less));
  keeps = λ x values s off. refl;
  stays = λ x values s off. refl;
}

module _ (d e f g : PlainCircuit) (widths : List ℕ) (width states state commit : ℕ) (after again : List ℕ) (ways : List GraphWay) (count active stand : ℕ) (way : GraphWay) (m0 m1 m2 l0 l1 l2 : List Move)
    (p : WaysAdded d e widths width states state commit after ways count m0 m1 l0 l1) (b : Adds e f active 1 (both_shown commit stand))
    (stands : Shows d stand 1 (match_shown state count)) (same_after : again ≡ after) (q : WayAdded f g widths width states active again way m1 m2 l1 l2) (is : graph_way_at ways count ≡ way) where
  q' : WayAdded f g widths width states active after way m1 m2 l1 l2
  q' = subst (λ (l : List ℕ). WayAdded f g widths width states active l way m1 m2 l1 l2) same_after q

  e_g : Grows e g
  e_g = grows_then e f g b.grows q.grows

  in_e : (x : Signals) → IsSettled g x → IsSettled e x
  in_e x s = settled_fewer e g x e_g s

  active_is : (x : Signals) → IsSettled g x → is_one x active ≡ (is_one x commit && (shown x state == count))
  active_is x s =
      let in_f = settled_fewer f g x q.grows s in
      let in_d = settled_fewer d e x p.grows (in_e x s) in
      bit_tells (shown x active) _ (b.shows.is x in_f) ∙ ap (λ t. is_one x commit && t) (bit_tells (shown x stand) (shown x state == count) (stands.is x in_d))

  active_on : (x : Signals) → IsSettled g x → is_one x commit ≡ true → shown x state ≡ count → is_one x active ≡ true
  active_on x s on at = both_true (is_one x commit) _ (is_one x active) (active_is x s) on (same_test (shown x state) count at)

  active_off : (x : Signals) → IsSettled g x → (shown x state ≡ count → ⊥) → is_one x active ≡ false
  active_off x s at = both_no_test (is_one x commit) _ (is_one x active) (active_is x s) (other_test (shown x state) count at)

  none_active : (x : Signals) → IsSettled g x → (is_one x commit ≡ false) ⊎ (count + 1 ≤ shown x state) → is_one x active ≡ false
  none_active x s off = elim off [
    | inl none ↦ both_no_first (is_one x commit) _ (is_one x active) (active_is x s) none
    | inr past ↦ active_off x s (λ e. let f : ⊥ = omega (arith, e, past) in f)
  ]

  still_none : (x : Signals) → (is_one x commit ≡ false) ⊎ (count + 1 ≤ shown x state) → (is_one x commit ≡ false) ⊎ (count ≤ shown x state)
  still_none x off = elim off [
    | inl none ↦ inl none
    | inr past ↦ inr (omega (arith, past))
  ]

  pub next_way : WaysAdded d g widths width states state commit after ways (count + 1) m0 m2 l0 l2
  next_way = record {
    grows = grows_then d e g p.grows e_g;
    moves_fit = λ h. q.moves_fit (moves_stay e f widths m1 b.grows (p.moves_fit h));
    leads_fit = λ h. q.leads_fit (moves_stay e f (width ∷ []) l1 b.grows (p.leads_fit h));
    turns = λ x kinds n s same on at less. elim (cases_eq n count) [
      | inl here ↦
          q'.turns x kinds s same (active_on x s on (at ∙ here))
          ∙ (p.keeps x _ (in_e x s) (inr (let m : count ≤ shown x state = omega (arith, at, here) in m))
          ∙ sym (ap (λ w. moved_values x m0 (resolve kinds w (shown_all x after)).registers) (ap (λ k. graph_way_at ways k) here ∙ is)))
      | inr other ↦
          q'.keeps x (shown_all x after) s (active_off x s (λ e. other (sym at ∙ e)))
          ∙ p.turns x kinds n (in_e x s) same on at (omega (arith, less, other))
    ];
    goes = λ x kinds n k s same on at less. elim (cases_eq n count) [
      | inl here ↦
          q'.goes x kinds k s same (active_on x s on (at ∙ here))
          ∙ (p.stays x _ (in_e x s) (inr (let m : count ≤ shown x state = omega (arith, at, here) in m))
          ∙ sym (ap (λ w. moved_values x l0 (spot_number states (resolve kinds w (shown_all x after)).spot ∷ [])) (ap (λ k. graph_way_at ways k) here ∙ is)))
      | inr other ↦
          q'.stays x (k ∷ []) s (active_off x s (λ e. other (sym at ∙ e)))
          ∙ p.goes x kinds n k (in_e x s) same on at (omega (arith, less, other))
    ];
    keeps = λ x values s off. q'.keeps x values s (none_active x s off) ∙ p.keeps x values (in_e x s) (still_none x off);
    stays = λ x values s off. q'.stays x values s (none_active x s off) ∙ p.stays x values (in_e x s) (still_none x off);
  }

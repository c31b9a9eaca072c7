-- The moves of a way, form by form.
use Rattle.std.proofs.Common.{◌≡◌, ℕ, ◌<◌, ◌^◌, ◌==◌, ◌&&◌, not, inl, inr, Bool, true, false, if◌then◌else◌, List, [], ◌∷◌, ◌++◌, length, refl, sym, ap, subst, ◌∙◌, arith}
use Rattle.std.specs.Prelude.{slice_index, slice_set}
use Rattle.std.proofs.lemmas.Bool.{cases_Bool}
use Rattle.dh_value.specs.declared.kinds.Kind.{Kind}
use Rattle.dh_plan.specs.PlanRuns.{flag_holds}
use Rattle.dh_plan.specs.Ways.{GraphWay, to_state, by_flag, to_end, GraphLed, resolve}
use Rattle.dh_cells.specs.PlainCircuits.{PlainCircuit}
use Rattle.dh_cells.specs.Settled.{Signals, IsSettled, Grows, IsWire, Adds, shown}
use Rattle.dh_cells.specs.ShownValues.{is_one, number_shown, more_shown, match_shown, both_shown, not_shown}
use Rattle.dh_cells.proofs.CellsAppended.{grows_then, settled_fewer, wire_stays, shows_later}
use Rattle.dh_cells.proofs.OperatorBits.{bit_tells}
use Rattle.dh_control.specs.declared.leading.Branch.{Branch}
use Rattle.dh_control.specs.MovedValues.{Move, set_where, moved_values, MoveFits, AreMoves}
use Rattle.dh_control.specs.SizedWires.{WiresAreSized, shown_all}
use Rattle.dh_control.specs.WayMoves.{HoldsStates, spot_number, BranchMade, CountedMade, LeadAdded, WayAdded}
use Rattle.dh_control.proofs.ListFacts.{all_both}
use Rattle.dh_control.proofs.MovedLists.{moves_stay, sized_stay, shown_at}
use Rattle.dh_control.proofs.SetsMoved.{moved_behind}

-- Two branches.

pub branch_made : (d e f g h : PlainCircuit) (active wire number test chosen fails other : ℕ) → Adds d e test 1 (match_shown wire number) → Adds e f chosen 1 (both_shown active test)
    → Adds f g fails 1 (not_shown test) → Adds g h other 1 (both_shown active fails) → BranchMade d h active wire number (record { chosen = chosen; other = other })
branch_made d e f g h active wire number test chosen fails other a b c o =
    let f_h = grows_then f g h c.grows o.grows in
    let test_is : (x : Signals) → IsSettled e x → is_one x test ≡ (shown x wire == number) = (λ x s. bit_tells (shown x test) (shown x wire == number) (a.shows.is x s)) in
    record {
      grows = grows_then d e h a.grows (grows_then e f h b.grows f_h);
      chosen = wire_stays f h chosen 1 f_h b.shows.there;
      other = o.shows.there;
      chosen_is = λ x s.
          let in_f = settled_fewer f h x f_h s in
          bit_tells (shown x chosen) _ (b.shows.is x in_f) ∙ ap (λ t. is_one x active && t) (test_is x (settled_fewer e f x b.grows in_f));
      other_is = λ x s.
          let in_g = settled_fewer g h x o.grows s in
          let in_e = settled_fewer e f x b.grows (settled_fewer f g x c.grows in_g) in
          bit_tells (shown x other) _ (o.shows.is x s)
          ∙ ap (λ t. is_one x active && t) (bit_tells (shown x fails) _ (c.shows.is x in_g) ∙ ap not (test_is x in_e));
    }

pub counted_made : (d e f : PlainCircuit) (width wire none more : ℕ) → Adds d e none width (number_shown 0) → Adds e f more width (more_shown width wire)
    → CountedMade d f width wire (record { none = none; more = more })
counted_made d e f width wire none more a b = record {
  grows = grows_then d e f a.grows b.grows;
  none = shows_later e f none width (number_shown 0) b.grows a.shows;
  more = b.shows;
}

-- A move of the state.

set_one : (t : Bool) (n k : ℕ) → t ≡ true → set_where t 0 k (n ∷ []) ≡ k ∷ []
set_one true n k e = refl
set_one false n k e = absurd (let f : false ≡ true = e in cc)

pub set_none : (t : Bool) (place value : ℕ) (values : List ℕ) → t ≡ false → set_where t place value values ≡ values
set_none false place value values e = refl
set_none true place value values e = absurd (let f : true ≡ false = e in cc)

pub set_some : (t : Bool) (place value : ℕ) (values : List ℕ) → t ≡ true → set_where t place value values ≡ slice_set values place value
set_some true place value values e = refl
set_some false place value values e = absurd (let f : false ≡ true = e in cc)

pub lead_added : (d e : PlainCircuit) (width active number value : ℕ) (before after : List Move) → IsWire d active 1 → Adds d e value width (number_shown number)
    → after ≡ before ++ record { key = 0; item = record { test = active; value = value } } ∷ [] → LeadAdded d e width active number before after
lead_added d e width active number value before after test a put = record {
  grows = a.grows;
  fits = λ h.
      subst (λ (l : List Move). AreMoves e (width ∷ []) l) (sym put)
      (all_both (MoveFits e (width ∷ [])) before _ (moves_stay d e (width ∷ []) before a.grows h)
      ((λ less. record { test = wire_stays d e active 1 a.grows test; value = a.shows.there }), tt));
  goes = λ x n s on.
      ap (λ l. moved_values x l (n ∷ [])) put
      ∙ (moved_behind x before _ (n ∷ [])
      ∙ ap (λ vs. moved_values x before vs) (set_one (is_one x active) n (shown x value) on ∙ ap (λ k. k ∷ []) (a.shows.is x s)));
  stays = λ x values s off.
      ap (λ l. moved_values x l values) put ∙ (moved_behind x before _ values ∙ ap (λ vs. moved_values x before vs) (set_none (is_one x active) 0 (shown x value) values off));
}

-- where a way only leads to a number
pub lead_way : (d e : PlainCircuit) (widths : List ℕ) (width states active : ℕ) (after : List ℕ) (w : GraphWay) (number : ℕ) (moves leads further : List Move)
    → ((kinds : List Kind) (values : List ℕ) → ((resolve kinds w values).registers ≡ values) × (spot_number states (resolve kinds w values).spot ≡ number))
    → LeadAdded d e width active number leads further → WayAdded d e widths width states active after w moves moves leads further
lead_way d e widths width states active after w number moves leads further so a = record {
  grows = a.grows;
  moves_fit = λ h. moves_stay d e widths moves a.grows h;
  leads_fit = a.fits;
  turns = λ x kinds s same on. ap (λ vs. moved_values x moves vs) (sym (so kinds (shown_all x after)).0);
  goes = λ x kinds n s same on. a.goes x n s on ∙ ap (λ k. moved_values x leads (k ∷ [])) (sym (so kinds (shown_all x after)).1);
  keeps = λ x values s off. refl;
  stays = a.stays;
}

pub go_way : (d e : PlainCircuit) (widths : List ℕ) (width states active : ℕ) (after : List ℕ) (w : GraphWay) (state : ℕ) (moves leads further : List Move) → w ≡ to_state state
    → LeadAdded d e width active state leads further → WayAdded d e widths width states active after w moves moves leads further
go_way d e widths width states active after w state moves leads further is a =
    subst (λ (v : GraphWay). WayAdded d e widths width states active after v moves moves leads further) (sym is)
    (lead_way d e widths width states active after (to_state state) state moves leads further (λ kinds values. (refl, refl)) a)

pub rest_way : (d e : PlainCircuit) (widths : List ℕ) (width states active : ℕ) (after : List ℕ) (w : GraphWay) (moves leads further : List Move) → w ≡ to_end
    → LeadAdded d e width active states leads further → WayAdded d e widths width states active after w moves moves leads further
rest_way d e widths width states active after w moves leads further is a =
    subst (λ (v : GraphWay). WayAdded d e widths width states active after v moves moves leads further) (sym is)
    (lead_way d e widths width states active after to_end states moves leads further (λ kinds values. (refl, refl)) a)

-- Tests of a branch.

pub both_true : (a t b : Bool) → b ≡ (a && t) → a ≡ true → t ≡ true → b ≡ true
both_true true true b e p q = e
both_true true false b e p q = absurd (let f : false ≡ true = q in cc)
both_true false t b e p q = absurd (let f : false ≡ true = p in cc)

pub both_no_test : (a t b : Bool) → b ≡ (a && t) → t ≡ false → b ≡ false
both_no_test true false b e q = e
both_no_test false false b e q = e
both_no_test a true b e q = absurd (let f : true ≡ false = q in cc)

pub both_no_first : (a t b : Bool) → b ≡ (a && t) → a ≡ false → b ≡ false
both_no_first false t b e q = e
both_no_first true t b e q = absurd (let f : true ≡ false = q in cc)

pub not_true : (t : Bool) → t ≡ true → not t ≡ false
not_true t e = ap not e

pub not_false : (t : Bool) → t ≡ false → not t ≡ true
not_false t e = ap not e

-- By a flag.

module _ (d e f g : PlainCircuit) (widths : List ℕ) (width states active : ℕ) (after : List ℕ) (flag : ℕ) (w v : GraphWay) (b : Branch) (m0 m1 m2 l0 l1 l2 : List Move)
    (inside : flag < length after) (a : BranchMade d e active (slice_index after flag) 1 b)
    (p : WayAdded e f widths width states b.chosen after w m0 m1 l0 l1) (q : WayAdded f g widths width states b.other after v m1 m2 l1 l2) where
  e_g : Grows e g
  e_g = grows_then e f g p.grows q.grows

  flag_is : (x : Signals) → (shown x (slice_index after flag) == 1) ≡ flag_holds (shown_all x after) flag
  flag_is x = ap (λ n. n == 1) (sym (shown_at x after flag inside))

  in_f : (x : Signals) → IsSettled g x → IsSettled f x
  in_f x s = settled_fewer f g x q.grows s

  chosen_on : (x : Signals) → IsSettled g x → is_one x active ≡ true → flag_holds (shown_all x after) flag ≡ true → is_one x b.chosen ≡ true
  chosen_on x s on holds = both_true (is_one x active) _ (is_one x b.chosen) (a.chosen_is x (settled_fewer e g x e_g s)) on (flag_is x ∙ holds)

  chosen_off : (x : Signals) → IsSettled g x → flag_holds (shown_all x after) flag ≡ false → is_one x b.chosen ≡ false
  chosen_off x s none = both_no_test (is_one x active) _ (is_one x b.chosen) (a.chosen_is x (settled_fewer e g x e_g s)) (flag_is x ∙ none)

  other_on : (x : Signals) → IsSettled g x → is_one x active ≡ true → flag_holds (shown_all x after) flag ≡ false → is_one x b.other ≡ true
  other_on x s on none = both_true (is_one x active) _ (is_one x b.other) (a.other_is x (settled_fewer e g x e_g s)) on (not_false _ (flag_is x ∙ none))

  other_off : (x : Signals) → IsSettled g x → flag_holds (shown_all x after) flag ≡ true → is_one x b.other ≡ false
  other_off x s holds = both_no_test (is_one x active) _ (is_one x b.other) (a.other_is x (settled_fewer e g x e_g s)) (not_true _ (flag_is x ∙ holds))

  none_chosen : (x : Signals) → IsSettled g x → is_one x active ≡ false → is_one x b.chosen ≡ false
  none_chosen x s off = both_no_first (is_one x active) _ (is_one x b.chosen) (a.chosen_is x (settled_fewer e g x e_g s)) off

  none_other : (x : Signals) → IsSettled g x → is_one x active ≡ false → is_one x b.other ≡ false
  none_other x s off = both_no_first (is_one x active) _ (is_one x b.other) (a.other_is x (settled_fewer e g x e_g s)) off

  abbrev led_by : (kinds : List Kind) → List ℕ → Bool → GraphLed
  led_by kinds values t = if t then resolve kinds w values else resolve kinds v values

  pub test_way : WayAdded d g widths width states active after (by_flag flag w v) m0 m2 l0 l2
  test_way = record {
    grows = grows_then d e g a.grows e_g;
    moves_fit = λ h. q.moves_fit (p.moves_fit (moves_stay d e widths m0 a.grows h));
    leads_fit = λ h. q.leads_fit (p.leads_fit (moves_stay d e (width ∷ []) l0 a.grows h));
    turns = λ x kinds s same on. elim (cases_Bool (flag_holds (shown_all x after) flag)) [
      | inl holds ↦
          q.keeps x (shown_all x after) s (other_off x s holds)
          ∙ (p.turns x kinds (in_f x s) same (chosen_on x s on holds) ∙ sym (ap (λ t. moved_values x m0 (led_by kinds (shown_all x after) t).registers) holds))
      | inr none ↦
          q.turns x kinds s same (other_on x s on none)
          ∙ (p.keeps x _ (in_f x s) (chosen_off x s none) ∙ sym (ap (λ t. moved_values x m0 (led_by kinds (shown_all x after) t).registers) none))
    ];
    goes = λ x kinds n s same on. elim (cases_Bool (flag_holds (shown_all x after) flag)) [
      | inl holds ↦
          q.stays x (n ∷ []) s (other_off x s holds)
          ∙ (p.goes x kinds n (in_f x s) same (chosen_on x s on holds) ∙ sym (ap (λ t. moved_values x l0 (spot_number states (led_by kinds (shown_all x after) t).spot ∷ [])) holds))
      | inr none ↦
          q.goes x kinds n s same (other_on x s on none)
          ∙ (p.stays x _ (in_f x s) (chosen_off x s none) ∙ sym (ap (λ t. moved_values x l0 (spot_number states (led_by kinds (shown_all x after) t).spot ∷ [])) none))
    ];
    keeps = λ x values s off. q.keeps x values s (none_other x s off) ∙ p.keeps x values (in_f x s) (none_chosen x s off);
    stays = λ x values s off. q.stays x values s (none_other x s off) ∙ p.stays x values (in_f x s) (none_chosen x s off);
  }

-- a decision by a flag, where registers stand as they did when its second way is added
pub test_done : (d e f g : PlainCircuit) (widths : List ℕ) (width states active : ℕ) (after again : List ℕ) (flag : ℕ) (whole w v : GraphWay) (b : Branch) (m0 m1 m2 l0 l1 l2 : List Move)
    → flag < length after → BranchMade d e active (slice_index after flag) 1 b → WayAdded e f widths width states b.chosen after w m0 m1 l0 l1 → again ≡ after
    → WayAdded f g widths width states b.other again v m1 m2 l1 l2 → whole ≡ by_flag flag w v → WayAdded d g widths width states active after whole m0 m2 l0 l2
test_done d e f g widths width states active after again flag whole w v b m0 m1 m2 l0 l1 l2 inside a p same q is =
    subst (λ (y : GraphWay). WayAdded d g widths width states active after y m0 m2 l0 l2) (sym is)
    (test_way d e f g widths width states active after flag w v b m0 m1 m2 l0 l1 l2 inside a p (subst (λ (l : List ℕ). WayAdded f g widths width states b.other l v m1 m2 l1 l2) same q))

pub after_sized : (d e : PlainCircuit) (widths wires : List ℕ) (items : List ℕ) → Grows d e → wires ≡ items → WiresAreSized d widths items → WiresAreSized e widths wires
after_sized d e widths wires items g same h = subst (λ (l : List ℕ). WiresAreSized e widths l) (sym same) (sized_stay d e widths items g h)

pub holds_fewer : (width states number : ℕ) → HoldsStates width states → number < states → HoldsStates width number
holds_fewer width states number h less = (h.0, fewer (2 ^ width) h.1)
  where
    fewer : (m : ℕ) → states < m → number < m
    fewer m most = omega (arith, less, most)

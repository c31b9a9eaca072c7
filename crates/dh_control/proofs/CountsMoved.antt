-- The moves of a way by a counter.
use Rattle.std.proofs.Common.{◌≡◌, ℕ, zero, suc, ◌+◌, ◌<◌, ◌%◌, ◌^◌, ◌==◌, inl, inr, Bool, true, false, if◌then◌else◌, List, [], ◌∷◌, ◌++◌, length, map, refl, sym, ap, subst, ◌∙◌, arith}
use Rattle.std.specs.Prelude.{slice_index, slice_set}
use Rattle.std.proofs.lemmas.Bool.{cases_Bool, cases_eq}
use Rattle.std.proofs.lemmas.List.{get_or-map, length-map, length-set, map-set, get_or-set_same, get_or-set_other, set-get_or}
use Rattle.dh_value.specs.declared.kinds.Kind.{Kind}
use Rattle.dh_value.specs.declared.kinds.Kind.TheVariants as kind
use Rattle.dh_value.specs.Words.{width_of}
use Rattle.dh_plan.specs.Blocks.{kind_at}
use Rattle.dh_plan.specs.PlanRuns.{counted_up}
use Rattle.dh_plan.specs.Ways.{GraphWay, by_count, GraphLed, resolve}
use Rattle.dh_cells.specs.PlainCircuits.{PlainCircuit}
use Rattle.dh_cells.specs.Settled.{Signals, IsSettled, Grows, IsWire, shown}
use Rattle.dh_cells.specs.ShownValues.{is_one}
use Rattle.dh_cells.proofs.CellsAppended.{grows_then, settled_fewer, wire_stays}
use Rattle.dh_control.specs.declared.leading.Branch.{Branch}
use Rattle.dh_control.specs.declared.leading.Counted.{Counted}
use Rattle.dh_control.specs.MovedValues.{Move, set_where, moved_values, MoveFits, AreMoves}
use Rattle.dh_control.specs.SizedWires.{WiresAreSized, shown_all}
use Rattle.dh_control.specs.WayMoves.{spot_number, BranchMade, CountedMade, WayAdded, counts}
use Rattle.dh_control.proofs.ListFacts.{all_both}
use Rattle.dh_control.proofs.MovedLists.{moves_stay, shown_at}
use Rattle.dh_control.proofs.SetsMoved.{moved_behind}
use Rattle.dh_control.proofs.WaysMoved.{both_true, both_no_test, both_no_first, not_true, not_false, set_none, set_some}

-- By a counter.

shown_set : (x : Signals) (wires : List ℕ) (place wire : ℕ) → shown_all x (slice_set wires place wire) ≡ slice_set (shown_all x wires) place (shown x wire)
shown_set x wires place wire = map-set (λ w. shown x w) wires place wire

width_at : (kinds : List Kind) (widths : List ℕ) (r : ℕ) → map width_of kinds ≡ widths → r < length widths → slice_index widths r ≡ width_of (kind_at kinds r)
width_at kinds widths r same less =
    let long = ap (λ l. length l) same in
    let mapped = length-map kinds width_of in
    ap (λ l. slice_index l r) (sym same) ∙ get_or-map width_of kinds r kind.Bool 0 (omega (arith, long, mapped, less))

module _ (d d1 e f g : PlainCircuit) (widths : List ℕ) (width states active : ℕ) (after after1 after2 : List ℕ) (counter last : ℕ) (again past : GraphWay) (b : Branch) (c : Counted)
    (m0 m1 m2 m3 l0 l1 l2 : List Move) (inside : counter < length widths) (sized : WiresAreSized d widths after) (a : BranchMade d d1 active (slice_index after counter) last b)
    (made : CountedMade d1 e (slice_index widths counter) (slice_index after counter) c) (first : after1 ≡ slice_set after counter c.none) (second : after2 ≡ slice_set after counter c.more)
    (p : WayAdded e f widths width states b.chosen after1 past m0 m1 l0 l1) (q : WayAdded f g widths width states b.other after2 again m1 m2 l1 l2) (put : m3 ≡ m2 ++ counts counter b c) where
  e_g : Grows e g
  e_g = grows_then e f g p.grows q.grows

  d1_g : Grows d1 g
  d1_g = grows_then d1 e g made.grows e_g

  there : counter < length after
  there = let l = sized.long in omega (arith, l, inside)

  abbrev at_last : Signals → Bool
  at_last x = slice_index (shown_all x after) counter == last

  last_is : (x : Signals) → (shown x (slice_index after counter) == last) ≡ at_last x
  last_is x = ap (λ n. n == last) (sym (shown_at x after counter there))

  in_f : (x : Signals) → IsSettled g x → IsSettled f x
  in_f x s = settled_fewer f g x q.grows s

  in_d1 : (x : Signals) → IsSettled g x → IsSettled d1 x
  in_d1 x s = settled_fewer d1 g x d1_g s

  in_e : (x : Signals) → IsSettled g x → IsSettled e x
  in_e x s = settled_fewer e g x e_g s

  chosen_on : (x : Signals) → IsSettled g x → is_one x active ≡ true → at_last x ≡ true → is_one x b.chosen ≡ true
  chosen_on x s on holds = both_true (is_one x active) _ (is_one x b.chosen) (a.chosen_is x (in_d1 x s)) on (last_is x ∙ holds)

  chosen_off : (x : Signals) → IsSettled g x → at_last x ≡ false → is_one x b.chosen ≡ false
  chosen_off x s none = both_no_test (is_one x active) _ (is_one x b.chosen) (a.chosen_is x (in_d1 x s)) (last_is x ∙ none)

  other_on : (x : Signals) → IsSettled g x → is_one x active ≡ true → at_last x ≡ false → is_one x b.other ≡ true
  other_on x s on none = both_true (is_one x active) _ (is_one x b.other) (a.other_is x (in_d1 x s)) on (not_false _ (last_is x ∙ none))

  other_off : (x : Signals) → IsSettled g x → at_last x ≡ true → is_one x b.other ≡ false
  other_off x s holds = both_no_test (is_one x active) _ (is_one x b.other) (a.other_is x (in_d1 x s)) (not_true _ (last_is x ∙ holds))

  none_chosen : (x : Signals) → IsSettled g x → is_one x active ≡ false → is_one x b.chosen ≡ false
  none_chosen x s off = both_no_first (is_one x active) _ (is_one x b.chosen) (a.chosen_is x (in_d1 x s)) off

  none_other : (x : Signals) → IsSettled g x → is_one x active ≡ false → is_one x b.other ≡ false
  none_other x s off = both_no_first (is_one x active) _ (is_one x b.other) (a.other_is x (in_d1 x s)) off

  -- what the registers are past the loop, and in its next turn
  past_shown : (x : Signals) → IsSettled g x → shown_all x after1 ≡ slice_set (shown_all x after) counter 0
  past_shown x s = ap (λ l. shown_all x l) first ∙ (shown_set x after counter c.none ∙ ap (λ n. slice_set (shown_all x after) counter n) (made.none.is x (in_e x s)))

  more_value : (x : Signals) (kinds : List Kind) → IsSettled g x → map width_of kinds ≡ widths
      → shown x c.more ≡ (slice_index (shown_all x after) counter + 1) % 2 ^ width_of (kind_at kinds counter)
  more_value x kinds s same =
      made.more.is x (in_e x s)
      ∙ (ap (λ n. (n + 1) % 2 ^ slice_index widths counter) (sym (shown_at x after counter there))
      ∙ ap (λ k. (slice_index (shown_all x after) counter + 1) % 2 ^ k) (width_at kinds widths counter same inside))

  again_shown : (x : Signals) (kinds : List Kind) → IsSettled g x → map width_of kinds ≡ widths → shown_all x after2 ≡ counted_up kinds counter (shown_all x after)
  again_shown x kinds s same =
      ap (λ l. shown_all x l) second ∙ (shown_set x after counter c.more ∙ ap (λ n. slice_set (shown_all x after) counter n) (more_value x kinds s same))

  moved_counts : (x : Signals) (values : List ℕ) → moved_values x m3 values ≡ moved_values x m2 (set_where (is_one x b.chosen) counter (shown x c.none) (set_where (is_one x b.other) counter (shown x c.more) values))
  moved_counts x values = ap (λ l. moved_values x l values) put ∙ moved_behind x m2 (counts counter b c) values

  abbrev led_by : (kinds : List Kind) → List ℕ → Bool → GraphLed
  led_by kinds values t = if t then resolve kinds past (slice_set values counter 0) else resolve kinds again (counted_up kinds counter values)

  moves_at_last : (x : Signals) → IsSettled g x → is_one x active ≡ true → at_last x ≡ true
      → set_where (is_one x b.chosen) counter (shown x c.none) (set_where (is_one x b.other) counter (shown x c.more) (shown_all x after)) ≡ shown_all x after1
  moves_at_last x s on holds =
      ap (λ vs. set_where (is_one x b.chosen) counter (shown x c.none) vs) (set_none (is_one x b.other) counter (shown x c.more) (shown_all x after) (other_off x s holds))
      ∙ (set_some (is_one x b.chosen) counter (shown x c.none) (shown_all x after) (chosen_on x s on holds) ∙ sym (ap (λ l. shown_all x l) first ∙ shown_set x after counter c.none))

  moves_before : (x : Signals) → IsSettled g x → is_one x active ≡ true → at_last x ≡ false
      → set_where (is_one x b.chosen) counter (shown x c.none) (set_where (is_one x b.other) counter (shown x c.more) (shown_all x after)) ≡ shown_all x after2
  moves_before x s on none =
      set_none (is_one x b.chosen) counter (shown x c.none) _ (chosen_off x s none)
      ∙ (set_some (is_one x b.other) counter (shown x c.more) (shown_all x after) (other_on x s on none) ∙ sym (ap (λ l. shown_all x l) second ∙ shown_set x after counter c.more))

  moves_none : (x : Signals) (values : List ℕ) → IsSettled g x → is_one x active ≡ false
      → set_where (is_one x b.chosen) counter (shown x c.none) (set_where (is_one x b.other) counter (shown x c.more) values) ≡ values
  moves_none x values s off =
      set_none (is_one x b.chosen) counter (shown x c.none) _ (none_chosen x s off) ∙ set_none (is_one x b.other) counter (shown x c.more) values (none_other x s off)

  count_fits : AreMoves g widths (counts counter b c)
  count_fits = (
    (λ less. record { test = wire_stays d1 g b.chosen 1 d1_g a.chosen; value = wire_stays e g c.none _ e_g made.none.there }),
    ((λ less. record { test = wire_stays d1 g b.other 1 d1_g a.other; value = wire_stays e g c.more _ e_g made.more.there }), tt),
  )

  pub count_way : WayAdded d g widths width states active after (by_count counter last again past) m0 m3 l0 l2
  count_way = record {
    grows = grows_then d d1 g a.grows d1_g;
    moves_fit = λ h.
        subst (λ (l : List Move). AreMoves g widths l) (sym put)
        (all_both (MoveFits g widths) m2 (counts counter b c) (q.moves_fit (p.moves_fit (moves_stay d e widths m0 (grows_then d d1 e a.grows made.grows) h))) count_fits);
    leads_fit = λ h. q.leads_fit (p.leads_fit (moves_stay d e (width ∷ []) l0 (grows_then d d1 e a.grows made.grows) h));
    turns = λ x kinds s same on. moved_counts x (shown_all x after) ∙ elim (cases_Bool (at_last x)) [
      | inl holds ↦
          ap (λ vs. moved_values x m2 vs) (moves_at_last x s on holds)
          ∙ (q.keeps x (shown_all x after1) s (other_off x s holds)
          ∙ (p.turns x kinds (in_f x s) same (chosen_on x s on holds)
          ∙ (ap (λ vs. moved_values x m0 (resolve kinds past vs).registers) (past_shown x s) ∙ sym (ap (λ t. moved_values x m0 (led_by kinds (shown_all x after) t).registers) holds))))
      | inr none ↦
          ap (λ vs. moved_values x m2 vs) (moves_before x s on none)
          ∙ (q.turns x kinds s same (other_on x s on none)
          ∙ (p.keeps x _ (in_f x s) (chosen_off x s none)
          ∙ (ap (λ vs. moved_values x m0 (resolve kinds again vs).registers) (again_shown x kinds s same) ∙ sym (ap (λ t. moved_values x m0 (led_by kinds (shown_all x after) t).registers) none))))
    ];
    goes = λ x kinds n s same on. elim (cases_Bool (at_last x)) [
      | inl holds ↦
          q.stays x (n ∷ []) s (other_off x s holds)
          ∙ (p.goes x kinds n (in_f x s) same (chosen_on x s on holds)
          ∙ (ap (λ vs. moved_values x l0 (spot_number states (resolve kinds past vs).spot ∷ [])) (past_shown x s) ∙ sym (ap (λ t. moved_values x l0 (spot_number states (led_by kinds (shown_all x after) t).spot ∷ [])) holds)))
      | inr none ↦
          q.goes x kinds n s same (other_on x s on none)
          ∙ (p.stays x _ (in_f x s) (chosen_off x s none)
          ∙ (ap (λ vs. moved_values x l0 (spot_number states (resolve kinds again vs).spot ∷ [])) (again_shown x kinds s same)
          ∙ sym (ap (λ t. moved_values x l0 (spot_number states (led_by kinds (shown_all x after) t).spot ∷ [])) none)))
    ];
    keeps = λ x values s off.
        moved_counts x values
        ∙ (ap (λ vs. moved_values x m2 vs) (moves_none x values s off) ∙ (q.keeps x values s (none_other x s off) ∙ p.keeps x values (in_f x s) (none_chosen x s off)));
    stays = λ x values s off. q.stays x values s (none_other x s off) ∙ p.stays x values (in_f x s) (none_chosen x s off);
  }

-- wires of registers, of which one is another
pub sized_set : (d : PlainCircuit) (widths wires items : List ℕ) (place wire : ℕ) → WiresAreSized d widths items → wires ≡ slice_set items place wire → place < length widths
    → IsWire d wire (slice_index widths place) → WiresAreSized d widths wires
sized_set d widths wires items place wire h is inside there =
    subst (λ (l : List ℕ). WiresAreSized d widths l) (sym is)
    (record {
      long = length-set items place wire ∙ h.long;
      each = λ i less. elim (cases_eq i place) [
        | inl same ↦
            subst (λ (k : ℕ). IsWire d (slice_index (slice_set items place wire) k) (slice_index widths k)) (sym same)
            (subst (λ (w : ℕ). IsWire d w (slice_index widths place)) (sym (get_or-set_same items place wire 0 (let l = h.long in omega (arith, l, inside)))) there)
        | inr other ↦
            subst (λ (w : ℕ). IsWire d w (slice_index widths i)) (sym (get_or-set_other items place i wire 0 other)) (h.each i less)
      ];
    })

-- the wires of registers, set twice and then as they were
set_twice : (wires : List ℕ) (place a b : ℕ) → slice_set (slice_set wires place a) place b ≡ slice_set wires place b
set_twice [] place a b = refl
set_twice (w ∷ ws) zero a b = refl
set_twice (w ∷ ws) (suc place) a b = ap (λ l. w ∷ l) (set_twice ws place a b)

pub second_set : (after set1 kept set2 : List ℕ) (place a b : ℕ) → set1 ≡ slice_set after place a → kept ≡ set1 → set2 ≡ slice_set kept place b → set2 ≡ slice_set after place b
second_set after set1 kept set2 place a b p q r = r ∙ (ap (λ l. slice_set l place b) (q ∙ p) ∙ set_twice after place a b)

pub set_back : (after set2 kept set3 : List ℕ) (place b wire : ℕ) → set2 ≡ slice_set after place b → kept ≡ set2 → set3 ≡ slice_set kept place wire → wire ≡ slice_index after place → set3 ≡ after
set_back after set2 kept set3 place b wire p q r is =
    second_set after set2 kept set3 place b wire p q r ∙ (ap (λ w. slice_set after place w) is ∙ set-get_or after place 0)

pub count_done : (d d1 e f g : PlainCircuit) (widths : List ℕ) (width states active : ℕ) (after after1 after2 wires : List ℕ) (counter last : ℕ) (whole again past : GraphWay) (b : Branch) (c : Counted)
    (m0 m1 m2 m3 l0 l1 l2 : List Move) → counter < length widths → WiresAreSized d widths after → wires ≡ after → BranchMade d d1 active (slice_index wires counter) last b
    → CountedMade d1 e (slice_index widths counter) (slice_index wires counter) c → after1 ≡ slice_set after counter c.none → after2 ≡ slice_set after counter c.more
    → WayAdded e f widths width states b.chosen after1 past m0 m1 l0 l1 → WayAdded f g widths width states b.other after2 again m1 m2 l1 l2 → m3 ≡ m2 ++ counts counter b c
    → whole ≡ by_count counter last again past → WayAdded d g widths width states active after whole m0 m3 l0 l2
count_done d d1 e f g widths width states active after after1 after2 wires counter last whole again past b c m0 m1 m2 m3 l0 l1 l2 inside sized same a made first second p q put is =
    subst (λ (y : GraphWay). WayAdded d g widths width states active after y m0 m3 l0 l2) (sym is)
    (count_way d d1 e f g widths width states active after after1 after2 counter last again past b c m0 m1 m2 m3 l0 l1 l2 inside sized
    (subst (λ (l : List ℕ). BranchMade d d1 active (slice_index l counter) last b) same a)
    (subst (λ (l : List ℕ). CountedMade d1 e (slice_index widths counter) (slice_index l counter) c) same made) first second p q put)

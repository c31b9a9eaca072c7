-- Values after moves, one by one: the first move of a value whose test shows 1.
use Rattle.std.proofs.Common.{◌≡◌, ℕ, zero, suc, ◌+◌, ◌<◌, ◌≤◌, inl, inr, Bool, true, false, if◌then◌else◌, List, [], ◌∷◌, ◌++◌, length, refl, sym, ap, subst, ◌∙◌, arith}
use Rattle.std.specs.Prelude.{slice_index}
use Rattle.std.proofs.lemmas.Bool.{cases_eq}
use Rattle.std.proofs.lemmas.List.{ext_get_or, get_or-set_same, get_or-set_other, length-map, length-set}
use Rattle.dh_cells.specs.FirstTests.{IsTested, AreTested}
use Rattle.dh_cells.specs.PlainCircuits.{PlainCircuit}
use Rattle.dh_cells.specs.Settled.{Signals, Grows, Adds, shown}
use Rattle.dh_cells.specs.ShownValues.{is_one, first_of, first_shown}
use Rattle.dh_cells.specs.declared.trees.Tested.{Tested}
use Rattle.dh_cells.proofs.CellsAppended.{grows_none, grows_then, wire_stays}
use Rattle.dh_cells.proofs.WireTrees.{tested_stays}
use Rattle.dh_control.specs.KeyedItems.{items_picked}
use Rattle.dh_control.specs.MovedValues.{Move, set_where, moved_values, AreMoves, MovesMade}
use Rattle.dh_control.specs.SizedWires.{WiresAreSized, shown_all}
use Rattle.dh_control.specs.WireLists.{EachShows}
use Rattle.dh_control.proofs.GatheredItems.{picked_here, picked_past}
use Rattle.dh_control.proofs.WiresListed.{none_listed, next_listed}

-- How many values there are.

set_long : (t : Bool) (place value : ℕ) (values : List ℕ) → length (set_where t place value values) ≡ length values
set_long true place value values = length-set values place value
set_long false place value values = refl

pub moved_long : (x : Signals) (ms : List Move) (values : List ℕ) → length (moved_values x ms values) ≡ length values
moved_long x [] values = refl
moved_long x (m ∷ ms) values = set_long (is_one x m.item.test) m.key (shown x m.item.value) (moved_values x ms values) ∙ moved_long x ms values

-- One value.

set_here : (t : Bool) (place value : ℕ) (values : List ℕ) → place < length values
    → slice_index (set_where t place value values) place ≡ (if t then value else slice_index values place)
set_here true place value values less = get_or-set_same values place value 0 less
set_here false place value values less = refl

set_other : (t : Bool) (place value i : ℕ) (values : List ℕ) → (place ≡ i → ⊥) → slice_index (set_where t place value values) i ≡ slice_index values i
set_other true place value i values other = get_or-set_other values place i value 0 (λ e. other (sym e))
set_other false place value i values other = refl

pub moved_at : (x : Signals) (ms : List Move) (values : List ℕ) (i : ℕ) → i < length values
    → slice_index (moved_values x ms values) i ≡ first_of x (items_picked i ms) (slice_index values i)
moved_at x [] values i less = refl
moved_at x (m ∷ ms) values i less =
    let before = moved_at x ms values i less in
    let long = moved_long x ms values in
    elim (cases_eq m.key i) [
      | inl same ↦
          let here : slice_index (moved_values x (m ∷ ms) values) i ≡ (if is_one x m.item.test then shown x m.item.value else slice_index (moved_values x ms values) i) =
          subst (λ (k : ℕ). slice_index (set_where (is_one x m.item.test) m.key (shown x m.item.value) (moved_values x ms values)) k
          ≡ (if is_one x m.item.test then shown x m.item.value else slice_index (moved_values x ms values) k)) same
          (set_here (is_one x m.item.test) m.key (shown x m.item.value) (moved_values x ms values) (omega (arith, long, less, same))) in
          here ∙ (ap (λ (v : ℕ). if is_one x m.item.test then shown x m.item.value else v) before
          ∙ sym (ap (λ (l : List Tested). first_of x l (slice_index values i)) (picked_here i m ms same)))
      | inr other ↦
          set_other (is_one x m.item.test) m.key (shown x m.item.value) i (moved_values x ms values) other
          ∙ (before ∙ sym (ap (λ (l : List Tested). first_of x l (slice_index values i)) (picked_past i m ms other)))
    ]

pub shown_at : (x : Signals) (wires : List ℕ) (i : ℕ) → i < length wires → slice_index (shown_all x wires) i ≡ shown x (slice_index wires i)
shown_at x [] i less = absurd (omega (arith, less))
shown_at x (w ∷ ws) zero less = refl
shown_at x (w ∷ ws) (suc i) less = shown_at x ws i (omega (arith, less))

-- Moves of one value.

tested_picked : (d : PlainCircuit) (widths : List ℕ) (ms : List Move) (i : ℕ) → i < length widths → AreMoves d widths ms → AreTested d (items_picked i ms) (slice_index widths i)
tested_picked d widths [] i less h = tt
tested_picked d widths (m ∷ ms) i less h =
    elim (cases_eq m.key i) [
      | inl same ↦
          subst (λ (l : List Tested). AreTested d l (slice_index widths i)) (sym (picked_here i m ms same))
          (subst (λ (k : ℕ). IsTested d m.item (slice_index widths k)) same (h.0 (omega (arith, same, less))), tested_picked d widths ms i less h.1)
      | inr other ↦
          subst (λ (l : List Tested). AreTested d l (slice_index widths i)) (sym (picked_past i m ms other)) (tested_picked d widths ms i less h.1)
    ]

pub picked_tested : (d : PlainCircuit) (widths : List ℕ) (ms : List Move) (i : ℕ) (list : List Tested) → i < length widths → AreMoves d widths ms → list ≡ items_picked i ms → AreTested d list (slice_index widths i)
picked_tested d widths ms i list less h is = subst (λ (l : List Tested). AreTested d l (slice_index widths i)) (sym is) (tested_picked d widths ms i less h)

pub moves_stay : (d e : PlainCircuit) (widths : List ℕ) (ms : List Move) → Grows d e → AreMoves d widths ms → AreMoves e widths ms
moves_stay d e widths [] g h = tt
moves_stay d e widths (m ∷ ms) g h = ((λ less. tested_stays d e m.item (slice_index widths m.key) g (h.0 less)), moves_stay d e widths ms g h.1)

pub sized_stay : (d e : PlainCircuit) (widths wires : List ℕ) → Grows d e → WiresAreSized d widths wires → WiresAreSized e widths wires
sized_stay d e widths wires g h = record { long = h.long; each = λ i less. wire_stays d e (slice_index wires i) (slice_index widths i) g (h.each i less) }

-- The values one after the other.

-- the values below a number are moved
pub record MovedSoFar (old now : PlainCircuit) (widths wires : List ℕ) (moves : List Move) (count : ℕ) (news : List ℕ) : Type 0 where
  pub grows : Grows old now
  pub listed : EachShows old now (λ i. slice_index widths i) (λ i. first_shown (items_picked i moves) (slice_index wires i)) count news

pub none_moved : (d : PlainCircuit) (widths wires : List ℕ) (moves : List Move) → MovedSoFar d d widths wires moves 0 []
none_moved d widths wires moves = record { grows = grows_none d; listed = none_listed d _ _ }

pub next_moved : (old now new : PlainCircuit) (widths wires : List ℕ) (moves : List Move) (count wire : ℕ) (list : List Tested) (news more : List ℕ) → list ≡ items_picked count moves
    → MovedSoFar old now widths wires moves count news → Adds now new wire (slice_index widths count) (first_shown list (slice_index wires count)) → more ≡ news ++ wire ∷ []
    → MovedSoFar old new widths wires moves (count + 1) more
next_moved old now new widths wires moves count wire list news more is h a put = record {
  grows = grows_then old now new h.grows a.grows;
  listed =
      next_listed old now new (λ i. slice_index widths i) (λ i. first_shown (items_picked i moves) (slice_index wires i)) count wire news more h.listed
      (subst (λ (l : List Tested). Adds now new wire (slice_index widths count) (first_shown l (slice_index wires count))) is a) put;
}

made_all : (old new : PlainCircuit) (widths wires : List ℕ) (moves : List Move) (news : List ℕ) → length wires ≡ length widths
    → MovedSoFar old new widths wires moves (length wires) news → MovesMade old new widths wires moves news
made_all old new widths wires moves news long made = let h = made.listed in record {
  grows = h.grows;
  sized = record { long = h.long ∙ long; each = λ i less. (h.each i (omega (arith, less, long))).there };
  shows = λ x s.
      let a = length-map news (λ w. shown x w) in
      let b = length-map wires (λ w. shown x w) in
      let c = moved_long x moves (shown_all x wires) in
      let l = h.long in
      ext_get_or 0 (shown_all x news) (moved_values x moves (shown_all x wires)) (omega (arith, a, b, c, l))
      (λ i less.
      let small : i < length wires = omega (arith, less, a, l) in
      shown_at x news i (omega (arith, small, l))
      ∙ ((h.each i small).is x s
      ∙ (sym (ap (λ v. first_of x (items_picked i moves) v) (shown_at x wires i small))
      ∙ sym (moved_at x moves (shown_all x wires) i (omega (arith, small, b))))));
}

pub all_moved : (old new : PlainCircuit) (widths wires : List ℕ) (moves : List Move) (news : List ℕ) (count : ℕ) → length wires ≡ length widths → count ≤ length wires → length wires ≤ count
    → MovedSoFar old new widths wires moves count news → MovesMade old new widths wires moves news
all_moved old new widths wires moves news count long most least made =
    let all : count ≡ length wires = omega (arith, most, least) in
    made_all old new widths wires moves news long (subst (λ (n : ℕ). MovedSoFar old new widths wires moves n news) all made)

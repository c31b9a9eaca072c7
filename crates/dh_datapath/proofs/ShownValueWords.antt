-- The word that is shown of a value that is there is that of its kind with what its wire shows: by recursion on the
-- kinds and wires side by side.
use Rattle.std.proofs.Common.{◌≡◌, ℕ, zero, suc, ◌+◌, ◌-◌, ◌<◌, Some, Bool, true, false, if◌then◌else◌, List, length, refl, sym, ap, subst, ◌∙◌, arith}
use Rattle.std.specs.Prelude.{[], ◌∷◌, Option, slice_index, slice_index_or}
use Rattle.dh_value.specs.declared.kinds.Kind.{Kind}
use Rattle.dh_value.specs.declared.kinds.Kind.TheVariants as kind
use Rattle.dh_value.specs.declared.operators.Op.{Op}
use Rattle.dh_value.specs.declared.words.Word.{Word}
use Rattle.dh_value.specs.Operations.{binary_of, is_true, result_of}
use Rattle.dh_value.specs.Words.{value_of, width_of, with_bits, word_of}
use Rattle.dh_plan.specs.Blocks.{no_word, word_at, guarded}
use Rattle.dh_plan.specs.Ordered.{IsBetween}
use Rattle.dh_plan.specs.PlanKinds.{kind_of_value}
use Rattle.dh_lower.specs.ShownWords.{words_shown}
use Rattle.dh_cells.specs.PlainCircuits.{PlainCircuit}
use Rattle.dh_cells.specs.Settled.{Signals, IsWire, Adds, shown}
use Rattle.dh_cells.specs.ShownValues.{operator_shown, converted_shown, choice_shown, guarded_shown, is_one}
use Rattle.dh_cells.proofs.WiresMade.{adds_as}
use Rattle.dh_datapath.specs.ValueWires.{AreValueWires, GuardIsThere, SelectIsThere, value_words, computed_shown, turned_shown, selected_shown, guarded_value_shown}

pub same_length : (d : PlainCircuit) (ks : List Kind) (ws : List ℕ) → AreValueWires d ks ws → length ks ≡ length ws
same_length d [] [] h = refl
same_length d [] (w ∷ ws) h = absurd h
same_length d (k ∷ ks) [] h = absurd h
same_length d (k ∷ ks) (w ∷ ws) h = ap suc (same_length d ks ws h.1)

item_word : (d : PlainCircuit) (ks : List Kind) (ws wires : List ℕ) → AreValueWires d ks ws → (i : ℕ) → i < length ws
    → slice_index_or (words_shown ks ws wires) i no_word ≡ with_bits (slice_index_or ks i kind.Bool) (slice_index wires (slice_index ws i))
item_word d [] [] wires h i inside = absurd (omega (arith, inside))
item_word d [] (w ∷ ws) wires h i inside = absurd h
item_word d (k ∷ ks) [] wires h i inside = absurd h
item_word d (k ∷ ks) (w ∷ ws) wires h zero inside = refl
item_word d (k ∷ ks) (w ∷ ws) wires h (suc i) inside = item_word d ks ws wires h.1 i (omega (arith, inside))

item_wire : (d : PlainCircuit) (ks : List Kind) (ws : List ℕ) → AreValueWires d ks ws → (i : ℕ) → i < length ws → IsWire d (slice_index ws i) (width_of (slice_index_or ks i kind.Bool))
item_wire d [] [] h i inside = absurd (omega (arith, inside))
item_wire d [] (w ∷ ws) h i inside = absurd h
item_wire d (k ∷ ks) [] h i inside = absurd h
item_wire d (k ∷ ks) (w ∷ ws) h zero inside = h.0
item_wire d (k ∷ ks) (w ∷ ws) h (suc i) inside = item_wire d ks ws h.1 i (omega (arith, inside))

-- a value that has a wire has a kind
pub kind_there : (d : PlainCircuit) (first : ℕ) (ks : List Kind) (ws : List ℕ) → AreValueWires d ks ws → (number : ℕ) → IsBetween first (first + length ws) number → IsBetween first (first + length ks) number
kind_there d first ks ws h number there =
    let long = same_length d ks ws h in
    let least = there.0 in
    let below = there.1 in
    (least, omega (arith, long, below))

module _ (d : PlainCircuit) (first : ℕ) (ks : List Kind) (ws : List ℕ) (h : AreValueWires d ks ws) where
  abbrev IsThere : ℕ → Type 0
  IsThere number = IsBetween first (first + length ws) number

  pub wire_is : (number : ℕ) → IsThere number → IsWire d (slice_index ws (number - first)) (width_of (kind_of_value first ks number))
  wire_is number there = item_wire d ks ws h (number - first) (omega (arith, there))

  pub word_is : (x : Signals) (number : ℕ) → IsThere number → word_at first (value_words ks ws x) number ≡ with_bits (kind_of_value first ks number) (shown x (slice_index ws (number - first)))
  word_is x number there = item_word d ks ws x.wires h (number - first) (omega (arith, there))

  -- by names for its wire and its kind
  pub wire_named : (number wire : ℕ) (k : Kind) → IsThere number → wire ≡ slice_index ws (number - first) → k ≡ kind_of_value first ks number → IsWire d wire (width_of k)
  wire_named number wire k there a b =
      subst (λ (v : ℕ). IsWire d v (width_of k)) (sym a) (subst (λ (l : Kind). IsWire d (slice_index ws (number - first)) (width_of l)) (sym b) (wire_is number there))

  pub truth_named : (number wire : ℕ) → IsThere number → wire ≡ slice_index ws (number - first) → kind_of_value first ks number ≡ kind.Bool → IsWire d wire 1
  truth_named number wire there a truth = wire_named number wire kind.Bool there a (sym truth)

  -- What is added for each form.

  pub computed_made : (e : PlainCircuit) (wire : ℕ) (op : Op) (left right a b : ℕ) (k l : Kind) → IsThere left → IsThere right
      → k ≡ kind_of_value first ks left → l ≡ kind_of_value first ks right → a ≡ slice_index ws (left - first) → b ≡ slice_index ws (right - first)
      → Adds d e wire (width_of (result_of op k)) (operator_shown op k l a b)
      → Adds d e wire (width_of (result_of op (kind_of_value first ks left))) (computed_shown first ks ws op left right)
  computed_made e wire op left right a b k l p q of_left of_right at_left at_right added =
      adds_as d e wire (width_of (result_of op k)) (width_of (result_of op (kind_of_value first ks left))) (operator_shown op k l a b) (computed_shown first ks ws op left right)
      (ap (λ (m : Kind). width_of (result_of op m)) of_left) added
      (λ x settled.
      (λ i. (binary_of op (with_bits (of_left i) (shown x (at_left i))) (with_bits (of_right i) (shown x (at_right i)))).bits)
      ∙ sym (λ i. (binary_of op (word_is x left p i) (word_is x right q i)).bits))

  pub turned_made : (e : PlainCircuit) (wire inner a : ℕ) (from to : Kind) → IsThere inner → from ≡ kind_of_value first ks inner → a ≡ slice_index ws (inner - first)
      → Adds d e wire (width_of to) (converted_shown from to a) → Adds d e wire (width_of to) (turned_shown first ks ws inner to)
  turned_made e wire inner a from to p of_inner at_inner added =
      adds_as d e wire (width_of to) (width_of to) (converted_shown from to a) (turned_shown first ks ws inner to) refl added
      (λ x settled.
      (λ i. (word_of to (value_of (with_bits (of_inner i) (shown x (at_inner i))))).bits)
      ∙ sym (ap (λ (v : Word). (word_of to (value_of v)).bits) (word_is x inner p)))

  chosen_bits : (t : Bool) (v u : Word) → (if t then v else u).bits ≡ (if t then v.bits else u.bits)
  chosen_bits true v u = refl
  chosen_bits false v u = refl

  pub selected_made : (e : PlainCircuit) (wire w test a b condition one other : ℕ) → IsThere test → IsThere a → IsThere b → w ≡ width_of (kind_of_value first ks a)
      → condition ≡ slice_index ws (test - first) → one ≡ slice_index ws (a - first) → other ≡ slice_index ws (b - first)
      → Adds d e wire w (choice_shown condition one other) → Adds d e wire (width_of (kind_of_value first ks a)) (selected_shown first ks ws test a b)
  selected_made e wire w test a b condition one other t p q wide at_test at_one at_other added =
      adds_as d e wire w (width_of (kind_of_value first ks a)) (choice_shown condition one other) (selected_shown first ks ws test a b) wide added
      (λ x settled.
      (λ i. if is_one x (at_test i) then shown x (at_one i) else shown x (at_other i))
      ∙ (sym (chosen_bits (is_one x (slice_index ws (test - first))) (with_bits (kind_of_value first ks a) (shown x (slice_index ws (a - first)))) (with_bits (kind_of_value first ks b) (shown x (slice_index ws (b - first)))))
      ∙ sym (λ i. (if is_true (word_is x test t i) then word_is x a p i else word_is x b q i).bits)))

  pub guarded_value_made : (e : PlainCircuit) (new wire w test number : ℕ) (guard : Option ℕ) (of : Kind) → guard ≡ Some number → IsThere number → w ≡ width_of of → test ≡ slice_index ws (number - first)
      → Adds d e new w (guarded_shown test wire) → Adds d e new (width_of of) (guarded_value_shown first ks ws guard of wire)
  guarded_value_made e new wire w test number guard of is g wide at_test added =
      subst (λ (o : Option ℕ). Adds d e new (width_of of) (guarded_value_shown first ks ws o of wire)) (sym is)
      (adds_as d e new w (width_of of) (guarded_shown test wire) (guarded_value_shown first ks ws (Some number) of wire) wide added
      (λ x settled.
      (λ i. if is_one x (at_test i) then shown x wire else 0)
      ∙ (sym (chosen_bits (is_one x (slice_index ws (number - first))) (with_bits of (shown x wire)) (with_bits of 0))
      ∙ sym (ap (λ (v : Word). (guarded (is_true v) (with_bits of (shown x wire))).bits) (word_is x number g)))))

-- a guard that is there
pub guard_there : (first : ℕ) (ks : List Kind) (ws : List ℕ) (guard : Option ℕ) (number : ℕ) → guard ≡ Some number → GuardIsThere first ks ws guard
    → IsBetween first (first + length ws) number × (kind_of_value first ks number ≡ kind.Bool)
guard_there first ks ws guard number is h = subst (λ (o : Option ℕ). GuardIsThere first ks ws o) is h

-- and a select
pub select_there : (first : ℕ) (ws : List ℕ) (select : Option ℕ) (number : ℕ) → select ≡ Some number → SelectIsThere first ws select → IsBetween first (first + length ws) number
select_there first ws select number is h = subst (λ (o : Option ℕ). SelectIsThere first ws o) is h

-- What the wires of a block's values show, by what those of earlier values show: the bits of the value that the plan
-- has of the words that are shown.
use Rattle.std.specs.Prelude.{◌≡◌, ℕ, ◌+◌, if◌then◌else◌, List, [], ◌∷◌, length, Option, Some, None}
use Rattle.dh_value.specs.declared.kinds.Kind.{Kind}
use Rattle.dh_value.specs.declared.kinds.Kind.TheVariants as kind
use Rattle.dh_value.specs.declared.operators.Op.{Op}
use Rattle.dh_value.specs.declared.words.Word.{Word}
use Rattle.dh_value.specs.Operations.{binary_of, is_true}
use Rattle.dh_value.specs.Words.{value_of, width_of, with_bits, word_of}
use Rattle.dh_plan.specs.Blocks.{word_at, is_on, guarded}
use Rattle.dh_plan.specs.Ordered.{IsBetween}
use Rattle.dh_plan.specs.PlanKinds.{kind_of_value}
use Rattle.dh_lower.specs.ShownWords.{words_shown}
use Rattle.dh_cells.specs.PlainCircuits.{PlainCircuit}
use Rattle.dh_cells.specs.Settled.{Signals, IsWire, shown}

-- for each value a wire of its kind's width
abbrev pub AreValueWires : PlainCircuit → List Kind → (wires : List ℕ) → Type 0
AreValueWires d [] [] = Unit {0}
AreValueWires d [] (w ∷ ws) = ⊥
AreValueWires d (k ∷ ks) [] = ⊥
AreValueWires d (k ∷ ks) (w ∷ ws) = IsWire d w (width_of k) × AreValueWires d ks ws

-- a guard is a truth that is there
abbrev pub GuardIsThere : (first : ℕ) → List Kind → (wires : List ℕ) → Option ℕ → Type 0
GuardIsThere first ks ws None = Unit {0}
GuardIsThere first ks ws (Some number) = IsBetween first (first + length ws) number × (kind_of_value first ks number ≡ kind.Bool)

-- the number of a bank is a value that is there
abbrev pub SelectIsThere : (first : ℕ) → (wires : List ℕ) → Option ℕ → Type 0
SelectIsThere first ws None = Unit {0}
SelectIsThere first ws (Some number) = IsBetween first (first + length ws) number

-- the words that are shown of values
abbrev pub value_words : List Kind → (wires : List ℕ) → Signals → List Word
value_words ks ws x = words_shown ks ws x.wires

abbrev pub computed_shown : (first : ℕ) → List Kind → (wires : List ℕ) → Op → (left right : ℕ) → Signals → ℕ
computed_shown first ks ws op left right = λ x. (binary_of op (word_at first (value_words ks ws x) left) (word_at first (value_words ks ws x) right)).bits

abbrev pub turned_shown : (first : ℕ) → List Kind → (wires : List ℕ) → (inner : ℕ) → Kind → Signals → ℕ
turned_shown first ks ws inner to = λ x. (word_of to (value_of (word_at first (value_words ks ws x) inner))).bits

abbrev pub selected_shown : (first : ℕ) → List Kind → (wires : List ℕ) → (test a b : ℕ) → Signals → ℕ
selected_shown first ks ws test a b =
    λ x. (if is_true (word_at first (value_words ks ws x) test) then word_at first (value_words ks ws x) a else word_at first (value_words ks ws x) b).bits

abbrev pub guarded_value_shown : (first : ℕ) → List Kind → (wires : List ℕ) → (guard : Option ℕ) → Kind → (wire : ℕ) → Signals → ℕ
guarded_value_shown first ks ws guard of wire = λ x. (guarded (is_on first (value_words ks ws x) guard) (with_bits of (shown x wire))).bits

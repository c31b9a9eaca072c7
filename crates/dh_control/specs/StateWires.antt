-- Where the graph stands, by wires, and which blocks are active there.
use Rattle.std.specs.Prelude.{◌≡◌, ℕ, zero, suc, ◌+◌, ◌&&◌, nat_lt, List, [], ◌∷◌, slice_index}
use Rattle.dh_cells.specs.PlainCircuits.{PlainCircuit}
use Rattle.dh_cells.specs.Settled.{Signals, Grows, Shows, shown}
use Rattle.dh_cells.specs.ShownValues.{bit, is_one, any_shown, match_shown}
use Rattle.dh_control.specs.declared.gathering.Keyed.{Keyed}
use Rattle.dh_control.specs.KeyedItems.{items_picked}

-- for each state of these blocks a wire that is 1 where the graph stands there; states are numbered from a first one
abbrev pub AreStands : PlainCircuit → (state first : ℕ) → (blocks : List ℕ) → List (Keyed ℕ) → Type 0
AreStands d state first [] [] = Unit {0}
AreStands d state first [] (k ∷ ks) = ⊥
AreStands d state first (b ∷ bs) [] = ⊥
AreStands d state first (b ∷ bs) (k ∷ ks) = ((k.key ≡ b) × Shows d k.item 1 (match_shown state first)) × AreStands d state (suc first) bs ks

pub record StandsMade (old new : PlainCircuit) (state : ℕ) (blocks : List ℕ) (stands : List (Keyed ℕ)) : Type 0 where
  pub grows : Grows old new
  pub stands_are : AreStands new state 0 blocks stands

-- the block of the state of a number, where there is one; here of one thread
abbrev pub blocks_active : (blocks : List ℕ) → (number : ℕ) → List ℕ
blocks_active [] n = []
blocks_active (b ∷ bs) zero = b ∷ []
blocks_active (b ∷ bs) (suc n) = blocks_active bs n

-- a block is active, by the states that do it
abbrev pub active_shown : List (Keyed ℕ) → (block : ℕ) → Signals → ℕ
active_shown stands block = any_shown (items_picked block stands)

-- a block is active and not in its last clock
abbrev pub waits_shown : (clock active length : ℕ) → Signals → ℕ
waits_shown clock active len = λ x. bit (is_one x active && nat_lt (shown x clock + 1) len)

-- one wire shows 1 together with each of others
abbrev pub with_each_shown : (test : ℕ) → (wires : List ℕ) → ℕ → Signals → ℕ
with_each_shown test wires i = λ x. bit (is_one x test && is_one x (slice_index wires i))

-- both lists have a wire for each length: block i waits by its own length
abbrev pub wait_of : (clock : ℕ) → (active lengths : List ℕ) → ℕ → Signals → ℕ
wait_of clock active lengths i = waits_shown clock (slice_index active i) (slice_index lengths i)

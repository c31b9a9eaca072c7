-- Guards by wires.
use Rattle.std.specs.Prelude.{ℕ, ◌&&◌, Bool, true, List, slice_index, Option, Some, None}
use Rattle.dh_cells.specs.Settled.{Signals}
use Rattle.dh_cells.specs.ShownValues.{bit, is_one}

-- the guard holds, or there is none
abbrev pub on_shown : Signals → (wires : List ℕ) → Option ℕ → Bool
on_shown x wires None = true
on_shown x wires (Some value) = is_one x (slice_index wires value)

-- another wire shows 1, and the guard holds
abbrev pub on_both_shown : (test : ℕ) → (wires : List ℕ) → Option ℕ → Signals → ℕ
on_both_shown test wires guard = λ x. bit (is_one x test && on_shown x wires guard)

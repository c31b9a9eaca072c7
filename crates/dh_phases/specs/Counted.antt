-- The number behind so many accesses, among the numbers of the code.
use Rattle.std.specs.Prelude.{ℕ, ◌+◌, ◌-◌, ◌^◌, min}

abbrev pub behind : (first count : ℕ) → ℕ
behind first count = min (first + count) (2 ^ 32 - 1)

-- Numbers of 64 bits that are kept in 32.
use Rattle.std.specs.Prelude.{ℕ, ◌-◌, ◌^◌, min}

-- a number that fits is kept as it is
abbrev pub narrowed : (number : ℕ) → ℕ
narrowed number = min number (2 ^ 32 - 1)

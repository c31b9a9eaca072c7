-- What a token stands for.
use Rattle.std.specs.Prelude.{ℕ}

-- so many ports of a memory's bank, from a first one on
pub record Granted : Type 0 where
  pub memory : ℕ
  pub bank : ℕ
  pub first : ℕ
  pub count : ℕ

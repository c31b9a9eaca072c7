-- The earlier reads that accesses share, in 32 bits.
use Rattle.std.specs.Prelude.{ℕ, List, map, Option, Some, None}
use Rattle.dh_expressions.specs.Numbers.{narrowed}

abbrev pub narrow_share : Option ℕ → Option ℕ
narrow_share (Some earlier) = Some (narrowed earlier)
narrow_share None = None

abbrev pub narrow_shares : List (Option ℕ) → List (Option ℕ)
narrow_shares shares = map narrow_share shares

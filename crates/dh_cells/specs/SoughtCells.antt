-- What is told of a cell that is sought in a chain.
use Rattle.std.specs.Prelude.{ℕ}
use Rattle.dh_cells.specs.declared.chaining.Sought.{Sought}
use Rattle.dh_cells.specs.declared.chaining.Sought.TheVariants.{Made, New, Untold}

-- where it was made, its wire is so
abbrev pub IfMade : Sought → (P : ℕ → Type 0) → Type 0
IfMade (Made wire) P = P wire
IfMade New P = Unit {0}
IfMade Untold P = Unit {0}

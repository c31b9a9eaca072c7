-- Banks of memories of a program's table, and kinds of their elements.
use Rattle.std.proofs.Common.{ℕ, zero, suc, ◌+◌, ◌*◌, ◌%◌, ◌<◌, ◌≤◌, List, [], ◌∷◌, arith}
use Rattle.std.proofs.Math.Nat.{mod-lt}
use Rattle.std.specs.List.{AllByRecursion}
use Rattle.dh_tree.specs.declared.tables.Dim.{Dim}
use Rattle.dh_tree.specs.declared.tables.MemEntry.{MemEntry}
use Rattle.dh_tree.specs.Elements.{bank_of, banks_of, dims_at}
use Rattle.dh_tree.specs.Shapes.{IsDim, IsMemory}
use Rattle.dh_expressions.specs.Numbers.{narrowed}

-- a remainder and a quotient below their factors give one number below the product
digit : (r b n m : ℕ) → r < b → n < m → r * m + n < b * m
digit zero zero n m l k = let none : ⊥ = omega (arith, l) in elim none [ ]
digit zero (suc b) n m l k = omega (arith, k)
digit (suc r) zero n m l k = let none : ⊥ = omega (arith, l) in elim none [ ]
digit (suc r) (suc b) n m l k = let h = digit r b n m (omega (arith, l)) k in omega (arith, h)

some_banks : (ds : List Dim) → AllByRecursion IsDim ds → 0 < banks_of ds
some_banks [] h = omega arith
some_banks (d ∷ ds) h = product d.banks (banks_of ds) h.0.banks (some_banks ds h.1)
  where
    product : (a b : ℕ) → 1 ≤ a → 0 < b → 0 < a * b
    product zero b l m = let none : ⊥ = omega (arith, l) in elim none [ ]
    product (suc a) b l m = omega (arith, m)

-- indices lead to a bank that is there
pub bank_below : (ds : List Dim) (is : List ℕ) → AllByRecursion IsDim ds → bank_of ds is < banks_of ds
bank_below [] is h = omega arith
bank_below (d ∷ ds) [] h = some_banks (d ∷ ds) h
bank_below (d ∷ ds) (i ∷ is) h = digit (i % d.banks) d.banks (bank_of ds is) (banks_of ds) (mod-lt i (some d.banks h.0.banks)) (bank_below ds is h.1)
  where
    some : (b : ℕ) → 1 ≤ b → 0 < b
    some b l = omega (arith, l)

pub dims_there : (table : List MemEntry) (memory : ℕ) → AllByRecursion IsMemory table → AllByRecursion IsDim (dims_at table memory)
dims_there [] memory h = tt
dims_there (e ∷ table) zero h = h.0.shape.dims
dims_there (e ∷ table) (suc memory) h = dims_there table memory h.1

pub narrowed_below : (a b : ℕ) → a < b → narrowed a < b
narrowed_below a b l = grind (arith, l)

-- No number is above the greatest.
use Rattle.std.proofs.Common.{◌≡◌, ℕ, ◌≤◌, List, [], ◌∷◌, length, drop, ap, arith}
use Rattle.std.specs.Prelude.{max}
use Rattle.std.specs.List.{AllByRecursion}
use Rattle.std.proofs.Math.ListN.{drop_of_length-le}
use Rattle.dh_plan.specs.LegalSchedules.{greatest_number}

none_above : (ns : List ℕ) (most : ℕ) → greatest_number ns ≤ most → AllByRecursion (λ n. n ≤ most) ns
none_above [] most h = tt
none_above (n ∷ ns) most h = (omega (arith, h), none_above ns most (omega (arith, h)))

pub all_below : (ns : List ℕ) (i most : ℕ) → length ns ≤ i → max most (greatest_number (drop i ns)) ≡ greatest_number ns → AllByRecursion (λ n. n ≤ most) ns
all_below ns i most past h =
    let none = ap (λ (l : List ℕ). greatest_number l) (drop_of_length-le ns past) in
    none_above ns most (omega (arith, none, h))

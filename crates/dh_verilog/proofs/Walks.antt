-- What holds at each number of a list holds of each item.
use Rattle.std.proofs.Common.{◌≡◌, ℕ, List, [], ◌∷◌, suc, refl}
use Rattle.std.specs.Prelude.{slice_get, Some}
use Rattle.std.specs.List.{AllByRecursion}

pub of_each : {A : Type 0} (P : A → Type 0) (xs : List A) → ((i : ℕ) (x : A) → slice_get xs i ≡ Some x → P x) → AllByRecursion P xs
of_each P [] h = tt
of_each P (x ∷ xs) h = (h 0 x refl, of_each P xs (λ i y at. h (suc i) y at))

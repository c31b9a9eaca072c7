-- Lists of loops by number, as they are added and set.
use Rattle.std.proofs.Common.{◌≡◌, ℕ, zero, suc, ◌<◌, ◌==◌, Bool, if◌then◌else◌, List, [], ◌∷◌, ◌++◌, length, refl, ap, sym, ◌∙◌, arith}
use Rattle.std.proofs.lemmas.Bool.{ne_eqb}
use Rattle.std.proofs.lemmas.Bool.Decides.{nat_tests}
use mathlib.Core.Path.{fun_ext}
use Rattle.std.specs.Prelude.{slice_get, slice_set, Vec}
use Rattle.std.specs.Global.{Global}
use Rattle.dh_tree.specs.declared.trees.counters.Counter.{Counter}
use Rattle.dh_events.specs.Accesses.{loops_found}
use Rattle.dh_events.specs.Rounds.{rounds_of, with_round}

absurd : {A : Type 0} → ⊥ → A
absurd e = elim e [ ]

-- an empty list behind others is found where nothing is
one_more : (xs : List (Vec Counter Global)) (v : Vec Counter Global) (n : ℕ) → v.items ≡ [] → loops_found (slice_get (xs ++ v ∷ []) n) ≡ loops_found (slice_get xs n)
one_more [] v zero e = e
one_more [] v (suc n) e = refl
one_more (x ∷ xs) v zero e = refl
one_more (x ∷ xs) v (suc n) e = one_more xs v n e

pub rounds_more : (xs : List (Vec Counter Global)) (v : Vec Counter Global) → v.items ≡ [] → rounds_of (xs ++ v ∷ []) ≡ rounds_of xs
rounds_more xs v e = fun_ext (λ n. one_more xs v n e)

one_set : (xs : List (Vec Counter Global)) (place : ℕ) (v : Vec Counter Global) (n : ℕ) → place < length xs → loops_found (slice_get (slice_set xs place v) n) ≡ (if place == n then v.items else loops_found (slice_get xs n))
one_set [] place v n e = absurd (none place e)
  where
    none : (p : ℕ) → p < 0 → ⊥
    none p e = omega (arith, e)
one_set (x ∷ xs) zero v zero e = refl
one_set (x ∷ xs) zero v (suc n) e = ap (λ (b : Bool). if b then v.items else loops_found (slice_get xs n)) (sym (ne_eqb 0 (suc n) (λ f. omega (arith, f))))
one_set (x ∷ xs) (suc p) v zero e = ap (λ (b : Bool). if b then v.items else x.items) (sym (ne_eqb (suc p) 0 (λ f. omega (arith, f))))
one_set (x ∷ xs) (suc p) v (suc n) e =
    one_set xs p v n (less_one p (length xs) e) ∙ ap (λ (b : Bool). if b then v.items else loops_found (slice_get xs n)) (same_test p n)
  where
    less_one : (p n : ℕ) → suc p < suc n → p < n
    less_one p n e = omega (arith, e)

    same_test : (p n : ℕ) → (p == n) ≡ (suc p == suc n)
    same_test p n = grind (arith, nat_tests)

pub round_set : (xs : List (Vec Counter Global)) (place : ℕ) (v : Vec Counter Global) → place < length xs → rounds_of (slice_set xs place v) ≡ with_round (rounds_of xs) place v.items
round_set xs place v e = fun_ext (λ n. one_set xs place v n e)

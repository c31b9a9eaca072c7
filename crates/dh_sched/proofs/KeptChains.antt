-- Depths found one by one: those found so far, and those behind them, are the depths of the block, and what holds of
-- all these holds of those. So the first depth beyond the limit tells that some depth is, and at the end all are known.
use Rattle.std.proofs.Common.{◌≡◌, ℕ, zero, suc, ◌+◌, ◌<◌, ◌≤◌, List, length, drop, get_or, refl, sym, ap, subst, ◌∙◌, arith}
use Rattle.std.specs.Prelude.{[], ◌∷◌, ◌++◌}
use Rattle.std.specs.List.{AllByRecursion}
use Rattle.std.proofs.lemmas.List.{drop_all}
use Rattle.dh_plan.specs.declared.operations.Operation.{Operation}
use Rattle.dh_plan.specs.LegalSchedules.{IsWithin, depth_at, depths_behind, depths_in}
use Rattle.dh_plan.proofs.ValuesAlike.{all_left, all_right, all_map}

-- a number is within a limit that is one, if and only if it is no greater
pub no_greater : (limit n : ℕ) → (limit ≡ 0 → ⊥) → IsWithin limit n → n ≤ limit
no_greater zero n one within = absurd (one refl)
no_greater (suc limit) n one within = within

pub is_within : (limit n : ℕ) → n ≤ limit → IsWithin limit n
is_within zero n h = tt
is_within (suc limit) n h = h

-- what holds of all depths holds of the first ones
pub first_ones : (P : ℕ → Type 0) (first : ℕ) (cs : List ℕ) (os : List Operation) (ds : List ℕ) → AllByRecursion P (depths_behind first cs ds os) → AllByRecursion P ds
first_ones P first cs [] ds h = h
first_ones P first cs (o ∷ os) ds h =
    all_left P ds (depth_at first (get_or cs (length ds) 0) cs ds o ∷ []) (first_ones P first cs os (ds ++ depth_at first (get_or cs (length ds) 0) cs ds o ∷ []) h)

pub too_deep : (limit first i d c : ℕ) (cs ds ds' : List ℕ) (os : List Operation) (o : Operation) → (limit ≡ 0 → ⊥) → limit < d
    → drop i os ≡ o ∷ drop (i + 1) os → length ds ≡ i → ds' ≡ ds → c ≡ get_or cs i 0 → d ≡ depth_at first c cs ds' o
    → depths_behind first cs ds (drop i os) ≡ depths_in first os cs → AllByRecursion (IsWithin limit) (depths_in first os cs) → ⊥
too_deep limit first i d c cs ds ds' os o one deep here long same clock is so all =
    let e : depth_at first (get_or cs (length ds) 0) cs ds o ≡ d =
    ap (λ (k : ℕ). depth_at first (get_or cs k 0) cs ds o) long
    ∙ (ap (λ (k : ℕ). depth_at first k cs ds o) (sym clock) ∙ (ap (λ (xs : List ℕ). depth_at first c cs xs o) (sym same) ∙ sym is)) in
    let whole = subst (λ (xs : List ℕ). AllByRecursion (IsWithin limit) xs) (sym so) all in
    let from = subst (λ (xs : List Operation). AllByRecursion (IsWithin limit) (depths_behind first cs ds xs)) here whole in
    let found = first_ones (IsWithin limit) first cs (drop (i + 1) os) (ds ++ depth_at first (get_or cs (length ds) 0) cs ds o ∷ []) from in
    let last = all_right (IsWithin limit) ds (depth_at first (get_or cs (length ds) 0) cs ds o ∷ []) found in
    let within = no_greater limit (depth_at first (get_or cs (length ds) 0) cs ds o) one last.0 in
    omega (arith, within, deep, e)

pub all_kept : (limit first i : ℕ) (cs ds : List ℕ) (os : List Operation) → length os ≤ i
    → depths_behind first cs ds (drop i os) ≡ depths_in first os cs → AllByRecursion (λ (d : ℕ). d ≤ limit) ds → AllByRecursion (IsWithin limit) (depths_in first os cs)
all_kept limit first i cs ds os past so within =
    let gone : drop i os ≡ [] = drop_all i os past in
    let is : ds ≡ depths_in first os cs = sym (ap (λ (xs : List Operation). depths_behind first cs ds xs) gone) ∙ so in
    subst (λ (xs : List ℕ). AllByRecursion (IsWithin limit) xs) is (all_map (λ (d : ℕ). d ≤ limit) (IsWithin limit) ds (is_within limit) within)

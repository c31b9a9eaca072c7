-- The lists of a dimension, row by row: what is left is as long as the rows still to come.
use Rattle.std.proofs.Common.{◌≡◌, ℕ, zero, suc, ◌+◌, ◌-◌, ◌*◌, ◌<◌, ◌≤◌, ◌^◌, min, List, [], ◌∷◌, ◌++◌, length, take, drop, sym, ap, ◌∙◌, arith, append_assoc}
use Rattle.std.specs.List.{AllByRecursion}
use Rattle.std.proofs.lemmas.List.{length-drop, length-take-le}
use Rattle.serde_json.specs.Data.{Data}
use Rattle.dh_data.specs.Reports.{rows}

pub first_small : {A : Type 0} (P : A → Type 0) (n : ℕ) (xs : List A) → AllByRecursion P xs → AllByRecursion P (take n xs)
first_small P zero xs h = tt
first_small P (suc n) [] h = tt
first_small P (suc n) (x ∷ xs) h = (h.0, first_small P n xs h.1)

pub rest_small : {A : Type 0} (P : A → Type 0) (n : ℕ) (xs : List A) → AllByRecursion P xs → AllByRecursion P (drop n xs)
rest_small P zero xs h = h
rest_small P (suc n) [] h = tt
rest_small P (suc n) (x ∷ xs) h = rest_small P n xs h.1

-- a turn: the next row is there, and what is left behind it
pub record Row (size i width : ℕ) (left : List ℕ) : Type 0 where
  pub within : width ≤ length left
  pub wide : length (take width left) ≡ width
  pub behind : length (drop width left) ≡ (size - (i + 1)) * width

pub next_row : (size i width : ℕ) (left : List ℕ) → i < size → length left ≡ (size - i) * width → Row size i width left
next_row size i width left here long =
    let more : size - i ≡ suc (size - (i + 1)) = omega (arith, here) in
    let sum : length left ≡ width + (size - (i + 1)) * width = long ∙ (ap (λ n. n * width) more ∙ omega arith) in
    let within : width ≤ length left = omega (arith, sum) in
    record {
      within = within;
      wide = length-take-le width left within;
      behind = length-drop width left ∙ omega (arith, sum);
    }

-- the width as it was counted
pub width_is : (w e n : ℕ) → w ≡ min e (2 ^ 64 - 1) → n ≡ w → n < 2 ^ 63 → w ≡ e
width_is w e n is same few = omega (arith, is, same, few)

pub rows_on : (size i width : ℕ) (list : List ℕ → Data) (left : List ℕ) → i < size → rows (size - i) width list left ≡ list (take width left) ∷ rows (size - (i + 1)) width list (drop width left)
rows_on size i width list left here = let more : size - i ≡ suc (size - (i + 1)) = omega (arith, here) in ap (λ n. rows n width list left) more

pub rows_end : (size i width : ℕ) (list : List ℕ → Data) (left : List ℕ) → size ≤ i → rows (size - i) width list left ≡ []
rows_end size i width list left past = let none : size - i ≡ 0 = omega (arith, past) in ap (λ n. rows n width list left) none

-- one list more
pub row_added : (size i width : ℕ) (list : List ℕ → Data) (left row others : List ℕ) (old new : List Data) (d : Data) → i < size → row ≡ take width left → others ≡ drop width left
    → d ≡ list row → new ≡ old ++ d ∷ [] → new ++ rows (size - (i + 1)) width list others ≡ old ++ rows (size - i) width list left
row_added size i width list left row others old new d here front back is added =
    ap (λ x. x ++ rows (size - (i + 1)) width list others) added
    ∙ (append_assoc old (d ∷ []) (rows (size - (i + 1)) width list others)
    ∙ ap (λ x. old ++ x) (ap (λ x. d ∷ rows (size - (i + 1)) width list x) back
    ∙ (ap (λ x. x ∷ rows (size - (i + 1)) width list (drop width left)) (is ∙ ap list front) ∙ sym (rows_on size i width list left here))))

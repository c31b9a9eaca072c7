-- Cells of tables with a row for each access: the rows lie one behind the other, so that cells of different accesses
-- or banks are different, and all are inside.
use Rattle.std.proofs.Common.{◌≡◌, ℕ, ◌+◌, ◌-◌, ◌*◌, ◌≤◌, ◌<◌, ◌⊎◌, inl, inr, ap, sym, ◌∙◌, subst, arith}
use Rattle.std.proofs.lemmas.Bool.{cases_eq, cases_lt}
use Rattle.dh_bind.specs.Drafts.{cell_of}

-- a later row begins behind an earlier one
pub rows_apart : (a c wide : ℕ) → a < c → a * wide + wide ≤ c * wide
rows_apart a c wide h =
    subst (λ (n : ℕ). a * wide + wide ≤ n * wide) (let e : a + 1 + (c - (a + 1)) ≡ c = omega (arith, h) in e) (behind a wide (c - (a + 1)))
  where
    behind : (m w d : ℕ) → m * w + w ≤ (m + 1 + d) * w
    behind m w d = omega arith

pub cell_inside : (rows wide access bank : ℕ) → access < rows → bank < wide → cell_of wide access bank < rows * wide
cell_inside rows wide access bank h few = let k = rows_apart access rows wide h in omega (arith, k, few)

pub cells_alike : (wide a b c d : ℕ) → b < wide → d < wide → cell_of wide a b ≡ cell_of wide c d → (a ≡ c) × (b ≡ d)
cells_alike wide a b c d h k e = elim (cases_eq a c) [
  | inl f ↦ (let g : cell_of wide c b ≡ cell_of wide c d = ap (λ (n : ℕ). cell_of wide n b) (sym f) ∙ e in (f, omega (arith, g)))
  | inr differs ↦ absurd (elim (cases_lt a c) [
    | inl less ↦ (let r = rows_apart a c wide less in omega (arith, r, h, e))
    | inr more ↦ (let r = rows_apart c a wide (above c a more (λ f. differs (sym f))) in omega (arith, r, k, e))
  ])
]
  where
    above : (m n : ℕ) → m ≤ n → (m ≡ n → ⊥) → m < n
    above m n more none = grind (arith, more, none)

-- the cell of another access is in another row
pub away : (wide a k b : ℕ) → b < wide → (k ≡ a → ⊥) → (cell_of wide k b < a * wide) ⊎ (a * wide + wide ≤ cell_of wide k b)
away wide a k b few differs = elim (cases_lt k a) [
  | inl less ↦ inl (let r = rows_apart k a wide less in omega (arith, few, r))
  | inr more ↦ inr (let r = rows_apart a k wide (above a k more (λ e. differs (sym e))) in omega (arith, r))
]
  where
    above : (m n : ℕ) → m ≤ n → (m ≡ n → ⊥) → m < n
    above m n more none = grind (arith, more, none)

-- Rows of different banks are different elements: a place among all elements is that of one row of one bank.
-- By induction on the dimensions: place and number are taken apart by one quotient and one remainder each, of which
-- the remainder lies below its divisor.
use Rattle.std.proofs.Common.{◌≡◌, ℕ, ◌+◌, ◌*◌, ◌/◌, ◌%◌, ◌<◌, List, sym, ap, ◌∙◌, arith}
use Rattle.std.specs.Prelude.{[], ◌∷◌}
use Rattle.std.specs.List.{AllByRecursion}
use Rattle.std.proofs.lemmas.Nat.{div-mul-add, mod-mul-add, div-add-mod'}
use Rattle.dh_tree.specs.Elements.{banks_of, rows_of, position_in_bank}
use Rattle.dh_tree.specs.Shapes.{IsDim}
use Rattle.dh_tree.specs.Tables.{elements_of}
use Rattle.dh_tree.specs.declared.tables.Dim.{Dim}
use Rattle.dh_tree.proofs.BankElements.{in_bank_below, row_below, column_below}

-- quotient and remainder tell a number
apart : (q r p s n : ℕ) → r < n → s < n → q * n + r ≡ p * n + s → (q ≡ p) × (r ≡ s)
apart q r p s n h g e = (
  sym (div-mul-add q n r h) ∙ (ap (λ k. k / n) e ∙ div-mul-add p n s g),
  sym (mod-mul-add q n r h) ∙ (ap (λ k. k % n) e ∙ mod-mul-add p n s g),
)

joined : (a b n : ℕ) → a / n ≡ b / n → a % n ≡ b % n → a ≡ b
joined a b n e f = sym (div-add-mod' a n) ∙ (ap (λ k. k * n + a % n) e ∙ (ap (λ k. (b / n) * n + k) f ∙ div-add-mod' b n))

pub one_bank_row : (dims : List Dim) → AllByRecursion IsDim dims → (bank row other line : ℕ) → bank < banks_of dims → row < rows_of dims → other < banks_of dims → line < rows_of dims
    → position_in_bank dims bank row ≡ position_in_bank dims other line → (bank ≡ other) × (row ≡ line)
one_bank_row [] h bank row other line a b c d e = (omega (arith, a, c), omega (arith, b, d))
one_bank_row (x ∷ ds) h bank row other line a b c d e =
    let banks = banks_of ds in
    let rows = rows_of ds in
    let below = in_bank_below ds (bank % banks) (row % rows) h.1 (column_below bank x.banks banks a) (column_below row (x.size / x.banks) rows b) in
    let below' = in_bank_below ds (other % banks) (line % rows) h.1 (column_below other x.banks banks c) (column_below line (x.size / x.banks) rows d) in
    let outer = apart ((row / rows) * x.banks + bank / banks) (position_in_bank ds (bank % banks) (row % rows)) ((line / rows) * x.banks + other / banks) (position_in_bank ds (other % banks) (line % rows)) (elements_of ds) below below' e in
    let parts = apart (row / rows) (bank / banks) (line / rows) (other / banks) x.banks (row_below bank x.banks banks a) (row_below other x.banks banks c) outer.0 in
    let inner = one_bank_row ds h.1 (bank % banks) (row % rows) (other % banks) (line % rows) (column_below bank x.banks banks a) (column_below row (x.size / x.banks) rows b)
    (column_below other x.banks banks c) (column_below line (x.size / x.banks) rows d) outer.1 in
    (joined bank other banks parts.1 inner.0, joined row line rows parts.0 inner.1)

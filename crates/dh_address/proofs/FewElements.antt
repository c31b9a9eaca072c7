-- The memories of a program have few rows in a bank; and products that wrap.
use Rattle.std.proofs.Common.{◌≡◌, ℕ, ◌+◌, ◌*◌, ◌/◌, ◌%◌, ◌^◌, ◌<◌, List, refl, sym, ap, ◌∙◌, arith, add-one}
use Rattle.std.specs.Prelude.{◌∷◌, slice_index_or, length, drop}
use Rattle.std.proofs.Math.Seq.{drop-cons}
use Rattle.std.proofs.lemmas.Nat.{mul-mod_first}
use Rattle.dh_tree.specs.declared.tables.Dim.{Dim}
use Rattle.dh_tree.specs.declared.tables.MemEntry.{MemEntry}
use Rattle.dh_tree.specs.Elements.{banks_of, dims_at, rows_of}
use Rattle.dh_tree.specs.Shapes.{IsProgramTable}
use Rattle.dh_tree.specs.Tables.{elements_of}
use Rattle.dh_address.proofs.LiteralMeans.{dims_formed, elements_below, rows_few}

module _ (table : List MemEntry) (m : ℕ) (h : IsProgramTable table) where
  pub rows_below : rows_of (dims_at table m) < 2 ^ 64
  rows_below =
      let within = rows_few (dims_at table m) (dims_formed table m h.entries) in
      let few = elements_below table m h in
      omega (arith, within, few)

-- a product so far times the rest
pub product_turn : (count next size rest whole : ℕ) → next ≡ count * size % 2 ^ 64 → (count * (size * rest)) % 2 ^ 64 ≡ whole → (next * rest) % 2 ^ 64 ≡ whole
product_turn count next size rest whole is so =
    ap (λ n. (n * rest) % 2 ^ 64) is ∙ (mul-mod_first (count * size) rest (2 ^ 64) ∙ (ap (λ n. n % 2 ^ 64) again ∙ so))
  where
    again : count * size * rest ≡ count * (size * rest)
    again = omega arith

-- one dimension more
abbrev no_dim : Dim
no_dim = record { size = 0; banks = 0 }

module _ (dims : List Dim) (i count : ℕ) where
  pub rows_turn : (size whole : ℕ) → i < length dims → size ≡ (slice_index_or dims i no_dim).size / (slice_index_or dims i no_dim).banks
      → count * rows_of (drop i dims) % 2 ^ 64 ≡ whole → count * size % 2 ^ 64 * rows_of (drop (i + 1) dims) % 2 ^ 64 ≡ whole
  rows_turn size whole within is so =
      product_turn count _ size (rows_of (drop (i + 1) dims)) whole refl
      (ap (λ n. count * n % 2 ^ 64) (ap (λ k. k * rows_of (drop (i + 1) dims)) is ∙ sym here) ∙ so)
    where
      here : rows_of (drop i dims) ≡ ((slice_index_or dims i no_dim).size / (slice_index_or dims i no_dim).banks) * rows_of (drop (i + 1) dims)
      here = ap rows_of (drop-cons dims i no_dim within ∙ ap (λ n. slice_index_or dims i no_dim ∷ drop n dims) (sym (add-one i)))

  pub banks_turn : (whole : ℕ) → i < length dims → count * banks_of (drop i dims) % 2 ^ 64 ≡ whole
      → count * (slice_index_or dims i no_dim).banks % 2 ^ 64 * banks_of (drop (i + 1) dims) % 2 ^ 64 ≡ whole
  banks_turn whole within so =
      product_turn count _ (slice_index_or dims i no_dim).banks (banks_of (drop (i + 1) dims)) whole refl (ap (λ n. count * n % 2 ^ 64) (sym here) ∙ so)
    where
      here : banks_of (drop i dims) ≡ (slice_index_or dims i no_dim).banks * banks_of (drop (i + 1) dims)
      here = ap banks_of (drop-cons dims i no_dim within ∙ ap (λ n. slice_index_or dims i no_dim ∷ drop n dims) (sym (add-one i)))

  pub elements_turn : (whole : ℕ) → i < length dims → count * elements_of (drop i dims) % 2 ^ 64 ≡ whole
      → count * (slice_index_or dims i no_dim).size % 2 ^ 64 * elements_of (drop (i + 1) dims) % 2 ^ 64 ≡ whole
  elements_turn whole within so =
      product_turn count _ (slice_index_or dims i no_dim).size (elements_of (drop (i + 1) dims)) whole refl (ap (λ n. count * n % 2 ^ 64) (sym here) ∙ so)
    where
      here : elements_of (drop i dims) ≡ (slice_index_or dims i no_dim).size * elements_of (drop (i + 1) dims)
      here = ap elements_of (drop-cons dims i no_dim within ∙ ap (λ n. slice_index_or dims i no_dim ∷ drop n dims) (sym (add-one i)))

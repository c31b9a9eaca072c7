-- Where whole numbers lead as indices, one dimension after the other.
use Rattle.std.proofs.Common.{◌≡◌, ℕ, suc, ◌<◌, ◌≤◌, List, [], ◌∷◌, length, drop, get_or, Some, None, ℤ, refl, ap, sym, ◌∙◌, subst, arith}
use Rattle.std.proofs.Math.Seq.{drop-cons}
use Rattle.std.proofs.Math.ListN.{drop_of_length-le}
use Rattle.dh_tree.specs.declared.tables.Dim.{Dim}
use Rattle.dh_extents.specs.Extents.{AreDims}
use Rattle.dh_code.specs.declared.spots.Spread.{Spread}
use Rattle.dh_code.specs.Banks.{SpreadHasRoom, IsSpread, Spreads, index_within, spread_behind}
use Rattle.dh_code.proofs.Located.{Leading, leads_next, leads_nowhere, leads_to, nothing_yet, room_next}

abbrev pub LeadsFrom : List Dim → List ℤ → (i : ℕ) → Spread → Type 0
LeadsFrom ds all i s = Leading ds all (drop i ds) (drop i all) s

module _ (ds : List Dim) (all : List ℤ) where
  pub index_first : (bank row position : ℕ) → bank ≡ 0 → row ≡ 0 → position ≡ 0 → AreDims ds → length all ≡ length ds → LeadsFrom ds all 0 (record { bank = bank; row = row; position = position })
  index_first bank row position b r p are same =
      subst (λ (n : ℕ). LeadsFrom ds all 0 (record { bank = n; row = row; position = position })) (sym b)
      (subst (λ (n : ℕ). LeadsFrom ds all 0 (record { bank = 0; row = n; position = position })) (sym r)
      (subst (λ (n : ℕ). LeadsFrom ds all 0 (record { bank = 0; row = 0; position = n })) (sym p) (record {
        inside = refl;
        bank = nothing_yet _ _;
        row = nothing_yet _ _;
        position = nothing_yet _ _;
        dims = are.dims;
        long = same;
      })))

  module _ (i : ℕ) (d0 : Dim) (z0 z : ℤ) (s : Spread) (there : i < length ds) (same : length all ≡ length ds) (is : get_or all i z0 ≡ z) (h : LeadsFrom ds all i s) where
    abbrev d : Dim
    d = get_or ds i d0

    there_too : i < length all
    there_too = subst (λ (n : ℕ). i < n) (sym same) there

    split_dims : drop i ds ≡ d ∷ drop (suc i) ds
    split_dims = drop-cons ds i d0 there

    split_numbers : drop i all ≡ z ∷ drop (suc i) all
    split_numbers = drop-cons all i z0 there_too ∙ ap (λ x. x ∷ drop (suc i) all) is

    now : Leading ds all (d ∷ drop (suc i) ds) (z ∷ drop (suc i) all) s
    now = subst (λ (l : List Dim). Leading ds all l (z ∷ drop (suc i) all) s) split_dims
        (subst (λ (l : List ℤ). Leading ds all (drop i ds) l s) split_numbers h)

    pub index_banks : 1 ≤ d.banks
    index_banks = now.dims.0.banks

    pub index_none : index_within d.size z ≡ None → Spreads ds all None
    index_none e = leads_nowhere ds all d (drop (suc i) ds) z (drop (suc i) all) s now e

    pub index_more : (n : ℕ) → n < d.size → index_within d.size z ≡ Some n → (t : Spread) → t ≡ spread_behind s d n → LeadsFrom ds all (suc i) t
    index_more n below e t same = subst (λ (x : Spread). LeadsFrom ds all (suc i) x) (sym same) (leads_next ds all d (drop (suc i) ds) z (drop (suc i) all) s now n below e)

    pub index_room : AreDims ds → (n : ℕ) → n < d.size → index_within d.size z ≡ Some n → SpreadHasRoom s d n
    index_room are n below e = room_next ds all d (drop (suc i) ds) z (drop (suc i) all) s now n below e are

  pub index_last : (i : ℕ) (s : Spread) → length ds ≤ i → LeadsFrom ds all i s → Spreads ds all (Some s) × IsSpread ds (Some s)
  index_last i s over h = by (drop i ds) (drop i all) (drop_of_length-le ds over) h
    where
      by : (rest : List Dim) (is : List ℤ) → rest ≡ [] → Leading ds all rest is s → Spreads ds all (Some s) × IsSpread ds (Some s)
      by [] [] e k = leads_to ds all s k
      by [] (z ∷ is) e k = absurd (never (length is) k.long)
        where
          never : (n : ℕ) → suc n ≡ 0 → ⊥
          never n e = omega (arith, e)
      by (d ∷ rest) is e k = absurd (none e)
        where
          none : d ∷ rest ≡ [] → ⊥
          none e = absurd cc

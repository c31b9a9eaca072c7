-- Where an access in a row leads in a step: where its guard holds the old one was made and in range, and it leads to the
-- old one's element.
use Rattle.std.proofs.Common.{◌≡◌, ℕ, zero, suc, ◌<◌, ◌^◌, ◌&&◌, inl, inr, Some, None, List, Bool, true, false, length, map, refl, sym, ap, subst, ◌∙◌, arith, pos, int_le, int_lt, unsigned_abs, nat_le, ◌==◌}
use Rattle.std.specs.Prelude.{[], ◌∷◌, Option, if◌then◌else◌, ℤ, nat_lt}
use Rattle.std.specs.List.{AllByRecursion}
use Rattle.std.proofs.lemmas.Bool.Decides.{nat_tests}
use Rattle.std.proofs.lemmas.Int.{ints}
use Rattle.dh_value.specs.declared.kinds.Kind.{Kind}
use Rattle.dh_value.specs.declared.kinds.Kind.TheVariants as kind
use Rattle.dh_value.specs.declared.words.Word.{Word}
use Rattle.dh_value.specs.Words.{IsInteger, IsKind, IsWord, with_bits, width_of}
use Rattle.dh_value.specs.Operations.{truth, is_true}
use Rattle.dh_tree.specs.declared.tables.Dim.{Dim}
use Rattle.dh_tree.specs.declared.tables.MemEntry.{MemEntry}
use Rattle.dh_tree.specs.Elements.{Spot, bank_of, row_of, rows_of, is_within, spot_of, spot_in_bank, dims_at}
use Rattle.dh_tree.specs.Shapes.{IsDim}
use Rattle.dh_tree.proofs.BankElements.{row_within, position_told}
use Rattle.dh_meaning.specs.Effects.{is_inside, is_row, spot_by_row}
use Rattle.dh_plan.specs.Blocks.{word_at, is_on, first_listed_bank}
use Rattle.dh_plan.specs.SoundPlans.{IsListed}
use Rattle.dh_plan.specs.SoundRuns.{IsInKind}
use Rattle.dh_rows.specs.Readings.{Readings}
use Rattle.dh_rows.specs.RowsShown.{HoldsOrNone, is_below_size}

-- Words.

-- the word of a truth
pub truth_word : (w : Word) → IsInKind kind.Bool w → w ≡ truth (is_true w)
truth_word w h = of w.kind w.bits h.same h.small
  where
    bit : (b : ℕ) → b < 2 ^ 1 → b ≡ (if b == 1 then 1 else 0)
    bit zero l = refl
    bit (suc zero) l = refl
    bit (suc (suc b)) l = absurd (omega (arith, l))

    of : (k : Kind) (b : ℕ) → k ≡ kind.Bool → b < 2 ^ 1 → with_bits k b ≡ truth (b == 1)
    of k b e l = ap (λ (j : Kind). with_bits j b) e ∙ ap (λ (n : ℕ). with_bits kind.Bool n) (bit b l)

pub word_in_kind : (k : Kind) (w : Word) → IsInteger k → IsInKind k w → IsWord w
word_in_kind k w sized h = record { sized = subst (λ (j : Kind). IsKind j) (sym h.same) (kind_sized k sized); fits = subst (λ (j : Kind). w.bits < 2 ^ width_of j) (sym h.same) h.small }
  where
    kind_sized : (k : Kind) → IsInteger k → IsKind k
    kind_sized kind.Bool h = absurd h
    kind_sized (kind.Unsigned w) h = h
    kind_sized (kind.Signed w) h = h

-- Indices in range.

pub both_true : (a b : Bool) → (a && b) ≡ true → (a ≡ true) × (b ≡ true)
both_true true b e = (refl, e)
both_true false b e = absurd (cc)

-- a whole number in range is a natural number below the size
pub record IsNaturalBelow (z : ℤ) (size : ℕ) : Type 0 where
  pub is : z ≡ pos (unsigned_abs z)
  pub below : unsigned_abs z < size

pub in_range : (z : ℤ) (size : ℕ) → is_below_size z size ≡ true → IsNaturalBelow z size
in_range z size e =
    let b = both_true (int_le (pos 0) z) (int_lt z (pos size)) e in
    let l = b.0 in
    let m = b.1 in
    record { is = natural z l; below = less z l m }
  where
    natural : (z : ℤ) → int_le (pos 0) z ≡ true → z ≡ pos (unsigned_abs z)
    natural z l = omega (arith, ints, l)

    less : (z : ℤ) → int_le (pos 0) z ≡ true → int_lt z (pos size) ≡ true → unsigned_abs z < size
    less z l m = omega (arith, ints, l, m)

abbrev pub abs_of : List ℤ → List ℕ
abs_of zs = map unsigned_abs zs

-- where an access leads by indices
pub inside_within : (dims : List Dim) (zs : List ℤ) → is_inside dims zs ≡ true → is_within dims (abs_of zs) ≡ true
inside_within [] [] e = refl
inside_within [] (z ∷ zs) e = absurd (cc)
inside_within (d ∷ ds) [] e = absurd (cc)
inside_within (d ∷ ds) (z ∷ zs) e =
    let b = both_true (is_below_size z d.size) (is_inside ds zs) e in
    let n = in_range z d.size b.0 in
    ap (λ (t : Bool). t && is_within ds (abs_of zs)) (less (unsigned_abs z) d.size n.below) ∙ inside_within ds zs b.1
  where
    less : (n size : ℕ) → n < size → nat_lt n size ≡ true
    less n size l = grind (arith, nat_tests)

-- Spots.

pub row_in_range : (dims : List Dim) (n : ℕ) → n < rows_of dims → is_row dims (pos n) ≡ true
row_in_range dims n l = tests n (rows_of dims) l
  where
    tests : (n size : ℕ) → n < size → (int_le (pos 0) (pos n) && int_lt (pos n) (pos size)) ≡ true
    tests n size l = ap (λ (t : Bool). t && nat_lt n size) (least n) ∙ less n size l
      where
        least : (n : ℕ) → nat_le 0 n ≡ true
        least n = grind (arith, nat_tests)

        less : (n size : ℕ) → n < size → nat_lt n size ≡ true
        less n size l = grind (arith, nat_tests)

-- the row and the bank of an element lead to it
pub place_leads : (table : List MemEntry) (memory : ℕ) (indices : List ℕ) → AllByRecursion IsDim (dims_at table memory) → is_within (dims_at table memory) indices ≡ true
    → spot_by_row table memory (bank_of (dims_at table memory) indices) (pos (row_of (dims_at table memory) indices)) ≡ Some (spot_of table memory indices)
place_leads table memory indices formed within =
    let dims = dims_at table memory in
    let spot = spot_in_bank table memory (bank_of dims indices) (row_of dims indices) in
    chosen (is_row dims (pos (row_of dims indices))) (row_in_range dims (row_of dims indices) (row_within dims indices formed within)) spot
    ∙ ap (λ (n : ℕ). Some (record { memory = memory; bank = bank_of dims indices; row = row_of dims indices; position = n })) (position_told dims indices formed within)
  where
    chosen : (t : Bool) → t ≡ true → (s : Spot) → (if t then Some s else None) ≡ Some s
    chosen true e s = refl
    chosen false e s = absurd (cc)

-- the only bank of a list
pub only_bank : (bank : ℕ) (banks : List (ℕ × ℕ)) → length banks ≡ 1 → (place : ℕ) → IsListed bank place banks → first_listed_bank banks ≡ bank
only_bank bank [] long place h = absurd h
only_bank bank (b ∷ []) long place (inl h) = h.0
only_bank bank (b ∷ []) long place (inr h) = absurd h
only_bank bank (b ∷ c ∷ bs) long place h = absurd (omega (arith, long))

-- What a guard shows.

pub holds_on : (x : Readings) (first : ℕ) (ws : List Word) → ((n : ℕ) → x.word n ≡ word_at first ws n) → (g : Option ℕ) (b : Bool) → HoldsOrNone x g b → is_on first ws g ≡ b
holds_on x first ws same None b h = sym h
holds_on x first ws same (Some g) b h = ap is_true (sym (same g) ∙ h) ∙ truth_is b
  where
    truth_is : (b : Bool) → is_true (truth b) ≡ b
    truth_is true = refl
    truth_is false = refl

-- Where indices lead, one dimension after the other: the numbers so far, times those of the dimensions to come.
use Rattle.std.proofs.Common.{◌≡◌, ℕ, suc, ◌+◌, ◌*◌, ◌/◌, ◌%◌, ◌^◌, ◌<◌, ◌≤◌, ◌&&◌, Bool, true, false, if◌then◌else◌, List, [], ◌∷◌, length, drop, map, get_or, Some, None, ℤ, refl, ap, sym, ◌∙◌, subst, arith}
use Rattle.std.specs.Prelude.{pos, int_le, int_lt, unsigned_abs}
use Rattle.std.specs.List.{AllByRecursion}
use Rattle.std.proofs.Math.Seq.{drop-cons}
use Rattle.std.proofs.Math.ListN.{drop_of_length-le}
use Rattle.std.proofs.Math.Nat.{mod-lt, mul-le-mul, mul_assoc, le_refl}
use Rattle.std.proofs.lemmas.List.{length-map, get_or-map}
use Rattle.dh_tree.specs.declared.tables.Dim.{Dim}
use Rattle.dh_tree.specs.Elements.{banks_of, rows_of, bank_of, row_of, position_of}
use Rattle.dh_tree.specs.Shapes.{IsDim}
use Rattle.dh_tree.specs.Tables.{elements_of, most_elements}
use Rattle.dh_meaning.specs.Effects.{is_inside}
use Rattle.dh_code.specs.declared.spots.Spread.{Spread}
use Rattle.dh_extents.specs.Extents.{AreDims}
use Rattle.dh_code.specs.Banks.{SpreadHasRoom, IsSpread, Spreads, index_within, spread_behind}
use Rattle.dh_value.specs.Words as words
use Rattle.dh_code.specs.declared.codes.Operand.{Operand}
use Rattle.dh_code.specs.Operated.{Sight, index_values, operand_word}
use Rattle.dh_extents.proofs.DimSizes.{banks_fit, banks_some, elements_some, quotient_below, rows_fit, rows_some}

-- a number so far, of which each leads to so many of those that are still to come
pub record Part (so_far many rest all : ℕ) (whole : ℕ) : Type 0 where
  pub is : so_far * many + rest ≡ whole
  pub room : (so_far + 1) * many ≤ all

-- indices that led so far, and those that are still to come
pub record Leading (whole : List Dim) (all : List ℤ) (ds : List Dim) (is : List ℤ) (s : Spread) : Type 0 where
  pub inside : is_inside ds is ≡ is_inside whole all
  pub bank : Part s.bank (banks_of ds) (bank_of ds (map unsigned_abs is)) (banks_of whole) (bank_of whole (map unsigned_abs all))
  pub row : Part s.row (rows_of ds) (row_of ds (map unsigned_abs is)) (rows_of whole) (row_of whole (map unsigned_abs all))
  pub position : Part s.position (elements_of ds) (position_of ds (map unsigned_abs is)) (elements_of whole) (position_of whole (map unsigned_abs all))
  pub dims : AllByRecursion IsDim ds
  pub long : length is ≡ length ds

pub nothing_yet : (many rest : ℕ) → Part 0 many rest many rest
nothing_yet many rest = record { is = none; room = one }
  where
    none : 0 * many + rest ≡ rest
    none = omega arith

    one : (0 + 1) * many ≤ many
    one = omega arith

-- one part more: the number within it is below its size
part_more : (so_far size many here rest all whole : ℕ) → here < size → Part so_far (size * many) (here * many + rest) all whole → Part (so_far * size + here) many rest all whole
part_more so_far size many here rest all whole less h = record { is = moves ∙ h.is; room = within (mul-le-mul step (le_refl many)) same h.room }
  where
    moves : (so_far * size + here) * many + rest ≡ so_far * (size * many) + (here * many + rest)
    moves = omega arith

    step : so_far * size + here + 1 ≤ (so_far + 1) * size
    step = omega (arith, less)

    same : ((so_far + 1) * size) * many ≡ (so_far + 1) * (size * many)
    same = mul_assoc (so_far + 1) size many

    within : {x y z : ℕ} → x ≤ y → y ≡ z → z ≤ all → x ≤ all
    within e f g = omega (arith, e, f, g)

-- a number so far is below the whole, where something is to come
part_below : (so_far many rest all whole : ℕ) → 1 ≤ many → Part so_far many rest all whole → so_far < all
part_below so_far many rest all whole some h = below ((so_far + 1) * many) (mul-le-mul (le_refl (so_far + 1)) some) h.room
  where
    below : (n : ℕ) → (so_far + 1) * 1 ≤ n → n ≤ all → so_far < all
    below n e f = omega (arith, e, f)

-- the test on an index, and what it leaves
tested : (t : Bool) (m n : ℕ) → (if t then Some m else None) ≡ Some n → (t ≡ true) × (m ≡ n)
tested true m n e = (refl, same e)
  where
    same : Some m ≡ Some n → m ≡ n
    same e = cc
tested false m n e = absurd (never e)
  where
    never : None ≡ Some n → ⊥
    never e = absurd cc

refused : (t : Bool) (m : ℕ) → (if t then Some m else None) ≡ None → t ≡ false
refused true m e = absurd (never e)
  where
    never : Some m ≡ None → ⊥
    never e = absurd cc
refused false m e = refl

module _ (whole : List Dim) (all : List ℤ) (d : Dim) (ds : List Dim) (z : ℤ) (is : List ℤ) (s : Spread) (h : Leading whole all (d ∷ ds) (z ∷ is) s) where
  abbrev test : Bool
  test = int_le (pos 0) z && int_lt z (pos d.size)

  pub leads_nowhere : index_within d.size z ≡ None → is_inside whole all ≡ false
  leads_nowhere e = sym h.inside ∙ ap (λ t. t && is_inside ds is) (refused test (unsigned_abs z) e)

  module _ (n : ℕ) (below : n < d.size) (e : index_within d.size z ≡ Some n) where
    abbrev so : (test ≡ true) × (unsigned_abs z ≡ n)
    so = tested test (unsigned_abs z) n e

    some_banks : 0 < d.banks
    some_banks = let x = h.dims.0.banks in omega (arith, x)

    pub leads_next : Leading whole all ds is (spread_behind s d n)
    leads_next = record {
      inside = sym (ap (λ t. t && is_inside ds is) so.0) ∙ h.inside;
      bank = part_more s.bank d.banks (banks_of ds) (n % d.banks) (bank_of ds (map unsigned_abs is)) (banks_of whole) (bank_of whole (map unsigned_abs all)) (mod-lt n some_banks)
          (subst (λ (m : ℕ). Part s.bank (d.banks * banks_of ds) ((m % d.banks) * banks_of ds + bank_of ds (map unsigned_abs is)) (banks_of whole) (bank_of whole (map unsigned_abs all))) so.1 h.bank);
      row = part_more s.row (d.size / d.banks) (rows_of ds) (n / d.banks) (row_of ds (map unsigned_abs is)) (rows_of whole) (row_of whole (map unsigned_abs all)) (quotient_below n d.size d.banks below h.dims.0.banks h.dims.0.divides)
          (subst (λ (m : ℕ). Part s.row ((d.size / d.banks) * rows_of ds) ((m / d.banks) * rows_of ds + row_of ds (map unsigned_abs is)) (rows_of whole) (row_of whole (map unsigned_abs all))) so.1 h.row);
      position = part_more s.position d.size (elements_of ds) n (position_of ds (map unsigned_abs is)) (elements_of whole) (position_of whole (map unsigned_abs all)) below
          (subst (λ (m : ℕ). Part s.position (d.size * elements_of ds) (m * elements_of ds + position_of ds (map unsigned_abs is)) (elements_of whole) (position_of whole (map unsigned_abs all))) so.1 h.position);
      dims = h.dims.1;
      long = less (length is) (length ds) h.long;
    }
      where
        less : (a b : ℕ) → suc a ≡ suc b → a ≡ b
        less a b e = omega (arith, e)

    pub room_next : AreDims whole → SpreadHasRoom s d n
    room_next are = record {
      bank = few _ _ (part_below _ _ _ _ _ (banks_some ds h.dims.1) leads_next.bank) (banks_fit whole are.dims) are.few;
      row = few _ _ (part_below _ _ _ _ _ (rows_some ds h.dims.1) leads_next.row) (rows_fit whole are.dims) are.few;
      position = few _ _ (part_below _ _ _ _ _ (elements_some ds h.dims.1) leads_next.position) (least (elements_of whole)) are.few;
    }
      where
        few : (n a : ℕ) {b : ℕ} → n < a → a ≤ b → b ≤ most_elements → n < 2 ^ 64
        few n a e f g = omega (arith, e, f, g)

        least : (n : ℕ) → n ≤ n
        least n = omega arith

-- nothing is to come
pub leads_to : (whole : List Dim) (all : List ℤ) (s : Spread) → Leading whole all [] [] s → Spreads whole all (Some s) × IsSpread whole (Some s)
leads_to whole all s h = (
  (sym h.inside, (last s.bank _ h.bank.is, (last s.row _ h.row.is, last s.position _ h.position.is))),
  (within s.bank _ h.bank.room, (within s.row _ h.row.room, within s.position _ h.position.room)),
)
  where
    last : (n m : ℕ) → n * 1 + 0 ≡ m → n ≡ m
    last n m e = omega (arith, e)

    within : (n m : ℕ) → (n + 1) * 1 ≤ m → n < m
    within n m e = omega (arith, e)

-- as many indices as dimensions are wanted
pub not_as_many : (ds : List Dim) (is : List ℤ) → (length is ≡ length ds → ⊥) → is_inside ds is ≡ false
not_as_many [] [] h = absurd (h refl)
not_as_many [] (i ∷ is) h = refl
not_as_many (d ∷ ds) [] h = refl
not_as_many (d ∷ ds) (i ∷ is) h = by (int_le (pos 0) i && int_lt i (pos d.size)) (not_as_many ds is (λ e. h (ap suc e)))
  where
    by : (t : Bool) → is_inside ds is ≡ false → (t && is_inside ds is) ≡ false
    by true e = e
    by false e = refl

-- the loop, by the number of dimensions so far

abbrev pub LeadsSoFar : List Dim → Sight → List Operand → (i : ℕ) → Spread → Type 0
LeadsSoFar ds w os i s = Leading ds (index_values w os) (drop i ds) (drop i (index_values w os)) s

module _ (ds : List Dim) (w : Sight) (os : List Operand) where
  pub none_of_many : (length os ≡ length ds → ⊥) → Spreads ds (index_values w os) None
  none_of_many h = not_as_many ds (index_values w os) (λ e. h (sym (length-map os (λ o. words.value_of (operand_word w o))) ∙ e))

  pub leads_first : (bank row position : ℕ) → bank ≡ 0 → row ≡ 0 → position ≡ 0 → AreDims ds → length os ≡ length ds → LeadsSoFar ds w os 0 (record { bank = bank; row = row; position = position })
  leads_first bank row position b r p are same =
      subst (λ (n : ℕ). LeadsSoFar ds w os 0 (record { bank = n; row = row; position = position })) (sym b)
      (subst (λ (n : ℕ). LeadsSoFar ds w os 0 (record { bank = 0; row = n; position = position })) (sym r)
      (subst (λ (n : ℕ). LeadsSoFar ds w os 0 (record { bank = 0; row = 0; position = n })) (sym p) (record {
        inside = refl;
        bank = nothing_yet _ _;
        row = nothing_yet _ _;
        position = nothing_yet _ _;
        dims = are.dims;
        long = length-map os (λ o. words.value_of (operand_word w o)) ∙ same;
      })))

  module _ (i : ℕ) (d0 : Dim) (o0 : Operand) (s : Spread) (there : i < length ds) (same : length os ≡ length ds) (h : LeadsSoFar ds w os i s) where
    abbrev value : Operand → ℤ
    value x = words.value_of (operand_word w x)

    abbrev d : Dim
    d = get_or ds i d0

    abbrev o : Operand
    o = get_or os i o0

    there_too : i < length os
    there_too = subst (λ (n : ℕ). i < n) (sym same) there

    split_dims : drop i ds ≡ d ∷ drop (suc i) ds
    split_dims = drop-cons ds i d0 there

    split_values : drop i (index_values w os) ≡ value o ∷ drop (suc i) (index_values w os)
    split_values =
        drop-cons (index_values w os) i (value o0) (subst (λ (n : ℕ). i < n) (sym (length-map os value)) there_too)
        ∙ ap (λ x. x ∷ drop (suc i) (index_values w os)) (get_or-map value os i o0 (value o0) there_too)

    now : Leading ds (index_values w os) (d ∷ drop (suc i) ds) (value o ∷ drop (suc i) (index_values w os)) s
    now = subst (λ (l : List Dim). Leading ds (index_values w os) l (value o ∷ drop (suc i) (index_values w os)) s) split_dims
        (subst (λ (l : List ℤ). Leading ds (index_values w os) (drop i ds) l s) split_values h)

    pub some_banks_there : 1 ≤ d.banks
    some_banks_there = now.dims.0.banks

    pub leads_none : index_within d.size (value o) ≡ None → Spreads ds (index_values w os) None
    leads_none e = leads_nowhere ds (index_values w os) d (drop (suc i) ds) (value o) (drop (suc i) (index_values w os)) s now e

    pub leads_more : (n : ℕ) → n < d.size → index_within d.size (value o) ≡ Some n → (t : Spread) → t ≡ spread_behind s d n → LeadsSoFar ds w os (suc i) t
    leads_more n below e t is = subst (λ (x : Spread). LeadsSoFar ds w os (suc i) x) (sym is) (leads_next ds (index_values w os) d (drop (suc i) ds) (value o) (drop (suc i) (index_values w os)) s now n below e)

    pub has_room : AreDims ds → (n : ℕ) → n < d.size → index_within d.size (value o) ≡ Some n → SpreadHasRoom s d n
    has_room are n below e = room_next ds (index_values w os) d (drop (suc i) ds) (value o) (drop (suc i) (index_values w os)) s now n below e are

  pub leads_last : (i : ℕ) (s : Spread) → length ds ≤ i → LeadsSoFar ds w os i s → Spreads ds (index_values w os) (Some s) × IsSpread ds (Some s)
  leads_last i s over h = by (drop i ds) (drop i (index_values w os)) (drop_of_length-le ds over) h
    where
      by : (rest : List Dim) (is : List ℤ) → rest ≡ [] → Leading ds (index_values w os) rest is s → Spreads ds (index_values w os) (Some s) × IsSpread ds (Some s)
      by [] [] e k = leads_to ds (index_values w os) s k
      by [] (z ∷ is) e k = absurd (never (length is) k.long)
        where
          never : (n : ℕ) → suc n ≡ 0 → ⊥
          never n e = omega (arith, e)
      by (d ∷ rest) is e k = absurd (none e)
        where
          none : d ∷ rest ≡ [] → ⊥
          none e = absurd cc

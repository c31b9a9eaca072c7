-- What constants of a block mean: a literal below a size is what its value shows, and the place that is made of literals is
-- row and bank of their element. And what the sizes of a program's memories say of widths.
use Rattle.std.proofs.Common.{◌≡◌, ℕ, zero, suc, ◌+◌, ◌-◌, ◌*◌, ◌/◌, ◌%◌, ◌^◌, ◌<◌, ◌≤◌, ◌&&◌, nat_le, nat_lt, Some, None, List, Bool, true, false, length, refl, sym, ap, subst, ◌∙◌, arith, pos, ◌-ℤ◌}
use Rattle.std.specs.Prelude.{[], ◌∷◌, Option, slice_get, if◌then◌else◌, max, ℤ}
use Rattle.std.specs.List.{AllByRecursion}
use Rattle.std.proofs.lemmas.Bool.Decides.{nat_tests}
use Rattle.std.proofs.Math.Nat.{mod-lt, mod-eq_of_lt, mod-add-mod, one-le-mul, mul-le-mul, div-le_self}
use Rattle.std.proofs.lemmas.Nat.{pow_pos, mul-mod_first}
use Rattle.dh_value.specs.declared.kinds.Kind.{Kind}
use Rattle.dh_value.specs.declared.kinds.Kind.TheVariants as kind
use Rattle.dh_value.specs.declared.words.Word.{Word}
use Rattle.dh_value.specs.Words.{IsWidth, signed, value_of, value_in}
use Rattle.dh_tree.specs.declared.tables.Dim.{Dim}
use Rattle.dh_tree.specs.declared.tables.MemEntry.{MemEntry}
use Rattle.dh_tree.specs.Elements.{banks_of, rows_of, bank_of, row_of, is_within, dims_at}
use Rattle.dh_tree.specs.Shapes.{IsDim, IsMemory, IsProgramTable}
use Rattle.dh_tree.specs.Tables.{elements_of, elements_in}
use Rattle.dh_tree.proofs.BankElements.{row_within, bank_below, whole}
use Rattle.dh_plan.specs.declared.operations.Operation.{Operation}
use Rattle.dh_plan.specs.declared.operations.OperationForm.{OperationForm}
use Rattle.dh_plan.specs.declared.operations.OperationForm.TheVariants.{Constant, Old, Compute, Convert, Select, Check, Probe, Read, Write, Set}
use Rattle.dh_rows.specs.RowsShown.{IsWideEnough, is_below_size}
use Rattle.dh_rows.specs.MadeOperations.{bits_in}
use Rattle.dh_rows.proofs.BitsOfNumbers.{bits_above, bits_most}
use Rattle.dh_address.specs.declared.literals.LiteralPlace.{LiteralPlace}
use Rattle.dh_address.specs.declared.operands.BlockValue.{BlockValue}
use Rattle.dh_address.specs.LiteralPlaces.{natural_in, natural_if, whole_in, whole_if_constant, whole_at, constant_form, constant_guarded, constant_in, literal_at, below_size, and_then, literal_places}
use Rattle.dh_address.specs.Pieces.{aim_width, select_width}

-- Literals.

pub record IsConstantOf (os : List Operation) (place n : ℕ) : Type 0 where
  pub word : Word
  pub there : slice_get os place ≡ Some (record { guard = None; form = Constant word })
  pub value : value_of word ≡ pos n

natural_means : (k : Kind) (bits n : ℕ) → natural_in k bits ≡ Some n → value_in k bits ≡ pos n
natural_means kind.Bool bits n e = absurd (cc)
natural_means (kind.Unsigned w) bits n e = let same : bits ≡ n = cc in ap pos same
natural_means (kind.Signed w) bits n e = of (nat_lt bits (2 ^ (w - 1))) e
  where
    of : (t : Bool) → (if t then Some bits else None) ≡ Some n → (if t then pos bits else pos bits -ℤ pos (2 ^ w)) ≡ pos n
    of true e = let same : bits ≡ n = cc in ap pos same
    of false e = absurd (cc)

constant_form_is : (f : OperationForm) (w : Word) → constant_form f ≡ Some w → f ≡ Constant w
constant_form_is (Constant word) w e = let same : word ≡ w = cc in ap Constant same
constant_form_is (Old register) w e = absurd (cc)
constant_form_is (Compute op left right) w e = absurd (cc)
constant_form_is (Convert inner to) w e = absurd (cc)
constant_form_is (Select test a b) w e = absurd (cc)
constant_form_is (Check ok fault) w e = absurd (cc)
constant_form_is (Probe r fault) w e = absurd (cc)
constant_form_is (Read r) w e = absurd (cc)
constant_form_is (Write r value) w e = absurd (cc)
constant_form_is (Set register value) w e = absurd (cc)

abbrev operation_of : (guard : Option ℕ) → OperationForm → Operation
operation_of guard f = record { guard = guard; form = f }

constant_guarded_is : (guard : Option ℕ) (f : OperationForm) (w : Word) → constant_guarded guard f ≡ Some w → operation_of guard f ≡ operation_of None (Constant w)
constant_guarded_is None f w e = ap (λ (g : OperationForm). operation_of None g) (constant_form_is f w e)
constant_guarded_is (Some g) f w e = absurd (cc)

constant_is : (o : Option Operation) (w : Word) → constant_in o ≡ Some w → o ≡ Some (record { guard = None; form = Constant w })
constant_is None w e = absurd (cc)
constant_is (Some o) w e = ap (λ (p : Operation). Some p) (constant_guarded_is o.guard o.form w e)

pub literal_means : (os : List Operation) (place n : ℕ) → literal_at os place ≡ Some n → IsConstantOf os place n
literal_means os place n e = of (constant_in (slice_get os place)) refl e
  where
    of : (c : Option Word) → constant_in (slice_get os place) ≡ c → natural_if c ≡ Some n → IsConstantOf os place n
    of None at e = absurd (cc)
    of (Some w) at e = record { word = w; there = constant_is (slice_get os place) w at; value = natural_means w.kind w.bits n e }

-- The same of whatever sign.

pub record IsWholeOf (os : List Operation) (place : ℕ) (z : ℤ) : Type 0 where
  pub word : Word
  pub there : slice_get os place ≡ Some (record { guard = None; form = Constant word })
  pub value : value_of word ≡ z

one_whole : (a b : ℤ) → Some a ≡ Some b → a ≡ b
one_whole a b e = cc

wholes_mean : (k : Kind) (bits : ℕ) (z : ℤ) → whole_in k bits ≡ Some z → value_in k bits ≡ z
wholes_mean kind.Bool bits z e = absurd (cc)
wholes_mean (kind.Unsigned w) bits z e = one_whole (pos bits) z e
wholes_mean (kind.Signed w) bits z e = of (nat_le w 64) (signed w bits) e
  where
    of : (t : Bool) (y : ℤ) → (if t then Some y else None) ≡ Some z → y ≡ z
    of true y e = one_whole y z e
    of false y e = absurd (cc)

pub whole_means : (os : List Operation) (place : ℕ) (z : ℤ) → whole_at os place ≡ Some z → IsWholeOf os place z
whole_means os place z e = of (constant_in (slice_get os place)) refl e
  where
    of : (c : Option Word) → constant_in (slice_get os place) ≡ c → whole_if_constant c ≡ Some z → IsWholeOf os place z
    of None at e = absurd (cc)
    of (Some w) at e = record { word = w; there = constant_is (slice_get os place) w at; value = wholes_mean w.kind w.bits z e }

-- a literal below a size
pub below_means : (o : Option ℕ) (size n : ℕ) → below_size o size ≡ Some n → (o ≡ Some n) × (n < size)
below_means None size n e = absurd (cc)
below_means (Some m) size n e = of (nat_lt m size) refl e
  where
    of : (t : Bool) → nat_lt m size ≡ t → (if t then Some m else None) ≡ Some n → (Some m ≡ Some n) × (n < size)
    of true l e = (e, subst (λ (k : ℕ). k < size) (the e) (less m size l))
      where
        the : Some m ≡ Some n → m ≡ n
        the e = cc

        less : (m size : ℕ) → nat_lt m size ≡ true → m < size
        less m size l = grind (arith, nat_tests)
    of false l e = absurd (cc)

pub natural_range : (n size : ℕ) → is_below_size (pos n) size ≡ nat_lt n size
natural_range n size = ap (λ t. t && nat_lt n size) (zero_least n)
  where
    zero_least : (n : ℕ) → nat_le 0 n ≡ true
    zero_least n = grind (arith, nat_tests)

pub literal_in_range : (n size : ℕ) → n < size → is_below_size (pos n) size ≡ true
literal_in_range n size l = natural_range n size ∙ less n size l
  where
    less : (n size : ℕ) → n < size → nat_lt n size ≡ true
    less n size l = grind (arith, nat_tests)

-- Places.

-- these indices are these literals, each below its size
abbrev pub AreLiterals : List Dim → (indices : List BlockValue) → (numbers : List ℕ) → Type 0
AreLiterals [] [] [] = Unit {0}
AreLiterals (d ∷ ds) (i ∷ is) (n ∷ ns) = (below_size i.literal d.size ≡ Some n) × AreLiterals ds is ns
AreLiterals _ _ _ = ⊥

pub record IsPlaceOf (dims : List Dim) (indices : List BlockValue) (place : LiteralPlace) (row bank : ℕ) : Type 0 where
  pub numbers : List ℕ
  pub literals : AreLiterals dims indices numbers
  pub row_is : place.row ≡ (row * rows_of dims + row_of dims numbers) % 2 ^ 64
  pub bank_is : place.bank ≡ (bank * banks_of dims + bank_of dims numbers) % 2 ^ 64

-- a digit more, where sums and products wrap

factor_wrapped : (a k rest m : ℕ) → (a % m * k + rest) % m ≡ (a * k + rest) % m
factor_wrapped a k rest m = sym (mod-add-mod (a % m * k) m rest) ∙ (ap (λ (n : ℕ). (n + rest) % m) (mul-mod_first a k m) ∙ mod-add-mod (a * k) m rest)

digit_wrapped : (row r q k rest m : ℕ) → ((row * r % m + q) % m * k + rest) % m ≡ (row * (r * k) + (q * k + rest)) % m
digit_wrapped row r q k rest m =
    factor_wrapped (row * r % m + q) k rest m
    ∙ (ap (λ (n : ℕ). n % m) (parts (row * r % m) q k rest)
    ∙ (factor_wrapped (row * r) k (q * k + rest) m ∙ ap (λ (n : ℕ). n % m) (sums row r q k rest)))
  where
    parts : (a q k rest : ℕ) → (a + q) * k + rest ≡ a * k + (q * k + rest)
    parts a q k rest = omega arith

    sums : (row r q k rest : ℕ) → row * r * k + (q * k + rest) ≡ row * (r * k) + (q * k + rest)
    sums row r q k rest = omega arith

small_is : (n : ℕ) → n < 2 ^ 64 → n ≡ (n * 1 + 0) % 2 ^ 64
small_is n l = sym (mod-eq_of_lt l) ∙ ap (λ (k : ℕ). k % 2 ^ 64) (same n)
  where
    same : (n : ℕ) → n ≡ n * 1 + 0
    same n = omega arith

below_word : (n : ℕ) → n % 2 ^ 64 < 2 ^ 64
below_word n = mod-lt n {m = 2 ^ 64} (pow_pos 64)

places_are : (dims : List Dim) (indices : List BlockValue) (row bank : ℕ) (place : LiteralPlace) → length indices ≡ length dims → row < 2 ^ 64 → bank < 2 ^ 64
    → literal_places dims indices row bank ≡ Some place → IsPlaceOf dims indices place row bank
places_are [] [] row bank place long r b e =
    let same : record { row = row; bank = bank } ≡ place = cc in
    subst (λ (p : LiteralPlace). IsPlaceOf [] [] p row bank) same (record { numbers = []; literals = tt; row_is = small_is row r; bank_is = small_is bank b })
places_are [] (i ∷ is) row bank place long r b e = absurd (omega (arith, long))
places_are (d ∷ ds) [] row bank place long r b e = absurd (omega (arith, long))
places_are (d ∷ ds) (i ∷ is) row bank place long r b e =
    of (below_size i.literal d.size) refl e
    (λ n e'. places_are ds is ((row * (d.size / d.banks) % 2 ^ 64 + n / d.banks) % 2 ^ 64) ((bank * d.banks % 2 ^ 64 + n % d.banks) % 2 ^ 64) place (omega (arith, long))
    (below_word (row * (d.size / d.banks) % 2 ^ 64 + n / d.banks)) (below_word (bank * d.banks % 2 ^ 64 + n % d.banks)) e')
  where
    of : (o : Option ℕ) → below_size i.literal d.size ≡ o
        → and_then o (λ n. literal_places ds is ((row * (d.size / d.banks) % 2 ^ 64 + n / d.banks) % 2 ^ 64) ((bank * d.banks % 2 ^ 64 + n % d.banks) % 2 ^ 64)) ≡ Some place
        → ((n : ℕ) → literal_places ds is ((row * (d.size / d.banks) % 2 ^ 64 + n / d.banks) % 2 ^ 64) ((bank * d.banks % 2 ^ 64 + n % d.banks) % 2 ^ 64) ≡ Some place
        → IsPlaceOf ds is place ((row * (d.size / d.banks) % 2 ^ 64 + n / d.banks) % 2 ^ 64) ((bank * d.banks % 2 ^ 64 + n % d.banks) % 2 ^ 64))
        → IsPlaceOf (d ∷ ds) (i ∷ is) place row bank
    of None there e rest = absurd (cc)
    of (Some n) there e rest =
        let more = rest n e in
        record {
          numbers = n ∷ more.numbers;
          literals = (there, more.literals);
          row_is = more.row_is ∙ digit_wrapped row (d.size / d.banks) (n / d.banks) (rows_of ds) (row_of ds more.numbers) (2 ^ 64);
          bank_is = more.bank_is ∙ digit_wrapped bank d.banks (n % d.banks) (banks_of ds) (bank_of ds more.numbers) (2 ^ 64);
        }

literals_within : (dims : List Dim) (indices : List BlockValue) (numbers : List ℕ) → AreLiterals dims indices numbers → is_within dims numbers ≡ true
literals_within [] [] [] h = refl
literals_within [] [] (n ∷ ns) h = absurd h
literals_within [] (i ∷ is) ns h = absurd h
literals_within (d ∷ ds) [] ns h = absurd h
literals_within (d ∷ ds) (i ∷ is) [] h = absurd h
literals_within (d ∷ ds) (i ∷ is) (n ∷ ns) h =
    let l = (below_means i.literal d.size n h.0).1 in
    ap (λ (t : Bool). t && is_within ds ns) (less n d.size l) ∙ literals_within ds is ns h.1
  where
    less : (n size : ℕ) → n < size → nat_lt n size ≡ true
    less n size l = grind (arith, nat_tests)

-- Sizes.

pub elements_small : (table : List MemEntry) (memory : ℕ) → elements_of (dims_at table memory) ≤ max (elements_in table) 1
elements_small [] memory = omega arith
elements_small (e ∷ es) zero = (let l : elements_of e.shape.dims ≤ elements_of e.shape.dims + elements_in es = omega arith in omega (arith, l))
elements_small (e ∷ es) (suc memory) = let so = elements_small es memory in omega (arith, so)

pub dims_formed : (table : List MemEntry) (memory : ℕ) → AllByRecursion IsMemory table → AllByRecursion IsDim (dims_at table memory)
dims_formed [] memory h = tt
dims_formed (e ∷ es) zero h = h.0.shape.dims
dims_formed (e ∷ es) (suc memory) h = dims_formed es memory h.1

size_some : (d : Dim) → IsDim d → 1 ≤ d.size
size_some d h = h.size

pub elements_some : (ds : List Dim) → AllByRecursion IsDim ds → 1 ≤ elements_of ds
elements_some [] h = omega arith
elements_some (d ∷ ds) h = one-le-mul (size_some d h.0) (elements_some ds h.1)

-- the rows and the banks are fewer than the elements
pub rows_few : (ds : List Dim) → AllByRecursion IsDim ds → rows_of ds ≤ elements_of ds
rows_few [] h = omega arith
rows_few (d ∷ ds) h = mul-le-mul (fewer d h.0) (rows_few ds h.1)
  where
    fewer : (d : Dim) → IsDim d → d.size / d.banks ≤ d.size
    fewer d h = div-le_self d.size d.banks

pub banks_few : (ds : List Dim) → AllByRecursion IsDim ds → banks_of ds ≤ elements_of ds
banks_few [] h = omega arith
banks_few (d ∷ ds) h = mul-le-mul (fewer d h.0) (banks_few ds h.1)
  where
    fewer : (d : Dim) → IsDim d → d.banks ≤ d.size
    fewer d h = of (d.size / d.banks) (whole d.size d.banks h.divides)
      where
        of : (n : ℕ) → n * d.banks ≡ d.size → d.banks ≤ d.size
        of zero e = let s = h.size in absurd (omega (arith, e, s))
        of (suc n) e = omega (arith, e)

-- a million is below 2^64
few_below : (n : ℕ) → n ≤ max 1048576 1 → n < 2 ^ 64
few_below n l = omega (arith, l)

pub elements_below : (table : List MemEntry) (memory : ℕ) → IsProgramTable table → elements_of (dims_at table memory) < 2 ^ 64
elements_below table memory h = let l = elements_small table memory in let m = h.elements in few_below (elements_of (dims_at table memory)) (omega (arith, l, m))

bits_some : (n : ℕ) → 1 ≤ n → n < 2 ^ 64 → 1 ≤ bits_in n
bits_some n some small = of (bits_in n) refl (bits_above n small)
  where
    of : (b : ℕ) → bits_in n ≡ b → n < 2 ^ b → 1 ≤ b
    of zero e l = absurd (omega (arith, some, l))
    of (suc b) e l = omega arith

-- the width of rows suffices
pub width_suffices : (table : List MemEntry) (memory : ℕ) → IsProgramTable table → IsWideEnough (aim_width (dims_at table memory)) (dims_at table memory)
width_suffices table memory h =
    let dims = dims_at table memory in
    let formed = dims_formed table memory h.entries in
    let small = elements_below table memory h in
    record {
      sized = (bits_some (elements_of dims) (elements_some dims formed) small, bits_most (elements_of dims));
      dims_are = formed;
      most = bits_above (elements_of dims) small;
    }

-- the width is enough for the banks of these dimensions
pub record HasSelectWidth (narrow : ℕ) (dims : List Dim) : Type 0 where
  pub sized : IsWidth narrow
  pub most : banks_of dims ≤ 2 ^ narrow

-- so a bank stays what it is where it is cut to it
pub bank_fits : (narrow : ℕ) (dims : List Dim) (bank : ℕ) → HasSelectWidth narrow dims → bank < banks_of dims → bank < 2 ^ narrow
bank_fits narrow dims bank h l = less bank (banks_of dims) (2 ^ narrow) l h.most
  where
    less : (n m b : ℕ) → n < m → m ≤ b → n < b
    less n m b l k = omega (arith, l, k)

-- the greatest bank, or 1
greatest_above : (n : ℕ) → n < 2 ^ 64 → n ≤ max (n % 2 ^ 64 - 1) 1 + 1
greatest_above n small = subst (λ (m : ℕ). n ≤ max (m - 1) 1 + 1) (sym (mod-eq_of_lt small)) (above n)
  where
    above : (n : ℕ) → n ≤ max (n - 1) 1 + 1
    above n = omega arith

greatest_small : (n : ℕ) → n < 2 ^ 64 → max (n % 2 ^ 64 - 1) 1 < 2 ^ 64
greatest_small n small = subst (λ (m : ℕ). max (m - 1) 1 < 2 ^ 64) (sym (mod-eq_of_lt small)) (below n small)
  where
    below : (n : ℕ) → n < 2 ^ 64 → max (n - 1) 1 < 2 ^ 64
    below n small = omega (arith, small)

greatest_some : (n : ℕ) → 1 ≤ max n 1
greatest_some n = omega arith

-- the width of selects suffices
pub select_suffices : (table : List MemEntry) (memory : ℕ) → IsProgramTable table → HasSelectWidth (select_width (dims_at table memory)) (dims_at table memory)
select_suffices table memory h = of (banks_of (dims_at table memory)) (less _ _ _ (banks_few (dims_at table memory) (dims_formed table memory h.entries)) (elements_below table memory h)) refl
  where
    less : (n m b : ℕ) → n ≤ m → m < b → n < b
    less n m b l k = omega (arith, l, k)

    reached : (n top bound : ℕ) → n ≤ top + 1 → top < bound → n ≤ bound
    reached n top bound l m = omega (arith, l, m)

    of : (banks : ℕ) → banks < 2 ^ 64 → banks ≡ banks_of (dims_at table memory) → HasSelectWidth (select_width (dims_at table memory)) (dims_at table memory)
    of banks small same =
        let top = max (banks % 2 ^ 64 - 1) 1 in
        let fits = greatest_small banks small in
        let sized : IsWidth (bits_in top) = (bits_some top (greatest_some (banks % 2 ^ 64 - 1)) fits, bits_most top) in
        let most : banks ≤ 2 ^ bits_in top = reached banks top (2 ^ bits_in top) (greatest_above banks small) (bits_above top fits) in
        record {
          sized = subst (λ (n : ℕ). IsWidth (bits_in (max (n % 2 ^ 64 - 1) 1))) same sized;
          most = subst (λ (n : ℕ). n ≤ 2 ^ bits_in (max (n % 2 ^ 64 - 1) 1)) same most;
        }

-- A place that is made of literals is row and bank of their element.

pub record IsLiteralPlace (dims : List Dim) (indices : List BlockValue) (place : LiteralPlace) : Type 0 where
  pub numbers : List ℕ
  pub literals : AreLiterals dims indices numbers
  pub row_is : place.row ≡ row_of dims numbers
  pub bank_is : place.bank ≡ bank_of dims numbers
  pub row_small : place.row < elements_of dims
  pub bank_within : place.bank < banks_of dims

pub literal_place_is : (dims : List Dim) (indices : List BlockValue) (place : LiteralPlace) → AllByRecursion IsDim dims → elements_of dims < 2 ^ 64
    → length indices ≡ length dims → literal_places dims indices 0 0 ≡ Some place → IsLiteralPlace dims indices place
literal_place_is dims indices place formed small long e =
    let p = places_are dims indices 0 0 place long (pow_pos 64) (pow_pos 64) e in
    let within = literals_within dims indices p.numbers p.literals in
    let row = row_within dims p.numbers formed within in
    let bank = bank_below dims p.numbers formed within in
    let rows = rows_few dims formed in
    let banks = banks_few dims formed in
    let row_few : row_of dims p.numbers < elements_of dims = omega (arith, row, rows) in
    let bank_few : bank_of dims p.numbers < elements_of dims = omega (arith, bank, banks) in
    let row_is = p.row_is ∙ unwrapped (rows_of dims) (row_of dims p.numbers) (omega (arith, row_few, small)) in
    let bank_is = p.bank_is ∙ unwrapped (banks_of dims) (bank_of dims p.numbers) (omega (arith, bank_few, small)) in
    record {
      numbers = p.numbers;
      literals = p.literals;
      row_is = row_is;
      bank_is = bank_is;
      row_small = subst (λ (n : ℕ). n < elements_of dims) (sym row_is) row_few;
      bank_within = subst (λ (n : ℕ). n < banks_of dims) (sym bank_is) bank;
    }
  where
    none : (k n : ℕ) → 0 * k + n ≡ n
    none k n = omega arith

    unwrapped : (k n : ℕ) → n < 2 ^ 64 → (0 * k + n) % 2 ^ 64 ≡ n
    unwrapped k n l = ap (λ (m : ℕ). m % 2 ^ 64) (none k n) ∙ mod-eq_of_lt l

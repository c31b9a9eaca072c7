-- Why a few bits more than a size takes suffice for an index behind a view, whatever the kinds of index and offset: an
-- offset with which an index can be in range is no further from 0 than the size allows, and that is tested of the offset
-- by itself, in its own kind. Behind that test the index is above -size and below 3 * size. In words of two bits more
-- than the size takes, at most 64, these are apart: what is below 0 shows more than the size, and what is in range itself.
use Rattle.std.proofs.Common.{◌≡◌, ℕ, zero, suc, ◌+◌, ◌-◌, ◌*◌, ◌/◌, ◌%◌, ◌^◌, ◌<◌, ◌≤◌, ◌⊎◌, inl, inr, ◌&&◌, nat_le, nat_lt, Bool, true, false, List, None, ℤ, pos, negsuc, ◌+ℤ◌, ◌-ℤ◌, ◌*ℤ◌, int_le, int_lt, unsigned_abs, refl, sym, ap, ◌∙◌, subst, arith, length, pow_mono}
use Rattle.std.specs.Prelude.{if◌then◌else◌}
use Rattle.std.proofs.lemmas.Bool.{cases_lt}
use Rattle.std.proofs.lemmas.Bool.Decides.{nat_tests}
use Rattle.std.proofs.lemmas.Int.{ints}
use Rattle.std.proofs.lemmas.Nat.{pow_pos, mod-mul-add, leading_length}
use Rattle.std.proofs.Math.IntN.{pos-*ℤ-pos, pos-*ℤ-negsuc}
use Rattle.std.proofs.Math.Nat.{mod-eq_of_lt, mod-lt, mul_comm, mul-le-mul_left, div-mul-le_self}
use Rattle.dh_value.specs.declared.kinds.Kind.{Kind}
use Rattle.dh_value.specs.declared.kinds.Kind.TheVariants as kind
use Rattle.dh_value.specs.declared.operators.Op.TheVariants as op
use Rattle.dh_value.specs.declared.words.Word.{Word}
use Rattle.dh_value.specs.Words.{IsInteger, IsWord, IsWidth, value_of, value_in, with_bits, width_of, residue}
use Rattle.dh_value.specs.Operations.{binary_of}
use Rattle.dh_value.proofs.Residues.{residue_small}
use Rattle.dh_value.proofs.Values.{value_residue}
use Rattle.dh_tree.specs.ViewElements.{is_index}
use Rattle.dh_plan.specs.declared.operations.Operation.{Operation}
use Rattle.dh_rows.specs.Readings.{Readings, Obeys}
use Rattle.dh_rows.specs.RowsShown.{is_below_size, is_small, SpanTells}
use Rattle.dh_rows.specs.MadeOperations.{converted, centred, span_centred, no_span, spanned, moved_width}
use Rattle.dh_rows.proofs.Growing.{obeys_plain, pushed_grows}
use Rattle.dh_rows.proofs.PutBehind.{with_behind}
use Rattle.dh_rows.proofs.CountWords.{number_cut}
use Rattle.dh_rows.proofs.CountedSums.{begun_behind, converted_shows, with_shows}
use Rattle.dh_rows.proofs.DigitNumbers.{double}

-- Tests.

natural_range : (n size : ℕ) → is_below_size (pos n) size ≡ nat_lt n size
natural_range n size = ap (λ t. t && nat_lt n size) (zero_least n)
  where
    zero_least : (n : ℕ) → nat_le 0 n ≡ true
    zero_least n = grind (arith, nat_tests)

past_size : (n size : ℕ) → size ≤ n → is_below_size (pos n) size ≡ false
past_size n size l = natural_range n size ∙ past n size l
  where
    past : (n size : ℕ) → size ≤ n → nat_lt n size ≡ false
    past n size l = grind (arith, nat_tests)

below_zero : (n t size : ℕ) → n < t → is_below_size (pos n -ℤ pos t) size ≡ false
below_zero n t size l = ap (λ b. b && int_lt (pos n -ℤ pos t) (pos size)) (of (int_le (pos 0) (pos n -ℤ pos t)) refl)
  where
    of : (b : Bool) → int_le (pos 0) (pos n -ℤ pos t) ≡ b → b ≡ false
    of true e = absurd (omega (arith, ints, e, l))
    of false e = refl

-- Moved indices.

-- the residue of a whole number tells whether it is in range, and is the number where it is
pub record TellsRange (modulus size : ℕ) (z : ℤ) : Type 0 where
  pub test : is_below_size (pos (residue modulus z)) size ≡ is_index size z
  pub exact : is_index size z ≡ true → pos (residue modulus z) ≡ z

apart : (m size n t : ℕ) (z : ℤ) → z ≡ pos n -ℤ pos t → n < size * 2 → t < size → size * 4 ≤ m → TellsRange m size z
apart m size n t z is few less wide = of (cases_lt n t)
  where
    far : n < t → residue m z ≡ n + (m - t)
    far l = residue_small m z (n + (m - t)) (record { times = 1; is = up }) (omega (arith, l, less, wide))
      where
        up : z +ℤ pos (1 * m) ≡ pos (n + (m - t))
        up = omega (arith, ints, is, l, less, wide)

    near : t ≤ n → z ≡ pos (n - t)
    near l = omega (arith, ints, is, l)

    small : t ≤ n → residue m z ≡ n - t
    small l = residue_small m z (n - t) (record { times = 0; is = up }) (omega (arith, few, wide))
      where
        up : z +ℤ pos (0 * m) ≡ pos (n - t)
        up = omega (arith, ints, is, l)

    of : (n < t) ⊎ (t ≤ n) → TellsRange m size z
    of (inl l) =
        let outside : is_index size z ≡ false = ap (λ y. is_below_size y size) is ∙ below_zero n t size l in
        let shown : is_below_size (pos (residue m z)) size ≡ false = ap (λ r. is_below_size (pos r) size) (far l) ∙ past_size (n + (m - t)) size (omega (arith, less, wide)) in
        record { test = shown ∙ sym outside; exact = λ e. absurd (never (sym e ∙ outside)) }
      where
        never : true ≡ false → ⊥
        never c = cc
    of (inr l) =
        let r : pos (residue m z) ≡ z = ap pos (small l) ∙ sym (near l) in
        record { test = ap (λ y. is_below_size y size) r; exact = λ e. r }

bounded_product : (k a size : ℕ) → 1 ≤ size → nat_le a ((size - 1) / k) ≡ true → k * a < size
bounded_product k a size some e =
    let l = at_most a ((size - 1) / k) e in
    let most : k * a ≤ k * ((size - 1) / k) = mul-le-mul_left k l in
    let all : (size - 1) / k * k ≤ size - 1 = div-mul-le_self (size - 1) k in
    omega (arith, most, all, some, mul_comm k ((size - 1) / k))
  where
    at_most : (m n : ℕ) → nat_le m n ≡ true → m ≤ n
    at_most m n e = grind (arith, nat_tests)

-- an index in range moved by a small offset: the words suffice
pub moved_range : (m size k n : ℕ) (e : ℤ) → 1 ≤ size → size * 4 ≤ m → is_small e ((size - 1) / k) ≡ true → n < size → TellsRange m size ((pos k *ℤ e) +ℤ pos n)
moved_range m size k n (pos x) some wide small below =
    let l = bounded_product k x size some small in
    apart m size (k * x + n) 0 ((pos k *ℤ pos x) +ℤ pos n) (let p = pos-*ℤ-pos k x in omega (arith, ints, p)) (omega (arith, l, below)) (omega (arith, some)) wide
moved_range m size k n (negsuc x) some wide small below =
    let l = bounded_product k (suc x) size some small in
    apart m size n (k * suc x) ((pos k *ℤ negsuc x) +ℤ pos n) (let p = pos-*ℤ-negsuc k x in omega (arith, ints, p)) (omega (arith, below)) l wide

-- the width is two bits more than the size takes, and no more than 64 where sizes are below 2^60
pub width_moves : (size : ℕ) → size < 2 ^ 60 → IsWidth (moved_width size) × (size * 4 ≤ 2 ^ moved_width size)
width_moves size small =
    let (m, e, above, least) = leading_length 64 size (omega (arith, small)) in of m (omega (arith, e)) above least
  where
    wide : (m : ℕ) → size < 2 ^ m → size * 4 ≤ 2 ^ (m + 2)
    wide m above =
        let two : m + 2 ≡ suc (suc m) = omega arith in
        let power : 2 ^ (m + 2) ≡ 2 ^ m * 2 * 2 = ap (λ n. 2 ^ n) two ∙ (double (suc m) ∙ ap (λ n. n * 2) (double m)) in
        omega (arith, power, above)

    few : (m : ℕ) → 2 ^ m ≤ 2 * size + 1 → m + 2 ≤ 64
    few m least = elim (cases_lt m 62) [
      | inl l ↦ omega (arith, l)
      | inr l ↦ (let more : 2 ^ 62 ≤ 2 ^ m = pow_mono l in absurd (omega (arith, more, least, small)))
    ]

    of : (m : ℕ) → moved_width size ≡ m + 2 → size < 2 ^ m → 2 ^ m ≤ 2 * size + 1 → IsWidth (moved_width size) × (size * 4 ≤ 2 ^ moved_width size)
    of m is above least = subst (λ w. IsWidth w × (size * 4 ≤ 2 ^ w)) (sym is) ((omega arith, few m least), wide m above)

-- Small offsets.

mod_once : (n m : ℕ) → m ≤ n → n < m + m → n % m ≡ n - m
mod_once n m l h = ap (λ k. k % m) (parts n m l) ∙ mod-mul-add 1 m (n - m) (omega (arith, l, h))
  where
    parts : (n m : ℕ) → m ≤ n → n ≡ 1 * m + (n - m)
    parts n m l = omega (arith, l)

below_zero_abs : (u m : ℕ) → u < m → unsigned_abs (pos u -ℤ pos m) ≡ m - u
below_zero_abs u m l = ap unsigned_abs (complement u m l) ∙ steps u m l
  where
    complement : (u m : ℕ) → u < m → pos u -ℤ pos m ≡ negsuc (m - 1 - u)
    complement u m l = omega (arith, ints)

    steps : (u m : ℕ) → u < m → suc (m - 1 - u) ≡ m - u
    steps u m l = omega (arith, l)

-- the bits of an offset and its bound, modulo 2^width, are within twice the bound exactly where it is small; h is half of m
centre : (u h m bound : ℕ) → m ≡ h * 2 → u < m → bound < h
    → nat_lt ((u + bound) % m) (bound * 2 + 1) ≡ is_small (if nat_lt u h then pos u else pos u -ℤ pos m) bound
centre u h m bound twice few less = of (nat_lt u h) refl
  where
    at_least : (a b : ℕ) → nat_lt a b ≡ false → b ≤ a
    at_least a b e = grind (arith, nat_tests)

    under : (a b : ℕ) → nat_lt a b ≡ true → a < b
    under a b e = grind (arith, nat_tests)

    same : (u bound : ℕ) → nat_lt (u + bound) (bound * 2 + 1) ≡ nat_le u bound
    same u bound = grind (arith, nat_tests)

    over : (a b c e : ℕ) → b ≤ a → e < c → nat_lt a b ≡ nat_le c e
    over a b c e l k = grind (arith, nat_tests)

    both : (a b c e : ℕ) → a < b → c ≤ e → nat_lt a b ≡ nat_le c e
    both a b c e l k = grind (arith, nat_tests)

    positive : nat_lt u h ≡ true → nat_lt ((u + bound) % m) (bound * 2 + 1) ≡ nat_le u bound
    positive e = let l = under u h e in ap (λ r. nat_lt r (bound * 2 + 1)) (mod-eq_of_lt (sum l)) ∙ same u bound
      where
        sum : u < h → u + bound < m
        sum l = omega (arith, l, less, twice)

    negative : nat_lt u h ≡ false → (u + bound < m) ⊎ (m ≤ u + bound) → nat_lt ((u + bound) % m) (bound * 2 + 1) ≡ nat_le (m - u) bound
    negative e (inl l) =
        let k = at_least u h e in
        ap (λ r. nat_lt r (bound * 2 + 1)) (mod-eq_of_lt l) ∙ over (u + bound) (bound * 2 + 1) (m - u) bound (omega (arith, k, less)) (omega (arith, l))
    negative e (inr l) =
        ap (λ r. nat_lt r (bound * 2 + 1)) (mod_once (u + bound) m l (omega (arith, few, less, twice)))
        ∙ both (u + bound - m) (bound * 2 + 1) (m - u) bound (omega (arith, few, l)) (omega (arith, l))

    of : (t : Bool) → nat_lt u h ≡ t → nat_lt ((u + bound) % m) (bound * 2 + 1) ≡ is_small (if t then pos u else pos u -ℤ pos m) bound
    of true e = positive e
    of false e = negative e (cases_lt (u + bound) m) ∙ ap (λ n. nat_le n bound) (sym (below_zero_abs u m few))

-- each is small where the bound is at least half of all numbers
wide_bound : (u h m bound : ℕ) → m ≡ h * 2 → u < m → h ≤ bound → is_small (if nat_lt u h then pos u else pos u -ℤ pos m) bound ≡ true
wide_bound u h m bound twice few most = of (nat_lt u h) refl
  where
    at_least : (a b : ℕ) → nat_lt a b ≡ false → b ≤ a
    at_least a b e = grind (arith, nat_tests)

    under : (a b : ℕ) → nat_lt a b ≡ true → a < b
    under a b e = grind (arith, nat_tests)

    within : (a b : ℕ) → a ≤ b → nat_le a b ≡ true
    within a b l = grind (arith, nat_tests)

    of : (t : Bool) → nat_lt u h ≡ t → is_small (if t then pos u else pos u -ℤ pos m) bound ≡ true
    of true e = let l = under u h e in within u bound (omega (arith, l, most))
    of false e = let l = at_least u h e in ap (λ n. nat_le n bound) (below_zero_abs u m few) ∙ within (m - u) bound (omega (arith, l, most, twice))

halves : (w : ℕ) → 1 ≤ w → 2 ^ w ≡ 2 ^ (w - 1) * 2
halves zero l = absurd (omega (arith, l))
halves (suc w) l = double w ∙ ap (λ n. 2 ^ n * 2) (less w)
  where
    less : (w : ℕ) → w ≡ suc w - 1
    less w = omega arith

module _ (x : Readings) where
  as_bits : (w : Word) (k : Kind) → w.kind ≡ k → w ≡ with_bits k w.bits
  as_bits w k e = ap (λ j. with_bits j w.bits) e

  fits_kind : (w : Word) (k : Kind) → IsWord w → w.kind ≡ k → w.bits < 2 ^ width_of k
  fits_kind w k h e = subst (λ j. w.bits < 2 ^ width_of j) e h.fits

  value_kind : (w : Word) (k : Kind) → w.kind ≡ k → value_in k w.bits ≡ value_of w
  value_kind w k e = ap (λ j. value_in j w.bits) (sym e)

  centred_word : (os : List Operation) → x.first ≤ length os → (w value bound : ℕ) → IsWord (x.word value) → (x.word value).kind ≡ kind.Signed w → Obeys x (centred os w value bound).operations
      → x.word (centred os w value bound).value ≡ with_bits (kind.Unsigned w) (((x.word value).bits + bound) % 2 ^ w)
  centred_word os begun w value bound word e h =
      let c = converted os value w in
      let at_c = begun_behind x os c.operations (pushed_grows os None _) begun in
      let u = (x.word value).bits in
      let few = fits_kind (x.word value) (kind.Signed w) word e in
      let bits = converted_shows x os begun value w (obeys_plain x c.operations _ (with_behind c.operations op.Add c.value w bound refl) h)
      ∙ ap (λ b. with_bits (kind.Unsigned w) b) (ap (λ z. residue (2 ^ w) z) (sym (value_kind (x.word value) (kind.Signed w) e)) ∙ value_residue (kind.Signed w) u few)
      in
      with_shows x c.operations at_c op.Add c.value w bound refl h ∙ (ap (λ v. binary_of op.Add v (with_bits (kind.Unsigned w) bound)) bits ∙ number_cut w (u + bound) (pow_pos w))

  centred_shows : (os : List Operation) → x.first ≤ length os → (w value bound : ℕ) → IsWidth w → bound < 2 ^ (w - 1) → bound < 2 ^ 60 → IsWord (x.word value) → (x.word value).kind ≡ kind.Signed w
      → Obeys x (centred os w value bound).operations
      → SpanTells x (span_centred w bound (centred os w value bound)).span (is_small (value_of (x.word value)) bound)
  centred_shows os begun w value bound sized less few word e h =
      let u = (x.word value).bits in
      let is = centred_word os begun w value bound word e h in
      let small : (bound * 2 % 2 ^ 64 + 1) % 2 ^ 64 ≡ bound * 2 + 1 = unwrapped bound few in
      record {
        sized = sized;
        word = subst (λ (v : Word). IsWord v) (sym is) (record { sized = sized; fits = mod-lt (u + bound) (pow_pos w) });
        kind_is = ap (λ (v : Word). v.kind) is;
        test = ap (λ (v : Word). is_below_size (value_of v) ((bound * 2 % 2 ^ 64 + 1) % 2 ^ 64)) is
            ∙ (ap (λ n. is_below_size (pos ((u + bound) % 2 ^ w)) n) small
            ∙ (natural_range ((u + bound) % 2 ^ w) (bound * 2 + 1)
            ∙ (centre u (2 ^ (w - 1)) (2 ^ w) bound (halves w sized.0) (fits_kind (x.word value) (kind.Signed w) word e) less
            ∙ ap (λ z. is_small z bound) (value_kind (x.word value) (kind.Signed w) e))));
      }
    where
      unwrapped : (b : ℕ) → b < 2 ^ 60 → (b * 2 % 2 ^ 64 + 1) % 2 ^ 64 ≡ b * 2 + 1
      unwrapped b l = ap (λ n. (n + 1) % 2 ^ 64) (mod-eq_of_lt (first b l)) ∙ mod-eq_of_lt (second b l)
        where
          first : (b : ℕ) → b < 2 ^ 60 → b * 2 < 2 ^ 64
          first b l = omega (arith, l)

          second : (b : ℕ) → b < 2 ^ 60 → b * 2 + 1 < 2 ^ 64
          second b l = omega (arith, l)

  -- an offset is small exactly where what was made of it is in range
  pub spanned_tells : (k : Kind) (os : List Operation) → x.first ≤ length os → (value bound : ℕ) → IsInteger k → bound < 2 ^ 60 → IsWord (x.word value) → (x.word value).kind ≡ k
      → Obeys x (spanned os k value bound).operations → SpanTells x (spanned os k value bound).span (is_small (value_of (x.word value)) bound)
  spanned_tells kind.Bool os begun value bound sized few word e h = elim sized [ ]
  spanned_tells (kind.Unsigned w) os begun value bound sized few word e h = record {
    sized = sized;
    word = word;
    kind_is = e;
    test = ap (λ n. is_below_size (value_of (x.word value)) n) (mod-eq_of_lt (next bound few))
        ∙ (ap (λ z. is_below_size z (bound + 1)) (sym (value_kind (x.word value) (kind.Unsigned w) e))
        ∙ (natural_range (x.word value).bits (bound + 1) ∙ (one_more (x.word value).bits bound ∙ ap (λ z. is_small z bound) (value_kind (x.word value) (kind.Unsigned w) e))));
  }
    where
      next : (b : ℕ) → b < 2 ^ 60 → b + 1 < 2 ^ 64
      next b l = omega (arith, l)

      one_more : (n b : ℕ) → nat_lt n (b + 1) ≡ nat_le n b
      one_more n b = grind (arith, nat_tests)
  spanned_tells (kind.Signed w) os begun value bound sized few word e h = of (nat_le (2 ^ (w - 1)) bound) refl h
    where
      at_most : (m n : ℕ) → nat_le m n ≡ true → m ≤ n
      at_most m n e = grind (arith, nat_tests)

      above : (m n : ℕ) → nat_le m n ≡ false → n < m
      above m n e = grind (arith, nat_tests)

      of : (t : Bool) → nat_le (2 ^ (w - 1)) bound ≡ t → Obeys x (if t then no_span os else span_centred w bound (centred os w value bound)).operations
          → SpanTells x (if t then no_span os else span_centred w bound (centred os w value bound)).span (is_small (value_of (x.word value)) bound)
      of true l g =
          sym (ap (λ z. is_small z bound) (value_kind (x.word value) (kind.Signed w) e))
          ∙ wide_bound (x.word value).bits (2 ^ (w - 1)) (2 ^ w) bound (halves w sized.0) (fits_kind (x.word value) (kind.Signed w) word e) (at_most (2 ^ (w - 1)) bound l)
      of false l g = centred_shows os begun w value bound sized (above (2 ^ (w - 1)) bound l) few word e g

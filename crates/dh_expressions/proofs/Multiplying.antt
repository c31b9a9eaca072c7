-- Words of an integer kind as numbers modulo 2^width: a shift multiplies the number, and a sum adds both.
use Rattle.std.proofs.Common.{◌≡◌, ℕ, zero, suc, ◌+◌, ◌*◌, ◌%◌, ◌/◌, ◌^◌, ◌<◌, ◌≤◌, Some, None, pos, refl, sym, ap, ◌∙◌, subst, arith}
use Rattle.std.specs.Prelude.{Option}
use Rattle.std.proofs.lemmas.Nat.{mod-mul-add, mul-mod_first, pow_pos}
use Rattle.std.proofs.Math.Nat.{mod-add-mod, add-mod-mod, mod-add-div, mod-eq_of_lt, mod-lt}
use Rattle.dh_value.specs.declared.kinds.Kind.{Kind}
use Rattle.dh_value.specs.declared.kinds.Kind.TheVariants as kind
use Rattle.dh_value.specs.declared.operators.Op.TheVariants.{Add, Shl}
use Rattle.dh_value.specs.declared.words.Word.{Word}
use Rattle.dh_value.specs.Words.{IsInteger, IsKind, width_of, with_bits, word_of}
use Rattle.dh_value.specs.Operations.{AreIntegers, binary_of}
use Rattle.dh_value.proofs.Masks.{cut_first, half}
use Rattle.dh_value.proofs.Residues.{residue_is}
use Rattle.dh_value.proofs.Values.{above_value, integer_width, shl_bits, sum_bits}
use Rattle.dh_expressions.specs.declared.drafts.Draft.{Draft}
use Rattle.dh_expressions.specs.Drafted.{Computes, word_shown}
use Rattle.dh_expressions.specs.Multiples.{Multiplies, ShowsNumber, ShowsSum, SumSoFar, Sums}
use Rattle.dh_expressions.proofs.Pushing.{begun_later, extends_again, extends_self, fits_before}

integers_alike : (k : Kind) → IsInteger k → AreIntegers k k
integers_alike kind.Bool h = elim h [ ]
integers_alike (kind.Unsigned w) h = refl
integers_alike (kind.Signed w) h = refl

pub number_word : (k : Kind) (t : ℕ) → word_of k (pos t) ≡ with_bits k (t % 2 ^ width_of k)
number_word k t = ap (λ b. with_bits k b) (residue_is (2 ^ width_of k) (pos t) t (pow_pos (width_of k)) (above_value (kind.Unsigned (width_of k)) t))

pub shift_word : (k : Kind) (t by : ℕ) → IsKind k → binary_of Shl (word_of k (pos t)) (with_bits (kind.Unsigned 6) by) ≡ word_of k (pos (t * 2 ^ by))
shift_word k t by sized =
    ap (λ (a : Word). binary_of Shl a (with_bits (kind.Unsigned 6) by)) (number_word k t)
    ∙ (ap (λ b. with_bits k b)
    (sym (shl_bits k (t % 2 ^ width_of k) by sized) ∙ (cut_first (t % 2 ^ width_of k * 2 ^ by) (width_of k) sized.1 ∙ mul-mod_first t (2 ^ by) (2 ^ width_of k)))
    ∙ sym (number_word k (t * 2 ^ by)))

pub sum_word : (k : Kind) (s t : ℕ) → IsInteger k → binary_of Add (word_of k (pos s)) (word_of k (pos t)) ≡ word_of k (pos (s + t))
sum_word k s t h =
    let sized = integer_width k h in
    ap (λ (a : Word). binary_of Add a (word_of k (pos t))) (number_word k s)
    ∙ (ap (λ (b : Word). binary_of Add (with_bits k (s % 2 ^ width_of k)) b) (number_word k t)
    ∙ (ap (λ b. with_bits k b)
    (sym (sum_bits k k (s % 2 ^ width_of k) (t % 2 ^ width_of k) sized (integers_alike k h))
    ∙ (cut_first (s % 2 ^ width_of k + t % 2 ^ width_of k) (width_of k) sized.1
    ∙ (mod-add-mod s (2 ^ width_of k) (t % 2 ^ width_of k) ∙ add-mod-mod s t (2 ^ width_of k))))
    ∙ sym (number_word k (s + t))))

pub shifted_none : (d : Draft) (value by : ℕ) → by ≡ 0 → Multiplies d d value value (2 ^ by)
shifted_none d value by none = record {
  extends = extends_self d;
  is = λ x f b k h t shows. shows ∙ ap (λ n. word_of k (pos n)) (sym (ap (λ i. t * 2 ^ i) none ∙ omega arith));
  quiet = λ x f b. refl;
}

pub shifted_by : (d0 d1 d2 : Draft) (value amount number by : ℕ) (w : Word) → w ≡ with_bits (kind.Unsigned 6) by
    → Computes d0 d1 amount (λ x. w) → Computes d1 d2 number (λ x. binary_of Shl (word_shown x value) (word_shown x amount)) → Multiplies d0 d2 value number (2 ^ by)
shifted_by d0 d1 d2 value amount number by w is c k = record {
  extends = extends_again d0 d1 d2 c.extends k.extends;
  is = λ x f b j h t shows.
      k.is x f (begun_later d0 d1 x c.extends b)
      ∙ (ap (λ (a : Word). binary_of Shl a (word_shown x amount)) shows
      ∙ (ap (λ (a : Word). binary_of Shl (word_of j (pos t)) a) (c.is x (fits_before d1 d2 x k.extends f) b ∙ is) ∙ shift_word j t by (integer_width j h)));
  quiet = λ x f b. k.quiet x f (begun_later d0 d1 x c.extends b) ∙ c.quiet x (fits_before d1 d2 x k.extends f) b;
}

pub sum_none : (d : Draft) (sum : Option ℕ) (value : ℕ) → sum ≡ None → Sums d d sum value value
sum_none d sum value none = subst (λ (o : Option ℕ). Sums d d o value value) (sym none) (record {
  extends = extends_self d;
  is = λ x f b k h s t zero shows. shows ∙ ap (λ n. word_of k (pos n)) (sum_is s t zero);
  quiet = λ x f b. refl;
})
  where
    sum_is : (s t : ℕ) → s ≡ 0 → t ≡ s + t
    sum_is s t none = omega (arith, none)

pub sum_some : (d0 d1 : Draft) (sum : Option ℕ) (first value number : ℕ) → sum ≡ Some first → Computes d0 d1 number (λ x. binary_of Add (word_shown x first) (word_shown x value)) → Sums d0 d1 sum value number
sum_some d0 d1 sum first value number is c = subst (λ (o : Option ℕ). Sums d0 d1 o value number) (sym is) (record {
  extends = c.extends;
  is = λ x f b k h s t one shows.
      c.is x f b ∙ (ap (λ (a : Word). binary_of Add a (word_shown x value)) one ∙ (ap (λ (a : Word). binary_of Add (word_of k (pos s)) a) shows ∙ sum_word k s t h));
  quiet = c.quiet;
})

-- the amount of a shift, as a word of six bits
pub amount_word : (w : Word) (by from : ℕ) → from ≡ by → by < 64 → (IsKind (kind.Unsigned 6) → w ≡ with_bits (kind.Unsigned 6) (from % 2 ^ 6)) → w ≡ with_bits (kind.Unsigned 6) by
amount_word w by from same few is =
    is (omega arith, omega arith) ∙ ap (λ b. with_bits (kind.Unsigned 6) b) (ap (λ n. n % 2 ^ 6) same ∙ mod-eq_of_lt few)

-- A factor bit by bit.

bit_small : (p r b : ℕ) → r < p → b < 2 → b * p + r < p + p
bit_small p r zero small few = omega (arith, small)
bit_small p r (suc b) small few = let none : b ≡ 0 = omega (arith, few) in subst (λ (n : ℕ). suc n * p + r < p + p) (sym none) (omega (arith, small))

together : (p h b r q n : ℕ) → b + 2 * h ≡ q → r + p * q ≡ n → h * (p + p) + (b * p + r) ≡ n
together p h b r q n first second = subst (λ (m : ℕ). r + p * m ≡ n → h * (p + p) + (b * p + r) ≡ n) first (λ e. spread e) second
  where
    spread : r + p * (b + 2 * h) ≡ n → h * (p + p) + (b * p + r) ≡ n
    spread e = omega (arith, e)

pub bits_more : (n p : ℕ) → 0 < p → n % (p + p) ≡ (n / p % 2) * p + n % p
bits_more n p some =
    ap (λ m. m % (p + p)) (sym (together p (n / p / 2) (n / p % 2) (n % p) (n / p) n (mod-add-div (n / p) 2) (mod-add-div n p)))
    ∙ mod-mul-add (n / p / 2) (p + p) ((n / p % 2) * p + n % p) (bit_small p (n % p) (n / p % 2) (mod-lt n some) (mod-lt (n / p) (omega arith)))

double : (i : ℕ) → 2 ^ (i + 1) ≡ 2 ^ i + 2 ^ i
double i = half (i + 1) (omega arith) ∙ ap (λ j. 2 ^ j + 2 ^ j) (omega arith)

pub sum_first : (d : Draft) (value factor : ℕ) → SumSoFar d d value factor 0 None
sum_first d value factor = record {
  extends = extends_self d;
  is = λ x f b k h t shows. ap (λ n. t * n) one ∙ omega arith;
  none = λ e. one;
  quiet = λ x f b. refl;
}
  where
    one : factor % 2 ^ 0 ≡ 0
    one = omega arith

pub sum_skip : (d0 d : Draft) (value factor i : ℕ) (sum : Option ℕ) → factor / 2 ^ i % 2 ≡ 0 → SumSoFar d0 d value factor i sum → SumSoFar d0 d value factor (i + 1) sum
sum_skip d0 d value factor i sum off h = record {
  extends = h.extends;
  is = λ x f b k g t shows. subst (λ (n : ℕ). ShowsSum x sum k (t * n)) (sym same) (h.is x f b k g t shows);
  none = λ e. same ∙ h.none e;
  quiet = h.quiet;
}
  where
    same : factor % 2 ^ (i + 1) ≡ factor % 2 ^ i
    same = ap (λ m. factor % m) (double i) ∙ (bits_more factor (2 ^ i) (pow_pos i) ∙ ap (λ b. b * 2 ^ i + factor % 2 ^ i) off ∙ omega arith)

pub sum_add : (d0 d d1 d2 : Draft) (value factor i : ℕ) (sum : Option ℕ) (shifted number : ℕ) → factor / 2 ^ i % 2 ≡ 1
    → SumSoFar d0 d value factor i sum → Multiplies d d1 value shifted (2 ^ i) → Sums d1 d2 sum shifted number → SumSoFar d0 d2 value factor (i + 1) (Some number)
sum_add d0 d d1 d2 value factor i sum shifted number on h m s = record {
  extends = extends_again d0 d d2 h.extends (extends_again d d1 d2 m.extends s.extends);
  is = λ x f b k g t shows.
      let f1 = fits_before d1 d2 x s.extends f in
      let b1 = begun_later d0 d x h.extends b in
      subst (λ (n : ℕ). ShowsNumber x number k n) (more t (factor % 2 ^ i) (2 ^ i) (factor % 2 ^ (i + 1)) same)
      (s.is x f (begun_later d d1 x m.extends b1) k g (t * (factor % 2 ^ i)) (t * 2 ^ i) (h.is x (fits_before d d1 x m.extends f1) b k g t shows) (m.is x f1 b1 k g t shows));
  none = λ e. absurd (cc);
  quiet = λ x f b.
      let f1 = fits_before d1 d2 x s.extends f in
      let b1 = begun_later d0 d x h.extends b in
      s.quiet x f (begun_later d d1 x m.extends b1) ∙ (m.quiet x f1 b1 ∙ h.quiet x (fits_before d d1 x m.extends f1) b);
}
  where
    same : factor % 2 ^ (i + 1) ≡ 2 ^ i + factor % 2 ^ i
    same = ap (λ m. factor % m) (double i) ∙ (bits_more factor (2 ^ i) (pow_pos i) ∙ ap (λ b. b * 2 ^ i + factor % 2 ^ i) on ∙ omega arith)

    more : (t r p n : ℕ) → n ≡ p + r → t * r + t * p ≡ t * n
    more t r p n e = subst (λ (m : ℕ). t * r + t * p ≡ t * m) (sym e) (omega arith)

pub sum_last : (d0 d : Draft) (value factor number : ℕ) (sum : Option ℕ) → sum ≡ Some number → factor < 2 ^ 64 → SumSoFar d0 d value factor 64 sum → Multiplies d0 d value number factor
sum_last d0 d value factor number sum is few h = record {
  extends = h.extends;
  is = λ x f b k g t shows. subst (λ (n : ℕ). ShowsNumber x number k (t * n)) (mod-eq_of_lt few) (subst (λ (o : Option ℕ). ShowsSum x o k (t * (factor % 2 ^ 64))) is (h.is x f b k g t shows));
  quiet = h.quiet;
}

pub sum_lost : (d0 d : Draft) (value factor : ℕ) (sum : Option ℕ) → sum ≡ None → factor < 2 ^ 64 → 1 ≤ factor → SumSoFar d0 d value factor 64 sum → ⊥
sum_lost d0 d value factor sum is few some h = let none : factor ≡ 0 = sym (mod-eq_of_lt few) ∙ h.none is in omega (arith, none, some)

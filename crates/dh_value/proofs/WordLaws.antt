-- Laws of words. A residue lies below its modulus, so every operation gives a word. A word's value
-- lies within the bounds of its kind: a number below half of 2 ^ width is its own value, any other
-- lies 2 ^ width above it. So the word of a number within the bounds has that number as its value.
use Rattle.std.proofs.Common.{◌≡◌, ℕ, ◌+◌, ◌-◌, ◌^◌, ◌<◌, ◌≤◌, ⊎_elim, Bool, true, false, if◌then◌else◌, nat_lt, ℤ, pos, negsuc, neg_ℤ, ◌-ℤ◌, ◌≤ℤ◌, ◌<ℤ◌, refl, sym, ap, subst, ◌∙◌, arith}
use Rattle.std.proofs.lemmas.Bool.{cases_lt, lt-ltb}
use Rattle.std.proofs.lemmas.Bool.Decides.{nat_tests}
use Rattle.std.proofs.lemmas.Int.{ints}
use Rattle.std.proofs.lemmas.Nat.{pow_pos, or_lt, xor_lt, and_le_l}
use Rattle.std.proofs.Math.Nat.{mod-eq_of_lt}
use Rattle.std.proofs.Math.Pow.{pow_mono}
use Rattle.dh_value.proofs.Masks.{half}
use Rattle.dh_value.proofs.Residues.{residue-lt}
use Rattle.dh_value.proofs.Values.{value_residue, same_width}
use Rattle.dh_value.specs.declared.kinds.Kind.{Kind}
use Rattle.dh_value.specs.declared.kinds.Kind.TheVariants as kind
use Rattle.dh_value.specs.declared.operators.Op.{Op}
use Rattle.dh_value.specs.declared.operators.Op.TheVariants as op
use Rattle.dh_value.specs.declared.words.Word.{Word}
use Rattle.dh_value.specs.Words.{width_of, IsKind, IsInteger, IsWord, IsValue, Widens, signed, value_in, value_of, with_bits, word_of}
use Rattle.dh_value.specs.Operations.{Suits, result_of, truth, binary_of}

pub word_of_is_word : (k : Kind) (z : ℤ) → IsKind k → IsWord (word_of k z)
word_of_is_word k z sized = record { sized = sized; fits = residue-lt (2 ^ width_of k) z (pow_pos (width_of k)) }

pub truth_is_word : (t : Bool) → IsWord (truth t)
truth_is_word true = record { sized = (omega arith, omega arith); fits = omega arith }
truth_is_word false = record { sized = (omega arith, omega arith); fits = omega arith }

pub binary_is_word : (o : Op) (a b : Word) → IsWord a → IsWord b → Suits o a.kind b.kind → IsWord (binary_of o a b)
binary_is_word op.Add a b p q s = word_of_is_word a.kind _ p.sized
binary_is_word op.Sub a b p q s = word_of_is_word a.kind _ p.sized
binary_is_word op.Mul a b p q s = word_of_is_word a.kind _ p.sized
binary_is_word op.And a b p q s = record { sized = p.sized; fits = let less = and_le_l a.bits b.bits in let h = p.fits in omega arith }
binary_is_word op.Or a b p q s = record { sized = p.sized; fits = or_lt (width_of a.kind) a.bits b.bits p.fits (subst (λ w. b.bits < 2 ^ w) (same_width a.kind b.kind s) q.fits) }
binary_is_word op.Xor a b p q s = record { sized = p.sized; fits = xor_lt (width_of a.kind) a.bits b.bits p.fits (subst (λ w. b.bits < 2 ^ w) (same_width a.kind b.kind s) q.fits) }
binary_is_word op.Shl a b p q s = word_of_is_word a.kind _ p.sized
binary_is_word op.Shr a b p q s = word_of_is_word a.kind _ p.sized
binary_is_word op.Lt a b p q s = truth_is_word _
binary_is_word op.Gt a b p q s = truth_is_word _
binary_is_word op.Le a b p q s = truth_is_word _
binary_is_word op.Ge a b p q s = truth_is_word _
binary_is_word op.Eq a b p q s = truth_is_word _
binary_is_word op.Ne a b p q s = truth_is_word _
binary_is_word op.Both a b p q s = truth_is_word _
binary_is_word op.Either a b p q s = truth_is_word _

pub binary_kind : (o : Op) (a b : Word) → (binary_of o a b).kind ≡ result_of o a.kind
binary_kind op.Add a b = refl
binary_kind op.Sub a b = refl
binary_kind op.Mul a b = refl
binary_kind op.And a b = refl
binary_kind op.Or a b = refl
binary_kind op.Xor a b = refl
binary_kind op.Shl a b = refl
binary_kind op.Shr a b = refl
binary_kind op.Lt a b = refl
binary_kind op.Gt a b = refl
binary_kind op.Le a b = refl
binary_kind op.Ge a b = refl
binary_kind op.Eq a b = refl
binary_kind op.Ne a b = refl
binary_kind op.Both a b = refl
binary_kind op.Either a b = refl

-- a word is the word of its value
pub word_again : (w : Word) → IsWord w → word_of w.kind (value_of w) ≡ w
word_again w h = ap (with_bits w.kind) (value_residue w.kind w.bits h.fits)

-- words of one kind are equal where their values are
pub same_word : (a b : Word) → IsWord a → IsWord b → a.kind ≡ b.kind → value_of a ≡ value_of b → a ≡ b
same_word a b p q e v = sym (word_again a p) ∙ ap (λ z. word_of a.kind z) v ∙ ap (λ k. word_of k (value_of b)) e ∙ word_again b q

-- the two halves of two's complement
low_half : (w n : ℕ) → n < 2 ^ (w - 1) → signed w n ≡ pos n
low_half w n h = ap (λ t. if t then pos n else pos n -ℤ pos (2 ^ w)) (lt-ltb n (2 ^ (w - 1)) h)

high_half : (w n : ℕ) → 2 ^ (w - 1) ≤ n → signed w n ≡ pos n -ℤ pos (2 ^ w)
high_half w n h = let no : nat_lt n (2 ^ (w - 1)) ≡ false = grind (arith, nat_tests) in ap (λ t. if t then pos n else pos n -ℤ pos (2 ^ w)) no

-- the value of a word is one of its kind
pub value_fits : (k : Kind) (n : ℕ) → IsInteger k → n < 2 ^ width_of k → IsValue k (value_in k n)
value_fits kind.Bool n i h = i
value_fits (kind.Unsigned w) n i h = (omega (arith, ints), omega (arith, ints))
value_fits (kind.Signed w) n i h =
    let twice = half w i.0 in
    ⊎_elim
    (λ l. subst (λ z. IsValue (kind.Signed w) z) (sym (low_half w n l)) (lower n (2 ^ (w - 1)) l))
    (λ g. subst (λ z. IsValue (kind.Signed w) z) (sym (high_half w n g)) (upper n (2 ^ w) (2 ^ (w - 1)) twice h g))
    (cases_lt n (2 ^ (w - 1)))
  where
    lower : (n m : ℕ) → n < m → (neg_ℤ (pos m) ≤ℤ pos n) × (pos n <ℤ pos m)
    lower n m h = (omega (arith, ints), omega (arith, ints))

    upper : (n v m : ℕ) → v ≡ m + m → n < v → m ≤ n → (neg_ℤ (pos m) ≤ℤ (pos n -ℤ pos v)) × ((pos n -ℤ pos v) <ℤ pos m)
    upper n v m e h g = (omega (arith, ints), omega (arith, ints))

-- a value of a kind is the value of its word
pub value_again : (k : Kind) (z : ℤ) → IsInteger k → IsValue k z → value_of (word_of k z) ≡ z
value_again kind.Bool z i v = absurd i
value_again (kind.Unsigned w) (pos n) i v = let h : n < 2 ^ w = (let b = v.1 in omega (arith, ints)) in ap pos (mod-eq_of_lt h)
value_again (kind.Unsigned w) (negsuc n) i v = absurd (let b = v.0 in omega (arith, ints))
value_again (kind.Signed w) (pos n) i v =
    let twice = half w i.0 in
    let l : n < 2 ^ (w - 1) = (let b = v.1 in omega (arith, ints)) in
    let h : n < 2 ^ w = omega arith in
    ap (signed w) (mod-eq_of_lt h) ∙ low_half w n l
value_again (kind.Signed w) (negsuc n) i v =
    let twice = half w i.0 in
    let l : n < 2 ^ (w - 1) = (let b = v.0 in omega (arith, ints)) in
    let h : n < 2 ^ w = omega arith in
    ap (λ r. signed w (2 ^ w - 1 - r)) (mod-eq_of_lt h) ∙ high_half w (2 ^ w - 1 - n) (omega arith) ∙ down (2 ^ w) n h
  where
    down : (v n : ℕ) → n < v → pos (v - 1 - n) -ℤ pos v ≡ negsuc n
    down v n h = omega (arith, ints)

wider_unsigned : (m n : ℕ) (z : ℤ) → m ≤ n → IsValue (kind.Unsigned m) z → IsValue (kind.Unsigned n) z
wider_unsigned m n z h v = let more : 2 ^ m ≤ 2 ^ n = pow_mono h in (v.0, let b = v.1 in omega (arith, ints))

wider_signed : (m n : ℕ) (z : ℤ) → m ≤ n → IsValue (kind.Signed m) z → IsValue (kind.Signed n) z
wider_signed m n z h v =
    let more : 2 ^ (m - 1) ≤ 2 ^ (n - 1) = pow_mono {i = m - 1} {j = n - 1} (omega arith) in
    let a = v.0 in
    let b = v.1 in
    (omega (arith, ints), omega (arith, ints))

-- a wider kind of the same sign has every value of the narrower one
pub widened : (k l : Kind) (z : ℤ) → Widens k l → IsValue k z → IsValue l z
widened (kind.Unsigned m) (kind.Unsigned n) z h v = wider_unsigned m n z h v
widened (kind.Signed m) (kind.Signed n) z h v = wider_signed m n z h v
widened kind.Bool l z h v = absurd h
widened (kind.Unsigned m) kind.Bool z h v = absurd h
widened (kind.Unsigned m) (kind.Signed n) z h v = absurd h
widened (kind.Signed m) kind.Bool z h v = absurd h
widened (kind.Signed m) (kind.Unsigned n) z h v = absurd h

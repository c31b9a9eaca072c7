-- Words, and the whole numbers that they stand for.
use Rattle.std.specs.Prelude.{◌≡◌, ℕ, ◌-◌, ◌^◌, ◌<◌, ◌≤◌, nat_lt, if◌then◌else◌, ℤ, pos, neg_ℤ, ◌-ℤ◌, ◌≤ℤ◌, ◌<ℤ◌, unsigned_abs}
use Rattle.std.specs.Int.{int_rem_euclid}
use Rattle.dh_value.specs.declared.kinds.Kind.{Kind}
use Rattle.dh_value.specs.declared.kinds.Kind.TheVariants as kind
use Rattle.dh_value.specs.declared.words.Word.{Word}

-- the bits of a value of a kind
abbrev pub width_of : Kind → ℕ
width_of kind.Bool = 1
width_of (kind.Unsigned w) = w
width_of (kind.Signed w) = w

abbrev pub IsWidth : ℕ → Type 0
IsWidth w = (1 ≤ w) × (w ≤ 64)

-- an integer kind of 1 to 64 bits
abbrev pub IsInteger : Kind → Type 0
IsInteger kind.Bool = ⊥
IsInteger (kind.Unsigned w) = IsWidth w
IsInteger (kind.Signed w) = IsWidth w

-- a kind of 1 to 64 bits: Bool has one
abbrev pub IsKind : Kind → Type 0
IsKind k = IsWidth (width_of k)

-- a word has a kind, and no bit from its width upwards
pub record IsWord (w : Word) : Type 0 where
  pub sized : IsKind w.kind
  pub fits : w.bits < 2 ^ width_of w.kind

-- what n is in two's complement of w bits
abbrev pub signed : (w n : ℕ) → ℤ
signed w n = if nat_lt n (2 ^ (w - 1)) then pos n else pos n -ℤ pos (2 ^ w)

-- the value of these bits in a kind: false is 0, true is 1
abbrev pub value_in : Kind → ℕ → ℤ
value_in kind.Bool n = pos n
value_in (kind.Unsigned w) n = pos n
value_in (kind.Signed w) n = signed w n

-- the value of a word
abbrev pub value_of : Word → ℤ
value_of w = value_in w.kind w.bits

-- z modulo m, from 0 to m - 1
abbrev pub residue : (m : ℕ) → ℤ → ℕ
residue m z = unsigned_abs (int_rem_euclid z (pos m))

-- the word of a kind with these bits
abbrev pub with_bits : Kind → ℕ → Word
with_bits k n = record { kind = k; bits = n }

-- the word of a kind whose value is congruent to z modulo 2^width
abbrev pub word_of : Kind → ℤ → Word
word_of k z = with_bits k (residue (2 ^ width_of k) z)

-- z is a value of an integer kind
abbrev pub IsValue : Kind → ℤ → Type 0
IsValue kind.Bool z = ⊥
IsValue (kind.Unsigned w) z = (pos 0 ≤ℤ z) × (z <ℤ pos (2 ^ w))
IsValue (kind.Signed w) z = (neg_ℤ (pos (2 ^ (w - 1))) ≤ℤ z) × (z <ℤ pos (2 ^ (w - 1)))

-- an integer kind that has every value of the other: of the same sign, and no less wide
abbrev pub Widens : (narrow wide : Kind) → Type 0
Widens (kind.Unsigned m) (kind.Unsigned n) = m ≤ n
Widens (kind.Signed m) (kind.Signed n) = m ≤ n
Widens _ _ = ⊥

-- words of one kind with one value are one word
abbrev pub ValueTellsWord : Word → Word → Type 0
ValueTellsWord a b = IsWord a → IsWord b → a.kind ≡ b.kind → value_of a ≡ value_of b → a ≡ b

-- a kind that widens another has every value of it
abbrev pub ValuesWiden : (narrow wide : Kind) → Type 0
ValuesWiden narrow wide = (z : ℤ) → Widens narrow wide → IsValue narrow z → IsValue wide z

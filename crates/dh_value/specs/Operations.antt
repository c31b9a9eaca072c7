-- What each operation gives, by the whole numbers that its operands stand for.
use Rattle.std.specs.Prelude.{◌≡◌, ◌^◌, ◌==◌, ◌&&◌, ◌||◌, not, Bool, if◌then◌else◌, pos, ◌+ℤ◌, ◌-ℤ◌, ◌*ℤ◌, int_lt, int_le, bit_and, bit_or, bit_xor}
use Rattle.std.specs.Int.{int_div_euclid}
use Rattle.std.specs.Ordering.{int_eq}
use Rattle.dh_value.specs.declared.kinds.Kind.{Kind}
use Rattle.dh_value.specs.declared.kinds.Kind.TheVariants as kind
use Rattle.dh_value.specs.declared.words.Word.{Word}
use Rattle.dh_value.specs.declared.operators.Op.{Op}
use Rattle.dh_value.specs.declared.operators.Op.TheVariants as op
use Rattle.dh_value.specs.Words.{IsWord, value_of, with_bits, word_of}

-- one integer kind twice
abbrev pub AreIntegers : Kind → Kind → Type 0
AreIntegers (kind.Unsigned m) (kind.Unsigned n) = m ≡ n
AreIntegers (kind.Signed m) (kind.Signed n) = m ≡ n
AreIntegers _ _ = ⊥

-- Bool twice
abbrev pub AreTruths : Kind → Kind → Type 0
AreTruths kind.Bool kind.Bool = Unit {0}
AreTruths _ _ = ⊥

-- one kind twice
abbrev pub AreAlike : Kind → Kind → Type 0
AreAlike kind.Bool kind.Bool = Unit {0}
AreAlike (kind.Unsigned m) (kind.Unsigned n) = m ≡ n
AreAlike (kind.Signed m) (kind.Signed n) = m ≡ n
AreAlike _ _ = ⊥

-- an integer kind and an unsigned one, of any width
abbrev pub IsShift : Kind → Kind → Type 0
IsShift (kind.Unsigned m) (kind.Unsigned n) = Unit {0}
IsShift (kind.Signed m) (kind.Unsigned n) = Unit {0}
IsShift _ _ = ⊥

-- the kinds of the operands of an operation
abbrev pub Suits : Op → Kind → Kind → Type 0
Suits op.Add a b = AreIntegers a b
Suits op.Sub a b = AreIntegers a b
Suits op.Mul a b = AreIntegers a b
Suits op.And a b = AreIntegers a b
Suits op.Or a b = AreIntegers a b
Suits op.Xor a b = AreIntegers a b
Suits op.Shl a b = IsShift a b
Suits op.Shr a b = IsShift a b
Suits op.Lt a b = AreIntegers a b
Suits op.Gt a b = AreIntegers a b
Suits op.Le a b = AreIntegers a b
Suits op.Ge a b = AreIntegers a b
Suits op.Eq a b = AreAlike a b
Suits op.Ne a b = AreAlike a b
Suits op.Both a b = AreTruths a b
Suits op.Either a b = AreTruths a b

-- the kind of what an operation gives, by that of its left operand
abbrev pub result_of : Op → Kind → Kind
result_of op.Add k = k
result_of op.Sub k = k
result_of op.Mul k = k
result_of op.And k = k
result_of op.Or k = k
result_of op.Xor k = k
result_of op.Shl k = k
result_of op.Shr k = k
result_of _ k = kind.Bool

-- the word of a truth
abbrev pub truth : Bool → Word
truth t = with_bits kind.Bool (if t then 1 else 0)

abbrev pub is_true : Word → Bool
is_true w = w.bits == 1

-- the values are equal
abbrev pub are_equal : Word → Word → Bool
are_equal a b = int_eq (value_of a) (value_of b)

-- the word that an operation gives
abbrev pub binary_of : Op → Word → Word → Word
binary_of op.Add a b = word_of a.kind (value_of a +ℤ value_of b)
binary_of op.Sub a b = word_of a.kind (value_of a -ℤ value_of b)
binary_of op.Mul a b = word_of a.kind (value_of a *ℤ value_of b)
binary_of op.And a b = with_bits a.kind (bit_and a.bits b.bits)
binary_of op.Or a b = with_bits a.kind (bit_or a.bits b.bits)
binary_of op.Xor a b = with_bits a.kind (bit_xor a.bits b.bits)
binary_of op.Shl a b = word_of a.kind (value_of a *ℤ pos (2 ^ b.bits))
binary_of op.Shr a b = word_of a.kind (int_div_euclid (value_of a) (pos (2 ^ b.bits)))
binary_of op.Lt a b = truth (int_lt (value_of a) (value_of b))
binary_of op.Gt a b = truth (int_lt (value_of b) (value_of a))
binary_of op.Le a b = truth (int_le (value_of a) (value_of b))
binary_of op.Ge a b = truth (int_le (value_of b) (value_of a))
binary_of op.Eq a b = truth (are_equal a b)
binary_of op.Ne a b = truth (not (are_equal a b))
binary_of op.Both a b = truth (is_true a && is_true b)
binary_of op.Either a b = truth (is_true a || is_true b)

-- of words of kinds that suit it the operation gives a word
abbrev pub GivesWords : Op → Type 0
GivesWords o = (a b : Word) → IsWord a → IsWord b → Suits o a.kind b.kind → IsWord (binary_of o a b)

-- What is known of the values of a block while its operations are put down: words, kinds, and clocks from which on
-- they are there. Each fact is stated for all signals that obey the operations so far, so it stays true when further
-- operations come behind. Operations by their numbers: the list holds those of all blocks so far.
use Rattle.std.specs.Prelude.{◌≡◌, ℕ, ◌<◌, ◌≤◌, Bool, true, false, if◌then◌else◌, List, ◌++◌, length, take, slice_get, Option, Some, None}
use Rattle.std.specs.List.{AllByRecursion}
use Rattle.dh_value.specs.declared.kinds.Kind.{Kind}
use Rattle.dh_value.specs.declared.kinds.Kind.TheVariants as kind
use Rattle.dh_value.specs.declared.operators.Op.{Op}
use Rattle.dh_value.specs.declared.operators.Op.TheVariants as op
use Rattle.dh_value.specs.declared.words.Word.{Word}
use Rattle.dh_value.specs.Words.{IsInteger, IsWord, value_of, with_bits, word_of}
use Rattle.dh_value.specs.Operations.{Suits, binary_of, is_true, result_of}
use Rattle.dh_plan.specs.declared.operations.Operation.{Operation}
use Rattle.dh_plan.specs.declared.operations.OperationForm.{OperationForm}
use Rattle.dh_plan.specs.declared.operations.OperationForm.TheVariants.{Constant, Compute, Convert, Select}
use Rattle.dh_plan.specs.Ordered.{form_takes}

-- of each value, by its number; the block's first operation has the number `first`
pub record Readings : Type 0 where
  pub first : ℕ
  pub word : ℕ → Word
  pub kind : ℕ → Kind
  pub clock : ℕ → ℕ

-- Plain forms: of values alone, and no multiplication.

abbrev pub is_cheap : Op → Bool
is_cheap op.Mul = false
is_cheap _ = true

abbrev pub is_plain : OperationForm → Bool
is_plain (Constant w) = true
is_plain (Compute o left right) = is_cheap o
is_plain (Convert inner to) = true
is_plain (Select test a b) = true
is_plain _ = false

abbrev pub plain_word : (ℕ → Word) → OperationForm → Word
plain_word word (Constant w) = w
plain_word word (Compute o left right) = binary_of o (word left) (word right)
plain_word word (Convert inner to) = word_of to (value_of (word inner))
plain_word word (Select test a b) = if is_true (word test) then word a else word b
plain_word word _ = with_bits kind.Bool 0

abbrev pub plain_kind : (ℕ → Kind) → OperationForm → Kind
plain_kind kinds (Constant w) = w.kind
plain_kind kinds (Compute o left right) = result_of o (kinds left)
plain_kind kinds (Convert inner to) = to
plain_kind kinds (Select test a b) = kinds a
plain_kind kinds _ = kind.Bool

-- the kinds of what it takes suit it
abbrev pub PlainSuits : (ℕ → Kind) → OperationForm → Type 0
PlainSuits kinds (Constant w) = IsWord w
PlainSuits kinds (Compute o left right) = Suits o (kinds left) (kinds right)
PlainSuits kinds (Convert inner to) = IsInteger to
PlainSuits kinds (Select test a b) = (kinds test ≡ kind.Bool) × (kinds a ≡ kinds b)
PlainSuits kinds _ = ⊥

-- an operation of this number has a plain form and no guard
pub record HasPlain (os : List Operation) (n : ℕ) (f : OperationForm) : Type 0 where
  pub there : slice_get os n ≡ Some (record { guard = None; form = f })
  pub plain : is_plain f ≡ true

-- the signals are as the plain operations of the block say
pub record Obeys (x : Readings) (os : List Operation) : Type 0 where
  pub words : (n : ℕ) (f : OperationForm) → x.first ≤ n → HasPlain os n f → x.word n ≡ plain_word x.word f
  pub kinds : (n : ℕ) (f : OperationForm) → x.first ≤ n → HasPlain os n f → x.kind n ≡ plain_kind x.kind f
  pub clocks : (n bound : ℕ) (f : OperationForm) → x.first ≤ n → HasPlain os n f → AllByRecursion (λ v. x.clock v ≤ bound) (form_takes f) → x.clock n ≤ bound

-- What is put down.

-- a value of the block, of an operation before this one, that is there at a clock
pub record IsEarlierValue (x : Readings) (clock own v : ℕ) : Type 0 where
  pub begun : x.first ≤ v
  pub before : v < own
  pub there : x.clock v ≤ clock

-- an operation without a guard and of a plain form, which takes such values, of kinds that suit it
pub record IsAdded (x : Readings) (clock own : ℕ) (o : Operation) : Type 0 where
  pub guard : o.guard ≡ None
  pub plain : is_plain o.form ≡ true
  pub takes : AllByRecursion (λ v. IsEarlierValue x clock own v) (form_takes o.form)
  pub suits : PlainSuits x.kind o.form

-- operations come behind
pub record OperationsGrow (old new : List Operation) : Type 0 where
  pub more : List Operation
  pub appended : new ≡ old ++ more

-- of a plain form, and without a guard
pub record IsPlain (o : Operation) : Type 0 where
  pub guard : o.guard ≡ None
  pub form : is_plain o.form ≡ true

-- plain operations come behind
pub record GrowsPlain (old new : List Operation) : Type 0 where
  pub more : List Operation
  pub appended : new ≡ old ++ more
  pub plain : AllByRecursion IsPlain more

-- and all are such: each one where the signals obey those before it, so that order and kinds follow one by one
pub record AddsOperations (x : Readings) (clock : ℕ) (old new : List Operation) : Type 0 where
  pub grows : OperationsGrow old new
  pub each : (n : ℕ) (o : Operation) → length old ≤ n → slice_get new n ≡ Some o → Obeys x (take n new) → IsAdded x clock n o

-- a value of the block, of this kind, that is there at a clock
pub record StandsAtClock (x : Readings) (clock : ℕ) (os : List Operation) (k : Kind) (v : ℕ) : Type 0 where
  pub earlier : IsEarlierValue x clock (length os) v
  pub kind_is : x.kind v ≡ k

-- once the signals obey
abbrev pub IsReadingValue : (x : Readings) → (clock : ℕ) → List Operation → Kind → (v : ℕ) → Type 0
IsReadingValue x clock os k v = Obeys x os → StandsAtClock x clock os k v

-- a value, or none
abbrev pub IsValueOrNone : (x : Readings) → (clock : ℕ) → List Operation → Kind → Option ℕ → Type 0
IsValueOrNone x clock os k None = Unit {0}
IsValueOrNone x clock os k (Some v) = IsReadingValue x clock os k v

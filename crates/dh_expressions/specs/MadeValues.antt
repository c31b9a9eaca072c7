-- Which operations are put down for a value: exactly these, one behind the other, with nothing else in between. What
-- holds of the operations of an expression is shown of these relations, and needs no step.
use Rattle.std.specs.Prelude.{◌≡◌, ◌⊎◌, ◌≤◌, ℕ, zero, suc, Bool as Truth, true, false, List, slice_get, Option, Some, None}
use Rattle.dh_value.specs.declared.kinds.Kind.{Kind}
use Rattle.dh_value.specs.declared.kinds.Kind.TheVariants.{Bool, Unsigned, Signed}
use Rattle.dh_value.specs.declared.operators.Op.{Op}
use Rattle.dh_value.specs.declared.operators.Op.TheVariants.{Add, Shl, Eq}
use Rattle.dh_value.specs.declared.words.Word.{Word}
use Rattle.dh_value.specs.Words.{IsKind, with_bits}
use Rattle.dh_tree.specs.declared.trees.counters.Counter.{Counter}
use Rattle.dh_tree.specs.PlainTrees.{Term}
use Rattle.dh_meaning.specs.Effects.{bits_of}
use Rattle.dh_code.specs.Extended.{extension_of}
use Rattle.dh_code.specs.declared.places.VariableSlots.{VariableSlots}
use Rattle.dh_code.specs.Slots.{held_at}
use Rattle.dh_plan.specs.declared.operations.OperationForm.TheVariants.{Constant, Old, Compute, Convert}
use Rattle.dh_expressions.specs.declared.drafts.Draft.{Draft}
use Rattle.dh_expressions.specs.declared.scenes.Lane.{Lane}
use Rattle.dh_expressions.specs.declared.scenes.Scene.{Scene}
use Rattle.dh_expressions.specs.Drafted.{Pushes}
use Rattle.dh_expressions.specs.Evaluated.{GivesWhere, IsTurning, counter_of, iterator_shown}
use Rattle.dh_expressions.specs.Shown.{is_kept, is_read_term, kind_written, register_at}

-- nothing is added, and the value is one that stood there
abbrev pub IsThere : (old new : Draft) → (value v : ℕ) → Type 0
IsThere old new value v = (new ≡ old) × (v ≡ value)

-- a number of a kind
pub record MadeNumber (kind : Kind) (negative : Truth) (number : ℕ) (old new : Draft) (v : ℕ) : Type 0 where
  pub word : Word
  pub is : IsKind kind → word ≡ with_bits kind (bits_of kind negative number)
  pub pushes : Pushes old new v None (Constant word)

-- Conversions.

-- nothing where the value is kept, or else its conversion
abbrev pub MadeConverted : (kept : Truth) → (to : Kind) → (value : ℕ) → (old new : Draft) → (v : ℕ) → Type 0
MadeConverted true to value old new v = IsThere old new value v
MadeConverted false to value old new v = Pushes old new v None (Convert value to)

-- an operand, extended to an integer kind; as it is for Bool
abbrev pub MadeExtended : Term → (to : Kind) → (value : ℕ) → (old new : Draft) → (v : ℕ) → Type 0
MadeExtended t Bool value old new v = IsThere old new value v
MadeExtended t (Unsigned m) value old new v = MadeConverted (is_kept t (Unsigned m)) (Unsigned m) value old new v
MadeExtended t (Signed m) value old new v = MadeConverted (is_kept t (Signed m)) (Signed m) value old new v

-- an operator on two operands
pub record MadeOperation (op : Op) (left right : Term) (a b : ℕ) (old new : Draft) (v : ℕ) : Type 0 where
  pub first : Draft
  pub second : Draft
  pub x : ℕ
  pub y : ℕ
  pub left_made : MadeExtended left (extension_of op (kind_written left) (kind_written right)) a old first x
  pub right_made : MadeExtended right (extension_of op (kind_written left) (kind_written right)) b first second y
  pub pushes : Pushes second new v None (Compute op x y)

-- a truth that a memory held, as a word
pub record MadeLowestBit (value : ℕ) (old new : Draft) (v : ℕ) : Type 0 where
  pub first : Draft
  pub second : Draft
  pub bit : ℕ
  pub one : ℕ
  pub converts : Pushes old first bit None (Convert value (Unsigned 1))
  pub constant : MadeNumber (Unsigned 1) false 1 first second one
  pub pushes : Pushes second new v None (Compute Eq bit one)

abbrev pub MadeTruth : (read : Truth) → (value : ℕ) → (old new : Draft) → (v : ℕ) → Type 0
MadeTruth true value old new v = MadeLowestBit value old new v
MadeTruth false value old new v = IsThere old new value v

-- a value as a variable or a memory of a kind holds it
abbrev pub MadeHeld : Term → (to : Kind) → (value : ℕ) → (old new : Draft) → (v : ℕ) → Type 0
MadeHeld t Bool value old new v = MadeTruth (is_read_term t) value old new v
MadeHeld t (Unsigned m) value old new v = MadeConverted (is_kept t (Unsigned m)) (Unsigned m) value old new v
MadeHeld t (Signed m) value old new v = MadeConverted (is_kept t (Signed m)) (Signed m) value old new v

-- Multiples.

pub record MadeShift (value by : ℕ) (old new : Draft) (v : ℕ) : Type 0 where
  pub middle : Draft
  pub amount : ℕ
  pub constant : MadeNumber (Unsigned 6) false by old middle amount
  pub pushes : Pushes middle new v None (Compute Shl value amount)

-- a value shifted left, if it is to be shifted
abbrev pub MadeShifted : (value by : ℕ) → (old new : Draft) → (v : ℕ) → Type 0
MadeShifted value by old new v = IsThere old new value v ⊎ MadeShift value by old new v

-- a value added to a sum, if there is one
abbrev pub MadeSum : Option ℕ → (value : ℕ) → (old new : Draft) → (v : ℕ) → Type 0
MadeSum None value old new v = IsThere old new value v
MadeSum (Some sum) value old new v = Pushes old new v None (Compute Add sum value)

pub record MadeAddend (sum : Option ℕ) (value by : ℕ) (old new : Draft) (more : Option ℕ) : Type 0 where
  pub middle : Draft
  pub shifted : ℕ
  pub total : ℕ
  pub shifts : MadeShifted value by old middle shifted
  pub sums : MadeSum sum shifted middle new total
  pub more_is : more ≡ Some total

-- one bit of a factor: a shifted value added to the sum, or nothing
abbrev pub MadeBit : Option ℕ → (value by : ℕ) → (old new : Draft) → (more : Option ℕ) → Type 0
MadeBit sum value by old new more = ((new ≡ old) × (more ≡ sum)) ⊎ MadeAddend sum value by old new more

-- the lowest bits, so many
abbrev pub MadeBits : (value bits : ℕ) → (old new : Draft) → (sum : Option ℕ) → Type 0
MadeBits value zero old new sum = (new ≡ old) × (sum ≡ None)
MadeBits value (suc b) old new sum = (d : Draft) × ((s : Option ℕ) × (MadeBits value b old d s × MadeBit s value b d new sum))

-- the sum of all bits, or 0
abbrev pub MadeTotal : Kind → Option ℕ → (old new : Draft) → (v : ℕ) → Type 0
MadeTotal kind None old new v = MadeNumber kind false 0 old new v
MadeTotal kind (Some sum) old new v = IsThere old new sum v

pub record MadeMultiple (kind : Kind) (value : ℕ) (old new : Draft) (v : ℕ) : Type 0 where
  pub bits : ℕ
  pub few : bits ≤ 64
  pub middle : Draft
  pub sum : Option ℕ
  pub sums : MadeBits value bits old middle sum
  pub total : MadeTotal kind sum middle new v

-- Variables.

pub record MadeOffset (kind : Kind) (multiple : ℕ) (old new : Draft) (v : ℕ) : Type 0 where
  pub start : ℕ
  pub middle : Draft
  pub amount : ℕ
  pub constant : MadeNumber kind false start old middle amount
  pub pushes : Pushes middle new v None (Compute Add multiple amount)

-- what an iterator holds, by the turn that its loop's counter holds
pub record MadeTurns (held : VariableSlots) (kind : Kind) (old new : Draft) (v : ℕ) : Type 0 where
  pub first : Draft
  pub second : Draft
  pub third : Draft
  pub told : ℕ
  pub turn : ℕ
  pub multiple : ℕ
  pub sees : Pushes old first told None (Old held.first)
  pub converts : Pushes first second turn None (Convert told kind)
  pub times : MadeMultiple kind turn second third multiple
  pub ends : IsThere third new multiple v ⊎ MadeOffset kind multiple third new v

-- or a number, where the loop has one turn
abbrev pub MadeIterator : VariableSlots → Kind → (old new : Draft) → (v : ℕ) → Type 0
MadeIterator held kind old new v = ((start : ℕ) × MadeNumber kind false start old new v) ⊎ MadeTurns held kind old new v

-- the value that a variable was given in this step, or else its register
abbrev pub MadeCurrent : Option (Option ℕ) → (register : ℕ) → (old new : Draft) → (v : ℕ) → Type 0
MadeCurrent None register old new v = Pushes old new v None (Old register)
MadeCurrent (Some None) register old new v = Pushes old new v None (Old register)
MadeCurrent (Some (Some value)) register old new v = IsThere old new value v

abbrev pub MadeShown : (current : List (Option ℕ)) → (register : ℕ) → (old new : Draft) → (v : ℕ) → Type 0
MadeShown current register old new v = MadeCurrent (slice_get current register) register old new v

-- an iterator, with what it then shows: the numbers that are put down for it are told by nothing else
abbrev pub MadeBy : Option Counter → VariableSlots → Lane → (current : List (Option ℕ)) → Kind → (old new : Draft) → (v : ℕ) → Type 0
MadeBy None held lane current kind old new v = MadeShown current (register_at held lane) old new v
MadeBy (Some c) held lane current kind old new v = MadeIterator held kind old new v × GivesWhere old new v (λ x. IsTurning x c held kind) (λ x. iterator_shown x c held lane kind)

-- what a variable holds at a path
abbrev pub MadeVariable : Scene → Lane → (current : List (Option ℕ)) → (entity : ℕ) → Kind → (old new : Draft) → (v : ℕ) → Type 0
MadeVariable scene lane current entity kind old new v = MadeBy (counter_of scene entity) (held_at scene.held.now entity) lane current kind old new v

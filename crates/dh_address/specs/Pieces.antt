-- What becomes of one operation: the operations that take its place, put down behind those that are there, and the
-- number of the value that stands for its own. Each access becomes one of a row of a bank, under a guard that holds
-- only where it is in range, also at each view on its way; each probe becomes the checks of these ranges. All else
-- stays, at the new numbers.
use Rattle.std.specs.Prelude.{◌≡◌, ℕ, ◌-◌, ◌%◌, ◌^◌, ◌==◌, max, not, Bool, true, false, List, [], ◌∷◌, ◌++◌, length, map, slice_get, Option, Some, None}
use Rattle.std.specs.List.{list_any}
use Rattle.dh_value.specs.declared.kinds.Kind.{Kind}
use Rattle.dh_value.specs.declared.kinds.Kind.TheVariants as kind
use Rattle.dh_value.specs.declared.operators.Op.TheVariants as op
use Rattle.dh_value.specs.declared.words.Word.{Word}
use Rattle.dh_value.specs.Words.{with_bits}
use Rattle.dh_tree.specs.declared.tables.Dim.{Dim}
use Rattle.dh_tree.specs.Elements.{dims_at, banks_of}
use Rattle.dh_tree.specs.Tables.{elements_of}
use Rattle.dh_plan.specs.declared.operations.Operation.{Operation}
use Rattle.dh_plan.specs.declared.operations.OperationForm.{OperationForm}
use Rattle.dh_plan.specs.declared.operations.OperationForm.TheVariants.{Constant, Old, Compute, Convert, Select, Check, Probe, Read, Write, Set}
use Rattle.dh_plan.specs.declared.operations.Reach.{Reach}
use Rattle.dh_plan.specs.Ordered.{one_or_none, offsets_taken, operation_takes}
use Rattle.dh_rows.specs.declared.spreading.RowAndBank.{RowAndBank}
use Rattle.dh_rows.specs.MadeOperations.{Made, Summed, IsMade, summed, sum_of, pushed, constant_made, computed, computed_with, converted, or_zero, bits_in}
use Rattle.dh_rows.specs.Readings.{GrowsPlain}
use Rattle.dh_rows.specs.RowsShown.{MakesRow, MakesTest}
use Rattle.dh_address.specs.declared.literals.LiteralPlace.{LiteralPlace}
use Rattle.dh_address.specs.declared.operands.BlockValue.{BlockValue}
use Rattle.dh_address.specs.declared.operands.Ranged.{Ranged}
use Rattle.dh_address.specs.LiteralPlaces.{below_size, literal_places}
pub use Rattle.dh_address.specs.Arounds.{RenumberedBlock, new_number, new_or_none, known_kind}
use Rattle.dh_address.specs.WaysMade.{IsIndexWay, reach_passed}

-- Probes of which the value is taken, which is false.

abbrev pub is_probe_form : OperationForm → Bool
is_probe_form (Probe r fault) = true
is_probe_form _ = false

abbrev pub is_probe : Option Operation → Bool
is_probe None = false
is_probe (Some o) = is_probe_form o.form

abbrev pub is_of_probe : List Operation → (first value : ℕ) → Bool
is_of_probe os first value = is_probe (slice_get os (value - first))

abbrev pub takes_probe : List Operation → (first : ℕ) → Operation → Bool
takes_probe os first o = list_any (is_of_probe os first) (operation_takes o)

-- some operation of a block takes one
abbrev pub any_takes_probe : List Operation → (first : ℕ) → Bool
any_takes_probe os first = list_any (takes_probe os first) os

-- Tests.

-- the test of a value of this kind; of a constant that is in range there is none, and nothing is put down
abbrev pub IsTestBut : (literal : Option ℕ) → (old new : List Operation) → Kind → (value size : ℕ) → (test : Option ℕ) → Type 0
IsTestBut None old new k value size test = GrowsPlain old new × MakesTest old new k value size test
IsTestBut (Some n) old new k value size test = (new ≡ old) × (test ≡ None)

abbrev pub IsRangeTested : Ranged → (old new : List Operation) → (test : Option ℕ) → Type 0
IsRangeTested r old new test = IsTestBut (below_size r.operand.literal r.size) old new r.operand.kind r.operand.value r.size test

-- both, where one may lack and then holds
abbrev pub both_made : List Operation → (guard test : Option ℕ) → Summed
both_made os guard None = summed os guard
both_made os None (Some test) = summed os (Some test)
both_made os (Some guard) (Some test) = sum_of (computed os op.Both guard test)

-- `on` is that the guard holds and all are in range
abbrev pub IsGuarded : (guard : Option ℕ) → List Ranged → (old new : List Operation) → (on : Option ℕ) → Type 0
IsGuarded guard [] old new on = (new ≡ old) × (on ≡ guard)
IsGuarded guard (r ∷ rs) old new on =
    (mid : List Operation) × ((test : Option ℕ) × (IsRangeTested r old mid test × IsGuarded (both_made mid guard test).sum rs (both_made mid guard test).operations new on))

-- a check under a guard, where there is a test
abbrev pub check_made : List Operation → (guard : Option ℕ) → (fault : ℕ) → (test : Option ℕ) → List Operation
check_made os guard fault None = os
check_made os guard fault (Some test) = (pushed os guard (Check test fault)).operations

-- a check for each value that may be out of range
abbrev pub AreChecked : (guard : Option ℕ) → (fault : ℕ) → List Ranged → (old new : List Operation) → Type 0
AreChecked guard fault [] old new = new ≡ old
AreChecked guard fault (r ∷ rs) old new =
    (mid : List Operation) × ((test : Option ℕ) × (IsRangeTested r old mid test × AreChecked guard fault rs (check_made mid guard fault test) new))

-- Probes.

-- false, from a false value on and once this value is there
abbrev pub false_behind : List Operation → (so_far value : ℕ) → Made
false_behind os so_far value = computed_with op.Either so_far (computed os op.Ne value value)

abbrev pub false_behind_all : Made → (values : List ℕ) → Made
false_behind_all m [] = m
false_behind_all m (v ∷ vs) = false_behind_all (false_behind m.operations m.value v) vs

-- false under a guard, once all these values are there
abbrev pub false_under : (guard : Option ℕ) → Made → Made
false_under guard m = pushed m.operations guard (Compute op.Either m.value m.value)

abbrev pub false_word : Word
false_word = with_bits kind.Bool 0

abbrev pub false_made : List Operation → (guard : Option ℕ) → (values : List ℕ) → Made
false_made os guard values = false_under guard (false_behind_all (pushed os None (Constant false_word)) values)

-- the indices of an access and the offsets of its views, at the new numbers
abbrev pub indices_and_offsets : RenumberedBlock → Reach → List ℕ
indices_and_offsets a r = map (new_number a) r.indices ++ map (new_number a) (offsets_taken r.steps)

-- all that it takes
abbrev pub new_takes : RenumberedBlock → Reach → List ℕ
new_takes a r = indices_and_offsets a r ++ (one_or_none (new_or_none a r.select) ++ one_or_none (new_or_none a r.row))

-- the value of a probe, which is false; where none is taken there is none, and its number means nothing
abbrev pub IsProbeValue : (probed : Bool) → RenumberedBlock → (guard : Option ℕ) → Reach → (old new : List Operation) → (number : ℕ) → Type 0
IsProbeValue false a guard r old new number = new ≡ old
IsProbeValue true a guard r old new number = IsMade new number (false_made old guard (new_takes a r))

pub record IsProbed (a : RenumberedBlock) (guard : Option ℕ) (r : Reach) (fault : ℕ) (old new : List Operation) (number : ℕ) : Type 0 where
  pub passed : List Operation
  pub ranges : List Ranged
  pub indices : List BlockValue
  pub passes : IsIndexWay passed ranges indices (reach_passed a r old)
  pub checked : List Operation
  pub checks : AreChecked guard fault ranges passed checked
  pub value : IsProbeValue a.probed a guard r checked new number

-- Rows and banks.

-- the access in a row, where these are what else it takes
abbrev pub aimed_reach : Reach → (taken : List ℕ) → (row : ℕ) → (select : Option ℕ) → Reach
aimed_reach r taken row select =
    record { access = r.access; memory = r.memory; indices = taken; steps = []; banks = r.banks; select = select; row = Some row }

-- an access of a row at the new numbers, which stays one
abbrev pub row_aimed : RenumberedBlock → Reach → (row : ℕ) → Reach
row_aimed a r row = aimed_reach r (indices_and_offsets a r) (new_number a row) (new_or_none a r.select)

-- a row, and behind it the bank where that is wanted
abbrev pub IsAim : (banked : Bool) → (row bank : Made) → (new : List Operation) → (row_number : ℕ) → (select : Option ℕ) → Type 0
IsAim false row bank new number select = (new ≡ row.operations) × ((number ≡ row.value) × (select ≡ None))
IsAim true row bank new number select = (new ≡ bank.operations) × ((number ≡ row.value) × (select ≡ Some bank.value))

-- it can reach more than one bank, or none
abbrev pub is_banked : Reach → Bool
is_banked r = not (length r.banks == 1)

-- the width of rows
abbrev pub aim_width : List Dim → ℕ
aim_width dims = bits_in (elements_of dims)

-- the width of selects: what the greatest bank takes, and one bit at least. So wide are the tests which bank is picked.
abbrev pub select_width : List Dim → ℕ
select_width dims = bits_in (max (banks_of dims % 2 ^ 64 - 1) 1)

-- a bank as a select
abbrev pub narrowed_bank : (narrow : ℕ) → Made → Made
narrowed_bank narrow bank = converted bank.operations bank.value narrow

-- row and bank of indices that are no constants
pub record IsSpreadOut (width narrow : ℕ) (dims : List Dim) (indices : List ℕ) (banked : Bool) (old new : List Operation) (row : ℕ) (select : Option ℕ) : Type 0 where
  pub spread : List Operation
  pub values : RowAndBank
  pub grows : GrowsPlain old spread
  pub made : MakesRow old spread width dims indices banked values
  pub aim : IsAim banked (or_zero spread width values.row) (narrowed_bank narrow (or_zero (or_zero spread width values.row).operations width values.bank)) new row select

-- of constants they are constants
abbrev pub IsAimBut : (place : Option LiteralPlace) → (width narrow : ℕ) → List Dim → (indices : List ℕ) → (banked : Bool) → (old new : List Operation) → (row : ℕ) → (select : Option ℕ) → Type 0
IsAimBut None width narrow dims indices banked old new row select = IsSpreadOut width narrow dims indices banked old new row select
IsAimBut (Some place) width narrow dims indices banked old new row select =
    IsAim banked (constant_made old width place.row) (constant_made (constant_made old width place.row).operations narrow place.bank) new row select

-- the values of operands
abbrev pub operand_values : List BlockValue → List ℕ
operand_values is = map (λ o. o.value) is

-- row and bank of these indices
abbrev pub IsIndexAim : List Dim → List BlockValue → (banked : Bool) → (old new : List Operation) → (row : ℕ) → (select : Option ℕ) → Type 0
IsIndexAim dims is banked old new row select = IsAimBut (literal_places dims is 0 0) (aim_width dims) (select_width dims) dims (operand_values is) banked old new row select

-- beside indices a select means nothing, but is waited for: as a number of one bit
abbrev pub waited : List Operation → (select : Option ℕ) → Summed
waited os None = summed os None
waited os (Some v) = sum_of (converted os v 1)

pub record IsAimedByIndices (a : RenumberedBlock) (r : Reach) (is : List BlockValue) (old new : List Operation) (t : Reach) : Type 0 where
  pub row : ℕ
  pub select : Option ℕ
  pub aim : IsIndexAim (dims_at a.table r.memory) is (is_banked r) (waited old (new_or_none a r.select)).operations new row select
  pub reach : t ≡ aimed_reach r (indices_and_offsets a r ++ one_or_none (waited old (new_or_none a r.select)).sum) row select

-- the access t is of the row of a bank that the access r leads to, behind its views by these indices
abbrev pub IsAimedReach : RenumberedBlock → (r : Reach) → (row : Option ℕ) → List BlockValue → (old new : List Operation) → (t : Reach) → Type 0
IsAimedReach a r None is old new t = IsAimedByIndices a r is old new t
IsAimedReach a r (Some row) is old new t = (new ≡ old) × (t ≡ row_aimed a r row)

-- a read or write is put down with this access, under this guard
pub record IsAccessMade (a : RenumberedBlock) (guard : Option ℕ) (r : Reach) (old last : List Operation) (on : Option ℕ) (t : Reach) : Type 0 where
  pub passed : List Operation
  pub ranges : List Ranged
  pub indices : List BlockValue
  pub passes : IsIndexWay passed ranges indices (reach_passed a r old)
  pub guarded : List Operation
  pub guards : IsGuarded guard ranges passed guarded on
  pub aims : IsAimedReach a r r.row indices guarded last t

pub record IsReadMade (a : RenumberedBlock) (guard : Option ℕ) (r : Reach) (old new : List Operation) (number : ℕ) : Type 0 where
  pub last : List Operation
  pub on : Option ℕ
  pub reach : Reach
  pub access : IsAccessMade a guard r old last on reach
  pub read : IsMade new number (pushed last on (Read reach))

pub record IsWriteMade (a : RenumberedBlock) (guard : Option ℕ) (r : Reach) (value : ℕ) (old new : List Operation) (number : ℕ) : Type 0 where
  pub last : List Operation
  pub on : Option ℕ
  pub reach : Reach
  pub access : IsAccessMade a guard r old last on reach
  pub write : IsMade new number (pushed last on (Write reach (new_number a value)))

-- Operations.

abbrev pub IsFormMade : RenumberedBlock → (guard : Option ℕ) → OperationForm → (old new : List Operation) → (number : ℕ) → Type 0
IsFormMade a g (Constant word) old new n = IsMade new n (pushed old g (Constant word))
IsFormMade a g (Old register) old new n = IsMade new n (pushed old g (Old register))
IsFormMade a g (Compute o left right) old new n = IsMade new n (pushed old g (Compute o (new_number a left) (new_number a right)))
IsFormMade a g (Convert inner to) old new n = IsMade new n (pushed old g (Convert (new_number a inner) to))
IsFormMade a g (Select test b c) old new n = IsMade new n (pushed old g (Select (new_number a test) (new_number a b) (new_number a c)))
IsFormMade a g (Check ok fault) old new n = IsMade new n (pushed old g (Check (new_number a ok) fault))
IsFormMade a g (Probe r fault) old new n = IsProbed a g r fault old new n
IsFormMade a g (Read r) old new n = IsReadMade a g r old new n
IsFormMade a g (Write r value) old new n = IsWriteMade a g r value old new n
IsFormMade a g (Set register value) old new n = IsMade new n (pushed old g (Set register (new_number a value)))

-- from the operations `old` to `new` this operation was put down, and n stands for its value
abbrev pub IsPiece : RenumberedBlock → Operation → (old new : List Operation) → (number : ℕ) → Type 0
IsPiece a o old new n = IsFormMade a (new_or_none a o.guard) o.form old new n

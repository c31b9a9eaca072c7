-- The code of commands: lists that lead from one to the next, of the expressions' operations and values.
use Rattle.std.specs.Prelude.{◌≡◌, ℕ, suc, ◌+◌, ◌≤◌, List, [], ◌∷◌, ◌++◌, length, map, slice_get, slice_range, Option, Some, None}
use Rattle.dh_tree.specs.declared.tables.MemEntry.{MemEntry}
use Rattle.dh_meaning.specs.Core.{Reach, CoreTerm, CoreTerms, CoreCommand, store, assign, choose, keep, CoreCommands, no_commands, command_and}
use Rattle.dh_meaning.specs.Core as core
use Rattle.dh_code.specs.declared.codes.Access.{Access}
use Rattle.dh_code.specs.declared.codes.CodeOperation.{CodeOperation}
use Rattle.dh_code.specs.declared.codes.FlatExpression.{FlatExpression}
use Rattle.dh_code.specs.declared.codes.Action.{Action}
use Rattle.dh_code.specs.declared.codes.Action.TheVariants.{Store, Assign, Keep, Choose}
use Rattle.dh_code.specs.declared.codes.Kept.{Kept}
use Rattle.dh_code.specs.declared.codes.Operand.{Operand}
use Rattle.dh_code.specs.declared.codes.ListedCommand.{ListedCommand}
use Rattle.dh_code.specs.declared.codes.Code.{Code}
use Rattle.dh_code.specs.declared.places.VariableSlots.{VariableSlots}
use Rattle.dh_code.specs.Slots.{held_at}
use Rattle.dh_code.specs.Made.{term_made, terms_made, target_made, access_to}

-- further operations and commands behind those that there are
pub record ExtendsCode (old new : Code) : Type 0 where
  pub operations : List CodeOperation
  pub are : new.operations ≡ old.operations ++ operations
  pub steps : List ListedCommand
  pub lead : new.steps ≡ old.steps ++ steps

-- the operations of an expression stand in code, and its value is this operand
pub record IsFlat (held : List VariableSlots) (table : List MemEntry) (code : Code) (t : CoreTerm) (f : FlatExpression) : Type 0 where
  pub within : f.from ≤ f.to
  pub there : f.to ≤ length code.operations
  pub operations : slice_range code.operations f.from f.to ≡ (term_made held table f.from t).operations
  pub value : f.value ≡ (term_made held table f.from t).value

-- the operations of a value and then those of an element stand in code
pub record IsFlatStore (held : List VariableSlots) (table : List MemEntry) (code : Code) (reach : Reach) (target : core.Target) (t : CoreTerm) (f : FlatExpression) (a : Access) : Type 0 where
  pub within : f.from ≤ f.to
  pub there : f.to ≤ length code.operations
  pub operations : slice_range code.operations f.from f.to
      ≡ (term_made held table f.from t).operations ++ (target_made held table (f.from + length (term_made held table f.from t).operations) target).operations
  pub value : f.value ≡ (term_made held table f.from t).value
  pub access : a ≡ access_to reach (target_made held table (f.from + length (term_made held table f.from t).operations) target).target

-- the slots of the variable that is set
pub record AreSlotsOf (held : List VariableSlots) (entity first depth : ℕ) : Type 0 where
  pub first_is : first ≡ (held_at held entity).first
  pub depth_is : depth ≡ (held_at held entity).depth

-- the operations of values stand in code, and these are their operands
pub record AreFlat (held : List VariableSlots) (table : List MemEntry) (code : Code) (ts : CoreTerms) (from to : ℕ) (operands : List Operand) : Type 0 where
  pub within : from ≤ to
  pub there : to ≤ length code.operations
  pub operations : slice_range code.operations from to ≡ (terms_made held table from ts).operations
  pub values : operands ≡ (terms_made held table from ts).values

abbrev pub operands_kept : List Kept → List Operand
operands_kept ks = map (λ k. k.value) ks

-- the slots of variables that are set, whose entities follow one another
abbrev pub AreSlotsFrom : List VariableSlots → (entity depth : ℕ) → List Kept → Type 0
AreSlotsFrom held entity depth [] = Unit {0}
AreSlotsFrom held entity depth (k ∷ ks) = AreSlotsOf held entity k.first depth × AreSlotsFrom held (suc entity) depth ks

abbrev mutual
  -- the commands that begin at a number are these
  pub AreCoded : List VariableSlots → List MemEntry → Code → Option ℕ → CoreCommands → Type 0
  AreCoded held table code None no_commands = Unit {0}
  AreCoded held table code None (command_and c cs) = ⊥
  AreCoded held table code (Some at) no_commands = ⊥
  AreCoded held table code (Some at) (command_and c cs) =
      (step : ListedCommand) × ((slice_get code.steps at ≡ Some step) × (IsCoded held table code step.action c × AreCoded held table code step.next cs))

  -- what a command does is this
  pub IsCoded : List VariableSlots → List MemEntry → Code → Action → CoreCommand → Type 0
  IsCoded held table code (Store f a) (store reach target value) = IsFlatStore held table code reach target value f a
  IsCoded held table code (Store f a) (assign depth entity value) = ⊥
  IsCoded held table code (Store f a) (choose test chosen other) = ⊥
  IsCoded held table code (Store f a) (keep depth first values) = ⊥
  IsCoded held table code (Assign f first depth) (store reach target value) = ⊥
  IsCoded held table code (Assign f first depth) (assign deep entity value) = IsFlat held table code value f × AreSlotsOf held entity first depth
  IsCoded held table code (Assign f first depth) (choose test chosen other) = ⊥
  IsCoded held table code (Assign f first depth) (keep deep entity values) = ⊥
  IsCoded held table code (Keep from to values depth) (store reach target value) = ⊥
  IsCoded held table code (Keep from to values depth) (assign deep entity value) = ⊥
  IsCoded held table code (Keep from to values depth) (choose test chosen other) = ⊥
  IsCoded held table code (Keep from to values depth) (keep deep entity terms) = AreFlat held table code terms from to (operands_kept values) × AreSlotsFrom held entity depth values
  IsCoded held table code (Choose f one two) (store reach target value) = ⊥
  IsCoded held table code (Choose f one two) (assign depth entity value) = ⊥
  IsCoded held table code (Choose f one two) (keep depth first values) = ⊥
  IsCoded held table code (Choose f one two) (choose test chosen other) =
      IsFlat held table code test f
      × (AreCoded held table code one chosen × AreCoded held table code two other)

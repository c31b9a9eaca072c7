-- The code of an expression: the operations that are added behind so many, and the operand that is its value then.
use Rattle.std.specs.Prelude.{ℕ, ◌+◌, if◌then◌else◌, List, [], ◌∷◌, ◌++◌, length, map, Option, Some, None}
use Rattle.dh_tree.specs.Kinds.{same_kind}
use Rattle.dh_value.specs.declared.kinds.Kind.{Kind}
use Rattle.dh_value.specs.declared.kinds.Kind.TheVariants as kind
use Rattle.dh_value.specs.declared.operators.Op.{Op}
use Rattle.dh_value.specs.Words.{with_bits}
use Rattle.dh_value.specs.Operations as operations
use Rattle.dh_value.specs.Operations.{result_of}
use Rattle.dh_tree.specs.declared.tables.MemEntry.{MemEntry}
use Rattle.dh_meaning.specs.Core.{Reach, CoreTerm, literal, truth_literal, variable, read, binary, convert, by_indices, by_row, by_views, CoreTerms, no_terms, term_and}
use Rattle.dh_meaning.specs.Core as core
use Rattle.dh_meaning.specs.Effects.{bits_of, kind_in}
use Rattle.dh_code.specs.declared.codes.Operand.{Operand}
use Rattle.dh_code.specs.declared.codes.Operand.TheVariants.{Constant, Variable, Given}
use Rattle.dh_code.specs.declared.codes.Target.{Target}
use Rattle.dh_code.specs.declared.codes.Target.TheVariants.{Indices, Row, Through}
use Rattle.dh_code.specs.declared.codes.Access.{Access}
use Rattle.dh_code.specs.declared.codes.CodeOperation.{CodeOperation}
use Rattle.dh_code.specs.declared.codes.CodeOperation.TheVariants.{Binary, Convert, Read}
use Rattle.dh_code.specs.declared.places.VariableSlots.{VariableSlots}
use Rattle.dh_meaning.specs.Ways.{Hidden, Way}
use Rattle.dh_code.specs.Passing.{step_views}
use Rattle.dh_code.specs.Slots.{held_at}
use Rattle.dh_code.specs.Operated.{kind_of_operand, mask_of}

pub record MadeExpression : Type 0 where
  pub operations : List CodeOperation
  pub value : Operand

abbrev pub made_expression : List CodeOperation → Operand → MadeExpression
made_expression operations value = record { operations = operations; value = value }

-- of indices: their values
pub record AllMade : Type 0 where
  pub operations : List CodeOperation
  pub values : List Operand

abbrev pub all_made : List CodeOperation → List Operand → AllMade
all_made operations values = record { operations = operations; values = values }

-- one operation more, whose value is of this kind
abbrev pub one_more : (at : ℕ) → List CodeOperation → CodeOperation → Kind → MadeExpression
one_more at os o kind = made_expression (os ++ o ∷ []) (Given kind (at + length os) (mask_of kind))

-- a value in another kind: nothing is done where it is of that kind already
abbrev pub converted_made : (at : ℕ) → Kind → MadeExpression → MadeExpression
converted_made at to m = if same_kind (kind_of_operand m.value) to then m else one_more at m.operations (Convert m.value to) to

-- an operator, from the code of its left operand and of its right one behind it
abbrev pub binary_made : (at : ℕ) → Op → MadeExpression → MadeExpression → MadeExpression
binary_made at op l r = one_more at (l.operations ++ r.operations) (Binary op l.value r.value) (result_of op (kind_of_operand l.value))

abbrev pub access_to : Reach → Target → Access
access_to reach target = record { place = reach.place; memory = reach.memory; target = target }

-- an element that is read behind the code of its indices
abbrev pub read_of : List MemEntry → (at : ℕ) → Reach → List CodeOperation → Target → MadeExpression
read_of table at reach os target = one_more at os (Read (access_to reach target)) (kind_in table reach.memory)

-- the code of which element, in front of its access
pub record Aimed : Type 0 where
  pub operations : List CodeOperation
  pub target : Target

abbrev pub aimed : List CodeOperation → Target → Aimed
aimed operations target = record { operations = operations; target = target }

abbrev pub variable_operand : List VariableSlots → Kind → (entity : ℕ) → Operand
variable_operand held kind entity = Variable (held_at held entity).first (held_at held entity).depth kind (mask_of kind)

-- a variable that keeps an offset of a view
abbrev pub hidden_operand : List VariableSlots → Hidden → Operand
hidden_operand held h = variable_operand held h.kind h.entity

-- which element these values of indices name, of a memory or through the views on a way
abbrev pub aimed_target : List VariableSlots → Option Way → List Operand → Target
aimed_target held None os = Indices os
aimed_target held (Some w) os = Through (step_views w.steps) (length os) (os ++ map (hidden_operand held) w.hidden)

abbrev mutual
  pub term_made : List VariableSlots → List MemEntry → (at : ℕ) → CoreTerm → MadeExpression
  term_made held table at (literal kind negative n) = made_expression [] (Constant (with_bits kind (bits_of kind negative n)))
  term_made held table at (truth_literal value) = made_expression [] (Constant (operations.truth value))
  term_made held table at (variable kind depth entity) = made_expression [] (variable_operand held kind entity)
  term_made held table at (read reach target) = read_of table at reach (target_made held table at target).operations (target_made held table at target).target
  term_made held table at (binary op left right) =
      binary_made at op (term_made held table at left) (term_made held table (at + length (term_made held table at left).operations) right)
  term_made held table at (convert to inner) = converted_made at to (term_made held table at inner)

  pub target_made : List VariableSlots → List MemEntry → (at : ℕ) → core.Target → Aimed
  target_made held table at (by_indices indices) = aimed (terms_made held table at indices).operations (Indices (terms_made held table at indices).values)
  target_made held table at (by_views steps n terms) = aimed (terms_made held table at terms).operations (Through (step_views steps) n (terms_made held table at terms).values)
  target_made held table at (by_row bank row) = aimed (term_made held table at row).operations (Row bank (term_made held table at row).value)

  pub terms_made : List VariableSlots → List MemEntry → (at : ℕ) → CoreTerms → AllMade
  terms_made held table at no_terms = all_made [] []
  terms_made held table at (term_and t ts) =
      all_made ((term_made held table at t).operations ++ (terms_made held table (at + length (term_made held table at t).operations) ts).operations)
      ((term_made held table at t).value ∷ (terms_made held table (at + length (term_made held table at t).operations) ts).values)

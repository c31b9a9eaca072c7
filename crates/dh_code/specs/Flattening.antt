-- What the calls that make code add to it.
use Rattle.std.specs.Prelude.{◌≡◌, ℕ, suc, ◌+◌, ◌<◌, Bool as Truth, true, false, List, [], ◌∷◌, ◌++◌, length, map, Option, Some, None, option_map, Box}
use Rattle.dh_value.specs.declared.kinds.Kind.{Kind}
use Rattle.dh_value.specs.declared.kinds.Kind.TheVariants.{Bool, Unsigned, Signed}
use Rattle.dh_value.specs.declared.operators.Op.{Op}
use Rattle.dh_tree.specs.declared.tables.MemEntry.{MemEntry}
use Rattle.dh_tree.specs.declared.trees.commands.Command.{Command}
use Rattle.dh_tree.specs.declared.trees.expressions.Expr.{Expr}
use Rattle.dh_tree.specs.declared.trees.expressions.Ref.{Ref}
use Rattle.std.specs.Global.{Global}
use Rattle.std.specs.List.{AllByRecursion}
use Rattle.dh_tree.specs.Memories.{memories_of, table_of}
use Rattle.dh_tree.specs.Shapes.{IsMemory}
use Rattle.dh_tree.specs.PlainTrees as plain
use Rattle.dh_tree.specs.declared.trees.commands.ViewForm.{ViewForm}
use Rattle.dh_tree.specs.Seen.{action_seen, maybe_seen, view_plan, program_seen, term_seen, terms}
use Rattle.dh_tree.specs.ViewOffsets.{offsets_of}
use denote.Ref.{Bor}
use Rattle.dh_meaning.specs.AccessNumbers.{term_accesses, terms_accesses}
use Rattle.dh_meaning.specs.Bindings.{binding_in, kind_bound, kind_found}
use Rattle.dh_meaning.specs.Ways.{all_bindings_of, hidden_in}
use Rattle.dh_ways.specs.declared.ways.Hidden.{Hidden}
use Rattle.dh_ways.specs.Seen.{hidden_seen, led_seen}
use Rattle.dh_value.specs.Operations.{truth}
use Rattle.dh_meaning.specs.Phases.{Located}
use Rattle.dh_meaning.specs.Core as core
use Rattle.dh_meaning.specs.Core.{Reach, by_row, CoreCommands, command_and, no_commands}
use Rattle.dh_meaning.specs.CoreOf.{Known, core_action, core_commands, core_other, core_term, core_terms, entity_number, first_value, folded_into, kept_by, reach_of, store_to, target_to, way_of}
use Rattle.dh_code.specs.declared.codes.Access.{Access}
use Rattle.dh_code.specs.declared.codes.Action.{Action}
use Rattle.dh_code.specs.declared.codes.Action.TheVariants.{Assign, Choose}
use Rattle.dh_code.specs.declared.codes.Code.{Code}
use Rattle.dh_code.specs.declared.codes.Kept.{Kept}
use Rattle.dh_code.specs.declared.codes.Target.{Target}
use Rattle.dh_code.specs.declared.codes.Operand.{Operand}
use Rattle.dh_code.specs.declared.codes.Operand.TheVariants.{Constant, Given}
use Rattle.dh_code.specs.declared.codes.CodeOperation.{CodeOperation}
use Rattle.dh_code.specs.declared.codes.FlatExpression.{FlatExpression}
use Rattle.dh_code.specs.declared.flattening.Names.{Names}
use Rattle.dh_code.specs.Coded.{AreCoded, ExtendsCode}
use Rattle.dh_code.specs.Made.{AllMade, MadeExpression, access_to, aimed_target, binary_made, converted_made, hidden_operand, target_made, term_made, terms_made}
use Rattle.dh_code.specs.Operated.{mask_of}
use Rattle.dh_code.specs.Scenes.{IsSoundCode}
use Rattle.dh_code.specs.declared.places.VariableSlots.{VariableSlots}
use Rattle.dh_code.specs.Slots.{Placing, held_at}
use Rattle.dh_code.specs.Suited.{AreSuited, CanDoAll, IsSuited, IsSuitedTarget}

-- what code knows of the names of a program
abbrev pub known_by_names : Names → Known
known_by_names names = record { memories = memories_of (program_seen names.program.now); bindings = all_bindings_of (program_seen names.program.now); ways = map led_seen names.ways.now }

abbrev pub table_in : Names → List MemEntry
table_in names = table_of (program_seen names.program.now)

-- these operations are added, and nothing else
pub record AddsOnlyOperations (old new : Code) (os : List CodeOperation) : Type 0 where
  pub operations : new.operations ≡ old.operations ++ os
  pub steps : new.steps ≡ old.steps

-- this is made behind what there was, with this operand for its value
pub record IsExpressionMade (old new : Code) (o : Operand) (m : MadeExpression) : Type 0 where
  pub adds : AddsOnlyOperations old new m.operations
  pub value : o ≡ m.value

pub record AreMade (old new : Code) (os : List Operand) (m : AllMade) : Type 0 where
  pub adds : AddsOnlyOperations old new m.operations
  pub values : os ≡ m.values

-- one operation more, whose value is of a kind
pub record IsOneMore (old new : Code) (operation : CodeOperation) (kind : Kind) (o : Operand) : Type 0 where
  pub adds : AddsOnlyOperations old new (operation ∷ [])
  pub value : o ≡ Given kind (length old.operations) (mask_of kind)

-- the code of an expression, wherever its accesses are numbered from
abbrev pub Flattens : Names → (old new : Code) → Expr → Operand → Type 0
Flattens names old new e o =
    (n : ℕ) → IsSuited (table_in names) (core_term (known_by_names names) n (term_seen e))
    → IsExpressionMade old new o (term_made names.places.now (table_in names) (length old.operations) (core_term (known_by_names names) n (term_seen e)))

abbrev pub FlattensAll : Names → (old new : Code) → List Expr → List Operand → Type 0
FlattensAll names old new es os =
    (n : ℕ) → AreSuited (table_in names) (core_terms (known_by_names names) n (terms (map term_seen es)))
    → AreMade old new os (terms_made names.places.now (table_in names) (length old.operations) (core_terms (known_by_names names) n (terms (map term_seen es))))

-- the element that operands name
abbrev pub Aims : Names → Ref → List Operand → Target → Type 0
Aims names r os t = t ≡ aimed_target names.places.now (way_of (known_by_names names) r) os

-- what variables hold that keep offsets
abbrev pub hidden_operands : List VariableSlots → List Hidden → List Operand
hidden_operands held hs = map (λ h. hidden_operand held (hidden_seen h)) hs

-- the offsets of a suffix, without its factors
abbrev pub offsets_by : List (ℕ × Expr) → List Expr
offsets_by pairs = map (λ p. p.1) pairs

-- the code of the offsets of a view
abbrev pub FlattensOffsets : Names → (old new : Code) → ViewForm → List Operand → Type 0
FlattensOffsets names old new form os =
    (n : ℕ) → AreSuited (table_in names) (core_terms (known_by_names names) n (terms (offsets_of (view_plan form))))
    → AreMade old new os (terms_made names.places.now (table_in names) (length old.operations) (core_terms (known_by_names names) n (terms (offsets_of (view_plan form)))))

-- operands that are kept in variables whose entities follow one another
abbrev pub kept_from : List VariableSlots → (entity : ℕ) → List Operand → List Kept
kept_from held entity [] = []
kept_from held entity (o ∷ os) = record { value = o; first = (held_at held entity).first } ∷ kept_from held (suc entity) os

-- a value in another kind, behind whatever was made of it
abbrev pub ConvertsTo : (old new : Code) → Operand → Kind → Operand → Type 0
ConvertsTo old new from to o = (base : Code) (m : MadeExpression) → IsExpressionMade base old from m → IsExpressionMade base new o (converted_made (length base.operations) to m)

abbrev pub extended_made : (at : ℕ) → Kind → MadeExpression → MadeExpression
extended_made at Bool m = m
extended_made at (Unsigned w) m = converted_made at (Unsigned w) m
extended_made at (Signed w) m = converted_made at (Signed w) m

abbrev pub ExtendsTo : (old new : Code) → Operand → Kind → Operand → Type 0
ExtendsTo old new from to o = (base : Code) (m : MadeExpression) → IsExpressionMade base old from m → IsExpressionMade base new o (extended_made (length base.operations) to m)

-- an operator, behind whatever was made of its operands
abbrev pub AddsBinary : (old new : Code) → Op → (left right : Operand) → Operand → Type 0
AddsBinary old new op left right o =
    (base middle : Code) (l r : MadeExpression) → IsExpressionMade base middle left l → IsExpressionMade middle old right r → IsExpressionMade base new o (binary_made (length base.operations) op l r)

-- this was made behind what there was, and is an expression by its first and last operation
pub record IsFlatMade (old new : Code) (m : MadeExpression) (f : FlatExpression) : Type 0 where
  pub adds : AddsOnlyOperations old new m.operations
  pub from : f.from ≡ length old.operations
  pub to : f.to ≡ length new.operations
  pub value : f.value ≡ m.value

abbrev pub HoldsFlat : Names → (old new : Code) → Expr → FlatExpression → Type 0
HoldsFlat names old new e f =
    (n : ℕ) → IsSuited (table_in names) (core_term (known_by_names names) n (term_seen e))
    → IsFlatMade old new (term_made names.places.now (table_in names) (length old.operations) (core_term (known_by_names names) n (term_seen e))) f

-- what a `let` sets its variable to
abbrev pub HoldsFirst : Names → (old new : Code) → Option Kind → Option Expr → FlatExpression → Type 0
HoldsFirst names old new declared value f =
    (n : ℕ) → IsSuited (table_in names) (first_value (known_by_names names) n declared (option_map term_seen value))
    → IsFlatMade old new (term_made names.places.now (table_in names) (length old.operations) (first_value (known_by_names names) n declared (option_map term_seen value))) f

-- the slots of a program's variables, each of the variable's kind
pub record IsPlacingOf (p : Placing) (names : Names) : Type 0 where
  pub held : p.held ≡ names.places.now
  pub kinds : (entity : ℕ) → entity < length p.held → (held_at p.held entity).kind ≡ kind_bound (binding_in (known_by_names names).bindings entity)

-- the commands of a command stand in front of those behind it, wherever its accesses are numbered from
pub record IsInFront (names : Names) (old new : Code) (first next : Option ℕ) (cs rest : CoreCommands) : Type 0 where
  pub extends : ExtendsCode old new
  pub coded : AreCoded names.places.now (table_in names) old next rest → AreCoded names.places.now (table_in names) new first cs
  pub sound : AllByRecursion IsMemory (table_in names) → AreCoded names.places.now (table_in names) old next rest → IsSoundCode (table_in names) old → IsSoundCode (table_in names) new

abbrev pub FlattensCommand : Names → (old new : Code) → Command → (first next : Option ℕ) → Type 0
FlattensCommand names old new c first next =
    (p : Placing) (loops : List ℕ) (n : ℕ) (rest : CoreCommands) → IsPlacingOf p names
    → CanDoAll (table_in names) p loops (core_action (known_by_names names) n (action_seen c) rest)
    → IsInFront names old new first next (core_action (known_by_names names) n (action_seen c) rest) rest

-- the commands of an arm that may lack
abbrev pub FlattensOther : Names → (old new : Code) → Option (Box Command Global) → (first : Option ℕ) → Type 0
FlattensOther names old new other first =
    (p : Placing) (loops : List ℕ) (n : ℕ) → IsPlacingOf p names
    → CanDoAll (table_in names) p loops (core_other (known_by_names names) n (maybe_seen (option_map (λ b. action_seen b.value) other)))
    → IsInFront names old new first None (core_other (known_by_names names) n (maybe_seen (option_map (λ b. action_seen b.value) other))) no_commands

-- a value without operations
pub record IsStillAt (code : Code) (value : Operand) (f : FlatExpression) : Type 0 where
  pub from : f.from ≡ length code.operations
  pub to : f.to ≡ length code.operations
  pub value_is : f.value ≡ value

-- one command more, in front of those behind it
pub record AddsStep (old new : Code) (a : Action) (next first : Option ℕ) : Type 0 where
  pub operations : new.operations ≡ old.operations
  pub steps : new.steps ≡ old.steps ++ record { action = a; next = next } ∷ []
  pub first_is : first ≡ Some (length old.steps)

-- a command that does nothing
pub record AddsNothing (old new : Code) (next first : Option ℕ) : Type 0 where
  pub test : FlatExpression
  pub step : AddsStep old new (Choose test None None) next first
  pub still : IsStillAt old (Constant (truth false)) test

-- a variable is set to the value of this code
abbrev pub IsAssignedIn : Names → (old new : Code) → Ref → FlatExpression → (next first : Option ℕ) → Type 0
IsAssignedIn names old new r f next first =
    AddsStep old new (Assign f (held_at names.places.now (entity_number r.entity)).first (held_at names.places.now (entity_number r.entity)).depth) next first

-- commands stand in front of others, where they can be done
abbrev pub StandsInFront : Names → (old new : Code) → (first next : Option ℕ) → (cs rest : CoreCommands) → Type 0
StandsInFront names old new first next cs rest =
    (p : Placing) (loops : List ℕ) → IsPlacingOf p names → CanDoAll (table_in names) p loops cs → IsInFront names old new first next cs rest

-- a reducer
abbrev pub IsReducedIn : Names → (old new : Code) → Ref → Op → Expr → (next first : Option ℕ) → Type 0
IsReducedIn names old new r o value next first =
    (n : ℕ) (rest : CoreCommands)
    → StandsInFront names old new first next (command_and (folded_into (known_by_names names) r o (kind_found (term_seen value)) (core_term (known_by_names names) n (term_seen value))) rest) rest

-- a store
abbrev pub IsStoredIn : Names → (old new : Code) → (target value : Expr) → (next first : Option ℕ) → Type 0
IsStoredIn names old new target value next first =
    (n : ℕ) (rest : CoreCommands)
    → StandsInFront names old new first next (command_and (store_to (known_by_names names) (n + term_accesses (term_seen value)) (term_seen target) (core_term (known_by_names names) n (term_seen value))) rest) rest

-- a view
abbrev pub IsKeptIn : Names → (old new : Code) → Ref → ViewForm → (next first : Option ℕ) → Type 0
IsKeptIn names old new r form next first =
    (n : ℕ) (rest : CoreCommands)
    → StandsInFront names old new first next (kept_by (hidden_in (way_of (known_by_names names) r)) (core_terms (known_by_names names) n (terms (offsets_of (view_plan form)))) rest) rest

-- the access that a target is, or that it is none
abbrev pub aimed_at : Known → (n : ℕ) → plain.Term → Option (Reach × core.Target)
aimed_at known n (plain.term at kind (plain.accessed r indices)) = Some (reach_of known (n + terms_accesses indices) at r, target_to (way_of known r) (core_terms known n indices))
aimed_at known n (plain.term at kind (plain.in_bank r bank bank_place row)) = Some (reach_of known (n + term_accesses row) at r, by_row bank (core_term known n row))
aimed_at known n (plain.term at kind (plain.number negative v)) = None
aimed_at known n (plain.term at kind (plain.truth_value v)) = None
aimed_at known n (plain.term at kind (plain.named r)) = None
aimed_at known n (plain.term at kind (plain.applied o left right)) = None
aimed_at known n (plain.term at kind (plain.converted inner to)) = None

abbrev pub is_aimed : plain.Term → Truth
is_aimed (plain.term at kind (plain.accessed r indices)) = true
is_aimed (plain.term at kind (plain.in_bank r bank bank_place row)) = true
is_aimed (plain.term at kind (plain.number negative v)) = false
is_aimed (plain.term at kind (plain.truth_value v)) = false
is_aimed (plain.term at kind (plain.named r)) = false
is_aimed (plain.term at kind (plain.applied o left right)) = false
is_aimed (plain.term at kind (plain.converted inner to)) = false

abbrev pub IsAimed : Names → (old new : Code) → Option (Reach × core.Target) → Option Access → Type 0
IsAimed names old new None None = new ≡ old
IsAimed names old new None (Some a) = ⊥
IsAimed names old new (Some (r, t)) None = ⊥
IsAimed names old new (Some (r, t)) (Some a) =
    IsSuitedTarget (table_in names) r.memory t
    → AddsOnlyOperations old new (target_made names.places.now (table_in names) (length old.operations) t).operations
    × (a ≡ access_to r (target_made names.places.now (table_in names) (length old.operations) t).target)

abbrev pub IsAimedAt : Names → (old new : Code) → Expr → Option Access → Type 0
IsAimedAt names old new e a = (n : ℕ) → IsAimed names old new (aimed_at (known_by_names names) n (term_seen e)) a

-- the commands of a straight phase, wherever the accesses of each are numbered from
abbrev pub FlattensCommands : Names → (old new : Code) → List (Bor Command) → (first : Option ℕ) → Type 0
FlattensCommands names old new cs first =
    (p : Placing) (loops : List ℕ) (ls : List Located) → map (λ l. l.command) ls ≡ map (λ c. action_seen c.now) cs → IsPlacingOf p names
    → CanDoAll (table_in names) p loops (core_commands (known_by_names names) ls)
    → IsInFront names old new first None (core_commands (known_by_names names) ls) no_commands

-- What a program means whose names are resolved and whose expressions have their kinds: its memories, and the
-- phases of its body, with accesses and memories by number, variables with their depth and operands
-- extended; an access through views is one of their memory, and a view that moves is a command that keeps its
-- offsets. Functions are not built: they mean nothing here, and no program that is run has them.
use Rattle.std.specs.Prelude.{ℕ, ◌+◌, false, List, [], ◌∷◌, Option, Some, None}
use Rattle.dh_base.specs.declared.places.Place.{Place}
use Rattle.dh_value.specs.declared.kinds.Kind.{Kind}
use Rattle.dh_value.specs.declared.kinds.Kind.TheVariants.{Bool, Unsigned, Signed}
use Rattle.dh_value.specs.declared.operators.Op.{Op}
use Rattle.dh_value.specs.declared.operators.Op.TheVariants as op
use Rattle.dh_tree.specs.declared.tables.Dim.{Dim}
use Rattle.dh_tree.specs.declared.tables.MemEntry.{MemEntry}
use Rattle.dh_tree.specs.declared.trees.expressions.Ref.{Ref}
use Rattle.dh_tree.specs.Elements.{dims_at}
use Rattle.dh_meaning.specs.AccessNumbers.{term_accesses, terms_accesses, accesses_of, part_accesses}
use Rattle.dh_tree.specs.Seen.{terms}
use Rattle.dh_tree.specs.ViewOffsets.{offsets_of}
use Rattle.dh_meaning.specs.Ways.{Hidden, Led, Way, all_bindings_of, base_of, hidden_in, way_at, ways_of}
use Rattle.dh_meaning.specs.Bindings.{Binding, binding_in, kind_bound, depth_bound, kind_or_first, kind_found}
use Rattle.dh_tree.specs.WiderKinds.{wider}
use Rattle.dh_tree.specs.PlainTrees as plain
use Rattle.dh_tree.specs.PlainTrees.{Action, action, ActionForm, lets, lets_memory, views, assigns, stores, reduces, calls, blocks, decides, repeats, counts, MaybeAction, no_action, one_action, Actions, no_actions, action_then, Groups, no_groups, group_then, Program}
use Rattle.dh_tree.specs.Memories.{Memory, memories_of, number_in, table_of}
pub use Rattle.dh_tree.specs.Scopes.{entity_number}
use Rattle.dh_meaning.specs.Phases as source
use Rattle.dh_meaning.specs.Phases.{Located, phases_of}
use Rattle.dh_meaning.specs.Core.{Reach, CoreTerm, literal, truth_literal, variable, read, binary, convert, Target, by_indices, by_row, by_views, CoreTerms, no_terms, term_and, CoreCommand, store, assign, choose, keep, CoreCommands, no_commands, command_and, count_terms, Turning, CorePhase, straightly, turning, looping, choosing, CorePhases, no_core_phases, phase_and, CoreProgram}

-- what is known of a program's names
pub record Known : Type 0 where
  pub memories : List Memory
  pub bindings : List Binding
  pub ways : List Led

abbrev pub known_of : Program → Known
known_of p = record { memories = memories_of p; bindings = all_bindings_of p; ways = ways_of p }

-- the way of what a name stands for, where that is a view
abbrev pub way_of : Known → Ref → Option Way
way_of known r = way_at known.memories known.ways r.entity

-- the number of the memory that a name stands for, or leads to
abbrev pub memory_of : Known → Ref → ℕ
memory_of known r = entity_number (number_in known.memories (base_of (way_of known r) r.entity))

-- an access of what a name stands for
abbrev pub reach_of : Known → (number : ℕ) → Place → Ref → Reach
reach_of known n place r = record { number = n; place = place; memory = memory_of known r }

-- the depth and the kind of the variable that a name stands for
abbrev pub depth_of : Known → Ref → ℕ
depth_of known r = depth_bound (binding_in known.bindings (entity_number r.entity))

abbrev pub kind_of : Known → Ref → Kind
kind_of known r = kind_bound (binding_in known.bindings (entity_number r.entity))

-- the dimensions of what a name stands for: those of its memory, or of the view
abbrev pub dims_by : (memory : List Dim) → Option Way → List Dim
dims_by memory None = memory
dims_by memory (Some w) = w.is.shape.dims

abbrev pub dims_named : Known → List MemEntry → Ref → List Dim
dims_named known table r = dims_by (dims_at table (memory_of known r)) (way_of known r)

-- the offsets that are kept, as terms
abbrev pub kept_terms : List Hidden → CoreTerms
kept_terms [] = no_terms
kept_terms (h ∷ hs) = term_and (variable h.kind h.depth h.entity) (kept_terms hs)

abbrev pub terms_both : CoreTerms → CoreTerms → CoreTerms
terms_both no_terms more = more
terms_both (term_and t ts) more = term_and t (terms_both ts more)

-- which element indices name, of a memory or through the views on a way
abbrev pub target_to : Option Way → (indices : CoreTerms) → Target
target_to None indices = by_indices indices
target_to (Some w) indices = by_views w.steps (count_terms indices) (terms_both indices (kept_terms w.hidden))

-- an operand that is extended to an integer kind
abbrev pub extended : Kind → CoreTerm → CoreTerm
extended Bool t = t
extended (Unsigned w) t = convert (Unsigned w) t
extended (Signed w) t = convert (Signed w) t

-- operands are extended to the wider of their kinds
abbrev pub extended_both : Op → (left_kind right_kind : Kind) → (left right : CoreTerm) → CoreTerm
extended_both o j k left right = binary o (extended (wider j k) left) (extended (wider j k) right)

-- but those of shifts and of truths stay as they are
abbrev pub operation_of : Op → (left_kind right_kind : Kind) → (left right : CoreTerm) → CoreTerm
operation_of op.Shl j k left right = binary op.Shl left right
operation_of op.Shr j k left right = binary op.Shr left right
operation_of op.Both j k left right = binary op.Both left right
operation_of op.Either j k left right = binary op.Either left right
operation_of op.Add j k left right = extended_both op.Add j k left right
operation_of op.Sub j k left right = extended_both op.Sub j k left right
operation_of op.Mul j k left right = extended_both op.Mul j k left right
operation_of op.And j k left right = extended_both op.And j k left right
operation_of op.Or j k left right = extended_both op.Or j k left right
operation_of op.Xor j k left right = extended_both op.Xor j k left right
operation_of op.Lt j k left right = extended_both op.Lt j k left right
operation_of op.Gt j k left right = extended_both op.Gt j k left right
operation_of op.Le j k left right = extended_both op.Le j k left right
operation_of op.Ge j k left right = extended_both op.Ge j k left right
operation_of op.Eq j k left right = extended_both op.Eq j k left right
operation_of op.Ne j k left right = extended_both op.Ne j k left right

abbrev mutual
  -- an expression, whose accesses are numbered from n on
  pub core_term : Known → (n : ℕ) → plain.Term → CoreTerm
  core_term known n (plain.term place kind form) = core_form known n place (kind_or_first kind) form

  pub core_form : Known → (n : ℕ) → Place → Kind → plain.TermForm → CoreTerm
  core_form known n place k (plain.number negative value) = literal k negative value
  core_form known n place k (plain.truth_value value) = truth_literal value
  core_form known n place k (plain.named r) = variable k (depth_of known r) (entity_number r.entity)
  core_form known n place k (plain.accessed r indices) = read (reach_of known (n + terms_accesses indices) place r) (target_to (way_of known r) (core_terms known n indices))
  core_form known n place k (plain.in_bank r bank bank_place row) = read (reach_of known (n + term_accesses row) place r) (by_row bank (core_term known n row))
  core_form known n place k (plain.applied o left right) =
      operation_of o (kind_found left) (kind_found right) (core_term known n left) (core_term known (n + term_accesses left) right)
  core_form known n place k (plain.converted inner to) = convert to (core_term known n inner)

  -- indices
  pub core_terms : Known → (n : ℕ) → plain.Terms → CoreTerms
  core_terms known n plain.no_terms = no_terms
  core_terms known n (plain.term_then t rest) = term_and (core_term known n t) (core_terms known (n + term_accesses t) rest)

-- what a variable is set to; a `let` without a right side sets 0 or false
abbrev pub first_value : Known → (n : ℕ) → Option Kind → Option plain.Term → CoreTerm
first_value known n declared None = literal (kind_or_first declared) false 0
first_value known n declared (Some value) = core_term known n value

-- a store, of which the target is an access; no text has another target, which would store nothing
abbrev pub store_to : Known → (n : ℕ) → plain.Term → CoreTerm → CoreCommand
store_to known n (plain.term at kind (plain.accessed r indices)) value =
    store (reach_of known (n + terms_accesses indices) at r) (target_to (way_of known r) (core_terms known n indices)) value
store_to known n (plain.term at kind (plain.in_bank r bank bank_place row)) value =
    store (reach_of known (n + term_accesses row) at r) (by_row bank (core_term known n row)) value
store_to known n (plain.term at kind (plain.number negative v)) value = choose (truth_literal false) no_commands no_commands
store_to known n (plain.term at kind (plain.truth_value v)) value = choose (truth_literal false) no_commands no_commands
store_to known n (plain.term at kind (plain.named r)) value = choose (truth_literal false) no_commands no_commands
store_to known n (plain.term at kind (plain.applied o left right)) value = choose (truth_literal false) no_commands no_commands
store_to known n (plain.term at kind (plain.converted inner to)) value = choose (truth_literal false) no_commands no_commands

abbrev pub assigned : Known → Ref → CoreTerm → CoreCommand
assigned known r value = assign (depth_of known r) (entity_number r.entity) value

-- a reducer: what the variable holds and a value are put together. It is done in each copy in ascending
-- order, so that copies fold in this order.
abbrev pub folded_into : Known → Ref → Op → Kind → CoreTerm → CoreCommand
folded_into known r o k value = assigned known r (operation_of o (kind_of known r) k (variable (kind_of known r) (depth_of known r) (entity_number r.entity)) value)

-- a view keeps its offsets, the first of which has the first of these variables, in each copy of the loops round its
-- command; one without offsets does nothing
abbrev pub kept_by : List Hidden → (offsets : CoreTerms) → (rest : CoreCommands) → CoreCommands
kept_by hidden no_terms rest = rest
kept_by [] (term_and t ts) rest = rest
kept_by (h ∷ hs) (term_and t ts) rest = command_and (keep h.depth h.entity (term_and t ts)) rest

abbrev mutual
  -- the straight commands of a command whose accesses are numbered from n on, in front of those that follow: a
  -- block has those of its content, and a declaration of a memory has none
  pub core_action : Known → (n : ℕ) → Action → CoreCommands → CoreCommands
  core_action known n (action id place form) rest = core_action_form known n form rest

  pub core_action_form : Known → (n : ℕ) → ActionForm → CoreCommands → CoreCommands
  core_action_form known n (lets name declared value) rest = command_and (assigned known name (first_value known n declared value)) rest
  core_action_form known n (assigns target value) rest = command_and (assigned known target (core_term known n value)) rest
  core_action_form known n (stores target value) rest = command_and (store_to known (n + term_accesses value) target (core_term known n value)) rest
  core_action_form known n (reduces target o value) rest = command_and (folded_into known target o (kind_found value) (core_term known n value)) rest
  core_action_form known n (decides test chosen other) rest =
      command_and
      (choose (core_term known n test) (core_action known (n + term_accesses test) chosen no_commands)
      (core_other known (n + term_accesses test + accesses_of chosen) other))
      rest
  core_action_form known n (blocks body) rest = core_groups known n body rest
  core_action_form known n (lets_memory name shape shape_places value) rest = rest
  core_action_form known n (views name parent form) rest = kept_by (hidden_in (way_of known name)) (core_terms known n (terms (offsets_of form))) rest
  core_action_form known n (calls function arguments) rest = rest
  core_action_form known n (repeats test body) rest = rest
  core_action_form known n (counts iterator declared low high factor body combine combine_place) rest = rest

  pub core_other : Known → (n : ℕ) → MaybeAction → CoreCommands
  core_other known n no_action = no_commands
  core_other known n (one_action a) = core_action known n a no_commands

  pub core_part : Known → (n : ℕ) → Actions → CoreCommands → CoreCommands
  core_part known n no_actions rest = rest
  core_part known n (action_then a behind) rest = core_action known n a (core_part known (n + accesses_of a) behind rest)

  pub core_groups : Known → (n : ℕ) → Groups → CoreCommands → CoreCommands
  core_groups known n no_groups rest = rest
  core_groups known n (group_then part behind) rest = core_part known n part (core_groups known (n + part_accesses part) behind rest)

-- straight commands, one after the other
abbrev pub core_commands : Known → List Located → CoreCommands
core_commands known [] = no_commands
core_commands known (c ∷ rest) = core_action known c.first c.command (core_commands known rest)

-- the test of a `while` or an `if`; another command has none
abbrev pub test_of : ActionForm → Option plain.Term
test_of (decides test chosen other) = Some test
test_of (repeats test body) = Some test
test_of (lets name declared value) = None
test_of (lets_memory name shape shape_places value) = None
test_of (views name parent form) = None
test_of (assigns target value) = None
test_of (stores target value) = None
test_of (reduces target o value) = None
test_of (calls function arguments) = None
test_of (blocks body) = None
test_of (counts iterator declared low high factor body combine combine_place) = None

abbrev pub action_form_of : Action → ActionForm
action_form_of (action id place form) = form

abbrev pub core_test_of : Known → (n : ℕ) → Option plain.Term → CoreTerm
core_test_of known n None = truth_literal false
core_test_of known n (Some test) = core_term known n test

abbrev pub core_test : Known → Located → CoreTerm
core_test known c = core_test_of known c.first (test_of (action_form_of c.command))

-- the turns of a `for`; another command has none
abbrev pub no_turns : Turning
no_turns = record { iterator = 0; depth = 0; low = 0; factor = 1; count = 0 }

abbrev pub turning_of : Known → (count : ℕ) → ActionForm → Turning
turning_of known count (counts iterator declared low high factor body combine combine_place) =
    record { iterator = entity_number iterator.entity; depth = depth_of known iterator; low = low.value; factor = factor.value; count = count }
turning_of known count (decides test chosen other) = no_turns
turning_of known count (repeats test body) = no_turns
turning_of known count (lets name declared value) = no_turns
turning_of known count (lets_memory name shape shape_places value) = no_turns
turning_of known count (views name parent form) = no_turns
turning_of known count (assigns target value) = no_turns
turning_of known count (stores target value) = no_turns
turning_of known count (reduces target o value) = no_turns
turning_of known count (calls function arguments) = no_turns
turning_of known count (blocks body) = no_turns

abbrev mutual
  pub core_phase : Known → source.Phase → CorePhase
  core_phase known (source.straight cs) = straightly (core_commands known cs)
  core_phase known (source.turns loop count body) = turning (turning_of known count (action_form_of loop.command)) (core_phases known body)
  core_phase known (source.repeated loop body) = looping (core_test known loop) (core_phases known body)
  core_phase known (source.decided choice chosen other) = choosing (core_test known choice) (core_phases known chosen) (core_phases known other)

  pub core_phases : Known → source.Phases → CorePhases
  core_phases known source.no_phases = no_core_phases
  core_phases known (source.phase p ps) = phase_and (core_phase known p) (core_phases known ps)

-- the program as the checked semantics runs it
abbrev pub core_of : Program → CoreProgram
core_of p = record { table = table_of p; phases = core_phases (known_of p) (source.of_list (phases_of p)) }

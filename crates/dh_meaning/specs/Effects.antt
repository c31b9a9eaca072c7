-- What is done in one logical step by one thread: assignments, accesses and faults in order, and writes. All
-- reads see the memories as the step began; assignments are seen at once; the writes are made at the end
-- of the step, in order. Copies go in lockstep: a command is done at each of its paths in ascending order
-- before the next one. (After the checked semantics of Nigam and others, PLDI 2020; lockstep by paths is
-- this profile's.)
use Rattle.std.specs.Prelude.{ℕ, ◌+◌, ◌-◌, ◌%◌, ◌^◌, ◌==◌, ◌&&◌, nat_eq, nat_lt, suc, Bool, true, false, if◌then◌else◌, List, [], ◌∷◌, ◌++◌, take, drop, map, slice_get, slice_index, slice_set, slice_index_or, Option, Some, None, ℤ, pos, int_le, int_lt, unsigned_abs}
use Rattle.std.specs.Set.{distinct_count}
use Rattle.dh_base.specs.declared.outcomes.FaultKind.{FaultKind}
use Rattle.dh_base.specs.declared.outcomes.FaultKind.TheVariants.{OutOfRange}
use Rattle.dh_base.specs.declared.outcomes.Outcome.{Outcome}
use Rattle.dh_base.specs.declared.outcomes.Outcome.TheVariants.{Faulted, Stuck}
use Rattle.dh_base.specs.declared.places.Place.{Place}
use Rattle.dh_value.specs.declared.kinds.Kind.{Kind}
use Rattle.dh_value.specs.declared.kinds.Kind.TheVariants as kind
use Rattle.dh_value.specs.declared.words.Word.{Word}
use Rattle.dh_value.specs.Words as words
use Rattle.dh_value.specs.Words.{width_of, with_bits, word_of}
use Rattle.dh_value.specs.Operations as operations
use Rattle.dh_value.specs.Operations.{binary_of}
use Rattle.dh_tree.specs.declared.tables.Dim.{Dim}
use Rattle.dh_tree.specs.declared.tables.MemEntry.{MemEntry}
use Rattle.dh_tree.specs.Elements.{Spot, spot_of, spot_in_bank, dims_at, ports_at, rows_of}
pub use Rattle.dh_tree.specs.ViewElements.{is_inside}
use Rattle.dh_tree.specs.ViewElements.{view_through, where_inside}
use Rattle.dh_meaning.specs.Ways.{WayStep}
use Rattle.dh_meaning.specs.Paths.{Path, same_path}
use Rattle.dh_meaning.specs.Core.{Reach, CoreTerm, literal, truth_literal, variable, read, binary, convert, Target, by_indices, by_row, by_views, CoreTerms, no_terms, term_and, CoreCommand, store, assign, choose, keep, CoreCommands, no_commands, command_and}

-- What a step begins with: the memories by their table, and their contents.
pub record Begun : Type 0 where
  pub table : List MemEntry
  pub memories : List (List ℕ)

-- Variables: of each entity at each path a whole number; false is 0 and true is 1.
abbrev pub Variables : Type 0
Variables = ℕ → Path → ℤ

-- no variable was set yet
abbrev pub unset : Variables
unset entity path = pos 0

-- the variables with one of them set at a path
abbrev pub set_variable : Variables → (entity : ℕ) → Path → ℤ → Variables
set_variable variables entity path value = λ e p. if (e == entity) && same_path p path then value else variables e p

-- Values.

-- the bits of a number of a kind, in two's complement
abbrev pub bits_of : Kind → (negative : Bool) → ℕ → ℕ
bits_of kind false n = n % 2 ^ width_of kind
bits_of kind true n = (2 ^ width_of kind - n % 2 ^ width_of kind) % 2 ^ width_of kind

-- the kind of the elements of an entry, Bool where there is no entry
abbrev pub entry_kind : Option MemEntry → Kind
entry_kind None = kind.Bool
entry_kind (Some e) = e.shape.kind

-- the kind of the elements of a memory
abbrev pub kind_in : List MemEntry → ℕ → Kind
kind_in table memory = entry_kind (slice_get table memory)

-- it is a row of a bank of these dimensions
abbrev pub is_row : List Dim → ℤ → Bool
is_row dims row = int_le (pos 0) row && int_lt row (pos (rows_of dims))

-- where the element of these indices lies, None where they are out of range
abbrev pub spot_by_indices : List MemEntry → (memory : ℕ) → List ℤ → Option Spot
spot_by_indices table memory indices = if is_inside (dims_at table memory) indices then Some (spot_of table memory (map unsigned_abs indices)) else None

-- where the element in a row of a bank lies, None where it is no row of the bank
abbrev pub spot_by_row : List MemEntry → (memory bank : ℕ) → (row : ℤ) → Option Spot
spot_by_row table memory bank row = if is_row (dims_at table memory) row then Some (spot_in_bank table memory bank (unsigned_abs row)) else None

-- the indices of the memory, through the views on the way; none where those of a view are out of range
abbrev pub indices_through : List WayStep → (indices offsets : List ℤ) → Option (List ℤ)
indices_through [] indices offsets = Some indices
indices_through (s ∷ ss) indices offsets =
    where_inside (view_through s.is (take s.offsets offsets) indices) (λ inner. indices_through ss inner (drop s.offsets offsets))

abbrev pub spot_if_inside : List MemEntry → (memory : ℕ) → Option (List ℤ) → Option Spot
spot_if_inside table memory None = None
spot_if_inside table memory (Some indices) = spot_by_indices table memory indices

abbrev pub spot_by_views : List MemEntry → (memory : ℕ) → List WayStep → (indices offsets : List ℤ) → Option Spot
spot_by_views table memory steps indices offsets = spot_if_inside table memory (indices_through steps indices offsets)

-- the bits of an element, 0 where an access is out of range
abbrev pub bits_at : List (List ℕ) → Option Spot → ℕ
bits_at memories None = 0
bits_at memories (Some s) = slice_index (slice_index_or memories s.memory []) s.position

-- the value of an expression at a path
abbrev mutual
  pub value_of_term : Begun → Variables → Path → CoreTerm → Word
  value_of_term b variables path (literal kind negative n) = with_bits kind (bits_of kind negative n)
  value_of_term b variables path (truth_literal value) = operations.truth value
  value_of_term b variables path (variable kind depth entity) = word_of kind (variables entity (take depth path))
  value_of_term b variables path (read r target) = with_bits (kind_in b.table r.memory) (bits_at b.memories (spot_reached b variables path r target))
  value_of_term b variables path (binary op left right) = binary_of op (value_of_term b variables path left) (value_of_term b variables path right)
  value_of_term b variables path (convert to inner) = word_of to (words.value_of (value_of_term b variables path inner))

  -- where an access leads, None where it is out of range
  pub spot_reached : Begun → Variables → Path → Reach → Target → Option Spot
  spot_reached b variables path r (by_indices indices) = spot_by_indices b.table r.memory (values_of b variables path indices)
  spot_reached b variables path r (by_views steps n terms) =
      spot_by_views b.table r.memory steps (take n (values_of b variables path terms)) (drop n (values_of b variables path terms))
  spot_reached b variables path r (by_row bank row) = spot_by_row b.table r.memory bank (words.value_of (value_of_term b variables path row))

  -- the values of indices, as whole numbers
  pub values_of : Begun → Variables → Path → CoreTerms → List ℤ
  values_of b variables path no_terms = []
  values_of b variables path (term_and t ts) = words.value_of (value_of_term b variables path t) ∷ values_of b variables path ts

-- Accesses and faults.

-- an access that was made at a path, or a fault, by the number of the access and its place in the source
pub data Event : Type 0 where
  reads : (number : ℕ) → Place → Path → Spot → Event
  writes : (number : ℕ) → Place → Path → Spot → (value : ℕ) → Event
  faults : (number : ℕ) → Place → Path → FaultKind → Event

-- an access that leads to an element is made; else there is a fault
abbrev pub read_made : Reach → Path → Option Spot → Event
read_made r path None = faults r.number r.place path OutOfRange
read_made r path (Some s) = reads r.number r.place path s

abbrev pub write_made : Reach → Path → (value : ℕ) → Option Spot → Event
write_made r path value None = faults r.number r.place path OutOfRange
write_made r path value (Some s) = writes r.number r.place path s value

-- the accesses and faults of an expression: the left operand first, an access after its indices; every
-- operand is evaluated
abbrev mutual
  pub term_events : Begun → Variables → Path → CoreTerm → List Event
  term_events b variables path (literal kind negative n) = []
  term_events b variables path (truth_literal value) = []
  term_events b variables path (variable kind depth entity) = []
  term_events b variables path (read r target) = target_events b variables path target ++ read_made r path (spot_reached b variables path r target) ∷ []
  term_events b variables path (binary op left right) = term_events b variables path left ++ term_events b variables path right
  term_events b variables path (convert to inner) = term_events b variables path inner

  pub target_events : Begun → Variables → Path → Target → List Event
  target_events b variables path (by_indices indices) = terms_events b variables path indices
  target_events b variables path (by_views steps n terms) = terms_events b variables path terms
  target_events b variables path (by_row bank row) = term_events b variables path row

  pub terms_events : Begun → Variables → Path → CoreTerms → List Event
  terms_events b variables path no_terms = []
  terms_events b variables path (term_and t ts) = term_events b variables path t ++ terms_events b variables path ts

-- Commands.

-- what a step has done so far: the variables, and the accesses and faults in order
pub record Effect : Type 0 where
  pub variables : Variables
  pub events : List Event

-- an effect with further accesses and faults
abbrev pub with_events : Effect → List Event → Effect
with_events e more = record { variables = e.variables; events = e.events ++ more }

-- the bits that a memory keeps of a value
abbrev pub kept_bits : List MemEntry → (memory : ℕ) → Word → ℕ
kept_bits table memory value = (word_of (kind_in table memory) (words.value_of value)).bits

-- a store at a path evaluates its right side, then its indices, then makes its write
abbrev pub store_events : Begun → Variables → Path → Reach → Target → CoreTerm → List Event
store_events b variables path r target value =
    term_events b variables path value
    ++ (target_events b variables path target
    ++ write_made r path (kept_bits b.table r.memory (value_of_term b variables path value)) (spot_reached b variables path r target) ∷ [])

abbrev pub stored_at : Begun → Reach → Target → CoreTerm → Path → Effect → Effect
stored_at b r target value path e = with_events e (store_events b e.variables path r target value)

-- an assignment at a path evaluates its right side, then sets the variable
abbrev pub assigned_at : Begun → (depth entity : ℕ) → CoreTerm → Path → Effect → Effect
assigned_at b depth entity value path e = record {
  variables = set_variable e.variables entity (take depth path) (words.value_of (value_of_term b e.variables path value));
  events = e.events ++ term_events b e.variables path value;
}

-- variables with entities that follow one another, set to these values
abbrev pub set_from : Variables → (entity : ℕ) → Path → List ℤ → Variables
set_from variables entity path [] = variables
set_from variables entity path (z ∷ zs) = set_from (set_variable variables entity path z) (suc entity) path zs

-- values are evaluated at a path, then kept
abbrev pub kept_at : Begun → (depth first : ℕ) → CoreTerms → Path → Effect → Effect
kept_at b depth first values path e = record {
  variables = set_from e.variables first (take depth path) (values_of b e.variables path values);
  events = e.events ++ terms_events b e.variables path values;
}

-- a test at a path is evaluated
abbrev pub tested_at : Begun → CoreTerm → Path → Effect → Effect
tested_at b test path e = with_events e (term_events b e.variables path test)

-- the effect at each of these paths, in order
abbrev pub at_each : (Path → Effect → Effect) → (paths : List Path) → Effect → Effect
at_each run [] e = e
at_each run (path ∷ paths) e = at_each run paths (run path e)

-- of these paths those at which a test comes out so
abbrev pub paths_where : (holds : Bool) → (Path → Bool) → List Path → List Path
paths_where holds test [] = []
paths_where true test (path ∷ paths) = if test path then path ∷ paths_where true test paths else paths_where true test paths
paths_where false test (path ∷ paths) = if test path then paths_where false test paths else path ∷ paths_where false test paths

abbrev pub holds_at : Begun → Variables → CoreTerm → Path → Bool
holds_at b variables test path = operations.is_true (value_of_term b variables path test)

abbrev mutual
  -- A command at these paths, in ascending order. An `if` evaluates its test at every path, then runs the
  -- one arm where it is true, then the other where it is not.
  pub command_run : Begun → (paths : List Path) → CoreCommand → Effect → Effect
  command_run b paths (store r target value) e = at_each (stored_at b r target value) paths e
  command_run b paths (assign depth entity value) e = at_each (assigned_at b depth entity value) paths e
  command_run b paths (keep depth first values) e = at_each (kept_at b depth first values) paths e
  command_run b paths (choose test chosen other) e =
      commands_run b (paths_where false (holds_at b e.variables test) paths) other
      (commands_run b (paths_where true (holds_at b e.variables test) paths) chosen
      (at_each (tested_at b test) paths e))

  -- commands in order, each at all its paths before the next one
  pub commands_run : Begun → (paths : List Path) → CoreCommands → Effect → Effect
  commands_run b paths no_commands e = e
  commands_run b paths (command_and c cs) e = commands_run b paths cs (command_run b paths c e)

-- what a thread does in one step: straight commands, or a test
pub data Block : Type 0 where
  commands : CoreCommands → Block
  tests : CoreTerm → Block

abbrev pub block_run : Begun → (paths : List Path) → Block → Effect → Effect
block_run b paths (commands cs) e = commands_run b paths cs e
block_run b paths (tests t) e = at_each (tested_at b t) paths e

-- Writes.

-- the memories with an element changed
abbrev pub put_element : List (List ℕ) → Spot → ℕ → List (List ℕ)
put_element memories s value = slice_set memories s.memory (slice_set (slice_index_or memories s.memory []) s.position value)

-- the memories after all writes, in the order in which they were made
abbrev pub written : List Event → List (List ℕ) → List (List ℕ)
written [] memories = memories
written (reads number place path s ∷ es) memories = written es memories
written (writes number place path s value ∷ es) memories = written es (put_element memories s value)
written (faults number place path kind ∷ es) memories = written es memories

-- Ports.

abbrev pub is_at : Spot → (memory bank : ℕ) → Bool
is_at s memory bank = (s.memory == memory) && (s.bank == bank)

-- the rows of a bank that were read, in order
abbrev pub rows_read : List Event → (memory bank : ℕ) → List ℕ
rows_read [] memory bank = []
rows_read (reads number place path s ∷ es) memory bank = if is_at s memory bank then s.row ∷ rows_read es memory bank else rows_read es memory bank
rows_read (writes number place path s value ∷ es) memory bank = rows_read es memory bank
rows_read (faults number place path kind ∷ es) memory bank = rows_read es memory bank

-- the number of writes to a bank
abbrev pub writes_made : List Event → (memory bank : ℕ) → ℕ
writes_made [] memory bank = 0
writes_made (reads number place path s ∷ es) memory bank = writes_made es memory bank
writes_made (writes number place path s value ∷ es) memory bank = if is_at s memory bank then suc (writes_made es memory bank) else writes_made es memory bank
writes_made (faults number place path kind ∷ es) memory bank = writes_made es memory bank

-- what a bank has spent: its distinct rows read, and its writes
abbrev pub spent : List Event → (memory bank : ℕ) → ℕ
spent es memory bank = distinct_count nat_eq (rows_read es memory bank) + writes_made es memory bank

-- these events have a bank spend more than its ports
abbrev pub spends_beyond : List MemEntry → List Event → Spot → Bool
spends_beyond table es s = nat_lt (ports_at table s.memory) (spent es s.memory s.bank)

-- the first fault, or access with which a bank has spent more than its ports, of what follows
-- these events of the step
abbrev pub stop_after : List MemEntry → (before rest : List Event) → Option Outcome
stop_after table before [] = None
stop_after table before (reads number place path s ∷ es) =
    if spends_beyond table (before ++ reads number place path s ∷ []) s then Some (Stuck s.memory s.bank place) else stop_after table (before ++ reads number place path s ∷ []) es
stop_after table before (writes number place path s value ∷ es) =
    if spends_beyond table (before ++ writes number place path s value ∷ []) s then Some (Stuck s.memory s.bank place)
    else stop_after table (before ++ writes number place path s value ∷ []) es
stop_after table before (faults number place path kind ∷ es) = Some (Faulted kind place)

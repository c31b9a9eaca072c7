-- What accesses charge. Copies of a read that have one key are one read of the port: a read depends on the loop
-- of each unrolled iterator in its indices, and on all loops round the declaration of each other variable
-- there; its key is the list of its copy numbers in these loops. The key of a write is its whole path. The
-- charge of an access on a bank is the number of its distinct keys that reach the bank; a shared read
-- charges nothing. (Ports are the affine resources of Nigam and others, PLDI 2020; keys, sharing and
-- charges are this project's.)
use Rattle.std.specs.Prelude.{ℕ, zero, suc, ◌+◌, ◌-◌, ◌==◌, ◌&&◌, ◌||◌, not, nat_lt, Bool, true, false, if◌then◌else◌, List, [], ◌∷◌, ◌++◌, length, map, take, slice_get, slice_index_or, Option, Some, None, option_map, ℤ, pos, ◌+ℤ◌, unsigned_abs}
use Rattle.std.specs.Option.{is_some}
use Rattle.std.specs.List.{filter}
use Rattle.std.specs.Set.{distinct_count, unique_keys}
use Rattle.dh_value.specs.declared.kinds.Kind.{Kind}
use Rattle.dh_tree.specs.declared.tables.Dim.{Dim}
use Rattle.dh_tree.specs.declared.trees.counters.Counter.{Counter}
use Rattle.dh_viewing.specs.Carried.{carried_by}
use Rattle.dh_viewing.specs.ReachedBanks.{can_reach}
use Rattle.dh_meaning.specs.Ways.{WayStep, Way, all_bindings_of, way_to}
use Rattle.dh_meaning.specs.Bindings.{Binding, binding_in}
use Rattle.dh_meaning.specs.Paths.{Path, same_path, paths_in}
use Rattle.dh_tree.specs.Counters.{counters_of}
use Rattle.dh_tree.specs.Elements.{bank_of, banks_of}
use Rattle.dh_tree.specs.Indices.{IndexKind, constant, iterator, dynamic, index_kind}
use Rattle.dh_tree.specs.Memories.{Memory, memory_in, memories_of, same_entity}
use Rattle.dh_tree.specs.PlainTrees.{Term, term, TermForm, number, truth_value, named, accessed, in_bank, applied, converted, Terms, no_terms, term_then, Program}
use Rattle.dh_meets.specs.SourceEvents.{Element, with_indices, in_row, SourceAccess, accesses_in, trace}
use Rattle.dh_meets.specs.Sharing.{shared}

-- Keys.

-- a variable depends on the loop of this level, from 0: an iterator on its own loop where that is unrolled,
-- another variable on all loops round its declaration
abbrev pub iterator_depends : (depth level : ℕ) → (factor : ℕ) → Bool
iterator_depends depth level factor = nat_lt 1 factor && (suc level == depth)

abbrev pub variable_depends : (depth level : ℕ) → (iterates : Option ℕ) → Bool
variable_depends depth level None = nat_lt level depth
variable_depends depth level (Some factor) = iterator_depends depth level factor

abbrev pub binding_depends : (level : ℕ) → Option Binding → Bool
binding_depends level None = false
binding_depends level (Some b) = variable_depends b.depth level b.iterates

abbrev pub entity_depends : List Binding → (level : ℕ) → Option ℕ → Bool
entity_depends bs level None = false
entity_depends bs level (Some entity) = binding_depends level (binding_in bs entity)

abbrev mutual
  -- a value depends on what the variables in it depend on, those in the indices of its reads among them
  pub term_depends : List Binding → (level : ℕ) → Term → Bool
  term_depends bs level (term place kind form) = form_depends bs level form

  pub form_depends : List Binding → (level : ℕ) → TermForm → Bool
  form_depends bs level (number negative n) = false
  form_depends bs level (truth_value value) = false
  form_depends bs level (named r) = entity_depends bs level r.entity
  form_depends bs level (accessed r indices) = entity_depends bs level r.entity || terms_depend bs level indices
  form_depends bs level (in_bank r bank bank_place row) = term_depends bs level row
  form_depends bs level (applied op left right) = term_depends bs level left || term_depends bs level right
  form_depends bs level (converted inner to) = term_depends bs level inner

  pub terms_depend : List Binding → (level : ℕ) → Terms → Bool
  terms_depend bs level no_terms = false
  terms_depend bs level (term_then t rest) = term_depends bs level t || terms_depend bs level rest

abbrev pub element_depends : List Binding → (level : ℕ) → Element → Bool
element_depends bs level (with_indices indices) = terms_depend bs level indices
element_depends bs level (in_row bank row) = term_depends bs level row

-- an access depends on a loop: a write on every one, a read through views on those of the commands on its way
abbrev pub depends : List Binding → SourceAccess → (level : ℕ) → Bool
depends bs a level = a.writes || (entity_depends bs level a.entity || element_depends bs level a.element)

-- the copy numbers of a path in the loops that a test picks, counted from a level on
abbrev pub picked : (picks : ℕ → Bool) → (level : ℕ) → Path → List ℕ
picked picks level [] = []
picked picks level (copy ∷ path) = if picks level then copy ∷ picked picks (suc level) path else picked picks (suc level) path

-- the key of an access at a path
abbrev pub key_of : List Binding → SourceAccess → Path → List ℕ
key_of bs a path = picked (depends bs a) 0 path

-- Banks.

-- which of the loops has this iterator, from 0
abbrev pub level_of_loop : List Counter → Option ℕ → ℕ
level_of_loop [] entity = 0
level_of_loop (c ∷ cs) entity = if same_entity c.entity entity then 0 else suc (level_of_loop cs entity)

-- an index in a turn that is the first, as far as its bank goes: only a literal, or an iterator whose copies are
-- a multiple of the banks with a constant, indexes a dimension with more than one bank
abbrev pub index_in : List Counter → Path → IndexKind → ℕ
index_in loops path (constant value) = unsigned_abs value
index_in loops path (iterator c offset) = unsigned_abs (pos (c.low + slice_index_or path (level_of_loop loops c.entity) 0) +ℤ offset)
index_in loops path dynamic = 0

abbrev pub indices_in : List Counter → (loops : List Counter) → Path → Terms → List ℕ
indices_in cs loops path no_terms = []
indices_in cs loops path (term_then (term place kind form) rest) = index_in loops path (index_kind cs kind form) ∷ indices_in cs loops path rest

-- the bank that an access reaches at a path
abbrev pub bank_reached : List Counter → List Dim → SourceAccess → Path → Element → ℕ
bank_reached cs dims a path (with_indices indices) = bank_of dims (indices_in cs a.site.loops path indices)
bank_reached cs dims a path (in_row bank row) = bank

-- it is this bank, of the memory that is there
abbrev pub reaches_in : List Counter → Option Memory → SourceAccess → Path → (bank : ℕ) → Bool
reaches_in cs None a path bank = false
reaches_in cs (Some m) a path bank = bank_reached cs m.shape.dims a path a.element == bank

-- the bank of the view that is named
abbrev pub bank_named : Program → Way → SourceAccess → Path → ℕ
bank_named p w a path = bank_reached (counters_of p) w.is.shape.dims a path a.element

-- a number below n passes a test
abbrev pub any_below : (n : ℕ) → (test : ℕ → Bool) → Bool
any_below zero test = false
any_below (suc n) test = any_below n test || test n

-- through these views an element in a bank of the first may lie in this bank behind the last
abbrev pub may_reach : List WayStep → (bank behind : ℕ) → Bool
may_reach [] bank behind = bank == behind
may_reach (s ∷ ss) bank behind = any_below (banks_of s.is.parent.dims) (λ inner. can_reach s.is bank inner && may_reach ss inner behind)

abbrev pub reaches_by : Program → Option Way → SourceAccess → Path → (memory bank : ℕ) → Bool
reaches_by p None a path memory bank = same_entity a.entity (Some memory) && reaches_in (counters_of p) (memory_in (memories_of p) (Some memory)) a path bank
reaches_by p (Some w) a path memory bank = same_entity w.memory (Some memory) && may_reach w.steps (bank_named p w a path) bank

-- an access may reach at a path this bank of the memory that is this entity
abbrev pub reaches : Program → SourceAccess → Path → (memory bank : ℕ) → Bool
reaches p a path memory bank = reaches_by p (way_to p a.entity) a path memory bank

-- Charges.

abbrev pub loop_factors : List Counter → List ℕ
loop_factors loops = map (λ c. c.factor) loops

-- the paths at which an access is made
abbrev pub paths_of : SourceAccess → List Path
paths_of a = paths_in (loop_factors a.site.loops)

-- the keys with which an access reaches a bank, one for each path
abbrev pub keys_reaching : Program → SourceAccess → (memory bank : ℕ) → List (List ℕ)
keys_reaching p a memory bank = map (key_of (all_bindings_of p) a) (filter (λ path. reaches p a path memory bank) (paths_of a))

-- Through views keys are put in groups of which the offsets of shifts are equal: those of one copy of all loops round
-- the deepest shift. Each group is carried by itself, and what is carried is summed.
abbrev pub groups_of : Way → SourceAccess → List Path
groups_of w a = unique_keys same_path (map (λ path. take w.shifts path) (paths_of a))

-- with how many keys a group reaches a bank of what is named
abbrev pub keys_in_group : Program → Way → SourceAccess → (group : Path) → (bank : ℕ) → ℕ
keys_in_group p w a group bank =
    distinct_count same_path (map (key_of (all_bindings_of p) a) (filter (λ path. same_path (take w.shifts path) group && (bank_named p w a path == bank)) (paths_of a)))

abbrev pub sum_over : List Path → (count : Path → ℕ) → ℕ
sum_over [] count = 0
sum_over (group ∷ groups) count = count group + sum_over groups count

abbrev pub charge_through : Program → Way → SourceAccess → (bank : ℕ) → ℕ
charge_through p w a bank = sum_over (groups_of w a) (λ group. carried_by (map (λ s. s.is) w.steps) (keys_in_group p w a group) bank)

-- the banks of a memory that is there
abbrev pub memory_banks : Option Memory → ℕ
memory_banks None = 0
memory_banks (Some m) = banks_of m.shape.dims

abbrev pub banks_in : Program → (memory : ℕ) → ℕ
banks_in p memory = memory_banks (memory_in (memories_of p) (Some memory))

-- no access charges a bank that its memory lacks
abbrev pub charge_by : Program → Option Way → SourceAccess → (memory bank : ℕ) → ℕ
charge_by p None a memory bank = distinct_count same_path (keys_reaching p a memory bank)
charge_by p (Some w) a memory bank = if same_entity w.memory (Some memory) && nat_lt bank (banks_in p memory) then charge_through p w a bank else 0

abbrev pub charge_of : Program → (memory bank number : ℕ) → Option SourceAccess → ℕ
charge_of p memory bank k None = 0
charge_of p memory bank k (Some a) = if is_some (shared p k) then 0 else charge_by p (way_to p a.entity) a memory bank

-- what the access of this number charges on a bank
abbrev pub charge : Program → (memory bank number : ℕ) → ℕ
charge p memory bank k = charge_of p memory bank k (slice_get (accesses_in (trace p)) k)

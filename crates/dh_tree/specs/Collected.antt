-- What is kept of the memories of a program: their table, and their numbers by entity.
use Rattle.std.specs.Prelude.{◌≡◌, ℕ, ◌*◌, ◌<◌, Bool, IsTrue, List, [], ◌∷◌, ◌++◌, length, map, get_or, Option, Some, None, Result, OnOk, Vec}
use Rattle.std.specs.Global.{Global}
use Rattle.dh_tree.specs.declared.tables.MemEntry.{MemEntry}
use Rattle.dh_tree.specs.declared.trees.commands.LoopHeader.{LoopHeader}
use Rattle.dh_tree.specs.declared.trees.counters.Counter.{Counter}
use Rattle.dh_tree.specs.declared.trees.counters.Loops.{Loops}
use Rattle.dh_tree.specs.declared.trees.memories.Collected.{Collected}
use Rattle.dh_tree.specs.declared.trees.memories.Found.{Found}
use Rattle.dh_tree.specs.declared.trees.programs.Decl.{Decl}
use Rattle.dh_tree.specs.declared.trees.programs.Tree.{Tree}
use Rattle.dh_base.specs.declared.limits.Excess.{Excess}
use Rattle.dh_base.specs.declared.limits.Limit.TheVariants as limit
use Rattle.dh_tree.specs.Counters.{counters, counter_in, AreSingle}
use Rattle.dh_tree.specs.Excesses.{excess_at, copies_excess}
use Rattle.dh_tree.specs.Memories.{Memory, outside_memory, memories_of, number_in, entry_of}
use Rattle.dh_tree.specs.Seen.{declared_seen, action_seen, program_seen}

abbrev pub memory_found : Found → Memory
memory_found f = record { name = f.name.now; shape = f.shape.now; shape_places = f.shape_places.now; outside = f.outside }

abbrev pub found_memories : List Found → List Memory
found_memories fs = map memory_found fs

-- the loop with this header
abbrev pub counter_of_header : LoopHeader → Counter
counter_of_header h = record { entity = h.iterator.entity; low = h.low; high = h.high; factor = h.factor }

-- these memories are found behind those that were found before, where no memory was refused
abbrev pub FindsMemories : {E : Type 0} → Result (Unit {0}) E → (old new : Vec Found Global) → List Memory → Type 0
FindsMemories result old new memories = OnOk result (found_memories new.items ≡ found_memories old.items ++ memories)

-- and so these loops
abbrev pub FindsLoops : {E : Type 0} → Result (Unit {0}) E → (old new : Vec Counter Global) → List Counter → Type 0
FindsLoops result old new loops = OnOk result (new.items ≡ old.items ++ loops)

-- where it is told that copies were few so far and are here, they were, and here is no excess of copies
abbrev pub StaysFew : (old new : Bool) → Option Excess → Type 0
StaysFew old new excess = IsTrue new → IsTrue old × (excess ≡ None)

abbrev pub FindsFew : {E : Type 0} → Result (Unit {0}) E → (old new : Bool) → Option Excess → Type 0
FindsFew result old new excess = OnOk result (StaysFew old new excess)

-- so many copies are inside a loop of this factor round which there are so many, where it is told that they are few
abbrev pub GoesInside : (round factor : ℕ) → (old new : Bool) → (inside : ℕ) → Type 0
GoesInside round factor old new inside = IsTrue new → IsTrue old × ((inside ≡ round * factor) × (excess_at limit.Copies (round * factor) ≡ None))

-- the memories from outside that are declared so
abbrev pub outside_memories : List Decl → List Memory
outside_memories decls = map outside_memory (map declared_seen decls)

-- for each entity what is looked up of it
abbrev pub AreKept : {A : Type 0} → (ℕ → Option A) → List (Option A) → Type 0
AreKept lookup slots = (entity : ℕ) → entity < length slots → get_or slots entity None ≡ lookup entity

-- of each entity the number of the memory that it is
abbrev pub AreNumbersByEntity : List Memory → List (Option ℕ) → Type 0
AreNumbersByEntity ms numbers = AreKept (λ entity. number_in ms (Some entity)) numbers

-- of each entity the loop of which it is the iterator
abbrev pub AreCountersByEntity : List Counter → List (Option Counter) → Type 0
AreCountersByEntity cs slots = AreKept (λ entity. counter_in cs (Some entity)) slots

-- the table of these memories, and the number of the memory that an entity is, of so many entities
pub record HasTable (ms : List Memory) (entities : ℕ) (table : List MemEntry) (numbers : List (Option ℕ)) : Type 0 where
  pub entries : table ≡ map entry_of ms
  pub long : length numbers ≡ entities
  pub numbered : AreNumbersByEntity ms numbers

-- so many numbers, of each entity that of the memory that it is
abbrev pub AreNumbersOf : List Memory → (entities : ℕ) → List (Option ℕ) → Type 0
AreNumbersOf ms entities numbers = (length numbers ≡ entities) × AreNumbersByEntity ms numbers

-- these loops among so many entities: of each entity that of which it is the iterator, where there is a loop; and
-- where it is told, each has one copy of its body at most
abbrev pub AreLoopsAmong : List Counter → (entities : ℕ) → Loops → Type 0
AreLoopsAmong cs entities l =
    ((cs ≡ [] → ⊥) → length l.by_entity.items ≡ entities) × (AreCountersByEntity cs l.by_entity.items × (IsTrue l.single → AreSingle cs))

-- the loops of a tree; and where it is told, no place has more copies than the limit allows
abbrev pub AreLoopsOf : Tree → Loops → Type 0
AreLoopsOf t l =
    AreLoopsAmong (counters (action_seen t.body)) (length t.entities.items) l × (IsTrue l.few → copies_excess 1 (action_seen t.body) ≡ None)

-- where an entity is the next memory behind those that are numbered, and this is its number, it is numbered too
abbrev pub NumbersNext : (entity : Option ℕ) → (number : ℕ) → (old new : List (Option ℕ)) → Type 0
NumbersNext entity number old new =
    (ms : List Memory) (m : Memory) → AreNumbersByEntity ms old → number ≡ length ms → entity ≡ m.name.entity → AreNumbersByEntity (ms ++ m ∷ []) new

-- a loop is noted behind those that are noted
abbrev pub CountsNext : Counter → (old new : List (Option Counter)) → Type 0
CountsNext counter old new = (cs : List Counter) → AreCountersByEntity cs old → AreCountersByEntity (cs ++ counter ∷ []) new

-- the memories of a tree are collected
abbrev pub IsCollected : Tree → Collected → Type 0
IsCollected t c = HasTable (memories_of (program_seen t)) (length t.entities.items) c.table c.numbers.items

-- What each access of a plan charges on each bank, in tables: its memory, where an operation uses it, and the count of
-- ports of each bank.
use Rattle.std.specs.Prelude.{◌≡◌, ◌⊎◌, ℕ, ◌+◌, ◌*◌, ◌<◌, ◌≤◌, ◌==◌, max, if◌then◌else◌, List, [], ◌∷◌, length, slice_get, slice_index, Option, Some, None}
use Rattle.std.specs.List.{AllByRecursion}
use Rattle.dh_plan.specs.declared.operations.Operation.{Operation}
use Rattle.dh_plan.specs.declared.operations.PlanBlock.{PlanBlock}
use Rattle.dh_plan.specs.declared.operations.Reach.{Reach}
use Rattle.dh_plan.specs.PlainPlans.{PlainPlan}
use Rattle.dh_plan.specs.SoundPlans.{use_in, HasUse, place_charge, plan_charge}
use Rattle.dh_bind.specs.Drafts.{all_operations, operations_rows, operations_width, cell_of, flattened}

pub record Costs : Type 0 where
  -- how wide a row of counts is
  pub wide : ℕ
  pub memories : List (Option ℕ)
  pub counts : List ℕ

abbrev pub memory_of_access : List (Option ℕ) → (access : ℕ) → Option ℕ
memory_of_access memories access = flattened (slice_get memories access)

abbrev pub cost_on : Option ℕ → (memory count : ℕ) → ℕ
cost_on None memory count = 0
cost_on (Some m) memory count = if m == memory then count else 0

-- what an access charges on a bank of a memory
abbrev pub cost : Costs → (memory bank access : ℕ) → ℕ
cost c memory bank access = cost_on (memory_of_access c.memories access) memory (slice_index c.counts (cell_of c.wide access bank))

-- the tables are those of a plan
pub record AreCosts (plan : PlainPlan) (c : Costs) : Type 0 where
  pub memories : (b i : ℕ) (r : Reach) → HasUse plan b i r → memory_of_access c.memories r.access ≡ Some r.memory
  pub wide : c.wide ≡ operations_width (all_operations plan.blocks)
  pub charges : (memory bank access : ℕ) → bank < c.wide → cost c memory bank access ≡ plan_charge plan memory bank access
  pub inside : (access memory : ℕ) → memory_of_access c.memories access ≡ Some memory → memory < length plan.table
  pub rows : length c.memories ≡ operations_rows (all_operations plan.blocks)
  pub cells : length c.counts ≡ length c.memories * c.wide

-- How the tables come about.

-- the charge of operations of an access, whatever their memory
abbrev pub raw_use : (access bank : ℕ) → Option Reach → ℕ
raw_use access bank None = 0
raw_use access bank (Some r) = if r.access == access then place_charge bank r.banks else 0

abbrev pub raw_charge : (access bank : ℕ) → List Operation → ℕ
raw_charge access bank [] = 0
raw_charge access bank (o ∷ os) = max (raw_use access bank (use_in o.form)) (raw_charge access bank os)

-- the memory of the last of them, or the one before
abbrev pub use_memory : (access : ℕ) → Option Reach → Option ℕ → Option ℕ
use_memory access None before = before
use_memory access (Some r) before = if r.access == access then Some r.memory else before

abbrev pub last_memory : (access : ℕ) → List Operation → Option ℕ → Option ℕ
last_memory access [] before = before
last_memory access (o ∷ os) before = last_memory access os (use_memory access (use_in o.form) before)

-- these operations were noted, in rows so wide
pub record Noted (wide : ℕ) (os : List Operation) (old new : Costs) : Type 0 where
  pub memories : (access : ℕ) → access < length old.memories → memory_of_access new.memories access ≡ last_memory access os (memory_of_access old.memories access)
  pub counts : (access bank : ℕ) → access < length old.memories → bank < wide
      → slice_index new.counts (cell_of wide access bank) ≡ max (slice_index old.counts (cell_of wide access bank)) (raw_charge access bank os)
  pub rows : length new.memories ≡ length old.memories
  pub cells : length new.counts ≡ length old.counts

abbrev pub costs_in : (wide : ℕ) → (memories : List (Option ℕ)) → (counts : List ℕ) → Costs
costs_in wide memories counts = record { wide = wide; memories = memories; counts = counts }

-- the same of the parts of tables, before and after, and of the operations of blocks
abbrev pub NotesIn : (wide : ℕ) → List Operation → List (Option ℕ) → List ℕ → List (Option ℕ) → List ℕ → Type 0
NotesIn wide os memories counts then_memories then_counts = Noted wide os (costs_in wide memories counts) (costs_in wide then_memories then_counts)

abbrev pub NotesBlocks : (wide : ℕ) → List PlanBlock → List (Option ℕ) → List ℕ → List (Option ℕ) → List ℕ → Type 0
NotesBlocks wide bs memories counts then_memories then_counts = NotesIn wide (all_operations bs) memories counts then_memories then_counts

-- a bank that is listed has a place in a row, and its place is no port beyond the greatest
abbrev pub FitsListed : (wide : ℕ) → ℕ × ℕ → Type 0
FitsListed wide b = (b.0 < wide) × (b.1 < 8)

pub record FitsRows (rows wide : ℕ) (r : Reach) : Type 0 where
  pub access : r.access < rows
  pub banks : AllByRecursion (FitsListed wide) r.banks

-- the counts of a row are at least those of these banks
pub record Raised (row wide : ℕ) (banks : List (ℕ × ℕ)) (old new : List ℕ) : Type 0 where
  pub own : (bank : ℕ) → bank < wide → slice_index new (row + bank) ≡ max (slice_index old (row + bank)) (place_charge bank banks)
  pub other : (cell : ℕ) → (cell < row) ⊎ (row + wide ≤ cell) → slice_index new cell ≡ slice_index old cell
  pub cells : length new ≡ length old

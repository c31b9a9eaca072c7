-- What is made of a program grows: operations, starts of blocks and registers are only added. Between two blocks no
-- variable is given a value, all accesses with operations are laid, each with a fault of its own, and none is counted.
use Rattle.std.specs.Prelude.{◌≡◌, ◌⊎◌, ℕ, suc, ◌+◌, ◌≤◌, ◌^◌, List, [], length, slice_get, slice_index_or, Some, None}
use Rattle.dh_base.specs.declared.outcomes.FaultKind.{FaultKind}
use Rattle.dh_base.specs.declared.places.Place.{Place}
use Rattle.dh_value.specs.declared.kinds.Kind.{Kind}
use Rattle.dh_value.specs.declared.kinds.Kind.TheVariants as kind
use Rattle.dh_plan.specs.declared.operations.Operation.{Operation}
use Rattle.dh_expressions.specs.Copying.{AreNone}
use Rattle.dh_expressions.specs.Drafted.{Extends}
use Rattle.dh_commands.specs.declared.assignments.Values.{Values}
use Rattle.dh_commands.specs.declared.buildings.Building.{Building}
use Rattle.dh_commands.specs.Undone.{AreReady, given_at}
use Rattle.dh_laid.specs.LaidAccesses.{AreLaid, AreNamed, touched_count}
use Rattle.dh_laid.specs.LaidFaults.{HaveOwnFaults}
use Rattle.dh_gathering.specs.declared.blocks.Made.{Made}

-- no variable is given a value
pub record IsClear (v : Values) : Type 0 where
  pub ready : AreReady v
  pub log : v.log.items ≡ []
  pub none : (register : ℕ) → given_at v.current.items register ≡ None

-- the place in the list of operations where a block begins: behind all where it is not there yet
abbrev pub place_among : List Operation → (starts : List ℕ) → (block : ℕ) → ℕ
place_among operations starts block = slice_index_or starts block (length operations)

abbrev pub block_place_in : Made → (block : ℕ) → ℕ
block_place_in m block = place_among m.building.draft.operations.items m.starts.items block

-- how many registers variables have
abbrev pub registers_given : Made → ℕ
registers_given m = length m.building.values.current.items

-- all accesses with operations are laid, where the faults so far are those of a short list
abbrev pub AreAllLaid : Building → Type 0
AreAllLaid b = (named : List (FaultKind × Place)) → AreNamed named b.draft → length named ≤ 2 ^ 32 → AreLaid named b.accesses

-- each access with operations has a fault of its own, where faults are few
abbrev pub AreOwned : Building → Type 0
AreOwned b = length b.draft.faults ≤ 2 ^ 32 → HaveOwnFaults b.draft b.accesses

-- there are as many accesses as before, and no more faults were named than accesses got operations
abbrev pub NamesFew : (old new : Building) → Type 0
NamesFew old new =
    (length new.accesses.touched.items ≡ length old.accesses.touched.items)
    × (length new.draft.faults + touched_count old.accesses.touched.items ≤ length old.draft.faults + touched_count new.accesses.touched.items)

-- what is made at the end of a block, or at the begin
pub record IsAtRest (m : Made) : Type 0 where
  pub clear : IsClear m.building.values
  pub laid : AreAllLaid m.building
  pub owned : AreOwned m.building
  pub counts : AreNone m.building.accesses.counts.items
  pub first : block_place_in m 0 ≡ 0
  pub rising : (block : ℕ) → block_place_in m block ≤ block_place_in m (suc block)
  pub variables : registers_given m ≤ length m.registers

-- more behind what was made
pub record MadeBlocksGrow (old new : Made) : Type 0 where
  pub draft : Extends old.building.draft new.building.draft
  pub starts : length old.starts.items ≤ length new.starts.items
  -- a block that was begun or is to be begun next begins where it did
  pub places : (block : ℕ) → block ≤ length old.starts.items → block_place_in new block ≡ block_place_in old block
  pub registers : (register : ℕ) (k : Kind) → slice_get old.registers register ≡ Some k → slice_get new.registers register ≡ Some k
  -- those that are added are flags
  pub flags : (register : ℕ) (k : Kind) → slice_get new.registers register ≡ Some k → (slice_get old.registers register ≡ Some k) ⊎ (k ≡ kind.Bool)
  pub variables : registers_given new ≡ registers_given old
  pub few : NamesFew old.building new.building

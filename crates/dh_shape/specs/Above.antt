-- The limits on memories, told over their table, with those on copies among them.
use Rattle.std.specs.Prelude.{◌≡◌, ℕ, List, [], ◌∷◌, length, Option, Some, None, Result, Ok, Err, Vec}
use Rattle.std.specs.Global.{Global, Box}
use Rattle.dh_base.specs.declared.limits.Excess.{Excess}
use Rattle.dh_base.specs.declared.limits.Limit.TheVariants as limit
use Rattle.dh_tree.specs.declared.tables.MemEntry.{MemEntry}
use Rattle.dh_tree.specs.declared.tables.Shape.{Shape}
use Rattle.dh_tree.specs.Elements.{banks_of}
use Rattle.dh_tree.specs.Excesses.{excess_at, or_else, copies_excess, other_copies_excess, groups_copies_excess}
use Rattle.dh_tree.specs.Seen.{action_seen, all_parts_seen, maybe_block_seen}
use Rattle.dh_tree.specs.declared.trees.commands.Command.{Command}
use Rattle.dh_tree.specs.Tables.{elements_in}
use Rattle.dh_shape.specs.declared.limits.Measure.{Measure}
use Rattle.dh_shape.specs.declared.limits.Measure.TheVariants as measure

-- there is no excess, or this one is the first
abbrev pub TellsExcess : {A : Type 0} → Option Excess → Result A Excess → Type 0
TellsExcess None (Ok a) = Unit {0}
TellsExcess None (Err e) = ⊥
TellsExcess (Some first) (Ok a) = ⊥
TellsExcess (Some first) (Err e) = e ≡ first

-- what is counted of a memory, where it is above its limit
abbrev pub excess_in : Measure → Shape → Option Excess
excess_in measure.Dimensions s = excess_at limit.Dimensions (length s.dims)
excess_in measure.Banks s = excess_at limit.Banks (banks_of s.dims)
excess_in measure.Ports s = excess_at limit.Ports s.ports

-- the first entry of which that is above its limit
abbrev pub first_excess_in : Measure → List MemEntry → Option Excess
first_excess_in m [] = None
first_excess_in m (e ∷ es) = or_else (excess_in m e.shape) (first_excess_in m es)

-- the first excess of a table: of dimensions, of banks over all dimensions, of ports, that of copies, where
-- there is one, then of the elements of all entries
abbrev pub excess_of : (copies : Option Excess) → List MemEntry → Option Excess
excess_of copies es =
    or_else (first_excess_in measure.Dimensions es)
    (or_else (first_excess_in measure.Banks es)
    (or_else (first_excess_in measure.Ports es)
    (or_else copies (excess_at limit.Elements (elements_in es)))))

-- the first excess of copies in a command, in a block that may lack, and in the parts of a block, round each of
-- which there are so many
abbrev pub copies_in_command : (round : ℕ) → Command → Option Excess
copies_in_command round c = copies_excess round (action_seen c)

abbrev pub copies_in_other : (round : ℕ) → Option (Box Command) → Option Excess
copies_in_other round block = other_copies_excess round (maybe_block_seen block)

abbrev pub copies_in_parts : (round : ℕ) → List (Vec Command Global) → Option Excess
copies_in_parts round parts = groups_copies_excess round (all_parts_seen parts)

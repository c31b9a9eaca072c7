-- Laws of carried charges: what an access reaches is within what it charges, and it charges no other bank.
use Rattle.std.specs.Prelude.{◌≡◌, ◌<◌, ◌≤◌, ◌+◌, ℕ, ℤ, List, Some, length, true}
use Rattle.dh_tree.specs.declared.tables.Dim.{Dim}
use Rattle.dh_tree.specs.declared.viewing.ViewMap.{ViewMap}
use Rattle.dh_tree.specs.Elements.{banks_of}
use Rattle.dh_tree.specs.PlainTrees.{Program}
use Rattle.dh_tree.specs.ViewElements.{is_inside}
use Rattle.dh_viewing.specs.Carried.{AllLead, Copy, HasShift, carried_by, keys_at}
use Rattle.dh_viewing.specs.ReachedBanks.{bank_at}
use Rattle.dh_meaning.specs.Effects.{indices_through}
use Rattle.dh_meaning.specs.Paths.{Path}
use Rattle.dh_meaning.specs.Ways.{WayStep, Way}
use Rattle.dh_meets.specs.Charges.{bank_named, charge_through, may_reach}
use Rattle.dh_meets.specs.SourceEvents.{SourceAccess}
use Rattle.dh_ways.specs.Leading.{StepsLead, next_dims}
use Rattle.dh_carried.specs.MadeCopies.{AreCopiesOf, MadeCopy, copies_of_made, views_on}
use Rattle.dh_carried.specs.ReachedThrough.{MayReachAt}

-- no more distinct keys lie in a bank behind views than are carried there
abbrev pub ChargesCoverWhatIsReached : Type 0
ChargesCoverWhatIsReached =
    (vs : List ViewMap) (cs : List Copy) (level : ℕ) → AllLead vs cs level → (bank : ℕ) → keys_at cs (level + length vs) bank ≤ carried_by vs (keys_at cs level) bank

-- behind a shift all banks are charged alike
abbrev pub ShiftsChargeEvenly : Type 0
ShiftsChargeEvenly = (vs : List ViewMap) (charge : ℕ → ℕ) (bank other : ℕ) → HasShift vs → carried_by vs charge bank ≡ carried_by vs charge other

-- the bank of an element that indices lead to may be reached from theirs
abbrev pub WaysReachWhatTheyMay : Type 0
WaysReachWhatTheyMay =
    (ss : List WayStep) (dims : List Dim) (indices offsets last : List ℤ) → StepsLead ss dims → indices_through ss indices offsets ≡ Some last → is_inside dims last ≡ true
    → may_reach ss (bank_at (next_dims ss dims) indices) (bank_at dims last) ≡ true

-- of copies of one access through views, no more distinct keys lie in a bank of the memory than the access charges there
abbrev pub GroupsCoverWhatIsReached : Type 0
GroupsCoverWhatIsReached =
    (p : Program) (w : Way) (a : SourceAccess) (cs : List MadeCopy) → AreCopiesOf p w a cs → (bank : ℕ) → keys_at (copies_of_made cs) (length (views_on w)) bank ≤ charge_through p w a bank

-- a bank that an access charges may be reached by it at some path
abbrev pub ChargedBanksAreReached : Type 0
ChargedBanksAreReached =
    (p : Program) (w : Way) (a : SourceAccess) (dims : List Dim) (bank : ℕ) → StepsLead w.steps dims → bank < banks_of dims → 1 ≤ charge_through p w a bank → MayReachAt p w a bank

-- and the other way round, where the banks of the named view that it tells are there
abbrev pub ReachedBanksAreCharged : Type 0
ReachedBanksAreCharged =
    (p : Program) (w : Way) (a : SourceAccess) (dims : List Dim) (bank : ℕ) → StepsLead w.steps dims → ((path : Path) → bank_named p w a path < banks_of (next_dims w.steps dims))
    → MayReachAt p w a bank → 1 ≤ charge_through p w a bank

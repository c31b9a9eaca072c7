-- What is kept while accesses are counted.
use Rattle.std.specs.Prelude.{◌≡◌, ℕ, length}
use Rattle.dh_tree.specs.PlainTrees.{Program}
use Rattle.dh_meets.specs.Charges.{charge_through}
use Rattle.dh_ways.specs.Kept.{KeptWay}
use Rattle.dh_ways.specs.Seen.{way_seen}
use Rattle.dh_ports.specs.declared.carrying.Carrier.{Carrier}
use Rattle.dh_ports.specs.declared.copies.Copied.{Copied}
use Rattle.dh_ports.specs.declared.copies.PathReach.{PathReach}
use Rattle.dh_ports.specs.declared.keeping.BankKeyCounts.{BankKeyCounts}
use Rattle.dh_ports.specs.declared.keeping.Sums.{Sums}
use Rattle.dh_ports.specs.declared.keeping.KeyTally.{KeyTally}
use Rattle.dh_ports.specs.Banks.{each_below}
use Rattle.dh_ports.specs.Carriers.{AreGroupSums}
use Rattle.dh_ports.specs.Claims.{keys_on}
use Rattle.dh_ports.specs.Copies.{source_copied, AreKeyCounts, IsPast}

-- two accesses reach the same banks with the same keys at the paths of the same numbers
pub record ReachAlike (one other : PathReach) : Type 0 where
  pub own : one.own ≡ other.own
  pub levels : one.paths.levels.items ≡ other.paths.levels.items
  pub lanes : one.lanes.items ≡ other.lanes.items

-- charges are carried the same way
pub record CarryAlike (one other : Carrier) : Type 0 where
  pub banks : one.banks ≡ other.banks
  pub evenly : one.evenly ≡ other.evenly
  pub sources : one.sources.items ≡ other.sources.items

-- counts that are kept are those of what is kept with them
abbrev pub AreCountsKept : BankKeyCounts → Type 0
AreCountsKept c = AreKeyCounts c.reach 0 c.many c.banks c.counts.items

-- and that is so many paths that reach so, on so many banks
pub record AreCountsOf (c : BankKeyCounts) (reach : PathReach) (many banks : ℕ) : Type 0 where
  pub same_many : c.many ≡ many
  pub same_banks : c.banks ≡ banks
  pub reaches : ReachAlike c.reach reach

-- sums that are kept are those of what is kept with them
abbrev pub AreSums : Sums → Type 0
AreSums s = AreGroupSums s.reach s.carrier s.stride s.groups s.sums.items

-- and that is so many groups of so many paths that reach so, carried so
pub record AreSumsOf (s : Sums) (reach : PathReach) (carrier : Carrier) (stride groups : ℕ) : Type 0 where
  pub same_stride : s.stride ≡ stride
  pub same_groups : s.groups ≡ groups
  pub reaches : ReachAlike s.reach reach
  pub carries : CarryAlike s.carrier carrier

pub record IsReadyTally (tally : KeyTally) : Type 0 where
  pub past : IsPast tally.seen
  pub direct : AreCountsKept tally.direct
  pub kept : AreSums tally.last

-- with how many keys the copies of an access reach each bank of what it names
abbrev pub KeepsKeys : Program → Copied → KeyTally → Type 0
KeepsKeys p c tally = tally.direct.counts.items ≡ each_below (keys_on p c.dims.now (source_copied c)) c.banks

-- how much they charge each bank of the memory, through the views on a way
abbrev pub KeepsCharges : Program → KeptWay → Copied → Carrier → KeyTally → Type 0
KeepsCharges p w c carrier tally = tally.last.sums.items ≡ each_below (charge_through p (way_seen w) (source_copied c)) (length carrier.sources.items)

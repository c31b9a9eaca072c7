-- Where a walk of the tree of accesses stands, and what it leaves behind a part of the tree.
use Rattle.std.specs.Prelude.{◌≡◌, ℕ, ◌+◌, ◌*◌, ◌<◌, ◌≤◌, max, List, [], ◌∷◌, ◌++◌, length, take, drop, slice_get, slice_set, slice_index, slice_index_or, nat_lt, if◌then◌else◌, Option, Some, Result, Ok, Err}
use Rattle.dh_ledger.specs.Spending.{Spending}
use Rattle.dh_tree.specs.Meets.{Meets, In, Distinct, load}
use Rattle.dh_plan.specs.SeenPlans.{plan_seen}
use Rattle.dh_bind.specs.declared.ledgers.LedgerMark.{LedgerMark}
use Rattle.dh_bind.specs.declared.walker.WalkStop.{WalkStop}
use Rattle.dh_bind.specs.declared.walker.WalkStop.TheVariants as stop
use Rattle.dh_bind.specs.Begins.{begin}
use Rattle.dh_tree.specs.Elements.{ports_at}
use Rattle.dh_plan.specs.declared.plans.Plan.{Plan}
use Rattle.dh_plan.specs.declared.operations.Reach.{Reach}
use Rattle.dh_plan.specs.BoundPorts.{port_among}
use Rattle.dh_plan.specs.PlainPlans.{PlainPlan, first_in, operation_count}
use Rattle.dh_plan.specs.SoundPlans.{HasUse, IsListed, plan_charge}
use Rattle.dh_bind.specs.Costs.{Costs, AreCosts, cost, memory_of_access}
use Rattle.dh_bind.specs.Drafts.{Draft, first_at, draft_access_count, draft_width, cell_of}
use Rattle.dh_bind.specs.Ledgers.{Alike, SpentMore, AreMarks, spent_at, ports_in, ledger_banks, ends_now, undone_ledgers, state_or, top}

pub record Standing : Type 0 where
  pub costs : Costs
  pub ledgers : List Spending
  pub log : List LedgerMark
  pub draft : Draft

-- what always holds of it
pub record IsStanding (s : Standing) : Type 0 where
  pub wide : s.costs.wide ≡ draft_width s.draft
  pub few : s.costs.wide ≤ 64
  pub cells : length s.costs.counts ≡ length s.costs.memories * s.costs.wide
  pub rows : length s.costs.memories ≡ draft_access_count s.draft
  pub firsts : length s.draft.firsts ≡ length s.costs.memories * s.costs.wide
  pub inside : (access memory : ℕ) → memory_of_access s.costs.memories access ≡ Some memory → memory < length s.ledgers
  pub banks : (memory : ℕ) → memory < length s.ledgers → ledger_banks s.ledgers memory ≡ 64
  pub marks : AreMarks s.ledgers s.log

-- all but the log, the ledgers and the first ports is the same
pub record KeepsCostsAndPlan (old new : Standing) : Type 0 where
  pub costs : new.costs ≡ old.costs
  pub plan : new.draft.plan ≡ old.draft.plan
  pub alike : Alike old.ledgers new.ledgers

-- where a memory's ledger stands, as a mark
abbrev pub mark_of : List Spending → (memory : ℕ) → LedgerMark
mark_of ledgers memory = record { memory = memory; state = state_or (slice_get ledgers memory) (record { ports = 0; spent = [] }) }

-- it is logged
abbrev pub log_marked : Standing → (memory : ℕ) → Standing
log_marked s memory = record { costs = s.costs; ledgers = s.ledgers; log = s.log ++ mark_of s.ledgers memory ∷ []; draft = s.draft }

-- One bank.

abbrev pub count_at : Standing → (access bank : ℕ) → ℕ
count_at s access bank = slice_index s.costs.counts (cell_of s.costs.wide access bank)

pub record BankCharged (wide access memory bank : ℕ) (old new : Standing) : Type 0 where
  pub keeps : KeepsCostsAndPlan old new
  pub log : new.log ≡ old.log
  pub spent : SpentMore old.ledgers new.ledgers memory bank (count_at old access bank)
  pub others : (a b : ℕ) → b < wide → ((a ≡ access) × (b ≡ bank) → ⊥) → first_at wide new.draft.firsts a b ≡ first_at wide old.draft.firsts a b
  pub own : 0 < count_at old access bank → first_at wide new.draft.firsts access bank ≡ Some (spent_at old.ledgers memory bank)

abbrev pub ChargesBank : (access memory bank : ℕ) → (old new : Standing) → Result (Unit {0}) WalkStop → Type 0
ChargesBank access memory bank old new (Ok done) = BankCharged old.costs.wide access memory bank old new
ChargesBank access memory bank old new (Err stop.NoMemory) = Unit {0}
ChargesBank access memory bank old new (Err stop.Full) = ports_in old.ledgers memory < spent_at old.ledgers memory bank + count_at old access bank

-- the banks before this one, of an access of this memory
pub record RowCharged (access memory upto : ℕ) (old new : Standing) : Type 0 where
  pub keeps : KeepsCostsAndPlan old new
  pub log : new.log ≡ old.log
  pub spent : (m b : ℕ) → b < old.costs.wide → spent_at new.ledgers m b ≡ spent_at old.ledgers m b + (if nat_lt b upto then cost old.costs m b access else 0)
  pub back : (s : Spending) → slice_set new.ledgers memory s ≡ slice_set old.ledgers memory s
  pub others : (a b : ℕ) → b < old.costs.wide → (a ≡ access → ⊥) → first_at old.costs.wide new.draft.firsts a b ≡ first_at old.costs.wide old.draft.firsts a b
  pub own : (b : ℕ) → b < upto → 0 < count_at old access b → first_at old.costs.wide new.draft.firsts access b ≡ Some (spent_at old.ledgers memory b)

-- a bank has too few ports left for the access
pub record FullAt (access memory : ℕ) (old : Standing) : Type 0 where
  pub bank : ℕ
  pub few : bank < old.costs.wide
  pub beyond : ports_in old.ledgers memory < spent_at old.ledgers memory bank + count_at old access bank

abbrev pub ChargesRow : (access memory : ℕ) → (old new : Standing) → Result (Unit {0}) WalkStop → Type 0
ChargesRow access memory old new (Ok done) = RowCharged access memory old.costs.wide old new
ChargesRow access memory old new (Err stop.NoMemory) = Unit {0}
ChargesRow access memory old new (Err stop.Full) = FullAt access memory old

-- A part of the tree.

-- the first ports that accesses of a part were granted, which began with these ledgers
pub record GrantedIn (c : Costs) (ledgers : List Spending) (t : Meets) (old new : List (Option ℕ)) : Type 0 where
  pub others : (a b : ℕ) → b < c.wide → (In a t → ⊥) → first_at c.wide new a b ≡ first_at c.wide old a b
  pub own : Distinct t → (a b m : ℕ) → b < c.wide → In a t → memory_of_access c.memories a ≡ Some m → 0 < cost c m b a
      → first_at c.wide new a b ≡ Some (spent_at ledgers m b + begin (cost c m b) a t)

pub record MeetsWalked (c : Costs) (t : Meets) (old new : Standing) : Type 0 where
  pub keeps : KeepsCostsAndPlan old new
  -- each bank is loaded with the part's load
  pub spent : (m b : ℕ) → b < c.wide → spent_at new.ledgers m b ≡ spent_at old.ledgers m b + load (cost c m b) t
  -- the log says how to come back
  pub more : List LedgerMark
  pub log : new.log ≡ old.log ++ more
  pub back : undone_ledgers more new.ledgers ≡ old.ledgers
  pub granted : GrantedIn c old.ledgers t old.draft.firsts new.draft.firsts

-- a bank is loaded beyond its ports
pub record Overdrawn (c : Costs) (t : Meets) (old : Standing) : Type 0 where
  pub memory : ℕ
  pub bank : ℕ
  pub few : bank < c.wide
  pub beyond : ports_in old.ledgers memory < spent_at old.ledgers memory bank + load (cost c memory bank) t

abbrev pub WalksMeets : Meets → (old new : Standing) → Result (Unit {0}) WalkStop → Type 0
WalksMeets t old new (Ok done) = MeetsWalked old.costs t old new
WalksMeets t old new (Err stop.NoMemory) = Unit {0}
WalksMeets t old new (Err stop.Full) = Overdrawn old.costs t old

-- what is still to be walked of an `all`, and that it leads to the whole
pub record InAll (whole rest : Meets) (start now : Standing) : Type 0 where
  pub keeps : KeepsCostsAndPlan start now
  pub so : (end : Standing) → MeetsWalked start.costs rest now end → MeetsWalked start.costs whole start end
  pub loads : (m b : ℕ) → b < start.costs.wide → spent_at now.ledgers m b + load (cost start.costs m b) rest ≡ spent_at start.ledgers m b + load (cost start.costs m b) whole

-- Parts of which no two meet.

-- the changes of a part are taken back, and marks noted of where it ended
pub record TakenBack (begun : ℕ) (old new : Standing) (ends then_ends : List LedgerMark) : Type 0 where
  pub costs : new.costs ≡ old.costs
  pub draft : new.draft ≡ old.draft
  pub log : new.log ≡ take begun old.log
  pub ledgers : new.ledgers ≡ undone_ledgers (drop begun old.log) old.ledgers
  pub marks : AreMarks old.ledgers (drop begun old.log)
  pub noted : then_ends ≡ ends ++ ends_now old.ledgers (drop begun old.log)

-- what is still to be walked of a `one`, and that it leads to the whole
pub record InOne (whole rest : Meets) (start now : Standing) (ends : List LedgerMark) : Type 0 where
  pub costs : now.costs ≡ start.costs
  pub plan : now.draft.plan ≡ start.draft.plan
  pub ledgers : now.ledgers ≡ start.ledgers
  pub log : now.log ≡ start.log
  pub marks : AreMarks start.ledgers ends
  pub tops : (m b : ℕ) → b < start.costs.wide
      → max (max (spent_at start.ledgers m b) (top ends m b)) (spent_at start.ledgers m b + load (cost start.costs m b) rest) ≡ spent_at start.ledgers m b + load (cost start.costs m b) whole
  pub loads : (m b : ℕ) → load (cost start.costs m b) rest ≤ load (cost start.costs m b) whole
  pub so : (firsts : List (Option ℕ)) → GrantedIn start.costs start.ledgers rest now.draft.firsts firsts → GrantedIn start.costs start.ledgers whole start.draft.firsts firsts

-- Of a whole plan.

-- nothing is spent yet
pub record IsBegun (plan : Plan) (s : Standing) : Type 0 where
  pub costs : AreCosts (plan_seen plan) s.costs
  pub plan_is : s.draft.plan ≡ plan
  pub spent : (memory bank : ℕ) → spent_at s.ledgers memory bank ≡ 0
  pub ports : (memory : ℕ) → ports_in s.ledgers memory ≡ ports_at plan.table memory

-- ports of operations, in order, are those of their accesses, each from the one on where its access begins
pub record PortsArePlaced (plan : PlainPlan) (ports : List (List (ℕ × ℕ))) : Type 0 where
  pub long : length ports ≡ operation_count plan
  pub placed : (b i : ℕ) (r : Reach) (bank place : ℕ) → HasUse plan b i r → IsListed bank place r.banks
      → port_among bank (slice_index_or ports (first_in plan b + i) []) ≡ Some (begin (plan_charge plan r.memory bank) r.access plan.meets + place)

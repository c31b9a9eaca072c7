-- Whether a program keeps the ports of its memories: the rules `PortsSpent` (K19) and `ReadAfterWrite` (K20).
-- (Ports are the affine resources of Nigam and others, PLDI 2020, spent together by `;` and given back by
-- `---`; which sets and places are told is this project's.)
use Rattle.std.specs.Prelude.{◌≡◌, ℕ, ◌<◌, ◌≤◌, ◌⊎◌, Bool, true, false, Option, Some, None, option_map, slice_get}
use Rattle.dh_base.specs.declared.places.Place.{Place}
use Rattle.dh_base.specs.declared.rules.Rule.TheVariants as rule
use Rattle.dh_tree.specs.declared.breaches.Breach.{Breach}
use Rattle.dh_meaning.specs.Paths.{Path}
use Rattle.dh_tree.specs.LeastBreach.{breach, Precedes}
use Rattle.dh_tree.specs.Meets.{Before, Apart, Together, Completes, total}
use Rattle.dh_tree.specs.Memories.{Memory, memory_in, memories_of}
use Rattle.dh_tree.specs.PlainTrees.{Program}
use Rattle.dh_meets.specs.Charges.{reaches, paths_of, charge}
use Rattle.dh_meets.specs.MayMeet.{meets_in}
use Rattle.dh_meaning.specs.OnePhase.{in_one_phase}
use Rattle.dh_meets.specs.SourceEvents.{SourceAccess, accesses_in, trace}

abbrev pub ports_or_zero : Option Memory → ℕ
ports_or_zero None = 0
ports_or_zero (Some m) = m.shape.ports

-- the ports of each bank of the memory that is this entity
abbrev pub ports_of_entity : Program → ℕ → ℕ
ports_of_entity p memory = ports_or_zero (memory_in (memories_of p) (Some memory))

-- No set of accesses of which any two may meet charges a bank beyond its ports.
abbrev pub KeepsPorts : Program → Type 0
KeepsPorts p = (chosen : ℕ → Bool) → Together (meets_in p) chosen → (memory bank : ℕ) → total (charge p memory bank) chosen (meets_in p) ≤ ports_of_entity p memory

-- a set that is together, and that this access completes, charges a bank beyond its ports
pub record Overspends (p : Program) (number : ℕ) : Type 0 where
  pub memory : ℕ
  pub bank : ℕ
  pub chosen : ℕ → Bool
  pub completes : Completes (meets_in p) number chosen
  pub beyond : ports_of_entity p memory < total (charge p memory bank) chosen (meets_in p)

abbrev pub place_in : Program → ℕ → Option Place
place_in p k = option_map (λ a. a.place) (slice_get (accesses_in (trace p)) k)

-- the place of the first access, in order of evaluation, that completes such a set
pub record PortsSpent (p : Program) (place : Place) : Type 0 where
  pub number : ℕ
  pub stands : place_in p number ≡ Some place
  pub spent : Overspends p number
  pub first : (earlier : ℕ) → Before (meets_in p) earlier number → Overspends p earlier → ⊥

-- an access reaches a bank at some path
abbrev pub CanReach : Program → SourceAccess → (memory bank : ℕ) → Type 0
CanReach p a memory bank = (i : ℕ) × ((path : Path) × ((slice_get (paths_of a) i ≡ Some path) × (reaches p a path memory bank ≡ true)))

-- a read that follows a write in one Straight phase, where the two may meet and reach one bank
pub record ReadsAfterWrite (p : Program) (place : Place) : Type 0 where
  pub write : ℕ
  pub read : ℕ
  pub earlier : SourceAccess
  pub later : SourceAccess
  pub writes : slice_get (accesses_in (trace p)) write ≡ Some earlier
  pub reads : slice_get (accesses_in (trace p)) read ≡ Some later
  pub write_is : earlier.writes ≡ true
  pub read_is : later.writes ≡ false
  pub stands : later.place ≡ place
  pub order : write < read
  pub meet : Apart (meets_in p) write read → ⊥
  pub phase : in_one_phase p write read ≡ true
  pub memory : ℕ
  pub bank : ℕ
  pub written : CanReach p earlier memory bank
  pub read_there : CanReach p later memory bank

-- a breach of the rules on ports: `PortsSpent` (K19) or `ReadAfterWrite` (K20)
abbrev pub IsPortBreach : Program → Breach → Type 0
IsPortBreach p b =
    ((b ≡ breach rule.PortsSpent b.place) × PortsSpent p b.place)
    ⊎ ((b ≡ breach rule.ReadAfterWrite b.place) × ReadsAfterWrite p b.place)

-- it is one of them, and no other stands before it
pub record IsFirstPortBreach (p : Program) (b : Breach) : Type 0 where
  pub breaks : IsPortBreach p b
  pub first : (other : Breach) → IsPortBreach p other → Precedes other b → ⊥

-- no rule on ports is broken
pub record KeepsPortRules (p : Program) : Type 0 where
  pub ports : KeepsPorts p
  pub order : (place : Place) → ReadsAfterWrite p place → ⊥

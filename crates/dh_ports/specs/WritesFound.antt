-- Reads behind writes of one bank, by charges.
use Rattle.std.specs.Prelude.{◌≡◌, ℕ, ◌≤◌, ◌&&◌, Bool, true, false, if◌then◌else◌, Option, Some, None, slice_get}
use Rattle.std.specs.List.{list_any}
use Rattle.dh_base.specs.declared.places.Place.{Place}
use Rattle.dh_tree.specs.PlainTrees.{Program}
use Rattle.dh_tree.specs.Meets.{Meets, Before, Apart, upto}
use Rattle.dh_meaning.specs.OnePhase.{in_one_phase}
use Rattle.dh_meets.specs.Charges.{reaches, paths_of}
use Rattle.dh_meets.specs.MayMeet.{meets_in}
use Rattle.dh_meets.specs.SourceEvents.{SourceAccess, accesses_in, trace}

-- a charged access before this one that may meet it
pub record Meeting (c : ℕ → ℕ) (t : Meets) (k : ℕ) : Type 0 where
  pub number : ℕ
  pub charged : 1 ≤ c number
  pub before : Before t number k
  pub meet : Apart t number k → ⊥

-- an access reaches a bank at some path
abbrev pub access_can_reach : Program → SourceAccess → (memory bank : ℕ) → Bool
access_can_reach p a memory bank = list_any (λ path. reaches p a path memory bank) (paths_of a)

-- what a write of a number charges where it stands in one phase with this read and reaches this bank
abbrev pub write_of : Program → (memory bank read number : ℕ) → Option SourceAccess → ℕ
write_of p memory bank read k None = 0
write_of p memory bank read k (Some e) = if (e.writes && in_one_phase p k read) && access_can_reach p e memory bank then 1 else 0

abbrev pub write_charge : Program → (memory bank read : ℕ) → (number : ℕ) → ℕ
write_charge p memory bank read k = write_of p memory bank read k (slice_get (accesses_in (trace p)) k)

-- a read of a bank that finds such a write
pub record FindsWrite (p : Program) (place : Place) : Type 0 where
  pub read : ℕ
  pub later : SourceAccess
  pub memory : ℕ
  pub bank : ℕ
  pub reads : slice_get (accesses_in (trace p)) read ≡ Some later
  pub read_is : later.writes ≡ false
  pub stands : later.place ≡ place
  pub reached : access_can_reach p later memory bank ≡ true
  pub found : 1 ≤ upto (write_charge p memory bank read) read (meets_in p)

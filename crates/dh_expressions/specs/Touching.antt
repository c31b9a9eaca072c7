-- An access gets its operations: its fault is named, and its copies are made.
use Rattle.std.specs.Prelude.{◌≡◌, ◌⊎◌, ℕ, ◌<◌, ◌^◌, Bool, true, List, [], length, Some}
use Rattle.dh_tree.specs.Indices.{form_of}
use Rattle.dh_tree.specs.PlainTrees.{Term}
use Rattle.dh_expressions.specs.declared.accesses.Accesses.{Accesses}
use Rattle.dh_expressions.specs.declared.accesses.Touched.{Touched}
use Rattle.dh_expressions.specs.declared.copies.AccessAt.{AccessAt}
use Rattle.dh_expressions.specs.declared.drafts.Draft.{Draft}
use Rattle.dh_expressions.specs.declared.scenes.Around.{Around}
use Rattle.dh_expressions.specs.declared.scenes.Scene.{Scene}
use Rattle.dh_expressions.specs.Copying.{AddsAllCopies, AreCopies, AreNone, HasScopes}
use Rattle.dh_expressions.specs.Drafted.{BlockBegun, Extends, FitsStep, AddsRangeFault, BlockStep, tale}
use Rattle.dh_expressions.specs.Noted.{has_no_operations, touched_in}
use Rattle.dh_expressions.specs.Standings.{IsTouched, AccessStanding, copy_places, standing_at}
use Rattle.dh_expressions.specs.Reaching.{place_written}

-- its copies, by where it stands
pub record MakesCopies (old new : Draft) (scene : Scene) (around : Around) (after : List ℕ) (s : AccessStanding) (copies : List AccessAt) : Type 0 where
  pub adds : HasScopes scene → length around.levels.now < 2 ^ 63 → AddsAllCopies s.leader s.bank (copy_places s) s.guards old new copies
  pub extends : Extends old new
  pub quiet : (x : BlockStep) → FitsStep x new → BlockBegun x old → tale x new ≡ tale x old
  pub none : AreNone after
  pub are : HasScopes scene → length around.levels.now < 2 ^ 63 → (x : BlockStep) → FitsStep x new → BlockBegun x old
      → AreCopies x s.leader s.bank (copy_places s) s.guards (length s.guards) copies

-- its fault is named, and its copies are made behind
pub record AddsTouched (old new : Draft) (scene : Scene) (around : Around) (s : AccessStanding) (t : Touched) : Type 0 where
  pub middle : Draft
  pub names : AddsRangeFault old middle t.fault s.place
  pub copies : HasScopes scene → length around.levels.now < 2 ^ 63 → AddsAllCopies s.leader s.bank (copy_places s) s.guards middle new t.copies

-- an access that has operations had them before, or is this one, of which no read gave anything
pub record IsNew (old new : Draft) (scene : Scene) (around : Around) (s : AccessStanding) (number m : ℕ) (t : Touched) : Type 0 where
  pub adds : AddsTouched old new scene around s t
  pub own : m ≡ number
  pub none : t.given ≡ []
  pub is : HasScopes scene → length around.levels.now < 2 ^ 63 → (x : BlockStep) → FitsStep x new → BlockBegun x old → IsTouched x s t

pub record TouchesAt (scene : Scene) (around : Around) (s : AccessStanding) (old new : Draft) (before after : Accesses) (number : ℕ) : Type 0 where
  -- nothing is added, or all of a new one
  pub adds : (new ≡ old) ⊎ ((t : Touched) × AddsTouched old new scene around s t)
  -- and that only where it has no operations yet
  pub fresh : (new ≡ old) ⊎ (has_no_operations before number ≡ true)
  pub extends : Extends old new
  pub quiet : (x : BlockStep) → FitsStep x new → BlockBegun x old → tale x new ≡ tale x old
  pub long : length after.touched.items ≡ length before.touched.items
  pub kept : (m : ℕ) (t : Touched) → touched_in before m ≡ Some t → touched_in after m ≡ Some t
  pub there : number < length before.touched.items → (t : Touched) × (touched_in after number ≡ Some t)
  pub known : (m : ℕ) (t : Touched) → touched_in after m ≡ Some t → (touched_in before m ≡ Some t) ⊎ IsNew old new scene around s number m t
  pub none : AreNone before.counts.items → AreNone after.counts.items

abbrev pub TouchesAccess : Scene → Around → (memory : ℕ) → (access : Term) → (writes : Bool) → (old new : Draft) → (before after : Accesses) → (number : ℕ) → Type 0
TouchesAccess scene around memory access writes old new before after number =
    TouchesAt scene around (standing_at scene around memory (place_written access) (form_of access) writes) old new before after number

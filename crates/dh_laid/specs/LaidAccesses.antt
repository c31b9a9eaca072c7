-- Accesses with operations are laid: what was put down for them names their faults, and only paths that lead have guards.
-- It holds whatever the step, and all that is put down for commands and tests keeps it.
use Rattle.std.specs.Prelude.{◌≡◌, ℕ, suc, ◌+◌, ◌≤◌, ◌^◌, List, [], ◌∷◌, length, map, slice_get, Option, Some, None}
use Rattle.dh_base.specs.declared.outcomes.FaultKind.{FaultKind}
use Rattle.dh_base.specs.declared.outcomes.FaultKind.TheVariants.{OutOfRange}
use Rattle.dh_base.specs.declared.places.Place.{Place}
use Rattle.dh_tree.specs.PlainTrees.{Action, Groups, Term}
use Rattle.dh_meaning.specs.Phases.{Located}
use Rattle.dh_expressions.specs.declared.accesses.Accesses.{Accesses}
use Rattle.dh_expressions.specs.declared.accesses.Touched.{Touched}
use Rattle.dh_expressions.specs.declared.copies.AccessAt.{AccessAt}
use Rattle.dh_expressions.specs.declared.drafts.Draft.{Draft}
use Rattle.dh_expressions.specs.declared.scenes.Around.{Around}
use Rattle.dh_expressions.specs.declared.scenes.Lane.{Lane}
use Rattle.dh_expressions.specs.declared.scenes.Scene.{Scene}
use Rattle.dh_expressions.specs.Copying.{AreNone}
use Rattle.dh_expressions.specs.Drafted.{Extends}
use Rattle.dh_expressions.specs.MadeTerms.{MadeTerm}
use Rattle.dh_expressions.specs.Noted.{copy_or_alone, touched_in}
use Rattle.dh_expressions.specs.Standings.{AccessStanding}
use Rattle.dh_commands.specs.declared.buildings.Building.{Building}
use Rattle.dh_commands.specs.MadeCommands.{MadeCommand, MadeGroups, MadeTests}
use Rattle.dh_laid.specs.BlockSites.{MadeEach}
use Rattle.dh_laid.specs.LaidFaults.{HaveOwnFaults}
use Rattle.dh_laid.specs.LaidQuiet.{BlockStandsIn}

abbrev pub copy_in : Touched → (path : ℕ) → AccessAt
copy_in t path = copy_or_alone path (slice_get t.copies path)

abbrev pub place_named : Option (FaultKind × Place) → Place
place_named None = record { line = 0; column = 0 }
place_named (Some f) = f.1

-- by the copies that it has, whatever banks they can reach; a path is done where that is which leads it
abbrev pub access_standing_of : List (FaultKind × Place) → Touched → AccessStanding
access_standing_of named t = record {
  place = place_named (slice_get named t.fault);
  leader = λ path. (copy_in t path).leader;
  bank = λ path. (copy_in t path).bank;
  places = λ path. (copy_in t path).place;
  reaches = λ bank place. [];
  guards = map (λ (c : AccessAt). (copy_in t c.leader).guard) t.copies;
}

-- What holds of an access with operations whatever the step: its fault is named, and only leaders have guards.
pub record IsLaid (named : List (FaultKind × Place)) (t : Touched) : Type 0 where
  pub place : Place
  pub fault : slice_get named t.fault ≡ Some (OutOfRange, place)
  pub alone : (k : ℕ) (c : AccessAt) → slice_get t.copies k ≡ Some c → (c.leader ≡ k → ⊥) → c.guard ≡ None

abbrev pub AreLaid : List (FaultKind × Place) → Accesses → Type 0
AreLaid named a = (number : ℕ) (t : Touched) → touched_in a number ≡ Some t → IsLaid named t

-- What keeps it.

-- the faults so far are those of a list, at their numbers
abbrev pub AreNamed : List (FaultKind × Place) → Draft → Type 0
AreNamed named d = (n : ℕ) (f : FaultKind × Place) → slice_get d.faults n ≡ Some f → slice_get named n ≡ Some f

-- how many accesses have operations
abbrev pub touched_count : List (Option Touched) → ℕ
touched_count [] = 0
touched_count (None ∷ ts) = touched_count ts
touched_count (Some t ∷ ts) = suc (touched_count ts)

-- What was put down keeps the operations and the faults so far at their numbers; and where all faults are those of a list
-- that is short, it keeps that all accesses with operations are laid, and that none is counted. There are as many accesses
-- as before, and no more faults were named than accesses got operations; and each of those has a fault of its own.
pub record Lays (old new : Draft) (before after : Accesses) : Type 0 where
  pub extends : Extends old new
  pub laid : (named : List (FaultKind × Place)) → AreNamed named new → length named ≤ 2 ^ 32 → AreLaid named before → AreNone before.counts.items → AreLaid named after
  pub none : AreNone before.counts.items → AreNone after.counts.items
  pub long : length after.touched.items ≡ length before.touched.items
  pub few : length new.faults + touched_count before.touched.items ≤ length old.faults + touched_count after.touched.items
  pub own : length new.faults ≤ 2 ^ 32 → HaveOwnFaults old before → HaveOwnFaults new after

abbrev pub TermsLay : Type 0
TermsLay =
    (scene : Scene) (lane : Lane) (current : List (Option ℕ)) (t : Term) (old new : Draft) (before after : Accesses) (n next v : ℕ) → BlockStandsIn scene lane.around
    → MadeTerm scene lane current t old new before after n next v → Lays old new before after

abbrev pub CommandsLay : Type 0
CommandsLay =
    (scene : Scene) (a : Action) (around : Around) (old new : Building) (first next : ℕ) → BlockStandsIn scene around → MadeCommand scene a around old new first next
    → Lays old.draft new.draft old.accesses new.accesses

abbrev pub GroupsLay : Type 0
GroupsLay =
    (scene : Scene) (body : Groups) (around : Around) (old new : Building) (first next : ℕ) → BlockStandsIn scene around → MadeGroups scene body around old new first next
    → Lays old.draft new.draft old.accesses new.accesses

abbrev pub TestsLay : Type 0
TestsLay =
    (scene : Scene) (around : Around) (first : ℕ) (t : Term) (count : ℕ) (old new : Building) (next : ℕ) (tests : List ℕ) → BlockStandsIn scene around
    → MadeTests scene around first t count old new next tests → Lays old.draft new.draft old.accesses new.accesses

-- so the commands of a block, put down one after the other
abbrev pub EachLay : Type 0
EachLay = (scene : Scene) (around : Around) (cs : List Located) (old new : Building) → BlockStandsIn scene around → MadeEach scene around cs old new → Lays old.draft new.draft old.accesses new.accesses

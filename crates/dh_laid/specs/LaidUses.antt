-- Uses: how often what is put down for commands reads or writes each access: once at each path that leads, but no more
-- where the access shares an earlier read. An access goes by its site in the block, so that nothing need be known of the
-- kinds of values.
use Rattle.std.specs.Prelude.{◌≡◌, ℕ, zero, suc, ◌+◌, ◌<◌, ◌≤◌, ◌^◌, true, List, [], ◌∷◌, ◌++◌, length, slice_get, Option, Some, None}
use Rattle.std.specs.List.{AllByRecursion}
use Rattle.dh_tree.specs.Indices.{form_of}
use Rattle.dh_tree.specs.PlainTrees.{Term, Action, action, ActionForm, lets, lets_memory, views, assigns, stores, reduces, calls, blocks, decides, repeats, counts, MaybeAction, no_action, one_action, Actions, no_actions, action_then, Groups, no_groups, group_then}
use Rattle.dh_meaning.specs.AccessNumbers.{accesses_of, part_accesses, term_accesses}
use Rattle.dh_meaning.specs.Phases.{Located}
use Rattle.dh_plan.specs.declared.operations.Operation.{Operation}
use Rattle.dh_plan.specs.declared.operations.Reach.{Reach}
use Rattle.dh_plan.specs.DoneProgram.{operations_using}
use Rattle.dh_plan.specs.SoundPlans.{access_in, use_in}
use Rattle.dh_expressions.specs.declared.accesses.Accesses.{Accesses}
use Rattle.dh_expressions.specs.declared.drafts.Draft.{Draft}
use Rattle.dh_expressions.specs.declared.scenes.Around.{Around}
use Rattle.dh_expressions.specs.declared.scenes.Scene.{Scene}
use Rattle.dh_expressions.specs.Copying.{AreNone}
use Rattle.dh_expressions.specs.Levels.{leader_number}
use Rattle.dh_expressions.specs.Noted.{touched_in}
use Rattle.dh_expressions.specs.Numbers.{narrowed}
use Rattle.dh_expressions.specs.Standings.{banks_at}
use Rattle.dh_formed.specs.Counted.{use_shared}
use Rattle.dh_formed.specs.Formed.{BlockSite}
use Rattle.dh_commands.specs.declared.buildings.Building.{Building}
use Rattle.dh_commands.specs.LanesRun.{paths_counted}
use Rattle.dh_commands.specs.MadeCommands.{MadeTests}
use Rattle.dh_laid.specs.BlockSites.{MadeEach, block_sites, test_sites}
use Rattle.dh_laid.specs.Laid.{aim_accesses}
use Rattle.dh_laid.specs.LaidNumbers.{StoresReach}
use Rattle.dh_laid.specs.LaidProbes.{AddsProbes}
use Rattle.dh_laid.specs.LaidQuiet.{BlockStandsIn}

-- Counts.

-- so many reads and writes of each access were added
pub record AddsUses (old new : Draft) (uses : (access : ℕ) → ℕ) : Type 0 where
  pub more : List Operation
  pub adds : new.operations.items ≡ old.operations.items ++ more
  pub uses_are : (access : ℕ) → operations_using access more ≡ uses access

-- A read or a write of an access that has a site in the block: it is done for a path that leads, on the banks of that
-- path, and the access shares no earlier one.
pub record IsLeadersUse (scene : Scene) (sites : ℕ → Option BlockSite) (r : Reach) : Type 0 where
  pub site : BlockSite
  pub there : sites r.access ≡ Some site
  pub memory_is : r.memory ≡ narrowed site.memory
  pub path : ℕ
  pub within : path < length site.standing.guards
  pub leads : site.standing.leader path ≡ path
  pub banks_are : r.banks ≡ banks_at site.standing path
  pub alone : (earlier : ℕ) → slice_get scene.shares.now r.access ≡ Some (Some earlier) → ⊥

-- so is each of these that reads or writes
abbrev pub AreLedUses : Scene → (sites : ℕ → Option BlockSite) → List Operation → Type 0
AreLedUses scene sites os = AllByRecursion (λ o. (r : Reach) → use_in o.form ≡ Some r → IsLeadersUse scene sites r) os

-- an operation reaches the memory of an access that has a site
pub record IsSitesReach (sites : ℕ → Option BlockSite) (r : Reach) : Type 0 where
  pub site : BlockSite
  pub there : sites r.access ≡ Some site
  pub memory_is : r.memory ≡ narrowed site.memory

-- so does each of these that reaches a memory, probes too
abbrev pub AreSitesReaches : (sites : ℕ → Option BlockSite) → List Operation → Type 0
AreSitesReaches sites os = AllByRecursion (λ o. (r : Reach) → access_in o.form ≡ Some r → IsSitesReach sites r) os

-- so many were added, and each is so
pub record AddsLedUses (scene : Scene) (sites : ℕ → Option BlockSite) (old new : Draft) (uses : (access : ℕ) → ℕ) : Type 0 where
  pub more : List Operation
  pub adds : new.operations.items ≡ old.operations.items ++ more
  pub uses_are : (access : ℕ) → operations_using access more ≡ uses access
  pub each : AreLedUses scene sites more
  pub reaches : AreSitesReaches sites more

-- at the first paths, so many
abbrev pub used_by : (share : Option (Option ℕ)) → Option BlockSite → (paths : ℕ) → ℕ
used_by share site zero = 0
used_by share site (suc n) = used_by share site n + use_shared share site n

-- of the access of a number
abbrev pub used_to : Scene → (sites : ℕ → Option BlockSite) → (paths access : ℕ) → ℕ
used_to scene sites paths access = used_by (slice_get scene.shares.now access) (sites access) paths

-- an access of the block is probed at each path
abbrev pub probed_by : Option BlockSite → (paths : ℕ) → ℕ
probed_by None paths = 0
probed_by (Some s) paths = paths

-- What stands round a block.

-- where all loops count, each path leads
abbrev pub PathsLead : Around → Type 0
PathsLead around = (path : ℕ) → path < paths_counted around → leader_number around.levels.now (λ level. true) path ≡ path

-- an access of the block shares an earlier one of the block, at most
pub record SharesInside (scene : Scene) (sites : ℕ → Option BlockSite) : Type 0 where
  pub known : (number : ℕ) (s : BlockSite) → sites number ≡ Some s → number < length scene.shares.now
  pub earlier : (number shared : ℕ) (s : BlockSite) → sites number ≡ Some s → slice_get scene.shares.now number ≡ Some (Some shared) → shared < number
  pub inside : (number shared : ℕ) (s : BlockSite) → sites number ≡ Some s → slice_get scene.shares.now number ≡ Some (Some shared) → (t : BlockSite) × (sites shared ≡ Some t)

-- an access shares none, and none shares it
pub record IsUnshared (scene : Scene) (number : ℕ) : Type 0 where
  pub own : (shared : ℕ) → slice_get scene.shares.now number ≡ Some (Some shared) → ⊥
  pub other : (reader : ℕ) → slice_get scene.shares.now reader ≡ Some (Some number) → ⊥

-- none of the accesses of a block has operations as it begins, and no bank is counted
pub record HaveNoOperations (sites : ℕ → Option BlockSite) (a : Accesses) : Type 0 where
  pub none : AreNone a.counts.items
  pub there : (number : ℕ) (s : BlockSite) → sites number ≡ Some s → number < length a.touched.items
  pub bare : (number : ℕ) (s : BlockSite) → sites number ≡ Some s → touched_in a number ≡ None

-- Something holds of each write of a command, by the number of the write.
module _ (P : (number : ℕ) → Type 0) where
  abbrev mutual
    pub EachWrite : (first : ℕ) → Action → Type 0
    EachWrite first (action id place form) = EachWriteOf first form

    pub EachWriteOf : (first : ℕ) → ActionForm → Type 0
    EachWriteOf first (stores target value) = P (first + term_accesses value + aim_accesses (form_of target))
    EachWriteOf first (decides test chosen other) = EachWrite (first + term_accesses test) chosen × EachWriteOther (first + term_accesses test + accesses_of chosen) other
    EachWriteOf first (blocks body) = EachWriteGroups first body
    EachWriteOf first (lets name declared value) = Unit {0}
    EachWriteOf first (assigns target value) = Unit {0}
    EachWriteOf first (reduces target op value) = Unit {0}
    EachWriteOf first (lets_memory name shape shape_places value) = Unit {0}
    EachWriteOf first (views name parent form) = Unit {0}
    EachWriteOf first (calls function arguments) = Unit {0}
    EachWriteOf first (repeats test body) = Unit {0}
    EachWriteOf first (counts iterator declared low high factor body combine combine_place) = Unit {0}

    pub EachWriteOther : (first : ℕ) → MaybeAction → Type 0
    EachWriteOther first no_action = Unit {0}
    EachWriteOther first (one_action a) = EachWrite first a

    pub EachWriteActions : (first : ℕ) → Actions → Type 0
    EachWriteActions first no_actions = Unit {0}
    EachWriteActions first (action_then a rest) = EachWrite first a × EachWriteActions (first + accesses_of a) rest

    pub EachWriteGroups : (first : ℕ) → Groups → Type 0
    EachWriteGroups first no_groups = Unit {0}
    EachWriteGroups first (group_then part rest) = EachWriteActions first part × EachWriteGroups (first + part_accesses part) rest

-- The commands of a block.

-- a command whose stores are into accesses, with numbers from a first one on, few
pub record IsAlong (from : ℕ) (c : Located) : Type 0 where
  pub behind : from ≤ c.first
  pub few : c.first + accesses_of c.command < 2 ^ 32
  pub reaches : StoresReach c.command

-- each behind the one before
abbrev pub AreAlong : (from : ℕ) → List Located → Type 0
AreAlong from [] = Unit {0}
AreAlong from (c ∷ cs) = IsAlong from c × AreAlong (c.first + accesses_of c.command) cs

abbrev pub WritesAlone : Scene → List Located → Type 0
WritesAlone scene [] = Unit {0}
WritesAlone scene (c ∷ cs) = EachWrite (λ number. IsUnshared scene number) c.first c.command × WritesAlone scene cs

-- Blocks: each access of the block is read or written at the paths that lead, and no other is.
abbrev pub BlocksUse : Type 0
BlocksUse =
    (scene : Scene) (around : Around) (cs : List Located) (old new : Building) (m : MadeEach scene around cs old new) → BlockStandsIn scene around → PathsLead around → 0 < paths_counted around
    → AreAlong 0 cs → WritesAlone scene cs → SharesInside scene (block_sites scene around cs old new m) → HaveNoOperations (block_sites scene around cs old new m) old.accesses
    → AddsUses old.draft new.draft (used_to scene (block_sites scene around cs old new m) (paths_counted around))

-- and each read or write is for a path that leads
abbrev pub BlocksLead : Type 0
BlocksLead =
    (scene : Scene) (around : Around) (cs : List Located) (old new : Building) (m : MadeEach scene around cs old new) → BlockStandsIn scene around → PathsLead around → 0 < paths_counted around
    → AreAlong 0 cs → WritesAlone scene cs → SharesInside scene (block_sites scene around cs old new m) → HaveNoOperations (block_sites scene around cs old new m) old.accesses
    → AddsLedUses scene (block_sites scene around cs old new m) old.draft new.draft (used_to scene (block_sites scene around cs old new m) (paths_counted around))

-- and probed at all of them
abbrev pub BlocksProbe : Type 0
BlocksProbe =
    (scene : Scene) (around : Around) (cs : List Located) (old new : Building) (m : MadeEach scene around cs old new) → BlockStandsIn scene around → 0 < paths_counted around → AreAlong 0 cs
    → AddsProbes old.draft new.draft (λ access. probed_by (block_sites scene around cs old new m access) (paths_counted around))

-- the same of a test
abbrev pub TestsUse : Type 0
TestsUse =
    (scene : Scene) (around : Around) (first : ℕ) (t : Term) (old new : Building) (next : ℕ) (tests : List ℕ) → MadeTests scene around first t (paths_counted around) old new next tests
    → BlockStandsIn scene around → first + term_accesses t < 2 ^ 32 → SharesInside scene (test_sites scene around first t) → HaveNoOperations (test_sites scene around first t) old.accesses
    → AddsUses old.draft new.draft (used_to scene (test_sites scene around first t) (paths_counted around))

abbrev pub TestsLead : Type 0
TestsLead =
    (scene : Scene) (around : Around) (first : ℕ) (t : Term) (old new : Building) (next : ℕ) (tests : List ℕ) → MadeTests scene around first t (paths_counted around) old new next tests
    → BlockStandsIn scene around → first + term_accesses t < 2 ^ 32 → SharesInside scene (test_sites scene around first t) → HaveNoOperations (test_sites scene around first t) old.accesses
    → AddsLedUses scene (test_sites scene around first t) old.draft new.draft (used_to scene (test_sites scene around first t) (paths_counted around))

abbrev pub TestsProbe : Type 0
TestsProbe =
    (scene : Scene) (around : Around) (first : ℕ) (t : Term) (old new : Building) (next : ℕ) (tests : List ℕ) → MadeTests scene around first t (paths_counted around) old new next tests
    → BlockStandsIn scene around → first + term_accesses t < 2 ^ 32
    → AddsProbes old.draft new.draft (λ access. probed_by (test_sites scene around first t access) (paths_counted around))

-- The site of an access of a block is that of the access in the source: it has the same element, and reads or writes as
-- that does. And those accesses have sites that the commands of the block make.
use Rattle.std.specs.Prelude.{◌≡◌, ℕ, Bool, List, [], ◌∷◌, Option, Some, None}
use Rattle.std.specs.List.{AllByRecursion}
use Rattle.std.specs.Option.{is_some}
use Rattle.dh_tree.specs.declared.trees.expressions.Ref.{Ref}
use Rattle.dh_tree.specs.PlainTrees.{Program, Term, TermForm}
use Rattle.dh_tree.specs.Seen.{program_seen}
use Rattle.dh_meaning.specs.CoreOf.{action_form_of, memory_of, test_of}
use Rattle.dh_meaning.specs.OnePhase.{any_makes, test_makes}
use Rattle.dh_meaning.specs.Phases.{Located}
use Rattle.dh_meaning.specs.Ways.{way_to}
use Rattle.dh_meets.specs.SourceEvents.{SourceAccess, in_row, trace}
use Rattle.dh_events.specs.Accesses.{element_in, entity_in}
use Rattle.dh_sound.specs.PhaseFacts.{StandsAmong}
use Rattle.dh_sound.specs.Straight.{IsKeptAction}
use Rattle.dh_sound.specs.ToldEvents.{access_at}
use Rattle.dh_expressions.specs.declared.paths.Level.{Level}
use Rattle.dh_expressions.specs.declared.scenes.Around.{Around}
use Rattle.dh_expressions.specs.declared.scenes.Scene.{Scene}
use Rattle.dh_expressions.specs.Evaluated.{known_in}
use Rattle.dh_expressions.specs.Standings.{standing_at}
use Rattle.dh_formed.specs.Formed.{BlockSite}
use Rattle.dh_commands.specs.declared.buildings.Building.{Building}
use Rattle.dh_commands.specs.LanesRun.{paths_counted}
use Rattle.dh_laid.specs.BlockSites.{MadeEach, block_sites, test_sites}
use Rattle.dh_laid.specs.LaidNumbers.{IsAccessForm}

-- a site is that of an access of the source, inside these loops, at so many paths
pub record IsSiteOf (scene : Scene) (levels : List Level) (paths : ℕ) (s : BlockSite) (a : SourceAccess) : Type 0 where
  pub around : Around
  pub levels_are : around.levels.now ≡ levels
  pub long : paths_counted around ≡ paths
  pub ref : Ref
  pub entity_is : ref.entity ≡ a.entity
  pub form : TermForm
  pub access : IsAccessForm form
  pub named_is : entity_in form ≡ a.entity
  pub element_is : element_in form ≡ a.element
  pub is : s ≡ record { memory = memory_of (known_in scene) ref; standing = standing_at scene around (memory_of (known_in scene) ref) a.place form a.writes }

-- so is each of a list that has one, access by access
abbrev pub IsSiteOrNone : Scene → List Level → (paths : ℕ) → Option BlockSite → SourceAccess → Type 0
IsSiteOrNone scene levels paths None a = Unit {0}
IsSiteOrNone scene levels paths (Some s) a = IsSiteOf scene levels paths s a

abbrev pub AreSitesOf : Scene → List Level → (paths : ℕ) → List (Option BlockSite) → List SourceAccess → Type 0
AreSitesOf scene levels paths [] [] = Unit {0}
AreSitesOf scene levels paths [] (a ∷ ls) = ⊥
AreSitesOf scene levels paths (s ∷ ss) [] = ⊥
AreSitesOf scene levels paths (s ∷ ss) (a ∷ ls) = IsSiteOrNone scene levels paths s a × AreSitesOf scene levels paths ss ls

-- an access of a row names its memory directly
abbrev pub RowsAreDirect : Program → Type 0
RowsAreDirect p = (number : ℕ) (a : SourceAccess) → access_at p number ≡ Some a → (bank : ℕ) (row : Term) → a.element ≡ in_row bank row → way_to p a.entity ≡ None

-- The sites of a block's accesses, by their numbers: those of numbers that something makes.
pub record AreSited (scene : Scene) (around : Around) (makes : ℕ → Bool) (sites : ℕ → Option BlockSite) : Type 0 where
  pub made : (number : ℕ) → is_some (sites number) ≡ makes number
  pub told : (number : ℕ) (s : BlockSite) (a : SourceAccess) → sites number ≡ Some s → access_at (program_seen scene.program.now) number ≡ Some a → IsSiteOf scene around.levels.now (paths_counted around) s a

-- the events of each command stand among those of the program
abbrev pub AllStand : Scene → List Located → Type 0
AllStand scene cs = AllByRecursion (λ (c : Located). StandsAmong 0 (trace (program_seen scene.program.now)) c) cs

abbrev pub BlocksAreSited : Type 0
BlocksAreSited =
    (scene : Scene) (around : Around) (cs : List Located) (old new : Building) (m : MadeEach scene around cs old new) → AllByRecursion (λ (c : Located). IsKeptAction (known_in scene) c.command) cs → AllStand scene cs
    → AreSited scene around (λ number. any_makes number cs) (block_sites scene around cs old new m)

-- and those of a test
abbrev pub TestsAreSited : Type 0
TestsAreSited =
    (scene : Scene) (around : Around) (tested : Located) (t : Term) → test_of (action_form_of tested.command) ≡ Some t → StandsAmong 0 (trace (program_seen scene.program.now)) tested
    → AreSited scene around (λ number. test_makes number tested) (test_sites scene around tested.first t)

-- Blocks reach memories of accesses of the source: an access with a site in a block is one that the block makes.
use Rattle.std.proofs.Common.{◌≡◌, inl, ◌<◌, ◌+◌, ◌^◌, ℕ, List, Some, None, ap, sym, ◌∙◌, subst, length, append_assoc}
use Rattle.std.specs.Prelude.{Bool as Truth, true, [], ◌∷◌, ◌++◌, drop, Option}
use Rattle.std.specs.List.{AllByRecursion}
use Rattle.std.specs.Option.{is_some}
use Rattle.std.proofs.Math.Seq.{drop-append_seam}
use Rattle.dh_tree.specs.Memories.{memories_of, number_in}
use Rattle.dh_tree.specs.PlainTrees.{Program, Term}
use Rattle.dh_tree.specs.Seen.{program_seen}
use Rattle.dh_meaning.specs.AccessNumbers.{term_accesses}
use Rattle.dh_meaning.specs.CoreOf.{Known, entity_number, action_form_of, memory_of, test_of}
use Rattle.dh_meaning.specs.OnePhase.{any_makes, test_makes}
use Rattle.dh_meaning.specs.Phases.{Located, idle_phases_of, phases_of}
use Rattle.dh_meaning.specs.Ways.{base_of, way_to}
use Rattle.dh_meets.specs.SourceEvents.{accesses_in, trace}
use Rattle.dh_plan.specs.declared.operations.Operation.{Operation}
use Rattle.dh_plan.specs.declared.operations.Reach.{Reach}
use Rattle.dh_plan.specs.PlainPlans.{PlainPlan, operations_in}
use Rattle.dh_plan.specs.SoundPlans.{access_in}
use Rattle.dh_sound.specs.PhaseFacts.{HasStraight, HasTest, StandsAmong}
use Rattle.dh_sound.specs.Straight.{IsKeptAction}
use Rattle.dh_sound.proofs.SamePhase.{straight_has_both, test_has_both}
use Rattle.dh_sound.proofs.Slices.{straight_either, straight_stands, test_either, test_stands}
use Rattle.dh_lengths.specs.SharedReads.{TellsShares}
use Rattle.dh_expressions.specs.declared.drafts.Draft.{Draft}
use Rattle.dh_expressions.specs.declared.scenes.Around.{Around}
use Rattle.dh_expressions.specs.declared.scenes.Scene.{Scene}
use Rattle.dh_expressions.specs.Evaluated.{known_in}
use Rattle.dh_expressions.specs.Numbers.{narrowed}
use Rattle.dh_expressions.proofs.ListPlaces.{there}
use Rattle.dh_formed.specs.Formed.{BlockSite}
use Rattle.dh_formed.proofs.ElementsFormed.{all_append}
use Rattle.dh_commands.specs.declared.buildings.Building.{Building}
use Rattle.dh_commands.specs.LanesRun.{paths_counted}
use Rattle.dh_commands.specs.MadeCommands.{MadeTests}
use Rattle.dh_blocks.specs.BlockTraced.{TellsWays}
use Rattle.dh_laid.specs.BlockSites.{MadeEach, block_sites, test_sites}
use Rattle.dh_laid.specs.LaidNumbers.{StoresReach}
use Rattle.dh_laid.specs.LaidUses.{AddsLedUses, AreAlong, AreSitesReaches, HaveNoOperations, IsSitesReach}
use Rattle.dh_laid.proofs.BlocksUsed.{blocks_lead, tests_lead}
use Rattle.dh_laid.proofs.SitesLaid.{along_reach}
use Rattle.dh_charged.specs.ChargedBlocks.{IsCutFrom}
use Rattle.dh_used.specs.SourceReaches.{IsOfSource, ReachSource}
use Rattle.dh_used.specs.SourceSites.{AllStand, AreSited}
use Rattle.dh_used.specs.UsedBlocks.{EndsQuietly, IsInLoops}
use Rattle.dh_used.proofs.BlocksByKeys.{each_of, paths_lead, some_paths}
use Rattle.dh_used.proofs.SharesOfProgram.{any_below, shares_inside, test_below, writes_alone}
use Rattle.dh_used.proofs.SitesOfSource.{blocks_are_sited, tests_are_sited}

module _ (scene : Scene) (around : Around) (makes : ℕ → Truth) (sites : ℕ → Option BlockSite) (sited : AreSited scene around makes sites) (below : (k : ℕ) → makes k ≡ true → k < length (accesses_in (trace (program_seen scene.program.now)))) (ways : TellsWays scene) where
  abbrev p : Program
  p = program_seen scene.program.now

  of_site : (r : Reach) → IsSitesReach sites r → IsOfSource p r
  of_site r q =
      let made : makes r.access ≡ true = sym (sited.made r.access) ∙ ap is_some q.there in
      let at = there (accesses_in (trace p)) r.access (below r.access made) in
      let site = sited.told r.access q.site at.0 q.there at.1 in
      record {
        access = at.0;
        there = at.1;
        memory_is =
            q.memory_is
            ∙ (ap (λ (s : BlockSite). narrowed s.memory) site.is
            ∙ (ap (λ (known : Known). narrowed (memory_of known site.ref)) ways ∙ ap (λ (e : Option ℕ). narrowed (entity_number (number_in (memories_of p) (base_of (way_to p e) e)))) site.entity_is));
      }

  each_of_site : (os : List Operation) → AreSitesReaches sites os → ReachSource p os
  each_of_site [] h = tt
  each_of_site (o ∷ os) h = (λ r e. of_site r (h.0 r e), each_of_site os h.1)

  quiet_reach : (os : List Operation) → AllByRecursion (λ (o : Operation). access_in o.form ≡ None) os → ReachSource p os
  quiet_reach [] h = tt
  quiet_reach (o ∷ os) h = (λ r e. absurd (never r (sym h.0 ∙ e)), quiet_reach os h.1)
    where
      never : (r : Reach) → None ≡ Some r → ⊥
      never r e = cc

  -- what was put down, and what ends the block
  pub own_reach : (plan : PlainPlan) (block : ℕ) (old new end : Draft) (uses : ℕ → ℕ) → AddsLedUses scene sites old new uses → IsCutFrom plan block old end → EndsQuietly new end → ReachSource p (operations_in plan block)
  own_reach plan block old new end uses led own ends =
      subst (λ (os : List Operation). ReachSource p os) (sym are)
      (all_append (λ (o : Operation). (r : Reach) → access_in o.form ≡ Some r → IsOfSource p r) led.more ends.more (each_of_site led.more led.reaches) (quiet_reach ends.more ends.reach_none))
    where
      are : operations_in plan block ≡ led.more ++ ends.more
      are =
          own
          ∙ (ap (λ (os : List Operation). drop (length old.operations.items) os) (ends.adds ∙ (ap (λ (os : List Operation). os ++ ends.more) led.adds ∙ append_assoc old.operations.items led.more ends.more))
          ∙ drop-append_seam old.operations.items (led.more ++ ends.more))

pub straights_reach : (scene : Scene) (plan : PlainPlan) (block : ℕ) (around : Around) (cs : List Located) (old new : Building) (end : Draft) (m : MadeEach scene around cs old new)
    → IsInLoops scene around (λ number. any_makes number cs) → AreAlong 0 cs → AllByRecursion (λ (c : Located). IsKeptAction (known_in scene) c.command) cs → HasStraight (phases_of (program_seen scene.program.now)) cs → TellsShares (program_seen scene.program.now) scene.shares.now → TellsWays scene
    → HaveNoOperations (block_sites scene around cs old new m) old.accesses → IsCutFrom plan block old.draft end → EndsQuietly new.draft end → ReachSource (program_seen scene.program.now) (operations_in plan block)
straights_reach scene plan block around cs old new end m here along named has tells ways bare own ends =
    own_reach scene around (λ number. any_makes number cs) (block_sites scene around cs old new m) sited (λ k e. any_below (trace (program_seen scene.program.now)) cs k stand e) ways plan block old.draft new.draft end _
    (blocks_lead scene around cs old new m here.stands (paths_lead scene around (λ number. any_makes number cs) here) (some_paths scene around (λ number. any_makes number cs) here) along (writes_alone scene tells cs reach stand)
    (shares_inside scene tells (λ number. any_makes number cs) (block_sites scene around cs old new m) sited.made (λ k e. any_below (trace (program_seen scene.program.now)) cs k stand e) (λ j k one made. straight_has_both (program_seen scene.program.now) cs j k found made one)) bare)
    own ends
  where
    reach : AllByRecursion (λ (c : Located). StoresReach c.command) cs
    reach = along_reach 0 cs along

    found : HasStraight (phases_of (program_seen scene.program.now) ++ idle_phases_of (program_seen scene.program.now)) cs
    found = straight_either (phases_of (program_seen scene.program.now)) (idle_phases_of (program_seen scene.program.now)) cs (inl has)

    stand : AllStand scene cs
    stand = each_of (λ (c : Located). StandsAmong 0 (trace (program_seen scene.program.now)) c) cs (λ c g. straight_stands (program_seen scene.program.now) cs c found g)

    sited : AreSited scene around (λ number. any_makes number cs) (block_sites scene around cs old new m)
    sited = blocks_are_sited scene around cs old new m named stand

pub tests_reach : (scene : Scene) (plan : PlainPlan) (block : ℕ) (around : Around) (tested : Located) (t : Term) (old new : Building) (end : Draft) (next : ℕ) (tests : List ℕ)
    → MadeTests scene around tested.first t (paths_counted around) old new next tests → test_of (action_form_of tested.command) ≡ Some t
    → IsInLoops scene around (λ number. test_makes number tested) → tested.first + term_accesses t < 2 ^ 32 → HasTest (phases_of (program_seen scene.program.now)) tested → TellsShares (program_seen scene.program.now) scene.shares.now → TellsWays scene
    → HaveNoOperations (test_sites scene around tested.first t) old.accesses → IsCutFrom plan block old.draft end → EndsQuietly new.draft end → ReachSource (program_seen scene.program.now) (operations_in plan block)
tests_reach scene plan block around tested t old new end next tests m is here few has tells ways bare own ends =
    own_reach scene around (λ number. test_makes number tested) (test_sites scene around tested.first t) sited (λ k e. test_below (trace (program_seen scene.program.now)) tested k stand e) ways plan block old.draft new.draft end _
    (tests_lead scene around tested.first t old new next tests m here.stands few
    (shares_inside scene tells (λ number. test_makes number tested) (test_sites scene around tested.first t) sited.made (λ k e. test_below (trace (program_seen scene.program.now)) tested k stand e)
    (λ j k one made. test_has_both (program_seen scene.program.now) tested j k found made one)) bare)
    own ends
  where
    found : HasTest (phases_of (program_seen scene.program.now) ++ idle_phases_of (program_seen scene.program.now)) tested
    found = test_either (phases_of (program_seen scene.program.now)) (idle_phases_of (program_seen scene.program.now)) tested (inl has)

    stand : StandsAmong 0 (trace (program_seen scene.program.now)) tested
    stand = test_stands (program_seen scene.program.now) tested found

    sited : AreSited scene around (λ number. test_makes number tested) (test_sites scene around tested.first t)
    sited = tests_are_sited scene around tested t is stand

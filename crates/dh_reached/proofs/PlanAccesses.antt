-- Accesses of blocks are accesses of their program, so of a plan that has the same of them.
use Rattle.std.proofs.Common.{◌≡◌, inl, ℕ, ◌+◌, ◌<◌, ◌≤◌, List, Some, ap, ◌∙◌, subst, arith}
use Rattle.std.specs.Prelude.{[], ◌++◌}
use Rattle.dh_tree.specs.PlainTrees.{Action, Term, action, assigns, blocks, calls, counts, decides, lets, lets_memory, reduces, repeats, stores, views}
use Rattle.dh_tree.specs.Seen.{program_seen}
use Rattle.dh_meaning.specs.AccessNumbers.{accesses_of, term_accesses}
use Rattle.dh_meaning.specs.CoreOf.{action_form_of, test_of}
use Rattle.dh_meaning.specs.Phases.{Located, idle_phases_of, phases_of}
use Rattle.dh_meaning.specs.Sites.{nothing_around}
use Rattle.dh_meets.specs.SourceEvents.{accesses_in, events, trace}
use Rattle.dh_expressions.specs.declared.scenes.Around.{Around}
use Rattle.dh_expressions.specs.declared.scenes.Scene.{Scene}
use Rattle.dh_expressions.proofs.ListPlaces.{place_within, some_same}
use Rattle.dh_formed.specs.Formed.{BlockSite}
use Rattle.dh_commands.specs.declared.buildings.Building.{Building}
use Rattle.dh_laid.specs.BlockSites.{MadeEach, block_sites, term_sites, test_sites}
use Rattle.dh_laid.specs.LaidNumbers.{StoresReach}
use Rattle.std.specs.List.{AllByRecursion}
use Rattle.dh_sound.specs.PhaseFacts.{HasTest, StandsAmong}
use Rattle.dh_sound.proofs.EventCounts.{count_in, count_joined, events_counted}
use Rattle.dh_sound.proofs.Slices.{test_either, test_stands}
use Rattle.dh_reached.specs.NeverMeet.{StandsAlong}
use Rattle.dh_reached.proofs.NeverMeet.{pair_of}
use Rattle.dh_reached.proofs.PlacesOf.{site_told}
use Rattle.dh_reached.proofs.TermsPut.{sites_long}

-- a command has the accesses of its test
test_in : (a : Action) (t : Term) → test_of (action_form_of a) ≡ Some t → term_accesses t ≤ accesses_of a
test_in (action id place (decides test chosen other)) t e = subst (λ (q : Term). term_accesses q ≤ accesses_of (action id place (decides test chosen other))) (some_same test t e) (omega arith)
test_in (action id place (repeats test body)) t e = subst (λ (q : Term). term_accesses q ≤ accesses_of (action id place (repeats test body))) (some_same test t e) (omega arith)
test_in (action id place (lets name declared value)) t e = absurd (cc)
test_in (action id place (lets_memory name shape shape_places value)) t e = absurd (cc)
test_in (action id place (views name parent form)) t e = absurd (cc)
test_in (action id place (assigns target value)) t e = absurd (cc)
test_in (action id place (stores target value)) t e = absurd (cc)
test_in (action id place (reduces target o value)) t e = absurd (cc)
test_in (action id place (calls function arguments)) t e = absurd (cc)
test_in (action id place (blocks body)) t e = absurd (cc)
test_in (action id place (counts iterator declared low high factor body combine combine_place)) t e = absurd (cc)

module _ (scene : Scene) (around : Around) (number : ℕ) (s : BlockSite) where
  pub straight_numbers : (done folds : List Located) (old new : Building) (made : MadeEach scene around (done ++ folds) old new) → StandsAlong scene around done folds → AllByRecursion (λ (c : Located). StoresReach c.command) (done ++ folds)
      → block_sites scene around (done ++ folds) old new made number ≡ Some s → number < accesses_of (program_seen scene.program.now).body
  straight_numbers done folds old new made along is at =
      let pair = pair_of scene around number s along.round [] (trace (program_seen scene.program.now)) done folds old new made along.follows along.quiet is at in
      subst (λ n. number < n) (events_counted nothing_around (program_seen scene.program.now).body) (place_within (accesses_in (trace (program_seen scene.program.now))) number pair.0 pair.1.0)

  pub test_numbers : (tested : Located) (t : Term) → HasTest (phases_of (program_seen scene.program.now)) tested → test_of (action_form_of tested.command) ≡ Some t
      → test_sites scene around tested.first t number ≡ Some s → number < accesses_of (program_seen scene.program.now).body
  test_numbers tested t has is at =
      let told = site_told tested.first number (term_sites scene around t) s at in
      let u = told.1 in
      let long = sites_long scene around t in
      let inside = test_in tested.command t is in
      let own = events_counted tested.around tested.command in
      let all = events_counted nothing_around (program_seen scene.program.now).body in
      let counted = stands.counted in
      omega (arith, u, long, inside, own, all, counted, total)
    where
      stands : StandsAmong 0 (trace (program_seen scene.program.now)) tested
      stands = test_stands (program_seen scene.program.now) tested (test_either (phases_of (program_seen scene.program.now)) (idle_phases_of (program_seen scene.program.now)) tested (inl has))

      total : count_in (trace (program_seen scene.program.now)) ≡ count_in stands.before + (count_in (events tested.around tested.command) + count_in stands.after)
      total = ap count_in stands.all ∙ (count_joined stands.before (events tested.around tested.command ++ stands.after) ∙ ap (λ n. count_in stands.before + n) (count_joined (events tested.around tested.command) stands.after))

-- Blocks use their accesses by keys: the paths that lead are as many as the keys, and each access of the source that the
-- block makes has a site.
use Rattle.std.proofs.Common.{◌≡◌, inl, inr, ◌<◌, ◌+◌, ◌==◌, ◌||◌, ℕ, zero, suc, List, Some, None, ap, sym, ◌∙◌, subst, length, arith, refl, append_assoc}
use Rattle.std.specs.Prelude.{Bool as Truth, true, false, if◌then◌else◌, [], ◌∷◌, ◌++◌, drop, map, Option, slice_get}
use Rattle.std.specs.List.{AllByRecursion}
use Rattle.std.specs.Option.{is_some}
use Rattle.std.specs.Set.{distinct_count}
use Rattle.std.proofs.Math.Seq.{drop-append_seam}
use Rattle.dh_tree.specs.PlainTrees.{Program}
use Rattle.dh_tree.specs.Seen.{program_seen}
use Rattle.dh_meaning.specs.Ways.{all_bindings_of}
use Rattle.dh_meaning.specs.OnePhase.{any_makes, test_makes}
use Rattle.dh_meaning.specs.Paths.{Path, copies_in, paths_in, same_path}
use Rattle.dh_meaning.specs.Phases.{Located, idle_phases_of, phases_of}
use Rattle.dh_meets.specs.Charges as charges
use Rattle.dh_meets.specs.Charges.{depends, element_depends, entity_depends, key_of, paths_of, picked}
use Rattle.dh_meets.specs.Sharing.{shared}
use Rattle.dh_meets.specs.SourceEvents.{Element, SourceAccess, accesses_in, trace}
use Rattle.dh_code.proofs.PathsInOrder.{length_paths}
use Rattle.dh_plan.specs.declared.operations.Operation.{Operation}
use Rattle.dh_plan.specs.DoneProgram.{keys_of, operations_using, probes_among, uses_wanted}
use Rattle.dh_plan.specs.PlainPlans.{PlainPlan, operations_in}
use Rattle.dh_sound.specs.PhaseFacts.{HasStraight, HasTest, StandsAmong}
use Rattle.dh_sound.specs.ToldEvents.{access_at}
use Rattle.dh_carried.proofs.Pigeons.{Has}
use Rattle.dh_sound.proofs.SamePhase.{straight_has_both, test_has_both}
use Rattle.dh_sound.proofs.Slices.{straight_either, straight_stands, test_either, test_stands}
use Rattle.dh_events.specs.Accesses.{element_in, entity_in}
use Rattle.dh_lengths.specs.SharedReads.{TellsShares}
use Rattle.dh_expressions.specs.declared.drafts.Draft.{Draft}
use Rattle.dh_expressions.specs.declared.paths.Level.{Level}
use Rattle.dh_expressions.specs.declared.scenes.Around.{Around}
use Rattle.dh_expressions.specs.declared.scenes.Scene.{Scene}
use Rattle.dh_expressions.specs.Levels.{leader_number, path_at}
use Rattle.dh_expressions.proofs.ListPlaces.{place_within}
use Rattle.dh_formed.specs.Formed.{BlockSite}
use Rattle.dh_formed.proofs.PartsCounted.{uses_append}
use Rattle.dh_commands.specs.LanesRun.{paths_counted}
use Rattle.dh_commands.specs.ShownVariables.{level_factors}
use Rattle.dh_blocks.specs.PathsOfLevels.{AreSpread}
use Rattle.dh_blocks.proofs.PathNumbers.{kept, leader_within, leads, number_is, some_copies}
use Rattle.dh_laid.specs.BlockSites.{block_sites, test_sites}
use Rattle.dh_laid.specs.LaidNumbers.{StoresReach}
use Rattle.dh_laid.specs.LaidProbes.{AddsProbes}
use Rattle.dh_laid.specs.LaidUses.{AddsUses, PathsLead, probed_by, used_by, used_to}
use Rattle.dh_laid.proofs.BlocksUsed.{blocks_probe, blocks_use, tests_probe, tests_use}
use Rattle.dh_laid.proofs.CommandsProbe.{append_probes}
use Rattle.dh_laid.proofs.UsesAdded.{used_nowhere}
use Rattle.dh_laid.proofs.SitesLaid.{along_reach}
use Rattle.dh_charged.specs.ChargedBlocks.{IsCutFrom}
use Rattle.dh_charged.specs.LeadersCounted.{leads_below}
use Rattle.dh_charged.proofs.KeysLed.{all_leaders_are_keys}
use Rattle.dh_used.specs.SourceSites.{AllStand, AreSited, IsSiteOf}
use Rattle.dh_used.specs.UsedBlocks.{EndsQuietly, IsInLoops, StraightsUseAsMade, TestsUseAsMade, UsesAsMade}
use Rattle.dh_used.proofs.SharesOfProgram.{any_below, as_many, shares_inside, test_below, writes_alone}
use Rattle.dh_used.proofs.SitesOfSource.{blocks_are_sited, tests_are_sited}

-- Paths.

kept_all : (level : ℕ) (p : Path) → kept (λ l. true) level p ≡ p
kept_all level [] = refl
kept_all level (c ∷ p) = ap (λ (q : Path). c ∷ q) (kept_all (level + 1) p)

-- where all loops count each path leads
all_lead : (levels : List Level) → AreSpread levels → (n : ℕ) → n < copies_in (level_factors levels) → leader_number levels (λ l. true) n ≡ n
all_lead levels s n below =
    number_is levels s (leader_number levels (λ l. true) n) n (leader_within levels s (λ l. true) n below) below ((leads levels s (λ l. true) n below).path_is ∙ kept_all 0 (path_at levels n))

-- One access.

module _ (scene : Scene) (around : Around) (spread : AreSpread around.levels.now) (counted : paths_counted around ≡ copies_in (level_factors around.levels.now)) (tells : TellsShares (program_seen scene.program.now) scene.shares.now) where
  abbrev p : Program
  p = program_seen scene.program.now

  abbrev levels : List Level
  levels = around.levels.now

  -- whether an access of what a name stands for, to this element, depends on the loop of a level
  abbrev depends_by : (writes : Truth) → (level : ℕ) → Option ℕ → Element → Truth
  depends_by writes level entity e = writes || (entity_depends (all_bindings_of p) level entity || element_depends (all_bindings_of p) level e)

  -- it leads as often as it has keys
  led_keys : (s : BlockSite) (a : SourceAccess) → IsSiteOf scene levels (paths_counted around) s a → charges.loop_factors a.site.loops ≡ level_factors levels → (n : ℕ) → used_by (Some None) (Some s) n ≡ leads_below (leader_number levels (depends (all_bindings_of p) a)) n
  led_keys s a is loops zero = refl
  led_keys s a is loops (suc n) = sum _ _ _ _ (led_keys s a is loops n) (ap (λ l. if l == n then 1 else 0) leader_is)
    where
      sum : (a b c d : ℕ) → a ≡ c → b ≡ d → a + b ≡ c + d
      sum a b c d e g = omega (arith, e, g)

      leader_is : s.standing.leader n ≡ leader_number levels (depends (all_bindings_of p) a) n
      leader_is =
          ap (λ (t : BlockSite). t.standing.leader n) is.is
          ∙ (ap (λ (ls : List Level). leader_number ls (λ level. depends_by a.writes level (entity_in is.form) (element_in is.form)) n) is.levels_are
          ∙ (ap (λ (x : Option ℕ). leader_number levels (λ level. depends_by a.writes level x (element_in is.form)) n) is.named_is
          ∙ ap (λ (e : Element). leader_number levels (λ level. depends_by a.writes level a.entity e) n) is.element_is))

  all_keys : (s : BlockSite) (a : SourceAccess) → IsSiteOf scene levels (paths_counted around) s a → charges.loop_factors a.site.loops ≡ level_factors levels → used_by (Some None) (Some s) (paths_counted around) ≡ keys_of p a
  all_keys s a is loops =
      led_keys s a is loops (paths_counted around)
      ∙ (ap (λ n. leads_below (leader_number levels (depends (all_bindings_of p) a)) n) counted
      ∙ ((all_leaders_are_keys levels spread (depends (all_bindings_of p) a)).all ∙ ap (λ (fs : List ℕ). distinct_count same_path (map (picked (depends (all_bindings_of p) a) 0) (paths_in fs))) (sym loops)))

  shared_none : (j : ℕ) (s : BlockSite) (n : ℕ) → used_by (Some (Some j)) (Some s) n ≡ 0
  shared_none j s zero = refl
  shared_none j s (suc n) = let e = shared_none j s n in omega (arith, e)

  wanted : (s : BlockSite) (number : ℕ) (a : SourceAccess) → access_at p number ≡ Some a → IsSiteOf scene levels (paths_counted around) s a → charges.loop_factors a.site.loops ≡ level_factors levels
      → used_by (slice_get scene.shares.now number) (Some s) (paths_counted around) ≡ uses_wanted p number a
  wanted s number a at is loops = ap (λ (o : Option (Option ℕ)). used_by o (Some s) (paths_counted around)) told ∙ by (shared p number)
    where
      told : slice_get scene.shares.now number ≡ Some (shared p number)
      told = tells.each number (subst (λ (n : ℕ). number < n) (sym (as_many scene tells) ∙ tells.long) (place_within (accesses_in (trace p)) number a at))

      by : (o : Option ℕ) → used_by (Some o) (Some s) (paths_counted around) ≡ (if is_some o then 0 else keys_of p a)
      by None = all_keys s a is loops
      by (Some j) = shared_none j s (paths_counted around)

  paths_long : (a : SourceAccess) → charges.loop_factors a.site.loops ≡ level_factors levels → paths_counted around ≡ length (paths_of a)
  paths_long a loops = counted ∙ (ap copies_in (sym loops) ∙ sym (length_paths (charges.loop_factors a.site.loops)))

  -- All accesses, by their sites.
  module _ (makes : ℕ → Truth) (sites : ℕ → Option BlockSite) (sited : AreSited scene around makes sites) (loops : (number : ℕ) (a : SourceAccess) → makes number ≡ true → access_at p number ≡ Some a → charges.loop_factors a.site.loops ≡ level_factors levels) where
    lost : (b : Truth) → b ≡ true → b ≡ false → ⊥
    lost b e g = cc

    used_as_made : (number : ℕ) (a : SourceAccess) → access_at p number ≡ Some a → used_to scene sites (paths_counted around) number ≡ (if makes number then uses_wanted p number a else 0)
    used_as_made number a at = by (sites number) refl (makes number) (sited.made number)
      where
        by : (o : Option BlockSite) → sites number ≡ o → (b : Truth) → is_some (sites number) ≡ b → used_by (slice_get scene.shares.now number) (sites number) (paths_counted around) ≡ (if b then uses_wanted p number a else 0)
        by None e true h = absurd (lost (is_some (sites number)) h (ap is_some e))
        by None e false h = ap (λ (s : Option BlockSite). used_by (slice_get scene.shares.now number) s (paths_counted around)) e ∙ used_nowhere (slice_get scene.shares.now number) (paths_counted around)
        by (Some s) e true h =
            ap (λ (s : Option BlockSite). used_by (slice_get scene.shares.now number) s (paths_counted around)) e
            ∙ wanted s number a at (sited.told number s a e at) (loops number a (sym (sited.made number) ∙ h) at)
        by (Some s) e false h = absurd (lost (is_some (sites number)) (ap is_some e) h)

    probed_as_made : (number : ℕ) (a : SourceAccess) → access_at p number ≡ Some a → probed_by (sites number) (paths_counted around) ≡ (if makes number then length (paths_of a) else 0)
    probed_as_made number a at = by (sites number) refl (makes number) (sited.made number)
      where
        by : (o : Option BlockSite) → sites number ≡ o → (b : Truth) → is_some (sites number) ≡ b → probed_by (sites number) (paths_counted around) ≡ (if b then length (paths_of a) else 0)
        by None e true h = absurd (lost (is_some (sites number)) h (ap is_some e))
        by None e false h = ap (λ (s : Option BlockSite). probed_by s (paths_counted around)) e
        by (Some s) e true h = ap (λ (s : Option BlockSite). probed_by s (paths_counted around)) e ∙ paths_long a (loops number a (sym (sited.made number) ∙ h) at)
        by (Some s) e false h = absurd (lost (is_some (sites number)) (ap is_some e) h)

    -- of a block, whose operations are these and quiet ones behind
    block_as_made : (plan : PlainPlan) (block : ℕ) (old new end : Draft) → AddsUses old new (used_to scene sites (paths_counted around)) → AddsProbes old new (λ number. probed_by (sites number) (paths_counted around))
        → IsCutFrom plan block old end → EndsQuietly new end → UsesAsMade p plan block makes
    block_as_made plan block old new end uses probes cut ends = record {
      uses = λ number a at. ap (λ (os : List Operation). operations_using number os) (are uses.more uses.adds)
          ∙ (uses_append number uses.more ends.more ∙ (plus_none _ _ (ends.no_use number) ∙ (uses.uses_are number ∙ used_as_made number a at)));
      probes = λ number a at. ap (λ (os : List Operation). probes_among number os) (are probes.more probes.adds)
          ∙ (append_probes number probes.more ends.more ∙ (plus_none _ _ (ends.no_probe number) ∙ (probes.probes_are number ∙ probed_as_made number a at)));
    }
      where
        are : (more : List Operation) → new.operations.items ≡ old.operations.items ++ more → operations_in plan block ≡ more ++ ends.more
        are more adds =
            cut
            ∙ (ap (λ (os : List Operation). drop (length old.operations.items) os) (ends.adds ∙ (ap (λ (os : List Operation). os ++ ends.more) adds ∙ append_assoc old.operations.items more ends.more))
            ∙ drop-append_seam old.operations.items (more ++ ends.more))

        plus_none : (a b : ℕ) → b ≡ 0 → a + b ≡ a
        plus_none a b e = omega (arith, e)

-- Blocks.

pub each_of : (P : Located → Type 0) (cs : List Located) → ((c : Located) → Has c cs → P c) → AllByRecursion P cs
each_of P [] h = tt
each_of P (c ∷ cs) h = (h c (inl refl), each_of P cs (λ d g. h d (inr g)))

pub some_paths : (scene : Scene) (around : Around) (makes : ℕ → Truth) → IsInLoops scene around makes → 0 < paths_counted around
some_paths scene around makes h = subst (λ (n : ℕ). 0 < n) (sym h.counted) (some_copies around.levels.now h.spread)

pub paths_lead : (scene : Scene) (around : Around) (makes : ℕ → Truth) → IsInLoops scene around makes → PathsLead around
paths_lead scene around makes h path within = all_lead around.levels.now h.spread path (subst (λ (n : ℕ). path < n) h.counted within)

pub straights_use_as_made : StraightsUseAsMade
straights_use_as_made scene plan block around cs old new end m here along named has tells bare cut ends =
    block_as_made scene around here.spread here.counted tells (λ number. any_makes number cs) (block_sites scene around cs old new m) sited here.loops plan block old.draft new.draft end
    (blocks_use scene around cs old new m here.stands (paths_lead scene around (λ number. any_makes number cs) here) some along (writes_alone scene tells cs reach stand)
    (shares_inside scene tells (λ number. any_makes number cs) (block_sites scene around cs old new m) sited.made (λ k e. any_below (trace (program_seen scene.program.now)) cs k stand e) (λ j k one made. straight_has_both (program_seen scene.program.now) cs j k found made one)) bare)
    (blocks_probe scene around cs old new m here.stands some along) cut ends
  where
    reach : AllByRecursion (λ (c : Located). StoresReach c.command) cs
    reach = along_reach 0 cs along

    found : HasStraight (phases_of (program_seen scene.program.now) ++ idle_phases_of (program_seen scene.program.now)) cs
    found = straight_either (phases_of (program_seen scene.program.now)) (idle_phases_of (program_seen scene.program.now)) cs (inl has)

    stand : AllStand scene cs
    stand = each_of (λ (c : Located). StandsAmong 0 (trace (program_seen scene.program.now)) c) cs (λ c g. straight_stands (program_seen scene.program.now) cs c found g)

    sited : AreSited scene around (λ number. any_makes number cs) (block_sites scene around cs old new m)
    sited = blocks_are_sited scene around cs old new m named stand

    some : 0 < paths_counted around
    some = some_paths scene around (λ number. any_makes number cs) here

pub tests_use_as_made : TestsUseAsMade
tests_use_as_made scene plan block around tested t old new end next tests m is here few has tells bare cut ends =
    block_as_made scene around here.spread here.counted tells (λ number. test_makes number tested) (test_sites scene around tested.first t) sited here.loops plan block old.draft new.draft end
    (tests_use scene around tested.first t old new next tests m here.stands few
    (shares_inside scene tells (λ number. test_makes number tested) (test_sites scene around tested.first t) sited.made (λ k e. test_below (trace (program_seen scene.program.now)) tested k stand e)
    (λ j k one made. test_has_both (program_seen scene.program.now) tested j k found made one)) bare)
    (tests_probe scene around tested.first t old new next tests m here.stands few) cut ends
  where
    found : HasTest (phases_of (program_seen scene.program.now) ++ idle_phases_of (program_seen scene.program.now)) tested
    found = test_either (phases_of (program_seen scene.program.now)) (idle_phases_of (program_seen scene.program.now)) tested (inl has)

    stand : StandsAmong 0 (trace (program_seen scene.program.now)) tested
    stand = test_stands (program_seen scene.program.now) tested found

    sited : AreSited scene around (λ number. test_makes number tested) (test_sites scene around tested.first t)
    sited = tests_are_sited scene around tested t is stand

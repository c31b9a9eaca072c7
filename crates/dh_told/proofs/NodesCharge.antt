-- The blocks that were made charge no more than the program: what is told of each as it was made is what laws on blocks ask.
use Rattle.std.proofs.Common.{◌≡◌, inl, inr, ◌<◌, ◌+◌, ◌==◌, ℕ, List, [], ◌∷◌, ◌++◌, length, Option, Some, None, refl, ap, sym, ◌∙◌, subst, arith, append_assoc}
use Rattle.std.specs.Prelude.{Bool as Truth, true, false, if◌then◌else◌, slice_get}
use Rattle.std.specs.List.{AllByRecursion}
use Rattle.std.proofs.lemmas.Bool.{eqb-true}
use Rattle.dh_tree.specs.declared.trees.counters.Counter.{Counter}
use Rattle.dh_tree.specs.PlainTrees.{Program}
use Rattle.dh_tree.specs.Seen.{program_seen}
use Rattle.dh_meaning.specs.AccessNumbers.{term_accesses}
use Rattle.dh_meaning.specs.Core.{CoreCommands, CoreTerm}
use Rattle.dh_meaning.specs.CoreOf.{core_of}
use Rattle.dh_meaning.specs.OnePhase.{any_makes, test_makes}
use Rattle.dh_meaning.specs.Phases.{Located, idle_phases_of, phases_of}
use Rattle.dh_meets.specs.SourceEvents as source
use Rattle.dh_meets.specs.SourceEvents.{SourceAccess, accesses_in, trace}
use Rattle.dh_plan.specs.declared.operations.Operation.{Operation}
use Rattle.dh_plan.specs.declared.operations.OperationForm.{OperationForm}
use Rattle.dh_plan.specs.declared.operations.OperationForm.TheVariants.{Compute, Set}
use Rattle.dh_value.specs.declared.operators.Op.TheVariants.{Both}
use Rattle.dh_plan.specs.Correspondence.{Round, loops_round}
use Rattle.dh_plan.specs.PlainPlans.{PlainPlan, operations_in}
use Rattle.dh_plan.specs.SoundPlans.{IsOneOf, blocks_of, use_in}
use Rattle.dh_sound.specs.LoopsMatch.{EachMatches, unrolled_loops}
use Rattle.dh_sound.specs.PhaseFacts.{HasStraight, HasTest, StandsAmong}
use Rattle.dh_sound.specs.ToldEvents.{access_at}
use Rattle.dh_sound.proofs.LocatedSites.{straight_loops, test_stands_there}
use Rattle.dh_sound.proofs.LoopsMatch.{EachInside}
use Rattle.dh_sound.proofs.PhasesHold.{AllHold}
use Rattle.dh_sound.proofs.SamePhase.{straight_has_both, test_has_both}
use Rattle.dh_sound.proofs.Slices.{straight_either, straight_stands, test_either, test_stands}
use Rattle.dh_lengths.specs.SharedReads.{TellsShares, share_told}
use Rattle.dh_expressions.specs.declared.drafts.Draft.{Draft}
use Rattle.dh_expressions.specs.declared.scenes.Around.{Around}
use Rattle.dh_expressions.specs.declared.scenes.Scene.{Scene}
use Rattle.dh_expressions.specs.Evaluated.{known_in}
use Rattle.dh_expressions.specs.Shown.{is_read_term}
use Rattle.dh_formed.specs.Formed.{BlockSite}
use Rattle.dh_laid.specs.BlockSites.{block_sites, test_sites}
use Rattle.dh_laid.specs.LaidNumbers.{StoresReach}
use Rattle.dh_laid.specs.LaidQuiet.{BlockStandsIn}
use Rattle.dh_laid.specs.LaidUses.{AreAlong, HaveNoOperations}
use Rattle.dh_laid.proofs.SitesLaid.{along_reach}
use Rattle.dh_blocks.specs.BlockMade.{IsTop}
use Rattle.dh_gathering.specs.declared.blocks.Made.{Made}
use Rattle.dh_gathering.specs.MadeBlocks.{AddsFlag, IsRoundBlock, IsStraightBlock, IsTestBlock, made_tie}
use Rattle.dh_gathering.specs.PushedSets.{settings}
use Rattle.dh_gathering.proofs.BlocksPlanned.{operations_are}
use Rattle.dh_phased.proofs.RoundsTop.{rounds_are_top}
use Rattle.dh_charged.specs.ChargedBlocks.{EndsUnused, StandsAtPaths, charges_blocks}
use Rattle.dh_charged.specs.ChargedUses.{AreLevelsOf, HasShares, OperationsCharge}
use Rattle.dh_charged.specs.AccessMemories.{HaveMemories}
use Rattle.dh_charged.proofs.BlocksCharged.{blocks_charge_less, plans_charge, tests_charge_less}
use Rattle.dh_used.specs.MadePlans.{IsMadeOf}
use Rattle.dh_used.specs.SourceSites.{AllStand, AreSited}
use Rattle.dh_used.specs.UsedPlans.{listed}
use Rattle.dh_used.proofs.BlocksByKeys.{each_of}
use Rattle.dh_used.proofs.NodesMade.{along, bare_at, bare_made, body_inside, body_named, inside_of, maker, nodes_so, straight_inside, straight_named, straight_there, test_inside, test_there}
use Rattle.dh_used.proofs.PlansUsed.{all_named, named_facts}
use Rattle.dh_used.proofs.SharesOfProgram.{any_below, shares_inside, test_below, writes_alone}
use Rattle.dh_used.proofs.SitesOfSource.{blocks_are_sited, blocks_placed, test_placed_all, tests_are_sited}
use Rattle.dh_told.specs.SpentPlans.{MadeNodesCharge, MadePlansCharge}
use Rattle.dh_told.proofs.LevelsOfLoops.{levels_of}
use Rattle.dh_told.proofs.SitesOfPlan.{sites_at}

-- Reads that are shared.

has_shares : (scene : Scene) → TellsShares (program_seen scene.program.now) scene.shares.now → HasShares scene
has_shares scene tells number earlier e = by (slice_get scene.shares.now number) refl
  where
    by : (o : Option (Option ℕ)) → slice_get scene.shares.now number ≡ o → slice_get scene.shares.now number ≡ Some (Some earlier)
    by None f = absurd (never (sym (ap share_told f) ∙ (tells.all number ∙ e)))
      where
        never : None ≡ Some earlier → ⊥
        never g = cc
    by (Some x) f = f ∙ ap (λ (y : Option ℕ). Some y) (sym (ap share_told f) ∙ (tells.all number ∙ e))

-- What stands behind the operations of commands.

sets_unused : (ss : List (ℕ × ℕ)) → AllByRecursion (λ (o : Operation). use_in o.form ≡ None) (settings ss)
sets_unused [] = tt
sets_unused (s ∷ ss) = (refl, sets_unused ss)

abbrev unguarded : OperationForm → Operation
unguarded form = record { guard = None; form = form }

flag_unused : (read : Truth) (old new : Draft) (value flag : ℕ) → AddsFlag read old new value flag → EndsUnused old new
flag_unused true old new value flag (mid, (made, (number, (both, set)))) = record {
  more = unguarded (Compute Both value value) ∷ (unguarded (Set flag made) ∷ []);
  adds = set.operations
      ∙ (ap (λ (os : List Operation). os ++ unguarded (Set flag made) ∷ []) both.operations
      ∙ append_assoc old.operations.items (unguarded (Compute Both value value) ∷ []) (unguarded (Set flag made) ∷ []));
  unused = (refl, (refl, tt));
}
flag_unused false old new value flag (number, set) = record { more = unguarded (Set flag value) ∷ []; adds = set.operations; unused = (refl, tt) }

-- Blocks.

module _ (scene : Scene) (final : Made) (plan : PlainPlan) (is : IsMadeOf scene final plan) (memories : HaveMemories (program_seen scene.program.now)) where
  abbrev p : Program
  p = program_seen scene.program.now

  module _ (rounds : List Round) (around : Around) (round : IsRoundBlock rounds around) (stands : BlockStandsIn scene around) where
    top : IsTop rounds around
    top = rounds_are_top scene rounds around round stands

    at_paths : StandsAtPaths scene around
    at_paths = record { stands = stands; spread = top.spread; counted = top.counted }

  module _ (rounds : List Round) (cs : CoreCommands) (block : ℕ) (b : IsStraightBlock scene final rounds cs block) where
    abbrev ls : List Located
    ls = b.located

    abbrev sites : ℕ → Option BlockSite
    sites = block_sites scene b.made.around b.located b.made.before b.made.between b.made.made

    abbrev made_here : ℕ → Truth
    made_here number = any_makes number b.located

    has : HasStraight (phases_of p) ls
    has = straight_there (known_in scene) [] (phases_of p) (loops_round rounds) ls b.placed

    found : HasStraight (phases_of p ++ idle_phases_of p) ls
    found = straight_either (phases_of p) (idle_phases_of p) ls (inl has)

    named : AllHold (named_facts (known_in scene)) tt ls
    named = straight_named (known_in scene) (phases_of p) ls (body_named scene final plan is) has

    going : AreAlong 0 ls
    going = along (known_in scene) 0 ls b.made.rising named

    reach : AllByRecursion (λ (c : Located). StoresReach c.command) ls
    reach = along_reach 0 ls going

    stand : AllStand scene ls
    stand = each_of (λ (c : Located). StandsAmong 0 (trace p) c) ls (λ c g. straight_stands p ls c found g)

    sited : AreSited scene b.made.around made_here sites
    sited = blocks_are_sited scene b.made.around ls b.made.before b.made.between b.made.made (all_named (known_in scene) ls named) stand

    below : (k : ℕ) → any_makes k ls ≡ true → k < length (accesses_in (trace p))
    below k e = any_below (trace p) ls k stand e

    matched : EachInside (known_in scene) (unrolled_loops (loops_round rounds)) ls
    matched = straight_inside (known_in scene) [] (phases_of p) (loops_round rounds) ls (body_inside scene final plan is) b.placed

    loops : (number : ℕ) (a : SourceAccess) → any_makes number ls ≡ true → access_at p number ≡ Some a → AreLevelsOf b.made.around.levels.now a.site.loops
    loops number a made at =
        let c = maker number ls made in
        levels_of (known_in scene) rounds b.made.around.levels.now b.made.round.paths a.site.loops b.made.round.levels.within
        (subst (λ (l : List Counter). EachMatches (known_in scene) (unrolled_loops (loops_round rounds)) l) (sym (straight_loops number a p at ls c.0 found c.1.0 c.1.1))
        (inside_of (known_in scene) (unrolled_loops (loops_round rounds)) ls c.0 matched c.1.0))

    untouched : HaveNoOperations sites b.made.before.accesses
    untouched = record {
      none = b.made.counts;
      there = λ number s at. (bare_made b.made.before.accesses ls number b.made.bare (blocks_placed scene b.made.around ls b.made.before b.made.between b.made.made (all_named (known_in scene) ls named) number s at)).0;
      bare = λ number s at. (bare_made b.made.before.accesses ls number b.made.bare (blocks_placed scene b.made.around ls b.made.before b.made.between b.made.made (all_named (known_in scene) ls named) number s at)).1;
    }

    straight_charges : OperationsCharge p (operations_in plan block)
    straight_charges =
        blocks_charge_less scene plan block b.made.around ls b.made.before b.made.between b.made.after.draft b.made.made
        (at_paths rounds b.made.around b.made.round b.made.stands_in) going (writes_alone scene is.tells ls reach stand)
        (shares_inside scene is.tells made_here sites sited.made below (λ j k one made. straight_has_both p ls j k found made one))
        untouched (has_shares scene is.tells)
        (sites_at scene b.made.around (top rounds b.made.around b.made.round b.made.stands_in).counted plan.views is.views is.ways is.rows made_here sites sited below loops memories)
        (operations_are final plan.blocks is.blocks block b.made.before b.made.after b.made.stands)
        (record { more = settings b.made.sets.sets; adds = b.made.sets.operations; unused = sets_unused b.made.sets.sets })

  module _ (rounds : List Round) (test : CoreTerm) (flag block : ℕ) (b : IsTestBlock scene final rounds test flag block) where
    abbrev own_sites : ℕ → Option BlockSite
    own_sites = test_sites scene b.made.around b.tested.first b.term

    abbrev tested_here : ℕ → Truth
    tested_here number = test_makes number b.tested

    test_has : HasTest (phases_of p) b.tested
    test_has = test_there (known_in scene) [] (phases_of p) (loops_round rounds) b.tested b.placed

    test_found : HasTest (phases_of p ++ idle_phases_of p) b.tested
    test_found = test_either (phases_of p) (idle_phases_of p) b.tested (inl test_has)

    test_stand : StandsAmong 0 (trace p) b.tested
    test_stand = test_stands p b.tested test_found

    test_sited : AreSited scene b.made.around tested_here own_sites
    test_sited = tests_are_sited scene b.made.around b.tested b.term b.term_is test_stand

    test_low : (k : ℕ) → test_makes k b.tested ≡ true → k < length (accesses_in (trace p))
    test_low k e = test_below (trace p) b.tested k test_stand e

    test_loops : (number : ℕ) (a : SourceAccess) → test_makes number b.tested ≡ true → access_at p number ≡ Some a → AreLevelsOf b.made.around.levels.now a.site.loops
    test_loops number a made at =
        levels_of (known_in scene) rounds b.made.around.levels.now b.made.round.paths a.site.loops b.made.round.levels.within
        (subst (λ (l : List Counter). EachMatches (known_in scene) (unrolled_loops (loops_round rounds)) l) (sym (ap (λ (s : source.Site). s.loops) (test_stands_there number a p at b.tested test_found made)))
        (test_inside (known_in scene) [] (phases_of p) (loops_round rounds) b.tested (body_inside scene final plan is) b.placed))

    test_untouched : HaveNoOperations own_sites b.made.before.accesses
    test_untouched = record {
      none = b.made.counts;
      there = λ number s at. let w = test_placed_all scene b.made.around b.tested.first b.term number s at in (bare_at b.made.before.accesses b.tested.first (term_accesses b.term) number b.made.bare w.0 w.1).0;
      bare = λ number s at. let w = test_placed_all scene b.made.around b.tested.first b.term number s at in (bare_at b.made.before.accesses b.tested.first (term_accesses b.term) number b.made.bare w.0 w.1).1;
    }

    test_charges : OperationsCharge p (operations_in plan block)
    test_charges =
        tests_charge_less scene plan block b.made.around b.tested.first b.term b.made.before b.made.between b.made.after.draft b.made.next b.made.tests b.made.made
        (at_paths rounds b.made.around b.made.round b.made.stands_in) b.made.few
        (shares_inside scene is.tells tested_here own_sites test_sited.made test_low (λ j k one made. test_has_both p b.tested j k test_found made one))
        test_untouched (has_shares scene is.tells)
        (sites_at scene b.made.around (top rounds b.made.around b.made.round b.made.stands_in).counted plan.views is.views is.ways is.rows tested_here own_sites test_sited test_low test_loops memories)
        (operations_are final plan.blocks is.blocks block b.made.before b.made.after b.made.stands)
        (flag_unused (is_read_term b.term) b.made.between.draft b.made.after.draft b.made.value flag b.made.adds)

pub made_nodes_charge : MadeNodesCharge
made_nodes_charge scene final plan is memories =
    nodes_so (made_tie scene final) (charges_blocks (program_seen scene.program.now) plan) (λ rounds cs block h. straight_charges scene final plan is memories rounds cs block h)
    (λ rounds test flag block h. test_charges scene final plan is memories rounds test flag block h) (λ rounds loop counter h. tt) [] (core_of (program_seen scene.program.now)).phases plan.body is.nodes

-- what is listed once is listed
listed_once : (block : ℕ) (bs : List ℕ) → listed block bs ≡ 1 → IsOneOf block bs
listed_once block [] e = absurd (never e)
  where
    never : ◌≡◌ {A = ℕ} 0 1 → ⊥
    never e = omega (arith, e)
listed_once block (b ∷ bs) e = by (block == b) refl e (λ g. listed_once block bs g)
  where
    none : (n : ℕ) → 0 + n ≡ 1 → n ≡ 1
    none n h = omega (arith, h)

    by : (t : Truth) → (block == b) ≡ t → (if t then 1 else 0) + listed block bs ≡ 1 → (listed block bs ≡ 1 → IsOneOf block bs) → IsOneOf block (b ∷ bs)
    by true f g later = inl (eqb-true block b f)
    by false f g later = inr (later (none (listed block bs) g))

pub made_plans_charge : MadePlansCharge
made_plans_charge scene final plan is memories once =
    plans_charge (program_seen scene.program.now) plan (core_of (program_seen scene.program.now)).phases (made_nodes_charge scene final plan is memories) (λ block within. listed_once block (blocks_of plan.body) (once block within))

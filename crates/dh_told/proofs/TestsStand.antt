-- The block of a test that was made of a ready program stands as its accesses are asked.
use Rattle.std.proofs.Common.{◌≡◌, ℕ, ◌<◌, ◌≤◌, Bool, true, false, List, [], length, None, arith}
use Rattle.std.specs.Prelude.{slice_get, slice_index}
use Rattle.dh_tree.specs.PlainTrees as plain
use Rattle.dh_tree.specs.Seen.{program_seen}
use Rattle.dh_meaning.specs.Core.{CoreTerm}
use Rattle.dh_meaning.specs.OnePhase.{test_makes}
use Rattle.dh_meaning.specs.Phases.{phases_of}
use Rattle.dh_meets.specs.SourceEvents.{SourceAccess, accesses_in, trace, with_indices}
use Rattle.dh_sound.specs.PhaseFacts.{HasTest}
use Rattle.dh_sound.proofs.LocatedSites.{test_first}
use Rattle.dh_sound.proofs.SamePhase.{test_has_both}
use Rattle.dh_plan.specs.Correspondence.{Round, loops_round}
use Rattle.dh_plan.specs.PlainPlans.{PlainPlan}
use Rattle.dh_expressions.specs.declared.scenes.Scene.{Scene}
use Rattle.dh_expressions.specs.Evaluated.{known_in}
use Rattle.dh_expressions.specs.Shown.{is_read_term}
use Rattle.dh_laid.specs.BlockSites.{test_sites}
use Rattle.dh_blocks.specs.SlotsOfScene.{placing_in}
use Rattle.dh_blocks.specs.TestMade.{flag_made}
use Rattle.dh_gathering.specs.declared.blocks.Made.{Made}
use Rattle.dh_gathering.specs.LoopCounters.{AreCounting}
use Rattle.dh_gathering.specs.MadeBlocks.{IsTestBlock}
use Rattle.dh_phased.proofs.BlocksMade.{test_is_made}
use Rattle.dh_used.proofs.SharesOfProgram.{test_below}
use Rattle.dh_used.proofs.SitesOfSource.{tests_are_sited}
use Rattle.dh_told.proofs.PhasesHeld.{test_there}
use Rattle.dh_told.specs.PlansTold.{IsOfReady}
use Rattle.dh_told.proofs.BlocksTold.{holds, test_formed, test_found, test_stand}
use Rattle.dh_reached.specs.ReachedBlocks.{TestStands}
use Rattle.dh_told.specs.ReadsOfBlocks.{is_read_of, reads_in}
use Rattle.dh_told.proofs.CopiesOfPhases.{test_stands_few}
use Rattle.dh_told.proofs.ReadsShared.{first_true, shares_read}
use Rattle.dh_told.proofs.SpreadPaths.{flag_unused, stands_spread}

-- whatever access it is
any_access : SourceAccess
any_access = record { place = record { line = 0; column = 0 }; entity = None; element = with_indices plain.no_terms; writes = false; site = record { command = 0; arms = []; loops = [] } }

module _ (scene : Scene) (count : ℕ) (plan : PlainPlan) (final : Made) (h : IsOfReady scene count plan final) (rounds : List Round) (test : CoreTerm) (flag block : ℕ) (s : IsTestBlock scene final rounds test flag block)
    (counting : AreCounting scene (placing_in scene) rounds) where
  pub test_has : HasTest (phases_of (program_seen scene.program.now)) s.tested
  test_has = test_there (known_in scene) (phases_of (program_seen scene.program.now)) [] (loops_round rounds) s.tested s.placed

  abbrev makes : ℕ → Bool
  makes number = test_makes number s.tested

  none_before : (e : ℕ) → e < s.tested.first → reads_in scene makes e ≡ true → ⊥
  none_before e less reads =
      let w = test_first e any_access s.tested.first s.tested.command (first_true (test_makes e s.tested) (is_read_of (slice_get (accesses_in (trace (program_seen scene.program.now))) e)) reads) in
      never w.0
    where
      never : s.tested.first ≤ e → ⊥
      never l = omega (arith, l, less)

  pub test_stands_so : TestStands scene s.made.around plan count block s.tested.first s.term s.made.before s.made.between s.made.next s.made.tests
      (flag_made (is_read_term s.term) flag (slice_index s.made.tests 0) (length s.made.between.draft.operations.items)) (reads_in scene makes)
  test_stands_so = record {
    put = (test_is_made scene plan count final h.made rounds s.tested.first s.term flag block s.made (test_formed scene count plan final h rounds test flag block s counting).ordered).put;
    unused = flag_unused (is_read_term s.term) flag (slice_index s.made.tests 0) (length s.made.between.draft.operations.items);
    stands = stands_spread scene count plan (holds scene count plan final h) rounds s.made.around s.made.round s.made.stands_in (test_stands_few (known_in scene) (program_seen scene.program.now) h.ready.limits (loops_round rounds) s.tested s.placed);
    made = s.made.made;
    few = s.made.few;
    bare = s.made.bare;
    none_before = none_before;
    shares = shares_read scene h.shares s.made.around makes (test_sites scene s.made.around s.tested.first s.term)
        (tests_are_sited scene s.made.around s.tested s.term s.term_is (test_stand scene count plan final h rounds test flag block s counting))
        (λ k e. test_below (trace (program_seen scene.program.now)) s.tested k (test_stand scene count plan final h rounds test flag block s counting) e)
        (λ j k one made. test_has_both (program_seen scene.program.now) s.tested j k (test_found scene count plan final h rounds test flag block s counting) made one);
  }

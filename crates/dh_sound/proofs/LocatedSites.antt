-- Where the accesses of a located command stand: in the unrolled loops that stand round the command, and in all the
-- arms round it. For the events of the command are those of the program that have its numbers.
use Rattle.std.proofs.Common.{◌≡◌, ℕ, ◌+◌, true, List, ◌++◌, Some, slice_get, ap, subst, arith}
use Rattle.dh_tree.specs.PlainTrees.{Action, action, lets, lets_memory, views, assigns, stores, reduces, calls, blocks, decides, repeats, counts, Program}
use Rattle.dh_meaning.specs.AccessNumbers.{term_accesses, accesses_of}
use Rattle.dh_meaning.specs.Sites.{Around}
use Rattle.dh_meaning.specs.Phases.{Located, phases_of, idle_phases_of}
use Rattle.dh_meaning.specs.OnePhase.{makes, tests_make, test_makes}
use Rattle.dh_meets.specs.SourceEvents.{SourceAccess, SourceEvent, accesses_in, site_of, source_term_events, events, trace}
use Rattle.dh_sound.specs.PhaseFacts.{HasStraight, HasTest, StandsAmong}
use Rattle.dh_carried.proofs.Pigeons.{Has}
use Rattle.dh_sound.proofs.EventCounts.{term_counted, events_counted}
use Rattle.dh_sound.proofs.Sums.{Within}
use Rattle.dh_sound.proofs.Slices.{straight_stands, test_stands}
use Rattle.dh_sound.proofs.Sited.{At, at_left, at_right, at_slice, term_site, made_loops, within_span, makes_within}

module _ (k : ℕ) (a : SourceAccess) where
  -- an access with a number of a command is one of its events
  pub located_at : (es : List SourceEvent) (c : Located) → StandsAmong 0 es c → Within k c.first (accesses_of c.command) → slice_get (accesses_in es) k ≡ Some a
      → At c.first k (events c.around c.command) a
  located_at es c s w e =
      at_left k a c.first (c.first + accesses_of c.command) (events c.around c.command) s.after (ap (λ x. c.first + x) (events_counted c.around c.command)) w.1
      (at_right k a 0 c.first s.before (events c.around c.command ++ s.after) s.counted w.0
      (subst (λ (x : List SourceEvent). At 0 k x a) s.all (at_slice k a 0 k es (omega arith) e)))

  pub test_first : (n : ℕ) (c : Action) → tests_make k n c ≡ true → Within k n (accesses_of c)
  test_first n (action id place (decides test arm other)) e = let (l, h) = within_span k n (term_accesses test) e in (l, omega (arith, h))
  test_first n (action id place (repeats test body)) e = let (l, h) = within_span k n (term_accesses test) e in (l, omega (arith, h))
  test_first n (action id place (lets name declared value)) e = cc
  test_first n (action id place (lets_memory name shape shape_places value)) e = cc
  test_first n (action id place (views name parent form)) e = cc
  test_first n (action id place (assigns target value)) e = cc
  test_first n (action id place (stores target value)) e = cc
  test_first n (action id place (reduces target op value)) e = cc
  test_first n (action id place (calls function arguments)) e = cc
  test_first n (action id place (blocks body)) e = cc
  test_first n (action id place (counts iterator declared low high factor body combine combine_place)) e = cc

  -- the number of a command
  abbrev pub number_of : Action → ℕ
  number_of (action id place form) = id

  test_site : (r : Around) (n : ℕ) (c : Action) → tests_make k n c ≡ true → At n k (events r c) a → a.site ≡ site_of r (number_of c)
  test_site r n (action id place (decides test arm other)) e h =
      term_site k a (site_of r id) test n (at_left k a n (n + term_accesses test) (source_term_events (site_of r id) test) _ (ap (λ x. n + x) (term_counted (site_of r id) test)) (within_span k n (term_accesses test) e).1 h)
  test_site r n (action id place (repeats test body)) e h =
      term_site k a (site_of r id) test n (at_left k a n (n + term_accesses test) (source_term_events (site_of r id) test) _ (ap (λ x. n + x) (term_counted (site_of r id) test)) (within_span k n (term_accesses test) e).1 h)
  test_site r n (action id place (lets name declared value)) e h = cc
  test_site r n (action id place (lets_memory name shape shape_places value)) e h = cc
  test_site r n (action id place (views name parent form)) e h = cc
  test_site r n (action id place (assigns target value)) e h = cc
  test_site r n (action id place (stores target value)) e h = cc
  test_site r n (action id place (reduces target op value)) e h = cc
  test_site r n (action id place (calls function arguments)) e h = cc
  test_site r n (action id place (blocks body)) e h = cc
  test_site r n (action id place (counts iterator declared low high factor body combine combine_place)) e h = cc

  module _ (p : Program) (is : slice_get (accesses_in (trace p)) k ≡ Some a) where
    -- the loops round an access that a command of a Straight phase makes are those round the command
    pub straight_loops : (cs : List Located) (c : Located)
        → HasStraight (phases_of p ++ idle_phases_of p) cs → Has c cs → makes k c.first c.command ≡ true → a.site.loops ≡ c.around.loops
    straight_loops cs c h g m = made_loops k a c.around c.first c.command m (located_at (trace p) c (straight_stands p cs c h g) (makes_within k c.first c.command m) is)

    -- an access that a test makes stands where the command of the test does
    pub test_stands_there : (c : Located) → HasTest (phases_of p ++ idle_phases_of p) c → test_makes k c ≡ true → a.site ≡ site_of c.around (number_of c.command)
    test_stands_there c h m = test_site c.around c.first c.command m (located_at (trace p) c (test_stands p c h) (test_first c.first c.command m) is)

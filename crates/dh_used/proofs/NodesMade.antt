-- Blocks as they were made use what their commands make: they stand in their loops, and end with registers that are set.
use Rattle.std.proofs.Common.{◌≡◌, inl, inr, ◌<◌, ◌≤◌, ◌+◌, ◌-◌, ◌||◌, ℕ, List, Some, None, ap, sym, ◌∙◌, subst, length, arith, refl, append_assoc}
use Rattle.std.specs.Prelude.{Bool as Truth, true, false, [], ◌∷◌, ◌++◌}
use Rattle.std.specs.List.{AllByRecursion}
use Rattle.dh_tree.specs.PlainTrees.{Program}
use Rattle.dh_tree.specs.Seen.{program_seen}
use Rattle.dh_meaning.specs.AccessNumbers.{accesses_of, term_accesses}
use Rattle.dh_meaning.specs.Core.{CoreCommands, CoreTerm, Turning, CorePhase, straightly, turning, looping, choosing, CorePhases, no_core_phases, phase_and}
use Rattle.dh_meaning.specs.CoreOf.{Known, core_of, action_form_of, known_of, turning_of}
use Rattle.dh_meaning.specs.OnePhase.{any_makes, makes, test_makes}
use Rattle.dh_meaning.specs.Phases.{Located, Phase, straight, turns, repeated, decided, Phases, no_phases, phase, idle_phases_of, phases_of}
use Rattle.dh_meaning.specs.Sites.{nothing_around}
use Rattle.dh_meets.specs.SourceEvents.{SourceAccess}
use Rattle.dh_value.specs.declared.operators.Op.TheVariants.{Both}
use Rattle.dh_plan.specs.declared.operations.Operation.{Operation}
use Rattle.dh_plan.specs.declared.operations.OperationForm.{OperationForm}
use Rattle.dh_plan.specs.declared.operations.OperationForm.TheVariants.{Compute, Set}
use Rattle.dh_plan.specs.Correspondence.{Round, loops_round}
use Rattle.dh_plan.specs.DoneProgram.{operations_using, probes_among}
use Rattle.dh_plan.specs.PlainPlans.{Node, block_node, turns_node, loop_node, choice_node, threads_node, Nodes, no_nodes, node_then, PlainPlan}
use Rattle.dh_plan.specs.PlanPhases.{AreNodesOf, IsNodeOf, Tie}
use Rattle.dh_plan.specs.SoundPlans.{access_in}
use Rattle.dh_sound.specs.LoopsMatch.{EachMatches, unrolled_loops}
use Rattle.dh_sound.specs.PhaseFacts.{HasStraight, HasStraightIn, HasTest, HasTestIn, HaveStraight, HaveTest}
use Rattle.dh_sound.specs.Straight.{IsKeptAction}
use Rattle.dh_sound.specs.ToldEvents.{access_at}
use Rattle.dh_sound.proofs.LocatedSites.{straight_loops, test_stands_there}
use Rattle.dh_sound.proofs.LoopsMatch.{AreInside, EachInside, IsInside, ListInside, action_inside, match_factors, unrolled_both}
use Rattle.dh_sound.proofs.KeptPrograms.{kept_named}
use Rattle.dh_sound.proofs.Makes.{makes_within}
use Rattle.dh_sound.proofs.PhasesHold.{AllHold, ListHolds, PhaseHolds, PhasesHold}
use Rattle.dh_carried.proofs.Pigeons.{Has}
use Rattle.dh_sound.proofs.Slices.{straight_either, test_either}
use Rattle.dh_expressions.specs.declared.accesses.Accesses.{Accesses}
use Rattle.dh_expressions.specs.declared.drafts.Draft.{Draft}
use Rattle.dh_expressions.specs.declared.scenes.Around.{Around}
use Rattle.dh_expressions.specs.declared.scenes.Scene.{Scene}
use Rattle.dh_expressions.specs.Evaluated.{known_in}
use Rattle.dh_expressions.specs.Noted.{touched_in}
use Rattle.dh_expressions.specs.Shown.{is_read_term}
use Rattle.dh_laid.specs.BareCommands.{AreRising, IsBare, IsBareFrom}
use Rattle.dh_laid.specs.BlockSites.{block_sites, test_sites}
use Rattle.dh_laid.specs.LaidQuiet.{BlockStandsIn}
use Rattle.dh_laid.specs.LaidUses.{AreAlong, HaveNoOperations}
use Rattle.dh_blocks.specs.BlockMade.{IsTop}
use Rattle.dh_gathering.specs.declared.blocks.Made.{Made}
use Rattle.dh_gathering.specs.MadeBlocks.{AddsFlag, IsRoundBlock, IsStraightBlock, IsTestBlock, made_tie}
use Rattle.dh_gathering.specs.PhasesInLoops.{StraightInLoops, StraightOf, StraightsInLoops, TestInLoops, TestOf, TestsInLoops}
use Rattle.dh_gathering.specs.PushedSets.{settings}
use Rattle.dh_gathering.proofs.BlocksPlanned.{operations_are}
use Rattle.dh_phased.proofs.RoundsTop.{rounds_are_top}
use Rattle.dh_charged.specs.ChargedBlocks.{IsCutFrom}
use Rattle.dh_used.specs.MadePlans.{IsMadeOf, MadeNodesUse, MadePlansUse}
use Rattle.dh_used.specs.UsedBlocks.{EndsQuietly, IsInLoops}
use Rattle.dh_used.specs.UsedPlans.{UsesStraight, UsesTest, used_tie}
use Rattle.dh_used.proofs.BlocksByKeys.{straights_use_as_made, tests_use_as_made}
use Rattle.dh_used.proofs.NamedStores.{named_reaches}
use Rattle.dh_used.proofs.PlansUsed.{all_named, named_facts, phases_named, plans_use}
use Rattle.dh_used.proofs.SitesOfSource.{blocks_placed, test_placed_all}

-- Straight phases and tests, wherever they stand.

module _ (known : Known) where
  mutual
    straight_there_in : (round : List Turning) (q : Phase) (loops : List Turning) (cs : List Located) → StraightInLoops known round q loops cs → HasStraightIn q cs
    straight_there_in round (straight ds) loops cs h = h.1
    straight_there_in round (turns loop count body) loops cs h = straights_there _ body loops cs h
    straight_there_in round (repeated loop body) loops cs h = straights_there round body loops cs h
    straight_there_in round (decided choice chosen other) loops cs (inl h) = inl (straights_there round chosen loops cs h)
    straight_there_in round (decided choice chosen other) loops cs (inr h) = inr (straights_there round other loops cs h)

    straights_there : (round : List Turning) (qs : Phases) (loops : List Turning) (cs : List Located) → StraightsInLoops known round qs loops cs → HaveStraight qs cs
    straights_there round no_phases loops cs h = h
    straights_there round (phase q qs) loops cs (inl h) = inl (straight_there_in round q loops cs h)
    straights_there round (phase q qs) loops cs (inr h) = inr (straights_there round qs loops cs h)

  pub straight_there : (round : List Turning) (qs : List Phase) (loops : List Turning) (cs : List Located) → StraightOf known round qs loops cs → HasStraight qs cs
  straight_there round [] loops cs h = h
  straight_there round (q ∷ qs) loops cs (inl h) = inl (straight_there_in round q loops cs h)
  straight_there round (q ∷ qs) loops cs (inr h) = inr (straight_there round qs loops cs h)

  mutual
    test_there_in : (round : List Turning) (q : Phase) (loops : List Turning) (c : Located) → TestInLoops known round q loops c → HasTestIn q c
    test_there_in round (straight ds) loops c h = h
    test_there_in round (turns loop count body) loops c h = tests_there _ body loops c h
    test_there_in round (repeated loop body) loops c (inl h) = inl h.1
    test_there_in round (repeated loop body) loops c (inr h) = inr (tests_there round body loops c h)
    test_there_in round (decided choice chosen other) loops c (inl h) = inl h.1
    test_there_in round (decided choice chosen other) loops c (inr (inl h)) = inr (inl (tests_there round chosen loops c h))
    test_there_in round (decided choice chosen other) loops c (inr (inr h)) = inr (inr (tests_there round other loops c h))

    tests_there : (round : List Turning) (qs : Phases) (loops : List Turning) (c : Located) → TestsInLoops known round qs loops c → HaveTest qs c
    tests_there round no_phases loops c h = h
    tests_there round (phase q qs) loops c (inl h) = inl (test_there_in round q loops c h)
    tests_there round (phase q qs) loops c (inr h) = inr (tests_there round qs loops c h)

  pub test_there : (round : List Turning) (qs : List Phase) (loops : List Turning) (c : Located) → TestOf known round qs loops c → HasTest qs c
  test_there round [] loops c h = h
  test_there round (q ∷ qs) loops c (inl h) = inl (test_there_in round q loops c h)
  test_there round (q ∷ qs) loops c (inr h) = inr (test_there round qs loops c h)

  -- The loops round them match those of the source.

  inside_moved : (round : List Turning) (loop : Turning) (qs : Phases) → AreInside known (unrolled_loops round ++ unrolled_loops (loop ∷ [])) qs → AreInside known (unrolled_loops (round ++ loop ∷ [])) qs
  inside_moved round loop qs h = subst (λ (ts : List Turning). AreInside known ts qs) (sym (unrolled_both round (loop ∷ []))) h

  mutual
    straight_inside_in : (round : List Turning) (q : Phase) (loops : List Turning) (cs : List Located) → IsInside known (unrolled_loops round) q → StraightInLoops known round q loops cs → EachInside known (unrolled_loops loops) cs
    straight_inside_in round (straight ds) loops cs i h = subst (λ (ls : List Turning). EachInside known (unrolled_loops ls) cs) (sym h.0) (subst (λ (l : List Located). EachInside known (unrolled_loops round) l) h.1 i)
    straight_inside_in round (turns loop count body) loops cs i h = straights_inside _ body loops cs (inside_moved round (turning_of known count (action_form_of loop.command)) body i) h
    straight_inside_in round (repeated loop body) loops cs i h = straights_inside round body loops cs i.1 h
    straight_inside_in round (decided choice chosen other) loops cs i (inl h) = straights_inside round chosen loops cs i.1.0 h
    straight_inside_in round (decided choice chosen other) loops cs i (inr h) = straights_inside round other loops cs i.1.1 h

    straights_inside : (round : List Turning) (qs : Phases) (loops : List Turning) (cs : List Located) → AreInside known (unrolled_loops round) qs → StraightsInLoops known round qs loops cs → EachInside known (unrolled_loops loops) cs
    straights_inside round no_phases loops cs i h = absurd h
    straights_inside round (phase q qs) loops cs i (inl h) = straight_inside_in round q loops cs i.0 h
    straights_inside round (phase q qs) loops cs i (inr h) = straights_inside round qs loops cs i.1 h

  pub straight_inside : (round : List Turning) (qs : List Phase) (loops : List Turning) (cs : List Located) → ListInside known (unrolled_loops round) qs → StraightOf known round qs loops cs → EachInside known (unrolled_loops loops) cs
  straight_inside round [] loops cs i h = absurd h
  straight_inside round (q ∷ qs) loops cs i (inl h) = straight_inside_in round q loops cs i.0 h
  straight_inside round (q ∷ qs) loops cs i (inr h) = straight_inside round qs loops cs i.1 h

  test_matches : (round loops : List Turning) (d c : Located) → EachMatches known (unrolled_loops round) d.around.loops → (loops ≡ round) × (d ≡ c) → EachMatches known (unrolled_loops loops) c.around.loops
  test_matches round loops d c i h = subst (λ (ls : List Turning). EachMatches known (unrolled_loops ls) c.around.loops) (sym h.0) (subst (λ (x : Located). EachMatches known (unrolled_loops round) x.around.loops) h.1 i)

  mutual
    test_inside_in : (round : List Turning) (q : Phase) (loops : List Turning) (c : Located) → IsInside known (unrolled_loops round) q → TestInLoops known round q loops c → EachMatches known (unrolled_loops loops) c.around.loops
    test_inside_in round (straight ds) loops c i h = absurd h
    test_inside_in round (turns loop count body) loops c i h = tests_inside _ body loops c (inside_moved round (turning_of known count (action_form_of loop.command)) body i) h
    test_inside_in round (repeated loop body) loops c i (inl h) = test_matches round loops loop c i.0 h
    test_inside_in round (repeated loop body) loops c i (inr h) = tests_inside round body loops c i.1 h
    test_inside_in round (decided choice chosen other) loops c i (inl h) = test_matches round loops choice c i.0 h
    test_inside_in round (decided choice chosen other) loops c i (inr (inl h)) = tests_inside round chosen loops c i.1.0 h
    test_inside_in round (decided choice chosen other) loops c i (inr (inr h)) = tests_inside round other loops c i.1.1 h

    tests_inside : (round : List Turning) (qs : Phases) (loops : List Turning) (c : Located) → AreInside known (unrolled_loops round) qs → TestsInLoops known round qs loops c → EachMatches known (unrolled_loops loops) c.around.loops
    tests_inside round no_phases loops c i h = absurd h
    tests_inside round (phase q qs) loops c i (inl h) = test_inside_in round q loops c i.0 h
    tests_inside round (phase q qs) loops c i (inr h) = tests_inside round qs loops c i.1 h

  pub test_inside : (round : List Turning) (qs : List Phase) (loops : List Turning) (c : Located) → ListInside known (unrolled_loops round) qs → TestOf known round qs loops c → EachMatches known (unrolled_loops loops) c.around.loops
  test_inside round [] loops c i h = absurd h
  test_inside round (q ∷ qs) loops c i (inl h) = test_inside_in round q loops c i.0 h
  test_inside round (q ∷ qs) loops c i (inr h) = test_inside round qs loops c i.1 h

-- Named commands.

module _ (known : Known) where
  mutual
    straight_named_in : (q : Phase) (cs : List Located) → PhaseHolds (named_facts known) tt q → HasStraightIn q cs → AllHold (named_facts known) tt cs
    straight_named_in (straight ds) cs h e = subst (λ (l : List Located). AllHold (named_facts known) tt l) e h
    straight_named_in (turns loop count body) cs h e = straights_named body cs h.1 e
    straight_named_in (repeated loop body) cs h e = straights_named body cs h e
    straight_named_in (decided choice chosen other) cs h (inl e) = straights_named chosen cs h.0 e
    straight_named_in (decided choice chosen other) cs h (inr e) = straights_named other cs h.1 e

    straights_named : (qs : Phases) (cs : List Located) → PhasesHold (named_facts known) tt qs → HaveStraight qs cs → AllHold (named_facts known) tt cs
    straights_named no_phases cs h e = absurd e
    straights_named (phase q qs) cs h (inl e) = straight_named_in q cs h.0 e
    straights_named (phase q qs) cs h (inr e) = straights_named qs cs h.1 e

  pub straight_named : (qs : List Phase) (cs : List Located) → ListHolds (named_facts known) tt qs → HasStraight qs cs → AllHold (named_facts known) tt cs
  straight_named [] cs h e = absurd e
  straight_named (q ∷ qs) cs h (inl e) = straight_named_in q cs h.0 e
  straight_named (q ∷ qs) cs h (inr e) = straight_named qs cs h.1 e

  pub along : (from : ℕ) (cs : List Located) → AreRising from cs → AllHold (named_facts known) tt cs → AreAlong from cs
  along from [] r h = tt
  along from (c ∷ cs) r h = (record { behind = r.0; few = r.1.0; reaches = named_reaches known c.command h.0 }, along (c.first + accesses_of c.command) cs r.1.1 h.1)

-- Accesses that have no operations yet.

pub bare_at : (a : Accesses) (first count k : ℕ) → IsBareFrom a first count → first ≤ k → k < first + count → (k < length a.touched.items) × (touched_in a k ≡ None)
bare_at a first count k h from below = subst (λ (n : ℕ). (n < length a.touched.items) × (touched_in a n ≡ None)) (again first k from) (h (k - first) (omega (arith, from, below)))
  where
    again : (f k : ℕ) → f ≤ k → f + (k - f) ≡ k
    again f k h = omega (arith, h)

pub bare_made : (a : Accesses) (cs : List Located) (k : ℕ) → AllByRecursion (IsBare a) cs → any_makes k cs ≡ true → (k < length a.touched.items) × (touched_in a k ≡ None)
bare_made a [] k h e = absurd (cc)
bare_made a (c ∷ cs) k h e = by (makes k c.first c.command) refl e (λ g. bare_made a cs k h.1 g)
  where
    by : (b : Truth) → makes k c.first c.command ≡ b → (b || any_makes k cs) ≡ true → (any_makes k cs ≡ true → (k < length a.touched.items) × (touched_in a k ≡ None)) → (k < length a.touched.items) × (touched_in a k ≡ None)
    by true g f more = let w = makes_within k c.first c.command g in bare_at a c.first (accesses_of c.command) k h.0 w.0 w.1
    by false g f more = more f

-- a command that makes an access is one of those that do
pub maker : (k : ℕ) (cs : List Located) → any_makes k cs ≡ true → (c : Located) × (Has c cs × (makes k c.first c.command ≡ true))
maker k [] e = absurd (cc)
maker k (c ∷ cs) e = by (makes k c.first c.command) refl e (λ g. maker k cs g)
  where
    by : (b : Truth) → makes k c.first c.command ≡ b → (b || any_makes k cs) ≡ true → (any_makes k cs ≡ true → (d : Located) × (Has d cs × (makes k d.first d.command ≡ true))) → (d : Located) × (Has d (c ∷ cs) × (makes k d.first d.command ≡ true))
    by true g f more = (c, (inl refl, g))
    by false g f more = let m = more f in (m.0, (inr m.1.0, m.1.1))

pub inside_of : (known : Known) (ts : List Turning) (cs : List Located) (c : Located) → EachInside known ts cs → Has c cs → EachMatches known ts c.around.loops
inside_of known ts [] c i h = absurd h
inside_of known ts (d ∷ cs) c i (inl e) = subst (λ (x : Located). EachMatches known ts x.around.loops) (sym e) i.0
inside_of known ts (d ∷ cs) c i (inr h) = inside_of known ts cs c i.1 h

-- Registers that are set.

sets_use_none : (number : ℕ) (ss : List (ℕ × ℕ)) → operations_using number (settings ss) ≡ 0
sets_use_none number [] = refl
sets_use_none number (s ∷ ss) = let e = sets_use_none number ss in omega (arith, e)

sets_probe_none : (number : ℕ) (ss : List (ℕ × ℕ)) → probes_among number (settings ss) ≡ 0
sets_probe_none number [] = refl
sets_probe_none number (s ∷ ss) = let e = sets_probe_none number ss in omega (arith, e)

sets_reach_none : (ss : List (ℕ × ℕ)) → AllByRecursion (λ (o : Operation). access_in o.form ≡ None) (settings ss)
sets_reach_none [] = tt
sets_reach_none (s ∷ ss) = (refl, sets_reach_none ss)

abbrev put_down : OperationForm → Operation
put_down form = record { guard = None; form = form }

flag_quiet : (read : Truth) (old new : Draft) (value flag : ℕ) → AddsFlag read old new value flag → EndsQuietly old new
flag_quiet true old new value flag (mid, (made, (number, (both, set)))) = record {
  more = put_down (Compute Both value value) ∷ (put_down (Set flag made) ∷ []);
  adds = set.operations
      ∙ (ap (λ (os : List Operation). os ++ put_down (Set flag made) ∷ []) both.operations
      ∙ append_assoc old.operations.items (put_down (Compute Both value value) ∷ []) (put_down (Set flag made) ∷ []));
  no_use = λ k. refl;
  no_probe = λ k. refl;
  reach_none = (refl, (refl, tt));
}
flag_quiet false old new value flag (number, set) = record { more = put_down (Set flag value) ∷ []; adds = set.operations; no_use = λ k. refl; no_probe = λ k. refl; reach_none = (refl, tt) }

-- Blocks.

module _ (scene : Scene) (final : Made) (plan : PlainPlan) (is : IsMadeOf scene final plan) where
  abbrev p : Program
  p = program_seen scene.program.now

  pub body_named : ListHolds (named_facts (known_in scene)) tt (phases_of p)
  body_named = phases_named (known_in scene) nothing_around 0 p.body (subst (λ (known : Known). IsKeptAction known p.body) (sym is.ways) is.named)

  pub body_inside : ListInside (known_in scene) [] (phases_of p)
  body_inside = action_inside (known_in scene) nothing_around [] 0 p.body (kept_named (known_of p) p.body is.named) tt

  module _ (rounds : List Round) (around : Around) (round : IsRoundBlock rounds around) (stands : BlockStandsIn scene around) where
    top : IsTop rounds around
    top = rounds_are_top scene rounds around round stands

    in_loops : (makes : ℕ → Truth) → ((number : ℕ) (a : SourceAccess) → makes number ≡ true → access_at p number ≡ Some a → EachMatches (known_in scene) (unrolled_loops (loops_round rounds)) a.site.loops) → IsInLoops scene around makes
    in_loops makes matches = record {
      stands = stands;
      spread = top.spread;
      counted = top.counted;
      loops = λ number a made at. sym (match_factors (known_in scene) (loops_round rounds) a.site.loops (matches number a made at)) ∙ sym top.factors_are;
    }

  -- what stands round the block of a straight phase
  module _ (rounds : List Round) (cs : CoreCommands) (block : ℕ) (b : IsStraightBlock scene final rounds cs block) where
    pub straight_has : HasStraight (phases_of (program_seen scene.program.now)) b.located
    straight_has = straight_there (known_in scene) [] (phases_of (program_seen scene.program.now)) (loops_round rounds) b.located b.placed

    pub straight_held : AllHold (named_facts (known_in scene)) tt b.located
    straight_held = straight_named (known_in scene) (phases_of (program_seen scene.program.now)) b.located body_named straight_has

    straight_matches : EachInside (known_in scene) (unrolled_loops (loops_round rounds)) b.located
    straight_matches = straight_inside (known_in scene) [] (phases_of (program_seen scene.program.now)) (loops_round rounds) b.located body_inside b.placed

    straight_loops_match : (number : ℕ) (a : SourceAccess) → any_makes number b.located ≡ true → access_at (program_seen scene.program.now) number ≡ Some a → EachMatches (known_in scene) (unrolled_loops (loops_round rounds)) a.site.loops
    straight_loops_match number a made at =
        let c = maker number b.located made in
        subst (λ ls. EachMatches (known_in scene) (unrolled_loops (loops_round rounds)) ls)
        (sym (straight_loops number a (program_seen scene.program.now) at b.located c.0 (straight_either (phases_of (program_seen scene.program.now)) (idle_phases_of (program_seen scene.program.now)) b.located (inl straight_has)) c.1.0 c.1.1))
        (inside_of (known_in scene) (unrolled_loops (loops_round rounds)) b.located c.0 straight_matches c.1.0)

    pub straight_stands : IsInLoops scene b.made.around (λ number. any_makes number b.located)
    straight_stands = in_loops rounds b.made.around b.made.round b.made.stands_in (λ number. any_makes number b.located) straight_loops_match

    pub straight_along : AreAlong 0 b.located
    straight_along = along (known_in scene) 0 b.located b.made.rising straight_held

    pub straight_bare : HaveNoOperations (block_sites scene b.made.around b.located b.made.before b.made.between b.made.made) b.made.before.accesses
    straight_bare = record {
      none = b.made.counts;
      there = λ number s at. (bare_made b.made.before.accesses b.located number b.made.bare (blocks_placed scene b.made.around b.located b.made.before b.made.between b.made.made (all_named (known_in scene) b.located straight_held) number s at)).0;
      bare = λ number s at. (bare_made b.made.before.accesses b.located number b.made.bare (blocks_placed scene b.made.around b.located b.made.before b.made.between b.made.made (all_named (known_in scene) b.located straight_held) number s at)).1;
    }

    pub straight_own : IsCutFrom plan block b.made.before.draft b.made.after.draft
    straight_own = operations_are final plan.blocks is.blocks block b.made.before b.made.after b.made.stands

    pub straight_quiet : EndsQuietly b.made.between.draft b.made.after.draft
    straight_quiet = record { more = settings b.made.sets.sets; adds = b.made.sets.operations; no_use = λ k. sets_use_none k b.made.sets.sets; no_probe = λ k. sets_probe_none k b.made.sets.sets; reach_none = sets_reach_none b.made.sets.sets }

    straight_used : UsesStraight p plan cs block
    straight_used = record {
      known = known_in scene;
      located = b.located;
      are = b.are;
      named = all_named (known_in scene) b.located straight_held;
      uses =
          straights_use_as_made scene plan block b.made.around b.located b.made.before b.made.between b.made.after.draft b.made.made straight_stands straight_along (all_named (known_in scene) b.located straight_held) straight_has is.tells straight_bare straight_own straight_quiet;
    }

  -- and of a test
  module _ (rounds : List Round) (test : CoreTerm) (flag block : ℕ) (b : IsTestBlock scene final rounds test flag block) where
    pub test_has : HasTest (phases_of (program_seen scene.program.now)) b.tested
    test_has = test_there (known_in scene) [] (phases_of (program_seen scene.program.now)) (loops_round rounds) b.tested b.placed

    test_loops_match : (number : ℕ) (a : SourceAccess) → test_makes number b.tested ≡ true → access_at (program_seen scene.program.now) number ≡ Some a → EachMatches (known_in scene) (unrolled_loops (loops_round rounds)) a.site.loops
    test_loops_match number a made at =
        subst (λ ls. EachMatches (known_in scene) (unrolled_loops (loops_round rounds)) ls)
        (sym (ap (λ (s : _). s.loops) (test_stands_there number a (program_seen scene.program.now) at b.tested (test_either (phases_of (program_seen scene.program.now)) (idle_phases_of (program_seen scene.program.now)) b.tested (inl test_has)) made)))
        (test_inside (known_in scene) [] (phases_of (program_seen scene.program.now)) (loops_round rounds) b.tested body_inside b.placed)

    pub test_stands_in : IsInLoops scene b.made.around (λ number. test_makes number b.tested)
    test_stands_in = in_loops rounds b.made.around b.made.round b.made.stands_in (λ number. test_makes number b.tested) test_loops_match

    pub test_bare : HaveNoOperations (test_sites scene b.made.around b.tested.first b.term) b.made.before.accesses
    test_bare = record {
      none = b.made.counts;
      there = λ number s at. let w = test_placed_all scene b.made.around b.tested.first b.term number s at in (bare_at b.made.before.accesses b.tested.first (term_accesses b.term) number b.made.bare w.0 w.1).0;
      bare = λ number s at. let w = test_placed_all scene b.made.around b.tested.first b.term number s at in (bare_at b.made.before.accesses b.tested.first (term_accesses b.term) number b.made.bare w.0 w.1).1;
    }

    pub test_own : IsCutFrom plan block b.made.before.draft b.made.after.draft
    test_own = operations_are final plan.blocks is.blocks block b.made.before b.made.after b.made.stands

    pub test_quiet : EndsQuietly b.made.between.draft b.made.after.draft
    test_quiet = flag_quiet (is_read_term b.term) b.made.between.draft b.made.after.draft b.made.value flag b.made.adds

    test_used : UsesTest p plan test block
    test_used = record {
      known = known_in scene;
      tested = b.tested;
      is = b.is;
      uses =
          tests_use_as_made scene plan block b.made.around b.tested b.term b.made.before b.made.between b.made.after.draft b.made.next b.made.tests b.made.made b.term_is test_stands_in b.made.few test_has is.tells test_bare test_own test_quiet;
    }

-- Nodes that are tied in one way are tied in another, where each of their blocks, tests and loops is.
module _ (a b : Tie) (of_block : (rounds : List Round) (cs : _) (block : ℕ) → a.of_block rounds cs block → b.of_block rounds cs block) (of_test : (rounds : List Round) (test : _) (flag block : ℕ) → a.of_test rounds test flag block → b.of_test rounds test flag block) (of_loop : (rounds : List Round) (loop : Turning) (counter : ℕ) → a.of_loop rounds loop counter → b.of_loop rounds loop counter) where
  mutual
    pub nodes_so : (rounds : List Round) (ps : CorePhases) (ns : Nodes) → AreNodesOf a rounds ps ns → AreNodesOf b rounds ps ns
    nodes_so rounds no_core_phases no_nodes h = tt
    nodes_so rounds no_core_phases (node_then n ns) h = h
    nodes_so rounds (phase_and q qs) no_nodes h = h
    nodes_so rounds (phase_and q qs) (node_then n ns) h = (node_so rounds q n h.0, nodes_so rounds qs ns h.1)

    node_so : (rounds : List Round) (q : CorePhase) (n : Node) → IsNodeOf a rounds q n → IsNodeOf b rounds q n
    node_so rounds (straightly cs) (block_node block) h = of_block rounds cs block h
    node_so rounds (straightly cs) (turns_node counter count ns) h = h
    node_so rounds (straightly cs) (loop_node block flag ns) h = h
    node_so rounds (straightly cs) (choice_node block flag ns ms) h = h
    node_so rounds (straightly cs) (threads_node lists) h = h
    node_so rounds (turning loop body) (block_node block) h = h
    node_so rounds (turning loop body) (turns_node counter count ns) h = (h.0, (of_loop rounds loop counter h.1.0, nodes_so _ body ns h.1.1))
    node_so rounds (turning loop body) (loop_node block flag ns) h = h
    node_so rounds (turning loop body) (choice_node block flag ns ms) h = h
    node_so rounds (turning loop body) (threads_node lists) h = h
    node_so rounds (looping test body) (block_node block) h = h
    node_so rounds (looping test body) (turns_node counter count ns) h = h
    node_so rounds (looping test body) (loop_node block flag ns) h = (of_test rounds test flag block h.0, nodes_so rounds body ns h.1)
    node_so rounds (looping test body) (choice_node block flag ns ms) h = h
    node_so rounds (looping test body) (threads_node lists) h = h
    node_so rounds (choosing test chosen other) (block_node block) h = h
    node_so rounds (choosing test chosen other) (turns_node counter count ns) h = h
    node_so rounds (choosing test chosen other) (loop_node block flag ns) h = h
    node_so rounds (choosing test chosen other) (choice_node block flag ns ms) h = (of_test rounds test flag block h.0, (nodes_so rounds chosen ns h.1.0, nodes_so rounds other ms h.1.1))
    node_so rounds (choosing test chosen other) (threads_node lists) h = h

pub made_nodes_use : MadeNodesUse
made_nodes_use scene final plan is =
    nodes_so (made_tie scene final) (used_tie (program_seen scene.program.now) plan) (λ rounds cs block h. straight_used scene final plan is rounds cs block h) (λ rounds test flag block h. test_used scene final plan is rounds test flag block h)
    (λ rounds loop counter h. tt) [] (core_of (program_seen scene.program.now)).phases plan.body is.nodes

pub made_plans_use : MadePlansUse
made_plans_use scene final plan is once = plans_use (program_seen scene.program.now) plan is.named (made_nodes_use scene final plan is) once

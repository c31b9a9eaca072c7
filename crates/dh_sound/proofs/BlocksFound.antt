-- Each block of the core program is the block of a phase of the source, whose commands stand along the trace. The loops
-- of the source round them match those round the block, their names are in scope there, and they assign only to
-- variables that are declared inside these loops. The core program has a phase for each of the source, so that the
-- block is found by one walk along both, with what holds of the phases.
use Rattle.std.proofs.Common.{◌≡◌, ◌⊎◌, inl, inr, ℕ, true, List, [], ◌∷◌, ◌++◌, length, refl, sym, ap, subst, ◌∙◌}
use Rattle.dh_tree.specs.PlainTrees.{Program}
use Rattle.dh_tree.specs.Ready.{IsReady}
use Rattle.dh_meaning.specs.Core.{Turning}
use Rattle.dh_meaning.specs.CoreOf.{Known, known_of, action_form_of, turning_of, core_commands, core_test, core_phase, core_phases, core_of}
use Rattle.dh_meaning.specs.Effects.{Block, commands, tests}
use Rattle.dh_meaning.specs.OnePhase.{any_makes}
use Rattle.dh_meaning.specs.Paths.{paths_in}
use Rattle.dh_meaning.specs.Phases.{Located, Phase, straight, turns, repeated, decided, Phases, no_phases, phase, of_list, phases_of}
use Rattle.dh_meaning.specs.Sites.{nothing_around}
use Rattle.dh_meets.specs.Charges.{loop_factors}
use Rattle.dh_meets.specs.SourceEvents.{trace}
use Rattle.dh_sound.specs.AssignsInside.{AllAssignInside, AssignsInside}
use Rattle.dh_sound.specs.Blocks.{factors, StandsIn, StandsInPhase}
use Rattle.dh_sound.specs.LoopsMatch.{unrolled_loops, EachMatches}
use Rattle.dh_sound.specs.NamesInScope.{IsScoped}
use Rattle.dh_sound.specs.Trails.{StandsBehind}
use Rattle.dh_sound.specs.ViewTrails.{FollowsViews, StandsViews}
use Rattle.dh_sound.specs.PhaseFacts.{HasStraightIn, HaveStraight, HasStraight, HasTestIn, HaveTest, HasTest}
use Rattle.dh_sound.proofs.AssignsInside.{IsSplit, PhaseSplit, AreSplit, ListSplit, phases_split, phases_inside}
use Rattle.dh_sound.proofs.BlocksOfPhases.{straight_by, tested_along, own_around}
use Rattle.dh_sound.proofs.DepthsNamed.{inside_count}
use Rattle.dh_sound.proofs.Folds.{makes_more, less_by}
use Rattle.dh_sound.proofs.LoopsMatch.{unrolled_both, match_factors, EachInside, IsInside, AreInside, ListInside, action_inside, loops_by, StraightMatches, TestMatches}
use Rattle.dh_sound.proofs.NamedPrograms.{ready_named}
use Rattle.dh_sound.proofs.NamesInScope.{EachScoped, PhaseScoped, PhasesScoped, ListScoped, action_scoped, body_scoped, any_named, test_named, StraightNames, TestNames}
use Rattle.dh_sound.proofs.Trails.{Tops, TopsBy, follows_plain, phases_stand, tops_so}
use Rattle.dh_sound.proofs.ViewsBefore.{stands_behind}

module _ (known : Known) where
  -- What is found of a block in loops: the straight commands or the command with the test that it is made of, and what
  -- holds of them in these loops.
  abbrev HoldsOfCommands : (loops : List Turning) → List Located → Type 0
  HoldsOfCommands loops cs = EachInside known (unrolled_loops loops) cs × (EachScoped known loops cs × IsSplit known (length (factors loops)) cs)

  abbrev HoldsOfTest : (loops : List Turning) → Located → Type 0
  HoldsOfTest loops c = EachMatches known (unrolled_loops loops) c.around.loops × IsScoped known loops c.command

  abbrev FoundStraight : (List Located → Type 0) → (loops : List Turning) → Block → Type 0
  FoundStraight S loops b = (cs : List Located) × ((b ≡ commands (core_commands known cs)) × (S cs × HoldsOfCommands loops cs))

  abbrev FoundTest : (Located → Type 0) → (loops : List Turning) → Block → Type 0
  FoundTest T loops b = (c : Located) × ((b ≡ tests (core_test known c)) × (T c × HoldsOfTest loops c))

  abbrev Found : (S : List Located → Type 0) (T : Located → Type 0) → (loops : List Turning) → Block → Type 0
  Found S T loops b = FoundStraight S loops b ⊎ FoundTest T loops b

  found_more : (S S2 : List Located → Type 0) (T T2 : Located → Type 0) (loops : List Turning) (b : Block) → ((cs : List Located) → S cs → S2 cs) → ((c : Located) → T c → T2 c)
      → Found S T loops b → Found S2 T2 loops b
  found_more S S2 T T2 loops b s t (inl (cs, (is, (has, holds)))) = inl (cs, (is, (s cs has, holds)))
  found_more S S2 T T2 loops b s t (inr (c, (is, (has, holds)))) = inr (c, (is, (t c has, holds)))

  found_test : (T : Located → Type 0) (S : List Located → Type 0) (round loops : List Turning) (b : Block) (c : Located) → T c → EachMatches known (unrolled_loops round) c.around.loops → IsScoped known round c.command
      → (loops ≡ round) × (b ≡ tests (core_test known c)) → Found S T loops b
  found_test T S round loops b c t e n s = inr (c, (s.1, (t, subst (λ (l : List Turning). HoldsOfTest l c) (sym s.0) (e, n))))

  -- what holds of phases in these loops
  abbrev HoldsOf : (round : List Turning) → Phase → Type 0
  HoldsOf round p = IsInside known (unrolled_loops round) p × (PhaseScoped known round p × PhaseSplit known (length (factors round)) p)

  abbrev HoldsOfAll : (round : List Turning) → Phases → Type 0
  HoldsOfAll round ps = AreInside known (unrolled_loops round) ps × (PhasesScoped known round ps × AreSplit known (length (factors round)) ps)

  mutual
    find_in : (p : Phase) (round loops : List Turning) (b : Block) → HoldsOf round p → StandsInPhase round (core_phase known p) loops b → Found (HasStraightIn p) (HasTestIn p) loops b
    find_in (straight cs) round loops b h s = inl (cs, (s.1, (refl, subst (λ (l : List Turning). HoldsOfCommands l cs) (sym s.0) h)))
    find_in (turns loop count body) round loops b h s =
        let own : Turning = turning_of known count (action_form_of loop.command) in
        find body (round ++ own ∷ []) loops b (
          subst (λ (ts : List Turning). AreInside known ts body) (sym (unrolled_both round (own ∷ []))) h.0,
          (h.1.0, subst (λ (d : ℕ). AreSplit known d body) (sym (inside_count known round count (action_form_of loop.command))) h.1.1),
        ) s
    find_in (repeated loop body) round loops b h (inl s) = found_test (HasTestIn (repeated loop body)) (HasStraightIn (repeated loop body)) round loops b loop (inl refl) h.0.0 h.1.0.0 s
    find_in (repeated loop body) round loops b h (inr s) =
        found_more (HaveStraight body) (HasStraightIn (repeated loop body)) (HaveTest body) (HasTestIn (repeated loop body)) loops b (λ cs g. g) (λ c g. inr g)
        (find body round loops b (h.0.1, (h.1.0.1, phases_split known (length (factors round)) body h.1.1)) s)
    find_in (decided choice chosen other) round loops b h (inl s) =
        found_test (HasTestIn (decided choice chosen other)) (HasStraightIn (decided choice chosen other)) round loops b choice (inl refl) h.0.0 h.1.0.0 s
    find_in (decided choice chosen other) round loops b h (inr (inl s)) =
        found_more (HaveStraight chosen) (HasStraightIn (decided choice chosen other)) (HaveTest chosen) (HasTestIn (decided choice chosen other)) loops b
        (λ cs g. inl g) (λ c g. inr (inl g)) (find chosen round loops b (h.0.1.0, (h.1.0.1.0, phases_split known (length (factors round)) chosen h.1.1.0)) s)
    find_in (decided choice chosen other) round loops b h (inr (inr s)) =
        found_more (HaveStraight other) (HasStraightIn (decided choice chosen other)) (HaveTest other) (HasTestIn (decided choice chosen other)) loops b
        (λ cs g. inr g) (λ c g. inr (inr g)) (find other round loops b (h.0.1.1, (h.1.0.1.1, phases_split known (length (factors round)) other h.1.1.1)) s)

    find : (ps : Phases) (round loops : List Turning) (b : Block) → HoldsOfAll round ps → StandsIn round (core_phases known ps) loops b → Found (HaveStraight ps) (HaveTest ps) loops b
    find no_phases round loops b h s = elim s [ ]
    find (phase p ps) round loops b h (inl s) =
        found_more (HasStraightIn p) (HaveStraight (phase p ps)) (HasTestIn p) (HaveTest (phase p ps)) loops b (λ cs g. inl g) (λ c g. inl g)
        (find_in p round loops b (h.0.0, (h.1.0.0, h.1.1.0)) s)
    find (phase p ps) round loops b h (inr s) =
        found_more (HaveStraight ps) (HaveStraight (phase p ps)) (HaveTest ps) (HaveTest (phase p ps)) loops b (λ cs g. inr g) (λ c g. inr g)
        (find ps round loops b (h.0.1, (h.1.0.1, h.1.1.1)) s)

  find_listed : (ps : List Phase) (round loops : List Turning) (b : Block) → ListInside known (unrolled_loops round) ps → ListScoped known round ps → ListSplit known (length (factors round)) ps
      → StandsIn round (core_phases known (of_list ps)) loops b → Found (HasStraight ps) (HasTest ps) loops b
  find_listed [] round loops b i n d s = elim s [ ]
  find_listed (p ∷ ps) round loops b i n d (inl s) =
      found_more (HasStraightIn p) (HasStraight (p ∷ ps)) (HasTestIn p) (HasTest (p ∷ ps)) loops b (λ cs g. inl g) (λ c g. inl g) (find_in p round loops b (i.0, (n.0, d.0)) s)
  find_listed (p ∷ ps) round loops b i n d (inr s) =
      found_more (HasStraight ps) (HasStraight (p ∷ ps)) (HasTest ps) (HasTest (p ∷ ps)) loops b (λ cs g. inr g) (λ c g. inr g) (find_listed ps round loops b i.1 n.1 d.1 s)

-- A block is that of straight commands, whose loops match those round it, whose indices name only what is in scope there,
-- which assign to what is declared inside, but for reducers behind them, and which stand behind their views.
pub record StraightFound (p : Program) (loops : List Turning) (block : Block) : Type 0 where
  pub matches : StraightMatches p loops block
  pub names : StraightNames p loops matches.of.done
  pub inside : AllAssignInside (known_of p) (length (factors loops)) matches.of.done
  pub views : FollowsViews p matches.of.round [] (trace p) matches.of.done

-- A block is that of a test, whose loops match those round it, and whose indices name only what is in scope there.
pub record TestFound (p : Program) (loops : List Turning) (block : Block) : Type 0 where
  pub matches : TestMatches p loops block
  pub names : TestNames p loops matches.of.tested

-- each block of a ready program is one of these
pub block_found : (p : Program) → IsReady p → AssignsInside (known_of p) 0 p.body → (loops : List Turning) (block : Block)
    → StandsIn [] (core_of p).phases loops block → StraightFound p loops block ⊎ TestFound p loops block
block_found p r inside loops block s =
    by (find_listed (known_of p) (phases_of p) [] loops block (action_inside (known_of p) nothing_around [] 0 p.body (ready_named p r) tt)
    (action_scoped (known_of p) nothing_around [] 0 p.body (body_scoped p r)) (phases_inside (known_of p) p.body 0 nothing_around 0 inside) s)
  where
    tops : TopsBy (λ round es c. StandsViews p round es c) nothing_around [] (trace p) (phases_of p)
    tops = phases_stand p r.of_text.first r.of_text.numbered (ready_named p r) (stands_behind p r)

    plain : Tops nothing_around [] (trace p) (phases_of p)
    plain = tops_so (λ round es c. StandsViews p round es c) (λ round es c. StandsBehind round es c) (λ round es c s. s.stands) nothing_around [] (trace p) (phases_of p) tops

    by : Found (known_of p) (HasStraight (phases_of p)) (HasTest (phases_of p)) loops block → StraightFound p loops block ⊎ TestFound p loops block
    by (inl (cs, (is, (has, (matched, (names, split)))))) =
        let w = loops_by (known_of p) (λ round es c. StandsViews p round es c) (λ round es c x. x.stands.around) [] (trace p) (unrolled_loops loops) cs
        (straight_by (λ round es c. StandsViews p round es c) [] (trace p) nothing_around (phases_of p) cs tops has) matched in
        let same : factors loops ≡ loop_factors w.0.loops = match_factors (known_of p) loops w.0.loops w.1.1 in
        let views : FollowsViews p w.0 [] (trace p) split.done =
        less_by (λ round es c. StandsViews p round es c) w.0 [] (trace p) split.done split.folds (subst (λ (x : List Located). FollowsViews p w.0 [] (trace p) x) split.is w.1.0) in
        inl (record {
          matches = record {
            of = record {
              done = split.done;
              folds = split.folds;
              quiet = split.quiet;
              is = is ∙ ap (λ (x : List Located). commands (core_commands (known_of p) x)) split.is;
              has = subst (λ (x : List Located). HasStraight (phases_of p) x) split.is has;
              round = w.0;
              follows = follows_plain p w.0 [] (trace p) split.done views;
              inside = same;
              paths = ap paths_in same;
            };
            loops_match = w.1.1;
          };
          names = λ k a m g. any_named p r loops k a g cs cs has (λ c h. h) names (subst (λ (x : List Located). any_makes k x ≡ true) (sym split.is) (makes_more k split.done split.folds m));
          inside = split.inside;
          views = views;
        })
    by (inr (c, (is, (has, (matched, names))))) =
        let f = own_around [] (trace p) c (tested_along [] (trace p) nothing_around (phases_of p) c plain has) in
        let same : factors loops ≡ loop_factors c.around.loops = match_factors (known_of p) loops c.around.loops matched in
        inr (record {
          matches = record { of = record { tested = c; is = is; has = has; follows = f; inside = same; paths = ap paths_in same }; loops_match = matched };
          names = λ k a m g. test_named p r loops k a g c has names m;
        })

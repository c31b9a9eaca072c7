-- What is told of each block of a program that is checked. A name in the indices of its accesses is in scope: it is the
-- iterator of a loop round the block, which is in a turn and which the block does not touch; or a variable, which
-- the block does not touch, or which is declared inside all the loops. An iterator of an unrolled loop in an index finds
-- its value in the turn of that loop, since the loops round the access are those round its block.
use Rattle.std.proofs.Common.{◌≡◌, inl, inr, ℕ, zero, suc, ◌≤◌, Bool, true, false, List, [], ◌∷◌, ◌++◌, length, Some, refl, ◌∙◌, ap, subst, arith}
use Rattle.std.specs.Prelude.{slice_get}
use Rattle.dh_tree.specs.declared.trees.expressions.Ref.{Ref}
use Rattle.dh_tree.specs.PlainTrees.{Term, term, number, truth_value, named, accessed, in_bank, applied, converted, Terms, no_terms, term_then, Program}
use Rattle.dh_tree.specs.Ready.{IsReady}
use Rattle.dh_meaning.specs.Bindings.{binding_in, depth_bound}
use Rattle.dh_meaning.specs.Core.{Turning, CoreCommands}
use Rattle.dh_meaning.specs.CoreOf.{Known, known_of, entity_number, depth_of, core_commands, core_of}
use Rattle.dh_meaning.specs.Effects.{Variables, Block}
use Rattle.dh_meaning.specs.Levels.{any_assigns}
use Rattle.dh_meaning.specs.OnePhase.{makes, any_makes, test_makes}
use Rattle.dh_meaning.specs.Paths.{Path, IsPathAmong}
use Rattle.dh_meaning.specs.Phases.{Located, phases_of, idle_phases_of}
use Rattle.dh_meaning.specs.Sites.{Around}
use Rattle.dh_meets.specs.SourceEvents.{Element, with_indices, in_row, Site, SourceAccess, SourceEvent, accesses_in, trace}
use Rattle.dh_sound.specs.AssignsInside.{AssignsInside}
use Rattle.dh_sound.specs.Blocks.{factors, paths_inside, StandsIn}
use Rattle.dh_sound.specs.BlocksOfPhases.{StraightTold, TestTold, TellsBlocks}
use Rattle.dh_sound.specs.IndexValues.{IsTypedProgram}
use Rattle.dh_sound.specs.IteratorsAt.{HaveDepths, TurnAt, TurnsAt}
use Rattle.dh_sound.specs.LoopsMatch.{AreSpared}
use Rattle.dh_sound.specs.NamesInScope.{InScope, is_variable, is_iterator}
use Rattle.dh_sound.specs.Standing.{Spares}
use Rattle.dh_sound.specs.SameKeys.{EachName, EachNameOf, EachNameIn, NameFacts, is_plain, is_full}
use Rattle.dh_sound.specs.Trails.{of_located, Follows}
use Rattle.dh_sound.proofs.AssignsInside.{commands_deep, as_deep, touched_deep}
use Rattle.dh_sound.proofs.BlocksFound.{StraightFound, TestFound, block_found}
use Rattle.dh_sound.proofs.IteratorsAt.{turns_at}
use Rattle.dh_sound.proofs.LocatedSites.{straight_loops, test_stands_there}
use Rattle.dh_sound.proofs.OneElement.{turned_name}
use Rattle.dh_sound.proofs.Folds.{first_assigned}
use Rattle.dh_carried.proofs.Pigeons.{Has, has_left}
use Rattle.dh_sound.proofs.ReadyKeeps.{ready_keeps, ready_deep}
use Rattle.dh_sound.proofs.RoundPrograms.{loops_round}
use Rattle.dh_sound.proofs.SamePhase.{either}
use Rattle.dh_sound.proofs.SettledNames.{inside_long}
use Rattle.dh_sound.proofs.Slices.{straight_either, test_either}
use Rattle.dh_sound.proofs.TurnsOfIndices.{spared_commands, spared_test, straight_access, test_access}

as_path : (path : Path) (ps : List Path) → IsPathAmong path ps → IsPathAmong path ps
as_path path [] h = elim h [ ]
as_path path (p ∷ ps) (inl e) = inl e
as_path path (p ∷ ps) (inr h) = inr (as_path path ps h)

-- Names.

-- what follows of each name in an expression
module _ (P Q : Ref → Type 0) (f : (r : Ref) → P r → Q r) where
  mutual
    each_follows : (t : Term) → EachName P t → EachName Q t
    each_follows (term place k (number negative x)) h = tt
    each_follows (term place k (truth_value x)) h = tt
    each_follows (term place k (named r)) h = f r h
    each_follows (term place k (accessed r ts)) h = all_follow ts h
    each_follows (term place k (in_bank r bank at t)) h = each_follows t h
    each_follows (term place k (applied o l r)) h = (each_follows l h.0, each_follows r h.1)
    each_follows (term place k (converted t to)) h = each_follows t h

    all_follow : (ts : Terms) → EachNameOf P ts → EachNameOf Q ts
    all_follow no_terms h = tt
    all_follow (term_then t ts) h = (each_follows t h.0, all_follow ts h.1)

  in_element : (e : Element) → EachNameIn P e → EachNameIn Q e
  in_element (with_indices ts) h = all_follow ts h
  in_element (in_row bank t) h = each_follows t h

-- one of loops that are spared, and that are in turns
spared_at : (touched : ℕ → Bool) (loops : List Turning) (i : ℕ) (loop : Turning) → AreSpared touched loops → slice_get loops i ≡ Some loop → touched loop.iterator ≡ false
spared_at touched [] i loop h e = absurd cc
spared_at touched (l ∷ ls) zero loop h e = let same : l ≡ loop = cc in subst (λ (x : Turning). touched x.iterator ≡ false) same h.0
spared_at touched (l ∷ ls) (suc i) loop h e = spared_at touched ls i loop h.1 e

turn_of : (v : Variables) (paths : List Path) (loops : List Turning) (i : ℕ) (loop : Turning) → TurnsAt loops v paths → slice_get loops i ≡ Some loop → TurnAt loop v paths
turn_of v paths [] i loop h e = absurd cc
turn_of v paths (l ∷ ls) zero loop h e = let same : l ≡ loop = cc in subst (λ (x : Turning). TurnAt x v paths) same h.0
turn_of v paths (l ∷ ls) (suc i) loop h e = turn_of v paths ls i loop h.1 e

-- a name in scope, at two paths of a block
module _ (known : Known) (loops : List Turning) (v : Variables) (touched : ℕ → Bool) (spared : AreSpared touched loops) (turns : TurnsAt loops v (paths_inside loops))
    (inside : (e : ℕ) → touched e ≡ true → length (factors loops) ≤ depth_bound (binding_in known.bindings e))
    (p q : Path) (h : IsPathAmong p (paths_inside loops)) (g : IsPathAmong q (paths_inside loops)) where
  full_depth : (r : Ref) (e : ℕ) → r.entity ≡ Some e → touched e ≡ true → length p ≤ depth_of known r
  full_depth r e is t =
      let long = inside_long loops p h in
      let depth : depth_of known r ≡ depth_bound (binding_in known.bindings e) = ap (λ o. depth_bound (binding_in known.bindings (entity_number o))) is in
      let deep = inside e t in
      omega (arith, long, depth, deep)

  name_facts : (r : Ref) → InScope known loops r → NameFacts known v touched p q r
  name_facts r (is_variable e is none) = by (touched e) refl
    where
      by : (t : Bool) → touched e ≡ t → NameFacts known v touched p q r
      by true t = is_full e is none (full_depth r e is t)
      by false t = is_plain e is t none
  name_facts r (is_iterator i loop at it) =
      turned_name known v touched (paths_inside loops) p q r loop it (spared_at touched loops i loop spared at) (turn_of v (paths_inside loops) loops i loop turns at) h g

-- commands that spare the iterators of loops with others behind them spare them without
spares_less : (known : Known) (cs ds : List Located) (loops : List Turning) → Spares (core_commands known (cs ++ ds)) loops → Spares (core_commands known cs) loops
spares_less known cs ds [] h = tt
spares_less known cs ds (loop ∷ loops) h = (first_assigned known loop.iterator cs ds h.0, spares_less known cs ds loops h.1)

-- Accesses of a block.

-- the command that makes an access
made_in : (k : ℕ) (cs : List Located) → any_makes k cs ≡ true → (c : Located) × (Has c cs × (makes k c.first c.command ≡ true))
made_in k [] e = absurd cc
made_in k (c ∷ cs) e =
    elim (either (makes k c.first c.command) (any_makes k cs) e) [
      | inl h ↦ (c, (inl refl, h))
      | inr h ↦ further (made_in k cs h)
    ]
  where
    further : (d : Located) × (Has d cs × (makes k d.first d.command ≡ true)) → (d : Located) × (Has d (c ∷ cs) × (makes k d.first d.command ≡ true))
    further (d, (h, m)) = (d, (inr h, m))

-- commands that stand along the trace have one thing round them
around_is : (r : Around) (before part : List SourceEvent) (cs : List Located) → Follows r before part cs → (c : Located) → Has c cs → c.around ≡ r
around_is r before part [] f c h = elim h [ ]
around_is r before part (d ∷ ds) f c (inl e) = ap (λ (x : Located). x.around) e ∙ f.1.1.1.0.around
around_is r before part (d ∷ ds) (gap, (rest, (is, (stands, more)))) c (inr h) = around_is r ((before ++ gap) ++ of_located d) rest ds more c h

module _ (p : Program) (ready : IsReady p) (typed : IsTypedProgram p) (loops : List Turning) (block : Block) (stands : StandsIn [] (core_of p).phases loops block) where
  depths : HaveDepths [] loops
  depths = (ready_deep p ready).depths loops block stands

  -- Straight commands.
  module _ (f : StraightFound p loops block) where
    abbrev done : CoreCommands
    done = core_commands (known_of p) f.matches.of.done

    abbrev touched : ℕ → Bool
    touched e = any_assigns e done

    spared : AreSpared touched loops
    spared = spared_commands done loops (spares_less (known_of p) f.matches.of.done f.matches.of.folds loops
        ((ready_keeps p ready).keeps loops (core_commands (known_of p) (f.matches.of.done ++ f.matches.of.folds)) (subst (λ (b : Block). StandsIn [] (core_of p).phases loops b) f.matches.of.is stands)))

    touched_inside : (e : ℕ) → touched e ≡ true → length (factors loops) ≤ depth_bound (binding_in (known_of p).bindings e)
    touched_inside e t = touched_deep (known_of p) (length (factors loops)) e done (commands_deep (known_of p) (length (factors loops)) f.matches.of.done f.inside) t

    round_same : (k : ℕ) (a : SourceAccess) → any_makes k f.matches.of.done ≡ true → slice_get (accesses_in (trace p)) k ≡ Some a → a.site.loops ≡ f.matches.of.round.loops
    round_same k a m e =
        let (c, (h, makes_it)) = made_in k f.matches.of.done m in
        straight_loops k a p e (f.matches.of.done ++ f.matches.of.folds) c (straight_either (phases_of p) (idle_phases_of p) (f.matches.of.done ++ f.matches.of.folds) (inl f.matches.of.has)) (has_left c f.matches.of.done f.matches.of.folds h) makes_it
        ∙ ap (λ (x : Around). x.loops) (around_is f.matches.of.round [] (trace p) f.matches.of.done f.matches.of.follows c h)

    straight_told : StraightTold p loops block
    straight_told = record {
      of = f.matches.of;
      views = f.views;
      inside = f.inside;
      deep = as_deep (known_of p) (length (factors loops)) done (commands_deep (known_of p) (length (factors loops)) f.matches.of.done f.inside);
      indices = λ v turns. record {
        names = λ k a path other m e h g.
            in_element (InScope (known_of p) loops) (NameFacts (known_of p) v touched path other)
            (name_facts (known_of p) loops v touched spared (turns_at loops v turns depths) touched_inside path other (as_path path (paths_inside loops) h) (as_path other (paths_inside loops) g))
            a.element (f.names k a m e);
        turns = λ k a path w m e h near.
            straight_access p ready loops block stands f.matches spared v w path turns near (as_path path (paths_inside loops) h) a (round_same k a m e) (loops_round p typed k a e);
        inside = λ e path t h.
            let long = inside_long loops path (as_path path (paths_inside loops) h) in
            let deep = touched_inside e t in
            omega (arith, long, deep);
      };
    }

  -- A test.
  module _ (f : TestFound p loops block) where
    test_round : (k : ℕ) (a : SourceAccess) → test_makes k f.matches.of.tested ≡ true → slice_get (accesses_in (trace p)) k ≡ Some a → a.site.loops ≡ f.matches.of.tested.around.loops
    test_round k a m e =
        ap (λ (s : Site). s.loops) (test_stands_there k a p e f.matches.of.tested (test_either (phases_of p) (idle_phases_of p) f.matches.of.tested (inl f.matches.of.has)) m)

    test_told : TestTold p loops block
    test_told = record {
      of = f.matches.of;
      indices = λ v turns. record {
        names = λ k a path other m e h g.
            in_element (InScope (known_of p) loops) (NameFacts (known_of p) v (λ x. false) path other)
            (name_facts (known_of p) loops v (λ x. false) (spared_test loops) (turns_at loops v turns depths) (λ x t. absurd cc) path other (as_path path (paths_inside loops) h) (as_path other (paths_inside loops) g))
            a.element (f.names k a m e);
        turns = λ k a path w m e h near.
            test_access p ready loops block stands f.matches v w path turns near (as_path path (paths_inside loops) h) a (test_round k a m e) (loops_round p typed k a e);
        inside = λ e path t h. absurd cc;
      };
    }

-- what is told of the blocks of a ready program that assigns inside
pub blocks_told : (p : Program) → IsReady p → IsTypedProgram p → AssignsInside (known_of p) 0 p.body → TellsBlocks p
blocks_told p ready typed inside loops block stands =
    elim (block_found p ready inside loops block stands) [
      | inl f ↦ inl (straight_told p ready typed loops block stands f)
      | inr f ↦ inr (test_told p ready typed loops block stands f)
    ]

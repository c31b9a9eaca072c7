-- The commands of each Straight phase of a program stand along its trace, in their order, and so does the command of
-- each test; whatever is asked of each of them where it stands.
use Rattle.std.proofs.Common.{inl, inr, ℕ, List, [], ◌∷◌, sym, subst}
use Rattle.dh_tree.specs.Numbers.{IsNumbered}
use Rattle.dh_tree.specs.PlainTrees.{Program}
use Rattle.dh_meaning.specs.Phases.{Located, Phase, straight, turns, repeated, decided, Phases, no_phases, phase, phases_of}
use Rattle.dh_meaning.specs.Sites.{Around, nothing_around}
use Rattle.dh_meets.specs.SourceEvents.{SourceEvent, trace}
use Rattle.dh_sound.specs.BehindViews.{StandsBehindViews}
use Rattle.dh_sound.specs.PhaseFacts.{HasStraightIn, HaveStraight, HasStraight, HasTestIn, HaveTest, HasTest}
use Rattle.dh_sound.specs.Straight.{IsNamedAction}
use Rattle.dh_sound.specs.Trails.{Follows, FollowsBy, StandsBehind}
use Rattle.dh_sound.specs.ViewTrails.{StandsViews}
use Rattle.dh_sound.proofs.Trails.{InnerBy, InnersBy, TopBy, TopsBy, Tops, phases_stand, tops_so}

-- The commands of each phase stand along the trace.
module _ (S : Around → List SourceEvent → Located → Type 0) (before part : List SourceEvent) where
  abbrev pub AlongBy : List Located → Type 0
  AlongBy cs = (r : Around) × FollowsBy S r before part cs

  mutual
    along_in : (p : Phase) (cs : List Located) → InnerBy S before part p → HasStraightIn p cs → AlongBy cs
    along_in (straight ds) cs f e = subst (λ (l : List Located). AlongBy l) e f
    along_in (turns loop n body) cs f h = along body cs f h
    along_in (repeated loop body) cs f h = along body cs f.1 h
    along_in (decided choice chosen other) cs f (inl h) = along chosen cs f.1.0 h
    along_in (decided choice chosen other) cs f (inr h) = along other cs f.1.1 h

    along : (ps : Phases) (cs : List Located) → InnersBy S before part ps → HaveStraight ps cs → AlongBy cs
    along no_phases cs f h = elim h [ ]
    along (phase p ps) cs f (inl h) = along_in p cs f.0 h
    along (phase p ps) cs f (inr h) = along ps cs f.1 h

  mutual
    test_in : (p : Phase) (c : Located) → InnerBy S before part p → HasTestIn p c → AlongBy (c ∷ [])
    test_in (straight ds) c f h = elim h [ ]
    test_in (turns loop n body) c f h = test_along body c f h
    test_in (repeated loop body) c f (inl e) = subst (λ (x : Located). AlongBy (x ∷ [])) e f.0
    test_in (repeated loop body) c f (inr h) = test_along body c f.1 h
    test_in (decided choice chosen other) c f (inl e) = subst (λ (x : Located). AlongBy (x ∷ [])) e f.0
    test_in (decided choice chosen other) c f (inr (inl h)) = test_along chosen c f.1.0 h
    test_in (decided choice chosen other) c f (inr (inr h)) = test_along other c f.1.1 h

    test_along : (ps : Phases) (c : Located) → InnersBy S before part ps → HaveTest ps c → AlongBy (c ∷ [])
    test_along no_phases c f h = elim h [ ]
    test_along (phase p ps) c f (inl h) = test_in p c f.0 h
    test_along (phase p ps) c f (inr h) = test_along ps c f.1 h

  inner_of : (r : Around) (p : Phase) → TopBy S r before part p → InnerBy S before part p
  inner_of r (straight cs) f = (r, f)
  inner_of r (turns loop n body) f = f
  inner_of r (repeated loop body) f = f
  inner_of r (decided choice chosen other) f = f

  pub straight_by : (r : Around) (ps : List Phase) (cs : List Located) → TopsBy S r before part ps → HasStraight ps cs → AlongBy cs
  straight_by r [] cs f h = elim h [ ]
  straight_by r (p ∷ ps) cs f (inl h) = along_in p cs (inner_of r p f.0) h
  straight_by r (p ∷ ps) cs f (inr h) = straight_by r ps cs f.1 h

  pub tested_by : (r : Around) (ps : List Phase) (c : Located) → TopsBy S r before part ps → HasTest ps c → AlongBy (c ∷ [])
  tested_by r [] c f h = elim h [ ]
  tested_by r (p ∷ ps) c f (inl h) = test_in p c (inner_of r p f.0) h
  tested_by r (p ∷ ps) c f (inr h) = tested_by r ps c f.1 h

-- Each stands behind those before it.
module _ (before part : List SourceEvent) where
  abbrev pub Along : List Located → Type 0
  Along cs = AlongBy (λ round es c. StandsBehind round es c) before part cs

  pub straight_along : (r : Around) (ps : List Phase) (cs : List Located) → Tops r before part ps → HasStraight ps cs → Along cs
  straight_along r ps cs f h = straight_by (λ round es c. StandsBehind round es c) before part r ps cs f h

  pub tested_along : (r : Around) (ps : List Phase) (c : Located) → Tops r before part ps → HasTest ps c → Along (c ∷ [])
  tested_along r ps c f h = tested_by (λ round es c. StandsBehind round es c) before part r ps c f h

  -- what is round a command that stands along the trace is its own
  pub own_around : (c : Located) → Along (c ∷ []) → Follows c.around before part (c ∷ [])
  own_around c (r, f) = subst (λ (x : Around). Follows x before part (c ∷ [])) (sym f.1.1.1.0.around) f

-- the commands of the phases of a program stand along its trace, whatever number its first command has
pub phases_follow : (p : Program) (first : ℕ) → IsNumbered first p.body → IsNamedAction p.body → StandsBehindViews p → Tops nothing_around [] (trace p) (phases_of p)
phases_follow p first numbered names behind =
    tops_so (λ round es c. StandsViews p round es c) (λ round es c. StandsBehind round es c) (λ round es c s. s.stands) nothing_around [] (trace p) (phases_of p)
    (phases_stand p first numbered names behind)

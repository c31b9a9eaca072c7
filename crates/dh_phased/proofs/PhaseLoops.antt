-- The loops of lists of phases, as they are put together: straight phases have none.
use Rattle.std.proofs.Common.{◌≡◌, List, [], ◌∷◌, ◌++◌, refl, ap, sym, ◌∙◌, append_assoc, append-nil}
use Rattle.dh_meaning.specs.Core.{Turning}
use Rattle.dh_meaning.specs.CoreOf.{Known, core_phase, core_phases}
use Rattle.dh_meaning.specs.Phases.{Located, Phase, straight, turns, repeated, decided, of_list, one_straight, joined, folded}
use Rattle.dh_gathering.specs.LoopCounters.{loops_of_phase, loops_of_phases}

module _ (known : Known) where
  abbrev pub loops_in_list : List Phase → List Turning
  loops_in_list qs = loops_of_phases (core_phases known (of_list qs))

  -- those of parts, one behind the other
  abbrev pub loops_in_parts : List (List Phase) → List Turning
  loops_in_parts [] = []
  loops_in_parts (qs ∷ parts) = loops_in_list qs ++ loops_in_parts parts

  pub loops_append : (ps qs : List Phase) → loops_in_list (ps ++ qs) ≡ loops_in_list ps ++ loops_in_list qs
  loops_append [] qs = refl
  loops_append (p ∷ ps) qs = ap (λ (l : List Turning). loops_of_phase (core_phase known p) ++ l) (loops_append ps qs) ∙ sym (append_assoc (loops_of_phase (core_phase known p)) (loops_in_list ps) (loops_in_list qs))

  straight_none : (cs : List Located) → loops_in_list (one_straight cs) ≡ []
  straight_none [] = refl
  straight_none (c ∷ cs) = refl

  behind : (cs : List Located) (qs : List Phase) → loops_in_list (one_straight cs ++ qs) ≡ loops_in_list qs
  behind [] qs = refl
  behind (c ∷ cs) qs = refl

  joined_more : (cs : List Located) (qs : List Phase) (parts : List (List Phase)) → loops_in_list (joined [] parts) ≡ loops_in_parts parts → loops_in_list (one_straight cs ++ (qs ++ joined [] parts)) ≡ loops_in_list qs ++ loops_in_parts parts
  joined_more cs qs parts e = behind cs (qs ++ joined [] parts) ∙ (loops_append qs (joined [] parts) ∙ ap (λ (l : List Turning). loops_in_list qs ++ l) e)

  pub loops_joined : (cs : List Located) (parts : List (List Phase)) → loops_in_list (joined cs parts) ≡ loops_in_parts parts
  loops_joined cs [] = straight_none cs
  loops_joined cs ([] ∷ parts) = loops_joined cs parts
  loops_joined cs ((straight ds ∷ []) ∷ parts) = loops_joined (cs ++ ds) parts
  loops_joined cs ((turns loop count body ∷ []) ∷ parts) = joined_more cs (turns loop count body ∷ []) parts (loops_joined [] parts)
  loops_joined cs ((repeated loop body ∷ []) ∷ parts) = joined_more cs (repeated loop body ∷ []) parts (loops_joined [] parts)
  loops_joined cs ((decided choice chosen other ∷ []) ∷ parts) = joined_more cs (decided choice chosen other ∷ []) parts (loops_joined [] parts)
  loops_joined cs ((p ∷ q ∷ ps) ∷ parts) = joined_more cs (p ∷ q ∷ ps) parts (loops_joined [] parts)

  pub loops_folded : (ps qs : List Phase) → loops_in_list (folded ps qs) ≡ loops_in_list ps ++ loops_in_list qs
  loops_folded [] qs = refl
  loops_folded (straight cs ∷ []) qs = loops_joined cs (qs ∷ []) ∙ append-nil (loops_in_list qs)
  loops_folded (turns loop count body ∷ []) qs = loops_append (turns loop count body ∷ []) qs
  loops_folded (repeated loop body ∷ []) qs = loops_append (repeated loop body ∷ []) qs
  loops_folded (decided choice chosen other ∷ []) qs = loops_append (decided choice chosen other ∷ []) qs
  loops_folded (p ∷ q ∷ ps) qs =
      ap (λ (l : List Turning). loops_of_phase (core_phase known p) ++ l) (loops_folded (q ∷ ps) qs)
      ∙ sym (append_assoc (loops_of_phase (core_phase known p)) (loops_in_list (q ∷ ps)) (loops_in_list qs))

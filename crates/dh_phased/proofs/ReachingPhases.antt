-- The stores of a program's straight phases are into accesses, since all its stores are.
use Rattle.std.proofs.Common.{inl, inr, ℕ, ◌+◌, ◌==◌, ◌&&◌, Bool, true, false, if◌then◌else◌, List, [], ◌∷◌, ◌++◌, subst}
use Rattle.std.specs.List.{AllByRecursion}
use Rattle.dh_base.specs.declared.places.Place.{Place}
use Rattle.dh_tree.specs.Indices.{form_of as term_form}
use Rattle.dh_tree.specs.PlainTrees.{shrinks, splits, suffixes, shifts, Term, term, number, truth_value, named, accessed, in_bank, applied, converted, Action, action, ActionForm, lets, lets_memory, views, assigns, stores, reduces, calls, blocks, decides, repeats, counts, MaybeAction, no_action, one_action, Actions, no_actions, action_then, Groups, no_groups, group_then}
use Rattle.dh_tree.specs.Seen.{program_seen}
use Rattle.dh_tree.specs.Targets.{FormHasTargets, GroupsHaveTargets, HasTargets, IsAccess, OtherHasTargets, PartHasTargets}
use Rattle.dh_meaning.specs.AccessNumbers.{accesses_of, part_accesses, term_accesses}
use Rattle.dh_meaning.specs.Core.{Turning}
use Rattle.dh_meaning.specs.CoreOf.{Known, action_form_of, turning_of}
use Rattle.dh_meaning.specs.Phases.{Located, located, Phase, straight, turns, repeated, decided, Phases, no_phases, phase, of_list, one_straight, joined, are_straight, one_command, folded, turn_count, turn_phases, choice_phases, phases, phases_of, form_phases, other_phases, groups_phases, parts_phases}
use Rattle.dh_meaning.specs.Sites.{Around, in_arm, in_loop, loop_of, nothing_around}
use Rattle.dh_expressions.specs.Evaluated.{known_in}
use Rattle.dh_laid.specs.LaidNumbers.{IsAccessForm, StoresReach, StoresReachForm, StoresReachGroups, StoresReachOther, StoresReachPart}
use Rattle.dh_gathering.specs.PhasesInLoops.{StraightInLoops, StraightOf, StraightsInLoops}
use Rattle.dh_phased.specs.ToldScenes.{ReadyScenesAreTold}

abbrev HaveTargets : List Located → Type 0
HaveTargets cs = AllByRecursion (λ (c : Located). HasTargets c.command) cs

have_both : (cs ds : List Located) → HaveTargets cs → HaveTargets ds → HaveTargets (cs ++ ds)
have_both [] ds h k = k
have_both (c ∷ cs) ds h k = (h.0, have_both cs ds h.1 k)

abbrev mutual
  -- so the straight phases of a phase
  PhaseReaches : Phase → Type 0
  PhaseReaches (straight cs) = HaveTargets cs
  PhaseReaches (turns loop count body) = PhasesReach body
  PhaseReaches (repeated loop body) = PhasesReach body
  PhaseReaches (decided choice chosen other) = PhasesReach chosen × PhasesReach other

  PhasesReach : Phases → Type 0
  PhasesReach no_phases = Unit {0}
  PhasesReach (phase p ps) = PhaseReaches p × PhasesReach ps

abbrev ListReaches : List Phase → Type 0
ListReaches [] = Unit {0}
ListReaches (p ∷ ps) = PhaseReaches p × ListReaches ps

abbrev PartsReach : List (List Phase) → Type 0
PartsReach [] = Unit {0}
PartsReach (ps ∷ parts) = ListReaches ps × PartsReach parts

listed : (ps : List Phase) → ListReaches ps → PhasesReach (of_list ps)
listed [] h = tt
listed (p ∷ ps) h = (h.0, listed ps h.1)

list_both : (ps qs : List Phase) → ListReaches ps → ListReaches qs → ListReaches (ps ++ qs)
list_both [] qs h k = k
list_both (p ∷ ps) qs h k = (h.0, list_both ps qs h.1 k)

straight_reaches : (cs : List Located) → HaveTargets cs → ListReaches (one_straight cs)
straight_reaches [] h = tt
straight_reaches (c ∷ cs) h = (h, tt)

joined_reaches : (cs : List Located) (parts : List (List Phase)) → HaveTargets cs → PartsReach parts → ListReaches (joined cs parts)
joined_reaches cs [] h k = straight_reaches cs h
joined_reaches cs ([] ∷ parts) h k = joined_reaches cs parts h k.1
joined_reaches cs ((straight ds ∷ []) ∷ parts) h k = joined_reaches (cs ++ ds) parts (have_both cs ds h k.0.0) k.1
joined_reaches cs ((turns loop count body ∷ []) ∷ parts) h k = list_both (one_straight cs) (turns loop count body ∷ joined [] parts) (straight_reaches cs h) (k.0.0, joined_reaches [] parts tt k.1)
joined_reaches cs ((repeated loop body ∷ []) ∷ parts) h k = list_both (one_straight cs) (repeated loop body ∷ joined [] parts) (straight_reaches cs h) (k.0.0, joined_reaches [] parts tt k.1)
joined_reaches cs ((decided choice chosen other ∷ []) ∷ parts) h k = list_both (one_straight cs) (decided choice chosen other ∷ joined [] parts) (straight_reaches cs h) (k.0.0, joined_reaches [] parts tt k.1)
joined_reaches cs ((p ∷ q ∷ ps) ∷ parts) h k = list_both (one_straight cs) ((p ∷ q ∷ ps) ++ joined [] parts) (straight_reaches cs h) (list_both (p ∷ q ∷ ps) (joined [] parts) k.0 (joined_reaches [] parts tt k.1))

folded_reaches : (ps qs : List Phase) → ListReaches ps → ListReaches qs → ListReaches (folded ps qs)
folded_reaches [] qs h k = k
folded_reaches (straight cs ∷ []) qs h k = joined_reaches cs (qs ∷ []) h.0 (k, tt)
folded_reaches (turns loop count body ∷ []) qs h k = (h.0, k)
folded_reaches (repeated loop body ∷ []) qs h k = (h.0, k)
folded_reaches (decided choice chosen other ∷ []) qs h k = (h.0, k)
folded_reaches (p ∷ q ∷ ps) qs h k = (h.0, folded_reaches (q ∷ ps) qs h.1 k)

turn_reaches : (loop : Located) (count : ℕ) (qs : List Phase) → ListReaches qs → ListReaches (turn_phases loop count qs)
turn_reaches loop count [] h = tt
turn_reaches loop count (q ∷ qs) h = by (count == 0)
  where
    by : (b : Bool) → ListReaches (if b then [] else turns loop count (of_list (q ∷ qs)) ∷ [])
    by true = tt
    by false = (listed (q ∷ qs) h, tt)

choice_reaches : (c : Located) (ps qs : List Phase) → HasTargets c.command → ListReaches ps → ListReaches qs → ListReaches (choice_phases c ps qs)
choice_reaches c ps qs own h k = by (are_straight ps && are_straight qs)
  where
    by : (b : Bool) → ListReaches (if b then one_command c else decided c (of_list ps) (of_list qs) ∷ [])
    by true = ((own, tt), tt)
    by false = ((listed ps h, listed qs k), tt)

mutual
  reaches : (a : Action) (r : Around) (n : ℕ) → HasTargets a → ListReaches (phases r n a)
  reaches (action id place form) r n h = form_reaches form id place r n h

  form_reaches : (f : ActionForm) (id : ℕ) (place : Place) (r : Around) (n : ℕ) → FormHasTargets f → ListReaches (form_phases r n id place f)
  form_reaches (lets name declared value) id place r n h = ((h, tt), tt)
  form_reaches (lets_memory name shape shape_places value) id place r n h = tt
  form_reaches (views name parent (shrinks by by_place)) id place r n h = tt
  form_reaches (views name parent (splits by by_place)) id place r n h = tt
  form_reaches (views name parent (suffixes by by_place)) id place r n h = ((h, tt), tt)
  form_reaches (views name parent (shifts by)) id place r n h = ((h, tt), tt)
  form_reaches (assigns target value) id place r n h = ((h, tt), tt)
  form_reaches (stores target value) id place r n h = ((h, tt), tt)
  form_reaches (reduces target o value) id place r n h = ((h, tt), tt)
  form_reaches (calls function arguments) id place r n h = tt
  form_reaches (blocks body) id place r n h = groups_reach body r n h
  form_reaches (decides test chosen other) id place r n h =
      choice_reaches (located r n (action id place (decides test chosen other)))
      (phases (in_arm r id true) (n + term_accesses test) chosen) (other_phases (in_arm r id false) (n + term_accesses test + accesses_of chosen) other) h
      (reaches chosen (in_arm r id true) (n + term_accesses test) h.0) (other_reaches other (in_arm r id false) (n + term_accesses test + accesses_of chosen) h.1)
  form_reaches (repeats test body) id place r n h = (listed (phases r (n + term_accesses test) body) (reaches body r (n + term_accesses test) h), tt)
  form_reaches (counts iterator declared low high factor body combine combine_place) id place r n h =
      turn_reaches (located r n (action id place (counts iterator declared low high factor body combine combine_place))) (turn_count low.value high.value factor.value)
      (folded (phases (in_loop r (loop_of iterator low high factor)) n body) (other_phases (in_loop r (loop_of iterator low high factor)) (n + accesses_of body) combine))
      (folded_reaches (phases (in_loop r (loop_of iterator low high factor)) n body) (other_phases (in_loop r (loop_of iterator low high factor)) (n + accesses_of body) combine)
      (reaches body (in_loop r (loop_of iterator low high factor)) n h.0) (other_reaches combine (in_loop r (loop_of iterator low high factor)) (n + accesses_of body) h.1))

  other_reaches : (m : MaybeAction) (r : Around) (n : ℕ) → OtherHasTargets m → ListReaches (other_phases r n m)
  other_reaches no_action r n h = tt
  other_reaches (one_action a) r n h = reaches a r n h

  part_reaches : (p : Actions) (r : Around) (n : ℕ) → PartHasTargets p → PartsReach (parts_phases r n p)
  part_reaches no_actions r n h = tt
  part_reaches (action_then a rest) r n h = (reaches a r n h.0, part_reaches rest r (n + accesses_of a) h.1)

  groups_reach : (g : Groups) (r : Around) (n : ℕ) → GroupsHaveTargets g → ListReaches (groups_phases r n g)
  groups_reach no_groups r n h = tt
  groups_reach (group_then part rest) r n h =
      list_both (joined [] (parts_phases r n part)) (groups_phases r (n + part_accesses part) rest) (joined_reaches [] (parts_phases r n part) tt (part_reaches part r n h.0)) (groups_reach rest r (n + part_accesses part) h.1)

-- Of the straight phases in their loops.

module _ (known : Known) (loops : List Turning) (cs : List Located) where
  mutual
    found_in : (p : Phase) (round : List Turning) → PhaseReaches p → StraightInLoops known round p loops cs → HaveTargets cs
    found_in (straight ds) round h s = subst (λ (l : List Located). HaveTargets l) s.1 h
    found_in (turns loop count body) round h s = found_all body (round ++ turning_of known count (action_form_of loop.command) ∷ []) h s
    found_in (repeated loop body) round h s = found_all body round h s
    found_in (decided choice chosen other) round h (inl s) = found_all chosen round h.0 s
    found_in (decided choice chosen other) round h (inr s) = found_all other round h.1 s

    found_all : (ps : Phases) (round : List Turning) → PhasesReach ps → StraightsInLoops known round ps loops cs → HaveTargets cs
    found_all no_phases round h s = absurd s
    found_all (phase p ps) round h (inl s) = found_in p round h.0 s
    found_all (phase p ps) round h (inr s) = found_all ps round h.1 s

  found_list : (ps : List Phase) (round : List Turning) → ListReaches ps → StraightOf known round ps loops cs → HaveTargets cs
  found_list [] round h s = absurd s
  found_list (p ∷ ps) round h (inl s) = found_in p round h.0 s
  found_list (p ∷ ps) round h (inr s) = found_list ps round h.1 s

-- Targets that are accesses.

access_form : (t : Term) → IsAccess t → IsAccessForm (term_form t)
access_form (term place k (accessed r ts)) h = tt
access_form (term place k (in_bank r bank at t)) h = tt
access_form (term place k (number negative x)) h = absurd h
access_form (term place k (truth_value x)) h = absurd h
access_form (term place k (named r)) h = absurd h
access_form (term place k (applied o l r)) h = absurd h
access_form (term place k (converted t to)) h = absurd h

mutual
  action_stores : (a : Action) → HasTargets a → StoresReach a
  action_stores (action id place form) h = form_stores form h

  form_stores : (f : ActionForm) → FormHasTargets f → StoresReachForm f
  form_stores (lets name declared value) h = tt
  form_stores (lets_memory name shape shape_places value) h = tt
  form_stores (views name parent form) h = tt
  form_stores (assigns target value) h = tt
  form_stores (stores target value) h = access_form target h
  form_stores (reduces target o value) h = tt
  form_stores (calls function arguments) h = tt
  form_stores (blocks body) h = groups_store body h
  form_stores (decides test chosen other) h = (action_stores chosen h.0, other_stores other h.1)
  form_stores (repeats test body) h = tt
  form_stores (counts iterator declared low high factor body combine combine_place) h = tt

  other_stores : (m : MaybeAction) → OtherHasTargets m → StoresReachOther m
  other_stores no_action h = tt
  other_stores (one_action a) h = action_stores a h

  part_stores : (p : Actions) → PartHasTargets p → StoresReachPart p
  part_stores no_actions h = tt
  part_stores (action_then a rest) h = (action_stores a h.0, part_stores rest h.1)

  groups_store : (g : Groups) → GroupsHaveTargets g → StoresReachGroups g
  groups_store no_groups h = tt
  groups_store (group_then part rest) h = (part_stores part h.0, groups_store rest h.1)

all_store : (cs : List Located) → HaveTargets cs → AllByRecursion (λ (c : Located). StoresReach c.command) cs
all_store [] h = tt
all_store (c ∷ cs) h = (action_stores c.command h.0, all_store cs h.1)

pub ready_scenes_are_told : ReadyScenesAreTold
ready_scenes_are_told scene ready scopes = record {
  scopes = scopes;
  stores = λ loops cs s. all_store cs (found_list (known_in scene) loops cs (phases_of (program_seen scene.program.now)) [] (reaches (program_seen scene.program.now).body nothing_around 0 ready.of_text.targets) s);
}

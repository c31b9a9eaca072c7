-- What holds of the commands and loops of the source holds of the phases, as far as it speaks of each command that is
-- done in a Straight phase and of each loop, by what stands round it: joining and folding puts straight commands
-- together and changes nothing else. For any such facts.
use Rattle.std.proofs.Common.{ℕ, ◌==◌, ◌&&◌, Bool, true, false, if◌then◌else◌, List, [], ◌∷◌, ◌++◌}
use Rattle.dh_tree.specs.PlainTrees.{Action, ActionForm}
use Rattle.dh_meaning.specs.Phases.{Located, Phase, straight, turns, repeated, decided, Phases, no_phases, phase, of_list, one_straight, joined, are_straight, one_command, folded, turn_phases, choice_phases}
use Rattle.dh_meaning.specs.CoreOf.{action_form_of}

-- facts of commands and loops
pub record Facts : Type 1 where
  -- what is told of the loops round a command
  pub round : Type 0
  -- what holds of a command that is done in a Straight phase, and of a loop
  pub does : round → Action → Type 0
  pub turns_so : round → ActionForm → Type 0
  -- what is round a command in a loop
  pub inside : round → ActionForm → round

abbrev pub AllHold : (f : Facts) (r : f.round) → List Located → Type 0
AllHold f r [] = Unit {0}
AllHold f r (c ∷ cs) = f.does r c.command × AllHold f r cs

abbrev mutual
  pub PhaseHolds : (f : Facts) (r : f.round) → Phase → Type 0
  PhaseHolds f r (straight cs) = AllHold f r cs
  PhaseHolds f r (turns loop count body) = f.turns_so r (action_form_of loop.command) × PhasesHold f (f.inside r (action_form_of loop.command)) body
  PhaseHolds f r (repeated loop body) = PhasesHold f r body
  PhaseHolds f r (decided choice chosen other) = PhasesHold f r chosen × PhasesHold f r other

  pub PhasesHold : (f : Facts) (r : f.round) → Phases → Type 0
  PhasesHold f r no_phases = Unit {0}
  PhasesHold f r (phase p ps) = PhaseHolds f r p × PhasesHold f r ps

abbrev pub ListHolds : (f : Facts) (r : f.round) → List Phase → Type 0
ListHolds f r [] = Unit {0}
ListHolds f r (p ∷ ps) = PhaseHolds f r p × ListHolds f r ps

abbrev pub PartsHold : (f : Facts) (r : f.round) → List (List Phase) → Type 0
PartsHold f r [] = Unit {0}
PartsHold f r (ps ∷ parts) = ListHolds f r ps × PartsHold f r parts

module _ (f : Facts) (r : f.round) where
  pub of_list_hold : (ps : List Phase) → ListHolds f r ps → PhasesHold f r (of_list ps)
  of_list_hold [] h = tt
  of_list_hold (p ∷ ps) h = (h.0, of_list_hold ps h.1)

  pub both_hold : (ps qs : List Phase) → ListHolds f r ps → ListHolds f r qs → ListHolds f r (ps ++ qs)
  both_hold [] qs h g = g
  both_hold (p ∷ ps) qs h g = (h.0, both_hold ps qs h.1 g)

  all_hold : (cs ds : List Located) → AllHold f r cs → AllHold f r ds → AllHold f r (cs ++ ds)
  all_hold [] ds h g = g
  all_hold (c ∷ cs) ds h g = (h.0, all_hold cs ds h.1 g)

  straight_hold : (cs : List Located) → AllHold f r cs → ListHolds f r (one_straight cs)
  straight_hold [] h = tt
  straight_hold (c ∷ cs) h = (h, tt)

  pub joined_hold : (cs : List Located) (parts : List (List Phase)) → AllHold f r cs → PartsHold f r parts → ListHolds f r (joined cs parts)
  joined_hold cs [] h g = straight_hold cs h
  joined_hold cs ([] ∷ parts) h g = joined_hold cs parts h g.1
  joined_hold cs ((straight ds ∷ []) ∷ parts) h g = joined_hold (cs ++ ds) parts (all_hold cs ds h g.0.0) g.1
  joined_hold cs ((turns loop count body ∷ []) ∷ parts) h g =
      both_hold (one_straight cs) (turns loop count body ∷ joined [] parts) (straight_hold cs h) (g.0.0, joined_hold [] parts tt g.1)
  joined_hold cs ((repeated loop body ∷ []) ∷ parts) h g =
      both_hold (one_straight cs) (repeated loop body ∷ joined [] parts) (straight_hold cs h) (g.0.0, joined_hold [] parts tt g.1)
  joined_hold cs ((decided choice chosen other ∷ []) ∷ parts) h g =
      both_hold (one_straight cs) (decided choice chosen other ∷ joined [] parts) (straight_hold cs h) (g.0.0, joined_hold [] parts tt g.1)
  joined_hold cs ((p ∷ q ∷ ps) ∷ parts) h g =
      both_hold (one_straight cs) ((p ∷ q ∷ ps) ++ joined [] parts) (straight_hold cs h)
      (both_hold (p ∷ q ∷ ps) (joined [] parts) g.0 (joined_hold [] parts tt g.1))

  pub folded_hold : (body fold : List Phase) → ListHolds f r body → ListHolds f r fold → ListHolds f r (folded body fold)
  folded_hold [] fold h g = g
  folded_hold (straight cs ∷ []) fold h g = joined_hold cs (fold ∷ []) h.0 (g, tt)
  folded_hold (turns loop count body ∷ []) fold h g = (h.0, g)
  folded_hold (repeated loop body ∷ []) fold h g = (h.0, g)
  folded_hold (decided choice chosen other ∷ []) fold h g = (h.0, g)
  folded_hold (p ∷ q ∷ ps) fold h g = (h.0, folded_hold (q ∷ ps) fold h.1 g)

  pub turn_hold : (loop : Located) (count : ℕ) (turn : List Phase) → f.turns_so r (action_form_of loop.command)
      → ListHolds f (f.inside r (action_form_of loop.command)) turn → ListHolds f r (turn_phases loop count turn)
  turn_hold loop count [] fresh h = tt
  turn_hold loop count (p ∷ ps) fresh h = by (count == 0)
    where
      by : (z : Bool) → ListHolds f r (if z then [] else turns loop count (of_list (p ∷ ps)) ∷ [])
      by true = tt
      by false = ((fresh, of_list_hold_in (p ∷ ps) h), tt)
        where
          of_list_hold_in : (qs : List Phase) → ListHolds f (f.inside r (action_form_of loop.command)) qs → PhasesHold f (f.inside r (action_form_of loop.command)) (of_list qs)
          of_list_hold_in [] g = tt
          of_list_hold_in (q ∷ qs) g = (g.0, of_list_hold_in qs g.1)

  pub choice_hold : (choice : Located) (chosen other : List Phase) → f.does r choice.command → ListHolds f r chosen → ListHolds f r other
      → ListHolds f r (choice_phases choice chosen other)
  choice_hold choice chosen other h g i = by (are_straight chosen && are_straight other)
    where
      by : (z : Bool) → ListHolds f r (if z then one_command choice else decided choice (of_list chosen) (of_list other) ∷ [])
      by true = ((h, tt), tt)
      by false = ((of_list_hold chosen g, of_list_hold other i), tt)

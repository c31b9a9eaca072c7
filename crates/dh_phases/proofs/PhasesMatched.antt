-- Phases of the definition match those that are gathered of them.
use Rattle.std.proofs.Common.{◌≡◌, List, [], ◌∷◌, map, refl, ap, sym, ◌∙◌, subst}
use Rattle.dh_meaning.specs.Phases.{Located, Phase, straight, turns, repeated, decided, Phases, no_phases, phase, of_list}
use Rattle.dh_phases.specs.GatheredPhases.{Gathered, AllGathered, all_gathered, command_gathered, phase_gathered, phases_gathered, gathered_list, gathered_then}
use Rattle.dh_phases.specs.MatchedPhases.{MatchesCommand, MatchCommands, Matches, AllMatch}

command_matches : (l : Located) → MatchesCommand (command_gathered l) l
command_matches l = record { command = refl; first = refl }

commands_match : (ls : List Located) → MatchCommands (map command_gathered ls) ls
commands_match [] = tt
commands_match (l ∷ ls) = (command_matches l, commands_match ls)

mutual
  pub matches : (q : Phase) → Matches (phase_gathered q) q
  matches (straight ls) = commands_match ls
  matches (turns loop count body) = (command_matches loop, (refl, (refl, all_match body)))
  matches (repeated loop body) = (command_matches loop, (refl, all_match body))
  matches (decided choice chosen other) = (command_matches choice, (refl, (all_match chosen, all_match other)))

  pub all_match : (qs : Phases) → AllMatch (phases_gathered qs) qs
  all_match no_phases = tt
  all_match (phase q qs) = (matches q, all_match qs)

pub list_is : (qs : List Phase) → phases_gathered (of_list qs) ≡ all_gathered (gathered_list qs)
list_is [] = refl
list_is (q ∷ qs) = ap (λ l. gathered_then (phase_gathered q) l) (list_is qs)

-- so those of a list that is gathered match
pub list_matches : (ps : List Gathered) (qs : List Phase) → ps ≡ gathered_list qs → AllMatch (all_gathered ps) (of_list qs)
list_matches ps qs is = subst (λ (l : AllGathered). AllMatch l (of_list qs)) (list_is qs ∙ sym (ap all_gathered is)) (all_match (of_list qs))

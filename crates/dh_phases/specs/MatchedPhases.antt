-- Gathered phases beside those of the definition, case by case: what equal lists say of each phase. For who makes
-- something of gathered phases.
use Rattle.std.specs.Prelude.{◌≡◌, List, [], ◌∷◌}
use Rattle.dh_meaning.specs.CoreOf.{action_form_of, test_of}
use Rattle.dh_meaning.specs.Phases.{Located, Phase, straight, turns, repeated, decided, Phases, no_phases, phase}
use Rattle.dh_phases.specs.GatheredPhases.{Gathered, Numbered, straight_phase, turns_phase, loop_phase, choice_phase, AllGathered, none_gathered, gathered_then, code_number, header_of}

-- it is this command, where it stands
pub record MatchesCommand (c : Numbered) (l : Located) : Type 0 where
  pub command : c.command ≡ l.command
  pub first : c.first ≡ code_number l.first

abbrev pub MatchCommands : List Numbered → List Located → Type 0
MatchCommands [] [] = Unit {0}
MatchCommands [] (l ∷ ls) = ⊥
MatchCommands (c ∷ cs) [] = ⊥
MatchCommands (c ∷ cs) (l ∷ ls) = MatchesCommand c l × MatchCommands cs ls

abbrev mutual
  pub Matches : Gathered → Phase → Type 0
  Matches (straight_phase cs) (straight ls) = MatchCommands cs ls
  Matches (straight_phase cs) (turns loop count body) = ⊥
  Matches (straight_phase cs) (repeated loop body) = ⊥
  Matches (straight_phase cs) (decided choice chosen other) = ⊥
  Matches (turns_phase c header n ps) (straight ls) = ⊥
  Matches (turns_phase c header n ps) (turns loop count body) = MatchesCommand c loop × ((header ≡ header_of (action_form_of loop.command)) × ((n ≡ count) × AllMatch ps body))
  Matches (turns_phase c header n ps) (repeated loop body) = ⊥
  Matches (turns_phase c header n ps) (decided choice chosen other) = ⊥
  Matches (loop_phase c test ps) (straight ls) = ⊥
  Matches (loop_phase c test ps) (turns loop count body) = ⊥
  Matches (loop_phase c test ps) (repeated loop body) = MatchesCommand c loop × ((test ≡ test_of (action_form_of loop.command)) × AllMatch ps body)
  Matches (loop_phase c test ps) (decided choice chosen other) = ⊥
  Matches (choice_phase c test ps qs) (straight ls) = ⊥
  Matches (choice_phase c test ps qs) (turns loop count body) = ⊥
  Matches (choice_phase c test ps qs) (repeated loop body) = ⊥
  Matches (choice_phase c test ps qs) (decided choice chosen other) = MatchesCommand c choice × ((test ≡ test_of (action_form_of choice.command)) × (AllMatch ps chosen × AllMatch qs other))

  pub AllMatch : AllGathered → Phases → Type 0
  AllMatch none_gathered no_phases = Unit {0}
  AllMatch none_gathered (phase q qs) = ⊥
  AllMatch (gathered_then p ps) no_phases = ⊥
  AllMatch (gathered_then p ps) (phase q qs) = Matches p q × AllMatch ps qs

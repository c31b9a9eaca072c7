-- The accesses of phases by their numbers: those of each phase, and of each part of it, lie behind those of what stands in
-- front of it.
use Rattle.std.specs.Prelude.{◌≡◌, ℕ, ◌+◌, ◌<◌, ◌≤◌, List, [], ◌∷◌, Some}
use Rattle.dh_tree.specs.PlainTrees.{Action}
use Rattle.dh_meaning.specs.AccessNumbers.{accesses_of, own_accesses}
use Rattle.dh_meaning.specs.CoreOf.{action_form_of}
use Rattle.dh_meaning.specs.Phases.{Located, Phase, straight, turns, repeated, decided, Phases, no_phases, phase}
use Rattle.dh_phases.specs.GatheredPhases.{Header, header_of}

-- the number behind the accesses of a command, and behind those of its test alone
abbrev pub behind_command : Located → ℕ
behind_command c = c.first + accesses_of c.command

abbrev pub behind_test : Located → ℕ
behind_test c = c.first + own_accesses (action_form_of c.command)

-- commands have accesses of these numbers, from the first one on and before the last, one behind the other
abbrev pub CommandsRise : (first last : ℕ) → List Located → Type 0
CommandsRise first last [] = first ≤ last
CommandsRise first last (c ∷ cs) = (first ≤ c.first) × CommandsRise (behind_command c) last cs

-- a `for` has a copy of its body
abbrev pub HasCopies : Action → Type 0
HasCopies a = (h : Header) → header_of (action_form_of a) ≡ Some h → 0 < h.factor

-- so have phases, the test in front of what is done by it; and each `for` has copies
abbrev mutual
  pub PhaseRises : (first last : ℕ) → Phase → Type 0
  PhaseRises first last (straight cs) = CommandsRise first last cs
  PhaseRises first last (turns loop count body) = HasCopies loop.command × PhasesRise first last body
  PhaseRises first last (repeated loop body) = (first ≤ loop.first) × PhasesRise (behind_test loop) last body
  PhaseRises first last (decided choice chosen other) =
      (middle : ℕ) × ((first ≤ choice.first) × (PhasesRise (behind_test choice) middle chosen × PhasesRise middle last other))

  pub PhasesRise : (first last : ℕ) → Phases → Type 0
  PhasesRise first last no_phases = first ≤ last
  PhasesRise first last (phase q qs) = (middle : ℕ) × (PhaseRises first middle q × PhasesRise middle last qs)

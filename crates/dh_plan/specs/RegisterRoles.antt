-- What the registers of a plan stand for: each that a block sees or sets is that of a variable at a path, or of an offset
-- that a view keeps there, or counts the turns of a loop, or tells a test. (Memories and views that keep nothing are entities
-- too, and each has a number among the registers; no block sees or sets it, and a net has no register of it.)
use Rattle.std.specs.Prelude.{◌≡◌, ◌⊎◌, ℕ, ◌||◌, Bool, false, List, [], ◌∷◌}
use Rattle.dh_meaning.specs.Core.{CorePhase, straightly, turning, looping, choosing, CorePhases, no_core_phases, phase_and}
use Rattle.dh_meaning.specs.Effects.{commands, tests}
use Rattle.dh_plan.specs.Correspondence.{Slots}
use Rattle.dh_plan.specs.DoneProgram.{Sees, SetsRegister}
use Rattle.dh_plan.specs.PlainPlans.{PlainPlan, Nodes}
use Rattle.dh_plan.specs.PlanPhases.{IsRegisterOf, block_mentions, DoesPhases}
use Rattle.dh_plan.specs.SoundPlans.{Counting, IsOneOf, blocks_of, countings, flags_of}

abbrev mutual
  -- some block of these phases mentions a variable, or keeps an offset in it
  pub phases_mention : (entity : ℕ) → CorePhases → Bool
  phases_mention entity no_core_phases = false
  phases_mention entity (phase_and p ps) = phase_mentions entity p || phases_mention entity ps

  pub phase_mentions : (entity : ℕ) → CorePhase → Bool
  phase_mentions entity (straightly cs) = block_mentions entity (commands cs)
  phase_mentions entity (turning loop body) = phases_mention entity body
  phase_mentions entity (looping test body) = block_mentions entity (tests test) || phases_mention entity body
  phase_mentions entity (choosing test chosen other) = block_mentions entity (tests test) || (phases_mention entity chosen || phases_mention entity other)

-- the register of a variable that the phases mention, at a path; variables that keep offsets are among them
abbrev pub HoldsVariable : Slots → CorePhases → (register : ℕ) → Type 0
HoldsVariable slots ps register = IsRegisterOf slots (λ entity. phases_mention entity ps) register

-- the register counts the turns of one of these loops
abbrev pub IsCounterIn : List Counting → (register : ℕ) → Type 0
IsCounterIn [] register = ⊥
IsCounterIn (c ∷ cs) register = (c.counter ≡ register) ⊎ IsCounterIn cs register

abbrev pub CountsLoop : Nodes → (register : ℕ) → Type 0
CountsLoop ns register = IsCounterIn (countings ns) register

-- the register tells a test
abbrev pub TellsTest : Nodes → (register : ℕ) → Type 0
TellsTest ns register = IsOneOf register (flags_of ns)

abbrev pub HasRole : PlainPlan → Slots → CorePhases → (register : ℕ) → Type 0
HasRole plan slots ps register = HoldsVariable slots ps register ⊎ (CountsLoop plan.body register ⊎ TellsTest plan.body register)

-- a block sees a register, or sets it
abbrev pub TouchesRegister : PlainPlan → (block register : ℕ) → Type 0
TouchesRegister plan block register = Sees plan block register ⊎ SetsRegister plan block register

-- so each register that a block of the nodes sees or sets
abbrev pub RegistersHaveRoles : PlainPlan → Slots → CorePhases → Type 0
RegistersHaveRoles plan slots ps = (block register : ℕ) → IsOneOf block (blocks_of plan.body) → TouchesRegister plan block register → HasRole plan slots ps register

-- of a plan that does the phases of a program
abbrev pub PhasesGiveRoles : Type 0
PhasesGiveRoles = (plan : PlainPlan) (slots : Slots) (ps : CorePhases) → DoesPhases plan slots ps → RegistersHaveRoles plan slots ps

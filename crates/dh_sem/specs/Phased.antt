-- Phases as a run does them, and those of a program's core that they are.
use Rattle.std.specs.Prelude.{◌≡◌, ℕ, ◌+◌, ◌*◌, ◌<◌, ◌≤◌, ◌^◌, ◌-◌, Bool, if◌then◌else◌, List, length, slice_get, Option, Some, None}
use Rattle.dh_tree.specs.declared.tables.MemEntry.{MemEntry}
use Rattle.dh_meaning.specs.Core.{Turning, CorePhase, straightly, turning, looping, choosing, CorePhases, no_core_phases, phase_and}
use Rattle.dh_code.specs.declared.codes.Code.{Code}
use Rattle.dh_code.specs.declared.codes.CodeOperation.{CodeOperation}
use Rattle.dh_code.specs.Coded.{AreCoded, AreSlotsOf, IsFlat}
use Rattle.dh_code.specs.Slots.{Placing}
use Rattle.dh_code.specs.Suited.{CanDoAll, CanTest, IsInside}
use Rattle.dh_sem.specs.declared.lanes.Lanes.{Lanes}
use Rattle.dh_sem.specs.declared.phases.PhaseForm.{PhaseForm}
use Rattle.dh_sem.specs.declared.phases.PhaseForm.TheVariants.{Straight, Turns, Loop, Choice}
use Rattle.dh_sem.specs.declared.phases.Turns as turns
use Rattle.dh_sem.specs.declared.phases.HeldPhase.{HeldPhase}
use Rattle.dh_sem.specs.declared.phases.Frame.{Frame}
use Rattle.dh_sem.specs.declared.phases.Frame.TheVariants.{List as Rest, Turn, Test, Again, Pick}
use Rattle.dh_code.specs.Scenes.{IsHeld, IsEarlier}
use Rattle.dh_code.specs.Declarations.{factors_inside}
use Rattle.dh_sem.specs.Lanes.{LeadsInto}

-- what a run has of a program: its code, its phases and the paths at which they are done
pub record Course : Type 0 where
  pub code : Code
  pub phases : List HeldPhase
  pub lanes : List Lanes

-- the turns of a `for`, and the slots of its iterator inside loops of these factors
pub record AreTurns (p : Placing) (factors : List ℕ) (t : turns.Turns) (loop : Turning) : Type 0 where
  pub slots : AreSlotsOf p.held loop.iterator t.first t.depth
  pub iterator : IsInside p (factors_inside factors loop.factor) loop.depth loop.iterator
  pub low : t.low ≡ loop.low
  pub factor : t.factor ≡ loop.factor
  pub count : t.count ≡ loop.count
  -- the iterator's values are numbers of 64 bits
  pub counted : t.low + t.count * t.factor ≤ 2 ^ 64 - 1
  pub some_factor : 1 ≤ t.factor
  pub some_turn : 1 ≤ t.count

abbrev pub IsSome : Option ℕ → Type 0
IsSome None = ⊥
IsSome (Some n) = Unit {0}

abbrev mutual
  -- the phases that begin at a number are these, done inside loops of these factors
  pub ArePhases : List MemEntry → Placing → Course → (factors : List ℕ) → Option ℕ → CorePhases → Type 0
  ArePhases table p c factors None no_core_phases = Unit {0}
  ArePhases table p c factors None (phase_and q qs) = ⊥
  ArePhases table p c factors (Some at) no_core_phases = ⊥
  ArePhases table p c factors (Some at) (phase_and q qs) =
      (phase : HeldPhase) × ((slice_get c.phases at ≡ Some phase) × (LeadsInto c.lanes phase.paths factors
      × (IsEarlier at phase.next × (IsPhase table p c factors at phase.form q × ArePhases table p c factors phase.next qs))))

  -- what the phase of a number does is this; the body of a `for` has a phase
  pub IsPhase : List MemEntry → Placing → Course → (factors : List ℕ) → (at : ℕ) → PhaseForm → CorePhase → Type 0
  IsPhase table p c factors at (Straight list) (straightly cs) = AreCoded p.held table c.code list cs × CanDoAll table p factors cs
  IsPhase table p c factors at (Straight list) (turning loop body) = ⊥
  IsPhase table p c factors at (Straight list) (looping test body) = ⊥
  IsPhase table p c factors at (Straight list) (choosing test chosen other) = ⊥
  IsPhase table p c factors at (Turns t) (straightly cs) = ⊥
  IsPhase table p c factors at (Turns t) (turning loop body) =
      AreTurns p factors t loop
      × (LeadsInto c.lanes t.inside (factors_inside factors loop.factor)
      × (IsSome t.body × (IsEarlier at t.body × ArePhases table p c (factors_inside factors loop.factor) t.body body)))
  IsPhase table p c factors at (Turns t) (looping test body) = ⊥
  IsPhase table p c factors at (Turns t) (choosing test chosen other) = ⊥
  IsPhase table p c factors at (Loop f list) (straightly cs) = ⊥
  IsPhase table p c factors at (Loop f list) (turning loop body) = ⊥
  IsPhase table p c factors at (Loop f list) (looping test body) =
      IsFlat p.held table c.code test f × (CanTest table p factors test × (IsEarlier at list × ArePhases table p c factors list body))
  IsPhase table p c factors at (Loop f list) (choosing test chosen other) = ⊥
  IsPhase table p c factors at (Choice f one two) (straightly cs) = ⊥
  IsPhase table p c factors at (Choice f one two) (turning loop body) = ⊥
  IsPhase table p c factors at (Choice f one two) (looping test body) = ⊥
  IsPhase table p c factors at (Choice f one two) (choosing test chosen other) =
      IsFlat p.held table c.code test f
      × (CanTest table p factors test
      × ((IsEarlier at one × IsEarlier at two) × (ArePhases table p c factors one chosen × ArePhases table p c factors two other)))

-- Phases that can be gone through, whatever they are of: lists begin earlier, lanes are there, and a `for` has turns.
pub record IsLinkedTurns (lanes : List Lanes) (at : ℕ) (t : turns.Turns) : Type 0 where
  pub lanes_there : t.inside < length lanes
  pub earlier : IsEarlier at t.body
  pub some_phase : IsSome t.body
  pub counts : t.low + t.count * t.factor ≤ 2 ^ 64 - 1
  pub some_factor : 1 ≤ t.factor
  pub some_turn : 1 ≤ t.count

abbrev pub IsLinked : List Lanes → (at : ℕ) → PhaseForm → Type 0
IsLinked lanes at (Straight list) = Unit {0}
IsLinked lanes at (Turns t) = IsLinkedTurns lanes at t
IsLinked lanes at (Loop f list) = IsEarlier at list
IsLinked lanes at (Choice f one two) = IsEarlier at one × IsEarlier at two

pub record IsLinkedPhase (lanes : List Lanes) (at : ℕ) (phase : HeldPhase) : Type 0 where
  pub form : IsLinked lanes at phase.form
  pub next : IsEarlier at phase.next
  pub paths : phase.paths < length lanes

pub record AreLinked (phases : List HeldPhase) (lanes : List Lanes) : Type 0 where
  pub each : (at : ℕ) (phase : HeldPhase) → slice_get phases at ≡ Some phase → IsLinkedPhase lanes at phase

-- the operations of the test stand in code
abbrev pub TestIsHeld : List CodeOperation → PhaseForm → Type 0
TestIsHeld os (Straight list) = Unit {0}
TestIsHeld os (Turns t) = Unit {0}
TestIsHeld os (Loop f list) = IsHeld os f
TestIsHeld os (Choice f one two) = IsHeld os f

pub record IsSoundCourse (c : Course) : Type 0 where
  pub links : AreLinked c.phases c.lanes
  pub tests : (at : ℕ) (phase : HeldPhase) → slice_get c.phases at ≡ Some phase → TestIsHeld c.code.operations phase.form

-- a frame of one of so many phases, whose turns are counted
abbrev pub IsSoundFrame : (count : ℕ) → Frame → Type 0
IsSoundFrame count (Rest list) = IsEarlier count list
IsSoundFrame count (Turn at turn) = (at < count) × (turn < 2 ^ 64 - 1)
IsSoundFrame count (Test at) = at < count
IsSoundFrame count (Again at) = at < count
IsSoundFrame count (Pick at) = at < count

-- the body of a `while`, or the arm of an `if` by its test
abbrev pub taken_branch : PhaseForm → Bool → Option ℕ
taken_branch (Straight list) holds = None
taken_branch (Turns t) holds = None
taken_branch (Loop f list) holds = list
taken_branch (Choice f one two) holds = if holds then one else two

-- the turns of a phase that is a `for`
abbrev pub turns_in : PhaseForm → Option turns.Turns
turns_in (Straight list) = None
turns_in (Turns t) = Some t
turns_in (Loop f list) = None
turns_in (Choice f one two) = None

-- What the calls promise that hold phases as a run goes along them: a phase gets its code, and a list of phases is held
-- from its last one on. Gathered phases stand for those of the definition that they match.
use Rattle.std.specs.Prelude.{◌≡◌, ℕ, ◌<◌, ◌≤◌, List, [], ◌++◌, length, Option}
use Rattle.std.specs.List.{AllByRecursion}
use Rattle.dh_tree.specs.declared.tables.MemEntry.{MemEntry}
use Rattle.dh_tree.specs.declared.trees.commands.Command.{Command}
use Rattle.dh_tree.specs.declared.trees.expressions.Expr.{Expr}
use Rattle.dh_tree.specs.Memories.{table_of}
use Rattle.dh_tree.specs.PlainTrees.{Program}
use Rattle.dh_tree.specs.Seen.{action_seen}
use Rattle.dh_tree.specs.Shapes.{IsMemory}
use Rattle.dh_meaning.specs.CoreOf.{Known, core_of, core_phase, core_phases, entity_number}
use Rattle.dh_meaning.specs.Phases as source
use Rattle.dh_meaning.specs.Phases.{phases, of_list, straight, turns, repeated, decided, no_phases, phase}
use Rattle.dh_meaning.specs.Sites.{nothing_around}
use Rattle.dh_phases.specs.GatheredPhases.{Gathered, AllGathered, Header}
use Rattle.dh_phases.specs.MatchedPhases.{Matches, AllMatch}
use Rattle.dh_code.specs.declared.codes.FlatExpression.{FlatExpression}
use Rattle.dh_code.specs.declared.flattening.Names.{Names}
use Rattle.dh_code.specs.declared.places.VariableSlots.{VariableSlots}
use Rattle.dh_code.specs.Coded.{ExtendsCode}
use Rattle.dh_code.specs.Declarations.{placing_of}
use Rattle.dh_code.specs.Flattening.{HoldsFlat, IsPlacingOf, known_by_names, table_in}
use Rattle.dh_code.specs.Scenes.{IsSoundCode, IsEarlier}
use Rattle.dh_code.specs.Slots.{Placing, held_at}
use Rattle.dh_sem.specs.declared.holding.MadeRun.{MadeRun}
use Rattle.dh_sem.specs.declared.phases.PhaseForm.{PhaseForm}
use Rattle.dh_sem.specs.declared.phases.HeldPhase.{HeldPhase}
use Rattle.dh_sem.specs.declared.phases.Turns.{Turns}
use Rattle.dh_sem.specs.Lanes.{LeadsInto, MoreLanes}
use Rattle.dh_sem.specs.Phased.{ArePhases, Course, IsLinked, IsPhase, IsSome, IsSoundCourse, TestIsHeld}
use Rattle.dh_sem.specs.Runnable.{CanRun, CanRunAll}

-- What is made of a program.

abbrev pub course_made : MadeRun → Course
course_made m = record { code = m.code; phases = m.phases.items; lanes = m.lanes.items }

-- more behind what was made
pub record MoreMade (old new : MadeRun) : Type 0 where
  pub code : ExtendsCode old.code new.code
  pub phases : List HeldPhase
  pub are : new.phases.items ≡ old.phases.items ++ phases
  pub lanes : MoreLanes old.lanes.items new.lanes.items

pub record IsSoundMade (table : List MemEntry) (m : MadeRun) : Type 0 where
  pub code : IsSoundCode table m.code
  pub course : IsSoundCourse (course_made m)

-- what is held next is this
abbrev pub IsHeldAs : List MemEntry → Known → Placing → MadeRun → (factors : List ℕ) → PhaseForm → source.Phase → Type 0
IsHeldAs table known p m factors form q = IsPhase table p (course_made m) factors (length m.phases.items) form (core_phase known q)

-- and can be gone through
pub record CanBeHeld (m : MadeRun) (form : PhaseForm) : Type 0 where
  pub linked : IsLinked m.lanes.items (length m.phases.items) form
  pub tested : TestIsHeld m.code.operations form

-- Phases of the definition: each `for` among them, however deep, has a turn, and its turn a phase.

abbrev pub HasPhase : source.Phases → Type 0
HasPhase no_phases = ⊥
HasPhase (phase q qs) = Unit {0}

abbrev mutual
  pub IsTurned : source.Phase → Type 0
  IsTurned (straight ls) = Unit {0}
  IsTurned (turns loop count body) = (1 ≤ count) × (HasPhase body × AreTurned body)
  IsTurned (repeated loop body) = AreTurned body
  IsTurned (decided choice chosen other) = AreTurned chosen × AreTurned other

  pub AreTurned : source.Phases → Type 0
  AreTurned no_phases = Unit {0}
  AreTurned (phase q qs) = IsTurned q × AreTurned qs

-- so many turns of a `for`, whose body begins at a number
abbrev pub turns_counted : List VariableSlots → Header → (count : ℕ) → (body : Option ℕ) → (within : ℕ) → Turns
turns_counted places h count body within =
    record { first = (held_at places (entity_number h.iterator.entity)).first; depth = (held_at places (entity_number h.iterator.entity)).depth; low = h.low; factor = h.factor; count = count; body = body; inside = within }

-- a phase has its code, and the phases inside it are held
pub record Fixes (names : Names) (p : Placing) (factors : List ℕ) (paths : ℕ) (old new : MadeRun) (form : PhaseForm) (q : source.Phase) : Type 0 where
  pub more : MoreMade old new
  pub sound : AllByRecursion IsMemory (table_in names) → paths < length old.lanes.items → IsSoundMade (table_in names) old → IsSoundMade (table_in names) new × CanBeHeld new form
  pub means : LeadsInto old.lanes.items paths factors → IsHeldAs (table_in names) (known_by_names names) p new factors form q

abbrev pub FixesForm : Names → (paths : ℕ) → (old new : MadeRun) → Gathered → PhaseForm → Type 0
FixesForm names paths old new gathered form =
    (p : Placing) (factors : List ℕ) (q : source.Phase) → IsPlacingOf p names → Matches gathered q → IsTurned q → CanRun (table_in names) p factors (core_phase (known_by_names names) q) → Fixes names p factors paths old new form q

-- a list of phases is held; where it has a phase, it begins at one
pub record HoldsPhases (names : Names) (p : Placing) (factors : List ℕ) (paths : ℕ) (old new : MadeRun) (first : Option ℕ) (qs : source.Phases) : Type 0 where
  pub more : MoreMade old new
  pub earlier : IsEarlier (length new.phases.items) first
  pub begins : HasPhase qs → IsSome first
  pub sound : AllByRecursion IsMemory (table_in names) → paths < length old.lanes.items → IsSoundMade (table_in names) old → IsSoundMade (table_in names) new
  pub means : LeadsInto old.lanes.items paths factors → ArePhases (table_in names) p (course_made new) factors first (core_phases (known_by_names names) qs)

abbrev pub HoldsList : Names → (paths : ℕ) → (old new : MadeRun) → AllGathered → (first : Option ℕ) → Type 0
HoldsList names paths old new gathered first =
    (p : Placing) (factors : List ℕ) (qs : source.Phases) → IsPlacingOf p names → AllMatch gathered qs → AreTurned qs → CanRunAll (table_in names) p factors (core_phases (known_by_names names) qs) → HoldsPhases names p factors paths old new first qs

-- a test, which has its code
pub record HoldsTestCode (names : Names) (old new : MadeRun) (test : Expr) (f : FlatExpression) : Type 0 where
  pub flat : HoldsFlat names old.code new.code test f
  pub phases : new.phases.items ≡ old.phases.items
  pub lanes : new.lanes.items ≡ old.lanes.items

-- the phases of a program's body, outside all loops
abbrev pub HoldsAll : Names → (old new : MadeRun) → Command → (first : Option ℕ) → Type 0
HoldsAll names old new body first =
    (p : Placing) → IsPlacingOf p names → CanRunAll (table_in names) p [] (core_phases (known_by_names names) (of_list (phases nothing_around 0 (action_seen body)))) → AllByRecursion IsMemory (table_in names) → LeadsInto old.lanes.items 0 [] → IsSoundMade (table_in names) old
    → IsSoundMade (table_in names) new
    × (IsEarlier (length new.phases.items) first × ArePhases (table_in names) p (course_made new) [] first (core_phases (known_by_names names) (of_list (phases nothing_around 0 (action_seen body)))))

-- what is made of a program before its first step stands as its phases do
abbrev pub HoldsProgram : Program → MadeRun → (first : Option ℕ) → Type 0
HoldsProgram p made first =
    IsSoundMade (table_of p) made × (IsEarlier (length made.phases.items) first × ArePhases (table_of p) (placing_of p) (course_made made) [] first (core_of p).phases)

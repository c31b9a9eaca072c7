-- The counters of loops beside the registers of variables: what is to be known of a program's loops, and of the
-- registers that stand for its variables.
use Rattle.std.specs.Prelude.{◌≡◌, ℕ, ◌<◌, ◌≤◌, ◌^◌, List, [], ◌∷◌, ◌++◌, length, slice_get, Some, None}
use Rattle.std.specs.List.{AllByRecursion}
use Rattle.dh_value.specs.declared.kinds.Kind.{Kind}
use Rattle.dh_value.specs.declared.kinds.Kind.TheVariants.{Unsigned}
use Rattle.dh_tree.specs.declared.trees.counters.Counter.{Counter}
use Rattle.dh_meaning.specs.Core.{CorePhase, straightly, turning, looping, choosing, CorePhases, no_core_phases, phase_and, Turning}
use Rattle.dh_meaning.specs.Paths.{Path}
use Rattle.dh_meaning.specs.Phases.{turn_count}
use Rattle.dh_code.specs.Ranks.{IsPath, copies_in}
use Rattle.dh_code.specs.Slots.{Placing, slot_of}
use Rattle.dh_plan.specs.Correspondence.{Round, Slots}
use Rattle.dh_plan.specs.PlanPhases.{IsIteratorOf, IsLoopRegister, Tie}
use Rattle.dh_plan.specs.SoundPlans.{Counting}
use Rattle.dh_expressions.specs.declared.scenes.Scene.{Scene}
use Rattle.dh_expressions.specs.Evaluated.{counter_of}
use Rattle.dh_gathering.specs.MadeBlocks.{counter_register}

-- a register stands for a copy of a variable that is no iterator
pub record IsSlotOf (scene : Scene) (p : Placing) (entity : ℕ) (path : Path) (register : ℕ) : Type 0 where
  pub there : entity < length p.held
  pub no_counter : counter_of scene entity ≡ None
  pub path_is : IsPath (p.factors entity) path
  pub is : register ≡ slot_of p entity path

-- registers stand for the copies of variables, and for those of no iterator
pub record AreSlotsBy (scene : Scene) (p : Placing) (slots : Slots) : Type 0 where
  pub held : p.held ≡ scene.held.now
  pub variables : (entity : ℕ) (path : Path) (register : ℕ) → slots entity path ≡ Some register → IsSlotOf scene p entity path register
  pub iterators : (entity : ℕ) (path : Path) (c : Counter) → counter_of scene entity ≡ Some c → slots entity path ≡ None

-- a loop with an iterator that the program counts with, which has a register
pub record IsCounting (scene : Scene) (p : Placing) (loop : Turning) : Type 0 where
  pub there : loop.iterator < length p.held
  pub counter : Counter
  pub counted : counter_of scene loop.iterator ≡ Some counter
  pub turns : loop.count ≡ turn_count counter.low counter.high counter.factor
  pub low : loop.low ≡ counter.low
  pub factor : loop.factor ≡ counter.factor
  pub copies : 1 ≤ copies_in (p.factors loop.iterator)

-- loops round a place are so, and each has the counter of its iterator
abbrev pub AreCounting : Scene → Placing → List Round → Type 0
AreCounting scene p [] = Unit {0}
AreCounting scene p (r ∷ rs) = (IsCounting scene p r.loop × (r.counter ≡ counter_register scene r.loop)) × AreCounting scene p rs

-- all loops of phases are so, and none has the iterator of one round it
abbrev mutual
  pub LoopsCount : Scene → Placing → List Round → CorePhases → Type 0
  LoopsCount scene p rounds no_core_phases = Unit {0}
  LoopsCount scene p rounds (phase_and q qs) = LoopsCountIn scene p rounds q × LoopsCount scene p rounds qs

  pub LoopsCountIn : Scene → Placing → List Round → CorePhase → Type 0
  LoopsCountIn scene p rounds (straightly cs) = Unit {0}
  LoopsCountIn scene p rounds (turning loop body) =
      IsCounting scene p loop × ((IsIteratorOf rounds loop.iterator → ⊥) × LoopsCount scene p (rounds ++ record { loop = loop; counter = counter_register scene loop } ∷ []) body)
  LoopsCountIn scene p rounds (looping test body) = LoopsCount scene p rounds body
  LoopsCountIn scene p rounds (choosing test chosen other) = LoopsCount scene p rounds chosen × LoopsCount scene p rounds other

-- The loops of phases, in order.
abbrev mutual
  pub loops_of_phases : CorePhases → List Turning
  loops_of_phases no_core_phases = []
  loops_of_phases (phase_and q qs) = loops_of_phase q ++ loops_of_phases qs

  pub loops_of_phase : CorePhase → List Turning
  loops_of_phase (straightly cs) = []
  loops_of_phase (turning loop body) = loop ∷ loops_of_phases body
  loops_of_phase (looping test body) = loops_of_phases body
  loops_of_phase (choosing test chosen other) = loops_of_phases chosen ++ loops_of_phases other

-- each of these loops counts, with an iterator that no other of them has
pub record AreOwnLoops (scene : Scene) (p : Placing) (loops : List Turning) : Type 0 where
  pub counting : AllByRecursion (IsCounting scene p) loops
  pub own : (i j : ℕ) (a b : Turning) → slice_get loops i ≡ Some a → slice_get loops j ≡ Some b → a.iterator ≡ b.iterator → i ≡ j

-- a loop as the plan counts it
abbrev pub counting_of : Scene → Turning → Counting
counting_of scene loop = record { counter = counter_register scene loop; turns = loop.count }

-- its counter is a register of a width that has every number below its turns
pub record HasCounter (scene : Scene) (registers : List Kind) (loop : Turning) : Type 0 where
  pub width : ℕ
  pub there : slice_get registers (counter_register scene loop) ≡ Some (Unsigned width)
  pub wide : loop.count ≤ 2 ^ width

-- the counter of each loop is apart from all registers of variables, and from the counters round it
abbrev pub apart_counters : Slots → Tie
apart_counters slots = record {
  of_block = λ rounds cs block. Unit {0};
  of_test = λ rounds test flag block. Unit {0};
  of_loop = λ rounds loop counter. IsLoopRegister slots rounds loop counter;
}

-- What is told of the loops round a block of a program that can be run: a register of the plan counts each, and its
-- iterator is held with its depth.
use Rattle.std.proofs.Common.{◌≡◌, inl, inr, ℕ, zero, suc, ◌≤◌, List, [], ◌∷◌, ◌++◌, length, map, take, Option, Some, None, ap, sym, ◌∙◌, subst, arith, append_assoc}
use Rattle.std.specs.Prelude.{slice_get}
use Rattle.std.specs.List.{AllByRecursion}
use Rattle.dh_value.specs.declared.kinds.Kind.TheVariants.{Unsigned}
use Rattle.dh_tree.specs.declared.tables.MemEntry.{MemEntry}
use Rattle.dh_tree.specs.declared.trees.counters.Counter.{Counter}
use Rattle.dh_tree.specs.Ready.{IsReady}
use Rattle.dh_tree.specs.Seen.{program_seen}
use Rattle.dh_meaning.specs.Core.{CorePhase, straightly, turning, looping, choosing, CorePhases, no_core_phases, phase_and, Turning}
use Rattle.dh_meaning.specs.CoreOf.{core_of}
use Rattle.dh_meaning.specs.Effects.{Block}
use Rattle.dh_meaning.specs.Ways.{all_entities_of}
use Rattle.dh_code.specs.declared.places.VariableSlots.{VariableSlots}
use Rattle.dh_code.specs.Declarations.{all_declarations_of, factors_inside, placing_of}
use Rattle.dh_code.specs.Slots.{Placing, held_at}
use Rattle.dh_sem.specs.Runnable.{CanRun, CanRunAll, IsRunnable}
use Rattle.dh_sound.specs.Blocks.{StandsIn, StandsInPhase, factors}
use Rattle.dh_sound.specs.IteratorsAt.{HaveDepths}
use Rattle.dh_sound.proofs.DepthsNamed.{depths_kept}
use Rattle.dh_plan.specs.Blocks.{kind_at}
use Rattle.dh_plan.specs.Correspondence.{Round, loops_round}
use Rattle.dh_plan.specs.PlainPlans.{PlainPlan}
use Rattle.dh_runnable.proofs.ProgramsRun.{ready_runs}
use Rattle.dh_expressions.specs.declared.scenes.Scene.{Scene}
use Rattle.dh_blocks.specs.SlotsOfScene.{placing_in}
use Rattle.dh_typed_blocks.specs.ScenesTold.{AreRoundsTold}
use Rattle.dh_gathering.specs.LoopCounters.{AreCounting, IsCounting}
use Rattle.dh_gathering.specs.MadeBlocks.{counter_register}
use Rattle.dh_gathering.specs.Registers.{IsRegisterKind}
use Rattle.dh_gathering.proofs.KindsOfRegisters.{first_at, first_before}
use Rattle.dh_told.specs.ScenesKnown.{AreHeldInOrder, HaveTheirKinds}
use Rattle.dh_told.proofs.VariablesKept.{kind_there}

-- The depths of iterators.

abbrev pub HasDepth : Placing → Turning → Type 0
HasDepth p loop = (held_at p.held loop.iterator).depth ≡ loop.depth

one_more : (p : Placing) (round : List Turning) (loop : Turning) → AllByRecursion (HasDepth p) round → HasDepth p loop → AllByRecursion (HasDepth p) (round ++ loop ∷ [])
one_more p [] loop all h = (h, tt)
one_more p (l ∷ round) loop all h = (all.0, one_more p round loop all.1 h)

module _ (table : List MemEntry) (p : Placing) where
  moved : (round loops : List Turning) → loops ≡ round → AllByRecursion (HasDepth p) round → AllByRecursion (HasDepth p) loops
  moved round loops e all = subst (λ (ls : List Turning). AllByRecursion (HasDepth p) ls) (sym e) all

  mutual
    depths_in : (fs : List ℕ) (q : CorePhase) (round loops : List Turning) (b : Block) → CanRun table p fs q → AllByRecursion (HasDepth p) round → StandsInPhase round q loops b → AllByRecursion (HasDepth p) loops
    depths_in fs (straightly cs) round loops b can all s = moved round loops s.0 all
    depths_in fs (turning loop body) round loops b can all s = depths_all (factors_inside fs loop.factor) body (round ++ loop ∷ []) loops b can.1 (one_more p round loop all can.0.iterator.held) s
    depths_in fs (looping test body) round loops b can all (inl s) = moved round loops s.0 all
    depths_in fs (looping test body) round loops b can all (inr s) = depths_all fs body round loops b can.1 all s
    depths_in fs (choosing test chosen other) round loops b can all (inl s) = moved round loops s.0 all
    depths_in fs (choosing test chosen other) round loops b can all (inr (inl s)) = depths_all fs chosen round loops b can.1.0 all s
    depths_in fs (choosing test chosen other) round loops b can all (inr (inr s)) = depths_all fs other round loops b can.1.1 all s

    depths_all : (fs : List ℕ) (qs : CorePhases) (round loops : List Turning) (b : Block) → CanRunAll table p fs qs → AllByRecursion (HasDepth p) round → StandsIn round qs loops b → AllByRecursion (HasDepth p) loops
    depths_all fs no_core_phases round loops b can all s = absurd s
    depths_all fs (phase_and q qs) round loops b can all (inl s) = depths_in fs q round loops b can.0 all s
    depths_all fs (phase_and q qs) round loops b can all (inr s) = depths_all fs qs round loops b can.1 all s

-- Loops one by one.

abbrev some_or : {A : Type 0} → A → Option A → A
some_or d None = d
some_or d (Some x) = x

depth_at : (p : Placing) (rounds : List Round) (index : ℕ) (r : Round) → AllByRecursion (HasDepth p) (loops_round rounds) → slice_get rounds index ≡ Some r → HasDepth p r.loop
depth_at p [] index r all e = absurd cc
depth_at p (x ∷ rounds) zero r all e = subst (λ (y : Round). HasDepth p y.loop) (ap (λ (o : Option Round). some_or x o) e) all.0
depth_at p (x ∷ rounds) (suc index) r all e = depth_at p rounds index r all.1 e

counting_at : (scene : Scene) (p : Placing) (rounds : List Round) (index : ℕ) (r : Round) → AreCounting scene p rounds → slice_get rounds index ≡ Some r → IsCounting scene p r.loop × (r.counter ≡ counter_register scene r.loop)
counting_at scene p [] index r all e = absurd cc
counting_at scene p (x ∷ rounds) zero r all e = subst (λ (y : Round). IsCounting scene p y.loop × (y.counter ≡ counter_register scene y.loop)) (ap (λ (o : Option Round). some_or x o) e) all.0
counting_at scene p (x ∷ rounds) (suc index) r all e = counting_at scene p rounds index r all.1 e

inside_at : (round : List Turning) (rounds : List Round) (index : ℕ) (r : Round) → HaveDepths round (loops_round rounds) → slice_get rounds index ≡ Some r → r.loop.depth ≡ length (factors (round ++ map (λ (q : Round). q.loop) (take (suc index) rounds)))
inside_at round [] index r h e = absurd cc
inside_at round (x ∷ rounds) zero r h e = subst (λ (y : Round). y.loop.depth ≡ length (factors (round ++ x.loop ∷ []))) (ap (λ (o : Option Round). some_or x o) e) h.0
inside_at round (x ∷ rounds) (suc index) r h e =
    inside_at (round ++ x.loop ∷ []) rounds index r h.1 e ∙ ap (λ (ls : List Turning). length (factors ls)) (append_assoc round (x.loop ∷ []) (map (λ (q : Round). q.loop) (take (suc index) rounds)))

module _ (scene : Scene) (count : ℕ) (plan : PlainPlan) (order : AreHeldInOrder scene count) (kinds : HaveTheirKinds scene count plan.registers) where
  -- the counter of a loop is a register of its kind
  counter_kind : (loop : Turning) (c : IsCounting scene (placing_in scene) loop) → (w : ℕ) × (kind_at plan.registers (counter_register scene loop) ≡ Unsigned w)
  counter_kind loop c =
      let first = first_at scene.held.now count loop.iterator c.there in
      let k = kinds loop.iterator (counter_register scene loop) c.there (low first)
      (first_before (all_declarations_of (program_seen scene.program.now)) (all_entities_of (program_seen scene.program.now)) scene.held.now count loop.iterator order.held order.count_is c.there c.copies) in
      let is = subst (λ (o : Option Counter). IsRegisterKind o (held_at scene.held.now loop.iterator).kind k.0) c.counted k.1.1 in
      (is.0, kind_there plan.registers (counter_register scene loop) k.0 k.1.0 ∙ is.1.0)
    where
      low : {a b : ℕ} → a ≡ b → b ≤ a
      low e = omega (arith, e)

  pub rounds_known : (rounds : List Round) (b : Block) → IsReady (program_seen scene.program.now) → AreCounting scene (placing_in scene) rounds → StandsIn [] (core_of (program_seen scene.program.now)).phases (loops_round rounds) b
      → AreRoundsTold scene plan.registers rounds
  rounds_known rounds b ready counting stands index r at =
      let runs : IsRunnable (program_seen scene.program.now) = ready_runs (program_seen scene.program.now) ready in
      let c = counting_at scene (placing_in scene) rounds index r counting at in
      let deep = depth_at (placing_of (program_seen scene.program.now)) rounds index r (depths_all (core_of (program_seen scene.program.now)).table (placing_of (program_seen scene.program.now)) [] (core_of (program_seen scene.program.now)).phases [] (loops_round rounds) b runs.phases tt stands) at in
      let kind = counter_kind r.loop c.0 in
      record {
        counter = c.0.counter;
        counted = c.0.counted;
        low = c.0.low;
        factor = c.0.factor;
        count = c.0.turns;
        register_is = sym c.1;
        held_depth = ap (λ (held : List VariableSlots). (held_at held r.loop.iterator).depth) order.held ∙ deep;
        depth = inside_at [] rounds index r ((depths_kept (program_seen scene.program.now) ready.entities).depths (loops_round rounds) b stands) at;
        width = kind.0;
        kind_is = ap (λ (n : ℕ). kind_at plan.registers n) c.1 ∙ kind.1;
      }

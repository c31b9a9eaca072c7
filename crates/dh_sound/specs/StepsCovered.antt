-- That the steps of a run spend no more than accesses charge which may meet: soundness of runs, from any memories. (The
-- soundness of time-sensitive affine types, after Nigam and others, PLDI 2020, for this profile.)
use Rattle.std.specs.Prelude.{◌≡◌, ℕ, ◌≤◌, List, Some}
use Rattle.dh_base.specs.declared.outcomes.Outcome.TheVariants.{Going}
use Rattle.dh_tree.specs.Memories.{memories_of, number_in, table_of}
use Rattle.dh_tree.specs.PlainTrees.{Program}
use Rattle.dh_meaning.specs.CoreOf.{core_of}
use Rattle.dh_meaning.specs.Effects.{Event, spent}
use Rattle.dh_meaning.specs.Runs.{run_state, step_effect}
use Rattle.dh_meets.specs.Ports.{ports_of_entity}
use Rattle.dh_sound.specs.BlocksCovered.{AreCovered}

-- the events of the step that a run does after n steps
abbrev pub run_step_events : Program → (memories : List (List ℕ)) → (n : ℕ) → List Event
run_step_events p memories n = (step_effect (table_of p) (run_state (core_of p) memories n)).events

-- this holds of each step that a run does, from whatever memories, and of each bank of each memory
abbrev pub OfEachStep : (P : List Event → (entity memory bank : ℕ) → Type 0) → Program → Type 0
OfEachStep P p =
    (memories : List (List ℕ)) (n : ℕ) → (run_state (core_of p) memories n).outcome ≡ Going
    → (entity memory bank : ℕ) → number_in (memories_of p) (Some entity) ≡ Some memory → P (run_step_events p memories n) entity memory bank

-- what each step spends is covered
abbrev pub StepsCovered : Program → Type 0
StepsCovered p = OfEachStep (AreCovered p) p

-- each step spends at most the ports
abbrev pub StepsKept : Program → Type 0
StepsKept p = OfEachStep (λ es entity memory bank. spent es memory bank ≤ ports_of_entity p entity) p

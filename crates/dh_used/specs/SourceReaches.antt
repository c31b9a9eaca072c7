-- What a plan reaches, as it was made of a program: memories of accesses of the source.
use Rattle.std.specs.Prelude.{◌≡◌, ℕ, List, Some}
use Rattle.std.specs.List.{AllByRecursion}
use Rattle.dh_tree.specs.Memories.{memories_of, number_in}
use Rattle.dh_tree.specs.PlainTrees.{Program}
use Rattle.dh_tree.specs.Seen.{program_seen}
use Rattle.dh_meaning.specs.CoreOf.{entity_number}
use Rattle.dh_meaning.specs.Ways.{base_of, way_to}
use Rattle.dh_meets.specs.SourceEvents.{SourceAccess}
use Rattle.dh_plan.specs.declared.operations.Operation.{Operation}
use Rattle.dh_plan.specs.declared.operations.Reach.{Reach}
use Rattle.dh_plan.specs.PlainPlans.{PlainPlan}
use Rattle.dh_plan.specs.SoundPlans.{HasAccess, access_in}
use Rattle.dh_sound.specs.ToldEvents.{access_at}
use Rattle.dh_expressions.specs.declared.scenes.Scene.{Scene}
use Rattle.dh_expressions.specs.Numbers.{narrowed}
use Rattle.dh_gathering.specs.declared.blocks.Made.{Made}
use Rattle.dh_used.specs.MadePlans.{IsMadeOf}
use Rattle.dh_used.specs.UsedPlans.{OneNodeEach}

-- an access of the source, and the memory of that access
pub record IsOfSource (p : Program) (r : Reach) : Type 0 where
  pub access : SourceAccess
  pub there : access_at p r.access ≡ Some access
  pub memory_is : r.memory ≡ narrowed (entity_number (number_in (memories_of p) (base_of (way_to p access.entity) access.entity)))

-- each of these operations that reads, writes or probes reaches so
abbrev pub ReachSource : Program → List Operation → Type 0
ReachSource p os = AllByRecursion (λ (o : Operation). (r : Reach) → access_in o.form ≡ Some r → IsOfSource p r) os

abbrev pub AreOfSource : Program → PlainPlan → Type 0
AreOfSource p plan = (block i : ℕ) (r : Reach) → HasAccess plan block i r → IsOfSource p r

abbrev pub MadePlansReach : Type 0
MadePlansReach = (scene : Scene) (final : Made) (plan : PlainPlan) → IsMadeOf scene final plan → OneNodeEach plan → AreOfSource (program_seen scene.program.now) plan

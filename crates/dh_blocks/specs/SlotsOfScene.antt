-- The registers of variables: those that the scene holds, for each copy of each variable; iterators have none.
use Rattle.std.specs.Prelude.{◌≡◌, ℕ, ◌≤◌, ◌<◌, ◌^◌, ◌&&◌, not, nat_lt, Bool, true, false, if◌then◌else◌, List, [], ◌∷◌, length, Some, None}
use Rattle.std.specs.Option.{is_some}
use Rattle.dh_tree.specs.declared.trees.expressions.Ref.{Ref}
use Rattle.dh_tree.specs.declared.viewing.ViewMap.{ViewMap}
use Rattle.dh_tree.specs.Memories.{table_of}
use Rattle.dh_tree.specs.Seen.{program_seen}
use Rattle.dh_meaning.specs.CoreOf.{way_of}
use Rattle.dh_meaning.specs.Paths.{Path}
use Rattle.dh_meaning.specs.Ways.{Way}
use Rattle.dh_plan.specs.Blocks.{kind_at}
use Rattle.dh_plan.specs.Correspondence.{Slots}
use Rattle.dh_plan.specs.PlainPlans.{PlainPlan}
use Rattle.dh_code.specs.Declarations.{placing_of}
use Rattle.dh_code.specs.Slots.{IsPlacing, Placing, held_at, slot_of}
use Rattle.dh_expressions.specs.declared.scenes.Scene.{Scene}
use Rattle.dh_expressions.specs.Copying.{HasScopes}
use Rattle.dh_expressions.specs.Drafted.{BlockStep}
use Rattle.dh_expressions.specs.Evaluated.{AreViews, counter_of, known_in}
use Rattle.dh_expressions.specs.Named.{first_view}

-- it is a path inside loops of these factors
abbrev pub is_path : (factors : List ℕ) → Path → Bool
is_path [] [] = true
is_path [] (c ∷ p) = false
is_path (f ∷ fs) [] = false
is_path (f ∷ fs) (c ∷ p) = nat_lt c f && is_path fs p

abbrev pub placing_in : Scene → Placing
placing_in scene = record { held = scene.held.now; factors = (placing_of (program_seen scene.program.now)).factors }

abbrev pub has_slot : Scene → (entity : ℕ) → Path → Bool
has_slot scene entity path = (nat_lt entity (length scene.held.now) && not (is_some (counter_of scene entity))) && is_path ((placing_in scene).factors entity) path

abbrev pub slots_in : Scene → Slots
slots_in scene entity path = if has_slot scene entity path then Some (slot_of (placing_in scene) entity path) else None

-- the views on each way of a program are among these, by the numbers that the scene tells
abbrev pub HasViews : Scene → List ViewMap → Type 0
HasViews scene views = (r : Ref) (w : Way) → way_of (known_in scene) r ≡ Some w → AreViews scene.through.now views (first_view scene r) w.steps

-- a step begins with the memories and the views of the program
pub record IsStartOf (scene : Scene) (x : BlockStep) : Type 0 where
  pub table : x.start.table ≡ table_of (program_seen scene.program.now)
  pub ways : HasViews scene x.start.views

-- a plan has the views of a scene, and registers for its variables, so many, of their kinds
pub record HoldsVariables (scene : Scene) (plan : PlainPlan) (count : ℕ) : Type 0 where
  pub table : plan.table ≡ table_of (program_seen scene.program.now)
  pub views : HasViews scene plan.views
  pub scopes : HasScopes scene
  pub placing : IsPlacing (placing_in scene) count
  pub small : count < 2 ^ 64
  pub within : count ≤ length plan.registers
  pub kinds : (entity : ℕ) (path : Path) (r : ℕ) → slots_in scene entity path ≡ Some r → kind_at plan.registers r ≡ (held_at scene.held.now entity).kind

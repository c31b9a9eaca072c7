-- How a plan names the elements of accesses of the source: each literal index or row is a constant, put down without a guard,
-- and behind indices stand the views on the way of what is named.
use Rattle.std.specs.Prelude.{◌≡◌, ℕ, List, [], ◌∷◌, slice_get, Option, Some, None}
use Rattle.dh_value.specs.declared.kinds.Kind.{Kind}
use Rattle.dh_value.specs.declared.words.Word.{Word}
use Rattle.dh_value.specs.Words.{IsKind, with_bits}
use Rattle.dh_tree.specs.declared.trees.expressions.Ref.{Ref}
use Rattle.dh_tree.specs.PlainTrees as plain
use Rattle.dh_tree.specs.Seen.{program_seen}
use Rattle.dh_meaning.specs.Bindings.{kind_or_first}
use Rattle.dh_meaning.specs.CoreOf.{way_of}
use Rattle.dh_meaning.specs.Effects.{bits_of}
use Rattle.dh_meaning.specs.Ways.{Way}
use Rattle.dh_meets.specs.SourceEvents.{Element, with_indices, in_row, SourceAccess}
use Rattle.dh_plan.specs.declared.operations.Operation.{Operation}
use Rattle.dh_plan.specs.declared.operations.OperationForm.TheVariants.{Constant}
use Rattle.dh_plan.specs.declared.operations.Reach.{Reach}
use Rattle.dh_plan.specs.declared.operations.ReachStep.{ReachStep}
use Rattle.dh_plan.specs.PlainPlans.{PlainPlan}
use Rattle.dh_plan.specs.SoundPlans.{HasAccess}
use Rattle.dh_sound.specs.ToldEvents.{access_at}
use Rattle.dh_expressions.specs.declared.scenes.Scene.{Scene}
use Rattle.dh_expressions.specs.Evaluated.{steps_told}
use Rattle.dh_expressions.specs.Named.{first_view, known_in}
use Rattle.dh_gathering.specs.declared.blocks.Made.{Made}
use Rattle.dh_used.specs.MadePlans.{IsMadeOf}
use Rattle.dh_used.specs.UsedPlans.{OneNodeEach}

-- a constant among operations, which is done whatever holds
abbrev pub ConstantStands : List Operation → (value : ℕ) → Word → Type 0
ConstantStands os value word = slice_get os value ≡ Some (record { guard = None; form = Constant word })

module _ (os : List Operation) where
  -- the value of a literal of a kind is its constant; of another expression nothing is told
  abbrev pub HoldsForm : Kind → plain.TermForm → (value : ℕ) → Type 0
  HoldsForm k (plain.number negative n) value = (word : Word) × (ConstantStands os value word × (IsKind k → word ≡ with_bits k (bits_of k negative n)))
  HoldsForm k (plain.truth_value b) value = Unit {0}
  HoldsForm k (plain.named r) value = Unit {0}
  HoldsForm k (plain.accessed r indices) value = Unit {0}
  HoldsForm k (plain.in_bank r bank at row) value = Unit {0}
  HoldsForm k (plain.applied op left right) value = Unit {0}
  HoldsForm k (plain.converted inner to) value = Unit {0}

  abbrev pub HoldsTerm : plain.Term → (value : ℕ) → Type 0
  HoldsTerm (plain.term place kind form) value = HoldsForm (kind_or_first kind) form value

  -- as many values as there are indices, each of its own
  abbrev pub HoldTerms : plain.Terms → (values : List ℕ) → Type 0
  HoldTerms plain.no_terms values = values ≡ []
  HoldTerms (plain.term_then t ts) values = (value : ℕ) × ((more : List ℕ) × ((values ≡ value ∷ more) × (HoldsTerm t value × HoldTerms ts more)))

-- the views on a way; a memory has none
abbrev pub PassesOn : Scene → (first : ℕ) → Option Way → List ReachStep → Type 0
PassesOn scene first None steps = steps ≡ []
PassesOn scene first (Some w) steps = (values : List ℕ) × (steps ≡ steps_told scene.through.now first w.steps values)

module _ (scene : Scene) (os : List Operation) where
  -- an access names this element of what a name stands for
  abbrev pub AimsAt : Ref → Element → Reach → Type 0
  AimsAt ref (with_indices indices) r = (r.row ≡ None) × (HoldTerms os indices r.indices × PassesOn scene (first_view scene ref) (way_of (known_in scene) ref) r.steps)
  AimsAt ref (in_row bank row) r = (value : ℕ) × ((r.row ≡ Some value) × HoldsTerm os row value)

  -- it is that of its access in the source; no bank is picked yet
  pub record IsAimed (r : Reach) : Type 0 where
    pub access : SourceAccess
    pub there : access_at (program_seen scene.program.now) r.access ≡ Some access
    pub ref : Ref
    pub entity_is : ref.entity ≡ access.entity
    pub select : r.select ≡ None
    pub element : AimsAt ref access.element r

-- so is each access of a plan, among all operations that were put down
abbrev pub MadePlansAim : Type 0
MadePlansAim =
    (scene : Scene) (final : Made) (plan : PlainPlan) → IsMadeOf scene final plan → OneNodeEach plan → (block i : ℕ) (r : Reach) → HasAccess plan block i r → IsAimed scene final.building.draft.operations.items r

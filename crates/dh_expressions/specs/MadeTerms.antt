-- Which operations are put down for reads, writes and expressions at a path, and what is noted of accesses: exactly
-- these, one behind the other.
use Rattle.std.specs.Prelude.{◌≡◌, ℕ, true, false, List, [], ◌∷◌, length, slice_get, Option, Some, None}
use Rattle.dh_base.specs.declared.places.Place.{Place}
use Rattle.dh_value.specs.declared.kinds.Kind.{Kind}
use Rattle.dh_value.specs.declared.operators.Op.{Op}
use Rattle.dh_value.specs.Operations.{truth}
use Rattle.dh_tree.specs.declared.trees.expressions.Ref.{Ref}
use Rattle.dh_tree.specs.Indices.{form_of}
use Rattle.dh_tree.specs.PlainTrees as plain
use Rattle.dh_meaning.specs.Bindings.{kind_or_first}
use Rattle.dh_meaning.specs.CoreOf.{entity_number, memory_of, way_of}
use Rattle.dh_meaning.specs.Ways.{Hidden, Way}
use Rattle.dh_plan.specs.declared.operations.OperationForm.TheVariants.{Constant, Probe, Write}
use Rattle.dh_plan.specs.declared.operations.ReachStep.{ReachStep}
use Rattle.dh_expressions.specs.declared.accesses.Accesses.{Accesses}
use Rattle.dh_expressions.specs.declared.drafts.Draft.{Draft}
use Rattle.dh_expressions.specs.declared.elements.Aim.{Aim}
use Rattle.dh_expressions.specs.declared.scenes.Lane.{Lane}
use Rattle.dh_expressions.specs.declared.scenes.Scene.{Scene}
use Rattle.dh_expressions.specs.declared.terms.Valued.{Valued}
use Rattle.dh_expressions.specs.Drafted.{Pushes}
pub use Rattle.dh_expressions.specs.Evaluated.{number_behind}
use Rattle.dh_expressions.specs.Evaluated.{hidden_register, lane_guard, source_at, steps_told}
use Rattle.dh_expressions.specs.MadeValues.{MadeConverted, MadeNumber, MadeOperation, MadeShown, MadeVariable}
use Rattle.dh_expressions.specs.Named.{first_view, known_in}
use Rattle.dh_expressions.specs.Noted.{Notes, copied_in, fault_in, given_by}
use Rattle.dh_expressions.specs.Reaching.{Finds, copy_banks, reach_told}
use Rattle.dh_expressions.specs.Shown.{is_kept}
use Rattle.dh_expressions.specs.Touching.{TouchesAccess}

-- The reading of an element that these values name: its copies, where they are not made yet, its probe, and the read
-- where it was not made before. What it gives is noted.
pub record MadeRead (scene : Scene) (lane : Lane) (access : plain.Term) (memory : ℕ) (aim : Aim) (old new : Draft) (before after : Accesses) (v : ℕ) : Type 0 where
  pub first : Draft
  pub second : Draft
  pub middle : Accesses
  pub touches : TouchesAccess scene lane.around memory access false old first before middle aim.number
  pub probes : Pushes first second (length first.operations.items) (lane_guard lane) (Probe (reach_told memory aim []) (fault_in middle aim.number))
  pub finds : Finds scene (form_of access) second new memory aim (copied_in middle aim.number lane.number) (given_by middle (source_at (slice_get scene.shares.now aim.number) aim.number lane.number (copied_in middle aim.number lane.number).leader)) v
  pub notes : Notes middle after aim.number lane.number v

-- the writing of an element
pub record MadeWrite (scene : Scene) (lane : Lane) (access : plain.Term) (memory : ℕ) (aim : Aim) (value : ℕ) (old new : Draft) (before after : Accesses) : Type 0 where
  pub first : Draft
  pub second : Draft
  pub number : ℕ
  pub touches : TouchesAccess scene lane.around memory access true old first before after aim.number
  pub probes : Pushes first second (length first.operations.items) (lane_guard lane) (Probe (reach_told memory aim []) (fault_in after aim.number))
  pub writes : Pushes second new number (lane_guard lane) (Write (reach_told memory aim (copy_banks scene (form_of access) (copied_in after aim.number lane.number))) value)

-- the reading of an element of the memory that a name stands for, with the number of the next access
pub record MadeNext (scene : Scene) (lane : Lane) (access : plain.Term) (of : Ref) (aim : Aim) (old new : Draft) (before after : Accesses) (valued : Valued) : Type 0 where
  pub next_is : valued.next ≡ number_behind aim.number
  pub reads : MadeRead scene lane access (memory_of (known_in scene) of) aim old new before after valued.value

-- Views.

-- what is put down for the variables that keep offsets, one behind the other
abbrev pub MadeHidden : Scene → Lane → (current : List (Option ℕ)) → List Hidden → (old new : Draft) → (values : List ℕ) → Type 0
MadeHidden scene lane current [] old new values = (new ≡ old) × (values ≡ [])
MadeHidden scene lane current (h ∷ hs) old new values =
    (middle : Draft) × ((v : ℕ) × ((more : List ℕ) × (MadeShown current (hidden_register scene lane h) old middle v × (MadeHidden scene lane current hs middle new more × (values ≡ v ∷ more)))))

-- for the steps of a way
pub record MadeSteps (scene : Scene) (lane : Lane) (current : List (Option ℕ)) (old new : Draft) (first : ℕ) (w : Way) (steps : List ReachStep) : Type 0 where
  pub values : List ℕ
  pub hidden : MadeHidden scene lane current w.hidden old new values
  pub steps_are : steps ≡ steps_told scene.through.now first w.steps values

-- for those of what an access names: nothing for a memory
abbrev pub MadeWay : Scene → Lane → (current : List (Option ℕ)) → (old new : Draft) → (first : ℕ) → Option Way → (steps : List ReachStep) → Type 0
MadeWay scene lane current old new first None steps = (new ≡ old) × (steps ≡ [])
MadeWay scene lane current old new first (Some w) steps = MadeSteps scene lane current old new first w steps

-- an aim with the steps behind it
pub record MadePassing (scene : Scene) (lane : Lane) (current : List (Option ℕ)) (old new : Draft) (r : Ref) (before after : Aim) : Type 0 where
  pub indices_are : after.indices ≡ before.indices
  pub row_is : after.row ≡ before.row
  pub number_is : after.number ≡ before.number
  pub steps : before.steps ≡ [] → MadeWay scene lane current old new (first_view scene r) (way_of (known_in scene) r) after.steps

-- Parts of an expression, put together. Of each part it is told which drafts, accesses and numbers it leads from
-- and to, and what it gives.

abbrev pub PartMaking : Type 0 → Type 1
PartMaking V = (old new : Draft) → (before after : Accesses) → (n next : ℕ) → V → Type 0

-- a part that no access is in
pub record MadeAlone (Part : (old new : Draft) → (v : ℕ) → Type 0) (old new : Draft) (before after : Accesses) (n next v : ℕ) : Type 0 where
  pub same : after ≡ before
  pub next_is : next ≡ n
  pub part : Part old new v

-- an access behind its indices, and behind the steps of the way of what it names
pub record MadeByIndices (Indices : PartMaking (List ℕ)) (scene : Scene) (lane : Lane) (current : List (Option ℕ)) (access : plain.Term) (of : Ref) (old new : Draft) (before after : Accesses) (n next v : ℕ) : Type 0 where
  pub named : Draft
  pub middle : Draft
  pub between : Accesses
  pub aim : Aim
  pub row : aim.row ≡ None
  pub indices : Indices old named before between n aim.number aim.indices
  pub steps : MadeWay scene lane current named middle (first_view scene of) (way_of (known_in scene) of) aim.steps
  pub reads : MadeRead scene lane access (memory_of (known_in scene) of) aim middle new between after v
  pub next_is : next ≡ number_behind aim.number

-- an access behind its row
pub record MadeByRow (Row : PartMaking ℕ) (scene : Scene) (lane : Lane) (access : plain.Term) (memory : ℕ) (old new : Draft) (before after : Accesses) (n next v : ℕ) : Type 0 where
  pub middle : Draft
  pub between : Accesses
  pub aim : Aim
  pub value : ℕ
  pub none : aim.indices ≡ []
  pub steps : aim.steps ≡ []
  pub row_is : aim.row ≡ Some value
  pub row : Row old middle before between n aim.number value
  pub reads : MadeRead scene lane access memory aim middle new between after v
  pub next_is : next ≡ number_behind aim.number

-- an operator behind its operands
pub record MadeOfTwo (First Second : PartMaking ℕ) (op : Op) (left right : plain.Term) (old new : Draft) (before after : Accesses) (n next v : ℕ) : Type 0 where
  pub middle : Draft
  pub end : Draft
  pub between : Accesses
  pub own : ℕ
  pub a : ℕ
  pub b : ℕ
  pub first : First old middle before between n own a
  pub second : Second middle end between after own next b
  pub operation : MadeOperation op left right a b end new v

-- a conversion behind its operand
pub record MadeOfOne (Inner : PartMaking ℕ) (inner : plain.Term) (to : Kind) (old new : Draft) (before after : Accesses) (n next v : ℕ) : Type 0 where
  pub middle : Draft
  pub a : ℕ
  pub operand : Inner old middle before after n next a
  pub converts : MadeConverted (is_kept inner to) to a middle new v

-- no indices
pub record MadeNone (old new : Draft) (before after : Accesses) (n next : ℕ) (values : List ℕ) : Type 0 where
  pub still : new ≡ old
  pub same : after ≡ before
  pub next_is : next ≡ n
  pub none : values ≡ []

-- an index, and those behind it
pub record MadeThen (First : PartMaking ℕ) (Rest : PartMaking (List ℕ)) (old new : Draft) (before after : Accesses) (n next : ℕ) (values : List ℕ) : Type 0 where
  pub middle : Draft
  pub between : Accesses
  pub own : ℕ
  pub a : ℕ
  pub more : List ℕ
  pub first : First old middle before between n own a
  pub rest : Rest middle new between after own next more
  pub values_are : values ≡ a ∷ more

module _ (scene : Scene) (lane : Lane) (current : List (Option ℕ)) where
  abbrev mutual
    -- an expression whose accesses are numbered from n on
    pub MadeTerm : plain.Term → PartMaking ℕ
    MadeTerm (plain.term place kind form) = MadeForm place kind form

    pub MadeForm : Place → Option Kind → plain.TermForm → PartMaking ℕ
    MadeForm place kind (plain.number negative z) = MadeAlone (λ old new v. MadeNumber (kind_or_first kind) negative z old new v)
    MadeForm place kind (plain.truth_value b) = MadeAlone (λ old new v. Pushes old new v None (Constant (truth b)))
    MadeForm place kind (plain.named r) = MadeAlone (λ old new v. MadeVariable scene lane current (entity_number r.entity) (kind_or_first kind) old new v)
    MadeForm place kind (plain.accessed r indices) =
        MadeByIndices (MadeTerms indices) scene lane current (plain.term place kind (plain.accessed r indices)) r
    MadeForm place kind (plain.in_bank r bank at row) =
        MadeByRow (MadeTerm row) scene lane (plain.term place kind (plain.in_bank r bank at row)) (memory_of (known_in scene) r)
    MadeForm place kind (plain.applied op left right) = MadeOfTwo (MadeTerm left) (MadeTerm right) op left right
    MadeForm place kind (plain.converted inner to) = MadeOfOne (MadeTerm inner) inner to

    pub MadeTerms : plain.Terms → PartMaking (List ℕ)
    MadeTerms plain.no_terms = MadeNone
    MadeTerms (plain.term_then t ts) = MadeThen (MadeTerm t) (MadeTerms ts)

-- indices as which element an access names
pub record MadeIndices (scene : Scene) (lane : Lane) (current : List (Option ℕ)) (ts : plain.Terms) (old new : Draft) (before after : Accesses) (n : ℕ) (aim : Aim) : Type 0 where
  pub row : aim.row ≡ None
  pub steps : aim.steps ≡ []
  pub indices : MadeTerms scene lane current ts old new before after n aim.number aim.indices

-- indices, and behind them the steps of the way of what a name stands for
pub record MadeThrough (scene : Scene) (lane : Lane) (current : List (Option ℕ)) (r : Ref) (ts : plain.Terms) (old new : Draft) (before after : Accesses) (n : ℕ) (aim : Aim) : Type 0 where
  pub middle : Draft
  pub row : aim.row ≡ None
  pub indices : MadeTerms scene lane current ts old middle before after n aim.number aim.indices
  pub steps : MadeWay scene lane current middle new (first_view scene r) (way_of (known_in scene) r) aim.steps

-- a row as which element an access names
pub record MadeRow (scene : Scene) (lane : Lane) (current : List (Option ℕ)) (t : plain.Term) (old new : Draft) (before after : Accesses) (n : ℕ) (aim : Aim) : Type 0 where
  pub value : ℕ
  pub none : aim.indices ≡ []
  pub steps : aim.steps ≡ []
  pub row_is : aim.row ≡ Some value
  pub row : MadeTerm scene lane current t old new before after n aim.number value

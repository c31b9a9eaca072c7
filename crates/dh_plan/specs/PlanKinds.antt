-- The kinds of a block's values, and what a plan must be formed like: its numbers name what is there, and each
-- value has the kind that its use needs.
use Rattle.std.specs.Prelude.{◌≡◌, ℕ, ◌-◌, ◌<◌, List, [], ◌∷◌, ◌++◌, length, slice_get, slice_index_or, Option, Some, None}
use Rattle.std.specs.List.{AllByRecursion}
use Rattle.dh_value.specs.declared.kinds.Kind.{Kind}
use Rattle.dh_value.specs.declared.kinds.Kind.TheVariants as kind
use Rattle.dh_value.specs.Words.{IsInteger, IsWord}
use Rattle.dh_value.specs.Operations.{Suits, result_of}
use Rattle.dh_tree.specs.declared.tables.Dim.{Dim}
use Rattle.dh_tree.specs.declared.tables.MemEntry.{MemEntry}
use Rattle.dh_tree.specs.declared.viewing.ViewMap.{ViewMap}
use Rattle.dh_tree.specs.Elements.{banks_of, dims_at}
use Rattle.dh_tree.specs.ViewElements.{offsets_needed}
use Rattle.dh_meaning.specs.Effects.{kind_in}
use Rattle.dh_plan.specs.declared.operations.Operation.{Operation}
use Rattle.dh_plan.specs.declared.operations.OperationForm.{OperationForm}
use Rattle.dh_plan.specs.declared.operations.OperationForm.TheVariants.{Constant, Old, Compute, Convert, Select, Check, Probe, Read, Write, Set}
use Rattle.dh_plan.specs.declared.operations.Reach.{Reach}
use Rattle.dh_plan.specs.declared.operations.ReachStep.{ReachStep}
use Rattle.dh_plan.specs.PlainPlans.{PlainPlan, first_in, operations_in}
use Rattle.dh_plan.specs.Blocks.{kind_at}
use Rattle.dh_plan.specs.Ordered.{one_or_none, offsets_taken, IsOrdered}

-- the kind of a value, among those of the values before it
abbrev pub kind_of_value : (first : ℕ) → (before : List Kind) → (number : ℕ) → Kind
kind_of_value first before number = slice_index_or before (number - first) kind.Bool

-- the kind of what a form gives; a form that gives nothing has Bool
abbrev pub form_kind : (table : List MemEntry) → (registers : List Kind) → (first : ℕ) → (before : List Kind) → OperationForm → Kind
form_kind table registers first before (Constant word) = word.kind
form_kind table registers first before (Old register) = kind_at registers register
form_kind table registers first before (Compute op left right) = result_of op (kind_of_value first before left)
form_kind table registers first before (Convert inner to) = to
form_kind table registers first before (Select test a b) = kind_of_value first before a
form_kind table registers first before (Check ok fault) = kind.Bool
form_kind table registers first before (Probe r fault) = kind.Bool
form_kind table registers first before (Read r) = kind_in table r.memory
form_kind table registers first before (Write r value) = kind.Bool
form_kind table registers first before (Set register value) = kind.Bool

-- the kinds of operations behind those of these kinds
abbrev pub kinds_behind : (table : List MemEntry) → (registers : List Kind) → (first : ℕ) → (before : List Kind) → List Operation → List Kind
kinds_behind table registers first before [] = before
kinds_behind table registers first before (o ∷ os) = kinds_behind table registers first (before ++ form_kind table registers first before o.form ∷ []) os

abbrev pub kinds_of : PlainPlan → (block : ℕ) → List Kind
kinds_of plan block = kinds_behind plan.table plan.registers (first_in plan block) [] (operations_in plan block)

-- a number that names what is there
abbrev pub Names : {A : Type 0} → List A → (number : ℕ) → Type 0
Names items number = number < length items

-- Kinds of uses. `kinds` are those of the block's values, `first` the number of the first of them.
module _ (plan : PlainPlan) (first : ℕ) (kinds : List Kind) where
  -- the value has this kind
  abbrev pub IsOfKind : Kind → (number : ℕ) → Type 0
  IsOfKind k number = kind_of_value first kinds number ≡ k

  abbrev pub IsTruth : (number : ℕ) → Type 0
  IsTruth number = IsOfKind kind.Bool number

  abbrev pub IsNumber : (number : ℕ) → Type 0
  IsNumber number = IsInteger (kind_of_value first kinds number)

  -- an unsigned number
  abbrev pub IsCount : (number : ℕ) → Type 0
  IsCount number = (w : ℕ) × IsOfKind (kind.Unsigned w) number

  -- each bank that is listed is one of the memory's, and none is listed twice
  pub record AreBanks (memory : ℕ) (banks : List (ℕ × ℕ)) : Type 0 where
    pub there : AllByRecursion (λ b. b.0 < banks_of (dims_at plan.table memory)) banks
    pub once : (i j : ℕ) (b c : ℕ × ℕ) → slice_get banks i ≡ Some b → slice_get banks j ≡ Some c → b.0 ≡ c.0 → i ≡ j

  -- a view of this number has these dimensions, and of those of its parent this holds
  abbrev pub StepFits : (offsets : List ℕ) → Option ViewMap → List Dim → (List Dim → Type 0) → Type 0
  StepFits offsets None dims rest = ⊥
  StepFits offsets (Some v) dims rest = (v.shape.dims ≡ dims) × ((length offsets ≡ offsets_needed v.sort v.parent.dims) × rest v.parent.dims)

  -- the shapes on the way follow one another, from one with these dimensions to the memory's
  abbrev pub AreSteps : (memory : ℕ) → List ReachStep → List Dim → Type 0
  AreSteps memory [] dims = dims ≡ dims_at plan.table memory
  AreSteps memory (s ∷ ss) dims = StepFits s.offsets (slice_get plan.views s.view) dims (AreSteps memory ss)

  -- as many indices as the shape needs that is named, or a row and none
  abbrev pub NamesElement : Reach → (row : Option ℕ) → Type 0
  NamesElement r None = (dims : List Dim) × ((length r.indices ≡ length dims) × AreSteps r.memory r.steps dims)
  NamesElement r (Some row) = r.steps ≡ []

  pub record ReachSuits (r : Reach) : Type 0 where
    pub memory : Names plan.table r.memory
    pub banks : AreBanks r.memory r.banks
    pub indices : AllByRecursion IsNumber (r.indices ++ offsets_taken r.steps)
    pub select : AllByRecursion IsCount (one_or_none r.select)
    pub row : AllByRecursion IsNumber (one_or_none r.row)
    pub element : NamesElement r r.row

  -- what reads or writes a row has a select, or one bank alone
  abbrev pub PicksBank : Reach → (row select : Option ℕ) → Type 0
  PicksBank r None select = Unit {0}
  PicksBank r (Some row) (Some v) = Unit {0}
  PicksBank r (Some row) None = length r.banks ≡ 1

  abbrev pub FormSuits : OperationForm → Type 0
  FormSuits (Constant word) = IsWord word
  FormSuits (Old register) = Names plan.registers register
  FormSuits (Compute op left right) = Suits op (kind_of_value first kinds left) (kind_of_value first kinds right)
  FormSuits (Convert inner to) = IsInteger to
  FormSuits (Select test a b) = IsTruth test × (kind_of_value first kinds a ≡ kind_of_value first kinds b)
  FormSuits (Check ok fault) = IsTruth ok × Names plan.faults fault
  FormSuits (Probe r fault) = ReachSuits r × ((r.banks ≡ []) × Names plan.faults fault)
  FormSuits (Read r) = ReachSuits r × PicksBank r r.row r.select
  FormSuits (Write r value) = ReachSuits r × (PicksBank r r.row r.select × IsOfKind (kind_in plan.table r.memory) value)
  FormSuits (Set register value) = Names plan.registers register × IsOfKind (kind_at plan.registers register) value

  pub record OperationSuits (o : Operation) : Type 0 where
    pub guard : AllByRecursion IsTruth (one_or_none o.guard)
    pub form : FormSuits o.form

-- each operation of a block takes earlier values of the kinds that it needs
pub record IsFormedBlock (plan : PlainPlan) (block : ℕ) : Type 0 where
  pub ordered : IsOrdered (first_in plan block) (operations_in plan block)
  pub suits : (i : ℕ) (o : Operation) → slice_get (operations_in plan block) i ≡ Some o → OperationSuits plan (first_in plan block) (kinds_of plan block) o

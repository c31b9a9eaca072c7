-- What a plan asks of the operations of a block, as far as they are put down: each takes earlier values of the block,
-- of the kinds that it needs. It is stated for every list of kinds that agrees with the operations so far, so that it
-- stays true when operations are added behind; no step and no word is spoken of.
use Rattle.std.specs.Prelude.{◌≡◌, ℕ, ◌+◌, ◌<◌, ◌≤◌, ◌^◌, Bool as Truth, false, List, [], ◌∷◌, length, slice_get, Option, Some, None}
use Rattle.std.specs.List.{AllByRecursion}
use Rattle.dh_base.specs.declared.places.Place.{Place}
use Rattle.dh_value.specs.declared.kinds.Kind.{Kind}
use Rattle.dh_value.specs.declared.kinds.Kind.TheVariants.{Bool, Unsigned, Signed}
use Rattle.dh_value.specs.declared.operators.Op.{Op}
use Rattle.dh_value.specs.Words.{IsInteger, IsKind, IsWidth}
use Rattle.dh_value.specs.Operations.{Suits, result_of}
use Rattle.dh_tree.specs.declared.tables.Dim.{Dim}
use Rattle.dh_tree.specs.declared.trees.counters.Counter.{Counter}
use Rattle.dh_tree.specs.Elements.{dims_at}
use Rattle.dh_tree.specs.declared.trees.expressions.Ref.{Ref}
use Rattle.dh_tree.specs.PlainTrees as plain
use Rattle.dh_tree.specs.ViewElements.{offsets_needed}
use Rattle.dh_meaning.specs.AccessNumbers.{term_accesses, terms_accesses}
use Rattle.dh_meaning.specs.Bindings.{kind_or_first}
use Rattle.dh_meaning.specs.CoreOf.{dims_named, entity_number, memory_of, way_of}
use Rattle.dh_meaning.specs.Effects.{kind_in}
use Rattle.dh_meaning.specs.Ways.{Hidden, Way, WayStep as ViewStep}
use Rattle.dh_code.specs.Extended.{extension_of}
use Rattle.dh_code.specs.declared.places.VariableSlots.{VariableSlots}
use Rattle.dh_code.specs.Slots.{held_at}
use Rattle.dh_plan.specs.declared.operations.Operation.{Operation}
use Rattle.dh_plan.specs.Blocks.{kind_at}
use Rattle.dh_plan.specs.Ordered.{TakesEarlier, offsets_taken}
use Rattle.dh_plan.specs.PlainPlans.{PlainPlan}
use Rattle.dh_plan.specs.PlanKinds.{AreBanks, AreSteps, OperationSuits, form_kind, kind_of_value}
use Rattle.dh_expressions.specs.declared.accesses.Accesses.{Accesses}
use Rattle.dh_expressions.specs.declared.accesses.Touched.{Touched}
use Rattle.dh_expressions.specs.declared.copies.AccessAt.{AccessAt}
use Rattle.dh_expressions.specs.declared.drafts.Draft.{Draft}
use Rattle.dh_expressions.specs.declared.elements.Aim.{Aim}
use Rattle.dh_expressions.specs.declared.scenes.Lane.{Lane}
use Rattle.dh_expressions.specs.declared.scenes.Scene.{Scene}
use Rattle.dh_expressions.specs.declared.scenes.Through.{Through}
use Rattle.dh_expressions.specs.Copying.{AreNone, HasScopes}
use Rattle.dh_expressions.specs.Drafted.{Extends}
use Rattle.dh_expressions.specs.Evaluated.{counter_of, hidden_register}
use Rattle.dh_expressions.specs.Named.{first_view, known_in, number_of_parent}
use Rattle.dh_expressions.specs.Noted.{given_in, touched_in}
use Rattle.dh_expressions.specs.Shown.{kind_written, register_at}
use Rattle.dh_expressions.specs.Standings.{AccessStanding, banks_at, copy_places, standing_at}

-- an access of a block: its memory, and where it stands
pub record BlockSite : Type 0 where
  pub memory : ℕ
  pub standing : AccessStanding

-- a block of a plan: the number of its first operation, the kinds of its values, and its accesses by their numbers,
-- None for those of other blocks
pub record FormedBlock : Type 0 where
  pub plan : PlainPlan
  pub first : ℕ
  pub kinds : List Kind
  pub sites : (number : ℕ) → Option BlockSite

abbrev pub kind_in_block : FormedBlock → (number : ℕ) → Kind
kind_in_block x number = kind_of_value x.first x.kinds number

-- the kinds agree with the operations so far that take earlier values, and the faults so far are among those of the
-- plan, which are few
pub record Agrees (x : FormedBlock) (d : Draft) : Type 0 where
  pub kinds : (n : ℕ) (o : Operation) → x.first ≤ n → slice_get d.operations.items n ≡ Some o → TakesEarlier x.first n o → kind_in_block x n ≡ form_kind x.plan.table x.plan.registers x.first x.kinds o.form
  pub faults : length d.faults ≤ length x.plan.faults
  pub few : length x.plan.faults ≤ 2 ^ 32

-- the block has begun
abbrev pub Started : FormedBlock → Draft → Type 0
Started x d = x.first ≤ length d.operations.items

-- a value of the block so far, of this kind
pub record HasKind (x : FormedBlock) (d : Draft) (k : Kind) (number : ℕ) : Type 0 where
  pub from : x.first ≤ number
  pub below : number < length d.operations.items
  pub kind_is : kind_in_block x number ≡ k

-- a value of the block so far, of an integer kind
abbrev pub IsNumberThere : FormedBlock → Draft → (number : ℕ) → Type 0
IsNumberThere x d number = (k : Kind) × (IsInteger k × HasKind x d k number)

-- a guard is a truth of the block
abbrev pub IsGuard : FormedBlock → Draft → Option ℕ → Type 0
IsGuard x d None = Unit {0}
IsGuard x d (Some number) = HasKind x d Bool number

-- an operation takes earlier values of the block, of the kinds that it needs
pub record IsFormedAt (x : FormedBlock) (number : ℕ) (o : Operation) : Type 0 where
  pub takes : TakesEarlier x.first number o
  pub suits : OperationSuits x.plan x.first x.kinds o

-- so does each that was added
pub record Forms (x : FormedBlock) (old new : Draft) : Type 0 where
  pub each : (n : ℕ) (o : Operation) → length old.operations.items ≤ n → slice_get new.operations.items n ≡ Some o → IsFormedAt x n o

-- Operations that form a value of a kind where something holds.
pub record FormsValue (old new : Draft) (value : ℕ) (Where : FormedBlock → Type 0) (kind : FormedBlock → Kind) : Type 0 where
  pub extends : Extends old new
  pub forms : (x : FormedBlock) → Agrees x new → Started x old → Where x → Forms x old new
  pub gives : (x : FormedBlock) → Agrees x new → Started x old → Where x → HasKind x new (kind x) value

-- What stands round an expression.

-- guards and the values that variables were given are values of the block
pub record IsScope (x : FormedBlock) (d : Draft) (scene : Scene) (lane : Lane) (current : List (Option ℕ)) : Type 0 where
  pub guards : (path : ℕ) (guard : Option ℕ) → slice_get lane.around.guards.now path ≡ Some guard → IsGuard x d guard
  pub given : (register value : ℕ) → slice_get current register ≡ Some (Some value) → HasKind x d (kind_at x.plan.registers register) value
  pub scopes : HasScopes scene
  pub low : length lane.around.levels.now < 2 ^ 63
  pub few : length lane.around.guards.now < 2 ^ 64
  pub within : lane.number < length lane.around.guards.now

-- a copy of an access that stands so
pub record IsLaidCopy (x : FormedBlock) (d : Draft) (s : AccessStanding) (path : ℕ) (c : AccessAt) : Type 0 where
  pub leader_is : c.leader ≡ s.leader path
  pub bank_is : c.bank ≡ s.bank path
  pub place_is : c.place ≡ copy_places s path
  pub guard : IsGuard x d c.guard

-- an access that stands so has its fault, and its copies
pub record IsLaidAccess (x : FormedBlock) (d : Draft) (s : AccessStanding) (t : Touched) : Type 0 where
  pub fault : t.fault < length d.faults
  pub long : length t.copies ≡ length s.guards
  pub each : (path : ℕ) (c : AccessAt) → slice_get t.copies path ≡ Some c → IsLaidCopy x d s path c

-- what reads of the block gave are its values, of the kinds of their memories
pub record AreNotedReads (x : FormedBlock) (d : Draft) (a : Accesses) : Type 0 where
  pub given : (number path value : ℕ) (s : BlockSite) → x.sites number ≡ Some s → given_in a number path ≡ Some value → HasKind x d (kind_in x.plan.table s.memory) value
  pub laid : (number : ℕ) (t : Touched) (s : BlockSite) → x.sites number ≡ Some s → touched_in a number ≡ Some t → IsLaidAccess x d s.standing t
  pub there : (number : ℕ) (s : BlockSite) → x.sites number ≡ Some s → number < length a.touched.items
  pub none : AreNone a.counts.items

-- What the kinds of an expression must be.

-- the kind of an operand that is extended
abbrev pub operand_kind : (own to : Kind) → Kind
operand_kind own Bool = own
operand_kind own (Unsigned m) = Unsigned m
operand_kind own (Signed m) = Signed m

abbrev pub IsExtension : Kind → Type 0
IsExtension Bool = Unit {0}
IsExtension (Unsigned m) = IsWidth m
IsExtension (Signed m) = IsWidth m

-- a variable or a memory of this kind can hold the value of an expression
abbrev pub HeldSuits : plain.Term → Kind → Type 0
HeldSuits t Bool = kind_written t ≡ Bool
HeldSuits t (Unsigned m) = IsWidth m
HeldSuits t (Signed m) = IsWidth m

-- operands of these kinds suit an operator, once they are extended, and its value is of this kind
pub record OperandsSuit (op : Op) (left right result : Kind) : Type 0 where
  pub extension : IsExtension (extension_of op left right)
  pub suits : Suits op (operand_kind left (extension_of op left right)) (operand_kind right (extension_of op left right))
  pub result_is : result ≡ result_of op (operand_kind left (extension_of op left right))

-- the register of a variable has its kind; an iterator has an integer kind, and its loop a counter
pub record RegisterSuits (x : FormedBlock) (register : ℕ) (k : Kind) : Type 0 where
  pub there : register < length x.plan.registers
  pub kind_is : kind_at x.plan.registers register ≡ k

abbrev pub VariableSuits : FormedBlock → Option Counter → VariableSlots → Lane → Kind → Type 0
VariableSuits x None held lane k = RegisterSuits x (register_at held lane) k
VariableSuits x (Some c) held lane k = IsInteger k × (held.first < length x.plan.registers)

-- another access of the block has the same memory
pub record SharesMemory (x : FormedBlock) (memory number : ℕ) : Type 0 where
  pub site : BlockSite
  pub there : x.sites number ≡ Some site
  pub same : site.memory ≡ memory

-- an access of a memory by a number, of a place and a form, stands in the block; its memory is one of the plan's,
-- and its banks at this path are the memory's, each listed once
pub record AccessSuits (x : FormedBlock) (scene : Scene) (lane : Lane) (memory number : ℕ) (place : Place) (form : plain.TermForm) (writes : Truth) : Type 0 where
  pub site : x.sites number ≡ Some (record { memory = memory; standing = standing_at scene lane.around memory place form writes })
  pub small : memory < 2 ^ 32
  pub memory_there : memory < length x.plan.table
  pub banks : AreBanks x.plan x.first x.kinds memory (banks_at (standing_at scene lane.around memory place form writes) lane.number)

-- a read has the kind of its memory, and shares a read of the same memory at most
pub record ReadSuits (x : FormedBlock) (scene : Scene) (lane : Lane) (memory number : ℕ) (place : Place) (form : plain.TermForm) (k : Kind) : Type 0 where
  pub access : AccessSuits x scene lane memory number place form false
  pub kind_is : kind_in x.plan.table memory ≡ k
  pub shares : (earlier : ℕ) → slice_get scene.shares.now number ≡ Some (Some earlier) → SharesMemory x memory earlier

-- a row is one of a bank that the access names
abbrev pub IsRowForm : plain.TermForm → Type 0
IsRowForm (plain.in_bank r bank at row) = Unit {0}
IsRowForm form = ⊥

-- The values that name an element are numbers of the block: a row, or as many indices as what is named has dimensions,
-- with views behind that lead from these to those of the memory.
abbrev pub RowSuits : FormedBlock → Draft → (memory : ℕ) → plain.TermForm → Aim → Option ℕ → Type 0
RowSuits x d memory form aim None = (dims : List Dim) × ((length aim.indices ≡ length dims) × AreSteps x.plan x.first x.kinds memory aim.steps dims)
RowSuits x d memory form aim (Some row) = IsNumberThere x d row × ((aim.steps ≡ []) × IsRowForm form)

pub record AimSuits (x : FormedBlock) (d : Draft) (memory : ℕ) (form : plain.TermForm) (aim : Aim) : Type 0 where
  pub indices : AllByRecursion (IsNumberThere x d) aim.indices
  pub offsets : AllByRecursion (IsNumberThere x d) (offsets_taken aim.steps)
  pub row : RowSuits x d memory form aim aim.row

-- Ways.

-- the register of a variable that keeps an offset, which is no iterator, has its kind, an integer kind
pub record HiddenSuits (x : FormedBlock) (scene : Scene) (lane : Lane) (h : Hidden) : Type 0 where
  pub integer : IsInteger h.kind
  pub counter : counter_of scene h.entity ≡ None
  pub register : RegisterSuits x (hidden_register scene lane h) h.kind

-- views of the plan, the first of this number, that follow one another from these dimensions to those of the memory,
-- and take so many offsets together
abbrev pub StepsSuit : FormedBlock → List Through → (memory first : ℕ) → List ViewStep → (count : ℕ) → List Dim → Type 0
StepsSuit x through memory first [] count dims = (count ≡ 0) × (dims ≡ dims_at x.plan.table memory)
StepsSuit x through memory first (s ∷ ss) count dims =
    ((slice_get x.plan.views first ≡ Some s.is) × ((s.is.shape.dims ≡ dims) × (s.offsets ≡ offsets_needed s.is.sort s.is.parent.dims)))
    × ((more : ℕ) × ((count ≡ s.offsets + more) × StepsSuit x through memory (number_of_parent through first) ss more s.is.parent.dims))

-- the way of what an access names
abbrev pub WaySuits : FormedBlock → Scene → Lane → (memory first : ℕ) → Option Way → Type 0
WaySuits x scene lane memory first None = Unit {0}
WaySuits x scene lane memory first (Some w) = AllByRecursion (HiddenSuits x scene lane) w.hidden × StepsSuit x scene.through.now memory first w.steps (length w.hidden) w.is.shape.dims

-- how many indices there are, and whether all have integer kinds
abbrev pub count_of_terms : plain.Terms → ℕ
count_of_terms plain.no_terms = 0
count_of_terms (plain.term_then t ts) = count_of_terms ts + 1

abbrev pub AreNumbers : plain.Terms → Type 0
AreNumbers plain.no_terms = Unit {0}
AreNumbers (plain.term_then t ts) = IsInteger (kind_written t) × AreNumbers ts

module _ (x : FormedBlock) (scene : Scene) (lane : Lane) where
  abbrev mutual
    -- the kinds of an expression suit one another, and all that it takes is there
    pub TermSuits : (n : ℕ) → plain.Term → Type 0
    TermSuits n (plain.term place kind form) = FormSuits n place (kind_or_first kind) form

    pub FormSuits : (n : ℕ) → Place → Kind → plain.TermForm → Type 0
    FormSuits n place k (plain.number negative z) = IsKind k
    FormSuits n place k (plain.truth_value b) = k ≡ Bool
    FormSuits n place k (plain.named r) = VariableSuits x (counter_of scene (entity_number r.entity)) (held_at scene.held.now (entity_number r.entity)) lane k
    FormSuits n place k (plain.accessed r indices) =
        (TermsSuit n indices × AreNumbers indices)
        × (((count_of_terms indices ≡ length (dims_named (known_in scene) x.plan.table r)) × WaySuits x scene lane (memory_of (known_in scene) r) (first_view scene r) (way_of (known_in scene) r))
        × ReadSuits x scene lane (memory_of (known_in scene) r) (n + terms_accesses indices) place (plain.accessed r indices) k)
    FormSuits n place k (plain.in_bank r bank at row) =
        (TermSuits n row × IsInteger (kind_written row))
        × ReadSuits x scene lane (memory_of (known_in scene) r) (n + term_accesses row) place (plain.in_bank r bank at row) k
    FormSuits n place k (plain.applied op left right) =
        (TermSuits n left × TermSuits (n + term_accesses left) right) × OperandsSuit op (kind_written left) (kind_written right) k
    FormSuits n place k (plain.converted inner to) = TermSuits n inner × (IsInteger to × (k ≡ to))

    pub TermsSuit : (n : ℕ) → plain.Terms → Type 0
    TermsSuit n plain.no_terms = Unit {0}
    TermsSuit n (plain.term_then t ts) = TermSuits n t × TermsSuit (n + term_accesses t) ts

-- indices of what a name stands for suit it, and so does its way
abbrev pub NamedSuits : FormedBlock → Scene → Lane → (n : ℕ) → Ref → plain.Terms → Type 0
NamedSuits x scene lane n r ts =
    (TermsSuit x scene lane n ts × AreNumbers ts)
    × ((count_of_terms ts ≡ length (dims_named (known_in scene) x.plan.table r)) × WaySuits x scene lane (memory_of (known_in scene) r) (first_view scene r) (way_of (known_in scene) r))

-- Parts of an expression: they form what they add where the scope and what is noted are of the block, and what is
-- noted behind them is.
pub record FormsPart (scene : Scene) (lane : Lane) (current : List (Option ℕ)) (old new : Draft) (before after : Accesses) (Where : FormedBlock → Type 0) : Type 0 where
  pub extends : Extends old new
  pub forms : (x : FormedBlock) → Agrees x new → Started x old → IsScope x old scene lane current → AreNotedReads x old before → Where x → Forms x old new
  pub notes : (x : FormedBlock) → Agrees x new → Started x old → IsScope x old scene lane current → AreNotedReads x old before → Where x → AreNotedReads x new after

-- with a value of a kind
pub record FormsTerm (scene : Scene) (lane : Lane) (current : List (Option ℕ)) (old new : Draft) (before after : Accesses) (value : ℕ) (Where : FormedBlock → Type 0) (kind : Kind) : Type 0 where
  pub part : FormsPart scene lane current old new before after Where
  pub gives : (x : FormedBlock) → Agrees x new → Started x old → IsScope x old scene lane current → AreNotedReads x old before → Where x → HasKind x new kind value

-- with values of integer kinds, so many
pub record HasNumbers (x : FormedBlock) (d : Draft) (count : ℕ) (values : List ℕ) : Type 0 where
  pub long : length values ≡ count
  pub each : AllByRecursion (IsNumberThere x d) values

pub record FormsTerms (scene : Scene) (lane : Lane) (current : List (Option ℕ)) (old new : Draft) (before after : Accesses) (values : List ℕ) (Where : FormedBlock → Type 0) (count : ℕ) : Type 0 where
  pub part : FormsPart scene lane current old new before after Where
  pub gives : (x : FormedBlock) → Agrees x new → Started x old → IsScope x old scene lane current → AreNotedReads x old before → Where x → HasNumbers x new count values

-- with values that name an element of a memory
pub record FormsAim (scene : Scene) (lane : Lane) (current : List (Option ℕ)) (old new : Draft) (before after : Accesses) (memory : ℕ) (aim : Aim) (Where : FormedBlock → Type 0) : Type 0 where
  pub part : FormsPart scene lane current old new before after Where
  pub gives : (x : FormedBlock) → Agrees x new → Started x old → IsScope x old scene lane current → AreNotedReads x old before → Where x → (form : plain.TermForm) → AimSuits x new memory form aim

-- The operations that are put down for expressions are formed as a plan asks.
use Rattle.std.specs.Prelude.{◌≡◌, ℕ, ◌+◌, ◌<◌, ◌^◌, true, List, length, slice_get, Option, Some}
use Rattle.dh_value.specs.declared.kinds.Kind.{Kind}
use Rattle.dh_value.specs.declared.operators.Op.{Op}
use Rattle.dh_value.specs.Words.{IsInteger}
use Rattle.dh_tree.specs.Indices.{form_of}
use Rattle.dh_tree.specs.declared.trees.expressions.Ref.{Ref}
use Rattle.dh_tree.specs.PlainTrees.{Term, Terms}
use Rattle.dh_meaning.specs.AccessNumbers.{term_accesses, terms_accesses}
use Rattle.dh_meaning.specs.CoreOf.{memory_of}
use Rattle.dh_meaning.specs.Effects.{kind_in}
use Rattle.dh_code.specs.declared.places.VariableSlots.{VariableSlots}
use Rattle.dh_plan.specs.Blocks.{kind_at}
use Rattle.dh_expressions.specs.declared.accesses.Accesses.{Accesses}
use Rattle.dh_expressions.specs.declared.drafts.Draft.{Draft}
use Rattle.dh_expressions.specs.declared.elements.Aim.{Aim}
use Rattle.dh_expressions.specs.declared.scenes.Lane.{Lane}
use Rattle.dh_expressions.specs.declared.scenes.Scene.{Scene}
use Rattle.dh_formed.specs.Formed.{AccessSuits, AimSuits, AreNumbers, FormsAim, FormsPart, FormsTerm, FormsTerms, FormsValue, HasKind, HeldSuits, NamedSuits, OperandsSuit, ReadSuits, TermSuits, TermsSuit, count_of_terms}
use Rattle.dh_expressions.specs.MadeTerms.{MadeIndices, MadeRead, MadeTerm, MadeThrough, MadeWrite}
use Rattle.dh_expressions.specs.MadeValues.{MadeConverted, MadeHeld, MadeIterator, MadeOperation, MadeShown}
use Rattle.dh_expressions.specs.Named.{known_in}
use Rattle.dh_expressions.specs.Reaching.{place_written}
use Rattle.dh_expressions.specs.Shown.{is_kept, kind_written}

-- an operator on operands of kinds that suit it
abbrev pub OperationsForm : Type 0
OperationsForm =
    (o : Op) (left right : Term) (k : Kind) (a b : ℕ) (old new : Draft) (v : ℕ) → MadeOperation o left right a b old new v
    → FormsValue old new v (λ x. OperandsSuit o (kind_written left) (kind_written right) k × (HasKind x old (kind_written left) a × HasKind x old (kind_written right) b)) (λ x. k)

-- a conversion to an integer kind
abbrev pub ConversionsForm : Type 0
ConversionsForm =
    (t : Term) (to : Kind) (value : ℕ) (old new : Draft) (v : ℕ) → MadeConverted (is_kept t to) to value old new v
    → FormsValue old new v (λ x. IsInteger to × HasKind x old (kind_written t) value) (λ x. to)

-- a value as a variable or a memory holds it
abbrev pub HeldValuesForm : Type 0
HeldValuesForm =
    (t : Term) (to : Kind) (value : ℕ) (old new : Draft) (v : ℕ) → MadeHeld t to value old new v
    → FormsValue old new v (λ x. HeldSuits t to × HasKind x old (kind_written t) value) (λ x. to)

-- what a variable shows, of the kind of its register
abbrev pub ShownVariablesForm : Type 0
ShownVariablesForm =
    (current : List (Option ℕ)) (register : ℕ) (old new : Draft) (v : ℕ) → MadeShown current register old new v
    → FormsValue old new v (λ x. (register < length x.plan.registers) × ((value : ℕ) → slice_get current register ≡ Some (Some value) → HasKind x old (kind_at x.plan.registers register) value))
    (λ x. kind_at x.plan.registers register)

-- an iterator of an integer kind, whose loop has a counter
abbrev pub IteratorsForm : Type 0
IteratorsForm =
    (k : Kind) (held : VariableSlots) (old new : Draft) (v : ℕ) → MadeIterator held k old new v → FormsValue old new v (λ x. IsInteger k × (held.first < length x.plan.registers)) (λ x. k)

-- the reading of an element, of the kind of its memory
abbrev pub ReadsForm : Type 0
ReadsForm =
    (scene : Scene) (lane : Lane) (current : List (Option ℕ)) (access : Term) (memory : ℕ) (aim : Aim) (old new : Draft) (before after : Accesses) (v : ℕ) (k : Kind)
    → MadeRead scene lane access memory aim old new before after v
    → FormsTerm scene lane current old new before after v (λ x. AimSuits x old memory (form_of access) aim × ReadSuits x scene lane memory aim.number (place_written access) (form_of access) k) k

-- the writing of a value of its kind
abbrev pub WritesForm : Type 0
WritesForm =
    (scene : Scene) (lane : Lane) (current : List (Option ℕ)) (access : Term) (memory : ℕ) (aim : Aim) (old new : Draft) (before after : Accesses) (value : ℕ)
    → MadeWrite scene lane access memory aim value old new before after
    → FormsPart scene lane current old new before after
    (λ x. (AimSuits x old memory (form_of access) aim × AccessSuits x scene lane memory aim.number (place_written access) (form_of access) true) × HasKind x old (kind_in x.plan.table memory) value)

-- an expression whose accesses are numbered from n on, where these numbers are few
abbrev pub TermsForm : Type 0
TermsForm =
    (scene : Scene) (lane : Lane) (current : List (Option ℕ)) (t : Term) (old new : Draft) (before after : Accesses) (n next v : ℕ)
    → MadeTerm scene lane current t old new before after n next v → n + term_accesses t < 2 ^ 32
    → FormsTerm scene lane current old new before after v (λ x. TermSuits x scene lane n t) (kind_written t)

-- indices, all of integer kinds
abbrev pub IndicesForm : Type 0
IndicesForm =
    (scene : Scene) (lane : Lane) (current : List (Option ℕ)) (ts : Terms) (old new : Draft) (before after : Accesses) (n : ℕ) (aim : Aim)
    → MadeIndices scene lane current ts old new before after n aim → n + terms_accesses ts < 2 ^ 32
    → FormsTerms scene lane current old new before after aim.indices (λ x. TermsSuit x scene lane n ts × AreNumbers ts) (count_of_terms ts)

-- indices of what a name stands for, and behind them the offsets on its way: they name an element of its memory
abbrev pub ThroughForms : Type 0
ThroughForms =
    (scene : Scene) (lane : Lane) (current : List (Option ℕ)) (r : Ref) (ts : Terms) (old new : Draft) (before after : Accesses) (n : ℕ) (aim : Aim)
    → MadeThrough scene lane current r ts old new before after n aim → n + terms_accesses ts < 2 ^ 32
    → FormsAim scene lane current old new before after (memory_of (known_in scene) r) aim (λ x. NamedSuits x scene lane n r ts)

-- the number behind an expression's accesses
abbrev pub TermsAreNumbered : Type 0
TermsAreNumbered =
    (scene : Scene) (lane : Lane) (current : List (Option ℕ)) (t : Term) (old new : Draft) (before after : Accesses) (n next v : ℕ)
    → MadeTerm scene lane current t old new before after n next v → n + term_accesses t < 2 ^ 32 → next ≡ n + term_accesses t

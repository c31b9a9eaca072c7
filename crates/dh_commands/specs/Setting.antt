-- What the operations of assignments, reducers, stores and tests do.
use Rattle.std.specs.Prelude.{◌≡◌, ℕ, suc, ◌+◌, ◌<◌, ◌≤◌, ◌^◌, false, true, List, [], ◌∷◌, length, slice_get, Option, Some, None}
use Rattle.dh_value.specs.declared.operators.Op.{Op}
use Rattle.dh_tree.specs.declared.trees.expressions.Ref.{Ref}
use Rattle.dh_tree.specs.Indices.{form_of}
use Rattle.dh_tree.specs.PlainTrees as plain
use Rattle.dh_tree.specs.Seen.{terms}
use Rattle.dh_meaning.specs.AccessNumbers.{term_accesses, terms_accesses}
use Rattle.dh_meaning.specs.Core.{CoreTerm, literal}
use Rattle.dh_meaning.specs.CoreOf.{core_term, entity_number, memory_of}
use Rattle.dh_meaning.specs.Effects.{Effect, Variables, assigned_at}
use Rattle.dh_meaning.specs.Paths.{Path}
use Rattle.dh_meaning.specs.Ways.{Hidden}
use Rattle.dh_code.specs.Slots.{held_at}
use Rattle.dh_expressions.specs.declared.accesses.Accesses.{Accesses}
use Rattle.dh_expressions.specs.declared.drafts.Draft.{Draft}
use Rattle.dh_expressions.specs.declared.elements.Aim.{Aim}
use Rattle.dh_expressions.specs.declared.scenes.Around.{Around}
use Rattle.dh_expressions.specs.declared.scenes.Lane.{Lane}
use Rattle.dh_expressions.specs.declared.scenes.Scene.{Scene}
use Rattle.dh_expressions.specs.declared.terms.Valued.{Valued}
use Rattle.dh_expressions.specs.Drafted.{BlockBegun, FitsStep, Gives, BlockStep, word_shown}
use Rattle.dh_expressions.specs.Evaluated.{AimsByRow, AimsThrough, StepReads, begun_of, known_in}
use Rattle.dh_expressions.specs.Shown.{register_at, variable_shown}
use Rattle.dh_commands.specs.declared.assignments.Values.{Values}
use Rattle.dh_commands.specs.declared.buildings.Building.{Building}
use Rattle.dh_commands.specs.LanesRun.{is_on_at, paths_counted}
use Rattle.dh_commands.specs.ShownVariables.{depth_in}
use Rattle.dh_commands.specs.Undone.{Assigns}
use Rattle.dh_commands.specs.Followed.{Along, FollowsAssigned, FollowsCleared, FollowsKept, FollowsReduced, FollowsStored, IsFollowedBy, kept_run, reduced_shown, reduced_term, store_run, test_run, value_at}
use Rattle.dh_commands.specs.Done.{DoesCommandAtPaths, DoesCommandAtPath, StandsBeside}

-- a variable is given a value at a path
abbrev pub SetsAt : Scene → Lane → (old new : Values) → (entity value : ℕ) → Type 0
SetsAt scene lane old new entity value = Assigns old new (register_at (held_at scene.held.now entity) lane) lane.number value

-- so are variables whose entities follow one another
abbrev pub SetsFrom : Scene → Lane → (old new : Values) → (first : ℕ) → (values : List ℕ) → Type 0
SetsFrom scene lane old new first [] = new ≡ old
SetsFrom scene lane old new first (v ∷ vs) = (middle : Values) × (SetsAt scene lane old middle first v × SetsFrom scene lane middle new (suc first) vs)

-- a variable is set to the value of an expression
abbrev pub assigned_run : Scene → (entity : ℕ) → CoreTerm → BlockStep → Path → Effect → Effect
assigned_run scene entity t x = assigned_at (begun_of x) (depth_in scene entity) entity t

abbrev pub AssignsOne : Scene → Lane → (old new : Building) → (first next entity : ℕ) → plain.Term → Type 0
AssignsOne scene lane old new first next entity t =
    DoesCommandAtPath scene lane (λ e. e ≡ entity) (FollowsAssigned scene lane.around entity first t) (assigned_run scene entity (core_term (known_in scene) first t)) first (term_accesses t) next old new

abbrev pub AssignsFirst : Scene → Around → (old new : Building) → (first next entity : ℕ) → plain.Term → (paths : ℕ) → Type 0
AssignsFirst scene around old new first next entity t paths =
    DoesCommandAtPaths scene around (λ e. e ≡ entity) (FollowsAssigned scene around entity first t) (assigned_run scene entity (core_term (known_in scene) first t)) first (term_accesses t) next paths old new

abbrev pub AssignsAll : Scene → Around → (old new : Building) → (first next entity : ℕ) → plain.Term → Type 0
AssignsAll scene around old new first next entity t = AssignsFirst scene around old new first next entity t (paths_counted around)

-- a variable is set to 0 or false
abbrev pub zero_of : Scene → (entity : ℕ) → CoreTerm
zero_of scene entity = literal (held_at scene.held.now entity).kind false 0

abbrev pub clears_at : Scene → Around → (entity number : ℕ) → BlockStep → StepReads → Variables → Type 0
clears_at scene around entity number x reads variables = FollowsCleared scene around entity

abbrev pub ClearsOne : Scene → Lane → (old new : Building) → (entity : ℕ) → Type 0
ClearsOne scene lane old new entity =
    DoesCommandAtPath scene lane (λ e. e ≡ entity) (clears_at scene lane.around entity) (assigned_run scene entity (zero_of scene entity)) 0 0 0 old new

abbrev pub ClearsFirst : Scene → Around → (old new : Building) → (entity paths : ℕ) → Type 0
ClearsFirst scene around old new entity paths =
    DoesCommandAtPaths scene around (λ e. e ≡ entity) (clears_at scene around entity) (assigned_run scene entity (zero_of scene entity)) 0 0 0 paths old new

abbrev pub ClearsAll : Scene → Around → (old new : Building) → (entity : ℕ) → Type 0
ClearsAll scene around old new entity = ClearsFirst scene around old new entity (paths_counted around)

-- a reducer
abbrev pub ReducesOne : Scene → Lane → (old new : Building) → (first next : ℕ) → Ref → Op → plain.Term → Type 0
ReducesOne scene lane old new first next r op t =
    DoesCommandAtPath scene lane (λ e. e ≡ entity_number r.entity) (FollowsReduced scene lane.around r op first t) (assigned_run scene (entity_number r.entity) (reduced_term scene r op first t)) first (term_accesses t) next old new

abbrev pub ReducesFirst : Scene → Around → (old new : Building) → (first next : ℕ) → Ref → Op → plain.Term → (paths : ℕ) → Type 0
ReducesFirst scene around old new first next r op t paths =
    DoesCommandAtPaths scene around (λ e. e ≡ entity_number r.entity) (FollowsReduced scene around r op first t) (assigned_run scene (entity_number r.entity) (reduced_term scene r op first t)) first (term_accesses t) next paths old new

abbrev pub ReducesAll : Scene → Around → (old new : Building) → (first next : ℕ) → Ref → Op → plain.Term → Type 0
ReducesAll scene around old new first next r op t = ReducesFirst scene around old new first next r op t (paths_counted around)

-- what a reducer puts together, from its variable and its value
abbrev pub GivesReduced : Scene → Lane → (current : List (Option ℕ)) → (old new : Draft) → (value made entity : ℕ) → Op → plain.Term → Type 0
GivesReduced scene lane current old new value made entity op t =
    Gives old new made (λ x. reduced_shown scene entity op t (variable_shown x current (register_at (held_at scene.held.now entity) lane)) (word_shown x value))

-- one of these variables, so many
abbrev pub IsVariableAmong : (first count entity : ℕ) → Type 0
IsVariableAmong first count entity = (first ≤ entity) × (entity < first + count)

-- a view keeps its offsets, the first of them in this variable
abbrev pub KeepsOne : Scene → Lane → (old new : Building) → (first next : ℕ) → Hidden → (offsets : List plain.Term) → Type 0
KeepsOne scene lane old new first next h offsets =
    DoesCommandAtPath scene lane (λ e. IsVariableAmong h.entity (length offsets) e) (FollowsKept scene lane.around h first offsets) (λ x. kept_run scene x h first offsets) first (terms_accesses (terms offsets)) next old new

abbrev pub KeepsFirst : Scene → Around → (old new : Building) → (first next : ℕ) → Hidden → (offsets : List plain.Term) → (paths : ℕ) → Type 0
KeepsFirst scene around old new first next h offsets paths =
    DoesCommandAtPaths scene around (λ e. IsVariableAmong h.entity (length offsets) e) (FollowsKept scene around h first offsets) (λ x. kept_run scene x h first offsets) first (terms_accesses (terms offsets)) next paths old new

abbrev pub KeepsAtAllPaths : Scene → Around → (old new : Building) → (first next : ℕ) → Hidden → (offsets : List plain.Term) → Type 0
KeepsAtAllPaths scene around old new first next h offsets = KeepsFirst scene around old new first next h offsets (paths_counted around)

-- a view does, whose way has these variables; one whose way has none does nothing, and tells this number of an access
abbrev pub KeepsView : Scene → Around → (old new : Building) → (first idle next : ℕ) → List Hidden → (offsets : List plain.Term) → Type 0
KeepsView scene around old new first idle next [] offsets = (new ≡ old) × (next ≡ idle)
KeepsView scene around old new first idle next (h ∷ hs) offsets = KeepsAtAllPaths scene around old new first next h offsets

-- a store sets no variable
abbrev pub NoVariable : ℕ → Type 0
NoVariable entity = ⊥

abbrev pub StoresOne : Scene → Lane → (old new : Building) → (first next : ℕ) → (target value : plain.Term) → Type 0
StoresOne scene lane old new first next target t =
    DoesCommandAtPath scene lane NoVariable (FollowsStored scene lane.around first target t) (λ x. store_run scene x first target t) first (term_accesses t + term_accesses target) next old new

abbrev pub StoresFirst : Scene → Around → (old new : Building) → (first next : ℕ) → (target value : plain.Term) → (paths : ℕ) → Type 0
StoresFirst scene around old new first next target t paths =
    DoesCommandAtPaths scene around NoVariable (FollowsStored scene around first target t) (λ x. store_run scene x first target t) first (term_accesses t + term_accesses target) next paths old new

abbrev pub StoresAll : Scene → Around → (old new : Building) → (first next : ℕ) → (target value : plain.Term) → Type 0
StoresAll scene around old new first next target t = StoresFirst scene around old new first next target t (paths_counted around)

-- the target of a store, or that it is no access
abbrev pub AimsForm : Scene → Lane → (current : List (Option ℕ)) → (old new : Draft) → (before after : Accesses) → (n : ℕ) → plain.TermForm → Option (Aim × ℕ) → Type 0
AimsForm scene lane current old new before after n (plain.accessed r ts) (Some (aim, memory)) =
    AimsThrough scene lane current old new before after n r ts aim × (memory ≡ memory_of (known_in scene) r)
AimsForm scene lane current old new before after n (plain.in_bank r bank at row) (Some (aim, memory)) =
    AimsByRow scene lane current old new before after n row aim × (memory ≡ memory_of (known_in scene) r)
AimsForm scene lane current old new before after n (plain.number negative z) None = (new ≡ old) × (after ≡ before)
AimsForm scene lane current old new before after n (plain.truth_value b) None = (new ≡ old) × (after ≡ before)
AimsForm scene lane current old new before after n (plain.named r) None = (new ≡ old) × (after ≡ before)
AimsForm scene lane current old new before after n (plain.applied op left right) None = (new ≡ old) × (after ≡ before)
AimsForm scene lane current old new before after n (plain.converted inner to) None = (new ≡ old) × (after ≡ before)
AimsForm scene lane current old new before after n form aimed = ⊥

abbrev pub AimsAtTarget : Scene → Lane → (current : List (Option ℕ)) → (old new : Draft) → (before after : Accesses) → (n : ℕ) → plain.Term → Option (Aim × ℕ) → Type 0
AimsAtTarget scene lane current old new before after n target aimed = AimsForm scene lane current old new before after n (form_of target) aimed

-- A test at the first paths, so many, with its values there. They are those of the program where the guard holds.
pub record TestsFirst (scene : Scene) (around : Around) (old new : Building) (first next : ℕ) (t : plain.Term) (tests : List ℕ) (paths : ℕ) : Type 0 where
  pub does : DoesCommandAtPaths scene around NoVariable (IsFollowedBy scene around first t) (λ x. test_run scene x first t) first (term_accesses t) next paths old new
  pub long : length tests ≡ paths
  pub are : first + term_accesses t < 2 ^ 32 → (x : BlockStep) (reads : StepReads) (e : Effect) → FitsStep x new.draft → BlockBegun x old.draft
      → Along around x reads (IsFollowedBy scene around first t) (test_run scene x first t) e paths → StandsBeside scene around x reads old e
      → (number test : ℕ) → number < paths → is_on_at x around number ≡ true → slice_get tests number ≡ Some test
      → word_shown x test ≡ value_at scene around x e.variables number first t

abbrev pub TestsAll : Scene → Around → (old new : Building) → (first next : ℕ) → plain.Term → (tests : List ℕ) → Type 0
TestsAll scene around old new first next t tests = TestsFirst scene around old new first next t tests (paths_counted around)

-- a test at one path, with its value there
pub record TestsOne (scene : Scene) (lane : Lane) (old new : Building) (first : ℕ) (t : plain.Term) (own : Valued) : Type 0 where
  pub does : DoesCommandAtPath scene lane NoVariable (IsFollowedBy scene lane.around first t) (λ x. test_run scene x first t) first (term_accesses t) own.next old new
  pub is : first + term_accesses t < 2 ^ 32 → (x : BlockStep) (reads : StepReads) (e : Effect) → FitsStep x new.draft → BlockBegun x old.draft
      → IsFollowedBy scene lane.around first t lane.number x reads e.variables → StandsBeside scene lane.around x reads old e
      → is_on_at x lane.around lane.number ≡ true → word_shown x own.value ≡ value_at scene lane.around x e.variables lane.number first t

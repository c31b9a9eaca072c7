-- What a command takes, as the program has it along its run: the premise of all that is stated of its operations.
-- It speaks of the program's variables where each expression stands; of the values that variables were given it
-- asks only that they show these.
use Rattle.std.specs.Prelude.{◌≡◌, ◌⊎◌, ℕ, ◌+◌, ◌<◌, ◌^◌, Bool as Truth, true, false, if◌then◌else◌, List, [], ◌∷◌, length, take, slice_get, Option, Some, None}
use Rattle.dh_base.specs.declared.places.Place.{Place}
use Rattle.dh_value.specs.declared.kinds.Kind.{Kind}
use Rattle.dh_value.specs.declared.kinds.Kind.TheVariants as kind
use Rattle.dh_value.specs.declared.operators.Op.{Op}
use Rattle.dh_value.specs.declared.words.Word.{Word}
use Rattle.dh_value.specs.Words as words
use Rattle.dh_value.specs.Words.{IsKind, word_of}
use Rattle.dh_value.specs.Operations.{binary_of}
use Rattle.dh_tree.specs.declared.tables.MemEntry.{MemEntry}
use Rattle.dh_tree.specs.declared.trees.expressions.Ref.{Ref}
use Rattle.dh_tree.specs.Indices.{form_of}
use Rattle.dh_tree.specs.Memories.{table_of}
use Rattle.dh_tree.specs.PlainTrees as plain
use Rattle.dh_tree.specs.PlainTrees.{Action, action, ActionForm, lets, lets_memory, views, assigns, stores, reduces, calls, blocks, decides, repeats, counts, MaybeAction, no_action, one_action, Actions, no_actions, action_then, Groups, no_groups, group_then}
use Rattle.dh_tree.specs.Seen.{program_seen, terms}
use Rattle.dh_tree.specs.ViewOffsets.{offsets_of}
use Rattle.dh_meaning.specs.AccessNumbers.{accesses_of, part_accesses, term_accesses, terms_accesses}
use Rattle.dh_meaning.specs.Bindings.{kind_found, kind_or_first}
use Rattle.dh_meaning.specs.Core.{CoreTerm, by_row, no_commands, variable}
use Rattle.dh_meaning.specs.CoreOf.{core_action, core_groups, core_other, core_part, core_term, core_terms, entity_number, kind_of, memory_of, operation_of, reach_of, target_to, way_of}
use Rattle.dh_meaning.specs.Effects.{Effect, Variables, assigned_at, commands_run, entry_kind, holds_at, kept_at, kept_bits, stored_at, tested_at, value_of_term}
use Rattle.dh_meaning.specs.Levels.{any_assigns}
use Rattle.dh_meaning.specs.Paths.{Path}
use Rattle.dh_meaning.specs.Ways.{Hidden, hidden_in}
use Rattle.dh_code.specs.Extended.{extension_of}
use Rattle.dh_tree.specs.Kinds.{same_kind}
use Rattle.dh_code.specs.Slots.{held_at}
use Rattle.dh_expressions.specs.declared.scenes.Around.{Around}
use Rattle.dh_expressions.specs.declared.scenes.Scene.{Scene}
use Rattle.dh_expressions.specs.Drafted.{BlockStep}
use Rattle.dh_expressions.specs.Evaluated.{Fair, FairAll, IsSited, NamesSmallBank, StepReads, Sees, SeesAll, SeesWay, View, begun_of, known_in}
use Rattle.dh_expressions.specs.Shown.{extended_shown, held_shown}
use Rattle.dh_commands.specs.LanesRun.{IsArm, is_on_at, lane_of, lanes_run, path_in, paths_counted, paths_on}
use Rattle.dh_commands.specs.ShownVariables.{AreBoundAt, AreTargets, HasOwnCopies, IsSetTarget, ShowsVariables, depth_in}
use Rattle.dh_commands.specs.Keeping.{HeldFrom, term_words}

abbrev pub view_at_step : BlockStep → StepReads → Variables → View
view_at_step x reads variables = record { step = x; variables = variables; reads = reads }

-- An expression at one path.

pub record IsFollowed (scene : Scene) (around : Around) (x : BlockStep) (reads : StepReads) (variables : Variables) (number n : ℕ) (t : plain.Term) : Type 0 where
  pub fair : (current : List (Option ℕ)) → ShowsVariables scene around x current variables → Fair scene (lane_of around number) current (view_at_step x reads variables) n t
  pub sees : is_on_at x around number ≡ true → (current : List (Option ℕ)) → ShowsVariables scene around x current variables → Sees scene (lane_of around number) current (view_at_step x reads variables) n t

-- its value at a path
abbrev pub value_at : Scene → Around → BlockStep → Variables → (number n : ℕ) → plain.Term → Word
value_at scene around x variables number n t = value_of_term (begun_of x) variables (path_in around number) (core_term (known_in scene) n t)

-- What the operations of a reducer show.

abbrev pub in_own_kind : Truth → Kind → Word → Word
in_own_kind own to w = if own then w else word_of to (words.value_of w)

abbrev pub old_extended : Kind → (to : Kind) → Word → Word
old_extended own kind.Bool w = w
old_extended own (kind.Unsigned m) w = in_own_kind (same_kind own (kind.Unsigned m)) (kind.Unsigned m) w
old_extended own (kind.Signed m) w = in_own_kind (same_kind own (kind.Signed m)) (kind.Signed m) w

abbrev pub extension_for : Scene → (entity : ℕ) → Op → plain.Term → Kind
extension_for scene entity op t = extension_of op (held_at scene.held.now entity).kind (kind_found t)

-- from the words of its variable and of its value
abbrev pub reduced_shown : Scene → (entity : ℕ) → Op → plain.Term → (old value : Word) → Word
reduced_shown scene entity op t old value =
    in_own_kind (same_kind (held_at scene.held.now entity).kind (extension_for scene entity op t)) (held_at scene.held.now entity).kind
    (binary_of op (old_extended (held_at scene.held.now entity).kind (extension_for scene entity op t) old) (extended_shown t (extension_for scene entity op t) value))

-- what a reducer puts together
abbrev pub reduced_term : Scene → (r : Ref) → Op → (n : ℕ) → plain.Term → CoreTerm
reduced_term scene r op n t =
    operation_of op (kind_of (known_in scene) r) (kind_found t) (variable (kind_of (known_in scene) r) (depth_in scene (entity_number r.entity)) (entity_number r.entity)) (core_term (known_in scene) n t)

-- The premises of each form of a command at one path. Where the guard holds, a value as it is put down is that of the
-- kind of its variable or memory.

module _ (scene : Scene) (around : Around) where
  -- an assignment of an expression
  pub record FollowsAssigned (entity n : ℕ) (t : plain.Term) (number : ℕ) (x : BlockStep) (reads : StepReads) (variables : Variables) : Type 0 where
    pub target : IsSetTarget scene around entity
    pub value : IsFollowed scene around x reads variables number n t
    pub held : is_on_at x around number ≡ true
        → held_shown t (held_at scene.held.now entity).kind (value_at scene around x variables number n t)
        ≡ word_of (held_at scene.held.now entity).kind (words.value_of (value_at scene around x variables number n t))

  -- a `let` without a right side, of a kind
  pub record FollowsCleared (entity : ℕ) : Type 0 where
    pub target : IsSetTarget scene around entity
    pub sized : IsKind (held_at scene.held.now entity).kind

  abbrev pub old_word : (entity number : ℕ) → Variables → Word
  old_word entity number variables = word_of (held_at scene.held.now entity).kind (variables entity (take (depth_in scene entity) (path_in around number)))

  pub record FollowsReduced (r : Ref) (op : Op) (n : ℕ) (t : plain.Term) (number : ℕ) (x : BlockStep) (reads : StepReads) (variables : Variables) : Type 0 where
    pub target : IsSetTarget scene around (entity_number r.entity)
    pub value : IsFollowed scene around x reads variables number n t
    pub held : is_on_at x around number ≡ true
        → reduced_shown scene (entity_number r.entity) op t (old_word (entity_number r.entity) number variables) (value_at scene around x variables number n t)
        ≡ word_of (held_at scene.held.now (entity_number r.entity)).kind (words.value_of (value_of_term (begun_of x) variables (path_in around number) (reduced_term scene r op n t)))

  -- the indices or the row of a store's target, and where its write stands; no text has a target that is no access
  module _ (number : ℕ) (x : BlockStep) (reads : StepReads) (variables : Variables) where
    abbrev pub Written : (n memory : ℕ) → Place → plain.TermForm → Type 0
    Written own memory place form =
        IsSited scene (lane_of around number) (view_at_step x reads variables) memory own place form true × ((memory < 2 ^ 32) × NamesSmallBank form)

    pub record FollowsIndices (n : ℕ) (ts : plain.Terms) : Type 0 where
      pub fair : (current : List (Option ℕ)) → ShowsVariables scene around x current variables → FairAll scene (lane_of around number) current (view_at_step x reads variables) n ts
      pub sees : is_on_at x around number ≡ true → (current : List (Option ℕ)) → ShowsVariables scene around x current variables → SeesAll scene (lane_of around number) current (view_at_step x reads variables) n ts

    -- indices of what a name stands for: what keeps the offsets on its way shows them
    pub record FollowsNamed (n : ℕ) (r : Ref) (ts : plain.Terms) : Type 0 where
      pub indices : FollowsIndices n ts
      pub way : is_on_at x around number ≡ true → (current : List (Option ℕ)) → ShowsVariables scene around x current variables → SeesWay scene (lane_of around number) current (view_at_step x reads variables) r

    abbrev pub FollowsTarget : (n : ℕ) → plain.Term → Type 0
    FollowsTarget n (plain.term place k (plain.accessed r ts)) =
        FollowsNamed n r ts × Written (n + terms_accesses ts) (memory_of (known_in scene) r) place (plain.accessed r ts)
    FollowsTarget n (plain.term place k (plain.in_bank r bank at row)) =
        IsFollowed scene around x reads variables number n row × Written (n + term_accesses row) (memory_of (known_in scene) r) place (plain.in_bank r bank at row)
    FollowsTarget n (plain.term place k (plain.number negative z)) = ⊥
    FollowsTarget n (plain.term place k (plain.truth_value b)) = ⊥
    FollowsTarget n (plain.term place k (plain.named r)) = ⊥
    FollowsTarget n (plain.term place k (plain.applied op left right)) = ⊥
    FollowsTarget n (plain.term place k (plain.converted inner to)) = ⊥

  -- the memory of a store's target
  abbrev pub memory_aimed : plain.TermForm → Option ℕ
  memory_aimed (plain.accessed r ts) = Some (memory_of (known_in scene) r)
  memory_aimed (plain.in_bank r bank at row) = Some (memory_of (known_in scene) r)
  memory_aimed (plain.number negative z) = None
  memory_aimed (plain.truth_value b) = None
  memory_aimed (plain.named r) = None
  memory_aimed (plain.applied op left right) = None
  memory_aimed (plain.converted inner to) = None

  abbrev pub KeptWord : Option ℕ → plain.Term → Word → (table : List MemEntry) → Type 0
  KeptWord None t w table = Unit {0}
  KeptWord (Some memory) t w table =
      (held_shown t (entry_kind (slice_get (table_of (program_seen scene.program.now)) memory)) w).bits ≡ kept_bits table memory w

  pub record FollowsStored (n : ℕ) (target t : plain.Term) (number : ℕ) (x : BlockStep) (reads : StepReads) (variables : Variables) : Type 0 where
    pub value : IsFollowed scene around x reads variables number n t
    pub target_is : FollowsTarget number x reads variables (n + term_accesses t) target
    pub held : is_on_at x around number ≡ true
        → KeptWord (memory_aimed (form_of target)) t (value_at scene around x variables number n t) x.start.table

  -- a view that keeps its offsets, the first of them in this variable
  pub record FollowsKept (h : Hidden) (n : ℕ) (offsets : List plain.Term) (number : ℕ) (x : BlockStep) (reads : StepReads) (variables : Variables) : Type 0 where
    pub targets : AreTargets scene around h.entity (length offsets)
    pub bound : AreBoundAt scene h.depth h.entity (length offsets)
    pub values : FollowsIndices number x reads variables n (terms offsets)
    pub held : is_on_at x around number ≡ true → HeldFrom scene h.entity offsets (term_words (begun_of x) variables (path_in around number) (core_terms (known_in scene) n (terms offsets)))

-- a test
abbrev pub IsFollowedBy : Scene → Around → (n : ℕ) → plain.Term → (number : ℕ) → BlockStep → StepReads → Variables → Type 0
IsFollowedBy scene around n t number x reads variables = IsFollowed scene around x reads variables number n t

-- Commands at all paths.

-- the premise of each path, along a run through the paths before it
abbrev pub Along : Around → BlockStep → StepReads → (Premise : ℕ → BlockStep → StepReads → Variables → Type 0) → (run : Path → Effect → Effect) → Effect → (count : ℕ) → Type 0
Along around x reads Premise run e count = (number : ℕ) → number < count → Premise number x reads (lanes_run x around run number e).variables

-- what stands round the arms of each `if` of a command, as its parts stand
pub data Arms : Type 0 where
  no_arms : Arms
  arms_of : (chosen other : Around) → (inside behind : Arms) → Arms
  arms_then : (first rest : Arms) → Arms

-- these arms are those of a command, as its parts stand
abbrev mutual
  pub FitArms : Action → Arms → Type 0
  FitArms (action id place form) arms = FitForm form arms

  pub FitForm : ActionForm → Arms → Type 0
  FitForm (decides t chosen other) no_arms = ⊥
  FitForm (decides t chosen other) (arms_then first rest) = ⊥
  FitForm (decides t chosen other) (arms_of one two inside behind) = FitArms chosen inside × FitOther other behind
  FitForm (blocks body) arms = FitGroups body arms
  FitForm (lets r declared value) arms = Unit {0}
  FitForm (assigns r t) arms = Unit {0}
  FitForm (stores target t) arms = Unit {0}
  FitForm (reduces r op t) arms = Unit {0}
  FitForm (lets_memory name shape shape_places value) arms = Unit {0}
  FitForm (views name parent form) arms = Unit {0}
  FitForm (calls function arguments) arms = Unit {0}
  FitForm (repeats test body) arms = Unit {0}
  FitForm (counts iterator declared low high factor body combine combine_place) arms = Unit {0}

  pub FitOther : MaybeAction → Arms → Type 0
  FitOther no_action arms = Unit {0}
  FitOther (one_action a) arms = FitArms a arms

  pub FitGroups : Groups → Arms → Type 0
  FitGroups no_groups arms = Unit {0}
  FitGroups (group_then part rest) no_arms = ⊥
  FitGroups (group_then part rest) (arms_of one two inside behind) = ⊥
  FitGroups (group_then part rest) (arms_then first behind) = FitPart part first × FitGroups rest behind

  pub FitPart : Actions → Arms → Type 0
  FitPart no_actions arms = Unit {0}
  FitPart (action_then a rest) no_arms = ⊥
  FitPart (action_then a rest) (arms_of one two inside behind) = ⊥
  FitPart (action_then a rest) (arms_then first behind) = FitArms a first × FitPart rest behind

-- the effect of a command at these paths, and of parts
abbrev pub effect_of : Scene → BlockStep → (paths : List Path) → (n : ℕ) → Action → Effect → Effect
effect_of scene x paths n a e = commands_run (begun_of x) paths (core_action (known_in scene) n a no_commands) e

abbrev pub other_effect : Scene → BlockStep → (paths : List Path) → (n : ℕ) → MaybeAction → Effect → Effect
other_effect scene x paths n a e = commands_run (begun_of x) paths (core_other (known_in scene) n a) e

abbrev pub part_effect : Scene → BlockStep → (paths : List Path) → (n : ℕ) → Actions → Effect → Effect
part_effect scene x paths n cs e = commands_run (begun_of x) paths (core_part (known_in scene) n cs no_commands) e

abbrev pub groups_effect : Scene → BlockStep → (paths : List Path) → (n : ℕ) → Groups → Effect → Effect
groups_effect scene x paths n gs e = commands_run (begun_of x) paths (core_groups (known_in scene) n gs no_commands) e

-- a command may set a variable
abbrev pub Sets : Scene → Action → (entity : ℕ) → Type 0
Sets scene a entity = any_assigns entity (core_action (known_in scene) 0 a no_commands) ≡ true

abbrev pub SetsOther : Scene → MaybeAction → (entity : ℕ) → Type 0
SetsOther scene a entity = any_assigns entity (core_other (known_in scene) 0 a) ≡ true

-- the offsets of a view are kept in variables that are declared where it stands
abbrev pub KeptDeep : Scene → List Hidden → (count : ℕ) → Type 0
KeptDeep scene [] count = Unit {0}
KeptDeep scene (h ∷ hs) count = AreBoundAt scene h.depth h.entity count

-- so are those of all views of a command
abbrev mutual
  pub KeepsDeep : Scene → Action → Type 0
  KeepsDeep scene (action id place form) = KeepsDeepForm scene form

  pub KeepsDeepForm : Scene → ActionForm → Type 0
  KeepsDeepForm scene (views name parent form) = KeptDeep scene (hidden_in (way_of (known_in scene) name)) (length (offsets_of form))
  KeepsDeepForm scene (decides t chosen other) = KeepsDeep scene chosen × KeepsDeepOther scene other
  KeepsDeepForm scene (blocks body) = KeepsDeepGroups scene body
  KeepsDeepForm scene (lets r declared value) = Unit {0}
  KeepsDeepForm scene (assigns r t) = Unit {0}
  KeepsDeepForm scene (stores target t) = Unit {0}
  KeepsDeepForm scene (reduces r op t) = Unit {0}
  KeepsDeepForm scene (lets_memory name shape shape_places value) = Unit {0}
  KeepsDeepForm scene (calls function arguments) = Unit {0}
  KeepsDeepForm scene (repeats test body) = Unit {0}
  KeepsDeepForm scene (counts iterator declared low high factor body combine combine_place) = Unit {0}

  pub KeepsDeepOther : Scene → MaybeAction → Type 0
  KeepsDeepOther scene no_action = Unit {0}
  KeepsDeepOther scene (one_action a) = KeepsDeep scene a

  pub KeepsDeepGroups : Scene → Groups → Type 0
  KeepsDeepGroups scene no_groups = Unit {0}
  KeepsDeepGroups scene (group_then part rest) = KeepsDeepPart scene part × KeepsDeepGroups scene rest

  pub KeepsDeepPart : Scene → Actions → Type 0
  KeepsDeepPart scene no_actions = Unit {0}
  KeepsDeepPart scene (action_then a rest) = KeepsDeep scene a × KeepsDeepPart scene rest

-- the variables that arms set are others at each path, and views in them keep offsets where they stand
pub record AreOwn (scene : Scene) (around : Around) (chosen : Action) (other : MaybeAction) : Type 0 where
  pub own : (entity : ℕ) → Sets scene chosen entity ⊎ SetsOther scene other entity → HasOwnCopies scene around entity
  pub chosen_deep : KeepsDeep scene chosen
  pub other_deep : KeepsDeepOther scene other

-- At one path.
module _ (scene : Scene) (x : BlockStep) where
  abbrev pub term_in : (n : ℕ) → plain.Term → CoreTerm
  term_in n t = core_term (known_in scene) n t

  abbrev pub assign_run : (r : Ref) → CoreTerm → Path → Effect → Effect
  assign_run r t path e = assigned_at (begun_of x) (depth_in scene (entity_number r.entity)) (entity_number r.entity) t path e

  -- the offsets of a view are kept, the first of them in this variable
  abbrev pub kept_run : Hidden → (n : ℕ) → (offsets : List plain.Term) → Path → Effect → Effect
  kept_run h n offsets = kept_at (begun_of x) h.depth h.entity (core_terms (known_in scene) n (terms offsets))

  -- a store, of what is no access of nothing
  abbrev pub store_run : (n : ℕ) → (target value : plain.Term) → Path → Effect → Effect
  store_run n (plain.term at k (plain.accessed r ts)) t path e =
      stored_at (begun_of x) (reach_of (known_in scene) (n + term_accesses t + terms_accesses ts) at r) (target_to (way_of (known_in scene) r) (core_terms (known_in scene) (n + term_accesses t) ts)) (term_in n t) path e
  store_run n (plain.term at k (plain.in_bank r bank bank_place row)) t path e =
      stored_at (begun_of x) (reach_of (known_in scene) (n + term_accesses t + term_accesses row) at r) (by_row bank (term_in (n + term_accesses t) row)) (term_in n t) path e
  store_run n (plain.term at k (plain.number negative z)) t path e = e
  store_run n (plain.term at k (plain.truth_value b)) t path e = e
  store_run n (plain.term at k (plain.named r)) t path e = e
  store_run n (plain.term at k (plain.applied op left right)) t path e = e
  store_run n (plain.term at k (plain.converted inner to)) t path e = e

  abbrev pub test_out : (n : ℕ) → plain.Term → Effect → Path → Truth
  test_out n t e path = holds_at (begun_of x) e.variables (term_in n t) path

  abbrev pub test_run : (n : ℕ) → plain.Term → Path → Effect → Effect
  test_run n t path e = tested_at (begun_of x) (term_in n t) path e

  abbrev pub tested : Around → (n : ℕ) → plain.Term → Effect → Effect
  tested around n t e = lanes_run x around (test_run n t) (paths_counted around) e

module _ (scene : Scene) (x : BlockStep) (reads : StepReads) where
  abbrev pub FollowsLet : Around → (n : ℕ) → Ref → Option Kind → Option plain.Term → Effect → Type 0
  FollowsLet around n r declared None e = FollowsCleared scene around (entity_number r.entity) × (kind_or_first declared ≡ (held_at scene.held.now (entity_number r.entity)).kind)
  FollowsLet around n r declared (Some t) e =
      Along around x reads (FollowsAssigned scene around (entity_number r.entity) n t) (assign_run scene x r (term_in scene x n t)) e (paths_counted around)

  -- a view without offsets on its way keeps nothing
  abbrev pub FollowsView : Around → (n : ℕ) → List Hidden → (offsets : List plain.Term) → Effect → Type 0
  FollowsView around n [] offsets e = Unit {0}
  FollowsView around n (h ∷ hs) offsets e = Along around x reads (FollowsKept scene around h n offsets) (kept_run scene x h n offsets) e (paths_counted around)

  -- what stands of a command with other arms than its own is no premise that can be met
  abbrev mutual
    pub Follows : Around → Arms → (n : ℕ) → Action → Effect → Type 0
    Follows around arms n (action id place form) e = FollowsForm around arms n form e

    pub FollowsForm : Around → Arms → (n : ℕ) → ActionForm → Effect → Type 0
    FollowsForm around arms n (lets r declared value) e = FollowsLet around n r declared value e
    FollowsForm around arms n (assigns r t) e =
        Along around x reads (FollowsAssigned scene around (entity_number r.entity) n t) (assign_run scene x r (term_in scene x n t)) e (paths_counted around)
    FollowsForm around arms n (stores target t) e = Along around x reads (FollowsStored scene around n target t) (store_run scene x n target t) e (paths_counted around)
    FollowsForm around arms n (reduces r op t) e =
        Along around x reads (FollowsReduced scene around r op n t) (assign_run scene x r (reduced_term scene r op n t)) e (paths_counted around)
    FollowsForm around no_arms n (decides t chosen other) e = ⊥
    FollowsForm around (arms_then first rest) n (decides t chosen other) e = ⊥
    FollowsForm around (arms_of one two inside behind) n (decides t chosen other) e =
        Along around x reads (IsFollowedBy scene around n t) (test_run scene x n t) e (paths_counted around)
        × (AreOwn scene around chosen other
        × ((IsArm x around one true (test_out scene x n t e) → Follows one inside (n + term_accesses t) chosen (tested scene x around n t e))
        × (IsArm x around one true (test_out scene x n t e) → IsArm x around two false (test_out scene x n t e)
        → FollowsOther two behind (n + term_accesses t + accesses_of chosen) other (effect_of scene x (paths_on x one) (n + term_accesses t) chosen (tested scene x around n t e)))))
    FollowsForm around arms n (blocks body) e = FollowsGroups around arms n body e
    FollowsForm around arms n (lets_memory name shape shape_places value) e = Unit {0}
    FollowsForm around arms n (views name parent form) e = FollowsView around n (hidden_in (way_of (known_in scene) name)) (offsets_of form) e
    FollowsForm around arms n (calls function arguments) e = Unit {0}
    FollowsForm around arms n (repeats test body) e = Unit {0}
    FollowsForm around arms n (counts iterator declared low high factor body combine combine_place) e = Unit {0}

    pub FollowsOther : Around → Arms → (n : ℕ) → MaybeAction → Effect → Type 0
    FollowsOther around arms n no_action e = Unit {0}
    FollowsOther around arms n (one_action a) e = Follows around arms n a e

    pub FollowsGroups : Around → Arms → (n : ℕ) → Groups → Effect → Type 0
    FollowsGroups around arms n no_groups e = Unit {0}
    FollowsGroups around no_arms n (group_then part rest) e = ⊥
    FollowsGroups around (arms_of one two inside behind) n (group_then part rest) e = ⊥
    FollowsGroups around (arms_then first behind) n (group_then part rest) e =
        FollowsPart around first n part e × FollowsGroups around behind (n + part_accesses part) rest (part_effect scene x (paths_on x around) n part e)

    pub FollowsPart : Around → Arms → (n : ℕ) → Actions → Effect → Type 0
    FollowsPart around arms n no_actions e = Unit {0}
    FollowsPart around no_arms n (action_then a rest) e = ⊥
    FollowsPart around (arms_of one two inside behind) n (action_then a rest) e = ⊥
    FollowsPart around (arms_then first behind) n (action_then a rest) e =
        Follows around first n a e × FollowsPart around behind (n + accesses_of a) rest (effect_of scene x (paths_on x around) n a e)

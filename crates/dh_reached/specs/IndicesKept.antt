-- What is to be known of the accesses of an expression for their banks to be those of every turn: that their indices break
-- no rule, and that the iterators in these are in turns of their loops in this step.
use Rattle.std.specs.Prelude.{◌≡◌, ℕ, zero, suc, ◌<◌, ◌≤◌, ◌^◌, nat_lt, true, List, [], ◌∷◌, drop, length, take, slice_get, slice_index, Some, None}
use Rattle.std.specs.List.{AllByRecursion}
use Rattle.dh_value.specs.declared.kinds.Kind.TheVariants.{Unsigned}
use Rattle.dh_tree.specs.declared.tables.Dim.{Dim}
use Rattle.dh_tree.specs.declared.trees.counters.Counter.{Counter}
use Rattle.dh_tree.specs.declared.trees.expressions.Ref.{Ref}
use Rattle.dh_tree.specs.Counters.{counters_of}
use Rattle.dh_tree.specs.Elements.{banks_of, dims_at}
use Rattle.dh_tree.specs.Indices.{form_of, indices_breaches}
use Rattle.dh_tree.specs.Memories.{table_of}
use Rattle.dh_tree.specs.PlainTrees as plain
use Rattle.dh_tree.specs.PlainTrees.{Action, action, ActionForm, lets, lets_memory, views, assigns, stores, reduces, calls, blocks, decides, repeats, counts, MaybeAction, no_action, one_action, Actions, no_actions, action_then, Groups, no_groups, group_then}
use Rattle.dh_tree.specs.Seen.{program_seen, terms}
use Rattle.dh_tree.specs.Shapes.{IsDim}
use Rattle.dh_tree.specs.ViewOffsets.{offsets_of}
use Rattle.dh_tree.specs.declared.viewing.ViewSort.TheVariants.{Shift}
use Rattle.dh_viewing.specs.ReachedBanks.{is_in}
use Rattle.dh_meaning.specs.CoreOf.{dims_named, entity_number, memory_of, way_of}
use Rattle.dh_meaning.specs.Ways.{Hidden, Way, hidden_in, WayStep as ViewStep}
use Rattle.dh_meets.specs.Charges.{may_reach}
use Rattle.dh_ways.specs.Leading.{StepsLead, next_dims}
use Rattle.dh_meaning.specs.Phases.{Located, turn_count}
use Rattle.dh_plan.specs.Blocks.{kind_at}
use Rattle.dh_code.specs.declared.places.VariableSlots.{VariableSlots}
use Rattle.dh_code.specs.Slots.{held_at}
use Rattle.dh_sound.specs.IndexValues.{AllHaveIndexKinds}
use Rattle.dh_expressions.specs.declared.paths.Level.{Level}
use Rattle.dh_expressions.specs.declared.scenes.Scene.{Scene}
use Rattle.dh_expressions.specs.Drafted.{BlockStep}
use Rattle.dh_expressions.specs.Evaluated.{AreViews, counter_of}
use Rattle.dh_expressions.specs.Named.{banks_seen, first_view, known_in}
use Rattle.dh_expressions.specs.ReachedBanks.{level_with}
use Rattle.dh_commands.specs.Setting.{IsVariableAmong}
use Rattle.dh_commands.specs.ShownVariables.{IsSeen, depth_in}

-- the loop of an iterator is in a turn of its own, as its counter tells; where it is unrolled it is one of these levels
pub record CounterTurns (x : BlockStep) (c : Counter) (held : VariableSlots) (levels : List Level) : Type 0 where
  pub width : ℕ
  pub counter : kind_at x.start.kinds held.first ≡ Unsigned width
  pub below : slice_index x.start.registers held.first < turn_count c.low c.high c.factor
  pub copies : 1 ≤ c.factor
  pub deep : nat_lt 1 c.factor ≡ true → held.depth ≡ suc (level_with levels c.entity)
  pub level : nat_lt 1 c.factor ≡ true → (l : Level) × ((slice_get levels (level_with levels c.entity) ≡ Some l) × (l.factor ≡ c.factor))

-- Of the offsets that the steps of a way take in turn, those of shifts are kept no deeper than this.
abbrev pub ShiftsKept : List ViewStep → List Hidden → (deepest : ℕ) → Type 0
ShiftsKept [] hs n = Unit {0}
ShiftsKept (s ∷ ss) hs n = (s.is.sort ≡ Shift → AllByRecursion (λ (h : Hidden). h.depth ≤ n) (take s.offsets hs)) × ShiftsKept ss (drop s.offsets hs) n

-- variables that are seen, whose entities follow one another from a first one on, so many
abbrev pub AreSeenFrom : Scene → List Level → (first count : ℕ) → Type 0
AreSeenFrom scene levels first zero = Unit {0}
AreSeenFrom scene levels first (suc n) = IsSeen scene levels first × AreSeenFrom scene levels (suc first) n

module _ (x : BlockStep) (scene : Scene) (levels : List Level) where
  -- a name stands for what it is resolved to, and if that is an iterator it is in a turn
  pub record NameTurns (r : Ref) : Type 0 where
    pub entity : ℕ
    pub resolved : r.entity ≡ Some entity
    pub turns : (c : Counter) → counter_of scene entity ≡ Some c → CounterTurns x c (held_at scene.held.now entity) levels

  abbrev pub OperandTurns : plain.TermForm → Type 0
  OperandTurns (plain.number negative n) = Unit {0}
  OperandTurns (plain.truth_value b) = Unit {0}
  OperandTurns (plain.named r) = NameTurns r
  OperandTurns (plain.accessed r indices) = Unit {0}
  OperandTurns (plain.in_bank r bank at row) = Unit {0}
  OperandTurns (plain.applied o left right) = Unit {0}
  OperandTurns (plain.converted inner to) = Unit {0}

  -- an index that is a name, or a sum with one
  abbrev pub IndexTurns : plain.TermForm → Type 0
  IndexTurns (plain.number negative n) = Unit {0}
  IndexTurns (plain.truth_value b) = Unit {0}
  IndexTurns (plain.named r) = NameTurns r
  IndexTurns (plain.accessed r indices) = Unit {0}
  IndexTurns (plain.in_bank r bank at row) = Unit {0}
  IndexTurns (plain.applied o left right) = OperandTurns (form_of left) × OperandTurns (form_of right)
  IndexTurns (plain.converted inner to) = Unit {0}

  abbrev pub AllTurn : plain.Terms → Type 0
  AllTurn plain.no_terms = Unit {0}
  AllTurn (plain.term_then t ts) = IndexTurns (form_of t) × AllTurn ts

  -- an access by indices of a memory of the plan, or through views with these dimensions
  pub record IndicesKeep (memory : ℕ) (named : List Dim) (ts : plain.Terms) : Type 0 where
    pub small : memory < 2 ^ 32
    pub dims : AllByRecursion IsDim named
    pub few : banks_of named ≤ 2 ^ 32
    pub kinds : AllHaveIndexKinds (counters_of (program_seen scene.program.now)) ts
    pub keeps : indices_breaches (counters_of (program_seen scene.program.now)) named ts ≡ []
    pub turns : AllTurn ts

  module _ (Sets : (entity : ℕ) → Type 0) where
    -- what keeps an offset is a variable that is seen, and is not set by the command
    pub record HiddenKept (h : Hidden) : Type 0 where
      pub seen : IsSeen scene levels h.entity
      pub deep : h.depth ≡ depth_in scene h.entity
      pub free : Sets h.entity → ⊥

    -- The views on the way of a name are those of the plan, and lead to a memory of few banks, of which the scene tells those
    -- that may be reached.
    pub record WayKept (r : Ref) (w : Way) : Type 0 where
      pub numbered : AreViews scene.through.now x.start.views (first_view scene r) w.steps
      pub leads : StepsLead w.steps (dims_at x.start.table (memory_of (known_in scene) r))
      pub first : next_dims w.steps (dims_at x.start.table (memory_of (known_in scene) r)) ≡ w.is.shape.dims
      pub memory_dims : AllByRecursion IsDim (dims_at x.start.table (memory_of (known_in scene) r))
      pub few_banks : banks_of (dims_at x.start.table (memory_of (known_in scene) r)) ≤ 64
      pub shifts : ShiftsKept w.steps w.hidden w.shifts
      pub hidden : AllByRecursion HiddenKept w.hidden
      pub told : (bank behind : ℕ) → bank < banks_of w.is.shape.dims → may_reach w.steps bank behind ≡ true → is_in (banks_seen scene r bank) behind ≡ true

    abbrev mutual
      -- so of each access of an expression
      pub TermKeeps : plain.Term → Type 0
      TermKeeps (plain.term place kind form) = FormKeeps form

      pub FormKeeps : plain.TermForm → Type 0
      FormKeeps (plain.number negative n) = Unit {0}
      FormKeeps (plain.truth_value b) = Unit {0}
      FormKeeps (plain.named r) = Unit {0}
      FormKeeps (plain.accessed r indices) =
          TermsKeep indices × (IndicesKeep (memory_of (known_in scene) r) (dims_named (known_in scene) x.start.table r) indices × ((w : Way) → way_of (known_in scene) r ≡ Some w → WayKept r w))
      FormKeeps (plain.in_bank r bank at row) = TermKeeps row
      FormKeeps (plain.applied o left right) = TermKeeps left × TermKeeps right
      FormKeeps (plain.converted inner to) = TermKeeps inner

      pub TermsKeep : plain.Terms → Type 0
      TermsKeep plain.no_terms = Unit {0}
      TermsKeep (plain.term_then t ts) = TermKeeps t × TermsKeep ts

  -- a view whose way has no variable takes no offset; what one keeps is given to variables that are seen
  abbrev pub ViewKeeps : List Hidden → (offsets : List plain.Term) → Type 0
  ViewKeeps [] offsets = offsets ≡ []
  ViewKeeps (h ∷ hs) offsets = TermsKeep (λ e. IsVariableAmong h.entity (length offsets) e) (terms offsets) × AreSeenFrom scene levels h.entity (length offsets)

  abbrev mutual
    -- and of each command
    pub CommandKeeps : Action → Type 0
    CommandKeeps (action id place form) = ActionKeeps form

    pub ActionKeeps : ActionForm → Type 0
    ActionKeeps (lets name declared (Some value)) = TermKeeps (λ e. e ≡ entity_number name.entity) value × IsSeen scene levels (entity_number name.entity)
    ActionKeeps (lets name declared None) = Unit {0}
    ActionKeeps (assigns target value) = TermKeeps (λ e. e ≡ entity_number target.entity) value × IsSeen scene levels (entity_number target.entity)
    ActionKeeps (stores target value) = TermKeeps (λ e. ⊥) value × TermKeeps (λ e. ⊥) target
    ActionKeeps (reduces target op value) = TermKeeps (λ e. e ≡ entity_number target.entity) value × IsSeen scene levels (entity_number target.entity)
    ActionKeeps (decides test chosen other) = TermKeeps (λ e. ⊥) test × (CommandKeeps chosen × OtherKeeps other)
    ActionKeeps (blocks body) = GroupsKeep body
    ActionKeeps (lets_memory name shape shape_places value) = Unit {0}
    ActionKeeps (views name parent form) = ViewKeeps (hidden_in (way_of (known_in scene) name)) (offsets_of form)
    ActionKeeps (calls function arguments) = Unit {0}
    ActionKeeps (repeats test body) = Unit {0}
    ActionKeeps (counts iterator declared low high factor body combine combine_place) = Unit {0}

    pub OtherKeeps : MaybeAction → Type 0
    OtherKeeps no_action = Unit {0}
    OtherKeeps (one_action a) = CommandKeeps a

    pub ActionsKeep : Actions → Type 0
    ActionsKeep no_actions = Unit {0}
    ActionsKeep (action_then a rest) = CommandKeeps a × ActionsKeep rest

    pub GroupsKeep : Groups → Type 0
    GroupsKeep no_groups = Unit {0}
    GroupsKeep (group_then part rest) = ActionsKeep part × GroupsKeep rest

  -- of each command of a block
  abbrev pub CommandsKeep : List Located → Type 0
  CommandsKeep cs = AllByRecursion (λ (c : Located). CommandKeeps c.command) cs

  -- the step begins with the memories of the program
  pub record BlockKeeps (cs : List Located) : Type 0 where
    pub table : x.start.table ≡ table_of (program_seen scene.program.now)
    pub each : CommandsKeep cs

-- What it is for a command of the source to be one that can be run inside unrolled loops of given factors: its
-- expressions, stores and assignments can, from whatever number of its first access, and so can the commands inside it,
-- those of a loop inside its own factor too.
use Rattle.std.specs.Prelude.{ℕ, ◌≤◌, List, length, map}
use Rattle.dh_tree.specs.declared.tables.MemEntry.{MemEntry}
use Rattle.dh_tree.specs.Memories.{entry_of}
use Rattle.dh_tree.specs.PlainTrees.{Term, Action, action, ActionForm, lets, lets_memory, views, assigns, stores, reduces, calls, blocks, decides, repeats, counts, MaybeAction, no_action, one_action, Actions, no_actions, action_then, Groups, no_groups, group_then}
use Rattle.dh_tree.specs.Seen.{terms}
use Rattle.dh_tree.specs.Shapes.{most_dims}
use Rattle.dh_tree.specs.ViewOffsets.{offsets_of}
use Rattle.dh_meaning.specs.Bindings.{kind_found}
use Rattle.dh_meaning.specs.Core.{CoreCommands}
use Rattle.dh_meaning.specs.CoreOf.{Known, core_term, core_terms, first_value, store_to, assigned, folded_into, kept_by, turning_of, way_of}
use Rattle.dh_meaning.specs.Phases.{turn_count}
use Rattle.dh_meaning.specs.Ways.{hidden_in}
use Rattle.dh_code.specs.Declarations.{factors_inside}
use Rattle.dh_sem.specs.Runnable.{CanTurn}
use Rattle.dh_code.specs.Slots.{Placing}
use Rattle.dh_code.specs.Suited.{CanTest, CanDo, CanDoAll}

abbrev pub table_known : Known → List MemEntry
table_known known = map entry_of known.memories

-- a condition
abbrev pub TestRuns : Known → Placing → (loops : List ℕ) → Term → Type 0
TestRuns known p loops test = (n : ℕ) → CanTest (table_known known) p loops (core_term known n test)

abbrev mutual
  pub ActionRuns : Known → Placing → (loops : List ℕ) → Action → Type 0
  ActionRuns known p loops (action id place form) = FormRuns known p loops form

  pub FormRuns : Known → Placing → (loops : List ℕ) → ActionForm → Type 0
  FormRuns known p loops (lets name declared value) = (n : ℕ) → CanDo (table_known known) p loops (assigned known name (first_value known n declared value))
  FormRuns known p loops (lets_memory name shape shape_places value) = Unit {0}
  -- a view has few offsets, and keeps them in front of other commands
  FormRuns known p loops (views name parent form) =
      (length (offsets_of form) ≤ most_dims)
      × ((n : ℕ) (rest : CoreCommands) → CanDoAll (table_known known) p loops rest
      → CanDoAll (table_known known) p loops (kept_by (hidden_in (way_of known name)) (core_terms known n (terms (offsets_of form))) rest))
  FormRuns known p loops (assigns target value) = (n : ℕ) → CanDo (table_known known) p loops (assigned known target (core_term known n value))
  FormRuns known p loops (stores target value) = (m n : ℕ) → CanDo (table_known known) p loops (store_to known m target (core_term known n value))
  FormRuns known p loops (reduces target o value) = (n : ℕ) → CanDo (table_known known) p loops (folded_into known target o (kind_found value) (core_term known n value))
  FormRuns known p loops (calls function arguments) = Unit {0}
  FormRuns known p loops (blocks body) = GroupsRun known p loops body
  FormRuns known p loops (decides test chosen other) = TestRuns known p loops test × (ActionRuns known p loops chosen × OtherRuns known p loops other)
  FormRuns known p loops (repeats test body) = TestRuns known p loops test × ActionRuns known p loops body
  FormRuns known p loops (counts iterator declared low high factor body combine combine_place) =
      CanTurn p loops (turning_of known (turn_count low.value high.value factor.value) (counts iterator declared low high factor body combine combine_place))
      × (ActionRuns known p (factors_inside loops factor.value) body × OtherRuns known p (factors_inside loops factor.value) combine)

  pub OtherRuns : Known → Placing → (loops : List ℕ) → MaybeAction → Type 0
  OtherRuns known p loops no_action = Unit {0}
  OtherRuns known p loops (one_action a) = ActionRuns known p loops a

  pub GroupsRun : Known → Placing → (loops : List ℕ) → Groups → Type 0
  GroupsRun known p loops no_groups = Unit {0}
  GroupsRun known p loops (group_then part rest) = PartRuns known p loops part × GroupsRun known p loops rest

  pub PartRuns : Known → Placing → (loops : List ℕ) → Actions → Type 0
  PartRuns known p loops no_actions = Unit {0}
  PartRuns known p loops (action_then a rest) = ActionRuns known p loops a × PartRuns known p loops rest

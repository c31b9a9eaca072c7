-- What holds of a program beside the rules on names, kinds and shapes so that its blocks are sound: its memories are few, no
-- command assigns to an iterator, and its reducers are those of a text.
use Rattle.std.specs.Prelude.{◌≡◌, ℕ, ◌≤◌, ◌^◌, true, length, Some, None}
use Rattle.std.specs.List.{AllByRecursion}
use Rattle.dh_tree.specs.declared.trees.expressions.Ref.{Ref}
use Rattle.dh_tree.specs.Elements.{banks_of, dims_at}
use Rattle.dh_tree.specs.Memories.{Memory, memory_in}
use Rattle.dh_tree.specs.PlainTrees.{Term, term, number, truth_value, named, accessed, in_bank, applied, converted, Action, action, ActionForm, lets, lets_memory, views, assigns, stores, reduces, calls, blocks, decides, repeats, counts, MaybeAction, no_action, one_action, Actions, no_actions, action_then, Groups, no_groups, group_then}
use Rattle.dh_meaning.specs.Bindings.{binding_in}
use Rattle.dh_meaning.specs.CoreOf.{Known, depth_of, entity_number, way_of}
use Rattle.dh_meaning.specs.Ways.{Hidden, Way, hidden_binding}
use Rattle.dh_meets.specs.Charges.{entity_depends}
use Rattle.dh_runnable.specs.ActionsRun.{table_known}
use Rattle.dh_sound.specs.SameKeys.{IsNoIterator}
use Rattle.dh_tree.specs.TextNumbers.{Reduces}

-- what keeps an offset on the way of a name is a variable, on whose loops the name depends
pub record IsKeptFor (known : Known) (r : Ref) (h : Hidden) : Type 0 where
  pub found : binding_in known.bindings h.entity ≡ Some (hidden_binding h)
  pub less : (level : ℕ) → entity_depends known.bindings level (Some h.entity) ≡ true → entity_depends known.bindings level r.entity ≡ true

-- memories and their banks have numbers of 32 bits, no memory is a variable, and what keeps offsets are variables
pub record AreFewMemories (known : Known) : Type 0 where
  pub memories : length (table_known known) ≤ 2 ^ 32
  pub banks : (memory : ℕ) → banks_of (dims_at (table_known known) memory) ≤ 2 ^ 32
  pub unbound : (n : ℕ) (m : Memory) → memory_in known.memories (Some n) ≡ Some m → binding_in known.bindings n ≡ None
  pub kept : (r : Ref) (n : ℕ) (w : Way) → r.entity ≡ Some n → way_of known r ≡ Some w → AllByRecursion (IsKeptFor known r) w.hidden

-- A command assigns to no iterator, and a reducer is one of those that a text has.
module _ (known : Known) where
  abbrev pub IsPlainTarget : Ref → Type 0
  IsPlainTarget r = IsNoIterator (binding_in known.bindings (entity_number r.entity))

  abbrev mutual
    pub AssignsPlain : Action → Type 0
    AssignsPlain (action id place form) = FormPlain form

    pub FormPlain : ActionForm → Type 0
    FormPlain (lets name declared value) = IsPlainTarget name
    FormPlain (lets_memory name shape shape_places value) = Unit {0}
    FormPlain (views name parent form) = Unit {0}
    FormPlain (assigns target value) = IsPlainTarget target
    FormPlain (stores target value) = Unit {0}
    FormPlain (reduces target o value) = IsPlainTarget target × Reduces o
    FormPlain (calls function arguments) = Unit {0}
    FormPlain (blocks body) = GroupsPlain body
    FormPlain (decides test chosen other) = AssignsPlain chosen × OtherPlain other
    FormPlain (repeats test body) = AssignsPlain body
    FormPlain (counts iterator declared low high factor body combine combine_place) = AssignsPlain body × OtherPlain combine

    pub OtherPlain : MaybeAction → Type 0
    OtherPlain no_action = Unit {0}
    OtherPlain (one_action a) = AssignsPlain a

    pub GroupsPlain : Groups → Type 0
    GroupsPlain no_groups = Unit {0}
    GroupsPlain (group_then part rest) = PartPlain part × GroupsPlain rest

    pub PartPlain : Actions → Type 0
    PartPlain no_actions = Unit {0}
    PartPlain (action_then a rest) = AssignsPlain a × PartPlain rest

-- what a reducer puts together is a variable that is declared inside so many loops
abbrev pub IsWholeTerm : Known → (depth : ℕ) → Term → Type 0
IsWholeTerm known depth (term place k (named r)) = IsPlainTarget known r × (depth ≤ depth_of known r)
IsWholeTerm known depth (term place k (number negative x)) = ⊥
IsWholeTerm known depth (term place k (truth_value x)) = ⊥
IsWholeTerm known depth (term place k (accessed r ts)) = ⊥
IsWholeTerm known depth (term place k (in_bank r bank at t)) = ⊥
IsWholeTerm known depth (term place k (applied o l r)) = ⊥
IsWholeTerm known depth (term place k (converted t to)) = ⊥

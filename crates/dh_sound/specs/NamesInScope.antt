-- Which names may stand in the indices of an access: variables, and the iterators of the loops round it. And what it
-- is for a command to have no other names, by the loops in which it stands.
use Rattle.std.specs.Prelude.{◌≡◌, ℕ, List, [], ◌∷◌, ◌++◌, slice_get, Option, Some, None}
use Rattle.dh_tree.specs.declared.trees.expressions.Ref.{Ref}
use Rattle.dh_tree.specs.PlainTrees.{Term, Action, action, ActionForm, lets, lets_memory, views, assigns, stores, reduces, calls, blocks, decides, repeats, counts, MaybeAction, no_action, one_action, Actions, no_actions, action_then, Groups, no_groups, group_then}
use Rattle.dh_meaning.specs.Bindings.{binding_in}
use Rattle.dh_meaning.specs.Core.{Turning}
use Rattle.dh_meaning.specs.CoreOf.{Known, turning_of}
use Rattle.dh_meaning.specs.Phases.{turn_count}
use Rattle.dh_sound.specs.SameKeys.{EachName, EachNameOf, IsNoIterator, IsIteratorName}
use Rattle.dh_tree.specs.Seen.{terms}
use Rattle.dh_tree.specs.ViewOffsets.{offsets_of}

-- A name stands for a variable that is no iterator, or for the iterator of one of these loops.
pub data InScope (known : Known) (loops : List Turning) (r : Ref) : Type 0 where
  is_variable : (e : ℕ) → r.entity ≡ Some e → IsNoIterator (binding_in known.bindings e) → InScope known loops r
  is_iterator : (i : ℕ) → (loop : Turning) → slice_get loops i ≡ Some loop → IsIteratorName known r loop → InScope known loops r

abbrev pub EachInScope : Known → (loops : List Turning) → Term → Type 0
EachInScope known loops t = EachName (InScope known loops) t

abbrev pub MaybeInScope : Known → (loops : List Turning) → Option Term → Type 0
MaybeInScope known loops None = Unit {0}
MaybeInScope known loops (Some t) = EachInScope known loops t

abbrev mutual
  -- the names that a command uses as variables are in scope, where it stands in these loops
  pub IsScoped : Known → (loops : List Turning) → Action → Type 0
  IsScoped known loops (action id place f) = FormScoped known loops f

  pub FormScoped : Known → (loops : List Turning) → ActionForm → Type 0
  FormScoped known loops (lets name declared value) = MaybeInScope known loops value
  FormScoped known loops (lets_memory name shape shape_places value) = Unit {0}
  FormScoped known loops (views name parent form) = EachNameOf (InScope known loops) (terms (offsets_of form))
  FormScoped known loops (assigns target value) = EachInScope known loops value
  FormScoped known loops (stores target value) = EachInScope known loops target × EachInScope known loops value
  FormScoped known loops (reduces target op value) = EachInScope known loops value
  FormScoped known loops (calls function arguments) = Unit {0}
  FormScoped known loops (blocks body) = GroupsScoped known loops body
  FormScoped known loops (decides test chosen other) = EachInScope known loops test × (IsScoped known loops chosen × OtherScoped known loops other)
  FormScoped known loops (repeats test body) = EachInScope known loops test × IsScoped known loops body
  FormScoped known loops (counts iterator declared low high factor body combine combine_place) =
      IsScoped known (loops ++ turning_of known (turn_count low.value high.value factor.value) (counts iterator declared low high factor body combine combine_place) ∷ []) body
      × OtherScoped known (loops ++ turning_of known (turn_count low.value high.value factor.value) (counts iterator declared low high factor body combine combine_place) ∷ []) combine

  pub OtherScoped : Known → (loops : List Turning) → MaybeAction → Type 0
  OtherScoped known loops no_action = Unit {0}
  OtherScoped known loops (one_action a) = IsScoped known loops a

  pub GroupsScoped : Known → (loops : List Turning) → Groups → Type 0
  GroupsScoped known loops no_groups = Unit {0}
  GroupsScoped known loops (group_then part rest) = PartScoped known loops part × GroupsScoped known loops rest

  pub PartScoped : Known → (loops : List Turning) → Actions → Type 0
  PartScoped known loops no_actions = Unit {0}
  PartScoped known loops (action_then a rest) = IsScoped known loops a × PartScoped known loops rest

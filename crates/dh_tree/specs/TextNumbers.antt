-- What holds of the numbers and reducers of every text, whatever rules it breaks: a loop ends at a number of 64 bits, as
-- every number of a text has no more, and a reducer is `+=`, `-=` or `*=`.
use Rattle.std.specs.Prelude.{◌<◌, ◌^◌}
use Rattle.dh_value.specs.declared.operators.Op.{Op}
use Rattle.dh_value.specs.declared.operators.Op.TheVariants as op
use Rattle.dh_tree.specs.PlainTrees.{Action, action, ActionForm, lets, lets_memory, views, assigns, stores, reduces, calls, blocks, decides, repeats, counts, MaybeAction, no_action, one_action, Actions, no_actions, action_then, Groups, no_groups, group_then}

-- the operators of reducers
abbrev pub Reduces : Op → Type 0
Reduces op.Add = Unit {0}
Reduces op.Sub = Unit {0}
Reduces op.Mul = Unit {0}
Reduces op.And = ⊥
Reduces op.Or = ⊥
Reduces op.Xor = ⊥
Reduces op.Shl = ⊥
Reduces op.Shr = ⊥
Reduces op.Lt = ⊥
Reduces op.Gt = ⊥
Reduces op.Le = ⊥
Reduces op.Ge = ⊥
Reduces op.Eq = ⊥
Reduces op.Ne = ⊥
Reduces op.Both = ⊥
Reduces op.Either = ⊥

abbrev mutual
  pub HasTextNumbers : Action → Type 0
  HasTextNumbers (action id place form) = FormHasTextNumbers form

  pub FormHasTextNumbers : ActionForm → Type 0
  FormHasTextNumbers (lets name declared value) = Unit {0}
  FormHasTextNumbers (lets_memory name shape shape_places value) = Unit {0}
  FormHasTextNumbers (views name parent form) = Unit {0}
  FormHasTextNumbers (assigns target value) = Unit {0}
  FormHasTextNumbers (stores target value) = Unit {0}
  FormHasTextNumbers (reduces target o value) = Reduces o
  FormHasTextNumbers (calls function arguments) = Unit {0}
  FormHasTextNumbers (blocks body) = GroupsHaveTextNumbers body
  FormHasTextNumbers (decides test chosen other) = HasTextNumbers chosen × OtherHasTextNumbers other
  FormHasTextNumbers (repeats test body) = HasTextNumbers body
  FormHasTextNumbers (counts iterator declared low high factor body combine combine_place) =
      (high.value < 2 ^ 64) × (HasTextNumbers body × OtherHasTextNumbers combine)

  pub OtherHasTextNumbers : MaybeAction → Type 0
  OtherHasTextNumbers no_action = Unit {0}
  OtherHasTextNumbers (one_action a) = HasTextNumbers a

  pub GroupsHaveTextNumbers : Groups → Type 0
  GroupsHaveTextNumbers no_groups = Unit {0}
  GroupsHaveTextNumbers (group_then part rest) = PartHasTextNumbers part × GroupsHaveTextNumbers rest

  pub PartHasTextNumbers : Actions → Type 0
  PartHasTextNumbers no_actions = Unit {0}
  PartHasTextNumbers (action_then a rest) = HasTextNumbers a × PartHasTextNumbers rest

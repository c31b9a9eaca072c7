-- The targets of stores: accesses, in the tree of every text. The grammar has no other target.
use Rattle.dh_tree.specs.PlainTrees.{Term, term, number, truth_value, named, accessed, in_bank, applied, converted, Action, action, ActionForm, lets, lets_memory, views, assigns, stores, reduces, calls, blocks, decides, repeats, counts, MaybeAction, no_action, one_action, Actions, no_actions, action_then, Groups, no_groups, group_then}

-- an expression is an access
abbrev pub IsAccess : Term → Type 0
IsAccess (term place k (accessed r ts)) = Unit {0}
IsAccess (term place k (in_bank r bank at t)) = Unit {0}
IsAccess (term place k (number negative x)) = ⊥
IsAccess (term place k (truth_value x)) = ⊥
IsAccess (term place k (named r)) = ⊥
IsAccess (term place k (applied o l r)) = ⊥
IsAccess (term place k (converted t to)) = ⊥

abbrev mutual
  -- each store in a command has an access as its target
  pub HasTargets : Action → Type 0
  HasTargets (action id place f) = FormHasTargets f

  pub FormHasTargets : ActionForm → Type 0
  FormHasTargets (stores target value) = IsAccess target
  FormHasTargets (lets name declared value) = Unit {0}
  FormHasTargets (lets_memory name shape shape_places value) = Unit {0}
  FormHasTargets (views name parent form) = Unit {0}
  FormHasTargets (assigns target value) = Unit {0}
  FormHasTargets (reduces target op value) = Unit {0}
  FormHasTargets (calls function arguments) = Unit {0}
  FormHasTargets (blocks body) = GroupsHaveTargets body
  FormHasTargets (decides test chosen other) = HasTargets chosen × OtherHasTargets other
  FormHasTargets (repeats test body) = HasTargets body
  FormHasTargets (counts iterator declared low high factor body combine combine_place) = HasTargets body × OtherHasTargets combine

  pub OtherHasTargets : MaybeAction → Type 0
  OtherHasTargets no_action = Unit {0}
  OtherHasTargets (one_action a) = HasTargets a

  pub GroupsHaveTargets : Groups → Type 0
  GroupsHaveTargets no_groups = Unit {0}
  GroupsHaveTargets (group_then part rest) = PartHasTargets part × GroupsHaveTargets rest

  pub PartHasTargets : Actions → Type 0
  PartHasTargets no_actions = Unit {0}
  PartHasTargets (action_then a rest) = HasTargets a × PartHasTargets rest

-- Commands without calls, whose reducers stand in blocks that join copies alone, with a variable each on the right:
-- the commands of a program whose forms are built, and that breaks no rule on reducers. What is told of such
-- programs alone is to be told of calls as they are built.
use Rattle.std.specs.Prelude.{List, [], ◌∷◌}
use Rattle.dh_tree.specs.PlainTrees.{Term, term, number, truth_value, named, accessed, in_bank, applied, converted, Action, action, ActionForm, lets, lets_memory, views, assigns, stores, reduces, calls, blocks, decides, repeats, counts, MaybeAction, no_action, one_action, Actions, no_actions, action_then, Groups, no_groups, group_then}
use Rattle.dh_meaning.specs.Phases.{Located}

-- an expression is a variable
abbrev pub IsVariable : Term → Type 0
IsVariable (term place k (named r)) = Unit {0}
IsVariable (term place k (number negative x)) = ⊥
IsVariable (term place k (truth_value x)) = ⊥
IsVariable (term place k (accessed r ts)) = ⊥
IsVariable (term place k (in_bank r bank at t)) = ⊥
IsVariable (term place k (applied o l r)) = ⊥
IsVariable (term place k (converted t to)) = ⊥

-- a reducer with a variable on the right: it makes no access
abbrev pub IsFoldForm : ActionForm → Type 0
IsFoldForm (reduces target o value) = IsVariable value
IsFoldForm (lets name declared value) = ⊥
IsFoldForm (lets_memory name shape shape_places value) = ⊥
IsFoldForm (views name parent form) = ⊥
IsFoldForm (assigns target value) = ⊥
IsFoldForm (stores target value) = ⊥
IsFoldForm (calls function arguments) = ⊥
IsFoldForm (blocks body) = ⊥
IsFoldForm (decides test chosen other) = ⊥
IsFoldForm (repeats test body) = ⊥
IsFoldForm (counts iterator declared low high factor body combine combine_place) = ⊥

abbrev pub IsFold : Action → Type 0
IsFold (action id place form) = IsFoldForm form

-- each of these commands is one
abbrev pub AreFolds : List Located → Type 0
AreFolds [] = Unit {0}
AreFolds (c ∷ cs) = IsFold c.command × AreFolds cs

-- a block of such reducers
abbrev mutual
  pub FoldsOnly : Action → Type 0
  FoldsOnly (action id place form) = FormFoldsOnly form

  pub FormFoldsOnly : ActionForm → Type 0
  FormFoldsOnly (reduces target o value) = IsVariable value
  FormFoldsOnly (blocks body) = GroupsFoldOnly body
  FormFoldsOnly (lets name declared value) = ⊥
  FormFoldsOnly (lets_memory name shape shape_places value) = ⊥
  FormFoldsOnly (views name parent form) = ⊥
  FormFoldsOnly (assigns target value) = ⊥
  FormFoldsOnly (stores target value) = ⊥
  FormFoldsOnly (calls function arguments) = ⊥
  FormFoldsOnly (decides test chosen other) = ⊥
  FormFoldsOnly (repeats test body) = ⊥
  FormFoldsOnly (counts iterator declared low high factor body combine combine_place) = ⊥

  pub GroupsFoldOnly : Groups → Type 0
  GroupsFoldOnly no_groups = Unit {0}
  GroupsFoldOnly (group_then part rest) = PartFoldsOnly part × GroupsFoldOnly rest

  pub PartFoldsOnly : Actions → Type 0
  PartFoldsOnly no_actions = Unit {0}
  PartFoldsOnly (action_then a rest) = FoldsOnly a × PartFoldsOnly rest

-- a block that joins copies, where there is one
abbrev pub JoinsFolds : MaybeAction → Type 0
JoinsFolds no_action = Unit {0}
JoinsFolds (one_action a) = FoldsOnly a

-- Reducers stand in blocks that join copies alone, and nothing is called.
abbrev mutual
  pub FoldsInJoins : Action → Type 0
  FoldsInJoins (action id place form) = FormFoldsInJoins form

  pub FormFoldsInJoins : ActionForm → Type 0
  FormFoldsInJoins (lets name declared value) = Unit {0}
  FormFoldsInJoins (lets_memory name shape shape_places value) = Unit {0}
  FormFoldsInJoins (views name parent form) = Unit {0}
  FormFoldsInJoins (assigns target value) = Unit {0}
  FormFoldsInJoins (stores target value) = Unit {0}
  FormFoldsInJoins (reduces target o value) = ⊥
  FormFoldsInJoins (calls function arguments) = ⊥
  FormFoldsInJoins (blocks body) = GroupsFoldInJoins body
  FormFoldsInJoins (decides test chosen other) = FoldsInJoins chosen × OtherFoldsInJoins other
  FormFoldsInJoins (repeats test body) = FoldsInJoins body
  FormFoldsInJoins (counts iterator declared low high factor body combine combine_place) = FoldsInJoins body × JoinsFolds combine

  pub OtherFoldsInJoins : MaybeAction → Type 0
  OtherFoldsInJoins no_action = Unit {0}
  OtherFoldsInJoins (one_action a) = FoldsInJoins a

  pub GroupsFoldInJoins : Groups → Type 0
  GroupsFoldInJoins no_groups = Unit {0}
  GroupsFoldInJoins (group_then part rest) = PartFoldsInJoins part × GroupsFoldInJoins rest

  pub PartFoldsInJoins : Actions → Type 0
  PartFoldsInJoins no_actions = Unit {0}
  PartFoldsInJoins (action_then a rest) = FoldsInJoins a × PartFoldsInJoins rest

-- Which forms of a program are not built yet, by the rule `Unsupported` (K3), each at its place: functions and
-- calls; and of one unordered list every part behind another that holds a `---`, a `for` or a `while`, where
-- it holds one too.
use Rattle.std.specs.Prelude.{◌&&◌, ◌||◌, Bool, false, true, List, [], ◌∷◌, ◌++◌, if◌then◌else◌}
use Rattle.dh_base.specs.declared.places.Place.{Place}
use Rattle.dh_base.specs.declared.rules.Rule.TheVariants.{Unsupported}
use Rattle.dh_tree.specs.declared.breaches.Breach.{Breach}
use Rattle.dh_tree.specs.LeastBreach.{breach}
use Rattle.dh_tree.specs.PlainTrees.{Action, action, ActionForm, lets, lets_memory, views, assigns, stores, reduces, calls, blocks, decides, repeats, counts, MaybeAction, no_action, one_action, Actions, no_actions, action_then, Groups, no_groups, group_then, Defined, Program}

-- a form that is not built begins here
abbrev pub unbuilt : Place → List Breach
unbuilt place = breach Unsupported place ∷ []

abbrev pub unbuilt_functions : List Defined → List Breach
unbuilt_functions [] = []
unbuilt_functions (f ∷ fs) = unbuilt f.place ++ unbuilt_functions fs

-- whether parts have a `---` between them: there are two at least
abbrev pub has_dashes : Groups → Bool
has_dashes no_groups = false
has_dashes (group_then part no_groups) = false
has_dashes (group_then part (group_then next rest)) = true

abbrev mutual
  -- whether a command holds a `---`, a `for`, a `while` or a call
  pub holds_steps : Action → Bool
  holds_steps (action id place form) = form_holds form

  pub form_holds : ActionForm → Bool
  form_holds (blocks body) = has_dashes body || groups_hold body
  form_holds (decides test chosen other) = holds_steps chosen || other_holds other
  form_holds (repeats test body) = true
  form_holds (counts iterator declared low high factor body combine combine_place) = true
  form_holds (calls function arguments) = true
  form_holds (lets name declared value) = false
  form_holds (lets_memory name shape shape_places value) = false
  form_holds (views name parent form) = false
  form_holds (assigns target value) = false
  form_holds (stores target value) = false
  form_holds (reduces target o value) = false

  pub other_holds : MaybeAction → Bool
  other_holds no_action = false
  other_holds (one_action a) = holds_steps a

  pub groups_hold : Groups → Bool
  groups_hold no_groups = false
  groups_hold (group_then part rest) = part_holds part || groups_hold rest

  pub part_holds : Actions → Bool
  part_holds no_actions = false
  part_holds (action_then a rest) = holds_steps a || part_holds rest

abbrev mutual
  -- the forms that are not built in a command: its own, or those in what it holds
  pub unbuilt_action : Action → List Breach
  unbuilt_action (action id place form) = unbuilt_form place form

  pub unbuilt_form : Place → ActionForm → List Breach
  unbuilt_form place (lets name declared value) = []
  unbuilt_form place (lets_memory name shape shape_places value) = []
  unbuilt_form place (views name parent form) = []
  unbuilt_form place (assigns target value) = []
  unbuilt_form place (stores target value) = []
  unbuilt_form place (reduces target o value) = []
  unbuilt_form place (decides test chosen other) = unbuilt_action chosen ++ unbuilt_other other
  unbuilt_form place (repeats test body) = unbuilt_action body
  unbuilt_form place (counts iterator declared low high factor body combine combine_place) = unbuilt_action body ++ unbuilt_other combine
  unbuilt_form place (blocks body) = unbuilt_groups body
  unbuilt_form place (calls function arguments) = unbuilt place

  pub unbuilt_other : MaybeAction → List Breach
  unbuilt_other no_action = []
  unbuilt_other (one_action a) = unbuilt_action a

  pub unbuilt_groups : Groups → List Breach
  unbuilt_groups no_groups = []
  unbuilt_groups (group_then part rest) = unbuilt_part false part ++ unbuilt_groups rest

  -- a list, in which an earlier part may hold a `---`
  pub unbuilt_part : Bool → Actions → List Breach
  unbuilt_part stepped no_actions = []
  unbuilt_part stepped (action_then (action id place form) rest) =
      unbuilt_form place form
      ++ ((if stepped && form_holds form then unbuilt place else []) ++ unbuilt_part (stepped || form_holds form) rest)

-- the forms of a program that are not built
abbrev pub unbuilt_forms : Program → List Breach
unbuilt_forms p = unbuilt_functions p.functions ++ unbuilt_action p.body

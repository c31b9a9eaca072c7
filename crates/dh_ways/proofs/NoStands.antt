-- Where no view is declared, none stands.
use Rattle.std.proofs.Common.{◌≡◌, ℕ, List, [], ◌++◌, refl, ap, ◌∙◌}
use Rattle.dh_tree.specs.PlainTrees.{Action, action, ActionForm, lets, lets_memory, views, assigns, stores, reduces, calls, blocks, decides, repeats, counts, MaybeAction, no_action, one_action, Actions, no_actions, action_then, Groups, no_groups, group_then}
use Rattle.dh_tree.specs.Views.{viewings, form_viewings, other_viewings, groups_viewings, part_viewings}
use Rattle.dh_meaning.specs.Bindings.{depth_inside}
use Rattle.dh_viewing.proofs.KeptViews.{first_none, second_none}
use Rattle.dh_ways.specs.Stands.{copies_inside, stands, form_stands, other_stands, groups_stands, part_stands}

both_none : {A : Type 0} (xs ys : List A) → xs ≡ [] → ys ≡ [] → xs ++ ys ≡ []
both_none xs ys e f = ap (λ l. l ++ ys) e ∙ f

mutual
  pub none_stand : (d n : ℕ) (a : Action) → viewings a ≡ [] → stands d n a ≡ []
  none_stand d n (action id place form) e = none_in_form d n form e

  none_in_form : (d n : ℕ) (f : ActionForm) → form_viewings f ≡ [] → form_stands d n f ≡ []
  none_in_form d n (views name parent form) e = cc
  none_in_form d n (lets name declared value) e = refl
  none_in_form d n (lets_memory name shape shape_places value) e = refl
  none_in_form d n (assigns target value) e = refl
  none_in_form d n (stores target value) e = refl
  none_in_form d n (reduces target op value) e = refl
  none_in_form d n (calls function arguments) e = refl
  none_in_form d n (blocks body) e = none_in_groups d n body e
  none_in_form d n (decides test chosen other) e =
      both_none (stands d n chosen) (other_stands d n other) (none_stand d n chosen (first_none (viewings chosen) (other_viewings other) e))
      (none_in_other d n other (second_none (viewings chosen) (other_viewings other) e))
  none_in_form d n (repeats test body) e = none_stand d n body e
  none_in_form d n (counts iterator declared low high factor body combine combine_place) e =
      let inside = depth_inside d factor.value in
      let more = copies_inside n factor.value in
      both_none (stands inside more body) (other_stands inside more combine) (none_stand inside more body (first_none (viewings body) (other_viewings combine) e))
      (none_in_other inside more combine (second_none (viewings body) (other_viewings combine) e))

  none_in_other : (d n : ℕ) (m : MaybeAction) → other_viewings m ≡ [] → other_stands d n m ≡ []
  none_in_other d n no_action e = refl
  none_in_other d n (one_action a) e = none_stand d n a e

  none_in_groups : (d n : ℕ) (gs : Groups) → groups_viewings gs ≡ [] → groups_stands d n gs ≡ []
  none_in_groups d n no_groups e = refl
  none_in_groups d n (group_then part rest) e =
      both_none (part_stands d n part) (groups_stands d n rest) (none_in_part d n part (first_none (part_viewings part) (groups_viewings rest) e))
      (none_in_groups d n rest (second_none (part_viewings part) (groups_viewings rest) e))

  none_in_part : (d n : ℕ) (part : Actions) → part_viewings part ≡ [] → part_stands d n part ≡ []
  none_in_part d n no_actions e = refl
  none_in_part d n (action_then a rest) e =
      both_none (stands d n a) (part_stands d n rest) (none_stand d n a (first_none (viewings a) (part_viewings rest) e))
      (none_in_part d n rest (second_none (viewings a) (part_viewings rest) e))

-- What the rule on outer writes leaves in copies: each assignment in the body of a loop of several copies is to a name that
-- is declared inside that body. (The rule itself stands in `dh_tree/specs/Placements`, with the other placements; a program
-- that breaks none of those is such: `outer_spared` of proofs/OuterSpared.)
use Rattle.std.specs.Prelude.{◌≡◌, ℕ, false}
use Rattle.dh_tree.specs.Placements.{is_from_outside, first_inside}
use Rattle.dh_tree.specs.PlainTrees.{Action, action, ActionForm, lets, lets_memory, views, assigns, stores, reduces, calls, blocks, decides, repeats, counts, MaybeAction, no_action, one_action, Actions, no_actions, action_then, Groups, no_groups, group_then}

abbrev mutual
  -- a command, in the body of a loop of several copies in which this is the first number; 0 stands for no such loop
  pub SparesOuter : (first : ℕ) → Action → Type 0
  SparesOuter first (action id place form) = FormSparesOuter first form

  pub FormSparesOuter : (first : ℕ) → ActionForm → Type 0
  FormSparesOuter first (lets name declared value) = Unit {0}
  FormSparesOuter first (lets_memory name shape shape_places value) = Unit {0}
  FormSparesOuter first (views name parent form) = Unit {0}
  FormSparesOuter first (assigns target value) = is_from_outside first target.entity ≡ false
  FormSparesOuter first (stores target value) = Unit {0}
  FormSparesOuter first (reduces target o value) = Unit {0}
  FormSparesOuter first (calls function arguments) = Unit {0}
  FormSparesOuter first (blocks body) = GroupsSpareOuter first body
  FormSparesOuter first (decides test chosen other) = SparesOuter first chosen × OtherSparesOuter first other
  FormSparesOuter first (repeats test body) = SparesOuter first body
  FormSparesOuter first (counts iterator declared low high factor body combine combine_place) =
      SparesOuter (first_inside first factor.value iterator.entity) body × OtherSparesOuter first combine

  pub OtherSparesOuter : (first : ℕ) → MaybeAction → Type 0
  OtherSparesOuter first no_action = Unit {0}
  OtherSparesOuter first (one_action a) = SparesOuter first a

  pub PartSparesOuter : (first : ℕ) → Actions → Type 0
  PartSparesOuter first no_actions = Unit {0}
  PartSparesOuter first (action_then a rest) = SparesOuter first a × PartSparesOuter first rest

  pub GroupsSpareOuter : (first : ℕ) → Groups → Type 0
  GroupsSpareOuter first no_groups = Unit {0}
  GroupsSpareOuter first (group_then part rest) = PartSparesOuter first part × GroupsSpareOuter first rest

-- A program that breaks no rule on placements assigns in copies to nothing from outside them. By one walk over its
-- commands, with what is round each.
use Rattle.std.proofs.Common.{◌≡◌, ◌||◌, Bool, true, false, List, []}
use Rattle.dh_base.specs.declared.places.Place.{Place}
use Rattle.dh_tree.specs.declared.trees.programs.Entity.{Entity}
use Rattle.dh_tree.specs.Placements.{Context, nothing_round, branched, in_body, in_combine, is_outer_write, names_iterator, is_from_outside, joined_breaches, action_placement_breaches, form_placement_breaches, other_placement_breaches, actions_placement_breaches, groups_placement_breaches, decls_placement_breaches, placement_breaches}
use Rattle.dh_tree.specs.PlainTrees.{Action, action, ActionForm, lets, lets_memory, views, assigns, stores, reduces, calls, blocks, decides, repeats, counts, MaybeAction, no_action, one_action, Actions, no_actions, action_then, Groups, no_groups, group_then, Program}
use Rattle.dh_tree.proofs.EmptyLists.{first_none, second_none}
use Rattle.dh_sound.specs.OuterWrites.{SparesOuter, FormSparesOuter, OtherSparesOuter, PartSparesOuter, GroupsSpareOuter}
use Rattle.dh_sound.proofs.IteratorsNamed.{none_when}

right_false : (a b : Bool) → (a || b) ≡ false → b ≡ false
right_false false b e = e
right_false true b e = cc

module _ (es : List Entity) where
  mutual
    spared : (a : Action) (c : Context) → action_placement_breaches es c a ≡ [] → SparesOuter c.first a
    spared (action id place form) c p = form_spared form c place p

    form_spared : (f : ActionForm) (c : Context) (place : Place) → form_placement_breaches es c place f ≡ [] → FormSparesOuter c.first f
    form_spared (lets name declared value) c place p = tt
    form_spared (lets_memory name shape shape_places value) c place p = tt
    form_spared (views name parent form) c place p = tt
    form_spared (assigns target value) c place p =
        right_false (names_iterator es target.entity) (is_from_outside c.first target.entity) (none_when (is_outer_write es c.first target.entity) _ p)
    form_spared (stores target value) c place p = tt
    form_spared (reduces target o value) c place p = tt
    form_spared (calls function arguments) c place p = tt
    form_spared (blocks body) c place p = groups_spared body c p
    form_spared (decides test chosen other) c place p =
        let behind = second_none (action_placement_breaches es (branched c) chosen) _ p in (
          spared chosen (branched c) (first_none (action_placement_breaches es (branched c) chosen) _ p),
          other_spared other (branched c) (first_none (other_placement_breaches es (branched c) other) _ behind),
        )
    form_spared (repeats test body) c place p = spared body (branched c) (first_none (action_placement_breaches es (branched c) body) _ p)
    form_spared (counts iterator declared low high factor body combine combine_place) c place p =
        let c_body : Context = in_body c factor.value iterator.entity in
        let c_combine : Context = in_combine c iterator.entity in
        let behind = second_none (action_placement_breaches es c_body body) _ p in (
          spared body c_body (first_none (action_placement_breaches es c_body body) _ p),
          other_spared combine c_combine (first_none (other_placement_breaches es c_combine combine) _ behind),
        )

    other_spared : (m : MaybeAction) (c : Context) → other_placement_breaches es c m ≡ [] → OtherSparesOuter c.first m
    other_spared no_action c p = tt
    other_spared (one_action a) c p = spared a c p

    part_spared : (part : Actions) (c : Context) → actions_placement_breaches es c part ≡ [] → PartSparesOuter c.first part
    part_spared no_actions c p = tt
    part_spared (action_then a rest) c p = (
      spared a c (first_none (action_placement_breaches es c a) _ p),
      part_spared rest c (second_none (joined_breaches c.joins a) _ (second_none (action_placement_breaches es c a) _ p)),
    )

    groups_spared : (gs : Groups) (c : Context) → groups_placement_breaches es c gs ≡ [] → GroupsSpareOuter c.first gs
    groups_spared no_groups c p = tt
    groups_spared (group_then part rest) c p = (
      part_spared part c (first_none (actions_placement_breaches es c part) _ p),
      groups_spared rest c (second_none (actions_placement_breaches es c part) _ p),
    )

-- of a program
pub outer_spared : (p : Program) → placement_breaches p ≡ [] → SparesOuter 0 p.body
outer_spared p e = spared p.entities p.body nothing_round (second_none (decls_placement_breaches p.decls) _ e)

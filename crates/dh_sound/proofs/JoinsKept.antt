-- A program that breaks no rule on placements has reducers only in blocks that join copies, each with a variable on the
-- right and none for an iterator; and it makes no call where calls are not built. By one walk over commands for each, with
-- what is round each.
use Rattle.std.proofs.Common.{◌≡◌, ◌&&◌, ◌||◌, not, Bool, true, false, if◌then◌else◌, ℕ, List, [], ◌∷◌, Option, Some, None, refl, sym, ◌∙◌, ap, ◌++◌}
use Rattle.std.specs.Prelude.{slice_get}
use Rattle.dh_base.specs.declared.places.Place.{Place}
use Rattle.dh_base.specs.declared.rules.Rule.TheVariants.{Reducer}
use Rattle.dh_tree.specs.declared.breaches.Breach.{Breach}
use Rattle.dh_tree.specs.declared.trees.expressions.Ref.{Ref}
use Rattle.dh_tree.specs.declared.trees.programs.Entity.{Entity}
use Rattle.dh_tree.specs.declared.trees.programs.Sort.{Sort}
use Rattle.dh_tree.specs.declared.trees.programs.Sort.TheVariants as sort
use Rattle.dh_tree.specs.Forms.{unbuilt, form_holds, unbuilt_action, unbuilt_form, unbuilt_other, unbuilt_groups, unbuilt_part}
use Rattle.dh_tree.specs.Kinds.{when}
use Rattle.dh_tree.specs.LeastBreach.{breach}
use Rattle.dh_tree.specs.Placements.{Context, nothing_round, branched, in_body, in_combine, is_iterator, entity_iterates, names_iterator, is_plain_variable, entity_varies, names_variable, is_from_outside, is_folded_into, is_folded, is_one_part, folded_breaches, reducer_breaches, joined_breaches, combine_breaches, action_placement_breaches, form_placement_breaches, other_placement_breaches, actions_placement_breaches, groups_placement_breaches, decls_placement_breaches, placement_breaches}
use Rattle.dh_tree.specs.PlainTrees.{Term, term, number, truth_value, named, accessed, in_bank, applied, converted, Action, action, ActionForm, lets, lets_memory, views, assigns, stores, reduces, calls, blocks, decides, repeats, counts, MaybeAction, no_action, one_action, Actions, no_actions, action_then, Groups, no_groups, group_then, Program}
use Rattle.dh_tree.specs.Scopes.{entity_number}
use Rattle.dh_tree.proofs.EmptyLists.{first_none, second_none, not_none}
use Rattle.dh_sound.specs.IteratorsKept.{FoldsElsewhere, FormFoldsElsewhere, OtherFoldsElsewhere, GroupsFoldElsewhere, PartFoldsElsewhere}
use Rattle.dh_sound.specs.SimpleForms.{IsVariable, FormFoldsOnly, GroupsFoldOnly, PartFoldsOnly, JoinsFolds, FoldsInJoins, FormFoldsInJoins, OtherFoldsInJoins, GroupsFoldInJoins, PartFoldsInJoins}

when_not : (b : Bool) (x : Breach) → when (not b) (x ∷ []) ≡ [] → b ≡ true
when_not true x e = refl
when_not false x e = not_none _ _ e

left_true : (x y : Bool) → (x && y) ≡ true → x ≡ true
left_true true y e = refl
left_true false y e = cc

plain_is_none : (k : Sort) → is_plain_variable k ≡ true → is_iterator k ≡ false
plain_is_none sort.Variable e = refl
plain_is_none sort.Iterator e = cc
plain_is_none sort.Memory e = refl
plain_is_none sort.View e = refl
plain_is_none sort.Function e = refl

varies_none : (o : Option Entity) → entity_varies o ≡ true → entity_iterates o ≡ false
varies_none None e = refl
varies_none (Some x) e = plain_is_none x.sort e

module _ (es : List Entity) where
  -- what stands for a variable stands for no iterator
  variable_no_iterator : (o : Option ℕ) → names_variable es o ≡ true → names_iterator es o ≡ false
  variable_no_iterator None e = refl
  variable_no_iterator (Some n) e = varies_none (slice_get es n) e

  -- Reducers of a block that joins the copies of a loop.

  value_told : (iterator : ℕ) (t : Term) → folded_breaches es iterator t ≡ [] → IsVariable t
  value_told iterator (term place k (named r)) e = tt
  value_told iterator (term place k (number negative x)) e = not_none _ _ e
  value_told iterator (term place k (truth_value x)) e = not_none _ _ e
  value_told iterator (term place k (accessed r ts)) e = not_none _ _ e
  value_told iterator (term place k (in_bank r bank at t)) e = not_none _ _ e
  value_told iterator (term place k (applied o left right)) e = not_none _ _ e
  value_told iterator (term place k (converted t to)) e = not_none _ _ e

  reducer_told : (iterator : ℕ) (target : Ref) (value : Term) → reducer_breaches es (Some iterator) target value ≡ [] → IsVariable value × (names_iterator es target.entity ≡ false)
  reducer_told iterator target value e =
      let first : List Breach = when (not (is_folded_into es iterator target.entity)) (breach Reducer target.place ∷ []) in
      let into = when_not (is_folded_into es iterator target.entity) (breach Reducer target.place) (first_none first _ e) in
      (value_told iterator value (second_none first _ e), variable_no_iterator target.entity (left_true (names_variable es target.entity) (is_from_outside iterator target.entity) into))

  -- a command of such a block
  module _ (c : Context) (iterator : ℕ) (joins : c.joins ≡ Some iterator) where
    joined_form : (f : ActionForm) (id : ℕ) (place : Place) → form_placement_breaches es c place f ≡ [] → joined_breaches (Some iterator) (action id place f) ≡ [] → FormFoldsOnly f × FormFoldsElsewhere es f
    joined_form (reduces target o value) id place p e = reducer_told iterator target value (ap (λ j. reducer_breaches es j target value) (sym joins) ∙ p)
    joined_form (lets name declared value) id place p e = not_none _ _ e
    joined_form (lets_memory name shape shape_places value) id place p e = not_none _ _ e
    joined_form (views name parent form) id place p e = not_none _ _ e
    joined_form (assigns target value) id place p e = not_none _ _ e
    joined_form (stores target value) id place p e = not_none _ _ e
    joined_form (calls function arguments) id place p e = not_none _ _ e
    joined_form (blocks body) id place p e = not_none _ _ e
    joined_form (decides test chosen other) id place p e = not_none _ _ e
    joined_form (repeats test body) id place p e = not_none _ _ e
    joined_form (counts i declared low high factor body combine combine_place) id place p e = not_none _ _ e

    joined_part : (part : Actions) → actions_placement_breaches es c part ≡ [] → PartFoldsOnly part × PartFoldsElsewhere es part
    joined_part no_actions p = (tt, tt)
    joined_part (action_then (action id place form) rest) p =
        let behind = second_none (form_placement_breaches es c place form) _ p in
        let x = joined_form form id place (first_none (form_placement_breaches es c place form) _ p)
        (ap (λ j. joined_breaches j (action id place form)) (sym joins) ∙ first_none (joined_breaches c.joins (action id place form)) _ behind) in
        let y = joined_part rest (second_none (joined_breaches c.joins (action id place form)) _ behind) in
        ((x.0, y.0), (x.1, y.1))

    joined_groups : (gs : Groups) → groups_placement_breaches es c gs ≡ [] → GroupsFoldOnly gs × GroupsFoldElsewhere es gs
    joined_groups no_groups p = (tt, tt)
    joined_groups (group_then part rest) p =
        let x = joined_part part (first_none (actions_placement_breaches es c part) _ p) in
        let y = joined_groups rest (second_none (actions_placement_breaches es c part) _ p) in
        ((x.0, y.0), (x.1, y.1))

    -- the block itself, behind the word `combine`
    join_form : (f : ActionForm) (word place : Place) → form_placement_breaches es c place f ≡ [] → when (not (is_one_part f)) (breach Reducer word ∷ []) ≡ [] → FormFoldsOnly f × FormFoldsElsewhere es f
    join_form (blocks body) word place p e = joined_groups body p
    join_form (reduces target o value) word place p e = not_none _ _ e
    join_form (lets name declared value) word place p e = not_none _ _ e
    join_form (lets_memory name shape shape_places value) word place p e = not_none _ _ e
    join_form (views name parent form) word place p e = not_none _ _ e
    join_form (assigns target value) word place p e = not_none _ _ e
    join_form (stores target value) word place p e = not_none _ _ e
    join_form (calls function arguments) word place p e = not_none _ _ e
    join_form (decides test chosen other) word place p e = not_none _ _ e
    join_form (repeats test body) word place p e = not_none _ _ e
    join_form (counts i declared low high factor body combine combine_place) word place p e = not_none _ _ e

    join_told : (m : MaybeAction) (word : Place) → other_placement_breaches es c m ≡ [] → combine_breaches m word ≡ [] → JoinsFolds m × OtherFoldsElsewhere es m
    join_told no_action word p e = (tt, tt)
    join_told (one_action (action id place form)) word p e = join_form form word place p e

  -- that of a loop
  combine_told : (c : Context) (iterator : Ref) (combine : MaybeAction) (word : Place)
      → other_placement_breaches es (in_combine c iterator.entity) combine ++ combine_breaches combine word ≡ [] → JoinsFolds combine × OtherFoldsElsewhere es combine
  combine_told c iterator combine word e =
      join_told (in_combine c iterator.entity) (entity_number iterator.entity) refl combine word
      (first_none (other_placement_breaches es (in_combine c iterator.entity) combine) _ e) (second_none (other_placement_breaches es (in_combine c iterator.entity) combine) _ e)

  -- Commands outside of such blocks: no reducer puts anything into an iterator.
  mutual
    elsewhere : (a : Action) (c : Context) → c.joins ≡ None → action_placement_breaches es c a ≡ [] → FoldsElsewhere es a
    elsewhere (action id place form) c out p = form_elsewhere form c place out p

    form_elsewhere : (f : ActionForm) (c : Context) (place : Place) → c.joins ≡ None → form_placement_breaches es c place f ≡ [] → FormFoldsElsewhere es f
    form_elsewhere (lets name declared value) c place out p = tt
    form_elsewhere (lets_memory name shape shape_places value) c place out p = tt
    form_elsewhere (views name parent form) c place out p = tt
    form_elsewhere (assigns target value) c place out p = tt
    form_elsewhere (stores target value) c place out p = tt
    form_elsewhere (reduces target o value) c place out p = not_none _ _ (ap (λ j. reducer_breaches es j target value) (sym out) ∙ p)
    form_elsewhere (calls function arguments) c place out p = tt
    form_elsewhere (blocks body) c place out p = groups_elsewhere body c out p
    form_elsewhere (decides test chosen other) c place out p =
        let behind = second_none (action_placement_breaches es (branched c) chosen) _ p in (
          elsewhere chosen (branched c) out (first_none (action_placement_breaches es (branched c) chosen) _ p),
          other_elsewhere other (branched c) out (first_none (other_placement_breaches es (branched c) other) _ behind),
        )
    form_elsewhere (repeats test body) c place out p = elsewhere body (branched c) out (first_none (action_placement_breaches es (branched c) body) _ p)
    form_elsewhere (counts iterator declared low high factor body combine combine_place) c place out p =
        let c_body : Context = in_body c factor.value iterator.entity in (
          elsewhere body c_body out (first_none (action_placement_breaches es c_body body) _ p),
          (combine_told c iterator combine combine_place (second_none (action_placement_breaches es c_body body) _ p)).1,
        )

    other_elsewhere : (m : MaybeAction) (c : Context) → c.joins ≡ None → other_placement_breaches es c m ≡ [] → OtherFoldsElsewhere es m
    other_elsewhere no_action c out p = tt
    other_elsewhere (one_action a) c out p = elsewhere a c out p

    groups_elsewhere : (gs : Groups) (c : Context) → c.joins ≡ None → groups_placement_breaches es c gs ≡ [] → GroupsFoldElsewhere es gs
    groups_elsewhere no_groups c out p = tt
    groups_elsewhere (group_then part rest) c out p =
        (part_elsewhere part c out (first_none (actions_placement_breaches es c part) _ p), groups_elsewhere rest c out (second_none (actions_placement_breaches es c part) _ p))

    part_elsewhere : (part : Actions) (c : Context) → c.joins ≡ None → actions_placement_breaches es c part ≡ [] → PartFoldsElsewhere es part
    part_elsewhere no_actions c out p = tt
    part_elsewhere (action_then a rest) c out p = (
      elsewhere a c out (first_none (action_placement_breaches es c a) _ p),
      part_elsewhere rest c out (second_none (joined_breaches c.joins a) _ (second_none (action_placement_breaches es c a) _ p)),
    )

  -- Their reducers join copies.
  mutual
    in_joins : (a : Action) (c : Context) → c.joins ≡ None → unbuilt_action a ≡ [] → action_placement_breaches es c a ≡ [] → FoldsInJoins a
    in_joins (action id place form) c out u p = form_in_joins form c place out u p

    form_in_joins : (f : ActionForm) (c : Context) (place : Place) → c.joins ≡ None → unbuilt_form place f ≡ [] → form_placement_breaches es c place f ≡ [] → FormFoldsInJoins f
    form_in_joins (lets name declared value) c place out u p = tt
    form_in_joins (lets_memory name shape shape_places value) c place out u p = tt
    form_in_joins (views name parent form) c place out u p = tt
    form_in_joins (assigns target value) c place out u p = tt
    form_in_joins (stores target value) c place out u p = tt
    form_in_joins (reduces target o value) c place out u p = not_none _ _ (ap (λ j. reducer_breaches es j target value) (sym out) ∙ p)
    form_in_joins (calls function arguments) c place out u p = not_none _ _ u
    form_in_joins (blocks body) c place out u p = groups_in_joins body c out u p
    form_in_joins (decides test chosen other) c place out u p =
        let behind = second_none (action_placement_breaches es (branched c) chosen) _ p in (
          in_joins chosen (branched c) out (first_none (unbuilt_action chosen) _ u) (first_none (action_placement_breaches es (branched c) chosen) _ p),
          other_in_joins other (branched c) out (second_none (unbuilt_action chosen) _ u) (first_none (other_placement_breaches es (branched c) other) _ behind),
        )
    form_in_joins (repeats test body) c place out u p = in_joins body (branched c) out u (first_none (action_placement_breaches es (branched c) body) _ p)
    form_in_joins (counts iterator declared low high factor body combine combine_place) c place out u p =
        let c_body : Context = in_body c factor.value iterator.entity in (
          in_joins body c_body out (first_none (unbuilt_action body) _ u) (first_none (action_placement_breaches es c_body body) _ p),
          (combine_told c iterator combine combine_place (second_none (action_placement_breaches es c_body body) _ p)).0,
        )

    other_in_joins : (m : MaybeAction) (c : Context) → c.joins ≡ None → unbuilt_other m ≡ [] → other_placement_breaches es c m ≡ [] → OtherFoldsInJoins m
    other_in_joins no_action c out u p = tt
    other_in_joins (one_action a) c out u p = in_joins a c out u p

    groups_in_joins : (gs : Groups) (c : Context) → c.joins ≡ None → unbuilt_groups gs ≡ [] → groups_placement_breaches es c gs ≡ [] → GroupsFoldInJoins gs
    groups_in_joins no_groups c out u p = tt
    groups_in_joins (group_then part rest) c out u p = (
      part_in_joins part false c out (first_none (unbuilt_part false part) _ u) (first_none (actions_placement_breaches es c part) _ p),
      groups_in_joins rest c out (second_none (unbuilt_part false part) _ u) (second_none (actions_placement_breaches es c part) _ p),
    )

    part_in_joins : (part : Actions) (stepped : Bool) (c : Context) → c.joins ≡ None → unbuilt_part stepped part ≡ [] → actions_placement_breaches es c part ≡ [] → PartFoldsInJoins part
    part_in_joins no_actions stepped c out u p = tt
    part_in_joins (action_then (action id place form) rest) stepped c out u p =
        let after = second_none (unbuilt_form place form) _ u in
        let again : List Breach = (if stepped && form_holds form then unbuilt place else []) in
        let behind = second_none (form_placement_breaches es c place form) _ p in (
          form_in_joins form c place out (first_none (unbuilt_form place form) _ u) (first_none (form_placement_breaches es c place form) _ p),
          part_in_joins rest (stepped || form_holds form) c out (second_none again _ after) (second_none (joined_breaches c.joins (action id place form)) _ behind),
        )

-- of a program
pub folds_kept : (p : Program) → placement_breaches p ≡ [] → FoldsElsewhere p.entities p.body
folds_kept p e = elsewhere p.entities p.body nothing_round refl (second_none (decls_placement_breaches p.decls) _ e)

pub joins_kept : (p : Program) → unbuilt_action p.body ≡ [] → placement_breaches p ≡ [] → FoldsInJoins p.body
joins_kept p u e = in_joins p.entities p.body nothing_round refl u (second_none (decls_placement_breaches p.decls) _ e)

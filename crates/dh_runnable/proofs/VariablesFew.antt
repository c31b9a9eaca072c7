-- The variables of a program that can be run have few copies: a loop that can be turned has few paths inside it, and those
-- are the copies of its iterator and of what its body declares. By recursion over commands.
use Rattle.std.proofs.Common.{ℕ, ◌≤◌, List, [], ◌∷◌, ◌++◌}
use Rattle.dh_tree.specs.PlainTrees.{Action, action, ActionForm, lets, lets_memory, views, assigns, stores, reduces, calls, blocks, decides, repeats, counts, MaybeAction, no_action, one_action, Actions, no_actions, action_then, Groups, no_groups, group_then}
use Rattle.dh_meaning.specs.CoreOf.{Known}
use Rattle.dh_code.specs.Declarations.{Declaration, declarations, factors_inside, form_declarations, groups_declarations, other_declarations, part_declarations}
use Rattle.dh_code.specs.Placed.{AreFew}
use Rattle.dh_code.specs.Ranks.{copies_in}
use Rattle.dh_base.specs.Limits.{most_copies}
use Rattle.dh_code.specs.Slots.{Placing}
use Rattle.dh_runnable.specs.ActionsRun.{ActionRuns, FormRuns, GroupsRun, OtherRuns, PartRuns}

pub both_few : (ds es : List Declaration) → AreFew ds → AreFew es → AreFew (ds ++ es)
both_few [] es h i = i
both_few (d ∷ ds) es h i = (h.0, both_few ds es h.1 i)

module _ (known : Known) (p : Placing) where
  mutual
    pub action_few : (a : Action) (loops : List ℕ) → copies_in loops ≤ most_copies → ActionRuns known p loops a → AreFew (declarations loops a)
    action_few (action id place form) loops few h = form_few form loops few h

    form_few : (f : ActionForm) (loops : List ℕ) → copies_in loops ≤ most_copies → FormRuns known p loops f → AreFew (form_declarations loops f)
    form_few (lets name declared value) loops few h = (few, tt)
    form_few (lets_memory name shape shape_places value) loops few h = tt
    form_few (views name parent form) loops few h = tt
    form_few (assigns target value) loops few h = tt
    form_few (stores target value) loops few h = tt
    form_few (reduces target o value) loops few h = tt
    form_few (calls function arguments) loops few h = tt
    form_few (blocks body) loops few h = groups_few body loops few h
    form_few (decides test chosen other) loops few h =
        both_few (declarations loops chosen) (other_declarations loops other) (action_few chosen loops few h.1.0) (other_few other loops few h.1.1)
    form_few (repeats test body) loops few h = action_few body loops few h.1
    form_few (counts iterator declared low high factor body combine combine_place) loops few h =
        let inner = factors_inside loops factor.value in
        (h.0.few, both_few (declarations inner body) (other_declarations inner combine) (action_few body inner h.0.few h.1.0) (other_few combine inner h.0.few h.1.1))

    other_few : (m : MaybeAction) (loops : List ℕ) → copies_in loops ≤ most_copies → OtherRuns known p loops m → AreFew (other_declarations loops m)
    other_few no_action loops few h = tt
    other_few (one_action a) loops few h = action_few a loops few h

    groups_few : (gs : Groups) (loops : List ℕ) → copies_in loops ≤ most_copies → GroupsRun known p loops gs → AreFew (groups_declarations loops gs)
    groups_few no_groups loops few h = tt
    groups_few (group_then part rest) loops few h = both_few (part_declarations loops part) (groups_declarations loops rest) (part_few part loops few h.0) (groups_few rest loops few h.1)

    part_few : (part : Actions) (loops : List ℕ) → copies_in loops ≤ most_copies → PartRuns known p loops part → AreFew (part_declarations loops part)
    part_few no_actions loops few h = tt
    part_few (action_then a rest) loops few h = both_few (declarations loops a) (part_declarations loops rest) (action_few a loops few h.0) (part_few rest loops few h.1)

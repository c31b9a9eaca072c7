-- Commands whose names stand for something store into accesses.
use Rattle.std.specs.Prelude.{List, [], ◌∷◌}
use Rattle.std.specs.List.{AllByRecursion}
use Rattle.dh_tree.specs.Indices.{form_of}
use Rattle.dh_tree.specs.PlainTrees as plain
use Rattle.dh_tree.specs.PlainTrees.{Term, Action, action, lets, lets_memory, views, assigns, stores, reduces, calls, blocks, decides, repeats, counts, MaybeAction, no_action, one_action, Actions, no_actions, action_then, Groups, no_groups, group_then}
use Rattle.dh_meaning.specs.CoreOf.{Known}
use Rattle.dh_meaning.specs.Phases.{Located}
use Rattle.dh_sound.specs.Straight.{AreKeptActions, AreKeptGroups, IsKeptAction, IsKeptOther, IsTarget}
use Rattle.dh_laid.specs.LaidNumbers.{IsAccessForm, StoresReach, StoresReachGroups, StoresReachOther, StoresReachPart}

pub target_reaches : (t : Term) → IsTarget t → IsAccessForm (form_of t)
target_reaches (plain.term place k (plain.accessed r ts)) is = tt
target_reaches (plain.term place k (plain.in_bank r bank at row)) is = tt
target_reaches (plain.term place k (plain.number negative z)) is = absurd is
target_reaches (plain.term place k (plain.truth_value b)) is = absurd is
target_reaches (plain.term place k (plain.named r)) is = absurd is
target_reaches (plain.term place k (plain.applied o l r)) is = absurd is
target_reaches (plain.term place k (plain.converted inner to)) is = absurd is

module _ (known : Known) where
  mutual
    pub named_reaches : (a : Action) → IsKeptAction known a → StoresReach a
    named_reaches (action id place (lets name declared value)) h = tt
    named_reaches (action id place (assigns target value)) h = tt
    named_reaches (action id place (stores target value)) h = target_reaches target h.0
    named_reaches (action id place (reduces target o value)) h = tt
    named_reaches (action id place (decides test chosen other)) h = (named_reaches chosen h.1.0, other_reaches other h.1.1)
    named_reaches (action id place (blocks body)) h = groups_reach body h
    named_reaches (action id place (lets_memory name shape shape_places value)) h = tt
    named_reaches (action id place (views name parent form)) h = tt
    named_reaches (action id place (calls function arguments)) h = tt
    named_reaches (action id place (repeats test body)) h = tt
    named_reaches (action id place (counts iterator declared low high factor body combine combine_place)) h = tt

    other_reaches : (other : MaybeAction) → IsKeptOther known other → StoresReachOther other
    other_reaches no_action h = tt
    other_reaches (one_action a) h = named_reaches a h

    pub part_reaches : (part : Actions) → AreKeptActions known part → StoresReachPart part
    part_reaches no_actions h = tt
    part_reaches (action_then a rest) h = (named_reaches a h.0, part_reaches rest h.1)

    groups_reach : (body : Groups) → AreKeptGroups known body → StoresReachGroups body
    groups_reach no_groups h = tt
    groups_reach (group_then part rest) h = (part_reaches part h.0, groups_reach rest h.1)

  pub all_reach : (cs : List Located) → AllByRecursion (λ (c : Located). IsKeptAction known c.command) cs → AllByRecursion (λ (c : Located). StoresReach c.command) cs
  all_reach [] h = tt
  all_reach (c ∷ cs) h = (named_reaches c.command h.0, all_reach cs h.1)

-- A program without views breaks no rule on them.
use Rattle.std.proofs.Common.{◌≡◌, Bool, false, List, [], ◌++◌, Option, Some, None, refl, ap, sym, ◌∙◌}
use Rattle.dh_tree.specs.declared.breaches.Breach.{Breach}
use Rattle.dh_tree.specs.Indices.{IndexContext, index_context_of}
use Rattle.dh_tree.specs.Memories.{memories_of}
use Rattle.dh_tree.specs.PlainTrees.{Term, term, TermForm, number, truth_value, named, accessed, in_bank, applied, converted, Terms, no_terms, term_then, Action, action, ActionForm, lets, lets_memory, views, assigns, stores, reduces, calls, blocks, decides, repeats, counts, MaybeAction, no_action, one_action, Actions, no_actions, action_then, Groups, no_groups, group_then, Program}
use Rattle.dh_tree.specs.ViewBreaches.{KnownViews, known_views, kept_behind, term_view_breaches, form_view_breaches, terms_view_breaches, maybe_view_breaches, action_view_breaches, action_form_view_breaches, other_view_breaches, groups_view_breaches, part_view_breaches, view_breaches_of}
use Rattle.dh_tree.specs.ViewFactors.{factor_breaches_of, viewings_breaches}
use Rattle.dh_tree.specs.Views.{form_viewings, groups_viewings, other_viewings, part_viewings, viewed_behind, viewings, views_of}
use Rattle.dh_viewing.specs.Judged.{is_any}
use Rattle.dh_viewing.proofs.DeclaredViews.{none_declared}
use Rattle.dh_viewing.proofs.KeptViews.{first_none, second_none}

both_none : {A : Type 0} (xs ys : List A) → xs ≡ [] → ys ≡ [] → xs ++ ys ≡ []
both_none xs ys e f = ap (λ l. l ++ ys) e ∙ f

-- No access through one.

module _ (names : IndexContext) where
  abbrev pub none_known : KnownViews
  none_known = record { names = names; views = []; kept = [] }

  mutual
    term_keeps : (t : Term) → term_view_breaches none_known t ≡ []
    term_keeps (term place kind form) = form_keeps form

    form_keeps : (f : TermForm) → form_view_breaches none_known f ≡ []
    form_keeps (number negative n) = refl
    form_keeps (truth_value value) = refl
    form_keeps (named r) = refl
    form_keeps (accessed r indices) = terms_keep indices
    form_keeps (in_bank r bank bank_place row) = term_keeps row
    form_keeps (applied o left right) = both_none (term_view_breaches none_known left) (term_view_breaches none_known right) (term_keeps left) (term_keeps right)
    form_keeps (converted inner to) = term_keeps inner

    terms_keep : (ts : Terms) → terms_view_breaches none_known ts ≡ []
    terms_keep no_terms = refl
    terms_keep (term_then t rest) = both_none (term_view_breaches none_known t) (terms_view_breaches none_known rest) (term_keeps t) (terms_keep rest)

  maybe_keeps : (o : Option Term) → maybe_view_breaches none_known o ≡ []
  maybe_keeps None = refl
  maybe_keeps (Some t) = term_keeps t

  mutual
    action_keeps : (a : Action) → viewings a ≡ [] → action_view_breaches none_known a ≡ []
    action_keeps (action id place form) e = command_keeps form e

    command_keeps : (f : ActionForm) → form_viewings f ≡ [] → action_form_view_breaches none_known f ≡ []
    command_keeps (views name parent form) e = cc
    command_keeps (lets name declared value) e = maybe_keeps value
    command_keeps (lets_memory name shape shape_places value) e = maybe_keeps value
    command_keeps (assigns target value) e = term_keeps value
    command_keeps (stores target value) e = both_none (term_view_breaches none_known target) (term_view_breaches none_known value) (term_keeps target) (term_keeps value)
    command_keeps (reduces target op value) e = term_keeps value
    command_keeps (calls function arguments) e = refl
    command_keeps (blocks body) e = groups_keep body e
    command_keeps (decides test chosen other) e =
        both_none (term_view_breaches none_known test) (action_view_breaches none_known chosen ++ other_view_breaches none_known other) (term_keeps test)
        (both_none (action_view_breaches none_known chosen) (other_view_breaches none_known other) (action_keeps chosen (first_none (viewings chosen) (other_viewings other) e))
        (other_keeps other (second_none (viewings chosen) (other_viewings other) e)))
    command_keeps (repeats test body) e = both_none (term_view_breaches none_known test) (action_view_breaches none_known body) (term_keeps test) (action_keeps body e)
    command_keeps (counts iterator declared low high factor body combine combine_place) e =
        both_none (action_view_breaches none_known body) (other_view_breaches none_known combine) (action_keeps body (first_none (viewings body) (other_viewings combine) e))
        (other_keeps combine (second_none (viewings body) (other_viewings combine) e))

    other_keeps : (m : MaybeAction) → other_viewings m ≡ [] → other_view_breaches none_known m ≡ []
    other_keeps no_action e = refl
    other_keeps (one_action a) e = action_keeps a e

    groups_keep : (gs : Groups) → groups_viewings gs ≡ [] → groups_view_breaches none_known gs ≡ []
    groups_keep no_groups e = refl
    groups_keep (group_then part rest) e =
        both_none (part_view_breaches none_known part) (groups_view_breaches none_known rest) (part_keeps part (first_none (part_viewings part) (groups_viewings rest) e))
        (groups_keep rest (second_none (part_viewings part) (groups_viewings rest) e))

    part_keeps : (part : Actions) → part_viewings part ≡ [] → part_view_breaches none_known part ≡ []
    part_keeps no_actions e = refl
    part_keeps (action_then a rest) e =
        both_none (action_view_breaches none_known a) (part_view_breaches none_known rest) (action_keeps a (first_none (viewings a) (part_viewings rest) e)) (part_keeps rest (second_none (viewings a) (part_viewings rest) e))

-- Programs.

pub without_views : (p : Program) → views_of p ≡ [] → view_breaches_of p ≡ []
without_views p e =
    both_none (factor_breaches_of p) (action_view_breaches (known_views p) p.body) (ap (λ vs. viewings_breaches (memories_of p) [] vs) e)
    (ap (λ vs. action_view_breaches (record { names = index_context_of p; views = viewed_behind (memories_of p) [] vs; kept = kept_behind (memories_of p) [] vs }) p.body) e ∙ action_keeps (index_context_of p) p.body e)

-- so nothing is told of one that is found to declare none
pub nothing_judged : (p : Program) (declares : Bool) (kept : Option Breach) → declares ≡ is_any (views_of p) → declares ≡ false → (views_of p ≡ []) × ((view_breaches_of p ≡ []) × (kept ≡ kept))
nothing_judged p declares kept told e =
    let none : views_of p ≡ [] = none_declared (views_of p) (sym told ∙ e) in
    (none, (without_views p none, refl))

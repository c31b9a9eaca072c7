-- The names of a program that is ready: each that it uses as a variable stands for something, since every name has the
-- entity that it stands for where it stands (the tree is resolved) and is visible there (no rule on names is broken);
-- a name that is declared has the next number. By one walk over the body, with the names that are visible at each command.
use Rattle.std.proofs.Common.{◌≡◌, ℕ, if◌then◌else◌, List, [], ◌∷◌, length, Option, Some, None, refl, sym, ◌∙◌, ap}
use Rattle.std.specs.Option.{is_some, option_map}
use Rattle.dh_tree.specs.declared.breaches.Breach.{Breach}
use Rattle.dh_tree.specs.declared.trees.expressions.Ref.{Ref}
use Rattle.dh_base.specs.declared.rules.Rule.TheVariants.{UnknownName}
use Rattle.dh_tree.specs.declared.trees.programs.Sort.TheVariants.{Iterator}
use Rattle.dh_tree.specs.Breaches.{unknown, twice, plan_name_breaches, term_breaches, term_form_breaches, terms_breaches, maybe_value_breaches, breaches, form_breaches, other_breaches, actions_breaches, groups_breaches, functions_breaches, items_breaches}
use Rattle.dh_tree.specs.LeastBreach.{breach}
use Rattle.dh_tree.specs.PlainTrees.{Term, term, TermForm, number, truth_value, named, accessed, in_bank, applied, converted, Terms, no_terms, term_then, Action, action, ActionForm, lets, lets_memory, views, assigns, stores, reduces, calls, blocks, decides, repeats, counts, MaybeAction, no_action, one_action, Actions, no_actions, action_then, Groups, no_groups, group_then, Program}
use Rattle.dh_tree.specs.Ready.{IsReady}
use Rattle.dh_tree.specs.Seen.{terms}
use Rattle.dh_tree.specs.ViewOffsets.{offsets_of}
use Rattle.dh_tree.specs.Resolved.{resolved_plan, resolved_term, resolved_term_form, resolved_terms, resolved_action, resolved_form, resolved_other, resolved_actions, resolved_groups}
use Rattle.dh_tree.specs.Scopes.{ScopeEntry, entity_of, Scope, declare, leave, past, at_end, actions_at_end, first_scope, body_scope, items_of}
use Rattle.dh_tree.proofs.EmptyLists.{first_none, second_none}
use Rattle.dh_sound.proofs.Offsets.{offsets_named, offsets_visible}
use Rattle.dh_tree.specs.Targets.{IsAccess, HasTargets, FormHasTargets, OtherHasTargets, GroupsHaveTargets, PartHasTargets}
use Rattle.dh_sound.specs.Straight.{StandsForSome, IsNamedTerm, IsNamedTermForm, AreNamedTerms, MaybeNamed, IsTarget, IsNamedAction, IsNamedForm, IsNamedOther, AreNamedGroups, AreNamedActions}

-- what is visible has a number
numbered_where : (o : Option ℕ) (b : Breach) → (if is_some o then [] else b ∷ []) ≡ [] → (e : ℕ) × (o ≡ Some e)
numbered_where None b h = cc
numbered_where (Some n) b h = (n, refl)

-- a name that is used stands for something where it is visible
pub used_stands : (bs : List ScopeEntry) (r : Ref) → entity_of bs r.name ≡ r.entity → unknown bs r ≡ [] → StandsForSome r
used_stands bs r e h = let w = numbered_where (entity_of bs r.name) (breach UnknownName r.place) h in (w.0, sym e ∙ w.1)

-- a name that is declared has the next number
declared_stands : (s : Scope) (r : Ref) → Some (length s.entities) ≡ r.entity → StandsForSome r
declared_stands s r e = (length s.entities, sym e)

module _ (bs : List ScopeEntry) where
  mutual
    named_term : (t : Term) → resolved_term bs t ≡ t → term_breaches bs t ≡ [] → IsNamedTerm t
    named_term (term place k f) e h = let same : resolved_term_form bs f ≡ f = cc in named_form f same h

    named_form : (f : TermForm) → resolved_term_form bs f ≡ f → term_form_breaches bs f ≡ [] → IsNamedTermForm f
    named_form (number negative x) e h = tt
    named_form (truth_value x) e h = tt
    named_form (named r) e h = let same : entity_of bs r.name ≡ r.entity = cc in used_stands bs r same h
    named_form (accessed r ts) e h = let same : resolved_terms bs ts ≡ ts = cc in named_terms ts same (second_none (unknown bs r) _ h)
    named_form (in_bank r bank at t) e h = let same : resolved_term bs t ≡ t = cc in named_term t same (second_none (unknown bs r) _ h)
    named_form (applied o l r) e h =
        let first : resolved_term bs l ≡ l = cc in
        let second : resolved_term bs r ≡ r = cc in
        (named_term l first (first_none (term_breaches bs l) _ h), named_term r second (second_none (term_breaches bs l) _ h))
    named_form (converted t to) e h = let same : resolved_term bs t ≡ t = cc in named_term t same h

    named_terms : (ts : Terms) → resolved_terms bs ts ≡ ts → terms_breaches bs ts ≡ [] → AreNamedTerms ts
    named_terms no_terms e h = tt
    named_terms (term_then t ts) e h =
        let first : resolved_term bs t ≡ t = cc in
        let second : resolved_terms bs ts ≡ ts = cc in
        (named_term t first (first_none (term_breaches bs t) _ h), named_terms ts second (second_none (term_breaches bs t) _ h))

  named_value : (v : Option Term) → option_map (resolved_term bs) v ≡ v → maybe_value_breaches bs v ≡ [] → MaybeNamed v
  named_value None e h = tt
  named_value (Some t) e h = let same : resolved_term bs t ≡ t = cc in named_term t same h

  named_target : (t : Term) → IsAccess t → resolved_term bs t ≡ t → term_breaches bs t ≡ [] → IsTarget t
  named_target (term place k (accessed r ts)) a e h =
      let same : resolved_terms bs ts ≡ ts = cc in
      named_terms ts same (second_none (unknown bs r) _ h)
  named_target (term place k (in_bank r bank at t)) a e h =
      let same : resolved_term bs t ≡ t = cc in
      named_term t same (second_none (unknown bs r) _ h)
  named_target (term place k (number negative x)) a e h = a
  named_target (term place k (truth_value x)) a e h = a
  named_target (term place k (named r)) a e h = a
  named_target (term place k (applied o l r)) a e h = a
  named_target (term place k (converted t to)) a e h = a

mutual
  pub named_action : (a : Action) (s : Scope) → resolved_action s a ≡ a → breaches s a ≡ [] → HasTargets a → IsNamedAction a
  named_action (action id place f) s e h t = let same : resolved_form s f ≡ f = cc in named_command f s same h t

  named_command : (f : ActionForm) (s : Scope) → resolved_form s f ≡ f → form_breaches s f ≡ [] → FormHasTargets f → IsNamedForm f
  named_command (lets name declared value) s e h t =
      let own : Some (length s.entities) ≡ name.entity = cc in
      let right : option_map (resolved_term s.visible) value ≡ value = cc in
      (declared_stands s name own, named_value s.visible value right (first_none (maybe_value_breaches s.visible value) _ h))
  named_command (lets_memory name shape shape_places value) s e h t = tt
  named_command (views name parent form) s e h t =
      let plan : resolved_plan s.visible form ≡ form = cc in
      named_terms s.visible (terms (offsets_of form)) (offsets_named s.visible form plan) (offsets_visible s.visible form ∙ first_none (plan_name_breaches s.visible form) _ (second_none (unknown s.visible parent) _ h))
  named_command (assigns target value) s e h t =
      let left : entity_of s.visible target.name ≡ target.entity = cc in
      let right : resolved_term s.visible value ≡ value = cc in
      (used_stands s.visible target left (first_none (unknown s.visible target) _ h), named_term s.visible value right (second_none (unknown s.visible target) _ h))
  named_command (stores target value) s e h t =
      let left : resolved_term s.visible target ≡ target = cc in
      let right : resolved_term s.visible value ≡ value = cc in
      (named_target s.visible target t left (first_none (term_breaches s.visible target) _ h), named_term s.visible value right (second_none (term_breaches s.visible target) _ h))
  named_command (reduces target op value) s e h t =
      let left : entity_of s.visible target.name ≡ target.entity = cc in
      let right : resolved_term s.visible value ≡ value = cc in
      (used_stands s.visible target left (first_none (unknown s.visible target) _ h), named_term s.visible value right (second_none (unknown s.visible target) _ h))
  named_command (calls function arguments) s e h t = tt
  named_command (blocks body) s e h t = named_groups body s (let f = e in cc) h t
  named_command (decides test chosen other) s e h t =
      let inner : Scope = leave s (at_end s chosen) in
      let same : resolved_term s.visible test ≡ test = cc in
      let first : resolved_action s chosen ≡ chosen = cc in
      let second : resolved_other inner other ≡ other = cc in
      let behind = second_none (term_breaches s.visible test) _ h in (
        named_term s.visible test same (first_none (term_breaches s.visible test) _ h),
        (named_action chosen s first (first_none (breaches s chosen) _ behind) t.0, named_other other inner second (second_none (breaches s chosen) _ behind) t.1),
      )
  named_command (repeats test body) s e h t =
      let same : resolved_term s.visible test ≡ test = cc in
      let inside : resolved_action s body ≡ body = cc in
      (named_term s.visible test same (first_none (term_breaches s.visible test) _ h), named_action body s inside (second_none (term_breaches s.visible test) _ h) t)
  named_command (counts iterator declared low high factor body combine combine_place) s e h t =
      let inner : Scope = declare s iterator Iterator in
      let own : Some (length s.entities) ≡ iterator.entity = cc in
      let first : resolved_action inner body ≡ body = cc in
      let second : resolved_other (at_end inner body) combine ≡ combine = cc in
      let behind = second_none (twice s.visible iterator) _ h in (
        declared_stands s iterator own,
        (named_action body inner first (first_none (breaches inner body) _ behind) t.0, named_other combine (at_end inner body) second (second_none (breaches inner body) _ behind) t.1),
      )

  named_other : (m : MaybeAction) (s : Scope) → resolved_other s m ≡ m → other_breaches s m ≡ [] → OtherHasTargets m → IsNamedOther m
  named_other no_action s e h t = tt
  named_other (one_action a) s e h t = let same : resolved_action s a ≡ a = cc in named_action a s same h t

  named_groups : (gs : Groups) (s : Scope) → resolved_groups s gs ≡ gs → groups_breaches s gs ≡ [] → GroupsHaveTargets gs → AreNamedGroups gs
  named_groups no_groups s e h t = tt
  named_groups (group_then g rest) s e h t =
      let after : Scope = actions_at_end s g in
      let first : resolved_actions s g ≡ g = cc in
      let second : resolved_groups after rest ≡ rest = cc in (
        named_part g s first (first_none (actions_breaches s g) _ h) t.0,
        named_groups rest after second (second_none (actions_breaches s g) _ h) t.1,
      )

  named_part : (part : Actions) (s : Scope) → resolved_actions s part ≡ part → actions_breaches s part ≡ [] → PartHasTargets part → AreNamedActions part
  named_part no_actions s e h t = tt
  named_part (action_then a rest) s e h t =
      let after : Scope = past s a (at_end s a) in
      let first : resolved_action s a ≡ a = cc in
      let second : resolved_actions after rest ≡ rest = cc in
      (named_action a s first (first_none (breaches s a) _ h) t.0, named_part rest after second (second_none (breaches s a) _ h) t.1)

-- the names of a ready program
pub ready_named : (p : Program) → IsReady p → IsNamedAction p.body
ready_named p r =
    named_action p.body (body_scope p) (ap (λ (x : Program). x.body) r.entities)
    (second_none (functions_breaches (length p.decls) (first_scope p) p.functions) _ (second_none (items_breaches [] (items_of p)) _ r.names)) r.of_text.targets

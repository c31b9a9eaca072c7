-- Filling in the kinds of a program changes no name and no place: the same names are visible, the same
-- entities are numbered, and the same breaches of the rules on names are found. By recursion over the tree.
use Rattle.std.proofs.Common.{◌≡◌, ℕ, ◌+◌, List, [], ◌∷◌, ◌++◌, length, map, Option, Some, None, refl, ap, ◌∙◌}
use Rattle.dh_value.specs.declared.kinds.Kind.{Kind}
use Rattle.dh_tree.specs.declared.breaches.Breach.{Breach}
use Rattle.dh_tree.specs.declared.trees.programs.Sort.TheVariants.{Iterator, Memory, Function}
use Rattle.dh_tree.specs.Breaches.{unknown, twice, term_breaches, term_form_breaches, terms_breaches, list_breaches, offsets_breaches, plan_name_breaches, maybe_value_breaches, breaches, form_breaches, other_breaches, actions_breaches, groups_breaches, formals_breaches, function_breaches, functions_breaches, items_breaches, breaches_of, KeepsNames}
use Rattle.dh_tree.specs.Kinds.{Facts, fact_of, of_iterator, for_numbers, found, iterator_kind, target_kind, parameters_of, is_bare, left_want, right_want, typed_term, typed_form, typed_terms, typed_maybe, typed_offset, typed_plan, typed_arguments, facts_after, facts_after_actions, facts_after_function, formal_facts, first_facts, typed_action, typed_action_form, typed_other, typed_actions, typed_groups, typed_function, typed_functions, typed}
use Rattle.dh_tree.specs.PlainTrees.{Term, term, TermForm, number, truth_value, named, accessed, in_bank, applied, converted, Terms, no_terms, term_then, Suffixed, ViewPlan, shrinks, splits, suffixes, shifts, Action, action, ActionForm, lets, lets_memory, views, assigns, stores, reduces, calls, blocks, decides, repeats, counts, MaybeAction, no_action, one_action, Actions, no_actions, action_then, Groups, no_groups, group_then, Defined, Program}
use Rattle.dh_tree.specs.Scopes.{ScopeEntry, Scope, declare, leave, past, at_end, form_at_end, other_at_end, actions_at_end, groups_at_end, body_start, after_function, after_functions, memory_items, function_items, merged, items_of, after_items, entity, first_scope, body_scope}
use Rattle.dh_tree.proofs.TypedForms.{start_of}

-- two equal parts of a list of breaches
both : (a a' b b' : List Breach) → a ≡ a' → b ≡ b' → a ++ b ≡ a' ++ b'
both a a' b b' p q = ap (λ x. x ++ b) p ∙ ap (λ y. a' ++ y) q

module _ (bs : List ScopeEntry) (facts : Facts) where
  mutual
    term_alike : (want : Option Kind) (t : Term) → term_breaches bs (typed_term facts want t) ≡ term_breaches bs t
    term_alike want (term place kind form) = term_form_alike want form

    term_form_alike : (want : Option Kind) (f : TermForm) → term_form_breaches bs (typed_form facts want f) ≡ term_form_breaches bs f
    term_form_alike want (number negative value) = refl
    term_form_alike want (truth_value value) = refl
    term_form_alike want (named r) = refl
    term_form_alike want (accessed r indices) = ap (λ l. unknown bs r ++ l) (terms_alike indices)
    term_form_alike want (in_bank r bank bank_place row) = ap (λ l. unknown bs r ++ l) (term_alike None row)
    term_form_alike want (applied o left right) =
        let l : Option Kind = left_want o want (is_bare left) (is_bare right) (found (typed_term facts None right)) in
        let r : Option Kind = right_want o want (is_bare left) (is_bare right) (found (typed_term facts None left)) in
        both _ (term_breaches bs left) _ (term_breaches bs right) (term_alike l left) (term_alike r right)
    term_form_alike want (converted inner to) = term_alike (for_numbers (Some to)) inner

    terms_alike : (ts : Terms) → terms_breaches bs (typed_terms facts ts) ≡ terms_breaches bs ts
    terms_alike no_terms = refl
    terms_alike (term_then t rest) = both _ (term_breaches bs t) _ (terms_breaches bs rest) (term_alike None t) (terms_alike rest)

  listed_alike : (ts : List Term) → list_breaches bs (map (typed_term facts None) ts) ≡ list_breaches bs ts
  listed_alike [] = refl
  listed_alike (t ∷ ts) = both _ (term_breaches bs t) _ (list_breaches bs ts) (term_alike None t) (listed_alike ts)

  arguments_alike : (ks : List Kind) (ts : List Term) → list_breaches bs (typed_arguments facts ks ts) ≡ list_breaches bs ts
  arguments_alike [] [] = refl
  arguments_alike (k ∷ ks) [] = refl
  arguments_alike [] (t ∷ ts) = both _ (term_breaches bs t) _ (list_breaches bs ts) (term_alike None t) (arguments_alike [] ts)
  arguments_alike (k ∷ ks) (t ∷ ts) = both _ (term_breaches bs t) _ (list_breaches bs ts) (term_alike (for_numbers (Some k)) t) (arguments_alike ks ts)

  offsets_alike : (ss : List Suffixed) → offsets_breaches bs (map (typed_offset facts) ss) ≡ offsets_breaches bs ss
  offsets_alike [] = refl
  offsets_alike (s ∷ ss) = both _ (term_breaches bs s.offset) _ (offsets_breaches bs ss) (term_alike None s.offset) (offsets_alike ss)

  plan_alike : (v : ViewPlan) → plan_name_breaches bs (typed_plan facts v) ≡ plan_name_breaches bs v
  plan_alike (shrinks by_ by_place) = refl
  plan_alike (splits by_ by_place) = refl
  plan_alike (suffixes by_ by_place) = offsets_alike by_
  plan_alike (shifts by_) = listed_alike by_

  value_alike : (want : Option Kind) (v : Option Term) → maybe_value_breaches bs (typed_maybe facts want v) ≡ maybe_value_breaches bs v
  value_alike want None = refl
  value_alike want (Some t) = term_alike (for_numbers want) t

past_kept : (s : Scope) (facts : Facts) (a : Action) (t : Scope) → past s (typed_action facts a) t ≡ past s a t
past_kept s facts (action id place (blocks body)) t = refl
past_kept s facts (action id place (lets name declared value)) t = refl
past_kept s facts (action id place (lets_memory name shape shape_places value)) t = refl
past_kept s facts (action id place (views name parent form)) t = refl
past_kept s facts (action id place (assigns target value)) t = refl
past_kept s facts (action id place (stores target value)) t = refl
past_kept s facts (action id place (reduces target o value)) t = refl
past_kept s facts (action id place (calls function arguments)) t = refl
past_kept s facts (action id place (decides test chosen other)) t = refl
past_kept s facts (action id place (repeats test body)) t = refl
past_kept s facts (action id place (counts iterator declared low high factor body combine combine_place)) t = refl

-- the points at the ends of commands
mutual
  pub end_kept : (s : Scope) (facts : Facts) (a : Action) → at_end s (typed_action facts a) ≡ at_end s a
  end_kept s facts (action id place form) = form_end_kept s facts form

  form_end_kept : (s : Scope) (facts : Facts) (f : ActionForm) → form_at_end s (typed_action_form facts f) ≡ form_at_end s f
  form_end_kept s facts (lets name declared value) = refl
  form_end_kept s facts (lets_memory name shape shape_places value) = refl
  form_end_kept s facts (views name parent form) = refl
  form_end_kept s facts (assigns target value) = refl
  form_end_kept s facts (stores target value) = refl
  form_end_kept s facts (reduces target o value) = refl
  form_end_kept s facts (calls function arguments) = refl
  form_end_kept s facts (blocks body) = groups_end_kept s facts body
  form_end_kept s facts (decides test chosen other) =
      let after : Facts = facts_after facts (typed_action facts chosen) in
      ap (λ x. leave s (other_at_end (leave s x) (typed_other after other))) (end_kept s facts chosen)
      ∙ ap (λ x. leave s x) (other_end_kept (leave s (at_end s chosen)) after other)
  form_end_kept s facts (repeats test body) = ap (λ x. leave s x) (end_kept s facts body)
  form_end_kept s facts (counts iterator declared low high factor body combine combine_place) =
      let d : Scope = declare s iterator Iterator in
      let inner : Facts = facts ++ of_iterator (iterator_kind declared) ∷ [] in
      let after : Facts = facts_after inner (typed_action inner body) in
      ap (λ x. leave s (other_at_end x (typed_other after combine))) (end_kept d inner body)
      ∙ ap (λ x. leave s x) (other_end_kept (at_end d body) after combine)

  other_end_kept : (s : Scope) (facts : Facts) (m : MaybeAction) → other_at_end s (typed_other facts m) ≡ other_at_end s m
  other_end_kept s facts no_action = refl
  other_end_kept s facts (one_action a) = end_kept s facts a

  pub actions_end_kept : (s : Scope) (facts : Facts) (l : Actions) → actions_at_end s (typed_actions facts l) ≡ actions_at_end s l
  actions_end_kept s facts no_actions = refl
  actions_end_kept s facts (action_then a rest) =
      let after : Facts = facts_after facts (typed_action facts a) in
      ap (λ x. actions_at_end x (typed_actions after rest)) (past_kept s facts a (at_end s (typed_action facts a)) ∙ ap (λ y. past s a y) (end_kept s facts a))
      ∙ actions_end_kept (past s a (at_end s a)) after rest

  groups_end_kept : (s : Scope) (facts : Facts) (g : Groups) → groups_at_end s (typed_groups facts g) ≡ groups_at_end s g
  groups_end_kept s facts no_groups = refl
  groups_end_kept s facts (group_then part rest) =
      let after : Facts = facts_after_actions facts (typed_actions facts part) in
      ap (λ x. groups_at_end x (typed_groups after rest)) (actions_end_kept s facts part) ∙ groups_end_kept (actions_at_end s part) after rest

pub next_kept : (s : Scope) (facts : Facts) (a : Action) → past s (typed_action facts a) (at_end s (typed_action facts a)) ≡ past s a (at_end s a)
next_kept s facts a = past_kept s facts a (at_end s (typed_action facts a)) ∙ ap (λ y. past s a y) (end_kept s facts a)

mutual
  action_alike : (s : Scope) (facts : Facts) (a : Action) → breaches s (typed_action facts a) ≡ breaches s a
  action_alike s facts (action id place form) = form_alike s facts form

  form_alike : (s : Scope) (facts : Facts) (f : ActionForm) → form_breaches s (typed_action_form facts f) ≡ form_breaches s f
  form_alike s facts (lets name declared value) = ap (λ l. l ++ twice s.visible name) (value_alike s.visible facts declared value)
  form_alike s facts (lets_memory name shape shape_places value) = ap (λ l. l ++ twice s.visible name) (value_alike s.visible facts (Some shape.kind) value)
  form_alike s facts (views name parent form) = ap (λ l. unknown s.visible parent ++ (l ++ twice s.visible name)) (plan_alike s.visible facts form)
  form_alike s facts (assigns target value) = ap (λ l. unknown s.visible target ++ l) (term_alike s.visible facts (for_numbers (target_kind (fact_of facts target))) value)
  form_alike s facts (stores target value) =
      let want : Option Kind = for_numbers (found (typed_term facts None target)) in
      both _ (term_breaches s.visible target) _ (term_breaches s.visible value) (term_alike s.visible facts None target) (term_alike s.visible facts want value)
  form_alike s facts (reduces target o value) = ap (λ l. unknown s.visible target ++ l) (term_alike s.visible facts (for_numbers (target_kind (fact_of facts target))) value)
  form_alike s facts (calls function arguments) =
      ap (λ l. unknown s.visible function ++ l) (arguments_alike s.visible facts (parameters_of (fact_of facts function)) arguments)
  form_alike s facts (blocks body) = groups_alike s facts body
  form_alike s facts (decides test chosen other) =
      let after : Facts = facts_after facts (typed_action facts chosen) in
      both _ (term_breaches s.visible test) _ (breaches s chosen ++ other_breaches (leave s (at_end s chosen)) other) (term_alike s.visible facts None test)
      (both _ (breaches s chosen) _ (other_breaches (leave s (at_end s chosen)) other) (action_alike s facts chosen)
      (ap (λ x. other_breaches (leave s x) (typed_other after other)) (end_kept s facts chosen) ∙ other_alike (leave s (at_end s chosen)) after other))
  form_alike s facts (repeats test body) =
      both _ (term_breaches s.visible test) _ (breaches s body) (term_alike s.visible facts None test) (action_alike s facts body)
  form_alike s facts (counts iterator declared low high factor body combine combine_place) =
      let d : Scope = declare s iterator Iterator in
      let inner : Facts = facts ++ of_iterator (iterator_kind declared) ∷ [] in
      let after : Facts = facts_after inner (typed_action inner body) in
      ap (λ l. twice s.visible iterator ++ l)
      (both _ (breaches d body) _ (other_breaches (at_end d body) combine) (action_alike d inner body)
      (ap (λ x. other_breaches x (typed_other after combine)) (end_kept d inner body) ∙ other_alike (at_end d body) after combine))

  other_alike : (s : Scope) (facts : Facts) (m : MaybeAction) → other_breaches s (typed_other facts m) ≡ other_breaches s m
  other_alike s facts no_action = refl
  other_alike s facts (one_action a) = action_alike s facts a

  actions_alike : (s : Scope) (facts : Facts) (l : Actions) → actions_breaches s (typed_actions facts l) ≡ actions_breaches s l
  actions_alike s facts no_actions = refl
  actions_alike s facts (action_then a rest) =
      let after : Facts = facts_after facts (typed_action facts a) in
      both _ (breaches s a) _ (actions_breaches (past s a (at_end s a)) rest) (action_alike s facts a)
      (ap (λ x. actions_breaches x (typed_actions after rest)) (next_kept s facts a) ∙ actions_alike (past s a (at_end s a)) after rest)

  groups_alike : (s : Scope) (facts : Facts) (g : Groups) → groups_breaches s (typed_groups facts g) ≡ groups_breaches s g
  groups_alike s facts no_groups = refl
  groups_alike s facts (group_then part rest) =
      let after : Facts = facts_after_actions facts (typed_actions facts part) in
      both _ (actions_breaches s part) _ (groups_breaches (actions_at_end s part) rest) (actions_alike s facts part)
      (ap (λ x. groups_breaches x (typed_groups after rest)) (actions_end_kept s facts part) ∙ groups_alike (actions_at_end s part) after rest)

pub function_end_kept : (n : ℕ) (s : Scope) (facts : Facts) (f : Defined) → after_function n s (typed_function facts f) ≡ after_function n s f
function_end_kept n s facts f =
    ap (λ x. record { visible = (after_function n s f).visible; entities = x.entities }) (end_kept (body_start s f) (facts ++ formal_facts f.parameters) f.body)

function_alike : (s : Scope) (facts : Facts) (f : Defined) → function_breaches s (typed_function facts f) ≡ function_breaches s f
function_alike s facts f = ap (λ l. formals_breaches s f.parameters ++ l) (action_alike (body_start s f) (facts ++ formal_facts f.parameters) f.body)

functions_end_kept : (n : ℕ) (s : Scope) (facts : Facts) (fs : List Defined) → after_functions n s (typed_functions facts fs) ≡ after_functions n s fs
functions_end_kept n s facts [] = refl
functions_end_kept n s facts (f ∷ fs) =
    let after : Facts = facts_after_function facts (typed_function facts f) in
    ap (λ x. after_functions (n + 1) x (typed_functions after fs)) (function_end_kept n s facts f) ∙ functions_end_kept (n + 1) (after_function n s f) after fs

functions_alike : (n : ℕ) (s : Scope) (facts : Facts) (fs : List Defined) → functions_breaches n s (typed_functions facts fs) ≡ functions_breaches n s fs
functions_alike n s facts [] = refl
functions_alike n s facts (f ∷ fs) =
    let after : Facts = facts_after_function facts (typed_function facts f) in
    both _ (function_breaches s f) _ (functions_breaches (n + 1) (after_function n s f) fs) (function_alike s facts f)
    (ap (λ x. functions_breaches (n + 1) x (typed_functions after fs)) (function_end_kept n s facts f) ∙ functions_alike (n + 1) (after_function n s f) after fs)

function_items_kept : (n : ℕ) (facts : Facts) (fs : List Defined) → function_items n (typed_functions facts fs) ≡ function_items n fs
function_items_kept n facts [] = refl
function_items_kept n facts (f ∷ fs) = ap (λ l. record { name = f.name; entity = n } ∷ l) (function_items_kept (n + 1) (facts_after_function facts (typed_function facts f)) fs)

function_entities_kept : (facts : Facts) (fs : List Defined) → map (λ f. entity f.name Function) (typed_functions facts fs) ≡ map (λ f. entity f.name Function) fs
function_entities_kept facts [] = refl
function_entities_kept facts (f ∷ fs) = ap (λ l. entity f.name Function ∷ l) (function_entities_kept (facts_after_function facts (typed_function facts f)) fs)

module _ (p : Program) where
  abbrev count : ℕ
  count = length p.decls

  pub first_kept : first_scope (typed p) ≡ first_scope p
  first_kept =
      ap (λ l. record { visible = []; entities = map (λ d. entity d.name Memory) p.decls ++ l }) (function_entities_kept (first_facts p) p.functions)

  items_kept : items_of (typed p) ≡ items_of p
  items_kept = ap (λ l. merged (memory_items 0 p.decls) l) (function_items_kept count (first_facts p) p.functions)

  last_kept : after_functions count (first_scope (typed p)) (typed p).functions ≡ after_functions count (first_scope p) p.functions
  last_kept = ap (λ s. after_functions count s (typed p).functions) first_kept ∙ functions_end_kept count (first_scope p) (first_facts p) p.functions

  pub body_kept : body_scope (typed p) ≡ body_scope p
  body_kept =
      ap (λ l. record { visible = after_items [] l; entities = (after_functions count (first_scope (typed p)) (typed p).functions).entities }) items_kept
      ∙ ap (λ s. record { visible = after_items [] (items_of p); entities = s.entities }) last_kept

  breaches_kept : breaches_of (typed p) ≡ breaches_of p
  breaches_kept =
      ap (λ l. items_breaches [] l ++ (functions_breaches count (first_scope (typed p)) (typed p).functions ++ breaches (body_scope (typed p)) (typed p).body)) items_kept
      ∙ (ap (λ l. items_breaches [] (items_of p) ++ (l ++ breaches (body_scope (typed p)) (typed p).body))
      (ap (λ s. functions_breaches count s (typed p).functions) first_kept ∙ functions_alike count (first_scope p) (first_facts p) p.functions)
      ∙ ap (λ l. items_breaches [] (items_of p) ++ (functions_breaches count (first_scope p) p.functions ++ l))
      (ap (λ s. breaches s (typed p).body) body_kept ∙ action_alike (body_scope p) (start_of p) p.body))

  -- names that break no rule go on to break none
  pub names_kept : KeepsNames p → KeepsNames (typed p)
  names_kept h = breaches_kept ∙ h

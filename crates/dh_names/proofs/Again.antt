-- Resolving a resolved tree changes nothing, and finds the same breaches.
use Rattle.std.proofs.Common.{◌≡◌, ℕ, ◌+◌, List, [], ◌∷◌, ◌++◌, map, Option, Some, None, option_map, refl, ap, ◌∙◌}
use Rattle.dh_tree.specs.declared.breaches.Breach.{Breach}
use Rattle.dh_tree.specs.declared.trees.programs.Sort.TheVariants.{Iterator}
use Rattle.dh_tree.specs.PlainTrees.{Term, term, TermForm, number, truth_value, named, accessed, in_bank, applied, converted, Terms, no_terms, term_then, Suffixed, ViewPlan, shrinks, splits, suffixes, shifts, Action, action, ActionForm, lets, lets_memory, views, assigns, stores, reduces, calls, blocks, decides, repeats, counts, MaybeAction, no_action, one_action, Actions, no_actions, action_then, Groups, no_groups, group_then, Formal, Defined}
use Rattle.dh_tree.specs.Scopes.{ScopeEntry, Scope, declare, leave, past, at_end, form_at_end, other_at_end, actions_at_end, groups_at_end, formal_sort, after_formals, body_start, after_function, after_functions}
use Rattle.dh_tree.specs.Breaches.{unknown, twice, term_breaches, term_form_breaches, terms_breaches, list_breaches, offsets_breaches, plan_name_breaches, maybe_value_breaches, breaches, form_breaches, other_breaches, actions_breaches, groups_breaches, formals_breaches, function_breaches, functions_breaches}
use Rattle.dh_tree.specs.Resolved.{used, declares, numbered, resolved_term, resolved_term_form, resolved_terms, resolved_offset, resolved_plan, resolved_action, resolved_form, resolved_other, resolved_actions, resolved_groups, resolved_formals, resolved_function, resolved_functions}

-- two equal parts of a list of breaches
both : (a a' b b' : List Breach) → a ≡ a' → b ≡ b' → a ++ b ≡ a' ++ b'
both a a' b b' p q = ap (λ x. x ++ b) p ∙ ap (λ y. a' ++ y) q

module _ (bs : List ScopeEntry) where
  mutual
    pub term_again : (t : Term) → resolved_term bs (resolved_term bs t) ≡ resolved_term bs t
    term_again (term place kind form) = ap (λ f. term place kind f) (term_form_again form)

    term_form_again : (f : TermForm) → resolved_term_form bs (resolved_term_form bs f) ≡ resolved_term_form bs f
    term_form_again (number negative value) = refl
    term_form_again (truth_value value) = refl
    term_form_again (named r) = refl
    term_form_again (accessed r indices) = ap (λ l. accessed (used bs r) l) (terms_again indices)
    term_form_again (in_bank r bank bank_place row) = ap (λ t. in_bank (used bs r) bank bank_place t) (term_again row)
    term_form_again (applied op left right) =
        ap (λ t. applied op t (resolved_term bs (resolved_term bs right))) (term_again left) ∙ ap (λ t. applied op (resolved_term bs left) t) (term_again right)
    term_form_again (converted inner to) = ap (λ t. converted t to) (term_again inner)

    terms_again : (ts : Terms) → resolved_terms bs (resolved_terms bs ts) ≡ resolved_terms bs ts
    terms_again no_terms = refl
    terms_again (term_then t rest) =
        ap (λ x. term_then x (resolved_terms bs (resolved_terms bs rest))) (term_again t) ∙ ap (λ l. term_then (resolved_term bs t) l) (terms_again rest)

  mutual
    pub term_alike : (t : Term) → term_breaches bs (resolved_term bs t) ≡ term_breaches bs t
    term_alike (term place kind form) = term_form_alike form

    term_form_alike : (f : TermForm) → term_form_breaches bs (resolved_term_form bs f) ≡ term_form_breaches bs f
    term_form_alike (number negative value) = refl
    term_form_alike (truth_value value) = refl
    term_form_alike (named r) = refl
    term_form_alike (accessed r indices) = ap (λ l. unknown bs r ++ l) (terms_alike indices)
    term_form_alike (in_bank r bank bank_place row) = ap (λ l. unknown bs r ++ l) (term_alike row)
    term_form_alike (applied op left right) = both _ (term_breaches bs left) _ (term_breaches bs right) (term_alike left) (term_alike right)
    term_form_alike (converted inner to) = term_alike inner

    terms_alike : (ts : Terms) → terms_breaches bs (resolved_terms bs ts) ≡ terms_breaches bs ts
    terms_alike no_terms = refl
    terms_alike (term_then t rest) = both _ (term_breaches bs t) _ (terms_breaches bs rest) (term_alike t) (terms_alike rest)

  list_again : (ts : List Term) → map (resolved_term bs) (map (resolved_term bs) ts) ≡ map (resolved_term bs) ts
  list_again [] = refl
  list_again (t ∷ ts) = ap (λ x. x ∷ map (resolved_term bs) (map (resolved_term bs) ts)) (term_again t) ∙ ap (λ l. resolved_term bs t ∷ l) (list_again ts)

  list_alike : (ts : List Term) → list_breaches bs (map (resolved_term bs) ts) ≡ list_breaches bs ts
  list_alike [] = refl
  list_alike (t ∷ ts) = both _ (term_breaches bs t) _ (list_breaches bs ts) (term_alike t) (list_alike ts)

  offsets_again : (xs : List Suffixed) → map (resolved_offset bs) (map (resolved_offset bs) xs) ≡ map (resolved_offset bs) xs
  offsets_again [] = refl
  offsets_again (x ∷ xs) =
      ap (λ t. record { factor = x.factor; offset = t } ∷ map (resolved_offset bs) (map (resolved_offset bs) xs)) (term_again x.offset) ∙ ap (λ l. resolved_offset bs x ∷ l) (offsets_again xs)

  offsets_alike : (xs : List Suffixed) → offsets_breaches bs (map (resolved_offset bs) xs) ≡ offsets_breaches bs xs
  offsets_alike [] = refl
  offsets_alike (x ∷ xs) = both _ (term_breaches bs x.offset) _ (offsets_breaches bs xs) (term_alike x.offset) (offsets_alike xs)

  plan_again : (f : ViewPlan) → resolved_plan bs (resolved_plan bs f) ≡ resolved_plan bs f
  plan_again (shrinks by by_place) = refl
  plan_again (splits by by_place) = refl
  plan_again (suffixes by by_place) = ap (λ l. suffixes l by_place) (offsets_again by)
  plan_again (shifts by) = ap (λ l. shifts l) (list_again by)

  plan_alike : (f : ViewPlan) → plan_name_breaches bs (resolved_plan bs f) ≡ plan_name_breaches bs f
  plan_alike (shrinks by by_place) = refl
  plan_alike (splits by by_place) = refl
  plan_alike (suffixes by by_place) = offsets_alike by
  plan_alike (shifts by) = list_alike by

  value_again : (v : Option Term) → option_map (resolved_term bs) (option_map (resolved_term bs) v) ≡ option_map (resolved_term bs) v
  value_again None = refl
  value_again (Some t) = ap (λ x. Some x) (term_again t)

  value_alike : (v : Option Term) → maybe_value_breaches bs (option_map (resolved_term bs) v) ≡ maybe_value_breaches bs v
  value_alike None = refl
  value_alike (Some t) = term_alike t

past_again : (s : Scope) (a : Action) (t : Scope) → past s (resolved_action s a) t ≡ past s a t
past_again s (action id place (blocks body)) t = refl
past_again s (action id place (lets name declared value)) t = refl
past_again s (action id place (lets_memory name shape shape_places value)) t = refl
past_again s (action id place (views name parent form)) t = refl
past_again s (action id place (assigns target value)) t = refl
past_again s (action id place (stores target value)) t = refl
past_again s (action id place (reduces target op value)) t = refl
past_again s (action id place (calls function arguments)) t = refl
past_again s (action id place (decides test chosen other)) t = refl
past_again s (action id place (repeats test body)) t = refl
past_again s (action id place (counts iterator declared low high factor body combine combine_place)) t = refl

mutual
  pub end_again : (s : Scope) (a : Action) → at_end s (resolved_action s a) ≡ at_end s a
  end_again s (action id place form) = form_end_again s form

  form_end_again : (s : Scope) (f : ActionForm) → form_at_end s (resolved_form s f) ≡ form_at_end s f
  form_end_again s (lets name declared value) = refl
  form_end_again s (lets_memory name shape shape_places value) = refl
  form_end_again s (views name parent form) = refl
  form_end_again s (assigns target value) = refl
  form_end_again s (stores target value) = refl
  form_end_again s (reduces target op value) = refl
  form_end_again s (calls function arguments) = refl
  form_end_again s (blocks body) = groups_end_again s body
  form_end_again s (decides test chosen other) =
      ap (λ x. leave s (other_at_end (leave s x) (resolved_other (leave s (at_end s chosen)) other))) (end_again s chosen)
      ∙ ap (λ x. leave s x) (other_end_again (leave s (at_end s chosen)) other)
  form_end_again s (repeats test body) = ap (λ x. leave s x) (end_again s body)
  form_end_again s (counts iterator declared low high factor body combine combine_place) =
      let d = declare s iterator Iterator in
      ap (λ x. leave s (other_at_end x (resolved_other (at_end d body) combine))) (end_again d body)
      ∙ ap (λ x. leave s x) (other_end_again (at_end d body) combine)

  other_end_again : (s : Scope) (o : MaybeAction) → other_at_end s (resolved_other s o) ≡ other_at_end s o
  other_end_again s no_action = refl
  other_end_again s (one_action a) = end_again s a

  actions_end_again : (s : Scope) (l : Actions) → actions_at_end s (resolved_actions s l) ≡ actions_at_end s l
  actions_end_again s no_actions = refl
  actions_end_again s (action_then a rest) =
      ap (λ x. actions_at_end x (resolved_actions (past s a (at_end s a)) rest)) (past_again s a (at_end s (resolved_action s a)) ∙ ap (λ y. past s a y) (end_again s a))
      ∙ actions_end_again (past s a (at_end s a)) rest

  groups_end_again : (s : Scope) (l : Groups) → groups_at_end s (resolved_groups s l) ≡ groups_at_end s l
  groups_end_again s no_groups = refl
  groups_end_again s (group_then g rest) =
      ap (λ x. groups_at_end x (resolved_groups (actions_at_end s g) rest)) (actions_end_again s g) ∙ groups_end_again (actions_at_end s g) rest

next_again : (s : Scope) (a : Action) → past s (resolved_action s a) (at_end s (resolved_action s a)) ≡ past s a (at_end s a)
next_again s a = past_again s a (at_end s (resolved_action s a)) ∙ ap (λ y. past s a y) (end_again s a)

mutual
  pub action_alike : (s : Scope) (a : Action) → breaches s (resolved_action s a) ≡ breaches s a
  action_alike s (action id place form) = form_alike s form

  form_alike : (s : Scope) (f : ActionForm) → form_breaches s (resolved_form s f) ≡ form_breaches s f
  form_alike s (lets name declared value) = ap (λ l. l ++ twice s.visible name) (value_alike s.visible value)
  form_alike s (lets_memory name shape shape_places value) = ap (λ l. l ++ twice s.visible name) (value_alike s.visible value)
  form_alike s (views name parent form) = ap (λ l. unknown s.visible parent ++ (l ++ twice s.visible name)) (plan_alike s.visible form)
  form_alike s (assigns target value) = ap (λ l. unknown s.visible target ++ l) (term_alike s.visible value)
  form_alike s (stores target value) = both _ (term_breaches s.visible target) _ (term_breaches s.visible value) (term_alike s.visible target) (term_alike s.visible value)
  form_alike s (reduces target op value) = ap (λ l. unknown s.visible target ++ l) (term_alike s.visible value)
  form_alike s (calls function arguments) = ap (λ l. unknown s.visible function ++ l) (list_alike s.visible arguments)
  form_alike s (blocks body) = groups_alike s body
  form_alike s (decides test chosen other) =
      both _ (term_breaches s.visible test) _ (breaches s chosen ++ other_breaches (leave s (at_end s chosen)) other) (term_alike s.visible test)
      (both _ (breaches s chosen) _ (other_breaches (leave s (at_end s chosen)) other) (action_alike s chosen)
      (ap (λ x. other_breaches (leave s x) (resolved_other (leave s (at_end s chosen)) other)) (end_again s chosen) ∙ other_alike (leave s (at_end s chosen)) other))
  form_alike s (repeats test body) = both _ (term_breaches s.visible test) _ (breaches s body) (term_alike s.visible test) (action_alike s body)
  form_alike s (counts iterator declared low high factor body combine combine_place) =
      let d = declare s iterator Iterator in
      ap (λ l. twice s.visible iterator ++ l)
      (both _ (breaches d body) _ (other_breaches (at_end d body) combine) (action_alike d body)
      (ap (λ x. other_breaches x (resolved_other (at_end d body) combine)) (end_again d body) ∙ other_alike (at_end d body) combine))

  other_alike : (s : Scope) (o : MaybeAction) → other_breaches s (resolved_other s o) ≡ other_breaches s o
  other_alike s no_action = refl
  other_alike s (one_action a) = action_alike s a

  actions_alike : (s : Scope) (l : Actions) → actions_breaches s (resolved_actions s l) ≡ actions_breaches s l
  actions_alike s no_actions = refl
  actions_alike s (action_then a rest) =
      both _ (breaches s a) _ (actions_breaches (past s a (at_end s a)) rest) (action_alike s a)
      (ap (λ x. actions_breaches x (resolved_actions (past s a (at_end s a)) rest)) (next_again s a) ∙ actions_alike (past s a (at_end s a)) rest)

  groups_alike : (s : Scope) (l : Groups) → groups_breaches s (resolved_groups s l) ≡ groups_breaches s l
  groups_alike s no_groups = refl
  groups_alike s (group_then g rest) =
      both _ (actions_breaches s g) _ (groups_breaches (actions_at_end s g) rest) (actions_alike s g)
      (ap (λ x. groups_breaches x (resolved_groups (actions_at_end s g) rest)) (actions_end_again s g) ∙ groups_alike (actions_at_end s g) rest)

mutual
  pub action_again : (s : Scope) (a : Action) → resolved_action s (resolved_action s a) ≡ resolved_action s a
  action_again s (action id place form) = ap (λ f. action id place f) (form_again s form)

  form_again : (s : Scope) (f : ActionForm) → resolved_form s (resolved_form s f) ≡ resolved_form s f
  form_again s (lets name declared value) = ap (λ v. lets (declares s name) declared v) (value_again s.visible value)
  form_again s (lets_memory name shape shape_places value) = ap (λ v. lets_memory (declares s name) shape shape_places v) (value_again s.visible value)
  form_again s (views name parent form) = ap (λ f. views (declares s name) (used s.visible parent) f) (plan_again s.visible form)
  form_again s (assigns target value) = ap (λ t. assigns (used s.visible target) t) (term_again s.visible value)
  form_again s (stores target value) =
      ap (λ t. stores t (resolved_term s.visible (resolved_term s.visible value))) (term_again s.visible target) ∙ ap (λ t. stores (resolved_term s.visible target) t) (term_again s.visible value)
  form_again s (reduces target op value) = ap (λ t. reduces (used s.visible target) op t) (term_again s.visible value)
  form_again s (calls function arguments) = ap (λ l. calls (used s.visible function) l) (list_again s.visible arguments)
  form_again s (blocks body) = ap (λ g. blocks g) (groups_again s body)
  form_again s (decides test chosen other) =
      let o = resolved_other (leave s (at_end s chosen)) other in
      ap (λ t. decides t (resolved_action s (resolved_action s chosen)) (resolved_other (leave s (at_end s (resolved_action s chosen))) o)) (term_again s.visible test)
      ∙ ap (λ a. decides (resolved_term s.visible test) a (resolved_other (leave s (at_end s (resolved_action s chosen))) o)) (action_again s chosen)
      ∙ ap (λ x. decides (resolved_term s.visible test) (resolved_action s chosen) x)
      (ap (λ x. resolved_other (leave s x) o) (end_again s chosen) ∙ other_again (leave s (at_end s chosen)) other)
  form_again s (repeats test body) =
      ap (λ t. repeats t (resolved_action s (resolved_action s body))) (term_again s.visible test) ∙ ap (λ a. repeats (resolved_term s.visible test) a) (action_again s body)
  form_again s (counts iterator declared low high factor body combine combine_place) =
      let d = declare s iterator Iterator in
      let o = resolved_other (at_end d body) combine in
      ap (λ a. counts (declares s iterator) declared low high factor a (resolved_other (at_end d (resolved_action d body)) o) combine_place) (action_again d body)
      ∙ ap (λ x. counts (declares s iterator) declared low high factor (resolved_action d body) x combine_place)
      (ap (λ x. resolved_other x o) (end_again d body) ∙ other_again (at_end d body) combine)

  other_again : (s : Scope) (o : MaybeAction) → resolved_other s (resolved_other s o) ≡ resolved_other s o
  other_again s no_action = refl
  other_again s (one_action a) = ap (λ x. one_action x) (action_again s a)

  actions_again : (s : Scope) (l : Actions) → resolved_actions s (resolved_actions s l) ≡ resolved_actions s l
  actions_again s no_actions = refl
  actions_again s (action_then a rest) =
      let p = past s a (at_end s a) in
      ap (λ x. action_then x (resolved_actions (past s (resolved_action s a) (at_end s (resolved_action s a))) (resolved_actions p rest))) (action_again s a)
      ∙ ap (λ l. action_then (resolved_action s a) l) (ap (λ x. resolved_actions x (resolved_actions p rest)) (next_again s a) ∙ actions_again p rest)

  groups_again : (s : Scope) (l : Groups) → resolved_groups s (resolved_groups s l) ≡ resolved_groups s l
  groups_again s no_groups = refl
  groups_again s (group_then g rest) =
      let e = actions_at_end s g in
      ap (λ x. group_then x (resolved_groups (actions_at_end s (resolved_actions s g)) (resolved_groups e rest))) (actions_again s g)
      ∙ ap (λ l. group_then (resolved_actions s g) l) (ap (λ x. resolved_groups x (resolved_groups e rest)) (actions_end_again s g) ∙ groups_again e rest)

formals_end_again : (s : Scope) (fs : List Formal) → after_formals s (resolved_formals s fs) ≡ after_formals s fs
formals_end_again s [] = refl
formals_end_again s (f ∷ fs) = formals_end_again (declare s f.name (formal_sort f.shape)) fs

formals_alike : (s : Scope) (fs : List Formal) → formals_breaches s (resolved_formals s fs) ≡ formals_breaches s fs
formals_alike s [] = refl
formals_alike s (f ∷ fs) = ap (λ l. twice s.visible f.name ++ l) (formals_alike (declare s f.name (formal_sort f.shape)) fs)

formals_again : (s : Scope) (fs : List Formal) → resolved_formals s (resolved_formals s fs) ≡ resolved_formals s fs
formals_again s [] = refl
formals_again s (f ∷ fs) =
    ap (λ l. record { name = declares s f.name; shape = f.shape; shape_places = f.shape_places; kind = f.kind } ∷ l) (formals_again (declare s f.name (formal_sort f.shape)) fs)

start_again : (n : ℕ) (s : Scope) (f : Defined) → body_start s (resolved_function n s f) ≡ body_start s f
start_again n s f = formals_end_again s f.parameters

function_end_again : (n : ℕ) (s : Scope) (f : Defined) → after_function n s (resolved_function n s f) ≡ after_function n s f
function_end_again n s f =
    ap (λ x. record { visible = (after_function n s f).visible; entities = (at_end x (resolved_action (body_start s f) f.body)).entities }) (start_again n s f)
    ∙ ap (λ x. record { visible = (after_function n s f).visible; entities = x.entities }) (end_again (body_start s f) f.body)

function_alike : (n : ℕ) (s : Scope) (f : Defined) → function_breaches s (resolved_function n s f) ≡ function_breaches s f
function_alike n s f =
    both _ (formals_breaches s f.parameters) _ (breaches (body_start s f) f.body) (formals_alike s f.parameters)
    (ap (λ x. breaches x (resolved_action (body_start s f) f.body)) (start_again n s f) ∙ action_alike (body_start s f) f.body)

function_again : (n : ℕ) (s : Scope) (f : Defined) → resolved_function n s (resolved_function n s f) ≡ resolved_function n s f
function_again n s f =
    ap (λ l. record { place = f.place; name = numbered n f.name; parameters = l; body = resolved_action (body_start s (resolved_function n s f)) (resolved_action (body_start s f) f.body) }) (formals_again s f.parameters)
    ∙ ap (λ a. record { place = f.place; name = numbered n f.name; parameters = resolved_formals s f.parameters; body = a })
    (ap (λ x. resolved_action x (resolved_action (body_start s f) f.body)) (start_again n s f) ∙ action_again (body_start s f) f.body)

pub functions_end_again : (n : ℕ) (s : Scope) (fs : List Defined) → after_functions n s (resolved_functions n s fs) ≡ after_functions n s fs
functions_end_again n s [] = refl
functions_end_again n s (f ∷ fs) =
    ap (λ x. after_functions (n + 1) x (resolved_functions (n + 1) (after_function n s f) fs)) (function_end_again n s f) ∙ functions_end_again (n + 1) (after_function n s f) fs

pub functions_alike : (n : ℕ) (s : Scope) (fs : List Defined) → functions_breaches n s (resolved_functions n s fs) ≡ functions_breaches n s fs
functions_alike n s [] = refl
functions_alike n s (f ∷ fs) =
    both _ (function_breaches s f) _ (functions_breaches (n + 1) (after_function n s f) fs) (function_alike n s f)
    (ap (λ x. functions_breaches (n + 1) x (resolved_functions (n + 1) (after_function n s f) fs)) (function_end_again n s f) ∙ functions_alike (n + 1) (after_function n s f) fs)

pub functions_again : (n : ℕ) (s : Scope) (fs : List Defined) → resolved_functions n s (resolved_functions n s fs) ≡ resolved_functions n s fs
functions_again n s [] = refl
functions_again n s (f ∷ fs) =
    let rest = resolved_functions (n + 1) (after_function n s f) fs in
    ap (λ x. x ∷ resolved_functions (n + 1) (after_function n s (resolved_function n s f)) rest) (function_again n s f)
    ∙ ap (λ l. resolved_function n s f ∷ l) (ap (λ x. resolved_functions (n + 1) x rest) (function_end_again n s f) ∙ functions_again (n + 1) (after_function n s f) fs)

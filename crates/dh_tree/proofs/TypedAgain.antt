-- Filling in the kinds of a program that has them changes nothing. What the place of an operand asks for
-- looks at the kind of the other operand only where that one is not bare; then its own place asks for
-- nothing, and the kind stays. By recursion over the tree.
use Rattle.std.proofs.Common.{◌≡◌, ◌&&◌, Bool, true, false, if◌then◌else◌, List, [], ◌∷◌, ◌++◌, map, Option, Some, None, refl, ap, ◌∙◌}
use Rattle.dh_value.specs.declared.kinds.Kind.{Kind}
use Rattle.dh_value.specs.declared.kinds.Kind.TheVariants as kind
use Rattle.dh_value.specs.declared.operators.Op.{Op}
use Rattle.dh_tree.specs.PlainTrees.{Term, term, TermForm, number, truth_value, named, accessed, in_bank, applied, converted, Terms, no_terms, term_then, Suffixed, ViewPlan, shrinks, splits, suffixes, shifts, Action, action, ActionForm, lets, lets_memory, views, assigns, stores, reduces, calls, blocks, decides, repeats, counts, MaybeAction, no_action, one_action, Actions, no_actions, action_then, Groups, no_groups, group_then, Defined, Program}
use Rattle.dh_tree.specs.Kinds.{Facts, fact_of, of_iterator, is_shift, keeps_bare, is_bare, is_bare_form, for_numbers, found, left_want, right_want, form_found, typed_term, typed_form, typed_terms, typed_maybe, typed_offset, typed_plan, typed_arguments, parameters_of, target_kind, iterator_kind, facts_after, facts_after_actions, typed_action, typed_action_form, typed_other, typed_actions, typed_groups, declared_facts, function_fact, formal_facts, first_facts, typed_function, facts_after_function, facts_after_functions, typed_functions, typed, HasKinds}

module _ (facts : Facts) where
  -- an expression is as bare as it was
  mutual
    bare_kept : (want : Option Kind) (t : Term) → is_bare (typed_term facts want t) ≡ is_bare t
    bare_kept want (term place kind form) = bare_form_kept want form

    bare_form_kept : (want : Option Kind) (f : TermForm) → is_bare_form (typed_form facts want f) ≡ is_bare_form f
    bare_form_kept want (number negative n) = refl
    bare_form_kept want (truth_value value) = refl
    bare_form_kept want (named r) = refl
    bare_form_kept want (accessed r indices) = refl
    bare_form_kept want (in_bank r bank bank_place row) = refl
    bare_form_kept want (converted inner to) = refl
    bare_form_kept want (applied o left right) =
        let l : Option Kind = left_want o want (is_bare left) (is_bare right) (found (typed_term facts None right)) in
        let r : Option Kind = right_want o want (is_bare left) (is_bare right) (found (typed_term facts None left)) in
        ap (λ b. keeps_bare o && (b && is_bare (typed_term facts r right))) (bare_kept l left)
        ∙ ap (λ b. keeps_bare o && (is_bare left && b)) (bare_kept r right)

  -- what the place of the left operand asks for stays, where the right one is typed as its place asks
  left_again : (o : Op) (want : Option Kind) (bare_left bare_right : Bool) (left : Option Kind) (right : Term)
      → ((w : Option Kind) → typed_term facts w (typed_term facts w right) ≡ typed_term facts w right)
      → left_want o want bare_left bare_right (found (typed_term facts None (typed_term facts (right_want o want bare_left bare_right left) right)))
      ≡ left_want o want bare_left bare_right (found (typed_term facts None right))
  left_again o want false bare_right left right h = refl
  left_again o want true true left right h = refl
  left_again o want true false left right h = ap (λ t. if is_shift o then None else for_numbers (found t)) (h None)

  right_again : (o : Op) (want : Option Kind) (bare_left bare_right : Bool) (left : Term) (right : Option Kind)
      → ((w : Option Kind) → typed_term facts w (typed_term facts w left) ≡ typed_term facts w left)
      → right_want o want bare_left bare_right (found (typed_term facts None (typed_term facts (left_want o want bare_left bare_right right) left)))
      ≡ right_want o want bare_left bare_right (found (typed_term facts None left))
  right_again o want true false left right h = refl
  right_again o want false false left right h = refl
  right_again o want true true left right h = refl
  right_again o want false true left right h = ap (λ t. if is_shift o then Some (kind.Unsigned 32) else for_numbers (found t)) (h None)

  mutual
    term_again : (t : Term) (want : Option Kind) → typed_term facts want (typed_term facts want t) ≡ typed_term facts want t
    term_again (term place kind form) want = ap (λ f. term place (form_found facts want f) f) (form_again form want)

    form_again : (f : TermForm) (want : Option Kind) → typed_form facts want (typed_form facts want f) ≡ typed_form facts want f
    form_again (number negative n) want = refl
    form_again (truth_value value) want = refl
    form_again (named r) want = refl
    form_again (accessed r indices) want = ap (λ l. accessed r l) (terms_again indices)
    form_again (in_bank r bank bank_place row) want = ap (λ t. in_bank r bank bank_place t) (term_again row None)
    form_again (converted inner to) want = ap (λ t. converted t to) (term_again inner (for_numbers (Some to)))
    form_again (applied o left right) want =
        let bl : Bool = is_bare left in
        let br : Bool = is_bare right in
        let fl : Option Kind = found (typed_term facts None left) in
        let fr : Option Kind = found (typed_term facts None right) in
        let l : Option Kind = left_want o want bl br fr in
        let r : Option Kind = right_want o want bl br fl in
        let tl : Term = typed_term facts l left in
        let tr : Term = typed_term facts r right in
        let same_left : is_bare tl ≡ bl = bare_kept l left in
        let same_right : is_bare tr ≡ br = bare_kept r right in
        let asks_left : left_want o want (is_bare tl) (is_bare tr) (found (typed_term facts None tr)) ≡ l =
        ap (λ b. left_want o want b (is_bare tr) (found (typed_term facts None tr))) same_left
        ∙ (ap (λ b. left_want o want bl b (found (typed_term facts None tr))) same_right
        ∙ left_again o want bl br fl right (term_again right)) in
        let asks_right : right_want o want (is_bare tl) (is_bare tr) (found (typed_term facts None tl)) ≡ r =
        ap (λ b. right_want o want b (is_bare tr) (found (typed_term facts None tl))) same_left
        ∙ (ap (λ b. right_want o want bl b (found (typed_term facts None tl))) same_right
        ∙ right_again o want bl br left fr (term_again left)) in
        ap (λ w. applied o (typed_term facts w tl) (typed_term facts (right_want o want (is_bare tl) (is_bare tr) (found (typed_term facts None tl))) tr)) asks_left
        ∙ (ap (λ t. applied o t (typed_term facts (right_want o want (is_bare tl) (is_bare tr) (found (typed_term facts None tl))) tr)) (term_again left l)
        ∙ (ap (λ w. applied o tl (typed_term facts w tr)) asks_right
        ∙ ap (λ t. applied o tl t) (term_again right r)))

    terms_again : (ts : Terms) → typed_terms facts (typed_terms facts ts) ≡ typed_terms facts ts
    terms_again no_terms = refl
    terms_again (term_then t rest) =
        ap (λ x. term_then x (typed_terms facts (typed_terms facts rest))) (term_again t None) ∙ ap (λ l. term_then (typed_term facts None t) l) (terms_again rest)

  maybe_again : (want : Option Kind) (t : Option Term) → typed_maybe facts want (typed_maybe facts want t) ≡ typed_maybe facts want t
  maybe_again want None = refl
  maybe_again want (Some t) = ap (λ x. Some x) (term_again t (for_numbers want))

  listed_again : (ts : List Term) → map (typed_term facts None) (map (typed_term facts None) ts) ≡ map (typed_term facts None) ts
  listed_again [] = refl
  listed_again (t ∷ ts) =
      ap (λ x. x ∷ map (typed_term facts None) (map (typed_term facts None) ts)) (term_again t None) ∙ ap (λ l. typed_term facts None t ∷ l) (listed_again ts)

  offsets_again : (ss : List Suffixed) → map (typed_offset facts) (map (typed_offset facts) ss) ≡ map (typed_offset facts) ss
  offsets_again [] = refl
  offsets_again (s ∷ ss) =
      ap (λ t. record { factor = s.factor; offset = t } ∷ map (typed_offset facts) (map (typed_offset facts) ss)) (term_again s.offset None)
      ∙ ap (λ l. typed_offset facts s ∷ l) (offsets_again ss)

  plan_again : (v : ViewPlan) → typed_plan facts (typed_plan facts v) ≡ typed_plan facts v
  plan_again (shrinks by_ by_place) = refl
  plan_again (splits by_ by_place) = refl
  plan_again (suffixes by_ by_place) = ap (λ l. suffixes l by_place) (offsets_again by_)
  plan_again (shifts by_) = ap (λ l. shifts l) (listed_again by_)

  arguments_again : (ks : List Kind) (ts : List Term) → typed_arguments facts ks (typed_arguments facts ks ts) ≡ typed_arguments facts ks ts
  arguments_again [] [] = refl
  arguments_again (k ∷ ks) [] = refl
  arguments_again [] (t ∷ ts) =
      ap (λ x. x ∷ typed_arguments facts [] (typed_arguments facts [] ts)) (term_again t None) ∙ ap (λ l. typed_term facts None t ∷ l) (arguments_again [] ts)
  arguments_again (k ∷ ks) (t ∷ ts) =
      let want : Option Kind = for_numbers (Some k) in
      ap (λ x. x ∷ typed_arguments facts ks (typed_arguments facts ks ts)) (term_again t want) ∙ ap (λ l. typed_term facts want t ∷ l) (arguments_again ks ts)

mutual
  action_again : (facts : Facts) (a : Action) → typed_action facts (typed_action facts a) ≡ typed_action facts a
  action_again facts (action id place form) = ap (λ f. action id place f) (action_form_again facts form)

  action_form_again : (facts : Facts) (f : ActionForm) → typed_action_form facts (typed_action_form facts f) ≡ typed_action_form facts f
  action_form_again facts (lets name declared value) = ap (λ v. lets name declared v) (maybe_again facts declared value)
  action_form_again facts (lets_memory name shape shape_places value) = ap (λ v. lets_memory name shape shape_places v) (maybe_again facts (Some shape.kind) value)
  action_form_again facts (views name parent form) = ap (λ v. views name parent v) (plan_again facts form)
  action_form_again facts (assigns target value) = ap (λ t. assigns target t) (term_again facts value (for_numbers (target_kind (fact_of facts target))))
  action_form_again facts (stores target value) =
      let there : Term = typed_term facts None target in
      let want : Option Kind = for_numbers (found there) in
      ap (λ t. stores t (typed_term facts (for_numbers (found t)) (typed_term facts want value))) (term_again facts target None)
      ∙ ap (λ t. stores there t) (term_again facts value want)
  action_form_again facts (reduces target o value) = ap (λ t. reduces target o t) (term_again facts value (for_numbers (target_kind (fact_of facts target))))
  action_form_again facts (calls function arguments) = ap (λ l. calls function l) (arguments_again facts (parameters_of (fact_of facts function)) arguments)
  action_form_again facts (blocks body) = ap (λ g. blocks g) (groups_again facts body)
  action_form_again facts (decides test chosen other) =
      let first : Action = typed_action facts chosen in
      let second : MaybeAction = typed_other (facts_after facts first) other in
      ap (λ t. decides t (typed_action facts first) (typed_other (facts_after facts (typed_action facts first)) second)) (term_again facts test None)
      ∙ (ap (λ a. decides (typed_term facts None test) a (typed_other (facts_after facts a) second)) (action_again facts chosen)
      ∙ ap (λ m. decides (typed_term facts None test) first m) (other_again (facts_after facts first) other))
  action_form_again facts (repeats test body) =
      ap (λ t. repeats t (typed_action facts (typed_action facts body))) (term_again facts test None) ∙ ap (λ a. repeats (typed_term facts None test) a) (action_again facts body)
  action_form_again facts (counts iterator declared low high factor body combine combine_place) =
      let inner : Facts = facts ++ of_iterator (iterator_kind declared) ∷ [] in
      let first : Action = typed_action inner body in
      let second : MaybeAction = typed_other (facts_after inner first) combine in
      ap (λ a. counts iterator declared low high factor a (typed_other (facts_after inner a) second) combine_place) (action_again inner body)
      ∙ ap (λ m. counts iterator declared low high factor first m combine_place) (other_again (facts_after inner first) combine)

  other_again : (facts : Facts) (m : MaybeAction) → typed_other facts (typed_other facts m) ≡ typed_other facts m
  other_again facts no_action = refl
  other_again facts (one_action a) = ap (λ x. one_action x) (action_again facts a)

  actions_again : (facts : Facts) (p : Actions) → typed_actions facts (typed_actions facts p) ≡ typed_actions facts p
  actions_again facts no_actions = refl
  actions_again facts (action_then a rest) =
      let first : Action = typed_action facts a in
      ap (λ x. action_then x (typed_actions (facts_after facts x) (typed_actions (facts_after facts first) rest))) (action_again facts a)
      ∙ ap (λ l. action_then first l) (actions_again (facts_after facts first) rest)

  groups_again : (facts : Facts) (g : Groups) → typed_groups facts (typed_groups facts g) ≡ typed_groups facts g
  groups_again facts no_groups = refl
  groups_again facts (group_then part rest) =
      let first : Actions = typed_actions facts part in
      ap (λ x. group_then x (typed_groups (facts_after_actions facts x) (typed_groups (facts_after_actions facts first) rest))) (actions_again facts part)
      ∙ ap (λ l. group_then first l) (groups_again (facts_after_actions facts first) rest)

function_again : (facts : Facts) (f : Defined) → typed_function facts (typed_function facts f) ≡ typed_function facts f
function_again facts f =
    ap (λ a. record { place = f.place; name = f.name; parameters = f.parameters; body = a }) (action_again (facts ++ formal_facts f.parameters) f.body)

functions_again : (facts : Facts) (fs : List Defined) → typed_functions facts (typed_functions facts fs) ≡ typed_functions facts fs
functions_again facts [] = refl
functions_again facts (f ∷ fs) =
    let first : Defined = typed_function facts f in
    ap (λ x. x ∷ typed_functions (facts_after_function facts x) (typed_functions (facts_after_function facts first) fs)) (function_again facts f)
    ∙ ap (λ l. first ∷ l) (functions_again (facts_after_function facts first) fs)

function_facts_kept : (facts : Facts) (fs : List Defined) → map function_fact (typed_functions facts fs) ≡ map function_fact fs
function_facts_kept facts [] = refl
function_facts_kept facts (f ∷ fs) = ap (λ l. function_fact f ∷ l) (function_facts_kept (facts_after_function facts (typed_function facts f)) fs)

-- a typed program has its kinds
pub typed_again : (p : Program) → HasKinds (typed p)
typed_again p =
    let start : Facts = first_facts p in
    let fs : List Defined = typed_functions start p.functions in
    let body : Action = typed_action (facts_after_functions start fs) p.body in
    let made : Facts → Program = λ facts. record {
      decls = p.decls;
      functions = typed_functions facts fs;
      body = typed_action (facts_after_functions facts (typed_functions facts fs)) body;
      entities = p.entities;
    } in
    ap made (ap (λ l. declared_facts p.decls ++ l) (function_facts_kept start p.functions))
    ∙ (ap (λ l. record { decls = p.decls; functions = l; body = typed_action (facts_after_functions start l) body; entities = p.entities }) (functions_again start p.functions)
    ∙ ap (λ a. record { decls = p.decls; functions = fs; body = a; entities = p.entities }) (action_again (facts_after_functions start fs) p.body))

-- A program whose names have their entities keeps them where its kinds are filled in. By recursion over
-- the tree: each part of a resolved tree is resolved.
use Rattle.std.proofs.Common.{◌≡◌, ℕ, ◌+◌, List, [], ◌∷◌, ◌++◌, length, map, Option, Some, None, refl, ap, ◌∙◌}
use Rattle.std.specs.Prelude.{option_map}
use Rattle.dh_base.specs.declared.places.Place.{Place}
use Rattle.dh_value.specs.declared.kinds.Kind.{Kind}
use Rattle.dh_value.specs.declared.operators.Op.{Op}
use Rattle.dh_tree.specs.declared.tables.Shape.{Shape}
use Rattle.dh_tree.specs.declared.trees.expressions.Ref.{Ref}
use Rattle.dh_tree.specs.declared.trees.programs.Entity.{Entity}
use Rattle.dh_tree.specs.declared.trees.programs.ShapePlaces.{ShapePlaces}
use Rattle.dh_tree.specs.declared.trees.programs.Sort.TheVariants.{Iterator}
use Rattle.dh_tree.specs.Kinds.{Facts, fact_of, of_iterator, for_numbers, found, form_found, iterator_kind, target_kind, parameters_of, is_bare, left_want, right_want, typed_term, typed_form, typed_terms, typed_maybe, typed_offset, typed_plan, typed_arguments, facts_after, facts_after_actions, facts_after_function, formal_facts, first_facts, typed_action, typed_action_form, typed_other, typed_actions, typed_groups, typed_function, typed_functions, typed}
use Rattle.dh_tree.specs.PlainTrees.{Term, term, TermForm, number, truth_value, named, accessed, in_bank, applied, converted, Terms, no_terms, term_then, Suffixed, ViewPlan, shrinks, splits, suffixes, shifts, Placed, Unrolled, Action, action, ActionForm, lets, lets_memory, views, assigns, stores, reduces, calls, blocks, decides, repeats, counts, MaybeAction, no_action, one_action, Actions, no_actions, action_then, Groups, no_groups, group_then, Declared, Defined, Program}
use Rattle.dh_tree.specs.Resolved.{used, declares, resolved_term, resolved_term_form, resolved_terms, resolved_offset, resolved_plan, resolved_action, resolved_form, resolved_other, resolved_actions, resolved_groups, resolved_formals, resolved_function, resolved_functions, resolved, HasEntities}
use Rattle.dh_tree.specs.Scopes.{ScopeEntry, Scope, declare, leave, past, at_end, actions_at_end, body_start, after_function, first_scope, body_scope, last_scope}
use Rattle.dh_tree.proofs.TypedForms.{start_of}
use Rattle.dh_tree.proofs.TypedNames.{end_kept, actions_end_kept, next_kept, function_end_kept, first_kept, body_kept}

-- what the constructors of equal trees hold is equal
term_parts : (place : Place) (kind : Option Kind) (f g : TermForm) → term place kind f ≡ term place kind g → f ≡ g
term_parts place kind f g h = cc

access_parts : (r q : Ref) (a b : Terms) → accessed r a ≡ accessed q b → (r ≡ q) × (a ≡ b)
access_parts r q a b h = (cc, cc)

bank_parts : (r q : Ref) (bank : ℕ) (place : Place) (a b : Term) → in_bank r bank place a ≡ in_bank q bank place b → (r ≡ q) × (a ≡ b)
bank_parts r q bank place a b h = (cc, cc)

operands : (o : Op) (a b c d : Term) → applied o a b ≡ applied o c d → (a ≡ c) × (b ≡ d)
operands o a b c d h = (cc, cc)

inner_part : (to : Kind) (a b : Term) → converted a to ≡ converted b to → a ≡ b
inner_part to a b h = cc

terms_parts : (a b : Term) (r q : Terms) → term_then a r ≡ term_then b q → (a ≡ b) × (r ≡ q)
terms_parts a b r q h = (cc, cc)

list_parts : {A : Type 0} (a b : A) (r q : List A) → a ∷ r ≡ b ∷ q → (a ≡ b) × (r ≡ q)
list_parts a b r q h = (cc, cc)

some_part : (a b : Term) → Some a ≡ Some b → a ≡ b
some_part a b h = cc

suffixes_part : (a b : List Suffixed) (places : List Place) → suffixes a places ≡ suffixes b places → a ≡ b
suffixes_part a b places h = cc

shifts_part : (a b : List Term) → shifts a ≡ shifts b → a ≡ b
shifts_part a b h = cc

action_part : (id : ℕ) (place : Place) (f g : ActionForm) → action id place f ≡ action id place g → f ≡ g
action_part id place f g h = cc

let_parts : (r q : Ref) (declared : Option Kind) (a b : Option Term) → lets r declared a ≡ lets q declared b → (r ≡ q) × (a ≡ b)
let_parts r q declared a b h = (cc, cc)

memory_parts : (r q : Ref) (shape : Shape) (places : ShapePlaces) (a b : Option Term) → lets_memory r shape places a ≡ lets_memory q shape places b → (r ≡ q) × (a ≡ b)
memory_parts r q shape places a b h = (cc, cc)

view_parts : (r q t u : Ref) (a b : ViewPlan) → views r t a ≡ views q u b → (r ≡ q) × ((t ≡ u) × (a ≡ b))
view_parts r q t u a b h = (cc, (cc, cc))

assign_parts : (r q : Ref) (a b : Term) → assigns r a ≡ assigns q b → (r ≡ q) × (a ≡ b)
assign_parts r q a b h = (cc, cc)

store_parts : (a b c d : Term) → stores a b ≡ stores c d → (a ≡ c) × (b ≡ d)
store_parts a b c d h = (cc, cc)

reduce_parts : (r q : Ref) (o : Op) (a b : Term) → reduces r o a ≡ reduces q o b → (r ≡ q) × (a ≡ b)
reduce_parts r q o a b h = (cc, cc)

call_parts : (r q : Ref) (a b : List Term) → calls r a ≡ calls q b → (r ≡ q) × (a ≡ b)
call_parts r q a b h = (cc, cc)

block_part : (a b : Groups) → blocks a ≡ blocks b → a ≡ b
block_part a b h = cc

arms : (a b : Term) (c d : Action) (m n : MaybeAction) → decides a c m ≡ decides b d n → (a ≡ b) × ((c ≡ d) × (m ≡ n))
arms a b c d m n h = (cc, (cc, cc))

while_parts : (a b : Term) (c d : Action) → repeats a c ≡ repeats b d → (a ≡ b) × (c ≡ d)
while_parts a b c d h = (cc, cc)

for_parts : (r q : Ref) (declared : Option Kind) (low high : Placed) (factor : Unrolled) (c d : Action) (m n : MaybeAction) (place : Place)
    → counts r declared low high factor c m place ≡ counts q declared low high factor d n place
    → (r ≡ q) × ((c ≡ d) × (m ≡ n))
for_parts r q declared low high factor c d m n place h = (cc, (cc, cc))

other_part : (a b : Action) → one_action a ≡ one_action b → a ≡ b
other_part a b h = cc

actions_parts : (a b : Action) (r q : Actions) → action_then a r ≡ action_then b q → (a ≡ b) × (r ≡ q)
actions_parts a b r q h = (cc, cc)

groups_parts : (a b : Actions) (r q : Groups) → group_then a r ≡ group_then b q → (a ≡ b) × (r ≡ q)
groups_parts a b r q h = (cc, cc)

module _ (bs : List ScopeEntry) (facts : Facts) where
  mutual
    term_stays : (want : Option Kind) (t : Term) → resolved_term bs t ≡ t → resolved_term bs (typed_term facts want t) ≡ typed_term facts want t
    term_stays want (term place kind form) h =
        let part = term_parts place kind (resolved_term_form bs form) form h in
        ap (λ f. term place (form_found facts want (typed_form facts want form)) f) (term_form_stays want form part)

    term_form_stays : (want : Option Kind) (f : TermForm) → resolved_term_form bs f ≡ f → resolved_term_form bs (typed_form facts want f) ≡ typed_form facts want f
    term_form_stays want (number negative value) h = refl
    term_form_stays want (truth_value value) h = refl
    term_form_stays want (named r) h = h
    term_form_stays want (accessed r indices) h =
        let parts = access_parts (used bs r) r (resolved_terms bs indices) indices h in
        ap (λ q. accessed q (resolved_terms bs (typed_terms facts indices))) parts.0 ∙ ap (λ l. accessed r l) (terms_stay indices parts.1)
    term_form_stays want (in_bank r bank bank_place row) h =
        let parts = bank_parts (used bs r) r bank bank_place (resolved_term bs row) row h in
        ap (λ q. in_bank q bank bank_place (resolved_term bs (typed_term facts None row))) parts.0 ∙ ap (λ t. in_bank r bank bank_place t) (term_stays None row parts.1)
    term_form_stays want (applied o left right) h =
        let l : Option Kind = left_want o want (is_bare left) (is_bare right) (found (typed_term facts None right)) in
        let r : Option Kind = right_want o want (is_bare left) (is_bare right) (found (typed_term facts None left)) in
        let parts = operands o (resolved_term bs left) (resolved_term bs right) left right h in
        ap (λ t. applied o t (resolved_term bs (typed_term facts r right))) (term_stays l left parts.0)
        ∙ ap (λ t. applied o (typed_term facts l left) t) (term_stays r right parts.1)
    term_form_stays want (converted inner to) h =
        ap (λ t. converted t to) (term_stays (for_numbers (Some to)) inner (inner_part to (resolved_term bs inner) inner h))

    terms_stay : (ts : Terms) → resolved_terms bs ts ≡ ts → resolved_terms bs (typed_terms facts ts) ≡ typed_terms facts ts
    terms_stay no_terms h = refl
    terms_stay (term_then t rest) h =
        let parts = terms_parts (resolved_term bs t) t (resolved_terms bs rest) rest h in
        ap (λ x. term_then x (resolved_terms bs (typed_terms facts rest))) (term_stays None t parts.0) ∙ ap (λ l. term_then (typed_term facts None t) l) (terms_stay rest parts.1)

  maybe_stays : (want : Option Kind) (v : Option Term) → option_map (resolved_term bs) v ≡ v → option_map (resolved_term bs) (typed_maybe facts want v) ≡ typed_maybe facts want v
  maybe_stays want None h = refl
  maybe_stays want (Some t) h = ap (λ x. Some x) (term_stays (for_numbers want) t (some_part (resolved_term bs t) t h))

  listed_stay : (ts : List Term) → map (resolved_term bs) ts ≡ ts → map (resolved_term bs) (map (typed_term facts None) ts) ≡ map (typed_term facts None) ts
  listed_stay [] h = refl
  listed_stay (t ∷ ts) h =
      let parts = list_parts (resolved_term bs t) t (map (resolved_term bs) ts) ts h in
      ap (λ x. x ∷ map (resolved_term bs) (map (typed_term facts None) ts)) (term_stays None t parts.0) ∙ ap (λ l. typed_term facts None t ∷ l) (listed_stay ts parts.1)

  arguments_stay : (ks : List Kind) (ts : List Term) → map (resolved_term bs) ts ≡ ts → map (resolved_term bs) (typed_arguments facts ks ts) ≡ typed_arguments facts ks ts
  arguments_stay [] [] h = refl
  arguments_stay (k ∷ ks) [] h = refl
  arguments_stay [] (t ∷ ts) h =
      let parts = list_parts (resolved_term bs t) t (map (resolved_term bs) ts) ts h in
      ap (λ x. x ∷ map (resolved_term bs) (typed_arguments facts [] ts)) (term_stays None t parts.0) ∙ ap (λ l. typed_term facts None t ∷ l) (arguments_stay [] ts parts.1)
  arguments_stay (k ∷ ks) (t ∷ ts) h =
      let want : Option Kind = for_numbers (Some k) in
      let parts = list_parts (resolved_term bs t) t (map (resolved_term bs) ts) ts h in
      ap (λ x. x ∷ map (resolved_term bs) (typed_arguments facts ks ts)) (term_stays want t parts.0) ∙ ap (λ l. typed_term facts want t ∷ l) (arguments_stay ks ts parts.1)

  offsets_stay : (ss : List Suffixed) → map (resolved_offset bs) ss ≡ ss → map (resolved_offset bs) (map (typed_offset facts) ss) ≡ map (typed_offset facts) ss
  offsets_stay [] h = refl
  offsets_stay (s ∷ ss) h =
      let parts = list_parts (resolved_offset bs s) s (map (resolved_offset bs) ss) ss h in
      ap (λ t. record { factor = s.factor; offset = t } ∷ map (resolved_offset bs) (map (typed_offset facts) ss)) (term_stays None s.offset (ap (λ x. x.offset) parts.0))
      ∙ ap (λ l. typed_offset facts s ∷ l) (offsets_stay ss parts.1)

  plan_stays : (v : ViewPlan) → resolved_plan bs v ≡ v → resolved_plan bs (typed_plan facts v) ≡ typed_plan facts v
  plan_stays (shrinks by_ by_place) h = refl
  plan_stays (splits by_ by_place) h = refl
  plan_stays (suffixes by_ by_place) h = ap (λ l. suffixes l by_place) (offsets_stay by_ (suffixes_part (map (resolved_offset bs) by_) by_ by_place h))
  plan_stays (shifts by_) h = ap (λ l. shifts l) (listed_stay by_ (shifts_part (map (resolved_term bs) by_) by_ h))

mutual
  action_stays : (s : Scope) (facts : Facts) (a : Action) → resolved_action s a ≡ a → resolved_action s (typed_action facts a) ≡ typed_action facts a
  action_stays s facts (action id place form) h = ap (λ f. action id place f) (form_stays s facts form (action_part id place (resolved_form s form) form h))

  form_stays : (s : Scope) (facts : Facts) (f : ActionForm) → resolved_form s f ≡ f → resolved_form s (typed_action_form facts f) ≡ typed_action_form facts f
  form_stays s facts (lets name declared value) h =
      let parts = let_parts (declares s name) name declared (option_map (resolved_term s.visible) value) value h in
      ap (λ r. lets r declared (option_map (resolved_term s.visible) (typed_maybe facts declared value))) parts.0
      ∙ ap (λ v. lets name declared v) (maybe_stays s.visible facts declared value parts.1)
  form_stays s facts (lets_memory name shape shape_places value) h =
      let parts = memory_parts (declares s name) name shape shape_places (option_map (resolved_term s.visible) value) value h in
      ap (λ r. lets_memory r shape shape_places (option_map (resolved_term s.visible) (typed_maybe facts (Some shape.kind) value))) parts.0
      ∙ ap (λ v. lets_memory name shape shape_places v) (maybe_stays s.visible facts (Some shape.kind) value parts.1)
  form_stays s facts (views name parent form) h =
      let parts = view_parts (declares s name) name (used s.visible parent) parent (resolved_plan s.visible form) form h in
      ap (λ r. views r (used s.visible parent) (resolved_plan s.visible (typed_plan facts form))) parts.0
      ∙ (ap (λ r. views name r (resolved_plan s.visible (typed_plan facts form))) parts.1.0
      ∙ ap (λ v. views name parent v) (plan_stays s.visible facts form parts.1.1))
  form_stays s facts (assigns target value) h =
      let want : Option Kind = for_numbers (target_kind (fact_of facts target)) in
      let parts = assign_parts (used s.visible target) target (resolved_term s.visible value) value h in
      ap (λ r. assigns r (resolved_term s.visible (typed_term facts want value))) parts.0
      ∙ ap (λ t. assigns target t) (term_stays s.visible facts want value parts.1)
  form_stays s facts (stores target value) h =
      let want : Option Kind = for_numbers (found (typed_term facts None target)) in
      let parts = store_parts (resolved_term s.visible target) (resolved_term s.visible value) target value h in
      ap (λ t. stores t (resolved_term s.visible (typed_term facts want value))) (term_stays s.visible facts None target parts.0)
      ∙ ap (λ t. stores (typed_term facts None target) t) (term_stays s.visible facts want value parts.1)
  form_stays s facts (reduces target o value) h =
      let want : Option Kind = for_numbers (target_kind (fact_of facts target)) in
      let parts = reduce_parts (used s.visible target) target o (resolved_term s.visible value) value h in
      ap (λ r. reduces r o (resolved_term s.visible (typed_term facts want value))) parts.0
      ∙ ap (λ t. reduces target o t) (term_stays s.visible facts want value parts.1)
  form_stays s facts (calls function arguments) h =
      let kinds : List Kind = parameters_of (fact_of facts function) in
      let parts = call_parts (used s.visible function) function (map (resolved_term s.visible) arguments) arguments h in
      ap (λ r. calls r (map (resolved_term s.visible) (typed_arguments facts kinds arguments))) parts.0
      ∙ ap (λ l. calls function l) (arguments_stay s.visible facts kinds arguments parts.1)
  form_stays s facts (blocks body) h = ap (λ g. blocks g) (groups_stay s facts body (block_part (resolved_groups s body) body h))
  form_stays s facts (decides test chosen other) h =
      let first : Action = typed_action facts chosen in
      let second : MaybeAction = typed_other (facts_after facts first) other in
      let parts = arms (resolved_term s.visible test) test (resolved_action s chosen) chosen (resolved_other (leave s (at_end s chosen)) other) other h in
      ap (λ t. decides t (resolved_action s first) (resolved_other (leave s (at_end s first)) second)) (term_stays s.visible facts None test parts.0)
      ∙ (ap (λ a. decides (typed_term facts None test) a (resolved_other (leave s (at_end s first)) second)) (action_stays s facts chosen parts.1.0)
      ∙ ap (λ m. decides (typed_term facts None test) first m)
      (ap (λ x. resolved_other (leave s x) second) (end_kept s facts chosen) ∙ other_stays (leave s (at_end s chosen)) (facts_after facts first) other parts.1.1))
  form_stays s facts (repeats test body) h =
      let parts = while_parts (resolved_term s.visible test) test (resolved_action s body) body h in
      ap (λ t. repeats t (resolved_action s (typed_action facts body))) (term_stays s.visible facts None test parts.0)
      ∙ ap (λ a. repeats (typed_term facts None test) a) (action_stays s facts body parts.1)
  form_stays s facts (counts iterator declared low high factor body combine combine_place) h =
      let d : Scope = declare s iterator Iterator in
      let inner : Facts = facts ++ of_iterator (iterator_kind declared) ∷ [] in
      let first : Action = typed_action inner body in
      let second : MaybeAction = typed_other (facts_after inner first) combine in
      let parts = for_parts (declares s iterator) iterator declared low high factor (resolved_action d body) body (resolved_other (at_end d body) combine) combine combine_place h in
      ap (λ r. counts r declared low high factor (resolved_action d first) (resolved_other (at_end d first) second) combine_place) parts.0
      ∙ (ap (λ a. counts iterator declared low high factor a (resolved_other (at_end d first) second) combine_place) (action_stays d inner body parts.1.0)
      ∙ ap (λ m. counts iterator declared low high factor first m combine_place)
      (ap (λ x. resolved_other x second) (end_kept d inner body) ∙ other_stays (at_end d body) (facts_after inner first) combine parts.1.1))

  other_stays : (s : Scope) (facts : Facts) (m : MaybeAction) → resolved_other s m ≡ m → resolved_other s (typed_other facts m) ≡ typed_other facts m
  other_stays s facts no_action h = refl
  other_stays s facts (one_action a) h = ap (λ x. one_action x) (action_stays s facts a (other_part (resolved_action s a) a h))

  actions_stay : (s : Scope) (facts : Facts) (l : Actions) → resolved_actions s l ≡ l → resolved_actions s (typed_actions facts l) ≡ typed_actions facts l
  actions_stay s facts no_actions h = refl
  actions_stay s facts (action_then a rest) h =
      let next : Scope = past s a (at_end s a) in
      let first : Action = typed_action facts a in
      let behind : Actions = typed_actions (facts_after facts first) rest in
      let parts = actions_parts (resolved_action s a) a (resolved_actions next rest) rest h in
      ap (λ x. action_then x (resolved_actions (past s first (at_end s first)) behind)) (action_stays s facts a parts.0)
      ∙ ap (λ l. action_then first l) (ap (λ x. resolved_actions x behind) (next_kept s facts a) ∙ actions_stay next (facts_after facts first) rest parts.1)

  groups_stay : (s : Scope) (facts : Facts) (g : Groups) → resolved_groups s g ≡ g → resolved_groups s (typed_groups facts g) ≡ typed_groups facts g
  groups_stay s facts no_groups h = refl
  groups_stay s facts (group_then part rest) h =
      let next : Scope = actions_at_end s part in
      let first : Actions = typed_actions facts part in
      let behind : Groups = typed_groups (facts_after_actions facts first) rest in
      let parts = groups_parts (resolved_actions s part) part (resolved_groups next rest) rest h in
      ap (λ x. group_then x (resolved_groups (actions_at_end s first) behind)) (actions_stay s facts part parts.0)
      ∙ ap (λ l. group_then first l) (ap (λ x. resolved_groups x behind) (actions_end_kept s facts part) ∙ groups_stay next (facts_after_actions facts first) rest parts.1)

function_stays : (n : ℕ) (s : Scope) (facts : Facts) (f : Defined) → resolved_function n s f ≡ f → resolved_function n s (typed_function facts f) ≡ typed_function facts f
function_stays n s facts f h =
    let start : Scope = body_start s f in
    let inner : Facts = facts ++ formal_facts f.parameters in
    ap (λ r. record { place = f.place; name = r; parameters = resolved_formals s f.parameters; body = resolved_action start (typed_action inner f.body) }) (ap (λ x. x.name) h)
    ∙ (ap (λ l. record { place = f.place; name = f.name; parameters = l; body = resolved_action start (typed_action inner f.body) }) (ap (λ x. x.parameters) h)
    ∙ ap (λ a. record { place = f.place; name = f.name; parameters = f.parameters; body = a }) (action_stays start inner f.body (ap (λ x. x.body) h)))

functions_stay : (n : ℕ) (s : Scope) (facts : Facts) (fs : List Defined) → resolved_functions n s fs ≡ fs → resolved_functions n s (typed_functions facts fs) ≡ typed_functions facts fs
functions_stay n s facts [] h = refl
functions_stay n s facts (f ∷ fs) h =
    let next : Scope = after_function n s f in
    let first : Defined = typed_function facts f in
    let after : Facts = facts_after_function facts first in
    let behind : List Defined = typed_functions after fs in
    let parts = list_parts (resolved_function n s f) f (resolved_functions (n + 1) next fs) fs h in
    ap (λ x. x ∷ resolved_functions (n + 1) (after_function n s first) behind) (function_stays n s facts f parts.0)
    ∙ ap (λ l. first ∷ l) (ap (λ x. resolved_functions (n + 1) x behind) (function_end_kept n s facts f) ∙ functions_stay (n + 1) next after fs parts.1)

module _ (p : Program) (h : HasEntities p) where
  functions_have : resolved_functions (length p.decls) (first_scope (typed p)) (typed p).functions ≡ (typed p).functions
  functions_have =
      ap (λ s. resolved_functions (length p.decls) s (typed p).functions) (first_kept p)
      ∙ functions_stay (length p.decls) (first_scope p) (first_facts p) p.functions (ap (λ q. q.functions) h)

  body_has : resolved_action (body_scope (typed p)) (typed p).body ≡ (typed p).body
  body_has = ap (λ s. resolved_action s (typed p).body) (body_kept p) ∙ action_stays (body_scope p) (start_of p) p.body (ap (λ q. q.body) h)

  are_listed : (last_scope (typed p)).entities ≡ p.entities
  are_listed =
      ap (λ s. (at_end s (typed p).body).entities) (body_kept p) ∙ (ap (λ s. s.entities) (end_kept (body_scope p) (start_of p) p.body) ∙ ap (λ q. q.entities) h)

  abbrev made : List Declared → List Defined → Action → List Entity → Program
  made ds fs b es = record { decls = ds; functions = fs; body = b; entities = es }

  -- every name goes on to have the entity that it stands for
  pub entities_kept : HasEntities (typed p)
  entities_kept =
      ap (λ ds. made ds (resolved (typed p)).functions (resolved (typed p)).body (resolved (typed p)).entities) (ap (λ q. q.decls) h)
      ∙ (ap (λ fs. made p.decls fs (resolved (typed p)).body (resolved (typed p)).entities) functions_have
      ∙ (ap (λ b. made p.decls (typed p).functions b (resolved (typed p)).entities) body_has
      ∙ ap (λ es. made p.decls (typed p).functions (typed p).body es) are_listed))

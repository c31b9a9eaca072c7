-- The tree of a program with the number of its entity at each name, and the entities in order.
use Rattle.std.specs.Prelude.{ℕ, ◌+◌, ◌≡◌, List, [], ◌∷◌, length, map, Some}
use Rattle.std.specs.Option.{option_map}
use Rattle.dh_tree.specs.declared.trees.expressions.Ref.{Ref}
use Rattle.dh_tree.specs.declared.trees.programs.Sort.TheVariants.{Iterator}
use Rattle.dh_tree.specs.PlainTrees.{Term, term, TermForm, number, truth_value, named, accessed, in_bank, applied, converted, Terms, no_terms, term_then, Suffixed, ViewPlan, shrinks, splits, suffixes, shifts, Action, action, ActionForm, lets, lets_memory, views, assigns, stores, reduces, calls, blocks, decides, repeats, counts, MaybeAction, no_action, one_action, Actions, no_actions, action_then, Groups, no_groups, group_then, Declared, Formal, Defined, Program}
use Rattle.dh_tree.specs.Scopes.{ScopeEntry, entity_of, Scope, declare, leave, past, at_end, actions_at_end, formal_sort, body_start, after_function, first_scope, body_scope, last_scope}

-- a name that is used where these names are visible; it has no entity where it is not visible
abbrev pub used : List ScopeEntry → Ref → Ref
used bs r = record { name = r.name; place = r.place; entity = entity_of bs r.name }

-- a name that is declared as entity number n
abbrev pub numbered : ℕ → Ref → Ref
numbered n r = record { name = r.name; place = r.place; entity = Some n }

-- a name that is declared at this point
abbrev pub declares : Scope → Ref → Ref
declares s r = numbered (length s.entities) r

abbrev mutual
  -- an expression where these names are visible
  pub resolved_term : List ScopeEntry → Term → Term
  resolved_term bs (term place kind form) = term place kind (resolved_term_form bs form)

  pub resolved_term_form : List ScopeEntry → TermForm → TermForm
  resolved_term_form bs (number negative value) = number negative value
  resolved_term_form bs (truth_value value) = truth_value value
  resolved_term_form bs (named r) = named (used bs r)
  resolved_term_form bs (accessed r indices) = accessed (used bs r) (resolved_terms bs indices)
  resolved_term_form bs (in_bank r bank bank_place row) = in_bank (used bs r) bank bank_place (resolved_term bs row)
  resolved_term_form bs (applied op left right) = applied op (resolved_term bs left) (resolved_term bs right)
  resolved_term_form bs (converted inner to) = converted (resolved_term bs inner) to

  pub resolved_terms : List ScopeEntry → Terms → Terms
  resolved_terms bs no_terms = no_terms
  resolved_terms bs (term_then t rest) = term_then (resolved_term bs t) (resolved_terms bs rest)

abbrev pub resolved_offset : List ScopeEntry → Suffixed → Suffixed
resolved_offset bs s = record { factor = s.factor; offset = resolved_term bs s.offset }

abbrev pub resolved_plan : List ScopeEntry → ViewPlan → ViewPlan
resolved_plan bs (shrinks by by_place) = shrinks by by_place
resolved_plan bs (splits by by_place) = splits by by_place
resolved_plan bs (suffixes by by_place) = suffixes (map (resolved_offset bs) by) by_place
resolved_plan bs (shifts by) = shifts (map (resolved_term bs) by)

abbrev mutual
  -- a command at this point
  pub resolved_action : Scope → Action → Action
  resolved_action s (action id place form) = action id place (resolved_form s form)

  pub resolved_form : Scope → ActionForm → ActionForm
  resolved_form s (lets name declared value) = lets (declares s name) declared (option_map (resolved_term s.visible) value)
  resolved_form s (lets_memory name shape shape_places value) =
      lets_memory (declares s name) shape shape_places (option_map (resolved_term s.visible) value)
  resolved_form s (views name parent form) = views (declares s name) (used s.visible parent) (resolved_plan s.visible form)
  resolved_form s (assigns target value) = assigns (used s.visible target) (resolved_term s.visible value)
  resolved_form s (stores target value) = stores (resolved_term s.visible target) (resolved_term s.visible value)
  resolved_form s (reduces target op value) = reduces (used s.visible target) op (resolved_term s.visible value)
  resolved_form s (calls function arguments) = calls (used s.visible function) (map (resolved_term s.visible) arguments)
  resolved_form s (blocks body) = blocks (resolved_groups s body)
  resolved_form s (decides test chosen other) =
      decides (resolved_term s.visible test) (resolved_action s chosen) (resolved_other (leave s (at_end s chosen)) other)
  resolved_form s (repeats test body) = repeats (resolved_term s.visible test) (resolved_action s body)
  resolved_form s (counts iterator declared low high factor body combine combine_place) =
      counts (declares s iterator) declared low high factor (resolved_action (declare s iterator Iterator) body) (resolved_other (at_end (declare s iterator Iterator) body) combine) combine_place

  pub resolved_other : Scope → MaybeAction → MaybeAction
  resolved_other s no_action = no_action
  resolved_other s (one_action a) = one_action (resolved_action s a)

  pub resolved_actions : Scope → Actions → Actions
  resolved_actions s no_actions = no_actions
  resolved_actions s (action_then a rest) = action_then (resolved_action s a) (resolved_actions (past s a (at_end s a)) rest)

  pub resolved_groups : Scope → Groups → Groups
  resolved_groups s no_groups = no_groups
  resolved_groups s (group_then g rest) = group_then (resolved_actions s g) (resolved_groups (actions_at_end s g) rest)

-- memories from outside, of which the first is entity number n
abbrev pub resolved_decls : ℕ → List Declared → List Declared
resolved_decls n [] = []
resolved_decls n (d ∷ ds) = record { name = numbered n d.name; shape = d.shape; shape_places = d.shape_places } ∷ resolved_decls (n + 1) ds

abbrev pub resolved_formals : Scope → List Formal → List Formal
resolved_formals s [] = []
resolved_formals s (f ∷ fs) =
    record { name = declares s f.name; shape = f.shape; shape_places = f.shape_places; kind = f.kind }
    ∷ resolved_formals (declare s f.name (formal_sort f.shape)) fs

-- a function that is entity number n
abbrev pub resolved_function : ℕ → Scope → Defined → Defined
resolved_function n s f =
    record { place = f.place; name = numbered n f.name; parameters = resolved_formals s f.parameters; body = resolved_action (body_start s f) f.body }

abbrev pub resolved_functions : ℕ → Scope → List Defined → List Defined
resolved_functions n s [] = []
resolved_functions n s (f ∷ fs) = resolved_function n s f ∷ resolved_functions (n + 1) (after_function n s f) fs

-- the program with its entities
abbrev pub resolved : Program → Program
resolved p = record {
  decls = resolved_decls 0 p.decls;
  functions = resolved_functions (length p.decls) (first_scope p) p.functions;
  body = resolved_action (body_scope p) p.body;
  entities = (last_scope p).entities;
}

-- every name has the entity that it stands for, and the entities are listed
abbrev pub HasEntities : Program → Type 0
HasEntities p = resolved p ≡ p

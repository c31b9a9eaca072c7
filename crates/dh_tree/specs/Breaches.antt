-- Which names of a program break a rule: `UnknownName` (K4) at a name that is not visible where it is
-- used, `NameTwice` (K5) at the name of a declaration where that name is visible already. (The rules
-- on names of this profile.) Entities that the tree has already play no part.
use Rattle.std.specs.Prelude.{ℕ, ◌+◌, ◌≡◌, List, [], ◌∷◌, ◌++◌, length, Option, Some, None, if◌then◌else◌}
use Rattle.dh_base.specs.declared.rules.Rule.TheVariants.{UnknownName, NameTwice}
use Rattle.dh_tree.specs.declared.trees.expressions.Ref.{Ref}
use Rattle.dh_tree.specs.declared.trees.programs.Sort.TheVariants.{Iterator}
use Rattle.dh_tree.specs.PlainTrees.{Term, term, TermForm, number, truth_value, named, accessed, in_bank, applied, converted, Terms, no_terms, term_then, Suffixed, ViewPlan, shrinks, splits, suffixes, shifts, Action, action, ActionForm, lets, lets_memory, views, assigns, stores, reduces, calls, blocks, decides, repeats, counts, MaybeAction, no_action, one_action, Actions, no_actions, action_then, Groups, no_groups, group_then, Formal, Defined, Program}
use Rattle.dh_tree.specs.declared.breaches.Breach.{Breach}
use Rattle.dh_tree.specs.LeastBreach.{breach}
use Rattle.dh_tree.specs.Scopes.{ScopeEntry, is_visible, bind, Scope, declare, leave, past, at_end, actions_at_end, formal_sort, body_start, after_function, Item, items_of, first_scope, body_scope}

-- a name that is used where these names are visible
abbrev pub unknown : List ScopeEntry → Ref → List Breach
unknown bs r = if is_visible bs r.name then [] else breach UnknownName r.place ∷ []

-- a name that is declared where these names are visible
abbrev pub twice : List ScopeEntry → Ref → List Breach
twice bs r = if is_visible bs r.name then breach NameTwice r.place ∷ [] else []

abbrev mutual
  -- the breaches of an expression where these names are visible
  pub term_breaches : List ScopeEntry → Term → List Breach
  term_breaches bs (term place kind form) = term_form_breaches bs form

  pub term_form_breaches : List ScopeEntry → TermForm → List Breach
  term_form_breaches bs (number negative value) = []
  term_form_breaches bs (truth_value value) = []
  term_form_breaches bs (named r) = unknown bs r
  term_form_breaches bs (accessed r indices) = unknown bs r ++ terms_breaches bs indices
  term_form_breaches bs (in_bank r bank bank_place row) = unknown bs r ++ term_breaches bs row
  term_form_breaches bs (applied op left right) = term_breaches bs left ++ term_breaches bs right
  term_form_breaches bs (converted inner to) = term_breaches bs inner

  pub terms_breaches : List ScopeEntry → Terms → List Breach
  terms_breaches bs no_terms = []
  terms_breaches bs (term_then t rest) = term_breaches bs t ++ terms_breaches bs rest

abbrev pub list_breaches : List ScopeEntry → List Term → List Breach
list_breaches bs [] = []
list_breaches bs (t ∷ ts) = term_breaches bs t ++ list_breaches bs ts

abbrev pub offsets_breaches : List ScopeEntry → List Suffixed → List Breach
offsets_breaches bs [] = []
offsets_breaches bs (s ∷ ss) = term_breaches bs s.offset ++ offsets_breaches bs ss

-- those of a view's form
abbrev pub plan_name_breaches : List ScopeEntry → ViewPlan → List Breach
plan_name_breaches bs (shrinks by by_place) = []
plan_name_breaches bs (splits by by_place) = []
plan_name_breaches bs (suffixes by by_place) = offsets_breaches bs by
plan_name_breaches bs (shifts by) = list_breaches bs by

-- those of an expression that may lack
abbrev pub maybe_value_breaches : List ScopeEntry → Option Term → List Breach
maybe_value_breaches bs None = []
maybe_value_breaches bs (Some t) = term_breaches bs t

abbrev mutual
  -- the breaches of a command at this point: what a declaration declares is not visible in it
  pub breaches : Scope → Action → List Breach
  breaches s (action id place form) = form_breaches s form

  pub form_breaches : Scope → ActionForm → List Breach
  form_breaches s (lets name declared value) = maybe_value_breaches s.visible value ++ twice s.visible name
  form_breaches s (lets_memory name shape shape_places value) = maybe_value_breaches s.visible value ++ twice s.visible name
  form_breaches s (views name parent form) = unknown s.visible parent ++ (plan_name_breaches s.visible form ++ twice s.visible name)
  form_breaches s (assigns target value) = unknown s.visible target ++ term_breaches s.visible value
  form_breaches s (stores target value) = term_breaches s.visible target ++ term_breaches s.visible value
  form_breaches s (reduces target op value) = unknown s.visible target ++ term_breaches s.visible value
  form_breaches s (calls function arguments) = unknown s.visible function ++ list_breaches s.visible arguments
  form_breaches s (blocks body) = groups_breaches s body
  form_breaches s (decides test chosen other) =
      term_breaches s.visible test ++ (breaches s chosen ++ other_breaches (leave s (at_end s chosen)) other)
  form_breaches s (repeats test body) = term_breaches s.visible test ++ breaches s body
  form_breaches s (counts iterator declared low high factor body combine combine_place) =
      twice s.visible iterator ++ (breaches (declare s iterator Iterator) body ++ other_breaches (at_end (declare s iterator Iterator) body) combine)

  pub other_breaches : Scope → MaybeAction → List Breach
  other_breaches s no_action = []
  other_breaches s (one_action a) = breaches s a

  pub actions_breaches : Scope → Actions → List Breach
  actions_breaches s no_actions = []
  actions_breaches s (action_then a rest) = breaches s a ++ actions_breaches (past s a (at_end s a)) rest

  pub groups_breaches : Scope → Groups → List Breach
  groups_breaches s no_groups = []
  groups_breaches s (group_then g rest) = actions_breaches s g ++ groups_breaches (actions_at_end s g) rest

-- those of a function's parameters
abbrev pub formals_breaches : Scope → List Formal → List Breach
formals_breaches s [] = []
formals_breaches s (f ∷ fs) = twice s.visible f.name ++ formals_breaches (declare s f.name (formal_sort f.shape)) fs

abbrev pub function_breaches : Scope → Defined → List Breach
function_breaches s f = formals_breaches s f.parameters ++ breaches (body_start s f) f.body

-- those of functions, of which the first is entity number n
abbrev pub functions_breaches : ℕ → Scope → List Defined → List Breach
functions_breaches n s [] = []
functions_breaches n s (f ∷ fs) = function_breaches s f ++ functions_breaches (n + 1) (after_function n s f) fs

-- those of the names that memories from outside and functions declare
abbrev pub items_breaches : List ScopeEntry → List Item → List Breach
items_breaches bs [] = []
items_breaches bs (i ∷ is) = twice bs i.name ++ items_breaches (bind bs i.name.name i.entity) is

-- all breaches of the rules on names
abbrev pub breaches_of : Program → List Breach
breaches_of p =
    items_breaches [] (items_of p) ++ (functions_breaches (length p.decls) (first_scope p) p.functions ++ breaches (body_scope p) p.body)

-- no name breaks a rule
abbrev pub KeepsNames : Program → Type 0
KeepsNames p = breaches_of p ≡ []

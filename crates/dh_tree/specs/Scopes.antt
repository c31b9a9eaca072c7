-- Which names are visible where, and the entities that declarations number. (The rules on names of
-- this profile: a block opens a scope, and a name is visible from the end of its declaration to the
-- end of its scope.)
--
-- Entities are numbered from 0: the declarations of memories from outside in order, then the
-- functions in order, then for each function in order its parameters and what its body declares in
-- text order, then what the program's body declares in text order.
use Rattle.std.specs.Prelude.{ℕ, ◌+◌, Bool, List, [], ◌∷◌, ◌++◌, length, map, Option, Some, None, if◌then◌else◌}
use Rattle.std.specs.Option.{is_some}
use Rattle.std.specs.Str.{bytes_eq}
use Rattle.dh_tree.specs.declared.tables.Shape.{Shape}
use Rattle.dh_tree.specs.declared.trees.expressions.Ref.{Ref}
use Rattle.dh_tree.specs.declared.trees.programs.Entity.{Entity}
use Rattle.dh_tree.specs.declared.trees.programs.Sort.{Sort}
use Rattle.dh_tree.specs.declared.trees.programs.Sort.TheVariants.{Variable, Iterator, Memory, View, Function}
use Rattle.dh_tree.specs.LeastBreach.{is_before}
use Rattle.dh_tree.specs.PlainTrees.{Action, action, ActionForm, lets, lets_memory, views, assigns, stores, reduces, calls, blocks, decides, repeats, counts, MaybeAction, no_action, one_action, Actions, no_actions, action_then, Groups, no_groups, group_then, Declared, Formal, Defined, Program}

-- a name that is visible, and the number of what it stands for
pub record ScopeEntry : Type 0 where
  pub name : List ℕ
  pub entity : ℕ

abbrev pub binding : List ℕ → ℕ → ScopeEntry
binding name entity = record { name = name; entity = entity }

-- the number of what a name stands for, where it is visible
abbrev pub entity_of : List ScopeEntry → List ℕ → Option ℕ
entity_of [] name = None
entity_of (b ∷ bs) name = if bytes_eq name b.name then Some b.entity else entity_of bs name

-- the number of what a name stands for; every name of a resolved program stands for something
abbrev pub entity_number : Option ℕ → ℕ
entity_number None = 0
entity_number (Some n) = n

-- whether a name is visible
abbrev pub is_visible : List ScopeEntry → List ℕ → Bool
is_visible bs name = is_some (entity_of bs name)

-- the names after a declaration: a name that is visible already goes on to stand for what it did
abbrev pub bind : List ScopeEntry → List ℕ → ℕ → List ScopeEntry
bind bs name entity = if is_visible bs name then bs else bs ++ binding name entity ∷ []

-- a point of the text: the names that are visible there, and the entities that are numbered so far
pub record Scope : Type 0 where
  pub visible : List ScopeEntry
  pub entities : List Entity

abbrev pub entity : Ref → Sort → Entity
entity r sort = record { name = r.name; place = r.place; sort = sort }

-- the point after a declaration, which takes the next number
abbrev pub declare : Scope → Ref → Sort → Scope
declare s r sort = record { visible = bind s.visible r.name (length s.entities); entities = s.entities ++ entity r sort ∷ [] }

-- the point where a scope has ended that began at the first point and led to the second
abbrev pub leave : Scope → Scope → Scope
leave before inside = record { visible = before.visible; entities = inside.entities }

-- the point after a command of a list, from the points before it and at its end: a block's scope
-- ends with the block
abbrev pub past : Scope → Action → Scope → Scope
past before (action id place (blocks body)) inside = leave before inside
past before (action id place (lets name declared value)) inside = inside
past before (action id place (lets_memory name shape shape_places value)) inside = inside
past before (action id place (views name parent form)) inside = inside
past before (action id place (assigns target value)) inside = inside
past before (action id place (stores target value)) inside = inside
past before (action id place (reduces target op value)) inside = inside
past before (action id place (calls function arguments)) inside = inside
past before (action id place (decides test chosen other)) inside = inside
past before (action id place (repeats test body)) inside = inside
past before (action id place (counts iterator declared low high factor body combine combine_place)) inside = inside

abbrev mutual
  -- the point at the end of a command, for a block the point before its `}`
  pub at_end : Scope → Action → Scope
  at_end s (action id place form) = form_at_end s form

  pub form_at_end : Scope → ActionForm → Scope
  form_at_end s (lets name declared value) = declare s name Variable
  form_at_end s (lets_memory name shape shape_places value) = declare s name Memory
  form_at_end s (views name parent form) = declare s name View
  form_at_end s (assigns target value) = s
  form_at_end s (stores target value) = s
  form_at_end s (reduces target op value) = s
  form_at_end s (calls function arguments) = s
  form_at_end s (blocks body) = groups_at_end s body
  form_at_end s (decides test chosen other) = leave s (other_at_end (leave s (at_end s chosen)) other)
  form_at_end s (repeats test body) = leave s (at_end s body)
  form_at_end s (counts iterator declared low high factor body combine combine_place) =
      leave s (other_at_end (at_end (declare s iterator Iterator) body) combine)

  pub other_at_end : Scope → MaybeAction → Scope
  other_at_end s no_action = s
  other_at_end s (one_action a) = at_end s a

  pub actions_at_end : Scope → Actions → Scope
  actions_at_end s no_actions = s
  actions_at_end s (action_then a rest) = actions_at_end (past s a (at_end s a)) rest

  pub groups_at_end : Scope → Groups → Scope
  groups_at_end s no_groups = s
  groups_at_end s (group_then g rest) = groups_at_end (actions_at_end s g) rest

-- a parameter of a memory's type is a memory
abbrev pub formal_sort : Option Shape → Sort
formal_sort None = Variable
formal_sort (Some shape) = Memory

-- the point after a function's parameters
abbrev pub after_formals : Scope → List Formal → Scope
after_formals s [] = s
after_formals s (f ∷ fs) = after_formals (declare s f.name (formal_sort f.shape)) fs

-- the point at which the body of a function begins: only earlier functions and its parameters are visible
abbrev pub body_start : Scope → Defined → Scope
body_start s f = after_formals s f.parameters

-- the point after a function, which is entity number n
abbrev pub after_function : ℕ → Scope → Defined → Scope
after_function n s f = record { visible = bind s.visible f.name.name n; entities = (at_end (body_start s f) f.body).entities }

abbrev pub after_functions : ℕ → Scope → List Defined → Scope
after_functions n s [] = s
after_functions n s (f ∷ fs) = after_functions (n + 1) (after_function n s f) fs

-- the name of a declaration of a memory or of a function, with its number
pub record Item : Type 0 where
  pub name : Ref
  pub entity : ℕ

abbrev pub memory_items : ℕ → List Declared → List Item
memory_items n [] = []
memory_items n (d ∷ ds) = record { name = d.name; entity = n } ∷ memory_items (n + 1) ds

abbrev pub function_items : ℕ → List Defined → List Item
function_items n [] = []
function_items n (f ∷ fs) = record { name = f.name; entity = n } ∷ function_items (n + 1) fs

-- two lists as one, by the places of their names
abbrev pub merged : List Item → List Item → List Item
merged [] functions = functions
merged (m ∷ memories) [] = m ∷ memories
merged (m ∷ memories) (f ∷ functions) =
    if is_before f.name.place m.name.place then f ∷ merged (m ∷ memories) functions else m ∷ merged memories (f ∷ functions)

-- memories from outside and functions in text order
abbrev pub items_of : Program → List Item
items_of p = merged (memory_items 0 p.decls) (function_items (length p.decls) p.functions)

abbrev pub after_items : List ScopeEntry → List Item → List ScopeEntry
after_items bs [] = bs
after_items bs (i ∷ is) = after_items (bind bs i.name.name i.entity) is

-- the entities of memories from outside and of functions
abbrev pub outer_entities : Program → List Entity
outer_entities p = map (λ d. entity d.name Memory) p.decls ++ map (λ f. entity f.name Function) p.functions

-- the point before the first function; no memory from outside is visible in functions
abbrev pub first_scope : Program → Scope
first_scope p = record { visible = []; entities = outer_entities p }

-- the point at which the program's body begins: all memories from outside and all functions are visible
abbrev pub body_scope : Program → Scope
body_scope p = record { visible = after_items [] (items_of p); entities = (after_functions (length p.decls) (first_scope p) p.functions).entities }

-- the point at the end of the program
abbrev pub last_scope : Program → Scope
last_scope p = at_end (body_scope p) p.body

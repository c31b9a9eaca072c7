-- Entities are numbered in text order: no command takes one away, and a memory or an iterator that a
-- command declares is one of those that are numbered at its end. So what stands for an entity that is
-- none of the program's is nothing.
use Rattle.std.proofs.Common.{◌≡◌, ℕ, suc, drop, ◌+◌, ◌<◌, ◌≤◌, false, if◌then◌else◌, List, [], ◌∷◌, ◌++◌, length, map, Option, Some, None, option_map, refl, ap, ◌∙◌, subst, arith, length-append}
use Rattle.std.proofs.lemmas.List.{length-map}
use Rattle.std.proofs.lemmas.Bool.Decides.{nat_tests}
use Rattle.std.specs.List.{AllByRecursion}
use Rattle.dh_tree.specs.declared.trees.counters.Counter.{Counter}
use Rattle.dh_tree.specs.declared.trees.expressions.Ref.{Ref}
use Rattle.dh_tree.specs.declared.trees.programs.Sort.{Sort}
use Rattle.dh_tree.specs.declared.trees.programs.Sort.TheVariants.{Variable, Iterator, View, Function}
use Rattle.dh_tree.specs.declared.trees.programs.Sort.TheVariants.{Memory as MemorySort}
use Rattle.dh_tree.specs.Counters.{counters, form_counters, other_counters, groups_counters, part_counters, counters_of, counter_in}
use Rattle.dh_tree.specs.Memories.{Memory, outside_memory, locals, form_locals, other_locals, groups_locals, part_locals, memories_of, same_entity, number_in}
use Rattle.dh_tree.specs.PlainTrees.{Action, action, ActionForm, lets, lets_memory, views, assigns, stores, reduces, calls, blocks, decides, repeats, counts, MaybeAction, no_action, one_action, Actions, no_actions, action_then, Groups, no_groups, group_then, Declared, Formal, Defined, Program}
use Rattle.dh_tree.specs.Resolved.{resolved_action, resolved_form, resolved_other, resolved_actions, resolved_groups, resolved_decls, HasEntities}
use Rattle.dh_tree.specs.Scopes.{Scope, entity, declare, leave, past, at_end, form_at_end, other_at_end, actions_at_end, groups_at_end, formal_sort, after_formals, body_start, after_function, after_functions, first_scope, body_scope, last_scope}

-- how many entities are numbered at a point
abbrev size : Scope → ℕ
size s = length s.entities

declare_grows : (s : Scope) (r : Ref) (sort : Sort) → size (declare s r sort) ≡ size s + 1
declare_grows s r sort = length-append s.entities _

past_size : (s inside : Scope) (a : Action) → size (past s a inside) ≡ size inside
past_size s inside (action id place (blocks body)) = refl
past_size s inside (action id place (lets name declared value)) = refl
past_size s inside (action id place (lets_memory name shape shape_places value)) = refl
past_size s inside (action id place (views name parent form)) = refl
past_size s inside (action id place (assigns target value)) = refl
past_size s inside (action id place (stores target value)) = refl
past_size s inside (action id place (reduces target o value)) = refl
past_size s inside (action id place (calls function arguments)) = refl
past_size s inside (action id place (decides test chosen other)) = refl
past_size s inside (action id place (repeats test body)) = refl
past_size s inside (action id place (counts iterator declared low high factor body combine combine_place)) = refl

mutual
  grows : (s : Scope) (a : Action) → size s ≤ size (at_end s a)
  grows s (action id place form) = form_grows s form

  form_grows : (s : Scope) (f : ActionForm) → size s ≤ size (form_at_end s f)
  form_grows s (lets name declared value) = let e = declare_grows s name Variable in omega (arith, e)
  form_grows s (lets_memory name shape shape_places value) = let e = declare_grows s name MemorySort in omega (arith, e)
  form_grows s (views name parent form) = let e = declare_grows s name View in omega (arith, e)
  form_grows s (assigns target value) = omega arith
  form_grows s (stores target value) = omega arith
  form_grows s (reduces target o value) = omega arith
  form_grows s (calls function arguments) = omega arith
  form_grows s (blocks body) = groups_grow s body
  form_grows s (decides test chosen other) =
      let first = grows s chosen in
      let second = other_grows (leave s (at_end s chosen)) other in
      omega (arith, first, second)
  form_grows s (repeats test body) = grows s body
  form_grows s (counts iterator declared low high factor body combine combine_place) =
      let e = declare_grows s iterator Iterator in
      let first = grows (declare s iterator Iterator) body in
      let second = other_grows (at_end (declare s iterator Iterator) body) combine in
      omega (arith, e, first, second)

  other_grows : (s : Scope) (m : MaybeAction) → size s ≤ size (other_at_end s m)
  other_grows s no_action = omega arith
  other_grows s (one_action a) = grows s a

  part_grows : (s : Scope) (p : Actions) → size s ≤ size (actions_at_end s p)
  part_grows s no_actions = omega arith
  part_grows s (action_then a rest) =
      let first = grows s a in
      let same = past_size s (at_end s a) a in
      let second = part_grows (past s a (at_end s a)) rest in
      omega (arith, first, same, second)

  groups_grow : (s : Scope) (g : Groups) → size s ≤ size (groups_at_end s g)
  groups_grow s no_groups = omega arith
  groups_grow s (group_then g rest) =
      let first = part_grows s g in
      let second = groups_grow (actions_at_end s g) rest in
      omega (arith, first, second)

formals_grow : (s : Scope) (fs : List Formal) → size s ≤ size (after_formals s fs)
formals_grow s [] = omega arith
formals_grow s (f ∷ fs) =
    let e = declare_grows s f.name (formal_sort f.shape) in
    let rest = formals_grow (declare s f.name (formal_sort f.shape)) fs in
    omega (arith, e, rest)

functions_grow : (n : ℕ) (s : Scope) (fs : List Defined) → size s ≤ size (after_functions n s fs)
functions_grow n s [] = omega arith
functions_grow n s (f ∷ fs) =
    let inner = formals_grow s f.parameters in
    let body = grows (body_start s f) f.body in
    let rest = functions_grow (n + 1) (after_function n s f) fs in
    omega (arith, inner, body, rest)

-- an entity is one of so many
abbrev IsBelow : ℕ → Option ℕ → Type 0
IsBelow k None = Unit {0}
IsBelow k (Some n) = n < k

abbrev MemoryBelow : ℕ → Memory → Type 0
MemoryBelow k m = IsBelow k m.name.entity

abbrev LoopBelow : ℕ → Counter → Type 0
LoopBelow k c = IsBelow k c.entity

below_more : (j k : ℕ) (e : Option ℕ) → j ≤ k → IsBelow j e → IsBelow k e
below_more j k None l h = tt
below_more j k (Some n) l h = omega (arith, l, h)

all_more : {A : Type 0} (key : A → Option ℕ) (j k : ℕ) (xs : List A) → j ≤ k → AllByRecursion (λ x. IsBelow j (key x)) xs → AllByRecursion (λ x. IsBelow k (key x)) xs
all_more key j k [] l h = tt
all_more key j k (x ∷ xs) l h = (below_more j k (key x) l h.0, all_more key j k xs l h.1)

both_below : {A : Type 0} (P : A → Type 0) (xs ys : List A) → AllByRecursion P xs → AllByRecursion P ys → AllByRecursion P (xs ++ ys)
both_below P [] ys h i = i
both_below P (x ∷ xs) ys h i = (h.0, both_below P xs ys h.1 i)

-- a declaration takes the next number
is_next : (s : Scope) (r : Ref) (sort : Sort) (e : Option ℕ) → Some (size s) ≡ e → IsBelow (size (declare s r sort)) e
is_next s r sort e h = let g = declare_grows s r sort in subst (IsBelow (size (declare s r sort))) h (omega (arith, g))

-- what a command declares, of a sort that is told by its key
module _ {A : Type 0} (key : A → Option ℕ) where
  abbrev AllBelow : ℕ → List A → Type 0
  AllBelow k xs = AllByRecursion (λ x. IsBelow k (key x)) xs

  two_below : (j k : ℕ) (xs ys : List A) → j ≤ k → AllBelow j xs → AllBelow k ys → AllBelow k (xs ++ ys)
  two_below j k xs ys l h i = both_below (λ x. IsBelow k (key x)) xs ys (all_more key j k xs l h) i

abbrev memory_key : Memory → Option ℕ
memory_key m = m.name.entity

abbrev loop_key : Counter → Option ℕ
loop_key c = c.entity

mutual
  locals_below : (s : Scope) (a : Action) → resolved_action s a ≡ a → AllBelow memory_key (size (at_end s a)) (locals a)
  locals_below s (action id place form) e = let same : resolved_form s form ≡ form = cc in form_locals_below s form same

  form_locals_below : (s : Scope) (f : ActionForm) → resolved_form s f ≡ f → AllBelow memory_key (size (form_at_end s f)) (form_locals f)
  form_locals_below s (lets name declared value) e = tt
  form_locals_below s (lets_memory name shape shape_places value) e =
      let entity : Some (size s) ≡ name.entity = cc in
      (is_next s name MemorySort name.entity entity, tt)
  form_locals_below s (views name parent form) e = tt
  form_locals_below s (assigns target value) e = tt
  form_locals_below s (stores target value) e = tt
  form_locals_below s (reduces target o value) e = tt
  form_locals_below s (calls function arguments) e = tt
  form_locals_below s (blocks body) e = groups_locals_below s body (let f = e in cc)
  form_locals_below s (decides test chosen other) e =
      let inner : Scope = leave s (at_end s chosen) in
      let first : resolved_action s chosen ≡ chosen = cc in
      let second : resolved_other inner other ≡ other = cc in
      two_below memory_key (size (at_end s chosen)) (size (other_at_end inner other)) (locals chosen) (other_locals other) (other_grows inner other) (locals_below s chosen first) (other_locals_below inner other second)
  form_locals_below s (repeats test body) e = let same : resolved_action s body ≡ body = cc in locals_below s body same
  form_locals_below s (counts iterator declared low high factor body combine combine_place) e =
      let d : Scope = declare s iterator Iterator in
      let first : resolved_action d body ≡ body = cc in
      let second : resolved_other (at_end d body) combine ≡ combine = cc in
      two_below memory_key (size (at_end d body)) (size (other_at_end (at_end d body) combine)) (locals body) (other_locals combine) (other_grows (at_end d body) combine) (locals_below d body first) (other_locals_below (at_end d body) combine second)

  other_locals_below : (s : Scope) (m : MaybeAction) → resolved_other s m ≡ m → AllBelow memory_key (size (other_at_end s m)) (other_locals m)
  other_locals_below s no_action e = tt
  other_locals_below s (one_action a) e = let same : resolved_action s a ≡ a = cc in locals_below s a same

  part_locals_below : (s : Scope) (p : Actions) → resolved_actions s p ≡ p → AllBelow memory_key (size (actions_at_end s p)) (part_locals p)
  part_locals_below s no_actions e = tt
  part_locals_below s (action_then a rest) e =
      let after : Scope = past s a (at_end s a) in
      let first : resolved_action s a ≡ a = cc in
      let second : resolved_actions after rest ≡ rest = cc in
      let same = past_size s (at_end s a) a in
      let more = part_grows after rest in
      two_below memory_key (size (at_end s a)) (size (actions_at_end after rest)) (locals a) (part_locals rest) (omega (arith, same, more)) (locals_below s a first) (part_locals_below after rest second)

  groups_locals_below : (s : Scope) (g : Groups) → resolved_groups s g ≡ g → AllBelow memory_key (size (groups_at_end s g)) (groups_locals g)
  groups_locals_below s no_groups e = tt
  groups_locals_below s (group_then g rest) e =
      let after : Scope = actions_at_end s g in
      let first : resolved_actions s g ≡ g = cc in
      let second : resolved_groups after rest ≡ rest = cc in
      two_below memory_key (size after) (size (groups_at_end after rest)) (part_locals g) (groups_locals rest) (groups_grow after rest) (part_locals_below s g first) (groups_locals_below after rest second)

mutual
  loops_below : (s : Scope) (a : Action) → resolved_action s a ≡ a → AllBelow loop_key (size (at_end s a)) (counters a)
  loops_below s (action id place form) e = let same : resolved_form s form ≡ form = cc in form_loops_below s form same

  form_loops_below : (s : Scope) (f : ActionForm) → resolved_form s f ≡ f → AllBelow loop_key (size (form_at_end s f)) (form_counters f)
  form_loops_below s (lets name declared value) e = tt
  form_loops_below s (lets_memory name shape shape_places value) e = tt
  form_loops_below s (views name parent form) e = tt
  form_loops_below s (assigns target value) e = tt
  form_loops_below s (stores target value) e = tt
  form_loops_below s (reduces target o value) e = tt
  form_loops_below s (calls function arguments) e = tt
  form_loops_below s (blocks body) e = groups_loops_below s body (let f = e in cc)
  form_loops_below s (decides test chosen other) e =
      let inner : Scope = leave s (at_end s chosen) in
      let first : resolved_action s chosen ≡ chosen = cc in
      let second : resolved_other inner other ≡ other = cc in
      two_below loop_key (size (at_end s chosen)) (size (other_at_end inner other)) (counters chosen) (other_counters other) (other_grows inner other) (loops_below s chosen first) (other_loops_below inner other second)
  form_loops_below s (repeats test body) e = let same : resolved_action s body ≡ body = cc in loops_below s body same
  form_loops_below s (counts iterator declared low high factor body combine combine_place) e =
      let d : Scope = declare s iterator Iterator in
      let named : Some (size s) ≡ iterator.entity = cc in
      let first : resolved_action d body ≡ body = cc in
      let second : resolved_other (at_end d body) combine ≡ combine = cc in
      let inside = grows d body in
      let behind = other_grows (at_end d body) combine in (
        below_more (size d) (size (other_at_end (at_end d body) combine)) iterator.entity (omega (arith, inside, behind)) (is_next s iterator Iterator iterator.entity named),
        two_below loop_key (size (at_end d body)) (size (other_at_end (at_end d body) combine)) (counters body) (other_counters combine) behind (loops_below d body first) (other_loops_below (at_end d body) combine second),
      )

  other_loops_below : (s : Scope) (m : MaybeAction) → resolved_other s m ≡ m → AllBelow loop_key (size (other_at_end s m)) (other_counters m)
  other_loops_below s no_action e = tt
  other_loops_below s (one_action a) e = let same : resolved_action s a ≡ a = cc in loops_below s a same

  part_loops_below : (s : Scope) (p : Actions) → resolved_actions s p ≡ p → AllBelow loop_key (size (actions_at_end s p)) (part_counters p)
  part_loops_below s no_actions e = tt
  part_loops_below s (action_then a rest) e =
      let after : Scope = past s a (at_end s a) in
      let first : resolved_action s a ≡ a = cc in
      let second : resolved_actions after rest ≡ rest = cc in
      let same = past_size s (at_end s a) a in
      let more = part_grows after rest in
      two_below loop_key (size (at_end s a)) (size (actions_at_end after rest)) (counters a) (part_counters rest) (omega (arith, same, more)) (loops_below s a first) (part_loops_below after rest second)

  groups_loops_below : (s : Scope) (g : Groups) → resolved_groups s g ≡ g → AllBelow loop_key (size (groups_at_end s g)) (groups_counters g)
  groups_loops_below s no_groups e = tt
  groups_loops_below s (group_then g rest) e =
      let after : Scope = actions_at_end s g in
      let first : resolved_actions s g ≡ g = cc in
      let second : resolved_groups after rest ≡ rest = cc in
      two_below loop_key (size after) (size (groups_at_end after rest)) (part_counters g) (groups_counters rest) (groups_grow after rest) (part_loops_below s g first) (groups_loops_below after rest second)

abbrev first_entity : List Declared → Option ℕ
first_entity [] = None
first_entity (d ∷ ds) = d.name.entity

-- memories from outside are the first entities
decls_below : (n : ℕ) (ds : List Declared) → resolved_decls n ds ≡ ds → AllBelow memory_key (n + length ds) (map outside_memory ds)
decls_below n [] e = tt
decls_below n (d ∷ ds) e =
    let named : Some n ≡ d.name.entity = ap first_entity e in
    let rest : resolved_decls (n + 1) ds ≡ ds = ap (drop 1) e in
    let more : n + 1 + length ds ≡ n + suc (length ds) = omega arith in
    (subst (IsBelow (n + suc (length ds))) named (omega arith), subst (λ (k : ℕ). AllBelow memory_key k (map outside_memory ds)) more (decls_below (n + 1) ds rest))

outer_long : (p : Program) → length p.decls ≤ size (body_scope p)
outer_long p =
    let both = length-append (map (λ (d : Declared). entity d.name MemorySort) p.decls) (map (λ (f : Defined). entity f.name Function) p.functions) in
    let first = length-map p.decls (λ (d : Declared). entity d.name MemorySort) in
    let more = functions_grow (length p.decls) (first_scope p) p.functions in
    omega (arith, both, first, more)

-- nothing stands for an entity that is not below
is_absent : (k e : ℕ) (o : Option ℕ) → k ≤ e → IsBelow k o → same_entity o (Some e) ≡ false
is_absent k e None l h = refl
is_absent k e (Some n) l h = grind (arith, nat_tests, l, h)

no_memory : (k e : ℕ) (ms : List Memory) → k ≤ e → AllBelow memory_key k ms → number_in ms (Some e) ≡ None
no_memory k e [] l h = refl
no_memory k e (m ∷ ms) l h =
    ap (λ b. if b then Some 0 else option_map suc (number_in ms (Some e))) (is_absent k e m.name.entity l h.0) ∙ ap (option_map suc) (no_memory k e ms l h.1)

no_loop : (k e : ℕ) (cs : List Counter) → k ≤ e → AllBelow loop_key k cs → counter_in cs (Some e) ≡ None
no_loop k e [] l h = refl
no_loop k e (c ∷ cs) l h =
    ap (λ b. if b then Some c else counter_in cs (Some e)) (is_absent k e c.entity l h.0) ∙ no_loop k e cs l h.1

-- the entities of a program
all_named : (p : Program) → HasEntities p → size (last_scope p) ≡ length p.entities
all_named p h = ap (λ (x : Program). length x.entities) h

pub memories_within : (p : Program) → HasEntities p → (e : ℕ) → length p.entities ≤ e → number_in (memories_of p) (Some e) ≡ None
memories_within p h e l =
    let outer = decls_below 0 p.decls (ap (λ (x : Program). x.decls) h) in
    let inner = locals_below (body_scope p) p.body (ap (λ (x : Program). x.body) h) in
    let named = all_named p h in
    let long = outer_long p in
    let more = grows (body_scope p) p.body in
    no_memory (size (last_scope p)) e (memories_of p) (omega (arith, named, l))
    (two_below memory_key (0 + length p.decls) (size (last_scope p)) (map outside_memory p.decls) (locals p.body) (omega (arith, long, more)) outer inner)

pub loops_within : (p : Program) → HasEntities p → (e : ℕ) → length p.entities ≤ e → counter_in (counters_of p) (Some e) ≡ None
loops_within p h e l =
    let named = all_named p h in
    no_loop (size (last_scope p)) e (counters_of p) (omega (arith, named, l)) (loops_below (body_scope p) p.body (ap (λ (x : Program). x.body) h))

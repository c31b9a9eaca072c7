-- What a command declares is counted among the entities at its end. So a program of which no entity is an
-- iterator has no loop, and one with no more memories than it declares outside has no local one.
use Rattle.std.proofs.Common.{◌≡◌, ℕ, ◌+◌, ◌≤◌, List, [], ◌∷◌, ◌++◌, length, map, refl, ap, sym, ◌∙◌, subst, arith, append-nil, length-append}
use Rattle.std.proofs.Math.Nat.{zero-add}
use Rattle.std.proofs.lemmas.List.{length-map}
use Rattle.dh_tree.specs.declared.trees.expressions.Ref.{Ref}
use Rattle.dh_tree.specs.declared.trees.programs.Decl.{Decl}
use Rattle.dh_tree.specs.declared.trees.programs.Entity.{Entity}
use Rattle.dh_tree.specs.declared.trees.programs.Sort.{Sort}
use Rattle.dh_tree.specs.declared.trees.programs.Sort.TheVariants.{Variable, Iterator, View, Function}
use Rattle.dh_tree.specs.declared.trees.programs.Sort.TheVariants.{Memory as MemorySort}
use Rattle.dh_tree.specs.declared.trees.programs.Tree.{Tree}
use Rattle.dh_tree.specs.Collected.{outside_memories}
use Rattle.dh_tree.specs.Counters.{counters, form_counters, other_counters, groups_counters, part_counters}
use Rattle.dh_tree.specs.EntitySorts.{one_loop, one_memory, counted_by}
use Rattle.dh_tree.specs.Memories.{locals, form_locals, other_locals, groups_locals, part_locals, memories_of}
use Rattle.dh_tree.specs.PlainTrees.{Action, action, ActionForm, lets, lets_memory, views, assigns, stores, reduces, calls, blocks, decides, repeats, counts, MaybeAction, no_action, one_action, Actions, no_actions, action_then, Groups, no_groups, group_then, Declared, Formal, Defined, Program}
use Rattle.dh_tree.specs.Resolved.{HasEntities}
use Rattle.dh_tree.specs.Scopes.{Scope, entity, declare, leave, past, at_end, form_at_end, other_at_end, actions_at_end, groups_at_end, formal_sort, after_formals, body_start, after_function, after_functions, first_scope, body_scope, last_scope}
use Rattle.dh_tree.specs.Seen.{action_seen, declared_seen, program_seen}

counted_both : (count : Sort → ℕ) (es fs : List Entity) → counted_by count (es ++ fs) ≡ counted_by count es + counted_by count fs
counted_both count [] fs = sym (zero-add (counted_by count fs))
counted_both count (e ∷ es) fs = let rest = counted_both count es fs in omega (arith, rest)

-- what the entities count that are numbered at a point
abbrev pub count_at : (Sort → ℕ) → Scope → ℕ
count_at count s = counted_by count s.entities

pub declare_counts : (count : Sort → ℕ) (s : Scope) (r : Ref) (sort : Sort) → count_at count (declare s r sort) ≡ count_at count s + (count sort + 0)
declare_counts count s r sort = counted_both count s.entities (entity r sort ∷ [])

pub past_counts : (count : Sort → ℕ) (s inside : Scope) (a : Action) → count_at count (past s a inside) ≡ count_at count inside
past_counts count s inside (action id place (blocks body)) = refl
past_counts count s inside (action id place (lets name declared value)) = refl
past_counts count s inside (action id place (lets_memory name shape shape_places value)) = refl
past_counts count s inside (action id place (views name parent form)) = refl
past_counts count s inside (action id place (assigns target value)) = refl
past_counts count s inside (action id place (stores target value)) = refl
past_counts count s inside (action id place (reduces target o value)) = refl
past_counts count s inside (action id place (calls function arguments)) = refl
past_counts count s inside (action id place (decides test chosen other)) = refl
past_counts count s inside (action id place (repeats test body)) = refl
past_counts count s inside (action id place (counts iterator declared low high factor body combine combine_place)) = refl

abbrev loops_at : Scope → ℕ
loops_at s = count_at one_loop s

abbrev memories_at : Scope → ℕ
memories_at s = count_at one_memory s

mutual
  loops_counted : (s : Scope) (a : Action) → loops_at s + length (counters a) ≤ loops_at (at_end s a)
  loops_counted s (action id place form) = form_loops s form

  form_loops : (s : Scope) (f : ActionForm) → loops_at s + length (form_counters f) ≤ loops_at (form_at_end s f)
  form_loops s (lets name declared value) = let e = declare_counts one_loop s name Variable in omega (arith, e)
  form_loops s (lets_memory name shape shape_places value) = let e = declare_counts one_loop s name MemorySort in omega (arith, e)
  form_loops s (views name parent form) = let e = declare_counts one_loop s name View in omega (arith, e)
  form_loops s (assigns target value) = omega arith
  form_loops s (stores target value) = omega arith
  form_loops s (reduces target o value) = omega arith
  form_loops s (calls function arguments) = omega arith
  form_loops s (blocks body) = groups_loops s body
  form_loops s (decides test chosen other) =
      let first = loops_counted s chosen in
      let second = other_loops (leave s (at_end s chosen)) other in
      let long = length-append (counters chosen) (other_counters other) in
      omega (arith, first, second, long)
  form_loops s (repeats test body) = loops_counted s body
  form_loops s (counts iterator declared low high factor body combine combine_place) =
      let e = declare_counts one_loop s iterator Iterator in
      let first = loops_counted (declare s iterator Iterator) body in
      let second = other_loops (at_end (declare s iterator Iterator) body) combine in
      let long = length-append (counters body) (other_counters combine) in
      omega (arith, e, first, second, long)

  other_loops : (s : Scope) (m : MaybeAction) → loops_at s + length (other_counters m) ≤ loops_at (other_at_end s m)
  other_loops s no_action = omega arith
  other_loops s (one_action a) = loops_counted s a

  part_loops : (s : Scope) (p : Actions) → loops_at s + length (part_counters p) ≤ loops_at (actions_at_end s p)
  part_loops s no_actions = omega arith
  part_loops s (action_then a rest) =
      let first = loops_counted s a in
      let same = past_counts one_loop s (at_end s a) a in
      let second = part_loops (past s a (at_end s a)) rest in
      let long = length-append (counters a) (part_counters rest) in
      omega (arith, first, same, second, long)

  groups_loops : (s : Scope) (g : Groups) → loops_at s + length (groups_counters g) ≤ loops_at (groups_at_end s g)
  groups_loops s no_groups = omega arith
  groups_loops s (group_then g rest) =
      let first = part_loops s g in
      let second = groups_loops (actions_at_end s g) rest in
      let long = length-append (part_counters g) (groups_counters rest) in
      omega (arith, first, second, long)

mutual
  locals_counted : (s : Scope) (a : Action) → memories_at s + length (locals a) ≤ memories_at (at_end s a)
  locals_counted s (action id place form) = form_memories s form

  form_memories : (s : Scope) (f : ActionForm) → memories_at s + length (form_locals f) ≤ memories_at (form_at_end s f)
  form_memories s (lets name declared value) = let e = declare_counts one_memory s name Variable in omega (arith, e)
  form_memories s (lets_memory name shape shape_places value) = let e = declare_counts one_memory s name MemorySort in omega (arith, e)
  form_memories s (views name parent form) = let e = declare_counts one_memory s name View in omega (arith, e)
  form_memories s (assigns target value) = omega arith
  form_memories s (stores target value) = omega arith
  form_memories s (reduces target o value) = omega arith
  form_memories s (calls function arguments) = omega arith
  form_memories s (blocks body) = groups_memories s body
  form_memories s (decides test chosen other) =
      let first = locals_counted s chosen in
      let second = other_memories (leave s (at_end s chosen)) other in
      let long = length-append (locals chosen) (other_locals other) in
      omega (arith, first, second, long)
  form_memories s (repeats test body) = locals_counted s body
  form_memories s (counts iterator declared low high factor body combine combine_place) =
      let e = declare_counts one_memory s iterator Iterator in
      let first = locals_counted (declare s iterator Iterator) body in
      let second = other_memories (at_end (declare s iterator Iterator) body) combine in
      let long = length-append (locals body) (other_locals combine) in
      omega (arith, e, first, second, long)

  other_memories : (s : Scope) (m : MaybeAction) → memories_at s + length (other_locals m) ≤ memories_at (other_at_end s m)
  other_memories s no_action = omega arith
  other_memories s (one_action a) = locals_counted s a

  part_memories : (s : Scope) (p : Actions) → memories_at s + length (part_locals p) ≤ memories_at (actions_at_end s p)
  part_memories s no_actions = omega arith
  part_memories s (action_then a rest) =
      let first = locals_counted s a in
      let same = past_counts one_memory s (at_end s a) a in
      let second = part_memories (past s a (at_end s a)) rest in
      let long = length-append (locals a) (part_locals rest) in
      omega (arith, first, same, second, long)

  groups_memories : (s : Scope) (g : Groups) → memories_at s + length (groups_locals g) ≤ memories_at (groups_at_end s g)
  groups_memories s no_groups = omega arith
  groups_memories s (group_then g rest) =
      let first = part_memories s g in
      let second = groups_memories (actions_at_end s g) rest in
      let long = length-append (part_locals g) (groups_locals rest) in
      omega (arith, first, second, long)

-- the memories that are counted where the body begins
formals_count : (s : Scope) (fs : List Formal) → memories_at s ≤ memories_at (after_formals s fs)
formals_count s [] = omega arith
formals_count s (f ∷ fs) =
    let e = declare_counts one_memory s f.name (formal_sort f.shape) in
    let rest = formals_count (declare s f.name (formal_sort f.shape)) fs in
    omega (arith, e, rest)

functions_count : (n : ℕ) (s : Scope) (fs : List Defined) → memories_at s ≤ memories_at (after_functions n s fs)
functions_count n s [] = omega arith
functions_count n s (f ∷ fs) =
    let inner = formals_count s f.parameters in
    let body = locals_counted (body_start s f) f.body in
    let rest = functions_count (n + 1) (after_function n s f) fs in
    omega (arith, inner, body, rest)

outer_count : (ds : List Declared) → counted_by one_memory (map (λ (d : Declared). entity d.name MemorySort) ds) ≡ length ds
outer_count [] = refl
outer_count (d ∷ ds) = let rest = outer_count ds in omega (arith, rest)

outer_counted : (p : Program) → length p.decls ≤ memories_at (body_scope p)
outer_counted p =
    let both = counted_both one_memory (map (λ (d : Declared). entity d.name MemorySort) p.decls) (map (λ (f : Defined). entity f.name Function) p.functions) in
    let outer = outer_count p.decls in
    let more = functions_count (length p.decls) (first_scope p) p.functions in
    omega (arith, both, outer, more)

pub is_none : {A : Type 0} (xs : List A) → length xs ≤ 0 → xs ≡ []
is_none [] l = refl
is_none (x ∷ xs) l = absurd (omega (arith, l))

loops_none : (p : Program) → HasEntities p → counted_by one_loop p.entities ≤ 0 → counters p.body ≡ []
loops_none p h few =
    let named : loops_at (last_scope p) ≡ counted_by one_loop p.entities = ap (λ (x : Program). counted_by one_loop x.entities) h in
    let all = loops_counted (body_scope p) p.body in
    is_none (counters p.body) (omega (arith, named, all, few))

locals_none : (p : Program) → HasEntities p → counted_by one_memory p.entities ≤ length p.decls → locals p.body ≡ []
locals_none p h few =
    let named : memories_at (last_scope p) ≡ counted_by one_memory p.entities = ap (λ (x : Program). counted_by one_memory x.entities) h in
    let outer = outer_counted p in
    let all = locals_counted (body_scope p) p.body in
    is_none (locals p.body) (omega (arith, named, outer, all, few))

-- a tree with these entities, and these memories from outside
pub no_loops_in : (t : Tree) (es : List Entity) → HasEntities (program_seen t) → es ≡ t.entities.items → counted_by one_loop es ≤ 0 → counters (action_seen t.body) ≡ []
no_loops_in t es h same few =
    loops_none (program_seen t) h (subst (λ (l : List Entity). counted_by one_loop l ≤ 0) same few)

pub no_locals_in : (t : Tree) (es : List Entity) (ds : List Decl) → HasEntities (program_seen t) → es ≡ t.entities.items → ds ≡ t.decls.items
    → counted_by one_memory es ≤ length ds → outside_memories ds ≡ memories_of (program_seen t)
no_locals_in t es ds h same declared few =
    let long : length (map declared_seen t.decls.items) ≡ length t.decls.items = length-map t.decls.items declared_seen in
    let outer : length ds ≡ length t.decls.items = ap (λ (l : List Decl). length l) declared in
    let within : counted_by one_memory es ≤ length (map declared_seen t.decls.items) = omega (arith, long, outer, few) in
    let none : locals (action_seen t.body) ≡ [] = locals_none (program_seen t) h (subst (λ (l : List Entity). counted_by one_memory l ≤ length (map declared_seen t.decls.items)) same within) in
    ap outside_memories declared
    ∙ (sym (append-nil (outside_memories t.decls.items)) ∙ ap (λ ms. outside_memories t.decls.items ++ ms) (sym none))

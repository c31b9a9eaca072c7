-- Each view that a command declares is counted among the entities at its end. So a program of which no entity is a
-- view declares none.
use Rattle.std.proofs.Common.{◌≡◌, ℕ, ◌+◌, ◌≤◌, List, [], ◌∷◌, length, ap, subst, arith, length-append}
use Rattle.dh_tree.specs.declared.trees.programs.Entity.{Entity}
use Rattle.dh_tree.specs.declared.trees.programs.Sort.{Sort}
use Rattle.dh_tree.specs.declared.trees.programs.Sort.TheVariants.{Variable, Iterator, View, Function}
use Rattle.dh_tree.specs.declared.trees.programs.Sort.TheVariants.{Memory as MemorySort}
use Rattle.dh_tree.specs.declared.trees.programs.Tree.{Tree}
use Rattle.dh_tree.specs.EntitySorts.{one_view, counted_by}
use Rattle.dh_tree.specs.PlainTrees.{Action, action, ActionForm, lets, lets_memory, views, assigns, stores, reduces, calls, blocks, decides, repeats, counts, MaybeAction, no_action, one_action, Actions, no_actions, action_then, Groups, no_groups, group_then, Program}
use Rattle.dh_tree.specs.Resolved.{HasEntities}
use Rattle.dh_tree.specs.Scopes.{Scope, declare, leave, past, at_end, form_at_end, other_at_end, actions_at_end, groups_at_end, body_scope, last_scope}
use Rattle.dh_tree.specs.Seen.{program_seen}
use Rattle.dh_tree.specs.Views.{viewings, form_viewings, other_viewings, groups_viewings, part_viewings, views_of}
use Rattle.dh_tree.proofs.SortsDeclared.{count_at, declare_counts, past_counts, is_none}

abbrev views_at : Scope → ℕ
views_at s = count_at one_view s

mutual
  views_counted : (s : Scope) (a : Action) → views_at s + length (viewings a) ≤ views_at (at_end s a)
  views_counted s (action id place form) = form_views s form

  form_views : (s : Scope) (f : ActionForm) → views_at s + length (form_viewings f) ≤ views_at (form_at_end s f)
  form_views s (lets name declared value) = let e = declare_counts one_view s name Variable in omega (arith, e)
  form_views s (lets_memory name shape shape_places value) = let e = declare_counts one_view s name MemorySort in omega (arith, e)
  form_views s (views name parent form) = let e = declare_counts one_view s name View in omega (arith, e)
  form_views s (assigns target value) = omega arith
  form_views s (stores target value) = omega arith
  form_views s (reduces target o value) = omega arith
  form_views s (calls function arguments) = omega arith
  form_views s (blocks body) = groups_views s body
  form_views s (decides test chosen other) =
      let first = views_counted s chosen in
      let second = other_views (leave s (at_end s chosen)) other in
      let long = length-append (viewings chosen) (other_viewings other) in
      omega (arith, first, second, long)
  form_views s (repeats test body) = views_counted s body
  form_views s (counts iterator declared low high factor body combine combine_place) =
      let e = declare_counts one_view s iterator Iterator in
      let first = views_counted (declare s iterator Iterator) body in
      let second = other_views (at_end (declare s iterator Iterator) body) combine in
      let long = length-append (viewings body) (other_viewings combine) in
      omega (arith, e, first, second, long)

  other_views : (s : Scope) (m : MaybeAction) → views_at s + length (other_viewings m) ≤ views_at (other_at_end s m)
  other_views s no_action = omega arith
  other_views s (one_action a) = views_counted s a

  part_views : (s : Scope) (p : Actions) → views_at s + length (part_viewings p) ≤ views_at (actions_at_end s p)
  part_views s no_actions = omega arith
  part_views s (action_then a rest) =
      let first = views_counted s a in
      let same = past_counts one_view s (at_end s a) a in
      let second = part_views (past s a (at_end s a)) rest in
      let long = length-append (viewings a) (part_viewings rest) in
      omega (arith, first, same, second, long)

  groups_views : (s : Scope) (g : Groups) → views_at s + length (groups_viewings g) ≤ views_at (groups_at_end s g)
  groups_views s no_groups = omega arith
  groups_views s (group_then g rest) =
      let first = part_views s g in
      let second = groups_views (actions_at_end s g) rest in
      let long = length-append (part_viewings g) (groups_viewings rest) in
      omega (arith, first, second, long)

views_many : (p : Program) → HasEntities p → length (views_of p) ≤ counted_by one_view p.entities
views_many p h =
    let named : views_at (last_scope p) ≡ counted_by one_view p.entities = ap (λ (x : Program). counted_by one_view x.entities) h in
    let all = views_counted (body_scope p) p.body in
    omega (arith, named, all)

views_none : (p : Program) → HasEntities p → counted_by one_view p.entities ≤ 0 → views_of p ≡ []
views_none p h few = let many = views_many p h in is_none (viewings p.body) (omega (arith, many, few))

-- a tree with these entities
pub no_views_in : (t : Tree) (es : List Entity) → HasEntities (program_seen t) → es ≡ t.entities.items → counted_by one_view es ≤ 0 → views_of (program_seen t) ≡ []
no_views_in t es h same few =
    views_none (program_seen t) h (subst (λ (l : List Entity). counted_by one_view l ≤ 0) same few)

entities_counted : (es : List Entity) → counted_by one_view es ≤ length es
entities_counted [] = omega arith
entities_counted (e ∷ es) = let rest = entities_counted es in let one = at_most_one e.sort in omega (arith, rest, one)
  where
    at_most_one : (s : Sort) → one_view s ≤ 1
    at_most_one Variable = omega arith
    at_most_one Iterator = omega arith
    at_most_one MemorySort = omega arith
    at_most_one View = omega arith
    at_most_one Function = omega arith

-- a program declares no more views than it has entities
pub views_few : (p : Program) → HasEntities p → length (views_of p) ≤ length p.entities
views_few p h = let many = views_many p h in let all = entities_counted p.entities in omega (arith, many, all)

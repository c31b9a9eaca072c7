-- The iterators of a program's loops are numbered in text order, so that each loop is found by its iterator.
use Rattle.std.proofs.Common.{◌≡◌, ℕ, zero, suc, ◌+◌, ◌≤◌, ◌==◌, Bool, true, false, if◌then◌else◌, List, [], ◌∷◌, ◌++◌, length, Option, Some, None, refl, ap, sym, ◌∙◌, subst, length-append, arith}
use Rattle.std.specs.Prelude.{slice_get}
use Rattle.std.proofs.lemmas.Bool.{ne_eqb}
use Rattle.std.proofs.lemmas.Bool.Decides.{nat_tests}
use Rattle.dh_tree.specs.declared.trees.counters.Counter.{Counter}
use Rattle.dh_tree.specs.declared.trees.expressions.Ref.{Ref}
use Rattle.dh_tree.specs.declared.trees.programs.Sort.{Sort}
use Rattle.dh_tree.specs.declared.trees.programs.Sort.TheVariants.{Variable, Iterator, View}
use Rattle.dh_tree.specs.declared.trees.programs.Sort.TheVariants.{Memory as MemorySort}
use Rattle.dh_tree.specs.Counters.{counters, form_counters, other_counters, groups_counters, part_counters, counter_in}
use Rattle.dh_tree.specs.Memories.{same_entity}
use Rattle.dh_tree.specs.PlainTrees.{Action, action, ActionForm, lets, lets_memory, views, assigns, stores, reduces, calls, blocks, decides, repeats, counts, MaybeAction, no_action, one_action, Actions, no_actions, action_then, Groups, no_groups, group_then}
use Rattle.dh_tree.specs.Resolved.{resolved_action, resolved_form, resolved_other, resolved_actions, resolved_groups}
use Rattle.dh_tree.specs.Scopes.{Scope, declare, leave, past, at_end, form_at_end, other_at_end, actions_at_end, groups_at_end}
use Rattle.dh_gathering.specs.MadeBlocks.{IsAmong}

-- how many entities are numbered at a point
abbrev pub size : Scope → ℕ
size s = length s.entities

declare_grows : (s : Scope) (r : Ref) (sort : Sort) → size (declare s r sort) ≡ size s + 1
declare_grows s r sort = length-append s.entities _

pub declare_more : (s : Scope) (r : Ref) (sort : Sort) → size (declare s r sort) ≡ suc (size s)
declare_more s r sort = one_more (size s) (size (declare s r sort)) (declare_grows s r sort)
  where
    one_more : (n m : ℕ) → m ≡ n + 1 → m ≡ suc n
    one_more n m h = omega (arith, h)

pub declared_least : (s : Scope) (r : Ref) (sort : Sort) → size s ≤ size (declare s r sort)
declared_least s r sort = let e = declare_grows s r sort in omega (arith, e)

pub same_size : (s : Scope) → size s ≤ size s
same_size s = omega arith

pub past_size : (s inside : Scope) (a : Action) → size (past s a inside) ≡ size inside
past_size s inside (action id place (blocks body)) = refl
past_size s inside (action id place (lets name declared value)) = refl
past_size s inside (action id place (lets_memory name shape shape_places value)) = refl
past_size s inside (action id place (views name parent form)) = refl
past_size s inside (action id place (assigns target value)) = refl
past_size s inside (action id place (stores target value)) = refl
past_size s inside (action id place (reduces target o value)) = refl
past_size s inside (action id place (calls function arguments)) = refl
past_size s inside (action id place (decides test chosen other)) = refl
past_size s inside (action id place (repeats test body)) = refl
past_size s inside (action id place (counts iterator declared low high factor body combine combine_place)) = refl

-- loops with iterators of these numbers, each behind those before it
abbrev pub CountersFrom : (low high : ℕ) → List Counter → Type 0
CountersFrom low high [] = low ≤ high
CountersFrom low high (c ∷ cs) = (n : ℕ) × ((c.entity ≡ Some n) × ((low ≤ n) × CountersFrom (suc n) high cs))

counters_lower : (low from high : ℕ) (cs : List Counter) → low ≤ from → CountersFrom from high cs → CountersFrom low high cs
counters_lower low from high [] l h = omega (arith, l, h)
counters_lower low from high (c ∷ cs) l (n, (is, (at, rest))) = (n, (is, (least at, rest)))
  where
    least : from ≤ n → low ≤ n
    least e = omega (arith, l, e)

counters_append : (low middle high : ℕ) (xs ys : List Counter) → CountersFrom low middle xs → CountersFrom middle high ys → CountersFrom low high (xs ++ ys)
counters_append low middle high [] ys h k = counters_lower low middle high ys h k
counters_append low middle high (c ∷ cs) ys (n, (is, (at, rest))) k = (n, (is, (at, counters_append (suc n) middle high cs ys rest k)))

mutual
  pub ascend : (s : Scope) (a : Action) → resolved_action s a ≡ a → CountersFrom (size s) (size (at_end s a)) (counters a)
  ascend s (action id place form) e = let same : resolved_form s form ≡ form = cc in form_ascend s form same

  form_ascend : (s : Scope) (f : ActionForm) → resolved_form s f ≡ f → CountersFrom (size s) (size (form_at_end s f)) (form_counters f)
  form_ascend s (lets name declared value) e = declared_least s name Variable
  form_ascend s (lets_memory name shape shape_places value) e = declared_least s name MemorySort
  form_ascend s (views name parent form) e = declared_least s name View
  form_ascend s (assigns target value) e = same_size s
  form_ascend s (stores target value) e = same_size s
  form_ascend s (reduces target o value) e = same_size s
  form_ascend s (calls function arguments) e = same_size s
  form_ascend s (blocks body) e = groups_ascend s body (let f = e in cc)
  form_ascend s (decides test chosen other) e =
      let inner : Scope = leave s (at_end s chosen) in
      let first : resolved_action s chosen ≡ chosen = cc in
      let second : resolved_other inner other ≡ other = cc in
      counters_append (size s) (size (at_end s chosen)) (size (other_at_end inner other)) (counters chosen) (other_counters other) (ascend s chosen first) (other_ascend inner other second)
  form_ascend s (repeats test body) e = let same : resolved_action s body ≡ body = cc in ascend s body same
  form_ascend s (counts iterator declared low high factor body combine combine_place) e =
      let d : Scope = declare s iterator Iterator in
      let named : Some (size s) ≡ iterator.entity = cc in
      let first : resolved_action d body ≡ body = cc in
      let second : resolved_other (at_end d body) combine ≡ combine = cc in
      let one : size d ≡ suc (size s) = declare_more s iterator Iterator in (
        size s,
        (
          sym named,
          (
            same_size s,
            subst (λ (n : ℕ). CountersFrom n (size (other_at_end (at_end d body) combine)) (counters body ++ other_counters combine)) one
                (counters_append (size d) (size (at_end d body)) (size (other_at_end (at_end d body) combine)) (counters body) (other_counters combine) (ascend d body first) (other_ascend (at_end d body) combine second)),
          ),
        ),
      )

  other_ascend : (s : Scope) (m : MaybeAction) → resolved_other s m ≡ m → CountersFrom (size s) (size (other_at_end s m)) (other_counters m)
  other_ascend s no_action e = same_size s
  other_ascend s (one_action a) e = let same : resolved_action s a ≡ a = cc in ascend s a same

  part_ascend : (s : Scope) (p : Actions) → resolved_actions s p ≡ p → CountersFrom (size s) (size (actions_at_end s p)) (part_counters p)
  part_ascend s no_actions e = same_size s
  part_ascend s (action_then a rest) e =
      let after : Scope = past s a (at_end s a) in
      let first : resolved_action s a ≡ a = cc in
      let second : resolved_actions after rest ≡ rest = cc in
      counters_append (size s) (size after) (size (actions_at_end after rest)) (counters a) (part_counters rest)
      (subst (λ (n : ℕ). CountersFrom (size s) n (counters a)) (sym (past_size s (at_end s a) a)) (ascend s a first)) (part_ascend after rest second)

  groups_ascend : (s : Scope) (g : Groups) → resolved_groups s g ≡ g → CountersFrom (size s) (size (groups_at_end s g)) (groups_counters g)
  groups_ascend s no_groups e = same_size s
  groups_ascend s (group_then g rest) e =
      let after : Scope = actions_at_end s g in
      let first : resolved_actions s g ≡ g = cc in
      let second : resolved_groups after rest ≡ rest = cc in
      counters_append (size s) (size after) (size (groups_at_end after rest)) (part_counters g) (groups_counters rest) (part_ascend s g first) (groups_ascend after rest second)

-- Each is found by its iterator.

at_least : (low high : ℕ) (cs : List Counter) (i n : ℕ) (c : Counter) → CountersFrom low high cs → slice_get cs i ≡ Some c → c.entity ≡ Some n → low ≤ n
at_least low high [] i n c h at is = absurd cc
at_least low high (d ∷ cs) zero n c (m, (named, (from, rest))) at is = by (one at)
  where
    counter_or : Option Counter → Counter
    counter_or None = d
    counter_or (Some x) = x

    number_or : Option ℕ → ℕ
    number_or None = n
    number_or (Some x) = x

    one : Some d ≡ Some c → m ≡ n
    one e = ap number_or (sym named ∙ (ap (λ (x : Counter). x.entity) (ap counter_or e) ∙ is))

    by : m ≡ n → low ≤ n
    by e = subst (λ (x : ℕ). low ≤ x) e from
at_least low high (d ∷ cs) (suc i) n c (m, (named, (from, rest))) at is = behind (at_least (suc m) high cs i n c rest at is)
  where
    behind : suc m ≤ n → low ≤ n
    behind e = omega (arith, from, e)

same_some : (n : ℕ) (e : Option ℕ) → e ≡ Some n → same_entity e (Some n) ≡ true
same_some n e is = ap (λ (x : Option ℕ). same_entity x (Some n)) is ∙ same n
  where
    same : (n : ℕ) → (n == n) ≡ true
    same n = grind (arith, nat_tests)

other_some : (n m : ℕ) (e : Option ℕ) → e ≡ Some m → (m ≡ n → ⊥) → same_entity e (Some n) ≡ false
other_some n m e is other = ap (λ (x : Option ℕ). same_entity x (Some n)) is ∙ ne_eqb m n other

found_at : (low high : ℕ) (cs : List Counter) (i n : ℕ) (c : Counter) → CountersFrom low high cs → slice_get cs i ≡ Some c → c.entity ≡ Some n → counter_in cs (Some n) ≡ Some c
found_at low high [] i n c h at is = absurd cc
found_at low high (d ∷ cs) zero n c h at is = ap (λ (b : Bool). if b then Some d else counter_in cs (Some n)) (same_some n d.entity (entity_is at)) ∙ at
  where
    counter_or : Option Counter → Counter
    counter_or None = d
    counter_or (Some x) = x

    entity_is : Some d ≡ Some c → d.entity ≡ Some n
    entity_is e = ap (λ (x : Counter). x.entity) (ap counter_or e) ∙ is
found_at low high (d ∷ cs) (suc i) n c (m, (named, (from, rest))) at is =
    ap (λ (b : Bool). if b then Some d else counter_in cs (Some n)) (other_some n m d.entity named (before (at_least (suc m) high cs i n c rest at is))) ∙ found_at (suc m) high cs i n c rest at is
  where
    before : suc m ≤ n → m ≡ n → ⊥
    before l e = omega (arith, l, e)

pub counter_found : (low high : ℕ) (cs : List Counter) (n : ℕ) (c : Counter) → CountersFrom low high cs → IsAmong cs c → c.entity ≡ Some n → counter_in cs (Some n) ≡ Some c
counter_found low high cs n c h (i, at) is = found_at low high cs i n c h at is

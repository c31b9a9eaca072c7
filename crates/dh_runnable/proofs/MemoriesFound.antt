-- The first memory of a program that is an entity is the one that its declaration declares. Entities are numbered in text
-- order: the memories of the entities to come are those of the commands to come. By one walk over the commands, with
-- the memories behind each.
use Rattle.std.proofs.Common.{◌≡◌, ℕ, zero, suc, ◌+◌, ◌<◌, ◌≤◌, Bool, false, if◌then◌else◌, List, [], ◌∷◌, ◌++◌, length, map, Some, None, refl, sym, ap, ◌∙◌, subst, arith, length-append, append_assoc}
use Rattle.std.specs.Prelude.{slice_get}
use Rattle.std.proofs.lemmas.Bool.Decides.{nat_tests}
use Rattle.dh_tree.specs.declared.trees.expressions.Ref.{Ref}
use Rattle.dh_tree.specs.declared.trees.programs.Sort.{Sort}
use Rattle.dh_tree.specs.declared.trees.programs.Sort.TheVariants.{Variable, Iterator, Memory, View}
use Rattle.dh_tree.specs.Memories as memories
use Rattle.dh_tree.specs.Memories.{same_entity, outside_memory, locals, form_locals, other_locals, part_locals, groups_locals, memory_in}
use Rattle.dh_tree.specs.PlainTrees.{Declared, Action, action, ActionForm, lets, lets_memory, views, assigns, stores, reduces, calls, blocks, decides, repeats, counts, MaybeAction, no_action, one_action, Actions, no_actions, action_then, Groups, no_groups, group_then}
use Rattle.dh_tree.specs.Resolved.{numbered, declares, resolved_decls, resolved_action, resolved_form, resolved_other, resolved_actions, resolved_groups}
use Rattle.dh_tree.specs.Scopes.{Scope, entity, declare, leave, past, at_end, form_at_end, other_at_end, actions_at_end, groups_at_end}
use Rattle.dh_runnable.proofs.ElementsFound.{first_is, later_is, Sees, sees_later, sees_behind}
use Rattle.dh_sound.proofs.IteratorsNamed.{declared_on, goes_on, groups_on, on_long, other_on, part_on, past_on}

-- Memories by rising numbers.

-- each is of an entity from this one on
abbrev pub AllFrom : ℕ → List memories.Memory → Type 0
AllFrom k [] = Unit {0}
AllFrom k (m ∷ ms) = ((n : ℕ) × ((m.name.entity ≡ Some n) × (k ≤ n))) × AllFrom k ms

from_less : (j k : ℕ) (ms : List memories.Memory) → j ≤ k → AllFrom k ms → AllFrom j ms
from_less j k [] l a = tt
from_less j k (m ∷ ms) l a = let y = a.0.1.1 in ((a.0.0, (a.0.1.0, omega (arith, l, y))), from_less j k ms l a.1)

from_both : (k : ℕ) (ms more : List memories.Memory) → AllFrom k ms → AllFrom k more → AllFrom k (ms ++ more)
from_both k [] more a b = b
from_both k (m ∷ ms) more a b = (a.0, from_both k ms more a.1 b)

two_from : (j k : ℕ) (ms more : List memories.Memory) → j ≤ k → AllFrom j ms → AllFrom k more → AllFrom j (ms ++ more)
two_from j k ms more l a b = from_both j ms more a (from_less j k more l b)

higher : (k n : ℕ) → n < k → same_entity (Some k) (Some n) ≡ false
higher k n l = grind (arith, nat_tests, l)

-- none of a lower number
none_from : (k n : ℕ) (ms : List memories.Memory) → AllFrom k ms → n < k → memory_in ms (Some n) ≡ None
none_from k n [] a l = refl
none_from k n (m ∷ ms) a l =
    let y = a.0.1.1 in
    ap (λ (b : Bool). if b then Some m else memory_in ms (Some n)) (ap (λ o. same_entity o (Some n)) a.0.1.0 ∙ higher a.0.0 n (omega (arith, l, y))) ∙ none_from k n ms a.1 l

mutual
  all_from : (a : Action) (s : Scope) → resolved_action s a ≡ a → AllFrom (length s.entities) (locals a)
  all_from (action id place form) s e = let same : resolved_form s form ≡ form = cc in form_from form s same

  form_from : (f : ActionForm) (s : Scope) → resolved_form s f ≡ f → AllFrom (length s.entities) (form_locals f)
  form_from (lets name declared value) s e = tt
  form_from (lets_memory name shape shape_places value) s e =
      let same : declares s name ≡ name = cc in
      ((length s.entities, (sym (ap (λ (r : Ref). r.entity) same), omega arith)), tt)
  form_from (views name parent form) s e = tt
  form_from (assigns target value) s e = tt
  form_from (stores target value) s e = tt
  form_from (reduces target o value) s e = tt
  form_from (calls function arguments) s e = tt
  form_from (blocks body) s e = groups_from body s (let f = e in cc)
  form_from (decides test chosen other) s e =
      let inner : Scope = leave s (at_end s chosen) in
      let first : resolved_action s chosen ≡ chosen = cc in
      let second : resolved_other inner other ≡ other = cc in
      two_from (length s.entities) (length inner.entities) (locals chosen) (other_locals other) (on_long _ _ (goes_on chosen s)) (all_from chosen s first) (other_from other inner second)
  form_from (repeats test body) s e = let same : resolved_action s body ≡ body = cc in all_from body s same
  form_from (counts iterator declared low high factor body combine combine_place) s e =
      let inner : Scope = declare s iterator Iterator in
      let first : resolved_action inner body ≡ body = cc in
      let second : resolved_other (at_end inner body) combine ≡ combine = cc in
      from_less (length s.entities) (length inner.entities) (locals body ++ other_locals combine) (on_long _ _ (declared_on s iterator Iterator))
      (two_from (length inner.entities) (length (at_end inner body).entities) (locals body) (other_locals combine) (on_long _ _ (goes_on body inner)) (all_from body inner first) (other_from combine (at_end inner body) second))

  other_from : (m : MaybeAction) (s : Scope) → resolved_other s m ≡ m → AllFrom (length s.entities) (other_locals m)
  other_from no_action s e = tt
  other_from (one_action a) s e = let same : resolved_action s a ≡ a = cc in all_from a s same

  part_from : (part : Actions) (s : Scope) → resolved_actions s part ≡ part → AllFrom (length s.entities) (part_locals part)
  part_from no_actions s e = tt
  part_from (action_then a rest) s e =
      let next : Scope = past s a (at_end s a) in
      let first : resolved_action s a ≡ a = cc in
      let second : resolved_actions next rest ≡ rest = cc in
      let same = ap length (past_on s (at_end s a) a) in
      let long = on_long _ _ (goes_on a s) in
      two_from (length s.entities) (length next.entities) (locals a) (part_locals rest) (omega (arith, same, long)) (all_from a s first) (part_from rest next second)

  groups_from : (gs : Groups) (s : Scope) → resolved_groups s gs ≡ gs → AllFrom (length s.entities) (groups_locals gs)
  groups_from no_groups s e = tt
  groups_from (group_then part rest) s e =
      let next : Scope = actions_at_end s part in
      let first : resolved_actions s part ≡ part = cc in
      let second : resolved_groups next rest ≡ rest = cc in
      two_from (length s.entities) (length next.entities) (part_locals part) (groups_locals rest) (on_long _ _ (part_on part s)) (part_from part s first) (groups_from rest next second)

-- Memories that commands declare.

module _ (ms : List memories.Memory) where
  -- each memory that a command declares is found by its entity, and none by that of a view
  abbrev mutual
    pub Declares : Action → Type 0
    Declares (action id place form) = FormDeclares form

    pub FormDeclares : ActionForm → Type 0
    FormDeclares (lets name declared value) = Unit {0}
    FormDeclares (lets_memory name shape shape_places value) = memory_in ms name.entity ≡ Some (record { name = name; shape = shape; shape_places = shape_places; outside = false })
    FormDeclares (views name parent form) = memory_in ms name.entity ≡ None
    FormDeclares (assigns target value) = Unit {0}
    FormDeclares (stores target value) = Unit {0}
    FormDeclares (reduces target op value) = Unit {0}
    FormDeclares (calls function arguments) = Unit {0}
    FormDeclares (blocks body) = GroupsDeclare body
    FormDeclares (decides test chosen other) = Declares chosen × OtherDeclares other
    FormDeclares (repeats test body) = Declares body
    FormDeclares (counts iterator declared low high factor body combine combine_place) = Declares body × OtherDeclares combine

    pub OtherDeclares : MaybeAction → Type 0
    OtherDeclares no_action = Unit {0}
    OtherDeclares (one_action a) = Declares a

    pub GroupsDeclare : Groups → Type 0
    GroupsDeclare no_groups = Unit {0}
    GroupsDeclare (group_then part rest) = PartDeclares part × GroupsDeclare rest

    pub PartDeclares : Actions → Type 0
    PartDeclares no_actions = Unit {0}
    PartDeclares (action_then a rest) = Declares a × PartDeclares rest

  -- commands lead from one point of the text to another: their memories are found, and those behind are to come
  pub record Finds (end : Scope) (after : List memories.Memory) (Found : Type 0) : Type 0 where
    pub found : Found
    pub sees : Sees ms (length end.entities) after

  -- behind a declaration of another than a memory
  declared_sees : (s : Scope) (r : Ref) (sort : Sort) (after : List memories.Memory) → Sees ms (length s.entities) after → Sees ms (length (declare s r sort).entities) after
  declared_sees s r sort after h =
      let n = length-append s.entities (entity r sort ∷ []) in
      sees_later ms (length s.entities) (length (s.entities ++ entity r sort ∷ [])) after (omega (arith, n)) h

  regrouped : (k : ℕ) (xs ys after : List memories.Memory) → Sees ms k ((xs ++ ys) ++ after) → Sees ms k (xs ++ (ys ++ after))
  regrouped k xs ys after h = subst (λ (l : List memories.Memory). Sees ms k l) (append_assoc xs ys after) h

  mutual
    pub finds : (a : Action) (s : Scope) (after : List memories.Memory) → resolved_action s a ≡ a → AllFrom (length (at_end s a).entities) after → Sees ms (length s.entities) (locals a ++ after) → Finds (at_end s a) after (Declares a)
    finds (action id place form) s after e o h = let same : resolved_form s form ≡ form = cc in form_finds form s after same o h

    form_finds : (f : ActionForm) (s : Scope) (after : List memories.Memory) → resolved_form s f ≡ f → AllFrom (length (form_at_end s f).entities) after → Sees ms (length s.entities) (form_locals f ++ after) → Finds (form_at_end s f) after (FormDeclares f)
    form_finds (lets name declared value) s after e o h = record { found = tt; sees = declared_sees s name Variable after h }
    form_finds (lets_memory name shape shape_places value) s after e o h =
        let same : declares s name ≡ name = cc in
        let m : memories.Memory = record { name = name; shape = shape; shape_places = shape_places; outside = false } in
        let number : name.entity ≡ Some (length s.entities) = sym (ap (λ (r : Ref). r.entity) same) in
        let next = length-append s.entities (entity name Memory ∷ []) in
        record {
          found = ap (memory_in ms) number ∙ (h.from (length s.entities) (omega arith) ∙ first_is m after (length s.entities) number);
          sees = subst (λ (k : ℕ). Sees ms k after) (sym next) (sees_behind ms (length s.entities) m after number h);
        }
    form_finds (views name parent form) s after e o h =
        let same : declares s name ≡ name = cc in
        let number : name.entity ≡ Some (length s.entities) = sym (ap (λ (r : Ref). r.entity) same) in
        let next = length-append s.entities (entity name View ∷ []) in
        record {
          found = ap (memory_in ms) number ∙ (h.from (length s.entities) (omega arith) ∙ none_from (length (s.entities ++ entity name View ∷ [])) (length s.entities) after o (omega (arith, next)));
          sees = declared_sees s name View after h;
        }
    form_finds (assigns target value) s after e o h = record { found = tt; sees = h }
    form_finds (stores target value) s after e o h = record { found = tt; sees = h }
    form_finds (reduces target op value) s after e o h = record { found = tt; sees = h }
    form_finds (calls function arguments) s after e o h = record { found = tt; sees = h }
    form_finds (blocks body) s after e o h = groups_find body s after (let g = e in cc) o h
    form_finds (decides test chosen other) s after e o h =
        let inner : Scope = leave s (at_end s chosen) in
        let first_same : resolved_action s chosen ≡ chosen = cc in
        let second_same : resolved_other inner other ≡ other = cc in
        let first = finds chosen s (other_locals other ++ after) first_same
        (two_from (length inner.entities) (length (other_at_end inner other).entities) (other_locals other) after (on_long _ _ (other_on other inner)) (other_from other inner second_same) o) (regrouped (length s.entities) (locals chosen) (other_locals other) after h) in
        let second = other_finds other inner after second_same o first.sees in
        record { found = (first.found, second.found); sees = second.sees }
    form_finds (repeats test body) s after e o h =
        let same : resolved_action s body ≡ body = cc in
        let inner = finds body s after same o h in
        record { found = inner.found; sees = inner.sees }
    form_finds (counts iterator declared low high factor body combine combine_place) s after e o h =
        let inside : Scope = declare s iterator Iterator in
        let first_same : resolved_action inside body ≡ body = cc in
        let second_same : resolved_other (at_end inside body) combine ≡ combine = cc in
        let first = finds body inside (other_locals combine ++ after) first_same
        (two_from (length (at_end inside body).entities) (length (other_at_end (at_end inside body) combine).entities) (other_locals combine) after (on_long _ _ (other_on combine (at_end inside body))) (other_from combine (at_end inside body) second_same) o)
        (regrouped (length inside.entities) (locals body) (other_locals combine) after (declared_sees s iterator Iterator ((locals body ++ other_locals combine) ++ after) h)) in
        let second = other_finds combine (at_end inside body) after second_same o first.sees in
        record { found = (first.found, second.found); sees = second.sees }

    other_finds : (m : MaybeAction) (s : Scope) (after : List memories.Memory) → resolved_other s m ≡ m → AllFrom (length (other_at_end s m).entities) after → Sees ms (length s.entities) (other_locals m ++ after) → Finds (other_at_end s m) after (OtherDeclares m)
    other_finds no_action s after e o h = record { found = tt; sees = h }
    other_finds (one_action a) s after e o h = let same : resolved_action s a ≡ a = cc in finds a s after same o h

    part_finds : (part : Actions) (s : Scope) (after : List memories.Memory) → resolved_actions s part ≡ part → AllFrom (length (actions_at_end s part).entities) after → Sees ms (length s.entities) (part_locals part ++ after) → Finds (actions_at_end s part) after (PartDeclares part)
    part_finds no_actions s after e o h = record { found = tt; sees = h }
    part_finds (action_then a rest) s after e o h =
        let next : Scope = past s a (at_end s a) in
        let first_same : resolved_action s a ≡ a = cc in
        let second_same : resolved_actions next rest ≡ rest = cc in
        let same = ap length (past_on s (at_end s a) a) in
        let behind = on_long _ _ (part_on rest next) in
        let first = finds a s (part_locals rest ++ after) first_same
        (from_less (length (at_end s a).entities) (length next.entities) (part_locals rest ++ after) (omega (arith, same))
        (two_from (length next.entities) (length (actions_at_end next rest).entities) (part_locals rest) after behind (part_from rest next second_same) o))
        (regrouped (length s.entities) (locals a) (part_locals rest) after h) in
        let second = part_finds rest next after second_same o (subst (λ (k : ℕ). Sees ms k (part_locals rest ++ after)) (sym same) first.sees) in
        record { found = (first.found, second.found); sees = second.sees }

    groups_find : (gs : Groups) (s : Scope) (after : List memories.Memory) → resolved_groups s gs ≡ gs → AllFrom (length (groups_at_end s gs).entities) after → Sees ms (length s.entities) (groups_locals gs ++ after) → Finds (groups_at_end s gs) after (GroupsDeclare gs)
    groups_find no_groups s after e o h = record { found = tt; sees = h }
    groups_find (group_then part rest) s after e o h =
        let next : Scope = actions_at_end s part in
        let first_same : resolved_actions s part ≡ part = cc in
        let second_same : resolved_groups next rest ≡ rest = cc in
        let first = part_finds part s (groups_locals rest ++ after) first_same
        (two_from (length next.entities) (length (groups_at_end next rest).entities) (groups_locals rest) after (on_long _ _ (groups_on rest next)) (groups_from rest next second_same) o) (regrouped (length s.entities) (part_locals part) (groups_locals rest) after h) in
        let second = groups_find rest next after second_same o first.sees in
        record { found = (first.found, second.found); sees = second.sees }

-- Memories from outside.

-- the entity of the first of declarations that are numbered
first_entity : (k : ℕ) (d : Declared) (ds : List Declared) → resolved_decls k (d ∷ ds) ≡ d ∷ ds → d.name.entity ≡ Some k
first_entity k d ds e =
    let same : record { name = numbered k d.name; shape = d.shape; shape_places = d.shape_places } ≡ d = cc in
    sym (ap (λ (x : Declared). x.name.entity) same)

-- declarations that are numbered from k on are found by their numbers, and later numbers behind them
pub decl_found : (k : ℕ) (ds : List Declared) (rest : List memories.Memory) (n j : ℕ) (d : Declared) → resolved_decls k ds ≡ ds → slice_get ds n ≡ Some d → j ≡ k + n → memory_in (map outside_memory ds ++ rest) (Some j) ≡ Some (outside_memory d)
decl_found k [] rest n j d h e l = cc
decl_found k (x ∷ ds) rest zero j d h e l =
    let same : x ≡ d = cc in
    let number : k ≡ j = omega arith in
    first_is (outside_memory x) (map outside_memory ds ++ rest) j (first_entity k x ds h ∙ ap Some number) ∙ ap (λ (y : Declared). Some (outside_memory y)) same
decl_found k (x ∷ ds) rest (suc n) j d h e l =
    let behind : resolved_decls (k + 1) ds ≡ ds = cc in
    later_is (outside_memory x) (map outside_memory ds ++ rest) k j (first_entity k x ds h) (omega arith) ∙ decl_found (k + 1) ds rest n j d behind e (omega arith)

pub decls_seen : (k : ℕ) (ds : List Declared) (rest : List memories.Memory) → resolved_decls k ds ≡ ds → Sees (map outside_memory ds ++ rest) (k + length ds) rest
decls_seen k [] rest h = record { from = λ n l. refl }
decls_seen k (x ∷ ds) rest h =
    let behind : resolved_decls (k + 1) ds ≡ ds = cc in
    let below = decls_seen (k + 1) ds rest behind in
    record { from = λ n l. let z : k + suc (length ds) ≤ n = l in later_is (outside_memory x) (map outside_memory ds ++ rest) k n (first_entity k x ds h) (omega arith) ∙ below.from n (omega arith) }

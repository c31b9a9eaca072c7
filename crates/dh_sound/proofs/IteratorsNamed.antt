-- A program that breaks no rule keeps its iterators. Entities are numbered in text order: what a command declares has
-- the next number, so that it is none of the iterators round it, whose numbers are smaller. And what a command
-- assigns to is visible and no iterator, while each number round it is one of an iterator. By one walk over
-- the body, with the point of the text that stands before each command.
use Rattle.std.proofs.Common.{◌≡◌, ℕ, ◌<◌, ◌≤◌, ◌||◌, Bool, true, false, if◌then◌else◌, List, [], ◌∷◌, ◌++◌, length, Option, Some, None, refl, sym, ◌∙◌, ap, subst, arith, length-append}
use Rattle.std.specs.Prelude.{slice_get}
use Rattle.std.specs.List.{AllByRecursion}
use Rattle.std.specs.Option.{is_some}
use Rattle.std.proofs.lemmas.List.{append_assoc, append-nil}
use Rattle.dh_base.specs.declared.places.Place.{Place}
use Rattle.dh_tree.specs.declared.breaches.Breach.{Breach}
use Rattle.dh_tree.specs.declared.trees.expressions.Ref.{Ref}
use Rattle.dh_tree.specs.declared.trees.programs.Entity.{Entity}
use Rattle.dh_tree.specs.declared.trees.programs.Sort.{Sort}
use Rattle.dh_tree.specs.declared.trees.programs.Sort.TheVariants.{Variable, Iterator, View}
use Rattle.dh_tree.specs.declared.trees.programs.Sort.TheVariants.{Memory as MemorySort}
use Rattle.dh_tree.specs.Breaches.{unknown, twice, term_breaches, breaches, form_breaches, other_breaches, actions_breaches, groups_breaches, items_breaches, functions_breaches}
use Rattle.dh_tree.specs.Kinds.{when}
use Rattle.dh_tree.specs.Placements.{Context, nothing_round, branched, in_body, in_combine, is_outer_write, joined_breaches, entity_iterates, names_iterator, action_placement_breaches, form_placement_breaches, other_placement_breaches, actions_placement_breaches, groups_placement_breaches, decls_placement_breaches}
use Rattle.dh_tree.specs.PlainTrees.{Action, action, ActionForm, lets, lets_memory, views, assigns, stores, reduces, calls, blocks, decides, repeats, counts, MaybeAction, no_action, one_action, Actions, no_actions, action_then, Groups, no_groups, group_then, Program}
use Rattle.dh_tree.specs.Resolved.{resolved_action, resolved_form, resolved_other, resolved_actions, resolved_groups}
use Rattle.dh_tree.specs.Scopes.{entity_of, is_visible, Scope, entity, declare, leave, past, at_end, form_at_end, other_at_end, actions_at_end, groups_at_end, items_of, first_scope, body_scope, last_scope}
use Rattle.dh_tree.proofs.EmptyLists.{first_none, second_none, not_none}
use Rattle.dh_meaning.specs.CoreOf.{entity_number}
use Rattle.dh_sound.specs.IteratorsKept.{IsOther, NamesOther, also, ActionLeaves, FormLeaves, OtherLeaves, GroupsLeave, PartLeaves, LeavesIterators, FoldsElsewhere, FormFoldsElsewhere, OtherFoldsElsewhere, GroupsFoldElsewhere, PartFoldsElsewhere, KeepsItsNames}

-- Entities that go on.

-- the entities of the second list begin with those of the first
pub record GoesOn (es fs : List Entity) : Type 0 where
  pub more : List Entity
  pub is : fs ≡ es ++ more

pub same_on : (es : List Entity) → GoesOn es es
same_on es = record { more = []; is = sym (append-nil es) }

pub then_on : (es fs gs : List Entity) → GoesOn es fs → GoesOn fs gs → GoesOn es gs
then_on es fs gs a b = record { more = a.more ++ b.more; is = b.is ∙ (ap (λ x. x ++ b.more) a.is ∙ append_assoc es a.more b.more) }

pub on_long : (es fs : List Entity) → GoesOn es fs → length es ≤ length fs
on_long es fs a =
    let n = ap length a.is in
    let m = length-append es a.more in
    omega (arith, n, m)

pub declared_on : (s : Scope) (r : Ref) (sort : Sort) → GoesOn s.entities (declare s r sort).entities
declared_on s r sort = record { more = entity r sort ∷ []; is = refl }

pub past_on : (s inside : Scope) (a : Action) → (past s a inside).entities ≡ inside.entities
past_on s inside (action id place (blocks body)) = refl
past_on s inside (action id place (lets name declared value)) = refl
past_on s inside (action id place (lets_memory name shape shape_places value)) = refl
past_on s inside (action id place (views name parent form)) = refl
past_on s inside (action id place (assigns target value)) = refl
past_on s inside (action id place (stores target value)) = refl
past_on s inside (action id place (reduces target o value)) = refl
past_on s inside (action id place (calls function arguments)) = refl
past_on s inside (action id place (decides test chosen other)) = refl
past_on s inside (action id place (repeats test body)) = refl
past_on s inside (action id place (counts iterator declared low high factor body combine combine_place)) = refl

mutual
  pub goes_on : (a : Action) (s : Scope) → GoesOn s.entities (at_end s a).entities
  goes_on (action id place form) s = form_on form s

  form_on : (f : ActionForm) (s : Scope) → GoesOn s.entities (form_at_end s f).entities
  form_on (lets name declared value) s = declared_on s name Variable
  form_on (lets_memory name shape shape_places value) s = declared_on s name MemorySort
  form_on (views name parent form) s = declared_on s name View
  form_on (assigns target value) s = same_on s.entities
  form_on (stores target value) s = same_on s.entities
  form_on (reduces target o value) s = same_on s.entities
  form_on (calls function arguments) s = same_on s.entities
  form_on (blocks body) s = groups_on body s
  form_on (decides test chosen other) s = then_on _ _ _ (goes_on chosen s) (other_on other (leave s (at_end s chosen)))
  form_on (repeats test body) s = goes_on body s
  form_on (counts iterator declared low high factor body combine combine_place) s =
      then_on _ _ _ (declared_on s iterator Iterator)
      (then_on _ _ _ (goes_on body (declare s iterator Iterator)) (other_on combine (at_end (declare s iterator Iterator) body)))

  pub other_on : (m : MaybeAction) (s : Scope) → GoesOn s.entities (other_at_end s m).entities
  other_on no_action s = same_on s.entities
  other_on (one_action a) s = goes_on a s

  pub part_on : (part : Actions) (s : Scope) → GoesOn s.entities (actions_at_end s part).entities
  part_on no_actions s = same_on s.entities
  part_on (action_then a rest) s =
      then_on _ _ _ (goes_on a s)
      (subst (λ (es : List Entity). GoesOn es (actions_at_end (past s a (at_end s a)) rest).entities) (past_on s (at_end s a) a) (part_on rest (past s a (at_end s a))))

  pub groups_on : (gs : Groups) (s : Scope) → GoesOn s.entities (groups_at_end s gs).entities
  groups_on no_groups s = same_on s.entities
  groups_on (group_then g rest) s = then_on _ _ _ (part_on g s) (groups_on rest (actions_at_end s g))

-- the first entity behind a list
pub at_next : (es : List Entity) (e : Entity) (more : List Entity) → slice_get ((es ++ e ∷ []) ++ more) (length es) ≡ Some e
at_next [] e more = refl
at_next (x ∷ es) e more = at_next es e more

-- Names.

visible_is : (b : Bool) (x : Breach) → (if b then [] else x ∷ []) ≡ [] → b ≡ true
visible_is true x e = refl
visible_is false x e = not_none _ _ e

left_false : (a b : Bool) → (a || b) ≡ false → a ≡ false
left_false false b e = refl
left_false true b e = cc

pub none_when : (b : Bool) (x : Breach) → when b (x ∷ []) ≡ [] → b ≡ false
none_when true x e = not_none _ _ e
none_when false x e = refl

module _ (es : List Entity) where
  -- the iterators round a command are numbered below this, and are iterators
  abbrev AreRound : (size : ℕ) → List ℕ → Type 0
  AreRound size [] = Unit {0}
  AreRound size (i ∷ is) = ((i < size) × (entity_iterates (slice_get es i) ≡ true)) × AreRound size is

  round_grows : (m n : ℕ) (is : List ℕ) → m ≤ n → AreRound m is → AreRound n is
  round_grows m n [] l r = tt
  round_grows m n (i ∷ is) l r = let below = r.0.0 in ((omega (arith, l, below), r.0.1), round_grows m n is l r.1)

  round_also : (n : ℕ) (is : List ℕ) (i : ℕ) → AreRound n is → i < n → entity_iterates (slice_get es i) ≡ true → AreRound n (is ++ i ∷ [])
  round_also n [] i r l e = ((l, e), tt)
  round_also n (j ∷ is) i r l e = (r.0, round_also n is i r.1 l e)

  -- what takes the next number is another
  next_other : (n : ℕ) (is : List ℕ) → AreRound n is → IsOther n is
  next_other n [] r = tt
  next_other n (i ∷ is) r = (differs r.0.0, next_other n is r.1)
    where
      differs : i < n → i ≡ n → ⊥
      differs l e = omega (arith, l, e)

  -- what is no iterator is another
  target_other : (n : ℕ) (is : List ℕ) (t : ℕ) → AreRound n is → entity_iterates (slice_get es t) ≡ false → IsOther t is
  target_other n [] t r e = tt
  target_other n (i ∷ is) t r e = (differs r.0.1, target_other n is t r.1 e)
    where
      differs : entity_iterates (slice_get es i) ≡ true → i ≡ t → ⊥
      differs f same = let g = subst (λ (k : ℕ). entity_iterates (slice_get es k) ≡ true) same f in cc

  some_other : (n : ℕ) (is : List ℕ) (o : Option ℕ) → AreRound n is → is_some o ≡ true → names_iterator es o ≡ false → IsOther (entity_number o) is
  some_other n is None r v e = cc
  some_other n is (Some t) r v e = target_other n is t r e

  -- a name that is declared
  new_name : (s : Scope) (is : List ℕ) (r : Ref) → AreRound (length s.entities) is → Some (length s.entities) ≡ r.entity → NamesOther r is
  new_name s is r round e = subst (λ (o : Option ℕ). IsOther (entity_number o) is) e (next_other (length s.entities) is round)

  -- a name that is used, is visible, and is no iterator
  used_name : (s : Scope) (is : List ℕ) (r : Ref) → AreRound (length s.entities) is → entity_of s.visible r.name ≡ r.entity → unknown s.visible r ≡ []
      → names_iterator es r.entity ≡ false → NamesOther r is
  used_name s is r round e u n =
      some_other (length s.entities) is r.entity round (subst (λ (o : Option ℕ). is_some o ≡ true) e (visible_is (is_visible s.visible r.name) _ u)) n

  -- inside a loop
  loop_round : (s : Scope) (is : List ℕ) (r : Ref) → AreRound (length s.entities) is → Some (length s.entities) ≡ r.entity
      → GoesOn (declare s r Iterator).entities es → AreRound (length (declare s r Iterator).entities) (also is r)
  loop_round s is r round e on =
      subst (λ (o : Option ℕ). AreRound (length (declare s r Iterator).entities) (is ++ entity_number o ∷ [])) e
      (round_also (length (declare s r Iterator).entities) is (length s.entities)
      (round_grows (length s.entities) (length (declare s r Iterator).entities) is (on_long _ _ (declared_on s r Iterator)) round)
      (let n = length-append s.entities (entity r Iterator ∷ []) in omega (arith, n))
      (ap entity_iterates (ap (λ x. slice_get x (length s.entities)) on.is ∙ at_next s.entities (entity r Iterator) on.more)))

  round_below : (n : ℕ) (is : List ℕ) → n ≤ length es → AreRound n is → AllByRecursion (λ i. i < length es) is
  round_below n [] l r = tt
  round_below n (i ∷ is) l r = (let below = r.0.0 in omega (arith, l, below), round_below n is l r.1)

  mutual
    leaves : (a : Action) (s : Scope) (c : Context) (is : List ℕ) → resolved_action s a ≡ a → breaches s a ≡ [] → action_placement_breaches es c a ≡ []
        → FoldsElsewhere es a → GoesOn (at_end s a).entities es → AreRound (length s.entities) is → ActionLeaves (length es) is a
    leaves (action id place form) s c is e n p f on round =
        let same : resolved_form s form ≡ form = cc in form_leaves form s c place is same n p f on round

    form_leaves : (form : ActionForm) (s : Scope) (c : Context) (place : Place) (is : List ℕ) → resolved_form s form ≡ form → form_breaches s form ≡ []
        → form_placement_breaches es c place form ≡ [] → FormFoldsElsewhere es form → GoesOn (form_at_end s form).entities es → AreRound (length s.entities) is → FormLeaves (length es) is form
    form_leaves (lets name declared value) s c place is e n p f on round =
        let named : Some (length s.entities) ≡ name.entity = cc in new_name s is name round named
    form_leaves (lets_memory name shape shape_places value) s c place is e n p f on round = tt
    form_leaves (views name parent form) s c place is e n p f on round =
        let first = on_long _ _ (declared_on s name View) in
        let long = on_long _ _ on in
        round_below (length s.entities) is (omega (arith, first, long)) round
    form_leaves (assigns target value) s c place is e n p f on round =
        let named : entity_of s.visible target.name ≡ target.entity = cc in
        used_name s is target round named (first_none (unknown s.visible target) _ n) (left_false (names_iterator es target.entity) _ (none_when (is_outer_write es c.first target.entity) _ p))
    form_leaves (stores target value) s c place is e n p f on round = tt
    form_leaves (reduces target o value) s c place is e n p f on round =
        let named : entity_of s.visible target.name ≡ target.entity = cc in
        used_name s is target round named (first_none (unknown s.visible target) _ n) f
    form_leaves (calls function arguments) s c place is e n p f on round = tt
    form_leaves (blocks body) s c place is e n p f on round = groups_leave body s c is (let g = e in cc) n p f on round
    form_leaves (decides test chosen other) s c place is e n p f on round =
        let inner : Scope = leave s (at_end s chosen) in
        let first : resolved_action s chosen ≡ chosen = cc in
        let second : resolved_other inner other ≡ other = cc in
        let arms = second_none (term_breaches s.visible test) _ n in (
          leaves chosen s (branched c) is first (first_none (breaches s chosen) _ arms) (first_none (action_placement_breaches es (branched c) chosen) _ p) f.0
              (then_on (at_end s chosen).entities (other_at_end inner other).entities es (other_on other inner) on) round,
          other_leaves other inner (branched c) is second (second_none (breaches s chosen) _ arms)
              (first_none (other_placement_breaches es (branched c) other) _ (second_none (action_placement_breaches es (branched c) chosen) _ p)) f.1 on
              (round_grows (length s.entities) (length (at_end s chosen).entities) is (on_long _ _ (goes_on chosen s)) round),
        )
    form_leaves (repeats test body) s c place is e n p f on round =
        let same : resolved_action s body ≡ body = cc in
        leaves body s (branched c) is same (second_none (term_breaches s.visible test) _ n) (first_none (action_placement_breaches es (branched c) body) _ p) f on round
    form_leaves (counts iterator declared low high factor body combine combine_place) s c place is e n p f on round =
        let d : Scope = declare s iterator Iterator in
        let c_body : Context = in_body c factor.value iterator.entity in
        let c_combine : Context = in_combine c iterator.entity in
        let named : Some (length s.entities) ≡ iterator.entity = cc in
        let first : resolved_action d body ≡ body = cc in
        let second : resolved_other (at_end d body) combine ≡ combine = cc in
        let both = second_none (twice s.visible iterator) _ n in
        let behind = then_on (at_end d body).entities (other_at_end (at_end d body) combine).entities es (other_on combine (at_end d body)) on in
        let inside = loop_round s is iterator round named (then_on d.entities (at_end d body).entities es (goes_on body d) behind) in (
          new_name s is iterator round named,
          (
            leaves body d c_body (also is iterator) first (first_none (breaches d body) _ both) (first_none (action_placement_breaches es c_body body) _ p) f.0 behind inside,
            other_leaves combine (at_end d body) c_combine (also is iterator) second (second_none (breaches d body) _ both)
                (first_none (other_placement_breaches es c_combine combine) _ (second_none (action_placement_breaches es c_body body) _ p)) f.1 on
                (round_grows (length d.entities) (length (at_end d body).entities) (also is iterator) (on_long _ _ (goes_on body d)) inside),
          ),
        )

    other_leaves : (m : MaybeAction) (s : Scope) (c : Context) (is : List ℕ) → resolved_other s m ≡ m → other_breaches s m ≡ [] → other_placement_breaches es c m ≡ []
        → OtherFoldsElsewhere es m → GoesOn (other_at_end s m).entities es → AreRound (length s.entities) is → OtherLeaves (length es) is m
    other_leaves no_action s c is e n p f on round = tt
    other_leaves (one_action a) s c is e n p f on round =
        let same : resolved_action s a ≡ a = cc in leaves a s c is same n p f on round

    part_leaves : (part : Actions) (s : Scope) (c : Context) (is : List ℕ) → resolved_actions s part ≡ part → actions_breaches s part ≡ []
        → actions_placement_breaches es c part ≡ [] → PartFoldsElsewhere es part → GoesOn (actions_at_end s part).entities es → AreRound (length s.entities) is → PartLeaves (length es) is part
    part_leaves no_actions s c is e n p f on round = tt
    part_leaves (action_then a rest) s c is e n p f on round =
        let after : Scope = past s a (at_end s a) in
        let first : resolved_action s a ≡ a = cc in
        let second : resolved_actions after rest ≡ rest = cc in
        let same = past_on s (at_end s a) a in
        let behind = then_on after.entities (actions_at_end after rest).entities es (part_on rest after) on in
        let long = on_long _ _ (goes_on a s) in
        let size = ap length same in (
          leaves a s c is first (first_none (breaches s a) _ n) (first_none (action_placement_breaches es c a) _ p) f.0
              (subst (λ (x : List Entity). GoesOn x es) same behind) round,
          part_leaves rest after c is second (second_none (breaches s a) _ n) (second_none (joined_breaches c.joins a) _ (second_none (action_placement_breaches es c a) _ p)) f.1 on
              (round_grows (length s.entities) (length after.entities) is (omega (arith, long, size)) round),
        )

    groups_leave : (gs : Groups) (s : Scope) (c : Context) (is : List ℕ) → resolved_groups s gs ≡ gs → groups_breaches s gs ≡ []
        → groups_placement_breaches es c gs ≡ [] → GroupsFoldElsewhere es gs → GoesOn (groups_at_end s gs).entities es → AreRound (length s.entities) is → GroupsLeave (length es) is gs
    groups_leave no_groups s c is e n p f on round = tt
    groups_leave (group_then g rest) s c is e n p f on round =
        let after : Scope = actions_at_end s g in
        let first : resolved_actions s g ≡ g = cc in
        let second : resolved_groups after rest ≡ rest = cc in (
          part_leaves g s c is first (first_none (actions_breaches s g) _ n) (first_none (actions_placement_breaches es c g) _ p) f.0
              (then_on after.entities (groups_at_end after rest).entities es (groups_on rest after) on) round,
          groups_leave rest after c is second (second_none (actions_breaches s g) _ n) (second_none (actions_placement_breaches es c g) _ p) f.1 on
              (round_grows (length s.entities) (length after.entities) is (on_long _ _ (part_on g s)) round),
        )

-- a program that breaks no rule keeps its iterators
pub names_keep : (p : Program) → KeepsItsNames p → LeavesIterators p
names_keep p k =
    leaves p.entities p.body (body_scope p) nothing_round [] (ap (λ (x : Program). x.body) k.entities)
    (second_none (functions_breaches (length p.decls) (first_scope p) p.functions) _ (second_none (items_breaches [] (items_of p)) _ k.names))
    (second_none (decls_placement_breaches p.decls) _ k.placements)
    k.folds
    (subst (λ (es : List Entity). GoesOn (last_scope p).entities es) (ap (λ (x : Program). x.entities) k.entities) (same_on (last_scope p).entities))
    tt

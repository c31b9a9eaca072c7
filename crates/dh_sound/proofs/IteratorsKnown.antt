-- Of every loop of a program the iterator is known as one, and its values are of the kind that is known: where
-- the loop is declared its iterator takes the next number and the next fact, and its bounds break no rule. By
-- recursion over the tree.
use Rattle.std.proofs.Common.{◌≡◌, ℕ, ◌-◌, ◌&&◌, ◌||◌, Bool, true, false, nat_le, nat_lt, if◌then◌else◌, List, [], ◌∷◌, ◌++◌, length, Option, Some, None, refl, sym, ap, subst, ◌∙◌, arith}
use Rattle.std.specs.Prelude.{ℤ, pos, ◌+ℤ◌, int_le, slice_get}
use Rattle.std.specs.List.{AllByRecursion}
use Rattle.std.proofs.lemmas.Bool.Decides.{nat_tests}
use Rattle.std.proofs.lemmas.Bool.{eqb-true}
use Rattle.std.proofs.lemmas.Int.{ints}
use Rattle.dh_base.specs.declared.places.Place.{Place}
use Rattle.dh_value.specs.declared.kinds.Kind.{Kind}
use Rattle.dh_tree.specs.declared.trees.counters.Counter.{Counter}
use Rattle.dh_tree.specs.declared.trees.expressions.Ref.{Ref}
use Rattle.dh_tree.specs.declared.trees.programs.Sort.TheVariants.{Iterator}
use Rattle.dh_tree.specs.Counters.{counters, form_counters, other_counters, groups_counters, part_counters, counter_in}
use Rattle.dh_tree.specs.Indices.{fits_kind, all_fit}
use Rattle.dh_tree.specs.KindBreaches.{condition_breaches, iterator_breaches, low_breaches, high_breaches, action_kind_breaches, action_form_kind_breaches, other_kind_breaches, actions_kind_breaches, groups_kind_breaches}
use Rattle.dh_tree.specs.Kinds.{of_iterator, Facts, width_lost, when, is_value, iterator_kind, facts_after, facts_after_form, facts_after_other, facts_after_actions, facts_after_groups}
use Rattle.dh_tree.specs.Memories.{same_entity}
use Rattle.dh_tree.specs.PlainTrees.{Placed, Action, action, ActionForm, lets, lets_memory, views, assigns, stores, reduces, calls, blocks, decides, repeats, counts, MaybeAction, no_action, one_action, Actions, no_actions, action_then, Groups, no_groups, group_then}
use Rattle.dh_tree.specs.Resolved.{declares, resolved_action, resolved_form, resolved_other, resolved_actions, resolved_groups}
use Rattle.dh_tree.specs.Scopes.{Scope, declare, leave, past, at_end, actions_at_end}
use Rattle.dh_sound.proofs.BanksReached.{first_none, second_none}
use Rattle.dh_sound.proofs.FactsGrow.{Extends, added_last, grows, other_grows, part_grows, groups_grow, InStep, next_in_step, past_in_step, in_step, part_in_step}

-- the iterator of a loop is known as one of a kind, of which its values are
pub record IsKnownIterator (facts : Facts) (c : Counter) : Type 0 where
  pub number : ℕ
  pub kind : Kind
  pub is : c.entity ≡ Some number
  pub known : slice_get facts number ≡ Some (of_iterator kind)
  pub fits : all_fit (Some kind) c (pos 0) ≡ true

abbrev pub AreKnownIterators : Facts → List Counter → Type 0
AreKnownIterators facts cs = AllByRecursion (IsKnownIterator facts) cs

pub both_all : {A : Type 0} (P : A → Type 0) (xs ys : List A) → AllByRecursion P xs → AllByRecursion P ys → AllByRecursion P (xs ++ ys)
both_all P [] ys h i = i
both_all P (x ∷ xs) ys h i = (h.0, both_all P xs ys h.1 i)

-- the bounds of a loop
value_or_none : (b : Bool) (place : Place) → when (if b then false else true) (width_lost place) ≡ [] → b ≡ true
value_or_none true place e = refl
value_or_none false place e = absurd cc

is_known_value : (k : Kind) (n : ℕ) → is_value k (pos n) ≡ true → fits_kind (Some k) (pos n +ℤ pos 0) ≡ true
is_known_value k n e = subst (λ (z : ℤ). fits_kind (Some k) z ≡ true) (sym (nothing n)) (ap (λ b. b && is_value k (pos n)) (least n) ∙ e)
  where
    least : (n : ℕ) → int_le (pos 0) (pos n) ≡ true
    least n = either (int_le (pos 0) (pos n)) refl
      where
        either : (b : Bool) → int_le (pos 0) (pos n) ≡ b → b ≡ true
        either true f = refl
        either false f = absurd (omega (arith, ints, f))

    nothing : (n : ℕ) → pos n +ℤ pos 0 ≡ pos n
    nothing n = omega (arith, ints)

bounds_fit : (k : Kind) (low high : Placed) (c : Counter) → c.low ≡ low.value → c.high ≡ high.value → low_breaches k low ≡ [] → high_breaches k low high ≡ [] → all_fit (Some k) c (pos 0) ≡ true
bounds_fit k low high c e f l h =
    subst (λ (n : ℕ). (nat_le c.high n || (fits_kind (Some k) (pos n +ℤ pos 0) && fits_kind (Some k) (pos (c.high - 1) +ℤ pos 0))) ≡ true) (sym e)
    (subst (λ (n : ℕ). (nat_le n low.value || (fits_kind (Some k) (pos low.value +ℤ pos 0) && fits_kind (Some k) (pos (n - 1) +ℤ pos 0))) ≡ true) (sym f)
    (by (nat_lt low.value high.value) refl h))
  where
    first : fits_kind (Some k) (pos low.value +ℤ pos 0) ≡ true
    first = is_known_value k low.value (value_or_none (is_value k (pos low.value)) low.place l)

    none : (m n : ℕ) → nat_lt m n ≡ false → nat_le n m ≡ true
    none m n g = grind (arith, nat_tests)

    and : (a b : Bool) → a ≡ true → b ≡ true → (a && b) ≡ true
    and a b g i = ap (λ x. x && b) g ∙ i

    or : (a b : Bool) → b ≡ true → (a || b) ≡ true
    or true b g = refl
    or false b g = g

    by : (b : Bool) → nat_lt low.value high.value ≡ b → when (b && (if is_value k (pos (high.value - 1)) then false else true)) (width_lost high.place) ≡ []
        → (nat_le high.value low.value || (fits_kind (Some k) (pos low.value +ℤ pos 0) && fits_kind (Some k) (pos (high.value - 1) +ℤ pos 0))) ≡ true
    by true g i = or (nat_le high.value low.value) _ (and _ _ first (is_known_value k (high.value - 1) (value_or_none (is_value k (pos (high.value - 1))) high.place i)))
    by false g i = ap (λ x. x || (fits_kind (Some k) (pos low.value +ℤ pos 0) && fits_kind (Some k) (pos (high.value - 1) +ℤ pos 0))) (none low.value high.value g)

module _ (all : Facts) where
  mutual
    pub known_in : (s : Scope) (facts : Facts) (a : Action) → InStep s facts → resolved_action s a ≡ a → action_kind_breaches facts a ≡ [] → Extends all (facts_after facts a) → AreKnownIterators all (counters a)
    known_in s facts (action id place form) l n k e = let named : resolved_form s form ≡ form = cc in known_in_form s facts form l named k e

    pub known_in_form : (s : Scope) (facts : Facts) (f : ActionForm) → InStep s facts → resolved_form s f ≡ f → action_form_kind_breaches facts f ≡ [] → Extends all (facts_after_form facts f) → AreKnownIterators all (form_counters f)
    known_in_form s facts (lets name declared value) l n k e = tt
    known_in_form s facts (lets_memory name shape shape_places value) l n k e = tt
    known_in_form s facts (views name parent form) l n k e = tt
    known_in_form s facts (assigns target value) l n k e = tt
    known_in_form s facts (stores target value) l n k e = tt
    known_in_form s facts (reduces target o value) l n k e = tt
    known_in_form s facts (calls function arguments) l n k e = tt
    known_in_form s facts (blocks body) l n k e = let named : resolved_groups s body ≡ body = cc in known_in_groups s facts body l named k e
    known_in_form s facts (decides test chosen other) l n k e =
        let first : resolved_action s chosen ≡ chosen = cc in
        let second : resolved_other (leave s (at_end s chosen)) other ≡ other = cc in
        let kinds = second_none (condition_breaches facts test) _ k in
        both_all (IsKnownIterator all) (counters chosen) (other_counters other)
        (known_in s facts chosen l first (first_none (action_kind_breaches facts chosen) _ kinds) (λ m f g. e m f (other_grows (facts_after facts chosen) other m f g)))
        (known_in_other (leave s (at_end s chosen)) (facts_after facts chosen) other (in_step s facts chosen l) second (second_none (action_kind_breaches facts chosen) _ kinds) e)
    known_in_form s facts (repeats test body) l n k e =
        let named : resolved_action s body ≡ body = cc in
        known_in s facts body l named (second_none (condition_breaches facts test) _ k) e
    known_in_form s facts (counts iterator declared low high factor body combine combine_place) l n k e =
        let j : Kind = iterator_kind declared in
        let more : Facts = facts ++ of_iterator (iterator_kind declared) ∷ [] in
        let inside : Scope = declare s iterator Iterator in
        let name : declares s iterator ≡ iterator = cc in
        let first : resolved_action (declare s iterator Iterator) body ≡ body = cc in
        let second : resolved_other (at_end (declare s iterator Iterator) body) combine ≡ combine = cc in
        let above = second_none (iterator_breaches iterator j) _ k in
        let below = second_none (low_breaches j low) _ above in
        let kinds = second_none (high_breaches j low high) _ below in
        let inner = next_in_step s facts iterator Iterator (of_iterator (iterator_kind declared)) l in
        let to_combine : Extends all (facts_after (facts ++ of_iterator (iterator_kind declared) ∷ []) body) = λ m f g. e m f (other_grows (facts_after (facts ++ of_iterator (iterator_kind declared) ∷ []) body) combine m f g) in
        let last = e (length facts) (of_iterator (iterator_kind declared)) (other_grows (facts_after (facts ++ of_iterator (iterator_kind declared) ∷ []) body) combine (length facts) (of_iterator (iterator_kind declared))
        (grows (facts ++ of_iterator (iterator_kind declared) ∷ []) body (length facts) (of_iterator (iterator_kind declared)) (added_last facts (of_iterator (iterator_kind declared))))) in (
          record {
            number = length facts;
            kind = iterator_kind declared;
            is = sym (ap (λ (r : Ref). r.entity) name) ∙ ap Some l;
            known = last;
            fits = bounds_fit j low high (record { entity = iterator.entity; low = low.value; high = high.value; factor = factor.value }) refl refl (first_none (low_breaches j low) _ above) (first_none (high_breaches j low high) _ below);
          },
          both_all (IsKnownIterator all) (counters body) (other_counters combine)
              (known_in (declare s iterator Iterator) (facts ++ of_iterator (iterator_kind declared) ∷ []) body inner first (first_none (action_kind_breaches more body) _ kinds) to_combine)
              (known_in_other (at_end (declare s iterator Iterator) body) (facts_after (facts ++ of_iterator (iterator_kind declared) ∷ []) body) combine
              (in_step (declare s iterator Iterator) (facts ++ of_iterator (iterator_kind declared) ∷ []) body inner) second (second_none (action_kind_breaches more body) _ kinds) e),
        )

    pub known_in_other : (s : Scope) (facts : Facts) (m : MaybeAction) → InStep s facts → resolved_other s m ≡ m → other_kind_breaches facts m ≡ [] → Extends all (facts_after_other facts m) → AreKnownIterators all (other_counters m)
    known_in_other s facts no_action l n k e = tt
    known_in_other s facts (one_action a) l n k e = let named : resolved_action s a ≡ a = cc in known_in s facts a l named k e

    pub known_in_part : (s : Scope) (facts : Facts) (p : Actions) → InStep s facts → resolved_actions s p ≡ p → actions_kind_breaches facts p ≡ [] → Extends all (facts_after_actions facts p) → AreKnownIterators all (part_counters p)
    known_in_part s facts no_actions l n k e = tt
    known_in_part s facts (action_then a rest) l n k e =
        let first : resolved_action s a ≡ a = cc in
        let second : resolved_actions (past s a (at_end s a)) rest ≡ rest = cc in
        both_all (IsKnownIterator all) (counters a) (part_counters rest)
        (known_in s facts a l first (first_none (action_kind_breaches facts a) _ k) (λ m f g. e m f (part_grows (facts_after facts a) rest m f g)))
        (known_in_part (past s a (at_end s a)) (facts_after facts a) rest (past_in_step s (at_end s a) (facts_after facts a) a (in_step s facts a l)) second (second_none (action_kind_breaches facts a) _ k) e)

    pub known_in_groups : (s : Scope) (facts : Facts) (g : Groups) → InStep s facts → resolved_groups s g ≡ g → groups_kind_breaches facts g ≡ [] → Extends all (facts_after_groups facts g) → AreKnownIterators all (groups_counters g)
    known_in_groups s facts no_groups l n k e = tt
    known_in_groups s facts (group_then part rest) l n k e =
        let first : resolved_actions s part ≡ part = cc in
        let second : resolved_groups (actions_at_end s part) rest ≡ rest = cc in
        both_all (IsKnownIterator all) (part_counters part) (groups_counters rest)
        (known_in_part s facts part l first (first_none (actions_kind_breaches facts part) _ k) (λ m f g. e m f (groups_grow (facts_after_actions facts part) rest m f g)))
        (known_in_groups (actions_at_end s part) (facts_after_actions facts part) rest (part_in_step s facts part l) second (second_none (actions_kind_breaches facts part) _ k) e)

-- so is the loop that is found of an entity
pub found_iterator : (all : Facts) (cs : List Counter) (entity : Option ℕ) (c : Counter) → AreKnownIterators all cs → counter_in cs entity ≡ Some c → (c.entity ≡ entity) × IsKnownIterator all c
found_iterator all [] entity c h e = absurd cc
found_iterator all (x ∷ cs) entity c h e = by (same_entity x.entity entity) refl e (found_iterator all cs entity c h.1)
  where
    equal : (m n : Option ℕ) → same_entity m n ≡ true → m ≡ n
    equal None n f = absurd cc
    equal (Some m) None f = absurd cc
    equal (Some m) (Some n) f = ap Some (eqb-true m n f)

    by : (b : Bool) → same_entity x.entity entity ≡ b → (if b then Some x else counter_in cs entity) ≡ Some c → (counter_in cs entity ≡ Some c → (c.entity ≡ entity) × IsKnownIterator all c) → (c.entity ≡ entity) × IsKnownIterator all c
    by true f g r = let same : x ≡ c = cc in subst (λ (y : Counter). (y.entity ≡ entity) × IsKnownIterator all y) same (equal x.entity entity f, h.0)
    by false f g r = r g

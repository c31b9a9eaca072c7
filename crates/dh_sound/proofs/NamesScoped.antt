-- The names that a command uses as variables are in scope: each stands for a variable that is no iterator, or for the
-- iterator of a loop in which the command stands. Every name has the entity that it stands for where it is visible;
-- so it is enough that what is visible is so. This holds where the body begins, since what is visible there
-- is no variable of the body; a declaration keeps it, since the first variable of its number is the one that
-- it declares, or none where a memory or a view is declared; a `for` makes its iterator visible in its body
-- alone, where the loop is one of those round it. By one walk over the body, with the points of the text.
use Rattle.std.proofs.Common.{◌≡◌, ◌⊎◌, inl, inr, ℕ, suc, ◌+◌, ◌<◌, ◌≤◌, nat_lt, Bool, true, false, if◌then◌else◌, List, [], ◌∷◌, ◌++◌, length, Option, Some, None, option_map, refl, sym, ◌∙◌, ap, subst, arith, length-append}
use Rattle.std.proofs.lemmas.Bool.Decides.{nat_tests}
use Rattle.std.proofs.lemmas.List.{append_assoc}
use Rattle.dh_tree.specs.declared.trees.expressions.Ref.{Ref}
use Rattle.dh_tree.specs.declared.trees.programs.Sort.{Sort}
use Rattle.dh_tree.specs.declared.trees.programs.Sort.TheVariants as sort
use Rattle.dh_tree.specs.declared.trees.programs.Sort.TheVariants.{Iterator}
use Rattle.dh_tree.specs.Memories.{same_entity}
use Rattle.dh_base.specs.declared.places.Place.{Place}
use Rattle.dh_value.specs.declared.kinds.Kind.{Kind}
use Rattle.dh_tree.specs.PlainTrees.{Placed, Unrolled, Term, term, TermForm, number, truth_value, named, accessed, in_bank, applied, converted, Terms, no_terms, term_then, Action, action, ActionForm, lets, lets_memory, views, assigns, stores, reduces, calls, blocks, decides, repeats, counts, MaybeAction, no_action, one_action, Actions, no_actions, action_then, Groups, no_groups, group_then}
use Rattle.dh_tree.specs.Resolved.{resolved_term, resolved_term_form, resolved_terms, resolved_action, resolved_form, resolved_other, resolved_actions, resolved_groups}
use Rattle.dh_tree.specs.Scopes.{binding, entity_of, is_visible, bind, Scope, entity, declare, leave, past, at_end, form_at_end, other_at_end, actions_at_end, groups_at_end}
use Rattle.dh_tree.specs.Scopes as scopes
use Rattle.dh_meaning.specs.Bindings.{Binding, let_kind, depth_inside, bindings, form_bindings, other_bindings, groups_bindings, part_bindings, binding_in, depth_bound}
use Rattle.dh_tree.specs.Kinds.{iterator_kind}
use Rattle.dh_meaning.specs.Core.{Turning}
use Rattle.dh_meaning.specs.CoreOf.{Known, entity_number, depth_of, turning_of}
use Rattle.dh_meaning.specs.Phases.{turn_count}
use Rattle.dh_sound.specs.NamesInScope.{InScope, is_variable, is_iterator, MaybeInScope, IsScoped, FormScoped, OtherScoped, GroupsScoped, PartScoped}
use Rattle.dh_sound.specs.SameKeys.{EachName, EachNameForm, EachNameOf, IsNoIterator, IsIteratorName}
use Rattle.dh_sound.specs.Straight.{StandsForSome, IsNamedTerm, IsNamedTermForm, AreNamedTerms, MaybeNamed, IsTarget, IsNamedAction, IsNamedForm, IsNamedOther, AreNamedGroups, AreNamedActions}
use Rattle.dh_sound.proofs.DepthsNamed.{size, AllBelow, all_more, two_below, next_below, all_below, part_below, is_absent, first_found, split_first, split_second}
use Rattle.dh_sound.proofs.FactsGrow.{appended, added_last}
use Rattle.dh_sound.proofs.IteratorsNamed.{on_long, declared_on, past_on, goes_on, other_on, part_on, groups_on}
use Rattle.dh_sound.proofs.KindsOfCommands.{added_found}
use Rattle.dh_tree.specs.Resolved.{resolved_plan}
use Rattle.dh_tree.specs.Seen.{terms}
use Rattle.dh_tree.specs.ViewOffsets.{offsets_of}
use Rattle.dh_sound.proofs.Offsets.{offsets_named}

-- Variables by their numbers, from a number on.

abbrev IsFrom : ℕ → Option ℕ → Type 0
IsFrom k None = Unit {0}
IsFrom k (Some n) = k ≤ n

abbrev pub AllFrom : ℕ → List Binding → Type 0
AllFrom k [] = Unit {0}
AllFrom k (b ∷ bs) = IsFrom k b.entity × AllFrom k bs

from_less : (j k : ℕ) (e : Option ℕ) → j ≤ k → IsFrom k e → IsFrom j e
from_less j k None l h = tt
from_less j k (Some n) l h = omega (arith, l, h)

pub all_less : (j k : ℕ) (bs : List Binding) → j ≤ k → AllFrom k bs → AllFrom j bs
all_less j k [] l h = tt
all_less j k (b ∷ bs) l h = (from_less j k b.entity l h.0, all_less j k bs l h.1)

from_both : (k : ℕ) (bs cs : List Binding) → AllFrom k bs → AllFrom k cs → AllFrom k (bs ++ cs)
from_both k [] cs h i = i
from_both k (b ∷ bs) cs h i = (h.0, from_both k bs cs h.1 i)

two_from : (j k : ℕ) (bs cs : List Binding) → j ≤ k → AllFrom j bs → AllFrom k cs → AllFrom j (bs ++ cs)
two_from j k bs cs l h i = from_both j bs cs h (all_less j k cs l i)

own_from : (s : Scope) (e : Option ℕ) → Some (size s) ≡ e → IsFrom (size s) e
own_from s e h = subst (IsFrom (size s)) h (omega arith)

declared_long : (s : Scope) (r : Ref) (k : Sort) → size (declare s r k) ≡ size s + 1
declared_long s r k = length-append s.entities (entity r k ∷ [])

-- the variables of a command have numbers from its begin on
mutual
  pub all_from : (a : Action) (s : Scope) (d : ℕ) → resolved_action s a ≡ a → AllFrom (size s) (bindings d a)
  all_from (action id place form) s d e = let same : resolved_form s form ≡ form = cc in form_from form s d same

  form_from : (f : ActionForm) (s : Scope) (d : ℕ) → resolved_form s f ≡ f → AllFrom (size s) (form_bindings d f)
  form_from (lets name declared value) s d e = let known : Some (size s) ≡ name.entity = cc in (own_from s name.entity known, tt)
  form_from (lets_memory name shape shape_places value) s d e = tt
  form_from (views name parent form) s d e = tt
  form_from (assigns target value) s d e = tt
  form_from (stores target value) s d e = tt
  form_from (reduces target o value) s d e = tt
  form_from (calls function arguments) s d e = tt
  form_from (blocks body) s d e = groups_from body s d (let f = e in cc)
  form_from (decides test chosen other) s d e =
      let inner : Scope = leave s (at_end s chosen) in
      let first : resolved_action s chosen ≡ chosen = cc in
      let second : resolved_other inner other ≡ other = cc in
      two_from (size s) (size (at_end s chosen)) (bindings d chosen) (other_bindings d other)
      (on_long _ _ (goes_on chosen s)) (all_from chosen s d first) (other_from other inner d second)
  form_from (repeats test body) s d e = let same : resolved_action s body ≡ body = cc in all_from body s d same
  form_from (counts iterator declared low high factor body combine combine_place) s d e =
      let inner : Scope = declare s iterator Iterator in
      let known : Some (size s) ≡ iterator.entity = cc in
      let first : resolved_action inner body ≡ body = cc in
      let second : resolved_other (at_end inner body) combine ≡ combine = cc in
      let long = on_long _ _ (declared_on s iterator Iterator) in (
        own_from s iterator.entity known,
        all_less (size s) (size inner) _ long
            (two_from (size inner) (size (at_end inner body)) (bindings (depth_inside d factor.value) body) (other_bindings (depth_inside d factor.value) combine)
            (on_long _ _ (goes_on body inner)) (all_from body inner (depth_inside d factor.value) first) (other_from combine (at_end inner body) (depth_inside d factor.value) second)),
      )

  other_from : (m : MaybeAction) (s : Scope) (d : ℕ) → resolved_other s m ≡ m → AllFrom (size s) (other_bindings d m)
  other_from no_action s d e = tt
  other_from (one_action a) s d e = let same : resolved_action s a ≡ a = cc in all_from a s d same

  part_from : (part : Actions) (s : Scope) (d : ℕ) → resolved_actions s part ≡ part → AllFrom (size s) (part_bindings d part)
  part_from no_actions s d e = tt
  part_from (action_then a rest) s d e =
      let after : Scope = past s a (at_end s a) in
      let first : resolved_action s a ≡ a = cc in
      let second : resolved_actions after rest ≡ rest = cc in
      let same = ap length (past_on s (at_end s a) a) in
      let long = on_long _ _ (goes_on a s) in
      two_from (size s) (size after) (bindings d a) (part_bindings d rest) (omega (arith, same, long)) (all_from a s d first) (part_from rest after d second)

  groups_from : (gs : Groups) (s : Scope) (d : ℕ) → resolved_groups s gs ≡ gs → AllFrom (size s) (groups_bindings d gs)
  groups_from no_groups s d e = tt
  groups_from (group_then g rest) s d e =
      let after : Scope = actions_at_end s g in
      let first : resolved_actions s g ≡ g = cc in
      let second : resolved_groups after rest ≡ rest = cc in
      two_from (size s) (size after) (part_bindings d g) (groups_bindings d rest) (on_long _ _ (part_on g s)) (part_from g s d first) (groups_from rest after d second)

-- no variable has a number that stands between
is_later : (n : ℕ) (e : Option ℕ) → IsFrom (n + 1) e → same_entity e (Some n) ≡ false
is_later n None h = refl
is_later n (Some m) h = grind (arith, nat_tests, h)

-- Variables that come later, or iterate nothing.

abbrev pub AllPast : ℕ → List Binding → Type 0
AllPast k [] = Unit {0}
AllPast k (b ∷ bs) = (IsFrom k b.entity ⊎ (b.iterates ≡ None)) × AllPast k bs

past_less : (j k : ℕ) (bs : List Binding) → j ≤ k → AllPast k bs → AllPast j bs
past_less j k [] l h = tt
past_less j k (b ∷ bs) l (inl f, h) = (inl (from_less j k b.entity l f), past_less j k bs l h)
past_less j k (b ∷ bs) l (inr e, h) = (inr e, past_less j k bs l h)

pub past_both : (k : ℕ) (bs cs : List Binding) → AllPast k bs → AllPast k cs → AllPast k (bs ++ cs)
past_both k [] cs h i = i
past_both k (b ∷ bs) cs h i = (h.0, past_both k bs cs h.1 i)

-- those of a command, with others behind
pub two_past : (j k : ℕ) (bs cs : List Binding) → j ≤ k → AllFrom j bs → AllPast k cs → AllPast j (bs ++ cs)
two_past j k [] cs l h i = past_less j k cs l i
two_past j k (b ∷ bs) cs l h i = (inl h.0, two_past j k bs cs l h.1 i)

-- what is found among them is no iterator
pub none_past : (n : ℕ) (after : List Binding) → AllPast (n + 1) after → IsNoIterator (binding_in after n)
none_past n [] f = tt
none_past n (b ∷ after) f = by (same_entity b.entity (Some n)) refl (none_past n after f.1)
  where
    plain : same_entity b.entity (Some n) ≡ true → IsFrom (n + 1) b.entity ⊎ (b.iterates ≡ None) → b.iterates ≡ None
    plain e (inl l) = let later = is_later n b.entity l in cc
    plain e (inr h) = h

    by : (t : Bool) → same_entity b.entity (Some n) ≡ t → IsNoIterator (binding_in after n) → IsNoIterator (if t then Some b else binding_in after n)
    by true e h = plain e f.0
    by false e h = h

-- a name that stands for the iterator of a `for` whose binding is found
iterator_of : (known : Known) (count : ℕ) (iterator : Ref) (declared : Option Kind) (low high : Placed) (factor : Unrolled) (body : Action) (combine : MaybeAction) (at : Place) (r : Ref) (e : ℕ) (c : Binding)
    → r.entity ≡ iterator.entity → iterator.entity ≡ Some e → binding_in known.bindings e ≡ Some c → c.iterates ≡ Some factor.value → (1 < factor.value → 1 ≤ depth_of known iterator)
    → IsIteratorName known r (turning_of known count (counts iterator declared low high factor body combine at))
iterator_of known count iterator declared low high factor body combine at r e c same is bound iterates deep = record {
  entity = same ∙ (is ∙ ap Some (sym number));
  binding = c;
  bound = found;
  depth = sym (ap depth_bound found);
  iterates = iterates;
  deep = deep;
}
  where
    number : entity_number iterator.entity ≡ e
    number = ap entity_number is

    found : binding_in known.bindings (entity_number iterator.entity) ≡ Some c
    found = ap (λ n. binding_in known.bindings n) number ∙ bound

none_found : (n : ℕ) (before after : List Binding) → AllBelow n before → AllPast (n + 1) after → IsNoIterator (binding_in (before ++ after) n)
none_found n [] after h f = none_past n after f
none_found n (b ∷ before) after h f =
    subst (λ (o : Option Binding). IsNoIterator o) (sym (ap (λ t. if t then Some b else binding_in (before ++ after) n) (is_absent n b.entity h.0))) (none_found n before after h.1 f)

next_from : (s : Scope) (r : Ref) (k : Sort) (after : List Binding) → AllPast (size (declare s r k)) after → AllPast (size s + 1) after
next_from s r k after f = let long = declared_long s r k in past_less (size s + 1) (size (declare s r k)) after (omega (arith, long)) f

-- an unrolled loop counts in its own depth
deep_enough : (d f x : ℕ) → x ≡ depth_inside d f → 1 < f → 1 ≤ x
deep_enough d f x e l = by (nat_lt 1 f) many e
  where
    many : nat_lt 1 f ≡ true
    many = grind (arith, nat_tests)

    by : (t : Bool) → t ≡ true → x ≡ (if t then suc d else d) → 1 ≤ x
    by true h i = omega (arith, i)
    by false h i = cc

module _ (known : Known) where
  -- Names that are visible.

  -- a name that stands for this entity is in scope
  abbrev pub EntityIn : (loops : List Turning) → ℕ → Type 0
  EntityIn loops n = (r : Ref) → r.entity ≡ Some n → InScope known loops r

  -- what is visible is in scope
  abbrev pub AreVisible : (loops : List Turning) → List scopes.ScopeEntry → Type 0
  AreVisible loops bs = (name : List ℕ) (n : ℕ) → entity_of bs name ≡ Some n → EntityIn loops n

  pub plain_in : (loops : List Turning) (n : ℕ) (o : Option Binding) → binding_in known.bindings n ≡ o → IsNoIterator o → EntityIn loops n
  plain_in loops n o e h r is = is_variable n is (subst (λ (x : Option Binding). IsNoIterator x) (sym e) h)

  more_in : (loops : List Turning) (l : Turning) (r : Ref) → InScope known loops r → InScope known (loops ++ l ∷ []) r
  more_in loops l r (is_variable e is none) = is_variable e is none
  more_in loops l r (is_iterator i loop g it) = is_iterator i loop (appended loops (l ∷ []) i loop g) it

  pub bind_in : (loops : List Turning) (bs : List scopes.ScopeEntry) (name : List ℕ) (m : ℕ) → AreVisible loops bs → EntityIn loops m → AreVisible loops (bind bs name m)
  bind_in loops bs name m k h other n e = either (is_visible bs name) e
    where
      either : (b : Bool) → entity_of (if b then bs else bs ++ binding name m ∷ []) other ≡ Some n → EntityIn loops n
      either true f = k other n f
      either false f = elim (added_found bs name other m n f) [ inl g ↦ k other n g | inr g ↦ subst (λ (x : ℕ). EntityIn loops x) g h ]

  past_visible : (loops : List Turning) (s : Scope) (a : Action) → AreVisible loops s.visible → AreVisible loops (at_end s a).visible → AreVisible loops (past s a (at_end s a)).visible
  past_visible loops s (action id place (blocks body)) h i = h
  past_visible loops s (action id place (lets name declared value)) h i = i
  past_visible loops s (action id place (lets_memory name shape shape_places value)) h i = i
  past_visible loops s (action id place (views name parent form)) h i = i
  past_visible loops s (action id place (assigns target value)) h i = i
  past_visible loops s (action id place (stores target value)) h i = i
  past_visible loops s (action id place (reduces target o value)) h i = i
  past_visible loops s (action id place (calls function arguments)) h i = i
  past_visible loops s (action id place (decides test chosen other)) h i = i
  past_visible loops s (action id place (repeats test body)) h i = i
  past_visible loops s (action id place (counts iterator declared low high factor body combine combine_place)) h i = i

  -- Expressions.
  module _ (loops : List Turning) (bs : List scopes.ScopeEntry) (h : AreVisible loops bs) where
    name_in : (r : Ref) → entity_of bs r.name ≡ r.entity → StandsForSome r → InScope known loops r
    name_in r e s = h r.name s.0 (e ∙ s.1) r s.1

    mutual
      term_in : (t : Term) → resolved_term bs t ≡ t → IsNamedTerm t → EachName (InScope known loops) t
      term_in (term place k f) e n = let same : resolved_term_form bs f ≡ f = cc in form_in f same n

      form_in : (f : TermForm) → resolved_term_form bs f ≡ f → IsNamedTermForm f → EachNameForm (InScope known loops) f
      form_in (number negative x) e n = tt
      form_in (truth_value x) e n = tt
      form_in (named r) e n = let same : entity_of bs r.name ≡ r.entity = cc in name_in r same n
      form_in (accessed r ts) e n = let same : resolved_terms bs ts ≡ ts = cc in terms_in ts same n
      form_in (in_bank r bank at t) e n = let same : resolved_term bs t ≡ t = cc in term_in t same n
      form_in (applied o l r) e n =
          let first : resolved_term bs l ≡ l = cc in
          let second : resolved_term bs r ≡ r = cc in
          (term_in l first n.0, term_in r second n.1)
      form_in (converted t to) e n = let same : resolved_term bs t ≡ t = cc in term_in t same n

      terms_in : (ts : Terms) → resolved_terms bs ts ≡ ts → AreNamedTerms ts → EachNameOf (InScope known loops) ts
      terms_in no_terms e n = tt
      terms_in (term_then t ts) e n =
          let first : resolved_term bs t ≡ t = cc in
          let second : resolved_terms bs ts ≡ ts = cc in
          (term_in t first n.0, terms_in ts second n.1)

    value_in : (v : Option Term) → option_map (resolved_term bs) v ≡ v → MaybeNamed v → MaybeInScope known loops v
    value_in None e n = tt
    value_in (Some t) e n = let same : resolved_term bs t ≡ t = cc in term_in t same n

    target_in : (t : Term) → resolved_term bs t ≡ t → IsTarget t → EachName (InScope known loops) t
    target_in (term place k (accessed r ts)) e n = let same : resolved_terms bs ts ≡ ts = cc in terms_in ts same n
    target_in (term place k (in_bank r bank at t)) e n = let same : resolved_term bs t ≡ t = cc in term_in t same n
    target_in (term place k (number negative x)) e n = elim n [ ]
    target_in (term place k (truth_value x)) e n = elim n [ ]
    target_in (term place k (named r)) e n = elim n [ ]
    target_in (term place k (applied o l r)) e n = elim n [ ]
    target_in (term place k (converted t to)) e n = elim n [ ]

  -- Commands.

  -- a declaration of what is no variable
  other_declared : (loops : List Turning) (s : Scope) (r : Ref) (k : Sort) (before after : List Binding) → known.bindings ≡ before ++ after → AllBelow (size s) before → AllPast (size (declare s r k)) after
      → AreVisible loops s.visible → AreVisible loops (declare s r k).visible
  other_declared loops s r k before after is h f v =
      bind_in loops s.visible r.name (size s) v
      (plain_in loops (size s) (binding_in (before ++ after) (size s)) (ap (λ l. binding_in l (size s)) is) (none_found (size s) before after h (next_from s r k after f)))

  -- a declaration of a variable
  variable_declared : (loops : List Turning) (s : Scope) (r : Ref) (k : Sort) (before : List Binding) (b : Binding) (after : List Binding) → known.bindings ≡ before ++ b ∷ after → Some (size s) ≡ b.entity → b.iterates ≡ None
      → AllBelow (size s) before → AreVisible loops s.visible → AreVisible loops (declare s r k).visible
  variable_declared loops s r k before b after is own plain h v =
      bind_in loops s.visible r.name (size s) v
      (plain_in loops (size s) (Some b) (ap (λ l. binding_in l (size s)) is ∙ first_found before b after (size s) own h) plain)

  mutual
    pub scoped : (a : Action) (s : Scope) (d : ℕ) (loops : List Turning) (before after : List Binding) → resolved_action s a ≡ a → IsNamedAction a
        → known.bindings ≡ before ++ (bindings d a ++ after) → AllBelow (size s) before → AllPast (size (at_end s a)) after → AreVisible loops s.visible
        → IsScoped known loops a × AreVisible loops (at_end s a).visible
    scoped (action id place form) s d loops before after e n is h f v =
        let same : resolved_form s form ≡ form = cc in form_scoped form s d loops before after same n is h f v

    form_scoped : (x : ActionForm) (s : Scope) (d : ℕ) (loops : List Turning) (before after : List Binding) → resolved_form s x ≡ x → IsNamedForm x
        → known.bindings ≡ before ++ (form_bindings d x ++ after) → AllBelow (size s) before → AllPast (size (form_at_end s x)) after → AreVisible loops s.visible
        → FormScoped known loops x × AreVisible loops (form_at_end s x).visible
    form_scoped (lets name declared value) s d loops before after e n is h f v =
        let own : Some (size s) ≡ name.entity = cc in
        let right : option_map (resolved_term s.visible) value ≡ value = cc in (
          value_in loops s.visible v value right n.1,
          variable_declared loops s name sort.Variable before (record { entity = name.entity; kind = let_kind declared value; depth = d; iterates = None }) after is own refl h v,
        )
    form_scoped (lets_memory name shape shape_places value) s d loops before after e n is h f v = (tt, other_declared loops s name sort.Memory before after is h f v)
    form_scoped (views name parent form) s d loops before after e n is h f v =
        let plan : resolved_plan s.visible form ≡ form = cc in
        (terms_in loops s.visible v (terms (offsets_of form)) (offsets_named s.visible form plan) n, other_declared loops s name sort.View before after is h f v)
    form_scoped (assigns target value) s d loops before after e n is h f v =
        let right : resolved_term s.visible value ≡ value = cc in (term_in loops s.visible v value right n.1, v)
    form_scoped (stores target value) s d loops before after e n is h f v =
        let left : resolved_term s.visible target ≡ target = cc in
        let right : resolved_term s.visible value ≡ value = cc in
        ((target_in loops s.visible v target left n.0, term_in loops s.visible v value right n.1), v)
    form_scoped (reduces target o value) s d loops before after e n is h f v =
        let right : resolved_term s.visible value ≡ value = cc in (term_in loops s.visible v value right n.1, v)
    form_scoped (calls function arguments) s d loops before after e n is h f v = (tt, v)
    form_scoped (blocks body) s d loops before after e n is h f v = groups_scoped body s d loops before after (let g = e in cc) n is h f v
    form_scoped (decides test chosen other) s d loops before after e n is h f v =
        let inner : Scope = leave s (at_end s chosen) in
        let same : resolved_term s.visible test ≡ test = cc in
        let first : resolved_action s chosen ≡ chosen = cc in
        let second : resolved_other inner other ≡ other = cc in
        let x = scoped chosen s d loops before (other_bindings d other ++ after) first n.1.0 (split_first known.bindings before (bindings d chosen) (other_bindings d other) after is) h
        (two_past (size (at_end s chosen)) (size (other_at_end inner other)) (other_bindings d other) after (on_long _ _ (other_on other inner)) (other_from other inner d second) f) v in
        let y = other_scoped other inner d loops (before ++ bindings d chosen) after second n.1.1 (split_second known.bindings before (bindings d chosen) (other_bindings d other) after is)
        (two_below (size s) (size inner) before (bindings d chosen) (on_long _ _ (goes_on chosen s)) h (all_below chosen s d first)) f v in
        ((term_in loops s.visible v test same n.0, (x.0, y.0)), v)
    form_scoped (repeats test body) s d loops before after e n is h f v =
        let same : resolved_term s.visible test ≡ test = cc in
        let inside : resolved_action s body ≡ body = cc in
        let x = scoped body s d loops before after inside n.1 is h f v in
        ((term_in loops s.visible v test same n.0, x.0), v)
    form_scoped (counts iterator declared low high factor body combine combine_place) s d loops before after e n is h f v =
        let inner : Scope = declare s iterator Iterator in
        let own : Some (size s) ≡ iterator.entity = cc in
        let first : resolved_action inner body ≡ body = cc in
        let second : resolved_other (at_end inner body) combine ≡ combine = cc in
        let di : ℕ = depth_inside d factor.value in
        let b : Binding = record { entity = iterator.entity; kind = iterator_kind declared; depth = di; iterates = Some factor.value } in
        let t : Turning = turning_of known (turn_count low.value high.value factor.value) (counts iterator declared low high factor body combine combine_place) in
        let round : List Binding = before ++ b ∷ [] in
        let found : binding_in known.bindings (size s) ≡ Some b = ap (λ l. binding_in l (size s)) is ∙ first_found before b _ (size s) own h in
        let deep : depth_of known iterator ≡ di = ap (λ o. depth_bound (binding_in known.bindings (entity_number o))) (sym own) ∙ ap depth_bound found in
        let inside : known.bindings ≡ round ++ ((bindings di body ++ other_bindings di combine) ++ after) = is ∙ sym (append_assoc before (b ∷ []) _) in
        let below = two_below (size s) (size inner) before (b ∷ []) (on_long _ _ (declared_on s iterator Iterator)) h (next_below s iterator Iterator iterator.entity own, tt) in
        let visible : AreVisible (loops ++ t ∷ []) inner.visible =
        bind_in (loops ++ t ∷ []) s.visible iterator.name (size s) (λ name m g r i. more_in loops t r (v name m g r i))
        (λ r g. is_iterator (length loops) t (added_last loops t)
        (iterator_of known (turn_count low.value high.value factor.value) iterator declared low high factor body combine combine_place r (size s) b (g ∙ own) (sym own) found refl (deep_enough d factor.value _ deep))) in
        let x = scoped body inner di (loops ++ t ∷ []) round (other_bindings di combine ++ after) first n.1.0 (split_first known.bindings round (bindings di body) (other_bindings di combine) after inside) below
        (two_past (size (at_end inner body)) (size (other_at_end (at_end inner body) combine)) (other_bindings di combine) after (on_long _ _ (other_on combine (at_end inner body))) (other_from combine (at_end inner body) di second) f) visible in
        let y = other_scoped combine (at_end inner body) di (loops ++ t ∷ []) (round ++ bindings di body) after second n.1.1 (split_second known.bindings round (bindings di body) (other_bindings di combine) after inside)
        (two_below (size inner) (size (at_end inner body)) round (bindings di body) (on_long _ _ (goes_on body inner)) below (all_below body inner di first)) f x.1 in
        ((x.0, y.0), v)

    other_scoped : (m : MaybeAction) (s : Scope) (d : ℕ) (loops : List Turning) (before after : List Binding) → resolved_other s m ≡ m → IsNamedOther m
        → known.bindings ≡ before ++ (other_bindings d m ++ after) → AllBelow (size s) before → AllPast (size (other_at_end s m)) after → AreVisible loops s.visible
        → OtherScoped known loops m × AreVisible loops (other_at_end s m).visible
    other_scoped no_action s d loops before after e n is h f v = (tt, v)
    other_scoped (one_action a) s d loops before after e n is h f v = let same : resolved_action s a ≡ a = cc in scoped a s d loops before after same n is h f v

    part_scoped : (part : Actions) (s : Scope) (d : ℕ) (loops : List Turning) (before after : List Binding) → resolved_actions s part ≡ part → AreNamedActions part
        → known.bindings ≡ before ++ (part_bindings d part ++ after) → AllBelow (size s) before → AllPast (size (actions_at_end s part)) after → AreVisible loops s.visible
        → PartScoped known loops part × AreVisible loops (actions_at_end s part).visible
    part_scoped no_actions s d loops before after e n is h f v = (tt, v)
    part_scoped (action_then a rest) s d loops before after e n is h f v =
        let next : Scope = past s a (at_end s a) in
        let first : resolved_action s a ≡ a = cc in
        let second : resolved_actions next rest ≡ rest = cc in
        let same = ap length (past_on s (at_end s a) a) in
        let long = on_long _ _ (goes_on a s) in
        let behind = on_long _ _ (part_on rest next) in
        let x = scoped a s d loops before (part_bindings d rest ++ after) first n.0 (split_first known.bindings before (bindings d a) (part_bindings d rest) after is) h
        (past_less (size (at_end s a)) (size next) _ (omega (arith, same))
        (two_past (size next) (size (actions_at_end next rest)) (part_bindings d rest) after behind (part_from rest next d second) f)) v in
        let y = part_scoped rest next d loops (before ++ bindings d a) after second n.1 (split_second known.bindings before (bindings d a) (part_bindings d rest) after is)
        (all_more (size (at_end s a)) (size next) (before ++ bindings d a) (omega (arith, same))
        (two_below (size s) (size (at_end s a)) before (bindings d a) long h (all_below a s d first))) f (past_visible loops s a v x.1) in
        ((x.0, y.0), y.1)

    groups_scoped : (gs : Groups) (s : Scope) (d : ℕ) (loops : List Turning) (before after : List Binding) → resolved_groups s gs ≡ gs → AreNamedGroups gs
        → known.bindings ≡ before ++ (groups_bindings d gs ++ after) → AllBelow (size s) before → AllPast (size (groups_at_end s gs)) after → AreVisible loops s.visible
        → GroupsScoped known loops gs × AreVisible loops (groups_at_end s gs).visible
    groups_scoped no_groups s d loops before after e n is h f v = (tt, v)
    groups_scoped (group_then g rest) s d loops before after e n is h f v =
        let next : Scope = actions_at_end s g in
        let first : resolved_actions s g ≡ g = cc in
        let second : resolved_groups next rest ≡ rest = cc in
        let x = part_scoped g s d loops before (groups_bindings d rest ++ after) first n.0 (split_first known.bindings before (part_bindings d g) (groups_bindings d rest) after is) h
        (two_past (size next) (size (groups_at_end next rest)) (groups_bindings d rest) after (on_long _ _ (groups_on rest next)) (groups_from rest next d second) f) v in
        let y = groups_scoped rest next d loops (before ++ part_bindings d g) after second n.1 (split_second known.bindings before (part_bindings d g) (groups_bindings d rest) after is)
        (two_below (size s) (size next) before (part_bindings d g) (on_long _ _ (part_on g s)) h (part_below g s d first)) f x.1 in
        ((x.0, y.0), y.1)

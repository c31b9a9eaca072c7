-- In a ready program no command assigns to an iterator: each binding that iterates has an entity that is an iterator, and the
-- rules on places let no command assign to such an entity. By two walks over the body, with the entities so far.
use Rattle.std.proofs.Common.{◌≡◌, ◌⊎◌, inl, inr, ℕ, ◌&&◌, ◌||◌, not, Bool, true, false, if◌then◌else◌, List, [], ◌∷◌, ◌++◌, length, map, Option, Some, None, refl, ap, sym, ◌∙◌, subst, arith}
use Rattle.std.specs.Prelude.{slice_get}
use Rattle.std.proofs.lemmas.Bool.Decides.{nat_tests}
use Rattle.std.proofs.lemmas.List.{append-nil, append_assoc}
use Rattle.dh_base.specs.declared.places.Place.{Place}
use Rattle.dh_base.specs.declared.rules.Rule.TheVariants.{OuterWrite, Reducer}
use Rattle.dh_tree.specs.declared.trees.expressions.Ref.{Ref}
use Rattle.dh_tree.specs.declared.trees.programs.Entity.{Entity}
use Rattle.dh_tree.specs.declared.trees.programs.Sort.{Sort}
use Rattle.dh_tree.specs.declared.trees.programs.Sort.TheVariants as sort
use Rattle.dh_tree.specs.Kinds.{when}
use Rattle.dh_tree.specs.LeastBreach.{breach}
use Rattle.dh_tree.specs.Memories.{same_entity}
use Rattle.dh_tree.specs.PlainTrees.{Term, Action, action, ActionForm, lets, lets_memory, views, assigns, stores, reduces, calls, blocks, decides, repeats, counts, MaybeAction, no_action, one_action, Actions, no_actions, action_then, Groups, no_groups, group_then, Program}
use Rattle.dh_tree.specs.Placements.{Context, nothing_round, branched, in_body, in_combine, entity_iterates, entity_varies, names_iterator, names_variable, is_from_outside, is_folded_into, reducer_breaches, joined_breaches, decls_placement_breaches, action_placement_breaches, form_placement_breaches, other_placement_breaches, actions_placement_breaches, groups_placement_breaches}
use Rattle.dh_tree.specs.Ready.{IsReady}
use Rattle.dh_tree.specs.Resolved.{resolved_action, resolved_form, resolved_other, resolved_actions, resolved_groups}
use Rattle.dh_tree.specs.TextNumbers.{HasTextNumbers, FormHasTextNumbers, OtherHasTextNumbers, GroupsHaveTextNumbers, PartHasTextNumbers}
use Rattle.dh_tree.specs.Scopes.{Scope, entity, declare, leave, past, at_end, form_at_end, other_at_end, actions_at_end, groups_at_end, body_scope, last_scope}
use Rattle.dh_tree.proofs.EmptyLists.{first_none, second_none, not_none}
use Rattle.dh_meaning.specs.Bindings.{Binding, bindings, bindings_of, form_bindings, other_bindings, groups_bindings, part_bindings, binding_in, depth_inside}
use Rattle.dh_meaning.specs.CoreOf.{Known, known_of, entity_number}
use Rattle.dh_meaning.specs.Ways.{Hidden, Led, ViewSite, behind_hidden, hidden_binding, hidden_bindings, hidden_of, led_binding, standings, view_bindings, ways_of}
use Rattle.dh_sound.specs.SameKeys.{IsNoIterator}
use Rattle.dh_sound.specs.Straight.{StandsForSome, IsNamedAction, IsNamedForm, IsNamedOther, AreNamedGroups, AreNamedActions}
use Rattle.dh_typed_blocks.specs.PlainPrograms.{IsPlainTarget, AssignsPlain, FormPlain, OtherPlain, GroupsPlain, PartPlain}
use Rattle.dh_sound.proofs.NamedPrograms.{ready_named}
use Rattle.dh_sound.proofs.FactsGrow.{appended, added_last}
use Rattle.dh_sound.proofs.IteratorsNamed.{GoesOn, past_on, goes_on, other_on, part_on, groups_on, none_when}

then_on : (es fs gs : List Entity) → GoesOn es fs → GoesOn fs gs → GoesOn es gs
then_on es fs gs a b = record { more = a.more ++ b.more; is = b.is ∙ (ap (λ x. x ++ b.more) a.is ∙ append_assoc es a.more b.more) }

-- what is declared next has its number
at_own : (es : List Entity) (s : Scope) (r : Ref) (k : Sort) → GoesOn (declare s r k).entities es → slice_get es (length s.entities) ≡ Some (entity r k)
at_own es s r k on =
    ap (λ (x : List Entity). slice_get x (length s.entities)) on.is
    ∙ appended (s.entities ++ entity r k ∷ []) on.more (length s.entities) (entity r k) (added_last s.entities (entity r k))

module _ (es : List Entity) where
  abbrev IsSorted : Binding → Type 0
  IsSorted b = (b.iterates ≡ None) ⊎ (names_iterator es b.entity ≡ true)

  abbrev pub AllSorted : List Binding → Type 0
  AllSorted [] = Unit {0}
  AllSorted (b ∷ bs) = IsSorted b × AllSorted bs

  sorted_both : (bs cs : List Binding) → AllSorted bs → AllSorted cs → AllSorted (bs ++ cs)
  sorted_both [] cs h g = g
  sorted_both (b ∷ bs) cs h g = (h.0, sorted_both bs cs h.1 g)

  mutual
    sorted : (a : Action) (s : Scope) (d : ℕ) → resolved_action s a ≡ a → GoesOn (at_end s a).entities es → AllSorted (bindings d a)
    sorted (action id place form) s d e on = let same : resolved_form s form ≡ form = cc in form_sorted form s d same on

    form_sorted : (f : ActionForm) (s : Scope) (d : ℕ) → resolved_form s f ≡ f → GoesOn (form_at_end s f).entities es → AllSorted (form_bindings d f)
    form_sorted (lets name declared value) s d e on = (inl refl, tt)
    form_sorted (lets_memory name shape shape_places value) s d e on = tt
    form_sorted (views name parent form) s d e on = tt
    form_sorted (assigns target value) s d e on = tt
    form_sorted (stores target value) s d e on = tt
    form_sorted (reduces target o value) s d e on = tt
    form_sorted (calls function arguments) s d e on = tt
    form_sorted (blocks body) s d e on = groups_sorted body s d (let f = e in cc) on
    form_sorted (decides test chosen other) s d e on =
        let inner : Scope = leave s (at_end s chosen) in
        let first : resolved_action s chosen ≡ chosen = cc in
        let second : resolved_other inner other ≡ other = cc in
        sorted_both (bindings d chosen) (other_bindings d other)
        (sorted chosen s d first (then_on inner.entities (other_at_end inner other).entities es (other_on other inner) on)) (other_sorted other inner d second on)
    form_sorted (repeats test body) s d e on = let same : resolved_action s body ≡ body = cc in sorted body s d same on
    form_sorted (counts iterator declared low high factor body combine combine_place) s d e on =
        let inner : Scope = declare s iterator sort.Iterator in
        let own : Some (length s.entities) ≡ iterator.entity = cc in
        let first : resolved_action inner body ≡ body = cc in
        let second : resolved_other (at_end inner body) combine ≡ combine = cc in
        let body_on = then_on (at_end inner body).entities (other_at_end (at_end inner body) combine).entities es (other_on combine (at_end inner body)) on in
        let inner_on = then_on inner.entities (at_end inner body).entities es (goes_on body inner) body_on in
        let is : names_iterator es (Some (length s.entities)) ≡ true = ap entity_iterates (at_own es s iterator sort.Iterator inner_on) in (
          inr (subst (λ (o : Option ℕ). names_iterator es o ≡ true) own is),
          sorted_both (bindings (depth_inside d factor.value) body) (other_bindings (depth_inside d factor.value) combine)
              (sorted body inner (depth_inside d factor.value) first body_on) (other_sorted combine (at_end inner body) (depth_inside d factor.value) second on),
        )

    other_sorted : (m : MaybeAction) (s : Scope) (d : ℕ) → resolved_other s m ≡ m → GoesOn (other_at_end s m).entities es → AllSorted (other_bindings d m)
    other_sorted no_action s d e on = tt
    other_sorted (one_action a) s d e on = let same : resolved_action s a ≡ a = cc in sorted a s d same on

    part_sorted : (part : Actions) (s : Scope) (d : ℕ) → resolved_actions s part ≡ part → GoesOn (actions_at_end s part).entities es → AllSorted (part_bindings d part)
    part_sorted no_actions s d e on = tt
    part_sorted (action_then a rest) s d e on =
        let after : Scope = past s a (at_end s a) in
        let first : resolved_action s a ≡ a = cc in
        let second : resolved_actions after rest ≡ rest = cc in
        let behind = then_on after.entities (actions_at_end after rest).entities es (part_on rest after) on in
        sorted_both (bindings d a) (part_bindings d rest) (sorted a s d first (subst (λ (x : List Entity). GoesOn x es) (past_on s (at_end s a) a) behind)) (part_sorted rest after d second on)

    groups_sorted : (gs : Groups) (s : Scope) (d : ℕ) → resolved_groups s gs ≡ gs → GoesOn (groups_at_end s gs).entities es → AllSorted (groups_bindings d gs)
    groups_sorted no_groups s d e on = tt
    groups_sorted (group_then g rest) s d e on =
        let after : Scope = actions_at_end s g in
        let first : resolved_actions s g ≡ g = cc in
        let second : resolved_groups after rest ≡ rest = cc in
        sorted_both (part_bindings d g) (groups_bindings d rest) (part_sorted g s d first (then_on after.entities (groups_at_end after rest).entities es (groups_on rest after) on)) (groups_sorted rest after d second on)

  same_is : (o : Option ℕ) (n : ℕ) → same_entity o (Some n) ≡ true → o ≡ Some n
  same_is None n e = absurd cc
  same_is (Some m) n e = let f : m ≡ n = grind (arith, nat_tests) in ap Some f

  -- an entity that is no iterator is bound to none
  found_plain : (bs : List Binding) (n : ℕ) → AllSorted bs → names_iterator es (Some n) ≡ false → IsNoIterator (binding_in bs n)
  found_plain [] n h e = tt
  found_plain (b ∷ bs) n h e = by (same_entity b.entity (Some n)) refl h.0 (found_plain bs n h.1 e)
    where
      by : (t : Bool) → same_entity b.entity (Some n) ≡ t → IsSorted b → IsNoIterator (binding_in bs n) → IsNoIterator (if t then Some b else binding_in bs n)
      by true f (inl g) more = g
      by true f (inr g) more = let i = subst (λ (o : Option ℕ). names_iterator es o ≡ true) (same_is b.entity n f) g in absurd cc
      by false f g more = more

  left_false : (a b : Bool) → (a || b) ≡ false → a ≡ false
  left_false false b e = refl
  left_false true b e = cc

  left_true : (a b : Bool) → not (a && b) ≡ false → a ≡ true
  left_true true b e = refl
  left_true false b e = cc

  -- a variable is no iterator
  varies_plain : (e : Option Entity) → entity_varies e ≡ true → entity_iterates e ≡ false
  varies_plain None h = refl
  varies_plain (Some e) h = by e.sort h
    where
      by : (k : Sort) → entity_varies (Some (record { name = e.name; place = e.place; sort = k })) ≡ true → entity_iterates (Some (record { name = e.name; place = e.place; sort = k })) ≡ false
      by sort.Variable h = refl
      by sort.Iterator h = cc
      by sort.Memory h = refl
      by sort.View h = refl
      by sort.Function h = refl

  pub variable_plain : (o : Option ℕ) → names_variable es o ≡ true → names_iterator es o ≡ false
  variable_plain None h = refl
  variable_plain (Some n) h = varies_plain (slice_get es n) h

  reduced_plain : (joins : Option ℕ) (target : Ref) (value : Term) → reducer_breaches es joins target value ≡ [] → names_iterator es target.entity ≡ false
  reduced_plain None target value e = not_none _ _ e
  reduced_plain (Some i) target value e =
      variable_plain target.entity (left_true (names_variable es target.entity) (is_from_outside i target.entity)
      (none_when (not (is_folded_into es i target.entity)) (breach Reducer target.place) (first_none (when (not (is_folded_into es i target.entity)) (breach Reducer target.place ∷ [])) _ e)))

  module _ (known : Known) (all : AllSorted known.bindings) where
    pub plain_of : (r : Ref) → StandsForSome r → names_iterator es r.entity ≡ false → IsPlainTarget known r
    plain_of r (n, is) e =
        subst (λ (k : ℕ). IsNoIterator (binding_in known.bindings k)) (sym (ap entity_number is)) (found_plain known.bindings n all (ap (names_iterator es) (sym is) ∙ e))

    mutual
      plain : (a : Action) (s : Scope) (c : Context) → resolved_action s a ≡ a → action_placement_breaches es c a ≡ [] → IsNamedAction a → HasTextNumbers a → GoesOn (at_end s a).entities es → AssignsPlain known a
      plain (action id place form) s c e b n w on = let same : resolved_form s form ≡ form = cc in form_plain form s c place same b n w on

      form_plain : (f : ActionForm) (s : Scope) (c : Context) (place : Place) → resolved_form s f ≡ f → form_placement_breaches es c place f ≡ [] → IsNamedForm f → FormHasTextNumbers f → GoesOn (form_at_end s f).entities es → FormPlain known f
      form_plain (lets name declared value) s c place e b n w on =
          let own : Some (length s.entities) ≡ name.entity = cc in
          let is : names_iterator es (Some (length s.entities)) ≡ false = ap entity_iterates (at_own es s name sort.Variable on) in
          plain_of name n.0 (subst (λ (o : Option ℕ). names_iterator es o ≡ false) own is)
      form_plain (lets_memory name shape shape_places value) s c place e b n w on = tt
      form_plain (views name parent form) s c place e b n w on = tt
      form_plain (assigns target value) s c place e b n w on =
          plain_of target n.0 (left_false (names_iterator es target.entity) (is_from_outside c.first target.entity) (none_when _ (breach OuterWrite target.place) b))
      form_plain (stores target value) s c place e b n w on = tt
      form_plain (reduces target o value) s c place e b n w on = (plain_of target n.0 (reduced_plain c.joins target value b), w)
      form_plain (calls function arguments) s c place e b n w on = tt
      form_plain (blocks body) s c place e b n w on = groups_plain body s c (let f = e in cc) b n w on
      form_plain (decides test chosen other) s c place e b n w on =
          let inner : Scope = leave s (at_end s chosen) in
          let first : resolved_action s chosen ≡ chosen = cc in
          let second : resolved_other inner other ≡ other = cc in
          let below = second_none (action_placement_breaches es (branched c) chosen) _ b in (
            plain chosen s (branched c) first (first_none (action_placement_breaches es (branched c) chosen) _ b) n.1.0 w.0 (then_on inner.entities (other_at_end inner other).entities es (other_on other inner) on),
            other_plain other inner (branched c) second (first_none (other_placement_breaches es (branched c) other) _ below) n.1.1 w.1 on,
          )
      form_plain (repeats test body) s c place e b n w on =
          let same : resolved_action s body ≡ body = cc in
          plain body s (branched c) same (first_none (action_placement_breaches es (branched c) body) _ b) n.1 w on
      form_plain (counts iterator declared low high factor body combine combine_place) s c place e b n w on =
          let inner : Scope = declare s iterator sort.Iterator in
          let first : resolved_action inner body ≡ body = cc in
          let second : resolved_other (at_end inner body) combine ≡ combine = cc in
          let below = second_none (action_placement_breaches es (in_body c factor.value iterator.entity) body) _ b in (
            plain body inner (in_body c factor.value iterator.entity) first (first_none (action_placement_breaches es (in_body c factor.value iterator.entity) body) _ b) n.1.0 w.1.0
                (then_on (at_end inner body).entities (other_at_end (at_end inner body) combine).entities es (other_on combine (at_end inner body)) on),
            other_plain combine (at_end inner body) (in_combine c iterator.entity) second (first_none (other_placement_breaches es (in_combine c iterator.entity) combine) _ below) n.1.1 w.1.1 on,
          )

      other_plain : (m : MaybeAction) (s : Scope) (c : Context) → resolved_other s m ≡ m → other_placement_breaches es c m ≡ [] → IsNamedOther m → OtherHasTextNumbers m → GoesOn (other_at_end s m).entities es → OtherPlain known m
      other_plain no_action s c e b n w on = tt
      other_plain (one_action a) s c e b n w on = let same : resolved_action s a ≡ a = cc in plain a s c same b n w on

      part_plain : (part : Actions) (s : Scope) (c : Context) → resolved_actions s part ≡ part → actions_placement_breaches es c part ≡ [] → AreNamedActions part → PartHasTextNumbers part → GoesOn (actions_at_end s part).entities es → PartPlain known part
      part_plain no_actions s c e b n w on = tt
      part_plain (action_then a rest) s c e b n w on =
          let after : Scope = past s a (at_end s a) in
          let first : resolved_action s a ≡ a = cc in
          let second : resolved_actions after rest ≡ rest = cc in
          let behind = then_on after.entities (actions_at_end after rest).entities es (part_on rest after) on in (
            plain a s c first (first_none (action_placement_breaches es c a) _ b) n.0 w.0 (subst (λ (x : List Entity). GoesOn x es) (past_on s (at_end s a) a) behind),
            part_plain rest after c second (second_none (joined_breaches c.joins a) _ (second_none (action_placement_breaches es c a) _ b)) n.1 w.1 on,
          )

      groups_plain : (gs : Groups) (s : Scope) (c : Context) → resolved_groups s gs ≡ gs → groups_placement_breaches es c gs ≡ [] → AreNamedGroups gs → GroupsHaveTextNumbers gs → GoesOn (groups_at_end s gs).entities es → GroupsPlain known gs
      groups_plain no_groups s c e b n w on = tt
      groups_plain (group_then g rest) s c e b n w on =
          let after : Scope = actions_at_end s g in
          let first : resolved_actions s g ≡ g = cc in
          let second : resolved_groups after rest ≡ rest = cc in (
            part_plain g s c first (first_none (actions_placement_breaches es c g) _ b) n.0 w.0 (then_on after.entities (groups_at_end after rest).entities es (groups_on rest after) on),
            groups_plain rest after c second (second_none (actions_placement_breaches es c g) _ b) n.1 w.1 on,
          )

-- views and the variables that keep their offsets iterate over nothing
module _ (es : List Entity) where
  led_sorted : (ls : List Led) → AllSorted es (map led_binding ls)
  led_sorted [] = tt
  led_sorted (l ∷ ls) = (inl refl, led_sorted ls)

  hidden_sorted : (hs : List Hidden) → AllSorted es (map hidden_binding hs)
  hidden_sorted [] = tt
  hidden_sorted (h ∷ hs) = (inl refl, hidden_sorted hs)

  kept_sorted : (first : ℕ) (ss : List ViewSite) → AllSorted es (hidden_bindings first ss)
  kept_sorted first [] = tt
  kept_sorted first (s ∷ ss) = sorted_both es (map hidden_binding (hidden_of first s)) (hidden_bindings (behind_hidden first s) ss) (hidden_sorted (hidden_of first s)) (kept_sorted (behind_hidden first s) ss)

-- the bindings of a ready program
pub ready_sorted : (p : Program) → IsReady p → AllSorted p.entities (known_of p).bindings
ready_sorted p r =
    let same : resolved_action (body_scope p) p.body ≡ p.body = ap (λ (x : Program). x.body) r.entities in
    sorted_both p.entities (bindings_of p) (view_bindings p)
    (sorted p.entities p.body (body_scope p) 0 same (record { more = []; is = sym (ap (λ (x : Program). x.entities) r.entities) ∙ sym (append-nil (last_scope p).entities) }))
    (sorted_both p.entities (map led_binding (ways_of p)) (hidden_bindings (length p.entities) (standings 0 p.body)) (led_sorted p.entities (ways_of p)) (kept_sorted p.entities (length p.entities) (standings 0 p.body)))

-- a ready program
pub ready_plain : (p : Program) → IsReady p → AssignsPlain (known_of p) p.body
ready_plain p r =
    let same : resolved_action (body_scope p) p.body ≡ p.body = ap (λ (x : Program). x.body) r.entities in
    let on : GoesOn (last_scope p).entities p.entities = record { more = []; is = sym (ap (λ (x : Program). x.entities) r.entities) ∙ sym (append-nil (last_scope p).entities) } in
    plain p.entities (known_of p) (ready_sorted p r) p.body (body_scope p) nothing_round same (second_none (decls_placement_breaches p.decls) _ r.placements) (ready_named p r) r.of_text.numbers on

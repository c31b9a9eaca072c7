-- The depth of each iterator where a program is run is the number of the unrolled loops round it and its own. Entities
-- are numbered in text order; so among all variables of a program the first with the number of an iterator is the
-- one that its loop declares, with the depth there: those before it have smaller numbers. By one walk over the
-- body. Then for the phases, which have the same loops round them, and for what is run.
use Rattle.std.proofs.Common.{◌≡◌, inl, inr, ℕ, suc, ◌+◌, ◌<◌, ◌≤◌, nat_lt, Bool, true, false, if◌then◌else◌, List, [], ◌∷◌, ◌++◌, length, Option, Some, None, refl, sym, ◌∙◌, ap, subst, arith, length-append}
use Rattle.std.proofs.lemmas.Bool.Decides.{nat_tests}
use Rattle.std.proofs.lemmas.List.{append_assoc, append-nil}
use Rattle.dh_base.specs.declared.places.Place.{Place}
use Rattle.dh_tree.specs.declared.trees.expressions.Ref.{Ref}
use Rattle.dh_tree.specs.declared.trees.programs.Sort.{Sort}
use Rattle.dh_tree.specs.declared.trees.programs.Sort.TheVariants.{Variable, Iterator}
use Rattle.dh_tree.specs.Memories.{same_entity}
use Rattle.dh_tree.specs.PlainTrees.{shrinks, splits, suffixes, shifts, Action, action, ActionForm, lets, lets_memory, views, assigns, stores, reduces, calls, blocks, decides, repeats, counts, MaybeAction, no_action, one_action, Actions, no_actions, action_then, Groups, no_groups, group_then, Program}
use Rattle.dh_tree.specs.Resolved.{resolved_action, resolved_form, resolved_other, resolved_actions, resolved_groups, HasEntities}
use Rattle.dh_tree.specs.Scopes.{Scope, entity, declare, leave, past, at_end, form_at_end, other_at_end, actions_at_end, groups_at_end, body_scope}
use Rattle.dh_meaning.specs.AccessNumbers.{term_accesses, accesses_of, part_accesses}
use Rattle.dh_meaning.specs.Bindings.{Binding, let_kind, depth_inside, bindings, form_bindings, other_bindings, groups_bindings, part_bindings, binding_in, depth_bound}
use Rattle.dh_tree.specs.Kinds.{iterator_kind}
use Rattle.dh_meaning.specs.Sites.{Around, nothing_around, in_arm, in_loop, loop_of}
use Rattle.dh_meaning.specs.Phases.{Phase, straight, turns, repeated, decided, Phases, no_phases, phase, of_list, turn_count, located, phases, form_phases, other_phases, groups_phases, parts_phases, phases_of}
use Rattle.dh_meaning.specs.Core.{Turning}
use Rattle.dh_meaning.specs.CoreOf.{Known, known_of, entity_number, action_form_of, turning_of, core_phase, core_phases, core_of}
use Rattle.dh_meaning.specs.Effects.{Block}
use Rattle.dh_sound.specs.Blocks.{factors, StandsIn, StandsInPhase}
use Rattle.dh_sound.specs.IteratorsAt.{HaveDepths, KeepsDepths}
use Rattle.dh_sound.specs.LoopsDeclared.{IsFoundWith}
use Rattle.dh_sound.proofs.IteratorsAt.{factors_both}
use Rattle.dh_sound.proofs.IteratorsNamed.{on_long, declared_on, past_on, goes_on, other_on, part_on, groups_on}
use Rattle.dh_sound.proofs.PhasesHold.{Facts, PhaseHolds, PhasesHold, ListHolds, PartsHold, of_list_hold, both_hold, joined_hold, folded_hold, turn_hold, choice_hold}
use Rattle.dh_meaning.specs.Ways.{all_bindings_of, view_bindings}

-- Variables by their numbers.

abbrev pub size : Scope → ℕ
size s = length s.entities

-- a variable has one of so many numbers
abbrev pub IsBelow : ℕ → Option ℕ → Type 0
IsBelow k None = Unit {0}
IsBelow k (Some n) = n < k

abbrev pub AllBelow : ℕ → List Binding → Type 0
AllBelow k [] = Unit {0}
AllBelow k (b ∷ bs) = IsBelow k b.entity × AllBelow k bs

below_more : (j k : ℕ) (e : Option ℕ) → j ≤ k → IsBelow j e → IsBelow k e
below_more j k None l h = tt
below_more j k (Some n) l h = omega (arith, l, h)

pub all_more : (j k : ℕ) (bs : List Binding) → j ≤ k → AllBelow j bs → AllBelow k bs
all_more j k [] l h = tt
all_more j k (b ∷ bs) l h = (below_more j k b.entity l h.0, all_more j k bs l h.1)

all_both : (k : ℕ) (bs cs : List Binding) → AllBelow k bs → AllBelow k cs → AllBelow k (bs ++ cs)
all_both k [] cs h i = i
all_both k (b ∷ bs) cs h i = (h.0, all_both k bs cs h.1 i)

pub two_below : (j k : ℕ) (bs cs : List Binding) → j ≤ k → AllBelow j bs → AllBelow k cs → AllBelow k (bs ++ cs)
two_below j k bs cs l h i = all_both k bs cs (all_more j k bs l h) i

-- a declaration takes the next number
pub next_below : (s : Scope) (r : Ref) (sort : Sort) (e : Option ℕ) → Some (size s) ≡ e → IsBelow (size (declare s r sort)) e
next_below s r sort e h = let g = length-append s.entities (entity r sort ∷ []) in subst (IsBelow (size (declare s r sort))) h (omega (arith, g))

-- the variables of a command are numbered by its end
mutual
  pub all_below : (a : Action) (s : Scope) (d : ℕ) → resolved_action s a ≡ a → AllBelow (size (at_end s a)) (bindings d a)
  all_below (action id place form) s d e = let same : resolved_form s form ≡ form = cc in form_below form s d same

  form_below : (f : ActionForm) (s : Scope) (d : ℕ) → resolved_form s f ≡ f → AllBelow (size (form_at_end s f)) (form_bindings d f)
  form_below (lets name declared value) s d e = let named : Some (size s) ≡ name.entity = cc in (next_below s name Variable name.entity named, tt)
  form_below (lets_memory name shape shape_places value) s d e = tt
  form_below (views name parent form) s d e = tt
  form_below (assigns target value) s d e = tt
  form_below (stores target value) s d e = tt
  form_below (reduces target o value) s d e = tt
  form_below (calls function arguments) s d e = tt
  form_below (blocks body) s d e = groups_below body s d (let f = e in cc)
  form_below (decides test chosen other) s d e =
      let inner : Scope = leave s (at_end s chosen) in
      let first : resolved_action s chosen ≡ chosen = cc in
      let second : resolved_other inner other ≡ other = cc in
      two_below (size (at_end s chosen)) (size (other_at_end inner other)) (bindings d chosen) (other_bindings d other)
      (on_long _ _ (other_on other inner)) (all_below chosen s d first) (other_below other inner d second)
  form_below (repeats test body) s d e = let same : resolved_action s body ≡ body = cc in all_below body s d same
  form_below (counts iterator declared low high factor body combine combine_place) s d e =
      let inner : Scope = declare s iterator Iterator in
      let named : Some (size s) ≡ iterator.entity = cc in
      let first : resolved_action inner body ≡ body = cc in
      let second : resolved_other (at_end inner body) combine ≡ combine = cc in
      let inside = on_long _ _ (goes_on body inner) in
      let behind = on_long _ _ (other_on combine (at_end inner body)) in (
        below_more (size inner) (size (other_at_end (at_end inner body) combine)) iterator.entity (omega (arith, inside, behind)) (next_below s iterator Iterator iterator.entity named),
        two_below (size (at_end inner body)) (size (other_at_end (at_end inner body) combine)) (bindings (depth_inside d factor.value) body) (other_bindings (depth_inside d factor.value) combine)
            behind (all_below body inner (depth_inside d factor.value) first) (other_below combine (at_end inner body) (depth_inside d factor.value) second),
      )

  other_below : (m : MaybeAction) (s : Scope) (d : ℕ) → resolved_other s m ≡ m → AllBelow (size (other_at_end s m)) (other_bindings d m)
  other_below no_action s d e = tt
  other_below (one_action a) s d e = let same : resolved_action s a ≡ a = cc in all_below a s d same

  pub part_below : (part : Actions) (s : Scope) (d : ℕ) → resolved_actions s part ≡ part → AllBelow (size (actions_at_end s part)) (part_bindings d part)
  part_below no_actions s d e = tt
  part_below (action_then a rest) s d e =
      let after : Scope = past s a (at_end s a) in
      let first : resolved_action s a ≡ a = cc in
      let second : resolved_actions after rest ≡ rest = cc in
      let same = ap length (past_on s (at_end s a) a) in
      let more = on_long _ _ (part_on rest after) in
      two_below (size (at_end s a)) (size (actions_at_end after rest)) (bindings d a) (part_bindings d rest) (omega (arith, same, more))
      (all_below a s d first) (part_below rest after d second)

  groups_below : (gs : Groups) (s : Scope) (d : ℕ) → resolved_groups s gs ≡ gs → AllBelow (size (groups_at_end s gs)) (groups_bindings d gs)
  groups_below no_groups s d e = tt
  groups_below (group_then g rest) s d e =
      let after : Scope = actions_at_end s g in
      let first : resolved_actions s g ≡ g = cc in
      let second : resolved_groups after rest ≡ rest = cc in
      two_below (size after) (size (groups_at_end after rest)) (part_bindings d g) (groups_bindings d rest) (on_long _ _ (groups_on rest after))
      (part_below g s d first) (groups_below rest after d second)

-- Iterators by their numbers.

pub is_absent : (n : ℕ) (e : Option ℕ) → IsBelow n e → same_entity e (Some n) ≡ false
is_absent n None h = refl
is_absent n (Some m) h = grind (arith, nat_tests, h)

is_there : (n : ℕ) → same_entity (Some n) (Some n) ≡ true
is_there n = grind (arith, nat_tests)

-- the first variable with a number, behind those with smaller ones
pub first_found : (before : List Binding) (b : Binding) (rest : List Binding) (n : ℕ) → Some n ≡ b.entity → AllBelow n before → binding_in (before ++ b ∷ rest) n ≡ Some b
first_found [] b rest n e h =
    ap (λ t. if t then Some b else binding_in rest n) (subst (λ (o : Option ℕ). same_entity o (Some n) ≡ true) e (is_there n))
first_found (c ∷ before) b rest n e h =
    ap (λ t. if t then Some c else binding_in (before ++ b ∷ rest) n) (is_absent n c.entity h.0) ∙ first_found before b rest n e h.1

pub split_first : (bs before b c after : List Binding) → bs ≡ before ++ ((b ++ c) ++ after) → bs ≡ before ++ (b ++ (c ++ after))
split_first bs before b c after e = e ∙ ap (λ x. before ++ x) (append_assoc b c after)

pub split_second : (bs before b c after : List Binding) → bs ≡ before ++ ((b ++ c) ++ after) → bs ≡ (before ++ b) ++ (c ++ after)
split_second bs before b c after e = split_first bs before b c after e ∙ sym (append_assoc before b (c ++ after))

module _ (bs : List Binding) where
  -- of each loop of a command at this depth the iterator is found with its depth, and each variable with that of its `let`
  abbrev mutual
    pub Deep : (depth : ℕ) → Action → Type 0
    Deep d (action id place form) = FormDeep d form

    pub FormDeep : (depth : ℕ) → ActionForm → Type 0
    FormDeep d (lets name declared value) = depth_bound (binding_in bs (entity_number name.entity)) ≡ d
    FormDeep d (lets_memory name shape shape_places value) = Unit {0}
    FormDeep d (views name parent form) = Unit {0}
    FormDeep d (assigns target value) = Unit {0}
    FormDeep d (stores target value) = Unit {0}
    FormDeep d (reduces target op value) = Unit {0}
    FormDeep d (calls function arguments) = Unit {0}
    FormDeep d (blocks body) = GroupsDeep d body
    FormDeep d (decides test chosen other) = Deep d chosen × OtherDeep d other
    FormDeep d (repeats test body) = Deep d body
    FormDeep d (counts iterator declared low high factor body combine combine_place) =
        IsFoundWith bs iterator (depth_inside d factor.value) factor.value
        × (Deep (depth_inside d factor.value) body × OtherDeep (depth_inside d factor.value) combine)

    pub OtherDeep : (depth : ℕ) → MaybeAction → Type 0
    OtherDeep d no_action = Unit {0}
    OtherDeep d (one_action a) = Deep d a

    pub GroupsDeep : (depth : ℕ) → Groups → Type 0
    GroupsDeep d no_groups = Unit {0}
    GroupsDeep d (group_then part rest) = PartDeep d part × GroupsDeep d rest

    pub PartDeep : (depth : ℕ) → Actions → Type 0
    PartDeep d no_actions = Unit {0}
    PartDeep d (action_then a rest) = Deep d a × PartDeep d rest

  binding_found : (before : List Binding) (b : Binding) (rest : List Binding) (n : ℕ) → Some n ≡ b.entity → AllBelow n before → bs ≡ before ++ b ∷ rest
      → binding_in bs (entity_number b.entity) ≡ Some b
  binding_found before b rest n e h is =
      subst (λ (o : Option ℕ). binding_in bs (entity_number o) ≡ Some b) e (ap (λ l. binding_in l n) is ∙ first_found before b rest n e h)

  mutual
    pub deep : (a : Action) (s : Scope) (d : ℕ) (before after : List Binding) → resolved_action s a ≡ a
        → bs ≡ before ++ (bindings d a ++ after) → AllBelow (size s) before → Deep d a
    deep (action id place form) s d before after e is h = let same : resolved_form s form ≡ form = cc in form_deep form s d before after same is h

    form_deep : (f : ActionForm) (s : Scope) (d : ℕ) (before after : List Binding) → resolved_form s f ≡ f
        → bs ≡ before ++ (form_bindings d f ++ after) → AllBelow (size s) before → FormDeep d f
    form_deep (lets name declared value) s d before after e is h =
        let named : Some (size s) ≡ name.entity = cc in
        ap depth_bound (binding_found before (record { entity = name.entity; kind = let_kind declared value; depth = d; iterates = None }) after (size s) named h is)
    form_deep (lets_memory name shape shape_places value) s d before after e is h = tt
    form_deep (views name parent form) s d before after e is h = tt
    form_deep (assigns target value) s d before after e is h = tt
    form_deep (stores target value) s d before after e is h = tt
    form_deep (reduces target o value) s d before after e is h = tt
    form_deep (calls function arguments) s d before after e is h = tt
    form_deep (blocks body) s d before after e is h = groups_deep body s d before after (let g = e in cc) is h
    form_deep (decides test chosen other) s d before after e is h =
        let inner : Scope = leave s (at_end s chosen) in
        let first : resolved_action s chosen ≡ chosen = cc in
        let second : resolved_other inner other ≡ other = cc in (
          deep chosen s d before (other_bindings d other ++ after) first (split_first bs before (bindings d chosen) (other_bindings d other) after is) h,
          other_deep other inner d (before ++ bindings d chosen) after second (split_second bs before (bindings d chosen) (other_bindings d other) after is)
              (two_below (size s) (size inner) before (bindings d chosen) (on_long _ _ (goes_on chosen s)) h (all_below chosen s d first)),
        )
    form_deep (repeats test body) s d before after e is h =
        let same : resolved_action s body ≡ body = cc in deep body s d before after same is h
    form_deep (counts iterator declared low high factor body combine combine_place) s d before after e is h =
        let inner : Scope = declare s iterator Iterator in
        let named : Some (size s) ≡ iterator.entity = cc in
        let first : resolved_action inner body ≡ body = cc in
        let second : resolved_other (at_end inner body) combine ≡ combine = cc in
        let di : ℕ = depth_inside d factor.value in
        let b : Binding = record { entity = iterator.entity; kind = iterator_kind declared; depth = di; iterates = Some factor.value } in
        let round : List Binding = before ++ b ∷ [] in
        let inside : bs ≡ round ++ ((bindings di body ++ other_bindings di combine) ++ after) = is ∙ sym (append_assoc before (b ∷ []) _) in
        let below = two_below (size s) (size inner) before (b ∷ []) (on_long _ _ (declared_on s iterator Iterator)) h (next_below s iterator Iterator iterator.entity named, tt) in (
          record { binding = b; bound = binding_found before b _ (size s) named h is; depth_is = refl; iterates = refl },
          (
            deep body inner di round (other_bindings di combine ++ after) first (split_first bs round (bindings di body) (other_bindings di combine) after inside) below,
            other_deep combine (at_end inner body) di (round ++ bindings di body) after second (split_second bs round (bindings di body) (other_bindings di combine) after inside)
                (two_below (size inner) (size (at_end inner body)) round (bindings di body) (on_long _ _ (goes_on body inner)) below (all_below body inner di first)),
          ),
        )

    other_deep : (m : MaybeAction) (s : Scope) (d : ℕ) (before after : List Binding) → resolved_other s m ≡ m
        → bs ≡ before ++ (other_bindings d m ++ after) → AllBelow (size s) before → OtherDeep d m
    other_deep no_action s d before after e is h = tt
    other_deep (one_action a) s d before after e is h = let same : resolved_action s a ≡ a = cc in deep a s d before after same is h

    part_deep : (part : Actions) (s : Scope) (d : ℕ) (before after : List Binding) → resolved_actions s part ≡ part
        → bs ≡ before ++ (part_bindings d part ++ after) → AllBelow (size s) before → PartDeep d part
    part_deep no_actions s d before after e is h = tt
    part_deep (action_then a rest) s d before after e is h =
        let next : Scope = past s a (at_end s a) in
        let first : resolved_action s a ≡ a = cc in
        let second : resolved_actions next rest ≡ rest = cc in
        let same = ap length (past_on s (at_end s a) a) in
        let long = on_long _ _ (goes_on a s) in (
          deep a s d before (part_bindings d rest ++ after) first (split_first bs before (bindings d a) (part_bindings d rest) after is) h,
          part_deep rest next d (before ++ bindings d a) after second (split_second bs before (bindings d a) (part_bindings d rest) after is)
              (all_more (size (at_end s a)) (size next) (before ++ bindings d a) (omega (arith, same))
              (two_below (size s) (size (at_end s a)) before (bindings d a) long h (all_below a s d first))),
        )

    groups_deep : (gs : Groups) (s : Scope) (d : ℕ) (before after : List Binding) → resolved_groups s gs ≡ gs
        → bs ≡ before ++ (groups_bindings d gs ++ after) → AllBelow (size s) before → GroupsDeep d gs
    groups_deep no_groups s d before after e is h = tt
    groups_deep (group_then g rest) s d before after e is h =
        let next : Scope = actions_at_end s g in
        let first : resolved_actions s g ≡ g = cc in
        let second : resolved_groups next rest ≡ rest = cc in (
          part_deep g s d before (groups_bindings d rest ++ after) first (split_first bs before (part_bindings d g) (groups_bindings d rest) after is) h,
          groups_deep rest next d (before ++ part_bindings d g) after second (split_second bs before (part_bindings d g) (groups_bindings d rest) after is)
              (two_below (size s) (size next) before (part_bindings d g) (on_long _ _ (part_on g s)) h (part_below g s d first)),
        )

-- Phases.

module _ (known : Known) where
  -- each loop of phases at this depth has its depth
  abbrev has_depths : Facts
  has_depths = record {
    round = ℕ;
    does = λ d a. Unit {0};
    turns_so = λ d form. (turning_of known 0 form).depth ≡ depth_inside d (turning_of known 0 form).factor;
    inside = λ d form. depth_inside d (turning_of known 0 form).factor;
  }

  mutual
    phases_deep : (a : Action) (d : ℕ) (r : Around) (n : ℕ) → Deep known.bindings d a → ListHolds has_depths d (phases r n a)
    phases_deep (action id place form) d r n h = form_phases_deep form d r n id place h

    form_phases_deep : (form : ActionForm) (d : ℕ) (r : Around) (n id : ℕ) (place : Place) → FormDeep known.bindings d form → ListHolds has_depths d (form_phases r n id place form)
    form_phases_deep (lets name declared value) d r n id place h = ((tt, tt), tt)
    form_phases_deep (assigns target value) d r n id place h = ((tt, tt), tt)
    form_phases_deep (stores target value) d r n id place h = ((tt, tt), tt)
    form_phases_deep (reduces target op value) d r n id place h = ((tt, tt), tt)
    form_phases_deep (decides test chosen other) d r n id place h =
        choice_hold has_depths d (located r n (action id place (decides test chosen other))) _ _ tt
        (phases_deep chosen d (in_arm r id true) (n + term_accesses test) h.0)
        (other_phases_deep other d (in_arm r id false) (n + term_accesses test + accesses_of chosen) h.1)
    form_phases_deep (repeats test body) d r n id place h = (of_list_hold has_depths d _ (phases_deep body d r (n + term_accesses test) h), tt)
    form_phases_deep (counts iterator declared low high factor body combine combine_place) d r n id place h =
        turn_hold has_depths d (located r n (action id place (counts iterator declared low high factor body combine combine_place))) (turn_count low.value high.value factor.value) _
        (ap depth_bound h.0.bound ∙ h.0.depth_is)
        (folded_hold has_depths (depth_inside d factor.value) _ _
        (phases_deep body (depth_inside d factor.value) (in_loop r (loop_of iterator low high factor)) n h.1.0)
        (other_phases_deep combine (depth_inside d factor.value) (in_loop r (loop_of iterator low high factor)) (n + accesses_of body) h.1.1))
    form_phases_deep (blocks body) d r n id place h = groups_phases_deep body d r n h
    form_phases_deep (lets_memory name shape shape_places value) d r n id place h = tt
    form_phases_deep (views name parent (shrinks by by_place)) d r n id place h = tt
    form_phases_deep (views name parent (splits by by_place)) d r n id place h = tt
    form_phases_deep (views name parent (suffixes by by_place)) d r n id place h = ((tt, tt), tt)
    form_phases_deep (views name parent (shifts by)) d r n id place h = ((tt, tt), tt)
    form_phases_deep (calls function arguments) d r n id place h = tt

    other_phases_deep : (m : MaybeAction) (d : ℕ) (r : Around) (n : ℕ) → OtherDeep known.bindings d m → ListHolds has_depths d (other_phases r n m)
    other_phases_deep no_action d r n h = tt
    other_phases_deep (one_action a) d r n h = phases_deep a d r n h

    groups_phases_deep : (gs : Groups) (d : ℕ) (r : Around) (n : ℕ) → GroupsDeep known.bindings d gs → ListHolds has_depths d (groups_phases r n gs)
    groups_phases_deep no_groups d r n h = tt
    groups_phases_deep (group_then part rest) d r n h =
        both_hold has_depths d _ _ (joined_hold has_depths d [] (parts_phases r n part) tt (parts_phases_deep part d r n h.0)) (groups_phases_deep rest d r (n + part_accesses part) h.1)

    parts_phases_deep : (part : Actions) (d : ℕ) (r : Around) (n : ℕ) → PartDeep known.bindings d part → PartsHold has_depths d (parts_phases r n part)
    parts_phases_deep no_actions d r n h = tt
    parts_phases_deep (action_then a rest) d r n h = (phases_deep a d r n h.0, parts_phases_deep rest d r (n + accesses_of a) h.1)

-- What is run.

-- one more loop
factors_counted : (round : List Turning) (loop : Turning) → length (factors (round ++ loop ∷ [])) ≡ depth_inside (length (factors round)) loop.factor
factors_counted round loop = ap length (factors_both round (loop ∷ [])) ∙ by (nat_lt 1 loop.factor)
  where
    by : (t : Bool) → length (factors round ++ (if t then loop.factor ∷ [] else [])) ≡ (if t then suc (length (factors round)) else length (factors round))
    by true = let n = length-append (factors round) (loop.factor ∷ []) in omega (arith, n)
    by false = ap length (append-nil (factors round))

one_more : (round loops : List Turning) (loop : Turning) → HaveDepths round loops → loop.depth ≡ length (factors (round ++ (loops ++ loop ∷ []))) → HaveDepths round (loops ++ loop ∷ [])
one_more round [] loop h e = (e, tt)
one_more round (l ∷ ls) loop h e =
    (h.0, one_more (round ++ l ∷ []) ls loop h.1 (e ∙ ap (λ x. length (factors x)) (sym (append_assoc round (l ∷ []) (ls ++ loop ∷ [])))))

module _ (known : Known) where
  depth_same : (count : ℕ) (form : ActionForm) → (turning_of known count form).depth ≡ (turning_of known 0 form).depth
  depth_same count (counts iterator declared low high factor body combine combine_place) = refl
  depth_same count (decides test chosen other) = refl
  depth_same count (repeats test body) = refl
  depth_same count (lets name declared value) = refl
  depth_same count (lets_memory name shape shape_places value) = refl
  depth_same count (views name parent form) = refl
  depth_same count (assigns target value) = refl
  depth_same count (stores target value) = refl
  depth_same count (reduces target o value) = refl
  depth_same count (calls function arguments) = refl
  depth_same count (blocks body) = refl

  factor_same : (count : ℕ) (form : ActionForm) → (turning_of known count form).factor ≡ (turning_of known 0 form).factor
  factor_same count (counts iterator declared low high factor body combine combine_place) = refl
  factor_same count (decides test chosen other) = refl
  factor_same count (repeats test body) = refl
  factor_same count (lets name declared value) = refl
  factor_same count (lets_memory name shape shape_places value) = refl
  factor_same count (views name parent form) = refl
  factor_same count (assigns target value) = refl
  factor_same count (stores target value) = refl
  factor_same count (reduces target o value) = refl
  factor_same count (calls function arguments) = refl
  factor_same count (blocks body) = refl

  -- the number of unrolled loops inside a loop of phases
  pub inside_count : (round : List Turning) (count : ℕ) (form : ActionForm)
      → length (factors (round ++ turning_of known count form ∷ [])) ≡ depth_inside (length (factors round)) (turning_of known 0 form).factor
  inside_count round count form = factors_counted round (turning_of known count form) ∙ ap (depth_inside (length (factors round))) (factor_same count form)

  mutual
    phase_has : (p : Phase) (round : List Turning) → PhaseHolds (has_depths known) (length (factors round)) p → HaveDepths [] round → (loops : List Turning) (b : Block)
        → StandsInPhase round (core_phase known p) loops b → HaveDepths [] loops
    phase_has (straight cs) round h g loops b s = subst (λ (ls : List Turning). HaveDepths [] ls) (sym s.0) g
    phase_has (turns loop count body) round h g loops b s =
        phases_have body (round ++ turning_of known count (action_form_of loop.command) ∷ [])
        (subst (λ (d : ℕ). PhasesHold (has_depths known) d body) (sym (inside_count round count (action_form_of loop.command))) h.1)
        (one_more [] round (turning_of known count (action_form_of loop.command)) g
        (depth_same count (action_form_of loop.command) ∙ (h.0 ∙ sym (inside_count round count (action_form_of loop.command)))))
        loops b s
    phase_has (repeated loop body) round h g loops b (inl s) = subst (λ (ls : List Turning). HaveDepths [] ls) (sym s.0) g
    phase_has (repeated loop body) round h g loops b (inr s) = phases_have body round h g loops b s
    phase_has (decided choice chosen other) round h g loops b (inl s) = subst (λ (ls : List Turning). HaveDepths [] ls) (sym s.0) g
    phase_has (decided choice chosen other) round h g loops b (inr (inl s)) = phases_have chosen round h.0 g loops b s
    phase_has (decided choice chosen other) round h g loops b (inr (inr s)) = phases_have other round h.1 g loops b s

    phases_have : (ps : Phases) (round : List Turning) → PhasesHold (has_depths known) (length (factors round)) ps → HaveDepths [] round → (loops : List Turning) (b : Block)
        → StandsIn round (core_phases known ps) loops b → HaveDepths [] loops
    phases_have no_phases round h g loops b s = elim s [ ]
    phases_have (phase p ps) round h g loops b (inl s) = phase_has p round h.0 g loops b s
    phases_have (phase p ps) round h g loops b (inr s) = phases_have ps round h.1 g loops b s

all_hold : (p : Program) → HasEntities p → PhasesHold (has_depths (known_of p)) 0 (of_list (phases_of p))
all_hold p h =
    of_list_hold (has_depths (known_of p)) 0 (phases_of p)
    (phases_deep (known_of p) p.body 0 nothing_around 0
    (deep (all_bindings_of p) p.body (body_scope p) 0 [] (view_bindings p) (ap (λ (x : Program). x.body) h) refl tt))

-- a program whose names have their entities keeps the depths of its iterators where it is run
pub depths_kept : (p : Program) → HasEntities p → KeepsDepths (core_of p)
depths_kept p h = record { depths = λ loops b s. phases_have (known_of p) (of_list (phases_of p)) [] (all_hold p h) tt loops b s }

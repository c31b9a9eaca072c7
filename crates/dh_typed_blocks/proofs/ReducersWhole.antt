-- What a reducer puts together in a block that joins copies is a variable that is declared inside all the unrolled loops
-- round the copies, as it is numbered behind the iterator of their loop. By two walks over the body, beside those of
-- dh_sound, which tell what each visible name stands for.
use Rattle.std.proofs.Common.{◌≡◌, inl, inr, ℕ, ◌≤◌, ◌&&◌, not, nat_lt, Bool, true, false, if◌then◌else◌, List, [], ◌∷◌, ◌++◌, length, map, Option, Some, None, refl, ap, sym, ◌∙◌, subst, arith, length-append}
use Rattle.std.proofs.lemmas.Bool.Decides.{nat_tests}
use Rattle.std.specs.Prelude.{slice_get}
use Rattle.dh_base.specs.declared.places.Place.{Place}
use Rattle.dh_base.specs.declared.rules.Rule.TheVariants.{Reducer}
use Rattle.dh_value.specs.declared.kinds.Kind.{Kind}
use Rattle.dh_tree.specs.declared.trees.expressions.Ref.{Ref}
use Rattle.dh_tree.specs.declared.trees.programs.Entity.{Entity}
use Rattle.dh_tree.specs.declared.trees.programs.Sort.TheVariants as sort
use Rattle.dh_tree.specs.Breaches.{unknown, twice, term_breaches, breaches, form_breaches, other_breaches, actions_breaches, groups_breaches, items_breaches, functions_breaches}
use Rattle.dh_tree.specs.Forms.{unbuilt_functions}
use Rattle.dh_tree.specs.KindBreaches.{term_kind_breaches, assigned_breaches, condition_breaches, target_breaches, reducer_kind_breaches, iterator_breaches, low_breaches, high_breaches, action_kind_breaches, action_form_kind_breaches, other_kind_breaches, actions_kind_breaches, groups_kind_breaches, functions_kind_breaches}
use Rattle.dh_tree.specs.Kinds.{Fact, Facts, of_iterator, of_memory, of_variable, of_function, fact_at, fact_of, found, place_of, target_kind, iterator_kind, value_breaches, when, first_facts, body_facts, facts_after, facts_after_actions}
use Rattle.dh_tree.specs.LeastBreach.{breach}
use Rattle.dh_tree.specs.Memories.{Memory, memories_of, locals, form_locals, other_locals, part_locals, groups_locals, outside_memory}
use Rattle.dh_tree.specs.Placements as placed
use Rattle.dh_tree.specs.Placements.{Context, nothing_round, branched, in_body, in_combine, first_inside, names_variable, is_from_inside, is_folded, is_folded_into, folded_breaches, joined_breaches, action_placement_breaches, form_placement_breaches, other_placement_breaches, actions_placement_breaches, groups_placement_breaches, decls_placement_breaches}
use Rattle.dh_tree.specs.PlainTrees.{Term, term, number, truth_value, named, accessed, in_bank, applied, converted, Action, action, ActionForm, lets, lets_memory, views, assigns, stores, reduces, calls, blocks, decides, repeats, counts, MaybeAction, no_action, one_action, Actions, no_actions, action_then, Groups, no_groups, group_then, Program}
use Rattle.dh_tree.specs.Ready.{IsReady}
use Rattle.dh_tree.specs.Resolved.{resolved_term, resolved_action, resolved_form, resolved_other, resolved_actions, resolved_groups}
use Rattle.dh_tree.specs.Scopes as scopes
use Rattle.dh_tree.specs.Scopes.{entity_of, bind, Scope, declare, leave, past, at_end, form_at_end, other_at_end, actions_at_end, groups_at_end, items_of, first_scope, body_scope}
use Rattle.dh_tree.proofs.EmptyLists.{first_none, second_none, not_none}
use Rattle.dh_meaning.specs.Bindings.{depth_inside, binding_in, depth_bound}
use Rattle.dh_meaning.specs.Ways.{ViewSite, all_bindings_of, form_standings, groups_standings, other_standings, part_standings, standings, view_bindings}
use Rattle.dh_meaning.specs.CoreOf.{Known, known_of, depth_of, entity_number}
use Rattle.dh_meaning.specs.Sites.{nothing_around}
use Rattle.dh_sound.specs.IndexValues.{IsTypedProgram}
use Rattle.dh_sound.specs.OuterWrites.{SparesOuter, FormSparesOuter, OtherSparesOuter, PartSparesOuter, GroupsSpareOuter}
use Rattle.dh_sound.specs.SimpleForms.{FoldsOnly, FormFoldsOnly, GroupsFoldOnly, PartFoldsOnly, FoldsInJoins, FormFoldsInJoins, OtherFoldsInJoins, GroupsFoldInJoins, PartFoldsInJoins, JoinsFolds}
use Rattle.dh_sound.proofs.DepthsNamed.{size, Deep, FormDeep, OtherDeep, GroupsDeep, PartDeep, deep}
use Rattle.dh_sound.proofs.FactsGrow.{appended, grows, part_grows, InStep, next_in_step, past_in_step, in_step, part_in_step}
use Rattle.dh_sound.proofs.IteratorsNamed.{none_when, on_long, past_on, goes_on, part_on}
use Rattle.dh_sound.proofs.JoinsKept.{joins_kept}
use Rattle.dh_sound.proofs.KindsOfPrograms.{body_in_step, resolved_body}
use Rattle.dh_sound.proofs.NamedPrograms.{used_stands}
use Rattle.dh_carried.proofs.Pigeons.{Has, has_left, has_right}
use Rattle.dh_sound.proofs.OuterSpared.{outer_spared}
use Rattle.dh_sound.proofs.SortsOfCommands.{told}
use Rattle.dh_sound.proofs.SortsOfNames.{IsDeepFrom, IsSorted, memory_is, variable_is, view_is, iterator_is, function_is, AreSorted, later_sorted, all_later, inner_sorted, bind_sorted, next_fact, past_sorted}
use Rattle.dh_code.specs.Declarations.{placing_of}
use Rattle.dh_runnable.proofs.NamesKnown.{IsGood}
use Rattle.dh_runnable.proofs.ProgramsRun.{body_known}
use Rattle.dh_typed_blocks.specs.PlainPrograms.{IsPlainTarget, IsWholeTerm}
use Rattle.dh_typed_blocks.proofs.ProgramsEnough.{enough}
use Rattle.dh_typed_blocks.proofs.IteratorsSorted.{AllSorted, plain_of, variable_plain, ready_sorted}

-- What is to be told of blocks that join copies, by the unrolled loops round the copies.
module _ (known : Known) where
  abbrev mutual
    pub ReducesWhole : (depth : ℕ) → Action → Type 0
    ReducesWhole d (action id place form) = FormReducesWhole d form

    pub FormReducesWhole : (depth : ℕ) → ActionForm → Type 0
    FormReducesWhole d (reduces target o value) = IsWholeTerm known d value
    FormReducesWhole d (blocks body) = GroupsReduceWhole d body
    FormReducesWhole d (lets name declared value) = Unit {0}
    FormReducesWhole d (lets_memory name shape shape_places value) = Unit {0}
    FormReducesWhole d (views name parent form) = Unit {0}
    FormReducesWhole d (assigns target value) = Unit {0}
    FormReducesWhole d (stores target value) = Unit {0}
    FormReducesWhole d (calls function arguments) = Unit {0}
    FormReducesWhole d (decides test chosen other) = Unit {0}
    FormReducesWhole d (repeats test body) = Unit {0}
    FormReducesWhole d (counts iterator declared low high factor body combine combine_place) = Unit {0}

    pub GroupsReduceWhole : (depth : ℕ) → Groups → Type 0
    GroupsReduceWhole d no_groups = Unit {0}
    GroupsReduceWhole d (group_then part rest) = PartReducesWhole d part × GroupsReduceWhole d rest

    pub PartReducesWhole : (depth : ℕ) → Actions → Type 0
    PartReducesWhole d no_actions = Unit {0}
    PartReducesWhole d (action_then a rest) = ReducesWhole d a × PartReducesWhole d rest

  abbrev pub OtherReducesWhole : (depth : ℕ) → MaybeAction → Type 0
  OtherReducesWhole d no_action = Unit {0}
  OtherReducesWhole d (one_action a) = ReducesWhole d a

  abbrev mutual
    pub JoinsWhole : (depth : ℕ) → Action → Type 0
    JoinsWhole d (action id place form) = FormJoinsWhole d form

    pub FormJoinsWhole : (depth : ℕ) → ActionForm → Type 0
    FormJoinsWhole d (lets name declared value) = Unit {0}
    FormJoinsWhole d (lets_memory name shape shape_places value) = Unit {0}
    FormJoinsWhole d (views name parent form) = Unit {0}
    FormJoinsWhole d (assigns target value) = Unit {0}
    FormJoinsWhole d (stores target value) = Unit {0}
    FormJoinsWhole d (reduces target o value) = Unit {0}
    FormJoinsWhole d (calls function arguments) = Unit {0}
    FormJoinsWhole d (blocks body) = GroupsJoinWhole d body
    FormJoinsWhole d (decides test chosen other) = JoinsWhole d chosen × OtherJoinsWhole d other
    FormJoinsWhole d (repeats test body) = JoinsWhole d body
    FormJoinsWhole d (counts iterator declared low high factor body combine combine_place) =
        JoinsWhole (depth_inside d factor.value) body × OtherReducesWhole (depth_inside d factor.value) combine

    pub OtherJoinsWhole : (depth : ℕ) → MaybeAction → Type 0
    OtherJoinsWhole d no_action = Unit {0}
    OtherJoinsWhole d (one_action a) = JoinsWhole d a

    pub GroupsJoinWhole : (depth : ℕ) → Groups → Type 0
    GroupsJoinWhole d no_groups = Unit {0}
    GroupsJoinWhole d (group_then part rest) = PartJoinsWhole d part × GroupsJoinWhole d rest

    pub PartJoinsWhole : (depth : ℕ) → Actions → Type 0
    PartJoinsWhole d no_actions = Unit {0}
    PartJoinsWhole d (action_then a rest) = JoinsWhole d a × PartJoinsWhole d rest

-- Reducers.

both_true : (a b : Bool) → not (a && b) ≡ false → (a ≡ true) × (b ≡ true)
both_true true true e = (refl, refl)
both_true true false e = absurd cc
both_true false b e = absurd cc

module _ (p : Program) (all : AllSorted p.entities (known_of p).bindings) (i : ℕ) where
  abbrev es : List Entity
  es = p.entities

  above : (first n : ℕ) → first ≤ i → is_from_inside i (Some n) ≡ true → first ≤ n
  above first n l e = grind (arith, nat_tests)

  -- a name that is used as a value is of a variable
  deep_value : (facts : Facts) (first d : ℕ) (r : Ref) (n : ℕ) (place : Place) → r.entity ≡ Some n → IsSorted p facts first d n → value_breaches (fact_of facts r) place ≡ [] → IsDeepFrom p first d n
  deep_value facts first d r n place is (variable_is k at far) e = far
  deep_value facts first d r n place is (iterator_is k at far) e = far
  deep_value facts first d r n place is (memory_is k dims at m) e = not_none _ _ (ap (λ o. value_breaches o place) (sym (ap (fact_at facts) is ∙ at)) ∙ e)
  deep_value facts first d r n place is (view_is k dims at m) e = not_none _ _ (ap (λ o. value_breaches o place) (sym (ap (fact_at facts) is ∙ at)) ∙ e)
  deep_value facts first d r n place is (function_is ks at) e = not_none _ _ (ap (λ o. value_breaches o place) (sym (ap (fact_at facts) is ∙ at)) ∙ e)

  deep_name : (d : ℕ) (r : Ref) (n : ℕ) → r.entity ≡ Some n → d ≤ depth_bound (binding_in (all_bindings_of p) n) → d ≤ depth_of (known_of p) r
  deep_name d r n is l = subst (λ (o : Option ℕ). d ≤ depth_bound (binding_in (all_bindings_of p) (entity_number o))) (sym is) l

  -- the name of what is folded
  folded_name : (facts : Facts) (bs : List scopes.ScopeEntry) (first d : ℕ) (r : Ref) (place : Place) → AreSorted p facts first d bs → first ≤ i → entity_of bs r.name ≡ r.entity → unknown bs r ≡ [] → value_breaches (fact_of facts r) place ≡ []
      → not (is_folded es i (named r)) ≡ false → IsPlainTarget (known_of p) r × (d ≤ depth_of (known_of p) r)
  folded_name facts bs first d r place k l same seen kinds folded =
      let w = used_stands bs r same seen in
      let both = both_true (names_variable es r.entity) (is_from_inside i r.entity) folded in
      let inside : is_from_inside i (Some w.0) ≡ true = ap (is_from_inside i) (sym w.1) ∙ both.1 in
      let far = deep_value facts first d r w.0 place w.1 (k r.name w.0 (same ∙ w.1)) kinds in (
        plain_of es (known_of p) all r w (variable_plain es r.entity both.0),
        deep_name d r w.0 w.1 (far (above first w.0 l inside)),
      )

  folded_term : (facts : Facts) (bs : List scopes.ScopeEntry) (first d : ℕ) (t : Term) → AreSorted p facts first d bs → first ≤ i → resolved_term bs t ≡ t → term_breaches bs t ≡ [] → term_kind_breaches facts t ≡ [] → folded_breaches es i t ≡ []
      → IsWholeTerm (known_of p) d t
  folded_term facts bs first d (term place k (named r)) s l same seen kinds folded =
      let name : entity_of bs r.name ≡ r.entity = cc in
      folded_name facts bs first d r place s l name seen kinds (none_when (not (is_folded es i (named r))) (breach Reducer place) folded)
  folded_term facts bs first d (term place k (number negative x)) s l same seen kinds folded = not_none _ _ folded
  folded_term facts bs first d (term place k (truth_value b)) s l same seen kinds folded = not_none _ _ folded
  folded_term facts bs first d (term place k (accessed r ts)) s l same seen kinds folded = not_none _ _ folded
  folded_term facts bs first d (term place k (in_bank r bank at row)) s l same seen kinds folded = not_none _ _ folded
  folded_term facts bs first d (term place k (applied o left right)) s l same seen kinds folded = not_none _ _ folded
  folded_term facts bs first d (term place k (converted inner to)) s l same seen kinds folded = not_none _ _ folded

  -- reducers declare nothing
  part_visible : (s : Scope) (part : Actions) → PartFoldsOnly part → (actions_at_end s part).visible ≡ s.visible
  part_visible s no_actions h = refl
  part_visible s (action_then (action id place (reduces target o value)) rest) h = part_visible s rest h.1
  part_visible s (action_then (action id place (blocks body)) rest) h = part_visible (leave s (groups_at_end s body)) rest h.1
  part_visible s (action_then (action id place (lets name declared value)) rest) h = absurd h.0
  part_visible s (action_then (action id place (lets_memory name shape shape_places value)) rest) h = absurd h.0
  part_visible s (action_then (action id place (views name parent form)) rest) h = absurd h.0
  part_visible s (action_then (action id place (assigns target value)) rest) h = absurd h.0
  part_visible s (action_then (action id place (stores target value)) rest) h = absurd h.0
  part_visible s (action_then (action id place (calls function arguments)) rest) h = absurd h.0
  part_visible s (action_then (action id place (decides test chosen other)) rest) h = absurd h.0
  part_visible s (action_then (action id place (repeats test body)) rest) h = absurd h.0
  part_visible s (action_then (action id place (counts iterator declared low high factor body combine combine_place)) rest) h = absurd h.0

  past_visible : (s : Scope) (a : Action) → FoldsOnly a → (past s a (at_end s a)).visible ≡ s.visible
  past_visible s (action id place (reduces target o value)) h = refl
  past_visible s (action id place (blocks body)) h = refl
  past_visible s (action id place (lets name declared value)) h = absurd h
  past_visible s (action id place (lets_memory name shape shape_places value)) h = absurd h
  past_visible s (action id place (views name parent form)) h = absurd h
  past_visible s (action id place (assigns target value)) h = absurd h
  past_visible s (action id place (stores target value)) h = absurd h
  past_visible s (action id place (calls function arguments)) h = absurd h
  past_visible s (action id place (decides test chosen other)) h = absurd h
  past_visible s (action id place (repeats test body)) h = absurd h
  past_visible s (action id place (counts iterator declared low high factor body combine combine_place)) h = absurd h

  -- the right side of a reducer
  reduced_whole : (joins : Option ℕ) (facts : Facts) (s : Scope) (first d : ℕ) (target : Ref) (value : Term) → joins ≡ Some i → AreSorted p facts first d s.visible → first ≤ i → resolved_term s.visible value ≡ value → term_breaches s.visible value ≡ [] → term_kind_breaches facts value ≡ []
      → placed.reducer_breaches es joins target value ≡ [] → IsWholeTerm (known_of p) d value
  reduced_whole None facts s first d target value e k l same seen kinds b = absurd cc
  reduced_whole (Some j) facts s first d target value e k l same seen kinds b =
      let own : j ≡ i = cc in
      folded_term facts s.visible first d value k l same seen kinds
      (ap (λ n. folded_breaches es n value) (sym own) ∙ second_none (when (not (is_folded_into es j target.entity)) (breach Reducer target.place ∷ [])) _ b)

  mutual
    reduces_whole : (a : Action) (facts : Facts) (s : Scope) (c : Context) (first d : ℕ) → c.joins ≡ Some i → AreSorted p facts first d s.visible → first ≤ i → resolved_action s a ≡ a → breaches s a ≡ [] → action_kind_breaches facts a ≡ [] → FoldsOnly a → action_placement_breaches es c a ≡ []
        → ReducesWhole (known_of p) d a
    reduces_whole (action id place form) facts s c first d j k l e v b f q = let same : resolved_form s form ≡ form = cc in form_whole form facts s c place first d j k l same v b f q

    form_whole : (form : ActionForm) (facts : Facts) (s : Scope) (c : Context) (place : Place) (first d : ℕ) → c.joins ≡ Some i → AreSorted p facts first d s.visible → first ≤ i → resolved_form s form ≡ form → form_breaches s form ≡ [] → action_form_kind_breaches facts form ≡ [] → FormFoldsOnly form
        → form_placement_breaches es c place form ≡ [] → FormReducesWhole (known_of p) d form
    form_whole (reduces target o value) facts s c place first d j k l e v b f q =
        let right : resolved_term s.visible value ≡ value = cc in
        let below = second_none (target_breaches (fact_of facts target) target.place) _ b in
        let side = second_none (reducer_kind_breaches (target_kind (fact_of facts target)) (found value) target.place) _ below in
        reduced_whole c.joins facts s first d target value j k l right (second_none (unknown s.visible target) _ v) (second_none (assigned_breaches (target_kind (fact_of facts target)) (found value) (place_of value)) _ side) q
    form_whole (blocks body) facts s c place first d j k l e v b f q = groups_whole body facts s c first d j k l (let g = e in cc) v b f q
    form_whole (lets name declared value) facts s c place first d j k l e v b f q = tt
    form_whole (lets_memory name shape shape_places value) facts s c place first d j k l e v b f q = tt
    form_whole (views name parent form) facts s c place first d j k l e v b f q = tt
    form_whole (assigns target value) facts s c place first d j k l e v b f q = tt
    form_whole (stores target value) facts s c place first d j k l e v b f q = tt
    form_whole (calls function arguments) facts s c place first d j k l e v b f q = tt
    form_whole (decides test chosen other) facts s c place first d j k l e v b f q = tt
    form_whole (repeats test body) facts s c place first d j k l e v b f q = tt
    form_whole (counts iterator declared low high factor body combine combine_place) facts s c place first d j k l e v b f q = tt

    groups_whole : (gs : Groups) (facts : Facts) (s : Scope) (c : Context) (first d : ℕ) → c.joins ≡ Some i → AreSorted p facts first d s.visible → first ≤ i → resolved_groups s gs ≡ gs → groups_breaches s gs ≡ [] → groups_kind_breaches facts gs ≡ [] → GroupsFoldOnly gs
        → groups_placement_breaches es c gs ≡ [] → GroupsReduceWhole (known_of p) d gs
    groups_whole no_groups facts s c first d j k l e v b f q = tt
    groups_whole (group_then part rest) facts s c first d j k l e v b f q =
        let one_same : resolved_actions s part ≡ part = cc in
        let rest_same : resolved_groups (actions_at_end s part) rest ≡ rest = cc in
        let later : AreSorted p (facts_after_actions facts part) first d (actions_at_end s part).visible =
        subst (λ (bs : List scopes.ScopeEntry). AreSorted p (facts_after_actions facts part) first d bs) (sym (part_visible s part f.0)) (all_later p facts (facts_after_actions facts part) first d s.visible (part_grows facts part) k) in (
          part_whole part facts s c first d j k l one_same (first_none (actions_breaches s part) _ v) (first_none (actions_kind_breaches facts part) _ b) f.0 (first_none (actions_placement_breaches es c part) _ q),
          groups_whole rest (facts_after_actions facts part) (actions_at_end s part) c first d j later l rest_same (second_none (actions_breaches s part) _ v) (second_none (actions_kind_breaches facts part) _ b) f.1 (second_none (actions_placement_breaches es c part) _ q),
        )

    part_whole : (part : Actions) (facts : Facts) (s : Scope) (c : Context) (first d : ℕ) → c.joins ≡ Some i → AreSorted p facts first d s.visible → first ≤ i → resolved_actions s part ≡ part → actions_breaches s part ≡ [] → actions_kind_breaches facts part ≡ [] → PartFoldsOnly part
        → actions_placement_breaches es c part ≡ [] → PartReducesWhole (known_of p) d part
    part_whole no_actions facts s c first d j k l e v b f q = tt
    part_whole (action_then a rest) facts s c first d j k l e v b f q =
        let one_same : resolved_action s a ≡ a = cc in
        let rest_same : resolved_actions (past s a (at_end s a)) rest ≡ rest = cc in
        let later : AreSorted p (facts_after facts a) first d (past s a (at_end s a)).visible =
        subst (λ (bs : List scopes.ScopeEntry). AreSorted p (facts_after facts a) first d bs) (sym (past_visible s a f.0)) (all_later p facts (facts_after facts a) first d s.visible (grows facts a) k) in (
          reduces_whole a facts s c first d j k l one_same (first_none (breaches s a) _ v) (first_none (action_kind_breaches facts a) _ b) f.0 (first_none (action_placement_breaches es c a) _ q),
          part_whole rest (facts_after facts a) (past s a (at_end s a)) c first d j later l rest_same (second_none (breaches s a) _ v) (second_none (action_kind_breaches facts a) _ b) f.1 (second_none (joined_breaches c.joins a) _ (second_none (action_placement_breaches es c a) _ q)),
        )

  pub joins_whole : (m : MaybeAction) (facts : Facts) (s : Scope) (c : Context) (first d : ℕ) → c.joins ≡ Some i → AreSorted p facts first d s.visible → first ≤ i → resolved_other s m ≡ m → other_breaches s m ≡ [] → other_kind_breaches facts m ≡ [] → JoinsFolds m
      → other_placement_breaches es c m ≡ [] → OtherReducesWhole (known_of p) d m
  joins_whole no_action facts s c first d j k l e v b f q = tt
  joins_whole (one_action a) facts s c first d j k l e v b f q = let same : resolved_action s a ≡ a = cc in reduces_whole a facts s c first d j k l same v b f q

-- The whole body.

-- what the walk keeps: names are sorted, and the first number inside the innermost loop of several copies is one so far
record Sorted (p : Program) (facts : Facts) (s : Scope) (first d : ℕ) : Type 0 where
  step : InStep s facts
  names : AreSorted p facts first d s.visible
  before : first ≤ size s

less : (a b c : ℕ) → a ≤ b → b ≤ c → a ≤ c
less a b c l m = omega (arith, l, m)

-- the first number inside a loop
inside_before : (first factor n : ℕ) → first ≤ n → first_inside first factor (Some n) ≤ n
inside_before first factor n l = by (nat_lt 1 factor)
  where
    by : (b : Bool) → (if b then n else first) ≤ n
    by true = omega arith
    by false = l

-- inside a loop
enters : (p : Program) (facts : Facts) (s : Scope) (first d factor : ℕ) (k : Kind) (name : List ℕ) → InStep s facts → AreSorted p facts first d s.visible → depth_bound (binding_in (all_bindings_of p) (size s)) ≡ depth_inside d factor
    → AreSorted p (facts ++ of_iterator k ∷ []) (first_inside first factor (Some (size s))) (depth_inside d factor) (bind s.visible name (size s))
enters p facts s first d factor k name l h q =
    bind_sorted p (facts ++ of_iterator k ∷ []) (first_inside first factor (Some (size s))) (depth_inside d factor) s.visible name (size s)
    (λ other n e. later_sorted p facts (facts ++ of_iterator k ∷ []) (first_inside first factor (Some (size s))) (depth_inside d factor) n (appended facts (of_iterator k ∷ []))
    (inner_sorted (nat_lt 1 factor) p facts first d n (size s) l (h other n e)))
    (iterator_is k (next_fact facts s (of_iterator k) l) (λ m. no_less (depth_bound (binding_in (all_bindings_of p) (size s))) (depth_inside d factor) q))
  where
    no_less : (x y : ℕ) → x ≡ y → y ≤ x
    no_less x y e = omega (arith, e)

module _ (p : Program) (ready : IsReady p) (all : AllSorted p.entities (known_of p).bindings) where
  mutual
    whole : (a : Action) (facts : Facts) (s : Scope) (c : Context) (d : ℕ) → Sorted p facts s c.first d → resolved_action s a ≡ a → breaches s a ≡ [] → action_kind_breaches facts a ≡ [] → FoldsInJoins a → SparesOuter c.first a → Deep (all_bindings_of p) d a → ((m : Memory) → Has m (locals a) → Has m (memories_of p))
        → ((y : ViewSite) → Has y (standings d a) → Has y (standings 0 p.body)) → action_placement_breaches p.entities c a ≡ [] → JoinsWhole (known_of p) d a
    whole (action id place form) facts s c d k e v b x o q w z t = let same : resolved_form s form ≡ form = cc in form_joins form facts s c place d k same v b x o q w z t

    form_joins : (f : ActionForm) (facts : Facts) (s : Scope) (c : Context) (place : Place) (d : ℕ) → Sorted p facts s c.first d → resolved_form s f ≡ f → form_breaches s f ≡ [] → action_form_kind_breaches facts f ≡ [] → FormFoldsInJoins f → FormSparesOuter c.first f → FormDeep (all_bindings_of p) d f
        → ((m : Memory) → Has m (form_locals f) → Has m (memories_of p)) → ((y : ViewSite) → Has y (form_standings d f) → Has y (standings 0 p.body)) → form_placement_breaches p.entities c place f ≡ [] → FormJoinsWhole (known_of p) d f
    form_joins (lets name declared value) facts s c place d k e v b x o q w z t = tt
    form_joins (lets_memory name shape shape_places value) facts s c place d k e v b x o q w z t = tt
    form_joins (views name parent form) facts s c place d k e v b x o q w z t = tt
    form_joins (assigns target value) facts s c place d k e v b x o q w z t = tt
    form_joins (stores target value) facts s c place d k e v b x o q w z t = tt
    form_joins (reduces target op value) facts s c place d k e v b x o q w z t = tt
    form_joins (calls function arguments) facts s c place d k e v b x o q w z t = tt
    form_joins (blocks body) facts s c place d k e v b x o q w z t = groups_join body facts s c d k (let f = e in cc) v b x o q w z t
    form_joins (decides test chosen other) facts s c place d k e v b x o q w z t =
        let inner : Scope = leave s (at_end s chosen) in
        let first_same : resolved_action s chosen ≡ chosen = cc in
        let second_same : resolved_other inner other ≡ other = cc in
        let seen = second_none (term_breaches s.visible test) _ v in
        let kinds = second_none (condition_breaches facts test) _ b in
        let below = second_none (action_placement_breaches p.entities (branched c) chosen) _ t in
        let inside : Sorted p (facts_after facts chosen) (leave s (at_end s chosen)) c.first d = record {
          step = in_step s facts chosen k.step;
          names = all_later p facts (facts_after facts chosen) c.first d s.visible (grows facts chosen) k.names;
          before = less c.first (size s) (size (at_end s chosen)) k.before (on_long _ _ (goes_on chosen s));
        } in (
          whole chosen facts s (branched c) d k first_same (first_none (breaches s chosen) _ seen) (first_none (action_kind_breaches facts chosen) _ kinds) x.0 o.0 q.0
              (λ m h. w m (has_left m (locals chosen) (other_locals other) h)) (λ y h. z y (has_left y (standings d chosen) (other_standings d other) h)) (first_none (action_placement_breaches p.entities (branched c) chosen) _ t),
          other_joins other (facts_after facts chosen) inner (branched c) d inside second_same (second_none (breaches s chosen) _ seen) (second_none (action_kind_breaches facts chosen) _ kinds) x.1 o.1 q.1
              (λ m h. w m (has_right m (locals chosen) (other_locals other) h)) (λ y h. z y (has_right y (standings d chosen) (other_standings d other) h)) (first_none (other_placement_breaches p.entities (branched c) other) _ below),
        )
    form_joins (repeats test body) facts s c place d k e v b x o q w z t =
        let body_same : resolved_action s body ≡ body = cc in
        whole body facts s (branched c) d k body_same (second_none (term_breaches s.visible test) _ v) (second_none (condition_breaches facts test) _ b) x o q w z (first_none (action_placement_breaches p.entities (branched c) body) _ t)
    form_joins (counts iterator declared low high factor body combine combine_place) facts s c place d k e v b x o q w z t =
        let j = iterator_kind declared in
        let more : Facts = facts ++ of_iterator (iterator_kind declared) ∷ [] in
        let inner : Scope = declare s iterator sort.Iterator in
        let own : Some (size s) ≡ iterator.entity = cc in
        let first_same : resolved_action inner body ≡ body = cc in
        let second_same : resolved_other (at_end inner body) combine ≡ combine = cc in
        let seen = second_none (twice s.visible iterator) _ v in
        let kinds = second_none (high_breaches j low high) _ (second_none (low_breaches j low) _ (second_none (iterator_breaches iterator j) _ b)) in
        let bound : depth_bound (binding_in (all_bindings_of p) (size s)) ≡ depth_inside d factor.value =
        ap (λ (o : Option ℕ). depth_bound (binding_in (all_bindings_of p) (entity_number o))) own ∙ (ap depth_bound q.0.bound ∙ q.0.depth_is) in
        let sorted : AreSorted p (facts ++ of_iterator (iterator_kind declared) ∷ []) (first_inside c.first factor.value iterator.entity) (depth_inside d factor.value) (declare s iterator sort.Iterator).visible =
        subst (λ (n : Option ℕ). AreSorted p (facts ++ of_iterator (iterator_kind declared) ∷ []) (first_inside c.first factor.value n) (depth_inside d factor.value) (declare s iterator sort.Iterator).visible) own
        (enters p facts s c.first d factor.value (iterator_kind declared) iterator.name k.step k.names bound) in
        let step = next_in_step s facts iterator sort.Iterator (of_iterator (iterator_kind declared)) k.step in
        let first_number : first_inside c.first factor.value iterator.entity ≤ size s = subst (λ (n : Option ℕ). first_inside c.first factor.value n ≤ size s) own (inside_before c.first factor.value (size s) k.before) in
        let longer = length-append s.entities (scopes.entity iterator sort.Iterator ∷ []) in
        let inside : Sorted p (facts ++ of_iterator (iterator_kind declared) ∷ []) (declare s iterator sort.Iterator) (first_inside c.first factor.value iterator.entity) (depth_inside d factor.value) = record {
          step = step;
          names = sorted;
          before = omega (arith, first_number, longer);
        } in
        let body_seen = first_none (breaches inner body) _ seen in
        let body_kinds = first_none (action_kind_breaches more body) _ kinds in
        let body_outer = o.0 in
        let body_memories : (m : Memory) → Has m (locals body) → Has m (memories_of p) = λ m h. w m (has_left m (locals body) (other_locals combine) h) in
        let body_views : (y : ViewSite) → Has y (standings (depth_inside d factor.value) body) → Has y (standings 0 p.body) =
        λ y h. z y (has_left y (standings (depth_inside d factor.value) body) (other_standings (depth_inside d factor.value) combine) h) in
        let one = told p ready body (facts ++ of_iterator (iterator_kind declared) ∷ []) (declare s iterator sort.Iterator) nothing_around (first_inside c.first factor.value iterator.entity) (depth_inside d factor.value) step sorted first_same body_seen body_kinds x.0 body_outer q.1.0 body_memories body_views in
        let below = second_none (action_placement_breaches p.entities (in_body c factor.value iterator.entity) body) _ t in
        let number_is : scopes.entity_number iterator.entity ≡ size s = ap scopes.entity_number (sym own) in (
          whole body more inner (in_body c factor.value iterator.entity) (depth_inside d factor.value) inside first_same body_seen body_kinds x.0 body_outer q.1.0 body_memories body_views
              (first_none (action_placement_breaches p.entities (in_body c factor.value iterator.entity) body) _ t),
          joins_whole p all (size s) combine (facts_after more body) (at_end inner body) (in_combine c iterator.entity) (first_inside c.first factor.value iterator.entity) (depth_inside d factor.value) (ap Some number_is) one.names first_number second_same
              (second_none (breaches inner body) _ seen) (second_none (action_kind_breaches more body) _ kinds) x.1 (first_none (other_placement_breaches p.entities (in_combine c iterator.entity) combine) _ below),
        )

    other_joins : (m : MaybeAction) (facts : Facts) (s : Scope) (c : Context) (d : ℕ) → Sorted p facts s c.first d → resolved_other s m ≡ m → other_breaches s m ≡ [] → other_kind_breaches facts m ≡ [] → OtherFoldsInJoins m → OtherSparesOuter c.first m → OtherDeep (all_bindings_of p) d m
        → ((y : Memory) → Has y (other_locals m) → Has y (memories_of p)) → ((y : ViewSite) → Has y (other_standings d m) → Has y (standings 0 p.body)) → other_placement_breaches p.entities c m ≡ [] → OtherJoinsWhole (known_of p) d m
    other_joins no_action facts s c d k e v b x o q w z t = tt
    other_joins (one_action a) facts s c d k e v b x o q w z t = let same : resolved_action s a ≡ a = cc in whole a facts s c d k same v b x o q w z t

    part_joins : (part : Actions) (facts : Facts) (s : Scope) (c : Context) (d : ℕ) → Sorted p facts s c.first d → resolved_actions s part ≡ part → actions_breaches s part ≡ [] → actions_kind_breaches facts part ≡ [] → PartFoldsInJoins part → PartSparesOuter c.first part → PartDeep (all_bindings_of p) d part
        → ((m : Memory) → Has m (part_locals part) → Has m (memories_of p)) → ((y : ViewSite) → Has y (part_standings d part) → Has y (standings 0 p.body)) → actions_placement_breaches p.entities c part ≡ []
        → PartJoinsWhole (known_of p) d part × AreSorted p (facts_after_actions facts part) c.first d (actions_at_end s part).visible
    part_joins no_actions facts s c d k e v b x o q w z t = (tt, k.names)
    part_joins (action_then a rest) facts s c d k e v b x o q w z t =
        let first_same : resolved_action s a ≡ a = cc in
        let second_same : resolved_actions (past s a (at_end s a)) rest ≡ rest = cc in
        let memories : (m : Memory) → Has m (locals a) → Has m (memories_of p) = λ m h. w m (has_left m (locals a) (part_locals rest) h) in
        let views_here : (y : ViewSite) → Has y (standings d a) → Has y (standings 0 p.body) = λ y h. z y (has_left y (standings d a) (part_standings d rest) h) in
        let one = told p ready a facts s nothing_around c.first d k.step k.names first_same (first_none (breaches s a) _ v) (first_none (action_kind_breaches facts a) _ b) x.0 o.0 q.0 memories views_here in
        let same_size = ap length (past_on s (at_end s a) a) in
        let longer = on_long _ _ (goes_on a s) in
        let bound = k.before in
        let after : Sorted p (facts_after facts a) (past s a (at_end s a)) c.first d = record {
          step = past_in_step s (at_end s a) (facts_after facts a) a (in_step s facts a k.step);
          names = past_sorted p (facts_after facts a) c.first d s a (all_later p facts (facts_after facts a) c.first d s.visible (grows facts a) k.names) one.names;
          before = omega (arith, bound, same_size, longer);
        } in
        let two = part_joins rest (facts_after facts a) (past s a (at_end s a)) c d after second_same (second_none (breaches s a) _ v) (second_none (action_kind_breaches facts a) _ b) x.1 o.1 q.1
        (λ m h. w m (has_right m (locals a) (part_locals rest) h)) (λ y h. z y (has_right y (standings d a) (part_standings d rest) h)) (second_none (joined_breaches c.joins a) _ (second_none (action_placement_breaches p.entities c a) _ t)) in (
          (
            whole a facts s c d k first_same (first_none (breaches s a) _ v) (first_none (action_kind_breaches facts a) _ b) x.0 o.0 q.0 memories views_here (first_none (action_placement_breaches p.entities c a) _ t),
            two.0,
          ),
          two.1,
        )

    groups_join : (gs : Groups) (facts : Facts) (s : Scope) (c : Context) (d : ℕ) → Sorted p facts s c.first d → resolved_groups s gs ≡ gs → groups_breaches s gs ≡ [] → groups_kind_breaches facts gs ≡ [] → GroupsFoldInJoins gs → GroupsSpareOuter c.first gs → GroupsDeep (all_bindings_of p) d gs
        → ((m : Memory) → Has m (groups_locals gs) → Has m (memories_of p)) → ((y : ViewSite) → Has y (groups_standings d gs) → Has y (standings 0 p.body)) → groups_placement_breaches p.entities c gs ≡ [] → GroupsJoinWhole (known_of p) d gs
    groups_join no_groups facts s c d k e v b x o q w z t = tt
    groups_join (group_then part rest) facts s c d k e v b x o q w z t =
        let first_same : resolved_actions s part ≡ part = cc in
        let second_same : resolved_groups (actions_at_end s part) rest ≡ rest = cc in
        let memories : (m : Memory) → Has m (part_locals part) → Has m (memories_of p) = λ m h. w m (has_left m (part_locals part) (groups_locals rest) h) in
        let one = part_joins part facts s c d k first_same (first_none (actions_breaches s part) _ v) (first_none (actions_kind_breaches facts part) _ b) x.0 o.0 q.0 memories (λ y h. z y (has_left y (part_standings d part) (groups_standings d rest) h)) (first_none (actions_placement_breaches p.entities c part) _ t) in
        let after : Sorted p (facts_after_actions facts part) (actions_at_end s part) c.first d = record {
          step = part_in_step s facts part k.step;
          names = one.1;
          before = less c.first (size s) (size (actions_at_end s part)) k.before (on_long _ _ (part_on part s));
        } in (
          one.0,
          groups_join rest (facts_after_actions facts part) (actions_at_end s part) c d after second_same (second_none (actions_breaches s part) _ v) (second_none (actions_kind_breaches facts part) _ b) x.1 o.1 q.1
              (λ m h. w m (has_right m (part_locals part) (groups_locals rest) h)) (λ y h. z y (has_right y (part_standings d part) (groups_standings d rest) h)) (second_none (actions_placement_breaches p.entities c part) _ t),
        )

-- Where the body begins, all that is known of names is that they are memories or functions; no loop is round it.
begins_sorted : (q : Program) (facts : Facts) (n : ℕ) (f : Fact) → slice_get facts n ≡ Some f → IsGood (known_of q) (placing_of q) [] n f → IsSorted q facts 0 0 n
begins_sorted q facts n (of_variable k) at g = variable_is k at (λ l. omega arith)
begins_sorted q facts n (of_iterator k) at g = iterator_is k at (λ l. omega arith)
begins_sorted q facts n (of_memory k dims) at (inl g) = memory_is k dims at (g.memory, g.is)
begins_sorted q facts n (of_memory k dims) at (inr v) = view_is k dims at (v.way, v.is)
begins_sorted q facts n (of_function ks) at g = function_is ks at

body_sorted : (q : Program) → IsReady q → AreSorted q (body_facts q) 0 0 (body_scope q).visible
body_sorted q ready name n e = let k = body_known q (placing_of q) (enough q ready) name n e in begins_sorted q (body_facts q) n k.fact k.is k.good

-- of a ready program
pub ready_whole : (p : Program) → IsReady p → JoinsWhole (known_of p) 0 p.body
ready_whole p ready =
    let typed : IsTypedProgram p = record { names = ready.names; entities = ready.entities; kinds = ready.kinds; suits = ready.suits; widths = ready.of_text.widths } in
    whole p ready (ready_sorted p ready) p.body (body_facts p) (body_scope p) nothing_round 0 (record { step = body_in_step p; names = body_sorted p ready; before = omega arith }) (resolved_body p typed)
    (second_none (functions_breaches (length p.decls) (first_scope p) p.functions) _ (second_none (items_breaches [] (items_of p)) _ ready.names))
    (second_none (functions_kind_breaches (first_facts p) p.functions) _ ready.suits)
    (joins_kept p (second_none (unbuilt_functions p.functions) _ ready.built) ready.placements) (outer_spared p ready.placements)
    (deep (all_bindings_of p) p.body (body_scope p) 0 [] (view_bindings p) (resolved_body p typed) refl tt)
    (λ m h. has_right m (map outside_memory p.decls) (locals p.body) h) (λ y h. h)
    (second_none (decls_placement_breaches p.decls) _ ready.placements)

-- Each variable of a ready program is of a kind that there is; what is declared is one, or the iterator of a loop.
use Rattle.std.proofs.Common.{◌≡◌, ◌⊎◌, inl, inr, ℕ, zero, suc, ◌+◌, ◌<◌, ◌==◌, Bool, true, false, if◌then◌else◌, List, [], ◌∷◌, ◌++◌, length, map, Option, Some, None, refl, ap, sym, ◌∙◌, subst, arith}
use Rattle.std.specs.Prelude.{slice_get}
use Rattle.std.specs.List.{AllByRecursion}
use Rattle.std.proofs.lemmas.Bool.Decides.{nat_tests}
use Rattle.dh_value.specs.declared.kinds.Kind.{Kind}
use Rattle.dh_value.specs.declared.kinds.Kind.TheVariants as kind
use Rattle.dh_value.specs.Words.{IsInteger, IsKind}
use Rattle.dh_tree.specs.declared.trees.counters.Counter.{Counter}
use Rattle.dh_tree.specs.Counters.{counter_in, counters, counters_of, form_counters, groups_counters, other_counters, part_counters}
use Rattle.dh_tree.specs.Memories.{same_entity}
use Rattle.dh_tree.specs.PlainTrees.{Action, action, ActionForm, lets, lets_memory, views, assigns, stores, reduces, calls, blocks, decides, repeats, counts, MaybeAction, no_action, one_action, Actions, no_actions, action_then, Groups, no_groups, group_then, Program}
use Rattle.dh_tree.specs.Ready.{IsReady}
use Rattle.dh_tree.specs.Seen.{program_seen}
use Rattle.dh_meaning.specs.Bindings.{binding_in, kind_bound}
use Rattle.dh_meaning.specs.Core.{Turning}
use Rattle.dh_meaning.specs.CoreOf.{Known, entity_number, known_of, turning_of}
use Rattle.dh_meaning.specs.Phases.{turn_count}
use Rattle.dh_code.specs.declared.places.VariableSlots.{VariableSlots}
use Rattle.dh_meaning.specs.Ways.{ViewSite, all_entities_of, ways_of}
use Rattle.dh_ways.specs.Seen.{led_seen}
use Rattle.dh_code.specs.Declarations.{Declaration, all_declarations_of, all_held, declaration_in, declarations, factored, factors_inside, declared_factors, form_declarations, hidden_declarations, groups_declarations, kind_declared, other_declarations, part_declarations, placing_of}
use Rattle.dh_code.specs.Ranks.{copies_in}
use Rattle.dh_code.specs.Slots.{Placing, held_at}
use Rattle.dh_code.proofs.HiddenPlaced.{standings_so}
use Rattle.dh_sound.proofs.SortsOfPrograms.{assigns_inside}
use Rattle.dh_expressions.specs.declared.scenes.Scene.{Scene}
use Rattle.dh_expressions.specs.Evaluated.{counter_of}
use Rattle.dh_typed_blocks.proofs.Fitting.{Fits, FoldFits, FormFits, GroupsFit, OtherFits, PartFits}
use Rattle.dh_typed_blocks.proofs.IteratorsSorted.{ready_plain}
use Rattle.dh_typed_blocks.proofs.MemoriesFew.{ready_few}
use Rattle.dh_typed_blocks.proofs.OffsetsWhole.{AllWhole, factored_whole, whole_standings}
use Rattle.dh_typed_blocks.proofs.PhasesHolding.{FormOnlyFolds, GroupsOnlyFold, OnlyFolds, OtherOnlyFolds, PartOnlyFolds}
use Rattle.dh_typed_blocks.proofs.ProgramsFit.{ready_fits}
use Rattle.dh_gathering.specs.MadeBlocks.{IsAmong}
use Rattle.dh_phased.proofs.LoopsCounted.{among_self}
use Rattle.dh_phased.proofs.CopiesSome.{both}
use Rattle.dh_told.specs.ScenesKnown.{AreHeldInOrder}
use Rattle.dh_told.proofs.EntitiesKnown.{scenes_tell}

module _ (known : Known) (p : Placing) (all : List Counter) where
  -- it is the iterator of one of these loops
  record HasLoop (d : Declaration) : Type 0 where
    counter : Counter
    among : IsAmong all counter
    entity : counter.entity ≡ d.entity

  abbrev IsSizedOrLoop : Declaration → Type 0
  IsSizedOrLoop d = IsKind (kind_bound (binding_in known.bindings (entity_number d.entity))) ⊎ HasLoop d

  abbrev AllSized : List Declaration → Type 0
  AllSized ds = AllByRecursion IsSizedOrLoop ds

  abbrev AllAmong : List Counter → Type 0
  AllAmong cs = AllByRecursion (IsAmong all) cs

  among_split : (xs ys : List Counter) → AllAmong (xs ++ ys) → AllAmong xs × AllAmong ys
  among_split [] ys h = (tt, h)
  among_split (x ∷ xs) ys h = let r = among_split xs ys h.1 in ((h.0, r.0), r.1)

  -- reducers declare nothing
  mutual
    folds_sized : (a : Action) (loops : List Turning) (factors : List ℕ) → OnlyFolds (FoldFits known p) loops a → AllSized (declarations factors a)
    folds_sized (action id place form) loops factors h = form_folds form loops factors h

    form_folds : (f : ActionForm) (loops : List Turning) (factors : List ℕ) → FormOnlyFolds (FoldFits known p) loops f → AllSized (form_declarations factors f)
    form_folds (lets name declared value) loops factors h = absurd h
    form_folds (lets_memory name shape shape_places value) loops factors h = tt
    form_folds (views name parent form) loops factors h = tt
    form_folds (assigns target value) loops factors h = tt
    form_folds (stores target value) loops factors h = tt
    form_folds (reduces target o value) loops factors h = tt
    form_folds (calls function arguments) loops factors h = tt
    form_folds (blocks body) loops factors h = groups_fold body loops factors h
    form_folds (decides test chosen other) loops factors h = absurd h
    form_folds (repeats test body) loops factors h = absurd h
    form_folds (counts iterator declared low high factor body combine combine_place) loops factors h = absurd h

    part_folds : (part : Actions) (loops : List Turning) (factors : List ℕ) → PartOnlyFolds (FoldFits known p) loops part → AllSized (part_declarations factors part)
    part_folds no_actions loops factors h = tt
    part_folds (action_then a rest) loops factors h = both IsSizedOrLoop (declarations factors a) (part_declarations factors rest) (folds_sized a loops factors h.0) (part_folds rest loops factors h.1)

    groups_fold : (gs : Groups) (loops : List Turning) (factors : List ℕ) → GroupsOnlyFold (FoldFits known p) loops gs → AllSized (groups_declarations factors gs)
    groups_fold no_groups loops factors h = tt
    groups_fold (group_then part rest) loops factors h = both IsSizedOrLoop (part_declarations factors part) (groups_declarations factors rest) (part_folds part loops factors h.0) (groups_fold rest loops factors h.1)

  other_folds : (m : MaybeAction) (loops : List Turning) (factors : List ℕ) → OtherOnlyFolds (FoldFits known p) loops m → AllSized (other_declarations factors m)
  other_folds no_action loops factors h = tt
  other_folds (one_action a) loops factors h = folds_sized a loops factors h

  mutual
    action_sized : (a : Action) (loops : List Turning) (factors : List ℕ) → Fits known p loops a → AllAmong (counters a) → AllSized (declarations factors a)
    action_sized (action id place form) loops factors h among = form_sized form loops factors h among

    form_sized : (f : ActionForm) (loops : List Turning) (factors : List ℕ) → FormFits known p loops f → AllAmong (form_counters f) → AllSized (form_declarations factors f)
    form_sized (lets name declared None) loops factors h among = (inl h.0.sized, tt)
    form_sized (lets name declared (Some t)) loops factors h among = (inl h.1.0.sized, tt)
    form_sized (lets_memory name shape shape_places value) loops factors h among = tt
    form_sized (views name parent form) loops factors h among = tt
    form_sized (assigns target value) loops factors h among = tt
    form_sized (stores target value) loops factors h among = tt
    form_sized (reduces target o value) loops factors h among = tt
    form_sized (calls function arguments) loops factors h among = tt
    form_sized (blocks body) loops factors h among = groups_sized body loops factors h among
    form_sized (decides test chosen other) loops factors h among =
        let parts = among_split (counters chosen) (other_counters other) among in
        both IsSizedOrLoop (declarations factors chosen) (other_declarations factors other) (action_sized chosen loops factors h.1.0 parts.0) (other_sized other loops factors h.1.1 parts.1)
    form_sized (repeats test body) loops factors h among = action_sized body loops factors h.1 among
    form_sized (counts iterator declared low high factor body combine combine_place) loops factors h among =
        let parts = among_split (counters body) (other_counters combine) among.1 in
        let inner : List Turning = loops ++ turning_of known (turn_count low.value high.value factor.value) (counts iterator declared low high factor body combine combine_place) ∷ [] in (
          inr (record { counter = record { entity = iterator.entity; low = low.value; high = high.value; factor = factor.value }; among = among.0; entity = refl }),
          both IsSizedOrLoop (declarations (factors_inside factors factor.value) body) (other_declarations (factors_inside factors factor.value) combine)
              (action_sized body (loops ++ turning_of known (turn_count low.value high.value factor.value) (counts iterator declared low high factor body combine combine_place) ∷ []) (factors_inside factors factor.value) h.0 parts.0)
              (other_folds combine (loops ++ turning_of known (turn_count low.value high.value factor.value) (counts iterator declared low high factor body combine combine_place) ∷ []) (factors_inside factors factor.value) h.1),
        )

    other_sized : (m : MaybeAction) (loops : List Turning) (factors : List ℕ) → OtherFits known p loops m → AllAmong (other_counters m) → AllSized (other_declarations factors m)
    other_sized no_action loops factors h among = tt
    other_sized (one_action a) loops factors h among = action_sized a loops factors h among

    part_sized : (part : Actions) (loops : List Turning) (factors : List ℕ) → PartFits known p loops part → AllAmong (part_counters part) → AllSized (part_declarations factors part)
    part_sized no_actions loops factors h among = tt
    part_sized (action_then a rest) loops factors h among =
        let parts = among_split (counters a) (part_counters rest) among in
        both IsSizedOrLoop (declarations factors a) (part_declarations factors rest) (action_sized a loops factors h.0 parts.0) (part_sized rest loops factors h.1 parts.1)

    groups_sized : (gs : Groups) (loops : List Turning) (factors : List ℕ) → GroupsFit known p loops gs → AllAmong (groups_counters gs) → AllSized (groups_declarations factors gs)
    groups_sized no_groups loops factors h among = tt
    groups_sized (group_then part rest) loops factors h among =
        let parts = among_split (part_counters part) (groups_counters rest) among in
        both IsSizedOrLoop (part_declarations factors part) (groups_declarations factors rest) (part_sized part loops factors h.0 parts.0) (groups_sized rest loops factors h.1 parts.1)

  -- A variable without a loop.

  same_is : (o : Option ℕ) (e : ℕ) → same_entity o (Some e) ≡ true → o ≡ Some e
  same_is None e h = absurd cc
  same_is (Some m) e h = ap Some (equal h)
    where
      equal : (m == e) ≡ true → m ≡ e
      equal g = grind (arith, nat_tests, g)

  is_same : (o : Option ℕ) (e : ℕ) → o ≡ Some e → same_entity o (Some e) ≡ true
  is_same o e h = ap (λ (x : Option ℕ). same_entity x (Some e)) h ∙ equal e
    where
      equal : (n : ℕ) → (n == n) ≡ true
      equal n = grind (arith, nat_tests)

  none_among : (cs : List Counter) (i e : ℕ) (c : Counter) → counter_in cs (Some e) ≡ None → slice_get cs i ≡ Some c → c.entity ≡ Some e → ⊥
  none_among [] i e c none at is = absurd cc
  none_among (x ∷ cs) zero e c none at is = differ (sym (ap (λ (b : Bool). if b then Some x else counter_in cs (Some e)) (is_same x.entity e (ap (λ (y : Counter). y.entity) (ap counter_or at) ∙ is))) ∙ none)
    where
      counter_or : Option Counter → Counter
      counter_or None = x
      counter_or (Some y) = y

      differ : Some x ≡ None → ⊥
      differ g = cc
  none_among (x ∷ cs) (suc i) e c none at is = none_among cs i e c (rest (same_entity x.entity (Some e)) none) at is
    where
      rest : (b : Bool) → (if b then Some x else counter_in cs (Some e)) ≡ None → counter_in cs (Some e) ≡ None
      rest true g = absurd cc
      rest false g = g

  sized_in : (ds : List Declaration) (e : ℕ) (d : Declaration) → AllSized ds → counter_in all (Some e) ≡ None → declaration_in ds e ≡ Some d → IsKind (kind_bound (binding_in known.bindings e))
  sized_in [] e d h none at = absurd cc
  sized_in (x ∷ ds) e d h none at = by (same_entity x.entity (Some e)) refl at (λ g. sized_in ds e d h.1 none g)
    where
      own : x.entity ≡ Some e → IsSizedOrLoop x → IsKind (kind_bound (binding_in known.bindings e))
      own is (inl k) = subst (λ (o : Option ℕ). IsKind (kind_bound (binding_in known.bindings (entity_number o)))) is k
      own is (inr l) = absurd (none_among all l.among.0 e l.counter none l.among.1 (l.entity ∙ is))

      by : (b : Bool) → same_entity x.entity (Some e) ≡ b → (if b then Some x else declaration_in ds e) ≡ Some d → (declaration_in ds e ≡ Some d → IsKind (kind_bound (binding_in known.bindings e))) → IsKind (kind_bound (binding_in known.bindings e))
      by true same g rest = own (same_is x.entity e same) h.0
      by false same g rest = rest g

-- what is declared first, or else behind
among_two : (ds es : List Declaration) (e : ℕ) (d : Declaration) → declaration_in (ds ++ es) e ≡ Some d → (declaration_in ds e ≡ Some d) ⊎ (declaration_in es e ≡ Some d)
among_two [] es e d at = inr at
among_two (x ∷ ds) es e d at = by (same_entity x.entity (Some e)) at (among_two ds es e d)
  where
    by : (b : Bool) → (if b then Some x else declaration_in (ds ++ es) e) ≡ Some d → (declaration_in (ds ++ es) e ≡ Some d → (declaration_in ds e ≡ Some d) ⊎ (declaration_in es e ≡ Some d))
        → ((if b then Some x else declaration_in ds e) ≡ Some d) ⊎ (declaration_in es e ≡ Some d)
    by true g rest = inl g
    by false g rest = rest g

integer_kind : (k : Kind) → IsInteger k → IsKind k
integer_kind kind.Bool h = elim h [ ]
integer_kind (kind.Unsigned w) h = h
integer_kind (kind.Signed w) h = h

-- the variables that keep offsets have kinds of their own
whole_in : (ds : List Declaration) (e : ℕ) (d : Declaration) → AllByRecursion (λ (x : Declaration). IsInteger x.kind_is) ds → declaration_in ds e ≡ Some d → IsKind d.kind_is
whole_in [] e d h at = absurd cc
whole_in (x ∷ ds) e d h at = by (same_entity x.entity (Some e)) at (whole_in ds e d h.1)
  where
    one : (y : Declaration) → Some x ≡ Some y → x ≡ y
    one y g = cc

    by : (b : Bool) → (if b then Some x else declaration_in ds e) ≡ Some d → (declaration_in ds e ≡ Some d → IsKind d.kind_is) → IsKind d.kind_is
    by true g rest = subst (λ (y : Declaration). IsKind y.kind_is) (one d g) (integer_kind x.kind_is h.0)
    by false g rest = rest g

-- what is held of an entity
held_kind : (ds : List Declaration) (count from n e : ℕ) → e < n → (held_at (all_held ds count from n) e).kind ≡ kind_declared (declaration_in ds (from + e))
held_kind ds count from zero e l = absurd (never l)
  where
    never : e < 0 → ⊥
    never g = omega (arith, g)
held_kind ds count from (suc n) zero l = ap (λ (m : ℕ). kind_declared (declaration_in ds m)) (same from)
  where
    same : (m : ℕ) → m ≡ m + 0
    same m = omega arith
held_kind ds count from (suc n) (suc e) l =
    held_kind ds (count + copies_in (declared_factors (declaration_in ds from))) (suc from) n e (less l) ∙ ap (λ (m : ℕ). kind_declared (declaration_in ds m)) (next from e)
  where
    less : suc e < suc n → e < n
    less g = omega (arith, g)

    next : (m k : ℕ) → suc m + k ≡ m + suc k
    next m k = omega arith

bool_sized : IsKind kind.Bool
bool_sized = (omega arith, omega arith)

pub variables_are_sized : (scene : Scene) (count : ℕ) → IsReady (program_seen scene.program.now) → AreHeldInOrder scene count → map led_seen scene.ways.now ≡ ways_of (program_seen scene.program.now)
    → (e : ℕ) → e < all_entities_of (program_seen scene.program.now) → counter_of scene e ≡ None → IsKind (held_at scene.held.now e).kind
variables_are_sized scene count ready order ways e within none = by (declaration_in (all_declarations_of q) e) refl
  where
    q : Program
    q = program_seen scene.program.now

    fits : Fits (known_of q) (placing_of q) [] q.body
    fits = ready_fits q ready (ready_few q ready) (assigns_inside q ready (record { names = ready.names; entities = ready.entities; kinds = ready.kinds; suits = ready.suits; widths = ready.of_text.widths })) (ready_plain q ready)

    all : AllByRecursion (IsSizedOrLoop (known_of q) (placing_of q) (counters_of q)) (declarations [] q.body)
    all = action_sized (known_of q) (placing_of q) (counters_of q) q.body [] [] fits (among_self (counters_of q))

    whole : AllByRecursion (λ (d : Declaration). IsInteger d.kind_is) (hidden_declarations q)
    whole =
        factored_whole (length q.entities) (factored [] q.body)
        (subst (λ (ss : List ViewSite). AllWhole ss) (sym (standings_so q)) (whole_standings (known_of q) (placing_of q) q.body 0 [] fits))

    front : (m : ℕ) → 0 + m ≡ m
    front m = omega arith

    held_is : (o : Option Declaration) → declaration_in (all_declarations_of q) e ≡ o → (held_at scene.held.now e).kind ≡ kind_declared o
    held_is o at =
        ap (λ (l : List VariableSlots). (held_at l e).kind) order.held
        ∙ (held_kind (all_declarations_of q) 0 0 (all_entities_of q) e within ∙ ap kind_declared (ap (λ (m : ℕ). declaration_in (all_declarations_of q) m) (front e) ∙ at))

    by : (o : Option Declaration) → declaration_in (all_declarations_of q) e ≡ o → IsKind (held_at scene.held.now e).kind
    by (Some d) at = which (among_two (declarations [] q.body) (hidden_declarations q) e d at)
      where
        which : (declaration_in (declarations [] q.body) e ≡ Some d) ⊎ (declaration_in (hidden_declarations q) e ≡ Some d) → IsKind (held_at scene.held.now e).kind
        which (inl g) = subst IsKind (sym ((scenes_tell scene count ready order ways).kind e)) (sized_in (known_of q) (placing_of q) (counters_of q) (declarations [] q.body) e d all none g)
        which (inr g) = subst IsKind (sym (held_is (Some d) at)) (whole_in (hidden_declarations q) e d whole g)
    by None at = subst IsKind (sym (held_is None at)) bool_sized

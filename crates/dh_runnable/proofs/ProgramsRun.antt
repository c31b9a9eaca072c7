-- A program of which the passes tell enough can be run. Where its body begins, the names that are visible are those of
-- memories from outside, each found by the number of its declaration, and of functions, of which there are none; no loop
-- is round the body, and one copy is. From there on the walks over commands tell it.
use Rattle.std.proofs.Common.{◌≡◌, ℕ, zero, suc, ◌+◌, ◌*◌, ◌≤◌, inl, Bool, true, false, if◌then◌else◌, List, [], ◌∷◌, ◌++◌, length, map, Some, None, refl, ap, sym, ◌∙◌, subst, arith}
use Rattle.std.proofs.lemmas.List.{append-nil}
use Rattle.std.specs.Prelude.{slice_get}
use Rattle.std.specs.List.{AllByRecursion}
use Rattle.dh_base.specs.declared.limits.Limit.TheVariants as limit
use Rattle.dh_value.specs.Words.{IsKind}
use Rattle.dh_tree.specs.declared.trees.programs.Sort.TheVariants as sort
use Rattle.dh_tree.specs.Breaches.{breaches, items_breaches, functions_breaches}
use Rattle.dh_tree.specs.Counters.{counters_of}
use Rattle.dh_tree.specs.Elements.{banks_of}
use Rattle.dh_tree.specs.Excesses.{copies_excess, first_above}
use Rattle.dh_tree.specs.Forms.{unbuilt_functions, unbuilt_action}
use Rattle.dh_tree.specs.Indices.{shape_breaches, action_index_breaches, decls_shape_breaches, shape_keeps}
use Rattle.dh_tree.specs.KindBreaches.{action_kind_breaches, functions_kind_breaches}
use Rattle.dh_tree.specs.Kinds.{of_memory, Facts, declared_facts, function_fact, first_facts, body_facts, facts_after_functions, typed_functions, typed_action, typed_action_form}
use Rattle.dh_tree.specs.LeastBreach.{is_before}
use Rattle.dh_tree.specs.Memories.{Memory, outside_memory, locals, memories_of}
use Rattle.dh_tree.specs.NameCounts.{declared_in, declared_in_functions}
use Rattle.dh_tree.specs.PlainTrees.{Action, action, Declared, Defined, Program}
use Rattle.dh_tree.specs.Resolved.{resolved_decls, resolved_action, resolved_form}
use Rattle.dh_tree.specs.Scopes.{ScopeEntry, bind, Scope, entity, after_functions, Item, memory_items, function_items, merged, items_of, after_items, first_scope, body_scope, last_scope}
use Rattle.dh_tree.specs.TextNumbers.{HasTextNumbers}
use Rattle.dh_tree.specs.ViewBreaches.{action_view_breaches, kept_views}
use Rattle.dh_tree.specs.ViewFactors.{factor_breaches_of}
use Rattle.dh_tree.specs.Views.{viewed_in}
use Rattle.dh_tree.specs.Widths.{ActionSized}
use Rattle.dh_tree.proofs.ProgramTables.{program_table}
use Rattle.dh_tree.proofs.ShapeRules.{shape_without}
use Rattle.dh_runnable.proofs.ElementsFound.{Sees, sees_later}
use Rattle.dh_tree.proofs.EmptyLists.{first_none, second_none, not_none}
use Rattle.dh_meaning.specs.Bindings.{bindings_of}
use Rattle.dh_meaning.specs.CoreOf.{Known, known_of}
use Rattle.dh_meaning.specs.Ways.{all_entities_of, view_bindings}
use Rattle.dh_ways.specs.CutStands.{HasFewWays}
use Rattle.dh_ways.specs.HiddenVariables.{hidden_variables}
use Rattle.dh_ways.proofs.EntitiesCounted.{action_counted}
use Rattle.dh_ways.proofs.HiddenApart.{are_counted}
use Rattle.dh_meaning.specs.Sites.{nothing_around}
use Rattle.dh_tree.specs.Ready.{IsReady, most_tokens}
use Rattle.dh_sound.proofs.FactsGrow.{appended, InStep}
use Rattle.dh_sound.proofs.KindsOfPrograms.{functions_grow, body_in_step, map_long, mapped_at, behind_at, next_number}
use Rattle.dh_runnable.specs.ActionsRun.{ActionRuns}
use Rattle.dh_code.specs.Declarations.{declarations, factored, hidden_declarations, placing_of}
use Rattle.dh_code.specs.Placed.{most_entities}
use Rattle.dh_code.specs.Ranks.{copies_in}
use Rattle.dh_base.specs.Limits.{most_copies}
use Rattle.dh_runnable.specs.ReadyRuns.{TellsEnough}
use Rattle.dh_sem.specs.Runnable.{IsRunnable}
use Rattle.dh_sem.proofs.FirstMade.{few_ways}
use Rattle.dh_code.specs.Slots.{Placing}
use Rattle.dh_runnable.proofs.CommandsRun.{form_leads}
use Rattle.dh_runnable.proofs.DeclarationsFound.{ArePlaced, placed}
use Rattle.dh_runnable.proofs.MemoriesFound.{Declares, finds, decl_found, decls_seen}
use Rattle.dh_runnable.proofs.NamesKnown.{IsKnownName, Knows, still_known, bind_known}
use Rattle.dh_runnable.proofs.PhasesRun.{phases_of_command_can}
use Rattle.dh_runnable.proofs.TermsSuited.{indexed, judged}
use Rattle.dh_runnable.proofs.TurnsCounted.{first_within, second_within}
use Rattle.dh_runnable.proofs.VariablesFew.{action_few}
use Rattle.dh_runnable.proofs.VariablesPlaced.{AreSame, all_same}
use Rattle.dh_runnable.proofs.ViewsFew.{all_entities_few, hidden_few, rounds_few}
use Rattle.dh_runnable.proofs.ViewsFound.{IsViewed, views_viewed}
use Rattle.dh_runnable.proofs.ViewsKnown.{AreGoodWays, Rules}
use Rattle.dh_runnable.proofs.ViewsLead.{good_ways}
use Rattle.dh_runnable.proofs.ViewsNamed.{ways_named}

-- Names where the body begins.

module _ (known : Known) (p : Placing) (facts : Facts) where
  -- something is known of what an item of a program declares
  abbrev ItemsKnown : List Item → Type 0
  ItemsKnown items = AllByRecursion (λ (i : Item). IsKnownName known p [] facts i.entity) items

  merged_known : (ms fs : List Item) → ItemsKnown ms → ItemsKnown fs → ItemsKnown (merged ms fs)
  merged_known [] fs h i = i
  merged_known (m ∷ ms) [] h i = h
  merged_known (m ∷ ms) (f ∷ fs) h i = by (is_before f.name.place m.name.place) (merged_known (m ∷ ms) fs h i.1) (merged_known ms (f ∷ fs) h.1 i)
    where
      by : (b : Bool) → ItemsKnown (merged (m ∷ ms) fs) → ItemsKnown (merged ms (f ∷ fs)) → ItemsKnown (if b then f ∷ merged (m ∷ ms) fs else m ∷ merged ms (f ∷ fs))
      by true g k = (i.0, g)
      by false g k = (h.0, k)

  after_known : (bs : List ScopeEntry) (items : List Item) → Knows known p [] facts bs → ItemsKnown items → Knows known p [] facts (after_items bs items)
  after_known bs [] k h = k
  after_known bs (i ∷ is) k h = after_known (bind bs i.name.name i.entity) is (bind_known known p [] facts bs i.name.name i.entity k h.0) h.1

  front : (n : ℕ) → n + 0 ≡ n
  front n = omega arith

  memories_known : (n : ℕ) (ds : List Declared) → ((i : ℕ) (d : Declared) → slice_get ds i ≡ Some d → IsKnownName known p [] facts (n + i)) → ItemsKnown (memory_items n ds)
  memories_known n [] h = tt
  memories_known n (d ∷ ds) h = (
    subst (λ (k : ℕ). IsKnownName known p [] facts k) (front n) (h 0 d refl),
    memories_known (n + 1) ds (λ i x e. subst (λ (k : ℕ). IsKnownName known p [] facts k) (sym (next_number n i)) (h (suc i) x e)),
  )

  functions_known : (n : ℕ) (fs : List Defined) → ((i : ℕ) (f : Defined) → slice_get fs i ≡ Some f → IsKnownName known p [] facts (n + i)) → ItemsKnown (function_items n fs)
  functions_known n [] h = tt
  functions_known n (f ∷ fs) h = (
    subst (λ (k : ℕ). IsKnownName known p [] facts k) (front n) (h 0 f refl),
    functions_known (n + 1) fs (λ i x e. subst (λ (k : ℕ). IsKnownName known p [] facts k) (sym (next_number n i)) (h (suc i) x e)),
  )

-- each declaration has a kind of 1 to 64 bits, and a shape that keeps the rules
sized_at : (ds : List Declared) (n : ℕ) (d : Declared) → AllByRecursion (λ (d : Declared). IsKind d.shape.kind) ds → slice_get ds n ≡ Some d → IsKind d.shape.kind
sized_at [] n d h e = absurd cc
sized_at (x ∷ ds) zero d h e = let same : x ≡ d = cc in subst (λ (y : Declared). IsKind y.shape.kind) same h.0
sized_at (x ∷ ds) (suc n) d h e = sized_at ds n d h.1 e

kept_at : (ds : List Declared) (n : ℕ) (d : Declared) → decls_shape_breaches ds ≡ [] → slice_get ds n ≡ Some d → shape_keeps d.shape ≡ true
kept_at [] n d h e = absurd cc
kept_at (x ∷ ds) zero d h e =
    let same : x ≡ d = cc in
    subst (λ (y : Declared). shape_keeps y.shape ≡ true) same (shape_without x.shape x.shape_places (first_none (shape_breaches x.shape x.shape_places) _ h))
kept_at (x ∷ ds) (suc n) d h e = kept_at ds n d (second_none (shape_breaches x.shape x.shape_places) _ h) e

none_before : (i : ℕ) → 0 + i ≡ i
none_before i = omega arith

pub body_known : (q : Program) (p : Placing) → TellsEnough q → Knows (known_of q) p [] (body_facts q) (body_scope q).visible
body_known q p h =
    still_known (known_of q) p [] (first_facts q) (body_facts q) (body_scope q).visible (functions_grow (first_facts q) q.functions)
    (after_known (known_of q) p (first_facts q) [] (items_of q) (λ name n e. absurd cc)
    (merged_known (known_of q) p (first_facts q) (memory_items 0 q.decls) (function_items (length q.decls) q.functions)
    (memories_known (known_of q) p (first_facts q) 0 q.decls outside)
    (functions_known (known_of q) p (first_facts q) (length q.decls) q.functions functions)))
  where
    long : length (declared_facts q.decls) ≡ length q.decls
    long = map_long (λ (d : Declared). of_memory (Some d.shape.kind) (length d.shape.dims)) q.decls

    numbers : resolved_decls 0 q.decls ≡ q.decls
    numbers = ap (λ (x : Program). x.decls) h.entities

    outside : (i : ℕ) (d : Declared) → slice_get q.decls i ≡ Some d → IsKnownName (known_of q) p [] (first_facts q) (0 + i)
    outside i d e = record {
      fact = of_memory (Some d.shape.kind) (length d.shape.dims);
      is = ap (slice_get (first_facts q)) (none_before i)
          ∙ appended (declared_facts q.decls) (map function_fact q.functions) i _ (mapped_at (λ (d : Declared). of_memory (Some d.shape.kind) (length d.shape.dims)) q.decls i d e);
      good = inl (record {
        memory = outside_memory d;
        is = decl_found 0 q.decls (locals q.body) i (0 + i) d numbers e refl;
        kind = refl;
        long = refl;
        sized = sized_at q.decls i d h.widths.decls e;
        keeps = kept_at q.decls i d (first_none (decls_shape_breaches q.decls) _ h.indices) e;
      });
    }

    functions : (i : ℕ) (f : Defined) → slice_get q.functions i ≡ Some f → IsKnownName (known_of q) p [] (first_facts q) (length q.decls + i)
    functions i f e = record {
      fact = function_fact f;
      is = ap (λ n. slice_get (first_facts q) (n + i)) (sym long)
          ∙ (behind_at (declared_facts q.decls) (map function_fact q.functions) i ∙ mapped_at function_fact q.functions i f e);
      good = tt;
    }

-- Memories where the body begins.

no_functions : (fs : List Defined) → unbuilt_functions fs ≡ [] → fs ≡ []
no_functions [] e = refl
no_functions (f ∷ fs) e = not_none _ _ e

body_size : (q : Program) → TellsEnough q → length (body_scope q).entities ≡ length q.decls
body_size q h =
    let none : q.functions ≡ [] = no_functions q.functions (first_none (unbuilt_functions q.functions) _ h.built) in
    ap (λ (fs : List Defined). length (after_functions (length q.decls) (record { visible = []; entities = map (λ d. entity d.name sort.Memory) q.decls ++ map (λ f. entity f.name sort.Function) fs }) fs).entities) none
    ∙ (ap length (append-nil (map (λ d. entity d.name sort.Memory) q.decls)) ∙ map_long (λ d. entity d.name sort.Memory) q.decls)

pub body_sees : (q : Program) → TellsEnough q → Sees (memories_of q) (length (body_scope q).entities) (locals q.body ++ [])
body_sees q h =
    let numbers : resolved_decls 0 q.decls ≡ q.decls = ap (λ (x : Program). x.decls) h.entities in
    let size = body_size q h in
    subst (λ (ms : List Memory). Sees (memories_of q) (length (body_scope q).entities) ms) (sym (append-nil (locals q.body)))
    (sees_later (memories_of q) (0 + length q.decls) (length (body_scope q).entities) (locals q.body) (omega (arith, size)) (decls_seen 0 q.decls (locals q.body) numbers))

-- Bodies.

pub typed_body : (q : Program) → TellsEnough q → typed_action (body_facts q) q.body ≡ q.body
typed_body q h =
    let functions : typed_functions (first_facts q) q.functions ≡ q.functions = ap (λ (x : Program). x.functions) h.kinds in
    let body : typed_action (facts_after_functions (first_facts q) (typed_functions (first_facts q) q.functions)) q.body ≡ q.body = ap (λ (x : Program). x.body) h.kinds in
    ap (λ fs. typed_action (facts_after_functions (first_facts q) fs) q.body) (sym functions) ∙ body

pub resolved_body : (q : Program) → TellsEnough q → resolved_action (body_scope q) q.body ≡ q.body
resolved_body q h = ap (λ (x : Program). x.body) h.entities

-- a body of which each walk tells its own
body_runs : (known : Known) (rules : Rules) (good : AreGoodWays known rules.views) (p : Placing) (a : Action) (facts : Facts) (s : Scope) → InStep s facts → Knows known p [] facts s.visible
    → typed_action facts a ≡ a → resolved_action s a ≡ a → breaches s a ≡ [] → action_kind_breaches facts a ≡ [] → action_index_breaches (indexed known rules) a ≡ [] → action_view_breaches (judged known rules) a ≡ [] → unbuilt_action a ≡ []
    → ActionSized a → copies_excess 1 a ≡ None → HasTextNumbers a → ArePlaced known p [] a → Declares known.memories a → AllByRecursion (λ f. IsViewed known.memories known.ways p f) (factored [] a) → ActionRuns known p [] a
body_runs known rules good p (action id place form) facts s l k typed named visible kinds indices views forms sized copies numbers places declares viewed =
    let form_typed : typed_action_form facts form ≡ form = cc in
    let form_named : resolved_form s form ≡ form = cc in
    let told = form_leads known rules good p form [] facts s place l k (record {
      typed = form_typed;
      named = form_named;
      visible = visible;
      kinds = kinds;
      indices = indices;
      views = views;
      forms = forms;
      sized = sized;
      copies = copies;
      numbers = numbers;
      placed = places;
      declares_memories = declares;
      viewed = viewed;
    }) in
    told.runs

-- what the rules on indices and views speak of in a program
abbrev pub rules_of : Program → Rules
rules_of q = record { counters = counters_of q; views = viewed_in q; kept = kept_views q }

-- its variables are those of its declarations
pub body_same : (q : Program) → AreSame (declarations [] q.body) (bindings_of q)
body_same q = all_same q.body [] 0 refl

pub body_places : (q : Program) → TellsEnough q → ArePlaced (known_of q) (placing_of q) [] q.body
body_places q h =
    placed (known_of q) (declarations [] q.body) (hidden_declarations q) (all_entities_of q) (bindings_of q) (view_bindings q) refl (body_same q) q.body (body_scope q) [] [] [] (resolved_body q h)
    (sym (append-nil (declarations [] q.body))) tt
    (at_most (length (last_scope q).entities) (length q.entities) (length (hidden_variables q)) (all_entities_of q) (ap (λ (x : Program). length x.entities) h.entities) (are_counted q))
  where
    at_most : (m n k all : ℕ) → m ≡ n → all ≡ n + k → m ≤ all
    at_most m n k all e f = omega (arith, e, f)

-- the entities are no more than the names of a text, with six offsets of each
entities_few : (q : Program) → TellsEnough q → ActionRuns (known_of q) (placing_of q) [] q.body → all_entities_of q ≤ most_entities
entities_few q h runs =
    let all = ap (λ (x : Program). length x.entities) h.entities in
    let counted = action_counted (body_scope q) q.body in
    bounded (length q.entities) (length (last_scope q).entities) (length (body_scope q).entities) (length q.decls) (length q.functions) (declared_in_functions q.functions) (declared_in q.body) (all_entities_of q) all counted (body_size q h) h.declared
    (all_entities_few (known_of q) (placing_of q) q runs)
  where
    bounded : (n last first decls functions inside body total : ℕ) → last ≡ n → last ≡ first + body → first ≡ decls → (decls + functions) + (inside + body) ≤ most_tokens → total ≤ n + 6 * body → total ≤ most_entities
    bounded n last first decls functions inside body total e f g few most = omega (arith, e, f, g, few, most)

pub body_does : (q : Program) → TellsEnough q → ActionRuns (known_of q) (placing_of q) [] q.body
body_does q h =
    let named = resolved_body q h in
    let memories = finds (memories_of q) q.body (body_scope q) [] named tt (body_sees q h) in
    body_runs (known_of q) (rules_of q) (good_ways q (first_none (factor_breaches_of q) _ h.views) h.table) (placing_of q) q.body (body_facts q) (body_scope q) (body_in_step q) (body_known q (placing_of q) h) (typed_body q h) named
    (second_none (functions_breaches (length q.decls) (first_scope q) q.functions) _ (second_none (items_breaches [] (items_of q)) _ h.names))
    (second_none (functions_kind_breaches (first_facts q) q.functions) _ h.suits)
    (second_none (decls_shape_breaches q.decls) _ h.indices)
    (second_none (factor_breaches_of q) _ h.views)
    (second_none (unbuilt_functions q.functions) _ h.built)
    h.widths.body h.copies h.numbers (body_places q h) memories.found (views_viewed q named (ap (λ (x : Program). length x.entities) h.entities))

-- a program of which the passes tell enough
pub enough_runs : (q : Program) → TellsEnough q → IsRunnable q
enough_runs q h =
    let runs = body_does q h in
    record {
      phases = phases_of_command_can (known_of q) (placing_of q) q.body [] nothing_around 0 runs;
      copies = action_few (known_of q) (placing_of q) q.body [] one_path runs;
      hidden = hidden_few (known_of q) (placing_of q) q runs;
      entities = entities_few q h runs;
      round = rounds_few (known_of q) (placing_of q) q runs;
      named = ways_named q (resolved_body q h) (ap (λ (x : Program). length x.entities) h.entities);
    }
  where
    one_path : copies_in [] ≤ most_copies
    one_path = omega arith

-- a program that is ready, within the limits
pub ready_runs : (q : Program) → IsReady q → IsRunnable q
ready_runs q r =
    let dims = second_within (first_above limit.Dimensions (λ (m : Memory). length m.shape.dims) (memories_of q)) _ r.limits in
    let banks = second_within (first_above limit.Banks (λ (m : Memory). banks_of m.shape.dims) (memories_of q)) _ dims in
    let ports = second_within (first_above limit.Ports (λ (m : Memory). m.shape.ports) (memories_of q)) _ banks in
    enough_runs q (record {
      widths = r.of_text.widths;
      numbers = r.of_text.numbers;
      declared = r.of_text.names;
      built = r.built;
      names = r.names;
      entities = r.entities;
      kinds = r.kinds;
      suits = r.suits;
      indices = r.indices;
      views = r.views;
      table = program_table q most_tokens r.of_text r.names r.built r.indices r.limits r.placements;
      copies = first_within (copies_excess 1 q.body) _ ports;
    })

-- so the numbers of its ways have room
pub ready_few : (q : Program) → IsReady q → HasFewWays q
ready_few q r = few_ways q (ready_runs q r)

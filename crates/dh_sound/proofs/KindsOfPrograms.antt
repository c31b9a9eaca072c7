-- In a typed program that breaks no rule on names or kinds the indices of every access have their kinds. Where the
-- body begins, the names that are visible are those of memories from outside and of functions, of which something good
-- is known; from there on the walk over commands tells it. All loops of the body are known by what is known at its end.
use Rattle.std.proofs.Common.{◌≡◌, ℕ, zero, suc, ◌+◌, Bool, true, false, if◌then◌else◌, List, [], ◌∷◌, ◌++◌, length, map, Some, option_map, refl, ap, sym, ◌∙◌, subst, arith, length-append, append_assoc}
use Rattle.std.specs.Prelude.{slice_get}
use Rattle.std.specs.List.{AllByRecursion}
use Rattle.std.proofs.lemmas.Option.{slice_get-map}
use Rattle.dh_value.specs.Words.{IsKind}
use Rattle.dh_tree.specs.declared.trees.counters.Counter.{Counter}
use Rattle.dh_tree.specs.declared.trees.programs.Sort.TheVariants as sort
use Rattle.dh_tree.specs.Breaches.{items_breaches, functions_breaches}
use Rattle.dh_tree.specs.Counters.{counters_of}
use Rattle.dh_tree.specs.KindBreaches.{functions_kind_breaches}
use Rattle.dh_tree.specs.Kinds.{of_memory, Facts, parameter_fact, formal_facts, declared_facts, function_fact, first_facts, body_facts, facts_after, facts_after_function, facts_after_functions, typed_functions, typed_action}
use Rattle.dh_tree.specs.LeastBreach.{is_before}
use Rattle.dh_tree.specs.PlainTrees.{Declared, Formal, Defined, Program}
use Rattle.dh_tree.specs.Resolved.{resolved_action}
use Rattle.dh_tree.specs.Scopes.{ScopeEntry, bind, Scope, entity, declare, formal_sort, after_formals, body_start, after_function, after_functions, Item, memory_items, function_items, merged, items_of, after_items, first_scope, body_scope}
use Rattle.dh_meaning.specs.Sites.{nothing_around}
use Rattle.dh_meets.specs.SourceEvents.{SourceAccess, SourceEvent, accesses, assigned, accesses_in, trace}
use Rattle.dh_sound.specs.IndexValues.{HasElementKinds, IsTypedProgram}
use Rattle.dh_sound.proofs.BanksReached.{second_none}
use Rattle.dh_sound.proofs.FactsGrow.{Extends, appended, grows, InStep, next_in_step, in_step}
use Rattle.dh_sound.proofs.IteratorsKnown.{AreKnownIterators, known_in}
use Rattle.dh_sound.proofs.KindsOfTerms.{IsKnownName, Knows, EventsHave}
use Rattle.dh_sound.proofs.KindsOfCommands.{still_known, bind_known, leads}

-- Numbers.

pub map_long : {A B : Type 0} (f : A → B) (xs : List A) → length (map f xs) ≡ length xs
map_long f [] = refl
map_long f (x ∷ xs) = ap suc (map_long f xs)

-- parameters take a number and a fact each
formals_in_step : (s : Scope) (facts : Facts) (fs : List Formal) → InStep s facts → InStep (after_formals s fs) (facts ++ formal_facts fs)
formals_in_step s facts [] e = e ∙ sym (length-append facts [] ∙ nothing (length facts))
  where
    nothing : (n : ℕ) → n + 0 ≡ n
    nothing n = omega arith
formals_in_step s facts (f ∷ fs) e =
    subst (λ (l : Facts). InStep (after_formals (declare s f.name (formal_sort f.shape)) fs) l) (append_assoc facts (parameter_fact f.kind f.shape ∷ []) (formal_facts fs))
    (formals_in_step (declare s f.name (formal_sort f.shape)) (facts ++ parameter_fact f.kind f.shape ∷ []) fs (next_in_step s facts f.name (formal_sort f.shape) (parameter_fact f.kind f.shape) e))

functions_in_step : (n : ℕ) (s : Scope) (facts : Facts) (fs : List Defined) → InStep s facts → InStep (after_functions n s fs) (facts_after_functions facts fs)
functions_in_step n s facts [] e = e
functions_in_step n s facts (f ∷ fs) e =
    functions_in_step (n + 1) (after_function n s f) (facts_after_function facts f) fs
    (in_step (body_start s f) (facts ++ formal_facts f.parameters) f.body (formals_in_step s facts f.parameters e))

pub functions_grow : (facts : Facts) (fs : List Defined) → Extends (facts_after_functions facts fs) facts
functions_grow facts [] n x e = e
functions_grow facts (f ∷ fs) n x e =
    functions_grow (facts_after_function facts f) fs n x (grows (facts ++ formal_facts f.parameters) f.body n x (appended facts (formal_facts f.parameters) n x e))

pub body_in_step : (p : Program) → InStep (body_scope p) (body_facts p)
body_in_step p = functions_in_step (length p.decls) (first_scope p) (first_facts p) p.functions first
  where
    first : InStep (first_scope p) (first_facts p)
    first =
        let a = length-append (map (λ d. entity d.name sort.Memory) p.decls) (map (λ f. entity f.name sort.Function) p.functions) in
        let b = length-append (declared_facts p.decls) (map function_fact p.functions) in
        let c = map_long (λ d. entity d.name sort.Memory) p.decls in
        let d = map_long (λ (d : Declared). of_memory (Some d.shape.kind) (length d.shape.dims)) p.decls in
        let e = map_long (λ f. entity f.name sort.Function) p.functions in
        let f = map_long function_fact p.functions in
        a ∙ (ap (λ n. n + length (map (λ f. entity f.name sort.Function) p.functions)) (c ∙ sym d) ∙ (ap (λ n. length (declared_facts p.decls) + n) (e ∙ sym f) ∙ sym b))

-- Names.

-- something is known of what an item of a program declares
abbrev ItemsKnown : Facts → List Item → Type 0
ItemsKnown facts items = AllByRecursion (λ (i : Item). IsKnownName facts i.entity) items

merged_known : (facts : Facts) (ms fs : List Item) → ItemsKnown facts ms → ItemsKnown facts fs → ItemsKnown facts (merged ms fs)
merged_known facts [] fs h i = i
merged_known facts (m ∷ ms) [] h i = h
merged_known facts (m ∷ ms) (f ∷ fs) h i = by (is_before f.name.place m.name.place) (merged_known facts (m ∷ ms) fs h i.1) (merged_known facts ms (f ∷ fs) h.1 i)
  where
    by : (b : Bool) → ItemsKnown facts (merged (m ∷ ms) fs) → ItemsKnown facts (merged ms (f ∷ fs)) → ItemsKnown facts (if b then f ∷ merged (m ∷ ms) fs else m ∷ merged ms (f ∷ fs))
    by true g k = (i.0, g)
    by false g k = (h.0, k)

after_known : (facts : Facts) (bs : List ScopeEntry) (items : List Item) → Knows facts bs → ItemsKnown facts items → Knows facts (after_items bs items)
after_known facts bs [] k h = k
after_known facts bs (i ∷ is) k h = after_known facts (bind bs i.name.name i.entity) is (bind_known facts bs i.name.name i.entity k h.0) h.1

pub next_number : (n i : ℕ) → n + 1 + i ≡ n + suc i
next_number n i = omega arith

memories_known : (facts : Facts) (n : ℕ) (ds : List Declared) → AllByRecursion (λ (d : Declared). IsKind d.shape.kind) ds → ((i : ℕ) (d : Declared) → slice_get ds i ≡ Some d → slice_get facts (n + i) ≡ Some (of_memory (Some d.shape.kind) (length d.shape.dims))) → ItemsKnown facts (memory_items n ds)
memories_known facts n [] z h = tt
memories_known facts n (d ∷ ds) z h = (
  record { fact = of_memory (Some d.shape.kind) (length d.shape.dims); is = ap (slice_get facts) (sym (nothing n)) ∙ h 0 d refl; good = z.0 },
  memories_known facts (n + 1) ds z.1 (λ i x e. ap (slice_get facts) (next_number n i) ∙ h (suc i) x e),
)
  where
    nothing : (n : ℕ) → n + 0 ≡ n
    nothing n = omega arith

functions_known : (facts : Facts) (n : ℕ) (fs : List Defined) → ((i : ℕ) (f : Defined) → slice_get fs i ≡ Some f → slice_get facts (n + i) ≡ Some (function_fact f)) → ItemsKnown facts (function_items n fs)
functions_known facts n [] h = tt
functions_known facts n (f ∷ fs) h = (
  record { fact = function_fact f; is = ap (slice_get facts) (sym (nothing n)) ∙ h 0 f refl; good = tt },
  functions_known facts (n + 1) fs (λ i x e. ap (slice_get facts) (next_number n i) ∙ h (suc i) x e),
)
  where
    nothing : (n : ℕ) → n + 0 ≡ n
    nothing n = omega arith

pub mapped_at : {A B : Type 0} (f : A → B) (xs : List A) (i : ℕ) (x : A) → slice_get xs i ≡ Some x → slice_get (map f xs) i ≡ Some (f x)
mapped_at f xs i x e = slice_get-map f xs i ∙ ap (option_map f) e

-- behind a list
pub behind_at : {A : Type 0} (xs ys : List A) (i : ℕ) → slice_get (xs ++ ys) (length xs + i) ≡ slice_get ys i
behind_at {A} [] ys i = ap (slice_get ys) (nothing i)
  where
    nothing : (i : ℕ) → 0 + i ≡ i
    nothing i = omega arith
behind_at {A} (x ∷ xs) ys i = ap (slice_get (x ∷ (xs ++ ys))) (next (length xs) i) ∙ behind_at xs ys i
  where
    next : (n i : ℕ) → suc n + i ≡ suc (n + i)
    next n i = omega arith

body_known : (p : Program) → AllByRecursion (λ (d : Declared). IsKind d.shape.kind) p.decls → Knows (body_facts p) (body_scope p).visible
body_known p z =
    still_known (first_facts p) (body_facts p) (body_scope p).visible (functions_grow (first_facts p) p.functions)
    (after_known (first_facts p) [] (items_of p) (λ name n e. absurd cc)
    (merged_known (first_facts p) (memory_items 0 p.decls) (function_items (length p.decls) p.functions)
    (memories_known (first_facts p) 0 p.decls z outside)
    (functions_known (first_facts p) (length p.decls) p.functions functions)))
  where
    long : length (declared_facts p.decls) ≡ length p.decls
    long = map_long (λ (d : Declared). of_memory (Some d.shape.kind) (length d.shape.dims)) p.decls

    nothing : (i : ℕ) → 0 + i ≡ i
    nothing i = omega arith

    outside : (i : ℕ) (d : Declared) → slice_get p.decls i ≡ Some d → slice_get (first_facts p) (0 + i) ≡ Some (of_memory (Some d.shape.kind) (length d.shape.dims))
    outside i d e = ap (slice_get (first_facts p)) (nothing i) ∙ appended (declared_facts p.decls) (map function_fact p.functions) i _ (mapped_at (λ (d : Declared). of_memory (Some d.shape.kind) (length d.shape.dims)) p.decls i d e)

    functions : (i : ℕ) (f : Defined) → slice_get p.functions i ≡ Some f → slice_get (first_facts p) (length p.decls + i) ≡ Some (function_fact f)
    functions i f e =
        ap (λ n. slice_get (first_facts p) (n + i)) (sym long)
        ∙ (behind_at (declared_facts p.decls) (map function_fact p.functions) i ∙ mapped_at function_fact p.functions i f e)

-- Programs.

typed_body : (p : Program) → IsTypedProgram p → typed_action (body_facts p) p.body ≡ p.body
typed_body p h =
    let functions : typed_functions (first_facts p) p.functions ≡ p.functions = ap (λ (q : Program). q.functions) h.kinds in
    let body : typed_action (facts_after_functions (first_facts p) (typed_functions (first_facts p) p.functions)) p.body ≡ p.body = ap (λ (q : Program). q.body) h.kinds in
    ap (λ fs. typed_action (facts_after_functions (first_facts p) fs) p.body) (sym functions) ∙ body

pub resolved_body : (p : Program) → IsTypedProgram p → resolved_action (body_scope p) p.body ≡ p.body
resolved_body p h = ap (λ (q : Program). q.body) h.entities

-- every loop is known by what is known at the end
pub iterators_known : (p : Program) → IsTypedProgram p → AreKnownIterators (facts_after (body_facts p) p.body) (counters_of p)
iterators_known p h =
    known_in (facts_after (body_facts p) p.body) (body_scope p) (body_facts p) p.body (body_in_step p) (resolved_body p h)
    (second_none (functions_kind_breaches (first_facts p) p.functions) _ h.suits) (λ n f e. e)

has_at : (cs : List Counter) (es : List SourceEvent) (k : ℕ) (a : SourceAccess) → EventsHave cs es → slice_get (accesses_in es) k ≡ Some a → HasElementKinds cs a.element
has_at cs [] k a h e = absurd cc
has_at cs (accesses x ∷ es) zero a h e = let same : x ≡ a = cc in subst (λ (y : SourceAccess). HasElementKinds cs y.element) same h.0
has_at cs (accesses x ∷ es) (suc k) a h e = has_at cs es k a h.1 e
has_at cs (assigned entity ∷ es) k a h e = has_at cs es k a h e

-- the indices of every access have their kinds
pub indices_have_kinds : (p : Program) → IsTypedProgram p → (k : ℕ) (a : SourceAccess) → slice_get (accesses_in (trace p)) k ≡ Some a → HasElementKinds (counters_of p) a.element
indices_have_kinds p h k a e =
    let found = leads (facts_after (body_facts p) p.body) (counters_of p) (iterators_known p h) (body_facts p) (body_scope p) nothing_around p.body (body_in_step p) (body_known p h.widths.decls) (λ n f e. e) (record {
      typed = typed_body p h;
      named = resolved_body p h;
      visible = second_none (functions_breaches (length p.decls) (first_scope p) p.functions) _ (second_none (items_breaches [] (items_of p)) _ h.names);
      kinds = second_none (functions_kind_breaches (first_facts p) p.functions) _ h.suits;
      sized = h.widths.body;
    }) in
    has_at (counters_of p) (trace p) k a found.events e

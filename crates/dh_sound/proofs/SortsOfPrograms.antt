-- In a program that is checked each access is of a memory, and each assignment goes to a variable that is declared inside
-- all the unrolled loops round it. Where the body begins, the names that are visible are those of memories from outside,
-- which have the numbers of their declarations, and of functions; from there on the walk over commands tells it.
use Rattle.std.proofs.Common.{◌≡◌, ℕ, zero, suc, ◌+◌, Bool, true, false, if◌then◌else◌, List, [], ◌∷◌, length, map, Some, inl, inr, refl, ap, sym, ◌∙◌, subst, arith}
use Rattle.std.specs.Prelude.{slice_get}
use Rattle.std.specs.List.{AllByRecursion}
use Rattle.dh_tree.specs.Breaches.{items_breaches, functions_breaches}
use Rattle.dh_tree.specs.Forms.{unbuilt_functions}
use Rattle.dh_tree.specs.KindBreaches.{functions_kind_breaches}
use Rattle.dh_tree.specs.Kinds.{of_memory, Facts, declared_facts, function_fact, first_facts, body_facts, facts_after}
use Rattle.dh_tree.specs.LeastBreach.{is_before}
use Rattle.dh_tree.specs.Memories.{outside_memory, memories_of, locals}
use Rattle.dh_tree.specs.PlainTrees.{Declared, Defined, Program}
use Rattle.dh_tree.specs.Ready.{IsReady}
use Rattle.dh_tree.specs.Resolved.{resolved_decls}
use Rattle.dh_tree.specs.Scopes.{ScopeEntry, bind, Item, memory_items, function_items, merged, items_of, after_items, first_scope, body_scope, at_end}
use Rattle.dh_tree.proofs.EmptyLists.{second_none}
use Rattle.dh_meaning.specs.CoreOf.{known_of}
use Rattle.dh_meaning.specs.Sites.{nothing_around}
use Rattle.dh_meets.specs.SourceEvents.{SourceAccess, SourceEvent, accesses, assigned, accesses_in, trace}
use Rattle.dh_sound.specs.AssignsInside.{AssignsInside}
use Rattle.dh_sound.specs.BlockTold.{IsOfMemory, AccessesDeclared}
use Rattle.dh_sound.specs.IndexValues.{IsTypedProgram}
use Rattle.dh_sound.specs.Trails.{EachAccess}
use Rattle.dh_sound.proofs.DepthsNamed.{deep}
use Rattle.dh_sound.proofs.FactsGrow.{appended}
use Rattle.dh_sound.proofs.JoinsKept.{joins_kept}
use Rattle.dh_sound.proofs.KindsOfPrograms.{functions_grow, body_in_step, mapped_at, behind_at, map_long, resolved_body, next_number}
use Rattle.dh_carried.proofs.Pigeons.{Has, has_right, has_left, has_mapped}
use Rattle.dh_sound.proofs.OuterSpared.{outer_spared}
use Rattle.dh_sound.proofs.SortsOfCommands.{CommandTold, told}
use Rattle.dh_sound.proofs.SortsOfNames.{memory_found, IsSorted, memory_is, function_is, AreSorted, all_later, bind_sorted}
use Rattle.dh_meaning.specs.Ways.{all_bindings_of, view_bindings}

-- Where the body begins.

abbrev ItemsSorted : Program → Facts → List Item → Type 0
ItemsSorted p facts items = AllByRecursion (λ (i : Item). IsSorted p facts 0 0 i.entity) items

merged_sorted : (p : Program) (facts : Facts) (ms fs : List Item) → ItemsSorted p facts ms → ItemsSorted p facts fs → ItemsSorted p facts (merged ms fs)
merged_sorted p facts [] fs h i = i
merged_sorted p facts (m ∷ ms) [] h i = h
merged_sorted p facts (m ∷ ms) (f ∷ fs) h i = by (is_before f.name.place m.name.place) (merged_sorted p facts (m ∷ ms) fs h i.1) (merged_sorted p facts ms (f ∷ fs) h.1 i)
  where
    by : (b : Bool) → ItemsSorted p facts (merged (m ∷ ms) fs) → ItemsSorted p facts (merged ms (f ∷ fs)) → ItemsSorted p facts (if b then f ∷ merged (m ∷ ms) fs else m ∷ merged ms (f ∷ fs))
    by true g k = (i.0, g)
    by false g k = (h.0, k)

after_sorted : (p : Program) (facts : Facts) (bs : List ScopeEntry) (items : List Item) → AreSorted p facts 0 0 bs → ItemsSorted p facts items → AreSorted p facts 0 0 (after_items bs items)
after_sorted p facts bs [] k h = k
after_sorted p facts bs (i ∷ is) k h = after_sorted p facts (bind bs i.name.name i.entity) is (bind_sorted p facts 0 0 bs i.name.name i.entity k h.0) h.1

front : (n : ℕ) → n + 0 ≡ n
front n = omega arith

memories_sorted : (p : Program) (facts : Facts) (n : ℕ) (ds : List Declared) → ((i : ℕ) (d : Declared) → slice_get ds i ≡ Some d → IsSorted p facts 0 0 (n + i)) → ItemsSorted p facts (memory_items n ds)
memories_sorted p facts n [] h = tt
memories_sorted p facts n (d ∷ ds) h = (
  subst (λ (k : ℕ). IsSorted p facts 0 0 k) (front n) (h 0 d refl),
  memories_sorted p facts (n + 1) ds (λ i x e. subst (λ (k : ℕ). IsSorted p facts 0 0 k) (sym (next_number n i)) (h (suc i) x e)),
)

functions_sorted : (p : Program) (facts : Facts) (n : ℕ) (fs : List Defined) → ((i : ℕ) (f : Defined) → slice_get fs i ≡ Some f → IsSorted p facts 0 0 (n + i)) → ItemsSorted p facts (function_items n fs)
functions_sorted p facts n [] h = tt
functions_sorted p facts n (f ∷ fs) h = (
  subst (λ (k : ℕ). IsSorted p facts 0 0 k) (front n) (h 0 f refl),
  functions_sorted p facts (n + 1) fs (λ i x e. subst (λ (k : ℕ). IsSorted p facts 0 0 k) (sym (next_number n i)) (h (suc i) x e)),
)

one_first : {A : Type 0} (x y : A) (xs ys : List A) → x ∷ xs ≡ y ∷ ys → x ≡ y
one_first x y xs ys e = cc

-- memories from outside have the numbers of their declarations
numbered_at : (n : ℕ) (ds : List Declared) → resolved_decls n ds ≡ ds → (i : ℕ) (d : Declared) → slice_get ds i ≡ Some d → d.name.entity ≡ Some (n + i)
numbered_at n [] e i d f = absurd cc
numbered_at n (x ∷ ds) e zero d f =
    let own : Some n ≡ x.name.entity = ap (λ (y : Declared). y.name.entity) (one_first _ x _ ds e) in
    let same : x ≡ d = cc in
    ap (λ (y : Declared). y.name.entity) (sym same) ∙ (sym own ∙ ap Some (sym (front n)))
numbered_at n (x ∷ ds) e (suc i) d f =
    let rest : resolved_decls (n + 1) ds ≡ ds = cc in
    numbered_at (n + 1) ds rest i d f ∙ ap Some (next_number n i)

has_at : {A : Type 0} (xs : List A) (i : ℕ) (x : A) → slice_get xs i ≡ Some x → Has x xs
has_at [] i x e = absurd cc
has_at (y ∷ ys) zero x e = let same : x ≡ y = cc in inl same
has_at (y ∷ ys) (suc i) x e = inr (has_at ys i x e)

items_sorted : (p : Program) → IsTypedProgram p → ItemsSorted p (first_facts p) (items_of p)
items_sorted p typed =
    merged_sorted p (first_facts p) (memory_items 0 p.decls) (function_items (length p.decls) p.functions)
    (memories_sorted p (first_facts p) 0 p.decls outside) (functions_sorted p (first_facts p) (length p.decls) p.functions functions)
  where
    long : length (declared_facts p.decls) ≡ length p.decls
    long = map_long (λ (d : Declared). of_memory (Some d.shape.kind) (length d.shape.dims)) p.decls

    none_before : (i : ℕ) → 0 + i ≡ i
    none_before i = omega arith

    decls : resolved_decls 0 p.decls ≡ p.decls
    decls = ap (λ (x : Program). x.decls) typed.entities

    outside : (i : ℕ) (d : Declared) → slice_get p.decls i ≡ Some d → IsSorted p (first_facts p) 0 0 (0 + i)
    outside i d e =
        memory_is (Some d.shape.kind) (length d.shape.dims)
        (ap (slice_get (first_facts p)) (none_before i)
        ∙ appended (declared_facts p.decls) (map function_fact p.functions) i _ (mapped_at (λ (d : Declared). of_memory (Some d.shape.kind) (length d.shape.dims)) p.decls i d e))
        (memory_found (memories_of p) (outside_memory d) (0 + i)
        (has_left (outside_memory d) (map outside_memory p.decls) (locals p.body) (has_mapped outside_memory d p.decls (has_at p.decls i d e))) (numbered_at 0 p.decls decls i d e))

    functions : (i : ℕ) (f : Defined) → slice_get p.functions i ≡ Some f → IsSorted p (first_facts p) 0 0 (length p.decls + i)
    functions i f e =
        function_is _
        (ap (λ n. slice_get (first_facts p) (n + i)) (sym long)
        ∙ (behind_at (declared_facts p.decls) (map function_fact p.functions) i ∙ mapped_at function_fact p.functions i f e))

body_sorted : (p : Program) → IsTypedProgram p → AreSorted p (body_facts p) 0 0 (body_scope p).visible
body_sorted p typed =
    all_later p (first_facts p) (body_facts p) 0 0 (body_scope p).visible (functions_grow (first_facts p) p.functions)
    (after_sorted p (first_facts p) [] (items_of p) (λ name n e. absurd cc) (items_sorted p typed))

-- Programs.

each_at : (P : SourceAccess → Type 0) (es : List SourceEvent) (k : ℕ) (a : SourceAccess) → EachAccess P es → slice_get (accesses_in es) k ≡ Some a → P a
each_at P [] k a h e = absurd cc
each_at P (accesses x ∷ es) zero a h e = let same : x ≡ a = cc in subst P same h.0
each_at P (accesses x ∷ es) (suc k) a h e = each_at P es k a h.1 e
each_at P (assigned entity ∷ es) k a h e = each_at P es k a h e

module _ (p : Program) (ready : IsReady p) (typed : IsTypedProgram p) where
  body_told : CommandTold p (facts_after (body_facts p) p.body) 0 0 (at_end (body_scope p) p.body) (trace p) (AssignsInside (known_of p) 0 p.body)
  body_told =
      told p ready p.body (body_facts p) (body_scope p) nothing_around 0 0 (body_in_step p) (body_sorted p typed) (resolved_body p typed)
      (second_none (functions_breaches (length p.decls) (first_scope p) p.functions) _ (second_none (items_breaches [] (items_of p)) _ ready.names))
      (second_none (functions_kind_breaches (first_facts p) p.functions) _ ready.suits)
      (joins_kept p (second_none (unbuilt_functions p.functions) _ ready.built) ready.placements) (outer_spared p ready.placements)
      (deep (all_bindings_of p) p.body (body_scope p) 0 [] (view_bindings p) (resolved_body p typed) refl tt)
      (λ m h. has_right m (map outside_memory p.decls) (locals p.body) h) (λ y h. h)

  -- each access is of a memory
  pub accesses_declared : AccessesDeclared p
  accesses_declared k a e = each_at (IsOfMemory p) (trace p) k a body_told.events e

  -- and what is assigned is declared inside
  pub assigns_inside : AssignsInside (known_of p) 0 p.body
  assigns_inside = body_told.inside

-- The iterators of unrolled loops that the indices of an access of a program name are those of loops round it, each
-- at its level: where the body begins, the names that are visible stand for memories and functions.
use Rattle.std.proofs.Common.{◌≡◌, ℕ, zero, suc, ◌+◌, Bool, true, false, if◌then◌else◌, List, [], ◌∷◌, length, map, Some, refl, ap, sym, ◌∙◌, subst, arith}
use Rattle.std.specs.Prelude.{slice_get}
use Rattle.std.specs.List.{AllByRecursion}
use Rattle.std.proofs.lemmas.List.{append-nil}
use Rattle.dh_tree.specs.declared.trees.counters.Counter.{Counter}
use Rattle.dh_tree.specs.Counters.{counters_of, counter_in}
use Rattle.dh_tree.specs.Kinds.{Fact, of_memory, Facts, declared_facts, function_fact, first_facts, body_facts, facts_after}
use Rattle.dh_tree.specs.LeastBreach.{is_before}
use Rattle.dh_tree.specs.PlainTrees.{Declared, Defined, Program}
use Rattle.dh_tree.specs.Scopes.{ScopeEntry, bind, Item, memory_items, function_items, merged, items_of, after_items, body_scope}
use Rattle.dh_meaning.specs.Sites.{nothing_around}
use Rattle.dh_meets.specs.SourceEvents.{SourceAccess, SourceEvent, accesses, assigned, accesses_in, trace}
use Rattle.dh_sound.specs.IndexValues.{IsTypedProgram}
use Rattle.dh_sound.specs.LoopsRound.{ElementRound}
use Rattle.dh_sound.proofs.FactsGrow.{Extends, appended, grows}
use Rattle.dh_sound.proofs.IteratorsKnown.{AreKnownIterators}
use Rattle.dh_sound.proofs.KindsOfPrograms.{functions_grow, body_in_step, mapped_at, behind_at, map_long, resolved_body, next_number, iterators_known}
use Rattle.dh_sound.proofs.RoundLevels.{NamesRound, IsOther, bind_round, other_round, EventsRound}
use Rattle.dh_sound.proofs.RoundCommands.{tells}

-- what an item of a program declares is known as another thing than an iterator
record IsOtherItem (facts : Facts) (i : Item) : Type 0 where
  fact : Fact
  is : slice_get facts i.entity ≡ Some fact
  other : IsOther fact

abbrev ItemsOther : Facts → List Item → Type 0
ItemsOther facts items = AllByRecursion (IsOtherItem facts) items

merged_other : (facts : Facts) (ms fs : List Item) → ItemsOther facts ms → ItemsOther facts fs → ItemsOther facts (merged ms fs)
merged_other facts [] fs h i = i
merged_other facts (m ∷ ms) [] h i = h
merged_other facts (m ∷ ms) (f ∷ fs) h i = by (is_before f.name.place m.name.place) (merged_other facts (m ∷ ms) fs h i.1) (merged_other facts ms (f ∷ fs) h.1 i)
  where
    by : (b : Bool) → ItemsOther facts (merged (m ∷ ms) fs) → ItemsOther facts (merged ms (f ∷ fs)) → ItemsOther facts (if b then f ∷ merged (m ∷ ms) fs else m ∷ merged ms (f ∷ fs))
    by true g k = (i.0, g)
    by false g k = (h.0, k)

after_round : (all facts : Facts) (cs loops : List Counter) (bs : List ScopeEntry) (items : List Item) → AreKnownIterators all cs → Extends all facts → NamesRound cs loops bs → ItemsOther facts items → NamesRound cs loops (after_items bs items)
after_round all facts cs loops bs [] h x n o = n
after_round all facts cs loops bs (i ∷ is) h x n o =
    after_round all facts cs loops (bind bs i.name.name i.entity) is h x (bind_round cs loops bs i.name.name i.entity n (other_round all cs loops i.entity o.0.fact h (x i.entity o.0.fact o.0.is) o.0.other)) o.1

nothing : (n : ℕ) → n + 0 ≡ n
nothing n = omega arith

memories_other : (facts : Facts) (n : ℕ) (ds : List Declared) → ((i : ℕ) (d : Declared) → slice_get ds i ≡ Some d → slice_get facts (n + i) ≡ Some (of_memory (Some d.shape.kind) (length d.shape.dims))) → ItemsOther facts (memory_items n ds)
memories_other facts n [] h = tt
memories_other facts n (d ∷ ds) h = (
  record { fact = of_memory (Some d.shape.kind) (length d.shape.dims); is = ap (slice_get facts) (sym (nothing n)) ∙ h 0 d refl; other = tt },
  memories_other facts (n + 1) ds (λ i x e. ap (slice_get facts) (next_number n i) ∙ h (suc i) x e),
)

functions_other : (facts : Facts) (n : ℕ) (fs : List Defined) → ((i : ℕ) (f : Defined) → slice_get fs i ≡ Some f → slice_get facts (n + i) ≡ Some (function_fact f)) → ItemsOther facts (function_items n fs)
functions_other facts n [] h = tt
functions_other facts n (f ∷ fs) h = (
  record { fact = function_fact f; is = ap (slice_get facts) (sym (nothing n)) ∙ h 0 f refl; other = tt },
  functions_other facts (n + 1) fs (λ i x e. ap (slice_get facts) (next_number n i) ∙ h (suc i) x e),
)

items_other : (p : Program) → ItemsOther (first_facts p) (items_of p)
items_other p =
    merged_other (first_facts p) (memory_items 0 p.decls) (function_items (length p.decls) p.functions)
    (memories_other (first_facts p) 0 p.decls outside)
    (functions_other (first_facts p) (length p.decls) p.functions functions)
  where
    long : length (declared_facts p.decls) ≡ length p.decls
    long = map_long (λ (d : Declared). of_memory (Some d.shape.kind) (length d.shape.dims)) p.decls

    front : (i : ℕ) → 0 + i ≡ i
    front i = omega arith

    outside : (i : ℕ) (d : Declared) → slice_get p.decls i ≡ Some d → slice_get (first_facts p) (0 + i) ≡ Some (of_memory (Some d.shape.kind) (length d.shape.dims))
    outside i d e = ap (slice_get (first_facts p)) (front i) ∙ appended (declared_facts p.decls) (map function_fact p.functions) i _ (mapped_at (λ (d : Declared). of_memory (Some d.shape.kind) (length d.shape.dims)) p.decls i d e)

    functions : (i : ℕ) (f : Defined) → slice_get p.functions i ≡ Some f → slice_get (first_facts p) (length p.decls + i) ≡ Some (function_fact f)
    functions i f e =
        ap (λ n. slice_get (first_facts p) (n + i)) (sym long)
        ∙ (behind_at (declared_facts p.decls) (map function_fact p.functions) i ∙ mapped_at function_fact p.functions i f e)

round_at : (cs : List Counter) (es : List SourceEvent) (k : ℕ) (a : SourceAccess) → EventsRound cs es → slice_get (accesses_in es) k ≡ Some a → ElementRound cs a.site.loops a.element
round_at cs [] k a h e = absurd cc
round_at cs (accesses x ∷ es) zero a h e = let same : x ≡ a = cc in subst (λ (y : SourceAccess). ElementRound cs y.site.loops y.element) same h.0
round_at cs (accesses x ∷ es) (suc k) a h e = round_at cs es k a h.1 e
round_at cs (assigned entity ∷ es) k a h e = round_at cs es k a h e

-- the unrolled loops whose iterators the indices of an access name are round it
pub loops_round : (p : Program) → IsTypedProgram p → (k : ℕ) (a : SourceAccess) → slice_get (accesses_in (trace p)) k ≡ Some a → ElementRound (counters_of p) a.site.loops a.element
loops_round p h k a e =
    let begins = after_round (facts_after (body_facts p) p.body) (first_facts p) (counters_of p) [] [] (items_of p) (iterators_known p h)
    (λ n f g. grows (body_facts p) p.body n f (functions_grow (first_facts p) p.functions n f g)) (λ name n f. absurd cc) (items_other p) in
    let told = tells (facts_after (body_facts p) p.body) (counters_of p) (iterators_known p h) (body_facts p) (body_scope p) nothing_around [] p.body (body_in_step p) (λ n f g. g) (resolved_body p h) begins tt
    (λ n i. ap (λ l. counter_in l (Some n)) (sym (append-nil (counters_of p)))) in
    round_at (counters_of p) (trace p) k a told.events e

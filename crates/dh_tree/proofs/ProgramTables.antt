-- The table of a program that keeps the rules on names, shapes and places and the limits on memories: the
-- names of memories from outside differ, local ones stand behind them, and each has a shape that a memory
-- can have.
use Rattle.std.proofs.Common.{◌≡◌, ℕ, zero, suc, ◌+◌, ◌≤◌, ◌==◌, ◌%◌, ◌&&◌, ◌||◌, not, nat_lt, Bool, true, false, if◌then◌else◌, Option, Some, None, List, [], ◌∷◌, ◌++◌, length, map, refl, ap, sym, ◌∙◌, subst, arith}
use Rattle.std.specs.List.{AllByRecursion}
use Rattle.std.specs.Option.{is_some}
use Rattle.std.specs.Str.{bytes_eq}
use Rattle.std.proofs.lemmas.Bool.Decides.{nat_tests}
use Rattle.std.proofs.lemmas.Slice.Eq.{bytes_eq-Decides}
use Rattle.dh_base.specs.Limits.{greatest_of}
use Rattle.dh_base.specs.declared.limits.Excess.{Excess}
use Rattle.dh_base.specs.declared.limits.Limit.{Limit}
use Rattle.dh_base.specs.declared.limits.Limit.TheVariants as limit
use Rattle.dh_value.specs.declared.kinds.Kind.{Kind}
use Rattle.dh_value.specs.declared.kinds.Kind.TheVariants as kind
use Rattle.dh_value.specs.Words.{IsKind, IsInteger}
use Rattle.dh_tree.specs.declared.breaches.Breach.{Breach}
use Rattle.dh_tree.specs.declared.tables.Dim.{Dim}
use Rattle.dh_tree.specs.declared.tables.MemEntry.{MemEntry}
use Rattle.dh_tree.specs.Breaches.{twice, items_breaches, functions_breaches, breaches, KeepsNames}
use Rattle.dh_tree.specs.Elements.{banks_of}
use Rattle.dh_tree.specs.Excesses.{excess_at, or_else, first_above, copies_excess, first_excess}
use Rattle.dh_tree.specs.Forms.{unbuilt_functions, unbuilt_forms}
use Rattle.dh_tree.specs.Indices.{divides, dim_keeps, dims_keep, index_context_of, decls_shape_breaches, index_breaches_of}
use Rattle.dh_tree.specs.Kinds.{is_truth}
use Rattle.dh_tree.specs.Memories.{Memory, outside_memory, locals, memories_of, entry_of, table_of}
use Rattle.dh_tree.specs.Names.{IsName}
use Rattle.dh_tree.specs.Placements.{has_no_dims, nothing_round, decls_placement_breaches, placement_breaches}
use Rattle.dh_tree.specs.PlainTrees.{Declared, Defined, Program}
use Rattle.dh_tree.specs.Scopes.{ScopeEntry, binding, entity_of, is_visible, bind, Item, memory_items, function_items, merged, items_of, first_scope, body_scope}
use Rattle.dh_tree.specs.Shapes.{IsDim, IsShape, IsMemory, IsLocal, outside_of, HasLocalsLast, IsProgramTable}
use Rattle.dh_tree.specs.Tables.{HasNoName, HasDistinctNames, elements_in}
use Rattle.dh_tree.specs.Written.{IsDeclared, IsOfText}
use Rattle.dh_tree.proofs.KeptMemories.{IsKept, IsKeptLocal, decls_kept, locals_kept, all_kept}
use Rattle.dh_tree.proofs.EmptyLists.{first_none, second_none, not_none}

-- the name of a memory that is declared
abbrev outer_entry : Declared → MemEntry
outer_entry d = entry_of (outside_memory d)

no_rest : {A : Type 0} (xs ys : List A) → xs ++ ys ≡ [] → (xs ≡ []) × (ys ≡ [])
no_rest xs ys e = (first_none xs ys e, second_none xs ys e)

merged_none : (items : List Item) → merged items [] ≡ items
merged_none [] = refl
merged_none (i ∷ items) = refl

no_functions : (fs : List Defined) → unbuilt_functions fs ≡ [] → fs ≡ []
no_functions [] e = refl
no_functions (f ∷ fs) e = not_none _ _ e

items_are : (p : Program) → unbuilt_functions p.functions ≡ [] → items_of p ≡ memory_items 0 p.decls
items_are p none =
    ap (λ fs. merged (memory_items 0 p.decls) (function_items (length p.decls) fs)) (no_functions p.functions none)
    ∙ merged_none (memory_items 0 p.decls)

same_name : (name : List ℕ) → bytes_eq name name ≡ true
same_name name = (bytes_eq-Decides name name).1 refl

visible_last : (bs : List ScopeEntry) (name : List ℕ) (e : ℕ) → is_visible (bs ++ binding name e ∷ []) name ≡ true
visible_last [] name e = ap (λ t. is_some (if t then Some e else None)) (same_name name)
visible_last (b ∷ bs) name e = either_way (bytes_eq name b.name) b.entity (entity_of (bs ++ binding name e ∷ []) name) (visible_last bs name e)
  where
    either_way : (t : Bool) (n : ℕ) (rest : Option ℕ) → is_some rest ≡ true → is_some (if t then Some n else rest) ≡ true
    either_way true n rest h = refl
    either_way false n rest h = h

visible_still : (bs : List ScopeEntry) (name : List ℕ) (more : List ScopeEntry) → is_visible bs name ≡ true → is_visible (bs ++ more) name ≡ true
visible_still [] name more h = absurd (cc)
visible_still (b ∷ bs) name more h = still_way (bytes_eq name b.name) b.entity (entity_of bs name) (entity_of (bs ++ more) name) (λ k. visible_still bs name more k) h
  where
    still_way : (t : Bool) (n : ℕ) (rest after : Option ℕ) → (is_some rest ≡ true → is_some after ≡ true) → is_some (if t then Some n else rest) ≡ true → is_some (if t then Some n else after) ≡ true
    still_way true n rest after k h = refl
    still_way false n rest after k h = k h

chosen_visible : (t : Bool) (bs cs : List ScopeEntry) (name : List ℕ) → (t ≡ true → is_visible bs name ≡ true) → is_visible cs name ≡ true → is_visible (if t then bs else cs) name ≡ true
chosen_visible true bs cs name h k = h refl
chosen_visible false bs cs name h k = k

not_twice : (t : Bool) (b : Breach) → (if t then b ∷ [] else []) ≡ [] → t ≡ false
not_twice true b e = absurd (cc)
not_twice false b e = refl

-- no further memory has a name that is visible already
no_name : (name : List ℕ) (bs : List ScopeEntry) (n : ℕ) (ds : List Declared) → is_visible bs name ≡ true → items_breaches bs (memory_items n ds) ≡ [] → HasNoName name (map outer_entry ds)
no_name name bs n [] seen h = tt
no_name name bs n (d ∷ ds) seen h =
    let split = no_rest (twice bs d.name) (items_breaches (bind bs d.name.name n) (memory_items (n + 1) ds)) h in
    let fresh : is_visible bs d.name.name ≡ false = not_twice (is_visible bs d.name.name) _ split.0 in (
      (λ same. absurd (let x : is_visible bs d.name.name ≡ is_visible bs name = ap (is_visible bs) same in cc)),
      no_name name (bind bs d.name.name n) (n + 1) ds
          (chosen_visible (is_visible bs d.name.name) bs (bs ++ binding d.name.name n ∷ []) name (λ t. seen) (visible_still bs name (binding d.name.name n ∷ []) seen))
          split.1,
    )

-- the names of the memories differ
pub distinct_names : (bs : List ScopeEntry) (n : ℕ) (ds : List Declared) → items_breaches bs (memory_items n ds) ≡ [] → HasDistinctNames (map outer_entry ds)
distinct_names bs n [] h = tt
distinct_names bs n (d ∷ ds) h =
    let split = no_rest (twice bs d.name) (items_breaches (bind bs d.name.name n) (memory_items (n + 1) ds)) h in (
      no_name d.name.name (bind bs d.name.name n) (n + 1) ds
          (chosen_visible (is_visible bs d.name.name) bs (bs ++ binding d.name.name n ∷ []) d.name.name (λ t. t) (visible_last bs d.name.name n))
          split.1,
      distinct_names (bind bs d.name.name n) (n + 1) ds split.1,
    )

-- counts within their limits
no_excess : (b : Bool) (x : Excess) → (if b then Some x else None) ≡ None → b ≡ false
no_excess true x e = cc
no_excess false x e = refl

within_limit : (l : Limit) (n : ℕ) → excess_at l n ≡ None → n ≤ greatest_of l
within_limit l n e = let small = no_excess (nat_lt (greatest_of l) n) _ e in grind (arith, nat_tests, small)

first_of_none : (a b : Option Excess) → or_else a b ≡ None → a ≡ None
first_of_none None b e = refl
first_of_none (Some x) b e = cc

second_of_none : (a b : Option Excess) → or_else a b ≡ None → b ≡ None
second_of_none None b e = e
second_of_none (Some x) b e = cc

all_within : (l : Limit) (count : Memory → ℕ) (ms : List Memory) → first_above l count ms ≡ None → AllByRecursion (λ m. count m ≤ greatest_of l) ms
all_within l count [] e = tt
all_within l count (m ∷ ms) e =
    (within_limit l (count m) (first_of_none (excess_at l (count m)) _ e), all_within l count ms (second_of_none (excess_at l (count m)) _ e))

-- shapes
first_true : (a b : Bool) → (a && b) ≡ true → a ≡ true
first_true true b e = refl
first_true false b e = cc

second_true : (a b : Bool) → (a && b) ≡ true → b ≡ true
second_true true b e = e
second_true false b e = cc

at_least_one : (n : ℕ) → not (n == 0) ≡ true → 1 ≤ n
at_least_one zero e = cc
at_least_one (suc n) e = omega arith

is_dim : (d : Dim) → dim_keeps d ≡ true → IsDim d
is_dim d e =
    let whole = second_true (not (d.size == 0)) (divides d.banks d.size) e in
    let rest : (d.size % d.banks == 0) ≡ true = second_true (not (d.banks == 0)) (d.size % d.banks == 0) whole in
    record {
      size = at_least_one d.size (first_true (not (d.size == 0)) (divides d.banks d.size) e);
      banks = at_least_one d.banks (first_true (not (d.banks == 0)) (d.size % d.banks == 0) whole);
      divides = grind (arith, nat_tests, rest);
    }

are_dims : (ds : List Dim) → dims_keep ds ≡ true → AllByRecursion IsDim ds
are_dims [] e = tt
are_dims (d ∷ ds) e = (is_dim d (first_true (dim_keeps d) (dims_keep ds) e), are_dims ds (second_true (dim_keeps d) (dims_keep ds) e))

neither : (a b : Bool) → (a || b) ≡ false → (a ≡ false) × (b ≡ false)
neither false false e = (refl, refl)
neither false true e = cc
neither true b e = cc

integer_is : (k : Kind) → is_truth k ≡ false → IsKind k → IsInteger k
integer_is kind.Bool e h = cc
integer_is (kind.Unsigned w) e h = h
integer_is (kind.Signed w) e h = h

some_dims : (ds : List Dim) → has_no_dims ds ≡ false → 1 ≤ length ds
some_dims [] e = cc
some_dims (d ∷ ds) e = omega arith

is_shape : (m : Memory) → IsKept m → length m.shape.dims ≤ 6 → banks_of m.shape.dims ≤ 64 → m.shape.ports ≤ 8 → IsShape m.shape
is_shape m h d b p =
    let two = neither (is_truth m.shape.kind) (has_no_dims m.shape.dims) h.memory in
    record {
      integer = integer_is m.shape.kind two.0 h.sized;
      least_ports = at_least_one m.shape.ports (first_true (not (m.shape.ports == 0)) (dims_keep m.shape.dims) h.keeps);
      most = p;
      least_dims = some_dims m.shape.dims two.1;
      few_dims = d;
      dims = are_dims m.shape.dims (second_true (not (m.shape.ports == 0)) (dims_keep m.shape.dims) h.keeps);
      few_banks = b;
    }

are_memories : (ms : List Memory) → AllByRecursion (λ m. IsName m.name.name) ms → AllByRecursion IsKept ms → AllByRecursion (λ m. length m.shape.dims ≤ 6) ms → AllByRecursion (λ m. banks_of m.shape.dims ≤ 64) ms → AllByRecursion (λ m. m.shape.ports ≤ 8) ms → AllByRecursion IsMemory (map entry_of ms)
are_memories [] n k d b p = tt
are_memories (m ∷ ms) n k d b p = (record { name = n.0; shape = is_shape m k.0 d.0 b.0 p.0 }, are_memories ms n.1 k.1 d.1 b.1 p.1)

-- names of all memories
named : (ds : List Declared) (ms : List Memory) → AllByRecursion IsDeclared ds → AllByRecursion (λ m. IsName m.name.name) ms → AllByRecursion (λ m. IsName m.name.name) (map outside_memory ds ++ ms)
named [] ms h i = i
named (d ∷ ds) ms h i = (h.0.named, named ds ms h.1 i)

-- local memories stand behind those from outside
are_local : (ms : List Memory) → AllByRecursion IsKeptLocal ms → AllByRecursion IsLocal (map entry_of ms)
are_local [] h = tt
are_local (m ∷ ms) h = (h.0.inner, are_local ms h.1)

all_local_last : (es : List MemEntry) → AllByRecursion IsLocal es → HasLocalsLast es
all_local_last [] h = tt
all_local_last (e ∷ es) h = ((λ f. h.1), all_local_last es h.1)

locals_last : (ds : List Declared) (ms : List Memory) → AllByRecursion IsLocal (map entry_of ms) → HasLocalsLast (map entry_of (map outside_memory ds ++ ms))
locals_last [] ms h = all_local_last (map entry_of ms) h
locals_last (d ∷ ds) ms h = ((λ f. cc), locals_last ds ms h)

none_outside : (es : List MemEntry) → AllByRecursion IsLocal es → outside_of es ≡ []
none_outside [] h = refl
none_outside (e ∷ es) h = ap (λ b. if b then e ∷ outside_of es else outside_of es) h.0 ∙ none_outside es h.1

outer_are : (ds : List Declared) (ms : List Memory) → AllByRecursion IsLocal (map entry_of ms) → outside_of (map entry_of (map outside_memory ds ++ ms)) ≡ map outer_entry ds
outer_are [] ms h = none_outside (map entry_of ms) h
outer_are (d ∷ ds) ms h = ap (λ l. outer_entry d ∷ l) (outer_are ds ms h)

pub program_table : (p : Program) (tokens : ℕ) → IsOfText tokens p → KeepsNames p → unbuilt_forms p ≡ [] → index_breaches_of p ≡ [] → first_excess p ≡ None → placement_breaches p ≡ [] → IsProgramTable (table_of p)
program_table p tokens text names forms indices limits places =
    let outer = decls_kept p.decls (first_none (decls_shape_breaches p.decls) _ indices) (first_none (decls_placement_breaches p.decls) _ places) text.widths.decls in
    let inner = locals_kept (index_context_of p) p.entities nothing_round p.body (second_none (decls_shape_breaches p.decls) _ indices) (second_none (decls_placement_breaches p.decls) _ places) text.widths.body in
    let ms : List Memory = memories_of p in
    let dims = first_above limit.Dimensions (λ m. length m.shape.dims) ms in
    let banks = first_above limit.Banks (λ m. banks_of m.shape.dims) ms in
    let ports = first_above limit.Ports (λ m. m.shape.ports) ms in
    let after_dims = second_of_none dims _ limits in
    let after_banks = second_of_none banks _ after_dims in
    let local = are_local (locals p.body) inner in
    let split = no_rest (items_breaches [] (items_of p)) (functions_breaches (length p.decls) (first_scope p) p.functions ++ breaches (body_scope p) p.body) names in
    record {
      entries = are_memories ms (named p.decls (locals p.body) text.decls text.locals) (all_kept (map outside_memory p.decls) (locals p.body) outer inner)
          (all_within limit.Dimensions (λ m. length m.shape.dims) ms (first_of_none dims _ limits))
          (all_within limit.Banks (λ m. banks_of m.shape.dims) ms (first_of_none banks _ after_dims))
          (all_within limit.Ports (λ m. m.shape.ports) ms (first_of_none ports _ after_banks));
      names = subst HasDistinctNames (sym (outer_are p.decls (locals p.body) local))
          (distinct_names [] 0 p.decls (ap (items_breaches []) (sym (items_are p (first_none (unbuilt_functions p.functions) _ forms))) ∙ split.0));
      locals = locals_last p.decls (locals p.body) local;
      elements = within_limit limit.Elements (elements_in (table_of p)) (second_of_none (copies_excess 1 p.body) _ (second_of_none ports _ after_banks));
    }

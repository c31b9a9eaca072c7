-- A memory is no variable: each name of a program has an entity of one sort, so that no variable and no view has the number of
-- a memory, and the variables in which views keep their offsets have numbers behind all names.
use Rattle.std.proofs.Common.{◌≡◌, ◌⊎◌, inl, inr, ℕ, zero, suc, ◌+◌, ◌<◌, ◌≤◌, Bool, true, false, if◌then◌else◌, List, [], ◌∷◌, ◌++◌, length, map, Option, Some, None, refl, ◌∙◌, ap, subst, arith, append_assoc}
use Rattle.std.specs.Prelude.{slice_get}
use Rattle.std.proofs.lemmas.Bool.{eqb-true}
use Rattle.std.proofs.lemmas.Bool.Decides.{nat_tests}
use Rattle.std.proofs.lemmas.Option.{slice_get_within}
use Rattle.dh_tree.specs.declared.tables.Shape.{Shape}
use Rattle.dh_tree.specs.declared.trees.programs.Entity.{Entity}
use Rattle.dh_tree.specs.declared.trees.programs.Sort.{Sort}
use Rattle.dh_tree.specs.declared.trees.programs.Sort.TheVariants as sort
use Rattle.dh_tree.specs.Memories.{Memory, locals, memories_of, memory_in, outside_memory, same_entity}
use Rattle.dh_tree.specs.PlainTrees.{Declared, Defined, Formal, Program, Term}
use Rattle.dh_tree.specs.Ready.{IsReady}
use Rattle.dh_tree.specs.Resolved.{numbered, resolved_decls}
use Rattle.dh_tree.specs.Scopes.{Scope, after_formals, after_function, after_functions, body_scope, body_start, declare, entity, first_scope, formal_sort, last_scope}
use Rattle.dh_tree.specs.ViewOffsets.{offsets_of}
use Rattle.dh_tree.specs.Views.{map_of}
use Rattle.dh_meaning.specs.Bindings.{Binding, binding_in, bindings_of, kind_found}
use Rattle.dh_meaning.specs.Ways.{Led, ViewSite, Way, all_bindings_of, behind_hidden, hidden_binding, hidden_bindings, hidden_from, hidden_of, led_after, led_behind, led_binding, led_of, shape_named, standings, view_bindings, way_at, way_behind, way_in, ways_of}
use Rattle.dh_sound.proofs.IteratorsNamed.{GoesOn, declared_on, goes_on, same_on, then_on}
use Rattle.dh_sound.proofs.SortedNames.{AllBound, AllStored, AllViewed, body_sorted, is_bound, is_stored, is_viewed, sort_at, stands_as}
use Rattle.dh_sound.proofs.ViewsBound.{another}

-- Sorts.

same_of : (o : Option ℕ) (n : ℕ) → same_entity o (Some n) ≡ true → o ≡ Some n
same_of None n e = absurd (cc)
same_of (Some m) n e = ap Some (eqb-true m n e)

stored_sort : (k : Sort) → is_stored k ≡ true → (is_bound k ≡ false) × (is_viewed k ≡ false)
stored_sort sort.Variable e = absurd (cc)
stored_sort sort.Iterator e = absurd (cc)
stored_sort sort.Memory e = (refl, refl)
stored_sort sort.View e = absurd (cc)
stored_sort sort.Function e = absurd (cc)

stored_there : (o : Option Entity) → sort_at is_stored o ≡ true → (sort_at is_bound o ≡ false) × (sort_at is_viewed o ≡ false)
stored_there None e = (refl, refl)
stored_there (Some x) e = stored_sort x.sort e

stored_within : (es : List Entity) (n : ℕ) (o : Option Entity) → slice_get es n ≡ o → sort_at is_stored o ≡ true → n < length es
stored_within es n None e h = absurd (cc)
stored_within es n (Some x) e h = slice_get_within es n x e

-- Bindings of other sorts.

none_front : (bs cs : List Binding) (n : ℕ) → binding_in bs n ≡ None → binding_in (bs ++ cs) n ≡ binding_in cs n
none_front [] cs n e = refl
none_front (b ∷ bs) cs n e = by (same_entity b.entity (Some n)) e (λ h. none_front bs cs n h)
  where
    by : (t : Bool) → (if t then Some b else binding_in bs n) ≡ None → (binding_in bs n ≡ None → binding_in (bs ++ cs) n ≡ binding_in cs n) → (if t then Some b else binding_in (bs ++ cs) n) ≡ binding_in cs n
    by true h rest = absurd (cc)
    by false h rest = rest h

module _ (es : List Entity) (n : ℕ) where
  none_bound : (bs : List Binding) → AllBound es bs → sort_at is_bound (slice_get es n) ≡ false → binding_in bs n ≡ None
  none_bound [] a e = refl
  none_bound (b ∷ bs) a e = ap (λ t. if t then Some b else binding_in bs n) (another is_bound es b.entity n a.0 e) ∙ none_bound bs a.1 e

  one_led : (first : ℕ) (s : ViewSite) (shape : Option Shape) (o : Option Way) → stands_as is_viewed es s.name.entity ≡ true → sort_at is_viewed (slice_get es n) ≡ false → binding_in (map led_binding (led_of first s shape o)) n ≡ None
  one_led first s None o a e = refl
  one_led first s (Some shape) o a e = ap (λ t. if t then Some (led_binding (record { entity = s.name.entity; way = way_behind first s (map_of s.form shape) o })) else None) (another is_viewed es s.name.entity n a e)

  none_led : (ms : List Memory) (first : ℕ) (before : List Led) (ss : List ViewSite) → binding_in (map led_binding before) n ≡ None → AllViewed es ss → sort_at is_viewed (slice_get es n) ≡ false
      → binding_in (map led_binding (led_behind ms first before ss)) n ≡ None
  none_led ms first before [] b a e = b
  none_led ms first before (s ∷ ss) b a e =
      none_led ms (behind_hidden first s) (before ++ led_after ms first before s) ss
      (both before (led_after ms first before s) b (one_led first s (shape_named (memory_in ms s.parent.entity) (way_in before s.parent.entity)) (way_at ms before s.parent.entity) a.0 e)) a.1 e
    where
      both : (ls more : List Led) → binding_in (map led_binding ls) n ≡ None → binding_in (map led_binding more) n ≡ None → binding_in (map led_binding (ls ++ more)) n ≡ None
      both [] more f g = g
      both (l ∷ ls) more f g = by (same_entity l.entity (Some n)) f (λ h. both ls more h g)
        where
          by : (t : Bool) → (if t then Some (led_binding l) else binding_in (map led_binding ls) n) ≡ None
              → (binding_in (map led_binding ls) n ≡ None → binding_in (map led_binding (ls ++ more)) n ≡ None) → (if t then Some (led_binding l) else binding_in (map led_binding (ls ++ more)) n) ≡ None
          by true h rest = absurd (cc)
          by false h rest = rest h

-- what is kept has numbers from a first one on
none_kept : (n first depth : ℕ) (ts : List Term) → n < first → binding_in (map hidden_binding (hidden_from first depth ts)) n ≡ None
none_kept n first depth [] l = refl
none_kept n first depth (t ∷ ts) l =
    ap (λ b. if b then Some (hidden_binding (record { entity = first; kind = kind_found t; depth = depth })) else binding_in (map hidden_binding (hidden_from (suc first) depth ts)) n) (other first n l) ∙ none_kept n (suc first) depth ts (omega (arith, l))
  where
    other : (a b : ℕ) → b < a → same_entity (Some a) (Some b) ≡ false
    other a b h = grind (arith, nat_tests, h)

none_hidden : (n first : ℕ) (ss : List ViewSite) → n < first → binding_in (hidden_bindings first ss) n ≡ None
none_hidden n first [] l = refl
none_hidden n first (s ∷ ss) l =
    none_front (map hidden_binding (hidden_of first s)) (hidden_bindings (behind_hidden first s) ss) n (none_kept n first s.depth (offsets_of s.form) l) ∙ none_hidden n (behind_hidden first s) ss (later first (length (offsets_of s.form)) l)
  where
    later : (a k : ℕ) → n < a → n < a + k
    later a k h = omega (arith, h)

-- Memories.

found_stored : (es : List Entity) (ms : List Memory) (n : ℕ) (m : Memory) → AllStored es ms → memory_in ms (Some n) ≡ Some m → sort_at is_stored (slice_get es n) ≡ true
found_stored es [] n m a is = absurd (cc)
found_stored es (x ∷ ms) n m a is = by (same_entity x.name.entity (Some n)) refl is (found_stored es ms n m a.1)
  where
    by : (t : Bool) → same_entity x.name.entity (Some n) ≡ t → (if t then Some x else memory_in ms (Some n)) ≡ Some m → (memory_in ms (Some n) ≡ Some m → sort_at is_stored (slice_get es n) ≡ true)
        → sort_at is_stored (slice_get es n) ≡ true
    by true f g rest = subst (λ (o : Option ℕ). stands_as is_stored es o ≡ true) (same_of x.name.entity n f) a.0
    by false f g rest = rest g

-- those from outside have the first numbers
decl_within : (k : ℕ) (ds : List Declared) (n : ℕ) (m : Memory) → resolved_decls k ds ≡ ds → memory_in (map outside_memory ds) (Some n) ≡ Some m → (k ≤ n) × (n < k + length ds)
decl_within k [] n m e is = absurd (cc)
decl_within k (d ∷ ds) n m e is = by (same_entity d.name.entity (Some n)) refl is (λ h. decl_within (k + 1) ds n m behind h)
  where
    first : record { name = numbered k d.name; shape = d.shape; shape_places = d.shape_places } ≡ d
    first = cc

    behind : resolved_decls (k + 1) ds ≡ ds
    behind = cc

    is_first : Some k ≡ d.name.entity
    is_first = ap (λ (x : Declared). x.name.entity) first

    own : same_entity (Some k) (Some n) ≡ true → (k ≤ n) × (n < k + suc (length ds))
    own s = (grind (arith, nat_tests, s), grind (arith, nat_tests, s))

    by : (t : Bool) → same_entity d.name.entity (Some n) ≡ t → (if t then Some (outside_memory d) else memory_in (map outside_memory ds) (Some n)) ≡ Some m
        → (memory_in (map outside_memory ds) (Some n) ≡ Some m → (k + 1 ≤ n) × (n < k + 1 + length ds)) → (k ≤ n) × (n < k + suc (length ds))
    by true s h rest = own (ap (λ (o : Option ℕ). same_entity o (Some n)) is_first ∙ s)
    by false s h rest = let l = rest h in let f = l.0 in let u = l.1 in (omega (arith, f), omega (arith, u))

formals_on : (s : Scope) (fs : List Formal) → GoesOn s.entities (after_formals s fs).entities
formals_on s [] = same_on s.entities
formals_on s (f ∷ fs) =
    then_on s.entities (declare s f.name (formal_sort f.shape)).entities (after_formals (declare s f.name (formal_sort f.shape)) fs).entities (declared_on s f.name (formal_sort f.shape)) (formals_on (declare s f.name (formal_sort f.shape)) fs)

functions_on : (n : ℕ) (s : Scope) (fs : List Defined) → GoesOn s.entities (after_functions n s fs).entities
functions_on n s [] = same_on s.entities
functions_on n s (f ∷ fs) =
    then_on s.entities (after_function n s f).entities (after_functions (n + 1) (after_function n s f) fs).entities
    (then_on s.entities (body_start s f).entities (after_function n s f).entities (formals_on s f.parameters) (goes_on f.body (body_start s f)))
    (functions_on (n + 1) (after_function n s f) fs)

decl_sort : (ds : List Declared) (more : List Entity) (n : ℕ) → n < length ds → sort_at is_stored (slice_get (map (λ (d : Declared). entity d.name sort.Memory) ds ++ more) n) ≡ true
decl_sort [] more n l = absurd (omega (arith, l))
decl_sort (d ∷ ds) more zero l = refl
decl_sort (d ∷ ds) more (suc n) l = decl_sort ds more n (omega (arith, l))

module _ (p : Program) (ready : IsReady p) where
  last_on : GoesOn (first_scope p).entities p.entities
  last_on =
      subst (λ (es : List Entity). GoesOn (first_scope p).entities es) (ap (λ (x : Program). x.entities) ready.entities)
      (then_on (first_scope p).entities (body_scope p).entities (last_scope p).entities (functions_on (length p.decls) (first_scope p) p.functions) (goes_on p.body (body_scope p)))

  outside_stored : (n : ℕ) → n < length p.decls → sort_at is_stored (slice_get p.entities n) ≡ true
  outside_stored n l =
      ap (λ (es : List Entity). sort_at is_stored (slice_get es n)) (last_on.is ∙ append_assoc (map (λ (d : Declared). entity d.name sort.Memory) p.decls) (map (λ (f : Defined). entity f.name sort.Function) p.functions) last_on.more)
      ∙ decl_sort p.decls (map (λ (f : Defined). entity f.name sort.Function) p.functions ++ last_on.more) n l

  memory_stored : (n : ℕ) (m : Memory) → memory_in (memories_of p) (Some n) ≡ Some m → sort_at is_stored (slice_get p.entities n) ≡ true
  memory_stored n m e = by (either (map outside_memory p.decls) (locals p.body) e)
    where
      either : (ms ns : List Memory) → memory_in (ms ++ ns) (Some n) ≡ Some m → (memory_in ms (Some n) ≡ Some m) ⊎ (memory_in ns (Some n) ≡ Some m)
      either [] ns is = inr is
      either (x ∷ ms) ns is = one (same_entity x.name.entity (Some n)) is (λ h. either ms ns h)
        where
          one : (t : Bool) → (if t then Some x else memory_in (ms ++ ns) (Some n)) ≡ Some m
              → (memory_in (ms ++ ns) (Some n) ≡ Some m → (memory_in ms (Some n) ≡ Some m) ⊎ (memory_in ns (Some n) ≡ Some m))
              → ((if t then Some x else memory_in ms (Some n)) ≡ Some m) ⊎ (memory_in ns (Some n) ≡ Some m)
          one true h rest = inl h
          one false h rest = rest h

      by : (memory_in (map outside_memory p.decls) (Some n) ≡ Some m) ⊎ (memory_in (locals p.body) (Some n) ≡ Some m) → sort_at is_stored (slice_get p.entities n) ≡ true
      by (inl f) = let l = (decl_within 0 p.decls n m (ap (λ (x : Program). x.decls) ready.entities) f).1 in outside_stored n (omega (arith, l))
      by (inr f) = found_stored p.entities (locals p.body) n m (body_sorted p ready).stored f

pub memories_unbound : (p : Program) → IsReady p → (n : ℕ) (m : Memory) → memory_in (memories_of p) (Some n) ≡ Some m → binding_in (all_bindings_of p) n ≡ None
memories_unbound p ready n m e =
    let stored = memory_stored p ready n m e in
    let others = stored_there (slice_get p.entities n) stored in
    none_front (bindings_of p) (view_bindings p) n (none_bound p.entities n (bindings_of p) (body_sorted p ready).bound others.0)
    ∙ (none_front (map led_binding (ways_of p)) (hidden_bindings (length p.entities) (standings 0 p.body)) n
    (none_led p.entities n (memories_of p) (length p.entities) [] (standings 0 p.body) refl (body_sorted p ready).viewed others.1)
    ∙ none_hidden n (length p.entities) (standings 0 p.body) (stored_within p.entities n (slice_get p.entities n) refl stored))

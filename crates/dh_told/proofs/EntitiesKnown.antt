-- What a scene holds of each entity is what the program declares of it; counters are those of iterators.
use Rattle.std.proofs.Common.{◌≡◌, ◌⊎◌, inl, inr, ℕ, zero, suc, ◌+◌, ◌<◌, ◌≤◌, Bool, true, false, if◌then◌else◌, List, [], ◌∷◌, ◌++◌, length, map, Option, Some, None, refl, ap, sym, ◌∙◌, subst, arith}
use Rattle.std.specs.List.{AllByRecursion}
use Rattle.std.proofs.lemmas.Bool.{cases_lt}
use Rattle.std.proofs.lemmas.Bool.Decides.{nat_tests}
use Rattle.dh_tree.specs.declared.trees.counters.Counter.{Counter}
use Rattle.dh_tree.specs.declared.trees.expressions.Ref.{Ref}
use Rattle.dh_tree.specs.Counters.{counter_in, counters, counters_of, form_counters, groups_counters, other_counters, part_counters}
use Rattle.dh_tree.specs.Memories.{same_entity}
use Rattle.dh_tree.specs.PlainTrees.{Term, Action, action, ActionForm, lets, lets_memory, views, assigns, stores, reduces, calls, blocks, decides, repeats, counts, MaybeAction, no_action, one_action, Actions, no_actions, action_then, Groups, no_groups, group_then, Program}
use Rattle.dh_tree.specs.Resolved.{HasEntities}
use Rattle.dh_tree.specs.Scopes.{body_scope}
use Rattle.dh_tree.specs.Seen.{program_seen}
use Rattle.dh_tree.specs.ViewOffsets.{offsets_of}
use Rattle.dh_meaning.specs.Bindings.{Binding, binding_in, bindings_of, depth_inside, kind_bound}
use Rattle.dh_meaning.specs.CoreOf.{entity_number}
use Rattle.dh_meaning.specs.Ways.{Led, ViewSite, all_bindings_of, all_entities_of, behind_all, behind_hidden, hidden_binding, hidden_bindings, hidden_from, hidden_of, led_binding, standings, view_bindings, ways_of}
use Rattle.dh_code.specs.declared.places.VariableSlots.{VariableSlots}
use Rattle.dh_code.specs.Declarations.{Declaration, all_declarations_of, all_held, declaration_in, declared_factors, placing_of}
use Rattle.dh_code.specs.Ranks.{copies_in}
use Rattle.dh_code.specs.Slots.{held_at, held_nowhere}
use Rattle.dh_code.specs.Placed.{IsNamedBelow}
use Rattle.dh_code.proofs.HiddenPlaced.{kinds_all}
use Rattle.dh_ways.specs.HiddenVariables.{hidden_variables}
use Rattle.dh_ways.proofs.HiddenApart.{are_counted}
use Rattle.dh_runnable.proofs.ProgramsRun.{ready_runs}
use Rattle.dh_sound.specs.LoopsDeclared.{IsFoundWith}
use Rattle.dh_sound.specs.SameKeys.{IsNoIterator}
use Rattle.dh_sound.proofs.DepthsNamed.{AllBelow, IsBelow, Deep, FormDeep, GroupsDeep, OtherDeep, PartDeep, all_below, all_more, deep, is_absent}
use Rattle.dh_told.specs.ScenesKnown.{ReadyScenesTell}

-- Kinds.

held_past : (ds : List Declaration) (count from n e : ℕ) → n ≤ e → held_at (all_held ds count from n) e ≡ held_nowhere
held_past ds count from zero e l = refl
held_past ds count from (suc n) zero l = absurd (none n l)
  where
    none : (n : ℕ) → suc n ≤ 0 → ⊥
    none n l = omega (arith, l)
held_past ds count from (suc n) (suc e) l = held_past ds (count + copies_in (declared_factors (declaration_in ds from))) (suc from) n e (less n e l)
  where
    less : (a b : ℕ) → suc a ≤ suc b → a ≤ b
    less a b e = omega (arith, e)

none_bound : (n e : ℕ) (bs : List Binding) → n ≤ e → AllBelow n bs → binding_in bs e ≡ None
none_bound n e [] l h = refl
none_bound n e (b ∷ bs) l h =
    ap (λ (t : Bool). if t then Some b else binding_in bs e) (is_absent e b.entity (all_more n e (b ∷ []) l (h.0, tt)).0) ∙ none_bound n e bs l h.1

-- all names have numbers below those of all entities, those of views and of variables that keep offsets among them
below_both : (n : ℕ) (xs ys : List Binding) → AllBelow n xs → AllBelow n ys → AllBelow n (xs ++ ys)
below_both n [] ys h k = k
below_both n (x ∷ xs) ys h k = (h.0, below_both n xs ys h.1 k)

led_below : (n m : ℕ) (ls : List Led) → n ≤ m → AllByRecursion (λ (l : Led). IsNamedBelow n l.entity) ls → AllBelow m (map led_binding ls)
led_below n m [] le h = tt
led_below n m (l ∷ ls) le h = (by l.entity h.0, led_below n m ls le h.1)
  where
    by : (o : Option ℕ) → IsNamedBelow n o → IsBelow m o
    by None k = tt
    by (Some e) k = omega (arith, le, k)

hidden_below : (first m : ℕ) (ss : List ViewSite) → behind_all first ss ≤ m → AllBelow m (hidden_bindings first ss)
hidden_below first m [] le = tt
hidden_below first m (s ∷ ss) le =
    below_both m (map hidden_binding (hidden_of first s)) (hidden_bindings (behind_hidden first s) ss)
    (own first (offsets_of s.form) (least (behind_hidden first s) (behind_all (behind_hidden first s) ss) (grows (behind_hidden first s) ss) le)) (hidden_below (behind_hidden first s) m ss le)
  where
    least : (a b : ℕ) → a ≤ b → b ≤ m → a ≤ m
    least a b l k = omega (arith, l, k)

    grows : (n : ℕ) (rest : List ViewSite) → n ≤ behind_all n rest
    grows n [] = omega arith
    grows n (r ∷ rest) = let later = grows (behind_hidden n r) rest in more n (length (offsets_of r.form)) (behind_all (behind_hidden n r) rest) later
      where
        more : (a b c : ℕ) → a + b ≤ c → a ≤ c
        more a b c l = omega (arith, l)

    own : (n : ℕ) (ts : List Term) → n + length ts ≤ m → AllBelow m (map hidden_binding (hidden_from n s.depth ts))
    own n [] l = tt
    own n (t ∷ ts) l = (there n (length ts) l, own (suc n) ts (next n (length ts) l))
      where
        there : (a b : ℕ) → a + suc b ≤ m → a < m
        there a b k = omega (arith, k)

        next : (a b : ℕ) → a + suc b ≤ m → suc a + b ≤ m
        next a b k = omega (arith, k)

kind_known : (p : Program) → HasEntities p → AllByRecursion (λ (l : Led). IsNamedBelow (length p.entities) l.entity) (ways_of p) → (e : ℕ) → (held_at (placing_of p).held e).kind ≡ kind_bound (binding_in (all_bindings_of p) e)
kind_known p h named e = by (cases_lt e (all_entities_of p))
  where
    more : length p.entities ≤ all_entities_of p
    more = least (length p.entities) (all_entities_of p) (length (hidden_variables p)) (are_counted p)
      where
        least : (a b c : ℕ) → b ≡ a + c → a ≤ b
        least a b c f = omega (arith, f)

    own : AllBelow (length p.entities) (bindings_of p)
    own = subst (λ (n : ℕ). AllBelow n (bindings_of p)) (ap (λ (x : Program). length x.entities) h) (all_below p.body (body_scope p) 0 (ap (λ (x : Program). x.body) h))

    same : (n : ℕ) → n ≤ n
    same n = omega arith

    all : AllBelow (all_entities_of p) (all_bindings_of p)
    all = below_both (all_entities_of p) (bindings_of p) (view_bindings p) (all_more (length p.entities) (all_entities_of p) (bindings_of p) more own)
        (below_both (all_entities_of p) (map led_binding (ways_of p)) (hidden_bindings (length p.entities) (standings 0 p.body)) (led_below (length p.entities) (all_entities_of p) (ways_of p) more named)
        (hidden_below (length p.entities) (all_entities_of p) (standings 0 p.body) (same (all_entities_of p))))

    by : (e < all_entities_of p) ⊎ (all_entities_of p ≤ e) → (held_at (placing_of p).held e).kind ≡ kind_bound (binding_in (all_bindings_of p) e)
    by (inl l) = kinds_all p named e l
    by (inr l) = ap (λ (x : VariableSlots). x.kind) (held_past (all_declarations_of p) 0 0 (all_entities_of p) e l) ∙ ap kind_bound (sym (none_bound (all_entities_of p) e (all_bindings_of p) l all))

-- Iterators.

-- the first variable with this number iterates
record Iterates (bs : List Binding) (e : ℕ) : Type 0 where
  pub binding : Binding
  pub bound : binding_in bs e ≡ Some binding
  pub factor : ℕ
  pub iterates : binding.iterates ≡ Some factor

same_number : (o : Option ℕ) (e : ℕ) → same_entity o (Some e) ≡ true → entity_number o ≡ e
same_number None e h = absurd cc
same_number (Some m) e h = grind (arith, nat_tests, h)

or_first : (t : Bool) (x : Counter) (rest more : Option Counter) (c : Counter) (Y : Type 0) → (if t then Some x else rest) ≡ Some c → (rest ≡ Some c → (more ≡ Some c) ⊎ Y) → ((if t then Some x else more) ≡ Some c) ⊎ Y
or_first true x rest more c Y h f = inl h
or_first false x rest more c Y h f = f h

-- a counter among those of two lists
of_either : (xs ys : List Counter) (o : Option ℕ) (c : Counter) → counter_in (xs ++ ys) o ≡ Some c → (counter_in xs o ≡ Some c) ⊎ (counter_in ys o ≡ Some c)
of_either [] ys o c h = inr h
of_either (x ∷ xs) ys o c h = or_first (same_entity x.entity o) x (counter_in (xs ++ ys) o) (counter_in xs o) c (counter_in ys o ≡ Some c) h (λ g. of_either xs ys o c g)

either : {X Y Z : Type 0} → X ⊎ Y → (X → Z) → (Y → Z) → Z
either (inl x) f g = f x
either (inr y) f g = g y

module _ (bs : List Binding) (e : ℕ) (c : Counter) where
  own_or : (iterator : Ref) (depth factor : ℕ) (x : Counter) (rest : Option Counter) → IsFoundWith bs iterator depth factor → (t : Bool) → same_entity iterator.entity (Some e) ≡ t → (if t then Some x else rest) ≡ Some c
      → (rest ≡ Some c → Iterates bs e) → Iterates bs e
  own_or iterator depth factor x rest h true same at f =
      record { binding = h.binding; bound = subst (λ (n : ℕ). binding_in bs n ≡ Some h.binding) (same_number iterator.entity e same) h.bound; factor = factor; iterates = h.iterates }
  own_or iterator depth factor x rest h false same at f = f at

  mutual
    iterates_in : (a : Action) (d : ℕ) → Deep bs d a → counter_in (counters a) (Some e) ≡ Some c → Iterates bs e
    iterates_in (action id place form) d h at = iterates_form form d h at

    iterates_form : (f : ActionForm) (d : ℕ) → FormDeep bs d f → counter_in (form_counters f) (Some e) ≡ Some c → Iterates bs e
    iterates_form (lets name declared value) d h at = absurd cc
    iterates_form (lets_memory name shape shape_places value) d h at = absurd cc
    iterates_form (views name parent form) d h at = absurd cc
    iterates_form (assigns target value) d h at = absurd cc
    iterates_form (stores target value) d h at = absurd cc
    iterates_form (reduces target o value) d h at = absurd cc
    iterates_form (calls function arguments) d h at = absurd cc
    iterates_form (blocks body) d h at = iterates_groups body d h at
    iterates_form (decides test chosen other) d h at =
        either (of_either (counters chosen) (other_counters other) (Some e) c at) (λ g. iterates_in chosen d h.0 g) (λ g. iterates_other other d h.1 g)
    iterates_form (repeats test body) d h at = iterates_in body d h at
    iterates_form (counts iterator declared low high factor body combine combine_place) d h at =
        own_or iterator (depth_inside d factor.value) factor.value (record { entity = iterator.entity; low = low.value; high = high.value; factor = factor.value })
        (counter_in (counters body ++ other_counters combine) (Some e)) h.0 (same_entity iterator.entity (Some e)) refl at
        (λ k. either (of_either (counters body) (other_counters combine) (Some e) c k) (λ g. iterates_in body (depth_inside d factor.value) h.1.0 g) (λ g. iterates_other combine (depth_inside d factor.value) h.1.1 g))

    iterates_other : (m : MaybeAction) (d : ℕ) → OtherDeep bs d m → counter_in (other_counters m) (Some e) ≡ Some c → Iterates bs e
    iterates_other no_action d h at = absurd cc
    iterates_other (one_action a) d h at = iterates_in a d h at

    iterates_groups : (gs : Groups) (d : ℕ) → GroupsDeep bs d gs → counter_in (groups_counters gs) (Some e) ≡ Some c → Iterates bs e
    iterates_groups no_groups d h at = absurd cc
    iterates_groups (group_then part rest) d h at =
        either (of_either (part_counters part) (groups_counters rest) (Some e) c at) (λ g. iterates_part part d h.0 g) (λ g. iterates_groups rest d h.1 g)

    iterates_part : (part : Actions) (d : ℕ) → PartDeep bs d part → counter_in (part_counters part) (Some e) ≡ Some c → Iterates bs e
    iterates_part no_actions d h at = absurd cc
    iterates_part (action_then a rest) d h at =
        either (of_either (counters a) (part_counters rest) (Some e) c at) (λ g. iterates_in a d h.0 g) (λ g. iterates_part rest d h.1 g)

body_deep : (p : Program) → HasEntities p → Deep (bindings_of p) 0 p.body
body_deep p h = deep (bindings_of p) p.body (body_scope p) 0 [] [] (ap (λ (x : Program). x.body) h) (append_none (bindings_of p)) tt
  where
    append_none : (bs : List Binding) → bs ≡ bs ++ []
    append_none [] = refl
    append_none (b ∷ bs) = ap (λ l. b ∷ l) (append_none bs)

-- the program's own names come first
found_first : (bs more : List Binding) (e : ℕ) (b : Binding) → binding_in bs e ≡ Some b → binding_in (bs ++ more) e ≡ Some b
found_first [] more e b h = absurd cc
found_first (x ∷ bs) more e b h = by (same_entity x.entity (Some e)) h (found_first bs more e b)
  where
    by : (t : Bool) → (if t then Some x else binding_in bs e) ≡ Some b → (binding_in bs e ≡ Some b → binding_in (bs ++ more) e ≡ Some b) → (if t then Some x else binding_in (bs ++ more) e) ≡ Some b
    by true g later = g
    by false g later = later g

-- what is no iterator has no counter
no_counter : (p : Program) → HasEntities p → (e : ℕ) → IsNoIterator (binding_in (all_bindings_of p) e) → counter_in (counters_of p) (Some e) ≡ None
no_counter p h e plain = by (counter_in (counters_of p) (Some e)) refl
  where
    differ : (b : Binding) (factor : ℕ) → IsNoIterator (Some b) → b.iterates ≡ Some factor → ⊥
    differ b factor none some = let f : None ≡ Some factor = sym none ∙ some in cc

    by : (o : Option Counter) → counter_in (counters_of p) (Some e) ≡ o → counter_in (counters_of p) (Some e) ≡ None
    by None at = at
    by (Some c) at =
        let i = iterates_in (bindings_of p) e c p.body 0 (body_deep p h) at in
        absurd (differ i.binding i.factor (subst (λ (o : Option Binding). IsNoIterator o) (found_first (bindings_of p) (view_bindings p) e i.binding i.bound) plain) i.iterates)

-- The scene.

pub scenes_tell : ReadyScenesTell
scenes_tell scene count ready order ways = record {
  long = ap (λ (held : List VariableSlots). length held) order.held;
  depth = λ e. ap (λ (held : List VariableSlots). (held_at held e).depth) order.held;
  kind = λ e. ap (λ (held : List VariableSlots). (held_at held e).kind) order.held ∙ kind_known (program_seen scene.program.now) ready.entities (ready_runs (program_seen scene.program.now) ready).named e;
  plain = λ e none. no_counter (program_seen scene.program.now) ready.entities e none;
  ways = ways;
}

-- Where variables are declared, one behind the other.
use Rattle.std.proofs.Common.{◌≡◌, ℕ, zero, suc, ◌+◌, ◌<◌, ◌==◌, nat_lt, min, Bool, true, false, if◌then◌else◌, List, [], ◌∷◌, ◌++◌, length, map, drop, refl, ap, sym, ◌∙◌, arith}
use mathlib.Core.Path.{fun_ext}
use Rattle.std.specs.Prelude.{Option, Some, None, option_map, slice_get, slice_set}
use Rattle.std.proofs.lemmas.Bool.{ne_eqb, eqb-true}
use Rattle.std.proofs.lemmas.Bool.Decides.{nat_tests}
use Rattle.std.proofs.lemmas.Option.{get_or_from_slice_get, same_Some}
use Rattle.dh_tree.specs.Memories.{same_entity}
use Rattle.dh_tree.specs.PlainTrees.{Action, action, ActionForm, lets, lets_memory, views, assigns, stores, reduces, calls, blocks, decides, repeats, counts, MaybeAction, no_action, one_action, Actions, no_actions, action_then, Groups, no_groups, group_then}
use Rattle.dh_meaning.specs.Bindings.{Binding, binding_in, depth_inside, bindings, form_bindings, other_bindings, groups_bindings, part_bindings}
use Rattle.dh_meaning.specs.Ways.{hidden_binding, led_binding}
use Rattle.dh_ways.specs.declared.ways.Hidden.{Hidden}
use Rattle.dh_ways.specs.Kept.{KeptLed, KeptWay}
use Rattle.dh_ways.specs.Linked.{way_there}
use Rattle.dh_ways.specs.Seen.{hidden_seen, led_seen}
use Rattle.dh_ways.proofs.LinksTold.{stands_in}
use Rattle.dh_events.specs.declared.dependence.Scope.{Scope}
use Rattle.dh_events.specs.Scopes.{most_depth, scope, scope_of, scope_found, scope_at, or_scope, with_scope, told_inside, hidden_scopes, led_scopes, scopes_in, form_scopes, other_scopes, groups_scopes, part_scopes, AreScopes, IsDepth}
use Rattle.dh_events.proofs.Turns.{at_item}

absurd : {A : Type 0} → ⊥ → A
absurd e = elim e [ ]

-- a variable that is not declared is found where nothing is
none_more : (xs : List (Option Scope)) (n : ℕ) → scope_found (slice_get (xs ++ None ∷ []) n) ≡ scope_found (slice_get xs n)
none_more [] zero = refl
none_more [] (suc n) = refl
none_more (x ∷ xs) zero = refl
none_more (x ∷ xs) (suc n) = none_more xs n

pub nones_more : (xs : List (Option Scope)) → scope_at (xs ++ None ∷ []) ≡ scope_at xs
nones_more xs = fun_ext (λ n. none_more xs n)

same_test : (p n : ℕ) → (p == n) ≡ (suc p == suc n)
same_test p n = grind (arith, nat_tests)

-- a place that is set, where nothing stood
set_one : (xs : List (Option Scope)) (place : ℕ) (s : Scope) (n : ℕ) → place < length xs → scope_found (slice_get xs place) ≡ None
    → scope_found (slice_get (slice_set xs place (Some s)) n) ≡ (if place == n then or_scope (scope_found (slice_get xs n)) s else scope_found (slice_get xs n))
set_one [] place s n e free = absurd (none place e)
  where
    none : (p : ℕ) → p < 0 → ⊥
    none p e = omega (arith, e)
set_one (x ∷ xs) zero s zero e free = ap (λ o. or_scope o s) (sym free)
set_one (x ∷ xs) zero s (suc n) e free = ap (λ (b : Bool). if b then or_scope (scope_found (slice_get xs n)) s else scope_found (slice_get xs n)) (sym (ne_eqb 0 (suc n) (λ f. omega (arith, f))))
set_one (x ∷ xs) (suc p) s zero e free = ap (λ (b : Bool). if b then or_scope x s else x) (sym (ne_eqb (suc p) 0 (λ f. omega (arith, f))))
set_one (x ∷ xs) (suc p) s (suc n) e free =
    set_one xs p s n (less_one p (length xs) e) free ∙ ap (λ (b : Bool). if b then or_scope (scope_found (slice_get xs n)) s else scope_found (slice_get xs n)) (same_test p n)
  where
    less_one : (p n : ℕ) → suc p < suc n → p < n
    less_one p n e = omega (arith, e)

pub scope_set : (xs : List (Option Scope)) (place : ℕ) (s : Scope) → place < length xs → scope_at xs place ≡ None → scope_at (slice_set xs place (Some s)) ≡ with_scope (scope_at xs) (Some place) s
scope_set xs place s within free = fun_ext (λ n. set_one xs place s n within free)

-- a variable that is declared keeps its place
pub scope_kept : (f : ℕ → Option Scope) (place : ℕ) (s t : Scope) → f place ≡ Some s → f ≡ with_scope f (Some place) t
scope_kept f place s t e = fun_ext (λ n. by n (place == n) refl)
  where
    kept : (o : Option Scope) → o ≡ Some s → o ≡ or_scope o t
    kept None g = cc
    kept (Some z) g = refl

    by : (n : ℕ) (b : Bool) → (place == n) ≡ b → f n ≡ (if b then or_scope (f n) t else f n)
    by n false g = refl
    by n true g = kept (f n) (ap f (sym (eqb-true place n g)) ∙ e)

-- variables behind others
abbrev declared : List Binding → (ℕ → Option Scope) → ℕ → Option Scope
declared [] f = f
declared (b ∷ bs) f = declared bs (with_scope f b.entity (scope (min b.depth most_depth) b.iterates))

declared_append : (xs ys : List Binding) (f : ℕ → Option Scope) → declared (xs ++ ys) f ≡ declared ys (declared xs f)
declared_append [] ys f = refl
declared_append (x ∷ xs) ys f = declared_append xs ys (with_scope f x.entity (scope (min x.depth most_depth) x.iterates))

-- what stood before, or else this
over : Option Scope → Option Scope → Option Scope
over None o = o
over (Some s) o = Some s

over_none : (o : Option Scope) → o ≡ over o None
unfolding over
over_none None = refl
over_none (Some s) = refl

first_over : (s : Scope) (y : Option Binding) (b : Binding) (t : Bool) (o : Option Scope) → s ≡ scope (min b.depth most_depth) b.iterates
    → over (if t then or_scope o s else o) (scope_of y) ≡ over o (scope_of (if t then Some b else y))
unfolding over
first_over s y b true None e = ap Some e
first_over s y b true (Some z) e = refl
first_over s y b false o e = refl

with_over : (f : ℕ → Option Scope) (b : Binding) (bs : List Binding) (e : ℕ) (entity : Option ℕ)
    → over (with_scope f entity (scope (min b.depth most_depth) b.iterates) e) (scope_of (binding_in bs e)) ≡ over (f e) (scope_of (if same_entity entity (Some e) then Some b else binding_in bs e))
with_over f b bs e None = refl
with_over f b bs e (Some place) = first_over (scope (min b.depth most_depth) b.iterates) (binding_in bs e) b (place == e) (f e) refl

declared_is : (bs : List Binding) (f : ℕ → Option Scope) (e : ℕ) → declared bs f e ≡ over (f e) (scope_of (binding_in bs e))
declared_is [] f e = over_none (f e)
declared_is (b ∷ bs) f e = declared_is bs (with_scope f b.entity (scope (min b.depth most_depth) b.iterates)) e ∙ with_over f b bs e b.entity

-- Depths.

more_told : (t d : ℕ) → t ≡ min d most_depth → min (t + 1) most_depth ≡ min (suc d) most_depth
more_told t d e = grind (arith, e)

inside_told : (told depth factor : ℕ) → IsDepth told depth → IsDepth (told_inside told factor) (depth_inside depth factor)
inside_told told depth factor e = by (nat_lt 1 factor)
  where
    by : (b : Bool) → IsDepth (if b then min (told + 1) most_depth else told) (if b then suc depth else depth)
    by true = more_told told depth e
    by false = e

mutual
  scoped : (told d : ℕ) (a : Action) (f : ℕ → Option Scope) → IsDepth told d → scopes_in told a f ≡ declared (bindings d a) f
  scoped told d (action id place form) f e = form_scoped told d form f e

  form_scoped : (told d : ℕ) (form : ActionForm) (f : ℕ → Option Scope) → IsDepth told d → form_scopes told form f ≡ declared (form_bindings d form) f
  form_scoped told d (lets name kind value) f e = ap (λ n. with_scope f name.entity (scope n None)) e
  form_scoped told d (lets_memory name shape shape_places value) f e = refl
  form_scoped told d (views name parent form) f e = refl
  form_scoped told d (assigns target value) f e = refl
  form_scoped told d (stores target value) f e = refl
  form_scoped told d (reduces target op value) f e = refl
  form_scoped told d (calls function arguments) f e = refl
  form_scoped told d (blocks body) f e = groups_scoped told d body f e
  form_scoped told d (decides test chosen other) f e =
      ap (other_scopes told other) (scoped told d chosen f e) ∙ (other_scoped told d other (declared (bindings d chosen) f) e ∙ sym (declared_append (bindings d chosen) (other_bindings d other) f))
  form_scoped told d (repeats test body) f e = scoped told d body f e
  form_scoped told d (counts iterator declaring low high factor body combine combine_place) f e =
      let h = inside_told told d factor.value e in
      let g = with_scope f iterator.entity (scope (min (depth_inside d factor.value) most_depth) (Some factor.value)) in
      ap (λ n. other_scopes (told_inside told factor.value) combine (scopes_in (told_inside told factor.value) body (with_scope f iterator.entity (scope n (Some factor.value))))) h
      ∙ (ap (other_scopes (told_inside told factor.value) combine) (scoped (told_inside told factor.value) (depth_inside d factor.value) body g h)
      ∙ (other_scoped (told_inside told factor.value) (depth_inside d factor.value) combine (declared (bindings (depth_inside d factor.value) body) g) h
      ∙ sym (declared_append (bindings (depth_inside d factor.value) body) (other_bindings (depth_inside d factor.value) combine) g)))

  other_scoped : (told d : ℕ) (o : MaybeAction) (f : ℕ → Option Scope) → IsDepth told d → other_scopes told o f ≡ declared (other_bindings d o) f
  other_scoped told d no_action f e = refl
  other_scoped told d (one_action a) f e = scoped told d a f e

  groups_scoped : (told d : ℕ) (body : Groups) (f : ℕ → Option Scope) → IsDepth told d → groups_scopes told body f ≡ declared (groups_bindings d body) f
  groups_scoped told d no_groups f e = refl
  groups_scoped told d (group_then part rest) f e =
      ap (groups_scopes told rest) (part_scoped told d part f e) ∙ (groups_scoped told d rest (declared (part_bindings d part) f) e ∙ sym (declared_append (part_bindings d part) (groups_bindings d rest) f))

  part_scoped : (told d : ℕ) (part : Actions) (f : ℕ → Option Scope) → IsDepth told d → part_scopes told part f ≡ declared (part_bindings d part) f
  part_scoped told d no_actions f e = refl
  part_scoped told d (action_then a rest) f e =
      ap (part_scopes told rest) (scoped told d a f e) ∙ (part_scoped told d rest (declared (bindings d a) f) e ∙ sym (declared_append (bindings d a) (part_bindings d rest) f))

nothing : (o : Option Scope) → over None o ≡ o
unfolding over
nothing o = refl

led_declared : (ls : List KeptLed) (f : ℕ → Option Scope) → led_scopes ls f ≡ declared (map led_binding (map led_seen ls)) f
led_declared [] f = refl
led_declared (l ∷ ls) f = led_declared ls (with_scope f l.entity (scope (min l.way.deepest most_depth) None))

hidden_declared : (hs : List Hidden) (f : ℕ → Option Scope) → hidden_scopes hs f ≡ declared (map hidden_binding (map hidden_seen hs)) f
hidden_declared [] f = refl
hidden_declared (h ∷ hs) f = hidden_declared hs (with_scope f (Some h.entity) (scope (min h.depth most_depth) None))

-- one more view, and one more of what they keep
pub led_turn : (rest all : List KeptLed) (l : KeptLed) (f g : ℕ → Option Scope) (depth : ℕ) (total : ℕ → Option Scope) → rest ≡ l ∷ all → depth ≡ min l.way.deepest most_depth → g ≡ with_scope f l.entity (scope depth None) → led_scopes rest f ≡ total
    → led_scopes all g ≡ total
led_turn rest all l f g depth total is told noted before = ap (led_scopes all) (noted ∙ ap (λ n. with_scope f l.entity (scope n None)) told) ∙ (ap (λ ls. led_scopes ls f) (sym is) ∙ before)

-- by the place of a view, its entity and its way
pub place_turn : (ls : List KeptLed) (place : ℕ) (entity : Option ℕ) (w : KeptWay) (f g : ℕ → Option Scope) (deepest depth : ℕ) (total : ℕ → Option Scope) → place < length ls → Some entity ≡ option_map (λ (l : KeptLed). l.entity) (slice_get ls place) → Some w ≡ way_there ls (Some place)
    → deepest ≡ w.deepest → depth ≡ min deepest most_depth → g ≡ with_scope f entity (scope depth None) → led_scopes (drop place ls) f ≡ total → led_scopes (drop (place + 1) ls) g ≡ total
place_turn ls place entity w f g deepest depth total inside named there deep told noted before =
    let at = stands_in ls place inside in
    let entity_is : entity ≡ at.item.entity = same_Some entity at.item.entity (named ∙ ap (option_map (λ (l : KeptLed). l.entity)) at.there) in
    let way_is : w ≡ at.item.way = same_Some w at.item.way (there ∙ ap (option_map (λ (l : KeptLed). l.way)) at.there) in
    led_turn (drop place ls) (drop (place + 1) ls) at.item f g depth total (at_item ls place at.item inside (sym (get_or_from_slice_get ls place at.item at.item at.there)))
    (told ∙ ap (λ n. min n most_depth) (deep ∙ ap (λ (x : KeptWay). x.deepest) way_is)) (noted ∙ ap (λ e. with_scope f e (scope depth None)) entity_is) before

pub hidden_turn : (rest all : List Hidden) (h : Hidden) (f g : ℕ → Option Scope) (depth : ℕ) (total : ℕ → Option Scope) → rest ≡ h ∷ all → depth ≡ min h.depth most_depth → g ≡ with_scope f (Some h.entity) (scope depth None)
    → hidden_scopes rest f ≡ total → hidden_scopes all g ≡ total
hidden_turn rest all h f g depth total is told noted before = ap (hidden_scopes all) (noted ∙ ap (λ n. with_scope f (Some h.entity) (scope n None)) told) ∙ (ap (λ hs. hidden_scopes hs f) (sym is) ∙ before)

-- what is noted of a body from nothing, and of views and what they keep behind it
module _ (a : Action) (ls : List KeptLed) (hs : List Hidden) (none s1 s2 s3 : List (Option Scope)) (empty : none ≡ []) (first : scope_at s1 ≡ scopes_in 0 a (scope_at none)) (second : scope_at s2 ≡ led_scopes ls (scope_at s1))
    (third : scope_at s3 ≡ hidden_scopes hs (scope_at s2)) where
  abbrev of_led : List Binding
  of_led = map led_binding (map led_seen ls)

  abbrev of_hidden : List Binding
  of_hidden = map hidden_binding (map hidden_seen hs)

  all_declared : scope_at s3 ≡ declared (bindings 0 a ++ (of_led ++ of_hidden)) (scope_at [])
  all_declared =
      third
      ∙ (ap (hidden_scopes hs) (second ∙ (ap (led_scopes ls) (first ∙ (ap (λ l. scopes_in 0 a (scope_at l)) empty ∙ scoped 0 0 a (scope_at []) refl)) ∙ led_declared ls (declared (bindings 0 a) (scope_at []))))
      ∙ (hidden_declared hs (declared of_led (declared (bindings 0 a) (scope_at [])))
      ∙ sym (declared_append (bindings 0 a) (of_led ++ of_hidden) (scope_at []) ∙ declared_append of_led of_hidden (declared (bindings 0 a) (scope_at [])))))

  pub are_scopes : AreScopes (bindings 0 a ++ (of_led ++ of_hidden)) s3
  are_scopes e =
      sym (ap (λ f. f e) all_declared ∙ (declared_is (bindings 0 a ++ (of_led ++ of_hidden)) (scope_at []) e ∙ nothing (scope_of (binding_in (bindings 0 a ++ (of_led ++ of_hidden)) e))))

-- what is noted in a loop
pub loop_noted : (told inside factor : ℕ) (entity : Option ℕ) (body : Action) (combine : MaybeAction) (f g h w : ℕ → Option Scope) → inside ≡ told_inside told factor
    → g ≡ with_scope f entity (scope (told_inside told factor) (Some factor)) → h ≡ scopes_in inside body g → w ≡ other_scopes inside combine h
    → w ≡ other_scopes (told_inside told factor) combine (scopes_in (told_inside told factor) body (with_scope f entity (scope (told_inside told factor) (Some factor))))
loop_noted told inside factor entity body combine f g h w e x y z =
    z ∙ (ap (other_scopes inside combine) (y ∙ ap (scopes_in inside body) x) ∙ ap (λ n. other_scopes n combine (scopes_in n body (with_scope f entity (scope (told_inside told factor) (Some factor))))) e)

-- Views and what they keep are found where they are declared. No variable is a view, since each has an entity of one sort;
-- and the variables in which views keep their offsets are numbered behind all names, one behind the other.
use Rattle.std.proofs.Common.{◌≡◌, ℕ, suc, ◌<◌, ◌≤◌, Bool, true, false, if◌then◌else◌, List, [], ◌∷◌, ◌++◌, length, map, Option, Some, None, refl, sym, ◌∙◌, ap, subst, arith}
use Rattle.std.specs.Prelude.{slice_get}
use Rattle.std.specs.List.{AllByRecursion}
use Rattle.std.proofs.lemmas.Bool.{eqb-true}
use Rattle.std.proofs.lemmas.Bool.Decides.{nat_tests}
use Rattle.std.proofs.lemmas.List.{map-append}
use Rattle.std.proofs.lemmas.Option.{slice_get_within}
use Rattle.dh_tree.specs.declared.tables.Shape.{Shape}
use Rattle.dh_tree.specs.declared.trees.programs.Entity.{Entity}
use Rattle.dh_tree.specs.declared.trees.programs.Sort.{Sort}
use Rattle.dh_tree.specs.declared.trees.programs.Sort.TheVariants as sort
use Rattle.dh_tree.specs.declared.viewing.ViewMap.{ViewMap}
use Rattle.dh_tree.specs.Memories.{Memory, memory_in, memories_of, same_entity}
use Rattle.dh_tree.specs.PlainTrees.{Program}
use Rattle.dh_tree.specs.Ready.{IsReady}
use Rattle.dh_tree.specs.Views.{map_of}
use Rattle.dh_meaning.specs.Bindings.{Binding, binding_in, bindings_of, depth_bound}
use Rattle.dh_meaning.specs.Ways.{Hidden, Led, ViewSite, Way, all_bindings_of, behind_hidden, hidden_binding, hidden_bindings, hidden_in, hidden_of, led_after, led_behind, led_binding, led_of, shape_named, standings, view_bindings, way_at, way_behind, way_in, way_to, way_unless, ways_of}
use Rattle.dh_ways.specs.HiddenVariables.{all_hidden, hidden_variables, numbers_from}
use Rattle.dh_ways.proofs.HiddenApart.{are_numbered}
use Rattle.dh_sound.specs.ViewsBound.{IsBoundTo, ViewsBound}
use Rattle.dh_sound.proofs.SortedNames.{AllBound, AllViewed, body_sorted, is_bound, is_viewed, sort_at, stands_as}
use Rattle.dh_sound.proofs.ViewsBefore.{unless_hidden, way_hidden}

-- Entities.

same_of : (o : Option ℕ) (n : ℕ) → same_entity o (Some n) ≡ true → o ≡ Some n
same_of None n e = absurd cc
same_of (Some m) n e = ap Some (eqb-true m n e)

there : (n : ℕ) → same_entity (Some n) (Some n) ≡ true
there n = grind (arith, nat_tests)

pub lower : (m n : ℕ) → m < n → same_entity (Some m) (Some n) ≡ false
lower m n l = grind (arith, nat_tests, l)

-- a view is no variable
apart_sorts : (k : Sort) → is_viewed k ≡ true → is_bound k ≡ false
apart_sorts sort.Variable e = absurd cc
apart_sorts sort.Iterator e = absurd cc
apart_sorts sort.Memory e = refl
apart_sorts sort.View e = refl
apart_sorts sort.Function e = refl

apart_there : (o : Option Entity) → sort_at is_viewed o ≡ true → sort_at is_bound o ≡ false
apart_there None e = refl
apart_there (Some x) e = apart_sorts x.sort e

-- behind all entities there is none
past_all : (test : Sort → Bool) (es : List Entity) (n : ℕ) → length es ≤ n → sort_at test (slice_get es n) ≡ false
past_all test es n l = by (slice_get es n) refl
  where
    by : (o : Option Entity) → slice_get es n ≡ o → sort_at test (slice_get es n) ≡ false
    by None e = ap (sort_at test) e
    by (Some x) e = absurd (let k = slice_get_within es n x e in omega (arith, k, l))

-- what stands as something else is another
pub another : (test : Sort → Bool) (es : List Entity) (o : Option ℕ) (n : ℕ) → stands_as test es o ≡ true → sort_at test (slice_get es n) ≡ false → same_entity o (Some n) ≡ false
another test es o n h e = by (same_entity o (Some n)) refl
  where
    by : (t : Bool) → same_entity o (Some n) ≡ t → same_entity o (Some n) ≡ false
    by false f = f
    by true f = let k : sort_at test (slice_get es n) ≡ true = subst (λ (x : Option ℕ). stands_as test es x ≡ true) (same_of o n f) h in absurd cc

module _ (es : List Entity) where
  none_bound : (n : ℕ) (bs : List Binding) → AllBound es bs → sort_at is_bound (slice_get es n) ≡ false → binding_in bs n ≡ None
  none_bound n [] a e = refl
  none_bound n (b ∷ bs) a e = ap (λ t. if t then Some b else binding_in bs n) (another is_bound es b.entity n a.0 e) ∙ none_bound n bs a.1 e

  abbrev LedViewed : List Led → Type 0
  LedViewed ls = AllByRecursion (λ (l : Led). stands_as is_viewed es l.entity ≡ true) ls

  none_led : (n : ℕ) (ls : List Led) → LedViewed ls → sort_at is_viewed (slice_get es n) ≡ false → binding_in (map led_binding ls) n ≡ None
  none_led n [] a e = refl
  none_led n (l ∷ ls) a e = ap (λ t. if t then Some (led_binding l) else binding_in (map led_binding ls) n) (another is_viewed es l.entity n a.0 e) ∙ none_led n ls a.1 e

  led_both : (ls more : List Led) → LedViewed ls → LedViewed more → LedViewed (ls ++ more)
  led_both [] more a b = b
  led_both (l ∷ ls) more a b = (a.0, led_both ls more a.1 b)

  one_led : (first : ℕ) (s : ViewSite) (shape : Option Shape) (o : Option Way) → stands_as is_viewed es s.name.entity ≡ true → LedViewed (led_of first s shape o)
  one_led first s None o h = tt
  one_led first s (Some shape) o h = (h, tt)

  led_viewed : (ms : List Memory) (first : ℕ) (before : List Led) (ss : List ViewSite) → LedViewed before → AllViewed es ss → LedViewed (led_behind ms first before ss)
  led_viewed ms first before [] a b = a
  led_viewed ms first before (s ∷ ss) a b =
      led_viewed ms (behind_hidden first s) (before ++ led_after ms first before s) ss
      (led_both before (led_after ms first before s) a (one_led first s (shape_named (memory_in ms s.parent.entity) (way_in before s.parent.entity)) (way_at ms before s.parent.entity) b.0)) b.1

  found_viewed : (ls : List Led) (n : ℕ) (w : Way) → LedViewed ls → way_in ls (Some n) ≡ Some w → sort_at is_viewed (slice_get es n) ≡ true
  found_viewed [] n w a is = absurd cc
  found_viewed (l ∷ ls) n w a is = by (same_entity l.entity (Some n)) refl is (found_viewed ls n w a.1)
    where
      by : (t : Bool) → same_entity l.entity (Some n) ≡ t → (if t then Some l.way else way_in ls (Some n)) ≡ Some w → (way_in ls (Some n) ≡ Some w → sort_at is_viewed (slice_get es n) ≡ true)
          → sort_at is_viewed (slice_get es n) ≡ true
      by true f g rest = subst (λ (x : Option ℕ). stands_as is_viewed es x ≡ true) (same_of l.entity n f) a.0
      by false f g rest = rest g

-- Bindings.

passed : (bs more : List Binding) (n : ℕ) → binding_in bs n ≡ None → binding_in (bs ++ more) n ≡ binding_in more n
passed [] more n e = refl
passed (b ∷ bs) more n e = by (same_entity b.entity (Some n)) e (passed bs more n)
  where
    by : (t : Bool) → (if t then Some b else binding_in bs n) ≡ None → (binding_in bs n ≡ None → binding_in (bs ++ more) n ≡ binding_in more n) → (if t then Some b else binding_in (bs ++ more) n) ≡ binding_in more n
    by true f rest = cc
    by false f rest = rest f

abbrev deepest_of : Option Way → ℕ
deepest_of None = 0
deepest_of (Some w) = w.deepest

-- the binding of a view, by its way
pub record Found (bs : List Binding) (n : ℕ) (w : Way) : Type 0 where
  pub binding : Binding
  pub found : binding_in bs n ≡ Some binding
  pub depth : binding.depth ≡ w.deepest
  pub plain : binding.iterates ≡ None

led_found : (ls : List Led) (more : List Binding) (n : ℕ) (w : Way) → way_in ls (Some n) ≡ Some w → Found (map led_binding ls ++ more) n w
led_found [] more n w is = absurd cc
led_found (l ∷ ls) more n w is = by (same_entity l.entity (Some n)) refl is (led_found ls more n w)
  where
    by : (t : Bool) → same_entity l.entity (Some n) ≡ t → (if t then Some l.way else way_in ls (Some n)) ≡ Some w → (way_in ls (Some n) ≡ Some w → Found (map led_binding ls ++ more) n w) → Found (map led_binding (l ∷ ls) ++ more) n w
    by true e f rest = record { binding = led_binding l; found = ap (λ t. if t then Some (led_binding l) else binding_in (map led_binding ls ++ more) n) e; depth = ap deepest_of f; plain = refl }
    by false e f rest =
        let r = rest f in
        record { binding = r.binding; found = ap (λ t. if t then Some (led_binding l) else binding_in (map led_binding ls ++ more) n) e ∙ r.found; depth = r.depth; plain = r.plain }

-- those of offsets, in their order
mapped_all : (first : ℕ) (ss : List ViewSite) → hidden_bindings first ss ≡ map hidden_binding (all_hidden first ss)
mapped_all first [] = refl
mapped_all first (s ∷ ss) =
    ap (λ (l : List Binding). map hidden_binding (hidden_of first s) ++ l) (mapped_all (behind_hidden first s) ss)
    ∙ sym (map-append hidden_binding (hidden_of first s) (all_hidden (behind_hidden first s) ss))

first_is : (m n : ℕ) (ms ns : List ℕ) → m ∷ ms ≡ n ∷ ns → m ≡ n
first_is m n ms ns e = cc

rest_is : (m n : ℕ) (ms ns : List ℕ) → m ∷ ms ≡ n ∷ ns → ms ≡ ns
rest_is m n ms ns e = cc

abbrev numbers : List Hidden → List ℕ
numbers hs = map (λ (h : Hidden). h.entity) hs

from_least : (first : ℕ) (hs : List Hidden) → numbers hs ≡ numbers_from first (length hs) → AllByRecursion (λ (h : Hidden). first ≤ h.entity) hs
from_least first [] e = tt
from_least first (h ∷ hs) e =
    let own = first_is h.entity first (numbers hs) (numbers_from (suc first) (length hs)) e in
    (omega (arith, own), weaker hs (from_least (suc first) hs (rest_is h.entity first (numbers hs) (numbers_from (suc first) (length hs)) e)))
  where
    weaker : (gs : List Hidden) → AllByRecursion (λ (g : Hidden). suc first ≤ g.entity) gs → AllByRecursion (λ (g : Hidden). first ≤ g.entity) gs
    weaker [] a = tt
    weaker (g ∷ gs) a = (let l = a.0 in omega (arith, l), weaker gs a.1)

abbrev FoundIn : List Binding → Hidden → Type 0
FoundIn bs h = binding_in bs h.entity ≡ Some (hidden_binding h)

found_all : (first : ℕ) (hs : List Hidden) → numbers hs ≡ numbers_from first (length hs) → AllByRecursion (FoundIn (map hidden_binding hs)) hs
found_all first [] e = tt
found_all first (h ∷ hs) e =
    let own = first_is h.entity first (numbers hs) (numbers_from (suc first) (length hs)) e in
    let behind = rest_is h.entity first (numbers hs) (numbers_from (suc first) (length hs)) e in
    (ap (λ t. if t then Some (hidden_binding h) else binding_in (map hidden_binding hs) h.entity) (there h.entity), later own hs (from_least (suc first) hs behind) (found_all (suc first) hs behind))
  where
    later : h.entity ≡ first → (gs : List Hidden) → AllByRecursion (λ (g : Hidden). suc first ≤ g.entity) gs → AllByRecursion (FoundIn (map hidden_binding hs)) gs → AllByRecursion (FoundIn (map hidden_binding (h ∷ hs))) gs
    later own [] a b = tt
    later own (g ∷ gs) a b =
        let l = a.0 in
        (ap (λ t. if t then Some (hidden_binding h) else binding_in (map hidden_binding hs) g.entity) (lower h.entity g.entity (omega (arith, own, l))) ∙ b.0, later own gs a.1 b.1)

-- Ways.

unless_some : (m : Option Memory) (o : Option Way) (w : Way) → way_unless m o ≡ Some w → o ≡ Some w
unless_some (Some m) o w e = cc
unless_some None o w e = e

-- what holds of all offsets holds of those of each way
module _ (P : Hidden → Type 0) where
  abbrev AllHold : List Hidden → Type 0
  AllHold hs = AllByRecursion P hs

  abbrev LedHold : List Led → Type 0
  LedHold ls = AllByRecursion (λ (l : Led). AllByRecursion P l.way.hidden) ls

  both_hold : (hs gs : List Hidden) → AllHold hs → AllHold gs → AllHold (hs ++ gs)
  both_hold [] gs a b = b
  both_hold (h ∷ hs) gs a b = (a.0, both_hold hs gs a.1 b)

  first_hold : (hs gs : List Hidden) → AllHold (hs ++ gs) → AllHold hs
  first_hold [] gs a = tt
  first_hold (h ∷ hs) gs a = (a.0, first_hold hs gs a.1)

  second_hold : (hs gs : List Hidden) → AllHold (hs ++ gs) → AllHold gs
  second_hold [] gs a = a
  second_hold (h ∷ hs) gs a = second_hold hs gs a.1

  led_hold_both : (ls more : List Led) → LedHold ls → LedHold more → LedHold (ls ++ more)
  led_hold_both [] more a b = b
  led_hold_both (l ∷ ls) more a b = (a.0, led_hold_both ls more a.1 b)

  behind_hold : (first : ℕ) (s : ViewSite) (v : ViewMap) (o : Option Way) → AllHold (hidden_of first s) → AllHold (hidden_in o) → AllHold (way_behind first s v o).hidden
  behind_hold first s v None a b = a
  behind_hold first s v (Some w) a b = both_hold (hidden_of first s) w.hidden a b

  one_hold : (first : ℕ) (s : ViewSite) (shape : Option Shape) (o : Option Way) → AllHold (hidden_of first s) → AllHold (hidden_in o) → LedHold (led_of first s shape o)
  one_hold first s None o a b = tt
  one_hold first s (Some shape) o a b = (behind_hold first s (map_of s.form shape) o a b, tt)

  ways_hold : (ms : List Memory) (first : ℕ) (before : List Led) (ss : List ViewSite) → LedHold before → AllHold (all_hidden first ss) → LedHold (led_behind ms first before ss)
  ways_hold ms first before [] a b = a
  ways_hold ms first before (s ∷ ss) a b =
      ways_hold ms (behind_hidden first s) (before ++ led_after ms first before s) ss
      (led_hold_both before (led_after ms first before s) a
      (one_hold first s (shape_named (memory_in ms s.parent.entity) (way_in before s.parent.entity)) (way_at ms before s.parent.entity) (first_hold (hidden_of first s) (all_hidden (behind_hidden first s) ss) b)
      (unless_hidden P (memory_in ms s.parent.entity) (way_in before s.parent.entity) (way_hidden P before s.parent.entity a))))
      (second_hold (hidden_of first s) (all_hidden (behind_hidden first s) ss) b)

each_one : (P Q : Hidden → Type 0) → ((h : Hidden) → P h → Q h) → (hs : List Hidden) → AllByRecursion P hs → AllByRecursion Q hs
each_one P Q f [] a = tt
each_one P Q f (h ∷ hs) a = (f h a.0, each_one P Q f hs a.1)

each_two : (P Q R : Hidden → Type 0) → ((h : Hidden) → P h → Q h → R h) → (hs : List Hidden) → AllByRecursion P hs → AllByRecursion Q hs → AllByRecursion R hs
each_two P Q R f [] a b = tt
each_two P Q R f (h ∷ hs) a b = (f h a.0 b.0, each_two P Q R f hs a.1 b.1)

module _ (p : Program) (r : IsReady p) where
  all_viewed : LedViewed p.entities (ways_of p)
  all_viewed = led_viewed p.entities (memories_of p) (length p.entities) [] (standings 0 p.body) tt (body_sorted p r).viewed

  named : (entity : ℕ) (w : Way) → way_to p (Some entity) ≡ Some w → IsBoundTo p entity w
  named entity w e =
      let led : way_in (ways_of p) (Some entity) ≡ Some w = unless_some (memory_in (memories_of p) (Some entity)) (way_in (ways_of p) (Some entity)) w e in
      let own = led_found (ways_of p) (hidden_bindings (length p.entities) (standings 0 p.body)) entity w led in
      let none : binding_in (bindings_of p) entity ≡ None =
      none_bound p.entities entity (bindings_of p) (body_sorted p r).bound (apart_there (slice_get p.entities entity) (found_viewed p.entities (ways_of p) entity w all_viewed led)) in
      record { binding = own.binding; found = passed (bindings_of p) (view_bindings p) entity none ∙ own.found; depth = own.depth; plain = own.plain }

  -- the binding of a variable behind all names
  hidden_found : (h : Hidden) → length p.entities ≤ h.entity → FoundIn (map hidden_binding (hidden_variables p)) h → FoundIn (all_bindings_of p) h
  hidden_found h l f =
      (passed (bindings_of p) (view_bindings p) h.entity (none_bound p.entities h.entity (bindings_of p) (body_sorted p r).bound (past_all is_bound p.entities h.entity l))
      ∙ (passed (map led_binding (ways_of p)) (hidden_bindings (length p.entities) (standings 0 p.body)) h.entity (none_led p.entities h.entity (ways_of p) all_viewed (past_all is_viewed p.entities h.entity l))
      ∙ (ap (λ (bs : List Binding). binding_in bs h.entity) (mapped_all (length p.entities) (standings 0 p.body)) ∙ f)))

  abbrev IsKept : Hidden → Type 0
  IsKept h = depth_bound (binding_in (all_bindings_of p) h.entity) ≡ h.depth

  all_kept : AllByRecursion (FoundIn (all_bindings_of p)) (hidden_variables p)
  all_kept =
      each_two (λ h. length p.entities ≤ h.entity) (FoundIn (map hidden_binding (hidden_variables p))) (FoundIn (all_bindings_of p)) hidden_found (hidden_variables p)
      (from_least (length p.entities) (hidden_variables p) (are_numbered p)) (found_all (length p.entities) (hidden_variables p) (are_numbered p))

  -- what holds of all offsets holds of those on the way of a name
  pub hidden_hold : (P : Hidden → Type 0) → AllByRecursion P (hidden_variables p) → (entity : Option ℕ) (w : Way) → way_to p entity ≡ Some w → AllByRecursion P w.hidden
  hidden_hold P a entity w e =
      subst (λ (o : Option Way). AllByRecursion P (hidden_in o)) e
      (unless_hidden P (memory_in (memories_of p) entity) (way_in (ways_of p) entity) (way_hidden P (ways_of p) entity (ways_hold P (memories_of p) (length p.entities) [] (standings 0 p.body) tt a)))

  bound : (entity : Option ℕ) (w : Way) → way_to p entity ≡ Some w → AllByRecursion (FoundIn (all_bindings_of p)) w.hidden
  bound = hidden_hold (FoundIn (all_bindings_of p)) all_kept

  kept : (entity : Option ℕ) (w : Way) → way_to p entity ≡ Some w → AllByRecursion IsKept w.hidden
  kept entity w e = each_one (FoundIn (all_bindings_of p)) IsKept (λ h f. ap depth_bound f) w.hidden (bound entity w e)

  pub views_bound : ViewsBound p
  views_bound = record { named = named; kept = kept; bound = bound }

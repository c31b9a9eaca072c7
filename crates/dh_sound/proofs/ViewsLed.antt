-- Each view of a program whose parent is a memory, or a view that has a way, has a way, and keeps its own offsets first on
-- it, inside as many unrolled loops as stand round it. For entities are numbered in text order: a parent has a lower
-- number than its view, so that it is found among the views before, and what is found of a view stays behind it.
use Rattle.std.proofs.Common.{◌≡◌, ◌⊎◌, inl, inr, ℕ, suc, ◌+◌, ◌<◌, ◌≤◌, Bool, true, false, if◌then◌else◌, List, [], ◌∷◌, ◌++◌, length, map, Option, Some, None, refl, sym, ◌∙◌, ap, subst, arith, length-append}
use Rattle.std.specs.Prelude.{slice_get}
use Rattle.std.specs.List.{AllByRecursion}
use Rattle.std.proofs.lemmas.Bool.{cases_lt}
use Rattle.std.proofs.lemmas.List.{append-nil}
use Rattle.dh_tree.specs.declared.tables.Shape.{Shape}
use Rattle.dh_tree.specs.declared.trees.expressions.Ref.{Ref}
use Rattle.dh_tree.specs.declared.trees.programs.Entity.{Entity}
use Rattle.dh_tree.specs.declared.trees.programs.Sort.{Sort}
use Rattle.dh_tree.specs.declared.trees.programs.Sort.TheVariants as sort
use Rattle.dh_tree.specs.declared.viewing.ViewMap.{ViewMap}
use Rattle.dh_tree.specs.Memories.{Memory, locals, memories_of, memory_in, outside_memory, same_entity}
use Rattle.dh_tree.specs.PlainTrees.{Term, Action, action, ActionForm, lets, lets_memory, views, assigns, stores, reduces, calls, blocks, decides, repeats, counts, MaybeAction, no_action, one_action, Actions, no_actions, action_then, Groups, no_groups, group_then, Declared, Program}
use Rattle.dh_tree.specs.Ready.{IsReady}
use Rattle.dh_tree.specs.Resolved.{numbered, resolved_action, resolved_actions, resolved_decls, resolved_form, resolved_groups, resolved_other}
use Rattle.dh_tree.specs.Scopes.{Scope, entity, declare, leave, past, at_end, form_at_end, other_at_end, actions_at_end, groups_at_end, body_scope}
use Rattle.dh_tree.specs.Views.{map_of}
use Rattle.dh_meaning.specs.Bindings.{binding_in, depth_bound, depth_inside}
use Rattle.dh_meaning.specs.CoreOf.{known_of}
use Rattle.dh_meaning.specs.Ways.{Hidden, Led, ViewSite, Way, all_bindings_of, behind_hidden, form_standings, groups_standings, hidden_from, hidden_of, led_after, led_behind, led_of, other_standings, part_standings, shape_named, standings, way_at, way_behind, way_in, way_to, way_unless, ways_of}
use Rattle.dh_sound.specs.AssignsInside.{KeepsInside}
use Rattle.dh_sound.proofs.DepthsNamed.{size}
use Rattle.dh_sound.proofs.IteratorsNamed.{declared_on, goes_on, groups_on, on_long, other_on, part_on, past_on}
use Rattle.dh_sound.proofs.NamesInScope.{body_long}
use Rattle.dh_carried.proofs.Pigeons.{Has}
use Rattle.dh_sound.proofs.SortedNames.{AllStored, body_sorted, is_stored, is_viewed, sort_at, stands_as}
use Rattle.dh_sound.proofs.ViewedWays.{led_to}
use Rattle.dh_sound.proofs.ViewsBefore.{AllFrom, AllLedBelow, later_kept, led_both_below, led_more, not_below, one_below, passed_over, there}
use Rattle.dh_sound.proofs.ViewsBound.{another, lower}

-- Views where they stand, by rising numbers.

abbrev pub RisingTo : (low high : ℕ) → List ViewSite → Type 0
RisingTo low high [] = Unit {0}
RisingTo low high (s ∷ ss) = (n : ℕ) × ((s.name.entity ≡ Some n) × ((low ≤ n) × ((n < high) × RisingTo (suc n) high ss)))

from_lower : (low less high : ℕ) (ss : List ViewSite) → less ≤ low → RisingTo low high ss → RisingTo less high ss
from_lower low less high [] l a = tt
from_lower low less high (s ∷ ss) l (n, (is, (low_is, (high_is, more)))) = (n, (is, (omega (arith, l, low_is), (high_is, more))))

to_higher : (low high more : ℕ) (ss : List ViewSite) → high ≤ more → RisingTo low high ss → RisingTo low more ss
to_higher low high more [] l a = tt
to_higher low high more (s ∷ ss) l (n, (is, (low_is, (high_is, rest)))) = (n, (is, (low_is, (omega (arith, l, high_is), to_higher (suc n) high more ss l rest))))

both_rise : (low mid high : ℕ) (ss more : List ViewSite) → low ≤ mid → mid ≤ high → RisingTo low mid ss → RisingTo mid high more → RisingTo low high (ss ++ more)
both_rise low mid high [] more l m a b = from_lower mid low high more l b
both_rise low mid high (s ∷ ss) more l m (n, (is, (low_is, (high_is, rest)))) b = (n, (is, (low_is, (omega (arith, m, high_is), both_rise (suc n) mid high ss more high_is m rest b))))

declared_long : (s : Scope) (r : Ref) (k : Sort) → size (declare s r k) ≡ size s + 1
declared_long s r k = length-append s.entities (entity r k ∷ [])

mutual
  pub risen : (a : Action) (s : Scope) (d : ℕ) → resolved_action s a ≡ a → RisingTo (size s) (size (at_end s a)) (standings d a)
  risen (action id place form) s d e = let same : resolved_form s form ≡ form = cc in form_risen form s d same

  form_risen : (f : ActionForm) (s : Scope) (d : ℕ) → resolved_form s f ≡ f → RisingTo (size s) (size (form_at_end s f)) (form_standings d f)
  form_risen (views name parent form) s d e =
      let own : Some (size s) ≡ name.entity = cc in
      let long = declared_long s name sort.View in
      (size s, (sym own, (omega arith, (omega (arith, long), tt))))
  form_risen (lets name declared value) s d e = tt
  form_risen (lets_memory name shape shape_places value) s d e = tt
  form_risen (assigns target value) s d e = tt
  form_risen (stores target value) s d e = tt
  form_risen (reduces target o value) s d e = tt
  form_risen (calls function arguments) s d e = tt
  form_risen (blocks body) s d e = groups_risen body s d (let f = e in cc)
  form_risen (decides test chosen other) s d e =
      let inner : Scope = leave s (at_end s chosen) in
      let first : resolved_action s chosen ≡ chosen = cc in
      let second : resolved_other inner other ≡ other = cc in
      both_rise (size s) (size (at_end s chosen)) (size (other_at_end inner other)) (standings d chosen) (other_standings d other)
      (on_long _ _ (goes_on chosen s)) (on_long _ _ (other_on other inner)) (risen chosen s d first) (other_risen other inner d second)
  form_risen (repeats test body) s d e = let same : resolved_action s body ≡ body = cc in risen body s d same
  form_risen (counts iterator declared low high factor body combine combine_place) s d e =
      let inner : Scope = declare s iterator sort.Iterator in
      let first : resolved_action inner body ≡ body = cc in
      let second : resolved_other (at_end inner body) combine ≡ combine = cc in
      let di = depth_inside d factor.value in
      let end = size (other_at_end (at_end inner body) combine) in
      from_lower (size inner) (size s) end (standings di body ++ other_standings di combine) (on_long _ _ (declared_on s iterator sort.Iterator))
      (both_rise (size inner) (size (at_end inner body)) end (standings di body) (other_standings di combine)
      (on_long _ _ (goes_on body inner)) (on_long _ _ (other_on combine (at_end inner body))) (risen body inner di first) (other_risen combine (at_end inner body) di second))

  other_risen : (m : MaybeAction) (s : Scope) (d : ℕ) → resolved_other s m ≡ m → RisingTo (size s) (size (other_at_end s m)) (other_standings d m)
  other_risen no_action s d e = tt
  other_risen (one_action a) s d e = let same : resolved_action s a ≡ a = cc in risen a s d same

  part_risen : (part : Actions) (s : Scope) (d : ℕ) → resolved_actions s part ≡ part → RisingTo (size s) (size (actions_at_end s part)) (part_standings d part)
  part_risen no_actions s d e = tt
  part_risen (action_then a rest) s d e =
      let after : Scope = past s a (at_end s a) in
      let first : resolved_action s a ≡ a = cc in
      let second : resolved_actions after rest ≡ rest = cc in
      let same = ap length (past_on s (at_end s a) a) in
      let long = on_long _ _ (goes_on a s) in
      both_rise (size s) (size after) (size (actions_at_end after rest)) (standings d a) (part_standings d rest) (omega (arith, same, long)) (on_long _ _ (part_on rest after))
      (to_higher (size s) (size (at_end s a)) (size after) (standings d a) (omega (arith, same)) (risen a s d first)) (part_risen rest after d second)

  groups_risen : (gs : Groups) (s : Scope) (d : ℕ) → resolved_groups s gs ≡ gs → RisingTo (size s) (size (groups_at_end s gs)) (groups_standings d gs)
  groups_risen no_groups s d e = tt
  groups_risen (group_then g rest) s d e =
      let after : Scope = actions_at_end s g in
      let first : resolved_actions s g ≡ g = cc in
      let second : resolved_groups after rest ≡ rest = cc in
      both_rise (size s) (size after) (size (groups_at_end after rest)) (part_standings d g) (groups_standings d rest) (on_long _ _ (part_on g s)) (on_long _ _ (groups_on rest after)) (part_risen g s d first)
      (groups_risen rest after d second)

pub all_from : (low high : ℕ) (ss : List ViewSite) → RisingTo low high ss → AllFrom low ss
all_from low high [] a = tt
all_from low high (s ∷ ss) (n, (is, (low_is, (high_is, rest)))) = ((n, (is, low_is)), all_from low high ss (from_lower (suc n) low high ss (omega (arith, low_is)) rest))

-- Ways.

-- what is named: a memory, or a view that has a way
abbrev pub IsNamed : Option Memory → Option Way → Type 0
IsNamed m w = ((x : Memory) × (m ≡ Some x)) ⊎ ((y : Way) × (w ≡ Some y))

named_shape : (m : Option Memory) (w : Option Way) → IsNamed m w → (shape : Shape) × (shape_named m w ≡ Some shape)
named_shape (Some x) w h = (x.shape, refl)
named_shape None (Some y) h = (y.is.shape, refl)
named_shape None None (inl (x, e)) = absurd cc
named_shape None None (inr (y, e)) = absurd cc

-- a view's way, with its own offsets first
pub record LedAt (ls : List Led) (s : ViewSite) (n : ℕ) : Type 0 where
  pub way : Way
  pub found : way_in ls (Some n) ≡ Some way
  pub first : ℕ
  pub rest : List Hidden
  pub hidden : way.hidden ≡ hidden_of first s ++ rest

own_first : (first : ℕ) (s : ViewSite) (v : ViewMap) (o : Option Way) → (rest : List Hidden) × ((way_behind first s v o).hidden ≡ hidden_of first s ++ rest)
own_first first s v None = ([], sym (append-nil (hidden_of first s)))
own_first first s v (Some w) = (w.hidden, refl)

module _ (ms : List Memory) where
  one_led : (x : ℕ) (s : ViewSite) (n : ℕ) (shape : Option Shape) (o : Option Way) (found : Shape) → s.name.entity ≡ Some n → shape ≡ Some found → LedAt (led_of x s shape o) s n
  one_led x s n shape o found is e =
      let own = own_first x s (map_of s.form found) o in
      subst (λ (z : Option Shape). LedAt (led_of x s z o) s n) (sym e) (record {
        way = way_behind x s (map_of s.form found) o;
        found = ap (λ b. if b then Some (way_behind x s (map_of s.form found) o) else None) (ap (λ z. same_entity z (Some n)) is ∙ there n);
        first = x;
        rest = own.0;
        hidden = own.1;
      })

  led_at : (x : ℕ) (before : List Led) (ss : List ViewSite) (low high : ℕ) → AllLedBelow low before → RisingTo low high ss → (s : ViewSite) → Has s ss → (n m : ℕ) → s.name.entity ≡ Some n → s.parent.entity ≡ Some m → m < n
      → IsNamed (memory_in ms (Some m)) (way_in (led_behind ms x before ss) (Some m)) → LedAt (led_behind ms x before ss) s n
  led_at x before [] low high below rising s h n m is up less named = elim h [ ]
  led_at x before (z ∷ ss) low high below (k, (own, (low_is, (high_is, rest)))) s (inl e) n m is up less named =
      subst (λ (y : ViewSite). LedAt (led_behind ms x before (z ∷ ss)) y n) (sym e) (record { way = here.way; found = found; first = here.first; rest = here.rest; hidden = here.hidden })
    where
      same : n ≡ k
      same = number n k (sym is ∙ (ap (λ (y : ViewSite). y.name.entity) e ∙ own))
        where
          number : (a b : ℕ) → Some a ≡ Some b → a ≡ b
          number a b f = cc

      parent : z.parent.entity ≡ Some m
      parent = ap (λ (y : ViewSite). y.parent.entity) (sym e) ∙ up

      earlier : way_in (led_behind ms x before (z ∷ ss)) (Some m) ≡ way_in before (Some m)
      earlier = later_kept ms x before (z ∷ ss) k m (all_from k high (z ∷ ss) (k, (own, (omega arith, (high_is, rest))))) (let l = less in omega (arith, l, same))

      shape : (found : Shape) × (shape_named (memory_in ms z.parent.entity) (way_in before z.parent.entity) ≡ Some found)
      shape =
          subst (λ (o : Option ℕ). (found : Shape) × (shape_named (memory_in ms o) (way_in before o) ≡ Some found)) (sym parent)
          (named_shape (memory_in ms (Some m)) (way_in before (Some m)) (subst (λ (o : Option Way). IsNamed (memory_in ms (Some m)) o) earlier named))

      here : LedAt (led_after ms x before z) z n
      here = one_led x z n (shape_named (memory_in ms z.parent.entity) (way_in before z.parent.entity)) (way_at ms before z.parent.entity) shape.0 (own ∙ ap Some (sym same)) shape.1

      found : way_in (led_behind ms x before (z ∷ ss)) (Some n) ≡ Some here.way
      found =
          later_kept ms (behind_hidden x z) (before ++ led_after ms x before z) ss (suc k) n (all_from (suc k) high ss rest) (omega (arith, same))
          ∙ (passed_over before (led_after ms x before z) n (not_below n before (led_more low n (let l = low_is in omega (arith, l, same)) before below)) ∙ here.found)
  led_at x before (z ∷ ss) low high below (k, (own, (low_is, (high_is, rest)))) s (inr h) n m is up less named =
      led_at (behind_hidden x z) (before ++ led_after ms x before z) ss (suc k) high
      (led_both_below (suc k) before (led_after ms x before z) (led_more low (suc k) (omega (arith, low_is)) before below)
      (one_below x k (suc k) z (shape_named (memory_in ms z.parent.entity) (way_in before z.parent.entity)) (way_at ms before z.parent.entity) own (omega arith)))
      rest s h n m is up less named

-- A view is no memory.

decl_none : (k : ℕ) (ds : List Declared) (n : ℕ) → resolved_decls k ds ≡ ds → k + length ds ≤ n → memory_in (map outside_memory ds) (Some n) ≡ None
decl_none k [] n e l = refl
decl_none k (d ∷ ds) n e l =
    ap (λ t. if t then Some (outside_memory d) else memory_in (map outside_memory ds) (Some n)) (ap (λ (o : Option ℕ). same_entity o (Some n)) (sym own) ∙ lower k n (omega (arith, l)))
    ∙ decl_none (k + 1) ds n behind (omega (arith, l))
  where
    first : record { name = numbered k d.name; shape = d.shape; shape_places = d.shape_places } ≡ d
    first = cc

    behind : resolved_decls (k + 1) ds ≡ ds
    behind = cc

    own : Some k ≡ d.name.entity
    own = ap (λ (x : Declared). x.name.entity) first

none_stored : (es : List Entity) (n : ℕ) (ms : List Memory) → AllStored es ms → sort_at is_stored (slice_get es n) ≡ false → memory_in ms (Some n) ≡ None
none_stored es n [] a e = refl
none_stored es n (m ∷ ms) a e = ap (λ t. if t then Some m else memory_in ms (Some n)) (another is_stored es m.name.entity n a.0 e) ∙ none_stored es n ms a.1 e

none_both : (ms ns : List Memory) (e : Option ℕ) → memory_in ms e ≡ None → memory_in ns e ≡ None → memory_in (ms ++ ns) e ≡ None
none_both [] ns e f g = g
none_both (m ∷ ms) ns e f g = by (same_entity m.name.entity e) f (λ h. none_both ms ns e h g)
  where
    by : (t : Bool) → (if t then Some m else memory_in ms e) ≡ None → (memory_in ms e ≡ None → memory_in (ms ++ ns) e ≡ None) → (if t then Some m else memory_in (ms ++ ns) e) ≡ None
    by true h rest = cc
    by false h rest = rest h

stored_apart : (k : Sort) → is_viewed k ≡ true → is_stored k ≡ false
stored_apart sort.Variable e = refl
stored_apart sort.Iterator e = refl
stored_apart sort.Memory e = absurd cc
stored_apart sort.View e = refl
stored_apart sort.Function e = refl

stored_there : (o : Option Entity) → sort_at is_viewed o ≡ true → sort_at is_stored o ≡ false
stored_there None e = refl
stored_there (Some x) e = stored_apart x.sort e

one_of : (P : ViewSite → Type 0) (ss : List ViewSite) (s : ViewSite) → AllByRecursion P ss → Has s ss → P s
one_of P [] s a h = elim h [ ]
one_of P (z ∷ ss) s a (inl e) = subst (λ (y : ViewSite). P y) (sym e) a.0
one_of P (z ∷ ss) s a (inr h) = one_of P ss s a.1 h

-- from the first number on
least_of : (low high : ℕ) (ss : List ViewSite) → RisingTo low high ss → (s : ViewSite) (n : ℕ) → Has s ss → s.name.entity ≡ Some n → low ≤ n
least_of low high [] a s n h is = elim h [ ]
least_of low high (z ∷ ss) (k, (own, (low_is, (high_is, rest)))) s n (inl e) is = subst (λ (x : ℕ). low ≤ x) (number k n (sym own ∙ (ap (λ (y : ViewSite). y.name.entity) (sym e) ∙ is))) low_is
  where
    number : (a b : ℕ) → Some a ≡ Some b → a ≡ b
    number a b f = cc
least_of low high (z ∷ ss) (k, (own, (low_is, (high_is, rest)))) s n (inr h) is = let l = least_of (suc k) high ss rest s n h is in omega (arith, l, low_is)

module _ (p : Program) (r : IsReady p) where
  same_body : resolved_action (body_scope p) p.body ≡ p.body
  same_body = ap (λ (x : Program). x.body) r.entities

  all_rise : RisingTo (size (body_scope p)) (size (at_end (body_scope p) p.body)) (standings 0 p.body)
  all_rise = risen p.body (body_scope p) 0 same_body

  no_memory : (s : ViewSite) (n : ℕ) → Has s (standings 0 p.body) → s.name.entity ≡ Some n → memory_in (memories_of p) (Some n) ≡ None
  no_memory s n h is =
      let viewed : sort_at is_viewed (slice_get p.entities n) ≡ true =
      subst (λ (o : Option ℕ). stands_as is_viewed p.entities o ≡ true) is (one_of (λ (x : ViewSite). stands_as is_viewed p.entities x.name.entity ≡ true) (standings 0 p.body) s (body_sorted p r).viewed h) in
      let least = least_of (size (body_scope p)) (size (at_end (body_scope p) p.body)) (standings 0 p.body) all_rise s n h is in
      let long = body_long p in
      none_both (map outside_memory p.decls) (locals p.body) (Some n) (decl_none 0 p.decls n (ap (λ (x : Program). x.decls) r.entities) (omega (arith, least, long)))
      (none_stored p.entities n (locals p.body) (body_sorted p r).stored (stored_there (slice_get p.entities n) viewed))

  -- a view of the program whose parent is named has a way
  pub record IsLed (s : ViewSite) (n : ℕ) : Type 0 where
    pub way : Way
    pub found : way_to p (Some n) ≡ Some way
    pub first : ℕ
    pub rest : List Hidden
    pub hidden : way.hidden ≡ hidden_of first s ++ rest

  way_named : (m : ℕ) → IsNamed (memory_in (memories_of p) (Some m)) (way_to p (Some m)) → IsNamed (memory_in (memories_of p) (Some m)) (way_in (ways_of p) (Some m))
  way_named m (inl x) = inl x
  way_named m (inr (y, e)) = inr (y, led_to p (Some m) y e)

  pub is_led : (s : ViewSite) → Has s (standings 0 p.body) → (n m : ℕ) → s.name.entity ≡ Some n → s.parent.entity ≡ Some m → m < n → IsNamed (memory_in (memories_of p) (Some m)) (way_to p (Some m)) → IsLed s n
  is_led s h n m is up less named =
      let at = led_at (memories_of p) (length p.entities) [] (standings 0 p.body) (size (body_scope p)) (size (at_end (body_scope p) p.body)) tt all_rise s h n m is up less (way_named m named) in
      record { way = at.way; found = ap (λ o. way_unless o (way_in (ways_of p) (Some n))) (no_memory s n h is) ∙ at.found; first = at.first; rest = at.rest; hidden = at.hidden }

-- What a view keeps.

module _ (p : Program) (d : ℕ) where
  abbrev AllKept : List Hidden → Type 0
  AllKept hs = AllByRecursion (λ (h : Hidden). depth_bound (binding_in (all_bindings_of p) h.entity) ≡ h.depth) hs

  -- each of a view's own offsets is declared as deep as the view stands
  in_range : (first : ℕ) (ts : List Term) (rest : List Hidden) (e : ℕ) → first ≤ e → e < first + length ts → AllKept (hidden_from first d ts ++ rest) → d ≤ depth_bound (binding_in (all_bindings_of p) e)
  in_range first [] rest e l u a = absurd (omega (arith, l, u))
  in_range first (t ∷ ts) rest e l u a =
      elim (cases_lt first e) [
        | inl more ↦ in_range (suc first) ts rest e more (omega (arith, u)) a.1
        | inr less ↦ (let k = a.0 in subst (λ (x : ℕ). d ≤ depth_bound (binding_in (all_bindings_of p) x)) (same first e l less) (omega (arith, k)))
      ]
    where
      same : (x y : ℕ) → x ≤ y → y ≤ x → x ≡ y
      same x y l m = omega (arith, l, m)

  pub keeps_inside : (first : ℕ) (ts : List Term) (rest hs : List Hidden) → hs ≡ hidden_from first d ts ++ rest → AllKept hs → KeepsInside (known_of p) d hs (length ts)
  keeps_inside first [] rest hs e a = tt
  keeps_inside first (t ∷ ts) rest hs e a =
      subst (λ (l : List Hidden). KeepsInside (known_of p) d l (suc (length ts))) (sym e)
      (omega arith, λ x l u. in_range first (t ∷ ts) rest x l u (subst (λ (l : List Hidden). AllKept l) e a))

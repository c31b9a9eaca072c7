-- The views of a program where they stand: the variables that keep a view's own offsets stand inside the loops round it, and
-- a view whose parent is a memory or a view has a way, with these variables first. Entities are numbered in text order, and
-- these variables behind them: so a parent is found among the views before, and what is found of a view stays behind it.
-- By one walk over the views, with the ways before each and the number of its first variable.
use Rattle.std.proofs.Common.{◌≡◌, ℕ, suc, ◌+◌, ◌<◌, ◌≤◌, Bool, if◌then◌else◌, List, [], ◌∷◌, ◌++◌, length, map, Option, Some, None, refl, ap, sym, ◌∙◌, subst, arith}
use Rattle.std.specs.List.{AllByRecursion}
use Rattle.dh_tree.specs.declared.tables.Shape.{Shape}
use Rattle.dh_tree.specs.Memories.{Memory, memories_of, memory_in, same_entity}
use Rattle.dh_tree.specs.PlainTrees.{Term, Program}
use Rattle.dh_tree.specs.Resolved.{resolved_action}
use Rattle.dh_tree.specs.Scopes.{body_scope, last_scope}
use Rattle.dh_tree.specs.ViewOffsets.{offsets_of}
use Rattle.dh_tree.specs.Views.{map_of}
use Rattle.dh_meaning.specs.Bindings.{kind_found}
use Rattle.dh_meaning.specs.Ways.{Led, ViewSite, Way, all_entities_of, behind_all, behind_hidden, led_after, led_behind, led_of, shape_named, way_at, way_behind, way_in, way_unless, ways_of}
use Rattle.dh_ways.specs.Stands.{view_site_of}
use Rattle.dh_sound.proofs.ViewsBefore.{AllLedBelow, later_kept, led_both_below, led_more, not_below, one_below, passed_over, there}
use Rattle.dh_sound.proofs.ViewsBound.{lower}
use Rattle.dh_sound.proofs.ViewsLed.{RisingTo, all_from, risen}
use Rattle.dh_code.specs.Declarations.{Declaration, Factored, all_declarations_of, all_hidden_declared, declaration_in, declarations, factored, declared_factors, hidden_declared, placing_of}
use Rattle.dh_code.specs.Slots.{Placing}
use Rattle.dh_code.specs.Suited.{IsInside}
use Rattle.dh_code.proofs.HiddenPlaced.{stand_of, standings_so}
use Rattle.dh_runnable.proofs.DeclarationsFound.{AllBelow, all_below, below_more, is_absent}
use Rattle.dh_runnable.proofs.VariablesPlaced.{all_long, depth_held, take_all}

-- a view's own variables, from this one on, stand inside all of these loops
abbrev pub OwnInside : Placing → (loops : List ℕ) → (first : ℕ) → List Term → Type 0
OwnInside p loops first [] = Unit {0}
OwnInside p loops first (t ∷ ts) = IsInside p loops (length loops) first × OwnInside p loops (suc first) ts

-- a view where it stands
pub record IsViewed (ms : List Memory) (ways : List Led) (p : Placing) (f : Factored) : Type 0 where
  pub number : ℕ
  pub named : f.name.entity ≡ Some number
  pub first : ℕ
  pub own : OwnInside p f.factors first (offsets_of f.form)
  -- where its parent has a shape, it has a way behind that of its parent
  pub way : (m : ℕ) → f.parent.entity ≡ Some m → m < number → (shape : Shape) → shape_named (memory_in ms (Some m)) (way_in ways (Some m)) ≡ Some shape
      → way_in ways (Some number) ≡ Some (way_behind first (view_site_of (stand_of f)) (map_of f.form shape) (way_at ms ways (Some m)))

abbrev standing_all : List Factored → List ViewSite
standing_all fs = map (λ f. view_site_of (stand_of f)) fs

-- Ways.

module _ (ms : List Memory) where
  one_way : (x : ℕ) (s : ViewSite) (n : ℕ) (shape : Shape) (o : Option Shape) (parent : Option Way) → s.name.entity ≡ Some n → o ≡ Some shape
      → way_in (led_of x s o parent) (Some n) ≡ Some (way_behind x s (map_of s.form shape) parent)
  one_way x s n shape o parent is e =
      ap (λ z. way_in (led_of x s z parent) (Some n)) e
      ∙ ap (λ (b : Bool). if b then Some (way_behind x s (map_of s.form shape) parent) else None) (ap (λ z. same_entity z (Some n)) is ∙ there n)

  first_way : (x : ℕ) (before : List Led) (s : ViewSite) (ss : List ViewSite) (k high : ℕ) → s.name.entity ≡ Some k → AllLedBelow k before → k < high → RisingTo (suc k) high ss
      → (m : ℕ) → s.parent.entity ≡ Some m → m < k → (shape : Shape) → shape_named (memory_in ms (Some m)) (way_in (led_behind ms x before (s ∷ ss)) (Some m)) ≡ Some shape
      → way_in (led_behind ms x before (s ∷ ss)) (Some k) ≡ Some (way_behind x s (map_of s.form shape) (way_at ms (led_behind ms x before (s ∷ ss)) (Some m)))
  first_way x before s ss k high is below within rest m up less shape e =
      let earlier : way_in (led_behind ms x before (s ∷ ss)) (Some m) ≡ way_in before (Some m) =
      later_kept ms x before (s ∷ ss) k m (all_from k high (s ∷ ss) (k, (is, (omega arith, (within, rest))))) less
      in
      let found : shape_named (memory_in ms s.parent.entity) (way_in before s.parent.entity) ≡ Some shape =
      ap (λ o. shape_named (memory_in ms o) (way_in before o)) up ∙ (ap (λ w. shape_named (memory_in ms (Some m)) w) (sym earlier) ∙ e)
      in
      later_kept ms (behind_hidden x s) (before ++ led_after ms x before s) ss (suc k) k (all_from (suc k) high ss rest) (omega arith)
      ∙ (passed_over before (led_after ms x before s) k (not_below k before below)
      ∙ (one_way x s k shape (shape_named (memory_in ms s.parent.entity) (way_in before s.parent.entity)) (way_at ms before s.parent.entity) is found
      ∙ ap (λ o. Some (way_behind x s (map_of s.form shape) o)) (ap (λ o. way_at ms before o) up ∙ ap (λ w. way_unless (memory_in ms (Some m)) w) (sym earlier))))

-- Variables.

least : (x : ℕ) (ss : List ViewSite) → x ≤ behind_all x ss
least x [] = omega arith
least x (s ∷ ss) = let l = least (behind_hidden x s) ss in omega (arith, l)

-- the variables of a view are passed over behind them
passed : (x : ℕ) (loops : List ℕ) (ts : List Term) (more : List Declaration) (y : ℕ) → x + length ts ≤ y → declaration_in (hidden_declared x loops ts ++ more) y ≡ declaration_in more y
passed x loops [] more y l = refl
passed x loops (t ∷ ts) more y l =
    ap (λ (b : Bool). if b then Some (record { entity = Some x; kind_is = kind_found t; factors = loops }) else declaration_in (hidden_declared (suc x) loops ts ++ more) y) (lower x y (omega (arith, l)))
    ∙ passed (suc x) loops ts more y (omega (arith, l))

-- so are a program's own
skipped : (ds more : List Declaration) (k y : ℕ) → AllBelow k ds → k ≤ y → declaration_in (ds ++ more) y ≡ declaration_in more y
skipped [] more k y b l = refl
skipped (d ∷ ds) more k y b l = ap (λ (t : Bool). if t then Some d else declaration_in (ds ++ more) y) (is_absent y d.entity (below_more k y d.entity l b.0)) ∙ skipped ds more k y b.1 l

module _ (q : Program) where
  abbrev all : List Declaration
  all = all_declarations_of q

  inside_here : (e : ℕ) (d : Declaration) → declaration_in all e ≡ Some d → e < all_entities_of q → IsInside (placing_of q) d.factors (length d.factors) e
  inside_here e d is l = record {
    known = let long = all_long all 0 0 (all_entities_of q) in omega (arith, long, l);
    deep = omega arith;
    held = depth_held all 0 0 (all_entities_of q) e l ∙ (ap (λ (k : ℕ). length (declared_factors (declaration_in all k))) (front e) ∙ ap (λ o. length (declared_factors o)) is);
    round = ap declared_factors is ∙ take_all d.factors (length d.factors) refl;
  }
    where
      front : (k : ℕ) → 0 + k ≡ k
      front k = omega arith

  own_there : (x : ℕ) (loops : List ℕ) (ts : List Term) (more : List Declaration) → ((y : ℕ) → x ≤ y → declaration_in all y ≡ declaration_in (hidden_declared x loops ts ++ more) y) → x + length ts ≤ all_entities_of q
      → OwnInside (placing_of q) loops x ts
  own_there x loops [] more h l = tt
  own_there x loops (t ∷ ts) more h l =
      let d : Declaration = record { entity = Some x; kind_is = kind_found t; factors = loops } in
      let rest : List Declaration = hidden_declared (suc x) loops ts ++ more in (
        inside_here x (record { entity = Some x; kind_is = kind_found t; factors = loops }) (h x (omega arith) ∙ ap (λ (b : Bool). if b then Some d else declaration_in rest x) (there x)) (omega (arith, l)),
        own_there (suc x) loops ts more (λ y g. h y (omega (arith, g)) ∙ ap (λ (b : Bool). if b then Some d else declaration_in rest y) (lower x y (omega (arith, g)))) (omega (arith, l)),
      )

  all_viewed : (x : ℕ) (before : List Led) (fs : List Factored) (low high : ℕ) → AllLedBelow low before → RisingTo low high (standing_all fs) → ways_of q ≡ led_behind (memories_of q) x before (standing_all fs)
      → ((y : ℕ) → x ≤ y → declaration_in all y ≡ declaration_in (all_hidden_declared x fs) y) → behind_all x (standing_all fs) ≤ all_entities_of q → AllByRecursion (λ f. IsViewed (memories_of q) (ways_of q) (placing_of q) f) fs
  all_viewed x before [] low high below rising final h l = tt
  all_viewed x before (f ∷ fs) low high below (k, (is, (low_is, (high_is, rest)))) final h l =
      let ms = memories_of q in
      let s : ViewSite = view_site_of (stand_of f) in
      let next = x + length (offsets_of f.form) in
      let here = led_more low k low_is before below in
      let up = least (x + length (offsets_of f.form)) (standing_all fs) in (
        record {
          number = k;
          named = is;
          first = x;
          own = own_there x f.factors (offsets_of f.form) (all_hidden_declared (x + length (offsets_of f.form)) fs) h (omega (arith, up, l));
          way = λ m of less shape e.
              subst (λ (ls : List Led). way_in ls (Some k) ≡ Some (way_behind x (view_site_of (stand_of f)) (map_of f.form shape) (way_at (memories_of q) ls (Some m)))) (sym final)
              (first_way (memories_of q) x before (view_site_of (stand_of f)) (standing_all fs) k high is here high_is rest m of less shape
              (ap (λ (ls : List Led). shape_named (memory_in (memories_of q) (Some m)) (way_in ls (Some m))) (sym final) ∙ e));
        },
        all_viewed next (before ++ led_after ms x before s) fs (suc k) high
            (led_both_below (suc k) before (led_after ms x before s) (led_more k (suc k) (omega arith) before here)
            (one_below x k (suc k) s (shape_named (memory_in ms f.parent.entity) (way_in before f.parent.entity)) (way_at ms before f.parent.entity) is (omega arith)))
            rest final (λ y g. h y (omega (arith, g)) ∙ passed x f.factors (offsets_of f.form) (all_hidden_declared (x + length (offsets_of f.form)) fs) y g) l,
      )

-- the views of a program whose names are resolved
pub views_viewed : (q : Program) → resolved_action (body_scope q) q.body ≡ q.body → length (last_scope q).entities ≡ length q.entities
    → AllByRecursion (λ f. IsViewed (memories_of q) (ways_of q) (placing_of q) f) (factored [] q.body)
views_viewed q e long =
    all_viewed q (length q.entities) [] (factored [] q.body) (length (body_scope q).entities) (length (last_scope q).entities) tt
    (subst (λ (ss : List ViewSite). RisingTo (length (body_scope q).entities) (length (last_scope q).entities) ss) (sym (standings_so q)) (risen q.body (body_scope q) 0 e))
    (ap (λ (ss : List ViewSite). led_behind (memories_of q) (length q.entities) [] ss) (sym (standings_so q)))
    (λ y g. skipped (declarations [] q.body) (all_hidden_declared (length q.entities) (factored [] q.body)) (length q.entities) y
    (subst (λ (k : ℕ). AllBelow k (declarations [] q.body)) long (all_below q.body (body_scope q) [] e)) g)
    (subst (λ (ss : List ViewSite). behind_all (length q.entities) ss ≤ all_entities_of q) (sym (standings_so q)) (same (all_entities_of q)))
  where
    same : (n : ℕ) → n ≤ n
    same n = omega arith

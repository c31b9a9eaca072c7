-- What links that follow one another tell of the ways that they are.
use Rattle.std.proofs.Common.{◌≡◌, ◌⊎◌, inl, inr, ℕ, zero, suc, ◌+◌, ◌<◌, List, [], ◌∷◌, ◌++◌, length, map, get_or, if◌then◌else◌, Bool, true, false, Option, Some, None, refl, ap, sym, ◌∙◌, subst, arith, append_assoc, append-nil}
use Rattle.std.specs.Prelude.{Err, Ok, OnOk, Result, is_ok, option_map, slice_get}
use Rattle.std.proofs.lemmas.List.{length_push, map_push}
use Rattle.std.proofs.lemmas.Option.{none-some, same_Some, slice_get-get_or, slice_get_within}
use denote.Ref.{Bor}
use Rattle.dh_tree.specs.declared.viewing.ViewMap.{ViewMap}
use Rattle.dh_ways.specs.declared.linking.Link.{Link}
use Rattle.dh_ways.specs.declared.ways.Hidden.{Hidden}
use Rattle.dh_ways.specs.Kept.{KeptLed, KeptWay}
use Rattle.dh_ways.specs.Linked.{LinksFollowOneAnother, AreLinkedOn, CanFollow, IsBefore, IsLinkAt, IsParentAt, IsSplit, hidden_kept, led_by, led_by_links, views_kept, way_linked, way_over, way_there, ways_linked}

-- Places in lists.

pub in_front : {A : Type 0} (xs ys : List A) (k : ℕ) (x : A) → slice_get xs k ≡ Some x → slice_get (xs ++ ys) k ≡ Some x
in_front [] ys k x e = absurd (none-some x e)
in_front (y ∷ xs) ys zero x e = e
in_front (y ∷ xs) ys (suc k) x e = in_front xs ys k x e

at_end : {A : Type 0} (xs : List A) (x : A) → slice_get (xs ++ x ∷ []) (length xs) ≡ Some x
at_end [] x = refl
at_end (y ∷ xs) x = at_end xs x

-- what is at a place, where one item more is behind the others
pub pushed_cases : {A : Type 0} (xs : List A) (y : A) (k : ℕ) (x : A) → slice_get (xs ++ y ∷ []) k ≡ Some x → (slice_get xs k ≡ Some x) ⊎ ((k ≡ length xs) × (x ≡ y))
pushed_cases [] y zero x e = inr (refl, sym (same_Some y x e))
pushed_cases [] y (suc k) x e = absurd (none-some x e)
pushed_cases (z ∷ xs) y zero x e = inl e
pushed_cases (z ∷ xs) y (suc k) x e = by (pushed_cases xs y k x e)
  where
    by : (slice_get xs k ≡ Some x) ⊎ ((k ≡ length xs) × (x ≡ y)) → (slice_get xs k ≡ Some x) ⊎ ((suc k ≡ suc (length xs)) × (x ≡ y))
    by (inl h) = inl h
    by (inr h) = inr (ap suc h.0, h.1)

-- what is at a place of a list
pub record Stands {A : Type 0} (xs : List A) (k : ℕ) : Type 0 where
  pub item : A
  pub there : slice_get xs k ≡ Some item

none_below : (k : ℕ) → k < 0 → ⊥
none_below k e = omega (arith, e)

less_one : (k n : ℕ) → suc k < suc n → k < n
less_one k n e = omega (arith, e)

pub stands_in : {A : Type 0} (xs : List A) (k : ℕ) → k < length xs → Stands xs k
stands_in [] k e = absurd (none_below k e)
stands_in (x ∷ xs) zero e = record { item = x; there = refl }
stands_in (x ∷ xs) (suc k) e = let rest = stands_in xs k (less_one k (length xs) e) in record { item = rest.item; there = rest.there }

-- As many views as links.

long_on : (before : List KeptLed) (ls : List Link) → length (led_by_links before ls) ≡ length before + length ls
long_on before [] = plain (length before)
  where
    plain : (n : ℕ) → n ≡ n + 0
    plain n = omega arith
long_on before (l ∷ ls) = long_on (before ++ led_by before l ∷ []) ls ∙ moved (length (before ++ led_by before l ∷ [])) (length before) (length ls) (length_push before (led_by before l))
  where
    moved : (m n k : ℕ) → m ≡ n + 1 → m + k ≡ n + suc k
    moved m n k e = omega (arith, e)

front : (n : ℕ) → 0 + n ≡ n
front n = omega arith

pub links_long : (links : List Link) → length (ways_linked links) ≡ length links
links_long links = long_on [] links ∙ front (length links)

-- The entities of the views.

entities_on : (before : List KeptLed) (ls : List Link) → map (λ (l : KeptLed). l.entity) (led_by_links before ls) ≡ map (λ (l : KeptLed). l.entity) before ++ map (λ (l : Link). l.entity) ls
entities_on before [] = sym (append-nil (map (λ (l : KeptLed). l.entity) before))
entities_on before (l ∷ ls) =
    entities_on (before ++ led_by before l ∷ []) ls
    ∙ (ap (λ es. es ++ map (λ (x : Link). x.entity) ls) (map_push (λ (x : KeptLed). x.entity) before (led_by before l))
    ∙ append_assoc (map (λ (x : KeptLed). x.entity) before) (l.entity ∷ []) (map (λ (x : Link). x.entity) ls))

pub entities_are : (links : List Link) → map (λ (l : KeptLed). l.entity) (ways_linked links) ≡ map (λ (l : Link). l.entity) links
entities_are links = entities_on [] links

-- What stands at a place.

-- views stay where they are when others are added
stays : (before : List KeptLed) (ls : List Link) (k : ℕ) (x : KeptLed) → slice_get before k ≡ Some x → slice_get (led_by_links before ls) k ≡ Some x
stays before [] k x e = e
stays before (l ∷ ls) k x e = stays (before ++ led_by before l ∷ []) ls k x (in_front before (led_by before l ∷ []) k x e)

same_way : (before : List KeptLed) (ls : List Link) (parent : Option ℕ) → IsBefore (length before) parent → way_there before parent ≡ way_there (led_by_links before ls) parent
same_way before ls None h = refl
same_way before ls (Some k) h = let at = stands_in before k h in ap (option_map (λ (l : KeptLed). l.way)) (at.there ∙ sym (stays before ls k at.item at.there))

abbrev led_over : Link → Option KeptWay → KeptLed
led_over l w = record { entity = l.entity; way = way_over l w }

-- the view at a place is that of the link there, by that of its parent
pub record LinkTold (ls : List KeptLed) (place : ℕ) (l : Link) : Type 0 where
  pub led : slice_get ls place ≡ Some (led_by ls l)
  pub parent : IsBefore place l.parent
  pub first : l.first ≡ slice_get (way_linked ls l).hidden 0

link_on : (before : List KeptLed) (ls : List Link) (i place : ℕ) (l : Link) → AreLinkedOn before ls → slice_get ls i ≡ Some l → place ≡ length before + i → LinkTold (led_by_links before ls) place l
link_on before [] i place l h e p = absurd (none-some l e)
link_on before (x ∷ ls) zero place l h e p = subst (λ (y : Link). LinkTold all place y) (same_Some x l e) here
  where
    all : List KeptLed
    all = led_by_links before (x ∷ ls)

    same : way_there before x.parent ≡ way_there all x.parent
    same = same_way before (x ∷ ls) x.parent h.0.parent

    at : place ≡ length before
    at = p ∙ plain (length before)
      where
        plain : (n : ℕ) → n + 0 ≡ n
        plain n = omega arith

    here : LinkTold all place x
    here = record {
      led = ap (slice_get all) at ∙ (stays (before ++ led_by before x ∷ []) ls (length before) (led_by before x) (at_end before (led_by before x)) ∙ ap (λ w. Some (led_over x w)) same);
      parent = subst (λ (n : ℕ). IsBefore n x.parent) (sym at) h.0.parent;
      first = h.0.first ∙ ap (λ w. slice_get (way_over x w).hidden 0) same;
    }
link_on before (x ∷ ls) (suc i) place l h e p = link_on (before ++ led_by before x ∷ []) ls i place l h.1 e (p ∙ moved (length (before ++ led_by before x ∷ [])) (length before) i (length_push before (led_by before x)))
  where
    moved : (m n k : ℕ) → m ≡ n + 1 → n + suc k ≡ m + k
    moved m n k e = omega (arith, e)

pub link_told : (links : List Link) (place : ℕ) (l : Link) → LinksFollowOneAnother links → slice_get links place ≡ Some l → LinkTold (ways_linked links) place l
link_told links place l h e = link_on [] links place place l h e (sym (front place))

-- the item of an index
pub link_read : (links : List Link) (place : ℕ) (l : Link) → place < length links → l ≡ get_or links place l → slice_get links place ≡ Some l
link_read links place l inside is = slice_get-get_or links place l inside ∙ ap Some (sym is)

pub way_told : (ls : List KeptLed) (place : ℕ) (l : Link) → LinkTold ls place l → way_there ls (Some place) ≡ Some (way_linked ls l)
way_told ls place l t = ap (option_map (λ (x : KeptLed). x.way)) t.led

pub entity_told : (ls : List KeptLed) (place : ℕ) (l : Link) → LinkTold ls place l → Some l.entity ≡ option_map (λ (x : KeptLed). x.entity) (slice_get ls place)
entity_told ls place l t = sym (ap (option_map (λ (x : KeptLed). x.entity)) t.led)

-- a parent before a place among these is one of them
pub before_all : (place n : ℕ) (parent : Option ℕ) → place < n → IsBefore place parent → IsBefore n parent
before_all place n None inside h = tt
before_all place n (Some k) inside h = omega (arith, inside, h)

pub parent_there : (links : List Link) (place : ℕ) (l : Link) (k : ℕ) → IsLinkAt links place l → l.parent ≡ Some k → k < length links
parent_there links place l k at e =
    subst (λ (o : Option ℕ). IsBefore (length links) o) e (before_all place (length links) l.parent (slice_get_within links place l at.there) (link_told links place l at.linked at.there).parent)

pub parent_told : (ls : List KeptLed) (place : ℕ) (x : Link) → LinkTold ls place x → (parent : Option ℕ) → x.parent ≡ parent → IsParentAt ls place parent
parent_told ls place x t None e = λ l there. let is : l ≡ led_by ls x = same_Some l (led_by ls x) (sym there ∙ t.led) in ap (λ (y : KeptLed). y.way.behind) is ∙ ap (λ o. views_kept (way_there ls o)) e
parent_told ls place x t (Some k) e = (
  subst (λ (o : Option ℕ). IsBefore place o) e t.parent,
  λ l m there above. let is : l ≡ led_by ls x = same_Some l (led_by ls x) (sym there ∙ t.led) in
      ap (λ (y : KeptLed). y.way.behind) is ∙ (ap (λ o. views_kept (way_there ls o)) e ∙ ap (λ o. views_kept (option_map (λ (y : KeptLed). y.way) o)) above),
)

-- The way behind a link.

pub split_told : (ls : List KeptLed) (l : Link) (w : KeptWay) (own : List Hidden) (behind : Option KeptWay) → way_linked ls l ≡ w → own ≡ l.own → behind ≡ way_there ls l.parent → IsSplit w own behind
split_told ls l w own behind is kept there = record {
  views = sym (ap (λ (x : KeptWay). x.behind) is) ∙ ap views_kept (sym there);
  hidden = sym (ap (λ (x : KeptWay). x.hidden) is) ∙ (ap (λ hs. hs ++ hidden_kept (way_there ls l.parent)) (sym kept) ∙ ap (λ o. own ++ hidden_kept o) (sym there));
}

-- Link by link.

-- how many links are before the next one, and itself
abbrev pub places_left : Option ℕ → ℕ
places_left None = 0
places_left (Some place) = suc place

pub fewer_left : (place : ℕ) (parent : Option ℕ) → IsBefore place parent → places_left parent < suc place
fewer_left place None h = omega arith
fewer_left place (Some k) h = omega (arith, h)

-- the views so far, and those from the next place on, are all
pub record ViewsSoFar (links : List Link) (place : ℕ) (views : List ViewMap) (next : Option ℕ) : Type 0 where
  pub inside : IsBefore (length links) next
  pub all : views ++ views_kept (way_there (ways_linked links) next) ≡ views_kept (way_there (ways_linked links) (Some place))

-- and so are the variables
pub record HiddenSoFar (links : List Link) (place : ℕ) (hidden : List Hidden) (next : Option ℕ) : Type 0 where
  pub inside : IsBefore (length links) next
  pub all : hidden ++ hidden_kept (way_there (ways_linked links) next) ≡ hidden_kept (way_there (ways_linked links) (Some place))

module _ (links : List Link) (place at : ℕ) (l : Link) (linked : LinksFollowOneAnother links) (inside : at < length links) (is : l ≡ get_or links at l) where
  told : LinkTold (ways_linked links) at l
  told = link_told links at l linked (link_read links at l inside is)

  pub parent_inside : IsBefore (length links) l.parent
  parent_inside = before_all at (length links) l.parent inside told.parent

  pub next_fewer : places_left l.parent < suc at
  next_fewer = fewer_left at l.parent told.parent

  pub views_more : (old new : List ViewMap) → new ≡ old ++ l.view ∷ [] → ViewsSoFar links place old (Some at) → ViewsSoFar links place new l.parent
  views_more old new pushed so = record {
    inside = parent_inside;
    all =
        ap (λ vs. vs ++ views_kept (way_there (ways_linked links) l.parent)) pushed
        ∙ (append_assoc old (l.view ∷ []) (views_kept (way_there (ways_linked links) l.parent))
        ∙ (ap (λ o. old ++ views_kept o) (sym (way_told (ways_linked links) at l told)) ∙ so.all));
  }

  pub hidden_more : (old new : List Hidden) → new ≡ old ++ l.own → HiddenSoFar links place old (Some at) → HiddenSoFar links place new l.parent
  hidden_more old new pushed so = record {
    inside = parent_inside;
    all =
        ap (λ hs. hs ++ hidden_kept (way_there (ways_linked links) l.parent)) pushed
        ∙ (append_assoc old l.own (hidden_kept (way_there (ways_linked links) l.parent))
        ∙ (ap (λ o. old ++ hidden_kept o) (sym (way_told (ways_linked links) at l told)) ∙ so.all));
  }

pub views_first : (links : List Link) (place : ℕ) (views : List ViewMap) → place < length links → views ≡ [] → ViewsSoFar links place views (Some place)
views_first links place views inside none = record { inside = inside; all = ap (λ vs. vs ++ views_kept (way_there (ways_linked links) (Some place))) none }

pub views_end : (links : List Link) (place : ℕ) (views : List ViewMap) (next : Option ℕ) → next ≡ None → ViewsSoFar links place views next → views ≡ views_kept (way_there (ways_linked links) (Some place))
views_end links place views next none so = sym (append-nil views) ∙ (ap (λ o. views ++ views_kept (way_there (ways_linked links) o)) (sym none) ∙ so.all)

pub hidden_first : (links : List Link) (place : ℕ) (hidden : List Hidden) → place < length links → hidden ≡ [] → HiddenSoFar links place hidden (Some place)
hidden_first links place hidden inside none = record { inside = inside; all = ap (λ hs. hs ++ hidden_kept (way_there (ways_linked links) (Some place))) none }

pub hidden_end : (links : List Link) (place : ℕ) (hidden : List Hidden) (next : Option ℕ) → next ≡ None → HiddenSoFar links place hidden next → hidden ≡ hidden_kept (way_there (ways_linked links) (Some place))
hidden_end links place hidden next none so = sym (append-nil hidden) ∙ (ap (λ o. hidden ++ hidden_kept (way_there (ways_linked links) o)) (sym none) ∙ so.all)

-- what is pushed as a reference
pub view_pushed : (old new : List (Bor ViewMap)) (v : Bor ViewMap) (view : ViewMap) → new ≡ old ++ v ∷ [] → v.now ≡ view → map (λ (x : Bor ViewMap). x.now) new ≡ map (λ (x : Bor ViewMap). x.now) old ++ view ∷ []
view_pushed old new v view e is = ap (map (λ (x : Bor ViewMap). x.now)) e ∙ (map_push (λ (x : Bor ViewMap). x.now) old v ∙ ap (λ y. map (λ (x : Bor ViewMap). x.now) old ++ y ∷ []) is)

-- One link more.

pushed_on : (before : List KeptLed) (ls : List Link) (l : Link) → led_by_links before (ls ++ l ∷ []) ≡ led_by_links before ls ++ led_by (led_by_links before ls) l ∷ []
pushed_on before [] l = refl
pushed_on before (x ∷ ls) l = pushed_on (before ++ led_by before x ∷ []) ls l

pub linked_on_more : (before : List KeptLed) (ls : List Link) (l : Link) → AreLinkedOn before ls → CanFollow (led_by_links before ls) l → AreLinkedOn before (ls ++ l ∷ [])
linked_on_more before [] l h follows = (follows, tt)
linked_on_more before (x ∷ ls) l h follows = (h.0, linked_on_more (before ++ led_by before x ∷ []) ls l h.1 follows)

pub linked_pushed : (links new : List Link) (l : Link) (b : Bool) → LinksFollowOneAnother links → CanFollow (ways_linked links) l → new ≡ (if b then links ++ l ∷ [] else links) → LinksFollowOneAnother new
linked_pushed links new l true h follows is = subst (λ (ls : List Link). LinksFollowOneAnother ls) (sym is) (linked_on_more [] links l h follows)
linked_pushed links new l false h follows is = subst (λ (ls : List Link). LinksFollowOneAnother ls) (sym is) h

pub ways_pushed : {E : Type 0} (result : Result (Unit {0}) E) (links new : List Link) (l : Link) → new ≡ (if is_ok result then links ++ l ∷ [] else links) → OnOk result (ways_linked new ≡ ways_linked links ++ led_by (ways_linked links) l ∷ [])
ways_pushed (Ok u) links new l is = ap ways_linked is ∙ pushed_on [] links l
ways_pushed (Err e) links new l is = tt

-- Links as a table shows them.

pub shown_ways : (links shown : List Link) (ways : List KeptLed) → shown ≡ links → ways_linked links ≡ ways → ways_linked shown ≡ ways
shown_ways links shown ways same are = ap ways_linked same ∙ are

pub shown_linked : (links shown : List Link) → shown ≡ links → LinksFollowOneAnother links → LinksFollowOneAnother shown
shown_linked links shown same h = subst (λ (ls : List Link). LinksFollowOneAnother ls) (sym same) h

pub shown_inside : (links shown : List Link) (ways : List KeptLed) (place : ℕ) → shown ≡ links → ways_linked links ≡ ways → place < length ways → place < length shown
shown_inside links shown ways place same are inside = subst (λ (n : ℕ). place < n) (ap (λ (l : List KeptLed). length l) (sym (shown_ways links shown ways same are)) ∙ links_long shown) inside

-- The first variable that keeps an offset.

pub none_first : (own others : List Hidden) → slice_get own 0 ≡ None → slice_get others 0 ≡ slice_get (own ++ others) 0
none_first [] others e = refl
none_first (h ∷ own) others e = absurd (none-some h (sym e))

-- Looking up what a name stands for, and the views of a program one behind the other.
use Rattle.std.proofs.Common.{◌≡◌, ℕ, zero, suc, ◌+◌, ◌<◌, Bool, true, false, if◌then◌else◌, List, [], ◌∷◌, ◌++◌, map, length, drop, get_or, Option, Some, None, option_map, refl, ap, sym, ◌∙◌, subst, add-one, append_assoc, append-nil}
use Rattle.std.specs.Prelude.{slice_get}
use Rattle.std.proofs.Math.Seq.{drop-cons, drop-length}
use Rattle.std.proofs.lemmas.List.{map-append}
use Rattle.dh_base.specs.declared.places.Place.{Place}
use Rattle.dh_tree.proofs.FirstBreaches.{none_is_kept}
use Rattle.dh_tree.proofs.Leasts.{least_append}
use Rattle.dh_tree.specs.declared.breaches.Breach.{Breach}
use Rattle.dh_tree.specs.declared.tables.Dim.{Dim}
use Rattle.dh_tree.specs.declared.tables.MemEntry.{MemEntry}
use Rattle.dh_tree.specs.declared.tables.Shape.{Shape}
use Rattle.dh_tree.specs.declared.viewing.Viewed.{Viewed}
use Rattle.dh_tree.specs.declared.viewing.ViewMap.{ViewMap}
use Rattle.dh_tree.specs.LeastBreach.{least_of}
use Rattle.dh_tree.specs.Memories.{Memory, same_entity, number_in, memory_in, entry_of}
use Rattle.dh_tree.specs.PlainTrees.{ActionForm}
use Rattle.dh_tree.specs.ViewBreaches.{breaks_none, kept_behind, kept_of, kept_shape, kept_shape_in}
use Rattle.dh_tree.specs.ViewFactors.{factors_breaches, viewing_breaches, viewings_breaches}
use Rattle.dh_tree.specs.Views.{Viewing, form_viewings, map_of, shape_in, shrunk_dims, view_in, viewed_behind, viewed_of}
use Rattle.dh_viewing.specs.declared.collecting.DeclaredView.{DeclaredView}
use Rattle.dh_viewing.specs.Finding.{viewings_found, entry_shape, factor_broken_at, kept_through, map_through, memory_shape, place_or, shape_kept, shrunk_by, viewed_as, viewing_found}

-- Memories.

abbrev pub shape_at : List MemEntry → Option ℕ → Option Shape
shape_at es None = None
shape_at es (Some n) = entry_shape (slice_get es n)

further : (x : MemEntry) (es : List MemEntry) (o : Option ℕ) → shape_at es o ≡ shape_at (x ∷ es) (option_map suc o)
further x es None = refl
further x es (Some n) = refl

one_more : (m : Memory) (ms : List Memory) (e : Option ℕ) → memory_shape (memory_in ms e) ≡ shape_at (map entry_of ms) (number_in ms e)
    → (b : Bool) → memory_shape (if b then Some m else memory_in ms e) ≡ shape_at (map entry_of (m ∷ ms)) (if b then Some 0 else option_map suc (number_in ms e))
one_more m ms e rest true = refl
one_more m ms e rest false = rest ∙ further (entry_of m) (map entry_of ms) (number_in ms e)

looked_up : (ms : List Memory) (e : Option ℕ) → memory_shape (memory_in ms e) ≡ shape_at (map entry_of ms) (number_in ms e)
looked_up [] e = refl
looked_up (m ∷ ms) e = one_more m ms e (looked_up ms e) (same_entity m.name.entity e)

same_none : (e : Option ℕ) → same_entity e None ≡ false
same_none None = refl
same_none (Some n) = refl

none_numbered : (ms : List Memory) → number_in ms None ≡ None
none_numbered [] = refl
none_numbered (m ∷ ms) = ap (λ b. if b then Some 0 else option_map suc (number_in ms None)) (same_none m.name.entity) ∙ ap (λ o. option_map suc o) (none_numbered ms)

pub no_memory : (ms : List Memory) (e : Option ℕ) → e ≡ None → None ≡ memory_shape (memory_in ms e)
no_memory ms e is = sym (looked_up ms e ∙ (ap (λ x. shape_at (map entry_of ms) (number_in ms x)) is ∙ ap (λ o. shape_at (map entry_of ms) o) (none_numbered ms)))

pub no_number : (ms : List Memory) (e : Option ℕ) (entity : ℕ) (n : Option ℕ) → e ≡ Some entity → n ≡ number_in ms (Some entity) → n ≡ None → None ≡ memory_shape (memory_in ms e)
no_number ms e entity n named is none =
    sym (looked_up ms e ∙ (ap (λ x. shape_at (map entry_of ms) (number_in ms x)) named ∙ (ap (λ o. shape_at (map entry_of ms) o) (sym is) ∙ ap (λ o. shape_at (map entry_of ms) o) none)))

pub told_by_entry : (ms : List Memory) (e : Option ℕ) (entity : ℕ) (n : Option ℕ) (number : ℕ) (es : List MemEntry) (x : Option MemEntry)
    → e ≡ Some entity → n ≡ number_in ms (Some entity) → n ≡ Some number → es ≡ map entry_of ms → slice_get es number ≡ x → entry_shape x ≡ memory_shape (memory_in ms e)
told_by_entry ms e entity n number es x named is some same found =
    ap entry_shape (sym found)
    ∙ (ap (λ l. entry_shape (slice_get l number)) same
    ∙ (ap (λ o. shape_at (map entry_of ms) o) (sym some)
    ∙ (ap (λ o. shape_at (map entry_of ms) o) is
    ∙ (ap (λ y. shape_at (map entry_of ms) (number_in ms y)) (sym named) ∙ sym (looked_up ms e)))))

-- Dimensions of a shrunk view.

first_by : (ks : List ℕ) (d : Dim) (ds : List Dim) → shrunk_dims ks (d ∷ ds) ≡ shrunk_by (slice_get ks 0) d ∷ shrunk_dims (drop 1 ks) ds
first_by [] d ds = ap (λ l. d ∷ l) (sym (none ds))
  where
    none : (l : List Dim) → shrunk_dims [] l ≡ l
    none l = refl
first_by (k ∷ ks) d ds = refl

first_left : (ks : List ℕ) (i : ℕ) → slice_get (drop i ks) 0 ≡ slice_get ks i
first_left ks zero = refl
first_left [] (suc i) = refl
first_left (k ∷ ks) (suc i) = first_left ks i

tail_left : (ks : List ℕ) (i : ℕ) → drop 1 (drop i ks) ≡ drop (suc i) ks
tail_left ks zero = refl
tail_left [] (suc i) = refl
tail_left (k ∷ ks) (suc i) = tail_left ks i

pub shrunk_next : (ks : List ℕ) (ds all next : List Dim) (i : ℕ) (d : Dim) (one : Dim) → i < length ds → one ≡ shrunk_by (slice_get ks i) (get_or ds i d) → next ≡ all ++ one ∷ []
    → all ++ shrunk_dims (drop i ks) (drop i ds) ≡ shrunk_dims ks ds → next ++ shrunk_dims (drop (i + 1) ks) (drop (i + 1) ds) ≡ shrunk_dims ks ds
shrunk_next ks ds all next i d one below is more h =
    subst (λ (n : ℕ). next ++ shrunk_dims (drop n ks) (drop n ds) ≡ shrunk_dims ks ds) (sym (add-one i))
    (ap (λ l. l ++ shrunk_dims (drop (suc i) ks) (drop (suc i) ds)) (more ∙ ap (λ x. all ++ x ∷ []) is)
    ∙ (append_assoc all (shrunk_by (slice_get ks i) (get_or ds i d) ∷ []) (shrunk_dims (drop (suc i) ks) (drop (suc i) ds))
    ∙ (ap (λ l. all ++ l) (sym step) ∙ h)))
  where
    step : shrunk_dims (drop i ks) (drop i ds) ≡ shrunk_by (slice_get ks i) (get_or ds i d) ∷ shrunk_dims (drop (suc i) ks) (drop (suc i) ds)
    step =
        ap (λ l. shrunk_dims (drop i ks) l) (drop-cons ds i d below)
        ∙ (first_by (drop i ks) (get_or ds i d) (drop (suc i) ds)
        ∙ (ap (λ o. shrunk_by o (get_or ds i d) ∷ shrunk_dims (drop 1 (drop i ks)) (drop (suc i) ds)) (first_left ks i)
        ∙ ap (λ l. shrunk_by (slice_get ks i) (get_or ds i d) ∷ shrunk_dims l (drop (suc i) ds)) (tail_left ks i)))

-- A view is found.
pub view_more : (found new : List DeclaredView) (f : DeclaredView) (seen form : ActionForm) → new ≡ found ++ f ∷ [] → seen ≡ form → form_viewings form ≡ viewing_found f ∷ [] → viewings_found new ≡ viewings_found found ++ form_viewings seen
view_more found new f seen form e s l =
    ap viewings_found e ∙ (map-append viewing_found found (f ∷ []) ∙ ap (λ ms. viewings_found found ++ ms) (sym (ap form_viewings s ∙ l)))

pub shrunk_end : (ks : List ℕ) (ds all : List Dim) (i : ℕ) → i ≡ length ds → all ++ shrunk_dims (drop i ks) (drop i ds) ≡ shrunk_dims ks ds → all ≡ shrunk_dims ks ds
shrunk_end ks ds all i e h =
    sym (append-nil all) ∙ (ap (λ l. all ++ l) (sym (ap (λ l. shrunk_dims (drop i ks) l) (ap (λ n. drop n ds) e ∙ drop-length ds) ∙ none (drop i ks))) ∙ h)
  where
    none : (l : List ℕ) → shrunk_dims l [] ≡ []
    none [] = refl
    none (k ∷ l) = refl

-- Factors, each with its place and its dimension.

module _ (m : Bool) (at : Place) where
  factors_first : (ks : List ℕ) (ps : List Place) (d : Dim) (ds : List Dim)
      → factors_breaches m at ks ps (d ∷ ds) ≡ factor_broken_at m (slice_get ks 0) (place_or at (slice_get ps 0)) d ++ factors_breaches m at (drop 1 ks) (drop 1 ps) ds
  factors_first [] [] d ds = refl
  factors_first [] (p ∷ ps) d ds = refl
  factors_first (k ∷ ks) [] d ds = refl
  factors_first (k ∷ ks) (p ∷ ps) d ds = refl

  first_at : {A : Type 0} (xs : List A) (i : ℕ) → slice_get (drop i xs) 0 ≡ slice_get xs i
  first_at xs zero = refl
  first_at [] (suc i) = refl
  first_at (x ∷ xs) (suc i) = first_at xs i

  tail_at : {A : Type 0} (xs : List A) (i : ℕ) → drop 1 (drop i xs) ≡ drop (suc i) xs
  tail_at xs zero = refl
  tail_at [] (suc i) = refl
  tail_at (x ∷ xs) (suc i) = tail_at xs i

  pub factors_next : (ks : List ℕ) (ps : List Place) (ds : List Dim) (i : ℕ) (d : Dim) (before kept next : Option Breach) → i < length ds
      → next ≡ least_of kept (factor_broken_at m (slice_get ks i) (place_or at (slice_get ps i)) (get_or ds i d))
      → least_of kept (factors_breaches m at (drop i ks) (drop i ps) (drop i ds)) ≡ least_of before (factors_breaches m at ks ps ds)
      → least_of next (factors_breaches m at (drop (i + 1) ks) (drop (i + 1) ps) (drop (i + 1) ds)) ≡ least_of before (factors_breaches m at ks ps ds)
  factors_next ks ps ds i d before kept next below is h =
      subst (λ (n : ℕ). least_of next (factors_breaches m at (drop n ks) (drop n ps) (drop n ds)) ≡ least_of before (factors_breaches m at ks ps ds)) (sym (add-one i))
      (ap (λ o. least_of o rest) is ∙ (sym (least_append kept one rest) ∙ (ap (λ l. least_of kept l) (sym step) ∙ h)))
    where
      one : List Breach
      one = factor_broken_at m (slice_get ks i) (place_or at (slice_get ps i)) (get_or ds i d)

      rest : List Breach
      rest = factors_breaches m at (drop (suc i) ks) (drop (suc i) ps) (drop (suc i) ds)

      step : factors_breaches m at (drop i ks) (drop i ps) (drop i ds) ≡ one ++ rest
      step =
          ap (λ l. factors_breaches m at (drop i ks) (drop i ps) l) (drop-cons ds i d below)
          ∙ (factors_first (drop i ks) (drop i ps) (get_or ds i d) (drop (suc i) ds)
          ∙ (ap (λ o. factor_broken_at m o (place_or at (slice_get (drop i ps) 0)) (get_or ds i d) ++ factors_breaches m at (drop 1 (drop i ks)) (drop 1 (drop i ps)) (drop (suc i) ds)) (first_at ks i)
          ∙ (ap (λ o. factor_broken_at m (slice_get ks i) (place_or at o) (get_or ds i d) ++ factors_breaches m at (drop 1 (drop i ks)) (drop 1 (drop i ps)) (drop (suc i) ds)) (first_at ps i)
          ∙ (ap (λ l. one ++ factors_breaches m at l (drop 1 (drop i ps)) (drop (suc i) ds)) (tail_at ks i)
          ∙ ap (λ l. one ++ factors_breaches m at (drop (suc i) ks) l (drop (suc i) ds)) (tail_at ps i)))))

  pub factors_end : (ks : List ℕ) (ps : List Place) (ds : List Dim) (i : ℕ) (before kept : Option Breach) → i ≡ length ds
      → least_of kept (factors_breaches m at (drop i ks) (drop i ps) (drop i ds)) ≡ least_of before (factors_breaches m at ks ps ds) → kept ≡ least_of before (factors_breaches m at ks ps ds)
  factors_end ks ps ds i before kept e h =
      ap (λ l. least_of kept l) (sym (ap (λ l. factors_breaches m at (drop i ks) (drop i ps) l) (ap (λ n. drop n ds) e ∙ drop-length ds) ∙ none (drop i ks) (drop i ps))) ∙ h
    where
      none : (l : List ℕ) (q : List Place) → factors_breaches m at l q [] ≡ []
      none [] q = refl
      none (k ∷ l) q = refl

-- Views, one behind the other.

found_from : (found : List DeclaredView) (i : ℕ) (x : DeclaredView) → i < length found → x ≡ get_or found i x → viewings_found (drop i found) ≡ viewing_found x ∷ viewings_found (drop (suc i) found)
found_from found i x below is = ap viewings_found (drop-cons found i x below) ∙ ap (λ (f : DeclaredView). viewing_found f ∷ viewings_found (drop (suc i) found)) (sym is)

module _ (ms : List Memory) (found : List DeclaredView) (i : ℕ) (x : DeclaredView) (below : i < length found) (is : x ≡ get_or found i x) where
  pub breaches_next : (first vs more : List Viewed) (before kept next : Option Breach)
      → next ≡ least_of kept (viewing_breaches (viewing_found x) (shape_in ms vs (viewing_found x).parent.entity))
      → more ≡ vs ++ viewed_of (viewing_found x) (shape_in ms vs (viewing_found x).parent.entity)
      → least_of kept (viewings_breaches ms vs (viewings_found (drop i found))) ≡ least_of before (viewings_breaches ms first (viewings_found found))
      → least_of next (viewings_breaches ms more (viewings_found (drop (i + 1) found))) ≡ least_of before (viewings_breaches ms first (viewings_found found))
  breaches_next first vs more before kept next n m h =
      subst (λ (k : ℕ). least_of next (viewings_breaches ms more (viewings_found (drop k found))) ≡ least_of before (viewings_breaches ms first (viewings_found found))) (sym (add-one i))
      (ap (λ o. least_of o (viewings_breaches ms more (viewings_found (drop (suc i) found)))) n
      ∙ (ap (λ l. least_of (least_of kept own) (viewings_breaches ms l (viewings_found (drop (suc i) found)))) m
      ∙ (sym (least_append kept own (viewings_breaches ms (vs ++ viewed_of (viewing_found x) (shape_in ms vs (viewing_found x).parent.entity)) (viewings_found (drop (suc i) found))))
      ∙ (ap (λ l. least_of kept (viewings_breaches ms vs l)) (sym (found_from found i x below is)) ∙ h))))
    where
      own : List Breach
      own = viewing_breaches (viewing_found x) (shape_in ms vs (viewing_found x).parent.entity)

  pub viewed_next : (first vs more : List Viewed)
      → more ≡ vs ++ viewed_of (viewing_found x) (shape_in ms vs (viewing_found x).parent.entity)
      → viewed_behind ms vs (viewings_found (drop i found)) ≡ viewed_behind ms first (viewings_found found)
      → viewed_behind ms more (viewings_found (drop (i + 1) found)) ≡ viewed_behind ms first (viewings_found found)
  viewed_next first vs more m h =
      subst (λ (k : ℕ). viewed_behind ms more (viewings_found (drop k found)) ≡ viewed_behind ms first (viewings_found found)) (sym (add-one i))
      (ap (λ l. viewed_behind ms l (viewings_found (drop (suc i) found))) m ∙ (ap (λ l. viewed_behind ms vs l) (sym (found_from found i x below is)) ∙ h))

  pub kept_next : (first ks more : List Viewed)
      → more ≡ ks ++ kept_of (viewing_found x) (kept_shape_in ms ks (viewing_found x).parent.entity)
      → kept_behind ms ks (viewings_found (drop i found)) ≡ kept_behind ms first (viewings_found found)
      → kept_behind ms more (viewings_found (drop (i + 1) found)) ≡ kept_behind ms first (viewings_found found)
  kept_next first ks more m h =
      subst (λ (k : ℕ). kept_behind ms more (viewings_found (drop k found)) ≡ kept_behind ms first (viewings_found found)) (sym (add-one i))
      (ap (λ l. kept_behind ms l (viewings_found (drop (suc i) found))) m ∙ (ap (λ l. kept_behind ms ks l) (sym (found_from found i x below is)) ∙ h))

-- What a view is, and what is added of it.

as_viewed : (v : Viewing) (o : Option Shape) → viewed_as v.name.entity (map_through v o) ≡ viewed_of v o
as_viewed v None = refl
as_viewed v (Some s) = refl

as_kept : (v : Viewing) (o : Option Shape) → viewed_as v.name.entity (kept_through v o) ≡ kept_of v o
as_kept v None = refl
as_kept v (Some s) = by (breaks_none (viewing_breaches v (Some s)))
  where
    by : (b : Bool) → viewed_as v.name.entity (if b then Some (map_of v.form s) else None) ≡ (if b then viewed_of v (Some s) else [])
    by true = refl
    by false = refl

pub viewed_added : (v : Viewing) (o : Option Shape) (vs new : List Viewed) (m : Option ViewMap) → new ≡ vs ++ viewed_as v.name.entity m → m ≡ map_through v o → new ≡ vs ++ viewed_of v o
viewed_added v o vs new m a e = a ∙ ap (λ l. vs ++ l) (ap (viewed_as v.name.entity) e ∙ as_viewed v o)

pub kept_added : (v : Viewing) (o p : Option Shape) (vs new : List Viewed) (m : Option ViewMap) → new ≡ vs ++ viewed_as v.name.entity m → m ≡ kept_through v o → o ≡ p → new ≡ vs ++ kept_of v p
kept_added v o p vs new m a e is = a ∙ ap (λ l. vs ++ l) (ap (viewed_as v.name.entity) e ∙ (as_kept v o ∙ ap (kept_of v) is))

kept_told : (m : Option Memory) (v : Option ViewMap) → shape_kept (memory_shape m) v ≡ kept_shape m v
kept_told (Some m) v = refl
kept_told None (Some v) = refl
kept_told None None = refl

pub shape_told : (ms : List Memory) (kept : List Viewed) (e : Option ℕ) (answer o : Option Shape) (v : Option ViewMap)
    → answer ≡ shape_kept o v → o ≡ memory_shape (memory_in ms e) → v ≡ view_in kept e → answer ≡ kept_shape_in ms kept e
shape_told ms kept e answer o v a m w = a ∙ (ap (λ x. shape_kept x v) m ∙ (ap (λ x. shape_kept (memory_shape (memory_in ms e)) x) w ∙ kept_told (memory_in ms e) (view_in kept e)))

-- a least breach is kept of some, and none of none
pub breaks : (bs : List Breach) (b : Breach) → Some b ≡ least_of None bs → breaks_none bs ≡ false
breaks [] b e = cc
breaks (c ∷ bs) b e = refl

pub none_broken : (bs : List Breach) → None ≡ least_of None bs → breaks_none bs ≡ true
none_broken bs e = ap breaks_none (none_is_kept bs (sym e))

pub kept_found : (v : Viewing) (s : Shape) (p : Option Shape) (m : ViewMap) (kept : Option Breach) → p ≡ Some s → kept ≡ least_of None (viewing_breaches v (Some s)) → kept ≡ None → m ≡ map_of v.form s → Some m ≡ kept_through v p
kept_found v s p m kept is e none i =
    ap (λ x. Some x) i
    ∙ (sym (ap (λ b. if b then Some (map_of v.form s) else None) (none_broken (viewing_breaches v (Some s)) (sym none ∙ e))) ∙ ap (kept_through v) (sym is))

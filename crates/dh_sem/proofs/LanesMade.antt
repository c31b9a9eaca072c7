-- The rows of copies are the ranks of the paths inside a loop: the copies of the path of rank k have the ranks from k
-- times the factor on, and these can be kept where there are few.
use Rattle.std.proofs.Common.{◌≡◌, ℕ, zero, suc, ◌+◌, ◌*◌, ◌^◌, ◌<◌, ◌≤◌, nat_lt, Bool, true, false, if◌then◌else◌, List, [], ◌∷◌, ◌++◌, length, map, drop, get_or, Some, refl, ap, sym, ◌∙◌, subst, arith, append_assoc, append-nil}
use Rattle.std.specs.Prelude.{slice_get, Vec}
use Rattle.std.specs.Global.{Global}
use Rattle.std.specs.List.{range_with_len}
use Rattle.std.proofs.lemmas.Bool.Decides.{nat_tests}
use Rattle.std.proofs.Math.Nat.{mul-le-mul_left}
use Rattle.std.proofs.lemmas.List.{length-append, length-map, map-append}
use Rattle.std.proofs.Math.Seq.{drop-cons}
use Rattle.dh_meaning.specs.Paths.{Path, all_copies, copies_of, paths_in, outer_paths}
use Rattle.dh_code.specs.Declarations.{factors_inside}
use Rattle.dh_code.specs.Ranks.{IsPath, copies_in, rank_of, ranks_of}
use Rattle.dh_code.specs.Rows.{contents_of}
use Rattle.dh_code.proofs.CommandsCoded.{get_before, get_last}
use Rattle.dh_code.proofs.PathsInOrder.{AreFrom, copies_snoc, length_paths, paths_are, paths_snoc, ranks_snoc}
use Rattle.dh_sem.specs.declared.lanes.Lanes.{Lanes}
use Rattle.dh_sem.specs.Lanes.{AreFirstLanes, LanesInside, LeadsInto, MoreLanes, copied_rows, rank_kept, row_copies}

kept_as : (m : ℕ) → m < 2 ^ 32 → rank_kept m ≡ m
kept_as m few = grind (arith, nat_tests)

row_copies_are : (fs : List ℕ) (f : ℕ) (p : Path) (k : ℕ) → IsPath fs p → rank_of fs p ≡ k → (n : ℕ) → k * f + n ≤ 2 ^ 32 → row_copies (k * f) (ranks_of fs p) n ≡ map (ranks_of (fs ++ f ∷ [])) (copies_of p n)
row_copies_are fs f p k h is zero few = refl
row_copies_are fs f p k h is (suc n) few =
    ap (λ l. l ++ (ranks_of fs p ++ rank_kept (k * f + n) ∷ []) ∷ []) (row_copies_are fs f p k h is n (less (k * f) few))
    ∙ (ap (λ m. map (ranks_of (fs ++ f ∷ [])) (copies_of p n) ++ (ranks_of fs p ++ m ∷ []) ∷ []) (kept_as (k * f + n) (under (k * f) few) ∙ ap (λ m. m * f + n) (sym is))
    ∙ (ap (λ l. map (ranks_of (fs ++ f ∷ [])) (copies_of p n) ++ l ∷ []) (sym (ranks_snoc 0 fs f p n h)) ∙ sym (map-append (ranks_of (fs ++ f ∷ [])) (copies_of p n) ((p ++ n ∷ []) ∷ []))))
  where
    less : (m : ℕ) → m + suc n ≤ 2 ^ 32 → m + n ≤ 2 ^ 32
    less m e = omega (arith, e)

    under : (m : ℕ) → m + suc n ≤ 2 ^ 32 → m + n < 2 ^ 32
    under m e = omega (arith, e)

copied_are : (fs : List ℕ) (f : ℕ) (ps : List Path) (k : ℕ) → AreFrom fs k ps → (k + length ps) * f ≤ 2 ^ 32 → copied_rows (k * f) f (map (ranks_of fs) ps) ≡ map (ranks_of (fs ++ f ∷ [])) (all_copies ps f)
copied_are fs f [] k h few = refl
copied_are fs f (p ∷ ps) k h few =
    ap (λ l. l ++ copied_rows (k * f + f) f (map (ranks_of fs) ps)) (row_copies_are fs f p k h.0.0 h.0.1 f (first (length ps) few))
    ∙ (ap (λ l. map (ranks_of (fs ++ f ∷ [])) (copies_of p f) ++ l) (ap (λ n. copied_rows n f (map (ranks_of fs) ps)) (next k f) ∙ copied_are fs f ps (suc k) h.1 (later (length ps) few))
    ∙ sym (map-append (ranks_of (fs ++ f ∷ [])) (copies_of p f) (all_copies ps f)))
  where
    next : (k f : ℕ) → k * f + f ≡ suc k * f
    next k f = omega arith

    later : (n : ℕ) → (k + suc n) * f ≤ 2 ^ 32 → (suc k + n) * f ≤ 2 ^ 32
    later n e = omega (arith, e)

    first : (n : ℕ) → (k + suc n) * f ≤ 2 ^ 32 → k * f + f ≤ 2 ^ 32
    first n e = omega (arith, e)

-- all of them
pub rows_inside : (fs : List ℕ) (f : ℕ) (outer : List (List ℕ)) → outer ≡ map (ranks_of fs) (paths_in fs) → copies_in (fs ++ f ∷ []) ≤ 2 ^ 32 → copied_rows 0 f outer ≡ map (ranks_of (fs ++ f ∷ [])) (paths_in (fs ++ f ∷ []))
rows_inside fs f outer are few =
    ap (λ l. copied_rows 0 f l) are
    ∙ (ap (λ n. copied_rows n f (map (ranks_of fs) (paths_in fs))) (none f)
    ∙ (copied_are fs f (paths_in fs) 0 (paths_are fs) (by (length (paths_in fs)) (copies_in fs) (length_paths fs) (copies_snoc fs f))
    ∙ ap (λ l. map (ranks_of (fs ++ f ∷ [])) l) (sym (paths_snoc outer_paths fs f))))
  where
    none : (f : ℕ) → 0 ≡ 0 * f
    none f = omega arith

    by : (n m : ℕ) → n ≡ m → copies_in (fs ++ f ∷ []) ≡ m * f → (0 + n) * f ≤ 2 ^ 32
    by n m e g = subst (λ (x : ℕ). x ≤ 2 ^ 32) (g ∙ (ap (λ x. x * f) (sym e) ∙ same n f)) few
      where
        same : (n f : ℕ) → n * f ≡ (0 + n) * f
        same n f = omega arith

-- Rows that are added, one after the other.

pub one_more_row : (rows new : List (Vec ℕ Global)) (old : List (List ℕ)) (row ranks : List ℕ) (added : Vec ℕ Global) (before rank n : ℕ) → contents_of rows ≡ old ++ row_copies before row n → new ≡ rows ++ added ∷ [] → added.items ≡ row ++ rank ∷ []
    → rank ≡ rank_kept (length rows) → length rows ≡ before + n → contents_of new ≡ old ++ row_copies before row (suc n)
one_more_row rows new old row ranks added before rank n so more is kept long =
    ap (λ l. contents_of l) more
    ∙ (map-append (λ v. v.items) rows (added ∷ [])
    ∙ (ap (λ l. l ++ added.items ∷ []) so
    ∙ (ap (λ l. (old ++ row_copies before row n) ++ l ∷ []) (is ∙ ap (λ m. row ++ m ∷ []) (kept ∙ ap rank_kept long))
    ∙ append_assoc old (row_copies before row n) ((row ++ rank_kept (before + n) ∷ []) ∷ []))))

length_row_copies : (before : ℕ) (row : List ℕ) (n : ℕ) → length (row_copies before row n) ≡ n
length_row_copies before row zero = refl
length_row_copies before row (suc n) = length-append (row_copies before row n) ((row ++ rank_kept (before + n) ∷ []) ∷ []) ∙ by (length (row_copies before row n)) (length_row_copies before row n)
  where
    by : (k : ℕ) → k ≡ n → k + 1 ≡ suc n
    by k e = omega (arith, e)

pub long_rows : (rows : List (Vec ℕ Global)) (old : List (Vec ℕ Global)) (row : List ℕ) (before n : ℕ) → contents_of rows ≡ contents_of old ++ row_copies before row n → length rows ≡ length old + n
long_rows rows old row before n is =
    sym (length-map rows (λ (v : Vec ℕ Global). v.items))
    ∙ (ap (λ l. length l) is ∙ (length-append (contents_of old) (row_copies before row n) ∙ by (length (contents_of old)) (length (row_copies before row n)) (length-map old (λ (v : Vec ℕ Global). v.items)) (length_row_copies before row n)))
  where
    by : (a b : ℕ) → a ≡ length old → b ≡ n → a + b ≡ length old + n
    by a b e g = omega (arith, e, g)

-- Lanes behind others.

leads_before : (old new : List Lanes) (number : ℕ) (fs : List ℕ) → MoreLanes old new → LeadsInto old number fs → LeadsInto new number fs
leads_before old new number fs more h = record { found = h.found; there = ap (λ l. slice_get l number) more.are ∙ get_before old more.more number h.found h.there; are = h.are }

-- a loop of one copy adds none
pub inside_same : (old : List Lanes) (outside factor : ℕ) → outside < length old → factor ≤ 1 → LanesInside old old outside factor outside
inside_same old outside factor there one = record {
  more = record { more = []; are = sym (append-nil old) };
  there = there;
  lead = λ fs h few. subst (λ (l : List ℕ). LeadsInto old outside l) (sym (ap (λ (b : Bool). if b then fs ++ factor ∷ [] else fs) (not_more factor one))) h;
}
  where
    not_more : (f : ℕ) → f ≤ 1 → nat_lt 1 f ≡ false
    not_more f e = grind (arith, nat_tests)

-- there is a path inside, where there is one outside
pub row_count : (fs : List ℕ) (rows : List (Vec ℕ Global)) → contents_of rows ≡ map (ranks_of fs) (paths_in fs) → length rows ≡ copies_in fs
row_count fs rows is = sym (length-map rows (λ (v : Vec ℕ Global). v.items)) ∙ (ap (λ l. length l) is ∙ (length-map (paths_in fs) (ranks_of fs) ∙ length_paths fs))

some_inside : (fs : List ℕ) (f : ℕ) (outer rows : List (Vec ℕ Global)) → contents_of outer ≡ map (ranks_of fs) (paths_in fs) → contents_of rows ≡ map (ranks_of (fs ++ f ∷ [])) (paths_in (fs ++ f ∷ [])) → 0 < length outer → 1 < f → 0 < length rows
some_inside fs f outer rows o r some several = by (length outer) (length rows) (copies_in fs) (row_count fs outer o) (row_count (fs ++ f ∷ []) rows r ∙ copies_snoc fs f) some
  where
    by : (n m k : ℕ) → n ≡ k → m ≡ k * f → 0 < n → 0 < m
    by n m k e g h = let a : k * 1 ≤ k * f = mul-le-mul_left k (omega (arith, several)) in omega (arith, a, e, g, h)

some_same : {A : Type 0} (a b : A) → Some a ≡ Some b → a ≡ b
some_same a b e = cc

pub inside_more : (old new : List Lanes) (outside factor number : ℕ) (outer added : Lanes) → slice_get old outside ≡ Some outer → 1 < factor → new ≡ old ++ added ∷ [] → number ≡ length old
    → contents_of added.rows.items ≡ copied_rows 0 factor (contents_of outer.rows.items) → added.all.items ≡ range_with_len 0 (length added.rows.items) → LanesInside old new outside factor number
inside_more old new outside factor number outer added get several is at rows all = record {
  more = record { more = added ∷ []; are = is };
  there = subst (λ (l : List Lanes). number < length l) (sym is) (by (length old) (length (old ++ added ∷ [])) at (length-append old (added ∷ [])));
  lead = λ fs h few.
      let more_now : nat_lt 1 factor ≡ true = grind (arith, nat_tests) in
      let inside : factors_inside fs factor ≡ fs ++ factor ∷ [] = ap (λ (b : Bool). if b then fs ++ factor ∷ [] else fs) more_now in
      let same = some_same outer h.found (sym get ∙ h.there) in
      subst (λ (l : List ℕ). LeadsInto new number l) (sym inside) (record {
        found = added;
        there = ap (λ l. slice_get l number) is ∙ (ap (λ n. slice_get (old ++ added ∷ []) n) at ∙ get_last old added);
        are = record {
          rows = by_rows fs (subst (λ (l : List ℕ). copies_in l ≤ 2 ^ 32) inside few) (ap (λ (l : Lanes). contents_of l.rows.items) same ∙ h.are.rows);
          all = all;
          some_path = some_inside fs factor outer.rows.items added.rows.items (ap (λ (l : Lanes). contents_of l.rows.items) same ∙ h.are.rows) (by_rows fs (subst (λ (l : List ℕ). copies_in l ≤ 2 ^ 32) inside few) (ap (λ (l : Lanes). contents_of l.rows.items) same ∙ h.are.rows)) (subst (λ (l : Lanes). 0 < length l.rows.items) (sym same) h.are.some_path) several;
        };
      });
}
  where
    by_rows : (fs : List ℕ) → copies_in (fs ++ factor ∷ []) ≤ 2 ^ 32 → contents_of outer.rows.items ≡ map (ranks_of fs) (paths_in fs) → contents_of added.rows.items ≡ map (ranks_of (fs ++ factor ∷ [])) (paths_in (fs ++ factor ∷ []))
    by_rows fs few o = rows ∙ rows_inside fs factor (contents_of outer.rows.items) o few

    by : (n m : ℕ) → number ≡ n → m ≡ n + 1 → number < m
    by n m e g = omega (arith, e, g)

-- the one path outside all loops
pub first_of : (lanes : List Lanes) (only : Lanes) → lanes ≡ only ∷ [] → contents_of only.rows.items ≡ (0 ∷ []) ∷ [] → only.all.items ≡ range_with_len 0 (length only.rows.items) → AreFirstLanes lanes
first_of lanes only is rows all = record {
  long = ap (λ l. length l) is;
  lead = record { found = only; there = ap (λ l. slice_get l 0) is; are = record { rows = rows; all = all; some_path = one (length only.rows.items) (row_count [] only.rows.items rows) } };
}
  where
    one : (n : ℕ) → n ≡ 1 → 0 < n
    one n e = omega (arith, e)

-- The copies of one path more.

rows_then : (rows new outer : List (Vec ℕ Global)) (row : Vec ℕ Global) (ranks : List ℕ) (f : ℕ) → ranks ≡ row.items → contents_of new ≡ contents_of rows ++ row_copies (length rows) ranks f
    → contents_of new ++ copied_rows (length new) f (contents_of outer) ≡ contents_of rows ++ copied_rows (length rows) f (row.items ∷ contents_of outer)
rows_then rows new outer row ranks f are is =
    ap (λ l. l ++ copied_rows (length new) f (contents_of outer)) (is ∙ ap (λ r. contents_of rows ++ row_copies (length rows) r f) are)
    ∙ (append_assoc (contents_of rows) (row_copies (length rows) row.items f) (copied_rows (length new) f (contents_of outer))
    ∙ ap (λ n. contents_of rows ++ (row_copies (length rows) row.items f ++ copied_rows n f (contents_of outer))) (long_rows new rows ranks (length rows) f is))

pub rows_more : (rows new outer : List (Vec ℕ Global)) (i f : ℕ) (row : Vec ℕ Global) (ranks : List ℕ) (whole : List (List ℕ)) → i < length outer → row ≡ get_or outer i row → ranks ≡ row.items
    → contents_of new ≡ contents_of rows ++ row_copies (length rows) ranks f → contents_of rows ++ copied_rows (length rows) f (contents_of (drop i outer)) ≡ whole
    → contents_of new ++ copied_rows (length new) f (contents_of (drop (i + 1) outer)) ≡ whole
rows_more rows new outer i f row ranks whole within is are added so =
    ap (λ k. contents_of new ++ copied_rows (length new) f (contents_of (drop k outer))) (next i)
    ∙ (rows_then rows new (drop (suc i) outer) row ranks f are added
    ∙ (ap (λ l. contents_of rows ++ copied_rows (length rows) f (contents_of l)) (sym (drop-cons outer i row within ∙ ap (λ x. x ∷ drop (suc i) outer) (sym is))) ∙ so))
  where
    next : (n : ℕ) → n + 1 ≡ suc n
    next n = omega arith

-- numbers, one after the other
range_more : (a n : ℕ) → range_with_len a (suc n) ≡ range_with_len a n ++ (a + n) ∷ []
range_more a zero = ap (λ x. x ∷ []) (none a)
  where
    none : (n : ℕ) → n ≡ n + 0
    none n = omega arith
range_more a (suc n) = ap (λ l. a ∷ l) (range_more (a + 1) n ∙ ap (λ x. range_with_len (a + 1) n ++ x ∷ []) (moved a n))
  where
    moved : (a n : ℕ) → a + 1 + n ≡ a + suc n
    moved a n = omega arith

pub numbers_more : (all new : List ℕ) (i : ℕ) → all ≡ range_with_len 0 i → new ≡ all ++ i ∷ [] → new ≡ range_with_len 0 (i + 1)
numbers_more all new i are more = more ∙ (ap (λ l. l ++ i ∷ []) are ∙ (ap (λ x. range_with_len 0 i ++ x ∷ []) (none i) ∙ (sym (range_more 0 i) ∙ ap (range_with_len 0) (next i))))
  where
    none : (n : ℕ) → n ≡ 0 + n
    none n = omega arith

    next : (n : ℕ) → suc n ≡ n + 1
    next n = omega arith

-- The lanes of dimensions, while dimensions are gone through from the last one.
use Rattle.std.proofs.Common.{◌≡◌, ℕ, zero, suc, ◌+◌, ◌-◌, ◌*◌, ◌%◌, ◌<◌, ◌≤◌, Bool, List, [], ◌∷◌, ◌++◌, length, map, drop, get_or, refl, ap, sym, ◌∙◌, subst, arith}
use Rattle.std.specs.Prelude.{ℤ, pos, ◌+ℤ◌, unsigned_abs}
use Rattle.std.specs.List.{AllByRecursion}
use Rattle.std.proofs.Math.Nat.{mod-lt}
use Rattle.std.proofs.lemmas.List.{drop_all}
use Rattle.dh_tree.specs.declared.tables.Dim.{Dim}
use Rattle.dh_tree.specs.declared.trees.counters.Counter.{Counter}
use Rattle.dh_tree.specs.declared.trees.expressions.Expr.{Expr}
use Rattle.dh_tree.specs.declared.trees.programs.Tree.{Tree}
use Rattle.dh_tree.specs.Elements.{banks_of, bank_of}
use Rattle.dh_tree.specs.Indices.{index_kind}
use Rattle.dh_tree.specs.Seen.{form_seen, term_seen, terms}
use Rattle.dh_tree.specs.Shapes.{IsDim}
use Rattle.dh_meets.specs.Charges.{loop_factors, index_in, indices_in}
use Rattle.dh_ports.specs.declared.banks.Start.{Start}
use Rattle.dh_ports.specs.declared.copies.CopyLevel.{CopyLevel}
use Rattle.dh_ports.specs.declared.copies.BankDimension.{BankDimension}
use Rattle.dh_ports.specs.Banks.{path_of_number, IsLevel, IsIndexStart}
use Rattle.dh_shape.specs.Classified.{loops_in}
use Rattle.dh_ports.specs.Copies.{copy_of_level, bank_of_lanes, all_lane_banks, HaveBanks, AreLevels, AreIndexLanes}
use Rattle.dh_ports.proofs.BankTurns.{has_banks, banks_more, no_bank}
use Rattle.dh_ports.proofs.LevelTurns.{copy_told}
use Rattle.dh_ports.proofs.PathNumbers.{path_long}
use Rattle.dh_events.proofs.Turns.{at_place}

back : (i : ℕ) → 0 < i → i - 1 + 1 ≡ i
back i e = omega (arith, e)

before : (i n : ℕ) → 0 < i → i ≤ n → i - 1 < n
before i n e f = omega (arith, e, f)

-- the indices at the path of a number, from one on
abbrev pub indices_at : Tree → List Counter → (number : ℕ) → List Expr → List ℕ
indices_at tree loops number es = indices_in (loops_in tree) loops (path_of_number (loop_factors loops) number) (terms (map term_seen es))

abbrev pub as_lane : (banks times low : ℕ) → (offset : ℤ) → (level : ℕ) → BankDimension
as_lane banks times low offset level = record { banks = banks; times = times; low = low; offset = offset; level = level }

-- the lanes so far, the last dimension first
pub record LanesSoFar (tree : Tree) (loops : List Counter) (dims : List Dim) (es : List Expr) (i : ℕ) (lanes : List BankDimension) (times : ℕ) : Type 0 where
  pub counted : times ≡ banks_of (drop i dims)
  pub few : all_lane_banks lanes ≤ 2 * banks_of (drop i dims)
  pub banks : HaveBanks lanes
  pub each : (picks : ℕ → Bool) (levels : List CopyLevel) (number : ℕ) → AreLevels picks 0 (loop_factors loops) levels
      → bank_of_lanes levels lanes number ≡ bank_of (drop i dims) (indices_at tree loops number (drop i es))

abbrev value_of : List CopyLevel → (number : ℕ) → BankDimension → ℕ
value_of levels number l = (unsigned_abs (pos (l.low + copy_of_level levels l.level number) +ℤ l.offset) % l.banks) * l.times

told_append : (levels : List CopyLevel) (ls : List BankDimension) (l : BankDimension) (n : ℕ) → bank_of_lanes levels (ls ++ l ∷ []) n ≡ value_of levels n l + bank_of_lanes levels ls n
told_append levels [] l n = refl
told_append levels (x ∷ ls) l n = ap (λ m. value_of levels n x + m) (told_append levels ls l n) ∙ swapped _ _ _
  where
    swapped : (a b c : ℕ) → a + (b + c) ≡ b + (a + c)
    swapped a b c = omega arith

banks_append : (ls : List BankDimension) (l : BankDimension) → all_lane_banks (ls ++ l ∷ []) ≡ l.banks * l.times + all_lane_banks ls
banks_append [] l = refl
banks_append (x ∷ ls) l = ap (λ m. x.banks * x.times + m) (banks_append ls l) ∙ swapped _ _ _
  where
    swapped : (a b c : ℕ) → a + (b + c) ≡ b + (a + c)
    swapped a b c = omega arith

have_append : (ls : List BankDimension) (l : BankDimension) → HaveBanks ls → 1 ≤ l.banks → HaveBanks (ls ++ l ∷ [])
have_append [] l h e = (e, tt)
have_append (x ∷ ls) l h e = (h.0, have_append ls l h.1 e)

factors_long : (loops : List Counter) → length (loop_factors loops) ≡ length loops
factors_long [] = refl
factors_long (c ∷ cs) = ap suc (factors_long cs)

item_there : {A : Type 0} (xs : List A) (k : ℕ) → k < length xs → (a : A) × (a ≡ get_or xs k a)
item_there [] k h = elim (none k h) [ ]
  where
    none : (k : ℕ) → k < 0 → ⊥
    none k e = omega (arith, e)
item_there (x ∷ xs) zero h = (x, refl)
item_there (x ∷ xs) (suc k) h = item_there xs k (less k (length xs) h)
  where
    less : (k n : ℕ) → suc k < suc n → k < n
    less k n e = omega (arith, e)

module _ (tree : Tree) (loops : List Counter) (ds : List Dim) (es : List Expr) (h : AllByRecursion IsDim ds) (few : banks_of ds ≤ 64) where
  pub lanes_none : (n : ℕ) (lanes : List BankDimension) → n ≡ length ds → lanes ≡ [] → LanesSoFar tree loops ds es n lanes 1
  lanes_none n lanes e f = record {
    counted = ap banks_of (sym past);
    few = subst (λ (ls : List BankDimension). all_lane_banks ls ≤ 2 * banks_of (drop n ds)) (sym f) (least (2 * banks_of (drop n ds)));
    banks = subst (λ (ls : List BankDimension). HaveBanks ls) (sym f) tt;
    each = λ picks levels number a. ap (λ ls. bank_of_lanes levels ls number) f ∙ ap (λ l. bank_of l (indices_at tree loops number (drop n es))) (sym past);
  }
    where
      all_past : (xs : List Dim) → drop (length xs) xs ≡ []
      all_past [] = refl
      all_past (x ∷ xs) = all_past xs

      past : drop n ds ≡ []
      past = ap (λ k. drop k ds) e ∙ all_past ds

      least : (n : ℕ) → 0 ≤ n
      least n = omega arith

  pub lanes_done : (lanes : List BankDimension) (times : ℕ) → LanesSoFar tree loops ds es 0 lanes times → AreIndexLanes tree loops ds es lanes
  lanes_done lanes times so = record {
    few = record { few = within (all_lane_banks lanes) (banks_of ds) so.few few; banks = so.banks };
    each = so.each;
  }
    where
      within : (n b : ℕ) → n ≤ 2 * b → b ≤ 64 → n ≤ 4096
      within n b e f = omega (arith, e, f)

  module _ (i : ℕ) (d : Dim) (some : 0 < i) (within : i ≤ length ds) (lanes lanes1 : List BankDimension) (times times1 : ℕ) (so : LanesSoFar tree loops ds es i lanes times) (timed : times1 ≡ (get_or ds (i - 1) d).banks * times) where
    here : drop (i - 1) ds ≡ get_or ds (i - 1) d ∷ drop i ds
    here = at_place ds (i - 1) d (before i (length ds) some within) ∙ ap (λ n. get_or ds (i - 1) d ∷ drop n ds) (back i some)

    counted : times1 ≡ banks_of (drop (i - 1) ds)
    counted = timed ∙ banks_more ds i d h few some within times so.counted

    some_banks : 1 ≤ (get_or ds (i - 1) d).banks
    some_banks = has_banks ds i d h few some within

    -- where no lane is added
    few_still : lanes1 ≡ lanes → all_lane_banks lanes1 ≤ 2 * banks_of (drop (i - 1) ds)
    few_still e = subst (λ (ls : List BankDimension). all_lane_banks ls ≤ 2 * banks_of (drop (i - 1) ds)) (sym e) (subst (λ (l : List Dim). all_lane_banks lanes ≤ 2 * banks_of l) (sym here) (more _ (banks_of (drop i ds)) (get_or ds (i - 1) d).banks so.few some_banks))
      where
        more : (n b k : ℕ) → n ≤ 2 * b → 1 ≤ k → n ≤ 2 * (k * b)
        more n b k e f = upto n b (k * b) e (larger b k f)
          where
            larger : (b k : ℕ) → 1 ≤ k → b ≤ k * b
            larger b k e = grind arith

            upto : (n b c : ℕ) → n ≤ 2 * b → b ≤ c → n ≤ 2 * c
            upto n b c e f = omega (arith, e, f)

    -- the indices from one more on
    indices_here : (number : ℕ) (e : Expr) → i - 1 < length es → e ≡ get_or es (i - 1) e
        → bank_of (drop (i - 1) ds) (indices_at tree loops number (drop (i - 1) es))
        ≡ (index_in loops (path_of_number (loop_factors loops) number) (index_kind (loops_in tree) e.kind (form_seen e.form)) % (get_or ds (i - 1) d).banks) * banks_of (drop i ds) + bank_of (drop i ds) (indices_at tree loops number (drop i es))
    indices_here number e inside is =
        ap (λ l. bank_of l (indices_at tree loops number (drop (i - 1) es))) here
        ∙ ap (λ l. bank_of (get_or ds (i - 1) d ∷ drop i ds) (indices_at tree loops number l)) (at_place es (i - 1) e inside ∙ (ap (λ x. x ∷ drop (i - 1 + 1) es) (sym is) ∙ ap (λ n. e ∷ drop n es) (back i some)))

    pub lane_more : (e : Expr) (start : Start) (level : ℕ) → i - 1 < length es → e ≡ get_or es (i - 1) e → IsIndexStart tree e start → IsLevel loops start.iterator level → 1 < (get_or ds (i - 1) d).banks
        → lanes1 ≡ lanes ++ record { banks = (get_or ds (i - 1) d).banks; times = times; low = start.low; offset = start.offset; level = level } ∷ [] → LanesSoFar tree loops ds es (i - 1) lanes1 times1
    lane_more e start level inside is s l large pushed = record {
      counted = counted;
      few = subst (λ (ls : List BankDimension). all_lane_banks ls ≤ 2 * banks_of (drop (i - 1) ds)) (sym pushed)
          (subst (λ (n : ℕ). n ≤ 2 * banks_of (drop (i - 1) ds)) (sym (banks_append lanes _ ∙ ap (λ n. (get_or ds (i - 1) d).banks * n + all_lane_banks lanes) so.counted))
          (subst (λ (x : List Dim). (get_or ds (i - 1) d).banks * banks_of (drop i ds) + all_lane_banks lanes ≤ 2 * banks_of x) (sym here) (sums (banks_of (drop i ds)) (get_or ds (i - 1) d).banks _ large so.few)));
      banks = subst (λ (ls : List BankDimension). HaveBanks ls) (sym pushed) (have_append lanes _ so.banks some_banks);
      each = λ picks levels number a.
          ap (λ ls. bank_of_lanes levels ls number) pushed
          ∙ (told_append levels lanes _ number
          ∙ (ap (λ n. (unsigned_abs (pos (start.low + n) +ℤ start.offset) % (get_or ds (i - 1) d).banks) * times + bank_of_lanes levels lanes number) (copy_told picks 0 (loop_factors loops) levels number level a ∙ l (path_of_number (loop_factors loops) number) (path_long (loop_factors loops) number ∙ factors_long loops))
          ∙ (ap (λ n. (n % (get_or ds (i - 1) d).banks) * times + bank_of_lanes levels lanes number) (sym (s.value loops (path_of_number (loop_factors loops) number)))
          ∙ (ap (λ n. (index_in loops (path_of_number (loop_factors loops) number) (index_kind (loops_in tree) e.kind (form_seen e.form)) % (get_or ds (i - 1) d).banks) * n + bank_of_lanes levels lanes number) so.counted
          ∙ (ap (λ n. (index_in loops (path_of_number (loop_factors loops) number) (index_kind (loops_in tree) e.kind (form_seen e.form)) % (get_or ds (i - 1) d).banks) * banks_of (drop i ds) + n) (so.each picks levels number a)
          ∙ sym (indices_here number e inside is))))));
    }
      where
        sums : (b k n : ℕ) → 1 < k → n ≤ 2 * b → k * b + n ≤ 2 * (k * b)
        sums b k n e f = upto (k * b) b n (twice b k e) f
          where
            twice : (b k : ℕ) → 1 < k → 2 * b ≤ k * b
            twice b k e = grind arith

            upto : (c b n : ℕ) → 2 * b ≤ c → n ≤ 2 * b → c + n ≤ 2 * c
            upto c b n e f = omega (arith, e, f)

    pub lane_one : i - 1 < length es → (get_or ds (i - 1) d).banks ≤ 1 → lanes1 ≡ lanes → LanesSoFar tree loops ds es (i - 1) lanes1 times1
    lane_one inside small same = record {
      counted = counted;
      few = few_still same;
      banks = subst (λ (ls : List BankDimension). HaveBanks ls) (sym same) so.banks;
      each = λ picks levels number a.
          let e = item_there es (i - 1) inside in
          ap (λ ls. bank_of_lanes levels ls number) same
          ∙ (so.each picks levels number a
          ∙ (none (index_in loops (path_of_number (loop_factors loops) number) (index_kind (loops_in tree) e.0.kind (form_seen e.0.form)) % (get_or ds (i - 1) d).banks) (banks_of (drop i ds)) _
          (zero_of _ (get_or ds (i - 1) d).banks (mod-lt (index_in loops (path_of_number (loop_factors loops) number) (index_kind (loops_in tree) e.0.kind (form_seen e.0.form))) {m = (get_or ds (i - 1) d).banks} some_banks) small)
          ∙ sym (indices_here number e.0 inside e.1)));
    }
      where
        zero_of : (m n : ℕ) → m < n → n ≤ 1 → m ≡ 0
        zero_of m n e f = omega (arith, e, f)

        none : (m c b : ℕ) → m ≡ 0 → b ≡ m * c + b
        none m c b e = only c b ∙ sym (ap (λ n. n * c + b) e)
          where
            only : (c b : ℕ) → b ≡ 0 * c + b
            only c b = omega arith

    pub lane_same : length es ≤ i - 1 → lanes1 ≡ lanes → LanesSoFar tree loops ds es (i - 1) lanes1 times1
    lane_same past same = record {
      counted = counted;
      few = few_still same;
      banks = subst (λ (ls : List BankDimension). HaveBanks ls) (sym same) so.banks;
      each = λ picks levels number a.
          ap (λ ls. bank_of_lanes levels ls number) same
          ∙ (so.each picks levels number a
          ∙ (ap (λ l. bank_of (drop i ds) (indices_at tree loops number l)) (drop_all i es (further _ _ past))
          ∙ (no_bank (drop i ds)
          ∙ (sym (no_bank (drop (i - 1) ds)) ∙ sym (ap (λ l. bank_of (drop (i - 1) ds) (indices_at tree loops number l)) (drop_all (i - 1) es past))))));
    }
      where
        further : (n i : ℕ) → n ≤ i - 1 → n ≤ i
        further n i e = omega (arith, e)

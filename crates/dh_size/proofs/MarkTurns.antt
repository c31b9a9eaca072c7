-- Which banks are marked, while paths are gone through, and how many marks there are.
use Rattle.std.proofs.Common.{◌≡◌, ℕ, zero, suc, add-one, ◌+◌, ◌<◌, ◌≤◌, ◌==◌, ◌||◌, Bool, true, false, if◌then◌else◌, List, [], ◌∷◌, ◌++◌, length, drop, get_or, replicate, slice_set, refl, ap, sym, ◌∙◌, subst, arith, ◌⊎◌, inl, inr}
use Rattle.std.specs.List.{list_any}
use Rattle.std.proofs.lemmas.Bool.{cases_Bool, eqb-true, eq-eqb}
use Rattle.dh_tree.specs.declared.tables.Dim.{Dim}
use Rattle.dh_tree.specs.declared.trees.programs.Tree.{Tree}
use Rattle.dh_tree.specs.Seen.{program_seen}
use Rattle.dh_meaning.specs.Paths.{copies_in, paths_in}
use Rattle.dh_meets.specs.Charges.{loop_factors, paths_of}
use Rattle.dh_meets.specs.SourceEvents.{SourceAccess}
use Rattle.dh_ports.specs.Banks.{bank_at_path, path_of_number}
use Rattle.dh_ports.proofs.PathNumbers.{each_below, no_paths, paths_are}
use Rattle.dh_size.specs.Marks.{reached_below, AreBankMarks}
use Rattle.dh_size.specs.Sizes.{count_below, is_reached, marked}

absurd : {A : Type 0} → ⊥ → A
absurd e = elim e [ ]

-- Marks.

module _ (tree : Tree) (dims : List Dim) (a : SourceAccess) (banks : ℕ) where
  pub marks_none : (marks : List Bool) → marks ≡ replicate banks false → AreBankMarks tree dims a banks 0 marks
  marks_none marks e = record {
    long = ap length e ∙ none_long banks;
    each = λ bank inside. ap (λ l. get_or l bank false) e ∙ none_at banks bank;
  }
    where
      none_long : (n : ℕ) → length {A = Bool} (replicate n false) ≡ n
      none_long zero = refl
      none_long (suc n) = ap suc (none_long n)

      none_at : (n b : ℕ) → get_or (replicate n false) b false ≡ false
      none_at zero b = refl
      none_at (suc n) zero = refl
      none_at (suc n) (suc b) = none_at n b

  module _ (number : ℕ) (marks : List Bool) (so : AreBankMarks tree dims a banks number marks) (bank : ℕ) (is : bank ≡ bank_at_path tree dims a (path_of_number (loop_factors a.site.loops) number)) where
    more : (b : ℕ) → reached_below tree dims a (suc number) b ≡ (reached_below tree dims a number b || (bank == b))
    more b = ap (λ n. reached_below tree dims a number b || (n == b)) (sym is)

    pub marks_set : (marks1 : List Bool) → bank < banks → marks1 ≡ slice_set marks bank true → AreBankMarks tree dims a banks (number + 1) marks1
    marks_set marks1 inside set = subst (λ (n : ℕ). AreBankMarks tree dims a banks n marks1) (sym (add-one number)) (record {
      long = ap length set ∙ (set_long marks bank true ∙ so.long);
      each = λ b within. ap (λ l. get_or l b false) set ∙ (by b within (cases_Bool (bank == b)) ∙ sym (more b));
    })
      where
        set_long : (xs : List Bool) (k : ℕ) (v : Bool) → length (slice_set xs k v) ≡ length xs
        set_long [] k v = refl
        set_long (x ∷ xs) zero v = refl
        set_long (x ∷ xs) (suc k) v = ap suc (set_long xs k v)

        same : (xs : List Bool) (k : ℕ) → k < length xs → get_or (slice_set xs k true) k false ≡ true
        same [] k h = absurd (none k h)
          where
            none : (k : ℕ) → k < 0 → ⊥
            none k h = omega (arith, h)
        same (x ∷ xs) zero h = refl
        same (x ∷ xs) (suc k) h = same xs k (less k (length xs) h)
          where
            less : (k n : ℕ) → suc k < suc n → k < n
            less k n h = omega (arith, h)

        other : (xs : List Bool) (k b : ℕ) → (k ≡ b → ⊥) → get_or (slice_set xs k true) b false ≡ get_or xs b false
        other [] k b apart = refl
        other (x ∷ xs) zero zero apart = absurd (apart refl)
        other (x ∷ xs) zero (suc b) apart = refl
        other (x ∷ xs) (suc k) zero apart = refl
        other (x ∷ xs) (suc k) (suc b) apart = other xs k b (λ e. apart (ap suc e))

        or_true : (b : Bool) → true ≡ (b || true)
        or_true true = refl
        or_true false = refl

        or_false : (b : Bool) → b ≡ (b || false)
        or_false true = refl
        or_false false = refl

        clash : (b : Bool) → b ≡ true → b ≡ false → ⊥
        clash b e f = cc

        by : (b : ℕ) → b < banks → ((bank == b) ≡ true) ⊎ ((bank == b) ≡ false) → get_or (slice_set marks bank true) b false ≡ (reached_below tree dims a number b || (bank == b))
        by b within (inl e) =
            ap (λ k. get_or (slice_set marks bank true) k false) (sym (eqb-true bank b e))
            ∙ (same marks bank (subst (λ (n : ℕ). bank < n) (sym so.long) inside) ∙ (or_true (reached_below tree dims a number b) ∙ ap (λ t. reached_below tree dims a number b || t) (sym e)))
        by b within (inr e) =
            other marks bank b (λ f. clash (bank == b) (eq-eqb bank b f) e)
            ∙ (so.each b within ∙ (or_false (reached_below tree dims a number b) ∙ ap (λ t. reached_below tree dims a number b || t) (sym e)))

    -- a bank that the memory has not
    pub marks_beyond : banks ≤ bank → AreBankMarks tree dims a banks (number + 1) marks
    marks_beyond out = subst (λ (n : ℕ). AreBankMarks tree dims a banks n marks) (sym (add-one number)) (record {
      long = so.long;
      each = λ b within. so.each b within ∙ (or_false (reached_below tree dims a number b) ∙ (ap (λ t. reached_below tree dims a number b || t) (sym (other b within (cases_Bool (bank == b)))) ∙ sym (more b)));
    })
      where
        or_false : (b : Bool) → b ≡ (b || false)
        or_false true = refl
        or_false false = refl

        apart : (x b : ℕ) → x ≡ b → b < banks → banks ≤ x → ⊥
        apart x b e i o = omega (arith, e, i, o)

        other : (b : ℕ) → b < banks → ((bank == b) ≡ true) ⊎ ((bank == b) ≡ false) → (bank == b) ≡ false
        other b within (inl e) = absurd (apart bank b (eqb-true bank b e) within out)
        other b within (inr e) = e

-- All paths.

-- the paths below the number of all copies are all paths
pub all_paths : (fs : List ℕ) → each_below (path_of_number fs) (copies_in fs) ≡ paths_in fs
all_paths fs = by (none_or (copies_in fs))
  where
    none_or : (m : ℕ) → (1 ≤ m) ⊎ (m ≡ 0)
    none_or zero = inr refl
    none_or (suc m) = inl (omega arith)

    by : (1 ≤ copies_in fs) ⊎ (copies_in fs ≡ 0) → each_below (path_of_number fs) (copies_in fs) ≡ paths_in fs
    by (inl f) = sym (paths_are fs f)
    by (inr f) = ap (each_below (path_of_number fs)) f ∙ sym (no_paths fs f)

long_append : {A : Type 0} (xs : List A) (x : A) → length (xs ++ x ∷ []) ≡ suc (length xs)
long_append [] x = refl
long_append (y ∷ xs) x = ap suc (long_append xs x)

each_long : {A : Type 0} (f : ℕ → A) (n : ℕ) → length (each_below f n) ≡ n
each_long f zero = refl
each_long f (suc n) = long_append (each_below f n) (f n) ∙ ap suc (each_long f n)

-- there are as many as copies
pub paths_counted : (a : SourceAccess) → length (paths_of a) ≡ copies_in (loop_factors a.site.loops)
paths_counted a = ap length (sym (all_paths (loop_factors a.site.loops))) ∙ each_long (path_of_number (loop_factors a.site.loops)) (copies_in (loop_factors a.site.loops))

any_append : {A : Type 0} (t : A → Bool) (xs : List A) (x : A) → list_any t (xs ++ x ∷ []) ≡ (list_any t xs || t x)
any_append t [] x = or_none (t x)
  where
    or_none : (b : Bool) → (b || false) ≡ b
    or_none true = refl
    or_none false = refl
any_append t (y ∷ xs) x = ap (λ b. t y || b) (any_append t xs x) ∙ grouped (t y) (list_any t xs) (t x)
  where
    grouped : (a b c : Bool) → (a || (b || c)) ≡ ((a || b) || c)
    grouped true b c = refl
    grouped false b c = refl

module _ (tree : Tree) (dims : List Dim) (a : SourceAccess) where
  below_any : (number bank : ℕ) → reached_below tree dims a number bank ≡ list_any (λ path. bank_at_path tree dims a path == bank) (each_below (path_of_number (loop_factors a.site.loops)) number)
  below_any zero bank = refl
  below_any (suc number) bank =
      ap (λ b. b || (bank_at_path tree dims a (path_of_number (loop_factors a.site.loops) number) == bank)) (below_any number bank)
      ∙ sym (any_append (λ path. bank_at_path tree dims a path == bank) (each_below (path_of_number (loop_factors a.site.loops)) number) (path_of_number (loop_factors a.site.loops) number))

  -- all paths below the number of copies reach what some path reaches
  pub all_reached : (number bank : ℕ) → number ≡ copies_in (loop_factors a.site.loops) → reached_below tree dims a number bank ≡ is_reached (program_seen tree) dims a bank
  all_reached number bank e =
      below_any number bank
      ∙ ap (list_any (λ path. bank_at_path tree dims a path == bank)) (ap (each_below (path_of_number (loop_factors a.site.loops))) e ∙ all_paths (loop_factors a.site.loops))

-- How many.

counted_first : (t : ℕ → Bool) (n : ℕ) → count_below t (suc n) ≡ (if t 0 then 1 else 0) + count_below (λ k. t (suc k)) n
counted_first t zero = refl
counted_first t (suc n) = ap (λ k. (if t (suc n) then 1 else 0) + k) (counted_first t n) ∙ swapped (if t (suc n) then 1 else 0) (if t 0 then 1 else 0) (count_below (λ k. t (suc k)) n)
  where
    swapped : (a b c : ℕ) → a + (b + c) ≡ b + (a + c)
    swapped a b c = omega arith

-- marks that tell a test
pub marks_counted : (marks : List Bool) (n : ℕ) (t : ℕ → Bool) → length marks ≡ n → ((b : ℕ) → b < n → get_or marks b false ≡ t b) → marked marks ≡ count_below t n
marks_counted [] zero t e h = refl
marks_counted [] (suc n) t e h = absurd (none n e)
  where
    none : (n : ℕ) → 0 ≡ suc n → ⊥
    none n e = omega (arith, e)
marks_counted (m ∷ ms) zero t e h = absurd (none (length ms) e)
  where
    none : (n : ℕ) → suc n ≡ 0 → ⊥
    none n e = omega (arith, e)
marks_counted (m ∷ ms) (suc n) t e h =
    ap (λ (b : Bool). (if b then 1 else 0) + marked ms) (h 0 (some n))
    ∙ (ap (λ k. (if t 0 then 1 else 0) + k) (marks_counted ms n (λ k. t (suc k)) (less (length ms) n e) (λ b i. h (suc b) (more b n i))) ∙ sym (counted_first t n))
  where
    some : (n : ℕ) → 0 < suc n
    some n = omega arith

    less : (m n : ℕ) → suc m ≡ suc n → m ≡ n
    less m n e = omega (arith, e)

    more : (b n : ℕ) → b < n → suc b < suc n
    more b n e = omega (arith, e)

pub marked_most : (marks : List Bool) → marked marks ≤ length marks
marked_most [] = omega arith
marked_most (m ∷ ms) = by m (marked_most ms)
  where
    by : (b : Bool) → marked ms ≤ length ms → (if b then 1 else 0) + marked ms ≤ suc (length ms)
    by true h = omega (arith, h)
    by false h = omega (arith, h)

-- so many are few
pub marks_most : (marks : List Bool) (i count : ℕ) → length marks ≤ 64 → count + marked (drop i marks) ≡ marked marks → count ≤ 64
marks_most marks i count few so = within count (marked (drop i marks)) (marked marks) (length marks) so (marked_most marks) few
  where
    within : (c r m n : ℕ) → c + r ≡ m → m ≤ n → n ≤ 64 → c ≤ 64
    within c r m n e f g = omega (arith, e, f, g)

-- Lists of banks that no step has used, and how many banks the memories before one have.
use Rattle.std.proofs.Common.{◌≡◌, ℕ, zero, suc, ◌+◌, ◌<◌, ◌≤◌, ◌^◌, List, [], ◌∷◌, ◌++◌, length, take, get_or, refl, ap, sym, ◌∙◌, subst, arith, length-append, rules, Fits, w64}
use Rattle.std.specs.Prelude.{slice_set, slice_index_or}
use Rattle.std.specs.List.{AllByRecursion}
use Rattle.dh_tree.specs.declared.tables.Dim.{Dim}
use Rattle.dh_tree.specs.declared.tables.MemEntry.{MemEntry}
use Rattle.dh_tree.specs.Elements.{banks_of}
use Rattle.dh_tree.specs.Shapes.{IsMemory}
use Rattle.dh_tree.specs.Tables.{elements_in, most_elements}
use Rattle.dh_code.specs.declared.spending.Bank.{Bank}
use Rattle.dh_extents.specs.Extents.{AreDims}
use Rattle.dh_code.specs.Banks.{AreFirsts, first_bank, all_banks}
use Rattle.dh_code.specs.Spent.{AreUsedBy}
use Rattle.dh_code.proofs.Entries.{banks_few, dims_of}

-- one bank more at the end
pub used_more : (step : ℕ) (banks : List Bank) (b : Bank) → b.step ≤ step → AreUsedBy step banks → AreUsedBy step (banks ++ b ∷ [])
used_more step [] b e h = (e, tt)
used_more step (x ∷ banks) b e h = (h.0, used_more step banks b e h.1)

-- one bank more is free
pub free_more : (banks : List Bank) (i : ℕ) (b : Bank) → b.step ≡ 0 → AreUsedBy 0 (take i banks) → AreUsedBy 0 (take (suc i) (slice_set banks i b))
free_more [] zero b e h = tt
free_more [] (suc i) b e h = tt
free_more (x ∷ banks) zero b e h = (none b.step e, tt)
  where
    none : (n : ℕ) → n ≡ 0 → n ≤ 0
    none n e = omega (arith, e)
free_more (x ∷ banks) (suc i) b e h = (h.0, free_more banks i b e h.1)

pub free_next : (banks : List Bank) (i : ℕ) (b : Bank) → b.step ≡ 0 → AreUsedBy 0 (take i banks) → AreUsedBy 0 (take (i + 1) (slice_set banks i b))
free_next banks i b e h = subst (λ (n : ℕ). AreUsedBy 0 (take n (slice_set banks i b))) (next i) (free_more banks i b e h)
  where
    next : (n : ℕ) → suc n ≡ n + 1
    next n = omega arith

pub free_all : (banks : List Bank) (i : ℕ) → length banks ≤ i → AreUsedBy 0 (take i banks) → AreUsedBy 0 banks
free_all [] i e h = tt
free_all (x ∷ banks) zero e h = absurd (never (length banks) e)
  where
    never : (n : ℕ) → suc n ≤ 0 → ⊥
    never n e = omega (arith, e)
free_all (x ∷ banks) (suc i) e h = (h.0, free_all banks i (less (length banks) i e) h.1)
  where
    less : (a b : ℕ) → suc a ≤ suc b → a ≤ b
    less a b e = omega (arith, e)

-- the first bank of the next memory
first_more : (table : List MemEntry) (i : ℕ) (d : MemEntry) → i < length table → first_bank table (suc i) ≡ first_bank table i + banks_of (slice_index_or table i d).shape.dims
first_more [] i d h = absurd (never i h)
  where
    never : (i : ℕ) → i < 0 → ⊥
    never i e = omega (arith, e)
first_more (e ∷ []) zero d h = plain (banks_of e.shape.dims)
  where
    plain : (n : ℕ) → n + 0 ≡ 0 + n
    plain n = omega arith
first_more (e ∷ (f ∷ table)) zero d h = plain (banks_of e.shape.dims)
  where
    plain : (n : ℕ) → n + 0 ≡ 0 + n
    plain n = omega arith
first_more (e ∷ table) (suc i) d h = sums _ _ _ _ (first_more table i d (less i (length table) h))
  where
    less : (a b : ℕ) → suc a < suc b → a < b
    less a b e = omega (arith, e)

    sums : (a b c d : ℕ) → b ≡ c + d → a + b ≡ (a + c) + d
    sums a b c d e = omega (arith, e)

pub first_next : (table : List MemEntry) (i b banks before after : ℕ) (d : MemEntry) → i < length table → before ≡ first_bank table i → b ≡ banks_of (slice_index_or table i d).shape.dims → after ≡ before + b → after ≡ first_bank table (i + 1)
first_next table i b banks before after d within is more sum =
    sums _ _ _ _ _ is more sum ∙ (sym (first_more table i d within) ∙ ap (λ n. first_bank table n) (next i))
  where
    next : (n : ℕ) → suc n ≡ n + 1
    next n = omega arith

    sums : (b f before g after : ℕ) → before ≡ f → b ≡ g → after ≡ before + b → after ≡ f + g
    sums b f before g after e h i = omega (arith, e, h, i)

pub first_end : (table : List MemEntry) (i : ℕ) → length table ≤ i → first_bank table i ≡ all_banks table
first_end [] i h = refl
first_end (e ∷ table) zero h = absurd (never (length table) h)
  where
    never : (n : ℕ) → suc n ≤ 0 → ⊥
    never n e = omega (arith, e)
first_end (e ∷ table) (suc i) h = ap (λ n. banks_of e.shape.dims + n) (first_end table i (less (length table) i h))
  where
    less : (a b : ℕ) → suc a ≤ suc b → a ≤ b
    less a b e = omega (arith, e)

first_within : (table : List MemEntry) (i : ℕ) → first_bank table i ≤ all_banks table
first_within [] i = omega arith
first_within (e ∷ table) zero = omega arith
first_within (e ∷ table) (suc i) = sums _ _ _ (first_within table i)
  where
    sums : (a b c : ℕ) → b ≤ c → a + b ≤ a + c
    sums a b c e = omega (arith, e)

-- the sum of banks is a number of 64 bits
pub first_word : (table : List MemEntry) (i b before : ℕ) (d : MemEntry) → AllByRecursion IsMemory table → elements_in table ≤ most_elements → i < length table → before ≡ first_bank table i → b ≡ banks_of (slice_index_or table i d).shape.dims → before + b < 2 ^ 64
first_word table i b before d entries few within is more = sums _ _ _ _ _ _ _ is more (first_more table i d within) (first_within table (suc i)) (banks_few table entries) few
  where
    sums : (b before f g n a k : ℕ) → before ≡ f → b ≡ g → n ≡ f + g → n ≤ a → a ≤ k → k ≤ most_elements → before + b < 2 ^ 64
    sums b before f g n a k e h i j l m = omega (arith, e, h, i, j, l, m)

-- the numbers of the first banks so far
pub record FirstsTo (table : List MemEntry) (firsts : List ℕ) (i : ℕ) : Type 0 where
  pub long : length firsts ≡ i
  pub is : (memory : ℕ) → memory < i → get_or firsts memory 0 ≡ first_bank table memory

pub firsts_none : (table : List MemEntry) → FirstsTo table [] 0
firsts_none table = record { long = refl; is = λ m h. absurd (never m h) }
  where
    never : (i : ℕ) → i < 0 → ⊥
    never i e = omega (arith, e)

get_snoc : (xs : List ℕ) (x i : ℕ) (f : ℕ → ℕ) → ((k : ℕ) → k < length xs → get_or xs k 0 ≡ f k) → x ≡ f (length xs) → i < suc (length xs) → get_or (xs ++ x ∷ []) i 0 ≡ f i
get_snoc [] x zero f h e l = e
get_snoc [] x (suc i) f h e l = absurd (never i l)
  where
    never : (i : ℕ) → suc i < 1 → ⊥
    never i e = omega (arith, e)
get_snoc (y ∷ xs) x zero f h e l = h zero (some (length xs))
  where
    some : (n : ℕ) → 0 < suc n
    some n = omega arith
get_snoc (y ∷ xs) x (suc i) f h e l = get_snoc xs x i (λ k. f (suc k)) (λ k m. h (suc k) (more k (length xs) m)) e (less i (length xs) l)
  where
    more : (a b : ℕ) → a < b → suc a < suc b
    more a b e = omega (arith, e)

    less : (a b : ℕ) → suc a < suc (suc b) → a < suc b
    less a b e = omega (arith, e)

long_snoc : (xs : List ℕ) (x i : ℕ) → length xs ≡ i → length (xs ++ x ∷ []) ≡ i + 1
long_snoc xs x i e = length-append xs (x ∷ []) ∙ ap (λ n. n + 1) e

pub firsts_more : (table : List MemEntry) (firsts new : List ℕ) (i x : ℕ) → FirstsTo table firsts i → x ≡ first_bank table i → new ≡ firsts ++ x ∷ [] → FirstsTo table new (i + 1)
firsts_more table firsts new i x h is pushed = subst (λ (xs : List ℕ). FirstsTo table xs (i + 1)) (sym pushed) (record {
  long = long_snoc firsts x i h.long;
  is = λ m l. get_snoc firsts x m (first_bank table) (λ k e. h.is k (subst (λ (n : ℕ). k < n) h.long e)) (is ∙ ap (first_bank table) (sym h.long)) (within m _ i h.long l);
})
  where
    within : (m n i : ℕ) → n ≡ i → m < i + 1 → m < suc n
    within m n i e f = omega (arith, e, f)

pub firsts_all : (table : List MemEntry) (firsts : List ℕ) (i : ℕ) → i ≡ length table → FirstsTo table firsts i → AreFirsts table firsts
firsts_all table firsts i e h = record {
  long = h.long ∙ e;
  is = λ m l. h.is m (subst (λ (n : ℕ). m < n) (sym e) l);
}

pub first_none : (table : List MemEntry) → 0 ≡ first_bank table 0
first_none [] = refl
first_none (e ∷ table) = refl

-- the next memory of a table, as the code sees it
module _ (table : List MemEntry) (i : ℕ) (entry : MemEntry) (dims : List Dim) (within : i < length table) (is : entry ≡ slice_index_or table i entry) (same : dims ≡ entry.shape.dims) where
  pub next_dims : AllByRecursion IsMemory table → elements_in table ≤ most_elements → AreDims dims
  next_dims entries few = subst (λ (ds : List Dim). AreDims ds) (sym (same ∙ ap (λ (e : MemEntry). e.shape.dims) is)) (dims_of table i entry within entries few)

  module _ (before b : ℕ) where
    more_is : b ≡ banks_of dims → b ≡ banks_of (slice_index_or table i entry).shape.dims
    more_is e = e ∙ ap banks_of (same ∙ ap (λ (e : MemEntry). e.shape.dims) is)

    pub next_word : AllByRecursion IsMemory table → elements_in table ≤ most_elements → before ≡ first_bank table i → b ≡ banks_of dims → before + b < 2 ^ 64
    next_word entries few first e = first_word table i b before entry entries few within first (more_is e)

    pub next_first : before ≡ first_bank table i → b ≡ banks_of dims → before + b ≡ first_bank table (i + 1)
    next_first first e = first_next table i b 0 before (before + b) entry within first (more_is e) refl

pub fits_word : (n : ℕ) → n < 2 ^ 64 → Fits w64 n
fits_word n e = search rules

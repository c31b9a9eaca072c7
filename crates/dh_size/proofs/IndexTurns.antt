-- The bank that indices tell at a path, while dimensions are gone through from the last one.
use Rattle.std.proofs.Common.{◌≡◌, ℕ, zero, suc, ◌+◌, ◌-◌, ◌*◌, ◌%◌, ◌<◌, ◌≤◌, false, List, [], ◌∷◌, length, map, drop, get_or, refl, ap, sym, ◌∙◌, subst, arith}
use Rattle.std.specs.List.{AllByRecursion}
use Rattle.std.proofs.Math.Nat.{mod-lt, mul_comm}
use Rattle.std.proofs.lemmas.Nat.{mul-add-lt}
use Rattle.std.proofs.lemmas.List.{drop_all}
use Rattle.dh_tree.specs.declared.tables.Dim.{Dim}
use Rattle.dh_tree.specs.declared.trees.counters.Counter.{Counter}
use Rattle.dh_tree.specs.declared.trees.expressions.Expr.{Expr}
use Rattle.dh_base.specs.declared.places.Place.{Place}
use Rattle.dh_tree.specs.declared.trees.expressions.Ref.{Ref}
use Rattle.dh_tree.specs.declared.trees.programs.Tree.{Tree}
use Rattle.dh_tree.specs.PlainTrees.{Term, TermForm, accessed, in_bank, no_terms}
use Rattle.dh_tree.specs.Elements.{banks_of, bank_of}
use Rattle.dh_tree.specs.Indices.{index_kind}
use Rattle.dh_tree.specs.Seen.{form_seen, term_seen, terms}
use Rattle.dh_tree.specs.Shapes.{IsDim}
use Rattle.dh_meaning.specs.Paths.{Path}
use Rattle.dh_meets.specs.Charges.{index_in, indices_in, bank_reached}
use Rattle.dh_meets.specs.SourceEvents.{with_indices}
use Rattle.dh_events.specs.Accesses.{element_in}
use Rattle.dh_ports.specs.Banks.{bank_at_path}
use Rattle.dh_shape.specs.Classified.{loops_in}
use Rattle.dh_ports.specs.Claims.{source_of}
use Rattle.dh_ports.proofs.BankTurns.{has_banks, banks_few, no_bank}
use Rattle.dh_ports.proofs.ClaimedBanks.{bank_told}
use Rattle.dh_events.proofs.Turns.{at_place}

-- the values of indices at a path, and the bank that they tell
abbrev pub told_at : Tree → List Counter → Path → List Expr → List ℕ
told_at tree loops path es = indices_in (loops_in tree) loops path (terms (map term_seen es))

abbrev pub bank_told_at : Tree → List Counter → Path → List Dim → List Expr → ℕ
bank_told_at tree loops path ds es = bank_of ds (told_at tree loops path es)

-- the value of one index
abbrev pub value_at : Tree → List Counter → Path → Expr → ℕ
value_at tree loops path e = index_in loops path (index_kind (loops_in tree) e.kind (form_seen e.form))

all_rest : (ds : List Dim) (n : ℕ) → AllByRecursion IsDim ds → AllByRecursion IsDim (drop n ds)
all_rest ds zero h = h
all_rest [] (suc n) h = tt
all_rest (d ∷ ds) (suc n) h = all_rest ds n h.1

back : (i : ℕ) → 0 < i → i - 1 + 1 ≡ i
back i e = omega (arith, e)

before : (i n : ℕ) → 0 < i → i ≤ n → i - 1 < n
before i n e f = omega (arith, e, f)

item_there : {A : Type 0} (xs : List A) (k : ℕ) → k < length xs → (a : A) × (a ≡ get_or xs k a)
item_there [] k h = elim (none k h) [ ]
  where
    none : (k : ℕ) → k < 0 → ⊥
    none k e = omega (arith, e)
item_there (x ∷ xs) zero h = (x, refl)
item_there (x ∷ xs) (suc k) h = item_there xs k (less k (length xs) h)
  where
    less : (k n : ℕ) → suc k < suc n → k < n
    less k n e = omega (arith, e)

pub all_past : (tree : Tree) (loops : List Counter) (path : Path) (ds : List Dim) (es : List Expr) (n : ℕ) → n ≡ length ds → 0 ≡ bank_told_at tree loops path (drop n ds) (drop n es)
all_past tree loops path ds es n e = sym (ap (λ l. bank_told_at tree loops path l (drop n es)) (ap (λ k. drop k ds) e ∙ past ds))
  where
    past : (xs : List Dim) → drop (length xs) xs ≡ []
    past [] = refl
    past (x ∷ xs) = past xs

module _ (ds : List Dim) (i : ℕ) (d : Dim) (h : AllByRecursion IsDim ds) (few : banks_of ds ≤ 64) (some : 0 < i) (within : i ≤ length ds)
    (tree : Tree) (loops : List Counter) (path : Path) (es : List Expr) (count bank : ℕ) (counted : count ≡ banks_of (drop i ds)) (told_so : bank ≡ bank_told_at tree loops path (drop i ds) (drop i es)) where
  here : drop (i - 1) ds ≡ get_or ds (i - 1) d ∷ drop i ds
  here = at_place ds (i - 1) d (before i (length ds) some within) ∙ ap (λ n. get_or ds (i - 1) d ∷ drop n ds) (back i some)

  pub some_banks : 1 ≤ (get_or ds (i - 1) d).banks
  some_banks = has_banks ds i d h few some within

  below : bank < count
  below = subst (λ (n : ℕ). n < count) (sym told_so) (subst (λ (n : ℕ). bank_told_at tree loops path (drop i ds) (drop i es) < n) (sym counted) (bank_told (drop i ds) (told_at tree loops path (drop i es)) (all_rest ds i h)))

  -- an index more stays within the banks
  pub told_few : (value : ℕ) → value % (get_or ds (i - 1) d).banks * count + bank < 64 + 1
  told_few value =
      at_most _ _ _ (mul-add-lt (value % (get_or ds (i - 1) d).banks) count bank (get_or ds (i - 1) d).banks (mod-lt value {m = (get_or ds (i - 1) d).banks} some_banks) below) (mul_comm count (get_or ds (i - 1) d).banks) (banks_few ds i d h few some within count counted)
    where
      at_most : (a b c : ℕ) → a < b → b ≡ c → c ≤ 64 → a < 64 + 1
      at_most a b c e f g = omega (arith, e, f, g)

  pub times_few : (value : ℕ) → value % (get_or ds (i - 1) d).banks * count ≤ 64
  times_few value = at_most _ _ (told_few value)
    where
      at_most : (a b : ℕ) → a + b < 64 + 1 → a ≤ 64
      at_most a b e = omega (arith, e)

  -- the bank with one index more, by its value
  pub told_more : (e : Expr) (residue next : ℕ) → i - 1 < length es → e ≡ get_or es (i - 1) e → residue ≡ value_at tree loops path e % (get_or ds (i - 1) d).banks → next ≡ residue * count + bank → next ≡ bank_told_at tree loops path (drop (i - 1) ds) (drop (i - 1) es)
  told_more e residue next inside is r so =
      so
      ∙ (ap (λ n. n * count + bank) r
      ∙ (ap (λ n. value_at tree loops path e % (get_or ds (i - 1) d).banks * n + bank) counted
      ∙ (ap (λ n. value_at tree loops path e % (get_or ds (i - 1) d).banks * banks_of (drop i ds) + n) told_so
      ∙ (sym (ap (λ l. bank_told_at tree loops path (get_or ds (i - 1) d ∷ drop i ds) l) (at_place es (i - 1) e inside ∙ (ap (λ x. x ∷ drop (i - 1 + 1) es) (sym is) ∙ ap (λ n. e ∷ drop n es) (back i some))))
      ∙ sym (ap (λ l. bank_told_at tree loops path l (drop (i - 1) es)) here)))))

  -- where a dimension has one bank its index tells nothing
  pub told_one : (next : ℕ) → i - 1 < length es → (get_or ds (i - 1) d).banks ≤ 1 → next ≡ bank → next ≡ bank_told_at tree loops path (drop (i - 1) ds) (drop (i - 1) es)
  told_one next inside small so =
      let e = item_there es (i - 1) inside in
      told_more e.0 _ next inside e.1 refl
      (so ∙ none (value_at tree loops path e.0 % (get_or ds (i - 1) d).banks) count bank (zero_of _ (get_or ds (i - 1) d).banks (mod-lt (value_at tree loops path e.0) {m = (get_or ds (i - 1) d).banks} some_banks) small))
    where
      zero_of : (m n : ℕ) → m < n → n ≤ 1 → m ≡ 0
      zero_of m n e f = omega (arith, e, f)

      none : (m c b : ℕ) → m ≡ 0 → b ≡ m * c + b
      none m c b e = only c b ∙ sym (ap (λ n. n * c + b) e)
        where
          only : (c b : ℕ) → b ≡ 0 * c + b
          only c b = omega arith

  -- and where there are no more
  pub told_same : (next : ℕ) → length es ≤ i - 1 → next ≡ bank → next ≡ bank_told_at tree loops path (drop (i - 1) ds) (drop (i - 1) es)
  told_same next past so =
      so
      ∙ (told_so
      ∙ (ap (λ l. bank_told_at tree loops path (drop i ds) l) (drop_all i es (further _ _ past))
      ∙ (no_bank (drop i ds)
      ∙ (sym (no_bank (drop (i - 1) ds)) ∙ sym (ap (λ l. bank_told_at tree loops path (drop (i - 1) ds) l) (drop_all (i - 1) es past))))))
    where
      further : (n i : ℕ) → n ≤ i - 1 → n ≤ i
      further n i e = omega (arith, e)

-- The bank that an access reaches, by its form.
module _ (tree : Tree) (loops : List Counter) (dims : List Dim) (e : Expr) (path : Path) where
  pub reached_indices : (es shown : List Expr) (of : Ref) (result : ℕ) → form_seen e.form ≡ accessed of (terms (map term_seen es)) → shown ≡ es → result ≡ bank_told_at tree loops path dims shown → result ≡ bank_at_path tree dims (source_of loops false e) path
  reached_indices es shown of result is same so = so ∙ (ap (bank_told_at tree loops path dims) same ∙ sym (ap (λ f. bank_reached (loops_in tree) dims (source_of loops false e) path (element_in f)) is))

  pub reached_row : (of : Ref) (bank : ℕ) (place : Place) (row : Term) → form_seen e.form ≡ in_bank of bank place row → bank ≡ bank_at_path tree dims (source_of loops false e) path
  reached_row of bank place row is = sym (ap (λ f. bank_reached (loops_in tree) dims (source_of loops false e) path (element_in f)) is)

  pub reached_none : (f : TermForm) → form_seen e.form ≡ f → element_in f ≡ with_indices no_terms → 0 ≡ bank_at_path tree dims (source_of loops false e) path
  reached_none f is none = sym (ap (λ x. bank_reached (loops_in tree) dims (source_of loops false e) path (element_in x)) is ∙ (ap (bank_reached (loops_in tree) dims (source_of loops false e) path) none ∙ no_bank dims))

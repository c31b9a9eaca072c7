-- Banks, while dimensions are gone through from the last one.
use Rattle.std.proofs.Common.{◌≡◌, ℕ, zero, suc, ◌+◌, ◌-◌, ◌*◌, ◌%◌, ◌<◌, ◌≤◌, List, [], ◌∷◌, length, map, drop, get_or, refl, ap, sym, ◌∙◌, subst, arith}
use Rattle.std.specs.Prelude.{Option, Some, None, pos, ◌+ℤ◌, unsigned_abs}
use Rattle.std.specs.List.{AllByRecursion}
use Rattle.std.proofs.Math.Nat.{mod-lt, mul_comm, le_refl}
use Rattle.std.proofs.lemmas.Nat.{mul-add-lt}
use Rattle.std.proofs.lemmas.List.{drop_all}
use Rattle.dh_tree.specs.declared.tables.Dim.{Dim}
use Rattle.dh_tree.specs.declared.trees.expressions.Expr.{Expr}
use Rattle.dh_tree.specs.declared.trees.programs.Tree.{Tree}
use Rattle.dh_tree.specs.Elements.{banks_of, bank_of}
use Rattle.dh_tree.specs.Indices.{index_kind}
use Rattle.dh_tree.specs.Seen.{form_seen, term_seen, terms}
use Rattle.dh_tree.specs.Shapes.{IsDim}
use Rattle.dh_meets.specs.Charges.{index_in, indices_in}
use Rattle.dh_ports.specs.declared.banks.Start.{Start}
use Rattle.dh_ports.specs.Banks.{copy_of, IsIndexStart}
use Rattle.dh_shape.specs.Classified.{loops_in}
use Rattle.dh_ports.proofs.ClaimedBanks.{bank_told}
use Rattle.dh_events.proofs.Turns.{at_place}

-- the indices outside every unrolled loop, and the bank that they tell
abbrev pub told : Tree → List Expr → List ℕ
told tree es = indices_in (loops_in tree) [] [] (terms (map term_seen es))

abbrev pub bank_at : Tree → List Dim → List Expr → ℕ
bank_at tree ds es = bank_of ds (told tree es)

all_rest : (ds : List Dim) (n : ℕ) → AllByRecursion IsDim ds → AllByRecursion IsDim (drop n ds)
all_rest ds zero h = h
all_rest [] (suc n) h = tt
all_rest (d ∷ ds) (suc n) h = all_rest ds n h.1

times : (b m n : ℕ) → 1 ≤ b → m ≤ n → m ≤ b * n
times b m n e f = grind arith

banks_rest : (ds : List Dim) (n : ℕ) → AllByRecursion IsDim ds → banks_of (drop n ds) ≤ banks_of ds
banks_rest ds zero h = le_refl (banks_of ds)
banks_rest [] (suc n) h = le_refl 1
banks_rest (d ∷ ds) (suc n) h = times d.banks (banks_of (drop n ds)) (banks_of ds) h.0.banks (banks_rest ds n h.1)

back : (i : ℕ) → 0 < i → i - 1 + 1 ≡ i
back i e = omega (arith, e)

before : (i n : ℕ) → 0 < i → i ≤ n → i - 1 < n
before i n e f = omega (arith, e, f)

pub no_bank : (ds : List Dim) → bank_of ds [] ≡ 0
no_bank [] = refl
no_bank (d ∷ ds) = refl

item_there : {A : Type 0} (xs : List A) (k : ℕ) → k < length xs → (a : A) × (a ≡ get_or xs k a)
item_there [] k h = elim (none k h) [ ]
  where
    none : (k : ℕ) → k < 0 → ⊥
    none k e = omega (arith, e)
item_there (x ∷ xs) zero h = (x, refl)
item_there (x ∷ xs) (suc k) h = item_there xs k (less k (length xs) h)
  where
    less : (k n : ℕ) → suc k < suc n → k < n
    less k n e = omega (arith, e)

module _ (ds : List Dim) (i : ℕ) (d : Dim) (h : AllByRecursion IsDim ds) (few : banks_of ds ≤ 64) (some : 0 < i) (within : i ≤ length ds) where
  here : drop (i - 1) ds ≡ get_or ds (i - 1) d ∷ drop i ds
  here = at_place ds (i - 1) d (before i (length ds) some within) ∙ ap (λ n. get_or ds (i - 1) d ∷ drop n ds) (back i some)

  kept : AllByRecursion IsDim (get_or ds (i - 1) d ∷ drop i ds)
  kept = subst (λ (l : List Dim). AllByRecursion IsDim l) here (all_rest ds (i - 1) h)

  pub has_banks : 1 ≤ (get_or ds (i - 1) d).banks
  has_banks = kept.0.banks

  -- the banks of one dimension more
  pub banks_more : (count : ℕ) → count ≡ banks_of (drop i ds) → (get_or ds (i - 1) d).banks * count ≡ banks_of (drop (i - 1) ds)
  banks_more count e = ap (λ n. (get_or ds (i - 1) d).banks * n) e ∙ sym (ap banks_of here)

  pub banks_few : (count : ℕ) → count ≡ banks_of (drop i ds) → (get_or ds (i - 1) d).banks * count ≤ 64
  banks_few count e = at_most _ _ _ (banks_more count e) (banks_rest ds (i - 1) h) few
    where
      at_most : (a b c : ℕ) → a ≡ b → b ≤ c → c ≤ 64 → a ≤ 64
      at_most a b c e f g = omega (arith, e, f, g)

  module _ (tree : Tree) (es : List Expr) (count bank : ℕ) (counted : count ≡ banks_of (drop i ds)) (told_so : bank ≡ bank_at tree (drop i ds) (drop i es)) where
    below : bank < count
    below = subst (λ (n : ℕ). n < count) (sym told_so) (subst (λ (n : ℕ). bank_at tree (drop i ds) (drop i es) < n) (sym counted) (bank_told (drop i ds) (told tree (drop i es)) (all_rest ds i h)))

    -- an index more stays within the banks
    pub told_few : (value : ℕ) → value % (get_or ds (i - 1) d).banks * count + bank < 64 + 1
    told_few value =
        at_most _ _ _ (mul-add-lt (value % (get_or ds (i - 1) d).banks) count bank (get_or ds (i - 1) d).banks (mod-lt value {m = (get_or ds (i - 1) d).banks} kept.0.banks) below) (mul_comm count (get_or ds (i - 1) d).banks) (banks_few count counted)
      where
        at_most : (a b c : ℕ) → a < b → b ≡ c → c ≤ 64 → a < 64 + 1
        at_most a b c e f g = omega (arith, e, f, g)

    pub times_few : (value : ℕ) → value % (get_or ds (i - 1) d).banks * count ≤ 64
    times_few value = at_most _ _ (told_few value)
      where
        at_most : (a b : ℕ) → a + b < 64 + 1 → a ≤ 64
        at_most a b e = omega (arith, e)

    -- the bank with one index more, by its value
    with_value : (e : Expr) (next : ℕ) → i - 1 < length es → e ≡ get_or es (i - 1) e → next ≡ index_in [] [] (index_kind (loops_in tree) e.kind (form_seen e.form)) % (get_or ds (i - 1) d).banks * count + bank → next ≡ bank_at tree (drop (i - 1) ds) (drop (i - 1) es)
    with_value e next inside is so =
        so
        ∙ (ap (λ n. index_in [] [] (index_kind (loops_in tree) e.kind (form_seen e.form)) % (get_or ds (i - 1) d).banks * n + bank) counted
        ∙ (ap (λ n. index_in [] [] (index_kind (loops_in tree) e.kind (form_seen e.form)) % (get_or ds (i - 1) d).banks * banks_of (drop i ds) + n) told_so
        ∙ (sym (ap (λ l. bank_at tree (get_or ds (i - 1) d ∷ drop i ds) l) (at_place es (i - 1) e inside ∙ (ap (λ x. x ∷ drop (i - 1 + 1) es) (sym is) ∙ ap (λ n. e ∷ drop n es) (back i some))))
        ∙ sym (ap (λ l. bank_at tree l (drop (i - 1) es)) here))))

    pub told_more : (e : Expr) (start : Start) (residue next : ℕ) → i - 1 < length es → e ≡ get_or es (i - 1) e → IsIndexStart tree e start → residue ≡ unsigned_abs (pos (start.low + 0) +ℤ start.offset) % (get_or ds (i - 1) d).banks → next ≡ residue * count + bank
        → next ≡ bank_at tree (drop (i - 1) ds) (drop (i - 1) es)
    told_more e start residue next inside is s r so =
        with_value e next inside is
        (so ∙ ap (λ n. n * count + bank) (r ∙ ap (λ n. n % (get_or ds (i - 1) d).banks) (ap (λ n. unsigned_abs (pos (start.low + n) +ℤ start.offset)) (sym (no_copy start.iterator)) ∙ sym (s.value [] []))))
      where
        no_copy : (o : Option ℕ) → copy_of [] [] o ≡ 0
        no_copy None = refl
        no_copy (Some e) = refl

    -- where a dimension has one bank its index tells nothing
    pub told_one : (next : ℕ) → i - 1 < length es → (get_or ds (i - 1) d).banks ≤ 1 → next ≡ bank → next ≡ bank_at tree (drop (i - 1) ds) (drop (i - 1) es)
    told_one next inside small so =
        let e = item_there es (i - 1) inside in
        with_value e.0 next inside e.1
        (so ∙ none (index_in [] [] (index_kind (loops_in tree) e.0.kind (form_seen e.0.form)) % (get_or ds (i - 1) d).banks) count bank
        (zero_of _ (get_or ds (i - 1) d).banks (mod-lt (index_in [] [] (index_kind (loops_in tree) e.0.kind (form_seen e.0.form))) {m = (get_or ds (i - 1) d).banks} kept.0.banks) small))
      where
        zero_of : (m n : ℕ) → m < n → n ≤ 1 → m ≡ 0
        zero_of m n e f = omega (arith, e, f)

        none : (m c b : ℕ) → m ≡ 0 → b ≡ m * c + b
        none m c b e = only c b ∙ sym (ap (λ n. n * c + b) e)
          where
            only : (c b : ℕ) → b ≡ 0 * c + b
            only c b = omega arith

    -- and where there are no more
    pub told_same : (next : ℕ) → length es ≤ i - 1 → next ≡ bank → next ≡ bank_at tree (drop (i - 1) ds) (drop (i - 1) es)
    told_same next past so =
        so
        ∙ (told_so
        ∙ (ap (λ l. bank_at tree (drop i ds) l) (drop_all i es (further _ _ past))
        ∙ (no_bank (drop i ds)
        ∙ (sym (no_bank (drop (i - 1) ds)) ∙ sym (ap (λ l. bank_at tree (drop (i - 1) ds) l) (drop_all (i - 1) es past))))))
      where
        further : (n i : ℕ) → n ≤ i - 1 → n ≤ i
        further n i e = omega (arith, e)

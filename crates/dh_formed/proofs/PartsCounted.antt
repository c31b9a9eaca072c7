-- Counts of operations, one part behind the other: each count of a whole is the sum of those of its parts.
use Rattle.std.proofs.Common.{◌≡◌, ℕ, suc, ◌+◌, ◌≤◌, true, false, List, refl, sym, ap, ◌∙◌, arith, append_assoc}
use Rattle.std.specs.Prelude.{Bool as Truth, [], ◌∷◌, ◌++◌, ◌==◌, ◌&&◌, nat_le, nat_lt, if◌then◌else◌, Option}
use Rattle.std.proofs.lemmas.Bool.Decides.{nat_tests}
use Rattle.std.proofs.lemmas.List.{append-nil}
use Rattle.dh_plan.specs.declared.operations.Operation.{Operation}
use Rattle.dh_plan.specs.declared.operations.OperationForm.{OperationForm}
use Rattle.dh_plan.specs.DoneProgram.{block_products, counts_probe, counts_use, operations_using, probes_among}
use Rattle.dh_plan.specs.LegalSchedules.{is_product}
use Rattle.dh_plan.specs.SoundPlans.{use_in}
use Rattle.dh_expressions.specs.declared.drafts.Draft.{Draft}
use Rattle.dh_formed.specs.Counted.{Counts, nothing, ranged}
use Rattle.dh_expressions.specs.Drafted.{Pushes}
use Rattle.dh_formed.proofs.ElementsFormed.{all_append, all_weaker}

-- Lists of operations.

none_more : (n : ℕ) → n ≡ 0 + n
none_more n = omega arith

products_append : (xs ys : List Operation) → block_products (xs ++ ys) ≡ block_products xs + block_products ys
products_append [] ys = none_more (block_products ys)
products_append (o ∷ xs) ys = by (is_product o.form) (block_products (xs ++ ys)) (block_products xs) (block_products ys) (products_append xs ys)
  where
    by : (t : Truth) (whole a b : ℕ) → whole ≡ a + b → (if t then suc whole else whole) ≡ (if t then suc a else a) + b
    by true whole a b e = omega (arith, e)
    by false whole a b e = e

probes_append : (m : ℕ) (xs ys : List Operation) → probes_among m (xs ++ ys) ≡ probes_among m xs + probes_among m ys
probes_append m [] ys = none_more (probes_among m ys)
probes_append m (o ∷ xs) ys = sum (counts_probe m o.form) (probes_among m (xs ++ ys)) (probes_among m xs) (probes_among m ys) (probes_append m xs ys)
  where
    sum : (c whole a b : ℕ) → whole ≡ a + b → c + whole ≡ c + a + b
    sum c whole a b e = omega (arith, e)

pub uses_append : (m : ℕ) (xs ys : List Operation) → operations_using m (xs ++ ys) ≡ operations_using m xs + operations_using m ys
uses_append m [] ys = none_more (operations_using m ys)
uses_append m (o ∷ xs) ys = sum (counts_use m (use_in o.form)) (operations_using m (xs ++ ys)) (operations_using m xs) (operations_using m ys) (uses_append m xs ys)
  where
    sum : (c whole a b : ℕ) → whole ≡ a + b → c + whole ≡ c + a + b
    sum c whole a b e = omega (arith, e)

-- Parts.

pub counts_none : (old new : Draft) (Is : OperationForm → Type 0) → new ≡ old → Counts old new Is 0 nothing nothing
counts_none old new Is same = record {
  more = [];
  adds = ap (λ (d : Draft). d.operations.items) same ∙ sym (append-nil old.operations.items);
  each = tt;
  products_few = omega arith;
  probes_are = λ m. refl;
  uses_are = λ m. refl;
}

pub counts_again : (a b c : Draft) (Is : OperationForm → Type 0) (p q : ℕ) (f g u v : ℕ → ℕ) → Counts a b Is p f u → Counts b c Is q g v → Counts a c Is (p + q) (λ m. f m + g m) (λ m. u m + v m)
counts_again a b c Is p q f g u v h k = record {
  more = h.more ++ k.more;
  adds = k.adds ∙ (ap (λ (os : List Operation). os ++ k.more) h.adds ∙ append_assoc a.operations.items h.more k.more);
  each = all_append _ h.more k.more h.each k.each;
  products_few = let s = products_append h.more k.more in let l = h.products_few in let r = k.products_few in omega (arith, s, l, r);
  probes_are = λ m. probes_append m h.more k.more ∙ (ap (λ n. n + probes_among m k.more) (h.probes_are m) ∙ ap (λ n. f m + n) (k.probes_are m));
  uses_are = λ m. uses_append m h.more k.more ∙ (ap (λ n. n + operations_using m k.more) (h.uses_are m) ∙ ap (λ n. u m + n) (k.uses_are m));
}

-- the same, told otherwise
pub counts_same : (a b : Draft) (Is Are : OperationForm → Type 0) (p q : ℕ) (f g u v : ℕ → ℕ) → ((o : OperationForm) → Is o → Are o) → p ≤ q → ((m : ℕ) → f m ≡ g m) → ((m : ℕ) → u m ≡ v m)
    → Counts a b Is p f u → Counts a b Are q g v
counts_same a b Is Are p q f g u v weaker few probes uses h = record {
  more = h.more;
  adds = h.adds;
  each = all_weaker _ _ h.more (λ o w. weaker o.form w) h.each;
  products_few = let l = h.products_few in omega (arith, l, few);
  probes_are = λ m. h.probes_are m ∙ probes m;
  uses_are = λ m. h.uses_are m ∙ uses m;
}

-- one operation more
pub counts_pushed : (old new : Draft) (n : ℕ) (guard : Option ℕ) (form : OperationForm) (Is : OperationForm → Type 0) (p : ℕ) (f u : ℕ → ℕ) → Pushes old new n guard form → Is form
    → (if is_product form then 1 else 0) ≤ p → ((m : ℕ) → counts_probe m form ≡ f m) → ((m : ℕ) → counts_use m (use_in form) ≡ u m) → Counts old new Is p f u
counts_pushed old new n guard form Is p f u h is few probes uses = record {
  more = record { guard = guard; form = form } ∷ [];
  adds = h.operations;
  each = (is, tt);
  products_few = few;
  probes_are = λ m. alone (counts_probe m form) ∙ probes m;
  uses_are = λ m. alone (counts_use m (use_in form)) ∙ uses m;
}
  where
    alone : (c : ℕ) → c + 0 ≡ c
    alone c = omega arith

-- Ranges of accesses.

pub ranged_none : (n : ℕ) (f : ℕ → ℕ) (m : ℕ) → 0 ≡ ranged n 0 f m
ranged_none n f m = by (nat_le n m && nat_lt m (n + 0)) (grind (arith, nat_tests))
  where
    by : (t : Truth) → t ≡ false → 0 ≡ (if t then f m else 0)
    by true e = absurd (cc)
    by false e = refl

pub ranged_sum : (n a b : ℕ) (f : ℕ → ℕ) (m : ℕ) → ranged n a f m + ranged (n + a) b f m ≡ ranged n (a + b) f m
ranged_sum n a b f m = sum (f m)
  where
    sum : (v : ℕ) → (if nat_le n m && nat_lt m (n + a) then v else 0) + (if nat_le (n + a) m && nat_lt m (n + a + b) then v else 0) ≡ (if nat_le n m && nat_lt m (n + (a + b)) then v else 0)
    sum v = grind (arith, nat_tests)

-- of one access
pub ranged_one : (own : ℕ) (f : ℕ → ℕ) (m : ℕ) → (if own == m then f own else 0) ≡ ranged own 1 f m
ranged_one own f m = by (own == m) refl
  where
    inside : own ≡ m → (nat_le own m && nat_lt m (own + 1)) ≡ true
    inside e = grind (arith, nat_tests, e)

    outside : (own == m) ≡ false → (nat_le own m && nat_lt m (own + 1)) ≡ false
    outside e = grind (arith, nat_tests, e)

    same : (own == m) ≡ true → own ≡ m
    same e = grind (arith, nat_tests, e)

    by : (t : Truth) → (own == m) ≡ t → (if t then f own else 0) ≡ ranged own 1 f m
    by true e = ap f (same e) ∙ ap (λ t. if t then f m else 0) (sym (inside (same e)))
    by false e = ap (λ t. if t then f m else 0) (sym (outside e))

-- The bank of a shrunk view that covers a bank, while dimensions are gone through.
use Rattle.std.proofs.Common.{◌≡◌, ℕ, zero, suc, ◌+◌, ◌*◌, ◌/◌, ◌%◌, ◌<◌, ◌≤◌, List, [], ◌∷◌, length, drop, get_or, sym, ap, subst, ◌∙◌, add-one, arith}
use Rattle.std.specs.List.{AllByRecursion}
use Rattle.std.proofs.Math.Nat.{mod-lt, mul-one, mul_assoc, add-mul, mul-div_cancel_left, mul-le-mul_left, mul-le-mul_right}
use Rattle.std.proofs.Math.Seq.{drop-cons, drop-length}
use Rattle.dh_tree.specs.declared.tables.Dim.{Dim}
use Rattle.dh_tree.specs.Elements.{banks_of}
use Rattle.dh_tree.specs.Shapes.{IsDim}
use Rattle.dh_viewing.specs.ReachedBanks.{covering}

pub dim_at : (ds : List Dim) (i : ℕ) (d : Dim) → AllByRecursion IsDim ds → i < length ds → IsDim (get_or ds i d)
dim_at [] i d h l = absurd (omega (arith, l))
dim_at (x ∷ ds) zero d h l = h.0
dim_at (x ∷ ds) (suc i) d h l = dim_at ds i d h.1 (omega (arith, l))

rest_dims : (ds : List Dim) (i : ℕ) → AllByRecursion IsDim ds → AllByRecursion IsDim (drop i ds)
rest_dims ds zero h = h
rest_dims [] (suc i) h = tt
rest_dims (d ∷ ds) (suc i) h = rest_dims ds i h.1

one_le : (a b : ℕ) → 1 ≤ a → 1 ≤ b → 1 ≤ a * b
one_le a b h k = let up = mul-le-mul_right b h in omega (arith, up)

some_banks : (ds : List Dim) → AllByRecursion IsDim ds → 1 ≤ banks_of ds
some_banks [] h = omega arith
some_banks (d ∷ ds) h = one_le d.banks (banks_of ds) h.0.banks (some_banks ds h.1)

banks_from : (ds : List Dim) (i : ℕ) (d : Dim) → i < length ds → banks_of (drop i ds) ≡ (get_or ds i d).banks * banks_of (drop (suc i) ds)
banks_from ds i d l = ap (λ xs. banks_of xs) (drop-cons ds i d l)

-- all banks, from the front
pub record Counted (ds : List Dim) (i count : ℕ) : Type 0 where
  pub whole : count * banks_of (drop i ds) ≡ banks_of ds

pub counted_first : (ds : List Dim) → Counted ds 0 1
counted_first ds = record { whole = one_times (banks_of ds) }
  where
    one_times : (n : ℕ) → 1 * n ≡ n
    one_times n = omega arith

pub counted_next : (ds : List Dim) (i : ℕ) (d : Dim) (count : ℕ) → i < length ds → Counted ds i count → Counted ds (i + 1) (count * (get_or ds i d).banks)
counted_next ds i d count l c =
    subst (λ (n : ℕ). Counted ds n (count * (get_or ds i d).banks)) (sym (add-one i))
    (record { whole = mul_assoc count (get_or ds i d).banks (banks_of (drop (suc i) ds)) ∙ (ap (λ n. count * n) (sym (banks_from ds i d l)) ∙ c.whole) })

within : (a b n : ℕ) → 1 ≤ b → a * b ≤ n → a ≤ n
within a b n h l = let up = mul-le-mul_left {m = 1} {n = b} a h in omega (arith, up, l, mul-one a)

pub counted_few : (ds : List Dim) (i : ℕ) (d : Dim) (count most : ℕ) → AllByRecursion IsDim ds → banks_of ds ≤ most → i < length ds → Counted ds i count → count * (get_or ds i d).banks ≤ most
counted_few ds i d count most h few l c =
    let n = counted_next ds i d count l c in
    within (count * (get_or ds i d).banks) (banks_of (drop (i + 1) ds)) most (some_banks (drop (i + 1) ds) (rest_dims ds (i + 1) h)) (let w = n.whole in omega (arith, w, few))

pub counted_all : (ds : List Dim) (i count : ℕ) → i ≡ length ds → Counted ds i count → count ≡ banks_of ds
counted_all ds i count e c =
    let none : drop i ds ≡ [] = ap (λ n. drop n ds) e ∙ drop-length ds in
    sym (mul-one count) ∙ (ap (λ xs. count * banks_of xs) (sym none) ∙ c.whole)

-- Behind the first i dimensions.
pub record Covered (vs ps : List Dim) (whole i inner rest bank : ℕ) : Type 0 where
  pub inner_is : inner ≡ banks_of (drop i ps)
  pub leads : covering vs ps whole ≡ bank * banks_of (drop i vs) + covering (drop i vs) (drop i ps) rest
  pub few : (bank + 1) * banks_of (drop i vs) ≤ 64

pub covered_first : (vs ps : List Dim) (whole inner : ℕ) → inner ≡ banks_of ps → banks_of vs ≤ 64 → Covered vs ps whole 0 inner whole 0
covered_first vs ps whole inner e few = record { inner_is = e; leads = none (banks_of vs) (covering vs ps whole); few = one (banks_of vs) few }
  where
    none : (b c : ℕ) → c ≡ 0 * b + c
    none b c = omega arith

    one : (b : ℕ) → b ≤ 64 → (0 + 1) * b ≤ 64
    one b l = omega (arith, l)

module _ (vs ps : List Dim) (i : ℕ) (d : Dim) (own : AllByRecursion IsDim vs) (dims : AllByRecursion IsDim ps) (long : length vs ≡ length ps) (below : i < length vs) where
  here : i < length ps
  here = omega (arith, below, long)

  v : Dim
  v = get_or vs i d

  p : Dim
  p = get_or ps i d

  pub view_some : 1 ≤ (get_or vs i d).banks
  view_some = (dim_at vs i d own below).banks

  pub parent_some : 1 ≤ (get_or ps i d).banks
  parent_some = (dim_at ps i d dims here).banks

  -- the banks of the dimensions behind
  inner_next : (inner : ℕ) → inner ≡ banks_of (drop i ps) → inner / (get_or ps i d).banks ≡ banks_of (drop (suc i) ps)
  inner_next inner e = ap (λ n. n / (get_or ps i d).banks) (e ∙ banks_from ps i d here) ∙ mul-div_cancel_left (banks_of (drop (suc i) ps)) parent_some

  pub inner_some : (inner : ℕ) → inner ≡ banks_of (drop i ps) → 1 ≤ inner / (get_or ps i d).banks
  inner_some inner e = subst (λ (n : ℕ). 1 ≤ n) (sym (inner_next inner e)) (some_banks (drop (suc i) ps) (rest_dims ps (suc i) dims))

  covering_from : (rest : ℕ) → covering (drop i vs) (drop i ps) rest
      ≡ ((rest / banks_of (drop (suc i) ps)) % (get_or vs i d).banks) * banks_of (drop (suc i) vs) + covering (drop (suc i) vs) (drop (suc i) ps) (rest % banks_of (drop (suc i) ps))
  covering_from rest =
      ap (λ xs. covering xs (drop i ps) rest) (drop-cons vs i d below) ∙ ap (λ xs. covering (get_or vs i d ∷ drop (suc i) vs) xs rest) (drop-cons ps i d here)

  next_is : (bank m r b t whole : ℕ) → whole ≡ bank * (m * b) + (r * b + t) → whole ≡ (bank * m + r) * b + t
  next_is bank m r b t whole e = omega (arith, e, mul_assoc bank m b, add-mul (bank * m) r b)

  next_few : (bank r m b : ℕ) → r < m → (bank + 1) * (m * b) ≤ 64 → (bank * m + r + 1) * b ≤ 64
  next_few bank r m b less h =
      let one : bank * m + r + 1 ≤ (bank + 1) * m = omega (arith, less, add-mul bank 1 m) in
      let up = mul-le-mul_right b one in
      omega (arith, h, up, mul_assoc (bank + 1) m b)

  module _ (whole inner rest bank : ℕ) (c : Covered vs ps whole i inner rest bank) where
    digit : ℕ
    digit = rest / (inner / (get_or ps i d).banks) % (get_or vs i d).banks

    pub covered_next : Covered vs ps whole (i + 1) (inner / (get_or ps i d).banks) (rest % (inner / (get_or ps i d).banks)) (bank * (get_or vs i d).banks + rest / (inner / (get_or ps i d).banks) % (get_or vs i d).banks)
    covered_next =
        let n = inner_next inner c.inner_is in
        let step =
        c.leads ∙ (ap (λ x. bank * x + covering (drop i vs) (drop i ps) rest) (banks_from vs i d below)
        ∙ (ap (λ x. bank * ((get_or vs i d).banks * banks_of (drop (suc i) vs)) + x) (covering_from rest)
        ∙ ap (λ x. bank * ((get_or vs i d).banks * banks_of (drop (suc i) vs)) + ((rest / x % (get_or vs i d).banks) * banks_of (drop (suc i) vs) + covering (drop (suc i) vs) (drop (suc i) ps) (rest % x))) (sym n)))
        in
        subst (λ (k : ℕ). Covered vs ps whole k (inner / (get_or ps i d).banks) (rest % (inner / (get_or ps i d).banks)) (bank * (get_or vs i d).banks + rest / (inner / (get_or ps i d).banks) % (get_or vs i d).banks)) (sym (add-one i))
        (record {
          inner_is = n;
          leads = next_is bank (get_or vs i d).banks (rest / (inner / (get_or ps i d).banks) % (get_or vs i d).banks) (banks_of (drop (suc i) vs)) (covering (drop (suc i) vs) (drop (suc i) ps) (rest % (inner / (get_or ps i d).banks))) (covering vs ps whole) step;
          few = next_few bank (rest / (inner / (get_or ps i d).banks) % (get_or vs i d).banks) (get_or vs i d).banks (banks_of (drop (suc i) vs)) (mod-lt (rest / (inner / (get_or ps i d).banks)) {m = (get_or vs i d).banks} view_some)
              (subst (λ (n : ℕ). (bank + 1) * n ≤ 64) (banks_from vs i d below) c.few);
        })

    -- what is read so far is small
    pub covered_small : bank * (get_or vs i d).banks + rest / (inner / (get_or ps i d).banks) % (get_or vs i d).banks + 1 ≤ 64
    covered_small =
        let n = covered_next in
        within (bank * (get_or vs i d).banks + rest / (inner / (get_or ps i d).banks) % (get_or vs i d).banks + 1) (banks_of (drop (i + 1) vs)) 64 (some_banks (drop (i + 1) vs) (rest_dims vs (i + 1) own)) n.few

pub covered_all : (vs ps : List Dim) (whole i inner rest bank : ℕ) → length vs ≡ length ps → i ≡ length vs → Covered vs ps whole i inner rest bank → bank ≡ covering vs ps whole
covered_all vs ps whole i inner rest bank long e c =
    let none : drop i vs ≡ [] = ap (λ n. drop n vs) e ∙ drop-length vs in
    let last = c.leads ∙ ap (λ xs. bank * banks_of xs + covering xs (drop i ps) rest) none in
    sym (last ∙ plain bank)
  where
    plain : (n : ℕ) → n * 1 + 0 ≡ n
    plain n = omega (arith, mul-one n)

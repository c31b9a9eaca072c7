-- Blocks that are put down one after the other: of each the operations are those between its start and the next one.
use Rattle.std.proofs.Common.{◌≡◌, ℕ, zero, suc, ◌+◌, ◌-◌, ◌<◌, ◌≤◌, ◌⊎◌, inl, inr, List, refl, sym, ap, ◌∙◌, subst, arith, length, drop, take, min, get_or}
use Rattle.std.specs.Prelude.{[], ◌∷◌, ◌++◌, slice_index, reverse}
use Rattle.std.proofs.Math.ListN.{get_or-append}
use Rattle.std.proofs.Math.Seq.{get_or-append_seam, take-append_seam, drop-append_seam, drop-cons}
use Rattle.std.proofs.lemmas.Bool.{cases_lt}
use Rattle.std.proofs.lemmas.Grind.{reverse_onto}
use Rattle.std.proofs.lemmas.List.{append_assoc, append-nil, length-append}
use Rattle.dh_plan.specs.declared.operations.Operation.{Operation}
use Rattle.dh_plan.specs.declared.operations.PlanBlock.{PlanBlock}
use Rattle.dh_address.specs.Images.{operations_until}
use Rattle.dh_address.specs.Cuts.{AreStarts}

-- earlier blocks stay
pub until_before : (bs : List PlanBlock) (c : PlanBlock) (n : ℕ) → n ≤ length bs → operations_until (bs ++ c ∷ []) n ≡ operations_until bs n
until_before [] c zero l = refl
until_before [] c (suc n) l = absurd (omega (arith, l))
until_before (b ∷ bs) c zero l = refl
until_before (b ∷ bs) c (suc n) l = ap (λ (os : List Operation). b.operations ++ os) (until_before bs c n (omega (arith, l)))

pub until_more : (bs : List PlanBlock) (c : PlanBlock) → operations_until (bs ++ c ∷ []) (suc (length bs)) ≡ operations_until bs (length bs) ++ c.operations
until_more [] c = append-nil c.operations
until_more (b ∷ bs) c = ap (λ (os : List Operation). b.operations ++ os) (until_more bs c) ∙ sym (append_assoc b.operations (operations_until bs (length bs)) c.operations)

-- past the end there are no more
pub until_past : (bs : List PlanBlock) (n : ℕ) → length bs ≤ n → operations_until bs (suc n) ≡ operations_until bs n
until_past [] n l = refl
until_past (b ∷ bs) zero l = absurd (omega (arith, l))
until_past (b ∷ bs) (suc n) l = ap (λ (os : List Operation). b.operations ++ os) (until_past bs n (omega (arith, l)))

pub until_next : (bs : List PlanBlock) (n : ℕ) (c : PlanBlock) → n < length bs → get_or bs n c ≡ c → operations_until bs (suc n) ≡ operations_until bs n ++ c.operations
until_next [] n c l e = absurd (omega (arith, l))
until_next (b ∷ bs) zero c l e =
    ap (λ (os : List Operation). b.operations ++ os) (begun bs) ∙ (append-nil b.operations ∙ ap (λ (x : PlanBlock). x.operations) e)
  where
    begun : (bs : List PlanBlock) → operations_until bs zero ≡ []
    begun [] = refl
    begun (b ∷ bs) = refl
until_next (b ∷ bs) (suc n) c l e =
    ap (λ (os : List Operation). b.operations ++ os) (until_next bs n c (omega (arith, l)) e) ∙ sym (append_assoc b.operations (operations_until bs n) c.operations)

-- Starts.

pub no_starts : AreStarts [] []
no_starts = record { as_many = refl; each = λ i l. absurd (omega (arith, l)) }

pub starts_more : (bs : List PlanBlock) (c : PlanBlock) (starts : List ℕ) (s : ℕ) → AreStarts bs starts → s ≡ length (operations_until bs (length bs)) → AreStarts (bs ++ c ∷ []) (starts ++ s ∷ [])
starts_more bs c starts s h is = record { as_many = length-append starts (s ∷ []) ∙ (ap (λ n. n + 1) h.as_many ∙ sym (length-append bs (c ∷ []))); each = each }
  where
    at : (i : ℕ) → (i < length bs) ⊎ (length bs ≤ i) → i ≤ length bs → slice_index (starts ++ s ∷ []) i ≡ length (operations_until (bs ++ c ∷ []) i)
    at i (inl few) l =
        get_or-append starts (s ∷ []) 0 i (subst (λ n. i < n) (sym h.as_many) few)
        ∙ (h.each i few ∙ ap (λ (os : List Operation). length os) (sym (until_before bs c i l)))
    at i (inr last) l =
        let same : i ≡ length starts = let many = h.as_many in omega (arith, many, l, last) in
        ap (λ n. slice_index (starts ++ s ∷ []) n) same
        ∙ (get_or-append_seam starts s [] 0 ∙ (is ∙ (ap (λ n. length (operations_until bs n)) (sym (same ∙ h.as_many)) ∙ ap (λ (os : List Operation). length os) (sym (until_before bs c i l)))))

    each : (i : ℕ) → i < length (bs ++ c ∷ []) → slice_index (starts ++ s ∷ []) i ≡ length (operations_until (bs ++ c ∷ []) i)
    each i l = let long = length-append bs (c ∷ []) in at i (cases_lt i (length bs)) (omega (arith, l, long))

-- Cutting from the end: the operations up to a block, and the blocks from it on, last first.
pub record HasCut (blocks : List PlanBlock) (k : ℕ) (os : List Operation) (found : List PlanBlock) : Type 0 where
  pub left : os ≡ operations_until blocks k
  pub right : found ≡ reverse (drop k blocks)

-- one block more
cut_turn : (blocks : List PlanBlock) (starts : List ℕ) (k : ℕ) (os : List Operation) (found : List PlanBlock) (at : ℕ) (rest own : List Operation) → AreStarts blocks starts
    → k < length starts → at ≡ min (slice_index starts k) (length os) → rest ≡ take at os → own ≡ drop at os → HasCut blocks (suc k) os found
    → HasCut blocks k rest (found ++ record { operations = own } ∷ [])
cut_turn blocks starts k os found at rest own h few at_is rest_is own_is cut = record {
  left = rest_is ∙ (ap (λ n. take n os) place ∙ (ap (λ (l : List Operation). take (length before) l) whole ∙ take-append_seam before c.operations));
  right = ap (λ (bs : List PlanBlock). bs ++ record { operations = own } ∷ []) cut.right
      ∙ (ap (λ (l : List Operation). reverse (drop (suc k) blocks) ++ record { operations = l } ∷ []) last
      ∙ sym (ap (λ (bs : List PlanBlock). reverse bs) (drop-cons blocks k c0 within) ∙ reverse_onto (drop (suc k) blocks) c []));
}
  where
    c0 : PlanBlock
    c0 = record { operations = [] }

    c : PlanBlock
    c = get_or blocks k c0

    within : k < length blocks
    within = subst (λ n. k < n) h.as_many few

    before : List Operation
    before = operations_until blocks k

    whole : os ≡ before ++ c.operations
    whole = cut.left ∙ until_next blocks k c within (there blocks k within)
      where
        there : (bs : List PlanBlock) (n : ℕ) → n < length bs → get_or bs n (get_or bs n c0) ≡ get_or bs n c0
        there [] n l = refl
        there (b ∷ bs) zero l = refl
        there (b ∷ bs) (suc n) l = there bs n (omega (arith, l))

    begins : slice_index starts k ≡ length before
    begins = h.each k within

    place : at ≡ length before
    place =
        let long : length os ≡ length before + length c.operations = ap (λ (l : List Operation). length l) whole ∙ length-append before c.operations in
        at_is ∙ omega (arith, begins, long)

    last : own ≡ c.operations
    last = own_is ∙ (ap (λ n. drop n os) place ∙ (ap (λ (l : List Operation). drop (length before) l) whole ∙ drop-append_seam before c.operations))

pub cut_back : (blocks : List PlanBlock) (starts : List ℕ) (i : ℕ) (os : List Operation) (found more : List PlanBlock) (at : ℕ) (rest own items : List Operation) → 0 < i → i - 1 < length starts
    → at ≡ min (slice_index starts (i - 1)) (length os) → rest ≡ take at os → own ≡ drop at os → items ≡ own → more ≡ found ++ record { operations = items } ∷ []
    → AreStarts blocks starts → HasCut blocks i os found → HasCut blocks (i - 1) rest more
cut_back blocks starts i os found more at rest own items some few at_is rest_is own_is same put h cut =
    subst (λ (bs : List PlanBlock). HasCut blocks (i - 1) rest bs) (sym put)
    (cut_turn blocks starts (i - 1) os found at rest items h few at_is rest_is (same ∙ own_is) (subst (λ n. HasCut blocks n os found) before cut))
  where
    before : i ≡ suc (i - 1)
    before = omega (arith, some)

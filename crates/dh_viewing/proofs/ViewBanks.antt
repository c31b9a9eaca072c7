-- Where the elements of a view lie in its parent, sort by sort: from one bank of the view exactly those banks of
-- the parent are reached that are told.
use Rattle.std.proofs.Common.{◌≡◌, ℕ, suc, ◌+◌, ◌*◌, ◌/◌, ◌%◌, ◌&&◌, true, List, [], ◌∷◌, length, replicate, refl, sym, ap, subst, ◌∙◌, arith}
use Rattle.std.specs.Prelude.{ℤ, pos, negsuc, ◌+ℤ◌, ◌-ℤ◌, ◌*ℤ◌, unsigned_abs}
use Rattle.std.specs.List.{AllByRecursion}
use Rattle.std.proofs.lemmas.Int.{ints}
use Rattle.std.proofs.lemmas.Nat.{div-mul-add, mod-mul-add}
use Rattle.std.proofs.Math.IntN.{pos-*ℤ-pos, pos-*ℤ-negsuc, *ℤ-zero, -ℤ-+ℤ_cancel}
use Rattle.std.proofs.Math.Nat.{mod-mod_of_dvd, dvd-mul_right, add-mul-mod_self_right}
use Rattle.dh_tree.specs.declared.tables.Dim.{Dim}
use Rattle.dh_tree.specs.Elements.{banks_of}
use Rattle.dh_tree.specs.Shapes.{IsDim}
use Rattle.dh_tree.specs.declared.viewing.ViewSort.TheVariants.{Shrink, Suffix}
use Rattle.dh_viewing.specs.ReachedBanks.{bank_at, covering}
use Rattle.dh_tree.specs.ViewElements.{is_index, is_inside, sums, multiples}
use Rattle.dh_tree.specs.ViewShapes.{AreDimsOf}
use Rattle.dh_viewing.proofs.BankDigits.{indices_of, first_of, rest_of, natural_of, bank_at_below}

-- Shrink: sizes stay, and a bank of the view covers those banks that have its residues.

pub same_inside : (vs ps : List Dim) (ks : List ℕ) (is : List ℤ) → AreDimsOf Shrink vs ps ks → is_inside vs is ≡ is_inside ps is
same_inside [] [] [] is h = refl
same_inside [] [] (k ∷ ks) is h = absurd h
same_inside [] (p ∷ ps) ks is h = absurd h
same_inside (v ∷ vs) [] ks is h = absurd h
same_inside (v ∷ vs) (p ∷ ps) [] is h = absurd h
same_inside (v ∷ vs) (p ∷ ps) (k ∷ ks) [] h = refl
same_inside (v ∷ vs) (p ∷ ps) (k ∷ ks) (i ∷ is) h =
    ap (λ n. is_index n i && is_inside vs is) h.0.0 ∙ ap (λ b. is_index p.size i && b) (same_inside vs ps ks is h.1)

-- the element of a bank's number lies in the bank that covers it
pub covered_digits : (vs ps : List Dim) (ks : List ℕ) (bank : ℕ) → AreDimsOf Shrink vs ps ks → bank_at vs (indices_of ps bank) ≡ covering vs ps bank
covered_digits [] [] ks bank h = refl
covered_digits [] (p ∷ ps) ks bank h = absurd h
covered_digits (v ∷ vs) [] ks bank h = absurd h
covered_digits (v ∷ vs) (p ∷ ps) [] bank h = absurd h
covered_digits (v ∷ vs) (p ∷ ps) (k ∷ ks) bank h =
    ap (λ n. ((bank / banks_of ps) % v.banks) * banks_of vs + n) (covered_digits vs ps ks (bank % banks_of ps) h.1)

residue_of : (i m n k : ℕ) → m * k ≡ n → i % n % m ≡ i % m
residue_of i m n k e = subst (λ (x : ℕ). i % x % m ≡ i % m) e (mod-mod_of_dvd m i (dvd-mul_right m k))

-- an element lies in the bank of the view that covers its bank in the parent
pub covered_element : (vs ps : List Dim) (ks : List ℕ) (is : List ℤ) → AreDimsOf Shrink vs ps ks → AllByRecursion IsDim ps → is_inside ps is ≡ true
    → covering vs ps (bank_at ps is) ≡ bank_at vs is
covered_element [] [] ks is h dims e = refl
covered_element [] (p ∷ ps) ks is h dims e = absurd h
covered_element (v ∷ vs) [] ks is h dims e = absurd h
covered_element (v ∷ vs) (p ∷ ps) [] is h dims e = absurd h
covered_element (v ∷ vs) (p ∷ ps) (k ∷ ks) [] h dims e = cc
covered_element (v ∷ vs) (p ∷ ps) (k ∷ ks) (i ∷ is) h dims e =
    let within = rest_of (is_index p.size i) (is_inside ps is) e in
    let below = bank_at_below ps is dims.1 within in
    let first : ((unsigned_abs i % p.banks) * banks_of ps + bank_at ps is) / banks_of ps ≡ unsigned_abs i % p.banks = div-mul-add (unsigned_abs i % p.banks) (banks_of ps) (bank_at ps is) below in
    let rest : ((unsigned_abs i % p.banks) * banks_of ps + bank_at ps is) % banks_of ps ≡ bank_at ps is = mod-mul-add (unsigned_abs i % p.banks) (banks_of ps) (bank_at ps is) below in
    ap (λ n. (n % v.banks) * banks_of vs + covering vs ps (((unsigned_abs i % p.banks) * banks_of ps + bank_at ps is) % banks_of ps)) first
    ∙ (ap (λ n. n * banks_of vs + covering vs ps (((unsigned_abs i % p.banks) * banks_of ps + bank_at ps is) % banks_of ps)) (residue_of (unsigned_abs i) v.banks p.banks k h.0.1.0)
    ∙ (ap (λ n. (unsigned_abs i % v.banks) * banks_of vs + covering vs ps n) rest
    ∙ ap (λ n. (unsigned_abs i % v.banks) * banks_of vs + n) (covered_element vs ps ks is h.1 dims.1 within)))

-- Suffix: a multiple of the banks leaves the bank as it is.

steps_stay : (k m q : ℕ) (e : ℤ) (n r : ℕ) → k ≡ q * m → (pos k *ℤ e) +ℤ pos n ≡ pos r → r % m ≡ n % m
steps_stay k m q (pos x) n r times is =
    let z : k * x + n ≡ r = (let p = pos-*ℤ-pos k x in omega (arith, ints, p, is)) in
    let t : k * x ≡ x * q * m = ap (λ y. y * x) times ∙ product q m x in
    let w : r ≡ n + x * q * m = omega (arith, z, t) in
    ap (λ y. y % m) w ∙ add-mul-mod_self_right n (x * q) m
  where
    product : (q m x : ℕ) → q * m * x ≡ x * q * m
    product q m x = omega arith
steps_stay k m q (negsuc x) n r times is =
    let z : r + k * suc x ≡ n = (let p = pos-*ℤ-negsuc k x in omega (arith, ints, p, is)) in
    let t : k * suc x ≡ suc x * q * m = ap (λ y. y * suc x) times ∙ product q m (suc x) in
    let w : n ≡ r + suc x * q * m = omega (arith, z, t) in
    sym (ap (λ y. y % m) w ∙ add-mul-mod_self_right r (suc x * q) m)
  where
    product : (q m x : ℕ) → q * m * x ≡ x * q * m
    product q m x = omega arith

same_residue : (k m q size : ℕ) (e i : ℤ) → k ≡ q * m → is_index size i ≡ true → is_index size ((pos k *ℤ e) +ℤ i) ≡ true
    → unsigned_abs ((pos k *ℤ e) +ℤ i) % m ≡ unsigned_abs i % m
same_residue k m q size e i times inside there =
    let n = natural_of size i inside in
    let r = natural_of size ((pos k *ℤ e) +ℤ i) there in
    let z : (pos k *ℤ e) +ℤ pos n.n ≡ pos r.n = ap (λ (y : ℤ). (pos k *ℤ e) +ℤ y) (sym n.is) ∙ r.is in
    ap (λ (y : ℤ). unsigned_abs y % m) r.is ∙ (steps_stay k m q e n.n r.n times z ∙ sym (ap (λ (y : ℤ). unsigned_abs y % m) n.is))

pub suffix_bank : (vs ps : List Dim) (ks : List ℕ) (es is : List ℤ) → AreDimsOf Suffix vs ps ks → is_inside vs is ≡ true → is_inside ps (sums (multiples ks es) is) ≡ true
    → bank_at ps (sums (multiples ks es) is) ≡ bank_at vs is
suffix_bank [] [] ks es is h inside there = refl
suffix_bank [] (p ∷ ps) ks es is h inside there = absurd h
suffix_bank (v ∷ vs) [] ks es is h inside there = absurd h
suffix_bank (v ∷ vs) (p ∷ ps) [] es is h inside there = absurd h
suffix_bank (v ∷ vs) (p ∷ ps) (k ∷ ks) [] is h inside there = cc
suffix_bank (v ∷ vs) (p ∷ ps) (k ∷ ks) (e ∷ es) [] h inside there = cc
suffix_bank (v ∷ vs) (p ∷ ps) (k ∷ ks) (e ∷ es) (i ∷ is) h inside there =
    let size : v.size ≡ p.size = ap (λ (d : Dim). d.size) h.0.0 in
    let banks : v.banks ≡ p.banks = ap (λ (d : Dim). d.banks) h.0.0 in
    let mine = first_of (is_index v.size i) (is_inside vs is) inside in
    let theirs = first_of (is_index p.size ((pos k *ℤ e) +ℤ i)) (is_inside ps (sums (multiples ks es) is)) there in
    let one : unsigned_abs ((pos k *ℤ e) +ℤ i) % p.banks ≡ unsigned_abs i % p.banks =
    same_residue k p.banks h.0.1.1.0 p.size e i h.0.1.1.1 (subst (λ (n : ℕ). is_index n i ≡ true) size mine) theirs
    in
    let others = suffix_bank vs ps ks es is h.1 (rest_of (is_index v.size i) (is_inside vs is) inside) (rest_of (is_index p.size ((pos k *ℤ e) +ℤ i)) (is_inside ps (sums (multiples ks es) is)) there) in
    ap (λ n. n * banks_of ps + bank_at ps (sums (multiples ks es) is)) one
    ∙ (ap (λ n. (unsigned_abs i % p.banks) * n + bank_at ps (sums (multiples ks es) is)) (sym (banks_same vs ps ks h.1))
    ∙ (ap (λ n. (unsigned_abs i % p.banks) * banks_of vs + n) others ∙ ap (λ n. (unsigned_abs i % n) * banks_of vs + bank_at vs is) (sym banks)))
  where
    banks_same : (vs ps : List Dim) (ks : List ℕ) → AreDimsOf Suffix vs ps ks → banks_of vs ≡ banks_of ps
    banks_same [] [] ks h = refl
    banks_same [] (p ∷ ps) ks h = absurd h
    banks_same (v ∷ vs) [] ks h = absurd h
    banks_same (v ∷ vs) (p ∷ ps) [] h = absurd h
    banks_same (v ∷ vs) (p ∷ ps) (k ∷ ks) h = ap (λ (d : Dim). d.banks * banks_of vs) h.0.0 ∙ ap (λ n. p.banks * n) (banks_same vs ps ks h.1)

-- no offset leads nowhere else
pub nothing_moved : (ks : List ℕ) (is : List ℤ) → length ks ≡ length is → sums (multiples ks (replicate (length is) (pos 0))) is ≡ is
nothing_moved [] [] e = refl
nothing_moved [] (i ∷ is) e = absurd (omega (arith, e))
nothing_moved (k ∷ ks) [] e = absurd (omega (arith, e))
nothing_moved (k ∷ ks) (i ∷ is) e =
    let z : (pos k *ℤ pos 0) +ℤ i ≡ i = (let p = *ℤ-zero (pos k) in omega (arith, ints, p)) in
    let rest : sums (multiples ks (replicate (length is) (pos 0))) is ≡ is = nothing_moved ks is (less _ _ e) in
    ap (λ (y : ℤ). y ∷ sums (multiples ks (replicate (length is) (pos 0))) is) z ∙ ap (λ (l : List ℤ). i ∷ l) rest
  where
    less : (m n : ℕ) → suc m ≡ suc n → m ≡ n
    less m n e = omega (arith, e)

-- Shift: some offsets lead from any index to any other.

abbrev pub differences : (to from : List ℤ) → List ℤ
differences (a ∷ more) (b ∷ bs) = (a -ℤ b) ∷ differences more bs
differences _ _ = []

pub moved_to : (to from : List ℤ) → length to ≡ length from → sums (differences to from) from ≡ to
moved_to [] [] e = refl
moved_to [] (b ∷ bs) e = absurd (omega (arith, e))
moved_to (a ∷ more) [] e = absurd (omega (arith, e))
moved_to (a ∷ more) (b ∷ bs) e =
    ap (λ (y : ℤ). y ∷ sums (differences more bs) bs) (-ℤ-+ℤ_cancel a b) ∙ ap (λ (l : List ℤ). a ∷ l) (moved_to more bs (less _ _ e))
  where
    less : (m n : ℕ) → suc m ≡ suc n → m ≡ n
    less m n e = omega (arith, e)

pub differences_long : (to from : List ℤ) → length to ≡ length from → length (differences to from) ≡ length to
differences_long [] [] e = refl
differences_long [] (b ∷ bs) e = absurd (omega (arith, e))
differences_long (a ∷ more) [] e = absurd (omega (arith, e))
differences_long (a ∷ more) (b ∷ bs) e = ap suc (differences_long more bs (less _ _ e))
  where
    less : (m n : ℕ) → suc m ≡ suc n → m ≡ n
    less m n e = omega (arith, e)

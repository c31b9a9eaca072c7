-- Multipliers. A multiplication's number is how many stand before it in its clock. So it is less than that of each
-- later one in that clock, and less than all that stand there.
use Rattle.std.proofs.Common.{◌≡◌, ℕ, suc, zero, ◌+◌, ◌-◌, ◌≤◌, ◌<◌, true, false, Bool, if◌then◌else◌, inl, inr, refl, ap, sym, ◌∙◌, subst, arith, List, [], ◌∷◌, ◌++◌, length, take, drop, get_or, append_assoc, Some, None}
use Rattle.std.specs.Prelude.{◌==◌, ◌&&◌, slice_get, slice_index}
use Rattle.std.proofs.lemmas.Bool.{eq-eqb, cases_eq}
use Rattle.std.proofs.lemmas.List.{take_more, take_all, length-take-le, length-drop, drop-drop, length-append, get_or_append_left, get_or-append-add, get_or_push}
use Rattle.std.proofs.lemmas.Option.{slice_get_within}
use Rattle.dh_plan.specs.declared.operations.Operation.{Operation}
use Rattle.dh_plan.specs.declared.operations.PlanBlock.{PlanBlock}
use Rattle.dh_plan.specs.BoundPorts.{Uses, AreUnits}
use Rattle.dh_plan.specs.LegalSchedules.{Timing, is_product, products_at, clocks_in}
use Rattle.dh_plan.specs.PlainPlans.{PlainPlan, first_in, operations_in, operations_before, operation_count, block_operations}
use Rattle.dh_bind.specs.Units.{more_at, BlockUnits, AreUnitNumbers}
use Rattle.dh_bind.proofs.Flat.{got}

-- at most as many multiplications as operations
one_most : (t : Bool) (x n : ℕ) → x ≤ n → (if t then suc x else x) ≤ suc n
one_most true x n h = omega (arith, h)
one_most false x n h = omega (arith, h)

pub products_most : (q : ℕ) (os : List Operation) (cs : List ℕ) → products_at q os cs ≤ length os
products_most q [] cs = omega arith
products_most q (o ∷ os) [] = omega arith
products_most q (o ∷ os) (c ∷ cs) = one_most (is_product o.form && (c == q)) (products_at q os cs) (length os) (products_most q os cs)

-- one operation more
one_more : (t : Bool) (x y m : ℕ) → x ≡ y + m → (if t then suc x else x) ≡ (if t then suc y else y) + m
one_more true x y m e = omega (arith, e)
one_more false x y m e = e

alone : (t : Bool) → (if t then suc 0 else 0) ≡ 0 + (if t then 1 else 0)
alone true = refl
alone false = refl

pub products_snoc : (q : ℕ) (os : List Operation) (cs : List ℕ) (o : Operation) (c : ℕ) → length os ≡ length cs → products_at q (os ++ o ∷ []) (cs ++ c ∷ []) ≡ products_at q os cs + more_at o.form c q
products_snoc q [] [] o c e = alone (is_product o.form && (c == q))
products_snoc q [] (d ∷ cs) o c e = absurd (let f = e in omega (arith, f))
products_snoc q (p ∷ os) [] o c e = absurd (let f = e in omega (arith, f))
products_snoc q (p ∷ os) (d ∷ cs) o c e =
    one_more (is_product p.form && (d == q)) (products_at q (os ++ o ∷ []) (cs ++ c ∷ [])) (products_at q os cs) (more_at o.form c q) (products_snoc q os cs o c (let f = e in omega (arith, f)))

-- a later one has more before it
both : (s t : Bool) (x : ℕ) → s ≡ true → t ≡ true → 0 < (if s && t then suc x else x)
both true true x e f = omega arith
both true false x e f = absurd (let g : false ≡ true = f in cc)
both false t x e f = absurd (let g : false ≡ true = e in cc)

one_less : (t : Bool) (x y : ℕ) → x < y → (if t then suc x else x) < (if t then suc y else y)
one_less true x y h = omega (arith, h)
one_less false x y h = h

pub products_less : (q : ℕ) (os : List Operation) (cs : List ℕ) (i j : ℕ) (o : Operation) → slice_get os i ≡ Some o → is_product o.form ≡ true → i < length cs → slice_index cs i ≡ q → i < j
    → products_at q (take i os) (take i cs) < products_at q (take j os) (take j cs)
products_less q [] cs i j o e p h f less = absurd (let g : None ≡ Some o = e in cc)
products_less q (x ∷ os) [] i j o e p h f less = absurd (let k = h in omega (arith, k))
products_less q (x ∷ os) (c ∷ cs) i zero o e p h f less = absurd (let k = less in omega (arith, k))
products_less q (x ∷ os) (c ∷ cs) zero (suc j) o e p h f less =
    let same : x ≡ o = (let g : Some x ≡ Some o = e in cc) in
    both (is_product x.form) (c == q) (products_at q (take j os) (take j cs)) (ap (λ (y : Operation). is_product y.form) same ∙ p) (eq-eqb c q f)
products_less q (x ∷ os) (c ∷ cs) (suc i) (suc j) o e p h f less =
    one_less (is_product x.form && (c == q)) (products_at q (take i os) (take i cs)) (products_at q (take j os) (take j cs))
    (products_less q os cs i j o e p (let k = h in omega (arith, k)) f (let k = less in omega (arith, k)))

-- one turn over a block
pub unit_turn : (os : List Operation) (cs : List ℕ) (i : ℕ) (o : Operation) (old now next : List ℕ) (n : ℕ) → i < length os → o ≡ get_or os i o → BlockUnits os cs i old now → next ≡ now ++ n ∷ []
    → (is_product o.form ≡ true → n ≡ products_at (slice_index cs i) (take i os) (take i cs)) → BlockUnits os cs (i + 1) old next
unit_turn os cs i o old now next n h e so f number = record {
  units = so.units ++ n ∷ [];
  behind = f ∙ (ap (λ (l : List ℕ). l ++ n ∷ []) so.behind ∙ append_assoc old so.units (n ∷ []));
  long = length-append so.units (n ∷ []) ∙ (let l = so.long in omega (arith, l));
  each = λ k p below there product. elim (cases_eq k i) [
    | inl g ↦ (let here : slice_get os i ≡ Some p = subst (λ (m : ℕ). slice_get os m ≡ Some p) g there in
        let same : o ≡ p = (let x : Some o ≡ Some p = sym (got os i o h e) ∙ here in cc) in
        subst (λ (m : ℕ). slice_index (so.units ++ n ∷ []) m ≡ products_at (slice_index cs m) (take m os) (take m cs)) (sym g)
        (get_or_push so.units n 0 i so.long ∙ number (ap (λ (y : Operation). is_product y.form) same ∙ product)))
    | inr g ↦ (let less : k < i = strict k i below g in
        get_or_append_left so.units (n ∷ []) 0 k (let l = so.long in omega (arith, l, less)) ∙ so.each k p less there product)
  ];
}
  where
    strict : (k i : ℕ) → k < i + 1 → (k ≡ i → ⊥) → k < i
    strict k i h none = grind (arith, h, none)

pub counts_turn : (q : ℕ) (os : List Operation) (cs : List ℕ) (i : ℕ) (o : Operation) (x y : ℕ) → i < length os → length cs ≡ length os → o ≡ get_or os i o → x ≡ products_at q (take i os) (take i cs)
    → y ≡ x + more_at o.form (slice_index cs i) q → y ≡ products_at q (take (i + 1) os) (take (i + 1) cs)
counts_turn q os cs i o x y h long e f g =
    let first : take (i + 1) os ≡ take i os ++ o ∷ [] = take_more os i o h ∙ ap (λ (p : Operation). take i os ++ p ∷ []) (sym e) in
    let second : take (i + 1) cs ≡ take i cs ++ slice_index cs i ∷ [] = take_more cs i 0 (omega (arith, h, long)) in
    let lengths : length (take i os) ≡ length (take i cs) = length-take-le i os (omega (arith, h)) ∙ sym (length-take-le i cs (omega (arith, h, long))) in
    g ∙ (ap (λ (n : ℕ). n + more_at o.form (slice_index cs i) q) f
    ∙ (sym (products_snoc q (take i os) (take i cs) o (slice_index cs i) lengths)
    ∙ (ap (λ (l : List Operation). products_at q l (take i cs ++ slice_index cs i ∷ [])) (sym first) ∙ ap (λ (l : List ℕ). products_at q (take (i + 1) os) l) (sym second))))

pub few_yet : (q : ℕ) (os : List Operation) (cs : List ℕ) (i x : ℕ) → i < length os → x ≡ products_at q (take i os) (take i cs) → x ≤ i
few_yet q os cs i x h e = let m = products_most q (take i os) (take i cs) in let l = length-take-le i os (omega (arith, h)) in omega (arith, e, m, l)

-- the operations before a block, and with it
pub before_none : (bs : List PlanBlock) → 0 ≡ operations_before bs 0
before_none [] = refl
before_none (b ∷ bs) = refl

before_suc : (bs : List PlanBlock) (n : ℕ) (p : PlanBlock) → slice_get bs n ≡ Some p → operations_before bs (suc n) ≡ operations_before bs n + length p.operations
before_suc [] n p e = absurd (let f : None ≡ Some p = e in cc)
before_suc (b ∷ bs) zero p e =
    let same : b ≡ p = (let g : Some b ≡ Some p = e in cc) in
    let l : length b.operations ≡ length p.operations = ap (λ (x : PlanBlock). length x.operations) same in
    let none = before_none bs in
    omega (arith, l, none)
before_suc (b ∷ bs) (suc n) p e = let f = before_suc bs n p e in omega (arith, f)

pub before_next : (bs : List PlanBlock) (n : ℕ) (p : PlanBlock) → slice_get bs n ≡ Some p → operations_before bs (n + 1) ≡ operations_before bs n + length p.operations
before_next bs n p e = ap (λ (k : ℕ). operations_before bs k) (let f : n + 1 ≡ suc n = omega arith in f) ∙ before_suc bs n p e

pub before_most : (bs : List PlanBlock) (n : ℕ) (p : PlanBlock) → slice_get bs n ≡ Some p → operations_before bs n + length p.operations ≤ operations_before bs (length bs)
before_most [] n p e = absurd (let f : None ≡ Some p = e in cc)
before_most (b ∷ bs) zero p e =
    let same : b ≡ p = (let g : Some b ≡ Some p = e in cc) in
    let l : length b.operations ≡ length p.operations = ap (λ (x : PlanBlock). length x.operations) same in
    omega (arith, l)
before_most (b ∷ bs) (suc n) p e = let f = before_most bs n p e in omega (arith, f)

pub before_inside : (bs : List PlanBlock) (b n i : ℕ) (o : Operation) → slice_get (block_operations (slice_get bs b)) i ≡ Some o → b < n → operations_before bs b + i < operations_before bs n
before_inside [] b n i o e h = absurd (let f : None ≡ Some o = e in cc)
before_inside (x ∷ bs) b zero i o e h = absurd (let k = h in omega (arith, k))
before_inside (x ∷ bs) zero (suc n) i o e h = let k = slice_get_within x.operations i o e in omega (arith, k)
before_inside (x ∷ bs) (suc b) (suc n) i o e h = let k = before_inside bs b n i o e (let j = h in omega (arith, j)) in omega (arith, k)

pub block_there : (bs : List PlanBlock) (b i : ℕ) (o : Operation) → slice_get (block_operations (slice_get bs b)) i ≡ Some o → b < length bs
block_there [] b i o e = absurd (let f : None ≡ Some o = e in cc)
block_there (x ∷ bs) zero i o e = omega arith
block_there (x ∷ bs) (suc b) i o e = let k = block_there bs b i o e in omega (arith, k)

-- one block on
pub counted_turn : (plan : PlainPlan) (t : Timing) (n : ℕ) (p : PlanBlock) (cs units next : List ℕ) → slice_get plan.blocks n ≡ Some p → AreUnitNumbers plan t n units → BlockUnits p.operations cs (length p.operations) units next
    → cs ≡ clocks_in plan t n → AreUnitNumbers plan t (n + 1) next
counted_turn plan t n p cs units next there so block clocks = record {
  long = ap (λ (l : List ℕ). length l) block.behind ∙ (length-append units block.units ∙ (let a = so.long in let b = block.long in let c = before_next plan.blocks n p there in omega (arith, a, b, c)));
  each = λ b i o below at product. elim (cases_eq b n) [
    | inl e ↦ subst (λ (k : ℕ). slice_index next (first_in plan k + i) ≡ products_at (slice_index (clocks_in plan t k) i) (take i (operations_in plan k)) (take i (clocks_in plan t k))) (sym e)
        (own i o (subst (λ (k : ℕ). slice_get (operations_in plan k) i ≡ Some o) e at) product)
    | inr f ↦ (let less : b < n = strict b n below f in
        ap (λ (l : List ℕ). slice_index l (first_in plan b + i)) block.behind
        ∙ (get_or_append_left units block.units 0 (first_in plan b + i) (let a = so.long in let c = before_inside plan.blocks b n i o at less in omega (arith, a, c)) ∙ so.each b i o less at product))
  ];
}
  where
    strict : (k i : ℕ) → k < i + 1 → (k ≡ i → ⊥) → k < i
    strict k i h none = grind (arith, h, none)

    ops_are : operations_in plan n ≡ p.operations
    ops_are = ap block_operations there

    own : (i : ℕ) (o : Operation) → slice_get (operations_in plan n) i ≡ Some o → is_product o.form ≡ true → slice_index next (first_in plan n + i) ≡ products_at (slice_index (clocks_in plan t n) i) (take i (operations_in plan n)) (take i (clocks_in plan t n))
    own i o at product =
        let here : slice_get p.operations i ≡ Some o = subst (λ (l : List Operation). slice_get l i ≡ Some o) ops_are at in
        ap (λ (l : List ℕ). slice_index l (first_in plan n + i)) block.behind
        ∙ (ap (λ (k : ℕ). slice_index (units ++ block.units) (k + i)) (sym so.long)
        ∙ (get_or-append-add units block.units i 0
        ∙ (block.each i o (slice_get_within p.operations i o here) here product
        ∙ (ap (λ (l : List ℕ). products_at (slice_index l i) (take i p.operations) (take i l)) clocks
        ∙ ap (λ (l : List Operation). products_at (slice_index (clocks_in plan t n) i) (take i l) (take i (clocks_in plan t n))) (sym ops_are)))))

pub counted_none : (plan : PlainPlan) (t : Timing) → AreUnitNumbers plan t 0 []
counted_none plan t = record { long = before_none plan.blocks; each = λ b i o below at product. absurd (let k = below in omega (arith, k)) }

-- the clocks of a block, at the front of those that are left
pub rest_long : (plan : PlainPlan) (t : Timing) (n : ℕ) (p : PlanBlock) → slice_get plan.blocks n ≡ Some p → length t.clocks ≡ operation_count plan → (rest : List ℕ) → rest ≡ drop (operations_before plan.blocks n) t.clocks
    → (os : List Operation) → os ≡ p.operations → length os ≤ length rest
rest_long plan t n p there every rest e os f =
    let most = before_most plan.blocks n p there in
    let left : length rest ≡ length t.clocks - operations_before plan.blocks n = ap (λ (l : List ℕ). length l) e ∙ length-drop (operations_before plan.blocks n) t.clocks in
    let same : length os ≡ length p.operations = ap (λ (l : List Operation). length l) f in
    omega (arith, most, left, same, every)

pub own_clocks : (plan : PlainPlan) (t : Timing) (n : ℕ) (p : PlanBlock) → slice_get plan.blocks n ≡ Some p → (rest own : List ℕ) → rest ≡ drop (operations_before plan.blocks n) t.clocks
    → (os : List Operation) → os ≡ p.operations → own ≡ take (length os) rest → own ≡ clocks_in plan t n
own_clocks plan t n p there rest own e os f g =
    g ∙ (ap (λ (l : List ℕ). take (length os) l) e ∙ ap (λ (l : List Operation). take (length l) (drop (operations_before plan.blocks n) t.clocks)) (f ∙ sym (ap block_operations there)))

pub rest_next : (plan : PlainPlan) (t : Timing) (n : ℕ) (p : PlanBlock) → slice_get plan.blocks n ≡ Some p → (rest behind : List ℕ) → rest ≡ drop (operations_before plan.blocks n) t.clocks
    → (os : List Operation) → os ≡ p.operations → behind ≡ drop (length os) rest → behind ≡ drop (operations_before plan.blocks (n + 1)) t.clocks
rest_next plan t n p there rest behind e os f g =
    g ∙ (ap (λ (l : List ℕ). drop (length os) l) e ∙ (drop-drop (length os) (operations_before plan.blocks n) t.clocks
    ∙ ap (λ (k : ℕ). drop k t.clocks) (ap (λ (l : List Operation). operations_before plan.blocks n + length l) f ∙ sym (before_next plan.blocks n p there))))

-- counted multipliers are multipliers
module _ (plan : PlainPlan) (t : Timing) (u : Uses) (counted : AreUnitNumbers plan t (length plan.blocks) u.units) (all_clocks : length t.clocks ≡ operation_count plan) where
  block_most : (bs : List PlanBlock) (b i : ℕ) (o : Operation) → slice_get (block_operations (slice_get bs b)) i ≡ Some o → operations_before bs b + length (block_operations (slice_get bs b)) ≤ operations_before bs (length bs)
  block_most [] b i o e = absurd (let f : None ≡ Some o = e in cc)
  block_most (x ∷ bs) zero i o e = omega arith
  block_most (x ∷ bs) (suc b) i o e = let f = block_most bs b i o e in omega (arith, f)

  clocks_long : (b i : ℕ) (o : Operation) → slice_get (operations_in plan b) i ≡ Some o → length (clocks_in plan t b) ≡ length (operations_in plan b)
  clocks_long b i o e =
      let most = block_most plan.blocks b i o e in
      let left = length-drop (first_in plan b) t.clocks in
      length-take-le (length (operations_in plan b)) (drop (first_in plan b) t.clocks) (omega (arith, most, left, all_clocks))

  unit_is : (b i : ℕ) (o : Operation) → slice_get (operations_in plan b) i ≡ Some o → is_product o.form ≡ true
      → slice_index u.units (first_in plan b + i) ≡ products_at (slice_index (clocks_in plan t b) i) (take i (operations_in plan b)) (take i (clocks_in plan t b))
  unit_is b i o e p = counted.each b i o (block_there plan.blocks b i o e) e p

  inside : (b i : ℕ) (o : Operation) → slice_get (operations_in plan b) i ≡ Some o → i < length (clocks_in plan t b)
  inside b i o e = let k = slice_get_within (operations_in plan b) i o e in let l = clocks_long b i o e in omega (arith, k, l)

  pub are_units : AreUnits plan t u
  are_units = record {
    rising = λ b i j o p first second product other less same.
        (let x = unit_is b i o first product in let y = unit_is b j p second other in
        let s : products_at (slice_index (clocks_in plan t b) i) (take j (operations_in plan b)) (take j (clocks_in plan t b)) ≡ products_at (slice_index (clocks_in plan t b) j) (take j (operations_in plan b)) (take j (clocks_in plan t b)) =
        ap (λ (c : ℕ). products_at c (take j (operations_in plan b)) (take j (clocks_in plan t b))) same in
        let z = products_less (slice_index (clocks_in plan t b) i) (operations_in plan b) (clocks_in plan t b) i j o first product (inside b i o first) refl less in
        omega (arith, x, y, s, z));
    few = λ b i o first product. (
      b,
      (
        slice_index (clocks_in plan t b) i,
        (let x = unit_is b i o first product in
            let z = products_less (slice_index (clocks_in plan t b) i) (operations_in plan b) (clocks_in plan t b) i (length (operations_in plan b)) o first product (inside b i o first) refl (slice_get_within (operations_in plan b) i o first) in
            let s : products_at (slice_index (clocks_in plan t b) i) (take (length (operations_in plan b)) (operations_in plan b)) (take (length (operations_in plan b)) (clocks_in plan t b)) ≡ products_at (slice_index (clocks_in plan t b) i) (operations_in plan b) (clocks_in plan t b) =
            ap (λ (l : List Operation). products_at (slice_index (clocks_in plan t b) i) l (take (length (operations_in plan b)) (clocks_in plan t b))) (take_all (length (operations_in plan b)) (operations_in plan b) (omega arith))
            ∙ ap (λ (l : List ℕ). products_at (slice_index (clocks_in plan t b) i) (operations_in plan b) l) (take_all (length (operations_in plan b)) (clocks_in plan t b) (let l = clocks_long b i o first in omega (arith, l))) in
            omega (arith, x, z, s)),
      ),
    );
  }

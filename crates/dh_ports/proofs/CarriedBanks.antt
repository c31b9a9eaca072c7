-- What is carried behind views that follow one another: without a shift each bank is charged as one bank of the first
-- view is, with one as the most charged bank of the first view.
use Rattle.std.proofs.Common.{◌≡◌, ℕ, zero, suc, ◌*◌, ◌<◌, ◌≤◌, ◌||◌, max, Bool, true, false, List, [], ◌∷◌, map, refl, sym, ap, subst, ◌∙◌, arith, ◌⊎◌, inl, inr}
use Rattle.std.specs.List.{AllByRecursion}
use Rattle.std.proofs.lemmas.Bool.{cases_lt}
use Rattle.dh_tree.specs.declared.tables.Dim.{Dim}
use Rattle.dh_tree.specs.declared.viewing.ViewMap.{ViewMap}
use Rattle.dh_tree.specs.declared.viewing.ViewSort.{ViewSort}
use Rattle.dh_tree.specs.declared.viewing.ViewSort.TheVariants.{Shrink, Split, Suffix, Shift}
use Rattle.dh_tree.specs.Elements.{banks_of}
use Rattle.dh_tree.specs.Shapes.{IsDim}
use Rattle.dh_tree.specs.ViewShapes.{AreDimsOf, IsShapeOf, IsViewMap}
use Rattle.dh_viewing.specs.Carried.{carried, carried_as, carried_by, largest}
use Rattle.dh_viewing.specs.ReachedBanks.{bank_at, covering}
use Rattle.dh_viewing.proofs.BankDigits.{bank_at_below, digits_bank, digits_inside, indices_of}
use Rattle.dh_viewing.proofs.ViewBanks.{covered_digits, covered_element, same_inside}
use Rattle.dh_meaning.specs.Ways.{WayStep}
use Rattle.dh_ways.specs.Leading.{StepsLead, next_dims}
use Rattle.dh_ports.specs.Carriers.{banks_behind, has_shift, is_shift_sort, source_in, source_through}
use Rattle.dh_ports.proofs.ClaimedBanks.{banks_some}

absurd : {A : Type 0} → ⊥ → A
absurd e = elim e [ ]

-- neither is where not one of them is
pub or_parts : (a b : Bool) → (a || b) ≡ false → (a ≡ false) × (b ≡ false)
or_parts true b e = cc
or_parts false b e = (refl, e)

-- The largest charge.

none_below : (b : ℕ) → b < 0 → ⊥
none_below b e = omega (arith, e)

pub largest_above : (charge : ℕ → ℕ) (n b : ℕ) → b < n → charge b ≤ largest charge n
largest_above charge zero b e = absurd (none_below b e)
largest_above charge (suc n) b e = by (cases_lt b n) (largest_above charge n b)
  where
    left : (a l c : ℕ) → a ≤ l → a ≤ max l c
    left a l c e = grind (arith, e)

    right : (a l c : ℕ) → a ≡ c → a ≤ max l c
    right a l c e = grind (arith, e)

    last : (b n : ℕ) → b < suc n → n ≤ b → b ≡ n
    last b n e f = omega (arith, e, f)

    by : (b < n) ⊎ (n ≤ b) → (b < n → charge b ≤ largest charge n) → charge b ≤ max (largest charge n) (charge n)
    by (inl less) rest = left (charge b) (largest charge n) (charge n) (rest less)
    by (inr past) rest = right (charge b) (largest charge n) (charge n) (ap charge (last b n e past))

pub largest_below : (charge : ℕ → ℕ) (n most : ℕ) → ((b : ℕ) → b < n → charge b ≤ most) → largest charge n ≤ most
largest_below charge zero most h = least most
  where
    least : (m : ℕ) → 0 ≤ m
    least m = omega arith
largest_below charge (suc n) most h = both (largest charge n) (charge n) most (largest_below charge n most (λ b e. h b (more b n e))) (h n (own n))
  where
    more : (b n : ℕ) → b < n → b < suc n
    more b n e = omega (arith, e)

    own : (n : ℕ) → n < suc n
    own n = omega arith

    both : (a c m : ℕ) → a ≤ m → c ≤ m → max a c ≤ m
    both a c m e f = grind (arith, e, f)

pub largest_same : (f g : ℕ → ℕ) (n : ℕ) → ((b : ℕ) → b < n → f b ≡ g b) → largest f n ≡ largest g n
largest_same f g zero e = refl
largest_same f g (suc n) e = ap (λ m. max m (f n)) (largest_same f g n (λ b i. e b (more b n i))) ∙ ap (λ m. max (largest g n) m) (e n (own n))
  where
    more : (b n : ℕ) → b < n → b < suc n
    more b n e = omega (arith, e)

    own : (n : ℕ) → n < suc n
    own n = omega arith

least_most : (a b : ℕ) → a ≤ b → b ≤ a → a ≡ b
least_most a b e f = omega (arith, e, f)

largest_one : (f : ℕ → ℕ) (most n : ℕ) → 1 ≤ n → ((b : ℕ) → f b ≡ most) → largest f n ≡ most
largest_one f most n some e =
    least_most (largest f n) most (largest_below f n most (λ b i. equal (f b) most (e b))) (subst (λ (m : ℕ). m ≤ largest f n) (e 0) (largest_above f n 0 (first n some)))
  where
    first : (n : ℕ) → 1 ≤ n → 0 < n
    first n e = omega (arith, e)

    equal : (a b : ℕ) → a ≡ b → a ≤ b
    equal a b e = omega (arith, e)

-- One view that is no shift: each bank of its parent is charged as one of its own, and each of its own charges one.

-- suffixes have the dimensions of their parents
suffix_same : (vs ps : List Dim) (ks : List ℕ) → AreDimsOf Suffix vs ps ks → vs ≡ ps
suffix_same [] [] [] h = refl
suffix_same [] [] (k ∷ ks) h = absurd h
suffix_same [] (p ∷ ps) ks h = absurd h
suffix_same (v ∷ vs) [] ks h = absurd h
suffix_same (v ∷ vs) (p ∷ ps) [] h = absurd h
suffix_same (v ∷ vs) (p ∷ ps) (k ∷ ks) h = ap (λ d. d ∷ vs) h.0.0 ∙ ap (λ ds. p ∷ ds) (suffix_same vs ps ks h.1)

-- splits have the banks of theirs
split_banks : (a w b k : ℕ) → a ≡ k → w * k ≡ b → a * (w * 1) ≡ b * 1
split_banks a w b k e f = ap (λ n. n * (w * 1)) e ∙ (swapped k w ∙ ap (λ n. n * 1) f)
  where
    swapped : (k w : ℕ) → k * (w * 1) ≡ w * k * 1
    swapped k w = omega arith

split_same : (vs ps : List Dim) (ks : List ℕ) → IsShapeOf Split vs ps ks → banks_of vs ≡ banks_of ps
split_same [] ps ks h = absurd h
split_same (v ∷ []) ps ks h = absurd h
split_same (v ∷ w ∷ (x ∷ vs)) ps ks h = absurd h
split_same (v ∷ w ∷ []) [] ks h = absurd h
split_same (v ∷ w ∷ []) (p ∷ []) [] h = absurd h
split_same (v ∷ w ∷ []) (p ∷ []) (k ∷ []) h = split_banks v.banks w.banks p.banks k h.0.1 h.1.1.0
split_same (v ∷ w ∷ []) (p ∷ []) (k ∷ (l ∷ ks)) h = absurd h
split_same (v ∷ w ∷ []) (p ∷ (q ∷ ps)) ks h = absurd h

-- a bank of the parent that is charged as this bank of the view
record ChargedAs (s : ViewSort) (vs ps : List Dim) (bank : ℕ) : Type 0 where
  pub there : ℕ
  pub inside : there < banks_of ps
  pub source : source_in s vs ps there ≡ bank

module _ (vs ps : List Dim) (ks : List ℕ) (own : AllByRecursion IsDim vs) (dims : AllByRecursion IsDim ps) where
  source_below : (s : ViewSort) (bank : ℕ) → IsShapeOf s vs ps ks → is_shift_sort s ≡ false → bank < banks_of ps → source_in s vs ps bank < banks_of vs
  source_below Shrink bank h e below =
      subst (λ (n : ℕ). n < banks_of vs) (covered_digits vs ps ks bank h) (bank_at_below vs (indices_of ps bank) own (same_inside vs ps ks (indices_of ps bank) h ∙ digits_inside ps bank dims below))
  source_below Split bank h e below = subst (λ (n : ℕ). bank < n) (sym (split_same vs ps ks h)) below
  source_below Suffix bank h e below = subst (λ (ds : List Dim). bank < banks_of ds) (sym (suffix_same vs ps ks h)) below
  source_below Shift bank h e below = cc

  charged_as : (s : ViewSort) (bank : ℕ) → IsShapeOf s vs ps ks → is_shift_sort s ≡ false → bank < banks_of vs → ChargedAs s vs ps bank
  charged_as Shrink bank h e below =
      let within = sym (same_inside vs ps ks (indices_of vs bank) h) ∙ digits_inside vs bank own below in
      record {
        there = bank_at ps (indices_of vs bank);
        inside = bank_at_below ps (indices_of vs bank) dims within;
        source = covered_element vs ps ks (indices_of vs bank) h dims within ∙ digits_bank vs bank own below;
      }
  charged_as Split bank h e below = record { there = bank; inside = subst (λ (n : ℕ). bank < n) (split_same vs ps ks h) below; source = refl }
  charged_as Suffix bank h e below = record { there = bank; inside = subst (λ (ds : List Dim). bank < banks_of ds) (suffix_same vs ps ks h) below; source = refl }
  charged_as Shift bank h e below = cc

  -- so the most charged banks are charged alike
  largest_kept : (s : ViewSort) (charge : ℕ → ℕ) → IsShapeOf s vs ps ks → is_shift_sort s ≡ false → largest (λ bank. charge (source_in s vs ps bank)) (banks_of ps) ≡ largest charge (banks_of vs)
  largest_kept s charge h e =
      least_most (largest (λ bank. charge (source_in s vs ps bank)) (banks_of ps)) (largest charge (banks_of vs))
      (largest_below (λ bank. charge (source_in s vs ps bank)) (banks_of ps) (largest charge (banks_of vs)) (λ bank i. largest_above charge (banks_of vs) (source_in s vs ps bank) (source_below s bank h e i)))
      (largest_below charge (banks_of vs) (largest (λ bank. charge (source_in s vs ps bank)) (banks_of ps)) (λ bank i.
      let at = charged_as s bank h e i in
      subst (λ (b : ℕ). charge b ≤ largest (λ other. charge (source_in s vs ps other)) (banks_of ps)) at.source (largest_above (λ other. charge (source_in s vs ps other)) (banks_of ps) at.there at.inside)))

as_source : (s : ViewSort) (vs ps : List Dim) (charge : ℕ → ℕ) (bank : ℕ) → is_shift_sort s ≡ false → carried_as s vs ps charge bank ≡ charge (source_in s vs ps bank)
as_source Shrink vs ps charge bank e = refl
as_source Split vs ps charge bank e = refl
as_source Suffix vs ps charge bank e = refl
as_source Shift vs ps charge bank e = cc

as_largest : (s : ViewSort) (vs ps : List Dim) (charge : ℕ → ℕ) (bank : ℕ) → is_shift_sort s ≡ true → carried_as s vs ps charge bank ≡ largest charge (banks_of vs)
as_largest Shrink vs ps charge bank e = cc
as_largest Split vs ps charge bank e = cc
as_largest Suffix vs ps charge bank e = cc
as_largest Shift vs ps charge bank e = refl

-- what is the same on each bank stays so
as_one : (s : ViewSort) (vs ps : List Dim) (charge : ℕ → ℕ) (most bank : ℕ) → AllByRecursion IsDim vs → ((b : ℕ) → charge b ≡ most) → carried_as s vs ps charge bank ≡ most
as_one Shrink vs ps charge most bank own e = e (covering vs ps bank)
as_one Split vs ps charge most bank own e = e bank
as_one Suffix vs ps charge most bank own e = e bank
as_one Shift vs ps charge most bank own e = largest_one charge most (banks_of vs) (banks_some vs own) e

-- All views on a way.

pub carried_source : (vs : List ViewMap) (charge : ℕ → ℕ) (bank : ℕ) → has_shift vs ≡ false → carried_by vs charge bank ≡ charge (source_through vs bank)
carried_source [] charge bank e = refl
carried_source (v ∷ vs) charge bank e =
    let parts = or_parts (is_shift_sort v.sort) (has_shift vs) e in
    carried_source vs (carried v charge) bank parts.1 ∙ as_source v.sort v.shape.dims v.parent.dims charge (source_through vs bank) parts.0

pub source_inside : (ss : List WayStep) (memory : List Dim) (bank : ℕ) → StepsLead ss memory → has_shift (map (λ s. s.is) ss) ≡ false → bank < banks_of memory → source_through (map (λ s. s.is) ss) bank < banks_of (next_dims ss memory)
source_inside [] memory bank lead e below = below
source_inside (s ∷ ss) memory bank lead e below =
    let parts = or_parts (is_shift_sort s.is.sort) (has_shift (map (λ s. s.is) ss)) e in
    source_below s.is.shape.dims s.is.parent.dims s.is.by lead.0.own.dims lead.0.parent.dims s.is.sort (source_through (map (λ s. s.is) ss) bank) lead.0.shape parts.0
    (subst (λ (ds : List Dim). source_through (map (λ s. s.is) ss) bank < banks_of ds) (sym lead.1.0) (source_inside ss memory bank lead.1.1 parts.1 below))

carried_one : (ss : List WayStep) (memory : List Dim) (charge : ℕ → ℕ) (most bank : ℕ) → StepsLead ss memory → ((b : ℕ) → charge b ≡ most) → carried_by (map (λ s. s.is) ss) charge bank ≡ most
carried_one [] memory charge most bank lead e = e bank
carried_one (s ∷ ss) memory charge most bank lead e = carried_one ss memory (carried s.is charge) most bank lead.1.1 (λ b. as_one s.is.sort s.is.shape.dims s.is.parent.dims charge most b lead.0.own.dims e)

pub carried_evenly : (ss : List WayStep) (memory : List Dim) (charge : ℕ → ℕ) (bank : ℕ) → StepsLead ss memory → has_shift (map (λ s. s.is) ss) ≡ true → carried_by (map (λ s. s.is) ss) charge bank ≡ largest charge (banks_of (next_dims ss memory))
carried_evenly [] memory charge bank lead e = cc
carried_evenly (s ∷ ss) memory charge bank lead e = by (is_shift_sort s.is.sort) refl e (carried_evenly ss memory (carried s.is charge) bank lead.1.1)
  where
    by : (b : Bool) → is_shift_sort s.is.sort ≡ b → (b || has_shift (map (λ s. s.is) ss)) ≡ true → (has_shift (map (λ s. s.is) ss) ≡ true → carried_by (map (λ s. s.is) ss) (carried s.is charge) bank ≡ largest (carried s.is charge) (banks_of (next_dims ss memory)))
        → carried_by (map (λ s. s.is) ss) (carried s.is charge) bank ≡ largest charge (banks_of s.is.shape.dims)
    by true f some rest = carried_one ss memory (carried s.is charge) (largest charge (banks_of s.is.shape.dims)) bank lead.1.1 (λ b. as_largest s.is.sort s.is.shape.dims s.is.parent.dims charge b f)
    by false f some rest =
        rest some
        ∙ (ap (λ ds. largest (carried s.is charge) (banks_of ds)) (sym lead.1.0)
        ∙ (largest_same (carried s.is charge) (λ b. charge (source_in s.is.sort s.is.shape.dims s.is.parent.dims b)) (banks_of s.is.parent.dims) (λ b i. as_source s.is.sort s.is.shape.dims s.is.parent.dims charge b f)
        ∙ largest_kept s.is.shape.dims s.is.parent.dims s.is.by lead.0.own.dims lead.0.parent.dims s.is.sort charge lead.0.shape f))

-- each of these views has the shape of its sort
pub all_maps : (ss : List WayStep) (memory : List Dim) → StepsLead ss memory → AllByRecursion IsViewMap (map (λ s. s.is) ss)
all_maps [] memory lead = tt
all_maps (s ∷ ss) memory lead = (lead.0, all_maps ss memory lead.1.1)

-- behind the last of them are the banks of the memory
pub end_banks : (s : WayStep) (ss : List WayStep) (memory : List Dim) (banks : ℕ) → StepsLead (s ∷ ss) memory → banks_behind banks (map (λ s. s.is) (s ∷ ss)) ≡ banks_of memory
end_banks s [] memory banks lead = ap (λ ds. banks_of ds) lead.1.0
end_banks s (t ∷ ss) memory banks lead = end_banks t ss memory (banks_of s.is.parent.dims) lead.1.1

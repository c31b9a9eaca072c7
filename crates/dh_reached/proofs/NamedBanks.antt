-- Elements that are reached through one way with the same offsets at its shifts, and lie in one bank, were named in one bank.
use Rattle.std.proofs.Common.{◌≡◌, inl, inr, ℕ, zero, suc, ◌+◌, ◌≤◌, List, [], ◌∷◌, length, map, take, drop, Some, refl, ap, sym, ◌∙◌, subst, arith, ℤ}
use Rattle.std.specs.Prelude.{slice_index, true}
use Rattle.std.specs.List.{AllByRecursion}
use Rattle.std.proofs.lemmas.List.{length-map}
use Rattle.dh_tree.specs.declared.tables.Dim.{Dim}
use Rattle.dh_tree.specs.declared.viewing.ViewMap.{ViewMap}
use Rattle.dh_tree.specs.declared.viewing.ViewSort.{ViewSort}
use Rattle.dh_tree.specs.declared.viewing.ViewSort.TheVariants.{Shrink, Split, Suffix, Shift}
use Rattle.dh_tree.specs.ViewElements.{is_inside, named_by}
use Rattle.dh_viewing.specs.Carried.{AllLead, Among, Copy, Goes, bank_in}
use Rattle.dh_viewing.specs.ReachedBanks.{bank_at, covering}
use Rattle.dh_meaning.specs.Effects.{indices_through}
use Rattle.dh_meaning.specs.Ways.{Hidden, WayStep}
use Rattle.dh_ways.specs.Leading.{StepsLead, next_dims}
use Rattle.dh_sound.proofs.CopiesThrough.{Passes, SameAtShifts, all_lead, banks_along, behind_step}
use Rattle.dh_reached.specs.IndicesKept.{ShiftsKept}

-- One view after the other.

back : {A : Type 0} (k : ViewSort) (vs ps : List Dim) (Here : A → Type 0) (from to : A → ℕ) (a b : A) → Goes k vs ps Here from to → Here a → Here b → to a ≡ to b → from a ≡ from b
back Shrink vs ps Here from to a b h ha hb e = h a ha ∙ (ap (λ n. covering vs ps n) e ∙ sym (h b hb))
back Split vs ps Here from to a b h ha hb e = h a ha ∙ (e ∙ sym (h b hb))
back Suffix vs ps Here from to a b h ha hb e = h a ha ∙ (e ∙ sym (h b hb))
back Shift vs ps Here from to a b h ha hb e = h.1 a b ha hb e

all_back : (vs : List ViewMap) (cs : List Copy) (level : ℕ) (c d : Copy) → AllLead vs cs level → Among c cs → Among d cs → bank_in (level + length vs) c ≡ bank_in (level + length vs) d → bank_in level c ≡ bank_in level d
all_back [] cs level c d h hc hd e = subst (λ (n : ℕ). bank_in n c ≡ bank_in n d) (none level) e
  where
    none : (n : ℕ) → n + 0 ≡ n
    none n = omega arith
all_back (v ∷ vs) cs level c d h hc hd e =
    back v.sort v.shape.dims v.parent.dims (λ x. Among x cs) (bank_in level) (bank_in (suc level)) c d h.0 hc hd
    (all_back vs cs (suc level) c d h.1 hc hd (subst (λ (n : ℕ). bank_in n c ≡ bank_in n d) (moved level (length vs)) e))
  where
    moved : (a b : ℕ) → a + suc b ≡ suc a + b
    moved a b = omega arith

-- Two elements.

module _ (dims : List Dim) where
  last_bank : (ss : List WayStep) (indices offsets last : List ℤ) → indices_through ss indices offsets ≡ Some last → slice_index (banks_along dims ss indices offsets) (length ss) ≡ bank_at dims last
  last_bank [] indices offsets last h = ap (λ (l : List ℤ). bank_at dims l) (same indices last h)
    where
      same : (xs ys : List ℤ) → Some xs ≡ Some ys → xs ≡ ys
      same xs ys e = cc
  last_bank (s ∷ ss) indices offsets last h = last_bank ss (named_by s.is (take s.offsets offsets) indices) (drop s.offsets offsets) last (behind_step s ss indices offsets last h)

  first_bank : (ss : List WayStep) (indices offsets : List ℤ) → slice_index (banks_along dims ss indices offsets) 0 ≡ bank_at (next_dims ss dims) indices
  first_bank [] indices offsets = refl
  first_bank (s ∷ ss) indices offsets = refl

  pub record Reached (ss : List WayStep) (indices offsets : List ℤ) (bank : ℕ) : Type 0 where
    pub last : List ℤ
    pub through : indices_through ss indices offsets ≡ Some last
    pub inside : is_inside dims last ≡ true
    pub is : bank ≡ bank_at dims last

  module _ (ss : List WayStep) (leads : StepsLead ss dims) (is js os ps : List ℤ) (bank : ℕ) (a : Reached ss is os bank) (b : Reached ss js ps bank) (same : SameAtShifts ss os ps) (turned : SameAtShifts ss ps os) (own : SameAtShifts ss os os)
      (other : SameAtShifts ss ps ps) where
    abbrev one : Copy
    one = record { key = []; banks = banks_along dims ss is os }

    abbrev two : Copy
    two = record { key = []; banks = banks_along dims ss js ps }

    abbrev copies : List Copy
    copies = one ∷ two ∷ []

    passes : (c : Copy) → Among c copies → Passes dims ss 0 c
    passes c (inl e) = record { indices = is; offsets = os; last = a.last; through = a.through; inside = a.inside; front = []; long = refl; banks = ap (λ (x : Copy). x.banks) e }
    passes c (inr (inl e)) = record { indices = js; offsets = ps; last = b.last; through = b.through; inside = b.inside; front = []; long = refl; banks = ap (λ (x : Copy). x.banks) e }
    passes c (inr (inr none)) = absurd none

    common : (c d : Copy) (h : Among c copies) (g : Among d copies) → SameAtShifts ss (passes c h).offsets (passes d g).offsets
    unfolding passes
    common c d (inl e) (inl f) = own
    common c d (inl e) (inr (inl f)) = same
    common c d (inr (inl e)) (inl f) = turned
    common c d (inr (inl e)) (inr (inl f)) = other
    common c d (inl e) (inr (inr none)) = absurd none
    common c d (inr (inl e)) (inr (inr none)) = absurd none
    common c d (inr (inr none)) g = absurd none

    pub same_named : bank_at (next_dims ss dims) is ≡ bank_at (next_dims ss dims) js
    same_named =
        sym (first_bank ss is os)
        ∙ (all_back (map (λ s. s.is) ss) copies 0 one two (all_lead dims ss 0 copies leads passes common) (inl refl) (inr (inl refl)) last
        ∙ first_bank ss js ps)
      where
        long : 0 + length (map (λ (s : WayStep). s.is) ss) ≡ length ss
        long = plain (length (map (λ (s : WayStep). s.is) ss)) ∙ length-map ss (λ (s : WayStep). s.is)
          where
            plain : (n : ℕ) → 0 + n ≡ n
            plain n = omega arith

        last : bank_in (0 + length (map (λ (s : WayStep). s.is) ss)) one ≡ bank_in (0 + length (map (λ (s : WayStep). s.is) ss)) two
        last =
            ap (λ (n : ℕ). slice_index (banks_along dims ss is os) n) long
            ∙ (last_bank ss is os a.last a.through ∙ (sym a.is ∙ (b.is ∙ sym (ap (λ (n : ℕ). slice_index (banks_along dims ss js ps) n) long ∙ last_bank ss js ps b.last b.through))))

-- Offsets of variables that show the same are the same at shifts.

module _ (f g : Hidden → ℤ) where
  abbrev IsSame : Hidden → Type 0
  IsSame h = f h ≡ g h

  taken_same : (n : ℕ) (hs : List Hidden) → AllByRecursion IsSame (take n hs) → take n (map f hs) ≡ take n (map g hs)
  taken_same zero hs a = refl
  taken_same (suc n) [] a = refl
  taken_same (suc n) (h ∷ hs) a = ap (λ z. z ∷ take n (map f hs)) a.0 ∙ ap (λ zs. g h ∷ zs) (taken_same n hs a.1)

  each_same : (deepest : ℕ) (Kept : Hidden → Type 0) → ((h : Hidden) → Kept h → h.depth ≤ deepest → IsSame h) → (hs : List Hidden) → AllByRecursion Kept hs → AllByRecursion (λ (h : Hidden). h.depth ≤ deepest) hs → AllByRecursion IsSame hs
  each_same deepest Kept so [] k a = tt
  each_same deepest Kept so (h ∷ hs) k a = (so h k.0 a.0, each_same deepest Kept so hs k.1 a.1)

all_taken : (P : Hidden → Type 0) (n : ℕ) (hs : List Hidden) → AllByRecursion P hs → AllByRecursion P (take n hs)
all_taken P zero hs a = tt
all_taken P (suc n) [] a = tt
all_taken P (suc n) (h ∷ hs) a = (a.0, all_taken P n hs a.1)

all_dropped : (P : Hidden → Type 0) (n : ℕ) (hs : List Hidden) → AllByRecursion P hs → AllByRecursion P (drop n hs)
all_dropped P zero hs a = a
all_dropped P (suc n) [] a = tt
all_dropped P (suc n) (h ∷ hs) a = all_dropped P n hs a.1

dropped : (k : Hidden → ℤ) (n : ℕ) (hs : List Hidden) → drop n (map k hs) ≡ map k (drop n hs)
dropped k zero hs = refl
dropped k (suc n) [] = refl
dropped k (suc n) (h ∷ hs) = dropped k n hs

pub same_at_shifts : (f g : Hidden → ℤ) (deepest : ℕ) (Kept : Hidden → Type 0) → ((h : Hidden) → Kept h → h.depth ≤ deepest → f h ≡ g h) → (ss : List WayStep) (hs : List Hidden) → ShiftsKept ss hs deepest → AllByRecursion Kept hs
    → SameAtShifts ss (map f hs) (map g hs)
same_at_shifts f g deepest Kept so [] hs h k = tt
same_at_shifts f g deepest Kept so (s ∷ ss) hs h k = (
  (λ e. taken_same f g s.offsets hs (each_same f g deepest Kept so (take s.offsets hs) (all_taken Kept s.offsets hs k) (h.0 e))),
  subst (λ (zs : List ℤ). SameAtShifts ss zs (drop s.offsets (map g hs))) (sym (dropped f s.offsets hs))
      (subst (λ (zs : List ℤ). SameAtShifts ss (map f (drop s.offsets hs)) zs) (sym (dropped g s.offsets hs)) (same_at_shifts f g deepest Kept so ss (drop s.offsets hs) h.1 (all_dropped Kept s.offsets hs k))),
)

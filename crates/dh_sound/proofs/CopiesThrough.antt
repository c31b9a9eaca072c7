-- Copies of an access through views lead along the way: at each view the indices of a copy name an element of the parent
-- with the copy's own offsets; and where copies have the same offsets at shifts, what one view asks of them it has.
use Rattle.std.proofs.Common.{◌≡◌, ℕ, suc, ◌<◌, Bool, true, false, if◌then◌else◌, List, [], ◌∷◌, ◌++◌, length, map, take, drop, Option, Some, None, refl, sym, ◌∙◌, ap, subst, arith, length-append, ℤ}
use Rattle.std.specs.Prelude.{slice_index}
use Rattle.std.proofs.lemmas.List.{append_assoc}
use Rattle.dh_tree.specs.declared.tables.Dim.{Dim}
use Rattle.dh_tree.specs.declared.viewing.ViewMap.{ViewMap}
use Rattle.dh_tree.specs.declared.viewing.ViewSort.{ViewSort}
use Rattle.dh_tree.specs.declared.viewing.ViewSort.TheVariants.{Shrink, Split, Suffix, Shift}
use Rattle.dh_tree.specs.Elements.{banks_of}
use Rattle.dh_tree.specs.ViewElements.{inside_of, is_inside, named_by, view_through, where_inside}
use Rattle.dh_viewing.specs.Carried.{AllLead, Among, Copy, Goes, IsPassed, Passed, bank_in}
use Rattle.dh_viewing.specs.ReachedBanks.{bank_at, covering}
use Rattle.dh_meaning.specs.Effects.{indices_through}
use Rattle.dh_meaning.specs.Ways.{WayStep}
use Rattle.dh_ways.specs.Leading.{StepsLead, next_dims}
use Rattle.dh_carried.proofs.LeadingElements.{leads_so}

-- One step.

-- indices were within the view, and these are they of its parent
pub record Stepped (v : ViewMap) (offsets indices inner : List ℤ) : Type 0 where
  pub inside : is_inside v.shape.dims indices ≡ true
  pub is : named_by v offsets indices ≡ inner

stepped : (v : ViewMap) (offsets indices inner : List ℤ) → view_through v offsets indices ≡ Some inner → Stepped v offsets indices inner
stepped v offsets indices inner h = by (is_inside v.shape.dims indices) refl h
  where
    by : (b : Bool) → is_inside v.shape.dims indices ≡ b → (if b then Some (named_by v offsets indices) else None) ≡ Some inner → Stepped v offsets indices inner
    by true e same = record { inside = e; is = is_same (named_by v offsets indices) inner same }
      where
        is_same : (xs ys : List ℤ) → Some xs ≡ Some ys → xs ≡ ys
        is_same xs ys f = cc
    by false e same = absurd cc

-- what follows was reached with some indices
pub record Followed (first : Option (List ℤ)) (follow : List ℤ → Option (List ℤ)) (last : List ℤ) : Type 0 where
  pub inner : List ℤ
  pub is : first ≡ Some inner
  pub rest : follow inner ≡ Some last

followed : (first : Option (List ℤ)) (follow : List ℤ → Option (List ℤ)) (last : List ℤ) → where_inside first follow ≡ Some last → Followed first follow last
followed None follow last h = absurd (none last h)
  where
    none : (last : List ℤ) → None ≡ Some last → ⊥
    none last h = cc
followed (Some inner) follow last h = record { inner = inner; is = refl; rest = h }

-- where the last is inside the memory, each is inside what it names
inside_first : (ss : List WayStep) (dims : List Dim) (indices offsets last : List ℤ) → indices_through ss indices offsets ≡ Some last → is_inside dims last ≡ true → is_inside (next_dims ss dims) indices ≡ true
inside_first [] dims indices offsets last h there = subst (λ (l : List ℤ). is_inside dims l ≡ true) (sym (same indices last h)) there
  where
    same : (one other : List ℤ) → Some one ≡ Some other → one ≡ other
    same one other h = cc
inside_first (s ∷ ss) dims indices offsets last h there =
    let f = followed (view_through s.is (take s.offsets offsets) indices) (λ inner. indices_through ss inner (drop s.offsets offsets)) last h in
    (stepped s.is (take s.offsets offsets) indices f.inner f.is).inside

-- and behind one step the others go on
pub behind_step : (s : WayStep) (ss : List WayStep) (indices offsets last : List ℤ) → indices_through (s ∷ ss) indices offsets ≡ Some last
    → indices_through ss (named_by s.is (take s.offsets offsets) indices) (drop s.offsets offsets) ≡ Some last
behind_step s ss indices offsets last h =
    let f = followed (view_through s.is (take s.offsets offsets) indices) (λ inner. indices_through ss inner (drop s.offsets offsets)) last h in
    subst (λ (l : List ℤ). indices_through ss l (drop s.offsets offsets) ≡ Some last) (sym (stepped s.is (take s.offsets offsets) indices f.inner f.is).is) f.rest

at_front : (front : List ℕ) (y : ℕ) (ys : List ℕ) → slice_index (front ++ y ∷ ys) (length front) ≡ y
at_front [] y ys = refl
at_front (x ∷ front) y ys = at_front front y ys

-- the offsets of shifts are the same
abbrev pub SameAtShifts : List WayStep → (offsets others : List ℤ) → Type 0
SameAtShifts [] offsets others = Unit {0}
SameAtShifts (s ∷ ss) offsets others =
    (s.is.sort ≡ Shift → take s.offsets offsets ≡ take s.offsets others) × SameAtShifts ss (drop s.offsets offsets) (drop s.offsets others)

-- a copy at one view
pub record At (v : ViewMap) (level : ℕ) (c : Copy) : Type 0 where
  pub offsets : List ℤ
  pub passed : Passed
  pub is : IsPassed v offsets passed
  pub from : bank_in level c ≡ bank_at v.shape.dims passed.indices
  pub to : bank_in (suc level) c ≡ bank_at v.parent.dims passed.element

module _ (v : ViewMap) (level : ℕ) (cs : List Copy) (at : (c : Copy) → Among c cs → At v level c) where
  goes_on : (k : ViewSort) → ((os : List ℤ) → Goes k v.shape.dims v.parent.dims (IsPassed v os) (λ p. bank_at v.shape.dims p.indices) (λ p. bank_at v.parent.dims p.element))
      → (k ≡ Shift → (c d : Copy) (h : Among c cs) (g : Among d cs) → (at c h).offsets ≡ (at d g).offsets)
      → Goes k v.shape.dims v.parent.dims (λ c. Among c cs) (bank_in level) (bank_in (suc level))
  goes_on Shrink so common = λ c h. (let t = at c h in t.from ∙ (so t.offsets t.passed t.is ∙ ap (covering v.shape.dims v.parent.dims) (sym t.to)))
  goes_on Split so common = λ c h. (let t = at c h in t.from ∙ (so t.offsets t.passed t.is ∙ sym t.to))
  goes_on Suffix so common = λ c h. (let t = at c h in t.from ∙ (so t.offsets t.passed t.is ∙ sym t.to))
  goes_on Shift so common = (
    (λ c h. (let t = at c h in subst (λ (n : ℕ). n < banks_of v.shape.dims) (sym t.from) ((so t.offsets).0 t.passed t.is))),
    (λ c d h g same.
        (let t = at c h in
        let u = at d g in
        let there : IsPassed v t.offsets u.passed = subst (λ (os : List ℤ). IsPassed v os u.passed) (sym (common refl c d h g)) u.is in
        t.from ∙ ((so t.offsets).1 t.passed u.passed t.is there (sym t.to ∙ (same ∙ u.to)) ∙ sym u.from))),
  )

module _ (dims : List Dim) where
  -- the banks of what is named, and behind each view
  abbrev pub banks_along : List WayStep → (indices offsets : List ℤ) → List ℕ
  banks_along [] indices offsets = bank_at dims indices ∷ []
  banks_along (s ∷ ss) indices offsets = bank_at s.is.shape.dims indices ∷ banks_along ss (named_by s.is (take s.offsets offsets) indices) (drop s.offsets offsets)

  -- a copy goes on with these indices and offsets from a level of the way on
  pub record Passes (ss : List WayStep) (level : ℕ) (c : Copy) : Type 0 where
    pub indices : List ℤ
    pub offsets : List ℤ
    pub last : List ℤ
    pub through : indices_through ss indices offsets ≡ Some last
    pub inside : is_inside dims last ≡ true
    pub front : List ℕ
    pub long : length front ≡ level
    pub banks : c.banks ≡ front ++ banks_along ss indices offsets

  first_bank : (ss : List WayStep) (indices offsets : List ℤ) → (rest : List ℕ) × (banks_along ss indices offsets ≡ bank_at (next_dims ss dims) indices ∷ rest)
  first_bank [] indices offsets = ([], refl)
  first_bank (s ∷ ss) indices offsets = (banks_along ss (named_by s.is (take s.offsets offsets) indices) (drop s.offsets offsets), refl)

  pub bank_here : (ss : List WayStep) (level : ℕ) (c : Copy) (q : Passes ss level c) → bank_in level c ≡ bank_at (next_dims ss dims) q.indices
  bank_here ss level c q =
      let f = first_bank ss q.indices q.offsets in
      ap (λ (l : List ℕ). slice_index l level) (q.banks ∙ ap (λ (l : List ℕ). q.front ++ l) f.1)
      ∙ (ap (λ n. slice_index (q.front ++ bank_at (next_dims ss dims) q.indices ∷ f.0) n) (sym q.long) ∙ at_front q.front (bank_at (next_dims ss dims) q.indices) f.0)

  module _ (s : WayStep) (ss : List WayStep) (level : ℕ) (c : Copy) where
    abbrev next_of : Passes (s ∷ ss) level c → Passes ss (suc level) c
    next_of q =
        let inner = named_by s.is (take s.offsets q.offsets) q.indices in
        let bank = bank_at s.is.shape.dims q.indices in
        record {
          indices = inner;
          offsets = drop s.offsets q.offsets;
          last = q.last;
          through = behind_step s ss q.indices q.offsets q.last q.through;
          inside = q.inside;
          front = q.front ++ bank ∷ [];
          long = let l = length-append q.front (bank ∷ []) in let m = q.long in omega (arith, l, m);
          banks = q.banks ∙ sym (append_assoc q.front (bank ∷ []) (banks_along ss inner (drop s.offsets q.offsets)));
        }

    abbrev at_of : StepsLead (s ∷ ss) dims → Passes (s ∷ ss) level c → At s.is level c
    at_of leads q =
        let f = followed (view_through s.is (take s.offsets q.offsets) q.indices) (λ inner. indices_through ss inner (drop s.offsets q.offsets)) q.last q.through in
        let st = stepped s.is (take s.offsets q.offsets) q.indices f.inner f.is in
        let inner = named_by s.is (take s.offsets q.offsets) q.indices in
        let n = next_of q in
        let within : is_inside s.is.parent.dims inner ≡ true =
        subst (λ (ds : List Dim). is_inside ds inner ≡ true) (sym leads.1.0) (inside_first ss dims inner (drop s.offsets q.offsets) q.last n.through q.inside) in
        record {
          offsets = take s.offsets q.offsets;
          passed = record { indices = q.indices; element = inner };
          is = ap (λ b. if b then inside_of s.is.parent.dims inner else None) st.inside ∙ ap (λ b. if b then Some inner else None) within;
          from = bank_here (s ∷ ss) level c q;
          to = bank_here ss (suc level) c n ∙ ap (λ (ds : List Dim). bank_at ds inner) (sym leads.1.0);
        }

  pub all_lead : (ss : List WayStep) (level : ℕ) (cs : List Copy) → StepsLead ss dims → (pass : (c : Copy) → Among c cs → Passes ss level c)
      → ((c d : Copy) (h : Among c cs) (g : Among d cs) → SameAtShifts ss (pass c h).offsets (pass d g).offsets) → AllLead (map (λ s. s.is) ss) cs level
  all_lead [] level cs leads pass common = tt
  all_lead (s ∷ ss) level cs leads pass common = (
    goes_on s.is level cs (λ c h. at_of s ss level c leads (pass c h)) s.is.sort (leads_so s.is leads.0) (λ k c d h g. (common c d h g).0 k),
    all_lead ss (suc level) cs leads.1.1 (λ c h. next_of s ss level c (pass c h)) (λ c d h g. (common c d h g).1),
  )

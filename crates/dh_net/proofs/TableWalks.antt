-- Walks over the memories of a table: what is asked of the outside ones is asked of each in turn, and a local
-- one has no others behind it but local ones.
use Rattle.std.proofs.Common.{◌≡◌, ℕ, zero, suc, ◌+◌, ◌-◌, ◌<◌, ◌↔◌, length, drop, take, true, false, Bool, List, [], ◌∷◌, get_or, refl, sym, ap, subst, ◌∙◌, arith, if◌then◌else◌}
use Rattle.std.specs.Prelude.{bytes_eq}
use Rattle.std.specs.List.{AllByRecursion}
use Rattle.std.proofs.Math.Seq.{take-length}
use Rattle.std.proofs.lemmas.Slice.Eq.{bytes_eq-Decides}
use Rattle.dh_base.proofs.ListItems.{at_item}
use Rattle.dh_tree.specs.Shapes.{IsLocal, HasLocalsLast, outside_of}
use Rattle.dh_tree.specs.Tables.{HasNoName, HasDistinctNames}
use Rattle.dh_tree.specs.declared.tables.MemEntry.{MemEntry}

module _ (es : List MemEntry) (i : ℕ) (e : MemEntry) (inside : i < length es) (is : e ≡ get_or es i e) where
  abbrev rest : List MemEntry
  rest = drop (i + 1) es

  at : drop i es ≡ e ∷ rest
  at = at_item es i e inside is

  pub outer_here : e.outside ≡ true → outside_of (drop i es) ≡ e ∷ outside_of rest
  outer_here o = ap outside_of at ∙ ap (λ (b : Bool). if b then e ∷ outside_of rest else outside_of rest) o

  pub outer_past : e.outside ≡ false → outside_of (drop i es) ≡ outside_of rest
  outer_past o = ap outside_of at ∙ ap (λ (b : Bool). if b then e ∷ outside_of rest else outside_of rest) o

  -- a search for a name
  pub name_found : (name : List ℕ) → e.outside ≡ true → bytes_eq e.name name ≡ true → HasNoName name (outside_of (drop i es)) ↔ HasNoName name (outside_of es)
      → HasNoName name (outside_of es) → ⊥
  name_found name o eq so h = (subst (λ (x : List MemEntry). HasNoName name x) (outer_here o) (so.1 h)).0 ((bytes_eq-Decides e.name name).0 eq)

  pub name_passed : (name : List ℕ) → e.outside ≡ true → bytes_eq e.name name ≡ false → HasNoName name (outside_of (drop i es)) ↔ HasNoName name (outside_of es)
      → HasNoName name (outside_of rest) ↔ HasNoName name (outside_of es)
  name_passed name o differ so = (
    λ later. so.0 (subst (λ (x : List MemEntry). HasNoName name x) (sym (outer_here o)) ((λ same. let equal = (bytes_eq-Decides e.name name).1 same in cc), later)),
    λ h. (subst (λ (x : List MemEntry). HasNoName name x) (outer_here o) (so.1 h)).1,
  )

  pub name_local : (name : List ℕ) → e.outside ≡ false → HasNoName name (outside_of (drop i es)) ↔ HasNoName name (outside_of es)
      → HasNoName name (outside_of rest) ↔ HasNoName name (outside_of es)
  name_local name o so = subst (λ (x : List MemEntry). HasNoName name x ↔ HasNoName name (outside_of es)) (outer_past o) so

  -- names that differ
  pub distinct_passed : e.outside ≡ true → HasNoName e.name (outside_of rest) → HasDistinctNames (outside_of (drop i es)) ↔ HasDistinctNames (outside_of es)
      → HasDistinctNames (outside_of rest) ↔ HasDistinctNames (outside_of es)
  distinct_passed o none so = (
    λ later. so.0 (subst HasDistinctNames (sym (outer_here o)) (none, later)),
    λ h. (subst HasDistinctNames (outer_here o) (so.1 h)).1,
  )

  pub distinct_refused : e.outside ≡ true → (HasNoName e.name (outside_of rest) → ⊥) → HasDistinctNames (outside_of (drop i es)) ↔ HasDistinctNames (outside_of es)
      → HasDistinctNames (outside_of es) → ⊥
  distinct_refused o some so h = some (subst HasDistinctNames (outer_here o) (so.1 h)).0

  pub distinct_local : e.outside ≡ false → HasDistinctNames (outside_of (drop i es)) ↔ HasDistinctNames (outside_of es)
      → HasDistinctNames (outside_of rest) ↔ HasDistinctNames (outside_of es)
  distinct_local o so = subst (λ (x : List MemEntry). HasDistinctNames x ↔ HasDistinctNames (outside_of es)) (outer_past o) so

  -- local memories last
  pub locals_passed : e.outside ≡ true → HasLocalsLast (drop i es) ↔ HasLocalsLast es → HasLocalsLast rest ↔ HasLocalsLast es
  locals_passed o so = (
    λ later. so.0 (subst HasLocalsLast (sym at) ((λ f. untold (sym o ∙ f)), later)),
    λ h. (subst HasLocalsLast at (so.1 h)).1,
  )
    where
      untold : {A : Type 0} → true ≡ false → A
      untold e = cc

  pub locals_told : e.outside ≡ false → HasLocalsLast (drop i es) ↔ HasLocalsLast es → AllByRecursion IsLocal rest ↔ HasLocalsLast es
  locals_told o so = (
    λ local. so.0 (subst HasLocalsLast (sym at) ((λ f. local), last rest local)),
    λ h. (subst HasLocalsLast at (so.1 h)).0 o,
  )
    where
      last : (xs : List MemEntry) → AllByRecursion IsLocal xs → HasLocalsLast xs
      last [] h = tt
      last (x ∷ xs) h = ((λ f. h.1), last xs h.1)

-- a list from a place on is what stands behind that place

none_taken : {A : Type 0} (k : ℕ) (xs : List A) → length xs ≡ 0 → take k xs ≡ xs
none_taken zero [] e = refl
none_taken (suc k) [] e = refl
none_taken zero (x ∷ xs) e = absurd (omega (arith, e))
none_taken (suc k) (x ∷ xs) e = absurd (omega (arith, e))

pub whole_rest : {A : Type 0} (n : ℕ) (xs : List A) → take (length xs - n) (drop n xs) ≡ drop n xs
whole_rest zero xs = let all : length xs - 0 ≡ length xs = omega arith in ap (λ k. take k xs) all ∙ take-length xs
whole_rest {A} (suc n) [] = none_taken (length {A = A} [] - suc n) [] refl
whole_rest (suc n) (x ∷ xs) = let less : length (x ∷ xs) - suc n ≡ length xs - n = omega arith in ap (λ k. take k (drop n xs)) less ∙ whole_rest n xs

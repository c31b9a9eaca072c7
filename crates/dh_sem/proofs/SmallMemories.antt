-- Memories after writes of values that they can keep.
use Rattle.std.proofs.Common.{◌≡◌, ℕ, zero, suc, ◌<◌, ◌^◌, List, [], ◌∷◌, get_or, ◌⊎◌, inl, inr, refl, ap, sym, subst}
use Rattle.std.specs.Prelude.{slice_set, slice_index, slice_index_or}
use Rattle.std.specs.List.{AllByRecursion}
use Rattle.std.proofs.lemmas.Nat.{pow_pos}
use Rattle.dh_value.specs.Words.{width_of}
use Rattle.dh_tree.specs.declared.tables.MemEntry.{MemEntry}
use Rattle.dh_tree.specs.Tables.{Fits}
use Rattle.dh_meaning.specs.Effects.{kind_in}
use Rattle.dh_code.specs.declared.running.Write.{Write}
use Rattle.dh_code.specs.Rows.{memory_element}
use Rattle.dh_code.specs.Scenes.{AreSmall}
use Rattle.dh_code.specs.States.{IsSmallWrite, memories_written}

-- an element of a list in which one was set is as before, or that one
as_set : {A : Type 0} (xs : List A) (i j : ℕ) (v d : A) → (get_or (slice_set xs i v) j d ≡ get_or xs j d) ⊎ ((i ≡ j) × (get_or (slice_set xs i v) j d ≡ v))
as_set [] zero j v d = inl refl
as_set [] (suc i) j v d = inl refl
as_set (x ∷ xs) zero zero v d = inr (refl, refl)
as_set (x ∷ xs) zero (suc j) v d = inl refl
as_set (x ∷ xs) (suc i) zero v d = inl refl
as_set (x ∷ xs) (suc i) (suc j) v d = by (as_set xs i j v d)
  where
    by : (get_or (slice_set xs i v) j d ≡ get_or xs j d) ⊎ ((i ≡ j) × (get_or (slice_set xs i v) j d ≡ v)) → (get_or (slice_set xs i v) j d ≡ get_or xs j d) ⊎ ((suc i ≡ suc j) × (get_or (slice_set xs i v) j d ≡ v))
    by (inl e) = inl e
    by (inr e) = inr (ap suc e.0, e.1)

-- a small value that is put to an element
module _ (table : List MemEntry) (memories : List (List ℕ)) (w : Write) (small : AreSmall table memories) (fits : IsSmallWrite table w) where
  abbrev values : List ℕ
  values = slice_set (slice_index_or memories w.memory []) w.position w.bits

  abbrev put : List (List ℕ)
  put = slice_set memories w.memory values

  value_put : (p : ℕ) → (slice_index values p ≡ slice_index (slice_index_or memories w.memory []) p) ⊎ ((w.position ≡ p) × (slice_index values p ≡ w.bits)) → slice_index values p < 2 ^ width_of (kind_in table w.memory)
  value_put p (inl e) = subst (λ (n : ℕ). n < 2 ^ width_of (kind_in table w.memory)) (sym e) (small w.memory p)
  value_put p (inr e) = subst (λ (n : ℕ). n < 2 ^ width_of (kind_in table w.memory)) (sym e.1) fits

  element_put : (m p : ℕ) → (slice_index_or put m [] ≡ slice_index_or memories m []) ⊎ ((w.memory ≡ m) × (slice_index_or put m [] ≡ values)) → memory_element put m p < 2 ^ width_of (kind_in table m)
  element_put m p (inl e) = subst (λ (l : List ℕ). slice_index l p < 2 ^ width_of (kind_in table m)) (sym e) (small m p)
  element_put m p (inr e) = subst (λ (l : List ℕ). slice_index l p < 2 ^ width_of (kind_in table m)) (sym e.1)
      (subst (λ (k : ℕ). slice_index values p < 2 ^ width_of (kind_in table k)) e.0 (value_put p (as_set (slice_index_or memories w.memory []) w.position p w.bits 0)))

  small_put : AreSmall table put
  small_put m p = element_put m p (as_set memories w.memory m values [])

pub small_written : (table : List MemEntry) (ws : List Write) (memories : List (List ℕ)) → AreSmall table memories → AllByRecursion (IsSmallWrite table) ws → AreSmall table (memories_written ws memories)
small_written table [] memories small fits = small
small_written table (w ∷ ws) memories small fits = small_written table ws _ (small_put table memories w small fits.0) fits.1

-- contents that fit
small_at : (bound : ℕ) (kept : List ℕ) (position : ℕ) → 0 < bound → AllByRecursion (λ v. v < bound) kept → slice_index kept position < bound
small_at bound [] position some h = some
small_at bound (v ∷ kept) zero some h = h.0
small_at bound (v ∷ kept) (suc position) some h = small_at bound kept position some h.1

pub fits_small : (table : List MemEntry) (memories : List (List ℕ)) → Fits table memories → AreSmall table memories
fits_small [] [] h memory position = pow_pos (width_of (kind_in [] memory))
fits_small [] (m ∷ ms) h memory position = absurd h
fits_small (e ∷ es) [] h memory position = absurd h
fits_small (e ∷ es) (m ∷ ms) h zero position = small_at (2 ^ width_of e.shape.kind) m position (pow_pos (width_of e.shape.kind)) h.0.small
fits_small (e ∷ es) (m ∷ ms) h (suc memory) position = fits_small es ms h.1 memory position

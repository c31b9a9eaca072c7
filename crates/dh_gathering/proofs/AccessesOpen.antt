-- Accesses without operations stay so while operations are made of others.
use Rattle.std.proofs.Common.{◌⊎◌, inl, inr, ℕ, ◌+◌, ◌<◌, ◌≤◌, List, [], ◌∷◌, refl, sym, ◌∙◌, subst, arith}
use Rattle.dh_meaning.specs.AccessNumbers.{accesses_of}
use Rattle.dh_phases.specs.GatheredPhases.{Numbered}
use Rattle.dh_expressions.specs.declared.accesses.Accesses.{Accesses}
use Rattle.dh_gathering.specs.OpenAccesses.{AreOpen, AreUntouched, TouchesWithin}

pub within_none : (a : Accesses) (first last : ℕ) → TouchesWithin a a first last
within_none a first last = record { long = refl; only = λ number out. refl }

pub within_more : (a b : Accesses) (f l first last : ℕ) → TouchesWithin a b f l → first ≤ f → l ≤ last → TouchesWithin a b first last
within_more a b f l first last h low high = record { long = h.long; only = λ number out. h.only number (outside number out) }
  where
    outside : (number : ℕ) → (number < first) ⊎ (last ≤ number) → (number < f) ⊎ (l ≤ number)
    outside number (inl less) = inl (omega (arith, low, less))
    outside number (inr more) = inr (omega (arith, high, more))

pub within_then : (a b c : Accesses) (first last : ℕ) → TouchesWithin a b first last → TouchesWithin b c first last → TouchesWithin a c first last
within_then a b c first last h k = record { long = k.long ∙ h.long; only = λ number out. k.only number out ∙ h.only number out }

-- of numbers that lie before or behind
abbrev pub AreApart : (f l first last : ℕ) → Type 0
AreApart f l first last = (l ≤ first) ⊎ (last ≤ f)

pub untouched_later : (a b : Accesses) (f l first last : ℕ) → AreUntouched a f l → TouchesWithin a b first last → AreApart f l first last → AreUntouched b f l
untouched_later a b f l first last h t apart number from to = (
  subst (λ (n : ℕ). number < n) (sym t.long) (h number from to).0,
  t.only number (outside apart) ∙ (h number from to).1,
)
  where
    outside : AreApart f l first last → (number < first) ⊎ (last ≤ number)
    outside (inl before) = inl (omega (arith, before, to))
    outside (inr behind) = inr (omega (arith, behind, from))

pub untouched_part : (a : Accesses) (f l first last : ℕ) → AreUntouched a first last → first ≤ f → l ≤ last → AreUntouched a f l
untouched_part a f l first last h low high number from to = h number (omega (arith, low, from)) (omega (arith, high, to))

pub open_within : (a : Accesses) (first last : ℕ) (cs : List Numbered) → AreOpen a first last cs → first ≤ last
open_within a first last [] h = h
open_within a first last (c ∷ cs) h = least first c.first (accesses_of c.command) last h.0 (open_within a (c.first + accesses_of c.command) last cs h.1.1)
  where
    least : (n m k l : ℕ) → n ≤ m → m + k ≤ l → n ≤ l
    least n m k l e f = omega (arith, e, f)

pub open_later : (a b : Accesses) (f l first last : ℕ) (cs : List Numbered) → AreOpen a f l cs → TouchesWithin a b first last → AreApart f l first last → AreOpen b f l cs
open_later a b f l first last [] h t apart = h
open_later a b f l first last (c ∷ cs) h t apart = (
  h.0,
  (
    untouched_later a b c.first (c.first + accesses_of c.command) first last h.1.0 t (inside apart h.0 (open_within a (c.first + accesses_of c.command) l cs h.1.1)),
    open_later a b (c.first + accesses_of c.command) l first last cs h.1.1 t (rest apart h.0),
  ),
)
  where
    inside : AreApart f l first last → f ≤ c.first → c.first + accesses_of c.command ≤ l → AreApart c.first (c.first + accesses_of c.command) first last
    inside (inl before) low high = inl (omega (arith, before, high))
    inside (inr behind) low high = inr (omega (arith, behind, low))

    rest : AreApart f l first last → f ≤ c.first → AreApart (c.first + accesses_of c.command) l first last
    rest (inl before) low = inl before
    rest (inr behind) low = inr (omega (arith, behind, low))

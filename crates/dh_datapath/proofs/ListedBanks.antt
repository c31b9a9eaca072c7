-- What is held of that bank among those behind the first that is selected, and else of the first, is what is held of
-- the bank that is selected where it is listed, and else of the first. By recursion on the banks.
use Rattle.std.proofs.Common.{◌≡◌, ℕ, Bool, true, false, if◌then◌else◌, List, refl, sym, ap, ◌∙◌, arith}
use Rattle.std.specs.Prelude.{[], ◌∷◌, ◌==◌, ◌||◌}
use Rattle.std.proofs.lemmas.Bool.{eqb-true, eq-eqb}
use Rattle.std.proofs.lemmas.Bool.Decides.{nat_tests}
use Rattle.dh_tree.specs.declared.tables.MemEntry.{MemEntry}
use Rattle.dh_cells.specs.PlainCircuits.{PlainCircuit}
use Rattle.dh_cells.specs.Settled.{Adds, shown}
use Rattle.dh_cells.proofs.WiresMade.{adds_behind}
use Rattle.dh_lower.specs.ShownWords.{is_bank_listed, bank_or_first}
use Rattle.dh_datapath.specs.ReadWires.{bank_held, bank_shown, bank_among, banks_shown, selected_bank_shown}

swapped : (a b : ℕ) → (a == b) ≡ false → (b == a) ≡ false
swapped a b e = grind (arith, e, nat_tests)

module _ (table : List MemEntry) (memory : ℕ) (ports : List (ℕ × ℕ)) (held : List ℕ) where
  abbrev held_of : ℕ → ℕ
  held_of bank = bank_held table memory ports held bank

  among_is : (banks : List (ℕ × ℕ)) (picked default : ℕ) → bank_among table memory ports held banks picked default ≡ (if is_bank_listed picked banks then held_of picked else default)
  among_is [] picked default = refl
  among_is (b ∷ bs) picked default = by (picked == b.0) refl (among_is bs picked default)
    where
      by : (t : Bool) → (picked == b.0) ≡ t → bank_among table memory ports held bs picked default ≡ (if is_bank_listed picked bs then held_of picked else default)
          → (if t then held_of b.0 else bank_among table memory ports held bs picked default) ≡ (if (b.0 == picked) || is_bank_listed picked bs then held_of picked else default)
      by true e rest =
          let same = eqb-true picked b.0 e in
          ap (λ (n : ℕ). held_of n) (sym same) ∙ sym (ap (λ (t : Bool). if t || is_bank_listed picked bs then held_of picked else default) (eq-eqb b.0 picked (sym same)))
      by false e rest = rest ∙ sym (ap (λ (t : Bool). if t || is_bank_listed picked bs then held_of picked else default) (swapped picked b.0 e))

  pub first_or_listed : (first : ℕ × ℕ) (rest : List (ℕ × ℕ)) (picked : ℕ)
      → bank_among table memory ports held rest picked (held_of first.0) ≡ held_of (bank_or_first (first ∷ rest) picked)
  first_or_listed first rest picked = among_is rest picked (held_of first.0) ∙ by (first.0 == picked) (is_bank_listed picked rest) refl
    where
      by : (t u : Bool) → (first.0 == picked) ≡ t → (if u then held_of picked else held_of first.0) ≡ held_of (if t || u then picked else first.0)
      by true true e = refl
      by true false e = ap (λ (n : ℕ). held_of n) (eqb-true first.0 picked e)
      by false true e = refl
      by false false e = refl

-- behind what was added for the first
pub selected_bank_made : (d e f : PlainCircuit) (wire width memory select default : ℕ) (ports others : List (ℕ × ℕ)) (first : ℕ × ℕ)
    → Adds d e default width (bank_shown d.table memory ports first.0) → Adds e f wire width (banks_shown e.table memory ports others select default)
    → Adds d f wire width (selected_bank_shown d.table memory ports first others select)
selected_bank_made d e f wire width memory select default ports others first before added =
    adds_behind d e f wire width (banks_shown e.table memory ports others select default) (selected_bank_shown d.table memory ports first others select) before.grows added
    (λ x settled.
    (λ i. bank_among (before.grows.table i) memory ports x.held others (shown x select) (before.shows.is x settled i))
    ∙ first_or_listed d.table memory ports x.held first others (shown x select))

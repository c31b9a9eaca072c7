-- Where no driver is active nothing clashes or strays, and memories stay.
use Rattle.std.proofs.Common.{◌≡◌, ℕ, suc, Some, None, Bool, false, not, nat_lt, if◌then◌else◌, List, refl, sym, ap, ◌∙◌}
use Rattle.std.specs.Prelude.{[], ◌∷◌, slice_get, slice_index, ◌&&◌, ◌||◌}
use Rattle.dh_tree.specs.declared.tables.MemEntry.{MemEntry}
use Rattle.dh_net.specs.Clock.{is_active, any_active, has_clash, has_clashes, has_stray, has_strays, served, memories_after}
use Rattle.dh_net.specs.declared.nets.Driver.{Driver}
use Rattle.dh_net.specs.declared.ports.Port.{Port}
use Rattle.dh_lower.proofs.ReadsMade.{no_clashes, no_strays}
use Rattle.dh_lower.proofs.StepWrites.{all_kept}

-- no driver of one port is active
abbrev AreSilent : List ℕ → List Driver → Type 0
AreSilent wires ds = (i : ℕ) (d : Driver) → slice_get ds i ≡ Some d → is_active wires d ≡ false

silent_clash : (wires : List ℕ) (ds : List Driver) → AreSilent wires ds → has_clash wires ds ≡ false
silent_clash wires [] h = refl
silent_clash wires (d ∷ ds) h = ap (λ (b : Bool). (b && any_active wires ds) || has_clash wires ds) (h 0 d refl) ∙ silent_clash wires ds (λ i x at. h (suc i) x at)

silent_stray : (wires : List ℕ) (ds : List Driver) (rows : ℕ) → AreSilent wires ds → has_stray wires ds rows ≡ false
silent_stray wires [] rows h = refl
silent_stray wires (d ∷ ds) rows h =
    ap (λ (b : Bool). (b && not (nat_lt (slice_index wires d.row) rows)) || has_stray wires ds rows) (h 0 d refl) ∙ silent_stray wires ds rows (λ i x at. h (suc i) x at)

silent_served : (wires : List ℕ) (ds : List Driver) → AreSilent wires ds → served wires ds ≡ None
silent_served wires [] h = refl
silent_served wires (d ∷ ds) h = ap (λ (b : Bool). if b then Some d else served wires ds) (h 0 d refl) ∙ silent_served wires ds (λ i x at. h (suc i) x at)

module _ (table : List MemEntry) (wires : List ℕ) (dss : List (List Driver)) (ps : List Port)
    (silent : (q i : ℕ) (ds : List Driver) (d : Driver) → slice_get dss q ≡ Some ds → slice_get ds i ≡ Some d → is_active wires d ≡ false) where
  pub silent_clashes : has_clashes wires dss ≡ false
  silent_clashes = no_clashes wires dss (λ q ds at. silent_clash wires ds (λ i d there. silent q i ds d at there))

  pub silent_strays : has_strays wires dss ps ≡ false
  silent_strays = no_strays wires dss ps (λ q ds p at port. silent_stray wires ds p.rows (λ i d there. silent q i ds d at there))

  pub silent_memories : (memories : List (List ℕ)) → memories_after table wires dss ps memories ≡ memories
  silent_memories memories = all_kept table wires dss ps memories λ q ds p d at port is w.
      let none = silent_served wires ds (λ i x there. silent q i ds x at there) in
      (let f : None ≡ Some d = sym none ∙ is in cc)

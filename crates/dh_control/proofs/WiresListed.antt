-- One more wire in a list of wires of which each shows a value.
use Rattle.std.proofs.Common.{◌≡◌, ℕ, zero, suc, ◌+◌, ◌<◌, inl, inr, List, [], ◌∷◌, ◌++◌, length, refl, sym, ap, subst, ◌∙◌, arith}
use Rattle.std.specs.Prelude.{slice_index}
use Rattle.std.proofs.lemmas.Bool.{cases_eq}
use Rattle.dh_cells.specs.PlainCircuits.{PlainCircuit}
use Rattle.dh_cells.specs.Settled.{Signals, Grows, Shows, Adds}
use Rattle.dh_cells.proofs.CellsAppended.{grows_none, grows_then, shows_later}
use Rattle.dh_control.specs.WireLists.{EachShows}

pub none_listed : (d : PlainCircuit) (width : ℕ → ℕ) (value : ℕ → Signals → ℕ) → EachShows d d width value 0 []
none_listed d width value = record { grows = grows_none d; long = refl; each = λ i less. absurd (omega (arith, less)) }

pub get_snoc_before : (xs : List ℕ) (y i : ℕ) → i < length xs → slice_index (xs ++ y ∷ []) i ≡ slice_index xs i
get_snoc_before [] y i less = absurd (omega (arith, less))
get_snoc_before (x ∷ xs) y zero less = refl
get_snoc_before (x ∷ xs) y (suc i) less = get_snoc_before xs y i (omega (arith, less))

pub get_snoc_last : (xs : List ℕ) (y : ℕ) → slice_index (xs ++ y ∷ []) (length xs) ≡ y
get_snoc_last [] y = refl
get_snoc_last (x ∷ xs) y = get_snoc_last xs y

pub long_snoc : (xs : List ℕ) (y : ℕ) → length (xs ++ y ∷ []) ≡ suc (length xs)
long_snoc [] y = refl
long_snoc (x ∷ xs) y = ap suc (long_snoc xs y)

pub next_listed : (old now new : PlainCircuit) (width : ℕ → ℕ) (value : ℕ → Signals → ℕ) (count wire : ℕ) (wires news : List ℕ) → EachShows old now width value count wires
    → Adds now new wire (width count) (value count) → news ≡ wires ++ wire ∷ [] → EachShows old new width value (count + 1) news
next_listed old now new width value count wire wires news h a put =
    subst (λ (l : List ℕ). EachShows old new width value (count + 1) l) (sym put)
    (record {
      grows = grows_then old now new h.grows a.grows;
      long = (let l = h.long in let s = long_snoc wires wire in omega (arith, l, s));
      each = λ i less. elim (cases_eq i count) [
        | inl same ↦
            let last : slice_index (wires ++ wire ∷ []) i ≡ wire = (ap (λ k. slice_index (wires ++ wire ∷ []) k) (same ∙ sym h.long) ∙ get_snoc_last wires wire) in
            subst (λ (w : ℕ). Shows new w (width i) (value i)) (sym last) (subst (λ (k : ℕ). Shows new wire (width k) (value k)) (sym same) a.shows)
        | inr other ↦
            let small : i < count = omega (arith, less, other) in
            let l = h.long in
            let before : slice_index (wires ++ wire ∷ []) i ≡ slice_index wires i = get_snoc_before wires wire i (omega (arith, small, l)) in
            subst (λ (w : ℕ). Shows new w (width i) (value i)) (sym before)
            (shows_later now new (slice_index wires i) (width i) (value i) a.grows (h.each i small))
      ];
    })

pub listed_later : (old now new : PlainCircuit) (width : ℕ → ℕ) (value : ℕ → Signals → ℕ) (count : ℕ) (wires : List ℕ) → EachShows old now width value count wires → Grows now new
    → EachShows old new width value count wires
listed_later old now new width value count wires h g = record {
  grows = grows_then old now new h.grows g;
  long = h.long;
  each = λ i less. shows_later now new (slice_index wires i) (width i) (value i) g (h.each i less);
}

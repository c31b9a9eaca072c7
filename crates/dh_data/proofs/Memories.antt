-- The loop over the memories of a table: from its place on, what is still to be added is one memory
-- and what is to be added from the next place on.
use Rattle.std.proofs.Common.{◌≡◌, ℕ, zero, suc, ◌+◌, ◌<◌, ◌≤◌, List, [], ◌∷◌, ◌++◌, length, get_or, map, drop, codes, Vec, Global, false, subst, refl, sym, ap, ◌∙◌, arith}
use Rattle.std.specs.List.{AllByRecursion}
use Rattle.std.proofs.Math.Seq.{drop-nil}
use Rattle.std.proofs.Math.ListN.{drop_of_length-le}
use Rattle.std.proofs.lemmas.List.{length-map, get_or-map}
use Rattle.serde_json.specs.Data.{Data, Members}
use Rattle.serde_json.specs.Written.{has_float, compact_text}
use Rattle.dh_tree.specs.Tables.{FitsEntry, Fits}
use Rattle.dh_tree.specs.declared.tables.MemEntry.{MemEntry}
use Rattle.dh_data.specs.Reading.{HasCountableNumbers}
use Rattle.dh_data.specs.Reports.{outside_data, with_outside}
use Rattle.dh_base.proofs.ListItems.{at_item}

-- what a turn has and leaves
pub record Turn (es rest : List MemEntry) (ms more : List (List ℕ)) (e : MemEntry) (m : List ℕ) : Type 0 where
  pub entry : HasCountableNumbers e
  pub fits : FitsEntry e m
  pub table : AllByRecursion HasCountableNumbers rest
  pub rests : Fits rest more
  pub same : (found : Members) → outside_data es ms found ≡ outside_data rest more (with_outside e m found)

cons_turn : (rest : List MemEntry) (more : List (List ℕ)) (e : MemEntry) (m : List ℕ) → AllByRecursion HasCountableNumbers (e ∷ rest) → Fits (e ∷ rest) (m ∷ more) → Turn (e ∷ rest) rest (m ∷ more) more e m
cons_turn rest more e m table fits = record { entry = table.0; fits = fits.0; table = table.1; rests = fits.1; same = λ found. refl }

is_turn : (es rest : List MemEntry) (ms more : List (List ℕ)) (e : MemEntry) (m : List ℕ) → es ≡ e ∷ rest → ms ≡ m ∷ more → AllByRecursion HasCountableNumbers es → Fits es ms → Turn es rest ms more e m
is_turn es rest ms more e m first list table fits =
    let table' : AllByRecursion HasCountableNumbers (e ∷ rest) = subst (λ (x : List MemEntry). AllByRecursion HasCountableNumbers x) first table in
    let fits' : Fits (e ∷ rest) (m ∷ more) = subst (λ (x : List MemEntry). Fits x (m ∷ more)) first (subst (λ (x : List (List ℕ)). Fits es x) list fits) in
    subst (λ (x : List MemEntry). Turn x rest ms more e m) (sym first) (subst (λ (x : List (List ℕ)). Turn (e ∷ rest) rest x more e m) (sym list) (cons_turn rest more e m table' fits'))

-- there is a list for each memory
fits_there : (es : List MemEntry) (ms : List (List ℕ)) (i : ℕ) → i < length es → Fits (drop i es) (drop i ms) → i < length ms
fits_there [] ms i within fits = absurd (omega (arith, within))
fits_there (e ∷ es) [] zero within fits = absurd fits
fits_there (e ∷ es) [] (suc i) within fits = let none : i < length {A = List ℕ} [] = fits_there es [] i (omega (arith, within)) (subst (λ (x : List (List ℕ)). Fits (drop i es) x) (sym (drop-nil i)) fits) in absurd (omega (arith, none))
fits_there (e ∷ es) (m ∷ ms) zero within fits = omega arith
fits_there (e ∷ es) (m ∷ ms) (suc i) within fits = let less : i < length ms = fits_there es ms i (omega (arith, within)) fits in omega (arith, less)

pub turn : (es : List MemEntry) (lists : List (Vec ℕ Global)) (i : ℕ) (e : MemEntry) (v : Vec ℕ Global) → i < length es → e ≡ get_or es i e → v ≡ get_or lists i v
    → AllByRecursion HasCountableNumbers (drop i es) → Fits (drop i es) (drop i (map (λ x. x.items) lists)) → Turn (drop i es) (drop (i + 1) es) (drop i (map (λ x. x.items) lists)) (drop (i + 1) (map (λ x. x.items) lists)) e v.items
turn es lists i e v within is list table fits =
    let long : i < length (map (λ x. x.items) lists) = fits_there es (map (λ x. x.items) lists) i within fits in
    let there : i < length lists = subst (λ n. i < n) (length-map lists (λ x. x.items)) long in
    let at : v.items ≡ get_or (map (λ x. x.items) lists) i v.items = ap (λ x. x.items) list ∙ sym (get_or-map (λ x. x.items) lists i v v.items there) in
    is_turn (drop i es) (drop (i + 1) es) (drop i (map (λ x. x.items) lists)) (drop (i + 1) (map (λ x. x.items) lists)) e v.items (at_item es i e within is) (at_item (map (λ x. x.items) lists) i v.items long at) table fits

-- at the end nothing is to be added
pub all_added : (es : List MemEntry) (ms : List (List ℕ)) (i : ℕ) (found : Members) → length es ≤ i → outside_data (drop i es) ms found ≡ found
all_added es ms i found past = ap (λ x. outside_data x ms found) (drop_of_length-le es past)

-- a line is the text of a value with no float, and its end
pub line_of : (d e : Data) (text new : List ℕ) → d ≡ e → (has_float d ≡ false → text ≡ compact_text d) → has_float e ≡ false → new ≡ text ++ 10 ∷ [] → new ≡ compact_text e ++ codes "\n"
line_of d e text new same texts none line = line ∙ ap (λ t. t ++ 10 ∷ []) (texts (ap has_float same ∙ none) ∙ ap compact_text same)

-- after a turn the same is to come
pub after_turn : (es rest : List MemEntry) (ms more : List (List ℕ)) (e : MemEntry) (m values : List ℕ) (found new : Members) → Turn es rest ms more e m → values ≡ m → new ≡ with_outside e values found
    → outside_data rest more new ≡ outside_data es ms found
after_turn es rest ms more e m values found new t same is = ap (outside_data rest more) (is ∙ ap (λ vs. with_outside e vs found) same) ∙ sym (t.same found)

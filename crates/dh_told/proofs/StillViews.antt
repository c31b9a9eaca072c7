-- Through views that stand still an index within the sizes of what is named leads to one within those of the memory: a shrink
-- has its parent's sizes, and the copies of a split have one element of its parent each. And they take no offsets.
use Rattle.std.proofs.Common.{◌≡◌, ℕ, zero, suc, ◌/◌, ◌<◌, ◌&&◌, Bool, true, false, if◌then◌else◌, List, [], ◌∷◌, ◌++◌, map, take, drop, Some, None, refl, ap, sym, ◌∙◌, subst, ℤ, pos}
use Rattle.std.specs.Prelude.{slice_index, unsigned_abs}
use Rattle.std.specs.List.{AllByRecursion}
use Rattle.dh_value.specs.declared.words.Word.{Word}
use Rattle.dh_value.specs.Words.{value_of}
use Rattle.dh_tree.specs.declared.tables.Dim.{Dim}
use Rattle.dh_tree.specs.declared.viewing.ViewMap.{ViewMap}
use Rattle.dh_tree.specs.declared.viewing.ViewSort.{ViewSort}
use Rattle.dh_tree.specs.declared.viewing.ViewSort.TheVariants.{Shrink, Split, Suffix, Shift}
use Rattle.dh_tree.specs.Shapes.{IsDim}
use Rattle.dh_tree.specs.ViewElements.{dealt_index, first_banks, is_index, is_inside, named_by, offsets_needed, parent_index, split_index, where_inside}
use Rattle.dh_tree.specs.ViewShapes.{AreSplitOf, IsShapeOf}
use Rattle.dh_viewing.proofs.BankDigits.{both, index_is, natural_of}
use Rattle.dh_viewing.proofs.ReachTold.{shared_of}
use Rattle.dh_viewing.proofs.SplitElements.{dealt_below, share_is}
use Rattle.dh_viewing.proofs.ViewBanks.{same_inside}
use Rattle.dh_meaning.specs.Effects.{indices_through}
use Rattle.dh_meaning.specs.Ways.{WayStep, step_of}
use Rattle.dh_plan.specs.Blocks.{numbers_at, passages, word_at}
use Rattle.dh_plan.specs.LiteralAccesses.{StandsStill}
use Rattle.dh_plan.specs.Ordered.{offsets_taken}
use Rattle.dh_plan.specs.WaysPassed.{AreOfSteps}
use Rattle.dh_ways.specs.Leading.{StepsLead, next_dims}
use Rattle.dh_sound.proofs.ValuesOfIndices.{both_true}
use Rattle.dh_expressions.specs.declared.scenes.Through.{Through}
use Rattle.dh_expressions.specs.Evaluated.{AreViews, steps_told}
use Rattle.dh_expressions.specs.Named.{number_of_parent}

-- One view.

split_inside : (vs ps : List Dim) (ks : List ℕ) (is : List ℤ) → AreSplitOf vs ps ks → AllByRecursion IsDim vs → is_inside vs is ≡ true → is_inside ps (split_index (first_banks ps) (slice_index ks 0) is) ≡ true
split_inside [] ps ks is h d e = absurd h
split_inside (v ∷ []) ps ks is h d e = absurd h
split_inside (v ∷ (w ∷ (u ∷ vs))) ps ks is h d e = absurd h
split_inside (v ∷ (w ∷ [])) [] ks is h d e = absurd h
split_inside (v ∷ (w ∷ [])) (p ∷ (q ∷ ps)) ks is h d e = absurd h
split_inside (v ∷ (w ∷ [])) (p ∷ []) [] is h d e = absurd h
split_inside (v ∷ (w ∷ [])) (p ∷ []) (f ∷ (g ∷ ks)) is h d e = absurd h
split_inside (v ∷ (w ∷ [])) (p ∷ []) (f ∷ []) [] h d e = absurd (cc)
split_inside (v ∷ (w ∷ [])) (p ∷ []) (f ∷ []) (y ∷ []) h d e = absurd (no_second (is_index v.size y) e)
  where
    no_second : (b : Bool) → (b && false) ≡ true → ⊥
    no_second true c = cc
    no_second false c = cc
split_inside (v ∷ (w ∷ [])) (p ∷ []) (f ∷ []) (y ∷ (z ∷ zs)) h d e =
    let one = both_true (is_index v.size y) (is_index w.size z && is_inside [] zs) e in
    let two = both_true (is_index w.size z) (is_inside [] zs) one.1 in
    let a = natural_of v.size y one.0 in
    let b = natural_of w.size z two.0 in
    let s = shared_of v w p f h d.1.0 in
    let same : dealt_index p.banks (p.banks / f) (unsigned_abs y) (unsigned_abs z) ≡ dealt_index p.banks w.banks a.n b.n =
    ap (λ (n : ℕ). dealt_index p.banks n (unsigned_abs y) (unsigned_abs z)) (share_is s)
    ∙ (ap (λ (x : ℤ). dealt_index p.banks w.banks (unsigned_abs x) (unsigned_abs z)) a.is ∙ ap (λ (x : ℤ). dealt_index p.banks w.banks a.n (unsigned_abs x)) b.is)
    in
    let below : dealt_index p.banks w.banks a.n b.n < p.size = dealt_below s a.n b.n (subst (λ (n : ℕ). a.n < n) h.0.0 a.below) b.below in
    both (is_index p.size (pos (dealt_index p.banks (p.banks / f) (unsigned_abs y) (unsigned_abs z)))) true
    (index_is p.size (dealt_index p.banks (p.banks / f) (unsigned_abs y) (unsigned_abs z)) (subst (λ (n : ℕ). n < p.size) (sym same) below)) refl

still_inside : (sort : ViewSort) (vs ps : List Dim) (by : List ℕ) (es is : List ℤ) → StandsStill sort → IsShapeOf sort vs ps by → AllByRecursion IsDim vs → is_inside vs is ≡ true
    → is_inside ps (parent_index sort (first_banks ps) by es is) ≡ true
still_inside Shrink vs ps by es is s h d e = sym (same_inside vs ps by is h) ∙ e
still_inside Split vs ps by es is s h d e = split_inside vs ps by is h d e
still_inside Suffix vs ps by es is s h d e = absurd s
still_inside Shift vs ps by es is s h d e = absurd s

needs_none : (sort : ViewSort) (dims : List Dim) → StandsStill sort → offsets_needed sort dims ≡ 0
needs_none Shrink dims s = refl
needs_none Split dims s = refl
needs_none Suffix dims s = absurd s
needs_none Shift dims s = absurd s

-- All on the way.

abbrev pub AreStill : List WayStep → Type 0
AreStill steps = AllByRecursion (λ (s : WayStep). StandsStill s.is.sort) steps

-- where indices lead
pub record LeadsInside (steps : List WayStep) (dims : List Dim) (indices offsets : List ℤ) : Type 0 where
  pub last : List ℤ
  pub through : indices_through steps indices offsets ≡ Some last
  pub inside : is_inside dims last ≡ true

pub still_leads : (steps : List WayStep) (dims : List Dim) (indices offsets : List ℤ) → StepsLead steps dims → AreStill steps → is_inside (next_dims steps dims) indices ≡ true → LeadsInside steps dims indices offsets
still_leads [] dims indices offsets leads still e = record { last = indices; through = refl; inside = e }
still_leads (s ∷ ss) dims indices offsets leads still e =
    let inner = named_by s.is (take s.offsets offsets) indices in
    let there : is_inside s.is.parent.dims inner ≡ true =
    still_inside s.is.sort s.is.shape.dims s.is.parent.dims s.is.by (take s.offsets offsets) indices still.0 leads.0.shape leads.0.own.dims e
    in
    let rest = still_leads ss dims inner (drop s.offsets offsets) leads.1.1 still.1 (subst (λ (ds : List Dim). is_inside ds inner ≡ true) leads.1.0 there) in
    record {
      last = rest.last;
      through = ap (λ (b : Bool). where_inside (if b then Some inner else None) (λ (zs : List ℤ). indices_through ss zs (drop s.offsets offsets))) e ∙ rest.through;
      inside = rest.inside;
    }

-- Their offsets.

abbrev first_offsets : List WayStep → ℕ
first_offsets [] = 0
first_offsets (s ∷ ss) = s.offsets

abbrev behind_first : List WayStep → List WayStep
behind_first [] = []
behind_first (s ∷ ss) = ss

pub still_takes : (through : List Through) (steps : List WayStep) (first : ℕ) (values : List ℕ) → map step_of (map (λ (s : WayStep). s.is) steps) ≡ steps → AreStill steps → offsets_taken (steps_told through first steps values) ≡ []
still_takes through [] first values each still = refl
still_takes through (s ∷ ss) first values each still =
    ap (λ (n : ℕ). take n values ++ offsets_taken (steps_told through (number_of_parent through first) ss (drop s.offsets values))) none
    ∙ still_takes through ss (number_of_parent through first) (drop s.offsets values) (ap behind_first each) still.1
  where
    none : s.offsets ≡ 0
    none = sym (ap first_offsets each) ∙ needs_none s.is.sort s.is.parent.dims still.0

-- The steps of a plan pass as those of the way.

numbers_taken : (number : ℕ) (ws : List Word) (n : ℕ) (values : List ℕ) → numbers_at number ws (take n values) ≡ take n (numbers_at number ws values)
numbers_taken number ws zero values = refl
numbers_taken number ws (suc n) [] = refl
numbers_taken number ws (suc n) (v ∷ values) = ap (λ (zs : List ℤ). value_of (word_at number ws v) ∷ zs) (numbers_taken number ws n values)

numbers_dropped : (number : ℕ) (ws : List Word) (n : ℕ) (values : List ℕ) → numbers_at number ws (drop n values) ≡ drop n (numbers_at number ws values)
numbers_dropped number ws zero values = refl
numbers_dropped number ws (suc n) [] = refl
numbers_dropped number ws (suc n) (v ∷ values) = numbers_dropped number ws n values

pub steps_pass : (number : ℕ) (ws : List Word) (through : List Through) (vs : List ViewMap) (steps : List WayStep) (first : ℕ) (values : List ℕ) → AreViews through vs first steps
    → AreOfSteps vs steps (passages number ws (steps_told through first steps values)) (numbers_at number ws values)
steps_pass number ws through vs [] first values there = tt
steps_pass number ws through vs (s ∷ ss) first values there = (
  there.0,
  (
    numbers_taken number ws s.offsets values,
    subst (λ (zs : List ℤ). AreOfSteps vs ss (passages number ws (steps_told through (number_of_parent through first) ss (drop s.offsets values))) zs) (numbers_dropped number ws s.offsets values)
        (steps_pass number ws through vs ss (number_of_parent through first) (drop s.offsets values) there.1),
  ),
)

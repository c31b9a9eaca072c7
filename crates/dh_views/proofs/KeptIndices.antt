-- The least breach, kept while two lists are gone through side by side.
use Rattle.std.proofs.Common.{◌≡◌, ℕ, zero, suc, ◌+◌, ◌<◌, ◌⊎◌, inl, inr, ◌&&◌, ◌==◌, ◌%◌, not, nat_lt, List, [], ◌∷◌, ◌++◌, length, get_or, drop, map, slice_get, Option, Some, ℤ, refl, ap, sym, ◌∙◌, add-one}
use Rattle.dh_base.specs.declared.places.Place.{Place}
use Rattle.dh_base.specs.declared.rules.Rule.TheVariants.{BankUnroll, DynamicBank, ConstantRange}
use Rattle.dh_tree.specs.declared.breaches.Breach.{Breach}
use Rattle.dh_tree.specs.declared.tables.Dim.{Dim}
use Rattle.dh_tree.specs.declared.trees.counters.Counter.{Counter}
use Rattle.dh_tree.specs.declared.trees.expressions.Expr.{Expr}
use Rattle.dh_tree.specs.declared.trees.programs.DimPlaces.{DimPlaces}
use Rattle.dh_tree.specs.Counters.{counter_in}
use Rattle.dh_tree.specs.Indices.{IndexKind, constant, iterator, dynamic, is_beyond, one_index_breaches, indices_breaches, dims_breaches}
use Rattle.dh_tree.specs.Kinds.{when}
use Rattle.dh_tree.specs.LeastBreach.{least_of, breach}
use Rattle.dh_tree.specs.Seen.{term_seen, terms}
use Rattle.std.proofs.Math.Seq.{drop-cons}
use Rattle.dh_tree.proofs.Leasts.{least_append}
use Rattle.dh_shape.specs.Classified.{Classifies}
use Rattle.dh_shape.specs.declared.indices.IndexKind.TheVariants as kinds
use Rattle.dh_views.specs.Kept.{body_copies_of, placed_breaches}

-- what an index is, as it was told
pub constant_kept : (cs : List Counter) (d : Dim) (place : Place) (k : IndexKind) (z : ℤ) → Classifies cs k (kinds.Constant z)
    → one_index_breaches d place k ≡ when (is_beyond d.size z) (breach ConstantRange place ∷ [])
constant_kept cs d place (constant v) z h = ap (λ x. when (is_beyond d.size x) (breach ConstantRange place ∷ [])) (sym h)
constant_kept cs d place (iterator c offset) z h = absurd h
constant_kept cs d place dynamic z h = absurd h

pub iterator_kept : (cs : List Counter) (d : Dim) (place : Place) (k : IndexKind) (entity : ℕ) (offset : ℤ) → Classifies cs k (kinds.Iterator entity offset)
    → one_index_breaches d place k ≡ when (nat_lt 1 d.banks && not (body_copies_of (counter_in cs (Some entity)) % d.banks == 0)) (breach BankUnroll place ∷ [])
iterator_kept cs d place (constant v) entity offset h = absurd h
iterator_kept cs d place (iterator c o) entity offset h = ap (λ x. when (nat_lt 1 d.banks && not (body_copies_of x % d.banks == 0)) (breach BankUnroll place ∷ [])) (sym h.0)
iterator_kept cs d place dynamic entity offset h = absurd h

pub dynamic_kept : (cs : List Counter) (d : Dim) (place : Place) (k : IndexKind) → Classifies cs k kinds.Dynamic
    → one_index_breaches d place k ≡ when (nat_lt 1 d.banks) (breach DynamicBank place ∷ [])
dynamic_kept cs d place (constant v) h = absurd h
dynamic_kept cs d place (iterator c o) h = absurd h
dynamic_kept cs d place dynamic h = refl

-- indices, each beside its dimension
abbrev pub indices_rest : List Counter → Option Breach → List Dim → List Expr → Option Breach
indices_rest cs kept ds es = least_of kept (indices_breaches cs ds (terms (map term_seen es)))

pub indices_end : (cs : List Counter) (kept : Option Breach) (ds : List Dim) (es : List Expr) → (ds ≡ []) ⊎ (es ≡ []) → kept ≡ indices_rest cs kept ds es
indices_end cs kept ds es (inl none) = ap (λ l. indices_rest cs kept l es) (sym none)
indices_end cs kept [] es (inr none) = refl
indices_end cs kept (d ∷ ds) es (inr none) = ap (λ l. indices_rest cs kept (d ∷ ds) l) (sym none)

-- dimensions, each beside its places
abbrev pub dims_rest : Place → Option Breach → List Dim → List DimPlaces → ℕ → Option Breach
dims_rest at kept ds ps i = least_of kept (dims_breaches at (drop i ds) (drop i ps))

one_dim : (at : Place) (d : Dim) (ds : List Dim) (ps : List DimPlaces) → dims_breaches at (d ∷ ds) ps ≡ placed_breaches at (slice_get ps 0) d ++ dims_breaches at ds (drop 1 ps)
one_dim at d ds [] = refl
one_dim at d ds (p ∷ ps) = refl

first_left : (ps : List DimPlaces) (i : ℕ) → slice_get (drop i ps) 0 ≡ slice_get ps i
first_left ps zero = refl
first_left [] (suc i) = refl
first_left (p ∷ ps) (suc i) = first_left ps i

more_left : (ps : List DimPlaces) (i : ℕ) → drop 1 (drop i ps) ≡ drop (suc i) ps
more_left ps zero = refl
more_left [] (suc i) = refl
more_left (p ∷ ps) (suc i) = more_left ps i

pub dims_turn : (at : Place) (kept next : Option Breach) (ds : List Dim) (ps : List DimPlaces) (i : ℕ) (x : Dim) → i < length ds
    → next ≡ least_of kept (placed_breaches at (slice_get ps i) (get_or ds i x)) → dims_rest at next ds ps (i + 1) ≡ dims_rest at kept ds ps i
dims_turn at kept next ds ps i x within e =
    let d = get_or ds i x in
    let behind = dims_breaches at (drop (i + 1) ds) (drop (i + 1) ps) in
    ap (λ k. least_of k behind) e
    ∙ (sym (least_append kept (placed_breaches at (slice_get ps i) d) behind)
    ∙ (ap (λ l. least_of kept (placed_breaches at l d ++ behind)) (sym (first_left ps i))
    ∙ (ap (λ l. least_of kept (placed_breaches at (slice_get (drop i ps) 0) d ++ dims_breaches at (drop (i + 1) ds) l)) (ap (λ n. drop n ps) (add-one i) ∙ sym (more_left ps i))
    ∙ (ap (λ l. least_of kept l) (sym (one_dim at d (drop (i + 1) ds) (drop i ps)))
    ∙ ap (λ l. least_of kept (dims_breaches at l (drop i ps))) (sym (drop-cons ds i x within ∙ ap (λ n. d ∷ drop n ds) (sym (add-one i))))))))

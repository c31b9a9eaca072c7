-- Dimensions of a view that moves, one after the other: behind the last one nothing is put down. And the offsets of the
-- views of a way, one view after the other.
use Rattle.std.proofs.Common.{◌≡◌, ℕ, zero, suc, ◌≤◌, ◌<◌, List, refl, sym, ap, ◌∙◌, arith, add-one, length, drop, min}
use Rattle.std.specs.Prelude.{◌+◌, [], ◌∷◌, ◌++◌, map, slice_index_or}
use Rattle.std.proofs.Math.Seq.{drop-cons}
use Rattle.std.proofs.lemmas.List.{append_assoc, append-nil, map-append}
use Rattle.dh_plan.specs.declared.operations.ReachStep.{ReachStep}
use Rattle.dh_plan.specs.Ordered.{offsets_taken}
use Rattle.dh_tree.specs.declared.tables.Dim.{Dim}
use Rattle.dh_address.specs.declared.operands.BlockValue.{BlockValue}
use Rattle.dh_address.specs.declared.operands.Ranged.{Ranged}
use Rattle.dh_plan.specs.declared.operations.Operation.{Operation}
use Rattle.dh_address.specs.WaysMade.{IndexWay, way, IsIndexWay, moved_all, unit_factors, ranges_by}

without_factors : (ds : List Dim) (es is : List BlockValue) (w : IndexWay) → moved_all ds [] es is w ≡ w
without_factors [] es is w = refl
without_factors (d ∷ ds) es is w = refl

without_offsets : (ds : List Dim) (ks : List ℕ) (is : List BlockValue) (w : IndexWay) → moved_all ds ks [] is w ≡ w
without_offsets [] ks is w = refl
without_offsets (d ∷ ds) [] is w = refl
without_offsets (d ∷ ds) (k ∷ ks) is w = refl

without_indices : (ds : List Dim) (ks : List ℕ) (es : List BlockValue) (w : IndexWay) → moved_all ds ks es [] w ≡ w
without_indices [] ks es w = refl
without_indices (d ∷ ds) [] es w = refl
without_indices (d ∷ ds) (k ∷ ks) [] w = refl
without_indices (d ∷ ds) (k ∷ ks) (e ∷ es) w = refl

pub moved_end : (ds : List Dim) (ks : List ℕ) (es is : List BlockValue) (n : ℕ) (w : IndexWay) → min (min (min (length ds) (length ks)) (length es)) (length is) ≤ n
    → moved_all (drop n ds) (drop n ks) (drop n es) (drop n is) w ≡ w
moved_end [] ks es is zero w l = refl
moved_end [] ks es is (suc n) w l = refl
moved_end (d ∷ ds) [] es is zero w l = refl
moved_end (d ∷ ds) [] es is (suc n) w l = without_factors (drop n ds) (drop (suc n) es) (drop (suc n) is) w
moved_end (d ∷ ds) (k ∷ ks) [] is zero w l = refl
moved_end (d ∷ ds) (k ∷ ks) [] is (suc n) w l = without_offsets (drop n ds) (drop n ks) (drop (suc n) is) w
moved_end (d ∷ ds) (k ∷ ks) (e ∷ es) [] zero w l = refl
moved_end (d ∷ ds) (k ∷ ks) (e ∷ es) [] (suc n) w l = without_indices (drop n ds) (drop n ks) (drop n es) w
moved_end (d ∷ ds) (k ∷ ks) (e ∷ es) (i ∷ is) zero w l = absurd (omega (arith, l))
moved_end (d ∷ ds) (k ∷ ks) (e ∷ es) (i ∷ is) (suc n) w l = moved_end ds ks es is n w (omega (arith, l))

pub moved_ended : (ds : List Dim) (ks : List ℕ) (es is : List BlockValue) (n : ℕ) (os : List Operation) (ranges : List Ranged) (moved : List BlockValue) (whole : IndexWay)
    → min (min (min (length ds) (length ks)) (length es)) (length is) ≤ n → moved_all (drop n ds) (drop n ks) (drop n es) (drop n is) (way os ranges moved) ≡ whole → IsIndexWay os ranges moved whole
moved_ended ds ks es is n os ranges moved whole l so = (ap (λ (w : IndexWay). w.operations) same, (ap (λ (w : IndexWay). w.ranges) same, ap (λ (w : IndexWay). w.indices) same))
  where
    same : way os ranges moved ≡ whole
    same = sym (moved_end ds ks es is n (way os ranges moved) l) ∙ so

pub ranges_done : (ds : List Dim) (is : List BlockValue) (n : ℕ) → min (length ds) (length is) ≤ n → ranges_by (drop n ds) (drop n is) ≡ []
ranges_done [] is zero l = refl
ranges_done [] is (suc n) l = refl
ranges_done (d ∷ ds) [] zero l = refl
ranges_done (d ∷ ds) [] (suc n) l = none (drop n ds)
  where
    none : (ds : List Dim) → ranges_by ds [] ≡ []
    none [] = refl
    none (d ∷ ds) = refl
ranges_done (d ∷ ds) (i ∷ is) zero l = absurd (omega (arith, l))
ranges_done (d ∷ ds) (i ∷ is) (suc n) l = ranges_done ds is n (omega (arith, l))

pub ranges_ended : (ds : List Dim) (is : List BlockValue) (n : ℕ) (so_far whole : List Ranged) → min (length ds) (length is) ≤ n → so_far ++ ranges_by (drop n ds) (drop n is) ≡ whole → so_far ≡ whole
ranges_ended ds is n so_far whole l so = sym (append-nil so_far) ∙ (ap (λ (rs : List Ranged). so_far ++ rs) (sym (ranges_done ds is n l)) ∙ so)

-- one view more
pub offsets_turn : (f : ℕ → ℕ) (steps : List ReachStep) (i : ℕ) (step : ReachStep) (so_far next whole : List ℕ) → i < length steps → next ≡ so_far ++ map f (slice_index_or steps i step).offsets
    → so_far ++ map f (offsets_taken (drop i steps)) ≡ whole → next ++ map f (offsets_taken (drop (i + 1) steps)) ≡ whole
offsets_turn f steps i step so_far next whole within is so =
    ap (λ (l : List ℕ). l ++ map f rest) is
    ∙ (append_assoc so_far (map f here.offsets) (map f rest) ∙ (ap (λ (l : List ℕ). so_far ++ l) (sym (map-append f here.offsets rest)) ∙ (ap (λ (l : List ℕ). so_far ++ map f l) (sym taken) ∙ so)))
  where
    here : ReachStep
    here = slice_index_or steps i step

    rest : List ℕ
    rest = offsets_taken (drop (i + 1) steps)

    taken : offsets_taken (drop i steps) ≡ here.offsets ++ rest
    taken = ap offsets_taken (drop-cons steps i step within ∙ ap (λ n. slice_index_or steps i step ∷ drop n steps) (sym (add-one i)))

abbrev pub no_dim : Dim
no_dim = record { size = 0; banks = 0 }

pub ones_turn : (ds : List Dim) (i : ℕ) (so_far next whole : List ℕ) → i < length ds → next ≡ so_far ++ 1 ∷ [] → so_far ++ unit_factors (drop i ds) ≡ whole → next ++ unit_factors (drop (i + 1) ds) ≡ whole
ones_turn ds i so_far next whole within is so =
    ap (λ (l : List ℕ). l ++ unit_factors (drop (i + 1) ds)) is
    ∙ (append_assoc so_far (1 ∷ []) (unit_factors (drop (i + 1) ds)) ∙ (ap (λ (l : List ℕ). so_far ++ l) (sym more) ∙ so))
  where
    more : unit_factors (drop i ds) ≡ 1 ∷ unit_factors (drop (i + 1) ds)
    more = ap unit_factors (drop-cons ds i no_dim within ∙ ap (λ n. slice_index_or ds i no_dim ∷ drop n ds) (sym (add-one i)))

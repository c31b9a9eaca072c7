-- Pairs of operations, one after the other: a pair stands in front of those behind it, and the pairs of joined lists
-- of operations are joined.
use Rattle.std.proofs.Common.{◌≡◌, ℕ, ◌+◌, ◌*◌, ◌<◌, ◌≤◌, refl, ap, sym, ◌∙◌, subst, arith, List, [], ◌∷◌, ◌++◌, length, drop, get_or, append_assoc, Option, Some, None}
use Rattle.std.specs.Prelude.{slice_get}
use Rattle.std.specs.List.{AllByRecursion}
use Rattle.std.proofs.lemmas.List.{get_or_default}
use Rattle.std.proofs.lemmas.Option.{slice_get-get_or}
use Rattle.dh_plan.specs.declared.operations.Operation.{Operation}
use Rattle.dh_plan.specs.declared.operations.Reach.{Reach}
use Rattle.dh_plan.specs.declared.operations.PlanBlock.{PlanBlock}
use Rattle.dh_plan.specs.SoundPlans.{use_in}
use Rattle.dh_bind.specs.Drafts.{all_operations, first_at, pair_with, pairs_of, use_pairs, all_pairs, cell_of, flattened, FitsPair, FitsPairs, AllUses, Draft, IsDraft, PortsFit, use_rows, draft_access_count, draft_width}
use Rattle.dh_bind.proofs.Cells.{rows_apart}
use Rattle.dh_bind.proofs.Flat.{rest_is, got, uses_in_block, rows_among}

pub pair_in_front : (first : Option ℕ) (b : ℕ × ℕ) (ps : List (ℕ × ℕ)) → pair_with first b ps ≡ pair_with first b [] ++ ps
pair_in_front None b ps = refl
pair_in_front (Some first) b ps = refl

-- one more listed bank
pub pairs_step : (wide : ℕ) (firsts : List (Option ℕ)) (access : ℕ) (bs : List (ℕ × ℕ)) (i : ℕ) (b : ℕ × ℕ) (so_far next all : List (ℕ × ℕ)) → i < length bs → b ≡ get_or bs i b
    → so_far ++ pairs_of wide firsts access (drop i bs) ≡ all → next ≡ so_far ++ pair_with (first_at wide firsts access b.0) b [] → next ++ pairs_of wide firsts access (drop (i + 1) bs) ≡ all
pairs_step wide firsts access bs i b so_far next all h e so f =
    ap (λ (x : List (ℕ × ℕ)). x ++ pairs_of wide firsts access (drop (i + 1) bs)) f
    ∙ (append_assoc so_far (pair_with (first_at wide firsts access b.0) b []) (pairs_of wide firsts access (drop (i + 1) bs))
    ∙ (ap (λ (x : List (ℕ × ℕ)). so_far ++ x) (sym (ap (λ (x : List (ℕ × ℕ)). pairs_of wide firsts access x) (rest_is bs i b h e) ∙ pair_in_front (first_at wide firsts access b.0) b (pairs_of wide firsts access (drop (i + 1) bs)))) ∙ so))

-- one more operation
pub all_step : (wide : ℕ) (firsts : List (Option ℕ)) (os : List Operation) (i : ℕ) (o : Operation) (so_far next all : List (List (ℕ × ℕ))) → i < length os → o ≡ get_or os i o
    → so_far ++ all_pairs wide firsts (drop i os) ≡ all → next ≡ so_far ++ use_pairs wide firsts (use_in o.form) ∷ [] → next ++ all_pairs wide firsts (drop (i + 1) os) ≡ all
all_step wide firsts os i o so_far next all h e so f =
    ap (λ (x : List (List (ℕ × ℕ))). x ++ all_pairs wide firsts (drop (i + 1) os)) f
    ∙ (append_assoc so_far (use_pairs wide firsts (use_in o.form) ∷ []) (all_pairs wide firsts (drop (i + 1) os))
    ∙ (ap (λ (x : List (List (ℕ × ℕ))). so_far ++ x) (sym (ap (λ (x : List Operation). all_pairs wide firsts x) (rest_is os i o h e))) ∙ so))

pub all_joined : (wide : ℕ) (firsts : List (Option ℕ)) (xs ys : List Operation) → all_pairs wide firsts (xs ++ ys) ≡ all_pairs wide firsts xs ++ all_pairs wide firsts ys
all_joined wide firsts [] ys = refl
all_joined wide firsts (o ∷ xs) ys = ap (λ (x : List (List (ℕ × ℕ))). use_pairs wide firsts (use_in o.form) ∷ x) (all_joined wide firsts xs ys)

-- one more block
pub blocks_step : (wide : ℕ) (firsts : List (Option ℕ)) (bs : List PlanBlock) (i : ℕ) (p : PlanBlock) (so_far next all : List (List (ℕ × ℕ))) → i < length bs → p ≡ get_or bs i p
    → so_far ++ all_pairs wide firsts (all_operations (drop i bs)) ≡ all → next ≡ so_far ++ all_pairs wide firsts p.operations → next ++ all_pairs wide firsts (all_operations (drop (i + 1) bs)) ≡ all
blocks_step wide firsts bs i p so_far next all h e so f =
    ap (λ (x : List (List (ℕ × ℕ))). x ++ all_pairs wide firsts (all_operations (drop (i + 1) bs))) f
    ∙ (append_assoc so_far (all_pairs wide firsts p.operations) (all_pairs wide firsts (all_operations (drop (i + 1) bs)))
    ∙ (ap (λ (x : List (List (ℕ × ℕ))). so_far ++ x) (sym (ap (λ (x : List PlanBlock). all_pairs wide firsts (all_operations x)) (rest_is bs i p h e) ∙ all_joined wide firsts p.operations (all_operations (drop (i + 1) bs)))) ∙ so))

-- of all of a list the next is one
pub at_rest : (P : ℕ × ℕ → Type 0) (bs : List (ℕ × ℕ)) (i : ℕ) (b : ℕ × ℕ) → i < length bs → b ≡ get_or bs i b → AllByRecursion P (drop i bs) → P b × AllByRecursion P (drop (i + 1) bs)
at_rest P bs i b h e all = subst (λ (x : List (ℕ × ℕ)). AllByRecursion P x) (rest_is bs i b h e) all

-- a first port that is read at its cell
pub read_first : (firsts : List (Option ℕ)) (k : ℕ) → k < length firsts → get_or firsts k None ≡ flattened (slice_get firsts k)
read_first firsts k h = sym (ap flattened (slice_get-get_or firsts k None h))

-- one turn over the banks that an operation lists
pub pairs_turn : (wide : ℕ) (firsts : List (Option ℕ)) (access row : ℕ) (bs ls : List (ℕ × ℕ)) (i : ℕ) (so_far next all : List (ℕ × ℕ)) → ls ≡ bs → i < length ls → row ≡ access * wide → cell_of wide access wide ≤ length firsts
    → AllByRecursion (FitsPair wide firsts access) (drop i bs) → so_far ++ pairs_of wide firsts access (drop i bs) ≡ all
    → next ≡ so_far ++ pair_with (get_or firsts (row + (get_or ls i (0, 0)).0) None) (get_or ls i (0, 0)) []
    → (next ++ pairs_of wide firsts access (drop (i + 1) bs) ≡ all) × AllByRecursion (FitsPair wide firsts access) (drop (i + 1) bs)
pairs_turn wide firsts access row bs ls i so_far next all same h row_is long fit so f =
    let below : i < length bs = subst (λ (x : List (ℕ × ℕ)). i < length x) same h in
    let here : get_or ls i (0, 0) ≡ get_or bs i (get_or ls i (0, 0)) = ap (λ (x : List (ℕ × ℕ)). get_or x i (0, 0)) same ∙ get_or_default bs i (0, 0) (get_or ls i (0, 0)) below in
    let rest = at_rest (FitsPair wide firsts access) bs i (get_or ls i (0, 0)) below here fit in
    let inside : access * wide + (get_or ls i (0, 0)).0 < length firsts = (let few = rest.0.bank in omega (arith, long, few)) in (
      pairs_step wide firsts access bs i (get_or ls i (0, 0)) so_far next all below here so
          (f ∙ ap (λ (x : Option ℕ). so_far ++ pair_with x (get_or ls i (0, 0)) [])
          (ap (λ (n : ℕ). get_or firsts (n + (get_or ls i (0, 0)).0) None) row_is ∙ read_first firsts (access * wide + (get_or ls i (0, 0)).0) inside)),
      rest.1,
    )

row_fits : (d : Draft) → IsDraft d → (n : ℕ) (o : Operation) (r : Reach) → slice_get (all_operations d.plan.blocks) n ≡ Some o → use_in o.form ≡ Some r → cell_of (draft_width d) r.access (draft_width d) ≤ length d.firsts
row_fits d is n o r e f =
    let k = rows_among (all_operations d.plan.blocks) n o e in
    let g : use_rows (use_in o.form) ≡ r.access + 1 = ap use_rows f in
    let apart = rows_apart r.access (draft_access_count d) (draft_width d) (omega (arith, k, g)) in
    let long = is.long in
    omega (arith, apart, long)

-- what a turn over the blocks of a draft needs
pub ports_need : (d fields : Draft) → fields ≡ d → IsDraft fields → PortsFit d → (bs : List PlanBlock) → bs ≡ fields.plan.blocks → (i : ℕ) (p : PlanBlock) → i < length bs → p ≡ get_or bs i p
    → (os : List Operation) → os ≡ p.operations → (wide : ℕ) → wide ≡ draft_width fields → (firsts : List (Option ℕ)) → firsts ≡ fields.firsts → AllUses (FitsPairs wide firsts) os
ports_need d fields same is fit bs e i p h f os g wide w firsts k =
    let there : PortsFit fields = subst (λ (x : Draft). PortsFit x) (sym same) fit in
    let whole : AllUses (FitsPairs (draft_width fields) fields.firsts) (all_operations fields.plan.blocks) = (λ n o r x y. record { row = row_fits fields is n o r x y; pairs = there n o r x y }) in
    let blocks : AllUses (FitsPairs (draft_width fields) fields.firsts) (all_operations bs) = subst (λ (x : List PlanBlock). AllUses (FitsPairs (draft_width fields) fields.firsts) (all_operations x)) (sym e) whole in
    let own : AllUses (FitsPairs (draft_width fields) fields.firsts) p.operations = uses_in_block (FitsPairs (draft_width fields) fields.firsts) bs i p (got bs i p h f) blocks in
    subst (λ (n : ℕ). AllUses (FitsPairs n firsts) os) (sym w) (subst (λ (x : List (Option ℕ)). AllUses (FitsPairs (draft_width fields) x) os) (sym k) (subst (λ (x : List Operation). AllUses (FitsPairs (draft_width fields) fields.firsts) x) (sym g) own))

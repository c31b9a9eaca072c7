-- The sizes of a net by a legal schedule: each length is at most the greatest, and each clock lies in its block.
use Rattle.std.proofs.Common.{◌≡◌, ℕ, suc, ◌+◌, ◌-◌, ◌^◌, ◌<◌, ◌≤◌, inl, inr, List, [], ◌∷◌, length, map, drop, get_or, sym, ap, subst, ◌∙◌, arith}
use Rattle.std.specs.Prelude.{slice_get, slice_index}
use Rattle.std.specs.List.{AllByRecursion}
use Rattle.std.proofs.lemmas.List.{get_or-take, get_or-drop}
use Rattle.std.proofs.lemmas.Bool.{cases_lt}
use Rattle.std.proofs.lemmas.Option.{slice_get_cases}
use Rattle.dh_value.specs.Words.{width_of}
use Rattle.dh_net.specs.RowWidths.{IsRowWidth}
use Rattle.dh_plan.specs.declared.operations.PlanBlock.{PlanBlock}
use Rattle.dh_plan.specs.declared.schedules.Limits.{Limits}
use Rattle.dh_plan.specs.LegalSchedules.{Timing, IsLegal, clocks_in}
use Rattle.dh_plan.specs.PlainPlans.{PlainPlan, first_in, operations_before, operations_in, block_operations}
use Rattle.dh_lower.proofs.StepsDoBlocks.{all_clocks_long, clock_at_most}
use Rattle.dh_datapath.proofs.PartsByBlock.{no_operations}
use Rattle.dh_control.proofs.ListFacts.{at_index}
use Rattle.dh_build.specs.declared.building.Sizes.{Sizes}
use Rattle.dh_build.specs.BuiltPlans.{AreSizesOf, IsScheduled, timing_of}

-- an operation's number is that of a block and a place in it
record IsPlaced (bs : List PlanBlock) (n : ℕ) : Type 0 where
  pub block : ℕ
  pub place : ℕ
  pub is : n ≡ operations_before bs block + place
  pub inside : place < length (block_operations (slice_get bs block))

placed : (bs : List PlanBlock) (n : ℕ) → n < operations_before bs (length bs) → IsPlaced bs n
placed [] n less = absurd (omega (arith, less))
placed (b ∷ bs) n less =
    elim (cases_lt n (length b.operations)) [
      | inl here ↦ record { block = 0; place = n; is = omega arith; inside = here }
      | inr past ↦
          let rest = placed bs (n - length b.operations) (omega (arith, less, past)) in
          let rest_is = rest.is in
          record { block = suc rest.block; place = rest.place; is = omega (arith, past, rest_is); inside = rest.inside }
    ]

by_places : (P : ℕ → Type 0) (xs : List ℕ) → ((i : ℕ) → i < length xs → P (slice_index xs i)) → AllByRecursion P xs
by_places P [] h = tt
by_places P (x ∷ xs) h = (h 0 (omega arith), by_places P xs (λ i less. h (suc i) (omega (arith, less))))

module _ (plan : PlainPlan) (limits : Limits) (t : Timing) (legal : IsLegal plan limits t) (longest : ℕ) (all : AllByRecursion (λ n. n ≤ longest) t.lengths) where
  length_small : (block : ℕ) → block < length plan.blocks → slice_index t.lengths block ≤ longest
  length_small block there = at_index (λ (n : ℕ). n ≤ longest) t.lengths block 0 all (let every = legal.all_lengths in omega (arith, there, every))

  block_there : (block place : ℕ) → place < length (operations_in plan block) → block < length plan.blocks
  block_there block place inside =
      elim (slice_get_cases plan.blocks block).1 [
        | inl found ↦ found.1
        | inr past ↦
            let none = ap (λ (l : List _). length l) (no_operations plan block past.0) in
            absurd (omega (arith, none, inside))
      ]

  clock_small : (n : ℕ) → n < length t.clocks → slice_index t.clocks n < longest
  clock_small n less =
      let every = legal.all_clocks in
      let k = placed plan.blocks n (omega (arith, less, every)) in
      let there = block_there k.block k.place k.inside in
      let own : get_or (clocks_in plan t k.block) k.place 0 ≡ get_or t.clocks (first_in plan k.block + k.place) 0 =
      get_or-take (length (operations_in plan k.block)) (drop (first_in plan k.block) t.clocks) k.place 0 k.inside ∙ get_or-drop (first_in plan k.block) t.clocks k.place 0 in
      let here : slice_index t.clocks n ≡ slice_index (clocks_in plan t k.block) k.place = ap (λ (m : ℕ). slice_index t.clocks m) k.is ∙ sym own in
      let most = clock_at_most (operations_in plan k.block) (clocks_in plan t k.block) k.place (all_clocks_long plan limits t legal k.block) in
      let ends = (legal.blocks k.block there).ends in
      let small = length_small k.block there in
      omega (arith, here, most, ends, small)

  length_some : (block : ℕ) → block < length t.lengths → 1 ≤ slice_index t.lengths block
  length_some block less = let every = legal.all_lengths in let ends = (legal.blocks block (omega (arith, less, every))).ends in omega (arith, ends)

  pub clocks_early : AllByRecursion (λ n. n < longest) t.clocks
  clocks_early = by_places (λ n. n < longest) t.clocks clock_small

  pub lengths_within : (width : ℕ) → longest ≤ 2 ^ width → AllByRecursion (λ n. (1 ≤ n) × (n ≤ 2 ^ width)) t.lengths
  lengths_within width most =
      by_places (λ n. (1 ≤ n) × (n ≤ 2 ^ width)) t.lengths
      (λ block less.
      let some = length_some block less in
      let small = at_index (λ (n : ℕ). n ≤ longest) t.lengths block 0 all less in
      (some, omega (arith, small, most)))

abbrev pub sizes_with : (clocks lengths : List ℕ) → (longest clock_width state_width : ℕ) → (widths : List ℕ) → Sizes
sizes_with clocks lengths longest clock_width state_width widths =
    record { clocks = clocks; lengths = lengths; longest = longest; clock_width = clock_width; state_width = state_width; widths = widths }

pub sizes_made : (plan : PlainPlan) (states : ℕ) (clocks lengths : List ℕ) → IsScheduled plan (timing_of clocks lengths) → (longest clock_width state_width : ℕ) (clocks_now lengths_now widths : List ℕ)
    → AllByRecursion (λ n. n ≤ longest) lengths → longest < 2 ^ 64 → states < 2 ^ 63 → IsRowWidth longest clock_width → IsRowWidth (states + 1) state_width → clocks_now ≡ clocks → lengths_now ≡ lengths
    → widths ≡ map width_of plan.registers → AreSizesOf plan states (timing_of clocks lengths) (sizes_with clocks_now lengths_now longest clock_width state_width widths)
sizes_made plan states clocks lengths times longest clock_width state_width clocks_now lengths_now widths all small few clock_is state_is clocks_are lengths_are widths_are = record {
  are = record {
    widths_are = widths_are;
    all_clocks = ap (λ (l : List ℕ). length l) clocks_are ∙ times.legal.all_clocks;
    all_lengths = ap (λ (l : List ℕ). length l) lengths_are ∙ times.legal.all_lengths;
    lengths_fit =
        subst (λ (l : List ℕ). AllByRecursion (λ n. (1 ≤ n) × (n ≤ 2 ^ clock_width)) l) (sym lengths_are) (lengths_within plan times.limits (timing_of clocks lengths) times.legal longest all clock_width clock_is.all);
    early = subst (λ (l : List ℕ). AllByRecursion (λ n. n < longest) l) (sym clocks_are) (clocks_early plan times.limits (timing_of clocks lengths) times.legal longest all);
    clock_wide = (clock_is.least, clock_is.none_less 64 (omega arith) (omega (arith, small)));
    longest_fits = clock_is.all;
    states_fit = ((state_is.least, state_is.none_less 64 (omega arith) (omega (arith, few))), (let all = state_is.all in omega (arith, all)));
  };
  clocks_are = clocks_are;
  lengths_are = lengths_are;
}

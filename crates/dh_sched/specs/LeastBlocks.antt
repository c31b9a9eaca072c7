-- What is known of a block whose first operations stand at least clocks, and of a block that is done.
use Rattle.std.specs.Prelude.{◌≡◌, ◌⊎◌, ℕ, ◌+◌, ◌*◌, ◌<◌, ◌≤◌, List, [], ◌∷◌, ◌++◌, length, take, drop, slice_get, slice_index}
use Rattle.dh_plan.specs.declared.operations.Operation.{Operation}
use Rattle.dh_plan.specs.declared.operations.PlanBlock.{PlanBlock}
use Rattle.dh_plan.specs.declared.schedules.Limits.{Limits}
use Rattle.dh_plan.specs.LegalSchedules.{IsWithin, MayStandAt, AreLeast, products_at, depth_at, depths_in, IsLegalBlock, NeedsAreMet}
use Rattle.dh_plan.specs.PlainPlans.{operations_before, block_operations}
use Rattle.dh_sched.specs.Sorts.{KeepsProducts, KeepsChains, AreShallow}
use Rattle.dh_sched.specs.FullClocks.{WaysSkipFullClocks}

-- a clock that leaves the one from which on all is there, if the chain that ends there exceeds the limit
abbrev pub Unchains : (limit depth needed start : ℕ) → Type 0
Unchains limit depth needed start = ((start ≡ needed) × IsWithin limit depth) ⊎ ((start ≡ needed + 1) × (IsWithin limit depth → ⊥))

-- a clock is the least at which an operation may stand
abbrev pub IsLeastClock : Limits → (first : ℕ) → (before : List Operation) → (clocks : List ℕ) → Operation → (clock : ℕ) → Type 0
IsLeastClock limits first before clocks o clock =
    MayStandAt limits first before clocks o clock × ((earlier : ℕ) → MayStandAt limits first before clocks o earlier → clock ≤ earlier)

-- the first operations of a block stand at these clocks
pub record AreScheduled (limits : Limits) (first : ℕ) (os : List Operation) (clocks : List ℕ) : Type 0 where
  pub long : length clocks ≡ length os
  pub least : AreLeast limits first [] [] os clocks
  pub needs : NeedsAreMet first os clocks
  pub products : KeepsProducts limits.multipliers os clocks
  pub chains : KeepsChains limits.chain first os clocks
  pub low : (k : ℕ) → slice_index clocks k ≤ 2 * length os

-- the depths are told, where there is a limit
pub record AreDepths (limit first : ℕ) (os : List Operation) (clocks depths : List ℕ) : Type 0 where
  pub told : 1 ≤ limit → depths ≡ depths_in first os clocks
  pub shallow : AreShallow depths

-- the depth of an operation at its clock is told behind those before it, where there is a limit
abbrev pub NotesDepth : (limit first clock : ℕ) → (clocks : List ℕ) → Operation → (old new : List ℕ) → Type 0
NotesDepth limit first clock clocks o old new = 1 ≤ limit → new ≡ old ++ depth_at first clock clocks old o ∷ []

-- the counts of multiplications are told, where there is a limit, and ways lead over full clocks
pub record AreCounts (limit : ℕ) (os : List Operation) (clocks counts ways : List ℕ) : Type 0 where
  pub told : 1 ≤ limit → (clock : ℕ) → slice_index counts clock ≡ products_at clock os clocks
  pub ways_kept : 1 ≤ limit → WaysSkipFullClocks limit counts ways
  pub both : length ways ≡ length counts
  pub short : length counts ≤ 2 * length os + 1

-- the clocks of a block among those of all
abbrev pub own_clocks : List PlanBlock → (clocks : List ℕ) → (block : ℕ) → List ℕ
own_clocks bs clocks block = take (length (block_operations (slice_get bs block))) (drop (operations_before bs block) clocks)

-- a block of these is legal, and its operations stand at least clocks
pub record IsDone (limits : Limits) (bs : List PlanBlock) (clocks lengths : List ℕ) (block : ℕ) : Type 0 where
  pub legal : IsLegalBlock limits (operations_before bs block) (block_operations (slice_get bs block)) (own_clocks bs clocks block) (slice_index lengths block)
  pub least : AreLeast limits (operations_before bs block) [] [] (block_operations (slice_get bs block)) (own_clocks bs clocks block)

-- the first blocks are done
pub record AreDone (limits : Limits) (bs : List PlanBlock) (clocks lengths : List ℕ) (count : ℕ) : Type 0 where
  pub all_clocks : length clocks ≡ operations_before bs count
  pub all_lengths : length lengths ≡ count
  pub each : (block : ℕ) → block < count → IsDone limits bs clocks lengths block

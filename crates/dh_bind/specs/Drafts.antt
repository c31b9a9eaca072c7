-- A binding under construction: of each access the first port that it was granted on each bank. An operation's ports
-- are its places counted from there.
use Rattle.std.specs.Prelude.{◌≡◌, ℕ, ◌+◌, ◌*◌, ◌<◌, ◌≤◌, ◌^◌, max, List, [], ◌∷◌, ◌++◌, length, slice_get, slice_set, nat_lt, if◌then◌else◌, Option, Some, None}
use Rattle.std.specs.List.{AllByRecursion}
use Rattle.dh_plan.specs.declared.operations.Operation.{Operation}
use Rattle.dh_plan.specs.declared.operations.PlanBlock.{PlanBlock}
use Rattle.dh_plan.specs.declared.operations.Reach.{Reach}
use Rattle.dh_plan.specs.declared.plans.Plan.{Plan}
use Rattle.dh_plan.specs.BoundPorts.{Uses}
use Rattle.dh_plan.specs.SeenPlans.{plan_seen}
use Rattle.dh_plan.specs.SoundPlans.{use_in, IsFormed}

-- the operations of blocks, in order
abbrev pub all_operations : List PlanBlock → List Operation
all_operations [] = []
all_operations (b ∷ bs) = b.operations ++ all_operations bs

-- one more than the greatest access of operations, 0 where they use none
abbrev pub use_rows : Option Reach → ℕ
use_rows None = 0
use_rows (Some r) = r.access + 1

abbrev pub operations_rows : List Operation → ℕ
operations_rows [] = 0
operations_rows (o ∷ os) = max (use_rows (use_in o.form)) (operations_rows os)

-- one more than the greatest bank that is listed, 0 where none is
abbrev pub banks_width : List (ℕ × ℕ) → ℕ
banks_width [] = 0
banks_width (b ∷ bs) = max (b.0 + 1) (banks_width bs)

-- so of all that operations list
abbrev pub use_width : Option Reach → ℕ
use_width None = 0
use_width (Some r) = banks_width r.banks

abbrev pub operations_width : List Operation → ℕ
operations_width [] = 0
operations_width (o ∷ os) = max (use_width (use_in o.form)) (operations_width os)

-- the number of an access and a bank, where rows are so wide
abbrev pub cell_of : (wide access bank : ℕ) → ℕ
cell_of wide access bank = access * wide + bank

abbrev pub flattened : Option (Option ℕ) → Option ℕ
flattened None = None
flattened (Some first) = first

-- the first port of an access on a bank, where it was granted one
abbrev pub first_at : (wide : ℕ) → List (Option ℕ) → (access bank : ℕ) → Option ℕ
first_at wide firsts access bank = flattened (slice_get firsts (cell_of wide access bank))

-- it was granted one there; a bank behind the row has no place
abbrev pub put_first : (wide : ℕ) → List (Option ℕ) → (access bank first : ℕ) → List (Option ℕ)
put_first wide firsts access bank first = if nat_lt bank wide then slice_set firsts (cell_of wide access bank) (Some first) else firsts

abbrev pub pair_with : Option ℕ → (listed : ℕ × ℕ) → List (ℕ × ℕ) → List (ℕ × ℕ)
pair_with None b pairs = pairs
pair_with (Some first) b pairs = (b.0, first + b.1) ∷ pairs

-- the ports of an operation of an access on the banks that it lists, each with its place there
abbrev pub pairs_of : (wide : ℕ) → List (Option ℕ) → (access : ℕ) → List (ℕ × ℕ) → List (ℕ × ℕ)
pairs_of wide firsts access [] = []
pairs_of wide firsts access (b ∷ bs) = pair_with (first_at wide firsts access b.0) b (pairs_of wide firsts access bs)

abbrev pub use_pairs : (wide : ℕ) → List (Option ℕ) → Option Reach → List (ℕ × ℕ)
use_pairs wide firsts None = []
use_pairs wide firsts (Some r) = pairs_of wide firsts r.access r.banks

abbrev pub all_pairs : (wide : ℕ) → List (Option ℕ) → List Operation → List (List (ℕ × ℕ))
all_pairs wide firsts [] = []
all_pairs wide firsts (o ∷ os) = use_pairs wide firsts (use_in o.form) ∷ all_pairs wide firsts os

-- so of what each operation uses
abbrev pub AllUses : (Reach → Type 0) → List Operation → Type 0
AllUses P os = (k : ℕ) (o : Operation) (r : Reach) → slice_get os k ≡ Some o → use_in o.form ≡ Some r → P r

-- so of what one operation uses
abbrev pub UsedBy : (Reach → Type 0) → Option Reach → Type 0
UsedBy P None = Unit {0}
UsedBy P (Some r) = P r

pub record Draft : Type 0 where
  pub plan : Plan
  pub firsts : List (Option ℕ)

-- how wide a row of it is
abbrev pub draft_width : Draft → ℕ
draft_width d = operations_width (all_operations d.plan.blocks)

-- the ports of operations as far as they are granted
abbrev pub draft_uses : Draft → Uses
draft_uses d = record { ports = all_pairs (draft_width d) d.firsts (all_operations d.plan.blocks); units = [] }

-- how many accesses have a place in it
abbrev pub draft_access_count : Draft → ℕ
draft_access_count d = operations_rows (all_operations d.plan.blocks)

-- what holds of a draft: its plan is formed, and it has a place for each access and each bank below its width
pub record IsDraft (d : Draft) : Type 0 where
  pub formed : IsFormed (plan_seen d.plan)
  pub long : length d.firsts ≡ draft_access_count d * draft_width d

-- so it is kept, with the width of its rows
pub record IsKept (rows_wide : ℕ) (d : Draft) : Type 0 where
  pub draft : IsDraft d
  pub wide : rows_wide ≡ draft_width d

-- the draft in which an access was granted ports of a bank from this one on
abbrev pub granted_at : Draft → (access bank first : ℕ) → Draft
granted_at d access bank first = record { plan = d.plan; firsts = put_first (draft_width d) d.firsts access bank first }

-- a bank has a place in a row, and a place counted from the first port there is a number of a port
pub record FitsPair (wide : ℕ) (firsts : List (Option ℕ)) (access : ℕ) (b : ℕ × ℕ) : Type 0 where
  pub bank : b.0 < wide
  pub port : (first : ℕ) → first_at wide firsts access b.0 ≡ Some first → first + b.1 < 2 ^ 32

-- so of all that an operation lists
pub record FitsPairs (wide : ℕ) (firsts : List (Option ℕ)) (r : Reach) : Type 0 where
  pub row : cell_of wide r.access wide ≤ length firsts
  pub pairs : AllByRecursion (FitsPair wide firsts r.access) r.banks

abbrev pub PortsFit : Draft → Type 0
PortsFit d = AllUses (λ r. AllByRecursion (FitsPair (draft_width d) d.firsts r.access) r.banks) (all_operations d.plan.blocks)

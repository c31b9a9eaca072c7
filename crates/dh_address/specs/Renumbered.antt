-- The numbers of values in the new plan, by those in the old one: of a block whose first operation had this number,
-- and whose operations so far have these new numbers.
use Rattle.std.specs.Prelude.{ℕ, ◌-◌, List, ◌++◌, map, slice_index, Option, Some, None}
use Rattle.dh_plan.specs.declared.operations.Reach.{Reach}
use Rattle.dh_plan.specs.Ordered.{offsets_taken}
use Rattle.dh_address.specs.declared.renumbering.Renumbering.{Renumbering}

abbrev pub renumbered : (first : ℕ) → (numbers : List ℕ) → (old : ℕ) → ℕ
renumbered first numbers old = slice_index numbers (old - first)

abbrev pub maybe_renumbered : (first : ℕ) → (numbers : List ℕ) → Option ℕ → Option ℕ
maybe_renumbered first numbers None = None
maybe_renumbered first numbers (Some old) = Some (renumbered first numbers old)

-- those of values in order
abbrev pub all_renumbered : Renumbering → (values : List ℕ) → List ℕ
all_renumbered known values = map (λ v. renumbered known.first known.numbers v) values

-- those of the indices of an access and of the offsets of its views
abbrev pub taken_renumbered : Renumbering → Reach → List ℕ
taken_renumbered known r = all_renumbered known r.indices ++ all_renumbered known (offsets_taken r.steps)

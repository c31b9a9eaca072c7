-- The path of a number, among all paths inside loops in ascending order. (The numbers are this project's.)
use Rattle.std.specs.Prelude.{ℕ, ◌+◌, ◌-◌, ◌*◌, ◌/◌, ◌%◌, ◌^◌, ◌==◌, ◌||◌, min, nat_le, Bool, true, false, if◌then◌else◌, List, [], ◌∷◌, ◌++◌, map, slice_get, slice_index_or, Option, Some, None}
use Rattle.dh_meaning.specs.Paths.{Path}
use Rattle.dh_expressions.specs.declared.paths.Level.{Level}

-- the copy of a loop at the path of a number
abbrev pub copy_number : Level → (number : ℕ) → ℕ
copy_number l number = if (l.stride == 0) || (l.factor == 0) then 0 else (number / l.stride) % l.factor

abbrev pub path_at : List Level → (number : ℕ) → Path
path_at levels number = map (λ l. copy_number l number) levels

-- how many paths stand before that of a number, of those that differ in the loops up to one
abbrev pub rank_to : Option Level → (number : ℕ) → ℕ
rank_to None number = number
rank_to (Some l) number = if l.stride == 0 then 0 else number / l.stride

-- the rank of the first copies of a path, so many, among those as long
abbrev pub rank_number : List Level → (depth number : ℕ) → ℕ
rank_number levels depth number = if depth == 0 then 0 else rank_to (slice_get levels (depth - 1)) number

abbrev pub copy_to : Option Level → (number : ℕ) → ℕ
copy_to None number = 0
copy_to (Some l) number = copy_number l number

-- the copy of the loop that is the last of so many
abbrev pub last_number : List Level → (depth number : ℕ) → ℕ
last_number levels depth number = if depth == 0 then 0 else copy_to (slice_get levels (depth - 1)) number

-- whether a loop counts, by a list of flags
abbrev pub is_counted_level : List Bool → (level : ℕ) → Bool
is_counted_level counts level = slice_index_or counts level false

-- what the copy of a loop adds to the number of a path, where that loop counts
abbrev pub part_number : Level → (counts : Bool) → (number : ℕ) → ℕ
part_number l true number = copy_number l number * l.stride
part_number l false number = 0

-- the sum over loops, of which the first has this level
abbrev pub parts_from : List Level → (counts : ℕ → Bool) → (level number : ℕ) → ℕ
parts_from [] counts level number = 0
parts_from (l ∷ ls) counts level number = part_number l (counts level) number + parts_from ls counts (level + 1) number

-- the first path that has the copies of a path in the loops that count; never a later one than the path itself
abbrev pub leader_number : List Level → (counts : ℕ → Bool) → (number : ℕ) → ℕ
leader_number levels counts number = min (parts_from levels counts 0 number) number

-- a loop with further copies inside it
abbrev pub spread_level : (factor : ℕ) → Level → Level
spread_level factor l = record { entity = l.entity; factor = l.factor; stride = min (l.stride * factor) (2 ^ 64 - 1) }

-- the loops with one more inside them; one of a single copy adds nothing
abbrev pub levels_inside : List Level → (entity : Option ℕ) → (factor : ℕ) → List Level
levels_inside levels entity factor =
    if nat_le factor 1 then levels else map (spread_level factor) levels ++ record { entity = entity; factor = factor; stride = 1 } ∷ []

-- how many paths there are inside a loop of so many copies, of so many outside it
abbrev pub count_inside : (count factor : ℕ) → ℕ
count_inside count factor = if nat_le factor 1 then count else min (count * factor) (2 ^ 64 - 1)

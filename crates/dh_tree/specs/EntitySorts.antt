-- How many entities of a program are of the sorts that passes look for.
use Rattle.std.specs.Prelude.{ℕ, ◌+◌, List, [], ◌∷◌}
use Rattle.dh_tree.specs.declared.trees.programs.Entity.{Entity}
use Rattle.dh_tree.specs.declared.trees.programs.Sort.{Sort}
use Rattle.dh_tree.specs.declared.trees.programs.Sort.TheVariants as sort

-- one for an iterator
abbrev pub one_loop : Sort → ℕ
one_loop sort.Variable = 0
one_loop sort.Iterator = 1
one_loop sort.Memory = 0
one_loop sort.View = 0
one_loop sort.Function = 0

-- one for a memory
abbrev pub one_memory : Sort → ℕ
one_memory sort.Variable = 0
one_memory sort.Iterator = 0
one_memory sort.Memory = 1
one_memory sort.View = 0
one_memory sort.Function = 0

-- one for a view
abbrev pub one_view : Sort → ℕ
one_view sort.Variable = 0
one_view sort.Iterator = 0
one_view sort.Memory = 0
one_view sort.View = 1
one_view sort.Function = 0

-- what entities count together, each by its sort
abbrev pub counted_by : (Sort → ℕ) → List Entity → ℕ
counted_by count [] = 0
counted_by count (e ∷ es) = count e.sort + counted_by count es

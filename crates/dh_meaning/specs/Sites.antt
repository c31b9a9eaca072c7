-- What stands round a command: the arms of `if`s and the unrolled loops, from the outside.
use Rattle.std.specs.Prelude.{ℕ, nat_lt, Bool, if◌then◌else◌, List, [], ◌∷◌, ◌++◌}
use Rattle.dh_tree.specs.declared.trees.counters.Counter.{Counter}
use Rattle.dh_tree.specs.declared.trees.expressions.Ref.{Ref}
use Rattle.dh_tree.specs.PlainTrees.{Placed, Unrolled}

-- an arm of an `if`, by the number of its command
pub record Arm : Type 0 where
  pub command : ℕ
  pub first : Bool

pub record Around : Type 0 where
  pub arms : List Arm
  pub loops : List Counter

abbrev pub nothing_around : Around
nothing_around = record { arms = []; loops = [] }

abbrev pub in_arm : Around → (command : ℕ) → (first : Bool) → Around
in_arm r id first = record { arms = r.arms ++ record { command = id; first = first } ∷ []; loops = r.loops }

-- inside a loop; one of a single copy adds nothing
abbrev pub in_loop : Around → Counter → Around
in_loop r c = if nat_lt 1 c.factor then record { arms = r.arms; loops = r.loops ++ c ∷ [] } else r

-- a loop, by what is written of it
abbrev pub loop_of : (iterator : Ref) → (low high : Placed) → Unrolled → Counter
loop_of iterator low high factor = record { entity = iterator.entity; low = low.value; high = high.value; factor = factor.value }

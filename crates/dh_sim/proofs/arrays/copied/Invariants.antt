use Rattle.std.proofs.Common.{◌≡◌, map, take}
use Rattle.dh_sim.proofs.arrays.copied.Given as goal

abbrev pub invariant-loop-list : goal.invariant-loop-list
invariant-loop-list l = map (λ b. b.items) l.copies.items ≡ take l.list-index (map (λ b. b.items) l.lists)

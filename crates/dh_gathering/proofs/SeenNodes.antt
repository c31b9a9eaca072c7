-- What is seen of a node of a plan, form by form, where its parts stand in the code's lists.
use Rattle.std.proofs.Common.{◌≡◌, ℕ, refl, ap, ◌∙◌}
use Rattle.std.specs.Prelude.{Vec}
use Rattle.std.specs.Global.{Global}
use Rattle.dh_plan.specs.declared.plans.Node.{Node}
use Rattle.dh_plan.specs.declared.plans.Node.TheVariants.{Step, Turns, Loop, Choice}
use Rattle.dh_plan.specs.declared.plans.Node.TheBlock as block
use Rattle.dh_plan.specs.PlainPlans.{block_node, turns_node, loop_node, choice_node, node_then}
use Rattle.dh_plan.specs.SeenPlans.{node_seen, row_seen, nodes_seen}
use mathlib.Core.Former.{Count}

row_is : (n : Count) (k : block.Row_of-Node n) → row_seen k ≡ nodes_seen (block.items-the_row-Node n k)
unfolding node_seen
row_is _ block.end_of-Node = refl
row_is _ (block.more_of-Node {n = n} node rest) = ap (λ s. node_then (node_seen node) s) (row_is n rest)

vec_is : (v : Vec Node Global) → row_seen (block.hidden-the_row-Node-0 v) ≡ nodes_seen v.items
vec_is v = row_is _ (block.hidden-the_row-Node-0 v) ∙ ap nodes_seen (block.items_hidden-the_row-Node-0 v)

pub step_is : (number : ℕ) → node_seen (Step number) ≡ block_node number
unfolding node_seen
step_is number = refl

pub turns_is : (counter count : ℕ) (body : Vec Node Global) → node_seen (Turns counter count body) ≡ turns_node counter count (nodes_seen body.items)
unfolding node_seen
turns_is counter count body = ap (λ s. turns_node counter count s) (vec_is body)

pub loop_is : (test flag : ℕ) (body : Vec Node Global) → node_seen (Loop test flag body) ≡ loop_node test flag (nodes_seen body.items)
unfolding node_seen
loop_is test flag body = ap (λ s. loop_node test flag s) (vec_is body)

pub choice_is : (test flag : ℕ) (chosen other : Vec Node Global) → node_seen (Choice test flag chosen other) ≡ choice_node test flag (nodes_seen chosen.items) (nodes_seen other.items)
unfolding node_seen
choice_is test flag chosen other =
    ap (λ s. choice_node test flag s (row_seen (block.hidden-the_row-Node-0 other))) (vec_is chosen) ∙ ap (λ s. choice_node test flag (nodes_seen chosen.items) s) (vec_is other)

pub ruleset nodes_are = (step_is, turns_is, loop_is, choice_is)

-- Which plain plan a plan of the code stands for.
use Rattle.std.specs.Prelude.{List, [], ◌∷◌}
use Rattle.dh_tree.specs.Meets as meets
use Rattle.dh_plan.specs.PlainPlans as plain
use Rattle.dh_plan.specs.PlainPlans.{PlainPlan}
use Rattle.dh_plan.specs.declared.plans.Node.{Node}
use Rattle.dh_plan.specs.declared.plans.Node.TheVariants.{Step, Turns', Loop', Choice', Threads'}
use Rattle.dh_plan.specs.declared.plans.Node.TheBlock.{Row_of-Node, end_of-Node, more_of-Node, Row_of-Node-Threads-0-1, end_of-Node-Threads-0-1, more_of-Node-Threads-0-1}
use Rattle.dh_plan.specs.declared.plans.Meets.{Meets}
use Rattle.dh_plan.specs.declared.plans.Meets.TheVariants.{Access, All', One'}
use Rattle.dh_plan.specs.declared.plans.Meets.TheBlock.{Row_of-Meets, end_of-Meets, more_of-Meets}
use Rattle.dh_plan.specs.declared.plans.Plan.{Plan}

unfoldable mutual
  pub meets_seen : Meets → meets.Meets
  meets_seen (Access access) = meets.access access
  meets_seen (All' shape parts) = all_row_seen parts
  meets_seen (One' shape parts) = one_seen parts

  pub all_row_seen : {m : _} → Row_of-Meets m → meets.Meets
  all_row_seen end_of-Meets = meets.nothing
  all_row_seen (more_of-Meets p rest) = meets.all (meets_seen p) (all_row_seen rest)

  pub one_seen : {m : _} → Row_of-Meets m → meets.Meets
  one_seen end_of-Meets = meets.nothing
  one_seen (more_of-Meets p rest) = meets.one (meets_seen p) (one_seen rest)

-- parts of which any two may meet, and parts of which no two ever meet, in order
abbrev pub alls : List Meets → meets.Meets
alls [] = meets.nothing
alls (t ∷ ts) = meets.all (meets_seen t) (alls ts)

abbrev pub ones : List Meets → meets.Meets
ones [] = meets.nothing
ones (t ∷ ts) = meets.one (meets_seen t) (ones ts)

unfoldable mutual
  pub node_seen : Node → plain.Node
  node_seen (Step block) = plain.block_node block
  node_seen (Turns' counter count shape body) = plain.turns_node counter count (row_seen body)
  node_seen (Loop' test flag shape body) = plain.loop_node test flag (row_seen body)
  node_seen (Choice' test flag shape chosen shape' other) = plain.choice_node test flag (row_seen chosen) (row_seen other)
  node_seen (Threads' shape lists) = plain.threads_node (lists_seen lists)

  pub row_seen : {m : _} → Row_of-Node m → plain.Nodes
  row_seen end_of-Node = plain.no_nodes
  row_seen (more_of-Node n rest) = plain.node_then (node_seen n) (row_seen rest)

  pub lists_seen : {m : _} → Row_of-Node-Threads-0-1 m → plain.NodeLists
  lists_seen end_of-Node-Threads-0-1 = plain.no_lists
  lists_seen (more_of-Node-Threads-0-1 shape row rest) = plain.list_then (row_seen row) (lists_seen rest)

-- phases in order
abbrev pub nodes_seen : List Node → plain.Nodes
nodes_seen [] = plain.no_nodes
nodes_seen (n ∷ ns) = plain.node_then (node_seen n) (nodes_seen ns)

-- what clauses see of a plan
abbrev pub plan_seen : Plan → PlainPlan
plan_seen p =
    record { table = p.table; views = p.views; registers = p.registers; blocks = p.blocks; body = nodes_seen p.body.items; meets = meets_seen p.meets; faults = p.faults }

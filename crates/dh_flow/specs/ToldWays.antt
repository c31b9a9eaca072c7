-- Ways as the code writes them: a fork names its groups, and does not show how they begin.
use Rattle.std.specs.Prelude.{ℕ, zero, suc, ◌+◌, ◌-◌, ◌^◌, min, List, [], ◌∷◌, map, Option, option_map}
use Rattle.dh_plan.specs.declared.graphs.Decision.{Decision}
use Rattle.dh_plan.specs.declared.graphs.Decision.TheVariants.{Go, Test', Count', Fork, Rest}
use Rattle.dh_plan.specs.declared.graphs.Group.{Group}
use Rattle.dh_plan.specs.declared.graphs.State as code
use Rattle.dh_plan.specs.SeenGraphs.{way_count}
use Rattle.dh_ways.specs.HiddenVariables.{numbers_from}
use Rattle.dh_plan.specs.Ways.{GraphWay, to_state, by_flag, by_count, to_fork, to_end}
use Rattle.dh_flow.specs.declared.measuring.Entry.{Entry}
use Rattle.dh_flow.specs.declared.measuring.Entry.TheVariants.{Nothing, State, Threads}
use Rattle.dh_flow.specs.PlainFlows.{PlacedState, Forked}

pub data ToldWay : Type 0 where
  told_go : (state : ℕ) → ToldWay
  told_test : (flag : ℕ) → (yes no : ToldWay) → ToldWay
  told_count : (counter last : ℕ) → (again past : ToldWay) → ToldWay
  told_fork : (groups : List ℕ) → ToldWay
  told_rest : ToldWay

-- what is told of a decision of the code
unfoldable pub decision_told : Decision → ToldWay
decision_told (Go state) = told_go state
decision_told (Test' flag at a at' b) = told_test flag (decision_told a) (decision_told b)
decision_told (Count' counter last at a at' b) = told_count counter last (decision_told a) (decision_told b)
decision_told (Fork groups) = told_fork groups.items
decision_told Rest = told_rest

-- what is told of a way: the groups of a fork stand side by side
abbrev pub graph_way_told : GraphWay → ToldWay
graph_way_told (to_state state) = told_go state
graph_way_told (by_flag flag w v) = told_test flag (graph_way_told w) (graph_way_told v)
graph_way_told (by_count counter last w v) = told_count counter last (graph_way_told w) (graph_way_told v)
graph_way_told (to_fork fork ws) = told_fork (numbers_from fork (way_count ws))
graph_way_told to_end = told_rest

-- of decisions that are made of others
abbrev pub tested_told : (flag : ℕ) → (chosen other : Decision) → ToldWay
tested_told flag chosen other = told_test flag (decision_told chosen) (decision_told other)

abbrev pub counted_told : (counter last : ℕ) → (again past : Decision) → ToldWay
counted_told counter last again past = told_count counter last (decision_told again) (decision_told past)

-- so many numbers of the code, cut at its greatest
abbrev pub cut_numbers : (first count : ℕ) → List ℕ
cut_numbers first zero = []
cut_numbers first (suc n) = first ∷ cut_numbers (min (first + 1) (2 ^ 64 - 1)) n

-- of the way into nodes that begin so
abbrev pub told_entry : Entry → (state group : ℕ) → (past : ToldWay) → ToldWay
told_entry Nothing state group past = past
told_entry State state group past = told_go state
told_entry (Threads nested count) state group past = told_fork (cut_numbers (min (group + nested) (2 ^ 64 - 1)) count)

-- of the same, past which a decision goes
abbrev pub entry_told : Entry → (state group : ℕ) → (past : Decision) → ToldWay
entry_told entry state group past = told_entry entry state group (decision_told past)

-- of a state, and of a group
pub record ToldState : Type 0 where
  pub block : ℕ
  pub home : ℕ
  pub way : ToldWay

pub record ToldGroup : Type 0 where
  pub parent : Option ℕ
  pub first : ToldWay
  pub after : Option ToldWay

abbrev pub told_state : ℕ → (home : ℕ) → ToldWay → ToldState
told_state block home way = record { block = block; home = home; way = way }

abbrev pub told_group : (parent : Option ℕ) → ToldWay → Option ToldWay → ToldGroup
told_group parent first after = record { parent = parent; first = first; after = after }

abbrev pub state_told : code.State → ToldState
state_told s = told_state s.block s.group (decision_told s.next)

abbrev pub group_told : Group → ToldGroup
group_told g = told_group g.parent (decision_told g.first) (option_map decision_told g.after)

abbrev pub states_told : List code.State → List ToldState
states_told ss = map state_told ss

abbrev pub groups_told : List Group → List ToldGroup
groups_told gs = map group_told gs

abbrev pub placed_told : PlacedState → ToldState
placed_told p = told_state p.block p.home (graph_way_told p.way)

abbrev pub forked_told : Forked → ToldGroup
forked_told f = told_group f.parent (graph_way_told f.first) (option_map graph_way_told f.join)

-- A plan of one store, and a net of it, written out by hand: what the definition of a net of a plan is tried on. The
-- store is `A[1] := 7;` where `A` has two elements, in the form in which accesses are of rows of banks.
use Rattle.std.specs.Prelude.{◌≡◌, ℕ, zero, suc, true, List, [], ◌∷◌, Some, None}
use Rattle.dh_tree.specs.Meets.{access}
use Rattle.dh_net.specs.declared.nets.Cell.{Cell}
use Rattle.dh_net.specs.declared.nets.CellForm.{CellForm}
use Rattle.dh_net.specs.declared.nets.CellForm.TheVariants as cell
use Rattle.dh_net.specs.declared.nets.Driver.{Driver}
use Rattle.dh_net.specs.declared.nets.Net.{Net}
use Rattle.dh_net.specs.declared.nets.Register.{Register}
use Rattle.dh_plan.specs.declared.operations.OperationForm.TheVariants.{Write}
use Rattle.dh_plan.specs.declared.operations.Reach.{Reach}
use Rattle.dh_plan.specs.ExamplePlans.{line, always, constant, one_bank, block, nodes}
use Rattle.dh_plan.specs.PlainPlans.{block_node, PlainPlan}
use Rattle.dh_plan.specs.Ways.{to_state, to_end, Flow, rests, in_state, in_fork}
use Rattle.dh_lower.specs.NetOfPlan.{Making, RegisterMeaning}
use Rattle.dh_lower.specs.PortUsers.{User}
use Rattle.dh_net.specs.Parts.{one_cell}

abbrev pub stored_row : Reach
stored_row = record { access = 0; memory = 0; indices = []; steps = []; banks = one_bank; select = None; row = Some 1 }

abbrev pub store_plan : PlainPlan
store_plan = record {
  table = line 65 8 2 ∷ [];
  views = [];
  registers = [];
  blocks = block (constant 8 7 ∷ constant 1 1 ∷ always (Write stored_row 0) ∷ []) ∷ [];
  body = nodes (block_node 0 ∷ []);
  meets = access 0;
  faults = [];
}

abbrev pub store_flow : Flow
store_flow = record { states = record { block = 0; way = to_end } ∷ []; first = to_state 0; joins = [] }

abbrev pub the_user : User
the_user = record { block = 0; place = 2; bank = 0 }

abbrev pub store_users : (port : ℕ) → List User
store_users zero = the_user ∷ []
store_users (suc port) = []

abbrev pub store_wires : (block : ℕ) → List ℕ
store_wires zero = 4 ∷ 1 ∷ 2 ∷ []
store_wires (suc block) = []

abbrev pub store_making : Making
store_making = record {
  plan = store_plan;
  flow = store_flow;
  timing = record { clocks = 0 ∷ 0 ∷ 0 ∷ []; lengths = 1 ∷ [] };
  uses = record { ports = [] ∷ [] ∷ ((0, 0) ∷ []) ∷ []; units = 0 ∷ 0 ∷ 0 ∷ [] };
  layout = record { block_wires = store_wires };
  users = store_users;
}

abbrev pub bit_register : (next : ℕ) → Register
bit_register next = record { width = 1; initial = 0; next = next }

-- Register 0 is 0 before the step and 1 once it is done, register 1 is the tick. Wire 3 says that the step is done now.
abbrev pub store_cells : List Cell
store_cells =
    one_cell 1 (cell.Reg 0) ∷ one_cell 1 (cell.Const 1) ∷ one_cell 1 (cell.Const 0) ∷ one_cell 1 (cell.Eq 0 2) ∷ one_cell 8 (cell.Const 7) ∷ one_cell 1 (cell.Reg 1)
    ∷ one_cell 32 (cell.Const 0) ∷ []

abbrev pub store_driver : Driver
store_driver = record { enable = 3; write = true; row = 1; data_ = 4 }

abbrev pub store_net : Net
store_net = record {
  table = line 65 8 2 ∷ [];
  faults = [];
  registers = bit_register 1 ∷ bit_register 3 ∷ [];
  cells = store_cells;
  drivers = (store_driver ∷ []) ∷ [];
  tick = 5;
  done = 0;
  fault = 6;
}

-- its registers are the state and the tick
abbrev pub store_holds : RegisterMeaning
store_holds rests clock tick fault registers net_registers = (net_registers ≡ 1 ∷ tick ∷ []) × (fault ≡ 0)
store_holds (in_state zero) clock tick fault registers net_registers = (net_registers ≡ 0 ∷ tick ∷ []) × (fault ≡ 0)
store_holds (in_state (suc state)) clock tick fault registers net_registers = ⊥
store_holds (in_fork fork ss) clock tick fault registers net_registers = ⊥

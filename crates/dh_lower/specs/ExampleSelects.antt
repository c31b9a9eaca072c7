-- A plan of one read of two banks, and a net of it, written out by hand: what the definition of a net of a plan is
-- tried on where a read picks its bank. The step is `y := A[s];` where `A` has two elements in two banks, so that an
-- index is the number of a bank, and `s` and `y` are registers 0 and 1. It takes two clocks.
use Rattle.std.specs.Prelude.{◌≡◌, ℕ, zero, suc, false, List, [], ◌∷◌, length, Some}
use Rattle.dh_value.specs.declared.kinds.Kind.TheVariants as kind
use Rattle.dh_tree.specs.declared.tables.MemEntry.{MemEntry}
use Rattle.dh_tree.specs.Meets.{access}
use Rattle.dh_net.specs.declared.nets.Cell.{Cell}
use Rattle.dh_net.specs.declared.nets.CellForm.TheVariants as cell
use Rattle.dh_net.specs.declared.nets.Driver.{Driver}
use Rattle.dh_net.specs.declared.nets.Net.{Net}
use Rattle.dh_net.specs.declared.nets.Register.{Register}
use Rattle.dh_plan.specs.declared.operations.Operation.{Operation}
use Rattle.dh_plan.specs.declared.operations.OperationForm.TheVariants.{Old, Read, Set}
use Rattle.dh_plan.specs.declared.operations.Reach.{Reach}
use Rattle.dh_plan.specs.ExamplePlans.{dim, memory, always, constant, block, nodes}
use Rattle.dh_plan.specs.PlainPlans.{block_node, PlainPlan}
use Rattle.dh_plan.specs.Ways.{to_state, to_end, rests, in_state, in_fork}
use Rattle.dh_lower.specs.NetOfPlan.{Making, RegisterMeaning}
use Rattle.dh_lower.specs.PortUsers.{User}
use Rattle.dh_net.specs.Parts.{one_cell}

abbrev pub picked_row : Reach
picked_row = record { access = 0; memory = 0; indices = []; steps = []; banks = (0, 0) ∷ (1, 0) ∷ []; select = Some 0; row = Some 1 }

abbrev pub two_banks : List MemEntry
two_banks = memory 65 8 1 (dim 2 2 ∷ []) ∷ []

abbrev pub read_operations : List Operation
read_operations = always (Old 0) ∷ constant 1 0 ∷ always (Read picked_row) ∷ always (Set 1 2) ∷ []

abbrev pub read_plan : PlainPlan
read_plan = record {
  table = two_banks;
  views = [];
  registers = kind.Unsigned 1 ∷ kind.Unsigned 8 ∷ [];
  blocks = block read_operations ∷ [];
  body = nodes (block_node 0 ∷ []);
  meets = access 0;
  faults = [];
}

abbrev pub user_of : (bank : ℕ) → User
user_of bank = record { block = 0; place = 2; bank = bank }

abbrev pub read_users : (port : ℕ) → List User
read_users zero = user_of 0 ∷ []
read_users (suc zero) = user_of 1 ∷ []
read_users (suc (suc port)) = []

abbrev pub read_wires : (block : ℕ) → List ℕ
read_wires zero = 3 ∷ 5 ∷ 12 ∷ 5 ∷ []
read_wires (suc block) = []

abbrev pub read_making : Making
read_making = record {
  plan = read_plan;
  flow = record { states = record { block = 0; way = to_end } ∷ []; first = to_state 0; joins = [] };
  timing = record { clocks = 0 ∷ 0 ∷ 0 ∷ 1 ∷ []; lengths = 2 ∷ [] };
  uses = record { ports = [] ∷ [] ∷ ((0, 0) ∷ (1, 0) ∷ []) ∷ [] ∷ []; units = 0 ∷ 0 ∷ 0 ∷ 0 ∷ [] };
  layout = record { block_wires = read_wires };
  users = read_users;
}

abbrev pub register_of : (width next : ℕ) → Register
register_of width next = record { width = width; initial = 0; next = next }

-- Wires 0 to 4 are the registers: whether the run is over, the clock, the tick, s and y. Wire 7 says that the step is
-- being done, 8 that this is its last clock, 14 that it is the first; 11 and 15 say which bank is picked.
abbrev pub read_cells : List Cell
read_cells =
    one_cell 1 (cell.Reg 0) ∷ one_cell 1 (cell.Reg 1) ∷ one_cell 1 (cell.Reg 2) ∷ one_cell 1 (cell.Reg 3) ∷ one_cell 8 (cell.Reg 4)
    ∷ one_cell 1 (cell.Const 0) ∷ one_cell 1 (cell.Const 1)
    ∷ one_cell 1 (cell.Eq 0 5) ∷ one_cell 1 (cell.Mux 7 1 5)
    ∷ one_cell 8 (cell.Data 0 0 0) ∷ one_cell 8 (cell.Data 0 1 0) ∷ one_cell 1 (cell.Eq 3 6) ∷ one_cell 8 (cell.Mux 11 10 9)
    ∷ one_cell 1 (cell.Eq 1 5) ∷ one_cell 1 (cell.Mux 7 13 5)
    ∷ one_cell 1 (cell.Eq 3 5) ∷ one_cell 1 (cell.Mux 14 15 5) ∷ one_cell 1 (cell.Mux 14 11 5)
    ∷ one_cell 1 (cell.Mux 7 8 6) ∷ one_cell 8 (cell.Mux 8 12 4)
    ∷ one_cell 32 (cell.Const 0) ∷ []

abbrev pub read_driver : (enable : ℕ) → Driver
read_driver enable = record { enable = enable; write = false; row = 5; data_ = 0 }

abbrev pub read_net : Net
read_net = record {
  table = two_banks;
  faults = [];
  registers = register_of 1 18 ∷ register_of 1 14 ∷ register_of 1 8 ∷ register_of 1 3 ∷ register_of 8 19 ∷ [];
  cells = read_cells;
  drivers = (read_driver 16 ∷ []) ∷ (read_driver 17 ∷ []) ∷ [];
  tick = 2;
  done = 0;
  fault = 20;
}

-- its registers are whether the run is over, the clock, the tick, and those of the plan
abbrev pub read_holds : RegisterMeaning
read_holds rests clock tick fault registers net_registers = (net_registers ≡ 1 ∷ clock ∷ tick ∷ registers) × ((length registers ≡ 2) × (fault ≡ 0))
read_holds (in_state zero) clock tick fault registers net_registers = (net_registers ≡ 0 ∷ clock ∷ tick ∷ registers) × ((length registers ≡ 2) × (fault ≡ 0))
read_holds (in_state (suc state)) clock tick fault registers net_registers = ⊥
read_holds (in_fork fork ss) clock tick fault registers net_registers = ⊥

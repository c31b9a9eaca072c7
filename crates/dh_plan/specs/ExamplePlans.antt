-- Plans of small programs, written out by hand: what definitions of plans are tried on.
use Rattle.std.specs.Prelude.{ℕ, true, List, [], ◌∷◌, ◌++◌, map, replicate, slice_set, Some, None}
use Rattle.dh_base.specs.declared.outcomes.FaultKind.{FaultKind}
use Rattle.dh_base.specs.declared.outcomes.FaultKind.TheVariants.{OutOfRange}
use Rattle.dh_base.specs.declared.outcomes.Outcome.{Outcome}
use Rattle.dh_base.specs.declared.outcomes.Outcome.TheVariants.{Faulted}
use Rattle.dh_base.specs.declared.places.Place.{Place}
use Rattle.dh_value.specs.declared.kinds.Kind.TheVariants.{Bool, Unsigned}
use Rattle.dh_value.specs.declared.operators.Op.TheVariants as op
use Rattle.dh_value.specs.Words.{with_bits}
use Rattle.dh_tree.specs.declared.tables.Dim.{Dim}
use Rattle.dh_tree.specs.declared.tables.MemEntry.{MemEntry}
use Rattle.dh_tree.specs.Meets.{nothing, access, all, one}
use Rattle.dh_plan.specs.declared.operations.Operation.{Operation}
use Rattle.dh_plan.specs.declared.operations.OperationForm.{OperationForm}
use Rattle.dh_plan.specs.declared.operations.OperationForm.TheVariants.{Constant, Old, Compute, Probe, Read, Write, Set}
use Rattle.dh_plan.specs.declared.operations.PlanBlock.{PlanBlock}
use Rattle.dh_plan.specs.declared.operations.Reach.{Reach}
use Rattle.dh_tree.specs.declared.viewing.ViewSort.TheVariants.{Split}
use Rattle.dh_plan.specs.PlainPlans.{Node, block_node, turns_node, loop_node, choice_node, threads_node, Nodes, no_nodes, node_then, no_lists, list_then, PlainPlan}

-- Pieces.

abbrev pub dim : (size banks : ℕ) → Dim
dim size banks = record { size = size; banks = banks }

-- an outside memory with a name of one letter
abbrev pub memory : (letter width ports : ℕ) → List Dim → MemEntry
memory letter width ports dims = record { name = letter ∷ []; shape = record { kind = Unsigned width; ports = ports; dims = dims }; outside = true }

-- one dimension in one bank with one port
abbrev pub line : (letter width size : ℕ) → MemEntry
line letter width size = memory letter width 1 (dim size 1 ∷ [])

abbrev pub always : OperationForm → Operation
always form = record { guard = None; form = form }

abbrev pub where_on : (guard : ℕ) → OperationForm → Operation
where_on guard form = record { guard = Some guard; form = form }

-- a number of a width
abbrev pub constant : (width n : ℕ) → Operation
constant width n = always (Constant (with_bits (Unsigned width) n))

abbrev pub by_indices : (number memory : ℕ) → (indices : List ℕ) → (banks : List (ℕ × ℕ)) → Reach
by_indices number memory indices banks = record { access = number; memory = memory; indices = indices; steps = []; banks = banks; select = None; row = None }

-- the one bank of a memory
abbrev pub one_bank : List (ℕ × ℕ)
one_bank = (0, 0) ∷ []

abbrev pub probes : (number memory : ℕ) → (indices : List ℕ) → (fault : ℕ) → Operation
probes number memory indices fault = always (Probe (by_indices number memory indices []) fault)

abbrev pub reads_at : (number memory : ℕ) → (indices : List ℕ) → Operation
reads_at number memory indices = always (Read (by_indices number memory indices one_bank))

abbrev pub writes_at : (number memory : ℕ) → (indices : List ℕ) → (value : ℕ) → Operation
writes_at number memory indices value = always (Write (by_indices number memory indices one_bank) value)

abbrev pub block : List Operation → PlanBlock
block os = record { operations = os }

abbrev pub nodes : List Node → Nodes
nodes [] = no_nodes
nodes (n ∷ ns) = node_then n (nodes ns)

abbrev pub at_place : (line column : ℕ) → FaultKind × Place
at_place line column = (OutOfRange, record { line = line; column = column })

-- Memories and outcomes.

-- memories of these sizes, all zeros
abbrev pub zeros : List ℕ → List (List ℕ)
zeros sizes = map (λ n. replicate n 0) sizes

abbrev pub two_cells : (first second : ℕ) → List (List ℕ)
two_cells first second = (first ∷ []) ∷ (second ∷ []) ∷ []

abbrev pub five_zeros : List (List ℕ)
five_zeros = zeros (4 ∷ 1 ∷ [])

abbrev pub ones_and_twos : List (List ℕ)
ones_and_twos = replicate 3 1 ∷ replicate 5 2 ∷ []

-- one memory of zeros but for an element
abbrev pub element_set : (size position value : ℕ) → List (List ℕ)
element_set size position value = slice_set (replicate size 0) position value ∷ []

-- two zeros, and a number that a test looks at
abbrev pub tested_contents : ℕ → List (List ℕ)
tested_contents n = (0 ∷ 0 ∷ []) ∷ (n ∷ []) ∷ []

-- two memories of four zeros, and an index that neither has
abbrev pub far_index : List (List ℕ)
far_index = replicate 4 0 ∷ replicate 4 0 ∷ (9 ∷ []) ∷ []

-- four numbers, and where their fold goes
abbrev pub to_fold : ℕ → List (List ℕ)
to_fold n = (1 ∷ 2 ∷ 3 ∷ 4 ∷ []) ∷ (n ∷ []) ∷ []

-- the fault of an access at a place that is out of range
abbrev pub outside_at : (row column : ℕ) → Outcome
outside_at row column = Faulted OutOfRange (record { line = row; column = column })

-- `decl A: ubit<32>[1]; decl B: ubit<32>[1]; A[0] := 7 --- B[0] := A[0] + 1;`
abbrev pub first_plan : PlainPlan
first_plan = record {
  table = line 65 32 1 ∷ line 66 32 1 ∷ [];
  views = [];
  registers = [];
  blocks =
      block (constant 32 7 ∷ constant 32 0 ∷ probes 0 0 (1 ∷ []) 0 ∷ writes_at 0 0 (1 ∷ []) 0 ∷ [])
      ∷ block (constant 32 0 ∷ probes 1 0 (4 ∷ []) 1 ∷ reads_at 1 0 (4 ∷ []) ∷ constant 32 1 ∷ always (Compute op.Add 6 7)
      ∷ constant 32 0 ∷ probes 2 1 (9 ∷ []) 2 ∷ writes_at 2 1 (9 ∷ []) 8 ∷ [])
      ∷ [];
  body = nodes (block_node 0 ∷ block_node 1 ∷ []);
  meets = one (access 0) (one (all (access 1) (access 2)) nothing);
  faults = at_place 1 43 ∷ at_place 1 63 ∷ at_place 1 55 ∷ [];
}

-- `decl A: ubit<8>[4];\ndecl B: ubit<8>[1];\nlet i: ubit<8> = 9;\n---\nB[0] := 1; A[i] := 1;`
abbrev pub faulting_plan : PlainPlan
faulting_plan = record {
  table = line 65 8 4 ∷ line 66 8 1 ∷ [];
  views = [];
  registers = Unsigned 8 ∷ [];
  blocks =
      block (constant 8 9 ∷ always (Set 0 0) ∷ [])
      ∷ block (constant 8 1 ∷ constant 32 0 ∷ probes 0 1 (3 ∷ []) 0 ∷ writes_at 0 1 (3 ∷ []) 2
      ∷ constant 8 1 ∷ always (Old 0) ∷ probes 1 0 (7 ∷ []) 1 ∷ writes_at 1 0 (7 ∷ []) 6 ∷ [])
      ∷ [];
  body = nodes (block_node 0 ∷ block_node 1 ∷ []);
  meets = one nothing (one (all (access 0) (access 1)) nothing);
  faults = at_place 5 1 ∷ at_place 5 12 ∷ [];
}

-- `decl A: ubit<8>[1];\nwhile (true) { let x = A[0]; --- A[0] := x + 1; }`
abbrev pub endless_plan : PlainPlan
endless_plan = record {
  table = line 65 8 1 ∷ [];
  views = [];
  registers = Bool ∷ Unsigned 8 ∷ [];
  blocks =
      block (always (Constant (with_bits Bool 1)) ∷ always (Set 0 0) ∷ [])
      ∷ block (constant 32 0 ∷ probes 0 0 (2 ∷ []) 0 ∷ reads_at 0 0 (2 ∷ []) ∷ always (Set 1 4) ∷ [])
      ∷ block (always (Old 1) ∷ constant 8 1 ∷ always (Compute op.Add 6 7) ∷ constant 32 0 ∷ probes 1 0 (9 ∷ []) 1 ∷ writes_at 1 0 (9 ∷ []) 8 ∷ [])
      ∷ [];
  body = nodes (loop_node 0 0 (nodes (block_node 1 ∷ block_node 2 ∷ [])) ∷ []);
  meets = one nothing (one (access 0) (one (access 1) nothing));
  faults = at_place 2 24 ∷ at_place 2 34 ∷ [];
}

-- `decl A: ubit<8>[3]; decl B: ubit<8>[5];\nfor (let i = 0..3) { A[i] := 1; }\nfor (let j = 0..5) { B[j] := 2; }`
abbrev pub threads_plan : PlainPlan
threads_plan = record {
  table = line 65 8 3 ∷ line 66 8 5 ∷ [];
  views = [];
  registers = Unsigned 2 ∷ Unsigned 3 ∷ [];
  blocks =
      block (constant 8 1 ∷ always (Old 0) ∷ probes 0 0 (1 ∷ []) 0 ∷ writes_at 0 0 (1 ∷ []) 0 ∷ [])
      ∷ block (constant 8 2 ∷ always (Old 1) ∷ probes 1 1 (5 ∷ []) 1 ∷ writes_at 1 1 (5 ∷ []) 4 ∷ [])
      ∷ [];
  body = nodes (threads_node (list_then (nodes (turns_node 0 3 (nodes (block_node 0 ∷ [])) ∷ [])) (list_then (nodes (turns_node 1 5 (nodes (block_node 1 ∷ [])) ∷ [])) no_lists)) ∷ []);
  meets = all (access 0) (all (access 1) nothing);
  faults = at_place 2 22 ∷ at_place 3 22 ∷ [];
}

-- `decl A: ubit<8>[12 bank 4];\nview v = split A[by 2];\nv[1][3] := 9;`
abbrev pub split_plan : PlainPlan
split_plan = record {
  table = memory 65 8 1 (dim 12 4 ∷ []) ∷ [];
  views = record {
    shape = record { kind = Unsigned 8; ports = 1; dims = dim 2 2 ∷ dim 6 2 ∷ [] };
    parent = record { kind = Unsigned 8; ports = 1; dims = dim 12 4 ∷ [] };
    sort = Split;
    by = 2 ∷ [];
  } ∷ [];
  registers = [];
  blocks =
      block (constant 8 9 ∷ constant 32 1 ∷ constant 32 3
      ∷ always (Probe (record { access = 0; memory = 0; indices = 1 ∷ 2 ∷ []; steps = record { view = 0; offsets = [] } ∷ []; banks = []; select = None; row = None }) 0)
      ∷ always (Write (record { access = 0; memory = 0; indices = 1 ∷ 2 ∷ []; steps = record { view = 0; offsets = [] } ∷ []; banks = (3, 0) ∷ []; select = None; row = None }) 0)
      ∷ [])
      ∷ [];
  body = nodes (block_node 0 ∷ []);
  meets = access 0;
  faults = at_place 3 1 ∷ [];
}

-- `decl M: ubit<8>[4 bank 2][4 bank 2];\nM{3}[0] := 9;`
abbrev pub physical_plan : PlainPlan
physical_plan = record {
  table = memory 77 8 1 (dim 4 2 ∷ dim 4 2 ∷ []) ∷ [];
  views = [];
  registers = [];
  blocks =
      block (constant 8 9 ∷ constant 32 0
      ∷ always (Probe (record { access = 0; memory = 0; indices = []; steps = []; banks = []; select = None; row = Some 1 }) 0)
      ∷ always (Write (record { access = 0; memory = 0; indices = []; steps = []; banks = (3, 0) ∷ []; select = None; row = Some 1 }) 0)
      ∷ [])
      ∷ [];
  body = nodes (block_node 0 ∷ []);
  meets = access 0;
  faults = at_place 2 1 ∷ [];
}

-- `decl A: ubit<8>[2]; decl B: ubit<8>[1];\nlet c = B[0];\n---\nif (c == 1) { A[0] := 1; --- A[1] := 2; } else { A[0] := 9; }`
abbrev pub choice_plan : PlainPlan
choice_plan = record {
  table = line 65 8 2 ∷ line 66 8 1 ∷ [];
  views = [];
  registers = Unsigned 8 ∷ Bool ∷ [];
  blocks =
      block (constant 32 0 ∷ probes 0 1 (0 ∷ []) 0 ∷ reads_at 0 1 (0 ∷ []) ∷ always (Set 0 2) ∷ [])
      ∷ block (always (Old 0) ∷ constant 8 1 ∷ always (Compute op.Eq 4 5) ∷ always (Set 1 6) ∷ [])
      ∷ block (constant 8 1 ∷ constant 32 0 ∷ probes 1 0 (9 ∷ []) 1 ∷ writes_at 1 0 (9 ∷ []) 8 ∷ [])
      ∷ block (constant 8 2 ∷ constant 32 1 ∷ probes 2 0 (13 ∷ []) 2 ∷ writes_at 2 0 (13 ∷ []) 12 ∷ [])
      ∷ block (constant 8 9 ∷ constant 32 0 ∷ probes 3 0 (17 ∷ []) 3 ∷ writes_at 3 0 (17 ∷ []) 16 ∷ [])
      ∷ [];
  body = nodes (block_node 0 ∷ choice_node 1 1 (nodes (block_node 2 ∷ block_node 3 ∷ [])) (nodes (block_node 4 ∷ [])) ∷ []);
  meets = one (access 0) (one (all nothing (one (one (access 1) (one (access 2) nothing)) (access 3))) nothing);
  faults = at_place 2 9 ∷ at_place 4 15 ∷ at_place 4 30 ∷ at_place 4 49 ∷ [];
}

-- `decl A: ubit<8>[4]; decl B: ubit<8>[4]; decl C: ubit<8>[1];\nlet i: ubit<8> = 4;\n---\nlet x = A[C[0]]; let y = B[i];`
abbrev pub late_fault_plan : PlainPlan
late_fault_plan = record {
  table = line 65 8 4 ∷ line 66 8 4 ∷ line 67 8 1 ∷ [];
  views = [];
  registers = Unsigned 8 ∷ Unsigned 8 ∷ Unsigned 8 ∷ [];
  blocks =
      block (constant 8 4 ∷ always (Set 0 0) ∷ [])
      ∷ block (constant 32 0 ∷ probes 0 2 (2 ∷ []) 0 ∷ reads_at 0 2 (2 ∷ []) ∷ probes 1 0 (4 ∷ []) 1 ∷ reads_at 1 0 (4 ∷ []) ∷ always (Set 1 6)
      ∷ always (Old 0) ∷ probes 2 1 (8 ∷ []) 2 ∷ reads_at 2 1 (8 ∷ []) ∷ always (Set 2 10) ∷ [])
      ∷ [];
  body = nodes (block_node 0 ∷ block_node 1 ∷ []);
  meets = one nothing (one (all (access 0) (all (access 1) (access 2))) nothing);
  faults = at_place 4 11 ∷ at_place 4 9 ∷ at_place 4 26 ∷ [];
}

-- `decl A: ubit<8>[4 bank 4]; decl S: ubit<8>[1];\nlet s: ubit<8> = 100;\nfor (let i = 0..4) unroll 4 { let v = A[i]; } combine { s -= v; }\n---\nS[0] := s;`
-- The counter is register 1, of no bit that is ever set, as the loop has one turn; copy c reads element c of bank c.

-- the reads of the copies, each of its own bank: in copy c numbers 3 * c + 2 to 3 * c + 4 of the block
abbrev pub copy_reads : (number copy : ℕ) → List Operation
copy_reads number copy =
    constant 32 copy
    ∷ always (Probe (by_indices 0 0 (number ∷ []) []) 0)
    ∷ always (Read (by_indices 0 0 (number ∷ []) ((copy, 0) ∷ [])))
    ∷ []

abbrev pub fold_plan : PlainPlan
fold_plan = record {
  table = memory 65 8 1 (dim 4 4 ∷ []) ∷ line 83 8 1 ∷ [];
  views = [];
  registers = Unsigned 8 ∷ Unsigned 1 ∷ [];
  blocks =
      block (constant 8 100 ∷ always (Set 0 0) ∷ [])
      ∷ block (copy_reads 2 0 ++ (copy_reads 5 1 ++ (copy_reads 8 2 ++ (copy_reads 11 3
      ++ always (Old 0) ∷ always (Compute op.Sub 14 4) ∷ always (Compute op.Sub 15 7) ∷ always (Compute op.Sub 16 10) ∷ always (Compute op.Sub 17 13) ∷ always (Set 0 18) ∷ []))))
      ∷ block (always (Old 0) ∷ constant 32 0 ∷ probes 1 1 (21 ∷ []) 1 ∷ writes_at 1 1 (21 ∷ []) 20 ∷ [])
      ∷ [];
  body = nodes (block_node 0 ∷ turns_node 1 1 (nodes (block_node 1 ∷ [])) ∷ block_node 2 ∷ []);
  meets = one nothing (one (access 0) (one (access 1) nothing));
  faults = at_place 3 38 ∷ at_place 5 1 ∷ [];
}

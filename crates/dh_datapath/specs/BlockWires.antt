-- The wires of the values of a plan's blocks: for each operation a wire, which shows the word that the plan has by
-- registers, by what ports hold and by the words that the wires of earlier operations show.
use Rattle.std.specs.Prelude.{◌≡◌, ℕ, ◌-◌, List, [], length, take, drop, slice_get, slice_index_or, Some}
use Rattle.std.specs.List.{AllByRecursion}
use Rattle.dh_value.specs.declared.kinds.Kind.{Kind}
use Rattle.dh_value.specs.declared.kinds.Kind.TheVariants as kind
use Rattle.dh_value.specs.Operations.{Suits}
use Rattle.dh_value.specs.Words.{IsInteger, IsKind, IsWord, width_of}
use Rattle.dh_tree.specs.declared.tables.MemEntry.{MemEntry}
use Rattle.dh_meaning.specs.Effects.{kind_in}
use Rattle.dh_plan.specs.declared.operations.Operation.{Operation}
use Rattle.dh_plan.specs.declared.operations.OperationForm.{OperationForm}
use Rattle.dh_plan.specs.declared.operations.OperationForm.TheVariants.{Constant, Old, Compute, Convert, Select, Check, Probe, Read, Write, Set}
use Rattle.dh_plan.specs.declared.operations.Reach.{Reach}
use Rattle.dh_plan.specs.Blocks.{StepStart, Look, bank_picked, form_word, operation_word, AreValues}
use Rattle.dh_plan.specs.BoundPorts.{Uses}
use Rattle.dh_plan.specs.PlainPlans.{PlainPlan, first_in, operations_in, operation_count}
use Rattle.dh_plan.specs.Ordered.{one_or_none, IsOrdered}
use Rattle.dh_plan.specs.PlanKinds.{kind_of_value, kinds_behind, kinds_of, Names}
use Rattle.dh_plan.specs.PlanRuns.{start_at}
use Rattle.dh_lower.specs.ShownWords.{Layout, bank_or_first, if_listed, in_ports}
use Rattle.dh_cells.specs.PlainCircuits.{PlainCircuit}
use Rattle.dh_cells.specs.Settled.{Signals, IsSettled, Grows}
use Rattle.dh_datapath.specs.declared.blocks.PlanWires.{PlanWires}
use Rattle.dh_datapath.specs.declared.rows.RowWires.{RowWires}
use Rattle.dh_datapath.specs.ReadWires.{bank_held, HavePorts}
use Rattle.dh_datapath.specs.RegistersShown.{ShowRegisters}
use Rattle.dh_datapath.specs.ValueWires.{AreValueWires, value_words}

-- how a step begins by what the registers of a circuit show
abbrev pub start_shown : PlainPlan → (offset : ℕ) → Signals → StepStart
start_shown plan offset x = start_at plan (drop offset x.registers) []

-- what a read shows by the ports that its operation uses
abbrev pub ports_look : List MemEntry → (ports : List (ℕ × ℕ)) → (held : List ℕ) → (first : ℕ) → Look
ports_look table ports held first number r ws =
    if_listed r.banks (bank_held table r.memory ports held (bank_or_first r.banks (bank_picked first ws r.banks r.select)))

abbrev pub read_bits : List MemEntry → (ports : List (ℕ × ℕ)) → (first : ℕ) → List Kind → (wires : List ℕ) → Reach → Signals → ℕ
read_bits table ports first ks ws r = λ x. ports_look table ports x.held first 0 r (value_words ks ws x)

-- what the wire of a form shows, and of an operation, behind values of these kinds and wires
abbrev pub form_wire_bits : PlainPlan → (offset : ℕ) → (ports : List (ℕ × ℕ)) → (first : ℕ) → List Kind → (wires : List ℕ) → OperationForm → Signals → ℕ
form_wire_bits plan offset ports first ks ws f =
    λ x. (form_word (start_shown plan offset x) (ports_look plan.table ports x.held first) first (value_words ks ws x) 0 f).bits

abbrev pub operation_bits : PlainPlan → (offset : ℕ) → (ports : List (ℕ × ℕ)) → (first : ℕ) → List Kind → (wires : List ℕ) → Operation → Signals → ℕ
operation_bits plan offset ports first ks ws o =
    λ x. (operation_word (start_shown plan offset x) (ports_look plan.table ports x.held first) first (value_words ks ws x) 0 o).bits

-- What a form needs to have a wire, behind values of these kinds: kinds that suit it, and of a read that the ports are
-- there which are used of the banks that it lists.
abbrev pub CanShow : PlainPlan → (ports : List (ℕ × ℕ)) → (first : ℕ) → List Kind → OperationForm → Type 0
CanShow plan ports first ks (Constant word) = IsWord word
CanShow plan ports first ks (Old register) = Names plan.registers register
CanShow plan ports first ks (Compute op left right) = Suits op (kind_of_value first ks left) (kind_of_value first ks right)
CanShow plan ports first ks (Convert inner to) = IsInteger to
CanShow plan ports first ks (Select test a b) = (kind_of_value first ks test ≡ kind.Bool) × (kind_of_value first ks a ≡ kind_of_value first ks b)
CanShow plan ports first ks (Check ok fault) = Unit {0}
CanShow plan ports first ks (Probe r fault) = Unit {0}
CanShow plan ports first ks (Read r) = IsKind (kind_in plan.table r.memory) × HavePorts plan.table r.memory (width_of (kind_in plan.table r.memory)) ports r.banks
CanShow plan ports first ks (Write r value) = Unit {0}
CanShow plan ports first ks (Set register value) = Unit {0}

-- Operations in a row, from the first of a block on. `used` are the ports that each uses.

-- the ports that an operation uses, by its place
abbrev pub operation_ports : (used : List (List (ℕ × ℕ))) → (place : ℕ) → List (ℕ × ℕ)
operation_ports used place = slice_index_or used place []

abbrev pub row_look : List MemEntry → (used : List (List (ℕ × ℕ))) → (held : List ℕ) → (first : ℕ) → Look
row_look table used held first number r ws = ports_look table (operation_ports used (number - first)) held first number r ws

-- the kinds of their values
abbrev pub row_kinds : PlainPlan → (first : ℕ) → List Operation → List Kind
row_kinds plan first os = kinds_behind plan.table plan.registers first [] os

-- each takes earlier values and has what it needs to have a wire
pub record IsFormedRow (plan : PlainPlan) (used : List (List (ℕ × ℕ))) (first : ℕ) (os : List Operation) : Type 0 where
  pub ordered : IsOrdered first os
  pub guards : (i : ℕ) (o : Operation) → slice_get os i ≡ Some o → AllByRecursion (λ g. kind_of_value first (row_kinds plan first os) g ≡ kind.Bool) (one_or_none o.guard)
  pub forms : (i : ℕ) (o : Operation) → slice_get os i ≡ Some o → CanShow plan (operation_ports used i) first (row_kinds plan first os) o.form

-- wires were added that show their values
pub record RowAdded (old new : PlainCircuit) (plan : PlainPlan) (offset : ℕ) (used : List (List (ℕ × ℕ))) (first : ℕ) (os : List Operation) (row : RowWires) : Type 0 where
  pub grows : Grows old new
  pub kinds : row.kinds ≡ row_kinds plan first os
  pub there : AreValueWires new row.kinds row.wires
  pub words : (x : Signals) → IsSettled new x
      → AreValues (start_shown plan offset x) (row_look plan.table used x.held first) first os (value_words row.kinds row.wires x)

-- Blocks.

-- what goes by numbers of a plan's operations, cut to those of a block
abbrev pub part_in : {A : Type 0} → PlainPlan → List A → (block : ℕ) → List A
part_in plan all block = take (length (operations_in plan block)) (drop (first_in plan block) all)

-- the wires of a plan's values as a layout
abbrev pub layout_of : PlainPlan → PlanWires → Layout
layout_of plan wires = record { block_wires = λ block. part_in plan wires.values block }

-- these wires show the values of a block
pub record ShowsBlock (d : PlainCircuit) (plan : PlainPlan) (u : Uses) (offset block : ℕ) (wires : List ℕ) : Type 0 where
  pub there : AreValueWires d (kinds_of plan block) wires
  pub words : (x : Signals) → IsSettled d x
      → AreValues (start_shown plan offset x) (in_ports plan u x.held block) (first_in plan block) (operations_in plan block) (value_words (kinds_of plan block) wires x)

-- The wires of a plan show its registers and the values of its blocks.
pub record ShowsPlan (d : PlainCircuit) (plan : PlainPlan) (u : Uses) (wires : PlanWires) : Type 0 where
  pub registers : ShowRegisters d plan.registers wires.registers
  -- a wire and a kind for each operation of the plan
  pub all_values : length wires.values ≡ operation_count plan
  pub all_kinds : length wires.kinds ≡ operation_count plan
  pub kinds : (block : ℕ) → part_in plan wires.kinds block ≡ kinds_of plan block
  pub blocks : (block : ℕ) → ShowsBlock d plan u wires.registers.offset block (part_in plan wires.values block)

-- cells were added, and they do
pub record PlanAdded (old new : PlainCircuit) (plan : PlainPlan) (u : Uses) (offset : ℕ) (wires : PlanWires) : Type 0 where
  pub grows : Grows old new
  pub offset_is : wires.registers.offset ≡ offset
  pub shows : ShowsPlan new plan u wires

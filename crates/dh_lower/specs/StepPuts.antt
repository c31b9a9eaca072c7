-- The writes of a step with their ports, in the two orders in which they come: as the operations of a plan stand, and
-- as the ports of a net do.
use Rattle.std.specs.Prelude.{ℕ, suc, if◌then◌else◌, List, [], ◌∷◌, ◌++◌, slice_index, Option, Some, None}
use Rattle.dh_tree.specs.Elements.{Spot}
use Rattle.dh_tree.specs.declared.tables.MemEntry.{MemEntry}
use Rattle.dh_value.specs.declared.words.Word.{Word}
use Rattle.dh_net.specs.Clock.{served, position_of_row}
use Rattle.dh_net.specs.declared.nets.Driver.{Driver}
use Rattle.dh_net.specs.declared.ports.Port.{Port}
use Rattle.dh_plan.specs.declared.operations.Operation.{Operation}
use Rattle.dh_plan.specs.declared.operations.OperationForm.{OperationForm}
use Rattle.dh_plan.specs.declared.operations.OperationForm.TheVariants.{Constant, Old, Compute, Convert, Select, Check, Probe, Read, Write, Set}
use Rattle.dh_plan.specs.declared.operations.Reach.{Reach}
use Rattle.dh_plan.specs.Blocks.{StepStart, is_on, word_at, spot_of_reach}
use Rattle.dh_plan.specs.BoundPorts.{Uses}
use Rattle.dh_plan.specs.PlainPlans.{PlainPlan, first_in, operations_in}
use Rattle.dh_plan.specs.PlanRuns.{block_values}
use Rattle.dh_lower.specs.KeyedPuts.{KeyedPut}
use Rattle.dh_lower.specs.ShownWords.{port_bound}

abbrev pub keyed : (port : ℕ) → Spot → (bits : ℕ) → KeyedPut
keyed port spot bits = record { port = port; put = record { spot = spot; bits = bits } }

-- As operations stand.

abbrev pub spot_puts : PlainPlan → Uses → (block i : ℕ) → Reach → (bits : ℕ) → Option Spot → List KeyedPut
spot_puts plan u block i r bits None = []
spot_puts plan u block i r bits (Some spot) = keyed (port_bound plan u block i spot.bank r) spot bits ∷ []

abbrev pub form_puts : PlainPlan → Uses → StepStart → (block i : ℕ) → List Word → OperationForm → List KeyedPut
form_puts plan u s block i ws (Constant word) = []
form_puts plan u s block i ws (Old register) = []
form_puts plan u s block i ws (Compute op left right) = []
form_puts plan u s block i ws (Convert inner to) = []
form_puts plan u s block i ws (Select test a b) = []
form_puts plan u s block i ws (Check ok fault) = []
form_puts plan u s block i ws (Probe r fault) = []
form_puts plan u s block i ws (Read r) = []
form_puts plan u s block i ws (Write r value) = spot_puts plan u block i r (word_at (first_in plan block) ws value).bits (spot_of_reach s (first_in plan block) ws r)
form_puts plan u s block i ws (Set register value) = []

abbrev pub operation_puts : PlainPlan → Uses → StepStart → (block i : ℕ) → List Word → Operation → List KeyedPut
operation_puts plan u s block i ws o = if is_on (first_in plan block) ws o.guard then form_puts plan u s block i ws o.form else []

-- of operations of a block, of which the first has this place
abbrev pub operations_put : PlainPlan → Uses → StepStart → (block i : ℕ) → List Word → List Operation → List KeyedPut
operations_put plan u s block i ws [] = []
operations_put plan u s block i ws (o ∷ os) = operation_puts plan u s block i ws o ++ operations_put plan u s block (suc i) ws os

abbrev pub blocks_put : PlainPlan → Uses → StepStart → (blocks : List ℕ) → List KeyedPut
blocks_put plan u s [] = []
blocks_put plan u s (b ∷ bs) = operations_put plan u s b 0 (block_values plan s b) (operations_in plan b) ++ blocks_put plan u s bs

-- As ports stand.

abbrev pub driver_puts : List MemEntry → (wires : List ℕ) → (q : ℕ) → Port → Option Driver → List KeyedPut
driver_puts table wires q p None = []
driver_puts table wires q p (Some d) =
    if d.write
    then keyed q (record { memory = p.memory; bank = p.bank; row = slice_index wires d.row; position = position_of_row table p (slice_index wires d.row) }) (slice_index wires d.data_) ∷ []
    else []

-- of ports from one of this number on
abbrev pub ports_put : List MemEntry → (wires : List ℕ) → (q : ℕ) → List (List Driver) → List Port → List KeyedPut
ports_put table wires q (ds ∷ dss) (p ∷ ps) = driver_puts table wires q p (served wires ds) ++ ports_put table wires (suc q) dss ps
ports_put table wires q _ _ = []

-- What the wires of a net show of the blocks of a plan, at a clock of a step. Wires show values of the plan by the
-- same equations as the plan has them, but that a read shows what its port holds. So at each clock they show the
-- values that are there, and in the last clock all.
-- (That registers and wires of a state machine with a data path show the values of its schedule is common in
-- high-level synthesis; the equations are this project's.)
use Rattle.std.specs.Prelude.{◌≡◌, ℕ, ◌+◌, ◌-◌, ◌<◌, ◌≤◌, ◌==◌, ◌||◌, Bool, true, false, if◌then◌else◌, List, [], ◌∷◌, slice_get, slice_index, Option, Some, None}
use Rattle.dh_value.specs.declared.kinds.Kind.{Kind}
use Rattle.dh_value.specs.declared.words.Word.{Word}
use Rattle.dh_value.specs.Words.{with_bits}
use Rattle.dh_net.specs.BankPorts.{port_number}
use Rattle.dh_plan.specs.declared.operations.Operation.{Operation}
use Rattle.dh_plan.specs.declared.operations.OperationForm.TheVariants.{Read}
use Rattle.dh_plan.specs.declared.operations.Reach.{Reach}
use Rattle.dh_plan.specs.PlainPlans.{PlainPlan, first_in}
use Rattle.dh_plan.specs.Blocks.{StepStart, Look, is_on, first_listed_bank, bank_picked, in_memories, AreValues}
use Rattle.dh_plan.specs.BlockLaws.{LooksBack}
use Rattle.dh_plan.specs.BoundPorts.{Uses, port_used}
use Rattle.dh_plan.specs.LegalSchedules.{needed_clock, NeedsAreMet}
use Rattle.dh_plan.specs.Ordered.{IsOrdered}
use Rattle.dh_plan.specs.PlanKinds.{kinds_of}

-- the words that wires show, each in its kind
abbrev pub words_shown : List Kind → (block_wires : List ℕ) → (wires : List ℕ) → List Word
words_shown [] bs wires = []
words_shown (k ∷ ks) [] wires = []
words_shown (k ∷ ks) (b ∷ bs) wires = with_bits k (slice_index wires b) ∷ words_shown ks bs wires

-- the wires of a plan's values: for each block one for each of its operations
pub record Layout : Type 0 where
  pub block_wires : (block : ℕ) → List ℕ

-- what the wires show of the values of a block
abbrev pub block_shown : PlainPlan → Layout → (block : ℕ) → (wires : List ℕ) → List Word
block_shown plan layout block wires = words_shown (kinds_of plan block) (layout.block_wires block) wires

-- the port of a bank, 0 where an operation uses none
abbrev pub port_or_first : Option ℕ → ℕ
port_or_first None = 0
port_or_first (Some port) = port

-- the number of the port that an operation of a block uses of a bank
abbrev pub port_bound : PlainPlan → Uses → (block i bank : ℕ) → Reach → ℕ
port_bound plan u block i bank r = port_number plan.table r.memory bank (port_or_first (port_used plan u block i bank))

-- A net chooses among the banks that are listed. Where a select shows none of them, as it may in a block that is not
-- done or before its clock, that is the first.
abbrev pub is_bank_listed : (bank : ℕ) → List (ℕ × ℕ) → Bool
is_bank_listed bank [] = false
is_bank_listed bank (b ∷ bs) = (b.0 == bank) || is_bank_listed bank bs

abbrev pub bank_or_first : List (ℕ × ℕ) → (bank : ℕ) → ℕ
bank_or_first banks bank = if is_bank_listed bank banks then bank else first_listed_bank banks

-- A read that lists no bank is in no step done, and uses no port: it shows 0.
abbrev pub if_listed : List (ℕ × ℕ) → (bits : ℕ) → ℕ
if_listed [] bits = 0
if_listed (b ∷ bs) bits = bits

-- in a net a read shows what the port holds that it uses of the bank that it picks
abbrev pub in_ports : PlainPlan → Uses → (held : List ℕ) → (block : ℕ) → Look
in_ports plan u held block number r ws =
    if_listed r.banks
    (slice_index held (port_bound plan u block (number - first_in plan block) (bank_or_first r.banks (bank_picked (first_in plan block) ws r.banks r.select)) r))

-- each read of a block that was made before a clock, and whose guard holds, shows its element
pub record ReadsAreMade (s : StepStart) (look : Look) (first : ℕ) (os : List Operation) (clocks : List ℕ) (vs : List Word) (clock : ℕ) : Type 0 where
  pub each : (i : ℕ) (guard : Option ℕ) (r : Reach) → slice_get os i ≡ Some (record { guard = guard; form = Read r }) → is_on first vs guard ≡ true
      → slice_index clocks i < clock → look (first + i) r vs ≡ in_memories s first (first + i) r vs

-- A block at a clock of its step: `us` are the words that are shown, by a look at ports, and `vs` those that are
-- meant, by memories.
pub record IsAtClock (s : StepStart) (look : Look) (first : ℕ) (os : List Operation) (clocks : List ℕ) (us vs : List Word) (clock : ℕ) : Type 0 where
  pub ordered : IsOrdered first os
  pub back : LooksBack look first
  pub needs : NeedsAreMet first os clocks
  pub shown : AreValues s look first os us
  pub meant : AreValues s (in_memories s first) first os vs
  pub made : ReadsAreMade s look first os clocks vs clock

-- What the ports of a plan do in one clock, as laws.
use Rattle.std.specs.Prelude.{◌≡◌, ℕ, ◌<◌, suc, true, false, List, length, slice_get, slice_index, Some}
use Rattle.dh_tree.specs.declared.tables.MemEntry.{MemEntry}
use Rattle.dh_value.specs.declared.words.Word.{Word}
use Rattle.dh_net.specs.BankPorts.{ports_of}
use Rattle.dh_net.specs.Clock.{has_clashes, has_strays, served, held_after, memories_after}
use Rattle.dh_net.specs.declared.nets.Driver.{Driver}
use Rattle.dh_net.specs.declared.ports.Port.{Port}
use Rattle.dh_plan.specs.Blocks.{all_put}
use Rattle.dh_plan.specs.BoundPorts.{Uses}
use Rattle.dh_plan.specs.LegalSchedules.{Timing, clocks_in}
use Rattle.dh_plan.specs.PlainPlans.{PlainPlan, first_in, operations_in}
use Rattle.dh_plan.specs.PlanRuns.{start_at, block_values}
use Rattle.dh_plan.specs.SoundPlans.{IsOneOf}
use Rattle.dh_lower.specs.KeyedPuts.{PortsRise, puts_in}
use Rattle.dh_lower.specs.PortUsers.{User, Moment, DriveFor}
use Rattle.dh_lower.specs.ShownWords.{in_ports, ReadsAreMade}
use Rattle.dh_lower.specs.StepFacts.{HasPortUsers, StepIsKept, IsMoment}
use Rattle.dh_lower.specs.StepPuts.{blocks_put, ports_put}

-- the drivers of each port say what its users ask
pub record PortsSay (plan : PlainPlan) (t : Timing) (users : (port : ℕ) → List User) (words : (block : ℕ) → List Word) (m : Moment) (wires : List ℕ) (dss : List (List Driver)) : Type 0 where
  pub many : length dss ≡ length (ports_of plan.table)
  pub drives : (q : ℕ) (ds : List Driver) (p : Port) → slice_get dss q ≡ Some ds → slice_get (ports_of plan.table) q ≡ Some p → DriveFor plan t words m p wires ds (users q)

-- no port clashes or strays, and reads whose clock has come are made, those of this clock too
pub record PortsKeepReads (plan : PlainPlan) (t : Timing) (u : Uses) (registers : List ℕ) (memories : List (List ℕ)) (held : List ℕ) (m : Moment) (wires : List ℕ) (dss : List (List Driver)) : Type 0 where
  pub no_clash : has_clashes wires dss ≡ false
  pub no_stray : has_strays wires dss (ports_of plan.table) ≡ false
  pub reads : length held ≡ length dss → (block : ℕ) → IsOneOf block m.active
      → ReadsAreMade (start_at plan registers memories) (in_ports plan u (held_after plan.table wires dss (ports_of plan.table) memories held) block) (first_in plan block)
      (operations_in plan block) (clocks_in plan t block) (block_values plan (start_at plan registers memories) block) (suc m.clock)

abbrev pub ClocksKeepReads : PlainPlan → Timing → Uses → (users : (port : ℕ) → List User) → Type 0
ClocksKeepReads plan t u users =
    (registers : List ℕ) (memories : List (List ℕ)) (held : List ℕ) (words : (block : ℕ) → List Word) (m : Moment) (wires : List ℕ) (dss : List (List Driver))
    → HasPortUsers plan u users → IsMoment plan t u registers memories held words m → PortsSay plan t users words m wires dss
    → PortsKeepReads plan t u registers memories held m wires dss

-- of one element the writes of a step come from rising ports, in the order of its operations
abbrev pub StepPortsRise : PlainPlan → Uses → (users : (port : ℕ) → List User) → Type 0
StepPortsRise plan u users =
    (registers : List ℕ) (memories : List (List ℕ)) (blocks : List ℕ) → HasPortUsers plan u users → StepIsKept plan registers memories blocks
    → PortsRise (blocks_put plan u (start_at plan registers memories) blocks)

-- and in the order of ports; where each is of a row of its bank they are what the clock writes
pub record ClockWrites (table : List MemEntry) (wires : List ℕ) (dss : List (List Driver)) (ps : List Port) : Type 0 where
  pub rise : PortsRise (ports_put table wires 0 dss ps)
  pub are : (memories : List (List ℕ))
      → ((q : ℕ) (ds : List Driver) (p : Port) (d : Driver) → slice_get dss q ≡ Some ds → slice_get ps q ≡ Some p → served wires ds ≡ Some d → d.write ≡ true → slice_index wires d.row < p.rows)
      → memories_after table wires dss ps memories ≡ all_put (puts_in (ports_put table wires 0 dss ps)) memories

-- In a clock of a net with the cells of a circuit the wires of a plan show the values of its blocks: what a net of the
-- plan shows of words at a clock.
use Rattle.std.proofs.Common.{◌≡◌, ℕ, ◌<◌, ◌^◌, Some, List, drop, map, refl, sym, subst, ◌∙◌}
use Rattle.std.specs.Prelude.{[], Option, None, slice_get, slice_index, option_map}
use Rattle.std.proofs.lemmas.Option.{slice_get-map}
use Rattle.dh_net.specs.declared.nets.Cell.{Cell}
use Rattle.dh_net.specs.declared.nets.Net.{Net}
use Rattle.dh_net.specs.declared.nets.Register.{Register}
use Rattle.dh_net.specs.Clock.{State, IsValuation}
use Rattle.dh_net.specs.Laws.{FitsNet}
use Rattle.dh_tree.specs.declared.tables.MemEntry.{MemEntry}
use Rattle.dh_plan.specs.Blocks.{AreValues}
use Rattle.dh_plan.specs.BoundPorts.{Uses}
use Rattle.dh_plan.specs.PlainPlans.{PlainPlan, first_in, operations_in}
use Rattle.dh_plan.specs.PlanRuns.{start_at}
use Rattle.dh_lower.specs.ShownWords.{block_shown, in_ports}
use Rattle.dh_cells.specs.PlainCircuits.{PlainCircuit}
use Rattle.dh_cells.specs.Settled.{FitWidths, IsSettled, ValuationSettles, signals}
use Rattle.dh_datapath.specs.declared.blocks.PlanWires.{PlanWires}
use Rattle.dh_datapath.specs.BlockWires.{layout_of, ShowsPlan}

-- a width that is listed is that of a register
register_there : (rs : List Register) (i width : ℕ) → option_map (λ (r : Register). r.width) (slice_get rs i) ≡ Some width → (r : Register) × ((slice_get rs i ≡ Some r) × (r.width ≡ width))
register_there rs i width = by (slice_get rs i) refl
  where
    by : (o : Option Register) → slice_get rs i ≡ o → option_map (λ (r : Register). r.width) o ≡ Some width → (r : Register) × ((slice_get rs i ≡ Some r) × (r.width ≡ width))
    by None is e = absurd (cc)
    by (Some r) is e = (r, (is, cc))

pub fit_widths : (net : Net) (s : State) (d : PlainCircuit) → d.table ≡ net.table → d.widths ≡ map (λ r. r.width) net.registers → FitsNet net s → FitWidths d.table d.widths s.registers s.held
fit_widths net s d table widths fits =
    subst (λ (t : List MemEntry). FitWidths t d.widths s.registers s.held) (sym table)
    (subst (λ (ws : List ℕ). FitWidths net.table ws s.registers s.held) (sym widths)
    (record {
      registers_fit = λ i width at.
          let found = register_there net.registers i width (sym (slice_get-map (λ (r : Register). r.width) net.registers i) ∙ at) in
          subst (λ (w : ℕ). slice_index s.registers i < 2 ^ w) found.1.1 (fits.registers i found.0 found.1.0);
      held_fit = λ i p at. fits.held i p at;
    }))

-- a valuation of the net settles the circuit
pub settled_in_net : (net : Net) (s : State) (wires : List ℕ) (d : PlainCircuit) → d.table ≡ net.table → d.widths ≡ map (λ r. r.width) net.registers → d.cells ≡ net.cells → ValuationSettles d → FitsNet net s
    → IsValuation net.table net.cells s.registers s.held wires → IsSettled d (signals s.registers s.held wires)
settled_in_net net s wires d table widths cells settles fits valuation =
    settles s.registers s.held wires (fit_widths net s d table widths fits)
    (subst (λ (t : List MemEntry). IsValuation t d.cells s.registers s.held wires) (sym table) (subst (λ (c : List Cell). IsValuation net.table c s.registers s.held wires) (sym cells) valuation))

pub words_in_net : (d : PlainCircuit) (plan : PlainPlan) (u : Uses) (wires : PlanWires) → ShowsPlan d plan u wires → (registers held shown plan_registers : List ℕ) → IsSettled d (signals registers held shown)
    → drop wires.registers.offset registers ≡ plan_registers → (block : ℕ)
    → AreValues (start_at plan plan_registers []) (in_ports plan u held block) (first_in plan block) (operations_in plan block) (block_shown plan (layout_of plan wires) block shown)
words_in_net d plan u wires h registers held shown plan_registers settled are block =
    subst (λ (rs : List ℕ). AreValues (start_at plan rs []) (in_ports plan u held block) (first_in plan block) (operations_in plan block) (block_shown plan (layout_of plan wires) block shown)) are
    ((h.blocks block).words (signals registers held shown) settled)

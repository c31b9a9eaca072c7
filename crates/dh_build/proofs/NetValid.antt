-- A net that was built is valid.
use Rattle.std.proofs.Common.{◌≡◌, ℕ, zero, suc, ◌^◌, ◌<◌, ◌≤◌, true, inl, inr, Some, List, [], ◌∷◌, ◌++◌, length, refl, sym, ap, subst, ◌∙◌, arith}
use Rattle.std.specs.Prelude.{slice_get, slice_index}
use Rattle.std.specs.List.{AllByRecursion}
use Rattle.std.proofs.lemmas.List.{get_or-map, length-map}
use Rattle.std.proofs.lemmas.Nat.{pow_pos}
use Rattle.std.proofs.lemmas.Option.{slice_get_within}
use Rattle.dh_value.specs.declared.kinds.Kind.{Kind}
use Rattle.dh_value.specs.declared.kinds.Kind.TheVariants as kind
use Rattle.dh_value.specs.Words.{IsKind, width_of}
use Rattle.dh_tree.specs.declared.tables.MemEntry.{MemEntry}
use Rattle.dh_tree.specs.Shapes.{IsProgramTable}
use Rattle.dh_meaning.specs.Effects.{kind_in}
use Rattle.dh_net.specs.BankPorts.{ports_of}
use Rattle.dh_net.specs.Valid.{HasWidth, IsCell, IsDriver, IsRegister, IsValid}
use Rattle.dh_net.specs.declared.nets.Cell.{Cell}
use Rattle.dh_net.specs.declared.nets.Driver.{Driver}
use Rattle.dh_net.specs.declared.nets.Net.{Net}
use Rattle.dh_net.specs.declared.nets.Register.{Register}
use Rattle.dh_net.specs.declared.ports.Port.{Port}
use Rattle.dh_plan.specs.declared.graphs.Decision.{Decision}
use Rattle.dh_plan.specs.declared.graphs.State.{State}
use Rattle.dh_plan.specs.declared.operations.OperationForm.{OperationForm}
use Rattle.dh_plan.specs.declared.operations.OperationForm.TheVariants.{Write}
use Rattle.dh_plan.specs.declared.operations.Reach.{Reach}
use Rattle.dh_plan.specs.Blocks.{kind_at}
use Rattle.dh_plan.specs.BoundPorts.{Uses}
use Rattle.dh_plan.specs.Ordered.{one_or_none, form_takes}
use Rattle.dh_plan.specs.PlainPlans.{PlainPlan, first_in}
use Rattle.dh_plan.specs.PlanKinds.{kinds_of, FormSuits}
use Rattle.dh_plan.specs.PlanRuns.{first_registers}
use Rattle.dh_plan.specs.SoundPlans.{use_in}
use Rattle.dh_plan.specs.Ways.{resolve}
use Rattle.dh_plan.proofs.TurnsKept.{first_stands}
use Rattle.dh_cells.specs.PlainCircuits.{PlainCircuit}
use Rattle.dh_cells.specs.Settled.{Grows, IsWire}
use Rattle.dh_cells.proofs.CellsAppended.{grows_then, wire_stays}
use Rattle.dh_lower.specs.PortUsers.{User, HasUser}
use Rattle.dh_lower.proofs.FitsKept.{at_map}
use Rattle.dh_datapath.specs.declared.blocks.PlanWires.{PlanWires}
use Rattle.dh_datapath.specs.BlockWires.{ShowsPlan}
use Rattle.dh_datapath.specs.ShownNumbers.{IsShownNumber, kind_at_number, wire_at_number}
use Rattle.dh_datapath.proofs.PlanWiresKept.{plan_later, taken_are_shown}
use Rattle.dh_control.specs.declared.driving.Times.{Times}
use Rattle.dh_control.specs.declared.gathering.Keyed.{Keyed}
use Rattle.dh_control.specs.KeyedItems.{items_picked}
use Rattle.dh_control.specs.PlanUsers.{blocks_users, users_of}
use Rattle.dh_control.specs.WayMoves.{spot_number, way_of_decision}
use Rattle.dh_control.specs.WiredNets.{IsStraight}
use Rattle.dh_control.proofs.ListFacts.{all_back, at_index}
use Rattle.dh_build.specs.declared.building.Parts.{Parts}
use Rattle.dh_build.specs.declared.building.Sizes.{Sizes}
use Rattle.dh_build.specs.BuiltNets.{IsBuilt, nexts_of, values_from}
use Rattle.dh_build.specs.BuiltParts.{AreSizes, CanMakeNet, net_widths}
use Rattle.dh_build.specs.DrivenUsers.{DrivesUser, plan_times}
use Rattle.dh_build.proofs.PortsDriven.{DriveEach, picked_both, user_of_port}
use Rattle.dh_build.proofs.WaysFit.{way_fits, way_within}

-- what a register of a net needs
record IsSuited (d : PlainCircuit) (width initial next : ℕ) : Type 0 where
  pub least : 1 ≤ width
  pub greatest : width ≤ 64
  pub fits : initial < 2 ^ width
  pub wire : IsWire d next width

-- one of several drivers is that of a user
module _ (d : PlainCircuit) (plan : PlainPlan) (kinds : List Kind) (wires : List ℕ) (times : ℕ → ℕ → Times) where
  abbrev IsOfUser : List User → Driver → Type 0
  IsOfUser users e = (user : User) × (HasUser user users × DrivesUser d plan kinds wires times user e)

  of_user : (users : List User) (ds : List Driver) → DriveEach d plan kinds wires times users ds → (k : ℕ) (e : Driver) → slice_get ds k ≡ Some e → IsOfUser users e
  of_user [] [] h k e at = absurd (cc)
  of_user [] (x ∷ ds) h k e at = absurd h
  of_user (v ∷ vs) [] h k e at = absurd h
  of_user (v ∷ vs) (x ∷ ds) h zero e at = (let same : x ≡ e = cc in (v, (inl refl, subst (λ (y : Driver). DrivesUser d plan kinds wires times v y) same h.0)))
  of_user (v ∷ vs) (x ∷ ds) h (suc k) e at = (let rest = of_user vs ds h.1 k e at in (rest.0, (inr rest.1.0, rest.1.1)))

module _ (plan : PlainPlan) (u : Uses) (states : List State) (first : Decision) (s : Sizes) (net : Net) (can : CanMakeNet plan u states) (sizes : AreSizes plan (length states) s) (straight : IsStraight (length states) (way_of_decision first))
    (built : IsBuilt plan u states first s net) where
  abbrev p : Parts
  p = built.made_of

  abbrev d : PlainCircuit
  d = built.d

  abbrev w : PlanWires
  w = built.made_of.shown.wires

  behind_second : Grows built.parts.second built.d
  behind_second = built.parts.drivers_added.grows

  behind_first : Grows built.parts.first built.d
  behind_first = grows_then built.parts.first built.parts.second built.d built.parts.control_made.grows behind_second

  same_table : net.table ≡ plan.table
  same_table = built.table_is ∙ (built.parts.grows.table ∙ built.over.table)

  in_net : (wire width : ℕ) → IsWire built.d wire width → HasWidth net.cells wire width
  in_net wire width h = subst (λ (cs : List Cell). HasWidth cs wire width) (sym built.cells_are) h.wide

  -- registers

  own_wire : (wire width other : ℕ) → width ≡ other → IsWire built.parts.second wire width → IsWire built.d wire other
  own_wire wire width other same h = subst (λ (n : ℕ). IsWire built.d wire n) same (wire_stays built.parts.second built.d wire width behind_second h)

  first_fit : (j : ℕ) → slice_index (resolve plan.registers (way_of_decision first) (first_registers plan)).registers j < 2 ^ width_of (kind_at plan.registers j)
  first_fit j = (way_fits plan.registers (way_of_decision first) (first_registers plan) (first_stands plan).0).small j

  state_fits : spot_number (length states) (resolve plan.registers (way_of_decision first) (first_registers plan)).spot < 2 ^ s.state_width
  state_fits =
      let most = way_within (length states) plan.registers (way_of_decision first) (first_registers plan) straight in
      let few = sizes.states_fit.1 in
      omega (arith, most, few)

  suited : (i : ℕ) → i < length (net_widths s.clock_width s.state_width s.widths)
      → IsSuited built.d (slice_index (net_widths s.clock_width s.state_width s.widths) i) (slice_index (values_from plan (length states) (way_of_decision first)) i) (slice_index (nexts_of built.made_of.control) i)
  suited zero less = record {
    least = sizes.clock_wide.0;
    greatest = sizes.clock_wide.1;
    fits = pow_pos s.clock_width;
    wire = own_wire built.made_of.control.nexts.clock built.made_of.shown.own.clock_width s.clock_width built.parts.shown_added.clock_width_is built.parts.control_made.clock_wire;
  }
  suited (suc zero) less = record { least = omega arith; greatest = omega arith; fits = omega arith; wire = own_wire built.made_of.control.outcome.verdict.commit 1 1 refl built.parts.control_made.commit_wire }
  suited (suc (suc zero)) less = record { least = omega arith; greatest = omega arith; fits = pow_pos 32; wire = own_wire built.made_of.control.nexts.fault 32 32 refl built.parts.control_made.fault_wire }
  suited (suc (suc (suc zero))) less = record {
    least = sizes.states_fit.0.0;
    greatest = sizes.states_fit.0.1;
    fits = state_fits;
    wire =
        own_wire (slice_index built.made_of.control.results.state 0) built.made_of.shown.own.state_width s.state_width built.parts.shown_added.state_width_is (built.parts.control_made.state_wires.each 0 (omega arith));
  }
  suited (suc (suc (suc (suc j)))) less =
      let inside : j < length s.widths = omega (arith, less) in
      let long = ap (λ (l : List ℕ). length l) sizes.widths_are ∙ length-map plan.registers width_of in
      let there : j < length plan.registers = omega (arith, inside, long) in
      let is : slice_index s.widths j ≡ width_of (kind_at plan.registers j) = ap (λ (l : List ℕ). slice_index l j) sizes.widths_are ∙ get_or-map width_of plan.registers j kind.Bool 0 there in
      let kind_here : IsKind (kind_at plan.registers j) = at_index IsKind plan.registers j kind.Bool can.kinds there in
      record {
        least = subst (λ (n : ℕ). 1 ≤ n) (sym is) kind_here.0;
        greatest = subst (λ (n : ℕ). n ≤ 64) (sym is) kind_here.1;
        fits = subst (λ (n : ℕ). slice_index (resolve plan.registers (way_of_decision first) (first_registers plan)).registers j < 2 ^ n) (sym is) (first_fit j);
        wire = wire_stays built.parts.second built.d (slice_index built.made_of.control.results.news j) (slice_index s.widths j) behind_second (built.parts.control_made.news_wires.each j inside);
      }

  good_register : (i : ℕ) (r : Register) → slice_get net.registers i ≡ Some r → IsRegister net.cells r
  good_register i r at =
      let within = slice_get_within net.registers i r at in
      let mapped = length-map net.registers (λ (x : Register). x.width) in
      let long = ap (λ (l : List ℕ). length l) built.registers.widths_are in
      let k = suited i (omega (arith, within, mapped, long)) in
      let width : slice_index (net_widths s.clock_width s.state_width s.widths) i ≡ r.width = ap (λ (l : List ℕ). slice_index l i) (sym built.registers.widths_are) ∙ at_map (λ (x : Register). x.width) net.registers i r at in
      let initial : slice_index (values_from plan (length states) (way_of_decision first)) i ≡ r.initial = ap (λ (l : List ℕ). slice_index l i) (sym built.registers.initials_are) ∙ at_map (λ (x : Register). x.initial) net.registers i r at in
      let next : slice_index (nexts_of built.made_of.control) i ≡ r.next = ap (λ (l : List ℕ). slice_index l i) (sym built.registers.nexts_are) ∙ at_map (λ (x : Register). x.next) net.registers i r at in
      record {
        least = subst (λ (n : ℕ). 1 ≤ n) width k.least;
        greatest = subst (λ (n : ℕ). n ≤ 64) width k.greatest;
        initial = subst (λ (n : ℕ). n < 2 ^ r.width) initial (subst (λ (n : ℕ). slice_index (values_from plan (length states) (way_of_decision first)) i < 2 ^ n) width k.fits);
        next = subst (λ (n : ℕ). HasWidth net.cells n r.width) next (subst (λ (n : ℕ). HasWidth net.cells (slice_index (nexts_of built.made_of.control) i) n) width (in_net _ _ k.wire));
      }

  -- drivers

  abbrev times : ℕ → ℕ → Times
  times = plan_times plan built.made_of.control.activity.active built.made_of.control.outcome.commits built.parts.drivers_added.at s.clocks

  shows : ShowsPlan built.d plan u w
  shows = plan_later built.parts.first built.d plan u w behind_first built.parts.shown_added.plan_shown

  all_drivers : built.made_of.drivers ≡ built.parts.drivers_added.driven.added
  all_drivers = built.parts.drivers_added.driven.behind ∙ ap (λ (l : List (Keyed Driver)). l ++ built.parts.drivers_added.driven.added) built.parts.drivers_added.none_before

  of_port : (q : ℕ) (ds : List Driver) → q < length (ports_of plan.table) → slice_get net.drivers q ≡ Some ds → (k : ℕ) (e : Driver) → slice_get ds k ≡ Some e
      → IsOfUser built.d plan w.kinds w.values times (users_of plan u q) e
  of_port q ds less at k e there =
      let is : ds ≡ items_picked q built.parts.drivers_added.driven.added =
      (let both : Some ds ≡ Some (items_picked q built.parts.drivers_added.driven.added) = sym at ∙ (built.drivers.each q less ∙ ap (λ (l : List (Keyed Driver)). Some (items_picked q l)) all_drivers) in cc) in
      of_user built.d plan w.kinds w.values times (users_of plan u q) (items_picked q built.parts.drivers_added.driven.added)
      (picked_both built.d plan w.kinds w.values times q (blocks_users plan u 0 plan.blocks) built.parts.drivers_added.driven.added built.parts.drivers_added.driven.drive) k e
      (subst (λ (l : List Driver). slice_get l k ≡ Some e) is there)

  data_wire : (p : Port) (user : User) (e : Driver) (h : DrivesUser built.d plan w.kinds w.values times user e) → p.width ≡ width_of (kind_in plan.table h.reach.memory) → e.write ≡ true → IsWire built.d e.data_ p.width
  data_wire p user e h width on =
      let form = h.drive.writes on in
      let r = form.0 in
      let value = form.1.0 in
      let reach_is : r ≡ h.reach = (let both : Some r ≡ Some h.reach = sym (ap use_in form.1.1) ∙ h.uses in cc) in
      let suits : FormSuits plan (first_in plan user.block) (kinds_of plan user.block) (Write r value) =
      subst (λ (f : OperationForm). FormSuits plan (first_in plan user.block) (kinds_of plan user.block) f) form.1.1 ((can.formed.blocks user.block).suits user.place h.operation h.there).form in
      let taken : AllByRecursion (IsShownNumber built.d plan w user.block) (form_takes (Write r value)) =
      subst (λ (f : OperationForm). AllByRecursion (IsShownNumber built.d plan w user.block) (form_takes f)) form.1.1
      (all_back (IsShownNumber built.d plan w user.block) (one_or_none h.operation.guard) (form_takes h.operation.form) (taken_are_shown built.d plan u w shows can.formed user.block user.place h.operation h.there)) in
      let is : width_of (kind_at_number w value) ≡ p.width =
      ap width_of (taken.0.kind_is ∙ suits.1.1) ∙ (ap (λ (y : Reach). width_of (kind_in plan.table y.memory)) reach_is ∙ sym width) in
      subst (λ (n : ℕ). IsWire built.d n p.width) (sym (h.drive.data_is r value form.1.1)) (subst (λ (n : ℕ). IsWire built.d (wire_at_number w value) n) is taken.0.wire)

  good_driver : (q : ℕ) (p : Port) → slice_get (ports_of plan.table) q ≡ Some p → (e : Driver) → IsOfUser built.d plan w.kinds w.values times (users_of plan u q) e → IsDriver net.cells p e
  good_driver q p port_at e h =
      let own = user_of_port plan u can.formed can.ports q p port_at h.0 h.1.1.operation h.1.1.reach h.1.1.there h.1.1.uses h.1.0 in
      record {
        enable = in_net e.enable 1 h.1.1.drive.enable_wire;
        row = subst (λ (n : ℕ). HasWidth net.cells e.row n) own.row_width (in_net e.row _ h.1.1.drive.row_wire);
        out = λ on. in_net e.data_ p.width (data_wire p h.0 e h.1.1 own.width on);
      }

  pub net_valid : IsValid net
  net_valid = record {
    table = subst (λ (t : List MemEntry). IsProgramTable t) (sym same_table) can.formed.table;
    registers = good_register;
    cells = λ i c at.
        subst (λ (t : List MemEntry). IsCell t net.registers net.cells i c) (sym built.table_is)
        (subst (λ (cs : List Cell). IsCell built.d.table net.registers cs i c) (sym built.cells_are)
        (built.suit net.registers (built.registers.widths_are ∙ sym (built.parts.grows.widths ∙ built.over.widths)) i c (subst (λ (cs : List Cell). slice_get cs i ≡ Some c) built.cells_are at)));
    ports = built.drivers.long ∙ ap (λ (t : List MemEntry). length (ports_of t)) (sym same_table);
    drivers = λ q ds p list_at port_at k e at.
        let here : slice_get (ports_of plan.table) q ≡ Some p = subst (λ (t : List MemEntry). slice_get (ports_of t) q ≡ Some p) same_table port_at in
        good_driver q p here e (of_port q ds (slice_get_within (ports_of plan.table) q p here) list_at k e at);
    tick = subst (λ (n : ℕ). HasWidth net.cells n 1) (sym built.tick_is) (in_net _ 1 (wire_stays built.parts.first built.d _ 1 behind_first built.parts.shown_added.own.tick.there));
    done = subst (λ (n : ℕ). HasWidth net.cells n 1) (sym built.done_is) (in_net _ 1 (wire_stays built.parts.second built.d _ 1 behind_second built.parts.control_made.done_wire));
    fault = subst (λ (n : ℕ). HasWidth net.cells n 32) (sym built.fault_is) (in_net _ 32 (wire_stays built.parts.first built.d _ 32 behind_first built.parts.shown_added.own.fault.there));
  }

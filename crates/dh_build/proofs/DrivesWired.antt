-- The drivers of a net at each moment that its control shows: those of all users of a plan's ports.
use Rattle.std.proofs.Common.{◌≡◌, ℕ, ◌+◌, ◌<◌, ◌==◌, Bool, true, false, Some, inl, inr, List, [], ◌++◌, length, drop, get_or, refl, sym, ap, subst, ◌∙◌, arith}
use Rattle.std.specs.Prelude.{slice_get, slice_index}
use Rattle.std.specs.List.{AllByRecursion}
use Rattle.std.proofs.lemmas.Bool.Decides.{nat_tests}
use Rattle.std.proofs.lemmas.List.{get_or-take, get_or-drop}
use Rattle.std.proofs.lemmas.Option.{slice_get_cases, slice_get_within}
use Rattle.dh_net.specs.BankPorts.{ports_of}
use Rattle.dh_net.specs.declared.nets.Driver.{Driver}
use Rattle.dh_net.specs.declared.ports.Port.{Port}
use Rattle.dh_plan.specs.BoundPorts.{Uses, ArePorts}
use Rattle.dh_plan.specs.LegalSchedules.{Timing, clocks_in}
use Rattle.dh_plan.specs.PlainPlans.{PlainPlan, first_in, operations_in, operation_count}
use Rattle.dh_plan.specs.SoundPlans.{IsFormed, IsAddressed}
use Rattle.dh_cells.specs.PlainCircuits.{PlainCircuit}
use Rattle.dh_cells.specs.Settled.{Signals, IsSettled, Shows, shown}
use Rattle.dh_cells.specs.ShownValues.{bit, match_shown}
use Rattle.dh_lower.specs.PortUsers.{User, HasUser, Moment, DriveFor}
use Rattle.dh_lower.specs.ShownWords.{block_shown}
use Rattle.dh_datapath.specs.declared.blocks.PlanWires.{PlanWires}
use Rattle.dh_datapath.specs.BlockWires.{part_in, layout_of, ShowsPlan}
use Rattle.dh_datapath.proofs.PartsByBlock.{operations_inside, no_operations}
use Rattle.dh_control.specs.declared.driving.Times.{Times}
use Rattle.dh_control.specs.declared.gathering.Keyed.{Keyed}
use Rattle.dh_control.specs.KeyedItems.{items_picked}
use Rattle.dh_control.specs.PlanUsers.{users_of}
use Rattle.dh_control.specs.ThreadHolds.{ControlWires}
use Rattle.dh_control.specs.WiredNets.{MomentShown}
use Rattle.dh_control.proofs.ListFacts.{at_index}
use Rattle.dh_control.proofs.UsersListed.{own_listed}
use Rattle.dh_build.specs.DrivenUsers.{AreListed, UsesDriven, plan_times}
use Rattle.dh_build.proofs.PortsDriven.{TimesShown, port_driven}

bit_one : (t : Bool) → (bit t == 1) ≡ t
bit_one true = refl
bit_one false = refl

swapped : (a b : ℕ) → (a == b) ≡ (b == a)
swapped a b = grind (arith, nat_tests)

module _ (d : PlainCircuit) (plan : PlainPlan) (u : Uses) (t : Timing) (w : PlanWires) (c : ControlWires) (at : List ℕ) (formed : IsFormed plan) (addressed : IsAddressed plan) (ports : ArePorts plan u) (shows : ShowsPlan d plan u w)
    (all_clocks : length t.clocks ≡ operation_count plan) (early : AllByRecursion (λ n. n < length at) t.clocks)
    (tells : (i : ℕ) → i < length at → Shows d (slice_index at i) 1 (match_shown c.clock i)) where
  abbrev times : ℕ → ℕ → Times
  times = plan_times plan c.active c.commits at t.clocks

  own_clock : (block place : ℕ) → place < length (operations_in plan block) → slice_index (part_in plan t.clocks block) place < length at
  own_clock block place inside =
      let is : get_or (part_in plan t.clocks block) place 0 ≡ get_or t.clocks (first_in plan block + place) 0 =
      get_or-take (length (operations_in plan block)) (drop (first_in plan block) t.clocks) place 0 inside ∙ get_or-drop (first_in plan block) t.clocks place 0 in
      let most = operations_inside plan.blocks block place inside in
      subst (λ (n : ℕ). n < length at) (sym is) (at_index (λ (n : ℕ). n < length at) t.clocks (first_in plan block + place) 0 early (omega (arith, most, all_clocks)))

  module _ (x : Signals) (settled : IsSettled d x) (m : Moment) (moment : MomentShown (length plan.blocks) c x m) (q : ℕ) where
    block_there : (block place : ℕ) → place < length (operations_in plan block) → block < length plan.blocks
    block_there block place inside =
        elim (slice_get_cases plan.blocks block).1 [
          | inl found ↦ found.1
          | inr past ↦
              let none = ap (λ (l : List _). length l) (no_operations plan block past.0) in
              absurd (omega (arith, none, inside))
        ]

    times_shown : (user : User) → HasUser user (users_of plan u q) → TimesShown plan t times x m user
    times_shown user among =
        let own = own_listed plan u q user among in
        let inside = slice_get_within (operations_in plan user.block) user.place own.1.0.operation own.1.0.there in
        let there = block_there user.block user.place inside in
        let clock = slice_index (clocks_in plan t user.block) user.place in
        record {
          active_is = moment.blocks user.block there;
          own_is =
              ap (λ (n : ℕ). n == 1) ((tells clock (own_clock user.block user.place inside)).is x settled)
              ∙ (bit_one (shown x c.clock == clock) ∙ (ap (λ (n : ℕ). n == clock) moment.clock_is ∙ swapped m.clock clock));
          commit_is = moment.commits_are user.block there;
        }

    pub drives_wired : (old e : PlainCircuit) (before entries : List (Keyed Driver)) (lists : List (List Driver)) → before ≡ [] → UsesDriven old d plan u w.kinds w.values times before entries
        → AreListed (length (ports_of plan.table)) entries lists → (ds : List Driver) (p : Port) → slice_get lists q ≡ Some ds → slice_get (ports_of plan.table) q ≡ Some p
        → DriveFor plan t (λ block. block_shown plan (layout_of plan w) block x.wires) m p x.wires ds (users_of plan u q)
    drives_wired old e before entries lists none driven listed ds p list_at port_at =
        let all : entries ≡ driven.added = driven.behind ∙ ap (λ (l : List (Keyed Driver)). l ++ driven.added) none in
        let within = slice_get_within (ports_of plan.table) q p port_at in
        let is : ds ≡ items_picked q driven.added =
        (let both : Some ds ≡ Some (items_picked q driven.added) = sym list_at ∙ (listed.each q within ∙ ap (λ (l : List (Keyed Driver)). Some (items_picked q l)) all) in cc) in
        subst (λ (l : List Driver). DriveFor plan t (λ block. block_shown plan (layout_of plan w) block x.wires) m p x.wires l (users_of plan u q)) (sym is)
        (port_driven d plan u t w times formed addressed ports shows x settled m q p port_at driven.added driven.drive times_shown)

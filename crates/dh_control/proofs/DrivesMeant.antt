-- A driver that asks by wires asks where the user of its port does, at the moment that wires show.
use Rattle.std.proofs.Common.{◌≡◌, ℕ, zero, suc, ◌<◌, ◌==◌, ◌&&◌, Bool, true, false, Some, None, List, [], ◌∷◌, refl, sym, ap, subst, ◌∙◌, arith}
use Rattle.std.specs.Prelude.{Option, slice_get, slice_index}
use Rattle.dh_value.specs.declared.kinds.Kind.{Kind}
use Rattle.dh_value.specs.declared.words.Word.{Word}
use Rattle.dh_net.specs.declared.nets.Driver.{Driver}
use Rattle.dh_net.specs.declared.ports.Port.{Port}
use Rattle.dh_plan.specs.declared.operations.Operation.{Operation}
use Rattle.dh_plan.specs.declared.operations.OperationForm.{OperationForm}
use Rattle.dh_plan.specs.declared.operations.OperationForm.TheVariants.{Constant, Old, Compute, Convert, Select, Check, Probe, Read, Write, Set}
use Rattle.dh_plan.specs.declared.operations.Reach.{Reach}
use Rattle.dh_plan.specs.Blocks.{is_on, first_listed_bank, bank_picked}
use Rattle.dh_plan.specs.LegalSchedules.{Timing, clocks_in}
use Rattle.dh_plan.specs.PlainPlans.{PlainPlan, first_in, operations_in}
use Rattle.dh_plan.specs.SoundPlans.{use_in}
use Rattle.dh_cells.specs.PlainCircuits.{PlainCircuit}
use Rattle.dh_cells.specs.Settled.{Signals, IsSettled, shown}
use Rattle.dh_cells.specs.ShownValues.{bit, is_one}
use Rattle.dh_lower.specs.PortUsers.{User, Moment, DrivesFor, SaysOperation, is_among, form_asks, operation_asks}
use Rattle.dh_control.specs.declared.driving.Times.{Times}
use Rattle.dh_control.specs.DriverWires.{select_picks}
use Rattle.dh_control.specs.UseWires.{form_time, form_picks, DrivesUse}
use Rattle.dh_control.specs.ValuesShown.{AreShownWords}

-- Truths in another order.

read_order : (among own on picked : Bool) → (((among && own) && on) && picked) ≡ (among && (on && (own && picked)))
read_order true true true picked = refl
read_order true true false picked = refl
read_order true false true picked = refl
read_order true false false picked = refl
read_order false own on picked = refl

write_order : (commits among on picked : Bool) → (((commits && among) && on) && picked) ≡ (among && (on && (commits && picked)))
write_order true true true picked = refl
write_order true true false picked = refl
write_order true false on picked = refl
write_order false true true picked = refl
write_order false true false picked = refl
write_order false false on picked = refl

never : (among on picked : Bool) → ((false && on) && picked) ≡ (among && (on && false))
never true true picked = refl
never true false picked = refl
never false on picked = refl

bit_number : (n : ℕ) (t : Bool) → n < 2 → (n == 1) ≡ t → n ≡ bit t
bit_number zero true less e = absurd (let f : false ≡ true = e in cc)
bit_number zero false less e = refl
bit_number (suc zero) true less e = refl
bit_number (suc zero) false less e = absurd (let f : true ≡ false = e in cc)
bit_number (suc (suc n)) t less e = absurd (omega (arith, less))

-- without a select the first bank is the one that is driven
abbrev pub PicksAlone : (bank : ℕ) → Option Reach → Type 0
PicksAlone bank None = Unit {0}
PicksAlone bank (Some r) = r.select ≡ None → (first_listed_bank r.banks == bank) ≡ true

picks_is : (first : ℕ) (ws : List Word) (banks : List (ℕ × ℕ)) (bank : ℕ) (select : Option ℕ) → (select ≡ None → (first_listed_bank banks == bank) ≡ true)
    → select_picks first ws select bank ≡ (bank_picked first ws banks select == bank)
picks_is first ws banks bank None alone = sym (alone refl)
picks_is first ws banks bank (Some v) alone = refl

module _ (x : Signals) (t : Times) (m : Moment) (first : ℕ) (ws : List Word) (bank own : ℕ) (among : Bool) (active_is : is_one x t.active ≡ among) (own_is : is_one x t.own ≡ (own == m.clock))
    (commit_is : is_one x t.commit ≡ (m.commits && among)) (on : Bool) where
  asks_as : (f : OperationForm) → PicksAlone bank (use_in f)
      → ((form_time x t f && on) && form_picks first ws bank f) ≡ (among && (on && form_asks first ws bank own m f))
  asks_as (Constant word) alone = never among on false
  asks_as (Old register) alone = never among on false
  asks_as (Compute op left right) alone = never among on false
  asks_as (Convert inner to) alone = never among on false
  asks_as (Select test a b) alone = never among on false
  asks_as (Check ok fault) alone = never among on false
  asks_as (Probe r fault) alone = never among on false
  asks_as (Set register value) alone = never among on false
  asks_as (Read r) alone =
      (λ i. ((active_is i && own_is i) && on) && picks_is first ws r.banks bank r.select alone i)
      ∙ read_order among (own == m.clock) on (bank_picked first ws r.banks r.select == bank)
  asks_as (Write r value) alone =
      (λ i. (commit_is i && on) && picks_is first ws r.banks bank r.select alone i)
      ∙ write_order m.commits among on (bank_picked first ws r.banks r.select == bank)

pub drives_meant : (d : PlainCircuit) (plan : PlainPlan) (t : Timing) (words : (block : ℕ) → List Word) (m : Moment) (p : Port) (x : Signals) (kinds : List Kind) (wires : List ℕ) (times : Times) (o : Operation) (driver : Driver) (user : User)
    → slice_get (operations_in plan user.block) user.place ≡ Some o → DrivesUse d kinds wires times o p.row_width user.bank driver → IsSettled d x
    → AreShownWords (first_in plan user.block) (words user.block) kinds wires x (o ∷ []) → PicksAlone user.bank (use_in o.form)
    → is_one x times.active ≡ is_among user.block m.active → is_one x times.own ≡ (slice_index (clocks_in plan t user.block) user.place == m.clock)
    → is_one x times.commit ≡ (m.commits && is_among user.block m.active) → DrivesFor plan t words m p x.wires driver user
drives_meant d plan t words m p x kinds wires times o driver user at drives settled shows alone active_is own_is commit_is =
    let first = first_in plan user.block in
    let ws = words user.block in
    let own = slice_index (clocks_in plan t user.block) user.place in
    record {
      enable =
          bit_number (shown x driver.enable) (is_one x driver.enable) (drives.enable_wire.fits x settled) refl
          ∙ ap bit (drives.enable_is x first ws settled shows
          ∙ (asks_as x times m first ws user.bank own (is_among user.block m.active) active_is own_is commit_is (is_on first ws o.guard) o.form alone
          ∙ sym (ap (λ (w : Option Operation). is_among user.block m.active && operation_asks first ws user.bank own m w) at)));
      says = subst (λ (w : Option Operation). SaysOperation p x.wires first ws driver w) (sym at) (drives.says x first ws p settled shows refl);
    }

-- The net of one store is made of its plan. Its wires are computed from its two registers, and what they show is told
-- by these numbers.
use Rattle.std.proofs.Common.{◌≡◌, ℕ, zero, suc, ◌+◌, ◌<◌, ◌≤◌, inl, inr, Some, None, true, false, if◌then◌else◌, List, refl, sym, ap, subst, ◌∙◌, arith}
use Rattle.std.specs.Prelude.{[], ◌∷◌, ◌++◌, Option, is_none, slice_get, slice_index, ◌==◌, ◌&&◌}
use Rattle.dh_tree.specs.Elements.{Spot}
use Rattle.dh_value.specs.declared.kinds.Kind.TheVariants as kind
use Rattle.dh_value.specs.Words.{value_of, with_bits, word_of}
use Rattle.dh_net.specs.BankPorts.{ports_of, port_of}
use Rattle.dh_net.specs.Clock.{State, IsValuation, is_active}
use Rattle.dh_net.specs.Laws.{FitsNet}
use Rattle.dh_net.specs.RowWidths.{row_width_of}
use Rattle.dh_net.specs.Valid.{IsCell, IsRegister, IsDriver, IsValid}
use Rattle.dh_net.specs.declared.nets.Cell.{Cell}
use Rattle.dh_net.specs.declared.nets.CellForm.TheVariants as cell
use Rattle.dh_net.specs.declared.nets.Driver.{Driver}
use Rattle.dh_net.specs.declared.nets.Register.{Register}
use Rattle.dh_net.specs.declared.ports.Port.{Port}
use Rattle.dh_plan.specs.declared.operations.Operation.{Operation}
use Rattle.dh_plan.specs.declared.operations.OperationForm.TheVariants.{Write}
use Rattle.dh_plan.specs.declared.operations.Reach.{Reach}
use Rattle.dh_plan.specs.Blocks.{word_at, spot_of_reach, AreValues, operation_word, first_fault, puts_inside}
use Rattle.dh_plan.specs.ExamplePlans.{line, always}
use Rattle.dh_plan.specs.PlainPlans.{first_in, operations_in}
use Rattle.dh_plan.specs.PlanRuns.{start_at}
use Rattle.dh_plan.specs.SoundPlans.{use_in, HasUse, IsListed}
use Rattle.dh_plan.specs.Ways as graph
use Rattle.dh_plan.specs.Ways.{rests, in_state, in_fork}
use Rattle.dh_plan.proofs.StoringSound.{storing_table}
use Rattle.dh_lower.specs.ExampleNets.{stored_row, store_plan, the_user, store_users, store_making, bit_register, store_cells, store_driver, store_net, store_holds}
use Rattle.dh_lower.specs.NetOfPlan.{words_of, fault_seen, moment_at, spot_length, ShowsAtClock, ShowsOver, IsNetOf}
use Rattle.dh_lower.specs.PortUsers.{User, HasUser, AreApart, AreUsers, DrivesFor, DriveFor}
use Rattle.dh_lower.specs.ShownWords.{in_ports, port_bound}
use Rattle.dh_lower.specs.SpotsDone.{blocks_of_spot}
use Rattle.dh_net.specs.Parts.{one_cell}

-- The net is valid.

store_registers : (i : ℕ) (r : Register) → slice_get store_net.registers i ≡ Some r → IsRegister store_cells r
store_registers zero r at =
    let same : bit_register 1 ≡ r = cc in
    subst (λ (x : Register). IsRegister store_cells x) same (record { least = (let a : 1 ≤ 1 = omega arith in a); greatest = (let a : 1 ≤ 64 = omega arith in a); initial = (let a : 0 < 2 = omega arith in a); next = refl })
store_registers (suc zero) r at =
    let same : bit_register 3 ≡ r = cc in
    subst (λ (x : Register). IsRegister store_cells x) same (record { least = (let a : 1 ≤ 1 = omega arith in a); greatest = (let a : 1 ≤ 64 = omega arith in a); initial = (let a : 0 < 2 = omega arith in a); next = refl })
store_registers (suc (suc i)) r at = absurd (let f : None ≡ Some r = at in cc)

abbrev IsOwnCell : ℕ → Cell → Type 0
IsOwnCell i c = IsCell store_net.table store_net.registers store_cells i c

is_here : (x c : Cell) (i : ℕ) → Some x ≡ Some c → IsOwnCell i x → IsOwnCell i c
is_here x c i e h = let same : x ≡ c = cc in subst (λ (y : Cell). IsOwnCell i y) same h

store_cells_are : (i : ℕ) (c : Cell) → slice_get store_cells i ≡ Some c → IsOwnCell i c
store_cells_are zero c at = is_here _ c 0 at (record { least = (let a : 1 ≤ 1 = omega arith in a); greatest = (let a : 1 ≤ 64 = omega arith in a); form = refl })
store_cells_are (suc zero) c at = is_here _ c 1 at (record { least = (let a : 1 ≤ 1 = omega arith in a); greatest = (let a : 1 ≤ 64 = omega arith in a); form = (let a : 1 < 2 = omega arith in a) })
store_cells_are (suc (suc zero)) c at = is_here _ c 2 at (record { least = (let a : 1 ≤ 1 = omega arith in a); greatest = (let a : 1 ≤ 64 = omega arith in a); form = (let a : 0 < 2 = omega arith in a) })
store_cells_are (suc (suc (suc zero))) c at =
    is_here _ c 3 at (record {
      least = (let a : 1 ≤ 1 = omega arith in a);
      greatest = (let a : 1 ≤ 64 = omega arith in a);
      form = (refl, (1, record { left = record { earlier = (let a : 0 < 3 = omega arith in a); wide = refl }; right = record { earlier = (let a : 2 < 3 = omega arith in a); wide = refl } }));
    })
store_cells_are (suc (suc (suc (suc zero)))) c at = is_here _ c 4 at (record { least = (let a : 1 ≤ 8 = omega arith in a); greatest = (let a : 8 ≤ 64 = omega arith in a); form = (let a : 7 < 256 = omega arith in a) })
store_cells_are (suc (suc (suc (suc (suc zero))))) c at = is_here _ c 5 at (record { least = (let a : 1 ≤ 1 = omega arith in a); greatest = (let a : 1 ≤ 64 = omega arith in a); form = refl })
store_cells_are (suc (suc (suc (suc (suc (suc zero)))))) c at = is_here _ c 6 at (record { least = (let a : 1 ≤ 32 = omega arith in a); greatest = (let a : 32 ≤ 64 = omega arith in a); form = (let a : 0 < 4294967296 = omega arith in a) })
store_cells_are (suc (suc (suc (suc (suc (suc (suc i))))))) c at = absurd (let f : None ≡ Some c = at in cc)

abbrev the_port : Port
the_port = port_of 0 (line 65 8 2) 0

row_one : row_width_of 2 ≡ 1
unfolding row_width_of
row_one = refl

driver_is : (p : Port) → Some the_port ≡ Some p → (ds : List Driver) → Some (store_driver ∷ []) ≡ Some ds → (k : ℕ) (d : Driver) → slice_get ds k ≡ Some d → IsDriver store_cells p d
driver_is p port ds drivers k d at =
    let same : the_port ≡ p = cc in
    let list : store_driver ∷ [] ≡ ds = cc in
    by k (subst (λ (l : List Driver). slice_get l k ≡ Some d) (sym list) at) same
  where
    by : (k : ℕ) → slice_get (store_driver ∷ []) k ≡ Some d → the_port ≡ p → IsDriver store_cells p d
    by zero at same =
        let here : store_driver ≡ d = cc in
        subst (λ (x : Driver). IsDriver store_cells p x) here
        (subst (λ (q : Port). IsDriver store_cells q store_driver) same (record { enable = refl; row = ap (λ (w : ℕ). Some w) (sym row_one); out = λ e. refl }))
    by (suc k) at same = absurd (let f : None ≡ Some d = at in cc)

store_valid : IsValid store_net
store_valid =
    record {
      table = storing_table;
      registers = store_registers;
      cells = store_cells_are;
      ports = refl;
      drivers = drivers_are;
      tick = refl;
      done = refl;
      fault = refl;
    }
  where
    drivers_are : (i : ℕ) (ds : List Driver) (p : Port) → slice_get store_net.drivers i ≡ Some ds → slice_get (ports_of store_net.table) i ≡ Some p
        → (k : ℕ) (d : Driver) → slice_get ds k ≡ Some d → IsDriver store_cells p d
    drivers_are zero ds p a b k d at = driver_is p b ds a k d at
    drivers_are (suc i) ds p a b k d at = absurd (let f : None ≡ Some ds = a in cc)

-- The users of its ports.

none_used : (p o : Operation) (r : Reach) → Some p ≡ Some o → use_in p.form ≡ None → use_in o.form ≡ Some r → ⊥
none_used p o r e none u =
    let here : p ≡ o = cc in
    let f : None ≡ Some r = sym none ∙ (ap (λ (q : Operation). use_in q.form) here ∙ u) in
    cc

write_is : (p o : Operation) (r : Reach) → Some p ≡ Some o → use_in p.form ≡ Some stored_row → use_in o.form ≡ Some r → stored_row ≡ r
write_is p o r e used u =
    let here : p ≡ o = cc in
    let f : Some stored_row ≡ Some r = sym used ∙ (ap (λ (q : Operation). use_in q.form) here ∙ u) in
    cc

pub write_found : (i : ℕ) (o : Operation) (r : Reach) → slice_get (operations_in store_plan 0) i ≡ Some o → use_in o.form ≡ Some r → (i ≡ 2) × (stored_row ≡ r)
write_found zero o r e u = absurd (none_used _ o r e refl u)
write_found (suc zero) o r e u = absurd (none_used _ o r e refl u)
write_found (suc (suc zero)) o r e u = (refl, write_is _ o r e refl u)
write_found (suc (suc (suc i))) o r e u = absurd (let f : None ≡ Some o = e in cc)

pub listed_zero : (bank place : ℕ) → IsListed bank place stored_row.banks → 0 ≡ bank
listed_zero bank place h = elim h [
  | inl here ↦ here.0
  | inr none ↦ absurd none
]

all_users : (block i bank place : ℕ) (r : Reach) → HasUse store_plan block i r → IsListed bank place r.banks
    → HasUser (record { block = block; place = i; bank = bank }) (store_users (port_bound store_plan store_making.uses block i bank r))
all_users zero i bank place r h listed =
    let found = write_found i h.operation r h.there h.uses in
    let at_zero : 0 ≡ bank = listed_zero bank place (subst (λ (x : Reach). IsListed bank place x.banks) (sym found.1) listed) in
    subst (λ (n : ℕ). HasUser (record { block = 0; place = n; bank = bank }) (store_users (port_bound store_plan store_making.uses 0 n bank r))) (sym found.0)
    (subst (λ (x : Reach). HasUser (record { block = 0; place = 2; bank = bank }) (store_users (port_bound store_plan store_making.uses 0 2 bank x))) found.1
    (subst (λ (b : ℕ). HasUser (record { block = 0; place = 2; bank = b }) (store_users (port_bound store_plan store_making.uses 0 2 b stored_row))) at_zero (inl refl)))
all_users (suc block) i bank place r h listed = absurd (let f : None ≡ Some h.operation = h.there in cc)

abbrev OwnUse : (port : ℕ) → User → Type 0
OwnUse port user =
    (r : Reach) × (HasUse store_plan user.block user.place r × ((place : ℕ) × (IsListed user.bank place r.banks × (port_bound store_plan store_making.uses user.block user.place user.bank r ≡ port))))

own_user : (port : ℕ) (user : User) → HasUser user (store_users port) → OwnUse port user
own_user zero user h = elim h [
  | inl here ↦ subst (λ (v : User). OwnUse 0 v) (sym here) (stored_row, (record { operation = always (Write stored_row 0); there = refl; uses = refl }, (0, (inl (refl, refl), refl))))
  | inr none ↦ absurd none
]
own_user (suc port) user h = absurd h

users_apart : (port : ℕ) → AreApart (store_users port)
users_apart zero = ((λ h. h), tt)
users_apart (suc port) = tt

store_users_are : AreUsers store_plan store_making.uses store_users
store_users_are = record { all = all_users; own = own_user; apart = users_apart }

-- Its wires.

record Wires (state tick : ℕ) (wires : List ℕ) : Type 0 where
  pub state_wire : slice_index wires 0 ≡ state
  pub one_wire : slice_index wires 1 ≡ 1
  pub zero_wire : slice_index wires 2 ≡ 0
  pub step_wire : slice_index wires 3 ≡ (if state == 0 then 1 else 0)
  pub seven_wire : slice_index wires 4 ≡ 7
  pub tick_wire : slice_index wires 5 ≡ tick
  pub fault_wire : slice_index wires 6 ≡ 0

store_wires_are : (state tick : ℕ) (s : State) (wires : List ℕ) → s.registers ≡ state ∷ tick ∷ [] → IsValuation store_net.table store_cells s.registers s.held wires → Wires state tick wires
store_wires_are state tick s wires registers v =
    let first : slice_index wires 0 ≡ state = v.each 0 (one_cell 1 (cell.Reg 0)) refl ∙ ap (λ (rs : List ℕ). slice_index rs 0) registers in
    let second : slice_index wires 2 ≡ 0 = v.each 2 (one_cell 1 (cell.Const 0)) refl in
    record {
      state_wire = first;
      one_wire = v.each 1 (one_cell 1 (cell.Const 1)) refl;
      zero_wire = second;
      step_wire =
          v.each 3 (one_cell 1 (cell.Eq 0 2)) refl
          ∙ (ap (λ (n : ℕ). if n == slice_index wires 2 then 1 else 0) first ∙ ap (λ (n : ℕ). if state == n then 1 else 0) second);
      seven_wire = v.each 4 (one_cell 8 (cell.Const 7)) refl;
      tick_wire = v.each 5 (one_cell 1 (cell.Reg 1)) refl ∙ ap (λ (rs : List ℕ). slice_index rs 1) registers;
      fault_wire = v.each 6 (one_cell 32 (cell.Const 0)) refl;
    }

-- In the step.

nothing_fails : (bits : ℕ) (x : Option Spot) → first_fault ((puts_inside bits x ++ []) ++ []) ≡ None
nothing_fails bits None = refl
nothing_fails bits (Some spot) = refl

no_fault_seen : (registers wires : List ℕ) → fault_seen store_making (in_state 0) registers wires ≡ None
no_fault_seen registers wires =
    nothing_fails (word_at 0 (words_of store_making wires 0) 0).bits (spot_of_reach (start_at store_plan registers []) 0 (words_of store_making wires 0) stored_row)

module _ (tick : ℕ) (registers : List ℕ) (held wires : List ℕ) (w : Wires 0 tick wires) where
  abbrev Solved : (i : ℕ) → Operation → Type 0
  Solved i o =
      word_at 0 (words_of store_making wires 0) (0 + i)
      ≡ operation_word (start_at store_plan registers []) (in_ports store_plan store_making.uses held 0) 0 (words_of store_making wires 0) (0 + i) o

  solved_here : (i : ℕ) (x o : Operation) → Some x ≡ Some o → Solved i x → Solved i o
  solved_here i x o e h = let same : x ≡ o = cc in subst (λ (y : Operation). Solved i y) same h

  solved_at : (i : ℕ) (o : Operation) → slice_get (operations_in store_plan 0) i ≡ Some o → Solved i o
  solved_at zero o at = solved_here 0 _ o at (ap (λ (n : ℕ). with_bits (kind.Unsigned 8) n) w.seven_wire)
  solved_at (suc zero) o at = solved_here 1 _ o at (ap (λ (n : ℕ). with_bits (kind.Unsigned 1) n) w.one_wire)
  solved_at (suc (suc zero)) o at = solved_here 2 _ o at (ap (λ (n : ℕ). with_bits kind.Bool n) w.zero_wire)
  solved_at (suc (suc (suc i))) o at = absurd (let f : None ≡ Some o = at in cc)

  words_are : (block : ℕ)
      → AreValues (start_at store_plan registers []) (in_ports store_plan store_making.uses held block) (first_in store_plan block) (operations_in store_plan block) (words_of store_making wires block)
  words_are zero = record { long = refl; solve = record { each = solved_at } }
  words_are (suc block) = record { long = refl; solve = record { each = λ i o at. absurd (let f : None ≡ Some o = at in cc) } }

  drives_here : DrivesFor store_plan store_making.timing (words_of store_making wires) (moment_at store_making (in_state 0) 0 registers wires) the_port wires store_driver the_user
  drives_here =
      record {
        enable = w.step_wire ∙ sym (ap (λ (f : Option ℕ). if is_none f && true then 1 else 0) (no_fault_seen registers wires));
        says = record {
          writes = refl;
          row =
              w.one_wire
              ∙ sym (ap (λ (n : ℕ). (word_of (kind.Unsigned the_port.row_width) (value_of (with_bits (kind.Unsigned 1) n))).bits) w.one_wire
              ∙ ap (λ (k : ℕ). (word_of (kind.Unsigned k) (value_of (with_bits (kind.Unsigned 1) 1))).bits) row_one);
          bits = refl;
        };
      }

  drives_at : (q : ℕ) (ds : List Driver) (p : Port) → slice_get store_net.drivers q ≡ Some ds → slice_get (ports_of store_net.table) q ≡ Some p
      → DriveFor store_plan store_making.timing (words_of store_making wires) (moment_at store_making (in_state 0) 0 registers wires) p wires ds (store_users q)
  drives_at zero ds p a b =
      let list : store_driver ∷ [] ≡ ds = (let f : Some (store_driver ∷ []) ≡ Some ds = a in cc) in
      let port : the_port ≡ p = (let f : Some the_port ≡ Some p = b in cc) in
      subst (λ (l : List Driver). DriveFor store_plan store_making.timing (words_of store_making wires) (moment_at store_making (in_state 0) 0 registers wires) p wires l (store_users 0)) list
      (subst (λ (x : Port). DriveFor store_plan store_making.timing (words_of store_making wires) (moment_at store_making (in_state 0) 0 registers wires) x wires (store_driver ∷ []) (store_users 0)) port (drives_here, tt))
  drives_at (suc q) ds p a b = absurd (let f : None ≡ Some ds = a in cc)

  shows_step : ShowsAtClock store_making store_net store_holds (in_state 0) 0 tick registers held wires
  shows_step =
      record {
        words = words_are;
        waits = λ less. absurd (omega (arith, less));
        goes_on = λ last none. (λ n. w.one_wire n ∷ w.step_wire n ∷ [], refl);
        faults = λ fault last some. absurd (let f : None ≡ Some fault = sym (no_fault_seen registers wires) ∙ some in cc);
        drives = drives_at;
        ticks = w.tick_wire;
        not_done = w.state_wire;
        no_fault = w.fault_wire;
      }

-- Once it is done.

module _ (tick fault : ℕ) (registers : List ℕ) (wires : List ℕ) (none : fault ≡ 0) (w : Wires 1 tick wires) where
  silent_at : (q i : ℕ) (ds : List Driver) (d : Driver) → slice_get store_net.drivers q ≡ Some ds → slice_get ds i ≡ Some d → is_active wires d ≡ false
  silent_at zero i ds d a b =
      let list : store_driver ∷ [] ≡ ds = (let f : Some (store_driver ∷ []) ≡ Some ds = a in cc) in
      by i (subst (λ (l : List Driver). slice_get l i ≡ Some d) (sym list) b)
    where
      by : (i : ℕ) → slice_get (store_driver ∷ []) i ≡ Some d → is_active wires d ≡ false
      by zero at = let here : store_driver ≡ d = cc in subst (λ (x : Driver). is_active wires x ≡ false) here (ap (λ (n : ℕ). n == 1) w.step_wire)
      by (suc i) at = absurd (let f : None ≡ Some d = at in cc)
  silent_at (suc q) i ds d a b = absurd (let f : None ≡ Some ds = a in cc)

  shows_done : ShowsOver store_making store_net store_holds tick fault registers wires
  shows_done =
      record {
        stays = (λ n. w.one_wire n ∷ w.step_wire n ∷ [], none);
        silent = silent_at;
        ticks = w.tick_wire;
        done = w.state_wire ∙ sym (ap (λ (n : ℕ). if n == 0 then 1 else 0) none);
        fault_is = w.fault_wire ∙ sym none;
      }

at_clock_of : (spot : graph.GraphSpot) (clock tick : ℕ) (registers : List ℕ) (s : State) (wires : List ℕ)
    → (blocks_of_spot store_making.flow.states spot ≡ [] → ⊥) → clock < spot_length store_making spot → store_holds spot clock tick 0 registers s.registers
    → FitsNet store_net s → IsValuation store_net.table store_cells s.registers s.held wires → ShowsAtClock store_making store_net store_holds spot clock tick registers s.held wires
at_clock_of rests clock tick registers s wires some less h fits v = absurd (some refl)
at_clock_of (in_state zero) clock tick registers s wires some less h fits v =
    let first : 0 ≡ clock = omega (arith, less) in
    subst (λ (c : ℕ). ShowsAtClock store_making store_net store_holds (in_state 0) c tick registers s.held wires) first (shows_step tick registers s.held wires (store_wires_are 0 tick s wires h.0 v))
at_clock_of (in_state (suc state)) clock tick registers s wires some less h fits v = absurd h
at_clock_of (in_fork fork ss) clock tick registers s wires some less h fits v = absurd h

pub store_net_made : IsNetOf store_making store_net store_holds
store_net_made =
    record {
      valid = store_valid;
      table = refl;
      fault_names = refl;
      users = store_users_are;
      starts = (refl, refl);
      at_clock = at_clock_of;
      over = λ clock tick fault registers s wires h fits v. shows_done tick fault registers wires h.1 (store_wires_are 1 tick s wires h.0 v);
    }

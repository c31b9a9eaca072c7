-- The net of one read of two banks is made of its plan. Its wires are computed from its five registers and from what
-- the two ports hold. There are four cases in the step: the clock is the first or the last, and the one bank is picked
-- or the other; in each, all that is asked of the wires is computed.
use Rattle.std.proofs.Common.{◌≡◌, ℕ, zero, suc, ◌+◌, ◌<◌, ◌≤◌, ◌^◌, ◌⊎◌, inl, inr, Some, None, true, false, Bool, if◌then◌else◌, List, length, refl, sym, ap, subst, ◌∙◌, arith}
use Rattle.std.specs.Prelude.{[], ◌∷◌, slice_get, slice_index, ◌==◌, ◌&&◌}
use Rattle.dh_value.specs.declared.kinds.Kind.TheVariants as kind
use Rattle.dh_value.specs.Words.{IsWidth, value_of, with_bits, word_of}
use Rattle.dh_tree.specs.Shapes.{IsProgramTable}
use Rattle.dh_net.specs.BankPorts.{ports_of, port_of}
use Rattle.dh_net.specs.Clock.{State, IsValuation, is_active}
use Rattle.dh_net.specs.Laws.{FitsNet}
use Rattle.dh_net.specs.RowWidths.{row_width_of}
use Rattle.dh_net.specs.Valid.{HasWidth, IsOperand, IsPort, FormFits, IsCell, IsRegister, IsDriver, IsValid}
use Rattle.dh_net.specs.declared.nets.Cell.{Cell}
use Rattle.dh_net.specs.declared.nets.CellForm.{CellForm}
use Rattle.dh_net.specs.declared.nets.CellForm.TheVariants as cell
use Rattle.dh_net.specs.declared.nets.Driver.{Driver}
use Rattle.dh_net.specs.declared.nets.Register.{Register}
use Rattle.dh_net.specs.declared.ports.Port.{Port}
use Rattle.dh_plan.specs.declared.operations.Operation.{Operation}
use Rattle.dh_plan.specs.declared.operations.OperationForm.TheVariants.{Read}
use Rattle.dh_plan.specs.declared.operations.Reach.{Reach}
use Rattle.dh_plan.specs.Blocks.{word_at, AreValues, operation_word}
use Rattle.dh_plan.specs.ExamplePlans.{dim, memory, always}
use Rattle.dh_plan.specs.PlainPlans.{first_in, operations_in}
use Rattle.dh_plan.specs.PlanRuns.{start_at}
use Rattle.dh_plan.specs.SoundPlans.{use_in, HasUse, IsListed}
use Rattle.dh_plan.specs.Ways as graph
use Rattle.dh_plan.specs.Ways.{rests, in_state, in_fork}
use Rattle.dh_lower.specs.ExampleSelects.{picked_row, two_banks, read_operations, read_plan, user_of, read_users, read_making, register_of, read_cells, read_driver, read_net, read_holds}
use Rattle.dh_lower.specs.NetOfPlan.{words_of, moment_at, spot_length, next_registers, ShowsAtClock, ShowsOver, IsNetOf}
use Rattle.dh_lower.specs.PortUsers.{User, HasUser, AreApart, AreUsers, DrivesFor, DriveFor}
use Rattle.dh_lower.specs.ShownWords.{bank_or_first, in_ports, port_bound}
use Rattle.dh_lower.specs.SpotsDone.{blocks_of_spot}
use Rattle.dh_plan.proofs.StoringSound.{not_reserved}
use Rattle.dh_net.specs.Parts.{one_cell}

-- What holds of each item of a list that is written out, by its place.

abbrev AllFrom : {A : Type 0} → (P : ℕ → A → Type 0) → (n : ℕ) → List A → Type 0
AllFrom P n [] = Unit {0}
AllFrom P n (x ∷ xs) = P n x × AllFrom P (n + 1) xs

from_place : {A : Type 0} (P : ℕ → A → Type 0) (n : ℕ) (xs : List A) → AllFrom P n xs → (i : ℕ) (x : A) → slice_get xs i ≡ Some x → P (n + i) x
from_place P n [] all i x at = absurd (let none : None ≡ Some x = at in cc)
from_place P n (y ∷ xs) all zero x at =
    let same : y ≡ x = (let some : Some y ≡ Some x = at in cc) in
    let here : n ≡ n + 0 = omega arith in
    subst (λ (z : _). P (n + 0) z) same (subst (λ (k : ℕ). P k y) here all.0)
from_place P n (y ∷ xs) all (suc i) x at =
    let there : n + 1 + i ≡ n + suc i = omega arith in
    subst (λ (k : ℕ). P k x) there (from_place P (n + 1) xs all.1 i x at)

pub each_place : {A : Type 0} (P : ℕ → A → Type 0) (xs : List A) → AllFrom P 0 xs → (i : ℕ) (x : A) → slice_get xs i ≡ Some x → P i x
each_place P xs all i x at =
    let none : 0 + i ≡ i = omega arith in
    subst (λ (k : ℕ). P k x) none (from_place P 0 xs all i x at)

-- The net is valid.

pub two_banks_table : IsProgramTable two_banks
two_banks_table =
    record {
      entries = (
        record {
          name = record { word = (inl ((let s : 65 ≤ 65 = omega arith in s), (let s : 65 ≤ 90 = omega arith in s)), tt); free = not_reserved };
          shape = record {
            integer = ((let s : 1 ≤ 8 = omega arith in s), (let s : 8 ≤ 64 = omega arith in s));
            least_ports = (let s : 1 ≤ 1 = omega arith in s);
            most = (let s : 1 ≤ 8 = omega arith in s);
            least_dims = (let s : 1 ≤ 1 = omega arith in s);
            few_dims = (let s : 1 ≤ 6 = omega arith in s);
            dims = (record { size = (let s : 1 ≤ 2 = omega arith in s); banks = (let s : 1 ≤ 2 = omega arith in s); divides = refl }, tt);
            few_banks = (let s : 2 ≤ 64 = omega arith in s);
          };
        },
        tt,
      );
      names = (tt, tt);
      locals = ((λ h. absurd (cc)), tt);
      elements = (let s : 2 ≤ 1048576 = omega arith in s);
    }

pub one_bit : IsWidth 1
one_bit = ((let s : 1 ≤ 1 = omega arith in s), (let s : 1 ≤ 64 = omega arith in s))

pub eight_bits : IsWidth 8
eight_bits = ((let s : 1 ≤ 8 = omega arith in s), (let s : 8 ≤ 64 = omega arith in s))

many_bits : IsWidth 32
many_bits = ((let s : 1 ≤ 32 = omega arith in s), (let s : 32 ≤ 64 = omega arith in s))

own_register : (width next : ℕ) → IsWidth width → 0 < 2 ^ width → HasWidth read_cells next width → IsRegister read_cells (register_of width next)
own_register width next sized some wide = record { least = sized.0; greatest = sized.1; initial = some; next = wide }

read_registers : (i : ℕ) (r : Register) → slice_get read_net.registers i ≡ Some r → IsRegister read_cells r
read_registers i r at =
    each_place (λ n x. IsRegister read_cells x) read_net.registers (
      own_register 1 18 one_bit (let s : 0 < 2 = omega arith in s) refl,
      (
        own_register 1 14 one_bit (let s : 0 < 2 = omega arith in s) refl,
        (
          own_register 1 8 one_bit (let s : 0 < 2 = omega arith in s) refl,
          (
            own_register 1 3 one_bit (let s : 0 < 2 = omega arith in s) refl,
            (
              own_register 8 19 eight_bits (let s : 0 < 256 = omega arith in s) refl,
              tt,
            ),
          ),
        ),
      ),
    ) i r at

operand : (i wire width : ℕ) → wire < i → HasWidth read_cells wire width → IsOperand read_cells i wire width
operand i wire width earlier wide = record { earlier = earlier; wide = wide }

abbrev IsOwnCell : ℕ → Cell → Type 0
IsOwnCell i c = IsCell two_banks read_net.registers read_cells i c

own_cell : (i width : ℕ) (form : CellForm) → IsWidth width → FormFits two_banks read_net.registers read_cells i width form → IsOwnCell i (one_cell width form)
own_cell i width form wide fits = record { least = wide.0; greatest = wide.1; form = fits }

bank_port : (bank : ℕ) → bank < 2 → IsPort two_banks 0 bank 0 8
bank_port bank inside = record { entry = memory 65 8 1 (dim 2 2 ∷ []); there = refl; bank_there = inside; port_there = (let s : 0 < 1 = omega arith in s); wide = refl }

read_cells_are : (i : ℕ) (c : Cell) → slice_get read_cells i ≡ Some c → IsOwnCell i c
read_cells_are i c at =
    each_place IsOwnCell read_cells (
      own_cell 0 1 (cell.Reg 0) one_bit refl,
      (
        own_cell 1 1 (cell.Reg 1) one_bit refl,
        (
          own_cell 2 1 (cell.Reg 2) one_bit refl,
          (
            own_cell 3 1 (cell.Reg 3) one_bit refl,
            (
              own_cell 4 8 (cell.Reg 4) eight_bits refl,
              (
                own_cell 5 1 (cell.Const 0) one_bit (let s : 0 < 2 = omega arith in s),
                (
                  own_cell 6 1 (cell.Const 1) one_bit (let s : 1 < 2 = omega arith in s),
                  (
                    own_cell 7 1 (cell.Eq 0 5) one_bit (refl, (1, record { left = operand 7 0 1 (let s : 0 < 7 = omega arith in s) refl; right = operand 7 5 1 (let s : 5 < 7 = omega arith in s) refl })),
                    (
                      own_cell 8 1 (cell.Mux 7 1 5) one_bit (operand 8 7 1 (let s : 7 < 8 = omega arith in s) refl, record { left = operand 8 1 1 (let s : 1 < 8 = omega arith in s) refl; right = operand 8 5 1 (let s : 5 < 8 = omega arith in s) refl }),
                      (
                        own_cell 9 8 (cell.Data 0 0 0) eight_bits (bank_port 0 (let s : 0 < 2 = omega arith in s)),
                        (
                          own_cell 10 8 (cell.Data 0 1 0) eight_bits (bank_port 1 (let s : 1 < 2 = omega arith in s)),
                          (
                            own_cell 11 1 (cell.Eq 3 6) one_bit (refl, (1, record { left = operand 11 3 1 (let s : 3 < 11 = omega arith in s) refl; right = operand 11 6 1 (let s : 6 < 11 = omega arith in s) refl })),
                            (
                              own_cell 12 8 (cell.Mux 11 10 9) eight_bits (operand 12 11 1 (let s : 11 < 12 = omega arith in s) refl, record { left = operand 12 10 8 (let s : 10 < 12 = omega arith in s) refl; right = operand 12 9 8 (let s : 9 < 12 = omega arith in s) refl }),
                              (
                                own_cell 13 1 (cell.Eq 1 5) one_bit (refl, (1, record { left = operand 13 1 1 (let s : 1 < 13 = omega arith in s) refl; right = operand 13 5 1 (let s : 5 < 13 = omega arith in s) refl })),
                                (
                                  own_cell 14 1 (cell.Mux 7 13 5) one_bit (operand 14 7 1 (let s : 7 < 14 = omega arith in s) refl, record { left = operand 14 13 1 (let s : 13 < 14 = omega arith in s) refl; right = operand 14 5 1 (let s : 5 < 14 = omega arith in s) refl }),
                                  (
                                    own_cell 15 1 (cell.Eq 3 5) one_bit (refl, (1, record { left = operand 15 3 1 (let s : 3 < 15 = omega arith in s) refl; right = operand 15 5 1 (let s : 5 < 15 = omega arith in s) refl })),
                                    (
                                      own_cell 16 1 (cell.Mux 14 15 5) one_bit (operand 16 14 1 (let s : 14 < 16 = omega arith in s) refl, record { left = operand 16 15 1 (let s : 15 < 16 = omega arith in s) refl; right = operand 16 5 1 (let s : 5 < 16 = omega arith in s) refl }),
                                      (
                                        own_cell 17 1 (cell.Mux 14 11 5) one_bit (operand 17 14 1 (let s : 14 < 17 = omega arith in s) refl, record { left = operand 17 11 1 (let s : 11 < 17 = omega arith in s) refl; right = operand 17 5 1 (let s : 5 < 17 = omega arith in s) refl }),
                                        (
                                          own_cell 18 1 (cell.Mux 7 8 6) one_bit (operand 18 7 1 (let s : 7 < 18 = omega arith in s) refl, record { left = operand 18 8 1 (let s : 8 < 18 = omega arith in s) refl; right = operand 18 6 1 (let s : 6 < 18 = omega arith in s) refl }),
                                          (
                                            own_cell 19 8 (cell.Mux 8 12 4) eight_bits (operand 19 8 1 (let s : 8 < 19 = omega arith in s) refl, record { left = operand 19 12 8 (let s : 12 < 19 = omega arith in s) refl; right = operand 19 4 8 (let s : 4 < 19 = omega arith in s) refl }),
                                            (
                                              own_cell 20 32 (cell.Const 0) many_bits (let s : 0 < 4294967296 = omega arith in s),
                                              tt,
                                            ),
                                          ),
                                        ),
                                      ),
                                    ),
                                  ),
                                ),
                              ),
                            ),
                          ),
                        ),
                      ),
                    ),
                  ),
                ),
              ),
            ),
          ),
        ),
      ),
    ) i c at

abbrev bank_port_of : (bank : ℕ) → Port
bank_port_of bank = port_of 0 (memory 65 8 1 (dim 2 2 ∷ [])) bank

row_one : row_width_of 1 ≡ 1
unfolding row_width_of
row_one = refl

row_fits : (bank : ℕ) → HasWidth read_cells 5 (bank_port_of bank).row_width
row_fits bank = ap (λ (w : ℕ). Some w) (sym row_one)

-- each port has one driver
driver_is : (enable : ℕ) → HasWidth read_cells enable 1 → (own p : Port) → own ≡ p → HasWidth read_cells 5 own.row_width → (ds : List Driver) → read_driver enable ∷ [] ≡ ds → (k : ℕ) (d : Driver)
    → slice_get ds k ≡ Some d → IsDriver read_cells p d
driver_is enable wide own p same row ds list k d at =
    each_place (λ n x. IsDriver read_cells p x) (read_driver enable ∷ [])
    (subst (λ (q : Port). IsDriver read_cells q (read_driver enable)) same (record { enable = wide; row = row; out = λ e. absurd (let f : false ≡ true = e in cc) }), tt) k d
    (subst (λ (l : List Driver). slice_get l k ≡ Some d) (sym list) at)

pub same_item : {A : Type 0} (x y : A) → Some x ≡ Some y → x ≡ y
same_item x y e = cc

read_drivers_are : (i : ℕ) (ds : List Driver) (p : Port) → slice_get read_net.drivers i ≡ Some ds → slice_get (ports_of two_banks) i ≡ Some p → (k : ℕ) (d : Driver) → slice_get ds k ≡ Some d → IsDriver read_cells p d
read_drivers_are zero ds p a b k d at = driver_is 16 refl (bank_port_of 0) p (same_item (bank_port_of 0) p b) (row_fits 0) ds (same_item (read_driver 16 ∷ []) ds a) k d at
read_drivers_are (suc zero) ds p a b k d at = driver_is 17 refl (bank_port_of 1) p (same_item (bank_port_of 1) p b) (row_fits 1) ds (same_item (read_driver 17 ∷ []) ds a) k d at
read_drivers_are (suc (suc i)) ds p a b k d at = absurd (let none : None ≡ Some ds = a in cc)

read_valid : IsValid read_net
read_valid = record { table = two_banks_table; registers = read_registers; cells = read_cells_are; ports = refl; drivers = read_drivers_are; tick = refl; done = refl; fault = refl }

-- The users of its ports.

pub read_found : (i : ℕ) (o : Operation) (r : Reach) → slice_get read_operations i ≡ Some o → use_in o.form ≡ Some r → (i ≡ 2) × (picked_row ≡ r)
read_found i o r at =
    each_place (λ n x. use_in x.form ≡ Some r → (n ≡ 2) × (picked_row ≡ r)) read_operations (
      (λ u. absurd (let none : None ≡ Some r = u in cc)),
      (
        (λ u. absurd (let none : None ≡ Some r = u in cc)),
        (
          (λ u. (refl, same_item picked_row r u)),
          (
            (λ u. absurd (let none : None ≡ Some r = u in cc)),
            tt,
          ),
        ),
      ),
    ) i o at

pub bank_listed : (bank place : ℕ) → IsListed bank place picked_row.banks → ((0 ≡ bank) ⊎ (1 ≡ bank)) × (0 ≡ place)
bank_listed bank place h = elim h [
  | inl first ↦ (inl first.0, first.1)
  | inr more ↦ elim more [
    | inl second ↦ (inr second.0, second.1)
    | inr none ↦ absurd none
  ]
]

abbrev UsesPort : (block i bank : ℕ) → Reach → Type 0
UsesPort block i bank r = HasUser (record { block = block; place = i; bank = bank }) (read_users (port_bound read_plan read_making.uses block i bank r))

all_users : (block i bank place : ℕ) (r : Reach) → HasUse read_plan block i r → IsListed bank place r.banks → UsesPort block i bank r
all_users zero i bank place r h listed =
    let found = read_found i h.operation r h.there h.uses in
    let own = (bank_listed bank place (subst (λ (x : Reach). IsListed bank place x.banks) (sym found.1) listed)).0 in
    subst (λ (n : ℕ). UsesPort 0 n bank r) (sym found.0)
    (subst (λ (x : Reach). UsesPort 0 2 bank x) found.1 (elim own [
      | inl first ↦ subst (λ (b : ℕ). UsesPort 0 2 b picked_row) first (inl refl)
      | inr second ↦ subst (λ (b : ℕ). UsesPort 0 2 b picked_row) second (inl refl)
    ]))
all_users (suc block) i bank place r h listed = absurd (let f : None ≡ Some h.operation = h.there in cc)

abbrev OwnUse : (port : ℕ) → User → Type 0
OwnUse port user =
    (r : Reach) × (HasUse read_plan user.block user.place r × ((place : ℕ) × (IsListed user.bank place r.banks × (port_bound read_plan read_making.uses user.block user.place user.bank r ≡ port))))

pub the_use : HasUse read_plan 0 2 picked_row
the_use = record { operation = always (Read picked_row); there = refl; uses = refl }

own_user : (port : ℕ) (user : User) → HasUser user (read_users port) → OwnUse port user
own_user zero user h = elim h [
  | inl here ↦ subst (λ (v : User). OwnUse 0 v) (sym here) (picked_row, (the_use, (0, (inl (refl, refl), refl))))
  | inr none ↦ absurd none
]
own_user (suc zero) user h = elim h [
  | inl here ↦ subst (λ (v : User). OwnUse 1 v) (sym here) (picked_row, (the_use, (0, (inr (inl (refl, refl)), refl))))
  | inr none ↦ absurd none
]
own_user (suc (suc port)) user h = absurd h

users_apart : (port : ℕ) → AreApart (read_users port)
users_apart zero = ((λ h. h), tt)
users_apart (suc zero) = ((λ h. h), tt)
users_apart (suc (suc port)) = tt

read_users_are : AreUsers read_plan read_making.uses read_users
read_users_are = record { all = all_users; own = own_user; apart = users_apart }

-- Its wires, by the registers and by what ports hold.

abbrev when : Bool → ℕ
when t = if t then 1 else 0

abbrev going : (state : ℕ) → ℕ
going state = when (state == 0)

abbrev last_clock : (state clock : ℕ) → ℕ
last_clock state clock = if going state == 1 then clock else 0

abbrev first_clock : (state clock : ℕ) → ℕ
first_clock state clock = if going state == 1 then when (clock == 0) else 0

abbrev element : (s : ℕ) → (held : List ℕ) → ℕ
element s held = if when (s == 1) == 1 then slice_index held 1 else slice_index held 0

abbrev asked : (state clock s bank : ℕ) → ℕ
asked state clock s bank = if first_clock state clock == 1 then when (s == bank) else 0

record Wires (state clock tick s y : ℕ) (held wires : List ℕ) : Type 0 where
  pub state_wire : slice_index wires 0 ≡ state
  pub tick_wire : slice_index wires 2 ≡ tick
  pub select_wire : slice_index wires 3 ≡ s
  pub zero_wire : slice_index wires 5 ≡ 0
  pub last_wire : slice_index wires 8 ≡ last_clock state clock
  pub element_wire : slice_index wires 12 ≡ element s held
  pub first_wire : slice_index wires 14 ≡ first_clock state clock
  pub first_bank : slice_index wires 16 ≡ asked state clock s 0
  pub second_bank : slice_index wires 17 ≡ asked state clock s 1
  pub state_next : slice_index wires 18 ≡ (if going state == 1 then last_clock state clock else 1)
  pub y_next : slice_index wires 19 ≡ (if last_clock state clock == 1 then element s held else y)
  pub fault_wire : slice_index wires 20 ≡ 0

read_wires_are : (state clock tick s y : ℕ) (now : State) (wires : List ℕ) → now.registers ≡ state ∷ clock ∷ tick ∷ s ∷ y ∷ []
    → IsValuation two_banks read_cells now.registers now.held wires → Wires state clock tick s y now.held wires
read_wires_are state clock tick s y now wires registers v =
    let w0 : slice_index wires 0 ≡ state = v.each 0 (one_cell 1 (cell.Reg 0)) refl ∙ ap (λ (rs : List ℕ). slice_index rs 0) registers in
    let w1 : slice_index wires 1 ≡ clock = v.each 1 (one_cell 1 (cell.Reg 1)) refl ∙ ap (λ (rs : List ℕ). slice_index rs 1) registers in
    let w2 : slice_index wires 2 ≡ tick = v.each 2 (one_cell 1 (cell.Reg 2)) refl ∙ ap (λ (rs : List ℕ). slice_index rs 2) registers in
    let w3 : slice_index wires 3 ≡ s = v.each 3 (one_cell 1 (cell.Reg 3)) refl ∙ ap (λ (rs : List ℕ). slice_index rs 3) registers in
    let w4 : slice_index wires 4 ≡ y = v.each 4 (one_cell 8 (cell.Reg 4)) refl ∙ ap (λ (rs : List ℕ). slice_index rs 4) registers in
    let w5 : slice_index wires 5 ≡ 0 = v.each 5 (one_cell 1 (cell.Const 0)) refl in
    let w6 : slice_index wires 6 ≡ 1 = v.each 6 (one_cell 1 (cell.Const 1)) refl in
    let w7 : slice_index wires 7 ≡ going state = v.each 7 (one_cell 1 (cell.Eq 0 5)) refl ∙ (λ j. if w0 j == w5 j then 1 else 0) in
    let w8 : slice_index wires 8 ≡ last_clock state clock = v.each 8 (one_cell 1 (cell.Mux 7 1 5)) refl ∙ (λ j. if w7 j == 1 then w1 j else w5 j) in
    let w9 : slice_index wires 9 ≡ slice_index now.held 0 = v.each 9 (one_cell 8 (cell.Data 0 0 0)) refl in
    let w10 : slice_index wires 10 ≡ slice_index now.held 1 = v.each 10 (one_cell 8 (cell.Data 0 1 0)) refl in
    let w11 : slice_index wires 11 ≡ when (s == 1) = v.each 11 (one_cell 1 (cell.Eq 3 6)) refl ∙ (λ j. if w3 j == w6 j then 1 else 0) in
    let w12 : slice_index wires 12 ≡ element s now.held = v.each 12 (one_cell 8 (cell.Mux 11 10 9)) refl ∙ (λ j. if w11 j == 1 then w10 j else w9 j) in
    let w13 : slice_index wires 13 ≡ when (clock == 0) = v.each 13 (one_cell 1 (cell.Eq 1 5)) refl ∙ (λ j. if w1 j == w5 j then 1 else 0) in
    let w14 : slice_index wires 14 ≡ first_clock state clock = v.each 14 (one_cell 1 (cell.Mux 7 13 5)) refl ∙ (λ j. if w7 j == 1 then w13 j else w5 j) in
    let w15 : slice_index wires 15 ≡ when (s == 0) = v.each 15 (one_cell 1 (cell.Eq 3 5)) refl ∙ (λ j. if w3 j == w5 j then 1 else 0) in
    record {
      state_wire = w0;
      tick_wire = w2;
      select_wire = w3;
      zero_wire = w5;
      last_wire = w8;
      element_wire = w12;
      first_wire = w14;
      first_bank = v.each 16 (one_cell 1 (cell.Mux 14 15 5)) refl ∙ (λ j. if w14 j == 1 then w15 j else w5 j);
      second_bank = v.each 17 (one_cell 1 (cell.Mux 14 11 5)) refl ∙ (λ j. if w14 j == 1 then w11 j else w5 j);
      state_next = v.each 18 (one_cell 1 (cell.Mux 7 8 6)) refl ∙ (λ j. if w7 j == 1 then w8 j else w6 j);
      y_next = v.each 19 (one_cell 8 (cell.Mux 8 12 4)) refl ∙ (λ j. if w8 j == 1 then w12 j else w4 j);
      fault_wire = v.each 20 (one_cell 32 (cell.Const 0)) refl;
    }

-- In the step.

-- what the look at ports shows of the bank that is picked
abbrev look_at : (held : List ℕ) → (s : ℕ) → ℕ
look_at held s = slice_index held (port_bound read_plan read_making.uses 0 2 (bank_or_first picked_row.banks s) picked_row)

element_looked_at : (held : List ℕ) (s : ℕ) → s < 2 → element s held ≡ look_at held s
element_looked_at held zero small = refl
element_looked_at held (suc zero) small = refl
element_looked_at held (suc (suc s)) small = absurd (omega (arith, small))

module _ (clock tick s y : ℕ) (small : s < 2) (held wires : List ℕ) (w : Wires 0 clock tick s y held wires) where
  abbrev Solved : (i : ℕ) → Operation → Type 0
  Solved i o =
      word_at 0 (words_of read_making wires 0) (0 + i)
      ≡ operation_word (start_at read_plan (s ∷ y ∷ []) []) (in_ports read_plan read_making.uses held 0) 0 (words_of read_making wires 0) (0 + i) o

  solved : (i : ℕ) (o : Operation) → slice_get read_operations i ≡ Some o → Solved i o
  solved i o at =
      each_place Solved read_operations (
        ap (λ (n : ℕ). with_bits (kind.Unsigned 1) n) w.select_wire,
        (
          ap (λ (n : ℕ). with_bits (kind.Unsigned 1) n) w.zero_wire,
          (
            ap (λ (n : ℕ). with_bits (kind.Unsigned 8) n) (w.element_wire ∙ (element_looked_at held s small ∙ sym (ap (λ (n : ℕ). look_at held n) w.select_wire))),
            (
              ap (λ (n : ℕ). with_bits kind.Bool n) w.zero_wire,
              tt,
            ),
          ),
        ),
      ) i o at

  words_are : (block : ℕ)
      → AreValues (start_at read_plan (s ∷ y ∷ []) []) (in_ports read_plan read_making.uses held block) (first_in read_plan block) (operations_in read_plan block) (words_of read_making wires block)
  words_are zero = record { long = refl; solve = record { each = solved } }
  words_are (suc block) = record { long = refl; solve = record { each = λ i o at. absurd (let f : None ≡ Some o = at in cc) } }

  -- the driver of a port is enabled where its bank is picked, in the first clock
  abbrev Drives : (bank : ℕ) → Port → Driver → Type 0
  Drives bank p d = DrivesFor read_plan read_making.timing (words_of read_making wires) (moment_at read_making (in_state 0) clock (s ∷ y ∷ []) wires) p wires d (user_of bank)

  says_row : slice_index wires 5 ≡ (word_of (kind.Unsigned (row_width_of 1)) (value_of (with_bits (kind.Unsigned 1) (slice_index wires 5)))).bits
  says_row =
      w.zero_wire
      ∙ sym (ap (λ (n : ℕ). (word_of (kind.Unsigned (row_width_of 1)) (value_of (with_bits (kind.Unsigned 1) n))).bits) w.zero_wire
      ∙ ap (λ (k : ℕ). (word_of (kind.Unsigned k) (value_of (with_bits (kind.Unsigned 1) 0))).bits) row_one)

  drives_bank : (bank enable : ℕ) → slice_index wires enable ≡ when ((0 == clock) && (slice_index wires 3 == bank)) → Drives bank (bank_port_of bank) (read_driver enable)
  drives_bank bank enable is = record { enable = is; says = record { reads = refl; row = says_row } }

  drives_as : (bank enable : ℕ) (ds : List Driver) (p : Port) → Drives bank (bank_port_of bank) (read_driver enable) → read_driver enable ∷ [] ≡ ds → bank_port_of bank ≡ p
      → DriveFor read_plan read_making.timing (words_of read_making wires) (moment_at read_making (in_state 0) clock (s ∷ y ∷ []) wires) p wires ds (user_of bank ∷ [])
  drives_as bank enable ds p h list port =
      subst (λ (l : List Driver). DriveFor read_plan read_making.timing (words_of read_making wires) (moment_at read_making (in_state 0) clock (s ∷ y ∷ []) wires) p wires l (user_of bank ∷ [])) list
      (subst (λ (x : Port). Drives bank x (read_driver enable)) port h, tt)

  drives_port : (q : ℕ) (ds : List Driver) (p : Port) → Drives 0 (bank_port_of 0) (read_driver 16) → Drives 1 (bank_port_of 1) (read_driver 17) → slice_get read_net.drivers q ≡ Some ds → slice_get (ports_of two_banks) q ≡ Some p
      → DriveFor read_plan read_making.timing (words_of read_making wires) (moment_at read_making (in_state 0) clock (s ∷ y ∷ []) wires) p wires ds (read_users q)
  drives_port zero ds p first second a b = drives_as 0 16 ds p first (same_item (read_driver 16 ∷ []) ds a) (same_item (bank_port_of 0) p b)
  drives_port (suc zero) ds p first second a b = drives_as 1 17 ds p second (same_item (read_driver 17 ∷ []) ds a) (same_item (bank_port_of 1) p b)
  drives_port (suc (suc q)) ds p first second a b = absurd (let none : None ≡ Some ds = a in cc)

shows_first : (tick s y : ℕ) → s < 2 → (held wires : List ℕ) → Wires 0 0 tick s y held wires → ShowsAtClock read_making read_net read_holds (in_state 0) 0 tick (s ∷ y ∷ []) held wires
shows_first tick s y small held wires w =
    let registers : next_registers read_making read_net read_holds wires ≡ 0 ∷ 1 ∷ 0 ∷ s ∷ y ∷ [] = (λ j. w.state_next j ∷ w.first_wire j ∷ w.last_wire j ∷ w.select_wire j ∷ w.y_next j ∷ []) in
    record {
      words = words_are 0 tick s y small held wires w;
      waits = λ less. (registers, (refl, refl));
      goes_on = λ last none. absurd (omega (arith, last));
      faults = λ fault last some. absurd (let f : None ≡ Some fault = some in cc);
      drives = λ q ds p a b. drives_port 0 tick s y small held wires w q ds p
          (drives_bank 0 tick s y small held wires w 0 16 (w.first_bank ∙ sym (ap (λ (n : ℕ). when (n == 0)) w.select_wire)))
          (drives_bank 0 tick s y small held wires w 1 17 (w.second_bank ∙ sym (ap (λ (n : ℕ). when (n == 1)) w.select_wire))) a b;
      ticks = w.tick_wire;
      not_done = w.state_wire;
      no_fault = w.fault_wire;
    }

shows_last : (tick s y : ℕ) → s < 2 → (held wires : List ℕ) → Wires 0 1 tick s y held wires → ShowsAtClock read_making read_net read_holds (in_state 0) 1 tick (s ∷ y ∷ []) held wires
shows_last tick s y small held wires w =
    let y_is : slice_index wires 19 ≡ slice_index wires 12 = w.y_next ∙ sym w.element_wire in
    let registers : next_registers read_making read_net read_holds wires ≡ 1 ∷ 0 ∷ 1 ∷ s ∷ slice_index wires 12 ∷ [] = (λ j. w.state_next j ∷ w.first_wire j ∷ w.last_wire j ∷ w.select_wire j ∷ y_is j ∷ []) in
    record {
      words = words_are 1 tick s y small held wires w;
      waits = λ less. absurd (omega (arith, less));
      goes_on = λ last none. (registers, (refl, refl));
      faults = λ fault last some. absurd (let f : None ≡ Some fault = some in cc);
      drives = λ q ds p a b. drives_port 1 tick s y small held wires w q ds p (drives_bank 1 tick s y small held wires w 0 16 w.first_bank) (drives_bank 1 tick s y small held wires w 1 17 w.second_bank) a b;
      ticks = w.tick_wire;
      not_done = w.state_wire;
      no_fault = w.fault_wire;
    }

-- Once it is done.

silent_driver : (enable : ℕ) (wires : List ℕ) (ds : List Driver) (d : Driver) (i : ℕ) → slice_index wires enable ≡ 0 → read_driver enable ∷ [] ≡ ds → slice_get ds i ≡ Some d → is_active wires d ≡ false
silent_driver enable wires ds d i none list at =
    each_place (λ n x. is_active wires x ≡ false) (read_driver enable ∷ []) (ap (λ (n : ℕ). n == 1) none, tt) i d (subst (λ (l : List Driver). slice_get l i ≡ Some d) (sym list) at)

silent_at : (clock tick s y : ℕ) (held wires : List ℕ) → Wires 1 clock tick s y held wires → (q i : ℕ) (ds : List Driver) (d : Driver) → slice_get read_net.drivers q ≡ Some ds → slice_get ds i ≡ Some d
    → is_active wires d ≡ false
silent_at clock tick s y held wires w zero i ds d a b = silent_driver 16 wires ds d i w.first_bank (same_item (read_driver 16 ∷ []) ds a) b
silent_at clock tick s y held wires w (suc zero) i ds d a b = silent_driver 17 wires ds d i w.second_bank (same_item (read_driver 17 ∷ []) ds a) b
silent_at clock tick s y held wires w (suc (suc q)) i ds d a b = absurd (let none : None ≡ Some ds = a in cc)

shows_done : (clock tick fault s y : ℕ) (held wires : List ℕ) → fault ≡ 0 → Wires 1 clock tick s y held wires → ShowsOver read_making read_net read_holds tick fault (s ∷ y ∷ []) wires
shows_done clock tick fault s y held wires none w =
    let registers : next_registers read_making read_net read_holds wires ≡ 1 ∷ 0 ∷ 0 ∷ s ∷ y ∷ [] = (λ j. w.state_next j ∷ w.first_wire j ∷ w.last_wire j ∷ w.select_wire j ∷ w.y_next j ∷ []) in
    record {
      stays = (registers, (refl, none));
      silent = silent_at clock tick s y held wires w;
      ticks = w.tick_wire;
      done = w.state_wire ∙ sym (ap (λ (n : ℕ). if n == 0 then 1 else 0) none);
      fault_is = w.fault_wire ∙ sym none;
    }

-- The plan has two registers.

two_items : (xs : List ℕ) → length xs ≡ 2 → (x : ℕ) × ((y : ℕ) × (xs ≡ x ∷ y ∷ []))
two_items [] long = absurd (let l = long in omega (arith, l))
two_items (x ∷ []) long = absurd (let l = long in omega (arith, l))
two_items (x ∷ y ∷ []) long = (x, (y, refl))
two_items (x ∷ y ∷ z ∷ zs) long = absurd (let l = long in omega (arith, l))

bank_small : (state clock tick s y : ℕ) (now : State) → now.registers ≡ state ∷ clock ∷ tick ∷ s ∷ y ∷ [] → FitsNet read_net now → s < 2
bank_small state clock tick s y now registers fits = subst (λ (n : ℕ). n < 2) (ap (λ (rs : List ℕ). slice_index rs 3) registers) (fits.registers 3 (register_of 1 3) refl)

first_or_last : (clock : ℕ) → clock < 2 → (0 ≡ clock) ⊎ (1 ≡ clock)
first_or_last clock h = grind (arith, h)

at_clock_of : (spot : graph.GraphSpot) (clock tick : ℕ) (registers : List ℕ) (now : State) (wires : List ℕ)
    → (blocks_of_spot read_making.flow.states spot ≡ [] → ⊥) → clock < spot_length read_making spot → read_holds spot clock tick 0 registers now.registers
    → FitsNet read_net now → IsValuation two_banks read_cells now.registers now.held wires → ShowsAtClock read_making read_net read_holds spot clock tick registers now.held wires
at_clock_of rests clock tick registers now wires some less h fits v = absurd (some refl)
at_clock_of (in_state zero) clock tick registers now wires some less h fits v =
    let two = two_items registers h.1.0 in
    let own : now.registers ≡ 0 ∷ clock ∷ tick ∷ two.0 ∷ two.1.0 ∷ [] = h.0 ∙ ap (λ (rs : List ℕ). 0 ∷ clock ∷ tick ∷ rs) two.1.1 in
    let small = bank_small 0 clock tick two.0 two.1.0 now own fits in
    subst (λ (rs : List ℕ). ShowsAtClock read_making read_net read_holds (in_state 0) clock tick rs now.held wires) (sym two.1.1) (elim (first_or_last clock less) [
      | inl first ↦
          subst (λ (c : ℕ). ShowsAtClock read_making read_net read_holds (in_state 0) c tick (two.0 ∷ two.1.0 ∷ []) now.held wires) first
          (shows_first tick two.0 two.1.0 small now.held wires (subst (λ (c : ℕ). Wires 0 c tick two.0 two.1.0 now.held wires) (sym first) (read_wires_are 0 clock tick two.0 two.1.0 now wires own v)))
      | inr second ↦
          subst (λ (c : ℕ). ShowsAtClock read_making read_net read_holds (in_state 0) c tick (two.0 ∷ two.1.0 ∷ []) now.held wires) second
          (shows_last tick two.0 two.1.0 small now.held wires (subst (λ (c : ℕ). Wires 0 c tick two.0 two.1.0 now.held wires) (sym second) (read_wires_are 0 clock tick two.0 two.1.0 now wires own v)))
    ])
at_clock_of (in_state (suc state)) clock tick registers now wires some less h fits v = absurd h
at_clock_of (in_fork fork ss) clock tick registers now wires some less h fits v = absurd h

over_of : (clock tick fault : ℕ) (registers : List ℕ) (now : State) (wires : List ℕ) → read_holds rests clock tick fault registers now.registers → IsValuation two_banks read_cells now.registers now.held wires
    → ShowsOver read_making read_net read_holds tick fault registers wires
over_of clock tick fault registers now wires h v =
    let two = two_items registers h.1.0 in
    let own : now.registers ≡ 1 ∷ clock ∷ tick ∷ two.0 ∷ two.1.0 ∷ [] = h.0 ∙ ap (λ (rs : List ℕ). 1 ∷ clock ∷ tick ∷ rs) two.1.1 in
    subst (λ (rs : List ℕ). ShowsOver read_making read_net read_holds tick fault rs wires) (sym two.1.1)
    (shows_done clock tick fault two.0 two.1.0 now.held wires h.1.1 (read_wires_are 1 clock tick two.0 two.1.0 now wires own v))

pub read_net_made : IsNetOf read_making read_net read_holds
read_net_made =
    record {
      valid = read_valid;
      table = refl;
      fault_names = refl;
      users = read_users_are;
      starts = (refl, (refl, refl));
      at_clock = at_clock_of;
      over = λ clock tick fault registers now wires h fits v. over_of clock tick fault registers now wires h v;
    }

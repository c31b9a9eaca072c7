-- A valid net has exactly one valuation of each state, and so exactly one run from it.
-- A form reads only wires before its own. So two valuations that agree below a wire agree at it too,
-- and by induction everywhere. One is found from zeros, wire by wire in order: setting wire n to the
-- value of cell n makes equation n hold and spoils none before it, since no earlier form reads wire n.
-- The same induction bounds each wire by the width of its cell. A clock writes what the one valuation
-- gives, so it leads to one state, and so do many clocks, one after the other.
use Rattle.std.proofs.Common.{◌≡◌, ℕ, zero, suc, ◌^◌, ◌<◌, ◌≤◌, ◌⊎◌, inl, inr, Some, None, List, length, get_or, map, replicate, pos, ◌+ℤ◌, ◌-ℤ◌, ◌*ℤ◌, refl, sym, ap, subst, ◌∙◌, arith}
use Rattle.std.specs.Prelude.{slice_get, option_map, if◌then◌else◌, ◌==◌, Bool, true, false}
use Rattle.std.proofs.Math.ListN.{set}
use Rattle.std.proofs.lemmas.List.{ext_get_or, get_or_past, get_or-set_same, get_or-set_other, length-set, length-replicate}
use Rattle.std.proofs.lemmas.Option.{slice_get_cases, slice_get_within}
use Rattle.std.proofs.lemmas.Nat.{and_le_l, or_lt, xor_lt, pow_pos}
use Rattle.std.proofs.Math.Pow.{pow_mono}
use Rattle.std.proofs.Math.Nat.{mod-lt}
use Rattle.dh_tree.specs.declared.tables.MemEntry.{MemEntry}
use Rattle.dh_net.specs.declared.nets.Register.{Register}
use Rattle.dh_net.specs.declared.nets.Cell.{Cell}
use Rattle.dh_net.specs.declared.nets.CellForm.{CellForm}
use Rattle.dh_net.specs.declared.nets.CellForm.TheVariants.{Const, Reg, Data, Add, Sub, Mul, And, Or, Xor, Shl, ShrU, ShrS, LtU, LtS, Eq, Mux, Zero, Sign, Low}
use Rattle.dh_net.specs.declared.nets.Net.{Net}
use Rattle.std.specs.Int.{int_div_euclid}
use Rattle.dh_value.specs.Words.{signed}
use Rattle.dh_value.proofs.Residues.{residue-lt}
use Rattle.dh_net.specs.BankPorts.{ports_of, port_number}
use Rattle.dh_net.specs.Valid.{HasWidth, FormFits, IsValid}
use Rattle.dh_net.proofs.PortLists.{port_there}
use Rattle.dh_net.specs.Clock.{State, form_value, wire_width, Settles, held_after, memories_after, Clocks, ClocksTo}
use Rattle.dh_net.specs.Laws.{FitsNet, WiresFit, HasOneValuation, HasOneRun}

-- both lists are the same below n
abbrev pub AgreeBelow : ℕ → List ℕ → List ℕ → Type 0
AgreeBelow n ws vs = (k : ℕ) → k < n → get_or ws k 0 ≡ get_or vs k 0

-- a form reads only wires before its own
pub reads_before : (table : List MemEntry) (registers : List Register) (cells : List Cell) (i width : ℕ) (f : CellForm) (rs hs ws vs : List ℕ)
    → FormFits table registers cells i width f → AgreeBelow i ws vs → form_value table cells rs hs ws width f ≡ form_value table cells rs hs vs width f
reads_before table registers cells i width (Const bits) rs hs ws vs h e = refl
reads_before table registers cells i width (Reg register) rs hs ws vs h e = refl
reads_before table registers cells i width (Data memory bank port) rs hs ws vs h e = refl
reads_before table registers cells i width (Add a b) rs hs ws vs h e =
    let x = e a h.left.earlier in
    let y = e b h.right.earlier in
    cc
reads_before table registers cells i width (Sub a b) rs hs ws vs h e =
    let x = e a h.left.earlier in
    let y = e b h.right.earlier in
    cc
reads_before table registers cells i width (Mul a b) rs hs ws vs h e =
    let x = e a h.left.earlier in
    let y = e b h.right.earlier in
    cc
reads_before table registers cells i width (And a b) rs hs ws vs h e =
    let x = e a h.left.earlier in
    let y = e b h.right.earlier in
    cc
reads_before table registers cells i width (Or a b) rs hs ws vs h e =
    let x = e a h.left.earlier in
    let y = e b h.right.earlier in
    cc
reads_before table registers cells i width (Xor a b) rs hs ws vs h e =
    let x = e a h.left.earlier in
    let y = e b h.right.earlier in
    cc
reads_before table registers cells i width (Shl a b) rs hs ws vs h e =
    let x = e a h.0.earlier in
    let y = e b h.1.1.earlier in
    cc
reads_before table registers cells i width (ShrU a b) rs hs ws vs h e =
    let x = e a h.0.earlier in
    let y = e b h.1.1.earlier in
    cc
reads_before table registers cells i width (ShrS a b) rs hs ws vs h e =
    let x = e a h.0.earlier in
    let y = e b h.1.1.earlier in
    cc
reads_before table registers cells i width (LtU a b) rs hs ws vs h e =
    let x = e a h.1.1.left.earlier in
    let y = e b h.1.1.right.earlier in
    cc
reads_before table registers cells i width (LtS a b) rs hs ws vs h e =
    let x = e a h.1.1.left.earlier in
    let y = e b h.1.1.right.earlier in
    cc
reads_before table registers cells i width (Eq a b) rs hs ws vs h e =
    let x = e a h.1.1.left.earlier in
    let y = e b h.1.1.right.earlier in
    cc
reads_before table registers cells i width (Mux c a b) rs hs ws vs h e =
    let x = e a h.1.left.earlier in
    let y = e b h.1.right.earlier in
    let z = e c h.0.earlier in
    cc
reads_before table registers cells i width (Zero a) rs hs ws vs h e =
    let x = e a h.1.0.earlier in
    cc
reads_before table registers cells i width (Sign a) rs hs ws vs h e =
    let x = e a h.1.0.earlier in
    cc
reads_before table registers cells i width (Low a) rs hs ws vs h e =
    let x = e a h.1.0.earlier in
    cc

-- below n + 1 is below n, or at n
pub below_suc : (i n : ℕ) → i < suc n → (i < n) ⊎ (i ≡ n)
below_suc i n h = grind arith

-- two valuations agree at a wire where they agree below it
agree_at : (net : Net) → IsValid net → (s : State) (ws vs : List ℕ) → Settles net s ws → Settles net s vs → (n : ℕ) → AgreeBelow n ws vs
    → get_or ws n 0 ≡ get_or vs n 0
agree_at net valid s ws vs w v n below =
    elim (slice_get_cases net.cells n).1 [
      | inl found ↦ w.each n found.0 found.2 ∙ (reads_before net.table net.registers net.cells n found.0.width found.0.form s.registers s.held ws vs (valid.cells n found.0 found.2).form below ∙ sym (v.each n found.0 found.2))
      | inr past ↦ get_or_past ws n 0 (omega (arith, w.long, past.0)) ∙ sym (get_or_past vs n 0 (omega (arith, v.long, past.0)))
    ]

pub agree_below : (net : Net) → IsValid net → (s : State) (ws vs : List ℕ) → Settles net s ws → Settles net s vs → (n : ℕ) → AgreeBelow n ws vs
agree_below net valid s ws vs w v zero k h = absurd (omega arith)
agree_below net valid s ws vs w v (suc n) k h =
    elim (below_suc k n h) [
      | inl small ↦ agree_below net valid s ws vs w v n k small
      | inr here ↦ subst (λ (x : ℕ). get_or ws x 0 ≡ get_or vs x 0) (sym here) (agree_at net valid s ws vs w v n (agree_below net valid s ws vs w v n))
    ]

-- a state has at most one valuation
pub one_valuation : (net : Net) → IsValid net → (s : State) (ws vs : List ℕ) → Settles net s ws → Settles net s vs → ws ≡ vs
one_valuation net valid s ws vs w v = ext_get_or 0 ws vs (w.long ∙ sym v.long) (λ i h. agree_below net valid s ws vs w v (length ws) i h)

-- as many wires as cells, of which the equations below n hold
record HoldsBelow (table : List MemEntry) (cells : List Cell) (rs hs : List ℕ) (n : ℕ) : Type 0 where
  wires : List ℕ
  long : length wires ≡ length cells
  each : (i : ℕ) (c : Cell) → i < n → slice_get cells i ≡ Some c → get_or wires i 0 ≡ form_value table cells rs hs wires c.width c.form

-- setting a wire changes none before it
set_agrees : (ws : List ℕ) (n v i : ℕ) → i ≤ n → AgreeBelow i ws (set ws n v)
set_agrees ws n v i h k below = sym (get_or-set_other ws n k v 0 (λ same. omega arith))

-- equation n can be made to hold without spoiling those before it
next_holds : (net : Net) → IsValid net → (rs hs : List ℕ) (n : ℕ) (c : Cell) → slice_get net.cells n ≡ Some c
    → HoldsBelow net.table net.cells rs hs n → HoldsBelow net.table net.cells rs hs (suc n)
next_holds net valid rs hs n c at so =
    let value = form_value net.table net.cells rs hs so.wires c.width c.form in
    let inside : n < length so.wires = subst (λ (x : ℕ). n < x) (sym so.long) (slice_get_within net.cells n c at) in
    record {
      wires = set so.wires n value;
      long = length-set so.wires n value ∙ so.long;
      each = λ i d small there.
          elim (below_suc i n small) [
            | inl before ↦
                get_or-set_other so.wires n i value 0 (λ same. omega arith)
                ∙ (so.each i d before there
                ∙ reads_before net.table net.registers net.cells i d.width d.form rs hs so.wires (set so.wires n value) (valid.cells i d there).form (set_agrees so.wires n value i (omega arith)))
            | inr here ↦
                let same : Some c ≡ Some d = sym at ∙ (ap (λ x. slice_get net.cells x) (sym here) ∙ there) in
                let is_c : c ≡ d = cc in
                subst (λ (x : ℕ). get_or (set so.wires n value) x 0 ≡ form_value net.table net.cells rs hs (set so.wires n value) d.width d.form) (sym here)
                (subst (λ (x : Cell). get_or (set so.wires n value) n 0 ≡ form_value net.table net.cells rs hs (set so.wires n value) x.width x.form) is_c
                (get_or-set_same so.wires n value 0 inside
                ∙ reads_before net.table net.registers net.cells n c.width c.form rs hs so.wires (set so.wires n value) (valid.cells n c at).form (set_agrees so.wires n value n (omega arith))))
          ];
    }

holds_below : (net : Net) → IsValid net → (rs hs : List ℕ) (n : ℕ) → HoldsBelow net.table net.cells rs hs n
holds_below net valid rs hs zero =
    record { wires = replicate (length net.cells) 0; long = length-replicate (length net.cells) 0; each = λ i c small there. absurd (omega arith) }
holds_below net valid rs hs (suc n) =
    elim (slice_get_cases net.cells n).1 [
      | inl found ↦ next_holds net valid rs hs n found.0 found.2 (holds_below net valid rs hs n)
      | inr past ↦
          let so = holds_below net valid rs hs n in
          record {
            wires = so.wires;
            long = so.long;
            each = λ i c small there.
                let within = slice_get_within net.cells i c there in
                so.each i c (omega (arith, within, past.0)) there;
          }
    ]

-- a state has a valuation
pub some_valuation : (net : Net) → IsValid net → (s : State) → (ws : List ℕ) × Settles net s ws
some_valuation net valid s =
    let so = holds_below net valid s.registers s.held (length net.cells) in
    (so.wires, record { long = so.long; each = λ i c there. so.each i c (slice_get_within net.cells i c there) there })

pub has_one_valuation : (net : Net) → IsValid net → (s : State) → HasOneValuation net s
has_one_valuation net valid s =
    let some = some_valuation net valid s in
    (some.0, (some.1, λ vs v. one_valuation net valid s vs some.0 v some.1))

-- the state after a clock, by the wires before it
abbrev pub clocked : Net → State → List ℕ → State
clocked net s ws =
    record { registers = map (λ r. get_or ws r.next 0) net.registers; held = held_after net.table ws net.drivers (ports_of net.table) s.memories s.held; memories = memories_after net.table ws net.drivers (ports_of net.table) s.memories }

abbrev state_of : List ℕ → List ℕ → List (List ℕ) → State
state_of rs hs ms = record { registers = rs; held = hs; memories = ms }

-- states are equal where their parts are
pub same_state : (s t : State) → s.registers ≡ t.registers → s.held ≡ t.held → s.memories ≡ t.memories → s ≡ t
same_state s t r h b =
    ap (λ x. state_of x s.held s.memories) r ∙ (ap (λ x. state_of t.registers x s.memories) h ∙ ap (λ x. state_of t.registers t.held x) b)

-- a clock leads to the state that its wires give
pub is_clocked : (net : Net) (a b : State) → (one : Clocks net a b) → b ≡ clocked net a one.wires
is_clocked net a b one = same_state b (clocked net a one.wires) one.registers one.held one.memories

-- a clock leads to at most one state
pub one_clock : (net : Net) → IsValid net → (a b b' : State) → Clocks net a b → Clocks net a b' → b ≡ b'
one_clock net valid a b b' one other =
    is_clocked net a b one
    ∙ (ap (λ ws. clocked net a ws) (one_valuation net valid a one.wires other.wires one.settled other.settled)
    ∙ sym (is_clocked net a b' other))

-- so do any number of them
pub one_run : (net : Net) → IsValid net → (c : ℕ) (a b b' : State) → ClocksTo net c a b → ClocksTo net c a b' → b ≡ b'
one_run net valid zero a b b' one other = sym one ∙ other
one_run net valid (suc c) a b b' one other =
    let same = one_run net valid c a one.0 other.0 one.1.0 other.1.0 in
    one_clock net valid other.0 b b' (subst (λ (x : State). Clocks net x b) same one.1.1) other.1.1

-- a clock leads to some state
pub some_clock : (net : Net) → IsValid net → (s : State) → (t : State) × Clocks net s t
some_clock net valid s =
    let some = some_valuation net valid s in
    (clocked net s some.0, record { wires = some.0; settled = some.1; registers = refl; held = refl; memories = refl })

-- so do any number of them
pub some_run : (net : Net) → IsValid net → (c : ℕ) (s : State) → (t : State) × ClocksTo net c s t
some_run net valid zero s = (s, refl)
some_run net valid (suc c) s =
    let mid = some_run net valid c s in
    let last = some_clock net valid mid.0 in
    (last.0, (mid.0, (mid.1, last.1)))

pub has_one_run : (net : Net) → IsValid net → (c : ℕ) (s : State) → HasOneRun net c s
has_one_run net valid c s =
    let some = some_run net valid c s in
    (some.0, (some.1, λ u run. one_run net valid c s u some.0 run some.1))

-- the item at a place where there is one with this width
pub item_of : {X : Type 0} (wide : X → ℕ) (xs : List X) (i width : ℕ) → option_map wide (slice_get xs i) ≡ Some width
    → (x : X) × ((slice_get xs i ≡ Some x) × (wide x ≡ width))
item_of wide xs i width is =
    elim (slice_get_cases xs i).1 [
      | inl found ↦
          let there : Some (wide found.0) ≡ Some width = sym (ap (λ o. option_map wide o) found.2) ∙ is in
          (found.0, (found.2, cc))
      | inr past ↦
          let none : None ≡ Some width = sym (ap (λ o. option_map wide o) past.1) ∙ is in
          absurd (cc)
    ]

-- the cell of a wire that has a width
pub cell_of : (cells : List Cell) (a width : ℕ) → HasWidth cells a width → (c : Cell) × ((slice_get cells a ≡ Some c) × (c.width ≡ width))
cell_of cells a width is = item_of (λ c. c.width) cells a width is

-- the wires before this one fit
abbrev pub FitBelow : List Cell → ℕ → List ℕ → Type 0
FitBelow cells n ws = (k : ℕ) (c : Cell) → k < n → slice_get cells k ≡ Some c → get_or ws k 0 < 2 ^ c.width

pub operand_fits : (cells : List Cell) (i a width : ℕ) (ws : List ℕ) → FitBelow cells i ws → a < i → HasWidth cells a width → get_or ws a 0 < 2 ^ width
operand_fits cells i a width ws below earlier wide =
    let found = cell_of cells a width wide in
    subst (λ (x : ℕ). get_or ws a 0 < 2 ^ x) found.1.1 (below a found.0 earlier found.1.0)

chosen_lt : (t : Bool) (x y m : ℕ) → x < m → y < m → (if t then x else y) < m
chosen_lt true x y m p q = p
chosen_lt false x y m p q = q

less_than : {a b c : ℕ} → a ≤ b → b < c → a < c
less_than p q = omega (arith, p, q)

below_le : {a b : ℕ} → a < b → a ≤ b
below_le p = omega (arith, p)

-- a truth fits one bit
bit_fits : (width : ℕ) (t : Bool) → width ≡ 1 → (if t then 1 else 0) < 2 ^ width
bit_fits width t one = subst (λ (x : ℕ). (if t then 1 else 0) < 2 ^ x) (sym one) (chosen_lt t 1 0 2 (omega arith) (omega arith))

-- the value of a form fits, where the wires before it do
pub form_fits : (net : Net) (s : State) (ws : List ℕ) → FitsNet net s → (i width : ℕ) (f : CellForm) → FormFits net.table net.registers net.cells i width f
    → FitBelow net.cells i ws → form_value net.table net.cells s.registers s.held ws width f < 2 ^ width
form_fits net s ws fits i width (Const bits) h below = h
form_fits net s ws fits i width (Reg register) h below =
    let found = item_of (λ r. r.width) net.registers register width h in
    subst (λ (x : ℕ). get_or s.registers register 0 < 2 ^ x) found.1.1 (fits.registers register found.0 found.1.0)
form_fits net s ws fits i width (Data memory bank port) h below =
    let found = port_there net.table memory bank port width h in
    subst (λ (x : ℕ). get_or s.held (port_number net.table memory bank port) 0 < 2 ^ x) found.1.1 (fits.held (port_number net.table memory bank port) found.0 found.1.0)
form_fits net s ws fits i width (Add a b) h below = residue-lt (2 ^ width) (pos (get_or ws a 0) +ℤ pos (get_or ws b 0)) (pow_pos width)
form_fits net s ws fits i width (Sub a b) h below = residue-lt (2 ^ width) (pos (get_or ws a 0) -ℤ pos (get_or ws b 0)) (pow_pos width)
form_fits net s ws fits i width (Mul a b) h below = residue-lt (2 ^ width) (pos (get_or ws a 0) *ℤ pos (get_or ws b 0)) (pow_pos width)
form_fits net s ws fits i width (And a b) h below =
    less_than (and_le_l (get_or ws a 0) (get_or ws b 0)) (operand_fits net.cells i a width ws below h.left.earlier h.left.wide)
form_fits net s ws fits i width (Or a b) h below =
    or_lt width _ _ (operand_fits net.cells i a width ws below h.left.earlier h.left.wide) (operand_fits net.cells i b width ws below h.right.earlier h.right.wide)
form_fits net s ws fits i width (Xor a b) h below =
    xor_lt width _ _ (operand_fits net.cells i a width ws below h.left.earlier h.left.wide) (operand_fits net.cells i b width ws below h.right.earlier h.right.wide)
form_fits net s ws fits i width (Shl a b) h below = residue-lt (2 ^ width) (pos (get_or ws a 0) *ℤ pos (2 ^ get_or ws b 0)) (pow_pos width)
form_fits net s ws fits i width (ShrU a b) h below = residue-lt (2 ^ width) (int_div_euclid (pos (get_or ws a 0)) (pos (2 ^ get_or ws b 0))) (pow_pos width)
form_fits net s ws fits i width (ShrS a b) h below = residue-lt (2 ^ width) (int_div_euclid (signed width (get_or ws a 0)) (pos (2 ^ get_or ws b 0))) (pow_pos width)
form_fits net s ws fits i width (LtU a b) h below = bit_fits width _ h.0
form_fits net s ws fits i width (LtS a b) h below = bit_fits width _ h.0
form_fits net s ws fits i width (Eq a b) h below = bit_fits width _ h.0
form_fits net s ws fits i width (Mux c a b) h below =
    chosen_lt (get_or ws c 0 == 1) _ _ _ (operand_fits net.cells i a width ws below h.1.left.earlier h.1.left.wide) (operand_fits net.cells i b width ws below h.1.right.earlier h.1.right.wide)
form_fits net s ws fits i width (Zero a) h below =
    let small = operand_fits net.cells i a h.0 ws below h.1.0.earlier h.1.0.wide in
    let more : 2 ^ h.0 ≤ 2 ^ width = pow_mono (below_le h.1.1) in
    omega (arith, small, more)
form_fits net s ws fits i width (Sign a) h below = residue-lt (2 ^ width) (signed (wire_width net.cells a) (get_or ws a 0)) (pow_pos width)
form_fits net s ws fits i width (Low a) h below = mod-lt (get_or ws a 0) (pow_pos width)

fit_below : (net : Net) → IsValid net → (s : State) (ws : List ℕ) → Settles net s ws → FitsNet net s → (n : ℕ) → FitBelow net.cells n ws
fit_below net valid s ws w fits zero k c small there = absurd (omega arith)
fit_below net valid s ws w fits (suc n) k c small there =
    elim (below_suc k n small) [
      | inl before ↦ fit_below net valid s ws w fits n k c before there
      | inr here ↦
          subst (λ (x : ℕ). x < 2 ^ c.width) (sym (w.each k c there))
          (form_fits net s ws fits k c.width c.form (valid.cells k c there).form
          (λ j d before. fit_below net valid s ws w fits n j d (omega (arith, here, before))))
    ]

-- in a state that fits, every wire fits
pub wires_fit : (net : Net) → IsValid net → (s : State) (ws : List ℕ) → Settles net s ws → FitsNet net s → WiresFit net.cells ws
wires_fit net valid s ws w fits i c there = fit_below net valid s ws w fits (suc i) i c (omega arith) there

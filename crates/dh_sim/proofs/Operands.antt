-- Every cell of a valid net finds what it names, and its operands are words where the wires before it fit.
use Rattle.std.proofs.Common.{◌≡◌, ℕ, ◌^◌, ◌<◌, ◌≤◌, List, length, get_or, Some, None, refl, sym, ap, subst, ◌∙◌, arith}
use Rattle.std.specs.Prelude.{slice_get, Option, option_map}
use Rattle.std.proofs.Math.Pow.{pow_mono}
use Rattle.std.proofs.lemmas.Option.{slice_get_within}
use Rattle.dh_net.specs.BankPorts.{ports_of, port_number}
use Rattle.dh_net.specs.Clock.{width_in, wire_width}
use Rattle.dh_net.specs.Valid.{HasWidth, FormFits, IsOperand, IsValid}
use Rattle.dh_net.specs.declared.nets.Cell.{Cell}
use Rattle.dh_net.specs.declared.nets.CellForm.{CellForm}
use Rattle.dh_net.specs.declared.nets.CellForm.TheVariants.{Const, Reg, Data, Add, Sub, Mul, And, Or, Xor, Shl, ShrU, ShrS, LtU, LtS, Eq, Mux, Zero, Sign, Low}
use Rattle.dh_net.specs.declared.nets.Net.{Net}
use Rattle.dh_net.proofs.PortLists.{port_there}
use Rattle.dh_net.proofs.Valuations.{FitBelow, cell_of, item_of, operand_fits}
use Rattle.dh_sim.specs.Rooms.{IsInRooms, AreWords, WireFits}

module _ (net : Net) (valid : IsValid net) (rs hs ws : List ℕ) (i : ℕ) (width : ℕ)
    (registers : length rs ≡ length net.registers) (held : length hs ≡ length net.drivers) (long : length ws ≡ length net.cells) where
  wire_in : (a wide : ℕ) → HasWidth net.cells a wide → a < length ws
  wire_in a wide h =
      let found = cell_of net.cells a wide h in
      let within = slice_get_within net.cells a found.0 found.1.0 in
      omega (arith, within, long)

  pub rooms_in : (f : CellForm) → FormFits net.table net.registers net.cells i width f → IsInRooms net.table (length rs) (length hs) (length ws) f
  rooms_in (Const bits) h = tt
  rooms_in (Reg register) h =
      let found = item_of (λ r. r.width) net.registers register width h in
      let within = slice_get_within net.registers register found.0 found.1.0 in
      omega (arith, within, registers)
  rooms_in (Data memory bank port) h =
      let found = port_there net.table memory bank port width h in
      let within = slice_get_within (ports_of net.table) (port_number net.table memory bank port) found.0 found.1.0 in
      let ports = valid.ports in
      (slice_get_within net.table memory h.entry h.there, omega (arith, within, held, ports))
  rooms_in (Add a b) h = (wire_in a width h.left.wide, wire_in b width h.right.wide)
  rooms_in (Sub a b) h = (wire_in a width h.left.wide, wire_in b width h.right.wide)
  rooms_in (Mul a b) h = (wire_in a width h.left.wide, wire_in b width h.right.wide)
  rooms_in (And a b) h = (wire_in a width h.left.wide, wire_in b width h.right.wide)
  rooms_in (Or a b) h = (wire_in a width h.left.wide, wire_in b width h.right.wide)
  rooms_in (Xor a b) h = (wire_in a width h.left.wide, wire_in b width h.right.wide)
  rooms_in (Shl a b) h = (wire_in a width h.0.wide, wire_in b h.1.0 h.1.1.wide)
  rooms_in (ShrU a b) h = (wire_in a width h.0.wide, wire_in b h.1.0 h.1.1.wide)
  rooms_in (ShrS a b) h = (wire_in a width h.0.wide, wire_in b h.1.0 h.1.1.wide)
  rooms_in (LtU a b) h = (wire_in a h.1.0 h.1.1.left.wide, wire_in b h.1.0 h.1.1.right.wide)
  rooms_in (LtS a b) h = (wire_in a h.1.0 h.1.1.left.wide, wire_in b h.1.0 h.1.1.right.wide)
  rooms_in (Eq a b) h = (wire_in a h.1.0 h.1.1.left.wide, wire_in b h.1.0 h.1.1.right.wide)
  rooms_in (Mux c a b) h = (wire_in c 1 h.0.wide, (wire_in a width h.1.left.wide, wire_in b width h.1.right.wide))
  rooms_in (Zero a) h = wire_in a h.0 h.1.0.wide
  rooms_in (Sign a) h = wire_in a h.0 h.1.0.wide
  rooms_in (Low a) h = wire_in a h.0 h.1.0.wide

width_told : (cells : List Cell) (a wide : ℕ) → HasWidth cells a wide → wire_width cells a ≡ wide
width_told cells a wide h = by (slice_get cells a) h
  where
    by : (o : Option Cell) → option_map (λ c. c.width) o ≡ Some wide → width_in o ≡ wide
    by None e = absurd (cc)
    by (Some c) e = cc

module _ (net : Net) (valid : IsValid net) (ws : List ℕ) (i width : ℕ) (below : FitBelow net.cells i ws) where
  fits : (a wide : ℕ) → IsOperand net.cells i a wide → WireFits ws a wide
  fits a wide h = operand_fits net.cells i a wide ws below h.earlier h.wide

  sized : (a wide : ℕ) → HasWidth net.cells a wide → (1 ≤ wide) × (wide ≤ 64)
  sized a wide h =
      let found = cell_of net.cells a wide h in
      let cell = valid.cells a found.0 found.1.0 in
      (subst (λ (w : ℕ). 1 ≤ w) found.1.1 cell.least, subst (λ (w : ℕ). w ≤ 64) found.1.1 cell.greatest)

  amount : (b wide : ℕ) → IsOperand net.cells i b wide → WireFits ws b 64
  amount b wide h =
      let small = fits b wide h in
      let more : 2 ^ wide ≤ 2 ^ 64 = pow_mono (sized b wide h.wide).1 in
      omega (arith, small, more)

  at_width : (a wide : ℕ) → IsOperand net.cells i a wide → (a' : ℕ) → WireFits ws a' wide → HasWidth net.cells a wide → WireFits ws a' (wire_width net.cells a)
  at_width a wide h a' small known = subst (λ (w : ℕ). WireFits ws a' w) (sym (width_told net.cells a wide known)) small

  pub words_in : (f : CellForm) → FormFits net.table net.registers net.cells i width f → AreWords net.cells ws width f
  words_in (Const bits) h = tt
  words_in (Reg register) h = tt
  words_in (Data memory bank port) h = tt
  words_in (Add a b) h = (fits a width h.left, fits b width h.right)
  words_in (Sub a b) h = (fits a width h.left, fits b width h.right)
  words_in (Mul a b) h = (fits a width h.left, fits b width h.right)
  words_in (And a b) h = tt
  words_in (Or a b) h = tt
  words_in (Xor a b) h = tt
  words_in (Shl a b) h = (fits a width h.0, amount b h.1.0 h.1.1)
  words_in (ShrU a b) h = (fits a width h.0, amount b h.1.0 h.1.1)
  words_in (ShrS a b) h = (fits a width h.0, amount b h.1.0 h.1.1)
  words_in (LtU a b) h = tt
  words_in (LtS a b) h =
      let ops = h.1.1 in
      let wide = h.1.0 in
      let known = width_told net.cells a wide ops.left.wide in (
        subst (λ (w : ℕ). (1 ≤ w) × (w ≤ 64)) (sym known) (sized a wide ops.left.wide),
        (at_width a wide ops.left a (fits a wide ops.left) ops.left.wide, at_width a wide ops.left b (fits b wide ops.right) ops.left.wide),
      )
  words_in (Eq a b) h = tt
  words_in (Mux c a b) h = tt
  words_in (Zero a) h = tt
  words_in (Sign a) h =
      let known = width_told net.cells a h.0 h.1.0.wide in
      (subst (λ (w : ℕ). (1 ≤ w) × (w ≤ 64)) (sym known) (sized a h.0 h.1.0.wide), at_width a h.0 h.1.0 a (fits a h.0 h.1.0) h.1.0.wide)
  words_in (Low a) h = tt

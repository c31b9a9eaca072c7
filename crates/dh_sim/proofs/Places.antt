-- What a valid net names is there: a wire with a width is one of the cells, so a register's next wire
-- and the wires of a driver are.
use Rattle.std.proofs.Common.{◌≡◌, ℕ, ◌<◌, inl, inr, Some, List, length, get_or, sym, ap, subst, ◌∙◌, arith}
use Rattle.std.specs.Prelude.{slice_get}
use Rattle.std.proofs.lemmas.Option.{slice_get_cases, slice_get_within, slice_get-get_or}
use Rattle.dh_net.specs.declared.nets.Cell.{Cell}
use Rattle.dh_net.specs.declared.nets.Register.{Register}
use Rattle.dh_net.specs.declared.nets.Driver.{Driver}
use Rattle.dh_net.specs.declared.nets.Net.{Net}
use Rattle.dh_net.specs.BankPorts.{ports_of}
use Rattle.dh_net.specs.Valid.{HasWidth, IsValid}
use Rattle.dh_net.proofs.Valuations.{cell_of}
use Rattle.dh_sim.specs.Rooms.{AreDriversInRooms}

pub wide_within : (cells : List Cell) (a width : ℕ) → HasWidth cells a width → a < length cells
wide_within cells a width h = let found = cell_of cells a width h in slice_get_within cells a found.0 found.1.0

pub next_within : (net : Net) → IsValid net → (items : List Register) (i wires : ℕ) (d : Register) → items ≡ net.registers → i < length items → wires ≡ length net.cells
    → (get_or items i d).next < wires
next_within net valid items i wires d same h long =
    let there : slice_get net.registers i ≡ Some (get_or items i d) = subst (λ (xs : List Register). slice_get xs i ≡ Some (get_or items i d)) same (slice_get-get_or items i d h) in
    let within = wide_within net.cells _ _ (valid.registers i _ there).next in
    omega arith

pub drivers_within : (net : Net) → IsValid net → (i wires : ℕ) (ds : List Driver) → slice_get net.drivers i ≡ Some ds → wires ≡ length net.cells → AreDriversInRooms wires ds
drivers_within net valid i wires ds there long k d at =
    let inside : i < length (ports_of net.table) = (let w = slice_get_within net.drivers i ds there in omega (arith, valid.ports)) in
    elim (slice_get_cases (ports_of net.table) i).1 [
      | inl port ↦
          let ok = valid.drivers i ds port.0 there port.2 k d at in
          record {
            enable = subst (λ (n : ℕ). d.enable < n) (sym long) (wide_within net.cells _ _ ok.enable);
            row = subst (λ (n : ℕ). d.row < n) (sym long) (wide_within net.cells _ _ ok.row);
            out = λ w. subst (λ (n : ℕ). d.data_ < n) (sym long) (wide_within net.cells _ _ (ok.out w));
          }
      | inr past ↦ absurd (omega (arith, past.0))
    ]

-- the same of an item of the net's list of ports, as a slice of its drivers
pub item_within : (net : Net) → IsValid net → (items : List (List Driver)) (p wires : ℕ) (item drivers : List Driver) → items ≡ net.drivers → p < length items
    → item ≡ get_or items p item → drivers ≡ item → wires ≡ length net.cells → AreDriversInRooms wires drivers
item_within net valid items p wires item drivers same h is slice long =
    let there : slice_get net.drivers p ≡ Some drivers =
    subst (λ (xs : List (List Driver)). slice_get xs p ≡ Some drivers) same (slice_get-get_or items p item h ∙ ap Some (sym is ∙ sym slice)) in
    drivers_within net valid p wires drivers there long

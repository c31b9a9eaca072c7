-- The joined net is valid, and in a state that both nets have its wires show on old cells what those of the old net do.
-- The old cells stand where they stood. So the first wires of the new net solve the equations of the old one, and are
-- those that the old net has.
use Rattle.std.proofs.Common.{◌≡◌, ℕ, zero, suc, ◌<◌, ◌≤◌, inl, inr, Some, List, [], ◌∷◌, length, take, refl, sym, ap, subst, ◌∙◌, arith}
use Rattle.std.specs.Prelude.{slice_get, slice_index}
use Rattle.std.specs.List.{AllByRecursion}
use Rattle.std.proofs.lemmas.List.{get_or-take, length-take-le}
use Rattle.std.proofs.lemmas.Option.{slice_get_cases, slice_get_within}
use Rattle.dh_tree.specs.declared.tables.MemEntry.{MemEntry}
use Rattle.dh_tree.specs.Shapes.{IsProgramTable}
use Rattle.dh_net.specs.BankPorts.{ports_of}
use Rattle.dh_net.specs.Clock.{State, form_value, Settles}
use Rattle.dh_net.specs.Laws.{FitsNet}
use Rattle.dh_net.specs.Valid.{HasWidth, IsRegister, IsDriver, IsValid}
use Rattle.dh_net.specs.declared.nets.Cell.{Cell}
use Rattle.dh_net.specs.declared.nets.CellForm.TheVariants.{Or, Mux}
use Rattle.dh_net.specs.declared.nets.Driver.{Driver}
use Rattle.dh_net.specs.declared.nets.Net.{Net}
use Rattle.dh_net.specs.declared.nets.Register.{Register}
use Rattle.dh_net.specs.declared.ports.Port.{Port}
use Rattle.dh_net.proofs.Valuations.{cell_of, one_valuation, reads_before, wires_fit}
use Rattle.dh_cells.specs.PlainCircuits.{circuit_of}
use Rattle.dh_cells.specs.Settled.{BeginsWith}
use Rattle.dh_cells.proofs.CellsAppended.{width_later, measured_by_fit, value_later}
use Rattle.dh_join.specs.AddedCells.{AreNetCells, ShowsChoices}
use Rattle.dh_join.specs.JoinedPorts.{PortsJoined, DrivesAs}
use Rattle.dh_join.proofs.PortsDriven.{Agrees, drives_agree, drives_then}
use Rattle.dh_net.specs.Parts.{one_cell}

-- what the new net is by the old one and the drivers that were joined
pub record IsDrivenBy (old new : Net) : Type 0 where
  pub valid : IsValid old
  pub table : new.table ≡ old.table
  pub faults : new.faults ≡ old.faults
  pub registers : new.registers ≡ old.registers
  pub tick : new.tick ≡ old.tick
  pub done : new.done ≡ old.done
  pub fault : new.fault ≡ old.fault
  pub joined : PortsJoined old.cells new.cells (ports_of old.table) old.drivers new.drivers

-- an item at each place within
pub item_at : {A : Type 0} (xs : List A) (i : ℕ) → i < length xs → (x : A) × (slice_get xs i ≡ Some x)
item_at xs i inside =
    elim (slice_get_cases xs i).1 [
      | inl found ↦ (found.0, found.2)
      | inr past ↦ absurd (let beyond = past.0 in omega (arith, beyond, inside))
    ]

module _ (old new : Net) (h : IsDrivenBy old new) where
  abbrev begins : BeginsWith new.cells old.cells
  begins = h.joined.grows.begins

  -- validity

  wire_later : (wire width : ℕ) → HasWidth old.cells wire width → HasWidth new.cells wire width
  wire_later wire width wide = width_later old.cells new.cells wire width h.joined.grows.begins wide

  new_register : (r : Register) → IsRegister old.cells r → IsRegister new.cells r
  new_register r k = record { least = k.least; greatest = k.greatest; initial = k.initial; next = wire_later r.next r.width k.next }

  new_cells : AreNetCells new.table new.registers new.cells
  new_cells =
      subst (λ (t : List MemEntry). AreNetCells t new.registers new.cells) (sym h.table)
      (subst (λ (rs : List Register). AreNetCells old.table rs new.cells) (sym h.registers) (h.joined.grows.valid old.table old.registers h.valid.cells))

  new_driver : (q : ℕ) (es : List Driver) (p : Port) → slice_get new.drivers q ≡ Some es → slice_get (ports_of new.table) q ≡ Some p
      → (k : ℕ) (e : Driver) → slice_get es k ≡ Some e → IsDriver new.cells p e
  new_driver q es p list_at port_at k e at =
      let inside = slice_get_within new.drivers q es list_at in
      let long = h.joined.long in
      let given = item_at old.drivers q (omega (arith, inside, long)) in
      (h.joined.each q p given.0 es (subst (λ (t : List MemEntry). slice_get (ports_of t) q ≡ Some p) h.table port_at) given.1 list_at).drive k e at

  pub new_valid : IsValid new
  new_valid = record {
    table = subst (λ (t : List MemEntry). IsProgramTable t) (sym h.table) h.valid.table;
    registers = λ i r at. new_register r (h.valid.registers i r (subst (λ (rs : List Register). slice_get rs i ≡ Some r) h.registers at));
    cells = new_cells;
    ports = h.joined.long ∙ (h.valid.ports ∙ ap (λ (t : List MemEntry). length (ports_of t)) (sym h.table));
    drivers = new_driver;
    tick = subst (λ (n : ℕ). HasWidth new.cells n 1) (sym h.tick) (wire_later old.tick 1 h.valid.tick);
    done = subst (λ (n : ℕ). HasWidth new.cells n 1) (sym h.done) (wire_later old.done 1 h.valid.done);
    fault = subst (λ (n : ℕ). HasWidth new.cells n 32) (sym h.fault) (wire_later old.fault 32 h.valid.fault);
  }

  -- wires

  module _ (s : State) (vs : List ℕ) (settled : Settles new s vs) where
    abbrev first_wires : List ℕ
    first_wires = take (length old.cells) vs

    enough : length old.cells ≤ length vs
    enough = by (length old.cells) refl
      where
        by : (n : ℕ) → length old.cells ≡ n → n ≤ length vs
        by zero e = omega arith
        by (suc n) e =
            let c = item_at old.cells n (omega (arith, e)) in
            let inside = slice_get_within new.cells n c.0 (h.joined.grows.begins n c.0 c.1) in
            let long = settled.long in
            omega (arith, inside, long)

    first_is : (i : ℕ) → i < length old.cells → slice_index (take (length old.cells) vs) i ≡ slice_index vs i
    first_is i inside = get_or-take (length old.cells) vs i 0 inside

    first_value : (i : ℕ) (c : Cell) → slice_get old.cells i ≡ Some c
        → form_value old.table old.cells s.registers s.held (take (length old.cells) vs) c.width c.form ≡ form_value new.table new.cells s.registers s.held vs c.width c.form
    first_value i c at =
        let inside = slice_get_within old.cells i c at in
        let fits = (h.valid.cells i c at).form in
        reads_before old.table old.registers old.cells i c.width c.form s.registers s.held (take (length old.cells) vs) vs fits (λ k less. first_is k (omega (arith, less, inside)))
        ∙ (sym (value_later (circuit_of old.table [] old.cells) (circuit_of old.table [] new.cells) (record { table = refl; widths = refl; cells = h.joined.grows.begins })
        s.registers s.held vs c.width c.form (measured_by_fit old.table old.registers old.cells i c.width c.form (omega (arith, inside)) fits))
        ∙ ap (λ (t : List MemEntry). form_value t new.cells s.registers s.held vs c.width c.form) (sym h.table))

    first_settles : Settles old s (take (length old.cells) vs)
    first_settles = record {
      long = length-take-le (length old.cells) vs enough;
      each = λ i c at. first_is i (slice_get_within old.cells i c at) ∙ (settled.each i c (h.joined.grows.begins i c at) ∙ sym (first_value i c at));
    }

    pub wires_same : (ws : List ℕ) → Settles old s ws → (i : ℕ) → i < length old.cells → slice_index vs i ≡ slice_index ws i
    wires_same ws w i inside =
        sym (first_is i inside) ∙ ap (λ (l : List ℕ). slice_index l i) (one_valuation old h.valid s (take (length old.cells) vs) ws first_settles w)

    -- what the new cells choose
    fits_new : FitsNet old s → FitsNet new s
    fits_new f = record {
      registers = λ i r at. f.registers i r (subst (λ (rs : List Register). slice_get rs i ≡ Some r) h.registers at);
      held = λ i p at. f.held i p (subst (λ (t : List MemEntry). slice_get (ports_of t) i ≡ Some p) h.table at);
    }

    pub shows_choices : FitsNet old s → ShowsChoices new.cells vs
    shows_choices f = record {
      small = wires_fit new new_valid s vs settled (fits_new f);
      either = λ i width a b at. settled.each i (one_cell width (Or a b)) at;
      choice = λ i width c a b at. settled.each i (one_cell width (Mux c a b)) at;
    }

    -- so each port is driven the same
    module _ (ws : List ℕ) (w : Settles old s ws) where
      wide_same : (a width : ℕ) → HasWidth old.cells a width → slice_index vs a ≡ slice_index ws a
      wide_same a width wide = (let c = cell_of old.cells a width wide in wires_same ws w a (slice_get_within old.cells a c.0 c.1.0))

      drivers_agree : (p : Port) (ds : List Driver) → ((k : ℕ) (d : Driver) → slice_get ds k ≡ Some d → IsDriver old.cells p d) → AllByRecursion (Agrees ws vs) ds
      drivers_agree p [] all = tt
      drivers_agree p (d ∷ ds) all =
          let own = all 0 d refl in (
            record { enable = wide_same d.enable 1 own.enable; row = wide_same d.row p.row_width own.row; out = λ on. wide_same d.data_ p.width (own.out on) },
            drivers_agree p ds (λ k e at. all (suc k) e at),
          )

      pub drives_same : FitsNet old s → (q : ℕ) (ds es : List Driver) → slice_get old.drivers q ≡ Some ds → slice_get new.drivers q ≡ Some es → DrivesAs ws ds vs es
      drives_same f q ds es given there =
          let inside = slice_get_within old.drivers q ds given in
          let ports = h.valid.ports in
          let p = item_at (ports_of old.table) q (omega (arith, inside, ports)) in
          drives_then ws vs vs ds ds es (drives_agree ws vs ds (drivers_agree p.0 ds (λ k d at. h.valid.drivers q ds p.0 given p.1 k d at)))
          ((h.joined.each q p.0 ds es p.1 given there).shows vs (shows_choices f))

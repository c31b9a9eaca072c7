-- A text tells its net. The parts of two equal texts are peeled off in order: each list of lines ends
-- where another kind of line begins, which a byte of it shows, so each part is the same in both.
use Rattle.std.proofs.Common.{◌≡◌, ℕ, Bool, true, false, if◌then◌else◌, List, [], ◌∷◌, ◌++◌, ◌∙◌, ap, sym, refl, length, append_assoc}
use Rattle.std.specs.Prelude.{codes, slice_index}
use Rattle.std.proofs.lemmas.List.{append_cancel_left}
use Rattle.dh_base.specs.declared.outcomes.FaultKind.{FaultKind}
use Rattle.dh_base.specs.declared.places.Place.{Place}
use Rattle.dh_tree.specs.declared.tables.MemEntry.{MemEntry}
use Rattle.dh_net.specs.declared.nets.Cell.{Cell}
use Rattle.dh_net.specs.declared.nets.Driver.{Driver}
use Rattle.dh_net.specs.declared.nets.Net.{Net}
use Rattle.dh_net.specs.declared.nets.Register.{Register}
use Rattle.dh_net.specs.Valid.{IsValid}
use Rattle.dh_net.specs.BankPorts.{ports_of}
use Rattle.dh_net.specs.declared.ports.Port.{Port}
use Rattle.dh_verilog.specs.Listed.{each, each_numbered}
use Rattle.dh_verilog.specs.Head.{memory_line, fault_line, module_text}
use Rattle.dh_verilog.specs.Locals.{declared_text, served_lines, local_served}
use Rattle.dh_verilog.specs.Driving.{driving_text}
use Rattle.dh_net.specs.Valid.{HasReadsZero}
use Rattle.dh_verilog.specs.Ranges.{IsPlaceInRange, InRange}
use Rattle.dh_verilog.specs.Text.{register_line, cell_line, outputs_text, update_line, clock_text, text_of}
use Rattle.dh_verilog.proofs.Reading.{unlike}
use Rattle.dh_verilog.proofs.Shapes.{Piece, fixed, numeral, same_line}
use Rattle.dh_verilog.proofs.Lines.{Pointwise, Ends, equal_items, same_numbered}
use Rattle.dh_verilog.proofs.Declared.{Anything, IsSmallRegister, StartsAlike, StepsAlike, register_begins, register_tells, update_begins, update_tells, one_register, cells_tell}
use Rattle.dh_verilog.proofs.Commented.{IsSmallEntry, memory_begins, memory_tells, fault_begins, fault_tells}
use Rattle.dh_verilog.proofs.Driven.{same_driving}
use Rattle.dh_verilog.proofs.Small.{table_small, ports_small, registers_small, cells_small, drivers_small, HasSmallOutputs, outputs_small}

-- what follows each part
abbrev last : List Port → List ℕ
last ports = each local_served ports ++ codes "  end\nendmodule\n"

abbrev after_drivers : Net → List ℕ
after_drivers net = outputs_text net.tick net.done net.fault ++ clock_text net.registers (ports_of net.table)

abbrev after_cells : Net → List ℕ
after_cells net = driving_text (ports_of net.table) net.drivers ++ after_drivers net

abbrev after_registers : Net → List ℕ
after_registers net = each_numbered (cell_line net.cells) 0 net.cells ++ after_cells net

abbrev after_module : Net → List ℕ
after_module net = each_numbered register_line 0 net.registers ++ after_registers net

-- the module's ports and the declarations of the local ones
abbrev of_ports : List Port → List ℕ
of_ports ports = module_text ports ++ declared_text ports

abbrev after_faults : Net → List ℕ
after_faults net = of_ports (ports_of net.table) ++ after_module net

abbrev after_memories : Net → List ℕ
after_memories net = each_numbered fault_line 1 net.faults ++ after_faults net

-- the same text, grouped to the right
grouped : (net : Net) → text_of net ≡ codes "// dahlia netlist 1\n" ++ (each_numbered memory_line 0 net.table ++ after_memories net)
grouped net = four (codes "// dahlia netlist 1\n") (each_numbered memory_line 0 net.table) (each_numbered fault_line 1 net.faults) (of_ports (ports_of net.table)) (after_module net)
  where
    four : (a b c d x : List ℕ) → (a ++ (b ++ (c ++ d))) ++ x ≡ a ++ (b ++ (c ++ (d ++ x)))
    four a b c d x = simp append_assoc

ends : (k v u : ℕ) (x : List ℕ) → (slice_index x k ≡ u) → (v ≡ u → ⊥) → Ends k v Anything x
ends k v u x at other = record { other = λ e. other (sym e ∙ at); next = tt }

faults_end : (fs : List (FaultKind × Place)) (x : List ℕ) → slice_index x 3 ≡ 117 → Ends 3 109 Anything (each_numbered fault_line 1 fs ++ x)
faults_end [] x at = ends 3 109 117 x at (unlike 109 117 refl)
faults_end (f ∷ fs) x at = ends 3 109 102 (each_numbered fault_line 1 (f ∷ fs) ++ x) refl (unlike 109 102 refl)

cells_end : (all cs : List Cell) (x : List ℕ) → slice_index x 2 ≡ 97 → Ends 2 114 Anything (each_numbered (cell_line all) 0 cs ++ x)
cells_end all [] x at = ends 2 114 97 x at (unlike 114 97 refl)
cells_end all (c ∷ cs) x at = ends 2 114 119 (each_numbered (cell_line all) 0 (c ∷ cs) ++ x) refl (unlike 114 119 refl)

driving_at : (ps : List Port) (dss : List (List Driver)) (x : List ℕ) → slice_index x 2 ≡ 97 → slice_index (driving_text ps dss ++ x) 2 ≡ 97
driving_at [] dss x at = at
driving_at (p ∷ ps) [] x at = at
driving_at (p ∷ ps) (ds ∷ dss) x at = refl

outputs_at : (net : Net) → slice_index (after_cells net) 2 ≡ 97
outputs_at net = driving_at (ports_of net.table) net.drivers (after_drivers net) refl

-- memories, then faults
same_table : (m n : Net) → IsValid m → IsValid n → text_of m ≡ text_of n → (m.table ≡ n.table) × (after_memories m ≡ after_memories n)
same_table m n vm vn e =
    let t = same_numbered memory_line 3 109 IsSmallEntry (λ a b. a ≡ b) Anything memory_begins memory_tells 0 m.table n.table (after_memories m) (after_memories n) (table_small m.table vm.table) (table_small n.table vn.table) (faults_end m.faults (after_faults m) refl) (faults_end n.faults (after_faults n) refl)
    (append_cancel_left (codes "// dahlia netlist 1\n") (each_numbered memory_line 0 m.table ++ after_memories m) (each_numbered memory_line 0 n.table ++ after_memories n) (sym (grouped m) ∙ (e ∙ grouped n))) in
    (equal_items m.table n.table t.0, t.1)

same_faults : (m n : Net) → InRange m → InRange n → after_memories m ≡ after_memories n → (m.faults ≡ n.faults) × (after_faults m ≡ after_faults n)
same_faults m n rm rn e =
    let t = same_numbered fault_line 3 102 (λ f. IsPlaceInRange f.1) (λ a b. a ≡ b) Anything fault_begins fault_tells 1 m.faults n.faults (after_faults m) (after_faults n) rm.faults rn.faults (ends 3 102 117 (after_faults m) refl (unlike 102 117 refl)) (ends 3 102 117 (after_faults n) refl (unlike 102 117 refl)) e in
    (equal_items m.faults n.faults t.0, t.1)

-- what is said of the ports follows from the table
same_module : (m n : Net) → m.table ≡ n.table → after_faults m ≡ after_faults n → after_module m ≡ after_module n
same_module m n p e =
    append_cancel_left (of_ports (ports_of n.table)) (after_module m) (after_module n)
    (sym (ap (λ t. of_ports (ports_of t) ++ after_module m) p) ∙ e)

same_registers : (m n : Net) → IsValid m → IsValid n → InRange m → InRange n → after_module m ≡ after_module n → Pointwise StartsAlike m.registers n.registers × (after_registers m ≡ after_registers n)
same_registers m n vm vn rm rn e =
    same_numbered register_line 2 114 IsSmallRegister StartsAlike Anything register_begins register_tells 0 m.registers n.registers (after_registers m) (after_registers n) (registers_small m vm rm) (registers_small n vn rn) (cells_end m.cells m.cells (after_cells m) (outputs_at m)) (cells_end n.cells n.cells (after_cells n) (outputs_at n)) e

same_cells : (m n : Net) → IsValid m → IsValid n → InRange m → InRange n → after_registers m ≡ after_registers n → (m.cells ≡ n.cells) × (after_cells m ≡ after_cells n)
same_cells m n vm vn rm rn e =
    cells_tell m.cells n.cells 0 m.cells n.cells (after_cells m) (after_cells n) (cells_small m vm rm) (cells_small n vn rn)
    (λ h. unlike 119 97 refl (sym h ∙ outputs_at m)) (λ h. unlike 119 97 refl (sym h ∙ outputs_at n)) e

same_drivers : (m n : Net) → IsValid m → IsValid n → InRange m → InRange n → HasReadsZero m → HasReadsZero n → m.table ≡ n.table → after_cells m ≡ after_cells n → (m.drivers ≡ n.drivers) × (after_drivers m ≡ after_drivers n)
same_drivers m n vm vn rm rn zm zn p e =
    same_driving (ports_of n.table) m.drivers n.drivers (after_drivers m) (after_drivers n) (ports_small n.table vn.table)
    (vm.ports ∙ ap (λ (t : List MemEntry). length (ports_of t)) p) vn.ports (drivers_small m vm rm) (drivers_small n vn rn) zm zn
    (sym (ap (λ t. driving_text (ports_of t) m.drivers ++ after_drivers m) p) ∙ e)

abbrev output_pieces : Net → List Piece
output_pieces net =
    fixed (codes "  assign tick = w") ∷ (numeral net.tick ∷ (fixed (codes ";\n  assign done = w") ∷ (numeral net.done ∷ (fixed (codes ";\n  assign fault = w") ∷ (numeral net.fault ∷ (fixed (codes ";\n") ∷ []))))))

same_outputs : (m n : Net) → HasSmallOutputs m → HasSmallOutputs n → after_drivers m ≡ after_drivers n → ((m.tick ≡ n.tick) × ((m.done ≡ n.done) × (m.fault ≡ n.fault))) × (clock_text m.registers (ports_of m.table) ≡ clock_text n.registers (ports_of n.table))
same_outputs m n hm hn e =
    let t = same_line (output_pieces m) (output_pieces n) [] [] (clock_text m.registers (ports_of m.table)) (clock_text n.registers (ports_of n.table))
    (refl, (hm.tick, (hn.tick, (refl, (refl, (refl, (hm.done, (hn.done, (refl, (refl, (refl, (hm.fault, (hn.fault, (refl, (refl, (refl, tt)))))))))))))))) e in
    ((t.0.0, (t.0.1.0, t.0.1.1.0)), t.1)

-- what a clock does to local banks does not begin as an update of a register
served_at : (ports : List Port) → slice_index (last ports) 4 ≡ 114 → ⊥
served_at [] e = unlike 100 114 refl e
served_at (p ∷ ps) e = by p.outside (served_at ps) e
  where
    by : (outside : Bool) → (slice_index (last ps) 4 ≡ 114 → ⊥) → slice_index (((if outside then [] else served_lines p) ++ each local_served ps) ++ codes "  end\nendmodule\n") 4 ≡ 114 → ⊥
    by true rest e = rest e
    by false rest e = unlike 105 114 refl e

same_updates : (m n : Net) → IsValid m → IsValid n → InRange m → InRange n → clock_text m.registers (ports_of m.table) ≡ clock_text n.registers (ports_of n.table) → Pointwise StepsAlike m.registers n.registers
same_updates m n vm vn rm rn e =
    (same_numbered update_line 4 114 IsSmallRegister StepsAlike Anything update_begins update_tells 0 m.registers n.registers (last (ports_of m.table)) (last (ports_of n.table)) (registers_small m vm rm) (registers_small n vn rn)
    (record { other = served_at (ports_of m.table); next = tt }) (record { other = served_at (ports_of n.table); next = tt })
    (append_cancel_left (codes "  always @(posedge clk) begin\n") (each_numbered update_line 0 m.registers ++ last (ports_of m.table)) (each_numbered update_line 0 n.registers ++ last (ports_of n.table)) e)).0

one_list : (rs ss : List Register) → Pointwise StartsAlike rs ss → Pointwise StepsAlike rs ss → rs ≡ ss
one_list [] [] a b = refl
one_list [] (s ∷ ss) a b = absurd a
one_list (r ∷ rs) [] a b = absurd a
one_list (r ∷ rs) (s ∷ ss) a b =
    let first : r ≡ s = one_register r s a.0 b.0 in
    let rest : rs ≡ ss = one_list rs ss a.1 b.1 in
    cc

abbrev net_of : List MemEntry → List (FaultKind × Place) → List Register → List Cell → List (List Driver) → ℕ → ℕ → ℕ → Net
net_of t f r c d tick done fault =
    record { table = t; faults = f; registers = r; cells = c; drivers = d; tick = tick; done = done; fault = fault }

one_net : (m n : Net) → m.table ≡ n.table → m.faults ≡ n.faults → m.registers ≡ n.registers → m.cells ≡ n.cells → m.drivers ≡ n.drivers → m.tick ≡ n.tick → m.done ≡ n.done → m.fault ≡ n.fault → m ≡ n
one_net m n a b c d e f g h =
    ap (λ x. net_of x m.faults m.registers m.cells m.drivers m.tick m.done m.fault) a
    ∙ (ap (λ x. net_of n.table x m.registers m.cells m.drivers m.tick m.done m.fault) b
    ∙ (ap (λ x. net_of n.table n.faults x m.cells m.drivers m.tick m.done m.fault) c
    ∙ (ap (λ x. net_of n.table n.faults n.registers x m.drivers m.tick m.done m.fault) d
    ∙ (ap (λ x. net_of n.table n.faults n.registers n.cells x m.tick m.done m.fault) e
    ∙ (ap (λ x. net_of n.table n.faults n.registers n.cells n.drivers x m.done m.fault) f
    ∙ (ap (λ x. net_of n.table n.faults n.registers n.cells n.drivers n.tick x m.fault) g ∙ ap (λ x. net_of n.table n.faults n.registers n.cells n.drivers n.tick n.done x) h))))))

pub text_tells : (m n : Net) → IsValid m → IsValid n → InRange m → InRange n → HasReadsZero m → HasReadsZero n → text_of m ≡ text_of n → m ≡ n
text_tells m n vm vn rm rn zm zn e =
    let a = same_table m n vm vn e in
    let b = same_faults m n rm rn a.1 in
    let c = same_registers m n vm vn rm rn (same_module m n a.0 b.1) in
    let d = same_cells m n vm vn rm rn c.1 in
    let f = same_drivers m n vm vn rm rn zm zn a.0 d.1 in
    let g = same_outputs m n (outputs_small m vm rm) (outputs_small n vn rn) f.1 in
    let h = same_updates m n vm vn rm rn g.1 in
    one_net m n a.0 b.0 (one_list m.registers n.registers c.0 h) d.0 f.0 g.0.0 g.0.1.0 g.0.1.1

-- The head of a net's text: its comments, and the list of the module's ports.
use Rattle.std.specs.Prelude.{ℕ, ◌-◌, Bool, true, false, if◌then◌else◌, List, [], ◌∷◌, ◌++◌, codes}
use Rattle.std.specs.Fmt.{decimal}
use Rattle.dh_base.specs.declared.outcomes.FaultKind.{FaultKind}
use Rattle.dh_base.specs.declared.places.Place.{Place}
use Rattle.dh_value.specs.declared.kinds.Kind.{Kind}
use Rattle.dh_value.specs.declared.kinds.Kind.TheVariants as kind
use Rattle.dh_tree.specs.declared.tables.Dim.{Dim}
use Rattle.dh_tree.specs.declared.tables.MemEntry.{MemEntry}
use Rattle.dh_verilog.specs.Listed.{each}
use Rattle.dh_net.specs.declared.ports.Port.{Port}
use Rattle.dh_base.specs.Faults.{fault_name}

-- `ubit 8`
abbrev pub kind_text : Kind → List ℕ
kind_text kind.Bool = codes "bool"
kind_text (kind.Unsigned width) = codes "ubit " ++ decimal width
kind_text (kind.Signed width) = codes "bit " ++ decimal width

-- `4:2`
abbrev pub dim_text : Dim → List ℕ
dim_text d = decimal d.size ++ (codes ":" ++ decimal d.banks)

-- `4:2x6:1`
abbrev pub dims_text : List Dim → List ℕ
dims_text [] = []
dims_text (d ∷ ds) = dim_text d ++ each (λ e. codes "x" ++ dim_text e) ds

abbrev pub side_text : Bool → List ℕ
side_text true = codes "outside"
side_text false = codes "local"

-- `// memory 0 A ubit 8 ports 1 dims 4:2x6:1 outside`
abbrev pub memory_line : ℕ → MemEntry → List ℕ
memory_line i e =
    codes "// memory " ++ (decimal i ++ (codes " " ++ (e.name ++ (codes " " ++ (kind_text e.shape.kind ++ (codes " ports " ++ (decimal e.shape.ports ++ (codes " dims " ++ (dims_text e.shape.dims ++ (codes " " ++ (side_text e.outside ++ codes "\n")))))))))))

-- `// fault 1 OutOfRange 5:12`
abbrev pub fault_line : ℕ → FaultKind × Place → List ℕ
fault_line i f =
    codes "// fault " ++ (decimal i ++ (codes " " ++ (fault_name f.0 ++ (codes " " ++ (decimal f.1.line ++ (codes ":" ++ (decimal f.1.column ++ codes "\n")))))))

-- a pin of a port, `m0_b0_p0_en`, by the ending of its name
abbrev pub pin : Port → List ℕ → List ℕ
pin p ending = codes "m" ++ (decimal p.memory ++ (codes "_b" ++ (decimal p.bank ++ (codes "_p" ++ (decimal p.port ++ ending)))))

-- a comma after the line before, then `  output m0_b0_p0_en`
abbrev pub bit_pin : Port → List ℕ → List ℕ
bit_pin p ending = codes ",\n  output " ++ pin p ending

-- a comma after the line before, then `  output [7:0] m0_b0_p0_out`
abbrev pub wide_pin : (direction : List ℕ) → (width : ℕ) → Port → (ending : List ℕ) → List ℕ
wide_pin direction width p ending = codes ",\n  " ++ (direction ++ (codes " [" ++ (decimal (width - 1) ++ (codes ":0] " ++ pin p ending))))

-- the five pins of a port
abbrev pub pin_lines : Port → List ℕ
pin_lines p =
    bit_pin p (codes "_en") ++ (bit_pin p (codes "_we") ++ (wide_pin (codes "output") p.row_width p (codes "_row") ++ (wide_pin (codes "output") p.width p (codes "_out") ++ wide_pin (codes "input") p.width p (codes "_in"))))

-- those of a port outside the module; a local one has none
abbrev pub outer_pins : Port → List ℕ
outer_pins p = if p.outside then pin_lines p else []

-- from `module kernel(` to `);`
abbrev pub module_text : List Port → List ℕ
module_text ports =
    codes "module kernel(\n  input clk,\n  output tick,\n  output done,\n  output [31:0] fault" ++ (each outer_pins ports ++ codes "\n);\n")

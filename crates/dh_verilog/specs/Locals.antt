-- The banks of local memories: their declarations, the zeros that they begin with, and what a clock does to them.
use Rattle.std.specs.Prelude.{ℕ, ◌-◌, ◌||◌, not, Bool, false, if◌then◌else◌, List, [], ◌∷◌, ◌++◌, codes}
use Rattle.std.specs.Fmt.{decimal}
use Rattle.dh_net.specs.declared.ports.Port.{Port}
use Rattle.dh_verilog.specs.Listed.{each}
use Rattle.dh_verilog.specs.Head.{pin}

-- `m1_b0`
abbrev pub bank_name : Port → List ℕ
bank_name p = codes "m" ++ (decimal p.memory ++ (codes "_b" ++ decimal p.bank))

-- `  wire m1_b0_p0_en;`
abbrev pub bit_wire : Port → List ℕ → List ℕ
bit_wire p ending = codes "  wire " ++ (pin p ending ++ codes ";\n")

-- `  wire [7:0] m1_b0_p0_out;`
abbrev pub wide_wire : (width : ℕ) → Port → List ℕ → List ℕ
wide_wire width p ending = codes "  wire [" ++ (decimal (width - 1) ++ (codes ":0] " ++ (pin p ending ++ codes ";\n")))

-- `  reg [7:0] m1_b0_p0_in = 8'd0;`
abbrev pub held_line : Port → List ℕ
held_line p = codes "  reg [" ++ (decimal (p.width - 1) ++ (codes ":0] " ++ (pin p (codes "_in") ++ (codes " = " ++ (decimal p.width ++ codes "'d0;\n")))))

-- `  reg [7:0] m1_b0 [0:3];`
abbrev pub bank_line : Port → List ℕ
bank_line p = codes "  reg [" ++ (decimal (p.width - 1) ++ (codes ":0] " ++ (bank_name p ++ (codes " [0:" ++ (decimal (p.rows - 1) ++ codes "];\n")))))

-- the bank, behind its last port
abbrev pub last_line : Port → List ℕ
last_line p = if p.is_last then bank_line p else []

-- the declarations of a local port
abbrev pub declared_lines : Port → List ℕ
declared_lines p =
    bit_wire p (codes "_en") ++ (bit_wire p (codes "_we") ++ (wide_wire p.row_width p (codes "_row") ++ (wide_wire p.width p (codes "_out") ++ (held_line p ++ last_line p))))

abbrev pub local_lines : Port → List ℕ
local_lines p = if p.outside then [] else declared_lines p

-- `    for (k = 0; k < 4; k = k + 1) m1_b0[k] = 8'd0;`
abbrev pub zeros_line : Port → List ℕ
zeros_line p =
    codes "    for (k = 0; k < " ++ (decimal p.rows ++ (codes "; k = k + 1) m" ++ (decimal p.memory ++ (codes "_b" ++ (decimal p.bank ++ (codes "[k] = " ++ (decimal p.width ++ codes "'d0;\n")))))))

abbrev pub local_zeros : Port → List ℕ
local_zeros p = if p.outside then [] else (if p.is_last then zeros_line p else [])

abbrev pub has_local : List Port → Bool
has_local [] = false
has_local (p ∷ ps) = not p.outside || has_local ps

-- zeros in all rows of local banks
abbrev pub zeros_block : List Port → List ℕ
zeros_block ports = codes "  integer k;\n  initial begin\n" ++ (each local_zeros ports ++ codes "  end\n")

-- where there is a local bank
abbrev pub zeros_text : List Port → List ℕ
zeros_text ports = if has_local ports then zeros_block ports else []

-- `    if (m1_b0_p0_en & ~m1_b0_p0_we) `
abbrev pub when_reading : Port → List ℕ
when_reading p = codes "    if (" ++ (pin p (codes "_en") ++ (codes " & ~" ++ (pin p (codes "_we") ++ codes ") ")))

abbrev pub when_writing : Port → List ℕ
when_writing p = codes "    if (" ++ (pin p (codes "_en") ++ (codes " & " ++ (pin p (codes "_we") ++ codes ") ")))

-- `m1_b0[m1_b0_p0_row]`
abbrev pub row_text : Port → List ℕ
row_text p = bank_name p ++ (codes "[" ++ (pin p (codes "_row") ++ codes "]"))

-- a read into the held data, and a write
abbrev pub read_line : Port → List ℕ
read_line p = when_reading p ++ (pin p (codes "_in") ++ (codes " <= " ++ (row_text p ++ codes ";\n")))

abbrev pub write_line : Port → List ℕ
write_line p = when_writing p ++ (row_text p ++ (codes " <= " ++ (pin p (codes "_out") ++ codes ";\n")))

abbrev pub served_lines : Port → List ℕ
served_lines p = read_line p ++ write_line p

abbrev pub local_served : Port → List ℕ
local_served p = if p.outside then [] else served_lines p

-- all that stands before the registers
abbrev pub declared_text : List Port → List ℕ
declared_text ports = each local_lines ports ++ zeros_text ports

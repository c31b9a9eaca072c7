-- The Verilog text of a net (IEEE 1364-2005). Each line ends with LF.
use Rattle.std.specs.Prelude.{ℕ, ◌-◌, List, ◌++◌, codes}
use Rattle.std.specs.Fmt.{decimal}
use Rattle.dh_net.specs.declared.nets.Cell.{Cell}
use Rattle.dh_net.specs.declared.nets.CellForm.{CellForm}
use Rattle.dh_net.specs.declared.nets.CellForm.TheVariants.{Const, Reg, Data, Add, Sub, Mul, And, Or, Xor, Shl, ShrU, ShrS, LtU, LtS, Eq, Mux, Zero, Sign, Low}
use Rattle.dh_net.specs.BankPorts.{ports_of}
use Rattle.dh_net.specs.Clock.{wire_width}
use Rattle.dh_net.specs.declared.nets.Net.{Net}
use Rattle.dh_net.specs.declared.nets.Register.{Register}
use Rattle.dh_net.specs.declared.ports.Port.{Port}
use Rattle.dh_verilog.specs.Listed.{each, each_numbered}
use Rattle.dh_verilog.specs.Head.{memory_line, fault_line, module_text}
use Rattle.dh_verilog.specs.Locals.{declared_text, local_served}
use Rattle.dh_verilog.specs.Driving.{driving_text}

-- `  reg [7:0] r0 = 8'd5;`
abbrev pub register_line : ℕ → Register → List ℕ
register_line i r =
    codes "  reg [" ++ (decimal (r.width - 1) ++ (codes ":0] r" ++ (decimal i ++ (codes " = " ++ (decimal r.width ++ (codes "'d" ++ (decimal r.initial ++ codes ";\n")))))))

-- `w1 + w2`
abbrev pub binary_text : ℕ → List ℕ → ℕ → List ℕ
binary_text a sign b = codes "w" ++ (decimal a ++ (sign ++ (codes "w" ++ decimal b)))

-- `w0 ? w1 : w2`
abbrev pub chosen_text : ℕ → ℕ → ℕ → List ℕ
chosen_text c a b = codes "w" ++ (decimal c ++ (codes " ? " ++ binary_text a (codes " : ") b))

-- `$signed(w1) >>> w2`
abbrev pub signed_shift_text : ℕ → ℕ → List ℕ
signed_shift_text a b = codes "$signed(w" ++ (decimal a ++ (codes ") >>> w" ++ decimal b))

-- `$signed(w1) < $signed(w2)`
abbrev pub signed_less_text : ℕ → ℕ → List ℕ
signed_less_text a b = codes "$signed(w" ++ (decimal a ++ (codes ") < $signed(w" ++ (decimal b ++ codes ")")))

-- `{4'd0, w1}`, with so many zeros
abbrev pub zeros_above_text : (zeros a : ℕ) → List ℕ
zeros_above_text zeros a = codes "{" ++ (decimal zeros ++ (codes "'d0, w" ++ (decimal a ++ codes "}")))

-- `{{4{w1[3]}}, w1}`, with so many copies of the highest of so many bits
abbrev pub sign_above_text : (copies narrow a : ℕ) → List ℕ
sign_above_text copies narrow a =
    codes "{{" ++ (decimal copies ++ (codes "{w" ++ (decimal a ++ (codes "[" ++ (decimal (narrow - 1) ++ (codes "]}}, w" ++ (decimal a ++ codes "}")))))))

-- `w1[7:0]`
abbrev pub low_text : (width a : ℕ) → List ℕ
low_text width a = codes "w" ++ (decimal a ++ (codes "[" ++ (decimal (width - 1) ++ codes ":0]")))

-- the expression of a cell of this width, in a net of these cells
abbrev pub form_text : List Cell → ℕ → CellForm → List ℕ
form_text cells width (Const bits) = decimal width ++ (codes "'d" ++ decimal bits)
form_text cells width (Reg register) = codes "r" ++ decimal register
form_text cells width (Data memory bank port) = codes "m" ++ (decimal memory ++ (codes "_b" ++ (decimal bank ++ (codes "_p" ++ (decimal port ++ codes "_in")))))
form_text cells width (Add a b) = binary_text a (codes " + ") b
form_text cells width (Sub a b) = binary_text a (codes " - ") b
form_text cells width (Mul a b) = binary_text a (codes " * ") b
form_text cells width (And a b) = binary_text a (codes " & ") b
form_text cells width (Or a b) = binary_text a (codes " | ") b
form_text cells width (Xor a b) = binary_text a (codes " ^ ") b
form_text cells width (Shl a b) = binary_text a (codes " << ") b
form_text cells width (ShrU a b) = binary_text a (codes " >> ") b
form_text cells width (ShrS a b) = signed_shift_text a b
form_text cells width (LtU a b) = binary_text a (codes " < ") b
form_text cells width (LtS a b) = signed_less_text a b
form_text cells width (Eq a b) = binary_text a (codes " == ") b
form_text cells width (Mux c a b) = chosen_text c a b
form_text cells width (Zero a) = zeros_above_text (width - wire_width cells a) a
form_text cells width (Sign a) = sign_above_text (width - wire_width cells a) (wire_width cells a) a
form_text cells width (Low a) = low_text width a

-- `  wire [7:0] w0 = w1 + w2;`
abbrev pub cell_line : List Cell → ℕ → Cell → List ℕ
cell_line cells i c =
    codes "  wire [" ++ (decimal (c.width - 1) ++ (codes ":0] w" ++ (decimal i ++ (codes " = " ++ (form_text cells c.width c.form ++ codes ";\n")))))

-- the three outputs
abbrev pub outputs_text : (tick done fault : ℕ) → List ℕ
outputs_text tick done fault =
    codes "  assign tick = w" ++ (decimal tick ++ (codes ";\n  assign done = w" ++ (decimal done ++ (codes ";\n  assign fault = w" ++ (decimal fault ++ codes ";\n")))))

-- `    r0 <= w1;`
abbrev pub update_line : ℕ → Register → List ℕ
update_line i r = codes "    r" ++ (decimal i ++ (codes " <= w" ++ (decimal r.next ++ codes ";\n")))

-- what each clock does
abbrev pub clock_text : List Register → List Port → List ℕ
clock_text registers ports =
    codes "  always @(posedge clk) begin\n" ++ (each_numbered update_line 0 registers ++ (each local_served ports ++ codes "  end\nendmodule\n"))

-- what stands before the registers
abbrev pub netlist_head_text : Net → List Port → List ℕ
netlist_head_text net ports =
    codes "// dahlia netlist 1\n" ++ (each_numbered memory_line 0 net.table ++ (each_numbered fault_line 1 net.faults ++ (module_text ports ++ declared_text ports)))

-- the whole text
abbrev pub text_of : Net → List ℕ
text_of net =
    netlist_head_text net (ports_of net.table) ++ (each_numbered register_line 0 net.registers ++ (each_numbered (cell_line net.cells) 0 net.cells ++ (driving_text (ports_of net.table) net.drivers ++ (outputs_text net.tick net.done net.fault ++ clock_text net.registers (ports_of net.table)))))

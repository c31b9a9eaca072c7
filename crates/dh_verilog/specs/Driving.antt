-- What drives the pins of a port: the first active one of its drivers.
use Rattle.std.specs.Prelude.{ℕ, Bool, true, false, if◌then◌else◌, List, [], ◌∷◌, ◌++◌, codes}
use Rattle.std.specs.Fmt.{decimal}
use Rattle.dh_net.specs.declared.nets.Driver.{Driver}
use Rattle.dh_verilog.specs.Listed.{each}
use Rattle.dh_verilog.specs.Head.{pin}
use Rattle.dh_net.specs.declared.ports.Port.{Port}
use Rattle.dh_verilog.specs.declared.ports.Signal.{Signal}
use Rattle.dh_verilog.specs.declared.ports.Signal.TheVariants as signal

-- `w2 | w5`, and for no driver `1'd0`
abbrev pub enables_text : List Driver → List ℕ
enables_text [] = codes "1'd0"
enables_text (d ∷ ds) = codes "w" ++ (decimal d.enable ++ each (λ e. codes " | w" ++ decimal e.enable) ds)

-- `  assign m0_b0_p0_en = w2 | w5;`
abbrev pub enable_line : Port → List Driver → List ℕ
enable_line p ds = codes "  assign " ++ (pin p (codes "_en") ++ (codes " = " ++ (enables_text ds ++ codes ";\n")))

-- the ending of a signal's name
abbrev pub ending_of : Signal → List ℕ
ending_of signal.Write = codes "_we"
ending_of signal.Row = codes "_row"
ending_of signal.Out = codes "_out"

abbrev pub signal_width : Signal → Port → ℕ
signal_width signal.Write p = 1
signal_width signal.Row p = p.row_width
signal_width signal.Out p = p.width

-- `8'd0`
abbrev pub zero_text : ℕ → List ℕ
zero_text width = decimal width ++ codes "'d0"

abbrev pub write_text : Bool → List ℕ
write_text true = codes "1'd1"
write_text false = codes "1'd0"

-- the data wire of a write, and zero for a read
abbrev pub out_text : ℕ → Driver → List ℕ
out_text width d = if d.write then codes "w" ++ decimal d.data_ else zero_text width

-- what a driver puts on a signal
abbrev pub value_text : Signal → Port → Driver → List ℕ
value_text signal.Write p d = write_text d.write
value_text signal.Row p d = codes "w" ++ decimal d.row
value_text signal.Out p d = out_text p.width d

-- `w2 ? w4 : `
abbrev pub choice_text : Signal → Port → Driver → List ℕ
choice_text s p d = codes "w" ++ (decimal d.enable ++ (codes " ? " ++ (value_text s p d ++ codes " : ")))

-- `  assign m0_b0_p0_out = w2 ? w4 : 8'd0;`
abbrev pub choice_line : Signal → Port → List Driver → List ℕ
choice_line s p ds =
    codes "  assign " ++ (pin p (ending_of s) ++ (codes " = " ++ (each (choice_text s p) ds ++ (zero_text (signal_width s p) ++ codes ";\n"))))

-- the four lines of a port
abbrev pub port_lines : Port → List Driver → List ℕ
port_lines p ds =
    enable_line p ds ++ (choice_line signal.Write p ds ++ (choice_line signal.Row p ds ++ choice_line signal.Out p ds))

-- the lines of all ports, with a list of drivers for each
abbrev pub driving_text : List Port → List (List Driver) → List ℕ
driving_text (p ∷ ps) (ds ∷ dss) = port_lines p ds ++ driving_text ps dss
driving_text [] _ = []
driving_text (p ∷ ps) [] = []

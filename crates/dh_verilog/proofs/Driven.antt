-- The four lines of a port tell its drivers: the first their enable wires, the others what each of
-- them puts on a signal. A write's data is a wire, and a read's is taken to be 0.
use Rattle.std.proofs.Common.{◌≡◌, ℕ, ◌<◌, ◌^◌, Bool, true, false, if◌then◌else◌, List, [], ◌∷◌, ◌++◌, ◌∙◌, ap, sym, refl, append_assoc, length, arith}
use Rattle.std.specs.Prelude.{codes, slice_index}
use Rattle.std.specs.Fmt.{decimal}
use Rattle.std.specs.List.{AllByRecursion}
use Rattle.std.proofs.lemmas.List.{append_cancel_left}
use Rattle.dh_net.specs.declared.nets.Driver.{Driver}
use Rattle.dh_verilog.specs.Listed.{each}
use Rattle.dh_verilog.specs.Head.{pin}
use Rattle.dh_verilog.specs.Driving.{enables_text, enable_line, ending_of, signal_width, zero_text, write_text, value_text, choice_text, choice_line, port_lines, driving_text}
use Rattle.dh_net.specs.Valid.{ReadsZero}
use Rattle.dh_net.specs.declared.ports.Port.{Port}
use Rattle.dh_verilog.specs.declared.ports.Signal.{Signal}
use Rattle.dh_verilog.specs.declared.ports.Signal.TheVariants as signal
use Rattle.dh_verilog.proofs.Reading.{NoDigit, number_then, unlike, first_digit}
use Rattle.dh_verilog.proofs.Shapes.{Piece, fixed, numeral, same_line}
use Rattle.dh_verilog.proofs.Lines.{Pointwise, Begins, Ends, Tells, same_each}
use Rattle.dh_verilog.proofs.Declared.{Anything}

-- the numbers of the driver are below 2^64
pub record IsSmallDriver (d : Driver) : Type 0 where
  pub enable : d.enable < 2 ^ 64
  pub row : d.row < 2 ^ 64
  pub out : d.write ≡ true → d.data_ < 2 ^ 64

pub record IsSmallPort (p : Port) : Type 0 where
  pub rows : p.row_width < 2 ^ 64
  pub out : p.width < 2 ^ 64

-- enables
abbrev EnabledAlike : Driver → Driver → Type 0
EnabledAlike d e = d.enable ≡ e.enable

abbrev next_enable : Driver → List ℕ
next_enable d = codes " | w" ++ decimal d.enable

enable_begins : Begins (λ i. next_enable) 0 32 NoDigit
enable_begins = record { byte = λ i d x. refl; next = λ i d x. refl }

enable_tells : Tells (λ i. next_enable) IsSmallDriver EnabledAlike NoDigit
enable_tells i d e x y hd he sx sy h =
    number_then d.enable e.enable x y hd.enable he.enable sx sy (append_cancel_left (codes " | w") (decimal d.enable ++ x) (decimal e.enable ++ y) h)

same_enables : (ds es : List Driver) (x y : List ℕ) → AllByRecursion IsSmallDriver ds → AllByRecursion IsSmallDriver es → Ends 0 32 NoDigit x → Ends 0 32 NoDigit y
    → enables_text ds ++ x ≡ enables_text es ++ y → Pointwise EnabledAlike ds es × (x ≡ y)
same_enables [] [] x y gd ge ex ey h = (tt, append_cancel_left (codes "1'd0") x y h)
same_enables [] (e ∷ es) x y gd ge ex ey h = absurd (unlike 49 119 refl (ap (λ l. slice_index l 0) h))
same_enables (d ∷ ds) [] x y gd ge ex ey h = absurd (unlike 119 49 refl (ap (λ l. slice_index l 0) h))
same_enables (d ∷ ds) (e ∷ es) x y gd ge ex ey h =
    same_each next_enable 0 32 IsSmallDriver EnabledAlike NoDigit enable_begins enable_tells (d ∷ ds) (e ∷ es) x y gd ge ex ey (ap (λ l. codes " | " ++ l) h)

-- the left side of the line of a pin
abbrev pin_pieces : Port → List ℕ → List Piece
pin_pieces p ending = fixed (codes "  assign ") ∷ (fixed (pin p ending) ∷ (fixed (codes " = ") ∷ []))

line_ends : (x : List ℕ) → Ends 0 32 NoDigit (codes ";\n" ++ x)
line_ends x = record { other = λ h. unlike 59 32 refl h; next = refl }

same_enable_line : (p : Port) (ds es : List Driver) (x y : List ℕ) → AllByRecursion IsSmallDriver ds → AllByRecursion IsSmallDriver es
    → enable_line p ds ++ x ≡ enable_line p es ++ y → Pointwise EnabledAlike ds es × (x ≡ y)
same_enable_line p ds es x y gd ge h =
    let end = codes ";\n" in
    let t = same_line (pin_pieces p (codes "_en")) (pin_pieces p (codes "_en")) (enables_text ds ++ end) (enables_text es ++ end) x y (refl, (refl, (refl, tt))) h in
    let u = same_enables ds es (end ++ x) (end ++ y) gd ge (line_ends x) (line_ends y) (sym (append_assoc (enables_text ds) end x) ∙ (t.1 ∙ append_assoc (enables_text es) end y)) in
    (u.0, append_cancel_left end x y u.1)

-- two drivers put the same on the signal
abbrev ValuedAlike : Signal → Driver → Driver → Type 0
ValuedAlike signal.Write d e = d.write ≡ e.write
ValuedAlike signal.Row d e = d.row ≡ e.row
ValuedAlike signal.Out d e = d.write ≡ true → e.write ≡ true → d.data_ ≡ e.data_

same_write : (a b : Bool) (x y : List ℕ) → write_text a ++ x ≡ write_text b ++ y → (a ≡ b) × (x ≡ y)
same_write true true x y h = (refl, append_cancel_left (codes "1'd1") x y h)
same_write false false x y h = (refl, append_cancel_left (codes "1'd0") x y h)
same_write true false x y h = absurd (unlike 49 48 refl (ap (λ l. slice_index l 3) h))
same_write false true x y h = absurd (unlike 48 49 refl (ap (λ l. slice_index l 3) h))

abbrev out_value : Bool → (value width : ℕ) → List ℕ
out_value a n w = if a then codes "w" ++ decimal n else zero_text w

same_out : (a b : Bool) (m n w : ℕ) (x y : List ℕ) → w < 2 ^ 64 → (a ≡ true → m < 2 ^ 64) → (b ≡ true → n < 2 ^ 64) → NoDigit x → NoDigit y
    → out_value a m w ++ x ≡ out_value b n w ++ y → (a ≡ true → b ≡ true → m ≡ n) × (x ≡ y)
same_out true true m n w x y hw hm hn sx sy h =
    let t = number_then m n x y (hm refl) (hn refl) sx sy (append_cancel_left (codes "w") (decimal m ++ x) (decimal n ++ y) h) in
    (λ p q. t.0, t.1)
same_out false false m n w x y hw hm hn sx sy h = (λ p q. absurd cc, append_cancel_left (zero_text w) x y h)
same_out true false m n w x y hw hm hn sx sy h =
    absurd (first_digit w 119 (codes "'d0" ++ y) hw refl (ap (λ l. slice_index l 0) (sym (h ∙ append_assoc (decimal w) (codes "'d0") y))))
same_out false true m n w x y hw hm hn sx sy h =
    absurd (first_digit w 119 (codes "'d0" ++ x) hw refl (ap (λ l. slice_index l 0) (sym (append_assoc (decimal w) (codes "'d0") x) ∙ h)))

same_value : (s : Signal) (p : Port) (d e : Driver) (x y : List ℕ) → IsSmallPort p → IsSmallDriver d → IsSmallDriver e
    → value_text s p d ++ (codes " : " ++ x) ≡ value_text s p e ++ (codes " : " ++ y) → ValuedAlike s d e × (x ≡ y)
same_value signal.Write p d e x y hp hd he h =
    let t = same_write d.write e.write (codes " : " ++ x) (codes " : " ++ y) h in
    (t.0, append_cancel_left (codes " : ") x y t.1)
same_value signal.Row p d e x y hp hd he h =
    let t = number_then d.row e.row (codes " : " ++ x) (codes " : " ++ y) hd.row he.row refl refl (append_cancel_left (codes "w") (decimal d.row ++ (codes " : " ++ x)) (decimal e.row ++ (codes " : " ++ y)) h) in
    (t.0, append_cancel_left (codes " : ") x y t.1)
same_value signal.Out p d e x y hp hd he h =
    let t = same_out d.write e.write d.data_ e.data_ p.width (codes " : " ++ x) (codes " : " ++ y) hp.out hd.out he.out refl refl h in
    (t.0, append_cancel_left (codes " : ") x y t.1)

abbrev choice_pieces : Driver → List Piece
choice_pieces d = fixed (codes "w") ∷ (numeral d.enable ∷ (fixed (codes " ? ") ∷ []))

choice_begins : (s : Signal) (p : Port) → Begins (λ i. choice_text s p) 0 119 Anything
choice_begins s p = record { byte = λ i d x. refl; next = λ i d x. tt }

choice_tells : (s : Signal) (p : Port) → IsSmallPort p → Tells (λ i. choice_text s p) IsSmallDriver (ValuedAlike s) Anything
choice_tells s p hp i d e x y hd he nx ny h =
    let end = codes " : " in
    let t = same_line (choice_pieces d) (choice_pieces e) (value_text s p d ++ end) (value_text s p e ++ end) x y (refl, (hd.enable, (he.enable, (refl, (refl, (refl, tt)))))) h in
    same_value s p d e x y hp hd he (sym (append_assoc (value_text s p d) end x) ∙ (t.1 ∙ append_assoc (value_text s p e) end y))

small_signal : (s : Signal) (p : Port) → IsSmallPort p → signal_width s p < 2 ^ 64
small_signal signal.Write p h = omega arith
small_signal signal.Row p h = h.rows
small_signal signal.Out p h = h.out

zero_ends : (w : ℕ) (x : List ℕ) → w < 2 ^ 64 → Ends 0 119 Anything ((zero_text w ++ codes ";\n") ++ x)
zero_ends w x h =
    record {
      other =
          λ e. first_digit w 119 (codes "'d0;\n" ++ x) h refl (ap (λ l. slice_index l 0) (sym (ap (λ l. l ++ x) (append_assoc (decimal w) (codes "'d0") (codes ";\n")) ∙ append_assoc (decimal w) (codes "'d0;\n") x)) ∙ e);
      next = tt;
    }

same_choice_line : (s : Signal) (p : Port) (ds es : List Driver) (x y : List ℕ) → IsSmallPort p → AllByRecursion IsSmallDriver ds → AllByRecursion IsSmallDriver es
    → choice_line s p ds ++ x ≡ choice_line s p es ++ y → Pointwise (ValuedAlike s) ds es × (x ≡ y)
same_choice_line s p ds es x y hp gd ge h =
    let end = zero_text (signal_width s p) ++ codes ";\n" in
    let t = same_line (pin_pieces p (ending_of s)) (pin_pieces p (ending_of s)) (each (choice_text s p) ds ++ end) (each (choice_text s p) es ++ end) x y (refl, (refl, (refl, tt))) h in
    let u = same_each (choice_text s p) 0 119 IsSmallDriver (ValuedAlike s) Anything (choice_begins s p) (choice_tells s p hp) ds es (end ++ x) (end ++ y) gd ge (zero_ends (signal_width s p) x (small_signal s p hp)) (zero_ends (signal_width s p) y (small_signal s p hp))
    (sym (append_assoc (each (choice_text s p) ds) end x) ∙ (t.1 ∙ append_assoc (each (choice_text s p) es) end y)) in
    (u.0, append_cancel_left end x y u.1)

-- the four lines together
same_data : (a b : Bool) (m n : ℕ) → a ≡ b → (a ≡ true → b ≡ true → m ≡ n) → (a ≡ false → m ≡ 0) → (b ≡ false → n ≡ 0) → m ≡ n
same_data true b m n p q r s = q refl (sym p)
same_data false b m n p q r s = r refl ∙ sym (s (sym p))

abbrev driver_of : ℕ → Bool → ℕ → ℕ → Driver
driver_of e w r d = record { enable = e; write = w; row = r; data_ = d }

one_driver : (d e : Driver) → EnabledAlike d e → ValuedAlike signal.Write d e → ValuedAlike signal.Row d e → ValuedAlike signal.Out d e → ReadsZero d → ReadsZero e → d ≡ e
one_driver d e a b c o zd ze =
    ap (λ n. driver_of n d.write d.row d.data_) a
    ∙ (ap (λ w. driver_of e.enable w d.row d.data_) b
    ∙ (ap (λ r. driver_of e.enable e.write r d.data_) c ∙ ap (λ n. driver_of e.enable e.write e.row n) (same_data d.write e.write d.data_ e.data_ b o zd ze)))

same_head : {A : Type 0} (a b : A) (xs ys : List A) → a ≡ b → xs ≡ ys → a ∷ xs ≡ b ∷ ys
same_head a b xs ys p q = cc

one_list : (ds es : List Driver) → Pointwise EnabledAlike ds es → Pointwise (ValuedAlike signal.Write) ds es → Pointwise (ValuedAlike signal.Row) ds es → Pointwise (ValuedAlike signal.Out) ds es
    → AllByRecursion ReadsZero ds → AllByRecursion ReadsZero es → ds ≡ es
one_list [] [] a b c o zd ze = refl
one_list [] (e ∷ es) a b c o zd ze = absurd a
one_list (d ∷ ds) [] a b c o zd ze = absurd a
one_list (d ∷ ds) (e ∷ es) a b c o zd ze = same_head d e ds es (one_driver d e a.0 b.0 c.0 o.0 zd.0 ze.0) (one_list ds es a.1 b.1 c.1 o.1 zd.1 ze.1)

four_then : (a b c d x : List ℕ) → (a ++ (b ++ (c ++ d))) ++ x ≡ a ++ (b ++ (c ++ (d ++ x)))
four_then a b c d x = simp append_assoc

same_port : (p : Port) (ds es : List Driver) (x y : List ℕ) → IsSmallPort p → AllByRecursion IsSmallDriver ds → AllByRecursion IsSmallDriver es → AllByRecursion ReadsZero ds → AllByRecursion ReadsZero es
    → port_lines p ds ++ x ≡ port_lines p es ++ y → (ds ≡ es) × (x ≡ y)
same_port p ds es x y hp gd ge zd ze h =
    let left = four_then (enable_line p ds) (choice_line signal.Write p ds) (choice_line signal.Row p ds) (choice_line signal.Out p ds) x in
    let right = four_then (enable_line p es) (choice_line signal.Write p es) (choice_line signal.Row p es) (choice_line signal.Out p es) y in
    let a = same_enable_line p ds es (choice_line signal.Write p ds ++ (choice_line signal.Row p ds ++ (choice_line signal.Out p ds ++ x))) (choice_line signal.Write p es ++ (choice_line signal.Row p es ++ (choice_line signal.Out p es ++ y))) gd ge (sym left ∙ (h ∙ right)) in
    let b = same_choice_line signal.Write p ds es (choice_line signal.Row p ds ++ (choice_line signal.Out p ds ++ x)) (choice_line signal.Row p es ++ (choice_line signal.Out p es ++ y)) hp gd ge a.1 in
    let c = same_choice_line signal.Row p ds es (choice_line signal.Out p ds ++ x) (choice_line signal.Out p es ++ y) hp gd ge b.1 in
    let o = same_choice_line signal.Out p ds es x y hp gd ge c.1 in
    (one_list ds es a.0 b.0 c.0 o.0 zd ze, o.1)

abbrev pub AllDrivers : (Driver → Type 0) → List (List Driver) → Type 0
AllDrivers P dss = AllByRecursion (λ ds. AllByRecursion P ds) dss

pub same_driving : (ps : List Port) (dss ess : List (List Driver)) (x y : List ℕ) → AllByRecursion IsSmallPort ps → length dss ≡ length ps → length ess ≡ length ps
    → AllDrivers IsSmallDriver dss → AllDrivers IsSmallDriver ess → AllDrivers ReadsZero dss → AllDrivers ReadsZero ess
    → driving_text ps dss ++ x ≡ driving_text ps ess ++ y → (dss ≡ ess) × (x ≡ y)
same_driving [] [] [] x y hp m n gd ge zd ze h = (refl, h)
same_driving [] (ds ∷ dss) ess x y hp m n gd ge zd ze h = absurd (omega arith)
same_driving [] [] (es ∷ ess) x y hp m n gd ge zd ze h = absurd (omega arith)
same_driving (p ∷ ps) [] ess x y hp m n gd ge zd ze h = absurd (omega arith)
same_driving (p ∷ ps) (ds ∷ dss) [] x y hp m n gd ge zd ze h = absurd (omega arith)
same_driving (p ∷ ps) (ds ∷ dss) (es ∷ ess) x y hp m n gd ge zd ze h =
    let t = same_port p ds es (driving_text ps dss ++ x) (driving_text ps ess ++ y) hp.0 gd.0 ge.0 zd.0 ze.0
    (sym (append_assoc (port_lines p ds) (driving_text ps dss) x) ∙ (h ∙ append_assoc (port_lines p es) (driving_text ps ess) y)) in
    let m' : length dss ≡ length ps = omega arith in
    let n' : length ess ≡ length ps = omega arith in
    let more = same_driving ps dss ess x y hp.1 m' n' gd.1 ge.1 zd.1 ze.1 t.1 in
    (same_head ds es dss ess t.0 more.0, more.1)

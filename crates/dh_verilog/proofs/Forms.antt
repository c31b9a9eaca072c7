-- The expression of a cell is read back: the byte after the first digits, and for an operation the
-- bytes of its sign, tell the form, and its numbers are among the runs of digits in order. What is read
-- back is the form, so no two forms have one text, also in nets of different cells.
use Rattle.std.proofs.Common.{◌≡◌, ℕ, ◌-◌, ◌<◌, ◌^◌, ◌==◌, if◌then◌else◌, List, [], ◌∷◌, ◌++◌, ◌∙◌, ap, sym, refl, append_assoc, arith}
use Rattle.std.specs.Prelude.{codes, slice_index}
use Rattle.std.specs.Fmt.{decimal}
use Rattle.dh_net.specs.declared.nets.CellForm.{CellForm}
use Rattle.dh_net.specs.declared.nets.CellForm.TheVariants.{Const, Reg, Data, Add, Sub, Mul, And, Or, Xor, Shl, ShrU, ShrS, LtU, LtS, Eq, Mux, Zero, Sign, Low}
use Rattle.dh_net.specs.Clock.{wire_width}
use Rattle.dh_net.specs.declared.nets.Cell.{Cell}
use Rattle.dh_verilog.specs.Text.{form_text}
use Rattle.dh_verilog.proofs.Reading.{NoDigit, number, past, skip, number_decimal, past_decimal, skip_decimal}

-- the numbers of a form, and the width of the wire that it widens, are below 2^64
abbrev pub HasSmall : List Cell → CellForm → Type 0
HasSmall cells (Const bits) = bits < 2 ^ 64
HasSmall cells (Reg register) = register < 2 ^ 64
HasSmall cells (Data memory bank port) = (memory < 2 ^ 64) × ((bank < 2 ^ 64) × (port < 2 ^ 64))
HasSmall cells (Add a b) = (a < 2 ^ 64) × (b < 2 ^ 64)
HasSmall cells (Sub a b) = (a < 2 ^ 64) × (b < 2 ^ 64)
HasSmall cells (Mul a b) = (a < 2 ^ 64) × (b < 2 ^ 64)
HasSmall cells (And a b) = (a < 2 ^ 64) × (b < 2 ^ 64)
HasSmall cells (Or a b) = (a < 2 ^ 64) × (b < 2 ^ 64)
HasSmall cells (Xor a b) = (a < 2 ^ 64) × (b < 2 ^ 64)
HasSmall cells (Shl a b) = (a < 2 ^ 64) × (b < 2 ^ 64)
HasSmall cells (ShrU a b) = (a < 2 ^ 64) × (b < 2 ^ 64)
HasSmall cells (ShrS a b) = (a < 2 ^ 64) × (b < 2 ^ 64)
HasSmall cells (LtU a b) = (a < 2 ^ 64) × (b < 2 ^ 64)
HasSmall cells (LtS a b) = (a < 2 ^ 64) × (b < 2 ^ 64)
HasSmall cells (Eq a b) = (a < 2 ^ 64) × (b < 2 ^ 64)
HasSmall cells (Mux c a b) = (c < 2 ^ 64) × ((a < 2 ^ 64) × (b < 2 ^ 64))
HasSmall cells (Zero a) = a < 2 ^ 64
HasSmall cells (Sign a) = (a < 2 ^ 64) × (wire_width cells a < 2 ^ 64)
HasSmall cells (Low a) = a < 2 ^ 64

-- the first number in a text, and what stands behind it
abbrev value : List ℕ → ℕ
value text = number (skip text)

abbrev rest : List ℕ → List ℕ
rest text = past (skip text)

value_decimal : (n : ℕ) (x : List ℕ) → n < 2 ^ 64 → NoDigit x → value (decimal n ++ x) ≡ n
value_decimal n x h s = ap number (skip_decimal n x h) ∙ number_decimal n x h s

rest_decimal : (n : ℕ) (x : List ℕ) → n < 2 ^ 64 → NoDigit x → rest (decimal n ++ x) ≡ x
rest_decimal n x h s = ap past (skip_decimal n x h) ∙ past_decimal n x h s

abbrev found : CellForm → List ℕ → CellForm × List ℕ
found f x = (f, x)

abbrev one : (ℕ → CellForm) → List ℕ → CellForm × List ℕ
one build l = found (build (value l)) (rest l)

abbrev two : (ℕ → ℕ → CellForm) → List ℕ → CellForm × List ℕ
two build l = found (build (value l) (value (rest l))) (rest (rest l))

abbrev three : (ℕ → ℕ → ℕ → CellForm) → List ℕ → CellForm × List ℕ
three build l = found (build (value l) (value (rest l)) (value (rest (rest l)))) (rest (rest (rest l)))

-- the text without its first three bytes
abbrev behind : List ℕ → List ℕ
behind (a ∷ (b ∷ (c ∷ x))) = x
behind x = x

abbrev behind_found : CellForm × List ℕ → CellForm × List ℕ
behind_found t = found t.0 (behind t.1)

-- without its first byte
abbrev beyond : List ℕ → List ℕ
beyond (a ∷ x) = x
beyond [] = []

abbrev beyond_found : CellForm × List ℕ → CellForm × List ℕ
beyond_found t = found t.0 (beyond t.1)

-- of two numbers the second, and of four the second
abbrev zeros : List ℕ → CellForm × List ℕ
zeros l = found (Zero (value (rest (rest l)))) (beyond (rest (rest (rest l))))

abbrev copies : List ℕ → CellForm × List ℕ
copies l = found (Sign (value (rest l))) (beyond (rest (rest (rest (rest l)))))

abbrev lows : List ℕ → CellForm × List ℕ
lows l = found (Low (value l)) (beyond (rest (rest (rest l))))

-- by the second and the third byte behind the first wire
abbrev by_sign : (s t : ℕ) → List ℕ → CellForm × List ℕ
by_sign s t text =
    if s == 43 then two Add text else (if s == 45 then two Sub text else (if s == 42 then two Mul text else (if s == 38 then two And text else (if s == 124 then two Or text else (if s == 94 then two Xor text else (if s == 61 then two Eq text else (if s == 62 then two ShrU text else (if s == 60 then (if t == 60 then two Shl text else two LtU text) else three Mux text))))))))

-- what begins with a wire, by what stands behind that
abbrev by_wire : (after text : List ℕ) → CellForm × List ℕ
by_wire after text = if slice_index after 0 == 91 then lows text else by_sign (slice_index after 1) (slice_index after 2) text

-- what begins with `$signed(`
abbrev by_signed : (after text : List ℕ) → CellForm × List ℕ
by_signed after text = if slice_index after 2 == 62 then two ShrS text else beyond_found (two LtS text)

-- what begins with a brace
abbrev by_brace : (after text : List ℕ) → CellForm × List ℕ
by_brace after text = if slice_index after 0 == 39 then zeros text else copies text

abbrev by_first : ℕ → List ℕ → CellForm × List ℕ
by_first b text =
    if b == 39 then two (λ width bits. Const bits) text else (if b == 114 then one Reg text else (if b == 109 then behind_found (three Data text) else (if b == 36 then by_signed (rest text) text else (if b == 123 then by_brace (rest text) text else by_wire (rest text) text))))

abbrev read : List ℕ → CellForm × List ℕ
read text = by_first (slice_index (past text) 0) text

same_found : (f g : CellForm) (x y : List ℕ) → f ≡ g → x ≡ y → found f x ≡ found g y
same_found f g x y p q = ap (λ h. found h x) p ∙ ap (λ z. found g z) q

two_is : (build : ℕ → ℕ → CellForm) (a b : ℕ) (l s x : List ℕ) → value l ≡ a → rest l ≡ s → value s ≡ b → rest s ≡ x → two build l ≡ found (build a b) x
two_is build a b l s x va rl vb rs =
    same_found _ _ _ _ (ap (λ v. build v (value (rest l))) va ∙ (ap (λ r. build a (value r)) rl ∙ ap (λ v. build a v) vb)) (ap rest rl ∙ rs)

three_is : (build : ℕ → ℕ → ℕ → CellForm) (a b c : ℕ) (l s t x : List ℕ) → value l ≡ a → rest l ≡ s → value s ≡ b → rest s ≡ t → value t ≡ c → rest t ≡ x → three build l ≡ found (build a b c) x
three_is build a b c l s t x va rl vb rs vc rt =
    same_found _ _ _ _ (ap (λ v. build v (value (rest l)) (value (rest (rest l)))) va ∙ (ap (λ r. build a (value r) (value (rest r))) rl ∙ (ap (λ v. build a v (value (rest s))) vb ∙ (ap (λ r. build a b (value r)) rs ∙ ap (λ v. build a b v) vc))))
    (ap (λ r. rest (rest r)) rl ∙ (ap rest rs ∙ rt))

-- an operation on two wires, by what stands behind the first
binary_is : (build : ℕ → ℕ → CellForm) (a b : ℕ) (s x : List ℕ) → a < 2 ^ 64 → NoDigit s → ((l : List ℕ) → by_wire s l ≡ two build l) → value s ≡ b → rest s ≡ x
    → read (119 ∷ (decimal a ++ s)) ≡ found (build a b) x
binary_is build a b s x h stop sign vb rs =
    ap (λ r. by_wire r (119 ∷ (decimal a ++ s))) (rest_decimal a s h stop) ∙ (sign (119 ∷ (decimal a ++ s)) ∙ two_is build a b (119 ∷ (decimal a ++ s)) s x (value_decimal a s h stop) (rest_decimal a s h stop) vb rs)

no_more : (a b : ℕ) → a < 2 ^ 64 → a - b < 2 ^ 64
no_more a b h = omega (arith, h)

-- the forms that name bits of a wire

zeros_read : (k a : ℕ) (x : List ℕ) → k < 2 ^ 64 → a < 2 ^ 64 → read ((codes "{" ++ (decimal k ++ (codes "'d0, w" ++ (decimal a ++ codes "}")))) ++ x) ≡ found (Zero a) x
zeros_read k a x hk ha =
    let t = codes "}" ++ x in
    let u = codes "0, w" ++ (decimal a ++ t) in
    let s = codes "'d" ++ u in
    let text = 123 ∷ (decimal k ++ s) in
    let first : rest text ≡ s = rest_decimal k s hk refl in
    let last : rest (rest text) ≡ codes ", w" ++ (decimal a ++ t) = ap rest first in
    ap (λ r. read (123 ∷ r)) (append_assoc (decimal k) (codes "'d0, w" ++ (decimal a ++ codes "}")) x ∙ ap (λ r. decimal k ++ (codes "'d0, w" ++ r)) (append_assoc (decimal a) (codes "}") x))
    ∙ (ap (λ r. by_brace r text) first
    ∙ same_found _ _ _ _ (ap (λ r. Zero (value r)) last ∙ ap Zero (value_decimal a t ha refl)) (ap (λ r. beyond (rest r)) last ∙ ap beyond (rest_decimal a t ha refl)))

copies_read : (k n a : ℕ) (x : List ℕ) → k < 2 ^ 64 → n < 2 ^ 64 → a < 2 ^ 64
    → read ((codes "{{" ++ (decimal k ++ (codes "{w" ++ (decimal a ++ (codes "[" ++ (decimal n ++ (codes "]}}, w" ++ (decimal a ++ codes "}")))))))) ++ x) ≡ found (Sign a) x
copies_read k n a x hk hn ha =
    let v = codes "}" ++ x in
    let u = codes "]}}, w" ++ (decimal a ++ v) in
    let t = codes "[" ++ (decimal n ++ u) in
    let s = codes "{w" ++ (decimal a ++ t) in
    let text = 123 ∷ (123 ∷ (decimal k ++ s)) in
    let first : rest text ≡ s = rest_decimal k s hk refl in
    let second : rest (rest text) ≡ t = ap rest first ∙ rest_decimal a t ha refl in
    let third : rest (rest (rest text)) ≡ u = ap rest second ∙ rest_decimal n u hn refl in
    ap (λ r. read (123 ∷ (123 ∷ r))) (grouped (decimal k) (codes "{w") (decimal a) (codes "[") (decimal n) (codes "]}}, w") (codes "}") x)
    ∙ (ap (λ r. by_brace r text) first
    ∙ same_found _ _ _ _ (ap (λ r. Sign (value r)) first ∙ ap Sign (value_decimal a t ha refl)) (ap (λ r. beyond (rest r)) third ∙ ap beyond (rest_decimal a v ha refl)))
  where
    grouped : (k b a c n d e x : List ℕ) → (k ++ (b ++ (a ++ (c ++ (n ++ (d ++ (a ++ e))))))) ++ x ≡ k ++ (b ++ (a ++ (c ++ (n ++ (d ++ (a ++ (e ++ x)))))))
    grouped k b a c n d e x = simp append_assoc

lows_read : (n a : ℕ) (x : List ℕ) → n < 2 ^ 64 → a < 2 ^ 64 → read ((codes "w" ++ (decimal a ++ (codes "[" ++ (decimal n ++ codes ":0]")))) ++ x) ≡ found (Low a) x
lows_read n a x hn ha =
    let t = codes ":0]" ++ x in
    let s = codes "[" ++ (decimal n ++ t) in
    let text = 119 ∷ (decimal a ++ s) in
    let first : rest text ≡ s = rest_decimal a s ha refl in
    let second : rest (rest text) ≡ t = ap rest first ∙ rest_decimal n t hn refl in
    ap (λ r. read (119 ∷ r)) (append_assoc (decimal a) (codes "[" ++ (decimal n ++ codes ":0]")) x ∙ ap (λ r. decimal a ++ (codes "[" ++ r)) (append_assoc (decimal n) (codes ":0]") x))
    ∙ (ap (λ r. by_wire r text) first
    ∙ same_found _ _ _ _ (ap Low (value_decimal a s ha refl)) (ap (λ r. beyond (rest r)) second))

reads : (cells : List Cell) (w : ℕ) (f : CellForm) (x : List ℕ) → w < 2 ^ 64 → HasSmall cells f → NoDigit x → read (form_text cells w f ++ x) ≡ found f x
reads cells w (Const bits) x hw h stop =
    let s = codes "'d" ++ (decimal bits ++ x) in
    ap read (append_assoc (decimal w) (codes "'d" ++ decimal bits) x)
    ∙ (ap (λ p. by_first (slice_index p 0) (decimal w ++ s)) (past_decimal w s hw refl)
    ∙ two_is (λ width b. Const b) w bits (decimal w ++ s) s x (value_decimal w s hw refl) (rest_decimal w s hw refl) (value_decimal bits x h stop) (rest_decimal bits x h stop))
reads cells w (Reg register) x hw h stop = same_found _ _ _ _ (ap Reg (value_decimal register x h stop)) (rest_decimal register x h stop)
reads cells w (Data memory bank port) x hw h stop =
    let u = codes "_in" ++ x in
    let t = codes "_p" ++ (decimal port ++ u) in
    let s = codes "_b" ++ (decimal bank ++ t) in
    ap (λ r. read (109 ∷ r)) (append_assoc (decimal memory) (codes "_b" ++ (decimal bank ++ (codes "_p" ++ (decimal port ++ codes "_in")))) x ∙ ap (λ r. decimal memory ++ (codes "_b" ++ r)) (append_assoc (decimal bank) (codes "_p" ++ (decimal port ++ codes "_in")) x ∙ ap (λ r. decimal bank ++ (codes "_p" ++ r)) (append_assoc (decimal port) (codes "_in") x)))
    ∙ ap behind_found (three_is Data memory bank port (109 ∷ (decimal memory ++ s)) s t u (value_decimal memory s h.0 refl) (rest_decimal memory s h.0 refl) (value_decimal bank t h.1.0 refl) (rest_decimal bank t h.1.0 refl) (value_decimal port u h.1.1 refl) (rest_decimal port u h.1.1 refl))
reads cells w (Add a b) x hw h stop =
    ap (λ r. read (119 ∷ r)) (append_assoc (decimal a) (codes " + w" ++ decimal b) x)
    ∙ binary_is Add a b (codes " + w" ++ (decimal b ++ x)) x h.0 refl (λ l. refl) (value_decimal b x h.1 stop) (rest_decimal b x h.1 stop)
reads cells w (Sub a b) x hw h stop =
    ap (λ r. read (119 ∷ r)) (append_assoc (decimal a) (codes " - w" ++ decimal b) x)
    ∙ binary_is Sub a b (codes " - w" ++ (decimal b ++ x)) x h.0 refl (λ l. refl) (value_decimal b x h.1 stop) (rest_decimal b x h.1 stop)
reads cells w (Mul a b) x hw h stop =
    ap (λ r. read (119 ∷ r)) (append_assoc (decimal a) (codes " * w" ++ decimal b) x)
    ∙ binary_is Mul a b (codes " * w" ++ (decimal b ++ x)) x h.0 refl (λ l. refl) (value_decimal b x h.1 stop) (rest_decimal b x h.1 stop)
reads cells w (And a b) x hw h stop =
    ap (λ r. read (119 ∷ r)) (append_assoc (decimal a) (codes " & w" ++ decimal b) x)
    ∙ binary_is And a b (codes " & w" ++ (decimal b ++ x)) x h.0 refl (λ l. refl) (value_decimal b x h.1 stop) (rest_decimal b x h.1 stop)
reads cells w (Or a b) x hw h stop =
    ap (λ r. read (119 ∷ r)) (append_assoc (decimal a) (codes " | w" ++ decimal b) x)
    ∙ binary_is Or a b (codes " | w" ++ (decimal b ++ x)) x h.0 refl (λ l. refl) (value_decimal b x h.1 stop) (rest_decimal b x h.1 stop)
reads cells w (Xor a b) x hw h stop =
    ap (λ r. read (119 ∷ r)) (append_assoc (decimal a) (codes " ^ w" ++ decimal b) x)
    ∙ binary_is Xor a b (codes " ^ w" ++ (decimal b ++ x)) x h.0 refl (λ l. refl) (value_decimal b x h.1 stop) (rest_decimal b x h.1 stop)
reads cells w (Shl a b) x hw h stop =
    ap (λ r. read (119 ∷ r)) (append_assoc (decimal a) (codes " << w" ++ decimal b) x)
    ∙ binary_is Shl a b (codes " << w" ++ (decimal b ++ x)) x h.0 refl (λ l. refl) (value_decimal b x h.1 stop) (rest_decimal b x h.1 stop)
reads cells w (ShrU a b) x hw h stop =
    ap (λ r. read (119 ∷ r)) (append_assoc (decimal a) (codes " >> w" ++ decimal b) x)
    ∙ binary_is ShrU a b (codes " >> w" ++ (decimal b ++ x)) x h.0 refl (λ l. refl) (value_decimal b x h.1 stop) (rest_decimal b x h.1 stop)
reads cells w (LtU a b) x hw h stop =
    ap (λ r. read (119 ∷ r)) (append_assoc (decimal a) (codes " < w" ++ decimal b) x)
    ∙ binary_is LtU a b (codes " < w" ++ (decimal b ++ x)) x h.0 refl (λ l. refl) (value_decimal b x h.1 stop) (rest_decimal b x h.1 stop)
reads cells w (Eq a b) x hw h stop =
    ap (λ r. read (119 ∷ r)) (append_assoc (decimal a) (codes " == w" ++ decimal b) x)
    ∙ binary_is Eq a b (codes " == w" ++ (decimal b ++ x)) x h.0 refl (λ l. refl) (value_decimal b x h.1 stop) (rest_decimal b x h.1 stop)
reads cells w (ShrS a b) x hw h stop =
    let s = codes ") >>> w" ++ (decimal b ++ x) in
    let text = codes "$signed(w" ++ (decimal a ++ s) in
    ap (λ r. read (codes "$signed(w" ++ r)) (append_assoc (decimal a) (codes ") >>> w" ++ decimal b) x)
    ∙ (ap (λ r. by_signed r text) (rest_decimal a s h.0 refl)
    ∙ two_is ShrS a b text s x (value_decimal a s h.0 refl) (rest_decimal a s h.0 refl) (value_decimal b x h.1 stop) (rest_decimal b x h.1 stop))
reads cells w (LtS a b) x hw h stop =
    let t = codes ")" ++ x in
    let s = codes ") < $signed(w" ++ (decimal b ++ t) in
    let text = codes "$signed(w" ++ (decimal a ++ s) in
    ap (λ r. read (codes "$signed(w" ++ r)) (append_assoc (decimal a) (codes ") < $signed(w" ++ (decimal b ++ codes ")")) x ∙ ap (λ r. decimal a ++ (codes ") < $signed(w" ++ r)) (append_assoc (decimal b) (codes ")") x))
    ∙ (ap (λ r. by_signed r text) (rest_decimal a s h.0 refl)
    ∙ ap beyond_found (two_is LtS a b text s t (value_decimal a s h.0 refl) (rest_decimal a s h.0 refl) (value_decimal b t h.1 refl) (rest_decimal b t h.1 refl)))
reads cells w (Mux c a b) x hw h stop =
    let t = codes " : w" ++ (decimal b ++ x) in
    let s = codes " ? w" ++ (decimal a ++ t) in
    ap (λ r. read (119 ∷ r)) (append_assoc (decimal c) (codes " ? w" ++ (decimal a ++ (codes " : w" ++ decimal b))) x ∙ ap (λ r. decimal c ++ (codes " ? w" ++ r)) (append_assoc (decimal a) (codes " : w" ++ decimal b) x))
    ∙ (ap (λ r. by_wire r (119 ∷ (decimal c ++ s))) (rest_decimal c s h.0 refl)
    ∙ three_is Mux c a b (119 ∷ (decimal c ++ s)) s t x (value_decimal c s h.0 refl) (rest_decimal c s h.0 refl) (value_decimal a t h.1.0 refl) (rest_decimal a t h.1.0 refl) (value_decimal b x h.1.1 stop) (rest_decimal b x h.1.1 stop))
reads cells w (Zero a) x hw h stop = zeros_read (w - wire_width cells a) a x (no_more w (wire_width cells a) hw) h
reads cells w (Sign a) x hw h stop =
    copies_read (w - wire_width cells a) (wire_width cells a - 1) a x (no_more w (wire_width cells a) hw) (no_more (wire_width cells a) 1 h.1) h.0
reads cells w (Low a) x hw h stop = lows_read (w - 1) a x (no_more w 1 hw) h

pub same_form : (cs ds : List Cell) (v w : ℕ) (f g : CellForm) (x y : List ℕ) → v < 2 ^ 64 → w < 2 ^ 64 → HasSmall cs f → HasSmall ds g → NoDigit x → NoDigit y → form_text cs v f ++ x ≡ form_text ds w g ++ y → (f ≡ g) × (x ≡ y)
same_form cs ds v w f g x y hv hw hf hg sx sy e =
    let t : found f x ≡ found g y = sym (reads cs v f x hv hf sx) ∙ (ap read e ∙ reads ds w g y hw hg sy) in
    (ap (λ p. p.0) t, ap (λ p. p.1) t)

-- Numbers and words at the front of a text. A number is its digits up to the first other byte, a word
-- is its bytes up to the first space. So a text that begins with one and goes on otherwise has one
-- number, or one word, and one rest.
use Rattle.std.proofs.Common.{◌≡◌, ℕ, ◌<◌, ◌^◌, Bool, true, false, ◌&&◌, if◌then◌else◌, List, [], ◌∷◌, ◌++◌, ◌∙◌, ap, sym, refl, length, arith, eq-eqb}
use Rattle.std.specs.Prelude.{not, ◌==◌, slice_index}
use Rattle.std.specs.Char.{is_ascii_digit}
use Rattle.std.specs.Fmt.{decimal}
use Rattle.std.specs.List.{AllByRecursion}
use Rattle.std.specs.Str.{all_ascii_digits}
use Rattle.std.specs.Str.Parse.{digits_value}
use Rattle.std.proofs.lemmas.Fmt.{digits_decimal, digits_value-decimal, decimal_nonempty}
use Rattle.std.proofs.lemmas.Str.Parse.{IsNumeralModel, numerals_by_value, tells_all_ascii_digits}

-- the text does not begin with a digit
abbrev pub NoDigit : List ℕ → Type 0
NoDigit [] = Unit {0}
NoDigit (b ∷ bs) = is_ascii_digit b ≡ false

-- the digits at the front
abbrev pub run : List ℕ → List ℕ
run [] = []
run (b ∷ bs) = if is_ascii_digit b then b ∷ run bs else []

-- what stands after them
abbrev pub past : List ℕ → List ℕ
past [] = []
past (b ∷ bs) = if is_ascii_digit b then past bs else b ∷ bs

-- the text from its first digit on
abbrev pub skip : List ℕ → List ℕ
skip [] = []
skip (b ∷ bs) = if is_ascii_digit b then b ∷ bs else skip bs

-- the number at the front
abbrev pub number : List ℕ → ℕ
number text = digits_value 10 (run text)

own : IsNumeralModel (λ ds. all_ascii_digits ds ≡ true) (digits_value 10)
own = numerals_by_value (λ ds. all_ascii_digits ds ≡ true) tells_all_ascii_digits

both : (a b : Bool) → (a && b) ≡ true → (a ≡ true) × (b ≡ true)
both true b e = (refl, e)
both false b e = absurd cc

run_digits : (ds x : List ℕ) → all_ascii_digits ds ≡ true → NoDigit x → run (ds ++ x) ≡ ds
run_digits [] [] h s = refl
run_digits [] (b ∷ x) h s = ap (λ t. if t then b ∷ run x else []) s
run_digits (d ∷ ds) x h s =
    let two = both (is_ascii_digit d) (all_ascii_digits ds) h in
    ap (λ t. if t then d ∷ run (ds ++ x) else []) two.0 ∙ ap (λ r. d ∷ r) (run_digits ds x two.1 s)

past_digits : (ds x : List ℕ) → all_ascii_digits ds ≡ true → NoDigit x → past (ds ++ x) ≡ x
past_digits [] [] h s = refl
past_digits [] (b ∷ x) h s = ap (λ t. if t then past x else b ∷ x) s
past_digits (d ∷ ds) x h s =
    let two = both (is_ascii_digit d) (all_ascii_digits ds) h in
    ap (λ t. if t then past (ds ++ x) else d ∷ (ds ++ x)) two.0 ∙ past_digits ds x two.1 s

skip_digits : (ds x : List ℕ) → all_ascii_digits ds ≡ true → 0 < length ds → skip (ds ++ x) ≡ ds ++ x
skip_digits [] x h n = absurd (omega arith)
skip_digits (d ∷ ds) x h n = ap (λ t. if t then d ∷ (ds ++ x) else skip (ds ++ x)) (both (is_ascii_digit d) (all_ascii_digits ds) h).0

pub number_decimal : (n : ℕ) (x : List ℕ) → n < 2 ^ 64 → NoDigit x → number (decimal n ++ x) ≡ n
number_decimal n x h s = ap (digits_value 10) (run_digits (decimal n) x (digits_decimal own n h) s) ∙ digits_value-decimal own n h

pub past_decimal : (n : ℕ) (x : List ℕ) → n < 2 ^ 64 → NoDigit x → past (decimal n ++ x) ≡ x
past_decimal n x h s = past_digits (decimal n) x (digits_decimal own n h) s

pub skip_decimal : (n : ℕ) (x : List ℕ) → n < 2 ^ 64 → skip (decimal n ++ x) ≡ decimal n ++ x
skip_decimal n x h = skip_digits (decimal n) x (digits_decimal own n h) (decimal_nonempty n h)

pub number_then : (m n : ℕ) (x y : List ℕ) → m < 2 ^ 64 → n < 2 ^ 64 → NoDigit x → NoDigit y → decimal m ++ x ≡ decimal n ++ y → (m ≡ n) × (x ≡ y)
number_then m n x y hm hn sx sy e =
    (sym (number_decimal m x hm sx) ∙ (ap number e ∙ number_decimal n y hn sy), sym (past_decimal m x hm sx) ∙ (ap past e ∙ past_decimal n y hn sy))

-- no byte of it is a space
abbrev pub NoSpace : List ℕ → Type 0
NoSpace word = AllByRecursion (λ b. b ≡ 32 → ⊥) word

pub word_then : (m n x y : List ℕ) → NoSpace m → NoSpace n → m ++ (32 ∷ x) ≡ n ++ (32 ∷ y) → (m ≡ n) × (x ≡ y)
word_then [] [] x y hm hn e =
    let t : x ≡ y = cc in
    (refl, t)
word_then [] (c ∷ n) x y hm hn e =
    let t : c ≡ 32 = cc in
    absurd (hn.0 t)
word_then (b ∷ m) [] x y hm hn e =
    let t : b ≡ 32 = cc in
    absurd (hm.0 t)
word_then (b ∷ m) (c ∷ n) x y hm hn e =
    let first : b ≡ c = cc in
    let rest : m ++ (32 ∷ x) ≡ n ++ (32 ∷ y) = cc in
    let more = word_then m n x y hm.1 hn.1 rest in
    let whole : b ∷ m ≡ c ∷ n = cc (first, more.0) in
    (whole, more.1)

-- two numbers that a test tells apart
pub unlike : (a b : ℕ) → (a == b) ≡ false → a ≡ b → ⊥
unlike a b t e =
    let s : (a == b) ≡ true = eq-eqb a b e in
    cc

abbrev spaceless : List ℕ → Bool
spaceless [] = true
spaceless (b ∷ bs) = not (b == 32) && spaceless bs

pub no_space : (bs : List ℕ) → spaceless bs ≡ true → NoSpace bs
no_space [] e = tt
no_space (b ∷ bs) e =
    let two = both (not (b == 32)) (spaceless bs) e in
    (λ same. off (b == 32) two.0 (eq-eqb b 32 same), no_space bs two.1)
  where
    off : (t : Bool) → not t ≡ true → t ≡ true → ⊥
    off true h e = cc
    off false h e = cc

first_of : (ds x : List ℕ) (v : ℕ) → all_ascii_digits ds ≡ true → 0 < length ds → is_ascii_digit v ≡ false → slice_index (ds ++ x) 0 ≡ v → ⊥
first_of [] x v h n s e = absurd (omega arith)
first_of (d ∷ ds) x v h n s e =
    let t : is_ascii_digit d ≡ is_ascii_digit v = ap is_ascii_digit e in
    let u : is_ascii_digit d ≡ true = (both (is_ascii_digit d) (all_ascii_digits ds) h).0 in
    cc

-- a number does not begin with a byte that is no digit
pub first_digit : (n v : ℕ) (x : List ℕ) → n < 2 ^ 64 → is_ascii_digit v ≡ false → slice_index (decimal n ++ x) 0 ≡ v → ⊥
first_digit n v x h s e = first_of (decimal n) x v (digits_decimal own n h) (decimal_nonempty n h) s e

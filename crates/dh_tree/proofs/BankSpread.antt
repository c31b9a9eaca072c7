-- Bank and row to place is onto and one to one: each place is that of one row of one bank. By induction
-- over the dimensions. A place is taken apart into an index and the place among the other dimensions; an
-- index i into i div m and i mod m; these are the first parts of row and bank.
use Rattle.std.proofs.Common.{◌≡◌, ℕ, ◌+◌, ◌*◌, ◌/◌, ◌%◌, ◌<◌, List, [], ◌∷◌, sym, ap, ◌∙◌, arith}
use Rattle.std.specs.List.{AllByRecursion}
use Rattle.std.proofs.lemmas.Nat.{div-mul-add, mod-mul-add, div-add-mod'}
use Rattle.std.proofs.Math.Nat.{mod-lt}
use Rattle.dh_tree.proofs.BankElements.{row_below, column_below, place_below, quotient_below, in_bank_below}
use Rattle.dh_tree.specs.declared.tables.Dim.{Dim}
use Rattle.dh_tree.specs.Elements.{banks_of, rows_of, position_in_bank, BankRow, HasBankRow, place_at, LiesIn}
use Rattle.dh_tree.specs.Shapes.{IsDim}
use Rattle.dh_tree.specs.Tables.{elements_of}

-- a number of rows of w places is its row and its column
split_row : (a b c d w : ℕ) → b < w → d < w → a * w + b ≡ c * w + d → a ≡ c
split_row a b c d w p q e = sym (div-mul-add a w b p) ∙ (ap (λ n. n / w) e ∙ div-mul-add c w d q)

split_column : (a b c d w : ℕ) → b < w → d < w → a * w + b ≡ c * w + d → b ≡ d
split_column a b c d w p q e = sym (mod-mul-add a w b p) ∙ (ap (λ n. n % w) e ∙ mod-mul-add c w d q)

joined : (n m w : ℕ) → n / w ≡ m / w → n % w ≡ m % w → n ≡ m
joined n m w q r = sym (div-add-mod' n w) ∙ (ap (λ k. k * w + n % w) q ∙ (ap (λ k. m / w * w + k) r ∙ div-add-mod' m w))

one_bank_and_row : (dims : List Dim) (bank row bank' row' : ℕ) → AllByRecursion IsDim dims → bank < banks_of dims → row < rows_of dims
    → bank' < banks_of dims → row' < rows_of dims → position_in_bank dims bank row ≡ position_in_bank dims bank' row' → (bank ≡ bank') × (row ≡ row')
one_bank_and_row [] bank row bank' row' h b r b' r' e = (omega (arith, b, b'), omega (arith, r, r'))
one_bank_and_row (d ∷ ds) bank row bank' row' h b r b' r' e =
    let B = banks_of ds in
    let R = rows_of ds in
    let c = column_below bank d.banks B b in
    let s = column_below row (d.size / d.banks) R r in
    let c' = column_below bank' d.banks B b' in
    let s' = column_below row' (d.size / d.banks) R r' in
    let inner = in_bank_below ds (bank % B) (row % R) h.1 c s in
    let inner' = in_bank_below ds (bank' % B) (row' % R) h.1 c' s' in
    let index = split_row ((row / R) * d.banks + bank / B) (position_in_bank ds (bank % B) (row % R)) ((row' / R) * d.banks + bank' / B) (position_in_bank ds (bank' % B) (row' % R)) (elements_of ds) inner inner' e in
    let rest = split_column ((row / R) * d.banks + bank / B) (position_in_bank ds (bank % B) (row % R)) ((row' / R) * d.banks + bank' / B) (position_in_bank ds (bank' % B) (row' % R)) (elements_of ds) inner inner' e in
    let f = row_below bank d.banks B b in
    let f' = row_below bank' d.banks B b' in
    let others = one_bank_and_row ds (bank % B) (row % R) (bank' % B) (row' % R) h.1 c s c' s' rest in
    (joined bank bank' B (split_column (row / R) (bank / B) (row' / R) (bank' / B) d.banks f f' index) others.0, joined row row' R (split_row (row / R) (bank / B) (row' / R) (bank' / B) d.banks f f' index) others.1)

pub place_lies : (dims : List Dim) (position : ℕ) → AllByRecursion IsDim dims → position < elements_of dims → LiesIn dims position
place_lies [] position h l = record { lies = record { bank = 0; row = 0 }; there = record { bank = omega arith; row = omega arith }; place = omega (arith, l) }
place_lies (d ∷ ds) position h l =
    let E = elements_of ds in
    let rest = place_lies ds (position % E) h.1 (column_below position d.size E l) in
    let i = position / E in
    let index = row_below position d.size E l in
    let column = mod-lt i {m = d.banks} h.0.banks in
    let q = quotient_below i d.banks d.size h.0.banks h.0.divides index in
    let b = rest.lies.bank in
    let r = rest.lies.row in
    record {
      lies = record { bank = i % d.banks * banks_of ds + b; row = i / d.banks * rows_of ds + r };
      there = record {
        bank = place_below (i % d.banks) (banks_of ds) b d.banks column rest.there.bank;
        row = place_below (i / d.banks) (rows_of ds) r (d.size / d.banks) q rest.there.row;
      };
      place = step i d.banks (banks_of ds) b (rows_of ds) r E (position % E) (position_in_bank ds) rest.there.bank rest.there.row rest.place ∙ div-add-mod' position E;
    }
  where
    step : (i m banks bank rows row elements place : ℕ) (inner : ℕ → ℕ → ℕ) → bank < banks → row < rows → inner bank row ≡ place
        → (((i / m * rows + row) / rows) * m + (i % m * banks + bank) / banks) * elements + inner ((i % m * banks + bank) % banks) ((i / m * rows + row) % rows)
        ≡ i * elements + place
    step i m banks bank rows row elements place inner b r e =
        let row_part : (i / m * rows + row) / rows ≡ i / m = div-mul-add (i / m) rows row r in
        let bank_part : (i % m * banks + bank) / banks ≡ i % m = div-mul-add (i % m) banks bank b in
        let row_rest : (i / m * rows + row) % rows ≡ row = mod-mul-add (i / m) rows row r in
        let bank_rest : (i % m * banks + bank) % banks ≡ bank = mod-mul-add (i % m) banks bank b in
        let index : i / m * m + i % m ≡ i = div-add-mod' i m in
        let first : ((i / m * rows + row) / rows) * m + (i % m * banks + bank) / banks ≡ i = cc in
        let second : inner ((i % m * banks + bank) % banks) ((i / m * rows + row) % rows) ≡ place = cc in
        cc

same_spot : (first other : BankRow) → first.bank ≡ other.bank → first.row ≡ other.row → first ≡ other
same_spot first other b r = λ i. record { bank = b i; row = r i }

pub one_place : (dims : List Dim) (first other : BankRow) → AllByRecursion IsDim dims → HasBankRow dims first → HasBankRow dims other
    → place_at dims first ≡ place_at dims other → first ≡ other
one_place dims first other h f o e =
    let same = one_bank_and_row dims first.bank first.row other.bank other.row h f.bank f.row o.bank o.row e in
    same_spot first other same.0 same.1

-- One turn of a loop over the bits of a number from the highest on: what the bits below give from there on is what
-- they gave before, since each step is that of the definition. And the end of a loop over dimensions and indices.
use Rattle.std.proofs.Common.{◌≡◌, ℕ, zero, suc, ◌-◌, ◌*◌, ◌/◌, ◌%◌, ◌^◌, ◌<◌, ◌≤◌, ◌==◌, Bool, true, false, List, Some, refl, sym, ap, ◌∙◌, arith, length, drop, min}
use Rattle.std.specs.Prelude.{Option, if◌then◌else◌, [], ◌∷◌}
use Rattle.dh_plan.specs.declared.operations.Operation.{Operation}
use Rattle.dh_tree.specs.declared.tables.Dim.{Dim}
use Rattle.dh_rows.specs.MadeOperations.{Made, Summed, Taken, Spread, IsMade, IsTaken, made, summed, sum_of, value_shifted, value_added, added_with, bit_scaled, scaled_below, constant_taken, taken_below, all_spread}
use Rattle.dh_rows.specs.declared.dividing.Taking.{Taking}

-- the bit below a bound
pub below_bound : (by : ℕ) → 0 < by → suc (by - 1) ≡ by
below_bound by some = omega (arith, some)

made_whole : (os : List Operation) (value : ℕ) (m : Made) → os ≡ m.operations → value ≡ m.value → made os value ≡ m
made_whole os value m first second = ap (λ o. made o value) first ∙ ap (λ n. made m.operations n) second

module _ (os : List Operation) (value factor : ℕ) (whole : Summed) where
  pub scaled_turn : (by low : ℕ) (sum : Option ℕ) (next : Summed) → suc low ≡ by → bit_scaled os value factor low sum ≡ next → scaled_below os value factor by sum ≡ whole
      → scaled_below next.operations value factor low next.sum ≡ whole
  scaled_turn by low sum next is step all =
      sym (ap (λ (m : Summed). scaled_below m.operations value factor low m.sum) step) ∙ (ap (λ n. scaled_below os value factor n sum) is ∙ all)

  abbrev bit_on : Option ℕ → ℕ → Summed
  bit_on sum low = sum_of (added_with sum (value_shifted os value low))

  pub scaled_off : (by low : ℕ) (sum : Option ℕ) (bit : Bool) → suc low ≡ by → bit ≡ (factor / 2 ^ low % 2 == 1) → bit ≡ false → scaled_below os value factor by sum ≡ whole
      → scaled_below os value factor low sum ≡ whole
  scaled_off by low sum bit some is off all =
      scaled_turn by low sum (summed os sum) some (ap (λ t. if t then bit_on sum low else summed os sum) (sym is ∙ off)) all

  pub scaled_on : (by low : ℕ) (sum : Option ℕ) (bit : Bool) (os1 os2 : List Operation) (part n : ℕ) → suc low ≡ by → bit ≡ (factor / 2 ^ low % 2 == 1) → bit ≡ true
      → IsMade os1 part (value_shifted os value low) → IsMade os2 n (value_added os1 sum part) → scaled_below os value factor by sum ≡ whole
      → scaled_below os2 value factor low (Some n) ≡ whole
  scaled_on by low sum bit os1 os2 part n some is on first second all =
      scaled_turn by low sum (summed os2 (Some n)) some (ap (λ t. if t then bit_on sum low else summed os sum) (sym is ∙ on) ∙ sym both) all
    where
      early : made os1 part ≡ value_shifted os value low
      early = made_whole os1 part _ first.0 first.1

      late : made os2 n ≡ value_added os1 sum part
      late = made_whole os2 n _ second.0 second.1

      both : summed os2 (Some n) ≡ bit_on sum low
      both = ap sum_of late ∙ ap (λ (m : Made). sum_of (added_with sum m)) early

pub taken_turn : (os os1 : List Operation) (width banks by low : ℕ) (quotient : Option ℕ) (rest part : ℕ) (next : Taking) (whole : Taken) → suc low ≡ by
    → part ≡ banks * 2 ^ low % 2 ^ 64 → IsTaken os1 next (constant_taken os width quotient rest part)
    → taken_below os width banks by quotient rest ≡ whole → taken_below os1 width banks low next.quotient next.rest ≡ whole
taken_turn os os1 width banks by low quotient rest part next whole some is step all =
    sym alike ∙ (ap (λ n. taken_below os width banks n quotient rest) some ∙ all)
  where
    same : constant_taken os width quotient rest part ≡ constant_taken os width quotient rest (banks * 2 ^ low % 2 ^ 64)
    same = ap (λ (n : ℕ). constant_taken os width quotient rest n) is

    as_made : record { operations = os1; quotient = next.quotient; rest = next.rest } ≡ constant_taken os width quotient rest part
    as_made = cc

    alike : taken_below os width banks (suc low) quotient rest ≡ taken_below os1 width banks low next.quotient next.rest
    alike = ap (λ (m : Taken). taken_below m.operations width banks low m.quotient m.rest) (sym (as_made ∙ same))

pub spread_end : (os : List Operation) (width : ℕ) (ds : List Dim) (is : List ℕ) (banked : Bool) (row bank : Option ℕ) (n : ℕ) → min (length ds) (length is) ≤ n
    → all_spread os width (drop n ds) (drop n is) banked row bank ≡ record { operations = os; row = row; bank = bank }
spread_end os width [] [] banked row bank zero l = refl
spread_end os width [] (i ∷ is) banked row bank zero l = refl
spread_end os width (d ∷ ds) [] banked row bank zero l = refl
spread_end os width (d ∷ ds) (i ∷ is) banked row bank zero l = absurd (omega (arith, l))
spread_end os width [] [] banked row bank (suc n) l = refl
spread_end os width [] (i ∷ is) banked row bank (suc n) l = nothing (drop n is)
  where
    nothing : (is : List ℕ) → all_spread os width [] is banked row bank ≡ record { operations = os; row = row; bank = bank }
    nothing [] = refl
    nothing (i ∷ is) = refl
spread_end os width (d ∷ ds) [] banked row bank (suc n) l = nothing (drop n ds)
  where
    nothing : (ds : List Dim) → all_spread os width ds [] banked row bank ≡ record { operations = os; row = row; bank = bank }
    nothing [] = refl
    nothing (d ∷ ds) = refl
spread_end os width (d ∷ ds) (i ∷ is) banked row bank (suc n) l = spread_end os width ds is banked row bank n (omega (arith, l))

pub spread_done : (os : List Operation) (width : ℕ) (ds : List Dim) (is : List ℕ) (banked : Bool) (row bank : Option ℕ) (n m : ℕ) (whole : Spread)
    → m ≡ min (length ds) (length is) → m ≤ n → all_spread os width (drop n ds) (drop n is) banked row bank ≡ whole
    → (os ≡ whole.operations) × ((row ≡ whole.row) × (bank ≡ whole.bank))
spread_done os width ds is banked row bank n m whole e l all = (ap (λ (s : Spread). s.operations) same, (ap (λ (s : Spread). s.row) same, ap (λ (s : Spread). s.bank) same))
  where
    same : record { operations = os; row = row; bank = bank } ≡ whole
    same = sym (spread_end os width ds is banked row bank n (omega (arith, e, l))) ∙ all

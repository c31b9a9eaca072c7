-- Keys and banks of paths by their numbers, while levels and lanes are gone through.
use Rattle.std.proofs.Common.{◌≡◌, ℕ, zero, suc, ◌+◌, ◌-◌, ◌*◌, ◌/◌, ◌%◌, ◌<◌, ◌≤◌, ◌==◌, false, if◌then◌else◌, List, [], ◌∷◌, length, drop, get_or, refl, ap, sym, ◌∙◌, arith, inl, inr, pos, ◌+ℤ◌, unsigned_abs}
use Rattle.std.specs.List.{AllByRecursion}
use Rattle.std.proofs.lemmas.Bool.{cases_Bool, eqb-true}
use Rattle.std.proofs.Math.Nat.{mod-lt}
use Rattle.std.proofs.lemmas.Nat.{mul-le}
use Rattle.dh_ports.specs.declared.copies.CopyLevel.{CopyLevel}
use Rattle.dh_ports.specs.declared.copies.BankDimension.{BankDimension}
use Rattle.dh_ports.specs.Copies.{IsSpreadLevel, key_of_levels, greatest_key, copy_of_level, bank_of_lanes, all_lane_banks, HaveBanks}
use Rattle.dh_events.proofs.Turns.{at_place}

absurd : {A : Type 0} → ⊥ → A
absurd e = elim e [ ]

less_most : (m n : ℕ) → m < n → m ≤ n
less_most m n e = omega (arith, e)

less_one : (m n : ℕ) → m < n → m ≤ n - 1
less_one m n e = omega (arith, e)

-- no key is greater than the greatest
key_most : (ls : List CopyLevel) (n : ℕ) → AllByRecursion IsSpreadLevel ls → key_of_levels ls n ≤ greatest_key ls
key_most [] n h = same
  where
    same : 0 ≤ 0
    same = omega arith
key_most (l ∷ ls) n h =
    both (((n / l.stride) % l.factor) * l.share) (key_of_levels ls n) ((l.factor - 1) * l.share) (greatest_key ls)
    (mul-le ((n / l.stride) % l.factor) l.share (l.factor - 1) l.share (less_one _ _ (mod-lt (n / l.stride) {m = l.factor} h.0.factor)) (same l.share)) (key_most ls n h.1)
  where
    both : (a b c d : ℕ) → a ≤ c → b ≤ d → a + b ≤ c + d
    both a b c d e f = omega (arith, e, f)

    same : (n : ℕ) → n ≤ n
    same n = omega arith

module _ (ls : List CopyLevel) (i number : ℕ) (d : CopyLevel) (inside : i < length ls) where
  key_here : key_of_levels (drop i ls) number ≡ ((number / (get_or ls i d).stride) % (get_or ls i d).factor) * (get_or ls i d).share + key_of_levels (drop (i + 1) ls) number
  key_here = ap (λ l. key_of_levels l number) (at_place ls i d inside)

  -- a level more
  pub key_turn : (key copy : ℕ) → key + key_of_levels (drop i ls) number ≡ key_of_levels ls number → copy ≡ (number / (get_or ls i d).stride) % (get_or ls i d).factor
      → key + copy * (get_or ls i d).share + key_of_levels (drop (i + 1) ls) number ≡ key_of_levels ls number
  key_turn key copy so is =
      ap (λ c. key + c * (get_or ls i d).share + key_of_levels (drop (i + 1) ls) number) is
      ∙ (grouped key (((number / (get_or ls i d).stride) % (get_or ls i d).factor) * (get_or ls i d).share) (key_of_levels (drop (i + 1) ls) number) ∙ (ap (λ n. key + n) (sym key_here) ∙ so))
    where
      grouped : (a b c : ℕ) → a + b + c ≡ a + (b + c)
      grouped a b c = omega arith

  pub key_few : (key copy most : ℕ) → AllByRecursion IsSpreadLevel ls → greatest_key ls ≤ most → key + key_of_levels (drop i ls) number ≡ key_of_levels ls number → copy ≡ (number / (get_or ls i d).stride) % (get_or ls i d).factor → key + copy * (get_or ls i d).share ≤ most
  key_few key copy most spread few so is = within (key + copy * (get_or ls i d).share) (key_of_levels (drop (i + 1) ls) number) (key_of_levels ls number) (greatest_key ls) most (key_turn key copy so is) (key_most ls number spread) few
    where
      within : (a b c g m : ℕ) → a + b ≡ c → c ≤ g → g ≤ m → a ≤ m
      within a b c g m e f h = omega (arith, e, f, h)

-- no bank is beyond the banks of all lanes
pub bank_most : (levels : List CopyLevel) (ls : List BankDimension) (n : ℕ) → HaveBanks ls → bank_of_lanes levels ls n ≤ all_lane_banks ls
bank_most levels [] n h = same
  where
    same : 0 ≤ 0
    same = omega arith
bank_most levels (l ∷ ls) n h =
    both _ (bank_of_lanes levels ls n) (l.banks * l.times) (all_lane_banks ls)
    (mul-le (unsigned_abs (pos (l.low + copy_of_level levels l.level n) +ℤ l.offset) % l.banks) l.times l.banks l.times (less_most _ _ (mod-lt (unsigned_abs (pos (l.low + copy_of_level levels l.level n) +ℤ l.offset)) {m = l.banks} h.0)) (same l.times))
    (bank_most levels ls n h.1)
  where
    both : (a b c d : ℕ) → a ≤ c → b ≤ d → a + b ≤ c + d
    both a b c d e f = omega (arith, e, f)

    same : (n : ℕ) → n ≤ n
    same n = omega arith

pub banks_rest : (ls : List BankDimension) (n : ℕ) → HaveBanks ls → HaveBanks (drop n ls)
banks_rest ls zero h = h
banks_rest [] (suc n) h = tt
banks_rest (l ∷ ls) (suc n) h = banks_rest ls n h.1

pub lane_banks : (ls : List BankDimension) (i : ℕ) (d : BankDimension) → i < length ls → HaveBanks ls → 1 ≤ (get_or ls i d).banks
lane_banks [] i d e h = absurd (none i e)
  where
    none : (i : ℕ) → i < 0 → ⊥
    none i e = omega (arith, e)
lane_banks (l ∷ ls) zero d e h = h.0
lane_banks (l ∷ ls) (suc i) d e h = lane_banks ls i d (less i (length ls) e) h.1
  where
    less : (i n : ℕ) → suc i < suc n → i < n
    less i n e = omega (arith, e)

pub not_none : (n : ℕ) → (suc n == 0) ≡ false
not_none n = elim (cases_Bool (suc n == 0)) [ inl e ↦ absurd (apart n (eqb-true (suc n) 0 e)) | inr e ↦ e ]
  where
    apart : (n : ℕ) → suc n ≡ 0 → ⊥
    apart n e = omega (arith, e)

-- the copy at a level, where it is one
pub copy_at_level : (ls : List CopyLevel) (level number : ℕ) (d : CopyLevel) → level < length ls → copy_of_level ls level number ≡ (number / (get_or ls level d).stride) % (get_or ls level d).factor
copy_at_level [] level number d e = absurd (none level e)
  where
    none : (i : ℕ) → i < 0 → ⊥
    none i e = omega (arith, e)
copy_at_level (l ∷ ls) zero number d e = refl
copy_at_level (l ∷ ls) (suc level) number d e = ap (λ b. if b then (number / l.stride) % l.factor else copy_of_level ls (suc level - 1) number) (not_none level) ∙ (ap (λ n. copy_of_level ls n number) (back level) ∙ copy_at_level ls level number d (less level (length ls) e))
  where
    less : (i n : ℕ) → suc i < suc n → i < n
    less i n e = omega (arith, e)

    back : (i : ℕ) → suc i - 1 ≡ i
    back i = omega arith

pub no_copy : (ls : List CopyLevel) (level number : ℕ) → length ls ≤ level → copy_of_level ls level number ≡ 0
no_copy [] level number e = refl
no_copy (l ∷ ls) zero number e = absurd (none (length ls) e)
  where
    none : (n : ℕ) → suc n ≤ 0 → ⊥
    none n e = omega (arith, e)
no_copy (l ∷ ls) (suc level) number e = ap (λ b. if b then (number / l.stride) % l.factor else copy_of_level ls (suc level - 1) number) (not_none level) ∙ (ap (λ n. copy_of_level ls n number) (back level) ∙ no_copy ls level number (less (length ls) level e))
  where
    less : (m n : ℕ) → suc m ≤ suc n → m ≤ n
    less m n e = omega (arith, e)

    back : (i : ℕ) → suc i - 1 ≡ i
    back i = omega arith

module _ (levels : List CopyLevel) (ls : List BankDimension) (i number : ℕ) (d : BankDimension) (inside : i < length ls) where
  bank_here : bank_of_lanes levels (drop i ls) number
      ≡ (unsigned_abs (pos ((get_or ls i d).low + copy_of_level levels (get_or ls i d).level number) +ℤ (get_or ls i d).offset) % (get_or ls i d).banks) * (get_or ls i d).times + bank_of_lanes levels (drop (i + 1) ls) number
  bank_here = ap (λ l. bank_of_lanes levels l number) (at_place ls i d inside)

  pub bank_turn : (bank residue : ℕ) → bank + bank_of_lanes levels (drop i ls) number ≡ bank_of_lanes levels ls number → residue ≡ unsigned_abs (pos ((get_or ls i d).low + copy_of_level levels (get_or ls i d).level number) +ℤ (get_or ls i d).offset) % (get_or ls i d).banks
      → bank + residue * (get_or ls i d).times + bank_of_lanes levels (drop (i + 1) ls) number ≡ bank_of_lanes levels ls number
  bank_turn bank residue so is =
      ap (λ c. bank + c * (get_or ls i d).times + bank_of_lanes levels (drop (i + 1) ls) number) is
      ∙ (grouped bank ((unsigned_abs (pos ((get_or ls i d).low + copy_of_level levels (get_or ls i d).level number) +ℤ (get_or ls i d).offset) % (get_or ls i d).banks) * (get_or ls i d).times) (bank_of_lanes levels (drop (i + 1) ls) number) ∙ (ap (λ n. bank + n) (sym bank_here) ∙ so))
    where
      grouped : (a b c : ℕ) → a + b + c ≡ a + (b + c)
      grouped a b c = omega arith

  pub bank_few : (bank residue most : ℕ) → HaveBanks ls → all_lane_banks ls ≤ most → bank + bank_of_lanes levels (drop i ls) number ≡ bank_of_lanes levels ls number → residue ≡ unsigned_abs (pos ((get_or ls i d).low + copy_of_level levels (get_or ls i d).level number) +ℤ (get_or ls i d).offset) % (get_or ls i d).banks
      → bank + residue * (get_or ls i d).times ≤ most
  bank_few bank residue most have few so is = within (bank + residue * (get_or ls i d).times) (bank_of_lanes levels (drop (i + 1) ls) number) (bank_of_lanes levels ls number) (all_lane_banks ls) most (bank_turn bank residue so is) (bank_most levels ls number have) few
    where
      within : (a b c g m : ℕ) → a + b ≡ c → c ≤ g → g ≤ m → a ≤ m
      within a b c g m e f h = omega (arith, e, f, h)

-- A set of banks as the bits of a number, made from the last bank to the first.
use Rattle.std.proofs.Common.{◌≡◌, ℕ, zero, suc, ◌+◌, ◌-◌, ◌*◌, ◌/◌, ◌%◌, ◌^◌, ◌==◌, ◌<◌, ◌≤◌, ◌&&◌, Bool, true, false, nat_lt, if◌then◌else◌, refl, sym, ap, subst, ◌∙◌, arith}
use Rattle.std.proofs.lemmas.Bool.Decides.{nat_tests}
use Rattle.std.proofs.lemmas.Nat.{pow_pos, div-mul-add, mod-mul-add}
use Rattle.std.proofs.Math.Nat.{pow-suc}
use Rattle.std.specs.Int.{bit_at}
use Rattle.std.proofs.Math.Nat.{pow-succ', div-div-eq-div-mul, div-one}

-- the bit of a number, by halves
abbrev pub bit_told : (bits : ℕ) → ℕ → Bool
bit_told bits zero = bits % 2 == 1
bit_told bits (suc n) = bit_told (bits / 2) n

pub bit_is_told : (bits n : ℕ) → (bit_at bits n == 1) ≡ bit_told bits n
bit_is_told bits zero = ap (λ m. m % 2 == 1) (div-one bits)
bit_is_told bits (suc n) = ap (λ m. m % 2 == 1) (ap (λ w. bits / w) (pow-succ' 2 n) ∙ sym (div-div-eq-div-mul bits 2 (2 ^ n))) ∙ bit_is_told (bits / 2) n

-- the bits are those of the banks from k to n that can be reached
pub record Told (can : ℕ → Bool) (n k bits : ℕ) : Type 0 where
  pub least : k ≤ n
  pub small : bits < 2 ^ (n - k)
  pub told : (j : ℕ) → bit_told bits j ≡ (nat_lt (k + j) n && can (k + j))

no_bit : (j : ℕ) → bit_told 0 j ≡ false
no_bit zero = refl
no_bit (suc j) = no_bit j

past : (n j : ℕ) → nat_lt (n + j) n ≡ false
past n j = grind (arith, nat_tests)

inside : (k n : ℕ) → k < n → nat_lt k n ≡ true
inside k n h = grind (arith, nat_tests)

pub told_none : (can : ℕ → Bool) (n : ℕ) → Told can n n 0
told_none can n = record {
  least = omega arith;
  small = pow_pos (n - n);
  told = λ j. no_bit j ∙ sym (ap (λ b. b && can (n + j)) (past n j));
}

abbrev bit_of : Bool → ℕ
bit_of b = if b then 1 else 0

bit_small : (b : Bool) → bit_of b < 2
bit_small true = omega arith
bit_small false = omega arith

bit_is : (b : Bool) → (bit_of b == 1) ≡ b
bit_is true = refl
bit_is false = refl

pub told_more : (can : ℕ → Bool) (n k bits : ℕ) → Told can n (suc k) bits → Told can n k (bits * 2 + (if can k then 1 else 0))
told_more can n k bits t =
    let l = t.least in
    let b = bit_small (can k) in
    let rest : n - k ≡ suc (n - suc k) = omega (arith, l) in
    record {
      least = omega (arith, l);
      small = subst (λ (m : ℕ). bits * 2 + bit_of (can k) < 2 ^ m) (sym rest) (subst (λ (m : ℕ). bits * 2 + bit_of (can k) < m) (sym (pow-suc 2 (n - suc k))) (let s = t.small in twice bits (2 ^ (n - suc k)) (bit_of (can k)) s b));
      told = bits_are b;
    }
  where
    twice : (m w x : ℕ) → m < w → x < 2 → m * 2 + x < w * 2
    twice m w x h l = omega (arith, h, l)

    bits_are : bit_of (can k) < 2 → (j : ℕ) → bit_told (bits * 2 + bit_of (can k)) j ≡ (nat_lt (k + j) n && can (k + j))
    bits_are b zero =
        ap (λ m. m == 1) (mod-mul-add bits 2 (bit_of (can k)) b)
        ∙ (bit_is (can k) ∙ (ap (λ x. x && can k) (sym (inside k n (let l = t.least in omega (arith, l)))) ∙ ap (λ m. nat_lt m n && can m) (plain k)))
      where
        plain : (m : ℕ) → m ≡ m + 0
        plain m = omega arith
    bits_are b (suc j) = ap (λ m. bit_told m j) (div-mul-add bits 2 (bit_of (can k)) b) ∙ (t.told j ∙ ap (λ m. nat_lt m n && can m) (moved k j))
      where
        moved : (m i : ℕ) → suc m + i ≡ m + suc i
        moved m i = omega arith

-- one turn, from the number above
pub told_turn : (can : ℕ → Bool) (n k bits next : ℕ) → 1 ≤ k → Told can n k bits → next ≡ bits * 2 + (if can (k - 1) then 1 else 0) → Told can n (k - 1) next
told_turn can n k bits next some t is =
    let e : k ≡ suc (k - 1) = omega (arith, some) in
    subst (λ (m : ℕ). Told can n (k - 1) m) (sym is) (told_more can n (k - 1) bits (subst (λ (m : ℕ). Told can n m bits) e t))

-- there is room for one bit more
pub told_room : (can : ℕ → Bool) (n k bits : ℕ) → n ≤ 64 → 1 ≤ k → Told can n k bits → bits * 2 + 1 < 2 ^ 64
told_room can n k bits few some t =
    let s : bits < 2 ^ 63 = most bits (n - k) t.small (let l = t.least in omega (arith, few, some, l)) in
    omega (arith, s)
  where
    grows : (m d : ℕ) → 2 ^ m ≤ 2 ^ (m + d)
    grows m zero = subst (λ (x : ℕ). 2 ^ m ≤ 2 ^ x) (plain m) (omega arith)
      where
        plain : (k : ℕ) → k ≡ k + 0
        plain k = omega arith
    grows m (suc d) =
        subst (λ (x : ℕ). 2 ^ m ≤ 2 ^ x) (next m d) (let g = grows m d in let p = pow-suc 2 (m + d) in omega (arith, g, p))
      where
        next : (k j : ℕ) → suc (k + j) ≡ k + suc j
        next k j = omega arith

    most : (b m : ℕ) → b < 2 ^ m → m ≤ 63 → b < 2 ^ 63
    most b m h l =
        let g = grows m (63 - m) in
        let e : m + (63 - m) ≡ 63 = omega (arith, l) in
        subst (λ (x : ℕ). b < 2 ^ x) e (omega (arith, h, g))

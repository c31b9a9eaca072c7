-- Of two leaders the earlier has the smaller place: where they are of one group, by the leaders before them on their bank;
-- else by what earlier groups carry together.
use Rattle.std.proofs.Common.{◌≡◌, ◌⊎◌, inl, inr, ℕ, zero, suc, ◌+◌, ◌^◌, ◌<◌, ◌≤◌, ◌==◌, ◌&&◌, max, Bool, true, false, if◌then◌else◌, refl, ap, sym, subst, arith}
use Rattle.std.proofs.lemmas.Bool.{cases_lt, eq-eqb}
use Rattle.dh_expressions.specs.Counting.{carried_before, copy_place, leaders_in, most_in, places_by}
use Rattle.dh_expressions.specs.Numbers.{narrowed}
use Rattle.dh_expressions.proofs.CopiesCounted.{carried_few, leaders_within}

narrowed_rise : (m n : ℕ) → m < n → n < 2 ^ 32 → narrowed m < narrowed n
narrowed_rise m n less few = grind (arith, less, few)

module _ (leader bank group : ℕ → ℕ) where
  abbrev led : (g own n : ℕ) → ℕ
  led g own n = leaders_in leader bank group g own n

  abbrev most : (g n : ℕ) → ℕ
  most g n = most_in leader bank group g n

  abbrev carried : (k n : ℕ) → ℕ
  carried k n = carried_before leader bank group k n

  through : (a b c : ℕ) → a ≤ b → b ≤ c → a ≤ c
  through a b c e f = omega (arith, e, f)

  more : (t : Bool) (m : ℕ) → m ≤ (if t then suc m else m)
  more true m = omega arith
  more false m = omega arith

  both : (p q : Bool) → p ≡ true → q ≡ true → (p && q) ≡ true
  both true q e h = h
  both false q e h = absurd (cc)

  -- Leaders before one.

  leader_counts : (g own n : ℕ) → leader n ≡ n → group n ≡ g → bank n ≡ own → led g own (suc n) ≡ suc (led g own n)
  leader_counts g own n leads of reaches =
      ap (λ (t : Bool). if t then suc (led g own n) else led g own n)
      (both (leader n == n) ((group n == g) && (bank n == own)) (eq-eqb (leader n) n leads) (both (group n == g) (bank n == own) (eq-eqb (group n) g of) (eq-eqb (bank n) own reaches)))

  leaders_rise : (g own m n : ℕ) → m < n → leader m ≡ m → group m ≡ g → bank m ≡ own → led g own m < led g own n
  leaders_rise g own m zero less leads of reaches = absurd (none m less)
    where
      none : (m : ℕ) → m < 0 → ⊥
      none m l = omega (arith, l)
  leaders_rise g own m (suc n) less leads of reaches = by (cases_lt m n) (λ before. leaders_rise g own m n before leads of reaches)
    where
      after : (a b c : ℕ) → a < b → b ≤ c → a < c
      after a b c e f = omega (arith, e, f)

      next : (a b : ℕ) → b ≡ suc a → a < b
      next a b e = omega (arith, e)

      last : (m n : ℕ) → m < suc n → n ≤ m → m ≡ n
      last m n e f = omega (arith, e, f)

      by : (m < n) ⊎ (n ≤ m) → (m < n → led g own m < led g own n) → led g own m < led g own (suc n)
      by (inl before) rest = after (led g own m) (led g own n) (led g own (suc n)) (rest before) (more ((leader n == n) && ((group n == g) && (bank n == own))) (led g own n))
      by (inr past) rest =
          subst (λ (k : ℕ). led g own m < led g own (suc k)) (last m n less past) (next (led g own m) (led g own (suc m)) (leader_counts g own m leads of reaches))

  -- The most on one bank.

  most_more : (g n : ℕ) → most g n ≤ most g (suc n)
  most_more g n = by ((leader n == n) && (group n == g)) (most g n) (suc (led g (bank n) n))
    where
      left : (a b : ℕ) → a ≤ max a b
      left a b = grind arith

      same : (a : ℕ) → a ≤ a
      same a = omega arith

      by : (t : Bool) (a b : ℕ) → a ≤ (if t then max a b else a)
      by true a b = left a b
      by false a b = same a

  most_rises : (g m n : ℕ) → m ≤ n → most g m ≤ most g n
  most_rises g m zero less = subst (λ (k : ℕ). most g m ≤ most g k) (none m less) (same (most g m))
    where
      none : (m : ℕ) → m ≤ 0 → m ≡ 0
      none m l = omega (arith, l)

      same : (a : ℕ) → a ≤ a
      same a = omega arith
  most_rises g m (suc n) less = by (cases_lt n m) (λ before. most_rises g m n before)
    where
      last : (m n : ℕ) → m ≤ suc n → n < m → m ≡ suc n
      last m n e f = omega (arith, e, f)

      same : (a : ℕ) → a ≤ a
      same a = omega arith

      by : (n < m) ⊎ (m ≤ n) → (m ≤ n → most g m ≤ most g n) → most g m ≤ most g (suc n)
      by (inl past) rest = subst (λ (k : ℕ). most g m ≤ most g k) (last m n less past) (same (most g m))
      by (inr before) rest = through (most g m) (most g n) (most g (suc n)) (rest before) (most_more g n)

  most_own : (g m : ℕ) → leader m ≡ m → group m ≡ g → suc (led g (bank m) m) ≤ most g (suc m)
  most_own g m leads of = subst (λ (t : Bool). suc (led g (bank m) m) ≤ (if t then max (most g m) (suc (led g (bank m) m)) else most g m)) (sym (both (leader m == m) (group m == g) (eq-eqb (leader m) m leads) (eq-eqb (group m) g of)))
      (right (most g m) (suc (led g (bank m) m)))
    where
      right : (a b : ℕ) → b ≤ max a b
      right a b = grind arith

  most_has : (g m n : ℕ) → m < n → leader m ≡ m → group m ≡ g → suc (led g (bank m) m) ≤ most g n
  most_has g m n less leads of = through (suc (led g (bank m) m)) (most g (suc m)) (most g n) (most_own g m leads of) (most_rises g (suc m) n (next m n less))
    where
      next : (a b : ℕ) → a < b → suc a ≤ b
      next a b e = omega (arith, e)

  -- What groups carry.

  carried_more : (k m n : ℕ) → m ≤ n → carried k m ≤ carried k n
  carried_more zero m n less = omega arith
  carried_more (suc k) m n less = sum (carried k m) (carried k n) (most k m) (most k n) (carried_more k m n less) (most_rises k m n less)
    where
      sum : (a b c d : ℕ) → a ≤ b → c ≤ d → a + c ≤ b + d
      sum a b c d e f = omega (arith, e, f)

  carried_groups : (k l n : ℕ) → k ≤ l → carried k n ≤ carried l n
  carried_groups k zero n less = subst (λ (i : ℕ). carried k n ≤ carried i n) (none k less) (same (carried k n))
    where
      none : (m : ℕ) → m ≤ 0 → m ≡ 0
      none m l = omega (arith, l)

      same : (a : ℕ) → a ≤ a
      same a = omega arith
  carried_groups k (suc l) n less = by (cases_lt l k) (λ before. carried_groups k l n before)
    where
      last : (m n : ℕ) → m ≤ suc n → n < m → m ≡ suc n
      last m n e f = omega (arith, e, f)

      same : (a : ℕ) → a ≤ a
      same a = omega arith

      front : (a b c : ℕ) → a ≤ b → a ≤ b + c
      front a b c e = omega (arith, e)

      by : (l < k) ⊎ (k ≤ l) → (k ≤ l → carried k n ≤ carried l n) → carried k n ≤ carried (suc l) n
      by (inl past) rest = subst (λ (i : ℕ). carried k n ≤ carried i n) (last k l less past) (same (carried k n))
      by (inr before) rest = front (carried k n) (carried l n) (most l n) (rest before)

  -- Places.

  place_few : (n : ℕ) → copy_place leader bank group n ≤ n
  place_few n = sum (led (group n) (bank n) n) (most (group n) n) (carried (group n) n) n (leaders_within leader bank group (group n) (bank n) n) (carried_few leader bank group (suc (group n)) n)
    where
      sum : (a b c d : ℕ) → a ≤ b → c + b ≤ d → a + c ≤ d
      sum a b c d e f = omega (arith, e, f)

  place_less : (m n : ℕ) → m < n → leader m ≡ m → group m ≤ group n → (group m ≡ group n → bank m ≡ bank n) → copy_place leader bank group m < copy_place leader bank group n
  place_less m n less leads rises same = by (cases_lt (group m) (group n))
    where
      past : (a b c d e f : ℕ) → suc a ≤ d → b ≤ c → c + d ≤ e → a + b < f + e
      past a b c d e f h k l = omega (arith, h, k, l)

      one : (a b c d : ℕ) → a < c → b ≤ d → a + b < c + d
      one a b c d h k = omega (arith, h, k)

      lower : (a b : ℕ) → a < b → a ≤ b
      lower a b h = omega (arith, h)

      next : (a b : ℕ) → a < b → suc a ≤ b
      next a b h = omega (arith, h)

      equal : (a b : ℕ) → a ≤ b → b ≤ a → a ≡ b
      equal a b h k = omega (arith, h, k)

      alike : group m ≡ group n → copy_place leader bank group m < copy_place leader bank group n
      alike e =
          subst (λ (g : ℕ). led (group m) (bank m) m + carried (group m) m < led g (bank n) n + carried g n) e
          (subst (λ (b : ℕ). led (group m) (bank m) m + carried (group m) m < led (group m) b n + carried (group m) n) (same e)
          (one (led (group m) (bank m) m) (carried (group m) m) (led (group m) (bank m) n) (carried (group m) n) (leaders_rise (group m) (bank m) m n less leads refl refl) (carried_more (group m) m n (lower m n less))))

      by : (group m < group n) ⊎ (group n ≤ group m) → copy_place leader bank group m < copy_place leader bank group n
      by (inl before) =
          past (led (group m) (bank m) m) (carried (group m) m) (carried (group m) n) (most (group m) n) (carried (group n) n) (led (group n) (bank n) n)
          (most_has (group m) m n less leads refl) (carried_more (group m) m n (lower m n less)) (carried_groups (suc (group m)) (group n) n (next (group m) (group n) before))
      by (inr not_before) = alike (equal (group m) (group n) rises not_before)

  pub places_rise : (m n : ℕ) → m < n → n < 2 ^ 32 → leader m ≡ m → group m ≤ group n → (group m ≡ group n → bank m ≡ bank n) → places_by leader bank group m < places_by leader bank group n
  places_rise m n less few leads rises same =
      narrowed_rise (copy_place leader bank group m) (copy_place leader bank group n) (place_less m n less leads rises same) (below (copy_place leader bank group n) n (place_few n) few)
    where
      below : (a b : ℕ) → a ≤ b → b < 2 ^ 32 → a < 2 ^ 32
      below a b h k = omega (arith, h, k)

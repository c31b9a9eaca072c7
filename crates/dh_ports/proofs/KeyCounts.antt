-- With how many keys each bank was reached so far, and which pairs of a bank and a key were seen.
use Rattle.std.proofs.Common.{◌≡◌, ℕ, zero, suc, ◌+◌, ◌*◌, ◌<◌, ◌≤◌, ◌==◌, ◌&&◌, ◌||◌, not, nat_lt, Bool, true, false, if◌then◌else◌, List, [], ◌∷◌, ◌++◌, length, map, replicate, slice_index, slice_set, refl, ap, sym, ◌∙◌, subst, arith, ◌⊎◌, inl, inr}
use Rattle.std.specs.Prelude.{cond}
use Rattle.std.specs.List.{filter, list_any}
use Rattle.std.specs.Set.{distinct_count, unique_keys, is_member}
use Rattle.std.proofs.lemmas.Bool.{cases_Bool, eqb-true, eq-eqb, ne_eqb}
use Rattle.std.proofs.lemmas.Bool.Decides.{nat_tests}
use Rattle.dh_events.specs.Tables.{with_number}
use Rattle.dh_events.proofs.Turns.{index_set}
use Rattle.dh_ports.proofs.PathNumbers.{each_below, same_sums}

absurd : {A : Type 0} → ⊥ → A
absurd e = elim e [ ]

clash : (b : Bool) → b ≡ true → b ≡ false → ⊥
clash b e f = cc

or_none : (b : Bool) → b ≡ (b || false)
or_none true = refl
or_none false = refl

and_none : (b : Bool) → (b && false) ≡ false
and_none true = refl
and_none false = refl

any_append : {A : Type 0} (t : A → Bool) (xs : List A) (x : A) → list_any t (xs ++ x ∷ []) ≡ (list_any t xs || t x)
any_append t [] x = sym (or_none (t x))
any_append t (y ∷ xs) x = ap (λ b. t y || b) (any_append t xs x) ∙ grouped (t y) (list_any t xs) (t x)
  where
    grouped : (a b c : Bool) → (a || (b || c)) ≡ ((a || b) || c)
    grouped true b c = refl
    grouped false b c = refl

module _ {K : Type 0} (eq : K → K → Bool) (own : (k : K) → eq k k ≡ true) (same : (a b : K) → eq a b ≡ true → a ≡ b) where
  other_way : (a b : K) → eq a b ≡ eq b a
  other_way a b = by (eq a b) (eq b a) refl refl
    where
      by : (s t : Bool) → eq a b ≡ s → eq b a ≡ t → s ≡ t
      by true true e f = refl
      by false false e f = refl
      by true false e f = absurd (clash (eq b a) (ap (λ x. eq b x) (same a b e) ∙ own b) f)
      by false true e f = absurd (clash (eq a b) (ap (λ x. eq a x) (same b a f) ∙ own a) e)

  abbrev one_more_of : Bool → ℕ → ℕ
  one_more_of b n = if b then n else suc n

  count_step : (y : K) (xs : List K) → distinct_count eq (y ∷ xs) ≡ one_more_of (is_member eq xs y) (distinct_count eq xs)
  count_step y xs = by (is_member eq xs y) (unique_keys eq xs)
    where
      by : (b : Bool) (l : List K) → length (cond b l (y ∷ l)) ≡ one_more_of b (length l)
      by true l = refl
      by false l = refl

  count_more : (xs : List K) (x : K) → distinct_count eq (xs ++ x ∷ []) ≡ one_more_of (is_member eq xs x) (distinct_count eq xs)
  count_more [] x = refl
  count_more (y ∷ xs) x =
      count_step y (xs ++ x ∷ [])
      ∙ (ap (λ b. one_more_of b (distinct_count eq (xs ++ x ∷ []))) (any_append (eq y) xs x)
      ∙ (ap (λ n. one_more_of (is_member eq xs y || eq y x) n) (count_more xs x)
      ∙ (swapped (eq y x) (is_member eq xs y) (is_member eq xs x) (distinct_count eq xs) (λ e. ap (is_member eq xs) (same y x e))
      ∙ (ap (λ b. one_more_of (b || is_member eq xs x) (one_more_of (is_member eq xs y) (distinct_count eq xs))) (other_way y x)
      ∙ sym (ap (λ n. one_more_of (eq x y || is_member eq xs x) n) (count_step y xs))))))
    where
      swapped : (e m n : Bool) (d : ℕ) → (e ≡ true → m ≡ n) → one_more_of (m || e) (one_more_of n d) ≡ one_more_of (e || n) (one_more_of m d)
      swapped true true true d h = refl
      swapped true false false d h = refl
      swapped true true false d h = absurd (clash false (sym (h refl)) refl)
      swapped true false true d h = absurd (clash true refl (sym (h refl)))
      swapped false true true d h = refl
      swapped false true false d h = refl
      swapped false false true d h = refl
      swapped false false false d h = refl

  module _ {P : Type 0} (f : ℕ → P) (g : P → K) (bank : P → ℕ) (key : ℕ → ℕ) (count banks : ℕ) where
    -- the keys with which the paths below a number reach a bank
    abbrev pub reaching : (n b : ℕ) → List K
    reaching n b = map g (filter (λ p. bank p == b) (each_below f n))

    -- whether a pair of a bank and a key was met below a number
    abbrev pub met : (n pair : ℕ) → Bool
    met zero pair = false
    met (suc n) pair = met n pair || (nat_lt (bank (f n)) banks && ((bank (f n) * count + key n) == pair))

    pub record CountsSoFar (moment n : ℕ) (counts : List ℕ) (seen : ℕ → ℕ) : Type 0 where
      pub long : length counts ≡ banks
      pub counted : (b : ℕ) → b < banks → slice_index counts b ≡ distinct_count eq (reaching n b)
      pub was : (pair : ℕ) → met n pair ≡ true → seen pair ≡ moment
      pub was_not : (pair : ℕ) → met n pair ≡ false → seen pair < moment

    reaching_more : (n b : ℕ) → reaching (suc n) b ≡ (if bank (f n) == b then reaching n b ++ g (f n) ∷ [] else reaching n b)
    reaching_more n b = more (each_below f n)
      where
        more : (ps : List P) → map g (filter (λ p. bank p == b) (ps ++ f n ∷ [])) ≡ (if bank (f n) == b then map g (filter (λ p. bank p == b) ps) ++ g (f n) ∷ [] else map g (filter (λ p. bank p == b) ps))
        more [] = by (bank (f n) == b)
          where
            by : (t : Bool) → map g (cond t (f n ∷ []) []) ≡ (if t then g (f n) ∷ [] else [])
            by true = refl
            by false = refl
        more (p ∷ ps) = by (bank p == b) (more ps)
          where
            both : (t : Bool) (x : K) (l l1 : List K) → (x ∷ (if t then l ++ g (f n) ∷ [] else l1)) ≡ (if t then (x ∷ l) ++ g (f n) ∷ [] else x ∷ l1)
            both true x l l1 = refl
            both false x l l1 = refl

            by : (t : Bool) → map g (filter (λ q. bank q == b) (ps ++ f n ∷ [])) ≡ (if bank (f n) == b then map g (filter (λ q. bank q == b) ps) ++ g (f n) ∷ [] else map g (filter (λ q. bank q == b) ps))
                → map g (cond t (p ∷ filter (λ q. bank q == b) (ps ++ f n ∷ [])) (filter (λ q. bank q == b) (ps ++ f n ∷ []))) ≡ (if bank (f n) == b then map g (cond t (p ∷ filter (λ q. bank q == b) ps) (filter (λ q. bank q == b) ps)) ++ g (f n) ∷ [] else map g (cond t (p ∷ filter (λ q. bank q == b) ps) (filter (λ q. bank q == b) ps)))
            by true h = ap (λ l. g p ∷ l) h ∙ both (bank (f n) == b) (g p) (map g (filter (λ q. bank q == b) ps)) (map g (filter (λ q. bank q == b) ps))
            by false h = h

    pub reaching_most : (n b : ℕ) → distinct_count eq (reaching n b) ≤ n
    reaching_most zero b = least 0
      where
        least : (n : ℕ) → 0 ≤ n
        least n = omega arith
    reaching_most (suc n) b = subst (λ (l : List K). distinct_count eq l ≤ suc n) (sym (reaching_more n b)) (by (bank (f n) == b) (reaching_most n b))
      where
        within : (t : Bool) (d : ℕ) → d ≤ n → one_more_of t d ≤ suc n
        within true d e = omega (arith, e)
        within false d e = omega (arith, e)

        by : (t : Bool) → distinct_count eq (reaching n b) ≤ n → distinct_count eq (if t then reaching n b ++ g (f n) ∷ [] else reaching n b) ≤ suc n
        by true h = subst (λ (m : ℕ). m ≤ suc n) (sym (count_more (reaching n b) (g (f n)))) (within (is_member eq (reaching n b) (g (f n))) _ h)
        by false h = within true _ h

    pub counts_none : (moment : ℕ) (counts : List ℕ) (seen : ℕ → ℕ) → counts ≡ replicate banks 0 → ((pair : ℕ) → seen pair < moment) → CountsSoFar moment 0 counts seen
    counts_none moment counts seen e h = record {
      long = ap length e ∙ zeros_long banks;
      counted = λ b inside. ap (λ l. slice_index l b) e ∙ zero_at banks b;
      was = λ pair t. absurd (clash false t refl);
      was_not = λ pair t. h pair;
    }
      where
        zeros_long : (n : ℕ) → length {A = ℕ} (replicate n 0) ≡ n
        zeros_long zero = refl
        zeros_long (suc n) = ap suc (zeros_long n)

        zero_at : (n b : ℕ) → slice_index (replicate n 0) b ≡ 0
        zero_at zero b = refl
        zero_at (suc n) zero = refl
        zero_at (suc n) (suc b) = zero_at n b

    module _ (below : (n : ℕ) → key n < count) (keys : (m n : ℕ) → (key m == key n) ≡ eq (g (f m)) (g (f n))) where
      -- a key is among those of a bank where the pair was met
      member : (n b : ℕ) → b < banks → (m : ℕ) → is_member eq (reaching m b) (g (f n)) ≡ met m (b * count + key n)
      member n b inside zero = refl
      member n b inside (suc m) = ap (λ l. is_member eq l (g (f n))) (reaching_more m b) ∙ (by (cases_Bool (bank (f m) == b)) (member n b inside m) ∙ sym (ap (λ t. met m (b * count + key n) || (nat_lt (bank (f m)) banks && t)) (same_sums (bank (f m)) b count (key m) (key n) (below m) (below n))))
        where
          inner : (x y : ℕ) → x ≡ y → y < banks → nat_lt x banks ≡ true
          inner x y e f = grind (arith, nat_tests)

          by : ((bank (f m) == b) ≡ true) ⊎ ((bank (f m) == b) ≡ false) → is_member eq (reaching m b) (g (f n)) ≡ met m (b * count + key n)
              → is_member eq (if bank (f m) == b then reaching m b ++ g (f m) ∷ [] else reaching m b) (g (f n)) ≡ (met m (b * count + key n) || (nat_lt (bank (f m)) banks && ((bank (f m) == b) && (key m == key n))))
          by (inl e) h =
              ap (λ (t : Bool). is_member eq (if t then reaching m b ++ g (f m) ∷ [] else reaching m b) (g (f n))) e
              ∙ (any_append (eq (g (f n))) (reaching m b) (g (f m))
              ∙ (ap (λ t. t || eq (g (f n)) (g (f m))) h
              ∙ (ap (λ t. met m (b * count + key n) || t) (other_way (g (f n)) (g (f m)) ∙ sym (keys m n))
              ∙ sym (ap (λ t. met m (b * count + key n) || (t && ((bank (f m) == b) && (key m == key n)))) (inner (bank (f m)) b (eqb-true (bank (f m)) b e) inside) ∙ ap (λ t. met m (b * count + key n) || (t && (key m == key n))) e))))
          by (inr e) h =
              ap (λ (t : Bool). is_member eq (if t then reaching m b ++ g (f m) ∷ [] else reaching m b) (g (f n))) e
              ∙ (h
              ∙ (or_none (met m (b * count + key n))
              ∙ sym (ap (λ t. met m (b * count + key n) || (nat_lt (bank (f m)) banks && (t && (key m == key n)))) e ∙ ap (λ t. met m (b * count + key n) || t) (and_none (nat_lt (bank (f m)) banks)))))

      module _ (moment n : ℕ) (counts : List ℕ) (seen : ℕ → ℕ) (so : CountsSoFar moment n counts seen) where
        -- no count is above the number
        pub count_few : (b : ℕ) → b < banks → slice_index counts b ≤ n
        count_few b inside = subst (λ (m : ℕ). m ≤ n) (sym (so.counted b inside)) (reaching_most n b)

        count_there : (b : ℕ) → (bank (f n) == b) ≡ true → b < banks → distinct_count eq (reaching (suc n) b) ≡ one_more_of (met n (b * count + key n)) (distinct_count eq (reaching n b))
        count_there b e inside =
            ap (distinct_count eq) (reaching_more n b)
            ∙ (ap (λ (t : Bool). distinct_count eq (if t then reaching n b ++ g (f n) ∷ [] else reaching n b)) e
            ∙ (count_more (reaching n b) (g (f n)) ∙ ap (λ t. one_more_of t (distinct_count eq (reaching n b))) (member n b inside n)))

        count_other : (b : ℕ) → (bank (f n) == b) ≡ false → distinct_count eq (reaching (suc n) b) ≡ distinct_count eq (reaching n b)
        count_other b e = ap (distinct_count eq) (reaching_more n b) ∙ ap (λ (t : Bool). distinct_count eq (if t then reaching n b ++ g (f n) ∷ [] else reaching n b)) e

        -- a bank beyond those of the memory
        pub counts_beyond : banks ≤ bank (f n) → CountsSoFar moment (suc n) counts seen
        counts_beyond out = record {
          long = so.long;
          counted = λ b inside. so.counted b inside ∙ sym (count_other b (ne_eqb (bank (f n)) b (λ e. apart (bank (f n)) b e inside out)));
          was = λ pair e. so.was pair (still pair ∙ e);
          was_not = λ pair e. so.was_not pair (still pair ∙ e);
        }
          where
            apart : (x b : ℕ) → x ≡ b → b < banks → banks ≤ x → ⊥
            apart x b e i o = omega (arith, e, i, o)

            outside : (x : ℕ) → banks ≤ x → nat_lt x banks ≡ false
            outside x e = grind (arith, nat_tests)

            still : (pair : ℕ) → met n pair ≡ met (suc n) pair
            still pair = or_none (met n pair) ∙ sym (ap (λ t. met n pair || (t && ((bank (f n) * count + key n) == pair))) (outside (bank (f n)) out))

        module _ (inside : bank (f n) < banks) (seen1 : ℕ → ℕ) (first : Bool) (pair : ℕ) (paired : pair ≡ bank (f n) * count + key n)
            (sees : seen1 ≡ with_number seen pair moment) (told : first ≡ not (seen pair == moment)) where
          met_more : (p : ℕ) → met (suc n) p ≡ (met n p || (pair == p))
          met_more p = ap (λ t. met n p || (t && ((bank (f n) * count + key n) == p))) (within (bank (f n)) inside) ∙ ap (λ x. met n p || (x == p)) (sym paired)
            where
              within : (x : ℕ) → x < banks → nat_lt x banks ≡ true
              within x e = grind (arith, nat_tests)

          was_more : (p : ℕ) → met (suc n) p ≡ true → seen1 p ≡ moment
          was_more p e = ap (λ h. h p) sees ∙ by (pair == p) (sym (met_more p) ∙ e)
            where
              by : (t : Bool) → (met n p || t) ≡ true → (if t then moment else seen p) ≡ moment
              by true h = refl
              by false h = so.was p (or_none (met n p) ∙ h)

          not_more : (p : ℕ) → met (suc n) p ≡ false → seen1 p < moment
          not_more p e = subst (λ (m : ℕ). m < moment) (sym (ap (λ h. h p) sees)) (by (pair == p) (sym (met_more p) ∙ e))
            where
              never : (b : Bool) → (b || true) ≡ true
              never true = refl
              never false = refl

              by : (t : Bool) → (met n p || t) ≡ false → (if t then moment else seen p) < moment
              by true h = absurd (clash (met n p || true) (never (met n p)) h)
              by false h = so.was_not p (or_none (met n p) ∙ h)

          first_met : met n pair ≡ not first
          first_met = by (met n pair) refl
            where
              twice : (b : Bool) → b ≡ not (not b)
              twice true = refl
              twice false = refl

              apart : (x y : ℕ) → x < y → (x == y) ≡ false
              apart x y e = grind (arith, nat_tests)

              by : (b : Bool) → met n pair ≡ b → b ≡ not first
              by true e = sym (ap not told ∙ (sym (twice (seen pair == moment)) ∙ eq-eqb (seen pair) moment (so.was pair e)))
              by false e = sym (ap not told ∙ (sym (twice (seen pair == moment)) ∙ apart (seen pair) moment (so.was_not pair e)))

          there : (b : ℕ) → b ≡ bank (f n) → distinct_count eq (reaching (suc n) b) ≡ (if first then suc (distinct_count eq (reaching n b)) else distinct_count eq (reaching n b))
          there b e =
              count_there b (eq-eqb (bank (f n)) b (sym e)) (subst (λ (x : ℕ). x < banks) (sym e) inside)
              ∙ (ap (λ m. one_more_of (met n m) (distinct_count eq (reaching n b))) (ap (λ x. x * count + key n) e ∙ sym paired)
              ∙ (ap (λ t. one_more_of t (distinct_count eq (reaching n b))) first_met ∙ by first))
            where
              by : (t : Bool) → one_more_of (not t) (distinct_count eq (reaching n b)) ≡ (if t then suc (distinct_count eq (reaching n b)) else distinct_count eq (reaching n b))
              by true = refl
              by false = refl

          -- a pair that was seen
          pub counts_same : (counts1 : List ℕ) → first ≡ false → counts1 ≡ counts → CountsSoFar moment (suc n) counts1 seen1
          counts_same counts1 again e = record {
            long = ap length e ∙ so.long;
            counted = λ b i. ap (λ l. slice_index l b) e ∙ (so.counted b i ∙ by b (cases_Bool (bank (f n) == b)));
            was = was_more;
            was_not = not_more;
          }
            where
              by : (b : ℕ) → ((bank (f n) == b) ≡ true) ⊎ ((bank (f n) == b) ≡ false) → distinct_count eq (reaching n b) ≡ distinct_count eq (reaching (suc n) b)
              by b (inl h) = sym (there b (sym (eqb-true (bank (f n)) b h)) ∙ ap (λ (t : Bool). if t then suc (distinct_count eq (reaching n b)) else distinct_count eq (reaching n b)) again)
              by b (inr h) = sym (count_other b h)

          -- a new one
          pub counts_more : (counts1 : List ℕ) → first ≡ true → counts1 ≡ slice_set counts (bank (f n)) (slice_index counts (bank (f n)) + 1) → CountsSoFar moment (suc n) counts1 seen1
          counts_more counts1 new e = record {
            long = ap length e ∙ (set_long counts (bank (f n)) _ ∙ so.long);
            counted = λ b i. ap (λ l. slice_index l b) e ∙ (index_set counts (bank (f n)) _ b (subst (λ (m : ℕ). bank (f n) < m) (sym so.long) inside) ∙ by b i (cases_Bool (bank (f n) == b)));
            was = was_more;
            was_not = not_more;
          }
            where
              set_long : (xs : List ℕ) (k v : ℕ) → length (slice_set xs k v) ≡ length xs
              set_long [] k v = refl
              set_long (x ∷ xs) zero v = refl
              set_long (x ∷ xs) (suc k) v = ap suc (set_long xs k v)

              one : (m : ℕ) → m + 1 ≡ suc m
              one m = omega arith

              by : (b : ℕ) → b < banks → ((bank (f n) == b) ≡ true) ⊎ ((bank (f n) == b) ≡ false)
                  → (if bank (f n) == b then slice_index counts (bank (f n)) + 1 else slice_index counts b) ≡ distinct_count eq (reaching (suc n) b)
              by b i (inl h) =
                  ap (λ (t : Bool). if t then slice_index counts (bank (f n)) + 1 else slice_index counts b) h
                  ∙ (ap (λ x. slice_index counts x + 1) (eqb-true (bank (f n)) b h)
                  ∙ (one (slice_index counts b)
                  ∙ (ap suc (so.counted b i)
                  ∙ sym (there b (sym (eqb-true (bank (f n)) b h)) ∙ ap (λ (t : Bool). if t then suc (distinct_count eq (reaching n b)) else distinct_count eq (reaching n b)) new))))
              by b i (inr h) = ap (λ (t : Bool). if t then slice_index counts (bank (f n)) + 1 else slice_index counts b) h ∙ (so.counted b i ∙ sym (count_other b h))

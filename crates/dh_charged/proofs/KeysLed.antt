-- The paths that lead are as many as the keys that differ: one path after the other.
use Rattle.std.proofs.Common.{◌≡◌, ◌⊎◌, inl, inr, ℕ, zero, suc, ◌+◌, ◌-◌, ◌<◌, ◌≤◌, ◌==◌, ◌&&◌, ◌||◌, Bool, true, false, if◌then◌else◌, List, [], ◌∷◌, ◌++◌, length, map, get_or, refl, ap, sym, ◌∙◌, subst, arith}
use Rattle.std.specs.Prelude.{cond, slice_index_or}
use Rattle.std.specs.List.{filter, list_any}
use Rattle.std.specs.Set.{distinct_count, is_member, unique_keys}
use Rattle.std.proofs.lemmas.Bool.{cases_Bool, cases_lt, eq-eqb, eqb-true}
use Rattle.std.proofs.lemmas.List.{ext_get_or, length-append}
use Rattle.dh_meaning.specs.Paths.{Path, copies_in, paths_in, same_path}
use Rattle.dh_meets.specs.Charges.{picked}
use Rattle.dh_code.proofs.PathsInOrder.{length_path, length_paths}
use Rattle.dh_sound.proofs.SameKeys.{picked_agree}
use Rattle.dh_expressions.specs.declared.paths.Level.{Level}
use Rattle.dh_expressions.specs.Counting.{leaders_in}
use Rattle.dh_expressions.specs.Levels.{leader_number, path_at}
use Rattle.dh_commands.specs.ShownVariables.{level_factors}
use Rattle.dh_blocks.specs.PathsOfLevels.{AreSpread}
use Rattle.dh_blocks.proofs.PathNumbers.{agree_leaders, leader_leads, leaders_agree, leads, numbered}
use Rattle.dh_charged.specs.LeadersCounted.{AllLeadersAreKeys, leads_below, paths_below}

-- Keys.

both_true : (a b : Bool) → (a && b) ≡ true → (a ≡ true) × (b ≡ true)
both_true true b e = (refl, e)
both_true false b e = absurd (cc)

pub own_path : (p : Path) → same_path p p ≡ true
own_path [] = refl
own_path (n ∷ p) = ap (λ b. b && same_path p p) (eq-eqb n n refl) ∙ own_path p

pub same_paths : (p q : Path) → same_path p q ≡ true → p ≡ q
same_paths [] [] e = refl
same_paths [] (n ∷ q) e = absurd (cc)
same_paths (n ∷ p) [] e = absurd (cc)
same_paths (n ∷ p) (m ∷ q) e =
    let b = both_true (n == m) (same_path p q) e in
    ap (λ k. k ∷ p) (eqb-true n m b.0) ∙ ap (λ (l : Path). m ∷ l) (same_paths p q b.1)

clash : (b : Bool) → b ≡ true → b ≡ false → ⊥
clash true e f = cc
clash false e f = cc

other_way : (a b : Path) → same_path a b ≡ same_path b a
other_way a b = by (same_path a b) (same_path b a) refl refl
  where
    by : (s t : Bool) → same_path a b ≡ s → same_path b a ≡ t → s ≡ t
    by true true e f = refl
    by false false e f = refl
    by true false e f = absurd (clash (same_path b a) (ap (λ x. same_path b x) (same_paths a b e) ∙ own_path b) f)
    by false true e f = absurd (clash (same_path a b) (ap (λ x. same_path a x) (same_paths b a f) ∙ own_path a) e)

or_none : (b : Bool) → b ≡ (b || false)
or_none true = refl
or_none false = refl

any_append : (t : Path → Bool) (xs : List Path) (x : Path) → list_any t (xs ++ x ∷ []) ≡ (list_any t xs || t x)
any_append t [] x = sym (or_none (t x))
any_append t (y ∷ xs) x = ap (λ b. t y || b) (any_append t xs x) ∙ grouped (t y) (list_any t xs) (t x)
  where
    grouped : (a b c : Bool) → (a || (b || c)) ≡ ((a || b) || c)
    grouped true b c = refl
    grouped false b c = refl

abbrev more_of : Bool → ℕ → ℕ
more_of b n = if b then n else suc n

count_step : (y : Path) (xs : List Path) → distinct_count same_path (y ∷ xs) ≡ more_of (is_member same_path xs y) (distinct_count same_path xs)
count_step y xs = by (is_member same_path xs y) (unique_keys same_path xs)
  where
    by : (b : Bool) (l : List Path) → length (cond b l (y ∷ l)) ≡ more_of b (length l)
    by true l = refl
    by false l = refl

-- one key behind others counts where it is none of them
count_more : (xs : List Path) (x : Path) → distinct_count same_path (xs ++ x ∷ []) ≡ more_of (is_member same_path xs x) (distinct_count same_path xs)
count_more [] x = refl
count_more (y ∷ xs) x =
    count_step y (xs ++ x ∷ [])
    ∙ (ap (λ b. more_of b (distinct_count same_path (xs ++ x ∷ []))) (any_append (same_path y) xs x)
    ∙ (ap (λ n. more_of (is_member same_path xs y || same_path y x) n) (count_more xs x)
    ∙ (swapped (same_path y x) (is_member same_path xs y) (is_member same_path xs x) (distinct_count same_path xs) (λ e. ap (is_member same_path xs) (same_paths y x e))
    ∙ (ap (λ b. more_of (b || is_member same_path xs x) (more_of (is_member same_path xs y) (distinct_count same_path xs))) (other_way y x)
    ∙ sym (ap (λ n. more_of (same_path x y || is_member same_path xs x) n) (count_step y xs))))))
  where
    swapped : (e m n : Bool) (d : ℕ) → (e ≡ true → m ≡ n) → more_of (m || e) (more_of n d) ≡ more_of (e || n) (more_of m d)
    swapped true true true d h = refl
    swapped true false false d h = refl
    swapped true true false d h = absurd (clash false (sym (h refl)) refl)
    swapped true false true d h = absurd (clash true refl (sym (h refl)))
    swapped false true true d h = refl
    swapped false true false d h = refl
    swapped false false true d h = refl
    swapped false false false d h = refl

-- Lists of paths one after the other.

reaching_more : (key : Path → Path) (reaches : Path → Bool) (ps : List Path) (p : Path)
    → map key (filter reaches (ps ++ p ∷ [])) ≡ (if reaches p then map key (filter reaches ps) ++ key p ∷ [] else map key (filter reaches ps))
reaching_more key reaches [] p = by (reaches p)
  where
    by : (t : Bool) → map key (cond t (p ∷ []) []) ≡ (if t then key p ∷ [] else [])
    by true = refl
    by false = refl
reaching_more key reaches (q ∷ ps) p = by (reaches q) (reaching_more key reaches ps p)
  where
    both : (t : Bool) (x : Path) (l l1 : List Path) → (x ∷ (if t then l ++ key p ∷ [] else l1)) ≡ (if t then (x ∷ l) ++ key p ∷ [] else x ∷ l1)
    both true x l l1 = refl
    both false x l l1 = refl

    by : (t : Bool) → map key (filter reaches (ps ++ p ∷ [])) ≡ (if reaches p then map key (filter reaches ps) ++ key p ∷ [] else map key (filter reaches ps))
        → map key (cond t (q ∷ filter reaches (ps ++ p ∷ [])) (filter reaches (ps ++ p ∷ []))) ≡ (if reaches p then map key (cond t (q ∷ filter reaches ps) (filter reaches ps)) ++ key p ∷ [] else map key (cond t (q ∷ filter reaches ps) (filter reaches ps)))
    by true h = ap (λ (l : List Path). key q ∷ l) h ∙ both (reaches p) (key q) (map key (filter reaches ps)) (map key (filter reaches ps))
    by false h = h

map_more : (key : Path → Path) (ps : List Path) (p : Path) → map key (ps ++ p ∷ []) ≡ map key ps ++ key p ∷ []
map_more key [] p = refl
map_more key (q ∷ ps) p = ap (λ (l : List Path). key q ∷ l) (map_more key ps p)

-- Of paths by their numbers: what leads, and with which key.
module _ (f : ℕ → Path) (key : Path → Path) (leader : ℕ → ℕ) (copies : ℕ)
    (low : (n : ℕ) → n < copies → leader n ≤ n) (own : (n : ℕ) → n < copies → leader (leader n) ≡ leader n)
    (same : (n m : ℕ) → n < copies → m < copies → key (f n) ≡ key (f m) → leader n ≡ leader m) (agree : (n m : ℕ) → n < copies → m < copies → leader n ≡ leader m → key (f n) ≡ key (f m)) where
  abbrev below : ℕ → List Path
  below zero = []
  below (suc n) = below n ++ f n ∷ []

  abbrev reached : (reaches : Path → Bool) → ℕ → List Path
  reached reaches n = map key (filter reaches (below n))

  -- the key of a leader is none of those before it
  apart : (n m : ℕ) → m < n → n < copies → leader n ≡ n → same_path (key (f n)) (key (f m)) ≡ false
  apart n m less inside leads = elim (cases_Bool (same_path (key (f n)) (key (f m)))) [
    | inl e ↦ absurd (never (same n m inside (omega (arith, less, inside)) (same_paths (key (f n)) (key (f m)) e)))
    | inr e ↦ e
  ]
    where
      never : leader n ≡ leader m → ⊥
      never e = let l = low m (omega (arith, less, inside)) in omega (arith, less, leads, e, l)

  fresh_if : (reaches : Path → Bool) (n m : ℕ) → m ≤ n → n < copies → leader n ≡ n → is_member same_path (reached reaches m) (key (f n)) ≡ false
  fresh_if reaches n zero few inside leads = refl
  fresh_if reaches n (suc m) few inside leads =
      ap (λ l. is_member same_path l (key (f n))) (reaching_more key reaches (below m) (f m)) ∙ by (reaches (f m)) (fresh_if reaches n m (omega (arith, few)) inside leads)
    where
      neither : (a b : Bool) → a ≡ false → b ≡ false → (a || b) ≡ false
      neither false false e g = refl
      neither true b e g = absurd (cc)
      neither false true e g = absurd (cc)

      by : (t : Bool) → is_member same_path (reached reaches m) (key (f n)) ≡ false → is_member same_path (if t then reached reaches m ++ key (f m) ∷ [] else reached reaches m) (key (f n)) ≡ false
      by true h = any_append (same_path (key (f n))) (reached reaches m) (key (f m)) ∙ neither _ _ h (apart n m (omega (arith, few)) inside leads)
      by false h = h

  count_next : (reaches : Path → Bool) (n : ℕ) → reaches (f n) ≡ true → distinct_count same_path (reached reaches (suc n)) ≡ more_of (is_member same_path (reached reaches n) (key (f n))) (distinct_count same_path (reached reaches n))
  count_next reaches n is =
      ap (λ l. distinct_count same_path l) (reaching_more key reaches (below n) (f n) ∙ ap (λ (t : Bool). if t then reached reaches n ++ key (f n) ∷ [] else reached reaches n) is)
      ∙ count_more (reached reaches n) (key (f n))

  count_still : (reaches : Path → Bool) (n : ℕ) → reaches (f n) ≡ false → distinct_count same_path (reached reaches (suc n)) ≡ distinct_count same_path (reached reaches n)
  count_still reaches n is =
      ap (λ l. distinct_count same_path l) (reaching_more key reaches (below n) (f n) ∙ ap (λ (t : Bool). if t then reached reaches n ++ key (f n) ∷ [] else reached reaches n) is)

  more_is : (b : Bool) (d : ℕ) → d ≤ more_of b d
  more_is true d = omega arith
  more_is false d = omega arith

  -- further paths reach a bank with no fewer keys
  rises_one : (reaches : Path → Bool) (n : ℕ) → distinct_count same_path (reached reaches n) ≤ distinct_count same_path (reached reaches (suc n))
  rises_one reaches n = elim (cases_Bool (reaches (f n))) [
    | inl is ↦ subst (λ (d : ℕ). distinct_count same_path (reached reaches n) ≤ d) (sym (count_next reaches n is)) (more_is (is_member same_path (reached reaches n) (key (f n))) _)
    | inr is ↦ subst (λ (d : ℕ). distinct_count same_path (reached reaches n) ≤ d) (sym (count_still reaches n is)) (least (distinct_count same_path (reached reaches n)))
  ]
    where
      least : (n : ℕ) → n ≤ n
      least n = omega arith

  rises : (reaches : Path → Bool) (n k : ℕ) → distinct_count same_path (reached reaches n) ≤ distinct_count same_path (reached reaches (n + k))
  rises reaches n zero = subst (λ (m : ℕ). distinct_count same_path (reached reaches n) ≤ distinct_count same_path (reached reaches m)) (none n) (least (distinct_count same_path (reached reaches n)))
    where
      none : (n : ℕ) → n ≡ n + 0
      none n = omega arith

      least : (n : ℕ) → n ≤ n
      least n = omega arith
  rises reaches n (suc k) =
      subst (λ (m : ℕ). distinct_count same_path (reached reaches n) ≤ distinct_count same_path (reached reaches m)) (one n k)
      (through _ _ _ (rises reaches n k) (rises_one reaches (n + k)))
    where
      one : (n k : ℕ) → suc (n + k) ≡ n + suc k
      one n k = omega arith

      through : (a b c : ℕ) → a ≤ b → b ≤ c → a ≤ c
      through a b c h i = omega (arith, h, i)

  module _ (reaches : Path → Bool) (bank group : ℕ → ℕ) (own_group own_bank : ℕ) (told : (k : ℕ) → k < copies → ((group k == own_group) && (bank k == own_bank)) ≡ reaches (f k)) where
    abbrev test : ℕ → Bool
    test k = (group k == own_group) && (bank k == own_bank)

    -- the leaders of a group that reach a bank are no more than the keys that do
    led : (n : ℕ) → n ≤ copies → leaders_in leader bank group own_group own_bank n ≤ distinct_count same_path (reached reaches n)
    led zero few = least 0
      where
        least : (n : ℕ) → 0 ≤ n
        least n = omega arith
    led (suc n) few = by (cases_Bool (leader n == n)) (cases_Bool (test n)) (led n (omega (arith, few)))
      where
        inside : n < copies
        inside = omega (arith, few)

        step : (a b : Bool) → (leader n == n) ≡ a → test n ≡ b → leaders_in leader bank group own_group own_bank (suc n) ≡ (if a && b then suc (leaders_in leader bank group own_group own_bank n) else leaders_in leader bank group own_group own_bank n)
        step a b e g = ap (λ t. if t && test n then suc (leaders_in leader bank group own_group own_bank n) else leaders_in leader bank group own_group own_bank n) e ∙ ap (λ t. if a && t then suc (leaders_in leader bank group own_group own_bank n) else leaders_in leader bank group own_group own_bank n) g

        kept : (x y d e : ℕ) → x ≡ y → y ≤ d → d ≤ e → x ≤ e
        kept x y d e is h i = omega (arith, is, h, i)

        grows : (x y d e : ℕ) → x ≡ suc y → y ≤ d → e ≡ suc d → x ≤ e
        grows x y d e is h i = omega (arith, is, h, i)

        by : ((leader n == n) ≡ true) ⊎ ((leader n == n) ≡ false) → (test n ≡ true) ⊎ (test n ≡ false) → leaders_in leader bank group own_group own_bank n ≤ distinct_count same_path (reached reaches n)
            → leaders_in leader bank group own_group own_bank (suc n) ≤ distinct_count same_path (reached reaches (suc n))
        by (inl e) (inl g) h =
            grows _ _ _ _ (step true true e g) h
            (count_next reaches n (sym (told n inside) ∙ g) ∙ ap (λ b. more_of b (distinct_count same_path (reached reaches n))) (fresh_if reaches n n (least n) inside (eqb-true (leader n) n e)))
          where
            least : (n : ℕ) → n ≤ n
            least n = omega arith
        by (inl e) (inr g) h = kept _ _ _ _ (step true false e g) h (rises_one reaches n)
        by (inr e) (inl g) h = kept _ _ _ _ (step false true e g) h (rises_one reaches n)
        by (inr e) (inr g) h = kept _ _ _ _ (step false false e g) h (rises_one reaches n)

    pub led_on_bank : (n : ℕ) → n < copies → leader n ≡ n → group n ≡ own_group → bank n ≡ own_bank → suc (leaders_in leader bank group own_group own_bank n) ≤ distinct_count same_path (reached reaches copies)
    led_on_bank n inside leads of is =
        through _ _ _ _ next (led (suc n) (omega (arith, inside)))
        (subst (λ (m : ℕ). distinct_count same_path (reached reaches (suc n)) ≤ distinct_count same_path (reached reaches m)) (whole (suc n) copies (omega (arith, inside))) (rises reaches (suc n) (copies - suc n)))
      where
        next : leaders_in leader bank group own_group own_bank (suc n) ≡ suc (leaders_in leader bank group own_group own_bank n)
        next =
            ap (λ t. if t && test n then suc (leaders_in leader bank group own_group own_bank n) else leaders_in leader bank group own_group own_bank n) (eq-eqb (leader n) n leads)
            ∙ ap (λ t. if t then suc (leaders_in leader bank group own_group own_bank n) else leaders_in leader bank group own_group own_bank n) (ap (λ b. b && (bank n == own_bank)) (eq-eqb (group n) own_group of) ∙ eq-eqb (bank n) own_bank is)

        through : (a b c d : ℕ) → b ≡ suc a → b ≤ c → c ≤ d → suc a ≤ d
        through a b c d e h i = omega (arith, e, h, i)

        whole : (k n : ℕ) → k ≤ n → k + (n - k) ≡ n
        whole k n h = omega (arith, h)

  -- Of all banks.

  has_led : (n m : ℕ) → m < n → is_member same_path (map key (below n)) (key (f m)) ≡ true
  has_led zero m less = absurd (none m less)
    where
      none : (m : ℕ) → m < 0 → ⊥
      none m h = omega (arith, h)
  has_led (suc n) m less =
      ap (λ l. is_member same_path l (key (f m))) (map_more key (below n) (f n)) ∙ (any_append (same_path (key (f m))) (map key (below n)) (key (f n)) ∙ by (λ h. has_led n m h) (cases_lt m n))
    where
      first : (a b : Bool) → a ≡ true → (a || b) ≡ true
      first true b e = refl
      first false b e = absurd (cc)

      second : (a b : Bool) → b ≡ true → (a || b) ≡ true
      second true b e = refl
      second false b e = e

      by : (m < n → is_member same_path (map key (below n)) (key (f m)) ≡ true) → (m < n) ⊎ (n ≤ m) → (list_any (same_path (key (f m))) (map key (below n)) || same_path (key (f m)) (key (f n))) ≡ true
      by before (inl h) = first _ _ (before h)
      by before (inr h) = second (list_any (same_path (key (f m))) (map key (below n))) _ (ap (λ i. same_path (key (f m)) (key (f i))) (last n m less h) ∙ own_path (key (f m)))
        where
          last : (n m : ℕ) → m < suc n → n ≤ m → n ≡ m
          last n m a b = omega (arith, a, b)

  fresh : (n m : ℕ) → m ≤ n → n < copies → leader n ≡ n → is_member same_path (map key (below m)) (key (f n)) ≡ false
  fresh n zero few inside leads = refl
  fresh n (suc m) few inside leads =
      ap (λ l. is_member same_path l (key (f n))) (map_more key (below m) (f m))
      ∙ (any_append (same_path (key (f n))) (map key (below m)) (key (f m)) ∙ neither _ _ (fresh n m (omega (arith, few)) inside leads) (apart n m (omega (arith, few)) inside leads))
    where
      neither : (a b : Bool) → a ≡ false → b ≡ false → (a || b) ≡ false
      neither false false e g = refl
      neither true b e g = absurd (cc)
      neither false true e g = absurd (cc)

  pub all_led : (n : ℕ) → n ≤ copies → leads_below leader n ≡ distinct_count same_path (map key (below n))
  all_led zero few = refl
  all_led (suc n) few =
      by (cases_Bool (leader n == n)) (all_led n (omega (arith, few)))
      ∙ sym (ap (λ l. distinct_count same_path l) (map_more key (below n) (f n)) ∙ count_more (map key (below n)) (key (f n)))
    where
      inside : n < copies
      inside = omega (arith, few)

      least : (n : ℕ) → n ≤ n
      least n = omega arith

      one : (x d : ℕ) → x ≡ d → x + 1 ≡ suc d
      one x d e = omega (arith, e)

      none : (x d : ℕ) → x ≡ d → x + 0 ≡ d
      none x d e = omega (arith, e)

      differs : (leader n == n) ≡ false → leader n ≡ n → ⊥
      differs e is = clash (leader n == n) (eq-eqb (leader n) n is) e

      earlier : (leader n ≡ n → ⊥) → leader n < n
      earlier no_leader = let l = low n inside in omega (arith, l, no_leader)

      by : ((leader n == n) ≡ true) ⊎ ((leader n == n) ≡ false) → leads_below leader n ≡ distinct_count same_path (map key (below n))
          → leads_below leader n + (if leader n == n then 1 else 0) ≡ more_of (is_member same_path (map key (below n)) (key (f n))) (distinct_count same_path (map key (below n)))
      by (inl e) h =
          ap (λ t. leads_below leader n + (if t then 1 else 0)) e
          ∙ (one _ _ h ∙ sym (ap (λ b. more_of b (distinct_count same_path (map key (below n)))) (fresh n n (least n) inside (eqb-true (leader n) n e))))
      by (inr e) h =
          let before : leader n < n = earlier (differs e) in
          let its : key (f (leader n)) ≡ key (f n) = agree (leader n) n (omega (arith, before, inside)) inside (own n inside) in
          ap (λ t. leads_below leader n + (if t then 1 else 0)) e
          ∙ (none _ _ h
          ∙ sym (ap (λ b. more_of b (distinct_count same_path (map key (below n)))) (ap (λ k. is_member same_path (map key (below n)) k) (sym its) ∙ has_led n (leader n) before)))

-- Of levels.

-- the numbers that are picked are those of paths that agree where they are
picked_same : (counts : ℕ → Bool) (level : ℕ) (p q : Path) → length p ≡ length q → ((l : ℕ) → l < length p → counts (level + l) ≡ true → slice_index_or p l 0 ≡ slice_index_or q l 0) → picked counts level p ≡ picked counts level q
picked_same counts level [] [] long h = refl
picked_same counts level [] (d ∷ q) long h = absurd (cc)
picked_same counts level (c ∷ p) [] long h = absurd (cc)
picked_same counts level (c ∷ p) (d ∷ q) long h =
    by (counts level) refl (picked_same counts (suc level) p q (less _ _ long) (λ l small on. h (suc l) (more l (length p) small) (ap counts (moved level l) ∙ on)))
  where
    less : (a b : ℕ) → suc a ≡ suc b → a ≡ b
    less a b e = omega (arith, e)

    more : (a b : ℕ) → a < b → suc a < suc b
    more a b e = omega (arith, e)

    moved : (n m : ℕ) → n + suc m ≡ suc n + m
    moved n m = omega arith

    none : (n : ℕ) → n + 0 ≡ n
    none n = omega arith

    some : (n : ℕ) → 0 < suc n
    some n = omega arith

    by : (b : Bool) → counts level ≡ b → picked counts (suc level) p ≡ picked counts (suc level) q → (if b then c ∷ picked counts (suc level) p else picked counts (suc level) p) ≡ (if b then d ∷ picked counts (suc level) q else picked counts (suc level) q)
    by true e g = ap (λ (x : ℕ). x ∷ picked counts (suc level) p) (h 0 (some (length p)) (ap counts (none level) ∙ e)) ∙ ap (λ (l : Path). d ∷ l) g
    by false e g = g

front : (xs : List Path) (y : Path) (k : ℕ) → k < length xs → get_or (xs ++ y ∷ []) k [] ≡ get_or xs k []
front [] y k h = absurd (none k h)
  where
    none : (i : ℕ) → i < 0 → ⊥
    none i h = omega (arith, h)
front (x ∷ xs) y zero h = refl
front (x ∷ xs) y (suc k) h = front xs y k (less k (length xs) h)
  where
    less : (a b : ℕ) → suc a < suc b → a < b
    less a b h = omega (arith, h)

seam : (xs : List Path) (y : Path) → get_or (xs ++ y ∷ []) (length xs) [] ≡ y
seam [] y = refl
seam (x ∷ xs) y = seam xs y

module _ (levels : List Level) (s : AreSpread levels) (counts : ℕ → Bool) where
  abbrev all_copies : ℕ
  all_copies = copies_in (level_factors levels)

  long_path : (n : ℕ) → n < all_copies → length (path_at levels n) ≡ length (level_factors levels)
  long_path n h = length_path (level_factors levels) (path_at levels n) (numbered levels s n h).path

  key_leader : (n m : ℕ) → n < all_copies → m < all_copies → picked counts 0 (path_at levels n) ≡ picked counts 0 (path_at levels m) → leader_number levels counts n ≡ leader_number levels counts m
  key_leader n m a b e =
      agree_leaders levels s counts n m a b (λ l small on. picked_agree counts 0 (path_at levels n) (path_at levels m) (long_path n a ∙ sym (long_path m b)) e l small (ap counts (none l) ∙ on))
    where
      none : (n : ℕ) → 0 + n ≡ n
      none n = omega arith

  pub leader_key : (n m : ℕ) → n < all_copies → m < all_copies → leader_number levels counts n ≡ leader_number levels counts m → picked counts 0 (path_at levels n) ≡ picked counts 0 (path_at levels m)
  leader_key n m a b e =
      picked_same counts 0 (path_at levels n) (path_at levels m) (long_path n a ∙ sym (long_path m b)) (λ l small on. leaders_agree levels s counts n m a b e l small (ap counts (none l) ∙ on))
    where
      none : (n : ℕ) → n ≡ 0 + n
      none n = omega arith

  long_below : (n : ℕ) → length (paths_below levels n) ≡ n
  long_below zero = refl
  long_below (suc n) = length-append (paths_below levels n) _ ∙ (ap (λ k. k + 1) (long_below n) ∙ one n)
    where
      one : (n : ℕ) → n + 1 ≡ suc n
      one n = omega arith

  in_front : (n i : ℕ) → i < n → get_or (paths_below levels n) i [] ≡ path_at levels i
  in_front zero i h = absurd (none i h)
    where
      none : (i : ℕ) → i < 0 → ⊥
      none i h = omega (arith, h)
  in_front (suc n) i h = by (λ less. in_front n i less) (cases_lt i n)
    where
      by : (i < n → get_or (paths_below levels n) i [] ≡ path_at levels i) → (i < n) ⊎ (n ≤ i) → get_or (paths_below levels (suc n)) i [] ≡ path_at levels i
      by before (inl less) = front (paths_below levels n) (path_at levels n) i (subst (λ (m : ℕ). i < m) (sym (long_below n)) less) ∙ before less
      by before (inr past) =
          ap (λ k. get_or (paths_below levels (suc n)) k []) (last n i h past ∙ sym (long_below n))
          ∙ (seam (paths_below levels n) (path_at levels n) ∙ ap (λ k. path_at levels k) (sym (last n i h past)))
        where
          last : (n i : ℕ) → i < suc n → n ≤ i → i ≡ n
          last n i a b = omega (arith, a, b)

  pub paths_are_below : paths_in (level_factors levels) ≡ paths_below levels all_copies
  paths_are_below =
      ext_get_or [] (paths_in (level_factors levels)) (paths_below levels all_copies) (length_paths (level_factors levels) ∙ sym (long_below all_copies))
      (λ i h. at i (subst (λ (n : ℕ). i < n) (length_paths (level_factors levels)) h))
    where
      at : (i : ℕ) → i < all_copies → get_or (paths_in (level_factors levels)) i [] ≡ get_or (paths_below levels all_copies) i []
      at i h = (numbered levels s i h).listed ∙ sym (in_front all_copies i h)

pub all_leaders_are_keys : AllLeadersAreKeys
all_leaders_are_keys levels s counts = record {
  paths = paths_are_below levels s counts;
  all =
      all_led (λ n. path_at levels n) (picked counts 0) (leader_number levels counts) copies (λ n h. (leads levels s counts n h).low) (leader_leads levels s counts) (key_leader levels s counts) (leader_key levels s counts) copies (least copies)
      ∙ ap (λ l. distinct_count same_path (map (picked counts 0) l)) (sym paths_is);
  on_bank = λ reaches bank group own_group own n told inside leads_it of is.
      subst (λ l. suc (leaders_in (leader_number levels counts) bank group own_group own n) ≤ distinct_count same_path (map (picked counts 0) (filter reaches l))) (sym paths_is)
      (led_on_bank (λ n. path_at levels n) (picked counts 0) (leader_number levels counts) copies (λ n h. (leads levels s counts n h).low) (leader_leads levels s counts) (key_leader levels s counts) (leader_key levels s counts) reaches bank group own_group own told n inside leads_it of is);
}
  where
    copies : ℕ
    copies = copies_in (level_factors levels)

    least : (n : ℕ) → n ≤ n
    least n = omega arith

    paths_is : paths_in (level_factors levels) ≡ paths_below levels (copies_in (level_factors levels))
    paths_is = paths_are_below levels s counts

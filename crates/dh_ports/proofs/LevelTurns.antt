-- The levels of loops, while loops are gone through from the innermost one, and what levels tell.
use Rattle.std.proofs.Common.{◌≡◌, ℕ, zero, suc, ◌+◌, ◌-◌, ◌*◌, ◌/◌, ◌%◌, ◌^◌, ◌<◌, ◌≤◌, min, Bool, true, false, if◌then◌else◌, List, [], ◌∷◌, ◌++◌, reverse, length, drop, get_or, refl, ap, sym, ◌∙◌, subst, arith, ◌⊎◌, inl, inr}
use Rattle.std.specs.Prelude.{Option, slice_index_or}
use Rattle.std.specs.List.{AllByRecursion}
use Rattle.std.proofs.lemmas.Bool.{cases_lt}
use Rattle.std.proofs.Math.Nat.{min-eq_left, min-eq_right}
use Rattle.std.proofs.lemmas.List.{reverse-append}
use Rattle.dh_tree.specs.declared.trees.counters.Counter.{Counter}
use Rattle.dh_tree.specs.declared.trees.expressions.Expr.{Expr}
use Rattle.dh_meaning.specs.Bindings.{Binding}
use Rattle.dh_meets.specs.Charges.{loop_factors, depends}
use Rattle.dh_ports.specs.declared.copies.CopyLevel.{CopyLevel}
use Rattle.dh_ports.specs.declared.copies.AccessPaths.{AccessPaths}
use Rattle.dh_events.specs.declared.dependence.Scope.{Scope}
use Rattle.dh_ports.specs.Banks.{path_of_number, keys_in, key_number}
use Rattle.dh_ports.specs.Claims.{source_of}
use Rattle.dh_ports.specs.Copies.{copies_round, copy_of_level, greatest_key, key_of_levels, AreLevels, AreAccessPaths, IsSpreadLevel}
use Rattle.dh_events.specs.Scopes.{AreScopes}
use Rattle.dh_meaning.specs.Paths.{copies_in}
use Rattle.dh_ports.proofs.CopyTurns.{not_none}
use Rattle.dh_ports.proofs.PathNumbers.{one_more, keys_most}
use Rattle.dh_events.proofs.Turns.{at_place}

absurd : {A : Type 0} → ⊥ → A
absurd e = elim e [ ]

abbrev pub most : ℕ
most = 2 ^ 64 - 1

-- the levels so far, the innermost first
pub record LevelsSoFar (scopes : List (Option Scope)) (loops : List Counter) (access : Expr) (writes : Bool) (i : ℕ) (levels : List CopyLevel) (count keys : ℕ) : Type 0 where
  pub counted : count ≡ min (copies_in (loop_factors (drop i loops))) most
  pub each : (bs : List Binding) → AreScopes bs scopes → 1 ≤ copies_round loops
      → AreLevels (depends bs (source_of loops writes access)) i (loop_factors (drop i loops)) (reverse levels) × (keys ≡ keys_in (depends bs (source_of loops writes access)) i (loop_factors (drop i loops)))

-- a product that stays at the most
saturated : (p f m : ℕ) → min (min p m * f) m ≡ min (f * p) m
saturated p f m = by (cases_lt m p)
  where
    swapped : (p f : ℕ) → p * f ≡ f * p
    swapped p f = omega arith

    by : (m < p) ⊎ (p ≤ m) → min (min p m * f) m ≡ min (f * p) m
    by (inr small) = ap (λ n. min (n * f) m) (min-eq_left small) ∙ ap (λ n. min n m) (swapped p f)
    by (inl large) = ap (λ n. min (n * f) m) (min-eq_right (less m p large)) ∙ at_most f
      where
        less : (m p : ℕ) → m < p → m ≤ p
        less m p e = omega (arith, e)

        times : (m f : ℕ) → m ≤ m * suc f
        times m f = grind arith

        more : (m p f : ℕ) → m < p → m ≤ suc f * p
        more m p f e = grind (arith, e)

        none : (m p : ℕ) → min (m * 0) m ≡ min (0 * p) m
        none m p = ap (λ n. min n m) (zeros m p)
          where
            zeros : (m p : ℕ) → m * 0 ≡ 0 * p
            zeros m p = omega arith

        at_most : (f : ℕ) → min (m * f) m ≡ min (f * p) m
        at_most zero = none m p
        at_most (suc f) = min-eq_right (times m f) ∙ sym (min-eq_right (more m p f large))

copies_rest : (fs : List Counter) (i : ℕ) → 1 ≤ copies_round fs → (1 ≤ copies_in (loop_factors (drop i fs))) × (copies_in (loop_factors (drop i fs)) ≤ copies_round fs)
copies_rest fs zero e = (e, same (copies_round fs))
  where
    same : (n : ℕ) → n ≤ n
    same n = omega arith
copies_rest [] (suc i) e = (e, same (copies_in []))
  where
    same : (n : ℕ) → n ≤ n
    same n = omega arith
copies_rest (c ∷ fs) (suc i) e =
    let more = one_more c.factor (loop_factors fs) e in
    let rest = copies_rest fs i more.1 in
    (rest.0, times c.factor _ _ more.0 rest.1)
  where
    times : (f k c : ℕ) → 1 ≤ f → k ≤ c → k ≤ f * c
    times f k c a b = grind arith

back : (i : ℕ) → 0 < i → i - 1 + 1 ≡ i
back i e = omega (arith, e)

before : (i n : ℕ) → 0 < i → i ≤ n → i - 1 < n
before i n e f = omega (arith, e, f)

abbrev pub as_level : ℕ → ℕ → ℕ → CopyLevel
as_level factor stride share = record { factor = factor; stride = stride; share = share }

module _ (scopes : List (Option Scope)) (loops : List Counter) (access : Expr) (writes : Bool) (few : copies_round loops ≤ 256) where
  pub levels_none : (n : ℕ) (levels : List CopyLevel) → n ≡ length loops → levels ≡ [] → LevelsSoFar scopes loops access writes n levels 1 1
  levels_none n levels e f = record {
    counted = ap (λ (l : List Counter). min (copies_in (loop_factors l)) most) (sym past);
    each = λ bs are one. (
      subst (λ (l : List Counter). AreLevels (depends bs (source_of loops writes access)) n (loop_factors l) (reverse levels)) (sym past) (subst (λ (ls : List CopyLevel). AreLevels (depends bs (source_of loops writes access)) n [] (reverse ls)) (sym f) tt),
      ap (λ (l : List Counter). keys_in (depends bs (source_of loops writes access)) n (loop_factors l)) (sym past),
    );
  }
    where
      all_past : (xs : List Counter) → drop (length xs) xs ≡ []
      all_past [] = refl
      all_past (x ∷ xs) = all_past xs

      past : drop n loops ≡ []
      past = ap (λ k. drop k loops) e ∙ all_past loops

  pub paths_done : (paths : AccessPaths) (levels : List CopyLevel) (count keys : ℕ) → LevelsSoFar scopes loops access writes 0 levels count keys → paths.count ≡ count → paths.levels.items ≡ reverse levels → AreAccessPaths scopes loops access writes paths
  paths_done paths levels count keys so e f = record {
    count = e ∙ (so.counted ∙ min-eq_left (below (copies_round loops) few));
    levels = λ bs are one. subst (λ (ls : List CopyLevel). AreLevels (depends bs (source_of loops writes access)) 0 (loop_factors loops) ls) (sym f) (so.each bs are one).0;
  }
    where
      below : (n : ℕ) → n ≤ 256 → n ≤ 2 ^ 64 - 1
      below n e = omega (arith, e)

  module _ (i : ℕ) (d : Counter) (some : 0 < i) (within : i ≤ length loops) (levels levels1 : List CopyLevel) (count keys count1 keys1 : ℕ) (counts : Bool) (so : LevelsSoFar scopes loops access writes i levels count keys)
      (told : (bs : List Binding) → AreScopes bs scopes → counts ≡ depends bs (source_of loops writes access) (i - 1)) where
    here : loop_factors (drop (i - 1) loops) ≡ (get_or loops (i - 1) d).factor ∷ loop_factors (drop i loops)
    here = ap loop_factors (at_place loops (i - 1) d (before i (length loops) some within) ∙ ap (λ n. get_or loops (i - 1) d ∷ drop n loops) (back i some))

    pub levels_turn : levels1 ≡ levels ++ as_level (get_or loops (i - 1) d).factor count (if counts then keys else 0) ∷ [] → count1 ≡ min (count * (get_or loops (i - 1) d).factor) most → keys1 ≡ (if counts then min (keys * (get_or loops (i - 1) d).factor) most else keys)
        → LevelsSoFar scopes loops access writes (i - 1) levels1 count1 keys1
    levels_turn pushed counted keyed = record {
      counted = counted ∙ (ap (λ n. min (n * (get_or loops (i - 1) d).factor) most) so.counted ∙ (saturated (copies_in (loop_factors (drop i loops))) (get_or loops (i - 1) d).factor most ∙ ap (λ l. min (copies_in l) most) (sym here)));
      each = λ bs are one.
          let rest = copies_rest loops i one in
          let all = copies_rest loops (i - 1) one in
          let old = so.each bs are one in (
            subst (λ (ls : List CopyLevel). AreLevels (depends bs (source_of loops writes access)) (i - 1) (loop_factors (drop (i - 1) loops)) ls) (sym (ap reverse pushed ∙ reverse-append levels (as_level (get_or loops (i - 1) d).factor count (if counts then keys else 0) ∷ [])))
                (subst (λ (fs : List ℕ). AreLevels (depends bs (source_of loops writes access)) (i - 1) fs (as_level (get_or loops (i - 1) d).factor count (if counts then keys else 0) ∷ reverse levels)) (sym here) (
                  (refl, (so.counted ∙ min-eq_left (below _ _ rest.1 few), ap (λ b. if b then keys else 0) (told bs are) ∙ ap (λ n. if depends bs (source_of loops writes access) (i - 1) then n else 0) (old.1 ∙ at_next bs))),
                  subst (λ (n : ℕ). AreLevels (depends bs (source_of loops writes access)) n (loop_factors (drop i loops)) (reverse levels)) (sym (back i some)) old.0,
                )),
            keyed
                ∙ (by_keys counts keys _ (get_or loops (i - 1) d).factor (old.1 ∙ at_next bs) (λ picked. key_most bs one picked)
                ∙ (ap (λ (b : Bool). if b then (get_or loops (i - 1) d).factor * keys_in (depends bs (source_of loops writes access)) (i - 1 + 1) (loop_factors (drop i loops)) else keys_in (depends bs (source_of loops writes access)) (i - 1 + 1) (loop_factors (drop i loops))) (told bs are)
                ∙ ap (keys_in (depends bs (source_of loops writes access)) (i - 1)) (sym here))),
          );
    }
      where
        below : (n m : ℕ) → n ≤ m → m ≤ 256 → n ≤ 2 ^ 64 - 1
        below n m e f = omega (arith, e, f)

        at_next : (bs : List Binding) → keys_in (depends bs (source_of loops writes access)) i (loop_factors (drop i loops)) ≡ keys_in (depends bs (source_of loops writes access)) (i - 1 + 1) (loop_factors (drop i loops))
        at_next bs = ap (λ n. keys_in (depends bs (source_of loops writes access)) n (loop_factors (drop i loops))) (sym (back i some))

        product : (f k c : ℕ) → k ≤ c → f * k ≤ f * c
        product f k c a = grind arith

        fits : (n m c : ℕ) → n ≤ m → m ≤ c → c ≤ 256 → n ≤ 2 ^ 64 - 1
        fits n m c e f g = omega (arith, e, f, g)

        key_most : (bs : List Binding) → 1 ≤ copies_round loops → counts ≡ true → (get_or loops (i - 1) d).factor * keys_in (depends bs (source_of loops writes access)) (i - 1 + 1) (loop_factors (drop i loops)) ≤ 2 ^ 64 - 1
        key_most bs one picked =
            let rest = copies_rest loops i one in
            let all = copies_rest loops (i - 1) one in
            fits _ (copies_in (loop_factors (drop (i - 1) loops))) _
            (subst (λ (n : ℕ). (get_or loops (i - 1) d).factor * keys_in (depends bs (source_of loops writes access)) (i - 1 + 1) (loop_factors (drop i loops)) ≤ n) (sym (ap copies_in here)) (product _ _ _ (keys_most (depends bs (source_of loops writes access)) (i - 1 + 1) (loop_factors (drop i loops)) rest.0).1))
            all.1 few

        by_keys : (b : Bool) (keys k f : ℕ) → keys ≡ k → (b ≡ true → f * k ≤ 2 ^ 64 - 1) → (if b then min (keys * f) most else keys) ≡ (if b then f * k else k)
        by_keys false keys k f e h = e
        by_keys true keys k f e h = ap (λ n. min (n * f) most) e ∙ (ap (λ n. min n most) (swapped k f) ∙ min-eq_left (h refl))
          where
            swapped : (k f : ℕ) → k * f ≡ f * k
            swapped k f = omega arith

-- What levels tell.

pub key_told : (picks : ℕ → Bool) (level : ℕ) (fs : List ℕ) (ls : List CopyLevel) (n : ℕ) → AreLevels picks level fs ls → key_of_levels ls n ≡ key_number picks level fs n
key_told picks level [] [] n h = refl
key_told picks level [] (l ∷ ls) n h = absurd h
key_told picks level (f ∷ fs) [] n h = absurd h
key_told picks level (f ∷ fs) (l ∷ ls) n h =
    ap (λ k. k + key_of_levels ls n) (ap (λ s. ((n / s) % l.factor) * l.share) h.0.1.0 ∙ (ap (λ k. ((n / copies_in fs) % k) * l.share) h.0.0 ∙ (ap (λ k. ((n / copies_in fs) % f) * k) h.0.1.1 ∙ by (picks level))))
    ∙ ap (λ k. (if picks level then ((n / copies_in fs) % f) * keys_in picks (level + 1) fs else 0) + k) (key_told picks (level + 1) fs ls n h.1)
  where
    none : (n : ℕ) → n * 0 ≡ 0
    none n = omega arith

    by : (b : Bool) → ((n / copies_in fs) % f) * (if b then keys_in picks (level + 1) fs else 0) ≡ (if b then ((n / copies_in fs) % f) * keys_in picks (level + 1) fs else 0)
    by true = refl
    by false = none ((n / copies_in fs) % f)

pub levels_spread : (picks : ℕ → Bool) (level : ℕ) (fs : List ℕ) (ls : List CopyLevel) → 1 ≤ copies_in fs → AreLevels picks level fs ls → AllByRecursion IsSpreadLevel ls
levels_spread picks level [] [] e h = tt
levels_spread picks level [] (l ∷ ls) e h = absurd h
levels_spread picks level (f ∷ fs) [] e h = absurd h
levels_spread picks level (f ∷ fs) (l ∷ ls) e h =
    let more = one_more f fs e in
    (record { factor = subst (λ (n : ℕ). 1 ≤ n) (sym h.0.0) more.0; stride = subst (λ (n : ℕ). 1 ≤ n) (sym h.0.1.0) more.1 }, levels_spread picks (level + 1) fs ls more.1 h.1)

-- the greatest key is below the keys
pub greatest_below : (picks : ℕ → Bool) (level : ℕ) (fs : List ℕ) (ls : List CopyLevel) → 1 ≤ copies_in fs → AreLevels picks level fs ls → greatest_key ls + 1 ≤ keys_in picks level fs
greatest_below picks level [] [] e h = omega arith
greatest_below picks level [] (l ∷ ls) e h = absurd h
greatest_below picks level (f ∷ fs) [] e h = absurd h
greatest_below picks level (f ∷ fs) (l ∷ ls) e h =
    let more = one_more f fs e in
    subst (λ (n : ℕ). n + greatest_key ls + 1 ≤ keys_in picks level (f ∷ fs)) (sym (ap (λ n. (n - 1) * l.share) h.0.0 ∙ ap (λ n. (f - 1) * n) h.0.1.1))
    (by (picks level) f more.0 (greatest_below picks (level + 1) fs ls more.1 h.1))
  where
    back_one : (f : ℕ) → suc f - 1 ≡ f
    back_one f = omega arith

    product : (f k g : ℕ) → g + 1 ≤ k → f * k + g + 1 ≤ suc f * k
    product f k g e = omega (arith, e)

    first : (f k g : ℕ) → g + 1 ≤ k → (suc f - 1) * k + g + 1 ≤ suc f * k
    first f k g e = subst (λ (n : ℕ). n * k + g + 1 ≤ suc f * k) (sym (back_one f)) (product f k g e)

    other : (f k g : ℕ) → g + 1 ≤ k → (f - 1) * 0 + g + 1 ≤ k
    other f k g e = subst (λ (n : ℕ). n + g + 1 ≤ k) (sym (zeros (f - 1))) (only g k e)
      where
        zeros : (n : ℕ) → n * 0 ≡ 0
        zeros n = omega arith

        only : (g k : ℕ) → g + 1 ≤ k → 0 + g + 1 ≤ k
        only g k e = omega (arith, e)

    by : (b : Bool) (f : ℕ) → 1 ≤ f → greatest_key ls + 1 ≤ keys_in picks (level + 1) fs
        → (f - 1) * (if b then keys_in picks (level + 1) fs else 0) + greatest_key ls + 1 ≤ (if b then f * keys_in picks (level + 1) fs else keys_in picks (level + 1) fs)
    by true zero some e = absurd (none some)
      where
        none : 1 ≤ 0 → ⊥
        none e = omega (arith, e)
    by true (suc f) some e = first f (keys_in picks (level + 1) fs) (greatest_key ls) e
    by false f some e = other f _ _ e

pub copy_told : (picks : ℕ → Bool) (level : ℕ) (fs : List ℕ) (ls : List CopyLevel) (n k : ℕ) → AreLevels picks level fs ls → copy_of_level ls k n ≡ slice_index_or (path_of_number fs n) k 0
copy_told picks level [] [] n k h = refl
copy_told picks level [] (l ∷ ls) n k h = absurd h
copy_told picks level (f ∷ fs) [] n k h = absurd h
copy_told picks level (f ∷ fs) (l ∷ ls) n zero h = ap (λ s. (n / s) % l.factor) h.0.1.0 ∙ ap (λ m. (n / copies_in fs) % m) h.0.0
copy_told picks level (f ∷ fs) (l ∷ ls) n (suc k) h =
    ap (λ (b : Bool). if b then (n / l.stride) % l.factor else copy_of_level ls (suc k - 1) n) (not_none k) ∙ (ap (λ m. copy_of_level ls m n) (back_one k) ∙ copy_told picks (level + 1) fs ls n k h.1)
  where
    back_one : (i : ℕ) → suc i - 1 ≡ i
    back_one i = omega arith

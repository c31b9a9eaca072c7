-- The paths of a block are those inside the loops round it: their strides and their number were not cut, since there are
-- as many guards.
use Rattle.std.proofs.Common.{◌≡◌, ℕ, zero, suc, ◌+◌, ◌*◌, ◌-◌, ◌^◌, ◌<◌, ◌≤◌, min, Bool, true, false, if◌then◌else◌, List, [], ◌∷◌, ◌++◌, length, map, Option, None, refl, ap, sym, ◌∙◌, subst, append-nil, append_assoc, arith}
use Rattle.std.specs.Prelude.{nat_le, nat_lt, replicate, slice_get}
use Rattle.std.proofs.lemmas.Bool.Decides.{nat_tests}
use Rattle.std.proofs.lemmas.List.{length-replicate}
use Rattle.std.proofs.Math.Nat.{min-eq_left, mul-le-mul_right}
use Rattle.dh_meaning.specs.Paths.{copies_in}
use Rattle.dh_sound.specs.Blocks.{factors}
use Rattle.dh_plan.specs.Correspondence.{Round, loops_round}
use Rattle.dh_expressions.specs.declared.paths.Level.{Level}
use Rattle.dh_expressions.specs.Levels.{count_inside, levels_inside, spread_level}
use Rattle.dh_expressions.specs.Shown.{guard_or_none}
use Rattle.dh_commands.specs.ShownVariables.{level_factors}
use Rattle.dh_blocks.specs.PathsOfLevels.{AreSpread}
use Rattle.dh_gathering.specs.MadeBlocks.{AreWithin}
use Rattle.dh_phased.specs.TopPaths.{RoundsAreTop}

pub copies_more : (fs : List ℕ) (f : ℕ) → copies_in (fs ++ f ∷ []) ≡ copies_in fs * f
copies_more [] f = one f
  where
    one : (n : ℕ) → n * 1 ≡ 1 * n
    one n = omega arith
copies_more (g ∷ fs) f = by g (copies_in fs) (copies_in (fs ++ f ∷ [])) (copies_more fs f)
  where
    by : (a b c : ℕ) → c ≡ b * f → a * c ≡ a * b * f
    by a b c e = ap (λ (n : ℕ). a * n) e ∙ omega arith

-- one loop more inside these
abbrev inner_level : (entity : Option ℕ) → (factor : ℕ) → Level
inner_level entity factor = record { entity = entity; factor = factor; stride = 1 }

factors_more : (entity : Option ℕ) (factor : ℕ) (ls : List Level) → level_factors (map (spread_level factor) ls ++ inner_level entity factor ∷ []) ≡ level_factors ls ++ factor ∷ []
factors_more entity factor [] = refl
factors_more entity factor (l ∷ ls) = ap (λ (fs : List ℕ). l.factor ∷ fs) (factors_more entity factor ls)

-- strides that are not cut
spread_more : (entity : Option ℕ) (factor : ℕ) (ls : List Level) → 1 < factor → AreSpread ls → copies_in (level_factors ls) * factor < 2 ^ 63 → AreSpread (map (spread_level factor) ls ++ inner_level entity factor ∷ [])
spread_more entity factor [] many s few = (many, (refl, tt))
spread_more entity factor (l ∷ ls) many s few = (s.0, (stride, spread_more entity factor ls many s.1.1 within))
  where
    less : (k c : ℕ) → 1 < k → k * c * factor < 2 ^ 63 → c * factor < 2 ^ 63
    less k c m f = let r : 1 * (c * factor) ≤ k * (c * factor) = mul-le-mul_right (c * factor) (omega (arith, m)) in omega (arith, r, f)

    within : copies_in (level_factors ls) * factor < 2 ^ 63
    within = less l.factor (copies_in (level_factors ls)) s.0 few

    kept : (n m : ℕ) → n ≡ m → m * factor < 2 ^ 63 → min (n * factor) (2 ^ 64 - 1) ≡ m * factor
    kept n m e f = ap (λ (k : ℕ). min (k * factor) (2 ^ 64 - 1)) e ∙ min-eq_left (small (m * factor) f)
      where
        small : (k : ℕ) → k < 2 ^ 63 → k ≤ 2 ^ 64 - 1
        small k g = omega (arith, g)

    stride : min (l.stride * factor) (2 ^ 64 - 1) ≡ copies_in (level_factors (map (spread_level factor) ls ++ inner_level entity factor ∷ []))
    stride =
        kept l.stride (copies_in (level_factors ls)) s.1.0 within
        ∙ (sym (copies_more (level_factors ls) factor) ∙ sym (ap (λ (fs : List ℕ). copies_in fs) (factors_more entity factor ls)))

-- a number of paths only grows, up to the greatest
count_least : (count factor : ℕ) → count ≤ 2 ^ 64 - 1 → count ≤ count_inside count factor
count_least count factor top = by (nat_le factor 1) refl
  where
    product : (a b : ℕ) → 1 < b → a ≤ a * b
    product a b m = let r : 1 * a ≤ b * a = mul-le-mul_right a (omega (arith, m)) in omega (arith, r)

    many : nat_le factor 1 ≡ false → 1 < factor
    many e = grind (arith, nat_tests, e)

    both : (p : ℕ) → count ≤ p → count ≤ min p (2 ^ 64 - 1)
    both p l = cut p (2 ^ 64 - 1) l top
      where
        cut : (p m : ℕ) → count ≤ p → count ≤ m → count ≤ min p m
        cut p m e f = grind (arith, e, f)

    by : (b : Bool) → nat_le factor 1 ≡ b → count ≤ (if b then count else min (count * factor) (2 ^ 64 - 1))
    by true e = same count
      where
        same : (n : ℕ) → n ≤ n
        same n = omega arith
    by false e = both (count * factor) (product count factor (many e))

count_most : (count factor : ℕ) → count ≤ 2 ^ 64 - 1 → count_inside count factor ≤ 2 ^ 64 - 1
count_most count factor top = by (nat_le factor 1)
  where
    cut : (p m : ℕ) → min p m ≤ m
    cut p m = grind arith

    by : (b : Bool) → (if b then count else min (count * factor) (2 ^ 64 - 1)) ≤ 2 ^ 64 - 1
    by true = top
    by false = cut (count * factor) (2 ^ 64 - 1)

paths_least : (levels : List Level) (count : ℕ) (rounds : List Round) (inner : List Level) (paths : ℕ) → count ≤ 2 ^ 64 - 1 → AreWithin levels count rounds inner paths → count ≤ paths
paths_least levels count [] inner paths top h = same count paths h.1
  where
    same : (n m : ℕ) → m ≡ n → n ≤ m
    same n m e = omega (arith, e)
paths_least levels count (r ∷ rounds) inner paths top (entity, (is, h)) =
    both count (count_inside count r.loop.factor) paths (count_least count r.loop.factor top)
    (paths_least (levels_inside levels entity r.loop.factor) (count_inside count r.loop.factor) rounds inner paths (count_most count r.loop.factor top) h)
  where
    both : (n m k : ℕ) → n ≤ m → m ≤ k → n ≤ k
    both n m k e f = omega (arith, e, f)

-- behind further loops
record Inside (levels : List Level) (rounds : List Round) (inner : List Level) (paths : ℕ) : Type 0 where
  spread : AreSpread inner
  counted : paths ≡ copies_in (level_factors inner)
  factors_are : level_factors inner ≡ level_factors levels ++ factors (loops_round rounds)

abbrev Goes : List Round → List Level → ℕ → Type 0
Goes rounds inner paths = (levels : List Level) (count : ℕ) → AreSpread levels → count ≡ copies_in (level_factors levels) → count ≤ 2 ^ 64 - 1 → AreWithin levels count rounds inner paths → Inside levels rounds inner paths

inside_step : (r : Round) (rounds : List Round) (inner : List Level) (paths : ℕ) → paths < 2 ^ 63 → Goes rounds inner paths → Goes (r ∷ rounds) inner paths
inside_step r rounds inner paths few go levels count s e top (entity, (is, h)) = by (nat_le r.loop.factor 1) (nat_lt 1 r.loop.factor) refl refl h
  where
    rest : List ℕ
    rest = factors (loops_round rounds)

    uncut : (p : ℕ) → min p (2 ^ 64 - 1) ≤ paths → p < 2 ^ 63
    uncut p l = cut p (2 ^ 64 - 1) (2 ^ 63) (omega arith) l few
      where
        cut : (p m t : ℕ) → t ≤ m → min p m ≤ paths → paths < t → p < t
        cut p m t a b c = grind (arith, a, b, c)

    small : (p : ℕ) → p < 2 ^ 63 → p ≤ 2 ^ 64 - 1
    small p l = omega (arith, l)

    most : (p : ℕ) → min p (2 ^ 64 - 1) ≤ 2 ^ 64 - 1
    most p = cut p (2 ^ 64 - 1)
      where
        cut : (p m : ℕ) → min p m ≤ m
        cut p m = grind arith

    differ : nat_le r.loop.factor 1 ≡ true → nat_lt 1 r.loop.factor ≡ true → ⊥
    differ a b = grind (arith, nat_tests, a, b)

    neither : nat_le r.loop.factor 1 ≡ false → nat_lt 1 r.loop.factor ≡ false → ⊥
    neither a b = grind (arith, nat_tests, a, b)

    many : nat_lt 1 r.loop.factor ≡ true → 1 < r.loop.factor
    many a = grind (arith, nat_tests, a)

    by : (b c : Bool) → nat_le r.loop.factor 1 ≡ b → nat_lt 1 r.loop.factor ≡ c
        → AreWithin (if b then levels else map (spread_level r.loop.factor) levels ++ record { entity = entity; factor = r.loop.factor; stride = 1 } ∷ []) (if b then count else min (count * r.loop.factor) (2 ^ 64 - 1)) rounds inner paths
        → Inside levels (r ∷ rounds) inner paths
    by true true a c k = absurd (differ a c)
    by false false a c k = absurd (neither a c)
    by true false a c k =
        let i = go levels count s e top k in
        record { spread = i.spread; counted = i.counted; factors_are = i.factors_are ∙ ap (λ (b : Bool). level_factors levels ++ (if b then r.loop.factor ∷ factors (loops_round rounds) else factors (loops_round rounds))) (sym c) }
    by false true a c k =
        let within : count * r.loop.factor < 2 ^ 63 = uncut (count * r.loop.factor) (paths_least (map (spread_level r.loop.factor) levels ++ record { entity = entity; factor = r.loop.factor; stride = 1 } ∷ []) (min (count * r.loop.factor) (2 ^ 64 - 1)) rounds inner paths (most (count * r.loop.factor)) k) in
        let copies : copies_in (level_factors levels) * r.loop.factor < 2 ^ 63 = subst (λ (n : ℕ). n * r.loop.factor < 2 ^ 63) e within in
        let i = go (map (spread_level r.loop.factor) levels ++ record { entity = entity; factor = r.loop.factor; stride = 1 } ∷ []) (min (count * r.loop.factor) (2 ^ 64 - 1)) (spread_more entity r.loop.factor levels (many c) s copies)
        (min-eq_left (small (count * r.loop.factor) within)
        ∙ (ap (λ (n : ℕ). n * r.loop.factor) e ∙ (sym (copies_more (level_factors levels) r.loop.factor) ∙ sym (ap (λ (fs : List ℕ). copies_in fs) (factors_more entity r.loop.factor levels)))))
        (most (count * r.loop.factor)) k in
        record {
          spread = i.spread;
          counted = i.counted;
          factors_are =
              i.factors_are
              ∙ (ap (λ (fs : List ℕ). fs ++ factors (loops_round rounds)) (factors_more entity r.loop.factor levels)
              ∙ (append_assoc (level_factors levels) (r.loop.factor ∷ []) (factors (loops_round rounds))
              ∙ ap (λ (b : Bool). level_factors levels ++ (if b then r.loop.factor ∷ factors (loops_round rounds) else factors (loops_round rounds))) (sym c)));
        }

goes : (rounds : List Round) (inner : List Level) (paths : ℕ) → paths < 2 ^ 63 → Goes rounds inner paths
goes [] inner paths few levels count s e top h = record {
  spread = subst (λ (ls : List Level). AreSpread ls) (sym h.0) s;
  counted = h.1 ∙ (e ∙ ap (λ (ls : List Level). copies_in (level_factors ls)) (sym h.0));
  factors_are = ap (λ (ls : List Level). level_factors ls) h.0 ∙ sym (append-nil (level_factors levels));
}
goes (r ∷ rounds) inner paths few levels count s e top h = inside_step r rounds inner paths few (goes rounds inner paths few) levels count s e top h

none_guards : (n i : ℕ) → guard_or_none (slice_get (replicate n None) i) ≡ None
none_guards zero i = refl
none_guards (suc n) zero = refl
none_guards (suc n) (suc i) = none_guards n i

pub rounds_are_top : RoundsAreTop
rounds_are_top scene rounds around round stands =
    let i = goes rounds around.levels.now round.paths round.small [] 1 tt refl (omega arith) round.levels.within in
    record {
      spread = i.spread;
      factors_are = i.factors_are;
      counted = ap (λ (l : List (Option ℕ)). length l) round.guards ∙ (length-replicate round.paths None ∙ i.counted);
      free = λ number. ap (λ (l : List (Option ℕ)). guard_or_none (slice_get l number)) round.guards ∙ none_guards round.paths number;
      low = stands.low;
    }

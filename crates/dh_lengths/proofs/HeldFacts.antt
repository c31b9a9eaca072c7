-- What the held levels are behind each step.
use Rattle.std.proofs.Common.{◌≡◌, ℕ, zero, suc, ◌+◌, ◌<◌, ◌≤◌, ◌==◌, nat_lt, max, min, Bool, true, false, if◌then◌else◌, List, [], ◌∷◌, ◌++◌, length, refl, ap, sym, ◌∙◌, ◌⊎◌, inl, inr, subst, arith}
use mathlib.Core.Path.{fun_ext}
use Rattle.std.specs.Prelude.{Option, Some, None, slice_index}
use Rattle.std.proofs.lemmas.Bool.{cases_Bool, eqb-true, eq-eqb, lt-ltb, ltb-true}
use Rattle.std.proofs.lemmas.List.{get_or_append_left}
use Rattle.std.proofs.Math.Seq.{get_or-append_seam}
use Rattle.dh_meaning.specs.Core.{Reach}
use Rattle.dh_meaning.specs.CoreOf.{entity_number}
use Rattle.dh_meaning.specs.Levels.{Levels, Leveled, level_ground, read_at, read_leveled, with_value, with_variables}
use Rattle.dh_events.specs.Tables.{table_at, with_number}
use Rattle.dh_lengths.specs.declared.held.PhaseLevels.{PhaseLevels}
use Rattle.dh_lengths.specs.SharedReads.{told}
use Rattle.dh_lengths.specs.Undone.{mark, undone_levels}
use Rattle.dh_lengths.specs.HeldLevels.{zero_levels, read_in, variable_in, levels_of, levels_seen, held_access_count, leveled_with, LevelsAreSmall, HasSoundLevels, KeepsVariableLevels, GivesLevel, GivesLevels, AssignsAt, Skips}
use Rattle.dh_lengths.proofs.UndoneFacts.{one_changed}
use Rattle.dh_lengths.proofs.Zeros.{read_more, zeros_long}

absurd : {A : Type 0} → ⊥ → A
absurd e = elim e [ ]

-- Lists.

pub index_past : (xs : List ℕ) (k : ℕ) → length xs ≤ k → slice_index xs k ≡ 0
index_past [] k h = refl
index_past (x ∷ xs) zero h = absurd (never _ h)
  where
    never : (n : ℕ) → suc n ≤ 0 → ⊥
    never n h = omega (arith, h)
index_past (x ∷ xs) (suc k) h = index_past xs k (omega (arith, h))

pub one_longer : (xs : List ℕ) (v : ℕ) → length (xs ++ v ∷ []) ≡ length xs + 1
one_longer [] v = refl
one_longer (x ∷ xs) v = ap suc (one_longer xs v) ∙ shift (length xs)
  where
    shift : (n : ℕ) → suc (n + 1) ≡ suc n + 1
    shift n = omega arith

below : (k n : ℕ) → (k == n) ≡ false → (k < n) ⊎ (n < k)
below k n e = by (differs e)
  where
    differs : (k == n) ≡ false → k ≡ n → ⊥
    differs e f = let g : (k == n) ≡ true = eq-eqb k n f in cc

    by : (k ≡ n → ⊥) → (k < n) ⊎ (n < k)
    by d = by_test (cases_Bool (nat_lt k n))
      where
        other : nat_lt k n ≡ false → n < k
        other f = grind (arith, d, f)

        by_test : (nat_lt k n ≡ true) ⊎ (nat_lt k n ≡ false) → (k < n) ⊎ (n < k)
        by_test (inl t) = inl (ltb-true k n t)
        by_test (inr t) = inr (other t)

index_snoc : (xs : List ℕ) (v k : ℕ) → slice_index (xs ++ v ∷ []) k ≡ (if k == length xs then v else slice_index xs k)
index_snoc xs v k = by_test (cases_Bool (k == length xs))
  where
    longer : (n k : ℕ) → n < k → n + 1 ≤ k
    longer n k h = omega (arith, h)

    less : (n k : ℕ) → n < k → n ≤ k
    less n k h = omega (arith, h)

    by_side : (k < length xs) ⊎ (length xs < k) → slice_index (xs ++ v ∷ []) k ≡ slice_index xs k
    by_side (inl h) = get_or_append_left xs (v ∷ []) 0 k h
    by_side (inr h) = index_past (xs ++ v ∷ []) k (subst (λ (n : ℕ). n ≤ k) (sym (one_longer xs v)) (longer (length xs) k h)) ∙ sym (index_past xs k (less (length xs) k h))

    by_test : ((k == length xs) ≡ true) ⊎ ((k == length xs) ≡ false) → slice_index (xs ++ v ∷ []) k ≡ (if k == length xs then v else slice_index xs k)
    by_test (inl e) = ap (slice_index (xs ++ v ∷ [])) (eqb-true k (length xs) e) ∙ (get_or-append_seam xs v [] 0 ∙ sym (ap (λ b. if b then v else slice_index xs k) e))
    by_test (inr e) = by_side (below k (length xs) e) ∙ sym (ap (λ b. if b then v else slice_index xs k) e)

-- one read more
read_snoc : (xs : List ℕ) (first v : ℕ) → first ≤ length xs → read_in (xs ++ v ∷ []) first ≡ with_value (read_in xs first) (length xs) v
read_snoc xs first v h = fun_ext (λ k. by_test k (cases_Bool (nat_lt k first)))
  where
    apart : (k n : ℕ) → k < n → (k == n) ≡ false
    apart k n e = by (cases_Bool (k == n))
      where
        never : (n : ℕ) → n < n → ⊥
        never n e = omega (arith, e)

        by : ((k == n) ≡ true) ⊎ ((k == n) ≡ false) → (k == n) ≡ false
        by (inl t) = absurd (never n (subst (λ (m : ℕ). m < n) (eqb-true k n t) e))
        by (inr t) = t

    far : (k m n : ℕ) → k < m → m ≤ n → k < n
    far k m n e f = omega (arith, e, f)

    by_test : (k : ℕ) → (nat_lt k first ≡ true) ⊎ (nat_lt k first ≡ false) → read_in (xs ++ v ∷ []) first k ≡ (if k == length xs then v else read_in xs first k)
    by_test k (inl t) =
        ap (λ b. if b then 0 else slice_index (xs ++ v ∷ []) k) t
        ∙ (sym (ap (λ b. if b then 0 else slice_index xs k) t)
        ∙ sym (ap (λ b. if b then v else read_in xs first k) (apart k (length xs) (far k first (length xs) (ltb-true k first t) h))))
    by_test k (inr t) =
        ap (λ b. if b then 0 else slice_index (xs ++ v ∷ []) k) t
        ∙ (index_snoc xs v k ∙ ap (λ n. if k == length xs then v else n) (sym (ap (λ b. if b then 0 else slice_index xs k) t)))

-- from the end on nothing was read
pub read_end : (xs : List ℕ) → read_in xs (length xs) ≡ (λ k. 0)
read_end xs = fun_ext (λ k. by_test k (cases_Bool (nat_lt k (length xs))))
  where
    least : (k n : ℕ) → nat_lt k n ≡ false → n ≤ k
    least k n e = by (cases_Bool (nat_lt n k))
      where
        by : (nat_lt n k ≡ true) ⊎ (nat_lt n k ≡ false) → n ≤ k
        by t = grind (arith, e)

    by_test : (k : ℕ) → (nat_lt k (length xs) ≡ true) ⊎ (nat_lt k (length xs) ≡ false) → read_in xs (length xs) k ≡ 0
    by_test k (inl t) = ap (λ b. if b then 0 else slice_index xs k) t
    by_test k (inr t) = ap (λ b. if b then 0 else slice_index xs k) t ∙ index_past xs k (least k (length xs) t)

-- Bounds.

up_one : (n m : ℕ) → n ≤ m → n ≤ m + 1
up_one n m e = omega (arith, e)

up_many : (n m k : ℕ) → n ≤ m → n ≤ m + k
up_many n m k e = omega (arith, e)

both_low : (a b n : ℕ) → a ≤ n → b ≤ n → max a b ≤ n
both_low a b n e f = grind (arith, e, f)

if_low : (b : Bool) (x y n : ℕ) → x ≤ n → y ≤ n → (if b then x else y) ≤ n
if_low true x y n e f = e
if_low false x y n e f = f

pub small_more : (n k : ℕ) (l : Levels) → LevelsAreSmall n l → LevelsAreSmall (n + k) l
small_more n k l s = record { variables = λ e. up_many (l.variables e) n k (s.variables e); reads = λ i. up_many (l.reads i) n k (s.reads i); most = up_many l.most n k s.most }

-- Reads.

abbrev read_more_of : (old : PhaseLevels) → (level : ℕ) → Levels
read_more_of old level = record { variables = (levels_seen old).variables; reads = with_value (levels_seen old).reads (held_access_count old) level; most = max (levels_seen old).most level }

read_small : (old : PhaseLevels) (level : ℕ) → HasSoundLevels old → level ≤ held_access_count old + 1 → LevelsAreSmall (held_access_count old + 1) (read_more_of old level)
read_small old level s low = record {
  variables = λ e. up_one (table_at old.variables.items e) (held_access_count old) (s.small.variables e);
  reads = λ k. if_low (k == held_access_count old) level (read_in old.reads.items old.first k) (held_access_count old + 1) low (up_one (read_in old.reads.items old.first k) (held_access_count old) (s.small.reads k));
  most = both_low old.most level (held_access_count old + 1) (up_one old.most (held_access_count old) s.small.most) low;
}

-- a read of a level
read_gives : (old new : PhaseLevels) (r : Reach) (level : ℕ) → r.number ≡ held_access_count old → HasSoundLevels old → level ≤ held_access_count old + 1 → new.reads.items ≡ old.reads.items ++ level ∷ [] → new.most ≡ max old.most level → KeepsVariableLevels old new
    → GivesLevel old new (read_at r level (levels_seen old)) level 1
read_gives old new r level numbers s low added most keeps =
    let many : held_access_count new ≡ held_access_count old + 1 = ap length added ∙ one_longer old.reads.items level in
    let seen : levels_seen new ≡ read_more_of old level =
    ap (λ l. levels_of l new.first new.most new.variables.items) added
    ∙ (ap (λ n. levels_of (old.reads.items ++ level ∷ []) n new.most new.variables.items) keeps.first
    ∙ (ap (λ n. levels_of (old.reads.items ++ level ∷ []) old.first n new.variables.items) most
    ∙ (ap (λ l. levels_of (old.reads.items ++ level ∷ []) old.first (max old.most level) l) keeps.variables
    ∙ ap (λ (f : ℕ → ℕ). record { variables = table_at old.variables.items; reads = f; most = max old.most level }) (read_snoc old.reads.items old.first level s.first)))) in
    record {
      is = refl;
      seen = seen ∙ ap (λ (n : ℕ). record { variables = (levels_seen old).variables; reads = with_value (levels_seen old).reads n level; most = max (levels_seen old).most level }) (sym numbers);
      sound = record {
        first = subst (λ (n : ℕ). new.first ≤ n) (sym many) (subst (λ (n : ℕ). n ≤ held_access_count old + 1) (sym keeps.first) (up_one old.first (held_access_count old) s.first));
        small = subst (λ (n : ℕ). LevelsAreSmall n (levels_seen new)) (sym many) (subst (λ (l : Levels). LevelsAreSmall (held_access_count old + 1) l) (sym seen) (read_small old level s low));
      };
      low = subst (λ (n : ℕ). level ≤ n) (sym many) low;
      counted = many;
      keeps = keeps;
    }

-- the level of the next read
abbrev next_level : (old : PhaseLevels) → (outer indices : ℕ) → Option ℕ → ℕ
next_level old outer indices None = suc (max indices outer)
next_level old outer indices (Some earlier) = read_in old.reads.items old.first earlier

pub read_next : (old new : PhaseLevels) (outer indices level : ℕ) (o : Option ℕ) → told old.shares.now (held_access_count old) ≡ o → (outer ≤ held_access_count old → indices ≤ held_access_count old → level ≡ next_level old outer indices o)
    → new.reads.items ≡ old.reads.items ++ level ∷ [] → new.most ≡ max old.most level → KeepsVariableLevels old new
    → (r : Reach) → r.number ≡ held_access_count old → HasSoundLevels old → outer ≤ held_access_count old → indices ≤ held_access_count old → GivesLevel old new (read_leveled (told old.shares.now) outer r (leveled_with indices (levels_seen old))) level 1
read_next old new outer indices level o share is added most keeps r numbers s outer_low indices_low =
    subst (λ (i : Leveled). GivesLevel old new i level 1) (sym (as_read o (ap (told old.shares.now) numbers ∙ share))) (by_share o (is outer_low indices_low))
  where
    as_read : (o : Option ℕ) → told old.shares.now r.number ≡ o → read_leveled (told old.shares.now) outer r (leveled_with indices (levels_seen old)) ≡ read_leveled (λ n. o) outer r (leveled_with indices (levels_seen old))
    as_read o e = ap (λ (q : Option ℕ). read_leveled (λ n. q) outer r (leveled_with indices (levels_seen old))) e

    next_low : (a b n : ℕ) → a ≤ n → b ≤ n → suc (max a b) ≤ n + 1
    next_low a b n e f = grind (arith, e, f)

    by_share : (o : Option ℕ) → level ≡ next_level old outer indices o → GivesLevel old new (read_leveled (λ n. o) outer r (leveled_with indices (levels_seen old))) level 1
    by_share None e =
        subst (λ (m : ℕ). GivesLevel old new (read_at r m (levels_seen old)) level 1) e
        (read_gives old new r level numbers s (subst (λ (m : ℕ). m ≤ held_access_count old + 1) (sym e) (next_low indices outer (held_access_count old) indices_low outer_low)) added most keeps)
    by_share (Some earlier) e =
        subst (λ (m : ℕ). GivesLevel old new (read_at r m (levels_seen old)) level 1) e
        (read_gives old new r level numbers s (subst (λ (m : ℕ). m ≤ held_access_count old + 1) (sym e) (up_one _ (held_access_count old) (s.small.reads earlier))) added most keeps)

pub within_count : (a b n : ℕ) → a ≤ n → b ≤ n → min (max b a) n + 1 ≡ suc (max b a)
within_count a b n e f = grind (arith, e, f)

-- Accesses of level 0.

pub skips_gives : (old new : PhaseLevels) (n : ℕ) → HasSoundLevels old → Skips old new n → GivesLevels old new (levels_seen old) n
skips_gives old new n s k =
    let many : held_access_count new ≡ held_access_count old + n = ap length k.reads ∙ zeros_long old.reads.items n in
    let seen : levels_seen new ≡ levels_seen old =
    ap (λ l. levels_of l new.first new.most new.variables.items) k.reads
    ∙ (ap (λ m. levels_of (old.reads.items ++ zero_levels n) m new.most new.variables.items) k.keeps.first
    ∙ (ap (λ m. levels_of (old.reads.items ++ zero_levels n) old.first m new.variables.items) k.most
    ∙ (ap (λ l. levels_of (old.reads.items ++ zero_levels n) old.first old.most l) k.keeps.variables
    ∙ ap (λ (f : ℕ → ℕ). record { variables = table_at old.variables.items; reads = f; most = old.most }) (read_more old.reads.items n old.first)))) in
    record {
      seen = seen;
      sound = record {
        first = subst (λ (m : ℕ). new.first ≤ m) (sym many) (subst (λ (m : ℕ). m ≤ held_access_count old + n) (sym k.keeps.first) (up_many old.first (held_access_count old) n s.first));
        small = subst (λ (m : ℕ). LevelsAreSmall m (levels_seen new)) (sym many) (subst (λ (l : Levels). LevelsAreSmall (held_access_count old + n) l) (sym seen) (small_more (held_access_count old) n (levels_seen old) s.small));
      };
      counted = many;
      keeps = k.keeps;
    }

-- Variables.

pub assigns : (old new : PhaseLevels) (place before level : ℕ) → before ≡ table_at old.variables.items place → table_at new.variables.items ≡ with_number (table_at old.variables.items) place level
    → new.log.items ≡ old.log.items ++ mark place before ∷ [] → new.reads.items ≡ old.reads.items → new.shares.now ≡ old.shares.now → new.first ≡ old.first → new.most ≡ old.most → AssignsAt old new place level
assigns old new place before level before_is set log reads shares first most = record {
  seen =
      ap (λ l. levels_of l new.first new.most new.variables.items) reads
      ∙ (ap (λ n. levels_of old.reads.items n new.most new.variables.items) first
      ∙ (ap (λ n. levels_of old.reads.items old.first n new.variables.items) most
      ∙ ap (λ (f : ℕ → ℕ). record { variables = f; reads = read_in old.reads.items old.first; most = old.most }) (set ∙ one_changed (table_at old.variables.items) place level)));
  reads = reads;
  shares = shares;
  first = first;
  log = log ∙ ap (λ n. old.log.items ++ mark place n ∷ []) before_is;
}

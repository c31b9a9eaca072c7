-- Keys, those of past phases apart.
use Rattle.std.proofs.Common.{◌≡◌, ℕ, zero, suc, ◌+◌, ◌^◌, ◌<◌, ◌≤◌, ◌||◌, Bool, true, false, if◌then◌else◌, List, [], ◌∷◌, ◌++◌, length, append_assoc, refl, ap, sym, ◌∙◌, subst, arith, ◌⊎◌, inl, inr}
use Rattle.std.specs.Prelude.{Option, Some, None, slice_get}
use Rattle.std.specs.List.{AllByRecursion, list_any}
use Rattle.std.proofs.lemmas.List.{append-nil}
use Rattle.std.proofs.lemmas.Option.{slice_get_within}
use Rattle.indexmap.specs.IndexSet.{insert_all, insert_key}
use Rattle.dh_events.specs.declared.classes.Key.{Key}
use Rattle.dh_events.specs.Classes.{all_keys, is_same, KeysAreDistinct, ArePhased, FindsKeyNumber, IsTurnedTo, IsTurnedToAll, NumbersKey}
use Rattle.dh_events.proofs.KeyFacts.{absurd, all_there, only_there, own_key, same_key, some_same, stays}

-- Elements of two lists, one behind the other.

all_append : {X : Type 0} (P : X → Type 0) (xs ys : List X) → AllByRecursion P xs → AllByRecursion P ys → AllByRecursion P (xs ++ ys)
all_append P [] ys a b = b
all_append P (x ∷ xs) ys a b = (a.0, all_append P xs ys a.1 b)

all_weaker : {X : Type 0} (P Q : X → Type 0) → ((x : X) → P x → Q x) → (xs : List X) → AllByRecursion P xs → AllByRecursion Q xs
all_weaker P Q f [] a = tt
all_weaker P Q f (x ∷ xs) a = (f x a.0, all_weaker P Q f xs a.1)

pub at_left : {X : Type 0} (xs ys : List X) (n : ℕ) (x : X) → slice_get xs n ≡ Some x → slice_get (xs ++ ys) n ≡ Some x
at_left [] ys n x e = cc
at_left (z ∷ xs) ys zero x e = e
at_left (z ∷ xs) ys (suc n) x e = at_left xs ys n x e

pub at_right : {X : Type 0} (xs ys : List X) (n : ℕ) → slice_get (xs ++ ys) (length xs + n) ≡ slice_get ys n
at_right {X} xs ys n = go xs (length xs + n) refl
  where
    none : (m : ℕ) → m ≡ 0 + n → m ≡ n
    none m e = omega arith

    never : (l : ℕ) → zero ≡ suc l + n → ⊥
    never l e = omega arith

    less : (m l : ℕ) → suc m ≡ suc l + n → m ≡ l + n
    less m l e = omega arith

    go : (zs : List X) (m : ℕ) → m ≡ length zs + n → slice_get (zs ++ ys) m ≡ slice_get ys n
    go [] m e = ap (slice_get ys) (none m e)
    go (z ∷ zs) zero e = absurd (never (length zs) e)
    go (z ∷ zs) (suc m) e = go zs m (less m (length zs) e)

-- an element of both stands in one of them
either : {X : Type 0} (xs ys : List X) (n : ℕ) (x : X) → slice_get (xs ++ ys) n ≡ Some x → ((m : ℕ) × (slice_get xs m ≡ Some x)) ⊎ ((m : ℕ) × (slice_get ys m ≡ Some x))
either [] ys n x e = inr (n, e)
either (z ∷ xs) ys zero x e = inl (zero, e)
either (z ∷ xs) ys (suc n) x e = elim (either xs ys n x e) [ inl (m, h) ↦ inl (suc m, h) | inr r ↦ inr r ]

last_or : {X : Type 0} (xs : List X) (y : X) (n : ℕ) (x : X) → slice_get (xs ++ y ∷ []) n ≡ Some x → (slice_get xs n ≡ Some x) ⊎ ((x ≡ y) × (n ≡ length xs))
last_or [] y zero x e = inr (sym (some_same y x e), refl)
last_or [] y (suc n) x e = cc
last_or (z ∷ xs) y zero x e = inl e
last_or (z ∷ xs) y (suc n) x e = elim (last_or xs y n x e) [ inl h ↦ inl h | inr (h, g) ↦ inr (h, ap suc g) ]

-- Keys without repeats.

clash : (b : Bool) → b ≡ true → b ≡ false → ⊥
clash b e f = cc

-- a key is found where the test of all finds it
any_place : (ks : List Key) (k : Key) → list_any (is_same k) ks ≡ true → (n : ℕ) × (slice_get ks n ≡ Some k)
any_place [] k e = cc
any_place (x ∷ ks) k e = by (is_same k x) refl (λ g. any_place ks k g) e
  where
    by : (b : Bool) → is_same k x ≡ b → (list_any (is_same k) ks ≡ true → (n : ℕ) × (slice_get ks n ≡ Some k)) → (b || list_any (is_same k) ks) ≡ true → (n : ℕ) × (slice_get (x ∷ ks) n ≡ Some k)
    by true f more g = (zero, ap Some (sym (same_key k x f)))
    by false f more g = let r = more g in (suc r.0, r.1)

any_none : (ks : List Key) (k : Key) (n : ℕ) → list_any (is_same k) ks ≡ false → slice_get ks n ≡ Some k → ⊥
any_none [] k n e f = cc
any_none (x ∷ ks) k n e f = by (is_same k x) refl (λ m g h. any_none ks k m g h) e n f
  where
    by : (b : Bool) → is_same k x ≡ b → ((m : ℕ) → list_any (is_same k) ks ≡ false → slice_get ks m ≡ Some k → ⊥) → (b || list_any (is_same k) ks) ≡ false → (n : ℕ) → slice_get (x ∷ ks) n ≡ Some k → ⊥
    by true g more h n f = cc
    by false g more h zero f = clash (is_same k x) (ap (is_same k) (some_same x k f) ∙ own_key k) g
    by false g more h (suc n) f = more n h f

left_distinct : (xs ys : List Key) → KeysAreDistinct (xs ++ ys) → KeysAreDistinct xs
left_distinct xs ys d m n k e f = d m n k (at_left xs ys m k e) (at_left xs ys n k f)

more_distinct : (xs : List Key) (y : Key) → KeysAreDistinct xs → ((n : ℕ) → slice_get xs n ≡ Some y → ⊥) → KeysAreDistinct (xs ++ y ∷ [])
more_distinct xs y d new m n k e f = by (last_or xs y m k e) (last_or xs y n k f)
  where
    by : (slice_get xs m ≡ Some k) ⊎ ((k ≡ y) × (m ≡ length xs)) → (slice_get xs n ≡ Some k) ⊎ ((k ≡ y) × (n ≡ length xs)) → m ≡ n
    by (inl g) (inl h) = d m n k g h
    by (inl g) (inr (i, h)) = absurd (new m (g ∙ ap Some i))
    by (inr (i, g)) (inl h) = absurd (new n (h ∙ ap Some i))
    by (inr (i, g)) (inr (j, h)) = g ∙ sym h

-- a key behind others is none of them
not_before : (xs ys : List Key) (y : Key) → KeysAreDistinct (xs ++ y ∷ ys) → list_any (is_same y) xs ≡ false
not_before xs ys y d = by (list_any (is_same y) xs) refl
  where
    none : (n : ℕ) → n + 0 ≡ n
    none n = omega arith

    own : slice_get (xs ++ y ∷ ys) (length xs) ≡ Some y
    own = ap (slice_get (xs ++ y ∷ ys)) (sym (none (length xs))) ∙ at_right xs (y ∷ ys) 0

    same_place : (m n : ℕ) → m < n → m ≡ n → ⊥
    same_place m n e f = omega arith

    by : (b : Bool) → list_any (is_same y) xs ≡ b → b ≡ false
    by false e = refl
    by true e =
        let r = any_place xs y e in
        absurd (same_place r.0 (length xs) (slice_get_within xs r.0 y r.1) (d r.0 (length xs) y (at_left xs (y ∷ ys) r.0 y r.1) own))

-- keys without repeats, put behind others in turn
inserts : (xs ys : List Key) → KeysAreDistinct (xs ++ ys) → insert_all is_same xs ys ≡ xs ++ ys
inserts xs [] d = sym (append-nil xs)
inserts xs (y ∷ ys) d =
    let regroup = append_assoc xs (y ∷ []) ys in
    ap (λ (b : Bool). insert_all is_same (if b then xs else xs ++ y ∷ []) ys) (not_before xs ys y d)
    ∙ (inserts (xs ++ y ∷ []) ys (subst (λ (l : List Key). KeysAreDistinct l) (sym regroup) d) ∙ regroup)

-- No key is past yet.

pub none_phased : (past known : List Key) (newest : ℕ) → newest < 2 ^ 32 → past ≡ [] → known ≡ [] → ArePhased past known newest
none_phased past known newest low e f =
    subst (λ (p : List Key). ArePhased p known newest) (sym e) (subst (λ (l : List Key). ArePhased [] l newest) (sym f) (record { distinct = λ m n k g h. cc; before = tt; within = tt; low = low }))

-- Keys become past.

module _ (past known : List Key) (newest phase : ℕ) (phased : ArePhased past known newest) (later : newest < phase) (past1 known1 : List Key) (longer : past1 ≡ past ++ known) (none : known1 ≡ []) where
  pub passed_same : all_keys past1 known1 ≡ all_keys past known
  passed_same = ap (λ (l : List Key). past1 ++ l) none ∙ (append-nil past1 ∙ longer)

  passed_before : AllByRecursion (λ (k : Key). k.phase < phase) past1
  passed_before =
      subst (λ (l : List Key). AllByRecursion (λ (k : Key). k.phase < phase) l) (sym longer) (all_append _ past known (all_weaker _ _ (λ k e. below k.phase e) past phased.before) (all_weaker _ _ (λ k e. upto k.phase e) known phased.within))
    where
      below : (n : ℕ) → n < newest → n < phase
      below n e = omega arith

      upto : (n : ℕ) → n ≤ newest → n < phase
      upto n e = omega arith

  pub passed : phase < 2 ^ 32 → ArePhased past1 known1 phase
  passed small = record {
    distinct = subst (λ (l : List Key). KeysAreDistinct l) (sym passed_same) phased.distinct;
    before = passed_before;
    within = subst (λ (l : List Key). AllByRecursion (λ (k : Key). k.phase ≤ phase) l) (sym none) tt;
    low = small;
  }

  pub passed_turned : IsTurnedTo phase past1 phase
  passed_turned = record { before = passed_before; within = omega arith }

-- All keys are sought.

module _ (past known : List Key) (newest most : ℕ) (phased : ArePhased past known newest) (greatest : 2 ^ 32 ≡ most + 1) (past1 known1 : List Key) (none : past1 ≡ []) (all : known1 ≡ insert_all is_same (insert_all is_same [] past) known) where
  below_most : (limit n : ℕ) → limit ≡ most + 1 → n < limit → n ≤ most
  below_most limit n e f = omega arith

  most_below : (limit : ℕ) → limit ≡ most + 1 → most < limit
  most_below limit e = omega arith

  pub gathered_same : all_keys past1 known1 ≡ all_keys past known
  gathered_same =
      ap (λ (l : List Key). l ++ known1) none
      ∙ (all ∙ (ap (λ (l : List Key). insert_all is_same l known) (inserts [] past (left_distinct past known phased.distinct)) ∙ inserts past known phased.distinct))

  gathered_within : AllByRecursion (λ (k : Key). k.phase ≤ most) known1
  gathered_within =
      subst (λ (l : List Key). AllByRecursion (λ (k : Key). k.phase ≤ most) l) (sym (ap (λ (l : List Key). l ++ known1) (sym none) ∙ gathered_same))
      (all_append _ past known (all_weaker _ _ (λ k e. below k.phase e low) past phased.before) (all_weaker _ _ (λ k e. upto k.phase e low) known phased.within))
    where
      low : newest ≤ most
      low = below_most (2 ^ 32) newest greatest phased.low

      below : (n : ℕ) → n < newest → newest ≤ most → n ≤ most
      below n e f = omega arith

      upto : (n : ℕ) → n ≤ newest → newest ≤ most → n ≤ most
      upto n e f = omega arith

  pub gathered : ArePhased past1 known1 most
  gathered = record {
    distinct = subst (λ (l : List Key). KeysAreDistinct l) (sym gathered_same) phased.distinct;
    before = subst (λ (l : List Key). AllByRecursion (λ (k : Key). k.phase < most) l) (sym none) tt;
    within = gathered_within;
    low = most_below (2 ^ 32) greatest;
  }

  pub gathered_turned : IsTurnedToAll past1 most
  gathered_turned = λ phase e. record { before = subst (λ (l : List Key). AllByRecursion (λ (k : Key). k.phase < phase) l) (sym none) tt; within = below_most (2 ^ 32) phase greatest e }

-- A phase that is the newest, or that comes where nothing is past.

pub turned_newest : (phase newest : ℕ) (past known : List Key) → ArePhased past known newest → phase ≡ newest → IsTurnedTo phase past newest
turned_newest phase newest past known phased e = subst (λ (n : ℕ). IsTurnedTo n past newest) (sym e) (record { before = phased.before; within = omega arith })

pub turned_none : (phase newest : ℕ) (past : List Key) → length past ≡ 0 → phase ≤ newest → IsTurnedTo phase past newest
turned_none phase newest [] e low = record { before = tt; within = low }
turned_none phase newest (k ∷ past) e low = elim (never (length past) e) [ ]
  where
    never : (n : ℕ) → suc n ≡ 0 → ⊥
    never n e = omega arith

-- A key gets a number.

module _ (past known : List Key) (newest : ℕ) (key : Key) (phased : ArePhased past known newest) (turned : IsTurnedTo key.phase past newest) (known1 : List Key) (more : known1 ≡ insert_key is_same known key) where
  abbrev there : Bool
  there = list_any (is_same key) known

  numbered_all : all_keys past known1 ≡ (if there then all_keys past known else all_keys past known ++ key ∷ [])
  numbered_all = ap (λ (l : List Key). past ++ l) more ∙ by there
    where
      by : (b : Bool) → past ++ (if b then known else known ++ key ∷ []) ≡ (if b then past ++ known else (past ++ known) ++ key ∷ [])
      by true = refl
      by false = sym (append_assoc past known (key ∷ []))

  not_past : (n : ℕ) → slice_get past n ≡ Some key → ⊥
  not_past n e = never key.phase (all_there (λ (k : Key). k.phase < key.phase) past n key turned.before e)
    where
      never : (n : ℕ) → n < n → ⊥
      never n e = omega arith

  not_there : there ≡ false → (n : ℕ) → slice_get (all_keys past known) n ≡ Some key → ⊥
  not_there none n e = elim (either past known n key e) [ inl (m, h) ↦ not_past m h | inr (m, h) ↦ any_none known key m none h ]

  numbered_distinct : KeysAreDistinct (all_keys past known1)
  numbered_distinct = subst (λ (l : List Key). KeysAreDistinct l) (sym numbered_all) (by there refl)
    where
      by : (b : Bool) → there ≡ b → KeysAreDistinct (if b then all_keys past known else all_keys past known ++ key ∷ [])
      by true e = phased.distinct
      by false e = more_distinct (all_keys past known) key phased.distinct (not_there e)

  numbered_within : AllByRecursion (λ (k : Key). k.phase ≤ newest) known1
  numbered_within = subst (λ (l : List Key). AllByRecursion (λ (k : Key). k.phase ≤ newest) l) (sym more) (by there)
    where
      by : (b : Bool) → AllByRecursion (λ (k : Key). k.phase ≤ newest) (if b then known else known ++ key ∷ [])
      by true = phased.within
      by false = all_append _ known (key ∷ []) phased.within (turned.within, tt)

  pub numbered_phased : ArePhased past known1 newest
  numbered_phased = record { distinct = numbered_distinct; before = phased.before; within = numbered_within; low = phased.low }

  pub numbers : (old : List Key) → all_keys past known ≡ old → (place n : ℕ) (k : Key) → n ≡ length past + place → slice_get known1 place ≡ Some k → is_same key k ≡ true → NumbersKey old (all_keys past known1) key n
  numbers old same place n k e at alike =
      subst (λ (l : List Key). NumbersKey l (all_keys past known1) key n) same (record {
        extends = λ m x h. ap (λ (l : List Key). slice_get l m) numbered_all ∙ stays there (all_keys past known) key m x h;
        stands = ap (slice_get (all_keys past known1)) e ∙ (at_right past known1 place ∙ (at ∙ ap Some (sym (same_key key k alike))));
        only = only_there there (all_keys past known) _ (all_keys past known1) key refl numbered_all;
      })

-- nothing was added to the table
pub same_phased : (past known known1 : List Key) (newest : ℕ) → known1 ≡ known → ArePhased past known newest → ArePhased past known1 newest
same_phased past known known1 newest e phased = subst (λ (l : List Key). ArePhased past l newest) (sym e) phased

-- A key is sought.

pub found_known : (past known : List Key) (k : Key) (place n : ℕ) → n ≡ length past + place → FindsKeyNumber known k (Some place) → FindsKeyNumber (all_keys past known) k (Some n)
found_known past known k place n e at = ap (slice_get (past ++ known)) e ∙ (at_right past known place ∙ at)

pub found_past : (past known : List Key) (k : Key) (r : Option ℕ) → FindsKeyNumber known k None → FindsKeyNumber past k r → FindsKeyNumber (all_keys past known) k r
found_past past known k None f g = λ n e. elim (either past known n k e) [ inl (m, h) ↦ g m h | inr (m, h) ↦ f m h ]
found_past past known k (Some m) f g = at_left past known m k g

-- Paths in blocks: those of one copy of all outer loops follow one another.
use Rattle.std.proofs.Common.{◌≡◌, ℕ, zero, suc, ◌+◌, ◌-◌, ◌*◌, ◌/◌, ◌%◌, ◌<◌, ◌≤◌, ◌==◌, ◌&&◌, ◌||◌, Bool, true, false, if◌then◌else◌, List, [], ◌∷◌, ◌++◌, take, drop, refl, ap, sym, ◌∙◌, arith}
use Rattle.std.specs.Prelude.{cond}
use Rattle.std.specs.List.{AllByRecursion, filter, list_any}
use Rattle.std.specs.Set.{unique_keys, is_member}
use Rattle.std.proofs.lemmas.Bool.{eq-eqb, eqb-true, ne_eqb}
use Rattle.std.proofs.lemmas.Nat.{div-add-mod', div-mul-add}
use Rattle.std.proofs.Math.Nat.{div-div-eq-div-mul, mod-eq_of_lt, mod-lt, mul_comm}
use Rattle.dh_tree.proofs.BankElements.{column_exists, row_below}
use Rattle.dh_meaning.specs.Paths.{Path, copies_in, same_path}
use Rattle.dh_ports.specs.declared.copies.CopyLevel.{CopyLevel}
use Rattle.dh_ports.specs.Banks.{each_below, path_of_number}
use Rattle.dh_ports.specs.Copies.{stride_in, AreLevels}
use Rattle.dh_ports.proofs.PathNumbers.{each_more, each_same, path_round}

absurd : {A : Type 0} → ⊥ → A
absurd e = elim e [ ]

clash : (b : Bool) → b ≡ true → b ≡ false → ⊥
clash b e f = cc

and_parts : (a b : Bool) → (a && b) ≡ true → (a ≡ true) × (b ≡ true)
and_parts true b e = (refl, e)
and_parts false b e = cc

or_none : (b : Bool) → b ≡ (b || false)
or_none true = refl
or_none false = refl

pub same_self : (p : Path) → same_path p p ≡ true
same_self [] = refl
same_self (n ∷ p) = ap (λ b. b && same_path p p) (eq-eqb n n refl) ∙ same_self p

pub same_both : (p q : Path) → same_path p q ≡ true → p ≡ q
same_both [] [] e = refl
same_both [] (n ∷ q) e = cc
same_both (n ∷ p) [] e = cc
same_both (n ∷ p) (m ∷ q) e =
    let b = and_parts (n == m) (same_path p q) e in
    ap (λ k. k ∷ p) (eqb-true n m b.0) ∙ ap (λ l. m ∷ l) (same_both p q b.1)

-- Copies of the outer loops and of those inside them.

pub copies_split : (fs : List ℕ) (s : ℕ) → copies_in fs ≡ copies_in (take s fs) * copies_in (drop s fs)
copies_split [] zero = omega arith
copies_split [] (suc s) = omega arith
copies_split (f ∷ fs) zero = one (copies_in (f ∷ fs))
  where
    one : (n : ℕ) → n ≡ 1 * n
    one n = omega arith
copies_split (f ∷ fs) (suc s) = ap (λ n. f * n) (copies_split fs s) ∙ grouped f (copies_in (take s fs)) (copies_in (drop s fs))
  where
    grouped : (a b c : ℕ) → a * (b * c) ≡ a * b * c
    grouped a b c = omega arith

-- the copies of a path in the outer loops are the path of the number of its block
pub take_path : (fs : List ℕ) (s n : ℕ) → take s (path_of_number fs n) ≡ path_of_number (take s fs) (n / copies_in (drop s fs))
take_path [] zero n = refl
take_path [] (suc s) n = refl
take_path (f ∷ fs) zero n = refl
take_path (f ∷ fs) (suc s) n =
    ap (λ l. (n / copies_in fs) % f ∷ l) (take_path fs s n)
    ∙ ap (λ m. m % f ∷ path_of_number (take s fs) (n / copies_in (drop s fs)))
    (ap (λ c. n / c) (copies_split fs s ∙ mul_comm (copies_in (take s fs)) (copies_in (drop s fs))) ∙ sym (div-div-eq-div-mul n (copies_in (drop s fs)) (copies_in (take s fs))))

-- how many paths there are inside the outer loops is kept with the levels of all loops
pub stride_is : (picks : ℕ → Bool) (level : ℕ) (fs : List ℕ) (ls : List CopyLevel) (s count : ℕ) → AreLevels picks level fs ls → count ≡ copies_in fs → stride_in ls s count ≡ copies_in (drop s fs)
stride_is picks level [] [] zero count h e = e
stride_is picks level [] [] (suc s) count h e = e
stride_is picks level [] (l ∷ ls) s count h e = absurd h
stride_is picks level (f ∷ fs) [] s count h e = absurd h
stride_is picks level (f ∷ fs) (l ∷ ls) zero count h e = ap (λ (b : Bool). if b then count else stride_in ls (0 - 1) l.stride) (eq-eqb 0 0 refl) ∙ e
stride_is picks level (f ∷ fs) (l ∷ ls) (suc s) count h e =
    ap (λ (b : Bool). if b then count else stride_in ls (suc s - 1) l.stride) (ne_eqb (suc s) 0 (some s))
    ∙ (ap (λ k. stride_in ls k l.stride) (one_less s) ∙ stride_is picks (level + 1) fs ls s l.stride h.1 h.0.1.0)
  where
    some : (s : ℕ) → suc s ≡ 0 → ⊥
    some s e = omega (arith, e)

    one_less : (s : ℕ) → suc s - 1 ≡ s
    one_less s = omega arith

-- paths of two numbers that are one belong to one number
same_more : (f : ℕ) (fs : List ℕ) (m n : ℕ) → m < copies_in (f ∷ fs) → n < copies_in (f ∷ fs) → path_of_number (f ∷ fs) m ≡ path_of_number (f ∷ fs) n → ((j k : ℕ) → j < copies_in fs → k < copies_in fs → path_of_number fs j ≡ path_of_number fs k → j ≡ k) → m ≡ n
same_more f fs m n below under e inner =
    sym (div-add-mod' m (copies_in fs))
    ∙ (ap (λ q. q * copies_in fs + m % copies_in fs) first ∙ (ap (λ r. n / copies_in fs * copies_in fs + r) rest ∙ div-add-mod' n (copies_in fs)))
  where
    head_is : (a b : ℕ) (p q : Path) → a ∷ p ≡ b ∷ q → a ≡ b
    head_is a b p q h = cc

    tail_is : (a b : ℕ) (p q : Path) → a ∷ p ≡ b ∷ q → p ≡ q
    tail_is a b p q h = cc

    some : 1 ≤ copies_in fs
    some = column_exists m f (copies_in fs) below

    first : m / copies_in fs ≡ n / copies_in fs
    first = sym (mod-eq_of_lt (row_below m f (copies_in fs) below)) ∙ (head_is _ _ _ _ e ∙ mod-eq_of_lt (row_below n f (copies_in fs) under))

    short : (k : ℕ) → path_of_number fs k ≡ path_of_number fs (k % copies_in fs)
    short k = ap (path_of_number fs) (sym (div-add-mod' k (copies_in fs))) ∙ path_round fs (k / copies_in fs) (k % copies_in fs) some

    rest : m % copies_in fs ≡ n % copies_in fs
    rest = inner (m % copies_in fs) (n % copies_in fs) (mod-lt m {m = copies_in fs} some) (mod-lt n {m = copies_in fs} some) (sym (short m) ∙ (tail_is _ _ _ _ e ∙ short n))

pub path_same : (fs : List ℕ) (m n : ℕ) → m < copies_in fs → n < copies_in fs → path_of_number fs m ≡ path_of_number fs n → m ≡ n
path_same [] m n below under e = one m n below under
  where
    one : (m n : ℕ) → m < 1 → n < 1 → m ≡ n
    one m n a b = omega (arith, a, b)
path_same (f ∷ fs) m n below under e = same_more f fs m n below under e (path_same fs)

pub paths_apart : (fs : List ℕ) (m n : ℕ) → m < copies_in fs → n < copies_in fs → same_path (path_of_number fs m) (path_of_number fs n) ≡ (m == n)
paths_apart fs m n below under = by (m == n) (same_path (path_of_number fs m) (path_of_number fs n)) refl refl
  where
    by : (b c : Bool) → (m == n) ≡ b → same_path (path_of_number fs m) (path_of_number fs n) ≡ c → c ≡ b
    by true true e f = refl
    by false false e f = refl
    by true false e f = absurd (clash (same_path (path_of_number fs m) (path_of_number fs n)) (ap (λ k. same_path (path_of_number fs m) (path_of_number fs k)) (sym (eqb-true m n e)) ∙ same_self (path_of_number fs m)) f)
    by false true e f = absurd (clash (m == n) (eq-eqb m n (path_same fs m n below under (same_both (path_of_number fs m) (path_of_number fs n) f))) e)

-- Filters over blocks.

filter_join : {A : Type 0} (p : A → Bool) (xs ys : List A) → filter p (xs ++ ys) ≡ filter p xs ++ filter p ys
filter_join p [] ys = refl
filter_join p (x ∷ xs) ys = by (p x) (filter_join p xs ys)
  where
    by : (b : Bool) → filter p (xs ++ ys) ≡ filter p xs ++ filter p ys → cond b (x ∷ filter p (xs ++ ys)) (filter p (xs ++ ys)) ≡ cond b (x ∷ filter p xs) (filter p xs) ++ filter p ys
    by true h = ap (λ l. x ∷ l) h
    by false h = h

pub filter_both : {A : Type 0} (p q : A → Bool) (xs : List A) → filter (λ x. p x && q x) xs ≡ filter q (filter p xs)
filter_both p q [] = refl
filter_both p q (x ∷ xs) = by (p x) (filter_both p q xs)
  where
    by : (a : Bool) → filter (λ y. p y && q y) xs ≡ filter q (filter p xs) → cond (a && q x) (x ∷ filter (λ y. p y && q y) xs) (filter (λ y. p y && q y) xs) ≡ filter q (cond a (x ∷ filter p xs) (filter p xs))
    by true h = ap (λ l. cond (q x) (x ∷ l) l) h
    by false h = h

less_one : (k n : ℕ) → k < n → k < suc n
less_one k n e = omega (arith, e)

own_one : (n : ℕ) → n < suc n
own_one n = omega arith

only_one : {A : Type 0} (p : A → Bool) (x : A) (b : Bool) → p x ≡ b → filter p (x ∷ []) ≡ cond b (x ∷ []) []
only_one p x b e = ap (λ t. cond t (x ∷ []) []) e

append_none : {A : Type 0} (xs : List A) → xs ++ [] ≡ xs
append_none [] = refl
append_none (x ∷ xs) = ap (λ l. x ∷ l) (append_none xs)

filter_none : {A : Type 0} (p : A → Bool) (f : ℕ → A) (n : ℕ) → ((k : ℕ) → k < n → p (f k) ≡ false) → filter p (each_below f n) ≡ []
filter_none p f zero e = refl
filter_none p f (suc n) e =
    filter_join p (each_below f n) (f n ∷ [])
    ∙ (ap (λ l. l ++ filter p (f n ∷ [])) (filter_none p f n (λ k i. e k (less_one k n i))) ∙ only_one p (f n) false (e n (own_one n)))

filter_all : {A : Type 0} (p : A → Bool) (f : ℕ → A) (n : ℕ) → ((k : ℕ) → k < n → p (f k) ≡ true) → filter p (each_below f n) ≡ each_below f n
filter_all p f zero e = refl
filter_all p f (suc n) e =
    filter_join p (each_below f n) (f n ∷ [])
    ∙ (ap (λ l. l ++ filter p (f n ∷ [])) (filter_all p f n (λ k i. e k (less_one k n i))) ∙ ap (λ l. each_below f n ++ l) (only_one p (f n) true (e n (own_one n))))

-- those of one block, where a test says of each number which block it is of
pub filter_block : {A : Type 0} (p : A → Bool) (f : ℕ → A) (groups stride group : ℕ) → 1 ≤ stride → group < groups → ((n : ℕ) → n < groups * stride → p (f n) ≡ ((n / stride) == group))
    → filter p (each_below f (groups * stride)) ≡ each_below (λ k. f (group * stride + k)) stride
filter_block p f groups stride group some below told =
    ap (λ n. filter p (each_below f n)) (split groups group stride below)
    ∙ (ap (filter p) (each_more f (group * stride + stride) ((groups - suc group) * stride) ∙ ap (λ l. l ++ each_below (λ k. f (group * stride + stride + k)) ((groups - suc group) * stride)) (each_more f (group * stride) stride))
    ∙ (filter_join p (each_below f (group * stride) ++ each_below (λ k. f (group * stride + k)) stride) (each_below (λ k. f (group * stride + stride + k)) ((groups - suc group) * stride))
    ∙ (ap (λ l. filter p (each_below f (group * stride) ++ each_below (λ k. f (group * stride + k)) stride) ++ l) (filter_none p (λ k. f (group * stride + stride + k)) ((groups - suc group) * stride) behind)
    ∙ (append_none (filter p (each_below f (group * stride) ++ each_below (λ k. f (group * stride + k)) stride))
    ∙ (filter_join p (each_below f (group * stride)) (each_below (λ k. f (group * stride + k)) stride)
    ∙ (ap (λ l. l ++ filter p (each_below (λ k. f (group * stride + k)) stride)) (filter_none p f (group * stride) before) ∙ filter_all p (λ k. f (group * stride + k)) stride here))))))
  where
    last_part : (d : ℕ) (g s : ℕ) → (g + suc d) * s ≡ g * s + s + d * s
    last_part d g s = omega arith

    left_of : (n g : ℕ) → g < n → n ≡ g + suc (n - suc g)
    left_of n g e = omega (arith, e)

    split : (n g s : ℕ) → g < n → n * s ≡ g * s + s + (n - suc g) * s
    split n g s e = ap (λ m. m * s) (left_of n g e) ∙ last_part (n - suc g) g s

    within : (a b c k : ℕ) → a ≡ b + c → k < c → b + k < a
    within a b c k e f = omega (arith, e, f)

    within_first : (a b c d k : ℕ) → a ≡ b + c + d → k < b → k < a
    within_first a b c d k e f = omega (arith, e, f)

    within_second : (a b c d k : ℕ) → a ≡ b + c + d → k < c → b + k < a
    within_second a b c d k e f = omega (arith, e, f)

    never_before : (k r : ℕ) → group * stride + r ≡ k → k < group * stride → ⊥
    never_before k r e f = omega (arith, e, f)

    before : (k : ℕ) → k < group * stride → p (f k) ≡ false
    before k i =
        told k (within_first (groups * stride) (group * stride) stride ((groups - suc group) * stride) k (split groups group stride below) i)
        ∙ ne_eqb (k / stride) group (λ e. never_before k (k % stride) (ap (λ q. q * stride + k % stride) (sym e) ∙ div-add-mod' k stride) i)

    here : (k : ℕ) → k < stride → p (f (group * stride + k)) ≡ true
    here k i =
        told (group * stride + k) (within_second (groups * stride) (group * stride) stride ((groups - suc group) * stride) k (split groups group stride below) i)
        ∙ eq-eqb ((group * stride + k) / stride) group (div-mul-add group stride k i)

    never_behind : (n k r m : ℕ) → n ≡ m + stride + k → r < stride → m + r ≡ n → ⊥
    never_behind n k r m e f g = omega (arith, e, f, g)

    behind : (k : ℕ) → k < (groups - suc group) * stride → p (f (group * stride + stride + k)) ≡ false
    behind k i =
        told (group * stride + stride + k) (within (groups * stride) (group * stride + stride) ((groups - suc group) * stride) k (split groups group stride below) i)
        ∙ ne_eqb ((group * stride + stride + k) / stride) group (λ e.
        never_behind (group * stride + stride + k) k ((group * stride + stride + k) % stride) (group * stride) refl (mod-lt (group * stride + stride + k) {m = stride} some)
        (ap (λ q. q * stride + (group * stride + stride + k) % stride) (sym e) ∙ div-add-mod' (group * stride + stride + k) stride))

-- Distinct paths of blocks.

any_join : {A : Type 0} (t : A → Bool) (xs ys : List A) → list_any t (xs ++ ys) ≡ (list_any t xs || list_any t ys)
any_join t [] ys = refl
any_join t (x ∷ xs) ys = ap (λ b. t x || b) (any_join t xs ys) ∙ grouped (t x) (list_any t xs) (list_any t ys)
  where
    grouped : (a b c : Bool) → (a || (b || c)) ≡ ((a || b) || c)
    grouped true b c = refl
    grouped false b c = refl

-- what none of the others is stays before them
unique_join : (xs ys : List Path) → ((x : Path) → list_any (λ z. same_path z x) xs ≡ true → is_member same_path ys x ≡ false) → unique_keys same_path (xs ++ ys) ≡ unique_keys same_path xs ++ unique_keys same_path ys
unique_join [] ys apart = refl
unique_join (x ∷ xs) ys apart =
    ap (λ b. cond b (unique_keys same_path (xs ++ ys)) (x ∷ unique_keys same_path (xs ++ ys))) (any_join (same_path x) xs ys ∙ (ap (λ b. list_any (same_path x) xs || b) (apart x (first x xs)) ∙ sym (or_none (list_any (same_path x) xs))))
    ∙ by (list_any (same_path x) xs) (unique_join xs ys (λ y h. apart y (later x y xs h)))
  where
    first : (x : Path) (xs : List Path) → (same_path x x || list_any (λ z. same_path z x) xs) ≡ true
    first x xs = ap (λ b. b || list_any (λ z. same_path z x) xs) (same_self x)

    later : (x y : Path) (xs : List Path) → list_any (λ z. same_path z y) xs ≡ true → (same_path x y || list_any (λ z. same_path z y) xs) ≡ true
    later x y xs h = ap (λ b. same_path x y || b) h ∙ always (same_path x y)
      where
        always : (b : Bool) → (b || true) ≡ true
        always true = refl
        always false = refl

    by : (b : Bool) → unique_keys same_path (xs ++ ys) ≡ unique_keys same_path xs ++ unique_keys same_path ys
        → cond b (unique_keys same_path (xs ++ ys)) (x ∷ unique_keys same_path (xs ++ ys)) ≡ cond b (unique_keys same_path xs) (x ∷ unique_keys same_path xs) ++ unique_keys same_path ys
    by true h = h
    by false h = ap (λ l. x ∷ l) h

all_last : {A : Type 0} (P : A → Type 0) (xs : List A) (x : A) → AllByRecursion P xs → P x → AllByRecursion P (xs ++ x ∷ [])
all_last P [] x h k = (k, tt)
all_last P (y ∷ xs) x h k = (h.0, all_last P xs x h.1 k)

all_each : (q : Path) (n : ℕ) → AllByRecursion (λ x. x ≡ q) (each_below (λ k. q) n)
all_each q zero = tt
all_each q (suc n) = all_last (λ x. x ≡ q) (each_below (λ k. q) n) q (all_each q n) refl

unique_same : (q : Path) (xs : List Path) → AllByRecursion (λ x. x ≡ q) xs → unique_keys same_path (xs ++ q ∷ []) ≡ q ∷ []
unique_same q [] h = refl
unique_same q (x ∷ xs) h =
    ap (λ b. cond b (unique_keys same_path (xs ++ q ∷ [])) (x ∷ unique_keys same_path (xs ++ q ∷ [])))
    (any_join (same_path x) xs (q ∷ []) ∙ (ap (λ b. list_any (same_path x) xs || (b || false)) (ap (λ y. same_path y q) h.0 ∙ same_self q) ∙ always (list_any (same_path x) xs)))
    ∙ unique_same q xs h.1
  where
    always : (b : Bool) → (b || true) ≡ true
    always true = refl
    always false = refl

unique_const : (q : Path) (n : ℕ) → 1 ≤ n → unique_keys same_path (each_below (λ k. q) n) ≡ q ∷ []
unique_const q zero e = absurd (none e)
  where
    none : 1 ≤ 0 → ⊥
    none e = omega (arith, e)
unique_const q (suc n) e = unique_same q (each_below (λ k. q) n) (all_each q n)

any_none : {A : Type 0} (t : A → Bool) (f : ℕ → A) (n : ℕ) → ((k : ℕ) → k < n → t (f k) ≡ false) → list_any t (each_below f n) ≡ false
any_none t f zero e = refl
any_none t f (suc n) e =
    any_join t (each_below f n) (f n ∷ [])
    ∙ (ap (λ b. b || (t (f n) || false)) (any_none t f n (λ k i. e k (less_one k n i))) ∙ ap (λ b. b || false) (e n (own_one n)))

any_found : {A : Type 0} (t : A → Bool) (f : ℕ → A) (n : ℕ) → list_any t (each_below f n) ≡ true → (k : ℕ) × ((k < n) × (t (f k) ≡ true))
any_found t f zero e = absurd (clash false e refl)
any_found t f (suc n) e = by (list_any t (each_below f n)) (t (f n)) refl refl (sym (any_join t (each_below f n) (f n ∷ [])) ∙ e) (any_found t f n)
  where
    by : (a b : Bool) → list_any t (each_below f n) ≡ a → t (f n) ≡ b → (list_any t (each_below f n) || (t (f n) || false)) ≡ true → (list_any t (each_below f n) ≡ true → (k : ℕ) × ((k < n) × (t (f k) ≡ true))) → (k : ℕ) × ((k < suc n) × (t (f k) ≡ true))
    by true b g h e rest = let found = rest g in (found.0, (less_one found.0 n found.1.0, found.1.1))
    by false true g h e rest = (n, (own_one n, h))
    by false false g h e rest = absurd (clash (list_any t (each_below f n) || (t (f n) || false)) e (ap (λ a. a || (t (f n) || false)) g ∙ ap (λ b. b || false) h))

-- the blocks of all paths have one path each
pub blocks_unique : (fs : List ℕ) (stride groups : ℕ) → 1 ≤ stride → groups ≤ copies_in fs → unique_keys same_path (each_below (λ k. path_of_number fs (k / stride)) (groups * stride)) ≡ each_below (path_of_number fs) groups
blocks_unique fs stride zero some few = ap (λ n. unique_keys same_path (each_below (λ k. path_of_number fs (k / stride)) n)) (none stride)
  where
    none : (s : ℕ) → 0 * s ≡ 0
    none s = omega arith
blocks_unique fs stride (suc group) some few =
    ap (λ n. unique_keys same_path (each_below (λ k. path_of_number fs (k / stride)) n)) (next group stride)
    ∙ (ap (unique_keys same_path)
    (each_more (λ k. path_of_number fs (k / stride)) (group * stride) stride ∙ ap (λ l. each_below (λ k. path_of_number fs (k / stride)) (group * stride) ++ l) (each_same (λ k. path_of_number fs ((group * stride + k) / stride)) (λ k. path_of_number fs group) stride (λ k i. ap (path_of_number fs) (div-mul-add group stride k i))))
    ∙ (unique_join (each_below (λ k. path_of_number fs (k / stride)) (group * stride)) (each_below (λ k. path_of_number fs group) stride) apart
    ∙ (ap (λ l. l ++ unique_keys same_path (each_below (λ k. path_of_number fs group) stride)) (blocks_unique fs stride group some (before group (copies_in fs) few)) ∙ ap (λ l. each_below (path_of_number fs) group ++ l) (unique_const (path_of_number fs group) stride some))))
  where
    next : (g s : ℕ) → suc g * s ≡ g * s + s
    next g s = omega arith

    before : (g n : ℕ) → suc g ≤ n → g ≤ n
    before g n e = omega (arith, e)

    below : (m g n : ℕ) → m < g → suc g ≤ n → m < n
    below m g n e f = omega (arith, e, f)

    under : (g n : ℕ) → suc g ≤ n → g < n
    under g n e = omega (arith, e)

    other : (m g : ℕ) → m < g → m ≡ g → ⊥
    other m g e f = omega (arith, e, f)

    apart : (x : Path) → list_any (λ z. same_path z x) (each_below (λ k. path_of_number fs (k / stride)) (group * stride)) ≡ true → is_member same_path (each_below (λ k. path_of_number fs group) stride) x ≡ false
    apart x h =
        let found = any_found (λ z. same_path z x) (λ k. path_of_number fs (k / stride)) (group * stride) h in
        let less = row_below found.0 group stride found.1.0 in
        any_none (same_path x) (λ k. path_of_number fs group) stride (λ k i.
        ap (λ y. same_path y (path_of_number fs group)) (sym (same_both (path_of_number fs (found.0 / stride)) x found.1.1))
        ∙ (paths_apart fs (found.0 / stride) group (below (found.0 / stride) group (copies_in fs) less few) (under group (copies_in fs) few) ∙ ne_eqb (found.0 / stride) group (other (found.0 / stride) group less)))

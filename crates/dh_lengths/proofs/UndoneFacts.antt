-- The levels of variables as functions: one change more, put back, set again and joined.
use Rattle.std.proofs.Common.{◌≡◌, ℕ, zero, suc, ◌+◌, ◌-◌, ◌<◌, ◌≤◌, ◌==◌, ◌||◌, max, Bool, true, false, if◌then◌else◌, List, [], ◌∷◌, ◌++◌, length, take, drop, get_or, map, refl, ap, sym, ◌∙◌, ◌⊎◌, inl, inr, subst, arith}
use mathlib.Core.Path.{fun_ext}
use Rattle.std.proofs.lemmas.Bool.{cases_Bool, eqb-true, eq-eqb}
use Rattle.std.proofs.Math.Seq.{take-suc}
use Rattle.dh_events.specs.Tables.{with_number}
use Rattle.dh_events.proofs.Turns.{at_place}
use Rattle.dh_meaning.specs.Levels.{with_value}
use Rattle.dh_lengths.specs.declared.undoing.LevelMark.{LevelMark}
use Rattle.dh_lengths.specs.Undone.{mark, undone_levels, redone, marks_with_levels, joined_all, has_mark}

absurd : {A : Type 0} → ⊥ → A
absurd e = elim e [ ]

pub number_swap : (m n : ℕ) → (m == n) ≡ (n == m)
number_swap m n = by_test (m == n) (n == m) refl refl
  where
    by_test : (a b : Bool) → (m == n) ≡ a → (n == m) ≡ b → a ≡ b
    by_test true true e f = refl
    by_test false false e f = refl
    by_test true false e f = sym (eq-eqb n m (sym (eqb-true m n e))) ∙ f
    by_test false true e f = sym (sym (eq-eqb m n (sym (eqb-true n m f))) ∙ e)

-- one number of a function changed, said both ways
pub one_changed : (f : ℕ → ℕ) (e value : ℕ) → with_number f e value ≡ with_value f e value
one_changed f e value = fun_ext (λ n. ap (λ b. if b then value else f n) (number_swap e n))

-- Loops.

pub redo_turn : (ms : List LevelMark) (i : ℕ) (d : LevelMark) (f g all : ℕ → ℕ) → i < length ms → g ≡ with_number f (get_or ms i d).entity (get_or ms i d).level → redone (drop i ms) f ≡ all → redone (drop (i + 1) ms) g ≡ all
redo_turn ms i d f g all within set so = ap (λ h. redone (drop (i + 1) ms) h) set ∙ (sym (ap (λ l. redone l f) (at_place ms i d within)) ∙ so)

pub join_turn : (test : ℕ) (ms : List LevelMark) (i : ℕ) (d : LevelMark) (f g all : ℕ → ℕ) → i < length ms → g ≡ with_number f (get_or ms i d).entity (max test (max (f (get_or ms i d).entity) (get_or ms i d).level)) → joined_all test (drop i ms) f ≡ all
    → joined_all test (drop (i + 1) ms) g ≡ all
join_turn test ms i d f g all within set so = ap (λ h. joined_all test (drop (i + 1) ms) h) set ∙ (sym (ap (λ l. joined_all test l f) (at_place ms i d within)) ∙ so)

undone_one : (ms : List LevelMark) (m : LevelMark) (f : ℕ → ℕ) → undone_levels (ms ++ m ∷ []) f ≡ undone_levels ms (with_number f m.entity m.level)
undone_one [] m f = refl
undone_one (x ∷ ms) m f = ap (λ h. with_number h x.entity x.level) (undone_one ms m f)

back_one : (i : ℕ) → 0 < i → suc (i - 1) ≡ i
back_one i e = omega (arith, e)

before_end : (i n : ℕ) → 0 < i → i ≤ n → i - 1 < n
before_end i n e f = omega (arith, e, f)

pub undo_turn : (ms : List LevelMark) (i : ℕ) (d : LevelMark) (f g all : ℕ → ℕ) → 0 < i → i ≤ length ms → g ≡ with_number f (get_or ms (i - 1) d).entity (get_or ms (i - 1) d).level → undone_levels (take i ms) f ≡ all → undone_levels (take (i - 1) ms) g ≡ all
undo_turn ms i d f g all some within set so =
    ap (λ h. undone_levels (take (i - 1) ms) h) set
    ∙ (sym (undone_one (take (i - 1) ms) (get_or ms (i - 1) d) f)
    ∙ (ap (λ l. undone_levels l f) (sym (take-suc ms (i - 1) d (before_end i (length ms) some within)) ∙ ap (λ n. take n ms) (back_one i some)) ∙ so))

-- Facts.

pub undone_both : (xs ys : List LevelMark) (f : ℕ → ℕ) → undone_levels (xs ++ ys) f ≡ undone_levels xs (undone_levels ys f)
undone_both [] ys f = refl
undone_both (x ∷ xs) ys f = ap (λ h. with_number h x.entity x.level) (undone_both xs ys f)

or_assoc : (a b c : Bool) → (a || (b || c)) ≡ ((a || b) || c)
or_assoc true b c = refl
or_assoc false b c = refl

pub marks_both : (e : ℕ) (xs ys : List LevelMark) → has_mark e (xs ++ ys) ≡ (has_mark e xs || has_mark e ys)
marks_both e [] ys = refl
marks_both e (x ∷ xs) ys = ap (λ b. (x.entity == e) || b) (marks_both e xs ys) ∙ or_assoc (x.entity == e) (has_mark e xs) (has_mark e ys)

-- a change put back
pub put_back : (f g : ℕ → ℕ) (e level : ℕ) → f ≡ with_value g e level → with_number f e (g e) ≡ g
put_back f g e level is = ap (λ h. with_number h e (g e)) is ∙ fun_ext (λ n. by_test n (cases_Bool (e == n)))
  where
    by_test : (n : ℕ) → ((e == n) ≡ true) ⊎ ((e == n) ≡ false) → (if e == n then g e else (if n == e then level else g n)) ≡ g n
    by_test n (inl t) = ap (λ b. if b then g e else (if n == e then level else g n)) t ∙ ap g (eqb-true e n t)
    by_test n (inr t) = ap (λ b. if b then g e else (if n == e then level else g n)) t ∙ ap (λ b. if b then level else g n) (number_swap n e ∙ t)

-- what is marked is as it was, whatever it is now; what is not is as it is now
pub undone_there : (e : ℕ) (ms : List LevelMark) (f g : ℕ → ℕ) → has_mark e ms ≡ true → undone_levels ms f e ≡ undone_levels ms g e
undone_there e [] f g h = absurd (untrue h)
  where
    untrue : false ≡ true → ⊥
    untrue x = cc
undone_there e (m ∷ ms) f g h = by_test (m.entity == e) h (undone_there e ms f g)
  where
    by_test : (b : Bool) → (b || has_mark e ms) ≡ true → (has_mark e ms ≡ true → undone_levels ms f e ≡ undone_levels ms g e) → (if b then m.level else undone_levels ms f e) ≡ (if b then m.level else undone_levels ms g e)
    by_test true h rest = refl
    by_test false h rest = rest h

pub undone_none : (e : ℕ) (ms : List LevelMark) (f : ℕ → ℕ) → has_mark e ms ≡ false → undone_levels ms f e ≡ f e
undone_none e [] f h = refl
undone_none e (m ∷ ms) f h = by_test (m.entity == e) h (undone_none e ms f)
  where
    by_test : (b : Bool) → (b || has_mark e ms) ≡ false → (has_mark e ms ≡ false → undone_levels ms f e ≡ f e) → (if b then m.level else undone_levels ms f e) ≡ f e
    by_test true h rest = absurd (untrue h)
      where
        untrue : true ≡ false → ⊥
        untrue x = cc
    by_test false h rest = rest h

-- set again
redone_at : (e : ℕ) (ms : List LevelMark) (v f : ℕ → ℕ) → redone (marks_with_levels v ms) f e ≡ (if has_mark e ms then v e else f e)
redone_at e [] v f = refl
redone_at e (m ∷ ms) v f = redone_at e ms v (with_number f m.entity (v m.entity)) ∙ by_test (cases_Bool (m.entity == e))
  where
    by_test : ((m.entity == e) ≡ true) ⊎ ((m.entity == e) ≡ false) → (if has_mark e ms then v e else (if m.entity == e then v m.entity else f e)) ≡ (if (m.entity == e) || has_mark e ms then v e else f e)
    by_test (inl t) =
        ap (λ b. if has_mark e ms then v e else (if b then v m.entity else f e)) t
        ∙ (ap (λ n. if has_mark e ms then v e else v n) (eqb-true m.entity e t) ∙ (either (has_mark e ms) (v e) ∙ sym (ap (λ b. if b || has_mark e ms then v e else f e) t)))
      where
        either : (b : Bool) (n : ℕ) → (if b then n else n) ≡ n
        either true n = refl
        either false n = refl
    by_test (inr t) = ap (λ b. if has_mark e ms then v e else (if b then v m.entity else f e)) t ∙ sym (ap (λ b. if b || has_mark e ms then v e else f e) t)

-- what was put back is set again
pub redone_all : (ms : List LevelMark) (v : ℕ → ℕ) → redone (marks_with_levels v ms) (undone_levels ms v) ≡ v
redone_all ms v = fun_ext (λ e. redone_at e ms v (undone_levels ms v) ∙ by_test e (cases_Bool (has_mark e ms)))
  where
    by_test : (e : ℕ) → ((has_mark e ms) ≡ true) ⊎ ((has_mark e ms) ≡ false) → (if has_mark e ms then v e else undone_levels ms v e) ≡ v e
    by_test e (inl t) = ap (λ b. if b then v e else undone_levels ms v e) t
    by_test e (inr t) = ap (λ b. if b then v e else undone_levels ms v e) t ∙ undone_none e ms v t

-- joined
twice : (t a b : ℕ) → max t (max (max t (max a b)) b) ≡ max t (max a b)
twice t a b = grind arith

joined_at : (test e : ℕ) (ms : List LevelMark) (v f : ℕ → ℕ) → joined_all test (marks_with_levels v ms) f e ≡ (if has_mark e ms then max test (max (f e) (v e)) else f e)
joined_at test e [] v f = refl
joined_at test e (m ∷ ms) v f = joined_at test e ms v (with_number f m.entity (max test (max (f m.entity) (v m.entity)))) ∙ by_test (cases_Bool (m.entity == e))
  where
    here : ℕ
    here = max test (max (f m.entity) (v m.entity))

    by_test : ((m.entity == e) ≡ true) ⊎ ((m.entity == e) ≡ false)
        → (if has_mark e ms then max test (max (if m.entity == e then max test (max (f m.entity) (v m.entity)) else f e) (v e)) else (if m.entity == e then max test (max (f m.entity) (v m.entity)) else f e))
        ≡ (if (m.entity == e) || has_mark e ms then max test (max (f e) (v e)) else f e)
    by_test (inl t) =
        ap (λ b. if has_mark e ms then max test (max (if b then max test (max (f m.entity) (v m.entity)) else f e) (v e)) else (if b then max test (max (f m.entity) (v m.entity)) else f e)) t
        ∙ (ap (λ n. if has_mark e ms then max test (max (max test (max (f n) (v n))) (v e)) else max test (max (f n) (v n))) (eqb-true m.entity e t)
        ∙ (again (has_mark e ms) ∙ sym (ap (λ b. if b || has_mark e ms then max test (max (f e) (v e)) else f e) t)))
      where
        again : (b : Bool) → (if b then max test (max (max test (max (f e) (v e))) (v e)) else max test (max (f e) (v e))) ≡ max test (max (f e) (v e))
        again true = twice test (f e) (v e)
        again false = refl
    by_test (inr t) =
        ap (λ b. if has_mark e ms then max test (max (if b then max test (max (f m.entity) (v m.entity)) else f e) (v e)) else (if b then max test (max (f m.entity) (v m.entity)) else f e)) t
        ∙ sym (ap (λ b. if b || has_mark e ms then max test (max (f e) (v e)) else f e) t)

-- behind both arms: what one of them set has the levels of both and of the test
pub joined_both : (test : ℕ) (xs ys : List LevelMark) (before first second : ℕ → ℕ) → undone_levels xs first ≡ before
    → (e : ℕ) → joined_all test (marks_with_levels second (xs ++ ys)) first e ≡ (if has_mark e xs || has_mark e ys then max test (max (first e) (second e)) else before e)
joined_both test xs ys before first second undoes e = joined_at test e (xs ++ ys) second first ∙ by_test (cases_Bool (has_mark e (xs ++ ys)))
  where
    neither : (a b : Bool) → (a || b) ≡ false → a ≡ false
    neither true b h = cc
    neither false b h = refl

    by_test : (has_mark e (xs ++ ys) ≡ true) ⊎ (has_mark e (xs ++ ys) ≡ false)
        → (if has_mark e (xs ++ ys) then max test (max (first e) (second e)) else first e) ≡ (if has_mark e xs || has_mark e ys then max test (max (first e) (second e)) else before e)
    by_test (inl t) =
        ap (λ b. if b then max test (max (first e) (second e)) else first e) t ∙ sym (ap (λ b. if b then max test (max (first e) (second e)) else before e) (sym (marks_both e xs ys) ∙ t))
    by_test (inr t) =
        ap (λ b. if b then max test (max (first e) (second e)) else first e) t
        ∙ (sym (undone_none e xs first (neither (has_mark e xs) (has_mark e ys) (sym (marks_both e xs ys) ∙ t))) ∙ (ap (λ h. h e) undoes
        ∙ sym (ap (λ b. if b then max test (max (first e) (second e)) else before e) (sym (marks_both e xs ys) ∙ t))))

-- and both together put back what was before
pub both_undone : (xs ys : List LevelMark) (before first second joined : ℕ → ℕ) → undone_levels xs first ≡ before → undone_levels ys second ≡ before
    → ((e : ℕ) → (has_mark e xs || has_mark e ys) ≡ false → joined e ≡ before e) → undone_levels (xs ++ ys) joined ≡ before
both_undone xs ys before first second joined one two rest = undone_both xs ys joined ∙ fun_ext (λ e. by_first e (cases_Bool (has_mark e xs)))
  where
    by_second : (e : ℕ) → has_mark e xs ≡ false → (has_mark e ys ≡ true) ⊎ (has_mark e ys ≡ false) → undone_levels ys joined e ≡ before e
    by_second e f (inl t) = undone_there e ys joined second t ∙ ap (λ h. h e) two
    by_second e f (inr t) = undone_none e ys joined t ∙ rest e (ap (λ b. b || has_mark e ys) f ∙ t)

    by_first : (e : ℕ) → (has_mark e xs ≡ true) ⊎ (has_mark e xs ≡ false) → undone_levels xs (undone_levels ys joined) e ≡ before e
    by_first e (inl t) = undone_there e xs (undone_levels ys joined) first t ∙ ap (λ h. h e) one
    by_first e (inr t) = undone_none e xs (undone_levels ys joined) t ∙ by_second e t (cases_Bool (has_mark e ys))

-- The first reads of classes, class by class, as reads are met and arms begin and end.
use Rattle.std.proofs.Common.{◌≡◌, ℕ, zero, suc, ◌+◌, ◌<◌, ◌≤◌, ◌==◌, Bool, true, false, if◌then◌else◌, List, [], ◌∷◌, ◌++◌, length, drop, get_or, reverse, slice_set, arith, refl, ap, sym, ◌∙◌, ◌⊎◌, inl, inr}
use Rattle.std.specs.Prelude.{Option, Some, None, slice_index_or, Vec}
use Rattle.std.specs.Global.{Global}
use Rattle.std.proofs.lemmas.Bool.{cases_Bool, eqb-true, eq-eqb}
use Rattle.std.proofs.lemmas.List.{reverse-append, get_or-set_same, get_or-set_other, set_past}
use Rattle.dh_events.proofs.Turns.{at_item}
use Rattle.dh_lengths.specs.LiveFirsts.{FirstRead, first_read, number_or_else, met_read, opened, arm_closed, closed_in, live_first, cleared, bases, first_read_from}

absurd : {A : Type 0} → ⊥ → A
absurd e = elim e [ ]

other_number : (a b : ℕ) → (a == b) ≡ false → b ≡ a → ⊥
other_number a b f i = let g : (a == b) ≡ true = eq-eqb a b (sym i) in cc

-- the read of a class is another one
pub first_set : (xs : List (Option ℕ)) (k : ℕ) (v : Option ℕ) (m : ℕ) → k < length xs → live_first (slice_set xs k v) m ≡ (if k == m then v else live_first xs m)
first_set xs k v m within = by_test (cases_Bool (k == m))
  where
    by_test : ((k == m) ≡ true) ⊎ ((k == m) ≡ false) → live_first (slice_set xs k v) m ≡ (if k == m then v else live_first xs m)
    by_test (inl e) = ap (λ j. live_first (slice_set xs k v) j) (sym (eqb-true k m e)) ∙ (get_or-set_same xs k v None within ∙ sym (ap (λ b. if b then v else live_first xs m) e))
    by_test (inr e) = get_or-set_other xs k m v None (λ i. absurd (other_number k m e i)) ∙ sym (ap (λ b. if b then v else live_first xs m) e)

-- classes that are not there have no read
pub first_past : (xs : List (Option ℕ)) (m : ℕ) → length xs ≤ m → live_first xs m ≡ None
first_past [] m h = refl
first_past (x ∷ xs) zero h = absurd (never _ h)
  where
    never : (n : ℕ) → suc n ≤ 0 → ⊥
    never n h = omega (arith, h)
first_past (x ∷ xs) (suc m) h = first_past xs m (omega (arith, h))

-- one class more is forgotten
pub forget_turn : (xs ys : List (Option ℕ)) (classes : List ℕ) (i c class : ℕ) (before : Option ℕ) → i < length classes → c ≡ get_or classes i c
    → live_first ys class ≡ (if c == class then None else live_first xs class) → cleared (drop i classes) class (live_first xs class) ≡ before → cleared (drop (i + 1) classes) class (live_first ys class) ≡ before
forget_turn xs ys classes i c class before within is set so =
    ap (λ o. cleared (drop (i + 1) classes) class o) set ∙ (sym (ap (λ l. cleared l class (live_first xs class)) (at_item classes i c within is)) ∙ so)

-- a class that is not there is forgotten already
pub forget_none : (xs : List (Option ℕ)) (c class : ℕ) → length xs ≤ c → live_first xs class ≡ (if c == class then None else live_first xs class)
forget_none xs c class past = by_test (cases_Bool (c == class))
  where
    by_test : ((c == class) ≡ true) ⊎ ((c == class) ≡ false) → live_first xs class ≡ (if c == class then None else live_first xs class)
    by_test (inl e) = ap (live_first xs) (sym (eqb-true c class e)) ∙ (first_past xs c past ∙ sym (ap (λ b. if b then None else live_first xs class) e))
    by_test (inr e) = sym (ap (λ b. if b then None else live_first xs class) e)

-- nothing stands in no list
pub none_more : (xs : List (Option ℕ)) (class : ℕ) → live_first (xs ++ None ∷ []) class ≡ live_first xs class
none_more [] zero = refl
none_more [] (suc class) = refl
none_more (x ∷ xs) zero = refl
none_more (x ∷ xs) (suc class) = none_more xs class

cleared_append : (xs ys : List ℕ) (class : ℕ) (o : Option ℕ) → cleared (xs ++ ys) class o ≡ cleared ys class (cleared xs class o)
cleared_append [] ys class o = refl
cleared_append (x ∷ xs) ys class o = cleared_append xs ys class (if x == class then None else o)

none_either : (b : Bool) → ◌≡◌ {A = Option ℕ} (if b then None else None) None
none_either true = refl
none_either false = refl

cleared_none : (xs : List ℕ) (class : ℕ) → cleared xs class None ≡ None
cleared_none [] class = refl
cleared_none (x ∷ xs) class = ap (cleared xs class) (none_either (x == class)) ∙ cleared_none xs class

-- a read of a class of which there is none yet
pub read_first : (firsts : List (Option ℕ)) (log : List ℕ) (outer : List (Vec ℕ Global)) (c number m : ℕ) → c < length firsts → live_first firsts c ≡ None
    → first_read_from (slice_set firsts c (Some number)) (log ++ c ∷ []) outer m ≡ met_read c number m (first_read_from firsts log outer m)
read_first firsts log outer c number m within none = by_test (cases_Bool (c == m))
  where
    now : live_first (slice_set firsts c (Some number)) m ≡ (if c == m then Some number else live_first firsts m)
    now = first_set firsts c (Some number) m within

    base_of : (o : Option ℕ) → cleared (log ++ c ∷ []) m o ≡ (if c == m then None else cleared log m o)
    base_of o = cleared_append log (c ∷ []) m o

    by_test : ((c == m) ≡ true) ⊎ ((c == m) ≡ false) → first_read_from (slice_set firsts c (Some number)) (log ++ c ∷ []) outer m ≡ met_read c number m (first_read_from firsts log outer m)
    by_test (inl e) =
        let here : live_first firsts m ≡ None = ap (live_first firsts) (sym (eqb-true c m e)) ∙ none in
        let new : live_first (slice_set firsts c (Some number)) m ≡ Some number = now ∙ ap (λ b. if b then Some number else live_first firsts m) e in
        ap (λ o. first_read o (bases (reverse outer) m (cleared (log ++ c ∷ []) m o))) new
        ∙ (ap (λ o. first_read (Some number) (bases (reverse outer) m o)) (base_of (Some number) ∙ (ap (λ b. if b then None else cleared log m (Some number)) e ∙ sym (cleared_none log m)))
        ∙ (ap (λ o. first_read (number_or_else o (Some number)) (bases (reverse outer) m (cleared log m o))) (sym here)
        ∙ sym (ap (λ b. if b then first_read (number_or_else (live_first firsts m) (Some number)) (bases (reverse outer) m (cleared log m (live_first firsts m))) else first_read_from firsts log outer m) e)))
    by_test (inr e) =
        let new : live_first (slice_set firsts c (Some number)) m ≡ live_first firsts m = now ∙ ap (λ b. if b then Some number else live_first firsts m) e in
        ap (λ o. first_read o (bases (reverse outer) m (cleared (log ++ c ∷ []) m o))) new
        ∙ (ap (λ o. first_read (live_first firsts m) (bases (reverse outer) m o)) (base_of (live_first firsts m) ∙ ap (λ b. if b then None else cleared log m (live_first firsts m)) e)
        ∙ sym (ap (λ b. if b then first_read (number_or_else (live_first firsts m) (Some number)) (bases (reverse outer) m (cleared log m (live_first firsts m))) else first_read_from firsts log outer m) e))

-- a read of a class of which there is one
pub read_again : (f g : FirstRead) (c number m x : ℕ) → ((c == m) ≡ true → f ≡ g) → g.now ≡ Some x → f ≡ met_read c number m f
read_again f g c number m x one there = by_test (cases_Bool (c == m))
  where
    kept : (h : FirstRead) → h.now ≡ Some x → h ≡ first_read (number_or_else h.now (Some number)) h.outer
    kept h e = ap (λ o. first_read o h.outer) (e ∙ ap (λ o. number_or_else o (Some number)) (sym e))

    by_test : ((c == m) ≡ true) ⊎ ((c == m) ≡ false) → f ≡ met_read c number m f
    by_test (inl e) = kept f (ap (λ (h : FirstRead). h.now) (one e) ∙ there) ∙ sym (ap (λ b. if b then first_read (number_or_else f.now (Some number)) f.outer else f) e)
    by_test (inr e) = sym (ap (λ b. if b then first_read (number_or_else f.now (Some number)) f.outer else f) e)

pub same_class : (firsts : List (Option ℕ)) (log : List ℕ) (outer : List (Vec ℕ Global)) (c m : ℕ) → (c == m) ≡ true → first_read_from firsts log outer m ≡ first_read_from firsts log outer c
same_class firsts log outer c m e = ap (first_read_from firsts log outer) (sym (eqb-true c m e))

-- an arm begins
pub begun : (firsts : List (Option ℕ)) (log log1 : List ℕ) (outer outer1 : List (Vec ℕ Global)) (v : Vec ℕ Global) (m : ℕ) → log1 ≡ [] → outer1 ≡ outer ++ v ∷ [] → v.items ≡ log
    → first_read_from firsts log1 outer1 m ≡ opened (first_read_from firsts log outer m)
begun firsts log log1 outer outer1 v m empty more is =
    ap (λ l. first_read_from firsts l outer1 m) empty
    ∙ (ap (λ l. first_read (live_first firsts m) (bases l m (live_first firsts m))) (ap reverse more ∙ reverse-append outer (v ∷ []))
    ∙ ap (λ l. first_read (live_first firsts m) (live_first firsts m ∷ bases (reverse outer) m (cleared l m (live_first firsts m)))) is)

-- an arm ends
pub ended : (firsts firsts1 : List (Option ℕ)) (log log1 : List ℕ) (outer outer1 : List (Vec ℕ Global)) (v : Vec ℕ Global) (m : ℕ) → outer ≡ outer1 ++ v ∷ [] → log1 ≡ v.items
    → live_first firsts1 m ≡ cleared log m (live_first firsts m) → first_read_from firsts1 log1 outer1 m ≡ arm_closed (first_read_from firsts log outer m)
ended firsts firsts1 log log1 outer outer1 v m last is gone =
    ap (λ l. first_read_from firsts1 l outer1 m) is
    ∙ (ap (λ o. first_read o (bases (reverse outer1) m (cleared v.items m o))) gone
    ∙ sym (ap (λ l. closed_in (first_read_from firsts log outer m) (bases l m (cleared log m (live_first firsts m)))) (ap reverse last ∙ reverse-append outer1 (v ∷ []))))

pub ended_none : (firsts : List (Option ℕ)) (log : List ℕ) (outer : List (Vec ℕ Global)) (m : ℕ) → outer ≡ [] → first_read_from firsts log outer m ≡ arm_closed (first_read_from firsts log outer m)
ended_none firsts log outer m none = sym (ap (λ o. closed_in (first_read_from firsts log outer m) (bases (reverse o) m (cleared log m (live_first firsts m)))) none)

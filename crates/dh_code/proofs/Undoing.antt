-- Changes that are taken back.
use Rattle.std.proofs.Common.{◌≡◌, ℕ, zero, suc, ◌-◌, ◌<◌, ◌≤◌, List, [], ◌∷◌, ◌++◌, length, take, get_or, refl, ap, sym, ◌∙◌, arith}
use Rattle.std.specs.Prelude.{slice_set}
use Rattle.std.proofs.lemmas.List.{set-get_or}
use Rattle.dh_code.specs.declared.running.UndoEntry.{UndoEntry}
use Rattle.dh_code.specs.States.{undone_slots}

pub undone_more : (cs : List UndoEntry) (c : UndoEntry) (words : List ℕ) → undone_slots (cs ++ c ∷ []) words ≡ undone_slots cs (slice_set words c.slot c.before)
undone_more [] c words = refl
undone_more (b ∷ cs) c words = ap (λ ws. slice_set ws b.slot b.before) (undone_more cs c words)

set_again : {A : Type 0} (xs : List A) (i : ℕ) (a b : A) → slice_set (slice_set xs i a) i b ≡ slice_set xs i b
set_again [] zero a b = refl
set_again [] (suc i) a b = refl
set_again (x ∷ xs) zero a b = refl
set_again (x ∷ xs) (suc i) a b = ap (λ l. x ∷ l) (set_again xs i a b)

-- a variable that was set, with its value before
pub set_back : (cs cs' : List UndoEntry) (words words' : List ℕ) (slot : ℕ) (value before : ℕ) → before ≡ get_or words slot 0 → cs' ≡ cs ++ record { slot = slot; before = before } ∷ [] → words' ≡ slice_set words slot value
    → undone_slots cs' words' ≡ undone_slots cs words
set_back cs cs' words words' slot value before is added set =
    ap (λ l. undone_slots l words') added
    ∙ (ap (λ ws. undone_slots (cs ++ record { slot = slot; before = before } ∷ []) ws) set
    ∙ (undone_more cs (record { slot = slot; before = before }) (slice_set words slot value)
    ∙ ap (λ ws. undone_slots cs ws) (set_again words slot value before ∙ (ap (λ v. slice_set words slot v) is ∙ set-get_or words slot 0))))

take_more : {X : Type 0} (xs : List X) (k : ℕ) (d : X) → k < length xs → take (suc k) xs ≡ take k xs ++ get_or xs k d ∷ []
take_more [] k d within = absurd (none k within)
  where
    none : (n : ℕ) → n < 0 → ⊥
    none n e = omega (arith, e)
take_more (x ∷ xs) zero d within = refl
take_more (x ∷ xs) (suc k) d within = ap (λ l. x ∷ l) (take_more xs k d (omega (arith, within)))

-- one change that is taken back
pub undo_turn : (changes : List UndoEntry) (i : ℕ) (d : UndoEntry) (words all : List ℕ) → 0 < i → i ≤ length changes → undone_slots (take i changes) words ≡ all
    → undone_slots (take (i - 1) changes) (slice_set words (get_or changes (i - 1) d).slot (get_or changes (i - 1) d).before) ≡ all
undo_turn changes i d words all some within before =
    let back : suc (i - 1) ≡ i = omega (arith, some) in
    sym (undone_more (take (i - 1) changes) (get_or changes (i - 1) d) words)
    ∙ (ap (λ l. undone_slots l words) (sym (ap (λ n. take n changes) (sym back) ∙ take_more changes (i - 1) d (omega (arith, some, within)))) ∙ before)

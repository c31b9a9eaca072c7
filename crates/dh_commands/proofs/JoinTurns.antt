-- What both arms left is noted, turn by turn, and the marks are taken back at the end.
use Rattle.std.proofs.Common.{◌≡◌, ℕ, zero, suc, ◌<◌, ◌≤◌, List, [], ◌∷◌, ◌++◌, length, take, get_or, refl, ap, sym, ◌∙◌, subst, arith}
use Rattle.std.specs.List.{AllByRecursion}
use Rattle.dh_commands.specs.declared.assignments.Values.{Values}
use Rattle.dh_commands.specs.declared.choices.Choice.{Choice}
use Rattle.dh_commands.specs.declared.choices.Left.{Left}
use Rattle.dh_commands.specs.Undone.{AreReady}
use Rattle.dh_commands.specs.Joined.{AreChoices, IsLeft, JoinsArms, all_unmarked, chosen_marked, chosen_noted, other_noted}
use Rattle.dh_commands.proofs.JoinedArms.{JoinsSoFar, chosen_more, joined_all, marks_back, none_joined, other_more}

pub record JoinsTo (old now : Values) (chosen other done_chosen done_other : List Left) (choices : List Choice) : Type 0 where
  pub current : now.current ≡ old.current
  pub log : now.log ≡ old.log
  pub so : AreReady old → AllByRecursion (IsLeft old.current.items) chosen → AllByRecursion (IsLeft old.current.items) other
      → JoinsSoFar done_chosen done_other (length old.current.items) now.marks.items choices

pub joins_none : (v : Values) (chosen other : List Left) → JoinsTo v v chosen other [] [] []
joins_none v chosen other = record { current = refl; log = refl; so = λ ready a b. none_joined (length v.current.items) v.marks.items ready.long ready.unmarked }

take_more : (xs : List Left) (k : ℕ) (d : Left) → k < length xs → take (suc k) xs ≡ take k xs ++ get_or xs k d ∷ []
take_more [] k d within = absurd (none k within)
  where
    none : (n : ℕ) → n < 0 → ⊥
    none n e = omega (arith, e)
take_more (x ∷ xs) zero d within = refl
take_more (x ∷ xs) (suc k) d within = ap (λ (l : List Left). x ∷ l) (take_more xs k d (less k (length xs) within))
  where
    less : (n l : ℕ) → suc n < suc l → n < l
    less n l h = omega (arith, h)

take_whole : (xs : List Left) (k : ℕ) → length xs ≤ k → take k xs ≡ xs
take_whole [] zero few = refl
take_whole [] (suc k) few = refl
take_whole (x ∷ xs) zero few = absurd (none (length xs) few)
  where
    none : (n : ℕ) → suc n ≤ 0 → ⊥
    none n e = omega (arith, e)
take_whole (x ∷ xs) (suc k) few = ap (λ (l : List Left). x ∷ l) (take_whole xs k (less (length xs) k few))
  where
    less : (n l : ℕ) → suc n ≤ suc l → n ≤ l
    less n l h = omega (arith, h)

all_at : (P : Left → Type 0) (xs : List Left) (k : ℕ) (d : Left) → k < length xs → AllByRecursion P xs → P (get_or xs k d)
all_at P [] k d within a = absurd (none k within)
  where
    none : (n : ℕ) → n < 0 → ⊥
    none n e = omega (arith, e)
all_at P (x ∷ xs) zero d within a = a.0
all_at P (x ∷ xs) (suc k) d within a = all_at P xs k d (less k (length xs) within) a.1
  where
    less : (n l : ℕ) → suc n < suc l → n < l
    less n l h = omega (arith, h)

all_take : (P : Left → Type 0) (xs : List Left) (k : ℕ) → AllByRecursion P xs → AllByRecursion P (take k xs)
all_take P xs zero a = tt
all_take P [] (suc k) a = tt
all_take P (x ∷ xs) (suc k) a = (a.0, all_take P xs k a.1)

module _ (old now new : Values) (chosen other : List Left) (choices more : List Choice) (i : ℕ) (d : Left) (current : new.current ≡ now.current) (log : new.log ≡ now.log) where
  pub joins_one : i < length chosen → new.marks.items ≡ chosen_marked now.marks.items choices (get_or chosen i d) → more ≡ chosen_noted now.marks.items choices (get_or chosen i d)
      → JoinsTo old now chosen other (take i chosen) [] choices → JoinsTo old new chosen other (take (suc i) chosen) [] more
  joins_one within marks noted h = record {
    current = current ∙ h.current;
    log = log ∙ h.log;
    so = λ ready a b.
        let before = h.so ready a b in
        let left = all_at (IsLeft old.current.items) chosen i d within a in
        subst (λ (ls : List Left). JoinsSoFar ls [] (length old.current.items) new.marks.items more) (sym (take_more chosen i d within))
        (subst (λ (ms : List ℕ). JoinsSoFar (take i chosen ++ get_or chosen i d ∷ []) [] (length old.current.items) ms more) (sym marks)
        (subst (λ (cs : List Choice). JoinsSoFar (take i chosen ++ get_or chosen i d ∷ []) [] (length old.current.items) (chosen_marked now.marks.items choices (get_or chosen i d)) cs) (sym noted)
        (chosen_more (take i chosen) (get_or chosen i d) (length old.current.items) now.marks.items choices (subst (λ (n : ℕ). (get_or chosen i d).register < n) (sym before.long) left.room) before)));
  }

  pub joins_two : i < length other → new.marks.items ≡ chosen_marked now.marks.items choices (get_or other i d) → more ≡ other_noted now.marks.items choices (get_or other i d)
      → JoinsTo old now chosen other chosen (take i other) choices → JoinsTo old new chosen other chosen (take (suc i) other) more
  joins_two within marks noted h = record {
    current = current ∙ h.current;
    log = log ∙ h.log;
    so = λ ready a b.
        let before = h.so ready a b in
        let left = all_at (IsLeft old.current.items) other i d within b in
        subst (λ (ls : List Left). JoinsSoFar chosen ls (length old.current.items) new.marks.items more) (sym (take_more other i d within))
        (subst (λ (ms : List ℕ). JoinsSoFar chosen (take i other ++ get_or other i d ∷ []) (length old.current.items) ms more) (sym marks)
        (subst (λ (cs : List Choice). JoinsSoFar chosen (take i other ++ get_or other i d ∷ []) (length old.current.items) (chosen_marked now.marks.items choices (get_or other i d)) cs) (sym noted)
        (other_more old.current.items chosen (take i other) (get_or other i d) (length old.current.items) now.marks.items choices
        (subst (λ (n : ℕ). (get_or other i d).register < n) (sym before.long) left.room) (all_take (IsLeft old.current.items) other i b) before)));
  }

-- the first arm is done
pub joins_half : (old now : Values) (chosen other : List Left) (choices : List Choice) (i : ℕ) → length chosen ≤ i → JoinsTo old now chosen other (take i chosen) [] choices → JoinsTo old now chosen other chosen [] choices
joins_half old now chosen other choices i end h = subst (λ (ls : List Left). JoinsTo old now chosen other ls [] choices) (take_whole chosen i end) h

pub joins_all : (old now new : Values) (chosen other : List Left) (choices : List Choice) (i : ℕ) → length other ≤ i → new.current ≡ now.current → new.log ≡ now.log → new.marks.items ≡ all_unmarked choices now.marks.items
    → JoinsTo old now chosen other chosen (take i other) choices → JoinsArms old new chosen other choices
joins_all old now new chosen other choices i end current log marks h = record {
  current = current ∙ h.current;
  log = log ∙ h.log;
  marks = λ ready a b. marks ∙ marks_back chosen (take i other) (length old.current.items) old.marks.items now.marks.items choices (h.so ready a b) ready.long ready.unmarked;
  are = λ ready a b.
      subst (λ (ls : List Left). AreChoices chosen ls choices) (take_whole other i end) (joined_all chosen (take i other) (length old.current.items) now.marks.items choices (h.so ready a b));
}

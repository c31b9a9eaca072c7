-- Lists that begin earlier, turns that are counted, and frames that are sound.
use Rattle.std.proofs.Common.{◌≡◌, ℕ, ◌+◌, ◌*◌, ◌-◌, ◌^◌, ◌<◌, ◌≤◌, Bool, true, false, List, ◌∷◌, ◌++◌, Some, None, subst, arith}
use Rattle.std.specs.Prelude.{Option}
use Rattle.std.proofs.Math.Nat.{mul-le-mul_left, mul-le-mul_right}
use Rattle.dh_sem.specs.declared.lanes.Lanes.{Lanes}
use Rattle.dh_sem.specs.declared.phases.PhaseForm.{PhaseForm}
use Rattle.dh_sem.specs.declared.phases.PhaseForm.TheVariants.{Straight, Turns, Loop, Choice}
use Rattle.dh_sem.specs.declared.phases.Turns as turns
use Rattle.dh_sem.specs.Phased.{IsLinked, IsLinkedTurns, taken_branch, turns_in}
use Rattle.dh_code.specs.Scenes.{IsEarlier}

pub turn_fits : (t : turns.Turns) (turn : ℕ) → t.low + t.count * t.factor ≤ 2 ^ 64 - 1 → turn + 1 ≤ t.count → t.low + (turn + 1) * t.factor ≤ 2 ^ 64 - 1
turn_fits t turn fits within = by t.low ((turn + 1) * t.factor) (t.count * t.factor) (mul-le-mul_right t.factor within) fits
  where
    by : (l a b : ℕ) → a ≤ b → l + b ≤ 2 ^ 64 - 1 → l + a ≤ 2 ^ 64 - 1
    by l a b e f = omega (arith, e, f)

pub count_fits : (t : turns.Turns) → t.low + t.count * t.factor ≤ 2 ^ 64 - 1 → 1 ≤ t.factor → t.count ≤ 2 ^ 64 - 1
count_fits t fits some = by t.low t.count (t.count * t.factor) (mul-le-mul_left t.count some) fits
  where
    by : (l n m : ℕ) → n * 1 ≤ m → l + m ≤ 2 ^ 64 - 1 → n ≤ 2 ^ 64 - 1
    by l n m e f = omega (arith, e, f)

pub earlier_on : (m n : ℕ) (o : Option ℕ) → m < n → IsEarlier m o → IsEarlier n o
earlier_on m n None h e = tt
earlier_on m n (Some k) h e = later k h e
  where
    later : (k : ℕ) → m < n → k < m → k < n
    later k a b = omega (arith, a, b)

pub number_there : (count n : ℕ) (list : Option ℕ) → list ≡ Some n → IsEarlier count list → n < count
number_there count n list is h = subst (λ (l : Option ℕ). IsEarlier count l) is h

pub linked_turns : (lanes : List Lanes) (number : ℕ) (form : PhaseForm) (t : turns.Turns) → turns_in form ≡ Some t → IsLinked lanes number form → IsLinkedTurns lanes number t
linked_turns lanes number (Straight list) t e h = absurd cc
linked_turns lanes number (Turns u) t e h = subst (λ (w : turns.Turns). IsLinkedTurns lanes number w) (same u t e) h
  where
    same : (u t : turns.Turns) → Some u ≡ Some t → u ≡ t
    same u t e = cc
linked_turns lanes number (Loop f list) t e h = absurd cc
linked_turns lanes number (Choice f one two) t e h = absurd cc

pub arm_earlier : (lanes : List Lanes) (number count : ℕ) (form : PhaseForm) (holds : Bool) → number < count → IsLinked lanes number form → IsEarlier count (taken_branch form holds)
arm_earlier lanes number count (Straight list) holds h l = tt
arm_earlier lanes number count (Turns t) holds h l = tt
arm_earlier lanes number count (Loop f list) holds h l = earlier_on number count list h l
arm_earlier lanes number count (Choice f one two) true h l = earlier_on number count one h l.0
arm_earlier lanes number count (Choice f one two) false h l = earlier_on number count two h l.1

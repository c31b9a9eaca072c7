-- What is left before each step of a list, while the steps are taken.
use Rattle.std.proofs.Common.{◌≡◌, ℕ, List, [], ◌∷◌, length, slice_index, refl, ap, sym, ◌∙◌, subst}
use Rattle.dh_ports.specs.declared.marks.SlotMark.{SlotMark}
use Rattle.dh_ports.specs.declared.levels.PartFrame.{PartFrame}
use Rattle.dh_ports.specs.declared.levels.Levels.{Levels}
use Rattle.dh_ports.specs.declared.levels.Step.{Step}
use Rattle.dh_ports.specs.declared.levels.Step.TheVariants as step
use Rattle.std.specs.List.{AllByRecursion}
use Rattle.dh_ports.specs.Logs.{AreSlotMarks}
use Rattle.dh_ports.specs.Levels.{Level, start, advance, left_before, left_before_each, level_at, level_of, LevelsKept, FrameKept}
use Rattle.dh_ports.proofs.LogFacts.{no_marks}

-- equal levels leave the same
before_same : (l l1 : ℕ → Level) → ((m : ℕ) → l m ≡ l1 m) → (s : Step) → left_before s l ≡ left_before s l1
before_same l l1 e step.Other = refl
before_same l l1 e (step.Access slot takes) = ap (λ v. v.now) (e slot)
before_same l l1 e step.Begin = refl
before_same l l1 e step.Next = refl
before_same l l1 e step.End = refl
before_same l l1 e step.Back = refl

pub lefts_same : (l l1 : ℕ → Level) → ((m : ℕ) → l m ≡ l1 m) → (steps : List Step) → left_before_each l steps ≡ left_before_each l1 steps
lefts_same l l1 e [] = refl
lefts_same l l1 e (s ∷ rest) =
    ap (λ n. n ∷ left_before_each (λ m. advance m s (l m)) rest) (before_same l l1 e s)
    ∙ ap (λ r. left_before s l1 ∷ r) (lefts_same (λ m. advance m s (l m)) (λ m. advance m s (l1 m)) (λ m. ap (λ v. advance m s v) (e m)) rest)

-- where nothing is noted, what is left is where it starts
start_level : (left : List ℕ) (log lows : List SlotMark) (outer : List PartFrame) (s : ℕ) → log ≡ [] → lows ≡ [] → outer ≡ [] → level_of left log lows outer s ≡ start (slice_index left s)
start_level left log lows outer s e0 e1 e2 = ap (λ l. level_of left l lows outer s) e0 ∙ (ap (λ l. level_of left [] l outer s) e1 ∙ ap (λ o. level_of left [] [] o s) e2)

-- levels of which nothing is noted
pub levels_start : (l : Levels) → l.log.items ≡ [] → l.lows.items ≡ [] → l.outer.items ≡ [] → LevelsKept l × ((s : ℕ) → level_at l s ≡ start (slice_index l.left.items s))
levels_start l e0 e1 e2 = (
  record {
    log = subst (λ (m : List SlotMark). AreSlotMarks (length l.left.items) m) (sym e0) (no_marks (length l.left.items));
    lows = subst (λ (m : List SlotMark). AreSlotMarks (length l.left.items) m) (sym e1) (no_marks (length l.left.items));
    outer = subst (λ (o : List PartFrame). AllByRecursion (FrameKept (length l.left.items)) o) (sym e2) tt;
  },
  λ s. start_level l.left.items l.log.items l.lows.items l.outer.items s e0 e1 e2,
)

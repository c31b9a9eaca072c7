-- Blocks one after the other: their sets from the last to the first, and their checks from the first to the last.
use Rattle.std.proofs.Common.{◌≡◌, ℕ, zero, suc, ◌+◌, ◌-◌, ◌<◌, ◌≤◌, List, [], ◌∷◌, length, drop, refl, sym, ap, subst, ◌∙◌, arith}
use Rattle.std.specs.Prelude.{get_or, slice_index}
use Rattle.std.specs.List.{AllByRecursion}
use Rattle.std.proofs.Math.Seq.{drop-cons}
use Rattle.std.proofs.Math.ListN.{drop_of_length-le}
use Rattle.dh_value.specs.declared.kinds.Kind.{Kind}
use Rattle.dh_plan.specs.declared.operations.Operation.{Operation}
use Rattle.dh_plan.specs.declared.operations.PlanBlock.{PlanBlock}
use Rattle.dh_plan.specs.Blocks.{StepStart, block_sets}
use Rattle.dh_cells.specs.FirstTests.{AreTested}
use Rattle.dh_cells.specs.PlainCircuits.{PlainCircuit}
use Rattle.dh_cells.specs.Settled.{Signals, IsSettled, Grows}
use Rattle.dh_cells.specs.ShownValues.{is_one, first_of}
use Rattle.dh_cells.specs.declared.trees.Tested.{Tested}
use Rattle.dh_cells.proofs.CellsAppended.{grows_none, grows_then, settled_fewer}
use Rattle.dh_control.specs.AllBlocks.{BlockWords, AreBlockWords, blocks_code, SetsSuit, ChecksSuit, AllSetsAdded, AllChecksAdded}
use Rattle.dh_control.specs.FaultTests.{CheckSuits, ChecksAdded}
use Rattle.dh_control.specs.MovedValues.{Move}
use Rattle.dh_control.specs.RegisterSets.{all_set_where, SetSuits, SetsAdded}
use Rattle.dh_control.specs.ValuesShown.{AreShownWords}
use Rattle.dh_control.proofs.ChecksTested.{suits_check_stay}
use Rattle.dh_control.proofs.ListFacts.{at_item, all_same}
use Rattle.dh_control.proofs.SetsMoved.{suits_stay}

-- What operations need stays there.

pub sets_suit : (d e : PlainCircuit) (widths wires : List ℕ) (bs : List PlanBlock) (i : ℕ) (b : PlanBlock) (os : List Operation) → Grows d e → SetsSuit d widths wires bs → i < length bs → b ≡ get_or bs i b
    → os ≡ b.operations → AllByRecursion (SetSuits e widths wires) os
sets_suit d e widths wires bs i b os g h less is same =
    subst (λ (l : List Operation). AllByRecursion (SetSuits e widths wires) l) (sym same)
    (all_same (SetSuits d widths wires) (SetSuits e widths wires) b.operations (λ o a. suits_stay d e widths wires o g a)
    (at_item (λ b. AllByRecursion (SetSuits d widths wires) b.operations) bs i b h less is))

pub checks_suit : (d e : PlainCircuit) (wires : List ℕ) (bs : List PlanBlock) (i : ℕ) (b : PlanBlock) (os : List Operation) → Grows d e → ChecksSuit d wires bs → i < length bs → b ≡ get_or bs i b
    → os ≡ b.operations → AllByRecursion (CheckSuits e wires) os
checks_suit d e wires bs i b os g h less is same =
    subst (λ (l : List Operation). AllByRecursion (CheckSuits e wires) l) (sym same)
    (all_same (CheckSuits d wires) (CheckSuits e wires) b.operations (λ o a. suits_check_stay d e wires o g a)
    (at_item (λ b. AllByRecursion (CheckSuits d wires) b.operations) bs i b h less is))

pub sets_stay : (d e : PlainCircuit) (widths wires : List ℕ) (bs : List PlanBlock) → Grows d e → SetsSuit d widths wires bs → SetsSuit e widths wires bs
sets_stay d e widths wires bs g h =
    all_same (λ b. AllByRecursion (SetSuits d widths wires) b.operations) (λ b. AllByRecursion (SetSuits e widths wires) b.operations) bs
    (λ b a. all_same (SetSuits d widths wires) (SetSuits e widths wires) b.operations (λ o u. suits_stay d e widths wires o g u) a) h

pub checks_stay : (d e : PlainCircuit) (wires : List ℕ) (bs : List PlanBlock) → Grows d e → ChecksSuit d wires bs → ChecksSuit e wires bs
checks_stay d e wires bs g h =
    all_same (λ b. AllByRecursion (CheckSuits d wires) b.operations) (λ b. AllByRecursion (CheckSuits e wires) b.operations) bs
    (λ b a. all_same (CheckSuits d wires) (CheckSuits e wires) b.operations (λ o u. suits_check_stay d e wires o g u) a) h

-- Sets.

pub no_sets : (d : PlainCircuit) (widths commits wires : List ℕ) (from : ℕ) (moves : List Move) → AllSetsAdded d d widths commits wires from [] moves moves
no_sets d widths commits wires from moves = record { grows = grows_none d; moves = λ h. h; does = λ x w kinds values s h. refl }

pub begin_sets : (d : PlainCircuit) (widths commits wires : List ℕ) (bs : List PlanBlock) (moves : List Move) → AllSetsAdded d d widths commits wires (length bs) (drop (length bs) bs) moves moves
begin_sets d widths commits wires bs moves =
    subst (λ (l : List PlanBlock). AllSetsAdded d d widths commits wires (length bs) l moves moves) (sym (drop_of_length-le bs (let n : length bs ≤ length bs = omega arith in n)))
    (no_sets d widths commits wires (length bs) moves)

pub block_then : (d e f : PlainCircuit) (widths commits wires : List ℕ) (from : ℕ) (b : PlanBlock) (bs : List PlanBlock) (before mid after : List Move)
    → AllSetsAdded d e widths commits wires (suc from) bs before mid → SetsAdded e f widths (slice_index commits from) wires b.operations mid after
    → AllSetsAdded d f widths commits wires from (b ∷ bs) before after
block_then d e f widths commits wires from b bs before mid after p q = record {
  grows = grows_then d e f p.grows q.grows;
  moves = λ h. q.moves (p.moves h);
  does = λ x w kinds values s h.
      q.does x (w.first from) (w.words from) kinds values s h.0
      ∙ p.does x w kinds (all_set_where (is_one x (slice_index commits from)) (block_sets (w.first from) (w.words from) b.operations) values) (settled_fewer e f x q.grows s) h.1;
}

pub blocks_turn : (d e f : PlainCircuit) (widths commits wires : List ℕ) (n : ℕ) (b : PlanBlock) (os : List Operation) (bs : List PlanBlock) (before mid after : List Move) → 0 < n → n ≤ length bs
    → b ≡ get_or bs (n - 1) b → os ≡ b.operations → AllSetsAdded d e widths commits wires n (drop n bs) before mid → SetsAdded e f widths (slice_index commits (n - 1)) wires os mid after
    → AllSetsAdded d f widths commits wires (n - 1) (drop (n - 1) bs) before after
blocks_turn d e f widths commits wires n b os bs before mid after more less is same p q =
    let now : drop (n - 1) bs ≡ b ∷ drop (suc (n - 1)) bs = drop-cons bs (n - 1) b (omega (arith, more, less)) ∙ ap (λ (y : PlanBlock). y ∷ drop (suc (n - 1)) bs) (sym is) in
    let next : n ≡ suc (n - 1) = omega (arith, more) in
    subst (λ (l : List PlanBlock). AllSetsAdded d f widths commits wires (n - 1) l before after) (sym now)
    (block_then d e f widths commits wires (n - 1) b (drop (suc (n - 1)) bs) before mid after
    (subst (λ (k : ℕ). AllSetsAdded d e widths commits wires k (drop k bs) before mid) next p)
    (subst (λ (l : List Operation). SetsAdded e f widths (slice_index commits (n - 1)) wires l mid after) same q))

-- Checks.

words_at : (w : BlockWords) (kinds : List Kind) (wires : List ℕ) (x : Signals) (from i : ℕ) (bs : List PlanBlock) (b : PlanBlock) → AreBlockWords w kinds wires x from bs → i < length bs → b ≡ get_or bs i b
    → AreShownWords (w.first (from + i)) (w.words (from + i)) kinds wires x b.operations
words_at w kinds wires x from i [] b h less is = absurd (omega (arith, less))
words_at w kinds wires x from zero (c ∷ bs) b h less is =
    let here : from ≡ from + 0 = omega arith in
    subst (λ (n : ℕ). AreShownWords (w.first n) (w.words n) kinds wires x b.operations) here (subst (λ (y : PlanBlock). AreShownWords (w.first from) (w.words from) kinds wires x y.operations) (sym is) h.0)
words_at w kinds wires x from (suc i) (c ∷ bs) b h less is =
    let here : suc from + i ≡ from + suc i = omega arith in
    subst (λ (n : ℕ). AreShownWords (w.first n) (w.words n) kinds wires x b.operations) here (words_at w kinds wires x (suc from) i bs b h.1 (omega (arith, less)) is)

words_of_number : (w : BlockWords) (kinds : List Kind) (wires : List ℕ) (x : Signals) (i : ℕ) (bs : List PlanBlock) (b : PlanBlock) → AreBlockWords w kinds wires x 0 bs → i < length bs → b ≡ get_or bs i b
    → AreShownWords (w.first i) (w.words i) kinds wires x b.operations
words_of_number w kinds wires x i bs b h less is =
    let here : 0 + i ≡ i = omega arith in
    subst (λ (n : ℕ). AreShownWords (w.first n) (w.words n) kinds wires x b.operations) here (words_at w kinds wires x 0 i bs b h less is)

-- the blocks before a number are checked: what counts behind them counts behind all that was there
pub record ChecksSoFar (old now : PlainCircuit) (active wires : List ℕ) (blocks : List PlanBlock) (count : ℕ) (before tests : List Tested) : Type 0 where
  pub grows : Grows old now
  pub tests_are : AreTested old before 32 → AreTested now tests 32
  pub does : (x : Signals) (s : StepStart) (w : BlockWords) (kinds : List Kind) (default : ℕ) → IsSettled now x → AreBlockWords w kinds wires x 0 blocks
      → first_of x tests (blocks_code x active s w count (drop count blocks) default) ≡ first_of x before (blocks_code x active s w 0 blocks default)

pub begin_checks : (d : PlainCircuit) (active wires : List ℕ) (bs : List PlanBlock) (tests : List Tested) → ChecksSoFar d d active wires bs 0 tests tests
begin_checks d active wires bs tests = record { grows = grows_none d; tests_are = λ h. h; does = λ x s w kinds default settled h. refl }

pub next_checks : (d e f : PlainCircuit) (active wires : List ℕ) (bs : List PlanBlock) (i : ℕ) (b : PlanBlock) (os : List Operation) (before mid after : List Tested) → i < length bs → b ≡ get_or bs i b → os ≡ b.operations
    → ChecksSoFar d e active wires bs i before mid → ChecksAdded e f (slice_index active i) wires os mid after → ChecksSoFar d f active wires bs (i + 1) before after
next_checks d e f active wires bs i b os before mid after less is same p a =
    let q : ChecksAdded e f (slice_index active i) wires b.operations mid after = subst (λ (l : List Operation). ChecksAdded e f (slice_index active i) wires l mid after) same a in
    let now : drop i bs ≡ b ∷ drop (suc i) bs = drop-cons bs i b less ∙ ap (λ (y : PlanBlock). y ∷ drop (suc i) bs) (sym is) in
    let next : i + 1 ≡ suc i = omega arith in
    record {
      grows = grows_then d e f p.grows q.grows;
      tests_are = λ h. q.tests (p.tests_are h);
      does = λ x s w kinds default settled h.
          ap (λ n. first_of x after (blocks_code x active s w n (drop n bs) default)) next
          ∙ (q.does x s (w.first i) (w.words i) kinds (blocks_code x active s w (suc i) (drop (suc i) bs) default) settled (words_of_number w kinds wires x i bs b h less is)
          ∙ (ap (λ l. first_of x mid (blocks_code x active s w i l default)) (sym now) ∙ p.does x s w kinds default (settled_fewer e f x q.grows settled) h));
    }

pub end_checks : (d e : PlainCircuit) (active wires : List ℕ) (bs : List PlanBlock) (i : ℕ) (before after : List Tested) → length bs ≤ i → ChecksSoFar d e active wires bs i before after
    → AllChecksAdded d e active wires bs before after
end_checks d e active wires bs i before after all h = record {
  grows = h.grows;
  tests = h.tests_are;
  does = λ x s w kinds default settled words.
      ap (λ l. first_of x after (blocks_code x active s w i l default)) (sym (drop_of_length-le bs all)) ∙ h.does x s w kinds default settled words;
}

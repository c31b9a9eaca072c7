-- One block is active: what all blocks do by wires is what that one does.
use Rattle.std.proofs.Common.{◌≡◌, ℕ, zero, suc, ◌+◌, ◌<◌, ◌≤◌, ◌==◌, ◌&&◌, ◌||◌, inl, inr, Bool, true, false, Some, List, [], ◌∷◌, length, refl, ap, ◌∙◌, arith}
use Rattle.std.specs.Prelude.{nat_lt, slice_get, slice_index}
use Rattle.std.proofs.lemmas.Bool.{cases_eq}
use Rattle.std.proofs.lemmas.Bool.Decides.{nat_tests}
use Rattle.dh_plan.specs.declared.operations.PlanBlock.{PlanBlock}
use Rattle.dh_plan.specs.Blocks.{StepStart, block_events, block_sets, first_fault}
use Rattle.dh_plan.specs.PlainPlans.{block_operations}
use Rattle.dh_cells.specs.Settled.{Signals, shown}
use Rattle.dh_cells.specs.ShownValues.{is_one, any_one}
use Rattle.dh_control.specs.AllBlocks.{BlockWords, blocks_set, blocks_code}
use Rattle.dh_control.specs.FaultTests.{code_where}
use Rattle.dh_control.specs.RegisterSets.{all_set_where}
use Rattle.dh_control.specs.StateWires.{blocks_active}
use Rattle.dh_control.specs.StepWires.{any_waits}

same_test : (a b : ℕ) → a ≡ b → (a == b) ≡ true
same_test a b e = grind (arith, e, nat_tests)

other_test : (a b : ℕ) → (a ≡ b → ⊥) → (a == b) ≡ false
other_test a b n = grind (arith, n, nat_tests)

or_false : (t : Bool) → (t || false) ≡ t
or_false true = refl
or_false false = refl

-- the block of a state
pub state_active : (blocks : List ℕ) (n b : ℕ) → slice_get blocks n ≡ Some b → blocks_active blocks n ≡ b ∷ []
state_active [] n b e = absurd (cc)
state_active (c ∷ bs) zero b e = let same : c ≡ b = cc in ap (λ d. d ∷ []) same
state_active (c ∷ bs) (suc n) b e = state_active bs n b e

pub none_active : (blocks : List ℕ) (n : ℕ) → length blocks ≤ n → blocks_active blocks n ≡ []
none_active [] n past = refl
none_active (c ∷ bs) zero past = absurd (omega (arith, past))
none_active (c ∷ bs) (suc n) past = none_active bs n (omega (arith, past))

-- of so many wires, from a number on, this one alone shows 1
abbrev pub ShowsOnly : Signals → (wires : List ℕ) → (test : Bool) → (block from count : ℕ) → Type 0
ShowsOnly x wires t block from count = (i : ℕ) → from ≤ i → i < from + count → is_one x (slice_index wires i) ≡ (t && (i == block))

abbrev pub ShowNone : Signals → (wires : List ℕ) → (from count : ℕ) → Type 0
ShowNone x wires from count = (i : ℕ) → from ≤ i → i < from + count → is_one x (slice_index wires i) ≡ false

fewer : (x : Signals) (wires : List ℕ) (from count : ℕ) → ShowNone x wires from (suc count) → ShowNone x wires (suc from) count
fewer x wires from count h i least less = h i (omega (arith, least)) (omega (arith, less))

none_here : (x : Signals) (wires : List ℕ) (from count : ℕ) → ShowNone x wires from (suc count) → is_one x (slice_index wires from) ≡ false
none_here x wires from count h = h from (omega arith) (omega arith)

only_fewer : (x : Signals) (wires : List ℕ) (t : Bool) (block from count : ℕ) → ShowsOnly x wires t block from (suc count) → ShowsOnly x wires t block (suc from) count
only_fewer x wires t block from count h i least less = h i (omega (arith, least)) (omega (arith, less))

and_false : (t u : Bool) → u ≡ false → (t && u) ≡ false
and_false true u e = e
and_false false u e = refl

and_true : (t u : Bool) → u ≡ true → (t && u) ≡ t
and_true true u e = e
and_true false u e = refl

-- behind it none does
only_behind : (x : Signals) (wires : List ℕ) (t : Bool) (block from count : ℕ) → from ≡ block → ShowsOnly x wires t block from (suc count) → ShowNone x wires (suc from) count
only_behind x wires t block from count here h i least less =
    h i (omega (arith, least)) (omega (arith, less)) ∙ and_false t (i == block) (other_test i block (λ e. let f : ⊥ = omega (arith, e, here, least) in f))

only_here : (x : Signals) (wires : List ℕ) (t : Bool) (block from count : ℕ) → from ≡ block → ShowsOnly x wires t block from (suc count) → is_one x (slice_index wires from) ≡ t
only_here x wires t block from count here h = h from (omega arith) (omega arith) ∙ and_true t (from == block) (same_test from block here)

only_not_here : (x : Signals) (wires : List ℕ) (t : Bool) (block from count : ℕ) → (from ≡ block → ⊥) → ShowsOnly x wires t block from (suc count) → is_one x (slice_index wires from) ≡ false
only_not_here x wires t block from count other h = h from (omega arith) (omega arith) ∙ and_false t (from == block) (other_test from block other)

-- Whether a block is active.

any_at : (x : Signals) (wires : List ℕ) (i : ℕ) → i < length wires → is_one x (slice_index wires i) ≡ true → any_one x wires ≡ true
any_at x [] i less on = absurd (omega (arith, less))
any_at x (w ∷ ws) zero less on = ap (λ t. t || any_one x ws) on
any_at x (w ∷ ws) (suc i) less on = ap (λ t. is_one x w || t) (any_at x ws i (omega (arith, less)) on) ∙ or_true (is_one x w)
  where
    or_true : (t : Bool) → (t || true) ≡ true
    or_true true = refl
    or_true false = refl

pub some_active : (x : Signals) (wires : List ℕ) (block : ℕ) → block < length wires → ShowsOnly x wires true block 0 (length wires) → any_one x wires ≡ true
some_active x wires block less h = any_at x wires block less (h block (omega arith) (omega (arith, less)) ∙ same_test block block refl)

no_one : (x : Signals) (wires : List ℕ) → ((i : ℕ) → i < length wires → is_one x (slice_index wires i) ≡ false) → any_one x wires ≡ false
no_one x [] h = refl
no_one x (w ∷ ws) h =
    let first = h zero (omega arith) in
    let rest = no_one x ws (λ i less. h (suc i) (omega (arith, less))) in
    (λ i. first i || rest i)

pub none_going : (x : Signals) (wires : List ℕ) → ShowNone x wires 0 (length wires) → any_one x wires ≡ false
none_going x wires h = no_one x wires (λ i less. h i (omega arith) (omega (arith, less)))

-- Whether it waits.

none_waits : (x : Signals) (clock : ℕ) (active lengths : List ℕ) (from count : ℕ) → ShowNone x active from count → any_waits x clock active lengths from count ≡ false
none_waits x clock active lengths from zero h = refl
none_waits x clock active lengths from (suc n) h =
    let first = none_here x active from n h in
    let rest = none_waits x clock active lengths (suc from) n (fewer x active from n h) in
    (λ i. (first i && nat_lt (shown x clock + 1) (slice_index lengths from)) || rest i)

pub never_waits : (x : Signals) (clock : ℕ) (active lengths : List ℕ) (count : ℕ) → ShowNone x active 0 count → any_waits x clock active lengths 0 count ≡ false
never_waits x clock active lengths count h = none_waits x clock active lengths 0 count h

pub one_waits : (x : Signals) (clock : ℕ) (active lengths : List ℕ) (block from count : ℕ) → from ≤ block → block < from + count → ShowsOnly x active true block from count
    → any_waits x clock active lengths from count ≡ nat_lt (shown x clock + 1) (slice_index lengths block)
one_waits x clock active lengths block from zero least less h = absurd (omega (arith, least, less))
one_waits x clock active lengths block from (suc n) least less h =
    elim (cases_eq from block) [
      | inl here ↦
          let first = only_here x active true block from n here h in
          let rest = none_waits x clock active lengths (suc from) n (only_behind x active true block from n here h) in
          (λ i. (first i && nat_lt (shown x clock + 1) (slice_index lengths from)) || rest i)
          ∙ (or_false (nat_lt (shown x clock + 1) (slice_index lengths from)) ∙ ap (λ b. nat_lt (shown x clock + 1) (slice_index lengths b)) here)
      | inr other ↦
          let first = only_not_here x active true block from n other h in
          let rest = one_waits x clock active lengths block (suc from) n (omega (arith, least, other)) (omega (arith, less)) (only_fewer x active true block from n h) in
          (λ i. (first i && nat_lt (shown x clock + 1) (slice_index lengths from)) || rest i)
    ]

-- Its first fault.

none_fails : (x : Signals) (active : List ℕ) (s : StepStart) (w : BlockWords) (from : ℕ) (bs : List PlanBlock) (default : ℕ) → ShowNone x active from (length bs) → blocks_code x active s w from bs default ≡ default
none_fails x active s w from [] default h = refl
none_fails x active s w from (b ∷ bs) default h =
    let first = none_here x active from (length bs) h in
    ap (λ t. code_where t (first_fault (block_events s (w.first from) (w.words from) b.operations)) (blocks_code x active s w (suc from) bs default)) first
    ∙ none_fails x active s w (suc from) bs default (fewer x active from (length bs) h)

pub one_fails : (x : Signals) (active : List ℕ) (s : StepStart) (w : BlockWords) (t : Bool) (block from i : ℕ) (bs : List PlanBlock) (default : ℕ) → block ≡ from + i → i < length bs
    → ShowsOnly x active t block from (length bs)
    → blocks_code x active s w from bs default ≡ code_where t (first_fault (block_events s (w.first block) (w.words block) (block_operations (slice_get bs i)))) default
one_fails x active s w t block from i [] default is less h = absurd (omega (arith, less))
one_fails x active s w t block from zero (b ∷ bs) default is less h =
    let here : from ≡ block = omega (arith, is) in
    ap (λ u. code_where u (first_fault (block_events s (w.first from) (w.words from) b.operations)) (blocks_code x active s w (suc from) bs default)) (only_here x active t block from (length bs) here h)
    ∙ (ap (λ v. code_where t (first_fault (block_events s (w.first from) (w.words from) b.operations)) v) (none_fails x active s w (suc from) bs default (only_behind x active t block from (length bs) here h))
    ∙ ap (λ k. code_where t (first_fault (block_events s (w.first k) (w.words k) b.operations)) default) here)
one_fails x active s w t block from (suc i) (b ∷ bs) default is less h =
    let other : from ≡ block → ⊥ = (λ e. let f : ⊥ = omega (arith, is, e) in f) in
    ap (λ u. code_where u (first_fault (block_events s (w.first from) (w.words from) b.operations)) (blocks_code x active s w (suc from) bs default)) (only_not_here x active t block from (length bs) other h)
    ∙ one_fails x active s w t block (suc from) i bs default (omega (arith, is)) (omega (arith, less)) (only_fewer x active t block from (length bs) h)

-- What it sets.

pub none_sets : (x : Signals) (commits : List ℕ) (w : BlockWords) (from : ℕ) (bs : List PlanBlock) (registers : List ℕ) → ShowNone x commits from (length bs) → blocks_set x commits w from bs registers ≡ registers
none_sets x commits w from [] registers h = refl
none_sets x commits w from (b ∷ bs) registers h =
    let first = none_here x commits from (length bs) h in
    ap (λ t. blocks_set x commits w (suc from) bs (all_set_where t (block_sets (w.first from) (w.words from) b.operations) registers)) first
    ∙ none_sets x commits w (suc from) bs registers (fewer x commits from (length bs) h)

pub one_sets : (x : Signals) (commits : List ℕ) (w : BlockWords) (t : Bool) (block from i : ℕ) (bs : List PlanBlock) (registers : List ℕ) → block ≡ from + i → i < length bs
    → ShowsOnly x commits t block from (length bs)
    → blocks_set x commits w from bs registers ≡ all_set_where t (block_sets (w.first block) (w.words block) (block_operations (slice_get bs i))) registers
one_sets x commits w t block from i [] registers is less h = absurd (omega (arith, less))
one_sets x commits w t block from zero (b ∷ bs) registers is less h =
    let here : from ≡ block = omega (arith, is) in
    ap (λ u. blocks_set x commits w (suc from) bs (all_set_where u (block_sets (w.first from) (w.words from) b.operations) registers)) (only_here x commits t block from (length bs) here h)
    ∙ (none_sets x commits w (suc from) bs _ (only_behind x commits t block from (length bs) here h)
    ∙ ap (λ k. all_set_where t (block_sets (w.first k) (w.words k) b.operations) registers) here)
one_sets x commits w t block from (suc i) (b ∷ bs) registers is less h =
    let other : from ≡ block → ⊥ = (λ e. let f : ⊥ = omega (arith, is, e) in f) in
    ap (λ u. blocks_set x commits w (suc from) bs (all_set_where u (block_sets (w.first from) (w.words from) b.operations) registers)) (only_not_here x commits t block from (length bs) other h)
    ∙ one_sets x commits w t block (suc from) i bs registers (omega (arith, is)) (omega (arith, less)) (only_fewer x commits t block from (length bs) h)

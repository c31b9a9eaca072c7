-- The variables behind an `if`, one choice after the other. Each choice is of a register of its own, so that the values
-- before it are those before all.
use Rattle.std.proofs.Common.{◌≡◌, ◌⊎◌, inl, inr, ℕ, zero, suc, ◌<◌, ◌≤◌, true, false, if◌then◌else◌, Some, None, List, [], ◌∷◌, length, refl, ap, sym, ◌∙◌, subst, arith}
use Rattle.std.specs.Prelude.{Option, nat_lt, slice_get, slice_index_or}
use Rattle.std.proofs.lemmas.Bool.{cases_lt}
use Rattle.std.proofs.lemmas.Bool.Decides.{nat_tests}
use Rattle.dh_value.specs.Operations.{is_true}
use Rattle.dh_expressions.specs.declared.drafts.Draft.{Draft}
use Rattle.dh_expressions.specs.Drafted.{BlockBegun, FitsStep, BlockStep, word_shown}
use Rattle.dh_expressions.specs.Shown.{current_shown, variable_shown}
use Rattle.dh_expressions.proofs.ListPlaces.{set_here, set_other, some_same}
use Rattle.dh_expressions.proofs.Pushing.{begun_later, fits_before}
use Rattle.dh_commands.specs.declared.assignments.Values.{Values}
use Rattle.dh_commands.specs.declared.choices.Choice.{Choice}
use Rattle.dh_commands.specs.Joined.{AreApartChoices}
use Rattle.dh_commands.specs.Choosing.{Chooses, ChoosesOne, IsOfChoice, behind_shown, choice_word_shown, test_shown}
use Rattle.dh_commands.proofs.ArmGuards.{quiet_again, quiet_self}
use Rattle.dh_commands.proofs.ChangesBack.{logs_again, logs_none, logs_one}

behind_same : (x : BlockStep) (before after : List (Option ℕ)) (register : ℕ) (o : Option ℕ) → slice_get after register ≡ slice_get before register → behind_shown x after register o ≡ behind_shown x before register o
behind_same x before after register None same = ap (λ p. current_shown x p register) same
behind_same x before after register (Some value) same = refl

pub test_at : (tests : List ℕ) (path test : ℕ) → slice_get tests path ≡ Some test → slice_index_or tests path 0 ≡ test
test_at [] path test at = absurd (cc)
test_at (t ∷ ts) zero test at = some_same t test at
test_at (t ∷ ts) (suc path) test at = test_at ts path test at

module _ (tests : List ℕ) (choices : List Choice) where
  pub chooses_none : (d : Draft) (v : Values) → Chooses d d v v tests choices 0
  chooses_none d v = record {
    adds = quiet_self d;
    logs = logs_none (IsOfChoice choices) v;
    picked = λ apart x f b k c few at room path. absurd (never k few);
    others = λ register none. refl;
  }
    where
      never : (n : ℕ) → n < 0 → ⊥
      never n h = omega (arith, h)

  module _ (d e : Draft) (v w : Values) (k : ℕ) (c : Choice) (at_k : slice_get choices k ≡ Some c) (h : Chooses d e v w tests choices k) where
    -- without a test at its path nothing is chosen
    pub chooses_skip : length tests ≤ c.path → Chooses d e v w tests choices (suc k)
    chooses_skip past = record {
      adds = h.adds;
      logs = h.logs;
      picked = λ apart x f b j a few at room path. by apart x f b j a at room path few (cases_lt j k);
      others = λ register none. h.others register (λ j a few at same. none j a (omega (arith, few)) at same);
    }
      where
        never : (p n : ℕ) → p < n → n ≤ p → ⊥
        never p n a b = omega (arith, a, b)

        by : AreApartChoices choices → (x : BlockStep) → FitsStep x e → BlockBegun x d → (j : ℕ) (a : Choice) → slice_get choices j ≡ Some a → a.register < length v.current.items → a.path < length tests → j < suc k → (j < k) ⊎ (k ≤ j)
            → variable_shown x w.current.items a.register ≡ choice_word_shown x tests v.current.items a
        by apart x f b j a at room path few (inl less) = h.picked apart x f b j a less at room path
        by apart x f b j a at room path few (inr more) =
            let is : j ≡ k = omega (arith, few, more) in
            let same : a ≡ c = some_same a c (sym at ∙ (ap (λ n. slice_get choices n) is ∙ at_k)) in
            absurd (never c.path (length tests) (subst (λ (b : Choice). b.path < length tests) same path) past)

    pub chooses_more : (f : Draft) (u : Values) (test : ℕ) → slice_get tests c.path ≡ Some test → ChoosesOne e f w u test c → Chooses d f v u tests choices (suc k)
    chooses_more f u test at_path one = record {
      adds = quiet_again d e f h.adds one.adds;
      logs = logs_again (IsOfChoice choices) v w u h.logs
          (logs_one (IsOfChoice choices) w u c.register c.path one.value (record { number = k; choice = c; there = at_k; register_is = refl; path_is = refl }) one.assigns);
      picked = λ apart x fits begun j a few at room path. by apart x fits begun j a few at room path (cases_lt j k);
      others = λ register none.
          set_at register (λ same. none k c (omega arith) at_k (sym same)) ∙ h.others register (λ j a few at same. none j a (omega (arith, few)) at same);
    }
      where
        set_at : (register : ℕ) → (register ≡ c.register → ⊥) → slice_get u.current.items register ≡ slice_get w.current.items register
        set_at register differ = ap (λ (os : List (Option ℕ)). slice_get os register) one.assigns.current ∙ set_other w.current.items c.register register (Some one.value) differ

        never : (n : ℕ) → n < n → ⊥
        never n l = omega (arith, l)

        by : AreApartChoices choices → (x : BlockStep) → FitsStep x f → BlockBegun x d → (j : ℕ) (a : Choice) → j < suc k → slice_get choices j ≡ Some a → a.register < length v.current.items → a.path < length tests → (j < k) ⊎ (k ≤ j)
            → variable_shown x u.current.items a.register ≡ choice_word_shown x tests v.current.items a
        by apart x fits begun j a few at room path (inl less) =
            let differ : a.register ≡ c.register → ⊥ = λ same. never k (subst (λ (n : ℕ). n < k) (apart j k a c at at_k same) less) in
            ap (λ o. current_shown x o a.register) (set_at a.register differ) ∙ h.picked apart x (fits_before e f x one.adds.extends fits) begun j a less at room path
        by apart x fits begun j a few at room path (inr more) =
            let is : j ≡ k = omega (arith, few, more) in
            let same : a ≡ c = some_same a c (sym at ∙ (ap (λ n. slice_get choices n) is ∙ at_k)) in
            subst (λ (b : Choice). variable_shown x u.current.items b.register ≡ choice_word_shown x tests v.current.items b) (sym same) (own (subst (λ (b : Choice). b.register < length v.current.items) same room))
          where
            untouched : slice_get w.current.items c.register ≡ slice_get v.current.items c.register
            untouched = h.others c.register (λ i b l at_i same. never k (subst (λ (n : ℕ). n < k) (apart i k b c at_i at_k same) l))

            own : c.register < length v.current.items → variable_shown x u.current.items c.register ≡ choice_word_shown x tests v.current.items c
            own room_c =
                ap (λ o. current_shown x o c.register)
                (ap (λ (os : List (Option ℕ)). slice_get os c.register) one.assigns.current ∙ set_here w.current.items c.register (Some one.value) (subst (λ (n : ℕ). c.register < n) (sym h.logs.long) room_c))
                ∙ (one.is x fits (begun_later d e x h.adds.extends begun)
                ∙ (ap (λ t. if is_true (word_shown x t) then behind_shown x w.current.items c.register c.chosen else behind_shown x w.current.items c.register c.other) (sym (test_at tests c.path test at_path))
                ∙ (ap (λ p. if test_shown x tests c.path then p else behind_shown x w.current.items c.register c.other) (behind_same x v.current.items w.current.items c.register c.chosen untouched)
                ∙ ap (λ p. if test_shown x tests c.path then behind_shown x v.current.items c.register c.chosen else p) (behind_same x v.current.items w.current.items c.register c.other untouched))))

-- what the answer of a look-up tells of its place
pub within_by : (n m : ℕ) → true ≡ nat_lt n m → n < m
within_by n m h = grind (arith, nat_tests, h)

pub past_by : (n m : ℕ) → false ≡ nat_lt n m → m ≤ n
past_by n m h = grind (arith, nat_tests, h)

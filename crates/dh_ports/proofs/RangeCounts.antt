-- The keys of so many paths from that of a number on, counted one path after the other.
use Rattle.std.proofs.Common.{◌≡◌, ℕ, suc, add-one, ◌+◌, ◌*◌, ◌<◌, ◌≤◌, ◌==◌, not, Bool, true, false, List, [], replicate, slice_index, slice_set, refl, ap, sym, ◌∙◌, subst, arith, ◌⊎◌, inl, inr}
use Rattle.std.proofs.lemmas.Bool.{cases_Bool, eqb-true, eq-eqb}
use Rattle.dh_events.specs.Tables.{with_number}
use Rattle.dh_ports.specs.declared.copies.PathReach.{PathReach}
use Rattle.dh_ports.specs.Copies.{all_lane_banks, bank_at_path_number, bank_of_lanes, bank_counts_raised, key_by, key_count_from, same_number, AreKeyCounts, TellsPaths}
use Rattle.dh_ports.proofs.CopyTurns.{bank_most}
use Rattle.dh_ports.proofs.KeyCounts.{CountsSoFar, count_few, counts_beyond, counts_more, counts_none, counts_same, met, reaching_most}

pub own_number : (n : ℕ) → same_number n n ≡ true
own_number n = eq-eqb n n refl

pub numbers_same : (m n : ℕ) → same_number m n ≡ true → m ≡ n
numbers_same m n e = eqb-true m n e

-- the counts, and the pairs seen, when so many of these paths were gone through
abbrev pub RangeCounted : PathReach → (from banks moment step : ℕ) → (counts : List ℕ) → (seen : ℕ → ℕ) → Type 0
RangeCounted reach from banks moment step counts seen =
    CountsSoFar same_number own_number numbers_same (λ k. from + k) (key_by reach) (bank_at_path_number reach) (λ k. key_by reach (from + k)) reach.paths.count banks moment step counts seen

module _ (reach : PathReach) (from banks moment : ℕ) where
  pub range_none : (counts : List ℕ) (seen : ℕ → ℕ) → counts ≡ replicate banks 0 → ((pair : ℕ) → seen pair < moment) → RangeCounted reach from banks moment 0 counts seen
  range_none counts seen e h = counts_none same_number own_number numbers_same (λ k. from + k) (key_by reach) (bank_at_path_number reach) (λ k. key_by reach (from + k)) reach.paths.count banks moment counts seen e h

  pub range_done : (many step : ℕ) (counts : List ℕ) (seen : ℕ → ℕ) → step ≡ many → RangeCounted reach from banks moment step counts seen → AreKeyCounts reach from many banks counts
  range_done many step counts seen e so = record {
    long = so.long;
    each = λ bank inside. so.counted bank inside ∙ ap (λ n. key_count_from reach from n bank) e;
  }

  -- none was seen later
  pub range_past : (step : ℕ) (counts : List ℕ) (seen : ℕ → ℕ) → RangeCounted reach from banks moment step counts seen → (pair : ℕ) → seen pair ≤ moment
  range_past step counts seen so pair =
      by (met same_number own_number numbers_same (λ k. from + k) (key_by reach) (bank_at_path_number reach) (λ k. key_by reach (from + k)) reach.paths.count banks step pair) (so.was pair) (so.was_not pair)
    where
      at_moment : (m n : ℕ) → m ≡ n → m ≤ n
      at_moment m n e = omega (arith, e)

      before : (m n : ℕ) → m < n → m ≤ n
      before m n e = omega (arith, e)

      by : (b : Bool) → (b ≡ true → seen pair ≡ moment) → (b ≡ false → seen pair < moment) → seen pair ≤ moment
      by true e f = at_moment (seen pair) moment (e refl)
      by false e f = before (seen pair) moment (f refl)

  -- A path more.
  module _ (step : ℕ) (counts : List ℕ) (seen : ℕ → ℕ) (tells : TellsPaths reach) (so : RangeCounted reach from banks moment step counts seen) where
    pub range_few : (bank : ℕ) → bank < banks → slice_index counts bank ≤ step
    range_few bank inside =
        count_few same_number own_number numbers_same (λ k. from + k) (key_by reach) (bank_at_path_number reach) (λ k. key_by reach (from + k)) reach.paths.count banks
        (λ n. tells.below (from + n)) (λ m n. refl) moment step counts seen so bank inside

    pub range_beyond : (bank : ℕ) → bank ≡ bank_at_path_number reach (from + step) → banks ≤ bank → RangeCounted reach from banks moment (step + 1) counts seen
    range_beyond bank is out =
        subst (λ (m : ℕ). RangeCounted reach from banks moment m counts seen) (sym (add-one step))
        (counts_beyond same_number own_number numbers_same (λ k. from + k) (key_by reach) (bank_at_path_number reach) (λ k. key_by reach (from + k)) reach.paths.count banks
        (λ n. tells.below (from + n)) (λ m n. refl) moment step counts seen so (subst (λ (b : ℕ). banks ≤ b) is out))

    pub range_turn : (bank key pair : ℕ) (counts1 : List ℕ) (seen1 : ℕ → ℕ) → bank ≡ bank_at_path_number reach (from + step) → key ≡ key_by reach (from + step) → pair ≡ bank * reach.paths.count + key → bank < banks
        → counts1 ≡ bank_counts_raised (seen pair == moment) counts bank → seen1 ≡ with_number seen pair moment → RangeCounted reach from banks moment (step + 1) counts1 seen1
    range_turn bank key pair counts1 seen1 is keyed paired inside rises marked =
        subst (λ (m : ℕ). RangeCounted reach from banks moment m counts1 seen1) (sym (add-one step)) (by (cases_Bool (seen pair == moment)))
      where
        within : bank_at_path_number reach (from + step) < banks
        within = subst (λ (b : ℕ). b < banks) is inside

        pair_is : pair ≡ bank_at_path_number reach (from + step) * reach.paths.count + key_by reach (from + step)
        pair_is = paired ∙ (ap (λ b. b * reach.paths.count + key) is ∙ ap (λ k. bank_at_path_number reach (from + step) * reach.paths.count + k) keyed)

        by : ((seen pair == moment) ≡ true) ⊎ ((seen pair == moment) ≡ false) → RangeCounted reach from banks moment (suc step) counts1 seen1
        by (inl e) =
            counts_same same_number own_number numbers_same (λ k. from + k) (key_by reach) (bank_at_path_number reach) (λ k. key_by reach (from + k)) reach.paths.count banks
            (λ n. tells.below (from + n)) (λ m n. refl) moment step counts seen so within seen1 (not (seen pair == moment)) pair pair_is marked refl counts1 (ap not e) (rises ∙ ap (λ b. bank_counts_raised b counts bank) e)
        by (inr e) =
            counts_more same_number own_number numbers_same (λ k. from + k) (key_by reach) (bank_at_path_number reach) (λ k. key_by reach (from + k)) reach.paths.count banks
            (λ n. tells.below (from + n)) (λ m n. refl) moment step counts seen so within seen1 (not (seen pair == moment)) pair pair_is marked refl counts1 (ap not e)
            (rises ∙ (ap (λ b. bank_counts_raised b counts bank) e ∙ ap (λ b. slice_set counts b (slice_index counts b + 1)) is))

-- no bank is reached with more keys than there are paths
pub keys_from_most : (reach : PathReach) (from many bank : ℕ) → key_count_from reach from many bank ≤ many
keys_from_most reach from many bank = reaching_most same_number own_number numbers_same (λ k. from + k) (key_by reach) (bank_at_path_number reach) (λ k. key_by reach (from + k)) reach.paths.count 0 many bank

-- what an access names itself and what its dimensions tell: one of them is 0
pub record Alone (own told : ℕ) : Type 0 where
  pub alone : (own ≡ 0) ⊎ (told ≡ 0)
  pub few : told ≤ 4096

pub alone_of : (reach : PathReach) (number told : ℕ) → TellsPaths reach → told ≡ bank_of_lanes reach.paths.levels.items reach.lanes.items number → Alone reach.own told
alone_of reach number told tells e = record {
  alone = by tells.alone;
  few = within told (bank_of_lanes reach.paths.levels.items reach.lanes.items number) (all_lane_banks reach.lanes.items) e (bank_most reach.paths.levels.items reach.lanes.items number tells.lanes.banks) tells.lanes.few;
}
  where
    within : (t n m : ℕ) → t ≡ n → n ≤ m → m ≤ 4096 → t ≤ 4096
    within t n m e f g = omega (arith, e, f, g)

    by : (reach.own ≡ 0) ⊎ (reach.lanes.items ≡ []) → (reach.own ≡ 0) ⊎ (told ≡ 0)
    by (inl z) = inl z
    by (inr l) = inr (e ∙ ap (λ ls. bank_of_lanes reach.paths.levels.items ls number) l)

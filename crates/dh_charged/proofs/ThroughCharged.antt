-- Through views a leader's place is below what the access charges on each bank that it may reach: the leaders before it in
-- its group are within what is carried of that group, and those of earlier groups on one bank within what is carried of
-- theirs, which behind a shift every bank is charged with.
use Rattle.std.proofs.Common.{◌≡◌, ◌⊎◌, inl, inr, ℕ, zero, suc, ◌+◌, ◌<◌, ◌≤◌, ◌==◌, ◌&&◌, max, Bool, true, false, if◌then◌else◌, List, [], ◌∷◌, map, take, get_or, length, refl, ap, sym, ◌∙◌, subst, arith}
use Rattle.std.specs.List.{filter}
use Rattle.std.specs.Set.{distinct_count}
use Rattle.std.proofs.lemmas.Bool.{cases_lt, eqb-true}
use Rattle.dh_tree.specs.declared.tables.Dim.{Dim}
use Rattle.dh_tree.specs.Elements.{banks_of}
use Rattle.dh_tree.specs.PlainTrees.{Program}
use Rattle.dh_viewing.specs.Carried.{HasShift, carried_by}
use Rattle.dh_meaning.specs.Paths.{Path, copies_in, paths_in, same_path}
use Rattle.dh_meaning.specs.Ways.{Way, all_bindings_of}
use Rattle.dh_code.specs.Ranks.{rank_of}
use Rattle.dh_code.proofs.PathsInOrder.{length_paths}
use Rattle.dh_meets.specs.Charges.{bank_named, charge_through, depends, groups_of, keys_in_group, may_reach, paths_of, picked}
use Rattle.dh_meets.specs.SourceEvents.{SourceAccess}
use Rattle.dh_ways.specs.Leading.{StepsLead, next_dims}
use Rattle.dh_carried.proofs.CarriedKeys.{same_key, same_list, whole_list}
use Rattle.dh_carried.proofs.Pigeons.{Has, has_mapped, has_unique}
use Rattle.dh_expressions.specs.declared.paths.Level.{Level}
use Rattle.dh_expressions.specs.Copying.{groups_by}
use Rattle.dh_expressions.specs.Counting.{carried_before, copy_place, leaders_in, most_in}
use Rattle.dh_expressions.specs.Levels.{leader_number, path_at}
use Rattle.dh_commands.specs.ShownVariables.{level_factors}
use Rattle.dh_blocks.specs.PathsOfLevels.{AreSpread}
use Rattle.dh_blocks.proofs.PathNumbers.{numbered}
use Rattle.dh_charged.proofs.ChargesThrough.{charged_everywhere, charged_more}
use Rattle.dh_charged.proofs.GroupSums.{Carrier, HasCarrier, carried_within, sum_below}
use Rattle.dh_charged.proofs.KeysLed.{all_leaders_are_keys}
use Rattle.dh_charged.proofs.PathGroups.{group_rank, group_tested}

-- The most on one bank.

module _ (leader bank group : ℕ → ℕ) where
  -- a leader of a group, behind which as many stand on its bank as the most
  record Attained (g n : ℕ) : Type 0 where
    pub path : ℕ
    pub below : path < n
    pub leads : leader path ≡ path
    pub own : group path ≡ g
    pub most : most_in leader bank group g n ≡ suc (leaders_in leader bank group g (bank path) path)

  -- how many leaders stand on its bank behind that of a path
  abbrev behind : (g n : ℕ) → ℕ
  behind g n = suc (leaders_in leader bank group g (bank n) n)

  most_attained : (g n : ℕ) → (most_in leader bank group g n ≡ 0) ⊎ Attained g n
  most_attained g zero = inl refl
  most_attained g (suc n) = by (leader n == n) (group n == g) refl refl (most_attained g n)
    where
      more : (m n : ℕ) → m < n → m < suc n
      more m n e = omega (arith, e)

      own : (n : ℕ) → n < suc n
      own n = omega arith

      right : (a b : ℕ) → a < b → max a b ≡ b
      right a b l = grind (arith, l)

      left : (a b : ℕ) → b ≤ a → max a b ≡ a
      left a b l = grind (arith, l)

      kept : most_in leader bank group g (suc n) ≡ most_in leader bank group g n → (most_in leader bank group g n ≡ 0) ⊎ Attained g n → (most_in leader bank group g (suc n) ≡ 0) ⊎ Attained g (suc n)
      kept e (inl z) = inl (e ∙ z)
      kept e (inr at) = inr (record { path = at.path; below = more at.path n at.below; leads = at.leads; own = at.own; most = e ∙ at.most })

      step : (s t : Bool) → (leader n == n) ≡ s → (group n == g) ≡ t → most_in leader bank group g (suc n) ≡ (if s && t then max (most_in leader bank group g n) (behind g n) else most_in leader bank group g n)
      step s t e f =
          ap (λ b. if b && (group n == g) then max (most_in leader bank group g n) (behind g n) else most_in leader bank group g n) e
          ∙ ap (λ b. if s && b then max (most_in leader bank group g n) (behind g n) else most_in leader bank group g n) f

      by : (s t : Bool) → (leader n == n) ≡ s → (group n == g) ≡ t → (most_in leader bank group g n ≡ 0) ⊎ Attained g n → (most_in leader bank group g (suc n) ≡ 0) ⊎ Attained g (suc n)
      by false t e f before = kept (step false t e f) before
      by true false e f before = kept (step true false e f) before
      by true true e f before = elim (cases_lt (most_in leader bank group g n) (behind g n)) [
        | inl l ↦ inr (record { path = n; below = own n; leads = eqb-true (leader n) n e; own = eqb-true (group n) g f; most = step true true e f ∙ right (most_in leader bank group g n) (behind g n) l })
        | inr l ↦ kept (step true true e f ∙ left (most_in leader bank group g n) (behind g n) l) before
      ]

  before_sum : (k n : ℕ) → carried_before leader bank group k n ≡ sum_below (λ g. most_in leader bank group g n) k
  before_sum zero n = refl
  before_sum (suc k) n = ap (λ m. m + most_in leader bank group k n) (before_sum k n)

-- Of an access through a way, where its loops are these levels, by the banks of what is named that are reached there.
module _ (p : Program) (w : Way) (a : SourceAccess) (dims : List Dim) (lead : StepsLead w.steps dims) (levels : List Level) (s : AreSpread levels) (paths : paths_of a ≡ paths_in (level_factors levels))
    (bank : ℕ → ℕ) (bank_is : (k : ℕ) → bank k ≡ bank_named p w a (path_at levels k)) (inside : (k : ℕ) → bank k < banks_of (next_dims w.steps dims)) (shifts : (w.shifts ≡ 0) ⊎ HasShift (map (λ s. s.is) w.steps)) where
  abbrev copies : ℕ
  copies = copies_in (level_factors levels)

  abbrev leader : ℕ → ℕ
  leader n = leader_number levels (depends (all_bindings_of p) a) n

  abbrev group : ℕ → ℕ
  group n = groups_by levels w.shifts n

  abbrev begin : ℕ → Path
  begin n = take w.shifts (path_at levels n)

  through : (x y z : ℕ) → x ≤ y → y ≤ z → x ≤ z
  through x y z e f = omega (arith, e, f)

  -- the leaders of a group on a bank are no more than its keys there
  named_within : (n : ℕ) → n < copies → leader n ≡ n → suc (leaders_in leader bank group (group n) (bank n) n) ≤ keys_in_group p w a (begin n) (bank n)
  named_within n below leads =
      subst (λ (l : List Path). suc (leaders_in leader bank group (group n) (bank n) n) ≤ distinct_count same_path (map (picked (depends (all_bindings_of p) a) 0) (filter picks l))) (sym paths)
      ((all_leaders_are_keys levels s (depends (all_bindings_of p) a)).on_bank picks bank group (group n) (bank n) n told below leads refl refl)
    where
      picks : Path → Bool
      picks q = same_path (take w.shifts q) (begin n) && (bank_named p w a q == bank n)

      told : (k : ℕ) → k < copies → ((group k == group n) && (bank k == bank n)) ≡ picks (path_at levels k)
      told k l = ap (λ b. b && (bank k == bank n)) (group_tested levels s w.shifts k n l below) ∙ ap (λ m. same_path (begin k) (begin n) && (m == bank n)) (bank_is k)

  has_at : (ps : List Path) (n : ℕ) → n < length ps → Has (get_or ps n []) ps
  has_at [] n l = absurd (none n l)
    where
      none : (m : ℕ) → m < 0 → ⊥
      none m l = omega (arith, l)
  has_at (q ∷ ps) zero l = inl refl
  has_at (q ∷ ps) (suc n) l = inr (has_at ps n (less n (length ps) l))
    where
      less : (m n : ℕ) → suc m < suc n → m < n
      less m n l = omega (arith, l)

  listed : (n : ℕ) → n < copies → Has (path_at levels n) (paths_in (level_factors levels))
  listed n below =
      subst (λ (q : Path). Has q (paths_in (level_factors levels))) (numbered levels s n below).listed
      (has_at (paths_in (level_factors levels)) n (subst (λ (m : ℕ). n < m) (sym (length_paths (level_factors levels))) below))

  group_there : (n : ℕ) → n < copies → Has (begin n) (groups_of w a)
  group_there n below =
      has_unique same_key same_list whole_list (begin n) (map (λ path. take w.shifts path) (paths_of a))
      (has_mapped (λ path. take w.shifts path) (path_at levels n) (paths_of a) (subst (λ (l : List Path). Has (path_at levels n) l) (sym paths) (listed n below)))

  module _ (target : ℕ) where
    -- what a group carries to the bank
    abbrev carries : Path → ℕ
    carries q = carried_by (map (λ s. s.is) w.steps) (keys_in_group p w a q) target

    abbrev rank : Path → ℕ
    rank q = rank_of (take w.shifts (level_factors levels)) q

    -- the most of an earlier group
    earlier : (n g : ℕ) → n < copies → HasShift (map (λ s. s.is) w.steps) → HasCarrier carries rank (groups_of w a) g (most_in leader bank group g n)
    earlier n g below shift = by (most_attained leader bank group g n)
      where
        less : (k n m : ℕ) → k < n → n < m → k < m
        less k n m l e = omega (arith, l, e)

        by : (most_in leader bank group g n ≡ 0) ⊎ Attained leader bank group g n → HasCarrier carries rank (groups_of w a) g (most_in leader bank group g n)
        by (inl none) = inl none
        by (inr at) =
            let l = less at.path n copies at.below below in
            inr (record {
              member = begin at.path;
              there = group_there at.path l;
              own = sym (group_rank levels s w.shifts at.path l) ∙ at.own;
              carries = subst (λ (m : ℕ). m ≤ carries (begin at.path)) (sym at.most)
                  (subst (λ (i : ℕ). suc (leaders_in leader bank group i (bank at.path) at.path) ≤ carries (begin at.path)) at.own
                  (through _ (keys_in_group p w a (begin at.path) (bank at.path)) _ (named_within at.path l at.leads)
                  (charged_everywhere w.steps dims (keys_in_group p w a (begin at.path)) (bank at.path) target lead shift (inside at.path))));
            })

    pub within : (n : ℕ) → n < copies → leader n ≡ n → may_reach w.steps (bank n) target ≡ true → suc (copy_place leader bank group n) ≤ charge_through p w a target
    within n below leads reached =
        last (leaders_in leader bank group (group n) (bank n) n) (carried_before leader bank group (group n) n) (sum_below (λ g. most_in leader bank group g n) (group n)) (charge_through p w a target)
        (before_sum leader bank group (group n) n)
        (carried_within carries rank (λ g. most_in leader bank group g n) (groups_of w a) (group n) (suc (leaders_in leader bank group (group n) (bank n) n)) (λ g l. by g l shifts) own)
      where
        last : (x y z c : ℕ) → y ≡ z → z + suc x ≤ c → suc (x + y) ≤ c
        last x y z c e l = omega (arith, e, l)

        first : w.shifts ≡ 0 → group n ≡ 0
        first e = ap (λ (d : ℕ). groups_by levels d n) e

        none : (g m : ℕ) → g < m → m ≡ 0 → ⊥
        none g m l e = omega (arith, l, e)

        by : (g : ℕ) → g < group n → (w.shifts ≡ 0) ⊎ HasShift (map (λ s. s.is) w.steps) → HasCarrier carries rank (groups_of w a) g (most_in leader bank group g n)
        by g l (inl e) = absurd (none g (group n) l (first e))
        by g l (inr shift) = earlier n g below shift

        own : Carrier carries rank (groups_of w a) (group n) (suc (leaders_in leader bank group (group n) (bank n) n))
        own = record {
          member = begin n;
          there = group_there n below;
          own = sym (group_rank levels s w.shifts n below);
          carries = through _ (keys_in_group p w a (begin n) (bank n)) _ (named_within n below leads) (charged_more w.steps dims (keys_in_group p w a (begin n)) (bank n) target lead (inside n) reached);
        }

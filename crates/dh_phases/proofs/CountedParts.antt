-- Numbers behind accesses, while lists of expressions and commands are walked over.
use Rattle.std.proofs.Common.{◌≡◌, ℕ, suc, [], ◌+◌, ◌-◌, ◌^◌, ◌<◌, ◌≤◌, min, List, length, get_or, drop, map, inl, inr, refl, ap, sym, subst, ◌∙◌, arith}
use Rattle.std.specs.Prelude.{Vec}
use Rattle.std.specs.Global.{Global}
use Rattle.std.proofs.lemmas.Bool.{cases_lt}
use Rattle.std.proofs.Math.Nat.{add_assoc, add-zero, min-eq_left, min-eq_right, min-le_right}
use Rattle.dh_base.proofs.ListItems.{at_item}
use Rattle.dh_meaning.specs.AccessNumbers.{term_accesses, terms_accesses, plan_accesses, accesses_of, part_accesses, groups_accesses}
use Rattle.dh_tree.specs.declared.trees.commands.Command.{Command}
use Rattle.dh_tree.specs.declared.trees.expressions.Expr.{Expr}
use Rattle.dh_tree.specs.PlainTrees.{suffixes}
use Rattle.dh_tree.specs.Seen.{term_seen, all_terms_seen, factor_seen, action_seen, actions, all_parts_seen}
use Rattle.dh_phases.specs.Counted.{behind}

-- sums up to a greatest number
cut_twice : (n a b most : ℕ) → min (min (n + a) most + b) most ≡ min (n + (a + b)) most
cut_twice n a b most = elim (cases_lt most (n + a)) [
  | inl above ↦
      (let cut = min-eq_right {n = most} {m = n + a} (omega (arith, above)) in
      let left = min-eq_right {n = most} {m = min (n + a) most + b} (omega (arith, cut)) in
      let right = min-eq_right {n = most} {m = n + (a + b)} (omega (arith, above)) in
      left ∙ sym right)
  | inr within ↦ ap (λ k. min (k + b) most) (min-eq_left {n = n + a} {m = most} within) ∙ ap (λ k. min k most) (add_assoc n a b)
]

-- so many, and so many more
pub behind_twice : (n a b : ℕ) → behind (behind n a) b ≡ behind n (a + b)
behind_twice n a b = cut_twice n a b (2 ^ 32 - 1)

few_kept : (k most : ℕ) → k < suc most → min k most ≡ k
few_kept k most few = min-eq_left {n = k} {m = most} (omega (arith, few))

-- few enough are not cut
pub behind_few : (n a : ℕ) → n + a < 2 ^ 32 → behind n a ≡ n + a
behind_few n a few = few_kept (n + a) (2 ^ 32 - 1) few

-- a number of the code is none that is cut
pub behind_none : (n : ℕ) → n ≤ 2 ^ 32 - 1 → behind n 0 ≡ n
behind_none n small = ap (λ k. min k (2 ^ 32 - 1)) (add-zero n) ∙ min-eq_left small

pub behind_small : (n a : ℕ) → behind n a ≤ 2 ^ 32 - 1
behind_small n a = min-le_right (n + a) (2 ^ 32 - 1)

-- a number of the code, behind which so many are left, where behind another there are so many in all
pub record Left (next rest first all : ℕ) : Type 0 where
  pub fits : next ≤ 2 ^ 32 - 1
  pub counted : behind next rest ≡ behind first all

pub left_first : (first all : ℕ) → first ≤ 2 ^ 32 - 1 → Left first all first all
left_first first all small = record { fits = small; counted = refl }

pub left_turn : (now next own rest first all left : ℕ) → next ≡ behind now own → left ≡ own + rest → Left now left first all → Left next rest first all
left_turn now next own rest first all left told is l = record {
  fits = subst (λ n. n ≤ 2 ^ 32 - 1) (sym told) (behind_small now own);
  counted = ap (λ n. behind n rest) told ∙ (behind_twice now own rest ∙ (ap (λ n. behind now n) (sym is) ∙ l.counted));
}

pub left_last : (next first all rest : ℕ) → rest ≡ 0 → Left next rest first all → next ≡ behind first all
left_last next first all rest none l = sym (behind_none next l.fits) ∙ (ap (λ n. behind next n) (sym none) ∙ l.counted)

pub next_term : (now next first all : ℕ) (es : List Expr) (i : ℕ) (e : Expr) → i < length es → e ≡ get_or es i e → next ≡ behind now (term_accesses (term_seen e))
    → Left now (terms_accesses (all_terms_seen (drop i es))) first all → Left next (terms_accesses (all_terms_seen (drop (i + 1) es))) first all
next_term now next first all es i e within is told l =
    left_turn now next (term_accesses (term_seen e)) (terms_accesses (all_terms_seen (drop (i + 1) es))) first all (terms_accesses (all_terms_seen (drop i es))) told
    (ap (λ xs. terms_accesses (all_terms_seen xs)) (at_item es i e within is)) l

-- those of the offsets of a suffix
abbrev pub suffixes_left : List (ℕ × Expr) → ℕ
suffixes_left by = plan_accesses (suffixes (map factor_seen by) [])

pub next_pair : (now next first all : ℕ) (by : List (ℕ × Expr)) (i : ℕ) (p : ℕ × Expr) → i < length by → p ≡ get_or by i p → next ≡ behind now (term_accesses (term_seen p.1))
    → Left now (suffixes_left (drop i by)) first all → Left next (suffixes_left (drop (i + 1) by)) first all
next_pair now next first all by i p within is told l =
    left_turn now next (term_accesses (term_seen p.1)) (suffixes_left (drop (i + 1) by)) first all (suffixes_left (drop i by)) told (ap suffixes_left (at_item by i p within is)) l

-- what is left of a part, and of the parts behind it
abbrev pub left_of : List Command → ℕ → List (Vec Command Global) → ℕ → ℕ
left_of cs k ps i = part_accesses (actions (map action_seen (drop k cs))) + groups_accesses (all_parts_seen (drop i ps))

pub next_command : (now next first all : ℕ) (cs : List Command) (k : ℕ) (c : Command) (ps : List (Vec Command Global)) (i : ℕ) → k < length cs → c ≡ get_or cs k c
    → next ≡ behind now (accesses_of (action_seen c)) → Left now (left_of cs k ps i) first all → Left next (left_of cs (k + 1) ps i) first all
next_command now next first all cs k c ps i within is told l =
    let parts = groups_accesses (all_parts_seen (drop i ps)) in
    let rest = part_accesses (actions (map action_seen (drop (k + 1) cs))) in
    left_turn now next (accesses_of (action_seen c)) (rest + parts) first all (left_of cs k ps i) told
    (ap (λ xs. part_accesses (actions (map action_seen xs)) + parts) (at_item cs k c within is) ∙ add_assoc (accesses_of (action_seen c)) rest parts) l

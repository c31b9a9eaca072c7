-- Sums that stop at the greatest number of the code, while lists of expressions and commands are walked over.
use Rattle.std.proofs.Common.{◌≡◌, ℕ, zero, suc, ◌+◌, ◌-◌, ◌*◌, ◌^◌, ◌<◌, ◌≤◌, min, List, length, get_or, drop, map, inl, inr, refl, ap, sym, subst, ◌∙◌, arith}
use Rattle.std.specs.Prelude.{Vec}
use Rattle.std.specs.Global.{Global}
use Rattle.std.proofs.lemmas.Bool.{cases_lt}
use Rattle.std.proofs.Math.Nat.{add_assoc, add-zero, min-eq_left, min-eq_right, min-le_right}
use Rattle.dh_base.proofs.ListItems.{at_item}
use Rattle.dh_plan.specs.PlanSizes.{term_operators, terms_operators, own_operators}
use Rattle.dh_tree.specs.PlainTrees.{Term, Action, ActionForm, decides, MaybeAction}
use Rattle.dh_tree.specs.declared.trees.commands.Command.{Command}
use Rattle.dh_tree.specs.declared.trees.expressions.Expr.{Expr}
use Rattle.dh_tree.specs.Seen.{term_seen, all_terms_seen, action_seen, actions, all_parts_seen}
use Rattle.dh_size.specs.Summed.{suffix_operators, capped_sum, unit_size, unit_inside, other_unit, part_unit, groups_unit}

-- sums up to a greatest number
cut_twice : (n a b most : ℕ) → min (min (n + a) most + b) most ≡ min (n + (a + b)) most
cut_twice n a b most = elim (cases_lt most (n + a)) [
  | inl above ↦
      (let cut = min-eq_right {n = most} {m = n + a} (omega (arith, above)) in
      let left = min-eq_right {n = most} {m = min (n + a) most + b} (omega (arith, cut)) in
      let right = min-eq_right {n = most} {m = n + (a + b)} (omega (arith, above)) in
      left ∙ sym right)
  | inr within ↦ ap (λ k. min (k + b) most) (min-eq_left {n = n + a} {m = most} within) ∙ ap (λ k. min k most) (add_assoc n a b)
]

-- products up to it
pub cut_times : (f x most : ℕ) → min (f * min x most) most ≡ min (f * x) most
cut_times zero x most = ap (λ k. min k most) (nothing (min x most) x)
  where
    nothing : (a b : ℕ) → 0 * a ≡ 0 * b
    nothing a b = omega arith
cut_times (suc f) x most = elim (cases_lt most x) [
  | inl above ↦
      (let cut = min-eq_right {n = most} {m = x} (omega (arith, above)) in
      ap (λ k. min (suc f * k) most) cut ∙ (min-eq_right {n = most} {m = suc f * most} (large f most) ∙ sym (min-eq_right {n = most} {m = suc f * x} (larger f most x (omega (arith, above))))))
  | inr within ↦ ap (λ k. min (suc f * k) most) (min-eq_left {n = x} {m = most} within)
]
  where
    large : (f m : ℕ) → m ≤ suc f * m
    large f m = grind arith

    larger : (f m x : ℕ) → m ≤ x → m ≤ suc f * x
    larger f m x e = grind arith

-- so much, and so much more
pub summed_twice : (n a b : ℕ) → capped_sum (capped_sum n a) b ≡ capped_sum n (a + b)
summed_twice n a b = cut_twice n a b (2 ^ 64 - 1)

-- a number of the code is none that is cut
pub summed_none : (n : ℕ) → n ≤ 2 ^ 64 - 1 → capped_sum n 0 ≡ n
summed_none n small = ap (λ k. min k (2 ^ 64 - 1)) (add-zero n) ∙ min-eq_left small

pub summed_small : (n a : ℕ) → capped_sum n a ≤ 2 ^ 64 - 1
summed_small n a = min-le_right (n + a) (2 ^ 64 - 1)

-- a sum of the code, to which so much is still to come, where another and so much are all
pub record Left (next rest first all : ℕ) : Type 0 where
  pub fits : next ≤ 2 ^ 64 - 1
  pub counted : capped_sum next rest ≡ capped_sum first all

pub left_first : (first all : ℕ) → first ≤ 2 ^ 64 - 1 → Left first all first all
left_first first all small = record { fits = small; counted = refl }

pub left_turn : (now next own rest first all left : ℕ) → next ≡ capped_sum now own → left ≡ own + rest → Left now left first all → Left next rest first all
left_turn now next own rest first all left told is l = record {
  fits = subst (λ n. n ≤ 2 ^ 64 - 1) (sym told) (summed_small now own);
  counted = ap (λ n. capped_sum n rest) told ∙ (summed_twice now own rest ∙ (ap (λ n. capped_sum now n) (sym is) ∙ l.counted));
}

pub left_last : (next first all rest : ℕ) → rest ≡ 0 → Left next rest first all → next ≡ capped_sum first all
left_last next first all rest none l = sym (summed_none next l.fits) ∙ (ap (λ n. capped_sum next n) (sym none) ∙ l.counted)

pub next_term : (now next first all : ℕ) (es : List Expr) (i : ℕ) (e : Expr) → i < length es → e ≡ get_or es i e → next ≡ capped_sum now (term_operators (term_seen e))
    → Left now (terms_operators (all_terms_seen (drop i es))) first all → Left next (terms_operators (all_terms_seen (drop (i + 1) es))) first all
next_term now next first all es i e within is told l =
    left_turn now next (term_operators (term_seen e)) (terms_operators (all_terms_seen (drop (i + 1) es))) first all (terms_operators (all_terms_seen (drop i es))) told
    (ap (λ xs. terms_operators (all_terms_seen xs)) (at_item es i e within is)) l

pub next_suffix : (now next first all : ℕ) (by : List (ℕ × Expr)) (i : ℕ) (e : ℕ × Expr) → i < length by → e ≡ get_or by i e → next ≡ capped_sum now (term_operators (term_seen e.1))
    → Left now (suffix_operators (drop i by)) first all → Left next (suffix_operators (drop (i + 1) by)) first all
next_suffix now next first all by i e within is told l =
    left_turn now next (term_operators (term_seen e.1)) (suffix_operators (drop (i + 1) by)) first all (suffix_operators (drop i by)) told (ap suffix_operators (at_item by i e within is)) l

-- what is left of a part, and of the parts behind it
abbrev pub left_of : List Command → ℕ → List (Vec Command Global) → ℕ → ℕ
left_of cs k ps i = part_unit (actions (map action_seen (drop k cs))) + groups_unit (all_parts_seen (drop i ps))

pub next_command : (now next first all : ℕ) (cs : List Command) (k : ℕ) (c : Command) (ps : List (Vec Command Global)) (i : ℕ) → k < length cs → c ≡ get_or cs k c
    → next ≡ capped_sum now (unit_size (action_seen c)) → Left now (left_of cs k ps i) first all → Left next (left_of cs (k + 1) ps i) first all
next_command now next first all cs k c ps i within is told l =
    let parts = groups_unit (all_parts_seen (drop i ps)) in
    let rest = part_unit (actions (map action_seen (drop (k + 1) cs))) in
    left_turn now next (unit_size (action_seen c)) (rest + parts) first all (left_of cs k ps i) told
    (ap (λ xs. part_unit (actions (map action_seen xs)) + parts) (at_item cs k c within is) ∙ add_assoc (unit_size (action_seen c)) rest parts) l

-- Commands.

four : (sum a b c d : ℕ) → capped_sum (capped_sum (capped_sum (capped_sum sum a) b) c) d ≡ capped_sum sum (a + (b + (c + d)))
four sum a b c d =
    ap (λ n. capped_sum (capped_sum n c) d) (summed_twice sum a b)
    ∙ (ap (λ n. capped_sum n d) (summed_twice sum (a + b) c) ∙ (summed_twice sum (a + b + c) d ∙ ap (capped_sum sum) (grouped a b c d)))
  where
    grouped : (a b c d : ℕ) → a + b + c + d ≡ a + (b + (c + d))
    grouped a b c d = omega arith

pub if_summed : (sum own tests next result : ℕ) (form : ActionForm) (test : Term) (chosen : Action) (other : MaybeAction) → form ≡ decides test chosen other
    → own ≡ capped_sum sum 1 → tests ≡ capped_sum own (term_operators test) → next ≡ capped_sum tests (unit_size chosen) → result ≡ capped_sum next (other_unit other)
    → result ≡ capped_sum sum (suc (own_operators form) + unit_inside form)
if_summed sum own tests next result form test chosen other is e f g h =
    h
    ∙ (ap (λ n. capped_sum n (other_unit other)) (g ∙ ap (λ n. capped_sum n (unit_size chosen)) (f ∙ ap (λ n. capped_sum n (term_operators test)) e))
    ∙ (four sum 1 (term_operators test) (unit_size chosen) (other_unit other)
    ∙ (ap (capped_sum sum) (first (term_operators test) (unit_size chosen + other_unit other)) ∙ ap (λ x. capped_sum sum (suc (own_operators x) + unit_inside x)) (sym is))))
  where
    first : (a b : ℕ) → 1 + (a + b) ≡ suc a + b
    first a b = omega arith

pub for_summed : (sum own turn inner product result f : ℕ) (form : ActionForm) (body : Action) (combine : MaybeAction) → unit_inside form ≡ f * (unit_size body + other_unit combine) → own_operators form ≡ 0
    → own ≡ capped_sum sum 1 → turn ≡ capped_sum 0 (unit_size body) → inner ≡ capped_sum turn (other_unit combine) → product ≡ min (f * inner) (2 ^ 64 - 1) → result ≡ min (own + product) (2 ^ 64 - 1)
    → result ≡ capped_sum sum (suc (own_operators form) + unit_inside form)
for_summed sum own turn inner product result f form body combine is none e g h i j =
    let all = h ∙ (ap (λ n. capped_sum n (other_unit combine)) g ∙ (summed_twice 0 (unit_size body) (other_unit combine) ∙ from_none (unit_size body + other_unit combine))) in
    let times = i ∙ (ap (λ n. min (f * n) (2 ^ 64 - 1)) all ∙ cut_times f (unit_size body + other_unit combine) (2 ^ 64 - 1)) in
    j
    ∙ (ap (λ n. min (n + product) (2 ^ 64 - 1)) e
    ∙ (ap (λ n. min (capped_sum sum 1 + n) (2 ^ 64 - 1)) times
    ∙ (cut_later (capped_sum sum 1) (f * (unit_size body + other_unit combine)) (2 ^ 64 - 1)
    ∙ (summed_twice sum 1 (f * (unit_size body + other_unit combine))
    ∙ (ap (λ n. capped_sum sum (1 + n)) (sym is) ∙ ap (λ n. capped_sum sum (suc n + unit_inside form)) (sym none))))))
  where
    from_none : (n : ℕ) → capped_sum 0 n ≡ min n (2 ^ 64 - 1)
    from_none n = ap (λ k. min k (2 ^ 64 - 1)) (zero_first n)
      where
        zero_first : (n : ℕ) → 0 + n ≡ n
        zero_first n = omega arith

    cut_later : (a b most : ℕ) → min (a + min b most) most ≡ min (a + b) most
    cut_later a b most = elim (cases_lt most b) [
      | inl above ↦
          (let cut = min-eq_right {n = most} {m = b} (omega (arith, above)) in
          let left = min-eq_right {n = most} {m = a + min b most} (omega (arith, cut)) in
          let right = min-eq_right {n = most} {m = a + b} (omega (arith, above)) in
          left ∙ sym right)
      | inr within ↦ ap (λ k. min (a + k) most) (min-eq_left {n = b} {m = most} within)
    ]

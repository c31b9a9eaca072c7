-- The accesses of a command are numbered in order of evaluation.
use Rattle.std.proofs.Common.{◌≡◌, ℕ, zero, suc, ◌+◌, ◌<◌, ◌≤◌, ◌||◌, nat_lt, Bool, true, false, sym, subst, arith, ◌⊎◌, inl, inr}
use Rattle.std.proofs.lemmas.Bool.{cases_lt}
use Rattle.dh_tree.specs.Meets.{Meets, nothing, access, all, one, In, Distinct, Before}
use Rattle.dh_tree.specs.PlainTrees.{Action, action, ActionForm, lets, lets_memory, views, assigns, stores, reduces, calls, blocks, decides, repeats, counts, MaybeAction, no_action, one_action, Actions, no_actions, action_then, Groups, no_groups, group_then}
use Rattle.dh_meaning.specs.AccessNumbers.{term_accesses, maybe_accesses, plan_accesses, own_accesses, inner_accesses, accesses_of, other_accesses, groups_accesses, part_accesses}
use Rattle.dh_meets.specs.MayMeet.{row_of_accesses, arms_meet, meets, command_meets, other_meets, groups_meet, part_meets}

absurd : {A : Type 0} → ⊥ → A
absurd e = elim e [ ]

-- so many accesses from a first number on, in order
pub record Numbered (n m : ℕ) (t : Meets) : Type 0 where
  pub distinct : Distinct t
  pub inside : (k : ℕ) → n ≤ k → k < n + m → In k t
  pub first : (k : ℕ) → In k t → n ≤ k
  pub last : (k : ℕ) → In k t → k < n + m
  pub before : (x k : ℕ) → Before t x k → x < k
  pub behind : (x k : ℕ) → In x t → In k t → x < k → Before t x k

apart : (n m k : ℕ) → k < n + m → n + m ≤ k → ⊥
apart n m k e f = omega (arith, e, f)

between : (n m k x : ℕ) → x < n + m → n + m ≤ k → x < k
between n m k x e f = omega (arith, e, f)

below : (n m k : ℕ) → n + m ≤ k → n ≤ k
below n m k e = omega (arith, e)

longer : (n m p k : ℕ) → k < n + m → k < n + (m + p)
longer n m p k e = omega (arith, e)

regroup : (n m p k : ℕ) → k < n + m + p → k < n + (m + p)
regroup n m p k e = omega (arith, e)

grouped : (n m p k : ℕ) → k < n + (m + p) → k < n + m + p
grouped n m p k e = omega (arith, e)

pub numbered_nothing : (n : ℕ) → Numbered n 0 nothing
numbered_nothing n = record { distinct = tt; inside = λ k a b. none n k a b; first = λ k i. absurd i; last = λ k i. absurd i; before = λ x k e. absurd e; behind = λ x k i j e. absurd i }
  where
    none : (n k : ℕ) → n ≤ k → k < n + 0 → ⊥
    none n k a b = omega (arith, a, b)

pub numbered_access : (n : ℕ) → Numbered n 1 (access n)
numbered_access n = record { distinct = tt; inside = λ k a b. only n k a b; first = λ k i. least n k i; last = λ k i. most n k i; before = λ x k e. absurd e; behind = λ x k i j e. absurd (alone n x k i j e) }
  where
    alone : (n x k : ℕ) → x ≡ n → k ≡ n → x < k → ⊥
    alone n x k i j e = omega (arith, i, j, e)

    only : (n k : ℕ) → n ≤ k → k < n + 1 → k ≡ n
    only n k a b = omega (arith, a, b)

    least : (n k : ℕ) → k ≡ n → n ≤ k
    least n k e = omega (arith, e)

    most : (n k : ℕ) → k ≡ n → k < n + 1
    most n k e = omega (arith, e)

module _ (n m p : ℕ) (l r : Meets) (f : Numbered n m l) (g : Numbered (n + m) p r) where
  disjoint : (a : ℕ) → In a l → In a r → ⊥
  disjoint a i j = apart n m a (f.last a i) (g.first a j)

  which : (k : ℕ) → n ≤ k → k < n + (m + p) → In k l ⊎ In k r
  which k a b = elim (cases_lt k (n + m)) [ inl c ↦ inl (f.inside k a c) | inr c ↦ inr (g.inside k c (grouped n m p k b)) ]

  order : (x k : ℕ) → (In x l × In k r) ⊎ (Before l x k ⊎ Before r x k) → x < k
  order x k e = elim e [ inl i ↦ between n m k x (f.last x i.0) (g.first k i.1) | inr o ↦ elim o [ inl b ↦ f.before x k b | inr b ↦ g.before x k b ] ]

  least : (k : ℕ) → In k l ⊎ In k r → n ≤ k
  least k i = elim i [ inl j ↦ f.first k j | inr j ↦ below n m k (g.first k j) ]

  most : (k : ℕ) → In k l ⊎ In k r → k < n + (m + p)
  most k i = elim i [ inl j ↦ longer n m p k (f.last k j) | inr j ↦ regroup n m p k (g.last k j) ]

  back : (n m x k : ℕ) → n + m ≤ x → k < n + m → x < k → ⊥
  back n m x k e f g = omega (arith, e, f, g)

  from_order : (x k : ℕ) → In x l ⊎ In x r → In k l ⊎ In k r → x < k → (In x l × In k r) ⊎ (Before l x k ⊎ Before r x k)
  from_order x k (inl i) (inl j) e = inr (inl (f.behind x k i j e))
  from_order x k (inl i) (inr j) e = inl (i, j)
  from_order x k (inr i) (inl j) e = absurd (back n m x k (g.first x i) (f.last k j) e)
  from_order x k (inr i) (inr j) e = inr (inr (g.behind x k i j e))

  pub numbered_all : Numbered n (m + p) (all l r)
  numbered_all = record { distinct = ((f.distinct, g.distinct), disjoint); inside = which; first = least; last = most; before = order; behind = from_order }

  pub numbered_one : Numbered n (m + p) (one l r)
  numbered_one = record { distinct = ((f.distinct, g.distinct), disjoint); inside = which; first = least; last = most; before = order; behind = from_order }

numbered_row : (n m : ℕ) → Numbered n m (row_of_accesses n m)
numbered_row n zero = numbered_nothing n
numbered_row n (suc m) =
    subst (λ (k : ℕ). Numbered n k (row_of_accesses n (suc m))) (one_more m)
    (numbered_all n 1 m (access n) (row_of_accesses (suc n) m) (numbered_access n) (subst (λ (k : ℕ). Numbered k m (row_of_accesses (suc n) m)) (next_one n) (numbered_row (suc n) m)))
  where
    one_more : (m : ℕ) → 1 + m ≡ suc m
    one_more m = omega arith

    next_one : (n : ℕ) → suc n ≡ n + 1
    next_one n = omega arith

at_sum : (n a b : ℕ) (t : Meets) → a ≡ b → Numbered n b t → Numbered n a t
at_sum n a b t e f = subst (λ (m : ℕ). Numbered n m t) (sym e) f

with_none : (x : ℕ) → x + 0 ≡ x
with_none x = omega arith

zero_more : (x : ℕ) → 0 + x ≡ x
zero_more x = omega arith

numbered_arms : (unrolled : Bool) (n m p : ℕ) (t u : Meets) → Numbered n m t → Numbered (n + m) p u → Numbered n (m + p) (arms_meet unrolled t u)
numbered_arms true n m p t u f g = numbered_all n m p t u f g
numbered_arms false n m p t u f g = numbered_one n m p t u f g

mutual
  pub numbered : (unrolled : Bool) (n : ℕ) (a : Action) → Numbered n (accesses_of a) (meets unrolled n a)
  numbered unrolled n (action id place form) = command_numbered unrolled n form

  command_numbered : (unrolled : Bool) (n : ℕ) (form : ActionForm) → Numbered n (own_accesses form + inner_accesses form) (command_meets unrolled n form)
  command_numbered unrolled n (lets name declared value) = at_sum n _ _ _ (with_none (maybe_accesses value)) (numbered_row n (maybe_accesses value))
  command_numbered unrolled n (lets_memory name shape shape_places value) = numbered_nothing n
  command_numbered unrolled n (views name parent form) = at_sum n _ _ _ (with_none (plan_accesses form)) (numbered_row n (plan_accesses form))
  command_numbered unrolled n (assigns target value) = at_sum n _ _ _ (with_none (term_accesses value)) (numbered_row n (term_accesses value))
  command_numbered unrolled n (stores target value) = at_sum n _ _ _ (with_none (term_accesses value + term_accesses target)) (numbered_row n (term_accesses value + term_accesses target))
  command_numbered unrolled n (reduces target op value) = at_sum n _ _ _ (with_none (term_accesses value)) (numbered_row n (term_accesses value))
  command_numbered unrolled n (calls function arguments) = numbered_nothing n
  command_numbered unrolled n (blocks body) = at_sum n _ _ _ (zero_more _) (groups_numbered unrolled n body)
  command_numbered unrolled n (decides test chosen other) =
      numbered_all n (term_accesses test) (accesses_of chosen + other_accesses other) _ _ (numbered_row n (term_accesses test))
      (numbered_arms unrolled (n + term_accesses test) (accesses_of chosen) (other_accesses other) _ _
      (numbered unrolled (n + term_accesses test) chosen) (other_numbered unrolled (n + term_accesses test + accesses_of chosen) other))
  command_numbered unrolled n (repeats test body) =
      numbered_one n (term_accesses test) (accesses_of body) _ _ (numbered_row n (term_accesses test)) (numbered unrolled (n + term_accesses test) body)
  command_numbered unrolled n (counts iterator declared low high factor body combine combine_place) =
      at_sum n _ _ _ (zero_more _) (numbered_all n (accesses_of body) (other_accesses combine) _ _ (numbered (unrolled || nat_lt 1 factor.value) n body) (other_numbered (unrolled || nat_lt 1 factor.value) (n + accesses_of body) combine))

  other_numbered : (unrolled : Bool) (n : ℕ) (o : MaybeAction) → Numbered n (other_accesses o) (other_meets unrolled n o)
  other_numbered unrolled n no_action = numbered_nothing n
  other_numbered unrolled n (one_action a) = numbered unrolled n a

  groups_numbered : (unrolled : Bool) (n : ℕ) (body : Groups) → Numbered n (groups_accesses body) (groups_meet unrolled n body)
  groups_numbered unrolled n no_groups = numbered_nothing n
  groups_numbered unrolled n (group_then part rest) =
      numbered_one n (part_accesses part) (groups_accesses rest) _ _ (part_numbered unrolled n part) (groups_numbered unrolled (n + part_accesses part) rest)

  part_numbered : (unrolled : Bool) (n : ℕ) (part : Actions) → Numbered n (part_accesses part) (part_meets unrolled n part)
  part_numbered unrolled n no_actions = numbered_nothing n
  part_numbered unrolled n (action_then a rest) =
      numbered_all n (accesses_of a) (part_accesses rest) _ _ (numbered unrolled n a) (part_numbered unrolled (n + accesses_of a) rest)

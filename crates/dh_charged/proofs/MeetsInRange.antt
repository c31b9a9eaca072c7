-- The accesses of commands that may meet are those of their numbers, each once, in order: by recursion on the command.
use Rattle.std.proofs.Common.{◌≡◌, ◌⊎◌, inl, inr, ℕ, zero, suc, ◌+◌, ◌<◌, ◌≤◌, sym, subst, arith}
use Rattle.std.specs.Prelude.{Bool, true, false, ◌||◌, nat_lt}
use Rattle.std.proofs.lemmas.Bool.{cases_lt}
use Rattle.dh_tree.specs.Meets.{Meets, nothing, access, all, one, In, Before}
use Rattle.dh_tree.specs.PlainTrees.{Action, action, lets, lets_memory, views, assigns, stores, reduces, calls, blocks, decides, repeats, counts, MaybeAction, no_action, one_action, Actions, no_actions, action_then, Groups, no_groups, group_then, Program}
use Rattle.dh_meaning.specs.AccessNumbers.{accesses_of, groups_accesses, other_accesses, own_accesses, part_accesses, term_accesses}
use Rattle.dh_meets.specs.MayMeet.{arms_meet, groups_meet, meets, meets_in, other_meets, part_meets, row_of_accesses}
use Rattle.dh_plan.specs.DoneProgram.{MeetsAs}
use Rattle.dh_plan.specs.PlainPlans.{PlainPlan}
use Rattle.dh_accesses.specs.Met.{SameMeets}
use Rattle.dh_charged.specs.MetAccesses.{CommandsMeetInRange, PlansMeet, StandInRange}

none_in : (n : ℕ) → StandInRange nothing n 0
none_in n = record {
  within = λ a h. absurd h;
  there = λ a h k. absurd (never a h k);
  distinct = tt;
  order = λ a b h. absurd h;
}
  where
    never : (a : ℕ) → n ≤ a → a < n + 0 → ⊥
    never a h k = omega (arith, h, k)

one_in : (n : ℕ) → StandInRange (access n) n 1
one_in n = record {
  within = λ a e. bounds a e;
  there = λ a h k. same a h k;
  distinct = tt;
  order = λ a b e g less. absurd (never a b e g less);
}
  where
    bounds : (a : ℕ) → a ≡ n → (n ≤ a) × (a < n + 1)
    bounds a e = (omega (arith, e), omega (arith, e))

    same : (a : ℕ) → n ≤ a → a < n + 1 → a ≡ n
    same a h k = omega (arith, h, k)

    never : (a b : ℕ) → a ≡ n → b ≡ n → a < b → ⊥
    never a b e g less = omega (arith, e, g, less)

-- one tree behind another
module _ (l r : Meets) (n p q : ℕ) (h : StandInRange l n p) (k : StandInRange r (n + p) q) where
  both_within : (a : ℕ) → In a l ⊎ In a r → (n ≤ a) × (a < n + (p + q))
  both_within a (inl i) = let w = h.within a i in let f = w.0 in let s = w.1 in (f, omega (arith, s))
  both_within a (inr i) = let w = k.within a i in let f = w.0 in let s = w.1 in (omega (arith, f), omega (arith, s))

  both_there : (a : ℕ) → n ≤ a → a < n + (p + q) → In a l ⊎ In a r
  both_there a from less = elim (cases_lt a (n + p)) [
    | inl before ↦ inl (h.there a from before)
    | inr behind ↦ inr (k.there a behind (omega (arith, less)))
  ]

  apart : (a : ℕ) → In a l → In a r → ⊥
  apart a i j = let w = (h.within a i).1 in let v = (k.within a j).0 in omega (arith, w, v)

  in_order : (a b : ℕ) → In a l ⊎ In a r → In b l ⊎ In b r → a < b → (In a l × In b r) ⊎ (Before l a b ⊎ Before r a b)
  in_order a b (inl i) (inl j) less = inr (inl (h.order a b i j less))
  in_order a b (inl i) (inr j) less = inl (i, j)
  in_order a b (inr i) (inl j) less = absurd (never ((k.within a i).0) ((h.within b j).1))
    where
      never : n + p ≤ a → b < n + p → ⊥
      never u v = omega (arith, u, v, less)
  in_order a b (inr i) (inr j) less = inr (inr (k.order a b i j less))

  pub all_in : StandInRange (all l r) n (p + q)
  all_in = record { within = both_within; there = both_there; distinct = ((h.distinct, k.distinct), apart); order = in_order }

  pub apart_in : StandInRange (one l r) n (p + q)
  apart_in = record { within = both_within; there = both_there; distinct = ((h.distinct, k.distinct), apart); order = in_order }

counted : (t : Meets) (n p q : ℕ) → p ≡ q → StandInRange t n p → StandInRange t n q
counted t n p q e h = subst (λ (i : ℕ). StandInRange t n i) e h

moved : (t : Meets) (n m p : ℕ) → n ≡ m → StandInRange t n p → StandInRange t m p
moved t n m p e h = subst (λ (i : ℕ). StandInRange t i p) e h

row_in : (n count : ℕ) → StandInRange (row_of_accesses n count) n count
row_in n zero = none_in n
row_in n (suc count) = counted (row_of_accesses n (suc count)) n (1 + count) (suc count) (omega arith) (all_in (access n) (row_of_accesses (suc n) count) n 1 count (one_in n) (moved (row_of_accesses (suc n) count) (suc n) (n + 1) count (omega arith) (row_in (suc n) count)))

own_in : (t : Meets) (n p : ℕ) → StandInRange t n p → StandInRange t n (p + 0)
own_in t n p h = counted t n p (p + 0) (omega arith) h

inner_in : (t : Meets) (n p : ℕ) → StandInRange t n p → StandInRange t n (0 + p)
inner_in t n p h = counted t n p (0 + p) (omega arith) h

arms_in : (unrolled : Bool) (l r : Meets) (n p q : ℕ) → StandInRange l n p → StandInRange r (n + p) q → StandInRange (arms_meet unrolled l r) n (p + q)
arms_in true l r n p q h k = all_in l r n p q h k
arms_in false l r n p q h k = apart_in l r n p q h k

mutual
  command_in : (unrolled : Bool) (n : ℕ) (a : Action) → StandInRange (meets unrolled n a) n (accesses_of a)
  command_in unrolled n (action id place (lets name declared value)) = own_in _ n _ (row_in n (own_accesses (lets name declared value)))
  command_in unrolled n (action id place (lets_memory name shape shape_places value)) = own_in nothing n 0 (none_in n)
  command_in unrolled n (action id place (views name parent form)) = own_in _ n _ (row_in n (own_accesses (views name parent form)))
  command_in unrolled n (action id place (assigns target value)) = own_in _ n _ (row_in n (own_accesses (assigns target value)))
  command_in unrolled n (action id place (stores target value)) = own_in _ n _ (row_in n (own_accesses (stores target value)))
  command_in unrolled n (action id place (reduces target op value)) = own_in _ n _ (row_in n (own_accesses (reduces target op value)))
  command_in unrolled n (action id place (calls function arguments)) = own_in nothing n 0 (none_in n)
  command_in unrolled n (action id place (blocks body)) = inner_in (groups_meet unrolled n body) n (groups_accesses body) (groups_in unrolled n body)
  command_in unrolled n (action id place (decides test chosen other)) =
      all_in (row_of_accesses n (term_accesses test)) _ n (term_accesses test) (accesses_of chosen + other_accesses other) (row_in n (term_accesses test))
      (arms_in unrolled (meets unrolled (n + term_accesses test) chosen) (other_meets unrolled (n + term_accesses test + accesses_of chosen) other) (n + term_accesses test) (accesses_of chosen) (other_accesses other)
      (command_in unrolled (n + term_accesses test) chosen) (other_in unrolled (n + term_accesses test + accesses_of chosen) other))
  command_in unrolled n (action id place (repeats test body)) =
      apart_in (row_of_accesses n (term_accesses test)) (meets unrolled (n + term_accesses test) body) n (term_accesses test) (accesses_of body) (row_in n (term_accesses test)) (command_in unrolled (n + term_accesses test) body)
  command_in unrolled n (action id place (counts iterator declared low high factor body combine combine_place)) =
      inner_in _ n (accesses_of body + other_accesses combine)
      (all_in (meets (unrolled || nat_lt 1 factor.value) n body) (other_meets (unrolled || nat_lt 1 factor.value) (n + accesses_of body) combine) n (accesses_of body) (other_accesses combine)
      (command_in (unrolled || nat_lt 1 factor.value) n body) (other_in (unrolled || nat_lt 1 factor.value) (n + accesses_of body) combine))

  other_in : (unrolled : Bool) (n : ℕ) (o : MaybeAction) → StandInRange (other_meets unrolled n o) n (other_accesses o)
  other_in unrolled n no_action = none_in n
  other_in unrolled n (one_action a) = command_in unrolled n a

  groups_in : (unrolled : Bool) (n : ℕ) (gs : Groups) → StandInRange (groups_meet unrolled n gs) n (groups_accesses gs)
  groups_in unrolled n no_groups = none_in n
  groups_in unrolled n (group_then part rest) =
      apart_in (part_meets unrolled n part) (groups_meet unrolled (n + part_accesses part) rest) n (part_accesses part) (groups_accesses rest) (part_in unrolled n part) (groups_in unrolled (n + part_accesses part) rest)

  part_in : (unrolled : Bool) (n : ℕ) (part : Actions) → StandInRange (part_meets unrolled n part) n (part_accesses part)
  part_in unrolled n no_actions = none_in n
  part_in unrolled n (action_then a rest) =
      all_in (meets unrolled n a) (part_meets unrolled (n + accesses_of a) rest) n (accesses_of a) (part_accesses rest) (command_in unrolled n a) (part_in unrolled (n + accesses_of a) rest)

pub commands_meet_in_range : CommandsMeetInRange
commands_meet_in_range unrolled first a = command_in unrolled first a

range_same : (x y : Meets) (n count : ℕ) → SameMeets x y → StandInRange y n count → StandInRange x n count
range_same x y n count s h = record {
  within = λ a i. h.within a ((s.known a).0 i);
  there = λ a from less. (s.known a).1 (h.there a from less);
  distinct = s.distinct h.distinct;
  order = λ a b i j less. (s.order a b).1 (h.order a b ((s.known a).0 i) ((s.known b).0 j) less);
}

as_same : (p : Program) (plan : PlainPlan) → SameMeets plan.meets (meets_in p) → MeetsAs p plan
as_same p plan s = record { apart = λ a b i j. s.apart a b; order = λ a b i j. s.order a b; known = λ a i. (s.known a).0 i }

pub plans_meet : PlansMeet
plans_meet p t plan few body is = record { as_program = as_same p plan same; range = range_same plan.meets (meets_in p) 0 (accesses_of p.body) same (command_in false 0 p.body) }
  where
    same : SameMeets plan.meets (meets_in p)
    same = subst (λ (m : Meets). SameMeets m (meets_in p)) (sym is) (body few)

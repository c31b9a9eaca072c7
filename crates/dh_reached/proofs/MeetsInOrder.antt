-- The accesses of a program stand in the order of their numbers, in the tree of those that may meet.
use Rattle.std.proofs.Common.{◌⊎◌, inl, inr, ℕ, zero, suc, ◌+◌, ◌<◌, ◌≤◌, arith}
use Rattle.std.specs.Prelude.{Bool, true, false, ◌||◌, nat_lt}
use Rattle.dh_tree.specs.Meets.{In, Meets, access, all, one}
use Rattle.dh_tree.specs.PlainTrees.{Action, action, ActionForm, lets, lets_memory, views, assigns, stores, reduces, calls, blocks, decides, repeats, counts, MaybeAction, no_action, one_action, Actions, no_actions, action_then, Groups, no_groups, group_then, Program}
use Rattle.dh_meaning.specs.AccessNumbers.{accesses_of, own_accesses, other_accesses, part_accesses, term_accesses}
use Rattle.dh_meets.specs.MayMeet.{arms_meet, command_meets, groups_meet, meets, meets_in, other_meets, part_meets, row_of_accesses}
use Rattle.dh_sound.proofs.Sums.{groups_within, meets_within, other_within, part_within, row_within}
use Rattle.dh_reached.specs.StepBanks.{StandInOrder}

-- all of the first stand before all of the second
abbrev AreBefore : Meets → Meets → Type 0
AreBefore l r = (i j : ℕ) → In i l → In j r → i < j

all_order : (l r : Meets) → StandInOrder l → StandInOrder r → AreBefore l r → StandInOrder (all l r)
all_order l r h k before a b (inl p) (inl q) less = inr (inl (h a b p q less))
all_order l r h k before a b (inl p) (inr q) less = inl (p, q)
all_order l r h k before a b (inr p) (inl q) less = let m = before b a q p in absurd (omega (arith, less, m))
all_order l r h k before a b (inr p) (inr q) less = inr (inr (k a b p q less))

one_order : (l r : Meets) → StandInOrder l → StandInOrder r → AreBefore l r → StandInOrder (one l r)
one_order l r h k before a b (inl p) (inl q) less = inr (inl (h a b p q less))
one_order l r h k before a b (inl p) (inr q) less = inl (p, q)
one_order l r h k before a b (inr p) (inl q) less = let m = before b a q p in absurd (omega (arith, less, m))
one_order l r h k before a b (inr p) (inr q) less = inr (inr (k a b p q less))

arms_order : (u : Bool) (l r : Meets) → StandInOrder l → StandInOrder r → AreBefore l r → StandInOrder (arms_meet u l r)
arms_order true l r h k before = all_order l r h k before
arms_order false l r h k before = one_order l r h k before

row_order : (n count : ℕ) → StandInOrder (row_of_accesses n count)
row_order n zero a b p q less = absurd p
row_order n (suc count) a b p q less = all_order (access n) (row_of_accesses (suc n) count) single (row_order (suc n) count) first a b p q less
  where
    single : StandInOrder (access n)
    single a b p q less = absurd (omega (arith, p, q, less))

    first : AreBefore (access n) (row_of_accesses (suc n) count)
    first i j p q = let w = (row_within j (suc n) count q).0 in omega (arith, p, w)

-- by ranges of numbers
ranges_before : (i j n a c : ℕ) → (n ≤ i) × (i < n + a) → (n + a ≤ j) × (j < n + a + c) → i < j
ranges_before i j n a c p q = let u = p.1 in let l = q.0 in omega (arith, u, l)

mutual
  meets_order : (u : Bool) (n : ℕ) (a : Action) → StandInOrder (meets u n a)
  meets_order u n (action id place form) = form_order u n form

  form_order : (u : Bool) (n : ℕ) (form : ActionForm) → StandInOrder (command_meets u n form)
  form_order u n (lets name declared value) = row_order n (own_accesses (lets name declared value))
  form_order u n (lets_memory name shape shape_places value) = λ a b p q less. absurd p
  form_order u n (views name parent form) = row_order n (own_accesses (views name parent form))
  form_order u n (assigns target value) = row_order n (own_accesses (assigns target value))
  form_order u n (stores target value) = row_order n (own_accesses (stores target value))
  form_order u n (reduces target op value) = row_order n (own_accesses (reduces target op value))
  form_order u n (calls function arguments) = λ a b p q less. absurd p
  form_order u n (blocks body) = groups_order u n body
  form_order u n (decides test chosen other) =
      all_order (row_of_accesses n (term_accesses test)) (arms_meet u (meets u (n + term_accesses test) chosen) (other_meets u (n + term_accesses test + accesses_of chosen) other)) (row_order n (term_accesses test))
      (arms_order u (meets u (n + term_accesses test) chosen) (other_meets u (n + term_accesses test + accesses_of chosen) other) (meets_order u (n + term_accesses test) chosen)
      (other_order u (n + term_accesses test + accesses_of chosen) other)
      (λ i j p q. ranges_before i j (n + term_accesses test) (accesses_of chosen) (other_accesses other) (meets_within i u (n + term_accesses test) chosen p) (other_within j u (n + term_accesses test + accesses_of chosen) other q)))
      (λ i j p q. before_arms u i j p q)
    where
      low : (j : ℕ) → In j (meets u (n + term_accesses test) chosen) ⊎ In j (other_meets u (n + term_accesses test + accesses_of chosen) other) → n + term_accesses test ≤ j
      low j (inl q) = (meets_within j u (n + term_accesses test) chosen q).0
      low j (inr q) = let l = (other_within j u (n + term_accesses test + accesses_of chosen) other q).0 in omega (arith, l)

      either : (v : Bool) (l r : Meets) (j : ℕ) → In j (arms_meet v l r) → In j l ⊎ In j r
      either true l r j q = q
      either false l r j q = q

      before_arms : (v : Bool) (i j : ℕ) → In i (row_of_accesses n (term_accesses test)) → In j (arms_meet v (meets u (n + term_accesses test) chosen) (other_meets u (n + term_accesses test + accesses_of chosen) other)) → i < j
      before_arms v i j p q =
          let w = (row_within i n (term_accesses test) p).1 in
          let l = low j (either v (meets u (n + term_accesses test) chosen) (other_meets u (n + term_accesses test + accesses_of chosen) other) j q) in
          omega (arith, w, l)
  form_order u n (repeats test body) =
      one_order (row_of_accesses n (term_accesses test)) (meets u (n + term_accesses test) body) (row_order n (term_accesses test)) (meets_order u (n + term_accesses test) body)
      (λ i j p q. ranges_before i j n (term_accesses test) (accesses_of body) (row_within i n (term_accesses test) p) (meets_within j u (n + term_accesses test) body q))
  form_order u n (counts iterator declared low high factor body combine combine_place) =
      all_order (meets (u || nat_lt 1 factor.value) n body) (other_meets (u || nat_lt 1 factor.value) (n + accesses_of body) combine) (meets_order (u || nat_lt 1 factor.value) n body)
      (other_order (u || nat_lt 1 factor.value) (n + accesses_of body) combine)
      (λ i j p q. ranges_before i j n (accesses_of body) (other_accesses combine) (meets_within i (u || nat_lt 1 factor.value) n body p) (other_within j (u || nat_lt 1 factor.value) (n + accesses_of body) combine q))

  other_order : (u : Bool) (n : ℕ) (o : MaybeAction) → StandInOrder (other_meets u n o)
  other_order u n no_action = λ a b p q less. absurd p
  other_order u n (one_action a) = meets_order u n a

  groups_order : (u : Bool) (n : ℕ) (gs : Groups) → StandInOrder (groups_meet u n gs)
  groups_order u n no_groups = λ a b p q less. absurd p
  groups_order u n (group_then part rest) =
      one_order (part_meets u n part) (groups_meet u (n + part_accesses part) rest) (part_order u n part) (groups_order u (n + part_accesses part) rest)
      (λ i j p q. let w = (part_within i u n part p).1 in let l = (groups_within j u (n + part_accesses part) rest q).0 in omega (arith, w, l))

  part_order : (u : Bool) (n : ℕ) (xs : Actions) → StandInOrder (part_meets u n xs)
  part_order u n no_actions = λ a b p q less. absurd p
  part_order u n (action_then a rest) =
      all_order (meets u n a) (part_meets u (n + accesses_of a) rest) (meets_order u n a) (part_order u (n + accesses_of a) rest)
      (λ i j p q. let w = (meets_within i u n a p).1 in let l = (part_within j u (n + accesses_of a) rest q).0 in omega (arith, w, l))

pub program_order : (p : Program) → StandInOrder (meets_in p)
program_order p = meets_order false 0 p.body

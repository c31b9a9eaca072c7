-- The accesses of a command that may meet are those with the numbers from its first on, each once: so a sum over
-- the tree of what may meet is a sum over these numbers, and a number stands in the tree where it is one of them.
-- By induction on the command: each part of a tree has the numbers behind those of the part before it.
use Rattle.std.proofs.Common.{◌≡◌, ℕ, zero, suc, ◌+◌, ◌<◌, ◌≤◌, ◌||◌, nat_lt, ◌⊎◌, inl, inr, Bool, true, false, if◌then◌else◌, refl, ◌∙◌, ap, arith}
use Rattle.std.proofs.lemmas.Bool.{cases_lt}
use Rattle.dh_tree.specs.Meets.{Meets, In, total}
use Rattle.dh_tree.specs.PlainTrees.{Action, action, ActionForm, lets, lets_memory, views, assigns, stores, reduces, calls, blocks, decides, repeats, counts, MaybeAction, no_action, one_action, Actions, no_actions, action_then, Groups, no_groups, group_then, Program}
use Rattle.dh_meaning.specs.AccessNumbers.{term_accesses, own_accesses, accesses_of, inner_accesses, other_accesses, part_accesses, groups_accesses}
use Rattle.dh_meets.specs.MayMeet.{row_of_accesses, arms_meet, meets, command_meets, other_meets, groups_meet, part_meets, meets_in}
use Rattle.dh_sound.proofs.Counting.{sum_below}

module _ (charge : ℕ → ℕ) (chosen : ℕ → Bool) where
  abbrev charged : ℕ → ℕ
  charged k = if chosen k then charge k else 0

  -- the sum over so many numbers from n on
  abbrev pub sum_from : (n count : ℕ) → ℕ
  sum_from n zero = 0
  sum_from n (suc count) = sum_from n count + charged (n + count)

  sum_joined : (n a b : ℕ) → sum_from n (a + b) ≡ sum_from n a + sum_from (n + a) b
  sum_joined n a zero =
      let z : a + 0 ≡ a = omega arith in
      let e : sum_from n (a + 0) ≡ sum_from n a = ap (sum_from n) z in
      omega (arith, e)
  sum_joined n a (suc b) =
      let i = sum_joined n a b in
      let x : a + suc b ≡ suc (a + b) = omega arith in
      let z : sum_from n (a + suc b) ≡ sum_from n (suc (a + b)) = ap (sum_from n) x in
      let y : n + (a + b) ≡ n + a + b = omega arith in
      let e : charged (n + (a + b)) ≡ charged (n + a + b) = ap charged y in
      omega (arith, i, e, z)

  sum_is_below : (n : ℕ) → sum_from 0 n ≡ sum_below charge chosen n
  sum_is_below zero = refl
  sum_is_below (suc n) =
      let i = sum_is_below n in
      let z : 0 + n ≡ n = omega arith in
      let e : charged (0 + n) ≡ charged n = ap charged z in
      omega (arith, i, e)

  row_total : (n count : ℕ) → total charge chosen (row_of_accesses n count) ≡ sum_from n count
  row_total n zero = refl
  row_total n (suc count) =
      let i = row_total (suc n) count in
      let j = sum_joined n 1 count in
      let x : 1 + count ≡ suc count = omega arith in
      let y : n + 1 ≡ suc n = omega arith in
      let z : n + 0 ≡ n = omega arith in
      let e : sum_from n (1 + count) ≡ sum_from n (suc count) = ap (sum_from n) x in
      let f : sum_from (n + 1) count ≡ sum_from (suc n) count = ap (λ m. sum_from m count) y in
      let g : charged (n + 0) ≡ charged n = ap charged z in
      omega (arith, i, j, e, f, g)

  arms_total : (u : Bool) (l r : Meets) → total charge chosen (arms_meet u l r) ≡ total charge chosen l + total charge chosen r
  arms_total true l r = refl
  arms_total false l r = refl

  -- two parts, one behind the other
  parts_total : (n a b x y : ℕ) → x ≡ sum_from n a → y ≡ sum_from (n + a) b → x + y ≡ sum_from n (a + b)
  parts_total n a b x y e f = let j = sum_joined n a b in omega (arith, e, f, j)

  as_count : (n a b x : ℕ) → a ≡ b → x ≡ sum_from n a → x ≡ sum_from n b
  as_count n a b x e f = f ∙ ap (sum_from n) e

  mutual
    pub meets_total : (u : Bool) (n : ℕ) (a : Action) → total charge chosen (meets u n a) ≡ sum_from n (accesses_of a)
    meets_total u n (action id place form) = command_total u n form

    command_total : (u : Bool) (n : ℕ) (f : ActionForm) → total charge chosen (command_meets u n f) ≡ sum_from n (own_accesses f + inner_accesses f)
    command_total u n (lets name declared value) = as_count n (own_accesses (lets name declared value)) (own_accesses (lets name declared value) + 0) _ (omega arith) (row_total n (own_accesses (lets name declared value)))
    command_total u n (lets_memory name shape shape_places value) = refl
    command_total u n (views name parent form) = as_count n (own_accesses (views name parent form)) (own_accesses (views name parent form) + 0) _ (omega arith) (row_total n (own_accesses (views name parent form)))
    command_total u n (assigns target value) = as_count n (own_accesses (assigns target value)) (own_accesses (assigns target value) + 0) _ (omega arith) (row_total n (own_accesses (assigns target value)))
    command_total u n (stores target value) = as_count n (own_accesses (stores target value)) (own_accesses (stores target value) + 0) _ (omega arith) (row_total n (own_accesses (stores target value)))
    command_total u n (reduces target op value) = as_count n (own_accesses (reduces target op value)) (own_accesses (reduces target op value) + 0) _ (omega arith) (row_total n (own_accesses (reduces target op value)))
    command_total u n (calls function arguments) = refl
    command_total u n (blocks body) = as_count n (groups_accesses body) (0 + groups_accesses body) _ (omega arith) (groups_total u n body)
    command_total u n (decides test arm other) =
        parts_total n (term_accesses test) (accesses_of arm + other_accesses other) _ _ (row_total n (term_accesses test))
        (arms_total u _ _ ∙ parts_total (n + term_accesses test) (accesses_of arm) (other_accesses other) _ _ (meets_total u _ arm) (other_total u _ other))
    command_total u n (repeats test body) = parts_total n (term_accesses test) (accesses_of body) _ _ (row_total n (term_accesses test)) (meets_total u _ body)
    command_total u n (counts iterator declared low high factor body combine combine_place) =
        as_count n (accesses_of body + other_accesses combine) (0 + (accesses_of body + other_accesses combine)) _ (omega arith)
        (parts_total n (accesses_of body) (other_accesses combine) _ _ (meets_total (u || nat_lt 1 factor.value) n body) (other_total (u || nat_lt 1 factor.value) (n + accesses_of body) combine))

    other_total : (u : Bool) (n : ℕ) (o : MaybeAction) → total charge chosen (other_meets u n o) ≡ sum_from n (other_accesses o)
    other_total u n no_action = refl
    other_total u n (one_action a) = meets_total u n a

    groups_total : (u : Bool) (n : ℕ) (gs : Groups) → total charge chosen (groups_meet u n gs) ≡ sum_from n (groups_accesses gs)
    groups_total u n no_groups = refl
    groups_total u n (group_then part rest) = parts_total n (part_accesses part) (groups_accesses rest) _ _ (part_total u n part) (groups_total u _ rest)

    part_total : (u : Bool) (n : ℕ) (xs : Actions) → total charge chosen (part_meets u n xs) ≡ sum_from n (part_accesses xs)
    part_total u n no_actions = refl
    part_total u n (action_then a rest) = parts_total n (accesses_of a) (part_accesses rest) _ _ (meets_total u n a) (part_total u _ rest)

  -- a sum over what may meet in a program is one over the numbers of its accesses
  pub total_below : (p : Program) → total charge chosen (meets_in p) ≡ sum_below charge chosen (accesses_of p.body)
  total_below p = meets_total false 0 p.body ∙ sum_is_below (accesses_of p.body)

-- a number is one of so many from n on
abbrev pub Within : (k n count : ℕ) → Type 0
Within k n count = (n ≤ k) × (k < n + count)

within_left : (k n a b : ℕ) → Within k n a → Within k n (a + b)
within_left k n a b (l, h) = (l, omega (arith, h))

within_right : (k n a b : ℕ) → Within k (n + a) b → Within k n (a + b)
within_right k n a b (l, h) = (omega (arith, l), omega (arith, h))

within_either : (k n a b : ℕ) → Within k n (a + b) → Within k n a ⊎ Within k (n + a) b
within_either k n a b (l, h) = elim (cases_lt k (n + a)) [ inl small ↦ inl (l, small) | inr large ↦ inr (large, omega (arith, h)) ]

within_none : (k n : ℕ) → Within k n 0 → ⊥
within_none k n (l, h) = omega (arith, l, h)

within_zero : (k n a : ℕ) → Within k n a → Within k n (0 + a)
within_zero k n a (l, h) = (l, omega (arith, h))

within_end : (k n a : ℕ) → Within k n a → Within k n (a + 0)
within_end k n a (l, h) = (l, omega (arith, h))

within_plain_end : (k n a : ℕ) → Within k n (a + 0) → Within k n a
within_plain_end k n a (l, h) = (l, omega (arith, h))

within_plain : (k n a : ℕ) → Within k n (0 + a) → Within k n a
within_plain k n a (l, h) = (l, omega (arith, h))

pub row_within : (k n count : ℕ) → In k (row_of_accesses n count) → Within k n count
row_within k n zero h = elim h [ ]
row_within k n (suc count) (inl e) = (omega (arith, e), omega (arith, e))
row_within k n (suc count) (inr h) = let (l, s) = row_within k (suc n) count h in (omega (arith, l), omega (arith, s))

row_in : (k n count : ℕ) → Within k n count → In k (row_of_accesses n count)
row_in k n zero w = within_none k n w
row_in k n (suc count) (l, s) = elim (cases_lt n k) [ inl more ↦ inr (row_in k (suc n) count (omega (arith, more), omega (arith, s))) | inr same ↦ inl (omega (arith, l, same)) ]

pub arms_in : (k : ℕ) (u : Bool) (l r : Meets) → In k (arms_meet u l r) → In k l ⊎ In k r
arms_in k true l r h = h
arms_in k false l r h = h

in_arms : (k : ℕ) (u : Bool) (l r : Meets) → In k l ⊎ In k r → In k (arms_meet u l r)
in_arms k true l r h = h
in_arms k false l r h = h

-- two parts, one behind the other
two_within : (k n a b : ℕ) (L R : Type 0) → (L → Within k n a) → (R → Within k (n + a) b) → L ⊎ R → Within k n (a + b)
two_within k n a b L R f g (inl l) = within_left k n a b (f l)
two_within k n a b L R f g (inr r) = within_right k n a b (g r)

two_in : (k n a b : ℕ) (L R : Type 0) → (Within k n a → L) → (Within k (n + a) b → R) → Within k n (a + b) → L ⊎ R
two_in k n a b L R f g w = elim (within_either k n a b w) [ inl l ↦ inl (f l) | inr r ↦ inr (g r) ]

mutual
  pub meets_within : (k : ℕ) (u : Bool) (n : ℕ) (a : Action) → In k (meets u n a) → Within k n (accesses_of a)
  meets_within k u n (action id place form) h = command_within k u n form h

  command_within : (k : ℕ) (u : Bool) (n : ℕ) (f : ActionForm) → In k (command_meets u n f) → Within k n (own_accesses f + inner_accesses f)
  command_within k u n (lets name declared value) h = within_end k n (own_accesses (lets name declared value)) (row_within k n (own_accesses (lets name declared value)) h)
  command_within k u n (lets_memory name shape shape_places value) h = elim h [ ]
  command_within k u n (views name parent form) h = within_end k n (own_accesses (views name parent form)) (row_within k n (own_accesses (views name parent form)) h)
  command_within k u n (assigns target value) h = within_end k n (own_accesses (assigns target value)) (row_within k n (own_accesses (assigns target value)) h)
  command_within k u n (stores target value) h = within_end k n (own_accesses (stores target value)) (row_within k n (own_accesses (stores target value)) h)
  command_within k u n (reduces target op value) h = within_end k n (own_accesses (reduces target op value)) (row_within k n (own_accesses (reduces target op value)) h)
  command_within k u n (calls function arguments) h = elim h [ ]
  command_within k u n (blocks body) h = within_zero k n _ (groups_within k u n body h)
  command_within k u n (decides test arm other) h =
      two_within k n (term_accesses test) (accesses_of arm + other_accesses other) _ _ (row_within k n (term_accesses test))
      (λ g. two_within k (n + term_accesses test) (accesses_of arm) (other_accesses other) _ _ (meets_within k u (n + term_accesses test) arm) (other_within k u (n + term_accesses test + accesses_of arm) other) (arms_in k u _ _ g)) h
  command_within k u n (repeats test body) h =
      two_within k n (term_accesses test) (accesses_of body) _ _ (row_within k n (term_accesses test)) (meets_within k u (n + term_accesses test) body) h
  command_within k u n (counts iterator declared low high factor body combine combine_place) h =
      within_zero k n _ (two_within k n (accesses_of body) (other_accesses combine) _ _ (meets_within k (u || nat_lt 1 factor.value) n body) (other_within k (u || nat_lt 1 factor.value) (n + accesses_of body) combine) h)

  pub other_within : (k : ℕ) (u : Bool) (n : ℕ) (o : MaybeAction) → In k (other_meets u n o) → Within k n (other_accesses o)
  other_within k u n no_action h = elim h [ ]
  other_within k u n (one_action a) h = meets_within k u n a h

  pub groups_within : (k : ℕ) (u : Bool) (n : ℕ) (gs : Groups) → In k (groups_meet u n gs) → Within k n (groups_accesses gs)
  groups_within k u n no_groups h = elim h [ ]
  groups_within k u n (group_then part rest) h =
      two_within k n (part_accesses part) (groups_accesses rest) _ _ (part_within k u n part) (groups_within k u (n + part_accesses part) rest) h

  pub part_within : (k : ℕ) (u : Bool) (n : ℕ) (xs : Actions) → In k (part_meets u n xs) → Within k n (part_accesses xs)
  part_within k u n no_actions h = elim h [ ]
  part_within k u n (action_then a rest) h =
      two_within k n (accesses_of a) (part_accesses rest) _ _ (meets_within k u n a) (part_within k u (n + accesses_of a) rest) h

mutual
  pub within_meets : (k : ℕ) (u : Bool) (n : ℕ) (a : Action) → Within k n (accesses_of a) → In k (meets u n a)
  within_meets k u n (action id place form) w = within_command k u n form w

  within_command : (k : ℕ) (u : Bool) (n : ℕ) (f : ActionForm) → Within k n (own_accesses f + inner_accesses f) → In k (command_meets u n f)
  within_command k u n (lets name declared value) w = row_in k n (own_accesses (lets name declared value)) (within_plain_end k n (own_accesses (lets name declared value)) w)
  within_command k u n (lets_memory name shape shape_places value) w = within_none k n w
  within_command k u n (views name parent form) w = row_in k n (own_accesses (views name parent form)) (within_plain_end k n (own_accesses (views name parent form)) w)
  within_command k u n (assigns target value) w = row_in k n (own_accesses (assigns target value)) (within_plain_end k n (own_accesses (assigns target value)) w)
  within_command k u n (stores target value) w = row_in k n (own_accesses (stores target value)) (within_plain_end k n (own_accesses (stores target value)) w)
  within_command k u n (reduces target op value) w = row_in k n (own_accesses (reduces target op value)) (within_plain_end k n (own_accesses (reduces target op value)) w)
  within_command k u n (calls function arguments) w = within_none k n w
  within_command k u n (blocks body) w = within_groups k u n body (within_plain k n _ w)
  within_command k u n (decides test arm other) w =
      two_in k n (term_accesses test) (accesses_of arm + other_accesses other) _ _ (row_in k n (term_accesses test))
      (λ v. in_arms k u _ _ (two_in k (n + term_accesses test) (accesses_of arm) (other_accesses other) _ _ (within_meets k u (n + term_accesses test) arm) (within_other k u (n + term_accesses test + accesses_of arm) other) v)) w
  within_command k u n (repeats test body) w =
      two_in k n (term_accesses test) (accesses_of body) _ _ (row_in k n (term_accesses test)) (within_meets k u (n + term_accesses test) body) w
  within_command k u n (counts iterator declared low high factor body combine combine_place) w =
      two_in k n (accesses_of body) (other_accesses combine) _ _ (within_meets k (u || nat_lt 1 factor.value) n body) (within_other k (u || nat_lt 1 factor.value) (n + accesses_of body) combine) (within_plain k n _ w)

  within_other : (k : ℕ) (u : Bool) (n : ℕ) (o : MaybeAction) → Within k n (other_accesses o) → In k (other_meets u n o)
  within_other k u n no_action w = within_none k n w
  within_other k u n (one_action a) w = within_meets k u n a w

  within_groups : (k : ℕ) (u : Bool) (n : ℕ) (gs : Groups) → Within k n (groups_accesses gs) → In k (groups_meet u n gs)
  within_groups k u n no_groups w = within_none k n w
  within_groups k u n (group_then part rest) w =
      two_in k n (part_accesses part) (groups_accesses rest) _ _ (within_part k u n part) (within_groups k u (n + part_accesses part) rest) w

  within_part : (k : ℕ) (u : Bool) (n : ℕ) (xs : Actions) → Within k n (part_accesses xs) → In k (part_meets u n xs)
  within_part k u n no_actions w = within_none k n w
  within_part k u n (action_then a rest) w =
      two_in k n (accesses_of a) (part_accesses rest) _ _ (within_meets k u n a) (within_part k u (n + accesses_of a) rest) w

-- an access stands in the tree of a program exactly where its number is below their count
pub in_below : (k : ℕ) (p : Program) → In k (meets_in p) → k < accesses_of p.body
in_below k p h = let (l, s) = meets_within k false 0 p.body h in omega (arith, s)

pub below_in : (k : ℕ) (p : Program) → k < accesses_of p.body → In k (meets_in p)
below_in k p l = within_meets k false 0 p.body (omega arith, omega (arith, l))

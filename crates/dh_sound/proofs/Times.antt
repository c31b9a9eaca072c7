-- Each access is made by at most one command of the Straight phases and tests of a command, and of the loops without
-- phases in it. By induction on the command, of how many of them make it: those of lists that are joined and
-- folded are added up, and a command whose accesses are numbered from n on has at most one that makes k, and
-- none where k is not one of these numbers.
use Rattle.std.proofs.Common.{◌≡◌, ℕ, ◌+◌, ◌<◌, ◌≤◌, ◌==◌, ◌&&◌, ◌||◌, ◌⊎◌, inl, inr, Bool, true, false, if◌then◌else◌, List, [], ◌∷◌, ◌++◌, refl, ap, arith}
use Rattle.std.proofs.lemmas.Bool.Decides.{nat_tests}
use Rattle.dh_tree.specs.PlainTrees.{shrinks, splits, suffixes, shifts, Action, action, ActionForm, lets, lets_memory, views, assigns, stores, reduces, calls, blocks, decides, repeats, counts, MaybeAction, no_action, one_action, Actions, no_actions, action_then, Groups, no_groups, group_then, Program}
use Rattle.dh_meaning.specs.AccessNumbers.{term_accesses, own_accesses, accesses_of, inner_accesses, other_accesses, part_accesses, groups_accesses}
use Rattle.dh_meaning.specs.Sites.{Around, nothing_around, in_arm, in_loop, loop_of}
use Rattle.dh_meaning.specs.Phases.{Located, Phase, straight, turns, repeated, decided, Phases, no_phases, phase, of_list, one_straight, joined, are_straight, one_command, folded, turn_count, turn_phases, choice_phases, located, phases, form_phases, other_phases, groups_phases, parts_phases, phases_of, unless_turns, idle_phases, idle_form_phases, idle_other_phases, idle_groups_phases, idle_part_phases, idle_phases_of}
use Rattle.dh_meaning.specs.OnePhase.{is_between, makes, form_makes, other_makes, groups_make, part_makes, test_makes}

abbrev pub bit : Bool → ℕ
bit b = if b then 1 else 0

-- how many of these commands make the access
abbrev pub made : (k : ℕ) → List Located → ℕ
made k [] = 0
made k (c ∷ cs) = bit (makes k c.first c.command) + made k cs

abbrev mutual
  pub times_in : (k : ℕ) → Phase → ℕ
  times_in k (straight cs) = made k cs
  times_in k (turns loop count body) = times_of k body
  times_in k (repeated loop body) = bit (test_makes k loop) + times_of k body
  times_in k (decided choice chosen other) = bit (test_makes k choice) + (times_of k chosen + times_of k other)

  pub times_of : (k : ℕ) → Phases → ℕ
  times_of k no_phases = 0
  times_of k (phase p ps) = times_in k p + times_of k ps

abbrev pub times : (k : ℕ) → List Phase → ℕ
times k [] = 0
times k (p ∷ ps) = times_in k p + times k ps

abbrev pub times_parts : (k : ℕ) → List (List Phase) → ℕ
times_parts k [] = 0
times_parts k (ps ∷ parts) = times k ps + times_parts k parts

-- 1 where the number is one of so many from n on
abbrev pub span : (k n count : ℕ) → ℕ
span k n count = bit (is_between k n count)

pub span_joined : (k n a b : ℕ) → span k n (a + b) ≡ span k n a + span k (n + a) b
span_joined k n a b = grind (arith, nat_tests)

span_none : (k n : ℕ) → span k n 0 ≡ 0
span_none k n = grind (arith, nat_tests)

pub span_one : (k n a : ℕ) → span k n a ≤ 1
span_one k n a = grind (arith, nat_tests)

pub span_outside : (k n a : ℕ) → (k < n) ⊎ (n + a ≤ k) → span k n a ≡ 0
span_outside k n a (inl l) = grind (arith, nat_tests)
span_outside k n a (inr l) = grind (arith, nat_tests)

span_same : (k n a b : ℕ) → a ≡ b → span k n a ≡ span k n b
span_same k n a b e = ap (span k n) e

bit_or : (a b : Bool) → bit (a || b) ≤ bit a + bit b
bit_or true b = omega arith
bit_or false b = omega arith

module _ (k : ℕ) where
  pub made_joined : (cs ds : List Located) → made k (cs ++ ds) ≡ made k cs + made k ds
  made_joined [] ds = omega arith
  made_joined (c ∷ cs) ds = let i = made_joined cs ds in omega (arith, i)

  pub times_joined : (ps qs : List Phase) → times k (ps ++ qs) ≡ times k ps + times k qs
  times_joined [] qs = omega arith
  times_joined (p ∷ ps) qs = let i = times_joined ps qs in omega (arith, i)

  pub times_listed : (ps : List Phase) → times_of k (of_list ps) ≡ times k ps
  times_listed [] = refl
  times_listed (p ∷ ps) = let i = times_listed ps in omega (arith, i)

  pub times_straight : (cs : List Located) → times k (one_straight cs) ≡ made k cs
  times_straight [] = refl
  times_straight (c ∷ cs) = omega arith

  -- behind straight commands stands one part, and then the others
  times_then : (cs : List Located) (part rest : List Phase) (parts : List (List Phase)) → times k rest ≡ made k [] + times_parts k parts
      → times k (one_straight cs ++ (part ++ rest)) ≡ made k cs + (times k part + times_parts k parts)
  times_then cs part rest parts e =
      let i = times_joined (one_straight cs) (part ++ rest) in
      let j = times_joined part rest in
      let s = times_straight cs in
      omega (arith, e, i, j, s)

  pub times_part : (cs : List Located) (parts : List (List Phase)) → times k (joined cs parts) ≡ made k cs + times_parts k parts
  times_part cs [] = let s = times_straight cs in omega (arith, s)
  times_part cs ([] ∷ parts) = let i = times_part cs parts in omega (arith, i)
  times_part cs ((straight ds ∷ []) ∷ parts) =
      let i = times_part (cs ++ ds) parts in
      let j = made_joined cs ds in
      omega (arith, i, j)
  times_part cs ((turns loop count body ∷ []) ∷ parts) = times_then cs (turns loop count body ∷ []) _ parts (times_part [] parts)
  times_part cs ((repeated loop body ∷ []) ∷ parts) = times_then cs (repeated loop body ∷ []) _ parts (times_part [] parts)
  times_part cs ((decided choice chosen other ∷ []) ∷ parts) = times_then cs (decided choice chosen other ∷ []) _ parts (times_part [] parts)
  times_part cs ((p ∷ q ∷ ps) ∷ parts) = times_then cs (p ∷ q ∷ ps) _ parts (times_part [] parts)

  pub times_folded : (body fold : List Phase) → times k (folded body fold) ≡ times k body + times k fold
  times_folded [] fold = omega arith
  times_folded (straight cs ∷ []) fold = let i = times_part cs (fold ∷ []) in omega (arith, i)
  times_folded (turns loop count body ∷ []) fold = omega arith
  times_folded (repeated loop body ∷ []) fold = omega arith
  times_folded (decided choice chosen other ∷ []) fold = omega arith
  times_folded (p ∷ q ∷ ps) fold = let i = times_folded (q ∷ ps) fold in omega (arith, i)

  -- the phases of a turn are in the loop, or by themselves
  times_turn : (loop : Located) (count : ℕ) (turn : List Phase)
      → times k (turn_phases loop count turn) + times k (unless_turns turn (turn_phases loop count turn)) ≡ times k turn
  times_turn loop count [] = refl
  times_turn loop count (p ∷ ps) = by (count == 0)
    where
      chosen_phases : Bool → List Phase
      chosen_phases b = if b then [] else turns loop count (of_list (p ∷ ps)) ∷ []

      by : (b : Bool) → times k (chosen_phases b) + times k (unless_turns (p ∷ ps) (chosen_phases b)) ≡ times k (p ∷ ps)
      by true = omega arith
      by false = let i = times_listed (p ∷ ps) in omega (arith, i)

  -- an `if`: its test, and what its arms make
  choice_times : (choice : Located) (chosen other : List Phase) (m o : Bool)
      → makes k choice.first choice.command ≡ (test_makes k choice || (m || o)) → bit m ≤ times k chosen → bit o ≤ times k other
      → bit (makes k choice.first choice.command) ≤ times k (choice_phases choice chosen other)
  choice_times choice chosen other m o e h g = by (are_straight chosen && are_straight other)
    where
      by : (b : Bool) → bit (makes k choice.first choice.command) ≤ times k (if b then one_command choice else decided choice (of_list chosen) (of_list other) ∷ [])
      by true = omega arith
      by false =
          let f : bit (makes k choice.first choice.command) ≡ bit (test_makes k choice || (m || o)) = ap bit e in
          let x = bit_or (test_makes k choice) (m || o) in
          let y = bit_or m o in
          let i = times_listed chosen in
          let j = times_listed other in
          omega (arith, f, x, y, i, j, h, g)

  -- at least the accesses that a command makes itself or in arms are made in its phases
  mutual
    pub makes_times : (r : Around) (n : ℕ) (a : Action) → bit (makes k n a) ≤ times k (phases r n a)
    makes_times r n (action id place form) = form_times r n id place form

    form_times : (r : Around) (n id : ℕ) (place : _) (f : ActionForm) → bit (form_makes k n f) ≤ times k (form_phases r n id place f)
    form_times r n id place (lets name declared value) = omega arith
    form_times r n id place (assigns target value) = omega arith
    form_times r n id place (stores target value) = omega arith
    form_times r n id place (reduces target op value) = omega arith
    form_times r n id place (decides test arm other) =
        choice_times (located r n (action id place (decides test arm other))) _ _ _ _ refl
        (makes_times (in_arm r id true) (n + term_accesses test) arm) (other_times (in_arm r id false) (n + term_accesses test + accesses_of arm) other)
    form_times r n id place (repeats test body) = omega arith
    form_times r n id place (counts iterator declared low high factor body combine combine_place) = omega arith
    form_times r n id place (blocks body) = groups_times r n body
    form_times r n id place (lets_memory name shape shape_places value) = omega arith
    form_times r n id place (views name parent (shrinks by by_place)) = let z = span_none k n in omega (arith, z)
    form_times r n id place (views name parent (splits by by_place)) = let z = span_none k n in omega (arith, z)
    form_times r n id place (views name parent (suffixes by by_place)) = omega arith
    form_times r n id place (views name parent (shifts by)) = omega arith
    form_times r n id place (calls function arguments) = omega arith

    pub other_times : (r : Around) (n : ℕ) (o : MaybeAction) → bit (other_makes k n o) ≤ times k (other_phases r n o)
    other_times r n no_action = omega arith
    other_times r n (one_action a) = makes_times r n a

    pub groups_times : (r : Around) (n : ℕ) (gs : Groups) → bit (groups_make k n gs) ≤ times k (groups_phases r n gs)
    groups_times r n no_groups = omega arith
    groups_times r n (group_then part rest) =
        let i = part_times r n part in
        let j = groups_times r (n + part_accesses part) rest in
        let e = times_joined (joined [] (parts_phases r n part)) (groups_phases r (n + part_accesses part) rest) in
        let f = times_part [] (parts_phases r n part) in
        let b = bit_or (part_makes k n part) (groups_make k (n + part_accesses part) rest) in
        omega (arith, i, j, e, f, b)

    pub part_times : (r : Around) (n : ℕ) (xs : Actions) → bit (part_makes k n xs) ≤ times_parts k (parts_phases r n xs)
    part_times r n no_actions = omega arith
    part_times r n (action_then a rest) =
        let i = makes_times r n a in
        let j = part_times r (n + accesses_of a) rest in
        let b = bit_or (makes k n a) (part_makes k (n + accesses_of a) rest) in
        omega (arith, i, j, b)

  -- an `if`, whose arms have idle phases made so often
  choice_bounded : (choice : Located) (chosen other : List Phase) (m o : Bool) (t x y i j : ℕ)
      → makes k choice.first choice.command ≡ (test_makes k choice || (m || o)) → bit m ≤ times k chosen → bit o ≤ times k other
      → bit (test_makes k choice) ≡ t → times k chosen + i ≤ x → times k other + j ≤ y
      → times k (choice_phases choice chosen other) + (i + j) ≤ t + (x + y)
  choice_bounded choice chosen other m o t x y i j e h g q c d = by (are_straight chosen && are_straight other)
    where
      by : (b : Bool) → times k (if b then one_command choice else decided choice (of_list chosen) (of_list other) ∷ []) + (i + j) ≤ t + (x + y)
      by true =
          let f : bit (makes k choice.first choice.command) ≡ bit (test_makes k choice || (m || o)) = ap bit e in
          let v = bit_or (test_makes k choice) (m || o) in
          let w = bit_or m o in
          omega (arith, f, v, w, h, g, q, c, d)
      by false =
          let v = times_listed chosen in
          let w = times_listed other in
          omega (arith, v, w, q, c, d)

  -- the phases of a turn, from those of body and combine
  turn_within : (s : Around) (n : ℕ) (loop : Located) (count : ℕ) (body : Action) (combine : MaybeAction)
      → times k (phases s n body) + times k (idle_phases s n body) ≤ span k n (accesses_of body)
      → times k (other_phases s (n + accesses_of body) combine) + times k (idle_other_phases s (n + accesses_of body) combine) ≤ span k (n + accesses_of body) (other_accesses combine)
      → times k (turn_phases loop count (folded (phases s n body) (other_phases s (n + accesses_of body) combine)))
      + times k (unless_turns (folded (phases s n body) (other_phases s (n + accesses_of body) combine)) (turn_phases loop count (folded (phases s n body) (other_phases s (n + accesses_of body) combine)))
      ++ (idle_phases s n body ++ idle_other_phases s (n + accesses_of body) combine))
      ≤ span k n (0 + (accesses_of body + other_accesses combine))
  turn_within s n loop count body combine c d =
      let t = times_turn loop count (folded (phases s n body) (other_phases s (n + accesses_of body) combine)) in
      let f = times_folded (phases s n body) (other_phases s (n + accesses_of body) combine) in
      let j = times_joined (idle_phases s n body) (idle_other_phases s (n + accesses_of body) combine) in
      let i = times_joined (unless_turns (folded (phases s n body) (other_phases s (n + accesses_of body) combine)) (turn_phases loop count (folded (phases s n body) (other_phases s (n + accesses_of body) combine))))
      (idle_phases s n body ++ idle_other_phases s (n + accesses_of body) combine) in
      let z : accesses_of body + other_accesses combine ≡ 0 + (accesses_of body + other_accesses combine) = omega arith in
      let e = span_same k n (accesses_of body + other_accesses combine) (0 + (accesses_of body + other_accesses combine)) z in
      let w = span_joined k n (accesses_of body) (other_accesses combine) in
      omega (arith, t, f, j, i, e, w, c, d)

  one_within : (n a : ℕ) → span k n a + 0 + 0 + 0 ≤ span k n (a + 0)
  one_within n a =
      let z : a ≡ a + 0 = omega arith in
      let e = span_same k n a (a + 0) z in
      omega (arith, e)

  none_within : (n a : ℕ) → 0 + 0 ≤ span k n a
  none_within n a = omega arith

  mutual
    pub times_within : (r : Around) (n : ℕ) (a : Action) → times k (phases r n a) + times k (idle_phases r n a) ≤ span k n (accesses_of a)
    times_within r n (action id place form) = form_within r n id place form

    form_within : (r : Around) (n id : ℕ) (place : _) (f : ActionForm)
        → times k (form_phases r n id place f) + times k (idle_form_phases r n id place f) ≤ span k n (own_accesses f + inner_accesses f)
    form_within r n id place (lets name declared value) = one_within n (own_accesses (lets name declared value))
    form_within r n id place (assigns target value) = one_within n (own_accesses (assigns target value))
    form_within r n id place (stores target value) = one_within n (own_accesses (stores target value))
    form_within r n id place (reduces target op value) = one_within n (own_accesses (reduces target op value))
    form_within r n id place (decides test arm other) =
        let c = times_within (in_arm r id true) (n + term_accesses test) arm in
        let d = other_within (in_arm r id false) (n + term_accesses test + accesses_of arm) other in
        let b =
        choice_bounded (located r n (action id place (decides test arm other))) _ _ _ _ _ _ _ _ _ refl
        (makes_times (in_arm r id true) (n + term_accesses test) arm) (other_times (in_arm r id false) (n + term_accesses test + accesses_of arm) other) refl c d
        in
        let i = times_joined (idle_phases (in_arm r id true) (n + term_accesses test) arm) (idle_other_phases (in_arm r id false) (n + term_accesses test + accesses_of arm) other) in
        let s = span_joined k n (term_accesses test) (accesses_of arm + other_accesses other) in
        let t = span_joined k (n + term_accesses test) (accesses_of arm) (other_accesses other) in
        omega (arith, b, i, s, t)
    form_within r n id place (repeats test body) =
        let c = times_within r (n + term_accesses test) body in
        let l = times_listed (phases r (n + term_accesses test) body) in
        let s = span_joined k n (term_accesses test) (accesses_of body) in
        omega (arith, c, l, s)
    form_within r n id place (counts iterator declared low high factor body combine combine_place) =
        turn_within (in_loop r (loop_of iterator low high factor)) n (located r n (action id place (counts iterator declared low high factor body combine combine_place)))
        (turn_count low.value high.value factor.value) body combine (times_within (in_loop r (loop_of iterator low high factor)) n body)
        (other_within (in_loop r (loop_of iterator low high factor)) (n + accesses_of body) combine)
    form_within r n id place (blocks body) =
        let z : groups_accesses body ≡ 0 + groups_accesses body = omega arith in
        let e = span_same k n (groups_accesses body) (0 + groups_accesses body) z in
        let g = groups_within r n body in
        omega (arith, e, g)
    form_within r n id place (lets_memory name shape shape_places value) = none_within n _
    form_within r n id place (views name parent (shrinks by by_place)) = none_within n _
    form_within r n id place (views name parent (splits by by_place)) = none_within n _
    form_within r n id place (views name parent (suffixes by by_place)) = one_within n (own_accesses (views name parent (suffixes by by_place)))
    form_within r n id place (views name parent (shifts by)) = one_within n (own_accesses (views name parent (shifts by)))
    form_within r n id place (calls function arguments) = none_within n _

    pub other_within : (r : Around) (n : ℕ) (o : MaybeAction) → times k (other_phases r n o) + times k (idle_other_phases r n o) ≤ span k n (other_accesses o)
    other_within r n no_action = none_within n _
    other_within r n (one_action a) = times_within r n a

    pub groups_within : (r : Around) (n : ℕ) (gs : Groups) → times k (groups_phases r n gs) + times k (idle_groups_phases r n gs) ≤ span k n (groups_accesses gs)
    groups_within r n no_groups = none_within n _
    groups_within r n (group_then part rest) =
        let c = part_within r n part in
        let d = groups_within r (n + part_accesses part) rest in
        let e = times_joined (joined [] (parts_phases r n part)) (groups_phases r (n + part_accesses part) rest) in
        let f = times_part [] (parts_phases r n part) in
        let i = times_joined (idle_part_phases r n part) (idle_groups_phases r (n + part_accesses part) rest) in
        let s = span_joined k n (part_accesses part) (groups_accesses rest) in
        omega (arith, c, d, e, f, i, s)

    pub part_within : (r : Around) (n : ℕ) (xs : Actions) → times_parts k (parts_phases r n xs) + times k (idle_part_phases r n xs) ≤ span k n (part_accesses xs)
    part_within r n no_actions = none_within n _
    part_within r n (action_then a rest) =
        let c = times_within r n a in
        let d = part_within r (n + accesses_of a) rest in
        let i = times_joined (idle_phases r n a) (idle_part_phases r (n + accesses_of a) rest) in
        let s = span_joined k n (accesses_of a) (part_accesses rest) in
        omega (arith, c, d, i, s)

-- the accesses of a program stand in one phase or test at most
pub times_once : (k : ℕ) (p : Program) → times k (phases_of p ++ idle_phases_of p) ≤ 1
times_once k p =
    let c = times_within k nothing_around 0 p.body in
    let j = times_joined k (phases_of p) (idle_phases_of p) in
    let s = span_one k 0 (accesses_of p.body) in
    omega (arith, c, j, s)

-- the same of a command by itself: one phase or test at most makes an access, and none makes a number of another
pub times_at_most_one : (k : ℕ) (r : Around) (n : ℕ) (a : Action) → times k (phases r n a) + times k (idle_phases r n a) ≤ 1
times_at_most_one k r n a =
    let c = times_within k r n a in
    let s = span_one k n (accesses_of a) in
    omega (arith, c, s)

pub times_outside : (k : ℕ) (r : Around) (n : ℕ) (a : Action)
    → (k < n) ⊎ (n + accesses_of a ≤ k) → times k (phases r n a) + times k (idle_phases r n a) ≡ 0
times_outside k r n a o =
    let c = times_within k r n a in
    let s = span_outside k n (accesses_of a) o in
    omega (arith, c, s)

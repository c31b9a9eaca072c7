-- Two accesses of a test that is a phase of its own may meet. By induction on the command: the test of a command
-- is one expression, and the numbers of a part are not those of another; what is joined and folded of parts has
-- just their tests.
use Rattle.std.proofs.Common.{◌≡◌, ℕ, ◌+◌, ◌≤◌, ◌==◌, ◌&&◌, ◌||◌, nat_lt, ◌⊎◌, inl, inr, Bool, true, false, if◌then◌else◌, List, [], ◌∷◌, ◌++◌, refl, ◌∙◌, ap, arith}
use Rattle.dh_base.specs.declared.places.Place.{Place}
use Rattle.dh_tree.specs.Meets.{Meets, all, one, In, Apart}
use Rattle.dh_tree.specs.PlainTrees.{Action, action, ActionForm, lets, lets_memory, views, assigns, stores, reduces, calls, blocks, decides, repeats, counts, MaybeAction, no_action, one_action, Actions, no_actions, action_then, Groups, no_groups, group_then, Program}
use Rattle.dh_meaning.specs.AccessNumbers.{term_accesses, accesses_of, other_accesses, part_accesses, groups_accesses}
use Rattle.dh_meaning.specs.Sites.{Around, nothing_around, in_arm, in_loop, loop_of}
use Rattle.dh_meaning.specs.Phases.{Located, Phase, straight, turns, repeated, decided, of_list, one_straight, joined, are_straight, one_command, folded, turn_count, turn_phases, choice_phases, located, phases, form_phases, other_phases, groups_phases, parts_phases, phases_of}
use Rattle.dh_meaning.specs.OnePhase.{test_makes}
use Rattle.dh_meets.specs.MayMeet.{row_of_accesses, arms_meet, meets, command_meets, other_meets, groups_meet, part_meets, meets_in}
use Rattle.dh_sound.specs.PhaseFacts.{HasTestIn, HaveTest, HasTest}
use Rattle.dh_sound.proofs.Sums.{Within, arms_in, row_within, meets_within, other_within, groups_within, part_within}
use Rattle.dh_sound.proofs.Times as time
use Rattle.dh_sound.proofs.Times.{times, times_parts, span, span_joined, times_joined, times_part, times_within}
use Rattle.dh_sound.proofs.SamePhase.{test_times}
use Rattle.dh_sound.proofs.Sited.{within_span, within_times}
use Rattle.dh_sound.proofs.Opposite.{apart_first, row_apart}

-- the phases of all parts, one behind the other
abbrev all_phases : List (List Phase) → List Phase
all_phases [] = []
all_phases (ps ∷ parts) = ps ++ all_phases parts

test_split : (ps qs : List Phase) (c : Located) → HasTest (ps ++ qs) c → HasTest ps c ⊎ HasTest qs c
test_split [] qs c h = inr h
test_split (p ∷ ps) qs c (inl h) = inl (inl h)
test_split (p ∷ ps) qs c (inr h) = side (test_split ps qs c h)
  where
    side : HasTest ps c ⊎ HasTest qs c → (HasTestIn p c ⊎ HasTest ps c) ⊎ HasTest qs c
    side (inl g) = inl (inr g)
    side (inr g) = inr g

test_left : (ps qs : List Phase) (c : Located) → HasTest ps c → HasTest (ps ++ qs) c
test_left [] qs c h = elim h [ ]
test_left (p ∷ ps) qs c (inl h) = inl h
test_left (p ∷ ps) qs c (inr h) = inr (test_left ps qs c h)

test_right : (ps qs : List Phase) (c : Located) → HasTest qs c → HasTest (ps ++ qs) c
test_right [] qs c h = h
test_right (p ∷ ps) qs c h = inr (test_right ps qs c h)

test_unlisted : (ps : List Phase) (c : Located) → HaveTest (of_list ps) c → HasTest ps c
test_unlisted [] c h = h
test_unlisted (p ∷ ps) c (inl h) = inl h
test_unlisted (p ∷ ps) c (inr h) = inr (test_unlisted ps c h)

no_test : (cs : List Located) (c : Located) → HasTest (one_straight cs) c → ⊥
no_test [] c h = h
no_test (d ∷ cs) c (inl h) = h
no_test (d ∷ cs) c (inr h) = h

behind_straight : (cs : List Located) (ps : List Phase) (c : Located) → HasTest (one_straight cs ++ ps) c → HasTest ps c
behind_straight cs ps c h = elim (test_split (one_straight cs) ps c h) [ inl g ↦ elim (no_test cs c g) [ ] | inr g ↦ g ]

-- in a part, or in the others
part_or : (ps rest more : List Phase) (c : Located) → (HasTest rest c → HasTest more c) → HasTest (ps ++ rest) c → HasTest (ps ++ more) c
part_or ps rest more c f h = elim (test_split ps rest c h) [ inl g ↦ test_left ps more c g | inr g ↦ test_right ps more c (f g) ]

joined_tests : (cs : List Located) (parts : List (List Phase)) (c : Located) → HasTest (joined cs parts) c → HasTest (all_phases parts) c
joined_tests cs [] c h = no_test cs c h
joined_tests cs ([] ∷ parts) c h = joined_tests cs parts c h
joined_tests cs ((straight ds ∷ []) ∷ parts) c h = inr (joined_tests (cs ++ ds) parts c h)
joined_tests cs ((turns loop count body ∷ []) ∷ parts) c h =
    part_or (turns loop count body ∷ []) (joined [] parts) (all_phases parts) c (joined_tests [] parts c) (behind_straight cs (turns loop count body ∷ joined [] parts) c h)
joined_tests cs ((repeated loop body ∷ []) ∷ parts) c h =
    part_or (repeated loop body ∷ []) (joined [] parts) (all_phases parts) c (joined_tests [] parts c) (behind_straight cs (repeated loop body ∷ joined [] parts) c h)
joined_tests cs ((decided choice chosen other ∷ []) ∷ parts) c h =
    part_or (decided choice chosen other ∷ []) (joined [] parts) (all_phases parts) c (joined_tests [] parts c) (behind_straight cs (decided choice chosen other ∷ joined [] parts) c h)
joined_tests cs ((p ∷ q ∷ ps) ∷ parts) c h =
    part_or (p ∷ q ∷ ps) (joined [] parts) (all_phases parts) c (joined_tests [] parts c) (behind_straight cs ((p ∷ q ∷ ps) ++ joined [] parts) c h)

folded_tests : (body fold : List Phase) (c : Located) → HasTest (folded body fold) c → HasTest (body ++ fold) c
folded_tests [] fold c h = h
folded_tests (straight cs ∷ []) fold c h = elim (test_split fold [] c (joined_tests cs (fold ∷ []) c h)) [ inl g ↦ inr g | inr g ↦ elim g [ ] ]
folded_tests (turns loop count body ∷ []) fold c h = h
folded_tests (repeated loop body ∷ []) fold c h = h
folded_tests (decided choice chosen other ∷ []) fold c h = h
folded_tests (p ∷ q ∷ ps) fold c (inl h) = inl h
folded_tests (p ∷ q ∷ ps) fold c (inr h) = inr (folded_tests (q ∷ ps) fold c h)

turn_tests : (loop : Located) (count : ℕ) (turn : List Phase) (c : Located) → HasTest (turn_phases loop count turn) c → HasTest turn c
turn_tests loop count [] c h = h
turn_tests loop count (p ∷ ps) c h = by (count == 0) h
  where
    by : (b : Bool) → HasTest (if b then [] else turns loop count (of_list (p ∷ ps)) ∷ []) c → HasTest (p ∷ ps) c
    by true g = elim g [ ]
    by false (inl g) = test_unlisted (p ∷ ps) c g
    by false (inr g) = elim g [ ]

repeated_tests : (loop : Located) (ps : List Phase) (c : Located) → HasTest (repeated loop (of_list ps) ∷ []) c → (loop ≡ c) ⊎ HasTest ps c
repeated_tests loop ps c (inl (inl e)) = inl e
repeated_tests loop ps c (inl (inr h)) = inr (test_unlisted ps c h)
repeated_tests loop ps c (inr h) = elim h [ ]

choice_tests : (choice : Located) (ps qs : List Phase) (c : Located) → HasTest (choice_phases choice ps qs) c → (choice ≡ c) ⊎ HasTest (ps ++ qs) c
choice_tests choice ps qs c h = by (are_straight ps && are_straight qs) h
  where
    by : (b : Bool) → HasTest (if b then one_command choice else decided choice (of_list ps) (of_list qs) ∷ []) c → (choice ≡ c) ⊎ HasTest (ps ++ qs) c
    by true (inl g) = elim g [ ]
    by true (inr g) = elim g [ ]
    by false (inl (inl e)) = inl e
    by false (inl (inr (inl g))) = inr (test_left ps qs c (test_unlisted ps c g))
    by false (inl (inr (inr g))) = inr (test_right ps qs c (test_unlisted qs c g))
    by false (inr g) = elim g [ ]

module _ (j k : ℕ) where
  -- two accesses of a test of these phases may meet
  abbrev Meet : List Phase → Meets → Type 0
  Meet ps t = (c : Located) → HasTest ps c → test_makes j c ≡ true → test_makes k c ≡ true → Apart t j k → ⊥

  -- what is known of a part of a command: its phases, what may meet in it, and its numbers
  pub record TestPart (ps : List Phase) (t : Meets) (n c : ℕ) : Type 0 where
    pub made_within : (i : ℕ) → times i ps ≤ span i n c
    pub stands : (i : ℕ) → In i t → Within i n c
    pub meet : Meet ps t

  abbrev Splits : (l r t : Meets) → Type 0
  Splits l r t = Apart t j k → ((In j l × In k r) ⊎ (In j r × In k l)) ⊎ (Apart l j k ⊎ Apart r j k)

  arms_split : (u : Bool) (l r : Meets) → Splits l r (arms_meet u l r)
  arms_split true l r h = inr h
  arms_split false l r h = h

  test_within : (i n c : ℕ) (ps : List Phase) (d : Located) → times i ps ≤ span i n c → HasTest ps d → test_makes i d ≡ true → Within i n c
  test_within i n c ps d l h m = within_times i n c (times i ps) 0 (omega (arith, l)) (test_times i ps d h m)

  numbers_apart : (i n x y : ℕ) → Within i n x → Within i (n + x) y → ⊥
  numbers_apart i n x y v w = let l = v.1 in let g = w.0 in omega (arith, l, g)

  -- both numbers are those of the first part, or of the second
  first_meet : (l r : Meets) (n x y : ℕ) → Within j n x → Within k n x → ((i : ℕ) → In i r → Within i (n + x) y) → (Apart l j k → ⊥)
      → ((In j l × In k r) ⊎ (In j r × In k l)) ⊎ (Apart l j k ⊎ Apart r j k) → ⊥
  first_meet l r n x y wj wk stands f (inl (inl c)) = numbers_apart k n x y wk (stands k c.1)
  first_meet l r n x y wj wk stands f (inl (inr c)) = numbers_apart j n x y wj (stands j c.0)
  first_meet l r n x y wj wk stands f (inr (inl c)) = f c
  first_meet l r n x y wj wk stands f (inr (inr c)) = numbers_apart j n x y wj (stands j (apart_first r j k c))

  second_meet : (l r : Meets) (n x y : ℕ) → Within j (n + x) y → Within k (n + x) y → ((i : ℕ) → In i l → Within i n x) → (Apart r j k → ⊥)
      → ((In j l × In k r) ⊎ (In j r × In k l)) ⊎ (Apart l j k ⊎ Apart r j k) → ⊥
  second_meet l r n x y wj wk stands f (inl (inl c)) = numbers_apart j n x y (stands j c.0) wj
  second_meet l r n x y wj wk stands f (inl (inr c)) = numbers_apart k n x y (stands k c.1) wk
  second_meet l r n x y wj wk stands f (inr (inl c)) = numbers_apart j n x y (stands j (apart_first l j k c)) wj
  second_meet l r n x y wj wk stands f (inr (inr c)) = f c

  module _ (ps qs : List Phase) (l r t : Meets) (n x y : ℕ) (p : TestPart ps l n x) (q : TestPart qs r (n + x) y) (split : Splits l r t) where
    both_meet : Meet (ps ++ qs) t
    both_meet c h a b apart =
        elim (test_split ps qs c h) [
          | inl d ↦ first_meet l r n x y (test_within j n x ps c (p.made_within j) d a) (test_within k n x ps c (p.made_within k) d b) q.stands (p.meet c d a b) (split apart)
          | inr d ↦ second_meet l r n x y (test_within j (n + x) y qs c (q.made_within j) d a) (test_within k (n + x) y qs c (q.made_within k) d b) p.stands (q.meet c d a b) (split apart)
        ]

    both_parts : ((i : ℕ) → In i t → In i l ⊎ In i r) → TestPart (ps ++ qs) t n (x + y)
    both_parts inside = record { made_within = sums; stands = stand; meet = both_meet }
      where
        sums : (i : ℕ) → times i (ps ++ qs) ≤ span i n (x + y)
        sums i =
            let e = times_joined i ps qs in
            let s = span_joined i n x y in
            let f = p.made_within i in
            let g = q.made_within i in
            omega (arith, e, s, f, g)

        side : (i : ℕ) → In i l ⊎ In i r → Within i n (x + y)
        side i (inl h) = let (a, b) = p.stands i h in (a, omega (arith, b))
        side i (inr h) = let (a, b) = q.stands i h in (omega (arith, a), omega (arith, b))

        stand : (i : ℕ) → In i t → Within i n (x + y)
        stand i h = side i (inside i h)

  -- a command with a test, whose accesses are numbered first, and what stands in it
  tested_meet : (loop : Located) (ps : List Phase) (r t : Meets) (n x y : ℕ) → ((i : ℕ) → test_makes i loop ≡ true → Within i n x) → TestPart ps r (n + x) y → Splits (row_of_accesses n x) r t
      → (c : Located) → (loop ≡ c) ⊎ HasTest ps c → test_makes j c ≡ true → test_makes k c ≡ true → Apart t j k → ⊥
  tested_meet loop ps r t n x y own q split c (inl e) a b apart =
      first_meet (row_of_accesses n x) r n x y (own j (ap (test_makes j) e ∙ a)) (own k (ap (test_makes k) e ∙ b)) q.stands (row_apart n x j k) (split apart)
  tested_meet loop ps r t n x y own q split c (inr d) a b apart =
      second_meet (row_of_accesses n x) r n x y (test_within j (n + x) y ps c (q.made_within j) d a) (test_within k (n + x) y ps c (q.made_within k) d b) (λ i h. row_within i n x h) (q.meet c d a b) (split apart)

  command_part : (r : Around) (u : Bool) (n : ℕ) (a : Action) → Meet (phases r n a) (meets u n a) → TestPart (phases r n a) (meets u n a) n (accesses_of a)
  command_part r u n a t = record { made_within = λ i. let w = times_within i r n a in omega (arith, w); stands = λ i h. meets_within i u n a h; meet = t }

  other_part : (r : Around) (u : Bool) (n : ℕ) (o : MaybeAction) → Meet (other_phases r n o) (other_meets u n o) → TestPart (other_phases r n o) (other_meets u n o) n (other_accesses o)
  other_part r u n o t = record { made_within = λ i. let w = time.other_within i r n o in omega (arith, w); stands = λ i h. other_within i u n o h; meet = t }

  groups_part : (r : Around) (u : Bool) (n : ℕ) (gs : Groups) → Meet (groups_phases r n gs) (groups_meet u n gs) → TestPart (groups_phases r n gs) (groups_meet u n gs) n (groups_accesses gs)
  groups_part r u n gs t = record { made_within = λ i. let w = time.groups_within i r n gs in omega (arith, w); stands = λ i h. groups_within i u n gs h; meet = t }

  all_times : (i : ℕ) (parts : List (List Phase)) → times i (all_phases parts) ≡ times_parts i parts
  all_times i [] = refl
  all_times i (ps ∷ parts) = let e = times_joined i ps (all_phases parts) in let h = all_times i parts in omega (arith, e, h)

  part_part : (r : Around) (u : Bool) (n : ℕ) (xs : Actions) → Meet (all_phases (parts_phases r n xs)) (part_meets u n xs)
      → TestPart (all_phases (parts_phases r n xs)) (part_meets u n xs) n (part_accesses xs)
  part_part r u n xs t = record {
    made_within = λ i. let w = time.part_within i r n xs in let e = all_times i (parts_phases r n xs) in omega (arith, w, e);
    stands = λ i h. part_within i u n xs h;
    meet = t;
  }

  group_part : (r : Around) (u : Bool) (n : ℕ) (xs : Actions) → Meet (all_phases (parts_phases r n xs)) (part_meets u n xs)
      → TestPart (joined [] (parts_phases r n xs)) (part_meets u n xs) n (part_accesses xs)
  group_part r u n xs t = record {
    made_within = λ i. let w = time.part_within i r n xs in let e = times_part i [] (parts_phases r n xs) in omega (arith, w, e);
    stands = λ i h. part_within i u n xs h;
    meet = λ c h. t c (joined_tests [] (parts_phases r n xs) c h);
  }

  mutual
    pub tests_meet : (r : Around) (u : Bool) (n : ℕ) (a : Action) → Meet (phases r n a) (meets u n a)
    tests_meet r u n (action id place form) = form_meet r u n id place form

    form_meet : (r : Around) (u : Bool) (n id : ℕ) (place : Place) (f : ActionForm) → Meet (form_phases r n id place f) (command_meets u n f)
    form_meet r u n id place (lets name declared value) c h a b apart = row_apart n _ j k apart
    form_meet r u n id place (lets_memory name shape shape_places value) c h a b apart = apart
    form_meet r u n id place (views name parent form) c h a b apart = row_apart n _ j k apart
    form_meet r u n id place (assigns target value) c h a b apart = row_apart n _ j k apart
    form_meet r u n id place (stores target value) c h a b apart = row_apart n _ j k apart
    form_meet r u n id place (reduces target op value) c h a b apart = row_apart n _ j k apart
    form_meet r u n id place (calls function arguments) c h a b apart = apart
    form_meet r u n id place (blocks body) c h a b apart = groups_tests r u n body c h a b apart
    form_meet r u n id place (decides test arm other) c h a b apart =
        tested_meet (located r n (action id place (decides test arm other)))
        (phases (in_arm r id true) (n + term_accesses test) arm ++ other_phases (in_arm r id false) (n + term_accesses test + accesses_of arm) other)
        (arms_meet u (meets u (n + term_accesses test) arm) (other_meets u (n + term_accesses test + accesses_of arm) other))
        (all (row_of_accesses n (term_accesses test)) (arms_meet u (meets u (n + term_accesses test) arm) (other_meets u (n + term_accesses test + accesses_of arm) other)))
        n (term_accesses test) (accesses_of arm + other_accesses other) (λ i m. within_span i n (term_accesses test) m)
        (both_parts (phases (in_arm r id true) (n + term_accesses test) arm) (other_phases (in_arm r id false) (n + term_accesses test + accesses_of arm) other)
        (meets u (n + term_accesses test) arm) (other_meets u (n + term_accesses test + accesses_of arm) other)
        (arms_meet u (meets u (n + term_accesses test) arm) (other_meets u (n + term_accesses test + accesses_of arm) other))
        (n + term_accesses test) (accesses_of arm) (other_accesses other)
        (command_part (in_arm r id true) u (n + term_accesses test) arm (tests_meet (in_arm r id true) u (n + term_accesses test) arm))
        (other_part (in_arm r id false) u (n + term_accesses test + accesses_of arm) other (other_tests (in_arm r id false) u (n + term_accesses test + accesses_of arm) other))
        (arms_split u (meets u (n + term_accesses test) arm) (other_meets u (n + term_accesses test + accesses_of arm) other))
        (λ i. arms_in i u (meets u (n + term_accesses test) arm) (other_meets u (n + term_accesses test + accesses_of arm) other)))
        (λ d. inr d) c (choice_tests (located r n (action id place (decides test arm other))) (phases (in_arm r id true) (n + term_accesses test) arm)
        (other_phases (in_arm r id false) (n + term_accesses test + accesses_of arm) other) c h) a b apart
    form_meet r u n id place (repeats test body) c h a b apart =
        tested_meet (located r n (action id place (repeats test body))) (phases r (n + term_accesses test) body) (meets u (n + term_accesses test) body)
        (one (row_of_accesses n (term_accesses test)) (meets u (n + term_accesses test) body)) n (term_accesses test) (accesses_of body) (λ i m. within_span i n (term_accesses test) m)
        (command_part r u (n + term_accesses test) body (tests_meet r u (n + term_accesses test) body)) (λ d. d) c
        (repeated_tests (located r n (action id place (repeats test body))) (phases r (n + term_accesses test) body) c h) a b apart
    form_meet r u n id place (counts iterator declared low high factor body combine combine_place) c h a b apart =
        both_meet (phases (in_loop r (loop_of iterator low high factor)) n body) (other_phases (in_loop r (loop_of iterator low high factor)) (n + accesses_of body) combine)
        (meets (u || nat_lt 1 factor.value) n body) (other_meets (u || nat_lt 1 factor.value) (n + accesses_of body) combine)
        (all (meets (u || nat_lt 1 factor.value) n body) (other_meets (u || nat_lt 1 factor.value) (n + accesses_of body) combine))
        n (accesses_of body) (other_accesses combine)
        (command_part (in_loop r (loop_of iterator low high factor)) (u || nat_lt 1 factor.value) n body (tests_meet (in_loop r (loop_of iterator low high factor)) (u || nat_lt 1 factor.value) n body))
        (other_part (in_loop r (loop_of iterator low high factor)) (u || nat_lt 1 factor.value) (n + accesses_of body) combine
        (other_tests (in_loop r (loop_of iterator low high factor)) (u || nat_lt 1 factor.value) (n + accesses_of body) combine))
        (λ d. inr d) c (folded_tests (phases (in_loop r (loop_of iterator low high factor)) n body) (other_phases (in_loop r (loop_of iterator low high factor)) (n + accesses_of body) combine) c
        (turn_tests (located r n (action id place (counts iterator declared low high factor body combine combine_place))) (turn_count low.value high.value factor.value)
        (folded (phases (in_loop r (loop_of iterator low high factor)) n body) (other_phases (in_loop r (loop_of iterator low high factor)) (n + accesses_of body) combine)) c h)) a b apart

    other_tests : (r : Around) (u : Bool) (n : ℕ) (o : MaybeAction) → Meet (other_phases r n o) (other_meets u n o)
    other_tests r u n no_action c h a b apart = apart
    other_tests r u n (one_action x) c h a b apart = tests_meet r u n x c h a b apart

    groups_tests : (r : Around) (u : Bool) (n : ℕ) (gs : Groups) → Meet (groups_phases r n gs) (groups_meet u n gs)
    groups_tests r u n no_groups c h a b apart = apart
    groups_tests r u n (group_then part rest) c h a b apart =
        both_meet (joined [] (parts_phases r n part)) (groups_phases r (n + part_accesses part) rest) (part_meets u n part) (groups_meet u (n + part_accesses part) rest)
        (one (part_meets u n part) (groups_meet u (n + part_accesses part) rest)) n (part_accesses part) (groups_accesses rest)
        (group_part r u n part (part_tests r u n part)) (groups_part r u (n + part_accesses part) rest (groups_tests r u (n + part_accesses part) rest)) (λ d. d) c h a b apart

    part_tests : (r : Around) (u : Bool) (n : ℕ) (xs : Actions) → Meet (all_phases (parts_phases r n xs)) (part_meets u n xs)
    part_tests r u n no_actions c h a b apart = apart
    part_tests r u n (action_then x rest) c h a b apart =
        both_meet (phases r n x) (all_phases (parts_phases r (n + accesses_of x) rest)) (meets u n x) (part_meets u (n + accesses_of x) rest)
        (all (meets u n x) (part_meets u (n + accesses_of x) rest)) n (accesses_of x) (part_accesses rest)
        (command_part r u n x (tests_meet r u n x)) (part_part r u (n + accesses_of x) rest (part_tests r u (n + accesses_of x) rest)) (λ d. inr d) c h a b apart

-- two accesses of one test of a program may meet
pub test_together : (p : Program) (c : Located) (j k : ℕ)
    → HasTest (phases_of p) c → test_makes j c ≡ true → test_makes k c ≡ true → Apart (meets_in p) j k → ⊥
test_together p c j k h a b apart = tests_meet j k nothing_around false 0 p.body c h a b apart

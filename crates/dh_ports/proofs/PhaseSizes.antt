-- How many phases commands have, and which phase is open behind them, as the walk counts and carries them.
use Rattle.std.proofs.Common.{◌≡◌, ℕ, ◌+◌, ◌≤◌, ◌==◌, ◌&&◌, ◌||◌, nat_le, not, Bool, true, false, if◌then◌else◌, List, [], ◌∷◌, min, max, ◌⊎◌, inl, inr, refl, ap, sym, ◌∙◌, subst, arith}
use Rattle.std.proofs.lemmas.Bool.{ne_eqb, or_left, or_right, or_from}
use Rattle.std.proofs.lemmas.Bool.Decides.{nat_tests}
use Rattle.std.specs.Prelude.{Some, None}
use Rattle.dh_base.specs.declared.places.Place.{Place}
use Rattle.dh_tree.specs.PlainTrees.{shrinks, splits, suffixes, shifts, Action, action, ActionForm, lets, lets_memory, views, assigns, stores, reduces, calls, blocks, decides, repeats, counts, MaybeAction, no_action, one_action, Actions, no_actions, action_then, Groups, no_groups, group_then}
use Rattle.dh_tree.specs.ViewOffsets.{moves}
use Rattle.dh_meaning.specs.AccessNumbers.{term_accesses, accesses_of, part_accesses}
use Rattle.dh_meaning.specs.OnePhase.{is_between, makes, form_makes, other_makes, groups_make, part_makes}
use Rattle.dh_meaning.specs.Phases.{Located, Phase, straight, turns, repeated, decided, of_list, joined, are_straight, one_command, folded, turn_count, turn_phases, choice_phases, located, phases, form_phases, other_phases, groups_phases, parts_phases}
use Rattle.dh_meaning.specs.Sites.{Around, in_arm, in_loop, loop_of}
use Rattle.dh_events.specs.declared.noting.Open.{Open}
use Rattle.dh_events.specs.Incidents.{open_phases, open_at, released, phase_at, phase_of, tested, inside_choice, behind_loop, is_stepped, open_after, form_open, groups_open, part_open}
use Rattle.dh_tree.specs.PhaseKinds.{phase_kind, form_phase_kind, other_phase_kind, groups_phase_kind, part_phase_kind, choice_kind, turns_kind}
use Rattle.dh_ports.proofs.PhaseRuns.{or_both}
use Rattle.dh_ports.proofs.PhaseShapes.{size, most, IsFull, straight_size, some_size, size_joined, full_joined, size_append, full_append, max_right, last_behind, opened, opened_all, opened_joined, last_joined, last_append, opened_more, opened_beside, tops, all_tops, tops_append, tops_joined}
use Rattle.dh_ports.proofs.StagesKnown.{Known, KnownInside, KnownGroups, KnownPart}

-- An `if`.

both_not : (a b : ℕ) → (not (nat_le 2 a) && not (nat_le 2 b)) ≡ not (nat_le 2 (max a b))
both_not a b = grind (arith, nat_tests)

pub choice_straight : (ps qs : List Phase) (k l : ℕ) → k ≡ size ps → l ≡ size qs → (are_straight ps && are_straight qs) ≡ not (nat_le 2 (max k l))
choice_straight ps qs k l e f =
    ap (λ v. v && are_straight qs) (straight_size ps) ∙ (ap (λ v. not (nat_le 2 (size ps)) && v) (straight_size qs) ∙ (both_not (size ps) (size qs)
    ∙ (ap (λ n. not (nat_le 2 (max n (size qs)))) (sym e) ∙ ap (λ n. not (nat_le 2 (max k n))) (sym f))))

choice_size : (c : Located) (ps qs : List Phase) (k l : ℕ) → k ≡ size ps → l ≡ size qs → choice_kind k l ≡ size (choice_phases c ps qs)
choice_size c ps qs k l e f = by (nat_le 2 (max k l)) ∙ ap (λ v. size (if v then one_command c else decided c (of_list ps) (of_list qs) ∷ [])) (sym (choice_straight ps qs k l e f))
  where
    by : (v : Bool) → (if v then 2 else 1) ≡ size (if not v then one_command c else decided c (of_list ps) (of_list qs) ∷ [])
    by true = refl
    by false = refl

choice_full : (c : Located) (ps qs : List Phase) → IsFull (choice_phases c ps qs)
choice_full c ps qs = by (are_straight ps && are_straight qs)
  where
    by : (v : Bool) → IsFull (if v then one_command c else decided c (of_list ps) (of_list qs) ∷ [])
    by true = tt
    by false = tt

-- A `for`.

data Folds (none : Bool) (fs : List Phase) : Type 0 where
  idle : none ≡ true → fs ≡ [] → Folds none fs
  does : (q : Phase) → (qs : List Phase) → none ≡ false → fs ≡ q ∷ qs → Folds none fs

cons_of : (b : Bool) (fs : List Phase) → b ≡ false → 1 ≤ size fs → Folds b fs
cons_of b [] e h = absurd (never h)
  where
    never : 1 ≤ 0 → ⊥
    never x = omega (arith, x)
cons_of b (q ∷ qs) e h = does q qs e refl

not_none : (n : ℕ) → 1 ≤ n → (n == 0) ≡ false
not_none n h = ne_eqb n 0 (λ e. omega (arith, h, e))

max_one : (a : ℕ) → 1 ≤ max 1 a
max_one a = grind arith

folds : (ps fold : List Phase) → IsFull ps → IsFull fold → Folds ((size ps == 0) && (size fold == 0)) (folded ps fold)
folds [] [] f g = idle refl refl
folds [] (y ∷ ys) f g = does y ys (not_none (size (y ∷ ys)) (some_size y ys g)) refl
folds (straight [] ∷ []) fold f g = absurd f
folds (straight (c ∷ cs) ∷ []) fold f g = cons_of _ (joined (c ∷ cs) (fold ∷ [])) refl (subst (λ (n : ℕ). 1 ≤ n) (sym (size_joined (c ∷ cs) (fold ∷ []))) (max_one (most (fold ∷ []))))
folds (turns loop count body ∷ []) fold f g = does (turns loop count body) fold refl refl
folds (repeated loop body ∷ []) fold f g = does (repeated loop body) fold refl refl
folds (decided choice chosen other ∷ []) fold f g = does (decided choice chosen other) fold refl refl
folds (p ∷ q ∷ ps) fold f g = does p (folded (q ∷ ps) fold) refl refl

abbrev pub TurnCases : Located → (count k l : ℕ) → List Phase → Type 0
TurnCases c count k l fs =
    ((turns_kind count k l ≡ 0) × (turn_phases c count fs ≡ [])) ⊎ ((turns_kind count k l ≡ 2) × (turn_phases c count fs ≡ turns c count (of_list fs) ∷ []))

turned : (c : Located) (count k l : ℕ) (fs : List Phase) → Folds ((k == 0) && (l == 0)) fs → TurnCases c count k l fs
turned c count k l fs (idle e f) = inl (ap (λ v. if v then 0 else 2) (or_right (count == 0) ((k == 0) && (l == 0)) e), ap (turn_phases c count) f)
turned c count k l fs (does q qs e f) = by (count == 0) refl
  where
    by : (v : Bool) → (count == 0) ≡ v → TurnCases c count k l fs
    by true g = inl (ap (λ v. if v then 0 else 2) (or_left (count == 0) ((k == 0) && (l == 0)) g), ap (turn_phases c count) f ∙ ap (λ v. if v then [] else turns c count (of_list (q ∷ qs)) ∷ []) g)
    by false g =
        inr (
          ap (λ v. if v then 0 else 2) (or_from (count == 0) ((k == 0) && (l == 0)) g e),
          ap (turn_phases c count) f ∙ (ap (λ v. if v then [] else turns c count (of_list (q ∷ qs)) ∷ []) g ∙ ap (λ l. turns c count (of_list l) ∷ []) (sym f)),
        )

pub turn_cases : (c : Located) (count k l : ℕ) (ps fold : List Phase) → k ≡ size ps → l ≡ size fold → IsFull ps → IsFull fold → TurnCases c count k l (folded ps fold)
turn_cases c count k l ps fold e f full fully =
    turned c count k l (folded ps fold) (subst (λ (b : Bool). Folds b (folded ps fold)) (ap (λ n. (n == 0) && (size fold == 0)) (sym e) ∙ ap (λ n. (k == 0) && (n == 0)) (sym f)) (folds ps fold full fully))

turn_size : (c : Located) (count k l : ℕ) (fs : List Phase) → TurnCases c count k l fs → turns_kind count k l ≡ size (turn_phases c count fs)
turn_size c count k l fs (inl x) = x.0 ∙ ap size (sym x.1)
turn_size c count k l fs (inr x) = x.0 ∙ ap size (sym x.1)

turn_full : (c : Located) (count k l : ℕ) (fs : List Phase) → TurnCases c count k l fs → IsFull (turn_phases c count fs)
turn_full c count k l fs (inl x) = subst IsFull (sym x.1) tt
turn_full c count k l fs (inr x) = subst IsFull (sym x.1) tt

-- Commands.

max_itself : (n : ℕ) → n ≡ max 0 n
max_itself n = grind arith

both_sizes : (a b c d : ℕ) → a ≡ c → b ≡ d → min 2 (a + b) ≡ min 2 (c + d)
both_sizes a b c d e f = ap (λ n. min 2 (n + b)) e ∙ ap (λ n. min 2 (c + n)) f

-- a view is one command where it moves
view_size : (v : Bool) (c : Located) → (if v then 1 else 0) ≡ size (if v then one_command c else [])
view_size true c = refl
view_size false c = refl

view_full : (v : Bool) (c : Located) → IsFull (if v then one_command c else [])
view_full true c = tt
view_full false c = tt

view_opened : (v : Bool) (b : Open) (c : Located) (id : ℕ) → opened b (one_command c) ≡ open_at (Some (phase_of b id)) → (if v then open_at (Some (phase_of b id)) else b) ≡ opened b (if v then one_command c else [])
view_opened true b c id own = sym own
view_opened false b c id own = refl

mutual
  pub stage_size : (r : Around) (n : ℕ) (a : Action) → phase_kind a ≡ size (phases r n a)
  stage_size r n (action id place form) = form_size r n id place form

  form_size : (r : Around) (n id : ℕ) (place : Place) (form : ActionForm) → form_phase_kind form ≡ size (form_phases r n id place form)
  form_size r n id place (lets name declared value) = refl
  form_size r n id place (lets_memory name shape shape_places value) = refl
  form_size r n id place (views name parent form) = view_size (moves form) (located r n (action id place (views name parent form)))
  form_size r n id place (assigns target value) = refl
  form_size r n id place (stores target value) = refl
  form_size r n id place (reduces target op value) = refl
  form_size r n id place (calls function arguments) = refl
  form_size r n id place (blocks body) = groups_size r n body
  form_size r n id place (decides test chosen other) =
      choice_size (located r n (action id place (decides test chosen other))) (phases (in_arm r id true) (n + term_accesses test) chosen) (other_phases (in_arm r id false) (n + term_accesses test + accesses_of chosen) other) (phase_kind chosen) (other_phase_kind other) (stage_size (in_arm r id true) (n + term_accesses test) chosen)
      (other_size (in_arm r id false) (n + term_accesses test + accesses_of chosen) other)
  form_size r n id place (repeats test body) = refl
  form_size r n id place (counts iterator declared low high factor body combine combine_place) =
      turn_size (located r n (action id place (counts iterator declared low high factor body combine combine_place))) (turn_count low.value high.value factor.value) (phase_kind body) (other_phase_kind combine) (folded (phases (in_loop r (loop_of iterator low high factor)) n body) (other_phases (in_loop r (loop_of iterator low high factor)) (n + accesses_of body) combine))
      (turn_cases (located r n (action id place (counts iterator declared low high factor body combine combine_place))) (turn_count low.value high.value factor.value) (phase_kind body) (other_phase_kind combine) (phases (in_loop r (loop_of iterator low high factor)) n body) (other_phases (in_loop r (loop_of iterator low high factor)) (n + accesses_of body) combine) (stage_size (in_loop r (loop_of iterator low high factor)) n body) (other_size (in_loop r (loop_of iterator low high factor)) (n + accesses_of body) combine)
      (full (in_loop r (loop_of iterator low high factor)) n body) (other_full (in_loop r (loop_of iterator low high factor)) (n + accesses_of body) combine))

  pub other_size : (r : Around) (n : ℕ) (o : MaybeAction) → other_phase_kind o ≡ size (other_phases r n o)
  other_size r n no_action = refl
  other_size r n (one_action a) = stage_size r n a

  pub groups_size : (r : Around) (n : ℕ) (body : Groups) → groups_phase_kind body ≡ size (groups_phases r n body)
  groups_size r n no_groups = refl
  groups_size r n (group_then part rest) =
      both_sizes (part_phase_kind part) (groups_phase_kind rest) (size (joined [] (parts_phases r n part))) (size (groups_phases r (n + part_accesses part) rest)) (part_size r n part ∙ (max_itself (most (parts_phases r n part)) ∙ sym (size_joined [] (parts_phases r n part)))) (groups_size r (n + part_accesses part) rest)
      ∙ sym (size_append (joined [] (parts_phases r n part)) (groups_phases r (n + part_accesses part) rest) (full_joined [] (parts_phases r n part)) (groups_full r (n + part_accesses part) rest))

  pub part_size : (r : Around) (n : ℕ) (part : Actions) → part_phase_kind part ≡ most (parts_phases r n part)
  part_size r n no_actions = refl
  part_size r n (action_then a rest) = ap (λ m. max m (part_phase_kind rest)) (stage_size r n a) ∙ ap (λ m. max (size (phases r n a)) m) (part_size r (n + accesses_of a) rest)

  pub full : (r : Around) (n : ℕ) (a : Action) → IsFull (phases r n a)
  full r n (action id place form) = form_full r n id place form

  form_full : (r : Around) (n id : ℕ) (place : Place) (form : ActionForm) → IsFull (form_phases r n id place form)
  form_full r n id place (lets name declared value) = tt
  form_full r n id place (lets_memory name shape shape_places value) = tt
  form_full r n id place (views name parent form) = view_full (moves form) (located r n (action id place (views name parent form)))
  form_full r n id place (assigns target value) = tt
  form_full r n id place (stores target value) = tt
  form_full r n id place (reduces target op value) = tt
  form_full r n id place (calls function arguments) = tt
  form_full r n id place (blocks body) = groups_full r n body
  form_full r n id place (decides test chosen other) = choice_full (located r n (action id place (decides test chosen other))) (phases (in_arm r id true) (n + term_accesses test) chosen) (other_phases (in_arm r id false) (n + term_accesses test + accesses_of chosen) other)
  form_full r n id place (repeats test body) = tt
  form_full r n id place (counts iterator declared low high factor body combine combine_place) =
      turn_full (located r n (action id place (counts iterator declared low high factor body combine combine_place))) (turn_count low.value high.value factor.value) (phase_kind body) (other_phase_kind combine) (folded (phases (in_loop r (loop_of iterator low high factor)) n body) (other_phases (in_loop r (loop_of iterator low high factor)) (n + accesses_of body) combine))
      (turn_cases (located r n (action id place (counts iterator declared low high factor body combine combine_place))) (turn_count low.value high.value factor.value) (phase_kind body) (other_phase_kind combine) (phases (in_loop r (loop_of iterator low high factor)) n body) (other_phases (in_loop r (loop_of iterator low high factor)) (n + accesses_of body) combine) (stage_size (in_loop r (loop_of iterator low high factor)) n body) (other_size (in_loop r (loop_of iterator low high factor)) (n + accesses_of body) combine)
      (full (in_loop r (loop_of iterator low high factor)) n body) (other_full (in_loop r (loop_of iterator low high factor)) (n + accesses_of body) combine))

  pub other_full : (r : Around) (n : ℕ) (o : MaybeAction) → IsFull (other_phases r n o)
  other_full r n no_action = tt
  other_full r n (one_action a) = full r n a

  pub groups_full : (r : Around) (n : ℕ) (body : Groups) → IsFull (groups_phases r n body)
  groups_full r n no_groups = tt
  groups_full r n (group_then part rest) =
      full_append (joined [] (parts_phases r n part)) (groups_phases r (n + part_accesses part) rest) (full_joined [] (parts_phases r n part)) (groups_full r (n + part_accesses part) rest)

-- the turns of a loop
pub loop_turns : (r : Around) (n : ℕ) (c : Located) (count : ℕ) (body : Action) (combine : MaybeAction) → TurnCases c count (phase_kind body) (other_phase_kind combine) (folded (phases r n body) (other_phases r (n + accesses_of body) combine))
loop_turns r n c count body combine =
    turn_cases c count (phase_kind body) (other_phase_kind combine) (phases r n body) (other_phases r (n + accesses_of body) combine) (stage_size r n body) (other_size r (n + accesses_of body) combine) (full r n body) (other_full r (n + accesses_of body) combine)

-- The accesses of straight commands.

pub max_first : (k l : ℕ) → max k l ≤ 1 → k ≤ 1
max_first k l e = grind (arith, e)

pub sum_first : (k l : ℕ) → min 2 (k + l) ≤ 1 → k ≤ 1
sum_first k l e = grind (arith, e)

pub sum_second : (k l : ℕ) → min 2 (k + l) ≤ 1 → l ≤ 1
sum_second k l e = grind (arith, e)

pub few_choice : (k l : ℕ) → choice_kind k l ≤ 1 → nat_le 2 (max k l) ≡ false
few_choice k l h = by (nat_le 2 (max k l)) refl
  where
    never : 2 ≤ 1 → ⊥
    never x = omega (arith, x)

    by : (v : Bool) → nat_le 2 (max k l) ≡ v → nat_le 2 (max k l) ≡ false
    by true e = absurd (never (subst (λ (b : Bool). (if b then 2 else 1) ≤ 1) e h))
    by false e = e

pub within_none : (k n : ℕ) → is_between k n 0 ≡ false
within_none k n = grind (arith, nat_tests)

twice_none : (x : Bool) → x ≡ ((x || false) || false)
twice_none true = refl
twice_none false = refl

tops_choice : (c : Located) (ps qs : List Phase) (k : ℕ) → (are_straight ps && are_straight qs) ≡ true → makes k c.first c.command ≡ tops k (choice_phases c ps qs)
tops_choice c ps qs k e = twice_none (makes k c.first c.command) ∙ ap (λ v. tops k (if v then one_command c else decided c (of_list ps) (of_list qs) ∷ [])) (sym e)

tops_turn : (c : Located) (count k l : ℕ) (fs : List Phase) (i : ℕ) → TurnCases c count k l fs → false ≡ tops i (turn_phases c count fs)
tops_turn c count k l fs i (inl x) = ap (tops i) (sym x.1)
tops_turn c count k l fs i (inr x) = ap (tops i) (sym x.1)

mutual
  pub makes_tops : (r : Around) (k n : ℕ) (a : Action) → phase_kind a ≤ 1 → makes k n a ≡ tops k (phases r n a)
  makes_tops r k n (action id place form) h = form_tops r k n id place form h

  form_tops : (r : Around) (k n id : ℕ) (place : Place) (form : ActionForm) → form_phase_kind form ≤ 1 → form_makes k n form ≡ tops k (form_phases r n id place form)
  form_tops r k n id place (lets name declared value) h = twice_none (form_makes k n (lets name declared value))
  form_tops r k n id place (lets_memory name shape shape_places value) h = refl
  form_tops r k n id place (views name parent (shrinks by by_place)) h = within_none k n
  form_tops r k n id place (views name parent (splits by by_place)) h = within_none k n
  form_tops r k n id place (views name parent (suffixes by by_place)) h = twice_none (form_makes k n (views name parent (suffixes by by_place)))
  form_tops r k n id place (views name parent (shifts by)) h = twice_none (form_makes k n (views name parent (shifts by)))
  form_tops r k n id place (assigns target value) h = twice_none (form_makes k n (assigns target value))
  form_tops r k n id place (stores target value) h = twice_none (form_makes k n (stores target value))
  form_tops r k n id place (reduces target op value) h = twice_none (form_makes k n (reduces target op value))
  form_tops r k n id place (calls function arguments) h = refl
  form_tops r k n id place (blocks body) h = groups_tops r k n body h
  form_tops r k n id place (decides test chosen other) h =
      tops_choice (located r n (action id place (decides test chosen other))) (phases (in_arm r id true) (n + term_accesses test) chosen) (other_phases (in_arm r id false) (n + term_accesses test + accesses_of chosen) other) k
      (choice_straight (phases (in_arm r id true) (n + term_accesses test) chosen) (other_phases (in_arm r id false) (n + term_accesses test + accesses_of chosen) other) (phase_kind chosen) (other_phase_kind other) (stage_size (in_arm r id true) (n + term_accesses test) chosen) (other_size (in_arm r id false) (n + term_accesses test + accesses_of chosen) other)
      ∙ ap not (few_choice (phase_kind chosen) (other_phase_kind other) h))
  form_tops r k n id place (repeats test body) h = refl
  form_tops r k n id place (counts iterator declared low high factor body combine combine_place) h =
      tops_turn (located r n (action id place (counts iterator declared low high factor body combine combine_place))) (turn_count low.value high.value factor.value) (phase_kind body) (other_phase_kind combine) (folded (phases (in_loop r (loop_of iterator low high factor)) n body) (other_phases (in_loop r (loop_of iterator low high factor)) (n + accesses_of body) combine)) k
      (loop_turns (in_loop r (loop_of iterator low high factor)) n (located r n (action id place (counts iterator declared low high factor body combine combine_place))) (turn_count low.value high.value factor.value) body combine)

  pub other_tops : (r : Around) (k n : ℕ) (o : MaybeAction) → other_phase_kind o ≤ 1 → other_makes k n o ≡ tops k (other_phases r n o)
  other_tops r k n no_action h = refl
  other_tops r k n (one_action a) h = makes_tops r k n a h

  groups_tops : (r : Around) (k n : ℕ) (body : Groups) → groups_phase_kind body ≤ 1 → groups_make k n body ≡ tops k (groups_phases r n body)
  groups_tops r k n no_groups h = refl
  groups_tops r k n (group_then part rest) h =
      or_both (part_makes k n part) (groups_make k (n + part_accesses part) rest) (tops k (joined [] (parts_phases r n part))) (tops k (groups_phases r (n + part_accesses part) rest)) (part_tops r k n part (sum_first (part_phase_kind part) (groups_phase_kind rest) h) ∙ sym (tops_joined k [] (parts_phases r n part)))
      (groups_tops r k (n + part_accesses part) rest (sum_second (part_phase_kind part) (groups_phase_kind rest) h))
      ∙ sym (tops_append k (joined [] (parts_phases r n part)) (groups_phases r (n + part_accesses part) rest))

  part_tops : (r : Around) (k n : ℕ) (part : Actions) → part_phase_kind part ≤ 1 → part_makes k n part ≡ all_tops k (parts_phases r n part)
  part_tops r k n no_actions h = refl
  part_tops r k n (action_then a rest) h =
      or_both (makes k n a) (part_makes k (n + accesses_of a) rest) (tops k (phases r n a)) (all_tops k (parts_phases r (n + accesses_of a) rest)) (makes_tops r k n a (max_first (phase_kind a) (part_phase_kind rest) h)) (part_tops r k (n + accesses_of a) rest (max_right (phase_kind a) (part_phase_kind rest) h))

-- What is open behind commands.

pub stepped_at : (f : ℕ → ℕ) (id k m : ℕ) → f id ≡ k → k ≡ m → is_stepped f id ≡ nat_le 2 m
stepped_at f id k m e g = ap (nat_le 2) (e ∙ g)

few_size : (n : ℕ) → false ≡ nat_le 2 n → n ≤ 1
few_size n e = grind (arith, nat_tests, e)

not_true : (b : Bool) → true ≡ b → not b ≡ false
not_true b e = ap not (sym e)

choice_opened : (s : Bool) (b : Open) (c : Located) (id : ℕ) (ps qs : List Phase) → (are_straight ps && are_straight qs) ≡ not s → opened b (one_command c) ≡ open_at (Some (phase_at b.going id))
    → inside_choice s (tested s b id) ≡ opened b (choice_phases c ps qs)
choice_opened true b c id ps qs e own = ap (λ v. opened b (if v then one_command c else decided c (of_list ps) (of_list qs) ∷ [])) (sym e)
choice_opened false b c id ps qs e own = sym own ∙ ap (λ v. opened b (if v then one_command c else decided c (of_list ps) (of_list qs) ∷ [])) (sym e)

pub stepped_choice : (s : Bool) (k l : ℕ) → s ≡ nat_le 2 (choice_kind k l) → s ≡ nat_le 2 (max k l)
stepped_choice s k l e = e ∙ by (nat_le 2 (max k l))
  where
    by : (v : Bool) → nat_le 2 (if v then 2 else 1) ≡ v
    by true = refl
    by false = refl

turn_opened : (s : Bool) (b : Open) (c : Located) (count k l : ℕ) (fs : List Phase) → s ≡ nat_le 2 (turns_kind count k l) → TurnCases c count k l fs → behind_loop s b ≡ opened b (turn_phases c count fs)
turn_opened s b c count k l fs e (inl x) = ap (λ v. behind_loop v b) (e ∙ ap (nat_le 2) x.0) ∙ ap (opened b) (sym x.1)
turn_opened s b c count k l fs e (inr x) = ap (λ v. behind_loop v b) (e ∙ ap (nat_le 2) x.0) ∙ ap (opened b) (sym x.1)

pub few_parts : (r : Around) (n : ℕ) (part : Actions) (rest : Groups) → min 2 (part_phase_kind part + groups_phase_kind rest) ≤ 1 → min 2 (size (joined [] (parts_phases r n part)) + size (groups_phases r (n + part_accesses part) rest)) ≤ 1
few_parts r n part rest few =
    subst (λ (m : ℕ). m ≤ 1)
    (both_sizes (part_phase_kind part) (groups_phase_kind rest) (size (joined [] (parts_phases r n part))) (size (groups_phases r (n + part_accesses part) rest)) (part_size r n part ∙ (max_itself (most (parts_phases r n part)) ∙ sym (size_joined [] (parts_phases r n part)))) (groups_size r (n + part_accesses part) rest)) few

block_opened : (f : ℕ → ℕ) (s : Bool) (b : Open) (body : Groups) (gs : List Phase) → s ≡ nat_le 2 (size gs) → (groups_open f true (open_phases None b.last) body).last ≡ last_behind b.last gs
    → (size gs ≤ 1 → groups_open f false b body ≡ opened b gs) → released s (groups_open f s (released s b) body) ≡ opened b gs
block_opened f true b body gs e last few = ap (λ l. open_phases None l) last ∙ opened_more b b.last gs (straight_size gs ∙ not_true (nat_le 2 (size gs)) e)
block_opened f false b body gs e last few = few (few_size (size gs) e)

mutual
  pub after : (f : ℕ → ℕ) (r : Around) (n : ℕ) (b : Open) (a : Action) → Known f a → open_after f b a ≡ opened b (phases r n a)
  after f r n b (action id place form) h = form_after f r n b id place form h.0 h.1

  form_after : (f : ℕ → ℕ) (r : Around) (n : ℕ) (b : Open) (id : ℕ) (place : Place) (form : ActionForm) → f id ≡ form_phase_kind form → KnownInside f form → form_open f b id form ≡ opened b (form_phases r n id place form)
  form_after f r n b id place (lets name declared value) e h = refl
  form_after f r n b id place (lets_memory name shape shape_places value) e h = refl
  form_after f r n b id place (views name parent form) e h = view_opened (moves form) b (located r n (action id place (views name parent form))) id refl
  form_after f r n b id place (assigns target value) e h = refl
  form_after f r n b id place (stores target value) e h = refl
  form_after f r n b id place (reduces target op value) e h = refl
  form_after f r n b id place (calls function arguments) e h = refl
  form_after f r n b id place (blocks body) e h =
      block_opened f (is_stepped f id) b body (groups_phases r n body) (stepped_at f id (groups_phase_kind body) (size (groups_phases r n body)) e (groups_size r n body)) (groups_last f r n (open_phases None b.last) body h)
      (λ few. groups_straight f r n b body (subst (λ (m : ℕ). m ≤ 1) (sym (groups_size r n body)) few) h)
  form_after f r n b id place (decides test chosen other) e h =
      choice_opened (is_stepped f id) b (located r n (action id place (decides test chosen other))) id (phases (in_arm r id true) (n + term_accesses test) chosen) (other_phases (in_arm r id false) (n + term_accesses test + accesses_of chosen) other)
      (choice_straight (phases (in_arm r id true) (n + term_accesses test) chosen) (other_phases (in_arm r id false) (n + term_accesses test + accesses_of chosen) other) (phase_kind chosen) (other_phase_kind other) (stage_size (in_arm r id true) (n + term_accesses test) chosen) (other_size (in_arm r id false) (n + term_accesses test + accesses_of chosen) other)
      ∙ ap not (sym (stepped_choice (is_stepped f id) (phase_kind chosen) (other_phase_kind other) (ap (nat_le 2) e))))
      refl
  form_after f r n b id place (repeats test body) e h = refl
  form_after f r n b id place (counts iterator declared low high factor body combine combine_place) e h =
      turn_opened (is_stepped f id) b (located r n (action id place (counts iterator declared low high factor body combine combine_place))) (turn_count low.value high.value factor.value) (phase_kind body) (other_phase_kind combine) (folded (phases (in_loop r (loop_of iterator low high factor)) n body) (other_phases (in_loop r (loop_of iterator low high factor)) (n + accesses_of body) combine)) (ap (nat_le 2) e)
      (loop_turns (in_loop r (loop_of iterator low high factor)) n (located r n (action id place (counts iterator declared low high factor body combine combine_place))) (turn_count low.value high.value factor.value) body combine)

  -- the last phase behind the parts of a block of more than one phase
  groups_last : (f : ℕ → ℕ) (r : Around) (n : ℕ) (b : Open) (body : Groups) → KnownGroups f body → (groups_open f true b body).last ≡ last_behind b.last (groups_phases r n body)
  groups_last f r n b no_groups h = refl
  groups_last f r n b (group_then part rest) h =
      groups_last f r (n + part_accesses part) (part_open f (open_phases None b.last) part) rest h.1
      ∙ (ap (λ l. last_behind l (groups_phases r (n + part_accesses part) rest)) (ap (λ o. o.last) (part_after f r n (open_phases None b.last) part h.0) ∙ last_joined b.last [] (parts_phases r n part))
      ∙ sym (last_append b.last (joined [] (parts_phases r n part)) (groups_phases r (n + part_accesses part) rest)))

  groups_straight : (f : ℕ → ℕ) (r : Around) (n : ℕ) (b : Open) (body : Groups) → groups_phase_kind body ≤ 1 → KnownGroups f body → groups_open f false b body ≡ opened b (groups_phases r n body)
  groups_straight f r n b no_groups few h = refl
  groups_straight f r n b (group_then part rest) few h =
      groups_straight f r (n + part_accesses part) (part_open f b part) rest (sum_second (part_phase_kind part) (groups_phase_kind rest) few) h.1
      ∙ (ap (λ o. opened o (groups_phases r (n + part_accesses part) rest)) (part_after f r n b part h.0 ∙ opened_joined b [] (parts_phases r n part) (subst (λ (m : ℕ). m ≤ 1) (part_size r n part) (sum_first (part_phase_kind part) (groups_phase_kind rest) few)))
      ∙ opened_beside b (joined [] (parts_phases r n part)) (groups_phases r (n + part_accesses part) rest) (full_joined [] (parts_phases r n part)) (groups_full r (n + part_accesses part) rest) (few_parts r n part rest few))

  pub part_after : (f : ℕ → ℕ) (r : Around) (n : ℕ) (b : Open) (part : Actions) → KnownPart f part → part_open f b part ≡ opened_all b (parts_phases r n part)
  part_after f r n b no_actions h = refl
  part_after f r n b (action_then a rest) h =
      part_after f r (n + accesses_of a) (open_after f b a) rest h.1 ∙ ap (λ o. opened_all o (parts_phases r (n + accesses_of a) rest)) (after f r n b a h.0)

pub part_straight : (f : ℕ → ℕ) (r : Around) (n : ℕ) (b : Open) (part : Actions) → part_phase_kind part ≤ 1 → KnownPart f part → part_open f b part ≡ opened b (joined [] (parts_phases r n part))
part_straight f r n b part few h = part_after f r n b part h ∙ opened_joined b [] (parts_phases r n part) (subst (λ (m : ℕ). m ≤ 1) (part_size r n part) few)

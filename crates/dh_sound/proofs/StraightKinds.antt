-- A command has no phase, one straight phase, or others, as the count of its phases says by which the rule on steps of
-- copies (K16) goes. By one walk over the command; a part's phases are joined behind straight commands.
use Rattle.std.proofs.Common.{◌≡◌, ℕ, ◌+◌, ◌≤◌, ◌==◌, ◌&&◌, ◌||◌, nat_le, Bool, true, false, if◌then◌else◌, List, [], ◌∷◌, ◌++◌, min, max, refl, sym, ◌∙◌, ap, arith}
use Rattle.std.proofs.lemmas.Bool.Decides.{nat_tests}
use Rattle.dh_base.specs.declared.places.Place.{Place}
use Rattle.dh_tree.specs.PhaseKinds.{choice_kind, turns_kind, phase_kind, form_phase_kind, other_phase_kind, groups_phase_kind, part_phase_kind}
use Rattle.dh_tree.specs.PlainTrees.{shrinks, splits, suffixes, shifts, Action, action, ActionForm, lets, lets_memory, views, assigns, stores, reduces, calls, blocks, decides, repeats, counts, MaybeAction, no_action, one_action, Actions, no_actions, action_then, Groups, no_groups, group_then}
use Rattle.dh_meaning.specs.AccessNumbers.{term_accesses, accesses_of, part_accesses}
use Rattle.dh_meaning.specs.Phases.{Located, located, Phase, straight, turns, repeated, decided, of_list, one_straight, joined, are_straight, one_command, folded, turn_count, turn_phases, choice_phases, phases, form_phases, other_phases, groups_phases, parts_phases}
use Rattle.dh_meaning.specs.Sites.{Around, in_arm, in_loop, loop_of}

-- Lists of phases.

two_stepped : (p q : Phase) (ps : List Phase) → are_straight (p ∷ q ∷ ps) ≡ false
two_stepped (straight cs) q ps = refl
two_stepped (turns loop count body) q ps = refl
two_stepped (repeated loop body) q ps = refl
two_stepped (decided choice chosen other) q ps = refl

more_stepped : (p : Phase) (qs : List Phase) → are_straight (p ∷ []) ≡ false → are_straight (p ∷ qs) ≡ false
more_stepped p [] e = e
more_stepped p (q ∷ qs) e = two_stepped p q qs

stepped_append : (ps qs : List Phase) → are_straight ps ≡ false → are_straight (ps ++ qs) ≡ false
stepped_append [] qs e = absurd cc
stepped_append (p ∷ []) qs e = more_stepped p qs e
stepped_append (p ∷ p' ∷ ps) qs e = two_stepped p p' (ps ++ qs)

append_stepped : (ps qs : List Phase) → are_straight qs ≡ false → are_straight (ps ++ qs) ≡ false
append_stepped [] qs e = e
append_stepped (p ∷ []) [] e = absurd cc
append_stepped (p ∷ []) (q ∷ qs) e = two_stepped p q qs
append_stepped (p ∷ p' ∷ ps) qs e = two_stepped p p' (ps ++ qs)

-- a count, and the phases of which it is
pub data Kinded (k : ℕ) (ps : List Phase) : Type 0 where
  no_phase : k ≡ 0 → ps ≡ [] → Kinded k ps
  one_phase : (c : Located) → (cs : List Located) → k ≡ 1 → ps ≡ straight (c ∷ cs) ∷ [] → Kinded k ps
  more_phases : k ≡ 2 → are_straight ps ≡ false → Kinded k ps

kinded_small : (k : ℕ) (ps : List Phase) → Kinded k ps → k ≤ 2
kinded_small k ps (no_phase e is) = omega (arith, e)
kinded_small k ps (one_phase c cs e is) = omega (arith, e)
kinded_small k ps (more_phases e is) = omega (arith, e)

kinded_as : (k l : ℕ) (ps qs : List Phase) → l ≡ k → qs ≡ ps → Kinded k ps → Kinded l qs
kinded_as k l ps qs f g (no_phase e is) = no_phase (f ∙ e) (g ∙ is)
kinded_as k l ps qs f g (one_phase c cs e is) = one_phase c cs (f ∙ e) (g ∙ is)
kinded_as k l ps qs f g (more_phases e is) = more_phases (f ∙ e) (ap are_straight g ∙ is)

pub kinded_straight : (k : ℕ) (ps : List Phase) → Kinded k ps → are_straight ps ≡ nat_le k 1
kinded_straight k ps (no_phase e is) = ap are_straight is ∙ ap (λ n. nat_le n 1) (sym e)
kinded_straight k ps (one_phase c cs e is) = ap are_straight is ∙ ap (λ n. nat_le n 1) (sym e)
kinded_straight k ps (more_phases e is) = is ∙ ap (λ n. nat_le n 1) (sym e)

-- the greatest count of parts
abbrev AllKinded : ℕ → List (List Phase) → Type 0
AllKinded k [] = k ≡ 0
AllKinded k (ps ∷ parts) = (m : ℕ) × ((n : ℕ) × ((k ≡ max m n) × (Kinded m ps × AllKinded n parts)))

all_small : (k : ℕ) (parts : List (List Phase)) → AllKinded k parts → k ≤ 2
all_small k [] h = omega (arith, h)
all_small k (ps ∷ parts) (m, (n, (e, (h, more)))) = let a = kinded_small m ps h in let b = all_small n parts more in grind (arith, e, a, b)

-- straight commands in front: none, or some
abbrev count_of : List Located → ℕ
count_of [] = 0
count_of (c ∷ cs) = 1

count_small : (cs : List Located) → count_of cs ≤ 1
count_small [] = omega arith
count_small (c ∷ cs) = omega arith

one_kinded : (cs : List Located) → Kinded (count_of cs) (one_straight cs)
one_kinded [] = no_phase refl refl
one_kinded (c ∷ cs) = one_phase c cs refl refl

-- a stepped part
stepped_joined : (cs : List Located) (ps : List Phase) (parts : List (List Phase)) → are_straight ps ≡ false → joined cs (ps ∷ parts) ≡ one_straight cs ++ (ps ++ joined [] parts)
stepped_joined cs [] parts e = absurd cc
stepped_joined cs (straight ds ∷ []) parts e = absurd cc
stepped_joined cs (turns loop count body ∷ []) parts e = refl
stepped_joined cs (repeated loop body ∷ []) parts e = refl
stepped_joined cs (decided choice chosen other ∷ []) parts e = refl
stepped_joined cs (p ∷ q ∷ ps) parts e = refl

some_count : (cs : List Located) (d : Located) (ds : List Located) → count_of (cs ++ d ∷ ds) ≡ 1
some_count [] d ds = refl
some_count (c ∷ cs) d ds = refl

max_third : (a m n k : ℕ) → m ≡ 0 → k ≡ max m n → max a k ≡ max a n
max_third a m n k e f = ap (λ x. max a x) (f ∙ ap (λ x. max x n) e) ∙ grind arith

max_one : (a b m n k : ℕ) → a ≤ 1 → b ≡ 1 → m ≡ 1 → k ≡ max m n → max a k ≡ max b n
max_one a b m n k small e f g = grind (arith, small, e, f, g)

max_two : (a m n k : ℕ) → a ≤ 1 → n ≤ 2 → m ≡ 2 → k ≡ max m n → max a k ≡ 2
max_two a m n k small few e f = grind (arith, small, few, e, f)

joined_kinded : (cs : List Located) (parts : List (List Phase)) (k : ℕ) → AllKinded k parts → Kinded (max (count_of cs) k) (joined cs parts)
joined_kinded cs [] k h = kinded_as (count_of cs) (max (count_of cs) k) (one_straight cs) (one_straight cs) (ap (λ x. max (count_of cs) x) h ∙ grind arith) refl (one_kinded cs)
joined_kinded cs (ps ∷ parts) k (m, (n, (e, (no_phase f is, more)))) =
    kinded_as (max (count_of cs) n) (max (count_of cs) k) (joined cs parts) (joined cs (ps ∷ parts)) (max_third (count_of cs) m n k f e) (ap (λ l. joined cs (l ∷ parts)) is) (joined_kinded cs parts n more)
joined_kinded cs (ps ∷ parts) k (m, (n, (e, (one_phase d ds f is, more)))) =
    kinded_as (max (count_of (cs ++ d ∷ ds)) n) (max (count_of cs) k) (joined (cs ++ d ∷ ds) parts) (joined cs (ps ∷ parts))
    (max_one (count_of cs) (count_of (cs ++ d ∷ ds)) m n k (count_small cs) (some_count cs d ds) f e) (ap (λ l. joined cs (l ∷ parts)) is) (joined_kinded (cs ++ d ∷ ds) parts n more)
joined_kinded cs (ps ∷ parts) k (m, (n, (e, (more_phases f is, more)))) =
    more_phases (max_two (count_of cs) m n k (count_small cs) (all_small n parts more) f e)
    (ap are_straight (stepped_joined cs ps parts is) ∙ append_stepped (one_straight cs) (ps ++ joined [] parts) (stepped_append ps (joined [] parts) is))

-- lists behind one another
sum_none : (m n : ℕ) → m ≡ 0 → n ≤ 2 → min 2 (m + n) ≡ n
sum_none m n e few = grind (arith, e, few)

sum_one_none : (m n : ℕ) → m ≡ 1 → n ≡ 0 → min 2 (m + n) ≡ 1
sum_one_none m n e f = grind (arith, e, f)

sum_two : (m n : ℕ) → 2 ≤ m + n → min 2 (m + n) ≡ 2
sum_two m n few = grind (arith, few)

both_kinded : (m n : ℕ) (ps qs : List Phase) → Kinded m ps → Kinded n qs → Kinded (min 2 (m + n)) (ps ++ qs)
both_kinded m n ps qs (no_phase e is) g = kinded_as n (min 2 (m + n)) qs (ps ++ qs) (sum_none m n e (kinded_small n qs g)) (ap (λ l. l ++ qs) is) g
both_kinded m n ps qs (one_phase c cs e is) (no_phase f at) = one_phase c cs (sum_one_none m n e f) (ap (λ l. l ++ qs) is ∙ ap (λ l. straight (c ∷ cs) ∷ l) at)
both_kinded m n ps qs (one_phase c cs e is) (one_phase d ds f at) = more_phases (sum_two m n (omega (arith, e, f))) (ap (λ l. are_straight (l ++ qs)) is ∙ ap (λ l. are_straight (straight (c ∷ cs) ∷ l)) at)
both_kinded m n ps qs (one_phase c cs e is) (more_phases f at) = more_phases (sum_two m n (omega (arith, e, f))) (append_stepped ps qs at)
both_kinded m n ps qs (more_phases e is) g = more_phases (sum_two m n (omega (arith, e))) (stepped_append ps qs is)

-- Turns.

-- the phases of a turn are none where those of its body and of the block that joins its copies are
abbrev Filled : List Phase → Type 0
Filled [] = ⊥
Filled (p ∷ ps) = Unit {0}

filled_kinded : (k : ℕ) (ps : List Phase) → Kinded k ps → (k == 0) ≡ false → Filled ps
filled_kinded k [] (no_phase e is) f = absurd (let z : (k == 0) ≡ true = ap (λ n. n == 0) e in cc)
filled_kinded k [] (one_phase c cs e is) f = absurd cc
filled_kinded k [] (more_phases e is) f = absurd cc
filled_kinded k (p ∷ ps) h f = tt

none_kinded : (k : ℕ) (ps : List Phase) → Kinded k ps → (k == 0) ≡ true → ps ≡ []
none_kinded k ps (no_phase e is) f = is
none_kinded k ps (one_phase c cs e is) f = absurd (let z : (k == 0) ≡ false = ap (λ n. n == 0) e in cc)
none_kinded k ps (more_phases e is) f = absurd (let z : (k == 0) ≡ false = ap (λ n. n == 0) e in cc)

filled_append : (ps qs : List Phase) → Filled qs → Filled (ps ++ qs)
filled_append [] qs h = h
filled_append (p ∷ ps) qs h = tt

filled_straight : (d : Located) (ds : List Located) (fold : List Phase) → Filled (joined (d ∷ ds) (fold ∷ []))
filled_straight d ds [] = tt
filled_straight d ds (straight es ∷ []) = tt
filled_straight d ds (turns loop count body ∷ []) = tt
filled_straight d ds (repeated loop body ∷ []) = tt
filled_straight d ds (decided choice chosen other ∷ []) = tt
filled_straight d ds (p ∷ q ∷ ps) = tt

-- a body that has phases, none of which is straight commands without commands
folded_filled : (k : ℕ) (body fold : List Phase) → Kinded k body → (k == 0) ≡ false → Filled (folded body fold)
folded_filled k [] fold h f = absurd (filled_kinded k [] h f)
folded_filled k (straight cs ∷ []) fold (no_phase e is) f = absurd cc
folded_filled k (straight cs ∷ []) fold (one_phase d ds e is) f =
    let same : cs ≡ d ∷ ds = cc in filled_by cs same
  where
    filled_by : (xs : List Located) → xs ≡ d ∷ ds → Filled (joined xs (fold ∷ []))
    filled_by [] g = absurd cc
    filled_by (x ∷ xs) g = filled_straight x xs fold
folded_filled k (straight cs ∷ []) fold (more_phases e is) f = absurd cc
folded_filled k (turns loop count body ∷ []) fold h f = tt
folded_filled k (repeated loop body ∷ []) fold h f = tt
folded_filled k (decided choice chosen other ∷ []) fold h f = tt
folded_filled k (p ∷ q ∷ ps) fold h f = tt

turn_filled : (j k : ℕ) (body fold : List Phase) → Kinded j body → Kinded k fold → (b : Bool) → (j == 0) ≡ b → (b && (k == 0)) ≡ false → Filled (folded body fold)
turn_filled j k body fold h g true e f = filled_as body fold (none_kinded j body h e) (filled_kinded k fold g f)
  where
    filled_as : (xs ys : List Phase) → xs ≡ [] → Filled ys → Filled (folded xs ys)
    filled_as [] ys e f = f
    filled_as (x ∷ xs) ys e f = absurd cc
turn_filled j k body fold h g false e f = folded_filled j body fold h e

turn_none : (j k : ℕ) (body fold : List Phase) → Kinded j body → Kinded k fold → ((j == 0) && (k == 0)) ≡ true → folded body fold ≡ []
turn_none j k body fold h g e =
    let first = left_true (j == 0) (k == 0) e in
    let second = right_true (j == 0) (k == 0) e in
    ap (λ l. folded l fold) (none_kinded j body h first) ∙ none_kinded k fold g second
  where
    left_true : (a b : Bool) → (a && b) ≡ true → a ≡ true
    left_true true b e = refl
    left_true false b e = cc

    right_true : (a b : Bool) → (a && b) ≡ true → b ≡ true
    right_true true b e = e
    right_true false b e = cc

full_turns : (loop : Located) (count : ℕ) (turn : List Phase) → Filled turn → (count == 0) ≡ false → are_straight (turn_phases loop count turn) ≡ false
full_turns loop count [] h e = absurd h
full_turns loop count (p ∷ ps) h e = by (count == 0) e
  where
    by : (b : Bool) → b ≡ false → are_straight (if b then [] else turns loop count (of_list (p ∷ ps)) ∷ []) ≡ false
    by true f = cc
    by false f = refl

no_turns : (loop : Located) (count : ℕ) (turn : List Phase) → (count == 0) ≡ true → turn_phases loop count turn ≡ []
no_turns loop count [] e = refl
no_turns loop count (p ∷ ps) e = ap (λ (b : Bool). if b then [] else turns loop count (of_list (p ∷ ps)) ∷ []) e

kind_when : (b : Bool) (m n : ℕ) → b ≡ true → (if b then m else n) ≡ m
kind_when true m n e = refl
kind_when false m n e = cc

kind_unless : (b : Bool) (m n : ℕ) → b ≡ false → (if b then m else n) ≡ n
kind_unless true m n e = cc
kind_unless false m n e = refl

loop_kinded : (loop : Located) (count j k : ℕ) (body fold : List Phase) → Kinded j body → Kinded k fold → (none empty : Bool) → (count == 0) ≡ none → ((j == 0) && (k == 0)) ≡ empty
    → Kinded (turns_kind count j k) (turn_phases loop count (folded body fold))
loop_kinded loop count j k body fold h g true empty e f =
    no_phase (kind_when ((count == 0) || ((j == 0) && (k == 0))) 0 2 (ap (λ (b : Bool). b || ((j == 0) && (k == 0))) e)) (no_turns loop count (folded body fold) e)
loop_kinded loop count j k body fold h g false true e f =
    no_phase (kind_when ((count == 0) || ((j == 0) && (k == 0))) 0 2 (ap (λ (b : Bool). b || ((j == 0) && (k == 0))) e ∙ f)) (ap (λ l. turn_phases loop count l) (turn_none j k body fold h g f))
loop_kinded loop count j k body fold h g false false e f =
    more_phases (kind_unless ((count == 0) || ((j == 0) && (k == 0))) 0 2 (ap (λ (b : Bool). b || ((j == 0) && (k == 0))) e ∙ f))
    (full_turns loop count (folded body fold) (turn_filled j k body fold h g (j == 0) refl f) e)

-- Choices.

choice_test : (a b : Bool) (m n : ℕ) → a ≡ nat_le m 1 → b ≡ nat_le n 1 → (t : Bool) → nat_le 2 (max m n) ≡ t → (a && b) ≡ (if t then false else true)
choice_test a b m n e f true g = by a b e f
  where
    by : (x y : Bool) → x ≡ nat_le m 1 → y ≡ nat_le n 1 → (x && y) ≡ false
    by true true p q = absurd (grind (arith, nat_tests, g, p, q))
    by true false p q = refl
    by false y p q = refl
choice_test a b m n e f false g = by a b e f
  where
    by : (x y : Bool) → x ≡ nat_le m 1 → y ≡ nat_le n 1 → (x && y) ≡ true
    by true true p q = refl
    by true false p q = absurd (grind (arith, nat_tests, g, p, q))
    by false y p q = absurd (grind (arith, nat_tests, g, p, q))

choice_kinded : (choice : Located) (m n : ℕ) (chosen other : List Phase) → Kinded m chosen → Kinded n other → (t : Bool) → nat_le 2 (max m n) ≡ t
    → Kinded (choice_kind m n) (choice_phases choice chosen other)
choice_kinded choice m n chosen other h g true e =
    more_phases (kind_when (nat_le 2 (max m n)) 2 1 e)
    (by (are_straight chosen && are_straight other) (choice_test (are_straight chosen) (are_straight other) m n (kinded_straight m chosen h) (kinded_straight n other g) true e))
  where
    by : (b : Bool) → b ≡ false → are_straight (if b then one_command choice else decided choice (of_list chosen) (of_list other) ∷ []) ≡ false
    by true f = cc
    by false f = refl
choice_kinded choice m n chosen other h g false e =
    one_phase choice [] (kind_unless (nat_le 2 (max m n)) 2 1 e)
    (by (are_straight chosen && are_straight other) (choice_test (are_straight chosen) (are_straight other) m n (kinded_straight m chosen h) (kinded_straight n other g) false e))
  where
    by : (b : Bool) → b ≡ true → (if b then one_command choice else decided choice (of_list chosen) (of_list other) ∷ []) ≡ straight (choice ∷ []) ∷ []
    by true f = refl
    by false f = cc

-- Commands.
mutual
  pub kinded : (a : Action) (r : Around) (n : ℕ) → Kinded (phase_kind a) (phases r n a)
  kinded (action id place form) r n = form_kinded form r n id place

  form_kinded : (f : ActionForm) (r : Around) (n id : ℕ) (place : Place) → Kinded (form_phase_kind f) (form_phases r n id place f)
  form_kinded (lets name declared value) r n id place = one_phase (located r n (action id place (lets name declared value))) [] refl refl
  form_kinded (lets_memory name shape shape_places value) r n id place = no_phase refl refl
  form_kinded (views name parent (shrinks by by_place)) r n id place = no_phase refl refl
  form_kinded (views name parent (splits by by_place)) r n id place = no_phase refl refl
  form_kinded (views name parent (suffixes by by_place)) r n id place = one_phase (located r n (action id place (views name parent (suffixes by by_place)))) [] refl refl
  form_kinded (views name parent (shifts by)) r n id place = one_phase (located r n (action id place (views name parent (shifts by)))) [] refl refl
  form_kinded (assigns target value) r n id place = one_phase (located r n (action id place (assigns target value))) [] refl refl
  form_kinded (stores target value) r n id place = one_phase (located r n (action id place (stores target value))) [] refl refl
  form_kinded (reduces target o value) r n id place = one_phase (located r n (action id place (reduces target o value))) [] refl refl
  form_kinded (calls function arguments) r n id place = no_phase refl refl
  form_kinded (blocks body) r n id place = groups_kinded body r n
  form_kinded (decides test chosen other) r n id place =
      choice_kinded (located r n (action id place (decides test chosen other))) (phase_kind chosen) (other_phase_kind other) _ _
      (kinded chosen (in_arm r id true) (n + term_accesses test)) (other_kinded other (in_arm r id false) (n + term_accesses test + accesses_of chosen)) _ refl
  form_kinded (repeats test body) r n id place = more_phases refl refl
  form_kinded (counts iterator declared low high factor body combine combine_place) r n id place =
      loop_kinded (located r n (action id place (counts iterator declared low high factor body combine combine_place))) (turn_count low.value high.value factor.value)
      (phase_kind body) (other_phase_kind combine) _ _
      (kinded body (in_loop r (loop_of iterator low high factor)) n) (other_kinded combine (in_loop r (loop_of iterator low high factor)) (n + accesses_of body)) _ _ refl refl

  other_kinded : (m : MaybeAction) (r : Around) (n : ℕ) → Kinded (other_phase_kind m) (other_phases r n m)
  other_kinded no_action r n = no_phase refl refl
  other_kinded (one_action a) r n = kinded a r n

  groups_kinded : (gs : Groups) (r : Around) (n : ℕ) → Kinded (groups_phase_kind gs) (groups_phases r n gs)
  groups_kinded no_groups r n = no_phase refl refl
  groups_kinded (group_then part rest) r n =
      both_kinded (part_phase_kind part) (groups_phase_kind rest) (joined [] (parts_phases r n part)) (groups_phases r (n + part_accesses part) rest)
      (kinded_as (max 0 (part_phase_kind part)) (part_phase_kind part) _ _ (grind arith) refl (joined_kinded [] (parts_phases r n part) (part_phase_kind part) (parts_kinded part r n)))
      (groups_kinded rest r (n + part_accesses part))

  parts_kinded : (part : Actions) (r : Around) (n : ℕ) → AllKinded (part_phase_kind part) (parts_phases r n part)
  parts_kinded no_actions r n = refl
  parts_kinded (action_then a rest) r n = (phase_kind a, (part_phase_kind rest, (refl, (kinded a r n, parts_kinded rest r (n + accesses_of a)))))

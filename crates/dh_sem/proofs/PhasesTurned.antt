-- Each `for` among the phases of a command has a turn, and its turn a phase: one without has no phase. By induction on the
-- command, and by the cases of joining and folding.
use Rattle.std.proofs.Common.{◌≡◌, ℕ, ◌+◌, ◌≤◌, ◌==◌, ◌&&◌, Bool, true, false, if◌then◌else◌, List, [], ◌∷◌, ◌++◌, refl, arith}
use Rattle.std.proofs.lemmas.Bool.Decides.{nat_tests}
use Rattle.dh_base.specs.declared.places.Place.{Place}
use Rattle.dh_tree.specs.PlainTrees as plain
use Rattle.dh_tree.specs.PlainTrees.{Action, ActionForm, MaybeAction, Actions, Groups}
use Rattle.dh_tree.specs.ViewOffsets.{moves}
use Rattle.dh_meaning.specs.AccessNumbers.{term_accesses, accesses_of, part_accesses}
use Rattle.dh_meaning.specs.Phases.{Located, located, Phase, straight, turns, repeated, decided, of_list, one_straight, joined, are_straight, one_command, folded, turn_count, turn_phases, choice_phases, phases, form_phases, other_phases, groups_phases, parts_phases}
use Rattle.dh_meaning.specs.Sites.{Around, in_arm, in_loop, loop_of}
use Rattle.dh_sem.specs.Held.{AreTurned}

both_turned : (xs ys : List Phase) → AreTurned (of_list xs) → AreTurned (of_list ys) → AreTurned (of_list (xs ++ ys))
both_turned [] ys h k = k
both_turned (x ∷ xs) ys h k = (h.0, both_turned xs ys h.1 k)

one_turned : (ls : List Located) → AreTurned (of_list (one_straight ls))
one_turned [] = tt
one_turned (l ∷ ls) = (tt, tt)

abbrev AllTurned : List (List Phase) → Type 0
AllTurned [] = Unit {0}
AllTurned (qs ∷ parts) = AreTurned (of_list qs) × AllTurned parts

joined_turned : (ls : List Located) (parts : List (List Phase)) → AllTurned parts → AreTurned (of_list (joined ls parts))
joined_turned ls [] h = one_turned ls
joined_turned ls ([] ∷ parts) h = joined_turned ls parts h.1
joined_turned ls ((straight ds ∷ []) ∷ parts) h = joined_turned (ls ++ ds) parts h.1
joined_turned ls ((turns loop count body ∷ []) ∷ parts) h = both_turned (one_straight ls) (turns loop count body ∷ joined [] parts) (one_turned ls) (h.0.0, joined_turned [] parts h.1)
joined_turned ls ((repeated loop body ∷ []) ∷ parts) h = both_turned (one_straight ls) (repeated loop body ∷ joined [] parts) (one_turned ls) (h.0.0, joined_turned [] parts h.1)
joined_turned ls ((decided choice chosen other ∷ []) ∷ parts) h = both_turned (one_straight ls) (decided choice chosen other ∷ joined [] parts) (one_turned ls) (h.0.0, joined_turned [] parts h.1)
joined_turned ls ((q ∷ q' ∷ qs) ∷ parts) h = both_turned (one_straight ls) ((q ∷ q' ∷ qs) ++ joined [] parts) (one_turned ls) (both_turned (q ∷ q' ∷ qs) (joined [] parts) h.0 (joined_turned [] parts h.1))

folded_turned : (ps qs : List Phase) → AreTurned (of_list ps) → AreTurned (of_list qs) → AreTurned (of_list (folded ps qs))
folded_turned [] qs h k = k
folded_turned (straight ls ∷ []) qs h k = joined_turned ls (qs ∷ []) (k, tt)
folded_turned (turns loop count body ∷ []) qs h k = (h.0, k)
folded_turned (repeated loop body ∷ []) qs h k = (h.0, k)
folded_turned (decided choice chosen other ∷ []) qs h k = (h.0, k)
folded_turned (p ∷ p' ∷ ps) qs h k = (h.0, folded_turned (p' ∷ ps) qs h.1 k)

some_count : (m : ℕ) → (m == 0) ≡ false → 1 ≤ m
some_count m e = grind (arith, nat_tests, e)

turns_turned : (loop : Located) (count : ℕ) (turn : List Phase) → AreTurned (of_list turn) → AreTurned (of_list (turn_phases loop count turn))
turns_turned loop count [] h = tt
turns_turned loop count (q ∷ qs) h = by (count == 0) refl
  where
    by : (b : Bool) → (count == 0) ≡ b → AreTurned (of_list (if b then [] else turns loop count (of_list (q ∷ qs)) ∷ []))
    by true e = tt
    by false e = ((some_count count e, (tt, h)), tt)

choice_turned : (c : Located) (ps qs : List Phase) → AreTurned (of_list ps) → AreTurned (of_list qs) → AreTurned (of_list (choice_phases c ps qs))
choice_turned c ps qs h k = by (are_straight ps && are_straight qs)
  where
    by : (b : Bool) → AreTurned (of_list (if b then one_command c else decided c (of_list ps) (of_list qs) ∷ []))
    by true = (tt, tt)
    by false = ((h, k), tt)

view_turned : (c : Located) (b : Bool) → AreTurned (of_list (if b then one_command c else []))
view_turned c true = (tt, tt)
view_turned c false = tt

mutual
  pub turned : (r : Around) (n : ℕ) (a : Action) → AreTurned (of_list (phases r n a))
  turned r n (plain.action id place form) = form_turned r n id place form

  form_turned : (r : Around) (n : ℕ) (id : ℕ) (place : Place) (form : ActionForm) → AreTurned (of_list (form_phases r n id place form))
  form_turned r n id place (plain.lets name declared value) = (tt, tt)
  form_turned r n id place (plain.assigns target value) = (tt, tt)
  form_turned r n id place (plain.stores target value) = (tt, tt)
  form_turned r n id place (plain.reduces target op value) = (tt, tt)
  form_turned r n id place (plain.decides test chosen other) =
      choice_turned (located r n (plain.action id place (plain.decides test chosen other)))
      (phases (in_arm r id true) (n + term_accesses test) chosen) (other_phases (in_arm r id false) (n + term_accesses test + accesses_of chosen) other)
      (turned (in_arm r id true) (n + term_accesses test) chosen) (other_turned (in_arm r id false) (n + term_accesses test + accesses_of chosen) other)
  form_turned r n id place (plain.repeats test body) = (turned r (n + term_accesses test) body, tt)
  form_turned r n id place (plain.counts iterator declared low high factor body combine combine_place) =
      turns_turned (located r n (plain.action id place (plain.counts iterator declared low high factor body combine combine_place))) (turn_count low.value high.value factor.value)
      (folded (phases (in_loop r (loop_of iterator low high factor)) n body) (other_phases (in_loop r (loop_of iterator low high factor)) (n + accesses_of body) combine))
      (folded_turned (phases (in_loop r (loop_of iterator low high factor)) n body) (other_phases (in_loop r (loop_of iterator low high factor)) (n + accesses_of body) combine)
      (turned (in_loop r (loop_of iterator low high factor)) n body) (other_turned (in_loop r (loop_of iterator low high factor)) (n + accesses_of body) combine))
  form_turned r n id place (plain.blocks body) = groups_turned r n body
  form_turned r n id place (plain.lets_memory name shape shape_places value) = tt
  form_turned r n id place (plain.views name parent form) = view_turned (located r n (plain.action id place (plain.views name parent form))) (moves form)
  form_turned r n id place (plain.calls function arguments) = tt

  other_turned : (r : Around) (n : ℕ) (other : MaybeAction) → AreTurned (of_list (other_phases r n other))
  other_turned r n plain.no_action = tt
  other_turned r n (plain.one_action a) = turned r n a

  groups_turned : (r : Around) (n : ℕ) (gs : Groups) → AreTurned (of_list (groups_phases r n gs))
  groups_turned r n plain.no_groups = tt
  groups_turned r n (plain.group_then part rest) =
      both_turned (joined [] (parts_phases r n part)) (groups_phases r (n + part_accesses part) rest) (joined_turned [] (parts_phases r n part) (parts_turned r n part)) (groups_turned r (n + part_accesses part) rest)

  parts_turned : (r : Around) (n : ℕ) (part : Actions) → AllTurned (parts_phases r n part)
  parts_turned r n plain.no_actions = tt
  parts_turned r n (plain.action_then a rest) = (turned r n a, parts_turned r (n + accesses_of a) rest)

-- The accesses of a command's phases lie one behind the other, in the order of the phases. By induction on the command,
-- from how lists of phases are joined, folded and decided.
use Rattle.std.proofs.Common.{◌≡◌, ℕ, zero, suc, ◌+◌, ◌-◌, ◌<◌, ◌≤◌, ◌==◌, ◌&&◌, Bool, true, false, if◌then◌else◌, List, [], ◌∷◌, ◌++◌, Some, None, refl, ap, sym, subst, zero-add, arith}
use Rattle.std.specs.Prelude.{Option}
use Rattle.std.proofs.lemmas.Bool.Decides.{nat_tests}
use Rattle.std.proofs.Math.Nat.{div-zero}
use Rattle.dh_base.specs.declared.places.Place.{Place}
use Rattle.dh_tree.specs.PlainTrees.{Action, action, ActionForm, lets, lets_memory, views, assigns, stores, reduces, calls, blocks, decides, repeats, counts, MaybeAction, no_action, one_action, Actions, no_actions, action_then, Groups, no_groups, group_then}
use Rattle.dh_tree.specs.ViewOffsets.{moves}
use Rattle.dh_meaning.specs.AccessNumbers.{accesses_of, groups_accesses, inner_accesses, other_accesses, own_accesses, part_accesses, term_accesses}
use Rattle.dh_meaning.specs.CoreOf.{action_form_of}
use Rattle.dh_meaning.specs.Phases.{Located, Phase, straight, turns, repeated, decided, Phases, no_phases, phase, are_straight, choice_phases, folded, form_phases, groups_phases, joined, located, of_list, one_command, one_straight, other_phases, parts_phases, phases, turn_count, turn_phases}
use Rattle.dh_meaning.specs.Sites.{Around, in_arm, in_loop, loop_of}
use Rattle.dh_phases.specs.GatheredPhases.{Header}
use Rattle.dh_gathering.specs.RisingPhases.{CommandsRise, HasCopies, PhaseRises, PhasesRise, behind_command, behind_test}

same : (n : ℕ) → n ≤ n
same n = omega arith

more : (n k : ℕ) → n ≤ n + k
more n k = omega arith

within : (n m k : ℕ) → n ≤ m → m ≤ k → n ≤ k
within n m k h l = omega (arith, h, l)

past : (n m k l : ℕ) → n ≤ m → m + k ≤ l → n ≤ l
past n m k l h e = omega (arith, h, e)

-- Commands.

pub commands_within : (first last : ℕ) (cs : List Located) → CommandsRise first last cs → first ≤ last
commands_within first last [] h = h
commands_within first last (c ∷ cs) h = past first c.first (accesses_of c.command) last h.0 (commands_within (behind_command c) last cs h.1)

commands_lower : (first middle last : ℕ) (cs : List Located) → first ≤ middle → CommandsRise middle last cs → CommandsRise first last cs
commands_lower first middle last [] low h = within first middle last low h
commands_lower first middle last (c ∷ cs) low h = (within first middle c.first low h.0, h.1)

commands_upper : (first middle last : ℕ) (cs : List Located) → middle ≤ last → CommandsRise first middle cs → CommandsRise first last cs
commands_upper first middle last [] high h = within first middle last h high
commands_upper first middle last (c ∷ cs) high h = (h.0, commands_upper (behind_command c) middle last cs high h.1)

commands_append : (first middle last : ℕ) (cs ds : List Located) → CommandsRise first middle cs → CommandsRise middle last ds → CommandsRise first last (cs ++ ds)
commands_append first middle last [] ds h k = commands_lower first middle last ds h k
commands_append first middle last (c ∷ cs) ds h k = (h.0, commands_append (behind_command c) middle last cs ds h.1 k)

-- Phases.

mutual
  pub phase_within : (first last : ℕ) (q : Phase) → PhaseRises first last q → first ≤ last
  phase_within first last (straight cs) h = commands_within first last cs h
  phase_within first last (turns loop count body) h = phases_within first last body h.1
  phase_within first last (repeated loop body) h = past first loop.first (own_accesses (action_form_of loop.command)) last h.0 (phases_within (behind_test loop) last body h.1)
  phase_within first last (decided choice chosen other) (middle, h) =
      past first choice.first (own_accesses (action_form_of choice.command)) last h.0
      (within (behind_test choice) middle last (phases_within (behind_test choice) middle chosen h.1.0) (phases_within middle last other h.1.1))

  pub phases_within : (first last : ℕ) (qs : Phases) → PhasesRise first last qs → first ≤ last
  phases_within first last no_phases h = h
  phases_within first last (phase q qs) (middle, h) = within first middle last (phase_within first middle q h.0) (phases_within middle last qs h.1)

mutual
  phase_lower : (first middle last : ℕ) (q : Phase) → first ≤ middle → PhaseRises middle last q → PhaseRises first last q
  phase_lower first middle last (straight cs) low h = commands_lower first middle last cs low h
  phase_lower first middle last (turns loop count body) low h = (h.0, phases_lower first middle last body low h.1)
  phase_lower first middle last (repeated loop body) low h = (within first middle loop.first low h.0, h.1)
  phase_lower first middle last (decided choice chosen other) low (m, h) = (m, (within first middle choice.first low h.0, h.1))

  phases_lower : (first middle last : ℕ) (qs : Phases) → first ≤ middle → PhasesRise middle last qs → PhasesRise first last qs
  phases_lower first middle last no_phases low h = within first middle last low h
  phases_lower first middle last (phase q qs) low (m, h) = (m, (phase_lower first middle m q low h.0, h.1))

phases_append : (first middle last : ℕ) (ps qs : List Phase) → PhasesRise first middle (of_list ps) → PhasesRise middle last (of_list qs) → PhasesRise first last (of_list (ps ++ qs))
phases_append first middle last [] qs h k = phases_lower first middle last (of_list qs) h k
phases_append first middle last (p ∷ ps) qs (m, h) k = (m, (h.0, phases_append m middle last ps qs h.1 k))

one_rises : (first last : ℕ) (cs : List Located) → CommandsRise first last cs → PhasesRise first last (of_list (one_straight cs))
one_rises first last [] h = h
one_rises first last (c ∷ cs) h = (last, (h, same last))

-- phases of parts, one behind the other
abbrev PartsRise : (first last : ℕ) → List (List Phase) → Type 0
PartsRise first last [] = first ≤ last
PartsRise first last (ps ∷ parts) = (middle : ℕ) × (PhasesRise first middle (of_list ps) × PartsRise middle last parts)

-- straight commands that stand open, the phases that end them, and further ones
ended_rise : (first open_end middle last : ℕ) (cs : List Located) (ps rest : List Phase) → CommandsRise first open_end cs → PhasesRise open_end middle (of_list ps) → PhasesRise middle last (of_list rest)
    → PhasesRise first last (of_list (one_straight cs ++ (ps ++ rest)))
ended_rise first open_end middle last cs ps rest h i k = phases_append first open_end last (one_straight cs) (ps ++ rest) (one_rises first open_end cs h) (phases_append open_end middle last ps rest i k)

joined_rise : (first middle last : ℕ) (cs : List Located) (parts : List (List Phase)) → CommandsRise first middle cs → PartsRise middle last parts → PhasesRise first last (of_list (joined cs parts))
joined_rise first middle last cs [] h k = one_rises first last cs (commands_upper first middle last cs k h)
joined_rise first middle last cs ([] ∷ parts) h (m, (i, k)) = joined_rise first m last cs parts (commands_upper first middle m cs i h) k
joined_rise first middle last cs ((straight ds ∷ []) ∷ parts) h (m, ((j, i), k)) = joined_rise first m last (cs ++ ds) parts (commands_append first middle m cs ds h (commands_upper middle j m ds i.1 i.0)) k
joined_rise first middle last cs ((turns loop count body ∷ []) ∷ parts) h (m, (i, k)) = ended_rise first middle m last cs (turns loop count body ∷ []) (joined [] parts) h i (joined_rise m m last [] parts (same m) k)
joined_rise first middle last cs ((repeated loop body ∷ []) ∷ parts) h (m, (i, k)) = ended_rise first middle m last cs (repeated loop body ∷ []) (joined [] parts) h i (joined_rise m m last [] parts (same m) k)
joined_rise first middle last cs ((decided choice chosen other ∷ []) ∷ parts) h (m, (i, k)) = ended_rise first middle m last cs (decided choice chosen other ∷ []) (joined [] parts) h i (joined_rise m m last [] parts (same m) k)
joined_rise first middle last cs ((p ∷ q ∷ ps) ∷ parts) h (m, (i, k)) = ended_rise first middle m last cs (p ∷ q ∷ ps) (joined [] parts) h i (joined_rise m m last [] parts (same m) k)

folded_rise : (first middle last : ℕ) (ps qs : List Phase) → PhasesRise first middle (of_list ps) → PhasesRise middle last (of_list qs) → PhasesRise first last (of_list (folded ps qs))
folded_rise first middle last [] qs h k = phases_lower first middle last (of_list qs) h k
folded_rise first middle last (straight cs ∷ []) qs (m, h) k = joined_rise first m last cs (qs ∷ []) h.0 (last, (phases_lower m middle last (of_list qs) h.1 k, same last))
folded_rise first middle last (turns loop count body ∷ []) qs (m, h) k = (m, (h.0, phases_lower m middle last (of_list qs) h.1 k))
folded_rise first middle last (repeated loop body ∷ []) qs (m, h) k = (m, (h.0, phases_lower m middle last (of_list qs) h.1 k))
folded_rise first middle last (decided choice chosen other ∷ []) qs (m, h) k = (m, (h.0, phases_lower m middle last (of_list qs) h.1 k))
folded_rise first middle last (p ∷ q ∷ ps) qs (m, h) k = (m, (h.0, folded_rise m middle last (q ∷ ps) qs h.1 k))

turns_rise : (first last : ℕ) (loop : Located) (count : ℕ) (qs : List Phase) → ((count == 0) ≡ false → HasCopies loop.command) → PhasesRise first last (of_list qs) → PhasesRise first last (of_list (turn_phases loop count qs))
turns_rise first last loop count [] copies h = h
turns_rise first last loop count (q ∷ qs) copies h = by (count == 0) refl
  where
    by : (b : Bool) → (count == 0) ≡ b → PhasesRise first last (of_list (if b then [] else turns loop count (of_list (q ∷ qs)) ∷ []))
    by true e = phases_within first last (of_list (q ∷ qs)) h
    by false e = (last, ((copies e, h), same last))

choice_rises : (middle last : ℕ) (c : Located) (ps qs : List Phase) → behind_command c ≤ last → PhasesRise (behind_test c) middle (of_list ps) → PhasesRise middle last (of_list qs) → PhasesRise c.first last (of_list (choice_phases c ps qs))
choice_rises middle last c ps qs own h k = by (are_straight ps && are_straight qs)
  where
    by : (b : Bool) → PhasesRise c.first last (of_list (if b then one_command c else decided c (of_list ps) (of_list qs) ∷ []))
    by true = (last, ((same c.first, own), same last))
    by false = (last, ((middle, (same c.first, (h, k))), same last))

-- a loop with a turn has a copy
copies_some : (low high factor : ℕ) → (turn_count low high factor == 0) ≡ false → 0 < factor
copies_some low high zero some = absurd (none (turn_count low high 0) (div-zero (high - low)) some)
  where
    none : (count : ℕ) → count ≡ 0 → (count == 0) ≡ false → ⊥
    none count e f = grind (arith, nat_tests, e, f)
copies_some low high (suc factor) some = omega arith

abbrev factor_in : Option Header → ℕ
factor_in None = 0
factor_in (Some h) = h.factor

-- Commands of the definition.

one_command_rises : (r : Around) (n : ℕ) (a : Action) → PhasesRise n (n + accesses_of a) (of_list (one_command (located r n a)))
one_command_rises r n a = (n + accesses_of a, ((same n, same (n + accesses_of a)), same (n + accesses_of a)))

-- a view is a phase alone, or has none
view_rises : (b : Bool) (r : Around) (n : ℕ) (a : Action) → PhasesRise n (n + accesses_of a) (of_list (if b then one_command (located r n a) else []))
view_rises true r n a = one_command_rises r n a
view_rises false r n a = more n (accesses_of a)

two : (n a b : ℕ) → n + a + b ≡ n + (a + b)
two n a b = omega arith

two_inside : (n a b : ℕ) → n + a + b ≡ n + (0 + (a + b))
two_inside n a b = omega arith

three : (n a b c : ℕ) → n + a + b + c ≡ n + (a + (b + c))
three n a b c = omega arith

mutual
  pub phases_rise : (r : Around) (n : ℕ) (a : Action) → PhasesRise n (n + accesses_of a) (of_list (phases r n a))
  phases_rise r n (action id place form) = form_rises r n id place form

  form_rises : (r : Around) (n id : ℕ) (place : Place) (form : ActionForm) → PhasesRise n (n + (own_accesses form + inner_accesses form)) (of_list (form_phases r n id place form))
  form_rises r n id place (lets name declared value) = one_command_rises r n (action id place (lets name declared value))
  form_rises r n id place (assigns target value) = one_command_rises r n (action id place (assigns target value))
  form_rises r n id place (stores target value) = one_command_rises r n (action id place (stores target value))
  form_rises r n id place (reduces target op value) = one_command_rises r n (action id place (reduces target op value))
  form_rises r n id place (lets_memory name shape shape_places value) = more n (0 + 0)
  form_rises r n id place (calls function arguments) = more n (0 + 0)
  form_rises r n id place (views name parent form) = view_rises (moves form) r n (action id place (views name parent form))
  form_rises r n id place (blocks body) = subst (λ (k : ℕ). PhasesRise n (n + k) (of_list (groups_phases r n body))) (sym (zero-add (groups_accesses body))) (groups_rise r n body)
  form_rises r n id place (repeats test body) =
      let last = n + (term_accesses test + accesses_of body) in
      let inner : PhasesRise (n + term_accesses test) last (of_list (phases r (n + term_accesses test) body)) =
      subst (λ (k : ℕ). PhasesRise (n + term_accesses test) k (of_list (phases r (n + term_accesses test) body))) (two n (term_accesses test) (accesses_of body)) (phases_rise r (n + term_accesses test) body) in
      (last, ((same n, inner), same last))
  form_rises r n id place (decides test chosen other) =
      let middle = n + term_accesses test + accesses_of chosen in
      let last = n + (term_accesses test + (accesses_of chosen + other_accesses other)) in
      choice_rises middle last (located r n (action id place (decides test chosen other)))
      (phases (in_arm r id true) (n + term_accesses test) chosen) (other_phases (in_arm r id false) middle other) (same last)
      (phases_rise (in_arm r id true) (n + term_accesses test) chosen)
      (subst (λ (k : ℕ). PhasesRise middle k (of_list (other_phases (in_arm r id false) middle other))) (three n (term_accesses test) (accesses_of chosen) (other_accesses other)) (other_rises (in_arm r id false) middle other))
  form_rises r n id place (counts iterator declared low high factor body combine combine_place) =
      let inner = in_loop r (loop_of iterator low high factor) in
      let middle = n + accesses_of body in
      let last = n + (0 + (accesses_of body + other_accesses combine)) in
      turns_rise n last (located r n (action id place (counts iterator declared low high factor body combine combine_place))) (turn_count low.value high.value factor.value)
      (folded (phases inner n body) (other_phases inner middle combine))
      (λ some h is. subst (λ (f : ℕ). 0 < f) (ap factor_in is) (copies_some low.value high.value factor.value some))
      (folded_rise n middle last (phases inner n body) (other_phases inner middle combine) (phases_rise inner n body)
      (subst (λ (k : ℕ). PhasesRise middle k (of_list (other_phases inner middle combine))) (two_inside n (accesses_of body) (other_accesses combine)) (other_rises inner middle combine)))

  other_rises : (r : Around) (n : ℕ) (other : MaybeAction) → PhasesRise n (n + other_accesses other) (of_list (other_phases r n other))
  other_rises r n no_action = more n 0
  other_rises r n (one_action a) = phases_rise r n a

  groups_rise : (r : Around) (n : ℕ) (gs : Groups) → PhasesRise n (n + groups_accesses gs) (of_list (groups_phases r n gs))
  groups_rise r n no_groups = more n 0
  groups_rise r n (group_then part rest) =
      let middle = n + part_accesses part in
      phases_append n middle (n + (part_accesses part + groups_accesses rest)) (joined [] (parts_phases r n part)) (groups_phases r middle rest)
      (joined_rise n n middle [] (parts_phases r n part) (same n) (parts_rise r n part))
      (subst (λ (k : ℕ). PhasesRise middle k (of_list (groups_phases r middle rest))) (two n (part_accesses part) (groups_accesses rest)) (groups_rise r middle rest))

  parts_rise : (r : Around) (n : ℕ) (part : Actions) → PartsRise n (n + part_accesses part) (parts_phases r n part)
  parts_rise r n no_actions = more n 0
  parts_rise r n (action_then a rest) =
      let middle = n + accesses_of a in (
        middle,
        (
          phases_rise r n a,
          subst (λ (k : ℕ). PartsRise middle k (parts_phases r middle rest)) (two n (accesses_of a) (part_accesses rest)) (parts_rise r middle rest),
        ),
      )

-- No two runs of a command go by one number: each goes by that of its first command, and commands have their
-- own numbers.
use Rattle.std.proofs.Common.{◌≡◌, ℕ, suc, ◌+◌, ◌≤◌, ◌==◌, ◌&&◌, nat_le, nat_lt, Bool, true, false, if◌then◌else◌, List, [], ◌∷◌, ◌++◌, inl, inr, ap, sym, ◌∙◌, subst, arith}
use Rattle.std.proofs.lemmas.Bool.Decides.{nat_tests}
use Rattle.dh_base.specs.declared.places.Place.{Place}
use Rattle.dh_tree.specs.Numbers.{commands_in, commands_inside, commands_in_other, commands_in_groups, commands_in_part, IsNumbered, IsNumberedInside, IsNumberedOther, AreNumberedGroups, AreNumbered}
use Rattle.dh_tree.specs.PlainTrees.{shrinks, splits, suffixes, shifts, Action, action, ActionForm, lets, lets_memory, views, assigns, stores, reduces, calls, blocks, decides, repeats, counts, MaybeAction, no_action, one_action, Actions, no_actions, action_then, Groups, no_groups, group_then}
use Rattle.dh_meaning.specs.AccessNumbers.{term_accesses, accesses_of, part_accesses}
use Rattle.dh_meaning.specs.Phases.{Located, Phase, decided, of_list, joined, are_straight, one_command, folded, turn_count, turn_phases, choice_phases, located, phases, form_phases, other_phases, groups_phases, parts_phases, unless_turns, idle_phases, idle_form_phases, idle_other_phases, idle_groups_phases, idle_part_phases}
use Rattle.dh_meaning.specs.Sites.{Around, in_arm, in_loop, loop_of}
use Rattle.dh_tree.specs.PhaseKinds.{phase_kind, other_phase_kind}
use Rattle.dh_ports.proofs.PhaseRuns.{tag_of, times, flat_all, flat, runs_nil, flat_append, flat_of_list, times_append}
use Rattle.dh_ports.proofs.PhaseShapes.{all_times, times_joined, times_folded}
use Rattle.dh_ports.proofs.PhaseSizes.{TurnCases, loop_turns}

-- 1 where a number stands in a range
abbrev pub one_in : (t lo count : ℕ) → ℕ
one_in t lo n = if nat_le lo t && nat_lt t (lo + n) then 1 else 0

range_sum : (t lo m n : ℕ) → one_in t lo m + one_in t (lo + m) n ≤ one_in t lo (m + n)
range_sum t lo m n = grind (arith, nat_tests)

range_own : (t lo n id : ℕ) → id ≡ lo → (if id == t then 1 else 0) + one_in t (suc lo) n ≤ one_in t lo (suc n)
range_own t lo n id e = subst (λ (i : ℕ). (if i == t then 1 else 0) + one_in t (suc lo) n ≤ one_in t lo (suc n)) (sym e) (own t lo n)
  where
    own : (t lo n : ℕ) → (if lo == t then 1 else 0) + one_in t (suc lo) n ≤ one_in t lo (suc n)
    own t lo n = grind (arith, nat_tests)

-- the runs of phases
abbrev pub runs_of : ℕ → List Phase → ℕ
runs_of t ps = times t (flat ps)

pub runs_append : (t : ℕ) (ps qs : List Phase) → runs_of t (ps ++ qs) ≡ runs_of t ps + runs_of t qs
runs_append t ps qs = ap (times t) (flat_append ps qs) ∙ times_append t (flat ps) (flat qs)

no_more : (a : ℕ) → 0 + 0 ≤ a
no_more a = omega arith

-- One command.

alone : (t lo id : ℕ) → id ≡ lo → ((if id == t then 1 else 0) + 0) + 0 ≤ one_in t lo 1
alone t lo id e = let h = range_own t lo 0 id e in less _ _ _ h
  where
    less : (a b c : ℕ) → a + b ≤ c → (a + 0) + 0 ≤ c
    less a b c h = omega (arith, h)

choice_runs : (t : ℕ) (c : Located) (ps qs : List Phase) → runs_of t (choice_phases c ps qs) ≤ (if tag_of c == t then 1 else 0) + (runs_of t ps + runs_of t qs)
choice_runs t c ps qs = by (are_straight ps && are_straight qs)
  where
    one : (a b : ℕ) → a + 0 ≤ a + b
    one a b = omega arith

    all : (a b c d e : ℕ) → e ≡ b + 0 → b ≡ c + d → a + e ≤ a + (c + d)
    all a b c d e x y = omega (arith, x, y)

    listed : times t (flat_all (of_list ps) ++ flat_all (of_list qs)) ≡ runs_of t ps + runs_of t qs
    listed = times_append t (flat_all (of_list ps)) (flat_all (of_list qs)) ∙ (ap (λ l. times t l + times t (flat_all (of_list qs))) (flat_of_list ps) ∙ ap (λ l. runs_of t ps + times t l) (flat_of_list qs))

    by : (v : Bool) → runs_of t (if v then one_command c else decided c (of_list ps) (of_list qs) ∷ []) ≤ (if tag_of c == t then 1 else 0) + (runs_of t ps + runs_of t qs)
    by true = one (if tag_of c == t then 1 else 0) (runs_of t ps + runs_of t qs)
    by false = all (if tag_of c == t then 1 else 0) _ _ _ _ (times_append t (flat_all (of_list ps) ++ flat_all (of_list qs)) []) listed

choice_sum : (c a b x y u v p q ii : ℕ) → c ≤ x + (a + b) → a + u ≤ p → b + v ≤ q → ii ≡ u + v → c + ii ≤ x + (p + q)
choice_sum c a b x y u v p q ii e f g h = omega (arith, e, f, g, h)

after_own : (a x p q all : ℕ) → a ≤ x + p → p ≤ q → x + q ≤ all → a ≤ all
after_own a x p q all e f g = omega (arith, e, f, g)

turn_runs : (t : ℕ) (c : Located) (count k l : ℕ) (fs : List Phase) → TurnCases c count k l fs → runs_of t (turn_phases c count fs) + runs_of t (unless_turns fs (turn_phases c count fs)) ≡ runs_of t fs
turn_runs t c count k l fs (inl x) = ap (λ ts. runs_of t ts + runs_of t (unless_turns fs ts)) x.1 ∙ none (runs_of t fs)
  where
    none : (n : ℕ) → 0 + n ≡ n
    none n = omega arith
turn_runs t c count k l fs (inr x) = ap (λ ts. runs_of t ts + runs_of t (unless_turns fs ts)) x.1 ∙ (none _ ∙ ap (times t) (runs_nil (flat_all (of_list fs)) ∙ flat_of_list fs))
  where
    none : (n : ℕ) → n + 0 ≡ n
    none n = omega arith

turn_sum : (ts us fs b c ib ic idle ii p q : ℕ) → ts + us ≡ fs → fs ≤ b + c → ii ≡ ib + ic → idle ≡ us + ii → b + ib ≤ p → c + ic ≤ q → ts + idle ≤ p + q
turn_sum ts us fs b c ib ic idle ii p q e f g h i j = omega (arith, e, f, g, h, i, j)

loop_all : (m x y z all : ℕ) → m ≤ y → x + y ≤ all → m ≤ all
loop_all m x y z all e f = omega (arith, e, f)

both_sum : (j rest all a ia b ib ii p q : ℕ) → all ≡ j + rest → j ≤ 0 + a → ii ≡ ia + ib → a + ia ≤ p → rest + ib ≤ q → all + ii ≤ p + q
both_sum j rest all a ia b ib ii p q e f g h i = omega (arith, e, f, g, h, i)

part_sum : (a b ia ib ii p q : ℕ) → ii ≡ ia + ib → a + ia ≤ p → b + ib ≤ q → (a + b) + ii ≤ p + q
part_sum a b ia ib ii p q e f g = omega (arith, e, f, g)

two_le : (a b c : ℕ) → a ≤ b → b ≤ c → a ≤ c
two_le a b c e f = omega (arith, e, f)

mutual
  pub tagged : (t : ℕ) (r : Around) (n lo : ℕ) (a : Action) → IsNumbered lo a → runs_of t (phases r n a) + runs_of t (idle_phases r n a) ≤ one_in t lo (commands_in a)
  tagged t r n lo (action id place form) h = form_tagged t r n lo id place form h.0 h.1

  form_tagged : (t : ℕ) (r : Around) (n lo id : ℕ) (place : Place) (form : ActionForm) → id ≡ lo → IsNumberedInside (suc lo) form
      → runs_of t (form_phases r n id place form) + runs_of t (idle_form_phases r n id place form) ≤ one_in t lo (suc (commands_inside form))
  form_tagged t r n lo id place (lets name declared value) e h = alone t lo id e
  form_tagged t r n lo id place (lets_memory name shape shape_places value) e h = no_more _
  form_tagged t r n lo id place (views name parent (shrinks by by_place)) e h = no_more _
  form_tagged t r n lo id place (views name parent (splits by by_place)) e h = no_more _
  form_tagged t r n lo id place (views name parent (suffixes by by_place)) e h = alone t lo id e
  form_tagged t r n lo id place (views name parent (shifts by)) e h = alone t lo id e
  form_tagged t r n lo id place (assigns target value) e h = alone t lo id e
  form_tagged t r n lo id place (stores target value) e h = alone t lo id e
  form_tagged t r n lo id place (reduces target op value) e h = alone t lo id e
  form_tagged t r n lo id place (calls function arguments) e h = no_more _
  form_tagged t r n lo id place (blocks body) e h = loop_all _ (if id == t then 1 else 0) _ 0 _ (groups_tagged t r n (suc lo) body h) (range_own t lo (commands_in_groups body) id e)
  form_tagged t r n lo id place (decides test chosen other) e h =
      after_own _ (if id == t then 1 else 0) _ _ _
      (choice_sum _ _ _ (if id == t then 1 else 0) 0 _ _ _ _ _
      (choice_runs t (located r n (action id place (decides test chosen other))) (phases (in_arm r id true) (n + term_accesses test) chosen) (other_phases (in_arm r id false) (n + term_accesses test + accesses_of chosen) other))
      (tagged t (in_arm r id true) (n + term_accesses test) (suc lo) chosen h.0)
      (other_tagged t (in_arm r id false) (n + term_accesses test + accesses_of chosen) (suc lo + commands_in chosen) other h.1)
      (runs_append t (idle_phases (in_arm r id true) (n + term_accesses test) chosen) (idle_other_phases (in_arm r id false) (n + term_accesses test + accesses_of chosen) other)))
      (range_sum t (suc lo) (commands_in chosen) (commands_in_other other))
      (range_own t lo (commands_in chosen + commands_in_other other) id e)
  form_tagged t r n lo id place (repeats test body) e h =
      repeated_sum _ _ _ _ _ (times_append t (flat_all (of_list (phases r (n + term_accesses test) body))) []) (ap (times t) (flat_of_list (phases r (n + term_accesses test) body))) (tagged t r (n + term_accesses test) (suc lo) body h)
      (range_own t lo (commands_in body) id e)
    where
      repeated_sum : (x l ps idle all : ℕ) {y q : ℕ} → l ≡ y + 0 → y ≡ ps → ps + idle ≤ q → x + q ≤ all → (x + l) + idle ≤ all
      repeated_sum x l ps idle all e f g h = omega (arith, e, f, g, h)
  form_tagged t r n lo id place (counts iterator declared low high factor body combine combine_place) e h =
      loop_all _ (if id == t then 1 else 0) _ 0 _
      (two_le _ _ _
      (turn_sum _ _ _ _ _ _ _ _ _ _ _
      (turn_runs t (located r n (action id place (counts iterator declared low high factor body combine combine_place))) (turn_count low.value high.value factor.value) (phase_kind body) (other_phase_kind combine) (folded (phases (in_loop r (loop_of iterator low high factor)) n body) (other_phases (in_loop r (loop_of iterator low high factor)) (n + accesses_of body) combine))
      (loop_turns (in_loop r (loop_of iterator low high factor)) n (located r n (action id place (counts iterator declared low high factor body combine combine_place))) (turn_count low.value high.value factor.value) body combine))
      (times_folded t (phases (in_loop r (loop_of iterator low high factor)) n body) (other_phases (in_loop r (loop_of iterator low high factor)) (n + accesses_of body) combine))
      (runs_append t (idle_phases (in_loop r (loop_of iterator low high factor)) n body) (idle_other_phases (in_loop r (loop_of iterator low high factor)) (n + accesses_of body) combine))
      (runs_append t (unless_turns (folded (phases (in_loop r (loop_of iterator low high factor)) n body) (other_phases (in_loop r (loop_of iterator low high factor)) (n + accesses_of body) combine)) (turn_phases (located r n (action id place (counts iterator declared low high factor body combine combine_place))) (turn_count low.value high.value factor.value) (folded (phases (in_loop r (loop_of iterator low high factor)) n body) (other_phases (in_loop r (loop_of iterator low high factor)) (n + accesses_of body) combine)))) (idle_phases (in_loop r (loop_of iterator low high factor)) n body ++ idle_other_phases (in_loop r (loop_of iterator low high factor)) (n + accesses_of body) combine))
      (tagged t (in_loop r (loop_of iterator low high factor)) n (suc lo) body h.0)
      (other_tagged t (in_loop r (loop_of iterator low high factor)) (n + accesses_of body) (suc lo + commands_in body) combine h.1))
      (range_sum t (suc lo) (commands_in body) (commands_in_other combine)))
      (range_own t lo (commands_in body + commands_in_other combine) id e)

  other_tagged : (t : ℕ) (r : Around) (n lo : ℕ) (o : MaybeAction) → IsNumberedOther lo o → runs_of t (other_phases r n o) + runs_of t (idle_other_phases r n o) ≤ one_in t lo (commands_in_other o)
  other_tagged t r n lo no_action h = no_more _
  other_tagged t r n lo (one_action a) h = tagged t r n lo a h

  groups_tagged : (t : ℕ) (r : Around) (n lo : ℕ) (body : Groups) → AreNumberedGroups lo body → runs_of t (groups_phases r n body) + runs_of t (idle_groups_phases r n body) ≤ one_in t lo (commands_in_groups body)
  groups_tagged t r n lo no_groups h = no_more _
  groups_tagged t r n lo (group_then part rest) h =
      two_le _ _ _
      (both_sum _ _ _ _ _ 0 _ _ _ _
      (runs_append t (joined [] (parts_phases r n part)) (groups_phases r (n + part_accesses part) rest))
      (times_joined t [] (parts_phases r n part))
      (runs_append t (idle_part_phases r n part) (idle_groups_phases r (n + part_accesses part) rest))
      (part_tagged t r n lo part h.0)
      (groups_tagged t r (n + part_accesses part) (lo + commands_in_part part) rest h.1))
      (range_sum t lo (commands_in_part part) (commands_in_groups rest))

  part_tagged : (t : ℕ) (r : Around) (n lo : ℕ) (part : Actions) → AreNumbered lo part → all_times t (parts_phases r n part) + runs_of t (idle_part_phases r n part) ≤ one_in t lo (commands_in_part part)
  part_tagged t r n lo no_actions h = no_more _
  part_tagged t r n lo (action_then a rest) h =
      two_le _ _ _
      (part_sum _ _ _ _ _ _ _ (runs_append t (idle_phases r n a) (idle_part_phases r (n + accesses_of a) rest)) (tagged t r n lo a h.0) (part_tagged t r (n + accesses_of a) (lo + commands_in a) rest h.1))
      (range_sum t lo (commands_in a) (commands_in_part rest))

pub one_at_most : (t lo n : ℕ) → one_in t lo n ≤ 1
one_at_most t lo n = by (nat_le lo t && nat_lt t (lo + n))
  where
    by : (b : Bool) → (if b then 1 else 0) ≤ 1
    by true = omega arith
    by false = omega arith

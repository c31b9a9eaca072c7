-- The loops round a phase of a ready program have few copies together: at most 256.
use Rattle.std.proofs.Common.{◌≡◌, inl, inr, ℕ, zero, suc, ◌+◌, ◌*◌, ◌-◌, ◌==◌, ◌&&◌, ◌<◌, ◌≤◌, min, Bool, true, false, if◌then◌else◌, Option, Some, None, List, [], ◌∷◌, ◌++◌, length, refl, ap, sym, ◌∙◌, subst, arith}
use Rattle.std.specs.Prelude.{nat_lt}
use Rattle.std.proofs.lemmas.Bool.Decides.{nat_tests}
use Rattle.std.proofs.Math.Nat.{div-zero}
use Rattle.dh_base.specs.declared.limits.Excess.{Excess}
use Rattle.dh_base.specs.declared.limits.Limit.TheVariants as limit
use Rattle.dh_base.specs.declared.places.Place.{Place}
use Rattle.dh_tree.specs.Elements.{banks_of}
use Rattle.dh_tree.specs.Excesses.{copies_excess, excess_at, first_above, first_excess, form_copies_excess, groups_copies_excess, most_counted, or_else, other_copies_excess, part_copies_excess}
use Rattle.dh_tree.specs.Memories.{Memory, memories_of}
use Rattle.dh_tree.specs.PlainTrees.{shrinks, splits, suffixes, shifts, Action, action, ActionForm, lets, lets_memory, views, assigns, stores, reduces, calls, blocks, decides, repeats, counts, MaybeAction, no_action, one_action, Actions, no_actions, action_then, Groups, no_groups, group_then, Program}
use Rattle.dh_meaning.specs.AccessNumbers.{accesses_of, part_accesses, term_accesses}
use Rattle.dh_meaning.specs.Core.{Turning}
use Rattle.dh_meaning.specs.CoreOf.{Known, action_form_of, turning_of}
use Rattle.dh_meaning.specs.Paths.{copies_in}
use Rattle.dh_meaning.specs.Phases.{Located, located, Phase, straight, turns, repeated, decided, Phases, no_phases, phase, of_list, one_straight, joined, are_straight, one_command, folded, turn_count, turn_phases, choice_phases, phases, phases_of, form_phases, other_phases, groups_phases, parts_phases}
use Rattle.dh_meaning.specs.Sites.{Around, in_arm, in_loop, loop_of, nothing_around}
use Rattle.dh_sound.specs.Blocks.{factors}
use Rattle.dh_gathering.specs.PhasesInLoops.{StraightInLoops, StraightOf, StraightsInLoops, TestInLoops, TestOf, TestsInLoops}
use Rattle.dh_phased.proofs.RoundsTop.{copies_more}

abbrev pub FewRound : List Turning → Type 0
FewRound round = copies_in (factors round) ≤ 256

-- Copies.

first_of : (o next : Option Excess) → or_else o next ≡ None → o ≡ None
first_of None next e = refl
first_of (Some x) next e = absurd cc

rest_of : (o next : Option Excess) → or_else o next ≡ None → next ≡ None
rest_of None next e = e
rest_of (Some x) next e = absurd cc

within : (count : ℕ) → excess_at limit.Copies count ≡ None → count ≤ 256
within count e = by (nat_lt 256 count) refl e
  where
    by : (b : Bool) → nat_lt 256 count ≡ b → ◌≡◌ {A = Option Excess} (if b then Some (record { limit = limit.Copies; count = min count most_counted }) else None) None → count ≤ 256
    by true f h = absurd cc
    by false f h = grind (arith, nat_tests)

factors_append : (xs ys : List Turning) → factors (xs ++ ys) ≡ factors xs ++ factors ys
factors_append [] ys = refl
factors_append (x ∷ xs) ys = by (nat_lt 1 x.factor) (factors_append xs ys)
  where
    by : (b : Bool) → factors (xs ++ ys) ≡ factors xs ++ factors ys → (if b then x.factor ∷ factors (xs ++ ys) else factors (xs ++ ys)) ≡ (if b then x.factor ∷ factors xs else factors xs) ++ factors ys
    by true e = ap (λ (l : List ℕ). x.factor ∷ l) e
    by false e = e

-- inside a loop that has copies
copies_inside : (round : List Turning) (own : Turning) → 0 < own.factor → copies_in (factors (round ++ own ∷ [])) ≡ copies_in (factors round) * own.factor
copies_inside round own some = ap (λ (l : List ℕ). copies_in l) (factors_append round (own ∷ [])) ∙ by (nat_lt 1 own.factor) refl
  where
    none : (l : List ℕ) → copies_in (l ++ []) ≡ copies_in l
    none [] = refl
    none (x ∷ l) = ap (λ (n : ℕ). x * n) (none l)

    one : nat_lt 1 own.factor ≡ false → own.factor ≡ 1
    one e = least (not_more e) some
      where
        not_more : nat_lt 1 own.factor ≡ false → own.factor ≤ 1
        not_more g = grind (arith, nat_tests, g)

        least : own.factor ≤ 1 → 0 < own.factor → own.factor ≡ 1
        least a b = omega (arith, a, b)

    times_one : (n k : ℕ) → k ≡ 1 → n ≡ n * k
    times_one n k e = sym (ap (λ (m : ℕ). n * m) e ∙ omega arith)

    by : (b : Bool) → nat_lt 1 own.factor ≡ b → copies_in (factors round ++ (if b then own.factor ∷ [] else [])) ≡ copies_in (factors round) * own.factor
    by true e = copies_more (factors round) own.factor
    by false e = none (factors round) ∙ times_one (copies_in (factors round)) own.factor (one e)

copies_some : (low high factor : ℕ) → (turn_count low high factor ≡ 0 → ⊥) → 0 < factor
copies_some low high zero some = absurd (some (div-zero (high - low)))
copies_some low high (suc factor) some = omega arith

module _ (known : Known) where
  abbrev mutual
    -- a phase in these loops stands in few copies, and so do those inside it
    PhaseFew : List Turning → Phase → Type 0
    PhaseFew round (straight cs) = FewRound round
    PhaseFew round (turns loop count body) = PhasesFew (round ++ turning_of known count (action_form_of loop.command) ∷ []) body
    PhaseFew round (repeated loop body) = FewRound round × PhasesFew round body
    PhaseFew round (decided choice chosen other) = FewRound round × (PhasesFew round chosen × PhasesFew round other)

    PhasesFew : List Turning → Phases → Type 0
    PhasesFew round no_phases = Unit {0}
    PhasesFew round (phase p ps) = PhaseFew round p × PhasesFew round ps

  abbrev ListFew : List Turning → List Phase → Type 0
  ListFew round [] = Unit {0}
  ListFew round (p ∷ ps) = PhaseFew round p × ListFew round ps

  abbrev PartsFew : List Turning → List (List Phase) → Type 0
  PartsFew round [] = Unit {0}
  PartsFew round (ps ∷ parts) = ListFew round ps × PartsFew round parts

  listed : (round : List Turning) (ps : List Phase) → ListFew round ps → PhasesFew round (of_list ps)
  listed round [] h = tt
  listed round (p ∷ ps) h = (h.0, listed round ps h.1)

  list_both : (round : List Turning) (ps qs : List Phase) → ListFew round ps → ListFew round qs → ListFew round (ps ++ qs)
  list_both round [] qs h k = k
  list_both round (p ∷ ps) qs h k = (h.0, list_both round ps qs h.1 k)

  straight_few : (round : List Turning) (cs : List Located) → FewRound round → ListFew round (one_straight cs)
  straight_few round [] few = tt
  straight_few round (c ∷ cs) few = (few, tt)

  joined_few : (round : List Turning) (cs : List Located) (parts : List (List Phase)) → FewRound round → PartsFew round parts → ListFew round (joined cs parts)
  joined_few round cs [] few k = straight_few round cs few
  joined_few round cs ([] ∷ parts) few k = joined_few round cs parts few k.1
  joined_few round cs ((straight ds ∷ []) ∷ parts) few k = joined_few round (cs ++ ds) parts few k.1
  joined_few round cs ((turns loop count body ∷ []) ∷ parts) few k = list_both round (one_straight cs) (turns loop count body ∷ joined [] parts) (straight_few round cs few) (k.0.0, joined_few round [] parts few k.1)
  joined_few round cs ((repeated loop body ∷ []) ∷ parts) few k = list_both round (one_straight cs) (repeated loop body ∷ joined [] parts) (straight_few round cs few) (k.0.0, joined_few round [] parts few k.1)
  joined_few round cs ((decided choice chosen other ∷ []) ∷ parts) few k = list_both round (one_straight cs) (decided choice chosen other ∷ joined [] parts) (straight_few round cs few) (k.0.0, joined_few round [] parts few k.1)
  joined_few round cs ((p ∷ q ∷ ps) ∷ parts) few k =
      list_both round (one_straight cs) ((p ∷ q ∷ ps) ++ joined [] parts) (straight_few round cs few) (list_both round (p ∷ q ∷ ps) (joined [] parts) k.0 (joined_few round [] parts few k.1))

  folded_few : (round : List Turning) (ps qs : List Phase) → FewRound round → ListFew round ps → ListFew round qs → ListFew round (folded ps qs)
  folded_few round [] qs few h k = k
  folded_few round (straight cs ∷ []) qs few h k = joined_few round cs (qs ∷ []) few (k, tt)
  folded_few round (turns loop count body ∷ []) qs few h k = (h.0, k)
  folded_few round (repeated loop body ∷ []) qs few h k = (h.0, k)
  folded_few round (decided choice chosen other ∷ []) qs few h k = (h.0, k)
  folded_few round (p ∷ q ∷ ps) qs few h k = (h.0, folded_few round (q ∷ ps) qs few h.1 k)

  turn_few : (round : List Turning) (loop : Located) (count : ℕ) (qs : List Phase) → ((count ≡ 0 → ⊥) → ListFew (round ++ turning_of known count (action_form_of loop.command) ∷ []) qs) → ListFew round (turn_phases loop count qs)
  turn_few round loop count [] h = tt
  turn_few round loop count (q ∷ qs) h = by (count == 0) refl
    where
      some : (count == 0) ≡ false → count ≡ 0 → ⊥
      some e f = grind (arith, nat_tests, e, f)

      by : (b : Bool) → (count == 0) ≡ b → ListFew round (if b then [] else turns loop count (of_list (q ∷ qs)) ∷ [])
      by true e = tt
      by false e = (listed (round ++ turning_of known count (action_form_of loop.command) ∷ []) (q ∷ qs) (h (some e)), tt)

  choice_few : (round : List Turning) (c : Located) (ps qs : List Phase) → FewRound round → ListFew round ps → ListFew round qs → ListFew round (choice_phases c ps qs)
  choice_few round c ps qs few h k = by (are_straight ps && are_straight qs)
    where
      by : (b : Bool) → ListFew round (if b then one_command c else decided c (of_list ps) (of_list qs) ∷ [])
      by true = (few, tt)
      by false = ((few, (listed round ps h, listed round qs k)), tt)

  mutual
    few_in : (a : Action) (round : List Turning) (r : Around) (n : ℕ) → FewRound round → copies_excess (copies_in (factors round)) a ≡ None → ListFew round (phases r n a)
    few_in (action id place form) round r n few e = form_few form round id place r n few e

    form_few : (f : ActionForm) (round : List Turning) (id : ℕ) (place : Place) (r : Around) (n : ℕ) → FewRound round → form_copies_excess (copies_in (factors round)) f ≡ None → ListFew round (form_phases r n id place f)
    form_few (lets name declared value) round id place r n few e = (few, tt)
    form_few (lets_memory name shape shape_places value) round id place r n few e = tt
    form_few (views name parent (shrinks by by_place)) round id place r n few e = tt
    form_few (views name parent (splits by by_place)) round id place r n few e = tt
    form_few (views name parent (suffixes by by_place)) round id place r n few e = (few, tt)
    form_few (views name parent (shifts by)) round id place r n few e = (few, tt)
    form_few (assigns target value) round id place r n few e = (few, tt)
    form_few (stores target value) round id place r n few e = (few, tt)
    form_few (reduces target o value) round id place r n few e = (few, tt)
    form_few (calls function arguments) round id place r n few e = tt
    form_few (blocks body) round id place r n few e = groups_few body round r n few e
    form_few (decides test chosen other) round id place r n few e =
        choice_few round (located r n (action id place (decides test chosen other)))
        (phases (in_arm r id true) (n + term_accesses test) chosen) (other_phases (in_arm r id false) (n + term_accesses test + accesses_of chosen) other) few
        (few_in chosen round (in_arm r id true) (n + term_accesses test) few (first_of (copies_excess (copies_in (factors round)) chosen) _ e))
        (other_few other round (in_arm r id false) (n + term_accesses test + accesses_of chosen) few (rest_of (copies_excess (copies_in (factors round)) chosen) _ e))
    form_few (repeats test body) round id place r n few e = ((few, listed round (phases r (n + term_accesses test) body) (few_in body round r (n + term_accesses test) few e)), tt)
    form_few (counts iterator declared low high factor body combine combine_place) round id place r n few e =
        let all = rest_of (excess_at limit.Copies (copies_in (factors round) * factor.value)) _ e in
        let here = within (copies_in (factors round) * factor.value) (first_of (excess_at limit.Copies (copies_in (factors round) * factor.value)) _ e) in
        turn_few round (located r n (action id place (counts iterator declared low high factor body combine combine_place))) (turn_count low.value high.value factor.value)
        (folded (phases (in_loop r (loop_of iterator low high factor)) n body) (other_phases (in_loop r (loop_of iterator low high factor)) (n + accesses_of body) combine))
        (λ some.
        let is = copies_inside round (turning_of known (turn_count low.value high.value factor.value) (counts iterator declared low high factor body combine combine_place)) (copies_some low.value high.value factor.value some) in
        let inner = subst (λ (m : ℕ). m ≤ 256) (sym is) here in
        folded_few (round ++ turning_of known (turn_count low.value high.value factor.value) (counts iterator declared low high factor body combine combine_place) ∷ [])
        (phases (in_loop r (loop_of iterator low high factor)) n body) (other_phases (in_loop r (loop_of iterator low high factor)) (n + accesses_of body) combine) inner
        (few_in body (round ++ turning_of known (turn_count low.value high.value factor.value) (counts iterator declared low high factor body combine combine_place) ∷ []) (in_loop r (loop_of iterator low high factor)) n inner
        (subst (λ (m : ℕ). copies_excess m body ≡ None) (sym is) (first_of (copies_excess (copies_in (factors round) * factor.value) body) _ all)))
        (other_few combine (round ++ turning_of known (turn_count low.value high.value factor.value) (counts iterator declared low high factor body combine combine_place) ∷ []) (in_loop r (loop_of iterator low high factor)) (n + accesses_of body) inner
        (subst (λ (m : ℕ). other_copies_excess m combine ≡ None) (sym is) (rest_of (copies_excess (copies_in (factors round) * factor.value) body) _ all))))

    other_few : (m : MaybeAction) (round : List Turning) (r : Around) (n : ℕ) → FewRound round → other_copies_excess (copies_in (factors round)) m ≡ None → ListFew round (other_phases r n m)
    other_few no_action round r n few e = tt
    other_few (one_action a) round r n few e = few_in a round r n few e

    part_few : (p : Actions) (round : List Turning) (r : Around) (n : ℕ) → FewRound round → part_copies_excess (copies_in (factors round)) p ≡ None → PartsFew round (parts_phases r n p)
    part_few no_actions round r n few e = tt
    part_few (action_then a rest) round r n few e =
        (few_in a round r n few (first_of (copies_excess (copies_in (factors round)) a) _ e), part_few rest round r (n + accesses_of a) few (rest_of (copies_excess (copies_in (factors round)) a) _ e))

    groups_few : (g : Groups) (round : List Turning) (r : Around) (n : ℕ) → FewRound round → groups_copies_excess (copies_in (factors round)) g ≡ None → ListFew round (groups_phases r n g)
    groups_few no_groups round r n few e = tt
    groups_few (group_then part rest) round r n few e =
        list_both round (joined [] (parts_phases r n part)) (groups_phases r (n + part_accesses part) rest)
        (joined_few round [] (parts_phases r n part) few (part_few part round r n few (first_of (part_copies_excess (copies_in (factors round)) part) _ e)))
        (groups_few rest round r (n + part_accesses part) few (rest_of (part_copies_excess (copies_in (factors round)) part) _ e))

  -- Where straight phases and tests stand.

  module _ (loops : List Turning) (cs : List Located) where
    mutual
      straight_in : (p : Phase) (round : List Turning) → PhaseFew round p → StraightInLoops known round p loops cs → FewRound loops
      straight_in (straight ds) round h s = subst (λ (l : List Turning). FewRound l) (sym s.0) h
      straight_in (turns loop count body) round h s = straights_in body (round ++ turning_of known count (action_form_of loop.command) ∷ []) h s
      straight_in (repeated loop body) round h s = straights_in body round h.1 s
      straight_in (decided choice chosen other) round h (inl s) = straights_in chosen round h.1.0 s
      straight_in (decided choice chosen other) round h (inr s) = straights_in other round h.1.1 s

      straights_in : (ps : Phases) (round : List Turning) → PhasesFew round ps → StraightsInLoops known round ps loops cs → FewRound loops
      straights_in no_phases round h s = absurd s
      straights_in (phase p ps) round h (inl s) = straight_in p round h.0 s
      straights_in (phase p ps) round h (inr s) = straights_in ps round h.1 s

    straight_list : (ps : List Phase) (round : List Turning) → ListFew round ps → StraightOf known round ps loops cs → FewRound loops
    straight_list [] round h s = absurd s
    straight_list (p ∷ ps) round h (inl s) = straight_in p round h.0 s
    straight_list (p ∷ ps) round h (inr s) = straight_list ps round h.1 s

  module _ (loops : List Turning) (c : Located) where
    mutual
      test_in : (p : Phase) (round : List Turning) → PhaseFew round p → TestInLoops known round p loops c → FewRound loops
      test_in (straight ds) round h s = absurd s
      test_in (turns loop count body) round h s = tests_in body (round ++ turning_of known count (action_form_of loop.command) ∷ []) h s
      test_in (repeated loop body) round h (inl s) = subst (λ (l : List Turning). FewRound l) (sym s.0) h.0
      test_in (repeated loop body) round h (inr s) = tests_in body round h.1 s
      test_in (decided choice chosen other) round h (inl s) = subst (λ (l : List Turning). FewRound l) (sym s.0) h.0
      test_in (decided choice chosen other) round h (inr (inl s)) = tests_in chosen round h.1.0 s
      test_in (decided choice chosen other) round h (inr (inr s)) = tests_in other round h.1.1 s

      tests_in : (ps : Phases) (round : List Turning) → PhasesFew round ps → TestsInLoops known round ps loops c → FewRound loops
      tests_in no_phases round h s = absurd s
      tests_in (phase p ps) round h (inl s) = test_in p round h.0 s
      tests_in (phase p ps) round h (inr s) = tests_in ps round h.1 s

    test_list : (ps : List Phase) (round : List Turning) → ListFew round ps → TestOf known round ps loops c → FewRound loops
    test_list [] round h s = absurd s
    test_list (p ∷ ps) round h (inl s) = test_in p round h.0 s
    test_list (p ∷ ps) round h (inr s) = test_list ps round h.1 s

  -- of a program within its limits
  module _ (p : Program) (limits : first_excess p ≡ None) where
    copies_few : copies_excess 1 p.body ≡ None
    copies_few =
        let above = rest_of (first_above limit.Dimensions (λ (m : Memory). length m.shape.dims) (memories_of p)) _ limits in
        let banks = rest_of (first_above limit.Banks (λ (m : Memory). banks_of m.shape.dims) (memories_of p)) _ above in
        let ports = rest_of (first_above limit.Ports (λ (m : Memory). m.shape.ports) (memories_of p)) _ banks in
        first_of (copies_excess 1 p.body) _ ports

    pub straight_stands_few : (loops : List Turning) (cs : List Located) → StraightOf known [] (phases_of p) loops cs → FewRound loops
    straight_stands_few loops cs s = straight_list loops cs (phases_of p) [] (few_in p.body [] nothing_around 0 (omega arith) copies_few) s

    pub test_stands_few : (loops : List Turning) (c : Located) → TestOf known [] (phases_of p) loops c → FewRound loops
    test_stands_few loops c s = test_list loops c (phases_of p) [] (few_in p.body [] nothing_around 0 (omega arith) copies_few) s

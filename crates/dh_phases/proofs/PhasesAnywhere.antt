-- Gathered phases of a loop, an `if`, a turn and a list are made of those of their parts. So it does not matter to them
-- what stands round a command, and of the number of its first access only what the code has of it.
use Rattle.std.proofs.Common.{◌≡◌, ℕ, ◌+◌, ◌-◌, ◌^◌, ◌<◌, ◌≤◌, ◌==◌, ◌&&◌, min, Bool, true, false, if◌then◌else◌, List, [], ◌∷◌, ◌++◌, map, Option, Some, inl, inr, refl, ap, sym, ◌∙◌, append_assoc, append-nil, arith}
use Rattle.std.proofs.lemmas.Bool.{cases_lt}
use Rattle.std.proofs.lemmas.List.{map-append}
use Rattle.std.proofs.Math.Nat.{min-eq_left, min-eq_right, min-le_right}
use Rattle.dh_base.specs.declared.places.Place.{Place}
use Rattle.dh_tree.specs.declared.trees.commands.LoopHeader.{LoopHeader}
use Rattle.dh_tree.specs.declared.trees.expressions.Ref.{Ref}
use Rattle.dh_tree.specs.PlainTrees.{Term, shrinks, splits, suffixes, shifts, Action, action, ActionForm, lets, lets_memory, views, assigns, stores, reduces, calls, blocks, decides, repeats, counts, MaybeAction, no_action, one_action, Actions, no_actions, action_then, Groups, no_groups, group_then, Placed, Unrolled}
use Rattle.dh_tree.specs.Seen.{counts_seen, low_seen, high_seen, unroll_seen}
use Rattle.dh_value.specs.declared.kinds.Kind.{Kind}
use Rattle.dh_meaning.specs.AccessNumbers.{term_accesses, accesses_of, part_accesses}
use Rattle.dh_meaning.specs.CoreOf.{action_form_of, test_of}
use Rattle.dh_meaning.specs.Sites.{Around, nothing_around, in_arm, in_loop, loop_of}
use Rattle.dh_meaning.specs.Phases as source
use Rattle.dh_meaning.specs.Phases.{Located, Phase, straight, turns, repeated, decided, of_list, one_straight, joined, folded, turn_count, located, phases, form_phases, other_phases, groups_phases, parts_phases}
use Rattle.dh_phases.specs.Counted.{behind}
use Rattle.dh_phases.specs.GatheredPhases.{Gathered, Header, Numbered, straight_phase, turns_phase, loop_phase, choice_phase, all_gathered, code_number, command_gathered, gathered_list, header_of, header_seen, as_numbered, phase_gathered, phases_gathered}
use Rattle.dh_phases.specs.Gathering.{phases_in, phases_in_groups, phases_in_other, one_phase, gathered_are_straight, gathered_turn_phases, gathered_choice_phases, gathered, folded_phases}
use Rattle.dh_phases.proofs.PhasesMatched.{list_is}

straight_is : (ps : List Phase) → gathered_are_straight (gathered_list ps) ≡ source.are_straight ps
straight_is [] = refl
straight_is (straight cs ∷ []) = refl
straight_is (turns loop count body ∷ []) = refl
straight_is (repeated loop body ∷ []) = refl
straight_is (decided choice chosen other ∷ []) = refl
straight_is (p ∷ q ∷ ps) = refl

-- a `for`
turns_gathered : (loop : Located) (count : ℕ) (body : List Phase) → gathered_turn_phases (command_gathered loop) (header_of (action_form_of loop.command)) count (gathered_list body) ≡ gathered_list (source.turn_phases loop count body)
turns_gathered loop count [] = refl
turns_gathered loop count (p ∷ ps) = by (count == 0)
  where
    by : (b : Bool) → (if b then [] else turns_phase (command_gathered loop) (header_of (action_form_of loop.command)) count (all_gathered (gathered_list (p ∷ ps))) ∷ []) ≡ gathered_list (if b then [] else turns loop count (of_list (p ∷ ps)) ∷ [])
    by true = refl
    by false = ap (λ l. turns_phase (command_gathered loop) (header_of (action_form_of loop.command)) count l ∷ []) (sym (list_is (p ∷ ps)))

-- an `if`
choice_gathered : (choice : Located) (chosen other : List Phase) → gathered_choice_phases (command_gathered choice) (test_of (action_form_of choice.command)) (gathered_list chosen) (gathered_list other) ≡ gathered_list (source.choice_phases choice chosen other)
choice_gathered choice chosen other =
    ap (λ b. after (b && gathered_are_straight (gathered_list other))) (straight_is chosen)
    ∙ (ap (λ b. after (source.are_straight chosen && b)) (straight_is other) ∙ by (source.are_straight chosen && source.are_straight other))
  where
    test : Option Term
    test = test_of (action_form_of choice.command)

    after : Bool → List Gathered
    after b = if b then straight_phase (command_gathered choice ∷ []) ∷ [] else choice_phase (command_gathered choice) test (all_gathered (gathered_list chosen)) (all_gathered (gathered_list other)) ∷ []

    by : (b : Bool) → after b ≡ gathered_list (if b then source.one_command choice else decided choice (of_list chosen) (of_list other) ∷ [])
    by true = refl
    by false =
        ap (λ l. choice_phase (command_gathered choice) test l (all_gathered (gathered_list other)) ∷ []) (sym (list_is chosen))
        ∙ ap (λ l. choice_phase (command_gathered choice) test (phases_gathered (of_list chosen)) l ∷ []) (sym (list_is other))

one_is : (cs : List Located) → gathered_list (one_straight cs) ≡ one_phase (map command_gathered cs)
one_is [] = refl
one_is (c ∷ cs) = refl

-- straight commands that stand open, and phases behind them
ended_is : (cs : List Located) (ps rest : List Phase) (after : List Gathered) → gathered_list rest ≡ after → gathered_list (one_straight cs ++ (ps ++ rest)) ≡ (one_phase (map command_gathered cs) ++ gathered_list ps) ++ after
ended_is cs ps rest after e =
    map-append phase_gathered (one_straight cs) (ps ++ rest)
    ∙ (ap (λ l. l ++ gathered_list (ps ++ rest)) (one_is cs)
    ∙ (ap (λ l. one_phase (map command_gathered cs) ++ l) (map-append phase_gathered ps rest)
    ∙ (ap (λ l. one_phase (map command_gathered cs) ++ (gathered_list ps ++ l)) e
    ∙ sym (append_assoc (one_phase (map command_gathered cs)) (gathered_list ps) after))))

joined_is : (cs : List Located) (parts : List (List Phase)) → gathered_list (joined cs parts) ≡ gathered (map command_gathered cs) (map gathered_list parts)
joined_is cs [] = one_is cs
joined_is cs ([] ∷ parts) = joined_is cs parts ∙ ap (λ l. gathered l (map gathered_list parts)) (sym (append-nil (map command_gathered cs)))
joined_is cs ((straight ds ∷ []) ∷ parts) = joined_is (cs ++ ds) parts ∙ ap (λ l. gathered l (map gathered_list parts)) (map-append command_gathered cs ds)
joined_is cs ((turns loop count body ∷ []) ∷ parts) = ended_is cs (turns loop count body ∷ []) (joined [] parts) _ (joined_is [] parts)
joined_is cs ((repeated loop body ∷ []) ∷ parts) = ended_is cs (repeated loop body ∷ []) (joined [] parts) _ (joined_is [] parts)
joined_is cs ((decided choice chosen other ∷ []) ∷ parts) = ended_is cs (decided choice chosen other ∷ []) (joined [] parts) _ (joined_is [] parts)
joined_is cs ((p ∷ q ∷ ps) ∷ parts) = ended_is cs (p ∷ q ∷ ps) (joined [] parts) _ (joined_is [] parts)

-- a turn
folded_is : (body fold : List Phase) → gathered_list (folded body fold) ≡ folded_phases (gathered_list body) (gathered_list fold)
folded_is [] fold = refl
folded_is (straight cs ∷ []) fold = joined_is cs (fold ∷ [])
folded_is (turns loop count body ∷ []) fold = refl
folded_is (repeated loop body ∷ []) fold = refl
folded_is (decided choice chosen other ∷ []) fold = refl
folded_is (p ∷ q ∷ ps) fold = ap (λ l. phase_gathered p ∷ l) (folded_is (q ∷ ps) fold)

-- Numbers of the code: one that is cut already is not cut again.
cut_once : (n most : ℕ) → min (min n most) most ≡ min n most
cut_once n most = min-eq_left (min-le_right n most)

code_once : (n : ℕ) → code_number (code_number n) ≡ code_number n
code_once n = cut_once n (2 ^ 32 - 1)

cut_then : (n k most : ℕ) → min (n + k) most ≡ min (min n most + k) most
cut_then n k most = elim (cases_lt most n) [
  | inl above ↦
      (let cut = min-eq_right {n = most} {m = n} (omega (arith, above)) in
      let left = min-eq_right {n = most} {m = n + k} (omega (arith, above)) in
      let right = min-eq_right {n = most} {m = min n most + k} (omega (arith, cut)) in
      left ∙ sym right)
  | inr within ↦ ap (λ m. min (m + k) most) (sym (min-eq_left {n = n} {m = most} within))
]

-- the number behind some accesses
code_behind : (n k : ℕ) → code_number (n + k) ≡ behind (code_number n) k
code_behind n k = cut_then n k (2 ^ 32 - 1)

pub code_small : (n : ℕ) → n ≤ 2 ^ 32 - 1 → code_number n ≡ n
code_small n small = min-eq_left small

-- wherever a command stands, these are its phases, by the number that the code has
abbrev pub Everywhere : (Around → (n : ℕ) → List Phase) → (ℕ → List Gathered) → Type 0
Everywhere given made = (r : Around) (n : ℕ) → gathered_list (given r n) ≡ made (code_number n)

-- so they are those that it has by itself
settled : (given : Around → (n : ℕ) → List Phase) (made : ℕ → List Gathered) → Everywhere given made → Everywhere given (λ m. gathered_list (given nothing_around m))
settled given made is r n = is r n ∙ (ap made (sym (code_once n)) ∙ sym (is nothing_around (code_number n)))

-- a straight command
alone_by : (a : Action) → Everywhere (λ r n. source.one_command (located r n a)) (λ m. gathered_list (source.one_command (located nothing_around m a)))
alone_by a = settled (λ r n. source.one_command (located r n a)) (λ m. straight_phase (as_numbered a m ∷ []) ∷ []) (λ r n. refl)

-- Of an `if`, a `while` and a `for`, from what is so of their blocks.
abbrev choice_at : (id : ℕ) → Place → Term → Action → MaybeAction → (first : ℕ) → List Gathered
choice_at id place test chosen other m =
    gathered_choice_phases (as_numbered (action id place (decides test chosen other)) m) (Some test) (phases_in (behind m (term_accesses test)) chosen) (phases_in_other (behind (behind m (term_accesses test)) (accesses_of chosen)) other)

choice_by : (id : ℕ) (place : Place) (test : Term) (chosen : Action) (other : MaybeAction)
    → Everywhere (λ r n. phases r n chosen) (λ m. phases_in m chosen) → Everywhere (λ r n. other_phases r n other) (λ m. phases_in_other m other)
    → Everywhere (λ r n. form_phases r n id place (decides test chosen other)) (choice_at id place test chosen other)
choice_by id place test chosen other c o r n =
    sym (choice_gathered (located r n (action id place (decides test chosen other))) (phases (in_arm r id true) (n + term_accesses test) chosen)
    (other_phases (in_arm r id false) (n + term_accesses test + accesses_of chosen) other))
    ∙ (ap (λ ps. gathered_choice_phases here (Some test) ps (gathered_list (other_phases (in_arm r id false) (n + term_accesses test + accesses_of chosen) other)))
    (c (in_arm r id true) (n + term_accesses test) ∙ ap (λ k. phases_in k chosen) (code_behind n (term_accesses test)))
    ∙ ap (λ ps. gathered_choice_phases here (Some test) (phases_in (behind (code_number n) (term_accesses test)) chosen) ps)
    (o (in_arm r id false) (n + term_accesses test + accesses_of chosen)
    ∙ ap (λ k. phases_in_other k other) (code_behind (n + term_accesses test) (accesses_of chosen) ∙ ap (λ k. behind k (accesses_of chosen)) (code_behind n (term_accesses test)))))
  where
    here : Numbered
    here = as_numbered (action id place (decides test chosen other)) (code_number n)

abbrev loop_at : (id : ℕ) → Place → Term → Action → (first : ℕ) → List Gathered
loop_at id place test body m = loop_phase (as_numbered (action id place (repeats test body)) m) (Some test) (all_gathered (phases_in (behind m (term_accesses test)) body)) ∷ []

loop_by : (id : ℕ) (place : Place) (test : Term) (body : Action) → Everywhere (λ r n. phases r n body) (λ m. phases_in m body)
    → Everywhere (λ r n. form_phases r n id place (repeats test body)) (loop_at id place test body)
loop_by id place test body b r n =
    ap (λ l. loop_phase here (Some test) l ∷ []) (list_is (phases r (n + term_accesses test) body))
    ∙ ap (λ ps. loop_phase here (Some test) (all_gathered ps) ∷ []) (b r (n + term_accesses test) ∙ ap (λ k. phases_in k body) (code_behind n (term_accesses test)))
  where
    here : Numbered
    here = as_numbered (action id place (repeats test body)) (code_number n)

abbrev looped : (iterator : Ref) → (low factor : ℕ) → Option Header
looped iterator low factor = Some (record { iterator = iterator; low = low; factor = factor })

module _ (id : ℕ) (place : Place) (iterator : Ref) (declared : Option Kind) (low high : Placed) (factor : Unrolled) (body : Action) (combine : MaybeAction) (combine_place : Place) where
  abbrev counting : ActionForm
  counting = counts iterator declared low high factor body combine combine_place

  abbrev turns_at : (first : ℕ) → List Gathered
  turns_at m =
      gathered_turn_phases (as_numbered (action id place counting) m) (looped iterator low.value factor.value) (turn_count low.value high.value factor.value)
      (folded_phases (phases_in m body) (phases_in_other (behind m (accesses_of body)) combine))

  turns_by : Everywhere (λ r n. phases r n body) (λ m. phases_in m body) → Everywhere (λ r n. other_phases r n combine) (λ m. phases_in_other m combine)
      → Everywhere (λ r n. form_phases r n id place counting) turns_at
  turns_by b o r n =
      let inside : Around = in_loop r (loop_of iterator low high factor) in
      sym (turns_gathered (located r n (action id place counting)) (turn_count low.value high.value factor.value)
      (folded (phases inside n body) (other_phases inside (n + accesses_of body) combine)))
      ∙ ap (λ ps. gathered_turn_phases (as_numbered (action id place counting) (code_number n)) (looped iterator low.value factor.value) (turn_count low.value high.value factor.value) ps)
      (folded_is (phases inside n body) (other_phases inside (n + accesses_of body) combine)
      ∙ (ap (λ ps. folded_phases ps (gathered_list (other_phases inside (n + accesses_of body) combine))) (b inside n)
      ∙ ap (λ ps. folded_phases (phases_in (code_number n) body) ps) (o inside (n + accesses_of body) ∙ ap (λ k. phases_in_other k combine) (code_behind n (accesses_of body)))))

-- the phases of each command of a part
abbrev pub parts_in : (first : ℕ) → Actions → List (List Gathered)
parts_in m no_actions = []
parts_in m (action_then a rest) = phases_in m a ∷ parts_in (behind m (accesses_of a)) rest

-- of parts, from the first of them and those behind it
abbrev groups_at : Actions → Groups → (first : ℕ) → List Gathered
groups_at part rest m = gathered [] (parts_in m part) ++ phases_in_groups (behind m (part_accesses part)) rest

groups_by : (part : Actions) (rest : Groups) → ((r : Around) (n : ℕ) → map gathered_list (parts_phases r n part) ≡ parts_in (code_number n) part) → Everywhere (λ r n. groups_phases r n rest) (λ m. phases_in_groups m rest)
    → Everywhere (λ r n. groups_phases r n (group_then part rest)) (groups_at part rest)
groups_by part rest p g r n =
    map-append phase_gathered (joined [] (parts_phases r n part)) (groups_phases r (n + part_accesses part) rest)
    ∙ (ap (λ l. l ++ gathered_list (groups_phases r (n + part_accesses part) rest)) (joined_is [] (parts_phases r n part) ∙ ap (λ l. gathered [] l) (p r n))
    ∙ ap (λ l. gathered [] (parts_in (code_number n) part) ++ l) (g r (n + part_accesses part) ∙ ap (λ k. phases_in_groups k rest) (code_behind n (part_accesses part))))

mutual
  pub anywhere : (a : Action) → Everywhere (λ r n. phases r n a) (λ m. phases_in m a)
  anywhere (action id place form) = anywhere_form id place form

  anywhere_form : (id : ℕ) (place : Place) (form : ActionForm) → Everywhere (λ r n. form_phases r n id place form) (λ m. gathered_list (form_phases nothing_around m id place form))
  anywhere_form id place (lets name declared value) = alone_by (action id place (lets name declared value))
  anywhere_form id place (lets_memory name shape shape_places value) = λ r n. refl
  anywhere_form id place (views name parent (shrinks by by_place)) = λ r n. refl
  anywhere_form id place (views name parent (splits by by_place)) = λ r n. refl
  anywhere_form id place (views name parent (suffixes by by_place)) = alone_by (action id place (views name parent (suffixes by by_place)))
  anywhere_form id place (views name parent (shifts by)) = alone_by (action id place (views name parent (shifts by)))
  anywhere_form id place (assigns target value) = alone_by (action id place (assigns target value))
  anywhere_form id place (stores target value) = alone_by (action id place (stores target value))
  anywhere_form id place (reduces target op value) = alone_by (action id place (reduces target op value))
  anywhere_form id place (calls function arguments) = λ r n. refl
  anywhere_form id place (blocks body) = anywhere_groups body
  anywhere_form id place (decides test chosen other) =
      settled (λ r n. form_phases r n id place (decides test chosen other)) (choice_at id place test chosen other) (choice_by id place test chosen other (anywhere chosen) (anywhere_other other))
  anywhere_form id place (repeats test body) = settled (λ r n. form_phases r n id place (repeats test body)) (loop_at id place test body) (loop_by id place test body (anywhere body))
  anywhere_form id place (counts iterator declared low high factor body combine combine_place) =
      settled (λ r n. form_phases r n id place (counts iterator declared low high factor body combine combine_place)) (turns_at id place iterator declared low high factor body combine combine_place)
      (turns_by id place iterator declared low high factor body combine combine_place (anywhere body) (anywhere_other combine))

  pub anywhere_other : (b : MaybeAction) → Everywhere (λ r n. other_phases r n b) (λ m. phases_in_other m b)
  anywhere_other no_action = λ r n. refl
  anywhere_other (one_action a) = anywhere a

  pub anywhere_groups : (gs : Groups) → Everywhere (λ r n. groups_phases r n gs) (λ m. phases_in_groups m gs)
  anywhere_groups no_groups = λ r n. refl
  anywhere_groups (group_then part rest) = settled (λ r n. groups_phases r n (group_then part rest)) (groups_at part rest) (groups_by part rest (anywhere_part part) (anywhere_groups rest))

  pub anywhere_part : (cs : Actions) (r : Around) (n : ℕ) → map gathered_list (parts_phases r n cs) ≡ parts_in (code_number n) cs
  anywhere_part no_actions = λ r n. refl
  anywhere_part (action_then a rest) = λ r n.
      ap (λ l. l ∷ map gathered_list (parts_phases r (n + accesses_of a) rest)) (anywhere a r n)
      ∙ ap (λ l. phases_in (code_number n) a ∷ l) (anywhere_part rest r (n + accesses_of a) ∙ ap (λ k. parts_in k rest) (code_behind n (accesses_of a)))

-- what an `if`, a `while`, a `for` and parts have by themselves, where a number is one of the code
module _ (first : ℕ) (small : code_number first ≡ first) where
  pub choice_is : (id : ℕ) (place : Place) (test : Term) (chosen : Action) (other : MaybeAction) → phases_in first (action id place (decides test chosen other)) ≡ choice_at id place test chosen other first
  choice_is id place test chosen other = choice_by id place test chosen other (anywhere chosen) (anywhere_other other) nothing_around first ∙ ap (choice_at id place test chosen other) small

  pub loop_is : (id : ℕ) (place : Place) (test : Term) (body : Action) → phases_in first (action id place (repeats test body)) ≡ loop_at id place test body first
  loop_is id place test body = loop_by id place test body (anywhere body) nothing_around first ∙ ap (loop_at id place test body) small

  pub turns_are : (id : ℕ) (place : Place) (h : LoopHeader) (body : Action) (combine : MaybeAction)
      → phases_in first (action id place (counts_seen h body combine)) ≡ turns_at id place h.iterator h.declared (low_seen h) (high_seen h) (unroll_seen h) body combine h.combine_place first
  turns_are id place h body combine =
      turns_by id place h.iterator h.declared (low_seen h) (high_seen h) (unroll_seen h) body combine h.combine_place (anywhere body) (anywhere_other combine) nothing_around first
      ∙ ap (turns_at id place h.iterator h.declared (low_seen h) (high_seen h) (unroll_seen h) body combine h.combine_place) small

  pub groups_are : (part : Actions) (rest : Groups) → phases_in_groups first (group_then part rest) ≡ groups_at part rest first
  groups_are part rest = groups_by part rest (anywhere_part part) (anywhere_groups rest) nothing_around first ∙ ap (groups_at part rest) small

  pub alone_is : (a : Action) → gathered_list (source.one_command (located nothing_around first a)) ≡ straight_phase (as_numbered a first ∷ []) ∷ []
  alone_is a = ap (λ n. straight_phase (as_numbered a n ∷ []) ∷ []) small

-- Where the commands of phases stand: the events of each located command stand together among the events of the
-- whole, behind as many accesses as its first number says. By induction on the command: what holds of each
-- command of the parts holds of each one of what is joined and folded of them, and the events of a part stand
-- together among those of the whole.
use Rattle.std.proofs.Common.{◌≡◌, ℕ, ◌+◌, ◌==◌, ◌&&◌, ◌⊎◌, inl, inr, Bool, true, false, if◌then◌else◌, List, [], ◌∷◌, ◌++◌, length, refl, sym, ◌∙◌, ap, subst, arith}
use Rattle.std.proofs.lemmas.List.{append_assoc, append-nil}
use Rattle.dh_tree.specs.PlainTrees.{shrinks, splits, suffixes, shifts, Term, Action, action, ActionForm, lets, lets_memory, views, assigns, stores, reduces, calls, blocks, decides, repeats, counts, MaybeAction, no_action, one_action, Actions, no_actions, action_then, Groups, no_groups, group_then, Program}
use Rattle.dh_meaning.specs.AccessNumbers.{term_accesses, accesses_of, part_accesses}
use Rattle.dh_meaning.specs.Sites.{Around, nothing_around, in_arm, in_loop, loop_of}
use Rattle.dh_meaning.specs.Phases.{Located, Phase, straight, turns, repeated, decided, Phases, no_phases, phase, of_list, one_straight, joined, are_straight, one_command, folded, turn_phases, choice_phases, located, phases, form_phases, other_phases, groups_phases, parts_phases, phases_of, unless_turns, idle_phases, idle_form_phases, idle_other_phases, idle_groups_phases, idle_part_phases, idle_phases_of}
use Rattle.dh_meets.specs.SourceEvents.{Site, SourceEvent, assigned, accesses_in, source_term_events, site_of, events, other_events, groups_events, part_events, trace}
use Rattle.dh_sound.specs.PhaseFacts.{HasStraightIn, HaveStraight, HasStraight, HasTestIn, HaveTest, HasTest, StandsAmong}
use Rattle.dh_carried.proofs.Pigeons.{Has}
use Rattle.dh_sound.proofs.EventCounts.{count_in, count_joined, term_counted, events_counted, part_counted}

-- What holds of each located command of Straight phases and of tests.
abbrev pub Each : (Located → Type 0) → List Located → Type 0
Each P [] = Unit {0}
Each P (c ∷ cs) = P c × Each P cs

abbrev mutual
  pub EachIn : (Located → Type 0) → Phase → Type 0
  EachIn P (straight cs) = Each P cs
  EachIn P (turns loop count body) = EachOf P body
  EachIn P (repeated loop body) = P loop × EachOf P body
  EachIn P (decided choice chosen other) = P choice × (EachOf P chosen × EachOf P other)

  pub EachOf : (Located → Type 0) → Phases → Type 0
  EachOf P no_phases = Unit {0}
  EachOf P (phase p ps) = EachIn P p × EachOf P ps

abbrev pub Every : (Located → Type 0) → List Phase → Type 0
Every P [] = Unit {0}
Every P (p ∷ ps) = EachIn P p × Every P ps

abbrev pub EveryPart : (Located → Type 0) → List (List Phase) → Type 0
EveryPart P [] = Unit {0}
EveryPart P (ps ∷ parts) = Every P ps × EveryPart P parts

module _ (P : Located → Type 0) where
  each_joined : (cs ds : List Located) → Each P cs → Each P ds → Each P (cs ++ ds)
  each_joined [] ds h g = g
  each_joined (c ∷ cs) ds h g = (h.0, each_joined cs ds h.1 g)

  every_joined : (ps qs : List Phase) → Every P ps → Every P qs → Every P (ps ++ qs)
  every_joined [] qs h g = g
  every_joined (p ∷ ps) qs h g = (h.0, every_joined ps qs h.1 g)

  every_listed : (ps : List Phase) → Every P ps → EachOf P (of_list ps)
  every_listed [] h = tt
  every_listed (p ∷ ps) h = (h.0, every_listed ps h.1)

  every_straight : (cs : List Located) → Each P cs → Every P (one_straight cs)
  every_straight [] h = tt
  every_straight (c ∷ cs) h = (h, tt)

  every_part : (cs : List Located) (parts : List (List Phase)) → Each P cs → EveryPart P parts → Every P (joined cs parts)
  every_part cs [] h g = every_straight cs h
  every_part cs ([] ∷ parts) h g = every_part cs parts h g.1
  every_part cs ((straight ds ∷ []) ∷ parts) h g = every_part (cs ++ ds) parts (each_joined cs ds h g.0.0) g.1
  every_part cs ((turns loop count body ∷ []) ∷ parts) h g = every_joined (one_straight cs) _ (every_straight cs h) (g.0.0, every_part [] parts tt g.1)
  every_part cs ((repeated loop body ∷ []) ∷ parts) h g = every_joined (one_straight cs) _ (every_straight cs h) (g.0.0, every_part [] parts tt g.1)
  every_part cs ((decided choice chosen other ∷ []) ∷ parts) h g = every_joined (one_straight cs) _ (every_straight cs h) (g.0.0, every_part [] parts tt g.1)
  every_part cs ((p ∷ q ∷ ps) ∷ parts) h g =
      every_joined (one_straight cs) _ (every_straight cs h) (every_joined (p ∷ q ∷ ps) (joined [] parts) g.0 (every_part [] parts tt g.1))

  every_folded : (body fold : List Phase) → Every P body → Every P fold → Every P (folded body fold)
  every_folded [] fold h g = g
  every_folded (straight cs ∷ []) fold h g = every_part cs (fold ∷ []) h.0 (g, tt)
  every_folded (turns loop count body ∷ []) fold h g = (h.0, g)
  every_folded (repeated loop body ∷ []) fold h g = (h.0, g)
  every_folded (decided choice chosen other ∷ []) fold h g = (h.0, g)
  every_folded (p ∷ q ∷ ps) fold h g = (h.0, every_folded (q ∷ ps) fold h.1 g)

  every_turn : (loop : Located) (count : ℕ) (turn : List Phase) → Every P turn → Every P (turn_phases loop count turn)
  every_turn loop count [] h = tt
  every_turn loop count (p ∷ ps) h = by (count == 0)
    where
      by : (b : Bool) → Every P (if b then [] else turns loop count (of_list (p ∷ ps)) ∷ [])
      by true = tt
      by false = (every_listed (p ∷ ps) h, tt)

  every_choice : (choice : Located) (chosen other : List Phase) → P choice → Every P chosen → Every P other → Every P (choice_phases choice chosen other)
  every_choice choice chosen other c h g = by (are_straight chosen && are_straight other)
    where
      by : (b : Bool) → Every P (if b then one_command choice else decided choice (of_list chosen) (of_list other) ∷ [])
      by true = ((c, tt), tt)
      by false = ((c, (every_listed chosen h, every_listed other g)), tt)

  every_unless : (dead turned : List Phase) → Every P dead → Every P (unless_turns dead turned)
  every_unless dead [] h = h
  every_unless dead (p ∷ ps) h = tt

  -- each command of a Straight phase, and each with a test
  each_has : (cs : List Located) (c : Located) → Each P cs → Has c cs → P c
  each_has [] c h g = elim g [ ]
  each_has (d ∷ cs) c h (inl e) = subst (λ (x : Located). P x) (sym e) h.0
  each_has (d ∷ cs) c h (inr g) = each_has cs c h.1 g

  mutual
    in_straight : (p : Phase) (cs : List Located) → EachIn P p → HasStraightIn p cs → Each P cs
    in_straight (straight ds) cs h e = subst (λ (x : List Located). Each P x) e h
    in_straight (turns loop count body) cs h g = of_straight body cs h g
    in_straight (repeated loop body) cs h g = of_straight body cs h.1 g
    in_straight (decided choice chosen other) cs h (inl g) = of_straight chosen cs h.1.0 g
    in_straight (decided choice chosen other) cs h (inr g) = of_straight other cs h.1.1 g

    of_straight : (ps : Phases) (cs : List Located) → EachOf P ps → HaveStraight ps cs → Each P cs
    of_straight no_phases cs h g = elim g [ ]
    of_straight (phase p ps) cs h (inl g) = in_straight p cs h.0 g
    of_straight (phase p ps) cs h (inr g) = of_straight ps cs h.1 g

  pub every_straightly : (ps : List Phase) (cs : List Located) → Every P ps → HasStraight ps cs → Each P cs
  every_straightly [] cs h g = elim g [ ]
  every_straightly (p ∷ ps) cs h (inl g) = in_straight p cs h.0 g
  every_straightly (p ∷ ps) cs h (inr g) = every_straightly ps cs h.1 g

  mutual
    in_test : (p : Phase) (c : Located) → EachIn P p → HasTestIn p c → P c
    in_test (straight ds) c h g = elim g [ ]
    in_test (turns loop count body) c h g = of_test body c h g
    in_test (repeated loop body) c h (inl e) = subst (λ (x : Located). P x) e h.0
    in_test (repeated loop body) c h (inr g) = of_test body c h.1 g
    in_test (decided choice chosen other) c h (inl e) = subst (λ (x : Located). P x) e h.0
    in_test (decided choice chosen other) c h (inr (inl g)) = of_test chosen c h.1.0 g
    in_test (decided choice chosen other) c h (inr (inr g)) = of_test other c h.1.1 g

    of_test : (ps : Phases) (c : Located) → EachOf P ps → HaveTest ps c → P c
    of_test no_phases c h g = elim g [ ]
    of_test (phase p ps) c h (inl g) = in_test p c h.0 g
    of_test (phase p ps) c h (inr g) = of_test ps c h.1 g

  pub every_test : (ps : List Phase) (c : Located) → Every P ps → HasTest ps c → P c
  every_test [] c h g = elim g [ ]
  every_test (p ∷ ps) c h (inl g) = in_test p c h.0 g
  every_test (p ∷ ps) c h (inr g) = every_test ps c h.1 g

module _ (P Q : Located → Type 0) (then_holds : (c : Located) → P c → Q c) where
  each_more : (cs : List Located) → Each P cs → Each Q cs
  each_more [] h = tt
  each_more (c ∷ cs) h = (then_holds c h.0, each_more cs h.1)

  mutual
    in_more : (p : Phase) → EachIn P p → EachIn Q p
    in_more (straight cs) h = each_more cs h
    in_more (turns loop count body) h = of_more body h
    in_more (repeated loop body) h = (then_holds loop h.0, of_more body h.1)
    in_more (decided choice chosen other) h = (then_holds choice h.0, (of_more chosen h.1.0, of_more other h.1.1))

    of_more : (ps : Phases) → EachOf P ps → EachOf Q ps
    of_more no_phases h = tt
    of_more (phase p ps) h = (in_more p h.0, of_more ps h.1)

  every_more : (ps : List Phase) → Every P ps → Every Q ps
  every_more [] h = tt
  every_more (p ∷ ps) h = (in_more p h.0, every_more ps h.1)

  parts_more : (parts : List (List Phase)) → EveryPart P parts → EveryPart Q parts
  parts_more [] h = tt
  parts_more (ps ∷ parts) h = (every_more ps h.0, parts_more parts h.1)

-- Events of a part among those of the whole.
among_left : (n : ℕ) (es fs : List SourceEvent) (c : Located) → StandsAmong n es c → StandsAmong n (es ++ fs) c
among_left n es fs c s = record { before = s.before; after = s.after ++ fs; all = whole; counted = s.counted }
  where
    whole : es ++ fs ≡ s.before ++ (events c.around c.command ++ (s.after ++ fs))
    whole =
        ap (λ x. x ++ fs) s.all
        ∙ (append_assoc s.before (events c.around c.command ++ s.after) fs ∙ ap (λ x. s.before ++ x) (append_assoc (events c.around c.command) s.after fs))

among_right : (n m : ℕ) (es fs : List SourceEvent) → n + count_in es ≡ m → (c : Located) → StandsAmong m fs c → StandsAmong n (es ++ fs) c
among_right n m es fs e c s = record { before = es ++ s.before; after = s.after; all = whole; counted = first }
  where
    whole : es ++ fs ≡ (es ++ s.before) ++ (events c.around c.command ++ s.after)
    whole = ap (λ x. es ++ x) s.all ∙ sym (append_assoc es s.before (events c.around c.command ++ s.after))

    first : n + count_in (es ++ s.before) ≡ c.first
    first = let j = count_joined es s.before in let f = s.counted in omega (arith, e, j, f)

among_whole : (r : Around) (n : ℕ) (a : Action) → StandsAmong n (events r a) (located r n a)
among_whole r n a = record { before = []; after = []; all = sym (append-nil (events r a)); counted = zero_more }
  where
    zero_more : n + count_in [] ≡ n
    zero_more = let z : count_in [] ≡ 0 = refl in omega (arith, z)

every_left : (n : ℕ) (es fs : List SourceEvent) (ps : List Phase) → Every (StandsAmong n es) ps → Every (StandsAmong n (es ++ fs)) ps
every_left n es fs ps h = every_more (StandsAmong n es) (StandsAmong n (es ++ fs)) (among_left n es fs) ps h

every_right : (n m : ℕ) (es fs : List SourceEvent) (ps : List Phase) → n + count_in es ≡ m → Every (StandsAmong m fs) ps → Every (StandsAmong n (es ++ fs)) ps
every_right n m es fs ps e h = every_more (StandsAmong m fs) (StandsAmong n (es ++ fs)) (among_right n m es fs e) ps h

after_term : (n : ℕ) (site : Site) (t : Term) → n + count_in (source_term_events site t) ≡ n + term_accesses t
after_term n site t = ap (λ x. n + x) (term_counted site t)

after_events : (n : ℕ) (r : Around) (a : Action) → n + count_in (events r a) ≡ n + accesses_of a
after_events n r a = ap (λ x. n + x) (events_counted r a)

after_part : (n : ℕ) (r : Around) (xs : Actions) → n + count_in (part_events r xs) ≡ n + part_accesses xs
after_part n r xs = ap (λ x. n + x) (part_counted r xs)

after_assigned : (n : ℕ) (e : SourceEvent) → count_in (e ∷ []) ≡ 0 → n + count_in (e ∷ []) ≡ n
after_assigned n e z = omega (arith, z)

-- the phases of a turn, from those of body and combine
turn_stands : (s : Around) (n : ℕ) (entity : _) (body : Action) (combine : MaybeAction)
    → Every (StandsAmong n (events s body)) (phases s n body) → Every (StandsAmong (n + accesses_of body) (other_events s combine)) (other_phases s (n + accesses_of body) combine)
    → Every (StandsAmong n (assigned entity ∷ (events s body ++ other_events s combine))) (folded (phases s n body) (other_phases s (n + accesses_of body) combine))
turn_stands s n entity body combine h g =
    every_right n n (assigned entity ∷ []) (events s body ++ other_events s combine) _ (after_assigned n (assigned entity) refl)
    (every_folded _ _ _ (every_left n (events s body) (other_events s combine) _ h)
    (every_right n (n + accesses_of body) (events s body) (other_events s combine) _ (after_events n s body) g))

idle_both : (s : Around) (n : ℕ) (entity : _) (body : Action) (combine : MaybeAction)
    → Every (StandsAmong n (events s body)) (idle_phases s n body) → Every (StandsAmong (n + accesses_of body) (other_events s combine)) (idle_other_phases s (n + accesses_of body) combine)
    → Every (StandsAmong n (assigned entity ∷ (events s body ++ other_events s combine))) (idle_phases s n body ++ idle_other_phases s (n + accesses_of body) combine)
idle_both s n entity body combine h g =
    every_right n n (assigned entity ∷ []) (events s body ++ other_events s combine) _ (after_assigned n (assigned entity) refl)
    (every_joined _ _ _ (every_left n (events s body) (other_events s combine) _ h)
    (every_right n (n + accesses_of body) (events s body) (other_events s combine) _ (after_events n s body) g))

mutual
  pub phases_stand : (r : Around) (n : ℕ) (a : Action) → Every (StandsAmong n (events r a)) (phases r n a)
  phases_stand r n (action id place form) = form_stands r n id place form

  form_stands : (r : Around) (n id : ℕ) (place : _) (f : ActionForm) → Every (StandsAmong n (events r (action id place f))) (form_phases r n id place f)
  form_stands r n id place (lets name declared value) = ((among_whole r n (action id place (lets name declared value)), tt), tt)
  form_stands r n id place (assigns target value) = ((among_whole r n (action id place (assigns target value)), tt), tt)
  form_stands r n id place (stores target value) = ((among_whole r n (action id place (stores target value)), tt), tt)
  form_stands r n id place (reduces target op value) = ((among_whole r n (action id place (reduces target op value)), tt), tt)
  form_stands r n id place (decides test arm other) =
      every_choice (StandsAmong n (events r (action id place (decides test arm other)))) _ _ _ (among_whole r n (action id place (decides test arm other)))
      (every_right n (n + term_accesses test) (source_term_events (site_of r id) test) (events (in_arm r id true) arm ++ other_events (in_arm r id false) other) _ (after_term n _ test)
      (every_left _ (events (in_arm r id true) arm) (other_events (in_arm r id false) other) _ (phases_stand (in_arm r id true) (n + term_accesses test) arm)))
      (every_right n (n + term_accesses test) (source_term_events (site_of r id) test) (events (in_arm r id true) arm ++ other_events (in_arm r id false) other) _ (after_term n _ test)
      (every_right _ (n + term_accesses test + accesses_of arm) (events (in_arm r id true) arm) (other_events (in_arm r id false) other) _ (after_events _ (in_arm r id true) arm)
      (other_stands (in_arm r id false) (n + term_accesses test + accesses_of arm) other)))
  form_stands r n id place (repeats test body) = (
    (
      among_whole r n (action id place (repeats test body)),
      every_listed _ _
          (every_right n (n + term_accesses test) (source_term_events (site_of r id) test) (events r body) _ (after_term n _ test) (phases_stand r (n + term_accesses test) body)),
    ),
    tt,
  )
  form_stands r n id place (counts iterator declared low high factor body combine combine_place) =
      every_turn _ _ _ _ (turn_stands (in_loop r (loop_of iterator low high factor)) n iterator.entity body combine (phases_stand (in_loop r (loop_of iterator low high factor)) n body) (other_stands (in_loop r (loop_of iterator low high factor)) (n + accesses_of body) combine))
  form_stands r n id place (blocks body) = groups_stand r n body
  form_stands r n id place (lets_memory name shape shape_places value) = tt
  form_stands r n id place (views name parent (shrinks by by_place)) = tt
  form_stands r n id place (views name parent (splits by by_place)) = tt
  form_stands r n id place (views name parent (suffixes by by_place)) = ((among_whole r n (action id place (views name parent (suffixes by by_place))), tt), tt)
  form_stands r n id place (views name parent (shifts by)) = ((among_whole r n (action id place (views name parent (shifts by))), tt), tt)
  form_stands r n id place (calls function arguments) = tt

  other_stands : (r : Around) (n : ℕ) (o : MaybeAction) → Every (StandsAmong n (other_events r o)) (other_phases r n o)
  other_stands r n no_action = tt
  other_stands r n (one_action a) = phases_stand r n a

  groups_stand : (r : Around) (n : ℕ) (gs : Groups) → Every (StandsAmong n (groups_events r gs)) (groups_phases r n gs)
  groups_stand r n no_groups = tt
  groups_stand r n (group_then part rest) =
      every_joined _ _ _ (every_left n (part_events r part) (groups_events r rest) _ (every_part (StandsAmong n (part_events r part)) [] _ tt (parts_stand r n part)))
      (every_right n (n + part_accesses part) (part_events r part) (groups_events r rest) _ (after_part n r part) (groups_stand r (n + part_accesses part) rest))

  parts_stand : (r : Around) (n : ℕ) (xs : Actions) → EveryPart (StandsAmong n (part_events r xs)) (parts_phases r n xs)
  parts_stand r n no_actions = tt
  parts_stand r n (action_then a rest) = (
    every_left n (events r a) (part_events r rest) _ (phases_stand r n a),
    parts_more (StandsAmong (n + accesses_of a) (part_events r rest)) (StandsAmong n (events r a ++ part_events r rest))
        (among_right n (n + accesses_of a) (events r a) (part_events r rest) (after_events n r a)) _ (parts_stand r (n + accesses_of a) rest),
  )

mutual
  pub idle_stand : (r : Around) (n : ℕ) (a : Action) → Every (StandsAmong n (events r a)) (idle_phases r n a)
  idle_stand r n (action id place form) = idle_form_stands r n id place form

  idle_form_stands : (r : Around) (n id : ℕ) (place : _) (f : ActionForm) → Every (StandsAmong n (events r (action id place f))) (idle_form_phases r n id place f)
  idle_form_stands r n id place (lets name declared value) = tt
  idle_form_stands r n id place (assigns target value) = tt
  idle_form_stands r n id place (stores target value) = tt
  idle_form_stands r n id place (reduces target op value) = tt
  idle_form_stands r n id place (lets_memory name shape shape_places value) = tt
  idle_form_stands r n id place (views name parent form) = tt
  idle_form_stands r n id place (calls function arguments) = tt
  idle_form_stands r n id place (decides test arm other) =
      every_right n (n + term_accesses test) (source_term_events (site_of r id) test) (events (in_arm r id true) arm ++ other_events (in_arm r id false) other) _ (after_term n _ test)
      (every_joined _ _ _
      (every_left _ (events (in_arm r id true) arm) (other_events (in_arm r id false) other) _ (idle_stand (in_arm r id true) (n + term_accesses test) arm))
      (every_right _ (n + term_accesses test + accesses_of arm) (events (in_arm r id true) arm) (other_events (in_arm r id false) other) _ (after_events _ (in_arm r id true) arm)
      (idle_other_stands (in_arm r id false) (n + term_accesses test + accesses_of arm) other)))
  idle_form_stands r n id place (repeats test body) =
      every_right n (n + term_accesses test) (source_term_events (site_of r id) test) (events r body) _ (after_term n _ test) (idle_stand r (n + term_accesses test) body)
  idle_form_stands r n id place (counts iterator declared low high factor body combine combine_place) =
      every_joined _ _ _
      (every_unless _ _ (form_phases r n id place (counts iterator declared low high factor body combine combine_place))
      (turn_stands (in_loop r (loop_of iterator low high factor)) n iterator.entity body combine (phases_stand (in_loop r (loop_of iterator low high factor)) n body) (other_stands (in_loop r (loop_of iterator low high factor)) (n + accesses_of body) combine)))
      (idle_both (in_loop r (loop_of iterator low high factor)) n iterator.entity body combine (idle_stand (in_loop r (loop_of iterator low high factor)) n body) (idle_other_stands (in_loop r (loop_of iterator low high factor)) (n + accesses_of body) combine))
  idle_form_stands r n id place (blocks body) = idle_groups_stand r n body

  idle_other_stands : (r : Around) (n : ℕ) (o : MaybeAction) → Every (StandsAmong n (other_events r o)) (idle_other_phases r n o)
  idle_other_stands r n no_action = tt
  idle_other_stands r n (one_action a) = idle_stand r n a

  idle_groups_stand : (r : Around) (n : ℕ) (gs : Groups) → Every (StandsAmong n (groups_events r gs)) (idle_groups_phases r n gs)
  idle_groups_stand r n no_groups = tt
  idle_groups_stand r n (group_then part rest) =
      every_joined _ _ _ (every_left n (part_events r part) (groups_events r rest) _ (idle_part_stand r n part))
      (every_right n (n + part_accesses part) (part_events r part) (groups_events r rest) _ (after_part n r part) (idle_groups_stand r (n + part_accesses part) rest))

  idle_part_stand : (r : Around) (n : ℕ) (xs : Actions) → Every (StandsAmong n (part_events r xs)) (idle_part_phases r n xs)
  idle_part_stand r n no_actions = tt
  idle_part_stand r n (action_then a rest) =
      every_joined _ _ _ (every_left n (events r a) (part_events r rest) _ (idle_stand r n a))
      (every_right n (n + accesses_of a) (events r a) (part_events r rest) _ (after_events n r a) (idle_part_stand r (n + accesses_of a) rest))

every_stands : (p : Program) → Every (StandsAmong 0 (trace p)) (phases_of p ++ idle_phases_of p)
every_stands p = every_joined _ (phases_of p) (idle_phases_of p) (phases_stand nothing_around 0 p.body) (idle_stand nothing_around 0 p.body)

-- each command of a Straight phase of a program, or of a loop without phases by itself, stands among its events
pub straight_stands : (p : Program) (cs : List Located) (c : Located)
    → HasStraight (phases_of p ++ idle_phases_of p) cs → Has c cs → StandsAmong 0 (trace p) c
straight_stands p cs c h g = each_has _ cs c (every_straightly _ (phases_of p ++ idle_phases_of p) cs (every_stands p) h) g

-- and so does each command whose test is a phase
pub test_stands : (p : Program) (c : Located) → HasTest (phases_of p ++ idle_phases_of p) c → StandsAmong 0 (trace p) c
test_stands p c h = every_test _ (phases_of p ++ idle_phases_of p) c (every_stands p) h

-- its first number is the number of accesses before it
pub stands_first : (es : List SourceEvent) (c : Located) → (s : StandsAmong 0 es c) → length (accesses_in s.before) ≡ c.first
stands_first es c s = let f = s.counted in omega (arith, f)

-- phases of a program are among both
pub straight_either : (ps qs : List Phase) (cs : List Located) → HasStraight ps cs ⊎ HasStraight qs cs → HasStraight (ps ++ qs) cs
straight_either [] qs cs (inl h) = elim h [ ]
straight_either [] qs cs (inr h) = h
straight_either (p ∷ ps) qs cs (inl (inl h)) = inl h
straight_either (p ∷ ps) qs cs (inl (inr h)) = inr (straight_either ps qs cs (inl h))
straight_either (p ∷ ps) qs cs (inr h) = inr (straight_either ps qs cs (inr h))

pub test_either : (ps qs : List Phase) (c : Located) → HasTest ps c ⊎ HasTest qs c → HasTest (ps ++ qs) c
test_either [] qs c (inl h) = elim h [ ]
test_either [] qs c (inr h) = h
test_either (p ∷ ps) qs c (inl (inl h)) = inl h
test_either (p ∷ ps) qs c (inl (inr h)) = inr (test_either ps qs c (inl h))
test_either (p ∷ ps) qs c (inr h) = inr (test_either ps qs c (inr h))

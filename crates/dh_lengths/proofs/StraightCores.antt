-- The commands of the straight phase of a command are those that it means: by recursion on the command, with the
-- commands of all straight phases of a list, where a part beside others adds its own.
use Rattle.std.proofs.Common.{◌≡◌, ℕ, suc, ◌+◌, ◌≤◌, ◌&&◌, nat_le, not, max, min, Bool, true, false, if◌then◌else◌, List, [], ◌∷◌, ◌++◌, ◌⊎◌, inl, inr, refl, ap, sym, ◌∙◌, subst, arith}
use Rattle.std.specs.Prelude.{Option}
use Rattle.dh_base.specs.declared.places.Place.{Place}
use Rattle.dh_tree.specs.PlainTrees.{shrinks, splits, suffixes, shifts, Action, action, ActionForm, lets, lets_memory, views, assigns, stores, reduces, calls, blocks, decides, repeats, counts, MaybeAction, no_action, one_action, Actions, no_actions, action_then, Groups, no_groups, group_then}
use Rattle.dh_meaning.specs.AccessNumbers.{term_accesses, accesses_of, part_accesses}
use Rattle.dh_meaning.specs.Core.{no_terms, CoreCommands, no_commands}
use Rattle.dh_meaning.specs.CoreOf.{Known, core_action, core_action_form, core_commands, core_groups, core_part, kept_by, way_of}
use Rattle.dh_meaning.specs.Ways.{Hidden, hidden_in}
use Rattle.dh_meaning.specs.Levels.{Levels, commands_leveled}
use Rattle.dh_meaning.specs.Phases.{Located, Phase, straight, turns, repeated, decided, of_list, one_straight, joined, are_straight, one_command, folded, turn_count, turn_phases, choice_phases, located, phases, form_phases, other_phases, groups_phases, parts_phases}
use Rattle.dh_meaning.specs.Sites.{Around, in_arm, in_loop, loop_of}
use Rattle.dh_tree.specs.PhaseKinds.{phase_kind, form_phase_kind, other_phase_kind, groups_phase_kind, part_phase_kind}
use Rattle.dh_ports.proofs.PhaseShapes.{max_right}
use Rattle.dh_ports.proofs.PhaseSizes.{TurnCases, choice_straight, few_choice, loop_turns, max_first, other_size, stage_size, sum_first, sum_second}
use Rattle.dh_lengths.proofs.CommandLevels.{front_action}

module _ (known : Known) where
  -- commands in front of others
  abbrev pub core_then : List Located → CoreCommands → CoreCommands
  core_then [] rest = rest
  core_then (c ∷ cs) rest = core_action known c.first c.command (core_then cs rest)

  pub then_none : (cs : List Located) → core_then cs no_commands ≡ core_commands known cs
  then_none [] = refl
  then_none (c ∷ cs) = ap (core_action known c.first c.command) (then_none cs)

  then_both : (cs ds : List Located) (rest : CoreCommands) → core_then (cs ++ ds) rest ≡ core_then cs (core_then ds rest)
  then_both [] ds rest = refl
  then_both (c ∷ cs) ds rest = ap (core_action known c.first c.command) (then_both cs ds rest)

  -- the levels of commands in front of others
  then_leveled : (shared : ℕ → Option ℕ) (outer : ℕ) (cs : List Located) (rest : CoreCommands) (l : Levels) → commands_leveled shared outer (core_then cs rest) l ≡ commands_leveled shared outer rest (commands_leveled shared outer (core_commands known cs) l)
  then_leveled shared outer [] rest l = refl
  then_leveled shared outer (c ∷ cs) rest l =
      (front_action known c.first c.command (core_then cs rest)).levels shared outer l
      ∙ (then_leveled shared outer cs rest (commands_leveled shared outer (core_action known c.first c.command no_commands) l)
      ∙ ap (commands_leveled shared outer rest) (sym ((front_action known c.first c.command (core_commands known cs)).levels shared outer l)))

  pub both_leveled : (shared : ℕ → Option ℕ) (outer : ℕ) (cs ds : List Located) (l : Levels) → commands_leveled shared outer (core_commands known (cs ++ ds)) l ≡ commands_leveled shared outer (core_commands known ds) (commands_leveled shared outer (core_commands known cs) l)
  both_leveled shared outer cs ds l =
      ap (λ x. commands_leveled shared outer x l) (sym (then_none (cs ++ ds)) ∙ (then_both cs ds no_commands ∙ ap (core_then cs) (then_none ds))) ∙ then_leveled shared outer cs (core_commands known ds) l

  -- those of all straight phases
  abbrev tops_then : List Phase → CoreCommands → CoreCommands
  tops_then [] rest = rest
  tops_then (straight cs ∷ ps) rest = core_then cs (tops_then ps rest)
  tops_then (turns loop count body ∷ ps) rest = tops_then ps rest
  tops_then (repeated loop body ∷ ps) rest = tops_then ps rest
  tops_then (decided choice chosen other ∷ ps) rest = tops_then ps rest

  abbrev all_tops_then : List (List Phase) → CoreCommands → CoreCommands
  all_tops_then [] rest = rest
  all_tops_then (ps ∷ pss) rest = tops_then ps (all_tops_then pss rest)

  tops_append : (ps qs : List Phase) (rest : CoreCommands) → tops_then (ps ++ qs) rest ≡ tops_then ps (tops_then qs rest)
  tops_append [] qs rest = refl
  tops_append (straight cs ∷ ps) qs rest = ap (core_then cs) (tops_append ps qs rest)
  tops_append (turns loop count body ∷ ps) qs rest = tops_append ps qs rest
  tops_append (repeated loop body ∷ ps) qs rest = tops_append ps qs rest
  tops_append (decided choice chosen other ∷ ps) qs rest = tops_append ps qs rest

  tops_one : (cs : List Located) (ps : List Phase) (rest : CoreCommands) → tops_then (one_straight cs ++ ps) rest ≡ core_then cs (tops_then ps rest)
  tops_one [] ps rest = refl
  tops_one (c ∷ cs) ps rest = refl

  tops_last : (cs : List Located) (rest : CoreCommands) → tops_then (one_straight cs) rest ≡ core_then cs rest
  tops_last [] rest = refl
  tops_last (c ∷ cs) rest = refl

  tops_joined : (cs : List Located) (pss : List (List Phase)) (rest : CoreCommands) → tops_then (joined cs pss) rest ≡ core_then cs (all_tops_then pss rest)
  tops_joined cs [] rest = tops_last cs rest
  tops_joined cs ([] ∷ pss) rest = tops_joined cs pss rest
  tops_joined cs ((straight ds ∷ []) ∷ pss) rest = tops_joined (cs ++ ds) pss rest ∙ then_both cs ds (all_tops_then pss rest)
  tops_joined cs ((turns loop count body ∷ []) ∷ pss) rest = tops_one cs (turns loop count body ∷ joined [] pss) rest ∙ ap (core_then cs) (tops_joined [] pss rest)
  tops_joined cs ((repeated loop body ∷ []) ∷ pss) rest = tops_one cs (repeated loop body ∷ joined [] pss) rest ∙ ap (core_then cs) (tops_joined [] pss rest)
  tops_joined cs ((decided choice chosen other ∷ []) ∷ pss) rest = tops_one cs (decided choice chosen other ∷ joined [] pss) rest ∙ ap (core_then cs) (tops_joined [] pss rest)
  tops_joined cs ((p ∷ q ∷ ps) ∷ pss) rest =
      tops_one cs ((p ∷ q ∷ ps) ++ joined [] pss) rest ∙ ap (core_then cs) (tops_append (p ∷ q ∷ ps) (joined [] pss) rest ∙ ap (tops_then (p ∷ q ∷ ps)) (tops_joined [] pss rest))

  choice_tops : (c : Located) (ps qs : List Phase) (rest : CoreCommands) → (are_straight ps && are_straight qs) ≡ true → tops_then (choice_phases c ps qs) rest ≡ core_action known c.first c.command rest
  choice_tops c ps qs rest e = ap (λ v. tops_then (if v then one_command c else decided c (of_list ps) (of_list qs) ∷ []) rest) e

  turn_tops : (c : Located) (count k l : ℕ) (fs : List Phase) (rest : CoreCommands) → TurnCases c count k l fs → tops_then (turn_phases c count fs) rest ≡ rest
  turn_tops c count k l fs rest (inl x) = ap (λ ps. tops_then ps rest) x.1
  turn_tops c count k l fs rest (inr x) = ap (λ ps. tops_then ps rest) x.1

  -- a view without offsets keeps none
  kept_none : (hidden : List Hidden) (rest : CoreCommands) → rest ≡ kept_by hidden no_terms rest
  kept_none [] rest = refl
  kept_none (h ∷ hs) rest = refl

  mutual
    pub core_tops : (r : Around) (n : ℕ) (a : Action) (rest : CoreCommands) → phase_kind a ≤ 1 → tops_then (phases r n a) rest ≡ core_action known n a rest
    core_tops r n (action id place form) rest h = form_tops r n id place form rest h

    form_tops : (r : Around) (n id : ℕ) (place : Place) (form : ActionForm) (rest : CoreCommands) → form_phase_kind form ≤ 1 → tops_then (form_phases r n id place form) rest ≡ core_action_form known n form rest
    form_tops r n id place (lets name declared value) rest h = refl
    form_tops r n id place (lets_memory name shape shape_places value) rest h = refl
    form_tops r n id place (views name parent (shrinks by by_place)) rest h = kept_none (hidden_in (way_of known name)) rest
    form_tops r n id place (views name parent (splits by by_place)) rest h = kept_none (hidden_in (way_of known name)) rest
    form_tops r n id place (views name parent (suffixes by by_place)) rest h = refl
    form_tops r n id place (views name parent (shifts by)) rest h = refl
    form_tops r n id place (assigns target value) rest h = refl
    form_tops r n id place (stores target value) rest h = refl
    form_tops r n id place (reduces target op value) rest h = refl
    form_tops r n id place (calls function arguments) rest h = refl
    form_tops r n id place (blocks body) rest h = groups_tops r n body rest h
    form_tops r n id place (decides test chosen other) rest h =
        choice_tops (located r n (action id place (decides test chosen other))) (phases (in_arm r id true) (n + term_accesses test) chosen) (other_phases (in_arm r id false) (n + term_accesses test + accesses_of chosen) other) rest
        (choice_straight (phases (in_arm r id true) (n + term_accesses test) chosen) (other_phases (in_arm r id false) (n + term_accesses test + accesses_of chosen) other) (phase_kind chosen) (other_phase_kind other) (stage_size (in_arm r id true) (n + term_accesses test) chosen) (other_size (in_arm r id false) (n + term_accesses test + accesses_of chosen) other)
        ∙ ap not (few_choice (phase_kind chosen) (other_phase_kind other) h))
    form_tops r n id place (repeats test body) rest h = refl
    form_tops r n id place (counts iterator declared low high factor body combine combine_place) rest h =
        turn_tops (located r n (action id place (counts iterator declared low high factor body combine combine_place))) (turn_count low.value high.value factor.value) (phase_kind body) (other_phase_kind combine) (folded (phases (in_loop r (loop_of iterator low high factor)) n body) (other_phases (in_loop r (loop_of iterator low high factor)) (n + accesses_of body) combine)) rest
        (loop_turns (in_loop r (loop_of iterator low high factor)) n (located r n (action id place (counts iterator declared low high factor body combine combine_place))) (turn_count low.value high.value factor.value) body combine)

    groups_tops : (r : Around) (n : ℕ) (body : Groups) (rest : CoreCommands) → groups_phase_kind body ≤ 1 → tops_then (groups_phases r n body) rest ≡ core_groups known n body rest
    groups_tops r n no_groups rest h = refl
    groups_tops r n (group_then part behind) rest h =
        tops_append (joined [] (parts_phases r n part)) (groups_phases r (n + part_accesses part) behind) rest
        ∙ (ap (tops_then (joined [] (parts_phases r n part))) (groups_tops r (n + part_accesses part) behind rest (sum_second (part_phase_kind part) (groups_phase_kind behind) h))
        ∙ (tops_joined [] (parts_phases r n part) (core_groups known (n + part_accesses part) behind rest)
        ∙ part_tops r n part (core_groups known (n + part_accesses part) behind rest) (sum_first (part_phase_kind part) (groups_phase_kind behind) h)))

    part_tops : (r : Around) (n : ℕ) (part : Actions) (rest : CoreCommands) → part_phase_kind part ≤ 1 → all_tops_then (parts_phases r n part) rest ≡ core_part known n part rest
    part_tops r n no_actions rest h = refl
    part_tops r n (action_then a behind) rest h =
        ap (tops_then (phases r n a)) (part_tops r (n + accesses_of a) behind rest (max_right (phase_kind a) (part_phase_kind behind) h))
        ∙ core_tops r n a (core_part known (n + accesses_of a) behind rest) (max_first (phase_kind a) (part_phase_kind behind) h)

  -- of one straight phase
  pub straight_core : (r : Around) (n : ℕ) (a : Action) (ds : List Located) → phase_kind a ≤ 1 → phases r n a ≡ straight ds ∷ [] → core_commands known ds ≡ core_action known n a no_commands
  straight_core r n a ds h e = sym (then_none ds) ∙ (sym (ap (λ ps. tops_then ps no_commands) e) ∙ core_tops r n a no_commands h)

-- A program of the source that keeps its iterators keeps them where it is run: the commands of each phase are commands
-- of the source with the same loops round them. First for the phases, by induction over commands. Then for what is
-- run: a straight command assigns to the variables that it names.
use Rattle.std.proofs.Common.{◌≡◌, inl, inr, ℕ, ◌+◌, ◌<◌, ◌≤◌, ◌==◌, ◌&&◌, ◌||◌, nat_le, nat_lt, Bool, true, false, List, [], ◌∷◌, ◌++◌, length, refl, sym, ◌∙◌, ap, subst, arith, map, Option}
use Rattle.std.specs.List.{AllByRecursion}
use Rattle.std.proofs.lemmas.Bool.{ne_eqb}
use Rattle.std.proofs.lemmas.Bool.Decides.{nat_tests}
use Rattle.std.proofs.lemmas.List.{map-append}
use Rattle.dh_base.specs.declared.places.Place.{Place}
use Rattle.dh_tree.specs.PlainTrees as plain
use Rattle.dh_tree.specs.PlainTrees.{shrinks, splits, suffixes, shifts, Action, action, ActionForm, lets, lets_memory, views, assigns, stores, reduces, calls, blocks, decides, repeats, counts, MaybeAction, no_action, one_action, Actions, no_actions, action_then, Groups, no_groups, group_then, Program}
use Rattle.dh_meaning.specs.AccessNumbers.{term_accesses, accesses_of, part_accesses}
use Rattle.dh_meaning.specs.Sites.{Around, nothing_around, in_arm, in_loop, loop_of}
use Rattle.dh_meaning.specs.Phases.{Located, Phase, straight, turns, repeated, decided, Phases, no_phases, phase, of_list, turn_count, located, phases, form_phases, other_phases, groups_phases, parts_phases, phases_of}
use Rattle.dh_meaning.specs.Core.{CoreTerm, CoreCommands, no_commands, Turning}
use Rattle.dh_meaning.specs.CoreOf.{Known, known_of, entity_number, store_to, core_action, core_action_form, core_other, core_part, core_groups, core_term, core_commands, action_form_of, turning_of, core_phase, core_phases, core_of}
use Rattle.dh_meaning.specs.Effects.{commands, tests}
use Rattle.dh_meaning.specs.Levels.{assigns_to, any_assigns}
use Rattle.dh_sound.specs.Blocks.{StandsIn, StandsInPhase}
use Rattle.dh_sound.specs.Standing.{Spares, IsFresh, PhasesAreApart, IsApart, KeepsIterators}
use Rattle.dh_sound.specs.IteratorsKept.{IsOther, also, ActionLeaves, FormLeaves, OtherLeaves, GroupsLeave, PartLeaves, LeavesIterators}
use Rattle.dh_carried.proofs.Pigeons.{Has}
use Rattle.dh_sound.proofs.PhasesHold.{Facts, AllHold, PhaseHolds, PhasesHold, ListHolds, PartsHold, of_list_hold, both_hold, joined_hold, folded_hold, turn_hold, choice_hold}
use Rattle.dh_sound.proofs.OwnVariables.{hidden_behind}
use Rattle.dh_tree.specs.Seen.{terms}
use Rattle.dh_tree.specs.ViewOffsets.{offsets_of}
use Rattle.dh_meaning.specs.Core.{CoreTerms, count_terms, no_terms, term_and}
use Rattle.dh_meaning.specs.CoreOf.{kept_by, core_terms, way_of}
use Rattle.dh_meaning.specs.Ways.{Hidden, hidden_in, way_at}

-- Phases.

-- the iterator of a `for`; another command has none, and is no loop of a phase
abbrev iterator_of : ActionForm → ℕ
iterator_of (counts iterator declared low high factor body combine combine_place) = entity_number iterator.entity
iterator_of (lets name declared value) = 0
iterator_of (lets_memory name shape shape_places value) = 0
iterator_of (views name parent form) = 0
iterator_of (assigns target value) = 0
iterator_of (stores target value) = 0
iterator_of (reduces target op value) = 0
iterator_of (calls function arguments) = 0
iterator_of (blocks body) = 0
iterator_of (decides test chosen other) = 0
iterator_of (repeats test body) = 0

module _ (ground : ℕ) where
  -- all offsets that ways keep are in variables from the ground on
  abbrev IsAbove : Known → Type 0
  IsAbove known = (entity : Option ℕ) → AllByRecursion (λ h. ground ≤ h.entity) (hidden_in (way_at known.memories known.ways entity))

  -- each command leaves the iterators round it, and each loop has another
  abbrev keeps_iterators : Facts
  keeps_iterators = record { round = List ℕ; does = λ is a. ActionLeaves ground is a; turns_so = λ is form. IsOther (iterator_of form) is; inside = λ is form. is ++ iterator_of form ∷ [] }

  abbrev AllLeave : (iterators : List ℕ) → List Located → Type 0
  AllLeave is cs = AllHold keeps_iterators is cs

  abbrev PhaseLeaves : (iterators : List ℕ) → Phase → Type 0
  PhaseLeaves is p = PhaseHolds keeps_iterators is p

  abbrev PhasesLeave : (iterators : List ℕ) → Phases → Type 0
  PhasesLeave is ps = PhasesHold keeps_iterators is ps

  abbrev ListLeaves : (iterators : List ℕ) → List Phase → Type 0
  ListLeaves is ps = ListHolds keeps_iterators is ps

  abbrev PartsLeave : (iterators : List ℕ) → List (List Phase) → Type 0
  PartsLeave is parts = PartsHold keeps_iterators is parts

  mutual
    pub phases_leave : (a : Action) (is : List ℕ) (r : Around) (n : ℕ) → ActionLeaves ground is a → ListLeaves is (phases r n a)
    phases_leave (action id place form) is r n h = form_leaves form is r n id place h

    form_leaves : (form : ActionForm) (is : List ℕ) (r : Around) (n id : ℕ) (place : Place) → FormLeaves ground is form → ListLeaves is (form_phases r n id place form)
    form_leaves (lets name declared value) is r n id place h = ((h, tt), tt)
    form_leaves (assigns target value) is r n id place h = ((h, tt), tt)
    form_leaves (stores target value) is r n id place h = ((h, tt), tt)
    form_leaves (reduces target op value) is r n id place h = ((h, tt), tt)
    form_leaves (decides test chosen other) is r n id place h =
        choice_hold keeps_iterators is (located r n (action id place (decides test chosen other))) _ _ h
        (phases_leave chosen is (in_arm r id true) (n + term_accesses test) h.0)
        (other_leaves other is (in_arm r id false) (n + term_accesses test + accesses_of chosen) h.1)
    form_leaves (repeats test body) is r n id place h = (of_list_hold keeps_iterators is _ (phases_leave body is r (n + term_accesses test) h), tt)
    form_leaves (counts iterator declared low high factor body combine combine_place) is r n id place h =
        turn_hold keeps_iterators is (located r n (action id place (counts iterator declared low high factor body combine combine_place))) (turn_count low.value high.value factor.value) _ h.0
        (folded_hold keeps_iterators (also is iterator) _ _
        (phases_leave body (also is iterator) (in_loop r (loop_of iterator low high factor)) n h.1.0)
        (other_leaves combine (also is iterator) (in_loop r (loop_of iterator low high factor)) (n + accesses_of body) h.1.1))
    form_leaves (blocks body) is r n id place h = groups_leave body is r n h
    form_leaves (lets_memory name shape shape_places value) is r n id place h = tt
    form_leaves (views name parent (shrinks by by_place)) is r n id place h = tt
    form_leaves (views name parent (splits by by_place)) is r n id place h = tt
    form_leaves (views name parent (suffixes by by_place)) is r n id place h = ((h, tt), tt)
    form_leaves (views name parent (shifts by)) is r n id place h = ((h, tt), tt)
    form_leaves (calls function arguments) is r n id place h = tt

    other_leaves : (a : MaybeAction) (is : List ℕ) (r : Around) (n : ℕ) → OtherLeaves ground is a → ListLeaves is (other_phases r n a)
    other_leaves no_action is r n h = tt
    other_leaves (one_action a) is r n h = phases_leave a is r n h

    groups_leave : (gs : Groups) (is : List ℕ) (r : Around) (n : ℕ) → GroupsLeave ground is gs → ListLeaves is (groups_phases r n gs)
    groups_leave no_groups is r n h = tt
    groups_leave (group_then part rest) is r n h =
        both_hold keeps_iterators is _ _ (joined_hold keeps_iterators is [] (parts_phases r n part) tt (parts_leave part is r n h.0)) (groups_leave rest is r (n + part_accesses part) h.1)

    parts_leave : (part : Actions) (is : List ℕ) (r : Around) (n : ℕ) → PartLeaves ground is part → PartsLeave is (parts_phases r n part)
    parts_leave no_actions is r n h = tt
    parts_leave (action_then a rest) is r n h = (phases_leave a is r n h.0, parts_leave rest is r (n + accesses_of a) h.1)

  -- Commands that are run.

  neither : (a b : Bool) → a ≡ false → b ≡ false → (a || b) ≡ false
  neither true b e f = cc
  neither false b e f = f

  -- an iterator round a command, and what this assigns to
  module _ (known : Known) (hidden : IsAbove known) (m : ℕ) where
    another : (entity : ℕ) (is : List ℕ) → IsOther entity is → Has m is → (m == entity) ≡ false
    another entity [] o h = elim h [ ]
    another entity (i ∷ is) o (inl e) = ne_eqb m entity (λ f. o.0 (sym e ∙ f))
    another entity (i ∷ is) o (inr h) = another entity is o.1 h

    stores_none : (target : plain.Term) (n : ℕ) (value : CoreTerm) → assigns_to m (store_to known n target value) ≡ false
    stores_none (plain.term at kind (plain.accessed r indices)) n value = refl
    stores_none (plain.term at kind (plain.in_bank r bank bank_place row)) n value = refl
    stores_none (plain.term at kind (plain.number negative v)) n value = refl
    stores_none (plain.term at kind (plain.truth_value v)) n value = refl
    stores_none (plain.term at kind (plain.named r)) n value = refl
    stores_none (plain.term at kind (plain.applied o left right)) n value = refl
    stores_none (plain.term at kind (plain.converted inner to)) n value = refl

    no_less : (i j : ℕ) → j < i → nat_le i j ≡ false
    no_less i j l = grind (arith, nat_tests, l)

    none_kept : (hs : List Hidden) (ts : CoreTerms) (rest : CoreCommands) → AllByRecursion (λ h. ground ≤ h.entity) hs → m < ground → any_assigns m rest ≡ false → any_assigns m (kept_by hs ts rest) ≡ false
    none_kept hs no_terms rest a l e = e
    none_kept [] (term_and t ts) rest a l e = e
    none_kept (h ∷ hs) (term_and t ts) rest a l e =
        neither _ _ (ap (λ c. c && nat_lt m (h.entity + count_terms (term_and t ts))) (no_less h.entity m (let g = a.0 in omega (arith, g, l)))) e

    below : (is : List ℕ) → AllByRecursion (λ i. i < ground) is → Has m is → m < ground
    below [] a h = elim h [ ]
    below (i ∷ is) a (inl e) = subst (λ (k : ℕ). k < ground) (sym e) a.0
    below (i ∷ is) a (inr h) = below is a.1 h

    module _ (is : List ℕ) (has : Has m is) where
      mutual
        spared : (a : Action) (n : ℕ) (rest : CoreCommands) → ActionLeaves ground is a → any_assigns m rest ≡ false → any_assigns m (core_action known n a rest) ≡ false
        spared (action id place form) n rest h e = form_spared form n rest h e

        form_spared : (form : ActionForm) (n : ℕ) (rest : CoreCommands) → FormLeaves ground is form → any_assigns m rest ≡ false → any_assigns m (core_action_form known n form rest) ≡ false
        form_spared (lets name declared value) n rest h e = neither _ _ (another (entity_number name.entity) is h has) e
        form_spared (assigns target value) n rest h e = neither _ _ (another (entity_number target.entity) is h has) e
        form_spared (stores target value) n rest h e = neither _ _ (stores_none target (n + term_accesses value) (core_term known n value)) e
        form_spared (reduces target o value) n rest h e = neither _ _ (another (entity_number target.entity) is h has) e
        form_spared (decides test chosen other) n rest h e =
            neither _ _
            (neither _ _ (spared chosen (n + term_accesses test) no_commands h.0 refl) (other_spared other (n + term_accesses test + accesses_of chosen) h.1))
            e
        form_spared (blocks body) n rest h e = groups_spared body n rest h e
        form_spared (lets_memory name shape shape_places value) n rest h e = e
        form_spared (views name parent form) n rest h e =
            none_kept (hidden_in (way_of known name)) (core_terms known n (terms (offsets_of form))) rest (hidden name.entity) (below is h has) e
        form_spared (calls function arguments) n rest h e = e
        form_spared (repeats test body) n rest h e = e
        form_spared (counts iterator declared low high factor body combine combine_place) n rest h e = e

        other_spared : (a : MaybeAction) (n : ℕ) → OtherLeaves ground is a → any_assigns m (core_other known n a) ≡ false
        other_spared no_action n h = refl
        other_spared (one_action a) n h = spared a n no_commands h refl

        part_spared : (part : Actions) (n : ℕ) (rest : CoreCommands) → PartLeaves ground is part → any_assigns m rest ≡ false → any_assigns m (core_part known n part rest) ≡ false
        part_spared no_actions n rest h e = e
        part_spared (action_then a behind) n rest h e =
            spared a n (core_part known (n + accesses_of a) behind rest) h.0 (part_spared behind (n + accesses_of a) rest h.1 e)

        groups_spared : (gs : Groups) (n : ℕ) (rest : CoreCommands) → GroupsLeave ground is gs → any_assigns m rest ≡ false → any_assigns m (core_groups known n gs rest) ≡ false
        groups_spared no_groups n rest h e = e
        groups_spared (group_then part behind) n rest h e =
            part_spared part n (core_groups known (n + part_accesses part) behind rest) h.0 (groups_spared behind (n + part_accesses part) rest h.1 e)

      all_spared : (cs : List Located) → AllLeave is cs → any_assigns m (core_commands known cs) ≡ false
      all_spared [] h = refl
      all_spared (c ∷ cs) h = spared c.command c.first (core_commands known cs) h.0 (all_spared cs h.1)

  -- Phases that are run.

  abbrev iterators : List Turning → List ℕ
  iterators loops = map (λ l. l.iterator) loops

  -- commands that assign to none of the iterators round them spare the loops
  spares_all : (known : Known) → IsAbove known → (cs : List Located) (whole : List ℕ) → AllLeave whole cs → (loops : List Turning)
      → ((m : ℕ) → Has m (iterators loops) → Has m whole) → Spares (core_commands known cs) loops
  spares_all known hidden cs whole h [] among = tt
  spares_all known hidden cs whole h (l ∷ ls) among =
      (all_spared known hidden l.iterator whole (among l.iterator (inl refl)) cs h, spares_all known hidden cs whole h ls (λ m g. among m (inr g)))

  fresh_from : (iterator : ℕ) (loops : List Turning) → IsOther iterator (iterators loops) → IsFresh iterator loops
  fresh_from iterator [] o = tt
  fresh_from iterator (l ∷ ls) o = (o.0, fresh_from iterator ls o.1)

  module _ (known : Known) (hidden : IsAbove known) where
    iterator_is : (count : ℕ) (form : ActionForm) → (turning_of known count form).iterator ≡ iterator_of form
    iterator_is count (counts iterator declared low high factor body combine combine_place) = refl
    iterator_is count (decides test chosen other) = refl
    iterator_is count (repeats test body) = refl
    iterator_is count (lets name declared value) = refl
    iterator_is count (lets_memory name shape shape_places value) = refl
    iterator_is count (views name parent form) = refl
    iterator_is count (assigns target value) = refl
    iterator_is count (stores target value) = refl
    iterator_is count (reduces target o value) = refl
    iterator_is count (calls function arguments) = refl
    iterator_is count (blocks body) = refl

    inside_is : (round : List Turning) (loop : Located) (count : ℕ)
        → iterators (round ++ turning_of known count (action_form_of loop.command) ∷ []) ≡ iterators round ++ iterator_of (action_form_of loop.command) ∷ []
    inside_is round loop count =
        map-append (λ l. l.iterator) round (turning_of known count (action_form_of loop.command) ∷ [])
        ∙ ap (λ i. iterators round ++ i ∷ []) (iterator_is count (action_form_of loop.command))

    inside_leaves : (round : List Turning) (loop : Located) (count : ℕ) (body : Phases) → PhasesLeave (iterators round ++ iterator_of (action_form_of loop.command) ∷ []) body
        → PhasesLeave (iterators (round ++ turning_of known count (action_form_of loop.command) ∷ [])) body
    inside_leaves round loop count body h = subst (λ (is : List ℕ). PhasesLeave is body) (sym (inside_is round loop count)) h

    same_commands : (cs ds : CoreCommands) → commands cs ≡ commands ds → cs ≡ ds
    same_commands cs ds e = cc

    straight_spares : (cs : List Located) (round loops : List Turning) (ds : CoreCommands) → AllLeave (iterators round) cs
        → loops ≡ round → commands ds ≡ commands (core_commands known cs) → Spares ds loops
    straight_spares cs round loops ds h e f =
        subst (λ (ls : List Turning). Spares ds ls) (sym e)
        (subst (λ (d : CoreCommands). Spares d round) (sym (same_commands ds (core_commands known cs) f)) (spares_all known hidden cs (iterators round) h round (λ m g. g)))

    no_test : (ds : CoreCommands) (test : CoreTerm) (loops : List Turning) → commands ds ≡ tests test → Spares ds loops
    no_test ds test loops e = cc

    mutual
      phase_spares : (p : Phase) (round : List Turning) → PhaseLeaves (iterators round) p → (loops : List Turning) (ds : CoreCommands)
          → StandsInPhase round (core_phase known p) loops (commands ds) → Spares ds loops
      phase_spares (straight cs) round h loops ds s = straight_spares cs round loops ds h s.0 s.1
      phase_spares (turns loop count body) round h loops ds s =
          phases_spare body (round ++ turning_of known count (action_form_of loop.command) ∷ []) (inside_leaves round loop count body h.1) loops ds s
      phase_spares (repeated loop body) round h loops ds (inl s) = no_test ds _ loops s.1
      phase_spares (repeated loop body) round h loops ds (inr s) = phases_spare body round h loops ds s
      phase_spares (decided choice chosen other) round h loops ds (inl s) = no_test ds _ loops s.1
      phase_spares (decided choice chosen other) round h loops ds (inr (inl s)) = phases_spare chosen round h.0 loops ds s
      phase_spares (decided choice chosen other) round h loops ds (inr (inr s)) = phases_spare other round h.1 loops ds s

      phases_spare : (ps : Phases) (round : List Turning) → PhasesLeave (iterators round) ps → (loops : List Turning) (ds : CoreCommands)
          → StandsIn round (core_phases known ps) loops (commands ds) → Spares ds loops
      phases_spare no_phases round h loops ds s = elim s [ ]
      phases_spare (phase p ps) round h loops ds (inl s) = phase_spares p round h.0 loops ds s
      phases_spare (phase p ps) round h loops ds (inr s) = phases_spare ps round h.1 loops ds s

    mutual
      phase_apart : (p : Phase) (round : List Turning) → PhaseLeaves (iterators round) p → IsApart round (core_phase known p)
      phase_apart (straight cs) round h = tt
      phase_apart (turns loop count body) round h = (
        subst (λ (i : ℕ). IsFresh i round) (sym (iterator_is count (action_form_of loop.command))) (fresh_from (iterator_of (action_form_of loop.command)) round h.0),
        phases_apart body (round ++ turning_of known count (action_form_of loop.command) ∷ []) (inside_leaves round loop count body h.1),
      )
      phase_apart (repeated loop body) round h = phases_apart body round h
      phase_apart (decided choice chosen other) round h = (phases_apart chosen round h.0, phases_apart other round h.1)

      phases_apart : (ps : Phases) (round : List Turning) → PhasesLeave (iterators round) ps → PhasesAreApart round (core_phases known ps)
      phases_apart no_phases round h = tt
      phases_apart (phase p ps) round h = (phase_apart p round h.0, phases_apart ps round h.1)

-- a program that keeps its iterators keeps them where it is run
pub iterators_kept : (p : Program) → LeavesIterators p → KeepsIterators (core_of p)
iterators_kept p h = record {
  keeps = λ loops cs s. phases_spare (length p.entities) (known_of p) (hidden_behind p) (of_list (phases_of p)) [] leave loops cs s;
  apart = phases_apart (length p.entities) (known_of p) (hidden_behind p) (of_list (phases_of p)) [] leave;
}
  where
    leave : PhasesLeave (length p.entities) [] (of_list (phases_of p))
    leave = of_list_hold (keeps_iterators (length p.entities)) [] (phases_of p) (phases_leave (length p.entities) p.body [] nothing_around 0 h)

-- The loops of a program's phases are loops of its text, with iterators that are numbered in order.
use Rattle.std.proofs.Common.{◌≡◌, ℕ, suc, ◌+◌, ◌≤◌, ◌==◌, ◌&&◌, Bool, true, false, if◌then◌else◌, List, [], ◌∷◌, ◌++◌, Some, refl, ap, sym, ◌∙◌, subst, arith}
use Rattle.std.specs.List.{AllByRecursion}
use Rattle.dh_tree.specs.declared.trees.counters.Counter.{Counter}
use Rattle.dh_tree.specs.declared.trees.programs.Sort.TheVariants.{Variable, Iterator, View}
use Rattle.dh_tree.specs.declared.trees.programs.Sort.TheVariants.{Memory as MemorySort}
use Rattle.dh_tree.specs.Counters.{counters, form_counters, other_counters, groups_counters, part_counters}
use Rattle.dh_tree.specs.PlainTrees.{shrinks, splits, suffixes, shifts, Action, action, ActionForm, lets, lets_memory, views, assigns, stores, reduces, calls, blocks, decides, repeats, counts, MaybeAction, no_action, one_action, Actions, no_actions, action_then, Groups, no_groups, group_then}
use Rattle.dh_tree.specs.Resolved.{resolved_action, resolved_form, resolved_other, resolved_actions, resolved_groups}
use Rattle.dh_tree.specs.Scopes.{Scope, declare, leave, past, at_end, form_at_end, other_at_end, actions_at_end, groups_at_end}
use Rattle.dh_base.specs.declared.places.Place.{Place}
use Rattle.dh_meaning.specs.AccessNumbers.{accesses_of, part_accesses, term_accesses}
use Rattle.dh_meaning.specs.Core.{Turning}
use Rattle.dh_meaning.specs.CoreOf.{Known, entity_number, action_form_of, turning_of}
use Rattle.dh_meaning.specs.Phases.{Located, Phase, turns, decided, of_list, are_straight, choice_phases, folded, form_phases, groups_phases, joined, located, one_command, other_phases, parts_phases, phases, turn_count, turn_phases}
use Rattle.dh_meaning.specs.Sites.{Around, in_arm, in_loop, loop_of}
use Rattle.dh_gathering.specs.MadeBlocks.{IsAmong}
use Rattle.dh_phased.proofs.CountersAscend.{declare_more, declared_least, past_size, same_size, size}
use Rattle.dh_phased.proofs.PhaseLoops.{loops_append, loops_folded, loops_in_list, loops_in_parts, loops_joined}

-- a loop as it is run is one of these of the text
pub record IsLoopOf (all : List Counter) (l : Turning) : Type 0 where
  pub counter : Counter
  pub among : IsAmong all counter
  pub entity : counter.entity ≡ Some l.iterator
  pub turns : l.count ≡ turn_count counter.low counter.high counter.factor
  pub low : l.low ≡ counter.low
  pub factor : l.factor ≡ counter.factor

-- loops are so, with iterators of these numbers, each behind those before it
abbrev pub LoopsFrom : List Counter → (low high : ℕ) → List Turning → Type 0
LoopsFrom all low high [] = low ≤ high
LoopsFrom all low high (l ∷ ls) = (low ≤ l.iterator) × (IsLoopOf all l × LoopsFrom all (suc l.iterator) high ls)

module _ (all : List Counter) where
  pub loops_within : (low high : ℕ) (ls : List Turning) → LoopsFrom all low high ls → low ≤ high
  loops_within low high [] h = h
  loops_within low high (l ∷ ls) h = least low l.iterator high h.0 (loops_within (suc l.iterator) high ls h.1.1)
    where
      least : (n m k : ℕ) → n ≤ m → suc m ≤ k → n ≤ k
      least n m k e f = omega (arith, e, f)

  loops_lower : (low from high : ℕ) (ls : List Turning) → low ≤ from → LoopsFrom all from high ls → LoopsFrom all low high ls
  loops_lower low from high [] l h = omega (arith, l, h)
  loops_lower low from high (x ∷ ls) l h = (least h.0, h.1)
    where
      least : from ≤ x.iterator → low ≤ x.iterator
      least e = omega (arith, l, e)

  loops_upper : (low high top : ℕ) (ls : List Turning) → high ≤ top → LoopsFrom all low high ls → LoopsFrom all low top ls
  loops_upper low high top [] l h = omega (arith, l, h)
  loops_upper low high top (x ∷ ls) l h = (h.0, (h.1.0, loops_upper (suc x.iterator) high top ls l h.1.1))

  loops_both : (low middle high : ℕ) (xs ys : List Turning) → LoopsFrom all low middle xs → LoopsFrom all middle high ys → LoopsFrom all low high (xs ++ ys)
  loops_both low middle high [] ys h k = loops_lower low middle high ys h k
  loops_both low middle high (x ∷ xs) ys h k = (h.0, (h.1.0, loops_both (suc x.iterator) middle high xs ys h.1.1 k))

  -- where the first of them end
  pub record LoopParts (low high : ℕ) (xs ys : List Turning) : Type 0 where
    pub middle : ℕ
    pub front : LoopsFrom all low middle xs
    pub back : LoopsFrom all middle high ys

  pub loops_split : (low high : ℕ) (xs ys : List Turning) → LoopsFrom all low high (xs ++ ys) → LoopParts low high xs ys
  loops_split low high [] ys h = record { middle = low; front = same low; back = h }
    where
      same : (n : ℕ) → n ≤ n
      same n = omega arith
  loops_split low high (x ∷ xs) ys h =
      let r = loops_split (suc x.iterator) high xs ys h.1.1 in
      record { middle = r.middle; front = (h.0, (h.1.0, r.front)); back = r.back }

  -- counters are among them
  abbrev AllAmong : List Counter → Type 0
  AllAmong cs = AllByRecursion (IsAmong all) cs

  among_split : (xs ys : List Counter) → AllAmong (xs ++ ys) → AllAmong xs × AllAmong ys
  among_split [] ys h = (tt, h)
  among_split (x ∷ xs) ys h = let r = among_split xs ys h.1 in ((h.0, r.0), r.1)

  module _ (known : Known) where
    -- phases have such loops
    abbrev Ascend : (low high : ℕ) → List Phase → Type 0
    Ascend low high qs = LoopsFrom all low high (loops_in_list known qs)

    choice_ascend : (low middle high : ℕ) (c : Located) (ps qs : List Phase) → Ascend low middle ps → Ascend middle high qs → Ascend low high (choice_phases c ps qs)
    choice_ascend low middle high c ps qs h k = by (are_straight ps && are_straight qs)
      where
        whole : LoopsFrom all low high (loops_in_list known ps ++ loops_in_list known qs)
        whole = loops_both low middle high (loops_in_list known ps) (loops_in_list known qs) h k

        nil : (l : List Turning) → LoopsFrom all low high l → LoopsFrom all low high (l ++ [])
        nil l g = loops_both low high high l [] g (same high)
          where
            same : (n : ℕ) → n ≤ n
            same n = omega arith

        by : (b : Bool) → Ascend low high (if b then one_command c else decided c (of_list ps) (of_list qs) ∷ [])
        by true = loops_within low high (loops_in_list known ps ++ loops_in_list known qs) whole
        by false = nil (loops_in_list known ps ++ loops_in_list known qs) whole

    turn_ascend : (low high : ℕ) (loop : Located) (count : ℕ) (qs : List Phase) → low ≤ (turning_of known count (action_form_of loop.command)).iterator → IsLoopOf all (turning_of known count (action_form_of loop.command))
        → Ascend (suc (turning_of known count (action_form_of loop.command)).iterator) high qs → Ascend low high (turn_phases loop count qs)
    turn_ascend low high loop count [] at is h = least low (turning_of known count (action_form_of loop.command)).iterator high at h
      where
        least : (n m k : ℕ) → n ≤ m → suc m ≤ k → n ≤ k
        least n m k e f = omega (arith, e, f)
    turn_ascend low high loop count (q ∷ qs) at is h = by (count == 0)
      where
        own : Turning
        own = turning_of known count (action_form_of loop.command)

        whole : LoopsFrom all low high (own ∷ loops_in_list known (q ∷ qs))
        whole = (at, (is, h))

        by : (b : Bool) → Ascend low high (if b then [] else turns loop count (of_list (q ∷ qs)) ∷ [])
        by true = loops_within low high (own ∷ loops_in_list known (q ∷ qs)) whole
        by false = loops_both low high high (own ∷ loops_in_list known (q ∷ qs)) [] whole (same high)
          where
            same : (n : ℕ) → n ≤ n
            same n = omega arith

    abbrev PartsAscend : (low high : ℕ) → List (List Phase) → Type 0
    PartsAscend low high parts = LoopsFrom all low high (loops_in_parts known parts)

    mutual
      pub ascend : (s : Scope) (a : Action) (r : Around) (n : ℕ) → resolved_action s a ≡ a → AllAmong (counters a) → Ascend (size s) (size (at_end s a)) (phases r n a)
      ascend s (action id place form) r n e among = let same : resolved_form s form ≡ form = cc in form_ascend s form id place r n same among

      form_ascend : (s : Scope) (f : ActionForm) (id : ℕ) (place : Place) (r : Around) (n : ℕ) → resolved_form s f ≡ f → AllAmong (form_counters f) → Ascend (size s) (size (form_at_end s f)) (form_phases r n id place f)
      form_ascend s (lets name declared value) id place r n e among = declared_least s name Variable
      form_ascend s (lets_memory name shape shape_places value) id place r n e among = declared_least s name MemorySort
      form_ascend s (views name parent (shrinks by by_place)) id place r n e among = declared_least s name View
      form_ascend s (views name parent (splits by by_place)) id place r n e among = declared_least s name View
      form_ascend s (views name parent (suffixes by by_place)) id place r n e among = declared_least s name View
      form_ascend s (views name parent (shifts by)) id place r n e among = declared_least s name View
      form_ascend s (assigns target value) id place r n e among = same_size s
      form_ascend s (stores target value) id place r n e among = same_size s
      form_ascend s (reduces target o value) id place r n e among = same_size s
      form_ascend s (calls function arguments) id place r n e among = same_size s
      form_ascend s (blocks body) id place r n e among = groups_ascend s body r n (let f = e in cc) among
      form_ascend s (decides test chosen other) id place r n e among =
          let inner : Scope = leave s (at_end s chosen) in
          let first : resolved_action s chosen ≡ chosen = cc in
          let second : resolved_other inner other ≡ other = cc in
          let parts = among_split (counters chosen) (other_counters other) among in
          choice_ascend (size s) (size (at_end s chosen)) (size (other_at_end inner other)) (located r n (action id place (decides test chosen other)))
          (phases (in_arm r id true) (n + term_accesses test) chosen) (other_phases (in_arm r id false) (n + term_accesses test + accesses_of chosen) other)
          (ascend s chosen (in_arm r id true) (n + term_accesses test) first parts.0) (other_ascend inner other (in_arm r id false) (n + term_accesses test + accesses_of chosen) second parts.1)
      form_ascend s (repeats test body) id place r n e among =
          let same : resolved_action s body ≡ body = cc in
          loops_both (size s) (size (at_end s body)) (size (at_end s body)) (loops_in_list known (phases r (n + term_accesses test) body)) [] (ascend s body r (n + term_accesses test) same among) (same_size (at_end s body))
      form_ascend s (counts iterator declared low high factor body combine combine_place) id place r n e among =
          let d : Scope = declare s iterator Iterator in
          let named : Some (size s) ≡ iterator.entity = cc in
          let first : resolved_action d body ≡ body = cc in
          let second : resolved_other (at_end d body) combine ≡ combine = cc in
          let inside : Around = in_loop r (loop_of iterator low high factor) in
          let count : ℕ = turn_count low.value high.value factor.value in
          let number : size s ≡ entity_number iterator.entity = ap entity_number named in
          let parts = among_split (counters body) (other_counters combine) among.1 in
          let both = loops_both (size d) (size (at_end d body)) (size (other_at_end (at_end d body) combine))
          (loops_in_list known (phases inside n body)) (loops_in_list known (other_phases inside (n + accesses_of body) combine))
          (ascend d body inside n first parts.0) (other_ascend (at_end d body) combine inside (n + accesses_of body) second parts.1) in
          turn_ascend (size s) (size (other_at_end (at_end d body) combine)) (located r n (action id place (counts iterator declared low high factor body combine combine_place))) count
          (folded (phases inside n body) (other_phases inside (n + accesses_of body) combine))
          (subst (λ (m : ℕ). size s ≤ m) number (same_size s))
          (record { counter = record { entity = iterator.entity; low = low.value; high = high.value; factor = factor.value }; among = among.0; entity = sym named ∙ ap Some number; turns = refl; low = refl; factor = refl })
          (subst (λ (m : ℕ). LoopsFrom all m (size (other_at_end (at_end d body) combine)) (loops_in_list known (folded (phases inside n body) (other_phases inside (n + accesses_of body) combine))))
          (declare_more s iterator Iterator ∙ ap suc number)
          (subst (λ (l : List Turning). LoopsFrom all (size d) (size (other_at_end (at_end d body) combine)) l) (sym (loops_folded known (phases inside n body) (other_phases inside (n + accesses_of body) combine))) both))

      other_ascend : (s : Scope) (m : MaybeAction) (r : Around) (n : ℕ) → resolved_other s m ≡ m → AllAmong (other_counters m) → Ascend (size s) (size (other_at_end s m)) (other_phases r n m)
      other_ascend s no_action r n e among = same_size s
      other_ascend s (one_action a) r n e among = let same : resolved_action s a ≡ a = cc in ascend s a r n same among

      part_ascend : (s : Scope) (p : Actions) (r : Around) (n : ℕ) → resolved_actions s p ≡ p → AllAmong (part_counters p) → PartsAscend (size s) (size (actions_at_end s p)) (parts_phases r n p)
      part_ascend s no_actions r n e among = same_size s
      part_ascend s (action_then a rest) r n e among =
          let after : Scope = past s a (at_end s a) in
          let first : resolved_action s a ≡ a = cc in
          let second : resolved_actions after rest ≡ rest = cc in
          let parts = among_split (counters a) (part_counters rest) among in
          loops_both (size s) (size after) (size (actions_at_end after rest)) (loops_in_list known (phases r n a)) (loops_in_parts known (parts_phases r (n + accesses_of a) rest))
          (subst (λ (m : ℕ). Ascend (size s) m (phases r n a)) (sym (past_size s (at_end s a) a)) (ascend s a r n first parts.0)) (part_ascend after rest r (n + accesses_of a) second parts.1)

      groups_ascend : (s : Scope) (g : Groups) (r : Around) (n : ℕ) → resolved_groups s g ≡ g → AllAmong (groups_counters g) → Ascend (size s) (size (groups_at_end s g)) (groups_phases r n g)
      groups_ascend s no_groups r n e among = same_size s
      groups_ascend s (group_then g rest) r n e among =
          let after : Scope = actions_at_end s g in
          let first : resolved_actions s g ≡ g = cc in
          let second : resolved_groups after rest ≡ rest = cc in
          let parts = among_split (part_counters g) (groups_counters rest) among in
          subst (λ (l : List Turning). LoopsFrom all (size s) (size (groups_at_end after rest)) l)
          (sym (loops_append known (joined [] (parts_phases r n g)) (groups_phases r (n + part_accesses g) rest) ∙ ap (λ (l : List Turning). l ++ loops_in_list known (groups_phases r (n + part_accesses g) rest)) (loops_joined known [] (parts_phases r n g))))
          (loops_both (size s) (size after) (size (groups_at_end after rest)) (loops_in_parts known (parts_phases r n g)) (loops_in_list known (groups_phases r (n + part_accesses g) rest))
          (part_ascend s g r n first parts.0) (groups_ascend after rest r (n + part_accesses g) second parts.1))

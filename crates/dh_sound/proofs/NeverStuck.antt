-- A run is never stuck, if in each step that it does each bank spends at most its ports. What a beginning of the
-- accesses of a step has spent is no more than what all of them spend: the rows that were read are among those
-- of all, and there are no more writes. So no access of the step is beyond the ports, and a run stops at faults
-- and at its end alone. By induction over steps.
use Rattle.std.proofs.Common.{◌≡◌, ℕ, zero, suc, ◌+◌, ◌≤◌, nat_lt, nat_eq, Bool, true, false, if◌then◌else◌, List, [], ◌∷◌, ◌++◌, Option, Some, None, refl, sym, ap, subst, arith}
use Rattle.std.specs.Set.{distinct_count, unique_keys}
use Rattle.std.proofs.lemmas.Bool.Decides.{nat_tests}
use Rattle.std.proofs.lemmas.Cmp.{nat_eq_equiv}
use Rattle.std.proofs.lemmas.List.{append_assoc}
use Rattle.dh_base.specs.declared.outcomes.Outcome.{Outcome}
use Rattle.dh_base.specs.declared.outcomes.Outcome.TheVariants.{Going, Ended, Faulted, Stuck}
use Rattle.dh_base.specs.declared.places.Place.{Place}
use Rattle.dh_tree.specs.declared.tables.MemEntry.{MemEntry}
use Rattle.dh_tree.specs.Elements.{ports_at}
use Rattle.dh_meaning.specs.Paths.{Path}
use Rattle.dh_meaning.specs.Core.{CoreProgram}
use Rattle.dh_meaning.specs.Effects.{Variables, block_run, Event, reads, writes, faults, is_at, rows_read, writes_made, spent, spends_beyond, stop_after}
use Rattle.dh_meaning.specs.Runs as run
use Rattle.dh_meaning.specs.Runs.{RunState, step_effect, state_after, step_from, run_state}
use Rattle.dh_sound.specs.Standing.{KeepsIterators, IsPlaceInTurn, StepsKeepPorts, BlocksKeepPorts}
use Rattle.dh_sound.proofs.Standing.{run_stands}
use Rattle.dh_carried.proofs.Pigeons.{no_longer, has_left, unique_has, has_unique, unique_once}

-- What a beginning has spent.

same_number : (a b : ℕ) → nat_eq a b ≡ true → a ≡ b
same_number a b e = grind (arith, nat_tests)

-- a beginning of a list has no more distinct numbers than the list
distinct_grows : (xs ys : List ℕ) → distinct_count nat_eq xs ≤ distinct_count nat_eq (xs ++ ys)
distinct_grows xs ys =
    no_longer (unique_keys nat_eq xs) (unique_keys nat_eq (xs ++ ys)) (unique_once nat_eq same_number nat_eq_equiv.refl xs)
    (λ x h. has_unique nat_eq same_number nat_eq_equiv.refl x (xs ++ ys) (has_left x xs ys (unique_has nat_eq same_number nat_eq_equiv.refl x xs h)))

module _ (memory bank : ℕ) where
  rows_of_both : (es fs : List Event) → rows_read (es ++ fs) memory bank ≡ rows_read es memory bank ++ rows_read fs memory bank
  rows_of_both [] fs = refl
  rows_of_both (reads number place path s ∷ es) fs = by (is_at s memory bank) _ _ _ (rows_of_both es fs)
    where
      by : (b : Bool) (xs ys zs : List ℕ) → xs ≡ ys ++ zs → (if b then s.row ∷ xs else xs) ≡ (if b then s.row ∷ ys else ys) ++ zs
      by true xs ys zs e = ap (λ l. s.row ∷ l) e
      by false xs ys zs e = e
  rows_of_both (writes number place path s value ∷ es) fs = rows_of_both es fs
  rows_of_both (faults number place path kind ∷ es) fs = rows_of_both es fs

  writes_of_both : (es fs : List Event) → writes_made (es ++ fs) memory bank ≡ writes_made es memory bank + writes_made fs memory bank
  writes_of_both [] fs = omega arith
  writes_of_both (reads number place path s ∷ es) fs = writes_of_both es fs
  writes_of_both (writes number place path s value ∷ es) fs = by (is_at s memory bank) _ _ _ (writes_of_both es fs)
    where
      by : (b : Bool) (x y z : ℕ) → x ≡ y + z → (if b then suc x else x) ≡ (if b then suc y else y) + z
      by true x y z e = omega (arith, e)
      by false x y z e = e
  writes_of_both (faults number place path kind ∷ es) fs = writes_of_both es fs

  -- a beginning of the events has spent no more than all of them
  pub spent_grows : (es fs : List Event) → spent es memory bank ≤ spent (es ++ fs) memory bank
  spent_grows es fs =
      let d = subst (λ (rs : List ℕ). distinct_count nat_eq (rows_read es memory bank) ≤ distinct_count nat_eq rs) (sym (rows_of_both es fs))
      (distinct_grows (rows_read es memory bank) (rows_read fs memory bank)) in
      let w = writes_of_both es fs in
      omega (arith, d, w)

-- A step.

not_beyond : (ports so_far all : ℕ) → so_far ≤ all → all ≤ ports → nat_lt ports so_far ≡ false
not_beyond ports so_far all l k = grind (arith, nat_tests)

-- no access is beyond the ports, where all events of the step keep them
pub not_stuck : (table : List MemEntry) (rest before : List Event)
    → ((memory bank : ℕ) → spent (before ++ rest) memory bank ≤ ports_at table memory)
    → (memory bank : ℕ) (place : Place) → stop_after table before rest ≡ Some (Stuck memory bank place) → ⊥
not_stuck table [] before keeps memory bank place e = cc
not_stuck table (reads number at path s ∷ es) before keeps memory bank place e =
    by (spends_beyond table (before ++ reads number at path s ∷ []) s)
    (not_beyond (ports_at table s.memory) _ _ (spent_grows s.memory s.bank (before ++ reads number at path s ∷ []) es) (further s.memory s.bank))
    (not_stuck table es (before ++ reads number at path s ∷ []) further memory bank place) e
  where
    further : (m b : ℕ) → spent ((before ++ reads number at path s ∷ []) ++ es) m b ≤ ports_at table m
    further m b = subst (λ (l : List Event). spent l m b ≤ ports_at table m) (sym (append_assoc before (reads number at path s ∷ []) es)) (keeps m b)

    by : (beyond : Bool) → beyond ≡ false → (stop_after table (before ++ reads number at path s ∷ []) es ≡ Some (Stuck memory bank place) → ⊥)
        → (if beyond then Some (Stuck s.memory s.bank at) else stop_after table (before ++ reads number at path s ∷ []) es) ≡ Some (Stuck memory bank place) → ⊥
    by true n more h = cc
    by false n more h = more h
not_stuck table (writes number at path s value ∷ es) before keeps memory bank place e =
    by (spends_beyond table (before ++ writes number at path s value ∷ []) s)
    (not_beyond (ports_at table s.memory) _ _ (spent_grows s.memory s.bank (before ++ writes number at path s value ∷ []) es) (further s.memory s.bank))
    (not_stuck table es (before ++ writes number at path s value ∷ []) further memory bank place) e
  where
    further : (m b : ℕ) → spent ((before ++ writes number at path s value ∷ []) ++ es) m b ≤ ports_at table m
    further m b = subst (λ (l : List Event). spent l m b ≤ ports_at table m) (sym (append_assoc before (writes number at path s value ∷ []) es)) (keeps m b)

    by : (beyond : Bool) → beyond ≡ false → (stop_after table (before ++ writes number at path s value ∷ []) es ≡ Some (Stuck memory bank place) → ⊥)
        → (if beyond then Some (Stuck s.memory s.bank at) else stop_after table (before ++ writes number at path s value ∷ []) es) ≡ Some (Stuck memory bank place) → ⊥
    by true n more h = cc
    by false n more h = more h
not_stuck table (faults number at path kind ∷ es) before keeps memory bank place e = cc

-- A run.

some_same : (a b : Outcome) → a ≡ b → Some a ≡ Some b
some_same a b e = ap (λ o. Some o) e

-- a place alone makes no run stuck
place_going : (p : run.RunPlace) (memory bank : ℕ) (place : Place) → run.outcome_at p ≡ Stuck memory bank place → ⊥
place_going run.ended memory bank place e = cc
place_going (run.at paths block k) memory bank place e = cc

module _ (c : CoreProgram) (memories : List (List ℕ)) (keeps : StepsKeepPorts c memories) where
  abbrev IsStuck : RunState → Type 0
  IsStuck s = (memory : ℕ) × ((bank : ℕ) × ((place : Place) × (s.outcome ≡ Stuck memory bank place)))

  -- a step from where a run is not stuck
  step_free : (s : RunState)
      → (s.outcome ≡ Going → (memory bank : ℕ) → spent (step_effect c.table s).events memory bank ≤ ports_at c.table memory)
      → (IsStuck s → ⊥) → (memory bank : ℕ) (place : Place) → (run.next_state c.table s).outcome ≡ Stuck memory bank place → ⊥
  step_free s keep free memory bank place e = by s.outcome refl e
    where
      stops : (o : Option Outcome) → (o ≡ Some (Stuck memory bank place) → ⊥) → (state_after c.table s (step_effect c.table s) o).outcome ≡ Stuck memory bank place → ⊥
      stops None none_stuck h = place_going _ memory bank place h
      stops (Some outcome) some_stuck h = some_stuck (some_same outcome (Stuck memory bank place) h)

      by : (o : Outcome) → s.outcome ≡ o → (step_from c.table s o).outcome ≡ Stuck memory bank place → ⊥
      by Going o_is h =
          stops (stop_after c.table [] (step_effect c.table s).events)
          (not_stuck c.table (step_effect c.table s).events [] (keep o_is) memory bank place) h
      by Ended o_is h = free (memory, (bank, (place, h)))
      by (Faulted kind at) o_is h = free (memory, (bank, (place, h)))
      by (Stuck m b at) o_is h = free (memory, (bank, (place, h)))

  free_upto : (n : ℕ) → IsStuck (run_state c memories n) → ⊥
  free_upto zero (memory, (bank, (place, e))) = place_going _ memory bank place e
  free_upto (suc n) (memory, (bank, (place, e))) = step_free (run_state c memories n) (keeps n) (free_upto n) memory bank place e

-- no run whose steps keep the ports is stuck
pub never_stuck : (c : CoreProgram) (memories : List (List ℕ)) → StepsKeepPorts c memories
    → (n : ℕ) (memory bank : ℕ) (place : Place) → (run_state c memories n).outcome ≡ Stuck memory bank place → ⊥
never_stuck c memories keeps n memory bank place e = free_upto c memories keeps n (memory, (bank, (place, e)))

-- By where a run stands, its steps keep the ports if the blocks of the program do.

no_more : (ports : ℕ) → 0 ≤ ports
no_more ports = omega arith

pub steps_keep_ports : (c : CoreProgram) → KeepsIterators c → BlocksKeepPorts c → (memories : List (List ℕ)) → StepsKeepPorts c memories
steps_keep_ports c is keep memories n going memory bank =
    by (run_state c memories n).place (run_state c memories n).variables (run_state c memories n).memories (run_stands c is memories n)
  where
    by : (place : run.RunPlace) (variables : Variables) (contents : List (List ℕ)) → IsPlaceInTurn c place variables
        → spent (run.place_run (record { table = c.table; memories = contents }) place (record { variables = variables; events = [] })).events memory bank
        ≤ ports_at c.table memory
    by run.ended variables contents s = no_more (ports_at c.table memory)
    by (run.at paths b k) variables contents s =
        subst
        (λ (ps : List Path). spent (block_run (record { table = c.table; memories = contents }) ps b (record { variables = variables; events = [] })).events memory bank
        ≤ ports_at c.table memory)
        (sym s.copies) (keep.within s.loops b s.block contents variables s.turns memory bank)

-- no run of a program whose blocks keep the ports is stuck
pub blocks_never_stuck : (c : CoreProgram) → KeepsIterators c → BlocksKeepPorts c
    → (memories : List (List ℕ)) (n : ℕ) (memory bank : ℕ) (place : Place) → (run_state c memories n).outcome ≡ Stuck memory bank place → ⊥
blocks_never_stuck c is keep memories = never_stuck c memories (steps_keep_ports c is keep memories)

-- Phases in which nothing is written: no key of theirs is known, so that no claim in them has to be looked for.
use Rattle.std.proofs.Common.{◌≡◌, ℕ, zero, suc, ◌-◌, ◌≤◌, ◌==◌, Bool, true, false, if◌then◌else◌, List, [], ◌∷◌, ◌++◌, length, map, refl, ap, sym, ◌∙◌, arith, inl, inr}
use Rattle.std.specs.Prelude.{Option, Some, None, slice_get, slice_index}
use Rattle.std.proofs.lemmas.Bool.{eq-eqb, eqb-true}
use Rattle.dh_tree.specs.declared.breaches.Breach.{Breach}
use Rattle.dh_tree.specs.LeastBreach.{least_of}
use Rattle.dh_events.specs.declared.classes.Key.{Key}
use Rattle.dh_events.specs.declared.events.Event.{Event}
use Rattle.dh_events.specs.declared.events.Event.TheVariants as event
use Rattle.dh_events.specs.Classes.{NumbersKey}
use Rattle.dh_events.specs.Noted.{all_seen}
use Rattle.dh_events.specs.Tables.{table_at, with_number}
use Rattle.dh_ports.specs.declared.levels.Levels.{Levels}
use Rattle.dh_ports.specs.declared.levels.Step.{Step}
use Rattle.dh_ports.specs.declared.levels.Step.TheVariants as step
use Rattle.dh_ports.specs.declared.moves.Move.{Move}
use Rattle.dh_ports.specs.declared.moves.Move.TheVariants as move
use Rattle.dh_ports.specs.declared.moves.Run.{Run}
use Rattle.dh_ports.specs.Levels.{advance, left_before, left_before_each, level_at, LevelsKept}
use Rattle.dh_ports.specs.Orders.{is_quiet_at, is_quiet_move, order_of, order_step, slot_in, step_in, AreMarked}
use Rattle.dh_ports.specs.Passing.{late_from, KeepsTo}
use Rattle.dh_ports.specs.Runs.{at_slot, moves_of_run, moves_in_row, claimed_slot}
use Rattle.dh_ports.specs.Scanned.{all_late, bank_key, is_late, late_at, move_place, take_of}
use Rattle.dh_ports.proofs.LateWalk.{slot_found}

absurd : {A : Type 0} → ⊥ → A
absurd e = elim e [ ]

-- Marks.

-- no key is known at first
pub none_marked : (known : List Key) (marked : List ℕ) → known ≡ [] → AreMarked known marked
none_marked known marked none n k e = absurd (nothing k (ap (λ (l : List Key). slice_get l n) (sym none) ∙ e))
  where
    nothing : (k : Key) → ◌≡◌ {A = Option Key} None (Some k) → ⊥
    nothing k e = cc

-- one key more, whose phase is marked
pub marked_more : (old new : List Key) (before after : List ℕ) (phase slot : ℕ) (key : Key) → key.phase ≡ phase → table_at after ≡ with_number (table_at before) phase 1 → NumbersKey old new key slot → AreMarked old before → AreMarked new after
marked_more old new before after phase slot key is set numbers marked n k at =
    ap (λ (f : ℕ → ℕ). f k.phase) set
    ∙ (elim (numbers.only n k at) [
      | inl e ↦ either (phase == k.phase) (marked n k e)
      | inr e ↦ ap (λ b. if b then 1 else table_at before k.phase) (eq-eqb phase k.phase (sym (ap (λ (x : Key). x.phase) e ∙ is)))
    ])
  where
    either : (b : Bool) → table_at before k.phase ≡ 1 → (if b then 1 else table_at before k.phase) ≡ 1
    either true e = refl
    either false e = e

-- Events that are there, and that are not.

pub quiet_past : (marked : List ℕ) (events : List Event) (i : ℕ) → length events ≤ i → false ≡ is_quiet_at marked (slice_get events i)
quiet_past marked events i past = ap (is_quiet_at marked) (sym (none_there events i past))
  where
    none : (n i : ℕ) → suc n ≤ i → i ≡ 0 → ⊥
    none n i e f = omega (arith, e, f)

    less : (m n : ℕ) → suc m ≤ suc n → m ≤ n
    less m n e = omega (arith, e)

    none_there : (es : List Event) (i : ℕ) → length es ≤ i → slice_get es i ≡ None
    none_there [] zero past = refl
    none_there [] (suc i) past = refl
    none_there (e ∷ es) zero past = absurd (none (length es) 0 past refl)
    none_there (e ∷ es) (suc i) past = none_there es i (less (length es) i past)

-- Steps.

module _ (known : List Key) (marked : List ℕ) (events : List Event) (are : AreMarked known marked) where
  none_known : (phase bank : ℕ) → (slice_index marked phase == 0) ≡ true → slot_in known (bank_key phase bank) ≡ None
  none_known phase bank quiet = by_slot (slot_in known (bank_key phase bank)) refl
    where
      apart : (n : ℕ) → n ≡ 1 → n ≡ 0 → ⊥
      apart n e f = omega (arith, e, f)

      by_slot : (o : Option ℕ) → slot_in known (bank_key phase bank) ≡ o → o ≡ None
      by_slot None e = refl
      by_slot (Some slot) e = absurd (apart (slice_index marked phase) (are slot (bank_key phase bank) (slot_found known (bank_key phase bank) slot e)) (eqb-true (slice_index marked phase) 0 quiet))

  quiet_event : (o : Option Event) (bank : ℕ) → is_quiet_at marked o ≡ true → order_of known o bank ≡ step.Other
  quiet_event None bank e = refl
  quiet_event (Some (event.Touch writes phase round access element newest)) bank e = ap (λ o. step_in o (take_of writes)) (none_known phase bank e)
  quiet_event (Some (event.Assigned entity)) bank e = refl
  quiet_event (Some event.ArmBegins) bank e = refl
  quiet_event (Some event.ArmEnds) bank e = refl
  quiet_event (Some event.Begins) bank e = refl
  quiet_event (Some event.Next) bank e = refl
  quiet_event (Some event.Ends) bank e = refl

  quiet_step : (m : Move) → is_quiet_move marked events m ≡ true → (slot : ℕ) → order_step known events (at_slot m slot) ≡ step.Other
  quiet_step (move.Claim e first keys) quiet slot = quiet_event (slice_get events e) slot quiet
  quiet_step move.Begin quiet slot = absurd (never quiet)
    where
      never : ◌≡◌ {A = Bool} false true → ⊥
      never e = cc
  quiet_step move.Next quiet slot = absurd (never quiet)
    where
      never : ◌≡◌ {A = Bool} false true → ⊥
      never e = cc
  quiet_step move.End quiet slot = absurd (never quiet)
    where
      never : ◌≡◌ {A = Bool} false true → ⊥
      never e = cc

  -- what is late from a move on, whose step is this one
  abbrev passed : (old : Levels) (m : Move) (s : Step) (rest : List Move) → List Breach
  passed old m s rest =
      if is_late s (left_before s (λ k. level_at old k))
      then late_at (move_place (all_seen events) m) ++ all_late (all_seen events) rest (map (order_step known events) rest) (left_before_each (λ k. advance k s (level_at old k)) (map (order_step known events) rest))
      else all_late (all_seen events) rest (map (order_step known events) rest) (left_before_each (λ k. advance k s (level_at old k)) (map (order_step known events) rest))

  quiet_row : (old : Levels) (m : Move) → ((slot : ℕ) → order_step known events (at_slot m slot) ≡ step.Other) → (slot many : ℕ) (rest : List Move) → late_from known events old (moves_in_row m slot many ++ rest) ≡ late_from known events old rest
  quiet_row old m all slot zero rest = refl
  quiet_row old m all slot (suc many) rest = ap (λ s. passed old (at_slot m slot) s (moves_in_row m (suc slot) many ++ rest)) (all slot) ∙ quiet_row old m all (suc slot) many rest

  -- a run of claims in a phase that is not marked keeps all
  pub quiet_keeps : (kept : Option Breach) (old : Levels) (r : Run) (b : Bool) → LevelsKept old → b ≡ is_quiet_move marked events r.first → b ≡ true → KeepsTo known events kept old (moves_of_run r) kept old
  quiet_keeps kept old r b is_kept told quiet = record {
    kept = is_kept;
    late = λ rest. ap (least_of kept) (sym (quiet_row old r.first (quiet_step r.first (sym told ∙ quiet)) (claimed_slot r.first) (r.end - claimed_slot r.first) rest));
  }

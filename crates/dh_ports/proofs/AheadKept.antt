-- Where no read comes behind a write of its bank in its phase, none finds that nothing is left.
use Rattle.std.proofs.Common.{◌≡◌, ℕ, zero, suc, ◌-◌, ◌<◌, ◌≤◌, ◌==◌, Bool, true, false, if◌then◌else◌, List, [], ◌∷◌, ◌++◌, length, map, replicate, refl, ap, sym, ◌∙◌, subst, arith, ◌⊎◌, inl, inr}
use Rattle.std.specs.Prelude.{Option, Some, None, slice_get, slice_index}
use Rattle.std.specs.List.{AllByRecursion}
use Rattle.std.proofs.Math.Nat.{le-min}
use Rattle.std.proofs.lemmas.Bool.{cases_Bool, eqb-true}
use Rattle.std.proofs.lemmas.List.{get_or-replicate}
use Rattle.std.proofs.lemmas.Option.{slice_get_within}
use Rattle.dh_tree.specs.declared.breaches.Breach.{Breach}
use Rattle.dh_tree.specs.LeastBreach.{least_of}
use Rattle.dh_events.specs.declared.classes.Key.{Key}
use Rattle.dh_events.specs.declared.events.Event.{Event}
use Rattle.dh_events.specs.declared.events.Event.TheVariants as event
use Rattle.dh_events.specs.Classes.{KeysAreDistinct}
use Rattle.dh_events.specs.Noted.{all_seen}
use Rattle.dh_ports.specs.declared.levels.Step.{Step}
use Rattle.dh_ports.specs.declared.levels.Step.TheVariants as step
use Rattle.dh_ports.specs.declared.moves.Move.{Move}
use Rattle.dh_ports.specs.declared.moves.Move.TheVariants as move
use Rattle.dh_ports.specs.Ahead.{AreAhead, IsWriteAt, NoneReads}
use Rattle.dh_ports.specs.Levels.{Floor, Level, advance, begun, kept_back, left_before, left_before_each, slot_level, settled_slot_level, settled_in, start, taken}
use Rattle.dh_ports.specs.Orders.{order_of, order_step, slot_in, step_in}
use Rattle.dh_ports.specs.Scanned.{all_late, bank_key, is_late, late_at, move_place, take_of, IsMoveOf, IsNotedClaim, IsNotedFor, IsReadAt, IsWritten, KeepsLate}
use Rattle.dh_ports.proofs.LateWalk.{slot_found, slot_none}
use Rattle.dh_ports.proofs.RunTurns.{keeps_late}

absurd : {A : Type 0} → ⊥ → A
absurd e = elim e [ ]

some_same : {A : Type 0} (x y : A) → Some x ≡ Some y → x ≡ y
some_same x y e = cc

-- The keys of the banks that are written, without repeats.

abbrev key_at : Option Event → (bank : ℕ) → Option Key
key_at None bank = None
key_at (Some (event.Touch true phase round access element newest)) bank = Some (bank_key phase bank)
key_at (Some (event.Touch false phase round access element newest)) bank = None
key_at (Some (event.Assigned entity)) bank = None
key_at (Some event.ArmBegins) bank = None
key_at (Some event.ArmEnds) bank = None
key_at (Some event.Begins) bank = None
key_at (Some event.Next) bank = None
key_at (Some event.Ends) bank = None

abbrev key_of : List Event → Move → Option Key
key_of events (move.Claim e bank keys) = key_at (slice_get events e) bank
key_of events move.Begin = None
key_of events move.Next = None
key_of events move.End = None

abbrev added_at : Option ℕ → Key → List Key → List Key
added_at None k ks = k ∷ ks
added_at (Some slot) k ks = ks

abbrev added : Option Key → List Key → List Key
added None ks = ks
added (Some k) ks = added_at (slot_in ks k) k ks

abbrev keys_in : List Event → List Move → List Key
keys_in events [] = []
keys_in events (m ∷ ms) = added (key_of events m) (keys_in events ms)

abbrev Has : List Key → Key → Type 0
Has ks k = (slot : ℕ) × (slice_get ks slot ≡ Some k)

distinct_first : (k : Key) (ks : List Key) → ((n : ℕ) → slice_get ks n ≡ Some k → ⊥) → KeysAreDistinct ks → (m n : ℕ) (x : Key) → slice_get (k ∷ ks) m ≡ Some x → slice_get (k ∷ ks) n ≡ Some x → m ≡ n
distinct_first k ks none d zero zero x e f = refl
distinct_first k ks none d zero (suc n) x e f = absurd (none n (f ∙ sym e))
distinct_first k ks none d (suc m) zero x e f = absurd (none m (e ∙ sym f))
distinct_first k ks none d (suc m) (suc n) x e f = ap suc (d m n x e f)

distinct_added : (o : Option Key) (ks : List Key) → KeysAreDistinct ks → KeysAreDistinct (added o ks)
distinct_added None ks d = d
distinct_added (Some k) ks d = by_slot (slot_in ks k) refl
  where
    by_slot : (o : Option ℕ) → slot_in ks k ≡ o → KeysAreDistinct (added_at o k ks)
    by_slot None e = distinct_first k ks (slot_none ks k e) d
    by_slot (Some slot) e = d

distinct_all : (events : List Event) (ms : List Move) → KeysAreDistinct (keys_in events ms)
distinct_all events [] = λ m n k e f. absurd (nothing k e)
  where
    nothing : (k : Key) → ◌≡◌ {A = Option Key} None (Some k) → ⊥
    nothing k e = cc
distinct_all events (m ∷ ms) = distinct_added (key_of events m) (keys_in events ms) (distinct_all events ms)

has_still : (o : Option Key) (ks : List Key) (k : Key) → Has ks k → Has (added o ks) k
has_still None ks k h = h
has_still (Some x) ks k h = by_slot (slot_in ks x)
  where
    by_slot : (o : Option ℕ) → Has (added_at o x ks) k
    by_slot None = (suc h.0, h.1)
    by_slot (Some slot) = h

has_added : (ks : List Key) (k : Key) → Has (added (Some k) ks) k
has_added ks k = by_slot (slot_in ks k) refl
  where
    by_slot : (o : Option ℕ) → slot_in ks k ≡ o → Has (added_at o k ks) k
    by_slot None e = (0, refl)
    by_slot (Some slot) e = (slot, slot_found ks k slot e)

event_there : (es : List Event) (i : ℕ) → i < length es → slice_get es i ≡ None → ⊥
event_there [] i inside e = none i inside
  where
    none : (n : ℕ) → n < 0 → ⊥
    none n e = omega (arith, e)
event_there (x ∷ es) zero inside e = cc
event_there (x ∷ es) (suc i) inside e = event_there es i (less i (length es) inside) e
  where
    less : (m n : ℕ) → suc m < suc n → m < n
    less m n e = omega (arith, e)

noted_at : (known : List Key) (bank : ℕ) (o : Option Event) → (o ≡ None → ⊥) → ((k : Key) → key_at o bank ≡ Some k → Has known k) → IsWritten known o bank
noted_at known bank None there has = there refl
noted_at known bank (Some (event.Touch true phase round access element newest)) there has = has (bank_key phase bank) refl
noted_at known bank (Some (event.Touch false phase round access element newest)) there has = tt
noted_at known bank (Some (event.Assigned entity)) there has = tt
noted_at known bank (Some event.ArmBegins) there has = tt
noted_at known bank (Some event.ArmEnds) there has = tt
noted_at known bank (Some event.Begins) there has = tt
noted_at known bank (Some event.Next) there has = tt
noted_at known bank (Some event.Ends) there has = tt

noted_one : (events : List Event) (known : List Key) (m : Move) → IsMoveOf (length events) m → ((k : Key) → key_of events m ≡ Some k → Has known k) → IsNotedClaim known events m
noted_one events known (move.Claim e bank keys) within has = noted_at known bank (slice_get events e) (event_there events e within) has
noted_one events known move.Begin within has = tt
noted_one events known move.Next within has = tt
noted_one events known move.End within has = tt

noted_all : (events : List Event) (known : List Key) (ms : List Move) → AllByRecursion (IsMoveOf (length events)) ms → ((k : Key) → Has (keys_in events ms) k → Has known k) → AllByRecursion (IsNotedFor known events) ms
noted_all events known [] within up = tt
noted_all events known (m ∷ ms) within up = (
  λ read. noted_one events known m within.0 (λ k is. up k (subst (λ (o : Option Key). Has (added o (keys_in events ms)) k) (sym is) (has_added (keys_in events ms) k))),
  noted_all events known ms within.1 (λ k h. up k (has_still (key_of events m) (keys_in events ms) k h)),
)

-- Levels of which nothing was taken.

abbrev AreFree : List Floor → Type 0
AreFree [] = Unit {0}
AreFree (f ∷ fs) = ((1 ≤ f.base) × (1 ≤ f.low)) × AreFree fs

record IsFree (l : Level) : Type 0 where
  pub now : 1 ≤ l.now
  pub base : 1 ≤ l.base
  pub low : 1 ≤ l.low
  pub outer : AreFree l.outer

free_start : IsFree (start 1)
free_start = record { now = one; base = one; low = one; outer = tt }
  where
    one : 1 ≤ 1
    one = omega arith

free_begun : (l : Level) → IsFree l → IsFree (begun l)
free_begun l h = record { now = h.now; base = h.now; low = h.now; outer = ((h.base, h.low), h.outer) }

free_back : (l : Level) → IsFree l → IsFree (kept_back l)
free_back l h = record { now = h.base; base = h.base; low = le-min h.low h.now; outer = h.outer }

free_settled_in : (l : Level) (fs : List Floor) → IsFree l → AreFree fs → IsFree (settled_in l fs)
free_settled_in l [] h g = h
free_settled_in l (f ∷ fs) h g = record { now = h.low; base = g.0.0; low = g.0.1; outer = g.1 }

free_settled : (l : Level) → IsFree l → IsFree (settled_slot_level l)
free_settled l h = free_settled_in l l.outer h h.outer

-- a look takes nothing
free_looked : (slot other : ℕ) (l : Level) → IsFree l → IsFree (taken slot 0 other l)
free_looked slot other l h = by_test (slot == other)
  where
    less_none : (n : ℕ) → 1 ≤ n → 1 ≤ n - 0
    less_none n e = omega (arith, e)

    by_test : (b : Bool) → IsFree (if b then slot_level (l.now - 0) l.base l.low l.outer else l)
    by_test true = record { now = less_none l.now h.now; base = h.base; low = h.low; outer = h.outer }
    by_test false = h

-- The walk.

module _ (events : List Event) (known : List Key) where
  -- of each key nothing was taken, or no read of its bank in its phase is to come
  abbrev Free : List Move → (ℕ → Level) → Type 0
  Free ms levels = (slot : ℕ) (k : Key) → slice_get known slot ≡ Some k → IsFree (levels slot) ⊎ NoneReads events k.phase k.element ms

  abbrev step_of : Move → Step
  step_of m = order_step known events m

  abbrev behind : Move → (ℕ → Level) → ℕ → Level
  behind m levels k = advance k (step_of m) (levels k)

  module _ (m : Move) (ms : List Move) (levels : ℕ → Level) (free : Free (m ∷ ms) levels) where
    -- no read is late

    look_at : (e bank keys phase slot : ℕ) → m ≡ move.Claim e bank keys → (slice_get known slot ≡ Some (bank_key phase bank)) → (NoneReads events phase bank (m ∷ ms) → ⊥) → ((levels slot).now == 0) ≡ false
    look_at e bank keys phase slot is there read = by_test (cases_Bool ((levels slot).now == 0))
      where
        apart : (n : ℕ) → n ≡ 0 → 1 ≤ n → ⊥
        apart n e f = omega (arith, e, f)

        by_test : (((levels slot).now == 0) ≡ true) ⊎ (((levels slot).now == 0) ≡ false) → ((levels slot).now == 0) ≡ false
        by_test (inl f) = absurd (elim (free slot (bank_key phase bank) there) [ inl h ↦ apart (levels slot).now (eqb-true (levels slot).now 0 f) h.now | inr none ↦ read none ])
        by_test (inr f) = f

    not_late_at : (e bank keys : ℕ) → m ≡ move.Claim e bank keys → (o : Option Event) → slice_get events e ≡ o → is_late (order_of known o bank) (left_before (order_of known o bank) levels) ≡ false
    not_late_at e bank keys is None at = refl
    not_late_at e bank keys is (Some (event.Touch true phase round access element newest)) at = by_slot (slot_in known (bank_key phase bank))
      where
        by_slot : (o : Option ℕ) → is_late (step_in o (take_of true)) (left_before (step_in o (take_of true)) levels) ≡ false
        by_slot None = refl
        by_slot (Some slot) = refl
    not_late_at e bank keys is (Some (event.Touch false phase round access element newest)) at = by_slot (slot_in known (bank_key phase bank)) refl
      where
        reads : NoneReads events phase bank (m ∷ ms) → ⊥
        reads none = (subst (λ (x : Move). NoneReads events phase bank (x ∷ ms)) is none).0 (subst (λ (o : Option Event). IsReadAt o phase) (sym at) refl, refl)

        by_slot : (o : Option ℕ) → slot_in known (bank_key phase bank) ≡ o → is_late (step_in o (take_of false)) (left_before (step_in o (take_of false)) levels) ≡ false
        by_slot None f = refl
        by_slot (Some slot) f = look_at e bank keys phase slot is (slot_found known (bank_key phase bank) slot f) reads
    not_late_at e bank keys is (Some (event.Assigned entity)) at = refl
    not_late_at e bank keys is (Some event.ArmBegins) at = refl
    not_late_at e bank keys is (Some event.ArmEnds) at = refl
    not_late_at e bank keys is (Some event.Begins) at = refl
    not_late_at e bank keys is (Some event.Next) at = refl
    not_late_at e bank keys is (Some event.Ends) at = refl

    not_late : (x : Move) → m ≡ x → is_late (step_of x) (left_before (step_of x) levels) ≡ false
    not_late (move.Claim e bank keys) is = not_late_at e bank keys is (slice_get events e) refl
    not_late move.Begin is = refl
    not_late move.Next is = refl
    not_late move.End is = refl

    -- and the rest stays so

    module _ (ahead : AreAhead events (m ∷ ms)) (slot : ℕ) (k : Key) (stands : slice_get known slot ≡ Some k) (is_free : IsFree (levels slot)) where
      abbrev Stays : Step → Type 0
      Stays s = IsFree (advance slot s (levels slot)) ⊎ NoneReads events k.phase k.element ms

      stays_written : (e bank keys phase other : ℕ) → m ≡ move.Claim e bank keys → slice_get known other ≡ Some (bank_key phase bank) → NoneReads events phase bank ms → Stays (step.Access other 1)
      stays_written e bank keys phase other is at none = by_test (cases_Bool (other == slot))
        where
          by_test : ((other == slot) ≡ true) ⊎ ((other == slot) ≡ false) → IsFree (if other == slot then slot_level ((levels slot).now - 1) (levels slot).base (levels slot).low (levels slot).outer else levels slot) ⊎ NoneReads events k.phase k.element ms
          by_test (inl f) =
              let same = some_same (bank_key phase bank) k (sym at ∙ (ap (slice_get known) (eqb-true other slot f) ∙ stands)) in
              inr (subst (λ (x : Key). NoneReads events x.phase x.element ms) same none)
          by_test (inr f) = inl (subst (λ (b : Bool). IsFree (if b then slot_level ((levels slot).now - 1) (levels slot).base (levels slot).low (levels slot).outer else levels slot)) (sym f) is_free)

      stays_at : (e bank keys : ℕ) → m ≡ move.Claim e bank keys → (o : Option Event) → slice_get events e ≡ o → Stays (order_of known o bank)
      stays_at e bank keys is None at = inl is_free
      stays_at e bank keys is (Some (event.Touch true phase round access element newest)) at = by_slot (slot_in known (bank_key phase bank)) refl
        where
          none : NoneReads events phase bank ms
          none = (subst (λ (x : Move). AreAhead events (x ∷ ms)) is ahead).0 phase bank (subst (λ (o : Option Event). IsWriteAt o phase) (sym at) refl, refl)

          by_slot : (o : Option ℕ) → slot_in known (bank_key phase bank) ≡ o → Stays (step_in o (take_of true))
          by_slot None f = inl is_free
          by_slot (Some other) f = stays_written e bank keys phase other is (slot_found known (bank_key phase bank) other f) none
      stays_at e bank keys is (Some (event.Touch false phase round access element newest)) at = by_slot (slot_in known (bank_key phase bank))
        where
          by_slot : (o : Option ℕ) → Stays (step_in o (take_of false))
          by_slot None = inl is_free
          by_slot (Some other) = inl (free_looked other slot (levels slot) is_free)
      stays_at e bank keys is (Some (event.Assigned entity)) at = inl is_free
      stays_at e bank keys is (Some event.ArmBegins) at = inl is_free
      stays_at e bank keys is (Some event.ArmEnds) at = inl is_free
      stays_at e bank keys is (Some event.Begins) at = inl is_free
      stays_at e bank keys is (Some event.Next) at = inl is_free
      stays_at e bank keys is (Some event.Ends) at = inl is_free

      stays : (x : Move) → m ≡ x → Stays (step_of x)
      stays (move.Claim e bank keys) is = stays_at e bank keys is (slice_get events e) refl
      stays move.Begin is = inl (free_begun (levels slot) is_free)
      stays move.Next is = inl (free_back (levels slot) is_free)
      stays move.End is = inl (free_settled (kept_back (levels slot)) (free_back (levels slot) is_free))

    free_next : AreAhead events (m ∷ ms) → Free ms (behind m levels)
    free_next ahead = λ slot k stands. elim (free slot k stands) [ inl is_free ↦ stays ahead slot k stands is_free m refl | inr none ↦ inr none.1 ]

  abbrev tested : Move → List Move → (ℕ → Level) → Bool → List Breach
  tested m ms levels b =
      if b then late_at (move_place (all_seen events) m) ++ all_late (all_seen events) ms (map (order_step known events) ms) (left_before_each (behind m levels) (map (order_step known events) ms))
      else all_late (all_seen events) ms (map (order_step known events) ms) (left_before_each (behind m levels) (map (order_step known events) ms))

  none_late : (ms : List Move) (levels : ℕ → Level) → AreAhead events ms → Free ms levels → ◌≡◌ {A = List Breach} [] (all_late (all_seen events) ms (map (order_step known events) ms) (left_before_each levels (map (order_step known events) ms)))
  none_late [] levels ahead free = refl
  none_late (m ∷ ms) levels ahead free = none_late ms (behind m levels) ahead.1 (free_next m ms levels free ahead) ∙ sym (ap (tested m ms levels) (not_late m ms levels free m refl))

  free_first : (ms : List Move) → Free ms (λ s. start (slice_index (replicate (length known) 1) s))
  free_first ms = λ slot k stands. inl (subst (λ (n : ℕ). IsFree (start n)) (sym (get_or-replicate (length known) slot 1 0 (slice_get_within known slot k stands))) free_start)

pub ahead_keeps : (events : List Event) (ms : List Move) (kept : Option Breach) → AllByRecursion (IsMoveOf (length events)) ms → AreAhead events ms → KeepsLate events ms kept kept
ahead_keeps events ms kept within ahead =
    keeps_late (keys_in events ms) events ms kept kept (replicate (length (keys_in events ms)) 1) (distinct_all events ms) within (noted_all events (keys_in events ms) ms within (λ k h. h)) refl
    (ap (λ (l : List Breach). least_of kept l) (none_late events (keys_in events ms) ms (λ s. start (slice_index (replicate (length (keys_in events ms)) 1) s)) ahead (free_first events (keys_in events ms) ms)))

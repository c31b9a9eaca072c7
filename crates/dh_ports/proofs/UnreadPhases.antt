-- Phases in which nothing is read: no key of a write in them has to be numbered.
use Rattle.std.proofs.Common.{◌≡◌, ℕ, zero, suc, ◌+◌, ◌-◌, ◌<◌, ◌≤◌, ◌==◌, Bool, true, false, if◌then◌else◌, List, [], ◌∷◌, length, drop, get_or, refl, ap, sym, ◌∙◌, subst, arith, ◌⊎◌, inl, inr}
use Rattle.std.specs.Prelude.{Option, Some, None, slice_get, slice_index}
use Rattle.std.specs.List.{AllByRecursion}
use Rattle.std.proofs.lemmas.Bool.{eq-eqb, eqb-true}
use Rattle.std.proofs.lemmas.List.{drop_all}
use Rattle.dh_events.specs.declared.classes.Key.{Key}
use Rattle.dh_events.specs.declared.events.Event.{Event}
use Rattle.dh_events.specs.declared.events.Event.TheVariants as event
use Rattle.dh_events.specs.Classes.{ExtendsKeys}
use Rattle.dh_events.specs.Tables.{table_at}
use Rattle.dh_events.proofs.Turns.{at_place}
use Rattle.dh_ports.specs.declared.moves.Move.{Move}
use Rattle.dh_ports.specs.declared.moves.Move.TheVariants as move
use Rattle.dh_ports.specs.declared.moves.Run.{Run}
use Rattle.dh_ports.specs.Orders.{is_quiet_at, is_quiet_move, AreRead, MarksRead, ReadSoFar}
use Rattle.dh_ports.specs.Runs.{at_slot, moves_in, moves_of_run, moves_in_row, claimed_slot}
use Rattle.dh_ports.specs.Scanned.{move_phase, event_phase, HasRead, IsNotedClaim, IsNotedFor, IsReadAt}
use Rattle.dh_ports.proofs.RunTurns.{all_both, extends_both, extends_none, runs_at}
use Rattle.dh_ports.proofs.ScanTurns.{noted_still}

absurd : {A : Type 0} → ⊥ → A
absurd e = elim e [ ]

never : ◌≡◌ {A = Bool} false true → ⊥
never e = cc

-- Marks.

marks_kept : (old new : List ℕ) (e : Event) → MarksRead old new e → (phase : ℕ) → slice_index old phase ≡ 1 → slice_index new phase ≡ 1
marks_kept old new (event.Touch true phase round access element newest) m p h = ap (λ (f : ℕ → ℕ). f p) m ∙ h
marks_kept old new (event.Touch false phase round access element newest) m p h = ap (λ (f : ℕ → ℕ). f p) m ∙ either (phase == p)
  where
    either : (b : Bool) → (if b then 1 else table_at old p) ≡ 1
    either true = refl
    either false = h
marks_kept old new (event.Assigned entity) m p h = ap (λ (f : ℕ → ℕ). f p) m ∙ h
marks_kept old new event.ArmBegins m p h = ap (λ (f : ℕ → ℕ). f p) m ∙ h
marks_kept old new event.ArmEnds m p h = ap (λ (f : ℕ → ℕ). f p) m ∙ h
marks_kept old new event.Begins m p h = ap (λ (f : ℕ → ℕ). f p) m ∙ h
marks_kept old new event.Next m p h = ap (λ (f : ℕ → ℕ). f p) m ∙ h
marks_kept old new event.Ends m p h = ap (λ (f : ℕ → ℕ). f p) m ∙ h

marks_read : (old new : List ℕ) (e : Event) → MarksRead old new e → (phase : ℕ) → IsReadAt (Some e) phase → slice_index new phase ≡ 1
marks_read old new (event.Touch true phase round access element newest) m p h = absurd h
marks_read old new (event.Touch false phase round access element newest) m p h = ap (λ (f : ℕ → ℕ). f p) m ∙ ap (λ b. if b then 1 else table_at old p) (eq-eqb phase p h)
marks_read old new (event.Assigned entity) m p h = absurd h
marks_read old new event.ArmBegins m p h = absurd h
marks_read old new event.ArmEnds m p h = absurd h
marks_read old new event.Begins m p h = absurd h
marks_read old new event.Next m p h = absurd h
marks_read old new event.Ends m p h = absurd h

pub read_first : (events : List Event) (marked : List ℕ) → ReadSoFar events events marked
read_first events marked = λ phase has. inr has

pub read_turn : (events : List Event) (i : ℕ) (d : Event) (old new : List ℕ) → i < length events → d ≡ get_or events i d → MarksRead old new d → ReadSoFar events (drop i events) old → ReadSoFar events (drop (i + 1) events) new
read_turn events i d old new inside is noted so = λ phase has. by phase (so phase has)
  where
    marks : MarksRead old new (get_or events i d)
    marks = subst (λ (e : Event). MarksRead old new e) is noted

    of_first : (phase k : ℕ) → IsReadAt (slice_get (get_or events i d ∷ drop (i + 1) events) k) phase → (slice_index new phase ≡ 1) ⊎ HasRead (drop (i + 1) events) phase
    of_first phase zero h = inl (marks_read old new (get_or events i d) marks phase h)
    of_first phase (suc k) h = inr (k, h)

    by : (phase : ℕ) → (slice_index old phase ≡ 1) ⊎ HasRead (drop i events) phase → (slice_index new phase ≡ 1) ⊎ HasRead (drop (i + 1) events) phase
    by phase (inl h) = inl (marks_kept old new (get_or events i d) marks phase h)
    by phase (inr h) = let has = subst (λ (l : List Event). HasRead l phase) (at_place events i d inside) h in of_first phase has.0 has.1

pub read_done : (events : List Event) (i : ℕ) (marked : List ℕ) → length events ≤ i → ReadSoFar events (drop i events) marked → AreRead events marked
read_done events i marked past so = λ phase has. by phase (so phase has)
  where
    nothing : (phase : ℕ) → HasRead [] phase → ⊥
    nothing phase (k, h) = h

    by : (phase : ℕ) → (slice_index marked phase ≡ 1) ⊎ HasRead (drop i events) phase → slice_index marked phase ≡ 1
    by phase (inl h) = h
    by phase (inr h) = absurd (nothing phase (subst (λ (l : List Event). HasRead l phase) (drop_all i events past) h))

-- Runs that are passed over.

module _ (events : List Event) (marked : List ℕ) (are : AreRead events marked) where
  none_read : (o : Option Event) → is_quiet_at marked o ≡ true → HasRead events (event_phase o) → ⊥
  none_read None quiet has = never quiet
  none_read (Some (event.Touch writes phase round access element newest)) quiet has = apart (slice_index marked phase) (are phase has) (eqb-true (slice_index marked phase) 0 quiet)
    where
      apart : (n : ℕ) → n ≡ 1 → n ≡ 0 → ⊥
      apart n e f = omega (arith, e, f)
  none_read (Some (event.Assigned entity)) quiet has = never quiet
  none_read (Some event.ArmBegins) quiet has = never quiet
  none_read (Some event.ArmEnds) quiet has = never quiet
  none_read (Some event.Begins) quiet has = never quiet
  none_read (Some event.Next) quiet has = never quiet
  none_read (Some event.Ends) quiet has = never quiet

  move_unread : (m : Move) → is_quiet_move marked events m ≡ true → (slot : ℕ) → HasRead events (move_phase events (at_slot m slot)) → ⊥
  move_unread (move.Claim e first keys) quiet slot has = none_read (slice_get events e) quiet has
  move_unread move.Begin quiet slot has = never quiet
  move_unread move.Next quiet slot has = never quiet
  move_unread move.End quiet slot has = never quiet

  unread_row : (known : List Key) (m : Move) → ((slot : ℕ) → HasRead events (move_phase events (at_slot m slot)) → ⊥) → (slot many : ℕ) → AllByRecursion (IsNotedFor known events) (moves_in_row m slot many)
  unread_row known m none slot zero = tt
  unread_row known m none slot (suc many) = (λ has. absurd (none slot has), unread_row known m none (suc slot) many)

  pub unread_run : (known : List Key) (r : Run) (b : Bool) → b ≡ is_quiet_move marked events r.first → b ≡ true → AllByRecursion (IsNotedFor known events) (moves_of_run r)
  unread_run known r b told quiet = unread_row known r.first (move_unread r.first (sym told ∙ quiet)) (claimed_slot r.first) (r.end - claimed_slot r.first)

-- Runs whose claims are noted.

pub needed : (known : List Key) (events : List Event) (ms : List Move) → AllByRecursion (IsNotedClaim known events) ms → AllByRecursion (IsNotedFor known events) ms
needed known events [] h = tt
needed known events (m ∷ ms) h = (λ has. h.0, needed known events ms h.1)

-- Whatever keys there come to be: where the rest is noted, all is.
abbrev pub NeedsAll : List Key → List Event → (rest whole : List Move) → Type 0
NeedsAll known events rest whole = (more : List Key) → ExtendsKeys known more → AllByRecursion (IsNotedFor more events) rest → AllByRecursion (IsNotedFor more events) whole

pub needs_first : (known : List Key) (events : List Event) (ms : List Move) → NeedsAll known events ms ms
needs_first known events ms = λ more extends h. h

all_still : (old new : List Key) (events : List Event) → ExtendsKeys old new → (ms : List Move) → AllByRecursion (IsNotedFor old events) ms → AllByRecursion (IsNotedFor new events) ms
all_still old new events extends [] h = tt
all_still old new events extends (m ∷ ms) h = (λ has. noted_still old new extends events m (h.0 has), all_still old new events extends ms h.1)

pub needs_turn : (old new : List Key) (events : List Event) (rs : List Run) (i : ℕ) (d : Run) (whole : List Move) → i < length rs → ExtendsKeys old new → AllByRecursion (IsNotedFor new events) (moves_of_run (get_or rs i d)) → NeedsAll old events (moves_in (drop i rs)) whole
    → NeedsAll new events (moves_in (drop (i + 1) rs)) whole
needs_turn old new events rs i d whole inside extends noted so = λ more further h.
    so more (extends_both old new more extends further)
    (subst (λ (l : List Move). AllByRecursion (IsNotedFor more events) l) (sym (runs_at rs i d inside)) (all_both (IsNotedFor more events) (moves_of_run (get_or rs i d)) (moves_in (drop (i + 1) rs)) (all_still new more events further (moves_of_run (get_or rs i d)) noted) h))

pub needs_done : (known : List Key) (events : List Event) (rs : List Run) (i : ℕ) (whole : List Move) → length rs ≤ i → NeedsAll known events (moves_in (drop i rs)) whole → AllByRecursion (IsNotedFor known events) whole
needs_done known events rs i whole past so = so known (extends_none known) (subst (λ (l : List Run). AllByRecursion (IsNotedFor known events) (moves_in l)) (sym (drop_all i rs past)) tt)

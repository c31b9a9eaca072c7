-- What is noted of writes on the way over moves tells that no read comes behind a write of its bank in its phase.
use Rattle.std.proofs.Common.{◌≡◌, ℕ, ◌+◌, ◌-◌, ◌<◌, ◌≤◌, ◌==◌, ◌&&◌, nat_lt, Bool, true, false, if◌then◌else◌, List, [], ◌∷◌, ◌++◌, append_assoc, append-nil, length, drop, get_or, refl, ap, sym, ◌∙◌, subst, arith, ◌⊎◌, inl, inr}
use Rattle.std.specs.Prelude.{Option, Some, None, slice_get, slice_index}
use Rattle.std.specs.List.{AllByRecursion}
use Rattle.std.proofs.lemmas.Bool.{cases_Bool, eq-eqb, eqb-true}
use Rattle.std.proofs.lemmas.Bool.Decides.{nat_tests}
use Rattle.std.proofs.lemmas.List.{drop_all}
use Rattle.dh_events.specs.declared.events.Event.{Event}
use Rattle.dh_events.specs.declared.events.Event.TheVariants as event
use Rattle.dh_events.specs.Tables.{table_at, with_number}
use Rattle.dh_ports.specs.declared.lasts.LastWrites.{LastWrites}
use Rattle.dh_ports.specs.declared.moves.Move.{Move}
use Rattle.dh_ports.specs.declared.moves.Move.TheVariants as move
use Rattle.dh_ports.specs.declared.moves.Run.{Run}
use Rattle.dh_ports.specs.Ahead.{AreAhead, ClaimsRead, ClaimsWrite, Covers, IsAhead, IsWriteAt, NotesAt, NotesMove, NotesMoves, Raises}
use Rattle.dh_ports.specs.Runs.{at_slot, moves_in, moves_of_run, moves_in_row}
use Rattle.dh_ports.specs.Scanned.{IsReadAt}
use Rattle.dh_ports.proofs.RunTurns.{all_both, row_past, row_step, runs_at}

absurd : {A : Type 0} → ⊥ → A
absurd e = elim e [ ]

never : ◌≡◌ {A = Bool} false true → ⊥
never e = cc

both_true : (a b : Bool) → (a && b) ≡ true → (a ≡ true) × (b ≡ true)
both_true true b e = (refl, e)
both_true false b e = absurd (never e)

under : (a b : ℕ) → nat_lt a b ≡ true → a < b
under a b e = grind (arith, nat_tests)

over : (a b : ℕ) → nat_lt a b ≡ false → b ≤ a
over a b e = grind (arith, nat_tests)

-- Banks.

pub raises_set : (old new : List ℕ) (bank phase : ℕ) → nat_lt (slice_index old bank) phase ≡ true → table_at new ≡ with_number (table_at old) bank phase → Raises old new bank phase
raises_set old new bank phase later set = record {
  covers = subst (λ (n : ℕ). phase ≤ n) (sym (ap (λ (f : ℕ → ℕ). f bank) set ∙ own)) (itself phase);
  keeps = λ other. subst (λ (n : ℕ). slice_index old other ≤ n) (sym (ap (λ (f : ℕ → ℕ). f other) set)) (rises other (cases_Bool (bank == other)));
}
  where
    itself : (n : ℕ) → n ≤ n
    itself n = omega arith

    less : (a b : ℕ) → a < b → a ≤ b
    less a b e = omega (arith, e)

    own : (if bank == bank then phase else table_at old bank) ≡ phase
    own = ap (λ (b : Bool). if b then phase else table_at old bank) (eq-eqb bank bank refl)

    rises : (other : ℕ) → ((bank == other) ≡ true) ⊎ ((bank == other) ≡ false) → slice_index old other ≤ (if bank == other then phase else table_at old other)
    rises other (inl e) =
        subst (λ (x : Bool). slice_index old other ≤ (if x then phase else table_at old other)) (sym e)
        (subst (λ (n : ℕ). slice_index old n ≤ phase) (eqb-true bank other e) (less (slice_index old bank) phase (under (slice_index old bank) phase later)))
    rises other (inr e) = subst (λ (x : Bool). slice_index old other ≤ (if x then phase else table_at old other)) (sym e) (itself (slice_index old other))

pub raises_none : (phases : List ℕ) (bank phase : ℕ) → nat_lt (slice_index phases bank) phase ≡ false → Raises phases phases bank phase
raises_none phases bank phase late = record { covers = over (slice_index phases bank) phase late; keeps = λ other. itself (slice_index phases other) }
  where
    itself : (n : ℕ) → n ≤ n
    itself n = omega arith

-- One move.

covers_raised : (events : List Event) (old new : List ℕ) → ((other : ℕ) → slice_index old other ≤ slice_index new other) → (ms : List Move) → Covers events old ms → Covers events new ms
covers_raised events old new keeps [] h = tt
covers_raised events old new keeps (m ∷ ms) h = (λ phase bank w. up phase (slice_index old bank) (slice_index new bank) (h.0 phase bank w) (keeps bank), covers_raised events old new keeps ms h.1)
  where
    up : (a b c : ℕ) → a ≤ b → b ≤ c → a ≤ c
    up a b c e f = omega (arith, e, f)

none_written : (events : List Event) (phases : List ℕ) (phase bank : ℕ) → slice_index phases bank < phase → (ms : List Move) → Covers events phases ms → AllByRecursion (λ x. ClaimsWrite events phase bank x → ⊥) ms
none_written events phases phase bank before [] h = tt
none_written events phases phase bank before (m ∷ ms) h = (λ w. apart (slice_index phases bank) phase before (h.0 phase bank w), none_written events phases phase bank before ms h.1)
  where
    apart : (a b : ℕ) → a < b → b ≤ a → ⊥
    apart a b e f = omega (arith, e, f)

ahead_more : (events : List Event) (ms : List Move) (m : Move) → AreAhead events ms → ((phase bank : ℕ) → ClaimsRead events phase bank m → AllByRecursion (λ x. ClaimsWrite events phase bank x → ⊥) ms) → AreAhead events (ms ++ m ∷ [])
ahead_more events [] m h g = (λ phase bank w. tt, tt)
ahead_more events (x ∷ ms) m h g = (
  λ phase bank w. all_both (λ y. ClaimsRead events phase bank y → ⊥) ms (m ∷ []) (h.0 phase bank w) (λ r. (g phase bank r).0 w, tt),
  ahead_more events ms m h.1 (λ phase bank r. (g phase bank r).1),
)

module _ (events : List Event) (old new : LastWrites) where
  still : (m : Move) → ((phase bank : ℕ) → ClaimsWrite events phase bank m → ⊥) → ((phase bank : ℕ) → ClaimsRead events phase bank m → ⊥) → new ≡ old → NotesMoves events old (m ∷ []) new
  still m no_write no_read same = λ before so. subst (λ (l : LastWrites). IsAhead events (before ++ m ∷ []) l) (sym same) (record {
    covers = all_both (λ x. (phase bank : ℕ) → ClaimsWrite events phase bank x → phase ≤ slice_index old.phases.items bank) before (m ∷ []) so.covers (λ phase bank w. absurd (no_write phase bank w), tt);
    ahead = λ e. ahead_more events before m (so.ahead e) (λ phase bank r. absurd (no_read phase bank r));
  })

  module _ (e bank keys : ℕ) where
    other : (o : Option Event) → slice_get events e ≡ o → ((phase : ℕ) → IsWriteAt o phase → ⊥) → ((phase : ℕ) → IsReadAt o phase → ⊥) → new ≡ old → NotesMoves events old (move.Claim e bank keys ∷ []) new
    other o is no_write no_read same = still (move.Claim e bank keys) (λ phase b w. no_write phase (subst (λ (x : Option Event). IsWriteAt x phase) is w.0)) (λ phase b r. no_read phase (subst (λ (x : Option Event). IsReadAt x phase) is r.0)) same

    of_event : (o : Option Event) → slice_get events e ≡ o → NotesAt old new o bank → NotesMoves events old (move.Claim e bank keys ∷ []) new
    of_event None is h = absurd h
    of_event (Some (event.Touch true phase round access element newest)) is h = λ before so. record {
      covers = all_both (λ x. (p b : ℕ) → ClaimsWrite events p b x → p ≤ slice_index new.phases.items b) before (move.Claim e bank keys ∷ []) (covers_raised events old.phases.items new.phases.items h.0.keeps before so.covers)
          (λ p b w. subst (λ (n : ℕ). n ≤ slice_index new.phases.items b) (subst (λ (x : Option Event). IsWriteAt x p) is w.0) (subst (λ (n : ℕ). phase ≤ slice_index new.phases.items n) w.1 h.0.covers), tt);
      ahead = λ t. ahead_more events before (move.Claim e bank keys) (so.ahead (sym h.1 ∙ t)) (λ p b r. absurd (subst (λ (x : Option Event). IsReadAt x p) is r.0));
    }
    of_event (Some (event.Touch false phase round access element newest)) is h = λ before so. record {
      covers = all_both (λ x. (p b : ℕ) → ClaimsWrite events p b x → p ≤ slice_index new.phases.items b) before (move.Claim e bank keys ∷ []) (subst (λ (ns : List ℕ). Covers events ns before) (sym h.0) so.covers)
          (λ p b w. absurd (subst (λ (x : Option Event). IsWriteAt x p) is w.0), tt);
      ahead = λ t.
          let parts = both_true old.ahead (nat_lt (slice_index old.phases.items bank) phase) (sym h.1 ∙ t) in
          ahead_more events before (move.Claim e bank keys) (so.ahead parts.0)
          (λ p b r. none_written events old.phases.items p b (subst (λ (n : ℕ). slice_index old.phases.items b < n) (subst (λ (x : Option Event). IsReadAt x p) is r.0) (subst (λ (n : ℕ). slice_index old.phases.items n < phase) r.1 (under (slice_index old.phases.items bank) phase parts.1))) before so.covers);
    }
    of_event (Some (event.Assigned entity)) is h = other (Some (event.Assigned entity)) is (λ p w. w) (λ p r. r) h
    of_event (Some event.ArmBegins) is h = other (Some event.ArmBegins) is (λ p w. w) (λ p r. r) h
    of_event (Some event.ArmEnds) is h = other (Some event.ArmEnds) is (λ p w. w) (λ p r. r) h
    of_event (Some event.Begins) is h = other (Some event.Begins) is (λ p w. w) (λ p r. r) h
    of_event (Some event.Next) is h = other (Some event.Next) is (λ p w. w) (λ p r. r) h
    of_event (Some event.Ends) is h = other (Some event.Ends) is (λ p w. w) (λ p r. r) h

  notes_move : (m : Move) → NotesMove events old new m → NotesMoves events old (m ∷ []) new
  notes_move (move.Claim e bank keys) h = of_event e bank keys (slice_get events e) refl h
  notes_move move.Begin h = still move.Begin (λ phase bank w. w) (λ phase bank r. r) h
  notes_move move.Next h = still move.Next (λ phase bank w. w) (λ phase bank r. r) h
  notes_move move.End h = still move.End (λ phase bank w. w) (λ phase bank r. r) h

-- Moves in a row.

pub nothing_ahead : (events : List Event) (lasts : LastWrites) → IsAhead events [] lasts
nothing_ahead events lasts = record { covers = tt; ahead = λ e. tt }

notes_none : (events : List Event) (lasts : LastWrites) → NotesMoves events lasts [] lasts
notes_none events lasts = λ before so. subst (λ (ms : List Move). IsAhead events ms lasts) (sym (append-nil before)) so

notes_both : (events : List Event) (old new last : LastWrites) (xs ys : List Move) → NotesMoves events old xs new → NotesMoves events new ys last → NotesMoves events old (xs ++ ys) last
notes_both events old new last xs ys one more = λ before so. subst (λ (ms : List Move). IsAhead events ms last) (append_assoc before xs ys) (more (before ++ xs) (one before so))

-- Whatever comes to be noted: where it is noted of the rest, it is of all.
abbrev pub NotesRest : List Event → (now : LastWrites) → (rest : List Move) → (first : LastWrites) → (whole : List Move) → Type 0
NotesRest events now rest first whole = (last : LastWrites) → NotesMoves events now rest last → NotesMoves events first whole last

pub ahead_first : (events : List Event) (lasts : LastWrites) (ms : List Move) → NotesRest events lasts ms lasts ms
ahead_first events lasts ms = λ last h. h

pub ahead_turn : (events : List Event) (first old new : LastWrites) (run m : Move) (slot end : ℕ) (whole : List Move) → slot < end → m ≡ at_slot run slot → NotesMove events old new m → NotesRest events old (moves_in_row run slot (end - slot)) first whole
    → NotesRest events new (moves_in_row run (slot + 1) (end - (slot + 1))) first whole
ahead_turn events first old new run m slot end whole inside is noted so = λ last h.
    so last (subst (λ (ms : List Move). NotesMoves events old ms last) (sym (row_step run slot end inside ∙ ap (λ x. x ∷ moves_in_row run (slot + 1) (end - (slot + 1))) (sym is)))
    (notes_both events old new last (m ∷ []) (moves_in_row run (slot + 1) (end - (slot + 1))) (notes_move events old new m noted) h))

pub ahead_row_done : (events : List Event) (first now : LastWrites) (run : Move) (slot end : ℕ) (whole : List Move) → end ≤ slot → NotesRest events now (moves_in_row run slot (end - slot)) first whole → NotesMoves events first whole now
ahead_row_done events first now run slot end whole past so = so now (subst (λ (ms : List Move). NotesMoves events now ms now) (row_past run slot end past) (notes_none events now))

pub ahead_run : (events : List Event) (first old new : LastWrites) (rs : List Run) (i : ℕ) (d : Run) (whole : List Move) → i < length rs → NotesMoves events old (moves_of_run (get_or rs i d)) new → NotesRest events old (moves_in (drop i rs)) first whole
    → NotesRest events new (moves_in (drop (i + 1) rs)) first whole
ahead_run events first old new rs i d whole inside one so = λ last h.
    so last (subst (λ (ms : List Move). NotesMoves events old ms last) (sym (runs_at rs i d inside)) (notes_both events old new last (moves_of_run (get_or rs i d)) (moves_in (drop (i + 1) rs)) one h))

pub ahead_done : (events : List Event) (first now : LastWrites) (rs : List Run) (i : ℕ) (whole : List Move) → length rs ≤ i → NotesRest events now (moves_in (drop i rs)) first whole → NotesMoves events first whole now
ahead_done events first now rs i whole past so = so now (subst (λ (l : List Run). NotesMoves events now (moves_in l) now) (sym (drop_all i rs past)) (notes_none events now))

-- Steps of the walk over events.
use Rattle.std.proofs.Common.{◌≡◌, ℕ, zero, suc, ◌+◌, ◌<◌, ◌≤◌, Bool, if◌then◌else◌, List, [], ◌∷◌, ◌++◌, append_assoc, append-nil, length, drop, get_or, refl, ap, sym, ◌∙◌, subst, arith}
use Rattle.std.specs.Prelude.{Option, slice_get, slice_index}
use Rattle.std.specs.List.{AllByRecursion}
use Rattle.std.proofs.lemmas.List.{drop_all}
use Rattle.dh_base.specs.declared.places.Place.{Place}
use Rattle.dh_tree.specs.Memories.{table_of}
use Rattle.dh_tree.specs.PlainTrees.{Program}
use Rattle.dh_events.specs.declared.events.Event.{Event}
use Rattle.dh_events.specs.Accesses.{loops_listed}
use Rattle.dh_events.specs.Classes.{KeysAreDistinct}
use Rattle.dh_events.specs.Incidents.{PortEvent}
use Rattle.dh_events.specs.Noted.{all_seen}
use Rattle.dh_ports.specs.declared.lasts.LastWrites.{LastWrites}
use Rattle.dh_ports.specs.declared.levels.Levels.{Levels}
use Rattle.dh_ports.specs.declared.levels.Step.TheVariants as step
use Rattle.dh_ports.specs.declared.moves.ProgramLayout.{ProgramLayout}
use Rattle.dh_ports.specs.declared.moves.Move.{Move}
use Rattle.dh_ports.specs.declared.moves.Move.TheVariants as move
use Rattle.dh_ports.specs.declared.sharing.Sharing.{Sharing}
use Rattle.dh_ports.specs.declared.spending.Walked.{Walked}
use Rattle.dh_ports.specs.declared.spending.Walked.TheVariants as walked
use Rattle.dh_ports.specs.Ahead.{IsAhead, NotesMoves}
use Rattle.dh_ports.specs.Claims.{moves_from, bank_ports_in}
use Rattle.dh_ports.specs.EventMoves.{moves_known, moves_of}
use Rattle.dh_ports.specs.Levels.{level_at, start, LevelsKept}
use Rattle.dh_ports.specs.Passing.{beyond_from, first_from}
use Rattle.dh_ports.specs.Scanned.{flag_at, spending_step, IsMoveOf}
use Rattle.dh_ports.specs.SharedSoFar.{IsShared, NotesShare}
use Rattle.dh_ports.specs.Walks.{place_walked, EventsAreWalked, KeptWhile, SpendsTo}
use Rattle.dh_ports.proofs.AheadNotes.{nothing_ahead}
use Rattle.dh_ports.proofs.MoveTurns.{moves_done, moves_here, moves_turn, moves_within, within_turn}
use Rattle.dh_ports.proofs.RunTurns.{spent_start}
use Rattle.dh_ports.proofs.SharedSteps.{flags_long, share_ends, share_turn}

absurd : {A : Type 0} → ⊥ → A
absurd e = elim e [ ]

-- Flags that are known so far.

get_more : (xs ys : List Bool) (i : ℕ) → i < length xs → slice_get xs i ≡ slice_get (xs ++ ys) i
get_more [] ys i inside = absurd (none i inside)
  where
    none : (n : ℕ) → n < 0 → ⊥
    none n e = omega (arith, e)
get_more (x ∷ xs) ys zero inside = refl
get_more (x ∷ xs) ys (suc i) inside = get_more xs ys i (less i (length xs) inside)
  where
    less : (m n : ℕ) → suc m < suc n → m < n
    less m n e = omega (arith, e)

pub step_more : (shared more : List Bool) (m : Move) → IsMoveOf (length shared) m → spending_step shared m ≡ spending_step (shared ++ more) m
step_more shared more (move.Claim e slot keys) within = ap (λ (o : Option Bool). step.Access slot (if flag_at o then 0 else keys)) (get_more shared more e within)
step_more shared more move.Begin within = refl
step_more shared more move.Next within = refl
step_more shared more move.End within = refl

pub move_within : (few many : ℕ) → few ≤ many → (m : Move) → IsMoveOf few m → IsMoveOf many m
move_within few many h (move.Claim e slot keys) within = far e few many within h
  where
    far : (a b c : ℕ) → a < b → b ≤ c → a < c
    far a b c e f = omega (arith, e, f)
move_within few many h move.Begin within = tt
move_within few many h move.Next within = tt
move_within few many h move.End within = tt

-- An event that is looked up twice.

item_any : (es : List Event) (i : ℕ) (d e : Event) → i < length es → get_or es i d ≡ get_or es i e
item_any [] i d e inside = absurd (none i inside)
  where
    none : (n : ℕ) → n < 0 → ⊥
    none n h = omega (arith, h)
item_any (x ∷ es) zero d e inside = refl
item_any (x ∷ es) (suc i) d e inside = item_any es i d e (less i (length es) inside)
  where
    less : (m n : ℕ) → suc m < suc n → m < n
    less m n h = omega (arith, h)

pub item_once : (es : List Event) (i : ℕ) (d e : Event) → i < length es → d ≡ get_or es i d → e ≡ get_or es i e → e ≡ d
item_once es i d e inside is_d is_e = is_e ∙ (item_any es i e d inside ∙ sym is_d)

-- What moves come to.

-- from here the place is found in the rest as in all
abbrev pub SpentSo : List PortEvent → (shared : List Bool) → Levels → Walked → (rest : List Move) → (place : Option Place) → Type 0
SpentSo xs shared levels walked.Past rest place = beyond_from xs shared levels rest ≡ place
SpentSo xs shared levels (walked.Beyond found) rest place = found ≡ place

module _ (xs : List PortEvent) (shared : List Bool) where
  spends_kept : (old new : Levels) (before after : Walked) (ms : List Move) → SpendsTo xs shared before old ms after new → KeptWhile after new
  spends_kept old new walked.Past walked.Past ms h = h.0
  spends_kept old new walked.Past (walked.Beyond place) ms h = tt
  spends_kept old new (walked.Beyond place) after ms h = subst (λ (w : Walked). KeptWhile w new) (sym h) tt

  spent_so : (old new : Levels) (before after : Walked) (ms rest : List Move) (place : Option Place) → SpendsTo xs shared before old ms after new → SpentSo xs shared old before (ms ++ rest) place → SpentSo xs shared new after rest place
  spent_so old new walked.Past walked.Past ms rest place h so = h.1 rest ∙ so
  spent_so old new walked.Past (walked.Beyond found) ms rest place h so = h rest ∙ so
  spent_so old new (walked.Beyond found) after ms rest place h so = subst (λ (w : Walked). SpentSo xs shared new w rest place) (sym h) so

  spent_end : (levels : Levels) (after : Walked) (place : Option Place) → SpentSo xs shared levels after [] place → place_walked after ≡ place
  spent_end levels walked.Past place so = so
  spent_end levels (walked.Beyond found) place so = so

-- The walk.

-- so much is found of so many of these events, whatever is found of those behind them
pub record WalksTo (p : Program) (layout : ProgramLayout) (events : List Event) (i : ℕ) (sharing : Sharing) (lasts : LastWrites) (levels : Levels) (after : Walked) : Type 0 where
  pub before : List Move
  pub whole : before ++ moves_from p (loops_listed layout.rounds.items) i (all_seen (drop i events)) ≡ moves_known p layout events
  pub within : AllByRecursion (IsMoveOf (length events)) before
  pub ahead : IsAhead events before lasts
  pub shared : IsShared events i sharing
  pub kept : KeptWhile after levels
  pub spent : (more : List Bool) → SpentSo (all_seen events) (sharing.flags.items ++ more) levels after (moves_from p (loops_listed layout.rounds.items) i (all_seen (drop i events))) (first_from (all_seen events) (sharing.flags.items ++ more) (bank_ports_in (table_of p)) (moves_known p layout events))

module _ (p : Program) (layout : ProgramLayout) (events : List Event) where
  pub walk_begins : (sharing : Sharing) (lasts : LastWrites) (levels : Levels) (ports : List ℕ) → IsShared events 0 sharing → LevelsKept levels → ((s : ℕ) → level_at levels s ≡ start (slice_index ports s)) → ports ≡ bank_ports_in (table_of p) → WalksTo p layout events 0 sharing lasts levels walked.Past
  walk_begins sharing lasts levels ports shared kept starts ports_are = record {
    before = [];
    whole = refl;
    within = tt;
    ahead = nothing_ahead events lasts;
    shared = shared;
    kept = kept;
    spent = λ more.
        spent_start (all_seen events) (sharing.flags.items ++ more) ports levels (moves_known p layout events) starts
        ∙ ap (λ (l : List ℕ). first_from (all_seen events) (sharing.flags.items ++ more) l (moves_known p layout events)) ports_are;
  }

  module _ (i : ℕ) (d : Event) (inside : i < length events) (is : d ≡ get_or events i d) where
    -- the moves of one event

    pub flags_behind : (old new : Sharing) → IsShared events i old → NotesShare old new d → length new.flags.items ≡ i + 1
    flags_behind old new so notes = flags_long new.classes events (i + 1) new.levels new.flags.items (more i (length events) inside) (share_turn events i d old new inside is notes so).shares
      where
        more : (a b : ℕ) → a < b → a + 1 ≤ b
        more a b e = omega (arith, e)

    pub flags_few : (n : ℕ) → n ≡ i + 1 → n ≤ length events
    flags_few n long = few n (length events) long inside
      where
        few : (n k : ℕ) → n ≡ i + 1 → i < k → n ≤ k
        few n k e f = omega (arith, e, f)

    pub moves_inside : (n : ℕ) → n ≡ i + 1 → (ms : List Move) → ms ≡ moves_of p (loops_listed layout.rounds.items) i d → AllByRecursion (IsMoveOf n) ms
    moves_inside n long ms are = subst (λ (l : List Move). AllByRecursion (IsMoveOf n) l) (sym are) (moves_within p (loops_listed layout.rounds.items) n i d (behind n long))
      where
        behind : (n : ℕ) → n ≡ i + 1 → i < n
        behind n e = omega (arith, e)

    pub moves_there : (ms : List Move) → ms ≡ moves_of p (loops_listed layout.rounds.items) i d → AllByRecursion (IsMoveOf (length events)) ms
    moves_there ms are = subst (λ (l : List Move). AllByRecursion (IsMoveOf (length events)) l) (sym are) (moves_within p (loops_listed layout.rounds.items) (length events) i d inside)

    -- one event more

    module _ (old new : Sharing) (old_lasts new_lasts : LastWrites) (old_levels new_levels : Levels) (old_walked new_walked : Walked) (ms : List Move) (so : WalksTo p layout events i old old_lasts old_levels old_walked) (notes : NotesShare old new d) (are : ms ≡ moves_of p (loops_listed layout.rounds.items) i d)
        (ahead : NotesMoves events old_lasts ms new_lasts) (spends : (more : List Bool) → SpendsTo (all_seen events) (new.flags.items ++ more) old_walked old_levels ms new_walked new_levels) where
      abbrev rest : List Move
      rest = moves_from p (loops_listed layout.rounds.items) (i + 1) (all_seen (drop (i + 1) events))

      abbrev place_by : List Bool → Option Place
      place_by shared = first_from (all_seen events) shared (bank_ports_in (table_of p)) (moves_known p layout events)

      rest_is : moves_from p (loops_listed layout.rounds.items) i (all_seen (drop i events)) ≡ ms ++ rest
      rest_is = moves_here p (loops_listed layout.rounds.items) events i d inside is ∙ ap (λ l. l ++ rest) (sym are)

      flags_are : (more : List Bool) → new.flags.items ++ more ≡ old.flags.items ++ (notes.flag ∷ more)
      flags_are more = ap (λ l. l ++ more) notes.more ∙ append_assoc old.flags.items (notes.flag ∷ []) more

      spent_before : (more : List Bool) → SpentSo (all_seen events) (new.flags.items ++ more) old_levels old_walked (ms ++ rest) (place_by (new.flags.items ++ more))
      spent_before more =
          subst (λ (shared : List Bool). SpentSo (all_seen events) shared old_levels old_walked (ms ++ rest) (place_by shared)) (sym (flags_are more))
          (subst (λ (l : List Move). SpentSo (all_seen events) (old.flags.items ++ (notes.flag ∷ more)) old_levels old_walked l (place_by (old.flags.items ++ (notes.flag ∷ more)))) rest_is (so.spent (notes.flag ∷ more)))

      pub walk_turn : WalksTo p layout events (i + 1) new new_lasts new_levels new_walked
      walk_turn = record {
        before = so.before ++ ms;
        whole = moves_turn p (loops_listed layout.rounds.items) events i d so.before (so.before ++ ms) (moves_known p layout events) inside is so.whole (ap (λ l. so.before ++ l) are);
        within = within_turn p (loops_listed layout.rounds.items) (length events) i d so.before (so.before ++ ms) inside so.within (ap (λ l. so.before ++ l) are);
        ahead = ahead so.before so.ahead;
        shared = share_turn events i d old new inside is notes so.shared;
        kept = spends_kept (all_seen events) (new.flags.items ++ []) old_levels new_levels old_walked new_walked ms (spends []);
        spent = λ more. spent_so (all_seen events) (new.flags.items ++ more) old_levels new_levels old_walked new_walked ms rest (place_by (new.flags.items ++ more)) (spends more) (spent_before more);
      }

  -- behind the last event

  module _ (i : ℕ) (sharing : Sharing) (lasts : LastWrites) (levels : Levels) (after : Walked) (past : length events ≤ i) (so : WalksTo p layout events i sharing lasts levels after) where
    all_before : so.before ≡ moves_known p layout events
    all_before = moves_done p (loops_listed layout.rounds.items) events i so.before (moves_known p layout events) past so.whole

    nothing_left : moves_from p (loops_listed layout.rounds.items) i (all_seen (drop i events)) ≡ []
    nothing_left = ap (λ l. moves_from p (loops_listed layout.rounds.items) i (all_seen l)) (drop_all i events past)

    spent_all : (shared : List Bool) → sharing.flags.items ++ [] ≡ shared → SpentSo (all_seen events) shared levels after [] (first_from (all_seen events) shared (bank_ports_in (table_of p)) (moves_known p layout events))
    spent_all shared is =
        subst (λ (l : List Bool). SpentSo (all_seen events) l levels after [] (first_from (all_seen events) l (bank_ports_in (table_of p)) (moves_known p layout events))) is
        (subst (λ (ms : List Move). SpentSo (all_seen events) (sharing.flags.items ++ []) levels after ms (first_from (all_seen events) (sharing.flags.items ++ []) (bank_ports_in (table_of p)) (moves_known p layout events))) nothing_left (so.spent []))

    pub walk_done : KeysAreDistinct sharing.classes → EventsAreWalked p layout events sharing lasts after
    walk_done distinct = record {
      distinct = distinct;
      shared = share_ends events i sharing past so.shared;
      within = subst (λ (ms : List Move). AllByRecursion (IsMoveOf (length events)) ms) all_before so.within;
      ahead = subst (λ (ms : List Move). IsAhead events ms lasts) all_before so.ahead;
      spent = spent_end (all_seen events) sharing.flags.items levels after (first_from (all_seen events) sharing.flags.items (bank_ports_in (table_of p)) (moves_known p layout events)) (spent_all sharing.flags.items (append-nil sharing.flags.items));
    }

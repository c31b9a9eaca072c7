-- Which reads share, found in one walk: of each class one is left at first, of as many classes as there are events.
use Rattle.std.proofs.Common.{◌≡◌, ℕ, ◌+◌, ◌<◌, ◌≤◌, nat_lt, Bool, true, false, List, [], ◌∷◌, ◌++◌, append_assoc, length, take, get_or, replicate, refl, ap, sym, ◌∙◌, subst, arith, ◌⊎◌, inl, inr}
use Rattle.std.specs.Prelude.{Option, Some, None, slice_get, slice_index}
use Rattle.std.proofs.lemmas.Bool.{cases_Bool}
use Rattle.std.proofs.lemmas.Bool.Decides.{nat_tests}
use Rattle.std.proofs.lemmas.List.{append-nil, get_or-replicate, length-append, length-take-le, take_all, take_more}
use Rattle.std.proofs.lemmas.Option.{slice_get-get_or, slice_get_within}
use Rattle.dh_events.specs.declared.classes.Key.{Key}
use Rattle.dh_events.specs.declared.events.Event.{Event}
use Rattle.dh_events.specs.declared.events.Event.TheVariants as event
use Rattle.dh_events.specs.Classes.{KeysAreDistinct, NumbersKey}
use Rattle.dh_ports.specs.declared.levels.Levels.{Levels}
use Rattle.dh_ports.specs.declared.levels.Step.{Step}
use Rattle.dh_ports.specs.declared.levels.Step.TheVariants as step
use Rattle.dh_ports.specs.Levels.{Level, advance, left_before, lefts_from, left_before_each, level_at, start, LevelsKept}
use Rattle.dh_ports.specs.declared.sharing.Sharing.{Sharing}
use Rattle.dh_ports.specs.SharedSoFar.{AreShared, BeginsShared, IsShared, NotesShare, SharesNext, SharesSoFar}
use Rattle.dh_ports.specs.Scanned.{all_share, read_key, shares, AreSharing, FindsShared, IsSharing, TakesOf}
use Rattle.dh_ports.proofs.LeftTurns.{lefts_same}
use Rattle.dh_ports.proofs.ScanTurns.{shares_long, sharing_long, sharing_turn}

absurd : {A : Type 0} → ⊥ → A
absurd e = elim e [ ]

-- Classes.

-- no more than one key is added
pub numbers_few : (old new : List Key) (k : Key) (n : ℕ) → KeysAreDistinct new → NumbersKey old new k n → length new ≤ length old + 1
numbers_few old new k n distinct numbers = by_test (cases_Bool (nat_lt (length old + 1) (length new)))
  where
    under : (a b : ℕ) → nat_lt a b ≡ true → a < b
    under a b e = grind (arith, nat_tests)

    over : (a b : ℕ) → nat_lt a b ≡ false → b ≤ a
    over a b e = grind (arith, nat_tests)

    first_under : (a b : ℕ) → a + 1 < b → a < b
    first_under a b e = omega (arith, e)

    apart : (a : ℕ) → a ≡ a + 1 → ⊥
    apart a e = omega (arith, e)

    not_within : (a b : ℕ) → b ≤ a → a < b → ⊥
    not_within a b e f = omega (arith, e, f)

    -- a key behind those before is the one that is added
    added : (i : ℕ) → length old ≤ i → i < length new → slice_get new i ≡ Some k
    added i past inside =
        let there = slice_get-get_or new i k inside in
        elim (numbers.only i (get_or new i k) there) [
          | inl e ↦ absurd (not_within i (length old) past (slice_get_within old i (get_or new i k) e))
          | inr e ↦ there ∙ ap (λ (x : Key). Some x) e
        ]

    none_under : (a : ℕ) → a ≤ a
    none_under a = omega arith

    one_under : (a : ℕ) → a ≤ a + 1
    one_under a = omega arith

    by_test : (nat_lt (length old + 1) (length new) ≡ true) ⊎ (nat_lt (length old + 1) (length new) ≡ false) → length new ≤ length old + 1
    by_test (inl e) =
        let more = under (length old + 1) (length new) e in
        absurd (apart (length old) (distinct (length old) (length old + 1) k (added (length old) (none_under (length old)) (first_under (length old) (length new) more)) (added (length old + 1) (one_under (length old)) more)))
    by_test (inr e) = over (length old + 1) (length new) e

-- Steps of classes that are known.

abbrev StepWithin : ℕ → Step → Type 0
StepWithin n (step.Access slot takes) = slot < n
StepWithin n step.Other = Unit {0}
StepWithin n step.Begin = Unit {0}
StepWithin n step.Next = Unit {0}
StepWithin n step.End = Unit {0}
StepWithin n step.Back = Unit {0}

takes_within : (known : List Key) (o : Option Key) (s : Step) → TakesOf known 1 o s → StepWithin (length known) s
takes_within known None s h = subst (λ (x : Step). StepWithin (length known) x) (sym h) tt
takes_within known (Some k) s (slot, (e, f)) = subst (λ (x : Step). StepWithin (length known) x) (sym f) (slice_get_within known slot k e)

step_within : (known : List Key) (e : Event) (s : Step) → IsSharing known e s → StepWithin (length known) s
step_within known (event.Touch writes phase round access element newest) s h = takes_within known (read_key (event.Touch writes phase round access element newest)) s h
step_within known (event.Assigned entity) s h = subst (λ (x : Step). StepWithin (length known) x) (sym h) tt
step_within known event.ArmBegins s h = subst (λ (x : Step). StepWithin (length known) x) (sym h) tt
step_within known event.ArmEnds s h = subst (λ (x : Step). StepWithin (length known) x) (sym h) tt
step_within known event.Begins s h = subst (λ (x : Step). StepWithin (length known) x) (sym h) tt
step_within known event.Next s h = subst (λ (x : Step). StepWithin (length known) x) (sym h) tt
step_within known event.Ends s h = subst (λ (x : Step). StepWithin (length known) x) (sym h) tt

before_known : (n : ℕ) (l l1 : ℕ → Level) → ((m : ℕ) → m < n → l m ≡ l1 m) → (s : Step) → StepWithin n s → left_before s l ≡ left_before s l1
before_known n l l1 e step.Other h = refl
before_known n l l1 e (step.Access slot takes) h = ap (λ (v : Level). v.now) (e slot h)
before_known n l l1 e step.Begin h = refl
before_known n l l1 e step.Next h = refl
before_known n l l1 e step.End h = refl
before_known n l l1 e step.Back h = refl

-- what is left of other classes counts for nothing
lefts_known : (known : List Key) (l l1 : ℕ → Level) → ((m : ℕ) → m < length known → l m ≡ l1 m) → (es : List Event) (ss : List Step) → AreSharing known es ss → left_before_each l ss ≡ left_before_each l1 ss
lefts_known known l l1 e [] [] h = refl
lefts_known known l l1 e [] (s ∷ ss) h = absurd h
lefts_known known l l1 e (x ∷ es) [] h = absurd h
lefts_known known l l1 e (x ∷ es) (s ∷ ss) h =
    ap (λ n. n ∷ left_before_each (λ m. advance m s (l m)) ss) (before_known (length known) l l1 e s (step_within known x s h.0))
    ∙ ap (λ r. left_before s l1 ∷ r) (lefts_known known (λ m. advance m s (l m)) (λ m. advance m s (l1 m)) (λ m inside. ap (λ v. advance m s v) (e m inside)) es ss h.1)

ones_enough : (known : List Key) (n : ℕ) → length known ≤ n → (es : List Event) (ss : List Step) → AreSharing known es ss → lefts_from (replicate n 1) ss ≡ lefts_from (replicate (length known) 1) ss
ones_enough known n few es ss h = lefts_known known (λ s. start (slice_index (replicate n 1) s)) (λ s. start (slice_index (replicate (length known) 1) s)) (λ m inside. ap start (one_at n m (far m (length known) n inside few) ∙ sym (one_at (length known) m inside))) es ss h
  where
    far : (m k n : ℕ) → m < k → k ≤ n → m < n
    far m k n e f = omega (arith, e, f)

    one_at : (n m : ℕ) → m < n → slice_index (replicate n 1) m ≡ 1
    one_at n m inside = get_or-replicate n m 1 0 inside

-- The walk.

share_none : (n : ℕ) (starts : List ℕ) (known : List Key) (levels : Levels) (flags : List Bool) → starts ≡ replicate n 1 → known ≡ [] → LevelsKept levels → ((s : ℕ) → level_at levels s ≡ start (slice_index starts s)) → flags ≡ [] → SharesSoFar n known [] levels flags
share_none n starts known levels flags ones none kept begins empty =
    let long : length known ≡ 0 = ap (λ (l : List Key). length l) none in
    record {
      steps = [];
      sharing = tt;
      few = omega (arith, long);
      kept = kept;
      told = λ rest.
          ap (λ k. k ++ all_share rest (left_before_each (λ s. level_at levels s) rest)) empty
          ∙ (ap (λ ls. all_share rest ls) (lefts_same (λ s. level_at levels s) (λ s. start (slice_index starts s)) begins rest)
          ∙ ap (λ l. all_share rest (lefts_from l rest)) ones);
    }

share_next : (n : ℕ) (old_known known : List Key) (events : List Event) (i : ℕ) (d : Event) (old new : Levels) (before after : List Bool) (flag : Bool) → i < length events → d ≡ get_or events i d → SharesSoFar n old_known (take i events) old before → SharesNext old_known known old new d flag
    → after ≡ before ++ flag ∷ [] → SharesSoFar n known (take (i + 1) events) new after
share_next n old_known known events i d old new before after flag inside is so next more =
    let long : length (take (i + 1) events) ≡ length (take i events) + 1 = ap (λ (l : List Event). length l) (take_more events i d inside) ∙ length-append (take i events) (get_or events i d ∷ []) in
    let was = so.few in
    let adds = next.few in
    record {
      steps = so.steps ++ next.step ∷ [];
      sharing = sharing_turn old_known known next.extends events i d so.steps (so.steps ++ next.step ∷ []) next.step inside is so.sharing next.sharing refl;
      few = omega (arith, long, was, adds);
      kept = next.kept;
      told = λ rest.
          ap (λ l. l ++ all_share rest (left_before_each (λ s. level_at new s) rest)) more
          ∙ (append_assoc before (flag ∷ []) (all_share rest (left_before_each (λ s. level_at new s) rest))
          ∙ (ap (λ b. before ++ (b ∷ all_share rest (left_before_each (λ s. level_at new s) rest))) next.told
          ∙ (ap (λ ls. before ++ (shares next.step (left_before next.step (λ s. level_at old s)) ∷ all_share rest ls)) (lefts_same (λ s. level_at new s) (λ s. advance s next.step (level_at old s)) next.stepped rest)
          ∙ (so.told (next.step ∷ rest)
          ∙ sym (ap (λ l. all_share l (lefts_from (replicate n 1) l)) (append_assoc so.steps (next.step ∷ []) rest))))));
    }

module _ (known : List Key) (events : List Event) (i : ℕ) (levels : Levels) (flags : List Bool) (past : length events ≤ i) (so : SharesSoFar (length events) known (take i events) levels flags) where
  all_sharing : AreSharing known events so.steps
  all_sharing = subst (λ (es : List Event). AreSharing known es so.steps) (take_all i events past) so.sharing

  all_told : flags ≡ all_share so.steps (lefts_from (replicate (length events) 1) so.steps)
  all_told = sym (append-nil flags) ∙ (so.told [] ∙ ap (λ l. all_share l (lefts_from (replicate (length events) 1) l)) (append-nil so.steps))

  share_done : KeysAreDistinct known → FindsShared events flags
  share_done distinct = record {
    known = known;
    distinct = distinct;
    steps = so.steps;
    sharing = all_sharing;
    told = all_told ∙ ap (λ ls. all_share so.steps ls) (ones_enough known (length events) (subst (λ (es : List Event). length known ≤ length es) (take_all i events past) so.few) events so.steps all_sharing);
  }

  share_all : length flags ≡ length events
  share_all = ap (λ (l : List Bool). length l) all_told ∙ (shares_long (replicate (length events) 1) so.steps ∙ sharing_long known events so.steps all_sharing)

-- of each event so far there is a flag
pub flags_long : (known : List Key) (events : List Event) (i : ℕ) (levels : Levels) (flags : List Bool) → i ≤ length events → SharesSoFar (length events) known (take i events) levels flags → length flags ≡ i
flags_long known events i levels flags inside so =
    ap (λ (l : List Bool). length l) (sym (append-nil flags) ∙ (so.told [] ∙ ap (λ l. all_share l (lefts_from (replicate (length events) 1) l)) (append-nil so.steps)))
    ∙ (shares_long (replicate (length events) 1) so.steps ∙ (sharing_long known (take i events) so.steps so.sharing ∙ length-take-le i events inside))

-- All that is noted on the way.

pub share_begins : (count : ℕ) (starts : List ℕ) (s : Sharing) → starts ≡ replicate count 1 → s.classes ≡ [] → LevelsKept s.levels → ((k : ℕ) → level_at s.levels k ≡ start (slice_index starts k)) → s.flags.items ≡ [] → BeginsShared count s
share_begins count starts s ones none kept begins empty = λ events long. record {
  shares = subst (λ (n : ℕ). SharesSoFar n s.classes [] s.levels s.flags.items) (sym long) (share_none count starts s.classes s.levels s.flags.items ones none kept begins empty);
}

pub share_turn : (events : List Event) (i : ℕ) (d : Event) (old new : Sharing) → i < length events → d ≡ get_or events i d → NotesShare old new d → IsShared events i old → IsShared events (i + 1) new
share_turn events i d old new inside is notes so = record {
  shares = share_next (length events) old.classes new.classes events i d old.levels new.levels old.flags.items new.flags.items notes.flag inside is so.shares notes.next notes.more;
}

pub share_ends : (events : List Event) (i : ℕ) (s : Sharing) → length events ≤ i → IsShared events i s → AreShared events s
share_ends events i s past so = record {
  found = share_done s.classes events i s.levels s.flags.items past so.shares;
  long = share_all s.classes events i s.levels s.flags.items past so.shares;
}

-- Steps of the loops over runs of moves, and over the banks of a run.
use Rattle.std.proofs.Common.{◌≡◌, ℕ, zero, suc, ◌+◌, ◌-◌, ◌<◌, ◌≤◌, ◌==◌, ◌&&◌, nat_lt, Bool, true, false, if◌then◌else◌, List, [], ◌∷◌, ◌++◌, append_assoc, length, map, drop, get_or, replicate, refl, ap, sym, ◌∙◌, subst, arith, inl, inr}
use Rattle.std.specs.Prelude.{Option, Some, None, slice_get, slice_index}
use Rattle.std.specs.List.{AllByRecursion}
use Rattle.std.proofs.lemmas.Bool.{eqb-true}
use Rattle.std.proofs.lemmas.Bool.Decides.{nat_tests}
use Rattle.std.proofs.lemmas.List.{drop_all}
use Rattle.dh_base.specs.declared.places.Place.{Place}
use Rattle.dh_tree.specs.declared.breaches.Breach.{Breach}
use Rattle.dh_tree.specs.LeastBreach.{least_of}
use Rattle.dh_tree.proofs.Leasts.{least_append}
use Rattle.dh_events.specs.declared.classes.Key.{Key}
use Rattle.dh_events.specs.declared.events.Event.{Event}
use Rattle.dh_events.specs.declared.events.Event.TheVariants as event
use Rattle.dh_events.specs.Classes.{KeysAreDistinct, ExtendsKeys}
use Rattle.dh_events.specs.Incidents.{PortEvent}
use Rattle.dh_events.specs.Noted.{all_seen}
use Rattle.dh_events.proofs.Turns.{at_place}
use Rattle.dh_ports.specs.declared.levels.Levels.{Levels}
use Rattle.dh_ports.specs.declared.levels.Step.{Step}
use Rattle.dh_ports.specs.declared.moves.Move.{Move}
use Rattle.dh_ports.specs.declared.moves.Move.TheVariants as move
use Rattle.dh_ports.specs.declared.moves.Run.{Run}
use Rattle.dh_ports.specs.Levels.{advance, left_before, left_before_each, level_at, start}
use Rattle.dh_ports.specs.Orders.{order_of, order_step, slot_in, step_in}
use Rattle.dh_ports.specs.Passing.{all_from, beyond_from, first_from, late_from, KeepsTo}
use Rattle.dh_ports.specs.Runs.{at_slot, claims_so, claim_extends_run, moves_in, moves_of_run, one_claim, moves_in_row, row_to, claimed_slot}
use Rattle.dh_ports.specs.Scanned.{all_late, bank_key, first_beyond, step_exceeds, is_late, late_at, move_place, spending_step, take_of, AreOrdering, ClaimOrdersAt, IsMoveOf, IsNotedClaim, IsNotedFor, IsOrdering, KeepsLate, StepsAt}
use Rattle.dh_ports.proofs.LateWalk.{order_is, slot_found, slot_none}
use Rattle.dh_ports.proofs.LeftTurns.{lefts_same}
use Rattle.dh_ports.proofs.ScanTurns.{noted_still}

absurd : {A : Type 0} → ⊥ → A
absurd e = elim e [ ]

-- Rows.

pub row_step : (m : Move) (slot end : ℕ) → slot < end → moves_in_row m slot (end - slot) ≡ at_slot m slot ∷ moves_in_row m (slot + 1) (end - (slot + 1))
row_step m slot end h =
    let more : end - slot ≡ suc (end - (slot + 1)) = omega (arith, h) in
    let next : suc slot ≡ slot + 1 = omega arith in
    ap (moves_in_row m slot) more ∙ ap (λ k. at_slot m slot ∷ moves_in_row m k (end - (slot + 1))) next

-- a row has no bank from its end on
pub row_past : (m : Move) (slot end : ℕ) → end ≤ slot → ◌≡◌ {A = List Move} [] (moves_in_row m slot (end - slot))
row_past m slot end h = let past : 0 ≡ end - slot = omega (arith, h) in ap (moves_in_row m slot) past

pub row_head : (P : Move → Type 0) (m : Move) (slot end : ℕ) → slot < end → AllByRecursion P (moves_in_row m slot (end - slot)) → P (at_slot m slot)
row_head P m slot end h all = (subst (λ (l : List Move). AllByRecursion P l) (row_step m slot end h) all).0

pub row_rest : (P : Move → Type 0) (m : Move) (slot end : ℕ) → slot < end → AllByRecursion P (moves_in_row m slot (end - slot)) → AllByRecursion P (moves_in_row m (slot + 1) (end - (slot + 1)))
row_rest P m slot end h all = (subst (λ (l : List Move). AllByRecursion P l) (row_step m slot end h) all).1

-- one bank more
pub more_row : (m : Move) (slot many : ℕ) → moves_in_row m slot (suc many) ≡ moves_in_row m slot many ++ at_slot m (slot + many) ∷ []
more_row m slot zero = ap (λ n. at_slot m n ∷ []) (none slot)
  where
    none : (n : ℕ) → n ≡ n + 0
    none n = omega arith
more_row m slot (suc many) = ap (λ l. at_slot m slot ∷ l) (more_row m (suc slot) many ∙ ap (λ n. moves_in_row m (suc slot) many ++ at_slot m n ∷ []) (shift slot many))
  where
    shift : (a b : ℕ) → suc a + b ≡ a + suc b
    shift a b = omega arith

-- the claim of one bank, and a move of no bank, as runs
pub claim_row : (event slot keys : ℕ) → row_to (move.Claim event slot keys) (slot + 1) ≡ one_claim event slot keys
claim_row event slot keys = let one : slot + 1 - slot ≡ suc zero = omega arith in ap (moves_in_row (move.Claim event slot keys) slot) one

one_left : 1 - 0 ≡ suc zero
one_left = omega arith

pub begin_row : row_to move.Begin 1 ≡ move.Begin ∷ []
begin_row = ap (moves_in_row move.Begin 0) one_left

pub next_row : row_to move.Next 1 ≡ move.Next ∷ []
next_row = ap (moves_in_row move.Next 0) one_left

pub end_row : row_to move.End 1 ≡ move.End ∷ []
end_row = ap (moves_in_row move.End 0) one_left

-- the claim of a bank that goes on with a run
both_true : (a b : Bool) → (a && b) ≡ true → (a ≡ true) × (b ≡ true)
both_true true b e = (refl, e)
both_true false b e = absurd (cc)

pub longer : (r : Run) (event slot keys : ℕ) → claim_extends_run r event slot keys ≡ true → row_to r.first (slot + 1) ≡ moves_of_run r ++ one_claim event slot keys
longer r event slot keys h = of_first r.first r.end h
  where
    never : ◌≡◌ {A = Bool} false true → ⊥
    never e = cc

    under : (a b : ℕ) → nat_lt a b ≡ true → a < b
    under a b e = grind (arith, nat_tests)

    many : (from end slot : ℕ) → from < end → end ≡ slot → slot + 1 - from ≡ suc (end - from)
    many from end slot e f = omega (arith, e, f)

    last : (from end slot : ℕ) → from < end → end ≡ slot → from + (end - from) ≡ slot
    last from end slot e f = omega (arith, e, f)

    of_claim : (other from each end : ℕ) → other ≡ event → each ≡ keys → from < end → end ≡ slot → row_to (move.Claim other from each) (slot + 1) ≡ row_to (move.Claim other from each) end ++ one_claim event slot keys
    of_claim other from each end a b less is =
        ap (moves_in_row (move.Claim other from each) from) (many from end slot less is)
        ∙ (more_row (move.Claim other from each) from (end - from)
        ∙ ap (λ m. row_to (move.Claim other from each) end ++ m ∷ []) (ap (λ n. move.Claim other n each) (last from end slot less is) ∙ (ap (λ n. move.Claim n slot each) a ∙ ap (λ n. move.Claim event slot n) b)))

    of_first : (m : Move) (end : ℕ) → (claims_so m event keys && (nat_lt (claimed_slot m) end && (end == slot))) ≡ true → row_to m (slot + 1) ≡ row_to m end ++ one_claim event slot keys
    of_first (move.Claim other from each) end e =
        let whole = both_true ((other == event) && (each == keys)) (nat_lt from end && (end == slot)) e in
        let same = both_true (other == event) (each == keys) whole.0 in
        let next = both_true (nat_lt from end) (end == slot) whole.1 in
        of_claim other from each end (eqb-true other event same.0) (eqb-true each keys same.1) (under from end next.0) (eqb-true end slot next.1)
    of_first move.Begin end e = absurd (never e)
    of_first move.Next end e = absurd (never e)
    of_first move.End end e = absurd (never e)

-- Runs.

abbrev pub run_by : Move → (end : ℕ) → Run
run_by first end = record { first = first; end = end }

-- what stands at no place of a list of runs
abbrev pub no_run : Run
no_run = run_by (move.Claim 0 0 0) 0

-- one run more
pub moves_more : (rs : List Run) (r : Run) → moves_in (rs ++ r ∷ []) ≡ moves_in rs ++ moves_of_run r
moves_more [] r = append_none (moves_of_run r)
  where
    append_none : (ms : List Move) → ms ++ [] ≡ ms
    append_none [] = refl
    append_none (m ∷ ms) = ap (λ l. m ∷ l) (append_none ms)
moves_more (x ∷ rs) r = ap (λ l. moves_of_run x ++ l) (moves_more rs r) ∙ sym (append_assoc (moves_of_run x) (moves_in rs) (moves_of_run r))

pub run_pushed : (old new : List Run) (first : Move) (end : ℕ) → new ≡ old ++ run_by first end ∷ [] → moves_in new ≡ moves_in old ++ row_to first end
run_pushed old new first end e = ap moves_in e ∙ moves_more old (run_by first end)

pub run_popped : (old new : List Run) (last : Run) → old ≡ new ++ last ∷ [] → moves_in old ≡ moves_in new ++ moves_of_run last
run_popped old new last e = ap moves_in e ∙ moves_more new last

pub runs_at : (rs : List Run) (i : ℕ) (d : Run) → i < length rs → moves_in (drop i rs) ≡ moves_of_run (get_or rs i d) ++ moves_in (drop (i + 1) rs)
runs_at rs i d inside = ap moves_in (at_place rs i d inside)

all_first : (P : Move → Type 0) (xs ys : List Move) → AllByRecursion P (xs ++ ys) → AllByRecursion P xs
all_first P [] ys h = tt
all_first P (x ∷ xs) ys h = (h.0, all_first P xs ys h.1)

all_rest : (P : Move → Type 0) (xs ys : List Move) → AllByRecursion P (xs ++ ys) → AllByRecursion P ys
all_rest P [] ys h = h
all_rest P (x ∷ xs) ys h = all_rest P xs ys h.1

pub all_both : (P : Move → Type 0) (xs ys : List Move) → AllByRecursion P xs → AllByRecursion P ys → AllByRecursion P (xs ++ ys)
all_both P [] ys h i = i
all_both P (x ∷ xs) ys h i = (h.0, all_both P xs ys h.1 i)

pub run_here : (P : Move → Type 0) (rs : List Run) (i : ℕ) (d : Run) → i < length rs → AllByRecursion P (moves_in (drop i rs)) → AllByRecursion P (moves_of_run (get_or rs i d))
run_here P rs i d inside h = all_first P (moves_of_run (get_or rs i d)) (moves_in (drop (i + 1) rs)) (subst (λ (l : List Move). AllByRecursion P l) (runs_at rs i d inside) h)

pub run_rest : (P : Move → Type 0) (rs : List Run) (i : ℕ) (d : Run) → i < length rs → AllByRecursion P (moves_in (drop i rs)) → AllByRecursion P (moves_in (drop (i + 1) rs))
run_rest P rs i d inside h = all_rest P (moves_of_run (get_or rs i d)) (moves_in (drop (i + 1) rs)) (subst (λ (l : List Move). AllByRecursion P l) (runs_at rs i d inside) h)

-- Ports.

module _ (whole : List PortEvent) (shared : List Bool) where
  -- a move that takes no more than is left
  spent_pass : (old new : Levels) (m : Move) → step_exceeds (spending_step shared m) (left_before (spending_step shared m) (λ k. level_at old k)) ≡ false → ((k : ℕ) → level_at new k ≡ advance k (spending_step shared m) (level_at old k)) → (rest : List Move)
      → beyond_from whole shared new rest ≡ beyond_from whole shared old (m ∷ rest)
  spent_pass old new m within stepped rest =
      ap (λ ls. first_beyond whole rest (map (spending_step shared) rest) ls) (lefts_same (λ k. level_at new k) (λ k. advance k (spending_step shared m) (level_at old k)) stepped (map (spending_step shared) rest))
      ∙ sym (ap (λ b. if b then move_place whole m else first_beyond whole rest (map (spending_step shared) rest) (left_before_each (λ k. advance k (spending_step shared m) (level_at old k)) (map (spending_step shared) rest))) within)

  -- and one that takes more
  spent_stop : (old : Levels) (m : Move) → step_exceeds (spending_step shared m) (left_before (spending_step shared m) (λ k. level_at old k)) ≡ true → (rest : List Move) → move_place whole m ≡ beyond_from whole shared old (m ∷ rest)
  spent_stop old m beyond rest =
      sym (ap (λ b. if b then move_place whole m else first_beyond whole rest (map (spending_step shared) rest) (left_before_each (λ k. advance k (spending_step shared m) (level_at old k)) (map (spending_step shared) rest))) beyond)

  module _ (first m : Move) (slot end : ℕ) (first_levels old : Levels) (s : Step) (left : ℕ) (over : Bool) (inside : slot < end) (move_is : m ≡ at_slot first slot) (step_is : s ≡ spending_step shared m) (left_is : left ≡ left_before s (λ k. level_at old k)) (over_is : over ≡ step_exceeds s left)
      (ms : List Move) (so : (rest : List Move) → beyond_from whole shared old (moves_in_row first slot (end - slot) ++ rest) ≡ beyond_from whole shared first_levels (ms ++ rest)) where
    spent_test : (b : Bool) → over ≡ b → step_exceeds (spending_step shared m) (left_before (spending_step shared m) (λ k. level_at old k)) ≡ b
    spent_test b e = sym (over_is ∙ (ap (step_exceeds s) left_is ∙ ap (λ x. step_exceeds x (left_before x (λ k. level_at old k))) step_is)) ∙ e

    -- the rest of the row, behind its first move
    spent_row : (rest : List Move) → beyond_from whole shared old (m ∷ (moves_in_row first (slot + 1) (end - (slot + 1)) ++ rest)) ≡ beyond_from whole shared first_levels (ms ++ rest)
    spent_row rest =
        ap (λ x. beyond_from whole shared old (x ∷ (moves_in_row first (slot + 1) (end - (slot + 1)) ++ rest))) move_is
        ∙ (ap (λ l. beyond_from whole shared old (l ++ rest)) (sym (row_step first slot end inside)) ∙ so rest)

    pub spent_turn : (new : Levels) → over ≡ false → ((k : ℕ) → level_at new k ≡ advance k s (level_at old k)) → (rest : List Move) → beyond_from whole shared new (moves_in_row first (slot + 1) (end - (slot + 1)) ++ rest) ≡ beyond_from whole shared first_levels (ms ++ rest)
    spent_turn new within stepped rest =
        spent_pass old new m (spent_test false within) (λ k. stepped k ∙ ap (λ x. advance k x (level_at old k)) step_is) (moves_in_row first (slot + 1) (end - (slot + 1)) ++ rest)
        ∙ spent_row rest

    pub spent_here : (place : Option Place) → over ≡ true → place ≡ move_place whole m → (rest : List Move) → place ≡ beyond_from whole shared first_levels (ms ++ rest)
    spent_here place beyond place_is rest = place_is ∙ (spent_stop old m (spent_test true beyond) (moves_in_row first (slot + 1) (end - (slot + 1)) ++ rest) ∙ spent_row rest)

  pub spent_row_done : (first : Move) (slot end : ℕ) (first_levels old : Levels) (ms : List Move) → end ≤ slot → ((rest : List Move) → beyond_from whole shared old (moves_in_row first slot (end - slot) ++ rest) ≡ beyond_from whole shared first_levels (ms ++ rest))
      → (rest : List Move) → beyond_from whole shared old rest ≡ beyond_from whole shared first_levels (ms ++ rest)
  spent_row_done first slot end first_levels old ms past so rest = ap (λ l. beyond_from whole shared old (l ++ rest)) (row_past first slot end past) ∙ so rest

  -- from so much of each slot on
  pub spent_start : (starts : List ℕ) (levels : Levels) (ms : List Move) → ((s : ℕ) → level_at levels s ≡ start (slice_index starts s)) → beyond_from whole shared levels ms ≡ first_from whole shared starts ms
  spent_start starts levels ms e = ap (λ ls. first_beyond whole ms (map (spending_step shared) ms) ls) (lefts_same (λ s. level_at levels s) (λ s. start (slice_index starts s)) e (map (spending_step shared) ms))

  -- one run more
  spent_join : (rs : List Run) (i : ℕ) (d : Run) (old : Levels) → i < length rs → (rest : List Move) → beyond_from whole shared old (moves_of_run (get_or rs i d) ++ (moves_in (drop (i + 1) rs) ++ rest)) ≡ beyond_from whole shared old (moves_in (drop i rs) ++ rest)
  spent_join rs i d old inside rest = ap (beyond_from whole shared old) (sym (append_assoc (moves_of_run (get_or rs i d)) (moves_in (drop (i + 1) rs)) rest) ∙ ap (λ l. l ++ rest) (sym (runs_at rs i d inside)))

  module _ (rs : List Run) (i : ℕ) (d : Run) (first old : Levels) (ms : List Move) (inside : i < length rs) (so : (rest : List Move) → beyond_from whole shared old (moves_in (drop i rs) ++ rest) ≡ beyond_from whole shared first (ms ++ rest)) where
    pub spent_run : (new : Levels) → ((rest : List Move) → beyond_from whole shared new rest ≡ beyond_from whole shared old (moves_of_run (get_or rs i d) ++ rest)) → (rest : List Move) → beyond_from whole shared new (moves_in (drop (i + 1) rs) ++ rest) ≡ beyond_from whole shared first (ms ++ rest)
    spent_run new turns rest = turns (moves_in (drop (i + 1) rs) ++ rest) ∙ (spent_join rs i d old inside rest ∙ so rest)

    pub spent_ends : (found : Option Place) → ((rest : List Move) → found ≡ beyond_from whole shared old (moves_of_run (get_or rs i d) ++ rest)) → (rest : List Move) → found ≡ beyond_from whole shared first (ms ++ rest)
    spent_ends found stops rest = stops (moves_in (drop (i + 1) rs) ++ rest) ∙ (spent_join rs i d old inside rest ∙ so rest)

  pub spent_done : (rs : List Run) (i : ℕ) (first levels : Levels) (ms : List Move) → length rs ≤ i → ((rest : List Move) → beyond_from whole shared levels (moves_in (drop i rs) ++ rest) ≡ beyond_from whole shared first (ms ++ rest)) → (rest : List Move) → beyond_from whole shared levels rest ≡ beyond_from whole shared first (ms ++ rest)
  spent_done rs i first levels ms past so rest = ap (λ l. beyond_from whole shared levels (moves_in l ++ rest)) (sym (drop_all i rs past)) ∙ so rest

-- Order.

-- each step of a function is one by the definition
steps_told : (known : List Key) (k : Key) (takes : ℕ) → StepsAt known k takes (step_in (slot_in known k) takes)
steps_told known k takes = by_slot (slot_in known k) refl
  where
    by_slot : (o : Option ℕ) → slot_in known k ≡ o → StepsAt known k takes (step_in o takes)
    by_slot None e = inr (slot_none known k e, refl)
    by_slot (Some s) e = inl (s, (slot_found known k s e, refl))

one_told : (known : List Key) (events : List Event) (m : Move) → IsMoveOf (length events) m → IsOrdering known events m (order_step known events m)
one_told known events (move.Claim e bank keys) h = of_event (slice_get events e) (there events e h)
  where
    none : (n : ℕ) → n < 0 → ⊥
    none n e = omega (arith, e)

    less : (m n : ℕ) → suc m < suc n → m < n
    less m n e = omega (arith, e)

    there : (es : List Event) (i : ℕ) → i < length es → slice_get es i ≡ None → ⊥
    there [] i inside e = none i inside
    there (x ∷ es) zero inside e = cc
    there (x ∷ es) (suc i) inside e = there es i (less i (length es) inside) e

    of_event : (o : Option Event) → (o ≡ None → ⊥) → ClaimOrdersAt known o bank (order_of known o bank)
    of_event None given = given refl
    of_event (Some (event.Touch writes phase round access element newest)) given = steps_told known (bank_key phase bank) (take_of writes)
    of_event (Some (event.Assigned entity)) given = refl
    of_event (Some event.ArmBegins) given = refl
    of_event (Some event.ArmEnds) given = refl
    of_event (Some event.Begins) given = refl
    of_event (Some event.Next) given = refl
    of_event (Some event.Ends) given = refl
one_told known events move.Begin h = refl
one_told known events move.Next h = refl
one_told known events move.End h = refl

orders_told : (known : List Key) (events : List Event) (ms : List Move) → AllByRecursion (IsMoveOf (length events)) ms → AreOrdering known events ms (map (order_step known events) ms)
orders_told known events [] h = tt
orders_told known events (m ∷ ms) h = (one_told known events m h.0, orders_told known events ms h.1)

pub keeps_late : (known : List Key) (events : List Event) (ms : List Move) (before after : Option Breach) (starts : List ℕ) → KeysAreDistinct known → AllByRecursion (IsMoveOf (length events)) ms → AllByRecursion (IsNotedFor known events) ms
    → starts ≡ replicate (length known) 1 → after ≡ least_of before (all_from known events starts ms) → KeepsLate events ms before after
keeps_late known events ms before after starts distinct within written ones kept = record {
  late = all_from known events (replicate (length known) 1) ms;
  found = record {
    known = known;
    distinct = distinct;
    written = written;
    steps = map (order_step known events) ms;
    ordering = orders_told known events ms within;
    told = refl;
  };
  kept = kept ∙ ap (λ (l : List ℕ). least_of before (all_from known events l ms)) ones;
}

module _ (known : List Key) (events : List Event) where
  -- what stands behind a move
  abbrev rest_late : (old : Levels) (m : Move) (rest : List Move) → List Breach
  rest_late old m rest = all_late (all_seen events) rest (map (order_step known events) rest) (left_before_each (λ k. advance k (order_step known events m) (level_at old k)) (map (order_step known events) rest))

  abbrev tested : (old : Levels) (m : Move) (rest : List Move) → Bool → List Breach
  tested old m rest b = if b then late_at (move_place (all_seen events) m) ++ rest_late old m rest else rest_late old m rest

  behind_same : (old new : Levels) (m : Move) → ((k : ℕ) → level_at new k ≡ advance k (order_step known events m) (level_at old k)) → (rest : List Move) → late_from known events new rest ≡ rest_late old m rest
  behind_same old new m stepped rest =
      ap (λ ls. all_late (all_seen events) rest (map (order_step known events) rest) ls) (lefts_same (λ k. level_at new k) (λ k. advance k (order_step known events m) (level_at old k)) stepped (map (order_step known events) rest))

  -- a read that finds nothing left is kept, and another move keeps what was kept
  late_pass : (old new : Levels) (m : Move) (before after : Option Breach) → is_late (order_step known events m) (left_before (order_step known events m) (λ k. level_at old k)) ≡ true → after ≡ least_of before (late_at (move_place (all_seen events) m))
      → ((k : ℕ) → level_at new k ≡ advance k (order_step known events m) (level_at old k)) → (rest : List Move) → least_of after (late_from known events new rest) ≡ least_of before (late_from known events old (m ∷ rest))
  late_pass old new m before after late kept stepped rest =
      ap (λ b. least_of b (late_from known events new rest)) kept
      ∙ (sym (least_append before (late_at (move_place (all_seen events) m)) (late_from known events new rest))
      ∙ (ap (λ l. least_of before (late_at (move_place (all_seen events) m) ++ l)) (behind_same old new m stepped rest)
      ∙ sym (ap (λ b. least_of before (tested old m rest b)) late)))

  other_pass : (old new : Levels) (m : Move) (before after : Option Breach) → is_late (order_step known events m) (left_before (order_step known events m) (λ k. level_at old k)) ≡ false → after ≡ before
      → ((k : ℕ) → level_at new k ≡ advance k (order_step known events m) (level_at old k)) → (rest : List Move) → least_of after (late_from known events new rest) ≡ least_of before (late_from known events old (m ∷ rest))
  other_pass old new m before after late kept stepped rest =
      ap (λ b. least_of b (late_from known events new rest)) kept
      ∙ (ap (least_of before) (behind_same old new m stepped rest)
      ∙ sym (ap (λ b. least_of before (tested old m rest b)) late))

  module _ (distinct : KeysAreDistinct known) (first m : Move) (slot end : ℕ) (first_levels old new : Levels) (s : Step) (left : ℕ) (late : Bool) (inside : slot < end) (move_is : m ≡ at_slot first slot) (ordering : IsOrdering known events m s) (left_is : left ≡ left_before s (λ k. level_at old k)) (late_is : late ≡ is_late s left)
      (stepped : (k : ℕ) → level_at new k ≡ advance k s (level_at old k)) (ms : List Move) (first_kept kept : Option Breach) (so : (rest : List Move) → least_of kept (late_from known events old (moves_in_row first slot (end - slot) ++ rest)) ≡ least_of first_kept (late_from known events first_levels (ms ++ rest))) where
    late_test : (b : Bool) → late ≡ b → is_late (order_step known events m) (left_before (order_step known events m) (λ k. level_at old k)) ≡ b
    late_test b e = sym (late_is ∙ (ap (is_late s) left_is ∙ ap (λ x. is_late x (left_before x (λ k. level_at old k))) (order_is known distinct events m s ordering))) ∙ e

    steps_on : (k : ℕ) → level_at new k ≡ advance k (order_step known events m) (level_at old k)
    steps_on k = stepped k ∙ ap (λ x. advance k x (level_at old k)) (order_is known distinct events m s ordering)

    late_row : (rest : List Move) → least_of kept (late_from known events old (m ∷ (moves_in_row first (slot + 1) (end - (slot + 1)) ++ rest))) ≡ least_of first_kept (late_from known events first_levels (ms ++ rest))
    late_row rest =
        ap (λ x. least_of kept (late_from known events old (x ∷ (moves_in_row first (slot + 1) (end - (slot + 1)) ++ rest)))) move_is
        ∙ (ap (λ l. least_of kept (late_from known events old (l ++ rest))) (sym (row_step first slot end inside)) ∙ so rest)

    pub late_turn : (after : Option Breach) (place : Option Place) → late ≡ true → place ≡ move_place (all_seen events) m → after ≡ least_of kept (late_at place)
        → (rest : List Move) → least_of after (late_from known events new (moves_in_row first (slot + 1) (end - (slot + 1)) ++ rest)) ≡ least_of first_kept (late_from known events first_levels (ms ++ rest))
    late_turn after place is_so place_is kept_is rest =
        late_pass old new m kept after (late_test true is_so) (kept_is ∙ ap (λ q. least_of kept (late_at q)) place_is) steps_on (moves_in_row first (slot + 1) (end - (slot + 1)) ++ rest)
        ∙ late_row rest

    pub other_turn : (after : Option Breach) → late ≡ false → after ≡ kept → (rest : List Move) → least_of after (late_from known events new (moves_in_row first (slot + 1) (end - (slot + 1)) ++ rest)) ≡ least_of first_kept (late_from known events first_levels (ms ++ rest))
    other_turn after is_so kept_is rest = other_pass old new m kept after (late_test false is_so) kept_is steps_on (moves_in_row first (slot + 1) (end - (slot + 1)) ++ rest) ∙ late_row rest

  pub late_row_done : (first : Move) (slot end : ℕ) (first_levels old : Levels) (ms : List Move) (first_kept kept : Option Breach) → end ≤ slot → ((rest : List Move) → least_of kept (late_from known events old (moves_in_row first slot (end - slot) ++ rest)) ≡ least_of first_kept (late_from known events first_levels (ms ++ rest)))
      → (rest : List Move) → least_of kept (late_from known events old rest) ≡ least_of first_kept (late_from known events first_levels (ms ++ rest))
  late_row_done first slot end first_levels old ms first_kept kept past so rest = ap (λ l. least_of kept (late_from known events old (l ++ rest))) (row_past first slot end past) ∙ so rest

  -- from so much of each slot on
  pub late_start : (starts : List ℕ) (levels : Levels) (ms : List Move) (kept : Option Breach) → ((s : ℕ) → level_at levels s ≡ start (slice_index starts s)) → least_of kept (late_from known events levels ms) ≡ least_of kept (all_from known events starts ms)
  late_start starts levels ms kept e =
      ap (λ ls. least_of kept (all_late (all_seen events) ms (map (order_step known events) ms) ls)) (lefts_same (λ s. level_at levels s) (λ s. start (slice_index starts s)) e (map (order_step known events) ms))

  -- one run more
  pub late_run : (rs : List Run) (i : ℕ) (d : Run) (old new : Levels) (whole before after : Option Breach) → i < length rs → least_of before (late_from known events old (moves_in (drop i rs))) ≡ whole → KeepsTo known events before old (moves_of_run (get_or rs i d)) after new
      → least_of after (late_from known events new (moves_in (drop (i + 1) rs))) ≡ whole
  late_run rs i d old new whole before after inside so keeps = keeps.late (moves_in (drop (i + 1) rs)) ∙ (ap (λ l. least_of before (late_from known events old l)) (sym (runs_at rs i d inside)) ∙ so)

  pub late_done : (rs : List Run) (i : ℕ) (levels : Levels) (kept whole : Option Breach) → length rs ≤ i → least_of kept (late_from known events levels (moves_in (drop i rs))) ≡ whole → kept ≡ whole
  late_done rs i levels kept whole past so = ap (λ l. least_of kept (late_from known events levels (moves_in l))) (sym (drop_all i rs past)) ∙ so

-- Keys that are written. Whatever keys there come to be: where the rest is noted, all is.

abbrev pub NotesAll : List Key → List Event → (rest whole : List Move) → Type 0
NotesAll known events rest whole = (more : List Key) → ExtendsKeys known more → AllByRecursion (IsNotedClaim more events) rest → AllByRecursion (IsNotedClaim more events) whole

pub notes_first : (known : List Key) (events : List Event) (ms : List Move) → NotesAll known events ms ms
notes_first known events ms = λ more extends h. h

pub extends_none : (known : List Key) → ExtendsKeys known known
extends_none known = λ n k e. e

pub extends_both : (a b c : List Key) → ExtendsKeys a b → ExtendsKeys b c → ExtendsKeys a c
extends_both a b c f g = λ n k e. g n k (f n k e)

pub note_turn : (old new : List Key) (events : List Event) (first m : Move) (slot end : ℕ) (whole : List Move) → slot < end → m ≡ at_slot first slot → ExtendsKeys old new → IsNotedClaim new events m → NotesAll old events (moves_in_row first slot (end - slot)) whole
    → NotesAll new events (moves_in_row first (slot + 1) (end - (slot + 1))) whole
note_turn old new events first m slot end whole inside is extends noted so = λ more further h.
    so more (extends_both old new more extends further)
    (subst (λ (l : List Move). AllByRecursion (IsNotedClaim more events) l) (sym (row_step first slot end inside)) (subst (λ (x : Move). IsNotedClaim more events x) is (noted_still new more further events m noted), h))

pub note_row_done : (known : List Key) (events : List Event) (first : Move) (slot end : ℕ) (whole : List Move) → end ≤ slot → NotesAll known events (moves_in_row first slot (end - slot)) whole → AllByRecursion (IsNotedClaim known events) whole
note_row_done known events first slot end whole past so = so known (extends_none known) (subst (λ (l : List Move). AllByRecursion (IsNotedClaim known events) l) (row_past first slot end past) tt)

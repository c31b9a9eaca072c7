-- The first breach of the rules on ports, from where ports are spent and which reads are late.
use Rattle.std.proofs.Common.{◌≡◌, ℕ, zero, suc, ◌<◌, ◌≤◌, Bool, true, false, if◌then◌else◌, List, [], ◌∷◌, ◌++◌, length, Contains, refl, ap, sym, ◌∙◌, subst, arith, inl, inr}
use mathlib.Core.Path.{fun_ext}
use Rattle.std.specs.Prelude.{Option, Some, None, option_map, slice_get}
use Rattle.std.proofs.lemmas.List.Elements.{Contains-append_cases}
use Rattle.dh_base.specs.declared.places.Place.{Place}
use Rattle.dh_base.specs.declared.rules.Rule.TheVariants as rule
use Rattle.dh_tree.specs.declared.breaches.Breach.{Breach}
use Rattle.dh_tree.specs.declared.trees.counters.Counter.{Counter}
use Rattle.dh_tree.specs.LeastBreach.{breach, least_of}
use Rattle.dh_tree.specs.Memories.{table_of}
use Rattle.dh_tree.specs.PlainTrees.{Term, Program}
use Rattle.dh_tree.proofs.FirstBreaches.{none_is_kept, least_is_kept}
use Rattle.dh_meets.specs.Ports.{KeepsPorts, PortsSpent, ReadsAfterWrite, IsPortBreach}
use Rattle.dh_events.specs.declared.events.Event.{Event}
use Rattle.dh_events.specs.declared.events.Site.{Site}
use Rattle.dh_ports.specs.declared.levels.Step.{Step}
use Rattle.dh_ports.specs.declared.moves.ProgramLayout.{ProgramLayout}
use Rattle.dh_ports.specs.declared.moves.Move.{Move}
use Rattle.dh_events.specs.Accesses.{loops_listed}
use Rattle.dh_ports.specs.Claims.{moves_from}
use Rattle.dh_ports.specs.Copies.{copies_round}
use Rattle.dh_ports.specs.Courses.{access_count}
use Rattle.dh_events.specs.declared.events.Notes.{Notes}
use Rattle.dh_events.specs.declared.structures.Structure.{Structure}
use Rattle.dh_events.specs.Elements.{AreReads, no_clocks, IsNoted}
use Rattle.dh_events.specs.Incidents.{PortEvent, touches, assigned, arm_begins, arm_ends, begins, next, ends, closed, incidents}
use Rattle.dh_ports.specs.EventMoves.{moves_known}
use Rattle.dh_ports.specs.Layouts.{IsLayout, HaveFewCopies}
use Rattle.dh_events.specs.Noted.{event_seen, all_seen}
use Rattle.dh_ports.specs.Scanned.{is_late, late_at, move_place, all_late, spent_place, ports_spent_breach, FindsLate, KeepsLate}
use Rattle.dh_events.specs.Stages.{stages_in}
use Rattle.dh_events.specs.Structures.{StructuresAreDistinct}
use Rattle.dh_events.specs.Tables.{table_at}
use Rattle.dh_meets.specs.FewCopies.{HasFewCopies}
use Rattle.dh_base.specs.Limits.{most_copies}
use Rattle.dh_ports.specs.Told.{TellsFirst}
use Rattle.dh_ports.specs.Wholes.{no_stages, happenings_of, sites_in, TellsLoops, loops_known, AreEventsOf, TellsSpent, TellsLate}
use Rattle.dh_ports.proofs.PlacesOnce.{spent_once, kept_not_spent}
use Rattle.dh_ports.proofs.SpentTold.{whole_is, access_there}

absurd : {A : Type 0} → ⊥ → A
absurd e = elim e [ ]

some_same : {A : Type 0} (x y : A) → Some x ≡ Some y → x ≡ y
some_same x y e = cc

-- What is kept.

nothing_in : (b : Breach) → Contains [] b → ⊥
nothing_in b (k, l, e) = none k l
  where
    none : (k : ℕ) → k < 0 → ⊥
    none k e = omega (arith, e)

one_late : (o : Option Place) (b : Breach) → Contains (late_at o) b → b ≡ breach rule.ReadAfterWrite b.place
one_late None b c = absurd (nothing_in b c)
one_late (Some place) b (zero, l, e) = sym e ∙ ap (λ q. breach rule.ReadAfterWrite q) (ap (λ (x : Breach). x.place) e)
one_late (Some place) b (suc k, l, e) = absurd (none k l)
  where
    none : (k : ℕ) → suc k < 1 → ⊥
    none k e = omega (arith, e)

late_reads : (whole : List PortEvent) (ms : List Move) (ss : List Step) (ls : List ℕ) (b : Breach) → Contains (all_late whole ms ss ls) b → b ≡ breach rule.ReadAfterWrite b.place
late_reads whole [] ss ls b c = absurd (nothing_in b c)
late_reads whole (m ∷ ms) [] ls b c = absurd (nothing_in b c)
late_reads whole (m ∷ ms) (s ∷ ss) [] b c = absurd (nothing_in b c)
late_reads whole (m ∷ ms) (s ∷ ss) (l ∷ ls) b c = by_test (is_late s l) c (late_reads whole ms ss ls b)
  where
    by_test : (t : Bool) → Contains (if t then late_at (move_place whole m) ++ all_late whole ms ss ls else all_late whole ms ss ls) b → (Contains (all_late whole ms ss ls) b → b ≡ breach rule.ReadAfterWrite b.place) → b ≡ breach rule.ReadAfterWrite b.place
    by_test true c rest = elim (Contains-append_cases (late_at (move_place whole m)) (all_late whole ms ss ls) b c) [ inl d ↦ one_late (move_place whole m) b d | inr d ↦ rest d ]
    by_test false c rest = rest c

module _ (p : Program) (late : List Breach) (tells : TellsLate p late) (only : (b : Breach) → Contains late b → b ≡ breach rule.ReadAfterWrite b.place) where
  is_read : (b : Breach) → Contains late b → IsPortBreach p b
  is_read b c = inr (only b c, (tells b.place).0 (subst (λ (x : Breach). Contains late x) (only b c) c))

  read_is : (o : Breach) → o ≡ breach rule.ReadAfterWrite o.place → ReadsAfterWrite p o.place → Contains late o
  read_is o e r = subst (λ (x : Breach). Contains late x) (sym e) ((tells o.place).1 r)

  -- no ports are spent
  kept_told : KeepsPorts p → (o : Option Breach) → least_of None late ≡ o → TellsFirst p o
  kept_told k None e = record { ports = k; order = λ place r. nothing_in (breach rule.ReadAfterWrite place) (subst (λ (l : List Breach). Contains l (breach rule.ReadAfterWrite place)) (none_is_kept late e) ((tells place).1 r)) }
  kept_told k (Some b) e = let l = least_is_kept late b e in record {
    breaks = is_read b l.among;
    first = λ o h before. elim h [ inl s ↦ kept_not_spent p o.place k s.1 | inr r ↦ l.least o (read_is o r.0 r.1) before ];
  }

  -- ports are spent at a place
  more_in : (x o : Breach) → Contains late o → Contains (x ∷ late) o
  more_in x o (k, l, e) = (suc k, more k (length late) l, e)
    where
      more : (k n : ℕ) → k < n → suc k < suc n
      more k n e = omega (arith, e)

  first_in : (x : Breach) → Contains (x ∷ late) x
  first_in x = (zero, some (length late), refl)
    where
      some : (n : ℕ) → 0 < suc n
      some n = omega arith

  spent_told_by : (place : Place) → PortsSpent p place → (o : Option Breach) → least_of None (breach rule.PortsSpent place ∷ late) ≡ o → TellsFirst p o
  spent_told_by place s None e = absurd (apart (breach rule.PortsSpent place) late (none_is_kept (breach rule.PortsSpent place ∷ late) e))
    where
      apart : (x : Breach) (xs : List Breach) → ◌≡◌ {A = List Breach} (x ∷ xs) [] → ⊥
      apart x xs e = cc
  spent_told_by place s (Some b) e = let l = least_is_kept (breach rule.PortsSpent place ∷ late) b e in record {
    breaks = breaks_so l.among;
    first = λ o h before. elim h [
      | inl t ↦ l.least o (subst (λ (x : Breach). Contains (breach rule.PortsSpent place ∷ late) x) (sym (t.0 ∙ ap (λ q. breach rule.PortsSpent q) (spent_once p o.place place t.1 s))) (first_in (breach rule.PortsSpent place))) before
      | inr r ↦ l.least o (more_in (breach rule.PortsSpent place) o (read_is o r.0 r.1)) before
    ];
  }
    where
      breaks_so : Contains (breach rule.PortsSpent place ∷ late) b → IsPortBreach p b
      breaks_so (zero, l, e) = inl (sym e ∙ ap (λ q. breach rule.PortsSpent q) (ap (λ (x : Breach). x.place) e), subst (λ (q : Place). PortsSpent p q) (ap (λ (x : Breach). x.place) e) s)
      breaks_so (suc k, l, e) = is_read b (k, less k (length late) l, e)
        where
          less : (k n : ℕ) → suc k < suc n → k < n
          less k n e = omega (arith, e)

  first_told : (place : Option Place) → TellsSpent p place → (o : Option Breach) → least_of (ports_spent_breach place) late ≡ o → TellsFirst p o
  first_told None s o e = kept_told s o e
  first_told (Some place) s o e = spent_told_by place s o e

-- The whole.

found_first : (p : Program) (events : List Event) (flags : List Bool) (moves : List Move) → moves ≡ moves_from p (loops_known p) 0 (all_seen events)
    → TellsSpent p (spent_place (table_of p) events flags (moves_from p (loops_known p) 0 (all_seen events))) → ((late : List Breach) → FindsLate events (moves_from p (loops_known p) 0 (all_seen events)) late → TellsLate p late)
    → (place : Option Place) → place ≡ spent_place (table_of p) events flags moves → (old new : Option Breach) → old ≡ ports_spent_breach place → KeepsLate events moves old new → TellsFirst p new
found_first p events flags moves moves_are tells_spent tells_late place place_is old new old_is kept =
    let late_finds : FindsLate events (moves_from p (loops_known p) 0 (all_seen events)) kept.late = subst (λ (ms : List Move). FindsLate events ms kept.late) moves_are kept.found in
    let spent : TellsSpent p place = subst (λ (o : Option Place). TellsSpent p o) (sym (place_is ∙ ap (λ ms. spent_place (table_of p) events flags ms) moves_are)) tells_spent in
    first_told p kept.late (tells_late kept.late late_finds)
    (λ b c. late_reads (all_seen events) _ kept.found.steps _ b (subst (λ (l : List Breach). Contains l b) kept.found.told c)) place spent new (sym (kept.kept ∙ ap (λ o. least_of o kept.late) old_is))

-- the loops that the layout knows
layout_loops : (p : Program) (layout : ProgramLayout) → IsLayout p layout → ◌≡◌ {A = Option ℕ → List Counter} (loops_listed layout.rounds.items) (loops_known p)
layout_loops p layout l = fun_ext each
  where
    each : (o : Option ℕ) → loops_listed layout.rounds.items o ≡ loops_known p o
    each None = refl
    each (Some id) = ap (λ (f : ℕ → List Counter). f id) l.rounds

-- the number of an access by its event
number_at : (xs : List PortEvent) (i : ℕ) (t : Term) (w : Bool) (s : Site) → slice_get xs i ≡ Some (touches t w s) → (k : ℕ) × ((slice_get (sites_in xs) k ≡ Some s) × (k < access_count xs))
number_at [] i t w s e = cc
number_at (touches u v z ∷ xs) zero t w s e = (0, (ap (λ x. Some x) (site_same u t v w z s (some_same _ _ e)), some (access_count xs)))
  where
    site_same : (u t : Term) (v w : Bool) (z s : Site) → touches u v z ≡ touches t w s → z ≡ s
    site_same u t v w z s e = cc

    some : (n : ℕ) → 0 < suc n
    some n = omega arith
number_at (touches u v z ∷ xs) (suc i) t w s e = let r = number_at xs i t w s e in (suc r.0, (r.1.0, more r.0 (access_count xs) r.1.1))
  where
    more : (k n : ℕ) → k < n → suc k < suc n
    more k n e = omega (arith, e)
number_at (assigned n ∷ xs) zero t w s e = cc
number_at (assigned n ∷ xs) (suc i) t w s e = number_at xs i t w s e
number_at (arm_begins ∷ xs) zero t w s e = cc
number_at (arm_begins ∷ xs) (suc i) t w s e = number_at xs i t w s e
number_at (arm_ends ∷ xs) zero t w s e = cc
number_at (arm_ends ∷ xs) (suc i) t w s e = number_at xs i t w s e
number_at (begins ∷ xs) zero t w s e = cc
number_at (begins ∷ xs) (suc i) t w s e = number_at xs i t w s e
number_at (next ∷ xs) zero t w s e = cc
number_at (next ∷ xs) (suc i) t w s e = number_at xs i t w s e
number_at (ends ∷ xs) zero t w s e = cc
number_at (ends ∷ xs) (suc i) t w s e = number_at xs i t w s e

seen_at : (es : List Event) (i : ℕ) → slice_get (all_seen es) i ≡ option_map event_seen (slice_get es i)
seen_at [] i = refl
seen_at (e ∷ es) zero = refl
seen_at (e ∷ es) (suc i) = seen_at es i

pub few_copies : (p : Program) (events : List Event) (layout : ProgramLayout) → HasFewCopies p → TellsLoops p → all_seen events ≡ happenings_of p → IsLayout p layout → HaveFewCopies layout.rounds.items events
few_copies p events layout few loops seen l i access writes phase round element newest e =
    let n = number_at (all_seen events) i _ writes _ (seen_at events i ∙ ap (option_map event_seen) e) in
    let w = whole_is p (all_seen events) loops seen in
    let a = access_there p (all_seen events) w n.0 n.1.1 in
    subst (λ (ls : List Counter). copies_round ls ≤ most_copies) (sym (ap (λ (f : Option ℕ → List Counter). f round) (layout_loops p layout l) ∙ w.loops n.0 _ a.0 n.1.0 a.1)) (few n.0 a.0 a.1)

-- what is noted of a body
body_seen : (p : Program) (old new : List ℕ) (events before : List Event) → old ≡ [] → table_at new ≡ stages_in p.body (table_at old) → before ≡ [] → all_seen events ≡ all_seen before ++ incidents (table_at new) None closed p.body → all_seen events ≡ happenings_of p
body_seen p old new events before none noted empty seen =
    seen
    ∙ (ap (λ l. all_seen l ++ incidents (table_at new) None closed p.body) empty
    ∙ ap (λ f. incidents f None closed p.body) (noted ∙ ap (stages_in p.body) (ap table_at none ∙ fun_ext nothing)))
  where
    nothing : (n : ℕ) → table_at [] n ≡ no_stages n
    nothing zero = refl
    nothing (suc n) = refl

pub events_seen : (p q : Program) → q ≡ p → (old new shown : List ℕ) (before noted events : List Event) → old ≡ [] → table_at new ≡ stages_in q.body (table_at old) → shown ≡ new → before ≡ []
    → all_seen noted ≡ all_seen before ++ incidents (table_at shown) None closed q.body → events ≡ noted → all_seen events ≡ happenings_of p
events_seen p q same old new shown before noted events none counted shown_is empty seen events_are =
    ap all_seen events_are
    ∙ (body_seen q old new noted before none counted empty (seen ∙ ap (λ l. all_seen before ++ incidents (table_at l) None closed q.body) shown_is) ∙ ap happenings_of same)

-- events that were noted from nothing on, with the structures that the notes keep
pub are_events : (p : Program) (notes : Notes) (events : List Event) → events ≡ notes.events.items → all_seen events ≡ happenings_of p → (keys : List Structure) → keys ≡ notes.structures → StructuresAreDistinct keys → IsNoted notes → AreEventsOf p events
are_events p notes events events_are seen keys keys_are distinct noted = record {
  seen = seen;
  known = notes.structures;
  distinct = subst (λ (l : List Structure). StructuresAreDistinct l) keys_are distinct;
  reads = subst (λ (l : List Event). AreReads notes.structures no_clocks 0 l) (sym events_are) noted.reads;
}

-- the first breach, as the code finds it
pub first_done : (p : Program) (events : List Event) (layout : ProgramLayout) → IsLayout p layout → (flags : List Bool) → TellsSpent p (spent_place (table_of p) events flags (moves_from p (loops_known p) 0 (all_seen events)))
    → ((late : List Breach) → FindsLate events (moves_from p (loops_known p) 0 (all_seen events)) late → TellsLate p late)
    → (place : Option Place) → place ≡ spent_place (table_of p) events flags (moves_known p layout events) → (old new : Option Breach) → old ≡ ports_spent_breach place → KeepsLate events (moves_known p layout events) old new → TellsFirst p new
first_done p events layout l flags tells_spent tells_late place place_is old new old_is kept =
    found_first p events flags (moves_known p layout events) (ap (λ (f : Option ℕ → List Counter). moves_from p f 0 (all_seen events)) (layout_loops p layout l)) tells_spent tells_late place place_is old new old_is kept

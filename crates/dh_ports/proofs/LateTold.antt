-- Reads of a slot of which nothing is left are those that come behind a write of their bank in their phase.
use Rattle.std.proofs.Common.{◌≡◌, ℕ, zero, suc, ◌+◌, ◌-◌, ◌<◌, ◌≤◌, ◌==◌, ◌&&◌, Bool, true, false, if◌then◌else◌, List, [], ◌∷◌, ◌++◌, length, map, replicate, refl, ap, sym, ◌∙◌, subst, arith, ◌⊎◌, inl, inr, Contains}
use Rattle.std.specs.Prelude.{Option, Some, None, option_map, slice_get, slice_index}
use Rattle.std.specs.List.{AllByRecursion}
use Rattle.std.proofs.lemmas.Bool.{cases_Bool, cases_lt, eqb-true, eq-eqb}
use Rattle.std.proofs.lemmas.List.{get_or-replicate}
use Rattle.std.proofs.lemmas.Option.{slice_get_within, slice_get-map}
use Rattle.dh_base.specs.declared.places.Place.{Place}
use Rattle.dh_base.specs.declared.rules.Rule.TheVariants as rule
use Rattle.dh_tree.specs.declared.breaches.Breach.{Breach}
use Rattle.dh_tree.specs.declared.tables.MemEntry.{MemEntry}
use Rattle.dh_tree.specs.LeastBreach.{breach}
use Rattle.dh_tree.specs.Meets.{upto}
use Rattle.dh_tree.specs.declared.trees.counters.Counter.{Counter}
use Rattle.dh_tree.specs.Memories.{Memory, memories_of, same_entity, table_of}
use Rattle.dh_tree.specs.PlainTrees.{Term, term, Program}
use Rattle.dh_meaning.specs.OnePhase.{in_one_phase}
use Rattle.dh_meets.specs.MayMeet.{meets_in}
use Rattle.dh_meets.specs.Ports.{ReadsAfterWrite}
use Rattle.dh_meets.specs.SourceEvents.{SourceAccess, accesses_in, trace}
use Rattle.dh_events.specs.declared.classes.Key.{Key}
use Rattle.dh_events.specs.declared.events.Event.{Event}
use Rattle.dh_events.specs.declared.events.Event.TheVariants as event
use Rattle.dh_events.specs.declared.events.Site.{Site}
use Rattle.dh_ports.specs.declared.levels.Step.{Step}
use Rattle.dh_ports.specs.declared.levels.Step.TheVariants as step
use Rattle.dh_ports.specs.declared.moves.Move.{Move}
use Rattle.dh_ports.specs.declared.moves.Move.TheVariants as move
use Rattle.dh_ports.specs.Claims.{access_of, first_bank_of, claims_of, moves_from}
use Rattle.dh_ports.specs.Courses.{access_count, before_at}
use Rattle.dh_ports.specs.Expanded.{taken_by, all_taken}
use Rattle.dh_events.specs.Incidents.{PortEvent, touches, assigned, arm_begins, arm_ends, begins, next, ends}
use Rattle.dh_ports.specs.Levels.{Level, start}
use Rattle.dh_events.specs.Noted.{event_seen, all_seen}
use Rattle.dh_ports.specs.Orders.{slot_in, step_in, order_of, order_step}
use Rattle.dh_ports.specs.Scanned.{bank_key, take_of, event_phase, IsWritten, IsNotedFor, IsReadAt, HasRead, FindsLate}
use Rattle.dh_ports.specs.Told.{IsToldBefore}
use Rattle.dh_ports.specs.Wholes.{happenings_of, entry_bank_count, Touched, touched, of_access, sites_in, TellsPhases, TellsLoops, loops_known, AreEventsOf, TellsLate}
use Rattle.dh_ports.specs.WritesFound.{Meeting, access_can_reach, write_of, write_charge, FindsWrite}
use Rattle.dh_ports.proofs.ClaimFacts.{found, one_entity, bases_apart}
use Rattle.dh_ports.proofs.ClaimedBanks.{Claims, IsClaimOf, all_claims, Claimed, claimed, claims_back, Reaching, reaching, reaching_claims, claimed_reaches}
use Rattle.dh_ports.proofs.AccessClaims.{event_of, follow_all, nth_claims, claim_lists, none_claims}
use Rattle.dh_ports.proofs.MeetingFacts.{found_meeting, meeting_found}
use Rattle.dh_ports.proofs.ReadsBehind.{finds_is, is_found}
use Rattle.dh_ports.proofs.SpentTold.{IsWhole, whole_is, AccessAt, access_at, access_there, bounds_of}
use Rattle.dh_ports.proofs.LateWalk.{slot_found, slot_is, orders_are, Looks, scan, Late, walk}
use Rattle.dh_ports.proofs.Wholes.{whole, access_in}

absurd : {A : Type 0} → ⊥ → A
absurd e = elim e [ ]

some_same : {A : Type 0} (x y : A) → Some x ≡ Some y → x ≡ y
some_same x y e = cc

none_one : 1 ≤ 0 → ⊥
none_one e = omega (arith, e)

-- one bank of all is of one memory
one_bank : (p : Program) (slot : ℕ) (a b : SourceAccess) (c : Claimed p slot a) (d : Claimed p slot b) → (c.memory ≡ d.memory) × (c.bank ≡ d.bank)
one_bank p slot a b c d = by_place (cases_lt c.number d.number) (cases_lt d.number c.number)
  where
    banks_c : c.bank < entry_bank_count (slice_get (table_of p) c.number)
    banks_c = subst (λ (o : Option MemEntry). c.bank < entry_bank_count o) (sym c.stands) c.within

    banks_d : d.bank < entry_bank_count (slice_get (table_of p) d.number)
    banks_d = subst (λ (o : Option MemEntry). d.bank < entry_bank_count o) (sym d.stands) d.within

    apart : (s m b n i j : ℕ) → s ≡ m + i → s ≡ n + j → m + b ≤ n → i < b → ⊥
    apart s m b n i j e f g h = omega (arith, e, f, g, h)

    equal : (m n : ℕ) → m ≤ n → n ≤ m → m ≡ n
    equal m n e f = omega (arith, e, f)

    cancel : (s m i j : ℕ) → s ≡ m + i → s ≡ m + j → i ≡ j
    cancel s m i j e f = omega (arith, e, f)

    by_place : (c.number < d.number) ⊎ (d.number ≤ c.number) → (d.number < c.number) ⊎ (c.number ≤ d.number) → (c.memory ≡ d.memory) × (c.bank ≡ d.bank)
    by_place (inl f) g = absurd (apart slot (first_bank_of (table_of p) c.number) _ (first_bank_of (table_of p) d.number) c.bank d.bank c.is d.is (bases_apart (table_of p) c.number d.number f) banks_c)
    by_place (inr f) (inl g) = absurd (apart slot (first_bank_of (table_of p) d.number) _ (first_bank_of (table_of p) c.number) d.bank c.bank d.is c.is (bases_apart (table_of p) d.number c.number g) banks_d)
    by_place (inr f) (inr g) =
        let same : c.number ≡ d.number = equal c.number d.number g f in
        let mine = found (memories_of p) (Some c.memory) c.number c.known in
        let its = found (memories_of p) (Some d.memory) d.number d.known in
        let one : mine.memory ≡ its.memory = some_same mine.memory its.memory (sym mine.named ∙ (ap (slice_get (memories_of p)) same ∙ its.named)) in
        let entities : Some c.memory ≡ Some d.memory = one_entity mine.memory.name.entity (Some c.memory) (Some d.memory) mine.same (ap (λ (x : Memory). same_entity x.name.entity (Some d.memory)) one ∙ its.same) in
        (some_same c.memory d.memory entities, cancel slot (first_bank_of (table_of p) d.number) c.bank d.bank (c.is ∙ ap (λ n. first_bank_of (table_of p) n + c.bank) same) d.is)

-- Claims among all moves.

all_append : {A : Type 0} (P : A → Type 0) (xs ys : List A) → AllByRecursion P (xs ++ ys) → AllByRecursion P xs × AllByRecursion P ys
all_append P [] ys h = (tt, h)
all_append P (x ∷ xs) ys h = let r = all_append P xs ys h.1 in ((h.0, r.0), r.1)

-- what holds of all moves holds of the claims of each access
claims_all : (P : Move → Type 0) (p : Program) (loops : _) (event : ℕ) (xs : List PortEvent) → AllByRecursion P (moves_from p loops event xs) → (k : ℕ) → AllByRecursion P (nth_claims (claim_lists p loops event xs) k)
claims_all P p loops event [] h k = tt
claims_all P p loops event (touches t w s ∷ xs) h zero = (all_append P (claims_of p event (access_of (loops s.round) w t)) (moves_from p loops (event + 1) xs) h).0
claims_all P p loops event (touches t w s ∷ xs) h (suc k) = claims_all P p loops (event + 1) xs (all_append P (claims_of p event (access_of (loops s.round) w t)) (moves_from p loops (event + 1) xs) h).1 k
claims_all P p loops event (assigned e ∷ xs) h k = claims_all P p loops (event + 1) xs h k
claims_all P p loops event (arm_begins ∷ xs) h k = claims_all P p loops (event + 1) xs h k
claims_all P p loops event (arm_ends ∷ xs) h k = claims_all P p loops (event + 1) xs h k
claims_all P p loops event (begins ∷ xs) h k = claims_all P p loops (event + 1) xs h.1 k
claims_all P p loops event (next ∷ xs) h k = claims_all P p loops (event + 1) xs h.1 k
claims_all P p loops event (ends ∷ xs) h k = claims_all P p loops (event + 1) xs h.1 k

-- a claim of a slot in a list of claims of one event
claim_there : (P : Move → Type 0) (event slot : ℕ) (ms : List Move) → AllByRecursion (IsClaimOf event) ms → AllByRecursion P ms → Claims slot ms → (keys : ℕ) × P (move.Claim event slot keys)
claim_there P event slot [] h i c = absurd c
claim_there P event slot (move.Claim e other keys ∷ ms) h i (inl c) = (keys, subst (λ (n : ℕ). P (move.Claim n slot keys)) h.0 (subst (λ (n : ℕ). P (move.Claim e n keys)) c i.0))
claim_there P event slot (move.Claim e other keys ∷ ms) h i (inr c) = claim_there P event slot ms h.1 i.1 c
claim_there P event slot (move.Begin ∷ ms) h i c = absurd h.0
claim_there P event slot (move.Next ∷ ms) h i c = absurd h.0
claim_there P event slot (move.End ∷ ms) h i c = absurd h.0

-- Steps of claims.

module _ (known : List Key) (events : List Event) where
  abbrev step_of : Move → Step
  step_of m = order_step known events m

  -- a step that looks is of a claim whose key has the slot
  pub record LooksAt (event slot : ℕ) (ms : List Move) : Type 0 where
    pub bank : ℕ
    pub claimed : Claims bank ms
    pub takes : ℕ
    pub is : order_of known (slice_get events event) bank ≡ step.Access slot takes
    pub none : takes ≡ 0

  looks_at : (event slot : ℕ) (ms : List Move) → AllByRecursion (IsClaimOf event) ms → Looks slot (map step_of ms) → LooksAt event slot ms
  looks_at event slot [] h l = absurd l
  looks_at event slot (move.Claim e bank keys ∷ ms) h l = by_step (order_of known (slice_get events e) bank) refl l (looks_at event slot ms h.1)
    where
      later : LooksAt event slot ms → LooksAt event slot (move.Claim e bank keys ∷ ms)
      later r = record { bank = r.bank; claimed = inr r.claimed; takes = r.takes; is = r.is; none = r.none }

      by_step : (s : Step) → order_of known (slice_get events e) bank ≡ s → Looks slot (s ∷ map step_of ms) → (Looks slot (map step_of ms) → LooksAt event slot ms) → LooksAt event slot (move.Claim e bank keys ∷ ms)
      by_step (step.Access other takes) q (inl l) rest = record { bank = bank; claimed = inl refl; takes = takes; is = ap (λ n. order_of known (slice_get events n) bank) (sym h.0) ∙ (q ∙ ap (λ n. step.Access n takes) l.0); none = l.1 }
      by_step (step.Access other takes) q (inr l) rest = later (rest l)
      by_step step.Other q l rest = later (rest l)
      by_step step.Begin q l rest = later (rest l)
      by_step step.Next q l rest = later (rest l)
      by_step step.End q l rest = later (rest l)
      by_step step.Back q l rest = later (rest l)
  looks_at event slot (move.Begin ∷ ms) h l = absurd h.0
  looks_at event slot (move.Next ∷ ms) h l = absurd h.0
  looks_at event slot (move.End ∷ ms) h l = absurd h.0

  at_looks : (event slot bank : ℕ) (ms : List Move) → AllByRecursion (IsClaimOf event) ms → Claims bank ms → order_of known (slice_get events event) bank ≡ step.Access slot 0 → Looks slot (map step_of ms)
  at_looks event slot bank [] h c q = absurd c
  at_looks event slot bank (move.Claim e other keys ∷ ms) h (inl c) q =
      subst (λ (s : Step). Looks slot (s ∷ map step_of ms)) (sym (ap (λ n. order_of known (slice_get events n) other) h.0 ∙ (ap (order_of known (slice_get events event)) c ∙ q))) (inl (refl, refl))
  at_looks event slot bank (move.Claim e other keys ∷ ms) h (inr c) q = behind (order_of known (slice_get events e) other) (at_looks event slot bank ms h.1 c q)
    where
      behind : (s : Step) → Looks slot (map step_of ms) → Looks slot (s ∷ map step_of ms)
      behind (step.Access n takes) l = inr l
      behind step.Other l = l
      behind step.Begin l = l
      behind step.Next l = l
      behind step.End l = l
      behind step.Back l = l
  at_looks event slot bank (move.Begin ∷ ms) h c q = absurd h.0
  at_looks event slot bank (move.Next ∷ ms) h c q = absurd h.0
  at_looks event slot bank (move.End ∷ ms) h c q = absurd h.0

  -- a step that takes of a slot
  pub record TakesAt (event slot : ℕ) (ms : List Move) : Type 0 where
    pub bank : ℕ
    pub claimed : Claims bank ms
    pub takes : ℕ
    pub is : order_of known (slice_get events event) bank ≡ step.Access slot takes
    pub some : 1 ≤ takes

  takes_at : (event slot : ℕ) (ms : List Move) → AllByRecursion (IsClaimOf event) ms → 1 ≤ all_taken slot (map step_of ms) → TakesAt event slot ms
  takes_at event slot [] h l = absurd (none_one l)
  takes_at event slot (move.Claim e bank keys ∷ ms) h l = by_step (order_of known (slice_get events e) bank) refl l (takes_at event slot ms h.1)
    where
      only : (n : ℕ) → 1 ≤ 0 + n → 1 ≤ n
      only n e = omega (arith, e)

      later : TakesAt event slot ms → TakesAt event slot (move.Claim e bank keys ∷ ms)
      later r = record { bank = r.bank; claimed = inr r.claimed; takes = r.takes; is = r.is; some = r.some }

      by_slot : (other takes : ℕ) → order_of known (slice_get events e) bank ≡ step.Access other takes → ((other == slot) ≡ true) ⊎ ((other == slot) ≡ false) → (1 ≤ takes) ⊎ (takes ≤ 0) → 1 ≤ (if other == slot then takes else 0) + all_taken slot (map step_of ms) → (1 ≤ all_taken slot (map step_of ms) → TakesAt event slot ms) → TakesAt event slot (move.Claim e bank keys ∷ ms)
      by_slot other takes q (inl f) (inl g) l rest = record { bank = bank; claimed = inl refl; takes = takes; is = ap (λ n. order_of known (slice_get events n) bank) (sym h.0) ∙ (q ∙ ap (λ n. step.Access n takes) (eqb-true other slot f)); some = g }
      by_slot other takes q (inl f) (inr g) l rest = later (rest (none takes _ g (subst (λ (b : Bool). 1 ≤ (if b then takes else 0) + all_taken slot (map step_of ms)) f l)))
        where
          none : (t n : ℕ) → t ≤ 0 → 1 ≤ t + n → 1 ≤ n
          none t n e f = omega (arith, e, f)
      by_slot other takes q (inr f) g l rest = later (rest (only _ (subst (λ (b : Bool). 1 ≤ (if b then takes else 0) + all_taken slot (map step_of ms)) f l)))

      by_step : (s : Step) → order_of known (slice_get events e) bank ≡ s → 1 ≤ all_taken slot (s ∷ map step_of ms) → (1 ≤ all_taken slot (map step_of ms) → TakesAt event slot ms) → TakesAt event slot (move.Claim e bank keys ∷ ms)
      by_step (step.Access other takes) q l rest = by_slot other takes q (cases_Bool (other == slot)) (cases_lt 0 takes) l rest
      by_step step.Other q l rest = later (rest (only _ l))
      by_step step.Begin q l rest = later (rest (only _ l))
      by_step step.Next q l rest = later (rest (only _ l))
      by_step step.End q l rest = later (rest (only _ l))
      by_step step.Back q l rest = later (rest (only _ l))
  takes_at event slot (move.Begin ∷ ms) h l = absurd h.0
  takes_at event slot (move.Next ∷ ms) h l = absurd h.0
  takes_at event slot (move.End ∷ ms) h l = absurd h.0

  at_takes : (event slot bank : ℕ) (ms : List Move) → AllByRecursion (IsClaimOf event) ms → Claims bank ms → order_of known (slice_get events event) bank ≡ step.Access slot 1 → 1 ≤ all_taken slot (map step_of ms)
  at_takes event slot bank [] h c q = absurd c
  at_takes event slot bank (move.Claim e other keys ∷ ms) h (inl c) q =
      subst (λ (s : Step). 1 ≤ all_taken slot (s ∷ map step_of ms)) (sym (ap (λ n. order_of known (slice_get events n) other) h.0 ∙ (ap (order_of known (slice_get events event)) c ∙ q)))
      (subst (λ (b : Bool). 1 ≤ (if b then 1 else 0) + all_taken slot (map step_of ms)) (sym (eq-eqb slot slot refl)) (some (all_taken slot (map step_of ms))))
    where
      some : (n : ℕ) → 1 ≤ 1 + n
      some n = omega arith
  at_takes event slot bank (move.Claim e other keys ∷ ms) h (inr c) q = behind (order_of known (slice_get events e) other) (at_takes event slot bank ms h.1 c q)
    where
      more : (a n : ℕ) → 1 ≤ n → 1 ≤ a + n
      more a n e = omega (arith, e)

      behind : (s : Step) → 1 ≤ all_taken slot (map step_of ms) → 1 ≤ all_taken slot (s ∷ map step_of ms)
      behind s l = more (taken_by slot s) (all_taken slot (map step_of ms)) l
  at_takes event slot bank (move.Begin ∷ ms) h c q = absurd h.0
  at_takes event slot bank (move.Next ∷ ms) h c q = absurd h.0
  at_takes event slot bank (move.End ∷ ms) h c q = absurd h.0

-- The event of an access.

touch_writes : (t u : Term) (a b : Bool) (s z : Site) → touches t a s ≡ touches u b z → a ≡ b
touch_writes t u a b s z e = cc

touch_site : (t u : Term) (a b : Bool) (s z : Site) → touches t a s ≡ touches u b z → s ≡ z
touch_site t u a b s z e = cc

seen_at : (es : List Event) (i : ℕ) → slice_get (all_seen es) i ≡ option_map event_seen (slice_get es i)
seen_at [] i = refl
seen_at (e ∷ es) zero = refl
seen_at (e ∷ es) (suc i) = seen_at es i

-- the step of a claim of an access, by its phase and whether it writes
ordered : (known : List Key) (o : Option Event) (t : Term) (writes : Bool) (site : Site) (bank : ℕ) → option_map event_seen o ≡ Some (touches t writes site) → order_of known o bank ≡ step_in (slot_in known (bank_key site.phase bank)) (take_of writes)
ordered known None t writes site bank e = cc
ordered known (Some (event.Touch w phase round access element newest)) t writes site bank e =
    ap (λ b. step_in (slot_in known (bank_key phase bank)) (take_of b)) (touch_writes _ _ _ _ _ _ (some_same _ _ e))
    ∙ ap (λ (s : Site). step_in (slot_in known (bank_key s.phase bank)) (take_of writes)) (touch_site _ _ _ _ _ _ (some_same _ _ e))
ordered known (Some (event.Assigned entity)) t writes site bank e = cc
ordered known (Some event.ArmBegins) t writes site bank e = cc
ordered known (Some event.ArmEnds) t writes site bank e = cc
ordered known (Some event.Begins) t writes site bank e = cc
ordered known (Some event.Next) t writes site bank e = cc
ordered known (Some event.Ends) t writes site bank e = cc

-- the phase of an access, and a read in its own
phase_is : (o : Option Event) (t : Term) (writes : Bool) (site : Site) → option_map event_seen o ≡ Some (touches t writes site) → event_phase o ≡ site.phase
phase_is None t writes site e = cc
phase_is (Some (event.Touch w phase round access element newest)) t writes site e = ap (λ (s : Site). s.phase) (touch_site _ _ _ _ _ _ (some_same _ _ e))
phase_is (Some (event.Assigned entity)) t writes site e = cc
phase_is (Some event.ArmBegins) t writes site e = cc
phase_is (Some event.ArmEnds) t writes site e = cc
phase_is (Some event.Begins) t writes site e = cc
phase_is (Some event.Next) t writes site e = cc
phase_is (Some event.Ends) t writes site e = cc

read_at : (o : Option Event) (t : Term) (site : Site) → option_map event_seen o ≡ Some (touches t false site) → IsReadAt o site.phase
read_at None t site e = cc
read_at (Some (event.Touch true phase round access element newest)) t site e = absurd (untrue (touch_writes _ _ _ _ _ _ (some_same _ _ e)))
  where
    untrue : true ≡ false → ⊥
    untrue e = cc
read_at (Some (event.Touch false phase round access element newest)) t site e = ap (λ (s : Site). s.phase) (touch_site _ _ _ _ _ _ (some_same _ _ e))
read_at (Some (event.Assigned entity)) t site e = cc
read_at (Some event.ArmBegins) t site e = cc
read_at (Some event.ArmEnds) t site e = cc
read_at (Some event.Begins) t site e = cc
read_at (Some event.Next) t site e = cc
read_at (Some event.Ends) t site e = cc

-- a write's key of its bank is known
written_key : (known : List Key) (o : Option Event) (t : Term) (site : Site) (bank : ℕ) → option_map event_seen o ≡ Some (touches t true site) → IsWritten known o bank → (slot : ℕ) × (slice_get known slot ≡ Some (bank_key site.phase bank))
written_key known None t site bank e h = absurd h
written_key known (Some (event.Touch true phase round access element newest)) t site bank e h = (h.0, h.1 ∙ ap (λ (s : Site). Some (bank_key s.phase bank)) (touch_site _ _ _ _ _ _ (some_same _ _ e)))
written_key known (Some (event.Touch false phase round access element newest)) t site bank e h = absurd (untrue (touch_writes _ _ _ _ _ _ (some_same _ _ e)))
  where
    untrue : false ≡ true → ⊥
    untrue e = cc
written_key known (Some (event.Assigned entity)) t site bank e h = cc
written_key known (Some event.ArmBegins) t site bank e h = cc
written_key known (Some event.ArmEnds) t site bank e h = cc
written_key known (Some event.Begins) t site bank e h = cc
written_key known (Some event.Next) t site bank e h = cc
written_key known (Some event.Ends) t site bank e h = cc

step_slot : (o : Option ℕ) (takes slot t : ℕ) → step_in o takes ≡ step.Access slot t → (o ≡ Some slot) × (takes ≡ t)
step_slot None takes slot t e = cc
step_slot (Some s) takes slot t e = (ap (λ x. Some x) (access_slot s slot takes t e), access_takes s slot takes t e)
  where
    access_slot : (s slot a b : ℕ) → step.Access s a ≡ step.Access slot b → s ≡ slot
    access_slot s slot a b e = cc

    access_takes : (s slot a b : ℕ) → step.Access s a ≡ step.Access slot b → a ≡ b
    access_takes s slot a b e = cc

take_true : (w : Bool) (t : ℕ) → take_of w ≡ t → 1 ≤ t → w ≡ true
take_true true t e f = refl
take_true false t e f = absurd (none_one (subst (λ (n : ℕ). 1 ≤ n) (sym e) f))

take_false : (w : Bool) (t : ℕ) → take_of w ≡ t → t ≡ 0 → w ≡ false
take_false true t e f = absurd (one_zero (e ∙ f))
  where
    one_zero : ◌≡◌ {A = ℕ} 1 0 → ⊥
    one_zero e = omega (arith, e)
take_false false t e f = refl

access_writes : (loops : List Counter) (b : Bool) (t : Term) → (access_of loops b t).writes ≡ b
access_writes loops b (term place kind form) = refl

key_phase : (f g b c : ℕ) → bank_key f b ≡ bank_key g c → f ≡ g
key_phase f g b c e = ap (λ (k : Key). k.phase) e

key_bank : (f g b c : ℕ) → bank_key f b ≡ bank_key g c → b ≡ c
key_bank f g b c e = ap (λ (k : Key). k.element) e

-- a write that is charged
pub record Charged (p : Program) (memory bank read number : ℕ) : Type 0 where
  pub access : SourceAccess
  pub is : slice_get (accesses_in (trace p)) number ≡ Some access
  pub writes : access.writes ≡ true
  pub phase : in_one_phase p number read ≡ true
  pub reached : access_can_reach p access memory bank ≡ true

charged_is : (p : Program) (memory bank read number : ℕ) → 1 ≤ write_charge p memory bank read number → Charged p memory bank read number
charged_is p memory bank read number h = by_access (slice_get (accesses_in (trace p)) number) refl h
  where
    by_test : (a : SourceAccess) → slice_get (accesses_in (trace p)) number ≡ Some a → (x y z : Bool) → a.writes ≡ x → in_one_phase p number read ≡ y → access_can_reach p a memory bank ≡ z → 1 ≤ (if (x && y) && z then 1 else 0) → Charged p memory bank read number
    by_test a e true true true f g i h = record { access = a; is = e; writes = f; phase = g; reached = i }
    by_test a e true true false f g i h = absurd (none_one h)
    by_test a e true false z f g i h = absurd (none_one h)
    by_test a e false y z f g i h = absurd (none_one h)

    by_access : (o : Option SourceAccess) → slice_get (accesses_in (trace p)) number ≡ o → 1 ≤ write_of p memory bank read number o → Charged p memory bank read number
    by_access None e h = absurd (none_one h)
    by_access (Some a) e h = by_test a e a.writes (in_one_phase p number read) (access_can_reach p a memory bank) refl refl refl h

is_charged : (p : Program) (memory bank read number : ℕ) → Charged p memory bank read number → 1 ≤ write_charge p memory bank read number
is_charged p memory bank read number c =
    subst (λ (n : ℕ). 1 ≤ n)
    (sym (ap (λ o. write_of p memory bank read number o) c.is
    ∙ (ap (λ b. if (b && in_one_phase p number read) && access_can_reach p c.access memory bank then 1 else 0) c.writes
    ∙ (ap (λ b. if b && access_can_reach p c.access memory bank then 1 else 0) c.phase ∙ ap (λ b. if b then 1 else 0) c.reached)))) one
  where
    one : 1 ≤ 1
    one = omega arith

-- Late reads.

module _ (p : Program) (events : List Event) (h0 : IsToldBefore p) (loops : TellsLoops p) (phases : TellsPhases p) (are : AreEventsOf p events) (late : List Breach) (finds : FindsLate events (moves_from p (loops_known p) 0 (all_seen events)) late) where
  abbrev xs : List PortEvent
  xs = all_seen events

  w : IsWhole p (all_seen events)
  w = whole_is p (all_seen events) loops are.seen

  abbrev steps_of : ℕ → List Step
  steps_of k = map (order_step finds.known events) (nth_claims (claim_lists p (loops_known p) 0 (all_seen events)) k)

  abbrev takes : (slot k : ℕ) → ℕ
  takes slot k = all_taken slot (steps_of k)

  abbrev levels : ℕ → Level
  levels slot = start (slice_index (replicate (length finds.known) 1) slot)

  -- the event of an access, and the steps of its claims
  module _ (k : ℕ) (a : SourceAccess) (e : slice_get (accesses_in (trace p)) k ≡ Some a) where
    abbrev at : AccessAt p (all_seen events) k a
    at = access_at p (all_seen events) w k a e

    abbrev site : Site
    site = (access_at p (all_seen events) w k a e).touch.site

    abbrev event_at : ℕ
    event_at = event_of (all_seen events) k

    writes_is : (access_at p (all_seen events) w k a e).touch.writes ≡ a.writes
    writes_is = sym (access_writes (loops_known p site.round) at.touch.writes at.touch.access) ∙ ap (λ (x : SourceAccess). x.writes) at.same

    seen_is : option_map event_seen (slice_get events (event_of (all_seen events) k)) ≡ Some (touches at.touch.access a.writes site)
    seen_is = sym (seen_at events event_at) ∙ (at.touch.stands ∙ ap (λ b. Some (touches at.touch.access b site)) writes_is)

    order_is : (bank : ℕ) → order_of finds.known (slice_get events (event_of (all_seen events) k)) bank ≡ step_in (slot_in finds.known (bank_key site.phase bank)) (take_of a.writes)
    order_is bank = ordered finds.known (slice_get events event_at) at.touch.access a.writes site bank seen_is

    sited : slice_get (sites_in (happenings_of p)) k ≡ Some site
    sited = ap (λ l. slice_get (sites_in l) k) (sym are.seen) ∙ at.touch.sited

    own : AllByRecursion (IsClaimOf (event_of (all_seen events) k)) (nth_claims (claim_lists p (loops_known p) 0 (all_seen events)) k)
    own = subst (λ (ms : List Move). AllByRecursion (IsClaimOf (event_of (all_seen events) k)) ms) (sym at.claims) (all_claims p event_at a)

    -- what is claimed
    pub claimed_at : (slot : ℕ) → Claims slot (nth_claims (claim_lists p (loops_known p) 0 (all_seen events)) k) → Claimed p slot a
    claimed_at slot c = claimed p event_at slot a (subst (λ (ms : List Move). Claims slot ms) at.claims c)

    pub at_claimed : (slot : ℕ) → Claimed p slot a → Claims slot (nth_claims (claim_lists p (loops_known p) 0 (all_seen events)) k)
    at_claimed slot c = subst (λ (ms : List Move). Claims slot ms) (sym at.claims) (claims_back p event_at slot a c)

  phase_told : (j k : ℕ) (b a : SourceAccess) (f : slice_get (accesses_in (trace p)) j ≡ Some b) (e : slice_get (accesses_in (trace p)) k ≡ Some a) → in_one_phase p j k ≡ ((site j b f).phase == (site k a e).phase)
  phase_told j k b a f e = phases j k (site j b f) (site k a e) (sited j b f) (sited k a e)

  -- a bank of a memory by its place among all
  bank_place : (memory number bank slot : ℕ) (a b : SourceAccess) (c : Claimed p slot a) (r : Reaching p b c.memory c.bank) → first_bank_of (table_of p) r.number + c.bank ≡ slot
  bank_place memory number bank slot a b c r = ap (λ n. first_bank_of (table_of p) n + c.bank) (some_same r.number c.number (sym r.known ∙ c.known)) ∙ sym c.is

  -- a read, with the slot of the key of a bank that it claims
  module _ (k : ℕ) (a : SourceAccess) (e : slice_get (accesses_in (trace p)) k ≡ Some a) (reads : a.writes ≡ false) (slot place : ℕ) (c : Claimed p place a)
      (keyed : slice_get finds.known slot ≡ Some (bank_key (site k a e).phase place)) where
    -- what takes of the slot is a write of the bank in the phase
    taken_charged : (j : ℕ) → 1 ≤ takes slot j → 1 ≤ write_charge p c.memory c.bank k j
    taken_charged j h = elim (cases_lt j (access_count (all_seen events))) [
      | inl less ↦
          let b = access_there p (all_seen events) w j less in
          let t = takes_at finds.known events (event_of (all_seen events) j) slot (nth_claims (claim_lists p (loops_known p) 0 (all_seen events)) j) (own j b.0 b.1) h in
          let s = step_slot (slot_in finds.known (bank_key (site j b.0 b.1).phase t.bank)) (take_of b.0.writes) slot t.takes (sym (order_is j b.0 b.1 t.bank) ∙ t.is) in
          let keys : bank_key (site j b.0 b.1).phase t.bank ≡ bank_key (site k a e).phase place = some_same _ _ (sym (slot_found finds.known (bank_key (site j b.0 b.1).phase t.bank) slot s.0) ∙ keyed) in
          let d = claimed_at j b.0 b.1 place (subst (λ (n : ℕ). Claims n (nth_claims (claim_lists p (loops_known p) 0 (all_seen events)) j)) (key_bank _ _ _ _ keys) t.claimed) in
          let one = one_bank p place b.0 a d c in
          is_charged p c.memory c.bank k j (record {
            access = b.0;
            is = b.1;
            writes = take_true b.0.writes t.takes s.1 t.some;
            phase = phase_told j k b.0 a b.1 e ∙ eq-eqb _ _ (key_phase _ _ _ _ keys);
            reached = ap (λ m. access_can_reach p b.0 m c.bank) (sym one.0) ∙ (ap (λ n. access_can_reach p b.0 d.memory n) (sym one.1) ∙ claimed_reaches p place b.0 d (bounds_of p h0 j b.0 b.1));
          })
      | inr more ↦ absurd (none_one (subst (λ (ms : List Move). 1 ≤ all_taken slot (map (order_step finds.known events) ms)) (none_claims p (loops_known p) 0 (all_seen events) j more) h))
    ]

    -- and a write of the bank in the phase takes of it
    charged_taken : (j : ℕ) → 1 ≤ write_charge p c.memory c.bank k j → 1 ≤ takes slot j
    charged_taken j h =
        let x = charged_is p c.memory c.bank k j h in
        let r = reaching p x.access c.memory c.bank (bounds_of p h0 j x.access x.is) x.reached in
        let d : Claimed p place x.access = subst (λ (n : ℕ). Claimed p n x.access) (bank_place c.memory c.number c.bank place a x.access c r) (reaching_claims p x.access c.memory c.bank r) in
        let phase : (site j x.access x.is).phase ≡ (site k a e).phase = eqb-true _ _ (sym (phase_told j k x.access a x.is e) ∙ x.phase) in
        at_takes finds.known events (event_of (all_seen events) j) slot place (nth_claims (claim_lists p (loops_known p) 0 (all_seen events)) j) (own j x.access x.is) (at_claimed j x.access x.is place d)
        (order_is j x.access x.is place
        ∙ (ap (λ f. step_in (slot_in finds.known (bank_key f place)) (take_of x.access.writes)) phase
        ∙ (ap (λ o. step_in o (take_of x.access.writes)) (slot_is finds.known finds.distinct (bank_key (site k a e).phase place) slot keyed) ∙ ap (λ b. step.Access slot (take_of b)) x.writes)))

    takes_none : takes slot k ≡ 0
    takes_none = by_taken (cases_lt 0 (takes slot k))
      where
        zero_of : (n : ℕ) → n ≤ 0 → n ≡ 0
        zero_of n e = omega (arith, e)

        clash : (b : Bool) → b ≡ true → b ≡ false → ⊥
        clash b e f = cc

        by_taken : (0 < takes slot k) ⊎ (takes slot k ≤ 0) → takes slot k ≡ 0
        by_taken (inl h) =
            let x = charged_is p c.memory c.bank k k (taken_charged k (some (takes slot k) h)) in
            absurd (clash a.writes (ap (λ (y : SourceAccess). y.writes) (some_same _ _ (sym e ∙ x.is)) ∙ x.writes) reads)
          where
            some : (n : ℕ) → 0 < n → 1 ≤ n
            some n e = omega (arith, e)
        by_taken (inr h) = zero_of (takes slot k) h

    left_is : before_at (takes slot) 0 (levels slot) (all_seen events) k ≡ 1 - upto (takes slot) k (meets_in p)
    left_is =
        (w.ties (takes slot)).during (levels slot) k (access_in p k a e)
        ∙ (ap (λ n. n - (upto (takes slot) k (meets_in p) - takes slot k)) (get_or-replicate (length finds.known) slot 1 0 (slice_get_within finds.known slot _ keyed))
        ∙ ap (λ n. 1 - n) (ap (λ n. upto (takes slot) k (meets_in p) - n) takes_none ∙ less_none (upto (takes slot) k (meets_in p))))
      where
        less_none : (n : ℕ) → n - 0 ≡ n
        less_none n = omega arith

    -- nothing is left exactly where a write comes before
    gone_meets : before_at (takes slot) 0 (levels slot) (all_seen events) k ≡ 0 → 1 ≤ upto (write_charge p c.memory c.bank k) k (meets_in p)
    gone_meets g =
        let m = found_meeting (takes slot) (meets_in p) k (whole p).distinct (access_in p k a e) takes_none (some (upto (takes slot) k (meets_in p)) (sym left_is ∙ g)) in
        meeting_found (write_charge p c.memory c.bank k) (meets_in p) k (whole p).distinct (access_in p k a e) (record { number = m.number; charged = taken_charged m.number m.charged; before = m.before; meet = m.meet })
      where
        some : (n : ℕ) → 1 - n ≡ 0 → 1 ≤ n
        some n e = omega (arith, e)

    meets_gone : Meeting (write_charge p c.memory c.bank k) (meets_in p) k → before_at (takes slot) 0 (levels slot) (all_seen events) k ≡ 0
    meets_gone m =
        left_is
        ∙ none (upto (takes slot) k (meets_in p))
        (meeting_found (takes slot) (meets_in p) k (whole p).distinct (access_in p k a e) (record { number = m.number; charged = charged_taken m.number m.charged; before = m.before; meet = m.meet }))
      where
        none : (n : ℕ) → 1 ≤ n → 1 - n ≡ 0
        none n e = omega (arith, e)

  abbrev left : (slot k : ℕ) → ℕ
  left slot k = before_at (takes slot) 0 (levels slot) (all_seen events) k

  -- the access of a place
  there : (k : ℕ) (place : Place) → option_map (λ (t : Touched). t.place) (slice_get (touched (all_seen events)) k) ≡ Some place → (a : SourceAccess) × ((slice_get (accesses_in (trace p)) k ≡ Some a) × (a.place ≡ place))
  there k place e = by_access (slice_get (accesses_in (trace p)) k) refl (sym (ap (option_map (λ (t : Touched). t.place)) (ap (λ l. slice_get l k) w.touched_all ∙ slice_get-map of_access (accesses_in (trace p)) k)) ∙ e)
    where
      by_access : (o : Option SourceAccess) → slice_get (accesses_in (trace p)) k ≡ o → option_map (λ (t : Touched). t.place) (option_map of_access o) ≡ Some place → (a : SourceAccess) × ((slice_get (accesses_in (trace p)) k ≡ Some a) × (a.place ≡ place))
      by_access None f g = cc
      by_access (Some a) f g = (a, (f, some_same _ _ g))

  late_found : (k slot : ℕ) (a : SourceAccess) (e : slice_get (accesses_in (trace p)) k ≡ Some a) → Looks slot (steps_of k) → left slot k ≡ 0 → FindsWrite p a.place
  late_found k slot a e looks gone =
      let l = looks_at finds.known events (event_of (all_seen events) k) slot (nth_claims (claim_lists p (loops_known p) 0 (all_seen events)) k) (own k a e) looks in
      let s = step_slot (slot_in finds.known (bank_key (site k a e).phase l.bank)) (take_of a.writes) slot l.takes (sym (order_is k a e l.bank) ∙ l.is) in
      let reads : a.writes ≡ false = take_false a.writes l.takes s.1 l.none in
      let c = claimed_at k a e l.bank l.claimed in
      record {
        read = k;
        later = a;
        memory = c.memory;
        bank = c.bank;
        reads = e;
        read_is = reads;
        stands = refl;
        reached = claimed_reaches p l.bank a c (bounds_of p h0 k a e);
        found = gone_meets k a e reads slot l.bank c (slot_found finds.known (bank_key (site k a e).phase l.bank) slot s.0) gone;
      }

  abbrev LateAt : Breach → Type 0
  LateAt b = Late finds.known events p (loops_known p) steps_of left 0 (touched (all_seen events)) b

  from_late : (place : Place) → LateAt (breach rule.ReadAfterWrite place) → ReadsAfterWrite p place
  from_late place r =
      let number_is : r.number ≡ r.behind = r.is ∙ from_none r.behind in
      let a = there r.behind r.place r.stands in
      let same : r.place ≡ place = sym (ap (λ (b : Breach). b.place) r.breaks) in
      finds_is p place (subst (λ (q : Place). FindsWrite p q) (a.1.1 ∙ same) (late_found r.number r.slot a.0 (ap (slice_get (accesses_in (trace p))) number_is ∙ a.1.0) r.looks r.gone))
    where
      from_none : (n : ℕ) → 0 + n ≡ n
      from_none n = omega arith

  to_late : (place : Place) → FindsWrite p place → LateAt (breach rule.ReadAfterWrite place)
  to_late place f =
      let k = f.read in
      let a = f.later in
      let m = found_meeting (write_charge p f.memory f.bank f.read) (meets_in p) f.read (whole p).distinct (access_in p f.read f.later f.reads) (free f.later f.reads f.read_is) f.found in
      let x = charged_is p f.memory f.bank f.read m.number m.charged in
      let r = reaching p f.later f.memory f.bank (bounds_of p h0 f.read f.later f.reads) f.reached in
      let c = reaching_claims p f.later f.memory f.bank r in
      let q = reaching p x.access f.memory f.bank (bounds_of p h0 m.number x.access x.is) x.reached in
      let numbers : q.number ≡ r.number = some_same q.number r.number (sym q.known ∙ r.known) in
      let d : Claimed p (first_bank_of (table_of p) r.number + f.bank) x.access = subst (λ (n : ℕ). Claimed p (first_bank_of (table_of p) n + f.bank) x.access) numbers (reaching_claims p x.access f.memory f.bank q) in
      let phase : (site m.number x.access x.is).phase ≡ (site f.read f.later f.reads).phase = eqb-true _ _ (sym (phase_told m.number f.read x.access f.later x.is f.reads) ∙ x.phase) in
      let has : HasRead events (event_phase (slice_get events (event_of (all_seen events) m.number))) = (
        event_of (all_seen events) f.read,
        subst (λ (n : ℕ). IsReadAt (slice_get events (event_of (all_seen events) f.read)) n)
            (sym phase ∙ sym (phase_is (slice_get events (event_of (all_seen events) m.number)) (at m.number x.access x.is).touch.access x.access.writes (site m.number x.access x.is) (seen_is m.number x.access x.is)))
            (read_at (slice_get events (event_of (all_seen events) f.read)) (at f.read f.later f.reads).touch.access (site f.read f.later f.reads) (seen_is f.read f.later f.reads ∙ ap (λ b. Some (touches (at f.read f.later f.reads).touch.access b (site f.read f.later f.reads))) f.read_is)),
      ) in
      let written = claim_there (IsNotedFor finds.known events) (event_of (all_seen events) m.number) (first_bank_of (table_of p) r.number + f.bank) (nth_claims (claim_lists p (loops_known p) 0 (all_seen events)) m.number) (own m.number x.access x.is)
      (claims_all (IsNotedFor finds.known events) p (loops_known p) 0 (all_seen events) finds.written m.number) (at_claimed m.number x.access x.is (first_bank_of (table_of p) r.number + f.bank) d) in
      let key = written_key finds.known (slice_get events (event_of (all_seen events) m.number)) (at m.number x.access x.is).touch.access (site m.number x.access x.is) (first_bank_of (table_of p) r.number + f.bank) (seen_is m.number x.access x.is ∙ ap (λ b. Some (touches (at m.number x.access x.is).touch.access b (site m.number x.access x.is))) x.writes) (written.1 has) in
      let keyed : slice_get finds.known key.0 ≡ Some (bank_key (site f.read f.later f.reads).phase (first_bank_of (table_of p) r.number + f.bank)) = key.1 ∙ ap (λ g. Some (bank_key g (first_bank_of (table_of p) r.number + f.bank))) phase in
      record {
        number = f.read;
        behind = f.read;
        is = from_none f.read;
        place = f.later.place;
        stands = ap (option_map (λ (t : Touched). t.place)) (ap (λ l. slice_get l f.read) w.touched_all ∙ (slice_get-map of_access (accesses_in (trace p)) f.read ∙ ap (option_map of_access) f.reads));
        breaks = ap (λ q. breach rule.ReadAfterWrite q) (sym f.stands);
        slot = key.0;
        looks = at_looks finds.known events (event_of (all_seen events) f.read) key.0 (first_bank_of (table_of p) r.number + f.bank) (nth_claims (claim_lists p (loops_known p) 0 (all_seen events)) f.read) (own f.read f.later f.reads)
            (at_claimed f.read f.later f.reads (first_bank_of (table_of p) r.number + f.bank) c)
            (order_is f.read f.later f.reads (first_bank_of (table_of p) r.number + f.bank)
            ∙ (ap (λ o. step_in o (take_of f.later.writes)) (slot_is finds.known finds.distinct (bank_key (site f.read f.later f.reads).phase (first_bank_of (table_of p) r.number + f.bank)) key.0 keyed) ∙ ap (λ b. step.Access key.0 (take_of b)) f.read_is));
        gone = meets_gone f.read f.later f.reads f.read_is key.0 (first_bank_of (table_of p) r.number + f.bank) c keyed m;
      }
    where
      from_none : (n : ℕ) → n ≡ 0 + n
      from_none n = omega arith

      free : (later : SourceAccess) → slice_get (accesses_in (trace p)) f.read ≡ Some later → later.writes ≡ false → write_charge p f.memory f.bank f.read f.read ≡ 0
      free later e g = ap (λ o. write_of p f.memory f.bank f.read f.read o) e ∙ ap (λ b. if (b && in_one_phase p f.read f.read) && access_can_reach p later f.memory f.bank then 1 else 0) g

  pub told : TellsLate p late
  told place = (
    λ c. from_late place ((walked (breach rule.ReadAfterWrite place)).0 (subst (λ (l : List Breach). Contains l (breach rule.ReadAfterWrite place)) late_is c)),
    λ r. subst (λ (l : List Breach). Contains l (breach rule.ReadAfterWrite place)) (sym late_is) ((walked (breach rule.ReadAfterWrite place)).1 (to_late place (is_found p place r))),
  )
    where
      from_none : (j : ℕ) → 0 + j ≡ j
      from_none j = omega arith

      late_is : late ≡ scan (all_seen events) levels (moves_from p (loops_known p) 0 (all_seen events)) (map (order_step finds.known events) (moves_from p (loops_known p) 0 (all_seen events)))
      late_is = finds.told ∙ ap (λ ss. scan (all_seen events) levels (moves_from p (loops_known p) 0 (all_seen events)) ss) (orders_are finds.known finds.distinct events (moves_from p (loops_known p) 0 (all_seen events)) finds.steps finds.ordering)

      walked : (b : Breach) → (Contains (scan (all_seen events) levels (moves_from p (loops_known p) 0 (all_seen events)) (map (order_step finds.known events) (moves_from p (loops_known p) 0 (all_seen events)))) b → LateAt b) × (LateAt b → Contains (scan (all_seen events) levels (moves_from p (loops_known p) 0 (all_seen events)) (map (order_step finds.known events) (moves_from p (loops_known p) 0 (all_seen events)))) b)
      walked = walk finds.known events p (loops_known p) steps_of 0 0 levels (all_seen events) (λ j. ap steps_of (from_none j)) (follow_all (all_seen events))

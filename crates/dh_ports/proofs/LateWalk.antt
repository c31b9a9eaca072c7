-- The walk that finds reads behind writes: what it tells is at reads of slots of which nothing is left.
use Rattle.std.proofs.Common.{◌≡◌, ℕ, zero, suc, ◌+◌, ◌-◌, ◌<◌, ◌≤◌, ◌==◌, ◌&&◌, Bool, true, false, if◌then◌else◌, List, [], ◌∷◌, ◌++◌, length, map, refl, ap, sym, ◌∙◌, subst, arith, ◌⊎◌, inl, inr, Contains}
use mathlib.Core.Path.{fun_ext}
use Rattle.std.specs.Prelude.{Option, Some, None, option_map, slice_get}
use Rattle.std.specs.List.{AllByRecursion}
use Rattle.std.proofs.lemmas.Bool.{cases_Bool, eqb-true, eq-eqb}
use Rattle.std.proofs.lemmas.List.Elements.{Contains-append_left, Contains-append_right, Contains-append_cases}
use Rattle.dh_base.specs.declared.places.Place.{Place}
use Rattle.dh_base.specs.declared.rules.Rule.TheVariants as rule
use Rattle.dh_tree.specs.declared.breaches.Breach.{Breach}
use Rattle.dh_tree.specs.declared.trees.counters.Counter.{Counter}
use Rattle.dh_tree.specs.LeastBreach.{breach}
use Rattle.dh_tree.specs.Kinds.{place_of as term_place}
use Rattle.dh_tree.specs.PlainTrees.{Term, term, Program}
use Rattle.dh_events.specs.declared.classes.Key.{Key}
use Rattle.dh_events.specs.declared.events.Event.{Event}
use Rattle.dh_events.specs.declared.events.Event.TheVariants as event
use Rattle.dh_events.specs.declared.events.Site.{Site}
use Rattle.dh_ports.specs.declared.levels.Step.{Step}
use Rattle.dh_ports.specs.declared.levels.Step.TheVariants as step
use Rattle.dh_ports.specs.declared.moves.Move.{Move}
use Rattle.dh_ports.specs.declared.moves.Move.TheVariants as move
use Rattle.dh_ports.specs.Claims.{access_of, claims_of, moves_from}
use Rattle.dh_events.specs.Classes.{KeysAreDistinct, is_same}
use Rattle.dh_ports.specs.Courses.{less, before_at}
use Rattle.dh_ports.specs.Expanded.{level_behind, all_taken, AreTaking}
use Rattle.dh_events.specs.Incidents.{PortEvent, touches, assigned, arm_begins, arm_ends, begins, next, ends}
use Rattle.dh_ports.specs.Levels.{Level, slot_level, taken, begun, kept_back, settled_slot_level, left_before_each}
use Rattle.dh_events.specs.Noted.{event_seen, all_seen}
use Rattle.dh_ports.specs.Orders.{order_of, order_step, slot_in, step_in}
use Rattle.dh_ports.specs.Scanned.{bank_key, take_of, StepsAt, ClaimOrdersAt, IsOrdering, AreOrdering, late_at, move_place, maybe_event_place, all_late}
use Rattle.dh_ports.specs.Wholes.{Touched, touched}
use Rattle.dh_ports.proofs.ExpandedTies.{steps_taken}
use Rattle.dh_events.proofs.KeyFacts.{same_key, own_key}
use Rattle.dh_ports.proofs.ClaimedBanks.{IsClaimOf, all_claims}
use Rattle.dh_ports.proofs.AccessClaims.{Follows, follow_here, follow_next, nth_claims, claim_lists}
use Rattle.dh_ports.proofs.SpentWalk.{left_here, left_later}

absurd : {A : Type 0} → ⊥ → A
absurd e = elim e [ ]

some_same : {A : Type 0} (x y : A) → Some x ≡ Some y → x ≡ y
some_same x y e = cc

-- Steps as a function of moves.

pub slot_found : (known : List Key) (k : Key) (s : ℕ) → slot_in known k ≡ Some s → slice_get known s ≡ Some k
slot_found [] k s e = cc
slot_found (x ∷ xs) k s e = by_test (cases_Bool (is_same x k)) e (slot_found xs k)
  where
    of_rest : (o : Option ℕ) → ((n : ℕ) → o ≡ Some n → slice_get xs n ≡ Some k) → option_map suc o ≡ Some s → slice_get (x ∷ xs) s ≡ Some k
    of_rest None rest e = cc
    of_rest (Some n) rest e = ap (slice_get (x ∷ xs)) (sym (some_same (suc n) s e)) ∙ rest n refl

    by_test : (is_same x k ≡ true) ⊎ (is_same x k ≡ false) → (if is_same x k then Some 0 else option_map suc (slot_in xs k)) ≡ Some s → ((n : ℕ) → slot_in xs k ≡ Some n → slice_get xs n ≡ Some k) → slice_get (x ∷ xs) s ≡ Some k
    by_test (inl f) e rest = ap (slice_get (x ∷ xs)) (sym (some_same 0 s (sym (ap (λ b. if b then Some 0 else option_map suc (slot_in xs k)) f) ∙ e))) ∙ ap (λ y. Some y) (same_key x k f)
    by_test (inr f) e rest = of_rest (slot_in xs k) rest (sym (ap (λ b. if b then Some 0 else option_map suc (slot_in xs k)) f) ∙ e)

pub slot_none : (known : List Key) (k : Key) → slot_in known k ≡ None → (n : ℕ) → slice_get known n ≡ Some k → ⊥
slot_none [] k e n f = cc
slot_none (x ∷ xs) k e n f = by_test (cases_Bool (is_same x k)) n f (slot_none xs k)
  where
    clash : (b : Bool) → b ≡ true → b ≡ false → ⊥
    clash b e f = cc

    some_none : ◌≡◌ {A = Option ℕ} (Some 0) None → ⊥
    some_none e = cc

    none_of : (o : Option ℕ) → option_map suc o ≡ None → o ≡ None
    none_of None e = refl
    none_of (Some n) e = cc

    by_test : (is_same x k ≡ true) ⊎ (is_same x k ≡ false) → (n : ℕ) → slice_get (x ∷ xs) n ≡ Some k → (slot_in xs k ≡ None → (n : ℕ) → slice_get xs n ≡ Some k → ⊥) → ⊥
    by_test (inl g) n f rest = some_none (sym (ap (λ b. if b then Some 0 else option_map suc (slot_in xs k)) g) ∙ e)
    by_test (inr g) zero f rest = clash (is_same x k) (subst (λ (y : Key). is_same x y ≡ true) (some_same x k f) (own_key x)) g
    by_test (inr g) (suc n) f rest = rest (none_of (slot_in xs k) (sym (ap (λ b. if b then Some 0 else option_map suc (slot_in xs k)) g) ∙ e)) n f

module _ (known : List Key) (distinct : KeysAreDistinct known) where
  pub slot_is : (k : Key) (s : ℕ) → slice_get known s ≡ Some k → slot_in known k ≡ Some s
  slot_is k s e = by_slot (slot_in known k) refl
    where
      by_slot : (o : Option ℕ) → slot_in known k ≡ o → o ≡ Some s
      by_slot None f = absurd (slot_none known k f s e)
      by_slot (Some n) f = ap (λ x. Some x) (distinct n s k (slot_found known k n f) e)

  slot_lacks : (k : Key) → ((n : ℕ) → slice_get known n ≡ Some k → ⊥) → slot_in known k ≡ None
  slot_lacks k none = by_slot (slot_in known k) refl
    where
      by_slot : (o : Option ℕ) → slot_in known k ≡ o → o ≡ None
      by_slot None f = refl
      by_slot (Some n) f = absurd (none n (slot_found known k n f))

  steps_at : (k : Key) (takes : ℕ) (s : Step) → StepsAt known k takes s → s ≡ step_in (slot_in known k) takes
  steps_at k takes s (inl (slot, (e, f))) = f ∙ sym (ap (λ o. step_in o takes) (slot_is k slot e))
  steps_at k takes s (inr (none, f)) = f ∙ sym (ap (λ o. step_in o takes) (slot_lacks k none))

module _ (known : List Key) (distinct : KeysAreDistinct known) (events : List Event) where
  pub order_is : (m : Move) (s : Step) → IsOrdering known events m s → s ≡ order_step known events m
  order_is (move.Claim e bank keys) s h = of_event (slice_get events e) h
    where
      of_event : (o : Option Event) → ClaimOrdersAt known o bank s → s ≡ order_of known o bank
      of_event None h = absurd h
      of_event (Some (event.Touch writes phase round access element newest)) h = steps_at known distinct (bank_key phase bank) (take_of writes) s h
      of_event (Some (event.Assigned entity)) h = h
      of_event (Some event.ArmBegins) h = h
      of_event (Some event.ArmEnds) h = h
      of_event (Some event.Begins) h = h
      of_event (Some event.Next) h = h
      of_event (Some event.Ends) h = h
  order_is move.Begin s h = h
  order_is move.Next s h = h
  order_is move.End s h = h

  pub orders_are : (ms : List Move) (ss : List Step) → AreOrdering known events ms ss → ss ≡ map (order_step known events) ms
  orders_are [] [] h = refl
  orders_are [] (s ∷ ss) h = absurd h
  orders_are (m ∷ ms) [] h = absurd h
  orders_are (m ∷ ms) (s ∷ ss) h = ap (λ x. x ∷ ss) (order_is m s h.0) ∙ ap (λ l. order_step known events m ∷ l) (orders_are ms ss h.1)

-- The claims of one access.

-- a step looks at a slot only, or takes of one, if it concerns any
abbrev pub IsLook : Step → Type 0
IsLook (step.Access slot takes) = takes ≡ 0
IsLook step.Other = Unit {0}
IsLook step.Begin = ⊥
IsLook step.Next = ⊥
IsLook step.End = ⊥
IsLook step.Back = ⊥

abbrev pub IsTake : Step → Type 0
IsTake (step.Access slot takes) = takes ≡ 1
IsTake step.Other = Unit {0}
IsTake step.Begin = ⊥
IsTake step.Next = ⊥
IsTake step.End = ⊥
IsTake step.Back = ⊥

-- a step looks at a slot
abbrev pub Looks : (slot : ℕ) → List Step → Type 0
Looks slot [] = ⊥
Looks slot (step.Access other takes ∷ ss) = ((other ≡ slot) × (takes ≡ 0)) ⊎ Looks slot ss
Looks slot (step.Other ∷ ss) = Looks slot ss
Looks slot (step.Begin ∷ ss) = Looks slot ss
Looks slot (step.Next ∷ ss) = Looks slot ss
Looks slot (step.End ∷ ss) = Looks slot ss
Looks slot (step.Back ∷ ss) = Looks slot ss

looks_taking : (ss : List Step) → AllByRecursion IsLook ss → AreTaking ss
looks_taking [] h = tt
looks_taking (step.Access slot takes ∷ ss) h = (tt, looks_taking ss h.1)
looks_taking (step.Other ∷ ss) h = (tt, looks_taking ss h.1)
looks_taking (step.Begin ∷ ss) h = absurd h.0
looks_taking (step.Next ∷ ss) h = absurd h.0
looks_taking (step.End ∷ ss) h = absurd h.0
looks_taking (step.Back ∷ ss) h = absurd h.0

takes_taking : (ss : List Step) → AllByRecursion IsTake ss → AreTaking ss
takes_taking [] h = tt
takes_taking (step.Access slot takes ∷ ss) h = (tt, takes_taking ss h.1)
takes_taking (step.Other ∷ ss) h = (tt, takes_taking ss h.1)
takes_taking (step.Begin ∷ ss) h = absurd h.0
takes_taking (step.Next ∷ ss) h = absurd h.0
takes_taking (step.End ∷ ss) h = absurd h.0
takes_taking (step.Back ∷ ss) h = absurd h.0

pub no_looks : (slot : ℕ) (ss : List Step) → AllByRecursion IsTake ss → Looks slot ss → ⊥
no_looks slot [] h l = l
no_looks slot (step.Access other takes ∷ ss) h (inl l) = zero_one (sym l.1 ∙ h.0)
  where
    zero_one : ◌≡◌ {A = ℕ} 0 1 → ⊥
    zero_one e = omega (arith, e)
no_looks slot (step.Access other takes ∷ ss) h (inr l) = no_looks slot ss h.1 l
no_looks slot (step.Other ∷ ss) h l = no_looks slot ss h.1 l
no_looks slot (step.Begin ∷ ss) h l = absurd h.0
no_looks slot (step.Next ∷ ss) h l = absurd h.0
no_looks slot (step.End ∷ ss) h l = absurd h.0
no_looks slot (step.Back ∷ ss) h l = absurd h.0

-- what only looks takes nothing
pub looks_nothing : (slot : ℕ) (ss : List Step) → AllByRecursion IsLook ss → all_taken slot ss ≡ 0
looks_nothing slot [] h = refl
looks_nothing slot (step.Access other takes ∷ ss) h = none (other == slot) takes h.0 (all_taken slot ss) (looks_nothing slot ss h.1)
  where
    none : (b : Bool) (t : ℕ) → t ≡ 0 → (r : ℕ) → r ≡ 0 → (if b then t else 0) + r ≡ 0
    none true t e r f = omega (arith, e, f)
    none false t e r f = omega (arith, f)
looks_nothing slot (step.Other ∷ ss) h = only (all_taken slot ss) (looks_nothing slot ss h.1)
  where
    only : (r : ℕ) → r ≡ 0 → 0 + r ≡ 0
    only r e = omega (arith, e)
looks_nothing slot (step.Begin ∷ ss) h = absurd h.0
looks_nothing slot (step.Next ∷ ss) h = absurd h.0
looks_nothing slot (step.End ∷ ss) h = absurd h.0
looks_nothing slot (step.Back ∷ ss) h = absurd h.0

module _ (whole : List PortEvent) where
  abbrev pub scan : (ℕ → Level) → List Move → List Step → List Breach
  scan levels ms ss = all_late whole ms ss (left_before_each levels ss)

  abbrev behind : (ℕ → Level) → List Step → ℕ → Level
  behind levels ss slot = level_behind slot (levels slot) ss

  one_less : (m n : ℕ) → suc m ≡ suc n → m ≡ n
  one_less m n e = omega (arith, e)

  -- a taking list is never late
  takes_scan : (ms rest : List Move) (ss rs : List Step) (levels : ℕ → Level) → length ss ≡ length ms → AllByRecursion IsTake ss → scan levels (ms ++ rest) (ss ++ rs) ≡ scan (behind levels ss) rest rs
  takes_scan [] rest [] rs levels e h = refl
  takes_scan [] rest (s ∷ ss) rs levels e h = absurd (none (length ss) e)
    where
      none : (n : ℕ) → suc n ≡ 0 → ⊥
      none n e = omega (arith, e)
  takes_scan (m ∷ ms) rest [] rs levels e h = absurd (none (length ms) e)
    where
      none : (n : ℕ) → 0 ≡ suc n → ⊥
      none n e = omega (arith, e)
  takes_scan (m ∷ ms) rest (step.Access slot takes ∷ ss) rs levels e h =
      ap (λ t. if (t == 0) && ((levels slot).now == 0) then late_at (move_place whole m) ++ scan (λ other. taken slot takes other (levels other)) (ms ++ rest) (ss ++ rs) else scan (λ other. taken slot takes other (levels other)) (ms ++ rest) (ss ++ rs)) h.0
      ∙ takes_scan ms rest ss rs (λ other. taken slot takes other (levels other)) (one_less _ _ e) h.1
  takes_scan (m ∷ ms) rest (step.Other ∷ ss) rs levels e h = takes_scan ms rest ss rs levels (one_less _ _ e) h.1
  takes_scan (m ∷ ms) rest (step.Begin ∷ ss) rs levels e h = absurd h.0
  takes_scan (m ∷ ms) rest (step.Next ∷ ss) rs levels e h = absurd h.0
  takes_scan (m ∷ ms) rest (step.End ∷ ss) rs levels e h = absurd h.0
  takes_scan (m ∷ ms) rest (step.Back ∷ ss) rs levels e h = absurd h.0

  -- a looking list is late where nothing is left
  abbrev Found : (place : Place) → (ℕ → Level) → List Step → Breach → Type 0
  Found place levels ss b = (b ≡ breach rule.ReadAfterWrite place) × ((slot : ℕ) × (Looks slot ss × ((levels slot).now ≡ 0)))

  look_levels : (slot takes : ℕ) (levels : ℕ → Level) → takes ≡ 0 → ◌≡◌ {A = ℕ → Level} (λ other. taken slot takes other (levels other)) levels
  look_levels slot takes levels e = fun_ext (λ other. same (slot == other) (levels other))
    where
      less_none : (n t : ℕ) → t ≡ 0 → n - t ≡ n
      less_none n t e = omega (arith, e)

      same : (b : Bool) (l : Level) → (if b then slot_level (l.now - takes) l.base l.low l.outer else l) ≡ l
      same true l = ap (λ n. slot_level n l.base l.low l.outer) (less_none l.now takes e)
      same false l = refl

  only_one : (x y : Breach) → Contains (x ∷ []) y → y ≡ x
  only_one x y (zero, l, e) = sym e
  only_one x y (suc k, l, e) = absurd (none k l)
    where
      none : (k : ℕ) → suc k < 1 → ⊥
      none k e = omega (arith, e)

  module _ (event : ℕ) (place : Place) (stands : maybe_event_place (slice_get whole event) ≡ Some place) where
    place_of_claim : (m : Move) → IsClaimOf event m → late_at (move_place whole m) ≡ breach rule.ReadAfterWrite place ∷ []
    place_of_claim (move.Claim e slot keys) h = ap (λ n. late_at (maybe_event_place (slice_get whole n))) h ∙ ap late_at stands
    place_of_claim move.Begin h = absurd h
    place_of_claim move.Next h = absurd h
    place_of_claim move.End h = absurd h

    first_so : (m : Move) (ms rest : List Move) (slot takes : ℕ) (ss rs : List Step) (levels : ℕ → Level) → takes ≡ 0
        → scan levels ((m ∷ ms) ++ rest) ((step.Access slot takes ∷ ss) ++ rs) ≡ (if (levels slot).now == 0 then late_at (move_place whole m) ++ scan levels (ms ++ rest) (ss ++ rs) else scan levels (ms ++ rest) (ss ++ rs))
    first_so m ms rest slot takes ss rs levels q =
        ap (λ (ls : ℕ → Level). if (takes == 0) && ((levels slot).now == 0) then late_at (move_place whole m) ++ scan ls (ms ++ rest) (ss ++ rs) else scan ls (ms ++ rest) (ss ++ rs)) (look_levels slot takes levels q)
        ∙ ap (λ t. if (t == 0) && ((levels slot).now == 0) then late_at (move_place whole m) ++ scan levels (ms ++ rest) (ss ++ rs) else scan levels (ms ++ rest) (ss ++ rs)) q

    by_look : (m : Move) (ms rest : List Move) (slot takes : ℕ) (ss rs : List Step) (levels : ℕ → Level) (b : Breach) → IsClaimOf event m → takes ≡ 0 → (((levels slot).now == 0) ≡ true) ⊎ (((levels slot).now == 0) ≡ false)
        → (Contains (scan levels (ms ++ rest) (ss ++ rs)) b → Found place levels ss b ⊎ Contains (scan levels rest rs) b) × (Found place levels ss b ⊎ Contains (scan levels rest rs) b → Contains (scan levels (ms ++ rest) (ss ++ rs)) b)
        → (Contains (scan levels ((m ∷ ms) ++ rest) ((step.Access slot takes ∷ ss) ++ rs)) b → Found place levels (step.Access slot takes ∷ ss) b ⊎ Contains (scan levels rest rs) b)
        × (Found place levels (step.Access slot takes ∷ ss) b ⊎ Contains (scan levels rest rs) b → Contains (scan levels ((m ∷ ms) ++ rest) ((step.Access slot takes ∷ ss) ++ rs)) b)
    by_look m ms rest slot takes ss rs levels b c q (inl f) r =
        let same : scan levels ((m ∷ ms) ++ rest) ((step.Access slot takes ∷ ss) ++ rs) ≡ breach rule.ReadAfterWrite place ∷ scan levels (ms ++ rest) (ss ++ rs) =
        first_so m ms rest slot takes ss rs levels q ∙ (ap (λ b. if b then late_at (move_place whole m) ++ scan levels (ms ++ rest) (ss ++ rs) else scan levels (ms ++ rest) (ss ++ rs)) f ∙ ap (λ l. l ++ scan levels (ms ++ rest) (ss ++ rs)) (place_of_claim m c)) in (
          λ g. elim (Contains-append_cases (breach rule.ReadAfterWrite place ∷ []) (scan levels (ms ++ rest) (ss ++ rs)) b (subst (λ (l : List Breach). Contains l b) same g)) [
            | inl h ↦ inl (only_one _ b h, (slot, (inl (refl, q), eqb-true (levels slot).now 0 f)))
            | inr h ↦ elim (r.0 h) [ inl i ↦ inl (i.0, (i.1.0, (inr i.1.1.0, i.1.1.1))) | inr i ↦ inr i ]
          ],
          λ g. subst (λ (l : List Breach). Contains l b) (sym same) (elim g [
            | inl h ↦ Contains-append_left (breach rule.ReadAfterWrite place ∷ []) (scan levels (ms ++ rest) (ss ++ rs)) b (0, one_more, sym h.0)
            | inr h ↦ Contains-append_right (breach rule.ReadAfterWrite place ∷ []) (scan levels (ms ++ rest) (ss ++ rs)) b (r.1 (inr h))
          ]),
        )
      where
        one_more : 0 < 1
        one_more = omega arith
    by_look m ms rest slot takes ss rs levels b c q (inr f) r =
        let same : scan levels ((m ∷ ms) ++ rest) ((step.Access slot takes ∷ ss) ++ rs) ≡ scan levels (ms ++ rest) (ss ++ rs) =
        first_so m ms rest slot takes ss rs levels q ∙ ap (λ b. if b then late_at (move_place whole m) ++ scan levels (ms ++ rest) (ss ++ rs) else scan levels (ms ++ rest) (ss ++ rs)) f in (
          λ g. elim (r.0 (subst (λ (l : List Breach). Contains l b) same g)) [ inl i ↦ inl (i.0, (i.1.0, (inr i.1.1.0, i.1.1.1))) | inr i ↦ inr i ],
          λ g. subst (λ (l : List Breach). Contains l b) (sym same) (r.1 (elim g [
            | inl h ↦ inl (h.0, (h.1.0, (other_slot h.1.0 h.1.1.1 h.1.1.0, h.1.1.1)))
            | inr h ↦ inr h
          ])),
        )
      where
        clash : (b : Bool) → b ≡ true → b ≡ false → ⊥
        clash b e f = cc

        other_slot : (n : ℕ) → (levels n).now ≡ 0 → ((slot ≡ n) × (takes ≡ 0)) ⊎ Looks n ss → Looks n ss
        other_slot n e (inl l) = absurd (clash ((levels slot).now == 0) (eq-eqb (levels slot).now 0 (ap (λ m. (levels m).now) l.0 ∙ e)) f)
        other_slot n e (inr l) = l

    looks_scan : (ms rest : List Move) (ss rs : List Step) (levels : ℕ → Level) (b : Breach) → length ss ≡ length ms → AllByRecursion (IsClaimOf event) ms → AllByRecursion IsLook ss
        → (Contains (scan levels (ms ++ rest) (ss ++ rs)) b → Found place levels ss b ⊎ Contains (scan levels rest rs) b) × (Found place levels ss b ⊎ Contains (scan levels rest rs) b → Contains (scan levels (ms ++ rest) (ss ++ rs)) b)
    looks_scan [] rest [] rs levels b e c h = (λ f. inr f, λ f. elim f [ inl g ↦ absurd g.1.1.0 | inr g ↦ g ])
    looks_scan [] rest (s ∷ ss) rs levels b e c h = absurd (none (length ss) e)
      where
        none : (n : ℕ) → suc n ≡ 0 → ⊥
        none n e = omega (arith, e)
    looks_scan (m ∷ ms) rest [] rs levels b e c h = absurd (none (length ms) e)
      where
        none : (n : ℕ) → 0 ≡ suc n → ⊥
        none n e = omega (arith, e)
    looks_scan (m ∷ ms) rest (step.Access slot takes ∷ ss) rs levels b e c h =
        by_look m ms rest slot takes ss rs levels b c.0 h.0 (cases_Bool ((levels slot).now == 0)) (looks_scan ms rest ss rs levels b (one_less _ _ e) c.1 h.1)
    looks_scan (m ∷ ms) rest (step.Other ∷ ss) rs levels b e c h = looks_scan ms rest ss rs levels b (one_less _ _ e) c.1 h.1
    looks_scan (m ∷ ms) rest (step.Begin ∷ ss) rs levels b e c h = absurd h.0
    looks_scan (m ∷ ms) rest (step.Next ∷ ss) rs levels b e c h = absurd h.0
    looks_scan (m ∷ ms) rest (step.End ∷ ss) rs levels b e c h = absurd h.0
    looks_scan (m ∷ ms) rest (step.Back ∷ ss) rs levels b e c h = absurd h.0

-- The walk.

module _ (known : List Key) (events : List Event) (p : Program) (loops : Option ℕ → List Counter) (f : ℕ → List Step) where
  abbrev step_of : Move → Step
  step_of m = order_step known events m

  abbrev takes_of : (slot k : ℕ) → ℕ
  takes_of slot k = all_taken slot (f k)

  abbrev pub left_of : (n : ℕ) → (ℕ → Level) → List PortEvent → (slot k : ℕ) → ℕ
  left_of n levels xs slot k = before_at (takes_of slot) n (levels slot) xs k

  abbrev pub Lined : (n event : ℕ) → List PortEvent → Type 0
  Lined n event xs = (j : ℕ) → f (n + j) ≡ map step_of (nth_claims (claim_lists p loops event xs) j)

  -- a read of a slot of which nothing is left
  pub record Late (left : (slot k : ℕ) → ℕ) (n : ℕ) (ts : List Touched) (b : Breach) : Type 0 where
    pub number : ℕ
    pub behind : ℕ
    pub is : number ≡ n + behind
    pub place : Place
    pub stands : option_map (λ (t : Touched). t.place) (slice_get ts behind) ≡ Some place
    pub breaks : b ≡ breach rule.ReadAfterWrite place
    pub slot : ℕ
    pub looks : Looks slot (f number)
    pub gone : left slot number ≡ 0

  abbrev Walks : (n : ℕ) → (ℕ → Level) → List PortEvent → List Breach → Type 0
  Walks n levels xs late = (b : Breach) → (Contains late b → Late (left_of n levels xs) n (touched xs) b) × (Late (left_of n levels xs) n (touched xs) b → Contains late b)

  abbrev seen : List PortEvent
  seen = all_seen events

  map_append : (xs ys : List Move) → map step_of (xs ++ ys) ≡ map step_of xs ++ map step_of ys
  map_append [] ys = refl
  map_append (x ∷ xs) ys = ap (λ l. step_of x ∷ l) (map_append xs ys)

  long : (ms : List Move) → length (map step_of ms) ≡ length ms
  long [] = refl
  long (m ∷ ms) = ap suc (long ms)

  -- the steps of an access look where it reads, and take where it writes
  seen_at : (es : List Event) (i : ℕ) → slice_get (all_seen es) i ≡ option_map event_seen (slice_get es i)
  seen_at [] i = refl
  seen_at (e ∷ es) zero = refl
  seen_at (e ∷ es) (suc i) = seen_at es i

  touch_false : (t u : Term) (a b : Bool) (s z : Site) → touches t a s ≡ touches u b z → a ≡ b
  touch_false t u a b s z e = cc

  look_one : (o : Option Event) (t : Term) (site : Site) (bank : ℕ) → option_map event_seen o ≡ Some (touches t false site) → IsLook (order_of known o bank)
  look_one None t site bank e = tt
  look_one (Some (event.Touch writes phase round access element newest)) t site bank e = by_slot (slot_in known (bank_key phase bank))
    where
      reads : writes ≡ false
      reads = touch_false _ _ _ _ _ _ (some_same _ _ e)

      by_slot : (o : Option ℕ) → IsLook (step_in o (take_of writes))
      by_slot None = tt
      by_slot (Some s) = ap take_of reads
  look_one (Some (event.Assigned entity)) t site bank e = tt
  look_one (Some event.ArmBegins) t site bank e = tt
  look_one (Some event.ArmEnds) t site bank e = tt
  look_one (Some event.Begins) t site bank e = tt
  look_one (Some event.Next) t site bank e = tt
  look_one (Some event.Ends) t site bank e = tt

  take_one : (o : Option Event) (t : Term) (site : Site) (bank : ℕ) → option_map event_seen o ≡ Some (touches t true site) → IsTake (order_of known o bank)
  take_one None t site bank e = tt
  take_one (Some (event.Touch writes phase round access element newest)) t site bank e = by_slot (slot_in known (bank_key phase bank))
    where
      takes : writes ≡ true
      takes = touch_false _ _ _ _ _ _ (some_same _ _ e)

      by_slot : (o : Option ℕ) → IsTake (step_in o (take_of writes))
      by_slot None = tt
      by_slot (Some s) = ap take_of takes
  take_one (Some (event.Assigned entity)) t site bank e = tt
  take_one (Some event.ArmBegins) t site bank e = tt
  take_one (Some event.ArmEnds) t site bank e = tt
  take_one (Some event.Begins) t site bank e = tt
  take_one (Some event.Next) t site bank e = tt
  take_one (Some event.Ends) t site bank e = tt

  pub all_look : (event : ℕ) (t : Term) (site : Site) → slice_get seen event ≡ Some (touches t false site) → (ms : List Move) → AllByRecursion (IsClaimOf event) ms → AllByRecursion IsLook (map step_of ms)
  all_look event t site e [] h = tt
  all_look event t site e (move.Claim other bank keys ∷ ms) h = (look_one (slice_get events other) t site bank (sym (seen_at events other) ∙ (ap (slice_get seen) h.0 ∙ e)), all_look event t site e ms h.1)
  all_look event t site e (move.Begin ∷ ms) h = absurd h.0
  all_look event t site e (move.Next ∷ ms) h = absurd h.0
  all_look event t site e (move.End ∷ ms) h = absurd h.0

  pub all_take : (event : ℕ) (t : Term) (site : Site) → slice_get seen event ≡ Some (touches t true site) → (ms : List Move) → AllByRecursion (IsClaimOf event) ms → AllByRecursion IsTake (map step_of ms)
  all_take event t site e [] h = tt
  all_take event t site e (move.Claim other bank keys ∷ ms) h = (take_one (slice_get events other) t site bank (sym (seen_at events other) ∙ (ap (slice_get seen) h.0 ∙ e)), all_take event t site e ms h.1)
  all_take event t site e (move.Begin ∷ ms) h = absurd h.0
  all_take event t site e (move.Next ∷ ms) h = absurd h.0
  all_take event t site e (move.End ∷ ms) h = absurd h.0

  -- an access, and what comes behind it
  abbrev own_claims : (event : ℕ) → Term → Bool → Site → List Move
  own_claims event t w site = claims_of p event (access_of (loops site.round) w t)

  abbrev next_levels : (ℕ → Level) → ℕ → ℕ → Level
  next_levels levels n slot = less (takes_of slot n) (levels slot)

  module _ (n event : ℕ) (levels : ℕ → Level) (t : Term) (site : Site) (xs : List PortEvent) where
    later : (w : Bool) (b : Breach) → Late (left_of (suc n) (next_levels levels n) xs) (suc n) (touched xs) b → Late (left_of n levels (touches t w site ∷ xs)) n (touched (touches t w site ∷ xs)) b
    later w b r = record {
      number = r.number;
      behind = suc r.behind;
      is = r.is ∙ shift n r.behind;
      place = r.place;
      stands = r.stands;
      breaks = r.breaks;
      slot = r.slot;
      looks = r.looks;
      gone = left_later [] seen p loops f n levels t w site xs r.slot r.number (subst (λ (m : ℕ). suc n ≤ m) (sym r.is) (more n r.behind)) ∙ r.gone;
    }
      where
        shift : (n m : ℕ) → suc n + m ≡ n + suc m
        shift n m = omega arith

        more : (n m : ℕ) → suc n ≤ suc n + m
        more n m = omega arith

    -- one that is found is the first or comes behind it
    split : (w : Bool) (b : Breach) → Late (left_of n levels (touches t w site ∷ xs)) n (touched (touches t w site ∷ xs)) b
        → ((b ≡ breach rule.ReadAfterWrite (term_place t)) × ((slot : ℕ) × (Looks slot (f n) × ((levels slot).now ≡ 0)))) ⊎ Late (left_of (suc n) (next_levels levels n) xs) (suc n) (touched xs) b
    split w b r = by_behind r.behind r.is r.stands
      where
        none : (n : ℕ) → n + 0 ≡ n
        none n = omega arith

        shift : (n m : ℕ) → n + suc m ≡ suc n + m
        shift n m = omega arith

        more : (n m : ℕ) → suc n ≤ suc n + m
        more n m = omega arith

        place_is : (t : Term) (place : Place) → option_map (λ (t : Touched). t.place) (slice_get (touched (touches t w site ∷ xs)) 0) ≡ Some place → place ≡ term_place t
        place_is (term place kind form) other e = sym (some_same _ _ e)

        by_behind : (m : ℕ) → r.number ≡ n + m → option_map (λ (t : Touched). t.place) (slice_get (touched (touches t w site ∷ xs)) m) ≡ Some r.place
            → ((b ≡ breach rule.ReadAfterWrite (term_place t)) × ((slot : ℕ) × (Looks slot (f n) × ((levels slot).now ≡ 0)))) ⊎ Late (left_of (suc n) (next_levels levels n) xs) (suc n) (touched xs) b
        by_behind zero e s =
            let here : r.number ≡ n = e ∙ none n in
            inl (
              r.breaks ∙ ap (λ q. breach rule.ReadAfterWrite q) (place_is t r.place s),
              (
                r.slot,
                (
                  subst (λ (m : ℕ). Looks r.slot (f m)) here r.looks,
                  sym (left_here [] seen p loops f n levels t w site xs r.slot) ∙ (ap (λ m. left_of n levels (touches t w site ∷ xs) r.slot m) (sym here) ∙ r.gone),
                ),
              ),
            )
        by_behind (suc m) e s = inr (record {
          number = r.number;
          behind = m;
          is = e ∙ shift n m;
          place = r.place;
          stands = s;
          breaks = r.breaks;
          slot = r.slot;
          looks = r.looks;
          gone = sym (left_later [] seen p loops f n levels t w site xs r.slot r.number (subst (λ (k : ℕ). suc n ≤ k) (sym (e ∙ shift n m)) (more n m))) ∙ r.gone;
        })

    here : (w : Bool) (b : Breach) → (b ≡ breach rule.ReadAfterWrite (term_place t)) × ((slot : ℕ) × (Looks slot (f n) × ((levels slot).now ≡ 0))) → Late (left_of n levels (touches t w site ∷ xs)) n (touched (touches t w site ∷ xs)) b
    here w b (e, (slot, (l, g))) = record {
      number = n;
      behind = 0;
      is = none n;
      place = term_place t;
      stands = place_is t;
      breaks = e;
      slot = slot;
      looks = l;
      gone = left_here [] seen p loops f n levels t w site xs slot ∙ g;
    }
      where
        none : (n : ℕ) → n ≡ n + 0
        none n = omega arith

        place_is : (t : Term) → option_map (λ (t : Touched). t.place) (slice_get (touched (touches t w site ∷ xs)) 0) ≡ Some (term_place t)
        place_is (term place kind form) = refl

    module _ (w : Bool) (lined : Lined n event (touches t w site ∷ xs)) (stands : slice_get seen event ≡ Some (touches t w site)) where
      own_steps : f n ≡ map step_of (own_claims event t w site)
      own_steps = ap f (none n) ∙ lined 0
        where
          none : (n : ℕ) → n ≡ n + 0
          none n = omega arith

      levels_are : AreTaking (map step_of (own_claims event t w site)) → ◌≡◌ {A = ℕ → Level} (behind seen levels (map step_of (own_claims event t w site))) (next_levels levels n)
      levels_are h = fun_ext (λ slot. steps_taken slot (map step_of (own_claims event t w site)) (levels slot) h ∙ ap (λ ss. less (all_taken slot ss) (levels slot)) (sym own_steps))

    touch_walk : (w : Bool) (lined : Lined n event (touches t w site ∷ xs)) (stands : slice_get seen event ≡ Some (touches t w site))
        → Walks (suc n) (next_levels levels n) xs (scan seen (next_levels levels n) (moves_from p loops (event + 1) xs) (map step_of (moves_from p loops (event + 1) xs)))
        → Walks n levels (touches t w site ∷ xs) (scan seen levels (own_claims event t w site ++ moves_from p loops (event + 1) xs) (map step_of (own_claims event t w site ++ moves_from p loops (event + 1) xs)))
    touch_walk true lined stands rest b =
        let takes = all_take event t site stands (own_claims event t true site) (all_claims p event (access_of (loops site.round) true t)) in
        let same = ap (λ ss. scan seen levels (own_claims event t true site ++ moves_from p loops (event + 1) xs) ss) (map_append (own_claims event t true site) (moves_from p loops (event + 1) xs))
        ∙ (takes_scan seen (own_claims event t true site) (moves_from p loops (event + 1) xs) (map step_of (own_claims event t true site)) (map step_of (moves_from p loops (event + 1) xs)) levels (long (own_claims event t true site)) takes
        ∙ ap (λ (ls : ℕ → Level). scan seen ls (moves_from p loops (event + 1) xs) (map step_of (moves_from p loops (event + 1) xs))) (levels_are true lined stands (takes_taking _ takes))) in (
          λ c. later true b ((rest b).0 (subst (λ (l : List Breach). Contains l b) same c)),
          λ r. subst (λ (l : List Breach). Contains l b) (sym same) ((rest b).1 (elim (split true b r) [
            | inl q ↦ absurd (no_looks q.1.0 (map step_of (own_claims event t true site)) takes (subst (λ (ss : List Step). Looks q.1.0 ss) (own_steps true lined stands) q.1.1.0))
            | inr q ↦ q
          ])),
        )
    touch_walk false lined stands rest b =
        let looks = all_look event t site stands (own_claims event t false site) (all_claims p event (access_of (loops site.round) false t)) in
        let r = looks_scan seen event (term_place t) (ap maybe_event_place stands) (own_claims event t false site) (moves_from p loops (event + 1) xs) (map step_of (own_claims event t false site)) (map step_of (moves_from p loops (event + 1) xs)) levels b
        (long (own_claims event t false site)) (all_claims p event (access_of (loops site.round) false t)) looks in
        let still : ◌≡◌ {A = ℕ → Level} levels (next_levels levels n) = fun_ext (λ slot. same_level (levels slot) (takes_of slot n) (ap (all_taken slot) (own_steps false lined stands) ∙ looks_nothing slot (map step_of (own_claims event t false site)) looks)) in
        let whole = ap (λ ss. scan seen levels (own_claims event t false site ++ moves_from p loops (event + 1) xs) ss) (map_append (own_claims event t false site) (moves_from p loops (event + 1) xs)) in
        let behind_is = ap (λ (ls : ℕ → Level). scan seen ls (moves_from p loops (event + 1) xs) (map step_of (moves_from p loops (event + 1) xs))) still in (
          λ c. elim (r.0 (subst (λ (l : List Breach). Contains l b) whole c)) [
            | inl q ↦ here false b (q.0, (q.1.0, (subst (λ (ss : List Step). Looks q.1.0 ss) (sym (own_steps false lined stands)) q.1.1.0, q.1.1.1)))
            | inr q ↦ later false b ((rest b).0 (subst (λ (l : List Breach). Contains l b) behind_is q))
          ],
          λ g. subst (λ (l : List Breach). Contains l b) (sym whole) (r.1 (elim (split false b g) [
            | inl q ↦ inl (q.0, (q.1.0, (subst (λ (ss : List Step). Looks q.1.0 ss) (own_steps false lined stands) q.1.1.0, q.1.1.1)))
            | inr q ↦ inr (subst (λ (l : List Breach). Contains l b) (sym behind_is) ((rest b).1 q))
          ])),
        )
      where
        less_none : (n t : ℕ) → t ≡ 0 → n ≡ n - t
        less_none n t e = omega (arith, e)

        same_level : (l : Level) (c : ℕ) → c ≡ 0 → l ≡ less c l
        same_level l c e = ap (λ n. slot_level n l.base l.low l.outer) (less_none l.now c e)

  pub walk : (n event : ℕ) (levels : ℕ → Level) (xs : List PortEvent) → Lined n event xs → Follows xs seen event → Walks n levels xs (scan seen levels (moves_from p loops event xs) (map step_of (moves_from p loops event xs)))
  walk n event levels [] lined follows = λ b. (λ c. absurd (nothing b c), λ r. absurd (none_there r.place r.stands))
    where
      nothing : (b : Breach) → Contains [] b → ⊥
      nothing b (k, l, e) = none k l
        where
          none : (k : ℕ) → k < 0 → ⊥
          none k e = omega (arith, e)

      none_there : (place : Place) → ◌≡◌ {A = Option Place} None (Some place) → ⊥
      none_there place e = cc
  walk n event levels (touches t w site ∷ xs) lined follows =
      touch_walk n event levels t site xs w lined (follow_here _ xs seen event follows)
      (walk (suc n) (event + 1) (next_levels levels n) xs (λ j. ap f (shift n j) ∙ lined (suc j)) (follow_next _ xs seen event follows))
    where
      shift : (n j : ℕ) → suc n + j ≡ n + suc j
      shift n j = omega arith
  walk n event levels (assigned entity ∷ xs) lined follows = walk n (event + 1) levels xs lined (follow_next _ xs seen event follows)
  walk n event levels (arm_begins ∷ xs) lined follows = walk n (event + 1) levels xs lined (follow_next _ xs seen event follows)
  walk n event levels (arm_ends ∷ xs) lined follows = walk n (event + 1) levels xs lined (follow_next _ xs seen event follows)
  walk n event levels (begins ∷ xs) lined follows = walk n (event + 1) (λ slot. begun (levels slot)) xs lined (follow_next _ xs seen event follows)
  walk n event levels (next ∷ xs) lined follows = walk n (event + 1) (λ slot. kept_back (levels slot)) xs lined (follow_next _ xs seen event follows)
  walk n event levels (ends ∷ xs) lined follows = walk n (event + 1) (λ slot. settled_slot_level (kept_back (levels slot))) xs lined (follow_next _ xs seen event follows)

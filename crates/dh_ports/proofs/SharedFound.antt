-- Of each access of a program, the walk over its events tells whether it shares an earlier one.
--
-- Incidents and events of the text are views of one list (`JoinedWalks`). A walk over it keeps: what happened so
-- far, each access with its number, moment, phase, moments of variables and class; that a variable is newer than a
-- moment exactly where it was assigned to since; and that of a slot nothing is left exactly where a read of its
-- class happened in arms that are all open (`PastReads`, `SpentSlots`). At a read, the slot of its class is then
-- spent exactly where an earlier read of an equal key stands in open arms, which is that it shares one.
use Rattle.std.proofs.Common.{◌≡◌, ℕ, zero, suc, ◌+◌, ◌<◌, ◌≤◌, ◌==◌, Bool, true, false, if◌then◌else◌, List, [], ◌∷◌, ◌++◌, length, replicate, refl, ap, sym, ◌∙◌, subst, arith}
use Rattle.std.specs.Prelude.{Option, Some, None, slice_get, slice_index}
use Rattle.std.specs.Option.{is_some}
use Rattle.std.proofs.lemmas.List.{get_or-replicate}
use Rattle.std.proofs.lemmas.Option.{slice_get_within}
use Rattle.dh_tree.specs.Numbers.{IsNumbered}
use Rattle.dh_tree.specs.PlainTrees.{Term, term, Program}
use Rattle.dh_tree.specs.declared.trees.expressions.Expr.{Expr}
use Rattle.dh_tree.specs.Seen.{form_seen, term_seen}
use Rattle.dh_meaning.specs.Sites.{Arm, nothing_around}
use Rattle.dh_meets.specs.Sharing.{share_among, share_in}
use Rattle.dh_meets.specs.SourceEvents.{Element, SourceAccess, SourceEvent, accesses, trace}
use Rattle.dh_events.specs.declared.classes.Key.{Key}
use Rattle.dh_events.specs.declared.events.Event.{Event}
use Rattle.dh_events.specs.declared.events.Event.TheVariants as event
use Rattle.dh_events.specs.declared.events.Site.{Site}
use Rattle.dh_ports.specs.declared.levels.Step.{Step}
use Rattle.dh_ports.specs.declared.levels.Step.TheVariants as step
use Rattle.dh_events.specs.Accesses.{entity_in}
use Rattle.dh_events.specs.Classes as classes
use Rattle.dh_events.specs.Elements.{moment_assigned_at, clocks_after, element_of, IsElement, IsRead, AreReads, no_clocks}
use Rattle.dh_events.specs.Incidents.{PortEvent, touches, arm_begins, arm_ends, begins, next, ends, site_at, closed, incidents}
use Rattle.dh_events.specs.Incidents as incident
use Rattle.dh_ports.specs.Levels.{Level, start, left_before, left_before_each, lefts_from, begun, gone_back, advance}
use Rattle.dh_events.specs.Noted.{event_seen, all_seen}
use Rattle.dh_ports.specs.Scanned.{shares, all_share, key_with, TakesOf, IsSharing, AreSharing, FindsShared}
use Rattle.dh_events.specs.Stages.{stages_in}
use Rattle.dh_events.specs.Structures.{StructuresAreDistinct}
use Rattle.dh_ports.specs.Wholes.{no_stages, happenings_of, at_touches, Touched, touched_by, of_access, sites_in, TellsPhases, AreEventsOf, TellsShared}
use Rattle.dh_ports.proofs.AccessClaims.{Follows, follow_here, follow_next, follow_all}
use Rattle.dh_ports.proofs.JoinedWalks.{Happens, touch_of, set_at, arm_opens, arm_closes, parts_begin, part_next, parts_end, incident_of, incidents_of, events_of, Runs, walked}
use Rattle.dh_ports.proofs.PastReads.{Noted, noted_access, noted_set, happened, happened_append, spends, Walk, IsSlot, Classed, Held, Phased, shared_among, none_among, write_alone}
use Rattle.dh_ports.proofs.SpentSlots.{Standing, stands_later, stands_set, stands_opens, stands_closes, stands_write, stands_other, stands_read}

absurd : {A : Type 0} → ⊥ → A
absurd e = elim e [ ]

some_same : {A : Type 0} (x y : A) → Some x ≡ Some y → x ≡ y
some_same x y e = cc

first_same : {A : Type 0} (x y : A) (xs ys : List A) → x ∷ xs ≡ y ∷ ys → x ≡ y
first_same x y xs ys e = cc

rest_same : {A : Type 0} (x y : A) (xs ys : List A) → x ∷ xs ≡ y ∷ ys → xs ≡ ys
rest_same x y xs ys e = cc

abbrev step_of_key : Option ℕ → Step
step_of_key None = step.Other
step_of_key (Some slot) = step.Access slot 1

abbrev entity_of : Term → Option ℕ
entity_of (term place kind form) = entity_in form

entity_told : (t : Term) (writes : Bool) (a : SourceAccess) → touched_by t writes ≡ of_access a → entity_of t ≡ a.entity
entity_told (term place kind form) writes a e = ap (λ (x : Touched). x.entity) e

element_told : (t : Term) (writes : Bool) (a : SourceAccess) → touched_by t writes ≡ of_access a → element_of t ≡ a.element
element_told (term place kind form) writes a e = ap (λ (x : Touched). x.element) e

writes_told : (t : Term) (writes : Bool) (a : SourceAccess) → touched_by t writes ≡ of_access a → writes ≡ a.writes
writes_told (term place kind form) writes a e = ap (λ (x : Touched). x.writes) e

touch_term : (t u : Term) (a b : Bool) (s z : Site) → touches t a s ≡ touches u b z → t ≡ u
touch_term t u a b s z e = cc

touch_writes : (t u : Term) (a b : Bool) (s z : Site) → touches t a s ≡ touches u b z → a ≡ b
touch_writes t u a b s z e = cc

touch_site : (t u : Term) (a b : Bool) (s z : Site) → touches t a s ≡ touches u b z → s ≡ z
touch_site t u a b s z e = cc

set_entity : (a b : Option ℕ) → incident.assigned a ≡ incident.assigned b → a ≡ b
set_entity a b e = cc

-- the moments of variables after what happens
abbrev moments_after : (ℕ → ℕ) → (place : ℕ) → Happens → ℕ → ℕ
moments_after v place (touch_of t writes site a) = v
moments_after v place (set_at entity) = moment_assigned_at v (place + 1) entity
moments_after v place (arm_opens arm) = v
moments_after v place arm_closes = v
moments_after v place parts_begin = v
moments_after v place part_next = v
moments_after v place parts_end = v

module _ (w : Walk) where
  -- an access takes of the slot of its class, if it is a read that has one
  pub record Touching (v : ℕ → ℕ) (t : Term) (writes : Bool) (site : Site) (a : SourceAccess) (s : Step) : Type 0 where
    pub key : Option ℕ
    pub takes : s ≡ step_of_key key
    pub none : writes ≡ true → key ≡ None
    pub class : writes ≡ false → touched_by t writes ≡ of_access a → Classed w v site a key

  -- the step that is taken at what happens
  abbrev Goes : (ℕ → ℕ) → Happens → Step → Type 0
  Goes v (touch_of t writes site a) s = Touching v t writes site a s
  Goes v (set_at entity) s = s ≡ step.Other
  Goes v (arm_opens arm) s = s ≡ step.Begin
  Goes v arm_closes s = s ≡ step.Back
  Goes v parts_begin s = s ≡ step.Other
  Goes v part_next s = s ≡ step.Other
  Goes v parts_end s = s ≡ step.Other

  abbrev GoesAll : (ℕ → ℕ) → (place : ℕ) → List Happens → List Step → Type 0
  GoesAll v place [] [] = Unit {0}
  GoesAll v place [] (s ∷ ss) = ⊥
  GoesAll v place (h ∷ hs) [] = ⊥
  GoesAll v place (h ∷ hs) (s ∷ ss) = Goes v h s × GoesAll (moments_after v place h) (place + 1) hs ss

  of_takes : (o : Option Key) (s : Step) → TakesOf w.keys 1 o s → (key : Option ℕ) × (IsSlot w.keys o key × (s ≡ step_of_key key))
  of_takes None s e = (None, (refl, e))
  of_takes (Some k) s (slot, (e, f)) = (Some slot, ((slot, (refl, e)), f))

  -- a read
  reading : (v : ℕ → ℕ) (t : Term) (site : Site) (a : SourceAccess) (s : Step) (element : Option ℕ) (newest : ℕ) → IsElement w.structures v (element_of t) element newest → TakesOf w.keys 1 (key_with site.phase (entity_of t) element newest) s
      → Touching v t false site a s
  reading v t site a s element newest known takes =
      let k = of_takes (key_with site.phase (entity_of t) element newest) s takes in
      record {
        key = k.0;
        takes = k.1.1;
        none = λ e. absurd (untrue e);
        class = λ e f. record {
          element = element;
          newest = newest;
          known = subst (λ (x : Element). IsElement w.structures v x element newest) (element_told t false a f) known;
          slot = subst (λ (x : Option ℕ). IsSlot w.keys (key_with site.phase x element newest) k.0) (entity_told t false a f) k.1.0;
        };
      }
    where
      untrue : false ≡ true → ⊥
      untrue e = cc

  writing : (v : ℕ → ℕ) (t : Term) (site : Site) (a : SourceAccess) (s : Step) → s ≡ step.Other → Touching v t true site a s
  writing v t site a s e = record { key = None; takes = e; none = λ f. refl; class = λ f. absurd (untrue f) }
    where
      untrue : true ≡ false → ⊥
      untrue e = cc

  term_of : (access : Expr) → entity_of (term_seen access) ≡ entity_in (form_seen access.form)
  term_of access = refl

  -- what happens, and the event that it is
  goes : (v : ℕ → ℕ) (place : ℕ) (h : Happens) (e : Event) (s : Step) → event_seen e ≡ incident_of h → IsSharing w.keys e s → IsRead w.structures v e → Goes v h s × (clocks_after v place e ≡ moments_after v place h)
  goes v place (touch_of t writes site a) (event.Touch true phase round access element newest) s e i r =
      (subst (λ (x : Bool). Touching v t x site a s) (touch_writes _ _ _ _ _ _ e) (writing v t site a s i), refl)
  goes v place (touch_of t writes site a) (event.Touch false phase round access element newest) s e i r = (
    subst (λ (x : Bool). Touching v t x site a s) (touch_writes _ _ _ _ _ _ e)
        (subst (λ (x : Term). Touching v x false site a s) (touch_term _ _ _ _ _ _ e)
        (subst (λ (x : Site). Touching v (term_seen access.now) false x a s) (touch_site _ _ _ _ _ _ e) (reading v (term_seen access.now) (site_at phase round) a s element newest r i))),
    refl,
  )
  goes v place (set_at entity) (event.Assigned other) s e i r = (i, ap (λ x. moment_assigned_at v (place + 1) x) (set_entity _ _ e))
  goes v place (arm_opens arm) event.ArmBegins s e i r = (i, refl)
  goes v place arm_closes event.ArmEnds s e i r = (i, refl)
  goes v place parts_begin event.Begins s e i r = (i, refl)
  goes v place part_next event.Next s e i r = (i, refl)
  goes v place parts_end event.Ends s e i r = (i, refl)
  goes v place h x s e i r = cc

  all_go : (v : ℕ → ℕ) (place : ℕ) (hs : List Happens) (es : List Event) (ss : List Step) → all_seen es ≡ incidents_of hs → AreSharing w.keys es ss → AreReads w.structures v place es → GoesAll v place hs ss
  all_go v place [] [] [] e i r = tt
  all_go v place [] [] (s ∷ ss) e i r = i
  all_go v place [] (x ∷ es) ss e i r = cc
  all_go v place (h ∷ hs) [] ss e i r = cc
  all_go v place (h ∷ hs) (x ∷ es) [] e i r = absurd i
  all_go v place (h ∷ hs) (x ∷ es) (s ∷ ss) e i r =
      let g = goes v place h x s (first_same _ _ _ _ e) i.0 r.0 in
      (g.0, all_go (moments_after v place h) (place + 1) hs es ss (rest_same _ _ _ _ e) i.1 (subst (λ (u : ℕ → ℕ). AreReads w.structures u (place + 1) es) g.1 r.1))

  module _ (phased : Phased w) (apart_keys : classes.KeysAreDistinct w.keys) (apart_structures : StructuresAreDistinct w.structures) where
    -- of each access to come, whether it shares one
    abbrev Tells : List Happens → List Step → List Noted → (number : ℕ) → (ℕ → Level) → Type 0
    Tells es ss past number levels = (k : ℕ) (flag : Bool) → slice_get (at_touches (incidents_of es) (all_share ss (left_before_each levels ss))) k ≡ Some flag → flag ≡ is_some (share_in w.program (happened past) (events_of es) (number + k) k)

    touch_tells : (t : Term) (writes : Bool) (site : Site) (a : SourceAccess) (es : List Happens) (ss : List Step) (past : List Noted) (number : ℕ) (levels : ℕ → Level) (key : Option ℕ)
        → shares (step_of_key key) (left_before (step_of_key key) levels) ≡ is_some (share_among w.program 0 (happened past) number a)
        → Tells es ss (past ++ noted_access a key ∷ []) (number + 1) (λ slot. advance slot (step_of_key key) (levels slot)) → Tells (touch_of t writes site a ∷ es) (step_of_key key ∷ ss) past number levels
    touch_tells t writes site a es ss past number levels key here rest zero flag e =
        sym (some_same _ flag e) ∙ (here ∙ ap (λ n. is_some (share_among w.program 0 (happened past) n a)) (none_more number))
      where
        none_more : (n : ℕ) → n ≡ n + 0
        none_more n = omega arith
    touch_tells t writes site a es ss past number levels key here rest (suc k) flag e =
        rest k flag e
        ∙ (ap (λ l. is_some (share_in w.program l (events_of es) (number + 1 + k) k)) (happened_append past (noted_access a key ∷ []))
        ∙ ap (λ n. is_some (share_in w.program (happened past ++ accesses a ∷ []) (events_of es) n k)) (shift number k))
      where
        shift : (n k : ℕ) → n + 1 + k ≡ n + suc k
        shift n k = omega arith

    left_tells : (b : Bool) (n : ℕ) → n ≡ (if b then 0 else 1) → (n == 0) ≡ b
    left_tells true n e = ap (λ m. m == 0) e
    left_tells false n e = ap (λ m. m == 0) e

    module _ (seen : List Arm) (outer : List (List Arm)) (past : List Noted) (v : ℕ → ℕ) (at number : ℕ) (levels : ℕ → Level) (t : Term) (site : Site) (a : SourceAccess) (stands : Standing w (length w.keys) seen outer a.site.arms past v at number levels) (sited : slice_get w.sites number ≡ Some site) where
      -- an access that happens now
      held_now : (key : Option ℕ) → (a.writes ≡ false → Classed w v site a key) → Held w v (at + 1) number a key []
      held_now key class = record {
        moment = at;
        versions = v;
        site = site;
        sited = sited;
        earlier = more at;
        is = class;
        bounded = stands.bounded;
        same = λ e n. refl;
        later = λ e n. absurd (untrue n);
      }
        where
          more : (n : ℕ) → n < n + 1
          more n = omega arith

          untrue : false ≡ true → ⊥
          untrue e = cc

      -- a read, as it happens, by the slot of its class
      read_told : (key : Option ℕ) → a.writes ≡ false → Classed w v site a key → shares (step_of_key key) (left_before (step_of_key key) levels) ≡ is_some (share_among w.program 0 (happened past) number a)
      read_told None reads class = sym (none_among w phased apart_keys apart_structures v number site sited a None reads class refl at 0 past stands.kept)
      read_told (Some slot) reads class =
          left_tells (spends slot a.site.arms past) _ (stands.leaves slot (slot_within slot class.slot)).present
          ∙ shared_among w phased apart_keys apart_structures v number site sited a (Some slot) reads class slot refl at 0 past stands.kept
        where
          slot_within : (slot : ℕ) → IsSlot w.keys (key_with site.phase a.entity class.element class.newest) (Some slot) → slot < length w.keys
          slot_within slot h = by_key (key_with site.phase a.entity class.element class.newest) h
            where
              by_key : (o : Option Key) → IsSlot w.keys o (Some slot) → slot < length w.keys
              by_key None h = cc
              by_key (Some k) (s, (e, f)) = slice_get_within w.keys slot k (ap (slice_get w.keys) (some_same slot s e) ∙ f)

      read_stands : (key : Option ℕ) → a.writes ≡ false → Classed w v site a key → Standing w (length w.keys) seen outer a.site.arms (past ++ noted_access a key ∷ []) v (at + 1) (number + 1) (λ slot. advance slot (step_of_key key) (levels slot))
      read_stands None reads class = stands_other w (length w.keys) seen past v at number levels outer a None refl (held_now None (λ e. class)) stands
      read_stands (Some slot) reads class = stands_read w (length w.keys) seen past v at number levels slot outer a (Some slot) refl reads (held_now (Some slot) (λ e. class)) stands

      write_told : (key : Option ℕ) → key ≡ None → a.writes ≡ true → shares (step_of_key key) (left_before (step_of_key key) levels) ≡ is_some (share_among w.program 0 (happened past) number a)
      write_told key e writes = ap (λ k. shares (step_of_key k) (left_before (step_of_key k) levels)) e ∙ sym (write_alone w.program 0 (happened past) number a writes)

      write_stands : (key : Option ℕ) → key ≡ None → a.writes ≡ true → Standing w (length w.keys) seen outer a.site.arms (past ++ noted_access a key ∷ []) v (at + 1) (number + 1) (λ slot. advance slot (step_of_key key) (levels slot))
      write_stands None e writes = stands_write w (length w.keys) seen past v at number levels outer a None writes (held_now None (λ f. absurd (clash a.writes writes f))) stands
        where
          clash : (b : Bool) → b ≡ true → b ≡ false → ⊥
          clash b e f = cc
      write_stands (Some slot) e writes = absurd (some_none e)
        where
          some_none : Some slot ≡ None → ⊥
          some_none e = cc

      -- both, as an access is one or the other
      now_told : (writes : Bool) (s : Step) (g : Touching v t writes site a s) → touched_by t writes ≡ of_access a
          → (shares (step_of_key g.key) (left_before (step_of_key g.key) levels) ≡ is_some (share_among w.program 0 (happened past) number a))
          × Standing w (length w.keys) seen outer a.site.arms (past ++ noted_access a g.key ∷ []) v (at + 1) (number + 1) (λ slot. advance slot (step_of_key g.key) (levels slot))
      now_told true s g e = (write_told g.key (g.none refl) (sym (writes_told t true a e)), write_stands g.key (g.none refl) (sym (writes_told t true a e)))
      now_told false s g e = (read_told g.key (sym (writes_told t false a e)) (g.class refl e), read_stands g.key (sym (writes_told t false a e)) (g.class refl e))

    set_tells : (entity : Option ℕ) (es : List Happens) (ss : List Step) (past : List Noted) (number : ℕ) (levels : ℕ → Level) → Tells es ss (past ++ noted_set entity ∷ []) number levels → Tells (set_at entity ∷ es) (step.Other ∷ ss) past number levels
    set_tells entity es ss past number levels rest k flag e = rest k flag e ∙ ap (λ l. is_some (share_in w.program l (events_of es) (number + k) k)) (happened_append past (noted_set entity ∷ []))

    told : (es : List Happens) (ss : List Step) (seen : List Arm) (outer : List (List Arm)) (arms : List Arm) (past : List Noted) (v : ℕ → ℕ) (at number : ℕ) (levels : ℕ → Level) → Standing w (length w.keys) seen outer arms past v at number levels
        → Runs seen outer arms es → GoesAll v at es ss → Follows (sites_in (incidents_of es)) w.sites number → Tells es ss past number levels
    told [] [] seen outer arms past v at number levels s r g sites = λ k flag e. absurd (none_there k flag e)
      where
        none_there : (k : ℕ) (flag : Bool) → slice_get {X = Bool} [] k ≡ Some flag → ⊥
        none_there k flag e = some_none e
          where
            some_none : ◌≡◌ {A = Option Bool} None (Some flag) → ⊥
            some_none e = cc
    told [] (x ∷ ss) seen outer arms past v at number levels s r g sites = absurd g
    told (h ∷ es) [] seen outer arms past v at number levels s r g sites = absurd g
    told (touch_of t writes site a ∷ es) (x ∷ ss) seen outer arms past v at number levels s r g sites =
        let here = follow_here site (sites_in (incidents_of es)) w.sites number sites in
        let own = subst (λ (l : List Arm). Standing w (length w.keys) seen outer l past v at number levels) (sym r.0.0) s in
        let now = now_told seen outer past v at number levels t site a own here writes x g.0 r.0.1 in
        subst (λ (y : Step). Tells (touch_of t writes site a ∷ es) (y ∷ ss) past number levels) (sym g.0.takes)
        (touch_tells t writes site a es ss past number levels g.0.key now.0
        (told es ss seen outer arms (past ++ noted_access a g.0.key ∷ []) v (at + 1) (number + 1) (λ slot. advance slot (step_of_key g.0.key) (levels slot))
        (subst (λ (l : List Arm). Standing w (length w.keys) seen outer l (past ++ noted_access a g.0.key ∷ []) v (at + 1) (number + 1) (λ slot. advance slot (step_of_key g.0.key) (levels slot))) r.0.0 now.1) r.1 g.1 (follow_next site (sites_in (incidents_of es)) w.sites number sites)))
    told (set_at entity ∷ es) (x ∷ ss) seen outer arms past v at number levels s r g sites =
        subst (λ (y : Step). Tells (set_at entity ∷ es) (y ∷ ss) past number levels) (sym g.0)
        (set_tells entity es ss past number levels (told es ss seen outer arms (past ++ noted_set entity ∷ []) (moment_assigned_at v (at + 1) entity) (at + 1) number levels (stands_set w (length w.keys) seen past v at number levels outer arms entity s) r g.1 sites))
    told (arm_opens arm ∷ es) (x ∷ ss) seen outer arms past v at number levels s r g sites =
        subst (λ (y : Step). Tells (arm_opens arm ∷ es) (y ∷ ss) past number levels) (sym g.0)
        (told es ss (arm ∷ seen) (arms ∷ outer) (arms ++ arm ∷ []) past v (at + 1) number (λ slot. begun (levels slot)) (stands_opens w (length w.keys) seen past v at number levels outer arms arm r.0 s) r.1 g.1 sites)
    told (arm_closes ∷ es) (x ∷ ss) seen [] arms past v at number levels s r g sites = absurd r
    told (arm_closes ∷ es) (x ∷ ss) seen (o ∷ outer) arms past v at number levels s r g sites =
        subst (λ (y : Step). Tells (arm_closes ∷ es) (y ∷ ss) past number levels) (sym g.0)
        (told es ss seen outer o past v (at + 1) number (λ slot. gone_back (levels slot)) (stands_closes w (length w.keys) seen past v at number levels o outer arms s) r g.1 sites)
    told (parts_begin ∷ es) (x ∷ ss) seen outer arms past v at number levels s r g sites =
        subst (λ (y : Step). Tells (parts_begin ∷ es) (y ∷ ss) past number levels) (sym g.0) (told es ss seen outer arms past v (at + 1) number levels (stands_later w (length w.keys) seen past v at number levels outer arms s) r g.1 sites)
    told (part_next ∷ es) (x ∷ ss) seen outer arms past v at number levels s r g sites =
        subst (λ (y : Step). Tells (part_next ∷ es) (y ∷ ss) past number levels) (sym g.0) (told es ss seen outer arms past v (at + 1) number levels (stands_later w (length w.keys) seen past v at number levels outer arms s) r g.1 sites)
    told (parts_end ∷ es) (x ∷ ss) seen outer arms past v at number levels s r g sites =
        subst (λ (y : Step). Tells (parts_end ∷ es) (y ∷ ss) past number levels) (sym g.0) (told es ss seen outer arms past v (at + 1) number levels (stands_later w (length w.keys) seen past v at number levels outer arms s) r g.1 sites)

-- where a walk begins
begins_so : (w : Walk) → Standing w (length w.keys) [] [] [] [] no_clocks 0 0 (λ s. start (slice_index (replicate (length w.keys) 1) s))
begins_so w = record {
  known = λ b h. h;
  known_outside = tt;
  known_past = tt;
  nested = tt;
  kept = tt;
  counted = refl;
  bounded = λ e. none;
  leaves = λ slot h. record { present = get_or-replicate (length w.keys) slot 1 0 h; stacked = tt };
}
  where
    none : 0 ≤ 0
    none = omega arith

pub shared_found : (first : ℕ) (p : Program) (events : List Event) (flags : List Bool) → IsNumbered first p.body → TellsPhases p → AreEventsOf p events → FindsShared events flags → TellsShared p events flags
shared_found first p events flags numbered phases are finds k flag e =
    let j = walked (stages_in p.body no_stages) first nothing_around refl None closed p.body numbered in
    let seen : all_seen events ≡ incidents_of j.happens = are.seen ∙ sym j.as_incidents in
    let w : Walk = record { program = p; keys = finds.known; structures = are.known; sites = sites_in (happenings_of p) } in
    told (record { program = p; keys = finds.known; structures = are.known; sites = sites_in (happenings_of p) }) phases finds.distinct are.distinct j.happens finds.steps [] [] [] [] no_clocks 0 0 (λ s. start (slice_index (replicate (length finds.known) 1) s))
    (begins_so (record { program = p; keys = finds.known; structures = are.known; sites = sites_in (happenings_of p) })) j.runs
    (all_go (record { program = p; keys = finds.known; structures = are.known; sites = sites_in (happenings_of p) }) no_clocks 0 j.happens events finds.steps seen finds.sharing are.reads)
    (subst (λ (xs : List PortEvent). Follows (sites_in xs) (sites_in (happenings_of p)) 0) (sym j.as_incidents) (follow_all (sites_in (happenings_of p)))) k flag
    (subst (λ (xs : List PortEvent). slice_get (at_touches xs (all_share finds.steps (lefts_from (replicate (length finds.known) 1) finds.steps))) k ≡ Some flag) seen (ap (λ (l : List Bool). slice_get (at_touches (all_seen events) l) k) (sym finds.told) ∙ e))
    ∙ (ap (λ (es : List SourceEvent). is_some (share_in p [] es (0 + k) k)) j.as_events ∙ ap (λ n. is_some (share_in p [] (trace p) n k)) (from_none k))
  where
    from_none : (k : ℕ) → 0 + k ≡ k
    from_none k = omega arith

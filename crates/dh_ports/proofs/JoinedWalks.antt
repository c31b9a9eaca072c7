-- One list of steps for what happens in a command: its incidents and its events are two views of it. In it the
-- arms that are open are those of each access, and each arm that opens is new, since the commands of different
-- `if`s have different numbers. Each part of a command is told for all that may follow it (`runs`).
use Rattle.std.proofs.Common.{◌≡◌, ℕ, suc, ◌+◌, ◌<◌, ◌≤◌, ◌==◌, ◌&&◌, ◌||◌, nat_lt, Bool, true, false, if◌then◌else◌, List, [], ◌∷◌, ◌++◌, append_assoc, append-nil, refl, ap, sym, ◌∙◌, subst, arith, ◌⊎◌, inl, inr}
use Rattle.std.specs.Prelude.{Option, Some, None}
use Rattle.std.specs.List.{list_any}
use Rattle.std.proofs.lemmas.Bool.{eqb-true}
use Rattle.dh_base.specs.declared.places.Place.{Place}
use Rattle.dh_value.specs.declared.kinds.Kind.{Kind}
use Rattle.dh_tree.specs.declared.trees.counters.Counter.{Counter}
use Rattle.dh_tree.specs.Numbers.{commands_in, commands_inside, commands_in_other, commands_in_groups, commands_in_part, IsNumbered, IsNumberedInside, IsNumberedOther, AreNumberedGroups, AreNumbered}
use Rattle.dh_tree.specs.PlainTrees.{Term, term, TermForm, number, truth_value, named, accessed, in_bank, applied, converted, Terms, no_terms, term_then, Action, action, ActionForm, lets, lets_memory, views, assigns, stores, reduces, calls, blocks, decides, repeats, counts, MaybeAction, no_action, one_action, Actions, no_actions, action_then, Groups, no_groups, group_then}
use Rattle.dh_tree.specs.Seen.{terms}
use Rattle.dh_tree.specs.ViewOffsets.{offsets_of}
use Rattle.dh_meaning.specs.Sites.{Arm, Around, in_arm, in_loop, loop_of}
use Rattle.dh_meets.specs.Sharing.{same_arm, same_truth}
use Rattle.dh_meets.specs.SourceEvents as source
use Rattle.dh_meets.specs.SourceEvents.{SourceAccess, SourceEvent, site_of, one_access, source_term_events, form_events, source_terms_events, maybe_events, write_events, events, command_events, other_events, groups_events, part_events}
use Rattle.dh_events.specs.declared.events.Site.{Site}
use Rattle.dh_events.specs.declared.noting.Open.{Open}
use Rattle.dh_events.specs.Incidents.{PortEvent, touches, assigned, arm_begins, arm_ends, begins, next, ends, site_at, term_incidents, form_incidents, terms_incidents, maybe_incidents, target_incidents, is_stepped, closed, released, phase_of, tested, inside_choice, round_inside, when_parted, arms_part, are_parts, open_after, part_open, open_combine, incidents, command_incidents, other_incidents, combine_incidents, groups_incidents, part_incidents}
use Rattle.dh_ports.specs.Wholes.{touched_by, of_access}

absurd : {A : Type 0} → ⊥ → A
absurd e = elim e [ ]

pub data Happens : Type 0 where
  touch_of : (access : Term) → (writes : Bool) → (site : Site) → (source : SourceAccess) → Happens
  set_at : (entity : Option ℕ) → Happens
  arm_opens : (arm : Arm) → Happens
  arm_closes : Happens
  parts_begin : Happens
  part_next : Happens
  parts_end : Happens

abbrev pub incident_of : Happens → PortEvent
incident_of (touch_of access writes site source) = touches access writes site
incident_of (set_at entity) = assigned entity
incident_of (arm_opens arm) = arm_begins
incident_of arm_closes = arm_ends
incident_of parts_begin = begins
incident_of part_next = next
incident_of parts_end = ends

abbrev pub incidents_of : List Happens → List PortEvent
incidents_of [] = []
incidents_of (e ∷ es) = incident_of e ∷ incidents_of es

abbrev pub events_of : List Happens → List SourceEvent
events_of [] = []
events_of (touch_of access writes site a ∷ es) = source.accesses a ∷ events_of es
events_of (set_at entity ∷ es) = source.assigned entity ∷ events_of es
events_of (arm_opens arm ∷ es) = events_of es
events_of (arm_closes ∷ es) = events_of es
events_of (parts_begin ∷ es) = events_of es
events_of (part_next ∷ es) = events_of es
events_of (parts_end ∷ es) = events_of es

incidents_append : (xs ys : List Happens) → incidents_of (xs ++ ys) ≡ incidents_of xs ++ incidents_of ys
incidents_append [] ys = refl
incidents_append (e ∷ xs) ys = ap (λ l. incident_of e ∷ l) (incidents_append xs ys)

events_append : (xs ys : List Happens) → events_of (xs ++ ys) ≡ events_of xs ++ events_of ys
events_append [] ys = refl
events_append (touch_of t w s a ∷ xs) ys = ap (λ l. source.accesses a ∷ l) (events_append xs ys)
events_append (set_at e ∷ xs) ys = ap (λ l. source.assigned e ∷ l) (events_append xs ys)
events_append (arm_opens arm ∷ xs) ys = events_append xs ys
events_append (arm_closes ∷ xs) ys = events_append xs ys
events_append (parts_begin ∷ xs) ys = events_append xs ys
events_append (part_next ∷ xs) ys = events_append xs ys
events_append (parts_end ∷ xs) ys = events_append xs ys

-- whether an arm stands among these
abbrev pub has_arm : Arm → List Arm → Bool
has_arm b arms = list_any (λ c. same_arm b c) arms

-- in these arms, with those that were open outside of each of them, and with these arms opened so far: each
-- access stands in the open arms, and an arm that opens is new
abbrev pub Runs : (seen : List Arm) → (outer : List (List Arm)) → (arms : List Arm) → List Happens → Type 0
Runs seen outer arms [] = Unit {0}
Runs seen outer arms (touch_of access writes site source ∷ es) = ((source.site.arms ≡ arms) × (touched_by access writes ≡ of_access source)) × Runs seen outer arms es
Runs seen outer arms (set_at entity ∷ es) = Runs seen outer arms es
Runs seen outer arms (arm_opens arm ∷ es) = (has_arm arm seen ≡ false) × Runs (arm ∷ seen) (arms ∷ outer) (arms ++ arm ∷ []) es
Runs seen [] arms (arm_closes ∷ es) = ⊥
Runs seen (o ∷ outer) arms (arm_closes ∷ es) = Runs seen outer o es
Runs seen outer arms (parts_begin ∷ es) = Runs seen outer arms es
Runs seen outer arms (part_next ∷ es) = Runs seen outer arms es
Runs seen outer arms (parts_end ∷ es) = Runs seen outer arms es

-- none of these arms is open or was
abbrev pub IsFree : (Arm → Type 0) → List Arm → Type 0
IsFree R seen = (b : Arm) → R b → has_arm b seen ≡ false

-- no other arms opened
abbrev pub OpensIn : (Arm → Type 0) → (seen more : List Arm) → Type 0
OpensIn R seen more = (b : Arm) → (R b → ⊥) → has_arm b seen ≡ false → has_arm b more ≡ false

-- incidents and events are those of one list of events, which opens arms of a set alone
pub record Joins (R : Arm → Type 0) (arms : List Arm) (xs : List PortEvent) (hs : List SourceEvent) : Type 0 where
  pub happens : List Happens
  pub as_incidents : incidents_of happens ≡ xs
  pub as_events : events_of happens ≡ hs
  pub runs : (seen : List Arm) (outer : List (List Arm)) (rest : List Happens) → IsFree R seen → ((more : List Arm) → OpensIn R seen more → Runs more outer arms rest) → Runs seen outer arms (happens ++ rest)

joins_none : (R : Arm → Type 0) (arms : List Arm) → Joins R arms [] []
joins_none R arms = record { happens = []; as_incidents = refl; as_events = refl; runs = λ seen outer rest free on. on seen (λ b n h. h) }

module _ (R S T : Arm → Type 0) (arms : List Arm) (xs ys : List PortEvent) (hs is : List SourceEvent) (apart : (b : Arm) → R b → S b → ⊥) (first : (b : Arm) → R b → T b) (second : (b : Arm) → S b → T b) (j : Joins R arms xs hs) (k : Joins S arms ys is) where
  both_run : (seen : List Arm) (outer : List (List Arm)) (rest : List Happens) → IsFree T seen → ((more : List Arm) → OpensIn T seen more → Runs more outer arms rest) → Runs seen outer arms ((j.happens ++ k.happens) ++ rest)
  both_run seen outer rest free on =
      subst (λ (l : List Happens). Runs seen outer arms l) (sym (append_assoc j.happens k.happens rest))
      (j.runs seen outer (k.happens ++ rest) (λ b r. free b (first b r)) (λ mid opened.
      k.runs mid outer rest (λ b s. opened b (λ r. apart b r s) (free b (second b s))) (λ more again.
      on more (λ b not_in h. again b (λ s. not_in (second b s)) (opened b (λ r. not_in (first b r)) h)))))

  joins_append : Joins T arms (xs ++ ys) (hs ++ is)
  joins_append = record {
    happens = j.happens ++ k.happens;
    as_incidents = incidents_append j.happens k.happens ∙ (ap (λ l. l ++ incidents_of k.happens) j.as_incidents ∙ ap (λ l. xs ++ l) k.as_incidents);
    as_events = events_append j.happens k.happens ∙ (ap (λ l. l ++ events_of k.happens) j.as_events ∙ ap (λ l. hs ++ l) k.as_events);
    runs = both_run;
  }

-- no arm at all
abbrev Nowhere : Arm → Type 0
Nowhere b = ⊥

joins_first : (T : Arm → Type 0) (arms : List Arm) (xs ys : List PortEvent) (hs is : List SourceEvent) → Joins Nowhere arms xs hs → Joins T arms ys is → Joins T arms (xs ++ ys) (hs ++ is)
joins_first T arms xs ys hs is j k = joins_append Nowhere T T arms xs ys hs is (λ b n t. n) (λ b n. absurd n) (λ b t. t) j k

joins_last : (T : Arm → Type 0) (arms : List Arm) (xs ys : List PortEvent) (hs is : List SourceEvent) → Joins T arms xs hs → Joins Nowhere arms ys is → Joins T arms (xs ++ ys) (hs ++ is)
joins_last T arms xs ys hs is j k = joins_append T Nowhere T arms xs ys hs is (λ b t n. n) (λ b t. t) (λ b n. absurd n) j k

joins_within : (R T : Arm → Type 0) (arms : List Arm) (xs : List PortEvent) (hs : List SourceEvent) → ((b : Arm) → R b → T b) → Joins R arms xs hs → Joins T arms xs hs
joins_within R T arms xs hs inside j = record {
  happens = j.happens;
  as_incidents = j.as_incidents;
  as_events = j.as_events;
  runs = λ seen outer rest free on. j.runs seen outer rest (λ b r. free b (inside b r)) (λ more opened. on more (λ b not_in h. opened b (λ r. not_in (inside b r)) h));
}

joins_same : (R : Arm → Type 0) (arms : List Arm) (xs : List PortEvent) (hs is : List SourceEvent) → hs ≡ is → Joins R arms xs hs → Joins R arms xs is
joins_same R arms xs hs is e j = subst (λ (l : List SourceEvent). Joins R arms xs l) e j

joins_touch : (arms : List Arm) (t : Term) (w : Bool) (s : Site) (a : SourceAccess) → a.site.arms ≡ arms → touched_by t w ≡ of_access a → Joins Nowhere arms (touches t w s ∷ []) (source.accesses a ∷ [])
joins_touch arms t w s a e f = record {
  happens = touch_of t w s a ∷ [];
  as_incidents = refl;
  as_events = refl;
  runs = λ seen outer rest free on. ((e, f), on seen (λ b n h. h));
}

joins_set : (arms : List Arm) (entity : Option ℕ) → Joins Nowhere arms (assigned entity ∷ []) (source.assigned entity ∷ [])
joins_set arms entity = record { happens = set_at entity ∷ []; as_incidents = refl; as_events = refl; runs = λ seen outer rest free on. on seen (λ b n h. h) }

joins_begins : (arms : List Arm) (b : Bool) → Joins Nowhere arms (when_parted b begins) []
joins_begins arms true = record { happens = parts_begin ∷ []; as_incidents = refl; as_events = refl; runs = λ seen outer rest free on. on seen (λ b n h. h) }
joins_begins arms false = joins_none Nowhere arms

joins_next : (arms : List Arm) (b : Bool) → Joins Nowhere arms (when_parted b next) []
joins_next arms true = record { happens = part_next ∷ []; as_incidents = refl; as_events = refl; runs = λ seen outer rest free on. on seen (λ b n h. h) }
joins_next arms false = joins_none Nowhere arms

joins_ends : (arms : List Arm) (b : Bool) → Joins Nowhere arms (when_parted b ends) []
joins_ends arms true = record { happens = parts_end ∷ []; as_incidents = refl; as_events = refl; runs = λ seen outer rest free on. on seen (λ b n h. h) }
joins_ends arms false = joins_none Nowhere arms

joins_ended : (R : Arm → Type 0) (arms : List Arm) (b : Bool) (xs : List PortEvent) (hs : List SourceEvent) → Joins R arms xs hs → Joins R arms (xs ++ when_parted b ends) hs
joins_ended R arms b xs hs j = joins_same R arms (xs ++ when_parted b ends) (hs ++ []) hs (append-nil hs) (joins_last R arms xs (when_parted b ends) hs [] j (joins_ends arms b))

-- arms that are the same
truth_same : (a b : Bool) → same_truth a b ≡ true → a ≡ b
truth_same true true e = refl
truth_same true false e = cc
truth_same false true e = cc
truth_same false false e = refl

first_true : (a b : Bool) → (a && b) ≡ true → a ≡ true
first_true true b e = refl
first_true false b e = cc

second_true : (a b : Bool) → (a && b) ≡ true → b ≡ true
second_true true b e = e
second_true false b e = cc

abbrev arm_at : ℕ → Bool → Arm
arm_at command first = record { command = command; first = first }

arm_is : (a b : Arm) → same_arm a b ≡ true → a ≡ b
arm_is a b e = ap (λ n. arm_at n a.first) (eqb-true a.command b.command (first_true _ _ e)) ∙ ap (λ f. arm_at b.command f) (truth_same a.first b.first (second_true (a.command == b.command) _ e))

-- another arm more
other_arm : (b a : Arm) (seen : List Arm) → (b ≡ a → ⊥) → has_arm b seen ≡ false → has_arm b (a ∷ seen) ≡ false
other_arm b a seen apart h = by_test (same_arm b a) refl
  where
    by_test : (x : Bool) → same_arm b a ≡ x → has_arm b (a ∷ seen) ≡ false
    by_test true e = absurd (apart (arm_is b a e))
    by_test false e = ap (λ x. x || has_arm b seen) e ∙ h

-- what stands in an arm
module _ (R T : Arm → Type 0) (a : Arm) (arms : List Arm) (xs : List PortEvent) (hs : List SourceEvent) (new : R a → ⊥) (own : T a) (inside : (b : Arm) → R b → T b) (j : Joins R (arms ++ a ∷ []) xs hs) where
  arm_runs : (seen : List Arm) (outer : List (List Arm)) (rest : List Happens) → IsFree T seen → ((more : List Arm) → OpensIn T seen more → Runs more outer arms rest) → Runs seen outer arms ((arm_opens a ∷ (j.happens ++ arm_closes ∷ [])) ++ rest)
  arm_runs seen outer rest free on = (
    free a own,
    subst (λ (l : List Happens). Runs (a ∷ seen) (arms ∷ outer) (arms ++ a ∷ []) l) (sym (append_assoc j.happens (arm_closes ∷ []) rest))
        (j.runs (a ∷ seen) (arms ∷ outer) (arm_closes ∷ rest) (λ b r. other_arm b a seen (λ e. new (subst R e r)) (free b (inside b r))) (λ more opened.
        on more (λ b not_in h. opened b (λ r. not_in (inside b r)) (other_arm b a seen (λ e. not_in (subst T (sym e) own)) h)))),
  )

  joins_arm : Joins T arms (arm_begins ∷ (xs ++ arm_ends ∷ [])) hs
  joins_arm = record {
    happens = arm_opens a ∷ (j.happens ++ arm_closes ∷ []);
    as_incidents = ap (λ l. arm_begins ∷ l) (incidents_append j.happens (arm_closes ∷ []) ∙ ap (λ l. l ++ arm_ends ∷ []) j.as_incidents);
    as_events = events_append j.happens (arm_closes ∷ []) ∙ (append-nil (events_of j.happens) ∙ j.as_events);
    runs = arm_runs;
  }

-- expressions open no arm
mutual
  term_joins : (s : Site) (z : source.Site) (t : Term) → Joins Nowhere z.arms (term_incidents s t) (source_term_events z t)
  term_joins s z (term place kind form) = form_joins s z place kind form

  form_joins : (s : Site) (z : source.Site) (place : Place) (kind : Option Kind) (form : TermForm) → Joins Nowhere z.arms (form_incidents s place kind form) (form_events z place form)
  form_joins s z place kind (number negative n) = joins_none Nowhere z.arms
  form_joins s z place kind (truth_value value) = joins_none Nowhere z.arms
  form_joins s z place kind (named r) = joins_none Nowhere z.arms
  form_joins s z place kind (accessed r indices) = joins_last Nowhere z.arms (terms_incidents s indices) _ (source_terms_events z indices) _ (terms_joins s z indices) (joins_touch z.arms (term place kind (accessed r indices)) false s _ refl refl)
  form_joins s z place kind (in_bank r bank bank_place row) = joins_last Nowhere z.arms (term_incidents s row) _ (source_term_events z row) _ (term_joins s z row) (joins_touch z.arms (term place kind (in_bank r bank bank_place row)) false s _ refl refl)
  form_joins s z place kind (applied op left right) = joins_last Nowhere z.arms (term_incidents s left) (term_incidents s right) (source_term_events z left) (source_term_events z right) (term_joins s z left) (term_joins s z right)
  form_joins s z place kind (converted inner to) = term_joins s z inner

  terms_joins : (s : Site) (z : source.Site) (ts : Terms) → Joins Nowhere z.arms (terms_incidents s ts) (source_terms_events z ts)
  terms_joins s z no_terms = joins_none Nowhere z.arms
  terms_joins s z (term_then t ts) = joins_last Nowhere z.arms (term_incidents s t) (terms_incidents s ts) (source_term_events z t) (source_terms_events z ts) (term_joins s z t) (terms_joins s z ts)

maybe_joins : (s : Site) (z : source.Site) (t : Option Term) → Joins Nowhere z.arms (maybe_incidents s t) (maybe_events z t)
maybe_joins s z None = joins_none Nowhere z.arms
maybe_joins s z (Some t) = term_joins s z t

target_joins : (s : Site) (z : source.Site) (t : Term) → Joins Nowhere z.arms (target_incidents s t) (write_events z t)
target_joins s z (term place kind (number negative n)) = joins_none Nowhere z.arms
target_joins s z (term place kind (truth_value value)) = joins_none Nowhere z.arms
target_joins s z (term place kind (named r)) = joins_none Nowhere z.arms
target_joins s z (term place kind (accessed r indices)) = joins_last Nowhere z.arms (terms_incidents s indices) _ (source_terms_events z indices) _ (terms_joins s z indices) (joins_touch z.arms (term place kind (accessed r indices)) true s _ refl refl)
target_joins s z (term place kind (in_bank r bank bank_place row)) = joins_last Nowhere z.arms (term_incidents s row) _ (source_term_events z row) _ (term_joins s z row) (joins_touch z.arms (term place kind (in_bank r bank bank_place row)) true s _ refl refl)
target_joins s z (term place kind (applied op left right)) = joins_last Nowhere z.arms (term_incidents s left) (term_incidents s right) (source_term_events z left) (source_term_events z right) (term_joins s z left) (term_joins s z right)
target_joins s z (term place kind (converted inner to)) = term_joins s z inner

-- arms of commands that are numbered from a first one on
pub record Within (low high : ℕ) (b : Arm) : Type 0 where
  pub least : low ≤ b.command
  pub most : b.command < high

within : (low high first last : ℕ) → first ≤ low → high ≤ last → (b : Arm) → Within low high b → Within first last b
within low high first last e f b w = record { least = below first low b.command e w.least; most = above high last b.command f w.most }
  where
    below : (first low n : ℕ) → first ≤ low → low ≤ n → first ≤ n
    below first low n e f = omega (arith, e, f)

    above : (high last n : ℕ) → high ≤ last → n < high → n < last
    above high last n e f = omega (arith, e, f)

beside : (low high first last : ℕ) → high ≤ first → (b : Arm) → Within low high b → Within first last b → ⊥
beside low high first last e b w x = apart high first b.command e w.most x.least
  where
    apart : (high first n : ℕ) → high ≤ first → n < high → first ≤ n → ⊥
    apart high first n e f g = omega (arith, e, f, g)

-- an arm and those inside it
abbrev Under : (a : Arm) → (low high : ℕ) → Arm → Type 0
Under a low high b = (b ≡ a) ⊎ Within low high b

arms_apart : (n low mid high : ℕ) → n < low → low ≤ mid → (b : Arm) → Under (arm_at n true) low mid b → Under (arm_at n false) mid high b → ⊥
arms_apart n low mid high e f b (inl p) (inl q) = differ (ap (λ (a : Arm). a.first) (sym p ∙ q))
  where
    differ : true ≡ false → ⊥
    differ e = cc
arms_apart n low mid high e f b (inl p) (inr q) = apart n low mid b.command e f (ap (λ (a : Arm). a.command) p) q.least
  where
    apart : (n low mid c : ℕ) → n < low → low ≤ mid → c ≡ n → mid ≤ c → ⊥
    apart n low mid c e f g h = omega (arith, e, f, g, h)
arms_apart n low mid high e f b (inr p) (inl q) = apart n low b.command e p.least (ap (λ (a : Arm). a.command) q)
  where
    apart : (n low c : ℕ) → n < low → low ≤ c → c ≡ n → ⊥
    apart n low c e f g = omega (arith, e, f, g)
arms_apart n low mid high e f b (inr p) (inr q) = beside low mid mid high (same mid) b p q
  where
    same : (n : ℕ) → n ≤ n
    same n = omega arith

-- an arm of a command and what is inside it, inside the whole
under_within : (n low high last : ℕ) (first : Bool) → n < low → high ≤ last → n < last → (b : Arm) → Under (arm_at n first) low high b → Within n last b
under_within n low high last first e f g b (inl p) = record { least = same n b.command (ap (λ (a : Arm). a.command) p); most = less n b.command last (ap (λ (a : Arm). a.command) p) g }
  where
    same : (n c : ℕ) → c ≡ n → n ≤ c
    same n c e = omega (arith, e)

    less : (n c last : ℕ) → c ≡ n → n < last → c < last
    less n c last e f = omega (arith, e, f)
under_within n low high last first e f g b (inr p) = within low high n last (before n low e) f b p
  where
    before : (n low : ℕ) → n < low → n ≤ low
    before n low e = omega (arith, e)

-- one arm of a command
one_arm : (n low high : ℕ) (first : Bool) (arms : List Arm) (xs : List PortEvent) (hs : List SourceEvent) → n < low → Joins (Within low high) (arms ++ arm_at n first ∷ []) xs hs → Joins (Under (arm_at n first) low high) arms (arm_begins ∷ (xs ++ arm_ends ∷ [])) hs
one_arm n low high first arms xs hs e j = joins_arm (Within low high) (Under (arm_at n first) low high) (arm_at n first) arms xs hs (λ w. apart n low e w.least) (inl refl) (λ b w. inr w) j
  where
    apart : (n low : ℕ) → n < low → low ≤ n → ⊥
    apart n low e f = omega (arith, e, f)

-- two arms of a command, each with what stands in it and what is told of it
two_arms : (s : Site) (z : source.Site) (b : Bool) (id inside others : ℕ) (test : Term) (cs os : List PortEvent) (es fs : List SourceEvent)
    → Joins (Under (arm_at id true) (suc id) (suc id + inside)) z.arms (arm_begins ∷ (cs ++ arm_ends ∷ [])) es
    → Joins (Under (arm_at id false) (suc id + inside) (suc id + inside + others)) z.arms os fs
    → Joins (Within id (id + suc (inside + others))) z.arms
    (term_incidents s test ++ (when_parted b begins ++ (arm_begins ∷ (cs ++ (arm_ends ∷ (when_parted b next ++ (os ++ when_parted b ends)))))))
    (source_term_events z test ++ (es ++ fs))
two_arms s z b id inside others test cs os es fs j k =
    joins_first _ z.arms (term_incidents s test) _ (source_term_events z test) _ (term_joins s z test)
    (joins_first _ z.arms (when_parted b begins) (arm_begins ∷ (cs ++ (arm_ends ∷ (when_parted b next ++ (os ++ when_parted b ends))))) [] (es ++ fs) (joins_begins z.arms b)
    (subst (λ (l : List PortEvent). Joins (Within id (id + suc (inside + others))) z.arms (arm_begins ∷ l) (es ++ fs))
    (append_assoc cs (arm_ends ∷ []) (when_parted b next ++ (os ++ when_parted b ends)))
    (joins_append (Under (arm_at id true) (suc id) (suc id + inside)) (Under (arm_at id false) (suc id + inside) (suc id + inside + others)) (Within id (id + suc (inside + others))) z.arms (arm_begins ∷ (cs ++ arm_ends ∷ [])) (when_parted b next ++ (os ++ when_parted b ends)) es fs
    (arms_apart id (suc id) (suc id + inside) (suc id + inside + others) (more id) (further (suc id) inside))
    (under_within id (suc id) (suc id + inside) (id + suc (inside + others)) true (more id) (sum_one id inside others) (far id (inside + others)))
    (under_within id (suc id + inside) (suc id + inside + others) (id + suc (inside + others)) false (past id inside) (sum_two id inside others) (far id (inside + others)))
    j
    (joins_first _ z.arms (when_parted b next) (os ++ when_parted b ends) [] fs (joins_next z.arms b)
    (joins_ended _ z.arms b os fs k)))))
  where
    more : (n : ℕ) → n < suc n
    more n = omega arith

    further : (n m : ℕ) → n ≤ n + m
    further n m = omega arith

    far : (n m : ℕ) → n < n + suc m
    far n m = omega arith

    past : (n m : ℕ) → n < suc n + m
    past n m = omega arith

    sum_one : (n a b : ℕ) → suc n + a ≤ n + suc (a + b)
    sum_one n a b = omega arith

    sum_two : (n a b : ℕ) → suc n + a + b ≤ n + suc (a + b)
    sum_two n a b = omega arith

-- numbers from a first one on
behind : (n m : ℕ) → n ≤ n + m
behind n m = omega arith

same_end : (n : ℕ) → n ≤ n
same_end n = omega arith

-- a command that is the body of another
inner_joins : (n m : ℕ) (arms : List Arm) (xs : List PortEvent) (hs : List SourceEvent) → Joins (Within (suc n) (suc n + m)) arms xs hs → Joins (Within n (n + suc m)) arms xs hs
inner_joins n m arms xs hs j = joins_within (Within (suc n) (suc n + m)) (Within n (n + suc m)) arms xs hs (within (suc n) (suc n + m) n (n + suc m) (less n) (sums n m)) j
  where
    less : (n : ℕ) → n ≤ suc n
    less n = omega arith

    sums : (n m : ℕ) → suc n + m ≤ n + suc m
    sums n m = omega arith

-- two that follow one another
parts_join : (n m p : ℕ) (arms : List Arm) (xs ys : List PortEvent) (hs is : List SourceEvent) → Joins (Within n (n + m)) arms xs hs → Joins (Within (n + m) (n + m + p)) arms ys is → Joins (Within n (n + (m + p))) arms (xs ++ ys) (hs ++ is)
parts_join n m p arms xs ys hs is j k =
    joins_append (Within n (n + m)) (Within (n + m) (n + m + p)) (Within n (n + (m + p))) arms xs ys hs is (beside n (n + m) (n + m) (n + m + p) (same_end (n + m)))
    (within n (n + m) n (n + (m + p)) (same_end n) (sum_one n m p)) (within (n + m) (n + m + p) n (n + (m + p)) (behind n m) (sum_two n m p)) j k
  where
    sum_one : (n m p : ℕ) → n + m ≤ n + (m + p)
    sum_one n m p = omega arith

    sum_two : (n m p : ℕ) → n + m + p ≤ n + (m + p)
    sum_two n m p = omega arith

-- no arm of a command
plain_joins : (R : Arm → Type 0) (arms : List Arm) (xs : List PortEvent) (hs : List SourceEvent) → Joins Nowhere arms xs hs → Joins R arms xs hs
plain_joins R arms xs hs j = joins_within Nowhere R arms xs hs (λ b n. absurd n) j

-- a loop opens no arm
loop_arms : (r : Around) (c : Counter) → (in_loop r c).arms ≡ r.arms
loop_arms r c = by_test (nat_lt 1 c.factor)
  where
    by_test : (b : Bool) → (if b then record { arms = r.arms; loops = r.loops ++ c ∷ [] } else r).arms ≡ r.arms
    by_test true = refl
    by_test false = refl

module _ (f : ℕ → ℕ) where
  mutual
    pub action_joins : (n : ℕ) (r : Around) (round : Option ℕ) (g : Open) (a : Action) → IsNumbered n a → Joins (Within n (n + commands_in a)) r.arms (incidents f round g a) (events r a)
    action_joins n r round g (action id place form) s =
        subst (λ (m : ℕ). Joins (Within n (n + suc (commands_inside form))) r.arms (command_incidents f round g m form) (command_events r (site_of r m) form)) (sym s.0) (command_joins n r round g form s.1)

    command_joins : (n : ℕ) (r : Around) (round : Option ℕ) (g : Open) (form : ActionForm) → IsNumberedInside (suc n) form → Joins (Within n (n + suc (commands_inside form))) r.arms (command_incidents f round g n form) (command_events r (site_of r n) form)
    command_joins n r round g (lets name declared value) s = plain_joins _ r.arms _ _ (joins_last Nowhere r.arms (maybe_incidents (site_at (phase_of g n) round) value) _ (maybe_events (site_of r n) value) _ (maybe_joins (site_at (phase_of g n) round) (site_of r n) value) (joins_set r.arms name.entity))
    command_joins n r round g (lets_memory name shape shape_places value) s = joins_none _ r.arms
    command_joins n r round g (views name parent form) s = plain_joins _ r.arms _ _ (terms_joins (site_at (phase_of g n) round) (site_of r n) (terms (offsets_of form)))
    command_joins n r round g (assigns target value) s = plain_joins _ r.arms _ _ (joins_last Nowhere r.arms (term_incidents (site_at (phase_of g n) round) value) _ (source_term_events (site_of r n) value) _ (term_joins (site_at (phase_of g n) round) (site_of r n) value) (joins_set r.arms target.entity))
    command_joins n r round g (stores target value) s =
        plain_joins _ r.arms _ _ (joins_last Nowhere r.arms (term_incidents (site_at (phase_of g n) round) value) _ (source_term_events (site_of r n) value) _ (term_joins (site_at (phase_of g n) round) (site_of r n) value) (target_joins (site_at (phase_of g n) round) (site_of r n) target))
    command_joins n r round g (reduces target op value) s = plain_joins _ r.arms _ _ (joins_last Nowhere r.arms (term_incidents (site_at (phase_of g n) round) value) _ (source_term_events (site_of r n) value) _ (term_joins (site_at (phase_of g n) round) (site_of r n) value) (joins_set r.arms target.entity))
    command_joins n r round g (calls function arguments) s = joins_none _ r.arms
    command_joins n r round g (blocks body) s =
        joins_first _ r.arms (when_parted (are_parts body) begins) (groups_incidents f round (is_stepped f n) (are_parts body) (released (is_stepped f n) g) body ++ when_parted (are_parts body) ends) [] (groups_events r body) (joins_begins r.arms (are_parts body))
        (joins_ended _ r.arms (are_parts body) (groups_incidents f round (is_stepped f n) (are_parts body) (released (is_stepped f n) g) body) (groups_events r body)
        (inner_joins n (commands_in_groups body) r.arms _ _ (groups_joins (suc n) r round (is_stepped f n) (are_parts body) (released (is_stepped f n) g) body s)))
    command_joins n r round g (decides test chosen other) s =
        two_arms (site_at (tested (is_stepped f n) g n) round) (site_of r n) (arms_part round other) n (commands_in chosen) (commands_in_other other) test _ _ _ _
        (one_arm n (suc n) (suc n + commands_in chosen) true r.arms _ _ (more n) (action_joins (suc n) (in_arm r n true) round (inside_choice (is_stepped f n) (tested (is_stepped f n) g n)) chosen s.0))
        (other_joins n (suc n + commands_in chosen) (past n (commands_in chosen)) r round (inside_choice (is_stepped f n) (tested (is_stepped f n) g n)) other s.1)
      where
        more : (n : ℕ) → n < suc n
        more n = omega arith

        past : (n m : ℕ) → n < suc n + m
        past n m = omega arith
    command_joins n r round g (repeats test body) s =
        joins_first _ r.arms (begins ∷ []) (term_incidents (site_at n round) test ++ (next ∷ (incidents f round closed body ++ ends ∷ []))) [] (source_term_events (site_of r n) test ++ events r body) (joins_begins r.arms true)
        (joins_first _ r.arms (term_incidents (site_at n round) test) (next ∷ (incidents f round closed body ++ ends ∷ [])) (source_term_events (site_of r n) test) (events r body) (term_joins (site_at n round) (site_of r n) test)
        (joins_first _ r.arms (next ∷ []) (incidents f round closed body ++ ends ∷ []) [] (events r body) (joins_next r.arms true)
        (joins_ended _ r.arms true (incidents f round closed body) (events r body)
        (inner_joins n (commands_in body) r.arms _ _ (action_joins (suc n) r round closed body s)))))
    command_joins n r round g (counts iterator declared low high factor body combine combine_place) s =
        joins_first _ r.arms (assigned iterator.entity ∷ [])
        (incidents f (round_inside round n factor.value) closed body ++ combine_incidents f (round_inside round n factor.value) (open_combine f (open_after f closed body) combine) combine) (source.assigned iterator.entity ∷ [])
        (events (in_loop r (loop_of iterator low high factor)) body ++ other_events (in_loop r (loop_of iterator low high factor)) combine) (joins_set r.arms iterator.entity)
        (inner_joins n (commands_in body + commands_in_other combine) r.arms _ _
        (subst (λ (arms : List Arm). Joins (Within (suc n) (suc n + (commands_in body + commands_in_other combine))) arms
        (incidents f (round_inside round n factor.value) closed body ++ combine_incidents f (round_inside round n factor.value) (open_combine f (open_after f closed body) combine) combine)
        (events (in_loop r (loop_of iterator low high factor)) body ++ other_events (in_loop r (loop_of iterator low high factor)) combine)) (loop_arms r (loop_of iterator low high factor))
        (parts_join (suc n) (commands_in body) (commands_in_other combine) (in_loop r (loop_of iterator low high factor)).arms _ _ _ _
        (action_joins (suc n) (in_loop r (loop_of iterator low high factor)) (round_inside round n factor.value) closed body s.0)
        (combine_joins (suc n + commands_in body) (in_loop r (loop_of iterator low high factor)) (round_inside round n factor.value) (open_combine f (open_after f closed body) combine) combine s.1))))

    other_joins : (n low : ℕ) → n < low → (r : Around) (round : Option ℕ) (g : Open) (o : MaybeAction) → IsNumberedOther low o → Joins (Under (arm_at n false) low (low + commands_in_other o)) r.arms (other_incidents f round g o) (other_events (in_arm r n false) o)
    other_joins n low e r round g no_action s = joins_none _ r.arms
    other_joins n low e r round g (one_action a) s = one_arm n low (low + commands_in a) false r.arms (incidents f round g a) (events (in_arm r n false) a) e (action_joins low (in_arm r n false) round g a s)

    combine_joins : (low : ℕ) (r : Around) (round : Option ℕ) (g : Open) (o : MaybeAction) → IsNumberedOther low o → Joins (Within low (low + commands_in_other o)) r.arms (combine_incidents f round g o) (other_events r o)
    combine_joins low r round g no_action s = joins_none _ r.arms
    combine_joins low r round g (one_action a) s = action_joins low r round g a s

    groups_joins : (n : ℕ) (r : Around) (round : Option ℕ) (stepped parted : Bool) (g : Open) (body : Groups) → AreNumberedGroups n body → Joins (Within n (n + commands_in_groups body)) r.arms (groups_incidents f round stepped parted g body) (groups_events r body)
    groups_joins n r round stepped parted g no_groups s = joins_none _ r.arms
    groups_joins n r round stepped parted g (group_then part rest) s =
        parts_join n (commands_in_part part) (commands_in_groups rest) r.arms (part_incidents f round (released stepped g) part) (when_parted parted next ++ groups_incidents f round stepped parted (part_open f (released stepped g) part) rest) (part_events r part) (groups_events r rest)
        (part_joins n r round (released stepped g) part s.0)
        (joins_first _ r.arms (when_parted parted next) (groups_incidents f round stepped parted (part_open f (released stepped g) part) rest) [] (groups_events r rest) (joins_next r.arms parted)
        (groups_joins (n + commands_in_part part) r round stepped parted (part_open f (released stepped g) part) rest s.1))

    part_joins : (n : ℕ) (r : Around) (round : Option ℕ) (g : Open) (part : Actions) → AreNumbered n part → Joins (Within n (n + commands_in_part part)) r.arms (part_incidents f round g part) (part_events r part)
    part_joins n r round g no_actions s = joins_none _ r.arms
    part_joins n r round g (action_then a rest) s =
        parts_join n (commands_in a) (commands_in_part rest) r.arms (incidents f round g a) (part_incidents f round (open_after f g a) rest) (events r a) (part_events r rest)
        (action_joins n r round g a s.0) (part_joins (n + commands_in a) r round (open_after f g a) rest s.1)

-- a command by itself
pub record Walked (xs : List PortEvent) (hs : List SourceEvent) : Type 0 where
  pub happens : List Happens
  pub as_incidents : incidents_of happens ≡ xs
  pub as_events : events_of happens ≡ hs
  pub runs : Runs [] [] [] happens

pub walked : (f : ℕ → ℕ) (n : ℕ) (r : Around) → r.arms ≡ [] → (round : Option ℕ) (g : Open) (a : Action) → IsNumbered n a → Walked (incidents f round g a) (events r a)
walked f n r none round g a s =
    let j = action_joins f n r round g a s in
    record { happens = j.happens; as_incidents = j.as_incidents; as_events = j.as_events; runs = subst (λ (l : List Happens). Runs [] [] [] l) (append-nil j.happens) (subst (λ (arms : List Arm). Runs [] [] arms (j.happens ++ [])) none (j.runs [] [] [] (λ b r. refl) (λ more opened. tt))) }

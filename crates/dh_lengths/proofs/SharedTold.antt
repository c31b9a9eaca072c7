-- Of each access of a program, the walk over what is met of its events tells which earlier read it shares.
--
-- Incidents and events of the text are views of one list (`JoinedWalks`), and `PastReads` keeps what happened so
-- far, each access with its class. Of a class the walk holds the first read that stands in arms that are all open,
-- and what it was as each open arm began: an arm that opens is new, so that no read stands in it; and what stood in
-- an arm that ends has an arm that is not open any more. At a read, that first one is the first that it shares.
use Rattle.std.proofs.Common.{◌≡◌, ℕ, zero, suc, ◌+◌, ◌<◌, ◌≤◌, ◌==◌, ◌&&◌, ◌||◌, not, Bool, true, false, if◌then◌else◌, List, [], ◌∷◌, ◌++◌, length, map, replicate, refl, ap, sym, ◌∙◌, subst, arith, ◌⊎◌, inl, inr}
use Rattle.std.specs.Prelude.{Option, Some, None, slice_get, slice_index}
use Rattle.std.specs.Option.{is_some}
use Rattle.std.proofs.lemmas.Bool.{eqb-true, eq-eqb, cases_Bool}
use Rattle.std.proofs.lemmas.List.{get_or-replicate}
use Rattle.std.proofs.lemmas.List.Folds.{list_any-append}
use Rattle.std.proofs.lemmas.Option.{slice_get_within}
use Rattle.dh_tree.specs.Memories.{same_entity}
use Rattle.dh_tree.specs.Numbers.{IsNumbered}
use Rattle.dh_tree.specs.PlainTrees.{Term, term, Program}
use Rattle.dh_tree.specs.Seen.{form_seen, term_seen}
use Rattle.dh_meaning.specs.AccessNumbers.{accesses_of}
use Rattle.dh_meaning.specs.Sites.{Arm, nothing_around}
use Rattle.dh_meaning.specs.OnePhase.{in_one_phase}
use Rattle.dh_meets.specs.Sharing.{same_arm, same_truth, all_arms_of, element_mentions, equal_reads, reassigned, shares_with, share_among, share_in, shared}
use Rattle.dh_meets.specs.SourceEvents.{Element, SourceAccess, SourceEvent, accesses, assigned, trace}
use Rattle.dh_events.specs.declared.classes.Key.{Key}
use Rattle.dh_events.specs.declared.events.Event.{Event}
use Rattle.dh_events.specs.declared.events.Event.TheVariants as event
use Rattle.dh_events.specs.declared.events.Site.{Site}
use Rattle.dh_events.specs.declared.structures.Structure.{Structure}
use Rattle.dh_events.specs.Accesses.{entity_in, element_in}
use Rattle.dh_events.specs.Classes as classes
use Rattle.dh_events.specs.Elements.{moment_assigned_at, clocks_after, element_of, IsElement, IsRead, AreReads, no_clocks}
use Rattle.dh_events.specs.Incidents.{PortEvent, touches, site_at, closed, incidents}
use Rattle.dh_events.specs.Incidents as incident
use Rattle.dh_events.specs.Noted.{event_seen, all_seen}
use Rattle.dh_events.specs.Stages.{stages_in}
use Rattle.dh_events.specs.Structures.{StructuresAreDistinct}
use Rattle.dh_ports.specs.Levels.{Level, start, begun, gone_back, taken}
use Rattle.dh_ports.specs.Scanned.{key_with, read_key}
use Rattle.dh_ports.specs.Wholes.{no_stages, happenings_of, Touched, touched_by, of_access, sites_in, TellsPhases, AreEventsOf}
use Rattle.dh_ports.proofs.AccessClaims.{Follows, follow_here, follow_next, follow_all}
use Rattle.dh_ports.proofs.EventCounts.{count_in, counted}
use Rattle.dh_ports.proofs.JoinedWalks.{Happens, touch_of, set_at, arm_opens, arm_closes, parts_begin, part_next, parts_end, incident_of, incidents_of, events_of, Runs, walked, has_arm}
use Rattle.dh_ports.proofs.MentionedSame.{set_by, set_in}
use Rattle.dh_ports.proofs.PastReads.{Noted, noted_access, noted_set, happened, happened_append, many, spends, Walk, IsSlot, Classed, Held, Kept, Phased, shared_among, none_among, write_alone}
use Rattle.dh_ports.proofs.SpentSlots.{Knows, KnowsPast, Inner, Nested, Standing, stands_later, stands_set, stands_opens, stands_closes, stands_write, stands_other, stands_read}
use Rattle.dh_lengths.specs.declared.sharing.Met.{Met}
use Rattle.dh_lengths.specs.declared.sharing.Met.TheVariants as met
use Rattle.dh_lengths.specs.LiveFirsts as lives
use Rattle.dh_lengths.specs.LiveFirsts.{FirstRead, first_read, number_or_else, met_read, none_read, opened, shares_of}
use Rattle.dh_lengths.specs.SharedReads.{told, IsKeyMet, IsMet, AreMet, FindsShares, TellsShares}

absurd : {A : Type 0} → ⊥ → A
absurd e = elim e [ ]

some_same : {A : Type 0} (x y : A) → Some x ≡ Some y → x ≡ y
some_same x y e = cc

first_same : {A : Type 0} (x y : A) (xs ys : List A) → x ∷ xs ≡ y ∷ ys → x ≡ y
first_same x y xs ys e = cc

rest_same : {A : Type 0} (x y : A) (xs ys : List A) → x ∷ xs ≡ y ∷ ys → xs ≡ ys
rest_same x y xs ys e = cc

untrue : (b : Bool) → b ≡ true → b ≡ false → ⊥
untrue true e f = cc
untrue false e f = cc

-- Arms.

truth_swap : (a b : Bool) → same_truth a b ≡ same_truth b a
truth_swap true true = refl
truth_swap true false = refl
truth_swap false true = refl
truth_swap false false = refl

truth_self : (b : Bool) → same_truth b b ≡ true
truth_self true = refl
truth_self false = refl

number_swap : (m n : ℕ) → (m == n) ≡ (n == m)
number_swap m n = by_test (m == n) (n == m) refl refl
  where
    by_test : (a b : Bool) → (m == n) ≡ a → (n == m) ≡ b → a ≡ b
    by_test true true e f = refl
    by_test false false e f = refl
    by_test true false e f = sym (eq-eqb n m (sym (eqb-true m n e))) ∙ f
    by_test false true e f = sym (sym (eq-eqb m n (sym (eqb-true n m f))) ∙ e)

arm_swap : (a b : Arm) → same_arm a b ≡ same_arm b a
arm_swap a b = ap (λ x. x && same_truth a.first b.first) (number_swap a.command b.command) ∙ ap (λ x. (b.command == a.command) && x) (truth_swap a.first b.first)

arm_self : (a : Arm) → same_arm a a ≡ true
arm_self a = ap (λ b. b && same_truth a.first a.first) (eq-eqb a.command a.command refl) ∙ truth_self a.first

neither : (a b : Bool) → (a || b) ≡ false → (a ≡ false) × (b ≡ false)
neither true b e = cc
neither false b e = (refl, e)

or_false : (a : Bool) → (a || false) ≡ a
or_false true = refl
or_false false = refl

or_first : (a b : Bool) → a ≡ true → (a || b) ≡ true
or_first true b e = refl
or_first false b e = cc

or_second : (a b : Bool) → b ≡ true → (a || b) ≡ true
or_second true b e = refl
or_second false b e = e

all_among : (arms later : List Arm) → ((b : Arm) → has_arm b arms ≡ true → has_arm b later ≡ true) → all_arms_of arms later ≡ true
all_among [] later f = refl
all_among (a ∷ arms) later f =
    ap (λ b. b && all_arms_of arms later) (f a (or_first (same_arm a a) (has_arm a arms) (arm_self a)))
    ∙ all_among arms later (λ b h. f b (or_second (same_arm b a) (has_arm b arms) h))

arms_self : (arms : List Arm) → all_arms_of arms arms ≡ true
arms_self arms = all_among arms arms (λ b h. h)

-- an arm more, that is not among the first
more_open : (arms later : List Arm) (a : Arm) → has_arm a arms ≡ false → all_arms_of arms (later ++ a ∷ []) ≡ all_arms_of arms later
more_open [] later a h = refl
more_open (b ∷ arms) later a h =
    let both = neither (same_arm a b) (has_arm a arms) h in
    ap (λ x. x && all_arms_of arms (later ++ a ∷ [])) (list_any-append (λ c. same_arm b c) later (a ∷ []) ∙ (ap (λ x. has_arm b later || (x || false)) (arm_swap b a ∙ both.0) ∙ or_false (has_arm b later)))
    ∙ ap (λ x. has_arm b later && x) (more_open arms later a both.1)

-- what is new is not among what is known
new_to : (seen arms : List Arm) (a : Arm) → has_arm a seen ≡ false → Knows seen arms → has_arm a arms ≡ false
new_to seen arms a h k = by_test (has_arm a arms) refl
  where
    by_test : (x : Bool) → has_arm a arms ≡ x → x ≡ false
    by_test true e = absurd (untrue (has_arm a seen) (k a e) h)
    by_test false e = refl

inner_of : (arms : List Arm) (outer : List (List Arm)) → Nested arms outer → Inner arms outer
inner_of arms [] n = tt
inner_of arms (o ∷ os) n = n.0

-- The first read of a class.

-- an access is a read of a class, in arms that all stand among these
abbrev is_read_of : (class : ℕ) → (arms : List Arm) → SourceAccess → Option ℕ → Bool
is_read_of class arms a key = not a.writes && (all_arms_of a.site.arms arms && same_entity key (Some class))

-- of what happened, numbered from j on
abbrev firsts : (class : ℕ) → (arms : List Arm) → (j : ℕ) → List Noted → Option ℕ
firsts class arms j [] = None
firsts class arms j (noted_access a key ∷ ns) = if is_read_of class arms a key then Some j else firsts class arms (suc j) ns
firsts class arms j (noted_set entity ∷ ns) = firsts class arms j ns

or_none : (o : Option ℕ) → number_or_else o None ≡ o
or_none None = refl
or_none (Some n) = refl

firsts_append : (class : ℕ) (arms : List Arm) (j : ℕ) (xs ys : List Noted) → firsts class arms j (xs ++ ys) ≡ number_or_else (firsts class arms j xs) (firsts class arms (j + many xs) ys)
firsts_append class arms j [] ys = ap (λ n. firsts class arms n ys) (plus_none j)
  where
    plus_none : (n : ℕ) → n ≡ n + 0
    plus_none n = omega arith
firsts_append class arms j (noted_access a key ∷ xs) ys =
    by_test (is_read_of class arms a key) (firsts class arms (suc j) (xs ++ ys)) (firsts class arms (suc j) xs) (firsts class arms (j + suc (many xs)) ys)
    (firsts_append class arms (suc j) xs ys ∙ ap (λ n. number_or_else (firsts class arms (suc j) xs) (firsts class arms n ys)) (shift j (many xs)))
  where
    shift : (m n : ℕ) → suc m + n ≡ m + suc n
    shift m n = omega arith

    by_test : (b : Bool) (f g h : Option ℕ) → f ≡ number_or_else g h → (if b then Some j else f) ≡ number_or_else (if b then Some j else g) h
    by_test true f g h e = refl
    by_test false f g h e = e
firsts_append class arms j (noted_set e ∷ xs) ys = firsts_append class arms j xs ys

-- an access that is none of the class
firsts_none : (class : ℕ) (arms : List Arm) (past : List Noted) (a : SourceAccess) (key : Option ℕ) → is_read_of class arms a key ≡ false → firsts class arms 0 past ≡ firsts class arms 0 (past ++ noted_access a key ∷ [])
firsts_none class arms past a key e =
    sym (firsts_append class arms 0 past (noted_access a key ∷ [])
    ∙ (ap (λ b. number_or_else (firsts class arms 0 past) (if b then Some (0 + many past) else None)) e ∙ or_none (firsts class arms 0 past)))

firsts_set : (class : ℕ) (arms : List Arm) (past : List Noted) (entity : Option ℕ) → firsts class arms 0 past ≡ firsts class arms 0 (past ++ noted_set entity ∷ [])
firsts_set class arms past entity = sym (firsts_append class arms 0 past (noted_set entity ∷ []) ∙ or_none (firsts class arms 0 past))

-- an arm that opens changes nothing yet
firsts_opened : (class : ℕ) (seen arms : List Arm) (a : Arm) (j : ℕ) (past : List Noted) → has_arm a seen ≡ false → KnowsPast seen past → firsts class arms j past ≡ firsts class (arms ++ a ∷ []) j past
firsts_opened class seen arms a j [] h k = refl
firsts_opened class seen arms a j (noted_access x key ∷ past) h k =
    ap (λ b. if not x.writes && (b && same_entity key (Some class)) then Some j else firsts class arms (suc j) past) (sym (more_open x.site.arms arms a (new_to seen x.site.arms a h k.0)))
    ∙ ap (λ o. if is_read_of class (arms ++ a ∷ []) x key then Some j else o) (firsts_opened class seen arms a (suc j) past h k.1)
firsts_opened class seen arms a j (noted_set e ∷ past) h k = firsts_opened class seen arms a j past h k

-- What the walk holds of a class.

abbrev Outs : (class : ℕ) → List Noted → List (List Arm) → List (Option ℕ) → Type 0
Outs class past [] [] = Unit {0}
Outs class past [] (x ∷ xs) = ⊥
Outs class past (o ∷ os) [] = ⊥
Outs class past (o ∷ os) (x ∷ xs) = (x ≡ firsts class o 0 past) × Outs class past os xs

record Lives (class : ℕ) (past : List Noted) (arms : List Arm) (outer : List (List Arm)) (f : FirstRead) : Type 0 where
  pub now : f.now ≡ firsts class arms 0 past
  pub outs : Outs class past outer f.outer

outs_same : (class : ℕ) (past new : List Noted) (outer : List (List Arm)) (xs : List (Option ℕ)) → ((o : List Arm) → firsts class o 0 past ≡ firsts class o 0 new) → Outs class past outer xs → Outs class new outer xs
outs_same class past new [] [] same k = tt
outs_same class past new [] (x ∷ xs) same k = k
outs_same class past new (o ∷ os) [] same k = k
outs_same class past new (o ∷ os) (x ∷ xs) same k = (k.0 ∙ same o, outs_same class past new os xs same k.1)

lives_set : (class : ℕ) (past : List Noted) (arms : List Arm) (outer : List (List Arm)) (f : FirstRead) (entity : Option ℕ) → Lives class past arms outer f → Lives class (past ++ noted_set entity ∷ []) arms outer f
lives_set class past arms outer f entity l = record {
  now = l.now ∙ firsts_set class arms past entity;
  outs = outs_same class past (past ++ noted_set entity ∷ []) outer f.outer (λ o. firsts_set class o past entity) l.outs;
}

lives_opens : (class : ℕ) (seen : List Arm) (past : List Noted) (arms : List Arm) (outer : List (List Arm)) (f : FirstRead) (a : Arm) → has_arm a seen ≡ false → KnowsPast seen past → Lives class past arms outer f → Lives class past (arms ++ a ∷ []) (arms ∷ outer) (opened f)
lives_opens class seen past arms outer f a new knows l = record { now = l.now ∙ firsts_opened class seen arms a 0 past new knows; outs = (l.now, l.outs) }

lives_closes : (class : ℕ) (past : List Noted) (arms o : List Arm) (outer : List (List Arm)) (now : Option ℕ) (xs : List (Option ℕ)) → Lives class past arms (o ∷ outer) (first_read now xs) → Lives class past o outer (lives.arm_closed (first_read now xs))
lives_closes class past arms o outer now [] l = absurd l.outs
lives_closes class past arms o outer now (x ∷ xs) l = record { now = l.outs.0; outs = l.outs.1 }

module _ (class : ℕ) (past : List Noted) (a : SourceAccess) (key : Option ℕ) where
  and_none : (b c : Bool) → (not b && (false && c)) ≡ false
  and_none true c = refl
  and_none false c = refl

  -- not in arms outside
  outs_more : (outer : List (List Arm)) (xs : List (Option ℕ)) → Inner a.site.arms outer → Outs class past outer xs → Outs class (past ++ noted_access a key ∷ []) outer xs
  outs_more [] [] n k = tt
  outs_more [] (x ∷ xs) n k = k
  outs_more (o ∷ os) [] n k = k
  outs_more (o ∷ os) (x ∷ xs) n k =
      (k.0 ∙ firsts_none class o past a key (ap (λ b. not a.writes && (b && same_entity key (Some class))) n.0 ∙ and_none a.writes (same_entity key (Some class))), outs_more os xs n.1 k.1)

  -- an access that is none of the class
  lives_none : (outer : List (List Arm)) (f : FirstRead) → is_read_of class a.site.arms a key ≡ false → Inner a.site.arms outer → Lives class past a.site.arms outer f → Lives class (past ++ noted_access a key ∷ []) a.site.arms outer f
  lives_none outer f e n l = record { now = l.now ∙ firsts_none class a.site.arms past a key e; outs = outs_more outer f.outer n l.outs }

  lives_write : (outer : List (List Arm)) (f : FirstRead) → a.writes ≡ true → Inner a.site.arms outer → Lives class past a.site.arms outer f → Lives class (past ++ noted_access a key ∷ []) a.site.arms outer f
  lives_write outer f h n l = lives_none outer f (ap (λ b. not b && (all_arms_of a.site.arms a.site.arms && same_entity key (Some class))) h) n l

  lives_other : (outer : List (List Arm)) (f : FirstRead) → key ≡ None → Inner a.site.arms outer → Lives class past a.site.arms outer f → Lives class (past ++ noted_access a key ∷ []) a.site.arms outer f
  lives_other outer f h n l = lives_none outer f (ap (λ q. not a.writes && (all_arms_of a.site.arms a.site.arms && same_entity q (Some class))) h ∙ nothing a.writes (all_arms_of a.site.arms a.site.arms)) n l
    where
      nothing : (b c : Bool) → (not b && (c && false)) ≡ false
      nothing true c = refl
      nothing false true = refl
      nothing false false = refl

  -- a read
  lives_read : (own number : ℕ) (outer : List (List Arm)) (f : FirstRead) → key ≡ Some own → a.writes ≡ false → number ≡ many past → Inner a.site.arms outer → Lives class past a.site.arms outer f
      → Lives class (past ++ noted_access a key ∷ []) a.site.arms outer (met_read own number class f)
  lives_read own number outer f q h counts n l = by_test (cases_Bool (own == class))
    where
      test : is_read_of class a.site.arms a key ≡ (own == class)
      test =
          ap (λ b. not b && (all_arms_of a.site.arms a.site.arms && same_entity key (Some class))) h
          ∙ (ap (λ b. b && same_entity key (Some class)) (arms_self a.site.arms) ∙ ap (λ o. same_entity o (Some class)) q)

      from_none : (n : ℕ) → n ≡ 0 + n
      from_none n = omega arith

      by_test : ((own == class) ≡ true) ⊎ ((own == class) ≡ false) → Lives class (past ++ noted_access a key ∷ []) a.site.arms outer (met_read own number class f)
      by_test (inl e) =
          subst (λ (b : Bool). Lives class (past ++ noted_access a key ∷ []) a.site.arms outer (if b then first_read (number_or_else f.now (Some number)) f.outer else f)) (sym e)
          (record {
            now =
                ap (λ o. number_or_else o (Some number)) l.now
                ∙ (ap (λ m. number_or_else (firsts class a.site.arms 0 past) (Some m)) (counts ∙ from_none (many past))
                ∙ sym (firsts_append class a.site.arms 0 past (noted_access a key ∷ []) ∙ ap (λ b. number_or_else (firsts class a.site.arms 0 past) (if b then Some (0 + many past) else None)) (test ∙ e)));
            outs = outs_more outer f.outer n l.outs;
          })
      by_test (inr e) =
          subst (λ (b : Bool). Lives class (past ++ noted_access a key ∷ []) a.site.arms outer (if b then first_read (number_or_else f.now (Some number)) f.outer else f)) (sym e)
          (lives_none outer f (test ∙ e) n l)

-- The first read of a class is the first that a read of it shares.

-- the assignments alone
abbrev sets : List Noted → List Noted
sets [] = []
sets (noted_access a key ∷ ns) = sets ns
sets (noted_set entity ∷ ns) = noted_set entity ∷ sets ns

sets_in : (e : ℕ) (ns : List Noted) → set_in e (happened (sets ns)) ≡ set_in e (happened ns)
sets_in e [] = refl
sets_in e (noted_access a key ∷ ns) = sets_in e ns
sets_in e (noted_set entity ∷ ns) = ap (λ b. set_by e (assigned entity) || b) (sets_in e ns)

sets_reassign : (x : Element) (ns : List Noted) → reassigned x (happened (sets ns)) ≡ reassigned x (happened ns)
sets_reassign x [] = refl
sets_reassign x (noted_access a key ∷ ns) = sets_reassign x ns
sets_reassign x (noted_set entity ∷ ns) = ap (λ b. element_mentions entity x || b) (sets_reassign x ns)

sets_kept : (w : Walk) (v : ℕ → ℕ) (at j : ℕ) (ns : List Noted) → Kept w v at j (sets ns)
sets_kept w v at j [] = tt
sets_kept w v at j (noted_access a key ∷ ns) = sets_kept w v at j ns
sets_kept w v at j (noted_set entity ∷ ns) = sets_kept w v at j ns

sets_held : (w : Walk) (v : ℕ → ℕ) (at j : ℕ) (a : SourceAccess) (key : Option ℕ) (ns : List Noted) → Held w v at j a key (happened ns) → Held w v at j a key (happened (sets ns))
sets_held w v at j a key ns x = record {
  moment = x.moment;
  versions = x.versions;
  site = x.site;
  sited = x.sited;
  earlier = x.earlier;
  is = x.is;
  bounded = x.bounded;
  same = λ e n. x.same e (sym (sets_in e ns) ∙ n);
  later = λ e n. x.later e (sym (sets_in e ns) ∙ n);
}

sets_spend : (class : ℕ) (arms : List Arm) (ns : List Noted) → spends class arms (sets ns) ≡ false
sets_spend class arms [] = refl
sets_spend class arms (noted_access a key ∷ ns) = sets_spend class arms ns
sets_spend class arms (noted_set entity ∷ ns) = sets_spend class arms ns

sets_share : (p : Program) (j : ℕ) (ns : List Noted) (k : ℕ) (x : SourceAccess) → share_among p j (happened (sets ns)) k x ≡ None
sets_share p j [] k x = refl
sets_share p j (noted_access a key ∷ ns) k x = sets_share p j ns k x
sets_share p j (noted_set entity ∷ ns) k x = sets_share p j ns k x

some_if : (b : Bool) (j : ℕ) (o : Option ℕ) → o ≡ None → is_some (if b then Some j else o) ≡ b
some_if true j o e = refl
some_if false j o e = ap is_some e

no_some : (o : Option ℕ) → is_some o ≡ false → o ≡ None
no_some None e = refl
no_some (Some n) e = cc

module _ (w : Walk) (phased : Phased w) (apart_keys : classes.KeysAreDistinct w.keys) (apart_structures : StructuresAreDistinct w.structures) (v : ℕ → ℕ) (number : ℕ) (site : Site) (sited : slice_get w.sites number ≡ Some site)
    (x : SourceAccess) (key : Option ℕ) (reads : x.writes ≡ false) (classed : Classed w v site x key) where
  one_told : (s : ℕ) → key ≡ Some s → (at j : ℕ) (a : SourceAccess) (other : Option ℕ) (past : List Noted) → Held w v at j a other (happened past) → is_read_of s x.site.arms a other ≡ shares_with w.program j a (happened past) number x
  one_told s q at j a other past h =
      sym (or_false (is_read_of s x.site.arms a other))
      ∙ (ap (λ b. is_read_of s x.site.arms a other || b) (sym (sets_spend s x.site.arms past))
      ∙ (shared_among w phased apart_keys apart_structures v number site sited x key reads classed s q at j (noted_access a other ∷ sets past) (sets_held w v at j a other past h, sets_kept w v at (suc j) past)
      ∙ (some_if (shares_with w.program j a (happened (sets past)) number x) j (share_among w.program (suc j) (happened (sets past)) number x) (sets_share w.program (suc j) past number x)
      ∙ again)))
    where
      again : shares_with w.program j a (happened (sets past)) number x ≡ shares_with w.program j a (happened past) number x
      again = ap (λ r. (equal_reads a x && in_one_phase w.program j number) && (all_arms_of a.site.arms x.site.arms && not r)) (sets_reassign x.element past)

  first_told : (s : ℕ) → key ≡ Some s → (at j : ℕ) (past : List Noted) → Kept w v at j past → firsts s x.site.arms j past ≡ share_among w.program j (happened past) number x
  first_told s q at j [] k = refl
  first_told s q at j (noted_access a other ∷ past) k =
      ap (λ b. if b then Some j else firsts s x.site.arms (suc j) past) (one_told s q at j a other past k.0)
      ∙ ap (λ o. if shares_with w.program j a (happened past) number x then Some j else o) (first_told s q at (suc j) past k.1)
  first_told s q at j (noted_set e ∷ past) k = first_told s q at j past k

-- What is met.

abbrev met_of : Option ℕ → Met
met_of None = met.Alone
met_of (Some class) = met.Read class

-- what an access that has a class, or none, shares, and what is held behind it
abbrev answer : (ℕ → FirstRead) → Option ℕ → Option ℕ
answer fs None = None
answer fs (Some class) = (fs class).now

abbrev held_next : (ℕ → FirstRead) → (number : ℕ) → Option ℕ → ℕ → FirstRead
held_next fs number None = fs
held_next fs number (Some class) = λ other. met_read class number other (fs other)

shares_next : (fs : ℕ → FirstRead) (number : ℕ) (key : Option ℕ) (ms : List Met) → shares_of fs number (met_of key ∷ ms) ≡ answer fs key ∷ shares_of (held_next fs number key) (number + 1) ms
shares_next fs number None ms = refl
shares_next fs number (Some class) ms = refl

-- of each access among events, behind others, which earlier one it shares
abbrev pub expected : Program → (before : List SourceEvent) → List SourceEvent → (number : ℕ) → List (Option ℕ)
expected p before [] number = []
expected p before (accesses a ∷ es) number = share_among p 0 before number a ∷ expected p (before ++ accesses a ∷ []) es (number + 1)
expected p before (assigned entity ∷ es) number = expected p (before ++ assigned entity ∷ []) es number

abbrev entity_of : Term → Option ℕ
entity_of (term place kind form) = entity_in form

entity_told : (t : Term) (writes : Bool) (a : SourceAccess) → touched_by t writes ≡ of_access a → entity_of t ≡ a.entity
entity_told (term place kind form) writes a e = ap (λ (x : Touched). x.entity) e

element_told : (t : Term) (writes : Bool) (a : SourceAccess) → touched_by t writes ≡ of_access a → element_of t ≡ a.element
element_told (term place kind form) writes a e = ap (λ (x : Touched). x.element) e

writes_told : (t : Term) (writes : Bool) (a : SourceAccess) → touched_by t writes ≡ of_access a → writes ≡ a.writes
writes_told (term place kind form) writes a e = ap (λ (x : Touched). x.writes) e

touch_term : (t u : Term) (a b : Bool) (s z : Site) → touches t a s ≡ touches u b z → t ≡ u
touch_term t u a b s z e = cc

touch_writes : (t u : Term) (a b : Bool) (s z : Site) → touches t a s ≡ touches u b z → a ≡ b
touch_writes t u a b s z e = cc

touch_site : (t u : Term) (a b : Bool) (s z : Site) → touches t a s ≡ touches u b z → s ≡ z
touch_site t u a b s z e = cc

set_entity : (a b : Option ℕ) → incident.assigned a ≡ incident.assigned b → a ≡ b
set_entity a b e = cc

-- the moments of variables after what happens
abbrev moments_after : (ℕ → ℕ) → (place : ℕ) → Happens → ℕ → ℕ
moments_after v place (touch_of t writes site a) = v
moments_after v place (set_at entity) = moment_assigned_at v (place + 1) entity
moments_after v place (arm_opens arm) = v
moments_after v place arm_closes = v
moments_after v place parts_begin = v
moments_after v place part_next = v
moments_after v place parts_end = v

module _ (w : Walk) where
  record Meeting (v : ℕ → ℕ) (t : Term) (writes : Bool) (site : Site) (a : SourceAccess) (m : Met) : Type 0 where
    pub key : Option ℕ
    pub is : m ≡ met_of key
    pub none : writes ≡ true → key ≡ None
    pub class : writes ≡ false → touched_by t writes ≡ of_access a → Classed w v site a key

  -- what is met where something happens
  abbrev Goes : (ℕ → ℕ) → Happens → Met → Type 0
  Goes v (touch_of t writes site a) m = Meeting v t writes site a m
  Goes v (set_at entity) m = m ≡ met.Other
  Goes v (arm_opens arm) m = m ≡ met.Begins
  Goes v arm_closes m = m ≡ met.Ends
  Goes v parts_begin m = m ≡ met.Other
  Goes v part_next m = m ≡ met.Other
  Goes v parts_end m = m ≡ met.Other

  abbrev GoesAll : (ℕ → ℕ) → (place : ℕ) → List Happens → List Met → Type 0
  GoesAll v place [] [] = Unit {0}
  GoesAll v place [] (m ∷ ms) = ⊥
  GoesAll v place (h ∷ hs) [] = ⊥
  GoesAll v place (h ∷ hs) (m ∷ ms) = Goes v h m × GoesAll (moments_after v place h) (place + 1) hs ms

  of_key : (o : Option Key) (m : Met) → IsKeyMet w.keys o m → (key : Option ℕ) × (IsSlot w.keys o key × (m ≡ met_of key))
  of_key None m e = (None, (refl, e))
  of_key (Some k) m (class, (e, f)) = (Some class, ((class, (refl, e)), f))

  reading : (v : ℕ → ℕ) (t : Term) (site : Site) (a : SourceAccess) (m : Met) (element : Option ℕ) (newest : ℕ) → IsElement w.structures v (element_of t) element newest → IsKeyMet w.keys (key_with site.phase (entity_of t) element newest) m
      → Meeting v t false site a m
  reading v t site a m element newest known is =
      let k = of_key (key_with site.phase (entity_of t) element newest) m is in
      record {
        key = k.0;
        is = k.1.1;
        none = λ e. absurd (untrue false e refl);
        class = λ e f. record {
          element = element;
          newest = newest;
          known = subst (λ (x : Element). IsElement w.structures v x element newest) (element_told t false a f) known;
          slot = subst (λ (x : Option ℕ). IsSlot w.keys (key_with site.phase x element newest) k.0) (entity_told t false a f) k.1.0;
        };
      }

  writing : (v : ℕ → ℕ) (t : Term) (site : Site) (a : SourceAccess) (m : Met) → m ≡ met.Alone → Meeting v t true site a m
  writing v t site a m e = record { key = None; is = e; none = λ f. refl; class = λ f. absurd (untrue true refl f) }

  goes : (v : ℕ → ℕ) (place : ℕ) (h : Happens) (e : Event) (m : Met) → event_seen e ≡ incident_of h → IsMet w.keys e m → IsRead w.structures v e → Goes v h m × (clocks_after v place e ≡ moments_after v place h)
  goes v place (touch_of t writes site a) (event.Touch true phase round access element newest) m e i r =
      (subst (λ (x : Bool). Meeting v t x site a m) (touch_writes _ _ _ _ _ _ e) (writing v t site a m i), refl)
  goes v place (touch_of t writes site a) (event.Touch false phase round access element newest) m e i r = (
    subst (λ (x : Bool). Meeting v t x site a m) (touch_writes _ _ _ _ _ _ e)
        (subst (λ (x : Term). Meeting v x false site a m) (touch_term _ _ _ _ _ _ e)
        (subst (λ (x : Site). Meeting v (term_seen access.now) false x a m) (touch_site _ _ _ _ _ _ e) (reading v (term_seen access.now) (site_at phase round) a m element newest r i))),
    refl,
  )
  goes v place (set_at entity) (event.Assigned other) m e i r = (i, ap (λ x. moment_assigned_at v (place + 1) x) (set_entity _ _ e))
  goes v place (arm_opens arm) event.ArmBegins m e i r = (i, refl)
  goes v place arm_closes event.ArmEnds m e i r = (i, refl)
  goes v place parts_begin event.Begins m e i r = (i, refl)
  goes v place part_next event.Next m e i r = (i, refl)
  goes v place parts_end event.Ends m e i r = (i, refl)
  goes v place h x m e i r = cc

  all_go : (v : ℕ → ℕ) (place : ℕ) (hs : List Happens) (es : List Event) (ms : List Met) → all_seen es ≡ incidents_of hs → AreMet w.keys es ms → AreReads w.structures v place es → GoesAll v place hs ms
  all_go v place [] [] [] e i r = tt
  all_go v place [] [] (m ∷ ms) e i r = i
  all_go v place [] (x ∷ es) ms e i r = cc
  all_go v place (h ∷ hs) [] ms e i r = cc
  all_go v place (h ∷ hs) (x ∷ es) [] e i r = absurd i
  all_go v place (h ∷ hs) (x ∷ es) (m ∷ ms) e i r =
      let g = goes v place h x m (first_same _ _ _ _ e) i.0 r.0 in
      (g.0, all_go (moments_after v place h) (place + 1) hs es ms (rest_same _ _ _ _ e) i.1 (subst (λ (u : ℕ → ℕ). AreReads w.structures u (place + 1) es) g.1 r.1))

  module _ (phased : Phased w) (apart_keys : classes.KeysAreDistinct w.keys) (apart_structures : StructuresAreDistinct w.structures) where
    abbrev AllLive : List Noted → List Arm → List (List Arm) → (ℕ → FirstRead) → Type 0
    AllLive past arms outer fs = (class : ℕ) → class < length w.keys → Lives class past arms outer (fs class)

    slot_within : (o : Option Key) (class : ℕ) → IsSlot w.keys o (Some class) → class < length w.keys
    slot_within None class h = absurd (some_none h)
      where
        some_none : Some class ≡ None → ⊥
        some_none e = cc
    slot_within (Some k) class (s, (e, f)) = slice_get_within w.keys class k (ap (slice_get w.keys) (some_same class s e) ∙ f)

    -- what stands behind an access, and what it shares
    record Next (seen : List Arm) (outer : List (List Arm)) (past : List Noted) (v : ℕ → ℕ) (at number : ℕ) (a : SourceAccess) (key : Option ℕ) (fs : ℕ → FirstRead) : Type 0 where
      pub shares : answer fs key ≡ share_among w.program 0 (happened past) number a
      pub levels : ℕ → Level
      pub stands : Standing w (length w.keys) seen outer a.site.arms (past ++ noted_access a key ∷ []) v (at + 1) (number + 1) levels
      pub live : AllLive (past ++ noted_access a key ∷ []) a.site.arms outer (held_next fs number key)

    module _ (seen : List Arm) (outer : List (List Arm)) (past : List Noted) (v : ℕ → ℕ) (at number : ℕ) (levels : ℕ → Level) (fs : ℕ → FirstRead) (t : Term) (site : Site) (a : SourceAccess)
        (stands : Standing w (length w.keys) seen outer a.site.arms past v at number levels) (live : AllLive past a.site.arms outer fs) (sited : slice_get w.sites number ≡ Some site) where
      held_now : (key : Option ℕ) → (a.writes ≡ false → Classed w v site a key) → Held w v (at + 1) number a key []
      held_now key class = record {
        moment = at;
        versions = v;
        site = site;
        sited = sited;
        earlier = more at;
        is = class;
        bounded = stands.bounded;
        same = λ e n. refl;
        later = λ e n. absurd (untrue false n refl);
      }
        where
          more : (n : ℕ) → n < n + 1
          more n = omega arith

      inner : Inner a.site.arms outer
      inner = inner_of a.site.arms outer stands.nested

      read_next : (key : Option ℕ) → a.writes ≡ false → Classed w v site a key → Next seen outer past v at number a key fs
      read_next None reads class = record {
        shares = sym (no_some _ (none_among w phased apart_keys apart_structures v number site sited a None reads class refl at 0 past stands.kept));
        levels = levels;
        stands = stands_other w (length w.keys) seen past v at number levels outer a None refl (held_now None (λ e. class)) stands;
        live = λ c h. lives_other c past a None outer (fs c) refl inner (live c h);
      }
      read_next (Some own) reads class = record {
        shares = (live own (slot_within _ own class.slot)).now ∙ first_told w phased apart_keys apart_structures v number site sited a (Some own) reads class own refl at 0 past stands.kept;
        levels = λ slot. taken own 1 slot (levels slot);
        stands = stands_read w (length w.keys) seen past v at number levels own outer a (Some own) refl reads (held_now (Some own) (λ e. class)) stands;
        live = λ c h. lives_read c past a (Some own) own number outer (fs c) refl reads stands.counted inner (live c h);
      }

      write_next : (key : Option ℕ) → key ≡ None → a.writes ≡ true → Next seen outer past v at number a key fs
      write_next None e writes = record {
        shares = sym (no_some _ (write_alone w.program 0 (happened past) number a writes));
        levels = levels;
        stands = stands_write w (length w.keys) seen past v at number levels outer a None writes (held_now None (λ f. absurd (untrue a.writes writes f))) stands;
        live = λ c h. lives_write c past a None outer (fs c) writes inner (live c h);
      }
      write_next (Some own) e writes = absurd (some_none e)
        where
          some_none : Some own ≡ None → ⊥
          some_none e = cc

      next_told : (writes : Bool) (m : Met) (g : Meeting v t writes site a m) → touched_by t writes ≡ of_access a → Next seen outer past v at number a g.key fs
      next_told true m g e = write_next g.key (g.none refl) (sym (writes_told t true a e))
      next_told false m g e = read_next g.key (sym (writes_told t false a e)) (g.class refl e)

    abbrev Tells : List Happens → List Met → List Noted → (number : ℕ) → (ℕ → FirstRead) → Type 0
    Tells es ms past number fs = shares_of fs number ms ≡ expected w.program (happened past) (events_of es) number

    walk_told : (es : List Happens) (ms : List Met) (seen : List Arm) (outer : List (List Arm)) (arms : List Arm) (past : List Noted) (v : ℕ → ℕ) (at number : ℕ) (levels : ℕ → Level) (fs : ℕ → FirstRead)
        → Standing w (length w.keys) seen outer arms past v at number levels → AllLive past arms outer fs
        → Runs seen outer arms es → GoesAll v at es ms → Follows (sites_in (incidents_of es)) w.sites number → Tells es ms past number fs
    walk_told [] [] seen outer arms past v at number levels fs s l r g sites = refl
    walk_told [] (m ∷ ms) seen outer arms past v at number levels fs s l r g sites = absurd g
    walk_told (h ∷ es) [] seen outer arms past v at number levels fs s l r g sites = absurd g
    walk_told (touch_of t writes site a ∷ es) (m ∷ ms) seen outer arms past v at number levels fs s l r g sites =
        let here = follow_here site (sites_in (incidents_of es)) w.sites number sites in
        let own = subst (λ (x : List Arm). Standing w (length w.keys) seen outer x past v at number levels) (sym r.0.0) s in
        let mine = subst (λ (x : List Arm). AllLive past x outer fs) (sym r.0.0) l in
        let n = next_told seen outer past v at number levels fs t site a own mine here writes m g.0 r.0.1 in
        ap (λ x. shares_of fs number (x ∷ ms)) g.0.is
        ∙ (shares_next fs number g.0.key ms
        ∙ (ap (λ o. o ∷ shares_of (held_next fs number g.0.key) (number + 1) ms) n.shares
        ∙ ap (λ x. share_among w.program 0 (happened past) number a ∷ x)
        (walk_told es ms seen outer arms (past ++ noted_access a g.0.key ∷ []) v (at + 1) (number + 1) n.levels (held_next fs number g.0.key)
        (subst (λ (x : List Arm). Standing w (length w.keys) seen outer x (past ++ noted_access a g.0.key ∷ []) v (at + 1) (number + 1) n.levels) r.0.0 n.stands)
        (subst (λ (x : List Arm). AllLive (past ++ noted_access a g.0.key ∷ []) x outer (held_next fs number g.0.key)) r.0.0 n.live) r.1 g.1 (follow_next site (sites_in (incidents_of es)) w.sites number sites)
        ∙ ap (λ b. expected w.program b (events_of es) (number + 1)) (happened_append past (noted_access a g.0.key ∷ [])))))
    walk_told (set_at entity ∷ es) (m ∷ ms) seen outer arms past v at number levels fs s l r g sites =
        ap (λ x. shares_of fs number (x ∷ ms)) g.0
        ∙ (walk_told es ms seen outer arms (past ++ noted_set entity ∷ []) (moment_assigned_at v (at + 1) entity) (at + 1) number levels fs (stands_set w (length w.keys) seen past v at number levels outer arms entity s)
        (λ c h. lives_set c past arms outer (fs c) entity (l c h)) r g.1 sites
        ∙ ap (λ b. expected w.program b (events_of es) number) (happened_append past (noted_set entity ∷ [])))
    walk_told (arm_opens arm ∷ es) (m ∷ ms) seen outer arms past v at number levels fs s l r g sites =
        ap (λ x. shares_of fs number (x ∷ ms)) g.0
        ∙ walk_told es ms (arm ∷ seen) (arms ∷ outer) (arms ++ arm ∷ []) past v (at + 1) number (λ slot. begun (levels slot)) (λ class. opened (fs class)) (stands_opens w (length w.keys) seen past v at number levels outer arms arm r.0 s)
        (λ c h. lives_opens c seen past arms outer (fs c) arm r.0 s.known_past (l c h)) r.1 g.1 sites
    walk_told (arm_closes ∷ es) (m ∷ ms) seen [] arms past v at number levels fs s l r g sites = absurd r
    walk_told (arm_closes ∷ es) (m ∷ ms) seen (o ∷ outer) arms past v at number levels fs s l r g sites =
        ap (λ x. shares_of fs number (x ∷ ms)) g.0
        ∙ walk_told es ms seen outer o past v (at + 1) number (λ slot. gone_back (levels slot)) (λ class. lives.arm_closed (fs class)) (stands_closes w (length w.keys) seen past v at number levels o outer arms s)
        (λ c h. lives_closes c past arms o outer (fs c).now (fs c).outer (l c h)) r g.1 sites
    walk_told (parts_begin ∷ es) (m ∷ ms) seen outer arms past v at number levels fs s l r g sites =
        ap (λ x. shares_of fs number (x ∷ ms)) g.0 ∙ walk_told es ms seen outer arms past v (at + 1) number levels fs (stands_later w (length w.keys) seen past v at number levels outer arms s) l r g.1 sites
    walk_told (part_next ∷ es) (m ∷ ms) seen outer arms past v at number levels fs s l r g sites =
        ap (λ x. shares_of fs number (x ∷ ms)) g.0 ∙ walk_told es ms seen outer arms past v (at + 1) number levels fs (stands_later w (length w.keys) seen past v at number levels outer arms s) l r g.1 sites
    walk_told (parts_end ∷ es) (m ∷ ms) seen outer arms past v at number levels fs s l r g sites =
        ap (λ x. shares_of fs number (x ∷ ms)) g.0 ∙ walk_told es ms seen outer arms past v (at + 1) number levels fs (stands_later w (length w.keys) seen past v at number levels outer arms s) l r g.1 sites

-- where a walk begins
begins_so : (w : Walk) → Standing w (length w.keys) [] [] [] [] no_clocks 0 0 (λ s. start (slice_index (replicate (length w.keys) 1) s))
begins_so w = record {
  known = λ b h. h;
  known_outside = tt;
  known_past = tt;
  nested = tt;
  kept = tt;
  counted = refl;
  bounded = λ e. none;
  leaves = λ slot h. record { present = get_or-replicate (length w.keys) slot 1 0 h; stacked = tt };
}
  where
    none : 0 ≤ 0
    none = omega arith

shares_expected : (first : ℕ) (p : Program) (events : List Event) (shares : List (Option ℕ)) → IsNumbered first p.body → TellsPhases p → AreEventsOf p events → FindsShares events shares → shares ≡ expected p [] (trace p) 0
shares_expected first p events shares numbered phases are finds =
    let j = walked (stages_in p.body no_stages) first nothing_around refl None closed p.body numbered in
    let seen : all_seen events ≡ incidents_of j.happens = are.seen ∙ sym j.as_incidents in
    finds.shared_so
    ∙ (walk_told (record { program = p; keys = finds.known; structures = are.known; sites = sites_in (happenings_of p) }) phases finds.distinct are.distinct j.happens finds.steps [] [] [] [] no_clocks 0 0 (λ s. start (slice_index (replicate (length finds.known) 1) s)) none_read
    (begins_so (record { program = p; keys = finds.known; structures = are.known; sites = sites_in (happenings_of p) })) (λ c h. record { now = refl; outs = tt }) j.runs
    (all_go (record { program = p; keys = finds.known; structures = are.known; sites = sites_in (happenings_of p) }) no_clocks 0 j.happens events finds.steps seen finds.are are.reads)
    (subst (λ (xs : List PortEvent). Follows (sites_in xs) (sites_in (happenings_of p)) 0) (sym j.as_incidents) (follow_all (sites_in (happenings_of p))))
    ∙ ap (λ es. expected p [] es 0) j.as_events)

-- The list by numbers.

expected_long : (p : Program) (before es : List SourceEvent) (n : ℕ) → length (expected p before es n) ≡ count_in es
expected_long p before [] n = refl
expected_long p before (accesses a ∷ es) n = ap suc (expected_long p (before ++ accesses a ∷ []) es (n + 1))
expected_long p before (assigned e ∷ es) n = expected_long p (before ++ assigned e ∷ []) es n

shift : (n k : ℕ) → n + 1 + k ≡ n + suc k
shift n k = omega arith

plus_none : (n : ℕ) → n ≡ n + 0
plus_none n = omega arith

less_next : (k n : ℕ) → suc k < suc n → k < n
less_next k n h = omega (arith, h)

none_less : {A : Type 0} (k : ℕ) → k < 0 → A
none_less k h = absurd (omega (arith, h))

expected_each : (p : Program) (before es : List SourceEvent) (n k : ℕ) → k < count_in es → slice_get (expected p before es n) k ≡ Some (share_in p before es (n + k) k)
expected_each p before [] n k h = none_less k h
expected_each p before (accesses a ∷ es) n zero h = ap (λ m. Some (share_among p 0 before m a)) (plus_none n)
expected_each p before (accesses a ∷ es) n (suc k) h =
    expected_each p (before ++ accesses a ∷ []) es (n + 1) k (less_next k (count_in es) h) ∙ ap (λ m. Some (share_in p (before ++ accesses a ∷ []) es m k)) (shift n k)
expected_each p before (assigned e ∷ es) n k h = expected_each p (before ++ assigned e ∷ []) es n k h

expected_all : (p : Program) (before es : List SourceEvent) (n k : ℕ) → told (expected p before es n) k ≡ share_in p before es (n + k) k
expected_all p before [] n zero = refl
expected_all p before [] n (suc k) = refl
expected_all p before (accesses a ∷ es) n zero = ap (λ m. share_among p 0 before m a) (plus_none n)
expected_all p before (accesses a ∷ es) n (suc k) = expected_all p (before ++ accesses a ∷ []) es (n + 1) k ∙ ap (λ m. share_in p (before ++ accesses a ∷ []) es m k) (shift n k)
expected_all p before (assigned e ∷ es) n k = expected_all p (before ++ assigned e ∷ []) es n k

from_none : (k : ℕ) → 0 + k ≡ k
from_none k = omega arith

pub shared_told : (first : ℕ) (p : Program) (events : List Event) (shares : List (Option ℕ)) → IsNumbered first p.body → TellsPhases p → AreEventsOf p events → FindsShares events shares → TellsShares p shares
shared_told first p events shares numbered phases are finds =
    let is = shares_expected first p events shares numbered phases are finds in
    let many_are : count_in (trace p) ≡ accesses_of p.body = counted nothing_around p.body in
    record {
      long = ap length is ∙ (expected_long p [] (trace p) 0 ∙ many_are);
      each = λ k h. ap (λ l. slice_get l k) is ∙ (expected_each p [] (trace p) 0 k (subst (λ (n : ℕ). k < n) (sym many_are) h) ∙ ap (λ n. Some (share_in p [] (trace p) n k)) (from_none k));
      all = λ k. ap (λ l. told l k) is ∙ (expected_all p [] (trace p) 0 k ∙ ap (λ n. share_in p [] (trace p) n k) (from_none k));
    }

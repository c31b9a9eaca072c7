-- What happened so far, with the classes of reads: which of it spends a slot, and that reads of one class are shared.
use Rattle.std.proofs.Common.{◌≡◌, ℕ, suc, ◌+◌, ◌<◌, ◌≤◌, ◌==◌, ◌&&◌, ◌||◌, not, Bool, true, false, if◌then◌else◌, List, [], ◌∷◌, ◌++◌, refl, ap, sym, ◌∙◌, subst, arith}
use Rattle.std.specs.Prelude.{Option, Some, None, slice_get}
use Rattle.std.specs.Option.{is_some}
use Rattle.std.proofs.lemmas.Bool.{eqb-true, eq-eqb}
use Rattle.dh_tree.specs.Memories.{same_entity}
use Rattle.dh_tree.specs.PlainTrees.{Program}
use Rattle.dh_meaning.specs.OnePhase.{in_one_phase}
use Rattle.dh_meaning.specs.Sites.{Arm}
use Rattle.dh_meets.specs.Sharing.{alike_elements, all_arms_of, reassigned, element_mentions, shares_with, share_among}
use Rattle.dh_meets.specs.SourceEvents.{SourceAccess, SourceEvent, accesses, assigned}
use Rattle.dh_events.specs.declared.classes.Key.{Key}
use Rattle.dh_events.specs.declared.events.Site.{Site}
use Rattle.dh_events.specs.declared.structures.Structure.{Structure}
use Rattle.dh_events.specs.Classes as classes
use Rattle.dh_events.specs.Elements.{moment_assigned_at, IsElement, IsNumberOf, ElementNameless}
use Rattle.dh_ports.specs.Scanned.{key_with}
use Rattle.dh_events.specs.Structures.{StructuresAreDistinct, DescribesElement, element_newest}
use Rattle.dh_ports.proofs.AlikeNumbers.{element_alike}
use Rattle.dh_ports.proofs.AlikeFacts.{element_number, first_element, second_element, element_newest_alike, element_most, element_least, element_newest_same}
use Rattle.dh_ports.proofs.MentionedSame.{set_by, set_in, unset_where, reassigned_where}

absurd : {A : Type 0} → ⊥ → A
absurd e = elim e [ ]

-- an access with the slot of its class, and an assignment
pub data Noted : Type 0 where
  noted_access : (access : SourceAccess) → (key : Option ℕ) → Noted
  noted_set : (entity : Option ℕ) → Noted

abbrev pub happened : List Noted → List SourceEvent
happened [] = []
happened (noted_access a key ∷ ns) = accesses a ∷ happened ns
happened (noted_set entity ∷ ns) = assigned entity ∷ happened ns

pub happened_append : (xs ys : List Noted) → happened (xs ++ ys) ≡ happened xs ++ happened ys
happened_append [] ys = refl
happened_append (noted_access a key ∷ xs) ys = ap (λ l. accesses a ∷ l) (happened_append xs ys)
happened_append (noted_set e ∷ xs) ys = ap (λ l. assigned e ∷ l) (happened_append xs ys)

-- how many accesses happened
abbrev pub many : List Noted → ℕ
many [] = 0
many (noted_access a key ∷ ns) = suc (many ns)
many (noted_set entity ∷ ns) = many ns

pub many_set : (ns : List Noted) (entity : Option ℕ) → many (ns ++ noted_set entity ∷ []) ≡ many ns
many_set [] entity = refl
many_set (noted_access a key ∷ ns) entity = ap suc (many_set ns entity)
many_set (noted_set e ∷ ns) entity = many_set ns entity

pub many_access : (ns : List Noted) (a : SourceAccess) (key : Option ℕ) → many (ns ++ noted_access a key ∷ []) ≡ many ns + 1
many_access [] a key = refl
many_access (noted_access b other ∷ ns) a key = ap suc (many_access ns a key) ∙ shift (many ns)
  where
    shift : (n : ℕ) → suc (n + 1) ≡ suc n + 1
    shift n = omega arith
many_access (noted_set e ∷ ns) a key = many_access ns a key

-- a read of the class of a slot, all of whose arms stand among these
abbrev pub spends : (slot : ℕ) → (arms : List Arm) → List Noted → Bool
spends slot arms [] = false
spends slot arms (noted_access a key ∷ ns) = (not a.writes && (all_arms_of a.site.arms arms && same_entity key (Some slot))) || spends slot arms ns
spends slot arms (noted_set entity ∷ ns) = spends slot arms ns

-- truth values
pub or_false : (a : Bool) → (a || false) ≡ a
or_false true = refl
or_false false = refl

or_assoc : (a b c : Bool) → (a || (b || c)) ≡ ((a || b) || c)
or_assoc true b c = refl
or_assoc false b c = refl

both_true : (a b : Bool) → a ≡ true → b ≡ true → (a && b) ≡ true
both_true true b e f = f
both_true false b e f = cc

first_true : (a b : Bool) → (a && b) ≡ true → a ≡ true
first_true true b e = refl
first_true false b e = cc

second_true : (a b : Bool) → (a && b) ≡ true → b ≡ true
second_true true b e = e
second_true false b e = cc

not_true : (a : Bool) → not a ≡ true → a ≡ false
not_true true e = cc
not_true false e = refl

not_false : (a : Bool) → a ≡ false → not a ≡ true
not_false true e = cc
not_false false e = refl

neither : (a b : Bool) → (a || b) ≡ false → (a ≡ false) × (b ≡ false)
neither true b e = cc
neither false b e = (refl, e)

same_truths : (a b : Bool) → (a ≡ true → b ≡ true) → (b ≡ true → a ≡ true) → a ≡ b
same_truths true b f g = sym (f refl)
same_truths false true f g = g refl
same_truths false false f g = refl

pub spends_append : (slot : ℕ) (arms : List Arm) (xs ys : List Noted) → spends slot arms (xs ++ ys) ≡ (spends slot arms xs || spends slot arms ys)
spends_append slot arms [] ys = refl
spends_append slot arms (noted_access a key ∷ xs) ys =
    ap (λ b. (not a.writes && (all_arms_of a.site.arms arms && same_entity key (Some slot))) || b) (spends_append slot arms xs ys)
    ∙ or_assoc (not a.writes && (all_arms_of a.site.arms arms && same_entity key (Some slot))) (spends slot arms xs) (spends slot arms ys)
spends_append slot arms (noted_set e ∷ xs) ys = spends_append slot arms xs ys

set_more : (e : ℕ) (hs : List SourceEvent) (h : SourceEvent) → set_in e (hs ++ h ∷ []) ≡ (set_in e hs || set_by e h)
set_more e [] h = or_false (set_by e h)
set_more e (x ∷ hs) h = ap (λ b. set_by e x || b) (set_more e hs h) ∙ or_assoc (set_by e x) (set_in e hs) (set_by e h)

-- the slot of a key, where there is one
abbrev pub IsSlot : List Key → Option Key → Option ℕ → Type 0
IsSlot keys None slot = slot ≡ None
IsSlot keys (Some k) slot = (s : ℕ) × ((slot ≡ Some s) × (slice_get keys s ≡ Some k))

-- what a walk knows: the keys, the structures, and where accesses stand
pub record Walk : Type 0 where
  pub program : Program
  pub keys : List Key
  pub structures : List Structure
  pub sites : List Site

-- an access has the slot of its key, by the structure and the newest variable of its indices
pub record Classed (w : Walk) (v : ℕ → ℕ) (site : Site) (a : SourceAccess) (key : Option ℕ) : Type 0 where
  pub element : Option ℕ
  pub newest : ℕ
  pub known : IsElement w.structures v a.element element newest
  pub slot : IsSlot w.keys (key_with site.phase a.entity element newest) key

-- An access that happened: its moment, phase and the moments of variables at it, and what came of them since.
pub record Held (w : Walk) (v : ℕ → ℕ) (at number : ℕ) (a : SourceAccess) (key : Option ℕ) (hs : List SourceEvent) : Type 0 where
  pub moment : ℕ
  pub versions : ℕ → ℕ
  pub site : Site
  pub sited : slice_get w.sites number ≡ Some site
  pub earlier : moment < at
  pub is : a.writes ≡ false → Classed w versions site a key
  pub bounded : (e : ℕ) → versions e ≤ moment
  pub same : (e : ℕ) → set_in e hs ≡ false → versions e ≡ v e
  pub later : (e : ℕ) → set_in e hs ≡ true → moment < v e

abbrev pub Kept : Walk → (v : ℕ → ℕ) → (at number : ℕ) → List Noted → Type 0
Kept w v at number [] = Unit {0}
Kept w v at number (noted_access a key ∷ ns) = Held w v at number a key (happened ns) × Kept w v at (suc number) ns
Kept w v at number (noted_set entity ∷ ns) = Kept w v at number ns

-- moments of variables before and after what happens at a moment
pub record Moves (v u : ℕ → ℕ) (at : ℕ) (h : SourceEvent) : Type 0 where
  pub same : (e : ℕ) → set_by e h ≡ false → u e ≡ v e
  pub later : (e : ℕ) → set_by e h ≡ true → at < u e

next_moment : (m at : ℕ) → m < at → m < at + 1
next_moment m at e = omega (arith, e)

module _ (w : Walk) (v u : ℕ → ℕ) (at : ℕ) (h : SourceEvent) (moves : Moves v u at h) where
  held_more : (number : ℕ) (a : SourceAccess) (key : Option ℕ) (hs : List SourceEvent) → Held w v at number a key hs → Held w u (at + 1) number a key (hs ++ h ∷ [])
  held_more number a key hs x = record {
    moment = x.moment;
    versions = x.versions;
    site = x.site;
    sited = x.sited;
    earlier = next_moment x.moment at x.earlier;
    is = x.is;
    bounded = x.bounded;
    same = λ e n. let both = neither (set_in e hs) (set_by e h) (sym (set_more e hs h) ∙ n) in x.same e both.0 ∙ sym (moves.same e both.1);
    later = λ e n. by_test e (set_by e h) refl (sym (set_more e hs h) ∙ n);
  }
    where
      far : (m at n : ℕ) → m < at → at < n → m < n
      far m at n e f = omega (arith, e, f)

      no_other : (a : Bool) → (a || false) ≡ true → a ≡ true
      no_other true e = refl
      no_other false e = cc

      by_test : (e : ℕ) (b : Bool) → set_by e h ≡ b → (set_in e hs || set_by e h) ≡ true → x.moment < u e
      by_test e true t n = far x.moment at (u e) x.earlier (moves.later e t)
      by_test e false t n = subst (λ (m : ℕ). x.moment < m) (sym (moves.same e t)) (x.later e (no_other (set_in e hs) (ap (λ b. set_in e hs || b) (sym t) ∙ n)))

  kept_more : (number : ℕ) (past : List Noted) (n : Noted) → happened (n ∷ []) ≡ h ∷ [] → Kept w u (at + 1) (number + many past) (n ∷ []) → Kept w v at number past → Kept w u (at + 1) number (past ++ n ∷ [])
  kept_more number [] n same one k = subst (λ (m : ℕ). Kept w u (at + 1) m (n ∷ [])) (plus_none number) one
    where
      plus_none : (n : ℕ) → n + 0 ≡ n
      plus_none n = omega arith
  kept_more number (noted_access a key ∷ past) n same one k = (
    subst (λ (hs : List SourceEvent). Held w u (at + 1) number a key hs) (sym (happened_append past (n ∷ []) ∙ ap (λ l. happened past ++ l) same)) (held_more number a key (happened past) k.0),
    kept_more (suc number) past n same (subst (λ (m : ℕ). Kept w u (at + 1) m (n ∷ [])) (shift number (many past)) one) k.1,
  )
    where
      shift : (n m : ℕ) → n + suc m ≡ suc n + m
      shift n m = omega arith
  kept_more number (noted_set e ∷ past) n same one k = kept_more number past n same one k

module _ (w : Walk) (v : ℕ → ℕ) (at : ℕ) where
  pub kept_later : (number : ℕ) (past : List Noted) → Kept w v at number past → Kept w v (at + 1) number past
  kept_later number [] k = tt
  kept_later number (noted_access a key ∷ past) k = (later k.0, kept_later (suc number) past k.1)
    where
      later : Held w v at number a key (happened past) → Held w v (at + 1) number a key (happened past)
      later x = record {
        moment = x.moment;
        versions = x.versions;
        site = x.site;
        sited = x.sited;
        earlier = next_moment x.moment at x.earlier;
        is = x.is;
        bounded = x.bounded;
        same = x.same;
        later = x.later;
      }
  kept_later number (noted_set e ∷ past) k = kept_later number past k

  from_none : (n : ℕ) → n ≡ 0 + n
  from_none n = omega arith

  pub kept_access : (past : List Noted) (a : SourceAccess) (key : Option ℕ) → Held w v (at + 1) (many past) a key [] → Kept w v at 0 past → Kept w v (at + 1) 0 (past ++ noted_access a key ∷ [])
  kept_access past a key x k =
      kept_more w v v at (accesses a) (record { same = λ e n. refl; later = λ e n. absurd (untrue n) }) 0 past (noted_access a key) refl
      (subst (λ (n : ℕ). Held w v (at + 1) n a key []) (from_none (many past)) x, tt) k
    where
      untrue : false ≡ true → ⊥
      untrue e = cc

  moves_set : (entity : Option ℕ) → Moves v (moment_assigned_at v (at + 1) entity) at (assigned entity)
  moves_set None = record { same = λ e n. refl; later = λ e n. absurd (untrue n) }
    where
      untrue : false ≡ true → ⊥
      untrue e = cc
  moves_set (Some x) = record {
    same = λ e n. ap (λ b. if b then at + 1 else v e) n;
    later = λ e n. subst (λ (m : ℕ). at < m) (sym (ap (λ b. if b then at + 1 else v e) n)) (more at);
  }
    where
      more : (n : ℕ) → n < n + 1
      more n = omega arith

  pub kept_set : (past : List Noted) (entity : Option ℕ) → Kept w v at 0 past → Kept w (moment_assigned_at v (at + 1) entity) (at + 1) 0 (past ++ noted_set entity ∷ [])
  kept_set past entity k = kept_more w v (moment_assigned_at v (at + 1) entity) at (assigned entity) (moves_set entity) 0 past (noted_set entity) refl tt k

pub bounded_set : (v : ℕ → ℕ) (at : ℕ) (entity : Option ℕ) → ((e : ℕ) → v e ≤ at) → (e : ℕ) → moment_assigned_at v (at + 1) entity e ≤ at + 1
bounded_set v at None b e = more (v e) at (b e)
  where
    more : (n m : ℕ) → n ≤ m → n ≤ m + 1
    more n m e = omega (arith, e)
bounded_set v at (Some x) b e = by_test (x == e)
  where
    more : (n m : ℕ) → n ≤ m → n ≤ m + 1
    more n m e = omega (arith, e)

    same : (n : ℕ) → n ≤ n
    same n = omega arith

    by_test : (t : Bool) → (if t then at + 1 else v e) ≤ at + 1
    by_test true = same (at + 1)
    by_test false = more (v e) at (b e)

-- Keys.

-- the parts of a key that is there
pub record Parts (phase : ℕ) (entity element : Option ℕ) (newest : ℕ) (k : Key) : Type 0 where
  pub phased : k.phase ≡ phase
  pub named : entity ≡ Some k.entity
  pub numbered : element ≡ Some k.element
  pub moment : k.newest ≡ newest

parts_of : (phase : ℕ) (entity element : Option ℕ) (newest : ℕ) (k : Key) → key_with phase entity element newest ≡ Some k → Parts phase entity element newest k
parts_of phase None element newest k e = cc
parts_of phase (Some x) None newest k e = cc
parts_of phase (Some x) (Some n) newest k e =
    let same : record { phase = phase; entity = x; element = n; newest = newest } ≡ k = some_is _ k e in
    record { phased = sym (ap (λ (j : Key). j.phase) same); named = ap (λ (j : Key). Some j.entity) same; numbered = ap (λ (j : Key). Some j.element) same; moment = sym (ap (λ (j : Key). j.newest) same) }
  where
    some_is : (j k : Key) → Some j ≡ Some k → j ≡ k
    some_is j k e = cc

-- a slot is that of a key
slot_key : (keys : List Key) (o : Option Key) (s : ℕ) → IsSlot keys o (Some s) → (k : Key) × ((o ≡ Some k) × (slice_get keys s ≡ Some k))
slot_key keys None s e = cc
slot_key keys (Some k) s (r, (e, f)) = (k, (refl, let same : s ≡ r = some_is s r e in ap (slice_get keys) same ∙ f))
  where
    some_is : (m n : ℕ) → Some m ≡ Some n → m ≡ n
    some_is m n e = cc

key_slot : (keys : List Key) (o : Option Key) (slot : Option ℕ) (k : Key) → o ≡ Some k → IsSlot keys o slot → (s : ℕ) × ((slot ≡ Some s) × (slice_get keys s ≡ Some k))
key_slot keys None slot k e h = absurd (none e)
  where
    none : None ≡ Some k → ⊥
    none e = cc
key_slot keys (Some j) slot k e (s, (f, g)) = (s, (f, g ∙ e))

-- A read shares an earlier one exactly where that has its class.
shuffle : (m p r n : Bool) → (r && (m && (p && n))) ≡ ((m && p) && (r && n))
shuffle true true r n = refl
shuffle true false true n = refl
shuffle true false false n = refl
shuffle false p true n = refl
shuffle false p false n = refl

one_same : (first second m p r c n : Bool) → second ≡ false → (first ≡ false → c ≡ (m && (p && n))) → (not first && (r && c)) ≡ ((((not first && not second) && m) && p) && (r && n))
one_same true second m p r c n e f = refl
one_same false true m p r c n e f = cc
one_same false false m p r c n e f = ap (λ b. r && b) (f refl) ∙ shuffle m p r n

abbrev pub Phased : Walk → Type 0
Phased w = (i j : ℕ) (s t : Site) → slice_get w.sites i ≡ Some s → slice_get w.sites j ≡ Some t → in_one_phase w.program i j ≡ (s.phase == t.phase)

module _ (w : Walk) (phased : Phased w) (apart_keys : classes.KeysAreDistinct w.keys) (apart_structures : StructuresAreDistinct w.structures) (v : ℕ → ℕ) (number : ℕ) (site : Site) (sited : slice_get w.sites number ≡ Some site)
    (x : SourceAccess) (key : Option ℕ) (reads : x.writes ≡ false) (classed : Classed w v site x key) where
  module _ (at j : ℕ) (a : SourceAccess) (other : Option ℕ) (hs : List SourceEvent) (held : Held w v at j a other hs) (earlier_reads : a.writes ≡ false) where
    abbrev class : Classed w held.versions held.site a other
    class = held.is earlier_reads

    in_phase : in_one_phase w.program j number ≡ (held.site.phase == site.phase)
    in_phase = phased j number held.site site held.sited sited

    abbrev Together : Type 0
    Together = ((same_entity a.entity x.entity && alike_elements a.element x.element) && (in_one_phase w.program j number && not (reassigned x.element hs))) ≡ true

    told_one : (s : ℕ) → key ≡ Some s → same_entity other (Some s) ≡ true → Together
    told_one s q e =
        let mine = slot_key w.keys (key_with site.phase x.entity classed.element classed.newest) s (subst (λ (o : Option ℕ). IsSlot w.keys (key_with site.phase x.entity classed.element classed.newest) o) q classed.slot) in
        let its = slot_key w.keys (key_with held.site.phase a.entity class.element class.newest) s (subst (λ (o : Option ℕ). IsSlot w.keys (key_with held.site.phase a.entity class.element class.newest) o) (is_some_slot other e) class.slot) in
        let one : mine.0 ≡ its.0 = some_key mine.0 its.0 (sym mine.1.1 ∙ its.1.1) in
        let m = parts_of site.phase x.entity classed.element classed.newest mine.0 mine.1.0 in
        let i = parts_of held.site.phase a.entity class.element class.newest mine.0 (its.1.0 ∙ ap (λ k. Some k) (sym one)) in
        let alike : alike_elements a.element x.element ≡ true = element_alike w.structures mine.0.element a.element x.element (described class.element mine.0.element a.element i.numbered class.known.number) (described classed.element mine.0.element x.element m.numbered classed.known.number) in
        let moments : element_newest held.versions a.element ≡ element_newest v x.element = sym class.known.newest ∙ (sym i.moment ∙ (m.moment ∙ classed.known.newest)) in
        both_true (same_entity a.entity x.entity && alike_elements a.element x.element) (in_one_phase w.program j number && not (reassigned x.element hs))
        (both_true (same_entity a.entity x.entity) (alike_elements a.element x.element) (entities a.entity x.entity mine.0.entity i.named m.named) alike)
        (both_true (in_one_phase w.program j number) (not (reassigned x.element hs)) (in_phase ∙ eq-eqb held.site.phase site.phase (sym i.phased ∙ m.phased))
        (not_false (reassigned x.element hs) (reassigned_where x.element hs (λ e n. unset e (set_in e hs) refl n moments))))
      where
        is_some_slot : (o : Option ℕ) → same_entity o (Some s) ≡ true → o ≡ Some s
        is_some_slot None e = cc
        is_some_slot (Some r) e = ap (λ z. Some z) (eqb-true r s e)

        some_key : (j k : Key) → Some j ≡ Some k → j ≡ k
        some_key j k e = cc

        described : (o : Option ℕ) (n : ℕ) (e : _) → o ≡ Some n → IsNumberOf (λ n. DescribesElement w.structures n) ElementNameless o e → DescribesElement w.structures n e
        described o n e f d = subst (λ (z : Option ℕ). IsNumberOf (λ n. DescribesElement w.structures n) ElementNameless z e) f d

        entities : (a b : Option ℕ) (n : ℕ) → a ≡ Some n → b ≡ Some n → same_entity a b ≡ true
        entities a b n e f = ap (λ z. same_entity z b) e ∙ (ap (λ z. same_entity (Some n) z) f ∙ eq-eqb n n refl)

        beyond : (m n k : ℕ) → m ≤ n → n < k → k ≤ m → ⊥
        beyond m n k e f g = omega (arith, e, f, g)

        unset : (e : ℕ) (b : Bool) → set_in e hs ≡ b → element_mentions (Some e) x.element ≡ true → element_newest held.versions a.element ≡ element_newest v x.element → b ≡ false
        unset e true h n same =
            absurd (beyond (element_newest v x.element) held.moment (v e) (subst (λ (z : ℕ). z ≤ held.moment) same (element_most held.versions held.moment held.bounded a.element)) (held.later e h) (element_least v e x.element n))
        unset e false h n same = refl

    one_told : Together → (s : ℕ) × ((key ≡ Some s) × (other ≡ Some s))
    one_told e =
        let m : (same_entity a.entity x.entity && alike_elements a.element x.element) ≡ true = first_true _ _ e in
        let r : (in_one_phase w.program j number && not (reassigned x.element hs)) ≡ true = second_true (same_entity a.entity x.entity && alike_elements a.element x.element) _ e in
        let alike : alike_elements a.element x.element ≡ true = second_true (same_entity a.entity x.entity) _ m in
        let unset : reassigned x.element hs ≡ false = not_true (reassigned x.element hs) (second_true (in_one_phase w.program j number) _ r) in
        let one : held.site.phase ≡ site.phase = eqb-true held.site.phase site.phase (sym in_phase ∙ first_true _ _ r) in
        let moments : class.newest ≡ classed.newest =
        class.known.newest
        ∙ (element_newest_alike held.versions a.element x.element alike
        ∙ (element_newest_same held.versions v x.element (λ e n. held.same e (unset_where x.element hs unset e n)) ∙ sym classed.known.newest)) in
        let names = entities a.entity x.entity (first_true _ _ m) in
        let n = numbers class.element classed.element alike class.known.number classed.known.number in
        let k : Key = record { phase = site.phase; entity = names.0; element = n.0; newest = classed.newest } in
        let mine : key_with site.phase x.entity classed.element classed.newest ≡ Some (record { phase = site.phase; entity = names.0; element = n.0; newest = classed.newest }) =
        ap (λ z. key_with site.phase z classed.element classed.newest) names.1.1 ∙ ap (λ z. key_with site.phase (Some names.0) z classed.newest) n.1.1 in
        let its : key_with held.site.phase a.entity class.element class.newest ≡ Some (record { phase = site.phase; entity = names.0; element = n.0; newest = classed.newest }) =
        ap (λ z. key_with held.site.phase z class.element class.newest) names.1.0
        ∙ (ap (λ z. key_with held.site.phase (Some names.0) z class.newest) n.1.0
        ∙ (ap (λ z. key_with z (Some names.0) (Some n.0) class.newest) one ∙ ap (λ z. key_with site.phase (Some names.0) (Some n.0) z) moments)) in
        let p = key_slot w.keys _ key _ mine classed.slot in
        let q = key_slot w.keys _ other _ its class.slot in
        let same : q.0 ≡ p.0 = apart_keys q.0 p.0 _ q.1.1 p.1.1 in
        (p.0, (p.1.0, q.1.0 ∙ ap (λ z. Some z) same))
      where
        entities : (a b : Option ℕ) → same_entity a b ≡ true → (n : ℕ) × ((a ≡ Some n) × (b ≡ Some n))
        entities None b e = cc
        entities (Some m) None e = cc
        entities (Some m) (Some n) e = (m, (refl, ap (λ z. Some z) (sym (eqb-true m n e))))

        numbers : (o q : Option ℕ) → alike_elements a.element x.element ≡ true → IsNumberOf (λ n. DescribesElement w.structures n) ElementNameless o a.element → IsNumberOf (λ n. DescribesElement w.structures n) ElementNameless q x.element
            → (n : ℕ) × ((o ≡ Some n) × (q ≡ Some n))
        numbers None q alike d e = absurd (first_element a.element x.element alike d)
        numbers (Some m) None alike d e = absurd (second_element a.element x.element alike e)
        numbers (Some m) (Some n) alike d e = (m, (refl, ap (λ z. Some z) (sym (element_number w.structures apart_structures m n a.element x.element d e alike))))

    one_class : (s : ℕ) → key ≡ Some s → same_entity other (Some s) ≡ ((same_entity a.entity x.entity && alike_elements a.element x.element) && (in_one_phase w.program j number && not (reassigned x.element hs)))
    one_class s q = same_truths _ _ (told_one s q) (λ e. let t = one_told e in ap (λ z. same_entity z (Some s)) (t.1.1 ∙ (sym t.1.0 ∙ q)) ∙ eq-eqb s s refl)

    no_class : key ≡ None → ((same_entity a.entity x.entity && alike_elements a.element x.element) && (in_one_phase w.program j number && not (reassigned x.element hs))) ≡ false
    no_class q = by_test _ refl
      where
        none_some : (s : ℕ) → key ≡ Some s → ⊥
        none_some s e = apart s (sym q ∙ e)
          where
            apart : (s : ℕ) → None ≡ Some s → ⊥
            apart s e = cc

        by_test : (b : Bool) → ((same_entity a.entity x.entity && alike_elements a.element x.element) && (in_one_phase w.program j number && not (reassigned x.element hs))) ≡ b → b ≡ false
        by_test true e = let t = one_told e in absurd (none_some t.0 t.1.0)
        by_test false e = refl

  some_or : (b : Bool) (j : ℕ) (o : Option ℕ) → is_some (if b then Some j else o) ≡ (b || is_some o)
  some_or true j o = refl
  some_or false j o = refl

  pub shared_among : (s : ℕ) → key ≡ Some s → (at j : ℕ) (past : List Noted) → Kept w v at j past → spends s x.site.arms past ≡ is_some (share_among w.program j (happened past) number x)
  shared_among s q at j [] k = refl
  shared_among s q at j (noted_access a other ∷ past) k =
      ap (λ b. b || spends s x.site.arms past)
      (one_same a.writes x.writes (same_entity a.entity x.entity && alike_elements a.element x.element) (in_one_phase w.program j number) (all_arms_of a.site.arms x.site.arms) (same_entity other (Some s)) (not (reassigned x.element (happened past))) reads
      (λ e. one_class at j a other (happened past) k.0 e s q))
      ∙ (ap (λ b. shares_with w.program j a (happened past) number x || b) (shared_among s q at (suc j) past k.1) ∙ sym (some_or (shares_with w.program j a (happened past) number x) j (share_among w.program (suc j) (happened past) number x)))
  shared_among s q at j (noted_set e ∷ past) k = shared_among s q at j past k

  pub none_among : key ≡ None → (at j : ℕ) (past : List Noted) → Kept w v at j past → is_some (share_among w.program j (happened past) number x) ≡ false
  none_among q at j [] k = refl
  none_among q at j (noted_access a other ∷ past) k =
      some_or (shares_with w.program j a (happened past) number x) j (share_among w.program (suc j) (happened past) number x)
      ∙ (ap (λ b. b || is_some (share_among w.program (suc j) (happened past) number x)) (sym (one_same a.writes x.writes (same_entity a.entity x.entity && alike_elements a.element x.element) (in_one_phase w.program j number) (all_arms_of a.site.arms x.site.arms) false (not (reassigned x.element (happened past))) reads
      (λ e. sym (no_class at j a other (happened past) k.0 e q))) ∙ nothing a.writes (all_arms_of a.site.arms x.site.arms))
      ∙ none_among q at (suc j) past k.1)
    where
      nothing : (b c : Bool) → (not b && (c && false)) ≡ false
      nothing true c = refl
      nothing false true = refl
      nothing false false = refl
  none_among q at j (noted_set e ∷ past) k = none_among q at j past k

-- a write shares nothing
pub write_alone : (p : Program) (j : ℕ) (hs : List SourceEvent) (k : ℕ) (x : SourceAccess) → x.writes ≡ true → is_some (share_among p j hs k x) ≡ false
write_alone p j [] k x e = refl
write_alone p j (accesses a ∷ hs) k x e =
    some_or (shares_with p j a hs k x) j (share_among p (suc j) hs k x)
    ∙ (ap (λ b. b || is_some (share_among p (suc j) hs k x)) (by_test a.writes x.writes (same_entity a.entity x.entity && alike_elements a.element x.element) (in_one_phase p j k) (all_arms_of a.site.arms x.site.arms && not (reassigned x.element hs)) e)
    ∙ write_alone p (suc j) hs k x e)
  where
    some_or : (b : Bool) (j : ℕ) (o : Option ℕ) → is_some (if b then Some j else o) ≡ (b || is_some o)
    some_or true j o = refl
    some_or false j o = refl

    by_test : (first second m p r : Bool) → second ≡ true → ((((not first && not second) && m) && p) && r) ≡ false
    by_test true second m p r e = refl
    by_test false true m p r e = refl
    by_test false false m p r e = cc
write_alone p j (assigned entity ∷ hs) k x e = write_alone p j hs k x e

-- Notes stay right while reads are noted and structures are numbered.
use Rattle.std.proofs.Common.{◌≡◌, ℕ, zero, suc, ◌+◌, ◌<◌, ◌≤◌, List, [], ◌∷◌, ◌++◌, length, map, take, get_or, add-one, append_assoc, refl, ap, sym, ◌∙◌, subst, arith}
use Rattle.std.specs.Prelude.{Option, Some, None, Result, Ok, Err, IfOk, OnOk, Vec}
use Rattle.std.specs.Global.{Global}
use Rattle.dh_tree.specs.PlainTrees.{Term, TermForm, Terms, no_terms, term_then}
use Rattle.dh_meets.specs.SourceEvents.{Element, with_indices}
use Rattle.dh_events.specs.declared.structures.Structure.{Structure}
use Rattle.dh_events.specs.declared.events.Event.{Event}
use Rattle.dh_events.specs.declared.events.Event.TheVariants as event
use Rattle.dh_events.specs.declared.events.Notes.{Notes}
use Rattle.dh_events.specs.declared.known.Known.{Known}
use Rattle.dh_events.specs.Accesses.{element_in}
use Rattle.dh_tree.specs.declared.trees.expressions.Expr.{Expr}
use Rattle.dh_tree.specs.Seen.{term_seen, terms}
use Rattle.dh_events.specs.declared.events.Site.{Site}
use Rattle.dh_events.specs.Incidents.{PortEvent, term_incidents, terms_incidents}
use Rattle.dh_events.specs.Structures.{Describes, DescribesAll, DescribesElement, IsNameless, AnyNameless, ExtendsStructures}
use Rattle.dh_events.specs.Elements.{moment_assigned_at, clocks_after, clocks_from, IsNumberOf, ElementNameless, IsKnown, AreKnown, AreKnownSoFar, terms_behind, IsElement, IsRead, AreReads, no_clocks, StaysNoted, StaysRead, IsBoundaryEvent, IsTouch}
use Rattle.dh_events.specs.Tables.{table_at}
use Rattle.dh_events.proofs.ElementFacts.{extends_same, extends_both, describes_still, from_still, is_element_still, reads_still, clocks_more, reads_more}

absurd : {A : Type 0} → ⊥ → A
absurd e = elim e [ ]

pub if_on : {T E Q : Type 0} (r : Result T E) (P : T → Type 0) → ((x : T) → P x → Q) → IfOk r P → OnOk r Q
if_on (Ok x) P f h = f x h
if_on (Err e) P f h = h

abbrev pub notes_of : Notes → List Structure → Notes
notes_of old known = record { events = old.events; structures = known; clocks = old.clocks }

abbrev pub with_events : Notes → Vec Event Global → Notes
with_events old events = record { events = events; structures = old.structures; clocks = old.clocks }

pub stays_both : (old mid new : Notes) → StaysRead old mid → StaysRead mid new → StaysRead old new
stays_both old mid new f g = record {
  extends = extends_both old.structures mid.structures new.structures f.extends g.extends;
  clocks = g.clocks ∙ f.clocks;
  noted = λ i. g.noted (f.noted i);
}

stays_extended : (old : Notes) (known : List Structure) → ExtendsStructures old.structures known → StaysRead old (notes_of old known)
stays_extended old known more = record {
  extends = more;
  clocks = refl;
  noted = λ i. record { clocks = i.clocks; reads = reads_still old.structures known more no_clocks 0 old.events.items i.reads };
}

-- structures are added behind reads
pub stays_made : (old mid : Notes) (known : List Structure) → StaysRead old mid → ExtendsStructures mid.structures known → StaysRead old (notes_of mid known)
stays_made old mid known f more = stays_both old mid (notes_of mid known) f (stays_extended mid known more)

pub stays_more : (old : Notes) (known : List Structure) → ExtendsStructures old.structures known → StaysRead old (notes_of old known)
stays_more old known more = stays_extended old known more

-- one event more
step_clocks : (clocks : ℕ → ℕ) (place : ℕ) (e : Event) → IsBoundaryEvent e → clocks_after clocks place e ≡ clocks
step_clocks clocks place (event.Touch writes phase round access element newest) s = absurd s
step_clocks clocks place (event.Assigned entity) s = absurd s
step_clocks clocks place event.ArmBegins s = refl
step_clocks clocks place event.ArmEnds s = refl
step_clocks clocks place event.Begins s = refl
step_clocks clocks place event.Next s = refl
step_clocks clocks place event.Ends s = refl

step_read : (known : List Structure) (clocks : ℕ → ℕ) (e : Event) → IsBoundaryEvent e → IsRead known clocks e
step_read known clocks (event.Touch writes phase round access element newest) s = absurd s
step_read known clocks (event.Assigned entity) s = absurd s
step_read known clocks event.ArmBegins s = tt
step_read known clocks event.ArmEnds s = tt
step_read known clocks event.Begins s = tt
step_read known clocks event.Next s = tt
step_read known clocks event.Ends s = tt

quiet : (old : Notes) (events : Vec Event Global) (e : Event) → ((clocks : ℕ → ℕ) (place : ℕ) → clocks_after clocks place e ≡ clocks) → IsRead old.structures (table_at old.clocks.items) e
    → events.items ≡ old.events.items ++ e ∷ [] → StaysRead old (with_events old events)
quiet old events e still read is = record {
  extends = extends_same old.structures;
  clocks = refl;
  noted = λ i. record {
    clocks = i.clocks ∙ (sym (clocks_more no_clocks 0 old.events.items e ∙ still (clocks_from no_clocks 0 old.events.items) (0 + length old.events.items)) ∙ ap (clocks_from no_clocks 0) (sym is));
    reads = subst (AreReads old.structures no_clocks 0) (sym is) (reads_more old.structures no_clocks 0 old.events.items e i.reads (subst (λ (c : ℕ → ℕ). IsRead old.structures c e) i.clocks read));
  };
}

pub step_noted : (old : Notes) (events : Vec Event Global) (e : Event) → events.items ≡ old.events.items ++ e ∷ [] → IsBoundaryEvent e → StaysRead old (with_events old events)
step_noted old events e is s = quiet old events e (λ clocks place. step_clocks clocks place e s) (step_read old.structures (table_at old.clocks.items) e s) is

pub touch_noted : (old : Notes) (events : Vec Event Global) (e : Event) → events.items ≡ old.events.items ++ e ∷ [] → IsTouch old e → StaysRead old (with_events old events)
touch_noted old events (event.Touch writes phase round access element newest) is r = quiet old events (event.Touch writes phase round access element newest) (λ clocks place. refl) r is
touch_noted old events (event.Assigned entity) is r = absurd r
touch_noted old events event.ArmBegins is r = absurd r
touch_noted old events event.ArmEnds is r = absurd r
touch_noted old events event.Begins is r = absurd r
touch_noted old events event.Next is r = absurd r
touch_noted old events event.Ends is r = absurd r

-- an assignment more
pub assigned_noted : (old : Notes) (events : Vec Event Global) (clocks : Vec ℕ Global) (entity : Option ℕ) → events.items ≡ old.events.items ++ event.Assigned entity ∷ []
    → table_at clocks.items ≡ moment_assigned_at (table_at old.clocks.items) (length old.events.items + 1) entity → StaysNoted old (record { events = events; structures = old.structures; clocks = clocks })
assigned_noted old events clocks entity is set = record {
  extends = extends_same old.structures;
  noted = λ i. record {
    clocks =
        set ∙ (ap (λ f. moment_assigned_at f (length old.events.items + 1) entity) i.clocks
        ∙ (ap (λ n. moment_assigned_at (clocks_from no_clocks 0 old.events.items) n entity) (from_none (length old.events.items))
        ∙ (sym (clocks_more no_clocks 0 old.events.items (event.Assigned entity)) ∙ ap (clocks_from no_clocks 0) (sym is))));
    reads = subst (AreReads old.structures no_clocks 0) (sym is) (reads_more old.structures no_clocks 0 old.events.items (event.Assigned entity) i.reads tt);
  };
}
  where
    from_none : (n : ℕ) → n + 1 ≡ 0 + n + 1
    from_none n = omega arith

-- Elements.

pub element_known : (known : List Structure) (clocks : ℕ → ℕ) (ts : Terms) (k : Known) → AreKnown known clocks ts k → IsElement known clocks (with_indices ts) k.structure k.newest
element_known known clocks ts k i = record { number = by k.structure i.number; newest = i.newest }
  where
    by : (o : Option ℕ) → IsNumberOf (λ n. DescribesAll known n) AnyNameless o ts → IsNumberOf (λ n. DescribesElement known n) ElementNameless o (with_indices ts)
    by None d = d
    by (Some n) d = d

moved : (known : List Structure) (f g : ℕ → ℕ) (d e : Element) (s : Option ℕ) (m : ℕ) → f ≡ g → d ≡ e → IsElement known f d s m → IsElement known g e s m
moved known f g d e s m x y i = subst (λ (c : ℕ → ℕ). IsElement known c e s m) x (subst (λ (z : Element). IsElement known f z s m) y i)

-- a read of an element behind what its indices read
pub read_stays : (old mid new : Notes) (f : TermForm) (e : Element) (s : Option ℕ) (m : ℕ) → StaysRead old mid → element_in f ≡ e → IsElement mid.structures (table_at old.clocks.items) e s m
    → (IsElement mid.structures (table_at mid.clocks.items) (element_in f) s m → StaysRead mid new) → StaysRead old new
read_stays old mid new f e s m first is known second = stays_both old mid new first (second (moved mid.structures (table_at old.clocks.items) (table_at mid.clocks.items) e (element_in f) s m (sym first.clocks) (sym is) known))

pub read_element : (old mid new : Notes) (f : TermForm) (e : Element) (s : Option ℕ) (m : ℕ) → StaysRead old mid → element_in f ≡ e → IsElement mid.structures (table_at old.clocks.items) e s m
    → (IsElement mid.structures (table_at mid.clocks.items) (element_in f) s m → StaysRead mid new) → IsElement new.structures (table_at old.clocks.items) (element_in f) s m
read_element old mid new f e s m first is known second =
    let there = moved mid.structures (table_at old.clocks.items) (table_at mid.clocks.items) e (element_in f) s m (sym first.clocks) (sym is) known in
    is_element_still mid.structures new.structures (second there).extends (table_at old.clocks.items) (element_in f) s m
    (moved mid.structures (table_at old.clocks.items) (table_at old.clocks.items) e (element_in f) s m refl (sym is) known)

-- What is known stays known.

pub known_still : (old new : List Structure) (f g : ℕ → ℕ) (t : Term) (k : Known) → f ≡ g → ExtendsStructures old new → IsKnown old f t k → IsKnown new g t k
known_still old new f g t k e more i = subst (λ (c : ℕ → ℕ). IsKnown new c t k) e (record { number = by k.structure i.number; newest = i.newest })
  where
    by : (o : Option ℕ) → IsNumberOf (λ n. Describes old n) IsNameless o t → IsNumberOf (λ n. Describes new n) IsNameless o t
    by None d = d
    by (Some n) d = describes_still old new more n t d

are_still : (old new : List Structure) → ExtendsStructures old new → (clocks : ℕ → ℕ) (ts : Terms) (k : Known) → AreKnown old clocks ts k → AreKnown new clocks ts k
are_still old new more clocks ts k i = record { number = by k.structure i.number; newest = i.newest }
  where
    by : (o : Option ℕ) → IsNumberOf (λ n. DescribesAll old n) AnyNameless o ts → IsNumberOf (λ n. DescribesAll new n) AnyNameless o ts
    by None d = d
    by (Some n) d = from_still old new more None ts n d

pub so_far_still : (old new : List Structure) → ExtendsStructures old new → (clocks : ℕ → ℕ) (ts : Terms) (o : Option Known) → AreKnownSoFar old clocks ts o → AreKnownSoFar new clocks ts o
so_far_still old new more clocks ts None i = i
so_far_still old new more clocks no_terms (Some k) i = i
so_far_still old new more clocks (term_then t ts) (Some k) i = are_still old new more clocks (term_then t ts) k i

so_far_behind : (known : List Structure) (clocks : ℕ → ℕ) (ts : Terms) (u : Term) (k : Known) → AreKnown known clocks (terms_behind ts u) k → AreKnownSoFar known clocks (terms_behind ts u) (Some k)
so_far_behind known clocks no_terms u k i = i
so_far_behind known clocks (term_then t ts) u k i = i

behind_taken : (xs : List Expr) (x : Expr) → terms (map term_seen (xs ++ x ∷ [])) ≡ terms_behind (terms (map term_seen xs)) (term_seen x)
behind_taken [] x = refl
behind_taken (y ∷ xs) x = ap (λ ts. term_then (term_seen y) ts) (behind_taken xs x)

take_more : (xs : List Expr) (k : ℕ) (d : Expr) → k < length xs → take (suc k) xs ≡ take k xs ++ get_or xs k d ∷ []
take_more [] k d within = absurd (none k within)
  where
    none : (n : ℕ) → n < 0 → ⊥
    none n e = omega (arith, e)
take_more (x ∷ xs) zero d within = refl
take_more (x ∷ xs) (suc k) d within = ap (λ l. x ∷ l) (take_more xs k d (omega (arith, within)))

take_end : (xs : List Expr) (i : ℕ) → length xs ≤ i → take i xs ≡ xs
take_end [] zero e = refl
take_end [] (suc i) e = refl
take_end (x ∷ xs) zero e = absurd (none (length xs) e)
  where
    none : (n : ℕ) → suc n ≤ 0 → ⊥
    none n e = omega (arith, e)
take_end (x ∷ xs) (suc i) e = ap (λ l. x ∷ l) (take_end xs i (omega (arith, e)))

-- of one more index
pub so_far_taken : (known : List Structure) (clocks : ℕ → ℕ) (xs : List Expr) (i : ℕ) (x : Expr) (k : Known) → i < length xs → x ≡ get_or xs i x
    → AreKnown known clocks (terms_behind (terms (map term_seen (take i xs))) (term_seen x)) k → AreKnownSoFar known clocks (terms (map term_seen (take (i + 1) xs))) (Some k)
so_far_taken known clocks xs i x k within is h =
    subst (λ (l : List Expr). AreKnownSoFar known clocks (terms (map term_seen l)) (Some k)) (sym (ap (λ n. take n xs) (add-one i) ∙ (take_more xs i x within ∙ ap (λ y. take i xs ++ y ∷ []) (sym is))))
    (subst (λ (ts : Terms). AreKnownSoFar known clocks ts (Some k)) (sym (behind_taken (take i xs) x)) (so_far_behind known clocks (terms (map term_seen (take i xs))) (term_seen x) k h))

-- where nothing is known there was no index
pub none_known : (known : List Structure) (clocks : ℕ → ℕ) (xs : List Expr) (i : ℕ) (o : Option Known) → length xs ≤ i → o ≡ None → AreKnownSoFar known clocks (terms (map term_seen (take i xs))) o → terms (map term_seen xs) ≡ no_terms
none_known known clocks xs i o end none h = ap (λ l. terms (map term_seen l)) (sym (take_end xs i end)) ∙ subst (λ (p : Option Known). AreKnownSoFar known clocks (terms (map term_seen (take i xs))) p) none h

-- the reads of one more index
pub index_noted : (site : Site) (n m : List PortEvent) (all : List PortEvent) (rest more : List Expr) (x : Expr) → rest ≡ x ∷ more → m ≡ n ++ term_incidents site (term_seen x)
    → n ++ terms_incidents site (terms (map term_seen rest)) ≡ all → m ++ terms_incidents site (terms (map term_seen more)) ≡ all
index_noted site n m all rest more x is noted before =
    ap (λ l. l ++ terms_incidents site (terms (map term_seen more))) noted
    ∙ (append_assoc n (term_incidents site (term_seen x)) (terms_incidents site (terms (map term_seen more))) ∙ (ap (λ l. n ++ terms_incidents site (terms (map term_seen l))) (sym is) ∙ before))

-- Accesses in a list by their numbers. One gets its operations once, and then is as it stands; what its reads give
-- is noted behind. All others stay as they are.
use Rattle.std.proofs.Common.{◌≡◌, ℕ, ◌<◌, ◌≤◌, ◌⊎◌, inl, inr, ⊎_elim, Bool, true, false, List, [], ◌∷◌, Some, None, refl, sym, ap, ◌∙◌, subst, arith, length, drop}
use Rattle.std.specs.Prelude.{◌++◌, ◌==◌, if◌then◌else◌, slice_get, slice_set, slice_index_or, Option}
use Rattle.std.proofs.lemmas.Bool.{cases_eq, cases_lt}
use Rattle.std.proofs.lemmas.Bool.Decides.{nat_tests}
use Rattle.std.proofs.lemmas.Option.{slice_get_past, get_or_from_slice_get}
use Rattle.dh_base.specs.declared.outcomes.FaultKind.{FaultKind}
use Rattle.dh_base.specs.declared.outcomes.FaultKind.TheVariants.{OutOfRange}
use Rattle.dh_base.specs.declared.places.Place.{Place}
use Rattle.dh_plan.specs.declared.operations.Operation.{Operation}
use Rattle.dh_plan.specs.Blocks.{block_events}
use Rattle.dh_expressions.specs.declared.accesses.Accesses.{Accesses}
use Rattle.dh_expressions.specs.declared.accesses.Touched.{Touched}
use Rattle.dh_expressions.specs.declared.copies.AccessAt.{AccessAt}
use Rattle.dh_expressions.specs.declared.drafts.Draft.{Draft}
use Rattle.dh_expressions.specs.declared.scenes.Around.{Around}
use Rattle.dh_expressions.specs.declared.scenes.Scene.{Scene}
use Rattle.dh_expressions.specs.Copying.{AddsAllCopies, AreCopies, AreNone}
use Rattle.dh_expressions.specs.Drafted.{BlockBegun, Extends, FitsStep, AddsRangeFault, BlockStep, word_shown, tale, told_block}
use Rattle.dh_expressions.specs.Evaluated.{Knows, View}
use Rattle.dh_expressions.specs.Noted.{Notes, given_in, given_then, given_to, has_no_operations, is_bare_of, noted_in, touched_in, touched_of}
use Rattle.dh_expressions.specs.Standings.{IsTouched, AccessStanding, copy_places}
use Rattle.dh_expressions.specs.Touching.{AddsTouched, IsNew, MakesCopies, TouchesAt}
use Rattle.dh_expressions.proofs.ListPlaces.{place_of_more, place_within, set_here, set_long, set_other, some_same, there}
use Rattle.dh_expressions.proofs.Pushing.{at_seam, begun_later, extends_again, extends_self, in_front}

-- A fault that is named.

pub named_extends : (d e : Draft) (number : ℕ) (place : Place) → AddsRangeFault d e number place → Extends d e
named_extends d e number place h = record {
  operations = λ n o at. subst (λ (os : List Operation). slice_get os n ≡ Some o) (sym h.operations) at;
  faults = λ n k at. subst (λ (fs : List (FaultKind × Place)). slice_get fs n ≡ Some k) (sym h.faults) (in_front d.faults _ n k at);
  longer = let l : length e.operations.items ≡ length d.operations.items = ap (λ (os : List Operation). length os) h.operations in omega (arith, l);
}

named_quiet : (d e : Draft) (number : ℕ) (place : Place) → AddsRangeFault d e number place → (x : BlockStep) → tale x e ≡ tale x d
named_quiet d e number place h x = ap (λ (os : List Operation). told_block x.named (block_events x.start x.first x.words (drop x.first os))) h.operations

-- the plan has the fault under the number that was given
named_there : (d e k : Draft) (number : ℕ) (place : Place) → AddsRangeFault d e number place → Extends e k → (x : BlockStep) → FitsStep x k → slice_get x.named number ≡ Some (OutOfRange, place)
named_there d e k number place h more x f =
    ap (λ n. slice_get x.named n) (h.number_is (let w = place_within x.named (length d.faults) (OutOfRange, place) found in let l = f.few in omega (arith, w, l))) ∙ found
  where
    found : slice_get x.named (length d.faults) ≡ Some (OutOfRange, place)
    found = f.names (length d.faults) (OutOfRange, place)
        (more.faults (length d.faults) (OutOfRange, place)
        (subst (λ (fs : List (FaultKind × Place)). slice_get fs (length d.faults) ≡ Some (OutOfRange, place)) (sym h.faults) (at_seam d.faults (OutOfRange, place))))

-- Operations of an access.

pub bare_within : (a : Accesses) (number : ℕ) → has_no_operations a number ≡ true → number < length a.touched.items
bare_within a number e = by (slice_get a.touched.items number) refl e
  where
    by : (o : Option (Option Touched)) → slice_get a.touched.items number ≡ o → is_bare_of o ≡ true → number < length a.touched.items
    by None is e = absurd (cc)
    by (Some t) is e = place_within a.touched.items number t is

pub touched_already : (scene : Scene) (around : Around) (s : AccessStanding) (d : Draft) (a : Accesses) (number : ℕ) → has_no_operations a number ≡ false → TouchesAt scene around s d d a a number
touched_already scene around s d a number e = record {
  adds = inl refl;
  fresh = inl refl;
  extends = extends_self d;
  quiet = λ x f b. refl;
  long = refl;
  kept = λ m t is. is;
  there = λ within. by (slice_get a.touched.items number) refl within e;
  known = λ m t is. inl is;
  none = λ h. h;
}
  where
    by : (o : Option (Option Touched)) → slice_get a.touched.items number ≡ o → number < length a.touched.items → is_bare_of o ≡ false → (t : Touched) × (touched_of o ≡ Some t)
    by None is within e = absurd (lost (there a.touched.items number within))
      where
        lost : (t : Option Touched) × (slice_get a.touched.items number ≡ Some t) → ⊥
        lost p = let q : Some p.0 ≡ None = sym p.1 ∙ is in cc
    by (Some None) is within e = absurd (cc)
    by (Some (Some t)) is within e = (t, refl)

pub touched_first : (scene : Scene) (around : Around) (s : AccessStanding) (d e k : Draft) (before after : Accesses) (number fault : ℕ) (copies : List AccessAt) (numbers : List ℕ) (t : Touched)
    → has_no_operations before number ≡ true → AddsRangeFault d e fault s.place → MakesCopies e k scene around numbers s copies
    → t.fault ≡ fault → t.copies ≡ copies → t.given ≡ [] → after.touched.items ≡ slice_set before.touched.items number (Some t) → after.counts.items ≡ numbers
    → TouchesAt scene around s d k before after number
touched_first scene around s d e k before after number fault copies numbers t bare named made fault_is copies_are given_none put counts = record {
  adds = inr (t, added);
  fresh = inr bare;
  extends = extends_again d e k (named_extends d e fault s.place named) made.extends;
  quiet = λ x f b. made.quiet x f (begun_later d e x (named_extends d e fault s.place named) b) ∙ named_quiet d e fault s.place named x;
  long = ap length put ∙ set_long before.touched.items number (Some t);
  kept = λ m u there. by_place m (λ same. absurd (gone m u same there)) (λ other. ap touched_of (place_other m other) ∙ there);
  there = λ within. (t, ap touched_of here);
  known = λ m u there. ⊎_elim (λ same. inr (newest m u same there)) (λ other. inl (sym (ap touched_of (place_other m other)) ∙ there)) (cases_eq m number);
  none = λ h. subst (λ (ns : List ℕ). AreNone ns) (sym counts) made.none;
}
  where
    added : AddsTouched d k scene around s t
    added = record {
      middle = e;
      names = subst (λ (n : ℕ). AddsRangeFault d e n s.place) (sym fault_is) named;
      copies = λ scopes low. subst (λ (cs : List AccessAt). AddsAllCopies s.leader s.bank (copy_places s) s.guards e k cs) (sym copies_are) (made.adds scopes low);
    }

    within : number < length before.touched.items
    within = bare_within before number bare

    here : slice_get after.touched.items number ≡ Some (Some t)
    here = ap (λ os. slice_get os number) put ∙ set_here before.touched.items number (Some t) within

    place_other : (m : ℕ) → (m ≡ number → ⊥) → slice_get after.touched.items m ≡ slice_get before.touched.items m
    place_other m other = ap (λ os. slice_get os m) put ∙ set_other before.touched.items number m (Some t) other

    by_place : {A : Type 0} (m : ℕ) → (m ≡ number → A) → ((m ≡ number → ⊥) → A) → A
    by_place m f g = ⊎_elim f g (cases_eq m number)

    gone : (m : ℕ) (u : Touched) → m ≡ number → touched_in before m ≡ Some u → ⊥
    gone m u same there = by (slice_get before.touched.items number) bare (sym (ap (λ n. touched_of (slice_get before.touched.items n)) same) ∙ there)
      where
        by : (o : Option (Option Touched)) → is_bare_of o ≡ true → touched_of o ≡ Some u → ⊥
        by None e f = cc
        by (Some None) e f = cc
        by (Some (Some t)) e f = cc

    newest : (m : ℕ) (u : Touched) → m ≡ number → touched_in after m ≡ Some u → IsNew d k scene around s number m u
    newest m u same there =
        let own : u ≡ t = some_same u t (sym there ∙ (ap (λ n. touched_of (slice_get after.touched.items n)) same ∙ ap touched_of here)) in
        record {
          adds = subst (λ (v : Touched). AddsTouched d k scene around s v) (sym own) added;
          own = same;
          none = ap (λ (v : Touched). v.given) own ∙ given_none;
          is = λ scopes low x f b. subst (λ (v : Touched). IsTouched x s v) (sym own) (record {
            fault = ap (λ n. slice_get x.named n) fault_is ∙ named_there d e k fault s.place named made.extends x f;
            copies = subst (λ (cs : List AccessAt). AreCopies x s.leader s.bank (copy_places s) s.guards (length s.guards) cs) (sym copies_are)
                (made.are scopes low x f (begun_later d e x (named_extends d e fault s.place named) b));
          });
        }

-- what was known stays known
pub touched_knows : (scene : Scene) (around : Around) (s : AccessStanding) (d k : Draft) (before after : Accesses) (number : ℕ) (v : View)
    → TouchesAt scene around s d k before after number → FitsStep v.step k → BlockBegun v.step d
    → ((m : ℕ) (t : Touched) → IsNew d k scene around s number m t → (o : AccessStanding) → slice_get v.reads.sites m ≡ Some o → IsTouched v.step o t)
    → Knows v before → Knows v after
touched_knows scene around s d k before after number v t f b new known = record {
  given = λ m path n is done. known.given m path n (given_before m path n is) done;
  long = t.long ∙ known.long;
  touched = λ m u is o site. ⊎_elim (λ old. known.touched m u old o site) (λ fresh. new m u fresh o site) (t.known m u is);
  none = t.none known.none;
}
  where
    given_before : (m path n : ℕ) → given_in after m path ≡ Some n → given_in before m path ≡ Some n
    given_before m path n is = by (touched_in after m) refl is
      where
        lost : (i : ℕ) → slice_get [] i ≡ Some n → ⊥
        lost i e = cc

        by : (o : Option Touched) → touched_in after m ≡ o → given_to o path ≡ Some n → given_in before m path ≡ Some n
        by None e is = absurd (cc)
        by (Some u) e is = ⊎_elim (λ old. ap (λ p. given_to p path) old ∙ is) (λ fresh. absurd (lost path (sym (ap (λ g. slice_get g path) fresh.none) ∙ is))) (t.known m u e)

-- What a read gives.

pub given_known : (given : List ℕ) (path value q n : ℕ) → slice_get (given_then given path value) q ≡ Some n → (slice_get given q ≡ Some n) ⊎ ((q ≡ path) × (n ≡ value))
given_known given path value q n is = by (length given == path) refl is
  where
    by : (t : Bool) → (length given == path) ≡ t → slice_get (if t then given ++ value ∷ [] else given) q ≡ Some n → (slice_get given q ≡ Some n) ⊎ ((q ≡ path) × (n ≡ value))
    by false e is = inl is
    by true e is = ⊎_elim inl (λ p. inr (p.0 ∙ let same : length given ≡ path = grind (arith, nat_tests, e) in same, p.1)) (place_of_more given value n q is)

pub noted_given : (o : Option Touched) (path value q n : ℕ) → given_to (noted_in o path value) q ≡ Some n → (given_to o q ≡ Some n) ⊎ ((q ≡ path) × (n ≡ value))
noted_given None path value q n is = absurd (cc)
noted_given (Some t) path value q n is = given_known t.given path value q n is

pub noted_touched : (o : Option Touched) (path value : ℕ) (u : Touched) → noted_in o path value ≡ Some u → (t : Touched) × ((o ≡ Some t) × ((t.fault ≡ u.fault) × (t.copies ≡ u.copies)))
noted_touched None path value u is = absurd (cc)
noted_touched (Some t) path value u is = (t, (refl, (ap (λ (v : Touched). v.fault) same, ap (λ (v : Touched). v.copies) same)))
  where
    same : record { fault = t.fault; copies = t.copies; given = given_then t.given path value } ≡ u
    same = some_same _ u is

module _ (before after : Accesses) (number path value : ℕ) (h : Notes before after number path value) where
  pub place_noted : (m : ℕ) → (touched_in after m ≡ touched_in before m) ⊎ ((m ≡ number) × (touched_in after m ≡ noted_in (touched_in before m) path value))
  place_noted m = ⊎_elim own (λ other. inl (ap (λ os. touched_of (slice_get os m)) h.touched ∙ ap touched_of (set_other before.touched.items number m _ other))) (cases_eq m number)
    where
      within_or_past : (number < length before.touched.items) ⊎ (length before.touched.items ≤ number) → m ≡ number
          → (touched_in after m ≡ touched_in before m) ⊎ ((m ≡ number) × (touched_in after m ≡ noted_in (touched_in before m) path value))
      within_or_past (inl within) same =
          let found = there before.touched.items number within in
          inr (
            same,
            ap (λ os. touched_of (slice_get os m)) h.touched
                ∙ (ap (λ n. touched_of (slice_get (slice_set before.touched.items number (noted_in (slice_index_or before.touched.items number None) path value)) n)) same
                ∙ (ap touched_of (set_here before.touched.items number (noted_in (slice_index_or before.touched.items number None) path value) within)
                ∙ (ap (λ o. noted_in o path value) (get_or_from_slice_get before.touched.items number found.0 None found.1)
                ∙ ap (λ o. noted_in (touched_of o) path value) (sym found.1 ∙ ap (λ n. slice_get before.touched.items n) (sym same))))),
          )
      within_or_past (inr past) same =
          inl (ap (λ n. touched_of (slice_get after.touched.items n)) same
          ∙ (ap touched_of (slice_get_past after.touched.items number (subst (λ (l : ℕ). l ≤ number) (sym long) past))
          ∙ sym (ap (λ n. touched_of (slice_get before.touched.items n)) same ∙ ap touched_of (slice_get_past before.touched.items number past))))
        where
          long : length after.touched.items ≡ length before.touched.items
          long = ap length h.touched ∙ set_long before.touched.items number _

      own : m ≡ number → (touched_in after m ≡ touched_in before m) ⊎ ((m ≡ number) × (touched_in after m ≡ noted_in (touched_in before m) path value))
      own same = within_or_past (cases_lt number (length before.touched.items)) same

  pub noted_knows : (v : View) → (v.reads.done number path ≡ true → word_shown v.step value ≡ v.reads.means number path) → Knows v before → Knows v after
  noted_knows v means known = record {
    given = λ m q n is done. given_now m q n (place_noted m) is done;
    long = ap length h.touched ∙ (set_long before.touched.items number _ ∙ known.long);
    touched = λ m u is s site. touched_now m u (place_noted m) is s site;
    none = subst (λ (ns : List ℕ). AreNone ns) (sym h.counts) known.none;
  }
    where
      given_now : (m q n : ℕ) → (touched_in after m ≡ touched_in before m) ⊎ ((m ≡ number) × (touched_in after m ≡ noted_in (touched_in before m) path value))
          → given_in after m q ≡ Some n → v.reads.done m q ≡ true → word_shown v.step n ≡ v.reads.means m q
      given_now m q n (inl same) is done = known.given m q n (ap (λ o. given_to o q) (sym same) ∙ is) done
      given_now m q n (inr p) is done =
          ⊎_elim (λ old. known.given m q n old done)
          (λ new. ap (λ k. word_shown v.step k) new.1 ∙ (means (ap (λ k. v.reads.done number k) (sym new.0) ∙ (ap (λ k. v.reads.done k q) (sym p.0) ∙ done)) ∙ (ap (λ k. v.reads.means number k) (sym new.0) ∙ ap (λ k. v.reads.means k q) (sym p.0))))
          (noted_given (touched_in before m) path value q n (ap (λ o. given_to o q) (sym p.1) ∙ is))

      touched_now : (m : ℕ) (u : Touched) → (touched_in after m ≡ touched_in before m) ⊎ ((m ≡ number) × (touched_in after m ≡ noted_in (touched_in before m) path value))
          → touched_in after m ≡ Some u → (s : AccessStanding) → slice_get v.reads.sites m ≡ Some s → IsTouched v.step s u
      touched_now m u (inl same) is s site = known.touched m u (sym same ∙ is) s site
      touched_now m u (inr p) is s site =
          let old = noted_touched (touched_in before m) path value u (sym p.1 ∙ is) in
          let stood = known.touched m old.0 old.1.0 s site in
          record {
            fault = subst (λ (n : ℕ). slice_get v.step.named n ≡ Some (OutOfRange, s.place)) old.1.1.0 stood.fault;
            copies = subst (λ (cs : List AccessAt). AreCopies v.step s.leader s.bank (copy_places s) s.guards (length s.guards) cs) old.1.1.1 stood.copies;
          }

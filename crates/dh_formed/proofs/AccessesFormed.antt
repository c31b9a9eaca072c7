-- What is noted of accesses stays of the block: when operations are added, when an access gets its copies, and when
-- a read has given a value.
use Rattle.std.proofs.Common.{◌≡◌, ℕ, ◌+◌, ◌^◌, ◌<◌, ◌≤◌, ◌⊎◌, inl, inr, ⊎_elim, List, Some, None, refl, sym, ap, ◌∙◌, subst, arith, length}
use Rattle.std.specs.Prelude.{[], slice_get, Option}
use Rattle.std.proofs.lemmas.List.{length-append}
use Rattle.dh_base.specs.declared.outcomes.FaultKind.{FaultKind}
use Rattle.dh_base.specs.declared.places.Place.{Place}
use Rattle.dh_meaning.specs.Effects.{kind_in}
use Rattle.dh_plan.specs.declared.operations.Operation.{Operation}
use Rattle.dh_expressions.specs.declared.accesses.Accesses.{Accesses}
use Rattle.dh_expressions.specs.declared.accesses.Touched.{Touched}
use Rattle.dh_expressions.specs.declared.copies.AccessAt.{AccessAt}
use Rattle.dh_expressions.specs.declared.drafts.Draft.{Draft}
use Rattle.dh_expressions.specs.declared.scenes.Around.{Around}
use Rattle.dh_expressions.specs.declared.scenes.Lane.{Lane}
use Rattle.dh_expressions.specs.declared.scenes.Scene.{Scene}
use Rattle.dh_expressions.specs.Copying.{AreNone, HasScopes}
use Rattle.dh_expressions.specs.Drafted.{Extends}
use Rattle.dh_formed.specs.Formed.{Agrees, FormedBlock, Forms, HasKind, IsLaidAccess, IsLaidCopy, AreNotedReads, IsScope, BlockSite, Started}
use Rattle.dh_expressions.specs.Noted.{Notes, given_in, given_to, noted_in, touched_in}
use Rattle.dh_expressions.specs.Standings.{AccessStanding, copy_places}
use Rattle.dh_expressions.specs.Touching.{AddsTouched, IsNew, TouchesAt}
use Rattle.dh_expressions.proofs.AccessesKept.{named_extends, noted_given, noted_touched, place_noted}
use Rattle.dh_formed.proofs.CopiesFormed.{AreGuards, FormsCopies, copies_forms, guard_later}
use Rattle.dh_expressions.proofs.ListPlaces.{place_within, set_long, some_same}
use Rattle.dh_formed.proofs.ValuesFormed.{faults_fewer, forms_again, forms_none, kind_later, started_later}

-- Operations are added.

pub laid_later : (x : FormedBlock) (old new : Draft) (s : AccessStanding) (t : Touched) → Extends old new → IsLaidAccess x old s t → IsLaidAccess x new s t
laid_later x old new s t e h = record {
  fault = let f = faults_fewer old new e in let b = h.fault in omega (arith, f, b);
  long = h.long;
  each = λ path c at. let k = h.each path c at in record { leader_is = k.leader_is; bank_is = k.bank_is; place_is = k.place_is; guard = guard_later x old new c.guard e k.guard };
}

pub noted_later : (x : FormedBlock) (old new : Draft) (a : Accesses) → Extends old new → AreNotedReads x old a → AreNotedReads x new a
noted_later x old new a e h = record {
  given = λ number path value s site is. kind_later x old new _ value e (h.given number path value s site is);
  laid = λ number t s site is. laid_later x old new s.standing t e (h.laid number t s site is);
  there = h.there;
  none = h.none;
}

pub scope_later : (x : FormedBlock) (old new : Draft) (scene : Scene) (lane : Lane) (current : List (Option ℕ)) → Extends old new → IsScope x old scene lane current → IsScope x new scene lane current
scope_later x old new scene lane current e h = record {
  guards = λ path guard at. guard_later x old new guard e (h.guards path guard at);
  given = λ register value at. kind_later x old new _ value e (h.given register value at);
  scopes = h.scopes;
  low = h.low;
  few = h.few;
  within = h.within;
}

-- An access gets its copies.

pub record FormsTouch (x : FormedBlock) (old new : Draft) (after : Accesses) (s : AccessStanding) (number : ℕ) : Type 0 where
  pub forms : Forms x old new
  pub notes : AreNotedReads x new after
  pub touched : Touched
  pub there : touched_in after number ≡ Some touched

module _ (x : FormedBlock) (scene : Scene) (around : Around) (s : AccessStanding) (old new : Draft) (before after : Accesses) (number : ℕ)
    (low : (p : ℕ) → s.leader p ≤ p) (few : length s.guards < 2 ^ 64) (scopes : HasScopes scene) (flat : length around.levels.now < 2 ^ 63)
    (t : TouchesAt scene around s old new before after number) (agrees : Agrees x new) (started : Started x old) (guards : AreGuards x old s.guards) where
  -- of a new one all is formed, and it is laid
  module _ (u : Touched) (a : AddsTouched old new scene around s u) where
    copies : FormsCopies s.leader s.bank (copy_places s) s.guards low (length s.guards) a.middle new u.copies
    copies = copies_forms s.leader s.bank (copy_places s) s.guards low (length s.guards) a.middle new u.copies (a.copies scopes flat)

    named : Extends old a.middle
    named = named_extends old a.middle u.fault s.place a.names

    guards_there : AreGuards x a.middle s.guards
    guards_there path guard at = guard_later x old a.middle guard named (guards path guard at)

    still : Forms x old a.middle
    still = record { each = λ n o far at. absurd (never n o far at) }
      where
        never : (n : ℕ) (o : Operation) → length old.operations.items ≤ n → slice_get a.middle.operations.items n ≡ Some o → ⊥
        never n o far at =
            let w = place_within a.middle.operations.items n o at in
            let l : length a.middle.operations.items ≡ length old.operations.items = ap (λ (os : List Operation). length os) a.names.operations in
            omega (arith, w, l, far)

    new_forms : Forms x old new
    new_forms = forms_again x old a.middle new copies.extends still (copies.forms x agrees (started_later x old a.middle named started) guards_there)

    fault_there : u.fault < length new.faults
    fault_there =
        let more : length a.middle.faults ≡ length old.faults + 1 = ap (λ (fs : List (FaultKind × Place)). length fs) a.names.faults ∙ length-append old.faults _ in
        let behind = faults_fewer a.middle new copies.extends in
        let most = agrees.faults in
        let all = agrees.few in
        let own = a.names.number_is (omega (arith, more, behind, most, all)) in
        omega (arith, own, more, behind)

    new_laid : IsLaidAccess x new s u
    new_laid = record {
      fault = fault_there;
      long = copies.long;
      each = λ path c at. record {
        leader_is = copies.leaders path c at;
        bank_is = copies.banks path c at;
        place_is = copies.places path c at;
        guard = copies.gives x agrees (started_later x old a.middle named started) guards_there path c at;
      };
    }

  touch_forms : Forms x old new
  touch_forms = by t.adds
    where
      by : (new ≡ old) ⊎ ((u : Touched) × AddsTouched old new scene around s u) → Forms x old new
      by (inl same) = forms_none x old new same
      by (inr h) = new_forms h.0 h.1

  given_before : (m path n : ℕ) → given_in after m path ≡ Some n → given_in before m path ≡ Some n
  given_before m path n is = by (touched_in after m) refl is
    where
      lost : (i : ℕ) → slice_get [] i ≡ Some n → ⊥
      lost i e = cc

      by : (o : Option Touched) → touched_in after m ≡ o → given_to o path ≡ Some n → given_in before m path ≡ Some n
      by None e is = absurd (cc)
      by (Some u) e is = ⊎_elim (λ old. ap (λ p. given_to p path) old ∙ is) (λ fresh. absurd (lost path (sym (ap (λ g. slice_get g path) fresh.none) ∙ is))) (t.known m u e)

  pub touch_notes : (memory : ℕ) → x.sites number ≡ Some (record { memory = memory; standing = s }) → AreNotedReads x old before → FormsTouch x old new after s number
  touch_notes memory site h = record {
    forms = touch_forms;
    notes = record {
      given = λ m path value o at is. kind_later x old new _ value t.extends (h.given m path value o at (given_before m path value is));
      laid = λ m u o at is. ⊎_elim (λ old_one. laid_later x old new o.standing u t.extends (h.laid m u o at old_one)) (λ fresh. laid_new m u o at fresh) (t.known m u is);
      there = λ m o at. subst (λ (l : ℕ). m < l) (sym t.long) (h.there m o at);
      none = t.none h.none;
    };
    touched = (t.there (h.there number (record { memory = memory; standing = s }) site)).0;
    there = (t.there (h.there number (record { memory = memory; standing = s }) site)).1;
  }
    where
      laid_new : (m : ℕ) (u : Touched) (o : BlockSite) → x.sites m ≡ Some o → IsNew old new scene around s number m u → IsLaidAccess x new o.standing u
      laid_new m u o at fresh =
          let own : record { memory = memory; standing = s } ≡ o = some_same (record { memory = memory; standing = s }) o (sym site ∙ (ap x.sites (sym fresh.own) ∙ at)) in
          subst (λ (w : BlockSite). IsLaidAccess x new w.standing u) own (new_laid u fresh.adds)

-- A read has given a value.
pub noted_notes : (x : FormedBlock) (d : Draft) (before after : Accesses) (number path value memory : ℕ) (s : AccessStanding) → Notes before after number path value
    → x.sites number ≡ Some (record { memory = memory; standing = s }) → HasKind x d (kind_in x.plan.table memory) value → AreNotedReads x d before → AreNotedReads x d after
noted_notes x d before after number path value memory s h site kind noted = record {
  given = λ m q n o at is. given_now m q n o at (place_noted before after number path value h m) is;
  laid = λ m u o at is. laid_now m u o at (place_noted before after number path value h m) is;
  there = λ m o at. subst (λ (l : ℕ). m < l) (sym (ap length h.touched ∙ set_long before.touched.items number _)) (noted.there m o at);
  none = subst (λ (ns : List ℕ). AreNone ns) (sym h.counts) noted.none;
}
  where
    own_kind : (m : ℕ) (o : BlockSite) → m ≡ number → x.sites m ≡ Some o → HasKind x d (kind_in x.plan.table o.memory) value
    own_kind m o same at =
        let own : record { memory = memory; standing = s } ≡ o = some_same (record { memory = memory; standing = s }) o (sym site ∙ (ap x.sites (sym same) ∙ at)) in
        subst (λ (w : BlockSite). HasKind x d (kind_in x.plan.table w.memory) value) own kind

    given_now : (m q n : ℕ) (o : BlockSite) → x.sites m ≡ Some o → (touched_in after m ≡ touched_in before m) ⊎ ((m ≡ number) × (touched_in after m ≡ noted_in (touched_in before m) path value))
        → given_in after m q ≡ Some n → HasKind x d (kind_in x.plan.table o.memory) n
    given_now m q n o at (inl same) is = noted.given m q n o at (ap (λ p. given_to p q) (sym same) ∙ is)
    given_now m q n o at (inr p) is =
        ⊎_elim (λ old. noted.given m q n o at old) (λ new. subst (λ (k : ℕ). HasKind x d (kind_in x.plan.table o.memory) k) (sym new.1) (own_kind m o p.0 at))
        (noted_given (touched_in before m) path value q n (ap (λ r. given_to r q) (sym p.1) ∙ is))

    laid_now : (m : ℕ) (u : Touched) (o : BlockSite) → x.sites m ≡ Some o → (touched_in after m ≡ touched_in before m) ⊎ ((m ≡ number) × (touched_in after m ≡ noted_in (touched_in before m) path value))
        → touched_in after m ≡ Some u → IsLaidAccess x d o.standing u
    laid_now m u o at (inl same) is = noted.laid m u o at (sym same ∙ is)
    laid_now m u o at (inr p) is =
        let old = noted_touched (touched_in before m) path value u (sym p.1 ∙ is) in
        let stood = noted.laid m old.0 o at old.1.0 in
        record {
          fault = subst (λ (n : ℕ). n < length d.faults) old.1.1.0 stood.fault;
          long = subst (λ (cs : List AccessAt). length cs ≡ length o.standing.guards) old.1.1.1 stood.long;
          each = subst (λ (cs : List AccessAt). (q : ℕ) (c : AccessAt) → slice_get cs q ≡ Some c → IsLaidCopy x d o.standing q c) old.1.1.1 stood.each;
        }

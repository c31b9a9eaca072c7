-- Copies that are formed: an access has its copies one after the other, each where it stands, and the guards that are
-- joined for leaders are truths of the block.
use Rattle.std.proofs.Common.{◌≡◌, ℕ, zero, suc, ◌+◌, ◌<◌, ◌≤◌, ◌⊎◌, inl, inr, List, Some, None, refl, sym, ap, ◌∙◌, subst, arith, length, add-one}
use Rattle.std.specs.Prelude.{[], ◌∷◌, ◌++◌, slice_get, Option}
use Rattle.std.proofs.lemmas.List.{length-append}
use Rattle.dh_value.specs.declared.kinds.Kind.TheVariants as kind
use Rattle.dh_value.specs.declared.operators.Op.TheVariants as op
use Rattle.dh_value.specs.Operations.{Suits}
use Rattle.dh_expressions.specs.declared.copies.AccessAt.{AccessAt}
use Rattle.dh_expressions.specs.declared.drafts.Draft.{Draft}
use Rattle.dh_expressions.specs.Copying.{AddsCopies, AddsCopy, AddsEither, AddsLeader, AddsOther, JoinsLeader}
use Rattle.dh_expressions.specs.Drafted.{Extends}
use Rattle.dh_formed.specs.Formed.{Agrees, FormedBlock, Forms, FormsValue, HasKind, IsGuard, Started}
use Rattle.dh_expressions.specs.Shown.{guard_of, guard_or_none}
use Rattle.dh_expressions.proofs.CopiesMade.{guard_long, guard_place}
use Rattle.dh_expressions.proofs.ListPlaces.{place_of_more, there}
use Rattle.dh_expressions.proofs.Pushing.{extends_again, extends_self}
use Rattle.dh_formed.proofs.ValuesFormed.{agrees_before, compute_forms, forms_again, forms_none, kind_later, started_later}

-- Guards.

pub guard_later : (x : FormedBlock) (old new : Draft) (guard : Option ℕ) → Extends old new → IsGuard x old guard → IsGuard x new guard
guard_later x old new None e h = tt
guard_later x old new (Some g) e h = kind_later x old new kind.Bool g e h

-- guards of a list are truths of the block
abbrev pub AreGuards : FormedBlock → Draft → List (Option ℕ) → Type 0
AreGuards x d guards = (path : ℕ) (guard : Option ℕ) → slice_get guards path ≡ Some guard → IsGuard x d guard

pub guard_there : (x : FormedBlock) (d : Draft) (guards : List (Option ℕ)) (path : ℕ) → AreGuards x d guards → IsGuard x d (guard_of guards path)
guard_there x d guards path all = by (slice_get guards path) refl
  where
    by : (o : Option (Option ℕ)) → slice_get guards path ≡ o → IsGuard x d (guard_or_none o)
    by None e = tt
    by (Some guard) e = all path guard e

-- a guard that is joined
record FormsGuard (old new : Draft) (one other joined : Option ℕ) : Type 0 where
  extends : Extends old new
  forms : (x : FormedBlock) → Agrees x new → Started x old → IsGuard x old one → IsGuard x old other → Forms x old new
  gives : (x : FormedBlock) → Agrees x new → Started x old → IsGuard x old one → IsGuard x old other → IsGuard x new joined

either_forms : (old new : Draft) (one other joined : Option ℕ) → AddsEither old new one other joined → FormsGuard old new one other joined
either_forms old new None other joined h = record {
  extends = subst (λ (d : Draft). Extends old d) (sym h.0) (extends_self old);
  forms = λ x a s f g. forms_none x old new h.0;
  gives = λ x a s f g. subst (λ (o : Option ℕ). IsGuard x new o) (sym h.1) tt;
}
either_forms old new (Some one) None joined h = record {
  extends = subst (λ (d : Draft). Extends old d) (sym h.0) (extends_self old);
  forms = λ x a s f g. forms_none x old new h.0;
  gives = λ x a s f g. subst (λ (o : Option ℕ). IsGuard x new o) (sym h.1) tt;
}
either_forms old new (Some one) (Some other) joined h = record {
  extends = c.extends;
  forms = λ x a s f g. c.forms x a s (tt, (f, g));
  gives = λ x a s f g. subst (λ (o : Option ℕ). IsGuard x new o) (sym h.1.0) (c.gives x a s (tt, (f, g)));
}
  where
    c : FormsValue old new h.0 (λ x. Suits op.Either kind.Bool kind.Bool × (HasKind x old kind.Bool one × HasKind x old kind.Bool other)) (λ x. kind.Bool)
    c = compute_forms old new h.0 one other op.Either kind.Bool kind.Bool h.1.1

-- The copies at the first n paths.
module _ (leader bank place : ℕ → ℕ) (guards : List (Option ℕ)) (low : (p : ℕ) → leader p ≤ p) where
  pub record FormsCopies (n : ℕ) (old new : Draft) (copies : List AccessAt) : Type 0 where
    pub extends : Extends old new
    pub long : length copies ≡ n
    pub leaders : (k : ℕ) (c : AccessAt) → slice_get copies k ≡ Some c → c.leader ≡ leader k
    pub banks : (k : ℕ) (c : AccessAt) → slice_get copies k ≡ Some c → c.bank ≡ bank k
    pub places : (k : ℕ) (c : AccessAt) → slice_get copies k ≡ Some c → c.place ≡ place k
    pub forms : (x : FormedBlock) → Agrees x new → Started x old → AreGuards x old guards → Forms x old new
    pub gives : (x : FormedBlock) → Agrees x new → Started x old → AreGuards x old guards → (k : ℕ) (c : AccessAt) → slice_get copies k ≡ Some c → IsGuard x new c.guard

  copies_none : (old new : Draft) (copies : List AccessAt) → new ≡ old → copies ≡ [] → FormsCopies 0 old new copies
  copies_none old new copies same none = record {
    extends = subst (λ (d : Draft). Extends old d) (sym same) (extends_self old);
    long = ap (λ (cs : List AccessAt). length cs) none;
    leaders = λ k c at. absurd (lost k c at);
    banks = λ k c at. absurd (lost k c at);
    places = λ k c at. absurd (lost k c at);
    forms = λ x a s g. forms_none x old new same;
    gives = λ x a s g k c at. absurd (lost k c at);
  }
    where
      nothing : (k : ℕ) (c : AccessAt) → slice_get [] k ≡ Some c → ⊥
      nothing k c e = cc

      lost : (k : ℕ) (c : AccessAt) → slice_get copies k ≡ Some c → ⊥
      lost k c at = nothing k c (sym (ap (λ cs. slice_get cs k) none) ∙ at)

  module _ (n : ℕ) (old d new : Draft) (cs copies : List AccessAt) (h : FormsCopies n old d cs) where
    abbrev placed : Option ℕ → AccessAt
    placed o = record { leader = leader n; bank = bank n; place = place n; guard = o }

    -- a place of the copies is one before, or the last
    module _ (front : List AccessAt) (long : length front ≡ n) (o : Option ℕ) (are : copies ≡ front ++ placed o ∷ []) where
      place_now : (k : ℕ) (c : AccessAt) → slice_get copies k ≡ Some c → (slice_get front k ≡ Some c) ⊎ ((k ≡ n) × (c ≡ placed o))
      place_now k c at = by (place_of_more front (placed o) c k (sym (ap (λ (l : List AccessAt). slice_get l k) are) ∙ at))
        where
          by : (slice_get front k ≡ Some c) ⊎ ((k ≡ length front) × (c ≡ placed o)) → (slice_get front k ≡ Some c) ⊎ ((k ≡ n) × (c ≡ placed o))
          by (inl e) = inl e
          by (inr p) = inr (p.0 ∙ long, p.1)

      long_now : length copies ≡ suc n
      long_now = ap (λ (l : List AccessAt). length l) are ∙ (length-append front _ ∙ (ap (λ m. m + 1) long ∙ add-one n))

      -- what holds of each copy before, and of this one, holds of each
      each_now : (P : ℕ → AccessAt → Type 0) → ((k : ℕ) (c : AccessAt) → slice_get front k ≡ Some c → P k c) → P n (placed o) → (k : ℕ) (c : AccessAt) → slice_get copies k ≡ Some c → P k c
      each_now P before last k c at = by (place_now k c at)
        where
          by : (slice_get front k ≡ Some c) ⊎ ((k ≡ n) × (c ≡ placed o)) → P k c
          by (inl e) = before k c e
          by (inr p) = subst (λ (m : ℕ). P m c) (sym p.0) (subst (λ (a : AccessAt). P n a) (sym p.1) last)

    leads_forms : AddsLeader d new cs copies n (leader n) (bank n) (place n) (guard_of guards n) → FormsCopies (suc n) old new copies
    leads_forms s = record {
      extends = subst (λ (k : Draft). Extends old k) (sym s.same) h.extends;
      long = long_now cs h.long (guard_of guards n) s.copies_are;
      leaders = each_now cs h.long (guard_of guards n) s.copies_are (λ k c. c.leader ≡ leader k) h.leaders refl;
      banks = each_now cs h.long (guard_of guards n) s.copies_are (λ k c. c.bank ≡ bank k) h.banks refl;
      places = each_now cs h.long (guard_of guards n) s.copies_are (λ k c. c.place ≡ place k) h.places refl;
      forms = λ x a st g. subst (λ (k : Draft). Forms x old k) (sym s.same) (h.forms x (before x a) st g);
      gives = λ x a st g. subst (λ (e : Draft). (k : ℕ) (c : AccessAt) → slice_get copies k ≡ Some c → IsGuard x e c.guard) (sym s.same)
          (each_now cs h.long (guard_of guards n) s.copies_are (λ k c. IsGuard x d c.guard) (h.gives x (before x a) st g) (guard_later x old d _ h.extends (guard_there x old guards n g)));
    }
      where
        before : (x : FormedBlock) → Agrees x new → Agrees x d
        before x a = subst (λ (k : Draft). Agrees x k) s.same a

    led_forms : AddsOther d new cs copies n (leader n) (bank n) (place n) (guard_of guards n) → FormsCopies (suc n) old new copies
    led_forms s = record {
      extends = extends_again old d new h.extends j.extends;
      long = long_now s.changed changed_long None s.copies_are;
      leaders = each_now s.changed changed_long None s.copies_are (λ k c. c.leader ≡ leader k) (changed_each (λ k c. c.leader ≡ leader k) h.leaders (λ a at. h.leaders (leader n) a at)) refl;
      banks = each_now s.changed changed_long None s.copies_are (λ k c. c.bank ≡ bank k) (changed_each (λ k c. c.bank ≡ bank k) h.banks (λ a at. h.banks (leader n) a at)) refl;
      places = each_now s.changed changed_long None s.copies_are (λ k c. c.place ≡ place k) (changed_each (λ k c. c.place ≡ place k) h.places (λ a at. h.places (leader n) a at)) refl;
      forms = λ x a st g.
          forms_again x old d new j.extends (h.forms x (before x a) st g) (join.forms x a (started_later x old d h.extends st) (leader_guard x a st g) (own_guard x g));
      gives = λ x a st g. each_now s.changed changed_long None s.copies_are (λ k c. IsGuard x new c.guard)
          (changed_each (λ k c. IsGuard x new c.guard) (λ k c at. guard_later x d new c.guard j.extends (h.gives x (before x a) st g k c at))
          (λ b at. join.gives x a (started_later x old d h.extends st) (leader_guard x a st g) (own_guard x g))) tt;
    }
      where
        j : JoinsLeader d new cs s.changed (leader n) (guard_of guards n)
        j = s.joins

        before : (x : FormedBlock) → Agrees x new → Agrees x d
        before x a = agrees_before x d new j.extends a

        changed_long : length s.changed ≡ n
        changed_long = ap (λ (l : List AccessAt). length l) j.changed_is ∙ (guard_long cs (leader n) j.joined ∙ h.long)

        earlier : leader n < length cs
        earlier = let l = low n in less (leader n) (length cs) l s.other h.long
          where
            less : (m l : ℕ) → m ≤ n → (m ≡ n → ⊥) → l ≡ n → m < l
            less m l few other long = omega (arith, few, other, long)

        led : (a : AccessAt) × (slice_get cs (leader n) ≡ Some a)
        led = there cs (leader n) earlier

        join : FormsGuard d new led.0.guard (guard_of guards n) j.joined
        join = either_forms d new led.0.guard (guard_of guards n) j.joined (j.joins led.0 led.1).adds

        leader_guard : (x : FormedBlock) → Agrees x new → Started x old → AreGuards x old guards → IsGuard x d led.0.guard
        leader_guard x a st g = h.gives x (before x a) st g (leader n) led.0 led.1

        own_guard : (x : FormedBlock) → AreGuards x old guards → IsGuard x d (guard_of guards n)
        own_guard x g = guard_later x old d _ h.extends (guard_there x old guards n g)

        -- what holds of each copy, and of the leader with its guard joined, holds of each changed one
        changed_each : (P : ℕ → AccessAt → Type 0) → ((k : ℕ) (c : AccessAt) → slice_get cs k ≡ Some c → P k c)
            → ((a : AccessAt) → slice_get cs (leader n) ≡ Some a → P (leader n) (record { leader = a.leader; bank = a.bank; place = a.place; guard = j.joined }))
            → (k : ℕ) (c : AccessAt) → slice_get s.changed k ≡ Some c → P k c
        changed_each P all one k c at = by (guard_place cs (leader n) k j.joined c (sym (ap (λ (l : List AccessAt). slice_get l k) j.changed_is) ∙ at))
          where
            by : ((slice_get cs k ≡ Some c) × (k ≡ leader n → ⊥)) ⊎ ((k ≡ leader n) × ((a : AccessAt) × ((slice_get cs (leader n) ≡ Some a) × (c ≡ record { leader = a.leader; bank = a.bank; place = a.place; guard = j.joined })))) → P k c
            by (inl p) = all k c p.0
            by (inr p) = subst (λ (m : ℕ). P m c) (sym p.0) (subst (λ (b : AccessAt). P (leader n) b) (sym p.1.1.1) (one p.1.0 p.1.1.0))

    copy_forms : AddsCopy d new cs copies n (leader n) (bank n) (place n) (guard_of guards n) → FormsCopies (suc n) old new copies
    copy_forms (inl s) = leads_forms s
    copy_forms (inr s) = led_forms s

  pub copies_forms : (n : ℕ) (old new : Draft) (copies : List AccessAt) → AddsCopies leader bank place guards n old new copies → FormsCopies n old new copies
  copies_forms zero old new copies m = copies_none old new copies m.0 m.1
  copies_forms (suc n) old new copies (d, (cs, (before, step))) = copy_forms n old d new cs copies (copies_forms n old d cs before) step

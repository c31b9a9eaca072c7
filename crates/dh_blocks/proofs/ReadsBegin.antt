-- At the begin of a block its reads are known: nothing is noted of its own accesses, and those of earlier blocks stand as
-- their copies say. And what is known at its end holds of all accesses with operations whatever the step.
use Rattle.std.proofs.Common.{◌≡◌, ◌⊎◌, inl, inr, ℕ, zero, suc, ◌+◌, ◌<◌, ◌≤◌, ◌==◌, Bool, true, false, List, [], ◌∷◌, ◌++◌, length, map, Option, Some, None, refl, ap, sym, ◌∙◌, subst, arith}
use Rattle.std.specs.Prelude.{slice_get}
use Rattle.std.proofs.lemmas.Bool.{cases_Bool, cases_lt, eq-eqb, eqb-true}
use Rattle.std.proofs.lemmas.List.{length-append, length-map}
use Rattle.dh_base.specs.declared.outcomes.FaultKind.{FaultKind}
use Rattle.dh_base.specs.declared.outcomes.FaultKind.TheVariants.{OutOfRange}
use Rattle.dh_base.specs.declared.places.Place.{Place}
use Rattle.dh_meaning.specs.Effects.{Variables}
use Rattle.dh_expressions.specs.declared.accesses.Accesses.{Accesses}
use Rattle.dh_expressions.specs.declared.accesses.Touched.{Touched}
use Rattle.dh_expressions.specs.declared.copies.AccessAt.{AccessAt}
use Rattle.dh_expressions.specs.Copying.{AreNone, DoneBy, IsCopy}
use Rattle.dh_expressions.specs.Drafted.{BlockStep, holds}
use Rattle.dh_expressions.specs.Evaluated.{Knows, StepReads}
use Rattle.dh_expressions.specs.Noted.{copy_or_alone, given_in, given_to, touched_in, touched_of}
use Rattle.dh_expressions.specs.Shown.{guard_of, guard_or_none}
use Rattle.dh_expressions.specs.Standings.{IsTouched, AccessStanding, copy_places}
use Rattle.dh_expressions.proofs.ListPlaces.{place_within, some_same, there}
use Rattle.dh_commands.specs.Followed.{view_at_step}
use Rattle.dh_blocks.specs.FoundAccesses.{Found}
use Rattle.dh_laid.specs.LaidAccesses.{AreLaid, IsLaid, copy_in, place_named, access_standing_of}
use Rattle.dh_blocks.specs.ChosenReads.{AreBare, chosen_reads, done_of, chosen_standing, sites_to, standing_or_none}

sites_long : (named : List (FaultKind × Place)) (find : ℕ → Option Found) (a : Accesses) (n : ℕ) → length (sites_to named find a n) ≡ n
sites_long named find a zero = refl
sites_long named find a (suc n) = length-append (sites_to named find a n) _ ∙ one (length (sites_to named find a n)) n (sites_long named find a n)
  where
    one : (a b : ℕ) → a ≡ b → a + 1 ≡ suc b
    one a b e = omega (arith, e)

in_front : (xs : List AccessStanding) (y z : AccessStanding) (i : ℕ) → slice_get xs i ≡ Some z → slice_get (xs ++ y ∷ []) i ≡ Some z
in_front [] y z i e = absurd (cc)
in_front (w ∷ xs) y z zero e = e
in_front (w ∷ xs) y z (suc i) e = in_front xs y z i e

at_last : (xs : List AccessStanding) (y : AccessStanding) (i : ℕ) → i ≡ length xs → slice_get (xs ++ y ∷ []) i ≡ Some y
at_last [] y i e = ap (λ j. slice_get (y ∷ []) j) e
at_last (w ∷ xs) y i e = ap (λ j. slice_get (w ∷ (xs ++ y ∷ [])) j) e ∙ at_last xs y (length xs) refl

site_is : (named : List (FaultKind × Place)) (find : ℕ → Option Found) (a : Accesses) (n i : ℕ) → i < n → slice_get (sites_to named find a n) i ≡ Some (chosen_standing named (find i) (touched_in a i))
site_is named find a zero i within = absurd (none i within)
  where
    none : (m : ℕ) → m < 0 → ⊥
    none m h = omega (arith, h)
site_is named find a (suc n) i within = by (λ l. site_is named find a n i l) (cases_lt i n)
  where
    by : (i < n → slice_get (sites_to named find a n) i ≡ Some (chosen_standing named (find i) (touched_in a i))) → (i < n) ⊎ (n ≤ i) → slice_get (sites_to named find a (suc n)) i ≡ Some (chosen_standing named (find i) (touched_in a i))
    by before (inl l) = in_front (sites_to named find a n) _ _ i (before l)
    by before (inr l) =
        let same : i ≡ n = omega (arith, l, within) in
        at_last (sites_to named find a n) (chosen_standing named (find n) (touched_in a n)) i (same ∙ sym (sites_long named find a n)) ∙ ap (λ m. Some (chosen_standing named (find m) (touched_in a m))) (sym same)

touched_within : (a : Accesses) (i : ℕ) (t : Touched) → touched_in a i ≡ Some t → i < length a.touched.items
touched_within a i t e = by (slice_get a.touched.items i) refl e
  where
    by : (o : Option (Option Touched)) → slice_get a.touched.items i ≡ o → touched_of o ≡ Some t → i < length a.touched.items
    by None e h = absurd (cc)
    by (Some u) e h = place_within a.touched.items i u e

-- Accesses of earlier blocks.

copy_is : (t : Touched) (k : ℕ) (c : AccessAt) → slice_get t.copies k ≡ Some c → copy_in t k ≡ c
copy_is t k c e = ap (λ o. copy_or_alone k o) e

mapped : {A B : Type 0} (f : A → B) (xs : List A) (k : ℕ) (x : A) → slice_get xs k ≡ Some x → slice_get (map f xs) k ≡ Some (f x)
mapped f [] k x e = absurd (cc)
mapped f (y ∷ xs) zero x e = ap (λ z. Some (f z)) (some_same y x e)
mapped f (y ∷ xs) (suc k) x e = mapped f xs k x e

module _ (x : BlockStep) (t : Touched) (laid : IsLaid x.named t) where
  abbrev own : AccessStanding
  own = access_standing_of x.named t

  guard_is : (k : ℕ) (c : AccessAt) → slice_get t.copies k ≡ Some c → guard_of own.guards k ≡ (copy_in t c.leader).guard
  guard_is k c e = ap guard_or_none (mapped (λ (d : AccessAt). (copy_in t d.leader).guard) t.copies k c e)

  guards_long : length own.guards ≡ length t.copies
  guards_long = length-map t.copies (λ (d : AccessAt). (copy_in t d.leader).guard)

  copies_stand : (k : ℕ) (c : AccessAt) → slice_get t.copies k ≡ Some c → IsCopy x own.leader own.bank (copy_places own) own.guards (length own.guards) k c
  copies_stand k c at = record {
    leader_is = ap (λ (d : AccessAt). d.leader) (sym (copy_is t k c at));
    bank_is = ap (λ (d : AccessAt). d.bank) (sym (copy_is t k c at));
    place_is = ap (λ (d : AccessAt). d.place) (sym (copy_is t k c at));
    alone = λ other. laid.alone k c at (λ e. other (ap (λ (d : AccessAt). d.leader) (copy_is t k c at) ∙ e));
    on = λ d. by d (cases_Bool (c.leader == k));
    by = λ leads on. record {
      path = k;
      within = subst (λ (n : ℕ). k < n) (sym guards_long) (place_within t.copies k c at);
      leads = leads;
      on = subst (λ (g : Option ℕ). holds x g) (sym (own_guard leads)) on;
    };
  }
    where
      own_guard : own.leader k ≡ k → guard_of own.guards k ≡ c.guard
      own_guard leads =
          guard_is k c at
          ∙ ap (λ (d : AccessAt). d.guard) (ap (λ n. copy_in t n) (ap (λ (d : AccessAt). d.leader) (sym (copy_is t k c at)) ∙ leads) ∙ copy_is t k c at)

      differ : (c.leader == k) ≡ false → c.leader ≡ k → ⊥
      differ e same = clash (c.leader == k) (eq-eqb c.leader k same) e
        where
          clash : (b : Bool) → b ≡ true → b ≡ false → ⊥
          clash b e f = cc

      by : DoneBy x own.leader own.guards (length own.guards) (own.leader k) → ((c.leader == k) ≡ true) ⊎ ((c.leader == k) ≡ false) → holds x c.guard
      by d (inr e) = subst (λ (g : Option ℕ). holds x g) (sym (laid.alone k c at (differ e))) refl
      by d (inl e) =
          let (p, is) = there t.copies d.path (subst (λ (n : ℕ). d.path < n) guards_long d.within) in
          let same : p.leader ≡ k = ap (λ (q : AccessAt). q.leader) (sym (copy_is t d.path p is)) ∙ (d.leads ∙ (ap (λ (q : AccessAt). q.leader) (copy_is t k c at) ∙ eqb-true c.leader k e)) in
          subst (λ (g : Option ℕ). holds x g) (guard_is d.path p is ∙ ap (λ (q : AccessAt). q.guard) (ap (λ n. copy_in t n) same ∙ copy_is t k c at)) d.on

  pub laid_touched : IsTouched x own t
  laid_touched = record {
    fault = laid.fault ∙ ap fault_at (sym (ap place_named laid.fault));
    copies = record { long = sym guards_long; each = copies_stand };
  }
    where
      fault_at : Place → Option (FaultKind × Place)
      fault_at p = Some (OutOfRange, p)

-- The begin.
pub knows_first : (x : BlockStep) (find : ℕ → Option Found) (before : Accesses) → AreLaid x.named before → AreNone before.counts.items → AreBare find before
    → (variables : Variables) → Knows (view_at_step x (chosen_reads x find before) variables) before
knows_first x find before laid none bare variables = record {
  given = λ number path n given done. absurd (never number path n (find number) refl given done);
  long = sym (sites_long x.named find before (length before.touched.items));
  touched = λ number t at s is. stands number t at s is (find number) refl;
  none = none;
}
  where
    nothing : (number : ℕ) (f : Found) → find number ≡ Some f → (t : Touched) → touched_in before number ≡ Some t → ⊥
    nothing number f e t at = none_some (sym ((bare number f e).1) ∙ at)
      where
        none_some : None ≡ Some t → ⊥
        none_some h = cc

    never : (number path n : ℕ) (o : Option Found) → find number ≡ o → given_in before number path ≡ Some n → done_of x (find number) path ≡ true → ⊥
    never number path n None e given done = clash (sym (ap (λ o. done_of x o path) e) ∙ done)
      where
        clash : false ≡ true → ⊥
        clash h = cc
    never number path n (Some f) e given done = none_some (sym (ap (λ o. given_to o path) ((bare number f e).1)) ∙ given)
      where
        none_some : None ≡ Some n → ⊥
        none_some h = cc

    stands : (number : ℕ) (t : Touched) → touched_in before number ≡ Some t → (s : AccessStanding) → slice_get (sites_to x.named find before (length before.touched.items)) number ≡ Some s
        → (o : Option Found) → find number ≡ o → IsTouched x s t
    stands number t at s is (Some f) e = absurd (nothing number f e t at)
    stands number t at s is None e =
        let here = site_is x.named find before (length before.touched.items) number (touched_within before number t at) in
        let same : access_standing_of x.named t ≡ s =
        some_same (access_standing_of x.named t) s (sym (ap Some (ap (λ o. chosen_standing x.named o (touched_in before number)) e ∙ ap (λ o. standing_or_none x.named o) at)) ∙ (sym here ∙ is)) in
        subst (λ (z : AccessStanding). IsTouched x z t) same (laid_touched x t (laid number t at))

-- The end.
pub touched_laid : (x : BlockStep) (s : AccessStanding) (t : Touched) → IsTouched x s t → IsLaid x.named t
touched_laid x s t h = record {
  place = s.place;
  fault = h.fault;
  alone = λ k c at other. (h.copies.each k c at).alone (λ e. other ((h.copies.each k c at).leader_is ∙ e));
}

pub laid_last : (x : BlockStep) (reads : StepReads) (after : Accesses) (variables : Variables) → Knows (view_at_step x reads variables) after → AreLaid x.named after
laid_last x reads after variables knows number t at =
    let (s, is) = there reads.sites number (subst (λ (n : ℕ). number < n) knows.long (touched_within after number t at)) in
    touched_laid x s t (knows.touched number t at s is)

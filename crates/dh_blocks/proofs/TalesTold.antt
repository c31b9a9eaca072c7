-- A tale that is told alike of program and plan has one first fault, and where there is none the same writes.
use Rattle.std.proofs.Common.{◌≡◌, ℕ, List, [], ◌∷◌, Option, Some, None, refl, ap, ◌∙◌}
use Rattle.std.specs.Prelude.{slice_get}
use Rattle.dh_base.specs.declared.outcomes.FaultKind.{FaultKind}
use Rattle.dh_base.specs.declared.places.Place.{Place}
use Rattle.dh_tree.specs.Elements.{Spot}
use Rattle.dh_meaning.specs.Effects.{Event, reads, writes, faults}
use Rattle.dh_plan.specs.Blocks.{BlockEvent, fails, puts, Put, first_fault, puts_of}
use Rattle.dh_plan.specs.PlanPhases.{NamesFault}
use Rattle.dh_plan.specs.SourceEffects.{failure_of, writes_of}
use Rattle.dh_expressions.specs.Drafted.{Tale, failed, unnamed, put, fault_told, tales_told, told_block}

abbrev fault_as : FaultKind → Place → Option (FaultKind × Place)
fault_as k p = Some (k, p)

fault_is : (o : Option (FaultKind × Place)) (kind : FaultKind) (place : Place) → fault_told o ≡ failed kind place → o ≡ Some (kind, place)
fault_is None kind place e = absurd (cc)
fault_is (Some (k, p)) kind place e = the k p e
  where
    kind_in : Tale → FaultKind → FaultKind
    kind_in (failed k p) d = k
    kind_in unnamed d = d
    kind_in (put s b) d = d

    place_in : Tale → Place → Place
    place_in (failed k p) d = p
    place_in unnamed d = d
    place_in (put s b) d = d

    the : (k : FaultKind) (p : Place) → failed k p ≡ failed kind place → fault_as k p ≡ fault_as kind place
    the k p e = ap (λ j. fault_as j p) (ap (λ t. kind_in t k) e) ∙ ap (λ q. fault_as kind q) (ap (λ t. place_in t p) e)

no_put : (o : Option (FaultKind × Place)) (spot : Spot) (bits : ℕ) → fault_told o ≡ put spot bits → ⊥
no_put None spot bits e = cc
no_put (Some f) spot bits e = cc

head_is : (x y : Tale) (xs ys : List Tale) → x ∷ xs ≡ y ∷ ys → x ≡ y
head_is x y xs ys e = cc

tail_is : (x y : Tale) (xs ys : List Tale) → x ∷ xs ≡ y ∷ ys → xs ≡ ys
tail_is x y xs ys e = cc

put_is : (s t : Spot) (b c : ℕ) (ps qs : List Put) → put s b ≡ put t c → ps ≡ qs → record { spot = s; bits = b } ∷ ps ≡ record { spot = t; bits = c } ∷ qs
put_is s t b c ps qs e f = ap (λ (l : List Put). record { spot = s; bits = b } ∷ l) f ∙ (ap (λ (x : Spot). record { spot = x; bits = b } ∷ qs) (ap (λ u. spot_in u s) e) ∙ ap (λ n. record { spot = t; bits = n } ∷ qs) (ap (λ u. bits_in u b) e))
  where
    spot_in : Tale → Spot → Spot
    spot_in (failed k p) d = d
    spot_in unnamed d = d
    spot_in (put s b) d = s

    bits_in : Tale → ℕ → ℕ
    bits_in (failed k p) d = d
    bits_in unnamed d = d
    bits_in (put s b) d = b

module _ (named : List (FaultKind × Place)) where
  pub fault_named : (bs : List BlockEvent) (es : List Event) → told_block named bs ≡ tales_told es → NamesFault named (first_fault bs) (failure_of es)
  fault_named [] [] e = tt
  fault_named (fails f ∷ bs) [] e = absurd (cc)
  fault_named (puts s b ∷ bs) [] e = absurd (cc)
  fault_named bs (reads number place path spot ∷ es) e = fault_named bs es e
  fault_named [] (writes number place path spot value ∷ es) e = absurd (cc)
  fault_named (fails f ∷ bs) (writes number place path spot value ∷ es) e = absurd (no_put (slice_get named f) spot value (head_is _ _ _ _ e))
  fault_named (puts s b ∷ bs) (writes number place path spot value ∷ es) e = fault_named bs es (tail_is _ _ _ _ e)
  fault_named [] (faults number place path kind ∷ es) e = absurd (cc)
  fault_named (fails f ∷ bs) (faults number place path kind ∷ es) e = fault_is (slice_get named f) kind place (head_is _ _ _ _ e)
  fault_named (puts s b ∷ bs) (faults number place path kind ∷ es) e = absurd (other (head_is _ _ _ _ e))
    where
      other : put s b ≡ failed kind place → ⊥
      other h = cc

  pub writes_told : (bs : List BlockEvent) (es : List Event) → told_block named bs ≡ tales_told es → failure_of es ≡ None → puts_of bs ≡ writes_of es
  writes_told [] [] e none = refl
  writes_told (fails f ∷ bs) [] e none = absurd (cc)
  writes_told (puts s b ∷ bs) [] e none = absurd (cc)
  writes_told bs (reads number place path spot ∷ es) e none = writes_told bs es e none
  writes_told [] (writes number place path spot value ∷ es) e none = absurd (cc)
  writes_told (fails f ∷ bs) (writes number place path spot value ∷ es) e none = absurd (no_put (slice_get named f) spot value (head_is _ _ _ _ e))
  writes_told (puts s b ∷ bs) (writes number place path spot value ∷ es) e none = put_is s spot b value (puts_of bs) (writes_of es) (head_is _ _ _ _ e) (writes_told bs es (tail_is _ _ _ _ e) none)
  writes_told bs (faults number place path kind ∷ es) e none = absurd (cc)

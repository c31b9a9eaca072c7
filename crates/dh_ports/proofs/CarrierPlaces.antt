-- The carrier at the place of a view.
use Rattle.std.proofs.Common.{◌≡◌, ℕ, zero, suc, ◌<◌, List, [], ◌∷◌, length, get_or, refl, sym, ap, subst, arith}
use Rattle.std.specs.Prelude.{Option, Some, None, slice_get}
use Rattle.dh_ways.specs.Kept.{KeptLed}
use Rattle.dh_ways.specs.Seen.{way_seen}
use Rattle.dh_ports.specs.declared.carrying.Carrier.{Carrier}
use Rattle.dh_ports.specs.Carriers.{AreEach, IsCarrier}

absurd : {A : Type 0} → ⊥ → A
absurd e = elim e [ ]

pub led_there : (led : List KeptLed) (place : ℕ) (l : KeptLed) → slice_get led place ≡ Some l → place < length led
led_there [] place l e = absurd (none l e)
  where
    none : (a : KeptLed) → ◌≡◌ {A = Option KeptLed} None (Some a) → ⊥
    none a e = cc
led_there (x ∷ ls) zero l e = omega arith
led_there (x ∷ ls) (suc place) l e = next place (length ls) (led_there ls place l e)
  where
    next : (k n : ℕ) → k < n → suc k < suc n
    next k n e = omega (arith, e)

pub each_many : (led : List KeptLed) (cs : List Carrier) → AreEach led cs → length cs ≡ length led
each_many [] [] h = refl
each_many [] (c ∷ cs) h = absurd h
each_many (l ∷ ls) [] h = absurd h
each_many (l ∷ ls) (c ∷ cs) h = ap suc (each_many ls cs h.1)

pub carrier_is : (led : List KeptLed) (cs : List Carrier) (place : ℕ) (l : KeptLed) (c : Carrier) → AreEach led cs → slice_get led place ≡ Some l → c ≡ get_or cs place c → IsCarrier (way_seen l.way) c
carrier_is [] cs place l c h e is = absurd (none l e)
  where
    none : (a : KeptLed) → ◌≡◌ {A = Option KeptLed} None (Some a) → ⊥
    none a e = cc
carrier_is (x ∷ ls) [] place l c h e is = absurd h
carrier_is (x ∷ ls) (d ∷ cs) zero l c h e is = subst (λ (k : Carrier). IsCarrier (way_seen l.way) k) (sym is) (subst (λ (y : KeptLed). IsCarrier (way_seen y.way) d) (some_same x l e) h.0)
  where
    some_same : (a b : KeptLed) → Some a ≡ Some b → a ≡ b
    some_same a b e = cc
carrier_is (x ∷ ls) (d ∷ cs) (suc place) l c h e is = carrier_is ls cs place l c h.1 e is

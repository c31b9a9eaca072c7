-- Writes with the ports that make them. Two lists of the same writes leave the same memories, where in each of them
-- writes of one element come from rising ports.
use Rattle.std.specs.Prelude.{◌≡◌, ◌⊎◌, ℕ, ◌<◌, List, [], ◌∷◌, map}
use Rattle.dh_plan.specs.Blocks.{Put, all_put}

pub record KeyedPut : Type 0 where
  pub port : ℕ
  pub put : Put

abbrev pub puts_in : List KeyedPut → List Put
puts_in ks = map (λ (k : KeyedPut). k.put) ks

-- both write one element
pub record WriteOne (k l : KeyedPut) : Type 0 where
  pub memory : k.put.spot.memory ≡ l.put.spot.memory
  pub position : k.put.spot.position ≡ l.put.spot.position

-- a write of the same element later in the list has a higher port
abbrev pub RisesBefore : KeyedPut → List KeyedPut → Type 0
RisesBefore k [] = Unit {0}
RisesBefore k (l ∷ ls) = (WriteOne k l → k.port < l.port) × RisesBefore k ls

abbrev pub PortsRise : List KeyedPut → Type 0
PortsRise [] = Unit {0}
PortsRise (k ∷ ks) = RisesBefore k ks × PortsRise ks

abbrev pub IsAmongPuts : KeyedPut → List KeyedPut → Type 0
IsAmongPuts k [] = ⊥
IsAmongPuts k (l ∷ ls) = (k ≡ l) ⊎ IsAmongPuts k ls

-- the same writes
pub record SamePuts (ks ls : List KeyedPut) : Type 0 where
  pub first_in_second : (k : KeyedPut) → IsAmongPuts k ks → IsAmongPuts k ls
  pub second_in_first : (k : KeyedPut) → IsAmongPuts k ls → IsAmongPuts k ks

-- lists of the same writes, each with rising ports, leave the same memories
abbrev pub PutsCommute : Type 0
PutsCommute = (ks ls : List KeyedPut) (memories : List (List ℕ)) → PortsRise ks → PortsRise ls → SamePuts ks ls
    → all_put (puts_in ks) memories ≡ all_put (puts_in ls) memories

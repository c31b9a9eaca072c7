-- Which ports of a bank, and which multipliers, the operations of a plan use. Each access of a plan is granted ports
-- of a bank as the check of ports spends them: as many as it charges, from a first one on. (Ports as affine
-- resources are of Nigam and others, PLDI 2020.)
use Rattle.std.specs.Prelude.{◌≡◌, ◌⊎◌, ℕ, ◌+◌, ◌<◌, ◌≤◌, ◌==◌, true, if◌then◌else◌, List, [], ◌∷◌, length, slice_get, slice_index, slice_index_or, Option, Some, None}
use Rattle.dh_tree.specs.Elements.{ports_at}
use Rattle.dh_tree.specs.Meets.{Apart, Before}
use Rattle.dh_plan.specs.declared.operations.Operation.{Operation}
use Rattle.dh_plan.specs.declared.operations.Reach.{Reach}
use Rattle.dh_plan.specs.PlainPlans.{PlainPlan, first_in, operations_in, operation_count}
use Rattle.dh_plan.specs.LegalSchedules.{Timing, is_product, products_at, clocks_in}
use Rattle.dh_plan.specs.SoundPlans.{HasUse, IsListed, WritesAt, plan_charge}

-- for each operation the bank and port pairs, and the number of its multiplier
pub record Uses : Type 0 where
  pub ports : List (List (ℕ × ℕ))
  pub units : List ℕ

abbrev pub port_among : (bank : ℕ) → List (ℕ × ℕ) → Option ℕ
port_among bank [] = None
port_among bank (p ∷ ps) = if p.0 == bank then Some p.1 else port_among bank ps

-- the port of a bank that an operation uses
abbrev pub port_used : PlainPlan → Uses → (block i bank : ℕ) → Option ℕ
port_used plan u block i bank = port_among bank (slice_index_or u.ports (first_in plan block + i) [])

-- two operations, each with its access, of which both list a bank, with these places
pub record BothList (plan : PlainPlan) (b i c j bank m n : ℕ) (r t : Reach) : Type 0 where
  pub first : HasUse plan b i r
  pub second : HasUse plan c j t
  pub memory : r.memory ≡ t.memory
  pub in_first : IsListed bank m r.banks
  pub in_second : IsListed bank n t.banks

-- What each access is granted of a bank: ports from `grant` on, as many as it charges there; an operation uses the
-- one that its place says.
pub record AreGranted (plan : PlainPlan) (u : Uses) (grant : (access bank : ℕ) → ℕ) : Type 0 where
  pub within : (b i : ℕ) (r : Reach) (bank place : ℕ) → HasUse plan b i r → IsListed bank place r.banks
      → grant r.access bank + plan_charge plan r.memory bank r.access ≤ ports_at plan.table r.memory
  pub placed : (b i : ℕ) (r : Reach) (bank place : ℕ) → HasUse plan b i r → IsListed bank place r.banks
      → port_used plan u b i bank ≡ Some (grant r.access bank + place)
  -- accesses that may meet are granted no port together: the later one's come behind
  pub apart : (b i c j bank m n : ℕ) (r t : Reach) → BothList plan b i c j bank m n r t
      → Before plan.meets r.access t.access → (Apart plan.meets r.access t.access → ⊥)
      → grant r.access bank + plan_charge plan r.memory bank r.access ≤ grant t.access bank

-- a use with the second place is of a later access that may meet the first one's, or of the same with a greater place
abbrev pub IsLaterUse : PlainPlan → (m n : ℕ) → (first second : Reach) → Type 0
IsLaterUse plan m n first second =
    (Before plan.meets first.access second.access × (Apart plan.meets first.access second.access → ⊥))
    ⊎ ((first.access ≡ second.access) × (m < n))

-- The ports of operations on a bank.
pub record ArePorts (plan : PlainPlan) (u : Uses) : Type 0 where
  -- one for each bank that it can reach, below the declared number
  pub there : (b i : ℕ) (r : Reach) (bank place : ℕ) → HasUse plan b i r → IsListed bank place r.banks
      → (port : ℕ) × ((port_used plan u b i bank ≡ Some port) × (port < ports_at plan.table r.memory))
  -- two operations use one port of a bank only where their accesses never meet, or where they are of one access
  -- with one place
  pub shared : (b i c j bank m n port : ℕ) (r t : Reach) → BothList plan b i c j bank m n r t
      → port_used plan u b i bank ≡ Some port → port_used plan u c j bank ≡ Some port
      → Apart plan.meets r.access t.access ⊎ ((r.access ≡ t.access) × (m ≡ n))
  -- of two writes that may meet on a bank the later uses the higher port
  pub rising : (b i c j bank m n p q : ℕ) (r t : Reach) → BothList plan b i c j bank m n r t → WritesAt plan b i → WritesAt plan c j
      → port_used plan u b i bank ≡ Some p → port_used plan u c j bank ≡ Some q
      → IsLaterUse plan m n r t → p < q

-- Of two multiplications of a block in one clock the later uses the greater multiplier, of which there are no more
-- than stand in one clock of one block.
pub record AreUnits (plan : PlainPlan) (t : Timing) (u : Uses) : Type 0 where
  pub rising : (b i j : ℕ) (o p : Operation) → slice_get (operations_in plan b) i ≡ Some o → slice_get (operations_in plan b) j ≡ Some p
      → is_product o.form ≡ true → is_product p.form ≡ true → i < j → slice_index (clocks_in plan t b) i ≡ slice_index (clocks_in plan t b) j
      → slice_index u.units (first_in plan b + i) < slice_index u.units (first_in plan b + j)
  pub few : (b i : ℕ) (o : Operation) → slice_get (operations_in plan b) i ≡ Some o → is_product o.form ≡ true
      → (c : ℕ) × ((clock : ℕ) × (slice_index u.units (first_in plan b + i) < products_at clock (operations_in plan c) (clocks_in plan t c)))

-- a binding of a plan under a schedule
pub record IsBinding (plan : PlainPlan) (t : Timing) (u : Uses) : Type 0 where
  pub all_ports : length u.ports ≡ operation_count plan
  pub all_units : length u.units ≡ operation_count plan
  pub granted : (grant : (access bank : ℕ) → ℕ) × AreGranted plan u grant
  pub ports : ArePorts plan u
  pub units : AreUnits plan t u

-- How charges are carried along the ways of views, as the code keeps it, once for each view: a bank of the memory is
-- charged as one bank of the view is, or, where a shift stands between, as the most charged bank of the view.
use Rattle.std.specs.Prelude.{◌≡◌, ℕ, zero, suc, ◌+◌, ◌*◌, ◌<◌, ◌≤◌, ◌==◌, ◌||◌, nat_lt, Bool, true, false, if◌then◌else◌, List, [], ◌∷◌, length, map, slice_index}
use Rattle.dh_tree.specs.declared.tables.Dim.{Dim}
use Rattle.dh_tree.specs.declared.viewing.ViewMap.{ViewMap}
use Rattle.dh_tree.specs.declared.viewing.ViewSort.{ViewSort}
use Rattle.dh_tree.specs.declared.viewing.ViewSort.TheVariants.{Shrink, Split, Suffix, Shift}
use Rattle.dh_tree.specs.Elements.{banks_of}
use Rattle.dh_viewing.specs.Carried.{carried_by, largest}
use Rattle.dh_viewing.specs.ReachedBanks.{covering}
use Rattle.dh_meaning.specs.Ways as ways
use Rattle.dh_base.specs.Limits.{most_copies}
use Rattle.dh_ways.specs.Kept.{KeptLed, KeptWay}
use Rattle.dh_ways.specs.Leading.{StepsLead}
use Rattle.dh_ways.specs.Seen.{way_seen}
use Rattle.dh_ports.specs.declared.carrying.Carrier.{Carrier}
use Rattle.dh_ports.specs.declared.copies.PathReach.{PathReach}
use Rattle.dh_ports.specs.declared.moves.Move.{Move}
use Rattle.dh_ports.specs.Banks.{each_below}
use Rattle.dh_ports.specs.Claims.{claims_from}
use Rattle.dh_ports.specs.Copies.{key_count_from}

-- Views.

abbrev pub is_shift_sort : ViewSort → Bool
is_shift_sort Shrink = false
is_shift_sort Split = false
is_shift_sort Suffix = false
is_shift_sort Shift = true

-- one of these views is a shift
abbrev pub has_shift : List ViewMap → Bool
has_shift [] = false
has_shift (v ∷ vs) = is_shift_sort v.sort || has_shift vs

-- the bank of a view as which a bank of its parent is charged, where the view is no shift
abbrev pub source_in : ViewSort → (view parent : List Dim) → (bank : ℕ) → ℕ
source_in Shrink view parent bank = covering view parent bank
source_in Split view parent bank = bank
source_in Suffix view parent bank = bank
source_in Shift view parent bank = bank

-- that of the first of these views, by a bank behind the last
abbrev pub source_through : List ViewMap → (bank : ℕ) → ℕ
source_through [] bank = bank
source_through (v ∷ vs) bank = source_in v.sort v.shape.dims v.parent.dims (source_through vs bank)

-- the banks behind the last of these views, where there are so many before the first
abbrev pub banks_behind : (banks : ℕ) → List ViewMap → ℕ
banks_behind banks [] = banks
banks_behind banks (v ∷ vs) = banks_behind (banks_of v.parent.dims) vs

-- the views on a way that the code keeps, the named one first
abbrev pub views_on_way : KeptWay → List ViewMap
views_on_way w = w.view ∷ w.behind

-- they lead to something of some dimensions
pub record Follow (w : KeptWay) : Type 0 where
  pub dims : List Dim
  pub lead : StepsLead (way_seen w).steps dims

-- One view.

-- what is carried to a bank of the memory
abbrev pub carried_to : Carrier → (charge : ℕ → ℕ) → (bank : ℕ) → ℕ
carried_to c charge bank = if c.evenly then largest charge c.banks else charge (slice_index c.sources.items bank)

-- each bank of the memory is charged as one of so many banks of the view
abbrev pub HasSourcesBelow : Carrier → (banks : ℕ) → Type 0
HasSourcesBelow c banks = (bank : ℕ) → bank < length c.sources.items → slice_index c.sources.items bank < banks

-- that is what is carried along a way
pub record Carries (w : ways.Way) (c : Carrier) : Type 0 where
  pub banks : c.banks ≡ banks_of w.is.shape.dims
  pub within : HasSourcesBelow c c.banks
  pub each : (charge : ℕ → ℕ) (bank : ℕ) → bank < length c.sources.items → carried_by (map (λ s. s.is) w.steps) charge bank ≡ carried_to c charge bank

-- and its banks are those of the memory
pub record IsCarrier (w : ways.Way) (c : Carrier) : Type 0 where
  pub long : (dims : List Dim) → StepsLead w.steps dims → length c.sources.items ≡ banks_of dims
  pub carries : Carries w c

-- the charge of one key on one bank
abbrev pub one_at : (bank other : ℕ) → ℕ
one_at bank other = if bank == other then 1 else 0

-- one key on a bank of the view is carried to a bank of the memory
abbrev pub is_carried : Carrier → (bank behind : ℕ) → Bool
is_carried c bank behind = if c.evenly then nat_lt bank c.banks else (slice_index c.sources.items behind == bank)

-- the claims of the banks of the memory to which it is carried, where they begin at a place
abbrev pub claims_carried : Carrier → (event base bank : ℕ) → List Move
claims_carried c event base bank = claims_from event base (each_below (carried_to c (one_at bank)) (length c.sources.items))

-- All views of a program.

-- each view has its carrier
abbrev pub AreEach : List KeptLed → List Carrier → Type 0
AreEach [] [] = Unit {0}
AreEach (l ∷ ls) (c ∷ cs) = IsCarrier (way_seen l.way) c × AreEach ls cs
AreEach _ _ = ⊥

-- Sums.

-- of the values of a function below a number
abbrev pub sum_below : (n : ℕ) → (ℕ → ℕ) → ℕ
sum_below zero f = 0
sum_below (suc n) f = sum_below n f + f n

-- what so many groups of so many paths each carry to a bank
abbrev pub group_sum : PathReach → Carrier → (stride groups bank : ℕ) → ℕ
group_sum reach c stride groups bank = sum_below groups (λ group. carried_to c (key_count_from reach (group * stride) stride) bank)

pub record AreGroupSums (reach : PathReach) (c : Carrier) (stride groups : ℕ) (sums : List ℕ) : Type 0 where
  pub long : length sums ≡ length c.sources.items
  pub each : (bank : ℕ) → bank < length c.sources.items → slice_index sums bank ≡ group_sum reach c stride groups bank

-- with what is carried there the sum of no bank is greater than the copies of an access
abbrev pub AddsFew : Carrier → (charge : ℕ → ℕ) → (sums : List ℕ) → Type 0
AddsFew c charge sums = (bank : ℕ) → bank < length sums → slice_index sums bank + carried_to c charge bank ≤ most_copies

-- to the sum of each bank what is carried there was added
pub record AddsCarried (c : Carrier) (charge : ℕ → ℕ) (old new : List ℕ) : Type 0 where
  pub long : length new ≡ length old
  pub each : (bank : ℕ) → bank < length old → slice_index new bank ≡ slice_index old bank + carried_to c charge bank

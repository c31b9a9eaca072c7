-- Counts and sums that are kept: what reaches alike has the same counts, and carried alike the same sums.
use Rattle.std.proofs.Common.{◌≡◌, ℕ, ◌+◌, ◌*◌, ◌<◌, ◌==◌, Bool, if◌then◌else◌, List, [], length, map, replicate, slice_index, refl, ap, sym, ◌∙◌, subst, arith}
use Rattle.std.specs.List.{filter}
use Rattle.std.specs.Set.{distinct_count}
use Rattle.dh_viewing.specs.Carried.{largest}
use Rattle.dh_ports.specs.declared.carrying.Carrier.{Carrier}
use Rattle.dh_ports.specs.declared.copies.BankDimension.{BankDimension}
use Rattle.dh_ports.specs.declared.copies.CopyLevel.{CopyLevel}
use Rattle.dh_ports.specs.declared.copies.PathReach.{PathReach}
use Rattle.dh_ports.specs.declared.keeping.BankKeyCounts.{BankKeyCounts}
use Rattle.dh_ports.specs.declared.keeping.Sums.{Sums}
use Rattle.dh_ports.specs.Banks.{each_below}
use Rattle.dh_ports.specs.Carriers.{sum_below, AreGroupSums}
use Rattle.dh_ports.specs.Copies.{bank_of_lanes, key_of_levels, same_number, AreKeyCounts}
use Rattle.dh_ports.specs.Tallies.{AreCountsKept, AreCountsOf, AreSums, AreSumsOf, CarryAlike, ReachAlike}
use Rattle.dh_ports.proofs.CarrierMade.{zero_at, zeros_long}

-- keys on a bank, by the parts of what an access reaches
abbrev keys_of : List CopyLevel → List BankDimension → (own from many bank : ℕ) → ℕ
keys_of levels lanes own from many bank = distinct_count same_number (map (λ number. key_of_levels levels number) (filter (λ number. (own + bank_of_lanes levels lanes number) == bank) (each_below (λ k. from + k) many)))

pub counts_alike : (r s : PathReach) (from many banks : ℕ) (counts : List ℕ) → ReachAlike r s → AreKeyCounts r from many banks counts → AreKeyCounts s from many banks counts
counts_alike r s from many banks counts reaches are = record {
  long = are.long;
  each = λ bank inside.
      are.each bank inside
      ∙ (ap (λ x. keys_of x r.lanes.items r.own from many bank) reaches.levels
      ∙ (ap (λ x. keys_of s.paths.levels.items x r.own from many bank) reaches.lanes ∙ ap (λ x. keys_of s.paths.levels.items s.lanes.items x from many bank) reaches.own));
}

pub counts_again : (c : BankKeyCounts) (reach : PathReach) (many banks : ℕ) → AreCountsOf c reach many banks → AreCountsKept c → AreKeyCounts reach 0 many banks c.counts.items
counts_again c reach many banks alike are =
    subst (λ (n : ℕ). AreKeyCounts reach 0 n banks c.counts.items) alike.same_many
    (subst (λ (n : ℕ). AreKeyCounts reach 0 c.many n c.counts.items) alike.same_banks
    (counts_alike c.reach reach 0 c.many c.banks c.counts.items alike.reaches are))

-- those of no bank
pub no_bank_counted : (reach : PathReach) (many : ℕ) (counts : List ℕ) → counts ≡ [] → AreKeyCounts reach 0 many 0 counts
no_bank_counted reach many counts none = record { long = ap length none; each = λ bank inside. elim (never bank inside) [ ] }
  where
    never : (n : ℕ) → n < 0 → ⊥
    never n e = omega (arith, e)

-- a sum, by these and the parts of a carrier
abbrev sum_of : List CopyLevel → List BankDimension → (own : ℕ) → (evenly : Bool) → (banks : ℕ) → (sources : List ℕ) → (stride groups bank : ℕ) → ℕ
sum_of levels lanes own evenly banks sources stride groups bank =
    sum_below groups (λ group. if evenly then largest (keys_of levels lanes own (group * stride) stride) banks else keys_of levels lanes own (group * stride) stride (slice_index sources bank))

pub sums_alike : (r s : PathReach) (c d : Carrier) (stride groups : ℕ) (sums : List ℕ) → ReachAlike r s → CarryAlike c d → AreGroupSums r c stride groups sums → AreGroupSums s d stride groups sums
sums_alike r s c d stride groups sums reaches carries are = record {
  long = are.long ∙ ap length carries.sources;
  each = λ bank inside.
      are.each bank (subst (λ (l : List ℕ). bank < length l) (sym carries.sources) inside)
      ∙ (ap (λ x. sum_of x r.lanes.items r.own c.evenly c.banks c.sources.items stride groups bank) reaches.levels
      ∙ (ap (λ x. sum_of s.paths.levels.items x r.own c.evenly c.banks c.sources.items stride groups bank) reaches.lanes
      ∙ (ap (λ x. sum_of s.paths.levels.items s.lanes.items x c.evenly c.banks c.sources.items stride groups bank) reaches.own
      ∙ (ap (λ x. sum_of s.paths.levels.items s.lanes.items s.own x c.banks c.sources.items stride groups bank) carries.evenly
      ∙ (ap (λ x. sum_of s.paths.levels.items s.lanes.items s.own d.evenly x c.sources.items stride groups bank) carries.banks
      ∙ ap (λ x. sum_of s.paths.levels.items s.lanes.items s.own d.evenly d.banks x stride groups bank) carries.sources)))));
}

pub sums_kept : (r : PathReach) (c d : Carrier) (stride groups : ℕ) (sums : List ℕ) → CarryAlike c d → AreGroupSums r c stride groups sums → AreGroupSums r d stride groups sums
sums_kept r c d stride groups sums carries are = sums_alike r r c d stride groups sums (record { own = refl; levels = refl; lanes = refl }) carries are

pub sums_again : (s : Sums) (reach : PathReach) (carrier : Carrier) (stride groups : ℕ) → AreSumsOf s reach carrier stride groups → AreSums s → AreGroupSums reach carrier stride groups s.sums.items
sums_again s reach carrier stride groups alike are =
    subst (λ (n : ℕ). AreGroupSums reach carrier n groups s.sums.items) alike.same_stride
    (subst (λ (n : ℕ). AreGroupSums reach carrier s.stride n s.sums.items) alike.same_groups
    (sums_alike s.reach reach s.carrier carrier s.stride s.groups s.sums.items alike.reaches alike.carries are))

-- those of no group
pub no_group : (reach : PathReach) (carrier : Carrier) (stride banks : ℕ) (sums : List ℕ) → banks ≡ length carrier.sources.items → sums ≡ replicate banks 0 → AreGroupSums reach carrier stride 0 sums
no_group reach carrier stride banks sums many none = record { long = ap length none ∙ (zeros_long banks ∙ many); each = λ bank inside. ap (λ l. slice_index l bank) none ∙ zero_at banks bank }

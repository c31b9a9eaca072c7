-- Counts of groups of copies, and the sums of what they carry, while groups and banks are gone through.
use Rattle.std.proofs.Common.{◌≡◌, ℕ, suc, add-one, ◌+◌, ◌-◌, ◌*◌, ◌<◌, ◌≤◌, ◌==◌, max, Bool, true, false, if◌then◌else◌, List, length, get_or, replicate, slice_index, slice_set, refl, ap, sym, subst, ◌∙◌, arith, ◌⊎◌, inl, inr}
use Rattle.std.proofs.lemmas.Bool.{cases_Bool, cases_lt, eq-eqb, eqb-true, ne_eqb}
use Rattle.std.proofs.lemmas.List.{length-set}
use Rattle.dh_viewing.specs.Carried.{largest}
use Rattle.dh_events.proofs.Turns.{index_set}
use Rattle.dh_ports.specs.declared.carrying.Carrier.{Carrier}
use Rattle.dh_ports.specs.declared.copies.PathReach.{PathReach}
use Rattle.dh_ports.specs.Carriers.{carried_to, group_sum, AddsCarried, AreGroupSums}
use Rattle.dh_ports.specs.Copies.{key_count_from, AreKeyCounts}
use Rattle.dh_ports.proofs.CarriedBanks.{largest_below, largest_same}
use Rattle.dh_ports.proofs.CarrierMade.{zero_at, zeros_long}
use Rattle.dh_ports.proofs.ClaimTurns.{index_found}
use Rattle.dh_ports.proofs.EachFacts.{same_lists}
use Rattle.dh_ports.proofs.GroupCharges.{sum_most}
use Rattle.dh_ports.proofs.RangeCounts.{keys_from_most}

-- Clearing.

pub record Cleared (old now : List ℕ) (i : ℕ) : Type 0 where
  pub long : length now ≡ length old
  pub none : (b : ℕ) → b < i → slice_index now b ≡ 0

pub cleared_first : (old : List ℕ) → Cleared old old 0
cleared_first old = record { long = refl; none = λ b e. elim (never b e) [ ] }
  where
    never : (b : ℕ) → b < 0 → ⊥
    never b e = omega (arith, e)

pub cleared_turn : (old now : List ℕ) (i : ℕ) → i < length old → Cleared old now i → Cleared old (slice_set now i 0) (i + 1)
cleared_turn old now i inside h = record {
  long = length-set now i 0 ∙ h.long;
  none = λ b e. index_set now i 0 b (subst (λ (n : ℕ). i < n) (sym h.long) inside) ∙ by b e (cases_Bool (i == b));
}
  where
    less : (b i : ℕ) → b < i + 1 → (i ≡ b → ⊥) → b < i
    less b i e f = elim (cases_lt b i) [ inl l ↦ l | inr p ↦ elim (f (same b i e p)) [ ] ]
      where
        same : (b i : ℕ) → b < i + 1 → i ≤ b → i ≡ b
        same b i e f = omega (arith, e, f)

    apart : (i b : ℕ) → (i == b) ≡ false → i ≡ b → ⊥
    apart i b e f = clash (i == b) (eq-eqb i b f) e
      where
        clash : (t : Bool) → t ≡ true → t ≡ false → ⊥
        clash t e f = cc

    by : (b : ℕ) → b < i + 1 → ((i == b) ≡ true) ⊎ ((i == b) ≡ false) → (if i == b then 0 else slice_index now b) ≡ 0
    by b e (inl t) = ap (λ (x : Bool). if x then 0 else slice_index now b) t
    by b e (inr t) = ap (λ (x : Bool). if x then 0 else slice_index now b) t ∙ h.none b (less b i e (apart i b t))

pub cleared_all : (old now : List ℕ) (i : ℕ) → length old ≤ i → Cleared old now i → now ≡ replicate (length old) 0
cleared_all old now i past h = same_lists (length old) now (replicate (length old) 0) h.long (zeros_long (length old)) (λ b e. h.none b (under b (length old) i e past) ∙ sym (zero_at (length old) b))
  where
    under : (b n i : ℕ) → b < n → n ≤ i → b < i
    under b n i e f = omega (arith, e, f)

-- The largest count.

pub largest_turn : (counts : List ℕ) (i most next : ℕ) → i < length counts → most ≡ largest (slice_index counts) i → next ≡ max most (get_or counts i 0) → next ≡ largest (slice_index counts) (i + 1)
largest_turn counts i most next inside so e =
    e ∙ (ap (λ n. max n (get_or counts i 0)) so ∙ (ap (λ n. max (largest (slice_index counts) i) n) (index_found counts i 0 inside) ∙ ap (largest (slice_index counts)) (sym (add-one i))))

-- What is carried of counts.

pub carried_same : (c : Carrier) (f g : ℕ → ℕ) (bank : ℕ) → slice_index c.sources.items bank < c.banks → ((b : ℕ) → b < c.banks → f b ≡ g b) → carried_to c f bank ≡ carried_to c g bank
carried_same c f g bank within e = by c.evenly
  where
    by : (b : Bool) → (if b then largest f c.banks else f (slice_index c.sources.items bank)) ≡ (if b then largest g c.banks else g (slice_index c.sources.items bank))
    by true = largest_same f g c.banks e
    by false = e (slice_index c.sources.items bank) within

pub carried_most : (c : Carrier) (f : ℕ → ℕ) (bank most : ℕ) → slice_index c.sources.items bank < c.banks → ((b : ℕ) → b < c.banks → f b ≤ most) → carried_to c f bank ≤ most
carried_most c f bank most within e = by c.evenly
  where
    by : (b : Bool) → (if b then largest f c.banks else f (slice_index c.sources.items bank)) ≤ most
    by true = largest_below f c.banks most e
    by false = e (slice_index c.sources.items bank) within

-- the sums of the banks below one are told
pub record AddedSoFar (c : Carrier) (charge : ℕ → ℕ) (old now : List ℕ) (i : ℕ) : Type 0 where
  pub long : length now ≡ length old
  pub added : (b : ℕ) → b < i → slice_index now b ≡ slice_index old b + carried_to c charge b
  pub kept : (b : ℕ) → i ≤ b → slice_index now b ≡ slice_index old b

pub added_none : (c : Carrier) (charge : ℕ → ℕ) (old : List ℕ) → AddedSoFar c charge old old 0
added_none c charge old = record { long = refl; added = λ b e. elim (never b e) [ ]; kept = λ b e. refl }
  where
    never : (b : ℕ) → b < 0 → ⊥
    never b e = omega (arith, e)

pub added_turn : (c : Carrier) (charge : ℕ → ℕ) (old now : List ℕ) (i more sum : ℕ) → i < length old → AddedSoFar c charge old now i → more ≡ carried_to c charge i → sum ≡ get_or now i 0 + more → AddedSoFar c charge old (slice_set now i sum) (i + 1)
added_turn c charge old now i more sum inside h e so = record {
  long = length-set now i sum ∙ h.long;
  added = λ b f. index_set now i sum b here ∙ by b f (cases_Bool (i == b));
  kept = λ b f. index_set now i sum b here ∙ (ap (λ (x : Bool). if x then sum else slice_index now b) (ne_eqb i b (other i b f)) ∙ h.kept b (further i b f));
}
  where
    here : i < length now
    here = subst (λ (n : ℕ). i < n) (sym h.long) inside

    other : (i b : ℕ) → i + 1 ≤ b → i ≡ b → ⊥
    other i b e f = omega (arith, e, f)

    further : (i b : ℕ) → i + 1 ≤ b → i ≤ b
    further i b e = omega (arith, e)

    own : (n : ℕ) → n ≤ n
    own n = omega arith

    sum_is : sum ≡ slice_index old i + carried_to c charge i
    sum_is = so ∙ (ap (λ n. n + more) (index_found now i 0 here ∙ h.kept i (own i)) ∙ ap (λ n. slice_index old i + n) e)

    clash : (t : Bool) → t ≡ true → t ≡ false → ⊥
    clash t e f = cc

    less : (b i : ℕ) → b < i + 1 → (i ≡ b → ⊥) → b < i
    less b i e f = elim (cases_lt b i) [ inl l ↦ l | inr p ↦ elim (f (same b i e p)) [ ] ]
      where
        same : (b i : ℕ) → b < i + 1 → i ≤ b → i ≡ b
        same b i e f = omega (arith, e, f)

    by : (b : ℕ) → b < i + 1 → ((i == b) ≡ true) ⊎ ((i == b) ≡ false) → (if i == b then sum else slice_index now b) ≡ slice_index old b + carried_to c charge b
    by b f (inl t) =
        ap (λ (x : Bool). if x then sum else slice_index now b) t ∙ (sum_is ∙ ap (λ n. slice_index old n + carried_to c charge n) (eqb-true i b t))
    by b f (inr t) =
        ap (λ (x : Bool). if x then sum else slice_index now b) t ∙ h.added b (less b i f (λ k. clash (i == b) (eq-eqb i b k) t))

pub added_all : (c : Carrier) (charge : ℕ → ℕ) (old now : List ℕ) (i : ℕ) → length old ≤ i → AddedSoFar c charge old now i → AddsCarried c charge old now
added_all c charge old now i past h = record { long = h.long; each = λ b e. h.added b (under b (length old) i e past) }
  where
    under : (b n i : ℕ) → b < n → n ≤ i → b < i
    under b n i e f = omega (arith, e, f)

-- what is added next fits
pub added_fits : (c : Carrier) (charge : ℕ → ℕ) (old now : List ℕ) (i more : ℕ) → i < length old → AddedSoFar c charge old now i → more ≡ carried_to c charge i → slice_index old i + carried_to c charge i ≤ 256 → get_or now i 0 + more ≤ 256
added_fits c charge old now i more inside h e few =
    subst (λ (n : ℕ). n ≤ 256)
    (sym (ap (λ n. n + more) (index_found now i 0 (subst (λ (n : ℕ). i < n) (sym h.long) inside) ∙ h.kept i (own i)) ∙ ap (λ n. slice_index old i + n) e)) few
  where
    own : (n : ℕ) → n ≤ n
    own n = omega arith

-- Sums over groups.

-- a block is within all of them
pub block_within : (group groups stride : ℕ) → group < groups → group * stride + stride ≤ groups * stride
block_within group groups stride e = subst (λ (n : ℕ). group * stride + stride ≤ n * stride) (sym (left_of groups group e)) (least group (groups - suc group) stride)
  where
    left_of : (n g : ℕ) → g < n → n ≡ g + suc (n - suc g)
    left_of n g e = omega (arith, e)

    least : (g d s : ℕ) → g * s + s ≤ (g + suc d) * s
    least g d s = more (g * s + s) (d * s) ((g + suc d) * s) (parts g d s)
      where
        parts : (g d s : ℕ) → (g + suc d) * s ≡ g * s + s + d * s
        parts g d s = omega arith

        more : (a b n : ℕ) → n ≡ a + b → a ≤ n
        more a b n e = omega (arith, e)

module _ (reach : PathReach) (c : Carrier) (stride : ℕ) (within : (bank : ℕ) → bank < length c.sources.items → slice_index c.sources.items bank < c.banks) where
  pub sums_none : (n : ℕ) (sums : List ℕ) → n ≡ length c.sources.items → sums ≡ replicate n 0 → AreGroupSums reach c stride 0 sums
  sums_none n sums many e = record { long = ap length e ∙ (zeros_long n ∙ many); each = λ bank inside. ap (λ l. slice_index l bank) e ∙ zero_at n bank }

  one_group : (group bank : ℕ) → bank < length c.sources.items → carried_to c (key_count_from reach (group * stride) stride) bank ≤ stride
  one_group group bank inside = carried_most c (key_count_from reach (group * stride) stride) bank stride (within bank inside) (λ b e. keys_from_most reach (group * stride) stride b)

  carried_of : (group : ℕ) (counts : List ℕ) (bank : ℕ) → bank < length c.sources.items → AreKeyCounts reach (group * stride) stride c.banks counts → carried_to c (slice_index counts) bank ≡ carried_to c (key_count_from reach (group * stride) stride) bank
  carried_of group counts bank inside are = carried_same c (slice_index counts) (key_count_from reach (group * stride) stride) bank (within bank inside) are.each

  pub sums_few : (group groups : ℕ) (sums counts : List ℕ) (bank : ℕ) → group < groups → groups * stride ≤ 256 → AreGroupSums reach c stride group sums → AreKeyCounts reach (group * stride) stride c.banks counts → bank < length sums → slice_index sums bank + carried_to c (slice_index counts) bank ≤ 256
  sums_few group groups sums counts bank below few so are inside =
      let there = subst (λ (n : ℕ). bank < n) so.long inside in
      subst (λ (n : ℕ). n ≤ 256) (sym (ap (λ n. n + carried_to c (slice_index counts) bank) (so.each bank there) ∙ ap (λ n. group_sum reach c stride group bank + n) (carried_of group counts bank there are)))
      (both (group_sum reach c stride group bank) (carried_to c (key_count_from reach (group * stride) stride) bank) (group * stride) (groups * stride) stride
      (sum_most (λ k. carried_to c (key_count_from reach (k * stride) stride) bank) group stride (λ k e. one_group k bank there)) (one_group group bank there) (block_within group groups stride below) few)
    where
      both : (a b g n s : ℕ) → a ≤ g → b ≤ s → g + s ≤ n → n ≤ 256 → a + b ≤ 256
      both a b g n s e f h i = omega (arith, e, f, h, i)

  pub sums_turn : (group : ℕ) (old new counts : List ℕ) → AreGroupSums reach c stride group old → AreKeyCounts reach (group * stride) stride c.banks counts → AddsCarried c (slice_index counts) old new → AreGroupSums reach c stride (group + 1) new
  sums_turn group old new counts so are adds = subst (λ (n : ℕ). AreGroupSums reach c stride n new) (sym (add-one group)) (record {
    long = adds.long ∙ so.long;
    each = λ bank inside.
        adds.each bank (subst (λ (n : ℕ). bank < n) (sym so.long) inside)
        ∙ (ap (λ n. n + carried_to c (slice_index counts) bank) (so.each bank inside) ∙ ap (λ n. group_sum reach c stride group bank + n) (carried_of group counts bank inside are));
  })

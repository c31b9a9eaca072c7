-- Counts that stop at a bound.
use Rattle.std.proofs.Common.{◌≡◌, ℕ, zero, suc, ◌+◌, ◌*◌, ◌<◌, ◌≤◌, inl, inr, nat_lt, Bool, true, List, [], ◌∷◌, map, min, length, Option, Some, None, refl, sym, ap, ◌∙◌, arith, if◌then◌else◌, subst, Ok, Err, drop, get_or, add-one}
use Rattle.std.proofs.lemmas.Bool.{cases_lt}
use Rattle.std.proofs.lemmas.Bool.Decides.{nat_tests}
use Rattle.std.proofs.Math.Nat.{min-eq_left, min-eq_right, le-mul_of_pos_right, min-le_right, one-mul, mul-zero, mul_assoc}
use Rattle.dh_base.specs.Limits.{greatest_of}
use Rattle.dh_base.specs.declared.limits.Excess.{Excess}
use Rattle.dh_base.specs.declared.limits.Limit.{Limit}
use Rattle.dh_base.specs.declared.limits.Limit.TheVariants as limit
use Rattle.dh_tree.specs.Elements.{banks_of}
use Rattle.dh_tree.specs.Excesses.{most_counted, excess_at, or_else, first_above, copies_excess, first_excess}
use Rattle.dh_tree.specs.Memories.{Memory, entry_of, memories_of, table_of}
use Rattle.dh_tree.specs.declared.tables.MemEntry.{MemEntry}
use Rattle.dh_tree.specs.PlainTrees.{Program}
use Rattle.dh_tree.specs.Tables.{elements_in}
use Rattle.dh_tree.specs.declared.tables.Dim.{Dim}
use Rattle.std.proofs.Math.Seq.{drop-cons}
use Rattle.dh_shape.specs.Above.{first_excess_in, excess_of, TellsExcess}
use Rattle.dh_shape.specs.declared.limits.Measure.TheVariants as measure

-- both reach the bound
both_reach : (a b cap : ℕ) → cap ≤ a → cap ≤ b → min a cap ≡ min b cap
both_reach a b cap h k = min-eq_right h ∙ sym (min-eq_right k)

reached : (a b cap : ℕ) → cap < a → min (cap * b) cap ≡ min (a * b) cap
reached a zero cap above = ap (λ x. min x cap) (mul-zero cap ∙ sym (mul-zero a))
reached a (suc k) cap above =
    let first = le-mul_of_pos_right {m = suc k} cap (omega arith) in
    let second = le-mul_of_pos_right {m = suc k} a (omega arith) in
    both_reach (cap * suc k) (a * suc k) cap first (omega (arith, second))

-- a product of a number that was cut off is cut off where the whole product is
pub product_cut : (a b cap : ℕ) → min (min a cap * b) cap ≡ min (a * b) cap
product_cut a b cap = elim (cases_lt cap a) [
  | inl above ↦ ap (λ x. min (x * b) cap) (min-eq_right {n = cap} {m = a} (omega arith)) ∙ reached a b cap above
  | inr within ↦ ap (λ x. min (x * b) cap) (min-eq_left {n = a} {m = cap} (omega arith))
]

pub sum_cut : (a b cap : ℕ) → min (min a cap + b) cap ≡ min (a + b) cap
sum_cut a b cap = elim (cases_lt cap a) [
  | inl above ↦ ap (λ x. min (x + b) cap) (min-eq_right {n = cap} {m = a} (omega arith)) ∙ both_reach (cap + b) (a + b) cap (omega arith) (omega arith)
  | inr within ↦ ap (λ x. min (x + b) cap) (min-eq_left {n = a} {m = cap} (omega arith))
]

-- one turn of a loop that multiplies what is left by what was counted so far
pub product_turn : (count next factor rest whole cap : ℕ) → next ≡ min (count * factor) cap → min (count * (factor * rest)) cap ≡ min whole cap → min (next * rest) cap ≡ min whole cap
product_turn count next factor rest whole cap e h =
    ap (λ x. min (x * rest) cap) e ∙ (product_cut (count * factor) rest cap ∙ (ap (λ x. min x cap) (mul_assoc count factor rest) ∙ h))

-- one turn of a loop that adds
pub sum_turn : (count next own size rest whole cap : ℕ) → own ≡ min size cap → next ≡ min (count + own) cap → min (count + (size + rest)) cap ≡ min whole cap → min (next + rest) cap ≡ min whole cap
sum_turn count next own size rest whole cap o e h =
    ap (λ x. min (x + rest) cap) e
    ∙ (sum_cut (count + own) rest cap
    ∙ (ap (λ x. min x cap) (left own)
    ∙ (ap (λ x. min (x + (count + rest)) cap) o
    ∙ (sum_cut size (count + rest) cap
    ∙ (ap (λ x. min x cap) (right size) ∙ h)))))
  where
    left : (own : ℕ) → count + own + rest ≡ own + (count + rest)
    left own = omega arith

    right : (size : ℕ) → size + (count + rest) ≡ count + (size + rest)
    right size = omega arith

-- whether a count is above its limit is told by the count cut off
greatest_small : (l : Limit) → greatest_of l < most_counted
greatest_small limit.Source = omega arith
greatest_small limit.Brackets = omega arith
greatest_small limit.Operators = omega arith
greatest_small limit.ElseIfs = omega arith
greatest_small limit.Functions = omega arith
greatest_small limit.Dimensions = omega arith
greatest_small limit.Banks = omega arith
greatest_small limit.Ports = omega arith
greatest_small limit.Copies = omega arith
greatest_small limit.Elements = omega arith
greatest_small limit.Plan = omega arith
greatest_small limit.ListBytes = omega arith
greatest_small limit.List = omega arith
greatest_small limit.Data = omega arith

yes_both : (a b : Bool) → a ≡ true → b ≡ true → a ≡ b
yes_both a b h k = h ∙ sym k

test_cut : (g n cap : ℕ) → g < cap → nat_lt g (min n cap) ≡ nat_lt g n
test_cut g n cap small = elim (cases_lt cap n) [
  | inl above ↦ ap (λ x. nat_lt g x) (min-eq_right {n = cap} {m = n} (omega arith)) ∙ (yes_both (nat_lt g cap) (nat_lt g n) (grind (arith, nat_tests)) (grind (arith, nat_tests)))
  | inr within ↦ ap (λ x. nat_lt g x) (min-eq_left {n = n} {m = cap} (omega arith))
]

twice_cut : (n cap : ℕ) → min (min n cap) cap ≡ min n cap
twice_cut n cap = min-eq_left (elim (cases_lt cap n) [
  | inl above ↦ omega (arith, min-eq_right {n = cap} {m = n} (omega arith))
  | inr within ↦ omega (arith, min-eq_left {n = n} {m = cap} (omega arith))
])

pub excess_cut : (l : Limit) (n : ℕ) → excess_at l (min n most_counted) ≡ excess_at l n
excess_cut l n = ap (λ (b : Bool). if b then Some (record { limit = l; count = min (min n most_counted) most_counted }) else None) (test_cut (greatest_of l) n most_counted (greatest_small l)) ∙ ap (λ (c : ℕ). if nat_lt (greatest_of l) n then Some (record { limit = l; count = c }) else None) (twice_cut n most_counted)

-- what is told of memories, told of their entries
pub dimensions_above : (ms : List Memory) → first_above limit.Dimensions (λ m. length m.shape.dims) ms ≡ first_excess_in measure.Dimensions (map entry_of ms)
dimensions_above [] = refl
dimensions_above (m ∷ ms) = ap (λ x. or_else (excess_at limit.Dimensions (length m.shape.dims)) x) (dimensions_above ms)

pub banks_above : (ms : List Memory) → first_above limit.Banks (λ m. banks_of m.shape.dims) ms ≡ first_excess_in measure.Banks (map entry_of ms)
banks_above [] = refl
banks_above (m ∷ ms) = ap (λ x. or_else (excess_at limit.Banks (banks_of m.shape.dims)) x) (banks_above ms)

pub ports_above : (ms : List Memory) → first_above limit.Ports (λ m. m.shape.ports) ms ≡ first_excess_in measure.Ports (map entry_of ms)
ports_above [] = refl
ports_above (m ∷ ms) = ap (λ x. or_else (excess_at limit.Ports m.shape.ports) x) (ports_above ms)

-- the last limits: ports, copies and elements
abbrev behind_banks : Program → (ports : Option Excess) → Option Excess
behind_banks p ports = or_else ports (or_else (copies_excess 1 p.body) (excess_at limit.Elements (elements_in (table_of p))))

pub told_of_table : (p : Program) → first_excess p ≡ excess_of (copies_excess 1 p.body) (table_of p)
told_of_table p =
    ap (λ x. or_else x (or_else (first_above limit.Banks (λ m. banks_of m.shape.dims) (memories_of p)) (behind_banks p (first_above limit.Ports (λ m. m.shape.ports) (memories_of p))))) (dimensions_above (memories_of p))
    ∙ (ap (λ x. or_else (first_excess_in measure.Dimensions (table_of p)) (or_else x (behind_banks p (first_above limit.Ports (λ m. m.shape.ports) (memories_of p))))) (banks_above (memories_of p))
    ∙ ap (λ x. or_else (first_excess_in measure.Dimensions (table_of p)) (or_else (first_excess_in measure.Banks (table_of p)) (behind_banks p x))) (ports_above (memories_of p)))

-- what is told of the table and of the copies of the body
told_of_both : (p : Program) (copies : Option Excess) (es : List MemEntry) (o : Option Excess) → copies ≡ copies_excess 1 p.body → es ≡ table_of p → excess_of copies es ≡ o → first_excess p ≡ o
told_of_both p copies es o walked same is = told_of_table p ∙ (ap (λ l. excess_of (copies_excess 1 p.body) l) (sym same) ∙ (ap (λ x. excess_of x es) (sym walked) ∙ is))

pub excess_told : (A : Type 0) (p : Program) (copies : Option Excess) (es : List MemEntry) (e : Excess) → copies ≡ copies_excess 1 p.body → es ≡ table_of p → excess_of copies es ≡ Some e → TellsExcess {A = A} (first_excess p) (Err e)
excess_told A p copies es e walked same is = subst (λ o. TellsExcess {A = A} o (Err e)) (sym (told_of_both p copies es (Some e) walked same is)) refl

pub none_told : {A : Type 0} (p : Program) (copies : Option Excess) (es : List MemEntry) (a : A) → copies ≡ copies_excess 1 p.body → es ≡ table_of p → excess_of copies es ≡ None → TellsExcess {A = A} (first_excess p) (Ok a)
none_told {A = A} p copies es a walked same is = subst (λ o. TellsExcess {A = A} o (Ok a)) (sym (told_of_both p copies es None walked same is)) tt

-- a count so far, cut off at a bound, of which the rest makes the whole
pub record Counting (cap count whole rest : ℕ) : Type 0 where
  pub small : count ≤ cap
  pub makes : min (count * rest) cap ≡ min whole cap

pub counting_starts : (cap whole : ℕ) → 1 ≤ cap → Counting cap 1 whole whole
counting_starts cap whole least = record { small = least; makes = ap (λ x. min x cap) (one-mul whole) }

counting_turn : (cap count next factor whole rest : ℕ) → next ≡ min (count * factor) cap → Counting cap count whole (factor * rest) → Counting cap next whole rest
counting_turn cap count next factor whole rest e k =
    record {
      small = omega (arith, e, min-le_right (count * factor) cap);
      makes = product_turn count next factor rest whole cap e k.makes;
    }

at_place : (dims : List Dim) (i : ℕ) (x : Dim) → i < length dims → drop i dims ≡ get_or dims i x ∷ drop (i + 1) dims
at_place dims i x within = drop-cons dims i x within ∙ ap (λ n. get_or dims i x ∷ drop n dims) (sym (add-one i))

-- one turn of a loop that multiplies a number of each dimension
pub times_turn : (cap : ℕ) (own : Dim → ℕ) (all : List Dim → ℕ) → ((d : Dim) (ds : List Dim) → all (d ∷ ds) ≡ own d * all ds)
    → (dims : List Dim) (i count next : ℕ) (x : Dim) → i < length dims → next ≡ min (count * own (get_or dims i x)) cap
    → Counting cap count (all dims) (all (drop i dims)) → Counting cap next (all dims) (all (drop (i + 1) dims))
times_turn cap own all step dims i count next x within e k =
    counting_turn cap count next (own (get_or dims i x)) (all dims) (all (drop (i + 1) dims)) e
    (subst (λ (n : ℕ). Counting cap count (all dims) n) (ap all (at_place dims i x within) ∙ step (get_or dims i x) (drop (i + 1) dims)) k)

-- Entries of a table: what is known of a memory, and the numbers of its banks.
use Rattle.std.proofs.Common.{◌≡◌, ℕ, zero, suc, ◌+◌, ◌*◌, ◌^◌, ◌<◌, ◌≤◌, true, false, List, [], ◌∷◌, ◌++◌, length, get_or, Ok, Err, Option, Some, None, option_map, if◌then◌else◌, refl, ap, sym, ◌∙◌, subst, arith}
use Rattle.std.specs.Prelude.{slice_get, slice_set, slice_index_or, Bool}
use Rattle.std.specs.List.{AllByRecursion}
use Rattle.std.proofs.lemmas.Option.{slice_get-get_or}
use Rattle.dh_base.specs.declared.places.Place.{Place}
use Rattle.dh_base.specs.declared.outcomes.Outcome.TheVariants.{Stuck}
use Rattle.dh_value.specs.declared.kinds.Kind.TheVariants as kind
use Rattle.dh_tree.specs.declared.tables.Dim.{Dim}
use Rattle.dh_tree.specs.declared.tables.MemEntry.{MemEntry}
use Rattle.dh_tree.specs.Shapes.{IsMemory, most_banks}
use Rattle.dh_tree.specs.Tables.{elements_of, elements_in, most_elements}
use Rattle.dh_tree.specs.Elements.{Spot, dims_at, ports_at, banks_of, entry_dims, entry_ports}
use Rattle.dh_meaning.specs.Effects.{Event, reads, writes, kind_in, entry_kind}
use Rattle.dh_extents.specs.Extents.{AreDims}
use Rattle.dh_code.specs.Banks.{HasBank}
use Rattle.dh_code.specs.declared.spending.Bank.{Bank}
use Rattle.dh_code.specs.declared.evaluating.StepStop.{StepStop}
use Rattle.dh_code.specs.declared.evaluating.StepStop.TheVariants as stop
use Rattle.dh_code.specs.Banks.{AreFirsts, first_bank, all_banks}
use Rattle.dh_code.specs.Scenes.{Spends}
use Rattle.dh_code.specs.Spent.{rows_now, left_now, ReadsRow, WritesRow, HaveSpent}
use Rattle.dh_extents.proofs.DimSizes.{banks_fit, elements_some}
use Rattle.dh_tree.specs.Memories.{Memory, number_in, same_entity}
use Rattle.dh_tree.specs.Memories.{memory_of_name}
use Rattle.dh_tree.specs.Scopes.{entity_number}
use Rattle.dh_tree.specs.declared.trees.expressions.Ref.{Ref}
use Rattle.dh_code.proofs.BanksSpent.{number_within, banks_read, banks_stuck, banks_written, banks_full}

pub at_index : {X : Type 0} (P : X → Type 0) (xs : List X) (k : ℕ) (d : X) → AllByRecursion P xs → k < length xs → P (get_or xs k d)
at_index P [] k d h within = absurd (none k within)
  where
    none : (n : ℕ) → n < 0 → ⊥
    none n e = omega (arith, e)
at_index P (x ∷ xs) zero d h within = h.0
at_index P (x ∷ xs) (suc k) d h within = at_index P xs k d h.1 (omega (arith, within))

-- an entry that is read nowhere
abbrev pub no_entry : MemEntry
no_entry = record { name = []; shape = record { kind = kind.Bool; ports = 0; dims = [] }; outside = false }

module _ (table : List MemEntry) (memory : ℕ) (d : MemEntry) (within : memory < length table) where
  pub there : slice_get table memory ≡ Some (slice_index_or table memory d)
  there = slice_get-get_or table memory d within

  pub kind_is : kind_in table memory ≡ (slice_index_or table memory d).shape.kind
  kind_is = ap entry_kind there

  pub ports_is : ports_at table memory ≡ (slice_index_or table memory d).shape.ports
  ports_is = ap entry_ports there

  pub dims_is : dims_at table memory ≡ (slice_index_or table memory d).shape.dims
  dims_is = ap entry_dims there

  pub entry_at : AllByRecursion IsMemory table → IsMemory (slice_index_or table memory d)
  entry_at entries = at_index IsMemory table memory d entries within

elements_under : (table : List MemEntry) (memory : ℕ) (d : MemEntry) → memory < length table → elements_of (slice_index_or table memory d).shape.dims ≤ elements_in table
elements_under [] memory d within = absurd (none memory within)
  where
    none : (n : ℕ) → n < 0 → ⊥
    none n e = omega (arith, e)
elements_under (e ∷ table) zero d within = first _ _
  where
    first : (a b : ℕ) → a ≤ a + b
    first a b = omega arith
elements_under (e ∷ table) (suc memory) d within = later _ _ _ (elements_under table memory d (less memory (length table) within))
  where
    less : (m l : ℕ) → suc m < suc l → m < l
    less m l e = omega (arith, e)

    later : (a b c : ℕ) → a ≤ c → a ≤ b + c
    later a b c e = omega (arith, e)

-- the dimensions of a memory
pub dims_of : (table : List MemEntry) (memory : ℕ) (d : MemEntry) → memory < length table → AllByRecursion IsMemory table → elements_in table ≤ most_elements → AreDims (slice_index_or table memory d).shape.dims
dims_of table memory d within entries few = record {
  dims = (entry_at table memory d within entries).shape.dims;
  few = both _ _ (elements_under table memory d within) few;
}
  where
    both : (a b : ℕ) → a ≤ b → b ≤ most_elements → a ≤ most_elements
    both a b e f = omega (arith, e, f)

pub few_banks : (table : List MemEntry) (memory bank : ℕ) → AllByRecursion IsMemory table → HasBank table memory bank → bank < 2 ^ 32
few_banks table memory bank entries h =
    small bank _ (subst (λ (ds : List Dim). bank < banks_of ds) (dims_is table memory no_entry h.0) h.1) (entry_at table memory no_entry h.0 entries).shape.few_banks
  where
    small : (b n : ℕ) → b < n → n ≤ most_banks → b < 2 ^ 32
    small b n e f = omega (arith, e, f)

-- all banks have numbers of 64 bits
pub banks_few : (table : List MemEntry) → AllByRecursion IsMemory table → all_banks table ≤ elements_in table
banks_few [] h = omega arith
banks_few (e ∷ table) h = let a = banks_fit e.shape.dims h.0.shape.dims in let b = banks_few table h.1 in sums _ _ _ _ a b
  where
    sums : (a b c d : ℕ) → a ≤ b → c ≤ d → a + c ≤ b + d
    sums a b c d e f = omega (arith, e, f)

pub number_in_word : (table : List MemEntry) (firsts : List ℕ) (memory bank first d : ℕ) → AreFirsts table firsts → HasBank table memory bank → first ≡ get_or firsts memory d → first ≡ first_bank table memory
number_in_word table firsts memory bank first d are h is = is ∙ (default firsts memory d 0 (subst (λ (n : ℕ). memory < n) (sym are.long) h.0) ∙ are.is memory h.0)
  where
    default : (xs : List ℕ) (k d e : ℕ) → k < length xs → get_or xs k d ≡ get_or xs k e
    default [] k d e within = absurd (none k within)
      where
        none : (n : ℕ) → n < 0 → ⊥
        none n e = omega (arith, e)
    default (x ∷ xs) zero d e within = refl
    default (x ∷ xs) (suc k) d e within = default xs k d e (less k (length xs) within)
      where
        less : (m l : ℕ) → suc m < suc l → m < l
        less m l e = omega (arith, e)

pub bank_word : (table : List MemEntry) (memory bank first : ℕ) → AllByRecursion IsMemory table → elements_in table ≤ most_elements → HasBank table memory bank → first ≡ first_bank table memory → first + bank < all_banks table
bank_word table memory bank first entries few h is = subst (λ (n : ℕ). n + bank < all_banks table) (sym is) (number_within table memory bank h)

pub all_in_word : (table : List MemEntry) (n : ℕ) → AllByRecursion IsMemory table → elements_in table ≤ most_elements → n < all_banks table → n < 2 ^ 56
all_in_word table n entries few e = small n _ _ e (banks_few table entries) few
  where
    small : (n a b : ℕ) → n < a → a ≤ b → b ≤ most_elements → n < 2 ^ 56
    small n a b e f g = omega (arith, e, f, g)

pub more_room : (n : ℕ) → n < 2 ^ 56 → n < 2 ^ 64
more_room n e = omega (arith, e)

pub room_times : (n : ℕ) → n < 2 ^ 56 → n * 40 < 2 ^ 64
room_times n e = omega (arith, e)

memories_few : (table : List MemEntry) → AllByRecursion IsMemory table → length table ≤ elements_in table
memories_few [] h = omega arith
memories_few (e ∷ table) h = let a = elements_some e.shape.dims h.0.shape.dims in let b = memories_few table h.1 in sums _ _ _ a b
  where
    sums : (n a b : ℕ) → 1 ≤ a → n ≤ b → suc n ≤ a + b
    sums n a b e f = omega (arith, e, f)

pub memory_word : (table : List MemEntry) (memory : ℕ) → AllByRecursion IsMemory table → elements_in table ≤ most_elements → memory < length table → memory < 2 ^ 32
memory_word table memory entries few there = small _ _ there (memories_few table entries) few
  where
    small : (n a : ℕ) {b : ℕ} → n < a → a ≤ b → b ≤ most_elements → n < 2 ^ 32
    small n a e f g = omega (arith, e, f, g)

no_match : (o : Option ℕ) (n : Option ℕ) → n ≡ None → (if same_entity o None then Some 0 else option_map suc n) ≡ None
no_match None n e = ap (option_map suc) e
no_match (Some m) n e = ap (option_map suc) e

pub none_stands : (ms : List Memory) → number_in ms None ≡ None
none_stands [] = refl
none_stands (m ∷ ms) = no_match m.name.entity (number_in ms None) (none_stands ms)

pub nothing_meant : (ms : List Memory) (r : Ref) → r.entity ≡ None → 0 ≡ memory_of_name ms r
nothing_meant ms r none = sym (ap (λ o. entity_number (number_in ms o)) none ∙ ap entity_number (none_stands ms))

-- accesses of banks, as the code makes them
module _ (table : List MemEntry) (es : List Event) (now : ℕ) (s : Spot) (banks : List Bank) (d new : Bank) (there : HasBank table s.memory s.bank) (long : length banks ≡ all_banks table) (h : HaveSpent table es now banks) (step : new.step ≡ now)
    (at ports : ℕ) (is : at ≡ first_bank table s.memory + s.bank) (e : MemEntry) (p : ports ≡ (slice_index_or table s.memory e).shape.ports) (place : Place) where
  abbrev Reads : ℕ → ℕ → Bool → Type 0
  Reads k q b = ReadsRow (rows_now (get_or banks k d) now) (left_now (get_or banks k d) q now) s.row (Ok b) new.rows.items new.left

  abbrev Writes : ℕ → ℕ → Bool → Type 0
  Writes k q b = WritesRow (rows_now (get_or banks k d) now) (left_now (get_or banks k d) q now) b new.rows.items new.left

  ports_are : ports ≡ ports_at table s.memory
  ports_are = p ∙ sym (ports_is table s.memory e there.0)

  moved_read : (b : Bool) → Reads at ports b → Reads (first_bank table s.memory + s.bank) (ports_at table s.memory) b
  moved_read b r = subst (λ (k : ℕ). Reads k (ports_at table s.memory) b) is (subst (λ (q : ℕ). Reads at q b) ports_are r)

  moved_write : (b : Bool) → Writes at ports b → Writes (first_bank table s.memory + s.bank) (ports_at table s.memory) b
  moved_write b r = subst (λ (k : ℕ). Writes k (ports_at table s.memory) b) is (subst (λ (q : ℕ). Writes at q b) ports_are r)

  pub read_on : (A : Type 0) (b : Bool) (a : A) → b ≡ true → Reads at ports b → Spends {A = A} table (es ++ reads 0 place [] s ∷ []) now (Ok a) (slice_set banks at new)
  read_on A b a y r = subst (λ (k : ℕ). HaveSpent table (es ++ reads 0 place [] s ∷ []) now (slice_set banks k new)) (sym is) (banks_read table es now s banks d new there long h step place (moved_read true (subst (λ (t : Bool). Reads at ports t) y r)))

  pub read_stuck : (A : Type 0) (b : Bool) (x : StepStop) (after : List Bank) → b ≡ false → x ≡ stop.At (Stuck s.memory s.bank place) → Reads at ports b → Spends {A = A} table (es ++ reads 0 place [] s ∷ []) now (Err x) after
  read_stuck A b x after n f r = subst (λ (y : StepStop). Spends {A = A} table (es ++ reads 0 place [] s ∷ []) now (Err y) after) (sym f) (banks_stuck table es now s banks d new there long h step place (moved_read false (subst (λ (t : Bool). Reads at ports t) n r)))

  pub write_on : (A : Type 0) (value : ℕ) (b : Bool) (a : A) → b ≡ true → Writes at ports b → Spends {A = A} table (es ++ writes 0 place [] s value ∷ []) now (Ok a) (slice_set banks at new)
  write_on A value b a y r = subst (λ (k : ℕ). HaveSpent table (es ++ writes 0 place [] s value ∷ []) now (slice_set banks k new)) (sym is) (banks_written table es now s banks d new there long h step place value (moved_write true (subst (λ (t : Bool). Writes at ports t) y r)))

  pub write_full : (A : Type 0) (value : ℕ) (b : Bool) (x : StepStop) (after : List Bank) → b ≡ false → x ≡ stop.At (Stuck s.memory s.bank place) → Writes at ports b → Spends {A = A} table (es ++ writes 0 place [] s value ∷ []) now (Err x) after
  write_full A value b x after n f r = subst (λ (y : StepStop). Spends {A = A} table (es ++ writes 0 place [] s value ∷ []) now (Err y) after) (sym f) (banks_full table es now s banks d new there long h step place value (moved_write false (subst (λ (t : Bool). Writes at ports t) n r)))

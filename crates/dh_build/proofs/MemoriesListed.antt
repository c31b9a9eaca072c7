-- The memories of a table, one after the other: the entries so far and those that the rest gives from the next number
-- on are all. A memory has at most eight ports for each of its elements, so that no number is too great.
use Rattle.std.proofs.Common.{◌≡◌, ℕ, zero, suc, ◌+◌, ◌*◌, ◌^◌, ◌<◌, ◌≤◌, List, [], ◌∷◌, ◌++◌, length, drop, get_or, refl, sym, ap, subst, ◌∙◌, arith, append_assoc}
use Rattle.std.specs.List.{AllByRecursion}
use Rattle.std.proofs.Math.ListN.{drop_of_length-le}
use Rattle.std.proofs.lemmas.List.{append-nil}
use Rattle.std.proofs.lemmas.Nat.{mul-le}
use Rattle.dh_base.proofs.ListItems.{at_item}
use Rattle.dh_tree.specs.Elements.{banks_of, rows_of, ports_at}
use Rattle.dh_tree.specs.Shapes.{IsMemory, IsProgramTable}
use Rattle.dh_tree.specs.Tables.{elements_of, elements_in, most_elements}
use Rattle.dh_tree.specs.declared.tables.MemEntry.{MemEntry}
use Rattle.dh_net.specs.BankPorts.{port_count, first_port}
use Rattle.dh_extents.specs.Extents.{IsSmallMemory}
use Rattle.dh_net.specs.RowWidths.{row_width_of}
use Rattle.dh_extents.proofs.DimSizes.{banks_fit}
use Rattle.dh_control.specs.declared.driving.MemoryPorts.{MemoryPorts}
use Rattle.dh_control.specs.UseWires.{memory_ports_at}
use Rattle.dh_build.specs.MemoryTables.{AreMemoryPorts, row_bits_of}

abbrev pub with_bits : (first count bits : ℕ) → MemoryPorts
with_bits first count bits = record { first = first; count = count; bits = bits }

-- a memory whose first port has this number
abbrev pub memory_from : ℕ → MemEntry → MemoryPorts
memory_from n e = record { first = n; count = e.shape.ports; bits = row_width_of (rows_of e.shape.dims) }

abbrev pub memories_from : ℕ → List MemEntry → List MemoryPorts
memories_from n [] = []
memories_from n (e ∷ es) = memory_from n e ∷ memories_from (n + port_count e) es

memories_long : (n : ℕ) (es : List MemEntry) → length (memories_from n es) ≡ length es
memories_long n [] = refl
memories_long n (e ∷ es) = ap suc (memories_long (n + port_count e) es)

grouped : (a b c : ℕ) → a + b + c ≡ a + (b + c)
grouped a b c = omega arith

plain : (n : ℕ) → n ≡ n + 0
plain n = omega arith

abbrev behind_by : ℕ → List MemEntry → (memory : ℕ) → ℕ → MemoryPorts
behind_by n es m first = record { first = first; count = ports_at es m; bits = row_bits_of es m }

memory_at : (n : ℕ) (es : List MemEntry) (m : ℕ) → m < length es → memory_ports_at (memories_from n es) m ≡ behind_by n es m (n + first_port es m)
memory_at n [] m h = absurd (omega (arith, h))
memory_at n (e ∷ es) zero h = ap (λ (k : ℕ). behind_by n (e ∷ es) zero k) (plain n)
memory_at n (e ∷ es) (suc m) h =
    memory_at (n + port_count e) es m (omega (arith, h)) ∙ ap (λ (k : ℕ). behind_by n es m k) (grouped n (port_count e) (first_port es m))

pub memories_are : (table : List MemEntry) (ms : List MemoryPorts) → ms ≡ memories_from 0 table → AreMemoryPorts table ms
memories_are table ms is = record {
  long = ap (λ (l : List MemoryPorts). length l) is ∙ memories_long 0 table;
  each = λ memory less.
      ap (λ (l : List MemoryPorts). memory_ports_at l memory) is
      ∙ (memory_at 0 table memory less ∙ ap (λ (k : ℕ). behind_by 0 table memory k) (let none : 0 + first_port table memory ≡ first_port table memory = omega arith in none));
}

-- the walk: these memories so far, this number next, and these memories left
pub record Listing (ms : List MemoryPorts) (next : ℕ) (table rest : List MemEntry) : Type 0 where
  pub so_far : ms ++ memories_from next rest ≡ memories_from 0 table
  pub left : AllByRecursion IsMemory rest
  pub few : next + 8 * elements_in rest ≤ 8 * most_elements

pub listing_starts : (table : List MemEntry) (ms : List MemoryPorts) → ms ≡ [] → IsProgramTable table → Listing ms 0 table table
listing_starts table ms none h = let few = h.elements in record { so_far = ap (λ (l : List MemoryPorts). l ++ memories_from 0 table) none; left = h.entries; few = omega (arith, few) }

-- a memory has few ports
pub few_ports : (e : MemEntry) → IsMemory e → port_count e ≤ 8 * elements_of e.shape.dims
few_ports e h =
    let product = mul-le (banks_of e.shape.dims) e.shape.ports (elements_of e.shape.dims) 8 (banks_fit e.shape.dims h.shape.dims) h.shape.most in
    omega (arith, product)

module _ (ms : List MemoryPorts) (next : ℕ) (table : List MemEntry) (i : ℕ) (e : MemEntry) (inside : i < length table) (is : e ≡ get_or table i e)
    (so : Listing ms next table (drop i table)) where
  here : Listing ms next table (e ∷ drop (i + 1) table)
  here = subst (λ (es : List MemEntry). Listing ms next table es) (at_item table i e inside is) so

  pub memory_here : IsSmallMemory e
  memory_here = let few = here.few in record { memory = here.left.0; few = omega (arith, few) }

  pub next_small : (count : ℕ) → count ≡ port_count e → next + count < 2 ^ 64
  next_small count told = let few = here.few in let ports = few_ports e here.left.0 in omega (arith, few, ports, told)

  pub listing_goes : (more : List MemoryPorts) (m : MemoryPorts) (after : ℕ) → more ≡ ms ++ m ∷ [] → m ≡ memory_from next e → after ≡ next + port_count e → Listing more after table (drop (i + 1) table)
  listing_goes more m after pushed entry step =
      let few = here.few in
      let ports = few_ports e here.left.0 in
      record {
        so_far = ap (λ (l : List MemoryPorts). l ++ memories_from after (drop (i + 1) table)) (pushed ∙ ap (λ (k : MemoryPorts). ms ++ k ∷ []) entry)
            ∙ (append_assoc ms (memory_from next e ∷ []) (memories_from after (drop (i + 1) table))
            ∙ (ap (λ (n : ℕ). ms ++ memory_from next e ∷ memories_from n (drop (i + 1) table)) step ∙ here.so_far));
        left = here.left.1;
        few = omega (arith, few, ports, step);
      }

pub listing_ends : (ms : List MemoryPorts) (next : ℕ) (table : List MemEntry) (i : ℕ) → length table ≤ i → Listing ms next table (drop i table) → AreMemoryPorts table ms
listing_ends ms next table i past so =
    memories_are table ms (sym (append-nil ms) ∙ (ap (λ (es : List MemEntry). ms ++ memories_from next es) (sym (drop_of_length-le table past)) ∙ so.so_far))

-- The places of the first ports: item m of the list is the number of the first port of memory m. They are
-- listed by a walk over the memories: the places so far and those that the rest gives from the next place on
-- are all. A memory has at most eight ports for each of its elements, so that no place is too great.
use Rattle.std.proofs.Common.{◌≡◌, ℕ, zero, suc, ◌+◌, ◌*◌, ◌^◌, ◌<◌, ◌≤◌, List, [], ◌∷◌, ◌++◌, length, drop, get_or, refl, sym, ap, subst, ◌∙◌, arith, append_assoc}
use Rattle.std.specs.List.{AllByRecursion}
use Rattle.std.proofs.Math.ListN.{drop_of_length-le}
use Rattle.std.proofs.lemmas.List.{append-nil, get_or_default}
use Rattle.std.proofs.lemmas.Nat.{mul-le}
use Rattle.std.proofs.lemmas.Option.{slice_get-get_or}
use Rattle.dh_base.proofs.ListItems.{at_item}
use Rattle.dh_tree.specs.Elements.{banks_of, entry_ports}
use Rattle.dh_tree.specs.Shapes.{IsMemory, IsProgramTable}
use Rattle.dh_tree.specs.Tables.{elements_of, elements_in, most_elements}
use Rattle.dh_tree.specs.declared.tables.MemEntry.{MemEntry}
use Rattle.dh_net.specs.BankPorts.{port_count, first_port, port_number}
use Rattle.dh_extents.specs.Extents.{IsSmallMemory}
use Rattle.dh_extents.proofs.DimSizes.{banks_fit}
use Rattle.dh_sim.specs.Layouts.{firsts_from, firsts_of}

pub firsts_long : (n : ℕ) (es : List MemEntry) → length (firsts_from n es) ≡ length es
firsts_long n [] = refl
firsts_long n (e ∷ es) = ap suc (firsts_long (n + port_count e) es)

firsts_at : (n : ℕ) (es : List MemEntry) (m : ℕ) → m < length es → get_or (firsts_from n es) m 0 ≡ n + first_port es m
firsts_at n [] m h = absurd (omega (arith, h))
firsts_at n (e ∷ es) zero h = plain n
  where
    plain : (n : ℕ) → n ≡ n + 0
    plain n = omega arith
firsts_at n (e ∷ es) (suc m) h = firsts_at (n + port_count e) es m (omega (arith, h)) ∙ grouped n (port_count e) (first_port es m)
  where
    grouped : (a b c : ℕ) → a + b + c ≡ a + (b + c)
    grouped a b c = omega arith

-- the place of the first port of a memory
pub first_is : (table : List MemEntry) (firsts : List ℕ) (m : ℕ) → firsts ≡ firsts_of table → m < length table → get_or firsts m 0 ≡ first_port table m
first_is table firsts m is h = ap (λ l. get_or l m 0) is ∙ (firsts_at 0 table m h ∙ plain (first_port table m))
  where
    plain : (n : ℕ) → 0 + n ≡ n
    plain n = omega arith

pub first_there : (table : List MemEntry) (firsts : List ℕ) (m : ℕ) → firsts ≡ firsts_of table → m < length table → m < length firsts
first_there table firsts m is h = let long = ap length is ∙ firsts_long 0 table in omega (arith, long, h)

-- the walk: these places so far, this one next, and these memories left
pub record Listing (firsts : List ℕ) (next : ℕ) (table rest : List MemEntry) : Type 0 where
  pub so_far : firsts ++ firsts_from next rest ≡ firsts_of table
  pub left : AllByRecursion IsMemory rest
  pub few : next + 8 * elements_in rest ≤ 8 * most_elements

pub listing_starts : (table : List MemEntry) → IsProgramTable table → Listing [] 0 table table
listing_starts table h = let few = h.elements in record { so_far = refl; left = h.entries; few = omega (arith, few) }

-- a memory has few ports
few_ports : (e : MemEntry) → IsMemory e → port_count e ≤ 8 * elements_of e.shape.dims
few_ports e h =
    let product = mul-le (banks_of e.shape.dims) e.shape.ports (elements_of e.shape.dims) 8 (banks_fit e.shape.dims h.shape.dims) h.shape.most in
    omega (arith, product)

module _ (firsts : List ℕ) (next : ℕ) (table : List MemEntry) (i : ℕ) (e : MemEntry) (inside : i < length table) (is : e ≡ get_or table i e)
    (so : Listing firsts next table (drop i table)) where
  here : Listing firsts next table (e ∷ drop (i + 1) table)
  here = subst (λ (es : List MemEntry). Listing firsts next table es) (at_item table i e inside is) so

  pub memory_here : IsSmallMemory e
  memory_here = let few = here.few in record { memory = here.left.0; few = omega (arith, few) }

  pub next_small : (count : ℕ) → count ≡ port_count e → next + count < 2 ^ 64
  next_small count told = let few = here.few in let ports = few_ports e here.left.0 in omega (arith, few, ports, told)

  pub listing_goes : (more : List ℕ) (after : ℕ) → more ≡ firsts ++ next ∷ [] → after ≡ next + port_count e → Listing more after table (drop (i + 1) table)
  listing_goes more after pushed step =
      let few = here.few in
      let ports = few_ports e here.left.0 in
      record {
        so_far = ap (λ l. l ++ firsts_from after (drop (i + 1) table)) pushed
            ∙ (append_assoc firsts (next ∷ []) (firsts_from after (drop (i + 1) table))
            ∙ (ap (λ n. firsts ++ next ∷ firsts_from n (drop (i + 1) table)) step ∙ here.so_far));
        left = here.left.1;
        few = omega (arith, few, ports, step);
      }

pub listing_ends : (firsts : List ℕ) (next : ℕ) (table : List MemEntry) (i : ℕ) → length table ≤ i → Listing firsts next table (drop i table) → firsts ≡ firsts_of table
listing_ends firsts next table i past so =
    sym (nothing_more firsts) ∙ (ap (λ es. firsts ++ firsts_from next es) (sym (drop_of_length-le table past)) ∙ so.so_far)
  where
    nothing_more : (l : List ℕ) → l ++ [] ≡ l
    nothing_more l = append-nil l

-- the number of a port, from the place of the first one of its memory
pub number_is : (table : List MemEntry) (firsts : List ℕ) (m bank port : ℕ) (d : MemEntry) → firsts ≡ firsts_of table → m < length table
    → get_or firsts m 0 + (bank * (get_or table m d).shape.ports + port) ≡ port_number table m bank port
number_is table firsts m bank port d is h =
    ap (λ n. n + (bank * (get_or table m d).shape.ports + port)) (first_is table firsts m is h)
    ∙ ap (λ n. first_port table m + (bank * n + port)) (sym (ap entry_ports (slice_get-get_or table m d h)))

-- the same as the code adds it up
pub number_at : (table : List MemEntry) (firsts : List ℕ) (m bank port : ℕ) (d : MemEntry) (first b p : ℕ) → firsts ≡ firsts_of table → m < length table
    → first ≡ get_or firsts m first → b ≡ bank → p ≡ port → first + (b * (get_or table m d).shape.ports + p) ≡ port_number table m bank port
number_at table firsts m bank port d first b p is h at same_bank same_port =
    let there = at ∙ get_or_default firsts m first 0 (first_there table firsts m is h) in
    ap (λ n. n + (b * (get_or table m d).shape.ports + p)) there
    ∙ (ap (λ n. get_or firsts m 0 + (n * (get_or table m d).shape.ports + p)) same_bank
    ∙ (ap (λ n. get_or firsts m 0 + (bank * (get_or table m d).shape.ports + n)) same_port ∙ number_is table firsts m bank port d is h))

-- no part of a small sum is too great
pub parts_small : (x y z n : ℕ) → x + (y + z) ≡ n → n < 2 ^ 64 → (y < 2 ^ 64) × ((y + z < 2 ^ 64) × (x + (y + z) < 2 ^ 64))
parts_small x y z n e h = (omega (arith, e, h), (omega (arith, e, h), omega (arith, e, h)))

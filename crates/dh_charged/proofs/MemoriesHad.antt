-- Each access of a ready program is of a memory, of which the bank that it reaches is one.
use Rattle.std.proofs.Common.{◌≡◌, ℕ, ◌<◌, ◌≤◌, ◌*◌, ◌^◌, ◌%◌, List, [], ◌∷◌, length, Option, Some, None, refl, sym, subst, arith}
use Rattle.std.specs.Prelude.{slice_get}
use Rattle.std.specs.List.{AllByRecursion}
use Rattle.std.proofs.Math.Nat.{mod-lt}
use Rattle.dh_tree.specs.declared.tables.Dim.{Dim}
use Rattle.dh_tree.specs.Counters.{counters_of}
use Rattle.dh_tree.specs.Elements.{banks_of, bank_of, dims_at}
use Rattle.dh_tree.specs.Memories.{entry_of, memories_of, memory_in, number_in, table_of}
use Rattle.dh_tree.specs.PlainTrees.{Program}
use Rattle.dh_tree.specs.Ready.{IsReady}
use Rattle.dh_tree.specs.Shapes.{IsDim, most_banks}
use Rattle.dh_tree.proofs.BankElements.{place_below}
use Rattle.dh_meaning.specs.CoreOf.{dims_by, entity_number}
use Rattle.dh_meaning.specs.Paths.{Path}
use Rattle.dh_meaning.specs.Ways.{Way, way_to}
use Rattle.dh_meets.specs.Charges.{bank_reached, indices_in}
use Rattle.dh_meets.specs.SourceEvents.{Element, with_indices, in_row, SourceAccess, accesses_in, trace}
use Rattle.dh_sound.specs.BlockTold.{IsOfMemory}
use Rattle.dh_sound.proofs.BanksReached.{declared_dims, numbered}
use Rattle.dh_sound.specs.IndexValues.{IsByIndices}
use Rattle.dh_sound.proofs.IndicesKeep.{BankLies, access_keeps}
use Rattle.dh_sound.proofs.IndicesThrough.{keeps_through}
use Rattle.dh_sound.proofs.OwnMemories.{itself}
use Rattle.dh_sound.proofs.PortsKept.{typed_program}
use Rattle.dh_sound.proofs.SortsOfPrograms.{accesses_declared}
use Rattle.dh_sound.proofs.ViewedWays.{kept_ways_lead}
use Rattle.dh_expressions.proofs.ListPlaces.{place_within}
use Rattle.dh_charged.specs.ChargedUses.{IsOfSmallMemory}
use Rattle.dh_charged.specs.AccessMemories.{HaveMemories, ReadyHaveMemories}
use Rattle.dh_charged.proofs.ShiftsKept.{ways_keep_shifts}

banks_some : (dims : List Dim) → AllByRecursion IsDim dims → 1 ≤ banks_of dims
banks_some [] h = omega arith
banks_some (d ∷ ds) h = both d.banks (banks_of ds) h.0.banks (banks_some ds h.1)
  where
    both : (a b : ℕ) → 1 ≤ a → 1 ≤ b → 1 ≤ a * b
    both a b e f = let g = place_below 0 b 0 a (omega (arith, e)) (omega (arith, f)) in omega (arith, g)

bank_low : (dims : List Dim) (is : List ℕ) → AllByRecursion IsDim dims → bank_of dims is < banks_of dims
bank_low [] is h = omega arith
bank_low (d ∷ ds) [] h = banks_some (d ∷ ds) h
bank_low (d ∷ ds) (i ∷ is) h = place_below (i % d.banks) (banks_of ds) (bank_of ds is) d.banks (mod-lt i {m = d.banks} h.0.banks) (bank_low ds is h.1)

-- the bank that is reached is one of the memory's
reached_low : (p : Program) (dims : List Dim) (a : SourceAccess) (path : Path) (e : Element) → AllByRecursion IsDim dims → BankLies dims e → bank_reached (counters_of p) dims a path e < banks_of dims
reached_low p dims a path (with_indices indices) h lies = bank_low dims (indices_in (counters_of p) a.site.loops path indices) h
reached_low p dims a path (in_row bank row) h lies = lies

-- an access by its indices reaches one
indices_low : (p : Program) (dims : List Dim) (a : SourceAccess) (path : Path) (e : Element) → AllByRecursion IsDim dims → IsByIndices e → bank_reached (counters_of p) dims a path e < banks_of dims
indices_low p dims a path (with_indices indices) h by = bank_low dims (indices_in (counters_of p) a.site.loops path indices) h
indices_low p dims a path (in_row bank row) h by = absurd by

module _ (p : Program) (ready : IsReady p) (few : length (table_of p) ≤ 2 ^ 32) (banks : (memory : ℕ) → banks_of (dims_at (table_of p) memory) ≤ 2 ^ 32) where
  below : (n l : ℕ) → n < l → l ≤ 2 ^ 32 → n < 2 ^ 32
  below n l h g = omega (arith, h, g)

  -- what is reached of what is named, a memory or a view
  record Named (a : SourceAccess) (dims : List Dim) : Type 0 where
    inside : (path : Path) → bank_reached (counters_of p) dims a path a.element < banks_of dims
    fits : banks_of dims ≤ 2 ^ 32

  named_of : (a : SourceAccess) (k : ℕ) → slice_get (accesses_in (trace p)) k ≡ Some a → (m : IsOfMemory p a) → (o : Option Way) → way_to p a.entity ≡ o → Named a (dims_by m.memory.shape.dims o)
  named_of a k at m None unled =
      let here : memory_in (memories_of p) a.entity ≡ Some m.memory = subst (λ (o : Option ℕ). memory_in (memories_of p) o ≡ Some m.memory) (sym (itself p a.entity m.entity unled m.is)) m.declared in
      let keeps = access_keeps p ready.indices ready.views k a at m.memory here in
      record {
        inside = λ path. reached_low p m.memory.shape.dims a path a.element keeps.dims keeps.bank;
        fits = subst (λ (ds : List Dim). banks_of ds ≤ 2 ^ 32) (declared_dims (memories_of p) (Some m.entity) m.memory m.declared) (banks (entity_number (number_in (memories_of p) (Some m.entity))));
      }
  named_of a k at m (Some w) led =
      let lead = kept_ways_lead p ready a.entity w led in
      record {
        inside = λ path. indices_low p w.is.shape.dims a path a.element lead.own.own.dims (keeps_through p ready.indices ready.views k a at w led).indices;
        fits = most (banks_of w.is.shape.dims) lead.own.own.few_banks;
      }
    where
      most : (n : ℕ) → n ≤ most_banks → n ≤ 2 ^ 32
      most n h = grind (arith, h)

  of_small : (a : SourceAccess) (k : ℕ) → slice_get (accesses_in (trace p)) k ≡ Some a → IsOfMemory p a → IsOfSmallMemory p a
  of_small a k at m =
      let place = numbered (memories_of p) (Some m.entity) m.memory m.declared in
      let named = named_of a k at m (way_to p a.entity) refl in
      record {
        entity = m.entity;
        memory = m.memory;
        number = place.0;
        is = m.is;
        declared = m.declared;
        number_is = place.1.0;
        small = below place.0 (length (table_of p)) (place_within (table_of p) place.0 (entry_of m.memory) place.1.1) few;
        inside = named.inside;
        few = named.fits;
        leads = λ w led. kept_ways_lead p ready a.entity w led;
        shifts = λ w led. ways_keep_shifts p a.entity w led;
      }

  have_memories : HaveMemories p
  have_memories k a at = of_small a k at (accesses_declared p ready (typed_program p ready) k a at)

pub ready_have_memories : ReadyHaveMemories
ready_have_memories p ready few banks = have_memories p ready few banks

-- An access in range reaches the bank that the rules on ports take it to reach. A literal is its own value. An
-- iterator with a constant stands, where its dimension has more than one bank, in a loop whose factor is a
-- multiple of the banks: so from turn to turn its value grows by such a multiple, and its residue is that of the
-- first turn. Any other index stands in a dimension with one bank.
use Rattle.std.proofs.Common.{◌≡◌, ℕ, suc, ◌+◌, ◌*◌, ◌/◌, ◌%◌, ◌<◌, ◌≤◌, ◌==◌, ◌&&◌, not, Bool, true, false, nat_lt, if◌then◌else◌, List, [], ◌∷◌, ◌++◌, map, Option, Some, None, refl, sym, ap, subst, ◌∙◌, arith}
use Rattle.std.specs.Prelude.{ℤ, pos, negsuc, ◌+ℤ◌, int_le, unsigned_abs, slice_get, slice_index_or, option_map}
use Rattle.std.specs.List.{AllByRecursion}
use Rattle.std.proofs.lemmas.Bool.Decides.{nat_tests}
use Rattle.std.proofs.lemmas.Bool.{eqb-true, eq-eqb}
use Rattle.std.proofs.lemmas.Int.{ints}
use Rattle.std.proofs.lemmas.Nat.{div-add-mod'}
use Rattle.std.proofs.Math.Nat.{mod-eq_of_lt, mod-one, add-mul-mod_self_right}
use Rattle.dh_base.specs.declared.places.Place.{Place}
use Rattle.dh_base.specs.declared.rules.Rule.TheVariants.{BankUnroll, DynamicBank}
use Rattle.dh_value.specs.declared.kinds.Kind.{Kind}
use Rattle.dh_value.specs.declared.operators.Op.{Op}
use Rattle.dh_value.specs.declared.operators.Op.TheVariants as op
use Rattle.dh_value.specs.Words as words
use Rattle.dh_tree.specs.declared.breaches.Breach.{Breach}
use Rattle.dh_tree.specs.declared.tables.Dim.{Dim}
use Rattle.dh_tree.specs.declared.tables.MemEntry.{MemEntry}
use Rattle.dh_tree.specs.declared.trees.counters.Counter.{Counter}
use Rattle.dh_tree.specs.Counters.{counters_of, counter_in}
use Rattle.dh_tree.specs.Elements.{Spot, spot_of, spot_in_bank, entry_dims, dims_at, banks_of, bank_of}
use Rattle.dh_tree.specs.Indices.{IndexKind, constant, iterator, dynamic, all_fit, counted, sum_kind, form_of, index_kind, one_index_breaches, indices_breaches}
use Rattle.dh_tree.specs.Kinds.{when}
use Rattle.dh_tree.specs.LeastBreach.{breach}
use Rattle.dh_tree.specs.Memories.{Memory, memories_of, memory_in, number_in, table_of, entry_of, same_entity}
use Rattle.dh_tree.specs.PlainTrees.{term, TermForm, number, truth_value, named, accessed, in_bank, applied, converted, Terms, no_terms, term_then, Program}
use Rattle.dh_tree.specs.Shapes.{IsDim}
use Rattle.dh_meaning.specs.AccessNumbers.{term_accesses}
use Rattle.dh_meaning.specs.Core.{Reach, Target, by_indices, by_row}
use Rattle.dh_meaning.specs.CoreOf.{Known, known_of, dims_by, entity_number, core_term, core_terms}
use Rattle.dh_meaning.specs.Effects.{Begun, Variables, is_inside, is_row, spot_by_indices, spot_by_row, value_of_term, values_of, spot_reached}
use Rattle.dh_meaning.specs.Paths.{Path}
use Rattle.dh_meets.specs.Charges.{level_of_loop, index_in, indices_in, bank_reached, reaches_in}
use Rattle.dh_meets.specs.SourceEvents.{Element, with_indices, in_row, SourceAccess}
use Rattle.dh_sound.specs.IndexValues.{AllHaveIndexKinds, copy_at, AllInTurn, IsUnrolledLoop, IsIndexValue, HasCopy, HasElementKinds, ElementInTurn, element_breaches, IsLegalAccess, IsReached}
use Rattle.dh_sound.proofs.ValuesOfIndices.{index_value}
use Rattle.dh_meets.specs.Charges.{reaches_by}
use Rattle.dh_meaning.specs.Ways.{Way, base_of, way_to}
use Rattle.dh_sound.proofs.OwnMemories.{itself}

-- One dimension.

pub first_none : {A : Type 0} (xs ys : List A) → xs ++ ys ≡ [] → xs ≡ []
first_none [] ys e = refl
first_none (x ∷ xs) ys e = cc

pub second_none : {A : Type 0} (xs ys : List A) → xs ++ ys ≡ [] → ys ≡ []
second_none [] ys e = e
second_none (x ∷ xs) ys e = cc

not_so : (b : Bool) (x : Breach) → when b (x ∷ []) ≡ [] → b ≡ false
not_so true x e = cc
not_so false x e = refl

one_bank : (banks : ℕ) → 1 ≤ banks → nat_lt 1 banks ≡ false → banks ≡ 1
one_bank banks h e = let small : banks ≤ 1 = at_most banks e in omega (arith, h, small)
  where
    at_most : (n : ℕ) → nat_lt 1 n ≡ false → n ≤ 1
    at_most n e = grind (arith, nat_tests)

mod_one : (a b banks : ℕ) → banks ≡ 1 → a % banks ≡ b % banks
mod_one a b banks e = ap (λ n. a % n) e ∙ (mod-one a ∙ (sym (mod-one b) ∙ sym (ap (λ n. b % n) e)))

-- a multiple of more than one bank that is not 0 is more than 1
unrolled : (factor banks : ℕ) → nat_lt 1 banks ≡ true → 1 ≤ factor → factor % banks ≡ 0 → nat_lt 1 factor ≡ true
unrolled factor banks e h z = by (nat_lt 1 factor) refl
  where
    above : (n : ℕ) → nat_lt 1 n ≡ true → 1 < n
    above n e = grind (arith, nat_tests)

    at_most : (n : ℕ) → nat_lt 1 n ≡ false → n ≤ 1
    at_most n e = grind (arith, nat_tests)

    by : (b : Bool) → nat_lt 1 factor ≡ b → b ≡ true
    by true f = refl
    by false f =
        let small = at_most factor f in
        let one : factor ≡ 1 = omega (arith, small, h) in
        let same : 1 ≡ 0 = sym (mod-eq_of_lt (above banks e)) ∙ (ap (λ n. n % banks) (sym one) ∙ z) in
        absurd (omega (arith, same))

-- from turn to turn the residue stays
turn_residue : (low turn factor copy banks : ℕ) (offset z : ℤ) → int_le (pos 0) (pos low +ℤ offset) ≡ true → factor % banks ≡ 0 → z ≡ pos (low + turn * factor + copy) +ℤ offset → unsigned_abs z % banks ≡ unsigned_abs (pos (low + copy) +ℤ offset) % banks
turn_residue low turn factor copy banks offset z least e is =
    ap (λ x. unsigned_abs x % banks) is ∙ by (pos low +ℤ offset) refl least
  where
    quotient : ℕ
    quotient = factor / banks

    multiple : turn * factor ≡ turn * quotient * banks
    multiple =
        let whole : quotient * banks + factor % banks ≡ factor = div-add-mod' factor banks in
        let same : factor ≡ quotient * banks = omega (arith, whole, e) in
        ap (λ n. turn * n) same ∙ again quotient
      where
        again : (q : ℕ) → turn * (q * banks) ≡ turn * q * banks
        again q = omega arith

    later : (n : ℕ) (x : ℤ) → pos low +ℤ offset ≡ x → pos (low + n + copy) +ℤ offset ≡ x +ℤ pos (copy + n)
    later n x f = omega (arith, ints)

    first : (x : ℤ) → pos low +ℤ offset ≡ x → pos (low + copy) +ℤ offset ≡ x +ℤ pos copy
    first x f = omega (arith, ints)

    by : (x : ℤ) → pos low +ℤ offset ≡ x → int_le (pos 0) x ≡ true → unsigned_abs (pos (low + turn * factor + copy) +ℤ offset) % banks ≡ unsigned_abs (pos (low + copy) +ℤ offset) % banks
    by (pos a) f l =
        ap (λ y. unsigned_abs y % banks) (later (turn * factor) (pos a) f)
        ∙ (ap (λ n. (a + (copy + n)) % banks) multiple
        ∙ (ap (λ n. n % banks) (grouped (turn * quotient * banks))
        ∙ (add-mul-mod_self_right (a + copy) (turn * quotient) banks
        ∙ sym (ap (λ y. unsigned_abs y % banks) (first (pos a) f)))))
      where
        grouped : (n : ℕ) → a + (copy + n) ≡ a + copy + n
        grouped n = omega arith
    by (negsuc a) f l = absurd (omega (arith, ints, l))

-- the loop of an index has a copy
abbrev AtLeastOne : IndexKind → Type 0
AtLeastOne (constant w) = Unit {0}
AtLeastOne (iterator c offset) = HasCopy c
AtLeastOne dynamic = Unit {0}

-- the residue of an index that breaks no rule is that of the rules
pub index_bank : (loops : List Counter) (path : Path) (d : Dim) (place : Place) (k : IndexKind) (z : ℤ) → IsDim d → AtLeastOne k → one_index_breaches d place k ≡ [] → IsIndexValue IsUnrolledLoop loops path k z → unsigned_abs z % d.banks ≡ index_in loops path k % d.banks
index_bank loops path d place (constant w) z h a e v = ap (λ x. unsigned_abs x % d.banks) v
index_bank loops path d place dynamic z h a e v = mod_one _ _ d.banks (one_bank d.banks h.banks (not_so (nat_lt 1 d.banks) (breach DynamicBank place) e))
index_bank loops path d place (iterator c offset) z h a e v = by (nat_lt 1 d.banks) refl (not_so _ (breach BankUnroll place) e)
  where
    divided : (b : Bool) → not b ≡ false → b ≡ true
    divided true f = refl
    divided false f = cc

    by : (b : Bool) → nat_lt 1 d.banks ≡ b → (b && not (c.factor % d.banks == 0)) ≡ false → unsigned_abs z % d.banks ≡ index_in loops path (iterator c offset) % d.banks
    by false f g = mod_one _ _ d.banks (one_bank d.banks h.banks f)
    by true f g =
        let zero = eqb-true (c.factor % d.banks) 0 (divided (c.factor % d.banks == 0) g) in
        let more = unrolled c.factor d.banks f a zero in
        let w = v more in
        let copy : copy_at loops path c ≡ slice_index_or path (level_of_loop loops c.entity) 0 = ap (λ x. if x then slice_index_or path (level_of_loop loops c.entity) 0 else 0) more in
        turn_residue c.low w.in_turn.turn c.factor (slice_index_or path (level_of_loop loops c.entity) 0) d.banks offset z w.least zero
        (w.is ∙ (ap (λ x. x +ℤ offset) w.in_turn.is ∙ ap (λ n. pos (c.low + w.in_turn.turn * c.factor + n) +ℤ offset) copy))

-- the loop that is found of an entity has a copy
found_copy : (cs : List Counter) (entity : Option ℕ) (c : Counter) → AllByRecursion HasCopy cs → counter_in cs entity ≡ Some c → HasCopy c
found_copy [] entity c h e = absurd cc
found_copy (x ∷ cs) entity c h e = by (same_entity x.entity entity) e (found_copy cs entity c h.1)
  where
    by : (b : Bool) → (if b then Some x else counter_in cs entity) ≡ Some c → (counter_in cs entity ≡ Some c → HasCopy c) → HasCopy c
    by true f r = let same : x ≡ c = cc in subst HasCopy same h.0
    by false f r = r f

counted_copy : (cs : List Counter) (k : Option Kind) (entity : Option ℕ) (offset : ℤ) → AllByRecursion HasCopy cs → AtLeastOne (counted k (counter_in cs entity) offset)
counted_copy cs k entity offset h = by (counter_in cs entity) refl
  where
    either : (b : Bool) (c : Counter) → HasCopy c → AtLeastOne (if b then iterator c offset else dynamic)
    either true c f = f
    either false c f = tt

    by : (o : Option Counter) → counter_in cs entity ≡ o → AtLeastOne (counted k o offset)
    by None f = tt
    by (Some c) f = either (all_fit k c offset) c (found_copy cs entity c h f)

sum_copy : (cs : List Counter) (k : Option Kind) (o : Op) (f g : TermForm) → AllByRecursion HasCopy cs → AtLeastOne (sum_kind cs k o f g)
sum_copy cs k op.Add (number s m) (number z n) h = tt
sum_copy cs k op.Add (number s m) (truth_value y) h = tt
sum_copy cs k op.Add (number s m) (named q) h = counted_copy cs k q.entity _ h
sum_copy cs k op.Add (number s m) (accessed q us) h = tt
sum_copy cs k op.Add (number s m) (in_bank q other to u) h = tt
sum_copy cs k op.Add (number s m) (applied p c d) h = tt
sum_copy cs k op.Add (number s m) (converted y l) h = tt
sum_copy cs k op.Add (named r) (number z n) h = counted_copy cs k r.entity _ h
sum_copy cs k op.Add (named r) (truth_value y) h = tt
sum_copy cs k op.Add (named r) (named q) h = tt
sum_copy cs k op.Add (named r) (accessed q us) h = tt
sum_copy cs k op.Add (named r) (in_bank q other to u) h = tt
sum_copy cs k op.Add (named r) (applied p c d) h = tt
sum_copy cs k op.Add (named r) (converted y l) h = tt
sum_copy cs k op.Add (truth_value a) g h = tt
sum_copy cs k op.Add (accessed r ts) g h = tt
sum_copy cs k op.Add (in_bank r bank at t) g h = tt
sum_copy cs k op.Add (applied o a b) g h = tt
sum_copy cs k op.Add (converted a j) g h = tt
sum_copy cs k op.Sub (named r) (number z n) h = counted_copy cs k r.entity _ h
sum_copy cs k op.Sub (named r) (truth_value y) h = tt
sum_copy cs k op.Sub (named r) (named q) h = tt
sum_copy cs k op.Sub (named r) (accessed q us) h = tt
sum_copy cs k op.Sub (named r) (in_bank q other to u) h = tt
sum_copy cs k op.Sub (named r) (applied p c d) h = tt
sum_copy cs k op.Sub (named r) (converted y l) h = tt
sum_copy cs k op.Sub (number s m) g h = tt
sum_copy cs k op.Sub (truth_value a) g h = tt
sum_copy cs k op.Sub (accessed r ts) g h = tt
sum_copy cs k op.Sub (in_bank r bank at t) g h = tt
sum_copy cs k op.Sub (applied o a b) g h = tt
sum_copy cs k op.Sub (converted a j) g h = tt
sum_copy cs k op.Mul f g h = tt
sum_copy cs k op.And f g h = tt
sum_copy cs k op.Or f g h = tt
sum_copy cs k op.Xor f g h = tt
sum_copy cs k op.Shl f g h = tt
sum_copy cs k op.Shr f g h = tt
sum_copy cs k op.Lt f g h = tt
sum_copy cs k op.Gt f g h = tt
sum_copy cs k op.Le f g h = tt
sum_copy cs k op.Ge f g h = tt
sum_copy cs k op.Eq f g h = tt
sum_copy cs k op.Ne f g h = tt
sum_copy cs k op.Both f g h = tt
sum_copy cs k op.Either f g h = tt

index_copy : (cs : List Counter) (k : Option Kind) (f : TermForm) → AllByRecursion HasCopy cs → AtLeastOne (index_kind cs k f)
index_copy cs k (number negative n) h = tt
index_copy cs k (truth_value value) h = tt
index_copy cs k (named r) h = counted_copy cs k r.entity (pos 0) h
index_copy cs k (accessed r ts) h = tt
index_copy cs k (in_bank r bank at t) h = tt
index_copy cs k (applied o a b) h = sum_copy cs k o (form_of a) (form_of b) h
index_copy cs k (converted a to) h = tt

-- All dimensions.

module _ (b : Begun) (v : Variables) (path : Path) (known : Known) (cs loops : List Counter) (copies : AllByRecursion HasCopy cs) where
  -- the bank of indices that break no rule
  pub bank_of_indices : (n : ℕ) (dims : List Dim) (ts : Terms) → AllByRecursion IsDim dims → AllHaveIndexKinds cs ts → AllInTurn known cs loops path v ts → indices_breaches cs dims ts ≡ []
      → bank_of dims (map unsigned_abs (values_of b v path (core_terms known n ts))) ≡ bank_of dims (indices_in cs loops path ts)
  bank_of_indices n [] no_terms h k t e = refl
  bank_of_indices n [] (term_then (term place kind form) ts) h k t e = refl
  bank_of_indices n (d ∷ ds) no_terms h k t e = refl
  bank_of_indices n (d ∷ ds) (term_then (term place kind form) ts) h k t e =
      let z : ℤ = words.value_of (value_of_term b v path (core_term known n (term place kind form))) in
      let first = index_bank loops path d place (index_kind cs kind form) z h.0 (index_copy cs kind form copies) (first_none (one_index_breaches d place (index_kind cs kind form)) _ e) (index_value IsUnrolledLoop b v path known cs loops n (term place kind form) k.0 t.0) in
      let rest = bank_of_indices (n + term_accesses (term place kind form)) ds ts h.1 k.1 t.1 (second_none (one_index_breaches d place (index_kind cs kind form)) _ e) in
      ap (λ x. x * banks_of ds + bank_of ds (map unsigned_abs (values_of b v path (core_terms known (n + term_accesses (term place kind form)) ts)))) first
      ∙ ap (λ x. (index_in loops path (index_kind cs kind form) % d.banks) * banks_of ds + x) rest

-- Spots.

-- an element by its indices lies in the bank of these
pub spot_indices : (table : List MemEntry) (memory : ℕ) (zs : List ℤ) (s : Spot) → spot_by_indices table memory zs ≡ Some s → (s.memory ≡ memory) × (s.bank ≡ bank_of (dims_at table memory) (map unsigned_abs zs))
spot_indices table memory zs s e = by (is_inside (dims_at table memory) zs) e
  where
    is : spot_of table memory (map unsigned_abs zs) ≡ s → (s.memory ≡ memory) × (s.bank ≡ bank_of (dims_at table memory) (map unsigned_abs zs))
    is f = (sym (ap (λ (x : Spot). x.memory) f), sym (ap (λ (x : Spot). x.bank) f))

    by : (i : Bool) → (if i then Some (spot_of table memory (map unsigned_abs zs)) else None) ≡ Some s → (s.memory ≡ memory) × (s.bank ≡ bank_of (dims_at table memory) (map unsigned_abs zs))
    by true f = is cc
    by false f = absurd cc

-- one by a row lies in its bank
pub spot_row : (table : List MemEntry) (memory bank : ℕ) (row : ℤ) (s : Spot) → spot_by_row table memory bank row ≡ Some s → (s.memory ≡ memory) × (s.bank ≡ bank)
spot_row table memory bank row s e = by (is_row (dims_at table memory) row) e
  where
    is : spot_in_bank table memory bank (unsigned_abs row) ≡ s → (s.memory ≡ memory) × (s.bank ≡ bank)
    is f = (sym (ap (λ (x : Spot). x.memory) f), sym (ap (λ (x : Spot). x.bank) f))

    by : (i : Bool) → (if i then Some (spot_in_bank table memory bank (unsigned_abs row)) else None) ≡ Some s → (s.memory ≡ memory) × (s.bank ≡ bank)
    by true f = is cc
    by false f = absurd cc

-- the entry of a memory in the table
pub numbered : (ms : List Memory) (entity : Option ℕ) (m : Memory) → memory_in ms entity ≡ Some m → (i : ℕ) × ((number_in ms entity ≡ Some i) × (slice_get (map entry_of ms) i ≡ Some (entry_of m)))
numbered [] entity m e = absurd cc
numbered (x ∷ ms) entity m e = by (same_entity x.name.entity entity) e (numbered ms entity m)
  where
    by : (b : Bool) → (if b then Some x else memory_in ms entity) ≡ Some m → (memory_in ms entity ≡ Some m → (i : ℕ) × ((number_in ms entity ≡ Some i) × (slice_get (map entry_of ms) i ≡ Some (entry_of m))))
        → (i : ℕ) × (((if b then Some 0 else option_map suc (number_in ms entity)) ≡ Some i) × (slice_get (entry_of x ∷ map entry_of ms) i ≡ Some (entry_of m)))
    by true f h = let same : x ≡ m = cc in (0, (refl, ap (λ (y : Memory). Some (entry_of y)) same))
    by false f h = let r = h f in (suc r.0, (ap (option_map suc) r.1.0, r.1.1))

-- the dimensions of a memory, by its number
pub declared_dims : (ms : List Memory) (entity : Option ℕ) (m : Memory) → memory_in ms entity ≡ Some m → dims_at (map entry_of ms) (entity_number (number_in ms entity)) ≡ m.shape.dims
declared_dims ms entity m e =
    let at = numbered ms entity m e in
    ap (λ o. dims_at (map entry_of ms) (entity_number o)) at.1.0 ∙ ap entry_dims at.1.1

-- the bank that the rules take an element to lie in
abbrev element_reached : List Counter → (loops : List Counter) → List Dim → Path → Element → ℕ
element_reached cs loops dims path (with_indices indices) = bank_of dims (indices_in cs loops path indices)
element_reached cs loops dims path (in_row bank row) = bank

-- what an element of a memory is known by
abbrev pub own_target : Known → (n : ℕ) → Element → Target
own_target known n (with_indices indices) = by_indices (core_terms known n indices)
own_target known n (in_row bank row) = by_row bank (core_term known n row)

-- where an element lies, in dimensions that are those of its memory
element_bank : (b : Begun) (v : Variables) (path : Path) (known : Known) (cs loops : List Counter) (n : ℕ) (r : Reach) (element : Element) (dims : List Dim) (s : Spot)
    → AllByRecursion HasCopy cs → dims_at b.table r.memory ≡ dims → AllByRecursion IsDim dims → HasElementKinds cs element → ElementInTurn known cs loops path v element → element_breaches cs dims element ≡ []
    → spot_reached b v path r (own_target known n element) ≡ Some s
    → (s.memory ≡ r.memory) × (s.bank ≡ element_reached cs loops dims path element)
element_bank b v path known cs loops n r (with_indices indices) dims s copies is h k t e f =
    let there = spot_indices b.table r.memory (values_of b v path (core_terms known n indices)) s f in
    (there.0, there.1 ∙ (ap (λ ds. bank_of ds (map unsigned_abs (values_of b v path (core_terms known n indices)))) is ∙ bank_of_indices b v path known cs loops copies n dims indices h k t e))
element_bank b v path known cs loops n r (in_row bank row) dims s copies is h k t e f = spot_row b.table r.memory bank (words.value_of (value_of_term b v path (core_term known n row))) s f

reached_is : (cs : List Counter) (dims : List Dim) (a : SourceAccess) (path : Path) (element : Element) → element_reached cs a.site.loops dims path element ≡ bank_reached cs dims a path element
reached_is cs dims a path (with_indices indices) = refl
reached_is cs dims a path (in_row bank row) = refl

-- the element of a memory that an access reaches lies in a bank that the rules take it to reach at its path
pub itself_reaches : (p : Program) (b : Begun) (path : Path) (v : Variables) (a : SourceAccess) (n : ℕ) (r : Reach) (s : Spot) (h : IsLegalAccess p b path v a n r) → way_to p a.entity ≡ None
    → spot_reached b v path r (own_target (known_of p) n a.element) ≡ Some s → IsReached p a path h.entity r s
itself_reaches p b path v a n r s h none f =
    let is : a.entity ≡ Some h.entity = itself p a.entity h.entity none h.is in
    let declared : memory_in (memories_of p) a.entity ≡ Some h.memory = ap (memory_in (memories_of p)) is ∙ h.declared in
    let number : r.memory ≡ entity_number (number_in (memories_of p) a.entity) = h.number ∙ ap (λ o. entity_number (number_in (memories_of p) (base_of o a.entity))) none in
    let dims : dims_at b.table r.memory ≡ h.memory.shape.dims =
    ap (λ t. dims_at t r.memory) h.table ∙ (ap (dims_at (table_of p)) number ∙ declared_dims (memories_of p) a.entity h.memory declared) in
    let own : AllByRecursion IsDim h.memory.shape.dims = subst (λ (o : Option Way). AllByRecursion IsDim (dims_by h.memory.shape.dims o)) none h.dims in
    let keeps : element_breaches (counters_of p) h.memory.shape.dims a.element ≡ [] = subst (λ (o : Option Way). element_breaches (counters_of p) (dims_by h.memory.shape.dims o) a.element ≡ []) none h.keeps in
    let there = element_bank b v path (known_of p) (counters_of p) a.site.loops n r a.element h.memory.shape.dims s h.factors dims own h.kinds h.turns keeps f in
    let bank : s.bank ≡ bank_reached (counters_of p) h.memory.shape.dims a path a.element = there.1 ∙ reached_is (counters_of p) h.memory.shape.dims a path a.element in
    let same : same_entity a.entity (Some h.entity) ≡ true = ap (λ o. same_entity o (Some h.entity)) is ∙ eq-eqb h.entity h.entity refl in
    let at : reaches_in (counters_of p) (memory_in (memories_of p) (Some h.entity)) a path s.bank ≡ true =
    ap (λ o. reaches_in (counters_of p) o a path s.bank) h.declared ∙ eq-eqb _ _ (sym bank) in
    record { memory = there.0; bank = ap (λ w. reaches_by p w a path h.entity s.bank) none ∙ (ap (λ x. x && reaches_in (counters_of p) (memory_in (memories_of p) (Some h.entity)) a path s.bank) same ∙ at) }

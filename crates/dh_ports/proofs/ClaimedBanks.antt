-- Which banks an access claims: those of its memory that it reaches at some path.
use Rattle.std.proofs.Common.{◌≡◌, ℕ, zero, suc, ◌+◌, ◌*◌, ◌%◌, ◌<◌, ◌≤◌, ◌==◌, ◌&&◌, ◌||◌, nat_lt, Bool, true, false, if◌then◌else◌, List, [], ◌∷◌, ◌++◌, length, map, refl, ap, sym, ◌∙◌, subst, arith, ◌⊎◌, inl, inr, cond}
use Rattle.std.specs.Prelude.{Option, Some, None, option_map, slice_get, slice_index}
use Rattle.std.specs.List.{AllByRecursion, filter, list_any}
use Rattle.std.specs.Set.{distinct_count, unique_keys, is_member}
use Rattle.std.proofs.lemmas.Bool.{eqb-true, eq-eqb, cases_Bool, or_cases, ltb-true}
use Rattle.std.proofs.Math.Nat.{mod-lt}
use Rattle.dh_tree.specs.declared.tables.Dim.{Dim}
use Rattle.dh_tree.specs.declared.tables.MemEntry.{MemEntry}
use Rattle.dh_tree.specs.Counters.{counters_of}
use Rattle.dh_tree.specs.Elements.{banks_of, bank_of}
use Rattle.dh_tree.specs.Memories.{Memory, memories_of, memory_in, number_in, same_entity, entry_of, table_of}
use Rattle.dh_tree.specs.PlainTrees.{Term, Program}
use Rattle.dh_tree.proofs.BankElements.{place_below}
use Rattle.dh_tree.specs.Shapes.{IsDim, IsShape, IsMemory, IsProgramTable}
use Rattle.dh_meaning.specs.Ways as ways
use Rattle.dh_meaning.specs.Ways.{Way, all_bindings_of, way_to}
use Rattle.dh_meaning.specs.Paths.{Path, same_path, IsPathAmong}
use Rattle.dh_meets.specs.Charges as charges
use Rattle.dh_meets.specs.Charges.{bank_named, bank_reached, charge_by, charge_through, indices_in, key_of, may_reach, paths_of, reaches, reaches_by, reaches_in}
use Rattle.dh_meets.specs.SourceEvents.{Element, with_indices, in_row, SourceAccess}
use Rattle.dh_ways.specs.Leading.{LeadsTo, StepsLead, next_dims}
use Rattle.dh_carried.proofs.ChargedBanks.{charged_reaches, may_below, reaching_charges}
use Rattle.dh_ports.specs.declared.moves.Move.{Move}
use Rattle.dh_ports.specs.declared.moves.Move.TheVariants as move
use Rattle.dh_ports.specs.Claims.{first_bank_of, count_on, counts_to, owner_of, claims_from, claims_in, claims_at, claims_of}
use Rattle.dh_ports.specs.WritesFound.{access_can_reach}
use Rattle.dh_ports.proofs.ClaimFacts.{Declared, found, counts_long, count_at}

absurd : {A : Type 0} → ⊥ → A
absurd e = elim e [ ]

none_one : 1 ≤ 0 → ⊥
none_one e = omega (arith, e)

-- a slot is claimed
abbrev pub Claims : (slot : ℕ) → List Move → Type 0
Claims slot [] = ⊥
Claims slot (move.Claim event other keys ∷ ms) = (other ≡ slot) ⊎ Claims slot ms
Claims slot (move.Begin ∷ ms) = Claims slot ms
Claims slot (move.Next ∷ ms) = Claims slot ms
Claims slot (move.End ∷ ms) = Claims slot ms

-- all moves are claims of one event
abbrev pub IsClaimOf : (event : ℕ) → Move → Type 0
IsClaimOf event (move.Claim other slot keys) = other ≡ event
IsClaimOf event move.Begin = ⊥
IsClaimOf event move.Next = ⊥
IsClaimOf event move.End = ⊥

-- Counts.

from_all : (event slot : ℕ) (counts : List ℕ) → AllByRecursion (IsClaimOf event) (claims_from event slot counts)
from_all event slot [] = tt
from_all event slot (keys ∷ counts) = by_test (keys == 0) (from_all event (suc slot) counts)
  where
    by_test : (b : Bool) → AllByRecursion (IsClaimOf event) (claims_from event (suc slot) counts) → AllByRecursion (IsClaimOf event) ((if b then [] else move.Claim event slot keys ∷ []) ++ claims_from event (suc slot) counts)
    by_test true h = h
    by_test false h = (refl, h)

-- a bank at a place, whose count is not 0
abbrev pub BankAt : (slot base : ℕ) → List ℕ → Type 0
BankAt slot base counts = (bank : ℕ) × ((slot ≡ base + bank) × (1 ≤ slice_index counts bank))

from_claims : (event base slot : ℕ) (counts : List ℕ) → Claims slot (claims_from event base counts) → BankAt slot base counts
from_claims event base slot [] h = absurd h
from_claims event base slot (keys ∷ counts) h = by_test (cases_Bool (keys == 0)) (from_claims event (suc base) slot counts)
  where
    later : BankAt slot (suc base) counts → BankAt slot base (keys ∷ counts)
    later (bank, (e, f)) = (suc bank, (e ∙ shift base bank, f))
      where
        shift : (a b : ℕ) → suc a + b ≡ a + suc b
        shift a b = omega arith

    some : (k : ℕ) → (k == 0) ≡ false → 1 ≤ k
    some zero e = cc
    some (suc k) e = omega arith

    here : base ≡ slot → slot ≡ base + 0
    here e = sym e ∙ plus_none base
      where
        plus_none : (n : ℕ) → n ≡ n + 0
        plus_none n = omega arith

    by_test : ((keys == 0) ≡ true) ⊎ ((keys == 0) ≡ false) → (Claims slot (claims_from event (suc base) counts) → BankAt slot (suc base) counts) → BankAt slot base (keys ∷ counts)
    by_test (inl e) rest = later (rest (subst (λ (b : Bool). Claims slot ((if b then [] else move.Claim event base keys ∷ []) ++ claims_from event (suc base) counts)) e h))
    by_test (inr e) rest = elim (subst (λ (b : Bool). Claims slot ((if b then [] else move.Claim event base keys ∷ []) ++ claims_from event (suc base) counts)) e h) [
      | inl f ↦ (0, (here f, some keys e))
      | inr f ↦ later (rest f)
    ]

claims_there : (event base bank : ℕ) (counts : List ℕ) → 1 ≤ slice_index counts bank → Claims (base + bank) (claims_from event base counts)
claims_there event base zero [] h = absurd (none_one h)
claims_there event base (suc bank) [] h = absurd (none_one h)
claims_there event base zero (keys ∷ counts) h = by_test (cases_Bool (keys == 0))
  where
    plus_none : (n : ℕ) → n ≡ n + 0
    plus_none n = omega arith

    none : (k : ℕ) → 1 ≤ k → (k == 0) ≡ true → ⊥
    none k e f = none_one (subst (λ (n : ℕ). 1 ≤ n) (eqb-true k 0 f) e)

    by_test : ((keys == 0) ≡ true) ⊎ ((keys == 0) ≡ false) → Claims (base + 0) ((if keys == 0 then [] else move.Claim event base keys ∷ []) ++ claims_from event (suc base) counts)
    by_test (inl e) = absurd (none keys h e)
    by_test (inr e) = subst (λ (b : Bool). Claims (base + 0) ((if b then [] else move.Claim event base keys ∷ []) ++ claims_from event (suc base) counts)) (sym e) (inl (plus_none base))
claims_there event base (suc bank) (keys ∷ counts) h = behind (keys == 0) (subst (λ (n : ℕ). Claims n (claims_from event (suc base) counts)) (shift base bank) (claims_there event (suc base) bank counts h))
  where
    shift : (a b : ℕ) → suc a + b ≡ a + suc b
    shift a b = omega arith

    behind : (b : Bool) → Claims (base + suc bank) (claims_from event (suc base) counts) → Claims (base + suc bank) ((if b then [] else move.Claim event base keys ∷ []) ++ claims_from event (suc base) counts)
    behind true rest = rest
    behind false rest = inr rest

index_within : (xs : List ℕ) (i : ℕ) → 1 ≤ slice_index xs i → i < length xs
index_within [] zero h = absurd (none_one h)
index_within [] (suc i) h = absurd (none_one h)
index_within (x ∷ xs) zero h = some (length xs)
  where
    some : (n : ℕ) → 0 < suc n
    some n = omega arith
index_within (x ∷ xs) (suc i) h = more i (length xs) (index_within xs i h)
  where
    more : (k n : ℕ) → k < n → suc k < suc n
    more k n e = omega (arith, e)

-- Accesses.

pub all_claims : (p : Program) (event : ℕ) (a : SourceAccess) → AllByRecursion (IsClaimOf event) (claims_of p event a)
all_claims p event a = by_number (number_in (memories_of p) (owner_of p a))
  where
    by_entry : (m : ℕ) (o : Option MemEntry) → AllByRecursion (IsClaimOf event) (claims_in p event (first_bank_of (table_of p) m) o a)
    by_entry m None = tt
    by_entry m (Some e) = from_all event (first_bank_of (table_of p) m) (counts_to p e.shape.dims a (banks_of e.shape.dims))

    by_number : (o : Option ℕ) → AllByRecursion (IsClaimOf event) (claims_at p event o a)
    by_number None = tt
    by_number (Some m) = by_entry m (slice_get (table_of p) m)

-- the bank of a memory that an access reaches with some keys
pub record Claimed (p : Program) (slot : ℕ) (a : SourceAccess) : Type 0 where
  pub memory : ℕ
  pub number : ℕ
  pub bank : ℕ
  pub entry : MemEntry
  pub named : owner_of p a ≡ Some memory
  pub known : number_in (memories_of p) (Some memory) ≡ Some number
  pub stands : slice_get (table_of p) number ≡ Some entry
  pub within : bank < banks_of entry.shape.dims
  pub is : slot ≡ first_bank_of (table_of p) number + bank
  pub reached : 1 ≤ count_on p (way_to p a.entity) entry.shape.dims a bank

entity_there : (a b : Option ℕ) → same_entity a b ≡ true → (n : ℕ) × (b ≡ Some n)
entity_there None b e = cc
entity_there (Some m) None e = cc
entity_there (Some m) (Some n) e = (n, refl)

pub claimed : (p : Program) (event slot : ℕ) (a : SourceAccess) → Claims slot (claims_of p event a) → Claimed p slot a
claimed p event slot a h = by_number (number_in (memories_of p) (owner_of p a)) refl h
  where
    by_entry : (m : ℕ) → number_in (memories_of p) (owner_of p a) ≡ Some m → (o : Option MemEntry) → slice_get (table_of p) m ≡ o → Claims slot (claims_in p event (first_bank_of (table_of p) m) o a) → Claimed p slot a
    by_entry m e None f h = absurd h
    by_entry m e (Some x) f h =
        let b = from_claims event (first_bank_of (table_of p) m) slot (counts_to p x.shape.dims a (banks_of x.shape.dims)) h in
        let within : b.0 < banks_of x.shape.dims = subst (λ (n : ℕ). b.0 < n) (counts_long p x.shape.dims a (banks_of x.shape.dims)) (index_within (counts_to p x.shape.dims a (banks_of x.shape.dims)) b.0 b.1.1) in
        let mine = found (memories_of p) (owner_of p a) m e in
        let there = entity_there mine.memory.name.entity (owner_of p a) mine.same in
        record {
          memory = there.0;
          number = m;
          bank = b.0;
          entry = x;
          named = there.1;
          known = ap (number_in (memories_of p)) (sym there.1) ∙ e;
          stands = f;
          within = within;
          is = b.1.0;
          reached = subst (λ (n : ℕ). 1 ≤ n) (count_at p x.shape.dims a (banks_of x.shape.dims) b.0 within) b.1.1;
        }

    by_number : (o : Option ℕ) → number_in (memories_of p) (owner_of p a) ≡ o → Claims slot (claims_at p event o a) → Claimed p slot a
    by_number None e h = absurd h
    by_number (Some m) e h = by_entry m e (slice_get (table_of p) m) refl h

pub claims_back : (p : Program) (event slot : ℕ) (a : SourceAccess) → Claimed p slot a → Claims slot (claims_of p event a)
claims_back p event slot a c =
    subst (λ (o : Option ℕ). Claims slot (claims_at p event o a)) (sym (ap (number_in (memories_of p)) c.named ∙ c.known))
    (subst (λ (o : Option MemEntry). Claims slot (claims_in p event (first_bank_of (table_of p) c.number) o a)) (sym c.stands)
    (subst (λ (n : ℕ). Claims n (claims_from event (first_bank_of (table_of p) c.number) (counts_to p c.entry.shape.dims a (banks_of c.entry.shape.dims)))) (sym c.is)
    (claims_there event (first_bank_of (table_of p) c.number) c.bank (counts_to p c.entry.shape.dims a (banks_of c.entry.shape.dims)) (subst (λ (n : ℕ). 1 ≤ n) (sym (count_at p c.entry.shape.dims a (banks_of c.entry.shape.dims) c.bank c.within)) c.reached))))

-- Keys that are there.

module _ {A K : Type 0} (eq : K → K → Bool) (g : A → K) (t : A → Bool) where
  one_key : (ks : List K) (k : K) → 1 ≤ distinct_count eq (k ∷ ks)
  one_key [] k = omega arith
  one_key (j ∷ ks) k = by_test (is_member eq (j ∷ ks) k) (one_key ks j)
    where
      by_test : (b : Bool) → 1 ≤ distinct_count eq (j ∷ ks) → 1 ≤ length (cond b (unique_keys eq (j ∷ ks)) (k ∷ unique_keys eq (j ∷ ks)))
      by_test true e = e
      by_test false e = more (length (unique_keys eq (j ∷ ks)))
        where
          more : (n : ℕ) → 1 ≤ suc n
          more n = omega arith

  pub some_kept : (xs : List A) → 1 ≤ distinct_count eq (map g (filter t xs)) → list_any t xs ≡ true
  some_kept [] e = absurd (none_one e)
  some_kept (x ∷ xs) e = by_test (cases_Bool (t x)) (some_kept xs)
    where
      by_test : (t x ≡ true) ⊎ (t x ≡ false) → (1 ≤ distinct_count eq (map g (filter t xs)) → list_any t xs ≡ true) → (t x || list_any t xs) ≡ true
      by_test (inl f) rest = ap (λ b. b || list_any t xs) f
      by_test (inr f) rest = ap (λ b. b || list_any t xs) f ∙ rest (subst (λ (b : Bool). 1 ≤ distinct_count eq (map g (cond b (x ∷ filter t xs) (filter t xs)))) f e)

  pub kept_some : (xs : List A) → list_any t xs ≡ true → 1 ≤ distinct_count eq (map g (filter t xs))
  kept_some [] e = cc
  kept_some (x ∷ xs) e = by_test (cases_Bool (t x)) (kept_some xs)
    where
      by_test : (t x ≡ true) ⊎ (t x ≡ false) → (list_any t xs ≡ true → 1 ≤ distinct_count eq (map g (filter t xs))) → 1 ≤ distinct_count eq (map g (filter t (x ∷ xs)))
      by_test (inl f) rest = subst (λ (b : Bool). 1 ≤ distinct_count eq (map g (cond b (x ∷ filter t xs) (filter t xs)))) (sym f) (one_key (map g (filter t xs)) (g x))
      by_test (inr f) rest = subst (λ (b : Bool). 1 ≤ distinct_count eq (map g (cond b (x ∷ filter t xs) (filter t xs)))) (sym f) (rest (sym (ap (λ b. b || list_any t xs) f) ∙ e))

-- Banks that are reached.

number_there : (ms : List Memory) (entity : Option ℕ) (m : Memory) → memory_in ms entity ≡ Some m → (n : ℕ) × ((number_in ms entity ≡ Some n) × (slice_get (map entry_of ms) n ≡ Some (entry_of m)))
number_there [] entity m e = cc
number_there (x ∷ ms) entity m e = by_test (cases_Bool (same_entity x.name.entity entity)) e (number_there ms entity m)
  where
    some_same : (x y : Memory) → Some x ≡ Some y → x ≡ y
    some_same x y e = cc

    by_test : (same_entity x.name.entity entity ≡ true) ⊎ (same_entity x.name.entity entity ≡ false) → (if same_entity x.name.entity entity then Some x else memory_in ms entity) ≡ Some m
        → (memory_in ms entity ≡ Some m → (n : ℕ) × ((number_in ms entity ≡ Some n) × (slice_get (map entry_of ms) n ≡ Some (entry_of m)))) → (n : ℕ) × ((number_in (x ∷ ms) entity ≡ Some n) × (slice_get (map entry_of (x ∷ ms)) n ≡ Some (entry_of m)))
    by_test (inl f) e rest = (
      0,
      (ap (λ b. if b then Some 0 else option_map suc (number_in ms entity)) f, ap (λ (y : Memory). Some (entry_of y)) (some_same x m (sym (ap (λ b. if b then Some x else memory_in ms entity) f) ∙ e))),
    )
    by_test (inr f) e rest =
        let r = rest (sym (ap (λ b. if b then Some x else memory_in ms entity) f) ∙ e) in
        (suc r.0, (ap (λ b. if b then Some 0 else option_map suc (number_in ms entity)) f ∙ ap (option_map suc) r.1.0, r.1.1))

at_all : {A : Type 0} (P : A → Type 0) (xs : List A) (n : ℕ) (a : A) → AllByRecursion P xs → slice_get xs n ≡ Some a → P a
at_all P [] n a h e = cc
at_all P (x ∷ xs) zero a h e = let same : x ≡ a = cc in subst P same h.0
at_all P (x ∷ xs) (suc n) a h e = at_all P xs n a h.1 e

pub banks_some : (dims : List Dim) → AllByRecursion IsDim dims → 1 ≤ banks_of dims
banks_some [] h = omega arith
banks_some (d ∷ ds) h = both d.banks (banks_of ds) h.0.banks (banks_some ds h.1)
  where
    both : (a b : ℕ) → 1 ≤ a → 1 ≤ b → 1 ≤ a * b
    both a b e f = let g = place_below 0 b 0 a (omega (arith, e)) (omega (arith, f)) in omega (arith, g)

pub bank_told : (dims : List Dim) (is : List ℕ) → AllByRecursion IsDim dims → bank_of dims is < banks_of dims
bank_told [] is h = omega arith
bank_told (d ∷ ds) [] h = banks_some (d ∷ ds) h
bank_told (d ∷ ds) (i ∷ is) h = place_below (i % d.banks) (banks_of ds) (bank_of ds is) d.banks (mod-lt i {m = d.banks} h.0.banks) (bank_told ds is h.1)

-- a way leads to a memory, and the banks of what is named are those of the view
pub record LeadsAt (p : Program) (w : Way) (a : SourceAccess) : Type 0 where
  pub leads : LeadsTo (memories_of p) w
  pub inside : (path : Path) → bank_named p w a path < banks_of w.is.shape.dims

-- a bank that an access reaches is one of its memory
pub record Bounds (p : Program) (a : SourceAccess) : Type 0 where
  pub table : IsProgramTable (table_of p)
  pub ways_lead : (w : Way) → way_to p a.entity ≡ Some w → LeadsAt p w a
  pub rows : (bank : ℕ) (row : Term) (m : Memory) → a.element ≡ in_row bank row → memory_in (memories_of p) a.entity ≡ Some m → bank < banks_of m.shape.dims

reached_within : (p : Program) (a : SourceAccess) (path : Path) (m : Memory) (bank : ℕ) → Bounds p a → IsShape m.shape → memory_in (memories_of p) a.entity ≡ Some m → (e : Element) → a.element ≡ e → bank_reached (counters_of p) m.shape.dims a path e ≡ bank → bank < banks_of m.shape.dims
reached_within p a path m bank b s e (with_indices indices) f g = subst (λ (n : ℕ). n < banks_of m.shape.dims) g (bank_told m.shape.dims (indices_in (counters_of p) a.site.loops path indices) s.dims)
reached_within p a path m bank b s e (in_row other row) f g = subst (λ (n : ℕ). n < banks_of m.shape.dims) g (b.rows other row m f e)

pub path_there : (t : Path → Bool) (xs : List Path) → list_any t xs ≡ true → (x : Path) × (IsPathAmong x xs × (t x ≡ true))
path_there t [] e = cc
path_there t (x ∷ xs) e = elim (or_cases (t x) (list_any t xs) e) [ inl f ↦ (x, (inl refl, f)) | inr f ↦ (let at = path_there t xs f in (at.0, (inr at.1.0, at.1.1))) ]

pub there_path : (t : Path → Bool) (xs : List Path) (x : Path) → IsPathAmong x xs → t x ≡ true → list_any t xs ≡ true
there_path t [] x h e = absurd h
there_path t (y ∷ ys) x (inl f) e = ap (λ b. b || list_any t ys) (ap t (sym f) ∙ e)
there_path t (y ∷ ys) x (inr h) e = either (t y) (list_any t ys) (there_path t ys x h e)
  where
    either : (a b : Bool) → b ≡ true → (a || b) ≡ true
    either true b e = refl
    either false b e = e

both_true : (a b : Bool) → (a && b) ≡ true → (a ≡ true) × (b ≡ true)
both_true true b e = (refl, e)
both_true false b e = cc

named_by : (a : Option ℕ) (memory : ℕ) → same_entity a (Some memory) ≡ true → a ≡ Some memory
named_by None memory e = cc
named_by (Some n) memory e = ap (λ x. Some x) (eqb-true n memory e)

any_same : {A : Type 0} (s t : A → Bool) (xs : List A) → ((x : A) → s x ≡ t x) → list_any s xs ≡ list_any t xs
any_same s t [] f = refl
any_same s t (x ∷ xs) f = ap (λ b. b || list_any s xs) (f x) ∙ ap (λ b. t x || b) (any_same s t xs f)

-- where the memory is known, an access without views reaches what its keys reach
reaches_is : (p : Program) (a : SourceAccess) (path : Path) (memory bank : ℕ) (m : Memory) → way_to p a.entity ≡ None → a.entity ≡ Some memory → memory_in (memories_of p) (Some memory) ≡ Some m
    → reaches p a path memory bank ≡ (bank_reached (counters_of p) m.shape.dims a path a.element == bank)
reaches_is p a path memory bank m u e f =
    ap (λ w. reaches_by p w a path memory bank) u
    ∙ (ap (λ o. same_entity o (Some memory) && reaches_in (counters_of p) (memory_in (memories_of p) (Some memory)) a path bank) e
    ∙ (ap (λ b. b && reaches_in (counters_of p) (memory_in (memories_of p) (Some memory)) a path bank) (eq-eqb memory memory refl)
    ∙ ap (λ o. reaches_in (counters_of p) o a path bank) f))

-- a bank that an access reaches is claimed
pub record Reaching (p : Program) (a : SourceAccess) (memory bank : ℕ) : Type 0 where
  pub number : ℕ
  pub owner : Memory
  pub named : owner_of p a ≡ Some memory
  pub is : memory_in (memories_of p) (Some memory) ≡ Some owner
  pub known : number_in (memories_of p) (Some memory) ≡ Some number
  pub stands : slice_get (table_of p) number ≡ Some (entry_of owner)
  pub within : bank < banks_of owner.shape.dims
  pub reached : 1 ≤ count_on p (way_to p a.entity) owner.shape.dims a bank

pub reaching : (p : Program) (a : SourceAccess) (memory bank : ℕ) → Bounds p a → access_can_reach p a memory bank ≡ true → Reaching p a memory bank
reaching p a memory bank b e = by_way (way_to p a.entity) refl
  where
    at : (path : Path) × (IsPathAmong path (paths_of a) × (reaches p a path memory bank ≡ true))
    at = path_there (λ path. reaches p a path memory bank) (paths_of a) e

    reached_by : (w : Option Way) → way_to p a.entity ≡ w → reaches_by p w a at.0 memory bank ≡ true
    reached_by w u = sym (ap (λ w. reaches_by p w a at.0 memory bank) u) ∙ at.1.1

    through : (w : Way) → way_to p a.entity ≡ Some w → Reaching p a memory bank
    through w u =
        let parts = both_true (same_entity w.memory (Some memory)) (may_reach w.steps (bank_named p w a at.0) bank) (reached_by (Some w) u) in
        let l = b.ways_lead w u in
        let m = l.leads.memory in
        let name = named_by w.memory memory parts.0 in
        let is : memory_in (memories_of p) (Some memory) ≡ Some m = ap (memory_in (memories_of p)) (sym name) ∙ l.leads.found in
        let n = number_there (memories_of p) (Some memory) m is in
        let inside : (path : Path) → bank_named p w a path < banks_of (next_dims w.steps m.shape.dims) = λ path. subst (λ (ds : List Dim). bank_named p w a path < banks_of ds) (sym l.leads.first) (l.inside path) in
        record {
          number = n.0;
          owner = m;
          named = ap (λ w. ways.base_of w a.entity) u ∙ name;
          is = is;
          known = n.1.0;
          stands = n.1.1;
          within = may_below w.steps m.shape.dims (bank_named p w a at.0) bank l.leads.steps (inside at.0) parts.1;
          reached = subst (λ (w : Option Way). 1 ≤ count_on p w m.shape.dims a bank) (sym u) (reaching_charges p w a m.shape.dims bank l.leads.steps inside (record { path = at.0; there = at.1.0; reached = parts.1 }));
        }

    directly : way_to p a.entity ≡ None → (o : Option Memory) → memory_in (memories_of p) (Some memory) ≡ o → Reaching p a memory bank
    directly u None f = absurd (untrue (sym (ap (λ o. reaches_in (counters_of p) o a at.0 bank) f) ∙ (both_true (same_entity a.entity (Some memory)) (reaches_in (counters_of p) (memory_in (memories_of p) (Some memory)) a at.0 bank) (reached_by None u)).1))
      where
        untrue : false ≡ true → ⊥
        untrue e = cc
    directly u (Some m) f =
        let parts = both_true (same_entity a.entity (Some memory)) (reaches_in (counters_of p) (memory_in (memories_of p) (Some memory)) a at.0 bank) (reached_by None u) in
        let name = named_by a.entity memory parts.0 in
        let n = number_there (memories_of p) (Some memory) m f in
        let shape : IsShape m.shape = (at_all IsMemory (table_of p) n.0 (entry_of m) b.table.entries n.1.1).shape in
        record {
          number = n.0;
          owner = m;
          named = ap (λ w. ways.base_of w a.entity) u ∙ name;
          is = f;
          known = n.1.0;
          stands = n.1.1;
          within = reached_within p a at.0 m bank b shape (ap (memory_in (memories_of p)) name ∙ f) a.element refl (eqb-true _ bank (sym (ap (λ o. reaches_in (counters_of p) o a at.0 bank) f) ∙ parts.1));
          reached = subst (λ (w : Option Way). 1 ≤ count_on p w m.shape.dims a bank) (sym u)
              (kept_some same_path (key_of (all_bindings_of p) a) (λ path. bank_reached (counters_of p) m.shape.dims a path a.element == bank) (paths_of a)
              (sym (any_same (λ path. reaches p a path memory bank) (λ path. bank_reached (counters_of p) m.shape.dims a path a.element == bank) (paths_of a) (λ path. reaches_is p a path memory bank m u name f)) ∙ e));
        }

    by_way : (w : Option Way) → way_to p a.entity ≡ w → Reaching p a memory bank
    by_way None u = directly u (memory_in (memories_of p) (Some memory)) refl
    by_way (Some w) u = through w u

abbrev pub reaching_claims : (p : Program) (a : SourceAccess) (memory bank : ℕ) (r : Reaching p a memory bank) → Claimed p (first_bank_of (table_of p) r.number + bank) a
reaching_claims p a memory bank r = record { memory = memory; number = r.number; bank = bank; entry = entry_of r.owner; named = r.named; known = r.known; stands = r.stands; within = r.within; is = refl; reached = r.reached }

-- what is charged through views may be reached
through_reach : (p : Program) (a : SourceAccess) (w : Way) (memory bank : ℕ) → way_to p a.entity ≡ Some w → w.memory ≡ Some memory → (dims : List Dim) → StepsLead w.steps dims → bank < banks_of dims → 1 ≤ charge_through p w a bank → access_can_reach p a memory bank ≡ true
through_reach p a w memory bank u name dims lead below some =
    let r = charged_reaches p w a dims bank lead below some in
    there_path (λ path. reaches p a path memory bank) (paths_of a) r.path r.there
    (ap (λ w. reaches_by p w a r.path memory bank) u
    ∙ (ap (λ o. same_entity o (Some memory) && may_reach w.steps (bank_named p w a r.path) bank) name
    ∙ (ap (λ b. b && may_reach w.steps (bank_named p w a r.path) bank) (eq-eqb memory memory refl) ∙ r.reached)))

some_same : {A : Type 0} (x y : A) → Some x ≡ Some y → x ≡ y
some_same x y e = cc

-- what is claimed is reached
pub claimed_reaches : (p : Program) (slot : ℕ) (a : SourceAccess) (c : Claimed p slot a) → Bounds p a → access_can_reach p a c.memory c.bank ≡ true
claimed_reaches p slot a c b = by_way (way_to p a.entity) refl
  where
    mine : Declared (memories_of p) (Some c.memory) c.number
    mine = found (memories_of p) (Some c.memory) c.number c.known

    same : c.entry ≡ entry_of mine.memory
    same = some_same c.entry (entry_of mine.memory) (sym c.stands ∙ mine.entry)

    by_way : (w : Option Way) → way_to p a.entity ≡ w → access_can_reach p a c.memory c.bank ≡ true
    by_way None u =
        any_same (λ path. reaches p a path c.memory c.bank) (λ path. bank_reached (counters_of p) mine.memory.shape.dims a path a.element == c.bank) (paths_of a) (λ path. reaches_is p a path c.memory c.bank mine.memory u (sym (ap (λ w. ways.base_of w a.entity) u) ∙ c.named) mine.is)
        ∙ some_kept same_path (key_of (all_bindings_of p) a) (λ path. bank_reached (counters_of p) mine.memory.shape.dims a path a.element == c.bank) (paths_of a)
        (subst (λ (w : Option Way). 1 ≤ count_on p w mine.memory.shape.dims a c.bank) u (subst (λ (x : MemEntry). 1 ≤ count_on p (way_to p a.entity) x.shape.dims a c.bank) same c.reached))
    by_way (Some w) u =
        let l = b.ways_lead w u in
        let name : w.memory ≡ Some c.memory = sym (ap (λ w. ways.base_of w a.entity) u) ∙ c.named in
        let one : mine.memory ≡ l.leads.memory = some_same mine.memory l.leads.memory (sym mine.is ∙ (ap (memory_in (memories_of p)) (sym name) ∙ l.leads.found)) in
        let below : c.bank < banks_of l.leads.memory.shape.dims = subst (λ (m : Memory). c.bank < banks_of m.shape.dims) one (subst (λ (x : MemEntry). c.bank < banks_of x.shape.dims) same c.within) in
        through_reach p a w c.memory c.bank u name l.leads.memory.shape.dims l.leads.steps below (subst (λ (w : Option Way). 1 ≤ count_on p w c.entry.shape.dims a c.bank) u c.reached)

-- and what is charged
pub charged_reach : (p : Program) (a : SourceAccess) (memory bank : ℕ) → Bounds p a → 1 ≤ charge_by p (way_to p a.entity) a memory bank → access_can_reach p a memory bank ≡ true
charged_reach p a memory bank b some = by_way (way_to p a.entity) refl (subst (λ (n : ℕ). 1 ≤ n) refl some)
  where
    by_way : (w : Option Way) → way_to p a.entity ≡ w → 1 ≤ charge_by p w a memory bank → access_can_reach p a memory bank ≡ true
    by_way None u h = some_kept same_path (key_of (all_bindings_of p) a) (λ path. reaches p a path memory bank) (paths_of a) h
    by_way (Some w) u h =
        let l = b.ways_lead w u in
        let parts = charged_parts (same_entity w.memory (Some memory)) (nat_lt bank (charges.banks_in p memory)) (charge_through p w a bank) h in
        let name = named_by w.memory memory parts.0 in
        let is : memory_in (memories_of p) (Some memory) ≡ Some l.leads.memory = ap (memory_in (memories_of p)) (sym name) ∙ l.leads.found in
        through_reach p a w memory bank u name l.leads.memory.shape.dims l.leads.steps (subst (λ (n : ℕ). bank < n) (ap charges.memory_banks is) (ltb-true bank (charges.banks_in p memory) parts.1.0)) parts.1.1
      where
        charged_parts : (b c : Bool) (n : ℕ) → 1 ≤ (if b && c then n else 0) → (b ≡ true) × ((c ≡ true) × (1 ≤ n))
        charged_parts true true n h = (refl, (refl, h))
        charged_parts true false n h = absurd (none_one h)
        charged_parts false c n h = absurd (none_one h)

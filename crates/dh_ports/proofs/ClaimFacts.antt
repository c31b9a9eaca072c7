-- What an access takes of a bank is its charge there.
use Rattle.std.proofs.Common.{◌≡◌, ℕ, zero, suc, ◌+◌, ◌<◌, ◌≤◌, ◌==◌, ◌&&◌, nat_lt, Bool, true, false, if◌then◌else◌, List, [], ◌∷◌, ◌++◌, length, map, refl, ap, sym, ◌∙◌, subst, arith, ◌⊎◌, inl, inr}
use mathlib.Core.Path.{fun_ext}
use Rattle.std.specs.Prelude.{Option, Some, None, option_map, slice_get, slice_index}
use Rattle.std.specs.Option.{is_some}
use Rattle.std.specs.List.{filter}
use Rattle.std.specs.Set.{distinct_count}
use Rattle.std.proofs.lemmas.Bool.{eqb-true, eq-eqb, cases_Bool, cases_lt, lt-ltb}
use Rattle.dh_tree.specs.declared.tables.Dim.{Dim}
use Rattle.dh_tree.specs.declared.tables.MemEntry.{MemEntry}
use Rattle.dh_tree.specs.Counters.{counters_of}
use Rattle.dh_tree.specs.Elements.{banks_of}
use Rattle.dh_tree.specs.Memories.{Memory, memories_of, memory_in, number_in, same_entity, entry_of, table_of}
use Rattle.dh_tree.specs.PlainTrees.{Program}
use Rattle.dh_meaning.specs.Ways as ways
use Rattle.dh_meaning.specs.Ways.{Way, all_bindings_of, way_to}
use Rattle.dh_meaning.specs.Paths.{Path, same_path}
use Rattle.dh_ways.proofs.MemoriesUnled.{memory_unled}
use Rattle.dh_meets.specs.Charges as charges
use Rattle.dh_meets.specs.Charges.{bank_reached, key_of, paths_of, reaches, reaches_in, charge, charge_of, charge_by, reaches_by, charge_through}
use Rattle.dh_meets.specs.Sharing.{shared}
use Rattle.dh_meets.specs.SourceEvents.{SourceAccess, accesses_in, trace}
use Rattle.dh_ports.specs.declared.moves.Move.{Move}
use Rattle.dh_ports.specs.declared.moves.Move.TheVariants as move
use Rattle.dh_ports.specs.Claims.{first_bank_of, counts_to, claim_at, claims_from, claims_in, claims_at, claims_of, count_on, owner_of}
use Rattle.dh_ports.specs.Expanded.{taken_by, all_taken}
use Rattle.dh_ports.specs.Scanned.{flag_at, spending_step}
use Rattle.dh_ports.specs.Wholes.{entry_bank_count, memory_bank_count}

absurd : {A : Type 0} → ⊥ → A
absurd e = elim e [ ]

clash : (b : Bool) → b ≡ true → b ≡ false → ⊥
clash b e f = cc

some_same : {X : Type 0} (x y : X) → Some x ≡ Some y → x ≡ y
some_same x y e = cc

unequal : (n k : ℕ) → (n ≡ k → ⊥) → (n == k) ≡ false
unequal n k none = elim (cases_Bool (n == k)) [ inl e ↦ absurd (none (eqb-true n k e)) | inr e ↦ e ]

-- Claims.

module _ (flags : List Bool) (event : ℕ) (flag : Bool) (told : slice_get flags event ≡ Some flag) where
  -- what a number of keys takes, where the access shares or does not
  abbrev takes_by : ℕ → ℕ
  takes_by keys = if flag then 0 else keys

  one_claim : (slot other keys : ℕ) → all_taken other (map (spending_step flags) (claim_at event slot keys)) ≡ (if slot == other then takes_by keys else 0)
  one_claim slot other keys = by_test (cases_Bool (keys == 0))
    where
      only : (x : ℕ) → x + 0 ≡ x
      only x = omega arith

      free : (b c : Bool) → ◌≡◌ {A = ℕ} 0 (if b then (if c then 0 else 0) else 0)
      free true true = refl
      free true false = refl
      free false c = refl

      by_test : ((keys == 0) ≡ true) ⊎ ((keys == 0) ≡ false) → all_taken other (map (spending_step flags) (if keys == 0 then [] else move.Claim event slot keys ∷ [])) ≡ (if slot == other then takes_by keys else 0)
      by_test (inl e) =
          ap (λ b. all_taken other (map (spending_step flags) (if b then [] else move.Claim event slot keys ∷ []))) e
          ∙ (free (slot == other) flag ∙ ap (λ n. if slot == other then (if flag then 0 else n) else 0) (sym (eqb-true keys 0 e)))
      by_test (inr e) =
          ap (λ b. all_taken other (map (spending_step flags) (if b then [] else move.Claim event slot keys ∷ []))) e
          ∙ (only _ ∙ ap (λ (o : Option Bool). if slot == other then (if flag_at o then 0 else keys) else 0) told)

  claims_append : (other : ℕ) (xs ys : List Move) → all_taken other (map (spending_step flags) (xs ++ ys)) ≡ all_taken other (map (spending_step flags) xs) + all_taken other (map (spending_step flags) ys)
  claims_append other [] ys = from_none _
    where
      from_none : (x : ℕ) → x ≡ 0 + x
      from_none x = omega arith
  claims_append other (x ∷ xs) ys = ap (λ n. taken_by other (spending_step flags x) + n) (claims_append other xs ys) ∙ grouped _ _ _
    where
      grouped : (a b c : ℕ) → a + (b + c) ≡ (a + b) + c
      grouped a b c = omega arith

  -- outside the slots of a list of counts nothing is taken
  claims_outside : (slot other : ℕ) (counts : List ℕ) → (other < slot) ⊎ (slot + length counts ≤ other) → all_taken other (map (spending_step flags) (claims_from event slot counts)) ≡ 0
  claims_outside slot other [] out = refl
  claims_outside slot other (keys ∷ counts) out =
      claims_append other (claim_at event slot keys) (claims_from event (suc slot) counts)
      ∙ none _ _ (one_claim slot other keys ∙ ap (λ b. if b then takes_by keys else 0) (unequal slot other (λ e. apart slot other (length counts) e out))) (claims_outside (suc slot) other counts (further slot other (length counts) out))
    where
      none : (a b : ℕ) → a ≡ 0 → b ≡ 0 → a + b ≡ 0
      none a b e f = omega (arith, e, f)

      apart : (s o n : ℕ) → s ≡ o → (o < s) ⊎ (s + suc n ≤ o) → ⊥
      apart s o n e (inl f) = omega (arith, e, f)
      apart s o n e (inr f) = omega (arith, e, f)

      further : (s o n : ℕ) → (o < s) ⊎ (s + suc n ≤ o) → (o < suc s) ⊎ (suc s + n ≤ o)
      further s o n (inl f) = inl (omega (arith, f))
      further s o n (inr f) = inr (omega (arith, f))

  -- and of the slot of a count that
  claims_inside : (slot bank : ℕ) (counts : List ℕ) → bank < length counts → all_taken (slot + bank) (map (spending_step flags) (claims_from event slot counts)) ≡ takes_by (slice_index counts bank)
  claims_inside slot bank [] within = absurd (none bank within)
    where
      none : (b : ℕ) → b < 0 → ⊥
      none b e = omega (arith, e)
  claims_inside slot zero (keys ∷ counts) within =
      claims_append (slot + 0) (claim_at event slot keys) (claims_from event (suc slot) counts)
      ∙ (sums _ _ _ (one_claim slot (slot + 0) keys ∙ ap (λ b. if b then takes_by keys else 0) (eq-eqb slot (slot + 0) (none_more slot))) (claims_outside (suc slot) (slot + 0) counts (inl (before slot))))
    where
      sums : (a b n : ℕ) → a ≡ n → b ≡ 0 → a + b ≡ n
      sums a b n e f = omega (arith, e, f)

      none_more : (s : ℕ) → s ≡ s + 0
      none_more s = omega arith

      before : (s : ℕ) → s + 0 < suc s
      before s = omega arith
  claims_inside slot (suc bank) (keys ∷ counts) within =
      claims_append (slot + suc bank) (claim_at event slot keys) (claims_from event (suc slot) counts)
      ∙ sums _ _ _ (one_claim slot (slot + suc bank) keys ∙ ap (λ b. if b then takes_by keys else 0) (unequal slot (slot + suc bank) (other slot bank)))
      (ap (λ n. all_taken n (map (spending_step flags) (claims_from event (suc slot) counts))) (shift slot bank) ∙ claims_inside (suc slot) bank counts (less_one bank (length counts) within))
    where
      sums : (a b n : ℕ) → a ≡ 0 → b ≡ n → a + b ≡ n
      sums a b n e f = omega (arith, e, f)

      other : (s b : ℕ) → s ≡ s + suc b → ⊥
      other s b e = omega (arith, e)

      shift : (s b : ℕ) → s + suc b ≡ suc s + b
      shift s b = omega arith

      less_one : (b n : ℕ) → suc b < suc n → b < n
      less_one b n e = omega (arith, e)

-- Counts.

pub counts_long : (p : Program) (dims : List Dim) (a : SourceAccess) (n : ℕ) → length (counts_to p dims a n) ≡ n
counts_long p dims a zero = refl
counts_long p dims a (suc n) = longer (counts_to p dims a n) (count_on p (way_to p a.entity) dims a n) ∙ ap suc (counts_long p dims a n)
  where
    longer : (xs : List ℕ) (x : ℕ) → length (xs ++ x ∷ []) ≡ suc (length xs)
    longer [] x = refl
    longer (y ∷ xs) x = ap suc (longer xs x)

pub index_first : (xs : List ℕ) (x b : ℕ) → b < length xs → slice_index (xs ++ x ∷ []) b ≡ slice_index xs b
index_first [] x b e = absurd (none b e)
  where
    none : (b : ℕ) → b < 0 → ⊥
    none b e = omega (arith, e)
index_first (y ∷ xs) x zero e = refl
index_first (y ∷ xs) x (suc b) e = index_first xs x b (less_one b (length xs) e)
  where
    less_one : (b n : ℕ) → suc b < suc n → b < n
    less_one b n e = omega (arith, e)

pub index_last : (xs : List ℕ) (x b : ℕ) → b ≡ length xs → slice_index (xs ++ x ∷ []) b ≡ x
index_last [] x zero e = refl
index_last [] x (suc b) e = absurd (some b e)
  where
    some : (b : ℕ) → suc b ≡ 0 → ⊥
    some b e = omega (arith, e)
index_last (y ∷ xs) x zero e = absurd (some (length xs) e)
  where
    some : (n : ℕ) → 0 ≡ suc n → ⊥
    some n e = omega (arith, e)
index_last (y ∷ xs) x (suc b) e = index_last xs x b (less_one b (length xs) e)
  where
    less_one : (b n : ℕ) → suc b ≡ suc n → b ≡ n
    less_one b n e = omega (arith, e)

pub count_at : (p : Program) (dims : List Dim) (a : SourceAccess) (n b : ℕ) → b < n → slice_index (counts_to p dims a n) b ≡ count_on p (way_to p a.entity) dims a b
count_at p dims a zero b e = absurd (none b e)
  where
    none : (b : ℕ) → b < 0 → ⊥
    none b e = omega (arith, e)
count_at p dims a (suc n) b e =
    elim (cases_lt b n) [
      | inl f ↦ index_first (counts_to p dims a n) (count_on p (way_to p a.entity) dims a n) b (subst (λ (m : ℕ). b < m) (sym (counts_long p dims a n)) f) ∙ count_at p dims a n b f
      | inr f ↦ index_last (counts_to p dims a n) (count_on p (way_to p a.entity) dims a n) b (equal b n e f ∙ sym (counts_long p dims a n)) ∙ ap (count_on p (way_to p a.entity) dims a) (sym (equal b n e f))
    ]
  where
    equal : (b n : ℕ) → b < suc n → n ≤ b → b ≡ n
    equal b n e f = omega (arith, e, f)

-- Memories.

-- the memory of a number is the one that its entity is
pub record Declared (ms : List Memory) (entity : Option ℕ) (number : ℕ) : Type 0 where
  pub memory : Memory
  pub is : memory_in ms entity ≡ Some memory
  pub entry : slice_get (map entry_of ms) number ≡ Some (entry_of memory)
  pub named : slice_get ms number ≡ Some memory
  pub same : same_entity memory.name.entity entity ≡ true

pub found : (ms : List Memory) (entity : Option ℕ) (number : ℕ) → number_in ms entity ≡ Some number → Declared ms entity number
found [] entity number e = cc
found (m ∷ ms) entity number e = by_test (cases_Bool (same_entity m.name.entity entity)) e (λ k g. found ms entity k g)
  where
    from_rest : (o : Option ℕ) → ((k : ℕ) → o ≡ Some k → Declared ms entity k) → same_entity m.name.entity entity ≡ false → option_map suc o ≡ Some number → Declared (m ∷ ms) entity number
    from_rest None rest f e = cc
    from_rest (Some k) rest f e =
        let d = rest k refl in
        let next : suc k ≡ number = some_same (suc k) number e in
        record {
          memory = d.memory;
          is = ap (λ b. if b then Some m else memory_in ms entity) f ∙ d.is;
          entry = ap (slice_get (map entry_of (m ∷ ms))) (sym next) ∙ d.entry;
          named = ap (slice_get (m ∷ ms)) (sym next) ∙ d.named;
          same = d.same;
        }

    by_test : (same_entity m.name.entity entity ≡ true) ⊎ (same_entity m.name.entity entity ≡ false) → (if same_entity m.name.entity entity then Some 0 else option_map suc (number_in ms entity)) ≡ Some number
        → ((k : ℕ) → number_in ms entity ≡ Some k → Declared ms entity k) → Declared (m ∷ ms) entity number
    by_test (inl f) e rest =
        let first : 0 ≡ number = some_same 0 number (sym (ap (λ b. if b then Some 0 else option_map suc (number_in ms entity)) f) ∙ e) in
        record {
          memory = m;
          is = ap (λ b. if b then Some m else memory_in ms entity) f;
          entry = ap (slice_get (map entry_of (m ∷ ms))) (sym first);
          named = ap (slice_get (m ∷ ms)) (sym first);
          same = f;
        }
    by_test (inr f) e rest = from_rest (number_in ms entity) rest f (sym (ap (λ b. if b then Some 0 else option_map suc (number_in ms entity)) f) ∙ e)

-- two entities that one memory is are one
pub one_entity : (a b c : Option ℕ) → same_entity a b ≡ true → same_entity a c ≡ true → b ≡ c
one_entity None b c e f = cc
one_entity (Some m) None c e f = cc
one_entity (Some m) (Some n) None e f = cc
one_entity (Some m) (Some n) (Some k) e f = ap (λ x. Some x) (sym (eqb-true m n e) ∙ eqb-true m k f)

-- the banks of memories stand one behind the other
pub bases_apart : (es : List MemEntry) (m n : ℕ) → m < n → first_bank_of es m + entry_bank_count (slice_get es m) ≤ first_bank_of es n
bases_apart [] m n e = omega arith
bases_apart (x ∷ es) zero zero e = absurd (none e)
  where
    none : 0 < 0 → ⊥
    none e = omega (arith, e)
bases_apart (x ∷ es) zero (suc n) e = first (banks_of x.shape.dims) (first_bank_of es n)
  where
    first : (b c : ℕ) → 0 + b ≤ b + c
    first b c = omega arith
bases_apart (x ∷ es) (suc m) zero e = absurd (none m e)
  where
    none : (m : ℕ) → suc m < 0 → ⊥
    none m e = omega (arith, e)
bases_apart (x ∷ es) (suc m) (suc n) e = more (banks_of x.shape.dims) _ _ _ (bases_apart es m n (less_one m n e))
  where
    less_one : (m n : ℕ) → suc m < suc n → m < n
    less_one m n e = omega (arith, e)

    more : (a b c d : ℕ) → b + c ≤ d → a + b + c ≤ a + d
    more a b c d e = omega (arith, e)

-- Charges.

module _ (p : Program) (flags : List Bool) (event k memory number bank : ℕ) (a : SourceAccess) (is_memory : number_in (memories_of p) (Some memory) ≡ Some number) (there : bank < memory_bank_count p number)
    (stands : slice_get (accesses_in (trace p)) k ≡ Some a) (told : slice_get flags event ≡ Some (is_some (shared p k))) where
  charged : charge p memory bank k ≡ (if is_some (shared p k) then 0 else charge_by p (way_to p a.entity) a memory bank)
  charged = ap (charge_of p memory bank k) stands

  memory_is : Declared (memories_of p) (Some memory) number
  memory_is = found (memories_of p) (Some memory) number is_memory

  -- the keys that reach a bank, where no views stand between
  keys_direct : way_to p a.entity ≡ None → charge_by p None a memory bank ≡ distinct_count same_path (map (key_of (all_bindings_of p) a) (filter (λ path. reaches_by p None a path memory bank) (paths_of a)))
  keys_direct u = ap (λ (f : Path → Bool). distinct_count same_path (map (key_of (all_bindings_of p) a) (filter f (paths_of a)))) (ap (λ w. λ path. reaches_by p w a path memory bank) u)

  bank_there : nat_lt bank (charges.banks_in p memory) ≡ true
  bank_there =
      lt-ltb bank (charges.banks_in p memory)
      (subst (λ (n : ℕ). bank < n) (ap entry_bank_count memory_is.entry ∙ sym (ap charges.memory_banks memory_is.is)) there)

  -- an access of another memory reaches no bank of this one
  never_by : (w : Option Way) → way_to p a.entity ≡ w → same_entity (ways.base_of w a.entity) (Some memory) ≡ false → charge_by p w a memory bank ≡ 0
  never_by (Some w) u e = ap (λ b. if b && nat_lt bank (charges.banks_in p memory) then charge_through p w a bank else 0) e
  never_by None u e = keys_direct u ∙ (ap (λ (f : Path → Bool). distinct_count same_path (map (key_of (all_bindings_of p) a) (filter f (paths_of a)))) no_path ∙ ap (λ l. distinct_count same_path (map (key_of (all_bindings_of p) a) l)) (none_left (paths_of a)))
    where
      no_path : ◌≡◌ {A = Path → Bool} (λ path. reaches_by p None a path memory bank) (λ path. false)
      no_path = fun_ext (λ path. ap (λ b. b && reaches_in (counters_of p) (memory_in (memories_of p) (Some memory)) a path bank) e)

      none_left : (paths : List Path) → filter (λ path. false) paths ≡ []
      none_left [] = refl
      none_left (path ∷ paths) = none_left paths

  never : same_entity (owner_of p a) (Some memory) ≡ false → charge p memory bank k ≡ 0
  never e = charged ∙ (ap (λ n. if is_some (shared p k) then 0 else n) (never_by (way_to p a.entity) refl e) ∙ nothing (is_some (shared p k)))
    where
      nothing : (b : Bool) → ◌≡◌ {A = ℕ} (if b then 0 else 0) 0
      nothing true = refl
      nothing false = refl

  -- an access of this memory is charged for what is counted on the bank
  own_by : (w : Option Way) → way_to p a.entity ≡ w → same_entity (ways.base_of w a.entity) (Some memory) ≡ true → charge_by p w a memory bank ≡ count_on p w memory_is.memory.shape.dims a bank
  own_by (Some w) u e =
      ap (λ b. if b && nat_lt bank (charges.banks_in p memory) then charge_through p w a bank else 0) e ∙ ap (λ b. if true && b then charge_through p w a bank else 0) bank_there
  own_by None u e = keys_direct u ∙ ap (λ (f : Path → Bool). distinct_count same_path (map (key_of (all_bindings_of p) a) (filter f (paths_of a)))) each_path
    where
      each_path : ◌≡◌ {A = Path → Bool} (λ path. reaches_by p None a path memory bank) (λ path. bank_reached (counters_of p) memory_is.memory.shape.dims a path a.element == bank)
      each_path = fun_ext (λ path. ap (λ b. b && reaches_in (counters_of p) (memory_in (memories_of p) (Some memory)) a path bank) e ∙ ap (λ o. reaches_in (counters_of p) o a path bank) memory_is.is)

  own : same_entity (owner_of p a) (Some memory) ≡ true → charge p memory bank k ≡ (if is_some (shared p k) then 0 else count_on p (way_to p a.entity) memory_is.memory.shape.dims a bank)
  own e = charged ∙ ap (λ n. if is_some (shared p k) then 0 else n) (own_by (way_to p a.entity) refl e)

  pub takes_charge : all_taken (first_bank_of (table_of p) number + bank) (map (spending_step flags) (claims_of p event a)) ≡ charge p memory bank k
  takes_charge = by_number (number_in (memories_of p) (owner_of p a)) refl
    where
      entity_is : (m : ℕ) → number_in (memories_of p) (owner_of p a) ≡ Some m → same_entity (owner_of p a) (Some memory) ≡ true → m ≡ number
      entity_is m e f = some_same m number (sym e ∙ (ap (number_in (memories_of p)) (entity_eq (owner_of p a) f) ∙ is_memory))
        where
          entity_eq : (o : Option ℕ) → same_entity o (Some memory) ≡ true → o ≡ Some memory
          entity_eq None f = cc
          entity_eq (Some n) f = ap (λ x. Some x) (eqb-true n memory f)

      other_memory : (m : ℕ) → number_in (memories_of p) (owner_of p a) ≡ Some m → (m ≡ number → ⊥) → same_entity (owner_of p a) (Some memory) ≡ false
      other_memory m e none = elim (cases_Bool (same_entity (owner_of p a) (Some memory))) [ inl f ↦ absurd (none (entity_is m e f)) | inr f ↦ f ]

      no_memory : number_in (memories_of p) (owner_of p a) ≡ None → same_entity (owner_of p a) (Some memory) ≡ false
      no_memory e = elim (cases_Bool (same_entity (owner_of p a) (Some memory))) [ inl f ↦ absurd (lacks (owner_of p a) f e) | inr f ↦ f ]
        where
          lacks : (o : Option ℕ) → same_entity o (Some memory) ≡ true → number_in (memories_of p) o ≡ None → ⊥
          lacks None f e = cc
          lacks (Some n) f e = none_some (sym e ∙ (ap (λ x. number_in (memories_of p) (Some x)) (eqb-true n memory f) ∙ is_memory))
            where
              none_some : None ≡ Some number → ⊥
              none_some e = cc

      by_number : (o : Option ℕ) → number_in (memories_of p) (owner_of p a) ≡ o → all_taken (first_bank_of (table_of p) number + bank) (map (spending_step flags) (claims_at p event o a)) ≡ charge p memory bank k
      by_number None e = sym (never (no_memory e))
      by_number (Some m) e = by_place (cases_lt m number) (cases_lt number m)
        where
          mine : Declared (memories_of p) (owner_of p a) m
          mine = found (memories_of p) (owner_of p a) m e

          claims_are : claims_in p event (first_bank_of (table_of p) m) (slice_get (table_of p) m) a ≡ claims_from event (first_bank_of (table_of p) m) (counts_to p mine.memory.shape.dims a (banks_of mine.memory.shape.dims))
          claims_are = ap (λ o. claims_in p event (first_bank_of (table_of p) m) o a) mine.entry

          banks_are : entry_bank_count (slice_get (table_of p) m) ≡ banks_of mine.memory.shape.dims
          banks_are = ap entry_bank_count mine.entry

          behind : (b c n d t : ℕ) → b + c ≤ n → d ≡ c → b + d ≤ n + t
          behind b c n d t e f = omega (arith, e, f)

          ahead : (n c b t : ℕ) → n + c ≤ b → t < c → n + t < b
          ahead n c b t e f = omega (arith, e, f)

          equal : (m n : ℕ) → m ≤ n → n ≤ m → m ≡ n
          equal m n e f = omega (arith, e, f)

          none_of : (slots : (first_bank_of (table_of p) number + bank < first_bank_of (table_of p) m) ⊎ (first_bank_of (table_of p) m + length (counts_to p mine.memory.shape.dims a (banks_of mine.memory.shape.dims)) ≤ first_bank_of (table_of p) number + bank)) → (m ≡ number → ⊥)
              → all_taken (first_bank_of (table_of p) number + bank) (map (spending_step flags) (claims_at p event (Some m) a)) ≡ charge p memory bank k
          none_of slots none =
              ap (λ l. all_taken (first_bank_of (table_of p) number + bank) (map (spending_step flags) l)) claims_are
              ∙ (claims_outside flags event (is_some (shared p k)) told (first_bank_of (table_of p) m) (first_bank_of (table_of p) number + bank) _ slots ∙ sym (never (other_memory m e none)))

          less_never : (m n : ℕ) → m < n → m ≡ n → ⊥
          less_never m n e f = omega (arith, e, f)

          more_never : (m n : ℕ) → n < m → m ≡ n → ⊥
          more_never m n e f = omega (arith, e, f)

          same_number : m ≡ number → all_taken (first_bank_of (table_of p) number + bank) (map (spending_step flags) (claims_at p event (Some m) a)) ≡ charge p memory bank k
          same_number q =
              let same_memory : mine.memory ≡ memory_is.memory = some_same mine.memory memory_is.memory (sym mine.named ∙ (ap (slice_get (memories_of p)) q ∙ memory_is.named)) in
              let entities : (owner_of p a) ≡ Some memory = one_entity mine.memory.name.entity (owner_of p a) (Some memory) mine.same (ap (λ (x : Memory). same_entity x.name.entity (Some memory)) same_memory ∙ memory_is.same) in
              let inside : bank < banks_of mine.memory.shape.dims = subst (λ (n : ℕ). bank < n) (ap (λ x. entry_bank_count (slice_get (table_of p) x)) (sym q) ∙ banks_are) there in
              ap (λ l. all_taken (first_bank_of (table_of p) number + bank) (map (spending_step flags) l)) claims_are
              ∙ (ap (λ n. all_taken (first_bank_of (table_of p) n + bank) (map (spending_step flags) (claims_from event (first_bank_of (table_of p) m) (counts_to p mine.memory.shape.dims a (banks_of mine.memory.shape.dims))))) (sym q)
              ∙ (claims_inside flags event (is_some (shared p k)) told (first_bank_of (table_of p) m) bank _ (subst (λ (n : ℕ). bank < n) (sym (counts_long p mine.memory.shape.dims a (banks_of mine.memory.shape.dims))) inside)
              ∙ (ap (λ n. if is_some (shared p k) then 0 else n) (count_at p mine.memory.shape.dims a (banks_of mine.memory.shape.dims) bank inside ∙ ap (λ (x : Memory). count_on p (way_to p a.entity) x.shape.dims a bank) same_memory)
              ∙ sym (own (ap (λ o. same_entity o (Some memory)) entities ∙ eq-eqb memory memory refl)))))

          by_place : (m < number) ⊎ (number ≤ m) → (number < m) ⊎ (m ≤ number) → all_taken (first_bank_of (table_of p) number + bank) (map (spending_step flags) (claims_at p event (Some m) a)) ≡ charge p memory bank k
          by_place (inl f) g =
              none_of (inr (behind (first_bank_of (table_of p) m) (entry_bank_count (slice_get (table_of p) m)) (first_bank_of (table_of p) number) _ bank (bases_apart (table_of p) m number f) (counts_long p mine.memory.shape.dims a (banks_of mine.memory.shape.dims) ∙ sym banks_are))) (less_never m number f)
          by_place (inr f) (inl g) = none_of (inl (ahead (first_bank_of (table_of p) number) (memory_bank_count p number) (first_bank_of (table_of p) m) bank (bases_apart (table_of p) number m g) there)) (more_never m number g)
          by_place (inr f) (inr g) = same_number (equal m number g f)

-- the memory of a number has no way
pub number_unled : (p : Program) (entity : Option ℕ) (number : ℕ) → number_in (memories_of p) entity ≡ Some number → way_to p entity ≡ None
number_unled p entity number e = let d = found (memories_of p) entity number e in memory_unled p entity d.memory d.is

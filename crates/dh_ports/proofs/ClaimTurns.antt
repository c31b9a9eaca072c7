-- The claims of an access, as the code finds them: of no memory none, outside every unrolled loop one, else one
-- for each bank that some copy reaches.
use Rattle.std.proofs.Common.{◌≡◌, ℕ, zero, suc, ◌+◌, ◌<◌, ◌≤◌, ◌==◌, nat_lt, Bool, true, false, if◌then◌else◌, List, [], ◌∷◌, ◌++◌, append_assoc, append-nil, length, map, get_or, refl, ap, sym, ◌∙◌, subst, arith, cond}
use Rattle.std.specs.Prelude.{Option, Some, None, slice_get, slice_index}
use Rattle.std.specs.List.{AllByRecursion}
use Rattle.std.specs.Set.{distinct_count}
use Rattle.std.proofs.lemmas.Bool.{eqb-true}
use Rattle.std.proofs.lemmas.Bool.Decides.{nat_tests}
use Rattle.dh_tree.specs.declared.tables.Dim.{Dim}
use Rattle.dh_tree.specs.declared.tables.MemEntry.{MemEntry}
use Rattle.dh_tree.specs.declared.trees.counters.Counter.{Counter}
use Rattle.dh_tree.specs.declared.trees.expressions.Expr.{Expr}
use Rattle.dh_tree.specs.declared.trees.programs.Tree.{Tree}
use Rattle.dh_tree.specs.Elements.{banks_of}
use Rattle.dh_tree.specs.Memories.{memories_of, number_in, table_of}
use Rattle.dh_tree.specs.PlainTrees.{Program}
use Rattle.dh_tree.specs.Seen.{form_seen, program_seen}
use Rattle.dh_tree.specs.Shapes.{IsDim, IsMemory, IsProgramTable}
use Rattle.dh_tree.specs.Tables.{elements_in}
use Rattle.dh_meaning.specs.Bindings.{Binding}
use Rattle.dh_meaning.specs.Ways as ways
use Rattle.dh_meaning.specs.Ways.{all_bindings_of, way_to}
use Rattle.dh_meaning.specs.Paths.{same_path}
use Rattle.dh_meets.specs.Charges.{key_of}
use Rattle.dh_meets.specs.SourceEvents.{SourceAccess}
use Rattle.dh_events.specs.declared.dependence.Scope.{Scope}
use Rattle.dh_ports.specs.declared.moves.ProgramLayout.{ProgramLayout}
use Rattle.dh_ports.specs.declared.moves.Move.TheVariants as move
use Rattle.dh_ports.specs.Banks.{bank_at_path, each_below}
use Rattle.dh_events.specs.Accesses.{entity_in, loops_listed}
use Rattle.dh_ports.specs.Claims.{first_bank_of, AreBases, keys_on, counts_to, claim_at, claim_in, claims_from, claims_in, claims_at, claims_of, source_of, count_on}
use Rattle.dh_ports.specs.Layouts.{IsLayout}
use Rattle.dh_events.specs.Scopes.{AreScopes}
use Rattle.dh_ports.specs.Wholes.{entry_bank_count}
use Rattle.dh_ports.proofs.ClaimFacts.{counts_long, bases_apart}
use Rattle.dh_ports.proofs.EachFacts.{each_long}
use Rattle.dh_ports.proofs.PathNumbers.{each_same}
use Rattle.dh_ports.proofs.StartFacts.{base_most}

absurd : {A : Type 0} → ⊥ → A
absurd e = elim e [ ]

-- Lists of claims.

shift : (a b : ℕ) → suc a + b ≡ a + suc b
shift a b = omega arith

plus_none : (n : ℕ) → n ≡ n + 0
plus_none n = omega arith

pub claims_last : (event base : ℕ) (xs : List ℕ) (x : ℕ) → claims_from event base (xs ++ x ∷ []) ≡ claims_from event base xs ++ claim_at event (base + length xs) x
claims_last event base [] x = append-nil (claim_at event base x) ∙ ap (λ n. claim_at event n x) (plus_none base)
claims_last event base (y ∷ xs) x =
    ap (λ l. claim_at event base y ++ l) (claims_last event (suc base) xs x)
    ∙ (sym (append_assoc (claim_at event base y) (claims_from event (suc base) xs) (claim_at event (suc base + length xs) x))
    ∙ ap (λ n. (claim_at event base y ++ claims_from event (suc base) xs) ++ claim_at event n x) (shift base (length xs)))

none_below : (bank : ℕ) → nat_lt bank 0 ≡ false
none_below bank = grind (arith, nat_tests)

-- one bank more, of which one is reached
one_more : (event base n bank : ℕ) → claim_in event base n bank ++ claim_at event (base + n) (if bank == n then 1 else 0) ≡ claim_in event base (suc n) bank
one_more event base n bank = by_test (nat_lt bank n) (bank == n) (nat_lt bank (suc n)) refl refl refl
  where
    not_both : (b n : ℕ) → nat_lt b n ≡ true → (b == n) ≡ true → ⊥
    not_both b n e f = grind (arith, nat_tests)

    goes_on : (b n : ℕ) → nat_lt b n ≡ true → nat_lt b (suc n) ≡ false → ⊥
    goes_on b n e f = grind (arith, nat_tests)

    begins_here : (b n : ℕ) → (b == n) ≡ true → nat_lt b (suc n) ≡ false → ⊥
    begins_here b n e f = grind (arith, nat_tests)

    none_between : (b n : ℕ) → nat_lt b n ≡ false → (b == n) ≡ false → nat_lt b (suc n) ≡ true → ⊥
    none_between b n e f g = grind (arith, nat_tests)

    by_test : (a b c : Bool) → nat_lt bank n ≡ a → (bank == n) ≡ b → nat_lt bank (suc n) ≡ c
        → (if a then move.Claim event (base + bank) 1 ∷ [] else []) ++ claim_at event (base + n) (if b then 1 else 0) ≡ (if c then move.Claim event (base + bank) 1 ∷ [] else [])
    by_test true true c e f g = absurd (not_both bank n e f)
    by_test true false true e f g = refl
    by_test true false false e f g = absurd (goes_on bank n e g)
    by_test false true true e f g = ap (λ k. move.Claim event (base + k) 1 ∷ []) (sym (eqb-true bank n f))
    by_test false true false e f g = absurd (begins_here bank n f g)
    by_test false false true e f g = absurd (none_between bank n e f g)
    by_test false false false e f g = refl

-- outside every unrolled loop an access has one path, and one key
module _ (tree : Tree) (dims : List Dim) (writes : Bool) (e : Expr) (bank : ℕ) (reached : bank ≡ bank_at_path tree dims (source_of [] writes e) []) (unled : way_to (program_seen tree) (entity_in (form_seen e.form)) ≡ None) where
  one_key : (b : Bool) → distinct_count same_path (map (key_of (all_bindings_of (program_seen tree)) (source_of [] writes e)) (cond b ([] ∷ []) [])) ≡ (if b then 1 else 0)
  one_key true = refl
  one_key false = refl

  keys_here : (n : ℕ) → keys_on (program_seen tree) dims (source_of [] writes e) n ≡ (if bank == n then 1 else 0)
  keys_here n = one_key (bank_at_path tree dims (source_of [] writes e) [] == n) ∙ ap (λ k. if k == n then 1 else 0) (sym reached)

  count_here : (n : ℕ) → count_on (program_seen tree) (way_to (program_seen tree) (entity_in (form_seen e.form))) dims (source_of [] writes e) n ≡ (if bank == n then 1 else 0)
  count_here n = ap (λ w. count_on (program_seen tree) w dims (source_of [] writes e) n) unled ∙ keys_here n

  one_claim : (event base n : ℕ) → claims_from event base (counts_to (program_seen tree) dims (source_of [] writes e) n) ≡ claim_in event base n bank
  one_claim event base zero = sym (ap (λ b. if b then move.Claim event (base + bank) 1 ∷ [] else []) (none_below bank))
  one_claim event base (suc n) =
      claims_last event base (counts_to (program_seen tree) dims (source_of [] writes e) n) (count_on (program_seen tree) (way_to (program_seen tree) (entity_in (form_seen e.form))) dims (source_of [] writes e) n)
      ∙ (ap (λ l. l ++ claim_at event (base + length (counts_to (program_seen tree) dims (source_of [] writes e) n)) (count_on (program_seen tree) (way_to (program_seen tree) (entity_in (form_seen e.form))) dims (source_of [] writes e) n)) (one_claim event base n)
      ∙ (ap (λ k. claim_in event base n bank ++ claim_at event (base + k) (count_on (program_seen tree) (way_to (program_seen tree) (entity_in (form_seen e.form))) dims (source_of [] writes e) n)) (counts_long (program_seen tree) dims (source_of [] writes e) n)
      ∙ (ap (λ k. claim_in event base n bank ++ claim_at event (base + n) k) (count_here n)
      ∙ one_more event base n bank)))

-- counts of each bank
pub counts_each : (p : Program) (dims : List Dim) (a : SourceAccess) (n : ℕ) → counts_to p dims a n ≡ each_below (count_on p (way_to p a.entity) dims a) n
counts_each p dims a zero = refl
counts_each p dims a (suc n) = ap (λ l. l ++ count_on p (way_to p a.entity) dims a n ∷ []) (counts_each p dims a n)

-- The claims of an access.

module _ (tree : Tree) (event : ℕ) (loops : List Counter) (writes : Bool) (e : Expr) (unled : way_to (program_seen tree) (entity_in (form_seen e.form)) ≡ None) where
  claims_direct : claims_of (program_seen tree) event (source_of loops writes e) ≡ claims_at (program_seen tree) event (number_in (memories_of (program_seen tree)) (entity_in (form_seen e.form))) (source_of loops writes e)
  claims_direct = ap (λ w. claims_at (program_seen tree) event (number_in (memories_of (program_seen tree)) (ways.base_of w (entity_in (form_seen e.form)))) (source_of loops writes e)) unled

  -- of what is no memory
  pub none_claimed : (o : Option ℕ) → o ≡ number_in (memories_of (program_seen tree)) (entity_in (form_seen e.form)) → o ≡ None → claims_of (program_seen tree) event (source_of loops writes e) ≡ []
  none_claimed o h f = claims_direct ∙ ap (λ o. claims_at (program_seen tree) event o (source_of loops writes e)) (sym h ∙ f)

  module _ (o : Option ℕ) (m : ℕ) (known : o ≡ number_in (memories_of (program_seen tree)) (entity_in (form_seen e.form))) (is : o ≡ Some m) where
    claims_so : claims_of (program_seen tree) event (source_of loops writes e) ≡ claims_in (program_seen tree) event (first_bank_of (table_of (program_seen tree)) m) (slice_get (table_of (program_seen tree)) m) (source_of loops writes e)
    claims_so = claims_direct ∙ ap (λ o. claims_at (program_seen tree) event o (source_of loops writes e)) (sym known ∙ is)

    -- of a memory that is not there
    pub past_claimed : slice_get (table_of (program_seen tree)) m ≡ None → claims_of (program_seen tree) event (source_of loops writes e) ≡ []
    past_claimed f = claims_so ∙ ap (λ o. claims_in (program_seen tree) event (first_bank_of (table_of (program_seen tree)) m) o (source_of loops writes e)) f

    module _ (x : MemEntry) (there : slice_get (table_of (program_seen tree)) m ≡ Some x) (dims : List Dim) (dims_are : dims ≡ x.shape.dims) (base banks : ℕ) (at : base ≡ first_bank_of (table_of (program_seen tree)) m) (counted : banks ≡ banks_of dims) where
      claims_here : claims_of (program_seen tree) event (source_of loops writes e) ≡ claims_from event base (counts_to (program_seen tree) dims (source_of loops writes e) banks)
      claims_here =
          claims_so
          ∙ (ap (λ o. claims_in (program_seen tree) event (first_bank_of (table_of (program_seen tree)) m) o (source_of loops writes e)) there
          ∙ (ap (λ ds. claims_from event (first_bank_of (table_of (program_seen tree)) m) (counts_to (program_seen tree) ds (source_of loops writes e) (banks_of ds))) (sym dims_are)
          ∙ (ap (λ n. claims_from event (first_bank_of (table_of (program_seen tree)) m) (counts_to (program_seen tree) dims (source_of loops writes e) n)) (sym counted)
          ∙ ap (λ n. claims_from event n (counts_to (program_seen tree) dims (source_of loops writes e) banks)) (sym at))))

      pub one_claimed : loops ≡ [] → (bank : ℕ) → ((w : Bool) → bank ≡ bank_at_path tree dims (source_of [] w e) []) → claims_of (program_seen tree) event (source_of loops writes e) ≡ claim_in event base banks bank
      one_claimed none bank reached =
          claims_here
          ∙ (ap (λ ls. claims_from event base (counts_to (program_seen tree) dims (source_of ls writes e) banks)) none
          ∙ one_claim tree dims writes e bank (reached writes) unled event base banks)

      pub all_claimed : (counts : List ℕ) → counts ≡ each_below (keys_on (program_seen tree) dims (source_of loops writes e)) banks → claims_of (program_seen tree) event (source_of loops writes e) ≡ claims_from event base counts
      all_claimed counts told =
          claims_here
          ∙ ap (claims_from event base)
          (counts_each (program_seen tree) dims (source_of loops writes e) banks
          ∙ (ap (λ w. each_below (count_on (program_seen tree) w dims (source_of loops writes e)) banks) unled
          ∙ (each_same (count_on (program_seen tree) None dims (source_of loops writes e)) (keys_on (program_seen tree) dims (source_of loops writes e)) banks (λ k i. refl) ∙ sym told)))

-- Bounds.

module _ (es : List MemEntry) (m : ℕ) (x : MemEntry) (there : slice_get es m ≡ Some x) where
  pub memory_there : m < length es
  memory_there = within es m there
    where
      none : (a : MemEntry) → ◌≡◌ {A = Option MemEntry} None (Some a) → ⊥
      none a e = cc

      first : (n : ℕ) → 0 < suc n
      first n = omega arith

      next : (k n : ℕ) → k < n → suc k < suc n
      next k n e = omega (arith, e)

      within : (ys : List MemEntry) (k : ℕ) → slice_get ys k ≡ Some x → k < length ys
      within [] k e = absurd (none x e)
      within (y ∷ ys) zero e = first (length ys)
      within (y ∷ ys) (suc k) e = next k (length ys) (within ys k e)

  pub memory_is : AllByRecursion IsMemory es → IsMemory x
  memory_is h = found es m h there
    where
      none : (a : MemEntry) → ◌≡◌ {A = Option MemEntry} None (Some a) → ⊥
      none a e = cc

      some_same : (a b : MemEntry) → Some a ≡ Some b → a ≡ b
      some_same a b e = cc

      found : (ys : List MemEntry) (k : ℕ) → AllByRecursion IsMemory ys → slice_get ys k ≡ Some x → IsMemory x
      found [] k h e = absurd (none x e)
      found (y ∷ ys) zero h e = subst IsMemory (some_same y x e) h.0
      found (y ∷ ys) (suc k) h e = found ys k h.1 e

  -- the banks of a memory and all before it are few
  pub slots_few : IsProgramTable es → (base banks : ℕ) (dims : List Dim) → dims ≡ x.shape.dims → base ≡ first_bank_of es m → banks ≡ banks_of dims → base + banks ≤ 2097152
  slots_few h base banks dims dims_are at counted =
      at_most base banks (first_bank_of es m) (banks_of x.shape.dims) (first_bank_of es (suc m)) (elements_in es) at (counted ∙ ap banks_of dims_are)
      (subst (λ (o : Option MemEntry). first_bank_of es m + entry_bank_count o ≤ first_bank_of es (suc m)) there (bases_apart es m (suc m) (next m)))
      (base_most es (suc m) h.entries) h.elements
    where
      next : (n : ℕ) → n < suc n
      next n = omega arith

      at_most : (a b c d s n : ℕ) → a ≡ c → b ≡ d → c + d ≤ s → s ≤ n → n ≤ 1048576 → a + b ≤ 2097152
      at_most a b c d s n e f g h i = omega (arith, e, f, g, h, i)

pub base_is : (es : List MemEntry) (bases : List ℕ) (m : ℕ) → AreBases es bases → m < length es → slice_index bases m ≡ first_bank_of es m
base_is es bases m h inside = h.each m (less m (length es) inside)
  where
    less : (a b : ℕ) → a < b → a ≤ b
    less a b e = omega (arith, e)

pub base_there : (es : List MemEntry) (bases : List ℕ) (m : ℕ) → AreBases es bases → m < length es → m < length bases
base_there es bases m h inside = less m (length es) (length bases) h.long inside
  where
    less : (a b n : ℕ) → n ≡ b + 1 → a < b → a < n
    less a b n e f = omega (arith, e, f)

-- What the code finds at a place.

entry_found : (es : List MemEntry) (m : ℕ) (x : MemEntry) → m < length es → x ≡ get_or es m x → slice_get es m ≡ Some x
entry_found [] m x inside is = absurd (none m inside)
  where
    none : (k : ℕ) → k < 0 → ⊥
    none k e = omega (arith, e)
entry_found (y ∷ es) zero x inside is = ap (λ z. Some z) (sym is)
entry_found (y ∷ es) (suc m) x inside is = entry_found es m x (less m (length es) inside) is
  where
    less : (k n : ℕ) → suc k < suc n → k < n
    less k n e = omega (arith, e)

none_found : (es : List MemEntry) (m : ℕ) → length es ≤ m → slice_get es m ≡ None
none_found [] zero past = refl
none_found [] (suc m) past = refl
none_found (y ∷ es) zero past = absurd (some (length es) past)
  where
    some : (n : ℕ) → suc n ≤ 0 → ⊥
    some n e = omega (arith, e)
none_found (y ∷ es) (suc m) past = none_found es m (less m (length es) past)
  where
    less : (k n : ℕ) → suc n ≤ suc k → n ≤ k
    less k n e = omega (arith, e)

pub entry_at : (table es : List MemEntry) (m : ℕ) (x : MemEntry) → es ≡ table → m < length es → x ≡ get_or es m x → slice_get table m ≡ Some x
entry_at table es m x same inside is = ap (λ l. slice_get l m) (sym same) ∙ entry_found es m x inside is

pub none_at : (table es : List MemEntry) (m : ℕ) → es ≡ table → length es ≤ m → slice_get table m ≡ None
none_at table es m same past = ap (λ l. slice_get l m) (sym same) ∙ none_found es m past

-- dimensions that keep the rules and limits
pub record Shaped (ds : List Dim) : Type 0 where
  pub dims : AllByRecursion IsDim ds
  pub few : banks_of ds ≤ 64

pub shape_at : (table es : List MemEntry) (m : ℕ) (x : MemEntry) (ds : List Dim) → es ≡ table → IsProgramTable table → m < length es → x ≡ get_or es m x → ds ≡ x.shape.dims → Shaped ds
shape_at table es m x ds same h inside is dims_are =
    let s = memory_is table m x (entry_at table es m x same inside is) h.entries in
    record {
      dims = subst (λ (l : List Dim). AllByRecursion IsDim l) (sym dims_are) s.shape.dims;
      few = subst (λ (l : List Dim). banks_of l ≤ 64) (sym dims_are) s.shape.few_banks;
    }

pub index_found : (xs : List ℕ) (m d : ℕ) → m < length xs → get_or xs m d ≡ slice_index xs m
index_found [] m d inside = absurd (none m inside)
  where
    none : (k : ℕ) → k < 0 → ⊥
    none k e = omega (arith, e)
index_found (x ∷ xs) zero d inside = refl
index_found (x ∷ xs) (suc m) d inside = index_found xs m d (less m (length xs) inside)
  where
    less : (k n : ℕ) → suc k < suc n → k < n
    less k n e = omega (arith, e)

pub base_at : (table es : List MemEntry) (bases : List ℕ) (m base : ℕ) → es ≡ table → AreBases table bases → m < length es → base ≡ get_or bases m base → base ≡ first_bank_of table m
base_at table es bases m base same h inside is =
    let here : m < length table = subst (λ (l : List MemEntry). m < length l) same inside in
    is ∙ (index_found bases m base (base_there table bases m h here) ∙ base_is table bases m h here)

-- Loops.

pub no_loop : (loops : List Counter) (b : Bool) → b ≡ (length loops == 0) → b ≡ true → loops ≡ []
no_loop [] b e f = refl
no_loop (c ∷ loops) b e f = absurd (some (length loops) (sym e ∙ f))
  where
    some : (n : ℕ) → (suc n == 0) ≡ true → ⊥
    some n e = grind (arith, nat_tests)

pub some_loop : (loops : List Counter) (b : Bool) → b ≡ (length loops == 0) → b ≡ false → loops ≡ [] → ⊥
some_loop loops b e f none = apart (sym (ap (λ (l : List Counter). length l == 0) none) ∙ (sym e ∙ f))
  where
    apart : true ≡ false → ⊥
    apart e = cc

pub scopes_at : (p : Program) (layout : ProgramLayout) → IsLayout p layout → (round : Option ℕ) → (loops_listed layout.rounds.items round ≡ [] → ⊥) → AreScopes (all_bindings_of p) layout.scopes.items
scopes_at p layout l None h = absurd (h refl)
scopes_at p layout l (Some id) h = l.scopes id h

pub kept_scopes : (bs : List Binding) (scopes shown : List (Option Scope)) → shown ≡ scopes → AreScopes bs scopes → AreScopes bs shown
kept_scopes bs scopes shown same h = subst (λ (l : List (Option Scope)). AreScopes bs l) (sym same) h

pub each_few : (f : ℕ → ℕ) (banks base : ℕ) (counts : List ℕ) → counts ≡ each_below f banks → base + banks ≤ 2097152 → base + length counts ≤ 2097152
each_few f banks base counts told few = subst (λ (n : ℕ). base + n ≤ 2097152) (sym (ap length told ∙ each_long f banks)) few

-- The banks that an access charges are those that it reaches, where it does not share.
use Rattle.std.proofs.Common.{◌≡◌, ℕ, zero, suc, add-one, ◌+◌, ◌*◌, ◌≤◌, ◌==◌, ◌&&◌, nat_lt, Bool, true, false, if◌then◌else◌, List, [], ◌∷◌, length, map, refl, ap, sym, ◌∙◌, arith, ◌⊎◌, inl, inr, subst, ◌<◌}
use mathlib.Core.Path.{fun_ext}
use Rattle.std.specs.Prelude.{Option, Some, None, option_map, slice_get}
use Rattle.std.specs.List.{filter, list_any}
use Rattle.std.specs.Option.{is_some}
use Rattle.std.specs.Set.{distinct_count}
use Rattle.std.proofs.lemmas.Bool.{cases_Bool, eq-eqb}
use Rattle.std.proofs.lemmas.Bool.Decides.{nat_tests}
use Rattle.dh_tree.specs.declared.tables.Dim.{Dim}
use Rattle.dh_tree.specs.declared.tables.MemEntry.{MemEntry}
use Rattle.dh_tree.specs.declared.trees.programs.Tree.{Tree}
use Rattle.dh_tree.specs.declared.trees.counters.Counter.{Counter}
use Rattle.dh_tree.specs.Counters.{counters_of}
use Rattle.dh_tree.specs.Elements.{banks_of}
use Rattle.dh_tree.specs.Memories.{Memory, memories_of, memory_in, number_in, same_entity, table_of, entry_of}
use Rattle.dh_tree.specs.PlainTrees.{Term, term, Program}
use Rattle.dh_meaning.specs.Ways.{Way, all_bindings_of, base_of, way_to}
use Rattle.dh_ways.specs.Leading.{next_dims}
use Rattle.dh_carried.proofs.ChargedBanks.{charged_reaches, reaching_charges}
use Rattle.dh_tree.specs.Seen.{program_seen}
use Rattle.dh_meaning.specs.Paths.{Path, copies_in, same_path}
use Rattle.dh_meets.specs.Charges as charges
use Rattle.dh_meets.specs.Charges.{bank_named, bank_reached, banks_in, charge, charge_by, charge_of, charge_through, loop_factors, key_of, keys_reaching, may_reach, paths_of, reaches, reaches_by, reaches_in, memory_banks}
use Rattle.dh_meets.specs.Sharing.{shared}
use Rattle.dh_meets.specs.SourceEvents.{Element, with_indices, in_row, SourceAccess, accesses_in, trace}
use Rattle.dh_plan.specs.PlanSizes.{access_size, banks_charged, entity_banks_charged}
use Rattle.dh_ports.specs.Claims.{access_of}
use Rattle.dh_ports.specs.Wholes.{of_access, touched_by, Touched}
use Rattle.dh_ports.proofs.ClaimedBanks.{kept_some, path_there, some_kept, there_path, LeadsAt}
use Rattle.dh_ports.proofs.ClaimFacts.{found, number_unled}
use Rattle.dh_ports.specs.Banks.{bank_at_path, path_of_number}
use Rattle.dh_size.specs.Sizes.{banks_led, banks_met, memory_banks_reached, banks_through, banks_within, count_below, is_reached, is_reached_through, marked, size_by}
use Rattle.dh_size.specs.Marks.{AreBankMarks}
use Rattle.dh_size.proofs.MarkTurns.{all_reached, marks_counted, paths_counted}

absurd : {A : Type 0} → ⊥ → A
absurd e = elim e [ ]

clash : (b : Bool) → b ≡ true → b ≡ false → ⊥
clash b e f = cc

-- Keys.

-- some key is there where some path is
keys_some : (g : Path → List ℕ) (t : Path → Bool) (paths : List Path) → nat_lt 0 (distinct_count same_path (map g (filter t paths))) ≡ list_any t paths
keys_some g t paths = by (cases_Bool (list_any t paths)) (cases_Bool (nat_lt 0 (distinct_count same_path (map g (filter t paths)))))
  where
    positive : (n : ℕ) → 1 ≤ n → nat_lt 0 n ≡ true
    positive n e = grind (arith, nat_tests)

    told : (n : ℕ) → nat_lt 0 n ≡ true → 1 ≤ n
    told n e = grind (arith, nat_tests)

    by : (list_any t paths ≡ true) ⊎ (list_any t paths ≡ false) → (nat_lt 0 (distinct_count same_path (map g (filter t paths))) ≡ true) ⊎ (nat_lt 0 (distinct_count same_path (map g (filter t paths))) ≡ false)
        → nat_lt 0 (distinct_count same_path (map g (filter t paths))) ≡ list_any t paths
    by (inl e) f = positive _ (kept_some same_path g t paths e) ∙ sym e
    by (inr e) (inl f) = absurd (clash (list_any t paths) (some_kept same_path g t paths (told _ f)) e)
    by (inr e) (inr f) = f ∙ sym e

-- Memories.

-- the memory of what is none
pub no_memory : (ms : List Memory) (entity : Option ℕ) → number_in ms entity ≡ None → memory_in ms entity ≡ None
no_memory [] entity e = refl
no_memory (m ∷ ms) entity e = by (cases_Bool (same_entity m.name.entity entity)) e (no_memory ms entity)
  where
    some_none : (n : ℕ) → ◌≡◌ {A = Option ℕ} (Some n) None → ⊥
    some_none n e = cc

    rest_none : (o : Option ℕ) → option_map suc o ≡ None → o ≡ None
    rest_none None e = refl
    rest_none (Some n) e = absurd (some_none (suc n) e)

    by : (same_entity m.name.entity entity ≡ true) ⊎ (same_entity m.name.entity entity ≡ false) → (if same_entity m.name.entity entity then Some 0 else option_map suc (number_in ms entity)) ≡ None
        → (number_in ms entity ≡ None → memory_in ms entity ≡ None) → (if same_entity m.name.entity entity then Some m else memory_in ms entity) ≡ None
    by (inl f) e rest = absurd (some_none 0 (sym (ap (λ b. if b then Some 0 else option_map suc (number_in ms entity)) f) ∙ e))
    by (inr f) e rest = ap (λ b. if b then Some m else memory_in ms entity) f ∙ rest (rest_none (number_in ms entity) (sym (ap (λ b. if b then Some 0 else option_map suc (number_in ms entity)) f) ∙ e))

-- the banks of a memory by its entry in the table
pub entry_reached : (p : Program) (a : SourceAccess) (number : ℕ) (entry : MemEntry) → number_in (memories_of p) a.entity ≡ Some number → slice_get (table_of p) number ≡ Some entry
    → banks_met p a ≡ count_below (is_reached p entry.shape.dims a) (banks_of entry.shape.dims)
entry_reached p a number entry known stands =
    let mine = found (memories_of p) a.entity number known in
    let same : entry_of mine.memory ≡ entry = some_same (entry_of mine.memory) entry (sym mine.entry ∙ stands) in
    ap (λ w. banks_led p w a) (number_unled p a.entity number known)
    ∙ (ap (λ o. memory_banks_reached p o a) mine.is
    ∙ ap (λ (e : MemEntry). count_below (is_reached p e.shape.dims a) (banks_of e.shape.dims)) same)
  where
    some_same : (x y : MemEntry) → Some x ≡ Some y → x ≡ y
    some_same x y e = cc

-- a number of a memory is one of the table
pub entry_missing : {A : Type 0} (p : Program) (a : SourceAccess) (number : ℕ) → number_in (memories_of p) a.entity ≡ Some number → slice_get (table_of p) number ≡ None → A
entry_missing p a number known none = absurd (some_none (entry_of (found (memories_of p) a.entity number known).memory) (sym (found (memories_of p) a.entity number known).entry ∙ none))
  where
    some_none : (x : MemEntry) → ◌≡◌ {A = Option MemEntry} (Some x) None → ⊥
    some_none x e = cc

pub none_met : (p : Program) (a : SourceAccess) → number_in (memories_of p) a.entity ≡ None → way_to p a.entity ≡ None → banks_met p a ≡ 0
none_met p a e u = ap (λ w. banks_led p w a) u ∙ ap (λ o. memory_banks_reached p o a) (no_memory (memories_of p) a.entity e)

-- Charges.

module _ (p : Program) (number : ℕ) (a : SourceAccess) (stands : slice_get (accesses_in (trace p)) number ≡ Some a) (unled : way_to p a.entity ≡ None) where
  -- nothing where it shares
  abbrev unless : Bool → ℕ → ℕ
  unless shares n = if shares then 0 else n

  module _ (memory : ℕ) (m : Memory) (named : a.entity ≡ Some memory) (is : memory_in (memories_of p) (Some memory) ≡ Some m) where
    reaches_so : (bank : ℕ) (path : Path) → reaches p a path memory bank ≡ (bank_reached (counters_of p) m.shape.dims a path a.element == bank)
    reaches_so bank path =
        ap (λ w. reaches_by p w a path memory bank) unled
        ∙ (ap (λ o. same_entity o (Some memory) && reaches_in (counters_of p) (memory_in (memories_of p) (Some memory)) a path bank) named
        ∙ (ap (λ b. b && reaches_in (counters_of p) (memory_in (memories_of p) (Some memory)) a path bank) (eq-eqb memory memory refl)
        ∙ ap (λ o. reaches_in (counters_of p) o a path bank) is))

    one_bank : (bank : ℕ) (shares : Bool) → is_some (shared p number) ≡ shares → (if nat_lt 0 (charge p memory bank number) then 1 else 0) ≡ unless shares (if is_reached p m.shape.dims a bank then 1 else 0)
    one_bank bank shares e =
        ap (λ n. if nat_lt 0 n then 1 else 0)
        (ap (charge_of p memory bank number) stands
        ∙ (ap (λ w. if is_some (shared p number) then 0 else charge_by p w a memory bank) unled ∙ ap (λ b. if b then 0 else distinct_count same_path (keys_reaching p a memory bank)) e))
        ∙ by shares
      where
        not_less : nat_lt 0 0 ≡ false
        not_less = grind (arith, nat_tests)

        by : (b : Bool) → (if nat_lt 0 (if b then 0 else distinct_count same_path (keys_reaching p a memory bank)) then 1 else 0) ≡ unless b (if is_reached p m.shape.dims a bank then 1 else 0)
        by true = ap (λ b. if b then 1 else 0) not_less
        by false =
            ap (λ b. if b then 1 else 0)
            (keys_some (key_of (all_bindings_of p) a) (λ path. reaches p a path memory bank) (paths_of a) ∙ ap (λ t. list_any t (paths_of a)) (fun_ext (reaches_so bank)))

    some_banks : (n : ℕ) (shares : Bool) → is_some (shared p number) ≡ shares → banks_charged p memory number n ≡ unless shares (count_below (is_reached p m.shape.dims a) n)
    some_banks zero shares e = none shares
      where
        none : (b : Bool) → 0 ≡ unless b 0
        none true = refl
        none false = refl
    some_banks (suc n) shares e = ap (λ k. k + banks_charged p memory number n) (one_bank n shares e) ∙ (ap (λ k. unless shares (if is_reached p m.shape.dims a n then 1 else 0) + k) (some_banks n shares e) ∙ both shares (if is_reached p m.shape.dims a n then 1 else 0) (count_below (is_reached p m.shape.dims a) n))
      where
        both : (b : Bool) (x y : ℕ) → unless b x + unless b y ≡ unless b (x + y)
        both true x y = nothing
          where
            nothing : 0 + 0 ≡ 0
            nothing = omega arith
        both false x y = refl

  none_unless : (b : Bool) → 0 ≡ unless b 0
  none_unless true = refl
  none_unless false = refl

  none_named : (ms : List Memory) → memory_in ms None ≡ None
  none_named [] = refl
  none_named (m ∷ ms) = ap (λ b. if b then Some m else memory_in ms None) (none m.name.entity) ∙ none_named ms
    where
      none : (o : Option ℕ) → same_entity o None ≡ false
      none None = refl
      none (Some n) = refl

  by_entity : (entity : Option ℕ) (shares : Bool) → a.entity ≡ entity → is_some (shared p number) ≡ shares → entity_banks_charged p number entity ≡ unless shares (memory_banks_reached p (memory_in (memories_of p) entity) a)
  by_entity None shares e f = none_unless shares ∙ ap (λ o. unless shares (memory_banks_reached p o a)) (sym (none_named (memories_of p)))
  by_entity (Some memory) shares e f = by_memory (memory_in (memories_of p) (Some memory)) refl
    where
      by_memory : (o : Option Memory) → memory_in (memories_of p) (Some memory) ≡ o → banks_charged p memory number (memory_banks (memory_in (memories_of p) (Some memory))) ≡ unless shares (memory_banks_reached p (memory_in (memories_of p) (Some memory)) a)
      by_memory None g = ap (λ o. banks_charged p memory number (memory_banks o)) g ∙ (none_unless shares ∙ ap (λ o. unless shares (memory_banks_reached p o a)) (sym g))
      by_memory (Some m) g =
          ap (λ o. banks_charged p memory number (memory_banks o)) g
          ∙ (some_banks memory m e g (banks_of m.shape.dims) shares f ∙ ap (λ o. unless shares (memory_banks_reached p o a)) (sym g))

  pub direct_banks : (shares : Bool) → shares ≡ is_some (shared p number) → unless shares (memory_banks_reached p (memory_in (memories_of p) a.entity) a) ≡ entity_banks_charged p number a.entity
  direct_banks shares e = sym (by_entity a.entity shares refl (sym e))

-- Charges through views.

-- nothing where it shares
abbrev unless_shared : Bool → ℕ → ℕ
unless_shared shares n = if shares then 0 else n

module _ (p : Program) (number : ℕ) (a : SourceAccess) (stands : slice_get (accesses_in (trace p)) number ≡ Some a) (w : Way) (led : way_to p a.entity ≡ Some w) (at : LeadsAt p w a) where
  abbrev owner_dims : List Dim
  owner_dims = at.leads.memory.shape.dims

  named_within : (path : Path) → bank_named p w a path < banks_of (next_dims w.steps owner_dims)
  named_within path = subst (λ (ds : List Dim). bank_named p w a path < banks_of ds) (sym at.leads.first) (at.inside path)

  below : (m n : ℕ) → m < n → nat_lt m n ≡ true
  below m n e = grind (arith, nat_tests)

  positive : (n : ℕ) → 1 ≤ n → nat_lt 0 n ≡ true
  positive n e = grind (arith, nat_tests)

  some_of : (n : ℕ) → nat_lt 0 n ≡ true → 1 ≤ n
  some_of n e = grind (arith, nat_tests)

  second_true : (b c : Bool) → (b && c) ≡ true → c ≡ true
  second_true true c e = e
  second_true false c e = cc

  both_true : (b c : Bool) → b ≡ true → c ≡ true → (b && c) ≡ true
  both_true true c e f = f
  both_true false c e f = cc

  -- it charges a bank where some path reaches it
  charged_through : (bank : ℕ) → bank < banks_of owner_dims → nat_lt 0 (charge_through p w a bank) ≡ is_reached_through p w a bank
  charged_through bank inside = by (nat_lt 0 (charge_through p w a bank)) (is_reached_through p w a bank) refl refl
    where
      reached : is_reached_through p w a bank ≡ true → nat_lt 0 (charge_through p w a bank) ≡ true
      reached e =
          let there = path_there (λ path. nat_lt (bank_named p w a path) (banks_of w.is.shape.dims) && may_reach w.steps (bank_named p w a path) bank) (paths_of a) e in
          positive (charge_through p w a bank) (reaching_charges p w a owner_dims bank at.leads.steps named_within (record { path = there.0; there = there.1.0; reached = second_true (nat_lt (bank_named p w a there.0) (banks_of w.is.shape.dims)) (may_reach w.steps (bank_named p w a there.0) bank) there.1.1 }))

      charged : nat_lt 0 (charge_through p w a bank) ≡ true → is_reached_through p w a bank ≡ true
      charged e =
          let r = charged_reaches p w a owner_dims bank at.leads.steps inside (some_of (charge_through p w a bank) e) in
          there_path (λ path. nat_lt (bank_named p w a path) (banks_of w.is.shape.dims) && may_reach w.steps (bank_named p w a path) bank) (paths_of a) r.path r.there
          (both_true (nat_lt (bank_named p w a r.path) (banks_of w.is.shape.dims)) (may_reach w.steps (bank_named p w a r.path) bank) (below (bank_named p w a r.path) (banks_of w.is.shape.dims) (at.inside r.path)) r.reached)

      by : (b c : Bool) → nat_lt 0 (charge_through p w a bank) ≡ b → is_reached_through p w a bank ≡ c → b ≡ c
      by true true e f = refl
      by false false e f = refl
      by true false e f = absurd (clash (is_reached_through p w a bank) (charged e) f)
      by false true e f = absurd (clash (nat_lt 0 (charge_through p w a bank)) (reached f) e)

  module _ (memory : ℕ) (owner : w.memory ≡ Some memory) where
    is : memory_in (memories_of p) (Some memory) ≡ Some at.leads.memory
    is = ap (memory_in (memories_of p)) (sym owner) ∙ at.leads.found

    charge_is : (bank : ℕ) → bank < banks_of owner_dims → charge_by p (way_to p a.entity) a memory bank ≡ charge_through p w a bank
    charge_is bank inside =
        ap (λ x. charge_by p x a memory bank) led
        ∙ (ap (λ o. if same_entity o (Some memory) && nat_lt bank (banks_in p memory) then charge_through p w a bank else 0) owner
        ∙ (ap (λ b. if b && nat_lt bank (banks_in p memory) then charge_through p w a bank else 0) (eq-eqb memory memory refl)
        ∙ ap (λ b. if b then charge_through p w a bank else 0) (ap (λ o. nat_lt bank (charges.memory_banks o)) is ∙ below bank (banks_of owner_dims) inside)))

    one_through : (bank : ℕ) (shares : Bool) → bank < banks_of owner_dims → is_some (shared p number) ≡ shares → (if nat_lt 0 (charge p memory bank number) then 1 else 0) ≡ unless_shared shares (if is_reached_through p w a bank then 1 else 0)
    one_through bank shares inside e =
        ap (λ n. if nat_lt 0 n then 1 else 0)
        (ap (charge_of p memory bank number) stands
        ∙ (ap (λ n. if is_some (shared p number) then 0 else n) (charge_is bank inside) ∙ ap (λ b. if b then 0 else charge_through p w a bank) e))
        ∙ by shares
      where
        not_less : nat_lt 0 0 ≡ false
        not_less = grind (arith, nat_tests)

        by : (b : Bool) → (if nat_lt 0 (if b then 0 else charge_through p w a bank) then 1 else 0) ≡ unless_shared b (if is_reached_through p w a bank then 1 else 0)
        by true = ap (λ b. if b then 1 else 0) not_less
        by false = ap (λ b. if b then 1 else 0) (charged_through bank inside)

    some_through : (n : ℕ) (shares : Bool) → n ≤ banks_of owner_dims → is_some (shared p number) ≡ shares → banks_charged p memory number n ≡ unless_shared shares (count_below (is_reached_through p w a) n)
    some_through zero shares few e = none shares
      where
        none : (b : Bool) → 0 ≡ unless_shared b 0
        none true = refl
        none false = refl
    some_through (suc n) shares few e =
        ap (λ k. k + banks_charged p memory number n) (one_through n shares (less n (banks_of owner_dims) few) e)
        ∙ (ap (λ k. unless_shared shares (if is_reached_through p w a n then 1 else 0) + k) (some_through n shares (before n (banks_of owner_dims) few) e) ∙ both shares (if is_reached_through p w a n then 1 else 0) (count_below (is_reached_through p w a) n))
      where
        less : (n m : ℕ) → suc n ≤ m → n < m
        less n m e = omega (arith, e)

        before : (n m : ℕ) → suc n ≤ m → n ≤ m
        before n m e = omega (arith, e)

        both : (b : Bool) (x y : ℕ) → unless_shared b x + unless_shared b y ≡ unless_shared b (x + y)
        both true x y = nothing
          where
            nothing : 0 + 0 ≡ 0
            nothing = omega arith
        both false x y = refl

  through_banks : (shares : Bool) → shares ≡ is_some (shared p number) → unless_shared shares (banks_through p w (memory_in (memories_of p) w.memory) a) ≡ entity_banks_charged p number w.memory
  through_banks shares e = by w.memory refl
    where
      own : (n : ℕ) → n ≤ n
      own n = omega arith

      none : (b : Bool) → unless_shared b 0 ≡ 0
      none true = refl
      none false = refl

      nothing : (ms : List Memory) → memory_in ms None ≡ None
      nothing [] = refl
      nothing (m ∷ ms) = ap (λ b. if b then Some m else memory_in ms None) (unnamed m.name.entity) ∙ nothing ms
        where
          unnamed : (o : Option ℕ) → same_entity o None ≡ false
          unnamed None = refl
          unnamed (Some n) = refl

      by : (o : Option ℕ) → w.memory ≡ o → unless_shared shares (banks_through p w (memory_in (memories_of p) w.memory) a) ≡ entity_banks_charged p number w.memory
      by None f =
          ap (λ o. unless_shared shares (banks_through p w (memory_in (memories_of p) o) a)) f
          ∙ (ap (λ o. unless_shared shares (banks_through p w o a)) (nothing (memories_of p)) ∙ (none shares ∙ sym (ap (entity_banks_charged p number) f)))
      by (Some memory) f =
          ap (λ o. unless_shared shares (banks_through p w o a)) at.leads.found
          ∙ (sym (some_through memory f (banks_of owner_dims) shares (own (banks_of owner_dims)) (sym e))
          ∙ sym (ap (entity_banks_charged p number) f ∙ ap (λ o. banks_charged p memory number (memory_banks o)) (is memory f)))

-- the size of an access is told by the banks that it reaches
pub size_told : (p : Program) (number : ℕ) (a : SourceAccess) → slice_get (accesses_in (trace p)) number ≡ Some a → ((w : Way) → way_to p a.entity ≡ Some w → LeadsAt p w a) → (shares : Bool) → shares ≡ is_some (shared p number) → size_by p shares a ≡ access_size p number a
size_told p number a stands leads shares e = ap (λ n. length (paths_of a) * suc n) (by (way_to p a.entity) refl)
  where
    by : (o : Option Way) → way_to p a.entity ≡ o → unless_shared shares (banks_led p (way_to p a.entity) a) ≡ entity_banks_charged p number (base_of (way_to p a.entity) a.entity)
    by None u =
        ap (λ x. unless_shared shares (banks_led p x a)) u
        ∙ (direct_banks p number a stands u shares e ∙ ap (λ x. entity_banks_charged p number (base_of x a.entity)) (sym u))
    by (Some w) u =
        ap (λ x. unless_shared shares (banks_led p x a)) u
        ∙ (through_banks p number a stands w u (leads w u) shares e ∙ ap (λ x. entity_banks_charged p number (base_of x a.entity)) (sym u))

-- Accesses as the code knows them.

abbrev pub bare : SourceAccess → SourceAccess
bare a = record { place = a.place; entity = a.entity; element = a.element; writes = false; site = record { command = 0; arms = []; loops = a.site.loops } }

element_same : (p : Program) (a : SourceAccess) (dims : List Dim) (path : Path) (e : Element) → bank_reached (counters_of p) dims (bare a) path e ≡ bank_reached (counters_of p) dims a path e
element_same p a dims path (with_indices indices) = refl
element_same p a dims path (in_row bank row) = refl

reached_same : (p : Program) (a : SourceAccess) (m : Memory) (bank : ℕ) → is_reached p m.shape.dims (bare a) bank ≡ is_reached p m.shape.dims a bank
reached_same p a m bank = ap (λ t. list_any t (paths_of a)) (fun_ext (λ path. ap (λ n. n == bank) (element_same p a m.shape.dims path a.element)))

through_same : (p : Program) (w : Way) (a : SourceAccess) (bank : ℕ) → is_reached_through p w (bare a) bank ≡ is_reached_through p w a bank
through_same p w a bank =
    ap (λ t. list_any t (paths_of a)) (fun_ext (λ path. ap (λ n. nat_lt n (banks_of w.is.shape.dims) && may_reach w.steps n bank) (element_same p a w.is.shape.dims path a.element)))

count_same : (s t : ℕ → Bool) (n : ℕ) → ((k : ℕ) → s k ≡ t k) → count_below s n ≡ count_below t n
count_same s t zero h = refl
count_same s t (suc n) h = ap (λ b. (if b then 1 else 0) + count_below s n) (h n) ∙ ap (λ k. (if t n then 1 else 0) + k) (count_same s t n h)

-- an access by its element and the loops round it alone
pub bare_size : (p : Program) (shares : Bool) (a : SourceAccess) → size_by p shares (bare a) ≡ size_by p shares a
bare_size p shares a = ap (λ n. length (paths_of a) * suc (if shares then 0 else n)) (by_way (way_to p a.entity))
  where
    by_memory : (o : Option Memory) → memory_banks_reached p o (bare a) ≡ memory_banks_reached p o a
    by_memory None = refl
    by_memory (Some m) = count_same (is_reached p m.shape.dims (bare a)) (is_reached p m.shape.dims a) (banks_of m.shape.dims) (reached_same p a m)

    by_owner : (w : Way) (o : Option Memory) → banks_through p w o (bare a) ≡ banks_through p w o a
    by_owner w None = refl
    by_owner w (Some m) = count_same (is_reached_through p w (bare a)) (is_reached_through p w a) (banks_of m.shape.dims) (through_same p w a)

    by_way : (o : Option Way) → banks_led p o (bare a) ≡ banks_led p o a
    by_way None = by_memory (memory_in (memories_of p) a.entity)
    by_way (Some w) = by_owner w (memory_in (memories_of p) w.memory)

abbrev as_access : Touched → List Counter → SourceAccess
as_access x loops = record { place = x.place; entity = x.entity; element = x.element; writes = false; site = record { command = 0; arms = []; loops = loops } }

pub same_access : (loops : List Counter) (t : Term) (writes : Bool) (a : SourceAccess) → touched_by t writes ≡ of_access a → loops ≡ a.site.loops → access_of loops false t ≡ bare a
same_access loops (term place kind form) writes a e f =
    ap (λ (x : Touched). as_access x loops) e ∙ ap (λ (l : List Counter). as_access (of_access a) l) f

-- Banks of a memory that is there.

pub marks_done : (tree : Tree) (a : SourceAccess) (dims : List Dim) (marks shown : List Bool) (copies result : ℕ) → copies ≡ copies_in (loop_factors a.site.loops) → AreBankMarks tree dims a (banks_of dims) copies marks → shown ≡ marks → result ≡ marked shown
    → result ≡ banks_within (program_seen tree) dims a
marks_done tree a dims marks shown copies result copied so shown_is counted =
    counted
    ∙ (ap marked shown_is ∙ marks_counted marks (banks_of dims) (is_reached (program_seen tree) dims a) so.long (λ b within. so.each b within ∙ all_reached tree dims a copies b copied))

pub marks_few : (tree : Tree) (a : SourceAccess) (dims : List Dim) (marks shown : List Bool) (copies : ℕ) → banks_of dims ≤ 64 → AreBankMarks tree dims a (banks_of dims) copies marks → shown ≡ marks → length shown ≤ 64
marks_few tree a dims marks shown copies few so shown_is = subst (λ (n : ℕ). n ≤ 64) (sym (ap length shown_is ∙ so.long)) few

-- of one copy
one_counted : (bank n : ℕ) → count_below (λ b. bank == b) n ≡ (if nat_lt bank n then 1 else 0)
one_counted bank zero = grind (arith, nat_tests)
one_counted bank (suc n) = ap (λ k. (if bank == n then 1 else 0) + k) (one_counted bank n) ∙ more bank n
  where
    more : (bank n : ℕ) → (if bank == n then 1 else 0) + (if nat_lt bank n then 1 else 0) ≡ (if nat_lt bank (suc n) then 1 else 0)
    more bank n = grind (arith, nat_tests)

one_within : (tree : Tree) (a : SourceAccess) (dims : List Dim) (copies bank : ℕ) → copies ≡ copies_in (loop_factors a.site.loops) → copies ≡ 1 → bank ≡ bank_at_path tree dims a (path_of_number (loop_factors a.site.loops) 0)
    → (if nat_lt bank (banks_of dims) then 1 else 0) ≡ banks_within (program_seen tree) dims a
one_within tree a dims copies bank copied one is =
    sym (one_counted bank (banks_of dims))
    ∙ count_same (λ b. bank == b) (is_reached (program_seen tree) dims a) (banks_of dims) (λ b. ap (λ n. n == b) is ∙ all_reached tree dims a 1 b (sym one ∙ copied))

pub one_there : (tree : Tree) (a : SourceAccess) (dims : List Dim) (copies bank banks : ℕ) → copies ≡ copies_in (loop_factors a.site.loops) → copies ≡ 1 → bank ≡ bank_at_path tree dims a (path_of_number (loop_factors a.site.loops) 0) → banks ≡ banks_of dims → bank < banks
    → 1 ≡ banks_within (program_seen tree) dims a
one_there tree a dims copies bank banks copied one is counted less = ap (λ b. if b then 1 else 0) (sym (below bank (banks_of dims) (subst (λ (n : ℕ). bank < n) counted less))) ∙ one_within tree a dims copies bank copied one is
  where
    below : (b n : ℕ) → b < n → nat_lt b n ≡ true
    below b n e = grind (arith, nat_tests)

pub one_missing : (tree : Tree) (a : SourceAccess) (dims : List Dim) (copies bank banks : ℕ) → copies ≡ copies_in (loop_factors a.site.loops) → copies ≡ 1 → bank ≡ bank_at_path tree dims a (path_of_number (loop_factors a.site.loops) 0) → banks ≡ banks_of dims → banks ≤ bank
    → 0 ≡ banks_within (program_seen tree) dims a
one_missing tree a dims copies bank banks copied one is counted past = ap (λ b. if b then 1 else 0) (sym (beyond bank (banks_of dims) (subst (λ (n : ℕ). n ≤ bank) counted past))) ∙ one_within tree a dims copies bank copied one is
  where
    beyond : (b n : ℕ) → n ≤ b → nat_lt b n ≡ false
    beyond b n e = grind (arith, nat_tests)

pub met_done : (p : Program) (a : SourceAccess) (dims : List Dim) (number : ℕ) (entry : MemEntry) (result : ℕ) → number_in (memories_of p) a.entity ≡ Some number → slice_get (table_of p) number ≡ Some entry → dims ≡ entry.shape.dims → result ≡ banks_within p dims a → result ≡ banks_met p a
met_done p a dims number entry result known stands same so = so ∙ (ap (λ ds. banks_within p ds a) same ∙ sym (entry_reached p a number entry known stands))

pub below_most : (t : ℕ → Bool) (n : ℕ) → count_below t n ≤ n
below_most t zero = omega arith
below_most t (suc n) = by (t n) (below_most t n)
  where
    by : (b : Bool) → count_below t n ≤ n → (if b then 1 else 0) + count_below t n ≤ suc n
    by true h = omega (arith, h)
    by false h = omega (arith, h)

-- no more than the memory has
pub within_few : (p : Program) (a : SourceAccess) (dims : List Dim) (result : ℕ) → banks_of dims ≤ 64 → result ≡ banks_within p dims a → result ≤ 64
within_few p a dims result few so = at_most result (banks_within p dims a) (banks_of dims) so (below_most (is_reached p dims a) (banks_of dims)) few
  where
    at_most : (r n b : ℕ) → r ≡ n → n ≤ b → b ≤ 64 → r ≤ 64
    at_most r n b e f g = omega (arith, e, f, g)

pub shared_size : (p : Program) (a : SourceAccess) (copies : ℕ) (shares : Bool) → copies ≡ copies_in (loop_factors a.site.loops) → shares ≡ true → copies ≡ size_by p shares a
shared_size p a copies shares e f = e ∙ (sym (paths_counted a) ∙ (once (length (paths_of a)) ∙ sym (ap (λ b. length (paths_of a) * suc (if b then 0 else banks_met p a)) f)))
  where
    once : (n : ℕ) → n ≡ n * suc 0
    once n = omega arith

pub own_size : (p : Program) (a : SourceAccess) (copies banks : ℕ) (shares : Bool) → copies ≡ copies_in (loop_factors a.site.loops) → shares ≡ false → banks ≡ banks_met p a → copies * (banks + 1) ≡ size_by p shares a
own_size p a copies banks shares e f g =
    ap (λ n. n * (banks + 1)) (e ∙ sym (paths_counted a))
    ∙ (ap (λ n. length (paths_of a) * n) (add-one banks ∙ ap suc g) ∙ sym (ap (λ b. length (paths_of a) * suc (if b then 0 else banks_met p a)) f))

-- The names of members and of outside memories: the first memory without a member, and the first
-- member in byte order that no memory has.
use Rattle.std.proofs.Common.{◌≡◌, ℕ, suc, ◌+◌, List, [], ◌∷◌, Bool, true, false, ◌||◌, cond, if◌then◌else◌, Option, Some, None, string_bytes, Ordering, Less, Equal, Greater, nat_cmp, string_cmp, is_eq, bytes_eq, Contains, not, is_some, option_map, true≢false, refl, sym, ap, subst, ◌∙◌, arith, zero-add}
use Rattle.std.specs.List.{AllByRecursion}
use Rattle.std.specs.Map.{keys_of}
use Rattle.std.specs.Set.{is_member}
use Rattle.std.specs.BTreeSet.{BTreeSet, contains_by, Updates}
use Rattle.std.specs.Cmp.Lexicographic.{slice_cmp}
use Rattle.std.specs.List.Sorted.{IsStrictlySortedBy}
use denote.Ref.{Bor}
use Rattle.std.proofs.lemmas.Option.{none-some, same_Some}
use Rattle.std.specs.Ordering.{ordering_reverse}
use Rattle.std.proofs.lemmas.Bool.{false_from_ne_true}
use Rattle.std.proofs.lemmas.Cmp.{nat_list_cmp_total}
use Rattle.std.proofs.lemmas.Slice.Eq.{bytes_eq-Decides}
use Rattle.std.proofs.lemmas.Map.Made.{is_member-Decides}
use Rattle.std.proofs.lemmas.Map.Text.{is_eq-slice_cmp}
use Rattle.serde_json.specs.Data.{Members}
use Rattle.serde_json.specs.View.{members_view}
use Rattle.serde_json.proofs.Views.{Entry}
use Rattle.dh_tree.specs.declared.tables.MemEntry.{MemEntry}
use Rattle.dh_data.specs.DataFiles.{names_of, outside_names, Lacks, IsLeastUnknown, IsFirstIndex}
use Rattle.dh_data.specs.Reading.{first_other, FindsUnknown}

-- ---- the first memory without a member

-- what the memories from a place on tell of all
pub record Leads (ms : Members) (rest all : List MemEntry) (i : ℕ) : Type 0 where
  pub first : (j : ℕ) → IsFirstIndex (Lacks ms) rest j → IsFirstIndex (Lacks ms) all (i + j)
  pub none : AllByRecursion (λ e. Lacks ms e → ⊥) rest → AllByRecursion (λ e. Lacks ms e → ⊥) all

pub leads_start : (ms : Members) (all : List MemEntry) → Leads ms all all 0
leads_start ms all = record { first = λ j h. subst (λ n. IsFirstIndex (Lacks ms) all n) (sym (zero-add j)) h; none = λ h. h }

pub leads_on : (ms : Members) (rest more all : List MemEntry) (e : MemEntry) (i : ℕ) → rest ≡ e ∷ more → (Lacks ms e → ⊥) → Leads ms rest all i → Leads ms more all (i + 1)
leads_on ms rest more all e i list has l =
    let k : Leads ms (e ∷ more) all i = subst (λ (x : List MemEntry). Leads ms x all i) list l in
    record {
      first = λ j h. subst (λ n. IsFirstIndex (Lacks ms) all n) (omega arith) (k.first (suc j) (has, h));
      none = λ h. k.none (has, h);
    }

pub leads_here : (ms : Members) (rest more all : List MemEntry) (e : MemEntry) (i : ℕ) → rest ≡ e ∷ more → Lacks ms e → Leads ms rest all i → IsFirstIndex (Lacks ms) all i
leads_here ms rest more all e i list lacks l =
    let k : Leads ms (e ∷ more) all i = subst (λ (x : List MemEntry). Leads ms x all i) list l in
    subst (λ n. IsFirstIndex (Lacks ms) all n) (omega arith) (k.first 0 lacks)

pub leads_end : (ms : Members) (rest all : List MemEntry) (i : ℕ) → rest ≡ [] → Leads ms rest all i → AllByRecursion (λ e. Lacks ms e → ⊥) all
leads_end ms rest all i list l = (subst (λ (x : List MemEntry). Leads ms x all i) list l).none tt

-- ---- the set of outside names

same_text : (k q : List ℕ) → bytes_eq k q ≡ bytes_eq q k
same_text k q = by_test (bytes_eq k q) (bytes_eq q k) refl refl
  where
    by_test : (b c : Bool) → bytes_eq k q ≡ b → bytes_eq q k ≡ c → b ≡ c
    by_test true true h g = refl
    by_test false false h g = refl
    by_test true false h g = sym (sym g ∙ (bytes_eq-Decides q k).1 (sym ((bytes_eq-Decides k q).0 h)))
    by_test false true h g = sym h ∙ (bytes_eq-Decides k q).1 (sym ((bytes_eq-Decides q k).0 g))

-- one name more
pub set_more : (old new : BTreeSet (Bor (List ℕ))) (k : Bor (List ℕ)) (name : List ℕ) → k.now ≡ name → Updates (λ x y. slice_cmp nat_cmp x.now y.now) old new k true → (q : List ℕ)
    → contains_by (λ y. slice_cmp nat_cmp q y.now) new ≡ (bytes_eq q name || contains_by (λ y. slice_cmp nat_cmp q y.now) old)
set_more old new k name is u q =
    u.0 (record { ref_ptr = (0, 0); now = q })
    ∙ chosen (is_eq (slice_cmp nat_cmp k.now q)) (bytes_eq q name) (contains_by (λ y. slice_cmp nat_cmp q y.now) old) (is_eq-slice_cmp k.now q ∙ same_text k.now q ∙ ap (bytes_eq q) is)
  where
    chosen : (b c d : Bool) → b ≡ c → cond b true d ≡ (c || d)
    chosen true true d e = refl
    chosen false false d e = refl
    chosen true false d e = cc
    chosen false true d e = cc

or_later : (a b c : Bool) → ((a || b) || c) ≡ (b || (a || c))
or_later true true c = refl
or_later true false c = refl
or_later false b c = refl

-- what is known, and the names from a place on
pub known_more : (known next : Bool) (q : List ℕ) (e : MemEntry) (rest more : List MemEntry) → rest ≡ e ∷ more → e.outside ≡ true → next ≡ (bytes_eq q e.name || known)
    → (next || is_member bytes_eq (outside_names more) q) ≡ (known || is_member bytes_eq (outside_names rest) q)
known_more known next q e rest more list outside is =
    let names : outside_names (e ∷ more) ≡ e.name ∷ outside_names more = ap (λ b. if b then e.name ∷ outside_names more else outside_names more) outside in
    ap (λ b. b || is_member bytes_eq (outside_names more) q) is
    ∙ (or_later (bytes_eq q e.name) known (is_member bytes_eq (outside_names more) q)
    ∙ ap (λ (ns : List (List ℕ)). known || is_member bytes_eq ns q) (sym (ap outside_names list ∙ names)))

pub known_same : (known : Bool) (q : List ℕ) (e : MemEntry) (rest more : List MemEntry) → rest ≡ e ∷ more → e.outside ≡ false
    → (known || is_member bytes_eq (outside_names more) q) ≡ (known || is_member bytes_eq (outside_names rest) q)
known_same known q e rest more list local =
    let names : outside_names (e ∷ more) ≡ outside_names more = ap (λ b. if b then e.name ∷ outside_names more else outside_names more) local in
    ap (λ (ns : List (List ℕ)). known || is_member bytes_eq ns q) (sym (ap outside_names list ∙ names))

-- ---- the least unknown name

pub known_first : (others : List (List ℕ)) (n : List ℕ) (ns : List (List ℕ)) → is_member bytes_eq others n ≡ true → first_other others (n ∷ ns) ≡ first_other others ns
known_first others n ns e = ap (λ b. if b then first_other others ns else Some n) e

pub unknown_first : (others : List (List ℕ)) (n : List ℕ) (ns : List (List ℕ)) → is_member bytes_eq others n ≡ false → first_other others (n ∷ ns) ≡ Some n
unknown_first others n ns e = ap (λ b. if b then first_other others ns else Some n) e

-- ---- the first of names in ascending order is the least

abbrev Ascends : List (List ℕ) → Type 0
Ascends [] = Unit {0}
Ascends (n ∷ ns) = AllByRecursion (λ m. slice_cmp nat_cmp n m ≡ Less) ns × Ascends ns

above_first : (e : Entry) (es : List Entry) → AllByRecursion (λ k. string_cmp e.0 k ≡ Less) (keys_of es) → AllByRecursion (λ m. slice_cmp nat_cmp (string_bytes e.0) m ≡ Less) (names_of (members_view es))
above_first e [] h = tt
above_first e (x ∷ es) h = (h.0, above_first e es h.1)

ascending : (es : List Entry) → IsStrictlySortedBy string_cmp (keys_of es) → Ascends (names_of (members_view es))
unfolding IsStrictlySortedBy
ascending [] h = tt
ascending (e ∷ es) h = (above_first e es h.0, ascending es h.1)

member_at : (P : List ℕ → Type 0) (ns : List (List ℕ)) (q : List ℕ) → AllByRecursion P ns → is_member bytes_eq ns q ≡ true → P q
member_at P [] q h at = cc
member_at P (n ∷ ns) q h at = by_test (bytes_eq q n) refl at (member_at P ns q h.1)
  where
    by_test : (b : Bool) → bytes_eq q n ≡ b → (b || is_member bytes_eq ns q) ≡ true → (is_member bytes_eq ns q ≡ true → P q) → P q
    by_test true e at later = subst P (sym ((bytes_eq-Decides q n).0 e)) h.0
    by_test false e at later = later at

itself : (o : Ordering) → is_eq o ≡ true → o ≡ Less → ⊥
itself Less e h = true≢false (sym e)
itself Equal e h = true≢false (ap is_eq h)
itself Greater e h = true≢false (sym e)

both_less : (o p : Ordering) → o ≡ ordering_reverse p → o ≡ Less → p ≡ Less → ⊥
both_less o Less e h g = true≢false (ap is_gt (sym e ∙ h))
  where
    is_gt : Ordering → Bool
    is_gt Less = false
    is_gt Equal = false
    is_gt Greater = true
both_less o Equal e h g = true≢false (ap is_eq g)
both_less o Greater e h g = true≢false (ap is_gt g)
  where
    is_gt : Ordering → Bool
    is_gt Less = false
    is_gt Equal = false
    is_gt Greater = true

record FirstOther (others names : List (List ℕ)) (n : List ℕ) : Type 0 where
  there : is_member bytes_eq names n ≡ true
  other : is_member bytes_eq others n ≡ false
  least : (q : List ℕ) → is_member bytes_eq names q ≡ true → is_member bytes_eq others q ≡ false → slice_cmp nat_cmp q n ≡ Less → ⊥

or_right : (b c : Bool) → c ≡ true → (b || c) ≡ true
or_right true c e = refl
or_right false c e = e

first_here : (others : List (List ℕ)) (x : List ℕ) (xs : List (List ℕ)) → AllByRecursion (λ m. slice_cmp nat_cmp x m ≡ Less) xs → is_member bytes_eq others x ≡ false → FirstOther others (x ∷ xs) x
first_here others x xs above other =
    record {
      there = ap (λ b. b || is_member bytes_eq xs x) ((bytes_eq-Decides x x).1 refl);
      other = other;
      least = λ q at out less. by_test q (bytes_eq q x) refl at less;
    }
  where
    by_test : (q : List ℕ) (b : Bool) → bytes_eq q x ≡ b → (b || is_member bytes_eq xs q) ≡ true → slice_cmp nat_cmp q x ≡ Less → ⊥
    by_test q true e at less = itself (slice_cmp nat_cmp q x) (is_eq-slice_cmp q x ∙ e) less
    by_test q false e at less = both_less (slice_cmp nat_cmp x q) (slice_cmp nat_cmp q x) (nat_list_cmp_total.antisymm x q) (member_at (λ m. slice_cmp nat_cmp x m ≡ Less) xs q above at) less

first_later : (others : List (List ℕ)) (x : List ℕ) (xs : List (List ℕ)) (n : List ℕ) → is_member bytes_eq others x ≡ true → FirstOther others xs n → FirstOther others (x ∷ xs) n
first_later others x xs n known f =
    record {
      there = or_right (bytes_eq n x) _ f.there;
      other = f.other;
      least = λ q at out less. by_test q (bytes_eq q x) refl at out less;
    }
  where
    by_test : (q : List ℕ) (b : Bool) → bytes_eq q x ≡ b → (b || is_member bytes_eq xs q) ≡ true → is_member bytes_eq others q ≡ false → slice_cmp nat_cmp q n ≡ Less → ⊥
    by_test q true e at out less = true≢false (sym known ∙ (ap (is_member bytes_eq others) (sym ((bytes_eq-Decides q x).0 e)) ∙ out))
    by_test q false e at out less = f.least q at out less

first_found : (others names : List (List ℕ)) (n : List ℕ) → Ascends names → first_other others names ≡ Some n → FirstOther others names n
first_found others [] n h e = absurd (none-some n e)
first_found others (x ∷ xs) n h e = by_test (is_member bytes_eq others x) refl e (first_found others xs n h.1)
  where
    by_test : (b : Bool) → is_member bytes_eq others x ≡ b → (if b then first_other others xs else Some x) ≡ Some n → (first_other others xs ≡ Some n → FirstOther others xs n) → FirstOther others (x ∷ xs) n
    by_test true known e later = first_later others x xs n known (later e)
    by_test false other e later = subst (λ m. FirstOther others (x ∷ xs) m) (same_Some _ _ e) (first_here others x xs h.0 other)

all_known : (others names : List (List ℕ)) → first_other others names ≡ None → AllByRecursion (λ q. is_member bytes_eq others q ≡ true) names
all_known others [] e = tt
all_known others (x ∷ xs) e = by_test (is_member bytes_eq others x) refl e (all_known others xs)
  where
    by_test : (b : Bool) → is_member bytes_eq others x ≡ b → (if b then first_other others xs else Some x) ≡ None → (first_other others xs ≡ None → AllByRecursion (λ q. is_member bytes_eq others q ≡ true) xs)
        → AllByRecursion (λ q. is_member bytes_eq others q ≡ true) (x ∷ xs)
    by_test true known e later = (known, later e)
    by_test false other e later = absurd (none-some x (sym e))

not_member : (ns : List (List ℕ)) (q : List ℕ) → (Contains ns q → ⊥) → is_member bytes_eq ns q ≡ false
not_member ns q h = false_from_ne_true (is_member bytes_eq ns q) (λ e. h ((is_member-Decides bytes_eq-Decides ns q).0 e))

least_some : (table : List MemEntry) (ms : Members) (n : List ℕ) → FirstOther (outside_names table) (names_of ms) n → IsLeastUnknown table ms n
least_some table ms n f =
    record {
      unknown = record {
        there = (is_member-Decides bytes_eq-Decides (names_of ms) n).0 f.there;
        other = λ at. true≢false (sym ((is_member-Decides bytes_eq-Decides (outside_names table) n).1 at) ∙ f.other);
      };
      least = λ q u less. f.least q ((is_member-Decides bytes_eq-Decides (names_of ms) q).1 u.there) (not_member (outside_names table) q u.other) less;
    }

-- the first unknown name of members in order is the least
pub first_is_least : (table : List MemEntry) (es : List Entry) (u : Option (List ℕ)) → IsStrictlySortedBy string_cmp (keys_of es)
    → first_other (outside_names table) (names_of (members_view es)) ≡ u → FindsUnknown table (members_view es) u
first_is_least table es None h e =
    λ q u. u.other ((is_member-Decides bytes_eq-Decides (outside_names table) q).0
    (member_at (λ n. is_member bytes_eq (outside_names table) n ≡ true) (names_of (members_view es)) q (all_known (outside_names table) (names_of (members_view es)) e) ((is_member-Decides bytes_eq-Decides (names_of (members_view es)) q).1 u.there)))
first_is_least table es (Some n) h e = least_some table (members_view es) n (first_found (outside_names table) (names_of (members_view es)) n (ascending es h) e)

-- ---- a member that was looked for

pub none_found : {A B : Type 0} (f : A → B) (r : Option A) (b : Bool) (o : Option B) → is_some r ≡ not b → b ≡ true → option_map f r ≡ o → o ≡ None
none_found f None b o e h is = sym is
none_found f (Some x) b o e h is = absurd (true≢false (e ∙ ap not h))

pub some_found : {A B : Type 0} (f : A → B) (r : Option A) (b : Bool) (o : Option B) → is_some r ≡ not b → b ≡ false → option_map f r ≡ o → o ≡ None → ⊥
some_found f None b o e h is none = true≢false (sym (e ∙ ap not h))
some_found f (Some x) b o e h is none = none-some (f x) (sym (is ∙ none))

-- The contents that a file says fit the table. And a table has fewer memories than a number of 32
-- bits tells.
use Rattle.std.proofs.Common.{◌≡◌, ℕ, zero, suc, ◌+◌, ◌*◌, ◌<◌, ◌≤◌, ◌^◌, List, [], ◌∷◌, length, Bool, true, false, Some, Result, Ok, Err, IfOk, refl, sym, ap, subst, ◌∙◌, arith}
use Rattle.std.specs.List.{AllByRecursion}
use Rattle.std.proofs.Math.ListN.{replicate}
use Rattle.std.proofs.Math.Nat.{mul-pos}
use Rattle.std.proofs.lemmas.List.{length-append, length-replicate}
use Rattle.std.proofs.lemmas.Nat.{pow_pos}
use Rattle.std.proofs.lemmas.Option.{none-some, same_Some}
use Rattle.serde_json.specs.Data.{Data, null, boolean, number, string, array, Items, no_items, item, Members, object}
use Rattle.serde_json.specs.Events.{items_len}
use Rattle.serde_json.specs.Find.{as_object}
use Rattle.dh_value.specs.Words.{width_of, IsInteger}
use Rattle.dh_value.specs.declared.kinds.Kind.{Kind}
use Rattle.dh_value.proofs.Values.{integer_width}
use Rattle.dh_value.proofs.WordLaws.{word_of_is_word}
use Rattle.dh_tree.specs.Shapes.{IsDim, IsMemory, IsProgramTable}
use Rattle.dh_tree.specs.Tables.{elements_of, elements_in, most_elements, FitsEntry, Fits}
use Rattle.dh_tree.specs.declared.tables.Dim.{Dim}
use Rattle.dh_tree.specs.declared.tables.MemEntry.{MemEntry}
use Rattle.dh_data.specs.DataFiles.{ReadsAs, EachItem, HasDeclaredSizes, joined_items, in_order, AreElements, IsContents, AreContents, Says, AreSaid, HasAll, ReadsDataFile, IfTold}
use Rattle.dh_data.specs.Reading.{HasCountableNumbers, ValueMeans, IsSaid}
use Rattle.dh_data.specs.declared.data_files.DataFault.{DataFault}
use Rattle.dh_data.specs.declared.data_files.DataFault.TheVariants.{NotJson, Missing, Unknown, Format, Size, Value, NoMemory}

-- ---- the number of memories

both_least : (a b : ℕ) → 1 ≤ a → 1 ≤ b → 1 ≤ a * b
both_least a b h k =
    let p : 0 < a = omega (arith, h) in
    let q : 0 < b = omega (arith, k) in
    let r : 0 < a * b = mul-pos p q in
    omega (arith, r)

at_least_one : (ds : List Dim) → AllByRecursion IsDim ds → 1 ≤ elements_of ds
at_least_one [] h = omega arith
at_least_one (d ∷ ds) h = both_least d.size (elements_of ds) h.0.size (at_least_one ds h.1)

here_few : (a b m : ℕ) → a + b ≤ m → a ≤ m
here_few a b m h = omega (arith, h)

rest_few : (a b m : ℕ) → a + b ≤ m → b ≤ m
rest_few a b m h = omega (arith, h)

are_held : (es : List MemEntry) → AllByRecursion IsMemory es → elements_in es ≤ most_elements → AllByRecursion HasCountableNumbers es
are_held [] h few = tt
are_held (e ∷ es) h few = (
  record { integer = h.0.shape.integer; least = at_least_one e.shape.dims h.0.shape.dims; few = here_few (elements_of e.shape.dims) (elements_in es) most_elements few },
  are_held es h.1 (rest_few (elements_of e.shape.dims) (elements_in es) most_elements few),
)

-- the memories of a program
pub held : (es : List MemEntry) → IsProgramTable es → AllByRecursion HasCountableNumbers es
held es h = are_held es h.entries h.elements

as_many_elements : (es : List MemEntry) → AllByRecursion HasCountableNumbers es → length es ≤ elements_in es
as_many_elements [] h = omega arith
as_many_elements (e ∷ es) h =
    let here : 1 ≤ elements_of e.shape.dims = h.0.least in
    let rest : length es ≤ elements_in es = as_many_elements es h.1 in
    omega (arith, here, rest)

pub few_memories : (es : List MemEntry) → IsProgramTable es → length es < 2 ^ 32
few_memories es h = let many : length es ≤ elements_in es = as_many_elements es (held es h) in omega (arith, many, h.elements)

-- ---- lengths

long_joined : (ns : List Dim) (ds : Items) → ((d : Data) → HasDeclaredSizes ns d → length (in_order ns d) ≡ elements_of ns) → EachItem (HasDeclaredSizes ns) ds → length (joined_items (in_order ns) ds) ≡ items_len ds * elements_of ns
long_joined ns no_items each h = omega arith
long_joined ns (item d ds) each h =
    let here : length (in_order ns d) ≡ elements_of ns = each d h.0 in
    let rest : length (joined_items (in_order ns) ds) ≡ items_len ds * elements_of ns = long_joined ns ds each h.1 in
    length-append (in_order ns d) (joined_items (in_order ns) ds) ∙ sum (length (in_order ns d)) (length (joined_items (in_order ns) ds)) (elements_of ns) (items_len ds) here rest
  where
    sum : (a b n i : ℕ) → a ≡ n → b ≡ i * n → a + b ≡ suc i * n
    sum a b n i h g = ap (λ x. x + b) h ∙ (ap (λ x. n + x) g ∙ omega arith)

long_order : (ns : List Dim) (d : Data) → HasDeclaredSizes ns d → length (in_order ns d) ≡ elements_of ns
long_order [] d h = refl
long_order (n ∷ ns) d h =
    let inside : length (in_order (n ∷ ns) (array h.0)) ≡ items_len h.0 * elements_of ns = long_joined ns h.0 (long_order ns) h.1.1.1 in
    ap (λ x. length (in_order (n ∷ ns) x)) h.1.0 ∙ (inside ∙ ap (λ x. x * elements_of ns) h.1.1.0)

as_long : (k : Kind) (ds : List Data) (vs : List ℕ) → AreElements k ds vs → length vs ≡ length ds
as_long k [] [] h = refl
as_long k [] (v ∷ vs) h = absurd h
as_long k (d ∷ ds) [] h = absurd h
as_long k (d ∷ ds) (v ∷ vs) h = ap suc (as_long k ds vs h.1)

all_small : (k : Kind) (ds : List Data) (vs : List ℕ) → IsInteger k → AreElements k ds vs → AllByRecursion (λ v. v < 2 ^ width_of k) vs
all_small k [] [] i h = tt
all_small k [] (v ∷ vs) i h = absurd h
all_small k (d ∷ ds) [] i h = absurd h
all_small k (d ∷ ds) (v ∷ vs) i h = (subst (λ n. n < 2 ^ width_of k) (sym h.0.bits_are) (word_of_is_word k h.0.z (integer_width k i)).fits, all_small k ds vs i h.1)

zeros_small : (w n : ℕ) → AllByRecursion (λ v. v < 2 ^ w) (replicate n 0)
zeros_small w zero = tt
zeros_small w (suc n) = (pow_pos w, zeros_small w n)

fits_by : (ms : Members) (e : MemEntry) (v : List ℕ) (b : Bool) → e.outside ≡ b → HasCountableNumbers e → IsContents ms e v → FitsEntry e v
fits_by ms e v true is h g =
    let r = g.outside is in
    record { long = as_long e.shape.kind (in_order e.shape.dims r.data_) v r.elements ∙ long_order e.shape.dims r.data_ r.sized; small = all_small e.shape.kind (in_order e.shape.dims r.data_) v h.integer r.elements }
fits_by ms e v false is h g =
    subst (λ (x : List ℕ). FitsEntry e x) (sym (g.local is)) (record { long = length-replicate (elements_of e.shape.dims) 0; small = zeros_small (width_of e.shape.kind) (elements_of e.shape.dims) })

all_fit : (ms : Members) (es : List MemEntry) (vs : List (List ℕ)) → AllByRecursion HasCountableNumbers es → AreContents ms es vs → Fits es vs
all_fit ms [] [] h g = tt
all_fit ms [] (v ∷ vs) h g = absurd g
all_fit ms (e ∷ es) [] h g = absurd g
all_fit ms (e ∷ es) (v ∷ vs) h g = (fits_by ms e v e.outside refl h.0 g.0, all_fit ms es vs h.1 g.1)

said : (table : List MemEntry) (bytes : List ℕ) (d : Data) (r : Result (List (List ℕ)) DataFault) → ReadsAs bytes d → IsSaid table d r → AreSaid table bytes r
said table bytes d r at h = record { members = h.0; read = subst (λ x. ReadsAs bytes x) h.1.0 at; says = h.1.1 }

same_value : (bytes : List ℕ) (d e : Data) → ReadsAs bytes d → ReadsAs bytes e → d ≡ e
same_value bytes d e h g = same_Some _ _ (sym h.value ∙ g.value)

-- what a value shows, its bytes mean
pub shows_means : (table : List MemEntry) (bytes : List ℕ) (d : Data) (r : Result (List (List ℕ)) DataFault) → ReadsAs bytes d → ValueMeans table d r → ReadsDataFile table bytes r
shows_means table bytes d (Ok m) at h = said table bytes d (Ok m) at h
shows_means table bytes d (Err NotJson) at h = λ ms other. h ms (same_value bytes d (object ms) at other)
shows_means table bytes d (Err (Missing i)) at h = said table bytes d (Err (Missing i)) at h
shows_means table bytes d (Err (Unknown n)) at h = said table bytes d (Err (Unknown n)) at h
shows_means table bytes d (Err (Format i)) at h = said table bytes d (Err (Format i)) at h
shows_means table bytes d (Err (Size i)) at h = said table bytes d (Err (Size i)) at h
shows_means table bytes d (Err (Value i p)) at h = said table bytes d (Err (Value i p)) at h
shows_means table bytes d (Err NoMemory) at h = tt

-- and the contents fit
pub shown_fits : (table : List MemEntry) (d : Data) (r : Result (List (List ℕ)) DataFault) → IsProgramTable table → ValueMeans table d r → IfOk r (λ m. Fits table m)
shown_fits table d (Ok m) h g = all_fit g.0 table m (held table h) g.1.1.1.1
shown_fits table d (Err f) h g = tt

pub of_object : (d : Data) (ms : Members) → Some ms ≡ as_object d → d ≡ object ms
of_object null ms e = absurd (none-some ms (sym e))
of_object (boolean b) ms e = absurd (none-some ms (sym e))
of_object (number n) ms e = absurd (none-some ms (sym e))
of_object (string s) ms e = absurd (none-some ms (sym e))
of_object (array ds) ms e = absurd (none-some ms (sym e))
of_object (object m) ms e = ap object (same_Some _ _ (sym e))

-- what an object says, a value that is one shows
pub said_shows : (table : List MemEntry) (d : Data) (ms : Members) (r : Result (List (List ℕ)) DataFault) → d ≡ object ms → IfTold r (Says table ms r) → (r ≡ Err NoMemory → HasAll table ms)
    → ValueMeans table d r
said_shows table d ms (Ok m) is h refused = (ms, (is, h))
said_shows table d ms (Err NotJson) is h refused = absurd h
said_shows table d ms (Err (Missing i)) is h refused = (ms, (is, h))
said_shows table d ms (Err (Unknown n)) is h refused = (ms, (is, h))
said_shows table d ms (Err (Format i)) is h refused = (ms, (is, h))
said_shows table d ms (Err (Size i)) is h refused = (ms, (is, h))
said_shows table d ms (Err (Value i p)) is h refused = (ms, (is, h))
said_shows table d ms (Err NoMemory) is h refused = (ms, (is, refused refl))

-- Bytes mean one thing for a table: each part of an answer tells the part of any other.
use Rattle.std.proofs.Common.{◌≡◌, ℕ, zero, suc, List, [], ◌∷◌, Bool, true, false, codes, Option, Result, Ok, Err, Ordering, Less, Equal, Greater, nat_cmp, is_eq, refl, sym, ap, subst, ◌∙◌}
use Rattle.std.specs.List.{AllByRecursion}
use Rattle.std.specs.Ordering.{ordering_reverse}
use Rattle.std.specs.Cmp.Lexicographic.{slice_cmp}
use Rattle.std.proofs.lemmas.Cmp.{nat_list_cmp_total}
use Rattle.std.proofs.lemmas.Option.{same_Some}
use Rattle.std.proofs.lemmas.Slice.Eq.{bytes_eq-Decides}
use Rattle.std.proofs.lemmas.Map.Text.{is_eq-slice_cmp}
use Rattle.serde_json.specs.Data.{Data, object, Members}
use Rattle.serde_json.specs.Find.{get_member, as_object}
use Rattle.dh_value.specs.Words.{word_of}
use Rattle.dh_value.specs.declared.kinds.Kind.{Kind}
use Rattle.dh_tree.specs.declared.tables.MemEntry.{MemEntry}
use Rattle.dh_data.specs.DataFiles.{ReadsAs, Lacks, IsLeastUnknown, HasAll, HasNoOther, Offers, HasDeclaredSizes, in_order, IsDataElement, IsNoElement, AreElements, IsContents, AreContents, IsFirstIndex, IsOtherFormat, IsOtherSize, IsOtherValue, StopsAt, Says, AreSaid, Means, IfTold}
use Rattle.dh_data.specs.declared.data_files.DataFault.{DataFault}
use Rattle.dh_data.specs.declared.data_files.DataFault.TheVariants.{NotJson, Missing, Unknown, Format, Size, Value, NoMemory}

-- ---- places

one_first : {A : Type 0} (P : A → Type 0) (xs : List A) (i j : ℕ) → IsFirstIndex P xs i → IsFirstIndex P xs j → i ≡ j
one_first P [] i j h g = absurd h
one_first P (x ∷ xs) zero zero h g = refl
one_first P (x ∷ xs) zero (suc j) h g = absurd (g.0 h)
one_first P (x ∷ xs) (suc i) zero h g = absurd (h.0 g)
one_first P (x ∷ xs) (suc i) (suc j) h g = ap suc (one_first P xs i j h.1 g.1)

no_first : {A : Type 0} (P : A → Type 0) (xs : List A) (i : ℕ) → IsFirstIndex P xs i → AllByRecursion (λ x. P x → ⊥) xs → ⊥
no_first P [] i h g = absurd h
no_first P (x ∷ xs) zero h g = g.0 h
no_first P (x ∷ xs) (suc i) h g = no_first P xs i h.1 g.1

-- ---- names

apart : (o p : Ordering) → o ≡ ordering_reverse p → (o ≡ Less → ⊥) → (p ≡ Less → ⊥) → is_eq o ≡ true
apart Less p e h g = absurd (h refl)
apart Equal p e h g = refl
apart Greater Less e h g = absurd (g refl)
apart Greater Equal e h g = ap is_eq e
apart Greater Greater e h g = absurd (h e)

one_unknown : (table : List MemEntry) (ms : Members) (n m : List ℕ) → IsLeastUnknown table ms n → IsLeastUnknown table ms m → n ≡ m
one_unknown table ms n m h g =
    (bytes_eq-Decides n m).0 (sym (is_eq-slice_cmp n m) ∙ apart (slice_cmp nat_cmp n m) (slice_cmp nat_cmp m n) (nat_list_cmp_total.antisymm n m) (g.least n h.unknown) (h.least m g.unknown))

-- ---- the contents of a memory

one_data : (k : Kind) (o : Option Data) (c d : Data) → Offers k o c → Offers k o d → c ≡ d
one_data k o c d h g =
    let objects : object h.members ≡ object g.members = same_Some _ _ (sym h.whole ∙ g.whole) in
    let members : h.members ≡ g.members = same_Some _ _ (ap as_object objects) in
    same_Some _ _ (sym h.data_is ∙ (ap (λ ms. get_member (codes "data") ms) members ∙ g.data_is))

one_element : (k : Kind) (d : Data) (v w : ℕ) → IsDataElement k d v → IsDataElement k d w → v ≡ w
one_element k d v w h g =
    let same : h.z ≡ g.z = same_Some _ _ (sym h.whole ∙ g.whole) in
    h.bits_are ∙ (ap (λ z. (word_of k z).bits) same ∙ sym g.bits_are)

one_elements : (k : Kind) (ds : List Data) (vs ws : List ℕ) → AreElements k ds vs → AreElements k ds ws → vs ≡ ws
one_elements k [] [] [] h g = refl
one_elements k [] [] (w ∷ ws) h g = absurd g
one_elements k [] (v ∷ vs) ws h g = absurd h
one_elements k (d ∷ ds) [] ws h g = absurd h
one_elements k (d ∷ ds) (v ∷ vs) [] h g = absurd g
one_elements k (d ∷ ds) (v ∷ vs) (w ∷ ws) h g = ap (λ x. x ∷ vs) (one_element k d v w h.0 g.0) ∙ ap (λ xs. w ∷ xs) (one_elements k ds vs ws h.1 g.1)

all_elements : (k : Kind) (ds : List Data) (vs : List ℕ) (p : ℕ) → AreElements k ds vs → IsFirstIndex (IsNoElement k) ds p → ⊥
all_elements k [] vs p h g = absurd g
all_elements k (d ∷ ds) [] p h g = absurd h
all_elements k (d ∷ ds) (v ∷ vs) zero h g = g v h.0
all_elements k (d ∷ ds) (v ∷ vs) (suc p) h g = all_elements k ds vs p h.1 g.1

one_contents_by : (ms : Members) (e : MemEntry) (v w : List ℕ) (b : Bool) → e.outside ≡ b → IsContents ms e v → IsContents ms e w → v ≡ w
one_contents_by ms e v w true is h g =
    let a = h.outside is in
    let b = g.outside is in
    let same : a.data_ ≡ b.data_ = one_data e.shape.kind (get_member e.name ms) a.data_ b.data_ a.offers b.offers in
    one_elements e.shape.kind (in_order e.shape.dims b.data_) v w (subst (λ d. AreElements e.shape.kind (in_order e.shape.dims d) v) same a.elements) b.elements
one_contents_by ms e v w false is h g = h.local is ∙ sym (g.local is)

one_contents : (ms : Members) (es : List MemEntry) (vs ws : List (List ℕ)) → AreContents ms es vs → AreContents ms es ws → vs ≡ ws
one_contents ms [] [] [] h g = refl
one_contents ms [] [] (w ∷ ws) h g = absurd g
one_contents ms [] (v ∷ vs) ws h g = absurd h
one_contents ms (e ∷ es) [] ws h g = absurd h
one_contents ms (e ∷ es) (v ∷ vs) [] h g = absurd g
one_contents ms (e ∷ es) (v ∷ vs) (w ∷ ws) h g = ap (λ x. x ∷ vs) (one_contents_by ms e v w e.outside refl h.0 g.0) ∙ ap (λ xs. w ∷ xs) (one_contents ms es vs ws h.1 g.1)

-- ---- the fault of a memory

-- what may be wrong with a memory's member
data Wrong : Type 0 where
  format : Wrong
  size : Wrong
  value : ℕ → Wrong

abbrev IsWrong : Members → Wrong → MemEntry → Type 0
IsWrong ms format e = IsOtherFormat ms e
IsWrong ms size e = IsOtherSize ms e
IsWrong ms (value p) e = IsOtherValue ms p e

abbrev fault_of : Wrong → ℕ → DataFault
fault_of format i = Format i
fault_of size i = Size i
fault_of (value p) i = Value i p

sized_same : (ms : Members) (e : MemEntry) (c d : Data) → Offers e.shape.kind (get_member e.name ms) c → Offers e.shape.kind (get_member e.name ms) d → HasDeclaredSizes e.shape.dims c → HasDeclaredSizes e.shape.dims d
sized_same ms e c d h g s = subst (λ x. HasDeclaredSizes e.shape.dims x) (one_data e.shape.kind (get_member e.name ms) c d h g) s

one_position : (ms : Members) (e : MemEntry) (p q : ℕ) → IsOtherValue ms p e → IsOtherValue ms q e → p ≡ q
one_position ms e p q h g =
    let same : h.data_ ≡ g.data_ = one_data e.shape.kind (get_member e.name ms) h.data_ g.data_ h.offers g.offers in
    one_first (IsNoElement e.shape.kind) (in_order e.shape.dims g.data_) p q (subst (λ d. IsFirstIndex (IsNoElement e.shape.kind) (in_order e.shape.dims d) p) same h.first) g.first

one_wrong : (ms : Members) (e : MemEntry) (t u : Wrong) → IsWrong ms t e → IsWrong ms u e → t ≡ u
one_wrong ms e format format h g = refl
one_wrong ms e format size h g = absurd (h.none g.data_ g.offers)
one_wrong ms e format (value q) h g = absurd (h.none g.data_ g.offers)
one_wrong ms e size format h g = absurd (g.none h.data_ h.offers)
one_wrong ms e size size h g = refl
one_wrong ms e size (value q) h g = absurd (h.other (sized_same ms e g.data_ h.data_ g.offers h.offers g.sized))
one_wrong ms e (value p) format h g = absurd (g.none h.data_ h.offers)
one_wrong ms e (value p) size h g = absurd (g.other (sized_same ms e h.data_ g.data_ h.offers g.offers h.sized))
one_wrong ms e (value p) (value q) h g = ap value (one_position ms e p q h g)

not_both : (ms : Members) (e : MemEntry) (t : Wrong) (v : List ℕ) → IsWrong ms t e → IsContents ms e v → ⊥
not_both ms e format v h g = let r = g.outside h.outside in h.none r.data_ r.offers
not_both ms e size v h g = let r = g.outside h.outside in h.other (sized_same ms e r.data_ h.data_ r.offers h.offers r.sized)
not_both ms e (value p) v h g =
    let r = g.outside h.outside in
    let same : r.data_ ≡ h.data_ = one_data e.shape.kind (get_member e.name ms) r.data_ h.data_ r.offers h.offers in
    all_elements e.shape.kind (in_order e.shape.dims h.data_) v p (subst (λ d. AreElements e.shape.kind (in_order e.shape.dims d) v) same r.elements) h.first

next_pair : (t u : Wrong) (i j : ℕ) → ◌≡◌ {A = Wrong × ℕ} (t, i) (u, j) → ◌≡◌ {A = Wrong × ℕ} (t, suc i) (u, suc j)
next_pair t u i j e = ap (λ (p : Wrong × ℕ). (p.0, suc p.1)) e

one_pair : (ms : Members) (es : List MemEntry) (t u : Wrong) (i j : ℕ) → StopsAt (IsWrong ms t) ms es i → StopsAt (IsWrong ms u) ms es j → ◌≡◌ {A = Wrong × ℕ} (t, i) (u, j)
one_pair ms [] t u i j h g = absurd h
one_pair ms (e ∷ es) t u zero zero h g = ap (λ x. (x, 0)) (one_wrong ms e t u h g)
one_pair ms (e ∷ es) t u zero (suc j) h g = absurd (not_both ms e t g.0.0 h g.0.1)
one_pair ms (e ∷ es) t u (suc i) zero h g = absurd (not_both ms e u h.0.0 g h.0.1)
one_pair ms (e ∷ es) t u (suc i) (suc j) h g = next_pair t u i j (one_pair ms es t u i j h.1 g.1)

one_stop : (ms : Members) (es : List MemEntry) (t u : Wrong) (i j : ℕ) → StopsAt (IsWrong ms t) ms es i → StopsAt (IsWrong ms u) ms es j → fault_of t i ≡ fault_of u j
one_stop ms es t u i j h g = ap (λ (p : Wrong × ℕ). fault_of p.0 p.1) (one_pair ms es t u i j h g)

no_stop : (ms : Members) (es : List MemEntry) (t : Wrong) (i : ℕ) (vs : List (List ℕ)) → StopsAt (IsWrong ms t) ms es i → AreContents ms es vs → ⊥
no_stop ms [] t i vs h g = absurd h
no_stop ms (e ∷ es) t i [] h g = absurd g
no_stop ms (e ∷ es) t zero (v ∷ vs) h g = not_both ms e t v h g.0
no_stop ms (e ∷ es) t (suc i) (v ∷ vs) h g = no_stop ms es t i vs h.1 g.1

-- ---- the answer

-- an answer by the part that it stops in
data Part : Type 0 where
  missing : ℕ → Part
  unknown : List ℕ → Part
  stops : Wrong → ℕ → Part
  right : List (List ℕ) → Part

abbrev answer_of : Part → Result (List (List ℕ)) DataFault
answer_of (missing i) = Err (Missing i)
answer_of (unknown n) = Err (Unknown n)
answer_of (stops t i) = Err (fault_of t i)
answer_of (right m) = Ok m

abbrev SaysPart : List MemEntry → Members → Part → Type 0
SaysPart table ms (missing i) = IsFirstIndex (Lacks ms) table i
SaysPart table ms (unknown n) = HasAll table ms × IsLeastUnknown table ms n
SaysPart table ms (stops t i) = HasAll table ms × (HasNoOther table ms × StopsAt (IsWrong ms t) ms table i)
SaysPart table ms (right m) = HasAll table ms × (HasNoOther table ms × AreContents ms table m)

part_of : (table : List MemEntry) (ms : Members) (r : Result (List (List ℕ)) DataFault) → Says table ms r → (p : Part) × ((answer_of p ≡ r) × SaysPart table ms p)
part_of table ms (Ok m) h = (right m, (refl, h))
part_of table ms (Err NotJson) h = absurd h
part_of table ms (Err (Missing i)) h = (missing i, (refl, h))
part_of table ms (Err (Unknown n)) h = (unknown n, (refl, h))
part_of table ms (Err (Format i)) h = (stops format i, (refl, h))
part_of table ms (Err (Size i)) h = (stops size i, (refl, h))
part_of table ms (Err (Value i p)) h = (stops (value p) i, (refl, h))
part_of table ms (Err NoMemory) h = absurd h

one_part : (table : List MemEntry) (ms : Members) (p q : Part) → SaysPart table ms p → SaysPart table ms q → answer_of p ≡ answer_of q
one_part table ms (missing i) (missing j) h g = ap (λ n. answer_of (missing n)) (one_first (Lacks ms) table i j h g)
one_part table ms (missing i) (unknown m) h g = absurd (no_first (Lacks ms) table i h g.0)
one_part table ms (missing i) (stops u j) h g = absurd (no_first (Lacks ms) table i h g.0)
one_part table ms (missing i) (right w) h g = absurd (no_first (Lacks ms) table i h g.0)
one_part table ms (unknown n) (missing j) h g = absurd (no_first (Lacks ms) table j g h.0)
one_part table ms (unknown n) (unknown m) h g = ap (λ x. answer_of (unknown x)) (one_unknown table ms n m h.1 g.1)
one_part table ms (unknown n) (stops u j) h g = absurd (g.1.0 n h.1.unknown)
one_part table ms (unknown n) (right w) h g = absurd (g.1.0 n h.1.unknown)
one_part table ms (stops t i) (missing j) h g = absurd (no_first (Lacks ms) table j g h.0)
one_part table ms (stops t i) (unknown m) h g = absurd (h.1.0 m g.1.unknown)
one_part table ms (stops t i) (stops u j) h g = ap Err (one_stop ms table t u i j h.1.1 g.1.1)
one_part table ms (stops t i) (right w) h g = absurd (no_stop ms table t i w h.1.1 g.1.1)
one_part table ms (right v) (missing j) h g = absurd (no_first (Lacks ms) table j g h.0)
one_part table ms (right v) (unknown m) h g = absurd (h.1.0 m g.1.unknown)
one_part table ms (right v) (stops u j) h g = absurd (no_stop ms table u j v g.1.1 h.1.1)
one_part table ms (right v) (right w) h g = ap Ok (one_contents ms table v w h.1.1 g.1.1)

-- one object says one thing
pub one_said : (table : List MemEntry) (ms : Members) (r s : Result (List (List ℕ)) DataFault) → Says table ms r → Says table ms s → r ≡ s
one_said table ms r s h g =
    let p = part_of table ms r h in
    let q = part_of table ms s g in
    sym p.1.0 ∙ (one_part table ms p.0 q.0 p.1.1 q.1.1 ∙ q.1.0)

-- an object was read, or none
data Read (table : List MemEntry) (bytes : List ℕ) (r : Result (List (List ℕ)) DataFault) : Type 0 where
  said : AreSaid table bytes r → Read table bytes r
  not_json : r ≡ Err NotJson → ((ms : Members) → ReadsAs bytes (object ms) → ⊥) → Read table bytes r

read_by : (table : List MemEntry) (bytes : List ℕ) (r : Result (List (List ℕ)) DataFault) → Means table bytes r → Read table bytes r
read_by table bytes (Ok m) h = said h
read_by table bytes (Err NotJson) h = not_json refl h
read_by table bytes (Err (Missing i)) h = said h
read_by table bytes (Err (Unknown n)) h = said h
read_by table bytes (Err (Format i)) h = said h
read_by table bytes (Err (Size i)) h = said h
read_by table bytes (Err (Value i p)) h = said h
read_by table bytes (Err NoMemory) h = absurd h

one_object : (bytes : List ℕ) (ms ns : Members) → ReadsAs bytes (object ms) → ReadsAs bytes (object ns) → ms ≡ ns
one_object bytes ms ns h g =
    let objects : object ms ≡ object ns = same_Some _ _ (sym h.value ∙ g.value) in
    same_Some _ _ (ap as_object objects)

one_read : (table : List MemEntry) (bytes : List ℕ) (r s : Result (List (List ℕ)) DataFault) → Read table bytes r → Read table bytes s → r ≡ s
one_read table bytes r s (said h) (said g) =
    one_said table g.members r s (subst (λ ms. Says table ms r) (one_object bytes h.members g.members h.read g.read) h.says) g.says
one_read table bytes r s (said h) (not_json e g) = absurd (g h.members h.read)
one_read table bytes r s (not_json e h) (said g) = absurd (h g.members g.read)
one_read table bytes r s (not_json e h) (not_json f g) = e ∙ sym f

-- bytes mean one thing
pub one_meaning : (table : List MemEntry) (bytes : List ℕ) (r s : Result (List (List ℕ)) DataFault) → Means table bytes r → Means table bytes s → r ≡ s
one_meaning table bytes r s h g = one_read table bytes r s (read_by table bytes r h) (read_by table bytes s g)

-- and so is told of any answer
pub told_one : (table : List MemEntry) (bytes : List ℕ) (r : Result (List (List ℕ)) DataFault) → IfTold r (Means table bytes r) → (s : Result (List (List ℕ)) DataFault) → Means table bytes s → IfTold r (s ≡ r)
told_one table bytes (Ok m) h s g = one_meaning table bytes s (Ok m) g h
told_one table bytes (Err NotJson) h s g = one_meaning table bytes s (Err NotJson) g h
told_one table bytes (Err (Missing i)) h s g = one_meaning table bytes s (Err (Missing i)) g h
told_one table bytes (Err (Unknown n)) h s g = one_meaning table bytes s (Err (Unknown n)) g h
told_one table bytes (Err (Format i)) h s g = one_meaning table bytes s (Err (Format i)) g h
told_one table bytes (Err (Size i)) h s g = one_meaning table bytes s (Err (Size i)) g h
told_one table bytes (Err (Value i p)) h s g = one_meaning table bytes s (Err (Value i p)) g h
told_one table bytes (Err NoMemory) h s g = tt

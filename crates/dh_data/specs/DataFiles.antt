-- What a data file says of the memories of a table: their contents, or its first fault (this
-- project's format of data).
use Rattle.std.specs.Prelude.{◌≡◌, ℕ, zero, suc, ℤ, List, [], ◌∷◌, ◌++◌, true, false, if◌then◌else◌, codes, Contains, Option, Some, None, option_and_then, unwrap_or, Result, Ok, Err, IsUtf8}
use Rattle.std.specs.List.{AllByRecursion}
use Rattle.std.specs.Cmp.Lexicographic.{slice_cmp}
use Rattle.std.specs.Ordering.{nat_cmp}
use Rattle.std.proofs.Common.{Less}
use Rattle.std.proofs.Math.ListN.{replicate}
use Rattle.serde_json.specs.Data.{Data, number, unsigned, boolean, string, array, object, Items, no_items, item, Members, no_members, member}
use Rattle.serde_json.specs.Events.{items_len}
use Rattle.serde_json.specs.Find.{get_member, as_array, as_number, as_integer}
use Rattle.serde_json.specs.Read as json
use Rattle.dh_value.specs.Words.{width_of, IsValue, word_of}
use Rattle.dh_value.specs.declared.kinds.Kind.{Kind}
use Rattle.dh_tree.specs.Tables.{elements_of}
use Rattle.dh_tree.specs.declared.tables.Dim.{Dim}
use Rattle.dh_tree.specs.declared.tables.MemEntry.{MemEntry}
use Rattle.dh_data.specs.Reports.{is_signed}
use Rattle.dh_data.specs.declared.data_files.DataFault.{DataFault}
use Rattle.dh_data.specs.declared.data_files.DataFault.TheVariants.{NotJson, Missing, Unknown, Format, Size, Value, NoMemory}

-- the bytes are the text of this value, as `serde_json` reads them
pub record ReadsAs (bytes : List ℕ) (d : Data) : Type 0 where
  pub text : IsUtf8 bytes
  pub value : json.read bytes ≡ Some d

-- ---- names

-- the names of members
abbrev pub names_of : Members → List (List ℕ)
names_of no_members = []
names_of (member k d ms) = k ∷ names_of ms

-- the names of the outside memories of a table
abbrev pub outside_names : List MemEntry → List (List ℕ)
outside_names [] = []
outside_names (e ∷ es) = if e.outside then e.name ∷ outside_names es else outside_names es

-- an outside memory that no member is for
pub record Lacks (ms : Members) (e : MemEntry) : Type 0 where
  pub outside : e.outside ≡ true
  pub none : get_member e.name ms ≡ None

-- a member's name that no outside memory has
pub record IsUnknown (table : List MemEntry) (ms : Members) (name : List ℕ) : Type 0 where
  pub there : Contains (names_of ms) name
  pub other : Contains (outside_names table) name → ⊥

-- the least of them in byte order
pub record IsLeastUnknown (table : List MemEntry) (ms : Members) (name : List ℕ) : Type 0 where
  pub unknown : IsUnknown table ms name
  pub least : (other : List ℕ) → IsUnknown table ms other → slice_cmp nat_cmp other name ≡ Less → ⊥

-- each outside memory has a member
abbrev pub HasAll : List MemEntry → Members → Type 0
HasAll table ms = AllByRecursion (λ e. Lacks ms e → ⊥) table

-- each member is for an outside memory
abbrev pub HasNoOther : List MemEntry → Members → Type 0
HasNoOther table ms = (name : List ℕ) → IsUnknown table ms name → ⊥

-- ---- the format of a memory

-- no such member is there, or it has this value
abbrev pub IsThisIfThere : Option Data → Data → Type 0
IsThisIfThere None d = Unit {0}
IsThisIfThere (Some found) d = found ≡ d

-- what stands as `format` is the format of a kind, as far as it says anything
pub record IsFormat (k : Kind) (format : Data) : Type 0 where
  pub members : Members
  pub whole : format ≡ object members
  pub sign : IsThisIfThere (get_member (codes "is_signed") members) (boolean (is_signed k))
  pub numeric : IsThisIfThere (get_member (codes "numeric_type") members) (string (codes "bitnum"))
  pub width : IsThisIfThere (get_member (codes "width") members) (number (unsigned (width_of k)))

abbrev pub FormatAgrees : Kind → Option Data → Type 0
FormatAgrees k None = Unit {0}
FormatAgrees k (Some format) = IsFormat k format

-- what was found under a memory's name is an object with this `data`, and its `format` agrees
pub record Offers (k : Kind) (found : Option Data) (d : Data) : Type 0 where
  pub members : Members
  pub whole : found ≡ Some (object members)
  pub data_is : get_member (codes "data") members ≡ Some d
  pub format : FormatAgrees k (get_member (codes "format") members)

-- ---- nested lists

abbrev pub EachItem : (Data → Type 0) → Items → Type 0
EachItem P no_items = Unit {0}
EachItem P (item d ds) = P d × EachItem P ds

-- lists nested by dimensions, each as long as declared; where an element is to stand, no list
abbrev pub HasDeclaredSizes : List Dim → Data → Type 0
HasDeclaredSizes [] d = (items : Items) → d ≡ array items → ⊥
HasDeclaredSizes (n ∷ ns) d = (items : Items) × ((d ≡ array items) × ((items_len items ≡ n.size) × EachItem (HasDeclaredSizes ns) items))

-- what f gives of each item, joined
abbrev pub joined_items : (Data → List Data) → Items → List Data
joined_items f no_items = []
joined_items f (item d ds) = f d ++ joined_items f ds

abbrev pub items_in : Data → Items
items_in d = unwrap_or (as_array d) no_items

-- the elements of nested lists in row-major order
abbrev pub in_order : List Dim → Data → List Data
in_order [] d = d ∷ []
in_order (n ∷ ns) d = joined_items (in_order ns) (items_in d)

-- ---- elements

-- the value is a whole number, as `serde_json` gives a u64 or an i64
abbrev pub IsWhole : Data → ℤ → Type 0
IsWhole d z = option_and_then as_integer (as_number d) ≡ Some z

-- the value is a whole number of a kind, which has these bits
pub record IsDataElement (k : Kind) (d : Data) (bits : ℕ) : Type 0 where
  pub z : ℤ
  pub whole : IsWhole d z
  pub of_kind : IsValue k z
  pub bits_are : bits ≡ (word_of k z).bits

-- the value is no whole number of a kind
abbrev pub IsNoElement : Kind → Data → Type 0
IsNoElement k d = (bits : ℕ) → IsDataElement k d bits → ⊥

-- the values are whole numbers of a kind, which have these bits
abbrev pub AreElements : Kind → List Data → List ℕ → Type 0
AreElements k [] [] = Unit {0}
AreElements k [] (v ∷ vs) = ⊥
AreElements k (d ∷ ds) [] = ⊥
AreElements k (d ∷ ds) (v ∷ vs) = IsDataElement k d v × AreElements k ds vs

-- ---- the contents of memories

-- the member of an outside memory has these elements
pub record MemberHasElements (ms : Members) (e : MemEntry) (values : List ℕ) : Type 0 where
  pub data_ : Data
  pub offers : Offers e.shape.kind (get_member e.name ms) data_
  pub sized : HasDeclaredSizes e.shape.dims data_
  pub elements : AreElements e.shape.kind (in_order e.shape.dims data_) values

-- a memory has these contents: an outside one those of its member, a local one zeros
pub record IsContents (ms : Members) (e : MemEntry) (values : List ℕ) : Type 0 where
  pub outside : e.outside ≡ true → MemberHasElements ms e values
  pub local : e.outside ≡ false → values ≡ replicate (elements_of e.shape.dims) 0

abbrev pub AreContents : Members → List MemEntry → List (List ℕ) → Type 0
AreContents ms [] [] = Unit {0}
AreContents ms [] (m ∷ more) = ⊥
AreContents ms (e ∷ es) [] = ⊥
AreContents ms (e ∷ es) (m ∷ more) = IsContents ms e m × AreContents ms es more

-- ---- faults

-- the place of the first of which something holds
abbrev pub IsFirstIndex : {A : Type 0} → (A → Type 0) → List A → ℕ → Type 0
IsFirstIndex P [] i = ⊥
IsFirstIndex P (x ∷ xs) zero = P x
IsFirstIndex P (x ∷ xs) (suc i) = (P x → ⊥) × IsFirstIndex P xs i

-- the member of an outside memory is no object with `data` and a `format` that agrees
pub record IsOtherFormat (ms : Members) (e : MemEntry) : Type 0 where
  pub outside : e.outside ≡ true
  pub none : (d : Data) → Offers e.shape.kind (get_member e.name ms) d → ⊥

-- it is one, and its lists are not those declared
pub record IsOtherSize (ms : Members) (e : MemEntry) : Type 0 where
  pub outside : e.outside ≡ true
  pub data_ : Data
  pub offers : Offers e.shape.kind (get_member e.name ms) data_
  pub other : HasDeclaredSizes e.shape.dims data_ → ⊥

-- they are, and the element at this position is the first that is no whole number of the kind
pub record IsOtherValue (ms : Members) (position : ℕ) (e : MemEntry) : Type 0 where
  pub outside : e.outside ≡ true
  pub data_ : Data
  pub offers : Offers e.shape.kind (get_member e.name ms) data_
  pub sized : HasDeclaredSizes e.shape.dims data_
  pub first : IsFirstIndex (IsNoElement e.shape.kind) (in_order e.shape.dims data_) position

-- of the memory with this number something holds, and each before it has contents
abbrev pub StopsAt : (MemEntry → Type 0) → Members → List MemEntry → ℕ → Type 0
StopsAt P ms [] i = ⊥
StopsAt P ms (e ∷ es) zero = P e
StopsAt P ms (e ∷ es) (suc i) = ((values : List ℕ) × IsContents ms e values) × StopsAt P ms es i

-- ---- what a file says

-- an object of these members says this of the memories of a table
abbrev pub Says : List MemEntry → Members → Result (List (List ℕ)) DataFault → Type 0
Says table ms (Ok memories) = HasAll table ms × (HasNoOther table ms × AreContents ms table memories)
Says table ms (Err NotJson) = ⊥
Says table ms (Err (Missing i)) = IsFirstIndex (Lacks ms) table i
Says table ms (Err (Unknown name)) = HasAll table ms × IsLeastUnknown table ms name
Says table ms (Err (Format i)) = HasAll table ms × (HasNoOther table ms × StopsAt (IsOtherFormat ms) ms table i)
Says table ms (Err (Size i)) = HasAll table ms × (HasNoOther table ms × StopsAt (IsOtherSize ms) ms table i)
Says table ms (Err (Value i position)) = HasAll table ms × (HasNoOther table ms × StopsAt (IsOtherValue ms position) ms table i)
Says table ms (Err NoMemory) = ⊥

-- the bytes are the text of an object that says this
pub record AreSaid (table : List MemEntry) (bytes : List ℕ) (answer : Result (List (List ℕ)) DataFault) : Type 0 where
  pub members : Members
  pub read : ReadsAs bytes (object members)
  pub says : Says table members answer

-- what bytes mean for the memories of a table: their contents, or the first fault
abbrev pub Means : List MemEntry → List ℕ → Result (List (List ℕ)) DataFault → Type 0
Means table bytes (Ok memories) = AreSaid table bytes (Ok memories)
Means table bytes (Err NotJson) = (members : Members) → ReadsAs bytes (object members) → ⊥
Means table bytes (Err (Missing i)) = AreSaid table bytes (Err (Missing i))
Means table bytes (Err (Unknown name)) = AreSaid table bytes (Err (Unknown name))
Means table bytes (Err (Format i)) = AreSaid table bytes (Err (Format i))
Means table bytes (Err (Size i)) = AreSaid table bytes (Err (Size i))
Means table bytes (Err (Value i position)) = AreSaid table bytes (Err (Value i position))
Means table bytes (Err NoMemory) = ⊥

-- the bytes hold these contents
abbrev pub HoldsContents : List MemEntry → List ℕ → List (List ℕ) → Type 0
HoldsContents table bytes memories = Means table bytes (Ok memories)

-- this holds, but where memory was refused
abbrev pub IfTold : {A : Type 0} → Result A DataFault → Type 0 → Type 0
IfTold (Ok a) P = P
IfTold (Err NotJson) P = P
IfTold (Err (Missing i)) P = P
IfTold (Err (Unknown name)) P = P
IfTold (Err (Format i)) P = P
IfTold (Err (Size i)) P = P
IfTold (Err (Value i position)) P = P
IfTold (Err NoMemory) P = Unit {0}

-- what `read` answers: what the bytes mean, but where memory was refused
abbrev pub ReadsDataFile : List MemEntry → List ℕ → Result (List (List ℕ)) DataFault → Type 0
ReadsDataFile table bytes answer = IfTold answer (Means table bytes answer)

-- the bytes mean what was answered, and nothing else, but where memory was refused
abbrev pub IsOnlyMeaning : List MemEntry → List ℕ → Result (List (List ℕ)) DataFault → Type 0
IsOnlyMeaning table bytes answer = (other : Result (List (List ℕ)) DataFault) → Means table bytes other → IfTold answer (other ≡ answer)

-- bytes mean at most one thing for a table
abbrev pub HasOneMeaning : List MemEntry → List ℕ → Type 0
HasOneMeaning table bytes = (one other : Result (List (List ℕ)) DataFault) → Means table bytes one → Means table bytes other → one ≡ other

-- What the parts of `read` and `report` promise one another; for private clauses.
use Rattle.std.specs.Prelude.{◌≡◌, ◌≤◌, ◌++◌, ℕ, List, [], ◌∷◌, map, if◌then◌else◌, codes, length, Bool, true, false, Option, Some, None, option_map, Result, Ok, Err, Vec}
use Rattle.std.specs.List.{AllByRecursion}
use Rattle.std.specs.Cmp.Lexicographic.{slice_cmp}
use Rattle.std.specs.Ordering.{nat_cmp}
use Rattle.std.specs.Str.{bytes_eq}
use Rattle.std.specs.Set.{is_member}
use Rattle.std.specs.BTreeSet.{BTreeSet, contains_by}
use Rattle.std.specs.declared.alloc.Global.{Global}
use denote.Ref.{Bor}
use Rattle.serde_json.specs.Data.{Data, number, unsigned, object, Members}
use Rattle.serde_json.specs.Find.{get_member}
use Rattle.serde_json.specs.View.{view}
use Rattle.serde_json.specs.declared.value.Value.{Value as JsonValue}
use Rattle.dh_value.specs.declared.kinds.Kind.{Kind}
use Rattle.dh_value.specs.Words.{IsInteger, width_of}
use Rattle.dh_tree.specs.Tables.{elements_of, most_elements}
use Rattle.dh_tree.specs.declared.tables.Dim.{Dim}
use Rattle.dh_tree.specs.declared.tables.MemEntry.{MemEntry}
use Rattle.dh_data.specs.DataFiles.{outside_names, Lacks, HasAll, HasNoOther, IsLeastUnknown, Offers, HasDeclaredSizes, in_order, IsDataElement, IsNoElement, AreElements, IsContents, AreContents, IsFirstIndex, IsOtherFormat, IsOtherSize, IsOtherValue, StopsAt, Says}
use Rattle.dh_data.specs.declared.data_files.DataFault.{DataFault}
use Rattle.dh_data.specs.declared.data_files.DataFault.TheVariants.{NotJson, Missing, Unknown, Format, Size, Value, NoMemory}

abbrev pub bitnum : List ℕ
bitnum = codes "bitnum"

-- the elements of a memory have a kind of numbers, and are not too many to count
pub record HasCountableNumbers (e : MemEntry) : Type 0 where
  pub integer : IsInteger e.shape.kind
  pub least : 1 ≤ elements_of e.shape.dims
  pub few : elements_of e.shape.dims ≤ most_elements

-- a value is an object of members that say this
abbrev pub IsSaid : List MemEntry → Data → Result (List (List ℕ)) DataFault → Type 0
IsSaid table d answer = (ms : Members) × ((d ≡ object ms) × Says table ms answer)

-- a value is an object that has a member for each outside memory
abbrev pub HasAllMembers : List MemEntry → Data → Type 0
HasAllMembers table d = (ms : Members) × ((d ≡ object ms) × HasAll table ms)

-- what a value means for a table; memory is refused only where it is an object that lacks no member
abbrev pub ValueMeans : List MemEntry → Data → Result (List (List ℕ)) DataFault → Type 0
ValueMeans table d (Ok memories) = IsSaid table d (Ok memories)
ValueMeans table d (Err NotJson) = (ms : Members) → d ≡ object ms → ⊥
ValueMeans table d (Err (Missing i)) = IsSaid table d (Err (Missing i))
ValueMeans table d (Err (Unknown name)) = IsSaid table d (Err (Unknown name))
ValueMeans table d (Err (Format i)) = IsSaid table d (Err (Format i))
ValueMeans table d (Err (Size i)) = IsSaid table d (Err (Size i))
ValueMeans table d (Err (Value i position)) = IsSaid table d (Err (Value i position))
ValueMeans table d (Err NoMemory) = HasAllMembers table d

-- the first memory without a member, or that there is none
abbrev pub FindsMissing : List MemEntry → Members → Option ℕ → Type 0
FindsMissing table ms (Some i) = IsFirstIndex (Lacks ms) table i
FindsMissing table ms None = AllByRecursion (λ e. Lacks ms e → ⊥) table

-- the least unknown name, or that there is none
abbrev pub FindsUnknown : List MemEntry → Members → Option (List ℕ) → Type 0
FindsUnknown table ms (Some name) = IsLeastUnknown table ms name
FindsUnknown table ms None = HasNoOther table ms

-- a set has the names of the outside memories
abbrev pub KnowsNames : List MemEntry → BTreeSet (Bor (List ℕ)) → Type 0
KnowsNames table known = (q : List ℕ) → contains_by (λ k. slice_cmp nat_cmp q k.now) known ≡ is_member bytes_eq (outside_names table) q

-- the contents of all memories, or where they stop
abbrev pub SaysLists : List MemEntry → Members → Result (Vec (Vec ℕ Global) Global) DataFault → Type 0
SaysLists table ms (Ok v) = AreContents ms table (map (λ l. l.items) v.items)
SaysLists table ms (Err NotJson) = ⊥
SaysLists table ms (Err (Missing i)) = ⊥
SaysLists table ms (Err (Unknown name)) = ⊥
SaysLists table ms (Err (Format i)) = StopsAt (IsOtherFormat ms) ms table i
SaysLists table ms (Err (Size i)) = StopsAt (IsOtherSize ms) ms table i
SaysLists table ms (Err (Value i position)) = StopsAt (IsOtherValue ms position) ms table i
SaysLists table ms (Err NoMemory) = Unit {0}

-- nothing keeps the contents of a memory from being read but an element, or want of memory
abbrev pub MayBeRead : Members → MemEntry → Type 0
MayBeRead ms e = e.outside ≡ true → (d : Data) × (Offers e.shape.kind (get_member e.name ms) d × HasDeclaredSizes e.shape.dims d)

-- the contents of the memory with this number, or its fault; memory is refused only where its member has a
-- format that agrees, and lists of the sizes declared
abbrev pub SaysContents : Members → ℕ → MemEntry → Result (Vec ℕ Global) DataFault → Type 0
SaysContents ms memory e (Ok v) = IsContents ms e v.items
SaysContents ms memory e (Err NotJson) = ⊥
SaysContents ms memory e (Err (Missing i)) = ⊥
SaysContents ms memory e (Err (Unknown name)) = ⊥
SaysContents ms memory e (Err (Format i)) = (i ≡ memory) × IsOtherFormat ms e
SaysContents ms memory e (Err (Size i)) = (i ≡ memory) × IsOtherSize ms e
SaysContents ms memory e (Err (Value i position)) = (i ≡ memory) × IsOtherValue ms position e
SaysContents ms memory e (Err NoMemory) = MayBeRead ms e

-- the data that what was found offers, or that it offers none
abbrev pub FindsData : Kind → Option Data → Option Data → Type 0
FindsData k found (Some d) = Offers k found d
FindsData k found None = (d : Data) → Offers k found d → ⊥

-- the bits of a whole number of a kind, or that it is none
abbrev pub FindsElement : Kind → Data → Option ℕ → Type 0
FindsElement k d (Some bits) = IsDataElement k d bits
FindsElement k d None = IsNoElement k d

-- the bits of these elements were added, all of them or those before the first that is none
abbrev pub PushesBits : Kind → List Data → List ℕ → Bool → Type 0
PushesBits k ds bits true = AreElements k ds bits
PushesBits k ds bits false = IsFirstIndex (IsNoElement k) ds (length bits)

pub record PushesElements (k : Kind) (ds : List Data) (old new : List ℕ) (all : Bool) : Type 0 where
  pub bits : List ℕ
  pub added : new ≡ old ++ bits
  pub are : PushesBits k ds bits all

-- the elements of nested lists were added so
abbrev pub PushesAll : Kind → List Dim → Data → (old new : List ℕ) → Bool → Type 0
PushesAll k dims d old new all = PushesElements k (in_order dims d) old new all

-- the elements of nested lists were added so behind the values of a memory
abbrev pub PushesBehind : Kind → List Dim → Data → (old new : Vec ℕ Global) → Bool → Type 0
PushesBehind k dims d old new all = PushesAll k dims d old.items new.items all

-- so it is where memory was refused
abbrev pub IfRefused : {A : Type 0} → Result A DataFault → Type 0 → Type 0
IfRefused result fact = result ≡ Err NoMemory → fact

-- the width of a kind, as a number of a data file
abbrev pub width_number : Kind → Data
width_number k = number (unsigned (width_of k))

-- the first of these names that is not one of the others
abbrev pub first_other : (others names : List (List ℕ)) → Option (List ℕ)
first_other others [] = None
first_other others (n ∷ ns) = if is_member bytes_eq others n then first_other others ns else Some n

-- the data of a value, where one was found
abbrev pub found_data : Option (Bor JsonValue) → Option Data
found_data found = option_map (λ v. view v.now) found

-- Numbers of structures: what the number of an expression says of it. Two expressions that have one number are
-- alike, and of two that are alike the numbers are one, since no structure has two numbers.
use Rattle.std.specs.Prelude.{◌≡◌, ℕ, ◌⊎◌, List, max, Option, Some, None, slice_get}
use Rattle.dh_value.specs.declared.kinds.Kind.{Kind}
use Rattle.dh_value.specs.declared.kinds.Kind.TheVariants as kind
use Rattle.dh_tree.specs.PlainTrees.{Term, term, TermForm, number, truth_value, named, accessed, in_bank, applied, converted, Terms, no_terms, term_then}
use Rattle.dh_meets.specs.Sharing.{number_of_op}
use Rattle.dh_meets.specs.SourceEvents.{Element, with_indices, in_row}
use Rattle.dh_events.specs.declared.structures.Structure.{Structure}
use Rattle.dh_events.specs.declared.structures.MaybeKind.{MaybeKind}
use Rattle.dh_events.specs.declared.structures.MaybeKind.TheVariants as sort
use Rattle.dh_events.specs.declared.structures.Form.{Form}
use Rattle.dh_events.specs.declared.structures.Form.TheVariants as form

abbrev pub kind_sort : Kind → MaybeKind
kind_sort kind.Bool = sort.Truth
kind_sort (kind.Unsigned width) = sort.Unsigned width
kind_sort (kind.Signed width) = sort.Signed width

abbrev pub sort_found : Option Kind → MaybeKind
sort_found None = sort.Unknown
sort_found (Some k) = kind_sort k

abbrev pub structure : MaybeKind → Form → Structure
structure s f = record { sort = s; form = f }

-- a structure has this number
abbrev pub StructureStands : List Structure → (number : ℕ) → MaybeKind → Form → Type 0
StructureStands known n s f = slice_get known n ≡ Some (structure s f)

-- behind all indices: the number of the last one, or that of none
abbrev pub IsLast : List Structure → (before : Option ℕ) → (number : ℕ) → Type 0
IsLast known None n = StructureStands known n sort.Unknown form.NoIndex
IsLast known (Some b) n = b ≡ n

abbrev mutual
  -- a number is that of the structure of an expression
  pub Describes : List Structure → (number : ℕ) → Term → Type 0
  Describes known n (term place k f) = DescribesForm known n (sort_found k) f

  pub DescribesForm : List Structure → (number : ℕ) → MaybeKind → TermForm → Type 0
  DescribesForm known n s (number negative value) = StructureStands known n s (form.Number negative value)
  DescribesForm known n s (truth_value value) = StructureStands known n s (form.Truth value)
  DescribesForm known n s (named r) = (e : ℕ) × ((r.entity ≡ Some e) × StructureStands known n s (form.Variable e))
  DescribesForm known n s (accessed r indices) =
      (e : ℕ) × ((m : ℕ) × ((r.entity ≡ Some e) × (DescribesFrom known None indices m × StructureStands known n s (form.Read e m))))
  DescribesForm known n s (in_bank r bank bank_place row) =
      (e : ℕ) × ((m : ℕ) × ((l : ℕ) × ((r.entity ≡ Some e) × (Describes known l row × (StructureStands known m sort.Unknown (form.Row bank l) × StructureStands known n s (form.Read e m))))))
  DescribesForm known n s (applied op left right) =
      (l : ℕ) × ((r : ℕ) × (Describes known l left × (Describes known r right × StructureStands known n s (form.Operation (number_of_op op) l r))))
  DescribesForm known n s (converted inner to) = (m : ℕ) × (Describes known m inner × StructureStands known n s (form.Cast (kind_sort to) m))

  -- of indices behind those of a number, if there are any before them
  pub DescribesFrom : List Structure → (before : Option ℕ) → Terms → (number : ℕ) → Type 0
  DescribesFrom known b no_terms n = IsLast known b n
  DescribesFrom known b (term_then t ts) n =
      (l : ℕ) × ((m : ℕ) × (Describes known l t × (StructureStands known m sort.Unknown (form.Index b l) × DescribesFrom known (Some m) ts n)))

-- of all indices of an access
abbrev pub DescribesAll : List Structure → (number : ℕ) → Terms → Type 0
DescribesAll known n ts = DescribesFrom known None ts n

-- a number is that of the structure of an element's indices
abbrev pub DescribesElement : List Structure → (number : ℕ) → Element → Type 0
DescribesElement known n (with_indices indices) = DescribesAll known n indices
DescribesElement known n (in_row bank row) = (l : ℕ) × (Describes known l row × StructureStands known n sort.Unknown (form.Row bank l))

-- structures are only added
abbrev pub ExtendsStructures : (old new : List Structure) → Type 0
ExtendsStructures old new = (n : ℕ) (s : Structure) → slice_get old n ≡ Some s → slice_get new n ≡ Some s

-- no structure has two numbers
abbrev pub StructuresAreDistinct : List Structure → Type 0
StructuresAreDistinct known = (m n : ℕ) (s : Structure) → slice_get known m ≡ Some s → slice_get known n ≡ Some s → m ≡ n

-- the number of a structure is found or made
pub record Numbers (old new : List Structure) (s : Structure) (n : ℕ) : Type 0 where
  pub extends : ExtendsStructures old new
  pub stands : slice_get new n ≡ Some s

abbrev pub entity_newest : (clocks : ℕ → ℕ) → Option ℕ → ℕ
entity_newest clocks None = 0
entity_newest clocks (Some e) = clocks e

abbrev mutual
  -- the moment behind the last assignment to a variable in an expression, 0 before any
  pub newest_in : (clocks : ℕ → ℕ) → Term → ℕ
  newest_in clocks (term place k f) = form_newest clocks f

  pub form_newest : (clocks : ℕ → ℕ) → TermForm → ℕ
  form_newest clocks (number negative value) = 0
  form_newest clocks (truth_value value) = 0
  form_newest clocks (named r) = entity_newest clocks r.entity
  form_newest clocks (accessed r indices) = newest_behind clocks 0 indices
  form_newest clocks (in_bank r bank bank_place row) = newest_in clocks row
  form_newest clocks (applied op left right) = max (newest_in clocks left) (newest_in clocks right)
  form_newest clocks (converted inner to) = newest_in clocks inner

  -- the same of expressions, behind that of those before them
  pub newest_behind : (clocks : ℕ → ℕ) → (before : ℕ) → Terms → ℕ
  newest_behind clocks before no_terms = before
  newest_behind clocks before (term_then t ts) = newest_behind clocks (max before (newest_in clocks t)) ts

abbrev pub element_newest : (clocks : ℕ → ℕ) → Element → ℕ
element_newest clocks (with_indices indices) = newest_behind clocks 0 indices
element_newest clocks (in_row bank row) = newest_in clocks row

abbrev mutual
  -- a name in it stands for nothing
  pub IsNameless : Term → Type 0
  IsNameless (term place k f) = FormNameless f

  pub FormNameless : TermForm → Type 0
  FormNameless (number negative value) = ⊥
  FormNameless (truth_value value) = ⊥
  FormNameless (named r) = r.entity ≡ None
  FormNameless (accessed r indices) = (r.entity ≡ None) ⊎ AnyNameless indices
  FormNameless (in_bank r bank bank_place row) = (r.entity ≡ None) ⊎ IsNameless row
  FormNameless (applied op left right) = IsNameless left ⊎ IsNameless right
  FormNameless (converted inner to) = IsNameless inner

  pub AnyNameless : Terms → Type 0
  AnyNameless no_terms = ⊥
  AnyNameless (term_then t ts) = IsNameless t ⊎ AnyNameless ts

-- What is to be known of an index for its value in a run to be told: the kinds of it and of its parts, and that
-- the iterators that it names are in turns of their loops. And what the value then is.
use Rattle.std.specs.Prelude.{◌≡◌, ℕ, ◌+◌, ◌*◌, ◌<◌, ◌≤◌, nat_lt, Bool, true, false, if◌then◌else◌, List, [], take, slice_index_or, Option, Some, ℤ, pos, ◌+ℤ◌, int_le}
use Rattle.std.specs.List.{AllByRecursion}
use Rattle.dh_value.specs.declared.kinds.Kind.{Kind}
use Rattle.dh_value.specs.declared.operators.Op.{Op}
use Rattle.dh_value.specs.declared.operators.Op.TheVariants as op
use Rattle.dh_value.specs.Words.{IsInteger}
use Rattle.dh_tree.specs.declared.breaches.Breach.{Breach}
use Rattle.dh_tree.specs.declared.tables.Dim.{Dim}
use Rattle.dh_tree.specs.declared.trees.counters.Counter.{Counter}
use Rattle.dh_tree.specs.declared.trees.expressions.Ref.{Ref}
use Rattle.dh_tree.specs.Breaches.{KeepsNames}
use Rattle.dh_tree.specs.Counters.{turn_count, counters_of, counter_in}
use Rattle.dh_tree.specs.Elements.{Spot}
use Rattle.dh_tree.specs.Indices.{IndexKind, constant, iterator, dynamic, all_fit, form_of, indices_breaches, row_breaches}
use Rattle.dh_tree.specs.KindBreaches.{KeepsKinds}
use Rattle.dh_tree.specs.Kinds.{found, is_value, signed_number, HasKinds}
use Rattle.dh_tree.specs.WiderKinds.{wider}
use Rattle.dh_tree.specs.Memories.{Memory, memories_of, memory_in, number_in, table_of}
use Rattle.dh_tree.specs.PlainTrees.{Term, TermForm, number, truth_value, named, accessed, in_bank, applied, converted, Terms, no_terms, term_then, Program}
use Rattle.dh_tree.specs.Resolved.{HasEntities}
use Rattle.dh_tree.specs.Shapes.{IsDim}
use Rattle.dh_tree.specs.Widths.{HasWidths}
use Rattle.dh_meaning.specs.Core.{Reach, Target, by_row}
use Rattle.dh_meaning.specs.CoreOf.{Known, known_of, entity_number, depth_of, dims_by, core_term, core_terms, target_to}
use Rattle.dh_meaning.specs.Effects.{Begun, Variables, spot_reached}
use Rattle.dh_meaning.specs.Paths.{Path}
use Rattle.dh_meaning.specs.Ways.{Way, base_of, way_at, way_to}
use Rattle.dh_meets.specs.Charges.{level_of_loop, reaches}
use Rattle.dh_meets.specs.SourceEvents.{Element, with_indices, in_row, SourceAccess}
use Rattle.dh_ways.specs.Leading.{LeadsTo}
use Rattle.dh_sound.specs.ToldEvents.{access_at}

-- Kinds.

-- a number is a value of a kind, and so is each value of an iterator
abbrev pub FitsKind : List Counter → Kind → TermForm → Type 0
FitsKind cs k (number negative n) = is_value k (signed_number negative n) ≡ true
FitsKind cs k (truth_value value) = Unit {0}
FitsKind cs k (named r) = (c : Counter) → counter_in cs r.entity ≡ Some c → all_fit (Some k) c (pos 0) ≡ true
FitsKind cs k (accessed r indices) = Unit {0}
FitsKind cs k (in_bank r bank bank_place row) = Unit {0}
FitsKind cs k (applied o left right) = Unit {0}
FitsKind cs k (converted inner to) = Unit {0}

-- an expression has an integer kind, and its values are of that kind where it is a number or an iterator
pub record HasIntegerKind (cs : List Counter) (t : Term) : Type 0 where
  pub kind : Kind
  pub is : found t ≡ Some kind
  pub integer : IsInteger kind
  pub fits : FitsKind cs kind (form_of t)

-- the operands of a sum of a kind: each has a kind, and that of the sum is the wider of both
pub record AreSumOperands (cs : List Counter) (k : Kind) (left right : Term) : Type 0 where
  pub first : HasIntegerKind cs left
  pub second : HasIntegerKind cs right
  pub wider_is : wider first.kind second.kind ≡ k

abbrev pub is_sum : Op → Bool
is_sum op.Add = true
is_sum op.Sub = true
is_sum op.Mul = false
is_sum op.And = false
is_sum op.Or = false
is_sum op.Xor = false
is_sum op.Shl = false
is_sum op.Shr = false
is_sum op.Lt = false
is_sum op.Gt = false
is_sum op.Le = false
is_sum op.Ge = false
is_sum op.Eq = false
is_sum op.Ne = false
is_sum op.Both = false
is_sum op.Either = false

-- of a sum the operands have their kinds
abbrev pub PartsFit : List Counter → Kind → TermForm → Type 0
PartsFit cs k (number negative n) = Unit {0}
PartsFit cs k (truth_value value) = Unit {0}
PartsFit cs k (named r) = Unit {0}
PartsFit cs k (accessed r indices) = Unit {0}
PartsFit cs k (in_bank r bank bank_place row) = Unit {0}
PartsFit cs k (applied o left right) = is_sum o ≡ true → AreSumOperands cs k left right
PartsFit cs k (converted inner to) = Unit {0}

-- the kinds of an index of a typed program that breaks no rule on kinds
pub record HasIndexKinds (cs : List Counter) (t : Term) : Type 0 where
  pub whole : HasIntegerKind cs t
  pub parts : PartsFit cs whole.kind (form_of t)

abbrev pub AllHaveIndexKinds : List Counter → Terms → Type 0
AllHaveIndexKinds cs no_terms = Unit {0}
AllHaveIndexKinds cs (term_then t rest) = HasIndexKinds cs t × AllHaveIndexKinds cs rest

-- what is to be known of a program for every index in it to have its kinds: its names and kinds are filled in, no
-- rule on them is broken, and the kinds that it writes have 1 to 64 bits
pub record IsTypedProgram (p : Program) : Type 0 where
  pub names : KeepsNames p
  pub entities : HasEntities p
  pub kinds : HasKinds p
  pub suits : KeepsKinds p
  pub widths : HasWidths p

-- Turns.

-- the copy of a loop to which a path belongs, in these unrolled loops from the outside
abbrev pub copy_at : (loops : List Counter) → Path → Counter → ℕ
copy_at loops path c = if nat_lt 1 c.factor then slice_index_or path (level_of_loop loops c.entity) 0 else 0

-- a whole number is the value of an iterator at a path in some turn of its loop
pub record IsInTurn (loops : List Counter) (path : Path) (c : Counter) (z : ℤ) : Type 0 where
  pub turn : ℕ
  pub below : turn < turn_count c.low c.high c.factor
  pub copy : copy_at loops path c < c.factor
  pub is : z ≡ pos (c.low + turn * c.factor + copy_at loops path c)

-- the value of what a name stands for at a path inside its loops
abbrev pub name_value : Known → Variables → Path → Ref → ℤ
name_value known v path r = v (entity_number r.entity) (take (depth_of known r) path)

-- which loops are asked about: all, or the unrolled ones, on which alone the banks of accesses depend
abbrev pub AnyLoop : Counter → Type 0
AnyLoop c = Unit {0}

abbrev pub IsUnrolledLoop : Counter → Type 0
IsUnrolledLoop c = nat_lt 1 c.factor ≡ true

-- a name that stands for the iterator of such a loop has a value of a turn of it
abbrev pub NameInTurn : (Asked : Counter → Type 0) → Known → List Counter → (loops : List Counter) → Path → Variables → Ref → Type 0
NameInTurn Asked known cs loops path v r = (c : Counter) → counter_in cs r.entity ≡ Some c → Asked c → IsInTurn loops path c (name_value known v path r)

abbrev pub OperandInTurn : (Asked : Counter → Type 0) → Known → List Counter → (loops : List Counter) → Path → Variables → TermForm → Type 0
OperandInTurn Asked known cs loops path v (number negative n) = Unit {0}
OperandInTurn Asked known cs loops path v (truth_value value) = Unit {0}
OperandInTurn Asked known cs loops path v (named r) = NameInTurn Asked known cs loops path v r
OperandInTurn Asked known cs loops path v (accessed r indices) = Unit {0}
OperandInTurn Asked known cs loops path v (in_bank r bank bank_place row) = Unit {0}
OperandInTurn Asked known cs loops path v (applied o left right) = Unit {0}
OperandInTurn Asked known cs loops path v (converted inner to) = Unit {0}

-- an index that is an iterator, or a sum with one, finds it in a turn
abbrev pub FormInTurn : (Asked : Counter → Type 0) → Known → List Counter → (loops : List Counter) → Path → Variables → TermForm → Type 0
FormInTurn Asked known cs loops path v (number negative n) = Unit {0}
FormInTurn Asked known cs loops path v (truth_value value) = Unit {0}
FormInTurn Asked known cs loops path v (named r) = NameInTurn Asked known cs loops path v r
FormInTurn Asked known cs loops path v (accessed r indices) = Unit {0}
FormInTurn Asked known cs loops path v (in_bank r bank bank_place row) = Unit {0}
FormInTurn Asked known cs loops path v (applied o left right) =
    OperandInTurn Asked known cs loops path v (form_of left) × OperandInTurn Asked known cs loops path v (form_of right)
FormInTurn Asked known cs loops path v (converted inner to) = Unit {0}

abbrev pub AllInTurn : Known → List Counter → (loops : List Counter) → Path → Variables → Terms → Type 0
AllInTurn known cs loops path v no_terms = Unit {0}
AllInTurn known cs loops path v (term_then t rest) = FormInTurn IsUnrolledLoop known cs loops path v (form_of t) × AllInTurn known cs loops path v rest

-- Values.

-- a whole number is the value of an index of this kind at a path: a constant, or the value of an iterator in a
-- turn with a constant added, which is in its first turn at least 0; of other indices nothing is told
pub record IsShifted (loops : List Counter) (path : Path) (c : Counter) (offset z : ℤ) : Type 0 where
  pub value : ℤ
  pub in_turn : IsInTurn loops path c value
  pub is : z ≡ value +ℤ offset
  pub least : int_le (pos 0) (pos c.low +ℤ offset) ≡ true

abbrev pub IsIndexValue : (Asked : Counter → Type 0) → (loops : List Counter) → Path → IndexKind → ℤ → Type 0
IsIndexValue Asked loops path (constant w) z = z ≡ w
IsIndexValue Asked loops path (iterator c offset) z = Asked c → IsShifted loops path c offset z
IsIndexValue Asked loops path dynamic z = Unit {0}

-- Elements.

-- what an element of what an entity is, a memory or a view, is known by as the program is run
abbrev pub target_of : Known → (n : ℕ) → (entity : Option ℕ) → Element → Target
target_of known n entity (with_indices indices) = target_to (way_at known.memories known.ways entity) (core_terms known n indices)
target_of known n entity (in_row bank row) = by_row bank (core_term known n row)

-- an element that is named by indices, as each one through a view is
abbrev pub IsByIndices : Element → Type 0
IsByIndices (with_indices indices) = Unit {0}
IsByIndices (in_row bank row) = ⊥

-- the kinds of the indices of an element, or of its row, and the turns of unrolled loops in which it finds their iterators
abbrev pub HasElementKinds : List Counter → Element → Type 0
HasElementKinds cs (with_indices indices) = AllHaveIndexKinds cs indices
HasElementKinds cs (in_row bank row) = HasIndexKinds cs row

abbrev pub ElementInTurn : Known → List Counter → (loops : List Counter) → Path → Variables → Element → Type 0
ElementInTurn known cs loops path v (with_indices indices) = AllInTurn known cs loops path v indices
ElementInTurn known cs loops path v (in_row bank row) = Unit {0}

-- the rules that an index of an element, or its row, breaks in these dimensions
abbrev pub element_breaches : List Counter → List Dim → Element → List Breach
element_breaches cs dims (with_indices indices) = indices_breaches cs dims indices
element_breaches cs dims (in_row bank row) = row_breaches dims row

-- Accesses.

abbrev pub HasCopy : Counter → Type 0
HasCopy c = 1 ≤ c.factor

-- where an access stands in a run: the memory that it is of, and how its element is found there
pub record IsLegalAccess (p : Program) (b : Begun) (path : Path) (v : Variables) (a : SourceAccess) (n : ℕ) (r : Reach) : Type 0 where
  -- the memory of which it is an element, or to which the views lead through which it goes
  pub entity : ℕ
  pub is : base_of (way_to p a.entity) a.entity ≡ Some entity
  pub memory : Memory
  pub declared : memory_in (memories_of p) (Some entity) ≡ Some memory
  pub leads : (w : Way) → way_to p a.entity ≡ Some w → LeadsTo (memories_of p) w
  -- the step begins with the memories of the program
  pub table : b.table ≡ table_of p
  pub number : r.memory ≡ entity_number (number_in (memories_of p) (base_of (way_to p a.entity) a.entity))
  -- every loop has a copy
  pub factors : AllByRecursion HasCopy (counters_of p)
  -- the shape of what is named and the indices break no rule
  pub dims : AllByRecursion IsDim (dims_by memory.shape.dims (way_to p a.entity))
  pub keeps : element_breaches (counters_of p) (dims_by memory.shape.dims (way_to p a.entity)) a.element ≡ []
  pub through : (w : Way) → way_to p a.entity ≡ Some w → IsByIndices a.element
  -- the kinds of its indices, and the turns of the iterators in them
  pub kinds : HasElementKinds (counters_of p) a.element
  pub turns : ElementInTurn (known_of p) (counters_of p) a.site.loops path v a.element

-- the same without what the rules that a program keeps tell: the run's own facts
pub record IsMadeAccess (p : Program) (b : Begun) (path : Path) (v : Variables) (a : SourceAccess) (r : Reach) : Type 0 where
  -- the memory of which it is an element, or to which the views lead through which it goes
  pub entity : ℕ
  pub is : base_of (way_to p a.entity) a.entity ≡ Some entity
  pub memory : Memory
  pub declared : memory_in (memories_of p) (Some entity) ≡ Some memory
  pub leads : (w : Way) → way_to p a.entity ≡ Some w → LeadsTo (memories_of p) w
  -- the step begins with the memories of the program, and the access leads to that one
  pub table : b.table ≡ table_of p
  pub number : r.memory ≡ entity_number (number_in (memories_of p) (base_of (way_to p a.entity) a.entity))
  -- the iterators of unrolled loops that its indices name are in turns
  pub turns : ElementInTurn (known_of p) (counters_of p) a.site.loops path v a.element

-- an element lies in the memory, and in a bank that the rules on ports take an access to reach
pub record IsReached (p : Program) (a : SourceAccess) (path : Path) (entity : ℕ) (r : Reach) (s : Spot) : Type 0 where
  pub memory : s.memory ≡ r.memory
  pub bank : reaches p a path entity s.bank ≡ true

-- each access that a run makes leads into a bank that the rules take it to reach
abbrev pub AccessesReachBanks : Program → Type 0
AccessesReachBanks p =
    (b : Begun) (path : Path) (v : Variables) (k : ℕ) (a : SourceAccess) (n : ℕ) (r : Reach) (s : Spot)
    → access_at p k ≡ Some a → (made : IsMadeAccess p b path v a r) → spot_reached b v path r (target_of (known_of p) n a.entity a.element) ≡ Some s → IsReached p a path made.entity r s

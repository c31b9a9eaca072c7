-- What an index is, as the code answers it.
use Rattle.std.specs.Prelude.{◌≡◌, ℕ, not, ℤ, List, Option, Some, None}
use Rattle.dh_value.specs.declared.kinds.Kind.{Kind}
use Rattle.dh_value.specs.declared.operators.Op.{Op}
use Rattle.dh_tree.specs.declared.trees.counters.Counter.{Counter}
use Rattle.dh_tree.specs.declared.trees.expressions.Expr.{Expr}
use Rattle.dh_tree.specs.declared.trees.programs.Tree.{Tree}
use Rattle.dh_tree.specs.Counters.{counters_of, counter_in}
use Rattle.dh_tree.specs.Indices as indices
use Rattle.dh_tree.specs.Indices.{constant, iterator, dynamic, counted, index_kind, sum_kind}
use Rattle.dh_tree.specs.Kinds.{signed_number}
use Rattle.dh_tree.specs.Seen.{form_seen, program_seen}
use Rattle.dh_tree.specs.PlainTrees.{TermForm, number, truth_value, named, accessed, in_bank, applied, converted}
use Rattle.dh_shape.specs.declared.indices.IndexKind.{IndexKind}
use Rattle.dh_shape.specs.declared.indices.IndexKind.TheVariants as kinds
use Rattle.dh_shape.specs.declared.indices.Offset.{Offset}

-- the code's answer is what an index is; an iterator is told by its entity
abbrev pub Classifies : List Counter → indices.IndexKind → IndexKind → Type 0
Classifies cs (constant z) (kinds.Constant v) = v ≡ z
Classifies cs (constant z) (kinds.Iterator entity o) = ⊥
Classifies cs (constant z) kinds.Dynamic = ⊥
Classifies cs (iterator c offset) (kinds.Constant v) = ⊥
Classifies cs (iterator c offset) (kinds.Iterator entity o) = (counter_in cs (Some entity) ≡ Some c) × (o ≡ offset)
Classifies cs (iterator c offset) kinds.Dynamic = ⊥
Classifies cs dynamic (kinds.Constant v) = ⊥
Classifies cs dynamic (kinds.Iterator entity o) = ⊥
Classifies cs dynamic kinds.Dynamic = Unit {0}

-- the loops of a program
abbrev pub loops_in : Tree → List Counter
loops_in tree = counters_of (program_seen tree)

-- the number of a literal
abbrev pub literal_number : Offset → ℤ
literal_number l = signed_number l.negative l.value

-- the answer is what an index of this program is
abbrev pub IsKindOf : Tree → Expr → IndexKind → Type 0
IsKindOf tree e answer = Classifies (loops_in tree) (index_kind (loops_in tree) e.kind (form_seen e.form)) answer

-- it is what a name with a literal added is
abbrev pub IsCountedIndex : Tree → Option Kind → (entity : Option ℕ) → Offset → IndexKind → Type 0
IsCountedIndex tree kind entity l answer = Classifies (loops_in tree) (counted kind (counter_in (loops_in tree) entity) (literal_number l)) answer

-- it is what an operation of these two is
abbrev pub IsSum : Tree → Option Kind → Op → (left right : Expr) → IndexKind → Type 0
IsSum tree kind o left right answer = Classifies (loops_in tree) (sum_kind (loops_in tree) kind o (form_seen left.form) (form_seen right.form)) answer

-- the literal that a form is
abbrev pub literal_of : TermForm → Option Offset
literal_of (number negative n) = Some (record { negative = negative; value = n })
literal_of (truth_value value) = None
literal_of (named r) = None
literal_of (accessed r indices) = None
literal_of (in_bank r bank bank_place row) = None
literal_of (applied o left right) = None
literal_of (converted inner to) = None

-- the entity of the name that a form is
abbrev pub named_entity_of : TermForm → Option (Option ℕ)
named_entity_of (number negative n) = None
named_entity_of (truth_value value) = None
named_entity_of (named r) = Some r.entity
named_entity_of (accessed r indices) = None
named_entity_of (in_bank r bank bank_place row) = None
named_entity_of (applied o left right) = None
named_entity_of (converted inner to) = None

-- a name with a literal added
abbrev pub moved_kind : List Counter → Option Kind → Option (Option ℕ) → Option Offset → indices.IndexKind
moved_kind cs kind name None = dynamic
moved_kind cs kind None (Some l) = dynamic
moved_kind cs kind (Some entity) (Some l) = counted kind (counter_in cs entity) (signed_number l.negative l.value)

-- the answer is what they are, where they are a name and a literal
abbrev pub IsMoved : Tree → Option Kind → Option (Option ℕ) → Option Offset → IndexKind → Type 0
IsMoved tree kind name l answer = Classifies (loops_in tree) (moved_kind (loops_in tree) kind name l) answer

-- a literal with the other sign
abbrev pub opposite : Option Offset → Option Offset
opposite None = None
opposite (Some l) = Some (record { negative = not l.negative; value = l.value })

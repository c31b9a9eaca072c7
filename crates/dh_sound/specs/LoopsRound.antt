-- The unrolled loops round an access, among which are those whose iterators its indices name.
use Rattle.std.specs.Prelude.{◌≡◌, ℕ, List, slice_get, Option, Some}
use Rattle.dh_tree.specs.declared.trees.counters.Counter.{Counter}
use Rattle.dh_tree.specs.Counters.{counter_in}
use Rattle.dh_tree.specs.Indices.{form_of}
use Rattle.dh_tree.specs.PlainTrees.{TermForm, number, truth_value, named, accessed, in_bank, applied, converted, Terms, no_terms, term_then}
use Rattle.dh_meets.specs.Charges.{level_of_loop}
use Rattle.dh_meets.specs.SourceEvents.{Element, with_indices, in_row}
use Rattle.dh_sound.specs.IndexValues.{IsUnrolledLoop}

-- a loop stands among these at the level that is found of its iterator
abbrev pub IsRound : (loops : List Counter) → Counter → Type 0
IsRound loops c = slice_get loops (level_of_loop loops c.entity) ≡ Some c

-- where an entity is the iterator of an unrolled loop, the loop is one of these
abbrev pub EntityRound : (cs loops : List Counter) → Option ℕ → Type 0
EntityRound cs loops entity = (c : Counter) → counter_in cs entity ≡ Some c → IsUnrolledLoop c → IsRound loops c

abbrev pub OperandRound : (cs loops : List Counter) → TermForm → Type 0
OperandRound cs loops (number negative n) = Unit {0}
OperandRound cs loops (truth_value value) = Unit {0}
OperandRound cs loops (named r) = EntityRound cs loops r.entity
OperandRound cs loops (accessed r indices) = Unit {0}
OperandRound cs loops (in_bank r bank bank_place row) = Unit {0}
OperandRound cs loops (applied o left right) = Unit {0}
OperandRound cs loops (converted inner to) = Unit {0}

abbrev pub FormRound : (cs loops : List Counter) → TermForm → Type 0
FormRound cs loops (number negative n) = Unit {0}
FormRound cs loops (truth_value value) = Unit {0}
FormRound cs loops (named r) = EntityRound cs loops r.entity
FormRound cs loops (accessed r indices) = Unit {0}
FormRound cs loops (in_bank r bank bank_place row) = Unit {0}
FormRound cs loops (applied o left right) = OperandRound cs loops (form_of left) × OperandRound cs loops (form_of right)
FormRound cs loops (converted inner to) = Unit {0}

abbrev pub AllRound : (cs loops : List Counter) → Terms → Type 0
AllRound cs loops no_terms = Unit {0}
AllRound cs loops (term_then t rest) = FormRound cs loops (form_of t) × AllRound cs loops rest

-- the indices of an element name the iterators of no unrolled loops but these
abbrev pub ElementRound : (cs loops : List Counter) → Element → Type 0
ElementRound cs loops (with_indices indices) = AllRound cs loops indices
ElementRound cs loops (in_row bank row) = Unit {0}

-- What an access names, and the unrolled loops that a table tells.
use Rattle.std.specs.Prelude.{ℕ, List, [], Option, Some, None, slice_get, Vec}
use Rattle.std.specs.Global.{Global}
use Rattle.dh_tree.specs.declared.trees.counters.Counter.{Counter}
use Rattle.dh_tree.specs.PlainTrees.{TermForm, number, truth_value, named, accessed, in_bank, applied, converted, no_terms}
use Rattle.dh_meets.specs.SourceEvents.{Element, with_indices, in_row}

-- what an access names, and which element of it
abbrev pub entity_in : TermForm → Option ℕ
entity_in (number negative n) = None
entity_in (truth_value value) = None
entity_in (named r) = None
entity_in (accessed r indices) = r.entity
entity_in (in_bank r bank bank_place row) = r.entity
entity_in (applied op left right) = None
entity_in (converted inner to) = None

abbrev pub element_in : TermForm → Element
element_in (number negative n) = with_indices no_terms
element_in (truth_value value) = with_indices no_terms
element_in (named r) = with_indices no_terms
element_in (accessed r indices) = with_indices indices
element_in (in_bank r bank bank_place row) = in_row bank row
element_in (applied op left right) = with_indices no_terms
element_in (converted inner to) = with_indices no_terms

-- the unrolled loops inside which something stands, by a table of them
abbrev pub loops_found : Option (Vec Counter Global) → List Counter
loops_found None = []
loops_found (Some loops) = loops.items

abbrev pub loops_listed : List (Vec Counter Global) → Option ℕ → List Counter
loops_listed rounds None = []
loops_listed rounds (Some id) = loops_found (slice_get rounds id)

-- Expressions without parts, of which all is known at once.
use Rattle.std.specs.Prelude.{Bool, true, false, Option, Some, None}
use Rattle.std.specs.Option.{is_some}
use Rattle.dh_value.specs.declared.kinds.Kind.{Kind}
use Rattle.dh_value.specs.declared.kinds.Kind.TheVariants as kind
use Rattle.dh_tree.specs.PlainTrees.{Term, term, TermForm, number, truth_value, named, accessed, in_bank, applied, converted}
use Rattle.dh_tree.specs.Kinds as rules
use Rattle.dh_tree.specs.Kinds.{Facts, Fact, of_memory, of_function}

-- whether it is a number
abbrev pub is_number_form : TermForm → Bool
is_number_form (number negative n) = true
is_number_form (truth_value value) = false
is_number_form (named r) = false
is_number_form (accessed r indices) = false
is_number_form (in_bank r bank bank_place row) = false
is_number_form (applied o left right) = false
is_number_form (converted inner to) = false

-- whether it is a number, a truth or a name alone
abbrev pub is_leaf_form : TermForm → Bool
is_leaf_form (number negative n) = true
is_leaf_form (truth_value value) = true
is_leaf_form (named r) = true
is_leaf_form (accessed r indices) = false
is_leaf_form (in_bank r bank bank_place row) = false
is_leaf_form (applied o left right) = false
is_leaf_form (converted inner to) = false

-- the kind that is found of a number, a truth or a name alone; none of other forms
abbrev pub leaf_found : Facts → (want : Option Kind) → TermForm → Option Kind
leaf_found facts want (number negative n) = rules.number_found (rules.number_kind want) negative n
leaf_found facts want (truth_value value) = Some kind.Bool
leaf_found facts want (named r) = rules.value_kind (rules.fact_of facts r)
leaf_found facts want (accessed r indices) = None
leaf_found facts want (in_bank r bank bank_place row) = None
leaf_found facts want (applied o left right) = None
leaf_found facts want (converted inner to) = None

-- whether what is known of a name lets it stand as a value; a name that stands for nothing is left to another rule
abbrev pub names_value : Option Fact → Bool
names_value (Some (of_memory kind dims)) = false
names_value (Some (of_function parameters)) = false
names_value _ = true

-- whether it is a number that has a kind, a truth or the name of a value
abbrev pub is_sound : Facts → Term → Bool
is_sound facts (term place kind (number negative n)) = is_some kind
is_sound facts (term place kind (truth_value value)) = true
is_sound facts (term place kind (named r)) = names_value (rules.fact_of facts r)
is_sound facts (term place kind (accessed r indices)) = false
is_sound facts (term place kind (in_bank r bank bank_place row)) = false
is_sound facts (term place kind (applied o left right)) = false
is_sound facts (term place kind (converted inner to)) = false

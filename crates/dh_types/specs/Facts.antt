-- What the definitions see of the facts that the code keeps of entities, and of a breach that may lack.
use Rattle.std.specs.Prelude.{◌≡◌, Bool, true, false, List, [], ◌∷◌, map, Option, Some, None, option_map}
use denote.Ref.{Bor}
use Rattle.dh_value.specs.declared.kinds.Kind.{Kind}
use Rattle.dh_types.specs.declared.facts.Fact.{Fact}
use Rattle.dh_types.specs.declared.facts.Fact.TheVariants as known
use Rattle.dh_tree.specs.declared.breaches.Breach.{Breach}
use Rattle.dh_tree.specs.Kinds as kinds
use Rattle.dh_tree.specs.Kinds.{Facts, is_integer, fact_of, view_fact, function_fact}
use Rattle.dh_tree.specs.KindBreaches.{name_fact}
use Rattle.dh_tree.specs.PlainTrees.{Term, term}
use Rattle.dh_tree.specs.Seen.{view_plan, formal_seen, defined_seen}
use Rattle.dh_tree.specs.declared.trees.expressions.Ref.{Ref}
use Rattle.dh_tree.specs.declared.trees.commands.ViewForm.{ViewForm}
use Rattle.dh_tree.specs.declared.trees.programs.Parameter.{Parameter}
use Rattle.dh_tree.specs.declared.trees.programs.Function.{Function}

-- what is known of an entity
abbrev pub fact_seen : Fact → kinds.Fact
fact_seen (known.Variable kind) = kinds.of_variable kind
fact_seen (known.Iterator kind) = kinds.of_iterator kind
fact_seen (known.Memory kind dims) = kinds.of_memory kind dims
fact_seen (known.Function parameters) = kinds.of_function parameters

-- what is known of the entities, by number
abbrev pub facts_seen : List Fact → Facts
facts_seen facts = map fact_seen facts

-- what is known of what a name stands for, where it stands for something
abbrev pub known_fact : Option (Bor Fact) → Option kinds.Fact
known_fact fact = option_map (λ f. fact_seen f.now) fact

-- a fact is what is known of a view of the parent with this name
abbrev pub IsViewFact : List Fact → (parent : Ref) → ViewForm → Fact → Type 0
IsViewFact facts parent form fact = fact_seen fact ≡ view_fact (fact_of (facts_seen facts) parent) (view_plan form)

-- a fact is what is known of a function
abbrev pub IsFunctionFact : Function → Fact → Type 0
IsFunctionFact function fact = fact_seen fact ≡ function_fact (defined_seen function)

-- the kinds of parameters, in order
abbrev pub parameter_kinds : List Parameter → List Kind
parameter_kinds parameters = map (λ m. m.kind) (map formal_seen parameters)

-- a breach that may lack, as a list of breaches
abbrev pub listed_breach : Option Breach → List Breach
listed_breach None = []
listed_breach (Some b) = b ∷ []

-- whether an expression is the name of a memory or a view
abbrev pub is_memory : Option kinds.Fact → Bool
is_memory (Some (kinds.of_memory kind dims)) = true
is_memory _ = false

abbrev pub is_memory_name : Facts → Term → Bool
is_memory_name facts (term place kind form) = is_memory (name_fact facts form)

-- whether a kind was found that is an integer one
abbrev pub has_integer : Option Kind → Bool
has_integer None = false
has_integer (Some k) = is_integer k

-- Which kinds the expressions of the code take.
use Rattle.std.specs.Prelude.{◌≡◌, ℕ, ◌==◌, ◌&&◌, Bool, true, false, List, map, Option, None, option_map, Vec, if◌then◌else◌}
use Rattle.std.specs.Global.{Global}
use Rattle.dh_value.specs.declared.kinds.Kind.{Kind}
use Rattle.dh_value.specs.declared.operators.Op.{Op}
use Rattle.dh_tree.specs.declared.trees.expressions.Expr.{Expr}
use Rattle.dh_tree.specs.declared.trees.expressions.Ref.{Ref}
use Rattle.dh_tree.specs.declared.trees.commands.ViewForm.{ViewForm}
use Rattle.dh_tree.specs.PlainTrees.{Term, Terms}
use Rattle.dh_tree.specs.Seen.{term_seen, expressions_seen, factor_seen, view_plan}
use Rattle.dh_tree.specs.Kinds.{fact_of, found, for_numbers, left_want, right_want, all_found, all_integer, count_of, typed_term, typed_maybe, typed_offset, typed_plan, typed_arguments, parameters_of, target_kind}
use Rattle.dh_types.specs.declared.facts.Fact.{Fact}
use Rattle.dh_types.specs.Facts.{facts_seen}
use Rattle.dh_types.specs.Bare.{filled_if_bare}

-- a right side that may lack
abbrev pub value_seen : Option Expr → Option Term
value_seen value = option_map term_seen value

-- whether each of the indices has a kind, and they are not as many as the dimensions
abbrev pub have_wrong_count : Terms → (dims : ℕ) → Bool
have_wrong_count indices dims = all_found indices && (if count_of indices == dims then false else true)

-- whether each of the indices is of an integer kind, and they are as many as the dimensions
abbrev pub are_right_indices : Terms → (dims : ℕ) → Bool
are_right_indices indices dims = all_integer indices && (count_of indices == dims)

-- an expression takes its kinds; the numbers of a bare one take the kind that is wanted
abbrev pub TypesTerm : List Fact → (want : Option Kind) → (old new : Expr) → Type 0
TypesTerm facts want old new = term_seen new ≡ typed_term (facts_seen facts) want (term_seen old)

-- expressions, at whose places no kind is wanted, take their kinds
abbrev pub TypesTerms : List Fact → (old new : Vec Expr Global) → Type 0
TypesTerms facts old new = expressions_seen new ≡ map (typed_term (facts_seen facts) None) (expressions_seen old)

-- a right side for a target of this kind takes its kinds
abbrev pub TypesRightSide : List Fact → (target : Option Kind) → (old new : Expr) → Type 0
TypesRightSide facts target old new = TypesTerm facts (for_numbers target) old new

-- a right side that may lack takes its kinds
abbrev pub TypesValue : List Fact → (target : Option Kind) → (old new : Option Expr) → Type 0
TypesValue facts target old new = value_seen new ≡ typed_maybe (facts_seen facts) target (value_seen old)

-- the right side of an assignment or a reducer takes its kinds: that of the target with this name is wanted
abbrev pub TypesAssigned : List Fact → (target : Ref) → (old new : Expr) → Type 0
TypesAssigned facts target old new = TypesRightSide facts (target_kind (fact_of (facts_seen facts) target)) old new

-- arguments take their kinds: those of the parameters are wanted
abbrev pub TypesArguments : List Fact → (parameters : List Kind) → (old new : Vec Expr Global) → Type 0
TypesArguments facts parameters old new = expressions_seen new ≡ typed_arguments (facts_seen facts) parameters (expressions_seen old)

-- arguments of the function with this name take their kinds
abbrev pub TypesCall : List Fact → (function : Ref) → (old new : Vec Expr Global) → Type 0
TypesCall facts function old new = TypesArguments facts (parameters_of (fact_of (facts_seen facts) function)) old new

-- the offsets of a view take their kinds
abbrev pub TypesPlan : List Fact → (old new : ViewForm) → Type 0
TypesPlan facts old new = view_plan new ≡ typed_plan (facts_seen facts) (view_plan old)

-- the offsets of factors take their kinds
abbrev pub TypesSuffixes : List Fact → (old new : Vec (ℕ × Expr) Global) → Type 0
TypesSuffixes facts old new = map factor_seen new.items ≡ map (typed_offset (facts_seen facts)) (map factor_seen old.items)

-- a bare operand takes its kinds, and any other stays as it is
abbrev pub FillsBareOperand : List Fact → (bare : Bool) → (want : Option Kind) → (old new : Expr) → Type 0
FillsBareOperand facts bare want old new = term_seen new ≡ filled_if_bare (facts_seen facts) bare want (term_seen old)

-- what the place of a bare left operand asks for beside this right one, where no kind is wanted of the operation
abbrev pub wanted_left : Op → (bare_right : Bool) → (right : Expr) → Option Kind
wanted_left op bare_right right = left_want op None true bare_right (found (term_seen right))

-- what the place of a bare right operand asks for beside this left one
abbrev pub wanted_right : Op → (bare_left : Bool) → (left : Expr) → Option Kind
wanted_right op bare_left left = right_want op None bare_left true (found (term_seen left))

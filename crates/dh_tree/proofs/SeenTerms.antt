-- What is seen of an expression, form by form, where its parts stand in the code's lists and boxes.
use Rattle.std.proofs.Common.{◌≡◌, ℕ, Bool, map, refl, ap, ◌∙◌}
use Rattle.std.specs.Prelude.{Vec}
use Rattle.std.specs.Global.{Global}
use Rattle.dh_base.specs.declared.places.Place.{Place}
use Rattle.dh_value.specs.declared.kinds.Kind.{Kind}
use Rattle.dh_value.specs.declared.operators.Op.{Op}
use Rattle.dh_tree.specs.declared.trees.expressions.Ref.{Ref}
use Rattle.dh_tree.specs.declared.trees.expressions.Expr.{Expr}
use Rattle.dh_tree.specs.declared.trees.expressions.ExprForm.TheVariants.{Number, Truth, Variable, Access, Physical, Binary, Cast}
use Rattle.dh_tree.specs.declared.trees.expressions.ExprForm.TheBlock.{Row_of-Expr, end_of-Expr, more_of-Expr, items-the_row-Expr, hidden-the_row-Expr-0, items_hidden-the_row-Expr-0}
use Rattle.dh_tree.specs.PlainTrees.{term, number, truth_value, named, accessed, in_bank, applied, converted, term_then}
use Rattle.dh_tree.specs.Seen.{form_seen, term_row_seen, term_seen, terms}
use mathlib.Core.Former.{Count}

row_is : (n : Count) (k : Row_of-Expr n) → term_row_seen k ≡ terms (map term_seen (items-the_row-Expr n k))
unfolding form_seen
row_is _ end_of-Expr = refl
row_is _ (more_of-Expr {n = n} place kind form rest) = ap (λ s. term_then (term place kind (form_seen form)) s) (row_is n rest)

pub number_is : (negative : Bool) (value : ℕ) → form_seen (Number negative value) ≡ number negative value
unfolding form_seen
number_is negative value = refl

pub truth_is : (value : Bool) → form_seen (Truth value) ≡ truth_value value
unfolding form_seen
truth_is value = refl

pub variable_is : (of : Ref) → form_seen (Variable of) ≡ named of
unfolding form_seen
variable_is of = refl

pub access_is : (of : Ref) (v : Vec Expr Global) → form_seen (Access of v) ≡ accessed of (terms (map term_seen v.items))
unfolding form_seen
access_is of v = ap (λ s. accessed of s) (row_is _ (hidden-the_row-Expr-0 v) ∙ ap (λ l. terms (map term_seen l)) (items_hidden-the_row-Expr-0 v))

pub physical_is : (of : Ref) (bank : ℕ) (place : Place) (row : _) → form_seen (Physical of bank place row) ≡ in_bank of bank place (term_seen row.value)
unfolding form_seen
physical_is of bank place row = refl

pub binary_is : (op : Op) (left right : _) → form_seen (Binary op left right) ≡ applied op (term_seen left.value) (term_seen right.value)
unfolding form_seen
binary_is op left right = refl

pub cast_is : (inner : _) (to : Kind) → form_seen (Cast inner to) ≡ converted (term_seen inner.value) to
unfolding form_seen
cast_is inner to = refl

pub ruleset terms_are = (number_is, truth_is, variable_is, access_is, physical_is, binary_is, cast_is)

-- Expressions whose kinds are found up to the bare ones, which wait for the kind of their place.
use Rattle.std.specs.Prelude.{Bool, true, Option, None, if◌then◌else◌}
use Rattle.dh_value.specs.declared.kinds.Kind.{Kind}
use Rattle.dh_tree.specs.PlainTrees.{Term, term, TermForm, number, truth_value, named, accessed, in_bank, applied, converted}
use Rattle.dh_tree.specs.Kinds.{Facts, is_bare, is_bare_form, form_found, left_want, right_want, typed_term, typed_form}

-- a bare expression as it is, and any other one with its kinds
abbrev pub settled : Facts → Term → Term
settled facts t = if is_bare t then t else typed_term facts None t

abbrev pub settled_form : Facts → TermForm → TermForm
settled_form facts f = if is_bare_form f then f else typed_form facts None f

abbrev mutual
  -- an expression in which numbers take the kind that is wanted, and an operation hands it on to both operands as
  -- to bare ones: of a bare expression these are its kinds
  pub filled_in : Facts → (want : Option Kind) → Term → Term
  filled_in facts want (term place kind form) = term place (form_found facts want (filled_in_form facts want form)) (filled_in_form facts want form)

  pub filled_in_form : Facts → (want : Option Kind) → TermForm → TermForm
  filled_in_form facts want (applied o left right) =
      applied o (filled_in facts (left_want o want true true None) left) (filled_in facts (right_want o want true true None) right)
  filled_in_form facts want (number negative n) = number negative n
  filled_in_form facts want (truth_value value) = truth_value value
  filled_in_form facts want (named r) = named r
  filled_in_form facts want (accessed r indices) = accessed r indices
  filled_in_form facts want (in_bank r bank bank_place row) = in_bank r bank bank_place row
  filled_in_form facts want (converted inner to) = converted inner to

-- a bare operand with its kinds, and any other as it is
abbrev pub filled_if_bare : Facts → Bool → (want : Option Kind) → Term → Term
filled_if_bare facts bare want t = if bare then filled_in facts want t else t

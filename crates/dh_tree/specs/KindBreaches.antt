-- The breaches of the rules on kinds in a program whose expressions have their kinds: `TypeMismatch` (K6)
-- where an operand, a right side, a condition, an index or a name is of the wrong sort or sign, and
-- `WidthLost` (K7) at a number that is no value of its kind, and at a right side that is wider than its
-- target. (The rules on kinds of this profile.)
use Rattle.std.specs.Prelude.{◌≡◌, ◌-◌, ◌&&◌, nat_lt, true, false, List, [], ◌∷◌, ◌++◌, Option, Some, None, if◌then◌else◌, pos}
use Rattle.dh_base.specs.declared.places.Place.{Place}
use Rattle.dh_value.specs.declared.kinds.Kind.{Kind}
use Rattle.dh_tree.specs.declared.breaches.Breach.{Breach}
use Rattle.dh_tree.specs.declared.trees.expressions.Ref.{Ref}
use Rattle.dh_tree.specs.PlainTrees.{Term, term, TermForm, number, truth_value, named, accessed, in_bank, applied, converted, Terms, no_terms, term_then, Suffixed, ViewPlan, shrinks, splits, suffixes, shifts, Placed, Action, action, ActionForm, lets, lets_memory, views, assigns, stores, reduces, calls, blocks, decides, repeats, counts, MaybeAction, no_action, one_action, Actions, no_actions, action_then, Groups, no_groups, group_then, Defined, Program}
use Rattle.dh_tree.specs.Kinds.{Fact, of_variable, of_iterator, of_memory, of_function, Facts, fact_of, mismatch, width_lost, when, is_value, is_truth, are_alike, is_wider, found, place_of, value_breaches, number_breaches, index_breaches, access_breaches, bank_breaches, applied_breaches, cast_breaches, target_kind, iterator_kind, facts_after, facts_after_actions, facts_after_function, formal_facts, first_facts, body_facts}

abbrev mutual
  -- the breaches of an expression
  pub term_kind_breaches : Facts → Term → List Breach
  term_kind_breaches facts (term place kind form) = form_kind_breaches facts place kind form

  pub form_kind_breaches : Facts → Place → Option Kind → TermForm → List Breach
  form_kind_breaches facts place kind (number negative n) = number_breaches kind place
  form_kind_breaches facts place kind (truth_value value) = []
  form_kind_breaches facts place kind (named r) = value_breaches (fact_of facts r) place
  form_kind_breaches facts place kind (accessed r indices) = access_breaches (fact_of facts r) place indices ++ indices_kind_breaches facts indices
  form_kind_breaches facts place kind (in_bank r bank bank_place row) =
      bank_breaches (fact_of facts r) place ++ (index_breaches (found row) (place_of row) ++ term_kind_breaches facts row)
  form_kind_breaches facts place kind (applied o left right) =
      applied_breaches o (place_of left) (place_of right) (found left) (found right)
      ++ (term_kind_breaches facts left ++ term_kind_breaches facts right)
  form_kind_breaches facts place kind (converted inner to) = cast_breaches place (found inner) to ++ term_kind_breaches facts inner

  -- those of indices
  pub indices_kind_breaches : Facts → Terms → List Breach
  indices_kind_breaches facts no_terms = []
  indices_kind_breaches facts (term_then t rest) =
      index_breaches (found t) (place_of t) ++ (term_kind_breaches facts t ++ indices_kind_breaches facts rest)

-- a right side of a kind for a target of a kind: of the same sign and no wider, or both Bool
abbrev pub assigned_breaches : (target value : Option Kind) → Place → List Breach
assigned_breaches (Some t) (Some v) place = if are_alike t v then when (is_wider v t) (width_lost place) else mismatch place
assigned_breaches _ _ place = []

-- a right side for a target of a kind
abbrev pub right_side_breaches : Facts → (target : Option Kind) → Term → List Breach
right_side_breaches facts target value = assigned_breaches target (found value) (place_of value) ++ term_kind_breaches facts value

abbrev pub maybe_breaches : Facts → (target : Option Kind) → Option Term → List Breach
maybe_breaches facts target None = []
maybe_breaches facts target (Some value) = right_side_breaches facts target value

-- a condition is Bool
abbrev pub truth_breaches : Option Kind → Place → List Breach
truth_breaches None place = []
truth_breaches (Some k) place = when (if is_truth k then false else true) (mismatch place)

abbrev pub condition_breaches : Facts → Term → List Breach
condition_breaches facts test = truth_breaches (found test) (place_of test) ++ term_kind_breaches facts test

-- an offset of a view is of an integer kind
abbrev pub offset_breaches : Facts → Term → List Breach
offset_breaches facts t = index_breaches (found t) (place_of t) ++ term_kind_breaches facts t

abbrev pub shifts_breaches : Facts → List Term → List Breach
shifts_breaches facts [] = []
shifts_breaches facts (t ∷ ts) = offset_breaches facts t ++ shifts_breaches facts ts

abbrev pub suffixes_breaches : Facts → List Suffixed → List Breach
suffixes_breaches facts [] = []
suffixes_breaches facts (s ∷ ss) = offset_breaches facts s.offset ++ suffixes_breaches facts ss

abbrev pub plan_kind_breaches : Facts → ViewPlan → List Breach
plan_kind_breaches facts (shrinks by by_place) = []
plan_kind_breaches facts (splits by by_place) = []
plan_kind_breaches facts (suffixes by by_place) = suffixes_breaches facts by
plan_kind_breaches facts (shifts by) = shifts_breaches facts by

-- the name of what is assigned to stands for a variable; an iterator is left to another rule
abbrev pub target_breaches : Option Fact → Place → List Breach
target_breaches (Some (of_memory kind dims)) place = mismatch place
target_breaches (Some (of_function parameters)) place = mismatch place
target_breaches (Some (of_variable kind)) place = []
target_breaches (Some (of_iterator kind)) place = []
target_breaches None place = []

-- the name of a view's parent stands for a memory or a view
abbrev pub parent_breaches : Option Fact → Place → List Breach
parent_breaches fact place = bank_breaches fact place

-- the operator of a reducer takes no Bool
abbrev pub reducer_kind_breaches : (target value : Option Kind) → Place → List Breach
reducer_kind_breaches (Some t) (Some v) place = when (is_truth t) (mismatch place)
reducer_kind_breaches _ _ place = []

-- an argument that names a memory or a view is judged by another rule
abbrev pub argument_form_breaches : Facts → Place → Option Kind → Option Fact → TermForm → List Breach
argument_form_breaches facts place kind (Some (of_memory k dims)) (named r) = []
argument_form_breaches facts place kind fact form = form_kind_breaches facts place kind form

abbrev pub name_fact : Facts → TermForm → Option Fact
name_fact facts (named r) = fact_of facts r
name_fact facts (number negative n) = None
name_fact facts (truth_value value) = None
name_fact facts (accessed r indices) = None
name_fact facts (in_bank r bank bank_place row) = None
name_fact facts (applied o left right) = None
name_fact facts (converted inner to) = None

abbrev pub argument_breaches : Facts → Term → List Breach
argument_breaches facts (term place kind form) = argument_form_breaches facts place kind (name_fact facts form) form

abbrev pub arguments_breaches : Facts → List Term → List Breach
arguments_breaches facts [] = []
arguments_breaches facts (t ∷ ts) = argument_breaches facts t ++ arguments_breaches facts ts

-- an iterator is declared `bool`
abbrev pub iterator_breaches : Ref → Kind → List Breach
iterator_breaches iterator k = when (is_truth k) (mismatch iterator.place)

-- a lower bound is a value of the iterator's kind, and so is what comes before an upper bound above it
abbrev pub low_breaches : Kind → Placed → List Breach
low_breaches k low = when (if is_value k (pos low.value) then false else true) (width_lost low.place)

abbrev pub high_breaches : Kind → Placed → Placed → List Breach
high_breaches k low high = when (nat_lt low.value high.value && (if is_value k (pos (high.value - 1)) then false else true)) (width_lost high.place)

abbrev mutual
  -- the breaches of a command, after what is known before it
  pub action_kind_breaches : Facts → Action → List Breach
  action_kind_breaches facts (action id place form) = action_form_kind_breaches facts form

  pub action_form_kind_breaches : Facts → ActionForm → List Breach
  action_form_kind_breaches facts (lets name declared value) = maybe_breaches facts declared value
  action_form_kind_breaches facts (lets_memory name shape shape_places value) = maybe_breaches facts (Some shape.kind) value
  action_form_kind_breaches facts (views name parent form) = parent_breaches (fact_of facts parent) parent.place ++ plan_kind_breaches facts form
  action_form_kind_breaches facts (assigns target value) =
      target_breaches (fact_of facts target) target.place ++ right_side_breaches facts (target_kind (fact_of facts target)) value
  action_form_kind_breaches facts (stores target value) = term_kind_breaches facts target ++ right_side_breaches facts (found target) value
  action_form_kind_breaches facts (reduces target o value) =
      target_breaches (fact_of facts target) target.place
      ++ (reducer_kind_breaches (target_kind (fact_of facts target)) (found value) target.place
      ++ right_side_breaches facts (target_kind (fact_of facts target)) value)
  action_form_kind_breaches facts (calls function arguments) = arguments_breaches facts arguments
  action_form_kind_breaches facts (blocks body) = groups_kind_breaches facts body
  action_form_kind_breaches facts (decides test chosen other) =
      condition_breaches facts test ++ (action_kind_breaches facts chosen ++ other_kind_breaches (facts_after facts chosen) other)
  action_form_kind_breaches facts (repeats test body) = condition_breaches facts test ++ action_kind_breaches facts body
  action_form_kind_breaches facts (counts iterator declared low high factor body combine combine_place) =
      iterator_breaches iterator (iterator_kind declared)
      ++ (low_breaches (iterator_kind declared) low
      ++ (high_breaches (iterator_kind declared) low high
      ++ (action_kind_breaches (facts ++ of_iterator (iterator_kind declared) ∷ []) body
      ++ other_kind_breaches (facts_after (facts ++ of_iterator (iterator_kind declared) ∷ []) body) combine)))

  pub other_kind_breaches : Facts → MaybeAction → List Breach
  other_kind_breaches facts no_action = []
  other_kind_breaches facts (one_action a) = action_kind_breaches facts a

  pub actions_kind_breaches : Facts → Actions → List Breach
  actions_kind_breaches facts no_actions = []
  actions_kind_breaches facts (action_then a rest) = action_kind_breaches facts a ++ actions_kind_breaches (facts_after facts a) rest

  pub groups_kind_breaches : Facts → Groups → List Breach
  groups_kind_breaches facts no_groups = []
  groups_kind_breaches facts (group_then g rest) = actions_kind_breaches facts g ++ groups_kind_breaches (facts_after_actions facts g) rest

abbrev pub function_kind_breaches : Facts → Defined → List Breach
function_kind_breaches facts f = action_kind_breaches (facts ++ formal_facts f.parameters) f.body

abbrev pub functions_kind_breaches : Facts → List Defined → List Breach
functions_kind_breaches facts [] = []
functions_kind_breaches facts (f ∷ fs) = function_kind_breaches facts f ++ functions_kind_breaches (facts_after_function facts f) fs

-- the breaches of a program whose expressions have their kinds
abbrev pub kind_breaches : Program → List Breach
kind_breaches p = functions_kind_breaches (first_facts p) p.functions ++ action_kind_breaches (body_facts p) p.body

-- no rule on kinds is broken
abbrev pub KeepsKinds : Program → Type 0
KeepsKinds p = kind_breaches p ≡ []

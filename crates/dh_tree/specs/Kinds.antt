-- The kinds of expressions. (The rules on kinds of this profile.) `typed` is a program whose names are
-- resolved with the kinds of its expressions filled in: an expression that holds a breach, or mentions a
-- variable that has no kind for that reason, has none. The breaches are told of the typed program
-- (KindBreaches).
use Rattle.std.specs.Prelude.{◌≡◌, ℕ, suc, ◌-◌, ◌==◌, ◌&&◌, nat_lt, Bool, true, false, List, [], ◌∷◌, ◌++◌, length, map, slice_get, Option, Some, None, option_map, if◌then◌else◌, ℤ, pos, neg_ℤ, int_le, int_lt, ◌^◌}
use Rattle.std.specs.Option.{is_some}
use Rattle.dh_base.specs.declared.places.Place.{Place}
use Rattle.dh_base.specs.declared.rules.Rule.TheVariants.{TypeMismatch, WidthLost}
use Rattle.dh_value.specs.declared.kinds.Kind.{Kind}
use Rattle.dh_value.specs.declared.kinds.Kind.TheVariants as kind
use Rattle.dh_value.specs.declared.operators.Op.{Op}
use Rattle.dh_value.specs.declared.operators.Op.TheVariants as op
use Rattle.dh_tree.specs.declared.breaches.Breach.{Breach}
use Rattle.dh_tree.specs.declared.tables.Shape.{Shape}
use Rattle.dh_tree.specs.declared.trees.expressions.Ref.{Ref}
use Rattle.dh_tree.specs.LeastBreach.{breach}
use Rattle.dh_tree.specs.WiderKinds.{wider}
use Rattle.dh_tree.specs.PlainTrees.{Term, term, TermForm, number, truth_value, named, accessed, in_bank, applied, converted, Terms, no_terms, term_then, Suffixed, ViewPlan, shrinks, splits, suffixes, shifts, Action, action, ActionForm, lets, lets_memory, views, assigns, stores, reduces, calls, blocks, decides, repeats, counts, MaybeAction, no_action, one_action, Actions, no_actions, action_then, Groups, no_groups, group_then, Declared, Formal, Defined, Program}

-- two kinds are the same
abbrev pub same_kind : Kind → Kind → Bool
same_kind kind.Bool kind.Bool = true
same_kind (kind.Unsigned m) (kind.Unsigned n) = m == n
same_kind (kind.Signed m) (kind.Signed n) = m == n
same_kind kind.Bool (kind.Unsigned n) = false
same_kind kind.Bool (kind.Signed n) = false
same_kind (kind.Unsigned m) kind.Bool = false
same_kind (kind.Unsigned m) (kind.Signed n) = false
same_kind (kind.Signed m) kind.Bool = false
same_kind (kind.Signed m) (kind.Unsigned n) = false

-- what is known of an entity
pub data Fact : Type 0 where
  -- a variable or a scalar parameter; without a kind where the right side of its `let` has none
  of_variable : (kind : Option Kind) → Fact
  of_iterator : (kind : Kind) → Fact
  -- a memory or a view: the kind of its elements, and its number of dimensions
  of_memory : (kind : Option Kind) → (dims : ℕ) → Fact
  of_function : (parameters : List Kind) → Fact

-- what is known of the entities so far, by number
abbrev pub Facts : Type 0
Facts = List Fact

abbrev pub fact_at : Facts → Option ℕ → Option Fact
fact_at facts None = None
fact_at facts (Some n) = slice_get facts n

abbrev pub fact_of : Facts → Ref → Option Fact
fact_of facts r = fact_at facts r.entity

abbrev pub mismatch : Place → List Breach
mismatch place = breach TypeMismatch place ∷ []

abbrev pub width_lost : Place → List Breach
width_lost place = breach WidthLost place ∷ []

abbrev pub when : Bool → List Breach → List Breach
when true breaches = breaches
when false breaches = []

-- z is a value of an integer kind
abbrev pub is_value : Kind → ℤ → Bool
is_value kind.Bool z = false
is_value (kind.Unsigned w) z = int_le (pos 0) z && int_lt z (pos (2 ^ w))
is_value (kind.Signed w) z = int_le (neg_ℤ (pos (2 ^ (w - 1)))) z && int_lt z (pos (2 ^ (w - 1)))

abbrev pub signed_number : (negative : Bool) → ℕ → ℤ
signed_number false n = pos n
signed_number true n = neg_ℤ (pos n)

abbrev pub is_integer : Kind → Bool
is_integer kind.Bool = false
is_integer (kind.Unsigned w) = true
is_integer (kind.Signed w) = true

abbrev pub is_truth : Kind → Bool
is_truth kind.Bool = true
is_truth (kind.Unsigned w) = false
is_truth (kind.Signed w) = false

abbrev pub is_unsigned : Kind → Bool
is_unsigned kind.Bool = false
is_unsigned (kind.Unsigned w) = true
is_unsigned (kind.Signed w) = false

-- of one sign, or both Bool
abbrev pub are_alike : Kind → Kind → Bool
are_alike kind.Bool kind.Bool = true
are_alike (kind.Unsigned m) (kind.Unsigned n) = true
are_alike (kind.Signed m) (kind.Signed n) = true
are_alike _ _ = false

-- the first kind is the wider of two of one sign
abbrev pub is_wider : Kind → Kind → Bool
is_wider (kind.Unsigned m) (kind.Unsigned n) = nat_lt n m
is_wider (kind.Signed m) (kind.Signed n) = nat_lt n m
is_wider _ _ = false

-- a kind that the numbers of a bare expression can take
abbrev pub for_numbers : Option Kind → Option Kind
for_numbers None = None
for_numbers (Some k) = if is_integer k then Some k else None

-- the kind that a number takes: that of its place, or else `bit<32>`
abbrev pub number_kind : Option Kind → Kind
number_kind None = kind.Signed 32
number_kind (Some k) = k

abbrev pub is_shift : Op → Bool
is_shift op.Shl = true
is_shift op.Shr = true
is_shift op.Add = false
is_shift op.Sub = false
is_shift op.Mul = false
is_shift op.And = false
is_shift op.Or = false
is_shift op.Xor = false
is_shift op.Lt = false
is_shift op.Gt = false
is_shift op.Le = false
is_shift op.Ge = false
is_shift op.Eq = false
is_shift op.Ne = false
is_shift op.Both = false
is_shift op.Either = false

-- whether an operation on bare operands is bare
abbrev pub keeps_bare : Op → Bool
keeps_bare op.Add = true
keeps_bare op.Sub = true
keeps_bare op.Mul = true
keeps_bare op.And = true
keeps_bare op.Or = true
keeps_bare op.Xor = true
keeps_bare op.Shl = true
keeps_bare op.Shr = true
keeps_bare op.Lt = false
keeps_bare op.Gt = false
keeps_bare op.Le = false
keeps_bare op.Ge = false
keeps_bare op.Eq = false
keeps_bare op.Ne = false
keeps_bare op.Both = false
keeps_bare op.Either = false

-- whether an expression is bare: a number, or an operation on two bare ones whose value is a number
abbrev mutual
  pub is_bare : Term → Bool
  is_bare (term place kind form) = is_bare_form form

  pub is_bare_form : TermForm → Bool
  is_bare_form (number negative n) = true
  is_bare_form (applied o left right) = keeps_bare o && (is_bare left && is_bare right)
  is_bare_form (truth_value value) = false
  is_bare_form (named r) = false
  is_bare_form (accessed r indices) = false
  is_bare_form (in_bank r bank bank_place row) = false
  is_bare_form (converted inner to) = false

-- the kind that an expression has been found to have
abbrev pub found : Term → Option Kind
found (term place kind form) = kind

abbrev pub place_of : Term → Place
place_of (term place kind form) = place

-- What the place of a bare left operand asks for: in a shift that of the whole, where the right operand
-- is bare too; else the kind of the right operand, or of the whole where that is bare too.
abbrev pub left_want : Op → (want : Option Kind) → (bare_left bare_right : Bool) → (right : Option Kind) → Option Kind
left_want o want false bare_right right = None
left_want o want true true right = if keeps_bare o then want else None
left_want o want true false right = if is_shift o then None else for_numbers right

-- what the place of a bare right operand asks for; the numbers of a bare amount of a shift are `ubit<32>`
abbrev pub right_want : Op → (want : Option Kind) → (bare_left bare_right : Bool) → (left : Option Kind) → Option Kind
right_want o want bare_left false left = None
right_want o want true true left = if is_shift o then Some (kind.Unsigned 32) else (if keeps_bare o then want else None)
right_want o want false true left = if is_shift o then Some (kind.Unsigned 32) else for_numbers left

-- the sorts of operators, by what operands they take
pub data Takes : Type 0 where
  two_numbers : Takes
  number_and_amount : Takes
  two_alike : Takes
  two_truths : Takes

abbrev pub takes : Op → Takes
takes op.Add = two_numbers
takes op.Sub = two_numbers
takes op.Mul = two_numbers
takes op.And = two_numbers
takes op.Or = two_numbers
takes op.Xor = two_numbers
takes op.Shl = number_and_amount
takes op.Shr = number_and_amount
takes op.Lt = two_numbers
takes op.Gt = two_numbers
takes op.Le = two_numbers
takes op.Ge = two_numbers
takes op.Eq = two_alike
takes op.Ne = two_alike
takes op.Both = two_truths
takes op.Either = two_truths

-- the breach of an operation on operands of two kinds: at the first operand of a sort that it does not
-- take, or at the right one where the signs differ
abbrev pub operands_breaches : Takes → (left right : Place) → Kind → Kind → List Breach
operands_breaches two_numbers left right j k =
    if is_integer j then when (if are_alike j k then false else true) (mismatch right) else mismatch left
operands_breaches number_and_amount left right j k =
    if is_integer j then when (if is_unsigned k then false else true) (mismatch right) else mismatch left
operands_breaches two_alike left right j k = when (if are_alike j k then false else true) (mismatch right)
operands_breaches two_truths left right j k =
    if is_truth j then when (if is_truth k then false else true) (mismatch right) else mismatch left

-- the kind of an operation on operands of two kinds
abbrev pub applied_kind : Op → Kind → Kind → Kind
applied_kind op.Add j k = wider j k
applied_kind op.Sub j k = wider j k
applied_kind op.Mul j k = wider j k
applied_kind op.And j k = wider j k
applied_kind op.Or j k = wider j k
applied_kind op.Xor j k = wider j k
applied_kind op.Shl j k = j
applied_kind op.Shr j k = j
applied_kind op.Lt j k = kind.Bool
applied_kind op.Gt j k = kind.Bool
applied_kind op.Le j k = kind.Bool
applied_kind op.Ge j k = kind.Bool
applied_kind op.Eq j k = kind.Bool
applied_kind op.Ne j k = kind.Bool
applied_kind op.Both j k = kind.Bool
applied_kind op.Either j k = kind.Bool

-- a kind, where there is no breach
abbrev pub unless : List Breach → Kind → Option Kind
unless [] k = Some k
unless (b ∷ bs) k = None

-- an operation adds no breach, and has no kind, where an operand has none
abbrev pub applied_breaches : Op → (left right : Place) → Option Kind → Option Kind → List Breach
applied_breaches o left right (Some j) (Some k) = operands_breaches (takes o) left right j k
applied_breaches o left right _ _ = []

abbrev pub applied_found : Op → (left right : Place) → Option Kind → Option Kind → Option Kind
applied_found o left right (Some j) (Some k) = unless (operands_breaches (takes o) left right j k) (applied_kind o j k)
applied_found o left right _ _ = None

-- a name that is used as a value
abbrev pub value_kind : Option Fact → Option Kind
value_kind (Some (of_variable kind)) = kind
value_kind (Some (of_iterator kind)) = Some kind
value_kind _ = None

abbrev pub value_breaches : Option Fact → Place → List Breach
value_breaches (Some (of_memory kind dims)) place = mismatch place
value_breaches (Some (of_function parameters)) place = mismatch place
value_breaches _ place = []

-- a number of this kind
abbrev pub number_found : Kind → (negative : Bool) → ℕ → Option Kind
number_found k negative n = if is_value k (signed_number negative n) then Some k else None

-- a number without a kind is no value of the kind that it takes
abbrev pub number_breaches : Option Kind → Place → List Breach
number_breaches None place = width_lost place
number_breaches (Some k) place = []

-- an index, an offset or a row is of an integer kind
abbrev pub index_breaches : Option Kind → Place → List Breach
index_breaches None place = []
index_breaches (Some k) place = when (if is_integer k then false else true) (mismatch place)

-- whether each of these expressions has a kind, and an integer one
abbrev pub all_found : Terms → Bool
all_found no_terms = true
all_found (term_then (term place kind form) rest) = is_some kind && all_found rest

abbrev pub all_integer : Terms → Bool
all_integer no_terms = true
all_integer (term_then (term place None form) rest) = false
all_integer (term_then (term place (Some k) form) rest) = is_integer k && all_integer rest

abbrev pub count_of : Terms → ℕ
count_of no_terms = 0
count_of (term_then t rest) = suc (count_of rest)

-- The breach at the name of an access: it stands for no memory and no view; or, where every index has a
-- kind, their number is not that of the dimensions.
abbrev pub access_breaches : Option Fact → Place → Terms → List Breach
access_breaches (Some (of_memory kind dims)) place indices =
    when (all_found indices && (if count_of indices == dims then false else true)) (mismatch place)
access_breaches (Some (of_variable kind)) place indices = mismatch place
access_breaches (Some (of_iterator kind)) place indices = mismatch place
access_breaches (Some (of_function parameters)) place indices = mismatch place
access_breaches None place indices = []

abbrev pub access_found : Option Fact → Terms → Option Kind
access_found (Some (of_memory kind dims)) indices = if all_integer indices && (count_of indices == dims) then kind else None
access_found _ indices = None

-- a physical access; that of a view is no breach of these rules
abbrev pub bank_breaches : Option Fact → Place → List Breach
bank_breaches (Some (of_memory kind dims)) place = []
bank_breaches (Some (of_variable kind)) place = mismatch place
bank_breaches (Some (of_iterator kind)) place = mismatch place
bank_breaches (Some (of_function parameters)) place = mismatch place
bank_breaches None place = []

abbrev pub bank_found : Option Fact → (row : Option Kind) → Option Kind
bank_found (Some (of_memory kind dims)) (Some k) = if is_integer k then kind else None
bank_found _ _ = None

-- a cast
abbrev pub cast_breaches : Place → Option Kind → Kind → List Breach
cast_breaches place None to = []
cast_breaches place (Some k) to = when (is_truth to) (mismatch place)

abbrev pub cast_found : Option Kind → Kind → Option Kind
cast_found None to = None
cast_found (Some k) to = if is_truth to then None else Some to

-- the kind that was found of a form at this place, from its parts, which have their kinds
abbrev pub form_found : Facts → (want : Option Kind) → TermForm → Option Kind
form_found facts want (number negative n) = number_found (number_kind want) negative n
form_found facts want (truth_value value) = Some kind.Bool
form_found facts want (named r) = value_kind (fact_of facts r)
form_found facts want (accessed r indices) = access_found (fact_of facts r) indices
form_found facts want (in_bank r bank bank_place row) = bank_found (fact_of facts r) (found row)
form_found facts want (applied o left right) = applied_found o (place_of left) (place_of right) (found left) (found right)
form_found facts want (converted inner to) = cast_found (found inner) to

abbrev mutual
  -- an expression with its kinds; the numbers of a bare one take the kind that its place asks for
  pub typed_term : Facts → (want : Option Kind) → Term → Term
  typed_term facts want (term place kind form) = term place (form_found facts want (typed_form facts want form)) (typed_form facts want form)

  pub typed_form : Facts → (want : Option Kind) → TermForm → TermForm
  typed_form facts want (number negative n) = number negative n
  typed_form facts want (truth_value value) = truth_value value
  typed_form facts want (named r) = named r
  typed_form facts want (accessed r indices) = accessed r (typed_terms facts indices)
  typed_form facts want (in_bank r bank bank_place row) = in_bank r bank bank_place (typed_term facts None row)
  typed_form facts want (applied o left right) =
      applied o
      (typed_term facts (left_want o want (is_bare left) (is_bare right) (found (typed_term facts None right))) left)
      (typed_term facts (right_want o want (is_bare left) (is_bare right) (found (typed_term facts None left))) right)
  typed_form facts want (converted inner to) = converted (typed_term facts (for_numbers (Some to)) inner) to

  -- indices
  pub typed_terms : Facts → Terms → Terms
  typed_terms facts no_terms = no_terms
  typed_terms facts (term_then t rest) = term_then (typed_term facts None t) (typed_terms facts rest)

-- an expression, where there is one
abbrev pub typed_maybe : Facts → (want : Option Kind) → Option Term → Option Term
typed_maybe facts want t = option_map (typed_term facts (for_numbers want)) t

abbrev pub typed_offset : Facts → Suffixed → Suffixed
typed_offset facts s = record { factor = s.factor; offset = typed_term facts None s.offset }

abbrev pub typed_plan : Facts → ViewPlan → ViewPlan
typed_plan facts (shrinks by by_place) = shrinks by by_place
typed_plan facts (splits by by_place) = splits by by_place
typed_plan facts (suffixes by by_place) = suffixes (map (typed_offset facts) by) by_place
typed_plan facts (shifts by) = shifts (map (typed_term facts None) by)

-- arguments take the kinds of their parameters, those without a parameter none
abbrev pub typed_arguments : Facts → List Kind → List Term → List Term
typed_arguments facts ks [] = []
typed_arguments facts [] (t ∷ ts) = typed_term facts None t ∷ typed_arguments facts [] ts
typed_arguments facts (k ∷ ks) (t ∷ ts) = typed_term facts (for_numbers (Some k)) t ∷ typed_arguments facts ks ts

-- the kinds of the parameters of what a name stands for
abbrev pub parameters_of : Option Fact → List Kind
parameters_of (Some (of_function parameters)) = parameters
parameters_of _ = []

-- the kind of what is assigned to
abbrev pub target_kind : Option Fact → Option Kind
target_kind fact = value_kind fact

-- what is known of a variable: its kind as it is written, or that of its right side; no text has a `let`
-- with neither, whose variable is Bool
abbrev pub variable_fact : Option Kind → Option Term → Fact
variable_fact (Some k) value = of_variable (Some k)
variable_fact None None = of_variable (Some kind.Bool)
variable_fact None (Some value) = of_variable (found value)

-- an iterator is of `ubit<32>` where no kind is written
abbrev pub iterator_kind : Option Kind → Kind
iterator_kind None = kind.Unsigned 32
iterator_kind (Some k) = k

-- what is known of a view, by its parent: a split has two dimensions, others those of the parent
abbrev pub view_dims : ViewPlan → ℕ → ℕ
view_dims (splits by by_place) dims = 2
view_dims (shrinks by by_place) dims = dims
view_dims (suffixes by by_place) dims = dims
view_dims (shifts by) dims = dims

abbrev pub view_fact : Option Fact → ViewPlan → Fact
view_fact (Some (of_memory kind dims)) form = of_memory kind (view_dims form dims)
view_fact _ form = of_memory None (view_dims form 0)

abbrev mutual
  -- what is known after a typed command; entities are numbered in text order
  pub facts_after : Facts → Action → Facts
  facts_after facts (action id place form) = facts_after_form facts form

  pub facts_after_form : Facts → ActionForm → Facts
  facts_after_form facts (lets name declared value) = facts ++ variable_fact declared value ∷ []
  facts_after_form facts (lets_memory name shape shape_places value) = facts ++ of_memory (Some shape.kind) (length shape.dims) ∷ []
  facts_after_form facts (views name parent form) = facts ++ view_fact (fact_of facts parent) form ∷ []
  facts_after_form facts (assigns target value) = facts
  facts_after_form facts (stores target value) = facts
  facts_after_form facts (reduces target o value) = facts
  facts_after_form facts (calls function arguments) = facts
  facts_after_form facts (blocks body) = facts_after_groups facts body
  facts_after_form facts (decides test chosen other) = facts_after_other (facts_after facts chosen) other
  facts_after_form facts (repeats test body) = facts_after facts body
  facts_after_form facts (counts iterator declared low high factor body combine combine_place) =
      facts_after_other (facts_after (facts ++ of_iterator (iterator_kind declared) ∷ []) body) combine

  pub facts_after_other : Facts → MaybeAction → Facts
  facts_after_other facts no_action = facts
  facts_after_other facts (one_action a) = facts_after facts a

  pub facts_after_actions : Facts → Actions → Facts
  facts_after_actions facts no_actions = facts
  facts_after_actions facts (action_then a rest) = facts_after_actions (facts_after facts a) rest

  pub facts_after_groups : Facts → Groups → Facts
  facts_after_groups facts no_groups = facts
  facts_after_groups facts (group_then g rest) = facts_after_groups (facts_after_actions facts g) rest

abbrev mutual
  -- a command with the kinds of its expressions, after what is known before it
  pub typed_action : Facts → Action → Action
  typed_action facts (action id place form) = action id place (typed_action_form facts form)

  pub typed_action_form : Facts → ActionForm → ActionForm
  typed_action_form facts (lets name declared value) = lets name declared (typed_maybe facts declared value)
  typed_action_form facts (lets_memory name shape shape_places value) = lets_memory name shape shape_places (typed_maybe facts (Some shape.kind) value)
  typed_action_form facts (views name parent form) = views name parent (typed_plan facts form)
  typed_action_form facts (assigns target value) = assigns target (typed_term facts (for_numbers (target_kind (fact_of facts target))) value)
  typed_action_form facts (stores target value) =
      stores (typed_term facts None target) (typed_term facts (for_numbers (found (typed_term facts None target))) value)
  typed_action_form facts (reduces target o value) = reduces target o (typed_term facts (for_numbers (target_kind (fact_of facts target))) value)
  typed_action_form facts (calls function arguments) = calls function (typed_arguments facts (parameters_of (fact_of facts function)) arguments)
  typed_action_form facts (blocks body) = blocks (typed_groups facts body)
  typed_action_form facts (decides test chosen other) =
      decides (typed_term facts None test) (typed_action facts chosen) (typed_other (facts_after facts (typed_action facts chosen)) other)
  typed_action_form facts (repeats test body) = repeats (typed_term facts None test) (typed_action facts body)
  typed_action_form facts (counts iterator declared low high factor body combine combine_place) =
      counts iterator declared low high factor
      (typed_action (facts ++ of_iterator (iterator_kind declared) ∷ []) body)
      (typed_other (facts_after (facts ++ of_iterator (iterator_kind declared) ∷ []) (typed_action (facts ++ of_iterator (iterator_kind declared) ∷ []) body)) combine)
      combine_place

  pub typed_other : Facts → MaybeAction → MaybeAction
  typed_other facts no_action = no_action
  typed_other facts (one_action a) = one_action (typed_action facts a)

  pub typed_actions : Facts → Actions → Actions
  typed_actions facts no_actions = no_actions
  typed_actions facts (action_then a rest) = action_then (typed_action facts a) (typed_actions (facts_after facts (typed_action facts a)) rest)

  pub typed_groups : Facts → Groups → Groups
  typed_groups facts no_groups = no_groups
  typed_groups facts (group_then g rest) = group_then (typed_actions facts g) (typed_groups (facts_after_actions facts (typed_actions facts g)) rest)

-- memories from outside
abbrev pub declared_facts : List Declared → Facts
declared_facts ds = map (λ d. of_memory (Some d.shape.kind) (length d.shape.dims)) ds

abbrev pub function_fact : Defined → Fact
function_fact f = of_function (map (λ m. m.kind) f.parameters)

-- a parameter: a scalar, or a memory of a shape
abbrev pub parameter_fact : Kind → Option Shape → Fact
parameter_fact k None = of_variable (Some k)
parameter_fact k (Some shape) = of_memory (Some k) (length shape.dims)

abbrev pub formal_facts : List Formal → Facts
formal_facts fs = map (λ f. parameter_fact f.kind f.shape) fs

-- what is known where the first function begins
abbrev pub first_facts : Program → Facts
first_facts p = declared_facts p.decls ++ map function_fact p.functions

abbrev pub typed_function : Facts → Defined → Defined
typed_function facts f = record { place = f.place; name = f.name; parameters = f.parameters; body = typed_action (facts ++ formal_facts f.parameters) f.body }

-- what is known after a typed function
abbrev pub facts_after_function : Facts → Defined → Facts
facts_after_function facts f = facts_after (facts ++ formal_facts f.parameters) f.body

abbrev pub facts_after_functions : Facts → List Defined → Facts
facts_after_functions facts [] = facts
facts_after_functions facts (f ∷ fs) = facts_after_functions (facts_after_function facts f) fs

abbrev pub typed_functions : Facts → List Defined → List Defined
typed_functions facts [] = []
typed_functions facts (f ∷ fs) = typed_function facts f ∷ typed_functions (facts_after_function facts (typed_function facts f)) fs

-- what is known where the body of a typed program begins
abbrev pub body_facts : Program → Facts
body_facts p = facts_after_functions (first_facts p) p.functions

-- the program with the kinds of its expressions
abbrev pub typed : Program → Program
typed p = record {
  decls = p.decls;
  functions = typed_functions (first_facts p) p.functions;
  body = typed_action (facts_after_functions (first_facts p) (typed_functions (first_facts p) p.functions)) p.body;
  entities = p.entities;
}

-- every expression has the kind that it is found to have
abbrev pub HasKinds : Program → Type 0
HasKinds p = typed p ≡ p

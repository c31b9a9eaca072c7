-- Which sizes, banks, indices and bounds of a program break the rules on shapes: `BankDivides` (K8),
-- `UnrollDivides` (K9), `BankUnroll` (K10), `DynamicBank` (K11) and `ConstantRange` (K12). (The rules of
-- this profile on banks and ranges, after Nigam and others, PLDI 2020.) Accesses to a memory whose shape
-- breaks a rule add no breach. Those of views and of accesses through them stand in `ViewBreaches`; calls are not
-- built and have none.
use Rattle.std.specs.Prelude.{ℕ, ◌-◌, ◌%◌, ◌==◌, ◌&&◌, ◌||◌, not, nat_le, nat_lt, Bool, true, false, List, [], ◌∷◌, ◌++◌, Option, Some, None, if◌then◌else◌, ℤ, pos, neg_ℤ, ◌+ℤ◌, int_le, int_lt}
use Rattle.dh_base.specs.declared.places.Place.{Place}
use Rattle.dh_base.specs.declared.rules.Rule.TheVariants.{BankDivides, UnrollDivides, BankUnroll, DynamicBank, ConstantRange}
use Rattle.dh_value.specs.declared.kinds.Kind.{Kind}
use Rattle.dh_value.specs.declared.operators.Op.{Op}
use Rattle.dh_value.specs.declared.operators.Op.TheVariants as op
use Rattle.dh_tree.specs.declared.breaches.Breach.{Breach}
use Rattle.dh_tree.specs.declared.tables.Dim.{Dim}
use Rattle.dh_tree.specs.declared.tables.Shape.{Shape}
use Rattle.dh_tree.specs.declared.trees.programs.DimPlaces.{DimPlaces}
use Rattle.dh_tree.specs.declared.trees.programs.ShapePlaces.{ShapePlaces}
use Rattle.dh_tree.specs.Elements.{banks_of, rows_of}
use Rattle.dh_tree.specs.Kinds.{when, signed_number, is_value}
use Rattle.dh_tree.specs.LeastBreach.{breach}
use Rattle.dh_tree.specs.declared.trees.counters.Counter.{Counter}
use Rattle.dh_tree.specs.Counters.{counters_of, counter_in}
use Rattle.dh_tree.specs.Memories.{Memory, memory_in, memories_of}
use Rattle.dh_tree.specs.PlainTrees.{Term, term, TermForm, number, truth_value, named, accessed, in_bank, applied, converted, Terms, no_terms, term_then, Placed, Unrolled, Action, action, ActionForm, lets, lets_memory, views, assigns, stores, reduces, calls, blocks, decides, repeats, counts, MaybeAction, no_action, one_action, Actions, no_actions, action_then, Groups, no_groups, group_then, Declared, Program}

-- Shapes.

-- a number of banks divides a size; 0 divides none
abbrev pub divides : (banks size : ℕ) → Bool
divides banks size = not (banks == 0) && (size % banks == 0)

-- a dimension whose numbers stand at these places
abbrev pub dim_breaches : (size_place banks_place : Place) → Dim → List Breach
dim_breaches size_place banks_place d =
    when (d.size == 0) (breach ConstantRange size_place ∷ []) ++ when (not (divides d.banks d.size)) (breach BankDivides banks_place ∷ [])

-- dimensions, at the place of their type where they have none of their own, as in no text
abbrev pub dims_breaches : Place → List Dim → List DimPlaces → List Breach
dims_breaches at [] places = []
dims_breaches at (d ∷ ds) [] = dim_breaches at at d ++ dims_breaches at ds []
dims_breaches at (d ∷ ds) (p ∷ ps) = dim_breaches p.size_place p.banks_place d ++ dims_breaches at ds ps

-- the breaches of a shape: of its ports, then of its dimensions
abbrev pub shape_breaches : Shape → ShapePlaces → List Breach
shape_breaches s places = when (s.ports == 0) (breach ConstantRange places.ports_place ∷ []) ++ dims_breaches places.kind_place s.dims places.dims

abbrev pub dim_keeps : Dim → Bool
dim_keeps d = not (d.size == 0) && divides d.banks d.size

abbrev pub dims_keep : List Dim → Bool
dims_keep [] = true
dims_keep (d ∷ ds) = dim_keeps d && dims_keep ds

-- no rule is broken by a shape
abbrev pub shape_keeps : Shape → Bool
shape_keeps s = not (s.ports == 0) && dims_keep s.dims

-- Indices.

-- what an index is, its unroll factor left aside: a literal, an iterator with a constant, or another
pub data IndexKind : Type 0 where
  constant : (value : ℤ) → IndexKind
  iterator : (counter : Counter) → (offset : ℤ) → IndexKind
  dynamic : IndexKind

-- it is at least 0 and a value of this kind
abbrev pub fits_kind : Option Kind → ℤ → Bool
fits_kind None z = false
fits_kind (Some k) z = int_le (pos 0) z && is_value k z

-- every value of an iterator with a constant added is at least 0 and a value of the kind
abbrev pub all_fit : Option Kind → Counter → (offset : ℤ) → Bool
all_fit kind c offset = nat_le c.high c.low || (fits_kind kind (pos c.low +ℤ offset) && fits_kind kind (pos (c.high - 1) +ℤ offset))

-- an iterator with a constant; another where a value leaves the kind
abbrev pub counted : Option Kind → Option Counter → (offset : ℤ) → IndexKind
counted kind None offset = dynamic
counted kind (Some c) offset = if all_fit kind c offset then iterator c offset else dynamic

-- the sum or difference of a name and a literal, in the orders that are allowed
abbrev pub sum_kind : List Counter → Option Kind → Op → TermForm → TermForm → IndexKind
sum_kind cs kind op.Add (named r) (number negative n) = counted kind (counter_in cs r.entity) (signed_number negative n)
sum_kind cs kind op.Add (number negative n) (named r) = counted kind (counter_in cs r.entity) (signed_number negative n)
sum_kind cs kind op.Sub (named r) (number negative n) = counted kind (counter_in cs r.entity) (neg_ℤ (signed_number negative n))
sum_kind cs kind o left right = dynamic

abbrev pub form_of : Term → TermForm
form_of (term place kind form) = form

abbrev pub index_kind : List Counter → Option Kind → TermForm → IndexKind
index_kind cs kind (number negative n) = constant (signed_number negative n)
index_kind cs kind (truth_value value) = dynamic
index_kind cs kind (named r) = counted kind (counter_in cs r.entity) (pos 0)
index_kind cs kind (accessed r indices) = dynamic
index_kind cs kind (in_bank r bank bank_place row) = dynamic
index_kind cs kind (applied o left right) = sum_kind cs kind o (form_of left) (form_of right)
index_kind cs kind (converted inner to) = dynamic

-- a literal is no index of a dimension of this size
abbrev pub is_beyond : (size : ℕ) → ℤ → Bool
is_beyond size z = int_lt z (pos 0) || int_le (pos size) z

abbrev pub one_index_breaches : Dim → Place → IndexKind → List Breach
one_index_breaches d place (constant z) = when (is_beyond d.size z) (breach ConstantRange place ∷ [])
one_index_breaches d place (iterator c offset) = when (nat_lt 1 d.banks && not (c.factor % d.banks == 0)) (breach BankUnroll place ∷ [])
one_index_breaches d place dynamic = when (nat_lt 1 d.banks) (breach DynamicBank place ∷ [])

-- indices, each for its dimension
abbrev pub indices_breaches : List Counter → List Dim → Terms → List Breach
indices_breaches cs (d ∷ ds) (term_then (term place kind form) rest) = one_index_breaches d place (index_kind cs kind form) ++ indices_breaches cs ds rest
indices_breaches cs _ _ = []

-- a literal row of a bank
abbrev pub row_breaches : List Dim → Term → List Breach
row_breaches dims (term place kind (number negative n)) = when (is_beyond (rows_of dims) (signed_number negative n)) (breach ConstantRange place ∷ [])
row_breaches dims (term place kind (truth_value value)) = []
row_breaches dims (term place kind (named r)) = []
row_breaches dims (term place kind (accessed r indices)) = []
row_breaches dims (term place kind (in_bank r bank bank_place row)) = []
row_breaches dims (term place kind (applied o left right)) = []
row_breaches dims (term place kind (converted inner to)) = []

abbrev pub physical_bank_breaches : List Dim → (bank : ℕ) → Place → List Breach
physical_bank_breaches dims bank place = when (nat_le (banks_of dims) bank) (breach ConstantRange place ∷ [])

-- the dimensions of what a name stands for, where its shape breaks no rule
abbrev pub kept_dims : Option Memory → Option (List Dim)
kept_dims None = None
kept_dims (Some m) = if shape_keeps m.shape then Some m.shape.dims else None

abbrev pub access_index_breaches : List Counter → Option (List Dim) → Terms → List Breach
access_index_breaches cs None indices = []
access_index_breaches cs (Some dims) indices = indices_breaches cs dims indices

abbrev pub physical_breaches : Option (List Dim) → (bank : ℕ) → Place → Term → List Breach
physical_breaches None bank bank_place row = []
physical_breaches (Some dims) bank bank_place row = physical_bank_breaches dims bank bank_place ++ row_breaches dims row

-- the memories and loops of a program
pub record IndexContext : Type 0 where
  pub memories : List Memory
  pub counters : List Counter

abbrev pub index_context_of : Program → IndexContext
index_context_of p = record { memories = memories_of p; counters = counters_of p }

abbrev mutual
  -- the breaches in an expression
  pub term_index_breaches : IndexContext → Term → List Breach
  term_index_breaches known (term place kind form) = form_index_breaches known form

  pub form_index_breaches : IndexContext → TermForm → List Breach
  form_index_breaches known (number negative n) = []
  form_index_breaches known (truth_value value) = []
  form_index_breaches known (named r) = []
  form_index_breaches known (accessed r indices) =
      access_index_breaches known.counters (kept_dims (memory_in known.memories r.entity)) indices ++ terms_index_breaches known indices
  form_index_breaches known (in_bank r bank bank_place row) =
      physical_breaches (kept_dims (memory_in known.memories r.entity)) bank bank_place row ++ term_index_breaches known row
  form_index_breaches known (applied o left right) = term_index_breaches known left ++ term_index_breaches known right
  form_index_breaches known (converted inner to) = term_index_breaches known inner

  pub terms_index_breaches : IndexContext → Terms → List Breach
  terms_index_breaches known no_terms = []
  terms_index_breaches known (term_then t rest) = term_index_breaches known t ++ terms_index_breaches known rest

abbrev pub maybe_index_breaches : IndexContext → Option Term → List Breach
maybe_index_breaches known None = []
maybe_index_breaches known (Some t) = term_index_breaches known t

-- a factor that is 0 or does not divide the number of turns, and an upper bound below the lower
abbrev pub turns_breaches : (low high : Placed) → (factor : Unrolled) → List Breach
turns_breaches low high factor =
    when (nat_lt high.value low.value) (breach ConstantRange high.place ∷ [])
    ++ when (not (divides factor.value (high.value - low.value))) (breach UnrollDivides factor.place ∷ [])

abbrev mutual
  -- the breaches in a command
  pub action_index_breaches : IndexContext → Action → List Breach
  action_index_breaches known (action id place form) = action_form_index_breaches known form

  pub action_form_index_breaches : IndexContext → ActionForm → List Breach
  action_form_index_breaches known (lets name declared value) = maybe_index_breaches known value
  action_form_index_breaches known (lets_memory name shape shape_places value) = shape_breaches shape shape_places ++ maybe_index_breaches known value
  action_form_index_breaches known (assigns target value) = term_index_breaches known value
  action_form_index_breaches known (stores target value) = term_index_breaches known target ++ term_index_breaches known value
  action_form_index_breaches known (decides test chosen other) =
      term_index_breaches known test ++ (action_index_breaches known chosen ++ other_index_breaches known other)
  action_form_index_breaches known (repeats test body) = term_index_breaches known test ++ action_index_breaches known body
  action_form_index_breaches known (counts i declared low high factor body combine combine_place) =
      turns_breaches low high factor
      ++ (action_index_breaches known body ++ other_index_breaches known combine)
  action_form_index_breaches known (blocks body) = groups_index_breaches known body
  action_form_index_breaches known (reduces target o value) = term_index_breaches known value
  action_form_index_breaches known (views name parent form) = []
  action_form_index_breaches known (calls function arguments) = []

  pub other_index_breaches : IndexContext → MaybeAction → List Breach
  other_index_breaches known no_action = []
  other_index_breaches known (one_action a) = action_index_breaches known a

  pub actions_index_breaches : IndexContext → Actions → List Breach
  actions_index_breaches known no_actions = []
  actions_index_breaches known (action_then a rest) = action_index_breaches known a ++ actions_index_breaches known rest

  pub groups_index_breaches : IndexContext → Groups → List Breach
  groups_index_breaches known no_groups = []
  groups_index_breaches known (group_then part rest) = actions_index_breaches known part ++ groups_index_breaches known rest

abbrev pub decls_shape_breaches : List Declared → List Breach
decls_shape_breaches [] = []
decls_shape_breaches (d ∷ ds) = shape_breaches d.shape d.shape_places ++ decls_shape_breaches ds

-- the shapes, indices and bounds of a program that break a rule
abbrev pub index_breaches_of : Program → List Breach
index_breaches_of p = decls_shape_breaches p.decls ++ action_index_breaches (index_context_of p) p.body
